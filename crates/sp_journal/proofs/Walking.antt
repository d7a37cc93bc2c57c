-- What the gate behind some entries leads to.
use Rattle.std.proofs.Common.{◌≡◌, ◌≢◌, ◌+◌, ◌*◌, ◌^◌, ◌<◌, ◌≤◌, ℕ, add-one, List, [], ◌∷◌, ◌++◌, length, take, drop, get_or, refl, sym, ◌∙◌, ap, subst, arith, append_assoc, length-append, length-drop}
use Rattle.std.proofs.lemmas.List.{take_at, drop_at, drop_more, drop-drop}
use Rattle.std.specs.List.{flat_map}
use Rattle.byteorder.specs.Endian.{big_number}
use Rattle.byteorder.specs.Numbers.{big_number-reads_back}
use Rattle.sp_rect.specs.declared.record.Record.{Record}
use Rattle.sp_journal.specs.declared.chain.Chain.{Chain}
use Rattle.sp_journal.specs.declared.types.Recovered.{Recovered}
use Rattle.sp_journal.specs.Chaining.{Reached, Ended, Broken, found_in}
use Rattle.sp_journal.specs.Format.{u32_bytes, header_bytes, body_bytes, entry_bytes, put_bytes, checkpoint_bytes, IsPut}
use Rattle.sp_journal.specs.Looking.{OnlyReads}
use Rattle.sp_journal.specs.Recovery.{Base, Enters, batch, checkpoint, more, head}
use Rattle.sp_journal.proofs.Bounds.{length-put}
use Rattle.sp_journal.proofs.Chunks.{length-u32}
use Rattle.sp_journal.proofs.Crashes.{length-head}
use Rattle.sp_journal.proofs.Making.{chained}

-- calls that only read, one after the other
pub both_read : (a b c : ℕ) (r s t : List ℕ) (first second third : ℕ → List ℕ → Type 0) → OnlyReads a b r s first second → OnlyReads b c s t second third → OnlyReads a c r t first third
both_read a b c r s t first second third one two = record {
  bytes = two.bytes ∙ one.bytes;
  stop = chained a b c first second third (first a) one.stop (record {
    later = two.stop.later;
    each = λ k file low high left. (one.same file).0 (two.stop.each k file low high left);
    past = two.stop.past;
  });
  same = λ file. (λ x. (one.same file).0 ((two.same file).0 x), λ x. (two.same file).1 ((one.same file).1 x));
}

-- the gate that comes next, and what stands behind it
pub gate_at : (file : List ℕ) (at : ℕ) → at < length file → (gate : ℕ) × (drop at file ≡ gate ∷ drop (at + 1) file)
gate_at file at lt = (get_or file at 0, drop_more file at 0 lt)

-- a closed gate ends the entries
pub ends_here : (file : List ℕ) (chain : Chain) (base : Base) (gate : ℕ) → Reached file chain base → gate ≢ 1 → drop chain.at file ≡ gate ∷ drop (chain.at + 1) file → Ended file chain base
ends_here file chain base gate reached shut here = record {
  is = reached.is;
  generation = reached.generation;
  at = reached.at;
  found = reached.found;
  gate = gate;
  tail = drop (chain.at + 1) file;
  shut = shut;
  stands = reached.stands ∙ ap (λ (l : List ℕ). head base ++ l) here;
}

-- the size of the body that bytes begin with
pub same_size : (payload next rest after : List ℕ) (size : ℕ) → length payload < 2 ^ 32 → size < 2 ^ 32 → rest ≡ u32_bytes size ++ after → rest ≡ body_bytes payload ++ next → length payload ≡ size
unfolding u32_bytes body_bytes
same_size payload next rest after size small few is body =
    sym (big_number-reads_back 4 (length payload) (payload ++ next) small) ∙ ap (λ (l : List ℕ). big_number 4 l) (sym (append_assoc (u32_bytes (length payload)) payload next) ∙ sym body ∙ is) ∙ big_number-reads_back 4 size after few

pub body_parts : (payload next : List ℕ) → body_bytes payload ++ next ≡ u32_bytes (length payload) ++ (payload ++ next)
unfolding body_bytes
body_parts payload next = append_assoc (u32_bytes (length payload)) payload next

length-body : (payload : List ℕ) → length (body_bytes payload) ≡ 4 + length payload
unfolding body_bytes
length-body payload = omega (arith, length-append (u32_bytes (length payload)) payload, length-u32 (length payload))

length-puts : (rs : List Record) → ((k : ℕ) (d : Record) → k < length rs → IsPut (get_or rs k d)) → length (flat_map put_bytes rs) ≤ 90 * length rs
length-puts [] each = omega arith
length-puts (r ∷ rs) each =
    omega (arith, length-append (put_bytes r) (flat_map put_bytes rs), length-put r (each 0 r (omega arith)), length-puts rs (λ k d lt. moved k d lt))
  where
    moved : (k : ℕ) (d : Record) → k < length rs → IsPut (get_or rs k d)
    moved k d lt = let at : IsPut (get_or (r ∷ rs) (k + 1) d) = each (k + 1) d (omega arith) in let same : get_or (r ∷ rs) (k + 1) d ≡ get_or rs k d = ap (λ (n : ℕ). get_or (r ∷ rs) n d) (add-one k) in subst IsPut same at

-- the payload of an entry is short
pub short_payload : (generation : ℕ) (front payload : List ℕ) (found after : Recovered) → Enters generation front found payload after → length payload < 2 ^ 32
unfolding checkpoint_bytes
short_payload generation front payload found after (batch commits records kind is made) = is.size
short_payload generation front payload found after (checkpoint records low none is) =
    let count = is.count in
    omega (arith, length-append (u32_bytes 0 ++ u32_bytes (length records)) (flat_map put_bytes records), length-append (u32_bytes 0) (u32_bytes (length records)), length-u32 0, length-u32 (length records), length-puts records is.each)

-- an open gate whose entry is said to be longer than the file
pub too_long : (file : List ℕ) (chain : Chain) (base : Base) (size : ℕ) → Reached file chain base → chain.at < length file → size < 2 ^ 32 → drop chain.at file ≡ 1 ∷ drop (chain.at + 1) file
    → (4 ≤ length (drop (chain.at + 1) file) → drop (chain.at + 1) file ≡ u32_bytes size ++ drop 4 (drop (chain.at + 1) file)) → length file ≤ chain.at + 5 + size → Broken file chain base
too_long file chain base size reached inside few here sized long =
    let rest : List ℕ = drop (chain.at + 1) file in
    record {
      is = reached.is;
      at = reached.at;
      rest = rest;
      none = λ entry.
          let short = short_payload base.generation base.front entry.payload base.found entry.after entry.enters in
          let parts : length rest ≡ 4 + length entry.payload + length entry.next =
          ap length (entry.is ∙ body_parts entry.payload entry.next) ∙ omega (arith, length-append (u32_bytes (length entry.payload)) (entry.payload ++ entry.next), length-append entry.payload entry.next, length-u32 (length entry.payload)) in
          let same : length entry.payload ≡ size = same_size entry.payload entry.next rest (drop 4 rest) size short few (sized (omega (arith, parts))) entry.is in
          let some = entry.gate in
          omega (arith, length-drop (chain.at + 1) file, parts, same, some);
      stands = reached.stands ∙ ap (λ (l : List ℕ). head base ++ l) here;
    }

-- the body behind an open gate
body_here : (file payload : List ℕ) (at size : ℕ) → drop (at + 1) file ≡ u32_bytes size ++ drop 4 (drop (at + 1) file) → length payload ≡ size → drop (at + 5) file ≡ payload ++ drop (at + 5 + size) file
    → drop (at + 1) file ≡ body_bytes payload ++ drop (at + 5 + size) file
body_here file payload at size sized long behind =
    let same : drop 4 (drop (at + 1) file) ≡ drop (at + 5) file = drop-drop 4 (at + 1) file ∙ ap (λ (n : ℕ). drop n file) (omega arith) in
    sized ∙ ap (λ (l : List ℕ). u32_bytes size ++ l) (same ∙ behind) ∙ ap (λ (n : ℕ). u32_bytes n ++ (payload ++ drop (at + 5 + size) file)) (sym long) ∙ sym (body_parts payload (drop (at + 5 + size) file))

-- an open gate whose payload is no entry
pub no_entry : (file payload : List ℕ) (chain after_chain : Chain) (base : Base) (size : ℕ) → Reached file chain base → chain.at + 5 + size < length file → size < 2 ^ 32 → drop chain.at file ≡ 1 ∷ drop (chain.at + 1) file
    → drop (chain.at + 1) file ≡ u32_bytes size ++ drop 4 (drop (chain.at + 1) file) → length payload ≡ size → drop (chain.at + 5) file ≡ payload ++ drop (chain.at + 5 + size) file
    → ((after : Recovered) → Enters chain.generation base.front (found_in chain) payload after → ⊥) → after_chain.at ≡ chain.at → Broken file after_chain base
no_entry file payload chain after_chain base size reached inside few here sized long behind none stays =
    let rest : List ℕ = drop (chain.at + 1) file in
    record {
      is = reached.is;
      at = stays ∙ reached.at;
      rest = rest;
      none = λ entry.
          let short = short_payload base.generation base.front entry.payload base.found entry.after entry.enters in
          let same : length entry.payload ≡ size = same_size entry.payload entry.next rest (drop 4 rest) size short few sized entry.is in
          let body : body_bytes payload ++ drop (chain.at + 5 + size) file ≡ body_bytes entry.payload ++ entry.next = sym (body_here file payload chain.at size sized long behind) ∙ entry.is in
          let is : payload ≡ entry.payload = same_payload payload (drop (chain.at + 5 + size) file) entry.payload entry.next (long ∙ sym same) body in
          none entry.after (subst (λ (p : List ℕ). Enters chain.generation base.front (found_in chain) p entry.after) (sym is)
          (subst (λ (f : Recovered). Enters chain.generation base.front f entry.payload entry.after) reached.found (subst (λ (g : ℕ). Enters g base.front base.found entry.payload entry.after) reached.generation entry.enters)));
      stands = reached.stands ∙ ap (λ (l : List ℕ). head base ++ l) here;
    }
  where
    same_payload : (p n q m : List ℕ) → length p ≡ length q → body_bytes p ++ n ≡ body_bytes q ++ m → p ≡ q
    same_payload p n q m same body =
        let parts : u32_bytes (length p) ++ (p ++ n) ≡ u32_bytes (length q) ++ (q ++ m) = sym (body_parts p n) ∙ body ∙ body_parts q m in
        let behind : p ++ n ≡ q ++ m = sym (drop_at (u32_bytes (length p)) (p ++ n) 4 (length-u32 (length p))) ∙ ap (λ (l : List ℕ). drop 4 l) parts ∙ drop_at (u32_bytes (length q)) (q ++ m) 4 (length-u32 (length q)) in
        sym (take_at p n (length p) refl) ∙ ap (λ (l : List ℕ). take (length p) l) behind ∙ take_at q m (length p) (sym same)

-- the base with one entry more
abbrev pub with_payload : Base → List ℕ → Recovered → Base
with_payload base payload after = record { version = base.version; generation = base.generation; front = base.front ++ entry_bytes payload; found = after }

-- an open gate with an entry behind it
pub enters_here : (file payload : List ℕ) (chain later : Chain) (base : Base) (size : ℕ) → Reached file chain base → chain.at + 5 + size < length file → drop chain.at file ≡ 1 ∷ drop (chain.at + 1) file
    → drop (chain.at + 1) file ≡ u32_bytes size ++ drop 4 (drop (chain.at + 1) file) → length payload ≡ size → drop (chain.at + 5) file ≡ payload ++ drop (chain.at + 5 + size) file
    → Enters chain.generation base.front (found_in chain) payload (found_in later) → later.at ≡ chain.at + 5 + length payload → later.generation ≡ chain.generation
    → Reached file later (with_payload base payload (found_in later))
enters_here file payload chain later base size reached inside here sized long behind enters place generation =
    let enters' : Enters base.generation base.front base.found payload (found_in later) =
    subst (λ (f : Recovered). Enters base.generation base.front f payload (found_in later)) (sym reached.found) (subst (λ (g : ℕ). Enters g base.front (found_in chain) payload (found_in later)) (sym reached.generation) enters) in
    let body = body_here file payload chain.at size sized long behind in
    let next : chain.at + 5 + size ≡ later.at = omega (arith, place, long) in
    let header : List ℕ = header_bytes base.version base.generation in
    let whole : head base ++ 1 ∷ (body_bytes payload ++ drop later.at file) ≡ head (with_payload base payload (found_in later)) ++ drop later.at file = simp append_assoc in
    record {
      is = record { header = reached.is.header; leads = more base.front payload base.found (found_in later) reached.is.leads enters' };
      generation = reached.generation ∙ sym generation;
      at = length_next;
      found = refl;
      stands = reached.stands ∙ ap (λ (l : List ℕ). head base ++ l) (here ∙ ap (λ (l : List ℕ). 1 ∷ l) (body ∙ ap (λ (n : ℕ). body_bytes payload ++ drop n file) next)) ∙ whole;
    }
  where
    length_next : later.at ≡ length (head (with_payload base payload (found_in later)))
    length_next = omega (arith, place, reached.at, length-head base, length-head (with_payload base payload (found_in later)), length-append base.front (1 ∷ body_bytes payload), length-body payload)
