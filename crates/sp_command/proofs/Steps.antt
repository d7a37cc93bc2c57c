-- Words that lead from options to options, and words that are read one by one.
use Rattle.std.proofs.Common.{◌≡◌, ℕ, ◌<◌, Bool, true, false, List, [], ◌∷◌, ◌++◌, length, get_or, Option, Some, None, refl, sym, ap, ◌∙◌, subst, cond, arith, append_assoc, length-append}
use Rattle.std.specs.Prelude.{bytes_eq, codes, nat_lt}
use Rattle.std.specs.List.{position_or_len, before_first, after_first}
use Rattle.std.specs.Option.{option_and_then, option_map}
use Rattle.std.proofs.lemmas.Option.{none-some, same_Some, option_and_then_some}
use Rattle.std.proofs.lemmas.Bool.Decides.{Decides-eqb, Decides-ltb}
use Rattle.std.proofs.lemmas.List.Sums.{split_at_first, passes_at_first}
use Rattle.sp_command.specs.declared.options.Key.{Key}
use Rattle.sp_command.specs.declared.options.Key.TheVariants.{Journal, Max, Min, Seed, Count}
use Rattle.sp_command.specs.declared.options.Options.{Options}
use Rattle.sp_command.specs.declared.reader.Reader.{Reader}
use Rattle.sp_command.specs.Grammar.{Sets, Leads, none, apart, joined, audit, key_word}
use Rattle.sp_command.specs.Reading.{put_in, key_of, settled, waiting, with_audit, with_value, with_joined, is_equals, next_option, next_open, next_after, next, steps, finished}
use Rattle.sp_command.proofs.Settings.{mapped, put_in-Sets, Sets-put_in, key_of-word, is_text}
use Rattle.sp_command.proofs.Joining.{below, chosen, other}

-- an option's word leaves it waiting for its value
key-waits : (key : Key) (o : Options) → next_open o (key_word key) ≡ Some (waiting o key)
unfolding next_open next_option key_of
key-waits Journal o = refl
key-waits Max o = refl
key-waits Min o = refl
key-waits Seed o = refl
key-waits Count o = refl

longer : (name word : List ℕ) (n : ℕ) → length name ≡ n → n < length (name ++ codes "=" ++ word)
longer name word n is = omega (arith, length-append (name ++ codes "=") word, length-append name (codes "="))

-- an option and its value in one word
joined-value : (key : Key) (o : Options) (word : List ℕ) → next_open o (key_word key ++ codes "=" ++ word) ≡ with_value o key word
unfolding next_open next_option key_of
joined-value Journal o word = chosen _ _ _ (below 9 _ (longer (key_word Journal) word 9 refl))
joined-value Max o word = chosen _ _ _ (below 5 _ (longer (key_word Max) word 5 refl))
joined-value Min o word = chosen _ _ _ (below 5 _ (longer (key_word Min) word 5 refl))
joined-value Seed o word = chosen _ _ _ (below 6 _ (longer (key_word Seed) word 6 refl))
joined-value Count o word = chosen _ _ _ (below 7 _ (longer (key_word Count) word 7 refl))

audit-set : (o : Options) → o.audit ≡ false → next_open o (codes "--audit") ≡ Some (settled (record o { audit = true }))
unfolding next_open
audit-set o free = other _ _ _ free

with_value-Sets : (key : Key) (word : List ℕ) (o p : Options) → Sets key word o p → with_value o key word ≡ Some (settled p)
with_value-Sets key word o p s = ap (option_map settled) (Sets-put_in key word o p s)

abbrev ended : Reader → List (List ℕ) → Option Options
ended r words = option_and_then finished (steps r words)

abbrev ended_by : Option Reader → List (List ℕ) → Option Options
ended_by o words = option_and_then finished (option_and_then (λ s. steps s words) o)

pub Leads-ended : (o q : Options) (words : List (List ℕ)) → Leads o words q → ended (settled o) words ≡ Some q
Leads-ended o q _ (none _) = refl
Leads-ended o q _ (apart key word words _ p _ sets rest) =
    ap (λ s. ended_by s (word ∷ words)) (key-waits key o) ∙ ap (λ s. ended_by s words) (with_value-Sets key word o p sets) ∙ Leads-ended p q words rest
Leads-ended o q _ (joined key word words _ p _ sets rest) =
    ap (λ s. ended_by s words) (joined-value key o word ∙ with_value-Sets key word o p sets) ∙ Leads-ended p q words rest
Leads-ended o q _ (audit words _ _ free rest) =
    ap (λ s. ended_by s words) (audit-set o free) ∙ Leads-ended (record o { audit = true }) q words rest

-- the words lead on, where an option's word may stand before them
abbrev LeadsOn : Option Key → Options → List (List ℕ) → Options → Type 0
LeadsOn None o words q = Leads o words q
LeadsOn (Some key) o words q = Leads o (key_word key ∷ words) q

value-leads : (key : Key) (o q : Options) (word : List ℕ) (words : List (List ℕ)) (s : Reader) → with_value o key word ≡ Some s → LeadsOn s.pending s.options words q
    → (p : Options) × Sets key word o p × Leads p words q
value-leads key o q word words s e rest = mapped settled (put_in key word o) s e (λ p put same.
    (p, put_in-Sets key word o p put, subst (λ (t : Reader). LeadsOn t.pending t.options words q) (sym same) rest))

audit-leads : (o q : Options) (words : List (List ℕ)) (s : Reader) → with_audit o ≡ Some s → LeadsOn s.pending s.options words q → Leads o (codes "--audit" ∷ words) q
audit-leads o q words s e rest = go o.audit refl e where
  go : (a : Bool) → o.audit ≡ a → cond a None (Some (settled (record o { audit = true }))) ≡ Some s → Leads o (codes "--audit" ∷ words) q
  go true is e = absurd (none-some s e)
  go false is e =
      let same : settled (record o { audit = true }) ≡ s = same_Some _ s e in
      audit words o q is (subst (λ (t : Reader). LeadsOn t.pending t.options words q) (sym same) rest)

key-leads : (o q : Options) (word : List ℕ) (words : List (List ℕ)) (s : Reader) → option_map (waiting o) (key_of word) ≡ Some s → LeadsOn s.pending s.options words q
    → Leads o (word ∷ words) q
key-leads o q word words s e rest = mapped (waiting o) (key_of word) s e (λ key found same.
    let after : Leads o (key_word key ∷ words) q = subst (λ (t : Reader). LeadsOn t.pending t.options words q) (sym same) rest in
    subst (λ (w : List ℕ). Leads o (w ∷ words) q) (sym (key_of-word word key found)) after)

-- a word is what stands before its first `=`, that, and what stands after it
cut : (word : List ℕ) → position_or_len is_equals word < length word → word ≡ before_first is_equals word ++ codes "=" ++ after_first is_equals word
cut word within =
    let sign : get_or word (position_or_len is_equals word) 0 ≡ 61 = (Decides-eqb _ 61).0 (passes_at_first is_equals word 0 within) in
    split_at_first is_equals word 0 within ∙ ap (λ x. before_first is_equals word ++ (x ∷ after_first is_equals word)) sign
    ∙ sym (append_assoc (before_first is_equals word) (codes "=") (after_first is_equals word))

joined-leads : (o q : Options) (word : List ℕ) (words : List (List ℕ)) (s : Reader) → position_or_len is_equals word < length word
    → with_joined o (before_first is_equals word) (after_first is_equals word) ≡ Some s → LeadsOn s.pending s.options words q → Leads o (word ∷ words) q
joined-leads o q word words s within e rest =
    let value = after_first is_equals word in
    option_and_then_some (λ key. with_value o key value) (key_of (before_first is_equals word)) s e (λ key found set.
    let v = value-leads key o q value words s set rest in
    let text : word ≡ key_word key ++ codes "=" ++ value = cut word within ∙ ap (λ name. name ++ codes "=" ++ value) (key_of-word _ key found) in
    subst (λ (w : List ℕ). Leads o (w ∷ words) q) (sym text) (joined key value words o v.0 q v.1 v.2))

option-leads : (o q : Options) (word : List ℕ) (words : List (List ℕ)) (s : Reader) → next_option o word ≡ Some s → LeadsOn s.pending s.options words q → Leads o (word ∷ words) q
unfolding next_option
option-leads o q word words s e rest = go (nat_lt (position_or_len is_equals word) (length word)) refl e where
  go : (b : Bool) → nat_lt (position_or_len is_equals word) (length word) ≡ b
      → cond b (with_joined o (before_first is_equals word) (after_first is_equals word)) (option_map (waiting o) (key_of word)) ≡ Some s → Leads o (word ∷ words) q
  go true is e = joined-leads o q word words s ((Decides-ltb _ _).0 is) e rest
  go false is e = key-leads o q word words s e rest

open-leads : (o q : Options) (word : List ℕ) (words : List (List ℕ)) (s : Reader) → next_open o word ≡ Some s → LeadsOn s.pending s.options words q → Leads o (word ∷ words) q
unfolding next_open
open-leads o q word words s e rest = go (bytes_eq word (codes "--audit")) refl e where
  go : (b : Bool) → bytes_eq word (codes "--audit") ≡ b → cond b (with_audit o) (next_option o word) ≡ Some s → Leads o (word ∷ words) q
  go true is e = subst (λ (w : List ℕ). Leads o (w ∷ words) q) (sym (is_text word (codes "--audit") is)) (audit-leads o q words s e rest)
  go false is e = option-leads o q word words s e rest

step-leads : (pending : Option Key) (o q : Options) (word : List ℕ) (words : List (List ℕ)) (s : Reader) → next_after pending o word ≡ Some s
    → LeadsOn s.pending s.options words q → LeadsOn pending o (word ∷ words) q
step-leads None o q word words s e rest = open-leads o q word words s e rest
step-leads (Some key) o q word words s e rest = let v = value-leads key o q word words s e rest in apart key word words o v.0 q v.1 v.2

pub ended-leads : (r : Reader) (q : Options) (words : List (List ℕ)) → ended r words ≡ Some q → LeadsOn r.pending r.options words q
ended-leads r q [] e = at_end r.pending r.options e where
  at_end : (pending : Option Key) (o : Options) → finished (record { options = o; pending = pending }) ≡ Some q → LeadsOn pending o [] q
  at_end None o e = subst (λ (p : Options). Leads o [] p) (same_Some o q e) (none o)
  at_end (Some key) o e = absurd (none-some q e)
ended-leads r q (word ∷ words) e = go (λ s. ended-leads s q words) (next r word) refl e where
  go : ((s : Reader) → ended s words ≡ Some q → LeadsOn s.pending s.options words q) → (n : Option Reader) → next r word ≡ n → ended_by n words ≡ Some q
      → LeadsOn r.pending r.options (word ∷ words) q
  go later None is e = absurd (none-some q e)
  go later (Some s) is e = step-leads r.pending r.options q word words s is (later s e)
