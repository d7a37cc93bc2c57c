-- What payloads of entries do to the records.
use Rattle.std.proofs.Common.{◌≡◌, ◌+◌, ◌<◌, ◌≤◌, ℕ, add-one, Bool, true, false, if◌then◌else◌, List, [], ◌∷◌, ◌++◌, length, take, drop, get_or, map, Some, None, refl, sym, ◌∙◌, ap, subst, arith, append_assoc, length-append, take-append-drop}
use Rattle.std.proofs.lemmas.List.{take_more, take_all, append-nil}
use Rattle.std.proofs.lemmas.Bool.{ne_eqb, lt-leb, lt-ltb}
use Rattle.std.specs.List.{flat_map}
use Rattle.sp_rect.specs.Store.{Id, within, with_record, IsOrderedFrom}
use Rattle.sp_rect.specs.declared.record.Record.{Record}
use Rattle.sp_plain.specs.declared.change.Change.{Change}
use Rattle.sp_plain.specs.declared.change.Change.TheVariants.{Put}
use Rattle.sp_plain.specs.Taking.{taken, can_change, left_by, most_records}
use Rattle.sp_journal.specs.declared.types.Recovered.{Recovered}
use Rattle.sp_journal.specs.Format.{u32_bytes, change_bytes, commit_bytes, batch_bytes, checkpoint_bytes, IsBatch, IsCheckpoint}
use Rattle.sp_journal.specs.Recovery.{all_changes, Enters, batch, checkpoint}
use Rattle.sp_journal.proofs.Chunks.{length-u32}
use Rattle.sp_journal.proofs.Turning.{all_append}

-- changes behind those that can be made
pub then_taken : (xs ys : List Change) (before mid : List Record) → taken xs before ≡ Some mid → taken (xs ++ ys) before ≡ taken ys mid
then_taken [] ys before mid is = let same : before ≡ mid = cc in ap (λ r. taken ys r) same
then_taken (x ∷ xs) ys before mid is = by_test (can_change x before) refl (then_taken xs ys (left_by x before) mid)
  where
    by_test : (b : Bool) → can_change x before ≡ b → (taken xs (left_by x before) ≡ Some mid → taken (xs ++ ys) (left_by x before) ≡ taken ys mid) → taken ((x ∷ xs) ++ ys) before ≡ taken ys mid
    by_test true can more = rw can (more (rw can at is))
    by_test false cannot more = let no_way : None ≡ Some mid = rw cannot at is in cc

-- and those that can't be made stop all behind them
pub none_taken : (xs ys : List Change) (before : List Record) → taken xs before ≡ None → taken (xs ++ ys) before ≡ None
none_taken [] ys before is = let no_way : Some before ≡ None = is in cc
none_taken (x ∷ xs) ys before is = by_test (can_change x before) refl (none_taken xs ys (left_by x before))
  where
    by_test : (b : Bool) → can_change x before ≡ b → (taken xs (left_by x before) ≡ None → taken (xs ++ ys) (left_by x before) ≡ None) → taken ((x ∷ xs) ++ ys) before ≡ None
    by_test true can more = rw can (more (rw can at is))
    by_test false cannot more = rw cannot refl

all_one : (c : List Change) → all_changes (c ∷ []) ≡ c
all_one c = append-nil c

all_next : (commits : List (List Change)) (i : ℕ) (c : List Change) → i < length commits → c ≡ get_or commits i c → all_changes (take (i + 1) commits) ≡ all_changes (take i commits) ++ c
all_next commits i c lt at = ap all_changes (take_more commits i c lt ∙ ap (λ d. take i commits ++ d ∷ []) (sym at)) ∙ all_append (take i commits) (c ∷ []) ∙ ap (λ (l : List Change). all_changes (take i commits) ++ l) (all_one c)

-- one commit more was made
pub commit_made : (commits : List (List Change)) (i : ℕ) (c : List Change) (first before after : List Record) → i < length commits → c ≡ get_or commits i c
    → taken (all_changes (take i commits)) first ≡ Some before → taken c before ≡ Some after → taken (all_changes (take (i + 1) commits)) first ≡ Some after
commit_made commits i c first before after lt at made more = ap (λ l. taken l first) (all_next commits i c lt at) ∙ then_taken (all_changes (take i commits)) c first before made ∙ more

all_rest : (commits : List (List Change)) (i : ℕ) → all_changes commits ≡ all_changes (take i commits) ++ all_changes (drop i commits)
all_rest commits i = ap all_changes (sym (take-append-drop i commits)) ∙ all_append (take i commits) (drop i commits)

-- a commit can't be made
pub commit_refused : (commits : List (List Change)) (i : ℕ) (c : List Change) (first before : List Record) → i < length commits → c ≡ get_or commits i c
    → taken (all_changes (take i commits)) first ≡ Some before → taken c before ≡ None → taken (all_changes commits) first ≡ None
commit_refused commits i c first before lt at made none =
    let front : taken (all_changes (take (i + 1) commits)) first ≡ None = ap (λ l. taken l first) (all_next commits i c lt at) ∙ then_taken (all_changes (take i commits)) c first before made ∙ none in
    ap (λ l. taken l first) (all_rest commits (i + 1)) ∙ none_taken (all_changes (take (i + 1) commits)) (all_changes (drop (i + 1) commits)) first front

-- all commits were made
pub commits_made : (commits shown : List (List Change)) (n : ℕ) (first after : List Record) → shown ≡ commits → length shown ≤ n → taken (all_changes (take n shown)) first ≡ Some after → taken (all_changes commits) first ≡ Some after
commits_made commits shown n first after show past made = ap (λ l. taken (all_changes l) first) (sym show ∙ sym (take_all n shown past)) ∙ made

pub commits_refused : (commits shown : List (List Change)) (i : ℕ) (c : List Change) (first before : List Record) → shown ≡ commits → i < length shown → c ≡ get_or shown i c
    → taken (all_changes (take i shown)) first ≡ Some before → taken c before ≡ None → taken (all_changes commits) first ≡ None
commits_refused commits shown i c first before show lt at made none = ap (λ l. taken (all_changes l) first) (sym show) ∙ commit_refused shown i c first before lt at made none

pub was_taken : (changes : List Change) (before after : List Record) (made : Bool) → made ≡ true → taken changes before ≡ (if made then Some after else None) → taken changes before ≡ Some after
was_taken changes before after made did is = is ∙ rw did refl

pub was_refused : (changes : List Change) (before after : List Record) (made : Bool) → made ≡ false → taken changes before ≡ (if made then Some after else None) → taken changes before ≡ None
was_refused changes before after made not_so is = is ∙ rw not_so refl

-- the ids are below that
abbrev Below : ℕ → List Record → Type 0
Below id [] = Unit {0}
Below id (x ∷ xs) = (x.id < id) × Below id xs

below_more : (low id : ℕ) (xs : List Record) → low ≤ id → Below low xs → Below id xs
below_more low id [] le below = tt
below_more low id (x ∷ xs) le below = let lt : x.id < low = below.0 in (omega arith, below_more low id xs le below.1)

below_push : (id : ℕ) (xs : List Record) (x : Record) → Below id xs → x.id < id → Below id (xs ++ x ∷ [])
below_push id [] x below lt = (lt, tt)
below_push id (y ∷ xs) x below lt = (below.0, below_push id xs x below.1 lt)

none_within : (id : ℕ) (xs : List Record) → Below id xs → within (Id id) xs ≡ []
none_within id [] below = refl
none_within id (x ∷ xs) below = let lt : x.id < id = below.0 in rw (ne_eqb x.id id (λ e. omega arith)) (none_within id xs below.1)

put_last : (r : Record) (xs : List Record) → Below r.id xs → with_record r xs ≡ xs ++ r ∷ []
put_last r [] below = refl
put_last r (x ∷ xs) below = rw (lt-leb r.id x.id below.0) (ap (λ l. x ∷ l) (put_last r xs below.1))

can_put : (r : Record) (xs : List Record) → Below r.id xs → length xs < most_records → can_change (Put r) xs ≡ true
can_put r xs below few = rw (none_within r.id xs below) (lt-ltb (length xs) most_records few)

-- records by ascending id are put one after the other
puts_from : (low : ℕ) (xs ys : List Record) → Below low xs → IsOrderedFrom low ys → length xs + length ys ≤ most_records → taken (map Put ys) xs ≡ Some (xs ++ ys)
puts_from low xs [] below ordered few = ap Some (sym (append-nil xs))
puts_from low xs (y ∷ ys) below ordered few =
    let le : low ≤ y.id = ordered.0 in
    let here : Below y.id xs = below_more low y.id xs le below in
    let can : can_change (Put y) xs ≡ true = can_put y xs here (omega arith) in
    let more : taken (map Put ys) (xs ++ y ∷ []) ≡ Some ((xs ++ y ∷ []) ++ ys) =
    puts_from (y.id + 1) (xs ++ y ∷ []) ys (below_push (y.id + 1) xs y (below_more y.id (y.id + 1) xs (omega arith) here) (omega arith)) ordered.1 (omega (arith, length-append xs (y ∷ []))) in
    rw can (ap (λ l. taken (map Put ys) l) (put_last y xs here) ∙ more ∙ ap Some (append_assoc xs (y ∷ []) ys))

ordered_from : (low : ℕ) (rs : List Record) → ((d : Record) → 1 ≤ length rs → low ≤ (get_or rs 0 d).id) → ((k : ℕ) (d : Record) → k + 1 < length rs → (get_or rs k d).id < (get_or rs (k + 1) d).id) → IsOrderedFrom low rs
ordered_from low [] first ascending = tt
ordered_from low (r ∷ rs) first ascending =
    (first r (omega arith), ordered_from (r.id + 1) rs (λ d some. after_head d some) (λ k d lt. moved k d lt))
  where
    after_head : (d : Record) → 1 ≤ length rs → r.id + 1 ≤ (get_or rs 0 d).id
    after_head d some =
        let lt : r.id < (get_or (r ∷ rs) (0 + 1) d).id = ascending 0 d (omega arith) in
        let next : get_or (r ∷ rs) (0 + 1) d ≡ get_or rs 0 d = ap (λ (n : ℕ). get_or (r ∷ rs) n d) (add-one 0) in
        let up : r.id < (get_or rs 0 d).id = rw next at lt in
        omega arith

    moved : (k : ℕ) (d : Record) → k + 1 < length rs → (get_or rs k d).id < (get_or rs (k + 1) d).id
    moved k d lt =
        let up : (get_or (r ∷ rs) (k + 1) d).id < (get_or (r ∷ rs) (k + 1 + 1) d).id = ascending (k + 1) d (omega arith) in
        let a : get_or (r ∷ rs) (k + 1) d ≡ get_or rs k d = ap (λ (n : ℕ). get_or (r ∷ rs) n d) (add-one k) in
        let b : get_or (r ∷ rs) (k + 1 + 1) d ≡ get_or rs (k + 1) d = ap (λ (n : ℕ). get_or (r ∷ rs) n d) (add-one (k + 1)) in
        rw (a, b) at up

-- the records of a checkpoint are put into an empty store
pub checkpoint_puts : (rs : List Record) → IsCheckpoint rs → taken (map Put rs) [] ≡ Some rs
checkpoint_puts rs is = let count = is.count in puts_from 0 [] rs tt (ordered_from 0 rs (λ d some. omega arith) is.ascending) (omega arith)

-- a batch that is read and made is an entry
pub enters_batch : (generation : ℕ) (front payload : List ℕ) (found : Recovered) (commits : List (List Change)) (before after : List Record) → found.records ≡ before → (2 ≤ generation → 1 ≤ length front)
    → IsBatch commits → payload ≡ batch_bytes commits → taken (all_changes commits) before ≡ Some after → Enters generation front found payload (record { records = after; batches = found.batches + 1; commits = found.commits + length commits })
enters_batch generation front payload found commits before after same kind is bytes made =
    subst (λ (p : List ℕ). Enters generation front found p (record { records = after; batches = found.batches + 1; commits = found.commits + length commits })) (sym bytes)
    (subst (λ (n : ℕ). Enters generation front found (batch_bytes commits) (record { records = after; batches = n; commits = found.commits + length commits })) (sym (add-one found.batches))
    (batch commits after kind is (ap (λ r. taken (all_changes commits) r) same ∙ made)))

-- a batch that is none, or that can't be made, is no entry
pub no_batch : (generation : ℕ) (front payload : List ℕ) (found after : Recovered) → (2 ≤ generation → 1 ≤ length front) → ((q : List (List Change)) → IsBatch q → payload ≡ batch_bytes q → (records : List Record) → taken (all_changes q) found.records ≡ Some records → ⊥)
    → Enters generation front found payload after → ⊥
no_batch generation front payload found after kind none (batch commits records k is made) = none commits is refl records made
no_batch generation front payload found after kind none (checkpoint records low first is) = let some = kind low in omega (arith, some, ap length first)

-- a checkpoint that is none is no entry
pub no_checkpoint : (generation : ℕ) (payload : List ℕ) (found after : Recovered) → 2 ≤ generation → ((rs : List Record) → IsCheckpoint rs → payload ≡ checkpoint_bytes rs → ⊥) → Enters generation [] found payload after → ⊥
no_checkpoint generation payload found after low none (batch commits records k is made) = let some = k low in omega arith
no_checkpoint generation payload found after low none (checkpoint records l first is) = none records is refl

pub enters_checkpoint : (generation : ℕ) (payload : List ℕ) (found : Recovered) (rs : List Record) → 2 ≤ generation → IsCheckpoint rs → payload ≡ checkpoint_bytes rs → Enters generation [] found payload (record { records = rs; batches = 0; commits = 0 })
enters_checkpoint generation payload found rs low is bytes = subst (λ (p : List ℕ). Enters generation [] found p (record { records = rs; batches = 0; commits = 0 })) (sym bytes) (checkpoint rs low refl is)

commits_long : (commits : List (List Change)) → length commits ≤ length (flat_map commit_bytes commits)
unfolding commit_bytes
commits_long [] = omega arith
commits_long (c ∷ commits) =
    let more = commits_long commits in
    omega (arith, length-append (u32_bytes (length c) ++ flat_map change_bytes c) (flat_map commit_bytes commits), length-append (u32_bytes (length c)) (flat_map change_bytes c), length-u32 (length c), more)

-- a batch has no more commits than bytes
pub few_commits : (commits : List (List Change)) → length commits ≤ length (batch_bytes commits)
unfolding batch_bytes
few_commits commits = omega (arith, commits_long commits, length-append (u32_bytes (length commits)) (flat_map commit_bytes commits))

pub loaded_is : (generation : ℕ) (payload : List ℕ) (found : Recovered) (rs store : List Record) (changes : List Change) → 2 ≤ generation → IsCheckpoint rs → payload ≡ checkpoint_bytes rs
    → taken changes [] ≡ Some rs → taken changes [] ≡ Some store → Enters generation [] found payload (record { records = store; batches = 0; commits = 0 })
loaded_is generation payload found rs store changes low is bytes wanted got =
    let same : rs ≡ store = cc in
    subst (λ r. Enters generation [] found payload (record { records = r; batches = 0; commits = 0 })) same (enters_checkpoint generation payload found rs low is bytes)
