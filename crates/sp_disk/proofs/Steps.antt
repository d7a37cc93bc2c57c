-- What one call more of a disk in memory does to what a stop may leave.
use Rattle.std.proofs.Common.{◌≡◌, ◌⊎◌, inl, inr, ℕ, ◌+◌, ◌↔◌, Bool, true, false, List, [], ◌∷◌, ◌++◌, length, take, Result, OnOk, OnErr, IsErrOf, Ok, Err, refl, sym, ◌∙◌, ap, subst, arith, if◌then◌else◌}
use Rattle.std.proofs.lemmas.List.{take_all}
use Rattle.std.proofs.lemmas.Int.{clamps}
use Rattle.sp_disk.specs.declared.history.DiskCall.{DiskCall}
use Rattle.sp_disk.specs.declared.history.DiskCall.TheVariants.{Look, Write, Cut, Sync}
use Rattle.sp_disk.specs.History.{History, add, done, reads_after, reads_of, may_tear, left, images_of, failures, is_made}
use Rattle.sp_disk.specs.declared.disk.DiskError.{DiskError}
use Rattle.sp_disk.specs.declared.disk.DiskError.TheVariants.{Fault}
use Rattle.sp_disk.specs.Files.{put, Torn, Shortened}
use Rattle.sp_disk.specs.Faults.{HasCause}
use Rattle.sp_disk.specs.Laws.{reads_now}
use Rattle.sp_disk.proofs.Logs.{reads_push}

pub reads_are : (h later : History) (call : DiskCall) → later ≡ add h call → reads_of later ≡ done call (reads_of h)
reads_are h later call is = ap reads_of is ∙ reads_push h.start h.calls call

left_push : (step : DiskCall → List ℕ → (List ℕ → Type 0) → List ℕ → Type 0) (reads : List ℕ) (before : List ℕ → Type 0) (calls : List DiskCall) (call : DiskCall) (file : List ℕ)
    → left step reads before (calls ++ call ∷ []) file ↔ step call (reads_after reads calls) (left step reads before calls) file
left_push step reads before [] call file = (λ x. x, λ x. x)
left_push step reads before (first ∷ calls) call file = left_push step (done first reads) (step first reads before) calls call file

whole : (h : History) → take (length h.calls) h.calls ≡ h.calls
whole h = take_all (length h.calls) h.calls (omega arith)

all_calls : (h : History) (file : List ℕ) → images_of h (length h.calls) file ↔ left may_tear h.start (λ f. f ≡ h.start) h.calls file
all_calls h file =
    let P : List DiskCall → Type 0 = λ calls. left may_tear h.start (λ f. f ≡ h.start) calls file in
    (subst P (whole h), subst P (sym (whole h)))

-- what a stop may leave after one call more, from what it may leave now
one_more : (h later : History) (call : DiskCall) → later ≡ add h call → (file : List ℕ)
    → images_of later (length later.calls) file ↔ may_tear call (reads_of h) (images_of h (length h.calls)) file
one_more h later call is file =
    let P : List DiskCall → Type 0 = λ calls. may_tear call (reads_of h) (left may_tear h.start (λ f. f ≡ h.start) calls) file in
    let Q : History → Type 0 = λ g. images_of g (length g.calls) file in
    let push = left_push may_tear h.start (λ f. f ≡ h.start) h.calls call file in (
      λ x. subst P (sym (whole h)) (push.0 ((all_calls (add h call) file).0 (subst Q is x))),
      λ x. subst Q (sym is) ((all_calls (add h call) file).1 (push.1 (subst P (whole h) x))),
    )

pub look_now : (h later : History) (made : Bool) → later ≡ add h (Look made) → (file : List ℕ) → images_of later (length later.calls) file ↔ images_of h (length h.calls) file
look_now h later made is = one_more h later (Look made) is

pub write_now : (h later : History) (at : ℕ) (bytes : List ℕ) (made : Bool) → later ≡ add h (Write at bytes made) → (file : List ℕ)
    → images_of later (length later.calls) file ↔ ((was : List ℕ) × images_of h (length h.calls) was × Torn at (length bytes) was file)
write_now h later at bytes made is = one_more h later (Write at bytes made) is

pub cut_now : (h later : History) (len : ℕ) (made : Bool) → later ≡ add h (Cut len made) → (file : List ℕ)
    → images_of later (length later.calls) file ↔ ((was : List ℕ) × images_of h (length h.calls) was × Shortened len was file)
cut_now h later len made is = one_more h later (Cut len made) is

pub sync_settles : (h later : History) (made : Bool) → made ≡ true → later ≡ add h (Sync made) → (file : List ℕ) → images_of later (length later.calls) file → file ≡ reads_of h
sync_settles h later true is_true is file now = (one_more h later (Sync true) is file).0 now
sync_settles h later false is_true is file now = cc

pub sync_leaves : (h later : History) (made : Bool) → later ≡ add h (Sync made) → (file : List ℕ) → images_of later (length later.calls) file → images_of h (length h.calls) file
sync_leaves h later true is file now = subst (λ f. images_of h (length h.calls) f) (sym ((one_more h later (Sync true) is file).0 now)) (reads_now h)
sync_leaves h later false is file now = (one_more h later (Sync false) is file).0 now

pub sync_fails : (h later : History) (made : Bool) → made ≡ false → later ≡ add h (Sync made) → (file : List ℕ) → images_of h (length h.calls) file → images_of later (length later.calls) file
sync_fails h later true is_false is file before = cc
sync_fails h later false is_false is file before = (one_more h later (Sync false) is file).1 before

-- a write and a cut that were made
pub written_now : (h later : History) (at : ℕ) (bytes : List ℕ) (made : Bool) → made ≡ true → later ≡ add h (Write at bytes made) → reads_of later ≡ put (reads_of h) at bytes
written_now h later at bytes made is_true is = reads_are h later (Write at bytes made) is ∙ rw is_true refl

pub cut_done_now : (h later : History) (len : ℕ) (made : Bool) → made ≡ true → later ≡ add h (Cut len made) → reads_of later ≡ take len (reads_of h)
cut_done_now h later len made is_true is = reads_are h later (Cut len made) is ∙ rw is_true refl

-- the answer of a call that was noted
cases_eq_bool : (b : Bool) → (b ≡ true) ⊎ (b ≡ false)
cases_eq_bool true = inl refl
cases_eq_bool false = inr refl

abbrev Answer : Bool → Result (Unit {0}) DiskError
Answer made = if made then Ok tt else Err Fault

pub on_ok : (made : Bool) (result : Result (Unit {0}) DiskError) (P : Type 0) → result ≡ Answer made → (made ≡ true → P) → OnOk result P
on_ok true result P is p = rw is (p refl)
on_ok false result P is p = rw is tt

pub on_err : (made : Bool) (result : Result (Unit {0}) DiskError) (P : Type 0) → result ≡ Answer made → (made ≡ false → P) → OnErr result P
on_err true result P is p = rw is tt
on_err false result P is p = rw is (p refl)

failures_push : (calls : List DiskCall) (call : DiskCall) → failures (calls ++ call ∷ []) ≡ failures calls + (if is_made call then 0 else 1)
failures_push [] call = elim (cases_eq_bool (is_made call)) [ inl is ↦ rw is refl | inr is ↦ rw is refl ]
failures_push (first ∷ calls) call = elim (cases_eq_bool (is_made first)) [
  | inl is ↦ rw is (failures_push calls call)
  | inr is ↦ rw is (omega (arith, failures_push calls call))
]

pub caused : {T : Type 0} (h later : History) (call : DiskCall) (made : Bool) (answer : Result (Unit {0}) DiskError) (result : Result T DiskError)
    → later ≡ add h call → is_made call ≡ made → answer ≡ Answer made → (IsErrOf result Fault → answer ≡ Err Fault) → HasCause true (failures h.calls) (failures later.calls) result
caused h later call made answer result is same answered failed =
    let more : failures later.calls ≡ failures h.calls + (if is_made call then 0 else 1) = ap (λ g. failures g.calls) is ∙ failures_push h.calls call in
    record {
      later = omega (arith, more);
      fault = λ f. let not_made : is_made call ≡ false = same ∙ unmade made answer answered (failed f) in let one : failures later.calls ≡ failures h.calls + 1 = more ∙ rw not_made refl in omega (arith, clamps, one);
      memory = λ m. refl;
    }
  where
    unmade : (made : Bool) (answer : Result (Unit {0}) DiskError) → answer ≡ Answer made → answer ≡ Err Fault → made ≡ false
    unmade true answer answered is = cc
    unmade false answer answered is = refl

pub failed_answer : (made : Bool) (answer : Result (Unit {0}) DiskError) (e : DiskError) → answer ≡ Answer made → answer ≡ Err e → answer ≡ Err Fault
failed_answer true answer e answered is = cc
failed_answer false answer e answered is = answered

pub not_failed : {T : Type 0} (x : T) (e : DiskError) (P : Type 0) → IsErrOf (Ok x) e → P
not_failed x e P is = cc
