-- A table stays sound, and its index stays true.
use Rattle.std.proofs.Common.{◌≡◌, ◌≢◌, ◌⊎◌, ℕ, Bool, true, false, not, if◌then◌else◌, cond, nat_eq, List, [], ◌∷◌, ◌++◌, filter, Option, None, Some, is_some, refl, sym, ap, ◌∙◌, subst, inl, inr, true≢false, append-nil, append_assoc}
use Rattle.std.specs.Map.{lookup}
use Rattle.sp_locks.specs.declared.row.Name.{Name}
use Rattle.sp_locks.specs.declared.row.Scope.{Scope}
use Rattle.sp_locks.specs.declared.row.Row.{Row}
use Rattle.sp_locks.specs.declared.needs.Need.{Need}
use Rattle.sp_locks.specs.Rows.{same_name, is_blocked, is_waiter, waiting_in, with_lock, with_row, goes, retried, released_in}
use Rattle.sp_locks.specs.Table.{is_on, rows_on, with_row_on, given, lock_for, released, AreFreeInTurn}
use Rattle.sp_locks.specs.Soundness.{In, Before, HeldCompatible, WaitersBlocked, WaitOnce, IsSound, name_of, AreWaits}
use Rattle.sp_locks.proofs.Names.{same_is, same-refl}
use Rattle.sp_locks.proofs.Members.{in-left, in-right, in-split, in-kept, of_kept, ordered, before-in, before-kept, before-filtered, numbers-same, numbers-tell, first_of_both, second_of_both, both}
use Rattle.sp_locks.proofs.Compatibility.{granted-compatible, retried-compatible}
use Rattle.sp_locks.proofs.Once.{waiters, waiters-with_lock, once-same, waits-same, once-retried, waits-retried}
use Rattle.sp_locks.proofs.Staying.{Blocked, NoWaiter, blocked-with_lock, blocked-last, blocked-retried}
use Rattle.sp_locks.proofs.OnNames.{with_row-on, with_row-off, released-on}
use Rattle.sp_locks.proofs.Giving.{added-free}

-- two ways to say that each waiting row is blocked
pub to_blocked : (front xs : List Row) → ((before after : List Row) (r : Row) → xs ≡ before ++ r ∷ after → r.waiting ≡ true → is_blocked (front ++ before) after r.session r.mode ≡ true) → Blocked front xs []
to_blocked front [] h = tt
to_blocked front (x ∷ xs) h = (
  (λ w. subst (λ (zs : List Row). is_blocked front zs x.session x.mode ≡ true) (sym (append-nil xs)) (subst (λ (zs : List Row). is_blocked zs xs x.session x.mode ≡ true) (append-nil front) (h [] xs x refl w))),
  to_blocked (front ++ x ∷ []) xs (λ before after r e w. subst (λ (zs : List Row). is_blocked zs after r.session r.mode ≡ true) (sym (append_assoc front (x ∷ []) before)) (h (x ∷ before) after r (ap (λ (zs : List Row). x ∷ zs) e) w)),
)

pub of_blocked : (front xs : List Row) → Blocked front xs [] → (before after : List Row) (r : Row) → xs ≡ before ++ r ∷ after → r.waiting ≡ true → is_blocked (front ++ before) after r.session r.mode ≡ true
of_blocked front [] h [] after r e w = absurd (let k : [] ≡ r ∷ after = e in cc)
of_blocked front [] h (b ∷ before) after r e w = absurd (let k : [] ≡ b ∷ before ++ r ∷ after = e in cc)
of_blocked front (x ∷ xs) h [] after r e w =
    let same : x ≡ r = (let k : x ∷ xs ≡ r ∷ after = e in cc) in
    let rest : xs ++ [] ≡ after = append-nil xs ∙ (let k : x ∷ xs ≡ r ∷ after = e in cc) in
    rw (append-nil front) (subst (λ (q : Row). is_blocked front after q.session q.mode ≡ true) same (subst (λ (zs : List Row). is_blocked front zs x.session x.mode ≡ true) rest (h.0 (ap (λ (q : Row). q.waiting) same ∙ w))))
of_blocked front (x ∷ xs) h (b ∷ before) after r e w =
    let same : x ≡ b = (let k : x ∷ xs ≡ b ∷ before ++ r ∷ after = e in cc) in
    let rest : xs ≡ before ++ r ∷ after = (let k : x ∷ xs ≡ b ∷ before ++ r ∷ after = e in cc) in
    subst (λ (zs : List Row). is_blocked zs after r.session r.mode ≡ true) (append_assoc front (x ∷ []) before ∙ ap (λ (q : Row). front ++ q ∷ before) same) (of_blocked (front ++ x ∷ []) xs h.1 before after r rest w)

-- the rows of a table on the name of a row
pub in-name : (x : Row) (rows : List Row) → In x rows → In x (rows_on x.name rows)
in-name x rows i = in-kept (is_on x.name) x rows i (same-refl x.name)

pub in-table : (n : Name) (x : Row) (rows : List Row) → In x (rows_on n rows) → In x rows × (n ≡ x.name)
in-table n x rows i = let k = of_kept (is_on n) x rows i in (k.0, same_is n x.name k.1)

-- sessions wait once, if they do so on each name and on one name only
pub once-by_name : (rows : List Row) → ((n : Name) → WaitOnce (rows_on n rows))
    → ((x y : Row) → In x rows → In y rows → x.waiting ≡ true → y.waiting ≡ true → x.session ≡ y.session → x.name ≡ y.name) → WaitOnce rows
once-by_name rows each one x y b v w same =
    let i = before-in x y rows b in
    let on : x.name ≡ y.name = one x y i.0 i.1 v w same in
    each x.name x y (before-kept (is_on x.name) x y rows b (same-refl x.name) (subst (λ (n : Name). same_name x.name n ≡ true) on (same-refl x.name))) v w same

pub one_name : (rows : List Row) → WaitOnce rows → (x y : Row) → In x rows → In y rows → x.waiting ≡ true → y.waiting ≡ true → x.session ≡ y.session → x ≡ y
one_name rows once x y i j v w same = go (ordered x y rows i j)
  where
    go : (x ≡ y) ⊎ (Before x y rows ⊎ Before y x rows) → x ≡ y
    go (inl e) = e
    go (inr (inl b)) = absurd (once x y b v w same)
    go (inr (inr b)) = absurd (once y x b w v (sym same))

pub once-on : (n : Name) (rows : List Row) → WaitOnce rows → WaitOnce (rows_on n rows)
once-on n rows once x y b = once x y (before-filtered (is_on n) x y rows b)

-- where who waits waited before, sessions still wait once
pub once-fewer : (old new : List Row) → WaitOnce old → ((x : Row) → In x new → x.waiting ≡ true → In x old) → ((n : Name) → WaitOnce (rows_on n new)) → WaitOnce new
once-fewer old new once stood each = once-by_name new each (λ x y i j v w same. ap (λ (q : Row). q.name) (one_name old once x y (stood x i v) (stood y j w) v w same))

-- the waiting row of a session
pub waiter-is : (s : ℕ) (x : Row) → is_waiter s x ≡ true → (x.waiting ≡ true) × (x.session ≡ s)
waiter-is s x h = (first_of_both x.waiting (nat_eq x.session s) h, numbers-same x.session s (second_of_both x.waiting (nat_eq x.session s) h))

pub found-waits : (s : ℕ) (rows : List Row) (x : Row) → waiting_in s rows ≡ Some x → In x rows × (is_waiter s x ≡ true)
found-waits s [] x h = absurd (let k : None ≡ Some x = h in cc)
found-waits s (y ∷ ys) x h = go (is_waiter s y) refl h (found-waits s ys x)
  where
    go : (b : Bool) → is_waiter s y ≡ b → cond b (Some y) (waiting_in s ys) ≡ Some x → (waiting_in s ys ≡ Some x → In x ys × (is_waiter s x ≡ true)) → In x (y ∷ ys) × (is_waiter s x ≡ true)
    go true e h rest = let f : y ≡ x = (let k : Some y ≡ Some x = h in cc) in (inl f, subst (λ (q : Row). is_waiter s q ≡ true) f e)
    go false e h rest = let r = rest h in (inr r.0, r.1)

pub none-waits : (s : ℕ) (rows : List Row) (x : Row) → waiting_in s rows ≡ None → In x rows → is_waiter s x ≡ false
none-waits s [] x h i = absurd i
none-waits s (y ∷ ys) x h i = go (is_waiter s y) refl h i (none-waits s ys x)
  where
    go : (b : Bool) → is_waiter s y ≡ b → cond b (Some y) (waiting_in s ys) ≡ None → In x (y ∷ ys) → (waiting_in s ys ≡ None → In x ys → is_waiter s x ≡ false) → is_waiter s x ≡ false
    go true e h j rest = absurd (let k : Some y ≡ None = h in cc)
    go false e h (inl f) rest = subst (λ (q : Row). is_waiter s q ≡ false) f e
    go false e h (inr j) rest = rest h j

pub no_waiter : (s : ℕ) (rows : List Row) → waiting_in s rows ≡ None → NoWaiter s rows
no_waiter s rows none x i w e = true≢false (sym (both x.waiting (nat_eq x.session s) w (numbers-tell x.session s e)) ∙ none-waits s rows x none i)

pub found-one : (s : ℕ) (rows : List Row) (x : Row) → WaitOnce rows → In x rows → is_waiter s x ≡ true → waiting_in s rows ≡ Some x
found-one s rows x once i w = go (waiting_in s rows) refl
  where
    go : (o : Option Row) → waiting_in s rows ≡ o → o ≡ Some x
    go None e = absurd (true≢false (sym w ∙ none-waits s rows x e i))
    go (Some y) e =
        let f = found-waits s rows y e in
        let p = waiter-is s x w in
        let q = waiter-is s y f.1 in
        ap Some (one_name rows once y x f.0 i q.0 p.0 (q.1 ∙ sym p.1))

-- where who waits waited before, a session waits as before or not at all
pub waits-fewer : (s : ℕ) (old new : List Row) → WaitOnce old → ((x : Row) → In x new → x.waiting ≡ true → In x old) → (waiting_in s new ≡ None) ⊎ (waiting_in s new ≡ waiting_in s old)
waits-fewer s old new once stood = go (waiting_in s new) refl
  where
    go : (o : Option Row) → waiting_in s new ≡ o → (o ≡ None) ⊎ (o ≡ waiting_in s old)
    go None e = inl refl
    go (Some x) e = let f = found-waits s new x e in inr (sym (found-one s old x once (stood x f.0 (waiter-is s x f.1).0) f.1))

-- the same rows wait
pub waits-equal : (s : ℕ) (old new : List Row) → WaitOnce old → WaitOnce new → ((x : Row) → In x new → x.waiting ≡ true → In x old) → ((x : Row) → In x old → x.waiting ≡ true → In x new) → waiting_in s new ≡ waiting_in s old
waits-equal s old new once once' stood stays = go (waits-fewer s old new once stood)
  where
    only : (o : Option Row) → waiting_in s old ≡ o → waiting_in s new ≡ None → None ≡ o
    only None e none = refl
    only (Some x) e none = let f = found-waits s old x e in absurd (true≢false (sym f.1 ∙ none-waits s new x none (stays x f.0 (waiter-is s x f.1).0)))

    go : (waiting_in s new ≡ None) ⊎ (waiting_in s new ≡ waiting_in s old) → waiting_in s new ≡ waiting_in s old
    go (inl none) = none ∙ only (waiting_in s old) refl none
    go (inr e) = e

-- a release
pub released-waits : (scope : Scope) (s : ℕ) (rows : List Row) (x : Row) → In x (released scope s rows) → x.waiting ≡ true → In x rows
released-waits scope s rows x i w =
    let j : In x (released_in scope s (rows_on x.name rows)) = subst (In x) (released-on scope s x.name rows) (in-name x (released scope s rows) i) in
    let k = waits-retried x w [] (filter (λ y. not (goes scope s y)) (rows_on x.name rows)) j in
    (in-table x.name x rows (of_kept (λ y. not (goes scope s y)) x (rows_on x.name rows) k).0).0

pub release-sound : (scope : Scope) (s : ℕ) (rows : List Row) → IsSound rows → IsSound (released scope s rows)
release-sound scope s rows sound = record { compatible = together; blocked = stuck; once = once-fewer rows (released scope s rows) sound.once (released-waits scope s rows) each }
  where
    left : Name → List Row
    left n = filter (λ y. not (goes scope s y)) (rows_on n rows)

    left_once : (n : Name) → WaitOnce (left n)
    left_once n x y b = once-on n rows sound.once x y (before-filtered (λ y. not (goes scope s y)) x y (rows_on n rows) b)

    each : (n : Name) → WaitOnce (rows_on n (released scope s rows))
    each n = subst WaitOnce (sym (released-on scope s n rows)) (once-retried [] (left n) (left_once n))

    together : (n : Name) → HeldCompatible (rows_on n (released scope s rows))
    together n =
        subst HeldCompatible (sym (released-on scope s n rows))
        (retried-compatible [] (left n) (λ a b i j. sound.compatible n a b (of_kept (λ y. not (goes scope s y)) a (rows_on n rows) i).0 (of_kept (λ y. not (goes scope s y)) b (rows_on n rows) j).0))

    stuck : (n : Name) → WaitersBlocked (rows_on n (released scope s rows))
    stuck n = subst WaitersBlocked (sym (released-on scope s n rows)) (of_blocked [] (retried [] (left n)) (blocked-retried [] (left n) tt (left_once n)))

-- what holds on each name still holds once a row came
by-row : (P : List Row → Type 0) (r : Row) (rows : List Row) → ((n : Name) → P (rows_on n rows)) → P (with_row r (rows_on r.name rows)) → (n : Name) → P (rows_on n (with_row_on r rows))
by-row P r rows old new n = go (same_name n r.name) refl
  where
    go : (b : Bool) → same_name n r.name ≡ b → P (rows_on n (with_row_on r rows))
    go true e = subst (λ (m : Name). P (rows_on m (with_row_on r rows))) (sym (same_is n r.name e)) (subst P (sym (with_row-on r rows)) new)
    go false e = subst P (sym (with_row-off n r rows e)) (old n)

as_lock : (r : Row) (xs : List Row) → r.waiting ≡ false → with_lock r xs ≡ with_row r xs
as_lock r xs held = sym (rw held refl)

as_last : (r : Row) (xs : List Row) → r.waiting ≡ true → xs ++ r ∷ [] ≡ with_row r xs
as_last r xs w = sym (rw w refl)

-- a lock changes no waiting row
waiters-locked : (n : Name) (r : Row) (rows : List Row) → r.waiting ≡ false → waiters (rows_on n (with_row_on r rows)) ≡ waiters (rows_on n rows)
waiters-locked n r rows held = go (same_name n r.name) refl
  where
    go : (b : Bool) → same_name n r.name ≡ b → waiters (rows_on n (with_row_on r rows)) ≡ waiters (rows_on n rows)
    go true e =
        subst (λ (m : Name). waiters (rows_on m (with_row_on r rows)) ≡ waiters (rows_on m rows)) (sym (same_is n r.name e))
        (ap waiters (with_row-on r rows ∙ sym (as_lock r (rows_on r.name rows) held)) ∙ waiters-with_lock r (rows_on r.name rows) held)
    go false e = ap waiters (with_row-off n r rows e)

locked-stood : (r : Row) (rows : List Row) → r.waiting ≡ false → (x : Row) → In x (with_row_on r rows) → x.waiting ≡ true → In x rows
locked-stood r rows held x i w =
    (in-table x.name x rows (waits-same (rows_on x.name (with_row_on r rows)) (rows_on x.name rows) x (waiters-locked x.name r rows held) (in-name x (with_row_on r rows) i) w)).0

locked-stays : (r : Row) (rows : List Row) → r.waiting ≡ false → (x : Row) → In x rows → x.waiting ≡ true → In x (with_row_on r rows)
locked-stays r rows held x i w =
    (in-table x.name x (with_row_on r rows) (waits-same (rows_on x.name rows) (rows_on x.name (with_row_on r rows)) x (sym (waiters-locked x.name r rows held)) (in-name x rows i) w)).0

-- a granted request
pub grant-sound : (r : Row) (rows : List Row) → r.waiting ≡ false → NoWaiter r.session (rows_on r.name rows) → is_blocked (rows_on r.name rows) [] r.session r.mode ≡ false → IsSound rows → IsSound (with_row_on r rows)
grant-sound r rows held awake free sound = record {
  compatible = by-row HeldCompatible r rows sound.compatible (subst HeldCompatible (as_lock r on held) together);
  blocked = by-row WaitersBlocked r rows sound.blocked (subst WaitersBlocked (as_lock r on held) (of_blocked [] (with_lock r on) (blocked-with_lock r [] on [] held awake (to_blocked [] on (sound.blocked r.name)))));
  once = once-fewer rows (with_row_on r rows) sound.once (locked-stood r rows held) (λ n. once-same (rows_on n rows) (rows_on n (with_row_on r rows)) (sym (waiters-locked n r rows held)) (once-on n rows sound.once));
}
  where
    on : List Row
    on = rows_on r.name rows

    together : HeldCompatible (with_lock r on)
    together =
        subst HeldCompatible (append-nil (with_lock r on))
        (granted-compatible r on [] free (subst HeldCompatible (sym (append-nil on)) (sound.compatible r.name)))

pub grant-waits : (s : ℕ) (r : Row) (rows : List Row) → r.waiting ≡ false → WaitOnce rows → WaitOnce (with_row_on r rows) → waiting_in s (with_row_on r rows) ≡ waiting_in s rows
grant-waits s r rows held once once' = waits-equal s rows (with_row_on r rows) once once' (locked-stood r rows held) (locked-stays r rows held)

-- a request that waits
waiting-stood : (r : Row) (rows : List Row) → r.waiting ≡ true → (x : Row) → In x (with_row_on r rows) → In x rows ⊎ (r ≡ x)
waiting-stood r rows w x i = go (same_name x.name r.name) refl (in-name x (with_row_on r rows) i)
  where
    last : In x (rows_on r.name rows) ⊎ In x (r ∷ []) → In x rows ⊎ (r ≡ x)
    last (inl j) = inl (in-table r.name x rows j).0
    last (inr (inl e)) = inr e
    last (inr (inr none)) = absurd none

    go : (b : Bool) → same_name x.name r.name ≡ b → In x (rows_on x.name (with_row_on r rows)) → In x rows ⊎ (r ≡ x)
    go true e j =
        last (in-split x (rows_on r.name rows) (r ∷ []) (subst (In x) (with_row-on r rows ∙ sym (as_last r (rows_on r.name rows) w)) (subst (λ (m : Name). In x (rows_on m (with_row_on r rows))) (same_is x.name r.name e) j)))
    go false e j = inl (in-table x.name x rows (subst (In x) (with_row-off x.name r rows e) j)).0

pub waiting-stays : (r : Row) (rows : List Row) → r.waiting ≡ true → (x : Row) → In x rows ⊎ (r ≡ x) → In x (with_row_on r rows)
waiting-stays r rows w x i = go (same_name x.name r.name) refl i
  where
    on-name : In x (rows_on r.name rows ++ r ∷ []) → In x (with_row_on r rows)
    on-name j = (in-table r.name x (with_row_on r rows) (subst (In x) (as_last r (rows_on r.name rows) w ∙ sym (with_row-on r rows)) j)).0

    go : (b : Bool) → same_name x.name r.name ≡ b → In x rows ⊎ (r ≡ x) → In x (with_row_on r rows)
    go true e (inl j) = on-name (in-left x (rows_on r.name rows) (r ∷ []) (subst (λ (m : Name). In x (rows_on m rows)) (same_is x.name r.name e) (in-name x rows j)))
    go false e (inl j) = (in-table x.name x (with_row_on r rows) (subst (In x) (sym (with_row-off x.name r rows e)) (in-name x rows j))).0
    go b e (inr f) = on-name (in-right x (rows_on r.name rows) (r ∷ []) (inl f))

once-last : (xs : List Row) (r : Row) → WaitOnce xs → NoWaiter r.session xs → WaitOnce (xs ++ r ∷ [])
once-last [] r once none x y (inl b) v w = absurd b.1
once-last [] r once none x y (inr b) v w = absurd b
once-last (z ∷ xs) r once none x y (inl b) v w = go (in-split y xs (r ∷ []) b.1)
  where
    go : In y xs ⊎ In y (r ∷ []) → x.session ≢ y.session
    go (inl j) = once x y (inl (b.0, j)) v w
    go (inr (inl e)) = λ same. none x (inl b.0) v (same ∙ ap (λ (q : Row). q.session) (sym e))
    go (inr (inr n)) = absurd n
once-last (z ∷ xs) r once none x y (inr b) v w = once-last xs r (λ p q c. once p q (inr c)) (λ p i. none p (inr i)) x y b v w

-- sessions still wait once
pub once-waiting : (r : Row) (rows : List Row) → r.waiting ≡ true → waiting_in r.session rows ≡ None → WaitOnce rows → WaitOnce (with_row_on r rows)
once-waiting r rows w awake once = once-by_name (with_row_on r rows) (by-row WaitOnce r rows (λ n. once-on n rows once) (subst WaitOnce (as_last r (rows_on r.name rows) w) (once-last (rows_on r.name rows) r (once-on r.name rows once) none))) one
  where
    none : NoWaiter r.session (rows_on r.name rows)
    none x i v = no_waiter r.session rows awake x (in-table r.name x rows i).0 v

    one : (x y : Row) → In x (with_row_on r rows) → In y (with_row_on r rows) → x.waiting ≡ true → y.waiting ≡ true → x.session ≡ y.session → x.name ≡ y.name
    one x y i j u v same = go (waiting-stood r rows w x i) (waiting-stood r rows w y j)
      where
        go : In x rows ⊎ (r ≡ x) → In y rows ⊎ (r ≡ y) → x.name ≡ y.name
        go (inl k) (inl l) = ap (λ (q : Row). q.name) (one_name rows once x y k l u v same)
        go (inl k) (inr e) = absurd (no_waiter r.session rows awake x k u (same ∙ ap (λ (q : Row). q.session) (sym e)))
        go (inr e) (inl l) = absurd (no_waiter r.session rows awake y l v (sym same ∙ ap (λ (q : Row). q.session) (sym e)))
        go (inr e) (inr f) = ap (λ (q : Row). q.name) (sym e ∙ f)

pub wait-sound : (r : Row) (rows : List Row) → r.waiting ≡ true → waiting_in r.session rows ≡ None → is_blocked (rows_on r.name rows) [] r.session r.mode ≡ true → IsSound rows → IsSound (with_row_on r rows)
wait-sound r rows w awake stuck sound = record {
  compatible = by-row HeldCompatible r rows sound.compatible (subst HeldCompatible (as_last r on w) together);
  blocked = by-row WaitersBlocked r rows sound.blocked (subst WaitersBlocked (as_last r on w) (of_blocked [] (on ++ r ∷ []) (blocked-last on r w stuck (to_blocked [] on (sound.blocked r.name)))));
  once = once-waiting r rows w awake sound.once;
}
  where
    on : List Row
    on = rows_on r.name rows

    together : HeldCompatible (on ++ r ∷ [])
    together a b i j u v other = sound.compatible r.name a b (old a i u) (old b j v) u v other
      where
        old : (x : Row) → In x (on ++ r ∷ []) → x.waiting ≡ false → In x on
        old x k h = go (in-split x on (r ∷ []) k)
          where
            go : In x on ⊎ In x (r ∷ []) → In x on
            go (inl l) = l
            go (inr (inl e)) = absurd (true≢false (sym w ∙ ap (λ (q : Row). q.waiting) e ∙ h))
            go (inr (inr n)) = absurd n

pub wait-waits : (r : Row) (rows : List Row) → r.waiting ≡ true → WaitOnce (with_row_on r rows) → waiting_in r.session (with_row_on r rows) ≡ Some r
wait-waits r rows w once = found-one r.session (with_row_on r rows) r once (waiting-stays r rows w r (inr refl)) (both r.waiting (nat_eq r.session r.session) w (numbers-tell r.session r.session refl))

pub wait-others : (s : ℕ) (r : Row) (rows : List Row) → r.waiting ≡ true → s ≢ r.session → WaitOnce rows → WaitOnce (with_row_on r rows) → waiting_in s (with_row_on r rows) ≡ waiting_in s rows
wait-others s r rows w other once once' = go (waiting_in s rows) refl (waiting_in s (with_row_on r rows)) refl
  where
    go : (o : Option Row) → waiting_in s rows ≡ o → (p : Option Row) → waiting_in s (with_row_on r rows) ≡ p → p ≡ o
    go (Some x) e p f = let k = found-waits s rows x e in sym f ∙ found-one s (with_row_on r rows) x once' (waiting-stays r rows w x (inl k.0)) k.1
    go None e None f = refl
    go None e (Some x) f = let k = found-waits s (with_row_on r rows) x f in old (waiting-stood r rows w x k.0) k.1
      where
        old : In x rows ⊎ (r ≡ x) → is_waiter s x ≡ true → Some x ≡ None
        old (inl i) v = absurd (true≢false (sym v ∙ none-waits s rows x e i))
        old (inr g) v = absurd (other (sym (waiter-is s x v).1 ∙ ap (λ (q : Row). q.session) (sym g)))

-- gifts on names without rows
pub gifts-sound : (s : ℕ) (needs : List Need) (rows : List Row) → AreFreeInTurn s rows needs → IsSound rows → IsSound (rows ++ given s needs) × ((u : ℕ) → waiting_in u (rows ++ given s needs) ≡ waiting_in u rows)
gifts-sound s [] rows free sound = (subst IsSound (sym (append-nil rows)) sound, λ u. ap (waiting_in u) (append-nil rows))
gifts-sound s (need ∷ needs) rows free sound =
    let lock : Row = lock_for s need in
    let is : with_row_on lock rows ≡ rows ++ lock ∷ [] = added-free s need rows free.0 in
    let alone : NoWaiter s (rows_on need.name rows) = (λ (x : Row) (i : In x (rows_on need.name rows)) (w : x.waiting ≡ true) (e : x.session ≡ s). subst (In x) free.0 i) in
    let unblocked : is_blocked (rows_on need.name rows) [] s need.mode ≡ false = ap (λ (xs : List Row). is_blocked xs [] s need.mode) free.0 in
    let one : IsSound (with_row_on lock rows) = grant-sound lock rows refl alone unblocked sound in
    let rest = gifts-sound s needs (rows ++ lock ∷ []) free.1 (subst IsSound is one) in
    let all : (rows ++ lock ∷ []) ++ given s needs ≡ rows ++ lock ∷ given s needs = append_assoc rows (lock ∷ []) (given s needs) in (
      subst IsSound all rest.0,
      λ u. ap (waiting_in u) (sym all) ∙ rest.1 u ∙ ap (waiting_in u) (sym is) ∙ grant-waits u lock rows refl sound.once one.once,
    )

-- the waiting row of a session by the name on which it waits
pub waiting-on : (s : ℕ) (n : Name) (rows : List Row) → WaitOnce rows → name_of (waiting_in s rows) ≡ Some n → waiting_in s (rows_on n rows) ≡ waiting_in s rows
waiting-on s n rows once is = go (waiting_in s rows) refl is
  where
    go : (o : Option Row) → waiting_in s rows ≡ o → name_of o ≡ Some n → waiting_in s (rows_on n rows) ≡ o
    go None e h = absurd (let k : None ≡ Some n = h in cc)
    go (Some x) e h =
        let f = found-waits s rows x e in
        let k : x.name ≡ n = (let g : Some x.name ≡ Some n = h in cc) in
        found-one s (rows_on n rows) x (once-on n rows once) (subst (λ (m : Name). In x (rows_on m rows)) k (in-name x rows f.0)) f.1

-- the entries that are kept where a test passes
lookup-kept : (s : ℕ) (n : Name) (p : ℕ × Name → Bool) (es : List (ℕ × Name)) → lookup (nat_eq s) es ≡ Some n → ((k : ℕ) → nat_eq s k ≡ true → p (k, n) ≡ true) → lookup (nat_eq s) (filter p es) ≡ Some n
lookup-kept s n p [] found passes = absurd (let k : None ≡ Some n = found in cc)
lookup-kept s n p (e ∷ es) found passes = go (nat_eq s e.0) refl found (lookup-kept s n p es)
  where
    go : (b : Bool) → nat_eq s e.0 ≡ b → cond b (Some e.1) (lookup (nat_eq s) es) ≡ Some n
        → (lookup (nat_eq s) es ≡ Some n → ((k : ℕ) → nat_eq s k ≡ true → p (k, n) ≡ true) → lookup (nat_eq s) (filter p es) ≡ Some n) → lookup (nat_eq s) (if p e then e ∷ filter p es else filter p es) ≡ Some n
    go true t found rest =
        let is : e.1 ≡ n = (let k : Some e.1 ≡ Some n = found in cc) in
        let yes : p e ≡ true = ap (λ (m : Name). p (e.0, m)) is ∙ passes e.0 t in
        rw (yes, t) (ap Some is)
    go false t found rest = skip (p e) (rest found passes)
      where
        skip : (c : Bool) → lookup (nat_eq s) (filter p es) ≡ Some n → lookup (nat_eq s) (if c then e ∷ filter p es else filter p es) ≡ Some n
        skip true h = rw t h
        skip false h = h

lookup-gone : (s : ℕ) (p : ℕ × Name → Bool) (es : List (ℕ × Name)) → ((e : ℕ × Name) → nat_eq s e.0 ≡ true → p e ≡ false) → lookup (nat_eq s) (filter p es) ≡ None
lookup-gone s p [] fails = refl
lookup-gone s p (e ∷ es) fails = go (nat_eq s e.0) refl (p e) refl (lookup-gone s p es fails)
  where
    go : (b : Bool) → nat_eq s e.0 ≡ b → (c : Bool) → p e ≡ c → lookup (nat_eq s) (filter p es) ≡ None → lookup (nat_eq s) (if c then e ∷ filter p es else filter p es) ≡ None
    go true t true u rest = absurd (true≢false (sym u ∙ fails e t))
    go false t true u rest = rw t rest
    go b t false u rest = rest

-- the waits that are left after a release
pub waits-left : (es : List (ℕ × Name)) (old new : List Row) → WaitOnce old → WaitOnce new → ((x : Row) → In x new → x.waiting ≡ true → In x old) → AreWaits es old
    → AreWaits (filter (λ e. is_some (waiting_in e.0 (rows_on e.1 new))) es) new
waits-left es old new once once' stood are s = go (waiting_in s new) refl
  where
    left : ℕ × Name → Bool
    left e = is_some (waiting_in e.0 (rows_on e.1 new))

    none : waiting_in s new ≡ None → (e : ℕ × Name) → nat_eq s e.0 ≡ true → left e ≡ false
    none h e t = ap (λ k. is_some (waiting_in k (rows_on e.1 new))) (sym (numbers-same s e.0 t)) ∙ no (waiting_in s (rows_on e.1 new)) refl
      where
        no : (o : Option Row) → waiting_in s (rows_on e.1 new) ≡ o → is_some o ≡ false
        no None f = refl
        no (Some x) f = let k = found-waits s (rows_on e.1 new) x f in absurd (true≢false (sym k.1 ∙ none-waits s new x h (in-table e.1 x new k.0).0))

    go : (o : Option Row) → waiting_in s new ≡ o → lookup (nat_eq s) (filter left es) ≡ name_of o
    go None e = lookup-gone s left es (none e)
    go (Some x) e =
        let f = found-waits s new x e in
        let was : waiting_in s old ≡ Some x = found-one s old x once (stood x f.0 (waiter-is s x f.1).0) f.1 in
        let on : waiting_in s (rows_on x.name new) ≡ Some x = found-one s (rows_on x.name new) x (once-on x.name new once') (in-name x new f.0) f.1 in
        lookup-kept s x.name left es (are s ∙ ap name_of was) (λ k t. ap (λ j. is_some (waiting_in j (rows_on x.name new))) (sym (numbers-same s k t)) ∙ ap is_some on)

-- the waits with one more
pub waits-more : (es fs : List (ℕ × Name)) (r : Row) (rows : List Row) → r.waiting ≡ true → WaitOnce rows → WaitOnce (with_row_on r rows) → AreWaits es rows
    → ((s : ℕ) → lookup (nat_eq s) fs ≡ cond (nat_eq r.session s) (Some r.name) (lookup (nat_eq s) es)) → AreWaits fs (with_row_on r rows)
waits-more es fs r rows w once once' are is s = is s ∙ go (nat_eq r.session s) refl
  where
    go : (b : Bool) → nat_eq r.session s ≡ b → cond b (Some r.name) (lookup (nat_eq s) es) ≡ name_of (waiting_in s (with_row_on r rows))
    go true e = sym (ap (λ k. name_of (waiting_in k (with_row_on r rows))) (sym (numbers-same r.session s e)) ∙ ap name_of (wait-waits r rows w once'))
    go false e = are s ∙ ap name_of (sym (wait-others s r rows w (λ f. true≢false (sym (numbers-tell r.session s (sym f)) ∙ e)) once once'))

-- the empty table
pub empty-sound : IsSound []
empty-sound = record { compatible = λ n a b i. absurd i; blocked = λ n before after r e w. absurd (none before after r e); once = λ x r b. absurd b }
  where
    none : (before after : List Row) (r : Row) → [] ≡ before ++ r ∷ after → ⊥
    none [] after r e = let k : [] ≡ r ∷ after = e in cc
    none (b ∷ before) after r e = let k : [] ≡ b ∷ before ++ r ∷ after = e in cc

pub empty-waits : (es : List (ℕ × Name)) (rows : List Row) → es ≡ [] → rows ≡ [] → AreWaits es rows
empty-waits es rows e f s = ap (lookup (nat_eq s)) e ∙ ap (λ xs. name_of (waiting_in s xs)) (sym f)

-- a table and its index after a release
pub released-left : (scope : Scope) (s : ℕ) (es fs : List (ℕ × Name)) (old new : List Row) → IsSound old → AreWaits es old → new ≡ released scope s old
    → fs ≡ filter (λ e. is_some (waiting_in e.0 (rows_on e.1 new))) es → IsSound new × AreWaits fs new
released-left scope s es fs old new sound are is left =
    let now : IsSound new = subst IsSound (sym is) (release-sound scope s old sound) in
    (now, subst (λ gs. AreWaits gs new) (sym left) (waits-left es old new sound.once now.once (λ x i w. released-waits scope s old x (subst (In x) is i) w) are))

-- and after gifts, or where there was no memory for them
pub gifts-kept : (s : ℕ) (needs : List Need) (old new : List Row) (es : List (ℕ × Name)) → AreFreeInTurn s old needs → IsSound old → AreWaits es old
    → (new ≡ old ++ given s needs) ⊎ (new ≡ old) → IsSound new × AreWaits es new
gifts-kept s needs old new es free sound are (inr same) = (subst IsSound (sym same) sound, subst (AreWaits es) (sym same) are)
gifts-kept s needs old new es free sound are (inl more) =
    let k = gifts-sound s needs old free sound in
    (subst IsSound (sym more) k.0, λ u. are u ∙ ap name_of (sym (k.1 u)) ∙ ap (λ rows. name_of (waiting_in u rows)) (sym more))

-- and after a granted request
pub grant-kept : (r : Row) (old new : List Row) (es : List (ℕ × Name)) → r.waiting ≡ false → waiting_in r.session old ≡ None → is_blocked (rows_on r.name old) [] r.session r.mode ≡ false
    → IsSound old → AreWaits es old → new ≡ with_row_on r old → IsSound new × AreWaits es new
grant-kept r old new es held awake free sound are is =
    let alone : NoWaiter r.session (rows_on r.name old) = (λ (x : Row) (i : In x (rows_on r.name old)) (w : x.waiting ≡ true) (e : x.session ≡ r.session). no_waiter r.session old awake x (in-table r.name x old i).0 w e) in
    let now : IsSound (with_row_on r old) = grant-sound r old held alone free sound in
    (subst IsSound (sym is) now, λ u. are u ∙ ap name_of (sym (grant-waits u r old held sound.once now.once)) ∙ ap (λ rows. name_of (waiting_in u rows)) (sym is))

-- a lock is granted, or not
pub grant-either : (r : Row) (ok : Bool) (old new : List Row) (es : List (ℕ × Name)) → r.waiting ≡ false → waiting_in r.session old ≡ None → (ok ≡ true → is_blocked (rows_on r.name old) [] r.session r.mode ≡ false)
    → IsSound old → AreWaits es old → new ≡ (if ok then with_row_on r old else old) → IsSound new × AreWaits es new
grant-either r true old new es held awake free sound are is = grant-kept r old new es held awake (free refl) sound are is
grant-either r false old new es held awake free sound are is = (subst IsSound (sym is) sound, subst (AreWaits es) (sym is) are)
