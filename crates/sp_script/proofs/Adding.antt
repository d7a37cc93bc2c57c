-- Draws behind draws.
use Rattle.std.proofs.Common.{◌≡◌, ℕ, zero, suc, ◌+◌, ◌*◌, List, ◌++◌, refl, sym, ap, ◌∙◌, add-suc, add-zero, add-one, append_assoc, arith}
use Rattle.std.specs.Prelude.{codes, ◌%◌}
use Rattle.sp_script.specs.Draws.{drawn, draw_of}
use Rattle.sp_script.specs.Script.{turns, line, operation_words, round_text, script_text}

pub drawn-add : (number m n k : ℕ) → m + n ≡ k → drawn (drawn number m) n ≡ drawn number k
unfolding drawn
drawn-add number m n k is = go n ∙ ap (drawn number) is where
  go : (n : ℕ) → drawn (drawn number m) n ≡ drawn number (m + n)
  go zero = ap (drawn number) (sym (add-zero m))
  go (suc n) = ap (λ x. 16807 * x % 2147483647) (go n) ∙ ap (drawn number) (sym (add-suc m n))

pub turns-text : (round number second third : ℕ) → second ≡ drawn number 6 → third ≡ drawn second 6
    → line (codes "A") (operation_words round (draw_of number)) ++ line (codes "B") (operation_words round (draw_of second)) ++ line (codes "C") (operation_words round (draw_of third))
    ≡ turns round number
unfolding turns
turns-text round number second third s t =
    let two : third ≡ drawn number 12 = t ∙ ap (λ n. drawn n 6) s ∙ drawn-add number 6 6 12 refl in rw (s, two) refl

-- three lines that are added one after the other
pub turns-added : (old a b c : List ℕ) (round number second third : ℕ) → a ≡ old ++ line (codes "A") (operation_words round (draw_of number))
    → b ≡ a ++ line (codes "B") (operation_words round (draw_of second)) → c ≡ b ++ line (codes "C") (operation_words round (draw_of third))
    → second ≡ drawn number 6 → third ≡ drawn second 6 → c ≡ old ++ turns round number
turns-added old a b c round number second third p q r s t =
    let first = line (codes "A") (operation_words round (draw_of number)) in
    let middle = line (codes "B") (operation_words round (draw_of second)) in
    let end = line (codes "C") (operation_words round (draw_of third)) in
    r ∙ ap (λ x. x ++ end) (q ∙ ap (λ x. x ++ middle) p) ∙ ap (λ x. x ++ end) (append_assoc old first middle) ∙ append_assoc old (first ++ middle) end
    ∙ ap (λ x. old ++ x) (turns-text round number second third s t)

pub script-round : (seed n number after : ℕ) → number ≡ drawn seed (36 * n) → after ≡ drawn number 36 → after ≡ drawn seed (36 * (n + 1))
script-round seed n number after s t =
    t ∙ ap (λ m. drawn m 36) s ∙ drawn-add seed (36 * n) 36 (36 * (n + 1)) (omega arith)

pub script_text-more : (seed n number : ℕ) → number ≡ drawn seed (36 * n) → script_text seed n ++ round_text (n + 1) number ≡ script_text seed (n + 1)
unfolding script_text
script_text-more seed n number s = rw (add-one, s) refl
