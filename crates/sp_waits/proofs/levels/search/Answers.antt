use Rattle.std.proofs.Common.{◌≡◌, ℕ, ◌+◌, ◌≤◌, ◌<◌, Bool, false, nat_eq, true≢false, List, [], ◌∷◌, ◌++◌, length, sym, ap, ◌∙◌, subst, arith, rules}
use Rattle.sp_locks.proofs.Members.{numbers-tell}
use Rattle.sp_waits.specs.declared.graph.Node.{Node}
use Rattle.sp_waits.specs.declared.levels.Step.{Step}
use Rattle.sp_waits.specs.Levels.{edges_of, leads_to, level, IsGraph, AreLevels}
use Rattle.sp_waits.proofs.Levelling.{left, left-all, left-falls, first-level, levels-next, levels-end}
use Rattle.sp_waits.proofs.levels.search.Goals as goal

begun : (graph : List Node) (s : ℕ) (R : List Step) → R ≡ record { session = s; steps = 0 } ∷ [] → AreLevels graph s 0 R × (0 + left R graph ≤ length graph)
begun graph s R e = subst (λ (R : List Step). AreLevels graph s 0 R × (0 + left R graph ≤ length graph)) (sym e) (first-level graph s, omega (arith, left-all (record { session = s; steps = 0 } ∷ []) graph))

nothing : (xs : List Step) → length xs ≡ 0 → xs ≡ []
nothing [] h = λ i. []
nothing (x ∷ xs) h = absurd (omega arith)

more : (graph : List Node) (s d : ℕ) (R S L : List Step) → AreLevels graph s d R × (d + left R graph ≤ length graph) → IsGraph graph → leads_to d R (edges_of graph s) ≡ false → L ≡ level d R graph → (length L ≡ 0 → ⊥) → S ≡ R ++ L
    → (AreLevels graph s (d + 1) S × (d + 1 + left S graph ≤ length graph)) × (left S graph < left R graph)
more graph s d R S L are is shut step some all =
    let e : S ≡ R ++ level d R graph = all ∙ ap (λ (xs : List Step). R ++ xs) step in
    let falls : left (R ++ level d R graph) graph < left R graph = left-falls d R graph (λ k. some (ap length (step ∙ k))) in
    subst (λ (T : List Step). (AreLevels graph s (d + 1) T × (d + 1 + left T graph ≤ length graph)) × (left T graph < left R graph)) (sym e) ((levels-next graph s d R are.0 is shut, omega (arith, are.1)), falls)

pub back-init : goal.back-init
back-init c = begun c.args.graph.now c.args.session c.push.new.self.items (c.in_ok-push.ensures.items ∙ ap (λ xs. xs ++ record { session = c.args.session; steps = 0 } ∷ []) c.new-reached.ensures.items)

shut : (d : ℕ) (R xs : List Step) (vs ws : List ℕ) (b : Bool) → b ≡ leads_to d xs vs → xs ≡ R → vs ≡ ws → b ≡ false → leads_to d R ws ≡ false
shut d R xs vs ws b tells e f closed = ap (λ ys. leads_to d ys ws) (sym e) ∙ ap (leads_to d xs) (sym f) ∙ sym tells ∙ closed

apart : (n : ℕ) (b : Bool) → b ≡ nat_eq n 0 → b ≡ false → n ≡ 0 → ⊥
apart n b tells differ e = true≢false (sym (numbers-tell n 0 e) ∙ sym tells ∙ differ)

pub returns-then-is_empty : goal.returns-then-is_empty
returns-then-is_empty c =
    levels-end c.args.graph.now c.args.session c.back.steps c.back.reached.items c.back.invariant.0 c.requires
    (shut c.back.steps c.back.reached.items c.as_slice.result.now c.waits_of-start.result.now (edges_of c.args.graph.now c.args.session) c.leads.result c.leads.ensures c.as_slice.ensures.value c.waits_of-start.ensures c.back-test.true)
    (ap (λ R. level c.back.steps R c.args.graph.now) (sym c.as_slice-in-back.ensures.value) ∙ sym c.in_ok-level.ensures ∙ nothing c.in_ok-level.level.items (search rules))

pub back-smaller : goal.back-smaller
back-smaller c =
    (more c.args.graph.now c.args.session c.back.steps c.back.reached.items c.extend_from_slice.new.self.items c.in_ok-level.level.items c.back.invariant c.requires
    (shut c.back.steps c.back.reached.items c.as_slice.result.now c.waits_of-start.result.now (edges_of c.args.graph.now c.args.session) c.leads.result c.leads.ensures c.as_slice.ensures.value c.waits_of-start.ensures c.back-test.true)
    (c.in_ok-level.ensures ∙ ap (λ R. level c.back.steps R c.args.graph.now) c.as_slice-in-back.ensures.value) (λ (e : length c.in_ok-level.level.items ≡ 0). search rules)
    (c.in_ok-extend_from_slice.ensures.items ∙ ap (λ xs. c.back.reached.items ++ xs) c.as_slice-in-back-2.ensures.value)).1

pub back-preserved : goal.back-preserved
back-preserved c =
    (more c.args.graph.now c.args.session c.back.steps c.back.reached.items c.extend_from_slice.new.self.items c.in_ok-level.level.items c.back.invariant c.requires
    (shut c.back.steps c.back.reached.items c.as_slice.result.now c.waits_of-start.result.now (edges_of c.args.graph.now c.args.session) c.leads.result c.leads.ensures c.as_slice.ensures.value c.waits_of-start.ensures c.back-test.true)
    (c.in_ok-level.ensures ∙ ap (λ R. level c.back.steps R c.args.graph.now) c.as_slice-in-back.ensures.value) (λ (e : length c.in_ok-level.level.items ≡ 0). search rules)
    (c.in_ok-extend_from_slice.ensures.items ∙ ap (λ xs. c.back.reached.items ++ xs) c.as_slice-in-back-2.ensures.value)).0
