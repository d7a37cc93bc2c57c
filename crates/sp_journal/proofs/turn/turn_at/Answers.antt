use Rattle.std.proofs.Common.{◌≡◌, ◌∷◌, ◌++◌, ◌∙◌, sym, ap, subst, arith, true, length, drop, ◌+◌, ℕ, List}
use Rattle.sp_journal.proofs.Crashes.{length-head}
use Rattle.sp_journal.proofs.Walking.{gate_at, ends_here, too_long}
use Rattle.sp_journal.proofs.Turns.{turned_by}
use Rattle.sp_journal.proofs.turn.turn_at.Goals as goal

pub returns-then-front-ne1-clause-turned : goal.returns-then-front-ne1-clause-turned
returns-then-front-ne1-clause-turned g c = λ base told size reached.
    let file = g.D.Disk.reads c.args.disk.now in
    let at = gate_at file c.args.chain.now.at (omega (arith, size, c.requires.inside)) in
    let same = c.in_ok-front.ensures.gate told at.0 (drop (c.args.chain.now.at + 1) file) at.1 in
    ends_here file c.args.chain.now base at.0 reached (λ e. c.if-front-ne1.true (same ∙ e)) at.1

pub returns-in-Some-clause-turned : goal.returns-in-Some-clause-turned
returns-in-Some-clause-turned g c = λ base told size reached.
    let file = g.D.Disk.reads c.args.disk.now in
    let told' = subst (λ b. b ≡ true) (sym c.read_front.ensures.tells) told in
    let same : g.D.Disk.reads c.read_front.new.disk ≡ file = (c.read_front.ensures.looks told).bytes in
    let at = gate_at file c.args.chain.now.at (omega (arith, size, c.requires.inside)) in
    let gate = c.in_ok-front.ensures.gate told at.0 (drop (c.args.chain.now.at + 1) file) at.1 in
    let one : at.0 ≡ 1 = sym gate ∙ c.if-front-ne1.false in
    let shown = c.as_slice.ensures.value in
    let whole = rw c.in-Some.is at (c.in_ok-payload.ensures.whole told' (ap length same ∙ size)) in
    let long = rw c.in-Some.is at c.in_ok-payload.ensures.size in
    let within = rw c.in-Some.is at c.in_ok-payload.ensures.within in
    let n : ℕ = c.in_ok-front.front.size in
    let k : ℕ = c.args.chain.now.at in
    let here : drop k file ≡ 1 ∷ drop (k + 1) file = at.1 ∙ ap (λ (b : ℕ). b ∷ drop (k + 1) file) one in
    let behind : drop (k + 5) file ≡ c.as_slice.result.now ++ drop (k + 5 + n) file = subst (λ (f : List ℕ). drop (k + 5) f ≡ c.as_slice.result.now ++ drop (k + 5 + n) f) same (whole ∙ ap (λ (l : List ℕ). l ++ drop (k + 5 + n) (g.D.Disk.reads c.read_front.new.disk)) (sym shown)) in
    let reach = length-head base in
    let start : k ≡ 16 + length base.front = reached.at ∙ reach in
    turned_by file c.as_slice.result.now c.args.chain.now c.take_in.new.chain base n c.take_in.result reached (omega (arith, size, within)) c.in_ok-front.ensures.small here (c.in_ok-front.ensures.size told at.0 (drop (k + 1) file) at.1)
    (ap length shown ∙ long) behind c.take_in.ensures.generation (c.take_in.ensures.entered base.front start) (λ after. c.take_in.ensures.refused base.front after start) c.take_in.ensures.place c.take_in.ensures.stays c.take_in.ensures.open_gate

pub returns-in-None-clause-turned : goal.returns-in-None-clause-turned
returns-in-None-clause-turned g c = λ base told size reached.
    let file = g.D.Disk.reads c.args.disk.now in
    let told' = subst (λ b. b ≡ true) (sym c.read_front.ensures.tells) told in
    let same : g.D.Disk.reads c.read_front.new.disk ≡ file = (c.read_front.ensures.looks told).bytes in
    let at = gate_at file c.args.chain.now.at (omega (arith, size, c.requires.inside)) in
    let gate = c.in_ok-front.ensures.gate told at.0 (drop (c.args.chain.now.at + 1) file) at.1 in
    let one : at.0 ≡ 1 = sym gate ∙ c.if-front-ne1.false in
    let none = rw c.in-None.is at (c.in_ok-payload.ensures.none told' (ap length same ∙ size)) in
    let k : ℕ = c.args.chain.now.at in
    too_long file c.args.chain.now base c.in_ok-front.front.size reached (omega (arith, size, c.requires.inside)) c.in_ok-front.ensures.small (at.1 ∙ ap (λ (b : ℕ). b ∷ drop (k + 1) file) one)
    (c.in_ok-front.ensures.size told at.0 (drop (k + 1) file) at.1) (omega (arith, size, none))
