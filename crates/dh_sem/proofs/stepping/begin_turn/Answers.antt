use Rattle.std.proofs.Common.{◌≡◌, ◌+◌, ◌*◌, ◌<◌, ◌≤◌, ℕ, List, length, get_or, refl, subst, add-one}
use Rattle.std.specs.Prelude.{Vec}
use Rattle.std.specs.Global.{Global}
use Rattle.dh_sem.specs.Steps.{SetsCopy}
use Rattle.dh_sem.proofs.TurnsBegun.{only_then, turn_end, turn_first, turn_more}
use Rattle.dh_sem.proofs.stepping.begin_turn.Goals as goal

pub loop-i-init : goal.loop-i-init
loop-i-init c = turn_first c.args.lanes.now c.args.turns.now c.args.turn c.args.state.now

pub returns-in_err-set_copy-clause-only : goal.returns-in_err-set_copy-clause-only
returns-in_err-set_copy-clause-only c = only_then c.args.state.now c.loop-i.state c.set_copy.new.state c.loop-i.invariant.only c.set_copy.ensures.only

pub loop-i-preserved : goal.loop-i-preserved
loop-i-preserved c =
    let t = c.args.turns.now in
    let row = c.index-rows-i.result in
    rw (add-one c.loop-i.i)
    (turn_more c.args.lanes.now t c.args.turn c.args.state.now c.loop-i.i c.loop-i.state c.loop-i.invariant row (t.low + c.args.turn * t.factor) c.copy_of-copy.result (t.low + c.args.turn * t.factor + c.copy_of-copy.result) c.set_copy.new.state
    (subst (λ (l : List (Vec ℕ Global)). c.loop-i.i < length l) c.as_slice-rows.ensures.value c.loop-i-test.true) (subst (λ (l : List (Vec ℕ Global)). row ≡ get_or l c.loop-i.i row) c.as_slice-rows.ensures.value c.index-rows-i.is)
    c.requires.some_factor c.requires.counted refl c.copy_of-copy.ensures refl c.set_copy.ensures.only
    (subst (λ (l : List ℕ). SetsCopy c.loop-i.state c.set_copy.new.state l t (t.low + c.args.turn * t.factor + c.copy_of-copy.result)) c.as_slice.ensures.value c.in_ok-set_copy.ensures.sets))

pub returns-clause-only : goal.returns-clause-only
returns-clause-only c = c.loop-i.invariant.only

pub returns-clause-begins : goal.returns-clause-begins
returns-clause-begins c = turn_end c.args.lanes.now c.args.turns.now c.args.turn c.args.state.now c.loop-i.i c.loop-i.state c.loop-i.invariant (subst (λ (l : List (Vec ℕ Global)). length l ≤ c.loop-i.i) c.as_slice-rows.ensures.value c.loop-i-test.false)
