use Rattle.std.proofs.Common.{None, get_or, refl, sym, ◌∙◌, arith}
use Rattle.std.proofs.lemmas.List.{drop_all}
use Rattle.dh_events.proofs.Turns.{at_place}
use Rattle.dh_size.proofs.PathTurns.{copy_first, factor_some, stride_some, copy_found, copy_next, copy_none, tests_same}
use Rattle.dh_size.proofs.paths.copy_at.Goals as goal

pub loop-counter-init : goal.loop-counter-init
loop-counter-init c = copy_first c.args.loops.now c.args.number c.args.iterator c.args.copies c.requires.copies c.requires.some

pub nonzero_div-stride : goal.nonzero_div-stride
nonzero_div-stride c =
    let some = factor_some c.args.loops.now c.loop-counter.counter-index (get_or c.args.loops.now c.loop-counter.counter-index (record { entity = None; low = 0; high = 0; factor = 0 })) c.args.number c.args.iterator c.loop-counter.stride
    (at_place c.args.loops.now c.loop-counter.counter-index (record { entity = None; low = 0; high = 0; factor = 0 }) c.loop-counter-test.true) c.loop-counter.invariant in
    omega (arith, some)

pub nonzero_div-result : goal.nonzero_div-result
nonzero_div-result c =
    let some = stride_some c.args.loops.now c.loop-counter.counter-index (get_or c.args.loops.now c.loop-counter.counter-index (record { entity = None; low = 0; high = 0; factor = 0 })) c.args.number c.args.iterator c.loop-counter.stride
    (at_place c.args.loops.now c.loop-counter.counter-index (record { entity = None; low = 0; high = 0; factor = 0 }) c.loop-counter-test.true) c.loop-counter.invariant _ refl in
    omega (arith, some)

pub nonzero_rem-result : goal.nonzero_rem-result
nonzero_rem-result c =
    let some = factor_some c.args.loops.now c.loop-counter.counter-index (get_or c.args.loops.now c.loop-counter.counter-index (record { entity = None; low = 0; high = 0; factor = 0 })) c.args.number c.args.iterator c.loop-counter.stride
    (at_place c.args.loops.now c.loop-counter.counter-index (record { entity = None; low = 0; high = 0; factor = 0 }) c.loop-counter-test.true) c.loop-counter.invariant in
    omega (arith, some)

pub returns-then-eq : goal.returns-then-eq
returns-then-eq c =
    copy_found c.args.loops.now c.loop-counter.counter-index (get_or c.args.loops.now c.loop-counter.counter-index (record { entity = None; low = 0; high = 0; factor = 0 })) c.args.number c.args.iterator c.loop-counter.stride
    (at_place c.args.loops.now c.loop-counter.counter-index (record { entity = None; low = 0; high = 0; factor = 0 }) c.loop-counter-test.true) c.loop-counter.invariant _ _ refl
    (tests_same _ c.args.iterator ∙ (sym c.eq.ensures ∙ c.if-eq.true)) refl

pub loop-counter-preserved : goal.loop-counter-preserved
loop-counter-preserved c =
    copy_next c.args.loops.now c.loop-counter.counter-index (get_or c.args.loops.now c.loop-counter.counter-index (record { entity = None; low = 0; high = 0; factor = 0 })) c.args.number c.args.iterator c.loop-counter.stride
    (at_place c.args.loops.now c.loop-counter.counter-index (record { entity = None; low = 0; high = 0; factor = 0 }) c.loop-counter-test.true) c.loop-counter.invariant _ refl
    (tests_same _ c.args.iterator ∙ (sym c.eq.ensures ∙ c.if-eq.false))

pub returns : goal.returns
returns c = copy_none c.args.loops.now _ c.args.number c.args.iterator c.loop-counter.stride (drop_all c.loop-counter.counter-index c.args.loops.now c.loop-counter-test.false) c.loop-counter.invariant
