use Rattle.std.proofs.Common.{ℕ, ◌+◌, ◌*◌, ◌≤◌, length, arith}
use Rattle.std.proofs.lemmas.Result.{IfOk-weaker}
use Rattle.dh_plan.specs.LegalSchedules.{depth_at, is_product}
use Rattle.dh_sched.specs.FullClocks.{Fills}
use Rattle.dh_sched.specs.LeastBlocks.{IsLeastClock, AreCounts}
use Rattle.std.specs.Prelude.{[], ◌∷◌, ◌++◌}
use Rattle.dh_sched.proofs.LeastStands.{needed_below, starts_early, least_found}
use Rattle.dh_sched.proofs.BlockGrows.{counts_turn}
use Rattle.dh_sched.proofs.scheduling.least_clock.Goals as goal

pub unchained-start-requires-clause-small : goal.unchained-start-requires-clause-small
unchained-start-requires-clause-small c =
    let low = needed_below c.args.limits c.args.first c.args.before.now c.args.clocks.now c.args.taken.now c.args.operation.now c.needed_clock-needed.result c.needed_clock-needed.ensures
    c.requires.taken c.requires.scheduled in
    omega (arith, low, c.requires.room)

pub place_from-requires-clause-start : goal.place_from-requires-clause-start
place_from-requires-clause-start c =
    let low = needed_below c.args.limits c.args.first c.args.before.now c.args.clocks.now c.args.taken.now c.args.operation.now c.needed_clock-needed.result c.needed_clock-needed.ensures
    c.requires.taken c.requires.scheduled in
    let early = starts_early c.needed_clock-needed.result c.unchained-start.result c.args.limits.chain
    (depth_at c.args.first c.needed_clock-needed.result c.args.clocks.now c.args.depths.now c.args.operation.now) c.unchained-start.ensures in
    omega (arith, low, early, c.requires.room)

pub returns-clause-least : goal.returns-clause-least
returns-clause-least c =
    IfOk-weaker c.place_from.result
    (λ (clock : ℕ). Fills c.args.limits.multipliers (is_product c.args.operation.now.form) c.unchained-start.result clock c.args.counts.now.items c.place_from.new.counts.items
    c.place_from.new.ways.items)
    (λ (clock : ℕ). IsLeastClock c.args.limits c.args.first c.args.before.now c.args.clocks.now c.args.operation.now clock)
    (λ clock fills. least_found c.args.limits c.args.first c.args.before.now c.args.clocks.now c.args.depths.now c.args.taken.now c.args.operation.now c.needed_clock-needed.result
    c.unchained-start.result clock c.args.counts.now.items c.args.ways.now.items c.place_from.new.counts.items c.place_from.new.ways.items c.needed_clock-needed.ensures
    c.requires.taken c.requires.scheduled c.requires.depths c.requires.counts c.unchained-start.ensures fills)
    c.place_from.ensures

pub returns-clause-low : goal.returns-clause-low
returns-clause-low c =
    let low = needed_below c.args.limits c.args.first c.args.before.now c.args.clocks.now c.args.taken.now c.args.operation.now c.needed_clock-needed.result c.needed_clock-needed.ensures
    c.requires.taken c.requires.scheduled in
    let early = starts_early c.needed_clock-needed.result c.unchained-start.result c.args.limits.chain
    (depth_at c.args.first c.needed_clock-needed.result c.args.clocks.now c.args.depths.now c.args.operation.now) c.unchained-start.ensures in
    let short = c.requires.counts.short in
    IfOk-weaker c.place_from.result
    (λ (clock : ℕ). Fills c.args.limits.multipliers (is_product c.args.operation.now.form) c.unchained-start.result clock c.args.counts.now.items c.place_from.new.counts.items
    c.place_from.new.ways.items)
    (λ (clock : ℕ). clock ≤ 2 * length c.args.before.now + 2) (λ clock fills. (let near = fills.near in omega (arith, low, early, short, near))) c.place_from.ensures

pub returns-clause-counts : goal.returns-clause-counts
returns-clause-counts c =
    let low = needed_below c.args.limits c.args.first c.args.before.now c.args.clocks.now c.args.taken.now c.args.operation.now c.needed_clock-needed.result c.needed_clock-needed.ensures
    c.requires.taken c.requires.scheduled in
    let early = starts_early c.needed_clock-needed.result c.unchained-start.result c.args.limits.chain
    (depth_at c.args.first c.needed_clock-needed.result c.args.clocks.now c.args.depths.now c.args.operation.now) c.unchained-start.ensures in
    let short = c.requires.counts.short in
    IfOk-weaker c.place_from.result
    (λ (clock : ℕ). Fills c.args.limits.multipliers (is_product c.args.operation.now.form) c.unchained-start.result clock c.args.counts.now.items c.place_from.new.counts.items
    c.place_from.new.ways.items)
    (λ (clock : ℕ). AreCounts c.args.limits.multipliers (c.args.before.now ++ c.args.operation.now ∷ []) (c.args.clocks.now ++ clock ∷ []) c.place_from.new.counts.items
    c.place_from.new.ways.items)
    (λ clock fills. (let near = fills.near in
    counts_turn c.args.limits.multipliers c.args.before.now c.args.clocks.now c.args.operation.now c.unchained-start.result clock c.args.counts.now.items c.place_from.new.counts.items
    c.args.ways.now.items c.place_from.new.ways.items c.requires.scheduled.long c.requires.counts fills (omega (arith, low, early, short, near)))) c.place_from.ensures
