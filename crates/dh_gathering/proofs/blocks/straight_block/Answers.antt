use Rattle.std.proofs.Common.{◌≡◌, ◌<◌, ◌^◌, length, map, refl, ap, ◌∙◌, arith}
use Rattle.std.proofs.lemmas.Result.{IfOk-weaker}
use Rattle.dh_phases.specs.GatheredPhases.{numbered_seen}
use Rattle.dh_gathering.proofs.EachNamedOnce.{once_ended}
use Rattle.dh_gathering.proofs.StraightMade.{paths_few, straight_makes}
use Rattle.dh_gathering.proofs.blocks.straight_block.Goals as goal

pub returns-clause-made : goal.returns-clause-made
returns-clause-made c =
    let o = c.args.paths.now.levels.ok in
    let s = c.args.paths.now.levels.small in
    let e : length c.as_slice.result.now ≡ length c.args.paths.now.levels.items = ap (λ l. length l) c.as_slice.ensures.value in
    let low : length c.as_slice.result.now < 2 ^ 63 = omega (arith, o.0, o.1, s, e) in
    let p = c.in_ok-guards.guards.ok in
    let q = c.in_ok-guards.guards.small in
    let short : length c.in_ok-guards.guards.items < 2 ^ 63 = omega (arith, p.0, p.1, q) in
    let many = paths_few c.in_ok-guards.guards.items c.args.paths.now.count c.in_ok-guards.ensures short in
    IfOk-weaker c.end_block.result _ _
    (λ block e. straight_makes c.args.scene.now c.args.paths.now c.args.made.now c.end_block.new.made c.push_commands.new.building c.push_sets.new.building (map numbered_seen c.args.commands.now) block c.len-start.result
    (record { levels = c.as_slice.result; guards = c.as_slice-2.result }) c.as_slice.ensures.value (c.as_slice-2.ensures.value ∙ c.in_ok-guards.ensures) low many c.in_ok-push_commands.ensures c.in_ok-push_sets.ensures e.building e.starts e.registers e.number_is (c.len-start.ensures ∙ c.args.made.now.building.draft.operations.ok.0))
    c.end_block.ensures

pub returns-clause-once : goal.returns-clause-once
returns-clause-once c =
    IfOk-weaker c.end_block.result _ _
    (λ block e. once_ended c.args.made.now _ c.end_block.new.made c.len-start.result block refl e)
    c.end_block.ensures
