use Rattle.std.proofs.Common.{◌≡◌, ◌<◌, ◌^◌, length, refl, ap, subst, ◌∙◌, arith}
use Rattle.dh_tree.specs.Seen.{term_seen}
use Rattle.dh_gathering.specs.Gathered.{SetsFirst}
use Rattle.dh_gathering.proofs.EachNamedOnce.{once_ended}
use Rattle.dh_gathering.proofs.StraightMade.{paths_few}
use Rattle.dh_gathering.proofs.TestMade.{tests_make}
use Rattle.dh_gathering.proofs.blocks.test_block.Goals as goal

pub returns-clause-made : goal.returns-clause-made
returns-clause-made c =
    let o = c.args.paths.now.levels.ok in
    let s = c.args.paths.now.levels.small in
    let e : length c.as_slice.result.now ≡ length c.args.paths.now.levels.items = ap (λ l. length l) c.as_slice.ensures.value in
    let low : length c.as_slice.result.now < 2 ^ 63 = omega (arith, o.0, o.1, s, e) in
    let p = c.in_ok-guards.guards.ok in
    let q = c.in_ok-guards.guards.small in
    let short : length c.in_ok-guards.guards.items < 2 ^ 63 = omega (arith, p.0, p.1, q) in
    let many = paths_few c.in_ok-guards.guards.items c.args.paths.now.count c.in_ok-guards.ensures short in
    tests_make c.args.scene.now c.args.paths.now c.args.made.now c.end_block.new.made c.test_all.new.building c.push_first.new.draft c.args.first c.in_ok-tests.field-0-1 (term_seen c.args.test.now) c.in_ok-tests.tests.items c.len-flag.result c.in_ok-block.block c.len-start.result
    (record { levels = c.as_slice.result; guards = c.as_slice-2.result }) c.as_slice.ensures.value (c.as_slice-2.ensures.value ∙ c.in_ok-guards.ensures) low many c.in_ok-tests.ensures.means c.in_ok-tests.ensures.made
    (subst (λ l. SetsFirst c.test_all.new.building.draft c.push_first.new.draft (term_seen c.args.test.now) l c.len-flag.result) c.as_slice-3.ensures.value c.in_ok-push_first.ensures)
    (ap (λ b. b.draft) c.in_ok-block.ensures.building) (ap (λ b. b.accesses) c.in_ok-block.ensures.building) (ap (λ b. b.values) c.in_ok-block.ensures.building)
    c.in_ok-block.ensures.starts (c.in_ok-block.ensures.registers ∙ c.in_ok-push.ensures) c.len-flag.ensures c.in_ok-block.ensures.number_is (c.len-start.ensures ∙ c.args.made.now.building.draft.operations.ok.0)

pub returns-clause-once : goal.returns-clause-once
returns-clause-once c = once_ended c.args.made.now _ c.end_block.new.made c.len-start.result c.in_ok-block.block refl c.in_ok-block.ensures
