use Rattle.std.proofs.Common.{◌≡◌, ℕ, suc, List, subst, sym, add-one, arith}
use Rattle.dh_commands.specs.LanesRun.{paths_counted}
use Rattle.dh_tree.specs.Seen.{term_seen}
use Rattle.dh_commands.specs.Setting.{TestsFirst}
use Rattle.dh_commands.proofs.TestsDone.{tests_more}
use Rattle.dh_commands.specs.MadeCommands.{MadeTests}
use Rattle.dh_commands.proofs.testing.test_all.Goals as goal

pub loop-i-preserved : goal.loop-i-preserved
loop-i-preserved c =
    rw (add-one c.loop-i.i)
    (record {
      means =
          subst (λ (ns : List ℕ). TestsFirst c.args.scene.now c.args.around c.args.building.now c.test_at.new.building c.args.first c.in_ok-own.own.next (term_seen c.args.test.now) ns (suc c.loop-i.i)) (sym c.in_ok-push.ensures.items)
          (tests_more c.args.scene.now c.args.around c.args.first (term_seen c.args.test.now) c.loop-i.next c.loop-i.i c.args.building.now c.loop-i.building c.test_at.new.building c.loop-i.tests.items c.in_ok-own.own c.loop-i-test.true c.loop-i.invariant.means c.in_ok-own.ensures.means);
      made = (c.loop-i.building, (c.loop-i.next, (c.loop-i.tests.items, (c.in_ok-own.own.value, (c.loop-i.invariant.made, (c.in_ok-own.ensures.made, c.in_ok-push.ensures.items))))));
    })

pub returns-clause-means : goal.returns-clause-means
returns-clause-means c =
    let end : c.loop-i.i ≡ paths_counted c.args.around = let l = c.loop-i-test.false in let e = c.loop-i.auto.i-end in omega (arith, l, e) in
    subst (λ (n : ℕ). TestsFirst c.args.scene.now c.args.around c.args.building.now c.loop-i.building c.args.first c.loop-i.next (term_seen c.args.test.now) c.loop-i.tests.items n) end c.loop-i.invariant.means

pub returns-clause-made : goal.returns-clause-made
returns-clause-made c =
    let end : c.loop-i.i ≡ paths_counted c.args.around = let l = c.loop-i-test.false in let e = c.loop-i.auto.i-end in omega (arith, l, e) in
    subst (λ (n : ℕ). MadeTests c.args.scene.now c.args.around c.args.first (term_seen c.args.test.now) n c.args.building.now c.loop-i.building c.loop-i.next c.loop-i.tests.items) end c.loop-i.invariant.made
