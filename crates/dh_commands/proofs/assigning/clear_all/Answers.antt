use Rattle.std.proofs.Common.{add-one, ◌≡◌, ℕ, subst, arith, refl}
use Rattle.dh_commands.proofs.PathsDone.{all_more, all_none}
use Rattle.dh_meaning.specs.CoreOf.{entity_number}
use Rattle.dh_commands.specs.LanesRun.{paths_counted}
use Rattle.dh_commands.specs.MadeCommands.{ClearedTo}
use Rattle.dh_commands.proofs.assigning.clear_all.Goals as goal

pub loop-i-init : goal.loop-i-init
loop-i-init c = record { means = all_none c.args.scene.now c.args.around _ _ _ 0 0 c.args.building.now; made = λ first. (refl, refl) }

pub loop-i-preserved : goal.loop-i-preserved
loop-i-preserved c =
    rw (add-one c.loop-i.i)
    (record {
      means = all_more c.args.scene.now c.args.around _ _ _ 0 0 0 0 c.loop-i.i c.args.building.now c.loop-i.building c.clear_at.new.building c.loop-i-test.true c.loop-i.invariant.means c.in_ok-clear_at.ensures.means;
      made = λ first. (c.loop-i.building, (first, (c.loop-i.invariant.made first, (c.in_ok-clear_at.ensures.made, refl))));
    })

pub returns-clause-made : goal.returns-clause-made
returns-clause-made c = λ first.
    let end : c.loop-i.i ≡ paths_counted c.args.around = let l = c.loop-i-test.false in let e = c.loop-i.auto.i-end in omega (arith, l, e) in
    subst (λ (n : ℕ). ClearedTo c.args.scene.now c.args.around first (entity_number c.args.target.now.entity) n c.args.building.now c.loop-i.building first) end (c.loop-i.invariant.made first)
