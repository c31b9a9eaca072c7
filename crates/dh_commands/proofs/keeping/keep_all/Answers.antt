use Rattle.std.proofs.Common.{add-one, ◌≡◌, ℕ, subst, arith}
use Rattle.dh_tree.specs.Seen.{view_plan}
use Rattle.dh_tree.specs.ViewOffsets.{offsets_of}
use Rattle.dh_ways.specs.Seen.{hidden_seen}
use Rattle.dh_commands.specs.LanesRun.{paths_counted}
use Rattle.dh_commands.specs.MadeCommands.{KeptTo}
use Rattle.dh_commands.specs.Setting.{KeepsFirst}
use Rattle.dh_commands.proofs.PathsDone.{all_more}
use Rattle.dh_commands.proofs.keeping.keep_all.Goals as goal

pub loop-i-preserved : goal.loop-i-preserved
loop-i-preserved c =
    rw (add-one c.loop-i.i)
    (record {
      means = all_more c.args.scene.now c.args.around _ _ _ c.args.first _ c.loop-i.next _ c.loop-i.i c.args.building.now c.loop-i.building c.keep_at.new.building c.loop-i-test.true c.loop-i.invariant.means c.in_ok-next.ensures.means;
      made = (c.loop-i.building, (c.loop-i.next, (c.loop-i.invariant.made, c.in_ok-next.ensures.made)));
    })

pub returns-clause-made : goal.returns-clause-made
returns-clause-made c =
    let end : c.loop-i.i ≡ paths_counted c.args.around = let l = c.loop-i-test.false in let e = c.loop-i.auto.i-end in omega (arith, l, e) in
    subst (λ (n : ℕ). KeptTo c.args.scene.now c.args.around c.args.first c.args.hidden.entity (offsets_of (view_plan c.args.form.now)) n c.args.building.now c.loop-i.building c.loop-i.next) end c.loop-i.invariant.made

pub returns-clause-means : goal.returns-clause-means
returns-clause-means c =
    let end : c.loop-i.i ≡ paths_counted c.args.around = let l = c.loop-i-test.false in let e = c.loop-i.auto.i-end in omega (arith, l, e) in
    subst (λ (n : ℕ). KeepsFirst c.args.scene.now c.args.around c.args.building.now c.loop-i.building c.args.first c.loop-i.next (hidden_seen c.args.hidden) (offsets_of (view_plan c.args.form.now)) n) end c.loop-i.invariant.means
