use Rattle.std.proofs.Common.{ℕ, ap, ◌∙◌}
use Rattle.std.specs.Prelude.{Vec}
use Rattle.std.specs.Global.{Global}
use Rattle.dh_sim.proofs.Copying.{copy_on}
use Rattle.dh_sim.proofs.arrays.copied.Goals as goal

pub loop-list-preserved : goal.loop-list-preserved
loop-list-preserved c =
    copy_on c.args.lists.now c.loop-list.copies.items _ c.loop-list.list-index c.list-item.result _ _ c.loop-list-test.true
    (c.as_slice.ensures.value ∙ ap (λ (v : Vec ℕ Global). v.items) c.list-item.is) c.in_ok-copy.ensures.items c.in_ok-push.ensures.items c.loop-list.invariant
