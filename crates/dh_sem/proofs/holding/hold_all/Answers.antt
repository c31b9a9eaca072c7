use Rattle.std.proofs.lemmas.Result.{IfOk-weaker}
use Rattle.dh_sem.proofs.ListsHeld.{holds_all}
use Rattle.dh_sem.proofs.holding.hold_all.Goals as goal

pub returns : goal.returns
returns c =
    IfOk-weaker c.hold.result _ _ (λ first h. holds_all c.args.names.now c.args.made.now c.hold.new.made c.in_ok-phases.phases.items c.as_slice.result.now c.args.command.now first c.as_slice.ensures.value c.in_ok-phases.ensures h) c.hold.ensures
