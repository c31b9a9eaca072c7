use Rattle.std.proofs.lemmas.Result.{IfOk-weaker}
use Rattle.dh_address.specs.SeenAround.{around_seen}
use Rattle.dh_address.proofs.RangeTurns.{passes_row, passes_indices}
use Rattle.dh_address.proofs.passing.pass_reach.Goals as goal

pub returns-in-Some : goal.returns-in-Some
returns-in-Some c =
    IfOk-weaker c.pass_row.result _ _
    (λ p h. passes_row (around_seen c.args.old.now c.args.known.now) c.args.reach.now c.in-Some.row c.args.list.now p c.in-Some.is h) c.pass_row.ensures

pub returns-in-None : goal.returns-in-None
returns-in-None c =
    IfOk-weaker c.pass_indices.result _ _
    (λ p h. passes_indices (around_seen c.args.old.now c.args.known.now) c.args.reach.now c.args.list.now c.pass_indices.new.list p c.in-None.is h)
    c.pass_indices.ensures
