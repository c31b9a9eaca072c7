use Rattle.std.proofs.lemmas.Result.{IfOk-weaker}
use Rattle.dh_address.specs.SeenAround.{around_seen}
use Rattle.dh_address.proofs.IndexAims.{aims_row, aims_indices}
use Rattle.dh_address.proofs.aiming.aim_reach.Goals as goal

pub returns-in-Some : goal.returns-in-Some
returns-in-Some c =
    IfOk-weaker c.aim_row.result _ _
    (λ t h. aims_row (around_seen c.args.old.now c.args.known.now) c.args.reach.now c.args.indices.now c.in-Some.row c.args.list.now t c.in-Some.is h)
    c.aim_row.ensures

pub returns-in-None : goal.returns-in-None
returns-in-None c =
    IfOk-weaker c.aim_indices.result _ _
    (λ t h. aims_indices (around_seen c.args.old.now c.args.known.now) c.args.reach.now c.args.indices.now c.args.list.now c.aim_indices.new.list t c.in-None.is h)
    c.aim_indices.ensures
