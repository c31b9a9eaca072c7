use Rattle.dh_tree.specs.Seen.{program_seen}
use Rattle.dh_views.proofs.Turns.{refusal_told}
use Rattle.dh_views.proofs.walks.first_breach.Goals as goal

pub returns-in_err-keep_views : goal.returns-in_err-keep_views
returns-in_err-keep_views c =
    refusal_told (program_seen c.args.typed.now) c.from_residual.result c.in_err-keep_views.field-0.0 c.from_residual.ensures.1 c.in_err-keep_views.ensures.0
