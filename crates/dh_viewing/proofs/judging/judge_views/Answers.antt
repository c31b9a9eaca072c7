use Rattle.dh_tree.specs.Seen.{program_seen}
use Rattle.dh_viewing.proofs.NoViews.{nothing_judged}
use Rattle.dh_viewing.proofs.judging.judge_views.Goals as goal

pub returns-else-declares_view : goal.returns-else-declares_view
returns-else-declares_view c = nothing_judged (program_seen c.args.typed.now) c.declares_view.result c.args.kept.now c.declares_view.ensures c.if-declares_view.false
