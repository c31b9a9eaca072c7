use Rattle.std.proofs.Common.{sym, ◌∙◌}
use Rattle.dh_tree.specs.Seen.{program_seen}
use Rattle.dh_tree.specs.ViewBreaches.{shapes_breaches_of}
use Rattle.dh_tree.proofs.FirstBreaches.{none_is_kept, least_is_kept}
use Rattle.dh_views.proofs.walks.shapes.Goals as goal

pub returns-in-Some-clause-breach : goal.returns-in-Some-clause-breach
returns-in-Some-clause-breach c = least_is_kept (shapes_breaches_of (program_seen c.args.typed.now)) c.in-Some.breach (sym c.in-Ok.ensures ∙ c.in-Some.is)

pub returns-in-None-clause-breach : goal.returns-in-None-clause-breach
returns-in-None-clause-breach c = none_is_kept (shapes_breaches_of (program_seen c.args.typed.now)) (sym c.in-Ok.ensures ∙ c.in-None.is)
