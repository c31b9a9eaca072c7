use Rattle.std.proofs.Common.{sym, ◌∙◌}
use Rattle.dh_tree.specs.Placements.{placement_breaches}
use Rattle.dh_tree.specs.Seen.{program_seen}
use Rattle.dh_tree.proofs.FirstBreaches.{none_is_kept, least_is_kept}
use Rattle.dh_rules.proofs.placements.rules.Goals as goal

pub returns-in-Some : goal.returns-in-Some
returns-in-Some c = least_is_kept (placement_breaches (program_seen c.args.typed.now)) c.in-Some.breach (sym c.in-Ok.ensures.places ∙ c.in-Some.is)

pub returns-in-Ok : goal.returns-in-Ok
returns-in-Ok c = none_is_kept (placement_breaches (program_seen c.args.typed.now)) (sym c.in-Ok.ensures.places ∙ c.in-None.is)
