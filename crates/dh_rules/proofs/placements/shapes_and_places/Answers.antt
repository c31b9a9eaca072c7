use Rattle.dh_tree.specs.Seen.{program_seen}
use Rattle.dh_rules.proofs.Both.{first_shape, no_shape}
use Rattle.dh_rules.proofs.placements.shapes_and_places.Goals as goal

pub returns-in-Some-clause-breach : goal.returns-in-Some-clause-breach
returns-in-Some-clause-breach c =
    first_shape (program_seen c.args.typed.now) c.in-Ok.firsts.shapes c.keep_views.new.kept c.in-Some.breach c.in-Ok.ensures.shapes c.in-Ok-keep_views.ensures c.in-Some.is

pub returns-in-Some-stages-clause-breach : goal.returns-in-Some-stages-clause-breach
returns-in-Some-stages-clause-breach c =
    no_shape (program_seen c.args.typed.now) c.in-Ok.firsts.shapes c.keep_views.new.kept c.in-Ok.ensures.shapes c.in-Ok-keep_views.ensures c.in-None.is
