use Rattle.std.proofs.Common.{ap, ◌∙◌}
use Rattle.dh_tree.specs.declared.trees.programs.Tree.{Tree}
use Rattle.dh_tree.specs.LeastBreach.{least_of}
use Rattle.dh_tree.specs.Seen.{action_seen, program_seen}
use Rattle.dh_tree.specs.ViewBreaches.{action_view_breaches}
use Rattle.dh_views.specs.Through.{known_through}
use Rattle.dh_views.proofs.Turns.{views_kept, none_kept}
use Rattle.dh_views.proofs.walks.keep_views.Goals as goal

pub returns-in-Some : goal.returns-in-Some
returns-in-Some c =
    views_kept (program_seen c.args.typed.now) c.in-Ok.judged c.in-Some.views c.args.kept.now c.judge_views.new.kept c.keep_viewed_command.new.kept c.in-Ok.ensures c.in-Some.is
    (c.keep_viewed_command.ensures ∙ ap (λ (t : Tree). least_of c.judge_views.new.kept (action_view_breaches (known_through c.args.typed.now c.in-Some.views) (action_seen t.body))) c.tree-tree.ensures.tree)

pub returns-in-None : goal.returns-in-None
returns-in-None c = none_kept (program_seen c.args.typed.now) c.in-Ok.judged c.args.kept.now c.judge_views.new.kept c.in-Ok.ensures c.in-None.is
