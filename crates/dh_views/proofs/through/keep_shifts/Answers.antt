use Rattle.std.proofs.Common.{refl, ◌++◌, ◌∙◌}
use Rattle.dh_tree.specs.Indices.{term_index_breaches}
use Rattle.dh_tree.specs.Seen.{term_seen}
use Rattle.dh_tree.specs.ViewBreaches.{term_view_breaches}
use Rattle.dh_tree.proofs.Leasts.{keep_turn}
use Rattle.dh_views.specs.Through.{known_through, offsets_viewed}
use Rattle.dh_views.specs.Walked.{index_context_in}
use Rattle.dh_views.proofs.through.keep_shifts.Goals as goal

pub loop-offset-preserved : goal.loop-offset-preserved
loop-offset-preserved c =
    keep_turn term_seen (λ t. term_index_breaches (index_context_in c.args.typed.now) t ++ term_view_breaches (known_through c.args.typed.now c.args.views.now) t)
    (offsets_viewed c.args.typed.now c.args.views.now) (λ b bs. refl)
    c.loop-offset.kept c.keep_offset.new.kept c.args.by.now c.loop-offset.offset-index c.offset-item.result c.loop-offset-test.true c.offset-item.is c.keep_offset.ensures
    ∙ c.loop-offset.invariant
