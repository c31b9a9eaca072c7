use Rattle.std.proofs.Common.{refl, map, ◌++◌, ◌∙◌}
use Rattle.dh_tree.specs.Indices.{term_index_breaches}
use Rattle.dh_tree.specs.Seen.{factor_seen}
use Rattle.dh_tree.specs.ViewBreaches.{term_view_breaches}
use Rattle.dh_tree.proofs.Leasts.{keep_turn}
use Rattle.dh_views.specs.Through.{known_through, offsets_viewed}
use Rattle.dh_views.specs.Walked.{index_context_in}
use Rattle.dh_views.proofs.through.keep_multiples.Goals as goal

pub loop-pair-preserved : goal.loop-pair-preserved
loop-pair-preserved c =
    keep_turn factor_seen (λ s. term_index_breaches (index_context_in c.args.typed.now) s.offset ++ term_view_breaches (known_through c.args.typed.now c.args.views.now) s.offset)
    (λ l. offsets_viewed c.args.typed.now c.args.views.now (map (λ s. s.offset) l)) (λ b bs. refl)
    c.loop-pair.kept c.keep_offset.new.kept c.args.by.now c.loop-pair.pair-index c.pair-item.result c.loop-pair-test.true c.pair-item.is c.keep_offset.ensures
    ∙ c.loop-pair.invariant
