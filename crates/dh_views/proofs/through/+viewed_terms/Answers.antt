use Rattle.std.proofs.Common.{refl, ◌∙◌}
use Rattle.dh_tree.specs.Seen.{term_seen, terms}
use Rattle.dh_tree.specs.ViewBreaches.{term_view_breaches, terms_view_breaches}
use Rattle.dh_tree.proofs.Leasts.{keep_turn}
use Rattle.dh_views.specs.Through.{known_through}
use Rattle.dh_views.proofs.through.+viewed_terms.Goals as goal

pub keep_all_viewed-loop-index-preserved : goal.keep_all_viewed-loop-index-preserved
keep_all_viewed-loop-index-preserved t c =
    keep_turn term_seen (term_view_breaches (known_through c.args.typed.now c.args.views.now)) (λ ts. terms_view_breaches (known_through c.args.typed.now c.args.views.now) (terms ts)) (λ b bs. refl)
    c.loop-index.kept c.keep_viewed.new.kept c.args.indices.now c.loop-index.index-index c.index-item.result c.loop-index-test.true c.index-item.is c.keep_viewed.ensures
    ∙ c.loop-index.invariant
