use Rattle.std.proofs.Common.{refl, ◌∙◌}
use Rattle.dh_tree.specs.Indices.{shape_breaches, decls_shape_breaches}
use Rattle.dh_tree.specs.Seen.{declared_seen}
use Rattle.dh_tree.proofs.Leasts.{keep_turn}
use Rattle.dh_views.proofs.declared.keep_decl_shapes.Goals as goal

pub loop-decl-preserved : goal.loop-decl-preserved
loop-decl-preserved c =
    keep_turn declared_seen (λ d. shape_breaches d.shape d.shape_places) decls_shape_breaches (λ b bs. refl) c.loop-decl.kept c.keep_shape.new.kept c.args.decls.now c.loop-decl.decl-index c.decl-item.result c.loop-decl-test.true c.decl-item.is c.keep_shape.ensures
    ∙ c.loop-decl.invariant
