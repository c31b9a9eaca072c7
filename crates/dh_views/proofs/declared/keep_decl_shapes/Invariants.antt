use Rattle.std.proofs.Common.{◌≡◌, map, drop}
use Rattle.dh_tree.specs.Indices.{decls_shape_breaches}
use Rattle.dh_tree.specs.LeastBreach.{least_of}
use Rattle.dh_tree.specs.Seen.{declared_seen}
use Rattle.dh_views.proofs.declared.keep_decl_shapes.Given as goal

-- what is left leads to what all leads to
abbrev pub invariant-loop-decl : goal.invariant-loop-decl
invariant-loop-decl l = least_of l.kept (decls_shape_breaches (map declared_seen (drop l.decl-index l.decls))) ≡ least_of l.fn.kept (decls_shape_breaches (map declared_seen l.decls))
