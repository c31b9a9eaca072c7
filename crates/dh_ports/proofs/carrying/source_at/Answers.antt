use Rattle.std.proofs.Common.{ap, sym, ◌∙◌, length, List}
use Rattle.dh_tree.specs.declared.tables.Dim.{Dim}
use Rattle.dh_viewing.proofs.MovedViews.{view_long}
use Rattle.dh_ports.proofs.carrying.source_at.Goals as goal

pub covered-requires-clause-long : goal.covered-requires-clause-long
covered-requires-clause-long c =
    ap (λ (l : List Dim). length l) c.as_slice-dims.ensures ∙ (view_long c.args.view.now c.requires c.in-Shrink.is ∙ sym (ap (λ (l : List Dim). length l) c.as_slice.ensures))
