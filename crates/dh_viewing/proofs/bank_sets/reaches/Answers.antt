use Rattle.std.proofs.Common.{ap, sym, ◌∙◌, length, List}
use Rattle.dh_tree.specs.declared.tables.Dim.{Dim}
use Rattle.dh_viewing.proofs.MovedViews.{view_long}
use Rattle.dh_viewing.proofs.bank_sets.reaches.Goals as goal

pub covering_bank-requires-clause-long : goal.covering_bank-requires-clause-long
covering_bank-requires-clause-long c =
    ap (λ (l : List Dim). length l) c.as_slice-view.ensures ∙ (view_long c.args.v.now c.requires c.in-Shrink.is ∙ sym (ap (λ (l : List Dim). length l) c.as_slice.ensures))
