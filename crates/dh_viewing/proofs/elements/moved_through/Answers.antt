use Rattle.std.proofs.Common.{sym, ap, ◌∙◌, length, List}
use Rattle.dh_tree.specs.declared.tables.Dim.{Dim}
use Rattle.dh_viewing.specs.Moved.{moved_numbers}
use Rattle.dh_viewing.proofs.MovedViews.{moved_view, moved_element}
use Rattle.dh_viewing.proofs.elements.moved_through.Goals as goal

pub moved_all-requires-clause-factors : goal.moved_all-requires-clause-factors
moved_all-requires-clause-factors c = (moved_view c.args.v.now c.args.factors.now c.requires.map c.requires.moves).some

pub moved_all-requires-clause-factors_long : goal.moved_all-requires-clause-factors_long
moved_all-requires-clause-factors_long c = (moved_view c.args.v.now c.args.factors.now c.requires.map c.requires.moves).long ∙ ap (λ (l : List Dim). length l) (sym c.as_slice.ensures)

pub moved_all-requires-clause-indices_long : goal.moved_all-requires-clause-indices_long
moved_all-requires-clause-indices_long c =
    c.requires.indices ∙ (ap (λ (l : List Dim). length l) (moved_view c.args.v.now c.args.factors.now c.requires.map c.requires.moves).same ∙ ap (λ (l : List Dim). length l) (sym c.as_slice.ensures))

pub returns : goal.returns
returns c =
    c.moved_all.ensures ∙ (ap (λ (l : List Dim). moved_numbers l c.args.factors.now c.args.offsets.now c.args.indices.now) c.as_slice.ensures
    ∙ moved_element c.args.v.now c.args.factors.now c.args.offsets.now c.args.indices.now c.requires.map c.requires.moves c.requires.offsets c.requires.indices)
