use Rattle.std.proofs.Common.{sym, ap, ◌∙◌, List}
use Rattle.std.specs.Prelude.{ℤ}
use Rattle.dh_tree.specs.declared.tables.Dim.{Dim}
use Rattle.dh_viewing.specs.Numbers.{numbers_in}
use Rattle.dh_tree.specs.ViewElements as definitions
use Rattle.dh_viewing.proofs.MovedViews.{shrunk_element}
use Rattle.dh_viewing.proofs.elements.through.Goals as goal

pub returns-then-is_inside : goal.returns-then-is_inside
returns-then-is_inside c =
    shrunk_element c.args.v.now (numbers_in c.args.offset.now) (numbers_in c.args.index.now) c.requires.map c.in-Shrink.is
    (ap (λ (l : List ℤ). definitions.is_inside c.args.v.now.shape.dims l) (sym c.listed-indices.ensures)
    ∙ (ap (λ (l : List Dim). definitions.is_inside l c.listed-indices.result.now) (sym c.as_slice-in-Shrink.ensures) ∙ (sym c.is_inside.ensures ∙ c.if-is_inside.true)))
