use Rattle.std.proofs.Common.{List, ap, ◌∙◌}
use Rattle.dh_tree.specs.declared.tables.Dim.{Dim}
use Rattle.dh_tree.specs.Elements.{banks_of}
use Rattle.dh_expressions.specs.Numbers.{narrowed}
use Rattle.dh_unroll.proofs.ReachedSets.{kept_banks}
use Rattle.dh_unroll.proofs.viewing.view_banks.Goals as goal

pub returns : goal.returns
returns c = c.narrow.ensures ∙ (ap narrowed (c.bank_count.ensures ∙ ap (λ (ds : List Dim). banks_of ds) c.as_slice.ensures) ∙ kept_banks (banks_of c.args.view.now.shape.dims) c.requires.own.few_banks)
