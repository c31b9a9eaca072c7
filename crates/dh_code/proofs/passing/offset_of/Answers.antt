use Rattle.std.proofs.Common.{◌≤◌, ap, sym, ◌∙◌, subst}
use Rattle.std.specs.Prelude.{ℕ}
use Rattle.dh_tree.specs.ViewElements.{element_through, offsets_needed}
use Rattle.dh_viewing.specs.Numbers.{numbers_in}
use Rattle.dh_code.specs.Operated.{index_values, view_seen}
use Rattle.dh_code.proofs.LinksPassed.{own_few, shrink_still, split_still}
use Rattle.dh_code.proofs.passing.offset_of.Goals as goal

pub trimmed-requires : goal.trimmed-requires
trimmed-requires c = subst (λ (n : ℕ). n ≤ 6) (sym c.len.ensures) c.requires.map.parent.few_dims

pub trimmed-requires-in-Split : goal.trimmed-requires-in-Split
trimmed-requires-in-Split c = subst (λ (n : ℕ). n ≤ 6) (sym c.len-in-Split.ensures) c.requires.map.parent.few_dims

pub returns-in-Shrink-clause-through : goal.returns-in-Shrink-clause-through
returns-in-Shrink-clause-through c is = shrink_still c.args.link.now (numbers_in c.trimmed.result) (index_values (view_seen c.args.view.now) c.args.own.now) is c.in-Shrink.is

pub returns-in-Split-clause-through : goal.returns-in-Split-clause-through
returns-in-Split-clause-through c is = split_still c.args.link.now (numbers_in c.trimmed-in-Split.result) (index_values (view_seen c.args.view.now) c.args.own.now) is c.in-Split.is

pub numbers_of-requires-clause-few : goal.numbers_of-requires-clause-few
numbers_of-requires-clause-few c = own_few c.args.link.now _ c.requires.map c.requires.own

pub returns-in-Suffix-clause-through : goal.returns-in-Suffix-clause-through
returns-in-Suffix-clause-through c is = ap (λ l. element_through c.args.link.now l is) c.numbers_of.ensures.values

pub returns-in-Suffix-clause-long : goal.returns-in-Suffix-clause-long
returns-in-Suffix-clause-long c = c.numbers_of.ensures.long ∙ (c.requires.own ∙ ap (λ s. offsets_needed s c.args.link.now.parent.dims) c.in-Suffix.is)

pub numbers_of-requires-in-Shift-clause-few : goal.numbers_of-requires-in-Shift-clause-few
numbers_of-requires-in-Shift-clause-few c = own_few c.args.link.now _ c.requires.map c.requires.own

pub returns-in-Shift-clause-through : goal.returns-in-Shift-clause-through
returns-in-Shift-clause-through c is = ap (λ l. element_through c.args.link.now l is) c.numbers_of-in-Shift.ensures.values

pub returns-in-Shift-clause-long : goal.returns-in-Shift-clause-long
returns-in-Shift-clause-long c = c.numbers_of-in-Shift.ensures.long ∙ (c.requires.own ∙ ap (λ s. offsets_needed s c.args.link.now.parent.dims) c.in-Shift.is)
