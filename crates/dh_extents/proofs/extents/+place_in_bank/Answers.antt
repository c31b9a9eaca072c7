use Rattle.std.proofs.Common.{ℕ, ◌+◌, ◌*◌, ◌/◌, ◌<◌, subst}
use Rattle.std.specs.Prelude.{slice_index_or}
use Rattle.std.proofs.Math.Facts.{Fits-of_lt}
use Rattle.dh_extents.proofs.DimSizes.{index_in, index_word, position_word, position_all, all_elements_are, no_more, first_part, some_element}
use Rattle.dh_extents.proofs.extents.+place_in_bank.Goals as goal

pub overflow_mul-index : goal.overflow_mul-index
overflow_mul-index t c = Fits-of_lt (no_more _ _ (index_word c.args.dims.now _ c.in-len1-up.len_at_least c.requires.dims c.args.row c.args.bank c.measure-inner.result.rows c.measure-inner.result.banks c.measure-inner.ensures.1.0 c.measure-inner.ensures.0 c.requires.row c.requires.bank) (first_part _ (c.args.bank / c.measure-inner.result.banks)))

pub overflow_add-index : goal.overflow_add-index
overflow_add-index t c = Fits-of_lt (index_word c.args.dims.now _ c.in-len1-up.len_at_least c.requires.dims c.args.row c.args.bank c.measure-inner.result.rows c.measure-inner.result.banks c.measure-inner.ensures.1.0 c.measure-inner.ensures.0 c.requires.row c.requires.bank)

pub overflow_mul-result : goal.overflow_mul-result
overflow_mul-result t c = Fits-of_lt (no_more _ _ (position_word c.args.dims.now _ c.in-len1-up.len_at_least c.requires.dims _ (index_in c.args.dims.now _ c.in-len1-up.len_at_least c.requires.dims c.args.row c.args.bank c.measure-inner.result.rows c.measure-inner.result.banks c.measure-inner.ensures.1.0 c.measure-inner.ensures.0 c.requires.row c.requires.bank) c.measure-inner.result.elements 0 c.measure-inner.ensures.1.1 (some_element c.args.dims.now (record { size = 0; banks = 0 }) c.in-len1-up.len_at_least c.requires.dims)) (first_part _ 0))

pub overflow_add-result : goal.overflow_add-result
overflow_add-result t c = Fits-of_lt (position_word c.args.dims.now _ c.in-len1-up.len_at_least c.requires.dims _ (index_in c.args.dims.now _ c.in-len1-up.len_at_least c.requires.dims c.args.row c.args.bank c.measure-inner.result.rows c.measure-inner.result.banks c.measure-inner.ensures.1.0 c.measure-inner.ensures.0 c.requires.row c.requires.bank) c.measure-inner.result.elements c.place_in_bank.result c.measure-inner.ensures.1.1 c.place_in_bank.ensures.within)

pub returns-clause-within : goal.returns-clause-within
returns-clause-within t c = subst (λ (n : ℕ). ((c.args.row / c.measure-inner.result.rows) * (slice_index_or c.args.dims.now 0 (record { size = 0; banks = 0 })).banks + c.args.bank / c.measure-inner.result.banks) * c.measure-inner.result.elements + c.place_in_bank.result < n) (all_elements_are c.args.dims.now _ c.in-len1-up.len_at_least c.requires.dims) (position_all c.args.dims.now _ c.in-len1-up.len_at_least c.requires.dims _ (index_in c.args.dims.now _ c.in-len1-up.len_at_least c.requires.dims c.args.row c.args.bank c.measure-inner.result.rows c.measure-inner.result.banks c.measure-inner.ensures.1.0 c.measure-inner.ensures.0 c.requires.row c.requires.bank) c.measure-inner.result.elements c.place_in_bank.result c.measure-inner.ensures.1.1 c.place_in_bank.ensures.within)
