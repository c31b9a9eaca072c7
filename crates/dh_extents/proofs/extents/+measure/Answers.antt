use Rattle.std.proofs.Math.Facts.{Fits-of_lt}
use Rattle.dh_extents.proofs.DimSizes.{banks_word, rows_word}
use Rattle.dh_extents.proofs.extents.+measure.Goals as goal

pub overflow_mul-result : goal.overflow_mul-result
overflow_mul-result t c = Fits-of_lt (banks_word c.args.dims.now _ c.in-len1-up.len_at_least c.requires.dims c.measure-inner.result.banks c.measure-inner.ensures.0)

pub overflow_mul-result-2 : goal.overflow_mul-result-2
overflow_mul-result-2 t c = Fits-of_lt (rows_word c.args.dims.now _ c.in-len1-up.len_at_least c.requires.dims c.measure-inner.result.rows c.measure-inner.ensures.1.0)
