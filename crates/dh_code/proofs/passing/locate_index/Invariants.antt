-- Where the indices so far lead.
use Rattle.dh_viewing.specs.Numbers.{numbers_in}
use Rattle.dh_code.proofs.NumbersLocated.{LeadsFrom}
use Rattle.dh_code.proofs.passing.locate_index.Given as goal

abbrev pub invariant-loop-i : goal.invariant-loop-i
invariant-loop-i l = LeadsFrom l.dims (numbers_in l.index) l.i l.spread
