use Rattle.std.proofs.Common.{◌≡◌, take}
use Rattle.dh_backend.specs.SuitedPlans.{low_words}
use Rattle.dh_backend.proofs.times.narrow.Given as goal

abbrev pub invariant-loop-number : goal.invariant-loop-number
invariant-loop-number l = l.words.items ≡ low_words (take l.number-index l.numbers)
