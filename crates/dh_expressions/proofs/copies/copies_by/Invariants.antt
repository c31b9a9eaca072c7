-- The paths so far are copied, and their leaders counted on their banks.
use Rattle.dh_expressions.specs.Copying.{banks_by, groups_by, leaders_by}
use Rattle.dh_expressions.proofs.CopiesMade.{CountedSoFar}
use Rattle.dh_expressions.proofs.copies.copies_by.Given as goal

abbrev pub invariant-loop-number : goal.invariant-loop-number
invariant-loop-number l =
    CountedSoFar (leaders_by l.around.levels.now l.counts) (banks_by l.spans l.around.levels.now l.named) (groups_by l.around.levels.now l.shifts) l.around.guards.now l.fn.draft l.draft l.tally l.numbers.items l.number l.copies.items
