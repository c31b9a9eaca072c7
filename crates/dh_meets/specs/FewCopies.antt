-- What the limits and the rules on indices tell of the accesses of a program: how many copies there are of each, and that
-- the bank that is written of one is a bank of its memory.
use Rattle.std.specs.Prelude.{◌≡◌, ℕ, ◌<◌, ◌≤◌, Some, slice_get}
use Rattle.dh_base.specs.Limits.{most_copies}
use Rattle.dh_tree.specs.Elements.{banks_of}
use Rattle.dh_tree.specs.Memories.{Memory, memory_in, memories_of}
use Rattle.dh_tree.specs.PlainTrees.{Term, Program}
use Rattle.dh_meaning.specs.Paths.{copies_in}
use Rattle.dh_meets.specs.Charges.{loop_factors}
use Rattle.dh_meets.specs.SourceEvents.{in_row, SourceAccess, accesses_in, trace}

-- no access stands in more copies
abbrev pub HasFewCopies : Program → Type 0
HasFewCopies p = (k : ℕ) (a : SourceAccess) → slice_get (accesses_in (trace p)) k ≡ Some a → copies_in (loop_factors a.site.loops) ≤ most_copies

-- an access by a row of a bank names a bank that its memory has
abbrev pub NamesBanks : Program → Type 0
NamesBanks p =
    (k bank : ℕ) (a : SourceAccess) (row : Term) (m : Memory) → slice_get (accesses_in (trace p)) k ≡ Some a → a.element ≡ in_row bank row
    → memory_in (memories_of p) a.entity ≡ Some m → bank < banks_of m.shape.dims
