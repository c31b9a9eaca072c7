-- Tests in order, each with a value, of which the first that shows 1 counts; and one test with a value that stands
-- for all of them.
use Rattle.std.specs.Prelude.{◌≡◌, ℕ, List, [], ◌∷◌}
use Rattle.dh_cells.specs.declared.trees.Tested.{Tested}
use Rattle.dh_cells.specs.PlainCircuits.{PlainCircuit}
use Rattle.dh_cells.specs.Settled.{Signals, IsSettled, IsWire, Grows}
use Rattle.dh_cells.specs.ShownValues.{first_of}

-- a test of one bit, and a value of this width
pub record IsTested (d : PlainCircuit) (t : Tested) (width : ℕ) : Type 0 where
  pub test : IsWire d t.test 1
  pub value : IsWire d t.value width

abbrev pub AreTested : PlainCircuit → (tests : List Tested) → (width : ℕ) → Type 0
AreTested d [] width = Unit {0}
AreTested d (t ∷ ts) width = IsTested d t width × AreTested d ts width

-- this one shows what the first of those does, whatever is taken where none shows 1
abbrev pub StandsForTests : Signals → (found : Tested) → (tests : List Tested) → Type 0
StandsForTests x found tests = (default : ℕ) → first_of x (found ∷ []) default ≡ first_of x tests default

-- cells were added for a test that stands for all of these
pub record FindsFirst (old new : PlainCircuit) (width : ℕ) (tests : List Tested) (found : Tested) : Type 0 where
  pub grows : Grows old new
  pub there : IsTested new found width
  pub stands : (x : Signals) → IsSettled new x → StandsForTests x found tests
