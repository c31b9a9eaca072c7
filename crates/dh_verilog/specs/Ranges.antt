-- What the types of the program add to the validity of a net.
use Rattle.std.specs.Prelude.{◌≡◌, ℕ, ◌<◌, ◌^◌, List, length}
use Rattle.std.specs.List.{AllByRecursion}
use Rattle.dh_base.specs.declared.places.Place.{Place}
use Rattle.dh_net.specs.declared.nets.Net.{Net}
use Rattle.dh_net.specs.Valid.{IsValid, HasReadsZero}
use Rattle.dh_verilog.specs.Text.{text_of}

-- the place has a line and a column below 2^32
pub record IsPlaceInRange (p : Place) : Type 0 where
  pub line : p.line < 2 ^ 32
  pub column : p.column < 2 ^ 32

-- Numbers in clauses have no bound. Every net of the program keeps these: a list has fewer than 2^64
-- items, and the numbers of a place are `u32`.
pub record InRange (net : Net) : Type 0 where
  pub registers : length net.registers < 2 ^ 64
  pub cells : length net.cells < 2 ^ 64
  pub faults : AllByRecursion (λ f. IsPlaceInRange f.1) net.faults

-- no other valid net of the program, with reads of data 0, has this text
abbrev pub IsAlone : List ℕ → Net → Type 0
IsAlone text net = (other : Net) → IsValid other → InRange other → HasReadsZero other → text_of other ≡ text → other ≡ net

-- a valid net of the program, with reads of data 0
pub record IsOfProgram (net : Net) : Type 0 where
  pub valid : IsValid net
  pub range : InRange net
  pub zeros : HasReadsZero net
