-- Where the variables of a program have their slots, and what these hold.
use Rattle.std.specs.Prelude.{◌≡◌, ℕ, ◌+◌, ◌<◌, ◌≤◌, ◌^◌, ◌⊎◌, List, slice_index, slice_index_or, length}
use Rattle.dh_value.specs.declared.kinds.Kind.TheVariants as kind
use Rattle.dh_value.specs.Words.{residue}
use Rattle.dh_meaning.specs.Paths.{Path}
use Rattle.dh_meaning.specs.Effects.{Variables}
use Rattle.dh_code.specs.declared.places.VariableSlots.{VariableSlots}
use Rattle.dh_code.specs.Ranks.{IsPath, copies_in, rank_of}

-- the slots of each variable by its entity, and the factors of the loops round its declaration
pub record Placing : Type 0 where
  pub held : List VariableSlots
  pub factors : ℕ → List ℕ

-- what is no variable has the first slot
abbrev pub held_nowhere : VariableSlots
held_nowhere = record { kind = kind.Bool; depth = 0; first = 0 }

abbrev pub held_at : List VariableSlots → (entity : ℕ) → VariableSlots
held_at held entity = slice_index_or held entity held_nowhere

-- the slot of a variable at a path inside the loops round its declaration
abbrev pub slot_of : Placing → (entity : ℕ) → Path → ℕ
slot_of p entity path = (held_at p.held entity).first + rank_of (p.factors entity) path

-- the slots of a variable end before those of another begin
abbrev pub EndsBefore : Placing → (entity other : ℕ) → Type 0
EndsBefore p entity other = (held_at p.held entity).first + copies_in (p.factors entity) ≤ (held_at p.held other).first

-- among so many slots each variable has one for each of its copies, and no other variable has these
pub record IsPlacing (p : Placing) (count : ℕ) : Type 0 where
  pub within : (entity : ℕ) → entity < length p.held → (held_at p.held entity).first + copies_in (p.factors entity) ≤ count
  pub apart : (entity other : ℕ) → entity < length p.held → other < length p.held → (entity ≡ other → ⊥) → EndsBefore p entity other ⊎ EndsBefore p other entity

-- each slot holds the value of its variable's copy, modulo 2^64
pub record Holds (p : Placing) (slots : List ℕ) (variables : Variables) : Type 0 where
  pub placing : IsPlacing p (length slots)
  pub each : (entity : ℕ) (path : Path) → entity < length p.held → IsPath (p.factors entity) path
      → slice_index slots (slot_of p entity path) ≡ residue (2 ^ 64) (variables entity path)
