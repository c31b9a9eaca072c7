-- The sets at the end of a block, from the log of what variables were given: of each register once.
use Rattle.std.specs.Prelude.{◌≡◌, ℕ, List, [], ◌∷◌, ◌++◌, slice_set, Option, Some, None}
use Rattle.dh_plan.specs.declared.operations.Operation.{Operation}
use Rattle.dh_plan.specs.declared.operations.OperationForm.TheVariants.{Set}
use Rattle.dh_commands.specs.declared.assignments.Change.{Change}
use Rattle.dh_commands.specs.declared.buildings.Building.{Building}
use Rattle.dh_commands.specs.Undone.{given_at}

-- a register and the value that it was given, if it was given one
abbrev pub set_of : (register : ℕ) → Option ℕ → List (ℕ × ℕ)
set_of register None = []
set_of register (Some value) = (register, value) ∷ []

-- of the registers of a log, the sets; what is set is given no more
abbrev pub sets_pushed : List Change → (current : List (Option ℕ)) → List (ℕ × ℕ)
sets_pushed [] current = []
sets_pushed (c ∷ cs) current = set_of c.register (given_at current c.register) ++ sets_pushed cs (slice_set current c.register None)

abbrev pub cleared_registers : List Change → (current : List (Option ℕ)) → List (Option ℕ)
cleared_registers [] current = current
cleared_registers (c ∷ cs) current = cleared_registers cs (slice_set current c.register None)

abbrev pub setting : ℕ × ℕ → Operation
setting s = record { guard = None; form = Set s.0 s.1 }

abbrev pub settings : List (ℕ × ℕ) → List Operation
settings [] = []
settings (s ∷ ss) = setting s ∷ settings ss

-- one register is set, where it was given a value
pub record SetsGivenRegister (old new : Building) (register : ℕ) : Type 0 where
  pub operations : new.draft.operations.items ≡ old.draft.operations.items ++ settings (set_of register (given_at old.values.current.items register))
  pub faults : new.draft.faults ≡ old.draft.faults
  pub accesses : new.accesses ≡ old.accesses
  pub current : new.values.current.items ≡ slice_set old.values.current.items register None
  pub log : new.values.log ≡ old.values.log
  pub marks : new.values.marks ≡ old.values.marks

-- those of these changes
pub record SetsChanges (old new : Building) (changes : List Change) : Type 0 where
  pub operations : new.draft.operations.items ≡ old.draft.operations.items ++ settings (sets_pushed changes old.values.current.items)
  pub faults : new.draft.faults ≡ old.draft.faults
  pub accesses : new.accesses ≡ old.accesses
  pub current : new.values.current.items ≡ cleared_registers changes old.values.current.items
  pub marks : new.values.marks ≡ old.values.marks

-- all of the log, which is then empty
pub record SetsLogged (old new : Building) : Type 0 where
  pub sets : SetsChanges old new old.values.log.items
  pub log : new.values.log.items ≡ []
