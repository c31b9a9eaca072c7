-- What parts of a program's tree break of the rules on where memories stand, what is assigned to, and what
-- stands in copies.
use Rattle.std.specs.Prelude.{◌≡◌, ℕ, List, Option, None, OnOk, IfOk, Result, Vec}
use Rattle.std.specs.Global.{Global, Box}
use Rattle.dh_tree.specs.declared.breaches.Breach.{Breach}
use Rattle.dh_tree.specs.declared.trees.commands.Command.{Command}
use Rattle.dh_tree.specs.declared.trees.programs.Entity.{Entity}
use Rattle.dh_tree.specs.LeastBreach.{least_of}
use Rattle.dh_tree.specs.PlainTrees.{Program}
use Rattle.dh_tree.specs.PhaseKinds.{phase_kind, other_phase_kind, groups_phase_kind}
use Rattle.dh_tree.specs.Placements as placements
use Rattle.dh_tree.specs.Placements.{action_placement_breaches, other_placement_breaches, groups_placement_breaches, placement_breaches}
use Rattle.dh_tree.specs.Seen.{action_seen, all_parts_seen, maybe_block_seen}
use Rattle.dh_rules.specs.declared.contexts.Context.{Context}
use Rattle.dh_rules.specs.declared.placements.Shaped.{Shaped}

-- what is round a command, as the definitions see it
abbrev pub context_seen : Context → placements.Context
context_seen c = record { within = c.within; copied = c.copied; first = c.first; joins = c.joins }

-- the breaches in a command, in a block that may lack, and in the parts of a block
abbrev pub misplaced_in : List Entity → Context → Command → List Breach
misplaced_in entities context c = action_placement_breaches entities (context_seen context) (action_seen c)

abbrev pub misplaced_in_other : List Entity → Context → Option (Box Command) → List Breach
misplaced_in_other entities context block = other_placement_breaches entities (context_seen context) (maybe_block_seen block)

abbrev pub misplaced_in_parts : List Entity → Context → List (Vec Command Global) → List Breach
misplaced_in_parts entities context parts = groups_placement_breaches entities (context_seen context) (all_parts_seen parts)

-- how many phases they have: none, one straight phase, or others
abbrev pub command_steps : Command → ℕ
command_steps c = phase_kind (action_seen c)

abbrev pub other_steps : Option (Box Command) → ℕ
other_steps block = other_phase_kind (maybe_block_seen block)

abbrev pub parts_steps : List (Vec Command Global) → ℕ
parts_steps parts = groups_phase_kind (all_parts_seen parts)

-- the least of what was kept and of these is kept, where no memory was refused
abbrev pub KeepsFirstOf : {A E : Type 0} → Result A E → (old new : Option Breach) → List Breach → Type 0
KeepsFirstOf result old new found = OnOk result (new ≡ least_of old found)

-- the first breach of the rules on where memories stand, what is assigned to, and what stands in copies is found
abbrev pub FindsMisplaced : {E : Type 0} → Program → Result Shaped E → Type 0
FindsMisplaced p result = IfOk result (λ (s : Shaped). s.misplaced ≡ least_of None (placement_breaches p))
