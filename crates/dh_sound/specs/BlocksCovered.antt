-- That the blocks of a program spend no more than accesses charge which may meet: soundness by phase, from any memories
-- and any values of variables. (The soundness of time-sensitive affine types, after Nigam and others, PLDI 2020,
-- for this profile.)
use Rattle.std.specs.Prelude.{◌≡◌, ℕ, ◌≤◌, Bool, List, [], Some}
use Rattle.dh_tree.specs.Meets.{Together, total}
use Rattle.dh_tree.specs.Memories.{memories_of, number_in, table_of}
use Rattle.dh_tree.specs.PlainTrees.{Program}
use Rattle.dh_meaning.specs.Core.{Turning}
use Rattle.dh_meaning.specs.CoreOf.{core_of}
use Rattle.dh_meaning.specs.Effects.{Variables, Event, Block, block_run, spent}
use Rattle.dh_meets.specs.Charges.{charge}
use Rattle.dh_meets.specs.MayMeet.{meets_in}
use Rattle.dh_meets.specs.Ports.{ports_of_entity}
use Rattle.dh_sound.specs.Blocks.{StandsIn, paths_inside, AreInTurn}

-- what a bank spends with these events is no more than some set of accesses charges of which any two may meet
pub record AreCovered (p : Program) (es : List Event) (entity memory bank : ℕ) : Type 0 where
  pub chosen : ℕ → Bool
  pub together : Together (meets_in p) chosen
  pub covers : spent es memory bank ≤ total (charge p entity bank) chosen (meets_in p)

-- the events of a block that is done in its loops, from these memories and variables
abbrev pub events_in : Program → (loops : List Turning) → Block → (memories : List (List ℕ)) → Variables → List Event
events_in p loops block memories v = (block_run (record { table = table_of p; memories = memories }) (paths_inside loops) block (record { variables = v; events = [] })).events

-- this holds of each block, whatever memories and variables hold while its loops are in turns, and of each bank of each
-- memory
abbrev pub OfEachBlock : (P : List Event → (entity memory bank : ℕ) → Type 0) → Program → Type 0
OfEachBlock P p =
    (loops : List Turning) (block : Block) → StandsIn [] (core_of p).phases loops block → (memories : List (List ℕ)) (v : Variables) → AreInTurn [] loops v
    → (entity memory bank : ℕ) → number_in (memories_of p) (Some entity) ≡ Some memory → P (events_in p loops block memories v) entity memory bank

-- what each block spends is covered
abbrev pub BlocksCovered : Program → Type 0
BlocksCovered p = OfEachBlock (AreCovered p) p

-- each block spends at most the ports
abbrev pub BlocksKept : Program → Type 0
BlocksKept p = OfEachBlock (λ es entity memory bank. spent es memory bank ≤ ports_of_entity p entity) p
