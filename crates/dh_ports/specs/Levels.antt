-- What is left of a slot while steps are taken, slot by slot.
use Rattle.std.specs.Prelude.{◌≡◌, ℕ, ◌-◌, ◌==◌, if◌then◌else◌, List, [], ◌∷◌, length, reverse, min, slice_index}
use Rattle.std.specs.List.{AllByRecursion}
use Rattle.dh_ports.specs.declared.marks.SlotMark.{SlotMark}
use Rattle.dh_ports.specs.declared.levels.PartFrame.{PartFrame}
use Rattle.dh_ports.specs.declared.levels.Levels.{Levels}
use Rattle.dh_ports.specs.declared.levels.Step.{Step}
use Rattle.dh_ports.specs.declared.levels.Step.TheVariants as step
use Rattle.dh_ports.specs.Logs.{AreSlotMarks, at_begin, least}

-- what was left at a part's begin, and the least that was left by it or a part beside it
pub record Floor : Type 0 where
  pub base : ℕ
  pub low : ℕ

-- what is left of one slot, with the floors of the present part and of those round it from the inside
pub record Level : Type 0 where
  pub now : ℕ
  pub base : ℕ
  pub low : ℕ
  pub outer : List Floor

abbrev pub slot_level : ℕ → ℕ → ℕ → List Floor → Level
slot_level now base low outer = record { now = now; base = base; low = low; outer = outer }

abbrev pub floor : ℕ → ℕ → Floor
floor base low = record { base = base; low = low }

-- the floors of frames from the inside
abbrev pub floors_of : List PartFrame → (slot : ℕ) → (now : ℕ) → List Floor
floors_of [] slot now = []
floors_of (f ∷ fs) slot now = floor (at_begin f.log.items slot now) (least f.lows.items slot (at_begin f.log.items slot now)) ∷ floors_of fs slot (at_begin f.log.items slot now)

abbrev pub level_of : List ℕ → List SlotMark → List SlotMark → List PartFrame → (slot : ℕ) → Level
level_of left log lows outer slot =
    slot_level (slice_index left slot) (at_begin log slot (slice_index left slot)) (least lows slot (at_begin log slot (slice_index left slot))) (floors_of (reverse outer) slot (at_begin log slot (slice_index left slot)))

abbrev pub level_at : Levels → (slot : ℕ) → Level
level_at l slot = level_of l.left.items l.log.items l.lows.items l.outer.items slot

-- so much is taken of a slot, at another or this one
abbrev pub taken : (slot takes other : ℕ) → Level → Level
taken slot takes other l = if slot == other then slot_level (l.now - takes) l.base l.low l.outer else l

abbrev pub begun : Level → Level
begun l = slot_level l.now l.now l.now (floor l.base l.low ∷ l.outer)

abbrev pub kept_back : Level → Level
kept_back l = slot_level l.base l.base (min l.low l.now) l.outer

-- nothing of the present part is taken
abbrev pub at_rest : Level → Type 0
at_rest l = l.now ≡ l.base

abbrev pub settled_in : Level → List Floor → Level
settled_in l [] = l
settled_in l (f ∷ fs) = slot_level l.low f.base f.low fs

abbrev pub settled_slot_level : Level → Level
settled_slot_level l = settled_in l l.outer

abbrev pub gone_in : Level → List Floor → Level
gone_in l [] = slot_level l.base l.base l.low []
gone_in l (f ∷ fs) = slot_level l.base f.base f.low fs

abbrev pub gone_back : Level → Level
gone_back l = gone_in l l.outer

abbrev pub advance : (slot : ℕ) → Step → Level → Level
advance slot step.Other l = l
advance slot (step.Access other takes) l = taken other takes slot l
advance slot step.Begin l = begun l
advance slot step.Next l = kept_back l
advance slot step.End l = settled_slot_level (kept_back l)
advance slot step.Back l = gone_back l

-- what is left before a step in the slot that it accesses
abbrev pub left_before : Step → (ℕ → Level) → ℕ
left_before (step.Access slot takes) levels = (levels slot).now
left_before step.Other levels = 0
left_before step.Begin levels = 0
left_before step.Next levels = 0
left_before step.End levels = 0
left_before step.Back levels = 0

abbrev pub left_before_each : (ℕ → Level) → List Step → List ℕ
left_before_each levels [] = []
left_before_each levels (s ∷ rest) = left_before s levels ∷ left_before_each (λ slot. advance slot s (levels slot)) rest

-- where nothing is begun
abbrev pub start : ℕ → Level
start n = slot_level n n n []

-- the marks are of slots
pub record FrameKept (slots : ℕ) (f : PartFrame) : Type 0 where
  pub log : AreSlotMarks slots f.log.items
  pub lows : AreSlotMarks slots f.lows.items

pub record LevelsKept (l : Levels) : Type 0 where
  pub log : AreSlotMarks (length l.left.items) l.log.items
  pub lows : AreSlotMarks (length l.left.items) l.lows.items
  pub outer : AllByRecursion (FrameKept (length l.left.items)) l.outer.items

-- the same from these numbers of the slots
abbrev pub lefts_from : (starts : List ℕ) → List Step → List ℕ
lefts_from starts steps = left_before_each (λ s. start (slice_index starts s)) steps

-- each slot's level is this function of the one before
abbrev pub Turns : (old new : Levels) → (ℕ → Level → Level) → Type 0
Turns old new change = (s : ℕ) → level_at new s ≡ change s (level_at old s)

-- where nothing of a part is taken, each slot's level is that after its end
abbrev pub SettlesLevels : (old new : Levels) → Type 0
SettlesLevels old new = (s : ℕ) → at_rest (level_at old s) → level_at new s ≡ settled_slot_level (level_at old s)
