-- Logs of what was left of slots' ports, as functions of the slot.
use Rattle.std.specs.Prelude.{◌≡◌, ℕ, ◌<◌, ◌==◌, List, [], ◌∷◌, ◌++◌, map, min, slice_index, slice_get, Option, None, Some, if◌then◌else◌}
use Rattle.dh_ports.specs.declared.marks.SlotMark.{SlotMark}

-- what was left of a slot at a log's begin: what its first mark says, or what is left now
abbrev pub at_begin : List SlotMark → (slot : ℕ) → (now : ℕ) → ℕ
at_begin [] slot now = now
at_begin (mark ∷ log) slot now = if mark.slot == slot then mark.left else at_begin log slot now

-- the least that marks say of a slot, or what is left now
abbrev pub least : List SlotMark → (slot : ℕ) → (now : ℕ) → ℕ
least [] slot now = now
least (mark ∷ log) slot now = if mark.slot == slot then min mark.left (least log slot now) else least log slot now

-- each mark is of one of so many slots
abbrev pub AreSlotMarks : ℕ → List SlotMark → Type 0
AreSlotMarks slots log = (i : ℕ) (mark : SlotMark) → slice_get log i ≡ Some mark → mark.slot < slots

-- what is left now of the slots of a log
abbrev pub marks_now : List ℕ → List SlotMark → List SlotMark
marks_now left log = map (λ mark. record { slot = mark.slot; left = slice_index left mark.slot }) log

-- each slot has the least that marks say of it
abbrev pub AreLowered : (lows : List SlotMark) → (old new : List ℕ) → Type 0
AreLowered lows old new = (m : ℕ) → slice_index new m ≡ least lows m (slice_index old m)

-- a log goes back from what is left now to where it went back before
abbrev pub GoesBack : (log : List SlotMark) → (now : List ℕ) → (old_log : List SlotMark) → (old : List ℕ) → Type 0
GoesBack log now old_log old = (m : ℕ) → at_begin log m (slice_index now m) ≡ at_begin old_log m (slice_index old m)

-- each slot has what a log says was left at its begin
abbrev pub AreBegun : (log : List SlotMark) → (old new : List ℕ) → Type 0
AreBegun log old new = (m : ℕ) → slice_index new m ≡ at_begin log m (slice_index old m)

-- where a log's marks were of these slots, they are
abbrev pub StaysOfSlots : (slots : ℕ) → (old new : List SlotMark) → Type 0
StaysOfSlots slots old new = AreSlotMarks slots old → AreSlotMarks slots new

-- what is told of a slot by a mark, where it is of the slot, and by the mark at a place
abbrev pub LeftIf : SlotMark → (slot : ℕ) → Option ℕ → Type 0
LeftIf mark slot None = Unit {0}
LeftIf mark slot (Some left) = mark ≡ record { slot = slot; left = left }

abbrev pub LeftAt : List SlotMark → (place slot : ℕ) → Option ℕ → Type 0
LeftAt marks place slot None = Unit {0}
LeftAt marks place slot (Some left) = slice_get marks place ≡ Some (record { slot = slot; left = left })

-- a low more, or a lower one in the place of one of its slot: each slot has the least that both say
pub record NotesLow (old new : List SlotMark) (low : SlotMark) : Type 0 where
  pub noted : (m x : ℕ) → least new m x ≡ least (old ++ low ∷ []) m x
  pub marks : (n : ℕ) → low.slot < n → AreSlotMarks n old → AreSlotMarks n new

-- the same of what is left now of the slots of a log
pub record NotesLows (left : List ℕ) (log old new : List SlotMark) : Type 0 where
  pub noted : (m x : ℕ) → least new m x ≡ least (old ++ marks_now left log) m x
  pub marks : (n : ℕ) → AreSlotMarks n log → AreSlotMarks n old → AreSlotMarks n new
