-- What is told of the phases of a command: which Straight phases and which tests stand in them, where the events of
-- such a command stand among those of the whole, and when two accesses stand in opposite arms of an `if`.
use Rattle.std.specs.Prelude.{◌≡◌, ℕ, ◌+◌, ◌⊎◌, Bool, true, false, List, [], ◌∷◌, ◌++◌, length}
use Rattle.dh_meaning.specs.Phases.{Located, Phase, straight, turns, repeated, decided, Phases, no_phases, phase}
use Rattle.dh_meaning.specs.Sites.{Arm}
use Rattle.dh_meets.specs.SourceEvents.{SourceAccess, SourceEvent, events, accesses_in}

abbrev mutual
  -- a Straight phase of a phase, at any depth, has just these commands
  pub HasStraightIn : Phase → List Located → Type 0
  HasStraightIn (straight ds) cs = ds ≡ cs
  HasStraightIn (turns loop count body) cs = HaveStraight body cs
  HasStraightIn (repeated loop body) cs = HaveStraight body cs
  HasStraightIn (decided choice chosen other) cs = HaveStraight chosen cs ⊎ HaveStraight other cs

  pub HaveStraight : Phases → List Located → Type 0
  HaveStraight no_phases cs = ⊥
  HaveStraight (phase p ps) cs = HasStraightIn p cs ⊎ HaveStraight ps cs

abbrev pub HasStraight : List Phase → List Located → Type 0
HasStraight [] cs = ⊥
HasStraight (p ∷ ps) cs = HasStraightIn p cs ⊎ HasStraight ps cs

abbrev mutual
  -- a phase of a phase, at any depth, has this command whose test it evaluates
  pub HasTestIn : Phase → Located → Type 0
  HasTestIn (straight ds) c = ⊥
  HasTestIn (turns loop count body) c = HaveTest body c
  HasTestIn (repeated loop body) c = (loop ≡ c) ⊎ HaveTest body c
  HasTestIn (decided choice chosen other) c = (choice ≡ c) ⊎ (HaveTest chosen c ⊎ HaveTest other c)

  pub HaveTest : Phases → Located → Type 0
  HaveTest no_phases c = ⊥
  HaveTest (phase p ps) c = HasTestIn p c ⊎ HaveTest ps c

abbrev pub HasTest : List Phase → Located → Type 0
HasTest [] c = ⊥
HasTest (p ∷ ps) c = HasTestIn p c ⊎ HasTest ps c

-- the events of a command stand together among events whose accesses are numbered from n on, and the number of
-- its first access is that of the first of them
pub record StandsAmong (n : ℕ) (es : List SourceEvent) (c : Located) : Type 0 where
  pub before : List SourceEvent
  pub after : List SourceEvent
  pub all : es ≡ before ++ (events c.around c.command ++ after)
  pub counted : n + length (accesses_in before) ≡ c.first

-- an arm is one of these
abbrev pub HasArm : Arm → List Arm → Type 0
HasArm arm [] = ⊥
HasArm arm (a ∷ arms) = (arm ≡ a) ⊎ HasArm arm arms

abbrev pub arm_of : (command : ℕ) → (first : Bool) → Arm
arm_of command first = record { command = command; first = first }

-- the arms round two accesses are opposite ones of one `if`
abbrev pub AreOpposite : (command : ℕ) → (arms others : List Arm) → Type 0
AreOpposite command arms others =
    (HasArm (arm_of command true) arms × HasArm (arm_of command false) others)
    ⊎ (HasArm (arm_of command false) arms × HasArm (arm_of command true) others)

-- two accesses stand in opposite arms of one `if`, which stands in no unrolled loop, and neither do they
pub record InOppositeArms (a b : SourceAccess) : Type 0 where
  pub command : ℕ
  pub opposite : AreOpposite command a.site.arms b.site.arms
  pub single : a.site.loops ≡ []
  pub other_single : b.site.loops ≡ []
