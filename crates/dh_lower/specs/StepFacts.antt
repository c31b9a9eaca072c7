-- What is known of a step of a plan at one of its clocks, when its net is shown to play it.
use Rattle.std.specs.Prelude.{◌≡◌, ℕ, ◌≤◌, true, List, slice_get, slice_index, Some}
use Rattle.dh_value.specs.declared.words.Word.{Word}
use Rattle.dh_plan.specs.declared.operations.Operation.{Operation}
use Rattle.dh_plan.specs.declared.operations.Reach.{Reach}
use Rattle.dh_plan.specs.Blocks.{is_on, bank_picked}
use Rattle.dh_plan.specs.BoundPorts.{Uses, ArePorts}
use Rattle.dh_plan.specs.LegalSchedules.{Timing, clocks_in}
use Rattle.dh_plan.specs.PlainPlans.{PlainPlan, first_in, operations_in}
use Rattle.dh_plan.specs.PlanRuns.{start_at, block_values}
use Rattle.dh_plan.specs.SoundPlans.{IsFormed, IsAddressed, KeepsBanks, IsInRange, IsOneOf, use_in}
use Rattle.dh_lower.specs.PortUsers.{User, AreUsers, HasUser, Moment, user_asks}
use Rattle.dh_lower.specs.ShownWords.{in_ports, IsAtClock}

-- a plan with ports, and the users of each port
pub record HasPortUsers (plan : PlainPlan) (u : Uses) (users : (port : ℕ) → List User) : Type 0 where
  pub formed : IsFormed plan
  pub addressed : IsAddressed plan
  pub ports : ArePorts plan u
  pub laid : AreUsers plan u users

-- a step that begins with these registers and memories keeps the banks, and where guards hold it is in range
pub record StepIsKept (plan : PlainPlan) (registers : List ℕ) (memories : List (List ℕ)) (blocks : List ℕ) : Type 0 where
  pub banks : KeepsBanks plan (start_at plan registers memories) blocks
  pub inside : (block i : ℕ) (r : Reach) (o : Operation) → IsOneOf block blocks → slice_get (operations_in plan block) i ≡ Some o → use_in o.form ≡ Some r
      → is_on (first_in plan block) (block_values plan (start_at plan registers memories) block) o.guard ≡ true
      → IsInRange plan (start_at plan registers memories) block i r o

-- a user of a port acts in the step, by what its block means: its guard holds, and it picks its bank
pub record Acts (plan : PlainPlan) (registers : List ℕ) (memories : List (List ℕ)) (blocks : List ℕ) (user : User) (o : Operation) (r : Reach) : Type 0 where
  pub active : IsOneOf user.block blocks
  pub there : slice_get (operations_in plan user.block) user.place ≡ Some o
  pub uses : use_in o.form ≡ Some r
  pub on : is_on (first_in plan user.block) (block_values plan (start_at plan registers memories) user.block) o.guard ≡ true
  pub picks : bank_picked (first_in plan user.block) (block_values plan (start_at plan registers memories) user.block) r.banks r.select ≡ user.bank

-- a clock of the step: `words` are what wires show, by what ports hold
pub record IsMoment (plan : PlainPlan) (t : Timing) (u : Uses) (registers : List ℕ) (memories : List (List ℕ)) (held : List ℕ) (words : (block : ℕ) → List Word) (m : Moment) : Type 0 where
  pub kept : StepIsKept plan registers memories m.active
  pub blocks : (block : ℕ) → IsOneOf block m.active
      → IsAtClock (start_at plan registers memories) (in_ports plan u held block) (first_in plan block) (operations_in plan block) (clocks_in plan t block)
      (words block) (block_values plan (start_at plan registers memories) block) m.clock
  -- where writes are made all clocks of operations have come
  pub last : m.commits ≡ true → (block : ℕ) → IsOneOf block m.active → (i : ℕ) → slice_index (clocks_in plan t block) i ≤ m.clock

-- of the users of one port one at most acts in a step
abbrev pub OneUserActs : PlainPlan → Uses → (users : (port : ℕ) → List User) → Type 0
OneUserActs plan u users =
    (registers : List ℕ) (memories : List (List ℕ)) (blocks : List ℕ) (port : ℕ) (v w : User) (o p : Operation) (r s : Reach)
    → HasPortUsers plan u users → StepIsKept plan registers memories blocks → HasUser v (users port) → HasUser w (users port)
    → Acts plan registers memories blocks v o r → Acts plan registers memories blocks w p s → v ≡ w

-- a user that asks acts, by what its block means
pub record AsksMeans (plan : PlainPlan) (registers : List ℕ) (memories : List (List ℕ)) (m : Moment) (user : User) : Type 0 where
  pub operation : Operation
  pub reach : Reach
  pub acts : Acts plan registers memories m.active user operation reach

abbrev pub AskingUsersAct : PlainPlan → Timing → Uses → Type 0
AskingUsersAct plan t u =
    (registers : List ℕ) (memories : List (List ℕ)) (held : List ℕ) (words : (block : ℕ) → List Word) (m : Moment) (user : User)
    → IsMoment plan t u registers memories held words m → user_asks plan t words m user ≡ true → AsksMeans plan registers memories m user
