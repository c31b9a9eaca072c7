-- The operations that commands put down beside those of expressions: choices between values, and registers that are
-- set. And what stays when a block is whole.
use Rattle.std.specs.Prelude.{◌≡◌, ◌⊎◌, ℕ, ◌+◌, ◌<◌, ◌≤◌, ◌^◌, max, List, length, Option, None}
use Rattle.dh_value.specs.declared.kinds.Kind.{Kind}
use Rattle.dh_value.specs.declared.kinds.Kind.TheVariants.{Bool}
use Rattle.dh_value.specs.declared.operators.Op.{Op}
use Rattle.dh_value.specs.declared.words.Word.{Word}
use Rattle.dh_value.specs.Words.{IsWord}
use Rattle.dh_value.specs.Operations.{Suits, result_of}
use Rattle.dh_tree.specs.PlainTrees.{Term}
use Rattle.dh_meaning.specs.AccessNumbers.{term_accesses}
use Rattle.dh_plan.specs.declared.operations.OperationForm.{OperationForm}
use Rattle.dh_plan.specs.declared.operations.OperationForm.TheVariants.{Constant, Old, Compute, Convert, Select, Check, Probe, Read, Write, Set}
use Rattle.dh_plan.specs.declared.operations.Reach.{Reach}
use Rattle.dh_plan.specs.Blocks.{kind_at}
use Rattle.dh_plan.specs.DoneProgram.{block_products, operations_using, probes_among}
use Rattle.dh_plan.specs.PlainPlans.{PlainPlan, operations_in}
use Rattle.dh_expressions.specs.declared.accesses.Accesses.{Accesses}
use Rattle.dh_expressions.specs.declared.drafts.Draft.{Draft}
use Rattle.dh_expressions.specs.declared.elements.Aim.{Aim}
use Rattle.dh_expressions.specs.declared.scenes.Lane.{Lane}
use Rattle.dh_expressions.specs.declared.scenes.Scene.{Scene}
use Rattle.dh_expressions.specs.Drafted.{Extends, Pushes}
use Rattle.dh_expressions.specs.MadeTerms.{MadeTerm, MadeWrite}
use Rattle.dh_expressions.specs.Noted.{touched_in}
use Rattle.dh_formed.specs.Counted.{Counts, FormIs, nothing}
use Rattle.dh_formed.specs.Formed.{Agrees, FormedBlock, Forms, FormsValue, HasKind, Started}
use Rattle.dh_formed.specs.Timed.{AgreeInTime, BlockClocks, HasClock, StartedInTime, TimesValue, Within}

-- Kinds.

-- a constant, and an operator on two values, put down alone
abbrev pub ConstantsForm : Type 0
ConstantsForm = (old new : Draft) (v : ℕ) (word : Word) → IsWord word → Pushes old new v None (Constant word) → FormsValue old new v (λ x. Unit {0}) (λ x. word.kind)

abbrev pub ComputesForm : Type 0
ComputesForm =
    (old new : Draft) (v a b : ℕ) (o : Op) (j k : Kind) → Pushes old new v None (Compute o a b)
    → FormsValue old new v (λ x. Suits o j k × (HasKind x old j a × HasKind x old k b)) (λ x. result_of o j)

-- the choice of one of two values of a kind
abbrev pub SelectsForm : Type 0
SelectsForm =
    (old new : Draft) (v test a b : ℕ) (k : FormedBlock → Kind) → Pushes old new v None (Select test a b)
    → FormsValue old new v (λ x. HasKind x old Bool test × (HasKind x old (k x) a × HasKind x old (k x) b)) k

-- a register is set to a value of its kind
pub record FormsSet (old new : Draft) (register value : ℕ) : Type 0 where
  pub extends : Extends old new
  pub forms : (x : FormedBlock) → Agrees x new → Started x old → register < length x.plan.registers → HasKind x old (kind_at x.plan.registers register) value → Forms x old new

abbrev pub SetsForm : Type 0
SetsForm = (old new : Draft) (n register value : ℕ) → Pushes old new n None (Set register value) → FormsSet old new register value

-- Counts.

-- what an operation of commands is: it may set registers, too
abbrev pub CommandIs : (Sees Sets : ℕ → Type 0) → (Probes Reads Writes : Reach → Type 0) → OperationForm → Type 0
CommandIs Sees Sets Probes Reads Writes (Constant word) = Unit {0}
CommandIs Sees Sets Probes Reads Writes (Old register) = Sees register
CommandIs Sees Sets Probes Reads Writes (Compute op left right) = Unit {0}
CommandIs Sees Sets Probes Reads Writes (Convert inner to) = Unit {0}
CommandIs Sees Sets Probes Reads Writes (Select test a b) = Unit {0}
CommandIs Sees Sets Probes Reads Writes (Check ok fault) = ⊥
CommandIs Sees Sets Probes Reads Writes (Probe r fault) = Probes r
CommandIs Sees Sets Probes Reads Writes (Read r) = Reads r
CommandIs Sees Sets Probes Reads Writes (Write r value) = Writes r
CommandIs Sees Sets Probes Reads Writes (Set register value) = Sets register

-- what an expression counts, a command that has it counts
abbrev pub PartsAreCounted : Type 0
PartsAreCounted =
    (old new : Draft) (p : ℕ) (f u : ℕ → ℕ) → Counts old new (FormIs (λ register. ⊥) (λ r. ⊥) (λ r. ⊥) (λ r. ⊥)) p f u
    → Counts old new (CommandIs (λ register. ⊥) (λ register. ⊥) (λ r. ⊥) (λ r. ⊥) (λ r. ⊥)) p f u

-- a choice counts nothing, an operator its multiplication, and one register is set
abbrev pub SelectsCount : Type 0
SelectsCount = (old new : Draft) (v test a b : ℕ) → Pushes old new v None (Select test a b) → Counts old new (CommandIs (λ register. ⊥) (λ register. ⊥) (λ r. ⊥) (λ r. ⊥) (λ r. ⊥)) 0 nothing nothing

abbrev pub SetsCount : Type 0
SetsCount = (old new : Draft) (n register value : ℕ) → Pushes old new n None (Set register value) → Counts old new (CommandIs (λ other. ⊥) (λ other. other ≡ register) (λ r. ⊥) (λ r. ⊥) (λ r. ⊥)) 0 nothing nothing

-- a block has the counts of what was put down since it began
pub record WholeCounts (plan : PlainPlan) (block : ℕ) (products : ℕ) (probes uses : ℕ → ℕ) : Type 0 where
  pub products_few : block_products (operations_in plan block) ≤ products
  pub probes_are : (access : ℕ) → probes_among access (operations_in plan block) ≡ probes access
  pub uses_are : (access : ℕ) → operations_using access (operations_in plan block) ≡ uses access

-- Clocks.

abbrev pub SelectsInTime : Type 0
SelectsInTime =
    (old new : Draft) (v test a b : ℕ) (i j k : BlockClocks → ℕ) → Pushes old new v None (Select test a b)
    → TimesValue old new v (λ c. HasClock c (i c) test × (HasClock c (j c) a × HasClock c (k c) b)) (λ c. max (i c) (max (j c) (k c)))

abbrev pub SetsInTime : Type 0
SetsInTime =
    (old new : Draft) (n register value : ℕ) (c : BlockClocks) (level : ℕ) → Pushes old new n None (Set register value) → AgreeInTime c new → StartedInTime c old → HasClock c level value → Within c old new level

-- Accesses.

-- only accesses of an expression get operations, and have what they give noted
abbrev pub TermsTouchOwn : Type 0
TermsTouchOwn =
    (scene : Scene) (lane : Lane) (current : List (Option ℕ)) (t : Term) (old new : Draft) (before after : Accesses) (n next v : ℕ)
    → MadeTerm scene lane current t old new before after n next v → n + term_accesses t < 2 ^ 32
    → (m : ℕ) → (m < n) ⊎ (n + term_accesses t ≤ m) → touched_in after m ≡ touched_in before m

abbrev pub WritesTouchOwn : Type 0
WritesTouchOwn =
    (scene : Scene) (lane : Lane) (access : Term) (memory : ℕ) (aim : Aim) (value : ℕ) (old new : Draft) (before after : Accesses)
    → MadeWrite scene lane access memory aim value old new before after → (m : ℕ) → (m ≡ aim.number → ⊥) → touched_in after m ≡ touched_in before m
