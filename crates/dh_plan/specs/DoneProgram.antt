-- What a plan is of a program: what the pass that makes copies into operations states of its plan, and what the
-- pass that makes banks and rows of indices and views states of its own.
use Rattle.std.specs.Prelude.{◌≡◌, ◌↔◌, ℕ, suc, ◌+◌, ◌*◌, ◌<◌, ◌≤◌, ◌==◌, Bool, true, if◌then◌else◌, List, [], ◌∷◌, length, map, slice_get, slice_index, Option, Some, None}
use Rattle.std.specs.List.{AllByRecursion, list_any}
use Rattle.std.specs.Option.{is_some}
use Rattle.std.specs.Set.{distinct_count}
use Rattle.dh_base.specs.declared.outcomes.Outcome.TheVariants.{Stuck}
use Rattle.dh_base.specs.declared.places.Place.{Place}
use Rattle.dh_value.specs.declared.operators.Op.{Op}
use Rattle.dh_value.specs.declared.operators.Op.TheVariants as op
use Rattle.dh_tree.specs.Meets.{In, Apart, Before}
use Rattle.dh_tree.specs.Memories.{memories_of, number_in, table_of}
use Rattle.dh_tree.specs.PlainTrees.{Program}
use Rattle.dh_tree.specs.Tables.{Fits}
use Rattle.dh_meaning.specs.AccessNumbers.{accesses_of}
use Rattle.dh_meaning.specs.Core.{CoreTerm, literal, truth_literal, variable, read, binary, convert, Target, by_indices, by_row, CoreTerms, no_terms, term_and, CoreCommand, store, assign, choose, CoreCommands, no_commands, command_and, CoreProgram}
use Rattle.dh_meaning.specs.CoreOf.{core_of}
use Rattle.dh_meaning.specs.Effects.{commands, tests}
use Rattle.dh_meaning.specs.Levels.{block_length}
use Rattle.dh_meaning.specs.OnePhase.{holds_both}
use Rattle.dh_meaning.specs.Paths.{same_path}
use Rattle.dh_meaning.specs.Phases.{phases_of}
use Rattle.dh_meaning.specs.Runs.{run_state}
use Rattle.dh_meets.specs.Charges.{key_of, paths_of, charge}
use Rattle.dh_meets.specs.MayMeet.{meets_in}
use Rattle.dh_meets.specs.Sharing.{shared}
use Rattle.dh_meets.specs.SourceEvents.{SourceAccess, accesses_in, trace}
use Rattle.dh_plan.specs.declared.operations.Operation.{Operation}
use Rattle.dh_plan.specs.declared.operations.OperationForm.{OperationForm}
use Rattle.dh_plan.specs.declared.operations.OperationForm.TheVariants.{Old, Check, Probe, Set}
use Rattle.dh_plan.specs.declared.operations.PlanBlock.{PlanBlock}
use Rattle.dh_plan.specs.declared.operations.Reach.{Reach}
use Rattle.dh_plan.specs.PlainPlans.{PlainPlan, operations_in}
use Rattle.dh_plan.specs.Blocks.{first_fault, puts_of, all_set}
use Rattle.dh_plan.specs.Correspondence.{Slots, FitKinds, paths_of_rounds}
use Rattle.dh_plan.specs.LegalSchedules.{is_product, block_clocks}
pub use Rattle.dh_plan.specs.LiteralAccesses.{IsConstantAt, IsConstantOr, NamedByConstants, IsAlwaysInside, HasLiterals, IsOfLiterals, IsLiteralAccess, HasSourceLiterals}
use Rattle.dh_plan.specs.PlanPhases.{Tie, AreNodesOf, DoesPhases}
use Rattle.dh_plan.specs.PlanRuns.{plan_state, start_at, events_of_block, sets_of_block}
use Rattle.dh_plan.specs.SoundPlans.{use_in, HasUse, IsSound, IsAddressed, plan_charge, IsStepOf, Counting, CountsTurns, KeepsCounter, countings}
use Rattle.dh_meaning.specs.Core.{by_views, keep}
use Rattle.dh_meaning.specs.Ways.{all_bindings_of}

-- Runs.

-- from whatever memories and after however many steps, the run of the plan stands as that of the program
pub record RunsAs (c : CoreProgram) (plan : PlainPlan) : Type 0 where
  pub outcome : (memories : List (List ℕ)) (n : ℕ) → (plan_state plan memories n).outcome ≡ (run_state c memories n).outcome
  pub steps : (memories : List (List ℕ)) (n : ℕ) → (plan_state plan memories n).steps ≡ (run_state c memories n).steps
  pub memories_same : (memories : List (List ℕ)) (n : ℕ) → (plan_state plan memories n).memories ≡ (run_state c memories n).memories

-- no run of a program is stuck: so it is of one that keeps its ports
abbrev pub NeverStuck : CoreProgram → Type 0
NeverStuck c = (memories : List (List ℕ)) (n memory bank : ℕ) (place : Place) → (run_state c memories n).outcome ≡ Stuck memory bank place → ⊥

-- A plan that does the phases of a program one for one, with counters of its own for the loops, runs as the program.
abbrev pub PhasesMakeRuns : CoreProgram → PlainPlan → Slots → Type 0
PhasesMakeRuns c plan slots =
    plan.table ≡ c.table → AllByRecursion (CountsTurns plan) (countings plan.body) → AllByRecursion (KeepsCounter plan) (countings plan.body)
    → DoesPhases plan slots c.phases → NeverStuck c → RunsAs c plan

-- Lengths.

-- without limits each block is as long as its phase
abbrev pub has_lengths : Program → PlainPlan → Tie
has_lengths p plan = record {
  of_block = λ rounds cs block. block_clocks plan block ≡ block_length (shared p) (commands cs);
  of_test = λ rounds test flag block. block_clocks plan block ≡ block_length (shared p) (tests test);
  of_loop = λ rounds loop counter. Unit {0};
}

abbrev pub HasLengths : Program → PlainPlan → Type 0
HasLengths p plan = AreNodesOf (has_lengths p plan) [] (core_of p).phases plan.body

-- Multiplications.

abbrev pub product_of : Op → ℕ
product_of op.Mul = 1
product_of _ = 0

abbrev mutual
  -- the `*` of an expression
  pub term_products : CoreTerm → ℕ
  term_products (literal kind negative n) = 0
  term_products (truth_literal value) = 0
  term_products (variable kind depth entity) = 0
  term_products (read reach target) = target_products target
  term_products (binary o left right) = product_of o + (term_products left + term_products right)
  term_products (convert to inner) = term_products inner

  pub target_products : Target → ℕ
  target_products (by_indices indices) = terms_products indices
  target_products (by_views steps count terms) = terms_products terms
  target_products (by_row bank row) = term_products row

  pub terms_products : CoreTerms → ℕ
  terms_products no_terms = 0
  terms_products (term_and t ts) = term_products t + terms_products ts

abbrev mutual
  -- of commands
  pub command_products : CoreCommand → ℕ
  command_products (store reach target value) = term_products value + target_products target
  command_products (assign depth entity value) = term_products value
  command_products (keep depth first values) = terms_products values
  command_products (choose test chosen other) = term_products test + (commands_products chosen + commands_products other)

  pub commands_products : CoreCommands → ℕ
  commands_products no_commands = 0
  commands_products (command_and c cs) = command_products c + commands_products cs

abbrev pub block_products : List Operation → ℕ
block_products [] = 0
block_products (o ∷ os) = if is_product o.form then suc (block_products os) else block_products os

-- each multiplication of a block is one of a `*` at one path
abbrev pub has_products : PlainPlan → Tie
has_products plan = record {
  of_block = λ rounds cs block. block_products (operations_in plan block) ≤ commands_products cs * length (paths_of_rounds rounds);
  of_test = λ rounds test flag block. block_products (operations_in plan block) ≤ term_products test * length (paths_of_rounds rounds);
  of_loop = λ rounds loop counter. Unit {0};
}

abbrev pub HasProducts : Program → PlainPlan → Type 0
HasProducts p plan = AreNodesOf (has_products plan) [] (core_of p).phases plan.body

-- Accesses.

-- of accesses of the plan: which may meet, and in which order they stand, is as in the program
pub record MeetsAs (p : Program) (plan : PlainPlan) : Type 0 where
  pub apart : (a b : ℕ) → In a plan.meets → In b plan.meets → Apart plan.meets a b ↔ Apart (meets_in p) a b
  pub order : (a b : ℕ) → In a plan.meets → In b plan.meets → Before plan.meets a b ↔ Before (meets_in p) a b
  pub known : (a : ℕ) → In a plan.meets → In a (meets_in p)

-- no access of the plan charges a bank more than in the program
abbrev pub ChargesWithin : Program → PlainPlan → Type 0
ChargesWithin p plan =
    (entity memory bank access : ℕ) → number_in (memories_of p) (Some entity) ≡ Some memory → plan_charge plan memory bank access ≤ charge p entity bank access

-- a phase of the program makes the access of this number
abbrev pub is_made : Program → (number : ℕ) → Bool
is_made p number = list_any (holds_both number number) (phases_of p)

abbrev pub counts_use : (access : ℕ) → Option Reach → ℕ
counts_use access None = 0
counts_use access (Some r) = if r.access == access then 1 else 0

abbrev pub operations_using : (access : ℕ) → List Operation → ℕ
operations_using access [] = 0
operations_using access (o ∷ os) = counts_use access (use_in o.form) + operations_using access os

-- how many reads and writes a plan has of an access
abbrev pub uses_of : (access : ℕ) → List PlanBlock → ℕ
uses_of access [] = 0
uses_of access (b ∷ bs) = operations_using access b.operations + uses_of access bs

-- how many distinct keys the paths of an access have
abbrev pub keys_of : Program → SourceAccess → ℕ
keys_of p a = distinct_count same_path (map (key_of (all_bindings_of p) a) (paths_of a))

abbrev pub uses_wanted : Program → (number : ℕ) → SourceAccess → ℕ
uses_wanted p number a = if is_some (shared p number) then 0 else keys_of p a

-- an access that is made has one read or write for each distinct key, and one that shares an earlier read none
abbrev pub UsesByKeys : Program → PlainPlan → Type 0
UsesByKeys p plan =
    (number : ℕ) (a : SourceAccess) → slice_get (accesses_in (trace p)) number ≡ Some a → is_made p number ≡ true
    → uses_of number plan.blocks ≡ uses_wanted p number a

abbrev pub counts_probe : (access : ℕ) → OperationForm → ℕ
counts_probe access (Probe r fault) = if r.access == access then 1 else 0
counts_probe access _ = 0

abbrev pub probes_among : (access : ℕ) → List Operation → ℕ
probes_among access [] = 0
probes_among access (o ∷ os) = counts_probe access o.form + probes_among access os

abbrev pub probes_of : (access : ℕ) → List PlanBlock → ℕ
probes_of access [] = 0
probes_of access (b ∷ bs) = probes_among access b.operations + probes_of access bs

-- an access that is made has one probe for each of its paths
abbrev pub ProbesByPaths : Program → PlainPlan → Type 0
ProbesByPaths p plan =
    (number : ℕ) (a : SourceAccess) → slice_get (accesses_in (trace p)) number ≡ Some a → is_made p number ≡ true
    → probes_of number plan.blocks ≡ length (paths_of a)

-- What the pass that makes copies into operations states of its plan.
pub record IsPlanOf (p : Program) (plan : PlainPlan) : Type 0 where
  pub table : plan.table ≡ table_of p
  -- registers stand for variables, and each block does its phase
  pub slots : Slots
  pub phases : DoesPhases plan slots (core_of p).phases
  pub runs : RunsAs (core_of p) plan
  pub sound : IsSound plan
  pub lengths : HasLengths p plan
  pub products : HasProducts p plan
  pub meets : MeetsAs p plan
  pub charges : ChargesWithin p plan
  pub uses : UsesByKeys p plan
  pub probes : ProbesByPaths p plan
  pub few_faults : length plan.faults ≤ accesses_of p.body
  -- accesses of literals are so in the plan
  pub literals : HasSourceLiterals p plan

-- What the pass that makes banks and rows states of its plan.

-- a block sees, or sets, a register
pub record Sees (plan : PlainPlan) (block register : ℕ) : Type 0 where
  pub place : ℕ
  pub guard : Option ℕ
  pub there : slice_get (operations_in plan block) place ≡ Some (record { guard = guard; form = Old register })

pub record SetsRegister (plan : PlainPlan) (block register : ℕ) : Type 0 where
  pub place : ℕ
  pub guard : Option ℕ
  pub value : ℕ
  pub there : slice_get (operations_in plan block) place ≡ Some (record { guard = guard; form = Set register value })

-- in a step that begins so a block of the one does what the same block of the other does
pub record DoesTheSame (p q : PlainPlan) (block : ℕ) (registers : List ℕ) (memories : List (List ℕ)) : Type 0 where
  pub fault : first_fault (events_of_block q (start_at q registers memories) block) ≡ first_fault (events_of_block p (start_at p registers memories) block)
  pub puts : first_fault (events_of_block p (start_at p registers memories) block) ≡ None
      → puts_of (events_of_block q (start_at q registers memories) block) ≡ puts_of (events_of_block p (start_at p registers memories) block)
  pub sets : first_fault (events_of_block p (start_at p registers memories) block) ≡ None
      → all_set (sets_of_block q (start_at q registers memories) block) registers ≡ all_set (sets_of_block p (start_at p registers memories) block) registers

-- so whatever registers and memories hold of their kinds, with each loop round it in a turn
abbrev pub BlocksDoTheSame : PlainPlan → PlainPlan → Type 0
BlocksDoTheSame p q =
    (block : ℕ) (loops : List Counting) → IsStepOf [] p.body (block ∷ []) loops
    → (registers : List ℕ) (memories : List (List ℕ)) → FitKinds p.registers registers → Fits p.table memories
    → AllByRecursion (λ c. slice_index registers c.counter < c.turns) loops
    → DoesTheSame p q block registers memories

-- from memories that fit
pub record RunTheSame (p q : PlainPlan) : Type 0 where
  pub outcome : (memories : List (List ℕ)) (n : ℕ) → Fits p.table memories → (plan_state q memories n).outcome ≡ (plan_state p memories n).outcome
  pub steps : (memories : List (List ℕ)) (n : ℕ) → Fits p.table memories → (plan_state q memories n).steps ≡ (plan_state p memories n).steps
  pub memories_same : (memories : List (List ℕ)) (n : ℕ) → Fits p.table memories → (plan_state q memories n).memories ≡ (plan_state p memories n).memories
  pub places : (memories : List (List ℕ)) (n : ℕ) → Fits p.table memories → (plan_state q memories n).place ≡ (plan_state p memories n).place

-- no check of the new plan has such a fault, and the banks and rows of such an access are constants there
pub record KeepsLiterals (p q : PlainPlan) : Type 0 where
  pub unchecked : (fault c j ok : ℕ) (guard : Option ℕ) → IsOfLiterals p fault
      → slice_get (operations_in q c) j ≡ Some (record { guard = guard; form = Check ok fault }) → ⊥
  pub rows : (number c j : ℕ) (t : Reach) → IsLiteralAccess p number → HasUse q c j t → t.access ≡ number
      → IsConstantOr q c t.row × IsConstantOr q c t.select

pub record IsAddressingOf (p q : PlainPlan) : Type 0 where
  pub table : q.table ≡ p.table
  pub registers : q.registers ≡ p.registers
  pub body : q.body ≡ p.body
  pub meets : q.meets ≡ p.meets
  pub faults : q.faults ≡ p.faults
  pub sound : IsSound q
  pub addressed : IsAddressed q
  pub does : BlocksDoTheSame p q
  pub runs : RunTheSame p q
  pub sees : (block register : ℕ) → Sees q block register ↔ Sees p block register
  pub sets : (block register : ℕ) → SetsRegister q block register ↔ SetsRegister p block register
  pub charges : (memory bank access : ℕ) → plan_charge q memory bank access ≡ plan_charge p memory bank access
  pub lengths : (block : ℕ) → block_clocks q block ≡ block_clocks p block
  pub products : (block : ℕ) → block_products (operations_in q block) ≡ block_products (operations_in p block)
  pub literals : KeepsLiterals p q
