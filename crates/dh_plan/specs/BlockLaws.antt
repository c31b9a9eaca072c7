-- Laws on the meaning of blocks, on which all work on plans stands: values are the one solution of a block's
-- equations, what a block does is a function of values that it takes, and blocks are put together piece by piece.
use Rattle.std.specs.Prelude.{◌≡◌, ℕ, List, ◌++◌, Option, Some, None}
use Rattle.std.specs.List.{AllByRecursion}
use Rattle.dh_value.specs.declared.words.Word.{Word}
use Rattle.dh_plan.specs.declared.operations.Operation.{Operation}
use Rattle.dh_plan.specs.declared.operations.Reach.{Reach}
use Rattle.dh_plan.specs.Blocks.{StepStart, Look, word_at, in_memories, values_of_operations, Solves, AreValues, BlockEvent, block_events, RegisterSet, block_sets, first_fault, Put, puts_of, all_put, all_set}
use Rattle.dh_plan.specs.Ordered.{reach_takes, operation_takes, IsOrdered}

-- both lists have one value at a number
abbrev pub SameAt : (first : ℕ) → (ws vs : List Word) → ℕ → Type 0
SameAt first ws vs number = word_at first ws number ≡ word_at first vs number

abbrev pub SameAtAll : (first : ℕ) → (ws vs : List Word) → List ℕ → Type 0
SameAtAll first ws vs numbers = AllByRecursion (SameAt first ws vs) numbers

-- what a read shows depends on what its access takes
pub record LooksBack (look : Look) (first : ℕ) : Type 0 where
  pub same : (number : ℕ) (r : Reach) (ws vs : List Word) → SameAtAll first ws vs (reach_takes r) → look number r ws ≡ look number r vs

-- the values of a block solve its equations, and no other list does
pub record HasOneSolution (s : StepStart) (look : Look) (first : ℕ) (os : List Operation) : Type 0 where
  pub solves : AreValues s look first os (values_of_operations s look first os)
  pub alone : (ws : List Word) → AreValues s look first os ws → ws ≡ values_of_operations s look first os

-- two lists with the same at all that is taken have the block do the same
abbrev pub DoesByValues : StepStart → (first : ℕ) → (ws vs : List Word) → List Operation → Type 0
DoesByValues s first ws vs os =
    AllByRecursion (λ (o : Operation). SameAtAll first ws vs (operation_takes o)) os
    → (block_events s first ws os ≡ block_events s first vs os) × (block_sets first ws os ≡ block_sets first vs os)

-- the first fault of the one, or else of the other
abbrev pub fault_or : Option ℕ → Option ℕ → Option ℕ
fault_or None fault = fault
fault_or (Some first) fault = Some first

-- Operations in front of others: what each part does comes one after the other, and what solves all solves the
-- part in front.
pub record AppendsKeep (os more : List Operation) : Type 0 where
  pub events : (s : StepStart) (first : ℕ) (ws : List Word) → block_events s first ws (os ++ more) ≡ block_events s first ws os ++ block_events s first ws more
  pub sets : (first : ℕ) (ws : List Word) → block_sets first ws (os ++ more) ≡ block_sets first ws os ++ block_sets first ws more
  pub solves : (s : StepStart) (look : Look) (first : ℕ) (ws : List Word) → Solves s look first (os ++ more) ws → Solves s look first os ws

-- the same of what is done at the end of a step
pub record EndsInOrder (es more : List BlockEvent) : Type 0 where
  pub fault : first_fault (es ++ more) ≡ fault_or (first_fault es) (first_fault more)
  pub puts : puts_of (es ++ more) ≡ puts_of es ++ puts_of more

abbrev pub PutsInOrder : Type 0
PutsInOrder = (ps more : List Put) (memories : List (List ℕ)) → all_put (ps ++ more) memories ≡ all_put more (all_put ps memories)

abbrev pub SetsInOrder : Type 0
SetsInOrder = (ss more : List RegisterSet) (registers : List ℕ) → all_set (ss ++ more) registers ≡ all_set more (all_set ss registers)

-- where operations take earlier values, and reads show by values before them, a block has one solution
abbrev pub BlocksHaveOneSolution : Type 0
BlocksHaveOneSolution = (s : StepStart) (look : Look) (first : ℕ) (os : List Operation) → LooksBack look first → IsOrdered first os → HasOneSolution s look first os

-- in a plan reads show what is in memories, by values before them
abbrev pub MemoriesLookBack : Type 0
MemoriesLookBack = (s : StepStart) (first : ℕ) → LooksBack (in_memories s first) first

abbrev pub BlocksDoByValues : Type 0
BlocksDoByValues = (s : StepStart) (first : ℕ) (ws vs : List Word) (os : List Operation) → DoesByValues s first ws vs os
