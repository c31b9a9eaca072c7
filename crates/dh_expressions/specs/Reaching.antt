-- Reads and writes of elements at one path. What a read gives is what the program reads, and a probe tells its fault.
use Rattle.std.specs.Prelude.{◌≡◌, ℕ, ◌+◌, ◌-◌, ◌<◌, ◌^◌, min, true, false, List, [], ◌∷◌, ◌++◌, take, drop, Option, Some, None, ℤ}
use Rattle.dh_base.specs.declared.places.Place.{Place}
use Rattle.dh_value.specs.Words as words
use Rattle.dh_tree.specs.declared.trees.expressions.Ref.{Ref}
use Rattle.dh_tree.specs.Indices.{form_of}
use Rattle.dh_tree.specs.PlainTrees as plain
use Rattle.dh_meaning.specs.CoreOf.{memory_of}
use Rattle.dh_meaning.specs.Core.{Reach, Target, by_indices, by_row, by_views, read}
use Rattle.dh_meaning.specs.Effects.{Event, read_made, spot_reached, value_of_term, values_of, write_made}
use Rattle.dh_plan.specs.declared.operations.OperationForm.TheVariants.{Read}
use Rattle.dh_plan.specs.declared.operations.Reach as plans
use Rattle.dh_plan.specs.declared.operations.ReachStep.{ReachStep}
use Rattle.dh_plan.specs.Blocks.{passages}
use Rattle.dh_plan.specs.Passages.{Passage}
use Rattle.dh_plan.specs.WaysPassed.{AreOfSteps}
use Rattle.dh_expressions.specs.declared.accesses.Accesses.{Accesses}
use Rattle.dh_expressions.specs.declared.copies.AccessAt.{AccessAt}
use Rattle.dh_expressions.specs.declared.drafts.Draft.{Draft}
use Rattle.dh_expressions.specs.declared.elements.Aim.{Aim}
use Rattle.dh_expressions.specs.declared.scenes.Lane.{Lane}
use Rattle.dh_expressions.specs.declared.scenes.Scene.{Scene}
use Rattle.dh_expressions.specs.declared.terms.Valued.{Valued}
use Rattle.dh_expressions.specs.Drafted.{BlockBegun, Extends, FitsStep, Pushes, BlockStep, fails_to_hold, holds, word_shown, tale, tales_told}
use Rattle.dh_expressions.specs.Evaluated.{Evaluates, IsDone, IsSited, Knows, NamesSmallBank, View, begun_of, known_in, lane_guard, lane_path, numbers_shown}
use Rattle.dh_expressions.specs.Named.{banks_told}
use Rattle.dh_expressions.specs.Numbers.{narrowed}

-- the access of a plan that these values name, which can reach these banks
abbrev pub reach_told : (memory : ℕ) → Aim → (banks : List (ℕ × ℕ)) → plans.Reach
reach_told memory aim banks = record {
  access = aim.number;
  memory = narrowed memory;
  indices = aim.indices;
  steps = aim.steps;
  banks = banks;
  select = None;
  row = aim.row;
}

-- the banks of an access at a path, by its copy there
abbrev pub copy_banks : Scene → plain.TermForm → AccessAt → List (ℕ × ℕ)
copy_banks scene form copy = banks_told scene form copy.bank copy.place

-- a read is the one that was found, or is added
abbrev pub Finds : Scene → plain.TermForm → (old new : Draft) → (memory : ℕ) → Aim → AccessAt → (found : Option ℕ) → (value : ℕ) → Type 0
Finds scene form old new memory aim copy (Some n) value = (new ≡ old) × (value ≡ n)
Finds scene form old new memory aim copy None value = Pushes old new value copy.guard (Read (reach_told memory aim (copy_banks scene form copy)))

-- the views on the way of an access, with the values of their offsets
abbrev pub steps_shown : BlockStep → List ReachStep → List Passage
steps_shown x steps = passages x.first x.words steps

-- the values of an access name the element that it names in the program
abbrev pub RowIs : View → Option ℕ → ℤ → Type 0
RowIs v None z = ⊥
RowIs v (Some row) z = words.value_of (word_shown v.step row) ≡ z

abbrev pub AimsAt : Lane → View → Aim → Target → Type 0
AimsAt lane v aim (by_indices ts) =
    (numbers_shown v.step aim.indices ≡ values_of (begun_of v.step) v.variables (lane_path lane) ts) × ((aim.steps ≡ []) × (aim.row ≡ None))
AimsAt lane v aim (by_views steps n ts) =
    (numbers_shown v.step aim.indices ≡ take n (values_of (begun_of v.step) v.variables (lane_path lane) ts))
    × (AreOfSteps v.step.start.views steps (steps_shown v.step aim.steps) (drop n (values_of (begun_of v.step) v.variables (lane_path lane) ts)) × (aim.row ≡ None))
AimsAt lane v aim (by_row bank t) = RowIs v aim.row (words.value_of (value_of_term (begun_of v.step) v.variables (lane_path lane) t))

-- an access names its element by indices, through views or not, or by a row of this bank
abbrev pub FormHasTarget : plain.TermForm → Target → Type 0
FormHasTarget (plain.accessed r indices) (by_indices ts) = Unit {0}
FormHasTarget (plain.accessed r indices) (by_views steps n ts) = Unit {0}
FormHasTarget (plain.in_bank r bank at row) (by_row other t) = other ≡ bank
FormHasTarget form target = ⊥

abbrev pub HasTarget : plain.Term → Target → Type 0
HasTarget access target = FormHasTarget (form_of access) target

abbrev pub place_written : plain.Term → Place
place_written (plain.term place k form) = place

abbrev pub reach_at : Place → (memory number : ℕ) → Reach
reach_at place memory number = record { number = number; place = place; memory = memory }

-- Of an access its place, its form and its memory, with the values that name its element.
module _ (scene : Scene) (lane : Lane) (place : Place) (form : plain.TermForm) (memory : ℕ) (aim : Aim) (target : Target) where
  -- an access is made at an element, and means what the program reads there
  pub record IsRead (v : View) : Type 0 where
    pub aims : AimsAt lane v aim target
    pub done : IsDone scene lane v memory aim.number place form (value_of_term (begun_of v.step) v.variables (lane_path lane) (read (reach_at place memory aim.number) target))

  -- so it is where the read is done
  pub record IsFairRead (v : View) : Type 0 where
    pub sited : IsSited scene lane v memory aim.number place form false
    pub read : v.reads.done aim.number lane.number ≡ true → IsRead v

  abbrev pub ReadsElement : (old new : Draft) → (before after : Accesses) → (value : ℕ) → Type 0
  ReadsElement old new before after value =
      Evaluates (lane_guard lane) old new before after value (λ v. IsFairRead v) (λ v. IsRead v)
      (λ v. value_of_term (begun_of v.step) v.variables (lane_path lane) (read (reach_at place memory aim.number) target))
      (λ v. read_made (reach_at place memory aim.number) (lane_path lane) (spot_reached (begun_of v.step) v.variables (lane_path lane) (reach_at place memory aim.number) target) ∷ [])

-- the reading of the element that values name, at a path
abbrev pub ReadsAt : Scene → Lane → (old new : Draft) → (before after : Accesses) → (access : plain.Term) → (memory : ℕ) → Aim → (value : ℕ) → Type 0
ReadsAt scene lane old new before after access memory aim value =
    (target : Target) → HasTarget access target → ReadsElement scene lane (place_written access) (form_of access) memory aim target old new before after value

-- the reading of an element of the memory that a name stands for, with the number of the next access
pub record ReadsNextElement (scene : Scene) (lane : Lane) (old new : Draft) (before after : Accesses) (access : plain.Term) (of : Ref) (aim : Aim) (valued : Valued) : Type 0 where
  pub next : valued.next ≡ min (aim.number + 1) (2 ^ 32 - 1)
  pub reads : ReadsAt scene lane old new before after access (memory_of (known_in scene) of) aim valued.value

-- Operations that give no word: where `Fair` holds the reads so far stay known; where `Sees` holds, too, they tell
-- their events under the guard. Where the guard is false they tell nothing.
pub record Tells (guard : Option ℕ) (old new : Draft) (before after : Accesses) (Fair Sees : View → Type 0) (events : View → List Event) : Type 0 where
  pub extends : Extends old new
  pub knows : (v : View) → FitsStep v.step new → BlockBegun v.step old → Knows v before → Fair v → Knows v after
  pub tells : (v : View) → FitsStep v.step new → BlockBegun v.step old → Knows v before → Fair v → Sees v → holds v.step guard → tale v.step new ≡ tale v.step old ++ tales_told (events v)
  pub quiet : (v : View) → FitsStep v.step new → BlockBegun v.step old → fails_to_hold v.step guard → tale v.step new ≡ tale v.step old

-- an access leads to the element that it names in the program
pub record IsAimedAccess (lane : Lane) (form : plain.TermForm) (memory : ℕ) (aim : Aim) (target : Target) (v : View) : Type 0 where
  pub aims : AimsAt lane v aim target
  pub small : memory < 2 ^ 32
  pub bank : NamesSmallBank form

-- the writing of a value into the element that values name, at a path
abbrev pub StoresAt : Scene → Lane → (old new : Draft) → (before after : Accesses) → (access : plain.Term) → (memory : ℕ) → Aim → (value : ℕ) → Type 0
StoresAt scene lane old new before after access memory aim value =
    (target : Target) → HasTarget access target
    → Tells (lane_guard lane) old new before after (λ v. IsSited scene lane v memory aim.number (place_written access) (form_of access) true)
    (λ v. IsAimedAccess lane (form_of access) memory aim target v)
    (λ v. write_made (reach_at (place_written access) memory aim.number) (lane_path lane) (word_shown v.step value).bits
    (spot_reached (begun_of v.step) v.variables (lane_path lane) (reach_at (place_written access) memory aim.number) target) ∷ [])
