-- What wires show at the end of a step. Whether an element is there is told by the table and the views, not by what
-- memories hold, and values by a look at ports need no memories; so with all values shown as they are meant, what
-- blocks do by these is what they do. By the forms of operations.
use Rattle.std.proofs.Common.{◌≡◌, ℕ, inl, inr, Some, None, if◌then◌else◌, List, refl, ap, ◌∙◌}
use Rattle.std.specs.Prelude.{[], ◌∷◌, ◌++◌, Option}
use Rattle.dh_tree.specs.Elements.{Spot}
use Rattle.dh_value.specs.declared.words.Word.{Word}
use Rattle.dh_plan.specs.declared.operations.Operation.{Operation}
use Rattle.dh_plan.specs.declared.operations.OperationForm.{OperationForm}
use Rattle.dh_plan.specs.declared.operations.OperationForm.TheVariants.{Constant, Old, Compute, Convert, Select, Check, Probe, Read, Write, Set}
use Rattle.dh_plan.specs.declared.operations.Reach.{Reach}
use Rattle.dh_plan.specs.Blocks.{Look, is_on, word_at, guarded, spot_in_row, spot_of_reach, form_word, BlockEvent, fails_outside, puts_inside, operation_form_events, operation_events, block_events, RegisterSet, block_sets}
use Rattle.dh_plan.specs.PlainPlans.{PlainPlan, first_in, operations_in}
use Rattle.dh_plan.specs.PlanRuns.{start_at, block_values, events_of_block, sets_of_block, step_events, step_sets}
use Rattle.dh_plan.specs.SoundPlans.{IsOneOf}
use Rattle.dh_lower.specs.NetOfPlan.{events_by, sets_by}
use Rattle.dh_lower.specs.StepLaws.{EndsAreShown, PortsNeedNoMemories}

module _ (plan : PlainPlan) (registers : List ℕ) (memories : List (List ℕ)) where
  row_apart : (first : ℕ) (ws : List Word) (r : Reach) (row : Option ℕ) → spot_in_row (start_at plan registers []) first ws r row ≡ spot_in_row (start_at plan registers memories) first ws r row
  row_apart first ws r None = refl
  row_apart first ws r (Some row) = refl

  spot_apart : (first : ℕ) (ws : List Word) (r : Reach) → spot_of_reach (start_at plan registers []) first ws r ≡ spot_of_reach (start_at plan registers memories) first ws r
  spot_apart first ws r = row_apart first ws r r.row

  form_apart : (first : ℕ) (ws : List Word) (f : OperationForm) → operation_form_events (start_at plan registers []) first ws f ≡ operation_form_events (start_at plan registers memories) first ws f
  form_apart first ws (Constant word) = refl
  form_apart first ws (Old register) = refl
  form_apart first ws (Compute op left right) = refl
  form_apart first ws (Convert inner to) = refl
  form_apart first ws (Select test a b) = refl
  form_apart first ws (Check ok fault) = refl
  form_apart first ws (Probe r fault) = ap (λ (x : Option Spot). fails_outside fault x) (spot_apart first ws r)
  form_apart first ws (Read r) = refl
  form_apart first ws (Write r value) = ap (λ (x : Option Spot). puts_inside (word_at first ws value).bits x) (spot_apart first ws r)
  form_apart first ws (Set register value) = refl

  operation_apart : (first : ℕ) (ws : List Word) (o : Operation) → operation_events (start_at plan registers []) first ws o ≡ operation_events (start_at plan registers memories) first ws o
  operation_apart first ws o = ap (λ (es : List BlockEvent). if is_on first ws o.guard then es else []) (form_apart first ws o.form)

  block_apart : (first : ℕ) (ws : List Word) (os : List Operation) → block_events (start_at plan registers []) first ws os ≡ block_events (start_at plan registers memories) first ws os
  block_apart first ws [] = refl
  block_apart first ws (o ∷ os) =
      ap (λ (es : List BlockEvent). es ++ block_events (start_at plan registers []) first ws os) (operation_apart first ws o)
      ∙ ap (λ (es : List BlockEvent). operation_events (start_at plan registers memories) first ws o ++ es) (block_apart first ws os)

  -- values by a look at ports
  word_apart : (look : Look) (first : ℕ) (ws : List Word) (n : ℕ) (f : OperationForm) → form_word (start_at plan registers []) look first ws n f ≡ form_word (start_at plan registers memories) look first ws n f
  word_apart look first ws n (Constant word) = refl
  word_apart look first ws n (Old register) = refl
  word_apart look first ws n (Compute op left right) = refl
  word_apart look first ws n (Convert inner to) = refl
  word_apart look first ws n (Select test a b) = refl
  word_apart look first ws n (Check ok fault) = refl
  word_apart look first ws n (Probe r fault) = refl
  word_apart look first ws n (Read r) = refl
  word_apart look first ws n (Write r value) = refl
  word_apart look first ws n (Set register value) = refl

  -- blocks
  module _ (words : (block : ℕ) → List Word) where
    abbrev AllMeant : List ℕ → Type 0
    AllMeant blocks = (block : ℕ) → IsOneOf block blocks → words block ≡ block_values plan (start_at plan registers memories) block

    events_shown : (blocks : List ℕ) → AllMeant blocks → events_by plan registers words blocks ≡ step_events plan (start_at plan registers memories) blocks
    events_shown [] all = refl
    events_shown (b ∷ bs) all =
        ap (λ (es : List BlockEvent). es ++ events_by plan registers words bs) (block_apart (first_in plan b) (words b) (operations_in plan b)
        ∙ ap (λ (ws : List Word). block_events (start_at plan registers memories) (first_in plan b) ws (operations_in plan b)) (all b (inl refl)))
        ∙ ap (λ (es : List BlockEvent). events_of_block plan (start_at plan registers memories) b ++ es) (events_shown bs (λ c there. all c (inr there)))

    sets_shown : (blocks : List ℕ) → AllMeant blocks → sets_by plan words blocks ≡ step_sets plan (start_at plan registers memories) blocks
    sets_shown [] all = refl
    sets_shown (b ∷ bs) all =
        ap (λ (ss : List RegisterSet). ss ++ sets_by plan words bs) (ap (λ (ws : List Word). block_sets (first_in plan b) ws (operations_in plan b)) (all b (inl refl)))
        ∙ ap (λ (ss : List RegisterSet). sets_of_block plan (start_at plan registers memories) b ++ ss) (sets_shown bs (λ c there. all c (inr there)))

pub ends_are_shown : EndsAreShown
ends_are_shown plan registers memories words blocks all =
    record { events = events_shown plan registers memories words blocks all; sets = sets_shown plan registers memories words blocks all }

pub ports_need_no_memories : PortsNeedNoMemories
ports_need_no_memories plan registers memories look first os ws h =
    record {
      long = h.long;
      solve = record { each = λ i o at. h.solve.each i o at ∙ ap (λ (w : Word). guarded (is_on first ws o.guard) w) (word_apart plan registers memories look first ws _ o.form) };
    }
