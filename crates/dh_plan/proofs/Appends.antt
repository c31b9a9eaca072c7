-- Pieces of blocks one after the other: each by recursion on the first piece.
use Rattle.std.proofs.Common.{◌≡◌, ℕ, zero, suc, Some, List, refl, sym, ap, ◌∙◌}
use Rattle.std.specs.Prelude.{[], ◌∷◌, ◌++◌, slice_get}
use Rattle.std.proofs.lemmas.List.{append_assoc}
use Rattle.dh_value.specs.declared.words.Word.{Word}
use Rattle.dh_plan.specs.declared.operations.Operation.{Operation}
use Rattle.dh_plan.specs.Blocks.{StepStart, BlockEvent, fails, puts, operation_events, block_events, RegisterSet, operation_sets, block_sets, first_fault, Put, puts_of}
use Rattle.dh_plan.specs.BlockLaws.{fault_or, AppendsKeep, EndsInOrder, PutsInOrder, SetsInOrder}

pub events_behind : (s : StepStart) (first : ℕ) (ws : List Word) (os more : List Operation)
    → block_events s first ws (os ++ more) ≡ block_events s first ws os ++ block_events s first ws more
events_behind s first ws [] more = refl
events_behind s first ws (o ∷ os) more =
    ap (λ (es : List BlockEvent). operation_events s first ws o ++ es) (events_behind s first ws os more) ∙ sym (append_assoc (operation_events s first ws o) _ _)

pub sets_behind : (first : ℕ) (ws : List Word) (os more : List Operation) → block_sets first ws (os ++ more) ≡ block_sets first ws os ++ block_sets first ws more
sets_behind first ws [] more = refl
sets_behind first ws (o ∷ os) more =
    ap (λ (ss : List RegisterSet). operation_sets first ws o ++ ss) (sets_behind first ws os more) ∙ sym (append_assoc (operation_sets first ws o) _ _)

pub there_in_front : (os more : List Operation) (i : ℕ) (o : Operation) → slice_get os i ≡ Some o → slice_get (os ++ more) i ≡ Some o
there_in_front [] more i o e = absurd (cc)
there_in_front (p ∷ os) more zero o e = e
there_in_front (p ∷ os) more (suc i) o e = there_in_front os more i o e

pub appends_keep : (os more : List Operation) → AppendsKeep os more
appends_keep os more =
    record {
      events = λ s first ws. events_behind s first ws os more;
      sets = λ first ws. sets_behind first ws os more;
      solves = λ s look first ws w. record { each = λ i o e. w.each i o (there_in_front os more i o e) };
    }

pub fault_behind : (es more : List BlockEvent) → first_fault (es ++ more) ≡ fault_or (first_fault es) (first_fault more)
fault_behind [] more = refl
fault_behind (fails fault ∷ es) more = refl
fault_behind (puts spot bits ∷ es) more = fault_behind es more

pub puts_behind : (es more : List BlockEvent) → puts_of (es ++ more) ≡ puts_of es ++ puts_of more
puts_behind [] more = refl
puts_behind (fails fault ∷ es) more = puts_behind es more
puts_behind (puts spot bits ∷ es) more = ap (λ (ps : List Put). record { spot = spot; bits = bits } ∷ ps) (puts_behind es more)

pub ends_in_order : (es more : List BlockEvent) → EndsInOrder es more
ends_in_order es more = record { fault = fault_behind es more; puts = puts_behind es more }

pub puts_in_order : PutsInOrder
puts_in_order [] more memories = refl
puts_in_order (p ∷ ps) more memories = puts_in_order ps more _

pub sets_in_order : SetsInOrder
sets_in_order [] more registers = refl
sets_in_order (s ∷ ss) more registers = sets_in_order ss more _
