-- The code of commands in front of others.
use Rattle.std.proofs.Common.{◌≡◌, ℕ, ◌+◌, ◌≤◌, List, length, ap, sym, ◌∙◌, subst, arith}
use Rattle.std.specs.Prelude.{Option, slice_range}
use Rattle.std.specs.List.{AllByRecursion}
use Rattle.dh_tree.specs.declared.tables.MemEntry.{MemEntry}
use Rattle.dh_tree.specs.Shapes.{IsMemory}
use Rattle.dh_meaning.specs.Core.{CoreTerm, CoreCommand, CoreCommands, command_and}
use Rattle.dh_code.specs.declared.codes.Action.{Action}
use Rattle.dh_code.specs.declared.codes.Code.{Code}
use Rattle.dh_code.specs.declared.codes.FlatExpression.{FlatExpression}
use Rattle.dh_code.specs.declared.codes.CodeOperation.{CodeOperation}
use Rattle.dh_code.specs.declared.flattening.Names.{Names}
use Rattle.dh_code.specs.declared.places.VariableSlots.{VariableSlots}
use Rattle.dh_code.specs.Coded.{ExtendsCode, IsCoded, IsFlat}
use Rattle.dh_code.specs.Flattening.{AddsOnlyOperations, AddsStep, IsFlatMade, IsInFront, table_in}
use Rattle.dh_code.specs.Made.{MadeExpression, term_made}
use Rattle.dh_code.specs.Operated.{IsValidOperand, IsOperation}
use Rattle.dh_code.specs.Scenes.{IsAction, IsHeld}
use Rattle.dh_code.specs.Suited.{IsSuited}
use Rattle.dh_code.proofs.CommandsCoded.{adds_extend, begins_before, coded_stays, extends_then, front_coded, range_added, sound_added, sound_step, step_extends}
use Rattle.dh_code.proofs.Flattened.{adds_long}
use Rattle.dh_code.proofs.MadeParts.{made_done}

-- an expression that was made stands in the code
pub flat_is : (held : List VariableSlots) (table : List MemEntry) (a b : Code) (t : CoreTerm) (f : FlatExpression) → IsFlatMade a b (term_made held table (length a.operations) t) f → IsFlat held table b t f
flat_is held table a b t f h = record {
  within = by (length m.operations) (length b.operations) (adds_long a b m.operations h.adds) h.to;
  there = at_end h.to;
  operations =
      ap (λ n. slice_range b.operations n f.to) h.from
      ∙ (ap (λ (l : List CodeOperation). slice_range l (length a.operations) f.to) h.adds.operations
      ∙ (range_added a.operations m.operations f.to (h.to ∙ adds_long a b m.operations h.adds)
      ∙ ap (λ n. (term_made held table n t).operations) (sym h.from)));
  value = h.value ∙ ap (λ n. (term_made held table n t).value) (sym h.from);
}
  where
    m : MadeExpression
    m = term_made held table (length a.operations) t

    by : (n k : ℕ) → k ≡ length a.operations + n → f.to ≡ k → f.from ≤ f.to
    by n k e y = let x = h.from in omega (arith, e, x, y)

    at_end : f.to ≡ length b.operations → f.to ≤ length b.operations
    at_end e = omega (arith, e)

-- and can be done
pub flat_held : (held : List VariableSlots) (table : List MemEntry) (a b : Code) (t : CoreTerm) (f : FlatExpression) → AllByRecursion IsMemory table → IsSuited table t → IsFlatMade a b (term_made held table (length a.operations) t) f → IsHeld b.operations f
flat_held held table a b t f entries suits h =
    let i = flat_is held table a b t f h in
    record { within = i.within; there = i.there; operand = subst IsValidOperand (sym h.value) (made_done held table entries (length a.operations) t suits).value }

-- one command more behind operations that it needs
pub in_front : (names : Names) (a b c : Code) (os : List CodeOperation) (x : Action) (next first : Option ℕ) (one : CoreCommand) (rest : CoreCommands) → AddsOnlyOperations a b os → AddsStep b c x next first → IsCoded names.places.now (table_in names) b x one
    → (AllByRecursion IsMemory (table_in names) → AllByRecursion (IsOperation (table_in names)) os × IsAction (table_in names) b.operations (length b.steps) x) → IsInFront names a c first next (command_and one rest) rest
in_front names a b c os x next first one rest adds step coded done = record {
  extends = extends_then a b c ext (step_extends b c x next first step);
  coded = λ i. front_coded names.places.now (table_in names) b c x next first one rest step coded (coded_stays names.places.now (table_in names) a b ext next rest i);
  sound = λ entries i s.
      sound_step (table_in names) b c x next first step (done entries).1 (begins_before names.places.now (table_in names) b next rest (coded_stays names.places.now (table_in names) a b ext next rest i))
      (sound_added (table_in names) a b os adds (done entries).0 s);
}
  where
    ext : ExtendsCode a b
    ext = adds_extend a b os adds
