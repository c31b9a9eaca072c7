-- What a state keeps behind an assignment, a test and a store.
use Rattle.std.proofs.Common.{◌≡◌, ℕ, ◌+◌, ◌^◌, ◌==◌, List, ◌++◌, take, Ok, Err, ap, sym, ◌∙◌, subst}
use Rattle.std.specs.Prelude.{Result, slice_index, slice_set}
use Rattle.dh_value.specs.declared.words.Word.{Word}
use Rattle.dh_value.specs.Words as words
use Rattle.dh_value.specs.Words.{residue}
use Rattle.dh_meaning.specs.Paths.{Path}
use Rattle.dh_meaning.specs.Core.{CoreTerm}
use Rattle.dh_meaning.specs.Effects.{Effect, Event, Variables, assigned_at, holds_at, set_variable, term_events, tested_at, value_of_term}
use Rattle.dh_code.specs.declared.codes.FlatExpression.{FlatExpression}
use Rattle.dh_code.specs.declared.evaluating.StepContext.{StepContext}
use Rattle.dh_code.specs.declared.evaluating.StepStop.{StepStop}
use Rattle.dh_code.specs.declared.running.StepState.{StepState}
use Rattle.dh_code.specs.declared.spending.Bank.{Bank}
use Rattle.dh_code.specs.Coded.{AreSlotsOf, IsFlat}
use Rattle.dh_code.specs.Operated.{Sight, operand_word}
use Rattle.dh_code.specs.Plain.{all_plain}
use Rattle.dh_code.specs.Scenes.{IsScene, Spends, begun_in, flat_events, flat_sight, flat_word}
use Rattle.dh_code.specs.Slots.{Holds, Placing}
use Rattle.dh_code.specs.Spent.{HaveSpent}
use Rattle.dh_code.specs.States.{AreRanks, Ends, IsAssigned, IsReadyState, Keeps, KeepsVariables, SpendsFlat, sight_in}
use Rattle.dh_code.specs.Suited.{CanEvaluate, IsInside}
use Rattle.dh_code.proofs.FlatMeaning.{assigned_slot, flat_happens, flat_value, kept_events, none_written, path_of, stopped_events}
use Rattle.dh_code.proofs.Ranges.{items_same}
use Rattle.dh_code.proofs.SlotsHeld.{held_more}

module _ (s : StepContext) (scene : IsScene s) (p : Placing) (factors ranks : List ℕ) (path : Path) (t : CoreTerm) (f : FlatExpression) (e : Effect) (old middle : StepState)
    (at : AreRanks factors ranks path) (is : IsFlat p.held s.entries.now s.code.now t f) (can : CanEvaluate s.entries.now p factors t) (k : Keeps p s.entries.now e s.step old) (ready : IsReadyState s old) where
  abbrev value : Word
  value = value_of_term (begun_in s) e.variables path t

  abbrev happens : List Event
  happens = term_events (begun_in s) e.variables path t

  -- the value of an expression's operand behind its operations
  pub flat_worth : (w : Word) → w ≡ operand_word (sight_in middle ranks) f.value → sight_in middle ranks ≡ flat_sight s (sight_in old ranks) f → w ≡ flat_word s (sight_in old ranks) f
  flat_worth w same seen = same ∙ ap (λ (x : Sight). operand_word x f.value) seen

  pub worth_of : (w : Word) → w ≡ flat_word s (sight_in old ranks) f → w ≡ value
  worth_of w same = same ∙ flat_value s scene p e.variables factors path t f (sight_in old ranks) k.variables at is can ready.room

  events_of : flat_events s (sight_in old ranks) f ≡ all_plain happens
  events_of = flat_happens s scene p e.variables factors path t f (sight_in old ranks) k.variables at is can ready.room

  pub spent_of : (w : Word) → SpendsFlat {A = Word} s old (Ok w) middle ranks f → HaveSpent s.entries.now (all_plain e.events ++ all_plain happens) s.step middle.banks.items
  spent_of w spends = subst (λ (l : List Event). HaveSpent s.entries.now (all_plain e.events ++ l) s.step middle.banks.items) events_of (spends (all_plain e.events) k.spent)

  pub stopped_of : (A B : Type 0) (x : StepStop) (result : Result B StepStop) (v : Variables) (new : StepState) → result ≡ Err x → SpendsFlat {A = A} s old (Err x) middle ranks f
      → Ends {A = B} p s.entries.now (record { variables = v; events = e.events ++ happens }) s.step result new
  stopped_of A B x result v new stopped spends =
      stopped_events A B p s.entries.now e s.step middle.banks.items new v happens x result stopped
      (subst (λ (l : List Event). Spends {A = A} s.entries.now (all_plain e.events ++ l) s.step (Err x) middle.banks.items) events_of (spends (all_plain e.events) k.spent))

  pub tested_keeps : (w : Word) → KeepsVariables old middle → SpendsFlat {A = Word} s old (Ok w) middle ranks f → Keeps p s.entries.now (tested_at (begun_in s) t path e) s.step middle
  tested_keeps w kept spends =
      kept_events p s.entries.now e s.step old middle e.variables happens k
      (subst (λ (l : List ℕ). Holds p l e.variables) (sym (items_same _ _ kept.variables)) k.variables)
      (none_written (begun_in s) e.variables path t) (items_same _ _ kept.writes) (spent_of w spends)

  pub holds_as : (w : Word) → w ≡ flat_word s (sight_in old ranks) f → holds_at (begun_in s) e.variables t path ≡ (w.bits == 1)
  holds_as w same = ap (λ (x : Word). x.bits == 1) (sym (worth_of w same))

  pub assigned_keeps : (deep entity first depth slot bits : ℕ) (w : Word) (new : StepState) → AreSlotsOf p.held entity first depth → IsInside p factors deep entity → KeepsVariables old middle
      → w ≡ flat_word s (sight_in old ranks) f → SpendsFlat {A = Word} s old (Ok w) middle ranks f → slot ≡ first + slice_index ranks depth → bits ≡ residue (2 ^ 64) (words.value_of w)
      → new.banks ≡ middle.banks → new.writes ≡ middle.writes → IsAssigned middle new slot bits → Keeps p s.entries.now (assigned_at (begun_in s) deep entity t path e) s.step new
  assigned_keeps deep entity first depth slot bits w new slots inside kept same spends there whole banks written set =
      kept_events p s.entries.now e s.step old new (set_variable e.variables entity (take deep path) (words.value_of value)) happens k
      (subst (λ (l : List ℕ). Holds p l (set_variable e.variables entity (take deep path) (words.value_of value))) (sym (set ∙ ap (λ l. slice_set l slot bits) (items_same _ _ kept.variables)))
      (held_more p old.variables.items e.variables entity (take deep path) (words.value_of value) slot bits k.variables inside.known (path_of p factors ranks path entity deep at inside)
      (assigned_slot p factors ranks path entity first depth deep slot at slots inside there) (whole ∙ ap (λ (x : Word). residue (2 ^ 64) (words.value_of x)) (worth_of w same))))
      (none_written (begun_in s) e.variables path t) (items_same _ _ written ∙ items_same _ _ kept.writes)
      (subst (λ (l : List Bank). HaveSpent s.entries.now (all_plain e.events ++ all_plain happens) s.step l) (sym (items_same _ _ banks)) (spent_of w spends))
