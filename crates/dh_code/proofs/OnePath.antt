-- A command without arms at one path; an assignment of a value that makes no access.
use Rattle.std.proofs.Common.{◌≡◌, ℕ, ◌+◌, ◌≤◌, ◌^◌, List, [], ◌∷◌, length, get_or, Ok, Some, ap, sym, ◌∙◌, subst, arith}
use Rattle.std.specs.Prelude.{Option, Result, slice_get, slice_index, slice_index_or}
use Rattle.std.specs.List.{AllByRecursion}
use Rattle.dh_value.specs.declared.words.Word.{Word}
use Rattle.dh_value.specs.Words as words
use Rattle.dh_value.specs.Words.{residue}
use Rattle.dh_meaning.specs.Paths.{Path}
use Rattle.dh_meaning.specs.Core.{CoreCommand}
use Rattle.dh_meaning.specs.Effects.{Effect, at_each}
use Rattle.dh_code.specs.declared.codes.Action.{Action}
use Rattle.dh_code.specs.declared.codes.Action.TheVariants.{Assign}
use Rattle.dh_code.specs.declared.codes.FlatExpression.{FlatExpression}
use Rattle.dh_code.specs.declared.codes.ListedCommand.{ListedCommand}
use Rattle.dh_code.specs.declared.evaluating.StepContext.{StepContext}
use Rattle.dh_code.specs.declared.evaluating.StepStop.{StepStop}
use Rattle.dh_code.specs.declared.running.StepState.{StepState}
use Rattle.dh_code.specs.declared.running.Write.{Write}
use Rattle.dh_code.specs.declared.spending.Bank.{Bank}
use Rattle.dh_code.specs.Coded.{IsCoded}
use Rattle.dh_code.specs.Scenes.{IsScene, begun_in, flat_events, flat_word}
use Rattle.dh_code.specs.Slots.{Placing}
use Rattle.dh_code.specs.States.{AreRanks, AreRows, DoesOne, Ends, GoBackAlike, IsAssigned, IsReadyState, IsSmallWrite, Keeps, Runs, sight_in}
use Rattle.dh_code.specs.Spent.{AreUsedBy}
use Rattle.dh_code.specs.Suited.{CanDo}
use Rattle.dh_code.specs.Underway.{RunSoFar}
use Rattle.dh_code.proofs.ListsRun.{next_low, one_path, only_path, run_turn}
use Rattle.dh_code.proofs.PathCommands.{assigns_all, assigns_one, at_one}
use Rattle.dh_code.proofs.PathLoops.{row_at}
use Rattle.dh_code.proofs.PlainValues.{nothing_changes, worth_spends}
use Rattle.dh_code.proofs.Ranges.{items_same}
use Rattle.dh_code.proofs.StatesKept.{assigned_keeps}

pub done_alone : {A : Type 0} (s : StepContext) (old new : StepState) (result : Result A StepStop) (rows : List (List ℕ)) (n : ℕ) (action : Action) (ranks : List ℕ) → ranks ≡ slice_index_or rows n []
    → ((p : Placing) (factors : List ℕ) (path : Path) (c : CoreCommand) → AreRanks factors ranks path → IsCoded p.held s.entries.now s.code.now action c → CanDo s.entries.now p factors c → Runs p s old result new (at_one (begun_in s) c path))
    → (p : Placing) (factors : List ℕ) (paths : List Path) (c : CoreCommand) → AreRows factors rows (n ∷ []) paths → IsCoded p.held s.entries.now s.code.now action c → CanDo s.entries.now p factors c
    → (e : Effect) → Keeps p s.entries.now e s.step old → Ends {A = A} p s.entries.now (at_each (at_one (begun_in s) c) paths e) s.step result new
done_alone {A} s old new result rows n action ranks row one p factors paths c are coded can e k = by (one_path factors rows n paths are)
  where
    by : (path : Path) × (paths ≡ path ∷ []) → Ends {A = A} p s.entries.now (at_each (at_one (begun_in s) c) paths e) s.step result new
    by (path, is) =
        let are' = subst (λ (ps : List Path). AreRows factors rows (n ∷ []) ps) is are in
        let at = subst (λ (l : List ℕ). AreRanks factors l path) (sym row) (row_at factors rows (n ∷ []) (path ∷ []) 0 n are'.are are'.inside (omega arith)).0 in
        subst (λ (ps : List Path). Ends {A = A} p s.entries.now (at_each (at_one (begun_in s) c) ps e) s.step result new) (sym is) (one p factors path c at coded can e k)

pub assigned_alone : (s : StepContext) (scene : IsScene s) (old new : StepState) (rows : List (List ℕ)) (numbers ranks : List ℕ) (f : FlatExpression) (first depth slot bits : ℕ) (word : Word) → length numbers ≡ 1 → ranks ≡ slice_index_or rows (get_or numbers 0 0) [] → IsReadyState s old
    → word ≡ flat_word s (sight_in old ranks) f → flat_events s (sight_in old ranks) f ≡ [] → slot ≡ first + slice_index ranks depth → bits ≡ residue (2 ^ 64) (words.value_of word)
    → new.banks ≡ old.banks → new.writes ≡ old.writes → IsAssigned old new slot bits → DoesOne {A = Unit {0}} s old (Ok tt) new rows numbers (Assign f first depth)
assigned_alone s scene old new rows numbers ranks f first depth slot bits word one row ready worth none there whole banks written set =
    subst (λ (l : List ℕ). DoesOne {A = Unit {0}} s old (Ok tt) new rows l (Assign f first depth)) (sym (only_path numbers one))
    (assigns_all {A = Unit {0}} s old new (Ok tt) rows (get_or numbers 0 0 ∷ []) f first depth
    (done_alone {A = Unit {0}} s old new (Ok tt) rows (get_or numbers 0 0) (Assign f first depth) ranks row
    (assigns_one {A = Unit {0}} s old new (Ok tt) ranks f first depth
    (λ p factors path deep entity t at flat slots inside can e k.
    assigned_keeps s scene p factors ranks path t f e old old at flat can k ready deep entity first depth slot bits word new slots inside (nothing_changes old) worth
    (worth_spends {A = Word} s (sight_in old ranks) f old.banks.items word none) there whole banks written set))))

-- a state stays one of its step
ready_still : (s : StepContext) (old new : StepState) → IsReadyState s old → new.banks ≡ old.banks → new.given ≡ old.given → new.writes ≡ old.writes → IsReadyState s new
ready_still s old new r banks given written = record {
  long = ap (λ (l : List Bank). length l) (items_same _ _ banks) ∙ r.long;
  room = subst (λ (l : List ℕ). length s.code.now.operations ≤ length l) (sym (items_same _ _ given)) r.room;
  used = subst (λ (l : List Bank). AreUsedBy s.step l) (sym (items_same _ _ banks)) r.used;
  small = subst (λ (l : List Write). AllByRecursion (IsSmallWrite s.entries.now) l) (sym (items_same _ _ written)) r.small;
}

-- a list with one such assignment more
pub assigned_turn : (s : StepContext) (scene : IsScene s) (old now new : StepState) (rows : List (List ℕ)) (numbers ranks : List ℕ) (whole list : Option ℕ) (n : ℕ) (step : ListedCommand) (f : FlatExpression) (first depth slot bits : ℕ) (word : Word)
    → RunSoFar s old rows numbers whole now list → list ≡ Some n → slice_get s.code.now.steps n ≡ Some step → step.action ≡ Assign f first depth → length numbers ≡ 1 → ranks ≡ slice_index_or rows (get_or numbers 0 0) []
    → word ≡ flat_word s (sight_in now ranks) f → flat_events s (sight_in now ranks) f ≡ [] → slot ≡ first + slice_index ranks depth → bits ≡ residue (2 ^ 64) (words.value_of word)
    → new.banks ≡ now.banks → new.given ≡ now.given → new.writes ≡ now.writes → length new.variables.items ≡ length now.variables.items → IsAssigned now new slot bits → GoBackAlike now new → RunSoFar s old rows numbers whole new step.next
assigned_turn s scene old now new rows numbers ranks whole list n step f first depth slot bits word g is get action one row worth none there bits_are banks given written kept set back =
    run_turn s old rows numbers whole now list g n step is get (Unit {0}) tt new (ready_still s now new g.ready banks given written) (record { long = kept; back = back }) (next_low s scene n step get)
    (subst (λ (a : Action). DoesOne {A = Unit {0}} s now (Ok tt) new rows numbers a) (sym action)
    (assigned_alone s scene now new rows numbers ranks f first depth slot bits word one row g.ready worth none there bits_are banks written set))
