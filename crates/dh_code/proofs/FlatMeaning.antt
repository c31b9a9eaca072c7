-- What code means: an expression's value and events, an assignment, a test, a store.
use Rattle.std.proofs.Common.{◌≡◌, ℕ, ◌+◌, ◌-◌, ◌≤◌, List, [], ◌∷◌, ◌++◌, length, take, Err, Some, None, refl, ap, sym, ◌∙◌, subst, arith, append-nil}
use Rattle.std.specs.Prelude.{Option, Result, slice_index}
use Rattle.dh_code.proofs.Ranges.{length_range}
use Rattle.dh_tree.specs.declared.tables.MemEntry.{MemEntry}
use Rattle.dh_tree.specs.Elements.{Spot}
use Rattle.dh_meaning.specs.Paths.{Path}
use Rattle.dh_meaning.specs.Core.{Reach, CoreTerm, literal, truth_literal, variable, read, binary, convert, by_indices, by_row, by_views, CoreTerms, no_terms, term_and}
use Rattle.dh_meaning.specs.Core as core
use Rattle.dh_meaning.specs.Effects.{Begun, Effect, Event, Variables, reads, writes, faults, read_made, spot_reached, stop_after, target_events, term_events, terms_events, value_of_term}
use Rattle.dh_code.specs.declared.codes.FlatExpression.{FlatExpression}
use Rattle.dh_code.specs.declared.codes.CodeOperation.{CodeOperation}
use Rattle.dh_code.specs.declared.evaluating.StepContext.{StepContext}
use Rattle.dh_code.specs.declared.evaluating.StepStop.{StepStop}
use Rattle.dh_code.specs.declared.evaluating.StepStop.TheVariants as stop
use Rattle.dh_code.specs.declared.running.StepState.{StepState}
use Rattle.dh_code.specs.declared.spending.Bank.{Bank}
use Rattle.dh_code.specs.Coded.{AreSlotsOf, IsFlat}
use Rattle.dh_code.specs.Made.{MadeExpression, term_made}
use Rattle.dh_code.specs.Operated.{Sight, events_after, operand_word, sight_after}
use Rattle.dh_code.specs.Plain.{all_plain}
use Rattle.dh_code.specs.Ranks.{IsPath, rank_of}
use Rattle.dh_code.specs.Scenes.{IsScene, Spends, begun_in, flat_events, flat_sight, flat_word}
use Rattle.dh_code.specs.Slots.{Holds, Placing, held_at, slot_of}
use Rattle.dh_code.specs.Spent.{HaveSpent}
use Rattle.dh_code.specs.States.{AreRanks, Ends, Keeps, writes_in}
use Rattle.dh_code.specs.Suited.{CanEvaluate, IsInside}
use Rattle.dh_code.proofs.Ranked.{path_begins, rank_at}
use Rattle.dh_code.proofs.TermsGiven.{Gives, gives, plain_append}

pub written_append : (xs ys : List Event) → writes_in (xs ++ ys) ≡ writes_in xs ++ writes_in ys
written_append [] ys = refl
written_append (reads n p x s ∷ xs) ys = written_append xs ys
written_append (writes n p x s v ∷ xs) ys = ap (λ l. record { memory = s.memory; position = s.position; bits = v } ∷ l) (written_append xs ys)
written_append (faults n p x k ∷ xs) ys = written_append xs ys

pub written_both : (xs ys : List Event) → writes_in xs ≡ [] → writes_in ys ≡ [] → writes_in (xs ++ ys) ≡ []
written_both xs ys e f = written_append xs ys ∙ (ap (λ l. l ++ writes_in ys) e ∙ f)

read_writes_none : (r : Reach) (path : Path) (o : Option Spot) → writes_in (read_made r path o ∷ []) ≡ []
read_writes_none r path None = refl
read_writes_none r path (Some s) = refl

target_then : (b : Begun) (v : Variables) (path : Path) (r : Reach) (target : core.Target) → writes_in (target_events b v path target) ≡ [] → writes_in (target_events b v path target ++ read_made r path (spot_reached b v path r target) ∷ []) ≡ []
target_then b v path r target e = written_both (target_events b v path target) (read_made r path (spot_reached b v path r target) ∷ []) e (read_writes_none r path (spot_reached b v path r target))

-- no expression writes
mutual
  pub none_written : (b : Begun) (v : Variables) (path : Path) (t : CoreTerm) → writes_in (term_events b v path t) ≡ []
  none_written b v path (literal kind negative n) = refl
  none_written b v path (truth_literal value) = refl
  none_written b v path (variable kind depth entity) = refl
  none_written b v path (read r target) = target_then b v path r target (none_aimed b v path target)
  none_written b v path (binary o left right) = written_both (term_events b v path left) (term_events b v path right) (none_written b v path left) (none_written b v path right)
  none_written b v path (convert to inner) = none_written b v path inner

  pub none_aimed : (b : Begun) (v : Variables) (path : Path) (target : core.Target) → writes_in (target_events b v path target) ≡ []
  none_aimed b v path (by_indices indices) = none_in b v path indices
  none_aimed b v path (by_views steps n terms) = none_in b v path terms
  none_aimed b v path (by_row bank row) = none_written b v path row

  pub none_in : (b : Begun) (v : Variables) (path : Path) (ts : CoreTerms) → writes_in (terms_events b v path ts) ≡ []
  none_in b v path no_terms = refl
  none_in b v path (term_and t ts) = written_both (term_events b v path t) (terms_events b v path ts) (none_written b v path t) (none_in b v path ts)

-- the operations of an expression, as they stand in code
module _ (s : StepContext) (scene : IsScene s) (p : Placing) (v : Variables) (factors : List ℕ) (path : Path) (t : CoreTerm) (f : FlatExpression) (w : Sight)
    (h : Holds p w.slots v) (at : AreRanks factors w.ranks path) (is : IsFlat p.held s.entries.now s.code.now t f) (can : CanEvaluate s.entries.now p factors t) (room : length s.code.now.operations ≤ length w.given) where
  abbrev code : MadeExpression
  code = term_made p.held s.entries.now f.from t

  enough : f.from + length code.operations ≤ length w.given
  enough = by (length code.operations) (sym (ap (λ (l : List CodeOperation). length l) is.operations) ∙ length_range s.code.now.operations f.from f.to is.there)
    where
      by : (n : ℕ) → n ≡ f.to - f.from → f.from + n ≤ length w.given
      by n e = let a = is.within in let c = is.there in omega (arith, e, a, c, room)

  right : Gives p (begun_in s) v factors path at.inside scene.entries scene.small w f.from t
  right = gives p (begun_in s) v factors path at.inside scene.entries scene.small w f.from t (record { slots = h; ranks = at.are }) can.0 can.1 enough

  pub flat_value : flat_word s w f ≡ value_of_term (begun_in s) v path t
  flat_value =
      ap (λ o. operand_word (flat_sight s w f) o) is.value
      ∙ (ap (λ (l : List CodeOperation). operand_word (sight_after (begun_in s) w f.from l) code.value) is.operations ∙ right.value)

  pub flat_happens : flat_events s w f ≡ all_plain (term_events (begun_in s) v path t)
  flat_happens = ap (λ (l : List CodeOperation). events_after (begun_in s) w f.from l) is.operations ∙ right.events

-- what is kept of an effect with further accesses of an expression
pub kept_events : (p : Placing) (table : List MemEntry) (e : Effect) (now : ℕ) (old new : StepState) (v : Variables) (es : List Event) → Keeps p table e now old → Holds p new.variables.items v
    → writes_in es ≡ [] → new.writes.items ≡ old.writes.items → HaveSpent table (all_plain e.events ++ all_plain es) now new.banks.items
    → Keeps p table (record { variables = v; events = e.events ++ es }) now new
kept_events p table e now old new v es k h none same spent = record {
  variables = h;
  spent = subst (λ (l : List Event). HaveSpent table l now new.banks.items) (sym (plain_append e.events es)) spent;
  writes = same ∙ (k.writes ∙ (sym (append-nil (writes_in e.events)) ∙ (ap (λ l. writes_in e.events ++ l) (sym none) ∙ sym (written_append e.events es))));
}

-- events that stop
pub stopped_events : (A B : Type 0) (p : Placing) (table : List MemEntry) (e : Effect) (now : ℕ) (banks : List Bank) (new : StepState) (v : Variables) (es : List Event) (x : StepStop) (result : Result B StepStop) → result ≡ Err x
    → Spends {A = A} table (all_plain e.events ++ all_plain es) now (Err x) banks → Ends {A = B} p table (record { variables = v; events = e.events ++ es }) now result new
stopped_events A B p table e now banks new v es x result is h = subst (λ (r : Result B StepStop). Ends p table (record { variables = v; events = e.events ++ es }) now r new) (sym is) (by x h)
  where
    by : (x : StepStop) → Spends {A = A} table (all_plain e.events ++ all_plain es) now (Err x) banks → Ends {A = B} p table (record { variables = v; events = e.events ++ es }) now (Err x) new
    by (stop.At o) h = ap (λ l. stop_after table [] l) (plain_append e.events es) ∙ h
    by stop.NoMemory h = tt

-- the slot that an assignment sets
pub assigned_slot : (p : Placing) (factors ranks : List ℕ) (path : Path) (entity first depth deep slot : ℕ) → AreRanks factors ranks path → AreSlotsOf p.held entity first depth → IsInside p factors deep entity → slot ≡ first + slice_index ranks depth
    → slot ≡ slot_of p entity (take deep path)
assigned_slot p factors ranks path entity first depth deep slot at slots i is =
    is
    ∙ (ap (λ n. n + slice_index ranks depth) slots.first_is
    ∙ (ap (λ d. (held_at p.held entity).first + slice_index ranks d) (slots.depth_is ∙ i.held)
    ∙ (ap (λ l. (held_at p.held entity).first + slice_index l deep) at.are
    ∙ ap (λ n. (held_at p.held entity).first + n) (rank_at 0 factors path deep i.deep at.inside ∙ ap (λ l. rank_of l (take deep path)) (sym i.round)))))

pub path_of : (p : Placing) (factors ranks : List ℕ) (path : Path) (entity deep : ℕ) → AreRanks factors ranks path → IsInside p factors deep entity → IsPath (p.factors entity) (take deep path)
path_of p factors ranks path entity deep at i = subst (λ (l : List ℕ). IsPath l (take deep path)) (sym i.round) (path_begins factors path deep at.inside)
