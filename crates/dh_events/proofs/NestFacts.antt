-- What one walk notes of commands with commands inside.
use Rattle.std.proofs.Common.{◌≡◌, ℕ, nat_lt, Bool, true, false, if◌then◌else◌, List, [], ◌∷◌, ◌++◌, map, refl, ap, sym, ◌∙◌}
use Rattle.std.specs.Prelude.{Option, Some}
use Rattle.dh_tree.specs.declared.trees.commands.Command.{Command}
use Rattle.dh_tree.specs.declared.trees.commands.LoopHeader.{LoopHeader}
use Rattle.dh_tree.specs.declared.trees.counters.Counter.{Counter}
use Rattle.dh_tree.specs.PlainTrees.{Action, ActionForm, MaybeAction, Actions, action_then}
use Rattle.dh_tree.specs.Seen.{action_seen, actions, counts_seen}
use Rattle.dh_meaning.specs.Phases.{turn_count}
use Rattle.dh_events.specs.declared.dependence.Scope.{Scope}
use Rattle.dh_events.specs.Rounds.{form_rounds, header_loop, inside_loop, noted_loop, other_rounds, own_loops, rounds_in, with_round}
use Rattle.dh_events.specs.Scopes.{form_scopes, other_scopes, scope, scopes_in, told_inside, with_scope}
use Rattle.dh_tree.specs.PhaseKinds.{phase_kind, form_phase_kind, other_phase_kind, turns_kind}
use Rattle.dh_events.proofs.ScopeFacts.{loop_noted}

-- one more command of a part, by what is noted of one and of those behind it
pub more_done : {X : Type 0} (one : Action → X → X) (part : Actions → X → X) → ((a : Action) (rest : Actions) (x : X) → part (action_then a rest) x ≡ part rest (one a x)) → (f g total : X) (rest all : List Command) (c : Command) → rest ≡ c ∷ all
    → g ≡ one (action_seen c) f → part (actions (map action_seen rest)) f ≡ total → part (actions (map action_seen all)) g ≡ total
more_done one part steps f g total rest all c is noted before =
    ap (λ x. part (actions (map action_seen all)) x) noted ∙ (sym (steps (action_seen c) (actions (map action_seen all)) f) ∙ (ap (λ l. part (actions (map action_seen l)) f) (sym is) ∙ before))

-- a block, and one that may lack behind it
pub both_done : {X : Type 0} (one : Action → X → X) (maybe : MaybeAction → X → X) (form : X → X) (a : Action) (o : MaybeAction) → ((x : X) → maybe o (one a x) ≡ form x) → (f f1 g : X) → f1 ≡ one a f → g ≡ maybe o f1 → g ≡ form f
both_done one maybe form a o is f f1 g first second = second ∙ (ap (λ x. maybe o x) first ∙ is f)

twice : {A : Type 0} (b : Bool) (x y z : A) → (if b then (if b then x else y) else z) ≡ (if b then x else z)
twice true x y z = refl
twice false x y z = refl

set_once : (b : Bool) (f : ℕ → List Counter) (id : ℕ) (x y : List Counter) → (if b then with_round f id (if b then x else y) else f) ≡ (if b then with_round f id x else f)
set_once true f id x y = refl
set_once false f id x y = refl

-- a loop
module _ (h : LoopHeader) (body : Action) (combine : MaybeAction) (form : ActionForm) (is : form ≡ counts_seen h body combine) where
  pub loop_stands : (turns turn joins own : ℕ) → turns ≡ turn_count h.low h.high h.factor → turn ≡ phase_kind body → joins ≡ other_phase_kind combine → own ≡ turns_kind turns turn joins → own ≡ form_phase_kind form
  loop_stands turns turn joins own turns_are turn_is joins_are own_is =
      own_is
      ∙ (ap (λ n. turns_kind n turn joins) turns_are
      ∙ (ap (λ n. turns_kind (turn_count h.low h.high h.factor) n joins) turn_is
      ∙ (ap (λ n. turns_kind (turn_count h.low h.high h.factor) (phase_kind body) n) joins_are ∙ ap (λ x. form_phase_kind x) (sym is))))

  pub loop_within : (outer own shown within : List Counter) → own ≡ own_loops outer (header_loop h) → shown ≡ own → within ≡ (if nat_lt 1 h.factor then shown else outer) → within ≡ inside_loop outer (header_loop h)
  loop_within outer own shown within own_is shows chosen =
      chosen ∙ (ap (λ (l : List Counter). if nat_lt 1 h.factor then l else outer) (shows ∙ own_is) ∙ twice (nat_lt 1 h.factor) (outer ++ header_loop h ∷ []) [] outer)

  pub loop_rounds : (outer own within : List Counter) (id : ℕ) → own ≡ own_loops outer (header_loop h) → within ≡ inside_loop outer (header_loop h) → (f f1 f2 g : ℕ → List Counter)
      → f1 ≡ rounds_in within body f → f2 ≡ other_rounds within combine f1 → g ≡ (if nat_lt 1 h.factor then with_round f2 id own else f2) → g ≡ form_rounds outer id form f
  loop_rounds outer own within id own_is within_is f f1 f2 g first second third =
      third
      ∙ (ap (λ (l : List Counter). if nat_lt 1 h.factor then with_round f2 id l else f2) own_is
      ∙ (set_once (nat_lt 1 h.factor) f2 id (outer ++ header_loop h ∷ []) []
      ∙ (ap (λ (k : ℕ → List Counter). noted_loop outer id (header_loop h) k) (second ∙ (ap (λ (k : ℕ → List Counter). other_rounds within combine k) first ∙ ap (λ (l : List Counter). other_rounds l combine (rounds_in l body f)) within_is))
      ∙ ap (λ x. form_rounds outer id x f) (sym is))))

  pub loop_scopes : (told deep : ℕ) (f g h1 w : ℕ → Option Scope) → deep ≡ told_inside told h.factor → g ≡ with_scope f h.iterator.entity (scope (told_inside told h.factor) (Some h.factor)) → h1 ≡ scopes_in deep body g → w ≡ other_scopes deep combine h1
      → w ≡ form_scopes told form f
  loop_scopes told deep f g h1 w deep_is declares first second =
      loop_noted told deep h.factor h.iterator.entity body combine f g h1 w deep_is declares first second ∙ ap (λ x. form_scopes told x f) (sym is)
