-- A test at one path: its operations, and no variable.
use Rattle.std.proofs.Common.{◌≡◌, ℕ, ◌+◌, ◌<◌, ◌^◌, Bool, true, false, List, ◌++◌, length, refl, ap, sym, ◌∙◌, subst}
use Rattle.dh_tree.specs.PlainTrees as plain
use Rattle.dh_meaning.specs.AccessNumbers.{term_accesses}
use Rattle.dh_meaning.specs.CoreOf.{core_term}
use Rattle.dh_meaning.specs.Effects.{Effect, Event, Variables, term_events}
use Rattle.dh_expressions.specs.declared.scenes.Around.{Around}
use Rattle.dh_expressions.specs.declared.scenes.Lane.{Lane}
use Rattle.dh_expressions.specs.declared.scenes.Scene.{Scene}
use Rattle.dh_expressions.specs.declared.terms.Valued.{Valued}
use Rattle.dh_expressions.specs.Drafted.{BlockBegun, FitsStep, BlockStep, Tale, tale, tales_told}
use Rattle.dh_expressions.specs.Evaluated.{EvaluatesTerm, Knows, StepReads, begun_of, known_in}
use Rattle.dh_expressions.proofs.Evaluating.{told_append}
use Rattle.dh_commands.specs.declared.assignments.Values.{Values}
use Rattle.dh_commands.specs.declared.buildings.Building.{Building}
use Rattle.dh_commands.specs.LanesRun.{is_on_at, path_in, run_if}
use Rattle.dh_commands.specs.ShownVariables.{ShowsVariables, register_in}
use Rattle.dh_commands.specs.Followed.{IsFollowedBy, test_run, view_at_step}
use Rattle.dh_commands.specs.Done.{StandsBeside}
use Rattle.dh_commands.specs.Setting.{NoVariable, TestsOne}
use Rattle.dh_commands.specs.Undone.{AreReady, Changes}
use Rattle.dh_commands.proofs.ChangesBack.{changes_none}
use Rattle.dh_commands.proofs.PathsDone.{knows_all}

-- operations that give no variable a value, and tell these events
pub told_stands : (scene : Scene) (around : Around) (x : BlockStep) (reads : StepReads) (old new : Building) (e : Effect) (more : List Event) → new.values ≡ old.values
    → ((variables : Variables) → Knows (view_at_step x reads variables) new.accesses) → tale x new.draft ≡ tale x old.draft ++ tales_told more
    → StandsBeside scene around x reads old e → StandsBeside scene around x reads new (record { variables = e.variables; events = e.events ++ more })
told_stands scene around x reads old new e more same knows tells stands = record {
  knows = knows;
  shows = subst (λ (v : Values). ShowsVariables scene around x v.current.items e.variables) (sym same) stands.shows;
  tells = tells ∙ (ap (λ (ts : List Tale). ts ++ tales_told more) stands.tells ∙ sym (told_append e.events more));
  room = λ entity number there inside. subst (λ (v : Values). register_in scene around entity number < length v.current.items) (sym same) (stands.room entity number there inside);
  ready = subst (λ (v : Values). AreReady v) (sym same) stands.ready;
}

pub quiet_stands : (scene : Scene) (around : Around) (x : BlockStep) (reads : StepReads) (old new : Building) (e : Effect) → new.values ≡ old.values
    → ((variables : Variables) → Knows (view_at_step x reads variables) new.accesses) → tale x new.draft ≡ tale x old.draft
    → StandsBeside scene around x reads old e → StandsBeside scene around x reads new e
quiet_stands scene around x reads old new e same knows quiet stands = record {
  knows = knows;
  shows = subst (λ (v : Values). ShowsVariables scene around x v.current.items e.variables) (sym same) stands.shows;
  tells = quiet ∙ stands.tells;
  room = λ entity number there inside. subst (λ (v : Values). register_in scene around entity number < length v.current.items) (sym same) (stands.room entity number there inside);
  ready = subst (λ (v : Values). AreReady v) (sym same) stands.ready;
}

pub tested_one : (scene : Scene) (lane : Lane) (old new : Building) (first : ℕ) (t : plain.Term) (own : Valued)
    → EvaluatesTerm scene lane old.values.current.items old.draft new.draft old.accesses new.accesses first t own → new.values ≡ old.values
    → TestsOne scene lane old new first t own
tested_one scene lane old new first t own e same = record {
  does = record {
    next_is = e.next;
    so = λ few within. record {
      extends = (e.so few).extends;
      changes = λ ready. subst (λ (v : Values). Changes scene lane.around NoVariable old.values v) (sym same) (changes_none scene lane.around NoVariable old.values);
      so = λ x reads f fits begun p stands. by few x reads f fits begun p stands (is_on_at x lane.around lane.number) refl;
    };
  };
  is = λ few x reads f fits begun p stands on.
      (e.so few).is (view_at_step x reads f.variables) fits begun (stands.knows f.variables) (p.fair old.values.current.items stands.shows) (p.sees on old.values.current.items stands.shows);
}
  where
    by : first + term_accesses t < 2 ^ 32 → (x : BlockStep) (reads : StepReads) (f : Effect) → FitsStep x new.draft → BlockBegun x old.draft
        → IsFollowedBy scene lane.around first t lane.number x reads f.variables → StandsBeside scene lane.around x reads old f
        → (on : Bool) → is_on_at x lane.around lane.number ≡ on
        → StandsBeside scene lane.around x reads new (run_if on (test_run scene x first t) (path_in lane.around lane.number) f)
    by few x reads f fits begun p stands = cases
      where
        knows : (variables : Variables) → Knows (view_at_step x reads variables) new.accesses
        knows = knows_all x reads new.accesses f.variables ((e.so few).knows (view_at_step x reads f.variables) fits begun (stands.knows f.variables) (p.fair old.values.current.items stands.shows))

        cases : (on : Bool) → is_on_at x lane.around lane.number ≡ on → StandsBeside scene lane.around x reads new (run_if on (test_run scene x first t) (path_in lane.around lane.number) f)
        cases true on =
            told_stands scene lane.around x reads old new f (term_events (begun_of x) f.variables (path_in lane.around lane.number) (core_term (known_in scene) first t)) same knows
            ((e.so few).tells (view_at_step x reads f.variables) fits begun (stands.knows f.variables) (p.fair old.values.current.items stands.shows) (p.sees on old.values.current.items stands.shows) on)
            stands
        cases false off = quiet_stands scene lane.around x reads old new f same knows ((e.so few).quiet (view_at_step x reads f.variables) fits begun off) stands
