-- An assignment at one path: the operations of its right side, its value as the variable holds it, and the register.
-- Where the guard holds the program does the same; where it does not neither tells anything.
use Rattle.std.proofs.Common.{◌≡◌, ℕ, ◌+◌, ◌<◌, ◌^◌, Bool, true, false, Some, List, ◌++◌, length, refl, ap, sym, ◌∙◌, subst, ℤ}
use Rattle.std.specs.Prelude.{Option, slice_index}
use Rattle.dh_value.specs.Words as words
use Rattle.dh_value.specs.Words.{word_of}
use Rattle.dh_tree.specs.PlainTrees as plain
use Rattle.dh_meaning.specs.AccessNumbers.{term_accesses}
use Rattle.dh_meaning.specs.CoreOf.{core_term}
use Rattle.dh_meaning.specs.Effects.{Effect, Event, Variables, set_variable, term_events}
use Rattle.dh_code.specs.Slots.{held_at}
use Rattle.dh_expressions.specs.declared.drafts.Draft.{Draft}
use Rattle.dh_expressions.specs.declared.scenes.Lane.{Lane}
use Rattle.dh_expressions.specs.declared.scenes.Scene.{Scene}
use Rattle.dh_expressions.specs.declared.terms.Valued.{Valued}
use Rattle.dh_expressions.specs.Drafted.{BlockBegun, FitsStep, Gives, BlockStep, Tale, word_shown, tale, tales_told}
use Rattle.dh_expressions.specs.Evaluated.{EvaluatesTerm, Knows, StepReads, begun_of, known_in}
use Rattle.dh_expressions.specs.Shown.{held_shown}
use Rattle.dh_expressions.proofs.Evaluating.{told_append}
use Rattle.dh_expressions.proofs.ListPlaces.{set_long}
use Rattle.dh_expressions.proofs.Pushing.{begun_later, extends_again, fits_before}
use Rattle.dh_commands.specs.declared.buildings.Building.{Building}
use Rattle.dh_commands.specs.LanesRun.{is_on_at, path_in, paths_counted, run_if}
use Rattle.dh_commands.specs.ShownVariables.{IsSeen, IsSetTarget, ShowsVariables, register_in, seen_path}
use Rattle.dh_commands.specs.Followed.{FollowsAssigned, value_at, view_at_step}
use Rattle.dh_commands.specs.Done.{StandsBeside}
use Rattle.dh_commands.specs.Setting.{AssignsOne, SetsAt, assigned_run}
use Rattle.dh_commands.specs.Undone.{AreReady}
use Rattle.dh_commands.proofs.ChangesBack.{changes_one}
use Rattle.dh_commands.proofs.PathsDone.{knows_all}
use Rattle.dh_commands.proofs.VariablesSet.{shows_off, shows_on}

-- a variable is set at a path of a building, and the draft before told what the program's events so far tell
module _ (scene : Scene) (lane : Lane) (entity value : ℕ) (old new : Building) (s : SetsAt scene lane old.values new.values entity value)
    (within : lane.number < paths_counted lane.around) (t : IsSetTarget scene lane.around entity)
    (x : BlockStep) (reads : StepReads) (e : Effect) (stands : StandsBeside scene lane.around x reads old e)
    (knows : (variables : Variables) → Knows (view_at_step x reads variables) new.accesses) where
  room_kept : (e' j : ℕ) → IsSeen scene lane.around.levels.now e' → j < paths_counted lane.around → register_in scene lane.around e' j < length new.values.current.items
  room_kept e' j there inside =
      subst (λ (n : ℕ). register_in scene lane.around e' j < n)
      (sym (ap (λ (os : List (Option ℕ)). length os) s.current ∙ set_long old.values.current.items (register_in scene lane.around entity lane.number) (Some value)))
      (stands.room e' j there inside)

  ready_kept : AreReady new.values
  ready_kept = record {
    unmarked = λ register. ap (λ (ms : List ℕ). slice_index ms register) s.marks ∙ stands.ready.unmarked register;
    long =
        ap (λ (ms : List ℕ). length ms) s.marks
        ∙ (stands.ready.long ∙ sym (ap (λ (os : List (Option ℕ)). length os) s.current ∙ set_long old.values.current.items (register_in scene lane.around entity lane.number) (Some value)));
  }

  pub set_on : (z : ℤ) (more : List Event) → word_shown x value ≡ word_of (held_at scene.held.now entity).kind z → tale x new.draft ≡ tale x old.draft ++ tales_told more
      → StandsBeside scene lane.around x reads new (record { variables = set_variable e.variables entity (seen_path scene lane.around entity lane.number) z; events = e.events ++ more })
  set_on z more is tells = record {
    knows = knows;
    shows = subst (λ (os : List (Option ℕ)). ShowsVariables scene lane.around x os (set_variable e.variables entity (seen_path scene lane.around entity lane.number) z)) (sym s.current)
        (shows_on scene lane.around x old.values.current.items e.variables entity lane.number value z t within (stands.room entity lane.number t.there within) stands.shows is);
    tells = tells ∙ (ap (λ (ts : List Tale). ts ++ tales_told more) stands.tells ∙ sym (told_append e.events more));
    room = room_kept;
    ready = ready_kept;
  }

  pub set_off : is_on_at x lane.around lane.number ≡ false → tale x new.draft ≡ tale x old.draft → StandsBeside scene lane.around x reads new e
  set_off off quiet = record {
    knows = knows;
    shows = subst (λ (os : List (Option ℕ)). ShowsVariables scene lane.around x os e.variables) (sym s.current)
        (shows_off scene lane.around x old.values.current.items e.variables entity lane.number value (words.value_of (word_shown x value)) t within (stands.room entity lane.number t.there within) stands.shows off);
    tells = quiet ∙ stands.tells;
    room = room_kept;
    ready = ready_kept;
  }

pub assigned_one : (scene : Scene) (lane : Lane) (old new : Building) (d : Draft) (first entity : ℕ) (t : plain.Term) (own : Valued) (held : ℕ)
    → EvaluatesTerm scene lane old.values.current.items old.draft d old.accesses new.accesses first t own
    → Gives d new.draft held (λ x. held_shown t (held_at scene.held.now entity).kind (word_shown x own.value))
    → SetsAt scene lane old.values new.values entity held
    → AssignsOne scene lane old new first own.next entity t
assigned_one scene lane old new d first entity t own held e g s = record {
  next_is = e.next;
  so = λ few within. record {
    extends = extends_again old.draft d new.draft (e.so few).extends g.extends;
    changes = λ ready. changes_one scene lane.around (λ i. i ≡ entity) old.values new.values entity lane.number held refl within s;
    so = λ x reads f fits begun p stands. by few within x reads f fits begun p stands (is_on_at x lane.around lane.number) refl;
  };
}
  where
    by : first + term_accesses t < 2 ^ 32 → lane.number < paths_counted lane.around → (x : BlockStep) (reads : StepReads) (f : Effect) → FitsStep x new.draft → BlockBegun x old.draft
        → FollowsAssigned scene lane.around entity first t lane.number x reads f.variables → StandsBeside scene lane.around x reads old f
        → (on : Bool) → is_on_at x lane.around lane.number ≡ on
        → StandsBeside scene lane.around x reads new (run_if on (assigned_run scene entity (core_term (known_in scene) first t) x) (path_in lane.around lane.number) f)
    by few within x reads f fits begun p stands = cases
      where
        fits_d : FitsStep x d
        fits_d = fits_before d new.draft x g.extends fits

        begun_d : BlockBegun x d
        begun_d = begun_later old.draft d x (e.so few).extends begun

        knows : (variables : Variables) → Knows (view_at_step x reads variables) new.accesses
        knows = knows_all x reads new.accesses f.variables ((e.so few).knows (view_at_step x reads f.variables) fits_d begun (stands.knows f.variables) (p.value.fair old.values.current.items stands.shows))

        cases : (on : Bool) → is_on_at x lane.around lane.number ≡ on
            → StandsBeside scene lane.around x reads new (run_if on (assigned_run scene entity (core_term (known_in scene) first t) x) (path_in lane.around lane.number) f)
        cases true on =
            set_on scene lane entity held old new s within p.target x reads f stands knows
            (words.value_of (value_at scene lane.around x f.variables lane.number first t))
            (term_events (begun_of x) f.variables (path_in lane.around lane.number) (core_term (known_in scene) first t))
            (g.is x fits begun_d
            ∙ (ap (λ w. held_shown t (held_at scene.held.now entity).kind w)
            ((e.so few).is (view_at_step x reads f.variables) fits_d begun (stands.knows f.variables) (p.value.fair old.values.current.items stands.shows) (p.value.sees on old.values.current.items stands.shows))
            ∙ p.held on))
            (g.quiet x fits begun_d
            ∙ (e.so few).tells (view_at_step x reads f.variables) fits_d begun (stands.knows f.variables) (p.value.fair old.values.current.items stands.shows) (p.value.sees on old.values.current.items stands.shows) on)
        cases false off =
            set_off scene lane entity held old new s within p.target x reads f stands knows off
            (g.quiet x fits begun_d ∙ (e.so few).quiet (view_at_step x reads f.variables) fits_d begun off)
