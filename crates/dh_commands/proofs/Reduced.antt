-- A reducer at one path: its value, what its variable shows, and both put together as the variable holds it.
use Rattle.std.proofs.Common.{◌≡◌, ℕ, ◌+◌, ◌<◌, ◌^◌, Bool, true, false, List, ◌++◌, refl, ap, sym, ◌∙◌}
use Rattle.dh_value.specs.declared.operators.Op.{Op}
use Rattle.dh_value.specs.Words as words
use Rattle.dh_tree.specs.declared.trees.expressions.Ref.{Ref}
use Rattle.dh_tree.specs.PlainTrees as plain
use Rattle.dh_meaning.specs.AccessNumbers.{term_accesses}
use Rattle.dh_meaning.specs.Bindings.{kind_found}
use Rattle.dh_meaning.specs.CoreOf.{core_term, entity_number, kind_of}
use Rattle.dh_meaning.specs.Core.{variable}
use Rattle.dh_meaning.specs.Effects.{Effect, Event, Variables, term_events, value_of_term}
use Rattle.dh_code.specs.Slots.{held_at}
use Rattle.dh_expressions.specs.declared.drafts.Draft.{Draft}
use Rattle.dh_expressions.specs.declared.scenes.Lane.{Lane}
use Rattle.dh_expressions.specs.declared.scenes.Scene.{Scene}
use Rattle.dh_expressions.specs.declared.terms.Valued.{Valued}
use Rattle.dh_expressions.specs.Drafted.{BlockBegun, FitsStep, BlockStep, word_shown, tale, tales_told}
use Rattle.dh_expressions.specs.Evaluated.{EvaluatesTerm, Knows, StepReads, begun_of, known_in, shown_by}
use Rattle.dh_expressions.specs.Shown.{register_at, variable_shown}
use Rattle.dh_expressions.proofs.Evaluating.{operation_events}
use Rattle.dh_expressions.proofs.Pushing.{begun_later, extends_again, fits_before}
use Rattle.dh_commands.specs.declared.buildings.Building.{Building}
use Rattle.dh_commands.specs.LanesRun.{is_on_at, path_in, paths_counted, run_if}
use Rattle.dh_commands.specs.ShownVariables.{depth_in}
use Rattle.dh_commands.specs.Followed.{FollowsReduced, old_word, reduced_shown, reduced_term, view_at_step}
use Rattle.dh_commands.specs.Done.{StandsBeside}
use Rattle.dh_commands.specs.Setting.{GivesReduced, ReducesOne, SetsAt, assigned_run}
use Rattle.dh_commands.proofs.Assigned.{set_off, set_on}
use Rattle.dh_commands.proofs.ChangesBack.{changes_one}
use Rattle.dh_commands.proofs.PathsDone.{knows_all}

pub reduced_one : (scene : Scene) (lane : Lane) (old new : Building) (d : Draft) (first : ℕ) (r : Ref) (op : Op) (t : plain.Term) (own : Valued) (made : ℕ)
    → EvaluatesTerm scene lane old.values.current.items old.draft d old.accesses new.accesses first t own
    → GivesReduced scene lane old.values.current.items d new.draft own.value made (entity_number r.entity) op t
    → SetsAt scene lane old.values new.values (entity_number r.entity) made
    → ReducesOne scene lane old new first own.next r op t
reduced_one scene lane old new d first r op t own made e g s = record {
  next_is = e.next;
  so = λ few within. record {
    extends = extends_again old.draft d new.draft (e.so few).extends g.extends;
    changes = λ ready. changes_one scene lane.around (λ i. i ≡ entity_number r.entity) old.values new.values (entity_number r.entity) lane.number made refl within s;
    so = λ x reads f fits begun p stands. by few within x reads f fits begun p stands (is_on_at x lane.around lane.number) refl;
  };
}
  where
    by : first + term_accesses t < 2 ^ 32 → lane.number < paths_counted lane.around → (x : BlockStep) (reads : StepReads) (f : Effect) → FitsStep x new.draft → BlockBegun x old.draft
        → FollowsReduced scene lane.around r op first t lane.number x reads f.variables → StandsBeside scene lane.around x reads old f
        → (on : Bool) → is_on_at x lane.around lane.number ≡ on
        → StandsBeside scene lane.around x reads new (run_if on (assigned_run scene (entity_number r.entity) (reduced_term scene r op first t) x) (path_in lane.around lane.number) f)
    by few within x reads f fits begun p stands = cases
      where
        fits_d : FitsStep x d
        fits_d = fits_before d new.draft x g.extends fits

        begun_d : BlockBegun x d
        begun_d = begun_later old.draft d x (e.so few).extends begun

        knows : (variables : Variables) → Knows (view_at_step x reads variables) new.accesses
        knows = knows_all x reads new.accesses f.variables ((e.so few).knows (view_at_step x reads f.variables) fits_d begun (stands.knows f.variables) (p.value.fair old.values.current.items stands.shows))

        -- what its variable shows
        old_is : is_on_at x lane.around lane.number ≡ true → variable_shown x old.values.current.items (register_at (held_at scene.held.now (entity_number r.entity)) lane) ≡ old_word scene lane.around (entity_number r.entity) lane.number f.variables
        old_is on =
            sym (ap (λ o. shown_by x o (held_at scene.held.now (entity_number r.entity)) lane old.values.current.items (held_at scene.held.now (entity_number r.entity)).kind) p.target.no_counter)
            ∙ stands.shows.each (entity_number r.entity) lane.number p.target.there within on

        events_are : term_events (begun_of x) f.variables (path_in lane.around lane.number) (core_term (known_in scene) first t)
            ≡ term_events (begun_of x) f.variables (path_in lane.around lane.number) (reduced_term scene r op first t)
        events_are = operation_events (begun_of x) f.variables (path_in lane.around lane.number) (kind_of (known_in scene) r) (kind_found t)
            (variable (kind_of (known_in scene) r) (depth_in scene (entity_number r.entity)) (entity_number r.entity)) (core_term (known_in scene) first t) op

        cases : (on : Bool) → is_on_at x lane.around lane.number ≡ on
            → StandsBeside scene lane.around x reads new (run_if on (assigned_run scene (entity_number r.entity) (reduced_term scene r op first t) x) (path_in lane.around lane.number) f)
        cases true on =
            set_on scene lane (entity_number r.entity) made old new s within p.target x reads f stands knows
            (words.value_of (value_of_term (begun_of x) f.variables (path_in lane.around lane.number) (reduced_term scene r op first t)))
            (term_events (begun_of x) f.variables (path_in lane.around lane.number) (reduced_term scene r op first t))
            (g.is x fits begun_d
            ∙ (ap (λ w. reduced_shown scene (entity_number r.entity) op t w (word_shown x own.value)) (old_is on)
            ∙ (ap (λ w. reduced_shown scene (entity_number r.entity) op t (old_word scene lane.around (entity_number r.entity) lane.number f.variables) w)
            ((e.so few).is (view_at_step x reads f.variables) fits_d begun (stands.knows f.variables) (p.value.fair old.values.current.items stands.shows) (p.value.sees on old.values.current.items stands.shows))
            ∙ p.held on)))
            (g.quiet x fits begun_d
            ∙ ((e.so few).tells (view_at_step x reads f.variables) fits_d begun (stands.knows f.variables) (p.value.fair old.values.current.items stands.shows) (p.value.sees on old.values.current.items stands.shows) on
            ∙ ap (λ (es : List Event). tale x old.draft ++ tales_told es) events_are))
        cases false off =
            set_off scene lane (entity_number r.entity) made old new s within p.target x reads f stands knows off
            (g.quiet x fits begun_d ∙ (e.so few).quiet (view_at_step x reads f.variables) fits_d begun off)
