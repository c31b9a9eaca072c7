-- A variable is set to 0 or false at one path.
use Rattle.std.proofs.Common.{◌≡◌, ℕ, ◌<◌, Bool, true, false, [], refl, sym, ◌∙◌, subst}
use Rattle.std.proofs.Math.Nat.{mod-lt}
use Rattle.std.proofs.lemmas.Nat.{pow_pos}
use Rattle.std.proofs.lemmas.List.{append-nil}
use Rattle.dh_value.specs.declared.kinds.Kind.{Kind}
use Rattle.dh_value.specs.declared.words.Word.{Word}
use Rattle.dh_value.specs.Words as words
use Rattle.dh_value.specs.Words.{IsKind, IsWord, width_of, with_bits, word_of}
use Rattle.dh_value.proofs.WordLaws.{word_again}
use Rattle.dh_meaning.specs.Effects.{Effect, Variables, bits_of, value_of_term}
use Rattle.dh_code.specs.Slots.{held_at}
use Rattle.dh_expressions.specs.declared.accesses.Accesses.{Accesses}
use Rattle.dh_expressions.specs.declared.scenes.Lane.{Lane}
use Rattle.dh_expressions.specs.declared.scenes.Scene.{Scene}
use Rattle.dh_expressions.specs.Drafted.{BlockBegun, Computes, FitsStep, BlockStep, tale}
use Rattle.dh_expressions.specs.Evaluated.{Knows, StepReads, begun_of}
use Rattle.dh_commands.specs.declared.buildings.Building.{Building}
use Rattle.dh_commands.specs.LanesRun.{is_on_at, path_in, paths_counted, run_if}
use Rattle.dh_commands.specs.Followed.{FollowsCleared, view_at_step}
use Rattle.dh_commands.specs.Done.{StandsBeside}
use Rattle.dh_commands.specs.Setting.{ClearsOne, SetsAt, assigned_run, zero_of}
use Rattle.dh_commands.proofs.Assigned.{set_off, set_on}
use Rattle.dh_commands.proofs.ChangesBack.{changes_one}

zero_word : (kind : Kind) → IsKind kind → IsWord (with_bits kind (bits_of kind false 0))
zero_word kind sized = record { sized = sized; fits = mod-lt 0 (pow_pos (width_of kind)) }

pub cleared_one : (scene : Scene) (lane : Lane) (old new : Building) (entity value : ℕ) (w : Word)
    → (IsKind (held_at scene.held.now entity).kind → w ≡ with_bits (held_at scene.held.now entity).kind (bits_of (held_at scene.held.now entity).kind false 0))
    → Computes old.draft new.draft value (λ x. w) → new.accesses ≡ old.accesses → SetsAt scene lane old.values new.values entity value
    → ClearsOne scene lane old new entity
cleared_one scene lane old new entity value w is c same s = record {
  next_is = λ few. refl;
  so = λ few within. record {
    extends = c.extends;
    changes = λ ready. changes_one scene lane.around (λ i. i ≡ entity) old.values new.values entity lane.number value refl within s;
    so = λ x reads f fits begun p stands. by within x reads f fits begun p stands (is_on_at x lane.around lane.number) refl;
  };
}
  where
    by : lane.number < paths_counted lane.around → (x : BlockStep) (reads : StepReads) (f : Effect) → FitsStep x new.draft → BlockBegun x old.draft → FollowsCleared scene lane.around entity
        → StandsBeside scene lane.around x reads old f → (on : Bool) → is_on_at x lane.around lane.number ≡ on
        → StandsBeside scene lane.around x reads new (run_if on (assigned_run scene entity (zero_of scene entity) x) (path_in lane.around lane.number) f)
    by within x reads f fits begun p stands = cases
      where
        knows : (variables : Variables) → Knows (view_at_step x reads variables) new.accesses
        knows variables = subst (λ (a : Accesses). Knows (view_at_step x reads variables) a) (sym same) (stands.knows variables)

        cases : (on : Bool) → is_on_at x lane.around lane.number ≡ on → StandsBeside scene lane.around x reads new (run_if on (assigned_run scene entity (zero_of scene entity) x) (path_in lane.around lane.number) f)
        cases true on =
            set_on scene lane entity value old new s within p.target x reads f stands knows
            (words.value_of (value_of_term (begun_of x) f.variables (path_in lane.around lane.number) (zero_of scene entity))) []
            (c.is x fits begun ∙ (is p.sized ∙ sym (word_again (with_bits (held_at scene.held.now entity).kind (bits_of (held_at scene.held.now entity).kind false 0)) (zero_word (held_at scene.held.now entity).kind p.sized))))
            (c.quiet x fits begun ∙ sym (append-nil (tale x old.draft)))
        cases false off = set_off scene lane entity value old new s within p.target x reads f stands knows off (c.quiet x fits begun)
