-- Variables that a command does not set show at its paths what they showed as it began.
use Rattle.std.proofs.Common.{◌≡◌, ℕ, suc, ◌+◌, ◌<◌, ◌≤◌, List, [], ◌∷◌, length, Some, ap, sym, ◌∙◌, subst, arith}
use Rattle.std.specs.Prelude.{Option, slice_get}
use Rattle.dh_expressions.specs.declared.scenes.Around.{Around}
use Rattle.dh_expressions.specs.declared.scenes.Scene.{Scene}
use Rattle.dh_expressions.proofs.ListPlaces.{set_other}
use Rattle.dh_commands.specs.declared.assignments.Values.{Values}
use Rattle.dh_commands.specs.LanesRun.{lane_of, paths_counted}
use Rattle.dh_commands.specs.Setting.{SetsAt, SetsFrom}
use Rattle.dh_commands.specs.ShownVariables.{ArePlaced, IsSeen, register_in}
use Rattle.dh_reached.specs.IndicesKept.{AreSeenFrom}

module _ (scene : Scene) (around : Around) (Sets : (entity : ℕ) → Type 0) where
  abbrev pub Stays : (start now : List (Option ℕ)) → Type 0
  Stays start now = (entity path : ℕ) → IsSeen scene around.levels.now entity → (Sets entity → ⊥) → path < paths_counted around → slice_get now (register_in scene around entity path) ≡ slice_get start (register_in scene around entity path)

  pub stays_same : (start now : List (Option ℕ)) → now ≡ start → Stays start now
  stays_same start now e entity path seen free within = ap (λ (os : List (Option ℕ)). slice_get os (register_in scene around entity path)) e

  pub stays_again : (a b c : List (Option ℕ)) → Stays a b → Stays b c → Stays a c
  stays_again a b c h k entity path seen free within = k entity path seen free within ∙ h entity path seen free within

  module _ (placed : ArePlaced scene around) (n : ℕ) (within : n < paths_counted around) where
    pub stays_set : (entity value : ℕ) (old new : Values) → IsSeen scene around.levels.now entity → Sets entity → SetsAt scene (lane_of around n) old new entity value → Stays old.current.items new.current.items
    stays_set entity value old new seen sets s other path there free inside =
        ap (λ (os : List (Option ℕ)). slice_get os (register_in scene around other path)) s.current
        ∙ set_other old.current.items (register_in scene around entity n) (register_in scene around other path) (Some value)
        (λ same. free (subst (λ (e : ℕ). Sets e) (sym (placed.apart other entity path n there seen inside within same).0) sets))

    pub stays_from : (first : ℕ) (vs : List ℕ) (old new : Values) → AreSeenFrom scene around.levels.now first (length vs) → ((e : ℕ) → first ≤ e → e < first + length vs → Sets e) → SetsFrom scene (lane_of around n) old new first vs → Stays old.current.items new.current.items
    stays_from first [] old new seen sets s = stays_same old.current.items new.current.items (ap (λ (v : Values). v.current.items) s)
    stays_from first (v ∷ vs) old new seen sets (middle, (set, rest)) =
        stays_again old.current.items middle.current.items new.current.items
        (stays_set first v old middle seen.0 (sets first (itself first) (some first (length vs))) set)
        (stays_from (suc first) vs middle new seen.1 (λ e low high. sets e (lower first e low) (upper first (length vs) e high)) rest)
      where
        itself : (a : ℕ) → a ≤ a
        itself a = omega arith

        some : (a b : ℕ) → a < a + suc b
        some a b = omega arith

        lower : (a e : ℕ) → suc a ≤ e → a ≤ e
        lower a e l = omega (arith, l)

        upper : (a b e : ℕ) → e < suc a + b → e < a + suc b
        upper a b e l = omega (arith, l)
