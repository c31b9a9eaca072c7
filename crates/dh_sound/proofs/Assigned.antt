-- Commands leave a variable as it was at every path, if they do not assign to it. By induction over commands: a
-- store and a test change no variable, an assignment another one; an `if` is its test, then its arms, each at
-- some of the paths.
use Rattle.std.proofs.Common.{◌≡◌, ℕ, ◌==◌, ◌&&◌, ◌||◌, Bool, true, false, if◌then◌else◌, List, [], ◌∷◌, refl, ◌∙◌, ap, ◌+◌, nat_le, nat_lt}
use Rattle.std.specs.Prelude.{take, ℤ}
use Rattle.dh_value.specs.Words as words
use Rattle.dh_meaning.specs.Paths.{Path, same_path}
use Rattle.dh_meaning.specs.Core.{Reach, CoreTerm, Target, CoreCommand, store, assign, choose, CoreCommands, no_commands, command_and}
use Rattle.dh_meaning.specs.Effects.{Begun, Variables, set_variable, Effect, at_each, stored_at, assigned_at, tested_at, paths_where, holds_at, value_of_term, command_run, commands_run}
use Rattle.dh_meaning.specs.Levels.{assigns_to, any_assigns}
use Rattle.dh_meaning.specs.Core.{CoreTerms, count_terms, keep}
use Rattle.dh_meaning.specs.Effects.{kept_at}
use Rattle.dh_ways.proofs.KeptVariables.{others_kept}

neither : (a b : Bool) → (a || b) ≡ false → (a ≡ false) × (b ≡ false)
neither true b e = cc
neither false b e = (refl, e)

-- a variable is as it was after another one is set
pub another_set : (variables : Variables) (entity other : ℕ) (path p : Path) (value : ℤ) → (entity == other) ≡ false
    → set_variable variables other path value entity p ≡ variables entity p
another_set variables entity other path p value h = ap (λ t. if t && same_path p path then value else variables entity p) h

module _ (b : Begun) (entity : ℕ) where
  stored_leaves : (r : Reach) (target : Target) (value : CoreTerm) (paths : List Path) (e : Effect) (p : Path)
      → (at_each (stored_at b r target value) paths e).variables entity p ≡ e.variables entity p
  stored_leaves r target value [] e p = refl
  stored_leaves r target value (path ∷ paths) e p = stored_leaves r target value paths (stored_at b r target value path e) p

  pub tested_leaves : (test : CoreTerm) (paths : List Path) (e : Effect) (p : Path)
      → (at_each (tested_at b test) paths e).variables entity p ≡ e.variables entity p
  tested_leaves test [] e p = refl
  tested_leaves test (path ∷ paths) e p = tested_leaves test paths (tested_at b test path e) p

  assigned_leaves : (depth other : ℕ) (value : CoreTerm) → (entity == other) ≡ false → (paths : List Path) (e : Effect) (p : Path)
      → (at_each (assigned_at b depth other value) paths e).variables entity p ≡ e.variables entity p
  assigned_leaves depth other value h [] e p = refl
  assigned_leaves depth other value h (path ∷ paths) e p =
      assigned_leaves depth other value h paths (assigned_at b depth other value path e) p
      ∙ another_set e.variables entity other (take depth path) p (words.value_of (value_of_term b e.variables path value)) h

  kept_leaves : (depth first : ℕ) (values : CoreTerms) → (nat_le first entity && nat_lt entity (first + count_terms values)) ≡ false → (paths : List Path) (e : Effect) (p : Path)
      → (at_each (kept_at b depth first values) paths e).variables entity p ≡ e.variables entity p
  kept_leaves depth first values h [] e p = refl
  kept_leaves depth first values h (path ∷ paths) e p =
      kept_leaves depth first values h paths (kept_at b depth first values path e) p ∙ others_kept b depth first values entity p h path e

  mutual
    command_leaves : (c : CoreCommand) → assigns_to entity c ≡ false → (paths : List Path) (e : Effect) (p : Path)
        → (command_run b paths c e).variables entity p ≡ e.variables entity p
    command_leaves (store r target value) h paths e p = stored_leaves r target value paths e p
    command_leaves (keep depth first values) h paths e p = kept_leaves depth first values h paths e p
    command_leaves (assign depth other value) h paths e p = assigned_leaves depth other value h paths e p
    command_leaves (choose test chosen other) h paths e p =
        let hs = neither (any_assigns entity chosen) (any_assigns entity other) h in
        commands_leave other hs.1 (paths_where false (holds_at b e.variables test) paths) _ p
        ∙ (commands_leave chosen hs.0 (paths_where true (holds_at b e.variables test) paths) _ p
        ∙ tested_leaves test paths e p)

    -- commands leave a variable as it was that they do not assign
    pub commands_leave : (cs : CoreCommands) → any_assigns entity cs ≡ false → (paths : List Path) (e : Effect) (p : Path)
        → (commands_run b paths cs e).variables entity p ≡ e.variables entity p
    commands_leave no_commands h paths e p = refl
    commands_leave (command_and c cs) h paths e p =
        let hs = neither (assigns_to entity c) (any_assigns entity cs) h in
        commands_leave cs hs.1 paths (command_run b paths c e) p ∙ command_leaves c hs.0 paths e p
