-- A variable is set at a path. Its register is that of its copy there alone, so that it shows the new value at the
-- paths that have this copy, and all other registers show what they did. Where the guard is false the program sets
-- nothing: then no path with a guard that holds has this copy.
use Rattle.std.proofs.Common.{◌≡◌, ◌⊎◌, inl, inr, ℕ, ◌<◌, ◌==◌, Bool, true, false, if◌then◌else◌, Some, None, List, length, refl, ap, sym, ◌∙◌, ℤ}
use Rattle.std.specs.Prelude.{Option, ◌&&◌, slice_get, slice_set}
use Rattle.std.proofs.lemmas.Bool.{cases_Bool, eqb-true, eq-eqb}
use Rattle.dh_value.specs.declared.kinds.Kind.{Kind}
use Rattle.dh_value.specs.Words.{word_of}
use Rattle.dh_tree.specs.declared.trees.counters.Counter.{Counter}
use Rattle.dh_meaning.specs.Effects.{Variables, set_variable}
use Rattle.dh_meaning.specs.Paths.{same_path}
use Rattle.dh_code.specs.declared.places.VariableSlots.{VariableSlots}
use Rattle.dh_code.specs.Slots.{held_at}
use Rattle.dh_plan.specs.Blocks.{is_on}
use Rattle.dh_plan.proofs.SourceMoves.{same_is, same_self}
use Rattle.dh_expressions.specs.declared.scenes.Around.{Around}
use Rattle.dh_expressions.specs.declared.scenes.Lane.{Lane}
use Rattle.dh_expressions.specs.declared.scenes.Scene.{Scene}
use Rattle.dh_expressions.specs.Drafted.{BlockStep, word_shown}
use Rattle.dh_expressions.specs.Evaluated.{counter_of, entity_shown, shown_by}
use Rattle.dh_expressions.specs.Shown.{current_shown, guard_of, register_at, variable_shown}
use Rattle.dh_expressions.proofs.ListPlaces.{set_here, set_other}
use Rattle.dh_commands.specs.LanesRun.{is_on_at, lane_of, paths_counted}
use Rattle.dh_commands.specs.ShownVariables.{IsSeen, IsSetTarget, ShowsVariables, ShowsVariableAt, register_in, seen_path}

-- what is shown of a variable follows from what its register shows
pub shown_alike : (x : BlockStep) (o : Option Counter) (held : VariableSlots) (lane : Lane) (current more : List (Option ℕ)) (kind : Kind) → variable_shown x more (register_at held lane) ≡ variable_shown x current (register_at held lane)
    → shown_by x o held lane more kind ≡ shown_by x o held lane current kind
shown_alike x None held lane current more kind same = same
shown_alike x (Some c) held lane current more kind same = refl

clash : (b : Bool) → b ≡ true → b ≡ false → ⊥
clash true u v = cc
clash false u v = cc

both_false : (a b : Bool) → (a ≡ true → b ≡ true → ⊥) → (a && b) ≡ false
both_false true true h = absurd (h refl refl)
both_false true false h = refl
both_false false b h = refl

module _ (scene : Scene) (around : Around) (x : BlockStep) (current : List (Option ℕ)) (variables : Variables) (entity number value : ℕ) (z : ℤ)
    (t : IsSetTarget scene around entity) (within : number < paths_counted around) (room : register_in scene around entity number < length current)
    (shows : ShowsVariables scene around x current variables) where
  abbrev register : ℕ
  register = register_in scene around entity number

  abbrev after : List (Option ℕ)
  after = slice_set current register (Some value)

  abbrev set : Variables
  set = set_variable variables entity (seen_path scene around entity number) z

  -- a register that is another shows what it did
  other_shown : (e j : ℕ) → (register_in scene around e j ≡ register → ⊥)
      → entity_shown scene (lane_of around j) after x e (held_at scene.held.now e).kind ≡ entity_shown scene (lane_of around j) current x e (held_at scene.held.now e).kind
  other_shown e j differ =
      shown_alike x (counter_of scene e) (held_at scene.held.now e) (lane_of around j) current after (held_at scene.held.now e).kind
      (ap (λ o. current_shown x o (register_in scene around e j)) (set_other current register (register_in scene around e j) (Some value) differ))

  -- and its variable holds what it did
  other_held : (e j : ℕ) → IsSeen scene around.levels.now e → j < paths_counted around → (register_in scene around e j ≡ register → ⊥)
      → set e (seen_path scene around e j) ≡ variables e (seen_path scene around e j)
  other_held e j there inside differ =
      ap (λ (b : Bool). if b then z else variables e (seen_path scene around e j))
      (both_false (e == entity) (same_path (seen_path scene around e j) (seen_path scene around entity number)) never)
    where
      never : (e == entity) ≡ true → same_path (seen_path scene around e j) (seen_path scene around entity number) ≡ true → ⊥
      never a b =
          let is : e ≡ entity = eqb-true e entity a in
          let path : seen_path scene around e j ≡ seen_path scene around entity number = same_is (seen_path scene around e j) (seen_path scene around entity number) b in
          let own : seen_path scene around e j ≡ seen_path scene around e number = path ∙ ap (λ i. seen_path scene around i number) (sym is) in
          differ (t.placed.one e j number there inside within own ∙ ap (λ i. register_in scene around i number) is)

  -- the register that is set shows the value
  own_shown : (e j : ℕ) → e ≡ entity → register_in scene around e j ≡ register
      → entity_shown scene (lane_of around j) after x e (held_at scene.held.now e).kind ≡ word_shown x value
  own_shown e j is same =
      ap (λ o. shown_by x o (held_at scene.held.now e) (lane_of around j) after (held_at scene.held.now e).kind) (ap (λ i. counter_of scene i) is ∙ t.no_counter)
      ∙ ap (λ o. current_shown x o (register_in scene around e j)) (ap (λ r. slice_get after r) same ∙ set_here current register (Some value) room)

  own_held : (e j : ℕ) → e ≡ entity → seen_path scene around e j ≡ seen_path scene around entity number → set e (seen_path scene around e j) ≡ z
  own_held e j is path =
      ap (λ (b : Bool). if b then z else variables e (seen_path scene around e j))
      (ap (λ (b : Bool). b && same_path (seen_path scene around e j) (seen_path scene around entity number)) (eq-eqb e entity is)
      ∙ (ap (λ p. same_path p (seen_path scene around entity number)) path ∙ same_self (seen_path scene around entity number)))

  pub shows_on : word_shown x value ≡ word_of (held_at scene.held.now entity).kind z → ShowsVariables scene around x after set
  shows_on is = record { each = λ e j there inside on. by e j there inside on (cases_Bool (register_in scene around e j == register)) }
    where
      by : (e j : ℕ) → IsSeen scene around.levels.now e → j < paths_counted around → is_on_at x around j ≡ true
          → ((register_in scene around e j == register) ≡ true) ⊎ ((register_in scene around e j == register) ≡ false) → ShowsVariableAt scene around x after set e j
      by e j there inside on (inl a) =
          let same : register_in scene around e j ≡ register = eqb-true (register_in scene around e j) register a in
          let one = t.placed.apart e entity j number there t.there inside within same in
          own_shown e j one.0 same
          ∙ (is
          ∙ (ap (λ i. word_of (held_at scene.held.now i).kind z) (sym one.0)
          ∙ ap (λ w. word_of (held_at scene.held.now e).kind w) (sym (own_held e j one.0 one.1))))
      by e j there inside on (inr b) =
          let differ : register_in scene around e j ≡ register → ⊥ = λ s. clash (register_in scene around e j == register) (eq-eqb (register_in scene around e j) register s) b in
          other_shown e j differ
          ∙ (shows.each e j there inside on
          ∙ ap (λ w. word_of (held_at scene.held.now e).kind w) (sym (other_held e j there inside differ)))

  pub shows_off : is_on_at x around number ≡ false → ShowsVariables scene around x after variables
  shows_off off = record { each = λ e j there inside on. other_shown e j (differ e j there inside on) ∙ shows.each e j there inside on }
    where
      differ : (e j : ℕ) → IsSeen scene around.levels.now e → j < paths_counted around → is_on_at x around j ≡ true → register_in scene around e j ≡ register → ⊥
      differ e j there inside on same =
          let one = t.placed.apart e entity j number there t.there inside within same in
          let guards : guard_of around.guards.now j ≡ guard_of around.guards.now number = t.alike j number inside within (ap (λ i. register_in scene around i j) (sym one.0) ∙ same) in
          clash (is_on_at x around j) on (ap (λ g. is_on x.first x.words g) guards ∙ off)
