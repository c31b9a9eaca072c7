-- A variable that is assigned at one path after the other: behind all of them what it was given is there at its new
-- level, and what others were given is there as before.
use Rattle.std.proofs.Common.{◌≡◌, ◌⊎◌, inl, inr, ℕ, suc, ◌<◌, ◌≤◌, true, false, Some, None, Option, List, length, refl, sym, ap, ◌∙◌, subst, arith}
use Rattle.std.specs.Prelude.{slice_get, slice_set}
use Rattle.std.proofs.lemmas.Bool.{cases_eq}
use Rattle.dh_tree.specs.declared.trees.counters.Counter.{Counter}
use Rattle.dh_tree.specs.PlainTrees.{Term}
use Rattle.dh_meaning.specs.CoreOf.{core_term}
use Rattle.dh_meaning.specs.Levels.{Levels, with_value, with_variables}
use Rattle.dh_code.specs.Slots.{held_at}
use Rattle.dh_plan.specs.PlanPhases.{term_mentions}
use Rattle.dh_expressions.specs.declared.scenes.Around.{Around}
use Rattle.dh_expressions.specs.declared.scenes.Scene.{Scene}
use Rattle.dh_expressions.specs.Evaluated.{counter_of, known_in}
use Rattle.dh_expressions.proofs.ListPlaces.{set_here, set_other}
use Rattle.dh_formed.specs.Timed.{BlockClocks, CurrentAt, EntityAt, HasClock, VariableAt}
use Rattle.dh_formed.proofs.LevelsBehind.{value_here, value_other}
use Rattle.dh_commands.specs.LanesRun.{lane_of, paths_counted}
use Rattle.dh_commands.specs.ShownVariables.{register_in}
use Rattle.dh_paced.specs.Standing.{AreCurrent, IsGround, IsTarget, IsUnder, TakesAlone}
use Rattle.dh_paced.proofs.AssignmentsLogged.{cases_last, register_under}

module _ (c : BlockClocks) (scene : Scene) (top : Around) (spaces : ℕ) (shared : ℕ → Option ℕ) (Variable Read Own : ℕ → Type 0) (g : IsGround c scene top spaces shared Variable Read Own) where
  -- what a variable that is no iterator was given
  pub current_of : (current : List (Option ℕ)) (e i level : ℕ) → counter_of scene e ≡ None → VariableAt c (counter_of scene e) (held_at scene.held.now e) (lane_of top i) current level
      → CurrentAt c (slice_get current (register_in scene top e i)) level
  current_of current e i level none h = subst (λ (o : Option Counter). VariableAt c o (held_at scene.held.now e) (lane_of top i) current level) none h

  pub variable_of : (current : List (Option ℕ)) (e i level : ℕ) → counter_of scene e ≡ None → CurrentAt c (slice_get current (register_in scene top e i)) level
      → VariableAt c (counter_of scene e) (held_at scene.held.now e) (lane_of top i) current level
  variable_of current e i level none h = subst (λ (o : Option Counter). VariableAt c o (held_at scene.held.now e) (lane_of top i) current level) (sym none) h

  -- the same at paths inside the block
  pub entity_under : (around : Around) (current : List (Option ℕ)) (l : Levels) (e i : ℕ) → IsUnder top around → EntityAt c scene (lane_of top i) current l e → EntityAt c scene (lane_of around i) current l e
  entity_under around current l e i u h = by (counter_of scene e) h
    where
      by : (o : Option Counter) → VariableAt c o (held_at scene.held.now e) (lane_of top i) current (l.variables e) → VariableAt c o (held_at scene.held.now e) (lane_of around i) current (l.variables e)
      by None k = subst (λ (r : ℕ). CurrentAt c (slice_get current r) (l.variables e)) (sym (register_under scene top around e i u.levels)) k
      by (Some counter) k = k

  module _ (e : ℕ) (target : IsTarget c scene top spaces shared Variable Read Own e) (l : Levels) (hi : ℕ) where
    abbrev reg : (i : ℕ) → ℕ
    reg i = register_in scene top e i

    -- the first paths, so many
    pub record Assigning (k : ℕ) (current : List (Option ℕ)) : Type 0 where
      pub others : (f i : ℕ) → Variable f → (f ≡ e → ⊥) → i < paths_counted top → EntityAt c scene (lane_of top i) current l f
      pub done : (i : ℕ) → i < k → CurrentAt c (slice_get current (reg i)) hi
      pub rest : (i : ℕ) → k ≤ i → i < paths_counted top
          → CurrentAt c (slice_get current (reg i)) (l.variables e) ⊎ (CurrentAt c (slice_get current (reg i)) hi × ((j : ℕ) × ((j < k) × (reg j ≡ reg i))))

    pub assigning_none : (current : List (Option ℕ)) → AreCurrent c scene top spaces shared Variable Read Own current l → Assigning 0 current
    assigning_none current h = record {
      others = λ f i v other within. h f i v within;
      done = λ i less. absurd (never i less);
      rest = λ i from within. inl (current_of current e i (l.variables e) target.no_counter (h e i target.is within));
    }
      where
        never : (i : ℕ) → i < 0 → ⊥
        never i h = omega (arith, h)

    pub assigning_more : (k value : ℕ) (old new : List (Option ℕ)) → new ≡ slice_set old (reg k) (Some value) → k < paths_counted top → reg k < length old → HasClock c hi value → Assigning k old → Assigning (suc k) new
    assigning_more k value old new same within room at h = record {
      others = λ f i v other less. other_kept f i v other less (counter_of scene f) refl (h.others f i v other less);
      done = λ i less. by i (cases_last i k less);
      rest = λ i from less. behind i from less (cases_eq (reg i) (reg k));
    }
      where
        here : (i : ℕ) → reg i ≡ reg k → CurrentAt c (slice_get new (reg i)) hi
        here i is =
            subst (λ (os : List (Option ℕ)). CurrentAt c (slice_get os (reg i)) hi) (sym same)
            (subst (λ (r : ℕ). CurrentAt c (slice_get (slice_set old (reg k) (Some value)) r) hi) (sym is) (subst (λ (o : Option (Option ℕ)). CurrentAt c o hi) (sym (set_here old (reg k) (Some value) room)) at))

        kept : (r level : ℕ) → (r ≡ reg k → ⊥) → CurrentAt c (slice_get old r) level → CurrentAt c (slice_get new r) level
        kept r level other m =
            subst (λ (os : List (Option ℕ)). CurrentAt c (slice_get os r) level) (sym same) (subst (λ (o : Option (Option ℕ)). CurrentAt c o level) (sym (set_other old (reg k) r (Some value) other)) m)

        other_kept : (f i : ℕ) → Variable f → (f ≡ e → ⊥) → i < paths_counted top → (o : Option Counter) → counter_of scene f ≡ o → VariableAt c (counter_of scene f) (held_at scene.held.now f) (lane_of top i) old (l.variables f)
            → VariableAt c (counter_of scene f) (held_at scene.held.now f) (lane_of top i) new (l.variables f)
        other_kept f i v other less None none m =
            variable_of new f i (l.variables f) none
            (kept (register_in scene top f i) (l.variables f) (λ same. other (g.apart f e i k v target.is none target.no_counter less within same)) (current_of old f i (l.variables f) none m))
        other_kept f i v other less (Some counter) is m =
            subst (λ (o : Option Counter). VariableAt c o (held_at scene.held.now f) (lane_of top i) new (l.variables f)) (sym is)
            (subst (λ (o : Option Counter). VariableAt c o (held_at scene.held.now f) (lane_of top i) old (l.variables f)) is m)

        by : (i : ℕ) → (i < k) ⊎ (i ≡ k) → CurrentAt c (slice_get new (reg i)) hi
        by i (inr is) = here i (ap reg is)
        by i (inl less) = split (cases_eq (reg i) (reg k))
          where
            split : (reg i ≡ reg k) ⊎ (reg i ≡ reg k → ⊥) → CurrentAt c (slice_get new (reg i)) hi
            split (inl is) = here i is
            split (inr other) = kept (reg i) hi other (h.done i less)

        behind : (i : ℕ) → suc k ≤ i → i < paths_counted top → (reg i ≡ reg k) ⊎ (reg i ≡ reg k → ⊥)
            → CurrentAt c (slice_get new (reg i)) (l.variables e) ⊎ (CurrentAt c (slice_get new (reg i)) hi × ((j : ℕ) × ((j < suc k) × (reg j ≡ reg i))))
        behind i from less (inl is) = inr (here i is, (k, (omega arith, sym is)))
        behind i from less (inr other) = split (h.rest i (omega (arith, from)) less)
          where
            split : CurrentAt c (slice_get old (reg i)) (l.variables e) ⊎ (CurrentAt c (slice_get old (reg i)) hi × ((j : ℕ) × ((j < k) × (reg j ≡ reg i))))
                → CurrentAt c (slice_get new (reg i)) (l.variables e) ⊎ (CurrentAt c (slice_get new (reg i)) hi × ((j : ℕ) × ((j < suc k) × (reg j ≡ reg i))))
            split (inl m) = inl (kept (reg i) (l.variables e) other m)
            split (inr (m, (j, (front, is)))) = inr (kept (reg i) hi other m, (j, (omega (arith, front), is)))

    -- what an expression mentions is there at its level before
    pub mentioned_there : (around : Around) (k n : ℕ) (t : Term) (current : List (Option ℕ)) → IsUnder top around → k < paths_counted top → TakesAlone c scene top spaces shared Variable Read Own e n t → Assigning k current
        → (f : ℕ) → Variable f → term_mentions f (core_term (known_in scene) n t) ≡ true → EntityAt c scene (lane_of around k) current l f
    mentioned_there around k n t current u within alone h f v mentioned = entity_under around current l f k u (split (cases_eq f e))
      where
        apart : (i j : ℕ) → i < j → i ≡ j → ⊥
        apart i j less same = omega (arith, less, same)

        clash : (b : _) → b ≡ true → b ≡ false → ⊥
        clash true p q = absurd (cc)
        clash false p q = absurd (cc)

        own : TakesAlone c scene top spaces shared Variable Read Own e n t → term_mentions e (core_term (known_in scene) n t) ≡ true
            → CurrentAt c (slice_get current (reg k)) (l.variables e) ⊎ (CurrentAt c (slice_get current (reg k)) hi × ((j : ℕ) × ((j < k) × (reg j ≡ reg k)))) → CurrentAt c (slice_get current (reg k)) (l.variables e)
        own takes m (inl there) = there
        own (inl one) m (inr (there, (j, (less, same)))) = absurd (apart j k less (one j k (omega (arith, less, within)) within same))
        own (inr never) m (inr there) = absurd (clash (term_mentions e (core_term (known_in scene) n t)) m never)

        split : (f ≡ e) ⊎ (f ≡ e → ⊥) → EntityAt c scene (lane_of top k) current l f
        split (inr other) = h.others f k v other within
        split (inl same) =
            subst (λ (d : ℕ). EntityAt c scene (lane_of top k) current l d) (sym same)
            (variable_of current e k (l.variables e) target.no_counter (own alone (subst (λ (d : ℕ). term_mentions d (core_term (known_in scene) n t) ≡ true) same mentioned) (h.rest k (omega arith) within)))

    -- behind all paths
    pub assigned_all : (current : List (Option ℕ)) (made : Levels) → ((f : ℕ) → made.variables f ≡ l.variables f) → Assigning (paths_counted top) current
        → AreCurrent c scene top spaces shared Variable Read Own current (with_variables made (with_value made.variables e hi))
    assigned_all current made kept h f i v within = split (cases_eq f e)
      where
        split : (f ≡ e) ⊎ (f ≡ e → ⊥) → EntityAt c scene (lane_of top i) current (with_variables made (with_value made.variables e hi)) f
        split (inr other) =
            subst (λ (n : ℕ). VariableAt c (counter_of scene f) (held_at scene.held.now f) (lane_of top i) current n) (sym (value_other made.variables e hi f other ∙ kept f)) (h.others f i v other within)
        split (inl same) =
            subst (λ (d : ℕ). EntityAt c scene (lane_of top i) current (with_variables made (with_value made.variables e hi)) d) (sym same)
            (variable_of current e i (with_value made.variables e hi e) target.no_counter (subst (λ (n : ℕ). CurrentAt c (slice_get current (reg i)) n) (sym (value_here made.variables e hi)) (h.done i within)))
