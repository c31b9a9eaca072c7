-- The variables that a command assigns to are those that its straight commands in the core do; and what is asked of a
-- command says of each of them that it is a target.
use Rattle.std.proofs.Common.{◌≡◌, ◌⊎◌, inl, inr, ℕ, ◌+◌, true, false, ◌<◌, ◌≤◌, Some, None, Option, List, [], ◌∷◌, length, refl, sym, ◌∙◌, subst, arith}
use Rattle.std.specs.Prelude.{Bool as Truth, ◌==◌, ◌||◌, ◌&&◌, nat_le, nat_lt}
use Rattle.std.proofs.lemmas.Bool.{cases_lt, eq-eqb, eqb-true}
use Rattle.std.proofs.lemmas.Bool.Decides.{nat_tests}
use Rattle.dh_tree.specs.PlainTrees as plain
use Rattle.dh_tree.specs.PlainTrees.{Term, Action, action, ActionForm, lets, lets_memory, views, assigns, stores, reduces, calls, blocks, decides, repeats, counts, MaybeAction, no_action, one_action, Actions, no_actions, action_then, Groups, no_groups, group_then}
use Rattle.dh_tree.specs.ViewOffsets.{offsets_of}
use Rattle.dh_tree.specs.Seen.{terms}
use Rattle.dh_meaning.specs.AccessNumbers.{accesses_of, part_accesses, term_accesses}
use Rattle.dh_meaning.specs.Core.{no_commands, count_terms}
use Rattle.dh_meaning.specs.CoreOf.{Known, core_action, core_groups, core_other, core_part, entity_number, core_terms, kept_by, way_of}
use Rattle.dh_meaning.specs.Levels.{Levels, any_assigns}
use Rattle.dh_meaning.specs.Ways.{Hidden, hidden_in}
use Rattle.dh_formed.specs.Timed.{BlockClocks, leveled}
use Rattle.dh_expressions.specs.declared.scenes.Around.{Around}
use Rattle.dh_expressions.specs.declared.scenes.Scene.{Scene}
use Rattle.dh_expressions.specs.Evaluated.{known_in}
use Rattle.dh_paced.specs.Assigned.{IsAssignedIn, IsAssignedInGroups, IsAssignedInOther, IsAssignedInPart, IsOffsetVariable}
use Rattle.dh_paced.specs.Paced.{action_levels, between_arms, part_levels}
use Rattle.dh_paced.specs.Standing.{IsTarget, OwnsGroups, OwnsIn, OwnsOther, OwnsPart, OwnsView}
use Rattle.dh_paced.proofs.CoreAppended.{action_then_assigns, part_then_assigns}
use Rattle.dh_commands.specs.Setting.{IsVariableAmong}
use Rattle.dh_commands.proofs.CoreRuns.{offsets_long}

one_true : (e other : ℕ) → e ≡ other → ((e == other) || false) ≡ true
one_true e other same = by (e == other) (eq-eqb e other same)
  where
    by : (b : Truth) → b ≡ true → (b || false) ≡ true
    by true h = refl
    by false h = h

true_one : (e other : ℕ) → ((e == other) || false) ≡ true → e ≡ other
true_one e other h = by (e == other) (eqb-true e other) h
  where
    by : (b : Truth) → (b ≡ true → e ≡ other) → (b || false) ≡ true → e ≡ other
    by true f h = f refl
    by false f h = absurd (cc)

pub or_true : (a b : Truth) → (a ≡ true) ⊎ (b ≡ true) → (a || b) ≡ true
or_true true b h = refl
or_true false b (inl h) = absurd (cc)
or_true false b (inr h) = h

pub true_or : (a b : Truth) → (a || b) ≡ true → (a ≡ true) ⊎ (b ≡ true)
true_or true b h = inl refl
true_or false b h = inr h

or_false : (a : Truth) → (a || false) ≡ a
or_false true = refl
or_false false = refl

untrue : false ≡ true → ⊥
untrue h = cc

among_true : (first count k e : ℕ) → k ≡ count → IsVariableAmong first count e → (nat_le first e && nat_lt e (first + k)) ≡ true
among_true first count k e same h = decided e first (first + k) h.0 (let b = h.1 in omega (arith, b, same))
  where
    decided : (k n e : ℕ) → n ≤ k → k < e → (nat_le n k && nat_lt k e) ≡ true
    decided k n e f b = grind (arith, nat_tests, f, b)

true_among : (first count k e : ℕ) → k ≡ count → (nat_le first e && nat_lt e (first + k)) ≡ true → IsVariableAmong first count e
true_among first count k e same h = by (cases_lt e first) (cases_lt e (first + k))
  where
    low : e < first → (nat_le first e && nat_lt e (first + k)) ≡ false
    low l = grind (arith, nat_tests, l)

    far : first + k ≤ e → (nat_le first e && nat_lt e (first + k)) ≡ false
    far l = grind (arith, nat_tests, l)

    by : (e < first) ⊎ (first ≤ e) → (e < first + k) ⊎ (first + k ≤ e) → IsVariableAmong first count e
    by (inl l) other = absurd (untrue (sym (low l) ∙ h))
    by (inr f) (inl l) = (f, omega (arith, l, same))
    by (inr f) (inr l) = absurd (untrue (sym (far l) ∙ h))

module _ (scene : Scene) where
  abbrev known : Known
  known = known_in scene

  -- a store assigns to no variable
  store_assigns : (n e : ℕ) (target : Term) (value : _) → any_assigns e (core_action known n (action 0 (record { line = 0; column = 0 }) (stores target value)) no_commands) ≡ true → ⊥
  store_assigns n e (plain.term place k (plain.accessed r ts)) value h = untrue h
  store_assigns n e (plain.term place k (plain.in_bank r bank at row)) value h = untrue h
  store_assigns n e (plain.term place k (plain.number negative z)) value h = untrue h
  store_assigns n e (plain.term place k (plain.truth_value b)) value h = untrue h
  store_assigns n e (plain.term place k (plain.named r)) value h = untrue h
  store_assigns n e (plain.term place k (plain.applied op left right)) value h = untrue h
  store_assigns n e (plain.term place k (plain.converted inner to)) value h = untrue h

  -- a view gives values to what keeps its offsets
  kept_true : (hs : List Hidden) (n e : ℕ) (offsets : List Term) → IsOffsetVariable hs (length offsets) e → any_assigns e (kept_by hs (core_terms known n (terms offsets)) no_commands) ≡ true
  kept_true [] n e offsets h = absurd h
  kept_true (x ∷ xs) n e [] h = absurd (let f = h.0 in let b = h.1 in never x.entity f b)
    where
      never : (k : ℕ) → k ≤ e → e < k + 0 → ⊥
      never k f b = omega (arith, f, b)
  kept_true (x ∷ xs) n e (t ∷ ts) h = or_false _ ∙ among_true x.entity (length (t ∷ ts)) (count_terms (core_terms known n (terms (t ∷ ts)))) e (offsets_long known n (t ∷ ts)) h

  true_kept : (hs : List Hidden) (n e : ℕ) (offsets : List Term) → any_assigns e (kept_by hs (core_terms known n (terms offsets)) no_commands) ≡ true → IsOffsetVariable hs (length offsets) e
  true_kept [] n e [] h = untrue h
  true_kept [] n e (t ∷ ts) h = untrue h
  true_kept (x ∷ xs) n e [] h = absurd (untrue h)
  true_kept (x ∷ xs) n e (t ∷ ts) h = true_among x.entity (length (t ∷ ts)) (count_terms (core_terms known n (terms (t ∷ ts)))) e (offsets_long known n (t ∷ ts)) (sym (or_false _) ∙ h)

  mutual
    pub assigned_true : (n e : ℕ) (a : Action) → IsAssignedIn known a e → any_assigns e (core_action known n a no_commands) ≡ true
    assigned_true n e (action id place (lets name declared value)) h = one_true e (entity_number name.entity) h
    assigned_true n e (action id place (assigns target value)) h = one_true e (entity_number target.entity) h
    assigned_true n e (action id place (stores target value)) h = absurd h
    assigned_true n e (action id place (reduces target op value)) h = one_true e (entity_number target.entity) h
    assigned_true n e (action id place (decides test chosen other)) (inl h) =
        or_false _ ∙ or_true (any_assigns e (core_action known (n + term_accesses test) chosen no_commands)) (any_assigns e (core_other known (n + term_accesses test + accesses_of chosen) other)) (inl (assigned_true (n + term_accesses test) e chosen h))
    assigned_true n e (action id place (decides test chosen other)) (inr h) =
        or_false _ ∙ or_true (any_assigns e (core_action known (n + term_accesses test) chosen no_commands)) (any_assigns e (core_other known (n + term_accesses test + accesses_of chosen) other)) (inr (other_true (n + term_accesses test + accesses_of chosen) e other h))
    assigned_true n e (action id place (blocks body)) h = groups_true n e body h
    assigned_true n e (action id place (lets_memory name shape shape_places value)) h = absurd h
    assigned_true n e (action id place (views name parent form)) h = kept_true (hidden_in (way_of known name)) n e (offsets_of form) h
    assigned_true n e (action id place (calls function arguments)) h = absurd h
    assigned_true n e (action id place (repeats test body)) h = absurd h
    assigned_true n e (action id place (counts iterator declared low high factor body combine combine_place)) h = absurd h

    pub other_true : (n e : ℕ) (other : MaybeAction) → IsAssignedInOther known other e → any_assigns e (core_other known n other) ≡ true
    other_true n e no_action h = absurd h
    other_true n e (one_action a) h = assigned_true n e a h

    part_true : (n e : ℕ) (part : Actions) → IsAssignedInPart known part e → any_assigns e (core_part known n part no_commands) ≡ true
    part_true n e no_actions h = absurd h
    part_true n e (action_then a rest) (inl h) = action_then_assigns known n a (core_part known (n + accesses_of a) rest no_commands) e ∙ or_true _ _ (inl (assigned_true n e a h))
    part_true n e (action_then a rest) (inr h) = action_then_assigns known n a (core_part known (n + accesses_of a) rest no_commands) e ∙ or_true _ _ (inr (part_true (n + accesses_of a) e rest h))

    groups_true : (n e : ℕ) (body : Groups) → IsAssignedInGroups known body e → any_assigns e (core_groups known n body no_commands) ≡ true
    groups_true n e no_groups h = absurd h
    groups_true n e (group_then part rest) (inl h) = part_then_assigns known n part (core_groups known (n + part_accesses part) rest no_commands) e ∙ or_true _ _ (inl (part_true n e part h))
    groups_true n e (group_then part rest) (inr h) = part_then_assigns known n part (core_groups known (n + part_accesses part) rest no_commands) e ∙ or_true _ _ (inr (groups_true (n + part_accesses part) e rest h))

  mutual
    pub true_assigned : (n e : ℕ) (a : Action) → any_assigns e (core_action known n a no_commands) ≡ true → IsAssignedIn known a e
    true_assigned n e (action id place (lets name declared value)) h = true_one e (entity_number name.entity) h
    true_assigned n e (action id place (assigns target value)) h = true_one e (entity_number target.entity) h
    true_assigned n e (action id place (stores target value)) h = store_assigns n e target value h
    true_assigned n e (action id place (reduces target op value)) h = true_one e (entity_number target.entity) h
    true_assigned n e (action id place (decides test chosen other)) h =
        by (true_or (any_assigns e (core_action known (n + term_accesses test) chosen no_commands)) (any_assigns e (core_other known (n + term_accesses test + accesses_of chosen) other)) (sym (or_false _) ∙ h))
        (true_assigned (n + term_accesses test) e chosen) (true_other (n + term_accesses test + accesses_of chosen) e other)
      where
        by : {A B C D : Type 0} → A ⊎ B → (A → C) → (B → D) → C ⊎ D
        by (inl a) f g = inl (f a)
        by (inr b) f g = inr (g b)
    true_assigned n e (action id place (blocks body)) h = true_groups n e body h
    true_assigned n e (action id place (lets_memory name shape shape_places value)) h = untrue h
    true_assigned n e (action id place (views name parent form)) h = true_kept (hidden_in (way_of known name)) n e (offsets_of form) h
    true_assigned n e (action id place (calls function arguments)) h = untrue h
    true_assigned n e (action id place (repeats test body)) h = untrue h
    true_assigned n e (action id place (counts iterator declared low high factor body combine combine_place)) h = untrue h

    pub true_other : (n e : ℕ) (other : MaybeAction) → any_assigns e (core_other known n other) ≡ true → IsAssignedInOther known other e
    true_other n e no_action h = untrue h
    true_other n e (one_action a) h = true_assigned n e a h

    true_part : (n e : ℕ) (part : Actions) → any_assigns e (core_part known n part no_commands) ≡ true → IsAssignedInPart known part e
    true_part n e no_actions h = untrue h
    true_part n e (action_then a rest) h =
        by (true_or _ _ (sym (action_then_assigns known n a (core_part known (n + accesses_of a) rest no_commands) e) ∙ h)) (true_assigned n e a) (true_part (n + accesses_of a) e rest)
      where
        by : {A B C D : Type 0} → A ⊎ B → (A → C) → (B → D) → C ⊎ D
        by (inl a) f g = inl (f a)
        by (inr b) f g = inr (g b)

    true_groups : (n e : ℕ) (body : Groups) → any_assigns e (core_groups known n body no_commands) ≡ true → IsAssignedInGroups known body e
    true_groups n e no_groups h = untrue h
    true_groups n e (group_then part rest) h =
        by (true_or _ _ (sym (part_then_assigns known n part (core_groups known (n + part_accesses part) rest no_commands) e) ∙ h)) (true_part n e part) (true_groups (n + part_accesses part) e rest)
      where
        by : {A B C D : Type 0} → A ⊎ B → (A → C) → (B → D) → C ⊎ D
        by (inl a) f g = inl (f a)
        by (inr b) f g = inr (g b)

-- Targets.

module _ (c : BlockClocks) (scene : Scene) (top : Around) (spaces : ℕ) (shared : ℕ → Option ℕ) (Variable Read Own : ℕ → Type 0) where
  view_target : (hs : List Hidden) (outer n e : ℕ) (form : plain.ViewPlan) → OwnsView c scene top spaces shared Variable Read Own outer n hs form → IsOffsetVariable hs (length (offsets_of form)) e → IsTarget c scene top spaces shared Variable Read Own e
  view_target [] outer n e form o h = absurd h
  view_target (x ∷ xs) outer n e form o h = (o.1 e h).0

  mutual
    pub is_target : (outer n e : ℕ) (a : Action) (l : Levels) → OwnsIn c scene top spaces shared Variable Read Own outer n a l → IsAssignedIn (known_in scene) a e → IsTarget c scene top spaces shared Variable Read Own e
    is_target outer n e (action id place (lets name declared (Some value))) l o h = subst (λ (f : ℕ). IsTarget c scene top spaces shared Variable Read Own f) (sym h) o.1.0
    is_target outer n e (action id place (lets name declared None)) l o h = subst (λ (f : ℕ). IsTarget c scene top spaces shared Variable Read Own f) (sym h) o
    is_target outer n e (action id place (assigns target value)) l o h = subst (λ (f : ℕ). IsTarget c scene top spaces shared Variable Read Own f) (sym h) o.1.0
    is_target outer n e (action id place (stores target value)) l o h = absurd h
    is_target outer n e (action id place (reduces target op value)) l o h = subst (λ (f : ℕ). IsTarget c scene top spaces shared Variable Read Own f) (sym h) o.1.0
    is_target outer n e (action id place (decides test chosen other)) l o (inl h) = is_target _ (n + term_accesses test) e chosen (leveled scene shared outer n test l).levels o.1.0 h
    is_target outer n e (action id place (decides test chosen other)) l o (inr h) = other_target _ (n + term_accesses test + accesses_of chosen) e other (between_arms (known_in scene) shared outer n test chosen l) o.1.1 h
    is_target outer n e (action id place (blocks body)) l o h = groups_target outer n e body l o h
    is_target outer n e (action id place (lets_memory name shape shape_places value)) l o h = absurd h
    is_target outer n e (action id place (views name parent form)) l o h = view_target (hidden_in (way_of (known_in scene) name)) outer n e form o h
    is_target outer n e (action id place (calls function arguments)) l o h = absurd h
    is_target outer n e (action id place (repeats test body)) l o h = absurd h
    is_target outer n e (action id place (counts iterator declared low high factor body combine combine_place)) l o h = absurd h

    pub other_target : (outer n e : ℕ) (other : MaybeAction) (l : Levels) → OwnsOther c scene top spaces shared Variable Read Own outer n other l → IsAssignedInOther (known_in scene) other e → IsTarget c scene top spaces shared Variable Read Own e
    other_target outer n e no_action l o h = absurd h
    other_target outer n e (one_action a) l o h = is_target outer n e a l o h

    part_target : (outer n e : ℕ) (part : Actions) (l : Levels) → OwnsPart c scene top spaces shared Variable Read Own outer n part l → IsAssignedInPart (known_in scene) part e → IsTarget c scene top spaces shared Variable Read Own e
    part_target outer n e no_actions l o h = absurd h
    part_target outer n e (action_then a rest) l o (inl h) = is_target outer n e a l o.0 h
    part_target outer n e (action_then a rest) l o (inr h) = part_target outer (n + accesses_of a) e rest (action_levels (known_in scene) shared outer n a l) o.1 h

    groups_target : (outer n e : ℕ) (body : Groups) (l : Levels) → OwnsGroups c scene top spaces shared Variable Read Own outer n body l → IsAssignedInGroups (known_in scene) body e → IsTarget c scene top spaces shared Variable Read Own e
    groups_target outer n e no_groups l o h = absurd h
    groups_target outer n e (group_then part rest) l o (inl h) = part_target outer n e part l o.0 h
    groups_target outer n e (group_then part rest) l o (inr h) = groups_target outer (n + part_accesses part) e rest (part_levels (known_in scene) shared outer n part l) o.1 h
