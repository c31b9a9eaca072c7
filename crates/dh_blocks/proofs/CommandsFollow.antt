-- Commands along their run: by the reads that are chosen they take all as the program has it.
use Rattle.std.proofs.Common.{◌≡◌, ◌⊎◌, inl, inr, ℕ, zero, suc, ◌+◌, ◌<◌, ◌≤◌, ◌^◌, ◌==◌, ◌&&◌, ◌||◌, Bool, true, false, List, [], ◌∷◌, length, take, Option, Some, None, refl, sym, ◌∙◌, ap, subst, arith}
use Rattle.std.specs.Prelude.{◌-◌, min, nat_le, nat_lt, slice_get}
use Rattle.std.proofs.lemmas.Bool.{cases_Bool, cases_lt, eq-eqb, eqb-true}
use Rattle.std.proofs.lemmas.Bool.Decides.{nat_tests}
use Rattle.std.proofs.lemmas.List.{length-append, take_all}
use Rattle.dh_base.specs.declared.places.Place.{Place}
use Rattle.dh_value.specs.declared.kinds.Kind.{Kind}
use Rattle.dh_value.specs.declared.operators.Op.{Op}
use Rattle.dh_value.specs.declared.words.Word.{Word}
use Rattle.dh_value.specs.Words as words
use Rattle.dh_value.specs.Words.{word_of}
use Rattle.dh_tree.specs.declared.trees.expressions.Ref.{Ref}
use Rattle.dh_tree.specs.declared.tables.MemEntry.{MemEntry}
use Rattle.dh_tree.specs.Indices.{form_of}
use Rattle.dh_tree.specs.Seen.{terms}
use Rattle.dh_tree.specs.ViewOffsets.{offsets_of}
use Rattle.dh_tree.specs.PlainTrees as plain
use Rattle.dh_tree.specs.PlainTrees.{Term, term, Terms, Action, action, lets, lets_memory, views, assigns, stores, reduces, calls, blocks, decides, repeats, counts, MaybeAction, no_action, one_action, Actions, no_actions, action_then, Groups, no_groups, group_then}
use Rattle.dh_meaning.specs.AccessNumbers.{accesses_of, groups_accesses, other_accesses, part_accesses, term_accesses, terms_accesses}
use Rattle.dh_meaning.specs.Bindings.{kind_found}
use Rattle.dh_meaning.specs.Core.{CoreTerm, CoreCommands, no_commands, command_and, keep, variable}
use Rattle.dh_meaning.specs.CoreOf.{core_action, core_groups, core_other, core_part, core_term, core_terms, entity_number, kept_by, kind_of, memory_of, operation_of, store_to, way_of}
use Rattle.dh_meaning.specs.Effects.{Effect, Variables, commands_run, entry_kind, value_of_term}
use Rattle.dh_meaning.specs.Levels.{any_assigns, assigns_to}
use Rattle.dh_meaning.specs.Paths.{Path, copies_in}
use Rattle.dh_meaning.specs.Ways.{Hidden, hidden_in}
use Rattle.dh_code.specs.Slots.{held_at}
use Rattle.dh_plan.proofs.SourceMoves.{commands_spare, set_other}
use Rattle.dh_code.proofs.PathsInOrder.{length_path}
use Rattle.dh_sound.specs.SameKeys.{IsNearTo}
use Rattle.dh_expressions.specs.declared.accesses.Accesses.{Accesses}
use Rattle.dh_expressions.specs.declared.paths.Level.{Level}
use Rattle.dh_expressions.specs.declared.scenes.Around.{Around}
use Rattle.dh_expressions.specs.declared.scenes.Scene.{Scene}
use Rattle.dh_expressions.specs.Drafted.{BlockStep}
use Rattle.dh_expressions.specs.Evaluated.{IsSited, StepReads, begun_of, known_in}
use Rattle.dh_expressions.specs.Levels.{path_at, rank_number}
use Rattle.dh_expressions.specs.Shown.{guard_of, held_shown}
use Rattle.dh_ways.proofs.KeptVariables.{others_kept}
use Rattle.dh_commands.proofs.CoreRuns.{offsets_long}
use Rattle.dh_commands.specs.LanesRun.{IsArm, is_on_at, lane_of, lanes_run, path_in, paths_counted, paths_on, run_if}
use Rattle.dh_commands.specs.Keeping.{HeldFrom, term_words}
use Rattle.dh_commands.specs.ShownVariables.{AreBoundAt, ArePlaced, AreTargets, HasOwnCopies, IsSeen, IsSetTarget, depth_in, level_factors, register_in, seen_path}
use Rattle.dh_commands.specs.Followed.{Along, AreOwn, Arms, arms_of, arms_then, no_arms, Follows, FollowsAssigned, FollowsGroups, FollowsIndices, FollowsOther, FollowsPart, FollowsReduced, FollowsStored, FollowsTarget, FollowsView, KeepsDeep, KeepsDeepGroups, KeepsDeepOther, KeepsDeepPart, KeptDeep, FitGroups, FitOther, FitPart, FitArms, IsFollowed, IsFollowedBy, KeptWord, Sets, SetsOther, assign_run, effect_of, kept_run, memory_aimed, part_effect, reduced_term, store_run, term_in, test_out, test_run, tested, value_at, view_at_step}
use Rattle.dh_blocks.specs.FoundAccesses.{Found, form_of_found, found, groups_found, idle_found, other_found, part_found, target_found, term_found, terms_found, variables_along, view_found, write_found}
use Rattle.dh_blocks.specs.ChosenReads.{chosen_reads}
use Rattle.dh_blocks.specs.BlockGround.{AreFoundAt, AreReadAt, AreShared, FoundAreWithin, IsFoundAt, IsGround, SharesIn, SharesInForm, SharesInGroups, SharesInOther, SharesInPart, SharesInView, TargetShares}
use Rattle.dh_blocks.specs.NamedVariables.{IsNamedVariable}
use Rattle.dh_blocks.specs.SlotsOfScene.{IsStartOf}
use Rattle.dh_blocks.specs.SoundTerms.{AreSound, IsSound, IsSoundTarget}
use Rattle.dh_blocks.specs.SoundCommands.{CanAssign, CanHold, CanKeep, CanKeepFrom, IsOwnOf, SoundAction, SoundForm, SoundGroups, SoundOther, SoundPart, kind_aimed}
use Rattle.dh_blocks.specs.PathsOfLevels.{AreSpread}
use Rattle.dh_blocks.proofs.PathNumbers.{number_is, numbered}
use Rattle.dh_blocks.proofs.TermsFollow.{fair_all, followed, found_first, found_here, found_then, sees_all, site_there, term_long, terms_long, way_seen}
use Rattle.dh_blocks.proofs.HeldWords.{held_is, reduced_is}
use Rattle.dh_blocks.proofs.CommandsJoined.{action_assigns, part_assigns}

or_left : (a b : Bool) → a ≡ true → (a || b) ≡ true
or_left true b h = refl
or_left false b h = cc

or_right : (a b : Bool) → b ≡ true → (a || b) ≡ true
or_right true b h = refl
or_right false b h = h

either_of : (a b : Bool) → (a || b) ≡ true → (a ≡ true) ⊎ (b ≡ true)
either_of true b h = inl refl
either_of false b h = inr h

-- How many accesses are found: as many as a command makes, where its arms have its shape.

module _ (scene : Scene) (x : BlockStep) (table : List MemEntry) (Name : Ref → Kind → Type 0) where
  target_long : (around : Around) (V : ℕ → Variables) (n : ℕ) (target : Term) → IsSoundTarget (known_in scene) table Name target → length (target_found scene around x V n target) ≡ term_accesses target
  target_long around V n (term place k (plain.accessed r ts)) h =
      length-append (terms_found scene around x V n ts) _ ∙ one (length (terms_found scene around x V n ts)) (terms_accesses ts) (terms_long scene around x V n ts)
    where
      one : (a b : ℕ) → a ≡ b → a + 1 ≡ suc b
      one a b e = omega (arith, e)
  target_long around V n (term place k (plain.in_bank r bank at row)) h =
      length-append (term_found scene around x V n row) _ ∙ one (length (term_found scene around x V n row)) (term_accesses row) (term_long scene around x V n row)
    where
      one : (a b : ℕ) → a ≡ b → a + 1 ≡ suc b
      one a b e = omega (arith, e)
  target_long around V n (term place k (plain.number negative z)) h = absurd h
  target_long around V n (term place k (plain.truth_value b)) h = absurd h
  target_long around V n (term place k (plain.named r)) h = absurd h
  target_long around V n (term place k (plain.applied o l r)) h = absurd h
  target_long around V n (term place k (plain.converted inner to)) h = absurd h

  and_none : (n : ℕ) → n ≡ n + 0
  and_none n = omega arith

  none_and : (n : ℕ) → n ≡ 0 + n
  none_and n = omega arith

  idle_long : (n : ℕ) → length (idle_found n) ≡ n
  idle_long zero = refl
  idle_long (suc n) = ap suc (idle_long n)

  both : (a b c d : ℕ) → a ≡ c → b ≡ d → a + b ≡ c + d
  both a b c d e f = omega (arith, e, f)

  -- of a view
  pub view_long : (around : Around) (n : ℕ) (hs : List Hidden) (offsets : List Term) (e : Effect) → length (view_found scene x around n hs offsets e) ≡ terms_accesses (terms offsets) + 0
  view_long around n [] offsets e = idle_long (terms_accesses (terms offsets) + 0)
  view_long around n (h ∷ hs) offsets e = terms_long scene around x (variables_along scene x around (kept_run scene x h n offsets) e) n (terms offsets) ∙ and_none (terms_accesses (terms offsets))

  mutual
    pub found_long : (around : Around) (arms : Arms) (levels : List Level) (Folds : ℕ → Type 0) (n : ℕ) (a : Action) (e : Effect) → SoundAction scene levels table Name Folds a → FitArms a arms
        → length (found scene x around arms n a e) ≡ accesses_of a
    found_long around arms levels Folds n (action id place (lets r declared None)) e s h = refl
    found_long around arms levels Folds n (action id place (lets r declared (Some t))) e s h = term_long scene around x _ n t ∙ and_none (term_accesses t)
    found_long around arms levels Folds n (action id place (assigns r t)) e s h = term_long scene around x _ n t ∙ and_none (term_accesses t)
    found_long around arms levels Folds n (action id place (stores target t)) e s h =
        length-append (term_found scene around x _ n t) _ ∙ (both _ _ _ _ (term_long scene around x _ n t) (target_long around _ (n + term_accesses t) target s.0.1) ∙ and_none (term_accesses t + term_accesses target))
    found_long around arms levels Folds n (action id place (reduces r o t)) e s h = term_long scene around x _ n t ∙ and_none (term_accesses t)
    found_long around no_arms levels Folds n (action id place (decides t chosen other)) e s h = absurd h
    found_long around (arms_then first rest) levels Folds n (action id place (decides t chosen other)) e s h = absurd h
    found_long around (arms_of one two inside behind) levels Folds n (action id place (decides t chosen other)) e s h =
        length-append (term_found scene around x _ n t) _
        ∙ both _ _ _ _ (term_long scene around x _ n t)
        (length-append (found scene x one inside (n + term_accesses t) chosen _) _
        ∙ both _ _ _ _ (found_long one inside levels (λ entity. ⊥) (n + term_accesses t) chosen _ s.1.0 h.0) (other_long two behind levels (λ entity. ⊥) (n + term_accesses t + accesses_of chosen) other _ s.1.1 h.1))
    found_long around arms levels Folds n (action id place (blocks body)) e s h = groups_long around arms levels Folds n body e s h ∙ none_and (groups_accesses body)
    found_long around arms levels Folds n (action id place (lets_memory name shape shape_places value)) e s h = refl
    found_long around arms levels Folds n (action id place (views name parent form)) e s h = view_long around n (hidden_in (way_of (known_in scene) name)) (offsets_of form) e
    found_long around arms levels Folds n (action id place (calls function arguments)) e s h = refl
    found_long around arms levels Folds n (action id place (repeats test body)) e s h = idle_long (term_accesses test + accesses_of body)
    found_long around arms levels Folds n (action id place (counts iterator declared low high factor body combine combine_place)) e s h = idle_long (accesses_of body + other_accesses combine) ∙ none_and (accesses_of body + other_accesses combine)

    other_long : (around : Around) (arms : Arms) (levels : List Level) (Folds : ℕ → Type 0) (n : ℕ) (a : MaybeAction) (e : Effect) → SoundOther scene levels table Name Folds a → FitOther a arms
        → length (other_found scene x around arms n a e) ≡ other_accesses a
    other_long around arms levels Folds n no_action e s h = refl
    other_long around arms levels Folds n (one_action a) e s h = found_long around arms levels Folds n a e s h

    groups_long : (around : Around) (arms : Arms) (levels : List Level) (Folds : ℕ → Type 0) (n : ℕ) (gs : Groups) (e : Effect) → SoundGroups scene levels table Name Folds gs → FitGroups gs arms
        → length (groups_found scene x around arms n gs e) ≡ groups_accesses gs
    groups_long around arms levels Folds n no_groups e s h = refl
    groups_long around no_arms levels Folds n (group_then part rest) e s h = absurd h
    groups_long around (arms_of one two inside behind) levels Folds n (group_then part rest) e s h = absurd h
    groups_long around (arms_then first behind) levels Folds n (group_then part rest) e s h =
        length-append (part_found scene x around first n part e) _
        ∙ both _ _ _ _ (part_long around first levels Folds n part e s.0 h.0) (groups_long around behind levels Folds (n + part_accesses part) rest _ s.1 h.1)

    pub part_long : (around : Around) (arms : Arms) (levels : List Level) (Folds : ℕ → Type 0) (n : ℕ) (q : Actions) (e : Effect) → SoundPart scene levels table Name Folds q → FitPart q arms
        → length (part_found scene x around arms n q e) ≡ part_accesses q
    part_long around arms levels Folds n no_actions e s h = refl
    part_long around no_arms levels Folds n (action_then a rest) e s h = absurd h
    part_long around (arms_of one two inside behind) levels Folds n (action_then a rest) e s h = absurd h
    part_long around (arms_then first behind) levels Folds n (action_then a rest) e s h =
        length-append (found scene x around first n a e) _
        ∙ both _ _ _ _ (found_long around first levels Folds n a e s.0 h.0) (part_long around behind levels Folds (n + accesses_of a) rest _ s.1 h.1)

-- Variables that are another at each path.

module _ (scene : Scene) (around : Around) (ground : IsGround scene around) (placed : ArePlaced scene around) (entity : ℕ) (own : IsOwnOf scene around.levels.now entity) where
  levels_long : (ls : List Level) → length (level_factors ls) ≡ length ls
  levels_long [] = refl
  levels_long (l ∷ ls) = ap suc (levels_long ls)

  whole : (i : ℕ) → i < paths_counted around → seen_path scene around entity i ≡ path_in around i
  whole i h =
      let long = length_path (level_factors around.levels.now) (path_in around i) (numbered around.levels.now ground.spread i (subst (λ (n : ℕ). i < n) ground.counted h)).path in
      let same = levels_long around.levels.now in
      let full = own.full in
      take_all (depth_in scene entity) (path_in around i) (omega (arith, long, same, full))

  pub is_own : HasOwnCopies scene around entity
  is_own = record {
    placed = placed;
    there = own.seen;
    own = λ i j h g same.
        let seen = (placed.apart entity entity i j own.seen own.seen h g same).1 in
        number_is around.levels.now ground.spread i j (subst (λ (n : ℕ). i < n) ground.counted h) (subst (λ (n : ℕ). j < n) ground.counted g) (sym (whole i h) ∙ (seen ∙ whole j g));
  }

  pub own_target : IsSetTarget scene around entity
  own_target = record {
    placed = placed;
    there = own.seen;
    no_counter = own.seen.no_counter;
    alike = λ i j h g same. ap (λ n. guard_of around.guards.now n) (is_own.own i j h g same);
  }

-- What commands assign to: variables that are others at each path, or what reducers may assign to.
module _ (scene : Scene) (levels : List Level) (table : List MemEntry) (Name : Ref → Kind → Type 0) where
  abbrev MayAssign : (Folds : ℕ → Type 0) → ℕ → Type 0
  MayAssign Folds entity = IsOwnOf scene levels entity ⊎ Folds entity

  one_assigned : (Folds : ℕ → Type 0) (entity other : ℕ) (rest : Bool) → MayAssign Folds other → ((entity == other) || rest) ≡ true → MayAssign Folds entity ⊎ (rest ≡ true)
  one_assigned Folds entity other rest own h = by (either_of (entity == other) rest h)
    where
      by : ((entity == other) ≡ true) ⊎ (rest ≡ true) → MayAssign Folds entity ⊎ (rest ≡ true)
      by (inl e) = inl (subst (λ (n : ℕ). MayAssign Folds n) (sym (eqb-true entity other e)) own)
      by (inr e) = inr e

  store_assigns : (entity n : ℕ) (target : Term) (t : CoreTerm) (rest : CoreCommands) → any_assigns entity (command_and (store_to (known_in scene) n target t) rest) ≡ any_assigns entity rest
  store_assigns entity n (term place k (plain.accessed r ts)) t rest = refl
  store_assigns entity n (term place k (plain.in_bank r bank at row)) t rest = refl
  store_assigns entity n (term place k (plain.number negative z)) t rest = refl
  store_assigns entity n (term place k (plain.truth_value b)) t rest = refl
  store_assigns entity n (term place k (plain.named r)) t rest = refl
  store_assigns entity n (term place k (plain.applied o l r)) t rest = refl
  store_assigns entity n (term place k (plain.converted inner to)) t rest = refl

  -- one of those in which offsets are kept
  kept_own : (depth first : ℕ) (ts : List Term) (entity : ℕ) → CanKeepFrom scene levels table Name depth first ts → first ≤ entity → entity < first + length ts → IsOwnOf scene levels entity
  kept_own depth first [] entity s low high = absurd (omega (arith, low, high))
  kept_own depth first (t ∷ ts) entity s low high =
      elim (cases_lt first entity) [
        | inl more ↦ kept_own depth (suc first) ts entity s.1 more (omega (arith, high))
        | inr less ↦ subst (λ (n : ℕ). IsOwnOf scene levels n) (same first entity low less) s.0.0
      ]
    where
      same : (a b : ℕ) → a ≤ b → b ≤ a → a ≡ b
      same a b l m = omega (arith, l, m)

  kept_assigned : (Folds : ℕ → Type 0) (entity n : ℕ) (hs : List Hidden) (ts : List Term) (rest : CoreCommands) → CanKeep scene levels table Name hs ts
      → any_assigns entity (kept_by hs (core_terms (known_in scene) n (terms ts)) rest) ≡ true → MayAssign Folds entity ⊎ (any_assigns entity rest ≡ true)
  kept_assigned Folds entity n hs [] rest s h = inr h
  kept_assigned Folds entity n [] (t ∷ ts) rest s h = absurd s
  kept_assigned Folds entity n (k ∷ hs) (t ∷ ts) rest s h = by (either_of (assigns_to entity (keep k.depth k.entity (core_terms (known_in scene) n (terms (t ∷ ts))))) (any_assigns entity rest) h)
    where
      within : (e f c : ℕ) → (nat_le f e && nat_lt e (f + c)) ≡ true → (f ≤ e) × (e < f + c)
      within e f c g = (grind (arith, nat_tests, g), grind (arith, nat_tests, g))

      by : (assigns_to entity (keep k.depth k.entity (core_terms (known_in scene) n (terms (t ∷ ts)))) ≡ true) ⊎ (any_assigns entity rest ≡ true) → MayAssign Folds entity ⊎ (any_assigns entity rest ≡ true)
      by (inl e) =
          let w = within entity k.entity (length (t ∷ ts)) (subst (λ (c : ℕ). (nat_le k.entity entity && nat_lt entity (k.entity + c)) ≡ true) (offsets_long (known_in scene) n (t ∷ ts)) e) in
          inl (inl (kept_own k.depth k.entity (t ∷ ts) entity s.1 w.0 w.1))
      by (inr e) = inr e

  no_more : (entity : ℕ) → MayAssign (λ i. ⊥) entity ⊎ (any_assigns entity no_commands ≡ true) → IsOwnOf scene levels entity
  no_more entity (inl (inl own)) = own
  no_more entity (inl (inr none)) = absurd none
  no_more entity (inr e) = absurd (cc)

  mutual
    pub may_assign : (Folds : ℕ → Type 0) (entity n : ℕ) (a : Action) (rest : CoreCommands) → SoundAction scene levels table Name Folds a → any_assigns entity (core_action (known_in scene) n a rest) ≡ true
        → MayAssign Folds entity ⊎ (any_assigns entity rest ≡ true)
    may_assign Folds entity n (action id place (lets r declared None)) rest s h = one_assigned Folds entity (entity_number r.entity) (any_assigns entity rest) (inl s.0) h
    may_assign Folds entity n (action id place (lets r declared (Some t))) rest s h = one_assigned Folds entity (entity_number r.entity) (any_assigns entity rest) (inl s.1.0) h
    may_assign Folds entity n (action id place (assigns r t)) rest s h = one_assigned Folds entity (entity_number r.entity) (any_assigns entity rest) (inl s.1.0) h
    may_assign Folds entity n (action id place (stores target t)) rest s h = inr (sym (store_assigns entity (n + term_accesses t) target (core_term (known_in scene) n t) rest) ∙ h)
    may_assign Folds entity n (action id place (reduces r o t)) rest s h = one_assigned Folds entity (entity_number r.entity) (any_assigns entity rest) (inr s.0.1) h
    may_assign Folds entity n (action id place (decides t chosen other)) rest s h =
        by (λ g. no_more entity (may_assign (λ i. ⊥) entity (n + term_accesses t) chosen no_commands s.1.0 g)) (λ g. other_own (λ i. ⊥) entity (n + term_accesses t + accesses_of chosen) other s.1.1 g)
        (either_of (any_assigns entity (core_action (known_in scene) (n + term_accesses t) chosen no_commands) || any_assigns entity (core_other (known_in scene) (n + term_accesses t + accesses_of chosen) other)) (any_assigns entity rest) h)
      where
        by : (any_assigns entity (core_action (known_in scene) (n + term_accesses t) chosen no_commands) ≡ true → IsOwnOf scene levels entity)
            → (any_assigns entity (core_other (known_in scene) (n + term_accesses t + accesses_of chosen) other) ≡ true → MayAssign (λ i. ⊥) entity ⊎ (any_assigns entity no_commands ≡ true))
            → ((any_assigns entity (core_action (known_in scene) (n + term_accesses t) chosen no_commands) || any_assigns entity (core_other (known_in scene) (n + term_accesses t + accesses_of chosen) other)) ≡ true) ⊎ (any_assigns entity rest ≡ true)
            → MayAssign Folds entity ⊎ (any_assigns entity rest ≡ true)
        by one two (inr e) = inr e
        by one two (inl e) = elim (either_of (any_assigns entity (core_action (known_in scene) (n + term_accesses t) chosen no_commands)) (any_assigns entity (core_other (known_in scene) (n + term_accesses t + accesses_of chosen) other)) e) [
          | inl g ↦ inl (inl (one g))
          | inr g ↦ inl (inl (no_more entity (two g)))
        ]
    may_assign Folds entity n (action id place (blocks body)) rest s h = groups_own Folds entity n body rest s h
    may_assign Folds entity n (action id place (lets_memory name shape shape_places value)) rest s h = inr h
    may_assign Folds entity n (action id place (views name parent form)) rest s h = kept_assigned Folds entity n (hidden_in (way_of (known_in scene) name)) (offsets_of form) rest s h
    may_assign Folds entity n (action id place (calls function arguments)) rest s h = inr h
    may_assign Folds entity n (action id place (repeats test body)) rest s h = inr h
    may_assign Folds entity n (action id place (counts iterator declared low high factor body combine combine_place)) rest s h = inr h

    pub other_own : (Folds : ℕ → Type 0) (entity n : ℕ) (a : MaybeAction) → SoundOther scene levels table Name Folds a → any_assigns entity (core_other (known_in scene) n a) ≡ true
        → MayAssign Folds entity ⊎ (any_assigns entity no_commands ≡ true)
    other_own Folds entity n no_action s h = inr h
    other_own Folds entity n (one_action a) s h = may_assign Folds entity n a no_commands s h

    groups_own : (Folds : ℕ → Type 0) (entity n : ℕ) (gs : Groups) (rest : CoreCommands) → SoundGroups scene levels table Name Folds gs → any_assigns entity (core_groups (known_in scene) n gs rest) ≡ true
        → MayAssign Folds entity ⊎ (any_assigns entity rest ≡ true)
    groups_own Folds entity n no_groups rest s h = inr h
    groups_own Folds entity n (group_then part more) rest s h =
        further (λ g. groups_own Folds entity (n + part_accesses part) more rest s.1 g) (part_own Folds entity n part (core_groups (known_in scene) (n + part_accesses part) more rest) s.0 h)
      where
        further : (any_assigns entity (core_groups (known_in scene) (n + part_accesses part) more rest) ≡ true → MayAssign Folds entity ⊎ (any_assigns entity rest ≡ true))
            → MayAssign Folds entity ⊎ (any_assigns entity (core_groups (known_in scene) (n + part_accesses part) more rest) ≡ true) → MayAssign Folds entity ⊎ (any_assigns entity rest ≡ true)
        further go (inl own) = inl own
        further go (inr e) = go e

    part_own : (Folds : ℕ → Type 0) (entity n : ℕ) (q : Actions) (rest : CoreCommands) → SoundPart scene levels table Name Folds q → any_assigns entity (core_part (known_in scene) n q rest) ≡ true
        → MayAssign Folds entity ⊎ (any_assigns entity rest ≡ true)
    part_own Folds entity n no_actions rest s h = inr h
    part_own Folds entity n (action_then a more) rest s h =
        further (λ g. part_own Folds entity (n + accesses_of a) more rest s.1 g) (may_assign Folds entity n a (core_part (known_in scene) (n + accesses_of a) more rest) s.0 h)
      where
        further : (any_assigns entity (core_part (known_in scene) (n + accesses_of a) more rest) ≡ true → MayAssign Folds entity ⊎ (any_assigns entity rest ≡ true))
            → MayAssign Folds entity ⊎ (any_assigns entity (core_part (known_in scene) (n + accesses_of a) more rest) ≡ true) → MayAssign Folds entity ⊎ (any_assigns entity rest ≡ true)
        further go (inl own) = inl own
        further go (inr e) = go e

-- Along the run.

lanes_keep : (P : Effect → Type 0) (x : BlockStep) (around : Around) (run : Path → Effect → Effect) → ((p : Path) (e : Effect) → P e → P (run p e)) → (n : ℕ) (e : Effect) → P e → P (lanes_run x around run n e)
lanes_keep P x around run keeps zero e h = h
lanes_keep P x around run keeps (suc n) e h = by (is_on_at x around n) (lanes_keep P x around run keeps n e h)
  where
    by : (on : Bool) → P (lanes_run x around run n e) → P (run_if on run (path_in around n) (lanes_run x around run n e))
    by true g = keeps (path_in around n) (lanes_run x around run n e) g
    by false g = g

module _ (v0 : Variables) (touched : ℕ → Bool) where
  abbrev pub IsNear : Effect → Type 0
  IsNear e = IsNearTo v0 touched e.variables

  pub near_assign : (scene : Scene) (x : BlockStep) (r : Ref) (t : CoreTerm) → touched (entity_number r.entity) ≡ true → (p : Path) (e : Effect) → IsNear e → IsNear (assign_run scene x r t p e)
  near_assign scene x r t touch p e h i q left = set_other e.variables (entity_number r.entity) (take (depth_in scene (entity_number r.entity)) p) _ i q (differ (cases_Bool (i == entity_number r.entity))) ∙ h i q left
    where
      differ : ((i == entity_number r.entity) ≡ true) ⊎ ((i == entity_number r.entity) ≡ false) → (i == entity_number r.entity) ≡ false
      differ (inr e) = e
      differ (inl e) = let t : touched i ≡ true = ap touched (eqb-true i (entity_number r.entity) e) ∙ touch in absurd (clash (touched i) t left)
        where
          clash : (b : Bool) → b ≡ true → b ≡ false → ⊥
          clash b e f = cc

  pub near_kept : (scene : Scene) (x : BlockStep) (h : Hidden) (n : ℕ) (ts : List Term)
      → ((entity : ℕ) → assigns_to entity (keep h.depth h.entity (core_terms (known_in scene) n (terms ts))) ≡ true → touched entity ≡ true) → (p : Path) (e : Effect) → IsNear e → IsNear (kept_run scene x h n ts p e)
  near_kept scene x h n ts touches p e near i q left = others_kept (begun_of x) h.depth h.entity (core_terms (known_in scene) n (terms ts)) i q (none (cases_Bool (assigns_to i (keep h.depth h.entity (core_terms (known_in scene) n (terms ts)))))) p e ∙ near i q left
    where
      none : (assigns_to i (keep h.depth h.entity (core_terms (known_in scene) n (terms ts))) ≡ true) ⊎ (assigns_to i (keep h.depth h.entity (core_terms (known_in scene) n (terms ts))) ≡ false)
          → assigns_to i (keep h.depth h.entity (core_terms (known_in scene) n (terms ts))) ≡ false
      none (inr e) = e
      none (inl e) = absurd (clash (touched i) (touches i e) left)
        where
          clash : (b : Bool) → b ≡ true → b ≡ false → ⊥
          clash b e f = cc

  pub near_store : (scene : Scene) (x : BlockStep) (n : ℕ) (target t : Term) (p : Path) (e : Effect) → IsNear e → IsNear (store_run scene x n target t p e)
  near_store scene x n (term place k (plain.accessed r ts)) t p e h = h
  near_store scene x n (term place k (plain.in_bank r bank at row)) t p e h = h
  near_store scene x n (term place k (plain.number negative z)) t p e h = h
  near_store scene x n (term place k (plain.truth_value b)) t p e h = h
  near_store scene x n (term place k (plain.named r)) t p e h = h
  near_store scene x n (term place k (plain.applied o l r)) t p e h = h
  near_store scene x n (term place k (plain.converted inner to)) t p e h = h

  pub near_commands : (x : BlockStep) (paths : List Path) (cs : CoreCommands) → ((entity : ℕ) → any_assigns entity cs ≡ true → touched entity ≡ true) → (e : Effect) → IsNear e → IsNear (commands_run (begun_of x) paths cs e)
  near_commands x paths cs touches e h i q left = commands_spare (begun_of x) i q paths cs e (none (cases_Bool (any_assigns i cs))) ∙ h i q left
    where
      none : (any_assigns i cs ≡ true) ⊎ (any_assigns i cs ≡ false) → any_assigns i cs ≡ false
      none (inr e) = e
      none (inl e) = absurd (clash (touched i) (touches i e) left)
        where
          clash : (b : Bool) → b ≡ true → b ≡ false → ⊥
          clash b e f = cc

module _ (scene : Scene) (x : BlockStep) (find : ℕ → Option Found) (before : Accesses) (v0 : Variables) (touched : ℕ → Bool) (within_all : FoundAreWithin find before)
    (start : IsStartOf scene x) where
  abbrev reads : StepReads
  reads = chosen_reads x find before

  abbrev Named : List Level → Ref → Kind → Type 0
  Named levels = IsNamedVariable scene levels x v0 touched

  abbrev SoundAt : List Level → (Folds : ℕ → Type 0) → Action → Type 0
  SoundAt levels Folds a = SoundAction scene levels x.start.table (Named levels) Folds a

  abbrev Near : Effect → Type 0
  Near = IsNear v0 touched

  abbrev Touches : CoreCommands → Type 0
  Touches cs = (entity : ℕ) → any_assigns entity cs ≡ true → touched entity ≡ true

  -- where commands stand
  pub record Stage (around : Around) (Folds : ℕ → Type 0) : Type 0 where
    pub ground : IsGround scene around
    pub placed : ArePlaced scene around
    pub folds : (entity : ℕ) → Folds entity → IsSetTarget scene around entity

  -- in an arm
  arm_stage : (around arm : Around) (holds : Bool) (test : Path → Bool) (Folds : ℕ → Type 0) → IsArm x around arm holds test → Stage around Folds → Stage arm (λ entity. ⊥)
  arm_stage around arm holds test Folds h s = record {
    ground = record {
      scopes = s.ground.scopes;
      low = subst (λ (ls : List Level). length ls < 2 ^ 63) (sym h.levels) s.ground.low;
      spread = subst (λ (ls : List Level). AreSpread ls) (sym h.levels) s.ground.spread;
      counted = h.long ∙ (s.ground.counted ∙ ap (λ (ls : List Level). copies_in (level_factors ls)) (sym h.levels));
      one = λ e i j seen a b same.
          register_same e i
          ∙ (s.ground.one e i j (subst (λ (ls : List Level). IsSeen scene ls e) h.levels seen) (within i a) (within j b) (sym (seen_same e i) ∙ (same ∙ seen_same e j)) ∙ sym (register_same e j));
    };
    placed = record {
      apart = λ e f i j seen also a b same.
          let g = s.placed.apart e f i j (subst (λ (ls : List Level). IsSeen scene ls e) h.levels seen) (subst (λ (ls : List Level). IsSeen scene ls f) h.levels also) (within i a) (within j b) (sym (register_same e i) ∙ (same ∙ register_same f j)) in
          (g.0, seen_same e i ∙ (g.1 ∙ sym (seen_same f j)));
      one = λ e i j seen a b same.
          register_same e i
          ∙ (s.placed.one e i j (subst (λ (ls : List Level). IsSeen scene ls e) h.levels seen) (within i a) (within j b) (sym (seen_same e i) ∙ (same ∙ seen_same e j)) ∙ sym (register_same e j));
    };
    folds = λ entity none. absurd none;
  }
    where
      register_same : (e j : ℕ) → register_in scene arm e j ≡ register_in scene around e j
      register_same e j = ap (λ (ls : List Level). min ((held_at scene.held.now e).first + rank_number ls (held_at scene.held.now e).depth j) (2 ^ 64 - 1)) h.levels

      seen_same : (e j : ℕ) → seen_path scene arm e j ≡ seen_path scene around e j
      seen_same e j = ap (λ (ls : List Level). take (depth_in scene e) (path_at ls j)) h.levels

      within : (i : ℕ) → i < paths_counted arm → i < paths_counted around
      within i a = subst (λ (n : ℕ). i < n) h.long a

  -- an expression at the paths of a run
  module _ (around : Around) (Folds : ℕ → Type 0) (stage : Stage around Folds) (run : Path → Effect → Effect) (e : Effect) (keeps : (p : Path) (f : Effect) → Near f → Near (run p f)) (near : Near e) where
    abbrev V : ℕ → Variables
    V = variables_along scene x around run e

    read_all : (n : ℕ) (fs : List Found) → AreFoundAt find n fs → AreShared scene x find n fs → AreReadAt scene x find n fs
    read_all n fs f sh i g e = (f i g e, sh i g e)

    near_all : (i : ℕ) → i < paths_counted around → IsNearTo v0 touched (V i)
    near_all i h = lanes_keep Near x around run keeps i e near

    value_followed : (i : ℕ) → i < paths_counted around → (n : ℕ) (t : Term) → IsSound (known_in scene) x.start.table (Named around.levels.now) t → AreReadAt scene x find n (term_found scene around x V n t)
        → IsFollowed scene around x reads (V i) i n t
    value_followed i h n t s f = followed scene around x find before V v0 touched stage.ground within_all start.ways near_all i h n t s f

    indices_followed : (i : ℕ) → i < paths_counted around → (n : ℕ) (ts : Terms) → AreSound (known_in scene) x.start.table (Named around.levels.now) ts → AreReadAt scene x find n (terms_found scene around x V n ts)
        → FollowsIndices scene around i x reads (V i) n ts
    indices_followed i h n ts s f = record {
      fair = λ current sh. fair_all scene around x find before V v0 touched stage.ground within_all start.ways near_all i h current sh n ts s f;
      sees = λ on current sh. sees_all scene around x find before V v0 touched stage.ground within_all start.ways near_all i i h h on current sh n ts s f (λ l small same. refl);
    }

    write_sited : (i m : ℕ) → i < paths_counted around → (place : Place) (memory : ℕ) (form : plain.TermForm) → find m ≡ Some (write_found scene around x V place memory form)
        → IsSited scene (lane_of around i) (view_at_step x reads (V i)) memory m place form true
    write_sited i m h place memory form is = record {
      scopes = stage.ground.scopes;
      low = stage.ground.low;
      within = h;
      site = site_there x find before (length before.touched.items) m _ (within_all m _ is) is;
    }

    target_followed : (i : ℕ) → i < paths_counted around → (n : ℕ) (target : Term) → IsSoundTarget (known_in scene) x.start.table (Named around.levels.now) target → AreFoundAt find n (target_found scene around x V n target)
        → TargetShares scene x find around V n target → FollowsTarget scene around i x reads (V i) n target
    target_followed i h n (term place k (plain.accessed r ts)) s f sh = (
      record {
        indices = indices_followed i h n ts s.0.0 (read_all n (terms_found scene around x V n ts) (found_first (IsFoundAt find) n (terms_found scene around x V n ts) _ f) sh);
        way = λ on current shown. way_seen scene around x find before V v0 touched stage.ground within_all start.ways near_all i i h h on current shown r s.0.1 (λ l small same. refl);
      },
      (
        write_sited i (n + terms_accesses ts) h place (memory_of (known_in scene) r) (plain.accessed r ts)
            (found_here (IsFoundAt find) n (n + terms_accesses ts) (terms_found scene around x V n ts) _ (ap (λ m. n + m) (sym (terms_long scene around x V n ts))) f),
        (s.1, tt),
      ),
    )
    target_followed i h n (term place k (plain.in_bank r bank at row)) s f sh = (
      value_followed i h n row s.0 (read_all n (term_found scene around x V n row) (found_first (IsFoundAt find) n (term_found scene around x V n row) _ f) sh),
      (
        write_sited i (n + term_accesses row) h place (memory_of (known_in scene) r) (plain.in_bank r bank at row)
            (found_here (IsFoundAt find) n (n + term_accesses row) (term_found scene around x V n row) _ (ap (λ m. n + m) (sym (term_long scene around x V n row))) f),
        (s.1.0, s.1.1),
      ),
    )
    target_followed i h n (term place k (plain.number negative z)) s f sh = absurd s
    target_followed i h n (term place k (plain.truth_value b)) s f sh = absurd s
    target_followed i h n (term place k (plain.named r)) s f sh = absurd s
    target_followed i h n (term place k (plain.applied o l r)) s f sh = absurd s
    target_followed i h n (term place k (plain.converted inner to)) s f sh = absurd s

    same : (i n memory : ℕ) (t : Term) → IsSound (known_in scene) x.start.table (Named around.levels.now) t → CanHold (entry_kind (slice_get x.start.table memory)) t
        → KeptWord scene around (Some memory) t (value_at scene around x (V i) i n t) x.start.table
    same i n memory t s can =
        ap (λ (es : List MemEntry). (held_shown t (entry_kind (slice_get es memory)) (value_at scene around x (V i) i n t)).bits) (sym start.table)
        ∙ ap (λ (w : Word). w.bits) (held_is (begun_of x) (V i) (path_in around i) (known_in scene) (Named around.levels.now) n t s (entry_kind (slice_get x.start.table memory)) can)

    kept : (i n : ℕ) (target t : Term) → IsSound (known_in scene) x.start.table (Named around.levels.now) t → CanHold (kind_aimed (known_in scene) x.start.table target) t
        → KeptWord scene around (memory_aimed scene around (form_of target)) t (value_at scene around x (V i) i n t) x.start.table
    kept i n (term place k (plain.accessed r ts)) t s can = same i n (memory_of (known_in scene) r) t s can
    kept i n (term place k (plain.in_bank r bank at row)) t s can = same i n (memory_of (known_in scene) r) t s can
    kept i n (term place k (plain.number negative z)) t s can = tt
    kept i n (term place k (plain.truth_value b)) t s can = tt
    kept i n (term place k (plain.named r)) t s can = tt
    kept i n (term place k (plain.applied o l r)) t s can = tt
    kept i n (term place k (plain.converted inner to)) t s can = tt

  -- The forms.

  assigned_followed : (around : Around) (Folds : ℕ → Type 0) (n : ℕ) (r : Ref) (t : Term) (e : Effect) → Stage around Folds → CanAssign scene around.levels.now x.start.table (Named around.levels.now) r t
      → touched (entity_number r.entity) ≡ true → Near e → AreReadAt scene x find n (term_found scene around x (variables_along scene x around (assign_run scene x r (term_in scene x n t)) e) n t)
      → Along around x reads (FollowsAssigned scene around (entity_number r.entity) n t) (assign_run scene x r (term_in scene x n t)) e (paths_counted around)
  assigned_followed around Folds n r t e stage s touch near f i h = record {
    target = own_target scene around stage.ground stage.placed (entity_number r.entity) s.1.0;
    value = value_followed around Folds stage (assign_run scene x r (term_in scene x n t)) e (near_assign v0 touched scene x r (term_in scene x n t) touch) near i h n t s.0 f;
    held = λ on. held_is (begun_of x) (variables_along scene x around (assign_run scene x r (term_in scene x n t)) e i) (path_in around i) (known_in scene) (Named around.levels.now) n t s.0
        (held_at scene.held.now (entity_number r.entity)).kind s.1.1;
  }

  stored_followed : (around : Around) (Folds : ℕ → Type 0) (n : ℕ) (target t : Term) (e : Effect) → Stage around Folds → SoundForm scene around.levels.now x.start.table (Named around.levels.now) Folds (stores target t)
      → Near e → AreFoundAt find n (form_of_found scene x around no_arms n (stores target t) e) → SharesInForm scene x find around no_arms n (stores target t) e
      → Along around x reads (FollowsStored scene around n target t) (store_run scene x n target t) e (paths_counted around)
  stored_followed around Folds n target t e stage s near f sh i h = record {
    value = value_followed around Folds stage (store_run scene x n target t) e (near_store v0 touched scene x n target t) near i h n t s.0.0
        (λ j g is. (found_first (IsFoundAt find) n (term_found scene around x _ n t) _ f j g is, sh.0 j g is));
    target_is = target_followed around Folds stage (store_run scene x n target t) e (near_store v0 touched scene x n target t) near i h (n + term_accesses t) target s.0.1
        (found_then (IsFoundAt find) n (n + term_accesses t) (term_found scene around x _ n t) _ (ap (λ m. n + m) (sym (term_long scene around x _ n t))) f) sh.1;
    held = λ on. kept around Folds stage (store_run scene x n target t) e (near_store v0 touched scene x n target t) near i n target t s.0.0 s.1;
  }

  reduced_followed : (around : Around) (Folds : ℕ → Type 0) (n : ℕ) (r : Ref) (o : Op) (t : Term) (e : Effect) → Stage around Folds → SoundForm scene around.levels.now x.start.table (Named around.levels.now) Folds (reduces r o t)
      → touched (entity_number r.entity) ≡ true → Near e → AreReadAt scene x find n (term_found scene around x (variables_along scene x around (assign_run scene x r (reduced_term scene r o n t)) e) n t)
      → Along around x reads (FollowsReduced scene around r o n t) (assign_run scene x r (reduced_term scene r o n t)) e (paths_counted around)
  reduced_followed around Folds n r o t e stage s touch near f i h = record {
    target = stage.folds (entity_number r.entity) s.0.1;
    value = value_followed around Folds stage (assign_run scene x r (reduced_term scene r o n t)) e (near_assign v0 touched scene x r (reduced_term scene r o n t) touch) near i h n t s.0.0 f;
    held = λ on.
        reduced_is (begun_of x) (V i) (path_in around i) (known_in scene) (Named around.levels.now) n t s.0.0 scene r
        (variable (kind_of (known_in scene) r) (depth_in scene (entity_number r.entity)) (entity_number r.entity))
        (V i (entity_number r.entity) (take (depth_in scene (entity_number r.entity)) (path_in around i))) o s.1
        (ap (λ k. word_of k (V i (entity_number r.entity) (take (depth_in scene (entity_number r.entity)) (path_in around i)))) s.1.kind_is)
        ∙ ap (λ k. word_of (held_at scene.held.now (entity_number r.entity)).kind (words.value_of (value_of_term (begun_of x) (V i) (path_in around i)
        (operation_of o k (kind_found t) (variable (kind_of (known_in scene) r) (depth_in scene (entity_number r.entity)) (entity_number r.entity)) (core_term (known_in scene) n t))))) (sym s.1.kind_is);
  }
    where
      V : ℕ → Variables
      V = variables_along scene x around (assign_run scene x r (reduced_term scene r o n t)) e

  -- a view, of which each variable that keeps an offset is another one at each path
  kept_bound : (ls : List Level) (depth first : ℕ) (ts : List Term) → CanKeepFrom scene ls x.start.table (Named ls) depth first ts → AreBoundAt scene depth first (length ts)
  kept_bound ls depth first [] s = tt
  kept_bound ls depth first (t ∷ ts) s = (s.0.1.0, kept_bound ls depth (suc first) ts s.1)

  kept_targets : (around : Around) → IsGround scene around → ArePlaced scene around → (depth first : ℕ) (ts : List Term) → CanKeepFrom scene around.levels.now x.start.table (Named around.levels.now) depth first ts
      → AreTargets scene around first (length ts)
  kept_targets around ground placed depth first [] s = tt
  kept_targets around ground placed depth first (t ∷ ts) s = (own_target scene around ground placed first s.0.0, kept_targets around ground placed depth (suc first) ts s.1)

  kept_held : (ls : List Level) (v : Variables) (path : Path) (depth first n : ℕ) (ts : List Term) → AreSound (known_in scene) x.start.table (Named ls) (terms ts)
      → CanKeepFrom scene ls x.start.table (Named ls) depth first ts → HeldFrom scene first ts (term_words (begun_of x) v path (core_terms (known_in scene) n (terms ts)))
  kept_held ls v path depth first n [] s c = tt
  kept_held ls v path depth first n (t ∷ ts) s c =
      (held_is (begun_of x) v path (known_in scene) (Named ls) n t s.0 (held_at scene.held.now first).kind c.0.1.1, kept_held ls v path depth (suc first) (n + term_accesses t) ts s.1 c.1)

  view_followed : (around : Around) (Folds : ℕ → Type 0) (n : ℕ) (hs : List Hidden) (ts : List Term) (e : Effect) → Stage around Folds → CanKeep scene around.levels.now x.start.table (Named around.levels.now) hs ts
      → Touches (kept_by hs (core_terms (known_in scene) n (terms ts)) no_commands) → Near e → AreFoundAt find n (view_found scene x around n hs ts e) → SharesInView scene x find around n hs ts e
      → FollowsView scene x reads around n hs ts e
  view_followed around Folds n [] ts e stage s touches near f sh = tt
  view_followed around Folds n (k ∷ hs) [] e stage s touches near f sh = λ i h. record {
    targets = tt;
    bound = tt;
    values = record { fair = λ current shown. tt; sees = λ on current shown. tt };
    held = λ on. tt;
  }
  view_followed around Folds n (k ∷ hs) (t ∷ ts) e stage s touches near f sh = λ i h. record {
    targets = kept_targets around stage.ground stage.placed k.depth k.entity (t ∷ ts) s.1;
    bound = kept_bound around.levels.now k.depth k.entity (t ∷ ts) s.1;
    values = indices_followed around Folds stage (kept_run scene x k n (t ∷ ts)) e (near_kept v0 touched scene x k n (t ∷ ts) (λ j g. touches j (or_left _ _ g))) near i h n (terms (t ∷ ts)) s.0 (λ j g is. (f j g is, sh j g is));
    held = λ on. kept_held around.levels.now (variables_along scene x around (kept_run scene x k n (t ∷ ts)) e i) (path_in around i) k.depth k.entity n (t ∷ ts) s.0 s.1;
  }

  pub tested_followed : (around : Around) (Folds : ℕ → Type 0) (n : ℕ) (t : Term) (e : Effect) → Stage around Folds → IsSound (known_in scene) x.start.table (Named around.levels.now) t
      → Near e → AreReadAt scene x find n (term_found scene around x (variables_along scene x around (test_run scene x n t) e) n t)
      → Along around x reads (IsFollowedBy scene around n t) (test_run scene x n t) e (paths_counted around)
  tested_followed around Folds n t e stage s near f i h = value_followed around Folds stage (test_run scene x n t) e (λ p g k. k) near i h n t s f

  first_assigned : (entity : ℕ) → ((entity == entity) || false) ≡ true
  first_assigned entity = or_left (entity == entity) false (eq-eqb entity entity refl)

  -- what arms set is another variable at each path
  arms_own : (around : Around) (chosen : Action) (other : MaybeAction) → SoundAt around.levels.now (λ i. ⊥) chosen → SoundOther scene around.levels.now x.start.table (Named around.levels.now) (λ i. ⊥) other
      → (entity : ℕ) → Sets scene chosen entity ⊎ SetsOther scene other entity → IsOwnOf scene around.levels.now entity
  arms_own around chosen other s o entity (inl h) =
      no_more scene around.levels.now x.start.table (Named around.levels.now) entity (may_assign scene around.levels.now x.start.table (Named around.levels.now) (λ i. ⊥) entity 0 chosen no_commands s h)
  arms_own around chosen other s o entity (inr h) =
      no_more scene around.levels.now x.start.table (Named around.levels.now) entity (other_own scene around.levels.now x.start.table (Named around.levels.now) (λ i. ⊥) entity 0 other o h)

  -- and views in arms keep their offsets where they stand
  kept_deep : (ls : List Level) (hs : List Hidden) (ts : List Term) → CanKeep scene ls x.start.table (Named ls) hs ts → KeptDeep scene hs (length ts)
  kept_deep ls [] ts s = tt
  kept_deep ls (h ∷ hs) [] s = tt
  kept_deep ls (h ∷ hs) (t ∷ ts) s = kept_bound ls h.depth h.entity (t ∷ ts) s.1

  mutual
    keeps_deep : (ls : List Level) (Folds : ℕ → Type 0) (a : Action) → SoundAt ls Folds a → KeepsDeep scene a
    keeps_deep ls Folds (action id place (lets r declared value)) s = tt
    keeps_deep ls Folds (action id place (assigns r t)) s = tt
    keeps_deep ls Folds (action id place (stores target t)) s = tt
    keeps_deep ls Folds (action id place (reduces r o t)) s = tt
    keeps_deep ls Folds (action id place (decides t chosen other)) s = (keeps_deep ls (λ i. ⊥) chosen s.1.0, other_deep ls (λ i. ⊥) other s.1.1)
    keeps_deep ls Folds (action id place (blocks body)) s = groups_deep ls Folds body s
    keeps_deep ls Folds (action id place (lets_memory name shape shape_places value)) s = tt
    keeps_deep ls Folds (action id place (views name parent form)) s = kept_deep ls (hidden_in (way_of (known_in scene) name)) (offsets_of form) s
    keeps_deep ls Folds (action id place (calls function arguments)) s = tt
    keeps_deep ls Folds (action id place (repeats test body)) s = tt
    keeps_deep ls Folds (action id place (counts iterator declared low high factor body combine combine_place)) s = tt

    other_deep : (ls : List Level) (Folds : ℕ → Type 0) (a : MaybeAction) → SoundOther scene ls x.start.table (Named ls) Folds a → KeepsDeepOther scene a
    other_deep ls Folds no_action s = tt
    other_deep ls Folds (one_action a) s = keeps_deep ls Folds a s

    groups_deep : (ls : List Level) (Folds : ℕ → Type 0) (gs : Groups) → SoundGroups scene ls x.start.table (Named ls) Folds gs → KeepsDeepGroups scene gs
    groups_deep ls Folds no_groups s = tt
    groups_deep ls Folds (group_then part rest) s = (part_deep ls Folds part s.0, groups_deep ls Folds rest s.1)

    part_deep : (ls : List Level) (Folds : ℕ → Type 0) (q : Actions) → SoundPart scene ls x.start.table (Named ls) Folds q → KeepsDeepPart scene q
    part_deep ls Folds no_actions s = tt
    part_deep ls Folds (action_then a rest) s = (keeps_deep ls Folds a s.0, part_deep ls Folds rest s.1)

  arms_deep : (around : Around) (chosen : Action) (other : MaybeAction) → SoundAt around.levels.now (λ i. ⊥) chosen → SoundOther scene around.levels.now x.start.table (Named around.levels.now) (λ i. ⊥) other
      → ((entity : ℕ) → Sets scene chosen entity ⊎ SetsOther scene other entity → HasOwnCopies scene around entity) → AreOwn scene around chosen other
  arms_deep around chosen other s o own = record { own = own; chosen_deep = keeps_deep around.levels.now (λ i. ⊥) chosen s; other_deep = other_deep around.levels.now (λ i. ⊥) other o }

  -- All forms.
  mutual
    pub follows : (around : Around) (arms : Arms) (Folds : ℕ → Type 0) (n : ℕ) (a : Action) (e : Effect) → Stage around Folds → SoundAt around.levels.now Folds a → FitArms a arms
        → Touches (core_action (known_in scene) n a no_commands) → Near e → AreFoundAt find n (found scene x around arms n a e) → SharesIn scene x find around arms n a e → Follows scene x reads around arms n a e
    follows around arms Folds n (action id place (lets r declared None)) e stage s h touches near f sh =
        (record { target = own_target scene around stage.ground stage.placed (entity_number r.entity) s.0; sized = s.1.sized }, s.1.kind_is)
    follows around arms Folds n (action id place (lets r declared (Some t))) e stage s h touches near f sh =
        assigned_followed around Folds n r t e stage s (touches (entity_number r.entity) (first_assigned (entity_number r.entity))) near (λ i g is. (f i g is, sh i g is))
    follows around arms Folds n (action id place (assigns r t)) e stage s h touches near f sh =
        assigned_followed around Folds n r t e stage s (touches (entity_number r.entity) (first_assigned (entity_number r.entity))) near (λ i g is. (f i g is, sh i g is))
    follows around arms Folds n (action id place (stores target t)) e stage s h touches near f sh = stored_followed around Folds n target t e stage s near f sh
    follows around arms Folds n (action id place (reduces r o t)) e stage s h touches near f sh =
        reduced_followed around Folds n r o t e stage s (touches (entity_number r.entity) (first_assigned (entity_number r.entity))) near (λ i g is. (f i g is, sh i g is))
    follows around no_arms Folds n (action id place (decides t chosen other)) e stage s h touches near f sh = absurd h
    follows around (arms_then first rest) Folds n (action id place (decides t chosen other)) e stage s h touches near f sh = absurd h
    follows around (arms_of one two inside behind) Folds n (action id place (decides t chosen other)) e stage s h touches near f sh =
        let own : AreFoundAt find n (term_found scene around x (variables_along scene x around (test_run scene x n t) e) n t) = found_first (IsFoundAt find) n (term_found scene around x _ n t) _ f in
        let arms_found = found_then (IsFoundAt find) n (n + term_accesses t) (term_found scene around x (variables_along scene x around (test_run scene x n t) e) n t) _ (ap (λ m. n + m) (sym (term_long scene around x _ n t))) f in
        let first_found : AreFoundAt find (n + term_accesses t) (found scene x one inside (n + term_accesses t) chosen (tested scene x around n t e)) =
        found_first (IsFoundAt find) (n + term_accesses t) (found scene x one inside (n + term_accesses t) chosen (tested scene x around n t e)) _ arms_found in
        let second_found : AreFoundAt find (n + term_accesses t + accesses_of chosen) (other_found scene x two behind (n + term_accesses t + accesses_of chosen) other (effect_of scene x (paths_on x one) (n + term_accesses t) chosen (tested scene x around n t e))) =
        found_then (IsFoundAt find) (n + term_accesses t) (n + term_accesses t + accesses_of chosen) (found scene x one inside (n + term_accesses t) chosen (tested scene x around n t e)) _
        (ap (λ m. n + term_accesses t + m) (sym (found_long scene x x.start.table (Named around.levels.now) one inside around.levels.now (λ i. ⊥) (n + term_accesses t) chosen (tested scene x around n t e) s.1.0 h.0))) arms_found in
        let near_tested : Near (tested scene x around n t e) = lanes_keep Near x around (test_run scene x n t) (λ p g k. k) (paths_counted around) e near in
        let touches_one : Touches (core_action (known_in scene) (n + term_accesses t) chosen no_commands) = λ i g. touches i (or_left _ _ (or_left _ _ g)) in
        let touches_two : Touches (core_other (known_in scene) (n + term_accesses t + accesses_of chosen) other) =
        λ i g. touches i (or_left _ _ (or_right (any_assigns i (core_action (known_in scene) (n + term_accesses t) chosen no_commands)) _ g)) in (
          tested_followed around Folds n t e stage s.0 near (λ i g is. (own i g is, sh.0 i g is)),
          (
            arms_deep around chosen other s.1.0 s.1.1 (λ entity sets. is_own scene around stage.ground stage.placed entity (arms_own around chosen other s.1.0 s.1.1 entity sets)),
            (
              (λ arm. follows one inside (λ i. ⊥) (n + term_accesses t) chosen (tested scene x around n t e) (arm_stage around one true (test_out scene x n t e) Folds arm stage)
                  (subst (λ (ls : List Level). SoundAt ls (λ i. ⊥) chosen) (sym arm.levels) s.1.0) h.0 touches_one near_tested first_found (sh.1.0 arm)),
              λ arm second. other_follows two behind (λ i. ⊥) (n + term_accesses t + accesses_of chosen) other (effect_of scene x (paths_on x one) (n + term_accesses t) chosen (tested scene x around n t e))
                  (arm_stage around two false (test_out scene x n t e) Folds second stage)
                  (subst (λ (ls : List Level). SoundOther scene ls x.start.table (Named ls) (λ i. ⊥) other) (sym second.levels) s.1.1) h.1 touches_two
                  (near_commands v0 touched x (paths_on x one) (core_action (known_in scene) (n + term_accesses t) chosen no_commands) touches_one (tested scene x around n t e) near_tested) second_found (sh.1.1 arm second),
            ),
          ),
        )
    follows around arms Folds n (action id place (blocks body)) e stage s h touches near f sh = groups_follow around arms Folds n body e stage s h touches near f sh
    follows around arms Folds n (action id place (lets_memory name shape shape_places value)) e stage s h touches near f sh = tt
    follows around arms Folds n (action id place (views name parent form)) e stage s h touches near f sh = view_followed around Folds n (hidden_in (way_of (known_in scene) name)) (offsets_of form) e stage s touches near f sh
    follows around arms Folds n (action id place (calls function arguments)) e stage s h touches near f sh = tt
    follows around arms Folds n (action id place (repeats test body)) e stage s h touches near f sh = tt
    follows around arms Folds n (action id place (counts iterator declared low high factor body combine combine_place)) e stage s h touches near f sh = tt

    other_follows : (around : Around) (arms : Arms) (Folds : ℕ → Type 0) (n : ℕ) (a : MaybeAction) (e : Effect) → Stage around Folds → SoundOther scene around.levels.now x.start.table (Named around.levels.now) Folds a → FitOther a arms
        → Touches (core_other (known_in scene) n a) → Near e → AreFoundAt find n (other_found scene x around arms n a e) → SharesInOther scene x find around arms n a e → FollowsOther scene x reads around arms n a e
    other_follows around arms Folds n no_action e stage s h touches near f sh = tt
    other_follows around arms Folds n (one_action a) e stage s h touches near f sh = follows around arms Folds n a e stage s h touches near f sh

    groups_follow : (around : Around) (arms : Arms) (Folds : ℕ → Type 0) (n : ℕ) (gs : Groups) (e : Effect) → Stage around Folds → SoundGroups scene around.levels.now x.start.table (Named around.levels.now) Folds gs → FitGroups gs arms
        → Touches (core_groups (known_in scene) n gs no_commands) → Near e → AreFoundAt find n (groups_found scene x around arms n gs e) → SharesInGroups scene x find around arms n gs e → FollowsGroups scene x reads around arms n gs e
    groups_follow around arms Folds n no_groups e stage s h touches near f sh = tt
    groups_follow around no_arms Folds n (group_then part rest) e stage s h touches near f sh = absurd h
    groups_follow around (arms_of one two inside behind) Folds n (group_then part rest) e stage s h touches near f sh = absurd h
    groups_follow around (arms_then first behind) Folds n (group_then part rest) e stage s h touches near f sh =
        let split : (i : ℕ) → any_assigns i (core_groups (known_in scene) n (group_then part rest) no_commands)
        ≡ (any_assigns i (core_part (known_in scene) n part no_commands) || any_assigns i (core_groups (known_in scene) (n + part_accesses part) rest no_commands)) =
        λ i. part_assigns (known_in scene) i n part (core_groups (known_in scene) (n + part_accesses part) rest no_commands) in
        let touches_one : Touches (core_part (known_in scene) n part no_commands) = λ i g. touches i (split i ∙ or_left _ _ g) in
        let touches_two : Touches (core_groups (known_in scene) (n + part_accesses part) rest no_commands) = λ i g. touches i (split i ∙ or_right _ _ g) in (
          part_follows around first Folds n part e stage s.0 h.0 touches_one near (found_first (IsFoundAt find) n (part_found scene x around first n part e) _ f) sh.0,
          groups_follow around behind Folds (n + part_accesses part) rest (part_effect scene x (paths_on x around) n part e) stage s.1 h.1 touches_two
              (near_commands v0 touched x (paths_on x around) (core_part (known_in scene) n part no_commands) touches_one e near)
              (found_then (IsFoundAt find) n (n + part_accesses part) (part_found scene x around first n part e) _ (ap (λ m. n + m) (sym (part_long scene x x.start.table (Named around.levels.now) around first around.levels.now Folds n part e s.0 h.0))) f) sh.1,
        )

    part_follows : (around : Around) (arms : Arms) (Folds : ℕ → Type 0) (n : ℕ) (q : Actions) (e : Effect) → Stage around Folds → SoundPart scene around.levels.now x.start.table (Named around.levels.now) Folds q → FitPart q arms
        → Touches (core_part (known_in scene) n q no_commands) → Near e → AreFoundAt find n (part_found scene x around arms n q e) → SharesInPart scene x find around arms n q e → FollowsPart scene x reads around arms n q e
    part_follows around arms Folds n no_actions e stage s h touches near f sh = tt
    part_follows around no_arms Folds n (action_then a rest) e stage s h touches near f sh = absurd h
    part_follows around (arms_of one two inside behind) Folds n (action_then a rest) e stage s h touches near f sh = absurd h
    part_follows around (arms_then first behind) Folds n (action_then a rest) e stage s h touches near f sh =
        let split : (i : ℕ) → any_assigns i (core_part (known_in scene) n (action_then a rest) no_commands)
        ≡ (any_assigns i (core_action (known_in scene) n a no_commands) || any_assigns i (core_part (known_in scene) (n + accesses_of a) rest no_commands)) =
        λ i. action_assigns (known_in scene) i n a (core_part (known_in scene) (n + accesses_of a) rest no_commands) in
        let touches_one : Touches (core_action (known_in scene) n a no_commands) = λ i g. touches i (split i ∙ or_left _ _ g) in
        let touches_two : Touches (core_part (known_in scene) (n + accesses_of a) rest no_commands) = λ i g. touches i (split i ∙ or_right _ _ g) in (
          follows around first Folds n a e stage s.0 h.0 touches_one near (found_first (IsFoundAt find) n (found scene x around first n a e) _ f) sh.0,
          part_follows around behind Folds (n + accesses_of a) rest (effect_of scene x (paths_on x around) n a e) stage s.1 h.1 touches_two
              (near_commands v0 touched x (paths_on x around) (core_action (known_in scene) n a no_commands) touches_one e near)
              (found_then (IsFoundAt find) n (n + accesses_of a) (found scene x around first n a e) _ (ap (λ m. n + m) (sym (found_long scene x x.start.table (Named around.levels.now) around first around.levels.now Folds n a e s.0 h.0))) f) sh.1,
        )
