-- What the core of sound commands mentions are names that stand in them; and what they assign to is another variable at
-- each path, or is not mentioned in what it takes.
use Rattle.std.proofs.Common.{◌≡◌, ◌⊎◌, inl, inr, ℕ, suc, ◌+◌, ◌<◌, ◌≤◌, Bool as Truth, true, false, List, [], ◌∷◌, length, Option, Some, None, refl, sym, ◌∙◌, subst, arith}
use Rattle.std.specs.Prelude.{◌==◌, ◌||◌, ◌&&◌, nat_le, nat_lt}
use Rattle.std.specs.List.{AllByRecursion}
use Rattle.std.proofs.lemmas.Bool.{cases_lt}
use Rattle.std.proofs.lemmas.Bool.Decides.{nat_tests}
use Rattle.dh_value.specs.declared.kinds.Kind.{Kind}
use Rattle.dh_base.specs.declared.places.Place.{Place}
use Rattle.dh_tree.specs.declared.tables.MemEntry.{MemEntry}
use Rattle.dh_tree.specs.declared.trees.expressions.Ref.{Ref}
use Rattle.dh_tree.specs.PlainTrees as plain
use Rattle.dh_tree.specs.PlainTrees.{Term, Action, action, lets, lets_memory, views, assigns, stores, reduces, calls, blocks, decides, repeats, counts, MaybeAction, no_action, one_action, Actions, no_actions, action_then, Groups, no_groups, group_then}
use Rattle.dh_tree.specs.Seen.{terms}
use Rattle.dh_tree.specs.ViewOffsets.{offsets_of}
use Rattle.dh_meaning.specs.AccessNumbers.{accesses_of, part_accesses, term_accesses}
use Rattle.dh_meaning.specs.Bindings.{kind_found, kind_or_first}
use Rattle.dh_meaning.specs.Core.{CoreTerms, count_terms, keep, no_commands, no_terms, term_and, variable}
use Rattle.dh_meaning.specs.CoreOf.{core_action, core_form, core_groups, core_other, core_part, core_term, core_terms, depth_of, entity_number, kept_by, kept_terms, kind_of, target_to, terms_both, way_of}
use Rattle.dh_meaning.specs.Levels.{assigns_to}
use Rattle.dh_meaning.specs.Ways.{Hidden, Way, hidden_in}
use Rattle.dh_plan.specs.PlanPhases.{commands_mention, target_mentions, term_mentions, core_terms_mention}
use Rattle.dh_sound.specs.SimpleForms.{GroupsFoldInJoins, FoldsInJoins, PartFoldsInJoins}
use Rattle.dh_expressions.specs.declared.paths.Level.{Level}
use Rattle.dh_expressions.specs.declared.scenes.Around.{Around}
use Rattle.dh_expressions.specs.declared.scenes.Scene.{Scene}
use Rattle.dh_expressions.specs.Evaluated.{known_in}
use Rattle.dh_commands.proofs.CoreRuns.{offsets_long}
use Rattle.dh_formed.proofs.TermsCounted.{operation_mentions}
use Rattle.dh_commands.specs.LanesRun.{paths_counted}
use Rattle.dh_commands.specs.ShownVariables.{register_in}
use Rattle.dh_blocks.specs.SoundCommands.{CanKeep, CanKeepFrom, IsOwnOf, SoundAction, SoundGroups, SoundOther, SoundPart}
use Rattle.dh_blocks.specs.SoundTerms.{AreSound, IsSound, IsSoundForm, IsSoundHidden, IsSoundTarget, kept_name}
use Rattle.dh_paced.specs.BlockLengths.{AssignsOwn, AssignsOwnGroups, AssignsOwnOther, AssignsOwnPart, AssignsTo, KeepsOwn}
use Rattle.dh_paced.proofs.CoreAppended.{action_then_mentions, part_then_mentions}

equal : (a b : ℕ) → (a == b) ≡ true → a ≡ b
equal a b h = grind (arith, nat_tests, h)

either_of : (a b : Truth) → (a || b) ≡ true → (a ≡ true) ⊎ (b ≡ true)
either_of true b h = inl refl
either_of false b h = inr h

alone_of : (a : Truth) → (a || false) ≡ true → a ≡ true
alone_of true h = refl
alone_of false h = h

-- Expressions.

module _ (scene : Scene) (table : List MemEntry) (Name : Ref → Kind → Type 0) (P : ℕ → Type 0) (named : (r : Ref) (k : Kind) → Name r k → P (entity_number r.entity)) where
  -- variables that keep offsets, which a target has behind its indices
  kept_names : (r : Ref) (hs : List Hidden) → AllByRecursion (λ (h : Hidden). IsSoundHidden (known_in scene) table Name r h) hs → (e : ℕ) → core_terms_mention e (kept_terms hs) ≡ true → P e
  kept_names r [] s e h = absurd cc
  kept_names r (k ∷ hs) s e h = by (either_of (e == k.entity) (core_terms_mention e (kept_terms hs)) h) (λ m. kept_names r hs s.1 e m)
    where
      by : ((e == k.entity) ≡ true) ⊎ (core_terms_mention e (kept_terms hs) ≡ true) → (core_terms_mention e (kept_terms hs) ≡ true → P e) → P e
      by (inl m) behind = subst P (sym (equal e k.entity m)) (named (kept_name k) k.kind s.0.named)
      by (inr m) behind = behind m

  both_mention : (e : ℕ) (ts us : CoreTerms) → core_terms_mention e (terms_both ts us) ≡ true → (core_terms_mention e ts ≡ true) ⊎ (core_terms_mention e us ≡ true)
  both_mention e no_terms us h = inr h
  both_mention e (term_and t ts) us h = by (either_of (term_mentions e t) (core_terms_mention e (terms_both ts us)) h) (λ m. both_mention e ts us m)
    where
      first : (a b : Truth) → a ≡ true → (a || b) ≡ true
      first true b g = refl
      first false b g = absurd cc

      second : (a b : Truth) → b ≡ true → (a || b) ≡ true
      second true b g = refl
      second false b g = g

      deeper : (core_terms_mention e ts ≡ true) ⊎ (core_terms_mention e us ≡ true) → (core_terms_mention e (term_and t ts) ≡ true) ⊎ (core_terms_mention e us ≡ true)
      deeper (inl m) = inl (second (term_mentions e t) (core_terms_mention e ts) m)
      deeper (inr m) = inr m

      by : (term_mentions e t ≡ true) ⊎ (core_terms_mention e (terms_both ts us) ≡ true) → (core_terms_mention e (terms_both ts us) ≡ true → (core_terms_mention e ts ≡ true) ⊎ (core_terms_mention e us ≡ true))
          → (core_terms_mention e (term_and t ts) ≡ true) ⊎ (core_terms_mention e us ≡ true)
      by (inl m) behind = inl (first (term_mentions e t) (core_terms_mention e ts) m)
      by (inr m) behind = deeper (behind m)

  aimed_names : (r : Ref) (o : Option Way) (ts : CoreTerms) → AllByRecursion (λ (h : Hidden). IsSoundHidden (known_in scene) table Name r h) (hidden_in o) → (e : ℕ) → (core_terms_mention e ts ≡ true → P e) → target_mentions e (target_to o ts) ≡ true → P e
  aimed_names r None ts s e own h = own h
  aimed_names r (Some w) ts s e own h = by (both_mention e ts (kept_terms w.hidden) h)
    where
      by : (core_terms_mention e ts ≡ true) ⊎ (core_terms_mention e (kept_terms w.hidden) ≡ true) → P e
      by (inl m) = own m
      by (inr m) = kept_names r w.hidden s e m

  mutual
    pub term_names : (n : ℕ) (t : Term) → IsSound (known_in scene) table Name t → (e : ℕ) → term_mentions e (core_term (known_in scene) n t) ≡ true → P e
    term_names n (plain.term place kind form) s e h = form_names n place (kind_or_first kind) form s e h

    form_names : (n : ℕ) (place : Place) (k : Kind) (form : plain.TermForm) → IsSoundForm (known_in scene) table Name k form → (e : ℕ) → term_mentions e (core_form (known_in scene) n place k form) ≡ true → P e
    form_names n place k (plain.number negative z) s e h = absurd cc
    form_names n place k (plain.truth_value b) s e h = absurd cc
    form_names n place k (plain.named r) s e h = subst P (sym (equal e (entity_number r.entity) h)) (named r k s.0)
    form_names n place k (plain.accessed r ts) s e h = aimed_names r (way_of (known_in scene) r) (core_terms (known_in scene) n ts) s.0.1 e (λ m. terms_names n ts s.0.0 e m) h
    form_names n place k (plain.in_bank r bank at row) s e h = term_names n row s.0 e h
    form_names n place k (plain.applied o left right) s e h =
        by (either_of (term_mentions e (core_term (known_in scene) n left)) (term_mentions e (core_term (known_in scene) (n + term_accesses left) right))
        (operation_mentions e o (kind_found left) (kind_found right) (core_term (known_in scene) n left) (core_term (known_in scene) (n + term_accesses left) right) ∙ h))
        (λ m. term_names n left s.0.0 e m) (λ m. term_names (n + term_accesses left) right s.0.1 e m)
      where
        by : {A B C : Type 0} → A ⊎ B → (A → C) → (B → C) → C
        by (inl a) f g = f a
        by (inr b) f g = g b
    form_names n place k (plain.converted inner to) s e h = term_names n inner s.0 e h

    pub terms_names : (n : ℕ) (ts : plain.Terms) → AreSound (known_in scene) table Name ts → (e : ℕ) → core_terms_mention e (core_terms (known_in scene) n ts) ≡ true → P e
    terms_names n plain.no_terms s e h = absurd cc
    terms_names n (plain.term_then t ts) s e h =
        by (either_of (term_mentions e (core_term (known_in scene) n t)) (core_terms_mention e (core_terms (known_in scene) (n + term_accesses t) ts)) h)
        (λ m. term_names n t s.0 e m) (λ m. terms_names (n + term_accesses t) ts s.1 e m)
      where
        by : {A B C : Type 0} → A ⊎ B → (A → C) → (B → C) → C
        by (inl a) f g = f a
        by (inr b) f g = g b

  -- Commands.

  module _ (levels : List Level) (own : (e : ℕ) → IsOwnOf scene levels e → P e) where
    abbrev InCommands : (n : ℕ) → Action → Type 0
    InCommands n a = (e : ℕ) → commands_mention e (core_action (known_in scene) n a no_commands) ≡ true → P e

    either : {A B C : Type 0} → A ⊎ B → (A → C) → (B → C) → C
    either (inl a) f g = f a
    either (inr b) f g = g b

    -- what is assigned, and what it takes
    assigned_names : (target e : ℕ) (value : Truth) → P target → (value ≡ true → P e) → (((e == target) || value) || false) ≡ true → P e
    assigned_names target e value p v h = either (either_of (e == target) value (alone_of ((e == target) || value) h)) (λ m. subst P (sym (equal e target m)) p) v

    stored_names : (n : ℕ) (target t : Term) → IsSound (known_in scene) table Name t → IsSoundTarget (known_in scene) table Name target → (id : _) (place : Place) → InCommands n (action id place (stores target t))
    stored_names n (plain.term at kind (plain.accessed r ts)) t s g id place e h =
        either (either_of (term_mentions e (core_term (known_in scene) n t)) (target_mentions e (target_to (way_of (known_in scene) r) (core_terms (known_in scene) (n + term_accesses t) ts))) (alone_of _ h)) (λ m. term_names n t s e m)
        (λ m. aimed_names r (way_of (known_in scene) r) (core_terms (known_in scene) (n + term_accesses t) ts) g.0.1 e (λ q. terms_names (n + term_accesses t) ts g.0.0 e q) m)
    stored_names n (plain.term at kind (plain.in_bank r bank bank_at row)) t s g id place e h =
        either (either_of (term_mentions e (core_term (known_in scene) n t)) (term_mentions e (core_term (known_in scene) (n + term_accesses t) row)) (alone_of _ h)) (λ m. term_names n t s e m) (λ m. term_names (n + term_accesses t) row g.0 e m)
    stored_names n (plain.term at kind (plain.number negative z)) t s g id place e h = absurd g
    stored_names n (plain.term at kind (plain.truth_value b)) t s g id place e h = absurd g
    stored_names n (plain.term at kind (plain.named r)) t s g id place e h = absurd g
    stored_names n (plain.term at kind (plain.applied o left right)) t s g id place e h = absurd g
    stored_names n (plain.term at kind (plain.converted inner to)) t s g id place e h = absurd g

    -- offsets of a view, and the variables that keep them
    among_names : (depth first : ℕ) (os : List Term) → CanKeepFrom scene levels table Name depth first os → (e : ℕ) → first ≤ e → e < first + length os → P e
    among_names depth first [] s e low high = absurd (never first e low high)
      where
        never : (a b : ℕ) → a ≤ b → b < a + 0 → ⊥
        never a b l m = omega (arith, l, m)
    among_names depth first (o ∷ os) s e low high = by (cases_lt first e) (λ l. among_names depth (suc first) os s.1 e (omega (arith, l)) (within first e (length os) high))
      where
        same : (a b : ℕ) → a ≤ b → b ≤ a → a ≡ b
        same a b l m = omega (arith, l, m)

        within : (a b n : ℕ) → b < a + suc n → b < suc a + n
        within a b n l = omega (arith, l)

        by : (first < e) ⊎ (e ≤ first) → (first < e → P e) → P e
        by (inl l) behind = behind l
        by (inr l) behind = subst P (same first e low l) (own first s.0.0)

    bounds : (e first count : ℕ) → (nat_le first e && nat_lt e (first + count)) ≡ true → (first ≤ e) × (e < first + count)
    bounds e first count h = (grind (arith, nat_tests, h), grind (arith, nat_tests, h))

    view_names : (n : ℕ) (hs : List Hidden) (os : List Term) → CanKeep scene levels table Name hs os → (e : ℕ) → commands_mention e (kept_by hs (core_terms (known_in scene) n (terms os)) no_commands) ≡ true → P e
    view_names n hs [] s e h = absurd cc
    view_names n [] (o ∷ os) s e h = absurd s
    view_names n (k ∷ hs) (o ∷ os) s e h =
        either (either_of (assigns_to e (keep k.depth k.entity (core_terms (known_in scene) n (terms (o ∷ os))))) (core_terms_mention e (core_terms (known_in scene) n (terms (o ∷ os)))) (alone_of _ h))
        (λ m.
        let b = bounds e k.entity (count_terms (core_terms (known_in scene) n (terms (o ∷ os)))) m in
        among_names k.depth k.entity (o ∷ os) s.1 e b.0 (subst (λ (c : ℕ). e < k.entity + c) (offsets_long (known_in scene) n (o ∷ os)) b.1))
        (λ m. terms_names n (terms (o ∷ os)) s.0 e m)

    mutual
      pub action_names : (Folds : ℕ → Type 0) → ((e : ℕ) → Folds e → P e) → (n : ℕ) (a : Action) → SoundAction scene levels table Name Folds a → InCommands n a
      action_names Folds folds n (action id place (lets r declared None)) s e h = assigned_names (entity_number r.entity) e false (own (entity_number r.entity) s.0) (λ m. absurd cc) h
      action_names Folds folds n (action id place (lets r declared (Some t))) s e h = assigned_names (entity_number r.entity) e (term_mentions e (core_term (known_in scene) n t)) (own (entity_number r.entity) s.1.0) (λ m. term_names n t s.0 e m) h
      action_names Folds folds n (action id place (assigns r t)) s e h = assigned_names (entity_number r.entity) e (term_mentions e (core_term (known_in scene) n t)) (own (entity_number r.entity) s.1.0) (λ m. term_names n t s.0 e m) h
      action_names Folds folds n (action id place (stores target t)) s e h = stored_names n target t s.0.0 s.0.1 id place e h
      action_names Folds folds n (action id place (reduces r o t)) s e h =
          assigned_names (entity_number r.entity) e _ (folds (entity_number r.entity) s.0.1) (λ m.
          either (either_of (e == entity_number r.entity) (term_mentions e (core_term (known_in scene) n t)) (operation_mentions e o (kind_of (known_in scene) r) (kind_found t) (variable (kind_of (known_in scene) r) (depth_of (known_in scene) r) (entity_number r.entity)) (core_term (known_in scene) n t) ∙ m))
          (λ q. subst P (sym (equal e (entity_number r.entity) q)) (folds (entity_number r.entity) s.0.1)) (λ q. term_names n t s.0.0 e q)) h
      action_names Folds folds n (action id place (decides t chosen other)) s e h =
          either (either_of (term_mentions e (core_term (known_in scene) n t)) _ (alone_of _ h)) (λ m. term_names n t s.0 e m) (λ m.
          either (either_of (commands_mention e (core_action (known_in scene) (n + term_accesses t) chosen no_commands)) (commands_mention e (core_other (known_in scene) (n + term_accesses t + accesses_of chosen) other)) m)
          (λ q. action_names (λ f. ⊥) (λ f never. absurd never) (n + term_accesses t) chosen s.1.0 e q) (λ q. other_names (λ f. ⊥) (λ f never. absurd never) (n + term_accesses t + accesses_of chosen) other s.1.1 e q))
      action_names Folds folds n (action id place (blocks body)) s e h = groups_names Folds folds n body s e h
      action_names Folds folds n (action id place (lets_memory name shape shape_places value)) s e h = absurd cc
      action_names Folds folds n (action id place (views name parent form)) s e h = view_names n (hidden_in (way_of (known_in scene) name)) (offsets_of form) s e h
      action_names Folds folds n (action id place (calls function arguments)) s e h = absurd cc
      action_names Folds folds n (action id place (repeats test body)) s e h = absurd cc
      action_names Folds folds n (action id place (counts iterator declared low high factor body combine combine_place)) s e h = absurd cc

      other_names : (Folds : ℕ → Type 0) → ((e : ℕ) → Folds e → P e) → (n : ℕ) (other : MaybeAction) → SoundOther scene levels table Name Folds other → (e : ℕ) → commands_mention e (core_other (known_in scene) n other) ≡ true → P e
      other_names Folds folds n no_action s e h = absurd cc
      other_names Folds folds n (one_action a) s e h = action_names Folds folds n a s e h

      part_names : (Folds : ℕ → Type 0) → ((e : ℕ) → Folds e → P e) → (n : ℕ) (part : Actions) → SoundPart scene levels table Name Folds part → (e : ℕ) → commands_mention e (core_part (known_in scene) n part no_commands) ≡ true → P e
      part_names Folds folds n no_actions s e h = absurd cc
      part_names Folds folds n (action_then a rest) s e h =
          either (either_of (commands_mention e (core_action (known_in scene) n a no_commands)) (commands_mention e (core_part (known_in scene) (n + accesses_of a) rest no_commands))
          (sym (action_then_mentions (known_in scene) n a (core_part (known_in scene) (n + accesses_of a) rest no_commands) e) ∙ h))
          (λ m. action_names Folds folds n a s.0 e m) (λ m. part_names Folds folds (n + accesses_of a) rest s.1 e m)

      groups_names : (Folds : ℕ → Type 0) → ((e : ℕ) → Folds e → P e) → (n : ℕ) (body : Groups) → SoundGroups scene levels table Name Folds body → (e : ℕ) → commands_mention e (core_groups (known_in scene) n body no_commands) ≡ true → P e
      groups_names Folds folds n no_groups s e h = absurd cc
      groups_names Folds folds n (group_then part rest) s e h =
          either (either_of (commands_mention e (core_part (known_in scene) n part no_commands)) (commands_mention e (core_groups (known_in scene) (n + part_accesses part) rest no_commands))
          (sym (part_then_mentions (known_in scene) n part (core_groups (known_in scene) (n + part_accesses part) rest no_commands) e) ∙ h))
          (λ m. part_names Folds folds n part s.0 e m) (λ m. groups_names Folds folds (n + part_accesses part) rest s.1 e m)

-- Assignments.

module _ (scene : Scene) (around : Around) (table : List MemEntry) (Name : Ref → Kind → Type 0)
    (own : (e : ℕ) → IsOwnOf scene around.levels.now e → (i j : ℕ) → i < paths_counted around → j < paths_counted around → register_in scene around e i ≡ register_in scene around e j → i ≡ j) where
  assigned_to : (e first : ℕ) (t : Term) → IsOwnOf scene around.levels.now e → AssignsTo scene around e first t
  assigned_to e first t o = (o.seen.no_counter, inl (own e o))

  -- variables that keep offsets
  keeps_own : (depth first : ℕ) (os : List Term) → CanKeepFrom scene around.levels.now table Name depth first os → (e : ℕ) → first ≤ e → e < first + length os → IsOwnOf scene around.levels.now e
  keeps_own depth first [] s e low high = absurd (never first e low high)
    where
      never : (a b : ℕ) → a ≤ b → b < a + 0 → ⊥
      never a b l m = omega (arith, l, m)
  keeps_own depth first (o ∷ os) s e low high = by (cases_lt first e) (λ l. keeps_own depth (suc first) os s.1 e (omega (arith, l)) (within first e (length os) high))
    where
      same : (a b : ℕ) → a ≤ b → b ≤ a → a ≡ b
      same a b l m = omega (arith, l, m)

      within : (a b n : ℕ) → b < a + suc n → b < suc a + n
      within a b n l = omega (arith, l)

      by : (first < e) ⊎ (e ≤ first) → (first < e → IsOwnOf scene around.levels.now e) → IsOwnOf scene around.levels.now e
      by (inl l) behind = behind l
      by (inr l) behind = subst (λ (i : ℕ). IsOwnOf scene around.levels.now i) (same first e low l) s.0.0

  view_keeps : (hs : List Hidden) (first : ℕ) (os : List Term) → CanKeep scene around.levels.now table Name hs os → KeepsOwn scene around hs first os
  view_keeps [] first os s = tt
  view_keeps (h ∷ hs) first [] s = λ e among. absurd (never h.entity e among.0 among.1)
    where
      never : (a b : ℕ) → a ≤ b → b < a + 0 → ⊥
      never a b l m = omega (arith, l, m)
  view_keeps (h ∷ hs) first (t ∷ ts) s = λ e among. let o = keeps_own h.depth h.entity (t ∷ ts) s.1 e among.0 among.1 in (o.seen.no_counter, own e o)

  mutual
    pub assigns_own : (Folds : ℕ → Type 0) → ((e first : ℕ) (t : Term) → IsSound (known_in scene) table Name t → Folds e → AssignsTo scene around e first t) → (first : ℕ) (a : Action) → SoundAction scene around.levels.now table Name Folds a
        → AssignsOwn scene around first a
    assigns_own Folds folds first (action id place (lets r declared None)) s = s.0.seen.no_counter
    assigns_own Folds folds first (action id place (lets r declared (Some t))) s = assigned_to (entity_number r.entity) first t s.1.0
    assigns_own Folds folds first (action id place (assigns r t)) s = assigned_to (entity_number r.entity) first t s.1.0
    assigns_own Folds folds first (action id place (stores target t)) s = tt
    assigns_own Folds folds first (action id place (reduces r o t)) s = folds (entity_number r.entity) first t s.0.0 s.0.1
    assigns_own Folds folds first (action id place (decides t chosen other)) s =
        (assigns_own (λ e. ⊥) (λ e n u sound never. absurd never) (first + term_accesses t) chosen s.1.0, other_own (λ e. ⊥) (λ e n u sound never. absurd never) (first + term_accesses t + accesses_of chosen) other s.1.1)
    assigns_own Folds folds first (action id place (blocks body)) s = groups_own Folds folds first body s
    assigns_own Folds folds first (action id place (lets_memory name shape shape_places value)) s = tt
    assigns_own Folds folds first (action id place (views name parent form)) s = view_keeps (hidden_in (way_of (known_in scene) name)) first (offsets_of form) s
    assigns_own Folds folds first (action id place (calls function arguments)) s = tt
    assigns_own Folds folds first (action id place (repeats test body)) s = tt
    assigns_own Folds folds first (action id place (counts iterator declared low high factor body combine combine_place)) s = tt

    other_own : (Folds : ℕ → Type 0) → ((e first : ℕ) (t : Term) → IsSound (known_in scene) table Name t → Folds e → AssignsTo scene around e first t) → (first : ℕ) (other : MaybeAction) → SoundOther scene around.levels.now table Name Folds other
        → AssignsOwnOther scene around first other
    other_own Folds folds first no_action s = tt
    other_own Folds folds first (one_action a) s = assigns_own Folds folds first a s

    part_own : (Folds : ℕ → Type 0) → ((e first : ℕ) (t : Term) → IsSound (known_in scene) table Name t → Folds e → AssignsTo scene around e first t) → (first : ℕ) (part : Actions) → SoundPart scene around.levels.now table Name Folds part
        → AssignsOwnPart scene around first part
    part_own Folds folds first no_actions s = tt
    part_own Folds folds first (action_then a rest) s = (assigns_own Folds folds first a s.0, part_own Folds folds (first + accesses_of a) rest s.1)

    groups_own : (Folds : ℕ → Type 0) → ((e first : ℕ) (t : Term) → IsSound (known_in scene) table Name t → Folds e → AssignsTo scene around e first t) → (first : ℕ) (body : Groups) → SoundGroups scene around.levels.now table Name Folds body
        → AssignsOwnGroups scene around first body
    groups_own Folds folds first no_groups s = tt
    groups_own Folds folds first (group_then part rest) s = (part_own Folds folds first part s.0, groups_own Folds folds (first + part_accesses part) rest s.1)

-- A command without reducers is as sound where none may assign.
module _ (scene : Scene) (levels : List Level) (table : List MemEntry) (Name : Ref → Kind → Type 0) (Folds : ℕ → Type 0) where
  mutual
    pub simple_sound : (a : Action) → FoldsInJoins a → SoundAction scene levels table Name Folds a → SoundAction scene levels table Name (λ e. ⊥) a
    simple_sound (action id place (lets r declared value)) p s = s
    simple_sound (action id place (assigns r t)) p s = s
    simple_sound (action id place (stores target t)) p s = s
    simple_sound (action id place (reduces r o t)) p s = absurd p
    simple_sound (action id place (decides t chosen other)) p s = s
    simple_sound (action id place (blocks body)) p s = groups_sound body p s
    simple_sound (action id place (lets_memory name shape shape_places value)) p s = tt
    simple_sound (action id place (views name parent form)) p s = s
    simple_sound (action id place (calls function arguments)) p s = tt
    simple_sound (action id place (repeats test body)) p s = tt
    simple_sound (action id place (counts iterator declared low high factor body combine combine_place)) p s = tt

    groups_sound : (body : Groups) → GroupsFoldInJoins body → SoundGroups scene levels table Name Folds body → SoundGroups scene levels table Name (λ e. ⊥) body
    groups_sound no_groups p s = tt
    groups_sound (group_then part rest) p s = (part_sound part p.0 s.0, groups_sound rest p.1 s.1)

    part_sound : (part : Actions) → PartFoldsInJoins part → SoundPart scene levels table Name Folds part → SoundPart scene levels table Name (λ e. ⊥) part
    part_sound no_actions p s = tt
    part_sound (action_then a rest) p s = (simple_sound a p.0 s.0, part_sound rest p.1 s.1)
