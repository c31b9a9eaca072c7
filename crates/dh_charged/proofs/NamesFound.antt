-- The names of sound commands: each is mentioned by the commands of the core, and is known; what is assigned to is assigned
-- to by them, and is a variable that is seen.
use Rattle.std.proofs.Common.{◌≡◌, ◌⊎◌, inl, inr, ◌+◌, ◌<◌, ◌≤◌, ℕ, suc, List, [], ◌∷◌, length, Some, None, refl, sym, ◌∙◌, subst, arith}
use Rattle.std.specs.Prelude.{Bool as Truth, true, false, nat_le, nat_lt, ◌&&◌, ◌||◌, ◌==◌, Option}
use Rattle.std.specs.List.{AllByRecursion}
use Rattle.std.proofs.lemmas.Bool.{cases_lt, eq-eqb, eqb-true}
use Rattle.std.proofs.lemmas.Bool.Decides.{nat_tests}
use Rattle.dh_value.specs.declared.kinds.Kind.{Kind}
use Rattle.dh_tree.specs.declared.tables.MemEntry.{MemEntry}
use Rattle.dh_tree.specs.declared.trees.expressions.Ref.{Ref}
use Rattle.dh_tree.specs.Indices.{form_of}
use Rattle.dh_tree.specs.PlainTrees as plain
use Rattle.dh_tree.specs.Seen.{terms}
use Rattle.dh_tree.specs.ViewOffsets.{offsets_of}
use Rattle.dh_tree.specs.PlainTrees.{Action, action, lets, lets_memory, views, assigns, stores, reduces, calls, blocks, decides, repeats, counts, MaybeAction, no_action, one_action, Actions, no_actions, action_then, Groups, no_groups, group_then}
use Rattle.dh_meaning.specs.AccessNumbers.{accesses_of, part_accesses, term_accesses}
use Rattle.dh_meaning.specs.Bindings.{kind_found, kind_or_first}
use Rattle.dh_meaning.specs.Core.{CoreCommands, CoreTerm, CoreTerms, command_and, count_terms, keep, no_commands, variable}
use Rattle.dh_meaning.specs.CoreOf.{Known, assigned, core_action, core_groups, core_other, core_part, core_term, core_terms, depth_of, entity_number, kept_by, kept_terms, kind_of, operation_of, store_to, target_to, way_of}
use Rattle.dh_meaning.specs.Levels.{any_assigns, assigns_to}
use Rattle.dh_meaning.specs.Ways.{Hidden, Way, hidden_in}
use Rattle.dh_plan.specs.PlanPhases.{command_mentions, commands_mention, target_mentions, term_mentions, core_terms_mention}
use Rattle.dh_expressions.specs.declared.paths.Level.{Level}
use Rattle.dh_expressions.specs.declared.scenes.Scene.{Scene}
use Rattle.dh_expressions.specs.Evaluated.{known_in}
use Rattle.dh_formed.proofs.NamedTargets.{named_mentions, way_mentions}
use Rattle.dh_formed.proofs.TermsCounted.{operation_mentions}
use Rattle.dh_commands.specs.ShownVariables.{IsSeen}
use Rattle.dh_commands.proofs.CoreRuns.{offsets_long}
use Rattle.dh_blocks.specs.SoundTerms.{AreSound, IsSound, IsSoundHidden, IsSoundTarget, IsSoundWay}
use Rattle.dh_blocks.specs.SoundCommands.{CanKeep, CanKeepFrom, SoundAction, SoundGroups, SoundOther, SoundPart}
use Rattle.dh_charged.specs.SeenRegisters.{GoalsFrom, NamesActions, NamesAim, NamesCommand, NamesGroups, NamesOther, NamesTerm, NamesTerms, NamesView, NamesWay}

itself : (e : ℕ) → (e == e) ≡ true
itself e = eq-eqb e e refl

pub first_of : (a b : Truth) → a ≡ true → (a || b) ≡ true
first_of true b e = refl
first_of false b e = absurd (cc)

pub second_of : (a b : Truth) → b ≡ true → (a || b) ≡ true
second_of true b e = refl
second_of false b e = e

pub either_of : (a b : Truth) → (a || b) ≡ true → (a ≡ true) ⊎ (b ≡ true)
either_of true b e = inl refl
either_of false b e = inr e

-- Expressions.

module _ (known : Known) (table : List MemEntry) (Name : Ref → Kind → Type 0) (P : ℕ → Type 0) where
  -- a name that is mentioned, and known so
  abbrev Both : Ref → Type 0
  Both r = P (entity_number r.entity) × ((k : Kind) × Name r k)

  -- and what keeps an offset on the way of a name
  abbrev KeptSo : Hidden → Type 0
  KeptSo h = P h.entity × ((r : Ref) × IsSoundHidden known table Name r h)

  way_named : (r : Ref) (ts : CoreTerms) → IsSoundWay known table Name r → ((e : ℕ) → target_mentions e (target_to (way_of known r) ts) ≡ true → P e) → NamesWay known Both KeptSo r
  way_named r ts s h = by (way_of known r) s h
    where
      each : (hs : List Hidden) → AllByRecursion (λ (k : Hidden). IsSoundHidden known table Name r k) hs → ((e : ℕ) → core_terms_mention e (kept_terms hs) ≡ true → P e) → AllByRecursion (λ (k : Hidden). KeptSo k) hs
      each [] a m = tt
      each (k ∷ hs) a m = (
        (m k.entity (first_of (term_mentions k.entity (variable k.kind k.depth k.entity)) (core_terms_mention k.entity (kept_terms hs)) (itself k.entity)), (r, a.0)),
        each hs a.1 (λ e g. m e (second_of (term_mentions e (variable k.kind k.depth k.entity)) (core_terms_mention e (kept_terms hs)) g)),
      )

      by : (o : Option Way) → AllByRecursion (λ (k : Hidden). IsSoundHidden known table Name r k) (hidden_in o) → ((e : ℕ) → target_mentions e (target_to o ts) ≡ true → P e) → AllByRecursion (λ (k : Hidden). KeptSo k) (hidden_in o)
      by None a m = tt
      by (Some w) a m = each w.hidden a (λ e g. m e (way_mentions w e ts g))

  mutual
    pub term_named : (n : ℕ) (t : plain.Term) → IsSound known table Name t → ((e : ℕ) → term_mentions e (core_term known n t) ≡ true → P e) → NamesTerm known Both KeptSo t
    term_named n (plain.term place k (plain.number negative z)) s h = tt
    term_named n (plain.term place k (plain.truth_value b)) s h = tt
    term_named n (plain.term place k (plain.named r)) s h = (h (entity_number r.entity) (itself (entity_number r.entity)), (kind_or_first k, s.0))
    term_named n (plain.term place k (plain.accessed r ts)) s h = (
      terms_named n ts s.0.0 (λ e m. h e (named_mentions (way_of known r) e (core_terms known n ts) m)),
      way_named r (core_terms known n ts) s.0.1 h,
    )
    term_named n (plain.term place k (plain.in_bank r bank at row)) s h = term_named n row s.0 h
    term_named n (plain.term place k (plain.applied op left right)) s h = (
      term_named n left s.0.0 (λ e m. h e (sym (mention e) ∙ first_of (term_mentions e (core_term known n left)) _ m)),
      term_named (n + term_accesses left) right s.0.1 (λ e m. h e (sym (mention e) ∙ second_of (term_mentions e (core_term known n left)) _ m)),
    )
      where
        mention : (e : ℕ) → (term_mentions e (core_term known n left) || term_mentions e (core_term known (n + term_accesses left) right)) ≡ term_mentions e (core_term known n (plain.term place k (plain.applied op left right)))
        mention e = operation_mentions e op (kind_found left) (kind_found right) (core_term known n left) (core_term known (n + term_accesses left) right)
    term_named n (plain.term place k (plain.converted inner to)) s h = term_named n inner s.0 h

    pub terms_named : (n : ℕ) (ts : plain.Terms) → AreSound known table Name ts → ((e : ℕ) → core_terms_mention e (core_terms known n ts) ≡ true → P e) → NamesTerms known Both KeptSo ts
    terms_named n plain.no_terms s h = tt
    terms_named n (plain.term_then t ts) s h = (
      term_named n t s.0 (λ e m. h e (first_of (term_mentions e (core_term known n t)) _ m)),
      terms_named (n + term_accesses t) ts s.1 (λ e m. h e (second_of (term_mentions e (core_term known n t)) _ m)),
    )

  pub aim_named : (n : ℕ) (target : plain.Term) (value : CoreTerm) → IsSoundTarget known table Name target → ((e : ℕ) → command_mentions e (store_to known n target value) ≡ true → P e)
      → NamesAim known Both KeptSo (form_of target) × ((e : ℕ) → term_mentions e value ≡ true → P e)
  aim_named n (plain.term place k (plain.accessed r ts)) value s h = (
    (
      terms_named n ts s.0.0 (λ e m. h e (second_of (term_mentions e value) _ (named_mentions (way_of known r) e (core_terms known n ts) m))),
      way_named r (core_terms known n ts) s.0.1 (λ e m. h e (second_of (term_mentions e value) _ m)),
    ),
    λ e m. h e (first_of (term_mentions e value) _ m),
  )
  aim_named n (plain.term place k (plain.in_bank r bank at row)) value s h = (
    term_named n row s.0 (λ e m. h e (second_of (term_mentions e value) _ m)),
    λ e m. h e (first_of (term_mentions e value) _ m),
  )
  aim_named n (plain.term place k (plain.number negative z)) value s h = absurd s
  aim_named n (plain.term place k (plain.truth_value b)) value s h = absurd s
  aim_named n (plain.term place k (plain.named r)) value s h = absurd s
  aim_named n (plain.term place k (plain.applied o l r)) value s h = absurd s
  aim_named n (plain.term place k (plain.converted inner to)) value s h = absurd s

-- Commands.

-- what commands mention is so, and what they assign to
pub record Holds (P Q : ℕ → Type 0) (cs : CoreCommands) : Type 0 where
  pub mentions : (e : ℕ) → commands_mention e cs ≡ true → P e
  pub assigns : (e : ℕ) → any_assigns e cs ≡ true → Q e

module _ (scene : Scene) (levels : List Level) (table : List MemEntry) (Name : Ref → Kind → Type 0) (P Q : ℕ → Type 0) where
  abbrev Named : Ref → Type 0
  Named r = P (entity_number r.entity) × ((k : Kind) × Name r k)

  abbrev Kept : Hidden → Type 0
  Kept h = P h.entity × ((r : Ref) × IsSoundHidden (known_in scene) table Name r h)

  abbrev Goal : ℕ → Type 0
  Goal e = Q e × IsSeen scene levels e

  holds_rest : (c : _) (cs : CoreCommands) → Holds P Q (command_and c cs) → Holds P Q cs
  holds_rest c cs h = record {
    mentions = λ e m. h.mentions e (second_of (command_mentions e c) _ m);
    assigns = λ e m. h.assigns e (second_of (assigns_to e c) _ m);
  }

  -- an assignment
  value_named : (n : ℕ) (r : Ref) (t : plain.Term) (rest : CoreCommands) → IsSound (known_in scene) table Name t → Holds P Q (command_and (assigned (known_in scene) r (core_term (known_in scene) n t)) rest) → NamesTerm (known_in scene) Named Kept t
  value_named n r t rest s h =
      term_named (known_in scene) table Name P n t s (λ e m. h.mentions e (first_of _ (commands_mention e rest) (second_of (e == entity_number r.entity) _ m)))

  goal_named : (r : Ref) (t : CoreTerm) (rest : CoreCommands) → IsSeen scene levels (entity_number r.entity) → Holds P Q (command_and (assigned (known_in scene) r t) rest) → Goal (entity_number r.entity)
  goal_named r t rest s h = (h.assigns (entity_number r.entity) (first_of _ (any_assigns (entity_number r.entity) rest) (itself (entity_number r.entity))), s)

  none_held : Holds P Q no_commands
  none_held = record { mentions = λ e m. absurd (never m); assigns = λ e m. absurd (never m) }
    where
      never : false ≡ true → ⊥
      never e = cc

  -- what a view keeps
  goals_from : (depth from first limit : ℕ) (os : List plain.Term) → first ≤ from → from + length os ≤ limit → ((e : ℕ) → first ≤ e → e < limit → Q e) → CanKeepFrom scene levels table Name depth from os
      → GoalsFrom (known_in scene) Named Kept Goal from os
  goals_from depth from first limit [] low high q s = tt
  goals_from depth from first limit (t ∷ ts) low high q s =
      ((q from low (below from (length ts) limit high), s.0.0.seen), goals_from depth (suc from) first limit ts (more first from low) (moved from (length ts) limit high) q s.1)
    where
      below : (a n l : ℕ) → a + suc n ≤ l → a < l
      below a n l h = omega (arith, h)

      more : (a b : ℕ) → a ≤ b → a ≤ suc b
      more a b h = omega (arith, h)

      moved : (a n l : ℕ) → a + suc n ≤ l → suc a + n ≤ l
      moved a n l h = omega (arith, h)

  view_named : (hs : List Hidden) (n : ℕ) (os : List plain.Term) (rest : CoreCommands) → CanKeep scene levels table Name hs os → Holds P Q (kept_by hs (core_terms (known_in scene) n (terms os)) rest)
      → NamesView (known_in scene) Named Kept Goal hs os × Holds P Q rest
  view_named [] n [] rest s h = (tt, h)
  view_named [] n (t ∷ ts) rest s h = absurd s
  view_named (k ∷ hs) n [] rest s h = ((tt, tt), h)
  view_named (k ∷ hs) n (t ∷ ts) rest s h = (
    (
      terms_named (known_in scene) table Name P n (terms (t ∷ ts)) s.0 (λ e m. h.mentions e (first_of _ (commands_mention e rest) (second_of (assigns_to e (keep k.depth k.entity offsets)) _ m))),
      goals_from k.depth k.entity k.entity (k.entity + length (t ∷ ts)) (t ∷ ts) (same k.entity) (same (k.entity + length (t ∷ ts)))
          (λ e low high. h.assigns e (first_of _ (any_assigns e rest) (kept_at e low (subst (λ (i : ℕ). e < k.entity + i) (sym (offsets_long (known_in scene) n (t ∷ ts))) high)))) s.1,
    ),
    holds_rest _ rest h,
  )
    where
      offsets : CoreTerms
      offsets = core_terms (known_in scene) n (terms (t ∷ ts))

      same : (i : ℕ) → i ≤ i
      same i = omega arith

      both : (a b : Truth) → a ≡ true → b ≡ true → (a && b) ≡ true
      both true b e f = f
      both false b e f = absurd (cc)

      least : (a b : ℕ) → a ≤ b → nat_le a b ≡ true
      least a b l = grind (arith, nat_tests)

      less : (a b : ℕ) → a < b → nat_lt a b ≡ true
      less a b l = grind (arith, nat_tests)

      kept_at : (e : ℕ) → k.entity ≤ e → e < k.entity + count_terms offsets → assigns_to e (keep k.depth k.entity offsets) ≡ true
      kept_at e low high = both (nat_le k.entity e) (nat_lt e (k.entity + count_terms offsets)) (least k.entity e low) (less e (k.entity + count_terms offsets) high)

  mutual
    pub action_named : (Folds : ℕ → Type 0) → ((e : ℕ) → Folds e → IsSeen scene levels e) → (n : ℕ) (a : Action) (rest : CoreCommands) → SoundAction scene levels table Name Folds a
        → Holds P Q (core_action (known_in scene) n a rest) → NamesCommand (known_in scene) Named Kept Goal a × Holds P Q rest
    action_named Folds seen n (action id place (lets name declared (Some value))) rest s h =
        ((value_named n name value rest s.0 h, goal_named name _ rest s.1.0.seen h), holds_rest _ rest h)
    action_named Folds seen n (action id place (lets name declared None)) rest s h = (goal_named name _ rest s.0.seen h, holds_rest _ rest h)
    action_named Folds seen n (action id place (assigns target value)) rest s h =
        ((value_named n target value rest s.0 h, goal_named target _ rest s.1.0.seen h), holds_rest _ rest h)
    action_named Folds seen n (action id place (stores target value)) rest s h =
        let aim =
        aim_named (known_in scene) table Name P (n + term_accesses value) target (core_term (known_in scene) n value) s.0.1 (λ e m. h.mentions e (first_of _ (commands_mention e rest) m)) in
        ((term_named (known_in scene) table Name P n value s.0.0 aim.1, aim.0), holds_rest _ rest h)
    action_named Folds seen n (action id place (reduces target o value)) rest s h = (
      (
        term_named (known_in scene) table Name P n value s.0.0
            (λ e m. h.mentions e (first_of _ (commands_mention e rest) (second_of (e == entity_number target.entity) _ (sym (folded e) ∙ second_of (e == entity_number target.entity) _ m)))),
        goal_named target _ rest (seen (entity_number target.entity) s.0.1) h,
      ),
      holds_rest _ rest h,
    )
      where
        folded : (e : ℕ) → ((e == entity_number target.entity) || term_mentions e (core_term (known_in scene) n value))
            ≡ term_mentions e (operation_of o (kind_of (known_in scene) target) (kind_found value) (variable (kind_of (known_in scene) target) (depth_of (known_in scene) target) (entity_number target.entity)) (core_term (known_in scene) n value))
        folded e = operation_mentions e o (kind_of (known_in scene) target) (kind_found value) (variable (kind_of (known_in scene) target) (depth_of (known_in scene) target) (entity_number target.entity)) (core_term (known_in scene) n value)
    action_named Folds seen n (action id place (decides test chosen other)) rest s h =
        let one = action_named (λ e. ⊥) (λ e f. absurd f) (n + term_accesses test) chosen no_commands s.1.0 first_arm in (
          (
            term_named (known_in scene) table Name P n test s.0 (λ e m. h.mentions e (first_of _ (commands_mention e rest) (first_of (term_mentions e (core_term (known_in scene) n test)) _ m))),
            (one.0, other_named Folds (n + term_accesses test + accesses_of chosen) other s.1.1 second_arm),
          ),
          holds_rest _ rest h,
        )
      where
        first_arm : Holds P Q (core_action (known_in scene) (n + term_accesses test) chosen no_commands)
        first_arm = record {
          mentions = λ e m. h.mentions e (first_of _ (commands_mention e rest) (second_of (term_mentions e (core_term (known_in scene) n test)) _ (first_of _ (commands_mention e (core_other (known_in scene) (n + term_accesses test + accesses_of chosen) other)) m)));
          assigns = λ e m. h.assigns e (first_of _ (any_assigns e rest) (first_of _ (any_assigns e (core_other (known_in scene) (n + term_accesses test + accesses_of chosen) other)) m));
        }

        second_arm : Holds P Q (core_other (known_in scene) (n + term_accesses test + accesses_of chosen) other)
        second_arm = record {
          mentions = λ e m. h.mentions e (first_of _ (commands_mention e rest) (second_of (term_mentions e (core_term (known_in scene) n test)) _ (second_of (commands_mention e (core_action (known_in scene) (n + term_accesses test) chosen no_commands)) _ m)));
          assigns = λ e m. h.assigns e (first_of _ (any_assigns e rest) (second_of (any_assigns e (core_action (known_in scene) (n + term_accesses test) chosen no_commands)) _ m));
        }
    action_named Folds seen n (action id place (blocks body)) rest s h = groups_named Folds seen n body rest s h
    action_named Folds seen n (action id place (lets_memory name shape shape_places value)) rest s h = (tt, h)
    action_named Folds seen n (action id place (views name parent form)) rest s h = view_named (hidden_in (way_of (known_in scene) name)) n (offsets_of form) rest s h
    action_named Folds seen n (action id place (calls function arguments)) rest s h = (tt, h)
    action_named Folds seen n (action id place (repeats test body)) rest s h = (tt, h)
    action_named Folds seen n (action id place (counts iterator declared low high factor body combine combine_place)) rest s h = (tt, h)

    other_named : (Folds : ℕ → Type 0) (n : ℕ) (other : MaybeAction) → SoundOther scene levels table Name (λ e. ⊥) other → Holds P Q (core_other (known_in scene) n other) → NamesOther (known_in scene) Named Kept Goal other
    other_named Folds n no_action s h = tt
    other_named Folds n (one_action a) s h = (action_named (λ e. ⊥) (λ e f. absurd f) n a no_commands s h).0

    groups_named : (Folds : ℕ → Type 0) → ((e : ℕ) → Folds e → IsSeen scene levels e) → (n : ℕ) (body : Groups) (rest : CoreCommands) → SoundGroups scene levels table Name Folds body
        → Holds P Q (core_groups (known_in scene) n body rest) → NamesGroups (known_in scene) Named Kept Goal body × Holds P Q rest
    groups_named Folds seen n no_groups rest s h = (tt, h)
    groups_named Folds seen n (group_then part behind) rest s h =
        let one = part_named Folds seen n part (core_groups (known_in scene) (n + part_accesses part) behind rest) s.0 h in
        let two = groups_named Folds seen (n + part_accesses part) behind rest s.1 one.1 in
        ((one.0, two.0), two.1)

    part_named : (Folds : ℕ → Type 0) → ((e : ℕ) → Folds e → IsSeen scene levels e) → (n : ℕ) (part : Actions) (rest : CoreCommands) → SoundPart scene levels table Name Folds part
        → Holds P Q (core_part (known_in scene) n part rest) → NamesActions (known_in scene) Named Kept Goal part × Holds P Q rest
    part_named Folds seen n no_actions rest s h = (tt, h)
    part_named Folds seen n (action_then a behind) rest s h =
        let one = action_named Folds seen n a (core_part (known_in scene) (n + accesses_of a) behind rest) s.0 h in
        let two = part_named Folds seen (n + accesses_of a) behind rest s.1 one.1 in
        ((one.0, two.0), two.1)

-- What is assigned to is a variable that is seen.

module _ (scene : Scene) (levels : List Level) (table : List MemEntry) (Name : Ref → Kind → Type 0) (e : ℕ) where
  abbrev SeenOr : CoreCommands → Type 0
  SeenOr rest = IsSeen scene levels e ⊎ (any_assigns e rest ≡ true)

  target_seen : (r : Ref) (rest : CoreCommands) → IsSeen scene levels (entity_number r.entity) → ((e == entity_number r.entity) || any_assigns e rest) ≡ true → SeenOr rest
  target_seen r rest s h = elim (either_of (e == entity_number r.entity) (any_assigns e rest) h) [
    | inl is ↦ inl (subst (λ (i : ℕ). IsSeen scene levels i) (sym (eqb-true e (entity_number r.entity) is)) s)
    | inr m ↦ inr m
  ]

  no_more : IsSeen scene levels e ⊎ (any_assigns e no_commands ≡ true) → IsSeen scene levels e
  no_more (inl s) = s
  no_more (inr m) = absurd (never m)
    where
      never : false ≡ true → ⊥
      never e = cc

  then_seen : (cs rest : CoreCommands) → SeenOr cs → (any_assigns e cs ≡ true → SeenOr rest) → SeenOr rest
  then_seen cs rest (inl s) go = inl s
  then_seen cs rest (inr m) go = go m

  store_assigns : (n : ℕ) (target : plain.Term) (value : CoreTerm) → assigns_to e (store_to (known_in scene) n target value) ≡ false
  store_assigns n (plain.term place k (plain.accessed r ts)) value = refl
  store_assigns n (plain.term place k (plain.in_bank r bank at row)) value = refl
  store_assigns n (plain.term place k (plain.number negative z)) value = refl
  store_assigns n (plain.term place k (plain.truth_value b)) value = refl
  store_assigns n (plain.term place k (plain.named r)) value = refl
  store_assigns n (plain.term place k (plain.applied o l r)) value = refl
  store_assigns n (plain.term place k (plain.converted inner to)) value = refl

  behind_store : (a b : Truth) → a ≡ false → (a || b) ≡ true → b ≡ true
  behind_store true b e h = absurd (cc)
  behind_store false b e h = h

  -- a variable of a view is seen
  kept_seen : (depth first : ℕ) (os : List plain.Term) → CanKeepFrom scene levels table Name depth first os → first ≤ e → e < first + length os → IsSeen scene levels e
  kept_seen depth first [] s low high = absurd (none first e low high)
    where
      none : (a b : ℕ) → a ≤ b → b < a + 0 → ⊥
      none a b l h = omega (arith, l, h)
  kept_seen depth first (t ∷ ts) s low high = by (cases_lt first e) (λ l. kept_seen depth (suc first) ts s.1 l (moved first e (length ts) high))
    where
      moved : (a b n : ℕ) → b < a + suc n → b < suc a + n
      moved a b n h = omega (arith, h)

      same : (a b : ℕ) → a ≤ b → b ≤ a → a ≡ b
      same a b l h = omega (arith, l, h)

      next : (a b : ℕ) → a < b → suc a ≤ b
      next a b l = omega (arith, l)

      by : (first < e) ⊎ (e ≤ first) → (suc first ≤ e → IsSeen scene levels e) → IsSeen scene levels e
      by (inl l) rest = rest (next first e l)
      by (inr l) rest = subst (λ (i : ℕ). IsSeen scene levels i) (same first e low l) s.0.0.seen

  view_seen : (hs : List Hidden) (n : ℕ) (os : List plain.Term) (rest : CoreCommands) → CanKeep scene levels table Name hs os → any_assigns e (kept_by hs (core_terms (known_in scene) n (terms os)) rest) ≡ true → SeenOr rest
  view_seen [] n [] rest s h = inr h
  view_seen [] n (t ∷ ts) rest s h = absurd s
  view_seen (k ∷ hs) n [] rest s h = inr h
  view_seen (k ∷ hs) n (t ∷ ts) rest s h = elim (either_of (assigns_to e (keep k.depth k.entity offsets)) (any_assigns e rest) h) [
    | inl m ↦ inl (let b = both (nat_le k.entity e) (nat_lt e (k.entity + count_terms offsets)) m in
        kept_seen k.depth k.entity (t ∷ ts) s.1 (least k.entity e b.0) (subst (λ (i : ℕ). e < k.entity + i) (offsets_long (known_in scene) n (t ∷ ts)) (less e (k.entity + count_terms offsets) b.1)))
    | inr m ↦ inr m
  ]
    where
      offsets : CoreTerms
      offsets = core_terms (known_in scene) n (terms (t ∷ ts))

      both : (a b : Truth) → (a && b) ≡ true → (a ≡ true) × (b ≡ true)
      both true b e = (refl, e)
      both false b e = absurd (cc)

      least : (a b : ℕ) → nat_le a b ≡ true → a ≤ b
      least a b l = grind (arith, nat_tests, l)

      less : (a b : ℕ) → nat_lt a b ≡ true → a < b
      less a b l = grind (arith, nat_tests, l)

  mutual
    pub assigned_seen : (Folds : ℕ → Type 0) → ((i : ℕ) → Folds i → IsSeen scene levels i) → (n : ℕ) (a : Action) (rest : CoreCommands) → SoundAction scene levels table Name Folds a
        → any_assigns e (core_action (known_in scene) n a rest) ≡ true → SeenOr rest
    assigned_seen Folds seen n (action id place (lets name declared (Some value))) rest s h = target_seen name rest s.1.0.seen h
    assigned_seen Folds seen n (action id place (lets name declared None)) rest s h = target_seen name rest s.0.seen h
    assigned_seen Folds seen n (action id place (assigns target value)) rest s h = target_seen target rest s.1.0.seen h
    assigned_seen Folds seen n (action id place (stores target value)) rest s h = inr (behind_store _ (any_assigns e rest) (store_assigns (n + term_accesses value) target (core_term (known_in scene) n value)) h)
    assigned_seen Folds seen n (action id place (reduces target o value)) rest s h = target_seen target rest (seen (entity_number target.entity) s.0.1) h
    assigned_seen Folds seen n (action id place (decides test chosen other)) rest s h =
        by (assigned_seen (λ i. ⊥) (λ i f. absurd f) (n + term_accesses test) chosen no_commands s.1.0) (other_seen Folds (n + term_accesses test + accesses_of chosen) other s.1.1)
        (either_of (any_assigns e (core_action (known_in scene) (n + term_accesses test) chosen no_commands) || any_assigns e (core_other (known_in scene) (n + term_accesses test + accesses_of chosen) other)) (any_assigns e rest) h)
      where
        arms : (any_assigns e (core_action (known_in scene) (n + term_accesses test) chosen no_commands) ≡ true → SeenOr no_commands) → (any_assigns e (core_other (known_in scene) (n + term_accesses test + accesses_of chosen) other) ≡ true → IsSeen scene levels e)
            → (any_assigns e (core_action (known_in scene) (n + term_accesses test) chosen no_commands) ≡ true) ⊎ (any_assigns e (core_other (known_in scene) (n + term_accesses test + accesses_of chosen) other) ≡ true) → IsSeen scene levels e
        arms one two (inl m) = no_more (one m)
        arms one two (inr m) = two m

        by : (any_assigns e (core_action (known_in scene) (n + term_accesses test) chosen no_commands) ≡ true → SeenOr no_commands) → (any_assigns e (core_other (known_in scene) (n + term_accesses test + accesses_of chosen) other) ≡ true → IsSeen scene levels e)
            → ((any_assigns e (core_action (known_in scene) (n + term_accesses test) chosen no_commands) || any_assigns e (core_other (known_in scene) (n + term_accesses test + accesses_of chosen) other)) ≡ true) ⊎ (any_assigns e rest ≡ true) → SeenOr rest
        by one two (inl m) = inl (arms one two (either_of _ _ m))
        by one two (inr m) = inr m
    assigned_seen Folds seen n (action id place (blocks body)) rest s h = groups_seen Folds seen n body rest s h
    assigned_seen Folds seen n (action id place (lets_memory name shape shape_places value)) rest s h = inr h
    assigned_seen Folds seen n (action id place (views name parent form)) rest s h = view_seen (hidden_in (way_of (known_in scene) name)) n (offsets_of form) rest s h
    assigned_seen Folds seen n (action id place (calls function arguments)) rest s h = inr h
    assigned_seen Folds seen n (action id place (repeats test body)) rest s h = inr h
    assigned_seen Folds seen n (action id place (counts iterator declared low high factor body combine combine_place)) rest s h = inr h

    other_seen : (Folds : ℕ → Type 0) (n : ℕ) (other : MaybeAction) → SoundOther scene levels table Name (λ i. ⊥) other → any_assigns e (core_other (known_in scene) n other) ≡ true → IsSeen scene levels e
    other_seen Folds n no_action s h = no_more (inr h)
    other_seen Folds n (one_action a) s h = no_more (assigned_seen (λ i. ⊥) (λ i f. absurd f) n a no_commands s h)

    groups_seen : (Folds : ℕ → Type 0) → ((i : ℕ) → Folds i → IsSeen scene levels i) → (n : ℕ) (body : Groups) (rest : CoreCommands) → SoundGroups scene levels table Name Folds body
        → any_assigns e (core_groups (known_in scene) n body rest) ≡ true → SeenOr rest
    groups_seen Folds seen n no_groups rest s h = inr h
    groups_seen Folds seen n (group_then part behind) rest s h =
        then_seen (core_groups (known_in scene) (n + part_accesses part) behind rest) rest (part_seen Folds seen n part (core_groups (known_in scene) (n + part_accesses part) behind rest) s.0 h)
        (groups_seen Folds seen (n + part_accesses part) behind rest s.1)

    part_seen : (Folds : ℕ → Type 0) → ((i : ℕ) → Folds i → IsSeen scene levels i) → (n : ℕ) (part : Actions) (rest : CoreCommands) → SoundPart scene levels table Name Folds part
        → any_assigns e (core_part (known_in scene) n part rest) ≡ true → SeenOr rest
    part_seen Folds seen n no_actions rest s h = inr h
    part_seen Folds seen n (action_then a behind) rest s h =
        then_seen (core_part (known_in scene) (n + accesses_of a) behind rest) rest (assigned_seen Folds seen n a (core_part (known_in scene) (n + accesses_of a) behind rest) s.0 h)
        (part_seen Folds seen (n + accesses_of a) behind rest s.1)
