-- Commands of each form, from what is done at all paths; and the parts of a block, one after the other.
use Rattle.std.proofs.Common.{◌≡◌, ◌⊎◌, inl, inr, ℕ, suc, ◌+◌, ◌<◌, ◌^◌, ◌==◌, Bool, true, false, Some, None, List, [], ◌∷◌, ◌++◌, length, refl, ap, sym, ◌∙◌, subst, arith}
use Rattle.std.specs.Prelude.{Option, ◌≤◌, ◌&&◌, ◌||◌, nat_le, nat_lt}
use Rattle.std.proofs.Math.Nat.{add_assoc, add-zero, zero-add}
use Rattle.std.proofs.lemmas.Bool.{eq-eqb}
use Rattle.std.proofs.lemmas.Bool.Decides.{nat_tests}
use Rattle.std.proofs.lemmas.List.{append-nil}
use Rattle.dh_base.specs.declared.places.Place.{Place}
use Rattle.dh_value.specs.declared.kinds.Kind.{Kind}
use Rattle.dh_value.specs.declared.operators.Op.{Op}
use Rattle.dh_tree.specs.declared.trees.expressions.Ref.{Ref}
use Rattle.dh_tree.specs.PlainTrees as plain
use Rattle.dh_tree.specs.PlainTrees.{ViewPlan, Action, action, lets, views, assigns, stores, reduces, blocks, Actions, no_actions, action_then, Groups, no_groups, group_then}
use Rattle.dh_tree.specs.Seen.{terms}
use Rattle.dh_tree.specs.ViewOffsets.{offsets_of}
use Rattle.dh_meaning.specs.AccessNumbers.{accesses_of, groups_accesses, part_accesses, plan_accesses, term_accesses}
use Rattle.dh_meaning.specs.Core.{CoreCommands, CoreTerms, no_commands, no_terms, term_and, literal, truth_literal}
use Rattle.dh_meaning.specs.CoreOf.{core_action, core_groups, core_part, core_term, core_terms, entity_number, kept_by, store_to, way_of}
use Rattle.dh_meaning.specs.Effects.{Effect, Event, Variables, assigned_at, at_each, command_run, commands_run, kept_at, tested_at}
use Rattle.dh_meaning.specs.Paths.{Path}
use Rattle.dh_meaning.specs.Ways.{Hidden, hidden_in}
use Rattle.dh_code.specs.Slots.{held_at}
use Rattle.dh_expressions.specs.declared.scenes.Around.{Around}
use Rattle.dh_expressions.specs.declared.scenes.Scene.{Scene}
use Rattle.dh_expressions.specs.Drafted.{BlockStep}
use Rattle.dh_expressions.specs.Evaluated.{StepReads, begun_of, known_in}
use Rattle.dh_expressions.proofs.Pushing.{begun_later, extends_again, extends_self, fits_before}
use Rattle.dh_commands.specs.declared.buildings.Building.{Building}
use Rattle.dh_commands.specs.LanesRun.{paths_counted, paths_on}
use Rattle.dh_commands.specs.ShownVariables.{depth_in}
use Rattle.dh_commands.specs.Followed.{Along, Arms, no_arms, arms_of, arms_then, FitArms, FitGroups, Follows, FollowsGroups, FollowsView, Sets, effect_of, groups_effect, part_effect, store_run}
use Rattle.dh_commands.specs.Done.{Does, DoesCommandAtPaths, DoesCommand, IsNextAccess, StandsBeside}
use Rattle.dh_commands.specs.Setting.{AssignsAll, ClearsAll, IsVariableAmong, KeepsAtAllPaths, KeepsView, ReducesAll, StoresAll}
use Rattle.dh_commands.specs.Parted.{DoesGroups, SetsGroups}
use Rattle.dh_commands.proofs.ArmsDone.{changes_wider}
use Rattle.dh_commands.proofs.ChangesBack.{changes_again, changes_none, ready_after}
use Rattle.dh_commands.proofs.CoreRuns.{action_any, action_runs, action_sets, groups_any, groups_set, kept_sets, part_sets}
use Rattle.dh_commands.proofs.LanesInOrder.{lanes_are}

-- A command without arms.
pub as_command : (scene : Scene) (around : Around) (a : Action) (first count next : ℕ) (old new : Building) (May : ℕ → Type 0) (Premise : ℕ → BlockStep → StepReads → Variables → Type 0) (run : BlockStep → Path → Effect → Effect)
    → DoesCommandAtPaths scene around May Premise run first count next (paths_counted around) old new → accesses_of a ≡ count → FitArms a no_arms → ((entity : ℕ) → May entity → Sets scene a entity)
    → ((x : BlockStep) (reads : StepReads) (e : Effect) → Follows scene x reads around no_arms first a e → Along around x reads Premise (run x) e (paths_counted around))
    → ((x : BlockStep) (e : Effect) → at_each (run x) (paths_on x around) e ≡ effect_of scene x (paths_on x around) first a e) → DoesCommand scene around a first next old new
as_command scene around a first count next old new May Premise run d count_is shaped wider follows runs = record {
  next_is = λ some few. d.next_is some (fewer few) ∙ ap (λ n. first + n) (sym count_is);
  arms = no_arms;
  shaped = shaped;
  so = λ some few. let k = d.so (fewer few) in record {
    extends = k.extends;
    changes = λ ready. changes_wider scene around May (Sets scene a) old.values new.values wider (k.changes ready);
    so = λ x reads e fits begun p stands.
        subst (λ (f : Effect). StandsBeside scene around x reads new f) (lanes_are x around (run x) (paths_counted around) e ∙ runs x e) (k.so x reads e fits begun (follows x reads e p) stands);
  };
}
  where
    fewer : first + accesses_of a < 2 ^ 32 → first + count < 2 ^ 32
    fewer few = subst (λ (n : ℕ). first + n < 2 ^ 32) count_is few

sets_one : (e entity : ℕ) → e ≡ entity → ((e == entity) || false) ≡ true
sets_one e entity same = ap (λ b. b || false) (eq-eqb e entity same)

each_same : (run other : Path → Effect → Effect) → ((p : Path) (f : Effect) → run p f ≡ other p f) → (paths : List Path) (e : Effect) → at_each run paths e ≡ at_each other paths e
each_same run other same [] e = refl
each_same run other same (p ∷ ps) e = each_same run other same ps (run p e) ∙ ap (λ f. at_each other ps f) (same p e)

no_events : (f : Effect) → f ≡ record { variables = f.variables; events = f.events ++ [] }
no_events f = ap (λ (es : List Event). record { variables = f.variables; events = es }) (sym (append-nil f.events))

-- a test that reads nothing
tested_still : (x : BlockStep) (ps : List Path) (f : Effect) → at_each (tested_at (begun_of x) (truth_literal false)) ps f ≡ f
tested_still x [] f = refl
tested_still x (p ∷ ps) f = ap (λ g. at_each (tested_at (begun_of x) (truth_literal false)) ps g) (sym (no_events f)) ∙ tested_still x ps f

module _ (scene : Scene) (around : Around) (id : ℕ) (place : Place) (first next : ℕ) (old new : Building) where
  pub let_done : (r : Ref) (declared : Option Kind) (t : plain.Term) → AssignsAll scene around old new first next (entity_number r.entity) t → DoesCommand scene around (action id place (lets r declared (Some t))) first next old new
  let_done r declared t d =
      as_command scene around (action id place (lets r declared (Some t))) first (term_accesses t) next old new _ _ _ d (add-zero (term_accesses t)) tt
      (λ e same. sets_one e (entity_number r.entity) same) (λ x reads e p. p) (λ x e. refl)

  pub assign_done : (r : Ref) (t : plain.Term) → AssignsAll scene around old new first next (entity_number r.entity) t → DoesCommand scene around (action id place (assigns r t)) first next old new
  assign_done r t d =
      as_command scene around (action id place (assigns r t)) first (term_accesses t) next old new _ _ _ d (add-zero (term_accesses t)) tt
      (λ e same. sets_one e (entity_number r.entity) same) (λ x reads e p. p) (λ x e. refl)

  pub reduce_done : (r : Ref) (op : Op) (t : plain.Term) → ReducesAll scene around old new first next r op t → DoesCommand scene around (action id place (reduces r op t)) first next old new
  reduce_done r op t d =
      as_command scene around (action id place (reduces r op t)) first (term_accesses t) next old new _ _ _ d (add-zero (term_accesses t)) tt
      (λ e same. sets_one e (entity_number r.entity) same) (λ x reads e p. p) (λ x e. refl)

  store_runs : (target t : plain.Term) (x : BlockStep) (e : Effect) → at_each (store_run scene x first target t) (paths_on x around) e ≡ command_run (begun_of x) (paths_on x around) (store_to (known_in scene) (first + term_accesses t) target (core_term (known_in scene) first t)) e
  store_runs (plain.term at k (plain.accessed r ts)) t x e = refl
  store_runs (plain.term at k (plain.in_bank r bank at_bank row)) t x e = refl
  store_runs (plain.term at k (plain.number negative z)) t x e = each_same _ (tested_at (begun_of x) (truth_literal false)) (λ p f. no_events f) (paths_on x around) e
  store_runs (plain.term at k (plain.truth_value b)) t x e = each_same _ (tested_at (begun_of x) (truth_literal false)) (λ p f. no_events f) (paths_on x around) e
  store_runs (plain.term at k (plain.named r)) t x e = each_same _ (tested_at (begun_of x) (truth_literal false)) (λ p f. no_events f) (paths_on x around) e
  store_runs (plain.term at k (plain.applied op left right)) t x e = each_same _ (tested_at (begun_of x) (truth_literal false)) (λ p f. no_events f) (paths_on x around) e
  store_runs (plain.term at k (plain.converted inner to)) t x e = each_same _ (tested_at (begun_of x) (truth_literal false)) (λ p f. no_events f) (paths_on x around) e

  pub store_done : (target t : plain.Term) → StoresAll scene around old new first next target t → DoesCommand scene around (action id place (stores target t)) first next old new
  store_done target t d =
      as_command scene around (action id place (stores target t)) first (term_accesses t + term_accesses target) next old new _ _ _ d (add-zero (term_accesses t + term_accesses target)) tt
      (λ e none. absurd none) (λ x reads e p. p) (λ x e. store_runs target t x e)

-- a `let` without a right side
pub clear_done : (scene : Scene) (around : Around) (id : ℕ) (place : Place) (first : ℕ) (old new : Building) (r : Ref) (declared : Option Kind) → ClearsAll scene around old new (entity_number r.entity)
    → DoesCommand scene around (action id place (lets r declared None)) first first old new
clear_done scene around id place first old new r declared d = record {
  next_is = λ some few. omega arith;
  arms = no_arms;
  shaped = tt;
  so = λ some few. let k = d.so (omega arith) in record {
    extends = k.extends;
    changes = λ ready. changes_wider scene around (λ e. e ≡ entity_number r.entity) (Sets scene (action id place (lets r declared None))) old.values new.values (λ e same. sets_one e (entity_number r.entity) same) (k.changes ready);
    so = λ x reads e fits begun p stands.
        subst (λ (f : Effect). StandsBeside scene around x reads new f)
        (lanes_are x around (assigned_at (begun_of x) (depth_in scene (entity_number r.entity)) (entity_number r.entity) (literal (held_at scene.held.now (entity_number r.entity)).kind false 0)) (paths_counted around) e
        ∙ ap (λ (k : Kind). at_each (assigned_at (begun_of x) (depth_in scene (entity_number r.entity)) (entity_number r.entity) (literal k false 0)) (paths_on x around) e) (sym p.1))
        (k.so x reads e fits begun (λ number l. p.0) stands);
  };
}

-- A view that keeps its offsets.
module _ (scene : Scene) (around : Around) (id : ℕ) (place : Place) (first next : ℕ) (old new : Building) (name parent : Ref) (form : ViewPlan) (h : Hidden) (hs : List Hidden) (found : hidden_in (way_of (known_in scene) name) ≡ h ∷ hs) where
  abbrev View : Action
  View = action id place (views name parent form)

  kept_runs : (ts : CoreTerms) (x : BlockStep) (e : Effect) → at_each (kept_at (begun_of x) h.depth h.entity ts) (paths_on x around) e ≡ commands_run (begun_of x) (paths_on x around) (kept_by (h ∷ hs) ts no_commands) e
  kept_runs no_terms x e = each_same (kept_at (begun_of x) h.depth h.entity no_terms) (tested_at (begun_of x) (truth_literal false)) (λ p f. refl) (paths_on x around) e ∙ tested_still x (paths_on x around) e
  kept_runs (term_and t ts) x e = refl

  kept_sets_them : (os : List plain.Term) (e : ℕ) → IsVariableAmong h.entity (length os) e → kept_sets e (h ∷ hs) os ≡ true
  kept_sets_them [] e among = absurd (never among.0 among.1)
    where
      never : h.entity ≤ e → e < h.entity + 0 → ⊥
      never from below = omega (arith, from, below)
  kept_sets_them (t ∷ os) e among = inside among.0 among.1
    where
      inside : h.entity ≤ e → e < h.entity + suc (length os) → (nat_le h.entity e && nat_lt e (h.entity + suc (length os))) ≡ true
      inside from below = grind (arith, nat_tests, from, below)

  view_sets : (e : ℕ) → IsVariableAmong h.entity (length (offsets_of form)) e → Sets scene (action id place (views name parent form)) e
  view_sets e among = action_any scene e 0 (action id place (views name parent form)) ∙ (ap (λ hidden. kept_sets e hidden (offsets_of form)) found ∙ kept_sets_them (offsets_of form) e among)

  pub view_done : KeepsAtAllPaths scene around old new first next h (offsets_of form) → DoesCommand scene around (action id place (views name parent form)) first next old new
  view_done d =
      as_command scene around (action id place (views name parent form)) first (plan_accesses form) next old new _ _ _ d (add-zero (plan_accesses form)) tt (λ e among. view_sets e among)
      (λ x reads e p. subst (λ (hidden : List Hidden). FollowsView scene x reads around first hidden (offsets_of form) e) found p)
      (λ x e. kept_runs (core_terms (known_in scene) first (terms (offsets_of form))) x e
      ∙ ap (λ hidden. commands_run (begun_of x) (paths_on x around) (kept_by hidden (core_terms (known_in scene) first (terms (offsets_of form))) no_commands) e) (sym found))

-- a view without offsets on its way does nothing
view_still : (scene : Scene) (name parent : Ref) (form : ViewPlan) (id : ℕ) (place : Place) → hidden_in (way_of (known_in scene) name) ≡ [] → (n : ℕ) → core_action (known_in scene) n (action id place (views name parent form)) no_commands ≡ no_commands
view_still scene name parent form id place none n = ap (λ hidden. kept_by hidden (core_terms (known_in scene) n (terms (offsets_of form))) no_commands) none ∙ nothing (core_terms (known_in scene) n (terms (offsets_of form)))
  where
    nothing : (ts : CoreTerms) → kept_by [] ts no_commands ≡ no_commands
    nothing no_terms = refl
    nothing (term_and t ts) = refl

-- a command that does nothing
pub nothing_done : (scene : Scene) (around : Around) (a : Action) (first next : ℕ) (b : Building) → IsNextAccess first (accesses_of a) next → FitArms a no_arms → ((n : ℕ) → core_action (known_in scene) n a no_commands ≡ no_commands)
    → DoesCommand scene around a first next b b
nothing_done scene around a first next b next_is shaped none = record {
  next_is = λ some few. next_is few;
  arms = no_arms;
  shaped = shaped;
  so = λ some few. record {
    extends = extends_self b.draft;
    changes = λ ready. changes_none scene around (Sets scene a) b.values;
    so = λ x reads e fits begun p stands. subst (λ (f : Effect). StandsBeside scene around x reads b f) (sym (ap (λ (cs : CoreCommands). commands_run (begun_of x) (paths_on x around) cs e) (none first))) stands;
  };
}

-- a view, whatever variables its way has
pub view_command : (scene : Scene) (around : Around) (id : ℕ) (place : Place) (first idle next : ℕ) (old new : Building) (name parent : Ref) (form : ViewPlan) → (first + (plan_accesses form + 0) < 2 ^ 32 → idle ≡ first + (plan_accesses form + 0))
    → (hs : List Hidden) → hidden_in (way_of (known_in scene) name) ≡ hs → KeepsView scene around old new first idle next hs (offsets_of form) → DoesCommand scene around (action id place (views name parent form)) first next old new
view_command scene around id place first idle next old new name parent form counted [] found d =
    subst (λ (b : Building). DoesCommand scene around (action id place (views name parent form)) first next old b) (sym d.0)
    (nothing_done scene around (action id place (views name parent form)) first next old (λ few. d.1 ∙ counted few) tt (view_still scene name parent form id place found))
view_command scene around id place first idle next old new name parent form counted (h ∷ hs) found d = view_done scene around id place first next old new name parent form h hs found d

-- Parts of a block.

or_either : (a b : Bool) → (a ≡ true) ⊎ (b ≡ true) → (a || b) ≡ true
or_either true b h = refl
or_either false b (inl e) = absurd (cc)
or_either false b (inr e) = e

or_same : (a b c : Bool) → (a || (b || c)) ≡ ((a || b) || c)
or_same true b c = refl
or_same false b c = refl

module _ (scene : Scene) (around : Around) where
  pub parts_none : (first : ℕ) (b : Building) → DoesGroups scene around no_groups first first b b
  parts_none first b = record {
    next_is = λ some few. sym (add-zero first);
    arms = no_arms;
    shaped = tt;
    so = λ some few. record {
      extends = extends_self b.draft;
      changes = λ ready. changes_none scene around (SetsGroups scene no_groups) b.values;
      so = λ x reads e fits begun p stands. stands;
    };
  }

  -- a part is at its end
  pub parts_next : (gs : Groups) (first next : ℕ) (old new : Building) → DoesGroups scene around gs first next old new → DoesGroups scene around (group_then no_actions gs) first next old new
  parts_next gs first next old new d = record {
    next_is = λ some few. d.next_is some (fewer few) ∙ ap (λ n. first + n) (sym (zero-add (groups_accesses gs)));
    arms = arms_then no_arms d.arms;
    shaped = (tt, d.shaped);
    so = λ some few. let k = d.so some (fewer few) in record {
      extends = k.extends;
      changes = λ ready. changes_wider scene around (SetsGroups scene gs) (SetsGroups scene (group_then no_actions gs)) old.values new.values
          (λ e sets. groups_any scene e 0 (group_then no_actions gs) ∙ (sym (groups_any scene e 0 gs) ∙ sets)) (k.changes ready);
      so = λ x reads e fits begun p stands.
          subst (λ (n : ℕ). StandsBeside scene around x reads new (groups_effect scene x (paths_on x around) n gs e)) (sym (add-zero first))
          (k.so x reads e fits begun (subst (λ (n : ℕ). FollowsGroups scene x reads around d.arms n gs e) (add-zero first) p.1) stands);
    };
  }
    where
      fewer : first + (0 + groups_accesses gs) < 2 ^ 32 → first + groups_accesses gs < 2 ^ 32
      fewer few = omega (arith, few)

  -- a command, and the rest of its part and the parts behind it
  module _ (a : Action) (cs : Actions) (gs : Groups) (now n1 next : ℕ) (old mid new : Building) (c : DoesCommand scene around a now n1 old mid) where
    abbrev All : Groups
    All = group_then (action_then a cs) gs

    abbrev Few : Type 0
    Few = now + (accesses_of a + part_accesses cs + groups_accesses gs) < 2 ^ 32

    few_one : Few → now + accesses_of a < 2 ^ 32
    few_one few = omega (arith, few)

    here : 0 < paths_counted around → Few → n1 ≡ now + accesses_of a
    here some few = c.next_is some (few_one few)

    few_rest : 0 < paths_counted around → Few → n1 + (part_accesses cs + groups_accesses gs) < 2 ^ 32
    few_rest some few = let h = here some few in omega (arith, few, h)

    by : (next_is : 0 < paths_counted around → IsNextAccess n1 (part_accesses cs + groups_accesses gs) next) (arms : Arms) → FitGroups (group_then cs gs) arms
        → (0 < paths_counted around → n1 + (part_accesses cs + groups_accesses gs) < 2 ^ 32
        → Does scene around (SetsGroups scene (group_then cs gs)) (λ x reads e. FollowsGroups scene x reads around arms n1 (group_then cs gs) e) (λ x e. groups_effect scene x (paths_on x around) n1 (group_then cs gs) e) mid new)
        → DoesGroups scene around All now next old new
    by next_is no_arms shaped so = absurd shaped
    by next_is (arms_of one two inside behind) shaped so = absurd shaped
    by next_is (arms_then p g) shaped so = record {
      next_is = λ some few. let h = here some few in let n = next_is some (few_rest some few) in omega (arith, h, n);
      arms = arms_then (arms_then c.arms p) g;
      shaped = ((c.shaped, shaped.0), shaped.1);
      so = λ some few. let h = c.so some (few_one few) in let k = so some (few_rest some few) in record {
        extends = extends_again old.draft mid.draft new.draft h.extends k.extends;
        changes = λ ready.
            let first = h.changes ready in
            changes_again scene around (SetsGroups scene All) old.values mid.values new.values
            (changes_wider scene around (Sets scene a) (SetsGroups scene All) old.values mid.values (λ e sets. sets_first e sets) first)
            (changes_wider scene around (SetsGroups scene (group_then cs gs)) (SetsGroups scene All) mid.values new.values (λ e sets. sets_rest e sets) (k.changes (ready_after scene around (Sets scene a) old.values mid.values first ready)));
        so = λ x reads e fits begun follows stands.
            let middle = h.so x reads e (fits_before mid.draft new.draft x k.extends fits) begun follows.0.0 stands in
            subst (λ (f : Effect). StandsBeside scene around x reads new f) (all_runs x e (here some few))
            (k.so x reads (effect_of scene x (paths_on x around) now a e) fits (begun_later old.draft mid.draft x h.extends begun) (rest_follows x reads e (here some few) follows) middle);
      };
    }
      where
        sets_first : (e : ℕ) → Sets scene a e → SetsGroups scene All e
        sets_first e sets =
            groups_any scene e 0 All
            ∙ or_either (action_sets (known_in scene) e a || part_sets (known_in scene) e cs) (groups_set (known_in scene) e gs) (inl (or_either (action_sets (known_in scene) e a) (part_sets (known_in scene) e cs) (inl (sym (action_any scene e 0 a) ∙ sets))))

        sets_rest : (e : ℕ) → SetsGroups scene (group_then cs gs) e → SetsGroups scene All e
        sets_rest e sets =
            groups_any scene e 0 All
            ∙ (sym (or_same (action_sets (known_in scene) e a) (part_sets (known_in scene) e cs) (groups_set (known_in scene) e gs))
            ∙ or_either (action_sets (known_in scene) e a) (part_sets (known_in scene) e cs || groups_set (known_in scene) e gs) (inr (sym (groups_any scene e 0 (group_then cs gs)) ∙ sets)))

        rest_follows : (x : BlockStep) (reads : StepReads) (e : Effect) → n1 ≡ now + accesses_of a → FollowsGroups scene x reads around (arms_then (arms_then c.arms p) g) now All e
            → FollowsGroups scene x reads around (arms_then p g) n1 (group_then cs gs) (effect_of scene x (paths_on x around) now a e)
        rest_follows x reads e is follows =
            subst (λ (n : ℕ). FollowsGroups scene x reads around (arms_then p g) n (group_then cs gs) (effect_of scene x (paths_on x around) now a e)) (sym is) (
              follows.0.1,
              subst (λ (f : Effect). FollowsGroups scene x reads around g (now + accesses_of a + part_accesses cs) gs f)
                  (action_runs (known_in scene) (begun_of x) (paths_on x around) now a (core_part (known_in scene) (now + accesses_of a) cs no_commands) e)
                  (subst (λ (n : ℕ). FollowsGroups scene x reads around g n gs (part_effect scene x (paths_on x around) now (action_then a cs) e)) (sym (add_assoc now (accesses_of a) (part_accesses cs))) follows.1),
            )

        all_runs : (x : BlockStep) (e : Effect) → n1 ≡ now + accesses_of a → groups_effect scene x (paths_on x around) n1 (group_then cs gs) (effect_of scene x (paths_on x around) now a e) ≡ groups_effect scene x (paths_on x around) now All e
        all_runs x e is =
            ap (λ n. groups_effect scene x (paths_on x around) n (group_then cs gs) (effect_of scene x (paths_on x around) now a e)) is
            ∙ (ap (λ n. commands_run (begun_of x) (paths_on x around) (core_part (known_in scene) (now + accesses_of a) cs (core_groups (known_in scene) n gs no_commands)) (effect_of scene x (paths_on x around) now a e))
            (add_assoc now (accesses_of a) (part_accesses cs))
            ∙ sym (action_runs (known_in scene) (begun_of x) (paths_on x around) now a
            (core_part (known_in scene) (now + accesses_of a) cs (core_groups (known_in scene) (now + (accesses_of a + part_accesses cs)) gs no_commands)) e))

    pub parts_more : DoesGroups scene around (group_then cs gs) n1 next mid new → DoesGroups scene around All now next old new
    parts_more d = by d.next_is d.arms d.shaped d.so

  pub block_done : (id : ℕ) (place : Place) (gs : Groups) (first next : ℕ) (old new : Building) → DoesGroups scene around gs first next old new → DoesCommand scene around (action id place (blocks gs)) first next old new
  block_done id place gs first next old new d = record {
    next_is = λ some few. d.next_is some (fewer few) ∙ ap (λ n. first + n) (sym (zero-add (groups_accesses gs)));
    arms = d.arms;
    shaped = d.shaped;
    so = λ some few. d.so some (fewer few);
  }
    where
      fewer : first + (0 + groups_accesses gs) < 2 ^ 32 → first + groups_accesses gs < 2 ^ 32
      fewer few = omega (arith, few)
