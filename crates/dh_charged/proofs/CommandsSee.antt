-- What is put down for commands sees registers of their names alone, and gives values to what they assign to: by recursion
-- on what was put down.
use Rattle.std.proofs.Common.{◌≡◌, ◌⊎◌, inl, inr, ◌<◌, ◌≤◌, ◌+◌, ◌-◌, ◌^◌, ℕ, zero, suc, List, Some, None, ap, sym, ◌∙◌, subst, length, arith, refl}
use Rattle.std.specs.Prelude.{Bool as Truth, true, false, [], ◌∷◌, ◌++◌, drop, min, Option, slice_get}
use Rattle.std.specs.List.{AllByRecursion}
use Rattle.std.proofs.lemmas.List.{append-nil}
use Rattle.dh_value.specs.declared.kinds.Kind.{Kind}
use Rattle.dh_value.specs.declared.kinds.Kind.TheVariants as kind
use Rattle.dh_value.specs.declared.operators.Op.{Op}
use Rattle.dh_value.specs.declared.operators.Op.TheVariants.{Both}
use Rattle.dh_value.specs.Operations.{truth}
use Rattle.dh_tree.specs.declared.trees.counters.Counter.{Counter}
use Rattle.dh_tree.specs.declared.trees.expressions.Ref.{Ref}
use Rattle.dh_tree.specs.Indices.{form_of}
use Rattle.dh_tree.specs.PlainTrees.{Term, Action, action, ActionForm, lets, lets_memory, views, assigns, stores, reduces, calls, blocks, decides, repeats, counts, MaybeAction, no_action, one_action, Actions, no_actions, action_then, Groups, no_groups, group_then, ViewPlan}
use Rattle.dh_tree.specs.Seen.{terms}
use Rattle.dh_tree.specs.ViewOffsets.{offsets_of}
use Rattle.dh_meaning.specs.CoreOf.{entity_number, way_of}
use Rattle.dh_meaning.specs.Ways.{Hidden, hidden_in}
use Rattle.dh_code.specs.declared.places.VariableSlots.{VariableSlots}
use Rattle.dh_code.specs.Extended.{extension_of}
use Rattle.dh_tree.specs.Kinds.{same_kind}
use Rattle.dh_code.specs.Slots.{held_at}
use Rattle.dh_plan.specs.declared.operations.OperationForm.TheVariants.{Compute, Constant, Select}
use Rattle.dh_expressions.specs.declared.accesses.Accesses.{Accesses}
use Rattle.dh_expressions.specs.declared.drafts.Draft.{Draft}
use Rattle.dh_expressions.specs.declared.paths.Level.{Level}
use Rattle.dh_expressions.specs.declared.scenes.Around.{Around}
use Rattle.dh_expressions.specs.declared.scenes.Lane.{Lane}
use Rattle.dh_expressions.specs.declared.scenes.Scene.{Scene}
use Rattle.dh_expressions.specs.Evaluated.{counter_of, hidden_register, known_in}
use Rattle.dh_expressions.specs.Levels.{rank_number}
use Rattle.dh_expressions.specs.MadeTerms.{MadeTerms}
use Rattle.dh_expressions.specs.Shown.{guard_of, kind_written, register_at}
use Rattle.dh_formed.specs.Counted.{register_seen}
use Rattle.dh_commands.specs.declared.assignments.Change.{Change}
use Rattle.dh_commands.specs.declared.assignments.Values.{Values}
use Rattle.dh_commands.specs.declared.buildings.Building.{Building}
use Rattle.dh_commands.specs.declared.choices.Choice.{Choice}
use Rattle.dh_commands.specs.declared.choices.Left.{Left}
use Rattle.dh_commands.specs.Joined.{IsLeft}
use Rattle.dh_commands.specs.LanesRun.{lane_of, paths_counted}
use Rattle.dh_commands.specs.MadeCommands.{Commanding, FoldedWith, MadeActionForm, MadeActions, MadeArm, MadeArmGuard, MadeArmGuards, MadeAssigned, MadeBehind, MadeChoiceBy, MadeChoices, MadeCleared, MadeCommand, MadeGroups, MadeGuard, MadeHolds, MadeIf, MadeJoined, MadeKept, MadeLanes, MadeOldOperand, MadeOperand, MadeOther, MadeOutcome, MadeReduced, MadeStored, MadeTests, MadeView}
use Rattle.dh_commands.specs.Setting.{SetsFrom}
use Rattle.dh_commands.specs.ShownVariables.{register_in}
use Rattle.dh_commands.specs.Undone.{AreReady, Logs, first_left, left_at, lefts_of, undone}
use Rattle.dh_commands.proofs.ArmsLeft.{AreSame, same_ready}
use Rattle.dh_commands.proofs.ChangesBack.{logs_again, logs_none, logs_one}
use Rattle.dh_commands.proofs.JoinedArms.{first_has}
use Rattle.dh_laid.specs.LaidCommands.{AreLogged}
use Rattle.dh_laid.specs.LaidQuiet.{BlockStandsIn}
use Rattle.dh_laid.proofs.ValuesLogged.{IsBack, arm_back, arm_long, logged_ready, stands_arm, tests_same}
use Rattle.dh_charged.specs.SeenRegisters.{AddsSeeing, GoalsFrom, NamesAction, NamesActions, NamesAim, NamesCommand, NamesGroups, NamesOther, NamesTerm, NamesTerms, NamesView, SeesAndGives, TellsRegisters}
use Rattle.dh_charged.proofs.TermsSee.{aim_sees, converted_sees, held_sees, number_sees, seeing_again, seeing_none, seeing_pushed, shown_sees, storing_sees, term_sees, terms_sees}

-- Registers of an arm are those of what stands round it.

seen_same : (c : Option Counter) (held : VariableSlots) (a b : Around) (n : ℕ) → a.levels.now ≡ b.levels.now → register_seen c held (lane_of a n) ≡ register_seen c held (lane_of b n)
seen_same None held a b n e = ap (λ (levels : List Level). min (held.first + rank_number levels held.depth n) (2 ^ 64 - 1)) e
seen_same (Some c) held a b n e = refl

in_same : (scene : Scene) (a b : Around) (entity n : ℕ) → a.levels.now ≡ b.levels.now → register_in scene a entity n ≡ register_in scene b entity n
in_same scene a b entity n e = ap (λ (levels : List Level). min ((held_at scene.held.now entity).first + rank_number levels (held_at scene.held.now entity).depth n) (2 ^ 64 - 1)) e

-- What arms leave.

all_more : (P : Left → Type 0) (xs : List Left) (l : Left) → AllByRecursion P xs → P l → AllByRecursion P (xs ++ l ∷ [])
all_more P [] l a p = (p, tt)
all_more P (x ∷ xs) l a p = (a.0, all_more P xs l a.1 p)

drop_front : (xs ys : List Change) → drop (length xs) (xs ++ ys) ≡ ys
drop_front [] ys = refl
drop_front (x ∷ xs) ys = drop_front xs ys

lefts_changed : (P : ℕ → Type 0) (cs : List Change) (current : List (Option ℕ)) → AllByRecursion (λ (c : Change). P c.register) cs → AllByRecursion (λ (l : Left). P l.register) (lefts_of cs current)
lefts_changed P [] current all = tt
lefts_changed P (c ∷ cs) current all = all_more (λ (l : Left). P l.register) (lefts_of cs current) (left_at c (undone cs current)) (lefts_changed P cs current all.1) all.0

pub logged : (P : Change → Type 0) (old new : Values) → Logs P old new → AreLogged old new
logged P old new h = record { more = h.more; log = h.log; back = h.back; long = h.long; marks = h.marks; each = any h.more; room = h.room; given = h.given }
  where
    any : (cs : List Change) → AllByRecursion (λ (c : Change). Unit {0}) cs
    any [] = tt
    any (c ∷ cs) = (tt, any cs)

logs_equal : (P : Change → Type 0) (old new : Values) → new ≡ old → Logs P old new
logs_equal P old new e = subst (λ (v : Values). Logs P old v) (sym e) (logs_none P old)

logs_same : (P : Change → Type 0) (old new : Values) → AreSame old new → Logs P old new
logs_same P old new s = record {
  more = [];
  log = s.log ∙ sym (append-nil old.log.items);
  back = s.current;
  long = ap (λ (os : List (Option ℕ)). length os) s.current;
  marks = s.marks;
  each = tt;
  room = tt;
  given = tt;
}

-- Offsets have as many values.
offsets_long : (scene : Scene) (lane : Lane) (current : List (Option ℕ)) (os : List Term) (old new : Draft) (before after : Accesses) (n next : ℕ) (vs : List ℕ) → MadeTerms scene lane current (terms os) old new before after n next vs
    → length vs ≡ length os
offsets_long scene lane current [] old new before after n next vs m = ap (λ (l : List ℕ). length l) m.none
offsets_long scene lane current (t ∷ os) old new before after n next vs m =
    ap (λ (l : List ℕ). length l) m.values_are ∙ ap suc (offsets_long scene lane current os m.middle new m.between after m.own next m.more m.rest)

module _ (scene : Scene) (Sees Target : ℕ → Type 0) (Named : Ref → Type 0) (Kept : Hidden → Type 0) (Goal : ℕ → Type 0) where
  abbrev Tells : Around → Type 0
  Tells around = TellsRegisters scene around Sees Target Named Kept Goal

  abbrev IsTarget : Change → Type 0
  IsTarget c = Target c.register

  abbrev Leaves : List Left → Type 0
  Leaves lefts = AllByRecursion (λ (l : Left). Target l.register) lefts

  abbrev Does : (old new : Building) → Type 0
  Does old new = SeesAndGives Sees Target old new

  pub does_none : (old new : Building) → new ≡ old → Does old new
  does_none old new e = record { sees = seeing_none Sees old.draft new.draft (ap (λ (b : Building). b.draft) e); logs = logs_equal IsTarget old.values new.values (ap (λ (b : Building). b.values) e) }

  pub does_again : (a b c : Building) → Does a b → Does b c → Does a c
  does_again a b c h k = record { sees = seeing_again Sees a.draft b.draft c.draft h.sees k.sees; logs = logs_again IsTarget a.values b.values c.values h.logs k.logs }

  -- readiness goes on behind what was done
  does_then : (a b c : Building) → (AreReady a.values → Does a b) → (AreReady b.values → Does b c) → AreReady a.values → Does a c
  does_then a b c h k ready =
      let one = h ready in
      does_again a b c one (k (logged_ready a.values b.values (logged IsTarget a.values b.values one.logs) ready))

  -- One path.

  module _ (around : Around) (stands : BlockStandsIn scene around) (tells : Tells around) (n : ℕ) (within : n < paths_counted around) where
    lane_names : (r : Ref) → Named r → Sees (register_seen (counter_of scene (entity_number r.entity)) (held_at scene.held.now (entity_number r.entity)) (lane_of around n))
    lane_names r h = tells.names r n h within

    lane_keeps : (h : Hidden) → Kept h → Sees (hidden_register scene (lane_of around n) h)
    lane_keeps h k = tells.kept h n k within

    assigned_sees : (first entity : ℕ) (t : Term) (old new : Building) (next : ℕ) → NamesTerm (known_in scene) Named Kept t → Goal entity → MadeAssigned scene (lane_of around n) first entity t old new next → Does old new
    assigned_sees first entity t old new next h g m = record {
      sees =
          seeing_again Sees old.draft m.middle new.draft
          (term_sees Sees scene (lane_of around n) stands Named lane_names Kept lane_keeps old.values.current.items t old.draft m.middle old.accesses new.accesses first next m.value h m.term)
          (held_sees Sees t (held_at scene.held.now entity).kind m.value m.middle new.draft m.held m.holds);
      logs = logs_one IsTarget old.values new.values (register_in scene around entity n) n m.held (tells.goals entity n g within) m.sets;
    }

    cleared_sees : (entity : ℕ) (old new : Building) → Goal entity → MadeCleared scene (lane_of around n) entity old new → Does old new
    cleared_sees entity old new g m = record {
      sees = number_sees Sees (held_at scene.held.now entity).kind false 0 old.draft new.draft m.value m.number;
      logs = logs_one IsTarget old.values new.values (register_in scene around entity n) n m.value (tells.goals entity n g within) m.sets;
    }

    old_operand_sees : (own to : Kind) (value : ℕ) (old new : Draft) (v : ℕ) → MadeOldOperand own to value old new v → AddsSeeing Sees old new
    old_operand_sees own kind.Bool value old new v m = seeing_none Sees old new m.0
    old_operand_sees own (kind.Unsigned w) value old new v m = converted_sees Sees (same_kind own (kind.Unsigned w)) (kind.Unsigned w) value old new v m
    old_operand_sees own (kind.Signed w) value old new v m = converted_sees Sees (same_kind own (kind.Signed w)) (kind.Signed w) value old new v m

    operand_sees : (t : Term) (to : Kind) (value : ℕ) (old new : Draft) (v : ℕ) → MadeOperand t to value old new v → AddsSeeing Sees old new
    operand_sees t kind.Bool value old new v m = seeing_none Sees old new m.0
    operand_sees t (kind.Unsigned w) value old new v m = held_sees Sees t (kind.Unsigned w) value old new v m
    operand_sees t (kind.Signed w) value old new v m = held_sees Sees t (kind.Signed w) value old new v m

    folded_sees : (current : List (Option ℕ)) (held : VariableSlots) (op : Op) (t : Term) (value : ℕ) (old new : Draft) (v : ℕ) → Sees (register_at held (lane_of around n)) → FoldedWith (lane_of around n) current held op t value old new v
        → AddsSeeing Sees old new
    folded_sees current held op t value old new v sees m =
        seeing_again Sees old m.first new (shown_sees Sees current (register_at held (lane_of around n)) sees old m.first m.before m.shown)
        (seeing_again Sees m.first m.second new (old_operand_sees held.kind (extension_of op held.kind (kind_written t)) m.before m.first m.second m.left m.left_made)
        (seeing_again Sees m.second m.third new (operand_sees t (extension_of op held.kind (kind_written t)) value m.second m.third m.right m.right_made)
        (seeing_again Sees m.third m.fourth new (seeing_pushed Sees m.third m.fourth m.all None (Compute op m.left m.right) m.pushes tt)
        (converted_sees Sees (same_kind held.kind (extension_of op held.kind (kind_written t))) held.kind m.all m.fourth new v m.own))))

    reduced_sees : (first entity : ℕ) (op : Op) (t : Term) (old new : Building) (next : ℕ) → NamesTerm (known_in scene) Named Kept t → Goal entity → MadeReduced scene (lane_of around n) first entity op t old new next → Does old new
    reduced_sees first entity op t old new next h g m = record {
      sees =
          seeing_again Sees old.draft m.middle new.draft
          (term_sees Sees scene (lane_of around n) stands Named lane_names Kept lane_keeps old.values.current.items t old.draft m.middle old.accesses new.accesses first next m.value h m.term)
          (folded_sees old.values.current.items (held_at scene.held.now entity) op t m.value m.middle new.draft m.folded (tells.seen (register_in scene around entity n) (tells.goals entity n g within)) m.folds);
      logs = logs_one IsTarget old.values new.values (register_in scene around entity n) n m.folded (tells.goals entity n g within) m.sets;
    }

    stored_sees : (first : ℕ) (target t : Term) (old new : Building) (next : ℕ) → NamesTerm (known_in scene) Named Kept t → NamesAim (known_in scene) Named Kept (form_of target) → MadeStored scene (lane_of around n) first target t old new next → Does old new
    stored_sees first target t old new next h g m = record {
      sees =
          seeing_again Sees old.draft m.middle new.draft
          (term_sees Sees scene (lane_of around n) stands Named lane_names Kept lane_keeps old.values.current.items t old.draft m.middle old.accesses m.between first m.own m.value h m.term)
          (seeing_again Sees m.middle m.end new.draft
          (aim_sees Sees scene (lane_of around n) stands Named lane_names Kept lane_keeps old.values.current.items (form_of target) m.middle m.end m.between m.behind m.own m.aimed g m.aims)
          (storing_sees Sees scene (lane_of around n) stands target t m.value m.aimed m.end m.behind new next m.stores));
      logs = logs_equal IsTarget old.values new.values m.same;
    }

    -- what a view keeps
    holds_see : (entity : ℕ) (offsets : List Term) (values : List ℕ) (old new : Draft) (held : List ℕ) → MadeHolds scene entity offsets values old new held → AddsSeeing Sees old new
    holds_see entity [] values old new held m = seeing_none Sees old new m.0
    holds_see entity (t ∷ ts) [] old new held m = seeing_none Sees old new m.0
    holds_see entity (t ∷ ts) (v ∷ vs) old new held (d, (h, (more, (one, (rest, are))))) =
        seeing_again Sees old d new (held_sees Sees t (held_at scene.held.now entity).kind v old d h one) (holds_see (suc entity) ts vs d new more rest)

    sets_log : (entity : ℕ) (offsets : List Term) (values : List ℕ) (d e : Draft) (held : List ℕ) → length values ≡ length offsets → MadeHolds scene entity offsets values d e held → GoalsFrom (known_in scene) Named Kept Goal entity offsets
        → (old new : Values) → SetsFrom scene (lane_of around n) old new entity held → Logs IsTarget old new
    sets_log entity [] [] d e held long m g old new s = logs_equal IsTarget old new (subst (λ (hs : List ℕ). SetsFrom scene (lane_of around n) old new entity hs) m.1 s)
    sets_log entity [] (v ∷ vs) d e held long m g old new s = absurd (some (length vs) long)
      where
        some : (i : ℕ) → suc i ≡ 0 → ⊥
        some i l = omega (arith, l)
    sets_log entity (t ∷ ts) [] d e held long m g old new s = absurd (some (length ts) long)
      where
        some : (i : ℕ) → 0 ≡ suc i → ⊥
        some i l = omega (arith, l)
    sets_log entity (t ∷ ts) (v ∷ vs) d e held long (b, (h, (more, (one, (rest, are))))) g old new s =
        by (subst (λ (hs : List ℕ). SetsFrom scene (lane_of around n) old new entity hs) are s) (λ middle behind. sets_log (suc entity) ts vs b e more (less (length vs) (length ts) long) rest g.1 middle new behind)
      where
        by : SetsFrom scene (lane_of around n) old new entity (h ∷ more) → ((middle : Values) → SetsFrom scene (lane_of around n) middle new (suc entity) more → Logs IsTarget middle new) → Logs IsTarget old new
        by (middle, (set, behind)) logs =
            logs_again IsTarget old middle new (logs_one IsTarget old middle (register_in scene around entity n) n h (tells.goals entity n g.0 within) set) (logs middle behind)

        less : (i j : ℕ) → suc i ≡ suc j → i ≡ j
        less i j l = omega (arith, l)

    kept_sees : (first entity : ℕ) (offsets : List Term) (old new : Building) (next : ℕ) → NamesTerms (known_in scene) Named Kept (terms offsets) → GoalsFrom (known_in scene) Named Kept Goal entity offsets
        → MadeKept scene (lane_of around n) first entity offsets old new next → Does old new
    kept_sees first entity offsets old new next h g m = record {
      sees =
          seeing_again Sees old.draft m.middle new.draft
          (terms_sees Sees scene (lane_of around n) stands Named lane_names Kept lane_keeps old.values.current.items (terms offsets) old.draft m.middle old.accesses new.accesses first next m.values h m.offsets_made)
          (holds_see entity offsets m.values m.middle new.draft m.held m.holds);
      logs = sets_log entity offsets m.values m.middle new.draft m.held (offsets_long scene (lane_of around n) old.values.current.items offsets old.draft m.middle old.accesses new.accesses first next m.values m.offsets_made) m.holds g old.values new.values m.sets;
    }

  -- All paths.

  lanes_see : (One : ℕ → (b d : Building) → ℕ → Type 0) (paths : ℕ) → ((n : ℕ) (b d : Building) (k : ℕ) → n < paths → One n b d k → Does b d)
      → (count first : ℕ) (old new : Building) (next : ℕ) → count ≤ paths → MadeLanes One count first old new next → Does old new
  lanes_see One paths each zero first old new next few m = does_none old new m.0
  lanes_see One paths each (suc n) first old new next few m =
      does_again old m.0 new (lanes_see One paths each n first old m.0 m.1.0 (omega (arith, few)) m.1.1.0) (each n m.0 new next (omega (arith, few)) m.1.1.1)

  all_paths : (count : ℕ) → count ≤ count
  all_paths count = omega arith

  tests_see : (around : Around) → BlockStandsIn scene around → Tells around → (first : ℕ) (t : Term) → NamesTerm (known_in scene) Named Kept t → (count : ℕ) (old new : Building) (next : ℕ) (tests : List ℕ) → count ≤ paths_counted around
      → MadeTests scene around first t count old new next tests → AddsSeeing Sees old.draft new.draft
  tests_see around stands tells first t h zero old new next tests few m = seeing_none Sees old.draft new.draft (ap (λ (b : Building). b.draft) m.0)
  tests_see around stands tells first t h (suc n) old new next tests few m =
      seeing_again Sees old.draft (m.0).draft new.draft (tests_see around stands tells first t h n old m.0 m.1.0 m.1.1.0 (omega (arith, few)) m.1.1.1.1.0)
      (term_sees Sees scene (lane_of around n) stands Named (λ r k. tells.names r n k (omega (arith, few))) Kept (λ h k. tells.kept h n k (omega (arith, few))) (m.0).values.current.items t (m.0).draft new.draft (m.0).accesses new.accesses first next m.1.1.1.0 h (m.1.1.1.1.1.0).term)

  pub tests_do : (around : Around) → BlockStandsIn scene around → Tells around → (first : ℕ) (t : Term) → NamesTerm (known_in scene) Named Kept t → (old new : Building) (next : ℕ) (tests : List ℕ)
      → MadeTests scene around first t (paths_counted around) old new next tests → Does old new
  tests_do around stands tells first t h old new next tests m = record {
    sees = tests_see around stands tells first t h (paths_counted around) old new next tests (all_paths (paths_counted around)) m;
    logs = logs_equal IsTarget old.values new.values (tests_same scene around first t (paths_counted around) old new next tests m).0;
  }

  -- Arms.

  outcome_sees : (holds : Truth) (test : ℕ) (old new : Draft) (v : ℕ) → MadeOutcome holds test old new v → AddsSeeing Sees old new
  outcome_sees true test old new v m = seeing_none Sees old new m.0
  outcome_sees false test old new v m =
      seeing_again Sees old m.first new (seeing_pushed Sees old m.first m.no_value None (Constant (truth false)) m.no_made tt)
      (seeing_again Sees m.first m.second new (seeing_pushed Sees m.first m.second m.yes_value None (Constant (truth true)) m.yes_made tt)
      (seeing_pushed Sees m.second new v None (Select test m.no_value m.yes_value) m.pushes tt))

  guard_sees : (guard : Option ℕ) (t : ℕ) (old new : Draft) (v : ℕ) → MadeGuard guard t old new v → AddsSeeing Sees old new
  guard_sees None t old new v m = seeing_none Sees old new m.0
  guard_sees (Some g) t old new v m = seeing_pushed Sees old new v None (Compute Both g t) m tt

  guards_see : (holds : Truth) (guards : List (Option ℕ)) (tests : List ℕ) (count : ℕ) (old new : Draft) (arm : List (Option ℕ)) → MadeArmGuards holds guards tests count old new arm → AddsSeeing Sees old new
  guards_see holds guards tests zero old new arm m = seeing_none Sees old new m.0
  guards_see holds guards tests (suc n) old new arm m = seeing_again Sees old m.0 new (guards_see holds guards tests n old m.0 m.1.0 m.1.1.1.1.0) (one m.0 m.1.1.0 m.1.1.1.0 m.1.1.1.1.1.1.0)
    where
      one : (d : Draft) (test v : ℕ) → MadeArmGuard holds (guard_of guards n) test d new v → AddsSeeing Sees d new
      one d test v g = seeing_again Sees d g.middle new (outcome_sees holds test d g.middle g.outcome g.comes_out) (guard_sees (guard_of guards n) g.outcome g.middle new v g.joins)

  behind_sees : (current : List (Option ℕ)) (register : ℕ) (o : Option ℕ) → Sees register → (old new : Draft) (v : ℕ) → MadeBehind current register o old new v → AddsSeeing Sees old new
  behind_sees current register None sees old new v m = shown_sees Sees current register sees old new v m
  behind_sees current register (Some value) sees old new v m = seeing_none Sees old new m.0

  -- a choice, and the first choices
  pub record Chooses (old new : Draft) (before after : Values) : Type 0 where
    pub sees : AddsSeeing Sees old new
    pub logs : Logs IsTarget before after

  chooses_none : (old new : Draft) (before after : Values) → new ≡ old → after ≡ before → Chooses old new before after
  chooses_none old new before after e f = record { sees = seeing_none Sees old new e; logs = logs_equal IsTarget before after f }

  module _ (seen : (register : ℕ) → Target register → Sees register) where
    choice_sees : (o : Option ℕ) (c : Choice) (old new : Draft) (before after : Values) → Target c.register → MadeChoiceBy o c old new before after → Chooses old new before after
    choice_sees None c old new before after is m = chooses_none old new before after m.0 m.1
    choice_sees (Some test) c old new before after is m = record {
      sees =
          seeing_again Sees old m.first new (behind_sees before.current.items c.register c.chosen (seen c.register is) old m.first m.yes_value m.chosen)
          (seeing_again Sees m.first m.second new (behind_sees before.current.items c.register c.other (seen c.register is) m.first m.second m.no_value m.other)
          (seeing_pushed Sees m.second new m.value None (Select test m.yes_value m.no_value) m.pushes tt));
      logs = logs_one IsTarget before after c.register c.path m.value is m.sets;
    }

    choices_see : (tests : List ℕ) (choices : List Choice) (count : ℕ) (old new : Draft) (before after : Values) → ((k : ℕ) (c : Choice) → slice_get choices k ≡ Some c → Target c.register)
        → MadeChoices tests choices count old new before after → Chooses old new before after
    choices_see tests choices zero old new before after are m = chooses_none old new before after m.0 m.1
    choices_see tests choices (suc n) old new before after are m =
        let front = choices_see tests choices n old m.0 before m.1.0 are m.1.1.1.0 in
        let last = choice_sees (slice_get tests (m.1.1.0).path) m.1.1.0 m.0 new m.1.0 after (are n m.1.1.0 m.1.1.1.1.0) m.1.1.1.1.1 in
        record { sees = seeing_again Sees old m.0 new front.sees last.sees; logs = logs_again IsTarget before m.1.0 after front.logs last.logs }

    -- what is joined behind both arms
    joined_sees : (tests : List ℕ) (chosen other : List Left) (old new : Building) → MadeJoined tests chosen other old new → AreReady old.values → AllByRecursion (IsLeft old.values.current.items) chosen
        → AllByRecursion (IsLeft old.values.current.items) other → Leaves chosen → Leaves other → Does old new
    joined_sees tests chosen other old new m ready c1 c2 t1 t2 = record {
      sees = all.sees;
      logs = logs_again IsTarget old.values m.middle new.values (logs_same IsTarget old.values m.middle (record { current = ap (λ v. v.items) m.joins.current; log = ap (λ v. v.items) m.joins.log; marks = m.joins.marks ready c1 c2 })) all.logs;
    }
      where
        by : (r : ℕ) (l : Left) → (first_left chosen r ≡ Some l) ⊎ (first_left other r ≡ Some l) → Target r
        by r l (inl e) = let h = first_has (λ (k : Left). Target k.register) chosen l r t1 e in subst (λ (i : ℕ). Target i) h.1 h.0
        by r l (inr e) = let h = first_has (λ (k : Left). Target k.register) other l r t2 e in subst (λ (i : ℕ). Target i) h.1 h.0

        are : (k : ℕ) (c : Choice) → slice_get m.choices k ≡ Some c → Target c.register
        are k c at = let left = (m.joins.are ready c1 c2).left k c at in by c.register left.0 left.1.1

        all : Chooses old.draft new.draft m.middle new.values
        all = choices_see tests m.choices (length m.choices) old.draft new.draft m.middle new.values are m.choose

  -- an arm that is taken back
  pub record SeesArm (old new : Building) (lefts : List Left) : Type 0 where
    pub sees : AddsSeeing Sees old.draft new.draft
    pub same : AreSame old.values new.values
    pub left : AllByRecursion (IsLeft old.values.current.items) lefts
    pub targets : Leaves lefts

  tells_arm : (Inner : Commanding) (around : Around) (holds : Truth) (tests : List ℕ) (old new : Building) (first next : ℕ) (lefts : List Left) (m : MadeArm Inner around holds tests old new first next lefts)
      → Tells around → length tests ≡ paths_counted around → Tells m.arm
  tells_arm Inner around holds tests old new first next lefts m tells many = record {
    names = λ r n h less.
        subst (λ (i : ℕ). Sees i) (sym (seen_same (counter_of scene (entity_number r.entity)) (held_at scene.held.now (entity_number r.entity)) m.arm around n m.levels)) (tells.names r n h (subst (λ (i : ℕ). n < i) long less));
    kept = λ h n k less.
        subst (λ (i : ℕ). Sees i) (sym (ap (λ (levels : List Level). min ((held_at scene.held.now h.entity).first + rank_number levels (held_at scene.held.now h.entity).depth n) (2 ^ 64 - 1)) m.levels))
        (tells.kept h n k (subst (λ (i : ℕ). n < i) long less));
    goals = λ entity n g less. subst (λ (i : ℕ). Target i) (sym (in_same scene m.arm around entity n m.levels)) (tells.goals entity n g (subst (λ (i : ℕ). n < i) long less));
    seen = tells.seen;
  }
    where
      long : paths_counted m.arm ≡ paths_counted around
      long = arm_long holds around.guards.now tests (length tests) old.draft m.guarded m.arm.guards.now m.guards ∙ many

  arm_sees : (Inner : Commanding) (around : Around) (holds : Truth) (tests : List ℕ) (old new : Building) (first next : ℕ) (lefts : List Left) (m : MadeArm Inner around holds tests old new first next lefts)
      → AreReady old.values → (AreReady m.begin.values → Does m.begin m.inside) → SeesArm old new lefts
  arm_sees Inner around holds tests old new first next lefts m ready inner = record {
    sees =
        subst (λ (d : Draft). AddsSeeing Sees old.draft d) (sym m.draft)
        (seeing_again Sees old.draft m.guarded m.inside.draft (guards_see holds around.guards.now tests (length tests) old.draft m.guarded m.arm.guards.now m.guards)
        (subst (λ (d : Draft). AddsSeeing Sees d m.inside.draft) m.begin_draft done.sees));
    same = back.same;
    left = back.left;
    targets = subst (λ (ls : List Left). Leaves ls) (sym lefts_are) (lefts_changed Target logs.more m.inside.values.current.items logs.each);
  }
    where
      done : Does m.begin m.inside
      done = inner (subst (λ (v : Values). AreReady v) (sym m.begin_values) ready)

      logs : Logs IsTarget old.values m.inside.values
      logs = subst (λ (v : Values). Logs IsTarget v m.inside.values) m.begin_values done.logs

      back : IsBack old.values m.inside.values new.values lefts
      back = arm_back old.values m.inside.values new.values lefts (logged IsTarget old.values m.inside.values logs) m.ends

      lefts_are : lefts ≡ lefts_of logs.more m.inside.values.current.items
      lefts_are =
          m.ends.lefts_are back.room
          ∙ ap (λ (cs : List Change). lefts_of cs m.inside.values.current.items)
          (ap (λ (cs : List Change). drop (length old.values.log.items) cs) logs.log ∙ drop_front old.values.log.items logs.more)

  none_sees : (old new : Building) (lefts : List Left) → new ≡ old → lefts ≡ [] → SeesArm old new lefts
  none_sees old new lefts e none = record {
    sees = seeing_none Sees old.draft new.draft (ap (λ (b : Building). b.draft) e);
    same = subst (λ (b : Building). AreSame old.values b.values) (sym e) (record { current = refl; log = refl; marks = refl });
    left = subst (λ (ls : List Left). AllByRecursion (IsLeft old.values.current.items) ls) (sym none) tt;
    targets = subst (λ (ls : List Left). Leaves ls) (sym none) tt;
  }

  module _ (Chosen Other : Around → (tests : List ℕ) → (old new : Building) → (first next : ℕ) → (lefts : List Left) → Type 0) (t : Term) (around : Around) (old new : Building) (first next : ℕ) (m : MadeIf scene Chosen Other t around old new first next)
      (stands : BlockStandsIn scene around) (tells : Tells around) (named : NamesTerm (known_in scene) Named Kept t) (ready : AreReady old.values)
      (chosen : AreReady m.tested.values → SeesArm m.tested m.after_chosen m.chosen_left) (other : AreReady m.after_chosen.values → SeesArm m.after_chosen m.after_other m.other_left) where
    tested : Does old m.tested
    tested = tests_do around stands tells first t named old m.tested m.own m.tests m.test

    ready_tested : AreReady m.tested.values
    ready_tested = logged_ready old.values m.tested.values (logged IsTarget old.values m.tested.values tested.logs) ready

    one : SeesArm m.tested m.after_chosen m.chosen_left
    one = chosen ready_tested

    ready_chosen : AreReady m.after_chosen.values
    ready_chosen = same_ready m.tested.values m.after_chosen.values one.same ready_tested

    two : SeesArm m.after_chosen m.after_other m.other_left
    two = other ready_chosen

    ready_other : AreReady m.after_other.values
    ready_other = same_ready m.after_chosen.values m.after_other.values two.same ready_chosen

    joined : Does m.after_other new
    joined =
        joined_sees tells.seen m.tests m.chosen_left m.other_left m.after_other new m.joined ready_other
        (subst (λ (os : List (Option ℕ)). AllByRecursion (IsLeft os) m.chosen_left) (sym (two.same.current ∙ one.same.current)) one.left)
        (subst (λ (os : List (Option ℕ)). AllByRecursion (IsLeft os) m.other_left) (sym two.same.current) two.left) one.targets two.targets

    pub if_sees : Does old new
    if_sees =
        does_again old m.tested new tested
        (does_again m.tested m.after_chosen new (record { sees = one.sees; logs = logs_same IsTarget m.tested.values m.after_chosen.values one.same })
        (does_again m.after_chosen m.after_other new (record { sees = two.sees; logs = logs_same IsTarget m.after_chosen.values m.after_other.values two.same }) joined))

  -- All commands.

  abbrev tests_many : (around : Around) (first : ℕ) (t : Term) (old new : Building) (next : ℕ) (tests : List ℕ) → MadeTests scene around first t (paths_counted around) old new next tests → length tests ≡ paths_counted around
  tests_many around first t old new next tests m = (tests_same scene around first t (paths_counted around) old new next tests m).1

  view_sees : (hs : List Hidden) (form : ViewPlan) (around : Around) (old new : Building) (first next : ℕ) → BlockStandsIn scene around → Tells around → NamesView (known_in scene) Named Kept Goal hs (offsets_of form)
      → MadeView scene hs form around old new first next → Does old new
  view_sees [] form around old new first next s tells h m = does_none old new m.still
  view_sees (k ∷ hs) form around old new first next s tells h m =
      lanes_see (λ n b d l. MadeKept scene (lane_of around n) first k.entity (offsets_of form) b d l) (paths_counted around)
      (λ n b d l less one. kept_sees around s tells n less first k.entity (offsets_of form) b d l h.0 h.1 one) (paths_counted around) first old new next (all_paths (paths_counted around)) m

  mutual
    pub command_sees : (a : Action) (around : Around) (old new : Building) (first next : ℕ) → BlockStandsIn scene around → Tells around → NamesCommand (known_in scene) Named Kept Goal a → MadeCommand scene a around old new first next → AreReady old.values → Does old new
    command_sees (action id place form) around old new first next s tells h m ready = action_sees form around old new first next s tells h m ready

    action_sees : (form : ActionForm) (around : Around) (old new : Building) (first next : ℕ) → BlockStandsIn scene around → Tells around → NamesAction (known_in scene) Named Kept Goal form → MadeActionForm scene form around old new first next → AreReady old.values → Does old new
    action_sees (lets name declared (Some value)) around old new first next s tells h m ready =
        lanes_see (λ n b d k. MadeAssigned scene (lane_of around n) first (entity_number name.entity) value b d k) (paths_counted around)
        (λ n b d k less one. assigned_sees around s tells n less first (entity_number name.entity) value b d k h.0 h.1 one) (paths_counted around) first old new next (all_paths (paths_counted around)) m
    action_sees (lets name declared None) around old new first next s tells h m ready =
        lanes_see (λ n b d k. MadeCleared scene (lane_of around n) (entity_number name.entity) b d × (k ≡ first)) (paths_counted around)
        (λ n b d k less one. cleared_sees around s tells n less (entity_number name.entity) b d h one.0) (paths_counted around) first old new next (all_paths (paths_counted around)) m
    action_sees (assigns target value) around old new first next s tells h m ready =
        lanes_see (λ n b d k. MadeAssigned scene (lane_of around n) first (entity_number target.entity) value b d k) (paths_counted around)
        (λ n b d k less one. assigned_sees around s tells n less first (entity_number target.entity) value b d k h.0 h.1 one) (paths_counted around) first old new next (all_paths (paths_counted around)) m
    action_sees (stores target value) around old new first next s tells h m ready =
        lanes_see (λ n b d k. MadeStored scene (lane_of around n) first target value b d k) (paths_counted around)
        (λ n b d k less one. stored_sees around s tells n less first target value b d k h.0 h.1 one) (paths_counted around) first old new next (all_paths (paths_counted around)) m
    action_sees (reduces target op value) around old new first next s tells h m ready =
        lanes_see (λ n b d k. MadeReduced scene (lane_of around n) first (entity_number target.entity) op value b d k) (paths_counted around)
        (λ n b d k less one. reduced_sees around s tells n less first (entity_number target.entity) op value b d k h.0 h.1 one) (paths_counted around) first old new next (all_paths (paths_counted around)) m
    action_sees (decides test chosen other) around old new first next s tells h m ready =
        let many = tests_many around first test old m.tested m.own m.tests m.test in
        if_sees (λ a ts b d n k ls. MadeArm (MadeCommand scene chosen) a true ts b d n k ls) (MadeOther scene other) test around old new first next m s tells h.0 ready
        (λ r. arm_sees (MadeCommand scene chosen) around true m.tests m.tested m.after_chosen m.own m.behind m.chosen_left m.chosen r
        (command_sees chosen m.chosen.arm m.chosen.begin m.chosen.inside m.own m.behind
        (stands_arm scene (MadeCommand scene chosen) around true m.tests m.tested m.after_chosen m.own m.behind m.chosen_left m.chosen s many)
        (tells_arm (MadeCommand scene chosen) around true m.tests m.tested m.after_chosen m.own m.behind m.chosen_left m.chosen tells many) h.1.0 m.chosen.command))
        (λ r. other_sees other around m.tests m.after_chosen m.after_other m.behind next m.other_left s tells many h.1.1 m.other r)
    action_sees (blocks body) around old new first next s tells h m ready = groups_see body around old new first next s tells h m ready
    action_sees (lets_memory name shape shape_places value) around old new first next s tells h m ready = does_none old new m.still
    action_sees (views name parent form) around old new first next s tells h m ready = view_sees (hidden_in (way_of (known_in scene) name)) form around old new first next s tells h m
    action_sees (calls function arguments) around old new first next s tells h m ready = does_none old new m.still
    action_sees (repeats test body) around old new first next s tells h m ready = does_none old new m.still
    action_sees (counts iterator declared low high factor body combine combine_place) around old new first next s tells h m ready = does_none old new m.still

    other_sees : (other : MaybeAction) (around : Around) (tests : List ℕ) (old new : Building) (first next : ℕ) (lefts : List Left) → BlockStandsIn scene around → Tells around → length tests ≡ paths_counted around → NamesOther (known_in scene) Named Kept Goal other
        → MadeOther scene other around tests old new first next lefts → AreReady old.values → SeesArm old new lefts
    other_sees no_action around tests old new first next lefts s tells many h m ready = none_sees old new lefts m.still m.none
    other_sees (one_action a) around tests old new first next lefts s tells many h m ready =
        arm_sees (MadeCommand scene a) around false tests old new first next lefts m ready
        (command_sees a m.arm m.begin m.inside first next (stands_arm scene (MadeCommand scene a) around false tests old new first next lefts m s many)
        (tells_arm (MadeCommand scene a) around false tests old new first next lefts m tells many) h m.command)

    actions_see : (part : Actions) (around : Around) (old new : Building) (first next : ℕ) → BlockStandsIn scene around → Tells around → NamesActions (known_in scene) Named Kept Goal part → MadeActions scene part around old new first next → AreReady old.values → Does old new
    actions_see no_actions around old new first next s tells h m ready = does_none old new m.still
    actions_see (action_then a rest) around old new first next s tells h m ready =
        does_then old m.middle new (command_sees a around old m.middle first m.own s tells h.0 m.one) (actions_see rest around m.middle new m.own next s tells h.1 m.rest) ready

    groups_see : (body : Groups) (around : Around) (old new : Building) (first next : ℕ) → BlockStandsIn scene around → Tells around → NamesGroups (known_in scene) Named Kept Goal body → MadeGroups scene body around old new first next → AreReady old.values → Does old new
    groups_see no_groups around old new first next s tells h m ready = does_none old new m.still
    groups_see (group_then g rest) around old new first next s tells h m ready =
        does_then old m.middle new (actions_see g around old m.middle first m.own s tells h.0 m.one) (groups_see rest around m.middle new m.own next s tells h.1 m.rest) ready
