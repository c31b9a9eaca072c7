-- A block sees and sets registers as a plan asks.
use Rattle.std.proofs.Common.{◌≡◌, ◌⊎◌, inl, inr, ◌<◌, ℕ, zero, suc, List, Some, None, refl, ap, sym, ◌∙◌, subst, length}
use Rattle.std.specs.Prelude.{Bool as Truth, true, false, [], ◌∷◌, ◌++◌, ◌==◌, drop, replicate, slice_get, slice_index, slice_set, Option}
use Rattle.std.specs.List.{AllByRecursion}
use Rattle.std.proofs.lemmas.Bool.{cases_Bool}
use Rattle.dh_value.specs.declared.kinds.Kind.{Kind}
use Rattle.dh_tree.specs.declared.trees.counters.Counter.{Counter}
use Rattle.dh_tree.specs.declared.trees.expressions.Ref.{Ref}
use Rattle.dh_tree.specs.PlainTrees.{Term}
use Rattle.dh_meaning.specs.Bindings.{Binding, binding_in}
use Rattle.dh_meaning.specs.Core.{CoreCommand, CoreCommands, assign, choose, command_and, keep, no_commands, store}
use Rattle.dh_meaning.specs.CoreOf.{core_commands, core_term, entity_number}
use Rattle.dh_meaning.specs.Effects.{commands, tests}
use Rattle.dh_meaning.specs.Levels.{any_assigns, assigns_to}
use Rattle.dh_meaning.specs.Phases.{Located}
use Rattle.dh_meaning.specs.Ways.{Hidden}
use Rattle.dh_code.specs.Slots.{held_at}
use Rattle.dh_plan.specs.declared.operations.Operation.{Operation}
use Rattle.dh_plan.specs.declared.operations.OperationForm.{OperationForm}
use Rattle.dh_plan.specs.declared.operations.OperationForm.TheVariants.{Check, Compute, Constant, Convert, Old, Probe, Read, Select, Set, Write}
use Rattle.dh_plan.specs.Correspondence.{Round}
use Rattle.dh_plan.specs.PlainPlans.{PlainPlan, operations_in}
use Rattle.dh_plan.specs.PlanPhases.{IsCounterOf, IsIteratorOf, IsRegisterOf, Touches, command_mentions, commands_mention, term_mentions, core_terms_mention}
use Rattle.dh_expressions.specs.declared.scenes.Around.{Around}
use Rattle.dh_expressions.specs.declared.scenes.Scene.{Scene}
use Rattle.dh_expressions.specs.Evaluated.{counter_of, hidden_register, known_in}
use Rattle.dh_expressions.specs.Shown.{is_read_term}
use Rattle.dh_formed.specs.Commanded.{CommandIs}
use Rattle.dh_formed.specs.Counted.{register_seen}
use Rattle.dh_formed.proofs.ElementsFormed.{all_append}
use Rattle.dh_commands.specs.declared.assignments.Change.{Change}
use Rattle.dh_commands.specs.declared.assignments.Values.{Values}
use Rattle.dh_commands.specs.declared.buildings.Building.{Building}
use Rattle.dh_commands.specs.LanesRun.{lane_of, paths_counted}
use Rattle.dh_commands.specs.MadeCommands.{MadeTests}
use Rattle.dh_commands.specs.ShownVariables.{IsSeen, register_in, seen_path}
use Rattle.dh_commands.specs.Undone.{AreReady, NoneGiven, given_at}
use Rattle.dh_laid.specs.BlockSites.{MadeEach}
use Rattle.dh_laid.specs.LaidQuiet.{BlockStandsIn}
use Rattle.dh_laid.proofs.ValuesLogged.{logged_ready}
use Rattle.dh_sound.specs.SameKeys.{IsNoIterator}
use Rattle.dh_blocks.specs.BlockMade.{AreSoundBy, IsPut, set_made, sets_made}
use Rattle.dh_blocks.specs.NamedVariables.{IsNamedHere}
use Rattle.dh_blocks.specs.SlotsOfScene.{slots_in}
use Rattle.dh_blocks.specs.SoundCommands.{SoundAction}
use Rattle.dh_blocks.specs.SoundTerms.{IsSoundHidden, kept_name}
use Rattle.dh_blocks.specs.TestMade.{IsSoundTest, flag_made}
use Rattle.dh_blocks.proofs.SoundMapped.{action_mapped, term_mapped}
use Rattle.dh_blocks.proofs.VariablesPlaced.{copy_path, register_slot, slot_is}
use Rattle.dh_charged.specs.SeenRegisters.{AddsSeeing, IsSeeing, NamesCommand, NamesTerm, SeesAndGives, TellsRegisters}
use Rattle.dh_charged.specs.TouchedBlocks.{HaveCounters, StandsInPlan, StraightsTouch, TestsTouch}
use Rattle.dh_charged.proofs.CommandsSee.{command_sees, does_again, does_none, logged, tests_do}
use Rattle.dh_charged.proofs.NamesFound.{Holds, action_named, assigned_seen, either_of, first_of, second_of, term_named}

pub place_holds : (P : Operation → Type 0) (xs : List Operation) (i : ℕ) (x : Operation) → AllByRecursion P xs → slice_get xs i ≡ Some x → P x
place_holds P [] i x all at = absurd (cc)
place_holds P (y ∷ xs) zero x all at = subst (λ (o : Operation). P o) (the y x at) all.0
  where
    the : (y z : Operation) → Some y ≡ Some z → y ≡ z
    the y z e = cc
place_holds P (y ∷ xs) (suc i) x all at = place_holds P xs i x all.1 at

drop_front : (xs ys : List Operation) → drop (length xs) (xs ++ ys) ≡ ys
drop_front [] ys = refl
drop_front (x ∷ xs) ys = drop_front xs ys

-- What is assigned to is mentioned.

mutual
  command_assigned : (e : ℕ) (c : CoreCommand) → assigns_to e c ≡ true → command_mentions e c ≡ true
  command_assigned e (store reach target value) h = absurd (cc)
  command_assigned e (assign depth other value) h = first_of (e == other) (term_mentions e value) h
  command_assigned e (keep depth first values) h = first_of (assigns_to e (keep depth first values)) (core_terms_mention e values) h
  command_assigned e (choose test chosen other) h =
      second_of (term_mentions e test) _
      (elim (either_of (any_assigns e chosen) (any_assigns e other) h) [
        | inl m ↦ first_of (commands_mention e chosen) (commands_mention e other) (all_assigned e chosen m)
        | inr m ↦ second_of (commands_mention e chosen) (commands_mention e other) (all_assigned e other m)
      ])

  all_assigned : (e : ℕ) (cs : CoreCommands) → any_assigns e cs ≡ true → commands_mention e cs ≡ true
  all_assigned e no_commands h = absurd (cc)
  all_assigned e (command_and c cs) h = elim (either_of (assigns_to e c) (any_assigns e cs) h) [
    | inl m ↦ first_of (command_mentions e c) (commands_mention e cs) (command_assigned e c m)
    | inr m ↦ second_of (command_mentions e c) (commands_mention e cs) (all_assigned e cs m)
  ]

-- Counters.

counter_among : (rounds : List Round) (index : ℕ) (round : Round) (register : ℕ) → slice_get rounds index ≡ Some round → round.counter ≡ register → IsCounterOf rounds register
counter_among [] index round register at e = absurd (cc)
counter_among (r ∷ rounds) zero round register at e = inl (ap (λ (q : Round). q.counter) (the r round at) ∙ e)
  where
    the : (a b : Round) → Some a ≡ Some b → a ≡ b
    the a b e = cc
counter_among (r ∷ rounds) (suc index) round register at e = inr (counter_among rounds index round register at e)

iterator_counted : (scene : Scene) (rounds : List Round) (entity : ℕ) → HaveCounters scene rounds → IsIteratorOf rounds entity → (c : Counter) × (counter_of scene entity ≡ Some c)
iterator_counted scene [] entity all is = absurd is
iterator_counted scene (r ∷ rounds) entity all (inl e) = subst (λ (i : ℕ). (c : Counter) × (counter_of scene i ≡ Some c)) e all.0
iterator_counted scene (r ∷ rounds) entity all (inr is) = iterator_counted scene rounds entity all.1 is

-- What operations are.

seeing_is : (Sees Target : ℕ → Type 0) (form : OperationForm) → IsSeeing Sees form → CommandIs Sees Target (λ r. Unit {0}) (λ r. Unit {0}) (λ r. Unit {0}) form
seeing_is Sees Target (Constant word) h = tt
seeing_is Sees Target (Old register) h = h
seeing_is Sees Target (Compute op left right) h = tt
seeing_is Sees Target (Convert inner to) h = tt
seeing_is Sees Target (Select test a b) h = tt
seeing_is Sees Target (Check ok fault) h = absurd h
seeing_is Sees Target (Probe r fault) h = tt
seeing_is Sees Target (Read r) h = tt
seeing_is Sees Target (Write r value) h = tt
seeing_is Sees Target (Set register value) h = absurd h

module _ (Sees Target : ℕ → Type 0) where
  abbrev Is : Operation → Type 0
  Is o = CommandIs Sees Target (λ r. Unit {0}) (λ r. Unit {0}) (λ r. Unit {0}) o.form

  all_seeing : (os : List Operation) → AllByRecursion (λ (o : Operation). IsSeeing Sees o.form) os → AllByRecursion Is os
  all_seeing [] h = tt
  all_seeing (o ∷ os) h = (seeing_is Sees Target o.form h.0, all_seeing os h.1)

  one_set : (register : ℕ) (o : Option ℕ) → Target register → AllByRecursion Is (set_made register o)
  one_set register None h = tt
  one_set register (Some value) h = (h, tt)

  all_set_targets : (cs : List Change) (current : List (Option ℕ)) → AllByRecursion (λ (c : Change). Target c.register) cs → AllByRecursion Is (sets_made cs current)
  all_set_targets [] current h = tt
  all_set_targets (c ∷ cs) current h =
      all_append Is (set_made c.register (given_at current c.register)) (sets_made cs (slice_set current c.register None)) (one_set c.register (given_at current c.register) h.0)
      (all_set_targets cs (slice_set current c.register None) h.1)

  flag_targets : (read : Truth) (flag value next : ℕ) → Target flag → AllByRecursion Is (flag_made read flag value next)
  flag_targets true flag value next h = (tt, (h, tt))
  flag_targets false flag value next h = (h, tt)

  -- a block is what commands added, and what stands behind it
  block_is : (plan : PlainPlan) (block : ℕ) (before between : Building) (behind : List Operation)
      → operations_in plan block ≡ drop (length before.draft.operations.items) between.draft.operations.items ++ behind → AddsSeeing Sees before.draft between.draft → AllByRecursion Is behind → AllByRecursion Is (operations_in plan block)
  block_is plan block before between behind are sees last =
      subst (λ (os : List Operation). AllByRecursion Is os) (sym (are ∙ ap (λ (os : List Operation). os ++ behind) added))
      (all_append Is sees.more behind (all_seeing sees.more sees.each) last)
    where
      added : drop (length before.draft.operations.items) between.draft.operations.items ≡ sees.more
      added = ap (λ (os : List Operation). drop (length before.draft.operations.items) os) sees.adds ∙ drop_front before.draft.operations.items sees.more

none_ready : (v : Values) (count : ℕ) → NoneGiven v count → AreReady v
none_ready v count n = record {
  unmarked = λ register. ap (λ (ms : List ℕ). slice_index ms register) n.marks ∙ zeros count register;
  long = ap (λ (ms : List ℕ). length ms) n.marks ∙ (long count 0 ∙ (sym (long_none count) ∙ sym (ap (λ (os : List (Option ℕ)). length os) n.current)));
}
  where
    zeros : (count register : ℕ) → slice_index (replicate count 0) register ≡ 0
    zeros zero register = refl
    zeros (suc count) zero = refl
    zeros (suc count) (suc register) = zeros count register

    long : (count x : ℕ) → length (replicate count x) ≡ count
    long zero x = refl
    long (suc count) x = ap suc (long count x)

    long_none : (count : ℕ) → length (replicate {A = Option ℕ} count None) ≡ count
    long_none zero = refl
    long_none (suc count) = ap suc (long_none count)

-- Blocks.

module _ (scene : Scene) (around : Around) (plan : PlainPlan) (rounds : List Round) (count block : ℕ) (stands : StandsInPlan scene around plan rounds count) where
  stands_in : BlockStandsIn scene around
  stands_in = record { scopes = stands.holds.scopes; low = stands.top.low; few = stands.few }

  -- a variable that is seen has its register at each path
  slot_seen : (e n : ℕ) → IsSeen scene around.levels.now e → n < paths_counted around → slots_in scene e (seen_path scene around e n) ≡ Some (register_in scene around e n)
  slot_seen e n s h =
      slot_is scene e (seen_path scene around e n) s.there s.no_counter (copy_path scene around count stands.holds.placing stands.holds.small stands.top.spread stands.top.counted e n s h)
      ∙ ap (λ (i : ℕ). Some i) (sym (register_slot scene around count stands.holds.placing stands.holds.small stands.top.spread stands.top.counted e n s h))

  module _ (mentions assigns : ℕ → Truth) (both : (e : ℕ) → assigns e ≡ true → mentions e ≡ true) where
    abbrev Sees : ℕ → Type 0
    Sees register = IsRegisterOf (slots_in scene) mentions register ⊎ IsCounterOf rounds register

    abbrev Target : ℕ → Type 0
    Target register = IsRegisterOf (slots_in scene) assigns register

    abbrev Name : Ref → Kind → Type 0
    Name r k = (touched : ℕ → Truth) × IsNamedHere scene around.levels.now plan.registers rounds touched r k

    abbrev Named : Ref → Type 0
    Named r = (mentions (entity_number r.entity) ≡ true) × ((k : Kind) × Name r k)

    abbrev Kept : Hidden → Type 0
    Kept h = (mentions h.entity ≡ true) × ((r : Ref) × IsSoundHidden (known_in scene) plan.table Name r h)

    abbrev Goal : ℕ → Type 0
    Goal e = (assigns e ≡ true) × IsSeen scene around.levels.now e

    name_seen : (r : Ref) (n : ℕ) → Named r → n < paths_counted around → Sees (register_seen (counter_of scene (entity_number r.entity)) (held_at scene.held.now (entity_number r.entity)) (lane_of around n))
    name_seen r n (is, (k, (touched, inl p))) h =
        subst (λ c. Sees (register_seen c (held_at scene.held.now (entity_number r.entity)) (lane_of around n))) (sym p.seen.no_counter)
        (inl (record { entity = entity_number r.entity; path = seen_path scene around (entity_number r.entity) n; slot = slot_seen (entity_number r.entity) n p.seen h; so = is }))
    name_seen r n (is, (k, (touched, inr q))) h =
        subst (λ c. Sees (register_seen c (held_at scene.held.now (entity_number r.entity)) (lane_of around n))) (sym q.counted) (inr (counter_among rounds q.index q.round _ q.there (sym q.register_is)))

    -- what keeps an offset is no iterator
    kept_seen : (h : Hidden) (n : ℕ) → Kept h → n < paths_counted around → Sees (hidden_register scene (lane_of around n) h)
    kept_seen h n (is, (r, s)) less = by s.named
      where
        clash : (b : Binding) (o : Option Binding) (f : ℕ) → o ≡ Some b → b.iterates ≡ Some f → IsNoIterator o → ⊥
        clash b None f e it none = cc
        clash b (Some c) f e it none = absurd (never (sym (ap (λ (y : Binding). y.iterates) (the c b e) ∙ it) ∙ none))
          where
            the : (x y : Binding) → Some x ≡ Some y → x ≡ y
            the x y e = cc

            never : Some f ≡ None → ⊥
            never n = cc

        by : Name (kept_name h) h.kind → Sees (hidden_register scene (lane_of around n) h)
        by (touched, inl p) = inl (record { entity = h.entity; path = seen_path scene around h.entity n; slot = slot_seen h.entity n p.seen less; so = is })
        by (touched, inr q) =
            absurd (clash q.is.binding (binding_in (known_in scene).bindings h.entity) q.round.loop.factor
            (ap (λ o. binding_in (known_in scene).bindings (entity_number o)) q.is.entity ∙ q.is.bound) q.is.iterates s.plain)

    tells : TellsRegisters scene around Sees Target Named Kept Goal
    tells = record {
      names = name_seen;
      kept = kept_seen;
      goals = λ entity n g h. record { entity = entity; path = seen_path scene around entity n; slot = slot_seen entity n g.1 h; so = g.0 };
      seen = λ register t. inl (record { entity = t.entity; path = t.path; slot = t.slot; so = both t.entity t.so });
    }

    abbrev Does : Building → Building → Type 0
    Does old new = SeesAndGives Sees Target old new

    each_sees : (cs : List Located) (old new : Building) → AllByRecursion (λ (c : Located). NamesCommand (known_in scene) Named Kept Goal c.command) cs → MadeEach scene around cs old new → AreReady old.values → Does old new
    each_sees [] old new named m ready = does_none scene Sees Target Named Kept Goal old new m
    each_sees (c ∷ cs) old new named (mid, (next, (m, rest))) ready =
        by (command_sees scene Sees Target Named Kept Goal c.command around old mid c.first next stands_in tells named.0 m ready) (λ r. each_sees cs mid new named.1 rest r)
      where
        by : Does old mid → (AreReady mid.values → Does mid new) → Does old new
        by one rest =
            does_again scene Sees Target Named Kept Goal old mid new one (rest (logged_ready old.values mid.values (logged (λ (k : Change). Target k.register) old.values mid.values one.logs) ready))

  -- straight commands

  abbrev cores : List Located → CoreCommands
  cores cs = core_commands (known_in scene) cs

  module _ (cs : List Located) (sound : AllByRecursion (λ (c : Located). SoundAction scene around.levels.now plan.table (λ r k. (touched : ℕ → Truth) × IsNamedHere scene around.levels.now plan.registers rounds touched r k) (IsSeen scene around.levels.now) c.command) cs)
      (before between : Building) (put : IsPut plan count block before between (sets_made between.values.log.items between.values.current.items)) (made : MadeEach scene around cs before between) where
    abbrev mentions_them : ℕ → Truth
    mentions_them e = commands_mention e (cores cs)

    abbrev assigns_them : ℕ → Truth
    assigns_them e = any_assigns e (cores cs)

    assigned_mentioned : (e : ℕ) → assigns_them e ≡ true → mentions_them e ≡ true
    assigned_mentioned e h = all_assigned e (cores cs) h

    abbrev OurName : Ref → Kind → Type 0
    OurName r k = (touched : ℕ → Truth) × IsNamedHere scene around.levels.now plan.registers rounds touched r k

    abbrev IsOurs : Located → Type 0
    IsOurs c = SoundAction scene around.levels.now plan.table OurName (IsSeen scene around.levels.now) c.command

    list_named : (ds : List Located) → AllByRecursion IsOurs ds → Holds (λ e. mentions_them e ≡ true) (λ e. assigns_them e ≡ true) (cores ds)
        → AllByRecursion (λ (c : Located). NamesCommand (known_in scene) (Named mentions_them assigns_them assigned_mentioned) (Kept mentions_them assigns_them assigned_mentioned) (Goal mentions_them assigns_them assigned_mentioned) c.command) ds
    list_named [] s h = tt
    list_named (c ∷ ds) s h =
        let one = action_named scene around.levels.now plan.table OurName (λ e. mentions_them e ≡ true) (λ e. assigns_them e ≡ true) (IsSeen scene around.levels.now) (λ e is. is) c.first c.command (cores ds) s.0 h in
        (one.0, list_named ds s.1 one.1)

    done_so : SeesAndGives (Sees mentions_them assigns_them assigned_mentioned) (Target mentions_them assigns_them assigned_mentioned) before between
    done_so =
        each_sees mentions_them assigns_them assigned_mentioned cs before between (list_named cs sound (record { mentions = λ e m. m; assigns = λ e m. m })) made
        (none_ready before.values count put.none)

    changes_are : between.values.log.items ≡ done_so.logs.more
    changes_are = done_so.logs.log ∙ ap (λ (l : List Change). l ++ done_so.logs.more) put.none.log

    operations_are : AllByRecursion (Is (Sees mentions_them assigns_them assigned_mentioned) (Target mentions_them assigns_them assigned_mentioned)) (operations_in plan block)
    operations_are =
        block_is (Sees mentions_them assigns_them assigned_mentioned) (Target mentions_them assigns_them assigned_mentioned) plan block before between (sets_made between.values.log.items between.values.current.items)
        put.operations done_so.sees
        (all_set_targets (Sees mentions_them assigns_them assigned_mentioned) (Target mentions_them assigns_them assigned_mentioned) between.values.log.items between.values.current.items
        (subst (λ (l : List Change). AllByRecursion (λ (c : Change). Target mentions_them assigns_them assigned_mentioned c.register) l) (sym changes_are) done_so.logs.each))

    all_seen : (e : ℕ) (ds : List Located) → AllByRecursion IsOurs ds → any_assigns e (cores ds) ≡ true → IsSeen scene around.levels.now e
    all_seen e [] s h = absurd (never h)
      where
        never : false ≡ true → ⊥
        never e = cc
    all_seen e (c ∷ ds) s h =
        elim (assigned_seen scene around.levels.now plan.table OurName e (IsSeen scene around.levels.now) (λ i is. is) c.first c.command (cores ds) s.0 h) [
          | inl is ↦ is
          | inr m ↦ all_seen e ds s.1 m
        ]

    spared : (e : ℕ) → IsIteratorOf rounds e → assigns_them e ≡ false
    spared e is = elim (cases_Bool (assigns_them e)) [
      | inl m ↦ absurd (clash (iterator_counted scene rounds e stands.counters is).0 (sym (iterator_counted scene rounds e stands.counters is).1 ∙ (all_seen e cs sound m).no_counter))
      | inr m ↦ m
    ]
      where
        clash : (c : Counter) → Some c ≡ None → ⊥
        clash c e = cc

    pub commands_touch : Touches plan (slots_in scene) rounds (commands (cores cs)) None block
    commands_touch = record {
      sees = λ i guard register at. place_holds (Is (Sees mentions_them assigns_them assigned_mentioned) (Target mentions_them assigns_them assigned_mentioned)) (operations_in plan block) i (record { guard = guard; form = Old register }) operations_are at;
      sets = λ i guard register value at.
          inl (place_holds (Is (Sees mentions_them assigns_them assigned_mentioned) (Target mentions_them assigns_them assigned_mentioned)) (operations_in plan block) i (record { guard = guard; form = Set register value }) operations_are at);
      spares = spared;
    }

  -- a test

  module _ (t : Term) (first flag next : ℕ) (values : List ℕ) (sound : IsSoundTest scene around plan rounds t) (before between : Building)
      (put : IsPut plan count block before between (flag_made (is_read_term t) flag (slice_index values 0) (length between.draft.operations.items))) (made : MadeTests scene around first t (paths_counted around) before between next values) where
    abbrev mentions_it : ℕ → Truth
    mentions_it e = term_mentions e (core_term (known_in scene) first t)

    abbrev assigns_none : ℕ → Truth
    assigns_none e = false

    none_assigned : (e : ℕ) → assigns_none e ≡ true → mentions_it e ≡ true
    none_assigned e h = absurd (cc)

    abbrev TestName : Ref → Kind → Type 0
    TestName r k = (touched : ℕ → Truth) × IsNamedHere scene around.levels.now plan.registers rounds touched r k

    test_named : NamesTerm (known_in scene) (Named mentions_it assigns_none none_assigned) (Kept mentions_it assigns_none none_assigned) t
    test_named =
        term_named (known_in scene) plan.table TestName (λ e. mentions_it e ≡ true) first t
        (term_mapped (known_in scene) plan.table (IsNamedHere scene around.levels.now plan.registers rounds (λ e. false)) TestName (λ r k is. ((λ e. false), is)) t sound.sound) (λ e m. m)

    abbrev SeesIt : ℕ → Type 0
    SeesIt = Sees mentions_it assigns_none none_assigned

    tested_so : SeesAndGives SeesIt (Target mentions_it assigns_none none_assigned) before between
    tested_so =
        tests_do scene SeesIt (Target mentions_it assigns_none none_assigned) (Named mentions_it assigns_none none_assigned) (Kept mentions_it assigns_none none_assigned) (Goal mentions_it assigns_none none_assigned) around stands_in
        (tells mentions_it assigns_none none_assigned) first t test_named before between next values made

    test_operations : AllByRecursion (Is SeesIt (λ register. flag ≡ register)) (operations_in plan block)
    test_operations =
        block_is SeesIt (λ register. flag ≡ register) plan block before between (flag_made (is_read_term t) flag (slice_index values 0) (length between.draft.operations.items)) put.operations tested_so.sees
        (flag_targets SeesIt (λ register. flag ≡ register) (is_read_term t) flag (slice_index values 0) (length between.draft.operations.items) refl)

    pub test_touches : Touches plan (slots_in scene) rounds (tests (core_term (known_in scene) first t)) (Some flag) block
    test_touches = record {
      sees = λ i guard register at. place_holds (Is SeesIt (λ r. flag ≡ r)) (operations_in plan block) i (record { guard = guard; form = Old register }) test_operations at;
      sets = λ i guard register value at. inr (ap (λ (f : ℕ). Some f) (place_holds (Is SeesIt (λ r. flag ≡ r)) (operations_in plan block) i (record { guard = guard; form = Set register value }) test_operations at));
      spares = λ e is. refl;
    }

pub straights_touch : StraightsTouch
straights_touch scene around plan rounds count block done folds before between stands sound put made =
    commands_touch scene around plan rounds count block stands (done ++ folds) (both_lists done folds (one_list _ done sound.first) (one_list _ folds sound.then_folds)) before between put made
  where
    one_list : (touched : ℕ → Truth) (ds : List Located) → AreSoundBy touched scene around plan rounds ds
        → AllByRecursion (λ (c : Located). SoundAction scene around.levels.now plan.table (λ r k. (touched : ℕ → Truth) × IsNamedHere scene around.levels.now plan.registers rounds touched r k) (IsSeen scene around.levels.now) c.command) ds
    one_list touched [] s = tt
    one_list touched (c ∷ ds) s = (
      action_mapped scene around.levels.now plan.table (IsNamedHere scene around.levels.now plan.registers rounds touched) (λ r k. (touched : ℕ → Truth) × IsNamedHere scene around.levels.now plan.registers rounds touched r k)
          (λ r k is. (touched, is)) (IsSeen scene around.levels.now) c.command s.0,
      one_list touched ds s.1,
    )

    both_lists : (xs ys : List Located)
        → AllByRecursion (λ (c : Located). SoundAction scene around.levels.now plan.table (λ r k. (touched : ℕ → Truth) × IsNamedHere scene around.levels.now plan.registers rounds touched r k) (IsSeen scene around.levels.now) c.command) xs
        → AllByRecursion (λ (c : Located). SoundAction scene around.levels.now plan.table (λ r k. (touched : ℕ → Truth) × IsNamedHere scene around.levels.now plan.registers rounds touched r k) (IsSeen scene around.levels.now) c.command) ys
        → AllByRecursion (λ (c : Located). SoundAction scene around.levels.now plan.table (λ r k. (touched : ℕ → Truth) × IsNamedHere scene around.levels.now plan.registers rounds touched r k) (IsSeen scene around.levels.now) c.command) (xs ++ ys)
    both_lists [] ys a b = b
    both_lists (x ∷ xs) ys a b = (a.0, both_lists xs ys a.1 b)

pub tests_touch : TestsTouch
tests_touch scene around plan rounds count block flag first next t values before between stands sound put made =
    test_touches scene around plan rounds count block stands t first flag next values sound before between put made
