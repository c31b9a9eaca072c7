-- A block of straight commands whole: it does what the program does, from any memories and whatever the registers hold.
use Rattle.std.proofs.Common.{◌≡◌, ◌⊎◌, inl, inr, ℕ, ◌+◌, ◌-◌, ◌<◌, ◌≤◌, ◌^◌, Bool, true, false, if◌then◌else◌, List, [], ◌∷◌, ◌++◌, length, drop, Option, Some, None, refl, ap, sym, ◌∙◌, subst, arith, append-nil}
use Rattle.std.specs.Prelude.{nat_lt, slice_get, slice_index}
use Rattle.std.specs.List.{AllByRecursion}
use Rattle.std.proofs.lemmas.Bool.{cases_Bool}
use Rattle.std.proofs.lemmas.Bool.Decides.{nat_tests}
use Rattle.std.proofs.lemmas.Nat.{pow_pos}
use Rattle.dh_value.specs.declared.kinds.Kind.{Kind}
use Rattle.dh_value.specs.declared.words.Word.{Word}
use Rattle.dh_value.specs.Words.{residue, width_of, with_bits, word_of}
use Rattle.dh_value.proofs.Residues.{residue-lt}
use Rattle.dh_tree.specs.declared.trees.expressions.Ref.{Ref}
use Rattle.dh_meaning.specs.AccessNumbers.{accesses_of}
use Rattle.dh_meaning.specs.Core.{CoreCommands}
use Rattle.dh_meaning.specs.CoreOf.{core_commands}
use Rattle.dh_meaning.specs.Effects.{Effect, Variables, commands, commands_run}
use Rattle.dh_meaning.specs.Levels.{any_assigns}
use Rattle.dh_meaning.specs.Paths.{Path}
use Rattle.dh_meaning.specs.Phases.{Located}
use Rattle.dh_plan.specs.Blocks.{RegisterSet, all_set, block_events, block_sets, kind_at, register_word}
use Rattle.dh_plan.specs.Correspondence.{FitKinds, Holding, Round, StandFor}
use Rattle.dh_plan.specs.PlainPlans.{PlainPlan}
use Rattle.dh_plan.specs.PlanPhases.{DoesBlock, DoesEffect, source_effect}
use Rattle.dh_plan.specs.PlanRuns.{events_of_block, sets_of_block, start_at}
use Rattle.dh_plan.proofs.Appends.{events_behind, sets_behind}
use Rattle.dh_plan.proofs.SourceMoves.{commands_spare}
use Rattle.dh_code.specs.Slots.{held_at, slot_of}
use Rattle.dh_code.proofs.SlotsHeld.{one_copy}
use Rattle.dh_expressions.specs.declared.scenes.Around.{Around}
use Rattle.dh_expressions.specs.declared.scenes.Scene.{Scene}
use Rattle.dh_expressions.specs.Copying.{AreNone}
use Rattle.dh_expressions.specs.Drafted.{BlockBegun, FitsStep, BlockStep, word_shown, tales_told, told_block}
use Rattle.dh_expressions.specs.Evaluated.{StepReads, begun_of, known_in, shown_by}
use Rattle.dh_expressions.specs.Noted.{touched_in}
use Rattle.dh_expressions.specs.Shown.{variable_shown}
use Rattle.dh_expressions.proofs.ListPlaces.{place_within}
use Rattle.dh_commands.specs.declared.assignments.Change.{Change}
use Rattle.dh_commands.specs.declared.buildings.Building.{Building}
use Rattle.dh_commands.specs.LanesRun.{lane_of, paths_counted, paths_on}
use Rattle.dh_commands.specs.ShownVariables.{ArePlaced, IsSeen, register_in, seen_path}
use Rattle.dh_commands.specs.Followed.{effect_of}
use Rattle.dh_commands.specs.Undone.{IsChange, given_at}
use Rattle.dh_commands.specs.Done.{StandsBeside}
use Rattle.dh_blocks.specs.FoundAccesses.{Found, block_found, found, found_from, found_or_else}
use Rattle.dh_laid.specs.LaidAccesses.{AreLaid}
use Rattle.dh_blocks.specs.ChosenReads.{AreBare, chosen_reads}
use Rattle.dh_blocks.specs.BlockGround.{FoundAreWithin, IsGround}
use Rattle.dh_blocks.specs.BlockMade.{AreRising, AreSoundHere, DoEach, EachShares, IsBare, IsBlockMade, IsTop, SharesStand, arms_each, effect_begun, found_in, sets_made, step_of_block}
use Rattle.dh_blocks.specs.NamedVariables.{IsNamedVariable, IsNamedHere}
use Rattle.dh_blocks.specs.SlotsOfScene.{HoldsVariables, IsStartOf, placing_in, slots_in}
use Rattle.dh_blocks.specs.SoundCommands.{IsOwnOf, SoundAction}
use Rattle.dh_blocks.proofs.CommandsFollow.{Stage, found_long, may_assign}
use Rattle.dh_blocks.proofs.CommandsDone.{Goes, HasChanged, commands_done, goes_nowhere}
use Rattle.dh_blocks.proofs.BlockBegins.{begun_here, fits_here, ground_here, none_shown, paths_here, placed_here, slot_here, some_shown, stands_here}
use Rattle.dh_blocks.proofs.ReadsBegin.{laid_last}
use Rattle.dh_blocks.proofs.RegistersSet.{HasRegister, all_long, given_changed, left_register, none_set, set_register, sets_quiet}
use Rattle.dh_blocks.proofs.RoundsTurned.{always_on, named_here, paths_are_rounds}
use Rattle.dh_blocks.proofs.SoundMapped.{action_mapped}
use Rattle.dh_blocks.proofs.TalesTold.{fault_named, writes_told}
use Rattle.dh_blocks.proofs.VariablesPlaced.{IsSlot, copy_path, register_slot, register_small, seen_at, slot_facts}

-- A name of a command with accesses, or of a reducer.
abbrev pub NamedBy : Scene → Around → PlainPlan → List Round → (done : List Located) → Ref → Kind → Type 0
NamedBy scene around plan rounds done r k =
    IsNamedHere scene around.levels.now plan.registers rounds (λ entity. any_assigns entity (core_commands (known_in scene) done)) r k ⊎ IsNamedHere scene around.levels.now plan.registers rounds (λ entity. true) r k

module _ (scene : Scene) (around : Around) (plan : PlainPlan) (rounds : List Round) (done folds : List Located) (sound : AreSoundHere scene around plan rounds done folds) where
  mapped : (N M : Ref → Kind → Type 0) (to : (r : Ref) (k : Kind) → N r k → M r k) (ds : List Located)
      → AllByRecursion (λ (c : Located). SoundAction scene around.levels.now plan.table N (IsSeen scene around.levels.now) c.command) ds
      → AllByRecursion (λ (c : Located). SoundAction scene around.levels.now plan.table M (IsSeen scene around.levels.now) c.command) ds
  mapped N M to [] s = tt
  mapped N M to (c ∷ ds) s = (action_mapped scene around.levels.now plan.table N M to (IsSeen scene around.levels.now) c.command s.0, mapped N M to ds s.1)

  both : (P : Located → Type 0) (xs ys : List Located) → AllByRecursion P xs → AllByRecursion P ys → AllByRecursion P (xs ++ ys)
  both P [] ys a b = b
  both P (x ∷ xs) ys a b = (a.0, both P xs ys a.1 b)

  pub sound_all : AllByRecursion (λ (c : Located). SoundAction scene around.levels.now plan.table (NamedBy scene around plan rounds done) (IsSeen scene around.levels.now) c.command) (done ++ folds)
  sound_all =
      both (λ (c : Located). SoundAction scene around.levels.now plan.table (NamedBy scene around plan rounds done) (IsSeen scene around.levels.now) c.command) done folds
      (mapped (IsNamedHere scene around.levels.now plan.registers rounds (λ entity. any_assigns entity (core_commands (known_in scene) done))) (NamedBy scene around plan rounds done) (λ r k h. inl h) done sound.first)
      (mapped (IsNamedHere scene around.levels.now plan.registers rounds (λ entity. true)) (NamedBy scene around plan rounds done) (λ r k h. inr h) folds sound.then_folds)

module _ (scene : Scene) (around : Around) (plan : PlainPlan) (count block : ℕ) (done folds : List Located) (rounds : List Round) (old new : Building)
    (made : IsBlockMade scene around plan count block (done ++ folds) old new) (holds : HoldsVariables scene plan count) (top : IsTop rounds around)
    (sound : AreSoundHere scene around plan rounds done folds) (stand : SharesStand scene around plan rounds block (done ++ folds) old new made.each) where
  abbrev cs : List Located
  cs = done ++ folds

  abbrev all : CoreCommands
  all = core_commands (known_in scene) cs

  abbrev touched : ℕ → Bool
  touched entity = any_assigns entity (core_commands (known_in scene) done)

  abbrev folded : ℕ → Bool
  folded entity = true

  abbrev placed : ArePlaced scene around
  placed = placed_here scene around plan count rounds holds top

  abbrev paths : 0 < paths_counted around
  paths = paths_here scene around plan count rounds holds top

  abbrev ground : IsGround scene around
  ground = ground_here scene around plan count rounds holds top

  -- what the block assigns to is seen
  assigned_seen : (ds : List Located) (N : Ref → Kind → Type 0) → AllByRecursion (λ (c : Located). SoundAction scene around.levels.now plan.table N (IsSeen scene around.levels.now) c.command) ds
      → (entity : ℕ) → any_assigns entity (core_commands (known_in scene) ds) ≡ true → IsSeen scene around.levels.now entity
  assigned_seen [] N s entity h = absurd (cc)
  assigned_seen (c ∷ ds) N s entity h =
      by (assigned_seen ds N s.1 entity) (may_assign scene around.levels.now plan.table N (IsSeen scene around.levels.now) entity c.first c.command (core_commands (known_in scene) ds) s.0 h)
    where
      by : (any_assigns entity (core_commands (known_in scene) ds) ≡ true → IsSeen scene around.levels.now entity)
          → (IsOwnOf scene around.levels.now entity ⊎ IsSeen scene around.levels.now entity) ⊎ (any_assigns entity (core_commands (known_in scene) ds) ≡ true) → IsSeen scene around.levels.now entity
      by rest (inl (inl own)) = own.seen
      by rest (inl (inr seen)) = seen
      by rest (inr h) = rest h

  -- an access that is found is one of a command
  found_bare : (x : BlockStep) (N : Ref → Kind → Type 0) (ds : List Located) (a b : Building) (h : DoEach scene around ds a b) (e : Effect) (number : ℕ) (f : Found)
      → AllByRecursion (λ (c : Located). SoundAction scene around.levels.now plan.table N (IsSeen scene around.levels.now) c.command) ds → AllByRecursion (IsBare old.accesses) ds
      → block_found scene x around (arms_each scene around ds a b h) ds e number ≡ Some f → (number < length old.accesses.touched.items) × (touched_in old.accesses number ≡ None)
  found_bare x N [] a b h e number f s bare is = absurd (cc)
  found_bare x N (c ∷ ds) a b (mid, (next, (d, rest))) e number f s bare is =
      by (λ g. found_bare x N ds mid b rest (effect_of scene x (paths_on x around) c.first c.command e) number f s.1 bare.1 g) (found_from c.first (found scene x around d.arms c.first c.command e) number) refl is
    where
      within : (fs : List Found) (i : ℕ) (g : Found) → slice_get fs i ≡ Some g → i < length fs
      within fs i g e = place_within fs i g e

      long : length (found scene x around d.arms c.first c.command e) ≡ accesses_of c.command
      long = found_long scene x plan.table N around d.arms around.levels.now (IsSeen scene around.levels.now) c.first c.command e s.0 d.shaped

      here : (low : Bool) → nat_lt number c.first ≡ low → (g : Found) → (if low then None else slice_get (found scene x around d.arms c.first c.command e) (number - c.first)) ≡ Some g → (number < length old.accesses.touched.items) × (touched_in old.accesses number ≡ None)
      here true less g h = absurd (never g h)
        where
          never : (g : Found) → None ≡ Some g → ⊥
          never g h = cc
      here false less g h =
          let same : c.first + (number - c.first) ≡ number = let l = above number c.first less in omega (arith, l) in
          subst (λ (m : ℕ). (m < length old.accesses.touched.items) × (touched_in old.accesses m ≡ None)) same (bare.0 (number - c.first) (subst (λ (m : ℕ). number - c.first < m) long (within (found scene x around d.arms c.first c.command e) (number - c.first) g h)))
        where
          above : (n m : ℕ) → nat_lt n m ≡ false → m ≤ n
          above n m h = grind (arith, nat_tests)

      by : (block_found scene x around (arms_each scene around ds mid b rest) ds (effect_of scene x (paths_on x around) c.first c.command e) number ≡ Some f → (number < length old.accesses.touched.items) × (touched_in old.accesses number ≡ None))
          → (o : Option Found) → found_from c.first (found scene x around d.arms c.first c.command e) number ≡ o → found_or_else o (block_found scene x around (arms_each scene around ds mid b rest) ds (effect_of scene x (paths_on x around) c.first c.command e) number) ≡ Some f
          → (number < length old.accesses.touched.items) × (touched_in old.accesses number ≡ None)
      by rest None e h = rest h
      by rest (Some g) e h = here (nat_lt number c.first) refl g e

  -- In a step.
  module _ (registers : List ℕ) (memories : List (List ℕ)) (variables : Variables) (st : StandFor plan.registers (slots_in scene) rounds registers variables) where
    abbrev x : BlockStep
    x = step_of_block plan block registers memories

    abbrev first_effect : Effect
    first_effect = effect_begun variables

    abbrev find : ℕ → Option Found
    find = found_in scene around plan block cs old new made.each registers memories variables

    start : IsStartOf scene x
    start = record { table = holds.table; ways = holds.views }

    abbrev reads : StepReads
    reads = chosen_reads x find old.accesses

    -- names in this step
    named_now : (touch : ℕ → Bool) (ds : List Located) → AllByRecursion (λ (c : Located). SoundAction scene around.levels.now plan.table (IsNamedHere scene around.levels.now plan.registers rounds touch) (IsSeen scene around.levels.now) c.command) ds
        → AllByRecursion (λ (c : Located). SoundAction scene around.levels.now plan.table (IsNamedVariable scene around.levels.now x variables touch) (IsSeen scene around.levels.now) c.command) ds
    named_now touch ds s =
        mapped scene around plan rounds done folds sound (IsNamedHere scene around.levels.now plan.registers rounds touch) (IsNamedVariable scene around.levels.now x variables touch)
        (named_here scene x rounds around top variables touch st.counted) ds s

    bare : AreBare find old.accesses
    bare number f is = found_bare x (NamedBy scene around plan rounds done) cs old new made.each first_effect number f (sound_all scene around plan rounds done folds sound) made.bare is

    abbrev fits : FitsStep x new.draft
    fits = fits_here plan count block old new (sets_made new.values.log.items new.values.current.items) made.put registers memories

    abbrev begun : BlockBegun x old.draft
    begun = begun_here plan count block old new (sets_made new.values.log.items new.values.current.items) made.put registers memories

    abbrev slot_seen : (e i : ℕ) → IsSeen scene around.levels.now e → i < paths_counted around → slots_in scene e (seen_path scene around e i) ≡ Some (register_in scene around e i)
    slot_seen = slot_here scene around plan count rounds holds top

    abbrev stands_first : StandsBeside scene around x reads old first_effect
    stands_first = stands_here scene around plan count block rounds old new (sets_made new.values.log.items new.values.current.items) made.put holds top registers memories variables st find bare

    within_all : FoundAreWithin find old.accesses
    within_all number f is = (bare number f is).0

    stage : (touch : ℕ → Bool) → Stage scene x find old.accesses variables touch within_all start around (IsSeen scene around.levels.now)
    stage touch = record {
      ground = ground;
      placed = placed;
      folds = λ e s. record {
        placed = placed;
        there = s;
        no_counter = s.no_counter;
        alike = λ i j a b same. top.free i ∙ sym (top.free j);
      };
    }

    abbrev last_effect : Effect
    last_effect = commands_run (begun_of x) (paths_on x around) all first_effect

    -- reducers are done behind all else, whatever was touched
    folds_go : Goes scene around x find old.accesses folds
    folds_go from before_folds behind h e rising finds sh fits_behind begun_before ready_before stands =
        subst (λ (l : List Located). (h : DoEach scene around l before_folds behind) → AreRising from l
        → ((number : ℕ) → from ≤ number → find number ≡ block_found scene x around (arms_each scene around l before_folds behind h) l e number)
        → EachShares scene around x find l before_folds behind h e
        → StandsBeside scene around x reads behind (commands_run (begun_of x) (paths_on x around) (core_commands (known_in scene) l) e) × HasChanged scene around before_folds.values behind.values) (append-nil folds)
        (λ h rising finds sh.
        commands_done scene around x find old.accesses variables folded within_all start paths [] (goes_nowhere scene around x find old.accesses)
        folds from before_folds behind h e rising (named_now folded folds sound.then_folds) (stage folded) (λ i g. refl) (λ i q left. absurd (never left)) finds sh fits_behind begun_before ready_before stands)
        h rising finds sh
      where
        never : true ≡ false → ⊥
        never e = cc

    all_done : StandsBeside scene around x reads new last_effect × HasChanged scene around old.values new.values
    all_done =
        commands_done scene around x find old.accesses variables touched within_all start paths folds folds_go
        done 0 old new made.each first_effect made.rising (named_now touched done sound.first) (stage touched) (λ i g. g) (λ i q left. refl) (λ number low. refl) (stand registers memories variables st) fits begun stands_first.ready stands_first

    -- at the end
    pub laid_behind : AreLaid plan.faults new.accesses × AreNone new.accesses.counts.items
    laid_behind = (laid_last x reads new.accesses variables (all_done.0.knows variables), (all_done.0.knows variables).none)

    abbrev after : List ℕ
    after = all_set (sets_of_block plan x.start block) registers

    events_are : events_of_block plan x.start block ≡ block_events x.start x.first x.words (drop x.first new.draft.operations.items)
    events_are =
        ap (λ os. block_events x.start x.first x.words os) made.put.operations
        ∙ (events_behind x.start x.first x.words (drop (length old.draft.operations.items) new.draft.operations.items) (sets_made new.values.log.items new.values.current.items)
        ∙ (ap (λ es. block_events x.start x.first x.words (drop (length old.draft.operations.items) new.draft.operations.items) ++ es) (sets_quiet x.start x.first x.words new.values.log.items new.values.current.items)
        ∙ (append-nil (block_events x.start x.first x.words (drop (length old.draft.operations.items) new.draft.operations.items))
        ∙ ap (λ k. block_events x.start x.first x.words (drop k new.draft.operations.items)) (sym made.put.first))))

    told_alike : told_block plan.faults (events_of_block plan x.start block) ≡ tales_told last_effect.events
    told_alike = ap (λ es. told_block plan.faults es) events_are ∙ all_done.0.tells

    sets_are : sets_of_block plan x.start block ≡ block_sets x.first x.words (sets_made new.values.log.items new.values.current.items)
    sets_are =
        ap (λ os. block_sets x.first x.words os) made.put.operations
        ∙ (sets_behind x.first x.words (drop (length old.draft.operations.items) new.draft.operations.items) (sets_made new.values.log.items new.values.current.items)
        ∙ ap (λ (ss : List RegisterSet). ss ++ block_sets x.first x.words (sets_made new.values.log.items new.values.current.items))
        (none_set x.first x.words (drop (length old.draft.operations.items) new.draft.operations.items) made.put.quiet))

    changes_are : new.values.log.items ≡ all_done.1.more
    changes_are = all_done.1.log ∙ ap (λ (l : List Change). l ++ all_done.1.more) made.put.none.log

    -- what a register was given is what a seen variable holds
    pub record IsGivenTo (r v : ℕ) : Type 0 where
      pub entity : ℕ
      pub number : ℕ
      pub seen : IsSeen scene around.levels.now entity
      pub within : number < paths_counted around
      pub register_is : r ≡ register_in scene around entity number
      pub shows : word_shown x v ≡ word_of (held_at scene.held.now entity).kind (last_effect.variables entity (seen_path scene around entity number))
      pub kind_is : kind_at plan.registers r ≡ (held_at scene.held.now entity).kind

    -- a seen variable shows at a path what it holds
    shown_seen : (e i : ℕ) → IsSeen scene around.levels.now e → i < paths_counted around
        → variable_shown x new.values.current.items (register_in scene around e i) ≡ word_of (held_at scene.held.now e).kind (last_effect.variables e (seen_path scene around e i))
    shown_seen e i s h =
        ap (λ o. shown_by x o (held_at scene.held.now e) (lane_of around i) new.values.current.items (held_at scene.held.now e).kind) (sym s.no_counter)
        ∙ all_done.0.shows.each e i s h (always_on x rounds around top i)

    given_to : (r v : ℕ) → given_at new.values.current.items r ≡ Some v → IsGivenTo r v
    given_to r v is = from all_done.1.more all_done.1.each (given_changed all_done.1.more new.values.current.items count r v (all_done.1.back ∙ made.put.none.current) is)
      where
        from : (ms : List Change) → AllByRecursion (IsChange scene around (IsSeen scene around.levels.now)) ms → HasRegister r ms → IsGivenTo r v
        from [] a h = absurd h
        from (c ∷ ms) a (inl h) = record {
          entity = a.0.entity;
          number = c.path;
          seen = a.0.may;
          within = a.0.within;
          register_is = sym h ∙ a.0.register_is;
          shows = sym (some_shown x new.values.current.items r v is) ∙ (ap (λ n. variable_shown x new.values.current.items n) (sym h ∙ a.0.register_is) ∙ shown_seen a.0.entity c.path a.0.may a.0.within);
          kind_is = holds.kinds a.0.entity (seen_path scene around a.0.entity c.path) r (slot_seen a.0.entity c.path a.0.may a.0.within ∙ ap Some (sym a.0.register_is ∙ h));
        }
        from (c ∷ ms) a (inr h) = from ms a.1 h

    -- registers behind the block
    left_as : (r : ℕ) → given_at new.values.current.items r ≡ None → slice_index after r ≡ slice_index registers r
    left_as r is = ap (λ ss. slice_index (all_set ss registers) r) sets_are ∙ left_register x.first x.words new.values.log.items new.values.current.items registers r is

    set_to : (r v : ℕ) → given_at new.values.current.items r ≡ Some v → (g : IsGivenTo r v)
        → slice_index after r ≡ residue (2 ^ width_of (kind_at plan.registers r)) (last_effect.variables g.entity (seen_path scene around g.entity g.number))
    set_to r v is g =
        ap (λ ss. slice_index (all_set ss registers) r) sets_are
        ∙ (set_register x.first x.words new.values.log.items new.values.current.items registers r v is
        (subst (λ (l : List Change). HasRegister r l) (sym changes_are) (given_changed all_done.1.more new.values.current.items count r v (all_done.1.back ∙ made.put.none.current) is))
        (subst (λ (n : ℕ). n < length registers) (sym g.register_is)
        (let small = register_small scene around count holds.placing holds.small top.spread top.counted g.entity g.number g.seen g.within in
        let within = holds.within in let long = st.fit.long in omega (arith, small, within, long)))
        ∙ (ap (λ (w : Word). w.bits) g.shows ∙ ap (λ k. residue (2 ^ width_of k) (last_effect.variables g.entity (seen_path scene around g.entity g.number))) (sym g.kind_is)))

    fit_behind : FitKinds plan.registers after
    fit_behind = record {
      long = all_long (sets_of_block plan x.start block) registers ∙ st.fit.long;
      small = λ r. by r (given_at new.values.current.items r) refl;
    }
      where
        by : (r : ℕ) (o : Option ℕ) → given_at new.values.current.items r ≡ o → slice_index after r < 2 ^ width_of (kind_at plan.registers r)
        by r None is = subst (λ (n : ℕ). n < 2 ^ width_of (kind_at plan.registers r)) (sym (left_as r is)) (st.fit.small r)
        by r (Some v) is =
            let g = given_to r v is in
            subst (λ (n : ℕ). n < 2 ^ width_of (kind_at plan.registers r)) (sym (set_to r v is g))
            (residue-lt (2 ^ width_of (kind_at plan.registers r)) (last_effect.variables g.entity (seen_path scene around g.entity g.number)) (pow_pos (width_of (kind_at plan.registers r))))

    holding_behind : Holding plan.registers (slots_in scene) after last_effect.variables
    holding_behind e p r slot = by (given_at new.values.current.items r) refl
      where
        facts : IsSlot scene e p r
        facts = slot_facts scene e p r slot

        given : (v : ℕ) → given_at new.values.current.items r ≡ Some v → (g : IsGivenTo r v) → register_word plan.registers after r ≡ word_of (kind_at plan.registers r) (last_effect.variables e p)
        given v is g =
            let one = one_copy (placing_in scene) count g.entity e (seen_path scene around g.entity g.number) p holds.placing g.seen.there facts.there
            (copy_path scene around count holds.placing holds.small top.spread top.counted g.entity g.number g.seen g.within) facts.path
            (sym (register_slot scene around count holds.placing holds.small top.spread top.counted g.entity g.number g.seen g.within) ∙ (sym g.register_is ∙ facts.slot)) in
            ap (λ n. with_bits (kind_at plan.registers r) n) (set_to r v is g)
            ∙ (ap (λ i. word_of (kind_at plan.registers r) (last_effect.variables i (seen_path scene around g.entity g.number))) one.0
            ∙ ap (λ (q : Path). word_of (kind_at plan.registers r) (last_effect.variables e q)) one.1)

        left : given_at new.values.current.items r ≡ None → ((any_assigns e all ≡ true) ⊎ (any_assigns e all ≡ false)) → register_word plan.registers after r ≡ word_of (kind_at plan.registers r) (last_effect.variables e p)
        left is (inr out) =
            ap (λ n. with_bits (kind_at plan.registers r) n) (left_as r is)
            ∙ (st.holding e p r slot ∙ ap (λ z. word_of (kind_at plan.registers r) z) (sym (commands_spare (begun_of x) e p (paths_on x around) all first_effect out)))
        left is (inl assigned) =
            let seen = assigned_seen cs (NamedBy scene around plan rounds done) (sound_all scene around plan rounds done folds sound) e assigned in
            let (i, (h, path)) = seen_at scene around count holds.placing holds.small top.spread top.counted e p seen facts.path in
            let same : register_in scene around e i ≡ r =
            register_slot scene around count holds.placing holds.small top.spread top.counted e i seen h ∙ (ap (λ (q : Path). slot_of (placing_in scene) e q) path ∙ sym facts.slot) in
            ap (λ n. with_bits (kind_at plan.registers r) n) (left_as r is)
            ∙ (sym (none_shown x new.values.current.items r is)
            ∙ (ap (λ n. variable_shown x new.values.current.items n) (sym same)
            ∙ (shown_seen e i seen h
            ∙ (ap (λ (q : Path). word_of (held_at scene.held.now e).kind (last_effect.variables e q)) path
            ∙ ap (λ k. word_of k (last_effect.variables e p)) (sym (holds.kinds e p r slot))))))

        by : (o : Option ℕ) → given_at new.values.current.items r ≡ o → register_word plan.registers after r ≡ word_of (kind_at plan.registers r) (last_effect.variables e p)
        by None is = left is (cases_Bool (any_assigns e all))
        by (Some v) is = given v is (given_to r v is)

    does_last : DoesEffect plan (slots_in scene) block x.start last_effect
    does_last = record {
      fault = fault_named plan.faults (events_of_block plan x.start block) last_effect.events told_alike;
      writes = λ none. writes_told plan.faults (events_of_block plan x.start block) last_effect.events told_alike none;
      fit = λ none. fit_behind;
      holding = λ none. holding_behind;
    }

    pub does_effect : DoesEffect plan (slots_in scene) block (start_at plan registers memories) (source_effect plan.table memories rounds (commands all) variables)
    does_effect =
        subst (λ (ps : List Path). DoesEffect plan (slots_in scene) block (start_at plan registers memories) (commands_run (begun_of x) ps all first_effect)) (paths_are_rounds x rounds around top) does_last

  -- the block does its phase
  pub does_block : DoesBlock plan (slots_in scene) rounds (commands all) block
  does_block registers memories variables st = does_effect registers memories variables st
