-- Blocks as they were made are as long as their phases: what is asked of them stands where they were made.
use Rattle.std.proofs.Common.{◌≡◌, ◌⊎◌, inl, inr, ℕ, ◌+◌, ◌-◌, ◌<◌, ◌≤◌, Bool as Truth, true, false, List, [], ◌∷◌, length, Option, Some, None, refl, ap, sym, ◌∙◌, subst, arith}
use Rattle.std.specs.Prelude.{◌||◌, slice_get}
use Rattle.std.specs.List.{AllByRecursion}
use Rattle.dh_value.specs.declared.kinds.Kind.{Kind}
use Rattle.dh_tree.specs.declared.trees.expressions.Ref.{Ref}
use Rattle.dh_tree.specs.Memories.{table_of}
use Rattle.dh_tree.specs.PlainTrees.{Term}
use Rattle.dh_tree.specs.Seen.{program_seen}
use Rattle.dh_meaning.specs.AccessNumbers.{accesses_of, term_accesses}
use Rattle.dh_meaning.specs.CoreOf.{core_action, core_commands, core_term, entity_number}
use Rattle.dh_meaning.specs.Core.{no_commands}
use Rattle.dh_meaning.specs.OnePhase.{any_makes, makes}
use Rattle.dh_meaning.specs.Phases.{Located}
use Rattle.dh_plan.specs.Correspondence.{Round}
use Rattle.dh_plan.specs.PlanPhases.{commands_mention, term_mentions}
use Rattle.dh_sound.specs.SimpleForms.{FoldsInJoins}
use Rattle.dh_sound.proofs.Makes.{makes_within}
use Rattle.dh_expressions.specs.declared.accesses.Accesses.{Accesses}
use Rattle.dh_expressions.specs.declared.scenes.Around.{Around}
use Rattle.dh_expressions.specs.declared.scenes.Scene.{Scene}
use Rattle.dh_expressions.specs.Evaluated.{counter_of, known_in}
use Rattle.dh_expressions.specs.Noted.{touched_in}
use Rattle.dh_expressions.specs.Shown.{is_read_term}
use Rattle.dh_formed.specs.Formed.{FormedBlock}
use Rattle.dh_formed.specs.WholeBlocks.{block_of}
use Rattle.dh_commands.specs.LanesRun.{paths_counted}
use Rattle.dh_commands.specs.ShownVariables.{ArePlaced, IsSeen, depth_in, register_in}
use Rattle.dh_commands.specs.Undone.{given_at}
use Rattle.dh_blocks.specs.BlockGround.{IsGround}
use Rattle.dh_blocks.specs.SoundCommands.{IsOwnOf}
use Rattle.dh_blocks.specs.SoundTerms.{IsSound}
use Rattle.dh_blocks.proofs.CommandsFollow.{is_own}
use Rattle.dh_blocks.proofs.VariablesPlaced.{are_placed, register_small}
use Rattle.dh_laid.specs.BareCommands.{IsBare, IsBareFrom}
use Rattle.dh_laid.specs.BlockSites.{block_sites, term_sites, test_sites}
use Rattle.dh_laid.specs.LaidNumbers.{StoresReach}
use Rattle.dh_laid.specs.LaidQuiet.{BlockStandsIn}
use Rattle.dh_paced.specs.BlockLengths.{AssignsOwn, AssignsTo, HaveRegisters}
use Rattle.dh_paced.specs.Paced.{IsIn}
use Rattle.dh_paced.proofs.BlocksPaced.{straights_are_long, tests_are_long}
use Rattle.dh_paced.proofs.CoreAppended.{action_then_mentions}
use Rattle.dh_typed_laid.specs.SuitingBlocks.{FitsBlock, NamedHere, StandsSo}
use Rattle.dh_typed_laid.proofs.EachFormed.{made_commands_suit}
use Rattle.dh_typed_laid.proofs.TermsSuit.{term_suits}
use Rattle.dh_told.proofs.BlocksBegin.{bare_sites, bare_test, held_begins, noted_begins, round_begins}
use Rattle.dh_told.proofs.BlocksFormed.{all_reach, made_straights_are_formed, made_tests_are_formed, registers_within, test_has}
use Rattle.dh_told.specs.MeasuredBlocks.{FitsAlone, MadeStraightsAreLong, MadeTestsAreLong}
use Rattle.dh_told.proofs.BlocksUnread.{flag_extends, flag_unread, none_at, sets_extend, sets_unread}
use Rattle.dh_told.proofs.NamesMentioned.{action_names, assigns_own, simple_sound, term_names}

-- Accesses.

bare_in : (a : Accesses) (first count number : ℕ) → IsBareFrom a first count → IsIn first count number → touched_in a number ≡ None
bare_in a first count number h among =
    let low = among.0 in let high = among.1 in
    subst (λ (n : ℕ). touched_in a n ≡ None) (together first number low) (h (number - first) (omega (arith, low, high))).1
  where
    together : (m n : ℕ) → m ≤ n → m + (n - m) ≡ n
    together m n l = omega (arith, l)

bare_each : (a : Accesses) (cs : List Located) → AllByRecursion (IsBare a) cs → (number : ℕ) → any_makes number cs ≡ true → touched_in a number ≡ None
bare_each a [] h number m = absurd cc
bare_each a (c ∷ cs) h number m = by (makes number c.first c.command) refl m (λ g. bare_each a cs h.1 number g)
  where
    by : (b : Truth) → makes number c.first c.command ≡ b → (b || any_makes number cs) ≡ true → (any_makes number cs ≡ true → touched_in a number ≡ None) → touched_in a number ≡ None
    by true e g later = bare_in a c.first (accesses_of c.command) number h.0 (makes_within number c.first c.command e)
    by false e g later = later g

-- Suits.

all_fit : (x : FormedBlock) (scene : Scene) (around : Around) (rounds : List Round) (cs : List Located) → AllByRecursion (FitsAlone x scene around rounds) cs → AllByRecursion (FitsBlock x scene around rounds) cs
all_fit x scene around rounds [] h = tt
all_fit x scene around rounds (c ∷ cs) h = (h.0.fits, all_fit x scene around rounds cs h.1)

module _ (x : FormedBlock) (scene : Scene) (around : Around) (rounds : List Round) where
  abbrev Names : (ℕ → Truth) → Ref → Kind → Type 0
  Names touched = NamedHere x scene around rounds touched

  -- Names.

  -- a variable that is no iterator is seen
  abbrev SeenOr : ℕ → Type 0
  SeenOr e = counter_of scene e ≡ None → IsSeen scene around.levels.now e

  no_turn : (e : ℕ) {A B : Type 0} (a : A) (o : Option A) → o ≡ None → o ≡ Some a → B
  no_turn e a o f g = absurd cc

  name_seen : (touched : ℕ → Truth) (r : Ref) (k : Kind) → Names touched r k → SeenOr (entity_number r.entity)
  name_seen touched r k (inl plain) none = plain.seen
  name_seen touched r k (inr turned) none = no_turn (entity_number r.entity) turned.counter (counter_of scene (entity_number r.entity)) none turned.counted

  pub term_seen : (touched : ℕ → Truth) (n : ℕ) (t : Term) → IsSound (known_in scene) (table_of (program_seen scene.program.now)) (Names touched) t → (e : ℕ) → term_mentions e (core_term (known_in scene) n t) ≡ true → SeenOr e
  term_seen touched n t s e h = term_names scene (table_of (program_seen scene.program.now)) (Names touched) SeenOr (name_seen touched) n t s e h

  each_seen : (cs : List Located) → AllByRecursion (FitsBlock x scene around rounds) cs → (e : ℕ) → commands_mention e (core_commands (known_in scene) cs) ≡ true → SeenOr e
  each_seen [] h e m = absurd cc
  each_seen (c ∷ cs) h e m =
      by (commands_mention e (core_action (known_in scene) c.first c.command no_commands)) refl (sym (action_then_mentions (known_in scene) c.first c.command (core_commands (known_in scene) cs) e) ∙ m) (λ g. each_seen cs h.1 e g)
    where
      by : (b : Truth) → commands_mention e (core_action (known_in scene) c.first c.command no_commands) ≡ b → (b || commands_mention e (core_commands (known_in scene) cs)) ≡ true
          → (commands_mention e (core_commands (known_in scene) cs) ≡ true → SeenOr e) → SeenOr e
      by true f g later =
          action_names scene (table_of (program_seen scene.program.now)) (Names h.0.touched) SeenOr (name_seen h.0.touched) around.levels.now (λ d o none. o.seen) (IsSeen scene around.levels.now) (λ d s none. s) c.first c.command h.0.sound e f
      by false f g later = later g

  -- Registers.

  module _ (count : ℕ) (stands : StandsSo x scene count around) (in_scene : BlockStandsIn scene around) where
    placed : ArePlaced scene around
    placed = are_placed scene around count stands.holds.placing stands.holds.small stands.spread stands.counted

    ground : IsGround scene around
    ground = record { scopes = stands.holds.scopes; low = in_scene.low; spread = stands.spread; counted = stands.counted; one = placed.one }

    pub have_registers : (Mentioned : ℕ → Type 0) → ((e : ℕ) → Mentioned e → SeenOr e) → HaveRegisters scene around count Mentioned
    have_registers Mentioned seen = record {
      apart = λ e f i j a b e_none f_none in_i in_j same. (placed.apart e f i j (seen e a e_none) (seen f b f_none) in_i in_j same).0;
      room = λ e i a none in_i. register_small scene around count stands.holds.placing stands.holds.small stands.spread stands.counted e i (seen e a none) in_i;
    }

    own : (e : ℕ) → IsOwnOf scene around.levels.now e → (i j : ℕ) → i < paths_counted around → j < paths_counted around → register_in scene around e i ≡ register_in scene around e j → i ≡ j
    own e o = (is_own scene around ground placed e o).own

    -- a variable that is folded into is another at each path, or is not mentioned where all others are
    fold_own : (touched : ℕ → Truth) → ((e : ℕ) → touched e ≡ true) → (e first : ℕ) (t : Term) → IsSound (known_in scene) (table_of (program_seen scene.program.now)) (Names touched) t → IsSeen scene around.levels.now e → AssignsTo scene around e first t
    fold_own touched all e first t sound seen = by (term_mentions e (core_term (known_in scene) first t)) refl
      where
        full : (r : Ref) (k : Kind) → Names touched r k → counter_of scene (entity_number r.entity) ≡ None → length around.levels.now ≤ depth_in scene (entity_number r.entity)
        full r k (inr turned) none = no_turn (entity_number r.entity) turned.counter (counter_of scene (entity_number r.entity)) none turned.counted
        full r k (inl plain) none = free plain.free (all (entity_number r.entity))
          where
            free : {B : Type 0} → (touched (entity_number r.entity) ≡ false) ⊎ B → touched (entity_number r.entity) ≡ true → B
            free (inl f) g = absurd cc
            free (inr b) g = b

        by : (b : Truth) → term_mentions e (core_term (known_in scene) first t) ≡ b → AssignsTo scene around e first t
        by true m = (
          seen.no_counter,
          inl (own e (record {
            seen = seen;
            full = term_names scene (table_of (program_seen scene.program.now)) (Names touched) (λ (d : ℕ). counter_of scene d ≡ None → length around.levels.now ≤ depth_in scene d) full first t sound e m seen.no_counter;
          })),
        )
        by false m = (seen.no_counter, inr m)

    command_own : (c : Located) → FitsAlone x scene around rounds c → AssignsOwn scene around c.first c.command
    command_own c f = by f.alone
      where
        by : FoldsInJoins c.command ⊎ ((entity : ℕ) → f.fits.touched entity ≡ true) → AssignsOwn scene around c.first c.command
        by (inl simple) =
            assigns_own scene around (table_of (program_seen scene.program.now)) (Names f.fits.touched) own (λ e. ⊥) (λ e n t s never. absurd never) c.first c.command
            (simple_sound scene around.levels.now (table_of (program_seen scene.program.now)) (Names f.fits.touched) (IsSeen scene around.levels.now) c.command simple f.fits.sound)
        by (inr all) =
            assigns_own scene around (table_of (program_seen scene.program.now)) (Names f.fits.touched) own (IsSeen scene around.levels.now) (fold_own f.fits.touched all) c.first c.command f.fits.sound

    pub each_own : (cs : List Located) → AllByRecursion (FitsAlone x scene around rounds) cs → AllByRecursion (λ (c : Located). AssignsOwn scene around c.first c.command) cs
    each_own [] h = tt
    each_own (c ∷ cs) h = (command_own c h.0, each_own cs h.1)

-- Straight commands.

given_none : (current : List (Option ℕ)) → ((register : ℕ) → given_at current register ≡ None) → (register value : ℕ) → slice_get current register ≡ Some (Some value) → ⊥
given_none [] none register value e = absurd cc
given_none (o ∷ os) none register value e = never (given_at (o ∷ os) register) (none register) (given_of (o ∷ os) register value e)
  where
    never : (o : Option ℕ) → o ≡ None → o ≡ Some value → ⊥
    never o f g = absurd cc

    given_of : (current : List (Option ℕ)) (register value : ℕ) → slice_get current register ≡ Some (Some value) → given_at current register ≡ Some value
    given_of [] register value e = absurd cc
    given_of (o ∷ os) ℕ.zero value e = cc
    given_of (o ∷ os) (ℕ.suc register) value e = given_of os register value e

pub made_straights_are_long : MadeStraightsAreLong
made_straights_are_long scene plan count final rounds ls block shared m s =
    straights_are_long plan block scene m.around count shared ls m.before m.between m.after.draft m.made (record {
      whole = record { cut = s.cut; ordered = (made_straights_are_formed scene plan count final rounds ls block m s.cut s.registers s.stands fits).ordered; extends = sets_extend m.between m.after m.sets; unread = sets_unread m.between m.after m.sets };
      begins = record {
        some = s.stands.some;
        round = round_begins x m.before.draft scene m.around m.round.paths m.round.guards m.stands_in;
        free = λ path guard e. none_at m.round.paths path guard (ap (λ (gs : List (Option ℕ)). slice_get gs path) (sym m.round.guards) ∙ e);
        noted = noted_begins x m.before.draft m.before.accesses (bare_sites scene m.around ls m.before m.between m.made m.before.accesses reaches m.bare) m.counts;
        held = held_begins x m.before.draft m.before.values m.stands.clear (registers_within plan final _ s.registers m.stands.variables);
        given = given_none m.before.values.current.items m.stands.clear.none;
        long = m.stands.variables ∙ sym s.counted;
        bare = λ number t e. (bare_sites scene m.around ls m.before m.between m.made m.before.accesses reaches m.bare number t e).1;
      };
      bare = bare_each m.before.accesses ls m.bare;
      suits = (made_commands_suit x scene count m.around rounds ls m.before m.between m.made refl s.stands fits m.rising).1;
      reaches = reaches;
      rising = m.rising;
      assigns_own = each_own x scene m.around rounds count s.stands m.stands_in ls s.fits;
      variables = have_registers x scene m.around rounds count s.stands m.stands_in (λ e. commands_mention e (core_commands (known_in scene) ls) ≡ true) (each_seen x scene m.around rounds ls fits);
      shares = s.shares;
    })
  where
    x : FormedBlock
    x = block_of plan block (block_sites scene m.around ls m.before m.between m.made)

    fits : AllByRecursion (FitsBlock (block_of plan block (block_sites scene m.around ls m.before m.between m.made)) scene m.around rounds) ls
    fits = all_fit _ scene m.around rounds ls s.fits

    reaches : AllByRecursion (λ (c : Located). StoresReach c.command) ls
    reaches = all_reach _ scene rounds m.around ls fits

-- Tests.

pub made_tests_are_long : MadeTestsAreLong
made_tests_are_long scene plan count final rounds n t flag block shared m s =
    tests_are_long plan block scene m.around count shared n t m.before m.between m.after.draft m.next m.tests (record {
      made = m.made;
      whole = record {
        cut = s.cut;
        ordered = (made_tests_are_formed scene plan count final rounds s.touched n t flag block m s.cut s.registers s.stands s.sound s.typed s.truth).ordered;
        extends = flag_extends (is_read_term t) m.between.draft m.after.draft m.value flag m.adds;
        unread = flag_unread (is_read_term t) m.between.draft m.after.draft m.value flag m.adds;
      };
      begins = record {
        some = s.stands.some;
        round = round_begins x m.before.draft scene m.around m.round.paths m.round.guards m.stands_in;
        free = λ path guard e. none_at m.round.paths path guard (ap (λ (gs : List (Option ℕ)). slice_get gs path) (sym m.round.guards) ∙ e);
        noted = noted_begins x m.before.draft m.before.accesses (bare_test scene m.around n t m.before.accesses m.bare) m.counts;
        held = held_begins x m.before.draft m.before.values m.stands.clear (registers_within plan final _ s.registers m.stands.variables);
        given = given_none m.before.values.current.items m.stands.clear.none;
        long = m.stands.variables ∙ sym s.counted;
        bare = λ number q e. (bare_test scene m.around n t m.before.accesses m.bare number q e).1;
      };
      bare = λ number among. bare_in m.before.accesses n (term_accesses t) number m.bare among;
      suits = (
        s.truth,
        λ i l. term_suits x scene count m.around rounds s.touched s.stands t n s.sound s.typed (test_has (test_sites scene m.around n t) n (term_sites scene m.around t) (λ number. refl)) i l,
      );
      few = m.few;
      variables = have_registers x scene m.around rounds count s.stands m.stands_in (λ e. term_mentions e (core_term (known_in scene) n t) ≡ true) (term_seen x scene m.around rounds s.touched n t s.sound);
      shares = s.shares;
    })
  where
    x : FormedBlock
    x = block_of plan block (test_sites scene m.around n t)
