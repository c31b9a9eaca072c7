-- The block of straight commands: it begins and ends between two blocks, and stands where it was put down.
use Rattle.std.proofs.Common.{◌≡◌, inl, inr, ℕ, ◌+◌, ◌<◌, ◌≤◌, ◌^◌, List, [], ◌∷◌, ◌++◌, length, map, Some, None, replicate, refl, ap, sym, ◌∙◌, subst, arith}
use Rattle.std.specs.Prelude.{Option, slice_get, slice_index}
use Rattle.std.specs.List.{AllByRecursion}
use Rattle.std.proofs.lemmas.List.{length-append, length-replicate}
use Rattle.dh_base.specs.declared.outcomes.FaultKind.{FaultKind}
use Rattle.dh_base.specs.declared.places.Place.{Place}
use Rattle.dh_value.specs.declared.kinds.Kind.{Kind}
use Rattle.dh_tree.specs.PlainTrees.{Action}
use Rattle.dh_meaning.specs.AccessNumbers.{accesses_of}
use Rattle.dh_meaning.specs.Phases as source
use Rattle.dh_meaning.specs.Phases.{located}
use Rattle.dh_meaning.specs.Sites.{nothing_around}
use Rattle.dh_phases.specs.GatheredPhases.{Numbered}
use Rattle.dh_plan.specs.declared.operations.Operation.{Operation}
use Rattle.dh_plan.specs.Correspondence.{Round}
use Rattle.dh_expressions.specs.declared.accesses.Accesses.{Accesses}
use Rattle.dh_expressions.specs.declared.drafts.Draft.{Draft}
use Rattle.dh_expressions.specs.declared.paths.Paths.{Paths}
use Rattle.dh_expressions.specs.declared.scenes.Around.{Around}
use Rattle.dh_expressions.specs.declared.scenes.Scene.{Scene}
use Rattle.dh_expressions.specs.Copying.{AreNone}
use Rattle.dh_expressions.specs.Drafted.{Extends}
use Rattle.dh_expressions.proofs.Pushing.{extends_again, extends_self, in_front}
use Rattle.dh_commands.specs.declared.assignments.Change.{Change}
use Rattle.dh_commands.specs.declared.assignments.Values.{Values}
use Rattle.dh_commands.specs.declared.buildings.Building.{Building}
use Rattle.dh_commands.specs.Done.{DoesCommand}
use Rattle.dh_commands.specs.LanesRun.{paths_counted}
use Rattle.dh_commands.specs.MadeCommands.{MadeCommand}
use Rattle.dh_commands.specs.Undone.{AreReady, Changes, IsChange, given_at, undone}
use Rattle.dh_commands.proofs.ChangesBack.{changes_again, changes_none, ready_after}
use Rattle.dh_laid.specs.BareCommands.{AreRising, IsBare, IsBareFrom}
use Rattle.dh_laid.specs.BlockSites.{MadeEach}
use Rattle.dh_laid.specs.LaidAccesses.{Lays}
use Rattle.dh_laid.specs.LaidFaults.{IsFaultless}
use Rattle.dh_laid.specs.LaidNumbers.{StoresReach}
use Rattle.dh_laid.specs.LaidQuiet.{BlockStandsIn}
use Rattle.dh_laid.proofs.AccessesLaid.{commands_lay, each_lays, lays_again, lays_quiet}
use Rattle.dh_laid.proofs.CommandsNumbered.{reaching_number}
use Rattle.dh_laid.proofs.FaultsOwn.{faults_grow}
use Rattle.dh_gathering.specs.declared.blocks.Made.{Made}
use Rattle.dh_gathering.specs.Growing.{AreAllLaid, AreOwned, IsAtRest, IsClear, NamesFew}
use Rattle.dh_gathering.specs.MadeBlocks.{AccessNumbersAreFew, ArePathsInside, ArePathsOf, DoesCommands, SetsGiven, BlockStandsAt}
use Rattle.dh_gathering.specs.OpenAccesses.{AreOpen, AreUntouched, TouchesWithin}
use Rattle.dh_gathering.specs.PushedSets.{SetsLogged, settings}
use Rattle.dh_gathering.specs.Gathered.{AreLocated, DoesNumbered, MakesStraight, MakesStraightIn}
use Rattle.dh_gathering.proofs.AccessesOpen.{open_later, open_within, within_more, within_none, within_then}
use Rattle.dh_gathering.proofs.LoggedSets.{cleared_all, cleared_long, sets_logged}
use Rattle.dh_gathering.proofs.MadeGrows.{AddsBlock, block_grows, block_rests, block_stands}

-- whatever variable it is
abbrev pub AnyVariable : ℕ → Type 0
AnyVariable entity = Unit {0}

pub more_operations : (old new : Draft) (more : List Operation) → new.operations.items ≡ old.operations.items ++ more → new.faults ≡ old.faults → Extends old new
more_operations old new more operations faults = record {
  operations = λ n o at. subst (λ (os : List Operation). slice_get os n ≡ Some o) (sym operations) (in_front old.operations.items more n o at);
  faults = λ n f at. subst (λ (fs : List (FaultKind × Place)). slice_get fs n ≡ Some f) (sym faults) at;
  longer = least (length old.operations.items) (length more) (length new.operations.items) (ap (λ (l : List Operation). length l) operations ∙ length-append old.operations.items more);
}
  where
    least : (n m k : ℕ) → k ≡ n + m → n ≤ k
    least n m k e = omega (arith, e)

-- what stands round a block has paths
pub some_counted : (around : Around) (paths : ℕ) → around.guards.now ≡ replicate paths None → 0 < paths → 0 < paths_counted around
some_counted around paths guards some = subst (λ (n : ℕ). 0 < n) (sym (ap (λ (l : List (Option ℕ)). length l) guards ∙ length-replicate paths None)) some

-- few paths
pub few_counted : (around : Around) (paths : ℕ) → around.guards.now ≡ replicate paths None → paths < 2 ^ 63 → paths_counted around < 2 ^ 64
few_counted around paths guards few = subst (λ (n : ℕ). n < 2 ^ 64) (sym (ap (λ (l : List (Option ℕ)). length l) guards ∙ length-replicate paths None)) (omega (arith, few))

-- as many paths as guards that are there
pub paths_few : (guards : List (Option ℕ)) (paths : ℕ) → guards ≡ replicate paths None → length guards < 2 ^ 63 → paths < 2 ^ 63
paths_few guards paths are few = subst (λ (n : ℕ). n < 2 ^ 63) (ap (λ (l : List (Option ℕ)). length l) are ∙ length-replicate paths None) few

module _ (scene : Scene) (around : Around) where
  all_any : (May : ℕ → Type 0) (cs : List Change) → AllByRecursion (IsChange scene around May) cs → AllByRecursion (IsChange scene around AnyVariable) cs
  all_any May [] a = tt
  all_any May (c ∷ cs) a = (record { entity = a.0.entity; may = tt; within = a.0.within; register_is = a.0.register_is }, all_any May cs a.1)

  pub changes_any : (May : ℕ → Type 0) (old new : Values) → Changes scene around May old new → Changes scene around AnyVariable old new
  changes_any May old new h = record { more = h.more; log = h.log; back = h.back; long = h.long; marks = h.marks; each = all_any May h.more h.each; room = h.room; given = h.given }

  -- what commands leave
  pub record Leaves (old new : Building) : Type 0 where
    pub extends : Extends old.draft new.draft
    pub changes : AreReady old.values → Changes scene around AnyVariable old.values new.values

  leaves_none : (b : Building) → Leaves b b
  leaves_none b = record { extends = extends_self b.draft; changes = λ ready. changes_none scene around AnyVariable b.values }

  leaves_then : (a b c : Building) → Leaves a b → Leaves b c → Leaves a c
  leaves_then a b c h k = record {
    extends = extends_again a.draft b.draft c.draft h.extends k.extends;
    changes = λ ready.
        changes_again scene around AnyVariable a.values b.values c.values (h.changes ready) (k.changes (ready_after scene around AnyVariable a.values b.values (h.changes ready) ready));
  }

  leaves_one : (a : Action) (first next : ℕ) (old new : Building) → 0 < paths_counted around → first + accesses_of a < 2 ^ 32 → DoesCommand scene around a first next old new → Leaves old new
  leaves_one a first next old new some few h = record {
    extends = (h.so some few).extends;
    changes = λ ready. changes_any _ old.values new.values ((h.so some few).changes ready);
  }

  pub leaves_all : (items : List Numbered) (old new : Building) → 0 < paths_counted around → AllByRecursion (λ c. c.first + accesses_of c.command < 2 ^ 32) items → DoesNumbered scene around items old new → Leaves old new
  leaves_all [] old new some few same = subst (λ (b : Building). Leaves old b) (sym same) (leaves_none old)
  leaves_all (c ∷ cs) old new some few (mid, (next, (one, rest))) =
      leaves_then old mid new (leaves_one c.command c.first next old mid some few.0 one.0) (leaves_all cs mid new some few.1 rest)

  -- of commands of the definition
  pub does_located : (items : List Numbered) (ls : List source.Located) (old new : Building) → AreLocated items ls → DoesNumbered scene around items old new → DoesCommands scene around ls old new
  does_located [] [] old new beside does = does
  does_located [] (l ∷ ls) old new beside does = absurd beside
  does_located (c ∷ cs) [] old new beside does = absurd beside
  does_located (c ∷ cs) (l ∷ ls) old new (is, beside) (mid, (next, (one, rest))) = (
    mid,
    (
      next,
      (
        subst (λ (n : ℕ). DoesCommand scene around l.command n next old mid) is.first (subst (λ (a : Action). DoesCommand scene around a c.first next old mid) is.command one.0),
        does_located cs ls mid new beside rest,
      ),
    ),
  )

  -- and just that was put down for them
  pub made_located : (items : List Numbered) (ls : List source.Located) (old new : Building) → AreLocated items ls → DoesNumbered scene around items old new → MadeEach scene around ls old new
  made_located [] [] old new beside does = does
  made_located [] (l ∷ ls) old new beside does = absurd beside
  made_located (c ∷ cs) [] old new beside does = absurd beside
  made_located (c ∷ cs) (l ∷ ls) old new (is, beside) (mid, (next, (one, rest))) = (
    mid,
    (
      next,
      (
        subst (λ (n : ℕ). MadeCommand scene l.command around old mid n next) is.first (subst (λ (a : Action). MadeCommand scene a around old mid c.first next) is.command one.1),
        made_located cs ls mid new beside rest,
      ),
    ),
  )

  -- only their accesses have got operations
  touches_all : (items : List Numbered) (first last : ℕ) (old new : Building) → BlockStandsIn scene around → 0 < paths_counted around → AllByRecursion (λ c. c.first + accesses_of c.command < 2 ^ 32) items → AllByRecursion (λ c. StoresReach c.command) items
      → AreOpen old.accesses first last items → DoesNumbered scene around items old new → TouchesWithin old.accesses new.accesses first last
  touches_all [] first last old new stands some few reach bare same = subst (λ (b : Building). TouchesWithin old.accesses b.accesses first last) (sym same) (within_none old.accesses first last)
  touches_all (c ∷ cs) first last old new stands some few reach bare (mid, (next, (one, rest))) =
      within_then old.accesses mid.accesses new.accesses first last
      (within_more old.accesses mid.accesses c.first (c.first + accesses_of c.command) first last own bare.0 behind)
      (within_more mid.accesses new.accesses (c.first + accesses_of c.command) last first last
      (touches_all cs (c.first + accesses_of c.command) last mid new stands some few.1 reach.1
      (open_later old.accesses mid.accesses (c.first + accesses_of c.command) last c.first (c.first + accesses_of c.command) cs bare.1.1 own (inr (same_number (c.first + accesses_of c.command)))) rest)
      (more first c.first (accesses_of c.command) bare.0) (same_number last))
    where
      behind : c.first + accesses_of c.command ≤ last
      behind = open_within old.accesses (c.first + accesses_of c.command) last cs bare.1.1

      own : TouchesWithin old.accesses mid.accesses c.first (c.first + accesses_of c.command)
      own = record {
        long = (commands_lay scene c.command around old mid c.first next stands one.1).long;
        only = (reaching_number scene c.command around old mid c.first next one.1 reach.0 some few.0).1.only;
      }

      more : (n m k : ℕ) → n ≤ m → n ≤ m + k
      more n m k l = omega (arith, l)

      same_number : (n : ℕ) → n ≤ n
      same_number n = omega arith

-- where nothing is told of what stands round commands
located_alone : List Numbered → List source.Located
located_alone items = map (λ (c : Numbered). located nothing_around c.first c.command) items

beside_alone : (items : List Numbered) → AllByRecursion (λ c. c.first + accesses_of c.command < 2 ^ 32) items → AreLocated items (located_alone items)
unfolding located_alone
beside_alone [] few = tt
beside_alone (c ∷ cs) few = (record { command = refl; first = refl; few = few.0 }, beside_alone cs few.1)

-- commands without operations, as those of the definition

pub bare_from : (a : Accesses) (first count : ℕ) → AreUntouched a first (first + count) → IsBareFrom a first count
bare_from a first count h i within = h (first + i) (omega arith) (omega (arith, within))

pub bare_located : (a : Accesses) (first last : ℕ) (items : List Numbered) (ls : List source.Located) → AreLocated items ls → AreOpen a first last items → AllByRecursion (IsBare a) ls
bare_located a first last [] [] beside bare = tt
bare_located a first last [] (l ∷ ls) beside bare = absurd beside
bare_located a first last (c ∷ cs) [] beside bare = absurd beside
bare_located a first last (c ∷ cs) (l ∷ ls) (is, beside) bare = (
  subst (λ (n : ℕ). IsBareFrom a n (accesses_of l.command)) is.first (subst (λ (x : Action). IsBareFrom a c.first (accesses_of x)) is.command (bare_from a c.first (accesses_of c.command) bare.1.0)),
  bare_located a (c.first + accesses_of c.command) last cs ls beside bare.1.1,
)

pub rising_located : (a : Accesses) (first last : ℕ) (items : List Numbered) (ls : List source.Located) → AreLocated items ls → AreOpen a first last items → AreRising first ls
rising_located a first last [] [] beside bare = tt
rising_located a first last [] (l ∷ ls) beside bare = absurd beside
rising_located a first last (c ∷ cs) [] beside bare = absurd beside
rising_located a first last (c ∷ cs) (l ∷ ls) (is, beside) bare = (
  subst (λ (n : ℕ). first ≤ n) is.first bare.0,
  (
    is.few,
    subst (λ (n : ℕ). AreRising (n + accesses_of l.command) ls) is.first (subst (λ (x : Action). AreRising (c.first + accesses_of x) ls) is.command (rising_located a (c.first + accesses_of c.command) last cs ls beside bare.1.1)),
  ),
)

pub rising_lower : (first from : ℕ) (ls : List source.Located) → first ≤ from → AreRising from ls → AreRising first ls
rising_lower first from [] low h = tt
rising_lower first from (l ∷ ls) low h = (least h.0, h.1)
  where
    least : from ≤ l.first → first ≤ l.first
    least k = omega (arith, low, k)

pub reach_numbered : (items : List Numbered) (ls : List source.Located) → AreLocated items ls → AllByRecursion (λ l. StoresReach l.command) ls → AllByRecursion (λ c. StoresReach c.command) items
reach_numbered [] [] beside h = tt
reach_numbered [] (l ∷ ls) beside h = absurd beside
reach_numbered (c ∷ cs) [] beside h = absurd beside
reach_numbered (c ∷ cs) (l ∷ ls) (is, beside) h = (subst (λ (a : Action). StoresReach a) (sym is.command) h.0, reach_numbered cs ls beside h.1)

-- what was laid is laid while faults are only added
pub laid_later : (old new : Building) → Lays old.draft new.draft old.accesses new.accesses → AreAllLaid old → AreNone old.accesses.counts.items → AreAllLaid new
laid_later old new lays laid counts named holds short = lays.laid named holds short (laid named (λ n f at. holds n f (lays.extends.faults n f at)) short) counts

-- and each access has a fault of its own
pub owned_later : (old new : Building) → Lays old.draft new.draft old.accesses new.accesses → AreOwned old → AreOwned new
owned_later old new lays owned few = lays.own few (owned (within (length old.draft.faults) (length new.draft.faults) (faults_grow old.draft new.draft lays.extends) few))
  where
    within : (m n : ℕ) → m ≤ n → n ≤ 2 ^ 32 → m ≤ 2 ^ 32
    within m n l few = omega (arith, l, few)

-- registers that are set can have no fault
settings_faultless : (ss : List (ℕ × ℕ)) → AllByRecursion (λ (o : Operation). IsFaultless o.form) (settings ss)
settings_faultless [] = tt
settings_faultless (s ∷ ss) = (tt, settings_faultless ss)

pub few_located : (items : List Numbered) (ls : List source.Located) → AreLocated items ls → AllByRecursion AccessNumbersAreFew ls
few_located [] [] beside = tt
few_located [] (l ∷ ls) beside = absurd beside
few_located (c ∷ cs) [] beside = absurd beside
few_located (c ∷ cs) (l ∷ ls) (is, beside) = (is.few, few_located cs ls beside)

pub few_numbered : (items : List Numbered) (ls : List source.Located) → AreLocated items ls → AllByRecursion (λ c. c.first + accesses_of c.command < 2 ^ 32) items
few_numbered [] [] beside = tt
few_numbered [] (l ∷ ls) beside = absurd beside
few_numbered (c ∷ cs) [] beside = absurd beside
few_numbered (c ∷ cs) (l ∷ ls) (is, beside) = (few, few_numbered cs ls beside)
  where
    few : c.first + accesses_of c.command < 2 ^ 32
    few = subst (λ (n : ℕ). n + accesses_of c.command < 2 ^ 32) (sym is.first) (subst (λ (a : Action). l.first + accesses_of a < 2 ^ 32) (sym is.command) is.few)

-- The registers that were there are those of before.
pub same_registers : (old new : List Kind) → new ≡ old → (register : ℕ) (k : Kind) → slice_get old register ≡ Some k → slice_get new register ≡ Some k
same_registers old new same register k at = ap (λ (l : List Kind). slice_get l register) same ∙ at

pub not_longer : (n m : ℕ) → m ≡ n → n ≤ m
not_longer n m e = omega (arith, e)

module _ (scene : Scene) (paths : Paths) (old new : Made) (between after : Building) (items : List Numbered) (block start : ℕ) (around : Around)
    (levels : around.levels.now ≡ paths.levels.items) (guards : around.guards.now ≡ replicate paths.count None) (low : length around.levels.now < 2 ^ 63) (many : paths.count < 2 ^ 63)
    (does : DoesNumbered scene around items old.building between) (sets : SetsLogged between after)
    (building : new.building ≡ after) (starts : new.starts.items ≡ old.starts.items ++ start ∷ []) (registers : new.registers ≡ old.registers)
    (number_is : block ≡ length old.starts.items) (start_is : start ≡ length old.building.draft.operations.items) where
  module _ (rounds : List Round) (first last : ℕ) (inside : ArePathsInside scene rounds paths) (rest : IsAtRest old) (few : AllByRecursion (λ c. c.first + accesses_of c.command < 2 ^ 32) items)
      (reach : AllByRecursion (λ c. StoresReach c.command) items) (bare : AreOpen old.building.accesses first last items) where
    some : 0 < paths_counted around
    some = some_counted around paths.count guards inside.inside.some

    leaves : Leaves scene around old.building between
    leaves = leaves_all scene around items old.building between some few does

    stands_in : BlockStandsIn scene around
    stands_in = record { scopes = inside.told.scopes; low = low; few = few_counted around paths.count guards many }

    changes : Changes scene around AnyVariable old.building.values between.values
    changes = leaves.changes rest.clear.ready

    log_is : between.values.log.items ≡ changes.more
    log_is = changes.log ∙ ap (λ (l : List Change). l ++ changes.more) rest.clear.log

    none_before : (register : ℕ) → given_at (undone between.values.log.items between.values.current.items) register ≡ None
    none_before register =
        ap (λ (l : List Change). given_at (undone l between.values.current.items) register) log_is
        ∙ (ap (λ (os : List (Option ℕ)). given_at os register) changes.back ∙ rest.clear.none register)

    given_sets : SetsGiven between after
    given_sets = sets_logged between after sets none_before

    current_long : length after.values.current.items ≡ length old.building.values.current.items
    current_long = ap (λ (os : List (Option ℕ)). length os) sets.sets.current ∙ (cleared_long between.values.log.items between.values.current.items ∙ changes.long)

    clear_after : IsClear after.values
    clear_after = record {
      ready = record {
        unmarked = λ register. ap (λ ms. slice_index ms.items register) sets.sets.marks ∙ ready.unmarked register;
        long = ap (λ ms. length ms.items) sets.sets.marks ∙ (ready.long ∙ (changes.long ∙ sym current_long));
      };
      log = sets.log;
      none = λ register. ap (λ (os : List (Option ℕ)). given_at os register) sets.sets.current ∙ cleared_all between.values.log.items between.values.current.items register (none_before register);
    }
      where
        ready : AreReady between.values
        ready = ready_after scene around AnyVariable old.building.values between.values changes rest.clear.ready

    -- accesses are laid behind the commands, and setting registers touches none
    lays : Lays old.building.draft after.draft old.building.accesses after.accesses
    lays =
        lays_again old.building.draft between.draft after.draft old.building.accesses between.accesses after.accesses
        (each_lays scene around (located_alone items) old.building between stands_in (made_located scene around items (located_alone items) old.building between (beside_alone items few) does))
        (lays_quiet between.draft after.draft between.accesses after.accesses (more_operations between.draft after.draft _ given_sets.operations given_sets.faults) given_sets.faults
        (record { more = settings given_sets.sets; adds = given_sets.operations; each = settings_faultless given_sets.sets }) given_sets.accesses)

    touches : TouchesWithin old.building.accesses after.accesses first last
    touches =
        subst (λ (a : Accesses). TouchesWithin old.building.accesses a first last) (sym given_sets.accesses)
        (touches_all scene around items first last old.building between stands_in some few reach bare does)

    adds : AddsBlock old new
    adds = record {
      draft = subst (λ (b : Building). Extends old.building.draft b.draft) (sym building)
          (extends_again old.building.draft between.draft after.draft leaves.extends (more_operations between.draft after.draft _ given_sets.operations given_sets.faults));
      starts = starts ∙ ap (λ (n : ℕ). old.starts.items ++ n ∷ []) start_is;
      registers = same_registers old.registers new.registers registers;
      flags = λ register k at. inl (ap (λ (l : List Kind). slice_get l register) (sym registers) ∙ at);
      longer = not_longer (length old.registers) (length new.registers) (ap (λ (l : List Kind). length l) registers);
      variables = ap (λ (b : Building). length b.values.current.items) building ∙ current_long;
      few = subst (λ (b : Building). NamesFew old.building b) (sym building) (lays.long, lays.few);
      clear = subst (λ (b : Building). IsClear b.values) (sym building) clear_after;
      laid = subst (λ (b : Building). AreAllLaid b) (sym building) (laid_later old.building after lays rest.laid rest.counts);
      owned = subst (λ (b : Building). AreOwned b) (sym building) (owned_later old.building after lays rest.owned);
      counts = subst (λ (b : Building). AreNone b.accesses.counts.items) (sym building) (lays.none rest.counts);
    }

    pub straight_made : MakesStraight scene rounds old new first last items block
    straight_made = record {
      grows = block_grows old new adds;
      rest = block_rests old new adds rest;
      touches = subst (λ (b : Building). TouchesWithin old.building.accesses b.accesses first last) (sym building) touches;
      made = λ ls beside final more. record {
        around = around;
        round = record { paths = paths.count; levels = subst (λ ls. ArePathsOf rounds ls paths.count) (sym levels) inside.inside; guards = guards; small = many };
        before = old.building;
        between = between;
        after = after;
        stands = subst (λ (b : Building). BlockStandsAt final block old.building b) building (subst (λ (n : ℕ). BlockStandsAt final n old.building new.building) (sym number_is) (block_stands old new adds rest final more));
        few = few_located items ls beside;
        does = does_located scene around items ls old.building between beside does;
        stands_in = stands_in;
        made = made_located scene around items ls old.building between beside does;
        laid = λ short. rest.laid final.building.draft.faults (λ n f at. more.draft.faults n f (adds.draft.faults n f at)) short;
        counts = rest.counts;
        rising = rising_lower 0 first ls (least first) (rising_located old.building.accesses first last items ls beside bare);
        bare = bare_located old.building.accesses first last items ls beside bare;
        logged = sets;
        sets = given_sets;
      };
    }
      where
        least : (n : ℕ) → 0 ≤ n
        least n = omega arith

  pub straight_makes : MakesStraightIn scene paths old new items block
  straight_makes rounds first last inside rest few reach bare = straight_made rounds first last inside rest few reach bare
