-- Blocks are as long as their phases: no operation is there later than the greatest level, and where that is a read's, its
-- value is there then.
use Rattle.std.proofs.Common.{◌≡◌, ◌⊎◌, inl, inr, ℕ, zero, suc, ◌+◌, ◌<◌, ◌≤◌, true, false, Some, None, Option, List, [], ◌∷◌, length, map, refl, sym, ap, ◌∙◌, subst, arith}
use Rattle.std.specs.Prelude.{Bool as Truth, ◌-◌, ◌++◌, if◌then◌else◌, max, slice_get}
use Rattle.std.specs.List.{AllByRecursion}
use Rattle.std.proofs.lemmas.Bool.{cases_lt}
use Rattle.dh_tree.specs.declared.trees.counters.Counter.{Counter}
use Rattle.dh_tree.specs.PlainTrees.{Term}
use Rattle.dh_meaning.specs.AccessNumbers.{term_accesses}
use Rattle.dh_meaning.specs.CoreOf.{core_commands, core_term}
use Rattle.dh_meaning.specs.Effects.{commands}
use Rattle.dh_meaning.specs.Levels.{Leveled, Levels, block_length, level_ground}
use Rattle.dh_meaning.specs.OnePhase.{any_makes}
use Rattle.dh_meaning.specs.Phases.{Located}
use Rattle.dh_code.specs.Slots.{held_at}
use Rattle.dh_plan.specs.declared.operations.Operation.{Operation}
use Rattle.dh_plan.specs.LegalSchedules.{block_clocks, greatest_number, is_read, last_clock, least_clocks, there_at}
use Rattle.dh_plan.specs.Ordered.{IsBetween, TakesEarlier, operation_takes}
use Rattle.dh_plan.specs.PlainPlans.{PlainPlan, first_in, operations_in}
use Rattle.dh_plan.specs.PlanPhases.{commands_mention, term_mentions}
use Rattle.dh_expressions.specs.declared.accesses.Accesses.{Accesses}
use Rattle.dh_expressions.specs.declared.accesses.Touched.{Touched}
use Rattle.dh_expressions.specs.declared.drafts.Draft.{Draft}
use Rattle.dh_expressions.specs.declared.scenes.Around.{Around}
use Rattle.dh_expressions.specs.declared.scenes.Scene.{Scene}
use Rattle.dh_expressions.specs.Evaluated.{counter_of, known_in}
use Rattle.dh_expressions.specs.Noted.{given_in, given_to, touched_in}
use Rattle.dh_expressions.proofs.ListPlaces.{there}
use Rattle.dh_formed.specs.Counted.{given_at_paths, length_given}
use Rattle.dh_formed.specs.Formed.{Agrees, AreNotedReads, BlockSite}
use Rattle.dh_formed.specs.Timed.{AgreeInTime, BlockClocks, CurrentAt, GuardAt, HasClock, VariableAt, Within, clock_of, leveled}
use Rattle.dh_formed.specs.WholeBlocks.{IsCut, least_clocks_of}
use Rattle.dh_formed.proofs.BlocksWhole.{blocks_agree, blocks_agree_in_time, lengths_least, lengths_most}
use Rattle.dh_formed.proofs.LevelsBehind.{levels_behind}
use Rattle.dh_formed.proofs.ReadsCounted.{given_here}
use Rattle.dh_formed.proofs.ValuesFormed.{agrees_before}
use Rattle.dh_formed.proofs.ValuesTimed.{agree_before}
use Rattle.dh_commands.specs.declared.buildings.Building.{Building}
use Rattle.dh_commands.specs.LanesRun.{lane_of, paths_counted}
use Rattle.dh_commands.specs.ShownVariables.{register_in}
use Rattle.dh_laid.specs.BlockSites.{MadeEach, block_sites, test_sites}
use Rattle.dh_laid.proofs.PathsLaid.{tests_form}
use Rattle.dh_paced.specs.BlockLengths.{BlockBegins, HaveRegisters, IsStraightPaced, IsTestPaced, IsWholeBut, ShareWithin, StraightsAreLong, TestsAreLong}
use Rattle.dh_paced.specs.Paced.{IsIn, IsReadOfEach, each_levels, outer_each}
use Rattle.dh_paced.specs.Standing.{IsGround, OwnsTerm, Paces, StandsFor}
use Rattle.dh_paced.proofs.CoreAppended.{each_leveled}
use Rattle.dh_paced.proofs.EachPaced.{EachPaced, each_below, each_go, each_paced, end_of, read_of_each}
use Rattle.dh_paced.proofs.ReadsHaveSites.{HasSite, each_read_site, test_read_site}
use Rattle.dh_paced.proofs.TestsPaced.{TestsPaced, tests_paced}

-- Operations behind what was put down that read nothing are there no later.

greatest_few : (f : ℕ → ℕ) (k : ℕ) (ns : List ℕ) → AllByRecursion (λ n. f n ≤ k) ns → greatest_number (map f ns) ≤ k
greatest_few f k [] all = omega arith
greatest_few f k (n ∷ ns) all = join (f n) (greatest_number (map f ns)) all.0 (greatest_few f k ns all.1)
  where
    join : (a b : ℕ) → a ≤ k → b ≤ k → max a b ≤ k
    join a b e h = omega (arith, e, h)

all_to : (P Q : ℕ → Type 0) → ((n : ℕ) → P n → Q n) → (ns : List ℕ) → AllByRecursion P ns → AllByRecursion Q ns
all_to P Q f [] a = tt
all_to P Q f (n ∷ ns) a = (f n a.0, all_to P Q f ns a.1)

still_there : (o : Operation) (k : ℕ) → is_read o.form ≡ false → there_at o.form k ≡ k
still_there o k is = by (is_read o.form) is
  where
    by : (b : Truth) → b ≡ false → (if b then suc k else k) ≡ k
    by true e = absurd (cc)
    by false e = refl

get_behind : (xs ys : List Operation) (n : ℕ) → length xs ≤ n → slice_get (xs ++ ys) n ≡ slice_get ys (n - length xs)
get_behind [] ys n from = ap (λ (k : ℕ). slice_get ys k) (whole n)
  where
    whole : (n : ℕ) → n ≡ n - 0
    whole n = omega arith
get_behind (x ∷ xs) ys zero from = absurd (never (length xs) from)
  where
    never : (l : ℕ) → suc l ≤ 0 → ⊥
    never l h = omega (arith, h)
get_behind (x ∷ xs) ys (suc n) from = get_behind xs ys n (fewer (length xs) from) ∙ ap (λ (k : ℕ). slice_get ys k) (same (length xs) n)
  where
    fewer : (l : ℕ) → suc l ≤ suc n → l ≤ n
    fewer l h = omega (arith, h)

    same : (l k : ℕ) → k - l ≡ suc k - suc l
    same l k = omega arith

cut_place : (plan : PlainPlan) (block : ℕ) (old end : Draft) → IsCut plan block old end → (n : ℕ) → first_in plan block ≤ n → slice_get end.operations.items n ≡ slice_get (operations_in plan block) (n - first_in plan block)
cut_place plan block old end cut n from =
    ap (λ (os : List Operation). slice_get os n) cut.operations
    ∙ (get_behind old.operations.items (operations_in plan block) n (subst (λ (k : ℕ). k ≤ n) cut.first from) ∙ ap (λ (k : ℕ). slice_get (operations_in plan block) (n - k)) (sym cut.first))

module _ (plan : PlainPlan) (block : ℕ) (old new end : Draft) (c : BlockClocks) (first_is : c.block.first ≡ first_in plan block) (w : IsWholeBut plan block old new end) (agree : AgreeInTime c end) (k : ℕ) (within : Within c old new k) where
  -- an operation of the block, by its number
  place_is : (i : ℕ) → c.block.first ≤ i → i < length end.operations.items → (o : Operation) × ((slice_get end.operations.items i ≡ Some o) × TakesEarlier (first_in plan block) i o)
  place_is i from below =
      let found : (o : Operation) × (slice_get end.operations.items i ≡ Some o) = there end.operations.items i below in
      let low : first_in plan block ≤ i = subst (λ (n : ℕ). n ≤ i) first_is from in
      (found.0, (found.1, subst (λ (n : ℕ). TakesEarlier (first_in plan block) n found.0) (together low) (w.ordered.each (i - first_in plan block) found.0 (sym (cut_place plan block old end w.cut i low) ∙ found.1))))
    where
      together : first_in plan block ≤ i → first_in plan block + (i - first_in plan block) ≡ i
      together l = omega (arith, l)

  one_behind : (i : ℕ) → ((j : ℕ) → j < i → c.block.first ≤ j → clock_of c j ≤ k) → c.block.first ≤ i → i < length end.operations.items → clock_of c i ≤ k
  one_behind i earlier from below = by (cases_lt i (length new.operations.items))
    where
      old_first : length old.operations.items ≤ i
      old_first = let e = w.cut.first in omega (arith, e, first_is, from)

      by : (i < length new.operations.items) ⊎ (length new.operations.items ≤ i) → clock_of c i ≤ k
      by (inl less) = within i old_first less
      by (inr more) =
          let found = place_is i from below in
          subst (λ (n : ℕ). n ≤ k)
          (sym (agree.each i found.0 from found.1.0 ∙ still_there found.0 (greatest_number (map (clock_of c) (operation_takes found.0))) (w.unread i found.0 more found.1.0)))
          (greatest_few (clock_of c) k (operation_takes found.0)
          (all_to (IsBetween (first_in plan block) i) (λ n. clock_of c n ≤ k) (λ n b. earlier n b.1 (subst (λ (m : ℕ). m ≤ n) (sym first_is) b.0)) (operation_takes found.0) found.1.1))

  all_behind : (n : ℕ) (i : ℕ) → i < n → c.block.first ≤ i → i < length end.operations.items → clock_of c i ≤ k
  all_behind zero i less from below = absurd (never less)
    where
      never : i < 0 → ⊥
      never l = omega (arith, l)
  all_behind (suc n) i less from below = one_behind i (λ j l f. all_behind n j (omega (arith, l, less)) f (omega (arith, l, below))) from below

  pub within_end : Within c old end k
  within_end = λ i far less. all_behind (suc i) i (omega arith) (let e = w.cut.first in omega (arith, e, first_is, far)) less

-- The begin of a block.

untouched : (a : Accesses) (number : ℕ) → touched_in a number ≡ None → given_at_paths a number ≡ 0
untouched a number none = ap (λ (o : Option Touched). length_given o) none

module _ (c : BlockClocks) (scene : Scene) (top : Around) (spaces : ℕ) (shared : ℕ → Option ℕ) (Variable Read Own : ℕ → Type 0) (old : Building) (b : BlockBegins c.block scene top spaces old) where
  ground_of : HaveRegisters scene top spaces Variable → ShareWithin scene shared Own Read → IsGround c scene top spaces shared Variable Read Own
  ground_of v s = record { some = b.some; apart = v.apart; room = v.room; shares = s.told; earlier = s.earlier }

  stands_begun : (first : ℕ) → c.block.first ≤ length old.draft.operations.items → ((e : ℕ) → Read e → first ≤ e) → ((m : ℕ) → Own m → touched_in old.accesses m ≡ None) → StandsFor c scene top spaces shared Variable Read Own top old 0 first level_ground
  stands_begun first started reads bare = record {
    under = record { levels = refl; counted = refl };
    started = started;
    round = b.round;
    noted = b.noted;
    held = b.held;
    long = b.long;
    guards = λ path guard at. subst (λ (o : Option ℕ). GuardAt c 0 o) (sym (b.free path guard at)) refl;
    bounded = record { variables = λ e. omega arith; reads = λ m. omega arith };
    outer_few = omega arith;
    in_time = record {
      given = λ number path value s site is. absurd (never_given number path value (b.bare number s site) is);
      guards = λ number t s site is path copy at leads. absurd (never_touched number t (b.bare number s site) is);
    };
    current = λ e i is within. none_current e i (counter_of scene e);
    given = record { done = λ e read less. absurd (let f = reads e read in never e f less); rest = λ m is from. untouched old.accesses m (bare m is) };
  }
    where
      never : (e : ℕ) → first ≤ e → e < first → ⊥
      never e f l = omega (arith, f, l)

      never_given : (number path value : ℕ) → touched_in old.accesses number ≡ None → given_in old.accesses number path ≡ Some value → ⊥
      never_given number path value none is = let e : None ≡ Some value = sym (ap (λ (o : Option Touched). given_to o path) none) ∙ is in cc

      never_touched : (number : ℕ) (t : Touched) → touched_in old.accesses number ≡ None → touched_in old.accesses number ≡ Some t → ⊥
      never_touched number t none is = let e : None ≡ Some t = sym none ∙ is in cc

      no_current : (o : Option (Option ℕ)) (r : ℕ) → slice_get old.values.current.items r ≡ o → CurrentAt c o 0
      no_current None r e = refl
      no_current (Some None) r e = refl
      no_current (Some (Some value)) r e = absurd (b.given r value e)

      none_current : (e i : ℕ) (o : Option Counter) → VariableAt c o (held_at scene.held.now e) (lane_of top i) old.values.current.items 0
      none_current e i None = no_current (slice_get old.values.current.items (register_in scene top e i)) (register_in scene top e i) refl
      none_current e i (Some counter) = refl

-- The end.

module _ (plan : PlainPlan) (block : ℕ) (scene : Scene) (top : Around) (spaces : ℕ) (shared : ℕ → Option ℕ) (Variable Read Own : ℕ → Type 0) (sites : ℕ → Option BlockSite) (reads outer : ℕ → ℕ) (old new : Building) (end : Draft)
    (w : IsWholeBut plan block old.draft new.draft end) (some : 0 < paths_counted top) where
  abbrev own : BlockClocks
  own = least_clocks_of plan block sites reads outer

  -- the block is no shorter than a read of it
  read_within : (l : Levels) (next k : ℕ) → Paces own scene top spaces shared Variable Read Own old new l next → AreNotedReads own.block new.draft new.accesses → block_clocks plan block ≡ suc k → (m : ℕ) → Read m → m < next → HasSite sites m → reads m ≤ k
  read_within l next k p noted is m read less site =
      let gave : (v : ℕ) × (given_in new.accesses m 0 ≡ Some v) = given_here new.accesses m 0 (subst (λ (n : ℕ). 0 < n) (sym (p.given.done m read less)) some) in
      let at : HasClock own (reads m) gave.0 = p.in_time.given m 0 gave.0 site.0 site.1 gave.1 in
      let kind = noted.given m 0 gave.0 site.0 site.1 gave.1 in
      let longer = w.extends.longer in
      let few : suc (clock_of own gave.0) ≤ block_clocks plan block =
      lengths_least plan block sites reads outer old.draft end w.cut gave.0 (let f = kind.from in let e = w.cut.first in omega (arith, f, e)) (let b = kind.below in omega (arith, b, longer)) in
      omega (arith, at, few, is)

  pub length_is : (l : Levels) (next : ℕ) → Paces own scene top spaces shared Variable Read Own old new l next → AreNotedReads own.block new.draft new.accesses → AgreeInTime own end → ((m : ℕ) → Read m → (m < next) × (HasSite sites m × (l.reads m ≡ reads m)))
      → ((k : ℕ) → ((m : ℕ) → Read m → l.reads m ≤ k) → l.most ≤ k) → block_clocks plan block ≡ suc l.most
  length_is l next p noted agree all least =
      same last l.most (lengths_most plan block sites reads outer old.draft end w.cut l.most (within_end plan block old.draft new.draft end own refl w agree l.most p.within))
      (least last (λ m read. subst (λ (n : ℕ). n ≤ last) (sym (all m read).1.1) (read_within l next last p noted refl m read (all m read).0 (all m read).1.0)))
    where
      last : ℕ
      last = last_clock (operations_in plan block) (least_clocks (first_in plan block) [] [] (operations_in plan block))

      same : (a b : ℕ) → suc a ≤ suc b → b ≤ a → suc a ≡ suc b
      same a b few more = omega (arith, few, more)

-- Straight commands.

module _ (plan : PlainPlan) (block : ℕ) (scene : Scene) (around : Around) (spaces : ℕ) (shared : ℕ → Option ℕ) (cs : List Located) (old new : Building) (end : Draft) (m : MadeEach scene around cs old new)
    (h : IsStraightPaced plan block scene around spaces shared cs old new end m) where
  abbrev sites_here : (number : ℕ) → Option BlockSite
  sites_here number = block_sites scene around cs old new m number

  abbrev levels_here : Levels
  levels_here = each_levels (known_in scene) shared cs level_ground

  abbrev outer_here : (number : ℕ) → ℕ
  outer_here number = outer_each (known_in scene) shared cs level_ground number

  abbrev clocks_here : BlockClocks
  clocks_here = least_clocks_of plan block sites_here levels_here.reads outer_here

  abbrev Made : ℕ → Type 0
  Made number = any_makes number cs ≡ true

  abbrev Mentioned : ℕ → Type 0
  Mentioned e = commands_mention e (core_commands (known_in scene) cs) ≡ true

  ground_here : IsGround clocks_here scene around spaces shared Mentioned (IsReadOfEach (known_in scene) cs) Made
  ground_here = ground_of clocks_here scene around spaces shared Mentioned (IsReadOfEach (known_in scene) cs) Made old h.begins h.variables h.shares

  agree_end : AgreeInTime clocks_here end
  agree_end = (blocks_agree_in_time plan block sites_here levels_here.reads outer_here old.draft end h.whole.cut h.whole.ordered).0

  agrees_new : Agrees clocks_here.block new.draft
  agrees_new = agrees_before clocks_here.block new.draft end h.whole.extends (blocks_agree plan block sites_here old.draft end h.whole.cut).0

  least_from : (e : ℕ) → 0 ≤ e
  least_from e = omega arith

  begun_here : StandsFor clocks_here scene around spaces shared Mentioned (IsReadOfEach (known_in scene) cs) Made around old 0 0 level_ground
  begun_here =
      stands_begun clocks_here scene around spaces shared Mentioned (IsReadOfEach (known_in scene) cs) Made old h.begins 0 (let e = h.whole.cut.first in omega (arith, e)) (λ e read. least_from e) h.bare

  all_paced : EachPaced clocks_here scene around spaces shared Mentioned (IsReadOfEach (known_in scene) cs) Made ground_here old new levels_here (end_of 0 cs)
  all_paced =
      each_paced clocks_here scene around spaces shared Mentioned (IsReadOfEach (known_in scene) cs) Made ground_here cs 0 old new m level_ground h.reaches h.rising h.suits h.assigns_own begun_here (λ x i. i) (λ x from. refl) (λ e read from. read) (λ e mentioned. mentioned)
      (λ x s at. refl) agrees_new (agree_before clocks_here new.draft end h.whole.extends agree_end)

  straight_length : block_clocks plan block ≡ block_length shared (commands (core_commands (known_in scene) cs))
  straight_length =
      length_is plan block scene around spaces shared Mentioned (IsReadOfEach (known_in scene) cs) Made sites_here levels_here.reads outer_here old new end h.whole h.begins.some levels_here (end_of 0 cs) all_paced.paces all_paced.noted agree_end
      (λ i read. (each_below 0 cs h.rising i (read_of_each (known_in scene) cs h.reaches i read), (each_read_site scene around cs old new m h.reaches i read, refl)))
      (λ k reads. (each_go scene shared cs 0 level_ground h.reaches h.rising).least k (omega arith) reads)
      ∙ ap (λ (l : Levels). suc l.most) (each_leveled (known_in scene) shared cs level_ground)

pub straights_are_long : StraightsAreLong
straights_are_long plan block scene around spaces shared cs old new end m h = straight_length plan block scene around spaces shared cs old new end m h

-- Tests.

module _ (plan : PlainPlan) (block : ℕ) (scene : Scene) (around : Around) (spaces : ℕ) (shared : ℕ → Option ℕ) (first : ℕ) (t : Term) (old new : Building) (end : Draft) (next : ℕ) (values : List ℕ)
    (h : IsTestPaced plan block scene around spaces shared first t old new end next values) where
  abbrev sites_test : (number : ℕ) → Option BlockSite
  sites_test number = test_sites scene around first t number

  abbrev made : Leveled
  made = leveled scene shared 0 first t level_ground

  abbrev none_outer : (number : ℕ) → ℕ
  none_outer number = 0

  abbrev clocks_test : BlockClocks
  clocks_test = least_clocks_of plan block sites_test made.levels.reads none_outer

  abbrev Named : ℕ → Type 0
  Named e = term_mentions e (core_term (known_in scene) first t) ≡ true

  abbrev InTest : ℕ → Type 0
  InTest number = IsIn first (term_accesses t) number

  ground_test : IsGround clocks_test scene around spaces shared Named InTest InTest
  ground_test = ground_of clocks_test scene around spaces shared Named InTest InTest old h.begins h.variables h.shares

  agree_test : AgreeInTime clocks_test end
  agree_test = (blocks_agree_in_time plan block sites_test made.levels.reads none_outer old.draft end h.whole.cut h.whole.ordered).0

  agrees_test : Agrees clocks_test.block new.draft
  agrees_test = agrees_before clocks_test.block new.draft end h.whole.extends (blocks_agree plan block sites_test old.draft end h.whole.cut).0

  started_test : clocks_test.block.first ≤ length old.draft.operations.items
  started_test = let e = h.whole.cut.first in omega (arith, e)

  begun_test : StandsFor clocks_test scene around spaces shared Named InTest InTest around old 0 first level_ground
  begun_test = stands_begun clocks_test scene around spaces shared Named InTest InTest old h.begins first started_test (λ e read. read.0) h.bare

  own_test : OwnsTerm clocks_test scene around spaces shared Named InTest InTest 0 first t
  own_test = record { are = record { own = λ i among. among; outers = λ i among. refl }; names = λ e mentioned. mentioned }

  test_paced : TestsPaced clocks_test scene around spaces shared Named InTest InTest ground_test around 0 first level_ground old begun_test t h.few own_test (λ i s at less. refl) new values
  test_paced =
      tests_paced clocks_test scene around spaces shared Named InTest InTest ground_test around 0 first level_ground old begun_test t h.few own_test (λ i s at less. refl) new next values h.made agrees_test
      (agree_before clocks_test new.draft end h.whole.extends agree_test) h.suits.1

  test_noted : AreNotedReads clocks_test.block new.draft new.accesses
  test_noted =
      ((tests_form scene around first t (paths_counted around) old new next values h.few h.suits.0 (omega arith) h.made).forms clocks_test.block agrees_test started_test h.begins.round h.begins.noted h.begins.held.held h.suits.1).there.notes

  test_length : block_clocks plan block ≡ suc made.levels.most
  test_length =
      length_is plan block scene around spaces shared Named InTest InTest sites_test made.levels.reads none_outer old new end h.whole h.begins.some made.levels (first + term_accesses t) test_paced.paces test_noted agree_test
      (λ i read. (read.1, (test_read_site scene around first t i read, refl)))
      (λ k reads. (levels_behind scene shared 0 t first level_ground).least k (omega arith) (λ i from below. reads i (from, below)))

pub tests_are_long : TestsAreLong
tests_are_long plan block scene around spaces shared first t old new end next values h = test_length plan block scene around spaces shared first t old new end next values h
