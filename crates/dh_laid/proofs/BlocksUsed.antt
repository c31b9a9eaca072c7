-- Blocks, command by command: what all of them use and probe, by the sites of the block.
use Rattle.std.proofs.Common.{◌≡◌, ◌⊎◌, inl, inr, ◌<◌, ◌≤◌, ◌+◌, ◌-◌, ℕ, List, Some, None, ap, sym, ◌∙◌, subst, length, arith, refl}
use Rattle.std.specs.Prelude.{◌&&◌, nat_le, nat_lt, Bool as Truth, true, false, if◌then◌else◌, [], ◌∷◌, Option, option_map, slice_get}
use Rattle.std.proofs.lemmas.Bool.{cases_lt}
use Rattle.std.proofs.lemmas.Bool.Decides.{nat_tests}
use Rattle.std.proofs.lemmas.List.{length-map}
use Rattle.std.proofs.lemmas.Option.{slice_get-map}
use Rattle.dh_meaning.specs.AccessNumbers.{accesses_of, term_accesses}
use Rattle.dh_meaning.specs.Phases.{Located}
use Rattle.dh_expressions.specs.declared.accesses.Accesses.{Accesses}
use Rattle.dh_expressions.specs.declared.accesses.Touched.{Touched}
use Rattle.dh_expressions.specs.declared.drafts.Draft.{Draft}
use Rattle.dh_expressions.specs.declared.scenes.Around.{Around}
use Rattle.dh_expressions.specs.declared.scenes.Scene.{Scene}
use Rattle.dh_expressions.proofs.ListPlaces.{place_within, there}
use Rattle.dh_formed.specs.Counted.{given_at_paths, length_given, ranged}
use Rattle.dh_formed.specs.Formed.{BlockSite}
use Rattle.dh_commands.specs.declared.buildings.Building.{Building}
use Rattle.dh_commands.specs.LanesRun.{paths_counted}
use Rattle.dh_commands.specs.MadeCommands.{MadeCommand}
use Rattle.dh_laid.specs.BlockSites.{MadeEach, all_there, block_sites, command_sites, one_site, places_from, site_or, sites_from, term_sites, test_sites}
use Rattle.dh_laid.specs.LaidNumbers.{IsOutsideRange, NumbersLaid}
use Rattle.dh_laid.specs.LaidProbes.{AddsProbes}
use Rattle.dh_laid.specs.LaidQuiet.{BlockStandsIn}
use Rattle.dh_laid.specs.LaidUses.{AddsLedUses, AddsUses, AreAlong, HaveNoOperations, BlocksLead, BlocksProbe, BlocksUse, PathsLead, SharesInside, TestsLead, TestsProbe, TestsUse, WritesAlone, probed_by, used_by, used_to}
use Rattle.dh_laid.proofs.CommandsNumbered.{command_reached}
use Rattle.dh_laid.proofs.CommandsProbe as probe
use Rattle.dh_laid.proofs.CommandsProbe.{often, probes_again, tests_probed}
use Rattle.dh_laid.proofs.CommandsUsed.{AreSites, Used, command_used, sites_are, tests_used}
use Rattle.dh_laid.proofs.ProbesSited.{command_sited, probes_same, same_within}
use Rattle.dh_laid.proofs.ReadsUsed.{AreLed}
use Rattle.dh_laid.proofs.SitesLaid.{PlacesAgree, block_sites_low, command_sites_long, places_low, places_own, places_past, sites_low, sites_own, term_sites_long}
use Rattle.dh_laid.proofs.UsesAdded.{none_none, used_nowhere, uses_again, uses_same}

-- What is asked of a number and its site, 0 where it has none, over numbers from a first one on: the part of it that is
-- counted within a range is the whole of what stands there.
module _ (f : Option BlockSite → (access : ℕ) → ℕ) (nothing : (access : ℕ) → f None access ≡ 0) (first : ℕ) (ss : List (Option BlockSite)) (count : ℕ) (long : length ss ≡ count) (access : ℕ) where
  abbrev here : Option BlockSite
  here = places_from first ss access

  is_inside : first ≤ access → access < first + count → (nat_le first access && nat_lt access (first + count)) ≡ true
  is_inside from below = grind (arith, nat_tests, from, below)

  is_below : access < first → (nat_le first access && nat_lt access (first + count)) ≡ false
  is_below low = grind (arith, nat_tests, low)

  is_past : first + count ≤ access → (nat_le first access && nat_lt access (first + count)) ≡ false
  is_past far = grind (arith, nat_tests, far)

  outside : (nat_le first access && nat_lt access (first + count)) ≡ false → here ≡ None → ranged first count (λ i. f (places_from first ss i) i) access ≡ f here access
  outside e none = ap (λ (b : Truth). if b then f here access else 0) e ∙ (sym (nothing access) ∙ ap (λ s. f s access) (sym none))

  pub range_is : ranged first count (λ i. f (places_from first ss i) i) access ≡ f here access
  range_is = by (cases_lt access first) (cases_lt access (first + count))
    where
      by : (access < first) ⊎ (first ≤ access) → (access < first + count) ⊎ (first + count ≤ access) → ranged first count (λ i. f (places_from first ss i) i) access ≡ f here access
      by (inl low) other = outside (is_below low) (places_low first ss access low)
      by (inr from) (inl below) = ap (λ (b : Truth). if b then f here access else 0) (is_inside from below)
      by (inr from) (inr far) = outside (is_past far) (places_past first ss access (subst (λ (n : ℕ). first + n ≤ access) (sym long) far))

  -- behind it stand sites of later numbers alone
  pub sites_sum : (later : Option BlockSite) → (access < first + count → later ≡ None) → f here access + f later access ≡ f (site_or here later) access
  sites_sum later apart = by (cases_lt access (first + count))
    where
      none_before : (n : ℕ) → n ≡ 0 → (k : ℕ) → n + k ≡ k
      none_before n e k = omega (arith, e)

      none_behind : (n k : ℕ) → k ≡ 0 → n + k ≡ n
      none_behind n k e = omega (arith, e)

      or_none : (s : Option BlockSite) → site_or s None ≡ s
      or_none None = refl
      or_none (Some s) = refl

      by : (access < first + count) ⊎ (first + count ≤ access) → f here access + f later access ≡ f (site_or here later) access
      by (inl below) =
          none_behind (f here access) (f later access) (ap (λ s. f s access) (apart below) ∙ nothing access)
          ∙ ap (λ s. f s access) (sym (or_none here) ∙ ap (λ s. site_or here s) (sym (apart below)))
      by (inr far) =
          let none = places_past first ss access (subst (λ (n : ℕ). first + n ≤ access) (sym long) far) in
          none_before (f here access) (ap (λ s. f s access) none ∙ nothing access) (f later access) ∙ ap (λ s. f (site_or s later) access) (sym none)

-- One command among those of a block.
module _ (scene : Scene) (around : Around) (sites : ℕ → Option BlockSite) (c : Located) (cs : List Located) (from : ℕ) (old mid new : Building) (next : ℕ) (m : MadeCommand scene c.command around old mid c.first next) (rest : MadeEach scene around cs mid new) (along : AreAlong from (c ∷ cs)) (agree : (number : ℕ) → from ≤ number → sites number ≡ block_sites scene around (c ∷ cs) old new (mid, (next, (m, rest))) number) where
  abbrev own_sites : List (Option BlockSite)
  own_sites = command_sites scene c.command around old mid c.first next m

  abbrev later : ℕ → Option BlockSite
  later number = block_sites scene around cs mid new rest number

  own_long : length own_sites ≡ accesses_of c.command
  own_long = command_sites_long scene c.command around old mid c.first next m along.0.reaches

  told : (number : ℕ) → from ≤ number → sites number ≡ site_or (places_from c.first own_sites number) (later number)
  told number far = agree number far

  later_none : (number : ℕ) → number < c.first + accesses_of c.command → later number ≡ None
  later_none number below = block_sites_low scene around cs (c.first + accesses_of c.command) number mid new rest along.1 below

  own_places : PlacesAgree sites c.first own_sites
  own_places i o e =
      told (c.first + i) (reached from c.first i along.0.behind)
      ∙ (ap (λ (s : Option BlockSite). site_or s (later (c.first + i))) (places_own c.first own_sites i o e)
      ∙ by o (later_none (c.first + i) (below c.first i (length own_sites) (accesses_of c.command) (place_within own_sites i o e) own_long)))
    where
      reached : (a b i : ℕ) → a ≤ b → a ≤ b + i
      reached a b i l = omega (arith, l)

      below : (f i n k : ℕ) → i < n → n ≡ k → f + i < f + k
      below f i n k l e = omega (arith, l, e)

      by : (o : Option BlockSite) {s : Option BlockSite} → s ≡ None → site_or o s ≡ o
      by None e = e
      by (Some s) e = refl

  -- within the command's numbers the sites of the block are its own
  within_own : (number : ℕ) → c.first ≤ number → number < c.first + accesses_of c.command → sites number ≡ places_from c.first own_sites number
  within_own number far below =
      let o = there own_sites (number - c.first) (subst (λ (n : ℕ). number - c.first < n) (sym own_long) (omega (arith, far, below))) in
      ap sites (again c.first number far) ∙ (own_places (number - c.first) o.0 o.1 ∙ sym (ap (λ j. places_from c.first own_sites j) (again c.first number far) ∙ places_own c.first own_sites (number - c.first) o.0 o.1))
    where
      again : (f m : ℕ) → f ≤ m → m ≡ f + (m - f)
      again f m h = omega (arith, h)

  -- a site before this command's own is one of those before
  earlier : (e : ℕ) (t : BlockSite) → sites e ≡ Some t → e < c.first → e < from
  earlier e t at low = by (cases_lt e from)
    where
      lost : None ≡ Some t → ⊥
      lost h = cc

      by : (e < from) ⊎ (from ≤ e) → e < from
      by (inl less) = less
      by (inr far) =
          absurd (lost (sym (ap (λ (o : Option BlockSite). site_or o (later e)) (places_low c.first own_sites e low) ∙ later_none e (omega (arith, low))) ∙ (sym (told e far) ∙ at)))

  agree_rest : (i : ℕ) → c.first + accesses_of c.command ≤ i → sites i ≡ later i
  agree_rest i far =
      told i (let b = along.0.behind in omega (arith, b, far))
      ∙ ap (λ (o : Option BlockSite). site_or o (later i)) (places_past c.first own_sites i (subst (λ (n : ℕ). c.first + n ≤ i) (sym own_long) far))

-- Uses.

module _ (scene : Scene) (around : Around) (stands : BlockStandsIn scene around) (leads : PathsLead around) (some : 0 < paths_counted around) (sites : ℕ → Option BlockSite) (inside : SharesInside scene sites) where
  -- what stands as the commands from a number on begin
  record BeginsAt (a : Accesses) (from : ℕ) : Type 0 where
    led : AreLed sites a
    fresh : (m : ℕ) (s : BlockSite) → sites m ≡ Some s → from ≤ m → given_at_paths a m ≡ 0
    before : (e reader : ℕ) (t : BlockSite) → sites e ≡ Some t → e < from → slice_get scene.shares.now reader ≡ Some (Some e) → paths_counted around ≤ given_at_paths a e

  abbrev uses_by : Option BlockSite → ℕ → ℕ
  uses_by site access = used_by (slice_get scene.shares.now access) site (paths_counted around)

  uses_nothing : (access : ℕ) → uses_by None access ≡ 0
  uses_nothing access = used_nowhere (slice_get scene.shares.now access) (paths_counted around)

  each_used : (cs : List Located) (from : ℕ) (old new : Building) (m : MadeEach scene around cs old new) → AreAlong from cs → WritesAlone scene cs → ((number : ℕ) → from ≤ number → sites number ≡ block_sites scene around cs old new m number)
      → BeginsAt old.accesses from → AddsLedUses scene sites old.draft new.draft (λ access. uses_by (block_sites scene around cs old new m access) access)
  each_used [] from old new m along writes agree begins = uses_same scene sites old.draft new.draft _ _ (λ access. sym (uses_nothing access)) (none_none scene sites old.draft new.draft (ap (λ (b : Building). b.draft) m))
  each_used (c ∷ cs) from old new (mid, (next, (m, rest))) along writes agree begins =
      uses_again scene sites old.draft mid.draft new.draft (λ access. uses_by (places_from c.first own access) access) (λ access. uses_by (block_sites scene around cs mid new rest access) access) _
      (λ access. sites_sum uses_by uses_nothing c.first own (accesses_of c.command) long access (block_sites scene around cs mid new rest access)
      (λ below. later_none scene around sites c cs from old mid new next m rest along agree access below))
      (uses_same scene sites old.draft mid.draft (ranged c.first (accesses_of c.command) (used_to scene sites (paths_counted around))) _
      (λ access. same_within c.first (accesses_of c.command) (used_to scene sites (paths_counted around)) (λ i. uses_by (places_from c.first own i) i)
      (λ i far below. ap (λ (o : Option BlockSite). uses_by o i) (within_own scene around sites c cs from old mid new next m rest along agree i far below)) access
      ∙ range_is uses_by uses_nothing c.first own (accesses_of c.command) long access)
      one.uses)
      (each_used cs (c.first + accesses_of c.command) mid new rest along.1 writes.1 (agree_rest scene around sites c cs from old mid new next m rest along agree) begins_rest)
    where
      own : List (Option BlockSite)
      own = own_sites scene around sites c cs from old mid new next m rest along agree

      long : length own ≡ accesses_of c.command
      long = own_long scene around sites c cs from old mid new next m rest along agree

      number : NumbersLaid old mid c.first (accesses_of c.command) next
      number = (command_reached scene c.command around old mid c.first next m along.0.reaches some along.0.few).1

      one : Used scene sites (paths_counted around) old mid c.first (accesses_of c.command)
      one =
          command_used scene sites inside c.command around old mid c.first next stands leads m along.0.reaches some along.0.few writes.0 (own_places scene around sites c cs from old mid new next m rest along agree)
          (record {
            led = begins.led;
            fresh = λ i s at far below. begins.fresh i s at (let b = along.0.behind in omega (arith, b, far));
            before = λ e reader t at low share. begins.before e reader t at (earlier scene around sites c cs from old mid new next m rest along agree e t at low) share;
          })

      kept : (i : ℕ) → IsOutsideRange c.first (accesses_of c.command) i → given_at_paths mid.accesses i ≡ given_at_paths old.accesses i
      kept i out = ap length_given (number.only i out)

      begins_rest : BeginsAt mid.accesses (c.first + accesses_of c.command)
      begins_rest = record {
        led = one.led;
        fresh = λ i s at far. kept i (inr far) ∙ begins.fresh i s at (let b = along.0.behind in omega (arith, b, far));
        before = λ e reader t at low share. by e reader t at low share (cases_lt e c.first);
      }
        where
          by : (e reader : ℕ) (t : BlockSite) → sites e ≡ Some t → e < c.first + accesses_of c.command → slice_get scene.shares.now reader ≡ Some (Some e) → (e < c.first) ⊎ (c.first ≤ e) → paths_counted around ≤ given_at_paths mid.accesses e
          by e reader t at low share (inl less) =
              let k = kept e (inl less) in
              let g = begins.before e reader t at (earlier scene around sites c cs from old mid new next m rest along agree e t at less) share in
              omega (arith, k, g)
          by e reader t at low share (inr far) = one.given e reader t at far low share

untouched_led : (sites : ℕ → Option BlockSite) (a : Accesses) → HaveNoOperations sites a → AreLed sites a
untouched_led sites a h = record { led = λ number t s at is. absurd (lost t (sym (h.bare number s at) ∙ is)); there = h.there; none = h.none }
  where
    lost : (t : Touched) → None ≡ Some t → ⊥
    lost t e = cc

none_given : (sites : ℕ → Option BlockSite) (a : Accesses) → HaveNoOperations sites a → (m : ℕ) (s : BlockSite) → sites m ≡ Some s → given_at_paths a m ≡ 0
none_given sites a h m s at = ap length_given (h.bare m s at)

never_less : (e : ℕ) → e < 0 → ⊥
never_less e h = omega (arith, h)

pub blocks_lead : BlocksLead
blocks_lead scene around cs old new m stands leads some along writes inside bare =
    each_used scene around stands leads some (block_sites scene around cs old new m) inside cs 0 old new m along writes (λ number far. refl)
    (record {
      led = untouched_led (block_sites scene around cs old new m) old.accesses bare;
      fresh = λ i s at far. none_given (block_sites scene around cs old new m) old.accesses bare i s at;
      before = λ e reader t at low share. absurd (never_less e low);
    })

-- the same without what each is
counted_alone : (scene : Scene) (sites : ℕ → Option BlockSite) (old new : Draft) (uses : ℕ → ℕ) → AddsLedUses scene sites old new uses → AddsUses old new uses
counted_alone scene sites old new uses h = record { more = h.more; adds = h.adds; uses_are = h.uses_are }

pub blocks_use : BlocksUse
blocks_use scene around cs old new m stands leads some along writes inside bare =
    counted_alone scene (block_sites scene around cs old new m) old.draft new.draft (used_to scene (block_sites scene around cs old new m) (paths_counted around))
    (blocks_lead scene around cs old new m stands leads some along writes inside bare)

-- The sites of a test are places of which none lacks.
pub test_places : (first : ℕ) (ss : List BlockSite) (number : ℕ) → sites_from first ss number ≡ places_from first (all_there ss) number
test_places first ss number = by (nat_lt number first)
  where
    whole : (o : Option BlockSite) → o ≡ one_site (option_map (λ (s : BlockSite). Some s) o)
    whole None = refl
    whole (Some s) = refl

    by : (b : Truth) → (if b then None else slice_get ss (number - first)) ≡ (if b then None else one_site (slice_get (all_there ss) (number - first)))
    by true = refl
    by false = whole (slice_get ss (number - first)) ∙ ap one_site (sym (slice_get-map (λ (s : BlockSite). Some s) ss (number - first)))

test_range : (f : Option BlockSite → (access : ℕ) → ℕ) → ((access : ℕ) → f None access ≡ 0) → (first : ℕ) (ss : List BlockSite) (count : ℕ) → length ss ≡ count → (access : ℕ)
    → ranged first count (λ i. f (sites_from first ss i) i) access ≡ f (sites_from first ss access) access
test_range f nothing first ss count long access =
    same_within first count (λ i. f (sites_from first ss i) i) (λ i. f (places_from first (all_there ss) i) i) (λ i far below. ap (λ o. f o i) (test_places first ss i)) access
    ∙ (range_is f nothing first (all_there ss) count (length-map ss (λ (s : BlockSite). Some s) ∙ long) access ∙ sym (ap (λ o. f o access) (test_places first ss access)))

pub tests_lead : TestsLead
tests_lead scene around first t old new next tests m stands few inside bare =
    uses_same scene sites old.draft new.draft (ranged first (term_accesses t) (used_to scene sites (paths_counted around))) (used_to scene sites (paths_counted around))
    (λ access. test_range (λ o i. used_by (slice_get scene.shares.now i) o (paths_counted around)) (λ i. used_nowhere (slice_get scene.shares.now i) (paths_counted around)) first (term_sites scene around t) (term_accesses t) (term_sites_long scene around t) access)
    (tests_used scene sites inside around old new first next stands t tests few (λ i s e. sites_own first (term_sites scene around t) i s e)
    (record {
      led = untouched_led sites old.accesses bare;
      fresh = λ i s at far below. none_given sites old.accesses bare i s at;
      before = λ e reader s at low share. absurd (lost s (sym (sites_low first (term_sites scene around t) e low) ∙ at));
    })
    m).uses
  where
    sites : ℕ → Option BlockSite
    sites = test_sites scene around first t

    lost : (s : BlockSite) → None ≡ Some s → ⊥
    lost s e = cc

pub tests_use : TestsUse
tests_use scene around first t old new next tests m stands few inside bare =
    counted_alone scene (test_sites scene around first t) old.draft new.draft (used_to scene (test_sites scene around first t) (paths_counted around))
    (tests_lead scene around first t old new next tests m stands few inside bare)

-- Probes.

module _ (scene : Scene) (around : Around) (stands : BlockStandsIn scene around) (some : 0 < paths_counted around) (sites : ℕ → Option BlockSite) where
  abbrev probes_by : Option BlockSite → ℕ → ℕ
  probes_by site access = probed_by site (paths_counted around)

  each_probed : (cs : List Located) (from : ℕ) (old new : Building) (m : MadeEach scene around cs old new) → AreAlong from cs → ((number : ℕ) → from ≤ number → sites number ≡ block_sites scene around cs old new m number)
      → AddsProbes old.draft new.draft (λ access. probes_by (block_sites scene around cs old new m access) access)
  each_probed [] from old new m along agree = probe.none_none old.draft new.draft (ap (λ (b : Building). b.draft) m)
  each_probed (c ∷ cs) from old new (mid, (next, (m, rest))) along agree =
      probes_again old.draft mid.draft new.draft (λ access. probes_by (places_from c.first own access) access) (λ access. probes_by (block_sites scene around cs mid new rest access) access) _
      (λ access. sites_sum probes_by (λ i. refl) c.first own (accesses_of c.command) long access (block_sites scene around cs mid new rest access)
      (λ below. later_none scene around sites c cs from old mid new next m rest along agree access below))
      (probes_same old.draft mid.draft (ranged c.first (accesses_of c.command) (λ i. probes_by (sites i) i)) _
      (λ access. same_within c.first (accesses_of c.command) (λ i. probes_by (sites i) i) (λ i. probes_by (places_from c.first own i) i)
      (λ i far below. ap (λ (o : Option BlockSite). probes_by o i) (within_own scene around sites c cs from old mid new next m rest along agree i far below)) access
      ∙ range_is probes_by (λ i. refl) c.first own (accesses_of c.command) long access)
      (command_sited scene sites c.command around old mid c.first next stands m along.0.reaches some along.0.few (own_places scene around sites c cs from old mid new next m rest along agree)))
      (each_probed cs (c.first + accesses_of c.command) mid new rest along.1 (agree_rest scene around sites c cs from old mid new next m rest along agree))
    where
      own : List (Option BlockSite)
      own = own_sites scene around sites c cs from old mid new next m rest along agree

      long : length own ≡ accesses_of c.command
      long = own_long scene around sites c cs from old mid new next m rest along agree

pub blocks_probe : BlocksProbe
blocks_probe scene around cs old new m stands some along = each_probed scene around stands some (block_sites scene around cs old new m) cs 0 old new m along (λ number far. refl)

pub tests_probe : TestsProbe
tests_probe scene around first t old new next tests m stands few =
    probes_same old.draft new.draft (often first (term_accesses t) (paths_counted around)) _
    (λ access. same_within first (term_accesses t) (λ i. paths_counted around) (λ i. probed_by (test_sites scene around first t i) (paths_counted around))
    (λ i far below. sym (ap (λ o. probed_by o (paths_counted around)) (are i far below).1)) access
    ∙ test_range (λ o i. probed_by o (paths_counted around)) (λ i. refl) first (term_sites scene around t) (term_accesses t) (term_sites_long scene around t) access)
    (tests_probed scene around stands first t few (paths_counted around) old new next tests m)
  where
    are : AreSites (test_sites scene around first t) first (term_accesses t)
    are = sites_are (test_sites scene around first t) first (term_accesses t) (term_sites scene around t) (term_sites_long scene around t) (λ i s e. sites_own first (term_sites scene around t) i s e)
