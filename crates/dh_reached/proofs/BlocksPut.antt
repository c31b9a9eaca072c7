-- What is put down for a block: its commands one behind the other, and what sets registers behind them.
use Rattle.std.proofs.Common.{◌≡◌, ◌⊎◌, inl, inr, ℕ, ◌+◌, ◌-◌, ◌<◌, ◌≤◌, List, Some, None, refl, sym, ap, ◌∙◌, subst, arith, length, drop}
use Rattle.std.specs.Prelude.{Bool, true, false, if◌then◌else◌, nat_lt, [], ◌∷◌, ◌++◌, slice_get, Option}
use Rattle.std.specs.List.{AllByRecursion}
use Rattle.std.proofs.lemmas.Bool.{cases_lt}
use Rattle.std.proofs.lemmas.Bool.Decides.{nat_tests}
use Rattle.dh_tree.specs.Memories.{table_of}
use Rattle.dh_tree.specs.Seen.{program_seen}
use Rattle.dh_meaning.specs.AccessNumbers.{accesses_of, term_accesses}
use Rattle.dh_meaning.specs.Phases.{Located}
use Rattle.dh_plan.specs.declared.operations.Operation.{Operation}
use Rattle.dh_plan.specs.declared.operations.Reach.{Reach}
use Rattle.dh_plan.specs.PlainPlans.{PlainPlan, operations_in}
use Rattle.dh_plan.specs.SoundPlans.{use_in}
use Rattle.dh_expressions.specs.declared.accesses.Accesses.{Accesses}
use Rattle.dh_expressions.specs.declared.accesses.Touched.{Touched}
use Rattle.dh_expressions.specs.declared.drafts.Draft.{Draft}
use Rattle.dh_expressions.specs.declared.scenes.Around.{Around}
use Rattle.dh_expressions.specs.declared.scenes.Scene.{Scene}
use Rattle.dh_expressions.specs.Drafted.{BlockBegun, FitsStep, BlockStep}
use Rattle.dh_expressions.specs.Noted.{touched_in}
use Rattle.dh_expressions.proofs.ListPlaces.{place_within}
use Rattle.dh_expressions.proofs.Pushing.{begun_later, fits_before}
use Rattle.dh_formed.specs.Counted.{given_at_paths, length_given}
use Rattle.dh_formed.specs.Formed.{BlockSite}
use Rattle.dh_commands.specs.declared.buildings.Building.{Building}
use Rattle.dh_commands.specs.LanesRun.{paths_counted}
use Rattle.dh_blocks.specs.BlockMade.{AreRising, IsBare, step_of_block}
use Rattle.dh_blocks.proofs.BlockBegins.{begun_here, fits_here}
use Rattle.dh_laid.specs.BlockSites.{MadeEach, block_sites, command_sites, one_site, places_from, site_or, term_sites, test_sites}
use Rattle.dh_laid.specs.LaidNumbers.{StoresReach}
use Rattle.dh_laid.proofs.AccessesLaid.{command_lays, each_lays}
use Rattle.dh_reached.specs.IndicesKept.{CommandKeeps}
use Rattle.dh_reached.specs.Puts.{AreInOrder, EachUse, UseGoesBefore, IsSitedUse, OperationAtPath, PutsDown, operations_of}
use Rattle.dh_reached.specs.ReachedBlocks.{AreUnused, ReadBy, StandsSpread, StraightReaches, TestReaches}
use Rattle.dh_reached.specs.ReadsTold.{BlockReads, BlockShares}
use Rattle.dh_reached.specs.StepBanks.{BlockUses}
use Rattle.dh_reached.proofs.CommandsDown.{command_put}
use Rattle.dh_reached.proofs.CommandsPut.{CommandPut, tests_put}
use Rattle.dh_reached.proofs.LanesPut.{Behind}
use Rattle.dh_reached.proofs.NoUses.{down_then, down_wider, none_still, puts_added}
use Rattle.dh_reached.proofs.PlacesOf.{PlacesAt, place_by, place_past, places_long, site_by, site_told}
use Rattle.dh_reached.proofs.PutLists.{GoAll, each_both, operations_both, order_both}
use Rattle.dh_reached.proofs.TermsPut.{sites_long}

-- What is behind a block.

abbrev unused_puts : List Operation → List OperationAtPath
unused_puts [] = []
unused_puts (o ∷ os) = record { operation = o; path = 0 } ∷ unused_puts os

unused_are : (os : List Operation) → operations_of (unused_puts os) ≡ os
unused_are [] = refl
unused_are (o ∷ os) = ap (λ (l : List Operation). o ∷ l) (unused_are os)

no_reach : (o : Option Reach) (r : Reach) → o ≡ None → o ≡ Some r → ⊥
no_reach o r e f = let g : None ≡ Some r = sym e ∙ f in cc

unused_each : (P : OperationAtPath → Reach → Type 0) (os : List Operation) → AreUnused os → EachUse P (unused_puts os)
unused_each P [] h = tt
unused_each P (o ∷ os) h = (λ r e. absurd (no_reach (use_in o.form) r h.0 e), unused_each P os h.1)

unused_behind : (x : BlockStep) (sites : ℕ → Option BlockSite) (u : OperationAtPath) (os : List Operation) → AreUnused os → AllByRecursion (UseGoesBefore x sites u) (unused_puts os)
unused_behind x sites u [] h = tt
unused_behind x sites u (o ∷ os) h = (λ r t e f. absurd (no_reach (use_in o.form) t h.0 f), unused_behind x sites u os h.1)

unused_order : (x : BlockStep) (sites : ℕ → Option BlockSite) (os : List Operation) → AreUnused os → AreInOrder x sites (unused_puts os)
unused_order x sites [] h = tt
unused_order x sites (o ∷ os) h = (unused_behind x sites (record { operation = o; path = 0 }) os h.1, unused_order x sites os h.1)

unused_go : (x : BlockStep) (sites : ℕ → Option BlockSite) (us : List OperationAtPath) (os : List Operation) → AreUnused os → GoAll x sites us (unused_puts os)
unused_go x sites [] os h = tt
unused_go x sites (u ∷ us) os h = (unused_behind x sites u os h, unused_go x sites us os h)

drop_front : {A : Type 0} (xs ys : List A) → drop (length xs) (xs ++ ys) ≡ ys
drop_front [] ys = refl
drop_front (x ∷ xs) ys = drop_front xs ys

-- what is put down, with what is behind it, is the block
block_uses : (plan : PlainPlan) (block : ℕ) (x : BlockStep) (sites : ℕ → Option BlockSite) (first count : ℕ) (old new : Draft) (more : List Operation) → operations_in plan block ≡ drop (length old.operations.items) new.operations.items ++ more → AreUnused more
    → PutsDown x sites first count old new → BlockUses plan block x sites
block_uses plan block x sites first count old new more is unused h = record {
  puts = h.puts ++ unused_puts more;
  all = is ∙ (ap (λ (os : List Operation). os ++ more) (ap (λ (os : List Operation). drop (length old.operations.items) os) h.adds ∙ drop_front old.operations.items (operations_of h.puts))
      ∙ (ap (λ (os : List Operation). operations_of h.puts ++ os) (sym (unused_are more)) ∙ sym (operations_both h.puts (unused_puts more))));
  uses = each_both (IsSitedUse x sites) h.puts (unused_puts more) h.uses (unused_each (IsSitedUse x sites) more unused);
  order = order_both x sites h.puts (unused_puts more) h.order (unused_order x sites more unused) (unused_go x sites h.puts more unused);
}

-- Numbers of a block.

bare_given : (a : Accesses) (m : ℕ) → touched_in a m ≡ None → given_at_paths a m ≡ 0
bare_given a m none = ap length_given none

-- an access with operations is not bare
not_bare : (a : Accesses) (m : ℕ) (t : Touched) → touched_in a m ≡ None → touched_in a m ≡ Some t → ⊥
not_bare a m t e f = let g : None ≡ Some t = sym e ∙ f in cc

-- a site has the number of one of the accesses
pub place_told : (first number : ℕ) (ss : List (Option BlockSite)) (s : BlockSite) → places_from first ss number ≡ Some s → (first ≤ number) × (number < first + length ss)
place_told first number ss s e = by (nat_lt number first) refl e
  where
    above : (n k : ℕ) → nat_lt n k ≡ false → k ≤ n
    above n k f = grind (arith, nat_tests)

    there_is : (o : Option (Option BlockSite)) → slice_get ss (number - first) ≡ o → one_site o ≡ Some s → number - first < length ss
    there_is None g f = absurd (cc)
    there_is (Some q) g f = place_within ss (number - first) q g

    by : (b : Bool) → nat_lt number first ≡ b → (if b then None else one_site (slice_get ss (number - first))) ≡ Some s → (first ≤ number) × (number < first + length ss)
    by true g f = absurd (cc)
    by false g f =
        let low = above number first g in
        let less = there_is (slice_get ss (number - first)) refl f in
        (low, omega (arith, low, less))

module _ (scene : Scene) (around : Around) where
  pub site_cases : (a b : Option BlockSite) (s : BlockSite) → site_or a b ≡ Some s → (a ≡ Some s) ⊎ (b ≡ Some s)
  site_cases None b s e = inr e
  site_cases (Some r) b s e = inl e

  -- the accesses of a block have no operations as it begins
  all_bare : (a : Accesses) (cs : List Located) (old new : Building) (m : MadeEach scene around cs old new) → AllByRecursion (IsBare a) cs → AllByRecursion (λ (c : Located). StoresReach c.command) cs → (number : ℕ) (s : BlockSite)
      → block_sites scene around cs old new m number ≡ Some s → (number < length a.touched.items) × (touched_in a number ≡ None)
  all_bare a [] old new m h is number s e = absurd (cc)
  all_bare a (c ∷ cs) old new (mid, (next, (one, rest))) h is number s e =
      by (site_cases (places_from c.first (command_sites scene c.command around old mid c.first next one) number) (block_sites scene around cs mid new rest number) s e) (all_bare a cs mid new rest h.1 is.1 number s)
    where
      by : (places_from c.first (command_sites scene c.command around old mid c.first next one) number ≡ Some s) ⊎ (block_sites scene around cs mid new rest number ≡ Some s)
          → (block_sites scene around cs mid new rest number ≡ Some s → (number < length a.touched.items) × (touched_in a number ≡ None)) → (number < length a.touched.items) × (touched_in a number ≡ None)
      by (inr later) more = more later
      by (inl own) more =
          let told = place_told c.first number (command_sites scene c.command around old mid c.first next one) s own in
          let long = places_long scene c.command around old mid c.first next one is.0 in
          let i : c.first + (number - c.first) ≡ number = whole told.0 in
          let low = told.0 in let high = told.1 in
          subst (λ (n : ℕ). (n < length a.touched.items) × (touched_in a n ≡ None)) i (h.0 (number - c.first) (omega (arith, low, high, long)))
        where
          whole : c.first ≤ number → c.first + (number - c.first) ≡ number
          whole l = omega (arith, l)

-- Commands one behind the other.

module _ (x : BlockStep) (sites : ℕ → Option BlockSite) (scene : Scene) (table : x.start.table ≡ table_of (program_seen scene.program.now)) (IsRead : ℕ → Type 0) (around : Around) (stands : StandsSpread scene around)
    (shares : BlockShares IsRead scene sites) where
  abbrev Stood : Accesses → (upto : ℕ) → Type 0
  Stood a upto = Behind x sites scene table IsRead (paths_counted around) a upto

  -- numbers between two commands are no reads
  stood_later : (a : Accesses) (from first : ℕ) → from ≤ first → ((e : ℕ) → from ≤ e → e < first → IsRead e → ⊥) → Stood a from → Stood a first
  stood_later a from first low none h = record {
    sited = h.sited;
    given = λ e is below. by e is below (cases_lt e from);
    fresh = λ m s at more. h.fresh m s at (omega (arith, more, low));
  }
    where
      by : (e : ℕ) → IsRead e → e < first → (e < from) ⊎ (from ≤ e) → paths_counted around ≤ given_at_paths a e
      by e is below (inl less) = h.given e is less
      by e is below (inr more) = absurd (none e more below is)

  each_put : (cs : List Located) (from : ℕ) (old new : Building) (m : MadeEach scene around cs old new) → AreRising from cs → AllByRecursion (λ (c : Located). StoresReach c.command) cs → BlockReads IsRead from cs
      → AllByRecursion (λ (c : Located). CommandKeeps x scene around.levels.now c.command) cs → ((number : ℕ) → from ≤ number → sites number ≡ block_sites scene around cs old new m number) → FitsStep x new.draft → BlockBegun x old.draft → Stood old.accesses from
      → (count : ℕ) × PutsDown x sites from count old.draft new.draft
  each_put [] from old new m rising is reads keeps at f b h =
      (0, (puts_added x sites from 0 (λ u r. Unit {0}) (λ n. Unit {0}) old.draft new.draft (none_still old.draft new.draft (ap (λ (c : Building). c.draft) m))).down)
  each_put (c ∷ cs) from old new (mid, (next, (one, rest))) rising is reads keeps at f b h =
      let e_rest = (each_lays scene around cs mid new stands.stands rest).extends in
      let e_one = (command_lays scene c.command around old mid c.first next stands.stands one).extends in
      let low = rising.0 in
      let few = rising.1.0 in
      let own : CommandPut x sites scene table IsRead (paths_counted around) stands.some shares c.first (accesses_of c.command) old mid =
      command_put x sites scene table IsRead (paths_counted around) stands.some shares c.command around old mid c.first next one is.0 stands refl few places keeps.0 reads.1.0 (fits_before mid.draft new.draft x e_rest f) b
      (stood_later old.accesses from c.first rising.0 reads.0.1 h) in
      let more = each_put cs (c.first + accesses_of c.command) mid new rest rising.1.1 is.1 reads.1.1 keeps.1 later f (begun_later old.draft mid.draft x e_one b) own.behind in (
        c.first - from + accesses_of c.command + more.0,
        down_then x sites from (c.first - from + accesses_of c.command) more.0 old.draft mid.draft new.draft (wider own.down)
            (subst (λ (n : ℕ). PutsDown x sites n more.0 mid.draft new.draft) (let e : c.first + accesses_of c.command ≡ from + (c.first - from + accesses_of c.command) = omega (arith, low) in e) more.1),
      )
    where
      long : length (command_sites scene c.command around old mid c.first next one) ≡ accesses_of c.command
      long = places_long scene c.command around old mid c.first next one is.0

      places : PlacesAt sites c.first (command_sites scene c.command around old mid c.first next one)
      places i s e =
          at (c.first + i) (let low = rising.0 in omega (arith, low))
          ∙ ap (λ o. site_or o (block_sites scene around cs mid new rest (c.first + i))) (place_by c.first (command_sites scene c.command around old mid c.first next one) i s e)

      later : (number : ℕ) → c.first + accesses_of c.command ≤ number → sites number ≡ block_sites scene around cs mid new rest number
      later number past =
          at number (let low = rising.0 in omega (arith, low, past))
          ∙ ap (λ o. site_or o (block_sites scene around cs mid new rest number)) (place_past c.first number (command_sites scene c.command around old mid c.first next one) (let l = long in omega (arith, l, past)))

      wider : PutsDown x sites c.first (accesses_of c.command) old.draft mid.draft → PutsDown x sites from (c.first - from + accesses_of c.command) old.draft mid.draft
      wider h = down_wider x sites from (c.first - from + accesses_of c.command) c.first (accesses_of c.command) old.draft mid.draft rising.0 (let low = rising.0 in omega (arith, low)) h

pub straight_reaches : StraightReaches
straight_reaches scene around plan count block cs old new made more reads h registers memories keeps =
    block_uses plan block (step_of_block plan block registers memories) (block_sites scene around cs old new made) 0 all.0 old.draft new.draft more h.put.operations h.unused all.1
  where
    bare : (number : ℕ) (s : BlockSite) → block_sites scene around cs old new made number ≡ Some s → (number < length old.accesses.touched.items) × (touched_in old.accesses number ≡ None)
    bare number s at = all_bare scene around old.accesses cs old new made h.bare h.stores number s at

    begun : Behind (step_of_block plan block registers memories) (block_sites scene around cs old new made) scene keeps.table (ReadBy reads) (paths_counted around) old.accesses 0
    begun = record {
      sited = record { touched = λ number t s is at. absurd (not_bare old.accesses number t (bare number s at).1 is); there = λ number s at. (bare number s at).0; none = h.put.counts };
      given = λ e is below. absurd (never e below);
      fresh = λ m s at low. bare_given old.accesses m (bare m s at).1;
    }
      where
        never : (e : ℕ) → e < 0 → ⊥
        never e l = omega (arith, l)

    all : (count : ℕ) × PutsDown (step_of_block plan block registers memories) (block_sites scene around cs old new made) 0 count old.draft new.draft
    all = each_put (step_of_block plan block registers memories) (block_sites scene around cs old new made) scene keeps.table (ReadBy reads) around h.stands h.shares cs 0 old new made h.rising h.stores h.reads_told keeps.each (λ number low. refl)
        (fits_here plan count block old new more h.put registers memories) (begun_here plan count block old new more h.put registers memories) begun

pub test_reaches : TestReaches
test_reaches scene around plan count block first t old new next tests more reads h registers memories table keeps =
    block_uses plan block (step_of_block plan block registers memories) (test_sites scene around first t) first (term_accesses t) old.draft new.draft more h.put.operations h.unused all.down
  where
    bare : (number : ℕ) (s : BlockSite) → test_sites scene around first t number ≡ Some s → (number < length old.accesses.touched.items) × (touched_in old.accesses number ≡ None)
    bare number s at =
        let told = site_told first number (term_sites scene around t) s at in
        let long = sites_long scene around t in
        let low = told.0 in let high = told.1 in
        subst (λ (n : ℕ). (n < length old.accesses.touched.items) × (touched_in old.accesses n ≡ None)) (whole told.0) (h.bare (number - first) (omega (arith, low, high, long)))
      where
        whole : first ≤ number → first + (number - first) ≡ number
        whole l = omega (arith, l)

    begun : Behind (step_of_block plan block registers memories) (test_sites scene around first t) scene table (ReadBy reads) (paths_counted around) old.accesses first
    begun = record {
      sited = record { touched = λ number t s is at. absurd (not_bare old.accesses number t (bare number s at).1 is); there = λ number s at. (bare number s at).0; none = h.put.counts };
      given = λ e is below. absurd (h.none_before e below is);
      fresh = λ m s at low. bare_given old.accesses m (bare m s at).1;
    }

    all : CommandPut (step_of_block plan block registers memories) (test_sites scene around first t) scene table (ReadBy reads) (paths_counted around) h.stands.some h.shares first (term_accesses t) old new
    all = tests_put (step_of_block plan block registers memories) (test_sites scene around first t) scene table (ReadBy reads) (paths_counted around) h.stands.some h.shares around h.stands refl first old new
        (fits_here plan count block old new more h.put registers memories) (begun_here plan count block old new more h.put registers memories) begun t next tests h.made h.few (λ i s at. site_by first (term_sites scene around t) i s at) keeps
