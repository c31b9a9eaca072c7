-- What stands as a block begins: no variable has a value, and its own accesses have no operations.
use Rattle.std.proofs.Common.{◌≡◌, ℕ, zero, suc, ◌+◌, ◌-◌, ◌<◌, ◌≤◌, Bool as Truth, true, false, if◌then◌else◌, List, [], ◌∷◌, length, Option, Some, None, refl, ap, sym, ◌∙◌, subst, arith}
use Rattle.std.specs.Prelude.{nat_lt, replicate, slice_get}
use Rattle.std.specs.List.{AllByRecursion}
use Rattle.std.proofs.lemmas.Bool.Decides.{nat_tests}
use Rattle.std.proofs.lemmas.Option.{slice_get_within}
use Rattle.dh_tree.specs.PlainTrees.{Term}
use Rattle.dh_meaning.specs.AccessNumbers.{accesses_of, term_accesses}
use Rattle.dh_meaning.specs.Phases.{Located}
use Rattle.dh_expressions.specs.declared.accesses.Accesses.{Accesses}
use Rattle.dh_expressions.specs.declared.accesses.Touched.{Touched}
use Rattle.dh_expressions.specs.declared.drafts.Draft.{Draft}
use Rattle.dh_expressions.specs.declared.scenes.Around.{Around}
use Rattle.dh_expressions.specs.declared.scenes.Scene.{Scene}
use Rattle.dh_expressions.specs.Copying.{AreNone}
use Rattle.dh_expressions.specs.Noted.{given_in, given_to, touched_in}
use Rattle.dh_formed.specs.Formed.{FormedBlock, IsGuard, AreNotedReads, BlockSite}
use Rattle.dh_commands.specs.declared.assignments.Change.{Change}
use Rattle.dh_commands.specs.declared.assignments.Values.{Values}
use Rattle.dh_commands.specs.declared.buildings.Building.{Building}
use Rattle.dh_commands.specs.Undone.{given_at}
use Rattle.dh_laid.specs.BareCommands.{IsBare, IsBareFrom}
use Rattle.dh_laid.specs.BlockSites.{MadeEach, block_sites, command_sites, one_site, places_from, site_or, term_sites, test_sites}
use Rattle.dh_laid.specs.Laid.{HadKind, StandsRound}
use Rattle.dh_laid.specs.LaidCommands.{StandsHeld}
use Rattle.dh_laid.specs.LaidNumbers.{StoresReach}
use Rattle.dh_laid.specs.LaidQuiet.{BlockStandsIn}
use Rattle.dh_laid.proofs.SitesLaid.{command_sites_long, term_sites_long}
use Rattle.dh_gathering.specs.Growing.{IsClear}

-- Guards.

none_at : (n : ℕ) (path : ℕ) (guard : Option ℕ) → slice_get (replicate n None) path ≡ Some guard → guard ≡ None
none_at zero path guard e = absurd cc
none_at (suc n) zero guard e = let f : None ≡ guard = cc in sym f
none_at (suc n) (suc path) guard e = none_at n path guard e

-- no guard stands round a block
pub round_begins : (x : FormedBlock) (d : Draft) (scene : Scene) (around : Around) (n : ℕ) → around.guards.now ≡ replicate n None → BlockStandsIn scene around → StandsRound x d scene around
round_begins x d scene around n free h = record {
  guards = λ path guard e. subst (λ (g : Option ℕ). IsGuard x d g) (sym (none_at n path guard (ap (λ (gs : List (Option ℕ)). slice_get gs path) (sym free) ∙ e))) tt;
  scopes = h.scopes;
  low = h.low;
  few = h.few;
}

-- Variables.

given_of : (current : List (Option ℕ)) (register value : ℕ) → slice_get current register ≡ Some (Some value) → given_at current register ≡ Some value
given_of [] register value e = absurd cc
given_of (o ∷ os) zero value e = cc
given_of (o ∷ os) (suc register) value e = given_of os register value e

pub held_of : (current : List (Option ℕ)) (register value : ℕ) → given_at current register ≡ Some value → slice_get current register ≡ Some (Some value)
held_of [] register value e = absurd cc
held_of (o ∷ os) zero value e = ap (λ (p : Option ℕ). Some p) e
held_of (o ∷ os) (suc register) value e = held_of os register value e

pub held_begins : (x : FormedBlock) (d : Draft) (v : Values) → IsClear v → length v.current.items ≤ length x.plan.registers → StandsHeld x d v
held_begins x d v clear within = record {
  held = record {
    current = λ register value e. absurd (never register value (given_of v.current.items register value e));
    log = subst (λ (cs : List Change). AllByRecursion (HadKind x d) cs) (sym clear.log) tt;
  };
  ready = clear.ready;
  long = within;
}
  where
    never : (register value : ℕ) → given_at v.current.items register ≡ Some value → ⊥
    never register value e = let none = clear.none register in cc

-- Accesses.

-- the sites of a block are of accesses without operations
abbrev pub AreBareSites : Accesses → (sites : ℕ → Option BlockSite) → Type 0
AreBareSites a sites = (number : ℕ) (s : BlockSite) → sites number ≡ Some s → (number < length a.touched.items) × (touched_in a number ≡ None)

pub noted_begins : (x : FormedBlock) (d : Draft) (a : Accesses) → AreBareSites a x.sites → AreNone a.counts.items → AreNotedReads x d a
noted_begins x d a bare none = record {
  given = λ number path value s at e. absurd (never number path value (bare number s at).1 e);
  laid = λ number t s at e. absurd (untouched number t (bare number s at).1 e);
  there = λ number s at. (bare number s at).0;
  none = none;
}
  where
    never : (number path value : ℕ) → touched_in a number ≡ None → given_in a number path ≡ Some value → ⊥
    never number path value f e = let g : None ≡ Some value = sym (ap (λ (o : Option Touched). given_to o path) f) ∙ e in cc

    untouched : (number : ℕ) (t : Touched) → touched_in a number ≡ None → touched_in a number ≡ Some t → ⊥
    untouched number t f e = cc

-- where a site stands in a list, by its number
place_there : (first : ℕ) (ss : List (Option BlockSite)) (number : ℕ) (s : BlockSite) → places_from first ss number ≡ Some s → (first ≤ number) × (number - first < length ss)
place_there first ss number s e = by (nat_lt number first) refl e
  where
    by : (b : Truth) → nat_lt number first ≡ b → (if b then None else one_site (slice_get ss (number - first))) ≡ Some s → (first ≤ number) × (number - first < length ss)
    by true f g = absurd cc
    by false f g = (low number first f, inside (slice_get ss (number - first)) refl g)
      where
        low : (n m : ℕ) → nat_lt n m ≡ false → m ≤ n
        low n m f = grind (arith, nat_tests)

        inside : (o : Option (Option BlockSite)) → slice_get ss (number - first) ≡ o → one_site o ≡ Some s → number - first < length ss
        inside None f g = absurd cc
        inside (Some t) f g = slice_get_within ss (number - first) t f

bare_at : (a : Accesses) (first count number : ℕ) → IsBareFrom a first count → first ≤ number → number - first < count → (number < length a.touched.items) × (touched_in a number ≡ None)
bare_at a first count number h low within =
    subst (λ (n : ℕ). (n < length a.touched.items) × (touched_in a n ≡ None)) (together first number low) (h (number - first) within)
  where
    together : (m n : ℕ) → m ≤ n → m + (n - m) ≡ n
    together m n l = omega (arith, l)

-- of commands one after the other
pub bare_sites : (scene : Scene) (around : Around) (cs : List Located) (old new : Building) (m : MadeEach scene around cs old new) (a : Accesses) → AllByRecursion (λ (c : Located). StoresReach c.command) cs → AllByRecursion (IsBare a) cs
    → AreBareSites a (block_sites scene around cs old new m)
bare_sites scene around [] old new m a reach bare number s e = absurd cc
bare_sites scene around (c ∷ cs) old new (mid, (next, (m, rest))) a reach bare number s e =
    by (places_from c.first (command_sites scene c.command around old mid c.first next m) number) refl e (λ g. bare_sites scene around cs mid new rest a reach.1 bare.1 number s g)
  where
    long : length (command_sites scene c.command around old mid c.first next m) ≡ accesses_of c.command
    long = command_sites_long scene c.command around old mid c.first next m reach.0

    by : (o : Option BlockSite) → places_from c.first (command_sites scene c.command around old mid c.first next m) number ≡ o → site_or o (block_sites scene around cs mid new rest number) ≡ Some s
        → (block_sites scene around cs mid new rest number ≡ Some s → (number < length a.touched.items) × (touched_in a number ≡ None)) → (number < length a.touched.items) × (touched_in a number ≡ None)
    by None f g later = later g
    by (Some t) f g later =
        let at = place_there c.first (command_sites scene c.command around old mid c.first next m) number t f in
        bare_at a c.first (accesses_of c.command) number bare.0 at.0 (subst (λ (n : ℕ). number - c.first < n) long at.1)

-- and of a test
pub bare_test : (scene : Scene) (around : Around) (first : ℕ) (t : Term) (a : Accesses) → IsBareFrom a first (term_accesses t) → AreBareSites a (test_sites scene around first t)
bare_test scene around first t a bare number s e = by (nat_lt number first) refl e
  where
    by : (b : Truth) → nat_lt number first ≡ b → (if b then None else slice_get (term_sites scene around t) (number - first)) ≡ Some s → (number < length a.touched.items) × (touched_in a number ≡ None)
    by true f g = absurd cc
    by false f g =
        bare_at a first (term_accesses t) number bare (low number first f) (subst (λ (n : ℕ). number - first < n) (term_sites_long scene around t) (slice_get_within (term_sites scene around t) (number - first) s g))
      where
        low : (n m : ℕ) → nat_lt n m ≡ false → m ≤ n
        low n m f = grind (arith, nat_tests)
