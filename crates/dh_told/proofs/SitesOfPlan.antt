-- The site of an access of a block tells of the access of that number in the program.
use Rattle.std.proofs.Common.{◌≡◌, ℕ, zero, suc, ◌<◌, ◌||◌, Bool, true, false, if◌then◌else◌, List, [], ◌∷◌, ◌++◌, length, Option, Some, None, refl, ap, sym, ◌∙◌, subst, arith}
use Rattle.std.specs.Prelude.{slice_get}
use Rattle.std.specs.List.{AllByRecursion}
use Rattle.std.specs.Option.{is_some}
use Rattle.dh_tree.specs.declared.trees.expressions.Ref.{Ref}
use Rattle.dh_tree.specs.declared.viewing.ViewMap.{ViewMap}
use Rattle.dh_tree.specs.Memories.{memories_of, number_in}
use Rattle.dh_tree.specs.PlainTrees as plain
use Rattle.dh_tree.specs.PlainTrees.{Program}
use Rattle.dh_tree.specs.Seen.{program_seen}
use Rattle.dh_meaning.specs.Ways.{Way, all_bindings_of, base_of, way_to}
use Rattle.dh_meaning.specs.CoreOf.{Known, entity_number, memory_of, way_of}
use Rattle.dh_meaning.specs.Paths.{copies_in}
use Rattle.dh_meets.specs.Charges.{element_depends, entity_depends, may_reach}
use Rattle.dh_meets.specs.SourceEvents.{Element, SourceAccess, accesses_in, trace}
use Rattle.dh_viewing.specs.declared.bank_sets.BankSet.{BankSet}
use Rattle.dh_viewing.specs.ReachedBanks.{is_in}
use Rattle.dh_events.specs.Accesses.{element_in, entity_in}
use Rattle.dh_sound.specs.ToldEvents.{access_at}
use Rattle.dh_expressions.specs.declared.paths.Level.{Level}
use Rattle.dh_expressions.specs.declared.scenes.Around.{Around}
use Rattle.dh_expressions.specs.declared.scenes.Scene.{Scene}
use Rattle.dh_expressions.specs.Copying.{groups_by}
use Rattle.dh_expressions.specs.Counting.{places_by}
use Rattle.dh_expressions.specs.Levels.{leader_number}
use Rattle.dh_expressions.specs.Named.{banks_below, banks_reached, banks_seen, banks_told, known_in, shifts_on, way_named}
use Rattle.dh_expressions.specs.Numbers.{narrowed}
use Rattle.dh_expressions.specs.ReachedBanks.{bank_by}
use Rattle.dh_expressions.specs.Standings.{AccessStanding, standing_at}
use Rattle.dh_expressions.specs.ViewsTold.{TellsViews}
use Rattle.dh_formed.specs.Formed.{BlockSite}
use Rattle.dh_commands.specs.LanesRun.{paths_counted}
use Rattle.dh_commands.specs.ShownVariables.{level_factors}
use Rattle.dh_laid.specs.LaidNumbers.{IsAccessForm}
use Rattle.dh_blocks.specs.BlockTraced.{TellsWays}
use Rattle.dh_charged.specs.ChargedUses.{AreLevelsOf, AreSitesAt, IsBankOf, IsReachedFrom, IsSiteAt, TellsAccess}
use Rattle.dh_charged.specs.AccessMemories.{HaveMemories}
use Rattle.dh_used.specs.SourceSites.{AreSited, IsSiteOf, RowsAreDirect}

element_there : {A : Type 0} (xs : List A) (k : ℕ) → k < length xs → (x : A) × (slice_get xs k ≡ Some x)
element_there [] k h = absurd (none h)
  where
    none : k < 0 → ⊥
    none h = omega (arith, h)
element_there (x ∷ xs) zero h = (x, refl)
element_there (x ∷ xs) (suc k) h = element_there xs k (less (length xs) h)
  where
    less : (n : ℕ) → suc k < suc n → k < n
    less n h = omega (arith, h)

-- the banks of a set are listed, each with the place
listed_reached : (set : BankSet) (place n : ℕ) (P : ℕ → Type 0) → ((b : ℕ) → is_in set b ≡ true → P b) → AllByRecursion (λ (b : ℕ × ℕ). P b.0 × (b.1 ≡ place)) (banks_below set place n)
listed_reached set place zero P h = tt
listed_reached set place (suc n) P h = by (is_in set n) refl (listed_reached set place n P h)
  where
    more : (bs : List (ℕ × ℕ)) → AllByRecursion (λ (b : ℕ × ℕ). P b.0 × (b.1 ≡ place)) bs → P n → AllByRecursion (λ (b : ℕ × ℕ). P b.0 × (b.1 ≡ place)) (bs ++ (n, place) ∷ [])
    more [] all p = ((p, refl), tt)
    more (b ∷ bs) all p = (all.0, more bs all.1 p)

    by : (t : Bool) → is_in set n ≡ t → AllByRecursion (λ (b : ℕ × ℕ). P b.0 × (b.1 ≡ place)) (banks_below set place n) → AllByRecursion (λ (b : ℕ × ℕ). P b.0 × (b.1 ≡ place)) (if t then banks_below set place n ++ (n, place) ∷ [] else banks_below set place n)
    by true e all = more (banks_below set place n) all (h n e)
    by false e all = all

module _ (scene : Scene) (around : Around) (counted : paths_counted around ≡ copies_in (level_factors around.levels.now)) (views : List ViewMap) (told : TellsViews scene views) (ways : TellsWays scene) (rows : RowsAreDirect (program_seen scene.program.now)) where
  abbrev p : Program
  p = program_seen scene.program.now

  abbrev levels : List Level
  levels = around.levels.now

  -- whether an access of what a name stands for, to this element, depends on the loop of a level
  abbrev depends_by : (writes : Bool) → (level : ℕ) → Option ℕ → Element → Bool
  depends_by writes level entity e = writes || (entity_depends (all_bindings_of p) level entity || element_depends (all_bindings_of p) level e)

  -- the way of what is named, as the program has it
  way_is : (number : ℕ) (a : SourceAccess) → access_at p number ≡ Some a → (form : plain.TermForm) → IsAccessForm form → entity_in form ≡ a.entity → element_in form ≡ a.element → way_named (known_in scene) form ≡ way_to p a.entity
  way_is number a at (plain.accessed r ts) access named element = ap (λ (known : Known). way_of known r) ways ∙ ap (λ (e : Option ℕ). way_to p e) named
  way_is number a at (plain.in_bank r bank place row) access named element = sym (rows number a at bank row (sym element))
  way_is number a at (plain.number negative z) access named element = absurd access
  way_is number a at (plain.truth_value b) access named element = absurd access
  way_is number a at (plain.named r) access named element = absurd access
  way_is number a at (plain.applied o left right) access named element = absurd access
  way_is number a at (plain.converted inner to) access named element = absurd access

  -- the banks that are reached from one of what is named
  view_reaches : (r : Ref) (named place : ℕ) (o : Option Way) → way_of (known_in scene) r ≡ o → IsBankOf o named → AllByRecursion (IsReachedFrom o named place) (banks_reached o (banks_seen scene r named) named place)
  view_reaches r named place None e low = ((refl, refl), tt)
  view_reaches r named place (Some w) e low =
      listed_reached (banks_seen scene r named) place 64 (λ b. may_reach w.steps named b ≡ true) (λ b f. sym ((told r w e).banks_are named b low) ∙ f)

  form_reaches : (form : plain.TermForm) (named place : ℕ) → IsAccessForm form → IsBankOf (way_named (known_in scene) form) named → AllByRecursion (IsReachedFrom (way_named (known_in scene) form) named place) (banks_told scene form named place)
  form_reaches (plain.accessed r ts) named place access low = view_reaches r named place (way_of (known_in scene) r) refl low
  form_reaches (plain.in_bank r bank at row) named place access low = ((refl, refl), tt)
  form_reaches (plain.number negative z) named place access low = absurd access
  form_reaches (plain.truth_value b) named place access low = absurd access
  form_reaches (plain.named r) named place access low = absurd access
  form_reaches (plain.applied o left right) named place access low = absurd access
  form_reaches (plain.converted inner to) named place access low = absurd access

  -- a site of the source
  site_tells : (number : ℕ) (s : BlockSite) (a : SourceAccess) → access_at p number ≡ Some a → IsSiteOf scene levels (paths_counted around) s a → AreLevelsOf levels a.site.loops → TellsAccess scene levels s a
  site_tells number s a at is loops = record {
    form = is.form;
    memory_is = memory ∙ (ap (λ (known : Known). memory_of known is.ref) ways ∙ ap (λ (e : Option ℕ). entity_number (number_in (memories_of p) (base_of (way_to p e) e))) is.entity_is);
    element_is = is.element_is;
    leader_is = λ path.
        ap (λ (t : BlockSite). t.standing.leader path) is.is
        ∙ (ap (λ (ls : List Level). leader_number ls (λ level. depends_by a.writes level (entity_in is.form) (element_in is.form)) path) is.levels_are
        ∙ (ap (λ (x : Option ℕ). leader_number levels (λ level. depends_by a.writes level x (element_in is.form)) path) is.named_is
        ∙ ap (λ (e : Element). leader_number levels (λ level. depends_by a.writes level a.entity e) path) is.element_is));
    bank_is = λ path.
        ap (λ (t : BlockSite). t.standing.bank path) is.is
        ∙ (ap (λ (m : ℕ). narrowed (bank_by p (way_named (known_in scene) is.form) is.around.levels.now m is.form path)) (sym memory)
        ∙ (ap (λ (ls : List Level). narrowed (bank_by p (way_named (known_in scene) is.form) ls s.memory is.form path)) is.levels_are
        ∙ ap (λ (o : Option Way). narrowed (bank_by p o levels s.memory is.form path)) way));
    places_is = λ path.
        ap (λ (t : BlockSite). t.standing.places path) is.is
        ∙ (ap (λ (l : ℕ → ℕ). places_by l own.bank (λ q. groups_by is.around.levels.now (shifts_on (way_named (known_in scene) is.form)) q) path) (sym (ap (λ (t : BlockSite). t.standing.leader) is.is))
        ∙ (ap (λ (b : ℕ → ℕ). places_by s.standing.leader b (λ q. groups_by is.around.levels.now (shifts_on (way_named (known_in scene) is.form)) q) path) (sym (ap (λ (t : BlockSite). t.standing.bank) is.is))
        ∙ (ap (λ (ls : List Level). places_by s.standing.leader s.standing.bank (λ q. groups_by ls (shifts_on (way_named (known_in scene) is.form)) q) path) is.levels_are
        ∙ ap (λ (o : Option Way). places_by s.standing.leader s.standing.bank (λ q. groups_by levels (shifts_on o) q) path) way)));
    reaches = λ named place low.
        subst (λ (t : BlockSite). AllByRecursion (IsReachedFrom (way_to p a.entity) named place) (t.standing.reaches named place)) (sym is.is)
        (subst (λ (o : Option Way). IsBankOf o named → AllByRecursion (IsReachedFrom o named place) (banks_told scene is.form named place)) way (form_reaches is.form named place is.access) low);
    long = ap (λ (t : BlockSite). length t.standing.guards) is.is ∙ (is.long ∙ counted);
    loops = loops;
  }
    where
      own : AccessStanding
      own = standing_at scene is.around (memory_of (known_in scene) is.ref) a.place is.form a.writes

      memory : s.memory ≡ memory_of (known_in scene) is.ref
      memory = ap (λ (t : BlockSite). t.memory) is.is

      way : way_named (known_in scene) is.form ≡ way_to p a.entity
      way = way_is number a at is.form is.access is.named_is is.element_is

  -- all of a block
  pub sites_at : (makes : ℕ → Bool) (sites : ℕ → Option BlockSite) → AreSited scene around makes sites → ((k : ℕ) → makes k ≡ true → k < length (accesses_in (trace p)))
      → ((number : ℕ) (a : SourceAccess) → makes number ≡ true → access_at p number ≡ Some a → AreLevelsOf levels a.site.loops) → HaveMemories p → AreSitesAt scene levels sites
  sites_at makes sites sited below loops memories number s at = of (element_there (accesses_in (trace p)) number (below number made))
    where
      made : makes number ≡ true
      made = sym (sited.made number) ∙ ap is_some at

      of : (a : SourceAccess) × (slice_get (accesses_in (trace (program_seen scene.program.now))) number ≡ Some a) → IsSiteAt scene levels number s
      of (a, there) = record {
        access = a;
        at = there;
        tells = site_tells number s a there (sited.told number s a at there) (loops number a made there);
        memory = memories number a there;
      }
