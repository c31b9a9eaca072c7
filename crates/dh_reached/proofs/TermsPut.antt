-- What is put down for an expression at a path: its accesses in the order of their numbers, each as it stands.
use Rattle.std.proofs.Common.{◌≡◌, ℕ, suc, ◌+◌, ◌^◌, ◌<◌, List, Some, None, refl, sym, ap, ◌∙◌, subst, arith, length, add-one}
use Rattle.std.specs.Prelude.{Bool as Truth, true, false, [], ◌∷◌, ◌++◌, slice_get, Option}
use Rattle.std.proofs.lemmas.List.{length-append}
use Rattle.dh_base.specs.declared.places.Place.{Place}
use Rattle.dh_value.specs.declared.kinds.Kind.{Kind}
use Rattle.dh_value.specs.declared.operators.Op.{Op}
use Rattle.dh_value.specs.Operations.{truth}
use Rattle.dh_tree.specs.declared.trees.expressions.Ref.{Ref}
use Rattle.dh_tree.specs.Indices.{form_of}
use Rattle.dh_tree.specs.Memories.{table_of}
use Rattle.dh_tree.specs.PlainTrees as plain
use Rattle.dh_tree.specs.Seen.{program_seen}
use Rattle.dh_meaning.specs.AccessNumbers.{term_accesses, terms_accesses}
use Rattle.dh_meaning.specs.Bindings.{kind_or_first}
use Rattle.dh_meaning.specs.CoreOf.{entity_number, memory_of, way_of}
use Rattle.dh_meaning.specs.Ways.{Way}
use Rattle.dh_code.specs.Slots.{held_at}
use Rattle.dh_plan.specs.declared.operations.OperationForm.TheVariants.{Constant, Convert}
use Rattle.dh_plan.specs.declared.operations.Reach.{Reach}
use Rattle.dh_plan.specs.declared.operations.ReachStep.{ReachStep}
use Rattle.dh_expressions.specs.declared.accesses.Accesses.{Accesses}
use Rattle.dh_expressions.specs.declared.drafts.Draft.{Draft}
use Rattle.dh_expressions.specs.declared.elements.Aim.{Aim}
use Rattle.dh_expressions.specs.declared.scenes.Around.{Around}
use Rattle.dh_expressions.specs.declared.scenes.Lane.{Lane}
use Rattle.dh_expressions.specs.declared.scenes.Scene.{Scene}
use Rattle.dh_expressions.specs.Drafted.{BlockBegun, FitsStep, BlockStep}
use Rattle.dh_expressions.specs.Evaluated.{counter_of, known_in}
use Rattle.dh_expressions.specs.MadeTerms.{MadeRead, MadeTerm, MadeTerms, MadeWay}
use Rattle.dh_expressions.specs.MadeValues.{MadeConverted}
use Rattle.dh_expressions.specs.Named.{first_view}
use Rattle.dh_expressions.specs.Reaching.{place_written}
use Rattle.dh_expressions.specs.Shown.{is_kept}
use Rattle.dh_expressions.specs.Standings.{standing_at}
use Rattle.dh_expressions.proofs.Pushing.{begun_later, fits_before, in_front}
use Rattle.dh_formed.specs.Counted.{AreNext, HaveGiven}
use Rattle.dh_formed.specs.Formed.{BlockSite}
use Rattle.dh_formed.proofs.TermsCounted.{given_again, given_none, next_first, next_second}
use Rattle.dh_formed.proofs.TermsFormed.{all_numbered, numbered, way_part}
use Rattle.dh_formed.proofs.ValuesCounted.{number_counts, operation_counts, sees_any, variable_counts, way_counts}
use Rattle.dh_formed.proofs.ValuesFormed.{operation_forms}
use Rattle.dh_laid.specs.BlockSites.{term_sites, terms_sites}
use Rattle.dh_laid.proofs.AccessesLaid.{converted_extends, read_lays, term_lays, terms_lay}
use Rattle.dh_reached.specs.IndicesKept.{TermKeeps, TermsKeep}
use Rattle.dh_reached.specs.Puts.{AreSitedAccesses, OperationAtPath}
use Rattle.dh_reached.proofs.LedUses.{IsLed}
use Rattle.dh_reached.proofs.NoUses.{AddsNone, at_then, before_none, none_counted, none_pushed, none_still, puts_added}
use Rattle.dh_reached.specs.ReachedBlocks.{StandsSpread}
use Rattle.dh_reached.proofs.ReadsPut.{AtLane, PutsHere, ReachesAt, read_given, read_puts}
use Rattle.dh_reached.proofs.Stays.{Stays}
use Rattle.dh_reached.proofs.WaysReach.{by_indices, by_row}

-- Sites and ways by their numbers.

-- accesses from a number on stand at these
abbrev pub SitesAt : {A : Type 0} → (sites : ℕ → Option A) → (n : ℕ) → List A → Type 0
SitesAt {A} sites n ss = (i : ℕ) (s : A) → slice_get ss i ≡ Some s → sites (n + i) ≡ Some s

pub sites_front : {A : Type 0} (sites : ℕ → Option A) (n : ℕ) (xs ys : List A) → SitesAt sites n (xs ++ ys) → SitesAt sites n xs
sites_front sites n xs ys h i s at = h i s (in_front xs ys i s at)

behind_front : {A : Type 0} (xs ys : List A) (i : ℕ) → slice_get (xs ++ ys) (length xs + i) ≡ slice_get ys i
behind_front [] ys i = ap (λ k. slice_get ys k) (let e : 0 + i ≡ i = omega arith in e)
behind_front (x ∷ xs) ys i = ap (λ k. slice_get (x ∷ (xs ++ ys)) k) (let e : suc (length xs) + i ≡ suc (length xs + i) = omega arith in e) ∙ behind_front xs ys i

pub sites_back : {A : Type 0} (sites : ℕ → Option A) (n a : ℕ) (xs ys : List A) → length xs ≡ a → SitesAt sites n (xs ++ ys) → SitesAt sites (n + a) ys
sites_back sites n a xs ys long h i s at =
    ap sites (let e : n + a + i ≡ n + (length xs + i) = omega (arith, long) in e) ∙ h (length xs + i) s (behind_front xs ys i ∙ at)

pub site_one : {A : Type 0} (sites : ℕ → Option A) (n : ℕ) (s : A) → SitesAt sites n (s ∷ []) → sites n ≡ Some s
site_one sites n s h = ap sites (let e : n ≡ n + 0 = omega arith in e) ∙ h 0 s refl

module _ (scene : Scene) where
  abbrev mutual
    -- the ways of what the accesses of an expression name
    pub term_ways : plain.Term → List (Option Way)
    term_ways (plain.term place kind form) = form_ways form

    pub form_ways : plain.TermForm → List (Option Way)
    form_ways (plain.number negative z) = []
    form_ways (plain.truth_value b) = []
    form_ways (plain.named r) = []
    form_ways (plain.accessed r ts) = terms_ways ts ++ way_of (known_in scene) r ∷ []
    form_ways (plain.in_bank r bank at row) = term_ways row ++ None ∷ []
    form_ways (plain.applied op left right) = term_ways left ++ term_ways right
    form_ways (plain.converted inner to) = term_ways inner

    pub terms_ways : plain.Terms → List (Option Way)
    terms_ways plain.no_terms = []
    terms_ways (plain.term_then t ts) = term_ways t ++ terms_ways ts

  -- so of a target
  abbrev pub target_ways : plain.Term → List (Option Way)
  target_ways (plain.term place k (plain.accessed r ts)) = terms_ways ts ++ way_of (known_in scene) r ∷ []
  target_ways (plain.term place k (plain.in_bank r bank at row)) = term_ways row ++ None ∷ []
  target_ways (plain.term place k (plain.number negative z)) = []
  target_ways (plain.term place k (plain.truth_value b)) = []
  target_ways (plain.term place k (plain.named r)) = []
  target_ways (plain.term place k (plain.applied op left right)) = []
  target_ways (plain.term place k (plain.converted inner to)) = []

  mutual
    pub ways_long : (t : plain.Term) → length (term_ways t) ≡ term_accesses t
    ways_long (plain.term place k (plain.number negative z)) = refl
    ways_long (plain.term place k (plain.truth_value b)) = refl
    ways_long (plain.term place k (plain.named r)) = refl
    ways_long (plain.term place k (plain.accessed r ts)) = length-append (terms_ways ts) _ ∙ (ap (λ n. n + 1) (all_ways_long ts) ∙ add-one (terms_accesses ts))
    ways_long (plain.term place k (plain.in_bank r bank at row)) = length-append (term_ways row) _ ∙ (ap (λ n. n + 1) (ways_long row) ∙ add-one (term_accesses row))
    ways_long (plain.term place k (plain.applied op left right)) =
        length-append (term_ways left) (term_ways right) ∙ (ap (λ n. n + length (term_ways right)) (ways_long left) ∙ ap (λ n. term_accesses left + n) (ways_long right))
    ways_long (plain.term place k (plain.converted inner to)) = ways_long inner

    pub all_ways_long : (ts : plain.Terms) → length (terms_ways ts) ≡ terms_accesses ts
    all_ways_long plain.no_terms = refl
    all_ways_long (plain.term_then t ts) =
        length-append (term_ways t) (terms_ways ts) ∙ (ap (λ n. n + length (terms_ways ts)) (ways_long t) ∙ ap (λ n. term_accesses t + n) (all_ways_long ts))

module _ (scene : Scene) (around : Around) where
  mutual
    pub sites_long : (t : plain.Term) → length (term_sites scene around t) ≡ term_accesses t
    sites_long (plain.term place k (plain.number negative z)) = refl
    sites_long (plain.term place k (plain.truth_value b)) = refl
    sites_long (plain.term place k (plain.named r)) = refl
    sites_long (plain.term place k (plain.accessed r ts)) = length-append (terms_sites scene around ts) _ ∙ (ap (λ n. n + 1) (all_sites_long ts) ∙ add-one (terms_accesses ts))
    sites_long (plain.term place k (plain.in_bank r bank at row)) = length-append (term_sites scene around row) _ ∙ (ap (λ n. n + 1) (sites_long row) ∙ add-one (term_accesses row))
    sites_long (plain.term place k (plain.applied op left right)) =
        length-append (term_sites scene around left) (term_sites scene around right) ∙ (ap (λ n. n + length (term_sites scene around right)) (sites_long left) ∙ ap (λ n. term_accesses left + n) (sites_long right))
    sites_long (plain.term place k (plain.converted inner to)) = sites_long inner

    pub all_sites_long : (ts : plain.Terms) → length (terms_sites scene around ts) ≡ terms_accesses ts
    all_sites_long plain.no_terms = refl
    all_sites_long (plain.term_then t ts) =
        length-append (term_sites scene around t) (terms_sites scene around ts) ∙ (ap (λ n. n + length (terms_sites scene around ts)) (sites_long t) ∙ ap (λ n. term_accesses t + n) (all_sites_long ts))

-- Values that use nothing.

pub converted_none : (kept : Truth) (to : Kind) (value : ℕ) (old new : Draft) (v : ℕ) → MadeConverted kept to value old new v → AddsNone old new
converted_none true to value old new v m = none_still old new m.0
converted_none false to value old new v m = none_pushed old new v None (Convert value to) m tt

-- nothing is used by the steps of a way
pub way_none : (scene : Scene) (lane : Lane) (current : List (Option ℕ)) (way : Option Way) (first : ℕ) (old new : Draft) (steps : List ReachStep) → MadeWay scene lane current old new first way steps → AddsNone old new
way_none scene lane current way first old new steps m =
    none_counted old new 0 _ _
    (way_counts (λ register. Unit {0}) (λ r. Unit {0}) (λ r. ⊥) (λ r. ⊥) scene lane current way first (sees_any (λ register. Unit {0}) (λ r. Unit {0}) (λ r. ⊥) (λ r. ⊥) (λ register. tt) scene lane way) old new steps m)

-- Expressions.

module _ (x : BlockStep) (sites : ℕ → Option BlockSite) (scene : Scene) (lane : Lane) (stands : StandsSpread scene lane.around) (within : lane.number < length lane.around.guards.now)
    (table : x.start.table ≡ table_of (program_seen scene.program.now)) (ways : ℕ → Option (Option Way)) (start : List (Option ℕ)) where
  abbrev pub Led : OperationAtPath → Reach → Type 0
  Led = IsLed x scene lane.around start sites ways

  abbrev At : OperationAtPath → Reach → Type 0
  At = AtLane x sites scene lane stands within Led

  -- what is put down for accesses from a first one on, so many, that give at this path
  pub record Done (first count : ℕ) (old new : Draft) (before after : Accesses) : Type 0 where
    pub here : PutsHere x sites scene lane stands within Led first count (λ n. ⊥) old new before after
    pub given : HaveGiven lane before after first count

  pub done_none : (first : ℕ) (old new : Draft) (before after : Accesses) → AddsNone old new → after ≡ before → AreSitedAccesses x sites before → Done first 0 old new before after
  done_none first old new before after h same sited = record {
    here = record { puts = puts_added x sites first 0 At (λ n. ⊥) old new h; sited = subst (λ (a : Accesses). AreSitedAccesses x sites a) (sym same) sited };
    given = given_none scene lane before after first same;
  }

  pub done_then : (n a b : ℕ) (old middle new : Draft) (before between after : Accesses) → Done n a old middle before between → Done (n + a) b middle new between after → Done n (a + b) old new before after
  done_then n a b old middle new before between after h k = record {
    here = record { puts = at_then x sites n a b At (λ m. ⊥) old middle new h.here.puts k.here.puts; sited = k.here.sited };
    given = given_again scene lane before between after n a b h.given k.given;
  }

  pub done_before : (n a : ℕ) (old middle new : Draft) (before after : Accesses) → Done n a old middle before after → AddsNone middle new → Done n a old new before after
  done_before n a old middle new before after h k = record {
    here = record { puts = before_none x sites n a At (λ m. ⊥) old middle new h.here.puts k; sited = h.here.sited };
    given = h.given;
  }

  done_as : (n a b : ℕ) (old new : Draft) (before after : Accesses) → a ≡ b → Done n a old new before after → Done n b old new before after
  done_as n a b old new before after same h = subst (λ (c : ℕ). Done n c old new before after) same h

  next_as : (before : Accesses) (n a b : ℕ) → a ≡ b → AreNext scene lane before n a → AreNext scene lane before n b
  next_as before n a b same h = subst (λ (c : ℕ). AreNext scene lane before n c) same h

  module _ (current : List (Option ℕ)) (Sets : ℕ → Type 0) (stays : Stays scene lane.around Sets start current) where
    abbrev TermDone : plain.Term → Type 0
    TermDone t = (old new : Draft) (before after : Accesses) (n next v : ℕ) → MadeTerm scene lane current t old new before after n next v → n + term_accesses t < 2 ^ 32 → SitesAt sites n (term_sites scene lane.around t)
        → SitesAt ways n (term_ways scene t) → TermKeeps x scene lane.around.levels.now Sets t → FitsStep x new → BlockBegun x old → AreSitedAccesses x sites before → AreNext scene lane before n (term_accesses t) → Done n (term_accesses t) old new before after

    abbrev TermsDone : plain.Terms → Type 0
    TermsDone ts = (old new : Draft) (before after : Accesses) (n next : ℕ) (vs : List ℕ) → MadeTerms scene lane current ts old new before after n next vs → n + terms_accesses ts < 2 ^ 32 → SitesAt sites n (terms_sites scene lane.around ts)
        → SitesAt ways n (terms_ways scene ts) → TermsKeep x scene lane.around.levels.now Sets ts → FitsStep x new → BlockBegun x old → AreSitedAccesses x sites before → AreNext scene lane before n (terms_accesses ts) → Done n (terms_accesses ts) old new before after

    -- an access behind the parts that name its element
    access_then : (access : plain.Term) (memory : ℕ) (aim : Aim) (old middle new : Draft) (before between after : Accesses) (n count v : ℕ) → aim.number ≡ n + count → Done n count old middle before between
        → MadeRead scene lane access memory aim middle new between after v → sites (n + count) ≡ Some (record { memory = memory; standing = standing_at scene lane.around memory (place_written access) (form_of access) false })
        → ReachesAt x sites scene lane stands within Led memory aim (standing_at scene lane.around memory (place_written access) (form_of access) false)
        → FitsStep x new → BlockBegun x middle → AreNext scene lane before n (suc count) → Done n (suc count) old new before after
    access_then access memory aim old middle new before between after n count v own h m site reaches f b next =
        done_as n (count + 1) (suc count) old new before after (add-one count) (done_then n count 1 old middle new before between after h (subst (λ (i : ℕ). Done i 1 middle new between after) own read))
      where
        own_site : sites aim.number ≡ Some (record { memory = memory; standing = standing_at scene lane.around memory (place_written access) (form_of access) false })
        own_site = ap sites own ∙ site

        own_next : AreNext scene lane between aim.number 1
        own_next = subst (λ (i : ℕ). AreNext scene lane between i 1) (sym own) (next_second scene lane before between n count 1 (next_as before n (suc count) (count + 1) (sym (add-one count)) next) h.given)

        read : Done aim.number 1 middle new between after
        read = record {
          here = read_puts x sites scene lane stands within Led access memory aim own_site reaches middle new between after v m f b h.here.sited own_next;
          given = read_given x sites scene lane stands within Led access memory aim own_site reaches middle new between after v m f b h.here.sited own_next;
        }

    access_done : (place : Place) (k : Option Kind) (r : Ref) (ts : plain.Terms) → TermsDone ts → TermDone (plain.term place k (plain.accessed r ts))
    access_done place k r ts all old new before after n next v m few at wat keeps f b sited ahead =
        let own = all_numbered scene lane current ts old m.named before m.between n m.aim.number m.aim.indices m.indices (omega (arith, few)) in
        let front = (terms_lay scene lane stands.stands current ts old m.named before m.between n m.aim.number m.aim.indices m.indices).extends in
        let way = (way_part scene lane current (way_of (known_in scene) r) (memory_of (known_in scene) r) (first_view scene r) m.named m.middle m.between m.aim.steps m.steps).extends in
        let last = (read_lays scene lane stands.stands _ _ m.aim m.middle new m.between after v m.reads).extends in
        let fm = fits_before m.middle new x last f in
        let fn = fits_before m.named m.middle x way fm in
        let bn = begun_later old m.named x front b in
        let site = site_one sites (n + terms_accesses ts) _ (sites_back sites n (terms_accesses ts) (terms_sites scene lane.around ts) _ (all_sites_long scene lane.around ts) at) in
        let own_way = site_one ways (n + terms_accesses ts) _ (sites_back ways n (terms_accesses ts) (terms_ways scene ts) _ (all_ways_long scene ts) wat) in
        access_then (plain.term place k (plain.accessed r ts)) (memory_of (known_in scene) r) m.aim old m.middle new before m.between after n (terms_accesses ts) v own
        (done_before n (terms_accesses ts) old m.named m.middle before m.between
        (all old m.named before m.between n m.aim.number m.aim.indices m.indices (omega (arith, few)) (sites_front sites n (terms_sites scene lane.around ts) _ at) (sites_front ways n (terms_ways scene ts) _ wat) keeps.0 fn b sited
        (next_first scene lane before n (terms_accesses ts) 1 (next_as before n (suc (terms_accesses ts)) (terms_accesses ts + 1) (sym (add-one (terms_accesses ts))) ahead)))
        (way_none scene lane current (way_of (known_in scene) r) (first_view scene r) m.named m.middle m.aim.steps m.steps))
        m.reads site
        (by_indices x sites scene lane stands within table ways start current Sets stays r ts m.aim old m.named m.middle before m.between n m.indices m.row m.steps keeps.1.0 keeps.1.1 fn b fm bn place false (ap sites own ∙ site) (ap ways own ∙ own_way))
        f (begun_later m.named m.middle x way bn) ahead

    bank_done : (place : Place) (k : Option Kind) (r : Ref) (bank : ℕ) (to : Place) (row : plain.Term) → TermDone row → TermDone (plain.term place k (plain.in_bank r bank to row))
    bank_done place k r bank to row one old new before after n next v m few at wat keeps f b sited ahead =
        let own = numbered scene lane current row old m.middle before m.between n m.aim.number m.value m.row (omega (arith, few)) in
        let front = (term_lays scene lane stands.stands current row old m.middle before m.between n m.aim.number m.value m.row).extends in
        let last = (read_lays scene lane stands.stands _ _ m.aim m.middle new m.between after v m.reads).extends in
        let fm = fits_before m.middle new x last f in
        let site = site_one sites (n + term_accesses row) _ (sites_back sites n (term_accesses row) (term_sites scene lane.around row) _ (sites_long scene lane.around row) at) in
        let own_way = site_one ways (n + term_accesses row) _ (sites_back ways n (term_accesses row) (term_ways scene row) _ (ways_long scene row) wat) in
        access_then (plain.term place k (plain.in_bank r bank to row)) (memory_of (known_in scene) r) m.aim old m.middle new before m.between after n (term_accesses row) v own
        (one old m.middle before m.between n m.aim.number m.value m.row (omega (arith, few)) (sites_front sites n (term_sites scene lane.around row) _ at) (sites_front ways n (term_ways scene row) _ wat) keeps fm b sited
        (next_first scene lane before n (term_accesses row) 1 (next_as before n (suc (term_accesses row)) (term_accesses row + 1) (sym (add-one (term_accesses row))) ahead)))
        m.reads site
        (by_row x sites scene lane stands within table ways start current r bank to row (memory_of (known_in scene) r) m.value m.aim place false m.row_is (ap sites own ∙ site) (ap ways own ∙ own_way))
        f (begun_later old m.middle x front b) ahead

    two_done : (place : Place) (k : Option Kind) (o : Op) (left right : plain.Term) → TermDone left → TermDone right → TermDone (plain.term place k (plain.applied o left right))
    two_done place k o left right one two old new before after n next v m few at wat keeps f b sited ahead =
        let own = numbered scene lane current left old m.middle before m.between n m.own m.a m.first (omega (arith, few)) in
        let last = (operation_forms o left right (kind_or_first k) m.a m.b m.end new v m.operation).extends in
        let fe = fits_before m.end new x last f in
        let second = (term_lays scene lane stands.stands current right m.middle m.end m.between after m.own next m.b m.second).extends in
        let first = (term_lays scene lane stands.stands current left old m.middle before m.between n m.own m.a m.first).extends in
        let fm = fits_before m.middle m.end x second fe in
        let h : Done n (term_accesses left) old m.middle before m.between =
        one old m.middle before m.between n m.own m.a m.first (omega (arith, few)) (sites_front sites n (term_sites scene lane.around left) (term_sites scene lane.around right) at) (sites_front ways n (term_ways scene left) (term_ways scene right) wat) keeps.0 fm b sited
        (next_first scene lane before n (term_accesses left) (term_accesses right) ahead) in
        done_before n (term_accesses left + term_accesses right) old m.end new before after
        (done_then n (term_accesses left) (term_accesses right) old m.middle m.end before m.between after h
        (two m.middle m.end m.between after (n + term_accesses left) next m.b (subst (λ (i : ℕ). MadeTerm scene lane current right m.middle m.end m.between after i next m.b) own m.second) (omega (arith, few))
        (sites_back sites n (term_accesses left) (term_sites scene lane.around left) (term_sites scene lane.around right) (sites_long scene lane.around left) at) (sites_back ways n (term_accesses left) (term_ways scene left) (term_ways scene right) (ways_long scene left) wat) keeps.1 fe (begun_later old m.middle x first b) h.here.sited
        (next_second scene lane before m.between n (term_accesses left) (term_accesses right) ahead h.given)))
        (none_counted m.end new _ _ _ (operation_counts (λ register. Unit {0}) (λ r. Unit {0}) (λ r. ⊥) (λ r. ⊥) o left right m.a m.b m.end new v m.operation))

    then_done : (t : plain.Term) (ts : plain.Terms) → TermDone t → TermsDone ts → TermsDone (plain.term_then t ts)
    then_done t ts one rest old new before after n next vs m few at wat keeps f b sited ahead =
        let own = numbered scene lane current t old m.middle before m.between n m.own m.a m.first (omega (arith, few)) in
        let second = (terms_lay scene lane stands.stands current ts m.middle new m.between after m.own next m.more m.rest).extends in
        let first = (term_lays scene lane stands.stands current t old m.middle before m.between n m.own m.a m.first).extends in
        let fm = fits_before m.middle new x second f in
        let h : Done n (term_accesses t) old m.middle before m.between =
        one old m.middle before m.between n m.own m.a m.first (omega (arith, few)) (sites_front sites n (term_sites scene lane.around t) (terms_sites scene lane.around ts) at) (sites_front ways n (term_ways scene t) (terms_ways scene ts) wat) keeps.0 fm b sited
        (next_first scene lane before n (term_accesses t) (terms_accesses ts) ahead) in
        done_then n (term_accesses t) (terms_accesses ts) old m.middle new before m.between after h
        (rest m.middle new m.between after (n + term_accesses t) next m.more (subst (λ (i : ℕ). MadeTerms scene lane current ts m.middle new m.between after i next m.more) own m.rest) (omega (arith, few))
        (sites_back sites n (term_accesses t) (term_sites scene lane.around t) (terms_sites scene lane.around ts) (sites_long scene lane.around t) at) (sites_back ways n (term_accesses t) (term_ways scene t) (terms_ways scene ts) (ways_long scene t) wat) keeps.1 f (begun_later old m.middle x first b) h.here.sited
        (next_second scene lane before m.between n (term_accesses t) (terms_accesses ts) ahead h.given))

    mutual
      pub term_done : (t : plain.Term) → TermDone t
      term_done (plain.term place k (plain.number negative z)) = λ old new before after n next v m few at wat keeps f b sited ahead.
          done_none n old new before after (none_counted old new 0 _ _ (number_counts (λ register. Unit {0}) (λ r. Unit {0}) (λ r. ⊥) (λ r. ⊥) (kind_or_first k) negative z old new v m.part)) m.same sited
      term_done (plain.term place k (plain.truth_value t)) = λ old new before after n next v m few at wat keeps f b sited ahead. done_none n old new before after (none_pushed old new v None (Constant (truth t)) m.part tt) m.same sited
      term_done (plain.term place k (plain.named r)) = λ old new before after n next v m few at wat keeps f b sited ahead.
          done_none n old new before after
          (none_counted old new 0 _ _
          (variable_counts (λ register. Unit {0}) (λ r. Unit {0}) (λ r. ⊥) (λ r. ⊥) (counter_of scene (entity_number r.entity)) (held_at scene.held.now (entity_number r.entity)) lane current (kind_or_first k) tt old new v m.part)) m.same sited
      term_done (plain.term place k (plain.accessed r ts)) = access_done place k r ts (terms_done ts)
      term_done (plain.term place k (plain.in_bank r bank to row)) = bank_done place k r bank to row (term_done row)
      term_done (plain.term place k (plain.applied o left right)) = two_done place k o left right (term_done left) (term_done right)
      term_done (plain.term place k (plain.converted inner to)) = λ old new before after n next v m few at wat keeps f b sited ahead.
          let last = converted_extends (is_kept inner to) to m.a m.middle new v m.converts in
          done_before n (term_accesses inner) old m.middle new before after
          (term_done inner old m.middle before after n next m.a m.operand few at wat keeps (fits_before m.middle new x last f) b sited ahead) (converted_none (is_kept inner to) to m.a m.middle new v m.converts)

      pub terms_done : (ts : plain.Terms) → TermsDone ts
      terms_done plain.no_terms = λ old new before after n next vs m few at wat keeps f b sited ahead. done_none n old new before after (none_still old new m.still) m.same sited
      terms_done (plain.term_then t ts) = then_done t ts (term_done t) (terms_done ts)
