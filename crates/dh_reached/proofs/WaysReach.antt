-- Where the values of an access lead in a step: by its indices, through the views on the way of what it names, to a bank
-- that the scene tells to be reached from there; or by a row to the bank that is written.
use Rattle.std.proofs.Common.{◌≡◌, ◌⊎◌, inl, inr, ℕ, zero, suc, ◌^◌, ◌<◌, ◌≤◌, Bool, true, false, if◌then◌else◌, List, [], ◌∷◌, ◌++◌, length, map, take, drop, Option, Some, None, refl, ap, sym, ◌∙◌, subst, arith, ℤ}
use Rattle.std.specs.Prelude.{slice_get, unsigned_abs}
use Rattle.std.specs.List.{AllByRecursion}
use Rattle.std.proofs.lemmas.Bool.{cases_lt}
use Rattle.dh_base.specs.declared.places.Place.{Place}
use Rattle.dh_value.specs.Words as words
use Rattle.dh_tree.specs.declared.tables.Dim.{Dim}
use Rattle.dh_tree.specs.declared.trees.counters.Counter.{Counter}
use Rattle.dh_tree.specs.declared.trees.expressions.Ref.{Ref}
use Rattle.dh_tree.specs.declared.viewing.ViewMap.{ViewMap}
use Rattle.dh_tree.specs.Counters.{counters_of}
use Rattle.dh_tree.specs.Elements.{Spot, bank_of, banks_of, dims_at}
use Rattle.dh_tree.specs.Memories.{table_of}
use Rattle.dh_tree.specs.PlainTrees as plain
use Rattle.dh_tree.specs.Seen.{program_seen}
use Rattle.dh_tree.specs.Shapes.{IsDim}
use Rattle.dh_viewing.specs.declared.bank_sets.BankSet.{BankSet}
use Rattle.dh_viewing.specs.ReachedBanks.{bank_at, is_in}
use Rattle.dh_viewing.proofs.BankDigits.{bank_at_below}
use Rattle.dh_meaning.specs.CoreOf.{dims_by, dims_named, memory_of, way_of}
use Rattle.dh_meaning.specs.Effects.{indices_through, spot_by_indices, spot_by_views, spot_if_inside}
use Rattle.dh_meaning.specs.Ways.{Hidden, Way, WayStep as ViewStep}
use Rattle.dh_meets.specs.Charges.{may_reach}
use Rattle.dh_plan.specs.declared.operations.OperationForm.TheVariants.{Old}
use Rattle.dh_plan.specs.declared.operations.Reach.{Reach}
use Rattle.dh_plan.specs.declared.operations.ReachStep.{ReachStep}
use Rattle.dh_plan.specs.Blocks.{numbers_at, passages, spot_in_row, spot_of_reach}
use Rattle.dh_plan.specs.Passages.{indices_behind}
use Rattle.dh_plan.specs.SoundPlans.{IsListed}
use Rattle.dh_plan.specs.WaysPassed.{AreOfSteps}
use Rattle.dh_plan.proofs.ViewsPassed.{passed}
use Rattle.dh_ways.specs.Leading.{next_dims}
use Rattle.dh_carried.proofs.WaysReached.{ways_reach}
use Rattle.dh_sound.proofs.BanksReached.{spot_indices}
use Rattle.dh_sound.proofs.BanksThrough.{Seen, seen_through}
use Rattle.dh_expressions.specs.declared.accesses.Accesses.{Accesses}
use Rattle.dh_expressions.specs.declared.drafts.Draft.{Draft}
use Rattle.dh_expressions.specs.declared.elements.Aim.{Aim}
use Rattle.dh_expressions.specs.declared.paths.Level.{Level}
use Rattle.dh_expressions.specs.declared.scenes.Lane.{Lane}
use Rattle.dh_expressions.specs.declared.scenes.Scene.{Scene}
use Rattle.dh_expressions.specs.declared.scenes.Through.{Through}
use Rattle.dh_expressions.specs.Copying.{groups_by}
use Rattle.dh_expressions.specs.Counting.{places_by}
use Rattle.dh_expressions.specs.Drafted.{BlockBegun, Extends, FitsStep, Pushes, BlockStep, word_shown}
use Rattle.dh_expressions.specs.Evaluated.{AreViews, hidden_register, hidden_shown, steps_told}
use Rattle.dh_expressions.specs.MadeTerms.{MadeHidden, MadeSteps, MadeTerms, MadeWay}
use Rattle.dh_expressions.specs.MadeValues.{MadeCurrent, MadeShown}
use Rattle.dh_expressions.specs.Named.{banks_below, banks_reached, banks_seen, first_view, known_in, number_of_parent, shifts_on}
use Rattle.dh_expressions.specs.Numbers.{narrowed}
use Rattle.dh_expressions.specs.ReachedBanks.{indices_first}
use Rattle.dh_expressions.specs.Reaching.{reach_told}
use Rattle.dh_expressions.specs.Shown.{current_shown, register_as_begun, variable_shown}
use Rattle.dh_expressions.specs.Standings.{AccessStanding, banks_at, standing_at}
use Rattle.dh_expressions.proofs.Pushing.{begun_later, computes, extends_again, extends_self, fits_before, pushed_extends}
use Rattle.dh_formed.specs.Formed.{BlockSite}
use Rattle.dh_reached.specs.IndicesKept.{HiddenKept, IndicesKeep, WayKept}
use Rattle.dh_reached.specs.Puts.{OperationAtPath}
use Rattle.dh_reached.specs.ReachedBlocks.{StandsSpread}
use Rattle.dh_reached.proofs.IndicesReach.{bank_small, indices_bank, row_reaches}
use Rattle.dh_reached.proofs.LedUses.{CountsBy, IsKeptSo, IsLed, LeadsFrom, kept_shown}
use Rattle.dh_reached.proofs.ReadsPut.{ReachesAt, own_reach}
use Rattle.dh_reached.proofs.Stays.{Stays}

-- What is put down for variables shows what they hold.

shown_is : (x : BlockStep) (current : List (Option ℕ)) (register : ℕ) (old new : Draft) (v : ℕ) → MadeShown current register old new v → FitsStep x new → BlockBegun x old → word_shown x v ≡ variable_shown x current register
shown_is x current register old new v m f b = by (slice_get current register) m
  where
    pushed : Pushes old new v None (Old register) → word_shown x v ≡ register_as_begun x register
    pushed p = (computes old new v (Old register) p (λ s first ws. refl)).is x f b

    by : (o : Option (Option ℕ)) → MadeCurrent o register old new v → word_shown x v ≡ current_shown x o register
    by None m = pushed m
    by (Some None) m = pushed m
    by (Some (Some value)) m = ap (λ n. word_shown x n) m.1

shown_extends : (current : List (Option ℕ)) (register : ℕ) (old new : Draft) (v : ℕ) → MadeShown current register old new v → Extends old new
shown_extends current register old new v m = by (slice_get current register) m
  where
    by : (o : Option (Option ℕ)) → MadeCurrent o register old new v → Extends old new
    by None m = pushed_extends old new v None (Old register) m
    by (Some None) m = pushed_extends old new v None (Old register) m
    by (Some (Some value)) m = subst (λ (d : Draft). Extends old d) (sym m.0) (extends_self old)

-- Steps of a way.

numbers_taken : (x : BlockStep) (n : ℕ) (values : List ℕ) → numbers_at x.first x.words (take n values) ≡ take n (numbers_at x.first x.words values)
numbers_taken x zero values = refl
numbers_taken x (suc n) [] = refl
numbers_taken x (suc n) (v ∷ values) = ap (λ zs. words.value_of (word_shown x v) ∷ zs) (numbers_taken x n values)

numbers_dropped : (x : BlockStep) (n : ℕ) (values : List ℕ) → numbers_at x.first x.words (drop n values) ≡ drop n (numbers_at x.first x.words values)
numbers_dropped x zero values = refl
numbers_dropped x (suc n) [] = refl
numbers_dropped x (suc n) (v ∷ values) = numbers_dropped x n values

steps_pass : (x : BlockStep) (through : List Through) (vs : List ViewMap) (steps : List ViewStep) (first : ℕ) (values : List ℕ) (zs : List ℤ) → AreViews through vs first steps → numbers_at x.first x.words values ≡ zs
    → AreOfSteps vs steps (passages x.first x.words (steps_told through first steps values)) zs
steps_pass x through vs [] first values zs there same = tt
steps_pass x through vs (s ∷ ss) first values zs there same = (
  there.0,
  (
    numbers_taken x s.offsets values ∙ ap (λ ys. take s.offsets ys) same,
    steps_pass x through vs ss (number_of_parent through first) (drop s.offsets values) (drop s.offsets zs) there.1 (numbers_dropped x s.offsets values ∙ ap (λ ys. drop s.offsets ys) same),
  ),
)

-- Banks that are listed.

listed_front : (bank place : ℕ) (xs ys : List (ℕ × ℕ)) → IsListed bank place xs → IsListed bank place (xs ++ ys)
listed_front bank place [] ys h = absurd h
listed_front bank place (x ∷ xs) ys (inl p) = inl p
listed_front bank place (x ∷ xs) ys (inr h) = inr (listed_front bank place xs ys h)

listed_last : (bank place : ℕ) (xs : List (ℕ × ℕ)) → IsListed bank place (xs ++ (bank, place) ∷ [])
listed_last bank place [] = inl (refl, refl)
listed_last bank place (x ∷ xs) = inr (listed_last bank place xs)

listed_either : (bank place : ℕ) (xs : List (ℕ × ℕ)) (b : ℕ × ℕ) → IsListed bank place (xs ++ b ∷ []) → IsListed bank place xs ⊎ (b.1 ≡ place)
listed_either bank place [] b (inl p) = inr p.1
listed_either bank place [] b (inr none) = absurd none
listed_either bank place (x ∷ xs) b (inl p) = inl (inl p)
listed_either bank place (x ∷ xs) b (inr h) = elim (listed_either bank place xs b h) [ inl k ↦ inl (inr k) | inr e ↦ inr e ]

below_listed : (s : BankSet) (place n bank : ℕ) → bank < n → is_in s bank ≡ true → IsListed bank place (banks_below s place n)
below_listed s place zero bank less is = absurd (none bank less)
  where
    none : (b : ℕ) → b < 0 → ⊥
    none b l = omega (arith, l)
below_listed s place (suc n) bank less is = by (cases_lt bank n) (is_in s n) refl (λ l. below_listed s place n bank l is)
  where
    last : (b n : ℕ) → b < suc n → n ≤ b → b ≡ n
    last b n l h = omega (arith, l, h)

    clash : (b : Bool) → b ≡ true → b ≡ false → ⊥
    clash true e f = cc
    clash false e f = cc

    by : (bank < n) ⊎ (n ≤ bank) → (t : Bool) → is_in s n ≡ t → (bank < n → IsListed bank place (banks_below s place n)) → IsListed bank place (if t then banks_below s place n ++ (n, place) ∷ [] else banks_below s place n)
    by (inl l) true e rest = listed_front bank place (banks_below s place n) ((n, place) ∷ []) (rest l)
    by (inl l) false e rest = rest l
    by (inr l) true e rest = subst (λ (m : ℕ). IsListed bank place (banks_below s place n ++ (m, place) ∷ [])) (last bank n less l) (listed_last bank place (banks_below s place n))
    by (inr l) false e rest = absurd (clash (is_in s n) (ap (λ (m : ℕ). is_in s m) (sym (last bank n less l)) ∙ is) e)

placed_below : (s : BankSet) (place n bank other : ℕ) → IsListed bank other (banks_below s place n) → other ≡ place
placed_below s place zero bank other h = absurd h
placed_below s place (suc n) bank other h = by (is_in s n) h (λ k. placed_below s place n bank other k)
  where
    by : (t : Bool) → IsListed bank other (if t then banks_below s place n ++ (n, place) ∷ [] else banks_below s place n) → (IsListed bank other (banks_below s place n) → other ≡ place) → other ≡ place
    by true h rest = elim (listed_either bank other (banks_below s place n) (n, place) h) [ inl k ↦ rest k | inr e ↦ sym e ]
    by false h rest = rest h

alone : (bank place other where_ : ℕ) → IsListed other where_ ((bank, place) ∷ []) → where_ ≡ place
alone bank place other where_ (inl p) = sym p.1
alone bank place other where_ (inr none) = absurd none

-- Accesses.

module _ (x : BlockStep) (sites : ℕ → Option BlockSite) (scene : Scene) (lane : Lane) (stands : StandsSpread scene lane.around) (within : lane.number < length lane.around.guards.now)
    (table : x.start.table ≡ table_of (program_seen scene.program.now)) (ways : ℕ → Option (Option Way)) (start : List (Option ℕ)) where
  abbrev levels : List Level
  levels = lane.around.levels.now

  abbrev Led : OperationAtPath → Reach → Type 0
  Led = IsLed x scene lane.around start sites ways

  abbrev Reaches : (memory : ℕ) → Aim → AccessStanding → Type 0
  Reaches memory aim s = ReachesAt x sites scene lane stands within Led memory aim s

  -- what is put down for a way
  module _ (current : List (Option ℕ)) where
    hidden_extends : (hs : List Hidden) (old new : Draft) (values : List ℕ) → MadeHidden scene lane current hs old new values → Extends old new
    hidden_extends [] old new values m = subst (λ (d : Draft). Extends old d) (sym m.0) (extends_self old)
    hidden_extends (h ∷ hs) old new values (d, (v, (more, (s, (rest, are))))) = extends_again old d new (shown_extends current (hidden_register scene lane h) old d v s) (hidden_extends hs d new more rest)

    hidden_are : (hs : List Hidden) (old new : Draft) (values : List ℕ) → MadeHidden scene lane current hs old new values → FitsStep x new → BlockBegun x old
        → numbers_at x.first x.words values ≡ map (λ (h : Hidden). words.value_of (hidden_shown scene lane current x h)) hs
    hidden_are [] old new values m f b = ap (λ (vs : List ℕ). numbers_at x.first x.words vs) m.1
    hidden_are (h ∷ hs) old new values (d, (v, (more, (s, (rest, are))))) f b =
        ap (λ (vs : List ℕ). numbers_at x.first x.words vs) are
        ∙ (ap (λ w. words.value_of w ∷ numbers_at x.first x.words more) (shown_is x current (hidden_register scene lane h) old d v s (fits_before d new x (hidden_extends hs d new more rest) f) b)
        ∙ ap (λ zs. words.value_of (hidden_shown scene lane current x h) ∷ zs) (hidden_are hs d new more rest f (begun_later old d x (shown_extends current (hidden_register scene lane h) old d v s) b)))

    module _ (Sets : ℕ → Type 0) (stays : Stays scene lane.around Sets start current) where
      kept_same : (hs : List Hidden) → AllByRecursion (λ (h : Hidden). HiddenKept x scene levels Sets h) hs
          → map (λ (h : Hidden). words.value_of (hidden_shown scene lane current x h)) hs ≡ map (kept_shown x scene lane.around start lane.number) hs
      kept_same [] k = refl
      kept_same (h ∷ hs) k =
          ap (λ o. words.value_of (current_shown x o (hidden_register scene lane h)) ∷ map (λ (g : Hidden). words.value_of (hidden_shown scene lane current x g)) hs) (stays h.entity lane.number k.0.seen k.0.free within)
          ∙ ap (λ zs. kept_shown x scene lane.around start lane.number h ∷ zs) (kept_same hs k.1)

      each_kept : (hs : List Hidden) → AllByRecursion (λ (h : Hidden). HiddenKept x scene levels Sets h) hs → AllByRecursion (λ (h : Hidden). IsKeptSo x scene lane.around start h) hs
      each_kept [] k = tt
      each_kept (h ∷ hs) k = ((k.0.seen, k.0.deep), each_kept hs k.1)

      module _ (r : Ref) (ts : plain.Terms) (aim : Aim) (old named new : Draft) (before after : Accesses) (n : ℕ) (m : MadeTerms scene lane current ts old named before after n aim.number aim.indices) (row : aim.row ≡ None)
          (made : MadeWay scene lane current named new (first_view scene r) (way_of (known_in scene) r) aim.steps) (k : IndicesKeep x scene levels (memory_of (known_in scene) r) (dims_named (known_in scene) x.start.table r) ts)
          (kept : (w : Way) → way_of (known_in scene) r ≡ Some w → WayKept x scene levels Sets r w) (fn : FitsStep x named) (bo : BlockBegun x old) (f : FitsStep x new) (bn : BlockBegun x named) (place : Place) (writes : Bool)
          (at : sites aim.number ≡ Some (record { memory = memory_of (known_in scene) r; standing = standing_at scene lane.around (memory_of (known_in scene) r) place (plain.accessed r ts) writes }))
          (way_at : ways aim.number ≡ Some (way_of (known_in scene) r)) where
        abbrev memory : ℕ
        memory = memory_of (known_in scene) r

        abbrev s : AccessStanding
        s = standing_at scene lane.around memory place (plain.accessed r ts) writes

        abbrev site : BlockSite
        site = record { memory = memory; standing = s }

        abbrev numbers : List ℤ
        numbers = numbers_at x.first x.words aim.indices

        abbrev memory_dims : List Dim
        memory_dims = dims_at x.start.table memory

        abbrev cs : List Counter
        cs = counters_of (program_seen scene.program.now)

        small : narrowed memory ≡ memory
        small = narrow memory k.small
          where
            narrow : (i : ℕ) → i < 2 ^ 32 → narrowed i ≡ i
            narrow i l = grind (arith, l)

        named_bank : bank_at (dims_named (known_in scene) x.start.table r) numbers ≡ s.bank lane.number
        named_bank =
            indices_bank x scene lane stands.stands current memory (dims_named (known_in scene) x.start.table r) ts aim old named before after n m k fn bo
            ∙ ap (λ t. narrowed (bank_of (dims_by (dims_at t memory) (way_of (known_in scene) r)) (indices_first cs levels lane.number ts))) table

        spot_so : (spot : Spot) → spot_of_reach x.start x.first x.words (own_reach x sites scene lane stands within Led memory aim s) ≡ Some spot
            → spot_if_inside x.start.table (narrowed memory) (indices_behind x.start.views (passages x.first x.words aim.steps) numbers) ≡ Some spot
        spot_so spot e = ap (λ o. spot_in_row x.start x.first x.words (own_reach x sites scene lane stands within Led memory aim s) o) (sym row) ∙ e

        counts : (o : Option Way) → way_of (known_in scene) r ≡ o → CountsBy x scene lane.around start o site
        counts o e path = ap (λ w. places_by s.leader s.bank (λ p. groups_by levels (shifts_on w) p) path) e

        led_by : (o : Option Way) → way_of (known_in scene) r ≡ o
            → ((spot : Spot) → spot_of_reach x.start x.first x.words (own_reach x sites scene lane stands within Led memory aim s) ≡ Some spot → LeadsFrom x scene lane.around start o site lane.number spot.bank) → (u : OperationAtPath) → u.path ≡ lane.number
            → Led u (own_reach x sites scene lane stands within Led memory aim s)
        led_by o e leads u here = record {
          way = o;
          way_is = way_at ∙ ap (λ w. Some w) e;
          site = site;
          site_is = at;
          counts = counts o e;
          leads = λ spot h. subst (λ (path : ℕ). LeadsFrom x scene lane.around start o site path spot.bank) (sym here) (leads spot h);
        }

        -- Of a memory.
        plain_bank : way_of (known_in scene) r ≡ None → (spot : Spot) → spot_of_reach x.start x.first x.words (own_reach x sites scene lane stands within Led memory aim s) ≡ Some spot → spot.bank ≡ s.bank lane.number
        plain_bank e spot h =
            (spot_indices x.start.table (narrowed memory) numbers spot plain_spot).1
            ∙ (ap (λ i. bank_of (dims_at x.start.table i) (map unsigned_abs numbers)) small ∙ (ap (λ o. bank_at (dims_by memory_dims o) numbers) (sym e) ∙ named_bank))
          where
            no_steps : aim.steps ≡ []
            no_steps = (subst (λ o. MadeWay scene lane current named new (first_view scene r) o aim.steps) e made).1

            plain_spot : spot_by_indices x.start.table (narrowed memory) numbers ≡ Some spot
            plain_spot = ap (λ (ss : List ReachStep). spot_if_inside x.start.table (narrowed memory) (indices_behind x.start.views (passages x.first x.words ss) numbers)) (sym no_steps) ∙ spot_so spot h

        own_banks : way_of (known_in scene) r ≡ None → banks_at s lane.number ≡ (s.bank lane.number, s.places lane.number) ∷ []
        own_banks e = ap (λ o. banks_reached o (banks_seen scene r (s.bank lane.number)) (s.bank lane.number) (s.places lane.number)) e

        of_memory : way_of (known_in scene) r ≡ None → Reaches memory aim s
        of_memory e = record {
          listed = λ spot h. subst (λ (bs : List (ℕ × ℕ)). IsListed spot.bank (s.places lane.number) bs) (sym (own_banks e)) (inl (sym (plain_bank e spot h), refl));
          placed = λ bank q h. alone (s.bank lane.number) (s.places lane.number) bank q (subst (λ (bs : List (ℕ × ℕ)). IsListed bank q bs) (own_banks e) h);
          led = led_by None e (λ spot h. plain_bank e spot h);
        }

        -- Through views.
        module _ (w : Way) (e : way_of (known_in scene) r ≡ Some w) where
          abbrev offsets : List ℤ
          offsets = map (kept_shown x scene lane.around start lane.number) w.hidden

          way_kept : WayKept x scene levels Sets r w
          way_kept = kept w e

          steps_made : MadeSteps scene lane current named new (first_view scene r) w aim.steps
          steps_made = subst (λ o. MadeWay scene lane current named new (first_view scene r) o aim.steps) e made

          offsets_are : numbers_at x.first x.words steps_made.values ≡ offsets
          offsets_are = hidden_are w.hidden named new steps_made.values steps_made.hidden f bn ∙ kept_same w.hidden way_kept.hidden

          seen : (spot : Spot) → spot_of_reach x.start x.first x.words (own_reach x sites scene lane stands within Led memory aim s) ≡ Some spot → Seen w.steps x.start.table memory numbers offsets spot
          seen spot h =
              seen_through w.steps x.start.table memory numbers offsets spot
              (ap (λ i. spot_by_views x.start.table i w.steps numbers offsets) (sym small)
              ∙ (ap (λ o. spot_if_inside x.start.table (narrowed memory) o) (sym told)
              ∙ (ap (λ (ss : List ReachStep). spot_if_inside x.start.table (narrowed memory) (indices_behind x.start.views (passages x.first x.words ss) numbers)) (sym steps_made.steps_are) ∙ spot_so spot h)))
            where
              told : indices_behind x.start.views (passages x.first x.words (steps_told scene.through.now (first_view scene r) w.steps steps_made.values)) numbers ≡ indices_through w.steps numbers offsets
              told =
                  passed x.start.views w.steps (passages x.first x.words (steps_told scene.through.now (first_view scene r) w.steps steps_made.values)) offsets numbers
                  (steps_pass x scene.through.now x.start.views w.steps (first_view scene r) steps_made.values offsets way_kept.numbered offsets_are)

          named_so : bank_at (next_dims w.steps memory_dims) numbers ≡ s.bank lane.number
          named_so = ap (λ (ds : List Dim). bank_at ds numbers) way_kept.first ∙ (ap (λ o. bank_at (dims_by memory_dims o) numbers) (sym e) ∙ named_bank)

          named_below : s.bank lane.number < banks_of w.is.shape.dims
          named_below =
              subst (λ (i : ℕ). i < banks_of w.is.shape.dims) (sym (ap (λ (ds : List Dim). bank_at ds numbers) way_kept.first) ∙ named_so)
              (bank_small x scene lane stands.stands current w.is.shape.dims (map unsigned_abs numbers) (subst (λ o. AllByRecursion IsDim (dims_by memory_dims o)) e k.dims))

          reached_bank : (spot : Spot) → Seen w.steps x.start.table memory numbers offsets spot → (spot.bank < 64) × (is_in (banks_seen scene r (s.bank lane.number)) spot.bank ≡ true)
          reached_bank spot v = (
            few (bank_at memory_dims v.last) (banks_of memory_dims) spot.bank (bank_at_below memory_dims v.last way_kept.memory_dims v.inside) way_kept.few_banks v.bank,
            way_kept.told (s.bank lane.number) spot.bank named_below
                (sym (ap (λ b. may_reach w.steps b spot.bank) named_so) ∙ (ap (λ b. may_reach w.steps (bank_at (next_dims w.steps memory_dims) numbers) b) v.bank ∙ ways_reach w.steps memory_dims numbers offsets v.last way_kept.leads v.through v.inside)),
          )
            where
              few : (a b c : ℕ) → a < b → b ≤ 64 → c ≡ a → c < 64
              few a b c l h e = omega (arith, l, h, e)

          view_banks : banks_at s lane.number ≡ banks_below (banks_seen scene r (s.bank lane.number)) (s.places lane.number) 64
          view_banks = ap (λ o. banks_reached o (banks_seen scene r (s.bank lane.number)) (s.bank lane.number) (s.places lane.number)) e

          through_views : Reaches memory aim s
          through_views = record {
            listed = λ spot h.
                let b = reached_bank spot (seen spot h) in
                subst (λ (bs : List (ℕ × ℕ)). IsListed spot.bank (s.places lane.number) bs) (sym view_banks) (below_listed (banks_seen scene r (s.bank lane.number)) (s.places lane.number) 64 spot.bank b.0 b.1);
            placed = λ bank q h. placed_below (banks_seen scene r (s.bank lane.number)) (s.places lane.number) 64 bank q (subst (λ (bs : List (ℕ × ℕ)). IsListed bank q bs) view_banks h);
            led = led_by (Some w) e
                (λ spot h. let v = seen spot h in record {
                  leads = way_kept.leads;
                  shifts = way_kept.shifts;
                  kept = each_kept w.hidden way_kept.hidden;
                  indices = numbers;
                  reached = record { last = v.last; through = v.through; inside = v.inside; is = v.bank };
                  named = named_so;
                });
          }

        pub by_indices : Reaches memory aim s
        by_indices = by (way_of (known_in scene) r) refl
          where
            by : (o : Option Way) → way_of (known_in scene) r ≡ o → Reaches memory aim s
            by None e = of_memory e
            by (Some w) e = through_views w e

    -- by a row
    pub by_row : (r : Ref) (bank : ℕ) (to : Place) (row : plain.Term) (memory value : ℕ) (aim : Aim) (place : Place) (writes : Bool) → aim.row ≡ Some value
        → sites aim.number ≡ Some (record { memory = memory; standing = standing_at scene lane.around memory place (plain.in_bank r bank to row) writes }) → ways aim.number ≡ Some None
        → Reaches memory aim (standing_at scene lane.around memory place (plain.in_bank r bank to row) writes)
    by_row r bank to row memory value aim place writes is at way_at = record {
      listed = λ spot h. inl (sym (reached spot h), refl);
      placed = λ b q h. alone (s.bank lane.number) (s.places lane.number) b q h;
      led = λ u here. record {
        way = None;
        way_is = way_at;
        site = record { memory = memory; standing = s };
        site_is = at;
        counts = λ path. refl;
        leads = λ spot h. reached spot h ∙ ap (λ (path : ℕ). s.bank path) (sym here);
      };
    }
      where
        s : AccessStanding
        s = standing_at scene lane.around memory place (plain.in_bank r bank to row) writes

        reached : (spot : Spot) → spot_of_reach x.start x.first x.words (reach_told memory aim ((s.bank lane.number, s.places lane.number) ∷ [])) ≡ Some spot → spot.bank ≡ s.bank lane.number
        reached spot h = row_reaches x scene lane stands.stands current memory value aim (s.bank lane.number, s.places lane.number) spot is h
