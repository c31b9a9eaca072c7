-- The values of a block and of what it becomes: in a step in which each access that is made and in range reaches a bank of
-- its list, each value of the old block is that of its new number in the new block.
use Rattle.std.proofs.Common.{◌≡◌, ℕ, suc, ◌+◌, ◌-◌, ◌%◌, ◌^◌, ◌≤◌, ◌&&◌, Some, None, List, Bool, true, false, length, map, refl, sym, ap, subst, ◌∙◌, arith, pos, unsigned_abs}
use Rattle.std.specs.Prelude.{[], ◌∷◌, ◌++◌, Option, if◌then◌else◌, slice_get, ℤ}
use Rattle.std.specs.List.{AllByRecursion}
use Rattle.std.specs.Option.{is_some}
use Rattle.std.proofs.Math.Nat.{mod-eq_of_lt}
use Rattle.dh_value.specs.declared.kinds.Kind.{Kind}
use Rattle.dh_value.specs.declared.kinds.Kind.TheVariants as kind
use Rattle.dh_value.specs.declared.words.Word.{Word}
use Rattle.dh_value.specs.Words.{IsInteger, IsWord, value_of}
use Rattle.dh_tree.specs.declared.tables.Dim.{Dim}
use Rattle.dh_tree.specs.Elements.{Spot, bank_of, row_of, rows_of, spot_of, dims_at}
use Rattle.dh_tree.specs.Shapes.{IsProgramTable}
use Rattle.dh_tree.proofs.BankElements.{bank_below}
use Rattle.dh_meaning.specs.Effects.{is_inside, is_row, spot_by_row}
use Rattle.dh_plan.specs.declared.operations.Operation.{Operation}
use Rattle.dh_plan.specs.declared.operations.OperationForm.TheVariants.{Constant}
use Rattle.dh_plan.specs.declared.operations.PlanBlock.{PlanBlock}
use Rattle.dh_plan.specs.declared.operations.Reach.{Reach}
use Rattle.dh_plan.specs.Blocks.{StepStart, word_at, is_on, numbers_at, passages, bank_picked, spot_if_inside, spot_in_row, spot_of_reach, in_memories}
use Rattle.dh_plan.specs.Ordered.{one_or_none, offsets_taken}
use Rattle.dh_plan.specs.declared.operations.ReachStep.{ReachStep}
use Rattle.dh_plan.specs.PlainPlans.{PlainPlan, first_in, operations_in}
use Rattle.dh_plan.specs.PlanKinds.{ReachSuits, NamesElement}
use Rattle.dh_plan.specs.PlanRuns.{start_at, block_values}
use Rattle.dh_plan.specs.SoundPlans.{IsListed}
use Rattle.dh_plan.specs.SoundRuns.{IsInKind}
use Rattle.dh_plan.specs.Passages.{indices_behind}
use Rattle.dh_plan.proofs.ValuesAlike.{all_left, all_right, memories_look_back}
use Rattle.dh_rows.specs.Readings.{Readings, Obeys}
use Rattle.dh_rows.specs.RowsShown.{IndicesAreWithin, HoldsOrNone, is_below_size}
use Rattle.dh_rows.specs.MadeOperations.{Made, constant_made}
use Rattle.dh_rows.proofs.Growing.{obeys_before}
use Rattle.dh_address.proofs.WaySizes.{HasMaps}
use Rattle.dh_address.specs.declared.literals.LiteralPlace.{LiteralPlace}
use Rattle.dh_address.specs.declared.operands.BlockValue.{BlockValue}
use Rattle.dh_address.specs.declared.operands.Ranged.{Ranged}
use Rattle.dh_address.specs.LiteralPlaces.{literal_at, whole_at, literal_places}
use Rattle.dh_address.specs.Pieces.{RenumberedBlock, new_number, new_or_none, known_kind, indices_and_offsets, operand_values, aimed_reach, aim_width, select_width, waited, is_banked, IsAim, IsAimBut, IsAimedReach, IsAccessMade}
use Rattle.dh_address.specs.WaysMade.{IndexWay, IsIndexWay, operand_of, ranges_by, steps_passed, way_begun, passed_to, reach_passed}
use Rattle.dh_address.proofs.AccessesLead.{truth_word, word_in_kind, both_true, in_range, abs_of, inside_within, place_leads, only_bank, holds_on}
use Rattle.dh_address.proofs.AccessesPut.{HasMany, picked}
use Rattle.dh_address.proofs.AimedRows.{ShowsAim, ShowsSelect, PlaceIs, index_aim_shows, HasSelect}
use Rattle.dh_address.proofs.BlockEquations.{word_solved}
use Rattle.dh_address.proofs.ImageReadings.{block_readings}
use Rattle.dh_address.proofs.LiteralMeans.{AreLiterals, below_means, literal_means, whole_means, dims_formed, elements_below, width_suffices, bank_fits, select_suffices, literal_place_is}
use Rattle.dh_address.proofs.PieceForms.{image_of, around}
use Rattle.dh_address.proofs.PiecesGrow.{guarded_grows, aimed_grows, waited_grows}
use Rattle.dh_address.proofs.TestedRanges.{all_in, IsShown, guards_hold, begun_later, and_true}
use Rattle.dh_address.proofs.FewElements.{rows_below}
use Rattle.dh_address.proofs.WayLengths.{mapped_long, passed_long}
use Rattle.dh_address.proofs.WaysPlain.{way_as, passed_grows}
use Rattle.dh_address.proofs.WaysShown.{IsSeen, AreSeen, AreFor, AreValues, seen_shown, values_for, all_in_join}
use Rattle.dh_address.proofs.WaysLed.{LeadsTo, is_found, AreOffsets, steps_lead}

module _ (p : PlainPlan) (maps : HasMaps p) (tables : IsProgramTable p.table) (bs : List PlanBlock) (block : ℕ) (ns : List ℕ) (ks : List Kind)
    (registers : List ℕ) (memories : List (List ℕ)) where
  abbrev q : PlainPlan
  q = image_of p bs

  abbrev a : RenumberedBlock
  a = around p block ns ks

  abbrev old_first : ℕ
  old_first = first_in p block

  abbrev first : ℕ
  first = first_in q block

  -- how the step begins, for both plans, and the values of both blocks
  abbrev s : StepStart
  s = start_at p registers memories

  abbrev t : StepStart
  t = start_at q registers memories

  abbrev ws : List Word
  ws = block_values p s block

  abbrev vs : List Word
  vs = block_values q t block

  abbrev x : Readings
  x = block_readings q block t

  -- a value is that of its new number
  abbrev pub IsSame : ℕ → Type 0
  IsSame v = word_at first vs (new_number a v) ≡ word_at old_first ws v

  -- and of its kind, by what is known of kinds
  pub record IsSameInKind (v : ℕ) : Type 0 where
    pub same : IsSame v
    pub in_kind : IsInKind (known_kind a v) (word_at old_first ws v)

  maybe_holds : (g : Option ℕ) → AllByRecursion (λ v. known_kind a v ≡ kind.Bool) (one_or_none g) → AllByRecursion IsSameInKind (one_or_none g)
      → HoldsOrNone x (new_or_none a g) (is_on old_first ws g)
  maybe_holds None k h = refl
  maybe_holds (Some g) k h = h.0.same ∙ truth_word (word_at old_first ws g) (subst (λ (l : Kind). IsInKind l (word_at old_first ws g)) k.0 h.0.in_kind)

  -- Ranges.

  -- a constant is what the value shows
  constant_shown : (v : ℕ) (w : Word) → slice_get (operations_in p block) (v - old_first) ≡ Some (record { guard = None; form = Constant w }) → old_first ≤ v → word_at old_first ws v ≡ w
  constant_shown v w there begun =
      ap (λ (m : ℕ). word_at old_first ws m) (sym (place old_first v begun))
      ∙ word_solved s (in_memories s old_first) old_first (memories_look_back s old_first) (operations_in p block) (v - old_first) (record { guard = None; form = Constant w }) there tt
    where
      place : (f v : ℕ) → f ≤ v → f + (v - f) ≡ v
      place f v l = omega (arith, l)

  literal_value : (v n : ℕ) → literal_at a.operations (v - a.first) ≡ Some n → old_first ≤ v → value_of (word_at old_first ws v) ≡ pos n
  literal_value v n e begun = let c = literal_means a.operations (v - a.first) n e in ap value_of (constant_shown v c.word c.there begun) ∙ c.value

  whole_value : (v : ℕ) (z : ℤ) → whole_at a.operations (v - a.first) ≡ Some z → old_first ≤ v → value_of (word_at old_first ws v) ≡ z
  whole_value v z e begun = let c = whole_means a.operations (v - a.first) z e in ap value_of (constant_shown v c.word c.there begun) ∙ c.value

  -- what is known of an index, an offset or a row
  pub record IsGoodNumber (v : ℕ) : Type 0 where
    pub begun : old_first ≤ v
    pub sized : IsInteger (known_kind a v)
    pub good : IsSameInKind v

  seen : (v : ℕ) → IsGoodNumber v → IsSeen x (operand_of a v)
  seen v h =
      let word = word_in_kind (known_kind a v) (word_at old_first ws v) h.sized h.good.in_kind in
      record {
        sized = h.sized;
        word = subst (λ (w : Word). IsWord w) (sym h.good.same) word;
        kind_is = ap (λ (w : Word). w.kind) h.good.same ∙ h.good.in_kind.same;
        literal = λ n e. ap value_of h.good.same ∙ literal_value v n e h.begun;
        whole = λ z e. ap value_of h.good.same ∙ whole_value v z e h.begun;
      }

  all_seen : (us : List ℕ) → AllByRecursion IsGoodNumber us → AreSeen x (map (operand_of a) us)
  all_seen [] h = tt
  all_seen (u ∷ us) h = (seen u h.0, all_seen us h.1)

  all_values : (us : List ℕ) → AllByRecursion IsGoodNumber us → AreValues x (map (operand_of a) us) (numbers_at old_first ws us)
  all_values [] h = tt
  all_values (u ∷ us) h = (ap value_of h.0.good.same, all_values us h.1)

  numbers_long : (us : List ℕ) → length (numbers_at old_first ws us) ≡ length us
  numbers_long [] = refl
  numbers_long (u ∷ us) = ap suc (numbers_long us)

  -- what is known of an access
  pub record IsMeant (r : Reach) : Type 0 where
    pub suits : ReachSuits p old_first ks r
    pub indices : AllByRecursion IsGoodNumber r.indices
    pub offsets : AllByRecursion IsGoodNumber (offsets_taken r.steps)
    pub row : AllByRecursion IsGoodNumber (one_or_none r.row)
    pub select : AllByRecursion IsSame (one_or_none r.select)

  -- Where an access leads.

  by_row : (r : Reach) (row : ℕ) → r.row ≡ Some row
      → spot_of_reach s old_first ws r ≡ spot_by_row p.table r.memory (bank_picked old_first ws r.banks r.select) (value_of (word_at old_first ws row))
  by_row r row e = ap (λ (o : Option ℕ). spot_in_row s old_first ws r o) e

  is_there : {A : Type 0} (b : Bool) (v : A) → is_some (if b then Some v else None) ≡ b
  is_there true v = refl
  is_there false v = refl

  chosen_some : (b : Bool) (v spot : Spot) → (if b then Some v else None) ≡ Some spot → (b ≡ true) × (v ≡ spot)
  chosen_some true v spot e = (refl, cc)
  chosen_some false v spot e = absurd (cc)

  -- the indices of the memory stand for those of this element
  pub record IsLedTo (r : Reach) (is : List BlockValue) (spot : Spot) : Type 0 where
    pub numbers : List ℤ
    pub stand : AreFor x (dims_at p.table r.memory) is numbers
    pub inside : is_inside (dims_at p.table r.memory) numbers ≡ true
    pub spot_is : spot_of p.table r.memory (abs_of numbers) ≡ spot

  -- before the tests of an access
  pub record PassShows (r : Reach) (row : Option ℕ) (ranges : List Ranged) (is : List BlockValue) : Type 0 where
    pub in_range : all_in x ranges ≡ is_some (spot_in_row s old_first ws r row)
    pub shown : AllByRecursion (IsShown x) ranges
    pub seen_indices : AreSeen x is
    pub leads : row ≡ None → (spot : Spot) → spot_in_row s old_first ws r row ≡ Some spot → IsLedTo r is spot

  module _ (r : Reach) (m : IsMeant r) (old : List Operation) (begun : first ≤ length old) where
    offsets_shown : (ss : List ReachStep) → AllByRecursion IsGoodNumber (offsets_taken ss) → AreOffsets x a p maps tables refl r.memory (λ (s : ReachStep). numbers_at old_first ws s.offsets) ss
    offsets_shown [] h = tt
    offsets_shown (t ∷ ts) h =
        let own = all_left IsGoodNumber t.offsets (offsets_taken ts) h in
        ((all_seen t.offsets own, all_values t.offsets own), offsets_shown ts (all_right IsGoodNumber t.offsets (offsets_taken ts) h))

    abbrev found : Option (List ℤ)
    found = indices_behind p.views (passages old_first ws r.steps) (numbers_at old_first ws r.indices)

    by_way : NamesElement p old_first ks r None → Obeys x (steps_passed a r.steps (way_begun a r old)).operations
        → LeadsTo x (dims_at p.table r.memory) true (steps_passed a r.steps (way_begun a r old)) found
    by_way element obeys =
        let long = mapped_long (operand_of a) r.indices ∙ element.1.0 in
        steps_lead x a p maps tables refl r.memory (λ (s : ReachStep). numbers_at old_first ws s.offsets) r.steps element.0 (numbers_at old_first ws r.indices) (way_begun a r old) element.1.1
        (offsets_shown r.steps m.offsets)
        (record {
          begun = begun;
          ranges = tt;
          indices = all_seen r.indices m.indices;
          index_long = long;
          long = numbers_long r.indices ∙ element.1.0;
          stands = λ e. values_for x element.0 (map (operand_of a) r.indices) (numbers_at old_first ws r.indices) (all_values r.indices m.indices) long;
        })
        obeys

    found_some : (o : Option (List ℤ)) → is_found x (dims_at p.table r.memory) o ≡ is_some (spot_if_inside p.table r.memory o)
    found_some None = refl
    found_some (Some zs) = sym (is_there (is_inside (dims_at p.table r.memory) zs) (spot_of p.table r.memory (abs_of zs)))

    led_to : (w : IndexWay) (o : Option (List ℤ)) (spot : Spot) → LeadsTo x (dims_at p.table r.memory) true w o → spot_if_inside p.table r.memory o ≡ Some spot → IsLedTo r w.indices spot
    led_to w None spot l e = absurd (cc)
    led_to w (Some zs) spot l e =
        let c = chosen_some (is_inside (dims_at p.table r.memory) zs) (spot_of p.table r.memory (abs_of zs)) spot e in
        let all = l.test ∙ c.0 in
        let two = both_true (all_in x w.ranges) (all_in x (ranges_by (dims_at p.table r.memory) w.indices)) (sym (all_in_join x w.ranges (ranges_by (dims_at p.table r.memory) w.indices)) ∙ all) in
        record { numbers = zs; stand = l.stands two.0 zs refl; inside = c.0; spot_is = c.1 }

    to_shows : (row : Option ℕ) → r.row ≡ row → Obeys x (passed_to a r row old).operations → PassShows r row (passed_to a r row old).ranges (passed_to a r row old).indices
    to_shows None e obeys =
        let l = by_way (subst (λ (o : Option ℕ). NamesElement p old_first ks r o) e m.suits.element) obeys in
        record {
          in_range = l.test ∙ found_some found;
          shown = seen_shown x (passed_to a r None old).ranges l.ranges;
          seen_indices = l.indices;
          leads = λ none spot leads. led_to (steps_passed a r.steps (way_begun a r old)) found spot l leads;
        }
    to_shows (Some row) e obeys =
        let good = (subst (λ (o : Option ℕ). AllByRecursion IsGoodNumber (one_or_none o)) e m.row).0 in
        let rows = rows_of (dims_at p.table r.memory) in
        record {
          in_range = and_true (is_below_size (value_of (x.word (new_number a row))) (rows % 2 ^ 64))
              ∙ (ap (λ (n : ℕ). is_below_size (value_of (x.word (new_number a row))) n) (mod-eq_of_lt (rows_below p.table r.memory tables))
              ∙ (ap (λ (w : Word). is_below_size (value_of w) rows) good.good.same ∙ sym (is_there (is_row (dims_at p.table r.memory) (value_of (word_at old_first ws row))) _)));
          shown = seen_shown x (passed_to a r (Some row) old).ranges (seen row good, tt);
          seen_indices = tt;
          leads = λ none spot leads. absurd (some_none none);
        }
      where
        some_none : Some row ≡ None → ⊥
        some_none e = cc

    pub passed_shows : (passed : List Operation) (ranges : List Ranged) (indices : List BlockValue) → IsIndexWay passed ranges indices (reach_passed a r old) → Obeys x passed → PassShows r r.row ranges indices
    passed_shows passed ranges indices e obeys =
        way_as (λ os rs is. PassShows r r.row rs is) passed ranges indices (reach_passed a r old) e (to_shows r.row refl (subst (λ (os : List Operation). Obeys x os) e.0 obeys))

  -- indices in range are natural numbers below the sizes
  all_within : (dims : List Dim) (is : List BlockValue) (zs : List ℤ) → AreFor x dims is zs → is_inside dims zs ≡ true → IndicesAreWithin x dims (operand_values is) (abs_of zs)
  all_within [] [] [] f e = tt
  all_within [] [] (z ∷ zs) f e = absurd f
  all_within [] (i ∷ is) zs f e = absurd f
  all_within (d ∷ ds) [] zs f e = absurd f
  all_within (d ∷ ds) (i ∷ is) [] f e = absurd f
  all_within (d ∷ ds) (i ∷ is) (z ∷ zs) f e =
      let b = both_true (is_below_size z d.size) (is_inside ds zs) e in
      let n = in_range z d.size b.0 in
      ((f.0.exact b.0 ∙ n.is, n.below), all_within ds is zs f.1 b.1)

  -- literals are the numbers that the indices show
  literals_same : (dims : List Dim) (is : List BlockValue) (zs : List ℤ) (numbers : List ℕ) → AreLiterals dims is numbers → AreSeen x is → AreFor x dims is zs → is_inside dims zs ≡ true → numbers ≡ abs_of zs
  literals_same [] [] [] [] l h f e = refl
  literals_same [] [] [] (n ∷ more) l h f e = absurd l
  literals_same [] [] (z ∷ zs) more l h f e = absurd f
  literals_same [] (i ∷ is) zs more l h f e = absurd f
  literals_same (d ∷ ds) [] zs more l h f e = absurd f
  literals_same (d ∷ ds) (i ∷ is) [] more l h f e = absurd f
  literals_same (d ∷ ds) (i ∷ is) (z ∷ zs) [] l h f e = absurd l
  literals_same (d ∷ ds) (i ∷ is) (z ∷ zs) (n ∷ more) l h f e =
      let b = both_true (is_below_size z d.size) (is_inside ds zs) e in
      let v = h.0.literal n (below_means i.literal d.size n l.0).0 in
      let here : n ≡ unsigned_abs z = ap unsigned_abs (sym v ∙ f.0.exact b.0) in
      let others = literals_same ds is zs more l.1 h.1 f.1 b.1 in
      cc

  place_is : (r : Reach) (is : List BlockValue) (zs : List ℤ) (place : Option LiteralPlace) → literal_places (dims_at p.table r.memory) is 0 0 ≡ place → length is ≡ length (dims_at p.table r.memory)
      → AreSeen x is → AreFor x (dims_at p.table r.memory) is zs → is_inside (dims_at p.table r.memory) zs ≡ true
      → PlaceIs x (aim_width (dims_at p.table r.memory)) (select_width (dims_at p.table r.memory)) place (row_of (dims_at p.table r.memory) (abs_of zs)) (bank_of (dims_at p.table r.memory) (abs_of zs))
  place_is r is zs None e long h f i = tt
  place_is r is zs (Some place) e long h f i =
      let dims = dims_at p.table r.memory in
      let l = literal_place_is dims is place (dims_formed p.table r.memory tables.entries) (elements_below p.table r.memory tables) long e in
      let same = literals_same dims is zs l.numbers l.literals h f i in
      (l.row_is ∙ ap (λ (ms : List ℕ). row_of dims ms) same, l.bank_is ∙ ap (λ (ms : List ℕ). bank_of dims ms) same)

  -- a bank is picked, or there is one alone
  abbrev pub IsPickedBank : Reach → Option ℕ → Type 0
  IsPickedBank r None = length r.banks ≡ 1
  IsPickedBank r (Some v) = Unit {0}

  -- the bank that is picked
  bank_shown : (width narrow : ℕ) (r : Reach) (select : Option ℕ) (bank : ℕ) → ShowsSelect x width narrow select bank → IsPickedBank r select → ((place : ℕ) × IsListed bank place r.banks)
      → bank_picked first vs r.banks select ≡ bank
  bank_shown width narrow r None bank h picked (place, listed) = only_bank bank r.banks picked place listed
  bank_shown width narrow r (Some v) bank h picked listed = ap (λ (w : Word). w.bits) h

  -- Where the access of a row leads, which an access became.
  pub record LeadsAlike (r : Reach) (u : Reach) : Type 0 where
    pub memory : u.memory ≡ r.memory
    pub leads : (spot : Spot) → spot_of_reach s old_first ws r ≡ Some spot → ((place : ℕ) × IsListed spot.bank place r.banks) → spot_of_reach t first vs u ≡ Some spot

  indices_lead : (r : Reach) (taken : List ℕ) (row : ℕ) (select : Option ℕ) (is : List BlockValue) (spot : Spot) (l : IsLedTo r is spot)
      → ShowsAim x (aim_width (dims_at p.table r.memory)) (select_width (dims_at p.table r.memory)) row select (row_of (dims_at p.table r.memory) (abs_of l.numbers)) (bank_of (dims_at p.table r.memory) (abs_of l.numbers))
      → IsPickedBank r select → ((place : ℕ) × IsListed spot.bank place r.banks) → spot_of_reach t first vs (aimed_reach r taken row select) ≡ Some spot
  indices_lead r taken row select is spot l shows picked listed =
      let dims = dims_at p.table r.memory in
      let ns = abs_of l.numbers in
      let bank = bank_shown (aim_width dims) (select_width dims) r select (bank_of dims ns) shows.bank_shown picked (subst (λ (sp : Spot). (place : ℕ) × IsListed sp.bank place r.banks) (sym l.spot_is) listed) in
      let row_is : value_of (word_at first vs row) ≡ pos (row_of dims ns) = ap value_of shows.row_shown in
      ap (λ (b : ℕ). spot_by_row p.table r.memory b (value_of (word_at first vs row))) bank
      ∙ (ap (λ (z : ℤ). spot_by_row p.table r.memory (bank_of dims ns) z) row_is
      ∙ (place_leads p.table r.memory ns (dims_formed p.table r.memory tables.entries) (inside_within dims l.numbers l.inside) ∙ ap (λ (sp : Spot). Some sp) l.spot_is))

  row_leads : (r : Reach) (taken : List ℕ) (row : ℕ) → r.row ≡ Some row → IsGoodNumber row → AllByRecursion IsSame (one_or_none r.select)
      → spot_of_reach t first vs (aimed_reach r taken (new_number a row) (new_or_none a r.select)) ≡ spot_of_reach s old_first ws r
  row_leads r taken row e good select =
      ap (λ (b : ℕ). spot_by_row p.table r.memory b (value_of (word_at first vs (new_number a row)))) (banks_same r.select select)
      ∙ (ap (λ (w : Word). spot_by_row p.table r.memory (bank_picked old_first ws r.banks r.select) (value_of w)) good.good.same ∙ sym (by_row r row e))
    where
      banks_same : (o : Option ℕ) → AllByRecursion IsSame (one_or_none o) → bank_picked first vs r.banks (new_or_none a o) ≡ bank_picked old_first ws r.banks o
      banks_same None h = refl
      banks_same (Some v) h = ap (λ (w : Word). w.bits) h.0

  -- Of an access as it is put down.

  pub record AccessMeans (g : Option ℕ) (r : Reach) (on : Option ℕ) (u : Reach) : Type 0 where
    pub on_is : is_on first vs on ≡ (is_on old_first ws g && is_some (spot_of_reach s old_first ws r))
    pub leads : LeadsAlike r u

  aim_has : (banked : Bool) (row bank : Made) (new : List Operation) (number : ℕ) (select : Option ℕ) → IsAim banked row bank new number select → HasSelect banked select
  aim_has false row bank new number select h = h.1.1
  aim_has true row bank new number select h = (bank.value, h.1.1)

  but_has : (place : Option LiteralPlace) (width narrow : ℕ) (dims : List Dim) (indices : List ℕ) (banked : Bool) (old new : List Operation) (row : ℕ) (select : Option ℕ)
      → IsAimBut place width narrow dims indices banked old new row select → HasSelect banked select
  but_has None width narrow dims indices banked old new row select h = aim_has banked _ _ new row select h.aim
  but_has (Some place) width narrow dims indices banked old new row select h = aim_has banked (constant_made old width place.row) _ new row select h

  module _ (r : Reach) (m : IsMeant r) where
    aimed_leads : (row : Option ℕ) → r.row ≡ row → (is : List BlockValue) (old last : List Operation) (u : Reach) → IsAimedReach a r row is old last u → first ≤ length old → Obeys x last → HasMany p.table r row is → AreSeen x is
        → (row ≡ None → (spot : Spot) → spot_of_reach s old_first ws r ≡ Some spot → IsLedTo r is spot) → LeadsAlike r u
    aimed_leads None e is old last u h begun obeys long seen_indices lead =
        let dims = dims_at p.table r.memory in
        let mid = (waited old (new_or_none a r.select)).operations in
        let taken = indices_and_offsets a r ++ one_or_none (waited old (new_or_none a r.select)).sum in
        let at_mid = begun_later x old mid (waited_grows old (new_or_none a r.select)) begun in
        let picks = picked x 0 a r h.select (but_has (literal_places dims is 0 0) _ _ _ _ (is_banked r) mid last h.row h.select h.aim) in
        subst (λ (w : Reach). LeadsAlike r w) (sym h.reach)
        (record {
          memory = refl;
          leads = λ spot leads listed.
              (let l = lead refl spot leads in
              indices_lead r taken h.row h.select is spot l
              (index_aim_shows x (aim_width dims) (select_width dims) (literal_places dims is 0 0) dims (operand_values is) (is_banked r) mid last h.row h.select (abs_of l.numbers) h.aim
              (width_suffices p.table r.memory tables)
              (bank_fits (select_width dims) dims (bank_of dims (abs_of l.numbers)) (select_suffices p.table r.memory tables)
              (bank_below dims (abs_of l.numbers) (dims_formed p.table r.memory tables.entries) (inside_within dims l.numbers l.inside)))
              (place_is r is l.numbers (literal_places dims is 0 0) refl long seen_indices l.stand l.inside) at_mid obeys (all_within dims is l.numbers l.stand l.inside))
              picks listed);
        })
    aimed_leads (Some row) e is old last u h begun obeys long seen_indices lead =
        subst (λ (w : Reach). LeadsAlike r w) (sym h.1)
        (record {
          memory = refl;
          leads = λ spot leads listed. row_leads r (indices_and_offsets a r) row e (subst (λ (o : Option ℕ). AllByRecursion IsGoodNumber (one_or_none o)) e m.row).0 m.select ∙ leads;
        })

    pub access_means : (g : Option ℕ) (old last : List Operation) (on : Option ℕ) (u : Reach) → IsAccessMade a (new_or_none a g) r old last on u → first ≤ length old → Obeys x last
        → AllByRecursion (λ v. known_kind a v ≡ kind.Bool) (one_or_none g) → AllByRecursion IsSameInKind (one_or_none g) → AccessMeans g r on u
    access_means g old last on u h begun obeys gk gi =
        let way = passed_grows a r old h.passed h.ranges h.indices h.passes in
        let guards = guarded_grows (new_or_none a g) h.ranges h.passed h.guarded on h.guards in
        let aims = aimed_grows a r r.row h.indices h.guarded last u h.aims in
        let at_passed = begun_later x old h.passed way begun in
        let obeys_guarded = obeys_before x h.guarded last aims obeys in
        let shows = passed_shows r m old begun h.passed h.ranges h.indices h.passes (obeys_before x h.passed h.guarded guards obeys_guarded) in
        let holds = guards_hold x (new_or_none a g) h.ranges h.passed h.guarded on (is_on old_first ws g) h.guards at_passed obeys_guarded shows.shown (maybe_holds g gk gi) in
        record {
          on_is = holds_on x first vs (λ n. refl) on _ holds ∙ ap (λ (b : Bool). is_on old_first ws g && b) shows.in_range;
          leads = aimed_leads r.row refl h.indices h.guarded last u h.aims (begun_later x h.passed h.guarded guards at_passed) obeys (passed_long a p maps refl r m.suits old h.passed h.ranges h.indices h.passes)
              shows.seen_indices shows.leads;
        }
