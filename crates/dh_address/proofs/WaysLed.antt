-- Where a way leads: all that is to be in range of an access is, exactly where the plan's views lead to an element of the
-- memory; and then the indices behind them are its indices.
use Rattle.std.proofs.Common.{◌≡◌, ℕ, suc, ◌-◌, ◌/◌, ◌≤◌, ◌&&◌, Bool, true, false, List, length, map, pos, refl, sym, ap, subst, ◌∙◌, arith}
use Rattle.std.specs.Prelude.{Option, Some, None, [], ◌∷◌, ◌++◌, slice_get, slice_index, if◌then◌else◌, ℤ, ◌+ℤ◌, ◌*ℤ◌}
use Rattle.std.specs.List.{AllByRecursion}
use Rattle.std.proofs.lemmas.List.{append_assoc, append-nil}
use Rattle.dh_tree.specs.declared.tables.Dim.{Dim}
use Rattle.dh_tree.specs.declared.viewing.ViewMap.{ViewMap}
use Rattle.dh_tree.specs.declared.viewing.ViewSort.{ViewSort}
use Rattle.dh_tree.specs.declared.viewing.ViewSort.TheVariants.{Shrink, Split, Suffix, Shift}
use Rattle.dh_tree.specs.Shapes.{IsProgramTable}
use Rattle.dh_tree.specs.Elements.{dims_at}
use Rattle.dh_tree.specs.ViewElements.{is_index, is_inside, sums, multiples, parent_index, first_banks, named_by, view_through, where_inside, offsets_needed, split_index}
use Rattle.dh_tree.specs.ViewShapes.{AreDimsOf, AreSplitOf, IsShapeOf, IsViewMap}
use Rattle.dh_plan.specs.declared.operations.Operation.{Operation}
use Rattle.dh_plan.specs.declared.operations.ReachStep.{ReachStep}
use Rattle.dh_plan.specs.Passages.{Passage, through_view, indices_behind}
use Rattle.dh_plan.specs.PlainPlans.{PlainPlan}
use Rattle.dh_plan.specs.PlanKinds.{AreSteps, StepFits}
use Rattle.dh_rows.specs.Readings.{Readings, Obeys}
use Rattle.dh_rows.specs.RowsShown.{is_small}
use Rattle.dh_rows.proofs.Growing.{plain_grows, obeys_plain}
use Rattle.dh_address.specs.declared.operands.BlockValue.{BlockValue}
use Rattle.dh_address.specs.declared.operands.Ranged.{Ranged}
use Rattle.dh_address.specs.Arounds.{RenumberedBlock}
use Rattle.dh_address.specs.WaysMade.{IndexWay, way, PlacedOperand, moved_operand, operand_of, ranges_by, offset_bounded, moved_one, moved_all, maybe_range, unit_factors, split_made, dealt_way, passed_by, passed_if, step_passed, steps_passed, with_ranges}
use Rattle.dh_address.proofs.AccessesLead.{both_true}
use Rattle.dh_address.proofs.AccessesPut.{all_join}
use Rattle.dh_address.proofs.TestedRanges.{all_in, begun_later}
use Rattle.dh_address.proofs.WayLengths.{dims_long, mapped_long, sort_long}
use Rattle.dh_address.proofs.WaySizes.{HasMaps, AreFew, one_of, view_few, way_few}
use Rattle.dh_address.proofs.WaysPlain.{moved_one_plain, moved_all_plain, step_plain, steps_plain}
use Rattle.dh_address.proofs.WaysShown.{one_time, ShowsRange, ShowsMoved, IsSeen, AreSeen, RangesSeen, StandsFor, AreFor, AreValues, all_in_for, all_in_join, ranges_seen, moved_one_shown, far_outside, dealt_operand_shown}

truths : (a b : Bool) → a ≡ true → b ≡ true → (a && b) ≡ true
truths true true g h = refl
truths true false g h = absurd (cc)
truths false b g h = absurd (cc)

either_false : (a b : Bool) → (a ≡ false) → (a && b) ≡ false
either_false a b e = ap (λ (c : Bool). c && b) e

second_false : (a b : Bool) → b ≡ false → (a && b) ≡ false
second_false true b e = e
second_false false b e = refl

-- what is out of range of a test or of the others leads out of range
either_out : (near others first more : Bool) → (near ≡ false → first ≡ false) → (near && others) ≡ false → (others ≡ false → more ≡ false) → (first && more) ≡ false
either_out true others first more far a rest = second_false first more (rest a)
either_out false others first more far a rest = either_false first more (far refl)

-- the passages of steps whose offsets are these numbers
abbrev pub passed_with : (ReachStep → List ℤ) → List ReachStep → List Passage
passed_with offsets ss = map (λ (s : ReachStep). record { view = s.view; offsets = offsets s }) ss

-- Factors.

abbrev pub AreFactors : List ℕ → Type 0
AreFactors ks = AllByRecursion (λ k. 1 ≤ k) ks

pub suffix_factors : (vs ps : List Dim) (ks : List ℕ) → AreDimsOf Suffix vs ps ks → AreFactors ks
suffix_factors [] [] [] h = tt
suffix_factors [] [] (k ∷ ks) h = absurd h
suffix_factors [] (p ∷ ps) ks h = absurd h
suffix_factors (v ∷ vs) [] ks h = absurd h
suffix_factors (v ∷ vs) (p ∷ ps) [] h = tt
suffix_factors (v ∷ vs) (p ∷ ps) (k ∷ ks) h = (h.0.1.0, suffix_factors vs ps ks h.1)

pub suffix_same : (vs ps : List Dim) (ks : List ℕ) → AreDimsOf Suffix vs ps ks → vs ≡ ps
suffix_same [] [] [] h = refl
suffix_same [] [] (k ∷ ks) h = absurd h
suffix_same [] (p ∷ ps) ks h = absurd h
suffix_same (v ∷ vs) [] ks h = absurd h
suffix_same (v ∷ vs) (p ∷ ps) [] h = absurd h
suffix_same (v ∷ vs) (p ∷ ps) (k ∷ ks) h = let one = h.0.0 in let more = suffix_same vs ps ks h.1 in cc

pub ones_factors : (ds : List Dim) → AreFactors (unit_factors ds)
ones_factors [] = tt
ones_factors (d ∷ ds) = (omega arith, ones_factors ds)

pub ones_sums : (ds : List Dim) (es is : List ℤ) → length es ≡ length ds → sums (multiples (unit_factors ds) es) is ≡ sums es is
ones_sums [] [] is l = refl
ones_sums [] (e ∷ es) is l = absurd (omega (arith, l))
ones_sums (d ∷ ds) [] is l = absurd (omega (arith, l))
ones_sums (d ∷ ds) (e ∷ es) [] l = refl
ones_sums (d ∷ ds) (e ∷ es) (i ∷ is) l =
    ap (λ (z : ℤ). (z +ℤ i) ∷ sums (multiples (unit_factors ds) es) is) (one_time e) ∙ ap (λ (zs : List ℤ). (e +ℤ i) ∷ zs) (ones_sums ds es is (omega (arith, l)))

module _ (x : Readings) where
  -- Of a view that moves: what is to be in range of its offsets, and the indices that come behind others.
  pub record ShowsAll (ds : List Dim) (is : List BlockValue) (iz zs : List ℤ) (w after : IndexWay) : Type 0 where
    pub ranges : List Ranged
    pub more : List BlockValue
    pub ranges_are : after.ranges ≡ w.ranges ++ ranges
    pub indices_are : after.indices ≡ w.indices ++ more
    pub ranges_seen : RangesSeen x ranges
    pub more_seen : AreSeen x more
    pub long : length zs ≡ length ds
    pub inside : AreFor x ds is iz → is_inside ds iz ≡ true → all_in x ranges ≡ true → AreFor x ds more zs
    pub outside : AreFor x ds is iz → is_inside ds iz ≡ true → all_in x ranges ≡ false → is_inside ds zs ≡ false

  -- one dimension more, before the others
  one_more : (d : Dim) (ds : List Dim) (k : ℕ) (i : BlockValue) (is : List BlockValue) (y z : ℤ) (iz zs : List ℤ) → 1 ≤ k → (here : List Ranged) (m : PlacedOperand) (w next after : IndexWay) → next.ranges ≡ w.ranges ++ here
      → next.indices ≡ w.indices ++ m.operand ∷ [] → ShowsRange x here (is_small y ((d.size - 1) / k)) → ShowsMoved x d.size k m y z i → ShowsAll ds is iz zs next after
      → ShowsAll (d ∷ ds) (i ∷ is) (z ∷ iz) (((pos k *ℤ y) +ℤ z) ∷ zs) w after
  one_more d ds k i is y z iz zs some here m w next after ranges_next indices_next range index rest = record {
    ranges = here ++ rest.ranges;
    more = m.operand ∷ rest.more;
    ranges_are = rest.ranges_are ∙ (ap (λ (rs : List Ranged). rs ++ rest.ranges) ranges_next ∙ append_assoc w.ranges here rest.ranges);
    indices_are = rest.indices_are ∙ (ap (λ (l : List BlockValue). l ++ rest.more) indices_next ∙ append_assoc w.indices (m.operand ∷ []) rest.more);
    ranges_seen = all_join (λ r. IsSeen x r.operand) here rest.ranges range.seen rest.ranges_seen;
    more_seen = (index.seen, rest.more_seen);
    long = ap suc rest.long;
    inside = λ f inner a.
        (let two = both_true (is_small y ((d.size - 1) / k)) (all_in x rest.ranges) (sym tested ∙ a) in
        let parts = both_true (is_index d.size z) (is_inside ds iz) inner in
        (index.stands f.0 parts.0 two.0, rest.inside f.1 parts.1 two.1));
    outside = λ f inner a.
        (let parts = both_true (is_index d.size z) (is_inside ds iz) inner in
        either_out (is_small y ((d.size - 1) / k)) (all_in x rest.ranges) (is_index d.size ((pos k *ℤ y) +ℤ z)) (is_inside ds zs) (far_outside x d.size k y z some parts.0) (sym tested ∙ a) (rest.outside f.1 parts.1));
  }
    where
      tested : all_in x (here ++ rest.ranges) ≡ (is_small y ((d.size - 1) / k) && all_in x rest.ranges)
      tested = all_in_join x here rest.ranges ∙ ap (λ (b : Bool). b && all_in x rest.ranges) range.test

  pub moved_all_shown : (ds : List Dim) (ks : List ℕ) (es is : List BlockValue) (ez iz : List ℤ) (w : IndexWay) → AreFew ds → AreFactors ks → length ks ≡ length ds → length es ≡ length ds → length is ≡ length ds
      → length iz ≡ length ds → AreSeen x es → AreSeen x is → AreValues x es ez → x.first ≤ length w.operations → Obeys x (moved_all ds ks es is w).operations
      → ShowsAll ds is iz (sums (multiples ks ez) iz) w (moved_all ds ks es is w)
  moved_all_shown [] [] [] [] [] [] w few some kl el il zl es_seen is_seen values begun obeys = record {
    ranges = [];
    more = [];
    ranges_are = sym (append-nil w.ranges);
    indices_are = sym (append-nil w.indices);
    ranges_seen = tt;
    more_seen = tt;
    long = refl;
    inside = λ f i a. tt;
    outside = λ f i a. absurd (cc);
  }
  moved_all_shown [] [] [] [] [] (z ∷ iz) w few some kl el il zl es_seen is_seen values begun obeys = absurd (omega (arith, zl))
  moved_all_shown [] [] [] [] (z ∷ ez) iz w few some kl el il zl es_seen is_seen values begun obeys = absurd values
  moved_all_shown [] [] [] (i ∷ is) ez iz w few some kl el il zl es_seen is_seen values begun obeys = absurd (omega (arith, il))
  moved_all_shown [] [] (e ∷ es) is ez iz w few some kl el il zl es_seen is_seen values begun obeys = absurd (omega (arith, el))
  moved_all_shown [] (k ∷ ks) es is ez iz w few some kl el il zl es_seen is_seen values begun obeys = absurd (omega (arith, kl))
  moved_all_shown (d ∷ ds) [] es is ez iz w few some kl el il zl es_seen is_seen values begun obeys = absurd (omega (arith, kl))
  moved_all_shown (d ∷ ds) (k ∷ ks) [] is ez iz w few some kl el il zl es_seen is_seen values begun obeys = absurd (omega (arith, el))
  moved_all_shown (d ∷ ds) (k ∷ ks) (e ∷ es) [] ez iz w few some kl el il zl es_seen is_seen values begun obeys = absurd (omega (arith, il))
  moved_all_shown (d ∷ ds) (k ∷ ks) (e ∷ es) (i ∷ is) [] iz w few some kl el il zl es_seen is_seen values begun obeys = absurd values
  moved_all_shown (d ∷ ds) (k ∷ ks) (e ∷ es) (i ∷ is) (y ∷ ez) [] w few some kl el il zl es_seen is_seen values begun obeys = absurd (omega (arith, zl))
  moved_all_shown (d ∷ ds) (k ∷ ks) (e ∷ es) (i ∷ is) (y ∷ ez) (z ∷ iz) w few some kl el il zl es_seen is_seen values begun obeys =
      let next = moved_one d.size k e i w in
      let b = offset_bounded w.operations e ((d.size - 1) / k) in
      let obeys_next = obeys_plain x next.operations _ (moved_all_plain ds ks es is next) obeys in
      let one = moved_one_shown x d.size k e i y z w few.0.small few.0.dim.size some.0 begun es_seen.0 is_seen.0 values.0 obeys_next in
      let rest = moved_all_shown ds ks es is ez iz next few.1 some.1 (omega (arith, kl)) (omega (arith, el)) (omega (arith, il)) (omega (arith, zl)) es_seen.1 is_seen.1 values.1
      (begun_later x w.operations next.operations (plain_grows _ _ (moved_one_plain d.size k e i w)) begun) obeys
      in
      one_more d ds k i is y z iz (sums (multiples ks ez) iz) some.0 (maybe_range b.range) (moved_operand b.operations d.size k e i) w next (moved_all ds ks es is next) refl refl one.range one.index rest

  -- Of any view.

  pub record ShowsView (v : ViewMap) (is : List BlockValue) (iz zs : List ℤ) (tested : List Ranged) (after : IndexWay) : Type 0 where
    pub ranges : List Ranged
    pub ranges_are : after.ranges ≡ tested ++ ranges
    pub ranges_seen : RangesSeen x ranges
    pub indices_seen : AreSeen x after.indices
    pub long : length zs ≡ length v.parent.dims
    pub inside : AreFor x v.shape.dims is iz → is_inside v.shape.dims iz ≡ true → all_in x ranges ≡ true → AreFor x v.parent.dims after.indices zs
    pub outside : AreFor x v.shape.dims is iz → is_inside v.shape.dims iz ≡ true → all_in x ranges ≡ false → is_inside v.parent.dims zs ≡ false

  shrunk_for : (vs ps : List Dim) (ks : List ℕ) (is : List BlockValue) (iz : List ℤ) → AreDimsOf Shrink vs ps ks → AreFor x vs is iz → AreFor x ps is iz
  shrunk_for [] [] [] is iz h f = f
  shrunk_for [] [] (k ∷ ks) is iz h f = absurd h
  shrunk_for [] (p ∷ ps) ks is iz h f = absurd h
  shrunk_for (v ∷ vs) [] ks is iz h f = absurd h
  shrunk_for (v ∷ vs) (p ∷ ps) [] is iz h f = absurd h
  shrunk_for (v ∷ vs) (p ∷ ps) (k ∷ ks) [] iz h f = absurd f
  shrunk_for (v ∷ vs) (p ∷ ps) (k ∷ ks) (i ∷ is) [] h f = absurd f
  shrunk_for (v ∷ vs) (p ∷ ps) (k ∷ ks) (i ∷ is) (z ∷ iz) h f = (subst (λ n. StandsFor x n i z) h.0.0 f.0, shrunk_for vs ps ks is iz h.1 f.1)

  no_more : (v : ViewMap) (is : List BlockValue) (iz zs : List ℤ) (tested : List Ranged) (after : IndexWay) → after.ranges ≡ tested → AreSeen x after.indices → length zs ≡ length v.parent.dims
      → (AreFor x v.shape.dims is iz → is_inside v.shape.dims iz ≡ true → AreFor x v.parent.dims after.indices zs) → ShowsView v is iz zs tested after
  no_more v is iz zs tested after same seen long so = record {
    ranges = [];
    ranges_are = same ∙ sym (append-nil tested);
    ranges_seen = tt;
    indices_seen = seen;
    long = long;
    inside = λ f i a. so f i;
    outside = λ f i a. absurd (cc);
  }

  moving : (v : ViewMap) (is : List BlockValue) (iz zs : List ℤ) (tested : List Ranged) (os : List Operation) (after : IndexWay) → v.shape.dims ≡ v.parent.dims → ShowsAll v.parent.dims is iz zs (way os tested []) after
      → ShowsView v is iz zs tested after
  moving v is iz zs tested os after same m = record {
    ranges = m.ranges;
    ranges_are = m.ranges_are;
    ranges_seen = m.ranges_seen;
    indices_seen = subst (λ (l : List BlockValue). AreSeen x l) (sym m.indices_are) m.more_seen;
    long = m.long;
    inside = λ f i a.
        subst (λ (l : List BlockValue). AreFor x v.parent.dims l zs) (sym m.indices_are)
        (m.inside (subst (λ (ds : List Dim). AreFor x ds is iz) same f) (subst (λ (ds : List Dim). is_inside ds iz ≡ true) same i) a);
    outside = λ f i a. m.outside (subst (λ (ds : List Dim). AreFor x ds is iz) same f) (subst (λ (ds : List Dim). is_inside ds iz ≡ true) same i) a;
  }

  -- of a split
  pub record ShowsSplit (vs ps : List Dim) (by : List ℕ) (is : List BlockValue) (iz : List ℤ) (after : List BlockValue) : Type 0 where
    pub seen : AreSeen x after
    pub long : length (split_index (first_banks ps) (slice_index by 0) iz) ≡ length ps
    pub inside : AreFor x vs is iz → is_inside vs iz ≡ true → AreFor x ps after (split_index (first_banks ps) (slice_index by 0) iz)

  split_shown : (vs ps : List Dim) (ks : List ℕ) (is : List BlockValue) (iz : List ℤ) (os : List Operation) → AreSplitOf vs ps ks → AreFew vs → AreFew ps → length is ≡ length vs → length iz ≡ length vs → AreSeen x is
      → x.first ≤ length os → Obeys x (split_made vs ps is os).operations → ShowsSplit vs ps ks is iz (split_made vs ps is os).indices
  split_shown [] ps ks is iz os h own few il zl seen begun obeys = absurd h
  split_shown (v ∷ []) ps ks is iz os h own few il zl seen begun obeys = absurd h
  split_shown (v ∷ (w ∷ (u ∷ vs))) ps ks is iz os h own few il zl seen begun obeys = absurd h
  split_shown (v ∷ (w ∷ [])) [] ks is iz os h own few il zl seen begun obeys = absurd h
  split_shown (v ∷ (w ∷ [])) (p ∷ (q ∷ ps)) ks is iz os h own few il zl seen begun obeys = absurd h
  split_shown (v ∷ (w ∷ [])) (p ∷ []) [] is iz os h own few il zl seen begun obeys = absurd h
  split_shown (v ∷ (w ∷ [])) (p ∷ []) (k ∷ (j ∷ ks)) is iz os h own few il zl seen begun obeys = absurd h
  split_shown (v ∷ (w ∷ [])) (p ∷ []) (k ∷ []) [] iz os h own few il zl seen begun obeys = absurd (omega (arith, il))
  split_shown (v ∷ (w ∷ [])) (p ∷ []) (k ∷ []) (a ∷ []) iz os h own few il zl seen begun obeys = absurd (omega (arith, il))
  split_shown (v ∷ (w ∷ [])) (p ∷ []) (k ∷ []) (a ∷ (b ∷ (c ∷ is))) iz os h own few il zl seen begun obeys = absurd (omega (arith, il))
  split_shown (v ∷ (w ∷ [])) (p ∷ []) (k ∷ []) (a ∷ (b ∷ [])) [] os h own few il zl seen begun obeys = absurd (omega (arith, zl))
  split_shown (v ∷ (w ∷ [])) (p ∷ []) (k ∷ []) (a ∷ (b ∷ [])) (y ∷ []) os h own few il zl seen begun obeys = absurd (omega (arith, zl))
  split_shown (v ∷ (w ∷ [])) (p ∷ []) (k ∷ []) (a ∷ (b ∷ [])) (y ∷ (z ∷ (u ∷ iz))) os h own few il zl seen begun obeys = absurd (omega (arith, zl))
  split_shown (v ∷ (w ∷ [])) (p ∷ []) (k ∷ []) (a ∷ (b ∷ [])) (y ∷ (z ∷ [])) os h own few il zl seen begun obeys =
      let m = dealt_operand_shown x os begun v w p k h own.1.0 few.0 a b y z seen.0 seen.1.0 obeys in
      record {
        seen = (m.seen, tt);
        long = refl;
        inside = λ f i. (let one = both_true (is_index v.size y) (is_index w.size z && true) i in
            let two = both_true (is_index w.size z) true one.1 in
            (m.stands f.0 f.1.0 one.0 two.0, tt));
      }

  sort_shown : (sort : ViewSort) (v : ViewMap) (es is : List BlockValue) (ez iz : List ℤ) (os : List Operation) (tested : List Ranged) → IsShapeOf sort v.shape.dims v.parent.dims v.by → AreFew v.shape.dims → AreFew v.parent.dims
      → length es ≡ offsets_needed sort v.parent.dims → length is ≡ length v.shape.dims → length iz ≡ length v.shape.dims → AreSeen x es → AreSeen x is → AreValues x es ez → x.first ≤ length os
      → Obeys x (passed_by sort v es is os tested).operations → ShowsView v is iz (parent_index sort (first_banks v.parent.dims) v.by ez iz) tested (passed_by sort v es is os tested)
  sort_shown Shrink v es is ez iz os tested h own few el il zl es_seen is_seen values begun obeys =
      no_more v is iz iz tested (way os tested is) refl is_seen (zl ∙ (dims_long Shrink v.shape.dims v.parent.dims v.by h).0) (λ f i. shrunk_for v.shape.dims v.parent.dims v.by is iz h f)
  sort_shown Split v es is ez iz os tested h own few el il zl es_seen is_seen values begun obeys =
      let m = split_shown v.shape.dims v.parent.dims v.by is iz os h own few il zl is_seen begun obeys in
      no_more v is iz _ tested (dealt_way tested (split_made v.shape.dims v.parent.dims is os)) refl m.seen m.long (λ f i. m.inside f i)
  sort_shown Suffix v es is ez iz os tested h own few el il zl es_seen is_seen values begun obeys =
      let same = suffix_same v.shape.dims v.parent.dims v.by h in
      let long = dims_long Suffix v.shape.dims v.parent.dims v.by h in
      let m = moved_all_shown v.parent.dims v.by es is ez iz (way os tested []) few (suffix_factors v.shape.dims v.parent.dims v.by h) long.1 el (il ∙ long.0) (zl ∙ long.0) es_seen is_seen values begun obeys in
      moving v is iz _ tested os _ same m
  sort_shown Shift v es is ez iz os tested h own few el il zl es_seen is_seen values begun obeys =
      let long : length v.shape.dims ≡ length v.parent.dims = ap (λ (ds : List Dim). length ds) h.0 in
      let m = moved_all_shown v.parent.dims (unit_factors v.parent.dims) es is ez iz (way os tested []) few (ones_factors v.parent.dims) (mapped_long (λ d. 1) v.parent.dims) el (il ∙ long) (zl ∙ long) es_seen is_seen values begun obeys in
      subst (λ (zs : List ℤ). ShowsView v is iz zs tested (moved_all v.parent.dims (unit_factors v.parent.dims) es is (way os tested []))) (ones_sums v.parent.dims ez iz (sym (values_long es ez values) ∙ el))
      (moving v is iz _ tested os _ h.0 m)
    where
      values_long : (os : List BlockValue) (zs : List ℤ) → AreValues x os zs → length os ≡ length zs
      values_long [] [] h = refl
      values_long [] (z ∷ zs) h = absurd h
      values_long (o ∷ os) [] h = absurd h
      values_long (o ∷ os) (z ∷ zs) h = ap suc (values_long os zs h.1)

  pub view_shown : (v : ViewMap) (es : List BlockValue) (ez iz : List ℤ) (w : IndexWay) → IsViewMap v → AreFew v.shape.dims → AreFew v.parent.dims → length es ≡ offsets_needed v.sort v.parent.dims
      → length w.indices ≡ length v.shape.dims → length iz ≡ length v.shape.dims → AreSeen x es → AreSeen x w.indices → AreValues x es ez → x.first ≤ length w.operations
      → Obeys x (passed_if (Some v) es w).operations
      → ShowsView v w.indices iz (named_by v ez iz) (w.ranges ++ ranges_by v.shape.dims w.indices) (passed_if (Some v) es w)
  view_shown v es ez iz w map own few el il zl es_seen is_seen values begun obeys =
      sort_shown v.sort v es w.indices ez iz w.operations (w.ranges ++ ranges_by v.shape.dims w.indices) map.shape own few el il zl es_seen is_seen values begun obeys

  -- Ways.

  -- a way so far, whose indices stand for these numbers where all is in range
  pub record IsWayFor (dims : List Dim) (zs : List ℤ) (w : IndexWay) : Type 0 where
    pub begun : x.first ≤ length w.operations
    pub ranges : RangesSeen x w.ranges
    pub indices : AreSeen x w.indices
    pub index_long : length w.indices ≡ length dims
    pub long : length zs ≡ length dims
    pub stands : all_in x w.ranges ≡ true → AreFor x dims w.indices zs

  -- some indices are there, and within these dimensions
  abbrev pub is_found : List Dim → Option (List ℤ) → Bool
  is_found dims None = false
  is_found dims (Some zs) = is_inside dims zs

  -- where all leads: w is the way so far, and `last` the whole
  pub record LeadsTo (dims : List Dim) (so_far : Bool) (last : IndexWay) (found : Option (List ℤ)) : Type 0 where
    pub ranges : RangesSeen x (with_ranges dims last).ranges
    pub indices : AreSeen x last.indices
    pub test : all_in x (with_ranges dims last).ranges ≡ (so_far && is_found dims found)
    pub stands : all_in x last.ranges ≡ true → (zs : List ℤ) → found ≡ Some zs → AreFor x dims last.indices zs

  ended : (dims : List Dim) (zs : List ℤ) (w : IndexWay) → IsWayFor dims zs w → LeadsTo dims (all_in x w.ranges) w (Some zs)
  ended dims zs w h = record {
    ranges = all_join (λ r. IsSeen x r.operand) w.ranges (ranges_by dims w.indices) h.ranges (ranges_seen x dims w.indices h.indices);
    indices = h.indices;
    test = all_in_join x w.ranges (ranges_by dims w.indices) ∙ of (all_in x w.ranges) refl;
    stands = λ a ys e. subst (λ (l : List ℤ). AreFor x dims w.indices l) (same ys e) (h.stands a);
  }
    where
      same : (ys : List ℤ) → Some zs ≡ Some ys → zs ≡ ys
      same ys e = cc

      of : (b : Bool) → all_in x w.ranges ≡ b → (b && all_in x (ranges_by dims w.indices)) ≡ (b && is_inside dims zs)
      of true e = all_in_for x dims w.indices zs (h.stands e)
      of false e = refl

module _ (x : Readings) (a : RenumberedBlock) (p : PlainPlan) (maps : HasMaps p) (tables : IsProgramTable p.table) (views : a.views ≡ p.views) (memory : ℕ) where
  -- what is out of range of a view, or of the memory, leads nowhere
  nowhere : (ss : List ReachStep) (dims : List Dim) (offsets : ReachStep → List ℤ) (zs : List ℤ) → AreSteps p a.first a.kinds memory ss dims → is_inside dims zs ≡ false
      → is_found x (dims_at p.table memory) (indices_behind p.views (passed_with offsets ss) zs) ≡ false
  nowhere [] dims offsets zs s e = subst (λ (ds : List Dim). is_inside ds zs ≡ false) s e
  nowhere (t ∷ ts) dims offsets zs s e = of (slice_get p.views t.view) s
    where
      none : (b : Bool) (f : List ℤ → Option (List ℤ)) (ys : List ℤ) → b ≡ false → is_found x (dims_at p.table memory) (where_inside (if b then Some ys else None) f) ≡ false
      none true f ys e = absurd (cc)
      none false f ys e = refl

      of : (o : Option ViewMap) → StepFits p a.first a.kinds t.offsets o dims (AreSteps p a.first a.kinds memory ts)
          → is_found x (dims_at p.table memory)
          (where_inside (through_view o (offsets t) zs) (indices_behind p.views (passed_with offsets ts))) ≡ false
      of None f = absurd f
      of (Some v) f = none (is_inside v.shape.dims zs) _ _ (subst (λ (ds : List Dim). is_inside ds zs ≡ false) (sym f.0) e)

  -- offsets show these numbers
  abbrev pub AreOffsets : (ReachStep → List ℤ) → List ReachStep → Type 0
  AreOffsets offsets ss = AllByRecursion (λ s. AreSeen x (map (operand_of a) s.offsets) × AreValues x (map (operand_of a) s.offsets) (offsets s)) ss

  pub steps_lead : (offsets : ReachStep → List ℤ) (ss : List ReachStep) (dims : List Dim) (zs : List ℤ) (w : IndexWay) → AreSteps p a.first a.kinds memory ss dims → AreOffsets offsets ss → IsWayFor x dims zs w
      → Obeys x (steps_passed a ss w).operations
      → LeadsTo x (dims_at p.table memory) (all_in x w.ranges) (steps_passed a ss w) (indices_behind p.views (passed_with offsets ss) zs)
  steps_lead offsets [] dims zs w s os h obeys = ended x (dims_at p.table memory) zs w (subst (λ (ds : List Dim). IsWayFor x ds zs w) s h)
  steps_lead offsets (t ∷ ts) dims zs w s os h obeys = of (slice_get p.views t.view) refl s (ap (λ (vs : List ViewMap). passed_if (slice_get vs t.view) (map (operand_of a) t.offsets) w) views)
      (λ ds ys next f g o. steps_lead offsets ts ds ys next f os.1 g o)
    where
      Behind : List ℤ → Option (List ℤ)
      Behind ys = indices_behind p.views (passed_with offsets ts) ys

      Rest : Type 0
      Rest =
          (ds : List Dim) (ys : List ℤ) (next : IndexWay) → AreSteps p a.first a.kinds memory ts ds → IsWayFor x ds ys next → Obeys x (steps_passed a ts next).operations
          → LeadsTo x (dims_at p.table memory) (all_in x next.ranges) (steps_passed a ts next) (Behind ys)

      -- the view's own range, and what else is to be in range of it
      joined : (v : ViewMap) (next : IndexWay) (m : ShowsView x v w.indices zs (named_by v (offsets t) zs) (w.ranges ++ ranges_by v.shape.dims w.indices) next) → AreSteps p a.first a.kinds memory ts v.parent.dims
          → (all_in x w.ranges ≡ true → AreFor x v.shape.dims w.indices zs)
          → LeadsTo x (dims_at p.table memory) (all_in x next.ranges) (steps_passed a ts next) (Behind (named_by v (offsets t) zs))
          → LeadsTo x (dims_at p.table memory) (all_in x w.ranges) (steps_passed a ts next) (where_inside (view_through v (offsets t) zs) Behind)
      joined v next m f stands l = record {
        ranges = l.ranges;
        indices = l.indices;
        test = l.test ∙ (ap (λ (b : Bool). b && is_found x (dims_at p.table memory) (Behind (named_by v (offsets t) zs))) parts ∙ cases (all_in x w.ranges) (is_inside v.shape.dims zs) (all_in x m.ranges) refl refl refl);
        stands = λ e ys found. l.stands e ys (through (is_inside v.shape.dims zs) ys found);
      }
        where
          parts : all_in x next.ranges ≡ ((all_in x w.ranges && all_in x (ranges_by v.shape.dims w.indices)) && all_in x m.ranges)
          parts = ap (λ (rs : List Ranged). all_in x rs) m.ranges_are
              ∙ (all_in_join x (w.ranges ++ ranges_by v.shape.dims w.indices) m.ranges ∙ ap (λ (b : Bool). b && all_in x m.ranges) (all_in_join x w.ranges (ranges_by v.shape.dims w.indices)))

          through : (b : Bool) (ys : List ℤ) → where_inside (if b then Some (named_by v (offsets t) zs) else None) Behind ≡ Some ys → Behind (named_by v (offsets t) zs) ≡ Some ys
          through true ys e = e
          through false ys e = absurd (cc)

          cases : (b c e : Bool) → all_in x w.ranges ≡ b → is_inside v.shape.dims zs ≡ c → all_in x m.ranges ≡ e
              → (((b && all_in x (ranges_by v.shape.dims w.indices)) && e) && is_found x (dims_at p.table memory) (Behind (named_by v (offsets t) zs)))
              ≡ (b && is_found x (dims_at p.table memory) (where_inside (if c then Some (named_by v (offsets t) zs) else None) Behind))
          cases false c e i j k = refl
          cases true false e i j k =
              either_false (all_in x (ranges_by v.shape.dims w.indices) && e) _ (either_false (all_in x (ranges_by v.shape.dims w.indices)) e (all_in_for x v.shape.dims w.indices zs (stands i) ∙ j))
          cases true true true i j k =
              ap (λ (b : Bool). (b && true) && is_found x (dims_at p.table memory) (Behind (named_by v (offsets t) zs))) (all_in_for x v.shape.dims w.indices zs (stands i) ∙ j)
          cases true true false i j k =
              either_false (all_in x (ranges_by v.shape.dims w.indices) && false) _ (second_false (all_in x (ranges_by v.shape.dims w.indices)) false refl)
              ∙ sym (nowhere ts v.parent.dims offsets (named_by v (offsets t) zs) f (m.outside (stands i) j k))

      of : (o : Option ViewMap) → slice_get p.views t.view ≡ o → StepFits p a.first a.kinds t.offsets o dims (AreSteps p a.first a.kinds memory ts)
          → step_passed a t w ≡ passed_if (slice_get p.views t.view) (map (operand_of a) t.offsets) w → Rest
          → LeadsTo x (dims_at p.table memory) (all_in x w.ranges) (steps_passed a ts (step_passed a t w)) (where_inside (through_view o (offsets t) zs) Behind)
      of None e f same rest = absurd f
      of (Some v) e f same rest =
          let next = passed_if (Some v) (map (operand_of a) t.offsets) w in
          let is : step_passed a t w ≡ next = same ∙ ap (λ (o : Option ViewMap). passed_if o (map (operand_of a) t.offsets) w) e in
          let obeys_all = subst (λ (n : IndexWay). Obeys x (steps_passed a ts n).operations) is obeys in
          let obeys_next = obeys_plain x next.operations _ (steps_plain a ts next) obeys_all in
          let map_of = one_of IsViewMap p.views t.view v maps e in
          let few = way_few p maps tables a.first a.kinds memory ts v.parent.dims f.1.1 in
          let to_own = ap (λ (ds : List Dim). length ds) (sym f.0) in
          let grown = subst (λ (n : IndexWay). x.first ≤ length n.operations) is (begun_later x w.operations (step_passed a t w).operations (plain_grows _ _ (step_plain a t w)) h.begun) in
          let m = view_shown x v (map (operand_of a) t.offsets) (offsets t) zs w map_of (view_few v map_of few) few (mapped_long (operand_of a) t.offsets ∙ f.1.0) (h.index_long ∙ to_own) (h.long ∙ to_own) os.0.0 h.indices os.0.1
          h.begun obeys_next
          in
          let many = sort_long v.sort v (map (operand_of a) t.offsets) w.indices w.operations (w.ranges ++ ranges_by v.shape.dims w.indices) map_of.shape (mapped_long (operand_of a) t.offsets ∙ f.1.0) (h.index_long ∙ to_own) in
          let stands : all_in x w.ranges ≡ true → AreFor x v.shape.dims w.indices zs = λ e. subst (λ (ds : List Dim). AreFor x ds w.indices zs) (sym f.0) (h.stands e) in
          subst (λ (n : IndexWay). LeadsTo x (dims_at p.table memory) (all_in x w.ranges) (steps_passed a ts n) (where_inside (view_through v (offsets t) zs) Behind)) (sym is)
          (joined v next m f.1.1 stands (rest v.parent.dims (named_by v (offsets t) zs) next f.1.1 (next_for v next m stands grown many) obeys_all))
        where
          next_for : (v : ViewMap) (next : IndexWay) → ShowsView x v w.indices zs (named_by v (offsets t) zs) (w.ranges ++ ranges_by v.shape.dims w.indices) next
              → (all_in x w.ranges ≡ true → AreFor x v.shape.dims w.indices zs) → x.first ≤ length next.operations → length next.indices ≡ length v.parent.dims
              → IsWayFor x v.parent.dims (named_by v (offsets t) zs) next
          next_for v next m stands begun many = record {
            begun = begun;
            ranges = subst (λ (rs : List Ranged). RangesSeen x rs) (sym m.ranges_are)
                (all_join (λ r. IsSeen x r.operand) (w.ranges ++ own) m.ranges (all_join (λ r. IsSeen x r.operand) w.ranges own h.ranges (ranges_seen x v.shape.dims w.indices h.indices)) m.ranges_seen);
            indices = m.indices_seen;
            index_long = many;
            long = m.long;
            stands = λ e.
                (let all = sym (ap (λ (rs : List Ranged). all_in x rs) m.ranges_are ∙ all_in_join x (w.ranges ++ own) m.ranges) ∙ e in
                let two = both_true (all_in x (w.ranges ++ own)) (all_in x m.ranges) all in
                let one = both_true (all_in x w.ranges) (all_in x own) (sym (all_in_join x w.ranges own) ∙ two.0) in
                m.inside (stands one.0) (sym (all_in_for x v.shape.dims w.indices zs (stands one.0)) ∙ one.1) two.1);
          }
            where
              own : List Ranged
              own = ranges_by v.shape.dims w.indices
