-- What is put down of a way is plain operations of values that are there, of kinds that suit them; and what is to be in
-- range, and the indices behind the views, are there too, each of its kind.
use Rattle.std.proofs.Common.{◌≡◌, ℕ, ◌+◌, ◌-◌, ◌*◌, ◌/◌, ◌%◌, ◌^◌, ◌<◌, ◌≤◌, Bool, true, false, List, length, map, pos, int_lt, refl, sym, ap, subst, ◌∙◌, arith, pow_mono}
use Rattle.std.specs.Prelude.{min, ℤ, Option, Some, None, [], ◌∷◌, ◌++◌, slice_get}
use Rattle.std.specs.List.{AllByRecursion}
use Rattle.std.proofs.Math.Nat.{mod-eq_of_lt, le-mul_of_pos_right, mul_comm}
use Rattle.dh_value.specs.declared.kinds.Kind.TheVariants as kind
use Rattle.dh_value.specs.Words.{IsWidth}
use Rattle.dh_tree.specs.declared.tables.Dim.{Dim}
use Rattle.dh_tree.specs.declared.viewing.ViewMap.{ViewMap}
use Rattle.dh_tree.specs.declared.viewing.ViewSort.{ViewSort}
use Rattle.dh_tree.specs.declared.viewing.ViewSort.TheVariants.{Shrink, Split, Suffix, Shift}
use Rattle.dh_tree.specs.Elements.{dims_at}
use Rattle.dh_tree.specs.Shapes.{IsProgramTable}
use Rattle.dh_tree.specs.ViewShapes.{AreSplitOf, IsShapeOf, IsViewMap}
use Rattle.dh_plan.specs.declared.operations.Operation.{Operation}
use Rattle.dh_plan.specs.declared.operations.Reach.{Reach}
use Rattle.dh_plan.specs.declared.operations.ReachStep.{ReachStep}
use Rattle.dh_plan.specs.Ordered.{one_or_none, offsets_taken, reach_takes}
use Rattle.dh_plan.specs.PlainPlans.{PlainPlan}
use Rattle.dh_plan.specs.PlanKinds.{AreSteps, NamesElement, ReachSuits, StepFits}
use Rattle.dh_plan.proofs.ValuesAlike.{all_left, all_right, all_map}
use Rattle.dh_rows.specs.declared.spanning.Span.{Span}
use Rattle.dh_rows.specs.Readings.{Readings, OperationsGrow, AddsOperations}
use Rattle.dh_rows.specs.RowsShown.{SpanStands}
use Rattle.dh_rows.specs.MadeOperations.{Made, moved, dealt, spanned, moved_width}
use Rattle.dh_rows.proofs.Growing.{grows_on, grown_length, plain_grows, adds_self, adds_on}
use Rattle.dh_rows.proofs.PutDown.{Makes, makes_constant}
use Rattle.dh_rows.proofs.PutSpread.{FitsWidth}
use Rattle.dh_rows.proofs.MovedPut.{makes_moved, makes_dealt, makes_spanned}
use Rattle.dh_rows.proofs.SpannedOffsets.{width_moves}
use Rattle.dh_rows.proofs.DealtIndices.{dealt_small}
use Rattle.dh_address.specs.declared.operands.BlockValue.{BlockValue}
use Rattle.dh_address.specs.declared.operands.Ranged.{Ranged}
use Rattle.dh_address.specs.LiteralPlaces.{below_size}
use Rattle.dh_address.specs.Arounds.{RenumberedBlock}
use Rattle.dh_address.specs.WaysMade.{IndexWay, way, IsIndexWay, Bounded, operand_of, ranges_by, span_range, is_near, bounded_unless, offset_bounded, PlacedOperand, placed_as, made_or, index_moved, steps_by, moved_literal, moved_operand, moved_one, moved_all, maybe_range, unit_factors, dealt_known, dealt_literal, dealt_operand, split_made, dealt_way, passed_by, passed_if, step_passed, steps_passed, with_ranges, way_begun, passed_to, reach_passed}
use Rattle.dh_address.proofs.AccessesPut.{IsInputOf, IsNumberKnown, input_later, operand_there, operands_there, all_join}
use Rattle.dh_address.proofs.LiteralMeans.{below_means}
use Rattle.dh_address.proofs.TestedRanges.{IsThere, IsTestable, there_later, all_there, testable_later, begun_later}
use Rattle.dh_address.proofs.WaysPlain.{way_as, moved_one_plain}
use Rattle.dh_address.proofs.WaySizes.{HasMaps, IsFew, AreFew, one_of, view_few, way_few}

-- Numbers of a split.

-- a dimension is dealt to copies
pub record IsDealtTo (copies : ℕ) (part : Dim) (size : ℕ) : Type 0 where
  pub all : copies * part.size ≡ size
  pub fewer : copies ≤ size
  pub less : part.size ≤ size

pub dealt_to : (v w p : Dim) (k : ℕ) → AreSplitOf (v ∷ (w ∷ [])) (p ∷ []) (k ∷ []) → 1 ≤ w.size → IsDealtTo v.size w p.size
dealt_to v w p k h some =
    let size = h.0.0 in
    let all = h.1.0 in
    let turn = mul_comm k w.size in
    let part : w.size ≤ w.size * k = le-mul_of_pos_right w.size h.1.1.1 in
    let copies : k ≤ k * w.size = le-mul_of_pos_right k some in
    record {
      all = ap (λ n. n * w.size) size ∙ (turn ∙ all);
      fewer = omega (arith, copies, turn, all, size);
      less = omega (arith, part, all);
    }

-- sums and products that do not wrap
pub unwrapped : (q c a k r m : ℕ) → q * c + a < m → (q * c + a) * k + r < m → ((q * c % m + a) % m * k % m + r) % m ≡ (q * c + a) * k + r
unwrapped q c a k r m row number =
    ap (λ n. ((n + a) % m * k % m + r) % m) (mod-eq_of_lt (first q c a m row))
    ∙ (ap (λ n. (n * k % m + r) % m) (mod-eq_of_lt row) ∙ (ap (λ n. (n + r) % m) (mod-eq_of_lt (second ((q * c + a) * k) r m number)) ∙ mod-eq_of_lt number))
  where
    first : (q c a m : ℕ) → q * c + a < m → q * c < m
    first q c a m l = omega (arith, l)

    second : (n r m : ℕ) → n + r < m → n < m
    second n r m l = omega (arith, l)

-- the constants of a copy and of an element in range
pub record AreDealt (copy index : Option ℕ) (copies : ℕ) (part : Dim) (n : ℕ) : Type 0 where
  pub first : ℕ
  pub second : ℕ
  pub copy_is : copy ≡ Some first
  pub index_is : index ≡ Some second
  pub copy_below : first < copies
  pub index_below : second < part.size
  pub number : ((second / part.banks * copies % 2 ^ 64 + first) % 2 ^ 64 * part.banks % 2 ^ 64 + second % part.banks) % 2 ^ 64 ≡ n

pub dealt_means : (copy index : Option ℕ) (copies : ℕ) (part : Dim) (n : ℕ) → dealt_literal copy index copies part ≡ Some n → AreDealt copy index copies part n
dealt_means copy index copies part n e = of (below_size copy copies) (below_size index part.size) refl refl e
  where
    of : (c i : Option ℕ) → below_size copy copies ≡ c → below_size index part.size ≡ i → dealt_known c i copies part ≡ Some n → AreDealt copy index copies part n
    of None i f g e = absurd (cc)
    of (Some a) None f g e = absurd (cc)
    of (Some a) (Some b) f g e =
        let one = below_means copy copies a f in
        let two = below_means index part.size b g in
        record { first = a; second = b; copy_is = one.0; index_is = two.0; copy_below = one.1; index_below = two.1; number = cc }

pub moved_below : (offset : Option ℤ) (index : Option ℕ) (factor size n : ℕ) → moved_literal offset index factor size ≡ Some n → n < size
moved_below None index factor size n e = absurd (cc)
moved_below (Some a) None factor size n e = absurd (cc)
moved_below (Some a) (Some i) factor size n e =
    let b = below_means (index_moved (int_lt a (pos 0)) (steps_by a factor) i) size n e in b.1

module _ (x : Readings) (clock : ℕ) where
  -- plain operations, what is to be in range, and indices
  pub record PutsPassed (old new : List Operation) (tested : List Ranged) (inner : List BlockValue) : Type 0 where
    pub adds : AddsOperations x clock old new
    pub ranges : AllByRecursion (IsTestable x clock new) tested
    pub indices : AllByRecursion (IsThere x clock new) inner

  abbrev pub PutsWay : (old : List Operation) → IndexWay → Type 0
  PutsWay old w = PutsPassed old w.operations w.ranges w.indices

  -- Offsets.

  pub record PutsBounded (old : List Operation) (m : Bounded) : Type 0 where
    pub adds : AddsOperations x clock old m.operations
    pub range : AllByRecursion (IsTestable x clock m.operations) (maybe_range m.range)

  span_there : (os : List Operation) (s : Option Span) → SpanStands x clock os s → AllByRecursion (IsTestable x clock os) (maybe_range (span_range s))
  span_there os None h = tt
  span_there os (Some s) h = (record { sized = h.0; stands = h.1 }, tt)

  bounded_put : (near : Bool) (os : List Operation) (e : BlockValue) (bound : ℕ) → x.first ≤ length os → IsThere x clock os e → PutsBounded os (bounded_unless near os e bound)
  bounded_put false os e bound begun t =
      let m = makes_spanned x clock e.kind os begun e.value bound t.sized t.stands in
      record { adds = m.adds; range = span_there (spanned os e.kind e.value bound).operations (spanned os e.kind e.value bound).span m.span }
  bounded_put true os e bound begun t = record { adds = adds_self x clock os; range = tt }

  pub offset_put : (os : List Operation) (e : BlockValue) (bound : ℕ) → x.first ≤ length os → IsThere x clock os e → PutsBounded os (offset_bounded os e bound)
  offset_put os e bound begun t = bounded_put (is_near e.whole bound) os e bound begun t

  -- Indices.

  pub record PutsPlaced (old : List Operation) (m : PlacedOperand) : Type 0 where
    pub adds : AddsOperations x clock old m.operations
    pub there : IsThere x clock m.operations m.operand

  placed_put : (l : Option ℕ) (os : List Operation) (width : ℕ) (m : Made) → x.first ≤ length os → IsWidth width → ((n : ℕ) → l ≡ Some n → n < 2 ^ width) → Makes x clock os m (kind.Unsigned width)
      → PutsPlaced os (placed_as l width (made_or os l width m))
  placed_put None os width m begun sized small h = record { adds = h.adds; there = record { sized = sized; stands = h.value } }
  placed_put (Some n) os width m begun sized small h =
      let c = makes_constant x clock os begun width n sized (small n refl) in record { adds = c.adds; there = record { sized = sized; stands = c.value } }

  pub moved_put : (os : List Operation) (size factor : ℕ) (e i : BlockValue) → x.first ≤ length os → size < 2 ^ 60 → IsThere x clock os e → IsThere x clock os i → PutsPlaced os (moved_operand os size factor e i)
  moved_put os size factor e i begun few g h =
      let w = width_moves size few in
      placed_put (moved_literal e.whole i.literal factor size) os (moved_width size) (moved os (moved_width size) (min factor size) e.value i.value) begun w.0
      (λ n l. (let b = moved_below e.whole i.literal factor size n l in let m = w.1 in omega (arith, b, m)))
      (makes_moved x clock (moved_width size) w.0 os begun (min factor size) e.value i.value (λ o. (g.stands o).earlier) (λ o. (h.stands o).earlier))

  pub dealt_put : (os : List Operation) (size copies : ℕ) (part : Dim) (a b : BlockValue) → x.first ≤ length os → size < 2 ^ 60 → IsFew part → IsDealtTo copies part size → IsThere x clock os a → IsThere x clock os b
      → PutsPlaced os (dealt_operand os size copies part a b)
  dealt_put os size copies part a b begun few own d g h =
      let w = width_moves size few in
      let fits : FitsWidth (moved_width size) part = record { dim = own.dim; small = (let l = d.less in let m = w.1 in let s = own.dim.size in omega (arith, l, m, s)) } in
      placed_put (dealt_literal a.literal b.literal copies part) os (moved_width size) (dealt os (moved_width size) copies part a.value b.value) begun w.0 (λ n l. small fits w.0.1 w.1 n l)
      (makes_dealt x clock (moved_width size) w.0 os begun copies part a.value b.value fits (λ o. (g.stands o).earlier) (λ o. (h.stands o).earlier))
    where
      small : FitsWidth (moved_width size) part → moved_width size ≤ 64 → size * 4 ≤ 2 ^ moved_width size → (n : ℕ) → dealt_literal a.literal b.literal copies part ≡ Some n → n < 2 ^ moved_width size
      small fits wide more n l =
          let m = dealt_means a.literal b.literal copies part n l in
          let all = d.all in
          let some = own.dim.size in
          let less = d.less in
          let s = dealt_small (moved_width size) copies part m.first m.second fits m.copy_below m.index_below (omega (arith, all, more, some, less)) in
          let most : 2 ^ moved_width size ≤ 2 ^ 64 = pow_mono wide in
          let row = s.row in
          let number = s.number in
          subst (λ k. k < 2 ^ moved_width size) m.number
          (subst (λ k. k < 2 ^ moved_width size)
          (sym (unwrapped (m.second / part.banks) copies m.first part.banks (m.second % part.banks) (2 ^ 64) (omega (arith, row, most)) (omega (arith, number, most)))) number)

  -- Of a view that moves.

  pub moved_one_put : (old : List Operation) (size factor : ℕ) (e i : BlockValue) (w : IndexWay) → x.first ≤ length old → size < 2 ^ 60 → PutsWay old w → IsThere x clock w.operations e → IsThere x clock w.operations i
      → PutsWay old (moved_one size factor e i w)
  moved_one_put old size factor e i w begun few h g k =
      let b = offset_bounded w.operations e ((size - 1) / factor) in
      let at_w = begun_later x old w.operations h.adds.grows begun in
      let one = offset_put w.operations e ((size - 1) / factor) at_w g in
      let at_b = begun_later x w.operations b.operations one.adds.grows at_w in
      let m = moved_operand b.operations size factor e i in
      let two = moved_put b.operations size factor e i at_b few (there_later x clock w.operations b.operations one.adds.grows e g) (there_later x clock w.operations b.operations one.adds.grows i k) in
      let far = grows_on w.operations b.operations m.operations one.adds.grows two.adds.grows in
      record {
        adds = adds_on x clock old w.operations m.operations h.adds (adds_on x clock w.operations b.operations m.operations one.adds two.adds);
        ranges = all_join (IsTestable x clock m.operations) w.ranges (maybe_range b.range) (testable_later x clock w.operations m.operations far w.ranges h.ranges)
            (testable_later x clock b.operations m.operations two.adds.grows (maybe_range b.range) one.range);
        indices = all_join (IsThere x clock m.operations) w.indices (m.operand ∷ []) (all_there x clock w.operations m.operations far w.indices h.indices) (two.there, tt);
      }

  pub moved_all_put : (old : List Operation) (ds : List Dim) (ks : List ℕ) (es is : List BlockValue) (w : IndexWay) → x.first ≤ length old → AreFew ds → PutsWay old w → AllByRecursion (IsThere x clock w.operations) es
      → AllByRecursion (IsThere x clock w.operations) is → PutsWay old (moved_all ds ks es is w)
  moved_all_put old [] ks es is w begun few h g k = h
  moved_all_put old (d ∷ ds) [] es is w begun few h g k = h
  moved_all_put old (d ∷ ds) (f ∷ ks) [] is w begun few h g k = h
  moved_all_put old (d ∷ ds) (f ∷ ks) (e ∷ es) [] w begun few h g k = h
  moved_all_put old (d ∷ ds) (f ∷ ks) (e ∷ es) (i ∷ is) w begun few h g k =
      let next = moved_one d.size f e i w in
      let one = moved_one_put old d.size f e i w begun few.0.small h g.0 k.0 in
      let grown = plain_grows w.operations next.operations (moved_one_plain d.size f e i w) in
      moved_all_put old ds ks es is next begun few.1 one (all_there x clock w.operations next.operations grown es g.1) (all_there x clock w.operations next.operations grown is k.1)

  -- Of any view.

  split_put : (old : List Operation) (vs ps : List Dim) (ks : List ℕ) (is : List BlockValue) (os : List Operation) (ranges : List Ranged) → x.first ≤ length os → AreSplitOf vs ps ks → AreFew vs → AreFew ps
      → PutsWay old (way os ranges is) → PutsWay old (dealt_way ranges (split_made vs ps is os))
  split_put old [] ps ks is os ranges begun s own few h = absurd s
  split_put old (v ∷ []) ps ks is os ranges begun s own few h = absurd s
  split_put old (v ∷ (w ∷ (u ∷ vs))) ps ks is os ranges begun s own few h = absurd s
  split_put old (v ∷ (w ∷ [])) [] ks is os ranges begun s own few h = absurd s
  split_put old (v ∷ (w ∷ [])) (p ∷ (q ∷ ps)) ks is os ranges begun s own few h = absurd s
  split_put old (v ∷ (w ∷ [])) (p ∷ []) [] is os ranges begun s own few h = absurd s
  split_put old (v ∷ (w ∷ [])) (p ∷ []) (k ∷ (j ∷ ks)) is os ranges begun s own few h = absurd s
  split_put old (v ∷ (w ∷ [])) (p ∷ []) (k ∷ []) [] os ranges begun s own few h = record { adds = h.adds; ranges = h.ranges; indices = tt }
  split_put old (v ∷ (w ∷ [])) (p ∷ []) (k ∷ []) (a ∷ []) os ranges begun s own few h = record { adds = h.adds; ranges = h.ranges; indices = tt }
  split_put old (v ∷ (w ∷ [])) (p ∷ []) (k ∷ []) (a ∷ (b ∷ is)) os ranges begun s own few h =
      let m = dealt_operand os p.size v.size w a b in
      let one = dealt_put os p.size v.size w a b begun few.0.small own.1.0 (dealt_to v w p k s own.1.0.dim.size) h.indices.0 h.indices.1.0 in
      record { adds = adds_on x clock old os m.operations h.adds one.adds; ranges = testable_later x clock os m.operations one.adds.grows ranges h.ranges; indices = (one.there, tt) }

  sort_put : (sort : ViewSort) (v : ViewMap) (old : List Operation) (es is : List BlockValue) (os : List Operation) (ranges : List Ranged) → x.first ≤ length old → IsShapeOf sort v.shape.dims v.parent.dims v.by
      → AreFew v.shape.dims → AreFew v.parent.dims → PutsWay old (way os ranges is) → AllByRecursion (IsThere x clock os) es → PutsWay old (passed_by sort v es is os ranges)
  sort_put Shrink v old es is os ranges begun s own few h g = h
  sort_put Split v old es is os ranges begun s own few h g = split_put old v.shape.dims v.parent.dims v.by is os ranges (begun_later x old os h.adds.grows begun) s own few h
  sort_put Suffix v old es is os ranges begun s own few h g =
      moved_all_put old v.parent.dims v.by es is (way os ranges []) begun few (record { adds = h.adds; ranges = h.ranges; indices = tt }) g h.indices
  sort_put Shift v old es is os ranges begun s own few h g =
      moved_all_put old v.parent.dims (unit_factors v.parent.dims) es is (way os ranges []) begun few (record { adds = h.adds; ranges = h.ranges; indices = tt }) g h.indices

  pub ranges_there : (os : List Operation) (dims : List Dim) (is : List BlockValue) → AllByRecursion (IsThere x clock os) is → AllByRecursion (IsTestable x clock os) (ranges_by dims is)
  ranges_there os [] is h = tt
  ranges_there os (d ∷ ds) [] h = tt
  ranges_there os (d ∷ ds) (i ∷ is) h = (h.0, ranges_there os ds is h.1)

  pub view_put : (v : ViewMap) (old : List Operation) (es : List BlockValue) (w : IndexWay) → x.first ≤ length old → IsViewMap v → AreFew v.shape.dims → AreFew v.parent.dims → PutsWay old w
      → AllByRecursion (IsThere x clock w.operations) es → PutsWay old (passed_if (Some v) es w)
  view_put v old es w begun map own few h g =
      sort_put v.sort v old es w.indices w.operations (w.ranges ++ ranges_by v.shape.dims w.indices) begun map.shape own few (record {
        adds = h.adds;
        ranges = all_join (IsTestable x clock w.operations) w.ranges (ranges_by v.shape.dims w.indices) h.ranges (ranges_there w.operations v.shape.dims w.indices h.indices);
        indices = h.indices;
      })
      g

  module _ (a : RenumberedBlock) (p : PlainPlan) (maps : HasMaps p) (tables : IsProgramTable p.table) (views : a.views ≡ p.views) where
    -- the offsets of a step, at its new numbers
    offsets_there : (old os : List Operation) → OperationsGrow old os → (vs : List ℕ) → AllByRecursion (IsNumberKnown x clock a) vs → AllByRecursion (IsInputOf x clock a (length old)) vs
        → AllByRecursion (IsThere x clock os) (map (operand_of a) vs)
    offsets_there old os g vs k h =
        operands_there x clock a os vs k (all_map (IsInputOf x clock a (length old)) (IsInputOf x clock a (length os)) vs (λ v. input_later x clock a (length old) (length os) v (grown_length old os g)) h)

    steps_put : (memory : ℕ) (steps : List ReachStep) (dims : List Dim) (old : List Operation) (w : IndexWay) → x.first ≤ length old → AreSteps p a.first a.kinds memory steps dims
        → AllByRecursion (IsNumberKnown x clock a) (offsets_taken steps) → AllByRecursion (IsInputOf x clock a (length old)) (offsets_taken steps) → PutsWay old w → PutsWay old (steps_passed a steps w)
    steps_put memory [] dims old w begun s k h put = put
    steps_put memory (t ∷ ts) dims old w begun s k h put =
        steps_put memory ts (parent_of (slice_get p.views t.view) s).0 old (step_passed a t w) begun (parent_of (slice_get p.views t.view) s).1
        (all_right (IsNumberKnown x clock a) t.offsets (offsets_taken ts) k) (all_right (IsInputOf x clock a (length old)) t.offsets (offsets_taken ts) h)
        (subst (λ (vs : List ViewMap). PutsWay old (passed_if (slice_get vs t.view) (map (operand_of a) t.offsets) w)) (sym views) (of (slice_get p.views t.view) refl s))
      where
        parent_of : (o : Option ViewMap) → StepFits p a.first a.kinds t.offsets o dims (AreSteps p a.first a.kinds memory ts) → (ds : List Dim) × AreSteps p a.first a.kinds memory ts ds
        parent_of None f = absurd f
        parent_of (Some v) f = (v.parent.dims, f.1.1)

        of : (o : Option ViewMap) → slice_get p.views t.view ≡ o → StepFits p a.first a.kinds t.offsets o dims (AreSteps p a.first a.kinds memory ts) → PutsWay old (passed_if o (map (operand_of a) t.offsets) w)
        of None e f = absurd f
        of (Some v) e f =
            let map_of = one_of IsViewMap p.views t.view v maps e in
            let few = way_few p maps tables a.first a.kinds memory ts v.parent.dims f.1.1 in
            view_put v old (map (operand_of a) t.offsets) w begun map_of (view_few v map_of few) few put
            (offsets_there old w.operations put.adds.grows t.offsets (all_left (IsNumberKnown x clock a) t.offsets (offsets_taken ts) k) (all_left (IsInputOf x clock a (length old)) t.offsets (offsets_taken ts) h))

    pub ending_put : (dims : List Dim) (old : List Operation) (w : IndexWay) → PutsWay old w → PutsWay old (with_ranges dims w)
    ending_put dims old w h = record {
      adds = h.adds;
      ranges = all_join (IsTestable x clock w.operations) w.ranges (ranges_by dims w.indices) h.ranges (ranges_there w.operations dims w.indices h.indices);
      indices = h.indices;
    }

    to_put : (row : Option ℕ) (r : Reach) (old : List Operation) → x.first ≤ length old → NamesElement p a.first a.kinds r row → AllByRecursion (IsNumberKnown x clock a) r.indices
        → AllByRecursion (IsNumberKnown x clock a) (offsets_taken r.steps) → AllByRecursion (IsNumberKnown x clock a) (one_or_none row) → AllByRecursion (IsInputOf x clock a (length old)) r.indices
        → AllByRecursion (IsInputOf x clock a (length old)) (offsets_taken r.steps) → AllByRecursion (IsInputOf x clock a (length old)) (one_or_none row) → PutsWay old (passed_to a r row old)
    to_put None r old begun element ki ke kr hi he hr =
        ending_put (dims_at a.table r.memory) old (steps_passed a r.steps (way_begun a r old))
        (steps_put r.memory r.steps element.0 old (way_begun a r old) begun element.1.1 ke he (record { adds = adds_self x clock old; ranges = tt; indices = operands_there x clock a old r.indices ki hi }))
    to_put (Some row) r old begun element ki ke kr hi he hr =
        record { adds = adds_self x clock old; ranges = (operand_there x clock a old row kr.0 hr.0, tt); indices = tt }

    pub reach_put : (r : Reach) → ReachSuits p a.first a.kinds r → (old : List Operation) → x.first ≤ length old → AllByRecursion (IsInputOf x clock a (length old)) (reach_takes r)
        → PutsWay old (reach_passed a r old)
    reach_put r suits old begun taken =
        let P = IsInputOf x clock a (length old) in
        let behind = all_right P r.indices _ taken in
        let last = all_right P (offsets_taken r.steps) _ behind in
        let K = IsNumberKnown x clock a in
        to_put r.row r old begun suits.element (all_left K r.indices (offsets_taken r.steps) suits.indices) (all_right K r.indices (offsets_taken r.steps) suits.indices) suits.row
        (all_left P r.indices _ taken) (all_left P (offsets_taken r.steps) _ behind) (all_right P (one_or_none r.select) (one_or_none r.row) last)

    -- of what was seen as the way of an access
    pub passed_put : (r : Reach) → ReachSuits p a.first a.kinds r → (old passed : List Operation) (ranges : List Ranged) (indices : List BlockValue) → IsIndexWay passed ranges indices (reach_passed a r old)
        → x.first ≤ length old → AllByRecursion (IsInputOf x clock a (length old)) (reach_takes r) → PutsPassed old passed ranges indices
    passed_put r suits old passed ranges indices e begun taken =
        way_as (λ os rs is. PutsPassed old os rs is) passed ranges indices (reach_passed a r old) e (reach_put r suits old begun taken)
