-- Indices that pass through views to those of their memory.
use Rattle.std.proofs.Common.{◌≡◌, ℕ, zero, suc, ◌+◌, ◌-◌, ◌<◌, ◌≤◌, ◌&&◌, Bool, true, false, if◌then◌else◌, List, [], ◌∷◌, ◌++◌, length, take, drop, get_or, Some, None, ℤ, refl, ap, sym, ◌∙◌, subst, arith, append_assoc, append-nil}
use Rattle.std.specs.Prelude.{Option}
use Rattle.std.specs.List.{AllByRecursion}
use Rattle.std.proofs.Math.Seq.{drop-cons}
use Rattle.std.proofs.lemmas.List.{length-drop}
use Rattle.dh_value.specs.Words as words
use Rattle.dh_tree.specs.declared.tables.Dim.{Dim}
use Rattle.dh_tree.specs.declared.viewing.ViewMap.{ViewMap}
use Rattle.dh_tree.specs.declared.viewing.ViewSort.{ViewSort}
use Rattle.dh_tree.specs.declared.viewing.ViewSort.TheVariants.{Shrink, Split, Suffix, Shift}
use Rattle.dh_tree.specs.ViewElements.{element_through, first_banks, inside_of, is_inside, is_index, named_by, offsets_needed, parent_index, view_through, where_inside}
use Rattle.dh_tree.specs.ViewShapes.{IsViewMap}
use Rattle.dh_viewing.specs.declared.numbers.Index.{Index}
use Rattle.dh_viewing.specs.Numbers.{numbers_in}
use Rattle.dh_meaning.specs.Effects.{indices_through}
use Rattle.dh_meaning.specs.Ways.{WayStep, step_of}
use Rattle.dh_ways.specs.Leading.{StepsLead, next_dims, offsets_on}
use Rattle.dh_code.specs.declared.codes.Operand.{Operand}
use Rattle.dh_code.specs.declared.spots.Spread.{Spread}
use Rattle.dh_code.specs.Banks.{Spreads}
use Rattle.dh_code.specs.Operated.{IsValidOperand, Sight, index_values, operand_word}
use Rattle.dh_code.specs.Passed.{PassesTo}
use Rattle.dh_code.specs.Passing.{SpreadsBehind, StepsFit, steps_of}
use Rattle.dh_code.proofs.Ranges.{all_dropped, drop_past, get_whatever}

-- Numbers.

none_more : (k : ℕ) → 0 ≡ suc k → ⊥
none_more k e = omega (arith, e)

more_none : (k : ℕ) → suc k ≡ 0 → ⊥
more_none k e = omega (arith, e)

pub trimmed_same : (xs : List ℤ) (n k : ℕ) → length (take n xs) ≡ k → take k xs ≡ take n xs
trimmed_same [] zero zero e = refl
trimmed_same [] zero (suc k) e = absurd (none_more k e)
trimmed_same [] (suc n) zero e = refl
trimmed_same [] (suc n) (suc k) e = absurd (none_more k e)
trimmed_same (x ∷ xs) zero zero e = refl
trimmed_same (x ∷ xs) zero (suc k) e = absurd (none_more k e)
trimmed_same (x ∷ xs) (suc n) zero e = absurd (more_none (length (take n xs)) e)
trimmed_same (x ∷ xs) (suc n) (suc k) e = ap (λ l. x ∷ l) (trimmed_same xs n k (less (length (take n xs)) k e))
  where
    less : (a b : ℕ) → suc a ≡ suc b → a ≡ b
    less a b e = omega (arith, e)

module _ (w : Sight) where
  pub values_taken : (os : List Operand) (k : ℕ) → take k (index_values w os) ≡ index_values w (take k os)
  values_taken [] zero = refl
  values_taken [] (suc k) = refl
  values_taken (o ∷ os) zero = refl
  values_taken (o ∷ os) (suc k) = ap (λ l. words.value_of (operand_word w o) ∷ l) (values_taken os k)

  pub values_dropped : (os : List Operand) (k : ℕ) → drop k (index_values w os) ≡ index_values w (drop k os)
  values_dropped [] zero = refl
  values_dropped [] (suc k) = refl
  values_dropped (o ∷ os) zero = refl
  values_dropped (o ∷ os) (suc k) = values_dropped os k

-- what was told up to one
numbers_more : (w : Sight) (now new : List ℤ) (os : List Operand) (i : ℕ) (o : Operand) (z : ℤ) → i < length os → o ≡ get_or os i o → new ≡ now ++ z ∷ [] → z ≡ words.value_of (operand_word w o)
    → now ++ index_values w (drop i os) ≡ index_values w os → new ++ index_values w (drop (suc i) os) ≡ index_values w os
numbers_more w now new os i o z there is added worth h =
    ap (λ l. l ++ index_values w (drop (suc i) os)) added
    ∙ (append_assoc now (z ∷ []) (index_values w (drop (suc i) os))
    ∙ (ap (λ y. now ++ y ∷ index_values w (drop (suc i) os)) worth
    ∙ (ap (λ l. now ++ index_values w l) (sym (drop-cons os i o there ∙ ap (λ x. x ∷ drop (suc i) os) (sym is))) ∙ h)))

-- at a place, whatever stands for what is not there
pub numbers_at : (w : Sight) (now new : List ℤ) (os : List Operand) (i : ℕ) (o : Operand) (z : ℤ) → i < length os → new ≡ now ++ z ∷ [] → z ≡ words.value_of (operand_word w (get_or os i o))
    → now ++ index_values w (drop i os) ≡ index_values w os → new ++ index_values w (drop (suc i) os) ≡ index_values w os
numbers_at w now new os i o z there added worth h = numbers_more w now new os i (get_or os i o) z there (get_whatever os i o (get_or os i o) there) added worth h

pub numbers_end : (w : Sight) (now : List ℤ) (os : List Operand) (i : ℕ) → length os ≤ i → now ++ index_values w (drop i os) ≡ index_values w os → now ≡ index_values w os
numbers_end w now os i over h = sym (append-nil now) ∙ (ap (λ l. now ++ index_values w l) (sym (drop_past os i over)) ∙ h)

-- so many of them
pub taken_long : {A : Type 0} (xs : List A) (n : ℕ) → n ≤ length xs → length (take n xs) ≡ n
taken_long xs zero h = refl
taken_long [] (suc n) h = absurd (never n h)
  where
    never : (n : ℕ) → suc n ≤ 0 → ⊥
    never n e = omega (arith, e)
taken_long (x ∷ xs) (suc n) h = ap suc (taken_long xs n (less n (length xs) h))
  where
    less : (a b : ℕ) → suc a ≤ suc b → a ≤ b
    less a b e = omega (arith, e)

-- One view.

inside_long : (ds : List Dim) (is : List ℤ) → is_inside ds is ≡ true → length is ≡ length ds
inside_long [] [] e = refl
inside_long [] (i ∷ is) e = absurd cc
inside_long (d ∷ ds) [] e = absurd cc
inside_long (d ∷ ds) (i ∷ is) e = ap suc (inside_long ds is (second (is_index d.size i) (is_inside ds is) e))
  where
    second : (b c : Bool) → (b && c) ≡ true → c ≡ true
    second true c e = e
    second false c e = absurd cc

-- by a sort
abbrev through_by : ViewMap → ViewSort → (offsets indices : List ℤ) → Option (List ℤ)
through_by v s os is = if is_inside v.shape.dims is then inside_of v.parent.dims (parent_index s (first_banks v.parent.dims) v.by os is) else None

-- a view that does not move has no offsets
pub shrink_still : (v : ViewMap) (os es is : List ℤ) → v.sort ≡ Shrink → element_through v os is ≡ element_through v es is
shrink_still v os es is e = ap (λ s. through_by v s os is) e ∙ sym (ap (λ s. through_by v s es is) e)

pub split_still : (v : ViewMap) (os es is : List ℤ) → v.sort ≡ Split → element_through v os is ≡ element_through v es is
split_still v os es is e = ap (λ s. through_by v s os is) e ∙ sym (ap (λ s. through_by v s es is) e)

element_some : (v : ViewMap) (es is inner : List ℤ) → element_through v es is ≡ Some inner → (view_through v es is ≡ Some inner) × (is_inside v.parent.dims inner ≡ true)
element_some v es is inner e = by (is_inside v.shape.dims is) e
  where
    n : List ℤ
    n = named_by v es is

    inside : (u : Bool) → is_inside v.parent.dims n ≡ u → (if u then Some n else None) ≡ Some inner → (Some n ≡ Some inner) × (is_inside v.parent.dims inner ≡ true)
    inside true f e = let same : n ≡ inner = cc in (e, ap (λ l. is_inside v.parent.dims l) (sym same) ∙ f)
    inside false f e = absurd cc

    by : (t : Bool) → (if t then inside_of v.parent.dims n else None) ≡ Some inner → ((if t then Some n else None) ≡ Some inner) × (is_inside v.parent.dims inner ≡ true)
    by true e = inside (is_inside v.parent.dims n) refl e
    by false e = absurd cc

element_none : (v : ViewMap) (es is inner : List ℤ) → view_through v es is ≡ Some inner → element_through v es is ≡ None → is_inside v.parent.dims inner ≡ false
element_none v es is inner e f = by (is_inside v.shape.dims is) e f
  where
    n : List ℤ
    n = named_by v es is

    outside : (u : Bool) → (if u then Some n else None) ≡ None → u ≡ false
    outside true f = absurd cc
    outside false f = refl

    by : (t : Bool) → (if t then Some n else None) ≡ Some inner → (if t then inside_of v.parent.dims n else None) ≡ None → is_inside v.parent.dims inner ≡ false
    by true e f = let same : n ≡ inner = cc in ap (λ l. is_inside v.parent.dims l) (sym same) ∙ outside (is_inside v.parent.dims n) f
    by false e f = absurd cc

-- what is out of range in the first view on the rest of a way, or in the memory, leads nowhere
outside_leads : (ss : List WayStep) (dims ds : List Dim) → ds ≡ next_dims ss dims → (inner os : List ℤ) → is_inside ds inner ≡ false → PassesTo dims (indices_through ss inner os) None
outside_leads [] dims ds e inner os h = ap (λ l. is_inside l inner) (sym e) ∙ h
outside_leads (s ∷ ss) dims ds e inner os h =
    subst (λ (b : Bool). PassesTo dims (where_inside (if b then Some (named_by s.is (take s.offsets os) inner) else None) (λ i. indices_through ss i (drop s.offsets os))) None)
    (sym (ap (λ l. is_inside l inner) (sym e) ∙ h)) tt

-- Views up to one.

pub record LinksSoFar (w : Sight) (dims : List Dim) (links : List ViewMap) (named : List ℤ) (offsets rest : List Operand) (i : ℕ) (index : Index) : Type 0 where
  pub same : indices_through (steps_of (drop i links)) (numbers_in index) (index_values w rest) ≡ indices_through (steps_of links) named (index_values w offsets)
  pub lead : StepsLead (steps_of (drop i links)) dims
  pub long : index.len ≡ length (next_dims (steps_of (drop i links)) dims)
  pub left : length rest ≡ offsets_on (steps_of (drop i links))
  pub operands : AllByRecursion IsValidOperand rest

pub links_first : (w : Sight) (dims : List Dim) (links : List ViewMap) (offsets : List Operand) (index : Index) → StepsLead (steps_of links) dims → index.len ≡ length (next_dims (steps_of links) dims)
    → length offsets ≡ offsets_on (steps_of links) → AllByRecursion IsValidOperand offsets → LinksSoFar w dims links (numbers_in index) offsets offsets 0 index
links_first w dims links offsets index lead long left operands = record { same = refl; lead = lead; long = long; left = left; operands = operands }

module _ (w : Sight) (dims : List Dim) (links : List ViewMap) (named : List ℤ) (offsets rest : List Operand) (i : ℕ) (index : Index) (link : ViewMap) (there : i < length links) (is : link ≡ get_or links i link)
    (h : LinksSoFar w dims links named offsets rest i index) where
  abbrev later : List WayStep
  later = steps_of (drop (suc i) links)

  abbrev left_values : List ℤ
  left_values = index_values w rest

  abbrev needed : ℕ
  needed = offsets_needed link.sort link.parent.dims

  split : drop i links ≡ link ∷ drop (suc i) links
  split = drop-cons links i link there ∙ ap (λ x. x ∷ drop (suc i) links) (sym is)

  lead_now : StepsLead (step_of link ∷ later) dims
  lead_now = subst (λ (l : List ViewMap). StepsLead (steps_of l) dims) split h.lead

  pub link_is : IsViewMap link
  link_is = lead_now.0

  pub index_long : index.len ≡ length link.shape.dims
  index_long = h.long ∙ ap (λ l. length (next_dims (steps_of l) dims)) split

  pub parent_few : length link.parent.dims ≤ 6
  parent_few = link_is.parent.few_dims

  left_now : length rest ≡ needed + offsets_on later
  left_now = h.left ∙ ap (λ l. offsets_on (steps_of l)) split

  pub enough : (count : ℕ) → count ≡ needed → count ≤ length rest
  enough count c = by (length rest) (offsets_on later) needed left_now c
    where
      by : (n r k : ℕ) → n ≡ k + r → count ≡ k → count ≤ n
      by n r k e f = omega (arith, e, f)

  module _ (count : ℕ) (own : List Operand) (offset : Index) (counted : count ≡ needed) (own_is : own ≡ take count rest)
      (through : (is : List ℤ) → element_through link (numbers_in offset) is ≡ element_through link (index_values w own) is) where
    taken_values : take needed left_values ≡ index_values w own
    taken_values = ap (λ k. take k left_values) (sym counted) ∙ (values_taken w rest count ∙ ap (λ l. index_values w l) (sym own_is))

    from_here : {o : Option (List ℤ)} → indices_through (step_of link ∷ later) (numbers_in index) left_values ≡ o → o ≡ indices_through (steps_of links) named (index_values w offsets)
    from_here e = sym e ∙ (ap (λ l. indices_through (steps_of l) (numbers_in index) left_values) (sym split) ∙ h.same)

    pub links_stop : None ≡ element_through link (numbers_in offset) (numbers_in index) → PassesTo dims (indices_through (steps_of links) named (index_values w offsets)) None
    links_stop none =
        subst (λ (o : Option (List ℤ)). PassesTo dims o None) (from_here refl)
        (subst (λ (l : List ℤ). PassesTo dims (where_inside (view_through link l (numbers_in index)) (λ inner. indices_through later inner (drop needed left_values))) None) (sym taken_values)
        (by (view_through link (index_values w own) (numbers_in index)) refl))
      where
        by : (o : Option (List ℤ)) → view_through link (index_values w own) (numbers_in index) ≡ o → PassesTo dims (where_inside o (λ inner. indices_through later inner (drop needed left_values))) None
        by None e = tt
        by (Some inner) e =
            outside_leads later dims link.parent.dims lead_now.1.0 inner (drop needed left_values)
            (element_none link (index_values w own) (numbers_in index) inner e (sym (through (numbers_in index)) ∙ sym none))

    pub links_turn : (next new : Index) (others : List Operand) → others ≡ drop count rest → Some (numbers_in next) ≡ element_through link (numbers_in offset) (numbers_in index)
        → (length (numbers_in next) ≡ length link.parent.dims → numbers_in new ≡ numbers_in next) → new.len ≡ length link.parent.dims → LinksSoFar w dims links named offsets others (suc i) new
    links_turn next new others others_are found trim new_long = record {
      same = ap (λ l. indices_through later l (index_values w others)) (trim (inside_long link.parent.dims (numbers_in next) some.1))
          ∙ (ap (λ l. indices_through later (numbers_in next) l) dropped ∙ from_here whole);
      lead = lead_now.1.1;
      long = new_long ∙ ap (λ (l : List Dim). length l) lead_now.1.0;
      left = by (length rest) (length others) needed (offsets_on later) (ap (λ (l : List Operand). length l) others_are ∙ length-drop count rest) left_now counted;
      operands = subst (λ (l : List Operand). AllByRecursion IsValidOperand l) (sym others_are) (all_dropped IsValidOperand rest count h.operands);
    }
      where
        some : (view_through link (index_values w own) (numbers_in index) ≡ Some (numbers_in next)) × (is_inside link.parent.dims (numbers_in next) ≡ true)
        some = element_some link (index_values w own) (numbers_in index) (numbers_in next) (sym (through (numbers_in index)) ∙ sym found)

        whole : indices_through (step_of link ∷ later) (numbers_in index) left_values ≡ indices_through later (numbers_in next) (drop needed left_values)
        whole = ap (λ o. where_inside o (λ inner. indices_through later inner (drop needed left_values))) (ap (λ l. view_through link l (numbers_in index)) taken_values ∙ some.0)

        dropped : index_values w others ≡ drop needed left_values
        dropped = ap (λ l. index_values w l) others_are ∙ (sym (values_dropped w rest count) ∙ ap (λ k. drop k left_values) counted)

        by : (n l k r : ℕ) → l ≡ n - count → n ≡ k + r → count ≡ k → l ≡ r
        by n l k r e f c = omega (arith, e, f, c)

pub links_end : (w : Sight) (dims : List Dim) (links : List ViewMap) (named : List ℤ) (offsets rest : List Operand) (i : ℕ) (index : Index) → length links ≤ i → LinksSoFar w dims links named offsets rest i index
    → PassesTo dims (indices_through (steps_of links) named (index_values w offsets)) (Some index)
links_end w dims links named offsets rest i index over h =
    let past = drop_past links i over in
    (sym h.same ∙ ap (λ l. indices_through (steps_of l) (numbers_in index) (index_values w rest)) past, h.long ∙ ap (λ l. length (next_dims (steps_of l) dims)) past)

-- What is located behind them.

pub named_few : (dims : List Dim) (steps : List WayStep) → StepsLead steps dims → length dims ≤ 6 → length (next_dims steps dims) ≤ 6
named_few dims [] h few = few
named_few dims (s ∷ ss) h few = h.0.own.few_dims

module _ (dims : List Dim) (steps : List WayStep) (count values : ℕ) (fits : StepsFit dims steps count values) where
  pub indices_within : count ≤ values
  indices_within = by (offsets_on steps) fits.all
    where
      by : (r : ℕ) → values ≡ count + r → count ≤ values
      by r e = omega (arith, e)

  pub offsets_behind : (n : ℕ) → n ≡ values - count → n ≡ offsets_on steps
  offsets_behind n e = by (offsets_on steps) fits.all
    where
      by : (r : ℕ) → values ≡ count + r → n ≡ r
      by r f = omega (arith, e, f)

  pub indices_few : length dims ≤ 6 → count ≤ 6
  indices_few few = by (length (next_dims steps dims)) fits.named (named_few dims steps fits.lead few)
    where
      by : (n : ℕ) → count ≡ n → n ≤ 6 → count ≤ 6
      by n e f = omega (arith, e, f)

module _ (w : Sight) (dims : List Dim) (links : List ViewMap) (count : ℕ) (operands firsts rest : List Operand) (named : Index) (first : firsts ≡ take count operands) (others : rest ≡ drop count operands) (is : numbers_in named ≡ index_values w firsts) where
  abbrev found : Option (List ℤ)
  found = indices_through (steps_of links) (numbers_in named) (index_values w rest)

  abbrev wanted : Option (List ℤ)
  wanted = indices_through (steps_of links) (take count (index_values w operands)) (drop count (index_values w operands))

  through_same : found ≡ wanted
  through_same =
      ap (λ l. indices_through (steps_of links) l (index_values w rest)) (is ∙ (ap (λ l. index_values w l) first ∙ sym (values_taken w operands count)))
      ∙ ap (λ l. indices_through (steps_of links) (take count (index_values w operands)) l) (ap (λ l. index_values w l) others ∙ sym (values_dropped w operands count))

  pub passed_long : (index : Index) (o : Option Index) → o ≡ Some index → PassesTo dims found o → index.len ≡ length dims
  passed_long index o some h = (subst (λ (x : Option Index). PassesTo dims found x) some h).1

  pub located_some : (index : Index) (o : Option Index) (r : Option Spread) → o ≡ Some index → PassesTo dims found o → Spreads dims (numbers_in index) r → SpreadsBehind dims wanted r
  located_some index o r some h s =
      let p = subst (λ (x : Option Index). PassesTo dims found x) some h in
      subst (λ (x : Option (List ℤ)). SpreadsBehind dims x r) (sym (sym through_same ∙ p.0)) s

  pub located_none : (o : Option Index) → o ≡ None → PassesTo dims found o → SpreadsBehind dims wanted None
  located_none o none h = subst (λ (x : Option (List ℤ)). SpreadsBehind dims x None) through_same (by found (subst (λ (x : Option Index). PassesTo dims found x) none h))
    where
      by : (x : Option (List ℤ)) → PassesTo dims x None → SpreadsBehind dims x None
      by None h = tt
      by (Some is) h = h

-- offsets are few
pub own_few : (v : ViewMap) (n : ℕ) → IsViewMap v → n ≡ offsets_needed v.sort v.parent.dims → n ≤ 6
own_few v n h e = by v.sort e
  where
    none : n ≡ 0 → n ≤ 6
    none e = omega (arith, e)

    by : (s : ViewSort) → n ≡ offsets_needed s v.parent.dims → n ≤ 6
    by Shrink e = none e
    by Split e = none e
    by Suffix e = subst (λ (k : ℕ). k ≤ 6) (sym e) h.parent.few_dims
    by Shift e = subst (λ (k : ℕ). k ≤ 6) (sym e) h.parent.few_dims
