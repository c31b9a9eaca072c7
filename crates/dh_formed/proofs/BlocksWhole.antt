-- A block whole. Kinds that are made stay as more are made, so an operation that takes earlier values has the kind that
-- all kinds of the block tell; and so it is with clocks.
use Rattle.std.proofs.Common.{◌≡◌, ℕ, zero, suc, ◌+◌, ◌-◌, ◌<◌, ◌≤◌, List, Some, refl, sym, ap, ◌∙◌, subst, arith, length, map, get_or}
use Rattle.std.specs.Prelude.{[], ◌∷◌, ◌++◌, max, slice_get, slice_index, Option}
use Rattle.std.specs.List.{AllByRecursion}
use Rattle.std.proofs.Math.Seq.{get_or-append_seam}
use Rattle.std.proofs.lemmas.List.{get_or_append_left, length-append}
use Rattle.dh_value.specs.declared.kinds.Kind.{Kind}
use Rattle.dh_value.specs.declared.kinds.Kind.TheVariants as kind
use Rattle.dh_value.specs.Operations.{result_of}
use Rattle.dh_tree.specs.declared.tables.MemEntry.{MemEntry}
use Rattle.dh_plan.specs.declared.operations.Operation.{Operation}
use Rattle.dh_plan.specs.declared.operations.OperationForm.{OperationForm}
use Rattle.dh_plan.specs.declared.operations.OperationForm.TheVariants.{Constant, Old, Compute, Convert, Select, Check, Probe, Read, Write, Set}
use Rattle.dh_plan.specs.LegalSchedules.{block_clocks, greatest_number, last_clock, least_clocks, needed_clock, there_at, there_from, value_clock}
use Rattle.dh_plan.specs.Ordered.{IsBetween, IsOrdered, TakesEarlier, form_takes, one_or_none, operation_takes}
use Rattle.dh_plan.specs.PlainPlans.{PlainPlan, first_in, operations_in}
use Rattle.dh_plan.specs.PlanKinds.{IsFormedBlock, form_kind, kind_of_value, kinds_behind, kinds_of}
use Rattle.dh_plan.proofs.LeastLegal.{map_same, needed_behind}
use Rattle.dh_plan.proofs.ValuesAlike.{all_map}
use Rattle.dh_expressions.specs.declared.drafts.Draft.{Draft}
use Rattle.dh_expressions.proofs.ListPlaces.{place_within, some_same, there}
use Rattle.dh_formed.specs.Formed.{Agrees, Forms, IsFormedAt, BlockSite}
use Rattle.dh_formed.specs.Timed.{AgreeInTime, BlockClocks, Within, clock_of}
use Rattle.dh_formed.specs.WholeBlocks.{BlocksAgree, BlocksAgreeInTime, BlocksAreFormed, BlocksHaveLengths, IsCut, block_of, least_clocks_of, there_of}

-- Places behind a list.

behind_place : {A : Type 0} (xs ys : List A) (n : ℕ) → length xs ≤ n → slice_get (xs ++ ys) n ≡ slice_get ys (n - length xs)
behind_place [] ys n far = ap (λ k. slice_get ys k) (same n)
  where
    same : (n : ℕ) → n ≡ n - 0
    same n = omega arith
behind_place (x ∷ xs) ys zero far = absurd (never (length xs) far)
  where
    never : (l : ℕ) → suc l ≤ 0 → ⊥
    never l h = omega (arith, h)
behind_place (x ∷ xs) ys (suc n) far = behind_place xs ys n (less (length xs) n far) ∙ ap (λ k. slice_get ys k) (same n (length xs))
  where
    less : (l n : ℕ) → suc l ≤ suc n → l ≤ n
    less l n h = omega (arith, h)

    same : (n l : ℕ) → n - l ≡ suc n - suc l
    same n l = omega arith

more_places : {A : Type 0} (xs : List A) (x : A) → length (xs ++ x ∷ []) ≡ suc (length xs)
more_places [] x = refl
more_places (y ∷ xs) x = ap suc (more_places xs x)

all_right : {A : Type 0} (P : A → Type 0) (xs ys : List A) → AllByRecursion P (xs ++ ys) → AllByRecursion P ys
all_right P [] ys h = h
all_right P (x ∷ xs) ys h = all_right P xs ys h.1

-- Kinds.
module _ (table : List MemEntry) (registers : List Kind) (first : ℕ) where
  kind_stays : (os : List Operation) (before : List Kind) (i : ℕ) → i < length before → get_or (kinds_behind table registers first before os) i kind.Bool ≡ get_or before i kind.Bool
  kind_stays [] before i h = refl
  kind_stays (o ∷ os) before i h =
      let k = form_kind table registers first before o.form in
      let l = more_places before k in
      kind_stays os (before ++ k ∷ []) i (omega (arith, h, l)) ∙ get_or_append_left before (k ∷ []) kind.Bool i h

  -- the kind of a form is by those of what it takes
  form_same : (before final : List Kind) (f : OperationForm) → AllByRecursion (λ n. kind_of_value first before n ≡ kind_of_value first final n) (form_takes f)
      → form_kind table registers first before f ≡ form_kind table registers first final f
  form_same before final (Constant word) h = refl
  form_same before final (Old register) h = refl
  form_same before final (Compute o left right) h = ap (λ k. result_of o k) h.0
  form_same before final (Convert inner to) h = refl
  form_same before final (Select test a b) h = h.1.0
  form_same before final (Check ok fault) h = refl
  form_same before final (Probe r fault) h = refl
  form_same before final (Read r) h = refl
  form_same before final (Write r value) h = refl
  form_same before final (Set register value) h = refl

  kind_here : (os : List Operation) (before : List Kind) (p : Operation) → TakesEarlier first (first + length before) p
      → get_or (kinds_behind table registers first before (p ∷ os)) (length before) kind.Bool ≡ form_kind table registers first (kinds_behind table registers first before (p ∷ os)) p.form
  kind_here os before p takes =
      let k = form_kind table registers first before p.form in
      let l = more_places before k in
      kind_stays os (before ++ k ∷ []) (length before) (omega (arith, l))
      ∙ (get_or-append_seam before k [] kind.Bool
      ∙ form_same before (kinds_behind table registers first before (p ∷ os)) p.form
      (all_right _ (one_or_none p.guard) (form_takes p.form)
      (all_map (IsBetween first (first + length before)) (λ n. kind_of_value first before n ≡ kind_of_value first (kinds_behind table registers first before (p ∷ os)) n) (operation_takes p)
      (λ n b. sym (kind_stays (p ∷ os) before (n - first) (omega (arith, b)))) takes)))

  kinds_at : (os : List Operation) (before : List Kind) (i : ℕ) (o : Operation) → slice_get os i ≡ Some o → TakesEarlier first (first + (length before + i)) o
      → get_or (kinds_behind table registers first before os) (length before + i) kind.Bool ≡ form_kind table registers first (kinds_behind table registers first before os) o.form
  kinds_at [] before i o e takes = absurd (cc)
  kinds_at (p ∷ os) before zero o e takes =
      let same : p ≡ o = some_same p o e in
      let none : length before + 0 ≡ length before = omega arith in
      subst (λ (q : Operation). get_or (kinds_behind table registers first before (p ∷ os)) (length before + 0) kind.Bool ≡ form_kind table registers first (kinds_behind table registers first before (p ∷ os)) q.form) same
      (subst (λ (n : ℕ). get_or (kinds_behind table registers first before (p ∷ os)) n kind.Bool ≡ form_kind table registers first (kinds_behind table registers first before (p ∷ os)) p.form) (sym none)
      (kind_here os before p (subst (λ (q : Operation). TakesEarlier first (first + length before) q) (sym same) (subst (λ (n : ℕ). TakesEarlier first (first + n) o) none takes))))
  kinds_at (p ∷ os) before (suc i) o e takes =
      let k = form_kind table registers first before p.form in
      let moved : length (before ++ k ∷ []) + i ≡ length before + suc i = let l = more_places before k in omega (arith, l) in
      subst (λ (n : ℕ). get_or (kinds_behind table registers first before (p ∷ os)) n kind.Bool ≡ form_kind table registers first (kinds_behind table registers first before (p ∷ os)) o.form) moved
      (kinds_at os (before ++ k ∷ []) i o e (subst (λ (n : ℕ). TakesEarlier first (first + n) o) (sym moved) takes))

-- Operations of a block by their numbers.
module _ (plan : PlainPlan) (block : ℕ) (old new : Draft) (cut : IsCut plan block old new) where
  cut_place : (n : ℕ) → first_in plan block ≤ n → slice_get new.operations.items n ≡ slice_get (operations_in plan block) (n - first_in plan block)
  cut_place n from =
      ap (λ (os : List Operation). slice_get os n) cut.operations
      ∙ (behind_place old.operations.items (operations_in plan block) n (subst (λ (k : ℕ). k ≤ n) cut.first from) ∙ ap (λ k. slice_get (operations_in plan block) (n - k)) (sym cut.first))

  number_of : (n : ℕ) → first_in plan block ≤ n → n ≡ first_in plan block + (n - first_in plan block)
  number_of n from = omega (arith, from)

  number_from : (n : ℕ) → first_in plan block ≤ n → n ≡ first_in plan block + (0 + (n - first_in plan block))
  number_from n from = omega (arith, from)

  none_before : (k : ℕ) → k ≡ 0 + k
  none_before k = omega arith

  agrees_whole : (sites : ℕ → Option BlockSite) → Agrees (block_of plan block sites) new
  agrees_whole sites = record {
    kinds = λ n o from at takes.
        ap (λ k. get_or (kinds_of plan block) k kind.Bool) (none_before (n - first_in plan block))
        ∙ kinds_at plan.table plan.registers (first_in plan block) (operations_in plan block) [] (n - first_in plan block) o (sym (cut_place n from) ∙ at)
        (subst (λ (m : ℕ). TakesEarlier (first_in plan block) m o) (number_from n from) takes);
    faults = cut.faults;
    few = cut.few;
  }

  place_of : (i : ℕ) (o : Operation) → slice_get (operations_in plan block) i ≡ Some o → slice_get new.operations.items (first_in plan block + i) ≡ Some o
  place_of i o at = cut_place (first_in plan block + i) (far (first_in plan block)) ∙ (ap (λ k. slice_get (operations_in plan block) k) (back (first_in plan block)) ∙ at)
    where
      far : (f : ℕ) → f ≤ f + i
      far f = omega arith

      back : (f : ℕ) → f + i - f ≡ i
      back f = omega arith

  formed_at : (sites : ℕ → Option BlockSite) → Forms (block_of plan block sites) old new → (i : ℕ) (o : Operation) → slice_get (operations_in plan block) i ≡ Some o → IsFormedAt (block_of plan block sites) (first_in plan block + i) o
  formed_at sites f i o at = f.each (first_in plan block + i) o (far (first_in plan block) (length old.operations.items) cut.first) (place_of i o at)
    where
      far : (f l : ℕ) → f ≡ l → l ≤ f + i
      far f l e = omega (arith, e)

  formed_whole : (sites : ℕ → Option BlockSite) → Forms (block_of plan block sites) old new → IsFormedBlock plan block
  formed_whole sites f = record {
    ordered = record { each = λ i o at. (formed_at sites f i o at).takes };
    suits = λ i o at. (formed_at sites f i o at).suits;
  }

-- Clocks.

clocks_long : (first : ℕ) (rest before : List Operation) (clocks : List ℕ) → length (least_clocks first before clocks rest) ≡ length clocks + length rest
clocks_long first [] before clocks = none (length clocks)
  where
    none : (n : ℕ) → n ≡ n + 0
    none n = omega arith
clocks_long first (o ∷ rest) before clocks =
    let c = needed_clock first before clocks o in
    let l = more_places clocks c in
    clocks_long first rest (before ++ o ∷ []) (clocks ++ c ∷ []) ∙ moved (length (clocks ++ c ∷ [])) (length clocks) (length rest) l
  where
    moved : (m l r : ℕ) → m ≡ suc l → m + r ≡ l + suc r
    moved m l r e = omega (arith, e)

there_at_place : (os : List Operation) (cs : List ℕ) (i : ℕ) (o : Operation) → i < length cs → slice_get os i ≡ Some o → slice_index (there_of os cs) i ≡ there_at o.form (slice_index cs i)
there_at_place [] cs i o less e = absurd (cc)
there_at_place (p ∷ os) [] i o less e = absurd (never i less)
  where
    never : (i : ℕ) → i < 0 → ⊥
    never i h = omega (arith, h)
there_at_place (p ∷ os) (c ∷ cs) zero o less e = ap (λ (q : Operation). there_at q.form c) (some_same p o e)
there_at_place (p ∷ os) (c ∷ cs) (suc i) o less e = there_at_place os cs i o (fewer i (length cs) less) e
  where
    fewer : (i l : ℕ) → suc i < suc l → i < l
    fewer i l h = omega (arith, h)

module _ (plan : PlainPlan) (block : ℕ) (sites : ℕ → Option BlockSite) (reads outer : ℕ → ℕ) (old new : Draft) (cut : IsCut plan block old new) where
  abbrev os : List Operation
  os = operations_in plan block

  abbrev first : ℕ
  first = first_in plan block

  abbrev cs : List ℕ
  cs = least_clocks first [] [] os

  abbrev own : BlockClocks
  own = least_clocks_of plan block sites reads outer

  all_long : length cs ≡ length os
  all_long = clocks_long first os [] [] ∙ none (length os)
    where
      none : (n : ℕ) → 0 + n ≡ n
      none n = omega arith

  clock_at : (i : ℕ) (o : Operation) → slice_get os i ≡ Some o → slice_index (there_of os cs) i ≡ there_at o.form (slice_index cs i)
  clock_at i o e = there_at_place os cs i o (subst (λ (l : ℕ). i < l) (sym all_long) (place_within os i o e)) e

  value_is : (i n : ℕ) → i ≤ length os → IsBetween first (first + i) n → value_clock first os cs n ≡ clock_of own n
  value_is i n few between = by (there os (n - first) (less (length os) between.0 between.1))
    where
      less : (l : ℕ) → first ≤ n → n < first + i → n - first < length os
      less l from below = let f = few in omega (arith, from, below, f)

      by : (o : Operation) × (slice_get os (n - first) ≡ Some o) → value_clock first os cs n ≡ clock_of own n
      by (o, at) = ap (λ (p : Option Operation). there_from p (slice_index cs (n - first))) at ∙ sym (clock_at (n - first) o at)

  pub agree_whole : IsOrdered first os → AgreeInTime own new
  agree_whole ordered = record {
    each = λ n o from at.
        let here = sym (cut_place plan block old new cut n from) ∙ at in
        clock_at (n - first) o here ∙ ap (λ k. there_at o.form k) (needed (n - first) o here);
  }
    where
      needed : (i : ℕ) (o : Operation) → slice_get os i ≡ Some o → slice_index cs i ≡ greatest_number (map (clock_of own) (operation_takes o))
      needed i o at =
          sym (subst (λ (k : ℕ). needed_clock first os cs o ≡ get_or cs k 0) (none i) (needed_behind first os [] [] refl (λ k p there. subst (λ (n : ℕ). TakesEarlier first (first + n) p) (sym (none k)) (ordered.each k p there)) i o at))
          ∙ ap greatest_number (map_same (value_clock first os cs) (clock_of own) (operation_takes o)
          (all_map (IsBetween first (first + i)) (λ n. value_clock first os cs n ≡ clock_of own n) (operation_takes o) (λ n b. value_is i n (let w = place_within os i o at in omega (arith, w)) b) (ordered.each i o at)))
        where
          none : (k : ℕ) → 0 + k ≡ k
          none k = omega arith

  -- the greatest of clocks
  last_most : (ps : List Operation) (ds : List ℕ) (k : ℕ) → length ds ≡ length ps → ((i : ℕ) → i < length ps → slice_index (there_of ps ds) i ≤ k) → last_clock ps ds ≤ k
  last_most [] ds k long all = omega arith
  last_most (p ∷ ps) [] k long all = omega arith
  last_most (p ∷ ps) (d ∷ ds) k long all = join (there_at p.form d) (last_clock ps ds) (all 0 (some (length ps))) (last_most ps ds k (same (length ds) (length ps) long) (λ i less. all (suc i) (more i (length ps) less)))
    where
      some : (l : ℕ) → 0 < suc l
      some l = omega arith

      same : (m n : ℕ) → suc m ≡ suc n → m ≡ n
      same m n e = omega (arith, e)

      more : (i l : ℕ) → i < l → suc i < suc l
      more i l h = omega (arith, h)

      join : (a b : ℕ) → a ≤ k → b ≤ k → max a b ≤ k
      join a b e f = omega (arith, e, f)

  last_each : (ps : List Operation) (ds : List ℕ) (i : ℕ) → length ds ≡ length ps → i < length ps → slice_index (there_of ps ds) i ≤ last_clock ps ds
  last_each [] ds i long less = absurd (never i less)
    where
      never : (i : ℕ) → i < 0 → ⊥
      never i h = omega (arith, h)
  last_each (p ∷ ps) [] i long less = absurd (never (length ps) long)
    where
      never : (l : ℕ) → 0 ≡ suc l → ⊥
      never l h = omega (arith, h)
  last_each (p ∷ ps) (d ∷ ds) zero long less = omega arith
  last_each (p ∷ ps) (d ∷ ds) (suc i) long less = grown (last_each ps ds i (same (length ds) (length ps) long) (fewer i (length ps) less))
    where
      same : (m n : ℕ) → suc m ≡ suc n → m ≡ n
      same m n e = omega (arith, e)

      fewer : (i l : ℕ) → suc i < suc l → i < l
      fewer i l h = omega (arith, h)

      grown : slice_index (there_of ps ds) i ≤ last_clock ps ds → slice_index (there_of ps ds) i ≤ max (there_at p.form d) (last_clock ps ds)
      grown h = omega (arith, h)

  new_long : length new.operations.items ≡ length old.operations.items + length os
  new_long = ap (λ (ps : List Operation). length ps) cut.operations ∙ length-append old.operations.items os

  pub lengths_most : (k : ℕ) → Within own old new k → block_clocks plan block ≤ suc k
  lengths_most k within = up (last_clock os cs) (last_most os cs k all_long (λ i less. here i less))
    where
      up : (l : ℕ) → l ≤ k → suc l ≤ suc k
      up l h = omega (arith, h)

      here : (i : ℕ) → i < length os → slice_index (there_of os cs) i ≤ k
      here i less =
          subst (λ (m : ℕ). slice_index (there_of os cs) m ≤ k) (back first) (within (first + i) (far first (length old.operations.items) cut.first) (near first (length old.operations.items) (length new.operations.items) (length os) cut.first new_long less))
        where
          back : (f : ℕ) → f + i - f ≡ i
          back f = omega arith

          far : (f l : ℕ) → f ≡ l → l ≤ f + i
          far f l e = omega (arith, e)

          near : (f l n w : ℕ) → f ≡ l → n ≡ l + w → i < w → f + i < n
          near f l n w e g h = omega (arith, e, g, h)

  pub lengths_least : (n : ℕ) → length old.operations.items ≤ n → n < length new.operations.items → suc (clock_of own n) ≤ block_clocks plan block
  lengths_least n far less =
      let h = last_each os cs (n - first) all_long (near first (length old.operations.items) (length new.operations.items) (length os) cut.first new_long far less) in up (clock_of own n) (last_clock os cs) h
    where
      near : (f l m w : ℕ) → f ≡ l → m ≡ l + w → l ≤ n → n < m → n - f < w
      near f l m w e g h i = omega (arith, e, g, h, i)

      up : (a b : ℕ) → a ≤ b → suc a ≤ suc b
      up a b h = omega (arith, h)

-- The laws.

pub blocks_agree : BlocksAgree
blocks_agree plan block sites old new cut = (agrees_whole plan block old new cut sites, begun (first_in plan block) (length old.operations.items) cut.first)
  where
    begun : (f l : ℕ) → f ≡ l → f ≤ l
    begun f l e = omega (arith, e)

pub blocks_are_formed : BlocksAreFormed
blocks_are_formed plan block sites old new cut f = formed_whole plan block old new cut sites f

pub blocks_agree_in_time : BlocksAgreeInTime
blocks_agree_in_time plan block sites reads outer old new cut ordered = (agree_whole plan block sites reads outer old new cut ordered, begun (first_in plan block) (length old.operations.items) cut.first)
  where
    begun : (f l : ℕ) → f ≡ l → f ≤ l
    begun f l e = omega (arith, e)

pub blocks_have_lengths : BlocksHaveLengths
blocks_have_lengths plan block sites reads outer old new cut = record {
  most = λ k within. lengths_most plan block sites reads outer old new cut k within;
  least = λ n far less. lengths_least plan block sites reads outer old new cut n far less;
}
