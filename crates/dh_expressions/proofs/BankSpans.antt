-- The bank by spans, in 64 bits. A product and a sum that are capped on the way are capped once: where a factor is
-- over the cap, the product is over it or 0.
use Rattle.std.proofs.Common.{◌≡◌, ℕ, zero, suc, ◌+◌, ◌-◌, ◌*◌, ◌%◌, ◌^◌, ◌<◌, ◌≤◌, ◌⊎◌, inl, inr, ⊎_elim, Bool, true, false, List, [], ◌∷◌, ◌++◌, Some, None, refl, sym, ap, ◌∙◌, subst, arith, length, drop, get_or, map, pos, ◌+ℤ◌, unsigned_abs, ℤ}
use Rattle.std.specs.Prelude.{if◌then◌else◌, min, option_map, slice_get, Option}
use Rattle.std.proofs.lemmas.Bool.{cases_Bool, cases_lt, eqb-true}
use Rattle.std.proofs.lemmas.Int.{ints}
use Rattle.std.proofs.lemmas.Option.{get_or_from_slice_get, slice_get_past, slice_get-map}
use Rattle.std.proofs.Math.Nat.{mod-zero, mod-lt}
use Rattle.std.proofs.Math.Seq.{drop-cons}
use Rattle.dh_code.proofs.Ranges.{drop_past}
use Rattle.dh_tree.specs.declared.tables.Dim.{Dim}
use Rattle.dh_tree.specs.declared.trees.counters.Counter.{Counter}
use Rattle.dh_tree.specs.declared.trees.expressions.Ref.{Ref}
use Rattle.dh_tree.specs.Counters.{counter_in, counters_of}
use Rattle.dh_tree.specs.Elements.{bank_of, banks_of, dims_at}
use Rattle.dh_tree.specs.Indices as indices
use Rattle.dh_tree.specs.Indices.{constant, iterator, dynamic}
use Rattle.dh_tree.specs.Memories.{same_entity, table_of}
use Rattle.dh_tree.specs.PlainTrees.{Term, TermForm, accessed}
use Rattle.dh_tree.specs.Seen.{program_seen, terms}
use Rattle.dh_meaning.specs.CoreOf.{dims_by, way_of}
use Rattle.dh_shape.specs.Classified.{Classifies}
use Rattle.dh_shape.specs.declared.indices.IndexKind.{IndexKind}
use Rattle.dh_shape.specs.declared.indices.IndexKind.TheVariants as kinds
use Rattle.dh_expressions.specs.declared.banks.BankSpan.{BankSpan}
use Rattle.dh_expressions.specs.declared.paths.Level.{Level}
use Rattle.dh_expressions.specs.declared.scenes.Scene.{Scene}
use Rattle.dh_expressions.specs.Levels.{copy_to}
use Rattle.dh_expressions.specs.Named.{known_in, way_named}
use Rattle.dh_expressions.specs.ReachedBanks.{AddsSpan, IsSpan, TellsBank, TellsSpans, bank_added, bank_by, index_first, indices_first, level_with, span_bank, span_index, spans_bank, spans_number, term_first}
use Rattle.dh_expressions.proofs.ListPlaces.{place_within, some_same, there}

-- Caps.

-- a product of a capped number
cap_product : (x t most : ℕ) → min (min x most * t) most ≡ min (x * t) most
cap_product x zero most = none x most
  where
    none : (x most : ℕ) → min (min x most * 0) most ≡ min (x * 0) most
    none x most = omega arith
cap_product x (suc t) most = ⊎_elim (λ small. ap (λ n. min (n * suc t) most) (let e : min x most ≡ x = omega (arith, small) in e)) (λ large. over large) (cases_lt x most)
  where
    above : (n m : ℕ) → m ≤ n → m ≤ n * suc t
    above n m e = omega (arith, e)

    over : most ≤ x → min (min x most * suc t) most ≡ min (x * suc t) most
    over large =
        let first = above most most (omega arith) in
        let second = above x most large in
        let e : min x most ≡ most = omega (arith, large) in
        ap (λ n. min (n * suc t) most) e ∙ omega (arith, first, second)

-- a sum so far with a product more
pub cap_more : (bank own x t rest whole most : ℕ) → own ≡ min x most → min (bank + (x * t + rest)) most ≡ whole → min (min (bank + min (own * t) most) most + rest) most ≡ whole
cap_more bank own x t rest whole most is e =
    ap (λ p. min (min (bank + p) most + rest) most) (ap (λ o. min (o * t) most) is ∙ cap_product x t most) ∙ (sums bank (x * t) rest most ∙ e)
  where
    sums : (a p r most : ℕ) → min (min (a + min p most) most + r) most ≡ min (a + (p + r)) most
    sums a p r most = grind arith

pub bank_more : (spans : List BankSpan) (levels : List Level) (path bank own next i whole : ℕ) (d : BankSpan) → i < length spans → own ≡ min (span_bank (get_or spans i d) levels path) (2 ^ 64 - 1)
    → next ≡ min (bank + min (own * (get_or spans i d).times) (2 ^ 64 - 1)) (2 ^ 64 - 1)
    → min (bank + spans_bank (drop i spans) levels path) (2 ^ 64 - 1) ≡ whole → min (next + spans_bank (drop (i + 1) spans) levels path) (2 ^ 64 - 1) ≡ whole
bank_more spans levels path bank own next i whole d within is sum e =
    ap (λ n. min (n + spans_bank (drop (i + 1) spans) levels path) (2 ^ 64 - 1)) sum
    ∙ cap_more bank own (span_bank (get_or spans i d) levels path) (get_or spans i d).times (spans_bank (drop (i + 1) spans) levels path) whole (2 ^ 64 - 1) is
    (sym (ap (λ (ss : List BankSpan). min (bank + spans_bank ss levels path) (2 ^ 64 - 1)) split) ∙ e)
  where
    split : drop i spans ≡ get_or spans i d ∷ drop (i + 1) spans
    split = drop-cons spans i d within ∙ ap (λ (n : ℕ). get_or spans i d ∷ drop n spans) (let e : suc i ≡ i + 1 = omega arith in e)

pub bank_last : (spans : List BankSpan) (levels : List Level) (path bank i total : ℕ) → length spans ≤ i → min (bank + spans_bank (drop i spans) levels path) (2 ^ 64 - 1) ≡ min total (2 ^ 64 - 1)
    → min bank (2 ^ 32 - 1) ≡ min total (2 ^ 32 - 1)
bank_last spans levels path bank i total past e = last bank total (ap (λ (ss : List BankSpan). min (bank + spans_bank ss levels path) (2 ^ 64 - 1)) (sym (drop_past spans i past)) ∙ e)
  where
    last : (a b : ℕ) → min (a + 0) (2 ^ 64 - 1) ≡ min b (2 ^ 64 - 1) → min a (2 ^ 32 - 1) ≡ min b (2 ^ 32 - 1)
    last a b e = omega (arith, e)

pub residue_none : (size banks : ℕ) → banks ≡ 0 → min size (2 ^ 64 - 1) ≡ min (size % banks) (2 ^ 64 - 1)
residue_none size banks none = ap (λ n. min n (2 ^ 64 - 1)) (sym (mod-zero size) ∙ ap (λ b. size % b) (sym none))

pub residue_some : (size banks : ℕ) → (banks ≡ 0 → ⊥) → banks < 2 ^ 64 → size % banks ≡ min (size % banks) (2 ^ 64 - 1)
residue_some size banks some few = let small = mod-lt size (positive banks some) in omega (arith, small, few)
  where
    positive : (b : ℕ) → (b ≡ 0 → ⊥) → 0 < b
    positive b some = omega (arith, some)

-- Spans.

-- which kind of index an answer is
abbrev kind_counted : Option Counter → (offset : ℤ) → indices.IndexKind
kind_counted None offset = dynamic
kind_counted (Some c) offset = iterator c offset

abbrev kind_answered : List Counter → IndexKind → indices.IndexKind
kind_answered cs (kinds.Constant v) = constant v
kind_answered cs (kinds.Iterator entity o) = kind_counted (counter_in cs (Some entity)) o
kind_answered cs kinds.Dynamic = dynamic

answered : (cs : List Counter) (k : indices.IndexKind) (answer : IndexKind) → Classifies cs k answer → k ≡ kind_answered cs answer
answered cs (constant z) (kinds.Constant v) h = ap constant (sym h)
answered cs (constant z) (kinds.Iterator entity o) h = absurd h
answered cs (constant z) kinds.Dynamic h = absurd h
answered cs (iterator c offset) (kinds.Constant v) h = absurd h
answered cs (iterator c offset) (kinds.Iterator entity o) h = ap (λ p. iterator c p) (sym h.1) ∙ sym (ap (λ f. kind_counted f o) h.0)
answered cs (iterator c offset) kinds.Dynamic h = absurd h
answered cs dynamic (kinds.Constant v) h = absurd h
answered cs dynamic (kinds.Iterator entity o) h = absurd h
answered cs dynamic kinds.Dynamic h = refl

none_added : (v : ℤ) → pos (0 + 0) +ℤ v ≡ v
none_added v = omega (arith, ints)

abbrev fixed_at : (n banks times : ℕ) → ℤ → BankSpan
fixed_at n banks times w = record { banks = banks; times = times; low = 0; offset = w; level = n }

fixed_index : (levels : List Level) (n banks times path : ℕ) (w : ℤ) → n ≡ length levels → span_index (fixed_at n banks times w) levels path ≡ unsigned_abs w
fixed_index levels n banks times path w is =
    ap (λ o. unsigned_abs (pos (0 + copy_to o path) +ℤ w)) (ap (λ m. slice_get levels m) is ∙ slice_get_past levels (length levels) (omega arith)) ∙ ap unsigned_abs (none_added w)

pub span_constant : (cs : List Counter) (levels : List Level) (k : indices.IndexKind) (answer : IndexKind) (v w : ℤ) (n banks times : ℕ) → Classifies cs k answer → answer ≡ kinds.Constant v → w ≡ v → n ≡ length levels
    → IsSpan levels k banks times (record { banks = banks; times = times; low = 0; offset = w; level = n })
span_constant cs levels k answer v w n banks times h e same is = record {
  banks_is = refl;
  times_is = refl;
  index_is = λ path. fixed_index levels n banks times path w is ∙ (ap unsigned_abs same ∙ sym (ap (λ j. index_first levels path j) (answered cs k answer h ∙ ap (kind_answered cs) e)));
}

pub span_dynamic : (cs : List Counter) (levels : List Level) (k : indices.IndexKind) (answer : IndexKind) (w : ℤ) (n banks times : ℕ) → Classifies cs k answer → answer ≡ kinds.Dynamic → w ≡ pos 0 → n ≡ length levels
    → IsSpan levels k banks times (record { banks = banks; times = times; low = 0; offset = w; level = n })
span_dynamic cs levels k answer w n banks times h e same is = record {
  banks_is = refl;
  times_is = refl;
  index_is = λ path. fixed_index levels n banks times path w is ∙ (ap unsigned_abs same ∙ sym (ap (λ j. index_first levels path j) (answered cs k answer h ∙ ap (kind_answered cs) e)));
}

pub span_lost : (cs : List Counter) (levels : List Level) (k : indices.IndexKind) (answer : IndexKind) (entity : ℕ) (o w : ℤ) (n banks times : ℕ) → Classifies cs k answer → answer ≡ kinds.Iterator entity o
    → counter_in cs (Some entity) ≡ None → w ≡ pos 0 → n ≡ length levels → IsSpan levels k banks times (record { banks = banks; times = times; low = 0; offset = w; level = n })
span_lost cs levels k answer entity o w n banks times h e lost same is = record {
  banks_is = refl;
  times_is = refl;
  index_is = λ path.
      fixed_index levels n banks times path w is
      ∙ (ap unsigned_abs same ∙ sym (ap (λ j. index_first levels path j) (answered cs k answer h ∙ (ap (kind_answered cs) e ∙ ap (λ f. kind_counted f o) lost))));
}

-- a loop that is found has the entity
counter_entity : (cs : List Counter) (e : ℕ) (c : Counter) → counter_in cs (Some e) ≡ Some c → c.entity ≡ Some e
counter_entity [] e c f = absurd (cc)
counter_entity (x ∷ cs) e c f = by (cases_Bool (same_entity x.entity (Some e))) (counter_entity cs e c)
  where
    named_by : (o : Option ℕ) → same_entity o (Some e) ≡ true → o ≡ Some e
    named_by None g = absurd (cc)
    named_by (Some n) g = ap (λ y. Some y) (eqb-true n e g)

    by : (same_entity x.entity (Some e) ≡ true) ⊎ (same_entity x.entity (Some e) ≡ false) → (counter_in cs (Some e) ≡ Some c → c.entity ≡ Some e) → c.entity ≡ Some e
    by (inl t) further =
        let found : x ≡ c = some_same x c (sym (ap (λ b. if b then Some x else counter_in cs (Some e)) t) ∙ f) in
        ap (λ (y : Counter). y.entity) (sym found) ∙ named_by x.entity t
    by (inr t) further = further (sym (ap (λ b. if b then Some x else counter_in cs (Some e)) t) ∙ f)

pub span_iterator : (cs : List Counter) (levels : List Level) (k : indices.IndexKind) (answer : IndexKind) (entity : ℕ) (o w : ℤ) (c : Counter) (n banks times : ℕ) → Classifies cs k answer → answer ≡ kinds.Iterator entity o
    → counter_in cs (Some entity) ≡ Some c → w ≡ o → n ≡ level_with levels (Some entity) → IsSpan levels k banks times (record { banks = banks; times = times; low = c.low; offset = w; level = n })
span_iterator cs levels k answer entity o w c n banks times h e found same is = record {
  banks_is = refl;
  times_is = refl;
  index_is = λ path.
      ap (λ z. unsigned_abs (pos (c.low + copy_to (slice_get levels n) path) +ℤ z)) same
      ∙ (ap (λ m. unsigned_abs (pos (c.low + copy_to (slice_get levels m) path) +ℤ o)) (is ∙ ap (λ en. level_with levels en) (sym (counter_entity cs entity c found)))
      ∙ sym (ap (λ j. index_first levels path j) (answered cs k answer h ∙ (ap (kind_answered cs) e ∙ ap (λ f. kind_counted f o) found))));
}

-- the loop of an iterator
pub level_here : (levels : List Level) (entity i whole : ℕ) (d : Level) (t : Bool) → i < length levels → t ≡ same_entity (get_or levels i d).entity (Some entity) → t ≡ true
    → i + level_with (drop i levels) (Some entity) ≡ whole → i ≡ whole
level_here levels entity i whole d t within is here e =
    own ∙ e
  where
    first : level_with (get_or levels i d ∷ drop (suc i) levels) (Some entity) ≡ 0
    first = ap (λ b. if b then 0 else level_with (drop (suc i) levels) (Some entity) + 1) (sym is ∙ here)

    own : i ≡ i + level_with (drop i levels) (Some entity)
    own = let z : level_with (drop i levels) (Some entity) ≡ 0 = ap (λ ls. level_with ls (Some entity)) (drop-cons levels i d within) ∙ first in omega (arith, z)

pub level_further : (levels : List Level) (entity i whole : ℕ) (d : Level) (t : Bool) → i < length levels → t ≡ same_entity (get_or levels i d).entity (Some entity) → t ≡ false
    → i + level_with (drop i levels) (Some entity) ≡ whole → i + 1 + level_with (drop (i + 1) levels) (Some entity) ≡ whole
level_further levels entity i whole d t within is other e =
    let z : level_with (drop i levels) (Some entity) ≡ level_with (drop (i + 1) levels) (Some entity) + 1 = ap (λ ls. level_with ls (Some entity)) (drop-cons levels i d within) ∙ (first ∙ ap (λ (m : ℕ). level_with (drop m levels) (Some entity) + 1) (let s : suc i ≡ i + 1 = omega arith in s)) in
    omega (arith, z, e)
  where
    first : level_with (get_or levels i d ∷ drop (suc i) levels) (Some entity) ≡ level_with (drop (suc i) levels) (Some entity) + 1
    first = ap (λ b. if b then 0 else level_with (drop (suc i) levels) (Some entity) + 1) (sym is ∙ other)

pub level_last : (levels : List Level) (entity i whole : ℕ) → length levels ≤ i → i ≤ length levels → i + level_with (drop i levels) (Some entity) ≡ whole → length levels ≡ whole
level_last levels entity i whole past few e = let z : level_with (drop i levels) (Some entity) ≡ 0 = ap (λ ls. level_with ls (Some entity)) (drop_past levels i past) in omega (arith, z, e, past, few)

-- Sums of spans.

spans_behind : (spans : List BankSpan) (s : BankSpan) (levels : List Level) (path : ℕ) → spans_bank (spans ++ s ∷ []) levels path ≡ spans_bank spans levels path + span_bank s levels path * s.times
spans_behind [] s levels path = omega arith
spans_behind (r ∷ spans) s levels path =
    let e = spans_behind spans s levels path in
    ap (λ n. span_bank r levels path * r.times + n) e ∙ sums (span_bank r levels path * r.times) (spans_bank spans levels path) (span_bank s levels path * s.times)
  where
    sums : (a b c : ℕ) → a + (b + c) ≡ a + b + c
    sums a b c = omega arith

pub span_added : (scene : Scene) (levels : List Level) (banks times : ℕ) (t : Term) (kind : indices.IndexKind) (old new : List BankSpan) (s : BankSpan)
    → ((path : ℕ) → index_first levels path kind ≡ term_first (counters_of (program_seen scene.program.now)) levels path t) → IsSpan levels kind banks times s → new ≡ old ++ s ∷ []
    → AddsSpan scene levels banks times (Some t) old new
span_added scene levels banks times t kind old new s same is added = λ path.
    ap (λ ss. spans_bank ss levels path) added
    ∙ (spans_behind old s levels path
    ∙ (ap (λ n. spans_bank old levels path + (n % s.banks) * s.times) (is.index_is path ∙ same path)
    ∙ (ap (λ b. spans_bank old levels path + (term_first (counters_of (program_seen scene.program.now)) levels path t % b) * s.times) is.banks_is
    ∙ ap (λ m. spans_bank old levels path + (term_first (counters_of (program_seen scene.program.now)) levels path t % banks) * m) is.times_is)))

pub span_left_out : (scene : Scene) (levels : List Level) (banks times : ℕ) (t : Term) (spans : List BankSpan) → banks ≡ 1 → AddsSpan scene levels banks times (Some t) spans spans
span_left_out scene levels banks times t spans one = λ path.
    none (spans_bank spans levels path) times ∙ ap (λ m. spans_bank spans levels path + m * times) (sym (ap (λ b. term_first (counters_of (program_seen scene.program.now)) levels path t % b) one ∙ nothing (term_first (counters_of (program_seen scene.program.now)) levels path t)))
  where
    nothing : (n : ℕ) → n % 1 ≡ 0
    nothing n = omega arith

    none : (n m : ℕ) → n ≡ n + 0 * m
    none n m = omega arith

map_long : {A B : Type 0} (f : A → B) (xs : List A) → length (map f xs) ≡ length xs
map_long f [] = refl
map_long f (x ∷ xs) = ap suc (map_long f xs)

-- one dimension more, in front of those so far
module _ (scene : Scene) (levels : List Level) (dims : List Dim) (ts : List Term) where
  abbrev index_at : (path : ℕ) → Term → ℕ
  index_at path t = term_first (counters_of (program_seen scene.program.now)) levels path t

  bank_past : (path k : ℕ) (xs : List ℕ) → length xs ≤ k → (ds : List Dim) → bank_of ds (drop k xs) ≡ 0
  bank_past path k xs past ds = ap (λ l. bank_of ds l) (drop_past xs k past) ∙ nothing ds
    where
      nothing : (ds : List Dim) → bank_of ds [] ≡ 0
      nothing [] = refl
      nothing (d ∷ ds) = refl

  -- the index of a place, where there is one
  index_there : (path i : ℕ) → i < length ts → (t : Term) × ((slice_get ts i ≡ Some t) × (drop i (map (λ t. index_at path t) ts) ≡ index_at path t ∷ drop (i + 1) (map (λ t. index_at path t) ts)))
  index_there path i within = (found.0, (found.1, split))
    where
      found : (t : Term) × (slice_get ts i ≡ Some t)
      found = there ts i within

      at : slice_get (map (λ t. index_at path t) ts) i ≡ Some (index_at path found.0)
      at = slice_get-map (λ t. index_at path t) ts i ∙ ap (λ o. option_map (λ t. index_at path t) o) found.1

      split : drop i (map (λ t. index_at path t) ts) ≡ index_at path found.0 ∷ drop (i + 1) (map (λ t. index_at path t) ts)
      split =
          drop-cons (map (λ t. index_at path t) ts) i 0 (place_within (map (λ t. index_at path t) ts) i (index_at path found.0) at)
          ∙ (ap (λ n. n ∷ drop (suc i) (map (λ t. index_at path t) ts)) (get_or_from_slice_get (map (λ t. index_at path t) ts) i (index_at path found.0) 0 at)
          ∙ ap (λ (m : ℕ). index_at path found.0 ∷ drop m (map (λ t. index_at path t) ts)) (let e : suc i ≡ i + 1 = omega arith in e))

  pub spans_more : (i k times : ℕ) (d : Dim) (old new : List BankSpan) → k ≡ i + 1 → i < length dims
      → ((path : ℕ) → min (spans_bank old levels path) (2 ^ 64 - 1) ≡ min (bank_of (drop k dims) (drop k (map (λ t. index_at path t) ts))) (2 ^ 64 - 1))
      → times ≡ min (banks_of (drop k dims)) (2 ^ 64 - 1) → AddsSpan scene levels (get_or dims i d).banks times (slice_get ts i) old new
      → (path : ℕ) → min (spans_bank new levels path) (2 ^ 64 - 1) ≡ min (bank_of (drop i dims) (drop i (map (λ t. index_at path t) ts))) (2 ^ 64 - 1)
  spans_more i k times d old new back within so far adds path =
      ap (λ n. min n (2 ^ 64 - 1)) (adds path) ∙ (by (cases_lt i (length ts)) ∙ ap (λ (ds : List Dim). min (bank_of ds (drop i (map (λ t. index_at path t) ts))) (2 ^ 64 - 1)) (sym split))
    where
      split : drop i dims ≡ get_or dims i d ∷ drop k dims
      split = drop-cons dims i d within ∙ ap (λ (n : ℕ). get_or dims i d ∷ drop n dims) (let e : suc i ≡ k = omega (arith, back) in e)

      joins : (s b r m t : ℕ) → min s (2 ^ 64 - 1) ≡ min b (2 ^ 64 - 1) → t ≡ min m (2 ^ 64 - 1) → min (s + r * t) (2 ^ 64 - 1) ≡ min (r * m + b) (2 ^ 64 - 1)
      joins s b r m t same is =
          ap (λ n. min (s + n) (2 ^ 64 - 1)) (ap (λ n. r * n) is ∙ commute r (min m (2 ^ 64 - 1)))
          ∙ (outer s (min m (2 ^ 64 - 1) * r)
          ∙ (ap (λ n. min (s + n) (2 ^ 64 - 1)) (cap_product m r (2 ^ 64 - 1) ∙ ap (λ n. min n (2 ^ 64 - 1)) (commute m r))
          ∙ ends s b (r * m) same))
        where
          commute : (a b : ℕ) → a * b ≡ b * a
          commute a b = omega arith

          outer : (a p : ℕ) → min (a + p) (2 ^ 64 - 1) ≡ min (a + min p (2 ^ 64 - 1)) (2 ^ 64 - 1)
          outer a p = omega arith

          ends : (s b p : ℕ) → min s (2 ^ 64 - 1) ≡ min b (2 ^ 64 - 1) → min (s + min p (2 ^ 64 - 1)) (2 ^ 64 - 1) ≡ min (p + b) (2 ^ 64 - 1)
          ends s b p same = omega (arith, same)

      by : (i < length ts) ⊎ (length ts ≤ i) → min (spans_bank old levels path + bank_added (counters_of (program_seen scene.program.now)) levels (get_or dims i d).banks times path (slice_get ts i)) (2 ^ 64 - 1)
          ≡ min (bank_of (get_or dims i d ∷ drop k dims) (drop i (map (λ t. index_at path t) ts))) (2 ^ 64 - 1)
      by (inl inside) =
          let h = index_there path i inside in
          ap (λ o. min (spans_bank old levels path + bank_added (counters_of (program_seen scene.program.now)) levels (get_or dims i d).banks times path o) (2 ^ 64 - 1)) h.1.0
          ∙ (joins (spans_bank old levels path) (bank_of (drop k dims) (drop k (map (λ t. index_at path t) ts))) (index_at path h.0 % (get_or dims i d).banks) (banks_of (drop k dims)) times (so path) far
          ∙ (ap (λ (m : ℕ). min ((index_at path h.0 % (get_or dims i d).banks) * banks_of (drop k dims) + bank_of (drop k dims) (drop m (map (λ t. index_at path t) ts))) (2 ^ 64 - 1)) back
          ∙ ap (λ l. min (bank_of (get_or dims i d ∷ drop k dims) l) (2 ^ 64 - 1)) (sym h.1.1)))
      by (inr past) =
          ap (λ o. min (spans_bank old levels path + bank_added (counters_of (program_seen scene.program.now)) levels (get_or dims i d).banks times path o) (2 ^ 64 - 1)) (slice_get_past ts i past)
          ∙ (zeros (spans_bank old levels path) (bank_of (drop k dims) (drop k (map (λ t. index_at path t) ts))) (so path) (bank_past path k (map (λ t. index_at path t) ts) (long k (further past)) (drop k dims))
          ∙ ap (λ n. min n (2 ^ 64 - 1)) (sym (bank_past path i (map (λ t. index_at path t) ts) (long i past) (get_or dims i d ∷ drop k dims))))
        where
          further : length ts ≤ i → length ts ≤ k
          further past = omega (arith, past, back)

          long : (m : ℕ) → length ts ≤ m → length (map (λ t. index_at path t) ts) ≤ m
          long m few = subst (λ (n : ℕ). n ≤ m) (sym (map_long (λ t. index_at path t) ts)) few

          zeros : (s b : ℕ) → min s (2 ^ 64 - 1) ≡ min b (2 ^ 64 - 1) → b ≡ 0 → min (s + 0) (2 ^ 64 - 1) ≡ min 0 (2 ^ 64 - 1)
          zeros s b same none = omega (arith, same, none)

  pub times_more : (i k times next : ℕ) (d : Dim) → k ≡ i + 1 → i < length dims → times ≡ min (banks_of (drop k dims)) (2 ^ 64 - 1)
      → next ≡ min (times * (get_or dims i d).banks) (2 ^ 64 - 1) → next ≡ min (banks_of (drop i dims)) (2 ^ 64 - 1)
  times_more i k times next d back within far is =
      is
      ∙ (ap (λ n. min (n * (get_or dims i d).banks) (2 ^ 64 - 1)) far
      ∙ (cap_product (banks_of (drop k dims)) (get_or dims i d).banks (2 ^ 64 - 1)
      ∙ (ap (λ n. min n (2 ^ 64 - 1)) (commute (banks_of (drop k dims)) (get_or dims i d).banks)
      ∙ ap (λ (ds : List Dim). min (banks_of ds) (2 ^ 64 - 1)) (sym (drop-cons dims i d within ∙ ap (λ (n : ℕ). get_or dims i d ∷ drop n dims) (let e : suc i ≡ k = omega (arith, back) in e))))))
    where
      commute : (a b : ℕ) → a * b ≡ b * a
      commute a b = omega arith

-- the values of indices as a list of terms
pub indices_listed : (cs : List Counter) (levels : List Level) (path : ℕ) (ts : List Term) → map (λ t. term_first cs levels path t) ts ≡ indices_first cs levels path (terms ts)
indices_listed cs levels path [] = refl
indices_listed cs levels path (t ∷ ts) = ap (λ ns. term_first cs levels path t ∷ ns) (indices_listed cs levels path ts)

pub bank_listed : (scene : Scene) (levels : List Level) (memory : ℕ) (form : TermForm) (r : Ref) (ts : List Term) (spans : List BankSpan) → form ≡ accessed r (terms ts)
    → TellsSpans scene levels (dims_by (dims_at (table_of (program_seen scene.program.now)) memory) (way_of (known_in scene) r)) ts spans → TellsBank scene levels memory form spans 0
bank_listed scene levels memory form r ts spans is tells = λ path.
    none (spans_bank spans levels path)
    ∙ (tells path
    ∙ (ap (λ ns. min (bank_of (dims_by (dims_at (table_of (program_seen scene.program.now)) memory) (way_of (known_in scene) r)) ns) (2 ^ 64 - 1)) (indices_listed (counters_of (program_seen scene.program.now)) levels path ts)
    ∙ sym (ap (λ f. min (bank_by (program_seen scene.program.now) (way_named (known_in scene) f) levels memory f path) (2 ^ 64 - 1)) is)))
  where
    none : (n : ℕ) → min (0 + n) (2 ^ 64 - 1) ≡ min n (2 ^ 64 - 1)
    none n = omega arith

-- an access that names its bank, or none
pub bank_itself : (scene : Scene) (levels : List Level) (memory : ℕ) (form other : TermForm) (spans : List BankSpan) (own : ℕ) → form ≡ other → spans ≡ []
    → ((path : ℕ) → own ≡ bank_by (program_seen scene.program.now) (way_named (known_in scene) other) levels memory other path) → TellsBank scene levels memory form spans own
bank_itself scene levels memory form other spans own is none same = λ path.
    ap (λ ss. min (spans_number ss levels own path) (2 ^ 64 - 1)) none
    ∙ (alone own ∙ ap (λ n. min n (2 ^ 64 - 1)) (same path ∙ sym (ap (λ f. bank_by (program_seen scene.program.now) (way_named (known_in scene) f) levels memory f path) is)))
  where
    alone : (n : ℕ) → min (n + 0) (2 ^ 64 - 1) ≡ min n (2 ^ 64 - 1)
    alone n = omega arith
