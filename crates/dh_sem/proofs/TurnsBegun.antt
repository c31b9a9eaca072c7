-- A turn of a `for` begins: at each path inside it, in order, the copy of the iterator is set. The path of rank i is
-- copy i modulo the factor of its loop. An iterator of another depth has no copy at these paths, so that nothing that is
-- read is set there.
use Rattle.std.proofs.Common.{◌≡◌, ℕ, zero, suc, ◌+◌, ◌*◌, ◌-◌, ◌%◌, ◌^◌, ◌<◌, ◌≤◌, ◌==◌, ◌&&◌, nat_lt, Bool, true, false, if◌then◌else◌, List, [], ◌∷◌, ◌++◌, length, map, drop, take, get_or, ℤ, pos, ◌⊎◌, inl, inr, refl, ap, sym, ◌∙◌, subst, arith}
use Rattle.std.specs.Prelude.{slice_index, slice_set, Vec}
use Rattle.std.specs.Global.{Global}
use Rattle.std.proofs.Math.Nat.{mod-eq_of_lt, mul-add-mod_self_right}
use Rattle.std.proofs.Math.Seq.{take-length}
use Rattle.std.proofs.lemmas.Bool.{cases_Bool, eqb-true, eq-eqb}
use Rattle.std.proofs.lemmas.Bool.Decides.{nat_tests}
use Rattle.std.proofs.lemmas.List.{length-append, length-take-le}
use Rattle.std.specs.Cmp.Lexicographic.{same_text}
use Rattle.dh_value.specs.declared.kinds.Kind.TheVariants as kind
use Rattle.dh_value.specs.Words.{residue}
use Rattle.dh_value.proofs.Values.{value_residue}
use Rattle.dh_meaning.specs.Core.{Turning}
use Rattle.dh_meaning.specs.Effects.{Variables, set_variable}
use Rattle.dh_meaning.specs.Paths.{Path, paths_in, same_path}
use Rattle.dh_meaning.specs.Runs.{iterator_value, last_copy, turn_begun}
use Rattle.dh_code.specs.declared.running.StepState.{StepState}
use Rattle.dh_code.specs.Coded.{AreSlotsOf}
use Rattle.dh_code.specs.Declarations.{factors_inside}
use Rattle.dh_code.specs.Ranks.{IsPath, rank_of, ranks_of}
use Rattle.dh_code.specs.Rows.{contents_of}
use Rattle.dh_code.specs.Slots.{Holds, Placing}
use Rattle.dh_code.specs.States.{AreRanks}
use Rattle.dh_code.specs.Suited.{IsInside}
use Rattle.dh_code.proofs.FlatMeaning.{assigned_slot, path_of}
use Rattle.dh_code.proofs.PathsInOrder.{last_rank, length_path, length_ranks, path_at, paths_are}
use Rattle.dh_code.proofs.SlotsHeld.{held_more}
use Rattle.dh_sem.specs.declared.lanes.Lanes.{Lanes}
use Rattle.dh_sem.specs.declared.phases.Turns as turns
use Rattle.dh_sem.specs.Lanes.{AreLanes}
use Rattle.dh_sem.specs.Phased.{AreTurns}
use Rattle.dh_sem.specs.Steps.{BeginsTurn, OnlyVariables, SetsCopy}

pub only_none : (s : StepState) → OnlyVariables s s
only_none s = record { banks = refl; given = refl; writes = refl; long = refl; back = refl }

pub only_then : (a b c : StepState) → OnlyVariables a b → OnlyVariables b c → OnlyVariables a c
only_then a b c h k = record { banks = k.banks ∙ h.banks; given = k.given ∙ h.given; writes = k.writes ∙ h.writes; long = k.long ∙ h.long; back = k.back ∙ h.back }

-- Numbers.

residue_small : (n : ℕ) → n < 2 ^ 64 → residue (2 ^ 64) (pos n) ≡ n
residue_small n few = value_residue (kind.Unsigned 64) n few

mod_one : (i f : ℕ) → 1 ≤ f → nat_lt 1 f ≡ false → i % f ≡ 0
mod_one i f some not_more = by f (one f some not_more)
  where
    one : (f : ℕ) → 1 ≤ f → nat_lt 1 f ≡ false → f ≡ 1
    one f some e = grind (arith, nat_tests)

    by : (f : ℕ) → f ≡ 1 → i % f ≡ 0
    by f e = ap (λ m. i % m) e ∙ zero_of i
      where
        zero_of : (i : ℕ) → i % 1 ≡ 0
        zero_of i = omega arith

-- the copy of the loop to which the path of a rank belongs
last_of : (loop : Turning) (factors : List ℕ) (path : Path) (i : ℕ) → 1 ≤ loop.factor → loop.depth ≡ length (factors_inside factors loop.factor) → IsPath (factors_inside factors loop.factor) path
    → rank_of (factors_inside factors loop.factor) path ≡ i → i % loop.factor ≡ last_copy loop path
last_of loop factors path i some deep h is = by (nat_lt 1 loop.factor) refl deep h is
  where
    inner : Bool → List ℕ
    inner b = if b then factors ++ loop.factor ∷ [] else factors

    by : (b : Bool) → nat_lt 1 loop.factor ≡ b → loop.depth ≡ length (if b then factors ++ loop.factor ∷ [] else factors) → IsPath (if b then factors ++ loop.factor ∷ [] else factors) path
        → rank_of (if b then factors ++ loop.factor ∷ [] else factors) path ≡ i → i % loop.factor ≡ (if b then slice_index path (loop.depth - 1) else 0)
    by true e d p r =
        let l = last_rank 0 factors loop.factor path p in
        ap (λ n. n % loop.factor) (sym r ∙ l.1.0)
        ∙ (mul-add-mod_self_right l.0 loop.factor (slice_index path (length factors))
        ∙ (mod-eq_of_lt l.1.1 ∙ ap (λ n. slice_index path n) (sym (less loop.depth (length (factors ++ loop.factor ∷ [])) d (length-append factors (loop.factor ∷ []))))))
      where
        less : (x y : ℕ) → x ≡ y → y ≡ length factors + 1 → x - 1 ≡ length factors
        less x y e f = omega (arith, e, f)
    by false e d p r = mod_one i loop.factor some e

-- One path.

-- where a variable has no copy at a path, nothing is set
set_nowhere : (p : Placing) (slots : List ℕ) (v : Variables) (entity : ℕ) (path : Path) (z : ℤ) → (IsPath (p.factors entity) path → ⊥) → Holds p slots v → Holds p slots (set_variable v entity path z)
set_nowhere p slots v entity path z never h = record {
  placing = h.placing;
  each = λ e' path' within inside. h.each e' path' within inside ∙ ap (λ t. residue (2 ^ 64) (if t then z else v e' path')) (sym (by e' path' inside (cases_Bool (e' == entity)) (cases_Bool (same_path path' path))));
}
  where
    by : (e' : ℕ) (path' : Path) → IsPath (p.factors e') path' → ((e' == entity) ≡ true) ⊎ ((e' == entity) ≡ false) → (same_path path' path ≡ true) ⊎ (same_path path' path ≡ false) → ((e' == entity) && same_path path' path) ≡ false
    by e' path' inside (inl a) (inl b) =
        absurd (never (subst (λ (l : Path). IsPath (p.factors entity) l) (same_text path' path (sym b)) (subst (λ (n : ℕ). IsPath (p.factors n) path') (eqb-true e' entity a) inside)))
    by e' path' inside (inl a) (inr b) = ap (λ t. t && same_path path' path) a ∙ b
    by e' path' inside (inr a) b = ap (λ t. t && same_path path' path) a

module _ (p : Placing) (inner ranks : List ℕ) (path : Path) (slots : List ℕ) (v : Variables) (entity deep first depth bits : ℕ) (z : ℤ)
    (at : AreRanks inner ranks path) (i : IsInside p inner deep entity) (has : AreSlotsOf p.held entity first depth) (h : Holds p slots v) where
  same_depth : depth ≡ deep
  same_depth = has.depth_is ∙ i.held

  whole : (n : ℕ) → n ≡ length inner → take n path ≡ path
  whole n e = ap (λ m. take m path) (e ∙ sym (length_path inner path at.inside)) ∙ take-length path

  there : length ranks ≡ length inner + 1
  there = ap (λ l. length l) at.are ∙ (length_ranks 0 inner path at.inside ∙ plus (length inner))
    where
      plus : (n : ℕ) → suc n ≡ n + 1
      plus n = omega arith

  set_here : depth ≡ length inner → bits ≡ residue (2 ^ 64) z → Holds p (slice_set slots (first + slice_index ranks depth) bits) (set_variable v entity path z)
  set_here e worth =
      subst (λ (l : Path). Holds p (slice_set slots (first + slice_index ranks depth) bits) (set_variable v entity l z)) (whole deep (sym same_depth ∙ e))
      (held_more p slots v entity (take deep path) z (first + slice_index ranks depth) bits h i.known (path_of p inner ranks path entity deep at i)
      (assigned_slot p inner ranks path entity first depth deep (first + slice_index ranks depth) at has i refl) worth)

  set_not : (depth ≡ length inner → ⊥) → Holds p slots (set_variable v entity path z)
  set_not differ = set_nowhere p slots v entity path z (λ q. differ (by (length_path inner path at.inside) (length_path (take deep inner) path (subst (λ (l : List ℕ). IsPath l path) i.round q)))) h
    where
      by : length path ≡ length inner → length path ≡ length (take deep inner) → depth ≡ length inner
      by e f = same_depth ∙ all_taken inner deep i.deep (sym f ∙ e)
        where
          all_taken : (l : List ℕ) (n : ℕ) → n ≤ length l → length (take n l) ≡ length l → n ≡ length l
          all_taken l n few e = let a = length-take-le n l few in omega (arith, a, e)

  pub copy_set : (new : List ℕ) → (depth ≡ length inner → bits ≡ residue (2 ^ 64) z) → new ≡ (if length ranks == depth + 1 then slice_set slots (first + slice_index ranks depth) bits else slots) → Holds p new (set_variable v entity path z)
  copy_set new worth is = by (length ranks == depth + 1) refl is
    where
      same : length ranks ≡ depth + 1 → depth ≡ length inner
      same e = let a = there in omega (arith, a, e)

      other : (length ranks == depth + 1) ≡ false → depth ≡ length inner → ⊥
      other f e = clash (eq-eqb (length ranks) (depth + 1) (let a = there in omega (arith, a, e))) f
        where
          clash : (length ranks == depth + 1) ≡ true → (length ranks == depth + 1) ≡ false → ⊥
          clash x y = cc

      by : (b : Bool) → (length ranks == depth + 1) ≡ b → new ≡ (if b then slice_set slots (first + slice_index ranks depth) bits else slots) → Holds p new (set_variable v entity path z)
      by true e is = let d = same (eqb-true (length ranks) (depth + 1) e) in subst (λ (l : List ℕ). Holds p l (set_variable v entity path z)) (sym is) (set_here d (worth d))
      by false e is = subst (λ (l : List ℕ). Holds p l (set_variable v entity path z)) (sym is) (set_not (other e))

-- Rows of paths.

pub row_of : (fs : List ℕ) (rows : List (Vec ℕ Global)) (paths : List Path) (i : ℕ) (d : Vec ℕ Global) → contents_of rows ≡ map (ranks_of fs) paths → i < length rows
    → ((get_or rows i d).items ≡ ranks_of fs (get_or paths i [])) × ((drop i paths ≡ get_or paths i [] ∷ drop (suc i) paths) × (i < length paths))
row_of fs [] paths i d e within = absurd (none i within)
  where
    none : (n : ℕ) → n < 0 → ⊥
    none n e = omega (arith, e)
row_of fs (row ∷ rows) [] i d e within = absurd cc
row_of fs (row ∷ rows) (path ∷ paths) zero d e within = (first e, (refl, some (length paths)))
  where
    first : row.items ∷ contents_of rows ≡ ranks_of fs path ∷ map (ranks_of fs) paths → row.items ≡ ranks_of fs path
    first e = cc

    some : (n : ℕ) → 0 < suc n
    some n = omega arith
row_of fs (row ∷ rows) (path ∷ paths) (suc i) d e within =
    let g = row_of fs rows paths i d (rest e) (less (length rows) within) in (g.0, (g.1.0, more (length paths) g.1.1))
  where
    rest : row.items ∷ contents_of rows ≡ ranks_of fs path ∷ map (ranks_of fs) paths → contents_of rows ≡ map (ranks_of fs) paths
    rest e = cc

    less : (l : ℕ) → suc i < suc l → i < l
    less l e = omega (arith, e)

    more : (n : ℕ) → i < n → suc i < suc n
    more n e = omega (arith, e)

pub rows_over : (fs : List ℕ) (rows : List (Vec ℕ Global)) (paths : List Path) (i : ℕ) → contents_of rows ≡ map (ranks_of fs) paths → length rows ≤ i → drop i paths ≡ []
rows_over fs [] [] zero e over = refl
rows_over fs [] [] (suc i) e over = refl
rows_over fs [] (path ∷ paths) i e over = absurd cc
rows_over fs (row ∷ rows) [] i e over = absurd cc
rows_over fs (row ∷ rows) (path ∷ paths) zero e over = absurd (none (length rows) over)
  where
    none : (n : ℕ) → suc n ≤ 0 → ⊥
    none n e = omega (arith, e)
rows_over fs (row ∷ rows) (path ∷ paths) (suc i) e over = rows_over fs rows paths i (rest e) (less (length rows) over)
  where
    rest : row.items ∷ contents_of rows ≡ ranks_of fs path ∷ map (ranks_of fs) paths → contents_of rows ≡ map (ranks_of fs) paths
    rest e = cc

    less : (l : ℕ) → suc l ≤ suc i → l ≤ i
    less l e = omega (arith, e)

-- the iterator is set at the paths up to one
pub record TurnSoFar (lanes : Lanes) (t : turns.Turns) (turn : ℕ) (old : StepState) (i : ℕ) (now : StepState) : Type 0 where
  pub only : OnlyVariables old now
  pub begun : (p : Placing) (factors : List ℕ) (loop : Turning) (v : Variables) → AreLanes (factors_inside factors loop.factor) lanes → AreTurns p factors t loop → Holds p old.variables.items v
      → (so_far : Variables) × (Holds p now.variables.items so_far
      × (turn_begun loop turn (drop i (paths_in (factors_inside factors loop.factor))) so_far ≡ turn_begun loop turn (paths_in (factors_inside factors loop.factor)) v))

pub turn_first : (lanes : Lanes) (t : turns.Turns) (turn : ℕ) (old : StepState) → TurnSoFar lanes t turn old 0 old
turn_first lanes t turn old = record { only = only_none old; begun = λ p factors loop v are turning h. (v, (h, refl)) }

module _ (lanes : Lanes) (t : turns.Turns) (turn : ℕ) (old : StepState) (i : ℕ) (now : StepState) (g : TurnSoFar lanes t turn old i now) where
  pub turn_more : (row : Vec ℕ Global) (base copy value : ℕ) (new : StepState) → i < length lanes.rows.items → row ≡ get_or lanes.rows.items i row → 1 ≤ t.factor → t.low + (turn + 1) * t.factor ≤ 2 ^ 64 - 1
      → base ≡ t.low + turn * t.factor → copy ≡ i % t.factor → value ≡ base + copy → OnlyVariables now new → SetsCopy now new row.items t value → TurnSoFar lanes t turn old (suc i) new
  turn_more row base copy value new within item some counted base_is copy_is value_is only sets = record {
    only = only_then old now new g.only only;
    begun = λ p factors loop v are turning h.
        let inner = factors_inside factors loop.factor in
        let so = g.begun p factors loop v are turning h in
        let r = row_of inner lanes.rows.items (paths_in inner) i row are.rows within in
        let path = get_or (paths_in inner) i [] in
        let at = path_at inner 0 (paths_in inner) i (paths_are inner) r.1.1 in
        let z = pos (iterator_value loop turn path) in (
          set_variable so.0 loop.iterator path z,
          (
            copy_set p inner row.items path now.variables.items so.0 loop.iterator loop.depth t.first t.depth value z
                (record { inside = at.0; are = ap (λ (x : Vec ℕ Global). x.items) item ∙ r.0 }) turning.iterator turning.slots so.1.0 new.variables.items
                (λ deep. value_of loop factors path (t.depth) turning deep at.0 at.1) sets,
            ap (λ l. turn_begun loop turn l so.0) (sym r.1.0) ∙ so.1.1,
          ),
        );
  }
    where
      value_of : (loop : Turning) (factors : List ℕ) (path : Path) (depth : ℕ) {p : Placing} → AreTurns p factors t loop → t.depth ≡ length (factors_inside factors loop.factor) → IsPath (factors_inside factors loop.factor) path
          → rank_of (factors_inside factors loop.factor) path ≡ 0 + i → value ≡ residue (2 ^ 64) (pos (iterator_value loop turn path))
      value_of loop factors path depth turning deep inside rank =
          same ∙ sym (residue_small (iterator_value loop turn path) (subst (λ (n : ℕ). n < 2 ^ 64) same small))
        where
          last : copy ≡ last_copy loop path
          last =
              copy_is
              ∙ (ap (λ f. i % f) turning.factor
              ∙ last_of loop factors path i (subst (λ (f : ℕ). 1 ≤ f) turning.factor some) (sym (turning.slots.depth_is ∙ turning.iterator.held) ∙ deep) inside (rank ∙ none i))
            where
              none : (n : ℕ) → 0 + n ≡ n
              none n = omega arith

          same : value ≡ iterator_value loop turn path
          same =
              value_is
              ∙ (ap (λ b. b + copy) (base_is ∙ (ap (λ l. l + turn * t.factor) turning.low ∙ ap (λ f. loop.low + turn * f) turning.factor)) ∙ ap (λ c. loop.low + turn * loop.factor + c) last)

          small : value < 2 ^ 64
          small = by value base copy t.factor t.low value_is base_is (subst (λ (c : ℕ). c < t.factor) (sym copy_is) (below i t.factor some)) counted
            where
              below : (i f : ℕ) → 1 ≤ f → i % f < f
              below i f e = omega (arith, e)

              by : (x b c f l : ℕ) → x ≡ b + c → b ≡ l + turn * f → c < f → l + (turn + 1) * f ≤ 2 ^ 64 - 1 → x < 2 ^ 64
              by x b c f l d e g k = omega (arith, d, e, g, k)

  pub turn_end : length lanes.rows.items ≤ i → BeginsTurn old now lanes t turn
  turn_end over p factors loop v are turning h =
      let inner = factors_inside factors loop.factor in
      let so = g.begun p factors loop v are turning h in
      subst (λ (x : Variables). Holds p now.variables.items x) (ap (λ l. turn_begun loop turn l so.0) (sym (rows_over inner lanes.rows.items (paths_in inner) i are.rows over)) ∙ so.1.1) so.1.0
