-- Registers of one entity behind those of another, each with its kind.
use Rattle.std.proofs.Common.{◌≡◌, ◌⊎◌, inl, inr, ℕ, zero, suc, ◌+◌, ◌-◌, ◌<◌, ◌≤◌, ◌^◌, List, [], ◌∷◌, ◌++◌, length, replicate, Some, zero-add, refl, ap, sym, ◌∙◌, subst, arith}
use Rattle.std.specs.Prelude.{slice_get}
use Rattle.std.proofs.lemmas.Bool.{cases_lt}
use Rattle.std.proofs.lemmas.List.{length-append, length-replicate}
use Rattle.std.proofs.Math.Nat.{min-eq_left}
use Rattle.dh_value.specs.declared.kinds.Kind.{Kind}
use Rattle.dh_tree.specs.Counters.{counter_in, counters_of}
use Rattle.dh_tree.specs.PlainTrees.{Program}
use Rattle.dh_code.specs.declared.places.VariableSlots.{VariableSlots}
use Rattle.dh_code.specs.Declarations.{Declaration, all_held, declaration_in, declared_factors, slots_counted}
use Rattle.dh_code.specs.Ranks.{copies_in}
use Rattle.dh_code.specs.Slots.{held_at}
use Rattle.dh_expressions.specs.Numbers.{narrowed}
use Rattle.dh_expressions.proofs.Pushing.{in_front}
use Rattle.dh_gathering.specs.Registers.{AreSuccessive, HasRegisterKind, HaveKinds, IsRegisterKind, first_among}

in_row : (n j : ℕ) (k : Kind) → j < n → slice_get (replicate n k) j ≡ Some k
in_row (suc n) zero k l = refl
in_row (suc n) (suc j) k l = in_row n j k (less j n l)
  where
    less : (a b : ℕ) → suc a < suc b → a < b
    less a b e = omega (arith, e)
in_row zero j k l = absurd (none j l)
  where
    none : (n : ℕ) → n < 0 → ⊥
    none n e = omega (arith, e)

behind_all : (xs ys : List Kind) (j : ℕ) → slice_get (xs ++ ys) (length xs + j) ≡ slice_get ys j
behind_all [] ys j = ap (λ (n : ℕ). slice_get ys n) (zero-add j)
behind_all (x ∷ xs) ys j = ap (λ (n : ℕ). slice_get (x ∷ (xs ++ ys)) n) (suc_add (length xs) j) ∙ behind_all xs ys j
  where
    suc_add : (a b : ℕ) → suc a + b ≡ suc (a + b)
    suc_add a b = omega arith

at_offset : (xs : List Kind) (n j : ℕ) (k : Kind) → j < n → slice_get (xs ++ replicate n k) (length xs + j) ≡ Some k
at_offset xs n j k l = behind_all xs (replicate n k) j ∙ in_row n j k l

pub kinds_begin : (p : Program) (held : List VariableSlots) (count : ℕ) (registers : List Kind) → registers ≡ [] → AreSuccessive held count → HaveKinds p held count 0 registers
kinds_begin p held count registers none s = record {
  long = ap (λ (l : List Kind). length l) none ∙ sym s.first;
  kinds = λ entity register less from to. absurd (never entity less);
}
  where
    never : (n : ℕ) → n < 0 → ⊥
    never n e = omega (arith, e)

pub kinds_turn : (p : Program) (held : List VariableSlots) (count i first end : ℕ) (own k : Kind) (old new : List Kind) → first ≡ first_among held count i → end ≡ first_among held count (suc i) → own ≡ (held_at held i).kind
    → IsRegisterKind (counter_in (counters_of p) (Some i)) own k → new ≡ old ++ replicate (end - first) k → AreSuccessive held count → HaveKinds p held count i old → HaveKinds p held count (i + 1) new
kinds_turn p held count i first end own k old new first_is end_is own_is kind_is new_is s h = record { long = long; kinds = kinds }
  where
    rising : first ≤ end
    rising = subst (λ (n : ℕ). n ≤ end) (sym first_is) (subst (λ (n : ℕ). first_among held count i ≤ n) (sym end_is) (s.rising i))

    next : suc i ≡ i + 1
    next = omega arith

    sum : (a b : ℕ) → a ≤ b → a + (b - a) ≡ b
    sum a b e = omega (arith, e)

    long : length new ≡ first_among held count (i + 1)
    long = ap (λ (l : List Kind). length l) new_is
        ∙ (length-append old (replicate (end - first) k)
        ∙ (ap (λ (n : ℕ). n + length (replicate (end - first) k)) (h.long ∙ sym first_is)
        ∙ (ap (λ (n : ℕ). first + n) (length-replicate (end - first) k)
        ∙ (sum first end rising ∙ (end_is ∙ ap (λ (n : ℕ). first_among held count n) next)))))

    kinds : (entity register : ℕ) → entity < i + 1 → first_among held count entity ≤ register → register < first_among held count (suc entity) → HasRegisterKind p held new entity register
    kinds entity register less from to = by (cases_lt entity i)
      where
        last : (a b : ℕ) → a < b + 1 → b ≤ a → a ≡ b
        last a b x y = omega (arith, x, y)

        split : (a b : ℕ) → a ≤ b → b ≡ a + (b - a)
        split a b x = omega (arith, x)

        inner : (a b r : ℕ) → a ≤ r → r < b → r - a < b - a
        inner a b r x y = omega (arith, x, y)

        by : (entity < i) ⊎ (i ≤ entity) → HasRegisterKind p held new entity register
        by (inl before) = let r = h.kinds entity register before from to in (r.0, (ap (λ (l : List Kind). slice_get l register) new_is ∙ in_front old (replicate (end - first) k) register r.0 r.1.0, r.1.1))
        by (inr behind) =
            let is : entity ≡ i = last entity i less behind in
            let from_first : first ≤ register = subst (λ (n : ℕ). n ≤ register) (ap (λ (n : ℕ). first_among held count n) is ∙ sym first_is) from in
            let to_end : register < end = subst (λ (n : ℕ). register < n) (ap (λ (n : ℕ). first_among held count (suc n)) is ∙ sym end_is) to in
            subst (λ (n : ℕ). HasRegisterKind p held new n register) (sym is) (
              k,
              (
                ap (λ (l : List Kind). slice_get l register) new_is
                    ∙ (ap (λ (n : ℕ). slice_get (old ++ replicate (end - first) k) n) (split first register from_first ∙ ap (λ (n : ℕ). n + (register - first)) (first_is ∙ sym h.long))
                    ∙ at_offset old (end - first) (register - first) k (inner first end register from_first to_end)),
                subst (λ (o : Kind). IsRegisterKind (counter_in (counters_of p) (Some i)) o k) own_is kind_is,
              ),
            )

-- The registers of a program's variables are so.

firsts_rise : (ds : List Declaration) (count from entities : ℕ) (entity : ℕ) → first_among (all_held ds count from entities) (slots_counted ds count from entities) entity ≤ first_among (all_held ds count from entities) (slots_counted ds count from entities) (suc entity)
firsts_rise ds count from zero entity = same count
  where
    same : (n : ℕ) → n ≤ n
    same n = omega arith
firsts_rise ds count from (suc entities) zero = by entities
  where
    more : (n m : ℕ) → n ≤ n + m
    more n m = omega arith

    by : (k : ℕ) → count ≤ first_among (all_held ds (count + copies_in (declared_factors (declaration_in ds from))) (suc from) k) (slots_counted ds (count + copies_in (declared_factors (declaration_in ds from))) (suc from) k) 0
    by zero = more count (copies_in (declared_factors (declaration_in ds from)))
    by (suc k) = more count (copies_in (declared_factors (declaration_in ds from)))
firsts_rise ds count from (suc entities) (suc entity) = firsts_rise ds (count + copies_in (declared_factors (declaration_in ds from))) (suc from) entities entity

held_long : (ds : List Declaration) (count from entities : ℕ) → length (all_held ds count from entities) ≡ entities
held_long ds count from zero = refl
held_long ds count from (suc entities) = ap suc (held_long ds (count + copies_in (declared_factors (declaration_in ds from))) (suc from) entities)

first_first : (ds : List Declaration) (count from entities : ℕ) → first_among (all_held ds count from entities) (slots_counted ds count from entities) 0 ≡ count
first_first ds count from zero = refl
first_first ds count from (suc entities) = refl

pub places_successive : (ds : List Declaration) (entities : ℕ) (held : List VariableSlots) (count : ℕ) → entities ≤ 2 ^ 32 → held ≡ all_held ds 0 0 entities → count ≡ slots_counted ds 0 0 entities → AreSuccessive held count
places_successive ds entities held count few is counted =
    subst (λ (l : List VariableSlots). AreSuccessive l count) (sym is) (subst (λ (n : ℕ). AreSuccessive (all_held ds 0 0 entities) n) (sym counted) (record {
      first = first_first ds 0 0 entities;
      rising = firsts_rise ds 0 0 entities;
      few = subst (λ (n : ℕ). n ≤ 2 ^ 32) (sym (held_long ds 0 0 entities)) few;
    }))

-- As the code comes to it.

pub first_at : (held : List VariableSlots) (count i : ℕ) → i < length held → (held_at held i).first ≡ first_among held count i
first_at [] count i l = absurd (none i l)
  where
    none : (n : ℕ) → n < 0 → ⊥
    none n e = omega (arith, e)
first_at (h ∷ held) count zero l = refl
first_at (h ∷ held) count (suc i) l = first_at held count i (less i (length held) l)
  where
    less : (a b : ℕ) → suc a < suc b → a < b
    less a b e = omega (arith, e)

first_past : (held : List VariableSlots) (count i : ℕ) → length held ≤ i → count ≡ first_among held count i
first_past [] count i l = refl
first_past (h ∷ held) count zero l = absurd (none (length held) l)
  where
    none : (n : ℕ) → suc n ≤ 0 → ⊥
    none n e = omega (arith, e)
first_past (h ∷ held) count (suc i) l = first_past held count i (less (length held) i l)
  where
    less : (a b : ℕ) → suc a ≤ suc b → a ≤ b
    less a b e = omega (arith, e)

narrow_few : (i : ℕ) → i < 2 ^ 32 → narrowed i ≡ i
narrow_few i l = min-eq_left (at_most i (2 ^ 32) l)
  where
    at_most : (n m : ℕ) → n < m → n ≤ m - 1
    at_most n m e = omega (arith, e)

one_suc : (i : ℕ) → i + 1 ≡ suc i
one_suc i = omega arith

pub end_before : (held : List VariableSlots) (count i end : ℕ) → i + 1 < length held → end ≡ (held_at held (i + 1)).first → end ≡ first_among held count (suc i)
end_before held count i end l is = is ∙ (first_at held count (i + 1) l ∙ ap (λ (n : ℕ). first_among held count n) (one_suc i))

pub end_past : (held : List VariableSlots) (count i end : ℕ) → length held ≤ i + 1 → end ≡ count → end ≡ first_among held count (suc i)
end_past held count i end l is = is ∙ (first_past held count (i + 1) l ∙ ap (λ (n : ℕ). first_among held count n) (one_suc i))

pub kinds_step : (p : Program) (held : List VariableSlots) (count i entity end more : ℕ) (k : Kind) (old new : List Kind) → i < length held → entity ≡ narrowed i → end ≡ first_among held count (suc i) → more ≡ end - (held_at held i).first
    → IsRegisterKind (counter_in (counters_of p) (Some entity)) (held_at held i).kind k → new ≡ old ++ replicate more k → (AreSuccessive held count → HaveKinds p held count i old) → AreSuccessive held count → HaveKinds p held count (i + 1) new
kinds_step p held count i entity end more k old new within entity_is end_is more_is kind_is new_is h s =
    kinds_turn p held count i (held_at held i).first end (held_at held i).kind k old new (first_at held count i within) end_is refl
    (subst (λ (n : ℕ). IsRegisterKind (counter_in (counters_of p) (Some n)) (held_at held i).kind k) (entity_is ∙ narrow_few i (least i (length held) (2 ^ 32) within s.few)) kind_is)
    (new_is ∙ ap (λ (n : ℕ). old ++ replicate n k) more_is) s (h s)
  where
    least : (a b m : ℕ) → a < b → b ≤ m → a < m
    least a b m x y = omega (arith, x, y)

-- The registers of an entity are as many as its copies.

firsts_next : (ds : List Declaration) (count from entities entity : ℕ) → entity < entities
    → first_among (all_held ds count from entities) (slots_counted ds count from entities) entity + copies_in (declared_factors (declaration_in ds (from + entity)))
    ≡ first_among (all_held ds count from entities) (slots_counted ds count from entities) (suc entity)
firsts_next ds count from zero entity within = absurd (none entity within)
  where
    none : (n : ℕ) → n < 0 → ⊥
    none n e = omega (arith, e)
firsts_next ds count from (suc entities) zero within =
    ap (λ (n : ℕ). count + copies_in (declared_factors (declaration_in ds n))) (add_none from) ∙ sym (first_first ds (count + copies_in (declared_factors (declaration_in ds from))) (suc from) entities)
  where
    add_none : (n : ℕ) → n + 0 ≡ n
    add_none n = omega arith
firsts_next ds count from (suc entities) (suc entity) within =
    ap (λ (n : ℕ). first_among (all_held ds (count + copies_in (declared_factors (declaration_in ds from))) (suc from) entities) (slots_counted ds (count + copies_in (declared_factors (declaration_in ds from))) (suc from) entities) entity + copies_in (declared_factors (declaration_in ds n)))
    (moved from entity)
    ∙ firsts_next ds (count + copies_in (declared_factors (declaration_in ds from))) (suc from) entities entity (less entity entities within)
  where
    moved : (n m : ℕ) → n + suc m ≡ suc n + m
    moved n m = omega arith

    less : (a b : ℕ) → suc a < suc b → a < b
    less a b e = omega (arith, e)

-- so the first of an entity that has a copy lies before the next entity's
pub first_before : (ds : List Declaration) (entities : ℕ) (held : List VariableSlots) (count entity : ℕ) → held ≡ all_held ds 0 0 entities → count ≡ slots_counted ds 0 0 entities → entity < length held → 1 ≤ copies_in (declared_factors (declaration_in ds entity))
    → (held_at held entity).first < first_among held count (suc entity)
first_before ds entities held count entity is counted within copies =
    by (held_at held entity).first (copies_in (declared_factors (declaration_in ds entity))) (first_among held count (suc entity)) copies
    (ap (λ (n : ℕ). n + copies_in (declared_factors (declaration_in ds entity))) (first_at held count entity within)
    ∙ subst (λ (l : List VariableSlots). first_among l count entity + copies_in (declared_factors (declaration_in ds entity)) ≡ first_among l count (suc entity)) (sym is)
    (subst (λ (n : ℕ). first_among (all_held ds 0 0 entities) n entity + copies_in (declared_factors (declaration_in ds entity)) ≡ first_among (all_held ds 0 0 entities) n (suc entity)) (sym counted)
    (subst (λ (n : ℕ). first_among (all_held ds 0 0 entities) (slots_counted ds 0 0 entities) entity + copies_in (declared_factors (declaration_in ds n)) ≡ first_among (all_held ds 0 0 entities) (slots_counted ds 0 0 entities) (suc entity)) (zero-add entity)
    (firsts_next ds 0 0 entities entity there))))
  where
    there : entity < entities
    there = subst (λ (n : ℕ). entity < n) (ap (λ (l : List VariableSlots). length l) is ∙ held_long ds 0 0 entities) within

    by : (a n b : ℕ) → 1 ≤ n → a + n ≡ b → a < b
    by a n b l e = omega (arith, l, e)
