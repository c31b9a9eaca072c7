-- Each register is one of a variable, a counter, or a flag.
use Rattle.std.proofs.Common.{◌≡◌, ◌⊎◌, inl, inr, ℕ, zero, suc, ◌+◌, ◌<◌, ◌≤◌, List, [], ◌∷◌, length, Option, Some, None, refl, ap, sym, ◌∙◌, subst, arith}
use Rattle.std.specs.Prelude.{slice_get}
use Rattle.std.specs.List.{AllByRecursion}
use Rattle.std.proofs.lemmas.Bool.{cases_lt}
use Rattle.dh_value.specs.declared.kinds.Kind.{Kind}
use Rattle.dh_value.specs.declared.kinds.Kind.TheVariants as kind
use Rattle.dh_value.specs.Words.{IsKind}
use Rattle.dh_tree.specs.declared.trees.counters.Counter.{Counter}
use Rattle.dh_tree.specs.Counters.{counter_in, counters_of}
use Rattle.dh_tree.specs.Seen.{program_seen}
use Rattle.dh_code.specs.declared.places.VariableSlots.{VariableSlots}
use Rattle.dh_meaning.specs.Ways.{all_entities_of}
use Rattle.dh_code.specs.Declarations.{Declaration, all_declarations_of, all_held, declaration_in, declared_factors}
use Rattle.dh_code.specs.Ranks.{copies_in}
use Rattle.dh_code.specs.Slots.{held_at}
use Rattle.dh_gathering.specs.Registers.{AreSuccessive, HasRegisterKind, IsRegisterKind, first_among}
use Rattle.dh_told.specs.SizedRegisters.{RegistersAreSized}
use Rattle.dh_told.proofs.VariablesSized.{variables_are_sized}

-- whose register it is
record IsOwnedBy (held : List VariableSlots) (count register entity : ℕ) : Type 0 where
  there : entity < length held
  from : first_among held count entity ≤ register
  to : register < first_among held count (suc entity)

owner_below : (held : List VariableSlots) (count register : ℕ) → AreSuccessive held count → (n : ℕ) → n ≤ length held → register < first_among held count n → (entity : ℕ) × IsOwnedBy held count register entity
owner_below held count register s zero within less = absurd (never (first_among held count 0) s.first less)
  where
    never : (m : ℕ) → m ≡ 0 → register < m → ⊥
    never m e l = omega (arith, e, l)
owner_below held count register s (suc n) within less = by (cases_lt register (first_among held count n)) (λ l. owner_below held count register s n (least within) l)
  where
    least : suc n ≤ length held → n ≤ length held
    least l = omega (arith, l)

    inside : suc n ≤ length held → n < length held
    inside l = omega (arith, l)

    by : (register < first_among held count n) ⊎ (first_among held count n ≤ register) → (register < first_among held count n → (entity : ℕ) × IsOwnedBy held count register entity) → (entity : ℕ) × IsOwnedBy held count register entity
    by (inl l) go = go l
    by (inr l) go = (n, record { there = inside within; from = l; to = less })

all_behind : (held : List VariableSlots) (n : ℕ) → first_among held n (length held) ≡ n
all_behind [] n = refl
all_behind (h ∷ held) n = all_behind held n

held_long : (ds : List Declaration) (count from n : ℕ) → length (all_held ds count from n) ≡ n
held_long ds count from zero = refl
held_long ds count from (suc n) = ap suc (held_long ds (count + copies_in (declared_factors (declaration_in ds from))) (suc from) n)

-- by the places of a list
all_at : (P : Kind → Type 0) (xs : List Kind) → ((i : ℕ) (k : Kind) → slice_get xs i ≡ Some k → P k) → AllByRecursion P xs
all_at P [] h = tt
all_at P (x ∷ xs) h = (h 0 x refl, all_at P xs (λ i k at. h (suc i) k at))

bool_sized : IsKind kind.Bool
bool_sized = (omega arith, omega arith)

pub registers_are_sized : RegistersAreSized
registers_are_sized scene count body phased ready order ways successive made = all_at IsKind phased.registers (λ i k at. by i k at (cases_lt i count))
  where
    long : length scene.held.now ≡ all_entities_of (program_seen scene.program.now)
    long = ap (λ (l : List VariableSlots). length l) order.held ∙ held_long (all_declarations_of (program_seen scene.program.now)) 0 0 (all_entities_of (program_seen scene.program.now))

    kind_or : Kind → Option Kind → Kind
    kind_or j None = j
    kind_or j (Some x) = x

    by_counter : (e : ℕ) (j : Kind) → e < length scene.held.now → (o : Option Counter) → counter_in (counters_of (program_seen scene.program.now)) (Some e) ≡ o → IsRegisterKind o (held_at scene.held.now e).kind j → IsKind j
    by_counter e j within None none is = subst IsKind (sym is) (variables_are_sized scene count ready order ways e (subst (λ (n : ℕ). e < n) long within) none)
    by_counter e j within (Some c) some (w, (is, width)) = subst IsKind (sym is) width.sized

    variable : (i : ℕ) (k : Kind) → slice_get phased.registers i ≡ Some k → (e : ℕ) → IsOwnedBy scene.held.now count i e → IsKind k
    variable i k at e own =
        let has : HasRegisterKind (program_seen scene.program.now) scene.held.now phased.registers e i = made.kinds e i own.there own.from own.to in
        subst IsKind (ap (kind_or k) (sym has.1.0 ∙ at)) (by_counter e has.0 own.there (counter_in (counters_of (program_seen scene.program.now)) (Some e)) refl has.1.1)

    by : (i : ℕ) (k : Kind) → slice_get phased.registers i ≡ Some k → (i < count) ⊎ (count ≤ i) → IsKind k
    by i k at (inr past) = subst IsKind (sym (made.flags i k past at)) bool_sized
    by i k at (inl within) =
        let o = owner_below scene.held.now count i successive (length scene.held.now) (same (length scene.held.now)) (subst (λ (n : ℕ). i < n) (sym (all_behind scene.held.now count)) within) in
        variable i k at o.0 o.1
      where
        same : (n : ℕ) → n ≤ n
        same n = omega arith
