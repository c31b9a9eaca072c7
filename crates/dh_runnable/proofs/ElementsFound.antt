-- Memories by their entities: the first memory of a list that is an entity has its place in the list as
-- its number, and the table has its entry there.
use Rattle.std.proofs.Common.{◌≡◌, ℕ, suc, ◌+◌, ◌<◌, ◌≤◌, ◌==◌, nat_le, Bool, true, false, if◌then◌else◌, List, [], ◌∷◌, length, map, Option, Some, None, option_map, refl, ap, sym, ◌∙◌, subst, arith}
use Rattle.std.specs.Prelude.{slice_get}
use Rattle.std.proofs.lemmas.Bool.Decides.{nat_tests}
use Rattle.std.proofs.lemmas.Option.{slice_get_within}
use Rattle.dh_base.specs.declared.places.Place.{Place}
use Rattle.dh_value.specs.declared.kinds.Kind.{Kind}
use Rattle.dh_tree.specs.declared.breaches.Breach.{Breach}
use Rattle.dh_tree.specs.declared.tables.Dim.{Dim}
use Rattle.dh_tree.specs.declared.trees.expressions.Ref.{Ref}
use Rattle.dh_meaning.specs.Effects.{kind_in, entry_kind}
use Rattle.dh_tree.specs.Elements.{banks_of, dims_at, entry_dims}
use Rattle.dh_tree.specs.Indices.{shape_keeps, kept_dims, physical_bank_breaches, physical_breaches}
use Rattle.dh_tree.specs.Kinds.{when}
use Rattle.dh_tree.specs.Memories.{memory_of_name}
use Rattle.dh_tree.specs.Scopes.{entity_number}
use Rattle.dh_tree.specs.Memories.{Memory, same_entity, number_in, memory_in, entry_of}
use Rattle.dh_tree.specs.PlainTrees.{Term}
use Rattle.dh_tree.proofs.EmptyLists.{first_none, not_none}

when_none : (b : Bool) (x : Breach) → when b (x ∷ []) ≡ [] → b ≡ false
when_none true x e = not_none _ _ e
when_none false x e = refl

not_beyond : (banks bank : ℕ) → nat_le banks bank ≡ false → bank < banks
not_beyond banks bank e = grind (arith, nat_tests)

-- a bank without a breach lies below the banks
bank_within : (dims : List Dim) (bank : ℕ) (place : Place) → physical_bank_breaches dims bank place ≡ [] → bank < banks_of dims
bank_within dims bank place e = not_beyond (banks_of dims) bank (when_none _ _ e)

-- Entities.

same_number : (n : ℕ) → (n == n) ≡ true
same_number n = grind (arith, nat_tests)

other_number : (m n : ℕ) → m < n → (m == n) ≡ false
other_number m n l = grind (arith, nat_tests)

-- the first memory of a list is an entity
pub first_is : (m : Memory) (ms : List Memory) (n : ℕ) → m.name.entity ≡ Some n → memory_in (m ∷ ms) (Some n) ≡ Some m
first_is m ms n e =
    ap (λ o. if same_entity o (Some n) then Some m else memory_in ms (Some n)) e ∙ ap (λ (b : Bool). if b then Some m else memory_in ms (Some n)) (same_number n)

-- it is none that comes later
pub later_is : (m : Memory) (ms : List Memory) (k n : ℕ) → m.name.entity ≡ Some k → k < n → memory_in (m ∷ ms) (Some n) ≡ memory_in ms (Some n)
later_is m ms k n e l =
    ap (λ o. if same_entity o (Some n) then Some m else memory_in ms (Some n)) e
    ∙ ap (λ (b : Bool). if b then Some m else memory_in ms (Some n)) (other_number k n l)

-- Of the entities from k on, the memories are those of the second list.
pub record Sees (ms : List Memory) (k : ℕ) (here : List Memory) : Type 0 where
  pub from : (n : ℕ) → k ≤ n → memory_in ms (Some n) ≡ memory_in here (Some n)

pub sees_later : (ms : List Memory) (j k : ℕ) (here : List Memory) → j ≤ k → Sees ms j here → Sees ms k here
sees_later ms j k here l h = record { from = λ n i. h.from n (omega arith) }

pub sees_behind : (ms : List Memory) (k : ℕ) (m : Memory) (after : List Memory) → m.name.entity ≡ Some k → Sees ms k (m ∷ after) → Sees ms (k + 1) after
sees_behind ms k m after e h = record { from = λ n i. h.from n (omega arith) ∙ later_is m after k n e (omega arith) }

-- Numbers.

-- where a memory stands that is an entity
pub record IsNumbered (ms : List Memory) (entity : Option ℕ) (m : Memory) : Type 0 where
  pub number : ℕ
  pub is : number_in ms entity ≡ Some number
  pub entry : slice_get (map entry_of ms) number ≡ Some (entry_of m)

pub number_found : (ms : List Memory) (entity : Option ℕ) (m : Memory) → memory_in ms entity ≡ Some m → IsNumbered ms entity m
number_found [] entity m e = cc
number_found (x ∷ ms) entity m e =
    let at = by (same_entity x.name.entity entity) e (number_found ms entity m) in
    record { number = at.0; is = at.1.0; entry = at.1.1 }
  where
    by : (b : Bool) → (if b then Some x else memory_in ms entity) ≡ Some m → (memory_in ms entity ≡ Some m → IsNumbered ms entity m)
        → (i : ℕ) × (((if b then Some 0 else option_map suc (number_in ms entity)) ≡ Some i) × (slice_get (entry_of x ∷ map entry_of ms) i ≡ Some (entry_of m)))
    by true f h = let same : x ≡ m = cc in (0, (refl, ap (λ (y : Memory). Some (entry_of y)) same))
    by false f h = let r = h f in (suc r.number, (ap (option_map suc) r.is, r.entry))

-- what a name stands for is the memory of this number in the table, of this kind
pub record IsElement (ms : List Memory) (r : Ref) (k : Kind) : Type 0 where
  pub memory : Memory
  pub there : memory_in ms r.entity ≡ Some memory
  pub kind : kind_in (map entry_of ms) (memory_of_name ms r) ≡ k
  pub within : memory_of_name ms r < length (map entry_of ms)
  pub bank : (bank : ℕ) (place : Place) (row : Term) → physical_breaches (kept_dims (memory_in ms r.entity)) bank place row ≡ [] → bank < banks_of (dims_at (map entry_of ms) (memory_of_name ms r))

pub element_is : (ms : List Memory) (r : Ref) (m : Memory) → memory_in ms r.entity ≡ Some m → shape_keeps m.shape ≡ true → IsElement ms r m.shape.kind
element_is ms r m e keeps =
    let at = number_found ms r.entity m e in
    let same : memory_of_name ms r ≡ at.number = ap entity_number at.is in
    let entry : slice_get (map entry_of ms) (memory_of_name ms r) ≡ Some (entry_of m) = ap (slice_get (map entry_of ms)) same ∙ at.entry in
    let dims : dims_at (map entry_of ms) (memory_of_name ms r) ≡ m.shape.dims = ap entry_dims entry in
    let kept : kept_dims (memory_in ms r.entity) ≡ Some m.shape.dims = ap kept_dims e ∙ ap (λ (b : Bool). if b then Some m.shape.dims else None) keeps in
    record {
      memory = m;
      there = e;
      kind = ap entry_kind entry;
      within = slice_get_within (map entry_of ms) (memory_of_name ms r) (entry_of m) entry;
      bank = λ bank place row f.
          subst (λ (ds : List Dim). bank < banks_of ds) (sym dims)
          (bank_within m.shape.dims bank place (first_none (physical_bank_breaches m.shape.dims bank place) _ (ap (λ ds. physical_breaches ds bank place row) (sym kept) ∙ f)));
    }
