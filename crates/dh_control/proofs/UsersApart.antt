-- Each user of a port is listed once.
use Rattle.std.proofs.Common.{◌≡◌, ◌⊎◌, ℕ, suc, ◌≤◌, inl, inr, Some, None, List, [], ◌∷◌, ◌++◌, refl, sym, ap, subst, ◌∙◌, arith}
use Rattle.std.specs.Prelude.{Option, slice_get}
use Rattle.std.proofs.lemmas.Bool.{cases_eq}
use Rattle.dh_plan.specs.declared.operations.Operation.{Operation}
use Rattle.dh_plan.specs.declared.operations.PlanBlock.{PlanBlock}
use Rattle.dh_plan.specs.declared.operations.Reach.{Reach}
use Rattle.dh_plan.specs.BoundPorts.{Uses}
use Rattle.dh_plan.specs.PlainPlans.{PlainPlan, block_operations}
use Rattle.dh_plan.specs.SoundPlans.{use_in, HasUse, IsFormed}
use Rattle.dh_lower.specs.PortUsers.{User, HasUser, AreApart, AreUsers}
use Rattle.dh_lower.proofs.BoundPortFacts.{reach_suits}
use Rattle.dh_control.specs.declared.gathering.Keyed.{Keyed}
use Rattle.dh_control.specs.KeyedItems.{items_picked}
use Rattle.dh_control.specs.PlanUsers.{user_at, bank_users, use_users, operations_users, blocks_users, users_of}
use Rattle.dh_control.proofs.GatheredItems.{picked_here, picked_past}
use Rattle.dh_control.proofs.UsersListed.{all_listed, own_listed}

abbrev ItemIn : User → List (Keyed User) → Type 0
ItemIn v [] = ⊥
ItemIn v (e ∷ es) = (v ≡ e.item) ⊎ ItemIn v es

abbrev AllApart : List (Keyed User) → Type 0
AllApart [] = Unit {0}
AllApart (e ∷ es) = (ItemIn e.item es → ⊥) × AllApart es

picked_item : (port : ℕ) (v : User) (es : List (Keyed User)) → HasUser v (items_picked port es) → ItemIn v es
picked_item port v [] h = absurd h
picked_item port v (e ∷ es) h = elim (cases_eq e.key port) [
  | inl same ↦ elim (subst (λ (l : List User). HasUser v l) (picked_here port e es same) h) [
    | inl here ↦ inl here
    | inr rest ↦ inr (picked_item port v es rest)
  ]
  | inr other ↦ inr (picked_item port v es (subst (λ (l : List User). HasUser v l) (picked_past port e es other) h))
]

picked_apart : (port : ℕ) (es : List (Keyed User)) → AllApart es → AreApart (items_picked port es)
picked_apart port [] h = tt
picked_apart port (e ∷ es) h = elim (cases_eq e.key port) [
  | inl same ↦ subst (λ (l : List User). AreApart l) (sym (picked_here port e es same)) ((λ a. h.0 (picked_item port e.item es a)), picked_apart port es h.1)
  | inr other ↦ subst (λ (l : List User). AreApart l) (sym (picked_past port e es other)) (picked_apart port es h.1)
]

item_either : (v : User) (es fs : List (Keyed User)) → ItemIn v (es ++ fs) → ItemIn v es ⊎ ItemIn v fs
item_either v [] fs h = inr h
item_either v (e ∷ es) fs h = elim h [
  | inl here ↦ inl (inl here)
  | inr rest ↦ elim (item_either v es fs rest) [
    | inl left ↦ inl (inr left)
    | inr right ↦ inr right
  ]
]

both_apart : (es fs : List (Keyed User)) → AllApart es → AllApart fs → ((v : User) → ItemIn v es → ItemIn v fs → ⊥) → AllApart (es ++ fs)
both_apart [] fs h g none = g
both_apart (e ∷ es) fs h g none = (
  (λ a. elim (item_either e.item es fs a) [
    | inl left ↦ h.0 left
    | inr right ↦ none e.item (inl refl) right
  ]),
  both_apart es fs h.1 g (λ v a b. none v (inr a) b),
)

-- no bank is listed twice
abbrev Once : List (ℕ × ℕ) → Type 0
Once banks = (i j : ℕ) (b c : ℕ × ℕ) → slice_get banks i ≡ Some b → slice_get banks j ≡ Some c → b.0 ≡ c.0 → i ≡ j

module _ (plan : PlainPlan) (u : Uses) where
  record ItemOfBanks (block i : ℕ) (banks : List (ℕ × ℕ)) (v : User) : Type 0 where
    pub bank_place : ℕ
    pub listed : ℕ × ℕ
    pub there : slice_get banks bank_place ≡ Some listed
    pub is : v ≡ user_at block i listed.0

  item_banks : (block i : ℕ) (r : Reach) (banks : List (ℕ × ℕ)) (v : User) → ItemIn v (bank_users plan u block i r banks) → ItemOfBanks block i banks v
  item_banks block i r [] v h = absurd h
  item_banks block i r (b ∷ bs) v h = elim h [
    | inl here ↦ record { bank_place = 0; listed = b; there = refl; is = here }
    | inr rest ↦ let p = item_banks block i r bs v rest in record { bank_place = suc p.bank_place; listed = p.listed; there = p.there; is = p.is }
  ]

  banks_apart : (block i : ℕ) (r : Reach) (banks : List (ℕ × ℕ)) → Once banks → AllApart (bank_users plan u block i r banks)
  banks_apart block i r [] once = tt
  banks_apart block i r (b ∷ bs) once = (
    (λ a.
        let p = item_banks block i r bs (user_at block i b.0) a in
        let e : 0 ≡ suc p.bank_place = once 0 (suc p.bank_place) b p.listed refl p.there (ap (λ y. y.bank) p.is) in
        let f : ⊥ = omega (arith, e) in f),
    banks_apart block i r bs (λ m n x y at_m at_n same. let e = once (suc m) (suc n) x y at_m at_n same in omega (arith, e)),
  )

  item_use : (block n : ℕ) (w : Option Reach) (v : User) → ItemIn v (use_users plan u block n w) → (v.block ≡ block) × (v.place ≡ n)
  item_use block n None v h = absurd h
  item_use block n (Some r) v h = let p = item_banks block n r r.banks v h in (ap (λ y. y.block) p.is, ap (λ y. y.place) p.is)

  item_operations : (block from : ℕ) (os : List Operation) (v : User) → ItemIn v (operations_users plan u block from os) → (v.block ≡ block) × (from ≤ v.place)
  item_operations block from [] v h = absurd h
  item_operations block from (o ∷ os) v h = elim (item_either v (use_users plan u block from (use_in o.form)) (operations_users plan u block (suc from) os) h) [
    | inl here ↦ let p = item_use block from (use_in o.form) v here in let e = p.1 in (p.0, omega (arith, e))
    | inr rest ↦ let p = item_operations block (suc from) os v rest in let e = p.1 in (p.0, omega (arith, e))
  ]

  use_apart : (block n : ℕ) (w : Option Reach) → ((r : Reach) → w ≡ Some r → Once r.banks) → AllApart (use_users plan u block n w)
  use_apart block n None once = tt
  use_apart block n (Some r) once = banks_apart block n r r.banks (once r refl)

  operations_apart : (block from : ℕ) (os : List Operation) → ((i : ℕ) (o : Operation) (r : Reach) → slice_get os i ≡ Some o → use_in o.form ≡ Some r → Once r.banks)
      → AllApart (operations_users plan u block from os)
  operations_apart block from [] once = tt
  operations_apart block from (o ∷ os) once =
      both_apart (use_users plan u block from (use_in o.form)) (operations_users plan u block (suc from) os)
      (use_apart block from (use_in o.form) (λ r used. once 0 o r refl used)) (operations_apart block (suc from) os (λ i p r at used. once (suc i) p r at used))
      (λ v a b.
      let p = (item_use block from (use_in o.form) v a).1 in
      let q = (item_operations block (suc from) os v b).1 in
      let f : ⊥ = omega (arith, p, q) in f)

  item_blocks : (from : ℕ) (bs : List PlanBlock) (v : User) → ItemIn v (blocks_users plan u from bs) → from ≤ v.block
  item_blocks from [] v h = absurd h
  item_blocks from (b ∷ bs) v h = elim (item_either v (operations_users plan u from 0 b.operations) (blocks_users plan u (suc from) bs) h) [
    | inl here ↦ let p = (item_operations from 0 b.operations v here).0 in omega (arith, p)
    | inr rest ↦ let p = item_blocks (suc from) bs v rest in omega (arith, p)
  ]

  blocks_apart : (from : ℕ) (bs : List PlanBlock)
      → ((j i : ℕ) (b : PlanBlock) (o : Operation) (r : Reach) → slice_get bs j ≡ Some b → slice_get b.operations i ≡ Some o → use_in o.form ≡ Some r → Once r.banks)
      → AllApart (blocks_users plan u from bs)
  blocks_apart from [] once = tt
  blocks_apart from (b ∷ bs) once =
      both_apart (operations_users plan u from 0 b.operations) (blocks_users plan u (suc from) bs)
      (operations_apart from 0 b.operations (λ i o r at used. once 0 i b o r refl at used)) (blocks_apart (suc from) bs (λ j i c o r here at used. once (suc j) i c o r here at used))
      (λ v a c.
      let p = (item_operations from 0 b.operations v a).0 in
      let q = item_blocks (suc from) bs v c in
      let f : ⊥ = omega (arith, p, q) in f)

  pub users_listed : IsFormed plan → AreUsers plan u (users_of plan u)
  users_listed formed = record {
    all = λ block i bank place r h listed. all_listed plan u block i bank place r h listed;
    own = λ port user h. own_listed plan u port user h;
    apart = λ port.
        picked_apart port (blocks_users plan u 0 plan.blocks)
        (blocks_apart 0 plan.blocks (λ j i b o r here at used.
        let used_so : HasUse plan j i r = record { operation = o; there = ap (λ (w : Option PlanBlock). slice_get (block_operations w) i) here ∙ at; uses = used } in
        (reach_suits plan formed j i r used_so).banks.once));
  }
