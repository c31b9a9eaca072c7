-- The users of ports that are listed are all users, no others, and each once.
use Rattle.std.proofs.Common.{◌≡◌, ◌⊎◌, ℕ, zero, suc, ◌+◌, inl, inr, Some, None, List, [], ◌∷◌, ◌++◌, refl, sym, ap, subst, ◌∙◌, arith}
use Rattle.std.specs.Prelude.{Option, slice_get}
use Rattle.std.proofs.lemmas.Bool.{cases_eq}
use Rattle.std.proofs.lemmas.Option.{slice_get_cases}
use Rattle.dh_plan.specs.declared.operations.Operation.{Operation}
use Rattle.dh_plan.specs.declared.operations.PlanBlock.{PlanBlock}
use Rattle.dh_plan.specs.declared.operations.Reach.{Reach}
use Rattle.dh_plan.specs.BoundPorts.{Uses}
use Rattle.dh_plan.specs.PlainPlans.{PlainPlan, operations_in, block_operations}
use Rattle.dh_plan.specs.SoundPlans.{use_in, HasUse, IsListed}
use Rattle.dh_lower.specs.PortUsers.{User, HasUser}
use Rattle.dh_lower.specs.ShownWords.{port_bound}
use Rattle.dh_control.specs.declared.gathering.Keyed.{Keyed}
use Rattle.dh_control.specs.KeyedItems.{items_picked}
use Rattle.dh_control.specs.PlanUsers.{user_at, bank_users, use_users, operations_users, blocks_users, users_of}
use Rattle.dh_control.proofs.GatheredItems.{picked_here, picked_past}

-- Being among users with their ports.

abbrev InKeyed : Keyed User → List (Keyed User) → Type 0
InKeyed k [] = ⊥
InKeyed k (e ∷ es) = (k ≡ e) ⊎ InKeyed k es

in_left : (k : Keyed User) (es fs : List (Keyed User)) → InKeyed k es → InKeyed k (es ++ fs)
in_left k [] fs h = absurd h
in_left k (e ∷ es) fs h = elim h [
  | inl here ↦ inl here
  | inr rest ↦ inr (in_left k es fs rest)
]

in_right : (k : Keyed User) (es fs : List (Keyed User)) → InKeyed k fs → InKeyed k (es ++ fs)
in_right k [] fs h = h
in_right k (e ∷ es) fs h = inr (in_right k es fs h)

in_either : (k : Keyed User) (es fs : List (Keyed User)) → InKeyed k (es ++ fs) → InKeyed k es ⊎ InKeyed k fs
in_either k [] fs h = inr h
in_either k (e ∷ es) fs h = elim h [
  | inl here ↦ inl (inl here)
  | inr rest ↦ elim (in_either k es fs rest) [
    | inl left ↦ inl (inr left)
    | inr right ↦ inr right
  ]
]

picked_has : (k : Keyed User) (es : List (Keyed User)) → InKeyed k es → HasUser k.item (items_picked k.key es)
picked_has k [] h = absurd h
picked_has k (e ∷ es) h = elim h [
  | inl here ↦ subst (λ (l : List User). HasUser k.item l) (sym (picked_here k.key e es (ap (λ y. y.key) (sym here)))) (inl (ap (λ y. y.item) here))
  | inr rest ↦ elim (cases_eq e.key k.key) [
    | inl same ↦ subst (λ (l : List User). HasUser k.item l) (sym (picked_here k.key e es same)) (inr (picked_has k es rest))
    | inr other ↦ subst (λ (l : List User). HasUser k.item l) (sym (picked_past k.key e es other)) (picked_has k es rest)
  ]
]

record PickedFrom (port : ℕ) (user : User) (es : List (Keyed User)) : Type 0 where
  pub keyed : Keyed User
  pub among : InKeyed keyed es
  pub port_is : keyed.key ≡ port
  pub user_is : user ≡ keyed.item

picked_from : (port : ℕ) (user : User) (es : List (Keyed User)) → HasUser user (items_picked port es) → PickedFrom port user es
picked_from port user [] h = absurd h
picked_from port user (e ∷ es) h = elim (cases_eq e.key port) [
  | inl same ↦ elim (subst (λ (l : List User). HasUser user l) (picked_here port e es same) h) [
    | inl here ↦ record { keyed = e; among = inl refl; port_is = same; user_is = here }
    | inr rest ↦ let p = picked_from port user es rest in record { keyed = p.keyed; among = inr p.among; port_is = p.port_is; user_is = p.user_is }
  ]
  | inr other ↦
      let p = picked_from port user es (subst (λ (l : List User). HasUser user l) (picked_past port e es other) h) in
      record { keyed = p.keyed; among = inr p.among; port_is = p.port_is; user_is = p.user_is }
]

module _ (plan : PlainPlan) (u : Uses) where
  abbrev keyed_user : (block place bank : ℕ) → Reach → Keyed User
  keyed_user block i bank r = record { key = port_bound plan u block i bank r; item = user_at block i bank }

  -- Banks.

  in_banks : (block i bank place : ℕ) (r : Reach) (banks : List (ℕ × ℕ)) → IsListed bank place banks → InKeyed (keyed_user block i bank r) (bank_users plan u block i r banks)
  in_banks block i bank place r [] h = absurd h
  in_banks block i bank place r (b ∷ bs) h = elim h [
    | inl here ↦ inl (ap (λ n. keyed_user block i n r) (sym here.0))
    | inr rest ↦ inr (in_banks block i bank place r bs rest)
  ]

  record OfBanks (block i : ℕ) (r : Reach) (banks : List (ℕ × ℕ)) (k : Keyed User) : Type 0 where
    pub bank : ℕ
    pub bank_place : ℕ
    pub listed : IsListed bank bank_place banks
    pub is : k ≡ keyed_user block i bank r

  of_banks : (block i : ℕ) (r : Reach) (banks : List (ℕ × ℕ)) (k : Keyed User) → InKeyed k (bank_users plan u block i r banks) → OfBanks block i r banks k
  of_banks block i r [] k h = absurd h
  of_banks block i r (b ∷ bs) k h = elim h [
    | inl here ↦ record { bank = b.0; bank_place = b.1; listed = inl (refl, refl); is = here }
    | inr rest ↦ let p = of_banks block i r bs k rest in record { bank = p.bank; bank_place = p.bank_place; listed = inr p.listed; is = p.is }
  ]

  -- Operations.

  in_operations : (block from i n : ℕ) (os : List Operation) (o : Operation) (r : Reach) (k : Keyed User) → n ≡ from + i → slice_get os i ≡ Some o → use_in o.form ≡ Some r
      → InKeyed k (bank_users plan u block n r r.banks) → InKeyed k (operations_users plan u block from os)
  in_operations block from i n [] o r k is at used h = absurd (let f : None ≡ Some o = at in cc)
  in_operations block from zero n (p ∷ os) o r k is at used h =
      let same : p ≡ o = (let f : Some p ≡ Some o = at in cc) in
      let here : n ≡ from = omega (arith, is) in
      in_left k (use_users plan u block from (use_in p.form)) (operations_users plan u block (suc from) os)
      (subst (λ (w : Option Reach). InKeyed k (use_users plan u block from w)) (sym (ap (λ (q : Operation). use_in q.form) same ∙ used))
      (subst (λ (m : ℕ). InKeyed k (bank_users plan u block m r r.banks)) here h))
  in_operations block from (suc i) n (p ∷ os) o r k is at used h =
      in_right k (use_users plan u block from (use_in p.form)) (operations_users plan u block (suc from) os)
      (in_operations block (suc from) i n os o r k (omega (arith, is)) at used h)

  record OfOperations (block from : ℕ) (os : List Operation) (k : Keyed User) : Type 0 where
    pub place : ℕ
    pub number : ℕ
    pub number_is : number ≡ from + place
    pub operation : Operation
    pub reach : Reach
    pub there : slice_get os place ≡ Some operation
    pub used : use_in operation.form ≡ Some reach
    pub among : InKeyed k (bank_users plan u block number reach reach.banks)

  use_inside : (block n : ℕ) (w : Option Reach) (k : Keyed User) → InKeyed k (use_users plan u block n w) → (r : Reach) × ((w ≡ Some r) × InKeyed k (bank_users plan u block n r r.banks))
  use_inside block n None k h = absurd h
  use_inside block n (Some r) k h = (r, (refl, h))

  of_operations : (block from : ℕ) (os : List Operation) (k : Keyed User) → InKeyed k (operations_users plan u block from os) → OfOperations block from os k
  of_operations block from [] k h = absurd h
  of_operations block from (o ∷ os) k h = elim (in_either k (use_users plan u block from (use_in o.form)) (operations_users plan u block (suc from) os) h) [
    | inl here ↦
        let p = use_inside block from (use_in o.form) k here in
        record { place = 0; number = from; number_is = (let n : from ≡ from + 0 = omega arith in n); operation = o; reach = p.0; there = refl; used = p.1.0; among = p.1.1 }
    | inr rest ↦
        let p = of_operations block (suc from) os k rest in
        let is = p.number_is in
        record { place = suc p.place; number = p.number; number_is = omega (arith, is); operation = p.operation; reach = p.reach; there = p.there; used = p.used; among = p.among }
  ]

  -- Blocks.

  in_blocks : (from i n : ℕ) (bs : List PlanBlock) (b : PlanBlock) (k : Keyed User) → n ≡ from + i → slice_get bs i ≡ Some b → InKeyed k (operations_users plan u n 0 b.operations)
      → InKeyed k (blocks_users plan u from bs)
  in_blocks from i n [] b k is at h = absurd (let f : None ≡ Some b = at in cc)
  in_blocks from zero n (c ∷ bs) b k is at h =
      let same : c ≡ b = (let f : Some c ≡ Some b = at in cc) in
      let here : n ≡ from = omega (arith, is) in
      in_left k (operations_users plan u from 0 c.operations) (blocks_users plan u (suc from) bs)
      (subst (λ (q : PlanBlock). InKeyed k (operations_users plan u from 0 q.operations)) (sym same) (subst (λ (m : ℕ). InKeyed k (operations_users plan u m 0 b.operations)) here h))
  in_blocks from (suc i) n (c ∷ bs) b k is at h =
      in_right k (operations_users plan u from 0 c.operations) (blocks_users plan u (suc from) bs) (in_blocks (suc from) i n bs b k (omega (arith, is)) at h)

  record OfBlocks (from : ℕ) (bs : List PlanBlock) (k : Keyed User) : Type 0 where
    pub place : ℕ
    pub number : ℕ
    pub number_is : number ≡ from + place
    pub block : PlanBlock
    pub there : slice_get bs place ≡ Some block
    pub among : InKeyed k (operations_users plan u number 0 block.operations)

  of_blocks : (from : ℕ) (bs : List PlanBlock) (k : Keyed User) → InKeyed k (blocks_users plan u from bs) → OfBlocks from bs k
  of_blocks from [] k h = absurd h
  of_blocks from (b ∷ bs) k h = elim (in_either k (operations_users plan u from 0 b.operations) (blocks_users plan u (suc from) bs) h) [
    | inl here ↦ record { place = 0; number = from; number_is = (let n : from ≡ from + 0 = omega arith in n); block = b; there = refl; among = here }
    | inr rest ↦
        let p = of_blocks (suc from) bs k rest in
        let is = p.number_is in
        record { place = suc p.place; number = p.number; number_is = omega (arith, is); block = p.block; there = p.there; among = p.among }
  ]

  -- All of them, and no others.

  pub all_listed : (block i bank place : ℕ) (r : Reach) → HasUse plan block i r → IsListed bank place r.banks → HasUser (user_at block i bank) (users_of plan u (port_bound plan u block i bank r))
  all_listed block i bank place r h listed =
      picked_has (keyed_user block i bank r) (blocks_users plan u 0 plan.blocks)
      (elim (slice_get_cases plan.blocks block).1 [
        | inl found ↦
            in_blocks 0 block block plan.blocks found.0 (keyed_user block i bank r) (omega arith) found.2
            (in_operations block 0 i i found.0.operations h.operation r (keyed_user block i bank r) (omega arith)
            (subst (λ (w : Option PlanBlock). slice_get (block_operations w) i ≡ Some h.operation) found.2 h.there) h.uses (in_banks block i bank place r r.banks listed))
        | inr past ↦ absurd (let f : slice_get (block_operations None) i ≡ Some h.operation = subst (λ (w : Option PlanBlock). slice_get (block_operations w) i ≡ Some h.operation) past.1 h.there in
            let g : None ≡ Some h.operation = f in cc)
      ])

  abbrev pub IsOwn : (port : ℕ) → User → Type 0
  IsOwn port user =
      (r : Reach) × (HasUse plan user.block user.place r × ((place : ℕ) × (IsListed user.bank place r.banks × (port_bound plan u user.block user.place user.bank r ≡ port))))

  pub own_listed : (port : ℕ) (user : User) → HasUser user (users_of plan u port) → IsOwn port user
  own_listed port user h =
      let p = picked_from port user (blocks_users plan u 0 plan.blocks) h in
      let b = of_blocks 0 plan.blocks p.keyed p.among in
      let o = of_operations b.number 0 b.block.operations p.keyed b.among in
      let k = of_banks b.number o.number o.reach o.reach.banks p.keyed o.among in
      let block_is : b.place ≡ b.number = (let e = b.number_is in omega (arith, e)) in
      let place_is : o.place ≡ o.number = (let e = o.number_is in omega (arith, e)) in
      let user_is : user ≡ user_at b.number o.number k.bank = p.user_is ∙ ap (λ y. y.item) k.is in
      let there : slice_get (operations_in plan b.number) o.number ≡ Some o.operation =
      (ap (λ (w : Option PlanBlock). slice_get (block_operations w) o.number) (ap (λ n. slice_get plan.blocks n) (sym block_is) ∙ b.there)
      ∙ (ap (λ n. slice_get b.block.operations n) (sym place_is) ∙ o.there)) in
      subst (λ (v : User). IsOwn port v) (sym user_is)
      (o.reach, (record { operation = o.operation; there = there; uses = o.used }, (k.bank_place, (k.listed, ap (λ y. y.key) (sym k.is) ∙ p.port_is))))
