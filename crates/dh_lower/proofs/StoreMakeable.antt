-- The plan of one store is sound and addressed, and its graph, schedule and binding are right; so its net plays it.
use Rattle.std.proofs.Common.{◌≡◌, ℕ, zero, suc, ◌+◌, ◌<◌, ◌≤◌, inl, inr, Some, None, List, refl, sym, ap, subst, ◌∙◌, arith}
use Rattle.std.specs.Prelude.{[], ◌∷◌, slice_get, slice_index}
use Rattle.dh_tree.specs.Elements.{Spot, ports_at}
use Rattle.dh_plan.specs.declared.operations.Operation.{Operation}
use Rattle.dh_plan.specs.declared.operations.Reach.{Reach}
use Rattle.dh_plan.specs.Blocks.{spot_of_reach}
use Rattle.dh_plan.specs.BoundPorts.{ArePorts, BothList, port_used}
use Rattle.dh_plan.specs.LegalSchedules.{IsLegal, IsLegalBlock, needed_clock, clocks_in}
use Rattle.dh_plan.specs.Ordered.{TakesEarlier, IsOrdered}
use Rattle.dh_plan.specs.PlainPlans.{no_nodes, first_in, operations_in}
use Rattle.dh_plan.specs.PlanKinds.{IsFormedBlock, OperationSuits, kinds_of}
use Rattle.dh_plan.specs.PlanRuns.{PlanTodo, over, nodes_then, plan_next_of, start_at, block_values}
use Rattle.dh_plan.specs.PlayedPlans.{PlaysPlan}
use Rattle.dh_plan.specs.ScheduleLaws.{without_limits}
use Rattle.dh_plan.specs.SoundPlans.{access_in, use_in, HasAccess, HasUse, IsListed, Reaches, KeepsBanks, StepsKeepBanks, IsFormed, FormAddressed, IsInRange, IsAddressed}
use Rattle.dh_plan.specs.Ways.{FlowsAs, leads_to, resolve, way_of_stop}
use Rattle.dh_plan.proofs.StoringSound.{storing_table, one_listed, zero_between, one_between}
use Rattle.dh_lower.specs.ExampleNets.{stored_row, store_plan, store_flow, store_making, store_net, store_holds}
use Rattle.dh_lower.specs.MadeNets.{IsMakeable}
use Rattle.dh_lower.proofs.NetSimulates.{net_plays}
use Rattle.dh_lower.proofs.StoreNetMade.{write_found, listed_zero, store_net_made}

-- Operations.

by_three : (P : ℕ → Operation → Type 0) → (p q r : Operation) → P 0 p → P 1 q → P 2 r → (i : ℕ) (o : Operation) → slice_get (p ∷ q ∷ r ∷ []) i ≡ Some o → P i o
by_three P p q r a b c zero o e = (let same : Some p ≡ Some o = e in let here : p ≡ o = cc in subst (λ (x : Operation). P 0 x) here a)
by_three P p q r a b c (suc zero) o e = (let same : Some q ≡ Some o = e in let here : q ≡ o = cc in subst (λ (x : Operation). P 1 x) here b)
by_three P p q r a b c (suc (suc zero)) o e = (let same : Some r ≡ Some o = e in let here : r ≡ o = cc in subst (λ (x : Operation). P 2 x) here c)
by_three P p q r a b c (suc (suc (suc i))) o e = absurd (let f : None ≡ Some o = e in cc)

store_ordered : IsOrdered 0 (operations_in store_plan 0)
store_ordered =
    record {
      each = λ i o e. by_three (λ (n : ℕ) (x : Operation). TakesEarlier 0 (0 + n) x) _ _ _ tt tt (zero_between 2 (omega arith), (one_between 2 (omega arith), tt)) i o e;
    }

store_suits : (i : ℕ) (o : Operation) → slice_get (operations_in store_plan 0) i ≡ Some o → OperationSuits store_plan 0 (kinds_of store_plan 0) o
store_suits i o e =
    by_three (λ (n : ℕ) (x : Operation). OperationSuits store_plan 0 (kinds_of store_plan 0) x) _ _ _
    (record { guard = tt; form = record { sized = ((let a : 1 ≤ 8 = omega arith in a), (let b : 8 ≤ 64 = omega arith in b)); fits = (let a : 7 < 256 = omega arith in a) } })
    (record { guard = tt; form = record { sized = ((let a : 1 ≤ 1 = omega arith in a), (let b : 1 ≤ 64 = omega arith in b)); fits = (let a : 1 < 2 = omega arith in a) } })
    (record {
      guard = tt;
      form = (
        record {
          memory = (let a : 0 < 1 = omega arith in a);
          banks = record { there = ((let a : 0 < 1 = omega arith in a), tt); once = one_listed };
          indices = tt;
          select = tt;
          row = (((let a : 1 ≤ 1 = omega arith in a), (let b : 1 ≤ 64 = omega arith in b)), tt);
          element = refl;
        },
        (refl, refl),
      );
    }) i o e

store_block : (block : ℕ) → IsFormedBlock store_plan block
store_block zero = record { ordered = store_ordered; suits = store_suits }
store_block (suc block) = record { ordered = record { each = λ i o e. absurd (let f : None ≡ Some o = e in cc) }; suits = λ i o e. absurd (let f : None ≡ Some o = e in cc) }

-- Accesses.

reach_zero : (r t : Reach) → Some r ≡ Some t → r.access ≡ 0 → r.memory ≡ 0 → (t.access ≡ 0) × (t.memory ≡ 0)
reach_zero r t e a m =
    let here : r ≡ t = cc in
    (subst (λ (x : Reach). x.access ≡ 0) here a, subst (λ (x : Reach). x.memory ≡ 0) here m)

access_zero : (b i : ℕ) (r : Reach) → HasAccess store_plan b i r → (r.access ≡ 0) × (r.memory ≡ 0)
access_zero zero i r h =
    by_three (λ (n : ℕ) (x : Operation). access_in x.form ≡ Some r → (r.access ≡ 0) × (r.memory ≡ 0)) _ _ _
    (λ u. absurd (let f : None ≡ Some r = u in cc)) (λ u. absurd (let f : None ≡ Some r = u in cc)) (λ u. reach_zero _ r u refl refl) i h.operation h.there h.accesses
access_zero (suc b) i r h = absurd (let f : None ≡ Some h.operation = h.there in cc)

store_formed : IsFormed store_plan
store_formed =
    record {
      table = storing_table;
      views = tt;
      blocks = store_block;
      nodes = ((let small : 0 < 1 = omega arith in small), tt);
      distinct = tt;
      met = λ b i r h. (access_zero b i r h).0;
      one_memory = λ b c i j r t h g same. (access_zero b i r h).1 ∙ sym (access_zero c j t g).1;
      threads = (tt, tt);
      counters = record { wide = tt; apart = λ i j c d h g same. absurd (let f : None ≡ Some c = h in cc) };
      counters_kept = tt;
      flags = tt;
    }

-- what is used
record IsTheUse (b i : ℕ) (r : Reach) : Type 0 where
  pub block : b ≡ 0
  pub place : i ≡ 2
  pub reach : stored_row ≡ r

the_use : (b i : ℕ) (r : Reach) → HasUse store_plan b i r → IsTheUse b i r
the_use zero i r h = (let found = write_found i h.operation r h.there h.uses in record { block = refl; place = found.0; reach = found.1 })
the_use (suc b) i r h = absurd (let f : None ≡ Some h.operation = h.there in cc)

-- Banks.

bank_of_some : (a b : Spot) → Some a ≡ Some b → a.bank ≡ b.bank
bank_of_some a b e = (let here : a ≡ b = cc in ap (λ (x : Spot). x.bank) here)

write_leads : (registers : List ℕ) (memories : List (List ℕ)) (spot : Spot)
    → spot_of_reach (start_at store_plan registers memories) 0 (block_values store_plan (start_at store_plan registers memories) 0) stored_row ≡ Some spot → spot.bank ≡ 0
write_leads registers memories spot e = sym (bank_of_some _ spot e)

reaches_zero : (registers : List ℕ) (memories : List (List ℕ)) (blocks : List ℕ) (b i : ℕ) (r : Reach) (spot : Spot)
    → Reaches store_plan (start_at store_plan registers memories) blocks b i r spot → IsTheUse b i r × (spot.bank ≡ 0)
reaches_zero registers memories blocks b i r spot x =
    let s = start_at store_plan registers memories in
    let found = the_use b i r (record { operation = x.operation; there = x.there; uses = x.uses }) in
    let leads = subst (λ (c : ℕ). spot_of_reach s (first_in store_plan c) (block_values store_plan s c) r ≡ Some spot) found.block x.leads in
    (found, write_leads registers memories spot (subst (λ (q : Reach). spot_of_reach s 0 (block_values store_plan s 0) q ≡ Some spot) (sym found.reach) leads))

keeps_banks : (registers : List ℕ) (memories : List (List ℕ)) → KeepsBanks store_plan (start_at store_plan registers memories) (0 ∷ [])
keeps_banks registers memories =
    let w = reaches_zero registers memories (0 ∷ []) in
    record {
      listed = λ b i r spot x.
          (0, subst (λ (q : Reach). IsListed spot.bank 0 q.banks) (w b i r spot x).0.reach (subst (λ (n : ℕ). IsListed n 0 stored_row.banks) (sym (w b i r spot x).1) (inl (refl, refl))));
      never = λ b i c j r t x y first second apart. apart;
      placed = λ b i c j place r t x y first second same bank in_first in_second.
          ((w b i r x first).0.block ∙ sym (w c j t y second).0.block, (w b i r x first).0.place ∙ sym (w c j t y second).0.place);
      ordered = λ b i c j r t x y first second bank write_first write_second before.
          absurd (elim before [
            | inl blocks ↦ elim blocks [ inl a ↦ a.1 | inr none ↦ none ]
            | inr places ↦ (let p = (w b i r x first).0.place in let q = (w c j t y second).0.place in let less = places.1 in omega (arith, p, q, less))
          ]);
    }

store_keeps_banks : StepsKeepBanks store_plan
store_keeps_banks blocks loops h registers memories fit fits below =
    let one : blocks ≡ 0 ∷ [] = (elim h [
      | inl here ↦ here.0
      | inr none ↦ absurd none
    ]) in
    subst (λ (bs : List ℕ). KeepsBanks store_plan (start_at store_plan registers memories) bs) (sym one) (keeps_banks registers memories)

-- Addresses.

store_forms : (block i : ℕ) (o : Operation) → slice_get (operations_in store_plan block) i ≡ Some o → FormAddressed o.form
store_forms zero i o e = by_three (λ (n : ℕ) (x : Operation). FormAddressed x.form) _ _ _ tt tt (1, refl) i o e
store_forms (suc block) i o e = absurd (let f : None ≡ Some o = e in cc)

in_range : (registers : List ℕ) (memories : List (List ℕ)) (block i : ℕ) (r : Reach) (o : Operation) → slice_get (operations_in store_plan block) i ≡ Some o → use_in o.form ≡ Some r
    → IsInRange store_plan (start_at store_plan registers memories) block i r o
in_range registers memories zero i r o e u =
    let found = write_found i o r e u in
    subst (λ (q : Reach). IsInRange store_plan (start_at store_plan registers memories) 0 i q o) found.1 (record { spot = record { memory = 0; bank = 0; row = 1; position = 1 }; leads = refl })
in_range registers memories (suc block) i r o e u = absurd (let f : None ≡ Some o = e in cc)

store_addressed : IsAddressed store_plan
store_addressed = record { forms = store_forms; inside = λ blocks loops h registers memories fit fits below block i r o one e u on. in_range registers memories block i r o e u }

-- The graph, the schedule, the binding.

abbrev behind_state : ℕ → PlanTodo
behind_state zero = nodes_then no_nodes over
behind_state (suc state) = over

store_flows : FlowsAs store_flow store_plan
store_flows = record { behind = behind_state; after = λ fork. over; first = λ registers. refl; each = each_state; joined = λ fork registers. refl }
  where
    each_state : (state : ℕ) (registers : List ℕ)
        → leads_to store_flow.states behind_state (λ fork. over) (resolve [] (way_of_stop (slice_get store_flow.states state)) registers) ≡ plan_next_of [] (behind_state state) registers
    each_state zero registers = refl
    each_state (suc state) registers = refl

store_needs : (i : ℕ) (o : Operation) → slice_get (operations_in store_plan 0) i ≡ Some o → needed_clock 0 (operations_in store_plan 0) (clocks_in store_plan store_making.timing 0) o ≡ 0
store_needs i o e = by_three (λ (n : ℕ) (x : Operation). needed_clock 0 (operations_in store_plan 0) (clocks_in store_plan store_making.timing 0) x ≡ 0) _ _ _ refl refl refl i o e

store_legal : IsLegal store_plan without_limits store_making.timing
store_legal = record { all_clocks = refl; all_lengths = refl; blocks = legal_block }
  where
    legal_block : (block : ℕ) → block < 1 → IsLegalBlock without_limits (first_in store_plan block) (operations_in store_plan block) (clocks_in store_plan store_making.timing block) (slice_index (1 ∷ []) block)
    legal_block zero h = record { needs = λ i o e. (let none = store_needs i o e in omega (arith, none)); products = λ clock. tt; chains = (tt, (tt, (tt, tt))); ends = refl }
    legal_block (suc block) h = absurd (omega (arith, h))

place_zero : (bank place : ℕ) → IsListed bank place stored_row.banks → 0 ≡ place
place_zero bank place h = elim h [
  | inl here ↦ here.1
  | inr none ↦ absurd none
]

listed_so : (b i : ℕ) (r : Reach) (bank place : ℕ) → HasUse store_plan b i r → IsListed bank place r.banks → IsListed bank place stored_row.banks
listed_so b i r bank place h l = subst (λ (x : Reach). IsListed bank place x.banks) (sym (the_use b i r h).reach) l

same_place : (b i c j bank m n : ℕ) (r t : Reach) → BothList store_plan b i c j bank m n r t → m ≡ n
same_place b i c j bank m n r t h = sym (place_zero bank m (listed_so b i r bank m h.first h.in_first)) ∙ place_zero bank n (listed_so c j t bank n h.second h.in_second)

store_ports : ArePorts store_plan store_making.uses
store_ports =
    record {
      there = λ b i r bank place h l.
          let found = the_use b i r h in
          let zero_bank = listed_zero bank place (listed_so b i r bank place h l) in (
            0,
            (
              subst (λ (n : ℕ). port_used store_plan store_making.uses n i bank ≡ Some 0) (sym found.block)
                  (subst (λ (n : ℕ). port_used store_plan store_making.uses 0 n bank ≡ Some 0) (sym found.place) (subst (λ (n : ℕ). port_used store_plan store_making.uses 0 2 n ≡ Some 0) zero_bank refl)),
              subst (λ (x : Reach). 0 < ports_at store_plan.table x.memory) found.reach (let a : 0 < 1 = omega arith in a),
            ),
          );
      shared = λ b i c j bank m n port r t h first second.
          inr (sym (ap (λ (x : Reach). x.access) (the_use b i r h.first).reach) ∙ ap (λ (x : Reach). x.access) (the_use c j t h.second).reach, same_place b i c j bank m n r t h);
      rising = λ b i c j bank m n p q r t h write_first write_second first second later.
          absurd (elim later [
            | inl before ↦ before.0
            | inr more ↦ (let same = same_place b i c j bank m n r t h in let less = more.1 in omega (arith, same, less))
          ]);
    }

store_makeable : IsMakeable store_making without_limits
store_makeable = record { sound = record { formed = store_formed; steps = store_keeps_banks }; addressed = store_addressed; flows = store_flows; legal = store_legal; ports = store_ports }

pub store_plays : PlaysPlan store_plan (1 ∷ []) store_net
store_plays = net_plays store_making without_limits store_net store_holds store_makeable store_net_made
