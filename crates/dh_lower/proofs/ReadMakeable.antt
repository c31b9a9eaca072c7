-- The plan of one read of two banks is sound and addressed, and its graph, schedule and binding are right; so its net
-- plays it.
use Rattle.std.proofs.Common.{◌≡◌, ℕ, zero, suc, ◌+◌, ◌<◌, ◌≤◌, ◌⊎◌, inl, inr, Some, None, List, refl, sym, ap, subst, ◌∙◌, arith}
use Rattle.std.specs.Prelude.{[], ◌∷◌, slice_get, slice_index}
use Rattle.dh_tree.specs.Elements.{Spot, dims_at, ports_at, position_in_bank}
use Rattle.dh_plan.specs.declared.operations.Operation.{Operation}
use Rattle.dh_plan.specs.declared.operations.Reach.{Reach}
use Rattle.dh_plan.specs.Blocks.{spot_of_reach}
use Rattle.dh_plan.specs.BoundPorts.{ArePorts, port_used}
use Rattle.dh_plan.specs.LegalSchedules.{IsLegal, IsLegalBlock, needed_clock, clocks_in}
use Rattle.dh_plan.specs.Ordered.{IsBetween, TakesEarlier, IsOrdered}
use Rattle.dh_plan.specs.PlainPlans.{no_nodes, first_in, operations_in}
use Rattle.dh_plan.specs.PlanKinds.{IsFormedBlock, OperationSuits, kinds_of}
use Rattle.dh_plan.specs.PlanRuns.{PlanTodo, over, nodes_then, plan_next_of, start_at, block_values}
use Rattle.dh_plan.specs.PlayedPlans.{PlaysPlan}
use Rattle.dh_plan.specs.ScheduleLaws.{without_limits}
use Rattle.dh_plan.specs.SoundPlans.{access_in, use_in, writes_memory, HasAccess, HasUse, IsListed, WritesAt, Reaches, KeepsBanks, StepsKeepBanks, IsFormed, FormAddressed, IsInRange, IsAddressed}
use Rattle.dh_plan.specs.Ways.{FlowsAs, leads_to, resolve, way_of_stop}
use Rattle.dh_plan.proofs.StoringSound.{zero_between, one_between}
use Rattle.dh_lower.specs.ExampleSelects.{picked_row, two_banks, read_operations, read_plan, read_making, read_net, read_holds}
use Rattle.dh_lower.specs.MadeNets.{IsMakeable}
use Rattle.dh_lower.proofs.NetSimulates.{net_plays}
use Rattle.dh_lower.proofs.ReadNetMade.{each_place, two_banks_table, one_bit, same_item, read_found, bank_listed, read_net_made}

-- Operations.

two_between : IsBetween 0 3 2
two_between = ((let s : 0 ≤ 2 = omega arith in s), (let s : 2 < 3 = omega arith in s))

read_ordered : IsOrdered 0 read_operations
read_ordered = record {
  each = λ i o e.
      each_place (λ n x. TakesEarlier 0 (0 + n) x) read_operations
      (tt, (tt, ((zero_between 2 (omega arith), (one_between 2 (omega arith), tt)), ((two_between, tt), tt)))) i o e;
}

banks_once : (i j : ℕ) (b c : ℕ × ℕ) → slice_get picked_row.banks i ≡ Some b → slice_get picked_row.banks j ≡ Some c → b.0 ≡ c.0 → i ≡ j
banks_once i j b c p q same =
    let own : (n : ℕ) (x : ℕ × ℕ) → slice_get picked_row.banks n ≡ Some x → x.0 ≡ n = each_place (λ n x. x.0 ≡ n) picked_row.banks (refl, (refl, tt)) in
    sym (own i b p) ∙ (same ∙ own j c q)

read_suits : (i : ℕ) (o : Operation) → slice_get read_operations i ≡ Some o → OperationSuits read_plan 0 (kinds_of read_plan 0) o
read_suits i o e =
    each_place (λ n x. OperationSuits read_plan 0 (kinds_of read_plan 0) x) read_operations (
      record { guard = tt; form = (let s : 0 < 2 = omega arith in s) },
      (
        record { guard = tt; form = record { sized = one_bit; fits = (let s : 0 < 2 = omega arith in s) } },
        (
          record {
            guard = tt;
            form = (
              record {
                memory = (let s : 0 < 1 = omega arith in s);
                banks = record { there = ((let s : 0 < 2 = omega arith in s), ((let s : 1 < 2 = omega arith in s), tt)); once = banks_once };
                indices = tt;
                select = ((1, refl), tt);
                row = (one_bit, tt);
                element = refl;
              },
              tt,
            );
          },
          (record { guard = tt; form = ((let s : 1 < 2 = omega arith in s), refl) }, tt),
        ),
      ),
    ) i o e

read_block : (block : ℕ) → IsFormedBlock read_plan block
read_block zero = record { ordered = read_ordered; suits = read_suits }
read_block (suc block) = record { ordered = record { each = λ i o e. absurd (let f : None ≡ Some o = e in cc) }; suits = λ i o e. absurd (let f : None ≡ Some o = e in cc) }

-- Accesses.

accessed : (i : ℕ) (o : Operation) (r : Reach) → slice_get read_operations i ≡ Some o → access_in o.form ≡ Some r → picked_row ≡ r
accessed i o r at =
    each_place (λ n x. access_in x.form ≡ Some r → picked_row ≡ r) read_operations
    ((λ u. absurd (let none : None ≡ Some r = u in cc)), ((λ u. absurd (let none : None ≡ Some r = u in cc)), ((λ u. same_item picked_row r u), ((λ u. absurd (let none : None ≡ Some r = u in cc)), tt)))) i o at

the_access : (b i : ℕ) (r : Reach) → HasAccess read_plan b i r → picked_row ≡ r
the_access zero i r h = accessed i h.operation r h.there h.accesses
the_access (suc b) i r h = absurd (let f : None ≡ Some h.operation = h.there in cc)

read_formed : IsFormed read_plan
read_formed =
    record {
      table = two_banks_table;
      views = tt;
      blocks = read_block;
      nodes = ((let s : 0 < 1 = omega arith in s), tt);
      distinct = tt;
      met = λ b i r h. ap (λ (x : Reach). x.access) (sym (the_access b i r h));
      one_memory = λ b c i j r t h g same. ap (λ (x : Reach). x.memory) (sym (the_access b i r h) ∙ the_access c j t g);
      threads = (tt, tt);
      counters = record { wide = tt; apart = λ i j c d h g same. absurd (let f : None ≡ Some c = h in cc) };
      counters_kept = tt;
      flags = tt;
    }

-- what is used
record IsTheUse (b i : ℕ) (r : Reach) : Type 0 where
  pub block : b ≡ 0
  pub place : i ≡ 2
  pub reach : picked_row ≡ r

own_use : (b i : ℕ) (r : Reach) → HasUse read_plan b i r → IsTheUse b i r
own_use zero i r h = (let found = read_found i h.operation r h.there h.uses in record { block = refl; place = found.0; reach = found.1 })
own_use (suc b) i r h = absurd (let f : None ≡ Some h.operation = h.there in cc)

no_write : (b i : ℕ) → WritesAt read_plan b i → ⊥
no_write zero i h = each_place (λ n x. writes_memory x.form → ⊥) read_operations ((λ w. w), ((λ w. w), ((λ w. w), ((λ w. w), tt)))) i h.operation h.there h.writes
no_write (suc b) i h = (let f : None ≡ Some h.operation = h.there in cc)

-- Banks.

read_leads : (registers : List ℕ) (memories : List (List ℕ)) (spot : Spot)
    → spot_of_reach (start_at read_plan registers memories) 0 (block_values read_plan (start_at read_plan registers memories) 0) picked_row ≡ Some spot → slice_index registers 0 ≡ spot.bank
read_leads registers memories spot e = ap (λ (x : Spot). x.bank) (same_item _ spot e)

reaches : (registers : List ℕ) (memories : List (List ℕ)) (blocks : List ℕ) (b i : ℕ) (r : Reach) (spot : Spot) → Reaches read_plan (start_at read_plan registers memories) blocks b i r spot
    → IsTheUse b i r × (slice_index registers 0 ≡ spot.bank)
reaches registers memories blocks b i r spot x =
    let s = start_at read_plan registers memories in
    let found = own_use b i r (record { operation = x.operation; there = x.there; uses = x.uses }) in
    let leads = subst (λ (c : ℕ). spot_of_reach s (first_in read_plan c) (block_values read_plan s c) r ≡ Some spot) found.block x.leads in
    (found, read_leads registers memories spot (subst (λ (q : Reach). spot_of_reach s 0 (block_values read_plan s 0) q ≡ Some spot) (sym found.reach) leads))

is_listed : (bank : ℕ) → bank < 2 → IsListed bank 0 picked_row.banks
is_listed zero small = inl (refl, refl)
is_listed (suc zero) small = inr (inl (refl, refl))
is_listed (suc (suc bank)) small = absurd (omega (arith, small))

keeps_banks : (registers : List ℕ) (memories : List (List ℕ)) → slice_index registers 0 < 2 → KeepsBanks read_plan (start_at read_plan registers memories) (0 ∷ [])
keeps_banks registers memories small =
    let w = reaches registers memories (0 ∷ []) in
    record {
      listed = λ b i r spot x.
          (0, subst (λ (q : Reach). IsListed spot.bank 0 q.banks) (w b i r spot x).0.reach (is_listed spot.bank (subst (λ (n : ℕ). n < 2) (w b i r spot x).1 small)));
      never = λ b i c j r t x y first second apart. apart;
      placed = λ b i c j place r t x y first second same bank in_first in_second.
          ((w b i r x first).0.block ∙ sym (w c j t y second).0.block, (w b i r x first).0.place ∙ sym (w c j t y second).0.place);
      ordered = λ b i c j r t x y first second bank write_first write_second before. absurd (no_write b i write_first);
    }

read_keeps_banks : StepsKeepBanks read_plan
read_keeps_banks blocks loops h registers memories fit fits below =
    let one : blocks ≡ 0 ∷ [] = (elim h [
      | inl here ↦ here.0
      | inr none ↦ absurd none
    ]) in
    subst (λ (bs : List ℕ). KeepsBanks read_plan (start_at read_plan registers memories) bs) (sym one) (keeps_banks registers memories (fit.small 0))

-- Addresses.

read_forms : (block i : ℕ) (o : Operation) → slice_get (operations_in read_plan block) i ≡ Some o → FormAddressed o.form
read_forms zero i o e = each_place (λ n x. FormAddressed x.form) read_operations (tt, (tt, ((1, refl), (tt, tt)))) i o e
read_forms (suc block) i o e = absurd (let f : None ≡ Some o = e in cc)

in_range : (registers : List ℕ) (memories : List (List ℕ)) (block i : ℕ) (r : Reach) (o : Operation) → slice_get (operations_in read_plan block) i ≡ Some o → use_in o.form ≡ Some r
    → IsInRange read_plan (start_at read_plan registers memories) block i r o
in_range registers memories zero i r o e u =
    let found = read_found i o r e u in
    let bank = slice_index registers 0 in
    subst (λ (q : Reach). IsInRange read_plan (start_at read_plan registers memories) 0 i q o) found.1
    (record { spot = record { memory = 0; bank = bank; row = 0; position = position_in_bank (dims_at two_banks 0) bank 0 }; leads = refl })
in_range registers memories (suc block) i r o e u = absurd (let f : None ≡ Some o = e in cc)

read_addressed : IsAddressed read_plan
read_addressed = record { forms = read_forms; inside = λ blocks loops h registers memories fit fits below block i r o one e u on. in_range registers memories block i r o e u }

-- The graph, the schedule, the binding.

abbrev behind_state : ℕ → PlanTodo
behind_state zero = nodes_then no_nodes over
behind_state (suc state) = over

read_flows : FlowsAs read_making.flow read_plan
read_flows = record { behind = behind_state; after = λ fork. over; first = λ registers. refl; each = each_state; joined = λ fork registers. refl }
  where
    each_state : (state : ℕ) (registers : List ℕ)
        → leads_to read_making.flow.states behind_state (λ fork. over) (resolve read_plan.registers (way_of_stop (slice_get read_making.flow.states state)) registers) ≡ plan_next_of read_plan.registers (behind_state state) registers
    each_state zero registers = refl
    each_state (suc state) registers = refl

read_legal : IsLegal read_plan without_limits read_making.timing
read_legal = record { all_clocks = refl; all_lengths = refl; blocks = legal_block }
  where
    needs : (i : ℕ) (o : Operation) → slice_get read_operations i ≡ Some o → needed_clock 0 read_operations (clocks_in read_plan read_making.timing 0) o ≤ slice_index (clocks_in read_plan read_making.timing 0) i
    needs i o e =
        each_place (λ n x. needed_clock 0 read_operations (clocks_in read_plan read_making.timing 0) x ≤ slice_index (clocks_in read_plan read_making.timing 0) n) read_operations
        ((let s : 0 ≤ 0 = omega arith in s), ((let s : 0 ≤ 0 = omega arith in s), ((let s : 0 ≤ 0 = omega arith in s), ((let s : 1 ≤ 1 = omega arith in s), tt)))) i o e

    legal_block : (block : ℕ) → block < 1 → IsLegalBlock without_limits (first_in read_plan block) (operations_in read_plan block) (clocks_in read_plan read_making.timing block) (slice_index (2 ∷ []) block)
    legal_block zero h = record { needs = needs; products = λ clock. tt; chains = (tt, (tt, (tt, (tt, tt)))); ends = refl }
    legal_block (suc block) h = absurd (omega (arith, h))

listed_so : (b i : ℕ) (r : Reach) (bank place : ℕ) → HasUse read_plan b i r → IsListed bank place r.banks → ((0 ≡ bank) ⊎ (1 ≡ bank)) × (0 ≡ place)
listed_so b i r bank place h l = bank_listed bank place (subst (λ (x : Reach). IsListed bank place x.banks) (sym (own_use b i r h).reach) l)

port_is : (bank : ℕ) → (0 ≡ bank) ⊎ (1 ≡ bank) → port_used read_plan read_making.uses 0 2 bank ≡ Some 0
port_is bank h = elim h [
  | inl first ↦ subst (λ (n : ℕ). port_used read_plan read_making.uses 0 2 n ≡ Some 0) first refl
  | inr second ↦ subst (λ (n : ℕ). port_used read_plan read_making.uses 0 2 n ≡ Some 0) second refl
]

read_ports : ArePorts read_plan read_making.uses
read_ports =
    record {
      there = λ b i r bank place h l.
          let found = own_use b i r h in (
            0,
            (
              subst (λ (n : ℕ). port_used read_plan read_making.uses n i bank ≡ Some 0) (sym found.block)
                  (subst (λ (n : ℕ). port_used read_plan read_making.uses 0 n bank ≡ Some 0) (sym found.place) (port_is bank (listed_so b i r bank place h l).0)),
              subst (λ (x : Reach). 0 < ports_at read_plan.table x.memory) found.reach (let s : 0 < 1 = omega arith in s),
            ),
          );
      shared = λ b i c j bank m n port r t h first second.
          inr (ap (λ (x : Reach). x.access) (sym (own_use b i r h.first).reach ∙ (own_use c j t h.second).reach), sym (listed_so b i r bank m h.first h.in_first).1 ∙ (listed_so c j t bank n h.second h.in_second).1);
      rising = λ b i c j bank m n p q r t h write_first write_second first second later. absurd (no_write b i write_first);
    }

read_makeable : IsMakeable read_making without_limits
read_makeable = record { sound = record { formed = read_formed; steps = read_keeps_banks }; addressed = read_addressed; flows = read_flows; legal = read_legal; ports = read_ports }

pub read_plays : PlaysPlan read_plan (2 ∷ []) read_net
read_plays = net_plays read_making without_limits read_net read_holds read_makeable read_net_made
