-- A graph, a schedule and a binding of the plan of three stores, each as its pass states it.
use Rattle.std.proofs.Common.{◌≡◌, ℕ, zero, suc, ◌+◌, ◌<◌, ◌≤◌, inl, inr, Some, None, List, refl, sym, ap, subst, ◌∙◌, arith}
use Rattle.std.specs.Prelude.{[], ◌∷◌, ◌==◌, Bool, true, false, if◌then◌else◌, slice_get, slice_index}
use Rattle.dh_tree.specs.Elements.{ports_at}
use Rattle.dh_plan.specs.declared.operations.Operation.{Operation}
use Rattle.dh_plan.specs.declared.operations.Reach.{Reach}
use Rattle.dh_plan.specs.BoundPorts.{port_used, AreGranted, ArePorts, IsBinding}
use Rattle.dh_plan.specs.ExamplePlans.{nodes}
use Rattle.dh_plan.specs.ExamplePasses.{storing_flow, storing_timing, storing_uses}
use Rattle.dh_plan.specs.ExamplePrograms.{storing_plan}
use Rattle.dh_plan.specs.LegalSchedules.{is_product}
use Rattle.dh_plan.specs.PlainPlans.{block_node, no_nodes, operations_in}
use Rattle.dh_plan.specs.PlanRuns.{PlanTodo, over, nodes_then, turn_then, PlanNext, plan_next_of}
use Rattle.dh_plan.specs.SoundPlans.{HasUse, IsListed, plan_charge}
use Rattle.dh_plan.specs.Ways.{FlowsAs, GraphLed, leads_to, resolve, way_of_stop, way_of_join}
use Rattle.dh_plan.proofs.StoringPlan.{absent, the_write, write_found}

-- The graph.

-- what is still to come behind the one state
abbrev pub still_to_come : PlanTodo
still_to_come = nodes_then no_nodes (turn_then 0 3 (nodes (block_node 0 ∷ [])) (nodes_then no_nodes over))

abbrev pub behind_state : ℕ → PlanTodo
behind_state zero = still_to_come
behind_state (suc n) = over

abbrev pub behind_fork : ℕ → PlanTodo
behind_fork n = over

pub led_by : (t : Bool) (a b : GraphLed) (c d : PlanNext) → leads_to storing_flow.states behind_state behind_fork a ≡ c → leads_to storing_flow.states behind_state behind_fork b ≡ d
    → leads_to storing_flow.states behind_state behind_fork (if t then a else b) ≡ (if t then c else d)
led_by true a b c d e f = e
led_by false a b c d e f = f

pub storing_each : (state : ℕ) (registers : List ℕ)
    → leads_to storing_flow.states behind_state behind_fork (resolve storing_plan.registers (way_of_stop (slice_get storing_flow.states state)) registers)
    ≡ plan_next_of storing_plan.registers (behind_state state) registers
storing_each zero registers = led_by (slice_index registers 0 == 2) _ _ _ _ refl refl
storing_each (suc state) registers = refl

pub storing_joined : (fork : ℕ) (registers : List ℕ)
    → leads_to storing_flow.states behind_state behind_fork (resolve storing_plan.registers (way_of_join (slice_get storing_flow.joins fork)) registers)
    ≡ plan_next_of storing_plan.registers (behind_fork fork) registers
storing_joined zero registers = refl
storing_joined (suc fork) registers = refl

pub storing_flows : FlowsAs storing_flow storing_plan
storing_flows =
    record {
      behind = behind_state;
      after = behind_fork;
      first = λ registers. refl;
      each = storing_each;
      joined = storing_joined;
    }

-- The binding.

-- an operation with a use is the write of the one block, on its one bank
pub use_found : (b i : ℕ) (r : Reach) → HasUse storing_plan b i r → (b ≡ 0) × ((i ≡ 3) × (the_write ≡ r))
use_found zero i r h = (refl, write_found i h.operation r h.there h.uses)
use_found (suc b) i r h = absurd (let f : None ≡ Some h.operation = h.there in cc)

pub listed_zero : (r : Reach) (bank n : ℕ) → the_write ≡ r → IsListed bank n r.banks → (0 ≡ bank) × (0 ≡ n)
listed_zero r bank n same h =
    elim (subst (λ (q : Reach). IsListed bank n q.banks) (sym same) h) [ inl both ↦ both | inr none ↦ absurd none ]

pub charge_fits : (r : Reach) (bank : ℕ) → the_write ≡ r → 0 ≡ bank → 0 + plan_charge storing_plan r.memory bank r.access ≤ ports_at storing_plan.table r.memory
charge_fits r bank same zero_bank =
    subst (λ (q : Reach). 0 + plan_charge storing_plan q.memory bank q.access ≤ ports_at storing_plan.table q.memory) same
    (subst (λ (k : ℕ). 0 + plan_charge storing_plan 0 k 0 ≤ 1) zero_bank (let one : 1 ≤ 1 = omega arith in one))

pub port_is : (b i bank n : ℕ) → b ≡ 0 → i ≡ 3 → 0 ≡ bank → 0 ≡ n → port_used storing_plan storing_uses b i bank ≡ Some (0 + n)
port_is b i bank n here there zero_bank zero_place =
    subst (λ (c : ℕ). port_used storing_plan storing_uses c i bank ≡ Some (0 + n)) (sym here)
    (subst (λ (j : ℕ). port_used storing_plan storing_uses 0 j bank ≡ Some (0 + n)) (sym there)
    (subst (λ (k : ℕ). port_used storing_plan storing_uses 0 3 k ≡ Some (0 + n)) zero_bank
    (subst (λ (m : ℕ). port_used storing_plan storing_uses 0 3 0 ≡ Some (0 + m)) zero_place refl)))

pub storing_granted : AreGranted storing_plan storing_uses (λ access bank. 0)
storing_granted =
    record {
      within = λ b i r bank n h listed. (let u = use_found b i r h in charge_fits r bank u.1.1 (listed_zero r bank n u.1.1 listed).0);
      placed = λ b i r bank n h listed. (let u = use_found b i r h in let z = listed_zero r bank n u.1.1 listed in port_is b i bank n u.0 u.1.0 z.0 z.1);
      apart = λ b i c j bank m n r t both before may. absurd before;
    }

pub storing_ports : ArePorts storing_plan storing_uses
storing_ports =
    record {
      there = λ b i r bank n h listed.
          (let u = use_found b i r h in let z = listed_zero r bank n u.1.1 listed in
          (0, (port_is b i bank 0 u.0 u.1.0 z.0 refl, subst (λ (q : Reach). 0 < ports_at storing_plan.table q.memory) u.1.1 (let one : 0 < 1 = omega arith in one))));
      shared = λ b i c j bank m n port r t both first second.
          (let u = use_found b i r both.first in let v = use_found c j t both.second in
          let x = (listed_zero r bank m u.1.1 both.in_first).1 in let y = (listed_zero t bank n v.1.1 both.in_second).1 in
          inr (ap (λ (q : Reach). q.access) (sym u.1.1 ∙ v.1.1), sym x ∙ y));
      rising = λ b i c j bank m n p q r t both first second used used' later.
          absurd (elim later [
            | inl before ↦ before.0
            | inr greater ↦
                (let u = use_found b i r both.first in let v = use_found c j t both.second in
                let x = (listed_zero r bank m u.1.1 both.in_first).1 in let y = (listed_zero t bank n v.1.1 both.in_second).1 in
                let less = greater.1 in omega (arith, x, y, less))
          ]);
    }

pub no_product : (b i : ℕ) (o : Operation) → slice_get (operations_in storing_plan b) i ≡ Some o → is_product o.form ≡ true → ⊥
no_product zero i o e h =
    let f : is_product o.form ≡ false = absent (λ (q : Operation). is_product q.form) (operations_in storing_plan 0) refl i o e in
    let g : true ≡ false = sym h ∙ f in
    (cc)
no_product (suc b) i o e h = absurd (let f : None ≡ Some o = e in cc)

pub storing_binding : IsBinding storing_plan storing_timing storing_uses
storing_binding =
    record {
      all_ports = refl;
      all_units = refl;
      granted = ((λ access bank. 0), storing_granted);
      ports = storing_ports;
      units = record {
        rising = λ b i j o p first second product other less same. absurd (no_product b i o first product);
        few = λ b i o there product. absurd (no_product b i o there product);
      };
    }
