-- The ports of a whole plan. A walk that began with nothing spent grants each access, on each bank that it charges,
-- ports from where it begins; the charges of the walk's tables are those of the plan. No walk finds a bank full, since
-- no bank is loaded beyond its ports.
use Rattle.std.proofs.Common.{◌≡◌, ℕ, suc, zero, ◌+◌, ◌*◌, ◌≤◌, ◌<◌, refl, ap, sym, ◌∙◌, subst, arith, List, [], ◌∷◌, length, map, replicate, Option, Some, None, Err}
use Rattle.std.specs.Prelude.{slice_index}
use Rattle.std.specs.List.{AllByRecursion}
use Rattle.std.proofs.lemmas.List.{length-replicate, length-map}
use Rattle.dh_tree.specs.declared.tables.MemEntry.{MemEntry}
use Rattle.dh_tree.specs.Elements.{ports_at}
use Rattle.dh_tree.specs.Meets.{load}
use Rattle.dh_ledger.specs.Spending.{Spending}
use Rattle.dh_plan.specs.declared.operations.Operation.{Operation}
use Rattle.dh_plan.specs.declared.operations.Reach.{Reach}
use Rattle.dh_plan.specs.declared.plans.Plan.{Plan}
use Rattle.dh_plan.specs.BoundPorts.{Uses, port_used, AreGranted, ArePorts}
use Rattle.dh_plan.specs.Passes.{MayBind}
use Rattle.dh_plan.specs.PlainPlans.{PlainPlan, first_in}
use Rattle.dh_plan.specs.SeenPlans.{plan_seen, meets_seen}
use Rattle.dh_plan.specs.SoundPlans.{HasUse, IsListed, plan_charge}
use Rattle.dh_bind.specs.Begins.{begin}
use Rattle.dh_bind.specs.Costs.{Costs, AreCosts, cost, last_memory}
use Rattle.dh_bind.specs.Drafts.{Draft, all_operations, first_at, draft_uses, all_pairs, AllUses, PortsFit, FitsPair, operations_rows, draft_access_count, operations_width, draft_width}
use Rattle.dh_bind.specs.Fresh.{fresh}
use Rattle.dh_bind.specs.Ledgers.{spent_at, ports_in, ledger_banks, AreMarks}
use Rattle.dh_bind.specs.Standings.{Standing, MeetsWalked, Overdrawn, WalksMeets, IsStanding, IsBegun, PortsArePlaced}
use Rattle.dh_bind.specs.declared.ledgers.LedgerMark.{LedgerMark}
use Rattle.dh_bind.specs.declared.walker.WalkStop.{WalkStop}
use Rattle.dh_bind.specs.declared.walker.WalkStop.TheVariants as stop
use Rattle.dh_bind.proofs.Charged.{use_access, place_charged, load_fits}
use Rattle.dh_bind.proofs.CostsKnown.{few_ports, all_listed, last_finds}
use Rattle.dh_bind.proofs.Driven.{listed_fits, port_at}
use Rattle.dh_bind.proofs.Flat.{use_in_all, uses_of_blocks, long_all}
use Rattle.dh_bind.proofs.Widths.{banks_fit}
use Rattle.dh_bind.proofs.Grants.{ends_fit, are_granted, are_ports, first_port}

-- all uses of an access are of one memory
abbrev pub number_of : Option ℕ → ℕ
number_of None = 0
number_of (Some n) = n

abbrev pub memory_in : PlainPlan → (access : ℕ) → ℕ
memory_in plan access = number_of (last_memory access (all_operations plan.blocks) None)

pub memory_in_is : (plan : PlainPlan) → MayBind plan → (b i : ℕ) (r : Reach) → HasUse plan b i r → memory_in plan r.access ≡ r.memory
memory_in_is plan may b i r h =
    ap number_of (last_finds r.access r.memory (all_operations plan.blocks) None (first_in plan b + i) h.operation r (use_in_all plan b i r h) h.uses refl
    (uses_of_blocks plan (λ q. q.access ≡ r.access → q.memory ≡ r.memory) (λ c j q k e. may.sound.formed.one_memory c b j i q r (use_access plan c j q k) (use_access plan b i r h) e)))

module _ (plan : Plan) (may : MayBind (plan_seen plan)) (start end : Standing) (begun : IsBegun plan start) where
  costs_are : (memory bank : ℕ) → bank < start.costs.wide → cost start.costs memory bank ≡ plan_charge (plan_seen plan) memory bank
  costs_are memory bank few = λ i access. begun.costs.charges memory bank access few i

  -- no bank is full
  pub never_full : Overdrawn start.costs (meets_seen plan.meets) start → ⊥
  never_full over =
      let beyond = over.beyond in
      let ports = begun.ports over.memory in
      let none = begun.spent over.memory over.bank in
      let e : load (cost start.costs over.memory over.bank) (meets_seen plan.meets) ≡ load (plan_charge (plan_seen plan) over.memory over.bank) (meets_seen plan.meets) = ap (λ (f : ℕ → ℕ). load f (meets_seen plan.meets)) (costs_are over.memory over.bank over.few) in
      let fits = load_fits (plan_seen plan) may.sound.formed may.ports over.memory over.bank in
      omega (arith, beyond, ports, none, e, fits)

  module _ (walked : MeetsWalked start.costs (meets_seen plan.meets) start end) where
    wide_is : start.costs.wide ≡ operations_width (all_operations plan.blocks)
    wide_is = begun.costs.wide

    -- the first port of an access
    pub first_of : (b i : ℕ) (r : Reach) (bank place : ℕ) → HasUse (plan_seen plan) b i r → IsListed bank place r.banks
        → first_at (operations_width (all_operations plan.blocks)) end.draft.firsts r.access bank ≡ Some (begin (plan_charge (plan_seen plan) r.memory bank) r.access (meets_seen plan.meets))
    first_of b i r bank place h listed =
        let few : bank < start.costs.wide =
        subst (λ (n : ℕ). bank < n) (sym wide_is) (listed_fits (operations_width (all_operations plan.blocks)) bank place r.banks (banks_fit (plan_seen plan) b i r h) listed) in
        let charged : 0 < cost start.costs r.memory bank r.access =
        (let e = begun.costs.charges r.memory bank r.access few in let k = place_charged (plan_seen plan) b i r bank place h listed in omega (arith, e, k)) in
        let none = begun.spent r.memory bank in
        let e : begin (cost start.costs r.memory bank) r.access (meets_seen plan.meets) ≡ begin (plan_charge (plan_seen plan) r.memory bank) r.access (meets_seen plan.meets) = ap (λ (f : ℕ → ℕ). begin f r.access (meets_seen plan.meets)) (costs_are r.memory bank few) in
        let k : spent_at start.ledgers r.memory bank + begin (cost start.costs r.memory bank) r.access (meets_seen plan.meets) ≡ begin (plan_charge (plan_seen plan) r.memory bank) r.access (meets_seen plan.meets) = omega (arith, none, e) in
        ap (λ (n : ℕ). first_at n end.draft.firsts r.access bank) (sym wide_is)
        ∙ (walked.granted.own may.sound.formed.distinct r.access bank r.memory few (may.sound.formed.met b i r (use_access (plan_seen plan) b i r h)) (begun.costs.memories b i r h) charged
        ∙ ap (λ (n : ℕ). Some n) k)

    plan_is : end.draft.plan ≡ plan
    plan_is = walked.keeps.plan ∙ begun.plan_is

    some_is : (a b : ℕ) → Some a ≡ Some b → a ≡ b
    some_is a b e = cc

    pair_fits : (b i : ℕ) (r : Reach) (bank place : ℕ) → HasUse (plan_seen plan) b i r → IsListed bank place r.banks → FitsPair (operations_width (all_operations plan.blocks)) end.draft.firsts r.access (bank, place)
    pair_fits b i r bank place h listed = record {
      bank = listed_fits (operations_width (all_operations plan.blocks)) bank place r.banks (banks_fit (plan_seen plan) b i r h) listed;
      port = λ first e.
          (let f = some_is _ _ (sym (first_of b i r bank place h listed) ∙ e) in
          let g = ends_fit (plan_seen plan) may.sound.formed may.ports (memory_in (plan_seen plan)) (memory_in_is (plan_seen plan) may) b i r bank h in
          let j : first_port (plan_seen plan) may.sound.formed may.ports (memory_in (plan_seen plan)) (memory_in_is (plan_seen plan) may) r.access bank ≡ begin (plan_charge (plan_seen plan) r.memory bank) r.access (meets_seen plan.meets) =
          ap (λ (m : ℕ). begin (plan_charge (plan_seen plan) m bank) r.access (meets_seen plan.meets)) (memory_in_is (plan_seen plan) may b i r h) in
          let k = place_charged (plan_seen plan) b i r bank place h listed in
          let l = few_ports plan.table r.memory may.sound.formed.table.entries in
          omega (arith, f, g, j, k, l));
    }

    fit_here : (p : Plan) → p ≡ plan → AllUses (λ r. AllByRecursion (FitsPair (operations_width (all_operations p.blocks)) end.draft.firsts r.access) r.banks) (all_operations p.blocks)
    fit_here p e = subst (λ (q : Plan). AllUses (λ r. AllByRecursion (FitsPair (operations_width (all_operations q.blocks)) end.draft.firsts r.access) r.banks) (all_operations q.blocks)) (sym e)
        (uses_of_blocks (plan_seen plan) (λ r. AllByRecursion (FitsPair (operations_width (all_operations plan.blocks)) end.draft.firsts r.access) r.banks)
        (λ b i r h. all_listed (FitsPair (operations_width (all_operations plan.blocks)) end.draft.firsts r.access) r.banks (λ bank place listed. pair_fits b i r bank place h listed)))

    pub ports_fit : PortsFit end.draft
    ports_fit = fit_here end.draft.plan plan_is

    long_pairs : (wide : ℕ) (f : List (Option ℕ)) (os : List Operation) → length (all_pairs wide f os) ≡ length os
    long_pairs wide f [] = refl
    long_pairs wide f (o ∷ os) = let e = long_pairs wide f os in omega (arith, e)

    abbrev drafted : Draft
    drafted = record { plan = plan; firsts = end.draft.firsts }

    placed_here : (p : Plan) → p ≡ plan → PortsArePlaced (plan_seen plan) (all_pairs (operations_width (all_operations p.blocks)) end.draft.firsts (all_operations p.blocks))
    placed_here p e = subst (λ (q : Plan). PortsArePlaced (plan_seen plan) (all_pairs (operations_width (all_operations q.blocks)) end.draft.firsts (all_operations q.blocks))) (sym e) (record {
      long = long_pairs (operations_width (all_operations plan.blocks)) end.draft.firsts (all_operations plan.blocks) ∙ long_all plan.blocks;
      placed = λ b i r bank place h listed.
          port_at drafted may.sound.formed b i bank place (begin (plan_charge (plan_seen plan) r.memory bank) r.access (meets_seen plan.meets)) r h listed (first_of b i r bank place h listed);
    })

    pub are_placed : (ports : List (List (ℕ × ℕ))) → ports ≡ (draft_uses end.draft).ports → PortsArePlaced (plan_seen plan) ports
    are_placed ports e = subst (λ (x : List (List (ℕ × ℕ))). PortsArePlaced (plan_seen plan) x) (sym e) (placed_here end.draft.plan plan_is)

-- fresh ledgers
pub fresh_spent : (table : List MemEntry) (memory bank : ℕ) → spent_at (map fresh table) memory bank ≡ 0
fresh_spent [] memory bank = refl
fresh_spent (e ∷ table) zero bank = zero_at 64 bank
  where
    zero_at : (n k : ℕ) → slice_index (replicate n 0) k ≡ 0
    zero_at zero k = refl
    zero_at (suc n) zero = refl
    zero_at (suc n) (suc k) = zero_at n k
fresh_spent (e ∷ table) (suc memory) bank = fresh_spent table memory bank

pub fresh_ports : (table : List MemEntry) (memory : ℕ) → ports_in (map fresh table) memory ≡ ports_at table memory
fresh_ports [] memory = refl
fresh_ports (e ∷ table) zero = refl
fresh_ports (e ∷ table) (suc memory) = fresh_ports table memory

pub fresh_banks : (table : List MemEntry) (memory : ℕ) → memory < length table → ledger_banks (map fresh table) memory ≡ 64
fresh_banks [] memory h = absurd (let k = h in omega (arith, k))
fresh_banks (e ∷ table) zero h = length-replicate {A = ℕ} 64 0
fresh_banks (e ∷ table) (suc memory) h = fresh_banks table memory (let k = h in omega (arith, k))

-- ports that are placed so are granted, and the ports of operations
module _ (plan : PlainPlan) (may : MayBind plan) (u : Uses) (placed : PortsArePlaced plan u.ports) where
  used_at : (b i : ℕ) (r : Reach) (bank place : ℕ) → HasUse plan b i r → IsListed bank place r.banks
      → port_used plan u b i bank ≡ Some (first_port plan may.sound.formed may.ports (memory_in plan) (memory_in_is plan may) r.access bank + place)
  used_at b i r bank place h listed =
      placed.placed b i r bank place h listed
      ∙ ap (λ (m : ℕ). Some (begin (plan_charge plan m bank) r.access plan.meets + place)) (sym (memory_in_is plan may b i r h))

  pub all_granted : (grant : (access bank : ℕ) → ℕ) × AreGranted plan u grant
  all_granted = (first_port plan may.sound.formed may.ports (memory_in plan) (memory_in_is plan may), are_granted plan may.sound.formed may.ports (memory_in plan) (memory_in_is plan may) u used_at)

  pub all_ports : ArePorts plan u
  all_ports = are_ports plan may.sound.formed may.ports (memory_in plan) (memory_in_is plan may) u used_at

-- a walk of which nothing is done yet
pub new_stands : (plan : Plan) → operations_width (all_operations plan.blocks) ≤ 64 → (c : Costs) → AreCosts (plan_seen plan) c → (d : Draft) → d.plan ≡ plan → d.firsts ≡ replicate (draft_access_count d * draft_width d) None → (ledgers : List Spending) (table : List MemEntry) → ledgers ≡ map fresh table → table ≡ plan.table
    → (log : List LedgerMark) → log ≡ [] → IsStanding (record { costs = c; ledgers = ledgers; log = log; draft = d })
new_stands plan few c costs d of none ledgers table e f log g =
    let all_ledgers : ledgers ≡ map fresh plan.table = e ∙ ap (λ (t : List MemEntry). map fresh t) f in
    let long : length ledgers ≡ length plan.table = ap (λ (l : List Spending). length l) all_ledgers ∙ length-map plan.table fresh in
    let rows : length c.memories ≡ draft_access_count d = costs.rows ∙ ap (λ (p : Plan). operations_rows (all_operations p.blocks)) (sym of) in
    let wide : c.wide ≡ draft_width d = costs.wide ∙ ap (λ (p : Plan). operations_width (all_operations p.blocks)) (sym of) in
    record {
      wide = wide;
      few = subst (λ (n : ℕ). n ≤ 64) (sym costs.wide) few;
      cells = costs.cells;
      rows = rows;
      firsts = ap (λ (l : List (Option ℕ)). length l) none ∙ (length-replicate {A = Option ℕ} (draft_access_count d * draft_width d) None
          ∙ (ap (λ (n : ℕ). n * draft_width d) (sym rows) ∙ ap (λ (n : ℕ). length c.memories * n) (sym wide)));
      inside = λ access memory h. (let k = costs.inside access memory h in omega (arith, k, long));
      banks = λ memory h. ap (λ (l : List Spending). ledger_banks l memory) all_ledgers ∙ fresh_banks plan.table memory (let k = h in omega (arith, k, long));
      marks = subst (λ (l : List LedgerMark). AreMarks ledgers l) (sym g) tt;
    }

pub new_begun : (plan : Plan) (c : Costs) → AreCosts (plan_seen plan) c → (d : Draft) → d.plan ≡ plan → (ledgers : List Spending) (table : List MemEntry) → ledgers ≡ map fresh table → table ≡ plan.table
    → (log : List LedgerMark) → IsBegun plan (record { costs = c; ledgers = ledgers; log = log; draft = d })
new_begun plan c costs d of ledgers table e f log =
    let all_ledgers : ledgers ≡ map fresh plan.table = e ∙ ap (λ (t : List MemEntry). map fresh t) f in
    record {
      costs = costs;
      plan_is = of;
      spent = λ memory bank. ap (λ (l : List Spending). spent_at l memory bank) all_ledgers ∙ fresh_spent plan.table memory bank;
      ports = λ memory. ap (λ (l : List Spending). ports_in l memory) all_ledgers ∙ fresh_ports plan.table memory;
    }

-- what a walk answers that finds a bank full
pub no_stop : (plan : Plan) → MayBind (plan_seen plan) → (start end : Standing) → IsBegun plan start → (e : WalkStop) → e ≡ stop.Full → WalksMeets (meets_seen plan.meets) start end (Err e) → ⊥
no_stop plan may start end begun e is walks = never_full plan may start end begun (subst (λ (x : WalkStop). WalksMeets (meets_seen plan.meets) start end (Err x)) is walks)
