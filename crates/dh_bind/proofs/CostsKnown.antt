-- The tables of costs are those of the plan: all uses of an access are of one memory, so that the last one noted is
-- that of each, and the charge of the plan on it is that of all operations of the access.
use Rattle.std.proofs.Common.{◌≡◌, ℕ, suc, zero, ◌*◌, ◌≤◌, ◌<◌, true, false, Bool, if◌then◌else◌, inl, inr, max, refl, ap, sym, ◌∙◌, subst, arith, List, [], ◌∷◌, ◌++◌, length, replicate, Option, Some, None}
use Rattle.std.specs.Prelude.{◌==◌, ◌&&◌, slice_get, slice_index}
use Rattle.std.specs.List.{AllByRecursion}
use Rattle.std.proofs.lemmas.Bool.{eqb-true, eq-eqb, cases_Bool, cases_lt}
use Rattle.std.proofs.lemmas.List.{length-replicate}
use Rattle.std.proofs.lemmas.Option.{slice_get_past}
use Rattle.dh_tree.specs.declared.tables.MemEntry.{MemEntry}
use Rattle.dh_tree.specs.Elements.{ports_at}
use Rattle.dh_tree.specs.Shapes.{IsMemory}
use Rattle.dh_plan.specs.declared.operations.Operation.{Operation}
use Rattle.dh_plan.specs.declared.operations.PlanBlock.{PlanBlock}
use Rattle.dh_plan.specs.declared.operations.Reach.{Reach}
use Rattle.dh_plan.specs.Passes.{MayBind}
use Rattle.dh_plan.specs.PlainPlans.{PlainPlan}
use Rattle.dh_plan.specs.SoundPlans.{use_in, HasUse, IsListed, IsFormed, KeepsItsPorts, place_charge, use_charge, operations_charge, blocks_charge, plan_charge}
use Rattle.dh_bind.specs.Drafts.{all_operations, operations_rows, operations_width, cell_of, flattened, AllUses}
use Rattle.dh_bind.specs.Costs.{Costs, AreCosts, memory_of_access, cost_on, cost, raw_use, raw_charge, use_memory, last_memory, Noted, costs_in, FitsRows}
use Rattle.dh_bind.proofs.Begun.{ends_within}
use Rattle.dh_bind.proofs.Charged.{use_access, place_charged, load_fits}
use Rattle.dh_bind.proofs.Driven.{suits}
use Rattle.dh_bind.proofs.Flat.{use_in_all, use_has_row, uses_of_blocks}
use Rattle.dh_bind.proofs.Widths.{banks_fit}

-- no memory has more than 8 ports
pub few_ports : (table : List MemEntry) (memory : ℕ) → AllByRecursion IsMemory table → ports_at table memory ≤ 8
few_ports [] memory all = omega arith
few_ports (e ∷ es) zero all = all.0.shape.most
few_ports (e ∷ es) (suc memory) all = few_ports es memory all.1

pub all_listed : (P : ℕ × ℕ → Type 0) (bs : List (ℕ × ℕ)) → ((bank place : ℕ) → IsListed bank place bs → P (bank, place)) → AllByRecursion P bs
all_listed P [] f = tt
all_listed P (b ∷ bs) f = (f b.0 b.1 (inl (refl, refl)), all_listed P bs (λ bank place h. f bank place (inr h)))

all_both : (P Q : ℕ × ℕ → Type 0) (bs : List (ℕ × ℕ)) → AllByRecursion P bs → AllByRecursion Q bs → AllByRecursion (λ b. P b × Q b) bs
all_both P Q [] p q = tt
all_both P Q (b ∷ bs) p q = ((p.0, q.0), all_both P Q bs p.1 q.1)

pub places_few : (plan : PlainPlan) → IsFormed plan → KeepsItsPorts plan → (b i : ℕ) (r : Reach) (bank place : ℕ) → HasUse plan b i r → IsListed bank place r.banks → place < 8
places_few plan formed keeps b i r bank place h listed =
    let below = place_charged plan b i r bank place h listed in
    let within = ends_within (plan_charge plan r.memory bank) r.access plan.meets formed.distinct (formed.met b i r (use_access plan b i r h)) in
    let loaded = load_fits plan formed keeps r.memory bank in
    let few = few_ports plan.table r.memory formed.table.entries in
    omega (arith, below, within, loaded, few)

pub fit_rows : (plan : PlainPlan) → IsFormed plan → KeepsItsPorts plan → AllUses (FitsRows (operations_rows (all_operations plan.blocks)) (operations_width (all_operations plan.blocks))) (all_operations plan.blocks)
fit_rows plan formed keeps = uses_of_blocks plan (FitsRows (operations_rows (all_operations plan.blocks)) (operations_width (all_operations plan.blocks))) (λ b i r h. record {
  access = use_has_row plan b i r h;
  banks = all_both (λ x. x.0 < operations_width (all_operations plan.blocks)) (λ x. x.1 < 8) r.banks (banks_fit plan b i r h) (all_listed (λ x. x.1 < 8) r.banks (λ bank place listed. places_few plan formed keeps b i r bank place h listed));
})

-- the last memory, where all are one
same_use : (access m : ℕ) (u : Option Reach) (d : Option ℕ) → d ≡ Some m → ((r : Reach) → u ≡ Some r → r.access ≡ access → r.memory ≡ m) → use_memory access u d ≡ Some m
same_use access m None d e all = e
same_use access m (Some r) d e all = elim (cases_Bool (r.access == access)) [
  | inl t ↦ ap (λ (b : Bool). if b then Some r.memory else d) t ∙ ap (λ (k : ℕ). Some k) (all r refl (eqb-true r.access access t))
  | inr f ↦ ap (λ (b : Bool). if b then Some r.memory else d) f ∙ e
]

last_keeps : (access m : ℕ) (os : List Operation) (d : Option ℕ) → d ≡ Some m → AllUses (λ r. r.access ≡ access → r.memory ≡ m) os → last_memory access os d ≡ Some m
last_keeps access m [] d e all = e
last_keeps access m (o ∷ os) d e all = last_keeps access m os (use_memory access (use_in o.form) d) (same_use access m (use_in o.form) d e (λ r f. all 0 o r refl f)) (λ k p r f g. all (suc k) p r f g)

pub last_finds : (access m : ℕ) (os : List Operation) (d : Option ℕ) (k : ℕ) (o : Operation) (r : Reach) → slice_get os k ≡ Some o → use_in o.form ≡ Some r → r.access ≡ access
    → AllUses (λ q. q.access ≡ access → q.memory ≡ m) os → last_memory access os d ≡ Some m
last_finds access m [] d k o r e f g all = absurd (let h : None ≡ Some o = e in cc)
last_finds access m (p ∷ os) d zero o r e f g all =
    let same : p ≡ o = (let h : Some p ≡ Some o = e in cc) in
    let used : use_in p.form ≡ Some r = ap (λ (q : Operation). use_in q.form) same ∙ f in
    last_keeps access m os (use_memory access (use_in p.form) d)
    (ap (λ (u : Option Reach). use_memory access u d) used
    ∙ (ap (λ (b : Bool). if b then Some r.memory else d) (eq-eqb r.access access g) ∙ ap (λ (n : ℕ). Some n) (all 0 p r refl used g)))
    (λ j q s h l. all (suc j) q s h l)
last_finds access m (p ∷ os) d (suc k) o r e f g all = last_finds access m os (use_memory access (use_in p.form) d) k o r e f g (λ j q s h l. all (suc j) q s h l)

-- it is that of a use
use_from : (access m n : ℕ) (u : Option Reach) (d : Option ℕ) → (d ≡ Some m → m < n) → ((r : Reach) → u ≡ Some r → r.memory < n) → use_memory access u d ≡ Some m → m < n
use_from access m n None d below all e = below e
use_from access m n (Some r) d below all e = elim (cases_Bool (r.access == access)) [
  | inl t ↦ (let h : Some r.memory ≡ Some m = sym (ap (λ (b : Bool). if b then Some r.memory else d) t) ∙ e in
      let k : r.memory ≡ m = (cc) in subst (λ (x : ℕ). x < n) k (all r refl))
  | inr f ↦ below (sym (ap (λ (b : Bool). if b then Some r.memory else d) f) ∙ e)
]

pub last_from : (access m n : ℕ) (os : List Operation) (d : Option ℕ) → (d ≡ Some m → m < n) → AllUses (λ r. r.memory < n) os → last_memory access os d ≡ Some m → m < n
last_from access m n [] d below all e = below e
last_from access m n (o ∷ os) d below all e =
    last_from access m n os (use_memory access (use_in o.form) d) (use_from access m n (use_in o.form) d below (λ r f. all 0 o r refl f)) (λ k p r f g. all (suc k) p r f g) e

-- the charge of all blocks is that of their operations
max_regroup : (a b c : ℕ) → max a (max b c) ≡ max (max a b) c
max_regroup a b c = grind arith

none_most : (n : ℕ) → n ≡ max 0 n
none_most n = grind arith

charges_joined : (access memory bank : ℕ) (xs ys : List Operation) → operations_charge access memory bank (xs ++ ys) ≡ max (operations_charge access memory bank xs) (operations_charge access memory bank ys)
charges_joined access memory bank [] ys = none_most (operations_charge access memory bank ys)
charges_joined access memory bank (o ∷ xs) ys =
    ap (λ (n : ℕ). max (use_charge access memory bank (use_in o.form)) n) (charges_joined access memory bank xs ys)
    ∙ max_regroup (use_charge access memory bank (use_in o.form)) (operations_charge access memory bank xs) (operations_charge access memory bank ys)

charges_flat : (access memory bank : ℕ) (bs : List PlanBlock) → blocks_charge access memory bank bs ≡ operations_charge access memory bank (all_operations bs)
charges_flat access memory bank [] = refl
charges_flat access memory bank (p ∷ bs) =
    ap (λ (n : ℕ). max (operations_charge access memory bank p.operations) n) (charges_flat access memory bank bs)
    ∙ sym (charges_joined access memory bank p.operations (all_operations bs))

-- of one memory it is the charge of all operations of the access
same_twice : (t : Bool) (n : ℕ) → n ≡ (if t then n else n)
same_twice true n = refl
same_twice false n = refl

cost_none : (n : Option ℕ) (memory : ℕ) → 0 ≡ cost_on n memory 0
cost_none None memory = refl
cost_none (Some m) memory = same_twice (m == memory) 0

cost_max : (n : Option ℕ) (memory x y : ℕ) → max (cost_on n memory x) (cost_on n memory y) ≡ cost_on n memory (max x y)
cost_max None memory x y = refl
cost_max (Some m) memory x y = chosen (m == memory)
  where
    chosen : (t : Bool) → max (if t then x else 0) (if t then y else 0) ≡ (if t then max x y else 0)
    chosen true = refl
    chosen false = refl

charge_is : (s t : Bool) (n : ℕ) → (if s && t then n else 0) ≡ (if s then (if t then n else 0) else 0)
charge_is true t n = refl
charge_is false t n = refl

use_tied : (access memory bank : ℕ) (n : Option ℕ) (u : Option Reach) → ((r : Reach) → u ≡ Some r → r.access ≡ access → n ≡ Some r.memory) → use_charge access memory bank u ≡ cost_on n memory (raw_use access bank u)
use_tied access memory bank n None all = cost_none n memory
use_tied access memory bank n (Some r) all = elim (cases_Bool (r.access == access)) [
  | inl t ↦ ap (λ (b : Bool). if b && (r.memory == memory) then place_charge bank r.banks else 0) t
      ∙ sym (ap (λ (b : Bool). cost_on n memory (if b then place_charge bank r.banks else 0)) t ∙ ap (λ (x : Option ℕ). cost_on x memory (place_charge bank r.banks)) (all r refl (eqb-true r.access access t)))
  | inr f ↦ ap (λ (b : Bool). if b && (r.memory == memory) then place_charge bank r.banks else 0) f
      ∙ (cost_none n memory ∙ sym (ap (λ (b : Bool). cost_on n memory (if b then place_charge bank r.banks else 0)) f))
]

pub all_tied : (access memory bank : ℕ) (n : Option ℕ) (os : List Operation) → AllUses (λ r. r.access ≡ access → n ≡ Some r.memory) os → operations_charge access memory bank os ≡ cost_on n memory (raw_charge access bank os)
all_tied access memory bank n [] all = cost_none n memory
all_tied access memory bank n (o ∷ os) all =
    ap (λ (x : ℕ). max x (operations_charge access memory bank os)) (use_tied access memory bank n (use_in o.form) (λ r f. all 0 o r refl f))
    ∙ (ap (λ (x : ℕ). max (cost_on n memory (raw_use access bank (use_in o.form))) x) (all_tied access memory bank n os (λ k p r f g. all (suc k) p r f g))
    ∙ cost_max n memory (raw_use access bank (use_in o.form)) (raw_charge access bank os))

-- all of it, of tables that held nothing at first
module _ (plan : PlainPlan) (formed : IsFormed plan) (old new : Costs) (noted : Noted new.wide (all_operations plan.blocks) old new)
    (none : (access : ℕ) → memory_of_access old.memories access ≡ None) (zeros : (cell : ℕ) → slice_index old.counts cell ≡ 0)
    (rows : length old.memories ≡ operations_rows (all_operations plan.blocks)) (cells : length old.counts ≡ length old.memories * new.wide)
    (wide : new.wide ≡ operations_width (all_operations plan.blocks)) where
  memory_is : (access : ℕ) → access < length old.memories → memory_of_access new.memories access ≡ last_memory access (all_operations plan.blocks) None
  memory_is access h = noted.memories access h ∙ ap (λ (m : Option ℕ). last_memory access (all_operations plan.blocks) m) (none access)

  row_there : (b i : ℕ) (r : Reach) → HasUse plan b i r → r.access < length old.memories
  row_there b i r h = let k = use_has_row plan b i r h in omega (arith, k, rows)

  all_one : (b i : ℕ) (r : Reach) → HasUse plan b i r → AllUses (λ q. q.access ≡ r.access → q.memory ≡ r.memory) (all_operations plan.blocks)
  all_one b i r h = uses_of_blocks plan (λ q. q.access ≡ r.access → q.memory ≡ r.memory) (λ c j q k e. formed.one_memory c b j i q r (use_access plan c j q k) (use_access plan b i r h) e)

  pub memories_known : (b i : ℕ) (r : Reach) → HasUse plan b i r → memory_of_access new.memories r.access ≡ Some r.memory
  memories_known b i r h =
      memory_is r.access (row_there b i r h)
      ∙ last_finds r.access r.memory (all_operations plan.blocks) None _ h.operation r (use_in_all plan b i r h) h.uses refl (all_one b i r h)

  tied : (access : ℕ) → AllUses (λ r. r.access ≡ access → memory_of_access new.memories access ≡ Some r.memory) (all_operations plan.blocks)
  tied access = uses_of_blocks plan (λ r. r.access ≡ access → memory_of_access new.memories access ≡ Some r.memory)
      (λ b i r h e. subst (λ (a : ℕ). memory_of_access new.memories a ≡ Some r.memory) e (memories_known b i r h))

  past : (access : ℕ) → length old.memories ≤ access → memory_of_access new.memories access ≡ None
  past access h = ap flattened (slice_get_past new.memories access (let r = noted.rows in omega (arith, r, h)))

  count_is : (access bank : ℕ) → access < length old.memories → bank < new.wide → slice_index new.counts (cell_of new.wide access bank) ≡ raw_charge access bank (all_operations plan.blocks)
  count_is access bank h below =
      noted.counts access bank h below ∙ (ap (λ (n : ℕ). max n (raw_charge access bank (all_operations plan.blocks))) (zeros (cell_of new.wide access bank)) ∙ sym (none_most (raw_charge access bank (all_operations plan.blocks))))

  charge_flat : (memory bank access : ℕ) → plan_charge plan memory bank access ≡ cost_on (memory_of_access new.memories access) memory (raw_charge access bank (all_operations plan.blocks))
  charge_flat memory bank access = charges_flat access memory bank plan.blocks ∙ all_tied access memory bank (memory_of_access new.memories access) (all_operations plan.blocks) (tied access)

  pub charges_known : (memory bank access : ℕ) → bank < new.wide → cost new memory bank access ≡ plan_charge plan memory bank access
  charges_known memory bank access below = elim (cases_lt access (length old.memories)) [
    | inl h ↦ ap (λ (n : ℕ). cost_on (memory_of_access new.memories access) memory n) (count_is access bank h below) ∙ sym (charge_flat memory bank access)
    | inr h ↦ ap (λ (m : Option ℕ). cost_on m memory (slice_index new.counts (cell_of new.wide access bank))) (past access h)
        ∙ sym (charge_flat memory bank access ∙ ap (λ (m : Option ℕ). cost_on m memory (raw_charge access bank (all_operations plan.blocks))) (past access h))
  ]

  pub memories_inside : (access memory : ℕ) → memory_of_access new.memories access ≡ Some memory → memory < length plan.table
  memories_inside access memory e = elim (cases_lt access (length old.memories)) [
    | inl h ↦ last_from access memory (length plan.table) (all_operations plan.blocks) None (λ f. absurd (let g : None ≡ Some memory = f in cc))
        (uses_of_blocks plan (λ r. r.memory < length plan.table) (λ b i r k. (suits plan formed b i r k).memory)) (sym (memory_is access h) ∙ e)
    | inr h ↦ absurd (let g : None ≡ Some memory = sym (past access h) ∙ e in cc)
  ]

  pub are_costs : AreCosts plan new
  are_costs = record {
    memories = memories_known;
    wide = wide;
    charges = charges_known;
    inside = memories_inside;
    rows = noted.rows ∙ rows;
    cells = noted.cells ∙ (cells ∙ ap (λ (n : ℕ). n * new.wide) (sym noted.rows));
  }

-- so of tables that begin with nothing
none_at : (n access : ℕ) → memory_of_access (replicate n None) access ≡ None
none_at zero access = refl
none_at (suc n) zero = refl
none_at (suc n) (suc access) = none_at n access

zero_at : (n cell : ℕ) → slice_index (replicate n 0) cell ≡ 0
zero_at zero cell = refl
zero_at (suc n) zero = refl
zero_at (suc n) (suc cell) = zero_at n cell

pub fit_rows_of : (plan : PlainPlan) → MayBind plan → (bs : List PlanBlock) → bs ≡ plan.blocks → (n : ℕ) → n ≡ operations_rows (all_operations bs) → (w : ℕ) → w ≡ operations_width (all_operations bs) → AllUses (FitsRows n w) (all_operations bs)
fit_rows_of plan may bs e n f w g =
    subst (λ (k : ℕ). AllUses (FitsRows k w) (all_operations bs)) (sym f)
    (subst (λ (k : ℕ). AllUses (FitsRows (operations_rows (all_operations bs)) k) (all_operations bs)) (sym g)
    (subst (λ (l : List PlanBlock). AllUses (FitsRows (operations_rows (all_operations l)) (operations_width (all_operations l))) (all_operations l)) (sym e) (fit_rows plan may.sound.formed may.ports)))

pub costs_begun : (plan : PlainPlan) → MayBind plan → (bs : List PlanBlock) → bs ≡ plan.blocks → (n : ℕ) → n ≡ operations_rows (all_operations bs) → (w : ℕ) → w ≡ operations_width (all_operations bs) → (m k : List (Option ℕ)) (c d : List ℕ) → m ≡ replicate n None → (p : ℕ) → p ≡ n * w → c ≡ replicate p 0
    → Noted w (all_operations bs) (costs_in w m c) (costs_in w k d) → AreCosts plan (costs_in w k d)
costs_begun plan may bs e n f w g m k c d h p q z noted =
    are_costs plan may.sound.formed (costs_in w m c) (costs_in w k d) (subst (λ (l : List PlanBlock). Noted w (all_operations l) (costs_in w m c) (costs_in w k d)) e noted)
    (λ access. ap (λ (l : List (Option ℕ)). memory_of_access l access) h ∙ none_at n access) (λ cell. ap (λ (l : List ℕ). slice_index l cell) z ∙ zero_at p cell)
    (ap (λ (l : List (Option ℕ)). length l) h ∙ (length-replicate n None ∙ (f ∙ ap (λ (l : List PlanBlock). operations_rows (all_operations l)) e)))
    (ap (λ (l : List ℕ). length l) z ∙ (length-replicate p 0 ∙ (q ∙ sym (ap (λ (l : List (Option ℕ)). length l * w) h ∙ ap (λ (x : ℕ). x * w) (length-replicate n None)))))
    (g ∙ ap (λ (l : List PlanBlock). operations_width (all_operations l)) e)
