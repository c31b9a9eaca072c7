-- What a token drives. The port of an operation on a bank is looked up among its pairs, so it depends on the first
-- port of its access on that bank alone: it is that port and the operation's place. A grant changes the first port of
-- one access on one bank, and cells of different accesses or banks are different.
use Rattle.std.proofs.Common.{◌≡◌, ℕ, suc, zero, ◌+◌, ◌*◌, ◌≤◌, ◌<◌, true, false, Bool, if◌then◌else◌, inl, inr, refl, ap, sym, ◌∙◌, subst, arith, List, [], ◌∷◌, length, Option, Some, None}
use Rattle.std.specs.Prelude.{◌==◌, nat_lt, slice_get, slice_set, slice_index_or}
use Rattle.std.specs.List.{AllByRecursion}
use Rattle.std.proofs.lemmas.Bool.{eqb-true, eq-eqb, cases_Bool, cases_lt}
use Rattle.std.proofs.lemmas.Bool.Decides.{nat_tests}
use Rattle.std.proofs.lemmas.List.{length-set}
use Rattle.dh_tree.specs.declared.tables.MemEntry.{MemEntry}
use Rattle.dh_tree.specs.Elements.{banks_of, dims_at}
use Rattle.dh_tree.specs.Shapes.{IsMemory}
use Rattle.dh_plan.specs.declared.operations.Operation.{Operation}
use Rattle.dh_plan.specs.declared.operations.OperationForm.{OperationForm}
use Rattle.dh_plan.specs.declared.operations.OperationForm.TheVariants.{Constant, Old, Compute, Convert, Select, Check, Probe, Read, Write, Set}
use Rattle.dh_plan.specs.declared.operations.PlanBlock.{PlanBlock}
use Rattle.dh_plan.specs.declared.operations.Reach.{Reach}
use Rattle.dh_plan.specs.declared.plans.Plan.{Plan}
use Rattle.dh_plan.specs.BoundPorts.{port_among, port_used}
use Rattle.dh_plan.specs.Passes.{Drives}
use Rattle.dh_plan.specs.PlainPlans.{PlainPlan, first_in}
use Rattle.dh_plan.specs.PlanKinds.{ReachSuits, FormSuits, kinds_of}
use Rattle.dh_plan.specs.SoundPlans.{use_in, HasUse, IsListed, IsFormed}
use Rattle.dh_plan.specs.SeenPlans.{plan_seen}
use Rattle.dh_bind.specs.Drafts.{all_operations, operations_width, draft_width, cell_of, flattened, first_at, put_first, pair_with, pairs_of, use_pairs, all_pairs, Draft, IsDraft, draft_uses, draft_access_count, granted_at, AllUses}
use Rattle.dh_bind.proofs.Cells.{cell_inside, cells_alike, rows_apart}
use Rattle.dh_bind.proofs.Flat.{use_in_all, uses_of_blocks}
use Rattle.dh_bind.proofs.Widths.{banks_fit, width_most}

-- what is listed of a formed plan
form_reach : (plan : PlainPlan) (first : ℕ) (kinds : _) (f : OperationForm) (r : Reach) → FormSuits plan first kinds f → use_in f ≡ Some r → ReachSuits plan first kinds r
form_reach plan first kinds (Constant word) r s e = absurd (let f : None ≡ Some r = e in cc)
form_reach plan first kinds (Old register) r s e = absurd (let f : None ≡ Some r = e in cc)
form_reach plan first kinds (Compute op left right) r s e = absurd (let f : None ≡ Some r = e in cc)
form_reach plan first kinds (Convert inner to) r s e = absurd (let f : None ≡ Some r = e in cc)
form_reach plan first kinds (Select test a b) r s e = absurd (let f : None ≡ Some r = e in cc)
form_reach plan first kinds (Check ok fault) r s e = absurd (let f : None ≡ Some r = e in cc)
form_reach plan first kinds (Probe access fault) r s e = absurd (let f : None ≡ Some r = e in cc)
form_reach plan first kinds (Read access) r s e = subst (λ (q : Reach). ReachSuits plan first kinds q) (let f : access ≡ r = (let g : Some access ≡ Some r = e in cc) in f) s.0
form_reach plan first kinds (Write access value) r s e = subst (λ (q : Reach). ReachSuits plan first kinds q) (let f : access ≡ r = (let g : Some access ≡ Some r = e in cc) in f) s.0
form_reach plan first kinds (Set register value) r s e = absurd (let f : None ≡ Some r = e in cc)

pub suits : (plan : PlainPlan) → IsFormed plan → (b i : ℕ) (r : Reach) → HasUse plan b i r → ReachSuits plan (first_in plan b) (kinds_of plan b) r
suits plan formed b i r h = form_reach plan (first_in plan b) (kinds_of plan b) h.operation.form r ((formed.blocks b).suits i h.operation h.there).form h.uses

-- no memory has more than 64 banks
few_in : (table : List MemEntry) (memory : ℕ) → AllByRecursion IsMemory table → memory < length table → banks_of (dims_at table memory) ≤ 64
few_in [] memory all below = absurd (let h = below in omega (arith, h))
few_in (e ∷ es) zero all below = all.0.shape.few_banks
few_in (e ∷ es) (suc memory) all below = few_in es memory all.1 (let h = below in omega (arith, h))

all_weaker : (P Q : ℕ × ℕ → Type 0) → ((x : ℕ × ℕ) → P x → Q x) → (bs : List (ℕ × ℕ)) → AllByRecursion P bs → AllByRecursion Q bs
all_weaker P Q f [] all = tt
all_weaker P Q f (b ∷ bs) all = (f b all.0, all_weaker P Q f bs all.1)

banks_below : (plan : PlainPlan) → IsFormed plan → (b i : ℕ) (r : Reach) → HasUse plan b i r → AllByRecursion (λ x. x.0 < 64) r.banks
banks_below plan formed b i r h =
    let s = suits plan formed b i r h in
    let few = few_in plan.table r.memory formed.table.entries s.memory in
    all_weaker (λ x. x.0 < banks_of (dims_at plan.table r.memory)) (λ x. x.0 < 64) (λ x below. omega (arith, few, below)) r.banks s.banks.there

-- so rows are no wider
pub few_wide : (plan : PlainPlan) → IsFormed plan → operations_width (all_operations plan.blocks) ≤ 64
few_wide plan formed = width_most 64 (all_operations plan.blocks) (uses_of_blocks plan (λ r. AllByRecursion (λ x. x.0 < 64) r.banks) (banks_below plan formed))

pub width_fits : (plan : PlainPlan) → IsFormed plan → (bs : List PlanBlock) → bs ≡ plan.blocks → (wide : ℕ) → wide ≡ operations_width (all_operations bs) → wide ≤ 64
width_fits plan formed bs e wide f = subst (λ (n : ℕ). n ≤ 64) (sym (f ∙ ap (λ (l : List PlanBlock). operations_width (all_operations l)) e)) (few_wide plan formed)

-- a bank that is listed is one that all listed are
pub listed_fits : (n bank place : ℕ) (bs : List (ℕ × ℕ)) → AllByRecursion (λ x. x.0 < n) bs → IsListed bank place bs → bank < n
listed_fits n bank place [] every h = absurd h
listed_fits n bank place (b ∷ bs) every (inl h) = subst (λ (k : ℕ). k < n) h.0 every.0
listed_fits n bank place (b ∷ bs) every (inr h) = listed_fits n bank place bs every.1 h

-- a listed bank has an entry
listed_at : (bank place : ℕ) (bs : List (ℕ × ℕ)) → IsListed bank place bs → (j : ℕ) × ((c : ℕ × ℕ) × ((slice_get bs j ≡ Some c) × (c.0 ≡ bank)))
listed_at bank place [] h = absurd h
listed_at bank place (b ∷ bs) (inl h) = (0, (b, (refl, h.0)))
listed_at bank place (b ∷ bs) (inr h) = let x = listed_at bank place bs h in (suc x.0, x.1)

-- banks of which none is listed twice
abbrev pub AreOnce : List (ℕ × ℕ) → Type 0
AreOnce bs = (i j : ℕ) (b c : ℕ × ℕ) → slice_get bs i ≡ Some b → slice_get bs j ≡ Some c → b.0 ≡ c.0 → i ≡ j

once_behind : (b : ℕ × ℕ) (bs : List (ℕ × ℕ)) → AreOnce (b ∷ bs) → AreOnce bs
once_behind b bs once i j c d e f g = let h = once (suc i) (suc j) c d e f g in omega (arith, h)

first_alone : (b : ℕ × ℕ) (bs : List (ℕ × ℕ)) (bank place : ℕ) → AreOnce (b ∷ bs) → IsListed bank place bs → b.0 ≡ bank → ⊥
first_alone b bs bank place once listed e =
    let x = listed_at bank place bs listed in
    let h : 0 ≡ suc x.0 = once 0 (suc x.0) b x.1.0 refl x.1.1.0 (e ∙ sym x.1.1.1) in
    omega (arith, h)

-- looked up among pairs
among_kept : (bank : ℕ) (b : ℕ × ℕ) (first : Option ℕ) (ps : List (ℕ × ℕ)) → (b.0 == bank) ≡ false → port_among bank (pair_with first b ps) ≡ port_among bank ps
among_kept bank b None ps e = refl
among_kept bank b (Some first) ps e = ap (λ (t : Bool). if t then Some (first + b.1) else port_among bank ps) e

among_first : (bank first : ℕ) (b : ℕ × ℕ) (ps : List (ℕ × ℕ)) → (b.0 == bank) ≡ true → port_among bank (pair_with (Some first) b ps) ≡ Some (first + b.1)
among_first bank first b ps e = ap (λ (t : Bool). if t then Some (first + b.1) else port_among bank ps) e

pub is_not : (m n : ℕ) → (m ≡ n → ⊥) → (m == n) ≡ false
is_not m n none = elim (cases_Bool (m == n)) [ inl e ↦ absurd (none (eqb-true m n e)) | inr e ↦ e ]

-- the port is the first one and the place
pub pairs_among : (wide : ℕ) (firsts : List (Option ℕ)) (access bank place first : ℕ) (bs : List (ℕ × ℕ)) → AreOnce bs → IsListed bank place bs → first_at wide firsts access bank ≡ Some first
    → port_among bank (pairs_of wide firsts access bs) ≡ Some (first + place)
pairs_among wide firsts access bank place first [] once h e = absurd h
pairs_among wide firsts access bank place first (b ∷ bs) once (inl h) e =
    let here : first_at wide firsts access b.0 ≡ Some first = ap (λ (k : ℕ). first_at wide firsts access k) h.0 ∙ e in
    ap (λ (x : Option ℕ). port_among bank (pair_with x b (pairs_of wide firsts access bs))) here
    ∙ (among_first bank first b (pairs_of wide firsts access bs) (eq-eqb b.0 bank h.0) ∙ ap (λ (k : ℕ). Some (first + k)) h.1)
pairs_among wide firsts access bank place first (b ∷ bs) once (inr h) e =
    among_kept bank b (first_at wide firsts access b.0) (pairs_of wide firsts access bs) (is_not b.0 bank (first_alone b bs bank place once h))
    ∙ pairs_among wide firsts access bank place first bs (once_behind b bs once) h e

-- it depends on the first port of the bank alone
equal_heads : (bank : ℕ) (b : ℕ × ℕ) (x : Option ℕ) (ps qs : List (ℕ × ℕ)) → port_among bank ps ≡ port_among bank qs → (b.0 == bank) ≡ true → port_among bank (pair_with x b ps) ≡ port_among bank (pair_with x b qs)
equal_heads bank b None ps qs rest e = rest
equal_heads bank b (Some first) ps qs rest e = among_first bank first b ps e ∙ sym (among_first bank first b qs e)

heads_same : (bank : ℕ) (b : ℕ × ℕ) (x y : Option ℕ) (ps qs : List (ℕ × ℕ)) → (b.0 ≡ bank → x ≡ y) → port_among bank ps ≡ port_among bank qs → port_among bank (pair_with x b ps) ≡ port_among bank (pair_with y b qs)
heads_same bank b x y ps qs same rest = elim (cases_Bool (b.0 == bank)) [
  | inl e ↦ equal_heads bank b x ps qs rest e ∙ ap (λ (z : Option ℕ). port_among bank (pair_with z b qs)) (same (eqb-true b.0 bank e))
  | inr e ↦ among_kept bank b x ps e ∙ (rest ∙ sym (among_kept bank b y qs e))
]

pub pairs_same : (wide : ℕ) (f g : List (Option ℕ)) (access bank : ℕ) (bs : List (ℕ × ℕ)) → AllByRecursion (λ x. x.0 < wide) bs → (bank < wide → first_at wide f access bank ≡ first_at wide g access bank)
    → port_among bank (pairs_of wide f access bs) ≡ port_among bank (pairs_of wide g access bs)
pairs_same wide f g access bank [] all same = refl
pairs_same wide f g access bank (b ∷ bs) all same =
    heads_same bank b (first_at wide f access b.0) (first_at wide g access b.0) (pairs_of wide f access bs) (pairs_of wide g access bs)
    (λ e. subst (λ (k : ℕ). first_at wide f access k ≡ first_at wide g access k) (sym e) (same (subst (λ (k : ℕ). k < wide) e all.0)))
    (pairs_same wide f g access bank bs all.1 same)

-- the pairs of an operation
pub pairs_at : (wide : ℕ) (f : List (Option ℕ)) (os : List Operation) (k : ℕ) (o : Operation) → slice_get os k ≡ Some o → slice_index_or (all_pairs wide f os) k [] ≡ use_pairs wide f (use_in o.form)
pairs_at wide f [] k o e = absurd (let g : None ≡ Some o = e in cc)
pairs_at wide f (p ∷ os) zero o e = ap (λ (q : Operation). use_pairs wide f (use_in q.form)) (let g : Some p ≡ Some o = e in let h : p ≡ o = (cc) in h)
pairs_at wide f (p ∷ os) (suc k) o e = pairs_at wide f os k o e

used_same : (wide : ℕ) (f g : List (Option ℕ)) (bank : ℕ) (u : Option Reach) → ((r : Reach) → u ≡ Some r → AllByRecursion (λ x. x.0 < wide) r.banks) → ((access : ℕ) → bank < wide → first_at wide f access bank ≡ first_at wide g access bank)
    → port_among bank (use_pairs wide f u) ≡ port_among bank (use_pairs wide g u)
used_same wide f g bank None all same = refl
used_same wide f g bank (Some r) all same = pairs_same wide f g r.access bank r.banks (all r refl) (same r.access)

pub all_same : (wide : ℕ) (f g : List (Option ℕ)) (os : List Operation) (k bank : ℕ) → AllUses (λ r. AllByRecursion (λ x. x.0 < wide) r.banks) os → ((access : ℕ) → bank < wide → first_at wide f access bank ≡ first_at wide g access bank)
    → port_among bank (slice_index_or (all_pairs wide f os) k []) ≡ port_among bank (slice_index_or (all_pairs wide g os) k [])
all_same wide f g [] k bank all same = refl
all_same wide f g (o ∷ os) zero bank all same = used_same wide f g bank (use_in o.form) (λ r e. all 0 o r refl e) same
all_same wide f g (o ∷ os) (suc k) bank all same = all_same wide f g os k bank (λ i p r e h. all (suc i) p r e h) same

-- a grant changes the first port of one access on one bank
pub get_set_same : {A : Type 0} (xs : List A) (i : ℕ) (x : A) → i < length xs → slice_get (slice_set xs i x) i ≡ Some x
get_set_same [] i x h = absurd (let k = h in omega (arith, k))
get_set_same (y ∷ xs) zero x h = refl
get_set_same (y ∷ xs) (suc i) x h = get_set_same xs i x (let k = h in omega (arith, k))

pub get_set_other : {A : Type 0} (xs : List A) (i j : ℕ) (x : A) → (j ≡ i → ⊥) → slice_get (slice_set xs i x) j ≡ slice_get xs j
get_set_other [] i j x h = refl
get_set_other (y ∷ xs) zero zero x h = absurd (h refl)
get_set_other (y ∷ xs) zero (suc j) x h = refl
get_set_other (y ∷ xs) (suc i) zero x h = refl
get_set_other (y ∷ xs) (suc i) (suc j) x h = get_set_other xs i j x (λ e. h (ap (λ (k : ℕ). suc k) e))

test_true : (m n : ℕ) → m < n → nat_lt m n ≡ true
test_true m n h = grind (arith, nat_tests, h)

test_false : (m n : ℕ) → n ≤ m → nat_lt m n ≡ false
test_false m n h = grind (arith, nat_tests, h)

-- where it has a place there, and where it has none
pub put_inside : (wide : ℕ) (firsts : List (Option ℕ)) (access bank first : ℕ) → bank < wide → put_first wide firsts access bank first ≡ slice_set firsts (cell_of wide access bank) (Some first)
put_inside wide firsts access bank first h = ap (λ (t : Bool). if t then slice_set firsts (cell_of wide access bank) (Some first) else firsts) (test_true bank wide h)

pub put_nowhere : (wide : ℕ) (firsts : List (Option ℕ)) (access bank first : ℕ) → wide ≤ bank → put_first wide firsts access bank first ≡ firsts
put_nowhere wide firsts access bank first h = ap (λ (t : Bool). if t then slice_set firsts (cell_of wide access bank) (Some first) else firsts) (test_false bank wide h)

pub put_long : (wide : ℕ) (firsts : List (Option ℕ)) (access bank first : ℕ) → length (put_first wide firsts access bank first) ≡ length firsts
put_long wide firsts access bank first = of_test (nat_lt bank wide)
  where
    of_test : (t : Bool) → length (if t then slice_set firsts (cell_of wide access bank) (Some first) else firsts) ≡ length firsts
    of_test true = length-set firsts (cell_of wide access bank) (Some first)
    of_test false = refl

pub first_set : (wide : ℕ) (firsts : List (Option ℕ)) (access bank first : ℕ) → bank < wide → cell_of wide access bank < length firsts → first_at wide (put_first wide firsts access bank first) access bank ≡ Some first
first_set wide firsts access bank first few inside =
    ap (λ (l : List (Option ℕ)). first_at wide l access bank) (put_inside wide firsts access bank first few) ∙ ap flattened (get_set_same firsts (cell_of wide access bank) (Some first) inside)

pub first_kept : (wide : ℕ) (firsts : List (Option ℕ)) (access bank first a b : ℕ) → b < wide → ((a ≡ access) × (b ≡ bank) → ⊥) → first_at wide (put_first wide firsts access bank first) a b ≡ first_at wide firsts a b
first_kept wide firsts access bank first a b k other = elim (cases_lt bank wide) [
  | inl h ↦ ap (λ (l : List (Option ℕ)). first_at wide l a b) (put_inside wide firsts access bank first h)
      ∙ ap flattened (get_set_other firsts (cell_of wide access bank) (cell_of wide a b) (Some first) (λ e. other (cells_alike wide a b access bank k h e)))
  | inr h ↦ ap (λ (l : List (Option ℕ)). first_at wide l a b) (put_nowhere wide firsts access bank first h)
]

-- so a token drives the operations of its access on its bank
module _ (d : Draft) (formed : IsFormed (plan_seen d.plan)) where
  pub few_banks : AllUses (λ r. AllByRecursion (λ x. x.0 < draft_width d) r.banks) (all_operations d.plan.blocks)
  few_banks = uses_of_blocks (plan_seen d.plan) (λ r. AllByRecursion (λ x. x.0 < draft_width d) r.banks) (banks_fit (plan_seen d.plan))

  used_pairs : (firsts : List (Option ℕ)) (b i : ℕ) (r : Reach) → HasUse (plan_seen d.plan) b i r
      → slice_index_or (all_pairs (draft_width d) firsts (all_operations d.plan.blocks)) (first_in (plan_seen d.plan) b + i) [] ≡ pairs_of (draft_width d) firsts r.access r.banks
  used_pairs firsts b i r h =
      pairs_at (draft_width d) firsts (all_operations d.plan.blocks) (first_in (plan_seen d.plan) b + i) h.operation (use_in_all (plan_seen d.plan) b i r h)
      ∙ ap (λ (u : Option Reach). use_pairs (draft_width d) firsts u) h.uses

  -- the port of an operation is the first one of its access, and its place
  pub port_at : (b i bank place first : ℕ) (r : Reach) → HasUse (plan_seen d.plan) b i r → IsListed bank place r.banks → first_at (draft_width d) d.firsts r.access bank ≡ Some first
      → port_used (plan_seen d.plan) (draft_uses d) b i bank ≡ Some (first + place)
  port_at b i bank place first r h listed e =
      ap (λ (ps : List (ℕ × ℕ)). port_among bank ps) (used_pairs d.firsts b i r h)
      ∙ pairs_among (draft_width d) d.firsts r.access bank place first r.banks (suits (plan_seen d.plan) formed b i r h).banks.once listed e

pub drives : (d : Draft) → IsDraft d → (access memory bank first : ℕ) → access < draft_access_count d → Drives (plan_seen d.plan) access memory bank first (draft_uses d) (draft_uses (granted_at d access bank first))
drives d is access memory bank first inside = record {
  driven = λ b i place r h same same_memory listed.
      (let few = listed_fits (draft_width d) bank place r.banks (banks_fit (plan_seen d.plan) b i r h) listed in
      port_at (granted_at d access bank first) is.formed b i bank place first r h listed
      (ap (λ (a : ℕ). first_at (draft_width d) (put_first (draft_width d) d.firsts access bank first) a bank) same
      ∙ first_set (draft_width d) d.firsts access bank first few (subst (λ (n : ℕ). cell_of (draft_width d) access bank < n) (sym is.long) (cell_inside (draft_access_count d) (draft_width d) access bank inside few))));
  other_banks = λ b i other differs.
      all_same (draft_width d) (put_first (draft_width d) d.firsts access bank first) d.firsts (all_operations d.plan.blocks) (first_in (plan_seen d.plan) b + i) other (few_banks d is.formed)
      (λ a below. first_kept (draft_width d) d.firsts access bank first a other below (λ e. differs e.1));
  other_accesses = λ b i r h differs.
      ap (λ (ps : List (ℕ × ℕ)). port_among bank ps) (used_pairs d is.formed (put_first (draft_width d) d.firsts access bank first) b i r h)
      ∙ (pairs_same (draft_width d) (put_first (draft_width d) d.firsts access bank first) d.firsts r.access bank r.banks (banks_fit (plan_seen d.plan) b i r h)
      (λ below. first_kept (draft_width d) d.firsts access bank first r.access bank below (λ e. differs e.0))
      ∙ sym (ap (λ (ps : List (ℕ × ℕ)). port_among bank ps) (used_pairs d is.formed d.firsts b i r h)));
  units = refl;
}

abbrev made : Plan → List (Option ℕ) → Draft
made plan firsts = record { plan = plan; firsts = firsts }

-- the draft of which the fields are seen, and what a token drives
pub granted_fields : (d fields : Draft) → fields ≡ d → (wide : ℕ) → wide ≡ draft_width fields → (access bank first : ℕ) (next : List (Option ℕ)) → next ≡ put_first wide fields.firsts access bank first
    → record { plan = fields.plan; firsts = next } ≡ granted_at d access bank first
granted_fields d fields same wide w access bank first next e =
    ap (λ (xs : List (Option ℕ)). made fields.plan xs) (e ∙ ap (λ (n : ℕ). put_first n fields.firsts access bank first) w) ∙ ap (λ (x : Draft). granted_at x access bank first) same

pub drives_fields : (d fields : Draft) → fields ≡ d → IsDraft fields → (wide : ℕ) → wide ≡ draft_width fields → (access memory bank first : ℕ) (next : List (Option ℕ)) → access < draft_access_count d → next ≡ put_first wide fields.firsts access bank first
    → Drives (plan_seen d.plan) access memory bank first (draft_uses d) (draft_uses (record { plan = fields.plan; firsts = next }))
drives_fields d fields same is wide w access memory bank first next inside e =
    let there : IsDraft d = subst (λ (x : Draft). IsDraft x) same is in
    subst (λ (x : Draft). Drives (plan_seen d.plan) access memory bank first (draft_uses d) (draft_uses x)) (sym (granted_fields d fields same wide w access bank first next e)) (drives d there access memory bank first inside)

-- the row of an access is inside
pub row_inside : (d fields : Draft) → fields ≡ d → IsDraft fields → (wide : ℕ) → wide ≡ draft_width fields → (access : ℕ) → access < draft_access_count d → access * wide + wide ≤ length fields.firsts
row_inside d fields same is wide w access inside =
    let there : access < draft_access_count fields = subst (λ (x : Draft). access < draft_access_count x) (sym same) inside in
    subst (λ (n : ℕ). access * n + n ≤ length fields.firsts) (sym w)
    (subst (λ (n : ℕ). access * draft_width fields + draft_width fields ≤ n) (sym is.long) (rows_apart access (draft_access_count fields) (draft_width fields) there))

pub row_narrow : (fields : Draft) → IsDraft fields → (wide : ℕ) → wide ≡ draft_width fields → wide ≤ 64
row_narrow fields is wide w = subst (λ (n : ℕ). n ≤ 64) (sym w) (few_wide (plan_seen fields.plan) is.formed)
