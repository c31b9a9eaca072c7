-- The plan of three stores is one of its program, by all that is stated of such a plan.
use Rattle.std.proofs.Common.{◌≡◌, ℕ, zero, suc, ◌≤◌, inl, inr, Some, None, length, refl, sym, ap, subst, ◌∙◌, arith}
use Rattle.std.specs.Prelude.{◌==◌, ◌&&◌, max, Bool, true, false, if◌then◌else◌}
use Rattle.std.proofs.lemmas.Bool.{ne_eqb, cases_eq}
use Rattle.dh_tree.specs.Meets.{Meets, nothing, access, all, one, Apart, Before}
use Rattle.dh_tree.specs.Memories.{memories_of, number_in}
use Rattle.dh_meets.specs.Charges.{charge, paths_of}
use Rattle.dh_meets.specs.MayMeet.{meets_in}
use Rattle.dh_meets.specs.SourceEvents.{SourceAccess}
use Rattle.dh_plan.specs.DoneProgram.{IsPlanOf, MeetsAs, ChargesWithin, UsesByKeys, ProbesByPaths, uses_of, uses_wanted, probes_of}
use Rattle.dh_plan.specs.ExamplePrograms.{storing_plan, no_slots}
use Rattle.dh_plan.specs.ExampleTree.{storing_tree}
use Rattle.dh_plan.specs.SoundPlans.{plan_charge}
use Rattle.dh_plan.proofs.StoringLiterals.{storing_literals}
use Rattle.dh_plan.proofs.StoringPlan.{storing_phases, storing_runs}
use Rattle.dh_plan.proofs.StoringSound.{storing_sound}

-- Parts beside nothing.

pub one_apart : (t : Meets) (a b : ℕ) → Apart (one t nothing) a b → Apart t a b
one_apart t a b (inl (inl (x, y))) = absurd y
one_apart t a b (inl (inr (x, y))) = absurd x
one_apart t a b (inr (inl h)) = h
one_apart t a b (inr (inr h)) = absurd h

pub all_apart : (t : Meets) (a b : ℕ) → Apart (all t nothing) a b → Apart t a b
all_apart t a b (inl h) = h
all_apart t a b (inr h) = absurd h

pub one_before : (t : Meets) (a b : ℕ) → Before (one t nothing) a b → Before t a b
one_before t a b (inl (x, y)) = absurd y
one_before t a b (inr (inl h)) = h
one_before t a b (inr (inr h)) = absurd h

pub all_before : (t : Meets) (a b : ℕ) → Before (all t nothing) a b → Before t a b
all_before t a b (inl (x, y)) = absurd y
all_before t a b (inr (inl h)) = h
all_before t a b (inr (inr h)) = absurd h

-- the accesses of the tree: the one, beside nothing
abbrev pub inner : Meets
inner = one (all (all (access 0) nothing) nothing) nothing

pub no_apart : (a b : ℕ) → Apart (meets_in storing_tree) a b → ⊥
no_apart a b h =
    all_apart (access 0) a b (all_apart (all (access 0) nothing) a b (one_apart (all (all (access 0) nothing) nothing) a b
    (all_apart inner a b (all_apart (all inner nothing) a b (one_apart (all (all inner nothing) nothing) a b h)))))

pub no_before : (a b : ℕ) → Before (meets_in storing_tree) a b → ⊥
no_before a b h =
    all_before (access 0) a b (all_before (all (access 0) nothing) a b (one_before (all (all (access 0) nothing) nothing) a b
    (all_before inner a b (all_before (all inner nothing) a b (one_before (all (all inner nothing) nothing) a b h)))))

pub storing_meets : MeetsAs storing_tree storing_plan
storing_meets =
    record {
      apart = λ a b x y. ((λ h. absurd h), (λ h. no_apart a b h));
      order = λ a b x y. ((λ h. absurd h), (λ h. no_before a b h));
      known = λ a x. inl (inl (inl (inl (inl (inl x)))));
    }

-- Charges.

-- the plan's charge, by whether it is the access, the memory and the bank
abbrev pub charge_by : (same_access same_memory same_bank : Bool) → ℕ
charge_by a m b = max (max 0 (max 0 (max 0 (max (if a && m then (if b then max 1 0 else 0) else 0) 0)))) 0

pub charge_is : (memory bank number : ℕ) → plan_charge storing_plan memory bank number ≡ charge_by (0 == number) (0 == memory) (0 == bank)
charge_is memory bank number = refl

pub second_off : (a b : Bool) → charge_by a false b ≡ 0
second_off true b = refl
second_off false b = refl

pub third_off : (a m : Bool) → charge_by a m false ≡ 0
third_off true true = refl
third_off true false = refl
third_off false m = refl

pub none_less : (n m : ℕ) → n ≡ 0 → n ≤ m
none_less n m e = omega (arith, e)

pub not_same : (n : ℕ) → (n ≡ 0 → ⊥) → (0 == n) ≡ false
not_same n h = ne_eqb 0 n (λ e. h (sym e))

-- of another entity there is no memory
pub no_memory : (entity memory : ℕ) → (entity ≡ 0 → ⊥) → number_in (memories_of storing_tree) (Some entity) ≡ Some memory → ⊥
no_memory entity memory other h =
    (let f : None ≡ Some memory = sym (ap (λ (b : Bool). if b then Some 0 else None) (not_same entity other)) ∙ h in cc)

-- the charge of the one access on the one bank
pub most_one : (a m b : Bool) → charge_by a m b ≤ 1
most_one true true true = (let x : 1 ≤ 1 = omega arith in x)
most_one true true false = (let x : 0 ≤ 1 = omega arith in x)
most_one true false b = (let x : 0 ≤ 1 = omega arith in x)
most_one false m b = (let x : 0 ≤ 1 = omega arith in x)

pub charge_here : (entity memory bank number : ℕ) → number ≡ 0 → bank ≡ 0 → entity ≡ 0
    → plan_charge storing_plan memory bank number ≤ charge storing_tree entity bank number
charge_here entity memory bank number n b e =
    subst (λ (x : ℕ). plan_charge storing_plan memory bank number ≤ charge storing_tree x bank number) (sym e)
    (subst (λ (x : ℕ). plan_charge storing_plan memory x number ≤ charge storing_tree 0 x number) (sym b)
    (subst (λ (x : ℕ). plan_charge storing_plan memory 0 x ≤ charge storing_tree 0 0 x) (sym n) (most_one true (0 == memory) true)))

pub storing_charges : ChargesWithin storing_tree storing_plan
storing_charges entity memory bank number h =
    elim (cases_eq number 0) [
      | inr other ↦ none_less _ _ (ap (λ (b : Bool). charge_by b (0 == memory) (0 == bank)) (not_same number other))
      | inl here ↦ elim (cases_eq bank 0) [
        | inr other ↦ none_less _ _ (ap (λ (b : Bool). charge_by (0 == number) (0 == memory) b) (not_same bank other) ∙ third_off (0 == number) (0 == memory))
        | inl there ↦ elim (cases_eq entity 0) [
          | inr other ↦ absurd (no_memory entity memory other h)
          | inl same ↦ charge_here entity memory bank number here there same
        ]
      ]
    ]

-- Uses and probes.

pub of_one : {A : Type 0} (P : A → Type 0) (x y : A) → Some x ≡ Some y → P x → P y
of_one P x y e h =
    let here : x ≡ y = cc in
    subst P here h

pub storing_by_keys : UsesByKeys storing_tree storing_plan
storing_by_keys zero a e made = of_one (λ (b : SourceAccess). uses_of 0 storing_plan.blocks ≡ uses_wanted storing_tree 0 b) _ a e refl
storing_by_keys (suc number) a e made = absurd (cc)

pub storing_by_paths : ProbesByPaths storing_tree storing_plan
storing_by_paths zero a e made = of_one (λ (b : SourceAccess). probes_of 0 storing_plan.blocks ≡ length (paths_of b)) _ a e refl
storing_by_paths (suc number) a e made = absurd (cc)

pub storing_is_plan : IsPlanOf storing_tree storing_plan
storing_is_plan =
    record {
      table = refl;
      slots = no_slots;
      phases = storing_phases;
      runs = storing_runs;
      sound = storing_sound;
      lengths = ((refl, (tt, (refl, tt))), tt);
      products = ((refl, (tt, ((let z : 0 ≤ 0 = omega arith in z), tt))), tt);
      meets = storing_meets;
      charges = storing_charges;
      uses = storing_by_keys;
      probes = storing_by_paths;
      few_faults = (let z : 1 ≤ 1 = omega arith in z);
      literals = storing_literals;
    }
