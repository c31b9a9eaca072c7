-- Loading the registers: those before index i have their next wire's value, and to set register i
-- changes no other. At the end the list is, item by item, the next wires' values.
use Rattle.std.proofs.Common.{◌≡◌, ℕ, ◌+◌, ◌<◌, ◌≤◌, inl, inr, Some, List, length, map, get_or, sym, ap, subst, ◌∙◌, arith}
use Rattle.std.specs.Prelude.{slice_get, slice_set}
use Rattle.std.proofs.lemmas.List.{ext_get_or, get_or-set_same, get_or-set_other, get_or-map, length-map}
use Rattle.std.proofs.lemmas.Option.{slice_get-get_or}
use Rattle.dh_net.specs.declared.nets.Register.{Register}
use Rattle.dh_sim.proofs.Settling.{below_one}

-- the registers before this one are loaded
abbrev pub LoadedBefore : List Register → (wires registers : List ℕ) → ℕ → Type 0
LoadedBefore all wires registers i = (k : ℕ) (r : Register) → k < i → slice_get all k ≡ Some r → get_or registers k 0 ≡ get_or wires r.next 0

pub load_on : (all items : List Register) (wires registers : List ℕ) (i : ℕ) (d : Register) → items ≡ all → i < length items → i < length registers
    → LoadedBefore all wires registers i → LoadedBefore all wires (slice_set registers i (get_or wires (get_or items i d).next 0)) (i + 1)
load_on all items wires registers i d same h inside before k r small there =
    elim (below_one k i small) [
      | inl less ↦ get_or-set_other registers i k _ 0 (λ e. omega arith) ∙ before k r less there
      | inr here ↦
          let at : slice_get all i ≡ Some (get_or items i d) = subst (λ (xs : List Register). slice_get xs i ≡ Some (get_or items i d)) same (slice_get-get_or items i d h) in
          let e : Some r ≡ Some (get_or items i d) = sym there ∙ (ap (λ x. slice_get all x) here ∙ at) in
          let is : r ≡ get_or items i d = cc in
          subst (λ (x : ℕ). get_or (slice_set registers i (get_or wires (get_or items i d).next 0)) x 0 ≡ get_or wires r.next 0) (sym here)
          (get_or-set_same registers i _ 0 inside ∙ ap (λ (x : Register). get_or wires x.next 0) (sym is))
    ]

pub all_loaded : (all items : List Register) (wires registers : List ℕ) (i : ℕ) → items ≡ all → length items ≤ i → length registers ≡ length all
    → LoadedBefore all wires registers i → registers ≡ map (λ r. get_or wires r.next 0) all
all_loaded all items wires registers i same past long before =
    let many = ap length same in
    ext_get_or 0 registers (map (λ r. get_or wires r.next 0) all) (long ∙ sym (length-map all (λ r. get_or wires r.next 0)))
    (λ k h. let d : Register = record { width = 0; initial = 0; next = 0 } in
    let inside : k < length all = omega arith in
    before k (get_or all k d) (omega arith) (slice_get-get_or all k d inside) ∙ sym (get_or-map (λ r. get_or wires r.next 0) all k d 0 inside))
