-- The wires of a plan behind more cells, and the wire of one value.
use Rattle.std.proofs.Common.{◌≡◌, ℕ, ◌+◌, ◌-◌, ◌<◌, List, drop, length, get_or, sym, ap, subst, ◌∙◌, arith}
use Rattle.std.specs.Prelude.{Some, slice_get}
use Rattle.std.specs.List.{AllByRecursion}
use Rattle.std.proofs.Math.Nat.{add-sub_cancel_left}
use Rattle.std.proofs.lemmas.List.{get_or-take, get_or-drop}
use Rattle.std.proofs.lemmas.Option.{slice_get_within}
use Rattle.dh_value.specs.declared.kinds.Kind.{Kind}
use Rattle.dh_value.specs.declared.kinds.Kind.TheVariants as kind
use Rattle.dh_value.specs.Words.{width_of, with_bits}
use Rattle.dh_plan.specs.BoundPorts.{Uses}
use Rattle.dh_plan.specs.PlainPlans.{PlainPlan, first_in, operations_in}
use Rattle.dh_plan.specs.PlanKinds.{kind_of_value, kinds_of}
use Rattle.dh_plan.specs.declared.operations.Operation.{Operation}
use Rattle.dh_plan.specs.Ordered.{operation_takes, IsBetween}
use Rattle.dh_plan.specs.SoundPlans.{IsFormed}
use Rattle.dh_plan.proofs.ValuesAlike.{all_map}
use Rattle.dh_cells.specs.PlainCircuits.{PlainCircuit}
use Rattle.dh_cells.specs.Settled.{Grows, IsWire, shown}
use Rattle.dh_datapath.specs.declared.blocks.PlanWires.{PlanWires}
use Rattle.dh_datapath.specs.BlockWires.{part_in, ShowsPlan}
use Rattle.dh_datapath.specs.ShownNumbers.{kind_at_number, IsShownNumber}
use Rattle.dh_datapath.proofs.BlocksMade.{block_later, row_kinds_long}
use Rattle.dh_datapath.proofs.PartsByBlock.{operations_inside}
use Rattle.dh_datapath.proofs.RegistersMade.{registers_later}
use Rattle.dh_datapath.proofs.ShownValueWords.{same_length, wire_is, word_is}

pub plan_later : (d e : PlainCircuit) (plan : PlainPlan) (u : Uses) (wires : PlanWires) → Grows d e → ShowsPlan d plan u wires → ShowsPlan e plan u wires
plan_later d e plan u wires g h = record {
  registers = registers_later d e wires.registers.offset plan.registers wires.registers.wires (length plan.registers) g h.registers;
  all_values = h.all_values;
  all_kinds = h.all_kinds;
  kinds = h.kinds;
  blocks = λ block. block_later d e plan u wires.registers.offset block (part_in plan wires.values block) g (h.blocks block);
}

-- The value of an operation, by its block and its place there.
module _ (d : PlainCircuit) (plan : PlainPlan) (u : Uses) (wires : PlanWires) (h : ShowsPlan d plan u wires) (block i : ℕ) (inside : i < length (operations_in plan block)) where
  abbrev own_number : ℕ
  own_number = first_in plan block + i

  place : own_number - first_in plan block ≡ i
  place = add-sub_cancel_left (first_in plan block) i

  part_at : {A : Type 0} (all : List A) (none : A) → get_or (part_in plan all block) (own_number - first_in plan block) none ≡ get_or all own_number none
  part_at all none =
      ap (λ (k : ℕ). get_or (part_in plan all block) k none) place
      ∙ (get_or-take (length (operations_in plan block)) (drop (first_in plan block) all) i none inside ∙ get_or-drop (first_in plan block) all i none)

  long : length (part_in plan wires.values block) ≡ length (operations_in plan block)
  long = sym (same_length d (kinds_of plan block) (part_in plan wires.values block) (h.blocks block).there) ∙ row_kinds_long plan (first_in plan block) (operations_in plan block)

  own_place : IsBetween (first_in plan block) (first_in plan block + length (part_in plan wires.values block)) own_number
  own_place = (omega arith, omega (arith, inside, long))

  number_inside : own_number < length wires.values
  number_inside =
      let most = operations_inside plan.blocks block i inside in
      let all = h.all_values in
      omega (arith, most, all)

  own_kind : kind_at_number wires own_number ≡ kind_of_value (first_in plan block) (kinds_of plan block) own_number
  own_kind = sym (part_at wires.kinds kind.Bool) ∙ ap (λ (ks : List Kind). kind_of_value (first_in plan block) ks own_number) (h.kinds block)

  pub place_is_shown : IsShownNumber d plan wires block own_number
  place_is_shown = record {
    there = number_inside;
    wire =
        subst (λ (w : ℕ). IsWire d w (width_of (kind_at_number wires own_number))) (part_at wires.values 0)
        (subst (λ (k : Kind). IsWire d (get_or (part_in plan wires.values block) (own_number - first_in plan block) 0) (width_of k)) (sym own_kind)
        (wire_is d (first_in plan block) (kinds_of plan block) (part_in plan wires.values block) (h.blocks block).there own_number own_place));
    kind_is = own_kind;
    word = λ x.
        word_is d (first_in plan block) (kinds_of plan block) (part_in plan wires.values block) (h.blocks block).there x own_number own_place
        ∙ (λ j. with_bits (sym own_kind j) (shown x (part_at wires.values 0 j)));
  }

-- each value that an operation of a block takes is so, and so is its own
pub taken_are_shown : (d : PlainCircuit) (plan : PlainPlan) (u : Uses) (wires : PlanWires) → ShowsPlan d plan u wires → IsFormed plan → (block i : ℕ) (o : Operation) → slice_get (operations_in plan block) i ≡ Some o
    → AllByRecursion (IsShownNumber d plan wires block) (operation_takes o)
taken_are_shown d plan u wires h formed block i o at =
    all_map (IsBetween (first_in plan block) (first_in plan block + i)) (IsShownNumber d plan wires block) (operation_takes o)
    (λ number between.
    let within = slice_get_within (operations_in plan block) i o at in
    let same : first_in plan block + (number - first_in plan block) ≡ number = omega (arith, between) in
    subst (λ (n : ℕ). IsShownNumber d plan wires block n) same (place_is_shown d plan u wires h block (number - first_in plan block) (omega (arith, between, within))))
    ((formed.blocks block).ordered.each i o at)
