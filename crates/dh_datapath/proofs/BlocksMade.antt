-- The blocks of a plan, one after the other: what was known of the wires of earlier ones is still so, and in the end
-- the wires show all blocks.
use Rattle.std.proofs.Common.{◌≡◌, ℕ, ◌+◌, ◌-◌, ◌<◌, ◌⊎◌, inl, inr, Some, None, List, take, drop, length, get_or, refl, sym, ap, subst, ◌∙◌, arith}
use Rattle.std.specs.Prelude.{[], ◌∷◌, ◌++◌, slice_get, slice_index_or}
use Rattle.std.proofs.Math.Nat.{add-sub_cancel_left}
use Rattle.std.proofs.lemmas.Bool.{cases_lt}
use Rattle.std.proofs.lemmas.List.{length-append}
use Rattle.std.proofs.lemmas.Option.{slice_get_read, slice_get_within}
use Rattle.dh_value.specs.declared.kinds.Kind.{Kind}
use Rattle.dh_value.specs.declared.words.Word.{Word}
use Rattle.dh_plan.specs.declared.operations.Operation.{Operation}
use Rattle.dh_plan.specs.declared.operations.OperationForm.{OperationForm}
use Rattle.dh_plan.specs.declared.operations.PlanBlock.{PlanBlock}
use Rattle.dh_plan.specs.declared.operations.OperationForm.TheVariants.{Constant, Old, Compute, Convert, Select, Check, Probe, Read, Write, Set}
use Rattle.dh_plan.specs.Blocks.{StepStart, is_on, form_word, guarded, AreValues}
use Rattle.dh_plan.specs.BoundPorts.{Uses}
use Rattle.dh_plan.specs.PlainPlans.{PlainPlan, first_in, operations_in, operations_before, block_operations}
use Rattle.dh_plan.specs.PlanKinds.{form_kind, kinds_behind, kinds_of}
use Rattle.dh_lower.specs.ShownWords.{in_ports}
use Rattle.dh_cells.specs.PlainCircuits.{PlainCircuit}
use Rattle.dh_cells.specs.Settled.{Grows}
use Rattle.dh_cells.proofs.CellsAppended.{settled_fewer, grows_then}
use Rattle.dh_datapath.specs.declared.blocks.PlanWires.{PlanWires}
use Rattle.dh_datapath.specs.declared.registers.RegisterWires.{RegisterWires}
use Rattle.dh_datapath.specs.declared.rows.RowWires.{RowWires}
use Rattle.dh_datapath.specs.BlockWires.{start_shown, ports_look, operation_ports, row_look, row_kinds, IsFormedRow, RowAdded, part_in, ShowsBlock, PlanAdded}
use Rattle.dh_datapath.specs.RegistersShown.{ShowRegisters}
use Rattle.dh_datapath.specs.ValueWires.{AreValueWires, value_words}
use Rattle.dh_datapath.proofs.PartsByBlock.{before_none, before_next, part_stays, part_added, no_operations}
use Rattle.dh_datapath.proofs.PortsOfRows.{used_at}
use Rattle.dh_datapath.proofs.RegistersMade.{registers_later}
use Rattle.dh_datapath.proofs.RowsMade.{values_later}
use Rattle.dh_datapath.proofs.ShownValueWords.{same_length}

-- A row's look is that of its block.

form_in_block : (s : StepStart) (plan : PlainPlan) (u : Uses) (held : List ℕ) (block i : ℕ) → i < length (operations_in plan block) → (vs : List Word) (f : OperationForm)
    → form_word s (row_look plan.table (part_in plan u.ports block) held (first_in plan block)) (first_in plan block) vs (first_in plan block + i) f
    ≡ form_word s (in_ports plan u held block) (first_in plan block) vs (first_in plan block + i) f
form_in_block s plan u held block i inside vs (Constant word) = refl
form_in_block s plan u held block i inside vs (Old register) = refl
form_in_block s plan u held block i inside vs (Compute op left right) = refl
form_in_block s plan u held block i inside vs (Convert inner to) = refl
form_in_block s plan u held block i inside vs (Select test a b) = refl
form_in_block s plan u held block i inside vs (Check ok fault) = refl
form_in_block s plan u held block i inside vs (Probe r fault) = refl
form_in_block s plan u held block i inside vs (Read r) =
    let first = first_in plan block in
    let place : first + i - first ≡ i = add-sub_cancel_left first i in
    ap (λ (l : List (ℕ × ℕ)). form_word s (ports_look plan.table l held first) first vs 0 (Read r))
    (ap (λ (n : ℕ). operation_ports (part_in plan u.ports block) n) place ∙ (used_at plan u.ports block i inside ∙ ap (λ (n : ℕ). slice_index_or u.ports (first + n) []) (sym place)))
form_in_block s plan u held block i inside vs (Write r value) = refl
form_in_block s plan u held block i inside vs (Set register value) = refl

values_in_block : (s : StepStart) (plan : PlainPlan) (u : Uses) (held : List ℕ) (block : ℕ) (vs : List Word)
    → AreValues s (row_look plan.table (part_in plan u.ports block) held (first_in plan block)) (first_in plan block) (operations_in plan block) vs
    → AreValues s (in_ports plan u held block) (first_in plan block) (operations_in plan block) vs
values_in_block s plan u held block vs h = record {
  long = h.long;
  solve = record {
    each = λ i o at.
        h.solve.each i o at
        ∙ ap (λ (w : Word). guarded (is_on (first_in plan block) vs o.guard) w) (form_in_block s plan u held block i (slice_get_within (operations_in plan block) i o at) vs o.form);
  };
}

kinds_long : (plan : PlainPlan) (first : ℕ) (before : List Kind) (os : List Operation) → length (kinds_behind plan.table plan.registers first before os) ≡ length before + length os
kinds_long plan first before [] = omega arith
kinds_long plan first before (o ∷ os) =
    let k = form_kind plan.table plan.registers first before o.form in
    let rest = kinds_long plan first (before ++ k ∷ []) os in
    let more = length-append before (k ∷ []) in
    omega (arith, rest, more)

pub row_kinds_long : (plan : PlainPlan) (first : ℕ) (os : List Operation) → length (row_kinds plan first os) ≡ length os
row_kinds_long plan first os = kinds_long plan first [] os ∙ omega arith

pub block_later : (d e : PlainCircuit) (plan : PlainPlan) (u : Uses) (offset block : ℕ) (ws : List ℕ) → Grows d e → ShowsBlock d plan u offset block ws → ShowsBlock e plan u offset block ws
block_later d e plan u offset block ws g h = record {
  there = values_later d e (kinds_of plan block) ws g h.there;
  words = λ x settled. h.words x (settled_fewer d e x g settled);
}

-- the wires of a row that is a block show the block
row_is_block : (d e : PlainCircuit) (plan : PlainPlan) (u : Uses) (offset block : ℕ) (row : RowWires)
    → RowAdded d e plan offset (part_in plan u.ports block) (first_in plan block) (operations_in plan block) row → ShowsBlock e plan u offset block row.wires
row_is_block d e plan u offset block row added = record {
  there = subst (λ (ks : List Kind). AreValueWires e ks row.wires) added.kinds added.there;
  words = λ x settled.
      values_in_block (start_shown plan offset x) plan u x.held block (value_words (kinds_of plan block) row.wires x)
      (subst (λ (ks : List Kind). AreValues (start_shown plan offset x) (row_look plan.table (part_in plan u.ports block) x.held (first_in plan block)) (first_in plan block) (operations_in plan block) (value_words ks row.wires x))
      added.kinds (added.words x settled));
}

-- a block without operations needs no wire
none_shown : (d : PlainCircuit) (plan : PlainPlan) (u : Uses) (offset block : ℕ) (all : List ℕ) → operations_in plan block ≡ [] → ShowsBlock d plan u offset block (part_in plan all block)
none_shown d plan u offset block all none = record {
  there = subst (λ (os : List Operation). AreValueWires d (row_kinds plan (first_in plan block) os) (take (length os) (drop (first_in plan block) all))) (sym none) tt;
  words = λ x settled.
      subst (λ (os : List Operation). AreValues (start_shown plan offset x) (in_ports plan u x.held block) (first_in plan block) os
      (value_words (row_kinds plan (first_in plan block) os) (take (length os) (drop (first_in plan block) all)) x))
      (sym none) (record { long = refl; solve = record { each = λ i o at. absurd (let there : None ≡ Some o = at in cc) } });
}

-- The blocks so far: the first n have kinds and wires.
pub record BlocksSoFar (start d : PlainCircuit) (plan : PlainPlan) (u : Uses) (registers : RegisterWires) (n : ℕ) (kinds : List Kind) (values : List ℕ) : Type 0 where
  pub grows : Grows start d
  pub registers_show : ShowRegisters d plan.registers registers
  pub values_long : length values ≡ operations_before plan.blocks n
  pub kinds_are_long : length kinds ≡ operations_before plan.blocks n
  pub kinds_are : (block : ℕ) → block < n → part_in plan kinds block ≡ kinds_of plan block
  pub blocks : (block : ℕ) → block < n → ShowsBlock d plan u registers.offset block (part_in plan values block)

pub blocks_begin : (start d : PlainCircuit) (plan : PlainPlan) (u : Uses) (registers : RegisterWires) (kinds : List Kind) (values : List ℕ) → kinds ≡ [] → values ≡ [] → Grows start d
    → ShowRegisters d plan.registers registers → BlocksSoFar start d plan u registers 0 kinds values
blocks_begin start d plan u registers kinds values none no_values g show = record {
  grows = g;
  registers_show = show;
  values_long = ap (λ (l : List ℕ). length l) no_values ∙ sym (before_none plan.blocks);
  kinds_are_long = ap (λ (l : List Kind). length l) none ∙ sym (before_none plan.blocks);
  kinds_are = λ block less. absurd (omega (arith, less));
  blocks = λ block less. absurd (omega (arith, less));
}

before_or_last : (b n : ℕ) → b < n + 1 → (b < n) ⊎ (b ≡ n)
before_or_last b n h = grind (arith, h)

pub blocks_turn : (start d e : PlainCircuit) (plan : PlainPlan) (u : Uses) (registers : RegisterWires) (n : ℕ) (kinds : List Kind) (values : List ℕ) (row : RowWires) (more_kinds : List Kind) (more_values : List ℕ)
    → BlocksSoFar start d plan u registers n kinds values
    → RowAdded d e plan registers.offset (part_in plan u.ports n) (first_in plan n) (operations_in plan n) row → more_kinds ≡ kinds ++ row.kinds → more_values ≡ values ++ row.wires
    → BlocksSoFar start e plan u registers (n + 1) more_kinds more_values
blocks_turn start d e plan u registers n kinds values row more_kinds more_values so added kinds_is values_is =
    subst (λ (l : List Kind). BlocksSoFar start e plan u registers (n + 1) l more_values) (sym kinds_is)
    (subst (λ (l : List ℕ). BlocksSoFar start e plan u registers (n + 1) (kinds ++ row.kinds) l) (sym values_is) turned)
  where
    own_kinds : length row.kinds ≡ length (operations_in plan n)
    own_kinds = ap (λ (l : List Kind). length l) added.kinds ∙ row_kinds_long plan (first_in plan n) (operations_in plan n)

    own_wires : length row.wires ≡ length (operations_in plan n)
    own_wires = sym (same_length e row.kinds row.wires added.there) ∙ own_kinds

    turned : BlocksSoFar start e plan u registers (n + 1) (kinds ++ row.kinds) (values ++ row.wires)
    turned = record {
      grows = grows_then start d e so.grows added.grows;
      registers_show = registers_later d e registers.offset plan.registers registers.wires (length plan.registers) added.grows so.registers_show;
      values_long = length-append values row.wires ∙ (let a = so.values_long in let b = before_next plan n in omega (arith, a, b, own_wires));
      kinds_are_long = length-append kinds row.kinds ∙ (let a = so.kinds_are_long in let b = before_next plan n in omega (arith, a, b, own_kinds));
      kinds_are = λ block less. elim (before_or_last block n less) [
        | inl before ↦ part_stays plan kinds row.kinds block n so.kinds_are_long before ∙ so.kinds_are block before
        | inr last ↦
            subst (λ (b : ℕ). part_in plan (kinds ++ row.kinds) b ≡ kinds_of plan b) (sym last) (part_added plan kinds row.kinds n so.kinds_are_long own_kinds ∙ added.kinds)
      ];
      blocks = λ block less. elim (before_or_last block n less) [
        | inl before ↦
            subst (λ (ws : List ℕ). ShowsBlock e plan u registers.offset block ws) (sym (part_stays plan values row.wires block n so.values_long before))
            (block_later d e plan u registers.offset block (part_in plan values block) added.grows (so.blocks block before))
        | inr last ↦
            subst (λ (b : ℕ). ShowsBlock e plan u registers.offset b (part_in plan (values ++ row.wires) b)) (sym last)
            (subst (λ (ws : List ℕ). ShowsBlock e plan u registers.offset n ws) (sym (part_added plan values row.wires n so.values_long own_wires)) (row_is_block d e plan u registers.offset n row added))
      ];
    }

pub blocks_end : (start d : PlainCircuit) (plan : PlainPlan) (u : Uses) (offset n : ℕ) (wires : PlanWires) → n ≡ length plan.blocks → wires.registers.offset ≡ offset
    → BlocksSoFar start d plan u wires.registers n wires.kinds wires.values → PlanAdded start d plan u offset wires
blocks_end start d plan u offset n wires all from so = record {
  grows = so.grows;
  offset_is = from;
  shows = record {
    registers = so.registers_show;
    all_values = so.values_long ∙ ap (λ (k : ℕ). operations_before plan.blocks k) all;
    all_kinds = so.kinds_are_long ∙ ap (λ (k : ℕ). operations_before plan.blocks k) all;
    kinds = λ block. elim (cases_lt block n) [
      | inl inside ↦ so.kinds_are block inside
      | inr past ↦
          subst (λ (os : List Operation). take (length os) (drop (first_in plan block) wires.kinds) ≡ row_kinds plan (first_in plan block) os)
          (sym (no_operations plan block (omega (arith, past, all)))) refl
    ];
    blocks = λ block. elim (cases_lt block n) [
      | inl inside ↦ so.blocks block inside
      | inr past ↦ none_shown d plan u wires.registers.offset block wires.values (no_operations plan block (omega (arith, past, all)))
    ];
  };
}

-- The same by the lists of the code.

pub own_operations : (plan : PlainPlan) (blocks : List PlanBlock) (n : ℕ) (b : PlanBlock) (os : List Operation) → blocks ≡ plan.blocks → n < length blocks → b ≡ get_or blocks n b → os ≡ b.operations
    → os ≡ operations_in plan n
own_operations plan blocks n b os same inside is own =
    own ∙ sym (ap block_operations (subst (λ (l : List PlanBlock). slice_get l n ≡ Some b) same (slice_get_read blocks (length blocks) n b refl inside is)))

pub formed_as : (plan : PlainPlan) (u : Uses) (block : ℕ) (used : List (List (ℕ × ℕ))) (first : ℕ) (os : List Operation) → used ≡ part_in plan u.ports block → first ≡ first_in plan block → os ≡ operations_in plan block
    → IsFormedRow plan (part_in plan u.ports block) (first_in plan block) (operations_in plan block) → IsFormedRow plan used first os
formed_as plan u block used first os used_is first_is os_is h =
    subst (λ (l : List (List (ℕ × ℕ))). IsFormedRow plan l first os) (sym used_is)
    (subst (λ (n : ℕ). IsFormedRow plan (part_in plan u.ports block) n os) (sym first_is)
    (subst (λ (l : List Operation). IsFormedRow plan (part_in plan u.ports block) (first_in plan block) l) (sym os_is) h))

pub added_as : (d e : PlainCircuit) (plan : PlainPlan) (u : Uses) (offset block : ℕ) (used : List (List (ℕ × ℕ))) (first : ℕ) (os : List Operation) (row : RowWires) → used ≡ part_in plan u.ports block
    → first ≡ first_in plan block → os ≡ operations_in plan block → RowAdded d e plan offset used first os row → RowAdded d e plan offset (part_in plan u.ports block) (first_in plan block) (operations_in plan block) row
added_as d e plan u offset block used first os row used_is first_is os_is h =
    subst (λ (l : List Operation). RowAdded d e plan offset (part_in plan u.ports block) (first_in plan block) l row) os_is
    (subst (λ (n : ℕ). RowAdded d e plan offset (part_in plan u.ports block) n os row) first_is
    (subst (λ (l : List (List (ℕ × ℕ))). RowAdded d e plan offset l first os row) used_is h))
