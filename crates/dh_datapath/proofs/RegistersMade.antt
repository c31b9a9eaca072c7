-- The wires of registers, one more at a time; and behind more cells.
use Rattle.std.proofs.Common.{◌≡◌, ℕ, ◌+◌, ◌<◌, ◌⊎◌, inl, inr, List, length, sym, ap, subst, ◌∙◌, arith}
use Rattle.std.specs.Prelude.{[], ◌∷◌, ◌++◌, slice_index}
use Rattle.std.proofs.lemmas.List.{get_or_append_left, get_or_push, length-append}
use Rattle.dh_value.specs.declared.kinds.Kind.{Kind}
use Rattle.dh_value.specs.Words.{width_of}
use Rattle.dh_plan.specs.Blocks.{kind_at}
use Rattle.dh_cells.specs.PlainCircuits.{PlainCircuit}
use Rattle.dh_cells.specs.Settled.{Grows, Shows, Adds}
use Rattle.dh_cells.specs.ShownValues.{register_shown}
use Rattle.dh_cells.proofs.CellsAppended.{shows_later}
use Rattle.dh_datapath.specs.RegistersShown.{AreRegisterWires}

pub registers_later : (d e : PlainCircuit) (offset : ℕ) (kinds : List Kind) (wires : List ℕ) (count : ℕ) → Grows d e → AreRegisterWires d offset kinds wires count
    → AreRegisterWires e offset kinds wires count
registers_later d e offset kinds wires count g h = record {
  long = h.long;
  each = λ r small. shows_later d e (slice_index wires r) (width_of (kind_at kinds r)) (register_shown (offset + r)) g (h.each r small);
}

pub no_registers : (d : PlainCircuit) (offset : ℕ) (kinds : List Kind) (wires : List ℕ) → wires ≡ [] → AreRegisterWires d offset kinds wires 0
no_registers d offset kinds wires none = record { long = ap (λ (l : List ℕ). length l) none; each = λ r small. absurd (omega (arith, small)) }

last_or_before : (r i : ℕ) → r < i + 1 → (r < i) ⊎ (r ≡ i)
last_or_before r i h = grind (arith, h)

pub registers_more : (d e : PlainCircuit) (offset : ℕ) (kinds : List Kind) (wires next : List ℕ) (i wire w register : ℕ) (k : Kind) → AreRegisterWires d offset kinds wires i
    → next ≡ wires ++ wire ∷ [] → k ≡ kind_at kinds i → w ≡ width_of k → register ≡ offset + i → Adds d e wire w (register_shown register) → AreRegisterWires e offset kinds next (i + 1)
registers_more d e offset kinds wires next i wire w register k h is same wide number added = record {
  long = ap (λ (l : List ℕ). length l) is ∙ (length-append wires (wire ∷ []) ∙ (let long = h.long in omega (arith, long)));
  each = λ r small. elim (last_or_before r i small) [
    | inl before ↦
        subst (λ (v : ℕ). Shows e v (width_of (kind_at kinds r)) (register_shown (offset + r)))
        (sym (get_or_append_left wires (wire ∷ []) 0 r (let long = h.long in omega (arith, long, before))) ∙ ap (λ (l : List ℕ). slice_index l r) (sym is))
        (shows_later d e (slice_index wires r) (width_of (kind_at kinds r)) (register_shown (offset + r)) added.grows (h.each r before))
    | inr last ↦
        subst (λ (n : ℕ). Shows e (slice_index next n) (width_of (kind_at kinds n)) (register_shown (offset + n))) (sym last)
        (subst (λ (v : ℕ). Shows e v (width_of (kind_at kinds i)) (register_shown (offset + i))) (sym (get_or_push wires wire 0 i h.long) ∙ ap (λ (l : List ℕ). slice_index l i) (sym is))
        (subst (λ (n : ℕ). Shows e wire n (register_shown (offset + i))) (wide ∙ ap width_of same)
        (subst (λ (n : ℕ). Shows e wire w (register_shown n)) number added.shows)))
  ];
}
