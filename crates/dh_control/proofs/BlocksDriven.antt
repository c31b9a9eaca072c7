-- Drivers of operations one after the other.
use Rattle.std.proofs.Common.{◌≡◌, ℕ, zero, suc, ◌+◌, ◌<◌, ◌≤◌, Some, None, List, [], ◌∷◌, ◌++◌, length, take, refl, sym, ap, subst, ◌∙◌, arith, append_assoc}
use Rattle.std.specs.Prelude.{Option, get_or, slice_index_or}
use Rattle.std.proofs.lemmas.List.{append-nil, take_more}
use Rattle.dh_value.specs.declared.kinds.Kind.{Kind}
use Rattle.dh_net.specs.declared.nets.Driver.{Driver}
use Rattle.dh_plan.specs.declared.operations.Operation.{Operation}
use Rattle.dh_plan.specs.declared.operations.Reach.{Reach}
use Rattle.dh_plan.specs.SoundPlans.{use_in}
use Rattle.dh_cells.specs.PlainCircuits.{PlainCircuit}
use Rattle.dh_cells.specs.Settled.{Grows}
use Rattle.dh_cells.proofs.CellsAppended.{grows_none, grows_then, settled_fewer, wire_stays}
use Rattle.dh_control.specs.declared.driving.MemoryPorts.{MemoryPorts}
use Rattle.dh_control.specs.declared.driving.Times.{Times}
use Rattle.dh_control.specs.declared.gathering.Keyed.{Keyed}
use Rattle.dh_control.specs.BlockUses.{BankUse, bank_uses, operation_uses, block_uses, DriveAll, BlockDriven}
use Rattle.dh_control.specs.UseWires.{DrivesUse, DriveUses, UsedDriven, UseDriven, memory_ports_at}

drives_stay : (d e : PlainCircuit) (kinds : List Kind) (wires : List ℕ) (t : Times) (o : Operation) (bits bank : ℕ) (driver : Driver) → Grows d e → DrivesUse d kinds wires t o bits bank driver → DrivesUse e kinds wires t o bits bank driver
drives_stay d e kinds wires t o bits bank driver g h = record {
  enable_wire = wire_stays d e driver.enable 1 g h.enable_wire;
  row_wire = wire_stays d e driver.row bits g h.row_wire;
  data_is = h.data_is;
  writes = h.writes;
  enable_is = λ x first ws s words. h.enable_is x first ws (settled_fewer d e x g s) words;
  says = λ x first ws p s words width. h.says x first ws p (settled_fewer d e x g s) words width;
}

module _ (kinds : List Kind) (wires : List ℕ) (times : ℕ → Times) (ms : List MemoryPorts) (pairs : List (List (ℕ × ℕ))) where
  all_stay : (d e : PlainCircuit) (vs : List BankUse) (es : List (Keyed Driver)) → Grows d e → DriveAll d kinds wires times ms pairs vs es → DriveAll e kinds wires times ms pairs vs es
  all_stay d e [] [] g h = tt
  all_stay d e [] (k ∷ es) g h = h
  all_stay d e (v ∷ vs) [] g h = h
  all_stay d e (v ∷ vs) (k ∷ es) g h = ((h.0.0, drives_stay d e kinds wires (times v.place) v.operation _ v.bank k.item g h.0.1), all_stay d e vs es g h.1)

  all_both : (d : PlainCircuit) (vs us : List BankUse) (es fs : List (Keyed Driver)) → DriveAll d kinds wires times ms pairs vs es → DriveAll d kinds wires times ms pairs us fs
      → DriveAll d kinds wires times ms pairs (vs ++ us) (es ++ fs)
  all_both d [] us [] fs h g = g
  all_both d [] us (k ∷ es) fs h g = absurd h
  all_both d (v ∷ vs) us [] fs h g = absurd h
  all_both d (v ∷ vs) us (k ∷ es) fs h g = (h.0, all_both d vs us es fs h.1 g)

  of_reach : (d : PlainCircuit) (place : ℕ) (o : Operation) (r : Reach) (banks : List (ℕ × ℕ)) (es : List (Keyed Driver))
      → DriveUses d kinds wires (times place) o (memory_ports_at ms r.memory) (slice_index_or pairs place []) banks es → DriveAll d kinds wires times ms pairs (bank_uses place o r banks) es
  of_reach d place o r [] [] h = tt
  of_reach d place o r [] (k ∷ es) h = h
  of_reach d place o r (b ∷ bs) [] h = h
  of_reach d place o r (b ∷ bs) (k ∷ es) h = (h.0, of_reach d place o r bs es h.1)

  -- one operation
  record OneDriven (old new : PlainCircuit) (place : ℕ) (o : Operation) (before after : List (Keyed Driver)) : Type 0 where
    pub grows : Grows old new
    pub added : List (Keyed Driver)
    pub behind : after ≡ before ++ added
    pub drive : DriveAll new kinds wires times ms pairs (operation_uses place o (use_in o.form)) added

  one_driven : (d e : PlainCircuit) (place : ℕ) (o : Operation) (before after : List (Keyed Driver)) (w : Option Reach) → use_in o.form ≡ w
      → UsedDriven d e kinds wires (times place) o ms (slice_index_or pairs place []) before after w → OneDriven d e place o before after
  one_driven d e place o before after None is h = record {
    grows = h.0;
    added = [];
    behind = h.1 ∙ sym (append-nil before);
    drive = subst (λ (v : Option Reach). DriveAll e kinds wires times ms pairs (operation_uses place o v) []) (sym is) tt;
  }
  one_driven d e place o before after (Some r) is h = record {
    grows = h.grows;
    added = h.added;
    behind = h.behind;
    drive = subst (λ (v : Option Reach). DriveAll e kinds wires times ms pairs (operation_uses place o v) h.added) (sym is) (of_reach e place o r r.banks h.added h.drive);
  }

  uses_snoc : (from n : ℕ) (os : List Operation) (o : Operation) → n ≡ from + length os → block_uses from (os ++ o ∷ []) ≡ block_uses from os ++ operation_uses n o (use_in o.form)
  uses_snoc from n [] o is =
      let here : from ≡ n = omega (arith, is) in
      append-nil (operation_uses from o (use_in o.form)) ∙ ap (λ m. operation_uses m o (use_in o.form)) here
  uses_snoc from n (p ∷ os) o is =
      ap (λ l. operation_uses from p (use_in p.form) ++ l) (uses_snoc (suc from) n os o (omega (arith, is)))
      ∙ sym (append_assoc (operation_uses from p (use_in p.form)) (block_uses (suc from) os) (operation_uses n o (use_in o.form)))

  pub nothing_driven : (d : PlainCircuit) (before : List (Keyed Driver)) → BlockDriven d d kinds wires times ms pairs [] before before
  nothing_driven d before = record { grows = grows_none d; added = []; behind = sym (append-nil before); drive = tt }

  take_long : (n : ℕ) (os : List Operation) → n ≤ length os → length (take n os) ≡ n
  take_long zero os h = refl
  take_long (suc n) [] h = absurd (omega (arith, h))
  take_long (suc n) (o ∷ os) h = ap suc (take_long n os (omega (arith, h)))

  take_whole : (n : ℕ) (os : List Operation) → length os ≤ n → take n os ≡ os
  take_whole zero [] less = refl
  take_whole (suc n) [] less = refl
  take_whole zero (x ∷ xs) less = absurd (omega (arith, less))
  take_whole (suc n) (x ∷ xs) less = ap (λ l. x ∷ l) (take_whole n xs (omega (arith, less)))

  pub next_use : (d e f : PlainCircuit) (i : ℕ) (o : Operation) (os : List Operation) (list : List (ℕ × ℕ)) (before mid after : List (Keyed Driver)) → i < length os → o ≡ get_or os i o
      → list ≡ slice_index_or pairs i [] → BlockDriven d e kinds wires times ms pairs (take i os) before mid → UseDriven e f kinds wires (times i) o ms list mid after
      → BlockDriven d f kinds wires times ms pairs (take (i + 1) os) before after
  next_use d e f i o os list before mid after less is same h used =
      let u = one_driven e f i o mid after (use_in o.form) refl (subst (λ (l : List (ℕ × ℕ)). UsedDriven e f kinds wires (times i) o ms l mid after (use_in o.form)) same used.used) in
      let next : take (i + 1) os ≡ take i os ++ o ∷ [] = take_more os i o less ∙ ap (λ (y : Operation). take i os ++ y ∷ []) (sym is) in
      let long = take_long i os (omega (arith, less)) in
      record {
        grows = grows_then d e f h.grows u.grows;
        added = h.added ++ u.added;
        behind = u.behind ∙ (ap (λ l. l ++ u.added) h.behind ∙ append_assoc before h.added u.added);
        drive =
            subst (λ (l : List BankUse). DriveAll f kinds wires times ms pairs l (h.added ++ u.added)) (sym (ap (λ l. block_uses 0 l) next ∙ uses_snoc 0 i (take i os) o (omega (arith, long))))
            (all_both f (block_uses 0 (take i os)) (operation_uses i o (use_in o.form)) h.added u.added (all_stay e f (block_uses 0 (take i os)) h.added u.grows h.drive) u.drive);
      }

  pub last_use : (d e : PlainCircuit) (i : ℕ) (os : List Operation) (before after : List (Keyed Driver)) → length os ≤ i → BlockDriven d e kinds wires times ms pairs (take i os) before after
      → BlockDriven d e kinds wires times ms pairs os before after
  last_use d e i os before after all h = subst (λ (l : List Operation). BlockDriven d e kinds wires times ms pairs l before after) (take_whole i os all) h
