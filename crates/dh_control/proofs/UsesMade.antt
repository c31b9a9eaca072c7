-- The drivers of what an operation reads or writes.
use Rattle.std.proofs.Common.{◌≡◌, ℕ, ◌<◌, ◌&&◌, Bool, true, false, Some, None, List, [], ◌∷◌, ◌++◌, length, refl, sym, ap, subst, ◌∙◌}
use Rattle.std.specs.Prelude.{Option, get_or, slice_get, slice_index}
use Rattle.std.proofs.lemmas.Option.{get_or_from_slice_get, slice_get-get_or}
use Rattle.std.specs.List.{AllByRecursion}
use Rattle.dh_value.specs.declared.kinds.Kind.{Kind}
use Rattle.dh_value.specs.declared.words.Word.{Word}
use Rattle.dh_net.specs.declared.nets.Driver.{Driver}
use Rattle.dh_plan.specs.declared.operations.Operation.{Operation}
use Rattle.dh_plan.specs.declared.operations.OperationForm.{OperationForm}
use Rattle.dh_plan.specs.declared.operations.OperationForm.TheVariants.{Constant, Old, Compute, Convert, Select, Check, Probe, Read, Write, Set}
use Rattle.dh_plan.specs.declared.operations.Reach.{Reach}
use Rattle.dh_plan.specs.Blocks.{is_on}
use Rattle.dh_plan.specs.Ordered.{one_or_none, offsets_taken, reach_takes, form_takes}
use Rattle.dh_plan.specs.SoundPlans.{use_in}
use Rattle.dh_cells.specs.PlainCircuits.{PlainCircuit}
use Rattle.dh_cells.specs.Settled.{Signals, Grows, IsWire, Adds, shown}
use Rattle.dh_cells.specs.ShownValues.{is_one, both_shown}
use Rattle.dh_cells.proofs.CellsAppended.{grows_none, grows_then, settled_fewer, wire_stays}
use Rattle.dh_cells.proofs.OperatorBits.{bit_tells}
use Rattle.dh_lower.specs.PortUsers.{SaysForm, row_bits}
use Rattle.dh_control.specs.declared.driving.Asking.{Asking}
use Rattle.dh_control.specs.declared.driving.MemoryPorts.{MemoryPorts}
use Rattle.dh_control.specs.declared.driving.Times.{Times}
use Rattle.dh_control.specs.declared.gathering.Keyed.{Keyed}
use Rattle.dh_control.specs.DriverWires.{MayShow, RowMade, select_picks, DrivesBank, DriveBanks, BanksDriven}
use Rattle.dh_control.specs.OnWires.{on_both_shown}
use Rattle.dh_control.specs.UseWires.{form_time, form_picks, DrivesUse, DriveUses, ReachDriven, ReachAsked, ReachSuits, FormUseSuits, UseSuits, memory_ports_at, UsedDriven, UseDriven}
use Rattle.dh_control.specs.ValuesShown.{IsShownValue, AreShownWords}
use Rattle.dh_control.proofs.DriversMade.{may_stay}
use Rattle.dh_control.proofs.GuardsShown.{guard_is, guard_stays, both_tells}
use Rattle.dh_control.proofs.ListFacts.{all_front, all_back}

-- A reach.

pub reach_asked : (d e f : PlainCircuit) (kinds : List Kind) (wires : List ℕ) (test : ℕ) (write : Bool) (value row : ℕ) (r : Reach) (m : MemoryPorts) (pairs list : List (ℕ × ℕ)) (before after : List (Keyed Driver))
    → RowMade d e m.bits kinds wires r.row row → list ≡ r.banks
    → BanksDriven e f kinds wires (record { test = test; write = write; row = row; value = value }) r.select m.first m.count pairs list before after
    → ReachAsked d f kinds wires test write value r m pairs before after
reach_asked d e f kinds wires test write value row r m pairs list before after made same b = record {
  grows = grows_then d e f made.grows b.grows;
  row = row;
  row_there = wire_stays e f row m.bits b.grows made.there;
  row_is = λ x first ws s shows. made.is x first ws (settled_fewer e f x b.grows s) shows;
  added = b.added;
  behind = b.behind;
  drive = subst (λ (l : List (ℕ × ℕ)). DriveBanks f kinds wires (record { test = test; write = write; row = row; value = value }) r.select m.first m.count pairs l b.added) same b.drive;
}

uses_from : (d : PlainCircuit) (kinds : List Kind) (wires : List ℕ) (a : Asking) (select : Option ℕ) (t : Times) (o : Operation) (m : MemoryPorts) (pairs : List (ℕ × ℕ))
    → ((bank : ℕ) (driver : Driver) → DrivesBank d kinds wires a select bank driver → DrivesUse d kinds wires t o m.bits bank driver)
    → (banks : List (ℕ × ℕ)) (es : List (Keyed Driver)) → DriveBanks d kinds wires a select m.first m.count pairs banks es → DriveUses d kinds wires t o m pairs banks es
uses_from d kinds wires a select t o m pairs so [] [] h = tt
uses_from d kinds wires a select t o m pairs so [] (e ∷ es) h = h
uses_from d kinds wires a select t o m pairs so (b ∷ bs) [] h = h
uses_from d kinds wires a select t o m pairs so (b ∷ bs) (e ∷ es) h = ((h.0.0, so b.0 e.item h.0.1), uses_from d kinds wires a select t o m pairs so bs es h.1)

-- What is shown of what an operation takes.

module _ (first : ℕ) (ws : List Word) (kinds : List Kind) (wires : List ℕ) (x : Signals) where
  abbrev P : ℕ → Type 0
  P v = IsShownValue first ws kinds wires x v

  select_shown : (r : Reach) → AllByRecursion P (reach_takes r) → MayShow first ws kinds wires x r.select
  select_shown r h = all_front P (one_or_none r.select) (one_or_none r.row) (all_back P (offsets_taken r.steps) _ (all_back P r.indices _ h))

  row_shown : (r : Reach) → AllByRecursion P (reach_takes r) → MayShow first ws kinds wires x r.row
  row_shown r h = all_back P (one_or_none r.select) (one_or_none r.row) (all_back P (offsets_taken r.steps) _ (all_back P r.indices _ h))

  takes_of : (o : Operation) (f : OperationForm) → o.form ≡ f → AreShownWords first ws kinds wires x (o ∷ []) → AllByRecursion P (one_or_none o.guard) × AllByRecursion P (form_takes f)
  takes_of o f is h =
      let takes : AllByRecursion P (one_or_none o.guard ++ form_takes f) = subst (λ (g : OperationForm). AllByRecursion P (one_or_none o.guard ++ form_takes g)) is h.each.0 in
      (all_front P (one_or_none o.guard) (form_takes f) takes, all_back P (one_or_none o.guard) (form_takes f) takes)

-- A read.

pub read_driven : (d e f g : PlainCircuit) (kinds : List Kind) (wires : List ℕ) (t : Times) (o : Operation) (ms : List MemoryPorts) (pairs : List (ℕ × ℕ)) (r : Reach) (m : MemoryPorts) (now test : ℕ)
    (before after : List (Keyed Driver)) → o.form ≡ Read r → m ≡ memory_ports_at ms r.memory → Adds d e now 1 (both_shown t.active t.own) → Adds e f test 1 (on_both_shown now wires o.guard)
    → ReachAsked f g kinds wires test false 0 r m pairs before after → UseDriven d g kinds wires t o ms pairs before after
read_driven d e f g kinds wires t o ms pairs r m now test before after is memory a b h = record {
  used =
      subst (λ (w : OperationForm). UsedDriven d g kinds wires t o ms pairs before after (use_in w)) (sym is)
      (subst (λ (n : MemoryPorts). ReachDriven d g kinds wires t o n pairs r.banks before after) memory driven);
}
  where
    conv : (bank : ℕ) (driver : Driver) → DrivesBank g kinds wires (record { test = test; write = false; row = h.row; value = 0 }) r.select bank driver → DrivesUse g kinds wires t o m.bits bank driver
    conv bank driver k = record {
      enable_wire = k.there;
      row_wire = subst (λ (w : ℕ). IsWire g w m.bits) (sym k.row_is) h.row_there;
      data_is = λ s value same. absurd (let z : Read r ≡ Write s value = sym is ∙ same in cc);
      writes = λ on. absurd (let z : true ≡ false = sym on ∙ k.write_is in cc);
      enable_is = λ x first ws s words.
          let takes = takes_of first ws kinds wires x o (Read r) is words in
          let in_f = settled_fewer f g x h.grows s in
          let now_is : is_one x now ≡ (is_one x t.active && is_one x t.own) = bit_tells (shown x now) _ (a.shows.is x (settled_fewer e f x b.grows in_f)) in
          let guard = guard_is first ws kinds wires x o.guard takes.0 in
          k.is x first ws s (select_shown first ws kinds wires x r takes.1)
          ∙ (ap (λ u. u && select_picks first ws r.select bank) (both_tells e f test now wires o.guard x b in_f ∙ ((λ i. now_is i && (sym guard) i)))
          ∙ sym (ap (λ w. (form_time x t w && is_on first ws o.guard) && form_picks first ws bank w) is));
      says = λ x first ws p s words width.
          let takes = takes_of first ws kinds wires x o (Read r) is words in
          subst (λ (w : OperationForm). SaysForm p x.wires first ws driver w) (sym is)
          (record {
            reads = k.write_is;
            row = ap (λ w. shown x w) k.row_is ∙ (h.row_is x first ws s (row_shown first ws kinds wires x r takes.1) ∙ ap (λ w. row_bits w first ws r.row) (sym width));
          });
    }

    driven : ReachDriven d g kinds wires t o m pairs r.banks before after
    driven = record {
      grows = grows_then d e g a.grows (grows_then e f g b.grows h.grows);
      added = h.added;
      behind = h.behind;
      drive = uses_from g kinds wires (record { test = test; write = false; row = h.row; value = 0 }) r.select t o m pairs conv r.banks h.added h.drive;
    }

-- A write.

pub write_driven : (d e f : PlainCircuit) (kinds : List Kind) (wires : List ℕ) (t : Times) (o : Operation) (ms : List MemoryPorts) (pairs : List (ℕ × ℕ)) (r : Reach) (value : ℕ) (m : MemoryPorts) (test data_wire : ℕ)
    (before after : List (Keyed Driver)) → o.form ≡ Write r value → m ≡ memory_ports_at ms r.memory → data_wire ≡ slice_index wires value → Adds d e test 1 (on_both_shown t.commit wires o.guard)
    → ReachAsked e f kinds wires test true data_wire r m pairs before after → UseDriven d f kinds wires t o ms pairs before after
write_driven d e f kinds wires t o ms pairs r value m test data_wire before after is memory wire_is b h = record {
  used =
      subst (λ (w : OperationForm). UsedDriven d f kinds wires t o ms pairs before after (use_in w)) (sym is)
      (subst (λ (n : MemoryPorts). ReachDriven d f kinds wires t o n pairs r.banks before after) memory driven);
}
  where
    conv : (bank : ℕ) (driver : Driver) → DrivesBank f kinds wires (record { test = test; write = true; row = h.row; value = data_wire }) r.select bank driver → DrivesUse f kinds wires t o m.bits bank driver
    conv bank driver k = record {
      enable_wire = k.there;
      row_wire = subst (λ (w : ℕ). IsWire f w m.bits) (sym k.row_is) h.row_there;
      data_is = λ s other same.
          let z : Write r value ≡ Write s other = sym is ∙ same in
          let v : value ≡ other = cc in
          k.data_is ∙ (wire_is ∙ ap (λ n. slice_index wires n) v);
      writes = λ on. (r, (value, is));
      enable_is = λ x first ws s words.
          let takes = takes_of first ws kinds wires x o (Write r value) is words in
          let in_e = settled_fewer e f x h.grows s in
          let guard = guard_is first ws kinds wires x o.guard takes.0 in
          k.is x first ws s (select_shown first ws kinds wires x r takes.1.1)
          ∙ (ap (λ u. u && select_picks first ws r.select bank) (both_tells d e test t.commit wires o.guard x b in_e ∙ ap (λ u. is_one x t.commit && u) (sym guard))
          ∙ sym (ap (λ w. (form_time x t w && is_on first ws o.guard) && form_picks first ws bank w) is));
      says = λ x first ws p s words width.
          let takes = takes_of first ws kinds wires x o (Write r value) is words in
          subst (λ (w : OperationForm). SaysForm p x.wires first ws driver w) (sym is)
          (record {
            writes = k.write_is;
            row = ap (λ w. shown x w) k.row_is ∙ (h.row_is x first ws s (row_shown first ws kinds wires x r takes.1.1) ∙ ap (λ w. row_bits w first ws r.row) (sym width));
            bits = ap (λ w. shown x w) (k.data_is ∙ wire_is) ∙ sym (ap (λ (w : Word). w.bits) takes.1.0);
          });
    }

    driven : ReachDriven d f kinds wires t o m pairs r.banks before after
    driven = record {
      grows = grows_then d e f b.grows h.grows;
      added = h.added;
      behind = h.behind;
      drive = uses_from f kinds wires (record { test = test; write = true; row = h.row; value = data_wire }) r.select t o m pairs conv r.banks h.added h.drive;
    }

-- No use.

pub nothing_used : (d : PlainCircuit) (kinds : List Kind) (wires : List ℕ) (t : Times) (o : Operation) (ms : List MemoryPorts) (pairs : List (ℕ × ℕ)) (drivers : List (Keyed Driver)) (f : OperationForm) → o.form ≡ f
    → use_in f ≡ None → UseDriven d d kinds wires t o ms pairs drivers drivers
nothing_used d kinds wires t o ms pairs drivers f is none = record {
  used = subst (λ (u : Option Reach). UsedDriven d d kinds wires t o ms pairs drivers drivers u) (sym (ap use_in is ∙ none)) (grows_none d, refl);
}

-- What a use needs.

suits_stay : (d e : PlainCircuit) (kinds : List Kind) (wires : List ℕ) (m : MemoryPorts) (pairs : List (ℕ × ℕ)) (r : Reach) → Grows d e → ReachSuits d kinds wires m pairs r → ReachSuits e kinds wires m pairs r
suits_stay d e kinds wires m pairs r g h = record { bits = h.bits; row = may_stay d e kinds wires r.row g h.row; select = may_stay d e kinds wires r.select g h.select; small = h.small }

pub read_suits : (d e : PlainCircuit) (kinds : List Kind) (wires : List ℕ) (ms : List MemoryPorts) (pairs : List (ℕ × ℕ)) (o : Operation) (r : Reach) (m : MemoryPorts) → Grows d e → o.form ≡ Read r → UseSuits d kinds wires ms pairs o
    → m ≡ memory_ports_at ms r.memory → ReachSuits e kinds wires m pairs r
read_suits d e kinds wires ms pairs o r m g is h same =
    subst (λ (n : MemoryPorts). ReachSuits e kinds wires n pairs r) (sym same)
    (suits_stay d e kinds wires (memory_ports_at ms r.memory) pairs r g (subst (λ (f : OperationForm). FormUseSuits d kinds wires ms pairs f) is h.form).1)

pub write_suits : (d e : PlainCircuit) (kinds : List Kind) (wires : List ℕ) (ms : List MemoryPorts) (pairs : List (ℕ × ℕ)) (o : Operation) (r : Reach) (value : ℕ) (m : MemoryPorts) → Grows d e → o.form ≡ Write r value
    → UseSuits d kinds wires ms pairs o → m ≡ memory_ports_at ms r.memory → ReachSuits e kinds wires m pairs r
write_suits d e kinds wires ms pairs o r value m g is h same =
    subst (λ (n : MemoryPorts). ReachSuits e kinds wires n pairs r) (sym same)
    (suits_stay d e kinds wires (memory_ports_at ms r.memory) pairs r g (subst (λ (f : OperationForm). FormUseSuits d kinds wires ms pairs f) is h.form).1.1)

pub use_suits_stay : (d e : PlainCircuit) (kinds : List Kind) (wires : List ℕ) (ms : List MemoryPorts) (pairs list : List (ℕ × ℕ)) (o : Operation) → Grows d e → list ≡ pairs → UseSuits d kinds wires ms pairs o → UseSuits e kinds wires ms list o
use_suits_stay d e kinds wires ms pairs list o g same h =
    subst (λ (l : List (ℕ × ℕ)). UseSuits e kinds wires ms l o) (sym same) (record { guard = guard_stays d e wires o.guard g h.guard; form = by o.form h.form })
  where
    by : (f : OperationForm) → FormUseSuits d kinds wires ms pairs f → FormUseSuits e kinds wires ms pairs f
    by (Constant word) k = tt
    by (Old register) k = tt
    by (Compute op left right) k = tt
    by (Convert inner to) k = tt
    by (Select test a b) k = tt
    by (Check ok fault) k = tt
    by (Probe r fault) k = tt
    by (Set register value) k = tt
    by (Read r) k = (k.0, suits_stay d e kinds wires (memory_ports_at ms r.memory) pairs r g k.1)
    by (Write r value) k = (k.0, (k.1.0, suits_stay d e kinds wires (memory_ports_at ms r.memory) pairs r g k.1.1))

-- an item by whatever default
pub same_item : {A : Type 0} (xs : List A) (i : ℕ) (d e : A) → i < length xs → get_or xs i d ≡ get_or xs i e
same_item xs i d e less = sym (get_or_from_slice_get xs i (get_or xs i d) e (slice_get-get_or xs i d less))

pub item_at : {A : Type 0} (xs : List A) (i : ℕ) (x : A) → i < length xs → x ≡ get_or xs i x → slice_get xs i ≡ Some x
item_at {A = A} xs i x less is = slice_get-get_or xs i x less ∙ ap (λ (y : A). Some y) (sym is)
