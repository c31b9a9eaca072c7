-- Drivers of what the operations of a block use are drivers of its users of ports.
use Rattle.std.proofs.Common.{◌≡◌, ℕ, suc, ◌+◌, ◌<◌, Some, None, List, [], ◌∷◌, ◌++◌, length, refl, ap, subst, ◌∙◌, arith}
use Rattle.std.specs.Prelude.{Option, slice_get, slice_index_or}
use Rattle.std.proofs.lemmas.Option.{slice_get_within}
use Rattle.dh_value.specs.declared.kinds.Kind.{Kind}
use Rattle.dh_tree.specs.Elements.{ports_at}
use Rattle.dh_net.specs.BankPorts.{first_port}
use Rattle.dh_net.specs.declared.nets.Driver.{Driver}
use Rattle.dh_plan.specs.declared.operations.Operation.{Operation}
use Rattle.dh_plan.specs.declared.operations.OperationForm.{OperationForm}
use Rattle.dh_plan.specs.declared.operations.OperationForm.TheVariants.{Constant, Old, Compute, Convert, Select, Check, Probe, Read, Write, Set}
use Rattle.dh_plan.specs.declared.operations.Reach.{Reach}
use Rattle.dh_plan.specs.BoundPorts.{Uses}
use Rattle.dh_plan.specs.PlainPlans.{PlainPlan, operations_in}
use Rattle.dh_plan.specs.SoundPlans.{use_in}
use Rattle.dh_cells.specs.PlainCircuits.{PlainCircuit}
use Rattle.dh_cells.specs.Settled.{Grows}
use Rattle.dh_cells.proofs.CellsAppended.{settled_fewer, wire_stays}
use Rattle.dh_lower.specs.PortUsers.{User}
use Rattle.dh_lower.specs.ShownWords.{port_bound}
use Rattle.dh_datapath.specs.BlockWires.{part_in}
use Rattle.dh_datapath.proofs.PortsOfRows.{used_at}
use Rattle.dh_control.specs.declared.driving.MemoryPorts.{MemoryPorts}
use Rattle.dh_control.specs.declared.driving.Times.{Times}
use Rattle.dh_control.specs.declared.gathering.Keyed.{Keyed}
use Rattle.dh_control.specs.BlockUses.{BankUse, bank_uses, operation_uses, block_uses, DriveAll}
use Rattle.dh_control.specs.DriverWires.{port_key}
use Rattle.dh_control.specs.PlanUsers.{bank_users, use_users, operations_users}
use Rattle.dh_control.specs.UseWires.{DrivesUse, FormUseSuits, memory_ports_at}
use Rattle.dh_build.specs.DrivenUsers.{DrivesUser, DriveUsers, UsesSuit}
use Rattle.dh_build.specs.MemoryTables.{AreMemoryPorts, row_bits_of}

-- More cells.

drives_stay : (d e : PlainCircuit) (kinds : List Kind) (wires : List ℕ) (t : Times) (o : Operation) (bits bank : ℕ) (driver : Driver) → Grows d e → DrivesUse d kinds wires t o bits bank driver → DrivesUse e kinds wires t o bits bank driver
drives_stay d e kinds wires t o bits bank driver g h = record {
  enable_wire = wire_stays d e driver.enable 1 g h.enable_wire;
  row_wire = wire_stays d e driver.row bits g h.row_wire;
  data_is = h.data_is;
  writes = h.writes;
  enable_is = λ x first ws s words. h.enable_is x first ws (settled_fewer d e x g s) words;
  says = λ x first ws p s words width. h.says x first ws p (settled_fewer d e x g s) words width;
}

module _ (plan : PlainPlan) (kinds : List Kind) (wires : List ℕ) (times : ℕ → ℕ → Times) where
  user_stays : (d e : PlainCircuit) (user : User) (driver : Driver) → Grows d e → DrivesUser d plan kinds wires times user driver → DrivesUser e plan kinds wires times user driver
  user_stays d e user driver g h = record {
    operation = h.operation;
    there = h.there;
    reach = h.reach;
    uses = h.uses;
    drive = drives_stay d e kinds wires (times user.block user.place) h.operation (row_bits_of plan.table h.reach.memory) user.bank driver g h.drive;
  }

  pub users_stay : (d e : PlainCircuit) (vs : List (Keyed User)) (es : List (Keyed Driver)) → Grows d e → DriveUsers d plan kinds wires times vs es → DriveUsers e plan kinds wires times vs es
  users_stay d e [] [] g h = tt
  users_stay d e [] (k ∷ es) g h = h
  users_stay d e (v ∷ vs) [] g h = h
  users_stay d e (v ∷ vs) (k ∷ es) g h = ((h.0.0, user_stays d e v.item k.item g h.0.1), users_stay d e vs es g h.1)

  pub users_both : (d : PlainCircuit) (vs us : List (Keyed User)) (es fs : List (Keyed Driver)) → DriveUsers d plan kinds wires times vs es → DriveUsers d plan kinds wires times us fs
      → DriveUsers d plan kinds wires times (vs ++ us) (es ++ fs)
  users_both d [] us [] fs h g = g
  users_both d [] us (k ∷ es) fs h g = absurd h
  users_both d (v ∷ vs) us [] fs h g = absurd h
  users_both d (v ∷ vs) us (k ∷ es) fs h g = (h.0, users_both d vs us es fs h.1 g)

-- Of one block.

form_memory : (d : PlainCircuit) (kinds : List Kind) (wires : List ℕ) (ms : List MemoryPorts) (pairs : List (ℕ × ℕ)) (f : OperationForm) (r : Reach) → use_in f ≡ Some r → FormUseSuits d kinds wires ms pairs f → r.memory < length ms
form_memory d kinds wires ms pairs (Constant word) r e h = absurd (cc)
form_memory d kinds wires ms pairs (Old register) r e h = absurd (cc)
form_memory d kinds wires ms pairs (Compute op left right) r e h = absurd (cc)
form_memory d kinds wires ms pairs (Convert inner to) r e h = absurd (cc)
form_memory d kinds wires ms pairs (Select test a b) r e h = absurd (cc)
form_memory d kinds wires ms pairs (Check ok fault) r e h = absurd (cc)
form_memory d kinds wires ms pairs (Probe x fault) r e h = absurd (cc)
form_memory d kinds wires ms pairs (Read x) r e h = let same : x ≡ r = cc in subst (λ (y : Reach). y.memory < length ms) same h.0
form_memory d kinds wires ms pairs (Write x value) r e h = let same : x ≡ r = cc in subst (λ (y : Reach). y.memory < length ms) same h.1.0
form_memory d kinds wires ms pairs (Set register value) r e h = absurd (cc)

-- the number of the port that an operation uses of a bank
pub key_is : (plan : PlainPlan) (u : Uses) (ms : List MemoryPorts) → AreMemoryPorts plan.table ms → (block place bank : ℕ) (r : Reach) → r.memory < length plan.table → place < length (operations_in plan block)
    → port_key (memory_ports_at ms r.memory).first (memory_ports_at ms r.memory).count (slice_index_or (part_in plan u.ports block) place []) bank ≡ port_bound plan u block place bank r
key_is plan u ms memories block place bank r less inside =
    ap (λ (m : MemoryPorts). port_key m.first m.count (slice_index_or (part_in plan u.ports block) place []) bank) (memories.each r.memory less)
    ∙ ap (λ (l : List (ℕ × ℕ)). port_key (first_port plan.table r.memory) (ports_at plan.table r.memory) l bank) (used_at plan u.ports block place inside)

module _ (plan : PlainPlan) (u : Uses) (kinds : List Kind) (wires : List ℕ) (times : ℕ → ℕ → Times) (ms : List MemoryPorts) (memories : AreMemoryPorts plan.table ms) (start d : PlainCircuit) (suit : UsesSuit start plan u kinds wires ms) (block : ℕ) where
  abbrev pairs : List (List (ℕ × ℕ))
  pairs = part_in plan u.ports block

  of_banks : (place : ℕ) (o : Operation) (r : Reach) → slice_get (operations_in plan block) place ≡ Some o → use_in o.form ≡ Some r → r.memory < length plan.table → (banks : List (ℕ × ℕ))
      → (us : List BankUse) (vs : List (Keyed User)) → ((fs : List (Keyed Driver)) → DriveAll d kinds wires (times block) ms pairs us fs → DriveUsers d plan kinds wires times vs fs)
      → (es : List (Keyed Driver)) → DriveAll d kinds wires (times block) ms pairs (bank_uses place o r banks ++ us) es → DriveUsers d plan kinds wires times (bank_users plan u block place r banks ++ vs) es
  of_banks place o r at used less [] us vs rest es h = rest es h
  of_banks place o r at used less (b ∷ bs) us vs rest [] h = absurd h
  of_banks place o r at used less (b ∷ bs) us vs rest (e ∷ es) h = (
    (
      h.0.0 ∙ key_is plan u ms memories block place b.0 r less (slice_get_within (operations_in plan block) place o at),
      record {
        operation = o;
        there = at;
        reach = r;
        uses = used;
        drive = subst (λ (m : MemoryPorts). DrivesUse d kinds wires (times block place) o m.bits b.0 e.item) (memories.each r.memory less) h.0.1;
      },
    ),
    of_banks place o r at used less bs us vs rest es h.1,
  )

  of_use : (place : ℕ) (o : Operation) (w : Option Reach) → slice_get (operations_in plan block) place ≡ Some o → use_in o.form ≡ w
      → (us : List BankUse) (vs : List (Keyed User)) → ((fs : List (Keyed Driver)) → DriveAll d kinds wires (times block) ms pairs us fs → DriveUsers d plan kinds wires times vs fs)
      → (es : List (Keyed Driver)) → DriveAll d kinds wires (times block) ms pairs (operation_uses place o w ++ us) es → DriveUsers d plan kinds wires times (use_users plan u block place w ++ vs) es
  of_use place o None at used us vs rest es h = rest es h
  of_use place o (Some r) at used us vs rest es h =
      let inside = form_memory start kinds wires ms (slice_index_or pairs place []) o.form r used (suit block place o at).form in
      let long = memories.long in
      of_banks place o r at used (omega (arith, inside, long)) r.banks us vs rest es h

  of_operations : (from : ℕ) (os : List Operation) → ((i n : ℕ) (p : Operation) → n ≡ from + i → slice_get os i ≡ Some p → slice_get (operations_in plan block) n ≡ Some p)
      → (es : List (Keyed Driver)) → DriveAll d kinds wires (times block) ms pairs (block_uses from os) es → DriveUsers d plan kinds wires times (operations_users plan u block from os) es
  of_operations from [] at [] h = tt
  of_operations from [] at (e ∷ es) h = h
  of_operations from (o ∷ os) at es h =
      of_use from o (use_in o.form) (at 0 from o (let n : from ≡ from + 0 = omega arith in n) refl) refl (block_uses (suc from) os) (operations_users plan u block (suc from) os)
      (λ fs g. of_operations (suc from) os (λ i n p is here. at (suc i) n p (let same : n ≡ from + suc i = omega (arith, is) in same) here) fs g) es h

  pub of_block : (es : List (Keyed Driver)) → DriveAll d kinds wires (times block) ms pairs (block_uses 0 (operations_in plan block)) es
      → DriveUsers d plan kinds wires times (operations_users plan u block 0 (operations_in plan block)) es
  of_block es h =
      of_operations 0 (operations_in plan block)
      (λ i n p is here. let same : i ≡ n = omega (arith, is) in subst (λ (k : ℕ). slice_get (operations_in plan block) k ≡ Some p) same here) es h
