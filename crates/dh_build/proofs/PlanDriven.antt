-- Drivers of one block after the other.
use Rattle.std.proofs.Common.{◌≡◌, ℕ, suc, ◌+◌, ◌<◌, ◌≤◌, List, [], ◌∷◌, ◌++◌, length, drop, get_or, refl, sym, ap, subst, ◌∙◌, arith, append_assoc}
use Rattle.std.proofs.Math.ListN.{drop_of_length-le}
use Rattle.std.proofs.lemmas.List.{append-nil}
use Rattle.dh_base.proofs.ListItems.{at_item}
use Rattle.dh_value.specs.declared.kinds.Kind.{Kind}
use Rattle.dh_net.specs.declared.nets.Driver.{Driver}
use Rattle.dh_plan.specs.declared.operations.Operation.{Operation}
use Rattle.dh_plan.specs.declared.operations.PlanBlock.{PlanBlock}
use Rattle.dh_plan.specs.BoundPorts.{Uses}
use Rattle.dh_plan.specs.PlainPlans.{PlainPlan, operations_in}
use Rattle.dh_cells.specs.PlainCircuits.{PlainCircuit}
use Rattle.dh_cells.specs.Settled.{Grows}
use Rattle.dh_cells.proofs.CellsAppended.{grows_none, grows_then}
use Rattle.dh_lower.specs.PortUsers.{User}
use Rattle.dh_datapath.specs.BlockWires.{part_in}
use Rattle.dh_control.specs.declared.driving.MemoryPorts.{MemoryPorts}
use Rattle.dh_control.specs.declared.driving.Times.{Times}
use Rattle.dh_control.specs.declared.gathering.Keyed.{Keyed}
use Rattle.dh_datapath.proofs.BlocksMade.{own_operations}
use Rattle.dh_control.specs.BlockUses.{BlockDriven, DriveAll, block_uses}
use Rattle.dh_control.specs.PlanUsers.{operations_users, blocks_users}
use Rattle.dh_build.specs.DrivenUsers.{DriveUsers, UsesDriven, UsesSuit}
use Rattle.dh_build.specs.MemoryTables.{AreMemoryPorts}
use Rattle.dh_build.proofs.UsersDriven.{users_stay, users_both, of_block}

-- the blocks below a number are driven
pub record DrivenSoFar (start d : PlainCircuit) (plan : PlainPlan) (u : Uses) (kinds : List Kind) (wires : List ℕ) (times : ℕ → ℕ → Times) (n : ℕ) (before now : List (Keyed Driver)) : Type 0 where
  pub grows : Grows start d
  pub users : List (Keyed User)
  pub whole : users ++ blocks_users plan u n (drop n plan.blocks) ≡ blocks_users plan u 0 plan.blocks
  pub added : List (Keyed Driver)
  pub behind : now ≡ before ++ added
  pub drive : DriveUsers d plan kinds wires times users added

module _ (plan : PlainPlan) (u : Uses) (kinds : List Kind) (wires : List ℕ) (times : ℕ → ℕ → Times) where
  pub driven_starts : (d : PlainCircuit) (before : List (Keyed Driver)) → DrivenSoFar d d plan u kinds wires times 0 before before
  driven_starts d before = record { grows = grows_none d; users = []; whole = refl; added = []; behind = sym (append-nil before); drive = tt }

  pub driven_goes : (ms : List MemoryPorts) → AreMemoryPorts plan.table ms → (start d e : PlainCircuit) → UsesSuit start plan u kinds wires ms → (n : ℕ) (blocks : List PlanBlock) (b : PlanBlock) (own : ℕ → Times) (pairs : List (List (ℕ × ℕ))) (os : List Operation)
      (before now after : List (Keyed Driver)) → blocks ≡ plan.blocks → n < length blocks → b ≡ get_or blocks n b → os ≡ b.operations → own ≡ times n → pairs ≡ part_in plan u.ports n
      → DrivenSoFar start d plan u kinds wires times n before now → BlockDriven d e kinds wires own ms pairs os now after → DrivenSoFar start e plan u kinds wires times (n + 1) before after
  driven_goes ms memories start d e suit n blocks b own pairs os before now after same less is os_are own_is pairs_are h g =
      let os_here : os ≡ operations_in plan n = own_operations plan blocks n b os same less is os_are in
      let drives = of_block plan u kinds wires times ms memories start e suit n g.added
      (subst (λ (l : List Operation). DriveAll e kinds wires (times n) ms (part_in plan u.ports n) (block_uses 0 l) g.added) os_here
      (subst (λ (l : List (List (ℕ × ℕ))). DriveAll e kinds wires (times n) ms l (block_uses 0 os) g.added) pairs_are
      (subst (λ (t : ℕ → Times). DriveAll e kinds wires t ms pairs (block_uses 0 os) g.added) own_is g.drive))) in
      let more = operations_users plan u n 0 (operations_in plan n) in
      let next : n + 1 ≡ suc n = omega arith in
      let left : drop n plan.blocks ≡ b ∷ drop (n + 1) plan.blocks = subst (λ (l : List PlanBlock). drop n l ≡ b ∷ drop (n + 1) l) same (at_item blocks n b less is) in
      record {
        grows = grows_then start d e h.grows g.grows;
        users = h.users ++ more;
        whole =
            append_assoc h.users more (blocks_users plan u (n + 1) (drop (n + 1) plan.blocks))
            ∙ (ap (λ (k : ℕ). h.users ++ (more ++ blocks_users plan u k (drop (n + 1) plan.blocks))) next
            ∙ (ap (λ (l : List Operation). h.users ++ (operations_users plan u n 0 l ++ blocks_users plan u (suc n) (drop (n + 1) plan.blocks))) (sym os_here ∙ os_are)
            ∙ (ap (λ (l : List PlanBlock). h.users ++ blocks_users plan u n l) (sym left) ∙ h.whole)));
        added = h.added ++ g.added;
        behind = g.behind ∙ (ap (λ (l : List (Keyed Driver)). l ++ g.added) h.behind ∙ append_assoc before h.added g.added);
        drive = users_both plan kinds wires times e h.users more h.added g.added (users_stay plan kinds wires times d e h.users h.added g.grows h.drive) drives;
      }

  pub driven_ends : (start d : PlainCircuit) (n : ℕ) (before now : List (Keyed Driver)) → length plan.blocks ≤ n → DrivenSoFar start d plan u kinds wires times n before now → UsesDriven start d plan u kinds wires times before now
  driven_ends start d n before now past h = record {
    grows = h.grows;
    added = h.added;
    behind = h.behind;
    drive =
        subst (λ (l : List (Keyed User)). DriveUsers d plan kinds wires times l h.added)
        (sym (append-nil h.users) ∙ (ap (λ (l : List PlanBlock). h.users ++ blocks_users plan u n l) (sym (drop_of_length-le plan.blocks past)) ∙ h.whole)) h.drive;
  }
