-- What a ready program comes to, where its ports are judged and where they are not.
use Rattle.std.proofs.Common.{◌≡◌, ℕ, inl, inr, true, false, List, [], Result, Ok, Err, refl, subst, sym, ◌∙◌}
use Rattle.std.specs.Prelude.{IsErrAnd}
use Rattle.dh_base.specs.declared.faults.PassFault.{PassFault}
use Rattle.dh_base.specs.declared.faults.PassFault.TheVariants as pass
use Rattle.dh_tree.specs.LeastBreach.{breach}
use Rattle.dh_tree.specs.PlainTrees.{Program}
use Rattle.dh_ports.specs.Told.{TellsPorts}
use Rattle.dh_meets.specs.Ports.{KeepsPortRules}
use Rattle.dh_tree.specs.Seen.{program_seen}
use Rattle.dh_meaning.specs.CoreOf.{core_of}
use Rattle.dh_sound.specs.KeptPorts.{IsNeverStuck}
use Rattle.dh_sound.specs.Standing.{BlocksKeepPorts}
use Rattle.dh_check.specs.declared.checking.CheckFault.{CheckFault}
use Rattle.dh_check.specs.declared.checking.CountedProgram.{CountedProgram}
use Rattle.dh_check.specs.Acceptance.{IsSoundProgram}
use Rattle.dh_check.specs.Ready.{of_pass, CheckGoesOn, TellsText}
use Rattle.dh_check.specs.Verdicts.{accepts, refuses, IsVerdict, FaultTells, ChecksWithoutPorts}

pub accepted_by : (text : List ℕ) (p a : Program) → a ≡ p → CheckGoesOn (λ ports v. IsVerdict ports text v) p → KeepsPortRules p
    → IsVerdict true text (accepts a)
accepted_by text p a same goes keeps =
    subst (λ (x : Program). IsVerdict true text (accepts x)) (sym same) (goes true (accepts p) (inr (keeps, refl)))

pub refused_by : (text : List ℕ) (p : Program) (e : PassFault) → CheckGoesOn (λ ports v. IsVerdict ports text v) p
    → TellsPorts p (Err e) → FaultTells (IsVerdict true text) (of_pass e)
refused_by text p pass.NoMemory goes h = tt
refused_by text p (pass.Refused rule place) goes first = goes true (refuses rule place) (inl (breach rule place, (first, refl)))

pub sound_still : (p a : Program) → a ≡ p → BlocksKeepPorts (core_of p) → IsNeverStuck p → IsSoundProgram a
sound_still p a same blocks never_stuck = subst (λ (x : Program). IsSoundProgram x) (sym same) (record { blocks = blocks; never_stuck = never_stuck })

pub without_ports : (text : List ℕ) (c : CountedProgram) → TellsText text (Ok c) → ChecksWithoutPorts text (Ok c.typed)
without_ports text c h = (h.1 false (accepts (program_seen c.typed)) refl, h.0)

pub fault_without_ports : (text : List ℕ) (e : CheckFault) → TellsText text (Err e) → ChecksWithoutPorts text (Err e)
fault_without_ports text e h = h false

-- a fault that is handed on
pub handed_on : {A : Type 0} (P : Result A CheckFault → Type 0) (r : Result A CheckFault) (e : CheckFault) → IsErrAnd r (λ f. f ≡ e) → P (Err e) → P r
handed_on P (Ok a) e is h = absurd is
handed_on P (Err f) e is h = subst (λ (x : CheckFault). P (Err x)) (sym is) h
