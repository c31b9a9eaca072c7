-- No run of a program that is ready and keeps the rules on ports is stuck.
use Rattle.dh_tree.specs.PlainTrees.{Program}
use Rattle.dh_sound.proofs.AcceptedPrograms.{accepted_is_told}
use Rattle.dh_sound.proofs.PortsKept.{never_stuck}
use Rattle.dh_backend.specs.PlanLaws.{AcceptedNeverStuck}

pub accepted_never_stuck : (p : Program) → AcceptedNeverStuck p
accepted_never_stuck p ready ports =
    let h = accepted_is_told p (record { ready = ready; ports = ports }) in
    never_stuck p h.ready h.rules h.declared h.tells h.keeps
