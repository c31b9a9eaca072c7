use Rattle.dh_tree.specs.PlainTrees.{Program}
use Rattle.dh_meaning.specs.CoreOf.{core_of}
use Rattle.dh_sound.specs.Accepted.{IsAccepted}
use Rattle.dh_sound.specs.KeptPorts.{IsNeverStuck}
use Rattle.dh_sound.specs.Standing.{BlocksKeepPorts}
use Rattle.dh_sound.proofs.AcceptedPrograms.{accepted_is_told}
use Rattle.dh_sound.proofs.PortsKept.{blocks_keep, never_stuck}
use Rattle.dh_sound.proofs.accepted_programs_are_never_stuck.Goals as goal

accepted_blocks : (p : Program) → IsAccepted p → BlocksKeepPorts (core_of p)
accepted_blocks p a = let h = accepted_is_told p a in blocks_keep p h.ready h.rules h.declared h.tells h.keeps

accepted_never_stuck : (p : Program) → IsAccepted p → IsNeverStuck p
accepted_never_stuck p a = let h = accepted_is_told p a in never_stuck p h.ready h.rules h.declared h.tells h.keeps

pub returns-clause-blocks : goal.returns-clause-blocks
returns-clause-blocks c = accepted_blocks

pub returns-clause-stuck : goal.returns-clause-stuck
returns-clause-stuck c = accepted_never_stuck
