use Rattle.dh_sound.proofs.PortsKept.{blocks_keep, never_stuck}
use Rattle.dh_sound.proofs.kept_ports_are_never_spent.Goals as goal

pub returns-clause-blocks : goal.returns-clause-blocks
returns-clause-blocks c = λ p h. blocks_keep p h.ready h.rules h.declared h.tells h.keeps

pub returns-clause-stuck : goal.returns-clause-stuck
returns-clause-stuck c = λ p h. never_stuck p h.ready h.rules h.declared h.tells h.keeps
