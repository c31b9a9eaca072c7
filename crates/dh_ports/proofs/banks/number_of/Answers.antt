use Rattle.std.proofs.Common.{sym, ◌∙◌, ap}
use Rattle.dh_tree.specs.Memories.{memories_of, number_in}
use Rattle.dh_tree.specs.Seen.{program_seen}
use Rattle.dh_ports.proofs.StartFacts.{none_number}
use Rattle.dh_ports.proofs.banks.number_of.Goals as goal

pub returns-in-None : goal.returns-in-None
returns-in-None c = sym (none_number (memories_of (program_seen c.args.typed.now))) ∙ ap (number_in (memories_of (program_seen c.args.typed.now))) (sym c.in-None.is)
