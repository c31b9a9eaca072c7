use Rattle.dh_lower.proofs.ValuesShown.{shows_there, shows_all, ports_look_back}
use Rattle.dh_lower.proofs.laws.wires_show_values.Goals as goal

pub returns : goal.returns
returns c = record { there = shows_there; last = shows_all; back = ports_look_back }
