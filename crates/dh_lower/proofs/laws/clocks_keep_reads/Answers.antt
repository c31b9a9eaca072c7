use Rattle.dh_lower.proofs.ReadsMade.{clashes_never, strays_never, reads_made}
use Rattle.dh_lower.proofs.laws.clocks_keep_reads.Goals as goal

pub returns : goal.returns
returns c = λ plan t u users registers memories held words m wires dss has now say. record {
  no_clash = clashes_never plan t u users has registers memories held words m now wires dss say.many say.drives;
  no_stray = strays_never plan t u users has registers memories held words m now wires dss say.many say.drives;
  reads = λ full block active. reads_made plan t u users has registers memories held words m now wires dss say.many say.drives full block active;
}
