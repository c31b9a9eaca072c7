-- The law is the lemma on what a net that plays a run reports.
use Rattle.dh_net.proofs.Reporting.{reports_by}
use Rattle.dh_net.proofs.playing.playing_tells_the_report.Goals as goal

pub returns : goal.returns
returns c = λ net r start plays limit outcome steps clocks memories run. reports_by plays run
