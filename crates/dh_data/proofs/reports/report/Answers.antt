use Rattle.dh_data.specs.Reports.{report_data}
use Rattle.dh_data.proofs.Floats.{report_none}
use Rattle.dh_data.proofs.Memories.{line_of}
use Rattle.dh_data.proofs.reports.report.Goals as goal

pub returns : goal.returns
returns c = line_of _ (report_data c.args.table.now c.args.m.now c.args.ending.now) _ _ c.in_ok-value.ensures c.in_ok-text.ensures.text (report_none c.args.table.now c.args.m.now c.args.ending.now) c.in_ok-push.ensures.items
