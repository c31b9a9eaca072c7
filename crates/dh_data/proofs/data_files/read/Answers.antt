use Rattle.dh_data.proofs.Fitting.{shows_means, shown_fits}
use Rattle.dh_data.proofs.OneMeaning.{told_one}
use Rattle.dh_data.proofs.data_files.read.Goals as goal

pub returns-in-Ok-clause-reads : goal.returns-in-Ok-clause-reads
returns-in-Ok-clause-reads c = shows_means _ _ _ c.contents_in.result (record { text = c.in-Ok.ensures.ok.0; value = c.in-Ok.ensures.ok.1 }) c.contents_in.ensures

pub returns-in-Ok-clause-only : goal.returns-in-Ok-clause-only
returns-in-Ok-clause-only c = told_one _ _ c.contents_in.result (shows_means _ _ _ c.contents_in.result (record { text = c.in-Ok.ensures.ok.0; value = c.in-Ok.ensures.ok.1 }) c.contents_in.ensures)

pub returns-in-Ok-clause-fits : goal.returns-in-Ok-clause-fits
returns-in-Ok-clause-fits c = shown_fits _ _ c.contents_in.result c.requires c.contents_in.ensures
