use Rattle.std.proofs.Common.{ap, ◌∙◌}
use Rattle.dh_tree.specs.Seen.{program_seen}
use Rattle.dh_tree.proofs.Collecting.{no_number}
use Rattle.dh_viewing.specs.Finding.{viewings_found}
use Rattle.dh_viewing.proofs.KeptAll.{judged}
use Rattle.dh_viewing.proofs.judging.judge_declared.Goals as goal

pub returns : goal.returns
returns c =
    judged (program_seen c.args.typed.now) (viewings_found c.as_slice-views.result.now) c.in_ok-all.all c.keep_all.new.views c.in_ok-apart.apart c.is_none.result c.args.kept.now c.keep_all.new.kept
    (ap viewings_found c.as_slice-views.ensures.value ∙ c.in_ok-found.ensures) c.in_ok-all.ensures c.in_ok-keep_all.ensures.views c.in_ok-keep_all.ensures.breaches
    (no_number c.keep_all.new.kept c.is_none.result c.is_none.ensures) c.in_ok-apart.ensures
