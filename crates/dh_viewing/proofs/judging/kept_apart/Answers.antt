use Rattle.std.proofs.Common.{ap, ◌∙◌}
use Rattle.dh_tree.specs.Memories.{memories_of}
use Rattle.dh_tree.specs.Seen.{program_seen}
use Rattle.dh_tree.specs.ViewBreaches.{kept_behind}
use Rattle.dh_viewing.specs.Finding.{viewings_found}
use Rattle.dh_viewing.proofs.KeptAll.{none_apart}
use Rattle.dh_viewing.proofs.judging.kept_apart.Goals as goal

pub returns-then-keeps_all : goal.returns-then-keeps_all
returns-then-keeps_all c h = none_apart (memories_of (program_seen c.args.typed.now)) (viewings_found c.args.found.now) c.keeps_all.result c.args.is_unbroken c.keeps_all.ensures c.if-keeps_all.true h

pub returns : goal.returns
returns c h = c.in_ok-push_all_kept.ensures ∙ ap (λ l. kept_behind (memories_of (program_seen c.args.typed.now)) l (viewings_found c.args.found.now)) c.in_ok-kept.ensures
