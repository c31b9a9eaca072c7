use Rattle.dh_tree.specs.Seen.{program_seen}
use Rattle.dh_inline.proofs.Flattened.{flat_itself}
use Rattle.dh_inline.proofs.inlining.inline.Goals as goal

pub returns : goal.returns
returns c = flat_itself (program_seen c.args.program.now) c.requires
