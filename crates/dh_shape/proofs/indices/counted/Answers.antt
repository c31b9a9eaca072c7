use Rattle.dh_tree.specs.Counters.{counters_of}
use Rattle.dh_tree.specs.Kinds.{signed_number}
use Rattle.dh_tree.specs.Seen.{program_seen}
use Rattle.dh_shape.proofs.Loops.{no_iterator}
use Rattle.dh_shape.proofs.indices.counted.Goals as goal

pub returns-in_default : goal.returns-in_default
returns-in_default c = no_iterator (counters_of (program_seen c.args.typed.now)) c.args.kind c.args.entity (signed_number c.args.literal.negative c.args.literal.value) c.in_default.is
