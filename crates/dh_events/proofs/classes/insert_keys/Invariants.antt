use Rattle.std.proofs.Common.{◌≡◌, drop}
use Rattle.indexmap.specs.IndexSet.{insert_all}
use Rattle.dh_events.specs.Classes.{is_same}
use Rattle.dh_events.proofs.classes.insert_keys.Given as goal

abbrev pub invariant-loop-key : goal.invariant-loop-key
invariant-loop-key l = insert_all is_same l.known.keys (drop l.key-index l.keys) ≡ insert_all is_same l.fn.known.keys l.keys
