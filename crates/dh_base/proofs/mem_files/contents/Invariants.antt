-- The entries passed do not have the name: the rest tells of it what all of them tell.
use Rattle.std.proofs.Common.{◌≡◌, map, drop}
use Rattle.dh_base.specs.Stores.{stored, told_of}
use Rattle.dh_base.proofs.mem_files.contents.Given as goal

abbrev pub invariant-loop-entry : goal.invariant-loop-entry
invariant-loop-entry l =
    told_of (map stored (drop l.entry-index l.entries)) l.name ≡ told_of (map stored l.entries) l.name
