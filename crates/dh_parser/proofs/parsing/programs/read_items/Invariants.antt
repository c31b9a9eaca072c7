use Rattle.std.proofs.Common.{◌≤◌, ◌+◌, length}
use Rattle.dh_parser.specs.Reading.{the_items, steps}
use Rattle.dh_parser.proofs.Loops.{Loops}
use Rattle.dh_parser.proofs.ItemLoops.{ItemsSoFar}
use Rattle.dh_parser.proofs.parsing.programs.read_items.Given as goal

abbrev pub invariant-loop-items : goal.invariant-loop-items
invariant-loop-items l = record {
  loops : Loops the_items l.reader.rest.now (the_items (steps l.fn.reader.rest.now) l.fn.reader.rest.now) (ItemsSoFar l.fn.reader.commands l.items.decls.items l.items.functions.items l.reader.commands);
  room : l.reader.commands + length l.reader.rest.now ≤ l.fn.reader.commands + length l.fn.reader.rest.now;
}

abbrev pub decreases-loop-items : goal.decreases-loop-items
decreases-loop-items l = length l.reader.rest.now
