use Rattle.std.proofs.Common.{◌≤◌, ◌+◌, ◌*◌, length}
use Rattle.dh_parser.specs.Reading.{the_part, the_parts, the_block, steps}
use Rattle.dh_parser.proofs.Loops.{Loops}
use Rattle.dh_parser.proofs.PartLoops.{PartSoFar, PartsSoFar}
use Rattle.dh_parser.proofs.parsing.commands.+command.Given as goal

abbrev pub decreases-read_sequence : goal.decreases-read_sequence
decreases-read_sequence l = length l.reader.now.rest.now * 8 + 5

abbrev pub decreases-read_part : goal.decreases-read_part
decreases-read_part l = length l.reader.now.rest.now * 8 + 4

abbrev pub decreases-read_compound : goal.decreases-read_compound
decreases-read_compound l = length l.reader.now.rest.now * 8 + 3

abbrev pub decreases-read_else_if : goal.decreases-read_else_if
decreases-read_else_if l = length l.reader.now.rest.now * 8 + 3

abbrev pub decreases-read_block : goal.decreases-read_block
decreases-read_block l = length l.reader.now.rest.now * 8 + 2

abbrev pub decreases-read_boxed_block : goal.decreases-read_boxed_block
decreases-read_boxed_block l = length l.reader.now.rest.now * 8 + 3

abbrev pub decreases-read_if : goal.decreases-read_if
decreases-read_if l = length l.reader.now.rest.now * 8 + 2

abbrev pub decreases-read_arms : goal.decreases-read_arms
decreases-read_arms l = length l.reader.now.rest.now * 8 + 4

abbrev pub decreases-read_while : goal.decreases-read_while
decreases-read_while l = length l.reader.now.rest.now * 8 + 2

abbrev pub decreases-read_for : goal.decreases-read_for
decreases-read_for l = length l.reader.now.rest.now * 8 + 2

abbrev pub decreases-read_else : goal.decreases-read_else
decreases-read_else l = length l.reader.now.rest.now * 8 + 2

abbrev pub decreases-read_combine : goal.decreases-read_combine
decreases-read_combine l = length l.reader.now.rest.now * 8 + 2

abbrev pub invariant-read_sequence-loop-parts : goal.invariant-read_sequence-loop-parts
invariant-read_sequence-loop-parts l = record {
  loops : Loops (the_parts the_block) l.reader.rest.now (the_parts the_block (steps l.fn.reader.rest.now) l.fn.reader.rest.now) (PartsSoFar l.fn.reader.commands l.parts.items l.reader.commands);
  room : l.reader.commands + length l.reader.rest.now ≤ l.fn.reader.commands + length l.fn.reader.rest.now;
  shorter : length l.reader.rest.now ≤ length l.fn.reader.rest.now;
}

abbrev pub decreases-read_sequence-loop-parts : goal.decreases-read_sequence-loop-parts
decreases-read_sequence-loop-parts l = length l.reader.rest.now

abbrev pub invariant-read_part-loop-reader : goal.invariant-read_part-loop-reader
invariant-read_part-loop-reader l = record {
  loops : Loops (the_part the_block) l.reader.rest.now (the_part the_block (steps l.fn.reader.rest.now) l.fn.reader.rest.now) (PartSoFar l.fn.reader.commands l.commands.items l.reader.commands);
  room : l.reader.commands + length l.reader.rest.now ≤ l.fn.reader.commands + length l.fn.reader.rest.now;
  shorter : length l.reader.rest.now ≤ length l.fn.reader.rest.now;
}

abbrev pub decreases-read_part-loop-reader : goal.decreases-read_part-loop-reader
decreases-read_part-loop-reader l = length l.reader.rest.now
