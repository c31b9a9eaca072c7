use Rattle.std.proofs.Common.{◌≡◌, ◌≤◌, ◌+◌, ◌*◌, length, map}
use Rattle.dh_tree.specs.Seen.{term_seen}
use Rattle.dh_tree.specs.PlainTrees.{term_then}
use Rattle.dh_parser.specs.Grammar.{MoreIndicesText}
use Rattle.dh_parser.specs.TreesOfTexts.{index_of, indices_of}
use Rattle.dh_parser.specs.Reading.{expression, more_indices, all_indices}
use Rattle.dh_parser.proofs.Loops.{Loops}
use Rattle.dh_parser.proofs.OperatorLoops.{Chains}
use Rattle.dh_parser.proofs.TermLoops.{terms_on}
use Rattle.dh_parser.proofs.parsing.expressions.+expression.Given as goal

abbrev pub decreases-read_bracketed : goal.decreases-read_bracketed
decreases-read_bracketed l = length l.reader.now.rest.now * 8 + 6

abbrev pub decreases-read_expression : goal.decreases-read_expression
decreases-read_expression l = length l.reader.now.rest.now * 8 + 5

abbrev pub decreases-read_operand : goal.decreases-read_operand
decreases-read_operand l = length l.reader.now.rest.now * 8 + 4

abbrev pub decreases-read_named : goal.decreases-read_named
decreases-read_named l = length l.reader.now.rest.now * 8 + 4

abbrev pub decreases-read_access : goal.decreases-read_access
decreases-read_access l = length l.reader.now.rest.now * 8 + 3

abbrev pub decreases-read_row : goal.decreases-read_row
decreases-read_row l = length l.reader.now.rest.now * 8 + 2

abbrev pub decreases-read_indices : goal.decreases-read_indices
decreases-read_indices l = length l.reader.now.rest.now * 8 + 2

abbrev pub decreases-read_index : goal.decreases-read_index
decreases-read_index l = length l.reader.now.rest.now * 8 + 1

abbrev pub decreases-read_further : goal.decreases-read_further
decreases-read_further l = length l.reader.now.rest.now * 8 + 1

abbrev pub invariant-read_expression-loop-op : goal.invariant-read_expression-loop-op
invariant-read_expression-loop-op l = record {
  chains : Chains l.level l.left l.reader.rest.now (expression l.level l.fn.reader.rest.now);
  commands : l.reader.commands ≡ l.fn.reader.commands;
  shorter : length l.reader.rest.now ≤ length l.fn.reader.rest.now;
}

abbrev pub decreases-read_expression-loop-op : goal.decreases-read_expression-loop-op
decreases-read_expression-loop-op l = length l.reader.rest.now

abbrev pub invariant-read_indices-loop-reader : goal.invariant-read_indices-loop-reader
invariant-read_indices-loop-reader l = record {
  loops : Loops (more_indices expression) l.reader.rest.now (all_indices expression l.fn.reader.rest.now)
      (λ put. (more : MoreIndicesText) → term_then (index_of (put more).0) (indices_of (put more).1) ≡ terms_on (map term_seen l.indices.items) (indices_of more));
  commands : l.reader.commands ≡ l.fn.reader.commands;
  shorter : length l.reader.rest.now ≤ length l.fn.reader.rest.now;
}

abbrev pub decreases-read_indices-loop-reader : goal.decreases-read_indices-loop-reader
decreases-read_indices-loop-reader l = length l.reader.rest.now
