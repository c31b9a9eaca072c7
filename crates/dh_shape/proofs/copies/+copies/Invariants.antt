use Rattle.std.proofs.Common.{◌≡◌, ◌+◌, None}
use Rattle.dh_shape.proofs.CopiesWalked.{parts_left, part_left}
use Rattle.dh_shape.proofs.copies.+copies.Given as goal

-- what was found so far, and what is left, come to what all come to
abbrev pub invariant-copies_above_in_parts-loop-part : goal.invariant-copies_above_in_parts-loop-part
invariant-copies_above_in_parts-loop-part l = parts_left l.round l.found l.parts l.part-index ≡ parts_left l.round None l.parts 0

abbrev pub invariant-copies_above_in_parts-loop-command : goal.invariant-copies_above_in_parts-loop-command
invariant-copies_above_in_parts-loop-command l =
    part_left l.round l.found l.command-items l.command-index l.parts (l.part-index + 1) ≡ parts_left l.round None l.parts 0
