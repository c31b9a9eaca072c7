use Rattle.std.proofs.Common.{◌≡◌, ◌+◌}
use Rattle.dh_viewing.proofs.DeclaredViews.{left_declares, all_declare}
use Rattle.dh_viewing.proofs.declaring.+declaring.Given as goal

abbrev pub invariant-parts_declare-loop-part : goal.invariant-parts_declare-loop-part
invariant-parts_declare-loop-part l = all_declare l.parts l.part-index ≡ all_declare l.parts 0

abbrev pub invariant-parts_declare-loop-command : goal.invariant-parts_declare-loop-command
invariant-parts_declare-loop-command l = left_declares l.command-items l.command-index l.parts (l.part-index + 1) ≡ all_declare l.parts 0
