use Rattle.std.proofs.Common.{◌+◌, ◌∙◌}
use Rattle.dh_viewing.proofs.DeclaredViews.{declares_begin, declares_next, declares_found, declares_end}
use Rattle.dh_viewing.proofs.declaring.+declaring.Goals as goal

pub parts_declare-loop-command-init : goal.parts_declare-loop-command-init
parts_declare-loop-command-init t c =
    declares_begin c.args.parts.now c.loop-part.part-index c.part-item.result c.deref-command-items.result.now c.loop-part-test.true c.part-item.is c.deref-command-items.ensures.value
    ∙ c.loop-part.invariant

pub parts_declare-returns-then-declares : goal.parts_declare-returns-then-declares
parts_declare-returns-then-declares t c =
    declares_found c.deref-command-items.result.now c.loop-command.command-index c.command-item.result c.args.parts.now (c.loop-part.part-index + 1) c.declares.result c.loop-command-test.true c.command-item.is c.declares.ensures c.if-declares.true
    ∙ c.loop-command.invariant

pub parts_declare-loop-command-preserved : goal.parts_declare-loop-command-preserved
parts_declare-loop-command-preserved t c =
    declares_next c.deref-command-items.result.now c.loop-command.command-index c.command-item.result c.args.parts.now (c.loop-part.part-index + 1) c.declares.result c.loop-command-test.true c.command-item.is c.declares.ensures c.if-declares.false
    ∙ c.loop-command.invariant

pub parts_declare-loop-part-preserved : goal.parts_declare-loop-part-preserved
parts_declare-loop-part-preserved t c =
    declares_end c.deref-command-items.result.now c.loop-command.command-index c.args.parts.now (c.loop-part.part-index + 1) c.loop-command-test.false
    ∙ c.loop-command.invariant
