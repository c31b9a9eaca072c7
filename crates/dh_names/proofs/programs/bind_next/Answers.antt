use Rattle.std.proofs.Common.{◌∙◌, sym}
use Rattle.dh_names.specs.Visible.{visible}
use Rattle.dh_tree.proofs.DeclaringParts.{wanting}
use Rattle.dh_names.proofs.ItemsDone.{memory_within, function_next, memory_next, function_lacks, memory_lacks}
use Rattle.dh_names.proofs.programs.bind_next.Goals as goal

pub bounds-decls-memory : goal.bounds-decls-memory
bounds-decls-memory c = memory_within c.args.decls.now c.args.functions.now (visible c.args.names.now) c.args.least.now c.args.done.0 c.args.done.1 c.requires.left (sym c.function_is_next.ensures ∙ c.if-function_is_next.false)

pub returns-in_ok-bind_name-clause-next : goal.returns-in_ok-bind_name-clause-next
returns-in_ok-bind_name-clause-next c =
    function_next c.args.decls.now c.args.functions.now (visible c.args.names.now) c.args.least.now c.args.done.0 c.args.done.1 (visible c.bind_name.new.names) c.bind_name.new.least c.requires.left c.index-functions-function.result
    (sym c.function_is_next.ensures ∙ c.if-function_is_next.true) c.in_ok-bind_name.ensures.names c.in_ok-bind_name.ensures.least

pub returns-in_ok-bind_name-2-clause-next : goal.returns-in_ok-bind_name-2-clause-next
returns-in_ok-bind_name-2-clause-next c =
    memory_next c.args.decls.now c.args.functions.now (visible c.args.names.now) c.args.least.now c.args.done.0 c.args.done.1 (visible c.bind_name-else-function_is_next.new.names) c.bind_name-else-function_is_next.new.least c.requires.left c.index-decls-memory.result
    (sym c.function_is_next.ensures ∙ c.if-function_is_next.false) c.in_ok-bind_name-2.ensures.names c.in_ok-bind_name-2.ensures.least

pub returns-in_err-bind_name-clause-next : goal.returns-in_err-bind_name-clause-next
returns-in_err-bind_name-clause-next c =
    wanting _ _ c.from_residual.ensures
    (function_lacks c.args.decls.now c.args.functions.now (visible c.args.names.now) c.args.least.now c.args.done.0 c.args.done.1 (visible c.bind_name.new.names) c.bind_name.new.least c.requires.left c.index-functions-function.result
    (sym c.function_is_next.ensures ∙ c.if-function_is_next.true) c.in_err-bind_name.ensures.names.0 c.in_err-bind_name.ensures.names.1 c.in_err-bind_name.ensures.least)

pub returns-in_err-bind_name-2-clause-next : goal.returns-in_err-bind_name-2-clause-next
returns-in_err-bind_name-2-clause-next c =
    wanting _ _ c.from_residual-in_err-bind_name-2.ensures
    (memory_lacks c.args.decls.now c.args.functions.now (visible c.args.names.now) c.args.least.now c.args.done.0 c.args.done.1 (visible c.bind_name-else-function_is_next.new.names) c.bind_name-else-function_is_next.new.least c.requires.left c.index-decls-memory.result
    (sym c.function_is_next.ensures ∙ c.if-function_is_next.false) c.in_err-bind_name-2.ensures.names.0 c.in_err-bind_name-2.ensures.names.1 c.in_err-bind_name-2.ensures.least)
