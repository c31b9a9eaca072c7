use Rattle.std.proofs.Common.{◌≡◌, ◌∙◌, ap, sym, refl, map, length, arith}
use Rattle.std.proofs.lemmas.Result.{MatchResult-weaker}
use Rattle.dh_tree.specs.Seen.{declared_seen, defined_seen, program_seen}
use Rattle.dh_tree.proofs.DeclaringParts.{wanting}
use Rattle.dh_names.specs.Visible.{visible}
use Rattle.dh_names.specs.Walks.{state_of}
use Rattle.dh_names.proofs.FunctionsDone.{length_map}
use Rattle.dh_names.proofs.ProgramsDone.{start_scope, nothing_own, functions_room, items_done}
use Rattle.dh_names.proofs.Wanting.{some_items, some_functions}
use Rattle.dh_names.proofs.programs.walk_items.Goals as goal

pub list_outer-requires : goal.list_outer-requires
list_outer-requires c = c.requires.start.entities

pub functions-requires-clause-few : goal.functions-requires-clause-few
functions-requires-clause-few c =
    let d = length_map declared_seen c.args.tree.now.decls.items in
    let f = length_map defined_seen c.args.tree.now.functions.items in
    let e : c.len-count.result ≡ length c.args.tree.now.decls.items = c.len-count.ensures ∙ sym c.deref.ensures.len ∙ ap (λ l. length l) c.deref.ensures.value in
    omega (arith, c.requires.few, e, d, f)

pub functions-requires-clause-room : goal.functions-requires-clause-room
functions-requires-clause-room c =
    functions_room (program_seen c.args.tree.now) (state_of (record { names = c.args.walk.now.names; entities = c.list_outer.new.entities; least = c.bind_items.new.least })) c.requires.few
    (start_scope c.args.tree.now c.args.walk.now.names.outer c.args.walk.now.names.own c.list_outer.new.entities.items c.deref-3.result.now c.deref-4.result.now c.requires.start.outer c.requires.start.own c.deref-3.ensures.value c.deref-4.ensures.value c.in_ok-list_outer.ensures)

pub functions-requires-clause-outside : goal.functions-requires-clause-outside
functions-requires-clause-outside c = nothing_own c.args.walk.now.names.outer c.args.walk.now.names.own c.requires.start.own

pub returns-clause-items : goal.returns-clause-items
returns-clause-items c =
    MatchResult-weaker c.functions.result c.functions.ensures
    (λ _ numbered. items_done c.args.tree.now (state_of (record { names = c.args.walk.now.names; entities = c.list_outer.new.entities; least = c.bind_items.new.least })) (state_of c.functions.new.self) c.args.walk.now.least
    (visible c.bind_items.new.names) (visible c.args.names.now) c.args.walk.now.names.outer c.args.walk.now.names.own c.deref.result.now c.deref-3.result.now c.deref-2.result.now c.deref-4.result.now
    (map declared_seen c.number_decls.new.decls.items) (map defined_seen c.functions.new.functions.items) c.len-count.result
    c.requires.start.outer c.requires.start.own c.requires.start.least c.requires.start.names refl c.deref.ensures.value c.deref-2.ensures.value c.deref-3.ensures.value c.deref-4.ensures.value
    (c.len-count.ensures ∙ sym c.deref.ensures.len ∙ ap (λ l. length l) c.deref.ensures.value)
    c.in_ok-list_outer.ensures c.in_ok-bind_items.ensures.names c.in_ok-bind_items.ensures.least numbered c.number_decls.ensures)
    (λ _ some_function. some_functions c.args.tree.now some_function)

pub returns-in_err-bind_items-clause-items : goal.returns-in_err-bind_items-clause-items
returns-in_err-bind_items-clause-items c = wanting _ _ c.from_residual.ensures (some_items c.args.tree.now c.deref.result.now c.deref-2.result.now c.deref.ensures.value c.deref-2.ensures.value c.in_err-bind_items.ensures.memory)

pub returns-in_err-list_outer-clause-items : goal.returns-in_err-list_outer-clause-items
returns-in_err-list_outer-clause-items c = wanting _ _ c.from_residual-in_err-list_outer.ensures (some_items c.args.tree.now c.deref-3.result.now c.deref-4.result.now c.deref-3.ensures.value c.deref-4.ensures.value c.in_err-list_outer.ensures)
