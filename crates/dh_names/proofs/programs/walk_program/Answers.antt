use Rattle.std.proofs.Common.{◌∙◌, ◌<◌, ap, refl, map, subst}
use Rattle.dh_tree.specs.declared.trees.commands.Command.{Command}
use Rattle.dh_tree.specs.LeastBreach.{least_of}
use Rattle.dh_tree.specs.Forms.{unbuilt_action}
use Rattle.dh_tree.specs.NameCounts.{declared_in}
use Rattle.dh_tree.specs.Seen.{declared_seen, defined_seen, action_seen, program_seen}
use Rattle.dh_tree.proofs.DeclaringParts.{wanting}
use Rattle.dh_names.specs.Visible.{visible}
use Rattle.dh_names.specs.Walks.{state_of}
use Rattle.dh_names.proofs.FormsDone.{resolves_at}
use Rattle.dh_names.proofs.FormsKept.{forms_found}
use Rattle.dh_names.proofs.ProgramsDone.{no_names_seen, before_body, program_tree, program_least}
use Rattle.dh_names.proofs.Wanting.{some_body}
use Rattle.dh_names.proofs.programs.walk_program.Goals as goal

pub walk_items-requires-clause-start : goal.walk_items-requires-clause-start
walk_items-requires-clause-start c = record {
  outer = c.no_names.ensures.outer;
  own = c.no_names.ensures.own;
  entities = c.new.ensures.items;
  least = refl;
  names = no_names_seen c.no_names-names.result.outer c.no_names-names.result.own c.no_names-names.ensures.outer c.no_names-names.ensures.own;
}

pub returns : goal.returns
returns c =
    let p = program_seen c.args.tree.now in
    let s1 = state_of c.walk_items.new.walk in
    let s3 = state_of c.command.new.self in
    let outer = c.walk_items.new.names.outer in
    let top = visible c.walk_items.new.names in
    let ds = map declared_seen c.walk_items.new.tree.decls.items in
    let fs = map defined_seen c.walk_items.new.tree.functions.items in
    let b = action_seen c.command.new.command in
    let body = resolves_at (before_body outer top s1) s3 c.walk_items.new.tree.body c.args.tree.now.body b c.in_ok-walk_items.ensures.body c.in_ok-command.ensures.names in
    record {
      tree = program_tree p s1 s3 outer top ds fs b c.requires.few c.in_ok-walk_items.ensures.items body;
      least = program_least p s1 s3 outer top ds fs b c.requires.few c.in_ok-walk_items.ensures.items body;
      unbuilt = forms_found c.args.tree.now c.as_slice.result.now c.keep_functions.new.kept c.command.new.unbuilt c.as_slice.ensures.value c.keep_functions.ensures
          (c.in_ok-command.ensures.forms.kept ∙ ap (λ (z : Command). least_of c.keep_functions.new.kept (unbuilt_action (action_seen z))) c.in_ok-walk_items.ensures.body);
    }

pub returns-in_err-walk_items : goal.returns-in_err-walk_items
returns-in_err-walk_items c = wanting _ _ c.from_residual.ensures c.in_err-walk_items.ensures.items

pub returns-in_err-command : goal.returns-in_err-command
returns-in_err-command c =
    wanting _ _ c.from_residual-in_err-command.ensures
    (some_body c.args.tree.now (subst (λ (z : Command). 0 < declared_in (action_seen z)) c.in_ok-walk_items.ensures.body c.in_err-command.ensures.names))
