-- A program without names declares none.
use Rattle.std.proofs.Common.{◌≡◌, [], length, map, Vec, ap, ◌∙◌, arith}
use Rattle.std.specs.Global.{Global}
use Rattle.dh_tree.specs.declared.trees.commands.Command.{Command}
use Rattle.dh_tree.specs.declared.trees.commands.CommandForm.TheVariants.{Block}
use Rattle.dh_tree.specs.declared.trees.programs.Tree.{Tree}
use Rattle.dh_tree.specs.Seen.{declared_seen, defined_seen, part_seen, groups, action_seen, action_form_seen, program_seen}
use Rattle.dh_tree.specs.NameCounts.{declared_in, declared_in_form, declared_in_groups, declared_in_functions, HasFewNames}
use Rattle.dh_tree.proofs.SeenActions.{block_is}

pub nothing_declared : (tree : Tree) (body : Vec (Vec Command Global) Global) → tree.decls.items ≡ [] → tree.functions.items ≡ [] → tree.body.form ≡ Block body → body.items ≡ [] → HasFewNames (program_seen tree)
nothing_declared tree body decls functions form parts =
    let d : length (map declared_seen tree.decls.items) ≡ 0 = ap (λ l. length (map declared_seen l)) decls in
    let f : length (map defined_seen tree.functions.items) ≡ 0 = ap (λ l. length (map defined_seen l)) functions in
    let g : declared_in_functions (map defined_seen tree.functions.items) ≡ 0 = ap (λ l. declared_in_functions (map defined_seen l)) functions in
    let b : declared_in (action_seen tree.body) ≡ 0 =
    ap (λ x. declared_in_form (action_form_seen x)) form ∙ ap (λ x. declared_in_form x) (block_is body) ∙ ap (λ l. declared_in_groups (groups (map part_seen l))) parts in
    omega (arith, d, f, g, b)
