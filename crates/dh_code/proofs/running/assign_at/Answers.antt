use Rattle.std.proofs.Common.{[], ◌∷◌, List, ℕ, sym, subst}
use Rattle.std.specs.Prelude.{slice_index}
use Rattle.dh_code.specs.declared.codes.Action.TheVariants.{Assign}
use Rattle.dh_code.specs.Rows.{contents_of}
use Rattle.dh_code.specs.States.{DoesOne}
use Rattle.dh_code.proofs.ListsRun.{only_path}
use Rattle.dh_code.proofs.OnePath.{done_alone}
use Rattle.dh_code.proofs.PathCommands.{assigns_one, assigns_all}
use Rattle.dh_code.proofs.running.assign_at.Goals as goal

pub returns-clause-ran : goal.returns-clause-ran
returns-clause-ran c =
    let n = slice_index c.args.paths.now 0 in
    subst (λ (l : List ℕ). DoesOne c.args.scene.now c.args.state.now c.assign_any.result c.assign_any.new.state (contents_of c.args.rows.now) l (Assign c.args.value.now c.args.first c.args.depth)) (sym (only_path c.args.paths.now c.requires.one))
    (assigns_all c.args.scene.now c.args.state.now c.assign_any.new.state c.assign_any.result (contents_of c.args.rows.now) (n ∷ []) c.args.value.now c.args.first c.args.depth
    (done_alone c.args.scene.now c.args.state.now c.assign_any.new.state c.assign_any.result (contents_of c.args.rows.now) n (Assign c.args.value.now c.args.first c.args.depth) c.ranks_at.result.now c.ranks_at.ensures
    (assigns_one c.args.scene.now c.args.state.now c.assign_any.new.state c.assign_any.result c.ranks_at.result.now c.args.value.now c.args.first c.args.depth c.assign_any.ensures.ran)))
