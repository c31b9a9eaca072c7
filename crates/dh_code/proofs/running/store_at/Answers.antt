use Rattle.std.proofs.Common.{[], ◌∷◌, List, ℕ, sym, subst}
use Rattle.std.specs.Prelude.{slice_index}
use Rattle.dh_code.specs.declared.codes.Action.TheVariants.{Store}
use Rattle.dh_code.specs.Rows.{contents_of}
use Rattle.dh_code.specs.States.{DoesOne}
use Rattle.dh_code.proofs.ListsRun.{only_path}
use Rattle.dh_code.proofs.OnePath.{done_alone}
use Rattle.dh_code.proofs.PathCommands.{stores_one, stores_all}
use Rattle.dh_code.proofs.running.store_at.Goals as goal

pub returns-clause-ran : goal.returns-clause-ran
returns-clause-ran c =
    let n = slice_index c.args.paths.now 0 in
    subst (λ (l : List ℕ). DoesOne c.args.scene.now c.args.state.now c.store.result c.store.new.state (contents_of c.args.rows.now) l (Store c.args.value.now c.args.access.now)) (sym (only_path c.args.paths.now c.requires.one))
    (stores_all c.args.scene.now c.args.state.now c.store.new.state c.store.result (contents_of c.args.rows.now) (n ∷ []) c.args.value.now c.args.access.now
    (done_alone c.args.scene.now c.args.state.now c.store.new.state c.store.result (contents_of c.args.rows.now) n (Store c.args.value.now c.args.access.now) c.ranks_at.result.now c.ranks_at.ensures
    (stores_one c.args.scene.now c.args.state.now c.store.new.state c.store.result c.ranks_at.result.now c.args.value.now c.args.access.now c.store.ensures.ran)))
