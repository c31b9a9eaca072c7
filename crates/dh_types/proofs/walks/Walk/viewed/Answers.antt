use Rattle.dh_tree.specs.Seen.{view_plan}
use Rattle.dh_types.specs.Walks.{typing_state_of}
use Rattle.dh_types.proofs.Wanting.{last_fact}
use Rattle.dh_types.proofs.FormsDone.{views_done}
use Rattle.dh_types.proofs.walks.Walk.viewed.Goals as goal

pub returns : goal.returns
returns c = last_fact _ c.learn.result c.learn.ensures λ learns name.
    views_done (typing_state_of c.args.self.now) (typing_state_of c.parent.new.self) (typing_state_of c.plan.new.self) (typing_state_of c.learn.new.self) name c.args.parent.now (view_plan c.args.form.now) (view_plan c.plan.new.form) _
    c.parent.ensures c.plan.ensures.tree c.plan.ensures.state c.view.ensures learns
