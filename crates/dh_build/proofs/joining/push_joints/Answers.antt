use Rattle.dh_build.proofs.joining.push_joints.Goals as goal

pub list_joints-requires-clause-state : goal.list_joints-requires-clause-state
list_joints-requires-clause-state c = c.in_ok-parts.ensures.control_made.state_wires.long

pub list_joints-requires-clause-news : goal.list_joints-requires-clause-news
list_joints-requires-clause-news c = c.in_ok-parts.ensures.control_made.news_wires.long
