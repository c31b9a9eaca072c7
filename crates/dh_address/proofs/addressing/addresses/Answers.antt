use Rattle.std.proofs.lemmas.Result.{IfOk-weaker}
use Rattle.dh_plan.specs.SeenPlans.{plan_seen}
use Rattle.dh_address.proofs.Addressed.{is_addressing_of}
use Rattle.dh_address.proofs.addressing.addresses.Goals as goal

pub made_of_pieces-requires-clause-table : goal.made_of_pieces-requires-clause-table
made_of_pieces-requires-clause-table c = c.requires.formed.table

pub made_of_pieces-requires-clause-views : goal.made_of_pieces-requires-clause-views
made_of_pieces-requires-clause-views c = c.requires.formed.views

pub returns : goal.returns
returns c = IfOk-weaker c.made_of_pieces.result _ _ (λ q h. is_addressing_of (plan_seen c.args.plan) (plan_seen q) h c.requires) c.made_of_pieces.ensures
