use Rattle.dh_expressions.proofs.naming.way_in.Goals as goal

pub returns : goal.returns
returns c = c.way_of.ensures
