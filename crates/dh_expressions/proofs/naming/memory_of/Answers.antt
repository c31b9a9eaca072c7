use Rattle.dh_expressions.proofs.naming.memory_of.Goals as goal

pub returns : goal.returns
returns c = c.memory_of.ensures
