use Rattle.dh_formed.proofs.LevelsBehind.{all_levels_behind, levels_behind, named_levels_behind}
use Rattle.dh_formed.proofs.laws.levels_go_on.Goals as goal

pub returns-clause-terms : goal.returns-clause-terms
returns-clause-terms c scene shared outer t n l = levels_behind scene shared outer t n l

pub returns-clause-indices : goal.returns-clause-indices
returns-clause-indices c scene shared outer ts n l = all_levels_behind scene shared outer ts n l

pub returns-clause-named : goal.returns-clause-named
returns-clause-named c scene shared outer r ts n l = named_levels_behind scene shared outer r ts n l
