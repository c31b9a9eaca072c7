use Rattle.dh_formed.proofs.ReadsTimed.{written_noted, written_within}
use Rattle.dh_formed.proofs.TermsTimed.{all_timed, through_timed, timed}
use Rattle.dh_formed.proofs.laws.expressions_are_in_time.Goals as goal

pub returns-clause-writes : goal.returns-clause-writes
returns-clause-writes c clocks scene lane current access memory aim outer old new before after value level most m suits s = record {
  within = written_within clocks scene lane current access memory aim outer old new before after value level most m s.started s.scope suits s.agree s.guards s.noted s.own s.at s.outer_few s.aim_few s.level_few;
  noted = written_noted clocks scene lane current access memory aim outer old new before after value level most m s.started s.scope suits s.agree s.guards s.noted s.own s.at s.outer_few s.aim_few s.level_few;
}

pub returns-clause-terms : goal.returns-clause-terms
returns-clause-terms c clocks scene lane current shared outer t old new before after n next v m few l s w vars reads =
    timed clocks scene lane current shared outer t old new before after n next v m few l s w vars reads

pub returns-clause-indices : goal.returns-clause-indices
returns-clause-indices c clocks scene lane current shared outer ts old new before after n aim m few l s w vars reads =
    all_timed clocks scene lane current shared outer ts old new before after n aim.number aim.indices m.indices few l s w vars reads

pub returns-clause-through : goal.returns-clause-through
returns-clause-through c clocks scene lane current shared outer r ts old new before after n aim m few l s w vars reads =
    through_timed clocks scene lane current shared outer r ts old new before after n aim m few l s w vars reads
