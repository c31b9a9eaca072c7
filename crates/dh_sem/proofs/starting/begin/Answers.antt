use Rattle.dh_sem.proofs.starting.begin.Goals as goal

pub stand_first-requires-clause-holds : goal.stand_first-requires-clause-holds
stand_first-requires-clause-holds c = c.in_ok-first.ensures.0

pub stand_first-requires-clause-slots : goal.stand_first-requires-clause-slots
stand_first-requires-clause-slots c = c.in_ok-first.ensures.1
