-- The whole program is the command of its own number.
use Rattle.std.proofs.Common.{inl, refl, sym, ap}
use Rattle.dh_tests.proofs.phasing.told.Goals as goal

pub phases-requires-clause-there : goal.phases-requires-clause-there
phases-requires-clause-there c = (_, inl (ap (λ t. t.body.id) (sym c.tree.ensures.tree), refl))
