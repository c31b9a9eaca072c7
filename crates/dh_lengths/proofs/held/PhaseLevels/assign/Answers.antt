use Rattle.std.proofs.Common.{ap}
use Rattle.std.proofs.lemmas.Result.{on_ok_weaker}
use Rattle.std.proofs.Common.{ℕ, subst}
use Rattle.dh_lengths.specs.HeldLevels.{AssignsAt}
use Rattle.dh_lengths.proofs.held.PhaseLevels.assign.Goals as goal

pub returns : goal.returns
returns c = on_ok_weaker c.assign_at.result (λ a. subst (λ (n : ℕ). AssignsAt c.args.self.now c.assign_at.new.self n c.args.level) c.number_of.ensures a) c.assign_at.ensures
