use Rattle.std.proofs.Common.{ℕ, sym, subst, Some}
use Rattle.std.specs.Prelude.{Option}
use Rattle.dh_expressions.specs.Copying.{JoinsGuards}
use Rattle.dh_expressions.proofs.CopiesMade.{either_made, first_always, second_always}
use Rattle.dh_expressions.proofs.copies.push_either.Goals as goal

pub returns-in_ok-push_compute-in-Some-other : goal.returns-in_ok-push_compute-in-Some-other
returns-in_ok-push_compute-in-Some-other c =
    let d = c.args.draft.now in
    let e = c.push_compute.new.draft in
    let n = c.in_ok-push_compute-in-Some-other.field-0 in
    subst (λ (o : Option ℕ). JoinsGuards d e o c.args.other (Some n)) (sym c.in-Some.is)
    (subst (λ (o : Option ℕ). JoinsGuards d e (Some c.in-Some.one) o (Some n)) (sym c.in-Some-other.is) (either_made d e c.in-Some.one c.in-Some-other.other n c.in_ok-push_compute-in-Some-other.ensures.made c.in_ok-push_compute-in-Some-other.ensures.means))

pub returns-in-None : goal.returns-in-None
returns-in-None c = first_always c.args.draft.now c.args.one c.args.other c.in-None.is

pub returns-in-None-other : goal.returns-in-None-other
returns-in-None-other c = second_always c.args.draft.now c.args.one c.args.other c.in-None-other.is
