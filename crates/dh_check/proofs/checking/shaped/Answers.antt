use Rattle.std.proofs.Common.{Err, ℕ, sym, subst}
use Rattle.std.specs.Prelude.{Vec}
use Rattle.std.specs.Global.{Global}
use Rattle.dh_tree.specs.Seen.{program_seen}
use Rattle.dh_check.specs.declared.checking.CheckFault.{CheckFault}
use Rattle.dh_check.specs.declared.checking.CheckFault.TheVariants as fault
use Rattle.dh_rules.specs.declared.placements.Shaped.{Shaped}
use Rattle.dh_check.specs.Ready.{of_pass, TellsShapes}
use Rattle.dh_check.proofs.Checked.{handed_on}
use Rattle.dh_check.proofs.Shaped.{shapes_refused, limits_refused, place_refused, all_kept}
use Rattle.dh_check.proofs.checking.shaped.Goals as goal

pub returns-in_err-shaped-clause-tells : goal.returns-in_err-shaped-clause-tells
returns-in_err-shaped-clause-tells c =
    handed_on (TellsShapes (program_seen c.args.typed.now)) c.from_residual.result (of_pass c.in_err-shaped.field-0.0) c.from_residual.ensures.1
    (shapes_refused Shaped (Vec ℕ Global) (program_seen c.args.typed.now) c.in_err-shaped.field-0.0 c.in_err-shaped.ensures.breach)

pub returns-in_err-within-clause-tells : goal.returns-in_err-within-clause-tells
returns-in_err-within-clause-tells c =
    let x = c.in_err-within.field-0.0 in
    handed_on (TellsShapes (program_seen c.args.typed.now)) c.from_residual-in_err-within.result (fault.TooLarge x.limit x.count) c.from_residual-in_err-within.ensures.1
    (limits_refused (Vec ℕ Global) (program_seen c.args.typed.now) x c.in_ok-shaped.ensures.breach c.in_err-within.ensures)

pub returns-in-Some-clause-tells : goal.returns-in-Some-clause-tells
returns-in-Some-clause-tells c =
    let p = program_seen c.args.typed.now in
    subst (λ (x : CheckFault). TellsShapes {A = Vec ℕ Global} p (Err x)) (sym c.from.ensures)
    (place_refused (Vec ℕ Global) p c.in_ok-shaped.shaped.misplaced c.in-Some.breach c.in_ok-shaped.ensures.breach c.in_ok-within.ensures c.in_ok-shaped.ensures.places c.in-Some.is)

pub returns-in-None-clause-tells : goal.returns-in-None-clause-tells
returns-in-None-clause-tells c =
    all_kept (program_seen c.args.typed.now) c.in_ok-shaped.shaped.misplaced c.in_ok-shaped.shaped.stages c.in_ok-shaped.ensures.breach c.in_ok-within.ensures c.in_ok-shaped.ensures.places c.in-None.is
