use Rattle.std.proofs.Common.{ℕ, refl}
use Rattle.std.specs.Prelude.{Vec}
use Rattle.std.specs.Global.{Global}
use Rattle.dh_tree.specs.Seen.{program_seen}
use Rattle.dh_check.specs.Ready.{of_pass, TellsNamed}
use Rattle.dh_check.proofs.Checked.{handed_on}
use Rattle.dh_check.proofs.Passing.{kinds_stop, named_stops, named_ready}
use Rattle.dh_check.proofs.checking.ready_named.Goals as goal

pub returns-in_err-typed-clause-tells : goal.returns-in_err-typed-clause-tells
returns-in_err-typed-clause-tells c =
    handed_on (TellsNamed (program_seen c.args.named)) c.from_residual.result (of_pass c.in_err-typed.field-0.0) c.from_residual.ensures.1
    (kinds_stop (program_seen c.args.named) c.in_err-typed.field-0.0 c.in_err-typed.ensures)

pub returns-in_err-stages-clause-tells : goal.returns-in_err-stages-clause-tells
returns-in_err-stages-clause-tells c =
    handed_on (TellsNamed (program_seen c.args.named)) c.from_residual-in_err-stages.result c.in_err-stages.field-0.0 c.from_residual-in_err-stages.ensures.1
    (named_stops (Vec ℕ Global) (program_seen c.args.named) (program_seen c.in_ok-typed.typed) (program_seen c.in_ok-typed.typed) c.in_err-stages.field-0.0 c.in_ok-typed.ensures refl c.tree.ensures.suits c.in_err-stages.ensures.tells)

pub returns-clause-tells : goal.returns-clause-tells
returns-clause-tells c =
    named_ready (program_seen c.args.named) (program_seen c.in_ok-typed.typed) (program_seen c.in_ok-typed.typed) c.in_ok-stages.stages c.in_ok-typed.ensures refl c.requires.of_text c.requires.built
    c.tree.ensures.names c.tree.ensures.entities c.tree.ensures.kinds c.tree.ensures.suits c.in_ok-stages.ensures.tells
