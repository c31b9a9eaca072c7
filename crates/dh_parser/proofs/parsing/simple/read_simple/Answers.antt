use Rattle.std.proofs.Common.{◌+◌, ap, sym, ◌∙◌}
use Rattle.dh_tree.specs.PlainTrees.{action}
use Rattle.dh_tree.specs.Seen.{action_form_seen}
use Rattle.dh_parser.proofs.Going.{ok_as, err_as, given}
use Rattle.dh_parser.proofs.BracketLoops.{ap2}
use Rattle.dh_parser.proofs.SimpleTokens.{some_stand}
use Rattle.dh_parser.proofs.parsing.simple.read_simple.Goals as goal

pub returns-in_err-form-clause-answer : goal.returns-in_err-form-clause-answer
returns-in_err-form-clause-answer c =
    rw (given c.from_residual-in_err-form.ensures) (err_as (c.in_err-form.ensures.answer _ c.in_ok-place.ensures))

pub returns-clause-answer : goal.returns-clause-answer
returns-clause-answer c =
    ok_as (c.in_ok-form.ensures.answer _ c.in_ok-place.ensures) λ s p. (
      ap (λ i. action i c.in_ok-place.place (action_form_seen c.in_ok-form.form)) (c.begin-id.ensures.id ∙ c.read_form.ensures.commands) ∙ ap2 (λ q f. action c.args.reader.now.commands q f) (sym p.1) p.0,
      c.begin-id.ensures.count ∙ ap (λ n. n + 1) c.read_form.ensures.commands,
    )

pub read_form-requires : goal.read_form-requires
read_form-requires c = some_stand _ _ c.in_ok-place.ensures
