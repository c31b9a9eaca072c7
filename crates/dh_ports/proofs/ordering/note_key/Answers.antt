use Rattle.std.proofs.Common.{ap, ◌∙◌}
use Rattle.std.specs.Prelude.{Some}
use Rattle.std.proofs.lemmas.Result.{IfOk-weaker}
use Rattle.dh_events.specs.declared.classes.Key.{Key}
use Rattle.dh_ports.proofs.QuietPhases.{marked_more}
use Rattle.dh_ports.proofs.ordering.note_key.Goals as goal

pub returns-clause-stands : goal.returns-clause-stands
returns-clause-stands c = IfOk-weaker c.number.result _ _ (λ slot n. n.stands ∙ ap (λ k. Some k) c.bank_key.ensures) c.number.ensures.numbers

pub returns-clause-extends : goal.returns-clause-extends
returns-clause-extends c = IfOk-weaker c.number.result _ _ (λ slot n. n.extends) c.number.ensures.numbers

pub returns-clause-marked : goal.returns-clause-marked
returns-clause-marked c =
    IfOk-weaker c.number.result _ _ (λ slot n. marked_more c.args.classes.now c.number.new.self c.args.marked.now.items c.set_at.new.numbers.items c.args.phase slot c.bank_key.result (ap (λ (k : Key). k.phase) c.bank_key.ensures) c.in_ok-set_at.ensures n) c.number.ensures.numbers
