use Rattle.std.proofs.Common.{refl, ap, ◌∙◌}
use Rattle.std.specs.Prelude.{slice_index}
use Rattle.std.proofs.lemmas.Result.{on_ok_weaker}
use Rattle.dh_lengths.proofs.HeldFacts.{assigns}
use Rattle.dh_lengths.proofs.held.PhaseLevels.assign_at.Goals as goal

pub returns : goal.returns
returns c = on_ok_weaker c.set_number.result (λ set.
    assigns c.args.self.now _ c.args.place c.get_number-before.result c.args.level
    (c.get_number-before.ensures ∙ ap (λ l. slice_index l c.args.place) c.as_slice.ensures.value) set c.in_ok-push.ensures.items refl refl refl refl) c.set_number.ensures
