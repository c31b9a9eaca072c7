-- One variable behind an `if`: its values behind both arms, and the one that the test picks.
use Rattle.std.proofs.Common.{ℕ, if◌then◌else◌, ap, ◌∙◌}
use Rattle.dh_value.specs.Operations.{is_true}
use Rattle.dh_expressions.specs.declared.drafts.Draft.{Draft}
use Rattle.dh_expressions.specs.Drafted.{Computes, Gives, word_shown}
use Rattle.dh_expressions.proofs.Pushing.{begun_later, extends_again, fits_before}
use Rattle.dh_commands.specs.declared.assignments.Values.{Values}
use Rattle.dh_commands.specs.declared.choices.Choice.{Choice}
use Rattle.dh_commands.specs.Undone.{Assigns}
use Rattle.dh_commands.specs.Choosing.{ChoosesOne, behind_shown}

pub chosen_one : (a b c d : Draft) (before after : Values) (test one other value : ℕ) (choice : Choice) → Gives a b one (λ x. behind_shown x before.current.items choice.register choice.chosen)
    → Gives b c other (λ x. behind_shown x before.current.items choice.register choice.other) → Computes c d value (λ x. if is_true (word_shown x test) then word_shown x one else word_shown x other)
    → Assigns before after choice.register choice.path value → ChoosesOne a d before after test choice
chosen_one a b c d before after test one other value choice h k l s = record {
  adds = record {
    extends = extends_again a b d h.extends (extends_again b c d k.extends l.extends);
    quiet = λ x f begun.
        let fc = fits_before c d x l.extends f in
        l.quiet x f (begun_later b c x k.extends (begun_later a b x h.extends begun)) ∙ (k.quiet x fc (begun_later a b x h.extends begun) ∙ h.quiet x (fits_before b c x k.extends fc) begun);
  };
  value = value;
  is = λ x f begun.
      let fc = fits_before c d x l.extends f in
      l.is x f (begun_later b c x k.extends (begun_later a b x h.extends begun))
      ∙ (ap (λ w. if is_true (word_shown x test) then w else word_shown x other) (h.is x (fits_before b c x k.extends fc) begun)
      ∙ ap (λ w. if is_true (word_shown x test) then behind_shown x before.current.items choice.register choice.chosen else w) (k.is x fc (begun_later a b x h.extends begun)));
  assigns = s;
}
