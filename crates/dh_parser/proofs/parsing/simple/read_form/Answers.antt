use Rattle.std.proofs.Common.{rules, ◌≡◌, ap, ◌∙◌}
use Rattle.dh_tree.specs.declared.trees.expressions.Ref.{Ref}
use Rattle.dh_parser.specs.Reading.{after_name}
use Rattle.dh_parser.proofs.TermForms.{at_text}
use Rattle.dh_parser.proofs.Going.{ok_then, ok_as, also}
use Rattle.dh_parser.proofs.FirstTokens.{first_is}
use Rattle.dh_parser.proofs.SimpleTokens.{named_simple, name_starts}
use Rattle.dh_parser.proofs.parsing.simple.read_form.Goals as goal

pub returns-in_ok-form-in_default-kind : goal.returns-in_ok-form-in_default-kind
returns-in_ok-form-in_default-kind c = record {
  answer = λ p h.
      rw (named_simple _ _ c.token-item.result (first_is _ _ c.in-len1-up.len_at_least c.token-item.is) c.in_default-kind.not-Let c.in_default-kind.not-View)
      (ok_then _ (also (λ n. n.place ≡ p) c.in_ok-name-in_default-kind.ensures.answer (name_starts p _ h)) λ n q.
      ok_as (at_text (λ m. after_name m c.name.new.self.rest.now) _ n q.0 c.in_ok-form-in_default-kind.ensures.answer) λ s u. (u.0, u.1 ∙ (ap (λ (r : Ref). r.place) q.0 ∙ q.1)));
  commands = search rules;
  shorter = search rules;
  taken = search rules;
}
