use Rattle.std.proofs.Common.{rules, refl}
use Rattle.dh_parser.proofs.Going.{ok_then, err_then, given}
use Rattle.dh_parser.specs.TreesOfTexts.{text_of_name}
use Rattle.dh_parser.proofs.TermForms.{unnumbered}
use Rattle.dh_parser.proofs.ActionForms.{assign_seen, call_seen, reduce_seen}
use Rattle.dh_parser.proofs.FirstTokens.{first_is}
use Rattle.dh_parser.proofs.SimpleTokens.{after_at, reduces_at, reducer_some}
use Rattle.dh_parser.proofs.parsing.simple.read_named.Goals as goal

pub returns-in_err-arguments-in-OpenParen-clause-answer : goal.returns-in_err-arguments-in-OpenParen-clause-answer
returns-in_err-arguments-in-OpenParen-clause-answer c =
    rw (after_at (text_of_name c.args.name) _ _ c.token-item.result _ (first_is _ _ c.in-len1-up.len_at_least c.token-item.is) c.in-OpenParen.is, given c.from_residual-in_err-arguments-in-OpenParen.ensures)
    (err_then _ c.in_err-arguments-in-OpenParen.ensures.answer)

pub returns-in_ok-held-in-Becomes-clause-answer : goal.returns-in_ok-held-in-Becomes-clause-answer
returns-in_ok-held-in-Becomes-clause-answer c =
    rw (after_at (text_of_name c.args.name) _ _ c.token-item.result _ (first_is _ _ c.in-len1-up.len_at_least c.token-item.is) c.in-Becomes.is)
    (ok_then _ c.in_ok-value-in-Becomes.ensures.answer λ t p. record { holds = ((assign_seen _ _ _ c.token-item.result.place (text_of_name c.args.name) t c.in_ok-held-in-Becomes.ensures.ok (unnumbered c.args.name c.requires) p, refl), refl) })

pub returns-in_ok-function-in-OpenParen-clause-answer : goal.returns-in_ok-function-in-OpenParen-clause-answer
returns-in_ok-function-in-OpenParen-clause-answer c =
    rw (after_at (text_of_name c.args.name) _ _ c.token-item.result _ (first_is _ _ c.in-len1-up.len_at_least c.token-item.is) c.in-OpenParen.is)
    (ok_then _ c.in_ok-arguments-in-OpenParen.ensures.answer λ t p. record { holds = ((call_seen _ _ _ c.token-item.result.place (text_of_name c.args.name) t c.in_ok-function-in-OpenParen.ensures.ok (unnumbered c.args.name c.requires) p, refl), refl) })

pub returns-in_ok-held-in_default-kind : goal.returns-in_ok-held-in_default-kind
returns-in_ok-held-in_default-kind c = record {
  answer =
      let r = reducer_some _ _ (c.in-Some.ensures) in
      rw (reduces_at (text_of_name c.args.name) _ _ c.token-item.result (first_is _ _ c.in-len1-up.len_at_least c.token-item.is) c.in_default-kind.not-Becomes c.in_default-kind.not-OpenParen c.in_default-kind.not-OpenBracket c.in_default-kind.not-OpenBrace, r.1.0)
      (ok_then _ c.in_ok-value-in_default-kind.ensures.answer λ t p. record { holds = ((reduce_seen _ _ _ _ c.token-item.result.place (text_of_name c.args.name) r.0 t c.in_ok-held-in_default-kind.ensures.ok (unnumbered c.args.name c.requires) r.1.1 p, refl), refl) });
  commands = search rules;
  shorter = search rules;
}

pub returns-in_err-value-in-Becomes-clause-answer : goal.returns-in_err-value-in-Becomes-clause-answer
returns-in_err-value-in-Becomes-clause-answer c =
    rw (after_at (text_of_name c.args.name) _ _ c.token-item.result _ (first_is _ _ c.in-len1-up.len_at_least c.token-item.is) c.in-Becomes.is, given c.from_residual.ensures)
    (err_then _ c.in_err-value-in-Becomes.ensures.answer)
