use Rattle.std.proofs.Common.{◌≡◌, ap, subst, ◌∙◌}
use Rattle.std.proofs.lemmas.Result.{IfOk-weaker}
use Rattle.dh_value.specs.declared.kinds.Kind.{Kind}
use Rattle.dh_value.specs.Operations.{binary_of}
use Rattle.dh_tree.specs.Seen.{term_seen}
use Rattle.dh_meaning.specs.Bindings.{kind_or_first}
use Rattle.dh_code.specs.Extended.{extension_of}
use Rattle.dh_expressions.specs.Drafted.{Gives, word_shown}
use Rattle.dh_expressions.specs.MadeValues.{MadeExtended}
use Rattle.dh_expressions.specs.Shown.{extended_shown}
use Rattle.dh_expressions.proofs.Pushing.{gives_both}
use Rattle.dh_expressions.proofs.terms.push_operation.Goals as goal

pub returns-clause-means : goal.returns-clause-means
returns-clause-means c =
    let l = term_seen c.args.left.now in
    let r = term_seen c.args.right.now in
    let to : c.extension-to.result ≡ extension_of c.args.op (kind_or_first c.args.left.now.kind) (kind_or_first c.args.right.now.kind) =
    c.extension-to.ensures
    ∙ (ap (λ j. extension_of c.args.op j c.kind_found-2.result) c.kind_found.ensures ∙ ap (λ j. extension_of c.args.op (kind_or_first c.args.left.now.kind) j) c.kind_found-2.ensures) in
    IfOk-weaker c.push_compute.result _ _ (λ v p.
    subst (λ (k : Kind). Gives c.args.draft.now c.push_compute.new.draft v (λ x. binary_of c.args.op (extended_shown l k (word_shown x c.args.a)) (extended_shown r k (word_shown x c.args.b)))) to
    (gives_both c.args.draft.now c.push_extended.new.draft c.push_extended-2.new.draft c.push_compute.new.draft c.in_ok-x.x c.in_ok-y.y v (λ x. extended_shown l c.extension-to.result (word_shown x c.args.a)) (λ x. extended_shown r c.extension-to.result (word_shown x c.args.b))
    (λ u w. binary_of c.args.op u w) c.in_ok-x.ensures.means c.in_ok-y.ensures.means p)) c.push_compute.ensures.means

pub returns-clause-made : goal.returns-clause-made
returns-clause-made c =
    let l = term_seen c.args.left.now in
    let r = term_seen c.args.right.now in
    let to : c.extension-to.result ≡ extension_of c.args.op (kind_or_first c.args.left.now.kind) (kind_or_first c.args.right.now.kind) =
    c.extension-to.ensures
    ∙ (ap (λ j. extension_of c.args.op j c.kind_found-2.result) c.kind_found.ensures ∙ ap (λ j. extension_of c.args.op (kind_or_first c.args.left.now.kind) j) c.kind_found-2.ensures) in
    IfOk-weaker c.push_compute.result _ _ (λ v p. record {
      first = c.push_extended.new.draft;
      second = c.push_extended-2.new.draft;
      x = c.in_ok-x.x;
      y = c.in_ok-y.y;
      left_made = subst (λ (k : Kind). MadeExtended l k c.args.a c.args.draft.now c.push_extended.new.draft c.in_ok-x.x) to c.in_ok-x.ensures.made;
      right_made = subst (λ (k : Kind). MadeExtended r k c.args.b c.push_extended.new.draft c.push_extended-2.new.draft c.in_ok-y.y) to c.in_ok-y.ensures.made;
      pushes = p;
    }) c.push_compute.ensures.made
