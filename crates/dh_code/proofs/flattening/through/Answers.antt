use Rattle.std.proofs.Common.{◌++◌, map, ap, ◌∙◌}
use Rattle.std.proofs.lemmas.Result.{IfOk-weaker}
use denote.Ref.{Bor}
use Rattle.dh_tree.specs.declared.viewing.ViewMap.{ViewMap}
use Rattle.dh_ways.specs.declared.ways.Hidden.{Hidden}
use Rattle.dh_ways.specs.Seen.{hidden_seen}
use Rattle.dh_code.specs.Made.{hidden_operand}
use Rattle.dh_code.proofs.TargetsMade.{through_made}
use Rattle.dh_code.proofs.flattening.through.Goals as goal

pub returns : goal.returns
returns c =
    IfOk-weaker c.passing.result _ _ (λ t passes. passes
    ∙ through_made c.args.names.now.places.now c.args.way.now c.args.operands c.in_ok-operands.operands c.in_ok-views.views c.len-count.result c.len-count.ensures
    (c.in_ok-operands.ensures ∙ ap (λ l. c.args.operands ++ map (λ (h : Hidden). hidden_operand c.args.names.now.places.now (hidden_seen h)) l) (c.as_slice.ensures ∙ c.in_ok-hidden.ensures))
    (c.in_ok-views.ensures ∙ (ap (map (λ (v : Bor ViewMap). v.now)) c.as_slice-2.ensures.value ∙ c.in_ok-kept.ensures))) c.passing.ensures
