use Rattle.std.proofs.Common.{ap, sym, ◌∙◌}
use Rattle.std.specs.Prelude.{option_map}
use Rattle.std.proofs.lemmas.Result.{IfOk-weaker}
use Rattle.dh_ways.specs.Seen.{way_seen}
use Rattle.dh_code.specs.Made.{aimed_target}
use Rattle.dh_code.proofs.flattening.aim.Goals as goal

pub returns-in-Some : goal.returns-in-Some
returns-in-Some c =
    IfOk-weaker c.through.result _ _ (λ t made. made
    ∙ ap (λ w. aimed_target c.args.names.now.places.now w c.args.operands) (sym (ap (option_map way_seen) c.in-Some.is) ∙ c.way_of.ensures)) c.through.ensures

pub returns-in-None : goal.returns-in-None
returns-in-None c = ap (λ w. aimed_target c.args.names.now.places.now w c.args.operands) (sym (ap (option_map way_seen) c.in-None.is) ∙ c.way_of.ensures)
