use Rattle.std.proofs.Common.{ap, sym, ◌∙◌}
use Rattle.std.specs.Prelude.{option_map}
use Rattle.dh_ways.specs.declared.ways.Hidden.{Hidden}
use Rattle.dh_ways.specs.Seen.{way_seen}
use Rattle.dh_lengths.specs.LedBy.{way_by}
use Rattle.dh_lengths.proofs.WaysLeveled.{first_told}
use Rattle.dh_lengths.proofs.views.first_hidden.Goals as goal

pub returns-in-Some-first_hidden : goal.returns-in-Some-first_hidden
returns-in-Some-first_hidden c =
    ap (option_map (λ (h : Hidden). h.entity)) (sym c.in-Some-first_hidden.is)
    ∙ first_told (way_by c.args.ways.now c.args.entity) c.in-Some.way c.first_hidden.result (sym (ap (option_map way_seen) c.in-Some.is) ∙ c.way_of.ensures) c.first_hidden.ensures

pub returns-in-None-first_hidden : goal.returns-in-None-first_hidden
returns-in-None-first_hidden c =
    ap (option_map (λ (h : Hidden). h.entity)) (sym c.in-None-first_hidden.is)
    ∙ first_told (way_by c.args.ways.now c.args.entity) c.in-Some.way c.first_hidden.result (sym (ap (option_map way_seen) c.in-Some.is) ∙ c.way_of.ensures) c.first_hidden.ensures
