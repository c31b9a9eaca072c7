use Rattle.std.proofs.Common.{length, ap, ◌∙◌, List, Option, ℕ, None}
use Rattle.std.proofs.lemmas.List.{length-replicate}
use Rattle.dh_plan.specs.SeenPlans.{plan_seen}
use Rattle.dh_bind.proofs.CostsKnown.{fit_rows_of, costs_begun}
use Rattle.dh_bind.proofs.Driven.{width_fits}
use Rattle.dh_bind.proofs.costs.costs_of.Goals as goal

pub places-requires-clause-wide : goal.places-requires-clause-wide
places-requires-clause-wide c =
    width_fits (plan_seen c.args.plan.now) c.requires.sound.formed c.as_slice-blocks.result.now c.as_slice-blocks.ensures c.width_needed-wide.result c.width_needed-wide.ensures

pub note_all-requires-clause-wide : goal.note_all-requires-clause-wide
note_all-requires-clause-wide c =
    width_fits (plan_seen c.args.plan.now) c.requires.sound.formed c.as_slice-blocks.result.now c.as_slice-blocks.ensures c.width_needed-wide.result c.width_needed-wide.ensures

pub note_all-requires-clause-fits : goal.note_all-requires-clause-fits
note_all-requires-clause-fits c =
    fit_rows_of (plan_seen c.args.plan.now) c.requires c.as_slice-blocks.result.now c.as_slice-blocks.ensures (length c.in_ok-memories.memories.items)
    (ap (λ (l : List (Option ℕ)). length l) c.in_ok-memories.ensures ∙ (length-replicate c.rows_needed-rows.result None ∙ c.rows_needed-rows.ensures.number))
    c.width_needed-wide.result c.width_needed-wide.ensures

pub returns : goal.returns
returns c =
    costs_begun (plan_seen c.args.plan.now) c.requires c.as_slice-blocks.result.now c.as_slice-blocks.ensures c.rows_needed-rows.result c.rows_needed-rows.ensures.number
    c.width_needed-wide.result c.width_needed-wide.ensures
    c.in_ok-memories.memories.items _ c.in_ok-counts.counts.items _ c.in_ok-memories.ensures c.places.result c.places.ensures.number c.in_ok-counts.ensures c.note_all.ensures
