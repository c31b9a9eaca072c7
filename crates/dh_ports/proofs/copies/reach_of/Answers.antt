use Rattle.std.proofs.Common.{List, ap, ◌∙◌, subst, inl, inr}
use Rattle.dh_tree.specs.declared.trees.expressions.Expr.{Expr}
use Rattle.dh_tree.specs.Seen.{form_seen, term_seen}
use Rattle.dh_tree.proofs.SeenTerms.{number_is, truth_is, variable_is, access_is, physical_is, binary_is, cast_is}
use Rattle.dh_events.specs.Accesses.{element_in}
use Rattle.dh_ports.specs.Copies.{AreIndexLanes}
use Rattle.dh_ports.proofs.ReachFacts.{reach_lanes, reach_row, reach_none}
use Rattle.dh_ports.proofs.copies.reach_of.Goals as goal

pub returns-in_ok-lanes-in-Access : goal.returns-in_ok-lanes-in-Access
returns-in_ok-lanes-in-Access c =
    reach_lanes c.args.typed.now c.args.copied.loops.now c.args.copied.dims.now c.args.copied.access.now c.in_ok-lanes-in-Access.lanes.items c.in-Access.of c.in-Access.indices.items (ap form_seen c.in-Access.is ∙ access_is c.in-Access.of c.in-Access.indices)
    (subst (λ (es : List Expr). AreIndexLanes c.args.typed.now c.args.copied.loops.now c.args.copied.dims.now es c.in_ok-lanes-in-Access.lanes.items) c.as_slice.ensures.value c.in_ok-lanes-in-Access.ensures)

pub returns-in-Physical : goal.returns-in-Physical
returns-in-Physical c =
    reach_row c.args.typed.now c.args.copied.loops.now c.args.copied.dims.now c.args.copied.access.now c.new.result.items c.in-Physical.of c.in-Physical.bank c.in-Physical.bank_place (term_seen c.in-Physical.row.value) c.new.ensures.items
    (ap form_seen c.in-Physical.is ∙ physical_is c.in-Physical.of c.in-Physical.bank c.in-Physical.bank_place c.in-Physical.row)

pub returns-in-Number : goal.returns-in-Number
returns-in-Number c =
    reach_none c.args.typed.now c.args.copied.loops.now c.args.copied.dims.now c.args.copied.access.now c.new-in-Number.result.items c.new-in-Number.ensures.items
    (elim c.in-Number.is [
      | inl a ↦ ap (λ f. element_in (form_seen f)) a.2 ∙ ap element_in (number_is a.0 a.1)
      | inr k ↦ elim k [
        | inl a ↦ ap (λ f. element_in (form_seen f)) a.1 ∙ ap element_in (truth_is a.0)
        | inr l ↦ elim l [
          | inl a ↦ ap (λ f. element_in (form_seen f)) a.1 ∙ ap element_in (variable_is a.0)
          | inr m ↦ elim m [
            | inl a ↦ ap (λ f. element_in (form_seen f)) a.3 ∙ ap element_in (binary_is a.0 a.1 a.2)
            | inr a ↦ ap (λ f. element_in (form_seen f)) a.2 ∙ ap element_in (cast_is a.0 a.1)
          ]
        ]
      ]
    ])
