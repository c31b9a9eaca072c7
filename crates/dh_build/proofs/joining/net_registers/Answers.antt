use Rattle.std.proofs.Common.{ℕ, List, length, ap, sym, ◌∙◌}
use Rattle.std.proofs.lemmas.List.{length-map}
use Rattle.dh_value.specs.declared.kinds.Kind.{Kind}
use Rattle.dh_value.specs.Words.{width_of}
use Rattle.dh_control.specs.WayMoves.{way_of_decision}
use Rattle.dh_build.proofs.JoinedParts.{initials_long}
use Rattle.dh_build.proofs.joining.net_registers.Goals as goal

pub list_registers-requires-clause-initials : goal.list_registers-requires-clause-initials
list_registers-requires-clause-initials c =
    ap (λ (l : List ℕ). length l) c.as_slice-initials.ensures.value
    ∙ (initials_long c.as_slice.result.now (way_of_decision c.args.first.now) _ c.args.sizes.now.clock_width c.args.sizes.now.state_width c.as_slice-further.result.now c.in_ok-widths.widths c.in_ok-initials.initials.items
    c.in_ok-initials.ensures c.in_ok-widths.ensures
    (ap (λ (l : List ℕ). length l) (c.as_slice-further.ensures ∙ c.requires.widths) ∙ (length-map c.args.plan.now.registers width_of ∙ sym (ap (λ (l : List Kind). length l) c.as_slice.ensures)))
    ∙ sym (ap (λ (l : List ℕ). length l) c.as_slice-2.ensures))
