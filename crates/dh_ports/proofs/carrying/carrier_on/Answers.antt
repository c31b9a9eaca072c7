use Rattle.std.proofs.Common.{List, ◌||◌, ap, sym, ◌∙◌}
use Rattle.dh_tree.specs.declared.tables.Dim.{Dim}
use Rattle.dh_tree.specs.Elements.{banks_of}
use Rattle.dh_ports.proofs.CarrierMade.{on_plain, on_shifted}
use Rattle.dh_ports.proofs.CarrierTurns.{shaped}
use Rattle.dh_ports.proofs.carrying.carrier_on.Goals as goal

pub bank_count-banks-requires : goal.bank_count-banks-requires
bank_count-banks-requires c =
    let s = shaped c.args.view.now.shape c.as_slice.result.now c.as_slice.ensures c.requires.own in
    record { dims = s.dims; few = s.few }

pub returns-then-even : goal.returns-then-even
returns-then-even c =
    on_shifted c.args.view.now c.args.evenly c.args.behind.now c.bank_count-banks.result c.in_ok-none.none (c.bank_count-banks.ensures ∙ ap (λ (l : List Dim). banks_of l) c.as_slice.ensures)
    (sym (c.either-even.ensures ∙ ap (λ b. b || c.args.evenly) c.is_shift-shifted.ensures) ∙ c.if-even.true) c.in_ok-none.ensures

pub returns : goal.returns
returns c =
    on_plain c.args.view.now c.args.evenly c.args.behind.now c.bank_count-banks.result c.in_ok-sources.sources (c.bank_count-banks.ensures ∙ ap (λ (l : List Dim). banks_of l) c.as_slice.ensures)
    (sym (c.either-even.ensures ∙ ap (λ b. b || c.args.evenly) c.is_shift-shifted.ensures) ∙ c.if-even.false) c.in_ok-sources.ensures
