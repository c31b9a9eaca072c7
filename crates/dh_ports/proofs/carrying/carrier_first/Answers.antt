use Rattle.std.proofs.Common.{ℕ, List, ◌||◌, false, ap, replicate, subst, sym, ◌∙◌}
use Rattle.dh_tree.specs.declared.tables.Dim.{Dim}
use Rattle.dh_tree.specs.Elements.{banks_of}
use Rattle.dh_ports.specs.Banks.{each_below}
use Rattle.dh_ports.specs.CarriersMade.{itself, IsCarrierOn}
use Rattle.dh_ports.proofs.CarrierMade.{on_shifted}
use Rattle.dh_ports.proofs.CarrierTurns.{shaped}
use Rattle.dh_ports.proofs.EachFacts.{each_long}
use Rattle.dh_ports.proofs.carrying.carrier_first.Goals as goal

pub bank_count-count-requires : goal.bank_count-count-requires
bank_count-count-requires c =
    let s = shaped c.args.view.now.parent c.as_slice.result.now c.as_slice.ensures c.requires.parent in
    record { dims = s.dims; few = s.few }

pub bank_count-banks-requires : goal.bank_count-banks-requires
bank_count-banks-requires c =
    let s = shaped c.args.view.now.shape c.as_slice-dims.result.now c.as_slice-dims.ensures c.requires.own in
    record { dims = s.dims; few = s.few }

pub returns-then-shifted : goal.returns-then-shifted
returns-then-shifted c =
    let count_is = c.bank_count-count.ensures ∙ ap (λ (l : List Dim). banks_of l) c.as_slice.ensures in
    on_shifted c.args.view.now false (each_below itself (banks_of c.args.view.now.parent.dims)) c.bank_count-banks.result c.in_ok-none.none (c.bank_count-banks.ensures ∙ ap (λ (l : List Dim). banks_of l) c.as_slice-dims.ensures)
    (sym (ap (λ b. b || false) c.is_shift-shifted.ensures) ∙ ap (λ b. b || false) c.if-shifted.true)
    (c.in_ok-none.ensures ∙ ap (λ (n : ℕ). replicate n 0) (count_is ∙ sym (each_long itself (banks_of c.args.view.now.parent.dims))))

pub returns : goal.returns
returns c =
    subst (λ (behind : List ℕ). IsCarrierOn c.args.view.now false behind c.in_ok-carrier.carrier)
    (c.as_slice-2.ensures.value ∙ (c.in_ok-banks.ensures ∙ ap (each_below itself) (c.bank_count-count.ensures ∙ ap (λ (l : List Dim). banks_of l) c.as_slice.ensures))) c.in_ok-carrier.ensures
