use Rattle.std.proofs.Common.{◌≡◌, ap, ◌∙◌, add-one, arith}
use Rattle.dh_expressions.specs.Named.{banks_below}
use Rattle.dh_expressions.proofs.ElementsReached.{banks_more}
use Rattle.dh_expressions.proofs.elements.all_banks.Goals as goal

pub loop-bank-init : goal.loop-bank-init
loop-bank-init c = c.no_banks-banks.ensures

pub loop-bank-preserved : goal.loop-bank-preserved
loop-bank-preserved c = rw (add-one c.loop-bank.bank)
    (banks_more c.args.set c.args.place c.loop-bank.bank c.loop-bank.banks c.add_bank.new.banks c.loop-bank.invariant c.in_ok-add_bank.ensures)

pub returns : goal.returns
returns c =
    let end : c.loop-bank.bank ≡ 64 = let l = c.loop-bank-test.false in let e = c.loop-bank.auto.bank-end in omega (arith, l, e) in
    c.loop-bank.invariant ∙ ap (λ n. banks_below c.args.set c.args.place n) end
