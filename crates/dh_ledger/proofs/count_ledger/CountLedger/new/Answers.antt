use Rattle.std.proofs.Common.{arith, ap, refl}
use Rattle.std.proofs.lemmas.List.{take-replicate}
use Rattle.dh_ledger.proofs.Kept.{zero_everywhere}
use Rattle.dh_ledger.proofs.count_ledger.CountLedger.new.Goals as goal

pub invariant_of-result : goal.invariant_of-result
invariant_of-result c = record {
  banks_fit = c.requires.banks;
  ports_fit = c.requires.ports;
  long = refl;
  within = λ bank. let none = zero_everywhere 64 bank in omega arith;
  none_past = λ bank _. zero_everywhere 64 bank;
}

pub returns : goal.returns
returns c = ap (λ xs. record { ports = c.args.ports; spent = xs }) (take-replicate c.args.banks 64 _ c.requires.banks)
