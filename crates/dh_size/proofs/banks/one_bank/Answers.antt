use Rattle.std.proofs.Common.{false}
use Rattle.dh_ports.specs.Claims.{source_of}
use Rattle.dh_size.proofs.ChargedBanks.{one_missing, one_there}
use Rattle.dh_size.proofs.banks.one_bank.Goals as goal

pub returns-then-bank-bank_count : goal.returns-then-bank-bank_count
returns-then-bank-bank_count c = one_there c.args.typed.now (source_of c.args.loops.now false c.args.access.now) c.args.dims.now c.args.copies c.bank_reached-bank.result c.bank_count.result c.requires.copies c.requires.one c.bank_reached-bank.ensures c.bank_count.ensures c.if-bank-bank_count.true

pub returns-else-bank-bank_count : goal.returns-else-bank-bank_count
returns-else-bank-bank_count c = one_missing c.args.typed.now (source_of c.args.loops.now false c.args.access.now) c.args.dims.now c.args.copies c.bank_reached-bank.result c.bank_count.result c.requires.copies c.requires.one c.bank_reached-bank.ensures c.bank_count.ensures c.if-bank-bank_count.false
