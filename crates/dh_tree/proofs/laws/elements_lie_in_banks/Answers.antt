use Rattle.dh_tree.proofs.BankElements.{bank_below, row_within, position_below, position_told, in_bank_below}
use Rattle.dh_tree.proofs.BankSpread.{place_lies, one_place}
use Rattle.dh_tree.proofs.laws.elements_lie_in_banks.Goals as goal

pub returns-clause-bank : goal.returns-clause-bank
returns-clause-bank c = bank_below

pub returns-clause-row : goal.returns-clause-row
returns-clause-row c = row_within

pub returns-clause-position : goal.returns-clause-position
returns-clause-position c = λ dims indices h. position_below dims indices

pub returns-clause-told : goal.returns-clause-told
returns-clause-told c = position_told

pub returns-clause-in_bank : goal.returns-clause-in_bank
returns-clause-in_bank c = in_bank_below

pub returns-clause-onto : goal.returns-clause-onto
returns-clause-onto c = place_lies

pub returns-clause-one : goal.returns-clause-one
returns-clause-one c = one_place
