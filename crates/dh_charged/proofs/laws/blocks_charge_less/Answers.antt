use Rattle.dh_charged.proofs.BlocksCharged.{blocks_charge_less, plans_charge, tests_charge_less}
use Rattle.dh_charged.proofs.laws.blocks_charge_less.Goals as goal

pub returns-clause-straight : goal.returns-clause-straight
returns-clause-straight c scene plan block around cs old new end m stands along writes inside bare shares of cut ends =
    blocks_charge_less scene plan block around cs old new end m stands along writes inside bare shares of cut ends

pub returns-clause-tests : goal.returns-clause-tests
returns-clause-tests c scene plan block around first t old new end next tests m stands few inside bare shares of cut ends =
    tests_charge_less scene plan block around first t old new end next tests m stands few inside bare shares of cut ends

pub returns-clause-plans : goal.returns-clause-plans
returns-clause-plans c p plan phases nodes all = plans_charge p plan phases nodes all
