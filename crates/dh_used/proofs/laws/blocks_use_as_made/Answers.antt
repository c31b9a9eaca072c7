use Rattle.dh_used.proofs.BlocksByKeys.{straights_use_as_made, tests_use_as_made}
use Rattle.dh_used.proofs.laws.blocks_use_as_made.Goals as goal

pub returns-clause-straight : goal.returns-clause-straight
returns-clause-straight c scene plan block around cs old new end m here along has tells bare cut ends = straights_use_as_made scene plan block around cs old new end m here along has tells bare cut ends

pub returns-clause-tests : goal.returns-clause-tests
returns-clause-tests c scene plan block around tested t old new end next tests m is here few has tells bare cut ends =
    tests_use_as_made scene plan block around tested t old new end next tests m is here few has tells bare cut ends
