use Rattle.dh_charged.proofs.BlocksTouch.{straights_touch, tests_touch}
use Rattle.dh_charged.proofs.laws.made_blocks_touch.Goals as goal

pub returns-clause-straight : goal.returns-clause-straight
returns-clause-straight c scene around plan rounds count block done folds before between stands sound put made =
    straights_touch scene around plan rounds count block done folds before between stands sound put made

pub returns-clause-tests : goal.returns-clause-tests
returns-clause-tests c scene around plan rounds count block flag first next t values before between stands sound put made =
    tests_touch scene around plan rounds count block flag first next t values before between stands sound put made
