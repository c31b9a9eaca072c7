use Rattle.dh_build.proofs.SuitsShown.{sets_suit, checks_suit, uses_suit}
use Rattle.dh_build.proofs.laws.shown_plans_suit.Goals as goal

pub returns : goal.returns
returns c =
    λ d plan u w ms shows formed addressed ports few memories. record {
      sets = sets_suit d plan u w shows formed addressed;
      checks = checks_suit d plan u w shows formed addressed few;
      uses = uses_suit d plan u w shows formed addressed ports ms memories;
    }
