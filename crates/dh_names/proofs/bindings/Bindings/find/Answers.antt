use Rattle.std.proofs.Common.{◌∙◌}
use Rattle.dh_names.proofs.Entered.{found}
use Rattle.dh_names.proofs.bindings.Bindings.find.Goals as goal

pub returns : goal.returns
returns c = c.copied.ensures ∙ c.get.ensures.value ∙ found _ _ _ _ c.self.view_is c.as_str.ensures
