use Rattle.dh_names.proofs.Entered.{entered}
use Rattle.dh_names.proofs.bindings.Bindings.add.Goals as goal
use Rattle.std.proofs.Common.{◌∙◌}

pub returns : goal.returns
returns c = entered c.self.inside.numbers c.in_ok-text.text c.args.entity _ _ _ c.self.view_is (c.in_ok-text.ensures.ok ∙ c.as_str.ensures) c.requires c.in_ok-insert.ensures.entries
