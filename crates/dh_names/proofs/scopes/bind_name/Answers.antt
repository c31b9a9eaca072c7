use Rattle.std.proofs.Common.{sym, ◌∙◌}
use Rattle.dh_names.proofs.Keeping.{absent_own, absent}
use Rattle.dh_names.proofs.scopes.bind_name.Goals as goal

pub add-requires : goal.add-requires
add-requires c = absent_own c.args.names.now.outer c.args.names.now.own c.args.name.now.name (sym c.find.ensures ∙ absent _ (sym c.is_some.ensures ∙ c.if-is_some.false))
