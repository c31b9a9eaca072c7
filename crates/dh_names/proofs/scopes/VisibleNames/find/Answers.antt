use Rattle.std.proofs.Common.{◌∙◌, sym}
use Rattle.dh_names.proofs.Keeping.{found_first, found_next}
use Rattle.dh_names.proofs.scopes.VisibleNames.find.Goals as goal

pub returns-in-Some : goal.returns-in-Some
returns-in-Some c = sym (found_first c.args.self.now.outer c.args.self.now.own c.args.name.now _ (sym c.find_outer.ensures ∙ c.in-Some.is))

pub returns-in-None : goal.returns-in-None
returns-in-None c = c.find.ensures ∙ sym (found_next c.args.self.now.outer c.args.self.now.own c.args.name.now (sym c.find_outer.ensures ∙ c.in-None.is))
