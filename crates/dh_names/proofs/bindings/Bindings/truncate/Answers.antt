use Rattle.std.proofs.Common.{◌∙◌, ap, sym, take, map}
use Rattle.std.proofs.lemmas.List.{take-map}
use Rattle.dh_names.specs.Entries.{bound}
use Rattle.dh_names.proofs.bindings.Bindings.truncate.Goals as goal

pub returns : goal.returns
returns c = ap (λ es. map bound es) c.truncate.ensures.entries ∙ sym (take-map bound _ _) ∙ ap (λ l. take c.args.len l) c.self.view_is
