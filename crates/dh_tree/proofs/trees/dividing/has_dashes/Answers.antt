use Rattle.std.proofs.Common.{◌≡◌, List, [], ◌∷◌, length, map, refl, nat_lt, arith}
use Rattle.std.specs.Prelude.{Vec}
use Rattle.std.specs.Global.{Global}
use Rattle.std.proofs.lemmas.Bool.Decides.{nat_tests}
use Rattle.dh_tree.specs.declared.trees.commands.Command.{Command}
use Rattle.dh_tree.specs.Seen.{groups, part_seen}
use Rattle.dh_tree.specs.Forms as forms
use Rattle.dh_tree.proofs.trees.dividing.has_dashes.Goals as goal

two_at_least : (parts : List (Vec Command Global)) → nat_lt 1 (length parts) ≡ forms.has_dashes (groups (map part_seen parts))
two_at_least [] = refl
two_at_least (p ∷ []) = refl
two_at_least (p ∷ (q ∷ rest)) = grind (arith, nat_tests)

pub returns : goal.returns
returns c = two_at_least c.args.parts.now
