use Rattle.std.proofs.Common.{◌≡◌, nat_lt, List, [], ◌∷◌, length, map, refl, arith}
use Rattle.std.proofs.lemmas.Bool.{lt-ltb}
use Rattle.std.specs.Prelude.{Vec}
use Rattle.std.specs.Global.{Global}
use Rattle.dh_tree.specs.declared.trees.commands.Command.{Command}
use Rattle.dh_tree.specs.Seen.{part_seen, groups}
use Rattle.dh_events.specs.Incidents as incidents
use Rattle.dh_events.proofs.noting.are_parts.Goals as goal

parts : (ps : List (Vec Command Global)) → nat_lt 1 (length ps) ≡ incidents.are_parts (groups (map part_seen ps))
parts [] = refl
parts (p ∷ []) = refl
parts (p ∷ q ∷ ps) = lt-ltb 1 (length (p ∷ q ∷ ps)) (omega arith)

pub returns : goal.returns
returns c = parts c.args.parts.now
