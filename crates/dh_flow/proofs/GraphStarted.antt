-- The graph that holds the program's own group alone.
use Rattle.std.proofs.Common.{◌≡◌, List, [], ◌∷◌, ◌++◌, None, ap, ◌∙◌}
use Rattle.std.specs.Prelude.{Vec}
use Rattle.std.specs.Global.{Global}
use Rattle.dh_plan.specs.declared.graphs.Decision.{Decision}
use Rattle.dh_plan.specs.declared.graphs.Group.{Group}
use Rattle.dh_plan.specs.declared.graphs.State as code
use Rattle.dh_flow.specs.declared.measuring.Entry.{Entry}
use Rattle.dh_flow.specs.ToldWays.{ToldWay, decision_told, told_rest, told_entry, told_group, groups_told}
use Rattle.dh_flow.specs.GraphWalks.{Starts}

abbrev own_alone : Decision → Group
own_alone d = record { parent = None; first = d; after = None }

pub starts_so : (e : Entry) (d : Decision) (t : ToldWay) (before : List Group) (states : Vec code.State Global) (groups : Vec Group Global) → before ≡ [] → groups.items ≡ before ++ own_alone d ∷ [] → t ≡ told_rest
    → decision_told d ≡ told_entry e 0 1 t → states.items ≡ [] → Starts e (record { states = states; groups = groups })
starts_so e d t before states groups none put rest is empty =
    record {
      states = empty;
      groups = ap groups_told (put ∙ ap (λ l. l ++ own_alone d ∷ []) none) ∙ ap (λ x. told_group None x None ∷ []) (is ∙ ap (λ x. told_entry e 0 1 x) rest);
    }
