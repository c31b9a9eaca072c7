-- What the walk that measures nodes does: it gives their footprint, and leaves their marks.
use Rattle.std.specs.Prelude.{◌≡◌, List, [], ◌∷◌, ◌++◌, Vec}
use Rattle.std.specs.Global.{Global}
use Rattle.dh_plan.specs.declared.plans.Node as code
use Rattle.dh_plan.specs.PlainPlans.{Node, Nodes, NodeLists, no_lists, list_then}
use Rattle.dh_plan.specs.SeenPlans.{node_seen, nodes_seen}
use Rattle.dh_flow.specs.declared.measuring.Entry.{Entry}
use Rattle.dh_flow.specs.declared.measuring.Footprint.{Footprint}
use Rattle.dh_flow.specs.declared.measuring.NodeMark.{NodeMark}
use Rattle.dh_flow.specs.Footprints.{footprint_of, lists_footprint, node_mark, told_behind, marks_of, inner_marks, lists_marks}

-- threads of the code
abbrev pub all_lists_seen : List (Vec code.Node Global) → NodeLists
all_lists_seen [] = no_lists
all_lists_seen (v ∷ vs) = list_then (nodes_seen v.items) (all_lists_seen vs)

pub record Measures (ns : Nodes) (old new : List NodeMark) (e : Footprint) : Type 0 where
  pub footprints : e ≡ footprint_of ns
  pub marks : new ≡ old ++ marks_of ns

pub record MeasuresIn (n : Node) (old new : List NodeMark) (m : NodeMark) : Type 0 where
  pub mark : m ≡ node_mark n
  pub marks : new ≡ old ++ inner_marks n

pub record MeasuresLists (lists : NodeLists) (old new : List NodeMark) (e : Footprint) : Type 0 where
  pub footprints : e ≡ lists_footprint lists
  pub marks : new ≡ old ++ lists_marks lists

-- what functions do, by the nodes of the code
abbrev pub MeasuresAll : List code.Node → (old new : Vec NodeMark Global) → Footprint → Type 0
MeasuresAll nodes old new e = Measures (nodes_seen nodes) old.items new.items e

abbrev pub MeasuresOne : code.Node → (old new : Vec NodeMark Global) → NodeMark → Type 0
MeasuresOne node old new m = MeasuresIn (node_seen node) old.items new.items m

abbrev pub MeasuresThreads : List (Vec code.Node Global) → (old new : Vec NodeMark Global) → Footprint → Type 0
MeasuresThreads lists old new e = MeasuresLists (all_lists_seen lists) old.items new.items e

-- a mark is left, which tells how what comes behind begins
abbrev pub Leaves : NodeMark → Entry → (old new : Vec NodeMark Global) → Type 0
Leaves mark behind old new = new.items ≡ old.items ++ told_behind mark behind ∷ []
