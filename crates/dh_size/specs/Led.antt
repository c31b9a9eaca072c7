-- The views of a program as the code knows them.
use Rattle.std.specs.Prelude.{◌≡◌, map}
use Rattle.dh_tree.specs.PlainTrees.{Program}
use Rattle.dh_meaning.specs.Ways.{ways_of}
use Rattle.dh_ways.specs.Seen.{led_seen}
use Rattle.dh_ports.specs.Carriers.{AreEach}
use Rattle.dh_ports.specs.Layouts.{AllWaysLead}
use Rattle.dh_size.specs.declared.through.Views.{Views}

pub record AreProgramViews (p : Program) (views : Views) : Type 0 where
  pub ways : map led_seen views.ways.now ≡ ways_of p
  pub carriers : AreEach views.ways.now views.carriers.now
  pub leads : AllWaysLead p
