-- The ways that the code holds are those of a program's names.
use Rattle.std.specs.Prelude.{◌≡◌, ℕ, map, Option}
use Rattle.dh_tree.specs.Memories.{memories_of}
use Rattle.dh_tree.specs.Seen.{program_seen}
use Rattle.dh_meaning.specs.CoreOf.{Known}
use Rattle.dh_meaning.specs.Ways.{Way, way_at}
use Rattle.dh_ways.specs.Seen.{led_seen}
use Rattle.dh_lengths.specs.declared.leads.Leads.{Leads}

-- the way of what a name stands for: a memory has none
abbrev pub way_by : Leads → Option ℕ → Option Way
way_by leads entity = way_at (memories_of (program_seen leads.program.now)) (map led_seen leads.ways.now) entity

pub record IsLedBy (leads : Leads) (known : Known) : Type 0 where
  pub same : (entity : Option ℕ) → way_by leads entity ≡ way_at known.memories known.ways entity
