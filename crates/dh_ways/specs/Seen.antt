-- What contracts see of ways that code keeps.
use Rattle.std.specs.Prelude.{◌∷◌, map}
use Rattle.dh_meaning.specs.Ways as definitions
use Rattle.dh_meaning.specs.Ways.{step_of}
use Rattle.dh_ways.specs.declared.ways.Hidden.{Hidden}
use Rattle.dh_ways.specs.Kept.{KeptLed, KeptWay}

abbrev pub hidden_seen : Hidden → definitions.Hidden
hidden_seen h = record { entity = h.entity; kind = h.kind; depth = h.depth }

abbrev pub way_seen : KeptWay → definitions.Way
way_seen w = record {
  is = w.view;
  memory = w.memory;
  steps = map step_of (w.view ∷ w.behind);
  hidden = map hidden_seen w.hidden;
  deepest = w.deepest;
  shifts = w.shifts;
}

abbrev pub led_seen : KeptLed → definitions.Led
led_seen l = record { entity = l.entity; way = way_seen l.way }
