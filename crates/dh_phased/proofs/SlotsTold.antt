-- The slots of a scene are registers of the copies of its variables; iterators have none.
use Rattle.std.proofs.Common.{◌≡◌, ℕ, Option, Some, None, refl, sym, ◌∙◌}
use Rattle.dh_tree.specs.declared.trees.counters.Counter.{Counter}
use Rattle.dh_meaning.specs.Paths.{Path}
use Rattle.dh_expressions.specs.declared.scenes.Scene.{Scene}
use Rattle.dh_expressions.specs.Evaluated.{counter_of}
use Rattle.dh_blocks.specs.SlotsOfScene.{placing_in, slots_in}
use Rattle.dh_blocks.proofs.VariablesPlaced.{slot_facts}
use Rattle.dh_gathering.specs.LoopCounters.{AreSlotsBy}

pub slots_told : (scene : Scene) → AreSlotsBy scene (placing_in scene) (slots_in scene)
slots_told scene = record {
  held = refl;
  variables = λ entity path register at.
      let s = slot_facts scene entity path register at in
      record { there = s.there; no_counter = s.no_counter; path_is = s.path; is = s.slot };
  iterators = λ entity path c counted. by entity path c counted (slots_in scene entity path) refl;
}
  where
    differ : {c : Counter} → None ≡ Some c → ⊥
    differ e = cc

    by : (entity : ℕ) (path : Path) (c : Counter) → counter_of scene entity ≡ Some c → (o : Option ℕ) → slots_in scene entity path ≡ o → slots_in scene entity path ≡ None
    by entity path c counted None e = e
    by entity path c counted (Some r) e = absurd (differ (sym (slot_facts scene entity path r e).no_counter ∙ counted))
