use Rattle.std.proofs.Common.{◌≡◌, subst, refl}
use Rattle.dh_value.specs.Words.{IsKind, with_bits}
use Rattle.std.specs.Prelude.{false}
use Rattle.dh_meaning.specs.CoreOf.{entity_number}
use Rattle.dh_meaning.specs.Effects.{bits_of}
use Rattle.dh_code.specs.declared.places.VariableSlots.{VariableSlots}
use Rattle.dh_commands.proofs.Cleared.{cleared_one}
use Rattle.dh_expressions.specs.MadeValues.{MadeNumber}
use Rattle.dh_commands.proofs.assigning.clear_at.Goals as goal

pub returns-clause-means : goal.returns-clause-means
returns-clause-means c =
    cleared_one c.args.scene.now c.args.lane.now c.args.building.now (record { draft = c.push_constant.new.draft; accesses = c.args.building.now.accesses; values = c.set.new.values })
    (entity_number c.args.target.now.entity) c.in_ok-value.value c.literal.result
    (subst (λ (h : VariableSlots). IsKind h.kind → c.literal.result ≡ with_bits h.kind (bits_of h.kind false 0)) c.place_of-kind.ensures c.literal.ensures)
    c.in_ok-value.ensures.means refl c.in_ok-set.ensures

pub returns-clause-made : goal.returns-clause-made
returns-clause-made c = record {
  value = c.in_ok-value.value;
  number =
      subst (λ (h : VariableSlots). MadeNumber h.kind false 0 c.args.building.now.draft c.push_constant.new.draft c.in_ok-value.value) c.place_of-kind.ensures
      (record { word = c.literal.result; is = c.literal.ensures; pushes = c.in_ok-value.ensures.made });
  same = refl;
  sets = c.in_ok-set.ensures;
}
