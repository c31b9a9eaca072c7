-- Variables that are seen have registers of their kinds at each path, and iterators of loops round a block have theirs.
use Rattle.std.proofs.Common.{◌≡◌, inl, inr, ℕ, zero, suc, ◌<◌, ◌≤◌, Bool, List, [], ◌∷◌, length, Option, ap, sym, ◌∙◌, subst, arith}
use Rattle.dh_value.specs.declared.kinds.Kind.{Kind}
use Rattle.dh_value.specs.declared.kinds.Kind.TheVariants as kind
use Rattle.dh_tree.specs.declared.trees.counters.Counter.{Counter}
use Rattle.dh_tree.specs.declared.trees.expressions.Ref.{Ref}
use Rattle.dh_meaning.specs.CoreOf.{entity_number}
use Rattle.dh_meaning.specs.Paths.{Path}
use Rattle.dh_plan.specs.Blocks.{kind_at}
use Rattle.dh_plan.specs.Correspondence.{Round}
use Rattle.dh_code.specs.Slots.{held_at, slot_of}
use Rattle.dh_expressions.specs.declared.scenes.Around.{Around}
use Rattle.dh_expressions.specs.declared.scenes.Scene.{Scene}
use Rattle.dh_expressions.specs.Evaluated.{counter_of}
use Rattle.dh_expressions.specs.Shown.{register_at}
use Rattle.dh_formed.specs.Formed.{FormedBlock, RegisterSuits, VariableSuits}
use Rattle.dh_commands.specs.LanesRun.{lane_of, paths_counted}
use Rattle.dh_commands.specs.ShownVariables.{IsSeen, register_in, seen_path}
use Rattle.dh_blocks.specs.SlotsOfScene.{placing_in}
use Rattle.dh_blocks.proofs.VariablesPlaced.{copy_path, register_slot, register_small, slot_is}
use Rattle.dh_laid.specs.Laid.{FitsRegister}
use Rattle.dh_typed_laid.specs.SuitingBlocks.{NamedHere, StandsSo}

-- a register of an unsigned kind is there
counter_there : (kinds : List Kind) (n width : ℕ) → kind_at kinds n ≡ kind.Unsigned width → n < length kinds
counter_there [] n width e = absurd cc
counter_there (k ∷ kinds) zero width e = omega arith
counter_there (k ∷ kinds) (suc n) width e = let l = counter_there kinds n width e in omega (arith, l)

within_all : (a b c : ℕ) → a < b → b ≤ c → a < c
within_all a b c l m = omega (arith, l, m)

module _ (x : FormedBlock) (scene : Scene) (count : ℕ) (around : Around) (stands : StandsSo x scene count around) where
  -- a variable that is seen
  pub register_suits : (e n : ℕ) → IsSeen scene around.levels.now e → n < paths_counted around → RegisterSuits x (register_in scene around e n) (held_at scene.held.now e).kind
  register_suits e n s h =
      let path : Path = seen_path scene around e n in
      let slot = slot_is scene e path s.there s.no_counter (copy_path scene around count stands.holds.placing stands.holds.small stands.spread stands.counted e n s h) in
      record {
        there = within_all (register_in scene around e n) count (length x.plan.registers) (register_small scene around count stands.holds.placing stands.holds.small stands.spread stands.counted e n s h) stands.holds.within;
        kind_is = ap (λ r. kind_at x.plan.registers r) (register_slot scene around count stands.holds.placing stands.holds.small stands.spread stands.counted e n s h)
            ∙ stands.holds.kinds e path (slot_of (placing_in scene) e path) slot;
      }

  -- so what is assigned fits it
  pub fits_register : (e n : ℕ) → IsSeen scene around.levels.now e → n < paths_counted around → FitsRegister x scene (lane_of around n) e
  fits_register e n s h = sym (register_suits e n s h).kind_is

  pub register_there : (e n : ℕ) → IsSeen scene around.levels.now e → n < paths_counted around → register_at (held_at scene.held.now e) (lane_of around n) < length x.plan.registers
  register_there e n s h = (register_suits e n s h).there

  -- a name
  pub name_suits : (rounds : List Round) (touched : ℕ → Bool) (r : Ref) (k : Kind) → NamedHere x scene around rounds touched r k → (n : ℕ) → n < paths_counted around
      → VariableSuits x (counter_of scene (entity_number r.entity)) (held_at scene.held.now (entity_number r.entity)) (lane_of around n) k
  name_suits rounds touched r k (inl p) n h =
      let own : RegisterSuits x (register_in scene around (entity_number r.entity) n) k = subst (λ (j : Kind). RegisterSuits x (register_in scene around (entity_number r.entity) n) j) p.kind_is (register_suits (entity_number r.entity) n p.seen h) in
      subst (λ (o : Option Counter). VariableSuits x o (held_at scene.held.now (entity_number r.entity)) (lane_of around n) k) (sym p.seen.no_counter) own
  name_suits rounds touched r k (inr q) n h =
      let there = subst (λ (m : ℕ). m < length x.plan.registers) (sym q.register_is) (counter_there x.plan.registers q.round.counter q.width q.kind_is) in
      subst (λ (o : Option Counter). VariableSuits x o (held_at scene.held.now (entity_number r.entity)) (lane_of around n) k) (sym q.counted) (q.integer, there)
