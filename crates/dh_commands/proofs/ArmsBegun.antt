-- What stands at all paths stands at those of an arm: it has the same loops, and fewer paths with a guard that holds.
use Rattle.std.proofs.Common.{◌≡◌, ℕ, ◌+◌, ◌-◌, ◌*◌, ◌<◌, ◌^◌, Bool, true, if◌then◌else◌, Some, None, List, length, take, ap, sym, ◌∙◌, subst}
use Rattle.std.specs.Prelude.{Option, min, nat_le, pos, slice_index}
use Rattle.dh_value.specs.declared.kinds.Kind.{Kind}
use Rattle.dh_value.specs.Words.{word_of}
use Rattle.dh_tree.specs.declared.trees.counters.Counter.{Counter}
use Rattle.dh_meaning.specs.Effects.{Effect, Variables}
use Rattle.dh_meaning.specs.Paths.{Path}
use Rattle.dh_code.specs.declared.places.VariableSlots.{VariableSlots}
use Rattle.dh_code.specs.Slots.{held_at}
use Rattle.dh_plan.proofs.SourceMoves.{and_left}
use Rattle.dh_expressions.specs.declared.paths.Level.{Level}
use Rattle.dh_expressions.specs.declared.scenes.Around.{Around}
use Rattle.dh_expressions.specs.declared.scenes.Scene.{Scene}
use Rattle.dh_expressions.specs.Drafted.{BlockStep}
use Rattle.dh_expressions.specs.Evaluated.{StepReads, counter_of, shown_by}
use Rattle.dh_expressions.specs.Levels.{last_number, path_at, rank_number}
use Rattle.dh_expressions.specs.Shown.{variable_shown}
use Rattle.dh_commands.specs.declared.buildings.Building.{Building}
use Rattle.dh_commands.specs.LanesRun.{IsArm, comes_out, is_on_at, lane_of, path_in, paths_counted}
use Rattle.dh_commands.specs.ShownVariables.{IsSeen, ShowsVariables, depth_in, register_in, seen_path}
use Rattle.dh_commands.specs.Done.{StandsBeside}

module _ (scene : Scene) (around arm : Around) (x : BlockStep) (holds : Bool) (test : Path → Bool) (h : IsArm x around arm holds test) where
  pub register_same : (e j : ℕ) → register_in scene arm e j ≡ register_in scene around e j
  register_same e j = ap (λ (ls : List Level). min ((held_at scene.held.now e).first + rank_number ls (held_at scene.held.now e).depth j) (2 ^ 64 - 1)) h.levels

  pub seen_same : (e j : ℕ) → seen_path scene arm e j ≡ seen_path scene around e j
  seen_same e j = ap (λ (ls : List Level). take (depth_in scene e) (path_at ls j)) h.levels

  pub shown_same : (o : Option Counter) (held : VariableSlots) (current : List (Option ℕ)) (kind : Kind) (j : ℕ) → shown_by x o held (lane_of arm j) current kind ≡ shown_by x o held (lane_of around j) current kind
  shown_same None held current kind j = ap (λ (ls : List Level). variable_shown x current (min (held.first + rank_number ls held.depth j) (2 ^ 64 - 1))) h.levels
  shown_same (Some c) held current kind j =
      ap (λ (ls : List Level). word_of kind (pos (c.low + slice_index x.start.registers held.first * c.factor + (if nat_le c.factor 1 then 0 else last_number ls held.depth j)))) h.levels

  pub on_around : (j : ℕ) → j < paths_counted around → is_on_at x arm j ≡ true → is_on_at x around j ≡ true
  on_around j inside on = and_left (is_on_at x around j) (comes_out holds (test (path_in around j))) (sym (h.on j inside) ∙ on)

  pub seen_around : (e : ℕ) → IsSeen scene arm.levels.now e → IsSeen scene around.levels.now e
  seen_around e s = subst (λ (ls : List Level). IsSeen scene ls e) h.levels s

  pub seen_inside : (e : ℕ) → IsSeen scene around.levels.now e → IsSeen scene arm.levels.now e
  seen_inside e s = subst (λ (ls : List Level). IsSeen scene ls e) (sym h.levels) s

  pub shows_arm : (current : List (Option ℕ)) (variables : Variables) → ShowsVariables scene around x current variables → ShowsVariables scene arm x current variables
  shows_arm current variables s = record {
    each = λ e j there inside on.
        let within : j < paths_counted around = subst (λ (n : ℕ). j < n) h.long inside in
        shown_same (counter_of scene e) (held_at scene.held.now e) current (held_at scene.held.now e).kind j
        ∙ (s.each e j (seen_around e there) within (on_around j within on) ∙ ap (λ (p : Path). word_of (held_at scene.held.now e).kind (variables e p)) (sym (seen_same e j)));
  }

  pub stands_arm : (reads : StepReads) (b : Building) (e : Effect) → StandsBeside scene around x reads b e → StandsBeside scene arm x reads b e
  stands_arm reads b e s = record {
    knows = s.knows;
    shows = shows_arm b.values.current.items e.variables s.shows;
    tells = s.tells;
    room = λ i j there inside.
        subst (λ (n : ℕ). n < length b.values.current.items) (sym (register_same i j)) (s.room i j (seen_around i there) (subst (λ (n : ℕ). j < n) h.long inside));
    ready = s.ready;
  }
