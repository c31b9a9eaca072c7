-- Which unrolled loops stand round what, by the number of the innermost one.
use Rattle.std.specs.Prelude.{◌≡◌, ℕ, ◌==◌, if◌then◌else◌, nat_lt, List, [], ◌∷◌, ◌++◌, Some, Vec}
use Rattle.std.specs.Global.{Global}
use Rattle.dh_tree.specs.declared.trees.counters.Counter.{Counter}
use Rattle.dh_tree.specs.declared.trees.commands.LoopHeader.{LoopHeader}
use Rattle.dh_tree.specs.Seen.{low_seen, high_seen, unroll_seen}
use Rattle.dh_tree.specs.PlainTrees.{Action, action, ActionForm, lets, lets_memory, views, assigns, stores, reduces, calls, blocks, decides, repeats, counts, MaybeAction, no_action, one_action, Actions, no_actions, action_then, Groups, no_groups, group_then}
use Rattle.dh_meaning.specs.Sites.{loop_of}
use Rattle.dh_events.specs.Accesses.{loops_listed}

-- the loops round each number
abbrev pub rounds_of : List (Vec Counter Global) → ℕ → List Counter
rounds_of rounds id = loops_listed rounds (Some id)

-- the loops are those that this change makes of the ones before
abbrev pub AreRounds : (old new : Vec (Vec Counter Global) Global) → ((ℕ → List Counter) → ℕ → List Counter) → Type 0
AreRounds old new change = rounds_of new.items ≡ change (rounds_of old.items)

-- those of one number changed
abbrev pub with_round : (ℕ → List Counter) → (place : ℕ) → List Counter → ℕ → List Counter
with_round f place loops n = if place == n then loops else f n

-- the loops inside a loop
abbrev pub inside_loop : List Counter → Counter → List Counter
inside_loop outer c = if nat_lt 1 c.factor then outer ++ c ∷ [] else outer

-- what is noted of an unrolled loop
abbrev pub noted_loop : (outer : List Counter) → (id : ℕ) → Counter → (ℕ → List Counter) → ℕ → List Counter
noted_loop outer id c f = if nat_lt 1 c.factor then with_round f id (outer ++ c ∷ []) else f

-- the loop with a header
abbrev pub header_loop : LoopHeader → Counter
header_loop h = loop_of h.iterator (low_seen h) (high_seen h) (unroll_seen h)

-- of an unrolled loop those round it and itself, of another none
abbrev pub own_loops : (outer : List Counter) → Counter → List Counter
own_loops outer c = if nat_lt 1 c.factor then outer ++ c ∷ [] else []

abbrev mutual
  pub rounds_in : (outer : List Counter) → Action → (ℕ → List Counter) → ℕ → List Counter
  rounds_in outer (action id place form) f = form_rounds outer id form f

  pub form_rounds : (outer : List Counter) → ℕ → ActionForm → (ℕ → List Counter) → ℕ → List Counter
  form_rounds outer id (lets name declared value) f = f
  form_rounds outer id (lets_memory name shape shape_places value) f = f
  form_rounds outer id (views name parent form) f = f
  form_rounds outer id (assigns target value) f = f
  form_rounds outer id (stores target value) f = f
  form_rounds outer id (reduces target op value) f = f
  form_rounds outer id (calls function arguments) f = f
  form_rounds outer id (blocks body) f = groups_rounds outer body f
  form_rounds outer id (decides test chosen other) f = other_rounds outer other (rounds_in outer chosen f)
  form_rounds outer id (repeats test body) f = rounds_in outer body f
  form_rounds outer id (counts iterator declared low high factor body combine combine_place) f =
      noted_loop outer id (loop_of iterator low high factor)
      (other_rounds (inside_loop outer (loop_of iterator low high factor)) combine (rounds_in (inside_loop outer (loop_of iterator low high factor)) body f))

  pub other_rounds : (outer : List Counter) → MaybeAction → (ℕ → List Counter) → ℕ → List Counter
  other_rounds outer no_action f = f
  other_rounds outer (one_action a) f = rounds_in outer a f

  pub groups_rounds : (outer : List Counter) → Groups → (ℕ → List Counter) → ℕ → List Counter
  groups_rounds outer no_groups f = f
  groups_rounds outer (group_then part rest) f = groups_rounds outer rest (part_rounds outer part f)

  pub part_rounds : (outer : List Counter) → Actions → (ℕ → List Counter) → ℕ → List Counter
  part_rounds outer no_actions f = f
  part_rounds outer (action_then a rest) f = part_rounds outer rest (rounds_in outer a f)
