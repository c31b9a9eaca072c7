-- Where each loop has one copy of its body at most none is unrolled, and none is noted.
use Rattle.std.proofs.Common.{◌≡◌, ℕ, ◌≤◌, nat_lt, Bool, false, if◌then◌else◌, List, [], ◌∷◌, ◌++◌, refl, ap, ◌∙◌, arith}
use Rattle.std.proofs.lemmas.Bool.Decides.{nat_tests}
use Rattle.dh_tree.specs.declared.trees.counters.Counter.{Counter}
use Rattle.dh_tree.specs.Counters.{counters, form_counters, other_counters, groups_counters, part_counters, AreSingle}
use Rattle.dh_tree.specs.PlainTrees.{Action, action, ActionForm, lets, lets_memory, views, assigns, stores, reduces, calls, blocks, decides, repeats, counts, MaybeAction, no_action, one_action, Actions, no_actions, action_then, Groups, no_groups, group_then}
use Rattle.dh_tree.proofs.SingleLoops.{single_first, single_rest}
use Rattle.dh_meaning.specs.Sites.{loop_of}
use Rattle.dh_events.specs.Rounds.{with_round, inside_loop, noted_loop, rounds_in, form_rounds, other_rounds, groups_rounds, part_rounds}

not_noted : (outer : List Counter) (id : ℕ) (c : Counter) (f : ℕ → List Counter) → c.factor ≤ 1 → noted_loop outer id c f ≡ f
not_noted outer id c f few =
    let test : nat_lt 1 c.factor ≡ false = grind (arith, nat_tests, few) in
    ap (λ (b : Bool). if b then with_round f id (outer ++ c ∷ []) else f) test

mutual
  pub single_rounds : (outer : List Counter) (a : Action) (f : ℕ → List Counter) → AreSingle (counters a) → rounds_in outer a f ≡ f
  single_rounds outer (action id place form) f h = form_single outer id form f h

  form_single : (outer : List Counter) (id : ℕ) (form : ActionForm) (f : ℕ → List Counter) → AreSingle (form_counters form) → form_rounds outer id form f ≡ f
  form_single outer id (lets name declared value) f h = refl
  form_single outer id (lets_memory name shape shape_places value) f h = refl
  form_single outer id (views name parent form) f h = refl
  form_single outer id (assigns target value) f h = refl
  form_single outer id (stores target value) f h = refl
  form_single outer id (reduces target o value) f h = refl
  form_single outer id (calls function arguments) f h = refl
  form_single outer id (blocks body) f h = groups_single outer body f h
  form_single outer id (decides test chosen other) f h =
      ap (λ (g : ℕ → List Counter). other_rounds outer other g) (single_rounds outer chosen f (single_first (counters chosen) (other_counters other) h))
      ∙ other_single outer other f (single_rest (counters chosen) (other_counters other) h)
  form_single outer id (repeats test body) f h = single_rounds outer body f h
  form_single outer id (counts iterator declared low high factor body combine combine_place) f h =
      let inside : List Counter = inside_loop outer (loop_of iterator low high factor) in
      not_noted outer id (loop_of iterator low high factor) (other_rounds inside combine (rounds_in inside body f)) h.0
      ∙ (ap (λ (g : ℕ → List Counter). other_rounds inside combine g) (single_rounds inside body f (single_first (counters body) (other_counters combine) h.1))
      ∙ other_single inside combine f (single_rest (counters body) (other_counters combine) h.1))

  other_single : (outer : List Counter) (m : MaybeAction) (f : ℕ → List Counter) → AreSingle (other_counters m) → other_rounds outer m f ≡ f
  other_single outer no_action f h = refl
  other_single outer (one_action a) f h = single_rounds outer a f h

  part_single : (outer : List Counter) (p : Actions) (f : ℕ → List Counter) → AreSingle (part_counters p) → part_rounds outer p f ≡ f
  part_single outer no_actions f h = refl
  part_single outer (action_then a rest) f h =
      ap (λ (g : ℕ → List Counter). part_rounds outer rest g) (single_rounds outer a f (single_first (counters a) (part_counters rest) h))
      ∙ part_single outer rest f (single_rest (counters a) (part_counters rest) h)

  groups_single : (outer : List Counter) (g : Groups) (f : ℕ → List Counter) → AreSingle (groups_counters g) → groups_rounds outer g f ≡ f
  groups_single outer no_groups f h = refl
  groups_single outer (group_then part rest) f h =
      ap (λ (k : ℕ → List Counter). groups_rounds outer rest k) (part_single outer part f (single_first (part_counters part) (groups_counters rest) h))
      ∙ groups_single outer rest f (single_rest (part_counters part) (groups_counters rest) h)
