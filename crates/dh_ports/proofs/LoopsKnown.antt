-- The unrolled loops that are noted by the numbers of loops are those round what stands in each of them.
use Rattle.std.proofs.Common.{◌≡◌, ℕ, suc, ◌+◌, nat_lt, Bool, true, false, if◌then◌else◌, List, [], ◌∷◌, ◌++◌, refl, ap, sym, ◌∙◌}
use Rattle.std.proofs.lemmas.Bool.{eq-eqb, ne_eqb}
use Rattle.dh_tree.specs.declared.trees.counters.Counter.{Counter}
use Rattle.dh_tree.specs.Numbers.{commands_in, commands_inside, commands_in_other, commands_in_groups, commands_in_part, IsNumbered, IsNumberedInside, IsNumberedOther, AreNumberedGroups, AreNumbered}
use Rattle.dh_tree.specs.PlainTrees.{Action, action, ActionForm, lets, lets_memory, views, assigns, stores, reduces, calls, blocks, decides, repeats, counts, MaybeAction, no_action, one_action, Actions, no_actions, action_then, Groups, no_groups, group_then}
use Rattle.dh_meaning.specs.Sites.{loop_of}
use Rattle.dh_events.specs.Rounds.{inside_loop, noted_loop, with_round, rounds_in, form_rounds, other_rounds, groups_rounds, part_rounds}
use Rattle.dh_ports.proofs.StagesKnown.{Within, Outside, first_out, second_out, inside_out, own_out, earlier_out, first_in, second_in, inside_in, own_in, own_later}

-- what is noted of a loop in these loops
abbrev pub LoopKnown : (ℕ → List Counter) → (outer : List Counter) → (id : ℕ) → Counter → Type 0
LoopKnown f outer id c = nat_lt 1 c.factor ≡ true → f id ≡ outer ++ c ∷ []

abbrev mutual
  pub LoopsKnown : (ℕ → List Counter) → (outer : List Counter) → Action → Type 0
  LoopsKnown f outer (action id place form) = FormKnown f outer id form

  pub FormKnown : (ℕ → List Counter) → (outer : List Counter) → ℕ → ActionForm → Type 0
  FormKnown f outer id (lets name declared value) = Unit {0}
  FormKnown f outer id (lets_memory name shape shape_places value) = Unit {0}
  FormKnown f outer id (views name parent form) = Unit {0}
  FormKnown f outer id (assigns target value) = Unit {0}
  FormKnown f outer id (stores target value) = Unit {0}
  FormKnown f outer id (reduces target op value) = Unit {0}
  FormKnown f outer id (calls function arguments) = Unit {0}
  FormKnown f outer id (blocks body) = GroupsKnown f outer body
  FormKnown f outer id (decides test chosen other) = LoopsKnown f outer chosen × OtherKnown f outer other
  FormKnown f outer id (repeats test body) = LoopsKnown f outer body
  FormKnown f outer id (counts iterator declared low high factor body combine combine_place) =
      LoopKnown f outer id (loop_of iterator low high factor)
      × (LoopsKnown f (inside_loop outer (loop_of iterator low high factor)) body × OtherKnown f (inside_loop outer (loop_of iterator low high factor)) combine)

  pub OtherKnown : (ℕ → List Counter) → (outer : List Counter) → MaybeAction → Type 0
  OtherKnown f outer no_action = Unit {0}
  OtherKnown f outer (one_action a) = LoopsKnown f outer a

  pub GroupsKnown : (ℕ → List Counter) → (outer : List Counter) → Groups → Type 0
  GroupsKnown f outer no_groups = Unit {0}
  GroupsKnown f outer (group_then part rest) = PartKnown f outer part × GroupsKnown f outer rest

  pub PartKnown : (ℕ → List Counter) → (outer : List Counter) → Actions → Type 0
  PartKnown f outer no_actions = Unit {0}
  PartKnown f outer (action_then a rest) = LoopsKnown f outer a × PartKnown f outer rest

noted_other : (outer : List Counter) (id : ℕ) (c : Counter) (f : ℕ → List Counter) (i : ℕ) → (id ≡ i → ⊥) → noted_loop outer id c f i ≡ f i
noted_other outer id c f i d = by (nat_lt 1 c.factor)
  where
    by : (b : Bool) → (if b then with_round f id (outer ++ c ∷ []) else f) i ≡ f i
    by true = ap (λ v. if v then outer ++ c ∷ [] else f i) (ne_eqb id i d)
    by false = refl

noted_same : (outer : List Counter) (id : ℕ) (c : Counter) (f : ℕ → List Counter) → nat_lt 1 c.factor ≡ true → noted_loop outer id c f id ≡ outer ++ c ∷ []
noted_same outer id c f e = ap (λ b. (if b then with_round f id (outer ++ c ∷ []) else f) id) e ∙ ap (λ v. if v then outer ++ c ∷ [] else f id) (eq-eqb id id refl)

-- Outside the numbers of a command nothing is noted.

mutual
  keeps : (lo : ℕ) (outer : List Counter) (a : Action) (f : ℕ → List Counter) (i : ℕ) → IsNumbered lo a → Outside lo (commands_in a) i → rounds_in outer a f i ≡ f i
  keeps lo outer (action id place form) f i h out = form_keeps lo outer id form f i h.0 h.1 out

  form_keeps : (lo : ℕ) (outer : List Counter) (id : ℕ) (form : ActionForm) (f : ℕ → List Counter) (i : ℕ) → id ≡ lo → IsNumberedInside (suc lo) form → Outside lo (suc (commands_inside form)) i → form_rounds outer id form f i ≡ f i
  form_keeps lo outer id (lets name declared value) f i e h out = refl
  form_keeps lo outer id (lets_memory name shape shape_places value) f i e h out = refl
  form_keeps lo outer id (views name parent form) f i e h out = refl
  form_keeps lo outer id (assigns target value) f i e h out = refl
  form_keeps lo outer id (stores target value) f i e h out = refl
  form_keeps lo outer id (reduces target op value) f i e h out = refl
  form_keeps lo outer id (calls function arguments) f i e h out = refl
  form_keeps lo outer id (blocks body) f i e h out = groups_keep (suc lo) outer body f i h (inside_out lo (commands_in_groups body) i out)
  form_keeps lo outer id (decides test chosen other) f i e h out =
      let o = inside_out lo (commands_in chosen + commands_in_other other) i out in
      other_keeps (suc lo + commands_in chosen) outer other (rounds_in outer chosen f) i h.1 (second_out (suc lo) (commands_in chosen) (commands_in_other other) i o)
      ∙ keeps (suc lo) outer chosen f i h.0 (first_out (suc lo) (commands_in chosen) (commands_in_other other) i o)
  form_keeps lo outer id (repeats test body) f i e h out = keeps (suc lo) outer body f i h (inside_out lo (commands_in body) i out)
  form_keeps lo outer id (counts iterator declared low high factor body combine combine_place) f i e h out =
      let o = inside_out lo (commands_in body + commands_in_other combine) i out in
      noted_other outer id (loop_of iterator low high factor) _ i (own_out lo (commands_in body + commands_in_other combine) i id e out)
      ∙ (other_keeps (suc lo + commands_in body) (inside_loop outer (loop_of iterator low high factor)) combine (rounds_in (inside_loop outer (loop_of iterator low high factor)) body f) i h.1 (second_out (suc lo) (commands_in body) (commands_in_other combine) i o)
      ∙ keeps (suc lo) (inside_loop outer (loop_of iterator low high factor)) body f i h.0 (first_out (suc lo) (commands_in body) (commands_in_other combine) i o))

  other_keeps : (lo : ℕ) (outer : List Counter) (o : MaybeAction) (f : ℕ → List Counter) (i : ℕ) → IsNumberedOther lo o → Outside lo (commands_in_other o) i → other_rounds outer o f i ≡ f i
  other_keeps lo outer no_action f i h out = refl
  other_keeps lo outer (one_action a) f i h out = keeps lo outer a f i h out

  groups_keep : (lo : ℕ) (outer : List Counter) (body : Groups) (f : ℕ → List Counter) (i : ℕ) → AreNumberedGroups lo body → Outside lo (commands_in_groups body) i → groups_rounds outer body f i ≡ f i
  groups_keep lo outer no_groups f i h out = refl
  groups_keep lo outer (group_then part rest) f i h out =
      groups_keep (lo + commands_in_part part) outer rest (part_rounds outer part f) i h.1 (second_out lo (commands_in_part part) (commands_in_groups rest) i out)
      ∙ part_keeps lo outer part f i h.0 (first_out lo (commands_in_part part) (commands_in_groups rest) i out)

  part_keeps : (lo : ℕ) (outer : List Counter) (part : Actions) (f : ℕ → List Counter) (i : ℕ) → AreNumbered lo part → Outside lo (commands_in_part part) i → part_rounds outer part f i ≡ f i
  part_keeps lo outer no_actions f i h out = refl
  part_keeps lo outer (action_then a rest) f i h out =
      part_keeps (lo + commands_in a) outer rest (rounds_in outer a f) i h.1 (second_out lo (commands_in a) (commands_in_part rest) i out)
      ∙ keeps lo outer a f i h.0 (first_out lo (commands_in a) (commands_in_part rest) i out)

-- Inside them it is.

abbrev pub Agrees : (f g : ℕ → List Counter) → (lo count : ℕ) → Type 0
Agrees f g lo count = (i : ℕ) → Within lo count i → f i ≡ g i

same_inside : (lo : ℕ) (outer : List Counter) (id : ℕ) (c : Counter) (f g : ℕ → List Counter) (all i : ℕ) → id ≡ lo → Agrees g (noted_loop outer id c f) lo (suc all) → Within (suc lo) all i → g i ≡ f i
same_inside lo outer id c f g all i e same w = same i (inside_in lo all i w) ∙ noted_other outer id c f i (own_later lo all i id e w)

mutual
  pub loops_known : (lo : ℕ) (outer : List Counter) (a : Action) (f g : ℕ → List Counter) → IsNumbered lo a → Agrees g (rounds_in outer a f) lo (commands_in a) → LoopsKnown g outer a
  loops_known lo outer (action id place form) f g h same = form_known lo outer id form f g h.0 h.1 same

  form_known : (lo : ℕ) (outer : List Counter) (id : ℕ) (form : ActionForm) (f g : ℕ → List Counter) → id ≡ lo → IsNumberedInside (suc lo) form → Agrees g (form_rounds outer id form f) lo (suc (commands_inside form)) → FormKnown g outer id form
  form_known lo outer id (lets name declared value) f g e h same = tt
  form_known lo outer id (lets_memory name shape shape_places value) f g e h same = tt
  form_known lo outer id (views name parent form) f g e h same = tt
  form_known lo outer id (assigns target value) f g e h same = tt
  form_known lo outer id (stores target value) f g e h same = tt
  form_known lo outer id (reduces target op value) f g e h same = tt
  form_known lo outer id (calls function arguments) f g e h same = tt
  form_known lo outer id (blocks body) f g e h same = groups_known (suc lo) outer body f g h (λ i w. same i (inside_in lo (commands_in_groups body) i w))
  form_known lo outer id (decides test chosen other) f g e h same = (
    loops_known (suc lo) outer chosen f g h.0 (λ i w. same i (inside_in lo (commands_in chosen + commands_in_other other) i (first_in (suc lo) (commands_in chosen) (commands_in_other other) i w)) ∙ other_keeps (suc lo + commands_in chosen) outer other (rounds_in outer chosen f) i h.1 (earlier_out (suc lo) (commands_in chosen) (commands_in_other other) i w)),
    other_known (suc lo + commands_in chosen) outer other (rounds_in outer chosen f) g h.1 (λ i w. same i (inside_in lo (commands_in chosen + commands_in_other other) i (second_in (suc lo) (commands_in chosen) (commands_in_other other) i w))),
  )
  form_known lo outer id (repeats test body) f g e h same = loops_known (suc lo) outer body f g h (λ i w. same i (inside_in lo (commands_in body) i w))
  form_known lo outer id (counts iterator declared low high factor body combine combine_place) f g e h same = (
    (λ many. ap g e ∙ (same lo (own_in lo (commands_in body + commands_in_other combine)) ∙ (ap (noted_loop outer id (loop_of iterator low high factor) (other_rounds (inside_loop outer (loop_of iterator low high factor)) combine (rounds_in (inside_loop outer (loop_of iterator low high factor)) body f))) (sym e)
        ∙ noted_same outer id (loop_of iterator low high factor) (other_rounds (inside_loop outer (loop_of iterator low high factor)) combine (rounds_in (inside_loop outer (loop_of iterator low high factor)) body f)) many))),
    (
      loops_known (suc lo) (inside_loop outer (loop_of iterator low high factor)) body f g h.0
          (λ i w. same_inside lo outer id (loop_of iterator low high factor) (other_rounds (inside_loop outer (loop_of iterator low high factor)) combine (rounds_in (inside_loop outer (loop_of iterator low high factor)) body f)) g (commands_in body + commands_in_other combine) i e same (first_in (suc lo) (commands_in body) (commands_in_other combine) i w)
          ∙ other_keeps (suc lo + commands_in body) (inside_loop outer (loop_of iterator low high factor)) combine (rounds_in (inside_loop outer (loop_of iterator low high factor)) body f) i h.1 (earlier_out (suc lo) (commands_in body) (commands_in_other combine) i w)),
      other_known (suc lo + commands_in body) (inside_loop outer (loop_of iterator low high factor)) combine (rounds_in (inside_loop outer (loop_of iterator low high factor)) body f) g h.1
          (λ i w. same_inside lo outer id (loop_of iterator low high factor) (other_rounds (inside_loop outer (loop_of iterator low high factor)) combine (rounds_in (inside_loop outer (loop_of iterator low high factor)) body f)) g (commands_in body + commands_in_other combine) i e same (second_in (suc lo) (commands_in body) (commands_in_other combine) i w)),
    ),
  )

  other_known : (lo : ℕ) (outer : List Counter) (o : MaybeAction) (f g : ℕ → List Counter) → IsNumberedOther lo o → Agrees g (other_rounds outer o f) lo (commands_in_other o) → OtherKnown g outer o
  other_known lo outer no_action f g h same = tt
  other_known lo outer (one_action a) f g h same = loops_known lo outer a f g h same

  groups_known : (lo : ℕ) (outer : List Counter) (body : Groups) (f g : ℕ → List Counter) → AreNumberedGroups lo body → Agrees g (groups_rounds outer body f) lo (commands_in_groups body) → GroupsKnown g outer body
  groups_known lo outer no_groups f g h same = tt
  groups_known lo outer (group_then part rest) f g h same = (
    part_known lo outer part f g h.0 (λ i w. same i (first_in lo (commands_in_part part) (commands_in_groups rest) i w) ∙ groups_keep (lo + commands_in_part part) outer rest (part_rounds outer part f) i h.1 (earlier_out lo (commands_in_part part) (commands_in_groups rest) i w)),
    groups_known (lo + commands_in_part part) outer rest (part_rounds outer part f) g h.1 (λ i w. same i (second_in lo (commands_in_part part) (commands_in_groups rest) i w)),
  )

  part_known : (lo : ℕ) (outer : List Counter) (part : Actions) (f g : ℕ → List Counter) → AreNumbered lo part → Agrees g (part_rounds outer part f) lo (commands_in_part part) → PartKnown g outer part
  part_known lo outer no_actions f g h same = tt
  part_known lo outer (action_then a rest) f g h same = (
    loops_known lo outer a f g h.0 (λ i w. same i (first_in lo (commands_in a) (commands_in_part rest) i w) ∙ part_keeps (lo + commands_in a) outer rest (rounds_in outer a f) i h.1 (earlier_out lo (commands_in a) (commands_in_part rest) i w)),
    part_known (lo + commands_in a) outer rest (rounds_in outer a f) g h.1 (λ i w. same i (second_in lo (commands_in a) (commands_in_part rest) i w)),
  )
