-- What a walk noted by the numbers of commands is what it notes of each of them.
use Rattle.std.proofs.Common.{◌≡◌, ℕ, suc, ◌+◌, ◌≤◌, ◌<◌, if◌then◌else◌, ◌⊎◌, inl, inr, refl, ap, sym, ◌∙◌, arith}
use Rattle.std.proofs.lemmas.Bool.{eq-eqb, ne_eqb}
use Rattle.dh_tree.specs.Numbers.{commands_in, commands_inside, commands_in_other, commands_in_groups, commands_in_part, IsNumbered, IsNumberedInside, IsNumberedOther, AreNumberedGroups, AreNumbered}
use Rattle.dh_tree.specs.PlainTrees.{Action, action, ActionForm, lets, lets_memory, views, assigns, stores, reduces, calls, blocks, decides, repeats, counts, MaybeAction, no_action, one_action, Actions, no_actions, action_then, Groups, no_groups, group_then}
use Rattle.dh_events.specs.Stages.{stages_in, form_stages, other_stages, groups_stages, part_stages}
use Rattle.dh_tree.specs.PhaseKinds.{form_phase_kind}
use Rattle.dh_events.specs.Tables.{with_number}

-- a number stands in a range
abbrev pub Within : (lo count i : ℕ) → Type 0
Within lo count i = (lo ≤ i) × (i < lo + count)

-- and in none
abbrev pub Outside : (lo count i : ℕ) → Type 0
Outside lo count i = (i < lo) ⊎ (lo + count ≤ i)

-- a function tells of each command its phases
abbrev mutual
  pub Known : (ℕ → ℕ) → Action → Type 0
  Known f (action id place form) = (f id ≡ form_phase_kind form) × KnownInside f form

  pub KnownInside : (ℕ → ℕ) → ActionForm → Type 0
  KnownInside f (lets name declared value) = Unit {0}
  KnownInside f (lets_memory name shape shape_places value) = Unit {0}
  KnownInside f (views name parent form) = Unit {0}
  KnownInside f (assigns target value) = Unit {0}
  KnownInside f (stores target value) = Unit {0}
  KnownInside f (reduces target op value) = Unit {0}
  KnownInside f (calls function arguments) = Unit {0}
  KnownInside f (blocks body) = KnownGroups f body
  KnownInside f (decides test chosen other) = Known f chosen × KnownOther f other
  KnownInside f (repeats test body) = Known f body
  KnownInside f (counts iterator declared low high factor body combine combine_place) = Known f body × KnownOther f combine

  pub KnownOther : (ℕ → ℕ) → MaybeAction → Type 0
  KnownOther f no_action = Unit {0}
  KnownOther f (one_action a) = Known f a

  pub KnownGroups : (ℕ → ℕ) → Groups → Type 0
  KnownGroups f no_groups = Unit {0}
  KnownGroups f (group_then part rest) = KnownPart f part × KnownGroups f rest

  pub KnownPart : (ℕ → ℕ) → Actions → Type 0
  KnownPart f no_actions = Unit {0}
  KnownPart f (action_then a rest) = Known f a × KnownPart f rest

set_other : (f : ℕ → ℕ) (place n i : ℕ) → (place ≡ i → ⊥) → with_number f place n i ≡ f i
set_other f place n i d = ap (λ b. if b then n else f i) (ne_eqb place i d)

set_same : (f : ℕ → ℕ) (place n : ℕ) → with_number f place n place ≡ n
set_same f place n = ap (λ b. if b then n else f place) (eq-eqb place place refl)

-- Outside the numbers of a command nothing is noted.

pub inside_out : (lo n i : ℕ) → Outside lo (suc n) i → Outside (suc lo) n i
inside_out lo n i (inl e) = inl (omega (arith, e))
inside_out lo n i (inr e) = inr (omega (arith, e))

pub own_out : (lo n i id : ℕ) → id ≡ lo → Outside lo (suc n) i → id ≡ i → ⊥
own_out lo n i id e (inl x) f = omega (arith, e, x, f)
own_out lo n i id e (inr x) f = omega (arith, e, x, f)

pub first_out : (lo m n i : ℕ) → Outside lo (m + n) i → Outside lo m i
first_out lo m n i (inl e) = inl e
first_out lo m n i (inr e) = inr (omega (arith, e))

pub second_out : (lo m n i : ℕ) → Outside lo (m + n) i → Outside (lo + m) n i
second_out lo m n i (inl e) = inl (omega (arith, e))
second_out lo m n i (inr e) = inr (omega (arith, e))

mutual
  keeps : (lo : ℕ) (a : Action) (f : ℕ → ℕ) (i : ℕ) → IsNumbered lo a → Outside lo (commands_in a) i → stages_in a f i ≡ f i
  keeps lo (action id place form) f i h out =
      set_other (form_stages form f) id (form_phase_kind form) i (own_out lo (commands_inside form) i id h.0 out) ∙ form_keeps (suc lo) form f i h.1 (inside_out lo (commands_inside form) i out)

  form_keeps : (lo : ℕ) (form : ActionForm) (f : ℕ → ℕ) (i : ℕ) → IsNumberedInside lo form → Outside lo (commands_inside form) i → form_stages form f i ≡ f i
  form_keeps lo (lets name declared value) f i h out = refl
  form_keeps lo (lets_memory name shape shape_places value) f i h out = refl
  form_keeps lo (views name parent form) f i h out = refl
  form_keeps lo (assigns target value) f i h out = refl
  form_keeps lo (stores target value) f i h out = refl
  form_keeps lo (reduces target op value) f i h out = refl
  form_keeps lo (calls function arguments) f i h out = refl
  form_keeps lo (blocks body) f i h out = groups_keep lo body f i h out
  form_keeps lo (decides test chosen other) f i h out =
      other_keeps (lo + commands_in chosen) other (stages_in chosen f) i h.1 (second_out lo (commands_in chosen) (commands_in_other other) i out)
      ∙ keeps lo chosen f i h.0 (first_out lo (commands_in chosen) (commands_in_other other) i out)
  form_keeps lo (repeats test body) f i h out = keeps lo body f i h out
  form_keeps lo (counts iterator declared low high factor body combine combine_place) f i h out =
      other_keeps (lo + commands_in body) combine (stages_in body f) i h.1 (second_out lo (commands_in body) (commands_in_other combine) i out)
      ∙ keeps lo body f i h.0 (first_out lo (commands_in body) (commands_in_other combine) i out)

  other_keeps : (lo : ℕ) (o : MaybeAction) (f : ℕ → ℕ) (i : ℕ) → IsNumberedOther lo o → Outside lo (commands_in_other o) i → other_stages o f i ≡ f i
  other_keeps lo no_action f i h out = refl
  other_keeps lo (one_action a) f i h out = keeps lo a f i h out

  groups_keep : (lo : ℕ) (body : Groups) (f : ℕ → ℕ) (i : ℕ) → AreNumberedGroups lo body → Outside lo (commands_in_groups body) i → groups_stages body f i ≡ f i
  groups_keep lo no_groups f i h out = refl
  groups_keep lo (group_then part rest) f i h out =
      groups_keep (lo + commands_in_part part) rest (part_stages part f) i h.1 (second_out lo (commands_in_part part) (commands_in_groups rest) i out)
      ∙ part_keeps lo part f i h.0 (first_out lo (commands_in_part part) (commands_in_groups rest) i out)

  part_keeps : (lo : ℕ) (part : Actions) (f : ℕ → ℕ) (i : ℕ) → AreNumbered lo part → Outside lo (commands_in_part part) i → part_stages part f i ≡ f i
  part_keeps lo no_actions f i h out = refl
  part_keeps lo (action_then a rest) f i h out =
      part_keeps (lo + commands_in a) rest (stages_in a f) i h.1 (second_out lo (commands_in a) (commands_in_part rest) i out)
      ∙ keeps lo a f i h.0 (first_out lo (commands_in a) (commands_in_part rest) i out)

-- Inside them it is.

-- one function tells in a range what another does
abbrev pub Agrees : (f g : ℕ → ℕ) → (lo count : ℕ) → Type 0
Agrees f g lo count = (i : ℕ) → Within lo count i → f i ≡ g i

pub earlier_out : (lo m n i : ℕ) → Within lo m i → Outside (lo + m) n i
earlier_out lo m n i w = inl w.1

pub first_in : (lo m n i : ℕ) → Within lo m i → Within lo (m + n) i
first_in lo m n i w = let x = w.0 in let y = w.1 in (omega (arith, x), omega (arith, y))

pub second_in : (lo m n i : ℕ) → Within (lo + m) n i → Within lo (m + n) i
second_in lo m n i w = let x = w.0 in let y = w.1 in (omega (arith, x), omega (arith, y))

pub inside_in : (lo n i : ℕ) → Within (suc lo) n i → Within lo (suc n) i
inside_in lo n i w = let x = w.0 in let y = w.1 in (omega (arith, x), omega (arith, y))

pub own_in : (lo n : ℕ) → Within lo (suc n) lo
own_in lo n = (omega arith, omega arith)

pub own_later : (lo n i id : ℕ) → id ≡ lo → Within (suc lo) n i → id ≡ i → ⊥
own_later lo n i id e w f = let x = w.0 in omega (arith, e, f, x)

mutual
  pub known : (lo : ℕ) (a : Action) (f g : ℕ → ℕ) → IsNumbered lo a → Agrees g (stages_in a f) lo (commands_in a) → Known g a
  known lo (action id place form) f g h same = (
    ap g h.0 ∙ (same lo (own_in lo (commands_inside form)) ∙ (ap (λ n. with_number (form_stages form f) id (form_phase_kind form) n) (sym h.0) ∙ set_same (form_stages form f) id (form_phase_kind form))),
    form_known (suc lo) form f g h.1 (λ i w. same i (inside_in lo (commands_inside form) i w) ∙ set_other (form_stages form f) id (form_phase_kind form) i (own_later lo (commands_inside form) i id h.0 w)),
  )

  form_known : (lo : ℕ) (form : ActionForm) (f g : ℕ → ℕ) → IsNumberedInside lo form → Agrees g (form_stages form f) lo (commands_inside form) → KnownInside g form
  form_known lo (lets name declared value) f g h same = tt
  form_known lo (lets_memory name shape shape_places value) f g h same = tt
  form_known lo (views name parent form) f g h same = tt
  form_known lo (assigns target value) f g h same = tt
  form_known lo (stores target value) f g h same = tt
  form_known lo (reduces target op value) f g h same = tt
  form_known lo (calls function arguments) f g h same = tt
  form_known lo (blocks body) f g h same = groups_known lo body f g h same
  form_known lo (decides test chosen other) f g h same = (
    known lo chosen f g h.0 (λ i w. same i (first_in lo (commands_in chosen) (commands_in_other other) i w) ∙ other_keeps (lo + commands_in chosen) other (stages_in chosen f) i h.1 (earlier_out lo (commands_in chosen) (commands_in_other other) i w)),
    other_known (lo + commands_in chosen) other (stages_in chosen f) g h.1 (λ i w. same i (second_in lo (commands_in chosen) (commands_in_other other) i w)),
  )
  form_known lo (repeats test body) f g h same = known lo body f g h same
  form_known lo (counts iterator declared low high factor body combine combine_place) f g h same = (
    known lo body f g h.0 (λ i w. same i (first_in lo (commands_in body) (commands_in_other combine) i w) ∙ other_keeps (lo + commands_in body) combine (stages_in body f) i h.1 (earlier_out lo (commands_in body) (commands_in_other combine) i w)),
    other_known (lo + commands_in body) combine (stages_in body f) g h.1 (λ i w. same i (second_in lo (commands_in body) (commands_in_other combine) i w)),
  )

  other_known : (lo : ℕ) (o : MaybeAction) (f g : ℕ → ℕ) → IsNumberedOther lo o → Agrees g (other_stages o f) lo (commands_in_other o) → KnownOther g o
  other_known lo no_action f g h same = tt
  other_known lo (one_action a) f g h same = known lo a f g h same

  groups_known : (lo : ℕ) (body : Groups) (f g : ℕ → ℕ) → AreNumberedGroups lo body → Agrees g (groups_stages body f) lo (commands_in_groups body) → KnownGroups g body
  groups_known lo no_groups f g h same = tt
  groups_known lo (group_then part rest) f g h same = (
    part_known lo part f g h.0 (λ i w. same i (first_in lo (commands_in_part part) (commands_in_groups rest) i w) ∙ groups_keep (lo + commands_in_part part) rest (part_stages part f) i h.1 (earlier_out lo (commands_in_part part) (commands_in_groups rest) i w)),
    groups_known (lo + commands_in_part part) rest (part_stages part f) g h.1 (λ i w. same i (second_in lo (commands_in_part part) (commands_in_groups rest) i w)),
  )

  part_known : (lo : ℕ) (part : Actions) (f g : ℕ → ℕ) → AreNumbered lo part → Agrees g (part_stages part f) lo (commands_in_part part) → KnownPart g part
  part_known lo no_actions f g h same = tt
  part_known lo (action_then a rest) f g h same = (
    known lo a f g h.0 (λ i w. same i (first_in lo (commands_in a) (commands_in_part rest) i w) ∙ part_keeps (lo + commands_in a) rest (stages_in a f) i h.1 (earlier_out lo (commands_in a) (commands_in_part rest) i w)),
    part_known (lo + commands_in a) rest (stages_in a f) g h.1 (λ i w. same i (second_in lo (commands_in a) (commands_in_part rest) i w)),
  )
