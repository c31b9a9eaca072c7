-- An access stands in one arm of each `if` only: the arms round it are of different commands. By induction over the
-- command: an arm that is entered is of a command with a number above those of all arms round it.
use Rattle.std.proofs.Common.{◌≡◌, ℕ, zero, suc, ◌+◌, ◌<◌, ◌⊎◌, inl, inr, nat_lt, Bool, true, false, if◌then◌else◌, List, [], ◌∷◌, ◌++◌, Some, slice_get, refl, sym, ◌∙◌, ap, subst, arith}
use Rattle.std.proofs.lemmas.List.{append-nil}
use Rattle.dh_tree.specs.declared.trees.counters.Counter.{Counter}
use Rattle.dh_tree.specs.Numbers.{commands_in, commands_in_part, IsNumbered, IsNumberedInside, IsNumberedOther, AreNumberedGroups, AreNumbered}
use Rattle.dh_tree.specs.PlainTrees.{Action, action, ActionForm, lets, lets_memory, views, assigns, stores, reduces, calls, blocks, decides, repeats, counts, MaybeAction, no_action, one_action, Actions, no_actions, action_then, Groups, no_groups, group_then, Program}
use Rattle.dh_meaning.specs.Sites.{Arm, Around, nothing_around, in_arm, in_loop, loop_of}
use Rattle.dh_meets.specs.SourceEvents.{SourceAccess, SourceEvent, accesses, assigned, accesses_in, site_of, source_term_events, maybe_events, write_events, events, command_events, other_events, groups_events, part_events, trace}
use Rattle.dh_sound.specs.OneArm.{HasOneOfEach}
use Rattle.dh_sound.specs.PhaseFacts.{HasArm, arm_of}
use Rattle.dh_sound.proofs.Sites.{each_both, each_so, StandsWithin, term_stands, maybe_stands, write_stands}
use Rattle.dh_sound.proofs.Trails.{below_up}
use Rattle.dh_sound.specs.Trails.{EachAccess, ArmsWithin, Below}
use Rattle.dh_tree.specs.Seen.{terms}
use Rattle.dh_tree.specs.ViewOffsets.{offsets_of}
use Rattle.dh_meets.specs.SourceEvents.{source_terms_events}
use Rattle.dh_sound.proofs.Sites.{terms_stand}

abbrev Once : SourceAccess → Type 0
Once a = HasOneOfEach a.site.arms

has_below : (m command : ℕ) (side : Bool) (arms : List Arm) → Below m arms → HasArm (arm_of command side) arms → command < m
has_below m command side [] w h = elim h [ ]
has_below m command side (x ∷ arms) w (inl e) = let same : command ≡ x.command = ap (λ (a : Arm). a.command) e in let u = w.0.1 in omega (arith, same, u)
has_below m command side (x ∷ arms) w (inr h) = has_below m command side arms w.1 h

has_or : (arm last : Arm) (xs : List Arm) → HasArm arm (xs ++ last ∷ []) → HasArm arm xs ⊎ (arm ≡ last)
has_or arm last [] (inl e) = inr e
has_or arm last [] (inr h) = elim h [ ]
has_or arm last (x ∷ xs) (inl e) = inl (inl e)
has_or arm last (x ∷ xs) (inr h) = elim (has_or arm last xs h) [ inl g ↦ inl (inr g) | inr e ↦ inr e ]

below_in : (m : ℕ) (side : Bool) (xs : List Arm) → Below m xs → Below (suc m) (xs ++ arm_of m side ∷ [])
below_in m side [] w = ((omega arith, omega arith), tt)
below_in m side (x ∷ xs) w = let u = w.0.1 in ((omega arith, omega (arith, u)), below_in m side xs w.1)

-- one more arm, of a command above
once_in : (m : ℕ) (side : Bool) (xs : List Arm) → Below m xs → HasOneOfEach xs → HasOneOfEach (xs ++ arm_of m side ∷ [])
once_in m side xs w o = record { single = λ command h g. by command (has_or (arm_of command true) (arm_of m side) xs h) (has_or (arm_of command false) (arm_of m side) xs g) }
  where
    low : (command : ℕ) (one : Bool) → HasArm (arm_of command one) xs → (other : Bool) → arm_of command other ≡ arm_of m side → ⊥
    low command one h other e = let same : command ≡ m = ap (λ (a : Arm). a.command) e in let l = has_below m command one xs w h in omega (arith, same, l)

    by : (command : ℕ) → HasArm (arm_of command true) xs ⊎ (arm_of command true ≡ arm_of m side) → HasArm (arm_of command false) xs ⊎ (arm_of command false ≡ arm_of m side) → ⊥
    by command (inl h) (inl g) = o.single command h g
    by command (inl h) (inr e) = low command true h false e
    by command (inr e) (inl g) = low command false g true e
    by command (inr e) (inr d) = let t : true ≡ side = ap (λ (a : Arm). a.first) e in let u : false ≡ side = ap (λ (a : Arm). a.first) d in cc

-- accesses of the command itself
no_further : (arms : List Arm) → ArmsWithin 0 0 arms → arms ≡ []
no_further [] w = refl
no_further (x ∷ arms) w = let u = w.0.1 in let none : ⊥ = omega (arith, u) in elim none [ ]

own_once : (r : Around) (es : List SourceEvent) → HasOneOfEach r.arms → EachAccess (StandsWithin r 0 0) es → EachAccess Once es
own_once r es o each =
    each_so _ _ es (λ a s. subst (λ (l : List Arm). HasOneOfEach l) (sym (s.arms_are ∙ (ap (λ l. r.arms ++ l) (no_further s.arms s.within) ∙ append-nil r.arms))) o) each

loop_arms : (r : Around) (c : Counter) → (in_loop r c).arms ≡ r.arms
loop_arms r c = by (nat_lt 1 c.factor)
  where
    by : (t : Bool) → (if t then record { arms = r.arms; loops = r.loops ++ c ∷ [] } else r).arms ≡ r.arms
    by true = refl
    by false = refl

mutual
  pub action_once : (r : Around) (m : ℕ) (a : Action) → IsNumbered m a → Below m r.arms → HasOneOfEach r.arms → EachAccess Once (events r a)
  action_once r m (action id place x) h w o = subst (λ (l : ℕ). EachAccess Once (command_events r (site_of r l) x)) (sym h.0) (form_once r m x h.1 w o)

  form_once : (r : Around) (m : ℕ) (x : ActionForm) → IsNumberedInside (suc m) x → Below m r.arms → HasOneOfEach r.arms → EachAccess Once (command_events r (site_of r m) x)
  form_once r m (lets name declared value) h w o = own_once r (maybe_events (site_of r m) value ++ assigned name.entity ∷ []) o (each_both _ (maybe_events (site_of r m) value) (assigned name.entity ∷ []) (maybe_stands r m 0 0 value) tt)
  form_once r m (assigns target value) h w o = own_once r (source_term_events (site_of r m) value ++ assigned target.entity ∷ []) o (each_both _ (source_term_events (site_of r m) value) (assigned target.entity ∷ []) (term_stands r m 0 0 value) tt)
  form_once r m (stores target value) h w o = own_once r (source_term_events (site_of r m) value ++ write_events (site_of r m) target) o (each_both _ (source_term_events (site_of r m) value) (write_events (site_of r m) target) (term_stands r m 0 0 value) (write_stands r m 0 0 target))
  form_once r m (reduces target op value) h w o = own_once r (source_term_events (site_of r m) value ++ assigned target.entity ∷ []) o (each_both _ (source_term_events (site_of r m) value) (assigned target.entity ∷ []) (term_stands r m 0 0 value) tt)
  form_once r m (lets_memory name shape shape_places value) h w o = tt
  form_once r m (views name parent form) h w o = own_once r (source_terms_events (site_of r m) (terms (offsets_of form))) o (terms_stand r m 0 0 (terms (offsets_of form)))
  form_once r m (calls function arguments) h w o = tt
  form_once r m (blocks body) h w o = groups_once r (suc m) body h (below_up m (suc m) r.arms (omega arith) w) o
  form_once r m (decides test chosen other) h w o =
      each_both _ (source_term_events (site_of r m) test) _ (own_once r (source_term_events (site_of r m) test) o (term_stands r m 0 0 test))
      (each_both _ (events (in_arm r m true) chosen) _
      (action_once (in_arm r m true) (suc m) chosen h.0 (below_in m true r.arms w) (once_in m true r.arms w o))
      (other_once (in_arm r m false) (suc m + commands_in chosen) other h.1 (below_up (suc m) (suc m + commands_in chosen) (in_arm r m false).arms (omega arith) (below_in m false r.arms w)) (once_in m false r.arms w o)))
  form_once r m (repeats test body) h w o =
      each_both _ (source_term_events (site_of r m) test) _ (own_once r (source_term_events (site_of r m) test) o (term_stands r m 0 0 test)) (action_once r (suc m) body h (below_up m (suc m) r.arms (omega arith) w) o)
  form_once r m (counts iterator declared low high factor body combine combine_place) h w o =
      let c = loop_of iterator low high factor in
      let e = sym (loop_arms r c) in
      let o2 = subst (λ (l : List Arm). HasOneOfEach l) e o in
      each_both _ (events (in_loop r c) body) _
      (action_once (in_loop r c) (suc m) body h.0 (subst (λ (l : List Arm). Below (suc m) l) e (below_up m (suc m) r.arms (omega arith) w)) o2)
      (other_once (in_loop r c) (suc m + commands_in body) combine h.1 (subst (λ (l : List Arm). Below (suc m + commands_in body) l) e (below_up m (suc m + commands_in body) r.arms (omega arith) w)) o2)

  other_once : (r : Around) (m : ℕ) (x : MaybeAction) → IsNumberedOther m x → Below m r.arms → HasOneOfEach r.arms → EachAccess Once (other_events r x)
  other_once r m no_action h w o = tt
  other_once r m (one_action a) h w o = action_once r m a h w o

  groups_once : (r : Around) (m : ℕ) (gs : Groups) → AreNumberedGroups m gs → Below m r.arms → HasOneOfEach r.arms → EachAccess Once (groups_events r gs)
  groups_once r m no_groups h w o = tt
  groups_once r m (group_then part more) h w o =
      each_both _ (part_events r part) _ (part_once r m part h.0 w o) (groups_once r (m + commands_in_part part) more h.1 (below_up m (m + commands_in_part part) r.arms (omega arith) w) o)

  part_once : (r : Around) (m : ℕ) (q : Actions) → AreNumbered m q → Below m r.arms → HasOneOfEach r.arms → EachAccess Once (part_events r q)
  part_once r m no_actions h w o = tt
  part_once r m (action_then a more) h w o =
      each_both _ (events r a) _ (action_once r m a h.0 w o) (part_once r (m + commands_in a) more h.1 (below_up m (m + commands_in a) r.arms (omega arith) w) o)

each_at : (P : SourceAccess → Type 0) (es : List SourceEvent) (k : ℕ) (a : SourceAccess) → EachAccess P es → slice_get (accesses_in es) k ≡ Some a → P a
each_at P [] k a h e = cc
each_at P (accesses x ∷ es) zero a h e = let same : x ≡ a = cc in subst P same h.0
each_at P (accesses x ∷ es) (suc k) a h e = each_at P es k a h.1 e
each_at P (assigned x ∷ es) k a h e = each_at P es k a h e

pub arms_once : (p : Program) (first : ℕ) → IsNumbered first p.body → (k : ℕ) (a : SourceAccess) → slice_get (accesses_in (trace p)) k ≡ Some a → HasOneOfEach a.site.arms
arms_once p first h k a e = each_at Once (trace p) k a (action_once nothing_around first p.body h tt (record { single = λ command g d. g })) e
