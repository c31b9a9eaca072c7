-- At one path the commands of a Straight phase never make accesses in both arms of one `if`. Take the number of the
-- `if`. Of its two sides one is never met: no access that is made stands in the arm of this side. By induction over
-- the command. Where the `if` is not inside a part, no access of the part stands in its arms, for the arms inside a
-- part are of commands of the part; so of parts that follow one another only one counts. At the `if` itself only
-- the arm that the test chooses is made, and all of it stands in its own side. The commands of a phase have numbers
-- that ascend, so again only one of them counts. An `if` round all of them is round each of their accesses, and
-- an access stands in one arm of each `if` only.
use Rattle.std.proofs.Common.{◌≡◌, ℕ, zero, suc, ◌+◌, ◌<◌, ◌≤◌, ◌⊎◌, inl, inr, Bool, true, false, if◌then◌else◌, List, [], ◌∷◌, ◌++◌, Option, Some, None, slice_get, refl, sym, ◌∙◌, ap, subst, arith}
use Rattle.std.proofs.lemmas.List.{append_assoc}
use Rattle.std.proofs.lemmas.Bool.{cases_lt}
use Rattle.dh_tree.specs.Numbers.{commands_in, commands_in_other, commands_in_groups, commands_in_part, IsNumbered, IsNumberedInside, IsNumberedOther, AreNumberedGroups, AreNumbered}
use Rattle.dh_tree.specs.PlainTrees.{Program, Action, action, ActionForm, lets, lets_memory, views, assigns, stores, reduces, calls, blocks, decides, repeats, counts, MaybeAction, no_action, one_action, Actions, no_actions, action_then, Groups, no_groups, group_then}
use Rattle.dh_meaning.specs.AccessNumbers.{term_accesses, own_accesses, accesses_of, inner_accesses, other_accesses, groups_accesses, part_accesses}
use Rattle.dh_meaning.specs.Core.{CoreCommands, no_commands, command_and}
use Rattle.dh_meaning.specs.CoreOf.{Known, core_term, core_action, core_action_form, core_other, core_part, core_groups, core_commands}
use Rattle.dh_meaning.specs.Effects.{Begun, Variables, Event, term_events, holds_at}
use Rattle.dh_meaning.specs.OnePhase.{in_one_phase}
use Rattle.dh_meaning.specs.Paths.{Path}
use Rattle.dh_meaning.specs.Phases.{Located}
use Rattle.dh_meaning.specs.Sites.{Arm, Around, in_arm}
use Rattle.dh_meets.specs.SourceEvents.{SourceAccess, SourceEvent, accesses, assigned, accesses_in, site_of, maybe_events, events, command_events, other_events, groups_events, part_events, trace}
use Rattle.dh_meets.specs.SourceEvents as source
use Rattle.dh_sound.specs.PhaseFacts.{HasArm, arm_of, AreOpposite}
use Rattle.dh_sound.proofs.ArmsOnce.{arms_once}
use Rattle.dh_sound.proofs.EventCounts.{count_in, count_joined, term_counted, events_counted, command_counted, other_counted, groups_counted, part_counted}
use Rattle.dh_sound.proofs.OnePath.{left_by, all_left_by, made_by, all_made_by}
use Rattle.dh_carried.proofs.Pigeons.{Has}
use Rattle.dh_sound.proofs.Sites.{each_both, each_so, StandsWithin, action_stands, other_stands, groups_stand, part_stands, term_stands, maybe_stands, write_stands}
use Rattle.dh_sound.proofs.Ascending.{number_of, Ascends, action_ascends, form_ascends, other_ascends, groups_ascend, part_ascends, term_ascends}
use Rattle.dh_sound.specs.Trails.{EachAccess, ArmsWithin, Below, AllBelow, StandsBehind, of_located, Follows}
use Rattle.dh_tree.specs.Seen.{terms}
use Rattle.dh_tree.specs.ViewOffsets.{offsets_of}
use Rattle.dh_meaning.specs.Ways.{Hidden, hidden_in}
use Rattle.dh_meaning.specs.CoreOf.{kept_by, way_of}
use Rattle.dh_meaning.specs.Core.{CoreTerms, no_terms, term_and}
use Rattle.dh_meaning.specs.CoreOf.{core_terms}
use Rattle.dh_sound.proofs.Sites.{terms_stand}

-- Commands one behind the other.

abbrev behind : CoreCommands → CoreCommands → CoreCommands
behind no_commands rest = rest
behind (command_and c cs) rest = command_and c (behind cs rest)

behind_assoc : (one two three : CoreCommands) → behind one (behind two three) ≡ behind (behind one two) three
behind_assoc no_commands two three = refl
behind_assoc (command_and c cs) two three = ap (λ l. command_and c l) (behind_assoc cs two three)

made_behind : (b : Begun) (path : Path) (cs rest : CoreCommands) (v : Variables) → all_made_by b path (behind cs rest) v ≡ all_made_by b path cs v ++ all_made_by b path rest (all_left_by b path cs v)
made_behind b path no_commands rest v = refl
made_behind b path (command_and c cs) rest v = ap (λ l. made_by b path c v ++ l) (made_behind b path cs rest (left_by b path c v)) ∙ sym (append_assoc (made_by b path c v) (all_made_by b path cs (left_by b path c v)) _)

module _ (known : Known) where
  -- parts in front of what follows
  two_behind : (one : CoreCommands → CoreCommands) (two : CoreCommands → CoreCommands) (rest : CoreCommands) → ((l : CoreCommands) → one l ≡ behind (one no_commands) l) → two rest ≡ behind (two no_commands) rest
      → one (two rest) ≡ behind (one (two no_commands)) rest
  two_behind one two rest f g =
      f (two rest) ∙ (ap (λ l. behind (one no_commands) l) g ∙ (behind_assoc (one no_commands) (two no_commands) rest ∙ ap (λ l. behind l rest) (sym (f (two no_commands)))))

  kept_split : (hs : List Hidden) (ts : CoreTerms) (rest : CoreCommands) → kept_by hs ts rest ≡ behind (kept_by hs ts no_commands) rest
  kept_split hs no_terms rest = refl
  kept_split [] (term_and t ts) rest = refl
  kept_split (h ∷ hs) (term_and t ts) rest = refl

  mutual
    action_behind : (n : ℕ) (a : Action) (rest : CoreCommands) → core_action known n a rest ≡ behind (core_action known n a no_commands) rest
    action_behind n (action id place f) rest = form_behind n f rest

    form_behind : (n : ℕ) (f : ActionForm) (rest : CoreCommands) → core_action_form known n f rest ≡ behind (core_action_form known n f no_commands) rest
    form_behind n (lets name declared value) rest = refl
    form_behind n (lets_memory name shape shape_places value) rest = refl
    form_behind n (views name parent form) rest = kept_split (hidden_in (way_of known name)) (core_terms known n (terms (offsets_of form))) rest
    form_behind n (assigns target value) rest = refl
    form_behind n (stores target value) rest = refl
    form_behind n (reduces target op value) rest = refl
    form_behind n (calls function arguments) rest = refl
    form_behind n (blocks body) rest = groups_behind n body rest
    form_behind n (decides test chosen other) rest = refl
    form_behind n (repeats test body) rest = refl
    form_behind n (counts iterator declared low high factor body combine combine_place) rest = refl

    groups_behind : (n : ℕ) (gs : Groups) (rest : CoreCommands) → core_groups known n gs rest ≡ behind (core_groups known n gs no_commands) rest
    groups_behind n no_groups rest = refl
    groups_behind n (group_then part more) rest =
        two_behind (λ l. core_part known n part l) (λ l. core_groups known (n + part_accesses part) more l) rest (λ l. part_behind n part l) (groups_behind (n + part_accesses part) more rest)

    part_behind : (n : ℕ) (q : Actions) (rest : CoreCommands) → core_part known n q rest ≡ behind (core_part known n q no_commands) rest
    part_behind n no_actions rest = refl
    part_behind n (action_then a more) rest =
        two_behind (λ l. core_action known n a l) (λ l. core_part known (n + accesses_of a) more l) rest (λ l. action_behind n a l) (part_behind (n + accesses_of a) more rest)

-- Arms.

abbrev Lacks : Arm → List Arm → Type 0
Lacks arm arms = HasArm arm arms → ⊥

lacks_joined : (arm : Arm) (xs ys : List Arm) → Lacks arm xs → Lacks arm ys → Lacks arm (xs ++ ys)
lacks_joined arm [] ys f g h = g h
lacks_joined arm (x ∷ xs) ys f g (inl e) = f (inl e)
lacks_joined arm (x ∷ xs) ys f g (inr h) = lacks_joined arm xs ys (λ k. f (inr k)) g h

lacks_outside : (arm : Arm) (low high : ℕ) (arms : List Arm) → (arm.command < low) ⊎ (high ≤ arm.command) → ArmsWithin low high arms → Lacks arm arms
lacks_outside arm low high [] out w h = h
lacks_outside arm low high (x ∷ arms) out w (inl e) = by out
  where
    by : (arm.command < low) ⊎ (high ≤ arm.command) → ⊥
    by (inl l) = let same : arm.command ≡ x.command = ap (λ (a : Arm). a.command) e in let u = w.0.0 in omega (arith, same, l, u)
    by (inr l) = let same : arm.command ≡ x.command = ap (λ (a : Arm). a.command) e in let u = w.0.1 in omega (arith, same, l, u)
lacks_outside arm low high (x ∷ arms) out w (inr h) = lacks_outside arm low high arms out w.1 h

lacks_other : (i m : ℕ) (side : Bool) → (i ≡ m → ⊥) → (first : Bool) → Lacks (arm_of i first) (arm_of m side ∷ [])
lacks_other i m side ne first (inl e) = ne (ap (λ (a : Arm). a.command) e)
lacks_other i m side ne first (inr h) = h

lacks_side : (i m : ℕ) (side first : Bool) → (first ≡ side → ⊥) → Lacks (arm_of i first) (arm_of m side ∷ [])
lacks_side i m side first ne (inl e) = ne (ap (λ (a : Arm). a.first) e)
lacks_side i m side first ne (inr h) = h

-- the accesses among these events have these arms by their numbers, from n on
abbrev pub Told : (ℕ → List Arm) → (n : ℕ) → List SourceEvent → Type 0
Told f n [] = Unit {0}
Told f n (accesses a ∷ es) = (f n ≡ a.site.arms) × Told f (suc n) es
Told f n (assigned e ∷ es) = Told f n es

told_number : (f : ℕ → List Arm) (n m : ℕ) (es : List SourceEvent) → n ≡ m → Told f n es → Told f m es
told_number f n m es e t = subst (λ (l : ℕ). Told f l es) e t

told_first : (f : ℕ → List Arm) (n : ℕ) (es fs : List SourceEvent) → Told f n (es ++ fs) → Told f n es
told_first f n [] fs t = tt
told_first f n (accesses a ∷ es) fs t = (t.0, told_first f (suc n) es fs t.1)
told_first f n (assigned e ∷ es) fs t = told_first f n es fs t

told_then : (f : ℕ → List Arm) (n c : ℕ) (es fs : List SourceEvent) → count_in es ≡ c → Told f n (es ++ fs) → Told f (n + c) fs
told_then f n c [] fs e t = told_number f n (n + c) fs (let z : count_in [] ≡ 0 = refl in omega (arith, e, z)) t
told_then f n zero (accesses a ∷ es) fs e t = let none : ⊥ = omega (arith, e) in elim none [ ]
told_then f n (suc c) (accesses a ∷ es) fs e t = told_number f (suc n + c) (n + suc c) fs (omega arith) (told_then f (suc n) c es fs (omega (arith, e)) t.1)
told_then f n c (assigned x ∷ es) fs e t = told_then f n c es fs e t

told_all : (f : ℕ → List Arm) (n : ℕ) (es : List SourceEvent) → ((k : ℕ) (a : SourceAccess) → slice_get (accesses_in es) k ≡ Some a → f (n + k) ≡ a.site.arms) → Told f n es
told_all f n [] h = tt
told_all f n (accesses a ∷ es) h =
    (subst (λ (l : ℕ). f l ≡ a.site.arms) (zero_more n) (h 0 a refl), told_all f (suc n) es (λ k x e. subst (λ (l : ℕ). f l ≡ x.site.arms) (one_more n k) (h (suc k) x e)))
  where
    zero_more : (n : ℕ) → n + 0 ≡ n
    zero_more n = omega arith

    one_more : (n k : ℕ) → n + suc k ≡ suc n + k
    one_more n k = omega arith
told_all f n (assigned e ∷ es) h = told_all f n es h

-- no number from low on and below high has this arm
abbrev Clear : (ℕ → List Arm) → Arm → (low high : ℕ) → Type 0
Clear f arm low high = (k : ℕ) → low ≤ k → k < high → Lacks arm (f k)

clear_each : (f : ℕ → List Arm) (arm : Arm) (n c : ℕ) (es : List SourceEvent) → count_in es ≡ c → Told f n es → EachAccess (λ a. Lacks arm a.site.arms) es → Clear f arm n (n + c)
clear_each f arm n c [] e t h k l u g = let z : count_in [] ≡ 0 = refl in omega (arith, e, z, l, u)
clear_each f arm n zero (accesses a ∷ es) e t h k l u g = omega (arith, l, u)
clear_each f arm n (suc c) (accesses a ∷ es) e t h k l u g =
    elim (cases_lt n k) [
      | inl more ↦ clear_each f arm (suc n) c es (omega (arith, e)) t.1 h.1 k (omega (arith, more)) (omega (arith, u)) g
      | inr same ↦ h.0 (subst (λ (x : List Arm). HasArm arm x) t.0 (subst (λ (x : ℕ). HasArm arm (f x)) (equal k n l same) g))
    ]
  where
    equal : (k n : ℕ) → n ≤ k → k ≤ n → k ≡ n
    equal k n l s = omega (arith, l, s)
clear_each f arm n c (assigned x ∷ es) e t h k l u g = clear_each f arm n c es e t h k l u g

-- what is made has not this arm
abbrev Kept : (ℕ → List Arm) → Arm → List Event → Type 0
Kept f arm [] = Unit {0}
Kept f arm (ev ∷ es) = Lacks arm (f (number_of ev)) × Kept f arm es

kept_both : (f : ℕ → List Arm) (arm : Arm) (es fs : List Event) → Kept f arm es → Kept f arm fs → Kept f arm (es ++ fs)
kept_both f arm [] fs a b = b
kept_both f arm (ev ∷ es) fs a b = (a.0, kept_both f arm es fs a.1 b)

ascends_low : (low high : ℕ) (es : List Event) → Ascends low es high → low ≤ high
ascends_low low high [] a = a
ascends_low low high (ev ∷ es) a = let l = a.0 in let m = ascends_low (suc (number_of ev)) high es a.1 in omega (arith, l, m)

kept_clear : (f : ℕ → List Arm) (arm : Arm) (low high : ℕ) (es : List Event) → Ascends low es high → Clear f arm low high → Kept f arm es
kept_clear f arm low high [] a c = tt
kept_clear f arm low high (ev ∷ es) a c =
    let l = a.0 in
    (c (number_of ev) l (ascends_low (suc (number_of ev)) high es a.1), kept_clear f arm (suc (number_of ev)) high es a.1 (λ k g u. c k (omega (arith, l, g)) u))

outside_kept : (f : ℕ → List Arm) (r : Around) (low high n c : ℕ) (arm : Arm) (ss : List SourceEvent) (es : List Event) → Lacks arm r.arms → (arm.command < low) ⊎ (high ≤ arm.command)
    → EachAccess (StandsWithin r low high) ss → count_in ss ≡ c → Told f n ss → Ascends n es (n + c) → Kept f arm es
outside_kept f r low high n c arm ss es lacks out each counted t a =
    kept_clear f arm n (n + c) es a
    (clear_each f arm n c ss counted t (each_so _ _ ss (λ x s. subst (λ (l : List Arm). Lacks arm l) (sym s.arms_are) (lacks_joined arm r.arms s.arms lacks (lacks_outside arm low high s.arms out s.within))) each))

module _ (p : Program) (b : Begun) (known : Known) (path : Path) (v0 : Variables) (f : ℕ → List Arm) (i : ℕ) where
  -- the arms are of no side of the `if`
  abbrev Free : List Arm → Type 0
  Free arms = (first : Bool) → Lacks (arm_of i first) arms

  abbrev AllFree : List Event → Type 0
  AllFree es = (first : Bool) → Kept f (arm_of i first) es

  -- one side of the `if` is never met
  abbrev Sided : List Event → Type 0
  Sided es = (first : Bool) × Kept f (arm_of i first) es

  first_sided : (es fs : List Event) → Sided es → AllFree fs → Sided (es ++ fs)
  first_sided es fs (side, k) free = (side, kept_both f (arm_of i side) es fs k (free side))

  then_sided : (es fs : List Event) → AllFree es → Sided fs → Sided (es ++ fs)
  then_sided es fs free (side, k) = (side, kept_both f (arm_of i side) es fs (free side) k)

  no_share : (j k : ℕ) → in_one_phase p j k ≡ true → (λ (l : ℕ). false) k ≡ true → (λ (l : ℕ). false) j ≡ true
  no_share j k e h = h

  form_up : (v : Variables) (n : ℕ) (x : ActionForm) → Ascends n (all_made_by b path (core_action_form known n x no_commands) v) (n + (own_accesses x + inner_accesses x))
  form_up v n x = form_ascends p b known path (λ l. false) no_share v0 (λ l. false) v n (n + (own_accesses x + inner_accesses x)) x no_commands (λ w. omega arith)

  action_up : (v : Variables) (n : ℕ) (a : Action) → Ascends n (all_made_by b path (core_action known n a no_commands) v) (n + accesses_of a)
  action_up v n a = action_ascends p b known path (λ l. false) no_share v0 (λ l. false) v n (n + accesses_of a) a no_commands (λ w. omega arith)

  other_up : (v : Variables) (n : ℕ) (o : MaybeAction) → Ascends n (all_made_by b path (core_other known n o) v) (n + other_accesses o)
  other_up v n o = other_ascends p b known path (λ l. false) no_share v0 (λ l. false) v n o

  part_up : (v : Variables) (n : ℕ) (q : Actions) → Ascends n (all_made_by b path (core_part known n q no_commands) v) (n + part_accesses q)
  part_up v n q = part_ascends p b known path (λ l. false) no_share v0 (λ l. false) v n (n + part_accesses q) q no_commands (λ w. omega arith)

  groups_up : (v : Variables) (n : ℕ) (gs : Groups) → Ascends n (all_made_by b path (core_groups known n gs no_commands) v) (n + groups_accesses gs)
  groups_up v n gs = groups_ascend p b known path (λ l. false) no_share v0 (λ l. false) v n (n + groups_accesses gs) gs no_commands (λ w. omega arith)

  -- where the `if` is not inside
  action_free : (r : Around) (v : Variables) (n m : ℕ) (a : Action) (first : Bool) → IsNumbered m a → Lacks (arm_of i first) r.arms → (i < m) ⊎ (m + commands_in a ≤ i) → Told f n (events r a)
      → Kept f (arm_of i first) (all_made_by b path (core_action known n a no_commands) v)
  action_free r v n m a first h lacks out t = outside_kept f r m (m + commands_in a) n (accesses_of a) (arm_of i first) (events r a) _ lacks out (action_stands r m a h) (events_counted r a) t (action_up v n a)

  other_free : (r : Around) (v : Variables) (n m : ℕ) (o : MaybeAction) (first : Bool) → IsNumberedOther m o → Lacks (arm_of i first) r.arms → (i < m) ⊎ (m + commands_in_other o ≤ i) → Told f n (other_events r o)
      → Kept f (arm_of i first) (all_made_by b path (core_other known n o) v)
  other_free r v n m o first h lacks out t = outside_kept f r m (m + commands_in_other o) n (other_accesses o) (arm_of i first) (other_events r o) _ lacks out (other_stands r m o h) (other_counted r o) t (other_up v n o)

  part_free : (r : Around) (v : Variables) (n m : ℕ) (q : Actions) (first : Bool) → AreNumbered m q → Lacks (arm_of i first) r.arms → (i < m) ⊎ (m + commands_in_part q ≤ i) → Told f n (part_events r q)
      → Kept f (arm_of i first) (all_made_by b path (core_part known n q no_commands) v)
  part_free r v n m q first h lacks out t = outside_kept f r m (m + commands_in_part q) n (part_accesses q) (arm_of i first) (part_events r q) _ lacks out (part_stands r m q h) (part_counted r q) t (part_up v n q)

  groups_free : (r : Around) (v : Variables) (n m : ℕ) (gs : Groups) (first : Bool) → AreNumberedGroups m gs → Lacks (arm_of i first) r.arms → (i < m) ⊎ (m + commands_in_groups gs ≤ i) → Told f n (groups_events r gs)
      → Kept f (arm_of i first) (all_made_by b path (core_groups known n gs no_commands) v)
  groups_free r v n m gs first h lacks out t =
      outside_kept f r m (m + commands_in_groups gs) n (groups_accesses gs) (arm_of i first) (groups_events r gs) _ lacks out (groups_stand r m gs h) (groups_counted r gs) t (groups_up v n gs)

  -- a command that has no commands inside
  leaf : (r : Around) (v : Variables) (n m : ℕ) (x : ActionForm) → EachAccess (StandsWithin r 0 0) (command_events r (site_of r m) x) → Free r.arms → Told f n (command_events r (site_of r m) x)
      → Sided (all_made_by b path (core_action_form known n x no_commands) v)
  leaf r v n m x each free t =
      (true, outside_kept f r 0 0 n (own_accesses x + inner_accesses x) (arm_of i true) (command_events r (site_of r m) x) _ (free true) (inr (omega arith)) each (command_counted r m x) t (form_up v n x))

  equal_or : (k : ℕ) → (i ≡ k) ⊎ (i ≡ k → ⊥)
  equal_or k = elim (cases_lt i k) [
    | inl less ↦ inr (λ e. omega (arith, e, less))
    | inr more ↦ elim (cases_lt k i) [ inl above ↦ inr (λ e. omega (arith, e, above)) | inr same ↦ inl (omega (arith, more, same)) ]
  ]

  free_arm : (r : Around) (m : ℕ) (side : Bool) → Free r.arms → (i ≡ m → ⊥) → Free (in_arm r m side).arms
  free_arm r m side free ne first = lacks_joined (arm_of i first) r.arms (arm_of m side ∷ []) (free first) (lacks_other i m side ne first)

  chosen_sided : (r : Around) (v : Variables) (n m : ℕ) (a : Action) → IsNumbered (suc m) a → Free r.arms → Told f n (events (in_arm r m true) a)
      → (Free (in_arm r m true).arms → Sided (all_made_by b path (core_action known n a no_commands) v)) → Sided (all_made_by b path (core_action known n a no_commands) v)
  chosen_sided r v n m a h free t more =
      elim (equal_or m) [
        | inl e ↦ (false, action_free (in_arm r m true) v n (suc m) a false h (lacks_joined (arm_of i false) r.arms (arm_of m true ∷ []) (free false) (lacks_side i m true false (λ x. cc))) (inl (omega (arith, e))) t)
        | inr ne ↦ more (free_arm r m true free ne)
      ]

  second_sided : (r : Around) (v : Variables) (n m k : ℕ) (o : MaybeAction) → m < k → IsNumberedOther k o → Free r.arms → Told f n (other_events (in_arm r m false) o)
      → (Free (in_arm r m false).arms → Sided (all_made_by b path (core_other known n o) v)) → Sided (all_made_by b path (core_other known n o) v)
  second_sided r v n m k o l h free t more =
      elim (equal_or m) [
        | inl e ↦ (true, other_free (in_arm r m false) v n k o true h (lacks_joined (arm_of i true) r.arms (arm_of m false ∷ []) (free true) (lacks_side i m false true (λ x. cc))) (inl (omega (arith, e, l))) t)
        | inr ne ↦ more (free_arm r m false free ne)
      ]

  choice_sided : (x : Bool) (es fs : List Event) → Sided es → Sided fs → Sided (if x then es else fs)
  choice_sided true es fs s t = s
  choice_sided false es fs s t = t

  -- two parts, one behind the other, by which of them the `if` is in
  two_sided : (es fs all : List Event) (k : ℕ) → all ≡ es ++ fs → Sided es → Sided fs → (i < k → AllFree fs) → (k ≤ i → AllFree es) → Sided all
  two_sided es fs all k is s t f g =
      subst (λ (l : List Event). Sided l) (sym is) (elim (cases_lt i k) [ inl l ↦ first_sided es fs s (f l) | inr l ↦ then_sided es fs (g l) t ])

  mutual
    pub action_sided : (r : Around) (v : Variables) (n m : ℕ) (a : Action) → IsNumbered m a → Free r.arms → Told f n (events r a) → Sided (all_made_by b path (core_action known n a no_commands) v)
    action_sided r v n m (action id place x) h free t = form_sided r v n m x h.1 free (subst (λ (l : ℕ). Told f n (command_events r (site_of r l) x)) h.0 t)

    form_sided : (r : Around) (v : Variables) (n m : ℕ) (x : ActionForm) → IsNumberedInside (suc m) x → Free r.arms → Told f n (command_events r (site_of r m) x)
        → Sided (all_made_by b path (core_action_form known n x no_commands) v)
    form_sided r v n m (lets name declared value) h free t = leaf r v n m (lets name declared value) (each_both _ (maybe_events (site_of r m) value) _ (maybe_stands r m 0 0 value) tt) free t
    form_sided r v n m (assigns target value) h free t = leaf r v n m (assigns target value) (each_both _ (source.source_term_events (site_of r m) value) _ (term_stands r m 0 0 value) tt) free t
    form_sided r v n m (stores target value) h free t = leaf r v n m (stores target value) (each_both _ (source.source_term_events (site_of r m) value) _ (term_stands r m 0 0 value) (write_stands r m 0 0 target)) free t
    form_sided r v n m (reduces target op value) h free t = leaf r v n m (reduces target op value) (each_both _ (source.source_term_events (site_of r m) value) _ (term_stands r m 0 0 value) tt) free t
    form_sided r v n m (lets_memory name shape shape_places value) h free t = (true, tt)
    form_sided r v n m (views name parent form) h free t = leaf r v n m (views name parent form) (terms_stand r m 0 0 (terms (offsets_of form))) free t
    form_sided r v n m (calls function arguments) h free t = (true, tt)
    form_sided r v n m (repeats test body) h free t = (true, tt)
    form_sided r v n m (counts iterator declared low high factor body combine combine_place) h free t = (true, tt)
    form_sided r v n m (blocks body) h free t = groups_sided r v n (suc m) body h free t
    form_sided r v n m (decides test chosen other) h free t =
        let n1 = n + term_accesses test in
        let n2 = n1 + accesses_of chosen in
        let te = source.source_term_events (site_of r m) test in
        let ce = events (in_arm r m true) chosen in
        let oe = other_events (in_arm r m false) other in
        let ct = core_term known n test in
        let mc = all_made_by b path (core_action known n1 chosen no_commands) v in
        let mo = all_made_by b path (core_other known n2 other) v in
        let t1 = told_then f n (term_accesses test) te (ce ++ oe) (term_counted (site_of r m) test) t in
        first_sided _ [] (then_sided (term_events b v path ct) (if holds_at b v ct path then mc else mo)
        (λ first. outside_kept f r 0 0 n (term_accesses test) (arm_of i first) te (term_events b v path ct) (free first) (inr (omega arith)) (term_stands r m 0 0 test) (term_counted (site_of r m) test) (told_first f n te (ce ++ oe) t)
        (term_ascends p b known path (λ l. false) no_share v0 (λ l. false) v n test))
        (choice_sided (holds_at b v ct path) mc mo
        (chosen_sided r v n1 m chosen h.0 free (told_first f n1 ce oe t1) (λ free2. action_sided (in_arm r m true) v n1 (suc m) chosen h.0 free2 (told_first f n1 ce oe t1)))
        (second_sided r v n2 m (suc m + commands_in chosen) other (omega arith) h.1 free (told_then f n1 (accesses_of chosen) ce oe (events_counted (in_arm r m true) chosen) t1)
        (λ free2. other_sided (in_arm r m false) v n2 (suc m + commands_in chosen) other h.1 free2 (told_then f n1 (accesses_of chosen) ce oe (events_counted (in_arm r m true) chosen) t1)))))
        (λ first. tt)

    other_sided : (r : Around) (v : Variables) (n m : ℕ) (o : MaybeAction) → IsNumberedOther m o → Free r.arms → Told f n (other_events r o) → Sided (all_made_by b path (core_other known n o) v)
    other_sided r v n m no_action h free t = (true, tt)
    other_sided r v n m (one_action a) h free t = action_sided r v n m a h free t

    groups_sided : (r : Around) (v : Variables) (n m : ℕ) (gs : Groups) → AreNumberedGroups m gs → Free r.arms → Told f n (groups_events r gs) → Sided (all_made_by b path (core_groups known n gs no_commands) v)
    groups_sided r v n m no_groups h free t = (true, tt)
    groups_sided r v n m (group_then part more) h free t =
        let n2 = n + part_accesses part in
        let m2 = m + commands_in_part part in
        let w = all_left_by b path (core_part known n part no_commands) v in
        let t1 = told_first f n (part_events r part) (groups_events r more) t in
        let t2 = told_then f n (part_accesses part) (part_events r part) (groups_events r more) (part_counted r part) t in
        two_sided (all_made_by b path (core_part known n part no_commands) v) (all_made_by b path (core_groups known n2 more no_commands) w) _ m2
        (ap (λ l. all_made_by b path l v) (part_behind known n part (core_groups known n2 more no_commands)) ∙ made_behind b path (core_part known n part no_commands) (core_groups known n2 more no_commands) v)
        (part_sided r v n m part h.0 free t1)
        (groups_sided r w n2 m2 more h.1 free t2)
        (λ l first. groups_free r w n2 m2 more first h.1 (free first) (inl l) t2)
        (λ l first. part_free r v n m part first h.0 (free first) (inr l) t1)

    part_sided : (r : Around) (v : Variables) (n m : ℕ) (q : Actions) → AreNumbered m q → Free r.arms → Told f n (part_events r q) → Sided (all_made_by b path (core_part known n q no_commands) v)
    part_sided r v n m no_actions h free t = (true, tt)
    part_sided r v n m (action_then a more) h free t =
        let n2 = n + accesses_of a in
        let m2 = m + commands_in a in
        let w = all_left_by b path (core_action known n a no_commands) v in
        let t1 = told_first f n (events r a) (part_events r more) t in
        let t2 = told_then f n (accesses_of a) (events r a) (part_events r more) (events_counted r a) t in
        two_sided (all_made_by b path (core_action known n a no_commands) v) (all_made_by b path (core_part known n2 more no_commands) w) _ m2
        (ap (λ l. all_made_by b path l v) (action_behind known n a (core_part known n2 more no_commands)) ∙ made_behind b path (core_action known n a no_commands) (core_part known n2 more no_commands) v)
        (action_sided r v n m a h.0 free t1)
        (part_sided r w n2 m2 more h.1 free t2)
        (λ l first. part_free r w n2 m2 more first h.1 (free first) (inl l) t2)
        (λ l first. action_free r v n m a first h.0 (free first) (inr l) t1)

  -- Of arms, and of events, that the `if` has no part in them, or is below all that is above their arms.
  or_below : (k m : ℕ) → k < m → i ≡ k → i < m
  or_below k m l e = omega (arith, l, e)

  arms_or : (arms : List Arm) → Free arms ⊎ ((m : ℕ) → Below m arms → i < m)
  arms_or [] = inl (λ first h. h)
  arms_or (x ∷ arms) = by (equal_or x.command) (arms_or arms)
    where
      by : (i ≡ x.command) ⊎ (i ≡ x.command → ⊥) → Free arms ⊎ ((m : ℕ) → Below m arms → i < m) → Free (x ∷ arms) ⊎ ((m : ℕ) → Below m (x ∷ arms) → i < m)
      by (inl e) rest = inr (λ m h. or_below x.command m h.0.1 e)
      by (inr ne) (inl free) = inl (λ first. lacks_joined (arm_of i first) (x ∷ []) arms (λ g. elim g [ inl e ↦ ne (ap (λ (a : Arm). a.command) e) | inr none ↦ none ]) (free first))
      by (inr ne) (inr up) = inr (λ m h. up m h.1)

  events_or : (es : List SourceEvent) → ((first : Bool) → EachAccess (λ a. Lacks (arm_of i first) a.site.arms) es) ⊎ ((m : ℕ) → AllBelow m es → i < m)
  events_or [] = inl (λ first. tt)
  events_or (assigned e ∷ es) = events_or es
  events_or (accesses a ∷ es) = by (arms_or a.site.arms) (events_or es)
    where
      by : Free a.site.arms ⊎ ((m : ℕ) → Below m a.site.arms → i < m) → ((first : Bool) → EachAccess (λ a. Lacks (arm_of i first) a.site.arms) es) ⊎ ((m : ℕ) → AllBelow m es → i < m)
          → ((first : Bool) → EachAccess (λ a. Lacks (arm_of i first) a.site.arms) (accesses a ∷ es)) ⊎ ((m : ℕ) → AllBelow m (accesses a ∷ es) → i < m)
      by (inr up) rest = inr (λ m h. up m h.0)
      by (inl free) (inl more) = inl (λ first. (free first, more first))
      by (inl free) (inr up) = inr (λ m h. up m h.1)

  -- Commands of a phase.

  each_first : (P : SourceAccess → Type 0) (es fs : List SourceEvent) → EachAccess P (es ++ fs) → EachAccess P es
  each_first P [] fs h = tt
  each_first P (accesses a ∷ es) fs h = (h.0, each_first P es fs h.1)
  each_first P (assigned e ∷ es) fs h = each_first P es fs h

  each_then : (P : SourceAccess → Type 0) (es fs : List SourceEvent) → EachAccess P (es ++ fs) → EachAccess P fs
  each_then P [] fs h = h
  each_then P (accesses a ∷ es) fs h = each_then P es fs h.1
  each_then P (assigned e ∷ es) fs h = each_then P es fs h

  made_located : (c : Located) (cs : List Located) (v : Variables) → all_made_by b path (core_commands known (c ∷ cs)) v
      ≡ all_made_by b path (core_action known c.first c.command no_commands) v ++ all_made_by b path (core_commands known cs) (all_left_by b path (core_action known c.first c.command no_commands) v)
  made_located c cs v =
      ap (λ l. all_made_by b path l v) (action_behind known c.first c.command (core_commands known cs)) ∙ made_behind b path (core_action known c.first c.command no_commands) (core_commands known cs) v

  -- what is told of the first command, and of what follows it
  module _ (r : Around) (before gap rest : List SourceEvent) (c : Located) (stands : StandsBehind r (before ++ gap) c) where
    own_told : Told f (count_in before) (gap ++ (of_located c ++ rest)) → Told f c.first (events r c.command)
    own_told t =
        subst (λ (q : Around). Told f c.first (events q c.command)) stands.around
        (told_first f c.first (of_located c) rest
        (told_number f (count_in before + count_in gap) c.first (of_located c ++ rest) (sym (count_joined before gap) ∙ sym stands.first) (told_then f (count_in before) (count_in gap) gap (of_located c ++ rest) refl t)))

    rest_told : Told f (count_in before) (gap ++ (of_located c ++ rest)) → Told f (count_in ((before ++ gap) ++ of_located c)) rest
    rest_told t =
        told_number f (count_in before + count_in gap + count_in (of_located c)) (count_in ((before ++ gap) ++ of_located c)) rest
        (let x = count_joined before gap in let y = count_joined (before ++ gap) (of_located c) in omega (arith, x, y))
        (told_then f (count_in before + count_in gap) (count_in (of_located c)) (of_located c) rest refl (told_then f (count_in before) (count_in gap) gap (of_located c ++ rest) refl t))

    all_before : (m : ℕ) → AllBelow m ((before ++ gap) ++ of_located c) → AllBelow m before
    all_before m h = each_first _ before gap (each_first _ (before ++ gap) (of_located c) h)

    all_own : (m : ℕ) → AllBelow m ((before ++ gap) ++ of_located c) → AllBelow m (of_located c)
    all_own m h = each_then _ (before ++ gap) (of_located c) h

  -- commands whose numbers are all above that of the `if`
  located_free : (first : Bool) (r : Around) (before part : List SourceEvent) (v : Variables) (cs : List Located) → Follows r before part cs → Lacks (arm_of i first) r.arms → ((m : ℕ) → Below m r.arms → AllBelow m before → i < m)
      → Told f (count_in before) part → Kept f (arm_of i first) (all_made_by b path (core_commands known cs) v)
  located_free first r before part v [] follows lacks up t = tt
  located_free first r before part v (c ∷ cs) (gap, (rest, (is, (stands, more)))) lacks up t =
      let w = all_left_by b path (core_action known c.first c.command no_commands) v in
      let t2 = subst (λ (l : List SourceEvent). Told f (count_in before) l) is t in
      subst (λ (l : List Event). Kept f (arm_of i first) l) (sym (made_located c cs v))
      (kept_both f (arm_of i first) (all_made_by b path (core_action known c.first c.command no_commands) v) (all_made_by b path (core_commands known cs) w)
      (action_free r v c.first stands.number c.command first stands.numbered lacks (inl (up stands.number stands.arms (each_first _ before gap stands.fresh))) (own_told r before gap rest c stands t2))
      (located_free first r ((before ++ gap) ++ of_located c) rest w cs more lacks (λ m l h. up m l (all_before r before gap rest c stands m h)) (rest_told r before gap rest c stands t2)))

  located_sided : (r : Around) (before part : List SourceEvent) (v : Variables) (cs : List Located) → Follows r before part cs → Free r.arms → Told f (count_in before) part → Sided (all_made_by b path (core_commands known cs) v)
  located_sided r before part v [] follows free t = (true, tt)
  located_sided r before part v (c ∷ cs) (gap, (rest, (is, (stands, more)))) free t =
      let w = all_left_by b path (core_action known c.first c.command no_commands) v in
      let t2 = subst (λ (l : List SourceEvent). Told f (count_in before) l) is t in
      let own = own_told r before gap rest c stands t2 in
      let later = rest_told r before gap rest c stands t2 in
      let mc = all_made_by b path (core_action known c.first c.command no_commands) v in
      let ms = all_made_by b path (core_commands known cs) w in
      subst (λ (l : List Event). Sided l) (sym (made_located c cs v))
      (elim (events_or (of_located c)) [
        | inl none ↦ then_sided mc ms
            (λ first. kept_clear f (arm_of i first) c.first (c.first + accesses_of c.command) mc (action_up v c.first c.command)
            (clear_each f (arm_of i first) c.first (accesses_of c.command) (events r c.command) (events_counted r c.command) own (subst (λ (q : Around). EachAccess (λ a. Lacks (arm_of i first) a.site.arms) (events q c.command)) stands.around (none first))))
            (located_sided r ((before ++ gap) ++ of_located c) rest w cs more free later)
        | inr up ↦ first_sided mc ms (action_sided r v c.first stands.number c.command stands.numbered free own)
            (λ first. located_free first r ((before ++ gap) ++ of_located c) rest w cs more (free first) (λ m l h. up m (all_own r before gap rest c stands m h)) later)
      ])

  -- Where both arms stood round the commands, they would stand round each access that is made.

  abbrev HasBoth : List Arm → Type 0
  HasBoth arms = HasArm (arm_of i true) arms × HasArm (arm_of i false) arms

  abbrev AllBoth : List Event → Type 0
  AllBoth [] = Unit {0}
  AllBoth (ev ∷ es) = HasBoth (f (number_of ev)) × AllBoth es

  both_joined : (es fs : List Event) → AllBoth es → AllBoth fs → AllBoth (es ++ fs)
  both_joined [] fs a c = c
  both_joined (ev ∷ es) fs a c = (a.0, both_joined es fs a.1 c)

  has_front : (arm : Arm) (xs ys : List Arm) → HasArm arm xs → HasArm arm (xs ++ ys)
  has_front arm [] ys h = elim h [ ]
  has_front arm (x ∷ xs) ys (inl e) = inl e
  has_front arm (x ∷ xs) ys (inr h) = inr (has_front arm xs ys h)

  both_each : (n c : ℕ) (es : List SourceEvent) → count_in es ≡ c → Told f n es → EachAccess (λ a. HasBoth a.site.arms) es → (k : ℕ) → n ≤ k → k < n + c → HasBoth (f k)
  both_each n c [] e t h k l u = let z : count_in [] ≡ 0 = refl in let none : ⊥ = omega (arith, e, z, l, u) in elim none [ ]
  both_each n zero (accesses a ∷ es) e t h k l u = let none : ⊥ = omega (arith, l, u) in elim none [ ]
  both_each n (suc c) (accesses a ∷ es) e t h k l u =
      elim (cases_lt n k) [
        | inl more ↦ both_each (suc n) c es (omega (arith, e)) t.1 h.1 k (omega (arith, more)) (omega (arith, u))
        | inr same ↦ subst (λ (x : ℕ). HasBoth (f x)) (sym (equal k n l same)) (subst (λ (x : List Arm). HasBoth x) (sym t.0) h.0)
      ]
    where
      equal : (k n : ℕ) → n ≤ k → k ≤ n → k ≡ n
      equal k n l s = omega (arith, l, s)
  both_each n c (assigned x ∷ es) e t h k l u = both_each n c es e t h k l u

  both_made : (low high : ℕ) (es : List Event) → Ascends low es high → ((k : ℕ) → low ≤ k → k < high → HasBoth (f k)) → AllBoth es
  both_made low high [] a h = tt
  both_made low high (ev ∷ es) a h =
      let l = a.0 in
      (h (number_of ev) l (ascends_low (suc (number_of ev)) high es a.1), both_made (suc (number_of ev)) high es a.1 (λ k g u. h k (omega (arith, l, g)) u))

  located_both : (r : Around) (before part : List SourceEvent) (v : Variables) (cs : List Located) → Follows r before part cs → HasBoth r.arms → Told f (count_in before) part → AllBoth (all_made_by b path (core_commands known cs) v)
  located_both r before part v [] follows h t = tt
  located_both r before part v (c ∷ cs) (gap, (rest, (is, (stands, more)))) h t =
      let w = all_left_by b path (core_action known c.first c.command no_commands) v in
      let t2 = subst (λ (l : List SourceEvent). Told f (count_in before) l) is t in
      subst (λ (l : List Event). AllBoth l) (sym (made_located c cs v))
      (both_joined (all_made_by b path (core_action known c.first c.command no_commands) v) (all_made_by b path (core_commands known cs) w)
      (both_made c.first (c.first + accesses_of c.command) (all_made_by b path (core_action known c.first c.command no_commands) v) (action_up v c.first c.command)
      (both_each c.first (accesses_of c.command) (events r c.command) (events_counted r c.command) (own_told r before gap rest c stands t2)
      (each_so _ _ (events r c.command)
      (λ a s. subst (λ (l : List Arm). HasBoth l) (sym s.arms_are) (has_front (arm_of i true) r.arms s.arms h.0, has_front (arm_of i false) r.arms s.arms h.1)) (action_stands r stands.number c.command stands.numbered))))
      (located_both r ((before ++ gap) ++ of_located c) rest w cs more h (rest_told r before gap rest c stands t2)))

  -- Also where the arms round the commands are of the `if`.

  same_bit : (x : Bool) → (x ≡ true) ⊎ (x ≡ false)
  same_bit true = inl refl
  same_bit false = inr refl

  arm_is : (first : Bool) (x : Arm) → i ≡ x.command → x.first ≡ first → arm_of i first ≡ x
  arm_is first x e g = subst (λ (k : ℕ). arm_of k first ≡ x) (sym e) (subst (λ (s : Bool). arm_of x.command s ≡ x) g refl)

  arm_or : (first : Bool) (x : Arm) → (arm_of i first ≡ x) ⊎ (arm_of i first ≡ x → ⊥)
  arm_or first x = elim (equal_or x.command) [ inl e ↦ by first (same_bit x.first) e | inr ne ↦ inr (λ h. ne (ap (λ (a : Arm). a.command) h)) ]
    where
      by : (first : Bool) → (x.first ≡ true) ⊎ (x.first ≡ false) → i ≡ x.command → (arm_of i first ≡ x) ⊎ (arm_of i first ≡ x → ⊥)
      by true (inl g) e = inl (arm_is true x e g)
      by true (inr g) e = inr (λ h. let u : true ≡ x.first = ap (λ (a : Arm). a.first) h in cc)
      by false (inl g) e = inr (λ h. let u : false ≡ x.first = ap (λ (a : Arm). a.first) h in cc)
      by false (inr g) e = inl (arm_is false x e g)

  has_or : (first : Bool) (xs : List Arm) → HasArm (arm_of i first) xs ⊎ Lacks (arm_of i first) xs
  has_or first [] = inr (λ h. h)
  has_or first (x ∷ xs) = by (arm_or first x) (has_or first xs)
    where
      by : (arm_of i first ≡ x) ⊎ (arm_of i first ≡ x → ⊥) → HasArm (arm_of i first) xs ⊎ Lacks (arm_of i first) xs → HasArm (arm_of i first) (x ∷ xs) ⊎ Lacks (arm_of i first) (x ∷ xs)
      by (inl e) rest = inl (inl e)
      by (inr ne) (inl h) = inl (inr h)
      by (inr ne) (inr none) = inr (λ h. elim h [ inl e ↦ ne e | inr g ↦ none g ])

  pub phase_sided : (r : Around) (before part : List SourceEvent) (v : Variables) (cs : List Located) → Follows r before part cs → Told f (count_in before) part
      → Sided (all_made_by b path (core_commands known cs) v) ⊎ AllBoth (all_made_by b path (core_commands known cs) v)
  phase_sided r before part v cs follows t = elim (arms_or r.arms) [ inl free ↦ inl (located_sided r before part v cs follows free t) | inr up ↦ by up (has_or true r.arms) (has_or false r.arms) ]
    where
      by : ((m : ℕ) → Below m r.arms → i < m) → HasArm (arm_of i true) r.arms ⊎ Lacks (arm_of i true) r.arms → HasArm (arm_of i false) r.arms ⊎ Lacks (arm_of i false) r.arms
          → Sided (all_made_by b path (core_commands known cs) v) ⊎ AllBoth (all_made_by b path (core_commands known cs) v)
      by up (inr none) other = inl (true, located_free true r before part v cs follows none (λ m l h. up m l) t)
      by up (inl h) (inr none) = inl (false, located_free false r before part v cs follows none (λ m l h. up m l) t)
      by up (inl h) (inl g) = inr (located_both r before part v cs follows (h, g) t)

kept_made : (f : ℕ → List Arm) (arm : Arm) (x : Event) (es : List Event) → Has x es → Kept f arm es → Lacks arm (f (number_of x))
kept_made f arm x [] m k = elim m [ ]
kept_made f arm x (ev ∷ es) (inl e) k = subst (λ (y : Event). Lacks arm (f (number_of y))) (sym e) k.0
kept_made f arm x (ev ∷ es) (inr m) k = kept_made f arm x es m k.1

-- the arms of the access of a number
abbrev found_arms : Option SourceAccess → List Arm
found_arms None = []
found_arms (Some a) = a.site.arms

abbrev arms_at : List SourceEvent → ℕ → List Arm
arms_at es k = found_arms (slice_get (accesses_in es) k)

none_more : (k : ℕ) → 0 + k ≡ k
none_more k = omega arith

all_told : (es : List SourceEvent) → Told (arms_at es) 0 es
all_told es = told_all (arms_at es) 0 es (λ k a e. subst (λ (l : ℕ). arms_at es l ≡ a.site.arms) (sym (none_more k)) (ap found_arms e))

both_has : (p : Program) (b : Begun) (known : Known) (path : Path) (v : Variables) (f : ℕ → List Arm) (i : ℕ) (x : Event) (es : List Event) → Has x es → AllBoth p b known path v f i es → HasBoth p b known path v f i (f (number_of x))
both_has p b known path v f i x [] m h = elim m [ ]
both_has p b known path v f i x (ev ∷ es) (inl e) h = subst (λ (y : Event). HasBoth p b known path v f i (f (number_of y))) (sym e) h.0
both_has p b known path v f i x (ev ∷ es) (inr m) h = both_has p b known path v f i x es m h.1

-- no two events that the commands of a phase make at a path are of accesses in opposite arms
pub one_arm : (p : Program) (b : Begun) (known : Known) (path : Path) (v : Variables) (r : Around) (before part after : List SourceEvent) (cs : List Located) (first : ℕ) → IsNumbered first p.body → trace p ≡ before ++ (part ++ after)
    → Follows r before part cs → (x y : Event) → Has x (all_made_by b path (core_commands known cs) v) → Has y (all_made_by b path (core_commands known cs) v)
    → (a c : SourceAccess) → slice_get (accesses_in (trace p)) (number_of x) ≡ Some a → slice_get (accesses_in (trace p)) (number_of y) ≡ Some c
    → (i : ℕ) → AreOpposite i a.site.arms c.site.arms → ⊥
one_arm p b known path v r before part after cs begin numbered is follows x y mx my a c ea ec i opposite = side (phase_sided p b known path v f i r before part v cs follows t)
  where
    f : ℕ → List Arm
    f k = arms_at (trace p) k

    t : Told f (count_in before) part
    t = told_first f (count_in before) part after
        (told_number f (0 + count_in before) (count_in before) (part ++ after) (none_more (count_in before))
        (told_then f 0 (count_in before) before (part ++ after) refl (subst (λ (l : List SourceEvent). Told f 0 l) is (all_told (trace p)))))

    of_x : (first : Bool) → Kept f (arm_of i first) (all_made_by b path (core_commands known cs) v) → Lacks (arm_of i first) a.site.arms
    of_x first k = subst (λ (l : List Arm). Lacks (arm_of i first) l) (ap found_arms ea) (kept_made f (arm_of i first) x _ mx k)

    of_y : (first : Bool) → Kept f (arm_of i first) (all_made_by b path (core_commands known cs) v) → Lacks (arm_of i first) c.site.arms
    of_y first k = subst (λ (l : List Arm). Lacks (arm_of i first) l) (ap found_arms ec) (kept_made f (arm_of i first) y _ my k)

    by : (first : Bool) → Kept f (arm_of i first) (all_made_by b path (core_commands known cs) v) → AreOpposite i a.site.arms c.site.arms → ⊥
    by true k (inl o) = of_x true k o.0
    by true k (inr o) = of_y true k o.1
    by false k (inl o) = of_y false k o.1
    by false k (inr o) = of_x false k o.0

    side : Sided p b known path v f i (all_made_by b path (core_commands known cs) v) ⊎ AllBoth p b known path v f i (all_made_by b path (core_commands known cs) v) → ⊥
    side (inl s) = by s.0 s.1 opposite
    side (inr h) =
        let both = subst (λ (l : List Arm). HasBoth p b known path v f i l) (ap found_arms ea) (both_has p b known path v f i x (all_made_by b path (core_commands known cs) v) mx h) in
        (arms_once p begin numbered (number_of x) a ea).single i both.0 both.1
