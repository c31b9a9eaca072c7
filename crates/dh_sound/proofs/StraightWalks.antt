-- Straight commands at one path, along the trace of the program. An assignment sets its variable; of an `if` the
-- arm that is taken is gone along, and the other is passed; a loop without turns is passed. By induction over
-- the command.
use Rattle.std.proofs.Common.{◌≡◌, ◌⊎◌, inl, inr, ℕ, suc, ◌+◌, ◌<◌, ◌≤◌, ◌&&◌, ◌||◌, nat_eq, nat_le, nat_lt, Bool, true, false, if◌then◌else◌, List, [], ◌∷◌, ◌++◌, take, Option, Some, None, refl, sym, ◌∙◌, ap, subst, arith, ℤ, length}
use Rattle.std.proofs.lemmas.List.{append_assoc, append-nil}
use Rattle.std.proofs.lemmas.Cmp.{nat_eq_equiv}
use Rattle.std.proofs.lemmas.Bool.Decides.{nat_tests}
use Rattle.dh_value.specs.Words as words
use Rattle.dh_tree.specs.declared.trees.expressions.Ref.{Ref}
use Rattle.dh_tree.specs.Numbers.{commands_in, commands_in_other, commands_in_part, IsNumbered, IsNumberedInside, IsNumberedOther, AreNumberedGroups, AreNumbered}
use Rattle.dh_tree.specs.PlainTrees.{Program, Term, term, number, truth_value, named, accessed, in_bank, applied, converted, Action, action, ActionForm, lets, lets_memory, views, assigns, stores, reduces, calls, blocks, decides, repeats, counts, MaybeAction, no_action, one_action, Actions, no_actions, action_then, Groups, no_groups, group_then, ViewPlan}
use Rattle.dh_meaning.specs.AccessNumbers.{term_accesses, terms_accesses, own_accesses, accesses_of, inner_accesses, other_accesses, groups_accesses, part_accesses}
use Rattle.dh_meaning.specs.Bindings.{kind_found}
use Rattle.dh_meaning.specs.Core.{CoreTerm, CoreTerms, CoreCommand, choose, keep, CoreCommands, no_commands, command_and}
use Rattle.dh_meaning.specs.CoreOf.{Known, known_of, entity_number, depth_of, assigned, first_value, core_term, core_terms, store_to, folded_into, core_action, core_action_form, core_other, core_part, core_groups}
use Rattle.dh_meaning.specs.CoreOf as meaning
use Rattle.dh_meaning.specs.Effects.{Begun, Variables, set_from, values_of, set_variable, Event, write_made, value_of_term, term_events, kept_bits, spot_by_row, holds_at}
use Rattle.dh_meaning.specs.Levels.{assigns_to, any_assigns}
use Rattle.dh_meaning.specs.OnePhase.{in_one_phase, is_between, makes, form_makes, other_makes, groups_make, part_makes}
use Rattle.dh_meaning.specs.Paths.{Path, same_path}
use Rattle.dh_meaning.specs.Sites.{Arm, Around, in_arm}
use Rattle.dh_meets.specs.SourceEvents.{Element, with_indices, in_row, Site, SourceAccess, SourceEvent, accesses, accesses_in, trace, site_of, one_access, maybe_events, write_events, events, command_events, other_events, groups_events, part_events}
use Rattle.dh_meets.specs.SourceEvents as source
use Rattle.std.specs.List.{list_any}
use Rattle.dh_meets.specs.Sharing.{same_truth, same_arm, all_arms_of}
use Rattle.dh_sound.specs.Straight.{IsNamedTerm, AreNamedTerms, IsTarget, IsNamedAction, IsNamedForm, IsNamedOther, AreNamedGroups, AreNamedActions}
use Rattle.dh_sound.proofs.OnePath.{left_by, all_left_by, made_by, all_made_by}
use Rattle.dh_sound.proofs.SourceValues.{spot_named, memory_at, AgreeBut, numbers_aside, all_numbers_aside}
use Rattle.dh_sound.proofs.KnownReads.{count_joined, Knows, knows_passed, knows_assigned, knows_idle, HasNoArm, NoneInArm, knows_inside, knows_outside}
use Rattle.dh_sound.proofs.TermWalks.{IsNear, as_write, IsGood, Walk, walk_none, walk_then, Starts, first_starts, then_starts, read_here, walk_term, walk_terms, term_counted, terms_counted, operation_events}
use Rattle.dh_sound.proofs.Makes.{makes_within, other_within, groups_within, part_within, two_within, form_counted, action_counted, part_counted, is_within_so, within_is, Within}
use Rattle.dh_sound.proofs.Sites.{each_both, each_so, arms_within, StandsWithin, term_stands, action_stands, other_stands, part_stands}
use Rattle.dh_sound.specs.Trails.{count, EachAccess, ArmsWithin}
use Rattle.dh_meaning.specs.CoreOf.{reach_of, target_to, way_of}
use Rattle.dh_meaning.specs.Effects.{spot_reached, terms_events}
use Rattle.dh_meaning.specs.Ways.{Hidden, Way, behind_all, hidden_from, hidden_in, part_standings, standings, way_to}
use Rattle.dh_ways.proofs.KeptVariables.{others_set, values_long}
use Rattle.dh_ways.proofs.TargetsOnWays.{target_is, target_makes}
use Rattle.dh_tree.specs.Seen.{terms}
use Rattle.dh_meaning.specs.CoreOf.{kept_by}
use Rattle.dh_tree.specs.ViewOffsets.{offsets_of}
use Rattle.dh_sound.specs.AssignsInside.{AssignsInside, FormAssignsInside, GroupsAssignInside, KeepsInside, OtherAssignsInside, PartAssignsInside}
use Rattle.dh_sound.specs.BehindViews.{ActionBehind, FormBehind, GroupsBehind, IsOwn, KeepsFrom, OtherBehind, PartBehind, TermsBehind}
use Rattle.dh_sound.specs.ViewTrails.{IsBehind}
use Rattle.dh_sound.proofs.EventsBehind.{behind_action, behind_part, behind_test, behind_then, terms_seen}
use Rattle.dh_sound.proofs.KeptReads.{knows_kept}
use Rattle.dh_sound.proofs.OwnVariables.{same_aside}
use Rattle.dh_sound.proofs.ValuesBelow.{AgreeBelow, kept_above}

module _ (p : Program) (b : Begun) (path : Path) (in_block : ℕ → Bool)
    (share : (j k : ℕ) → in_one_phase p j k ≡ true → in_block k ≡ true → in_block j ≡ true) (v0 : Variables) (touched : ℕ → Bool) where
  abbrev known : Known
  known = known_of p

  abbrev pub Steps : Around → (before part : List SourceEvent) → (v w : Variables) → (es fs : List Event) → Type 0
  Steps r before part v w es fs = Walk p b known path in_block share v0 touched r before part v w es fs

  abbrev Begins : Around → (before part : List SourceEvent) → Variables → List Event → (n : ℕ) → Type 0
  Begins r before part v es n = Starts p b known path in_block share v0 touched r before part v es n

  -- what a walk along a part of the trace starts from
  pub record Along (r : Around) (before part : List SourceEvent) (v : Variables) (es : List Event) (n : ℕ) : Type 0 where
    pub after : List SourceEvent
    pub cut : trace p ≡ before ++ (part ++ after)
    pub number : n ≡ count before
    pub near : IsNear p b known path in_block share v0 touched v
    pub knows : Knows b known path in_block r before v es

  pub along_first : (r : Around) (before one two : List SourceEvent) (v : Variables) (es : List Event) (n : ℕ) → Along r before (one ++ two) v es n → Along r before one v es n
  along_first r before one two v es n s = record { after = two ++ s.after; cut = s.cut ∙ ap (λ l. before ++ l) (append_assoc one two s.after); number = s.number; near = s.near; knows = s.knows }

  pub along_then : (r : Around) (before one two : List SourceEvent) (v w : Variables) (es fs : List Event) (n m : ℕ) → Along r before (one ++ two) v es n → m ≡ n + count one → Steps r before one v w es fs
      → Along r (before ++ one) two w (es ++ fs) m
  along_then r before one two v w es fs n m s e walk = record {
    after = s.after;
    cut = s.cut ∙ (ap (λ l. before ++ l) (append_assoc one two s.after) ∙ sym (append_assoc before one (two ++ s.after)));
    number = let c = count_joined before one in let f = s.number in omega (arith, c, e, f);
    near = walk.near;
    knows = walk.knows;
  }

  pub starts_so : (r : Around) (before part : List SourceEvent) (v : Variables) (es : List Event) (n : ℕ) → ((k : ℕ) → n ≤ k → k < n + count part → in_block k ≡ true) → Along r before part v es n → Begins r before part v es n
  starts_so r before part v es n inside s = record { after = s.after; cut = s.cut; number = s.number; inside = inside; near = s.near; knows = s.knows }

  -- What is not done.

  -- each access of a part that begins at a number is not one of the block, or stands in an arm that is not round
  abbrev pub IsPassed : Around → (n : ℕ) → List SourceEvent → Type 0
  IsPassed r n [] = Unit {0}
  IsPassed r n (source.accesses a ∷ es) = ((in_block n ≡ false) ⊎ (all_arms_of a.site.arms r.arms ≡ false)) × IsPassed r (suc n) es
  IsPassed r n (source.assigned e ∷ es) = IsPassed r n es

  passed_knows : (r : Around) (before part : List SourceEvent) (v : Variables) (es : List Event) → IsPassed r (count before) part → Knows b known path in_block r before v es → Knows b known path in_block r (before ++ part) v es
  passed_knows r before [] v es h k = subst (λ (l : List SourceEvent). Knows b known path in_block r l v es) (sym (append-nil before)) k
  passed_knows r before (source.accesses a ∷ part) v es h k =
      subst (λ (l : List SourceEvent). Knows b known path in_block r l v es) (append_assoc before (source.accesses a ∷ []) part)
      (passed_knows r (before ++ source.accesses a ∷ []) part v es (subst (λ (n : ℕ). IsPassed r n part) (one_more before a) h.1) (knows_passed b known path in_block r before v es a k h.0))
    where
      one_more : (l : List SourceEvent) (x : SourceAccess) → suc (count l) ≡ count (l ++ source.accesses x ∷ [])
      one_more l x = let c = count_joined l (source.accesses x ∷ []) in omega (arith, c)
  passed_knows r before (source.assigned e ∷ part) v es h k =
      subst (λ (l : List SourceEvent). Knows b known path in_block r l v es) (append_assoc before (source.assigned e ∷ []) part)
      (passed_knows r (before ++ source.assigned e ∷ []) part v es (subst (λ (n : ℕ). IsPassed r n part) (same before) h) (knows_idle b known path in_block r before v es e k))
    where
      same : (l : List SourceEvent) → count l ≡ count (l ++ source.assigned e ∷ [])
      same l = let c = count_joined l (source.assigned e ∷ []) in omega (arith, c)

  pub walk_passed : (r : Around) (before part : List SourceEvent) (v : Variables) (es : List Event) (n : ℕ) → IsPassed r n part → Along r before part v es n → Steps r before part v v es []
  walk_passed r before part v es n h s = record {
    knows = subst (λ (l : List Event). Knows b known path in_block r (before ++ part) v l) (sym (append-nil es)) (passed_knows r before part v es (subst (λ (k : ℕ). IsPassed r k part) s.number h) s.knows);
    good = λ ev g. elim g [ ];
    near = s.near;
  }

  -- no number of a part is one of the block
  pub idle_passed : (r : Around) (n : ℕ) (part : List SourceEvent) → ((k : ℕ) → n ≤ k → k < n + count part → in_block k ≡ false) → IsPassed r n part
  idle_passed r n [] h = tt
  idle_passed r n (source.accesses a ∷ part) h = (inl (h n (omega arith) (omega arith)), idle_passed r (suc n) part (λ k l u. h k (omega (arith, l)) (omega (arith, u))))
  idle_passed r n (source.assigned e ∷ part) h = idle_passed r n part h

  -- An arm that is not taken is not round this place.
  -- all arms round are of commands before this number
  abbrev pub ArmsBelow : (m : ℕ) → List Arm → Type 0
  ArmsBelow m arms = ArmsWithin 0 m arms

  and_false : (x y : Bool) → x ≡ false → (x && y) ≡ false
  and_false true y e = cc
  and_false false y e = refl

  and_right : (x y : Bool) → y ≡ false → (x && y) ≡ false
  and_right true y e = e
  and_right false y e = refl

  arm_absent : (m : ℕ) (first : Bool) (arms : List Arm) → ArmsBelow m arms → list_any (λ x. same_arm (record { command = m; first = first }) x) arms ≡ false
  arm_absent m first [] a = refl
  arm_absent m first (x ∷ arms) a = none (nat_eq m x.command) (same_truth first x.first) _ (differ m x.command a.0.1) (arm_absent m first arms a.1)
    where
      differ : (i j : ℕ) → j < i → nat_eq i j ≡ false
      differ i j l = grind (arith, nat_tests)

      none : (x y z : Bool) → x ≡ false → z ≡ false → ((x && y) || z) ≡ false
      none true y z e f = cc
      none false y z e f = f

  pub not_among : (m : ℕ) (first : Bool) (arms : List Arm) → ArmsBelow m arms → (more front : List Arm) → all_arms_of (front ++ record { command = m; first = first } ∷ more) arms ≡ false
  not_among m first arms a more [] = and_false _ (all_arms_of more arms) (arm_absent m first arms a)
  not_among m first arms a more (x ∷ front) = and_right (list_any (λ z. same_arm x z) arms) _ (not_among m first arms a more front)

  pub arm_passed : (r : Around) (m lo hi : ℕ) (first : Bool) (n : ℕ) (part : List SourceEvent) → ArmsBelow m r.arms → EachAccess (StandsWithin (in_arm r m first) lo hi) part → IsPassed r n part
  arm_passed r m lo hi first n [] a h = tt
  arm_passed r m lo hi first n (source.accesses x ∷ part) a h =
      (inr (ap (λ l. all_arms_of l r.arms) (h.0.arms_are ∙ append_assoc r.arms (record { command = m; first = first } ∷ []) h.0.arms) ∙ not_among m first r.arms a h.0.arms r.arms), arm_passed r m lo hi first (suc n) part a h.1)
  arm_passed r m lo hi first n (source.assigned x ∷ part) a h = arm_passed r m lo hi first n part a h

  -- What is round and before.
  abbrev pub BeforeBelow : (m : ℕ) → List SourceEvent → Type 0
  BeforeBelow m before = EachAccess (λ a. ArmsBelow m a.site.arms) before

  none_there : (m : ℕ) (arms : List Arm) → ArmsBelow m arms → HasNoArm b known path in_block m arms
  none_there m [] a = tt
  none_there m (x ∷ arms) a = (differ x.command a.0.1, none_there m arms a.1)
    where
      differ : (j : ℕ) → j < m → nat_eq j m ≡ false
      differ j l = grind (arith, nat_tests)

  pub fresh_arm : (m : ℕ) (before : List SourceEvent) → BeforeBelow m before → NoneInArm b known path in_block m before
  fresh_arm m [] h = tt
  fresh_arm m (source.accesses a ∷ before) h = (none_there m a.site.arms h.0, fresh_arm m before h.1)
  fresh_arm m (source.assigned x ∷ before) h = fresh_arm m before h

  arms_up : (m k : ℕ) (arms : List Arm) → m ≤ k → ArmsBelow m arms → ArmsBelow k arms
  arms_up m k arms l a = arms_within 0 m 0 k arms (omega arith) l a

  pub before_up : (m k : ℕ) (before : List SourceEvent) → m ≤ k → BeforeBelow m before → BeforeBelow k before
  before_up m k before l h = each_so _ _ before (λ a x. arms_up m k a.site.arms l x) h

  arms_both : (m : ℕ) (one two : List Arm) → ArmsBelow m one → ArmsBelow m two → ArmsBelow m (one ++ two)
  arms_both m [] two a c = c
  arms_both m (x ∷ one) two a c = (a.0, arms_both m one two a.1 c)

  -- the arms of a part's accesses are below, where those round it are
  pub part_below : (r : Around) (lo hi : ℕ) (part : List SourceEvent) → ArmsBelow hi r.arms → EachAccess (StandsWithin r lo hi) part → BeforeBelow hi part
  part_below r lo hi part a h = each_so _ _ part (λ x s. subst (λ (l : List Arm). ArmsBelow hi l) (sym s.arms_are) (arms_both hi r.arms s.arms a (arms_within lo hi 0 hi s.arms (omega arith) (omega arith) s.within))) h

  -- What commands do in front of others.

  abbrev pub Touches : CoreCommands → Type 0
  Touches cs = (e : ℕ) → any_assigns e cs ≡ true → touched e ≡ true

  or_left : (x y : Bool) → x ≡ true → (x || y) ≡ true
  or_left true y e = refl
  or_left false y e = cc

  or_right : (x y : Bool) → y ≡ true → (x || y) ≡ true
  or_right true y e = refl
  or_right false y e = e

  -- commands that a command stands for, in front of the rest, were done along a part of the trace
  pub record Done (r : Around) (before part : List SourceEvent) (v : Variables) (es : List Event) (cs rest : CoreCommands) : Type 0 where
    pub after : Variables
    pub made : List Event
    pub left_is : all_left_by b path cs v ≡ all_left_by b path rest after
    pub made_is : all_made_by b path cs v ≡ made ++ all_made_by b path rest after
    pub steps : Steps r before part v after es made
    pub touches : Touches rest

  pub done_nothing : (r : Around) (before part : List SourceEvent) (v : Variables) (es : List Event) (rest : CoreCommands) → Steps r before part v v es [] → Touches rest → Done r before part v es rest rest
  done_nothing r before part v es rest s t = record { after = v; made = []; left_is = refl; made_is = refl; steps = s; touches = t }

  pub done_then : (r : Around) (before one two : List SourceEvent) (v : Variables) (es : List Event) (cs ds rest : CoreCommands) → (d : Done r before one v es cs ds) → Done r (before ++ one) two d.after (es ++ d.made) ds rest
      → Done r before (one ++ two) v es cs rest
  done_then r before one two v es cs ds rest d e = record {
    after = e.after;
    made = d.made ++ e.made;
    left_is = d.left_is ∙ e.left_is;
    made_is = d.made_is ∙ (ap (λ l. d.made ++ l) e.made_is ∙ sym (append_assoc d.made e.made (all_made_by b path rest e.after)));
    steps = walk_then p b known path in_block share v0 touched r before one two v d.after e.after es d.made e.made d.steps e.steps;
    touches = e.touches;
  }

  -- an assignment
  set_near : (v : Variables) (entity : ℕ) (q : Path) (z : ℤ) → touched entity ≡ true → IsNear p b known path in_block share v0 touched v → IsNear p b known path in_block share v0 touched (set_variable v entity q z)
  set_near v entity q z t near e x out = by (nat_eq e entity) refl
    where
      number_is : (m n : ℕ) → nat_eq m n ≡ true → m ≡ n
      number_is m n h = grind (arith, nat_tests)

      by : (c : Bool) → nat_eq e entity ≡ c → set_variable v entity q z e x ≡ v0 e x
      by true h = let same = number_is e entity h in let o : touched entity ≡ false = subst (λ (n : ℕ). touched n ≡ false) same out in cc
      by false h = ap (λ c. if c && same_path x q then z else v e x) h ∙ near e x out

  set_agrees : (v : Variables) (entity : ℕ) (q : Path) (z : ℤ) → AgreeBut b known entity v (set_variable v entity q z)
  set_agrees v entity q z e x other = sym (ap (λ c. if c && same_path x q then z else v e x) other)

  pub assigned_done : (r : Around) (before part : List SourceEvent) (v : Variables) (es fs : List Event) (x : Ref) (value : CoreTerm) (rest : CoreCommands) → IsOwn p x → Touches (command_and (assigned known x value) rest)
      → term_events b v path value ≡ fs → Steps r before part v v es fs
      → Done r before (part ++ source.assigned x.entity ∷ []) v es (command_and (assigned known x value) rest) rest
  assigned_done r before part v es fs x value rest (entity, (is, within)) t made s = record {
    after = w;
    made = fs;
    left_is = refl;
    made_is = ap (λ l. l ++ all_made_by b path rest w) made;
    steps = record {
      knows = subst (λ (l : List SourceEvent). Knows b known path in_block r l w (es ++ fs)) (append_assoc before part (source.assigned x.entity ∷ []))
          (subst (λ (o : Option ℕ). Knows b known path in_block r ((before ++ part) ++ source.assigned o ∷ []) w (es ++ fs)) (sym is) (knows_assigned b known path in_block r (before ++ part) v w (es ++ fs) entity s.knows agree (same_aside p b v w path entity within agree)));
      good = s.good;
      near = near;
    };
    touches = λ e h. t e (or_right (nat_eq e (entity_number x.entity)) _ h);
  }
    where
      w : Variables
      w = set_variable v (entity_number x.entity) (take (depth_of known x) path) (words.value_of (value_of_term b v path value))

      near : IsNear p b known path in_block share v0 touched w
      near = set_near v (entity_number x.entity) _ _ (t (entity_number x.entity) (or_left (nat_eq (entity_number x.entity) (entity_number x.entity)) _ (nat_eq_equiv.refl (entity_number x.entity)))) s.near

      agree : AgreeBut b known entity v w
      agree = subst (λ (n : ℕ). AgreeBut b known n v w) (ap entity_number is) (set_agrees v (entity_number x.entity) (take (depth_of known x) path) (words.value_of (value_of_term b v path value)))

  -- Straight commands.

  -- the block makes of a command's accesses just those that the command makes
  abbrev pub Agrees : (n count : ℕ) → (ℕ → Bool) → Type 0
  Agrees n c makes_it = (k : ℕ) → Within k n c → in_block k ≡ makes_it k

  false_or : (x y : Bool) → x ≡ false → (x || y) ≡ y
  false_or true y e = cc
  false_or false y e = refl

  or_false : (x y : Bool) → y ≡ false → (x || y) ≡ x
  or_false true y e = refl
  or_false false y e = e

  not_true : (x : Bool) → (x ≡ true → ⊥) → x ≡ false
  not_true true h = elim (h refl) [ ]
  not_true false h = refl

  pub first_agrees : (n c d : ℕ) (f g : ℕ → Bool) → Agrees n (c + d) (λ k. f k || g k) → ((k : ℕ) → g k ≡ true → Within k (n + c) d) → Agrees n c f
  first_agrees n c d f g a within k w = a k (let l = w.0 in let u = w.1 in (l, omega (arith, u))) ∙ or_false (f k) (g k) (not_true (g k) (λ t. let x = within k t in let l = x.0 in let u = w.1 in omega (arith, l, u)))

  pub then_agrees : (n c d : ℕ) (f g : ℕ → Bool) → Agrees n (c + d) (λ k. f k || g k) → ((k : ℕ) → f k ≡ true → Within k n c) → Agrees (n + c) d g
  then_agrees n c d f g a within k w = a k (let l = w.0 in let u = w.1 in (omega (arith, l), omega (arith, u))) ∙ false_or (f k) (g k) (not_true (f k) (λ t. let x = within k t in let l = w.0 in let u = x.1 in omega (arith, l, u)))

  pub own_inside : (n c d : ℕ) → Agrees n d (λ k. is_between k n c) → c ≤ d → (k : ℕ) → n ≤ k → k < n + c → in_block k ≡ true
  own_inside n c d a le k l u = a k (l, omega (arith, le, u)) ∙ is_within_so k n c (l, u)

  good_outside : (r : Around) (m : ℕ) (first : Bool) (es : List Event) (ev : Event) → IsGood p b known path in_block share v0 touched (in_arm r m first) es ev → IsGood p b known path in_block share v0 touched r es ev
  good_outside r m first es ev g = record { number = g.number; of = g.of; listed = g.listed; inside = g.inside; loops = g.loops; variables = g.variables; near = g.near; made = g.made; shares = g.shares }

  pub steps_outside : (r : Around) (m : ℕ) (first : Bool) (before part : List SourceEvent) (v w : Variables) (es fs : List Event) → Steps (in_arm r m first) before part v w es fs → Steps r before part v w es fs
  steps_outside r m first before part v w es fs s = record {
    knows = knows_outside b known path in_block r (before ++ part) w (es ++ fs) m first s.knows;
    good = λ ev h. good_outside r m first (es ++ fs) ev (s.good ev h);
    near = s.near;
  }

  pub along_inside : (r : Around) (m : ℕ) (first : Bool) (before part : List SourceEvent) (v : Variables) (es : List Event) (n : ℕ) → BeforeBelow m before → Along r before part v es n → Along (in_arm r m first) before part v es n
  along_inside r m first before part v es n f s = record { after = s.after; cut = s.cut; number = s.number; near = s.near; knows = knows_inside b known path in_block r before v es m first (fresh_arm m before f) s.knows }

  before_both : (m : ℕ) (one two : List SourceEvent) → BeforeBelow m one → BeforeBelow m two → BeforeBelow m (one ++ two)
  before_both m one two a c = each_both _ one two a c

  -- the write of a store
  pub write_steps : (r : Around) (m : ℕ) (before : List SourceEvent) (v : Variables) (es : List Event) (n n2 : ℕ) (target value : Term) → IsTarget target → IsNamedTerm value → n2 ≡ n + term_accesses value
      → Begins r before (source.source_term_events (site_of r m) value ++ write_events (site_of r m) target) v es n
      → Steps r before (source.source_term_events (site_of r m) value ++ write_events (site_of r m) target) v v es (made_by b path (store_to known n2 target (core_term known n value)) v)
  write_steps r m before v es n n2 (term at k (accessed x ts)) value t nv e s =
      let w = walk_term p b known path in_block share v0 touched r m before v es n value nv (first_starts p b known path in_block share v0 touched r before _ (write_events (site_of r m) (term at k (accessed x ts))) v es n s) in
      let s2 = then_starts p b known path in_block share v0 touched r before _ (write_events (site_of r m) (term at k (accessed x ts))) v v es _ n n2 s (e ∙ ap (λ c. n + c) (sym (term_counted (site_of r m) value))) w in
      let w2 = walk_terms p b known path in_block share v0 touched r m _ v _ n2 ts t (first_starts p b known path in_block share v0 touched r _ _ (one_access at x.entity (with_indices ts) true (site_of r m)) v _ n2 s2) in
      let s3 = then_starts p b known path in_block share v0 touched r _ _ (one_access at x.entity (with_indices ts) true (site_of r m)) v v _ _ n2 (n2 + terms_accesses ts) s2 (ap (λ c. n2 + c) (sym (terms_counted (site_of r m) ts))) w2 in
      let reach = reach_of known (n2 + terms_accesses ts) at x in
      let last = write_made reach path (kept_bits b.table reach.memory (value_of_term b v path (core_term known n value))) (spot_reached b v path reach (target_to (way_of known x) (core_terms known n2 ts))) in
      subst (λ (l : List Event). Steps r before (source.source_term_events (site_of r m) value ++ write_events (site_of r m) (term at k (accessed x ts))) v v es (term_events b v path (core_term known n value) ++ (l ++ last ∷ [])))
      (sym (target_makes b v path (way_of known x) (core_terms known n2 ts)))
      (walk_then p b known path in_block share v0 touched r before _ _ v v v es _ _ w
      (walk_then p b known path in_block share v0 touched r _ _ _ v v v _ (terms_events b v path (core_terms known n2 ts)) (last ∷ []) w2
      (read_here p b known path in_block share v0 touched r m _ v _ (n2 + terms_accesses ts) at x.entity (with_indices ts) true _ t
      (as_write refl _ (ap (λ s. write_made (record { number = n2 + terms_accesses ts; place = at; memory = memory_at b known x.entity }) path (kept_bits b.table (memory_at b known x.entity) (value_of_term b v path (core_term known n value))) s) (target_is b v path (reach_of known (n2 + terms_accesses ts) at x) (way_of known x) (core_terms known n2 ts) ∙ ap (λ zs. spot_named b known v path x.entity zs) (all_numbers_aside b known v path n2 0 ts))))
      s3)))
  write_steps r m before v es n n2 (term at k (in_bank x bank bp t)) value tn nv e s =
      let w = walk_term p b known path in_block share v0 touched r m before v es n value nv (first_starts p b known path in_block share v0 touched r before _ (write_events (site_of r m) (term at k (in_bank x bank bp t))) v es n s) in
      let s2 = then_starts p b known path in_block share v0 touched r before _ (write_events (site_of r m) (term at k (in_bank x bank bp t))) v v es _ n n2 s (e ∙ ap (λ c. n + c) (sym (term_counted (site_of r m) value))) w in
      let w2 = walk_term p b known path in_block share v0 touched r m _ v _ n2 t tn (first_starts p b known path in_block share v0 touched r _ _ (one_access at x.entity (in_row bank t) true (site_of r m)) v _ n2 s2) in
      let s3 = then_starts p b known path in_block share v0 touched r _ _ (one_access at x.entity (in_row bank t) true (site_of r m)) v v _ _ n2 (n2 + term_accesses t) s2 (ap (λ c. n2 + c) (sym (term_counted (site_of r m) t))) w2 in
      walk_then p b known path in_block share v0 touched r before _ _ v v v es _ _ w
      (walk_then p b known path in_block share v0 touched r _ _ _ v v v _ _ _ w2
      (read_here p b known path in_block share v0 touched r m _ v _ (n2 + term_accesses t) at x.entity (in_row bank t) true _ tn
      (as_write refl _ (ap (λ z. write_made (record { number = n2 + term_accesses t; place = at; memory = memory_at b known x.entity }) path (kept_bits b.table (memory_at b known x.entity) (value_of_term b v path (core_term known n value))) (spot_by_row b.table (memory_at b known x.entity) bank (words.value_of z))) (numbers_aside b known v path n2 0 t)))
      s3))
  write_steps r m before v es n n2 (term at k (number negative x)) value t nv e s = elim t [ ]
  write_steps r m before v es n n2 (term at k (truth_value x)) value t nv e s = elim t [ ]
  write_steps r m before v es n n2 (term at k (named x)) value t nm e s = elim t [ ]
  write_steps r m before v es n n2 (term at k (applied o l q)) value t nv e s = elim t [ ]
  write_steps r m before v es n n2 (term at k (converted u to)) value t nv e s = elim t [ ]

  pub command_done : (r : Around) (before part : List SourceEvent) (v : Variables) (es : List Event) (c : CoreCommand) (rest : CoreCommands) → left_by b path c v ≡ v → Touches (command_and c rest) → Steps r before part v v es (made_by b path c v)
      → Done r before part v es (command_and c rest) rest
  command_done r before part v es c rest l t s = record {
    after = v;
    made = made_by b path c v;
    left_is = ap (λ x. all_left_by b path rest x) l;
    made_is = ap (λ x. made_by b path c v ++ all_made_by b path rest x) l;
    steps = s;
    touches = λ e h. t e (or_right (assigns_to e c) _ h);
  }

  pub store_left : (n2 : ℕ) (target : Term) (value : CoreTerm) (v : Variables) → IsTarget target → left_by b path (store_to known n2 target value) v ≡ v
  store_left n2 (term at k (accessed x ts)) value v t = refl
  store_left n2 (term at k (in_bank x bank bp u)) value v t = refl
  store_left n2 (term at k (number negative x)) value v t = elim t [ ]
  store_left n2 (term at k (truth_value x)) value v t = elim t [ ]
  store_left n2 (term at k (named x)) value v t = elim t [ ]
  store_left n2 (term at k (applied o l q)) value v t = elim t [ ]
  store_left n2 (term at k (converted u to)) value v t = elim t [ ]

  -- an `if`, from what its test and its arms do
  pub choice_done : (r : Around) (before te ce oe : List SourceEvent) (v : Variables) (es : List Event) (test : CoreTerm) (chosen other rest : CoreCommands) (t : Bool) → holds_at b v test path ≡ t
      → Touches (command_and (choose test chosen other) rest) → Steps r before te v v es (term_events b v path test)
      → (t ≡ true → (d : Done r (before ++ te) ce v (es ++ term_events b v path test) chosen no_commands) × Steps r ((before ++ te) ++ ce) oe d.after d.after ((es ++ term_events b v path test) ++ d.made) [])
      → (t ≡ false → Steps r (before ++ te) ce v v (es ++ term_events b v path test) [] × Done r ((before ++ te) ++ ce) oe v (es ++ term_events b v path test) other no_commands)
      → Done r before (te ++ (ce ++ oe)) v es (command_and (choose test chosen other) rest) rest
  choice_done r before te ce oe v es test chosen other rest true is touch tw yes_arm no_arm =
      let (d, out) = yes_arm refl in
      record {
        after = d.after;
        made = term_events b v path test ++ (d.made ++ []);
        left_is = ap (λ c. all_left_by b path rest (if c then all_left_by b path chosen v else all_left_by b path other v)) is ∙ ap (λ x. all_left_by b path rest x) d.left_is;
        made_is =
            ap (λ c. (term_events b v path test ++ (if c then all_made_by b path chosen v else all_made_by b path other v)) ++ all_made_by b path rest (if c then all_left_by b path chosen v else all_left_by b path other v)) is
            ∙ (ap (λ x. (term_events b v path test ++ all_made_by b path chosen v) ++ all_made_by b path rest x) d.left_is ∙ ap (λ l. (term_events b v path test ++ l) ++ all_made_by b path rest d.after) d.made_is);
        steps = walk_then p b known path in_block share v0 touched r before te (ce ++ oe) v v d.after es _ _ tw (walk_then p b known path in_block share v0 touched r (before ++ te) ce oe v d.after d.after _ d.made [] d.steps out);
        touches = λ e h. touch e (or_right (any_assigns e chosen || any_assigns e other) _ h);
      }
  choice_done r before te ce oe v es test chosen other rest false is touch tw yes_arm no_arm =
      let (out, d) = no_arm refl in
      record {
        after = d.after;
        made = term_events b v path test ++ ([] ++ (d.made ++ []));
        left_is = ap (λ c. all_left_by b path rest (if c then all_left_by b path chosen v else all_left_by b path other v)) is ∙ ap (λ x. all_left_by b path rest x) d.left_is;
        made_is =
            ap (λ c. (term_events b v path test ++ (if c then all_made_by b path chosen v else all_made_by b path other v)) ++ all_made_by b path rest (if c then all_left_by b path chosen v else all_left_by b path other v)) is
            ∙ (ap (λ x. (term_events b v path test ++ all_made_by b path other v) ++ all_made_by b path rest x) d.left_is ∙ ap (λ l. (term_events b v path test ++ l) ++ all_made_by b path rest d.after) d.made_is);
        steps = walk_then p b known path in_block share v0 touched r before te (ce ++ oe) v v d.after es _ _ tw
            (walk_then p b known path in_block share v0 touched r (before ++ te) ce oe v v d.after _ [] (d.made ++ []) out
            (subst (λ (l : List Event). Steps r ((before ++ te) ++ ce) oe v d.after l (d.made ++ [])) (sym (append-nil (es ++ term_events b v path test))) (subst (λ (l : List Event). Steps r ((before ++ te) ++ ce) oe v d.after (es ++ term_events b v path test) l) (sym (append-nil d.made)) d.steps)));
        touches = λ e h. touch e (or_right (any_assigns e chosen || any_assigns e other) _ h);
      }

  -- loops and other commands that are not done
  idle_done : (r : Around) (before part : List SourceEvent) (v : Variables) (es : List Event) (n c : ℕ) (rest : CoreCommands) → count part ≡ c → Agrees n c (λ k. false) → Touches rest → Along r before part v es n → Done r before part v es rest rest
  idle_done r before part v es n c rest e a t s =
      done_nothing r before part v es rest (walk_passed r before part v es n (idle_passed r n part (λ k l u. a k (l, omega (arith, u, e)))) s) t

  value_start : (r : Around) (m : ℕ) (before : List SourceEvent) (v : Variables) (es : List Event) (n : ℕ) (t : Term) (two : List SourceEvent) (c : ℕ) → Agrees n c (λ k. is_between k n (term_accesses t)) → term_accesses t ≤ c
      → Along r before (source.source_term_events (site_of r m) t ++ two) v es n → Begins r before (source.source_term_events (site_of r m) t) v es n
  value_start r m before v es n t two c a l s =
      starts_so r before (source.source_term_events (site_of r m) t) v es n (λ k x y. own_inside n (term_accesses t) c a l k x (let d = term_counted (site_of r m) t in omega (arith, y, d))) (along_first r before (source.source_term_events (site_of r m) t) two v es n s)

  -- a view keeps its offsets in variables behind all that is known
  abbrev HeadIs : (x : ℕ) → List Hidden → List Term → Type 0
  HeadIs x hs [] = Unit {0}
  HeadIs x [] (t ∷ ts) = Unit {0}
  HeadIs x (h ∷ hs) (t ∷ ts) = h.entity ≡ x

  head_is : (d x : ℕ) (entity : Option ℕ) (form : ViewPlan) → ((w : Way) → way_to p entity ≡ Some w → KeepsFrom p d x form w) → HeadIs x (hidden_in (way_to p entity)) (offsets_of form)
  head_is d x entity form keeps = by (way_to p entity) refl
    where
      none : (ts : List Term) → HeadIs x [] ts
      none [] = tt
      none (t ∷ ts) = tt

      own : (ts : List Term) (rest : List Hidden) → HeadIs x (hidden_from x d ts ++ rest) ts
      own [] rest = tt
      own (t ∷ ts) rest = refl

      by : (o : Option Way) → way_to p entity ≡ o → HeadIs x (hidden_in o) (offsets_of form)
      by None e = none (offsets_of form)
      by (Some w) e = let k = keeps w e in subst (λ (hs : List Hidden). HeadIs x hs (offsets_of form)) (sym k.is) (own (offsets_of form) k.rest)

  -- what is kept is near, where it is touched
  kept_near : (v : Variables) (depth first : ℕ) (vs : CoreTerms) (rest : CoreCommands) → Touches (command_and (keep depth first vs) rest) → IsNear p b known path in_block share v0 touched v
      → IsNear p b known path in_block share v0 touched (set_from v first (take depth path) (values_of b v path vs))
  kept_near v depth first vs rest t near e q out =
      others_set v e first (take depth path) q (values_of b v path vs)
      (subst (λ (n : ℕ). (nat_le first e && nat_lt e (first + n)) ≡ false) (sym (values_long b v path vs)) (not_true (assigns_to e (keep depth first vs)) (λ h. none (t e (or_left _ _ h)))))
      ∙ near e q out
    where
      none : touched e ≡ true → ⊥
      none h = let o = out in cc

  walk_kept : (r : Around) (m d x e : ℕ) (before : List SourceEvent) (v : Variables) (es : List Event) (n : ℕ) (hs : List Hidden) (ts : List Term) (rest : CoreCommands)
      → HeadIs x hs ts → TermsBehind p x (terms ts) → KeepsInside known e hs (length ts) → AreNamedTerms (terms ts) → IsBehind p x before
      → Touches (kept_by hs (core_terms known n (terms ts)) rest) → Begins r before (source.source_terms_events (site_of r m) (terms ts)) v es n
      → Done r before (source.source_terms_events (site_of r m) (terms ts)) v es (kept_by hs (core_terms known n (terms ts)) rest) rest
  walk_kept r m d x e before v es n hs [] rest first hb ins nv seen t s = done_nothing r before [] v es rest (walk_none p b known path in_block share v0 touched r before v es s.near s.knows) t
  walk_kept r m d x e before v es n [] (u ∷ ts) rest first hb ins nv seen t s = elim ins [ ]
  walk_kept r m d x e before v es n (h ∷ hs) (u ∷ ts) rest first hb ins nv seen t s =
      let all = terms (u ∷ ts) in
      let vs = core_terms known n all in
      let part = source.source_terms_events (site_of r m) all in
      let walk = walk_terms p b known path in_block share v0 touched r m before v es n all nv s in
      let behind : IsBehind p x (before ++ part) = behind_then p x x before part (omega arith) seen (terms_seen p x (site_of r m) all hb) in
      let zs = values_of b v path vs in
      let w = set_from v h.entity (take h.depth path) zs in
      let agree : AgreeBelow x v w = subst (λ (k : ℕ). AgreeBelow x v (set_from v k (take h.depth path) zs)) (sym first) (kept_above v x (take h.depth path) zs) in
      record {
        after = w;
        made = terms_events b v path vs;
        left_is = refl;
        made_is = refl;
        steps = record {
          knows = knows_kept p b path in_block r (before ++ part) v w (es ++ terms_events b v path vs) x behind.own agree behind.seen walk.knows;
          good = walk.good;
          near = kept_near v h.depth h.entity vs rest t s.near;
        };
        touches = λ y g. t y (or_right (assigns_to y (keep h.depth h.entity vs)) _ g);
      }

  wants_less : (n c d : ℕ) (f : ℕ → Bool) → d ≤ c → Agrees n c f → Agrees n d f
  wants_less n c d f l a k w = a k (let x = w.0 in let u = w.1 in (x, omega (arith, u, l)))

  arm_below : (m k : ℕ) (arms : List Arm) (first : Bool) → m < k → ArmsBelow m arms → ArmsBelow k (arms ++ record { command = m; first = first } ∷ [])
  arm_below m k arms first l a = arms_both k arms (record { command = m; first = first } ∷ []) (arms_up m k arms (omega (arith, l)) a) ((omega arith, l), tt)

  -- of the first arm of an `if` nothing is round a place in the second
  opposite_absent : (m : ℕ) (arms : List Arm) → ArmsBelow m arms → list_any (λ x. same_arm (record { command = m; first = true }) x) (arms ++ record { command = m; first = false } ∷ []) ≡ false
  opposite_absent m [] a = second (nat_eq m m)
    where
      second : (x : Bool) → ((x && false) || false) ≡ false
      second true = refl
      second false = refl
  opposite_absent m (x ∷ arms) a = none (nat_eq m x.command) (same_truth true x.first) _ (differ m x.command a.0.1) (opposite_absent m arms a.1)
    where
      differ : (i j : ℕ) → j < i → nat_eq i j ≡ false
      differ i j l = grind (arith, nat_tests)

      none : (x y z : Bool) → x ≡ false → z ≡ false → ((x && y) || z) ≡ false
      none true y z e f = cc
      none false y z e f = f

  opposite_among : (m : ℕ) (arms : List Arm) → ArmsBelow m arms → (more front : List Arm) → all_arms_of (front ++ record { command = m; first = true } ∷ more) (arms ++ record { command = m; first = false } ∷ []) ≡ false
  opposite_among m arms a more [] = and_false _ (all_arms_of more (arms ++ record { command = m; first = false } ∷ [])) (opposite_absent m arms a)
  opposite_among m arms a more (x ∷ front) = and_right (list_any (λ z. same_arm x z) (arms ++ record { command = m; first = false } ∷ [])) _ (opposite_among m arms a more front)

  opposite_passed : (r : Around) (m lo hi : ℕ) (n : ℕ) (part : List SourceEvent) → ArmsBelow m r.arms → EachAccess (StandsWithin (in_arm r m true) lo hi) part → IsPassed (in_arm r m false) n part
  opposite_passed r m lo hi n [] a h = tt
  opposite_passed r m lo hi n (source.accesses x ∷ part) a h =
      (inr (ap (λ l. all_arms_of l (in_arm r m false).arms) (h.0.arms_are ∙ append_assoc r.arms (record { command = m; first = true } ∷ []) h.0.arms) ∙ opposite_among m r.arms a h.0.arms r.arms), opposite_passed r m lo hi (suc n) part a h.1)
  opposite_passed r m lo hi n (source.assigned x ∷ part) a h = opposite_passed r m lo hi n part a h

  -- the first arm is taken: the second is passed
  taken : (r : Around) (m : ℕ) (before te ce oe : List SourceEvent) (v : Variables) (es fs : List Event) (n1 n2 : ℕ) (chosen : Action) (other : MaybeAction) → IsNumbered (suc m) chosen × IsNumberedOther (suc m + commands_in chosen) other
      → ArmsBelow m r.arms → Along r (before ++ te) (ce ++ other_events (in_arm r m false) other) v (es ++ fs) n1 → count ce ≡ accesses_of chosen
      → Done (in_arm r m true) (before ++ te) ce v (es ++ fs) (core_action known n1 chosen no_commands) no_commands
      → (d : Done r (before ++ te) ce v (es ++ fs) (core_action known n1 chosen no_commands) no_commands) × Steps r ((before ++ te) ++ ce) (other_events (in_arm r m false) other) d.after d.after ((es ++ fs) ++ d.made) []
  taken r m before te ce oe v es fs n1 n2 chosen other h below s counted d =
      let steps = steps_outside r m true (before ++ te) ce v d.after (es ++ fs) d.made d.steps in (
        record { after = d.after; made = d.made; left_is = d.left_is; made_is = d.made_is; steps = steps; touches = d.touches },
        walk_passed r ((before ++ te) ++ ce) (other_events (in_arm r m false) other) d.after ((es ++ fs) ++ d.made) (n1 + count ce)
            (arm_passed r m (suc m + commands_in chosen) (suc m + commands_in chosen + commands_in_other other) false (n1 + count ce) (other_events (in_arm r m false) other) below (other_stands (in_arm r m false) (suc m + commands_in chosen) other h.1))
            (along_then r (before ++ te) ce (other_events (in_arm r m false) other) v d.after (es ++ fs) d.made n1 (n1 + count ce) s refl steps),
      )

  -- the second arm is taken: the first is passed
  passed : (r : Around) (m : ℕ) (before te ce oe : List SourceEvent) (v : Variables) (es : List Event) (n1 n2 : ℕ) (chosen : Action) (other : MaybeAction) → IsNumbered (suc m) chosen × IsNumberedOther (suc m + commands_in chosen) other
      → ArmsBelow m r.arms → BeforeBelow m (before ++ te) → Along r (before ++ te) (events (in_arm r m true) chosen ++ oe) v es n1 → Along r (before ++ te) (events (in_arm r m true) chosen) v es n1
      → count (events (in_arm r m true) chosen) ≡ accesses_of chosen
      → (Along (in_arm r m false) ((before ++ te) ++ events (in_arm r m true) chosen) oe v es (n1 + accesses_of chosen) → BeforeBelow (suc m + commands_in chosen) ((before ++ te) ++ events (in_arm r m true) chosen)
      → Done (in_arm r m false) ((before ++ te) ++ events (in_arm r m true) chosen) oe v es (core_other known (n1 + accesses_of chosen) other) no_commands)
      → Steps r (before ++ te) (events (in_arm r m true) chosen) v v es [] × Done r ((before ++ te) ++ events (in_arm r m true) chosen) oe v es (core_other known (n1 + accesses_of chosen) other) no_commands
  passed r m before te ce oe v es n1 n2 chosen other h below fresh s at_chosen counted go =
      let out = walk_passed r (before ++ te) (events (in_arm r m true) chosen) v es n1 (arm_passed r m (suc m) (suc m + commands_in chosen) true n1 (events (in_arm r m true) chosen) below (action_stands (in_arm r m true) (suc m) chosen h.0)) at_chosen in
      let inside = along_inside r m false (before ++ te) (events (in_arm r m true) chosen ++ oe) v es n1 fresh s in
      let inside_chosen = along_first (in_arm r m false) (before ++ te) (events (in_arm r m true) chosen) oe v es n1 inside in
      let out_inside = walk_passed (in_arm r m false) (before ++ te) (events (in_arm r m true) chosen) v es n1 (opposite_passed r m (suc m) (suc m + commands_in chosen) n1 (events (in_arm r m true) chosen) below (action_stands (in_arm r m true) (suc m) chosen h.0)) inside_chosen in
      let along = along_then (in_arm r m false) (before ++ te) (events (in_arm r m true) chosen) oe v v es [] n1 (n1 + accesses_of chosen) inside (ap (λ c. n1 + c) (sym counted)) out_inside in
      let here = subst (λ (l : List Event). Along (in_arm r m false) ((before ++ te) ++ events (in_arm r m true) chosen) oe v l (n1 + accesses_of chosen)) (append-nil es) along in
      let k = suc m + commands_in chosen in
      let all_below = before_both k (before ++ te) (events (in_arm r m true) chosen) (before_up m k (before ++ te) (omega arith) fresh)
      (part_below (in_arm r m true) (suc m) k (events (in_arm r m true) chosen) (arm_below m k r.arms true (omega arith) below) (action_stands (in_arm r m true) (suc m) chosen h.0)) in
      let d = go here all_below in
      (out, record { after = d.after; made = d.made; left_is = d.left_is; made_is = d.made_is; steps = steps_outside r m false ((before ++ te) ++ events (in_arm r m true) chosen) oe v d.after es d.made d.steps; touches = d.touches })

  -- an `if`: its test, the arm that is taken, and the other
  walk_choice : (r : Around) (m d x : ℕ) (before : List SourceEvent) (v : Variables) (es : List Event) (n : ℕ) (test : Term) (chosen : Action) (other : MaybeAction) (rest : CoreCommands) → IsNumbered (suc m) chosen × IsNumberedOther (suc m + commands_in chosen) other
      → IsNamedTerm test × (IsNamedAction chosen × IsNamedOther other) → Agrees n (term_accesses test + (accesses_of chosen + other_accesses other)) (λ k. form_makes k n (decides test chosen other))
      → FormBehind p d x (decides test chosen other) → ArmsBelow m r.arms → BeforeBelow m before → IsBehind p x before → Touches (core_action_form known n (decides test chosen other) rest) → Along r before (command_events r (site_of r m) (decides test chosen other)) v es n
      → ((before' : List SourceEvent) (v' : Variables) (es' : List Event) (n' : ℕ) (rest' : CoreCommands) → IsNumbered (suc m) chosen → IsNamedAction chosen → Agrees n' (accesses_of chosen) (λ k. makes k n' chosen)
      → ArmsBelow (suc m) (in_arm r m true).arms → BeforeBelow (suc m) before' → IsBehind p x before' → Touches (core_action known n' chosen rest') → Along (in_arm r m true) before' (events (in_arm r m true) chosen) v' es' n'
      → Done (in_arm r m true) before' (events (in_arm r m true) chosen) v' es' (core_action known n' chosen rest') rest')
      → ((before' : List SourceEvent) (v' : Variables) (es' : List Event) (n' : ℕ) → IsNumberedOther (suc m + commands_in chosen) other → IsNamedOther other → Agrees n' (other_accesses other) (λ k. other_makes k n' other)
      → ArmsBelow (suc m + commands_in chosen) (in_arm r m false).arms → BeforeBelow (suc m + commands_in chosen) before' → IsBehind p (behind_all x (standings d chosen)) before' → Touches (core_other known n' other) → Along (in_arm r m false) before' (other_events (in_arm r m false) other) v' es' n'
      → Done (in_arm r m false) before' (other_events (in_arm r m false) other) v' es' (core_other known n' other) no_commands)
      → Done r before (command_events r (site_of r m) (decides test chosen other)) v es (core_action_form known n (decides test chosen other) rest) rest
  walk_choice r m d x before v es n test chosen other rest h nv a hb below fresh seen t s first second =
      let te = source.source_term_events (site_of r m) test in
      let ce = events (in_arm r m true) chosen in
      let oe = other_events (in_arm r m false) other in
      let n1 = n + term_accesses test in
      let n2 = n + term_accesses test + accesses_of chosen in
      let tests_agree = first_agrees n (term_accesses test) (accesses_of chosen + other_accesses other) (λ k. is_between k n (term_accesses test)) (λ k. makes k n1 chosen || other_makes k n2 other) a
      (λ k e. two_within k n1 (accesses_of chosen) (other_accesses other) _ _ e (makes_within k n1 chosen) (other_within k n2 other)) in
      let arms_agree = then_agrees n (term_accesses test) (accesses_of chosen + other_accesses other) (λ k. is_between k n (term_accesses test)) (λ k. makes k n1 chosen || other_makes k n2 other) a (λ k e. within_is k n (term_accesses test) e) in
      let chosen_agrees = first_agrees n1 (accesses_of chosen) (other_accesses other) (λ k. makes k n1 chosen) (λ k. other_makes k n2 other) arms_agree (λ k e. other_within k n2 other e) in
      let other_agrees = then_agrees n1 (accesses_of chosen) (other_accesses other) (λ k. makes k n1 chosen) (λ k. other_makes k n2 other) arms_agree (λ k e. makes_within k n1 chosen e) in
      let tw = walk_term p b known path in_block share v0 touched r m before v es n test nv.0 (value_start r m before v es n test (ce ++ oe) (term_accesses test) tests_agree (omega arith) s) in
      let at_arms = along_then r before te (ce ++ oe) v v es _ n n1 s (ap (λ c. n + c) (sym (term_counted (site_of r m) test))) tw in
      let fresh_te = before_both m before te fresh (part_below r m m te below (term_stands r m m m test)) in
      let at_chosen = along_first r (before ++ te) ce oe v _ n1 at_arms in
      let counted = action_counted (in_arm r m true) chosen nv.1.0 in
      let tested = behind_test p x (site_of r m) before test seen hb.0 in
      choice_done r before te ce oe v es (core_term known n test) (core_action known n1 chosen no_commands) (core_other known n2 other) rest (holds_at b v (core_term known n test) path) refl t tw
      (λ yes_is. taken r m before te ce oe v es _ n1 n2 chosen other h below at_arms counted
      (first (before ++ te) v _ n1 no_commands h.0 nv.1.0 chosen_agrees (arm_below m (suc m) r.arms true (omega arith) below) (before_up m (suc m) (before ++ te) (omega arith) fresh_te) tested
      (λ e x. t e (or_left _ _ (or_left _ _ x))) (along_inside r m true (before ++ te) ce v _ n1 fresh_te at_chosen)))
      (λ not_is. passed r m before te ce oe v _ n1 n2 chosen other h below fresh_te at_arms at_chosen counted
      (λ along bb. second ((before ++ te) ++ ce) v _ n2 h.1 nv.1.1 other_agrees (arm_below m (suc m + commands_in chosen) r.arms false (omega arith) below) bb (behind_action p d x (in_arm r m true) (before ++ te) chosen tested hb.1.0) (λ e x. t e (or_left _ _ (or_right (any_assigns e (core_action known n1 chosen no_commands)) _ x))) along))

  mutual
    pub walk_action : (r : Around) (m d x e : ℕ) (before : List SourceEvent) (v : Variables) (es : List Event) (n : ℕ) (a : Action) (rest : CoreCommands) → ActionBehind p d x a → AssignsInside known e a → IsNumbered m a → IsNamedAction a → Agrees n (accesses_of a) (λ k. makes k n a)
        → ArmsBelow m r.arms → BeforeBelow m before → IsBehind p x before → Touches (core_action known n a rest) → Along r before (events r a) v es n → Done r before (events r a) v es (core_action known n a rest) rest
    walk_action r m d x e before v es n (action id place f) rest hb ins h nv a below fresh seen t s =
        subst (λ (i : ℕ). Along r before (command_events r (site_of r i) f) v es n → Done r before (command_events r (site_of r i) f) v es (core_action_form known n f rest) rest) (sym h.0)
        (walk_form r m d x e before v es n f rest hb ins h.1 nv a below fresh seen t) s

    walk_form : (r : Around) (m d x e : ℕ) (before : List SourceEvent) (v : Variables) (es : List Event) (n : ℕ) (f : ActionForm) (rest : CoreCommands) → FormBehind p d x f → FormAssignsInside known e f → IsNumberedInside (suc m) f → IsNamedForm f
        → Agrees n (own_accesses f + inner_accesses f) (λ k. form_makes k n f) → ArmsBelow m r.arms → BeforeBelow m before → IsBehind p x before → Touches (core_action_form known n f rest) → Along r before (command_events r (site_of r m) f) v es n
        → Done r before (command_events r (site_of r m) f) v es (core_action_form known n f rest) rest
    walk_form r m d x e before v es n (lets name declared None) rest hb ins h nv a below fresh seen t s =
        assigned_done r before [] v es [] name (first_value known n declared None) rest hb.0 t refl (walk_none p b known path in_block share v0 touched r before v es s.near s.knows)
    walk_form r m d x e before v es n (lets name declared (Some value)) rest hb ins h nv a below fresh seen t s =
        assigned_done r before _ v es _ name (core_term known n value) rest hb.0 t refl
        (walk_term p b known path in_block share v0 touched r m before v es n value nv.1 (value_start r m before v es n value (source.assigned name.entity ∷ []) (term_accesses value + 0) a (omega arith) s))
    walk_form r m d x e before v es n (assigns target value) rest hb ins h nv a below fresh seen t s =
        assigned_done r before _ v es _ target (core_term known n value) rest hb.0 t refl
        (walk_term p b known path in_block share v0 touched r m before v es n value nv.1 (value_start r m before v es n value (source.assigned target.entity ∷ []) (term_accesses value + 0) a (omega arith) s))
    walk_form r m d x e before v es n (reduces target o value) rest hb ins h nv a below fresh seen t s =
        assigned_done r before _ v es _ target _ rest hb.0 t (operation_events p b known path in_block share v0 touched v o (meaning.kind_of known target) (kind_found value) _ (core_term known n value))
        (walk_term p b known path in_block share v0 touched r m before v es n value nv.1 (value_start r m before v es n value (source.assigned target.entity ∷ []) (term_accesses value + 0) a (omega arith) s))
    walk_form r m d x e before v es n (stores target value) rest hb ins h nv a below fresh seen t s =
        command_done r before _ v es (store_to known (n + term_accesses value) target (core_term known n value)) rest (store_left (n + term_accesses value) target (core_term known n value) v nv.0) t
        (write_steps r m before v es n (n + term_accesses value) target value nv.0 nv.1 refl
        (starts_so r before (source.source_term_events (site_of r m) value ++ write_events (site_of r m) target) v es n
        (λ k l u. own_inside n (term_accesses value + term_accesses target) (term_accesses value + term_accesses target + 0) a (omega arith) k l
        (let c = form_counted r (site_of r m) m (stores target value) nv refl in omega (arith, u, c))) s))
    walk_form r m d x e before v es n (lets_memory name shape shape_places value) rest hb ins h nv a below fresh seen t s = done_nothing r before [] v es rest (walk_none p b known path in_block share v0 touched r before v es s.near s.knows) t
    walk_form r m d x e before v es n (views name parent form) rest hb ins h nv a below fresh seen t s =
        walk_kept r m d x e before v es n (hidden_in (way_of known name)) (offsets_of form) rest (head_is d x name.entity form hb.0) hb.1 ins nv seen t
        (starts_so r before (source.source_terms_events (site_of r m) (terms (offsets_of form))) v es n
        (λ k l u. own_inside n (terms_accesses (terms (offsets_of form))) (terms_accesses (terms (offsets_of form)) + 0) a (omega arith) k l
        (let c = terms_counted (site_of r m) (terms (offsets_of form)) in omega (arith, u, c))) s)
    walk_form r m d x e before v es n (calls function arguments) rest hb ins h nv a below fresh seen t s = done_nothing r before [] v es rest (walk_none p b known path in_block share v0 touched r before v es s.near s.knows) t
    walk_form r m d x e before v es n (repeats test body) rest hb ins h nv a below fresh seen t s =
        idle_done r before (command_events r (site_of r m) (repeats test body)) v es n (term_accesses test + accesses_of body) rest (form_counted r (site_of r m) m (repeats test body) nv refl) a t s
    walk_form r m d x e before v es n (counts iterator declared low high factor body combine combine_place) rest hb ins h nv a below fresh seen t s =
        subst (λ (q : List SourceEvent). Done r before q v es rest rest) refl
        (idle_done r before (command_events r (site_of r m) (counts iterator declared low high factor body combine combine_place)) v es n (0 + (accesses_of body + other_accesses combine)) rest (form_counted r (site_of r m) m (counts iterator declared low high factor body combine combine_place) nv refl) a t s)
    walk_form r m d x e before v es n (blocks body) rest hb ins h nv a below fresh seen t s =
        walk_groups r (suc m) d x e before v es n body rest hb ins h nv (wants_less n (0 + groups_accesses body) (groups_accesses body) (λ k. groups_make k n body) (omega arith) a) (arms_up m (suc m) r.arms (omega arith) below) (before_up m (suc m) before (omega arith) fresh) seen t s
    walk_form r m d x e before v es n (decides test chosen other) rest hb ins h nv a below fresh seen t s =
        walk_choice r m d x before v es n test chosen other rest h nv a hb below fresh seen t s
        (λ b2 v2 e2 n2 r2. walk_action (in_arm r m true) (suc m) d x e b2 v2 e2 n2 chosen r2 hb.1.0 ins.0)
        (λ b2 v2 e2 n2. walk_other (in_arm r m false) (suc m + commands_in chosen) d (behind_all x (standings d chosen)) e b2 v2 e2 n2 other hb.1.1 ins.1)

    pub walk_other : (r : Around) (m d x e : ℕ) (before : List SourceEvent) (v : Variables) (es : List Event) (n : ℕ) (o : MaybeAction) → OtherBehind p d x o → OtherAssignsInside known e o → IsNumberedOther m o → IsNamedOther o → Agrees n (other_accesses o) (λ k. other_makes k n o)
        → ArmsBelow m r.arms → BeforeBelow m before → IsBehind p x before → Touches (core_other known n o) → Along r before (other_events r o) v es n → Done r before (other_events r o) v es (core_other known n o) no_commands
    walk_other r m d x e before v es n no_action hb ins h nv a below fresh seen t s = done_nothing r before [] v es no_commands (walk_none p b known path in_block share v0 touched r before v es s.near s.knows) t
    walk_other r m d x e before v es n (one_action q) hb ins h nv a below fresh seen t s = walk_action r m d x e before v es n q no_commands hb ins h nv a below fresh seen t s

    pub walk_groups : (r : Around) (m d x e : ℕ) (before : List SourceEvent) (v : Variables) (es : List Event) (n : ℕ) (gs : Groups) (rest : CoreCommands) → GroupsBehind p d x gs → GroupsAssignInside known e gs → AreNumberedGroups m gs → AreNamedGroups gs → Agrees n (groups_accesses gs) (λ k. groups_make k n gs)
        → ArmsBelow m r.arms → BeforeBelow m before → IsBehind p x before → Touches (core_groups known n gs rest) → Along r before (groups_events r gs) v es n → Done r before (groups_events r gs) v es (core_groups known n gs rest) rest
    walk_groups r m d x e before v es n no_groups rest hb ins h nv a below fresh seen t s = done_nothing r before [] v es rest (walk_none p b known path in_block share v0 touched r before v es s.near s.knows) t
    walk_groups r m d x e before v es n (group_then part more) rest hb ins h nv a below fresh seen t s =
        let first = walk_part r m d x e before v es n part (core_groups known (n + part_accesses part) more rest) hb.0 ins.0 h.0 nv.0
        (first_agrees n (part_accesses part) (groups_accesses more) (λ k. part_makes k n part) (λ k. groups_make k (n + part_accesses part) more) a (λ k e. groups_within k (n + part_accesses part) more e)) below fresh seen t
        (along_first r before (part_events r part) (groups_events r more) v es n s) in
        done_then r before (part_events r part) (groups_events r more) v es _ (core_groups known (n + part_accesses part) more rest) rest first
        (walk_groups r (m + commands_in_part part) d (behind_all x (part_standings d part)) e (before ++ part_events r part) first.after (es ++ first.made) (n + part_accesses part) more rest hb.1 ins.1 h.1 nv.1
        (then_agrees n (part_accesses part) (groups_accesses more) (λ k. part_makes k n part) (λ k. groups_make k (n + part_accesses part) more) a (λ k e. part_within k n part e))
        (arms_up m (m + commands_in_part part) r.arms (omega arith) below)
        (before_both (m + commands_in_part part) before (part_events r part) (before_up m (m + commands_in_part part) before (omega arith) fresh) (part_below r m (m + commands_in_part part) (part_events r part) (arms_up m (m + commands_in_part part) r.arms (omega arith) below) (part_stands r m part h.0)))
        (behind_part p d x r before part seen hb.0)
        first.touches (along_then r before (part_events r part) (groups_events r more) v first.after es first.made n (n + part_accesses part) s (ap (λ c. n + c) (sym (part_counted r part nv.0))) first.steps))

    pub walk_part : (r : Around) (m d x e : ℕ) (before : List SourceEvent) (v : Variables) (es : List Event) (n : ℕ) (q : Actions) (rest : CoreCommands) → PartBehind p d x q → PartAssignsInside known e q → AreNumbered m q → AreNamedActions q → Agrees n (part_accesses q) (λ k. part_makes k n q)
        → ArmsBelow m r.arms → BeforeBelow m before → IsBehind p x before → Touches (core_part known n q rest) → Along r before (part_events r q) v es n → Done r before (part_events r q) v es (core_part known n q rest) rest
    walk_part r m d x e before v es n no_actions rest hb ins h nv a below fresh seen t s = done_nothing r before [] v es rest (walk_none p b known path in_block share v0 touched r before v es s.near s.knows) t
    walk_part r m d x e before v es n (action_then c more) rest hb ins h nv a below fresh seen t s =
        let first = walk_action r m d x e before v es n c (core_part known (n + accesses_of c) more rest) hb.0 ins.0 h.0 nv.0
        (first_agrees n (accesses_of c) (part_accesses more) (λ k. makes k n c) (λ k. part_makes k (n + accesses_of c) more) a (λ k e. part_within k (n + accesses_of c) more e)) below fresh seen t
        (along_first r before (events r c) (part_events r more) v es n s) in
        done_then r before (events r c) (part_events r more) v es _ (core_part known (n + accesses_of c) more rest) rest first
        (walk_part r (m + commands_in c) d (behind_all x (standings d c)) e (before ++ events r c) first.after (es ++ first.made) (n + accesses_of c) more rest hb.1 ins.1 h.1 nv.1
        (then_agrees n (accesses_of c) (part_accesses more) (λ k. makes k n c) (λ k. part_makes k (n + accesses_of c) more) a (λ k e. makes_within k n c e))
        (arms_up m (m + commands_in c) r.arms (omega arith) below)
        (before_both (m + commands_in c) before (events r c) (before_up m (m + commands_in c) before (omega arith) fresh) (part_below r m (m + commands_in c) (events r c) (arms_up m (m + commands_in c) r.arms (omega arith) below) (action_stands r m c h.0)))
        (behind_action p d x r before c seen hb.0)
        first.touches (along_then r before (events r c) (part_events r more) v first.after es first.made n (n + accesses_of c) s (ap (λ c. n + c) (sym (action_counted r c nv.0))) first.steps))
