-- The commands of a Straight phase stand among the events of the whole in their order, each with all that comes before
-- it, and all with the same arms and loops round them. By induction over commands: parts that join stand one
-- behind the other, and what stands inside stands among the events of what is round it.
use Rattle.std.proofs.Common.{◌≡◌, ℕ, suc, ◌+◌, ◌==◌, ◌&&◌, nat_lt, ◌<◌, ◌≤◌, Bool, true, false, if◌then◌else◌, List, [], ◌∷◌, ◌++◌, length, refl, sym, ◌∙◌, ap, subst, arith}
use Rattle.std.proofs.lemmas.List.{append_assoc, append-nil}
use Rattle.dh_base.specs.declared.places.Place.{Place}
use Rattle.dh_tree.specs.declared.trees.counters.Counter.{Counter}
use Rattle.dh_tree.specs.Numbers.{commands_in, commands_in_part, IsNumbered, IsNumberedInside, IsNumberedOther, AreNumberedGroups, AreNumbered}
use Rattle.dh_tree.specs.PlainTrees.{shrinks, splits, suffixes, shifts, Action, action, ActionForm, lets, lets_memory, views, assigns, stores, reduces, calls, blocks, decides, repeats, counts, MaybeAction, no_action, one_action, Actions, no_actions, action_then, Groups, no_groups, group_then, Program}
use Rattle.dh_meaning.specs.AccessNumbers.{term_accesses, accesses_of, part_accesses}
use Rattle.dh_meaning.specs.Phases.{Located, located, Phase, straight, turns, repeated, decided, Phases, no_phases, phase, of_list, one_straight, joined, are_straight, one_command, folded, turn_phases, choice_phases, phases, form_phases, other_phases, groups_phases, parts_phases, phases_of}
use Rattle.dh_meaning.specs.Sites.{Arm, Around, nothing_around, in_arm, in_loop, loop_of}
use Rattle.dh_meets.specs.SourceEvents.{SourceEvent, assigned, site_of, source_term_events, events, command_events, other_events, groups_events, part_events, trace}
use Rattle.dh_sound.specs.Straight.{IsNamedAction, IsNamedForm, IsNamedOther, AreNamedGroups, AreNamedActions}
use Rattle.dh_sound.proofs.KnownReads.{count_joined}
use Rattle.dh_sound.proofs.Makes.{action_counted, part_counted}
use Rattle.dh_sound.proofs.Sites.{each_both, each_so, arms_within, StandsWithin, action_stands, part_stands, term_stands}
use Rattle.dh_sound.proofs.TermWalks.{term_counted}
use Rattle.dh_sound.specs.Trails.{count, EachAccess, Below, AllBelow, StandsBehind, of_located, FollowsBy, Follows}
use Rattle.dh_sound.specs.BehindViews.{ActionBehind, FormBehind, GroupsBehind, OtherBehind, PartBehind, StandsBehindViews}
use Rattle.dh_sound.specs.ViewTrails.{FollowsViews, IsBehind, StandsViews}
use Rattle.dh_sound.proofs.EventsBehind.{behind_action, behind_part, behind_test, behind_then}
use Rattle.dh_meaning.specs.Bindings.{depth_inside}
use Rattle.dh_meaning.specs.Ways.{behind_all, part_standings, standings}

pub below_up : (m k : ℕ) (arms : List Arm) → m ≤ k → Below m arms → Below k arms
below_up m k arms l a = arms_within 0 m 0 k arms (omega arith) l a

pub all_up : (m k : ℕ) (es : List SourceEvent) → m ≤ k → AllBelow m es → AllBelow k es
all_up m k es l h = each_so _ _ es (λ a x. below_up m k a.site.arms l x) h

below_both : (m : ℕ) (one two : List Arm) → Below m one → Below m two → Below m (one ++ two)
below_both m [] two a c = c
below_both m (x ∷ one) two a c = (a.0, below_both m one two a.1 c)

pub stands_below : (r : Around) (lo hi : ℕ) (es : List SourceEvent) → Below hi r.arms → EachAccess (StandsWithin r lo hi) es → AllBelow hi es
stands_below r lo hi es a h = each_so _ _ es (λ x s. subst (λ (l : List Arm). Below hi l) (sym s.arms_are) (below_both hi r.arms s.arms a (arms_within lo hi 0 hi s.arms (omega arith) (omega arith) s.within))) h

-- the events of parts of an unordered list
abbrev pub together : List (List SourceEvent) → List SourceEvent
together [] = []
together (e ∷ es) = e ++ together es

-- Whatever is asked of each command where it stands.
module _ (S : Around → List SourceEvent → Located → Type 0) where
  -- with further events behind
  pub follows_longer : (r : Around) (before part behind : List SourceEvent) (cs : List Located) → FollowsBy S r before part cs → FollowsBy S r before (part ++ behind) cs
  follows_longer r before part behind [] f = tt
  follows_longer r before part behind (c ∷ cs) (gap, (rest, (is, (stands, more)))) =
      (gap, (rest ++ behind, (ap (λ l. l ++ behind) is ∙ (append_assoc gap (of_located c ++ rest) behind ∙ ap (λ l. gap ++ l) (append_assoc (of_located c) rest behind)), (stands, follows_longer r ((before ++ gap) ++ of_located c) rest behind cs more))))

  -- with further events in front and behind
  pub follows_wider : (r : Around) (before front part behind : List SourceEvent) (cs : List Located) → FollowsBy S r (before ++ front) part cs → FollowsBy S r before (front ++ (part ++ behind)) cs
  follows_wider r before front part behind [] f = tt
  follows_wider r before front part behind (c ∷ cs) (gap, (rest, (is, (stands, more)))) = (
    front ++ gap,
    (
      rest ++ behind,
      (
        ap (λ l. front ++ (l ++ behind)) is ∙ (ap (λ l. front ++ l) (append_assoc gap (of_located c ++ rest) behind ∙ ap (λ l. gap ++ l) (append_assoc (of_located c) rest behind)) ∙ sym (append_assoc front gap (of_located c ++ (rest ++ behind)))),
        (
          subst (λ (l : List SourceEvent). S r l c) (append_assoc before front gap) stands,
          subst (λ (l : List SourceEvent). FollowsBy S r (l ++ of_located c) (rest ++ behind) cs) (append_assoc before front gap) (follows_longer r _ rest behind cs more),
        ),
      ),
    ),
  )

  -- one behind the other
  pub follows_both : (r : Around) (before one two : List SourceEvent) (cs ds : List Located) → FollowsBy S r before one cs → FollowsBy S r (before ++ one) two ds → FollowsBy S r before (one ++ two) (cs ++ ds)
  follows_both r before one two [] ds f g = subst (λ (l : List SourceEvent). FollowsBy S r before (one ++ l) ds) (append-nil two) (follows_wider r before one two [] ds g)
  follows_both r before one two (c ∷ cs) ds (gap, (rest, (is, (stands, more)))) g = (
    gap,
    (
      rest ++ two,
      (
        ap (λ l. l ++ two) is ∙ (append_assoc gap (of_located c ++ rest) two ∙ ap (λ l. gap ++ l) (append_assoc (of_located c) rest two)),
        (
          stands,
          follows_both r ((before ++ gap) ++ of_located c) rest two cs ds more
              (subst (λ (l : List SourceEvent). FollowsBy S r l two ds) (ap (λ l. before ++ l) is ∙ (sym (append_assoc before gap (of_located c ++ rest)) ∙ sym (append_assoc (before ++ gap) (of_located c) rest))) g),
        ),
      ),
    ),
  )

  -- Of phases: those of the list itself have this round them, those inside have something round them.
  abbrev mutual
    pub InnerBy : (before part : List SourceEvent) → Phase → Type 0
    InnerBy before part (straight cs) = (r : Around) × FollowsBy S r before part cs
    InnerBy before part (turns loop n body) = InnersBy before part body
    InnerBy before part (repeated loop body) = ((r : Around) × FollowsBy S r before part (loop ∷ [])) × InnersBy before part body
    InnerBy before part (decided choice chosen other) = ((r : Around) × FollowsBy S r before part (choice ∷ [])) × (InnersBy before part chosen × InnersBy before part other)

    pub InnersBy : (before part : List SourceEvent) → Phases → Type 0
    InnersBy before part no_phases = Unit {0}
    InnersBy before part (phase p ps) = InnerBy before part p × InnersBy before part ps

  abbrev pub TopBy : Around → (before part : List SourceEvent) → Phase → Type 0
  TopBy r before part (straight cs) = FollowsBy S r before part cs
  TopBy r before part (turns loop n body) = InnerBy before part (turns loop n body)
  TopBy r before part (repeated loop body) = InnerBy before part (repeated loop body)
  TopBy r before part (decided choice chosen other) = InnerBy before part (decided choice chosen other)

  abbrev pub TopsBy : Around → (before part : List SourceEvent) → List Phase → Type 0
  TopsBy r before part [] = Unit {0}
  TopsBy r before part (p ∷ ps) = TopBy r before part p × TopsBy r before part ps

  tops_both : (r : Around) (before part : List SourceEvent) (ps qs : List Phase) → TopsBy r before part ps → TopsBy r before part qs → TopsBy r before part (ps ++ qs)
  tops_both r before part [] qs a b = b
  tops_both r before part (p ∷ ps) qs a b = (a.0, tops_both r before part ps qs a.1 b)

  mutual
    inner_wider : (before front part behind : List SourceEvent) (p : Phase) → InnerBy (before ++ front) part p → InnerBy before (front ++ (part ++ behind)) p
    inner_wider before front part behind (straight cs) (r, f) = (r, follows_wider r before front part behind cs f)
    inner_wider before front part behind (turns loop n body) f = inners_wider before front part behind body f
    inner_wider before front part behind (repeated loop body) f = ((f.0.0, follows_wider f.0.0 before front part behind (loop ∷ []) f.0.1), inners_wider before front part behind body f.1)
    inner_wider before front part behind (decided choice chosen other) f =
        ((f.0.0, follows_wider f.0.0 before front part behind (choice ∷ []) f.0.1), (inners_wider before front part behind chosen f.1.0, inners_wider before front part behind other f.1.1))

    inners_wider : (before front part behind : List SourceEvent) (ps : Phases) → InnersBy (before ++ front) part ps → InnersBy before (front ++ (part ++ behind)) ps
    inners_wider before front part behind no_phases f = tt
    inners_wider before front part behind (phase p ps) f = (inner_wider before front part behind p f.0, inners_wider before front part behind ps f.1)

  top_wider : (r : Around) (before front part behind : List SourceEvent) (p : Phase) → TopBy r (before ++ front) part p → TopBy r before (front ++ (part ++ behind)) p
  top_wider r before front part behind (straight cs) f = follows_wider r before front part behind cs f
  top_wider r before front part behind (turns loop n body) f = inner_wider before front part behind (turns loop n body) f
  top_wider r before front part behind (repeated loop body) f = inner_wider before front part behind (repeated loop body) f
  top_wider r before front part behind (decided choice chosen other) f = inner_wider before front part behind (decided choice chosen other) f

  tops_wider : (r : Around) (before front part behind : List SourceEvent) (ps : List Phase) → TopsBy r (before ++ front) part ps → TopsBy r before (front ++ (part ++ behind)) ps
  tops_wider r before front part behind [] f = tt
  tops_wider r before front part behind (p ∷ ps) f = (top_wider r before front part behind p f.0, tops_wider r before front part behind ps f.1)

  tops_inside : (r : Around) (before part : List SourceEvent) (ps : List Phase) → TopsBy r before part ps → InnersBy before part (of_list ps)
  tops_inside r before part [] f = tt
  tops_inside r before part (straight cs ∷ ps) f = ((r, f.0), tops_inside r before part ps f.1)
  tops_inside r before part (turns loop n body ∷ ps) f = (f.0, tops_inside r before part ps f.1)
  tops_inside r before part (repeated loop body ∷ ps) f = (f.0, tops_inside r before part ps f.1)
  tops_inside r before part (decided choice chosen other ∷ ps) f = (f.0, tops_inside r before part ps f.1)

  one_top : (r : Around) (before part : List SourceEvent) (cs : List Located) → FollowsBy S r before part cs → TopsBy r before part (one_straight cs)
  one_top r before part [] f = tt
  one_top r before part (c ∷ cs) f = (f, tt)

  -- parts of an unordered list, each with its events
  abbrev pub AllTopsBy : Around → (before : List SourceEvent) → List (List SourceEvent) → List (List Phase) → Type 0
  AllTopsBy r before [] [] = Unit {0}
  AllTopsBy r before [] (q ∷ qs) = ⊥
  AllTopsBy r before (e ∷ es) [] = ⊥
  AllTopsBy r before (e ∷ es) (q ∷ qs) = TopsBy r before e q × AllTopsBy r (before ++ e) es qs

  none_more : (r : Around) (before : List SourceEvent) (es : List (List SourceEvent)) (qs : List (List Phase)) → AllTopsBy r before es qs → AllTopsBy r (before ++ []) es qs
  none_more r before es qs a = subst (λ (l : List SourceEvent). AllTopsBy r l es qs) (sym (append-nil before)) a

  -- a stepped part ends the straight commands before it
  stepped_tops : (r : Around) (before part e : List SourceEvent) (cs : List Located) (es : List (List SourceEvent)) (q : List Phase) (qs : List (List Phase)) → FollowsBy S r before part cs → TopsBy r (before ++ part) e q × AllTopsBy r ((before ++ part) ++ e) es qs
      → TopsBy r ((before ++ part) ++ e) ([] ++ together es) (joined [] qs) → TopsBy r before (part ++ (e ++ together es)) (one_straight cs ++ (q ++ joined [] qs))
  stepped_tops r before part e cs es q qs f a rest =
      tops_both r before (part ++ (e ++ together es)) (one_straight cs) (q ++ joined [] qs) (one_top r before (part ++ (e ++ together es)) cs (follows_longer r before part (e ++ together es) cs f))
      (tops_both r before (part ++ (e ++ together es)) q (joined [] qs) (tops_wider r before part e (together es) q a.0)
      (subst (λ (l : List SourceEvent). TopsBy r before l (joined [] qs)) (append_assoc part e (together es))
      (subst (λ (l : List SourceEvent). TopsBy r before ((part ++ e) ++ l) (joined [] qs)) (append-nil (together es)) (tops_wider r before (part ++ e) (together es) [] (joined [] qs) (subst (λ (l : List SourceEvent). TopsBy r l (together es) (joined [] qs)) (append_assoc before part e) rest)))))

  -- behind straight commands that stand among some events, the parts that follow them
  pub joined_tops : (r : Around) (before part : List SourceEvent) (cs : List Located) (es : List (List SourceEvent)) (qs : List (List Phase)) → FollowsBy S r before part cs → AllTopsBy r (before ++ part) es qs
      → TopsBy r before (part ++ together es) (joined cs qs)
  joined_tops r before part cs [] [] f a = subst (λ (l : List SourceEvent). TopsBy r before l (one_straight cs)) (sym (append-nil part)) (one_top r before part cs f)
  joined_tops r before part cs [] (q ∷ qs) f a = elim a [ ]
  joined_tops r before part cs (e ∷ es) [] f a = elim a [ ]
  joined_tops r before part cs (e ∷ es) ([] ∷ qs) f a =
      subst (λ (l : List SourceEvent). TopsBy r before l (joined cs qs)) (append_assoc part e (together es))
      (joined_tops r before (part ++ e) cs es qs (follows_longer r before part e cs f) (subst (λ (l : List SourceEvent). AllTopsBy r l es qs) (append_assoc before part e) a.1))
  joined_tops r before part cs (e ∷ es) ((straight ds ∷ []) ∷ qs) f a =
      subst (λ (l : List SourceEvent). TopsBy r before l (joined (cs ++ ds) qs)) (append_assoc part e (together es))
      (joined_tops r before (part ++ e) (cs ++ ds) es qs (follows_both r before part e cs ds f a.0.0) (subst (λ (l : List SourceEvent). AllTopsBy r l es qs) (append_assoc before part e) a.1))
  joined_tops r before part cs (e ∷ es) ((turns loop n body ∷ []) ∷ qs) f a = stepped_tops r before part e cs es (turns loop n body ∷ []) qs f a (joined_tops r ((before ++ part) ++ e) [] [] es qs tt (none_more r ((before ++ part) ++ e) es qs a.1))
  joined_tops r before part cs (e ∷ es) ((repeated loop body ∷ []) ∷ qs) f a = stepped_tops r before part e cs es (repeated loop body ∷ []) qs f a (joined_tops r ((before ++ part) ++ e) [] [] es qs tt (none_more r ((before ++ part) ++ e) es qs a.1))
  joined_tops r before part cs (e ∷ es) ((decided choice chosen other ∷ []) ∷ qs) f a =
      stepped_tops r before part e cs es (decided choice chosen other ∷ []) qs f a (joined_tops r ((before ++ part) ++ e) [] [] es qs tt (none_more r ((before ++ part) ++ e) es qs a.1))
  joined_tops r before part cs (e ∷ es) ((p ∷ q ∷ ps) ∷ qs) f a = stepped_tops r before part e cs es (p ∷ q ∷ ps) qs f a (joined_tops r ((before ++ part) ++ e) [] [] es qs tt (none_more r ((before ++ part) ++ e) es qs a.1))

  -- The phases of a turn.
  folded_tops : (r : Around) (before be fe : List SourceEvent) (body fold : List Phase) → TopsBy r before be body → TopsBy r (before ++ be) fe fold → TopsBy r before (be ++ fe) (folded body fold)
  folded_tops r before be fe [] fold f g = subst (λ (l : List SourceEvent). TopsBy r before (be ++ l) fold) (append-nil fe) (tops_wider r before be fe [] fold g)
  folded_tops r before be fe (straight cs ∷ []) fold f g = subst (λ (l : List SourceEvent). TopsBy r before (be ++ l) (joined cs (fold ∷ []))) (append-nil fe) (joined_tops r before be cs (fe ∷ []) (fold ∷ []) f.0 (g, tt))
  folded_tops r before be fe (turns loop n body ∷ []) fold f g = (tops_longer f.0, folded_tops r before be fe [] fold tt g)
    where
      tops_longer : InnerBy before be (turns loop n body) → InnerBy before (be ++ fe) (turns loop n body)
      tops_longer h = inner_wider before [] be fe (turns loop n body) (subst (λ (l : List SourceEvent). InnerBy l be (turns loop n body)) (sym (append-nil before)) h)
  folded_tops r before be fe (repeated loop body ∷ []) fold f g = (tops_longer f.0, folded_tops r before be fe [] fold tt g)
    where
      tops_longer : InnerBy before be (repeated loop body) → InnerBy before (be ++ fe) (repeated loop body)
      tops_longer h = inner_wider before [] be fe (repeated loop body) (subst (λ (l : List SourceEvent). InnerBy l be (repeated loop body)) (sym (append-nil before)) h)
  folded_tops r before be fe (decided choice chosen other ∷ []) fold f g = (tops_longer f.0, folded_tops r before be fe [] fold tt g)
    where
      tops_longer : InnerBy before be (decided choice chosen other) → InnerBy before (be ++ fe) (decided choice chosen other)
      tops_longer h = inner_wider before [] be fe (decided choice chosen other) (subst (λ (l : List SourceEvent). InnerBy l be (decided choice chosen other)) (sym (append-nil before)) h)
  folded_tops r before be fe (p ∷ q ∷ ps) fold f g =
      (top_wider r before [] be fe p (subst (λ (l : List SourceEvent). TopBy r l be p) (sym (append-nil before)) f.0), folded_tops r before be fe (q ∷ ps) fold f.1 g)

  turn_tops : (r r1 : Around) (before front part : List SourceEvent) (c : Located) (n : ℕ) (turn : List Phase) → TopsBy r1 (before ++ front) part turn → TopsBy r before (front ++ part) (turn_phases c n turn)
  turn_tops r r1 before front part c n [] f = tt
  turn_tops r r1 before front part c n (p ∷ ps) f = by (n == 0)
    where
      by : (t : Bool) → TopsBy r before (front ++ part) (if t then [] else turns c n (of_list (p ∷ ps)) ∷ [])
      by true = tt
      by false = (subst (λ (l : List SourceEvent). InnersBy before (front ++ l) (of_list (p ∷ ps))) (append-nil part) (inners_wider before front part [] (of_list (p ∷ ps)) (tops_inside r1 (before ++ front) part (p ∷ ps) f)), tt)

  -- A command by itself.
  alone_follows : (r : Around) (before part : List SourceEvent) (c : Located) → part ≡ of_located c → S r before c → FollowsBy S r before part (c ∷ [])
  alone_follows r before part c e s = ([], ([], (e ∙ sym (append-nil (of_located c)), (subst (λ (l : List SourceEvent). S r l c) (sym (append-nil before)) s, tt))))

  choice_tops : (r r1 r2 : Around) (before te ce oe : List SourceEvent) (c : Located) (chosen other : List Phase) → te ++ (ce ++ oe) ≡ of_located c → S r before c → TopsBy r1 (before ++ te) ce chosen → TopsBy r2 ((before ++ te) ++ ce) oe other
      → TopsBy r before (te ++ (ce ++ oe)) (choice_phases c chosen other)
  choice_tops r r1 r2 before te ce oe c chosen other e s f g = by (are_straight chosen && are_straight other)
    where
      all : FollowsBy S r before (te ++ (ce ++ oe)) (c ∷ [])
      all = alone_follows r before (te ++ (ce ++ oe)) c e s

      first : InnersBy before (te ++ (ce ++ oe)) (of_list chosen)
      first = inners_wider before te ce oe (of_list chosen) (tops_inside r1 (before ++ te) ce chosen f)

      second : InnersBy before (te ++ (ce ++ oe)) (of_list other)
      second =
          subst (λ (l : List SourceEvent). InnersBy before l (of_list other)) (append_assoc te ce oe)
          (subst (λ (l : List SourceEvent). InnersBy before ((te ++ ce) ++ l) (of_list other)) (append-nil oe)
          (inners_wider before (te ++ ce) oe [] (of_list other) (subst (λ (l : List SourceEvent). InnersBy l oe (of_list other)) (append_assoc before te ce) (tops_inside r2 ((before ++ te) ++ ce) oe other g))))

      by : (t : Bool) → TopsBy r before (te ++ (ce ++ oe)) (if t then one_command c else decided c (of_list chosen) (of_list other) ∷ [])
      by true = (all, tt)
      by false = (((r, all), (first, second)), tt)

  front_tops : (r : Around) (before part behind : List SourceEvent) (ps : List Phase) → TopsBy r before part ps → TopsBy r before (part ++ behind) ps
  front_tops r before part behind ps f = tops_wider r before [] part behind ps (subst (λ (l : List SourceEvent). TopsBy r l part ps) (sym (append-nil before)) f)

-- What is asked of each command tells something else of it.
module _ (S T : Around → List SourceEvent → Located → Type 0) (tells : (r : Around) (before : List SourceEvent) (c : Located) → S r before c → T r before c) where
  pub follows_so : (r : Around) (before part : List SourceEvent) (cs : List Located) → FollowsBy S r before part cs → FollowsBy T r before part cs
  follows_so r before part [] f = tt
  follows_so r before part (c ∷ cs) (gap, (rest, (is, (stands, more)))) = (gap, (rest, (is, (tells r (before ++ gap) c stands, follows_so r ((before ++ gap) ++ of_located c) rest cs more))))

  mutual
    inner_so : (before part : List SourceEvent) (p : Phase) → InnerBy S before part p → InnerBy T before part p
    inner_so before part (straight cs) (r, f) = (r, follows_so r before part cs f)
    inner_so before part (turns loop n body) f = inners_so before part body f
    inner_so before part (repeated loop body) f = ((f.0.0, follows_so f.0.0 before part (loop ∷ []) f.0.1), inners_so before part body f.1)
    inner_so before part (decided choice chosen other) f =
        ((f.0.0, follows_so f.0.0 before part (choice ∷ []) f.0.1), (inners_so before part chosen f.1.0, inners_so before part other f.1.1))

    inners_so : (before part : List SourceEvent) (ps : Phases) → InnersBy S before part ps → InnersBy T before part ps
    inners_so before part no_phases f = tt
    inners_so before part (phase p ps) f = (inner_so before part p f.0, inners_so before part ps f.1)

  top_so : (r : Around) (before part : List SourceEvent) (p : Phase) → TopBy S r before part p → TopBy T r before part p
  top_so r before part (straight cs) f = follows_so r before part cs f
  top_so r before part (turns loop n body) f = inner_so before part (turns loop n body) f
  top_so r before part (repeated loop body) f = inner_so before part (repeated loop body) f
  top_so r before part (decided choice chosen other) f = inner_so before part (decided choice chosen other) f

  pub tops_so : (r : Around) (before part : List SourceEvent) (ps : List Phase) → TopsBy S r before part ps → TopsBy T r before part ps
  tops_so r before part [] f = tt
  tops_so r before part (p ∷ ps) f = (top_so r before part p f.0, tops_so r before part ps f.1)

-- Of each command that it stands behind those before it.
abbrev pub Tops : Around → (before part : List SourceEvent) → List Phase → Type 0
Tops r before part ps = TopsBy (λ round es c. StandsBehind round es c) r before part ps

pub follows_plain : (p : Program) (r : Around) (before part : List SourceEvent) (cs : List Located) → FollowsViews p r before part cs → Follows r before part cs
follows_plain p r before part cs f = follows_so (λ round es c. StandsViews p round es c) (λ round es c. StandsBehind round es c) (λ round es c s. s.stands) r before part cs f

both_below : (m : ℕ) (one two : List SourceEvent) → AllBelow m one → AllBelow m two → AllBelow m (one ++ two)
both_below m one two a c = each_both _ one two a c

arm_up : (m k : ℕ) (arms : List Arm) (first : Bool) → m < k → Below m arms → Below k (arms ++ record { command = m; first = first } ∷ [])
arm_up m k arms first l a = below_both k arms (record { command = m; first = first } ∷ []) (below_up m k arms (omega (arith, l)) a) ((omega arith, l), tt)

-- what stands where it is looked at: numbers, names, and what is before
pub record Sited (r : Around) (m n : ℕ) (before : List SourceEvent) : Type 0 where
  pub first : n ≡ count before
  pub arms : Below m r.arms
  pub fresh : AllBelow m before

here_behind : (p : Program) (r : Around) (m n d x : ℕ) (before : List SourceEvent) (a : Action) → IsNumbered m a → IsNamedAction a → ActionBehind p d x a → Sited r m n before → IsBehind p x before → StandsViews p r before (located r n a)
here_behind p r m n d x before a h nv hb s seen = record {
  stands = record { around = refl; first = s.first; number = m; numbered = h; names = nv; arms = s.arms; fresh = s.fresh };
  depth = d;
  first = x;
  behind = hb;
  seen = seen;
}

sited_then : (r : Around) (m k n c : ℕ) (before part : List SourceEvent) → Sited r m n before → m ≤ k → count part ≡ c → AllBelow k part → Sited r k (n + c) (before ++ part)
sited_then r m k n c before part s l e a = record {
  first = let d = count_joined before part in let f = s.first in omega (arith, d, f, e);
  arms = below_up m k r.arms l s.arms;
  fresh = both_below k before part (all_up m k before l s.fresh) a;
}

sited_arm : (r : Around) (m k n : ℕ) (first : Bool) (before : List SourceEvent) → m < k → Below m r.arms → Sited r k n before → Sited (in_arm r m first) k n before
sited_arm r m k n first before l a s = record { first = s.first; arms = arm_up m k r.arms first l a; fresh = s.fresh }

sited_loop : (r : Around) (m n : ℕ) (c : Counter) (before : List SourceEvent) → Sited r m n before → Sited (in_loop r c) m n before
sited_loop r m n c before s = by (nat_lt 1 c.factor)
  where
    by : (t : Bool) → Sited (if t then record { arms = r.arms; loops = r.loops ++ c ∷ [] } else r) m n before
    by true = record { first = s.first; arms = s.arms; fresh = s.fresh }
    by false = s

loop_arms : (r : Around) (c : Counter) (m : ℕ) → Below m r.arms → Below m (in_loop r c).arms
loop_arms r c m a = by (nat_lt 1 c.factor)
  where
    by : (t : Bool) → Below m (if t then record { arms = r.arms; loops = r.loops ++ c ∷ [] } else r).arms
    by true = a
    by false = a

abbrev parts_of : Around → Actions → List (List SourceEvent)
parts_of r no_actions = []
parts_of r (action_then a rest) = events r a ∷ parts_of r rest

parts_together : (r : Around) (q : Actions) → together (parts_of r q) ≡ part_events r q
parts_together r no_actions = refl
parts_together r (action_then a rest) = ap (λ l. events r a ++ l) (parts_together r rest)

module _ (p : Program) where
  abbrev Stood : Around → List SourceEvent → Located → Type 0
  Stood r before c = StandsViews p r before c

  abbrev Top : Around → (before part : List SourceEvent) → List Phase → Type 0
  Top r before part ps = TopsBy Stood r before part ps

  -- a command by itself
  alone : (r : Around) (m n d x : ℕ) (before : List SourceEvent) (a : Action) → IsNumbered m a → IsNamedAction a → ActionBehind p d x a → Sited r m n before → IsBehind p x before
      → FollowsBy Stood r before (events r a) (located r n a ∷ [])
  alone r m n d x before a h nv hb s seen = alone_follows Stood r before (events r a) (located r n a) refl (here_behind p r m n d x before a h nv hb s seen)

  mutual
    pub action_tops : (r : Around) (m n d x : ℕ) (before : List SourceEvent) (a : Action) → IsNumbered m a → IsNamedAction a → ActionBehind p d x a → Sited r m n before → IsBehind p x before
        → Top r before (events r a) (phases r n a)
    action_tops r m n d x before (action id place f) h nv hb s seen =
        subst (λ (i : ℕ). Top r before (command_events r (site_of r i) f) (form_phases r n i place f)) (sym h.0) (form_tops r m n d x before place f h.1 nv hb s seen)

    form_tops : (r : Around) (m n d x : ℕ) (before : List SourceEvent) (place : Place) (f : ActionForm) → IsNumberedInside (suc m) f → IsNamedForm f → FormBehind p d x f → Sited r m n before → IsBehind p x before
        → Top r before (command_events r (site_of r m) f) (form_phases r n m place f)
    form_tops r m n d x before place (lets name declared value) h nv hb s seen = (alone r m n d x before (action m place (lets name declared value)) (refl, h) nv hb s seen, tt)
    form_tops r m n d x before place (assigns target value) h nv hb s seen = (alone r m n d x before (action m place (assigns target value)) (refl, h) nv hb s seen, tt)
    form_tops r m n d x before place (stores target value) h nv hb s seen = (alone r m n d x before (action m place (stores target value)) (refl, h) nv hb s seen, tt)
    form_tops r m n d x before place (reduces target op value) h nv hb s seen = (alone r m n d x before (action m place (reduces target op value)) (refl, h) nv hb s seen, tt)
    form_tops r m n d x before place (lets_memory name shape shape_places value) h nv hb s seen = tt
    form_tops r m n d x before place (views name parent (shrinks by by_place)) h nv hb s seen = tt
    form_tops r m n d x before place (views name parent (splits by by_place)) h nv hb s seen = tt
    form_tops r m n d x before place (views name parent (suffixes by by_place)) h nv hb s seen = (alone r m n d x before (action m place (views name parent (suffixes by by_place))) (refl, h) nv hb s seen, tt)
    form_tops r m n d x before place (views name parent (shifts by)) h nv hb s seen = (alone r m n d x before (action m place (views name parent (shifts by))) (refl, h) nv hb s seen, tt)
    form_tops r m n d x before place (calls function arguments) h nv hb s seen = tt
    form_tops r m n d x before place (blocks body) h nv hb s seen =
        groups_tops r (suc m) n d x before body h nv hb (record { first = s.first; arms = below_up m (suc m) r.arms (omega arith) s.arms; fresh = all_up m (suc m) before (omega arith) s.fresh }) seen
    form_tops r m n d x before place (decides test chosen other) h nv hb s seen =
        let te = source_term_events (site_of r m) test in
        let st = sited_then r m (suc m) n (term_accesses test) before te s (omega arith) (term_counted (site_of r m) test) (stands_below r (suc m) (suc m) te (below_up m (suc m) r.arms (omega arith) s.arms) (term_stands r m (suc m) (suc m) test)) in
        let so = sited_then (in_arm r m true) (suc m) (suc m + commands_in chosen) (n + term_accesses test) (accesses_of chosen) (before ++ te) (events (in_arm r m true) chosen)
        (sited_arm r m (suc m) (n + term_accesses test) true (before ++ te) (omega arith) s.arms st) (omega arith) (action_counted (in_arm r m true) chosen nv.1.0)
        (stands_below (in_arm r m true) (suc m) (suc m + commands_in chosen) (events (in_arm r m true) chosen) (arm_up m (suc m + commands_in chosen) r.arms true (omega arith) s.arms) (action_stands (in_arm r m true) (suc m) chosen h.0)) in
        let tested = behind_test p x (site_of r m) before test seen hb.0 in
        choice_tops Stood r (in_arm r m true) (in_arm r m false) before te (events (in_arm r m true) chosen) (other_events (in_arm r m false) other) _ _ _ refl
        (here_behind p r m n d x before (action m place (decides test chosen other)) (refl, h) nv hb s seen)
        (action_tops (in_arm r m true) (suc m) (n + term_accesses test) d x (before ++ te) chosen h.0 nv.1.0 hb.1.0 (sited_arm r m (suc m) (n + term_accesses test) true (before ++ te) (omega arith) s.arms st) tested)
        (other_tops (in_arm r m false) (suc m + commands_in chosen) (n + term_accesses test + accesses_of chosen) d (behind_all x (standings d chosen)) ((before ++ te) ++ events (in_arm r m true) chosen) other h.1 nv.1.1 hb.1.1
        (record { first = so.first; arms = arm_up m (suc m + commands_in chosen) r.arms false (omega arith) s.arms; fresh = so.fresh })
        (behind_action p d x (in_arm r m true) (before ++ te) chosen tested hb.1.0))
    form_tops r m n d x before place (repeats test body) h nv hb s seen =
        let te = source_term_events (site_of r m) test in
        let st = sited_then r m (suc m) n (term_accesses test) before te s (omega arith) (term_counted (site_of r m) test) (stands_below r (suc m) (suc m) te (below_up m (suc m) r.arms (omega arith) s.arms) (term_stands r m (suc m) (suc m) test)) in (
          (
            (r, alone r m n d x before (action m place (repeats test body)) (refl, h) nv hb s seen),
            subst (λ (l : List SourceEvent). InnersBy Stood before (te ++ l) (of_list (phases r (n + term_accesses test) body))) (append-nil (events r body))
                (inners_wider Stood before te (events r body) [] _
                (tops_inside Stood r (before ++ te) (events r body) _ (action_tops r (suc m) (n + term_accesses test) d x (before ++ te) body h nv.1 hb.1 st (behind_test p x (site_of r m) before test seen hb.0)))),
          ),
          tt,
        )
    form_tops r m n d x before place (counts iterator declared low high factor body combine combine_place) h nv hb s seen =
        let c = loop_of iterator low high factor in
        let r1 = in_loop r c in
        let di = depth_inside d factor.value in
        let front = assigned iterator.entity ∷ [] in
        let s1 = sited_loop r (suc m) n c (before ++ front) (record {
          first = let e = count_joined before front in let f = s.first in omega (arith, e, f);
          arms = below_up m (suc m) r.arms (omega arith) s.arms;
          fresh = both_below (suc m) before front (all_up m (suc m) before (omega arith) s.fresh) tt;
        }) in
        let begun = behind_then p x x before front (omega arith) seen tt in
        let be = events r1 body in
        let s2 = sited_then r1 (suc m) (suc m + commands_in body) n (accesses_of body) (before ++ front) be s1 (omega arith) (action_counted r1 body nv.1.0)
        (stands_below r1 (suc m) (suc m + commands_in body) be (below_up (suc m) (suc m + commands_in body) r1.arms (omega arith) s1.arms) (action_stands r1 (suc m) body h.0)) in
        turn_tops Stood r r1 before front (be ++ other_events r1 combine) _ _ _
        (folded_tops Stood r1 (before ++ front) be (other_events r1 combine) _ _ (action_tops r1 (suc m) n di x (before ++ front) body h.0 nv.1.0 hb.1.0 s1 begun)
        (other_tops r1 (suc m + commands_in body) (n + accesses_of body) di (behind_all x (standings di body)) ((before ++ front) ++ be) combine h.1 nv.1.1 hb.1.1 s2
        (behind_action p di x r1 (before ++ front) body begun hb.1.0)))

    pub other_tops : (r : Around) (m n d x : ℕ) (before : List SourceEvent) (o : MaybeAction) → IsNumberedOther m o → IsNamedOther o → OtherBehind p d x o → Sited r m n before → IsBehind p x before
        → Top r before (other_events r o) (other_phases r n o)
    other_tops r m n d x before no_action h nv hb s seen = tt
    other_tops r m n d x before (one_action a) h nv hb s seen = action_tops r m n d x before a h nv hb s seen

    pub groups_tops : (r : Around) (m n d x : ℕ) (before : List SourceEvent) (gs : Groups) → AreNumberedGroups m gs → AreNamedGroups gs → GroupsBehind p d x gs → Sited r m n before → IsBehind p x before
        → Top r before (groups_events r gs) (groups_phases r n gs)
    groups_tops r m n d x before no_groups h nv hb s seen = tt
    groups_tops r m n d x before (group_then part rest) h nv hb s seen =
        let st = sited_then r m (m + commands_in_part part) n (part_accesses part) before (part_events r part) s (omega arith) (part_counted r part nv.0)
        (stands_below r m (m + commands_in_part part) (part_events r part) (below_up m (m + commands_in_part part) r.arms (omega arith) s.arms) (part_stands r m part h.0)) in
        tops_both Stood r before (part_events r part ++ groups_events r rest) (joined [] (parts_phases r n part)) (groups_phases r (n + part_accesses part) rest)
        (front_tops Stood r before (part_events r part) (groups_events r rest) _
        (subst (λ (l : List SourceEvent). Top r before l (joined [] (parts_phases r n part))) (parts_together r part)
        (joined_tops Stood r before [] [] (parts_of r part) (parts_phases r n part) tt (none_more Stood r before (parts_of r part) (parts_phases r n part) (each_tops r m n d x before part h.0 nv.0 hb.0 s seen)))))
        (subst (λ (l : List SourceEvent). Top r before (part_events r part ++ l) (groups_phases r (n + part_accesses part) rest)) (append-nil (groups_events r rest))
        (tops_wider Stood r before (part_events r part) (groups_events r rest) [] _
        (groups_tops r (m + commands_in_part part) (n + part_accesses part) d (behind_all x (part_standings d part)) (before ++ part_events r part) rest h.1 nv.1 hb.1 st (behind_part p d x r before part seen hb.0))))

    each_tops : (r : Around) (m n d x : ℕ) (before : List SourceEvent) (q : Actions) → AreNumbered m q → AreNamedActions q → PartBehind p d x q → Sited r m n before → IsBehind p x before
        → AllTopsBy Stood r before (parts_of r q) (parts_phases r n q)
    each_tops r m n d x before no_actions h nv hb s seen = tt
    each_tops r m n d x before (action_then a rest) h nv hb s seen =
        let st = sited_then r m (m + commands_in a) n (accesses_of a) before (events r a) s (omega arith) (action_counted r a nv.0)
        (stands_below r m (m + commands_in a) (events r a) (below_up m (m + commands_in a) r.arms (omega arith) s.arms) (action_stands r m a h.0)) in (
          action_tops r m n d x before a h.0 nv.0 hb.0 s seen,
          each_tops r (m + commands_in a) (n + accesses_of a) d (behind_all x (standings d a)) (before ++ events r a) rest h.1 nv.1 hb.1 st (behind_action p d x r before a seen hb.0),
        )

-- the phases of a program, whatever number its first command has: each command stands behind its views
pub phases_stand : (p : Program) (first : ℕ) → IsNumbered first p.body → IsNamedAction p.body → StandsBehindViews p → TopsBy (λ round es c. StandsViews p round es c) nothing_around [] (trace p) (phases_of p)
phases_stand p first numbered names behind =
    action_tops p nothing_around first 0 0 (length p.entities) [] p.body numbered names behind (record { first = refl; arms = tt; fresh = tt }) (record { own = same (length p.entities); seen = tt })
  where
    same : (n : ℕ) → n ≤ n
    same n = omega arith
