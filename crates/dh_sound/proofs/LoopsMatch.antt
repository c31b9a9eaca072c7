-- The loops round a block of the core program are those of the source round its commands, one by one. A `for` that is
-- run has the bounds, the factor, the number of turns and the depth of the `for` of the source from which it comes,
-- and its iterator's number; both come to the loops round them just where they are unrolled. So a walk along the
-- commands keeps the match in their phases. Where a straight phase has no command, the loops of the source are those
-- round the place where it stands.
use Rattle.std.proofs.Common.{◌≡◌, ℕ, ◌+◌, ◌==◌, ◌&&◌, nat_lt, Bool, true, false, if◌then◌else◌, List, [], ◌∷◌, ◌++◌, Some, refl, sym, ◌∙◌, ap, subst}
use Rattle.std.specs.Prelude.{Option}
use Rattle.std.proofs.lemmas.List.{append-nil}
use Rattle.dh_base.specs.declared.places.Place.{Place}
use Rattle.dh_value.specs.declared.kinds.Kind.{Kind}
use Rattle.dh_tree.specs.declared.trees.counters.Counter.{Counter}
use Rattle.dh_tree.specs.declared.trees.expressions.Ref.{Ref}
use Rattle.dh_tree.specs.PlainTrees.{shrinks, splits, suffixes, shifts, Placed, Unrolled, Action, action, ActionForm, lets, lets_memory, views, assigns, stores, reduces, calls, blocks, decides, repeats, counts, MaybeAction, no_action, one_action, Actions, no_actions, action_then, Groups, no_groups, group_then, Program}
use Rattle.dh_meaning.specs.AccessNumbers.{term_accesses, accesses_of, part_accesses}
use Rattle.dh_meaning.specs.Phases.{Located, Phase, straight, turns, repeated, decided, Phases, no_phases, phase, of_list, one_straight, joined, are_straight, one_command, folded, turn_count, turn_phases, choice_phases, phases, form_phases, other_phases, groups_phases, parts_phases}
use Rattle.dh_meaning.specs.Sites.{Around, in_arm, in_loop, loop_of}
use Rattle.dh_meaning.specs.Core.{Turning}
use Rattle.dh_meaning.specs.CoreOf.{Known, known_of, entity_number, action_form_of, turning_of}
use Rattle.dh_meaning.specs.Effects.{Block}
use Rattle.dh_meets.specs.Charges.{loop_factors}
use Rattle.dh_meets.specs.SourceEvents.{SourceEvent}
use Rattle.dh_sound.specs.Blocks.{factors}
use Rattle.dh_sound.specs.LoopsMatch.{unrolled_loops, LoopMatches, EachMatches, LoopsMatch}
use Rattle.dh_sound.specs.Straight.{StandsForSome, IsNamedAction, IsNamedForm, IsNamedOther, AreNamedGroups, AreNamedActions}
use Rattle.dh_sound.proofs.BlocksOfPhases.{Along, AlongBy}
use Rattle.dh_sound.specs.BlocksOfPhases.{OfStraight, OfTest}
use Rattle.dh_sound.specs.Trails.{Follows, FollowsBy, StandsBehind}

-- Unrolled loops.

pub unrolled_both : (a b : List Turning) → unrolled_loops (a ++ b) ≡ unrolled_loops a ++ unrolled_loops b
unrolled_both [] b = refl
unrolled_both (l ∷ ls) b = by (nat_lt 1 l.factor) _ _ _ (unrolled_both ls b)
  where
    by : (t : Bool) (xs ys zs : List Turning) → xs ≡ ys ++ zs → (if t then l ∷ xs else xs) ≡ (if t then l ∷ ys else ys) ++ zs
    by true xs ys zs e = ap (λ x. l ∷ x) e
    by false xs ys zs e = e

abbrev turning_factors : List Turning → List ℕ
turning_factors [] = []
turning_factors (l ∷ ls) = l.factor ∷ turning_factors ls

unrolled_factors : (loops : List Turning) → factors loops ≡ turning_factors (unrolled_loops loops)
unrolled_factors [] = refl
unrolled_factors (l ∷ ls) = by (nat_lt 1 l.factor) _ _ (unrolled_factors ls)
  where
    by : (t : Bool) (fs : List ℕ) (xs : List Turning) → fs ≡ turning_factors xs → (if t then l.factor ∷ fs else fs) ≡ turning_factors (if t then l ∷ xs else xs)
    by true fs xs e = ap (λ x. l.factor ∷ x) e
    by false fs xs e = e

both_match : (known : Known) (ls ms : List Turning) (cs ds : List Counter) → EachMatches known ls cs → EachMatches known ms ds → EachMatches known (ls ++ ms) (cs ++ ds)
both_match known [] ms [] ds h g = g
both_match known [] ms (c ∷ cs) ds h g = elim h [ ]
both_match known (l ∷ ls) ms [] ds h g = elim h [ ]
both_match known (l ∷ ls) ms (c ∷ cs) ds h g = (h.0, both_match known ls ms cs ds h.1 g)

matched_factors : (known : Known) (ls : List Turning) (cs : List Counter) → EachMatches known ls cs → turning_factors ls ≡ loop_factors cs
matched_factors known [] [] h = refl
matched_factors known [] (c ∷ cs) h = elim h [ ]
matched_factors known (l ∷ ls) [] h = elim h [ ]
matched_factors known (l ∷ ls) (c ∷ cs) h = ap (λ n. n ∷ turning_factors ls) h.0.factor ∙ ap (λ x. c.factor ∷ x) (matched_factors known ls cs h.1)

-- loops that match have the same factors
pub match_factors : (known : Known) (loops : List Turning) (cs : List Counter) → LoopsMatch known loops cs → factors loops ≡ loop_factors cs
match_factors known loops cs h = unrolled_factors loops ∙ matched_factors known (unrolled_loops loops) cs h

-- a loop comes to those round it where it is unrolled
loop_matches : (known : Known) (r : Around) (c : Counter) (ts : List Turning) (own : Turning) → LoopMatches known own c → EachMatches known ts r.loops
    → EachMatches known (ts ++ unrolled_loops (own ∷ [])) (in_loop r c).loops
loop_matches known r c ts own m h =
    subst (λ (n : ℕ). EachMatches known (ts ++ (if nat_lt 1 n then own ∷ [] else [])) (in_loop r c).loops) (sym m.factor) (by (nat_lt 1 c.factor))
  where
    by : (b : Bool) → EachMatches known (ts ++ (if b then own ∷ [] else [])) (if b then record { arms = r.arms; loops = r.loops ++ c ∷ [] } else r).loops
    by true = both_match known ts (own ∷ []) r.loops (c ∷ []) h (m, tt)
    by false = subst (λ (x : List Turning). EachMatches known x r.loops) (sym (append-nil ts)) h

-- each of these commands has loops round it that match, and there are such loops
abbrev pub EachInside : Known → (ts : List Turning) → List Located → Type 0
EachInside known ts [] = (loops : List Counter) × EachMatches known ts loops
EachInside known ts (c ∷ cs) = EachMatches known ts c.around.loops × EachInside known ts cs

inside_some : (known : Known) (ts : List Turning) (cs : List Located) → EachInside known ts cs → EachInside known ts []
inside_some known ts [] h = h
inside_some known ts (c ∷ cs) h = inside_some known ts cs h.1

each_both : (known : Known) (ts : List Turning) (cs ds : List Located) → EachInside known ts cs → EachInside known ts ds → EachInside known ts (cs ++ ds)
each_both known ts [] ds h g = g
each_both known ts (c ∷ cs) ds h g = (h.0, each_both known ts cs ds h.1 g)

module _ (known : Known) where
  -- a `for` that is run is that of the source
  own_matches : (iterator : Ref) (declared : Option Kind) (low high : Placed) (factor : Unrolled) (body : Action) (combine : MaybeAction) (at : Place) → StandsForSome iterator
      → LoopMatches known (turning_of known (turn_count low.value high.value factor.value) (counts iterator declared low high factor body combine at)) (loop_of iterator low high factor)
  own_matches iterator declared low high factor body combine at (e, is) = record {
    iterator = is ∙ ap Some (sym (ap entity_number is));
    depth = refl;
    low = refl;
    factor = refl;
    count = refl;
  }

  -- phases inside these unrolled loops: the commands of straight phases and of tests have loops round them that match,
  -- and inside a `for` that is unrolled it stands behind these
  abbrev mutual
    pub IsInside : (ts : List Turning) → Phase → Type 0
    IsInside ts (straight cs) = EachInside known ts cs
    IsInside ts (turns loop count body) = AreInside (ts ++ unrolled_loops (turning_of known count (action_form_of loop.command) ∷ [])) body
    IsInside ts (repeated loop body) = EachMatches known ts loop.around.loops × AreInside ts body
    IsInside ts (decided choice chosen other) = EachMatches known ts choice.around.loops × (AreInside ts chosen × AreInside ts other)

    pub AreInside : (ts : List Turning) → Phases → Type 0
    AreInside ts no_phases = Unit {0}
    AreInside ts (phase p ps) = IsInside ts p × AreInside ts ps

  abbrev pub ListInside : (ts : List Turning) → List Phase → Type 0
  ListInside ts [] = Unit {0}
  ListInside ts (p ∷ ps) = IsInside ts p × ListInside ts ps

  abbrev PartsInside : (ts : List Turning) → List (List Phase) → Type 0
  PartsInside ts [] = Unit {0}
  PartsInside ts (ps ∷ parts) = ListInside ts ps × PartsInside ts parts

  listed : (ts : List Turning) (ps : List Phase) → ListInside ts ps → AreInside ts (of_list ps)
  listed ts [] h = tt
  listed ts (p ∷ ps) h = (h.0, listed ts ps h.1)

  list_both : (ts : List Turning) (ps qs : List Phase) → ListInside ts ps → ListInside ts qs → ListInside ts (ps ++ qs)
  list_both ts [] qs h g = g
  list_both ts (p ∷ ps) qs h g = (h.0, list_both ts ps qs h.1 g)

  one_inside : (ts : List Turning) (cs : List Located) → EachInside known ts cs → ListInside ts (one_straight cs)
  one_inside ts [] h = tt
  one_inside ts (c ∷ cs) h = (h, tt)

  joined_inside : (ts : List Turning) (cs : List Located) (parts : List (List Phase)) → EachInside known ts cs → PartsInside ts parts → ListInside ts (joined cs parts)
  joined_inside ts cs [] h g = one_inside ts cs h
  joined_inside ts cs ([] ∷ parts) h g = joined_inside ts cs parts h g.1
  joined_inside ts cs ((straight ds ∷ []) ∷ parts) h g = joined_inside ts (cs ++ ds) parts (each_both known ts cs ds h g.0.0) g.1
  joined_inside ts cs ((turns loop count body ∷ []) ∷ parts) h g =
      list_both ts (one_straight cs) (turns loop count body ∷ joined [] parts) (one_inside ts cs h) (g.0.0, joined_inside ts [] parts (inside_some known ts cs h) g.1)
  joined_inside ts cs ((repeated loop body ∷ []) ∷ parts) h g =
      list_both ts (one_straight cs) (repeated loop body ∷ joined [] parts) (one_inside ts cs h) (g.0.0, joined_inside ts [] parts (inside_some known ts cs h) g.1)
  joined_inside ts cs ((decided choice chosen other ∷ []) ∷ parts) h g =
      list_both ts (one_straight cs) (decided choice chosen other ∷ joined [] parts) (one_inside ts cs h) (g.0.0, joined_inside ts [] parts (inside_some known ts cs h) g.1)
  joined_inside ts cs ((p ∷ q ∷ ps) ∷ parts) h g =
      list_both ts (one_straight cs) ((p ∷ q ∷ ps) ++ joined [] parts) (one_inside ts cs h)
      (list_both ts (p ∷ q ∷ ps) (joined [] parts) g.0 (joined_inside ts [] parts (inside_some known ts cs h) g.1))

  folded_inside : (ts : List Turning) (body fold : List Phase) → ListInside ts body → ListInside ts fold → ListInside ts (folded body fold)
  folded_inside ts [] fold h g = g
  folded_inside ts (straight cs ∷ []) fold h g = joined_inside ts cs (fold ∷ []) h.0 (g, tt)
  folded_inside ts (turns loop count body ∷ []) fold h g = (h.0, g)
  folded_inside ts (repeated loop body ∷ []) fold h g = (h.0, g)
  folded_inside ts (decided choice chosen other ∷ []) fold h g = (h.0, g)
  folded_inside ts (p ∷ q ∷ ps) fold h g = (h.0, folded_inside ts (q ∷ ps) fold h.1 g)

  turn_inside : (ts : List Turning) (loop : Located) (count : ℕ) (turn : List Phase) → ListInside (ts ++ unrolled_loops (turning_of known count (action_form_of loop.command) ∷ [])) turn
      → ListInside ts (turn_phases loop count turn)
  turn_inside ts loop count [] h = tt
  turn_inside ts loop count (p ∷ ps) h = by (count == 0)
    where
      by : (z : Bool) → ListInside ts (if z then [] else turns loop count (of_list (p ∷ ps)) ∷ [])
      by true = tt
      by false = (listed (ts ++ unrolled_loops (turning_of known count (action_form_of loop.command) ∷ [])) (p ∷ ps) h, tt)

  choice_inside : (ts : List Turning) (choice : Located) (chosen other : List Phase) → EachMatches known ts choice.around.loops → ListInside ts chosen → ListInside ts other
      → ListInside ts (choice_phases choice chosen other)
  choice_inside ts choice chosen other e h g = by (are_straight chosen && are_straight other)
    where
      by : (z : Bool) → ListInside ts (if z then one_command choice else decided choice (of_list chosen) (of_list other) ∷ [])
      by true = ((e, (choice.around.loops, e)), tt)
      by false = ((e, (listed ts chosen h, listed ts other g)), tt)

  -- the phases of a command with this round it
  mutual
    pub action_inside : (r : Around) (ts : List Turning) (n : ℕ) (a : Action) → IsNamedAction a → EachMatches known ts r.loops → ListInside ts (phases r n a)
    action_inside r ts n (action id place form) names e = form_inside r ts n id place form names e

    form_inside : (r : Around) (ts : List Turning) (n id : ℕ) (place : Place) (f : ActionForm) → IsNamedForm f → EachMatches known ts r.loops → ListInside ts (form_phases r n id place f)
    form_inside r ts n id place (lets name declared value) names e = ((e, (r.loops, e)), tt)
    form_inside r ts n id place (assigns target value) names e = ((e, (r.loops, e)), tt)
    form_inside r ts n id place (stores target value) names e = ((e, (r.loops, e)), tt)
    form_inside r ts n id place (reduces target op value) names e = ((e, (r.loops, e)), tt)
    form_inside r ts n id place (decides test chosen other) names e =
        choice_inside ts _ _ _ e (action_inside (in_arm r id true) ts (n + term_accesses test) chosen names.1.0 e)
        (other_inside (in_arm r id false) ts (n + term_accesses test + accesses_of chosen) other names.1.1 e)
    form_inside r ts n id place (repeats test body) names e = ((e, listed ts _ (action_inside r ts (n + term_accesses test) body names.1 e)), tt)
    form_inside r ts n id place (counts iterator declared low high factor body combine combine_place) names e =
        let c = loop_of iterator low high factor in
        let own : Turning = turning_of known (turn_count low.value high.value factor.value) (counts iterator declared low high factor body combine combine_place) in
        let inner : List Turning = ts ++ unrolled_loops (own ∷ []) in
        let more : EachMatches known inner (in_loop r c).loops = loop_matches known r c ts own (own_matches iterator declared low high factor body combine combine_place names.0) e in
        turn_inside ts _ _ _
        (folded_inside inner _ _ (action_inside (in_loop r c) inner n body names.1.0 more) (other_inside (in_loop r c) inner (n + accesses_of body) combine names.1.1 more))
    form_inside r ts n id place (blocks body) names e = groups_inside r ts n body names e
    form_inside r ts n id place (lets_memory name shape shape_places value) names e = tt
    form_inside r ts n id place (views name parent (shrinks by by_place)) names e = tt
    form_inside r ts n id place (views name parent (splits by by_place)) names e = tt
    form_inside r ts n id place (views name parent (suffixes by by_place)) names e = ((e, (r.loops, e)), tt)
    form_inside r ts n id place (views name parent (shifts by)) names e = ((e, (r.loops, e)), tt)
    form_inside r ts n id place (calls function arguments) names e = tt

    other_inside : (r : Around) (ts : List Turning) (n : ℕ) (o : MaybeAction) → IsNamedOther o → EachMatches known ts r.loops → ListInside ts (other_phases r n o)
    other_inside r ts n no_action names e = tt
    other_inside r ts n (one_action a) names e = action_inside r ts n a names e

    groups_inside : (r : Around) (ts : List Turning) (n : ℕ) (gs : Groups) → AreNamedGroups gs → EachMatches known ts r.loops → ListInside ts (groups_phases r n gs)
    groups_inside r ts n no_groups names e = tt
    groups_inside r ts n (group_then part rest) names e =
        list_both ts (joined [] (parts_phases r n part)) (groups_phases r (n + part_accesses part) rest)
        (joined_inside ts [] (parts_phases r n part) (r.loops, e) (parts_inside r ts n part names.0 e)) (groups_inside r ts (n + part_accesses part) rest names.1 e)

    parts_inside : (r : Around) (ts : List Turning) (n : ℕ) (q : Actions) → AreNamedActions q → EachMatches known ts r.loops → PartsInside ts (parts_phases r n q)
    parts_inside r ts n no_actions names e = tt
    parts_inside r ts n (action_then a rest) names e = (action_inside r ts n a names.0 e, parts_inside r ts (n + accesses_of a) rest names.1 e)

  -- commands along the trace, with the loops round them, which are round each of them as it is asked
  pub loops_by : (S : Around → List SourceEvent → Located → Type 0) → ((r : Around) (es : List SourceEvent) (c : Located) → S r es c → c.around ≡ r)
      → (before part : List SourceEvent) (ts : List Turning) (cs : List Located) → AlongBy S before part cs → EachInside known ts cs
      → (r : Around) × (FollowsBy S r before part cs × EachMatches known ts r.loops)
  loops_by S round before part ts [] f i = (record { arms = []; loops = i.0 }, (tt, i.1))
  loops_by S round before part ts (c ∷ cs) (r, (gap, (rest, (is, (stands, more))))) i =
      (r, ((gap, (rest, (is, (stands, more)))), subst (λ (x : Around). EachMatches known ts x.loops) (round r (before ++ gap) c stands) i.0))

  pub same_loops : (before part : List SourceEvent) (ts : List Turning) (cs : List Located) → Along before part cs → EachInside known ts cs
      → (r : Around) × (Follows r before part cs × EachMatches known ts r.loops)
  same_loops before part ts cs f i = loops_by (λ round es c. StandsBehind round es c) (λ r es c s. s.around) before part ts cs f i

-- A block is that of straight commands, whose loops match those round the block.
pub record StraightMatches (p : Program) (loops : List Turning) (block : Block) : Type 0 where
  pub of : OfStraight p loops block
  pub loops_match : LoopsMatch (known_of p) loops of.round.loops

-- A block is that of the test of a command, whose loops match those round the block.
pub record TestMatches (p : Program) (loops : List Turning) (block : Block) : Type 0 where
  pub of : OfTest p loops block
  pub loops_match : LoopsMatch (known_of p) loops of.tested.around.loops
