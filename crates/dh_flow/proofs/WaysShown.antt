-- A decision of the code of which is told what is told of a good way is that way: by recursion on the way. A fork names
-- its groups alone; how they begin stands at the groups, of which is told what is told of the plain ones.
use Rattle.std.proofs.Common.{◌≡◌, ℕ, suc, ◌<◌, List, length, map, Option, Some, None, option_map, refl, ap, sym, ◌∙◌, subst}
use Rattle.std.specs.Prelude.{slice_get}
use Rattle.std.proofs.lemmas.Option.{slice_get-map, slice_get_within}
use Rattle.dh_plan.specs.declared.graphs.Decision.{Decision}
use Rattle.dh_plan.specs.declared.graphs.Decision.TheVariants.{Go, Test', Count', Fork, Rest}
use Rattle.dh_plan.specs.declared.graphs.Group.{Group}
use Rattle.dh_plan.specs.PlainPlans.{PlainPlan}
use Rattle.dh_plan.specs.SeenGraphs.{HasFirst, OfFirst, IsWay, AreWays, IsJoin, way_count, WayWithin, WaysWithin, StaysInGroup, BeginsGroups}
use Rattle.dh_ways.specs.HiddenVariables.{numbers_from}
use Rattle.dh_plan.specs.Ways.{GraphWay, to_state, by_flag, by_count, to_fork, to_end, AllWays, no_ways, way_then}
use Rattle.dh_flow.specs.PlainFlows.{PlacedState, Forked}
use Rattle.dh_flow.specs.ToldWays.{ToldWay, told_go, told_test, told_count, told_fork, told_rest, decision_told, graph_way_told, groups_told, group_told, forked_told}
use Rattle.dh_flow.proofs.WaysStay.{SomeWays, BeginsAs, IsIn, IsGood, AreGood}

-- The parts of what is told.

same_flag : (f g : ℕ) (a b c d : ToldWay) → told_test f a c ≡ told_test g b d → f ≡ g
same_flag f g a b c d e = cc

same_first : (f g : ℕ) (a b c d : ToldWay) → told_test f a c ≡ told_test g b d → a ≡ b
same_first f g a b c d e = cc

same_second : (f g : ℕ) (a b c d : ToldWay) → told_test f a c ≡ told_test g b d → c ≡ d
same_second f g a b c d e = cc

same_count : (f l g m : ℕ) (a b c d : ToldWay) → told_count f l a c ≡ told_count g m b d → (f ≡ g) × ((l ≡ m) × ((a ≡ b) × (c ≡ d)))
same_count f l g m a b c d e =
    let p : f ≡ g = cc in
    let q : l ≡ m = cc in
    let r : a ≡ b = cc in
    let s : c ≡ d = cc in
    (p, (q, (r, s)))

same_groups : (xs ys : List ℕ) → told_fork xs ≡ told_fork ys → xs ≡ ys
same_groups xs ys e = cc

first_of : (ws : AllWays) (f : ℕ) → SomeWays ws → (ns : List ℕ) → ns ≡ numbers_from f (way_count ws) → HasFirst f ns
first_of no_ways f some ns is = absurd some
first_of (way_then w ws) f some ns is = subst (λ l. HasFirst f l) (sym is) refl

-- Lists of which is told the same.

pub record MatchesAt {A B C : Type 0} (f : A → C) (v : B → C) (ys : List B) (x : A) (i : ℕ) : Type 0 where
  pub item : B
  pub there : slice_get ys i ≡ Some item
  pub same : f x ≡ v item

matched_by : {A B C : Type 0} (f : A → C) (v : B → C) (ys : List B) (x : A) (i : ℕ) (o : Option B) → slice_get ys i ≡ o → Some (f x) ≡ option_map v o → MatchesAt f v ys x i
matched_by f v ys x i None at e = absurd (let g : Some (f x) ≡ None = e in cc)
matched_by f v ys x i (Some y) at e = record { item = y; there = at; same = (let g : Some (f x) ≡ Some (v y) = e in cc) }

pub matches_at : {A B C : Type 0} (f : A → C) (v : B → C) (xs : List A) (ys : List B) (i : ℕ) (x : A) → map f xs ≡ map v ys → slice_get xs i ≡ Some x → MatchesAt f v ys x i
matches_at f v xs ys i x e at =
    matched_by f v ys x i (slice_get ys i) refl
    (sym (ap (λ o. option_map f o) at) ∙ (sym (slice_get-map f xs i) ∙ (ap (λ l. slice_get l i) e ∙ slice_get-map v ys i)))

module _ (plan : PlainPlan) (ps : List PlacedState) (fs : List Forked) where
  -- Good ways lead to what is there.
  mutual
    pub good_within : (w : GraphWay) (o n : ℕ) → length ps ≡ n → IsGood plan ps fs o w → WayWithin n (length plan.registers) w
    good_within (to_state s) o n l good = subst (λ (m : ℕ). s < m) l (slice_get_within ps s good.state good.there)
    good_within (by_flag f w v) o n l good = (good.0, (good_within w o n l good.1.0, good_within v o n l good.1.1))
    good_within (by_count c last w v) o n l good = (good.0, (good_within w o n l good.1.0, good_within v o n l good.1.1))
    good_within (to_fork f ws) o n l good = all_within ws o f n l good.1
    good_within to_end o n l good = tt

    all_within : (ws : AllWays) (o g n : ℕ) → length ps ≡ n → AreGood plan ps fs o g ws → WaysWithin n (length plan.registers) ws
    all_within no_ways o g n l good = tt
    all_within (way_then w ws) o g n l good = (good_within w g n l good.1.0, all_within ws o (suc g) n l good.1.1)

  -- They stay in their group.
  module _ (homes : List ℕ) (parents : List (Option ℕ)) (homes_are : homes ≡ map (λ p. p.home) ps) (parents_are : parents ≡ map (λ f. f.parent) fs) where
    home_at : (o s : ℕ) → IsIn plan ps fs o s → slice_get homes s ≡ Some o
    home_at o s is = ap (λ l. slice_get l s) homes_are ∙ (slice_get-map (λ p. p.home) ps s ∙ (ap (λ x. option_map (λ p. p.home) x) is.there ∙ ap (λ n. Some n) is.home))

    parent_at : (o g : ℕ) (w : GraphWay) → BeginsAs plan ps fs o g w → slice_get parents g ≡ Some (Some o)
    parent_at o g w is = ap (λ l. slice_get l g) parents_are ∙ (slice_get-map (λ f. f.parent) fs g ∙ (ap (λ x. option_map (λ f. f.parent) x) is.there ∙ ap (λ n. Some n) is.parent))

    mutual
      pub good_stays : (w : GraphWay) (o : ℕ) → IsGood plan ps fs o w → StaysInGroup homes parents o w
      good_stays (to_state s) o good = home_at o s good
      good_stays (by_flag f w v) o good = (good_stays w o good.1.0, good_stays v o good.1.1)
      good_stays (by_count c last w v) o good = (good_stays w o good.1.0, good_stays v o good.1.1)
      good_stays (to_fork f ws) o good = all_begin ws o f good.1
      good_stays to_end o good = tt

      all_begin : (ws : AllWays) (o g : ℕ) → AreGood plan ps fs o g ws → BeginsGroups homes parents o g ws
      all_begin no_ways o g good = tt
      all_begin (way_then w ws) o g good = (parent_at o g w good.0, (good_stays w g good.1.0, all_begin ws o (suc g) good.1.1))

  -- They are the decisions of which the same is told.
  module _ (gs : List Group) (groups_are : groups_told gs ≡ map forked_told fs) where
    mutual
      unfolding IsWay decision_told

      pub is_way : (d : Decision) (w : GraphWay) (o : ℕ) → decision_told d ≡ graph_way_told w → IsGood plan ps fs o w → IsWay gs d w
      is_way (Go state) (to_state s) o e good = let f : told_go state ≡ told_go s = e in cc
      is_way (Go state) (by_flag f w v) o e good = let f : told_go state ≡ told_test f (graph_way_told w) (graph_way_told v) = e in absurd (cc)
      is_way (Go state) (by_count c l w v) o e good = let f : told_go state ≡ told_count c l (graph_way_told w) (graph_way_told v) = e in absurd (cc)
      is_way (Go state) (to_fork f ws) o e good = let f : told_go state ≡ told_fork (numbers_from f (way_count ws)) = e in absurd (cc)
      is_way (Go state) to_end o e good = let f : told_go state ≡ told_rest = e in absurd (cc)
      is_way (Test' flag at a at' b) (to_state s) o e good = let f : told_test flag (decision_told a) (decision_told b) ≡ told_go s = e in absurd (cc)
      is_way (Test' flag at a at' b) (by_flag f w v) o e good =
          (same_flag flag f (decision_told a) (graph_way_told w) (decision_told b) (graph_way_told v) e, (is_way a w o (same_first flag f (decision_told a) (graph_way_told w) (decision_told b) (graph_way_told v) e) good.1.0, is_way b v o (same_second flag f (decision_told a) (graph_way_told w) (decision_told b) (graph_way_told v) e) good.1.1))
      is_way (Test' flag at a at' b) (by_count c l w v) o e good = let f : told_test flag (decision_told a) (decision_told b) ≡ told_count c l (graph_way_told w) (graph_way_told v) = e in absurd (cc)
      is_way (Test' flag at a at' b) (to_fork f ws) o e good = let f : told_test flag (decision_told a) (decision_told b) ≡ told_fork (numbers_from f (way_count ws)) = e in absurd (cc)
      is_way (Test' flag at a at' b) to_end o e good = let f : told_test flag (decision_told a) (decision_told b) ≡ told_rest = e in absurd (cc)
      is_way (Count' counter last at a at' b) (to_state s) o e good = let f : told_count counter last (decision_told a) (decision_told b) ≡ told_go s = e in absurd (cc)
      is_way (Count' counter last at a at' b) (by_flag f w v) o e good = let f : told_count counter last (decision_told a) (decision_told b) ≡ told_test f (graph_way_told w) (graph_way_told v) = e in absurd (cc)
      is_way (Count' counter last at a at' b) (by_count c l w v) o e good =
          let p = same_count counter last c l (decision_told a) (graph_way_told w) (decision_told b) (graph_way_told v) e in
          ((p.0, p.1.0), (is_way a w o p.1.1.0 good.1.0, is_way b v o p.1.1.1 good.1.1))
      is_way (Count' counter last at a at' b) (to_fork f ws) o e good = let f : told_count counter last (decision_told a) (decision_told b) ≡ told_fork (numbers_from f (way_count ws)) = e in absurd (cc)
      is_way (Count' counter last at a at' b) to_end o e good = let f : told_count counter last (decision_told a) (decision_told b) ≡ told_rest = e in absurd (cc)
      is_way (Fork forked) (to_state s) o e good = let f : told_fork forked.items ≡ told_go s = e in absurd (cc)
      is_way (Fork forked) (by_flag f w v) o e good = let f : told_fork forked.items ≡ told_test f (graph_way_told w) (graph_way_told v) = e in absurd (cc)
      is_way (Fork forked) (by_count c l w v) o e good = let f : told_fork forked.items ≡ told_count c l (graph_way_told w) (graph_way_told v) = e in absurd (cc)
      is_way (Fork forked) (to_fork f ws) o e good =
          let same = same_groups forked.items (numbers_from f (way_count ws)) e in
          (first_of ws f good.0 forked.items same, (same, subst (λ ns. AreWays gs ns ws) (sym same) (ways_are ws o f good.1)))
      is_way (Fork forked) to_end o e good = let f : told_fork forked.items ≡ told_rest = e in absurd (cc)
      is_way Rest (to_state s) o e good = let f : told_rest ≡ told_go s = e in absurd (cc)
      is_way Rest (by_flag f w v) o e good = let f : told_rest ≡ told_test f (graph_way_told w) (graph_way_told v) = e in absurd (cc)
      is_way Rest (by_count c l w v) o e good = let f : told_rest ≡ told_count c l (graph_way_told w) (graph_way_told v) = e in absurd (cc)
      is_way Rest (to_fork f ws) o e good = let f : told_rest ≡ told_fork (numbers_from f (way_count ws)) = e in absurd (cc)
      is_way Rest to_end o e good = tt

      ways_are : (ws : AllWays) (o g : ℕ) → AreGood plan ps fs o g ws → AreWays gs (numbers_from g (way_count ws)) ws
      ways_are no_ways o g good = tt
      ways_are (way_then w ws) o g good =
          let found = matches_at forked_told group_told fs gs g good.0.group (sym groups_are) good.0.there in
          let same : decision_told found.item.first ≡ graph_way_told w = sym (ap (λ t. t.first) found.same) ∙ ap graph_way_told good.0.first in
          (subst (λ x. OfFirst x (λ d. IsWay gs d w)) (sym found.there) (is_way found.item.first w g same good.1.0), ways_are ws o (suc g) good.1.1)

    pub is_join : (after : Option Decision) (join : Option GraphWay) (o : ℕ) → option_map decision_told after ≡ option_map graph_way_told join → ((w : GraphWay) → join ≡ Some w → IsGood plan ps fs o w) → IsJoin gs after join
    is_join None None o e good = tt
    is_join None (Some w) o e good = let f : None ≡ Some (graph_way_told w) = e in absurd (cc)
    is_join (Some d) None o e good = let f : Some (decision_told d) ≡ None = e in absurd (cc)
    is_join (Some d) (Some w) o e good = is_way d w o (let f : Some (decision_told d) ≡ Some (graph_way_told w) = e in cc) (good w refl)
