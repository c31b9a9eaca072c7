-- A graph of the code of which is told what is told of a plan's plain graph is a graph of the plan.
use Rattle.std.proofs.Common.{◌≡◌, ℕ, suc, ◌<◌, List, [], ◌∷◌, length, map, Option, Some, None, option_map, refl, ap, sym, ◌∙◌, subst, arith}
use Rattle.std.specs.Prelude.{slice_get}
use Rattle.std.specs.List.{AllByRecursion}
use Rattle.std.proofs.lemmas.List.{length-map}
use Rattle.std.proofs.lemmas.Option.{slice_get-map}
use Rattle.dh_plan.specs.declared.graphs.Graph.{Graph}
use Rattle.dh_plan.specs.declared.graphs.Group.{Group}
use Rattle.dh_plan.specs.declared.graphs.State as code
use Rattle.dh_plan.specs.PlainPlans.{PlainPlan}
use Rattle.dh_plan.specs.PlanRuns.{over}
use Rattle.dh_plan.specs.SeenGraphs.{OfFirst, IsWay, IsStop, IsJoin, IsFlowOf, FlowWithin, WayWithin, homes_of, parents_of, StaysInGroup, GroupsFit, IsGraphOf}
use Rattle.dh_plan.specs.SoundPlans.{IsFormed}
use Rattle.dh_plan.specs.Ways.{GraphWay, to_end, GraphStop}
use Rattle.dh_flow.specs.PlainFlows.{PlacedState, Forked, way_in_nodes, states, nodes_forked, own_group, plan_states, plan_groups, stop_of, flow_of}
use Rattle.dh_flow.specs.ToldWays.{states_told, groups_told, state_told, group_told, placed_told, forked_told}
use Rattle.dh_flow.proofs.PartsThere.{parts_are}
use Rattle.dh_flow.proofs.PlacedLists.{at_place}
use Rattle.dh_flow.proofs.PlanFlows.{flow_does, here_whole}
use Rattle.dh_flow.proofs.WaysDo.{Here}
use Rattle.dh_flow.proofs.WaysStay.{IsGood, StateStays, JoinStays, ParentStays, GroupStays, AllStay, way_good, nodes_stay}
use Rattle.dh_flow.proofs.WaysShown.{matches_at, good_within, good_stays, is_way, is_join}

-- a mapped list has at a place what the list has there
pub record MappedAt {A B : Type 0} (v : A → B) (xs : List A) (i : ℕ) (y : B) : Type 0 where
  pub item : A
  pub there : slice_get xs i ≡ Some item
  pub same : v item ≡ y

mapped_at : {A B : Type 0} (v : A → B) (xs : List A) (i : ℕ) (y : B) → slice_get (map v xs) i ≡ Some y → MappedAt v xs i y
mapped_at v xs i y at = by (slice_get xs i) refl (sym (slice_get-map v xs i) ∙ at)
  where
    by : (o : Option _) → slice_get xs i ≡ o → option_map v o ≡ Some y → MappedAt v xs i y
    by None e f = absurd (let g : None ≡ Some y = f in cc)
    by (Some x) e f = record { item = x; there = e; same = (let g : Some (v x) ≡ Some y = f in cc) }

same_item : {A : Type 0} (x y : A) (o : Option A) → o ≡ Some x → o ≡ Some y → x ≡ y
same_item x y o e f = let g : Some x ≡ Some y = sym e ∙ f in cc

joins_by : (plan : PlainPlan) (ps : List PlacedState) (fs : List Forked) (parent : Option ℕ) (join : Option GraphWay) (w : GraphWay) → join ≡ Some w → JoinStays plan ps fs parent join → (o : ℕ) × ((parent ≡ Some o) × IsGood plan ps fs o w)
joins_by plan ps fs parent None w e s = absurd (let g : None ≡ Some w = e in cc)
joins_by plan ps fs None (Some v) w e s = absurd s
joins_by plan ps fs (Some o) (Some v) w e s =
    let same : v ≡ w = (let g : Some v ≡ Some w = e in cc) in
    (o, (refl, subst (λ x. IsGood plan ps fs o x) same s))

join_group : (plan : PlainPlan) (ps : List PlacedState) (fs : List Forked) (parent : Option ℕ) (join : Option GraphWay) → JoinStays plan ps fs parent join → (o : ℕ) × ((w : GraphWay) → join ≡ Some w → IsGood plan ps fs o w)
join_group plan ps fs parent None s = (0, λ w e. absurd (let g : None ≡ Some w = e in cc))
join_group plan ps fs None (Some v) s = absurd s
join_group plan ps fs (Some o) (Some v) s = (o, λ w e. let same : v ≡ w = (let g : Some v ≡ Some w = e in cc) in subst (λ x. IsGood plan ps fs o x) same s)

module _ (plan : PlainPlan) (g : Graph) (formed : IsFormed plan) (states_are : states_told g.states.items ≡ map placed_told (plan_states plan.body)) (groups_are : groups_told g.groups.items ≡ map forked_told (plan_groups plan.body)) where
  abbrev ps : List PlacedState
  ps = plan_states plan.body

  abbrev fs : List Forked
  fs = plan_groups plan.body

  abbrev Good : ℕ → GraphWay → Type 0
  Good o w = IsGood plan ps fs o w

  here : Here plan.registers ps fs plan.body 0 1 0 to_end over
  here = here_whole plan

  many : {A B C : Type 0} (f : A → C) (v : B → C) (xs : List A) (ys : List B) → map f xs ≡ map v ys → length xs ≡ length ys
  many f v xs ys e = sym (length-map xs f) ∙ (ap (λ l. length l) e ∙ length-map ys v)

  states_count : length g.states.items ≡ length ps
  states_count = many state_told placed_told g.states.items ps states_are

  groups_count : length g.groups.items ≡ length fs
  groups_count = many group_told forked_told g.groups.items fs groups_are

  stay : AllStay plan ps fs (states plan.body 0 1 0 to_end over) (nodes_forked plan.body 0 1 0 to_end over)
  stay = nodes_stay plan ps fs plan.body 0 1 0 to_end over (parts_are plan formed) here (first_there (nodes_forked plan.body 0 1 0 to_end over)) tt
    where
      first_there : (ys : List Forked) → 0 < suc (length ys)
      first_there ys = positive (length ys)
        where
          positive : (n : ℕ) → 0 < suc n
          positive n = omega arith

  all_groups : AllByRecursion (GroupStays plan ps fs) fs
  all_groups = (record { parent = tt; join = tt }, stay.1)

  good_first : Good 0 (way_in_nodes plan.body 0 1 to_end)
  good_first = way_good plan ps fs plan.body 0 1 0 to_end to_end over here tt

  state_at : (i : ℕ) (p : PlacedState) → slice_get ps i ≡ Some p → StateStays plan ps fs p
  state_at i p e = at_place (StateStays plan ps fs) ps i p stay.0 e

  group_at : (i : ℕ) (f : Forked) → slice_get fs i ≡ Some f → GroupStays plan ps fs f
  group_at i f e = at_place (GroupStays plan ps fs) fs i f all_groups e

  -- It stands for the plain graph.

  stop_shown : (i : ℕ) (s : code.State) (stop : GraphStop) → slice_get g.states.items i ≡ Some s → slice_get (map stop_of ps) i ≡ Some stop → IsStop g.groups.items s stop
  stop_shown i s stop at there =
      let p = matches_at state_told placed_told g.states.items ps i s states_are at in
      let m = mapped_at stop_of ps i stop there in
      let same : m.item ≡ p.item = same_item m.item p.item (slice_get ps i) m.there p.there in
      let is : stop_of p.item ≡ stop = ap stop_of (sym same) ∙ m.same in
      record {
        block = ap (λ t. t.block) p.same ∙ ap (λ x. x.block) is;
        next = subst (λ w. IsWay g.groups.items s.next w) (ap (λ x. x.way) is) (is_way plan ps fs g.groups.items groups_are s.next p.item.way p.item.home (ap (λ t. t.way) p.same) (state_at i p.item p.there).way);
      }

  first_shown : OfFirst (slice_get g.groups.items 0) (λ d. IsWay g.groups.items d (way_in_nodes plan.body 0 1 to_end))
  first_shown =
      let m = matches_at forked_told group_told fs g.groups.items 0 (own_group plan.body) (sym groups_are) refl in
      subst (λ o. OfFirst o (λ d. IsWay g.groups.items d (way_in_nodes plan.body 0 1 to_end))) (sym m.there)
      (is_way plan ps fs g.groups.items groups_are m.item.first (way_in_nodes plan.body 0 1 to_end) 0 (sym (ap (λ t. t.first) m.same)) good_first)

  join_shown : (i : ℕ) (group : Group) (join : Option GraphWay) → slice_get g.groups.items i ≡ Some group → slice_get (map (λ f. f.join) fs) i ≡ Some join → IsJoin g.groups.items group.after join
  join_shown i group join at there =
      let p = matches_at group_told forked_told g.groups.items fs i group groups_are at in
      let m = mapped_at (λ f. f.join) fs i join there in
      let same : p.item.join ≡ join = ap (λ (f : Forked). f.join) (same_item p.item m.item (slice_get fs i) p.there m.there) ∙ m.same in
      let good = join_group plan ps fs p.item.parent p.item.join (group_at i p.item p.there).join in
      subst (λ j. IsJoin g.groups.items group.after j) same (is_join plan ps fs g.groups.items groups_are group.after p.item.join good.0 (ap (λ t. t.after) p.same) good.1)

  shown : IsFlowOf g (flow_of plan.body)
  shown =
      record {
        states = states_count ∙ sym (length-map ps stop_of);
        each = stop_shown;
        first = first_shown;
        groups = groups_count ∙ sym (length-map fs (λ f. f.join));
        joins = join_shown;
      }

  -- It leads to what is there.

  stops : length ps ≡ length (map stop_of ps)
  stops = sym (length-map ps stop_of)

  within : FlowWithin plan (flow_of plan.body)
  within =
      record {
        blocks = λ i s at.
            let m = mapped_at stop_of ps i s at in
            subst (λ (n : ℕ). n < length plan.blocks) (ap (λ x. x.block) m.same) (state_at i m.item m.there).block;
        first = good_within plan ps fs (way_in_nodes plan.body 0 1 to_end) 0 (length (map stop_of ps)) stops good_first;
        states = λ i s at.
            let m = mapped_at stop_of ps i s at in
            subst (λ w. WayWithin (length (map stop_of ps)) (length plan.registers) w) (ap (λ x. x.way) m.same) (good_within plan ps fs m.item.way m.item.home (length (map stop_of ps)) stops (state_at i m.item m.there).way);
        joins = λ i w at.
            let m = mapped_at (λ f. f.join) fs i (Some w) at in
            let good = joins_by plan ps fs m.item.parent m.item.join w m.same (group_at i m.item m.there).join in
            good_within plan ps fs w good.0 (length (map stop_of ps)) stops good.1.1;
      }

  -- Its groups fit.

  homes_are : homes_of g ≡ map (λ p. p.home) ps
  homes_are = told_homes g.states.items ps states_are
    where
      told_homes : (xs : List code.State) (ys : List PlacedState) → states_told xs ≡ map placed_told ys → map (λ s. s.group) xs ≡ map (λ p. p.home) ys
      told_homes [] [] e = refl
      told_homes [] (y ∷ ys) e = absurd (let f : [] ≡ placed_told y ∷ map placed_told ys = e in cc)
      told_homes (x ∷ xs) [] e = absurd (let f : state_told x ∷ states_told xs ≡ [] = e in cc)
      told_homes (x ∷ xs) (y ∷ ys) e =
          let f : state_told x ∷ states_told xs ≡ placed_told y ∷ map placed_told ys = e in
          let one : state_told x ≡ placed_told y = cc in
          let rest : states_told xs ≡ map placed_told ys = cc in
          ap (λ n. n ∷ map (λ s. s.group) xs) (ap (λ t. t.home) one) ∙ ap (λ l. y.home ∷ l) (told_homes xs ys rest)

  parents_same : parents_of g ≡ map (λ f. f.parent) fs
  parents_same = told_parents g.groups.items fs groups_are
    where
      told_parents : (xs : List Group) (ys : List Forked) → groups_told xs ≡ map forked_told ys → map (λ h. h.parent) xs ≡ map (λ f. f.parent) ys
      told_parents [] [] e = refl
      told_parents [] (y ∷ ys) e = absurd (let f : [] ≡ forked_told y ∷ map forked_told ys = e in cc)
      told_parents (x ∷ xs) [] e = absurd (let f : group_told x ∷ groups_told xs ≡ [] = e in cc)
      told_parents (x ∷ xs) (y ∷ ys) e =
          let f : group_told x ∷ groups_told xs ≡ forked_told y ∷ map forked_told ys = e in
          let one : group_told x ≡ forked_told y = cc in
          let rest : groups_told xs ≡ map forked_told ys = cc in
          ap (λ n. n ∷ map (λ h. h.parent) xs) (ap (λ t. t.parent) one) ∙ ap (λ l. y.parent ∷ l) (told_parents xs ys rest)

  parent_here : (o : Option ℕ) (parent : ℕ) → o ≡ Some parent → ParentStays plan ps fs o → parent < length fs
  parent_here None parent e s = absurd (let f : None ≡ Some parent = e in cc)
  parent_here (Some p) parent e s = let same : p ≡ parent = (let f : Some p ≡ Some parent = e in cc) in subst (λ (n : ℕ). n < length fs) same s

  fits : GroupsFit g (flow_of plan.body)
  fits =
      record {
        own = ap (λ l. slice_get l 0) parents_same;
        first = good_stays plan ps fs (homes_of g) (parents_of g) homes_are parents_same (way_in_nodes plan.body 0 1 to_end) 0 good_first;
        states = λ i home s at there.
            let m = mapped_at stop_of ps i s there in
            let h = mapped_at (λ p. p.home) ps i home (sym (ap (λ l. slice_get l i) homes_are) ∙ at) in
            let is : m.item.home ≡ home = ap (λ (p : PlacedState). p.home) (same_item m.item h.item (slice_get ps i) m.there h.there) ∙ h.same in
            let stays = state_at i m.item m.there in (
              subst (λ (n : ℕ). home < n) (sym groups_count) (subst (λ (n : ℕ). n < length fs) is stays.home),
              subst (λ (n : ℕ). StaysInGroup (homes_of g) (parents_of g) n s.way) is
                  (subst (λ w. StaysInGroup (homes_of g) (parents_of g) m.item.home w) (ap (λ x. x.way) m.same) (good_stays plan ps fs (homes_of g) (parents_of g) homes_are parents_same m.item.way m.item.home stays.way)),
            );
        joins = λ i w at.
            let m = mapped_at (λ f. f.join) fs i (Some w) at in
            let good = joins_by plan ps fs m.item.parent m.item.join w m.same (group_at i m.item m.there).join in (
              good.0,
              (
                ap (λ l. slice_get l i) parents_same ∙ (slice_get-map (λ f. f.parent) fs i ∙ (ap (λ x. option_map (λ f. f.parent) x) m.there ∙ ap (λ x. Some x) good.1.0)),
                good_stays plan ps fs (homes_of g) (parents_of g) homes_are parents_same w good.0 good.1.1,
              ),
            );
        parents = λ i parent at.
            let m = mapped_at (λ f. f.parent) fs i (Some parent) (sym (ap (λ l. slice_get l i) parents_same) ∙ at) in
            subst (λ (n : ℕ). parent < n) (sym groups_count) (parent_here m.item.parent parent m.same (group_at i m.item m.there).parent);
      }

  pub graph_is : IsGraphOf plan g
  graph_is = record { flow = flow_of plan.body; shows = shown; within = within; groups = fits; does = flow_does plan }
