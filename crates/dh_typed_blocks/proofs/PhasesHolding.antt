-- What holds of the body of a program, by the loops in which each command stands, holds of the commands of its blocks in
-- their loops: of straight commands and of the commands whose tests are evaluated. Behind the commands of the last phase
-- of a turn stand the reducers that join copies, of which something else holds. For whatever holds of a command if it
-- holds of the commands inside it.
use Rattle.std.proofs.Common.{◌≡◌, ◌⊎◌, inl, inr, ℕ, ◌+◌, ◌==◌, ◌&&◌, Bool, true, false, if◌then◌else◌, Option, List, [], ◌∷◌, ◌++◌, refl, sym, subst}
use Rattle.std.proofs.lemmas.List.{append-nil}
use Rattle.dh_base.specs.declared.places.Place.{Place}
use Rattle.dh_value.specs.declared.kinds.Kind.{Kind}
use Rattle.dh_tree.specs.declared.trees.expressions.Ref.{Ref}
use Rattle.dh_tree.specs.PlainTrees.{shrinks, splits, suffixes, shifts, Placed, Unrolled, Term, Action, action, ActionForm, lets, lets_memory, views, assigns, stores, reduces, calls, blocks, decides, repeats, counts, MaybeAction, no_action, one_action, Actions, no_actions, action_then, Groups, no_groups, group_then}
use Rattle.dh_meaning.specs.AccessNumbers.{term_accesses, accesses_of, part_accesses}
use Rattle.dh_meaning.specs.Core.{Turning}
use Rattle.dh_meaning.specs.CoreOf.{Known, action_form_of, turning_of, core_commands, core_test, core_phase, core_phases}
use Rattle.dh_meaning.specs.Effects.{Block, commands, tests}
use Rattle.dh_meaning.specs.Phases.{Located, located, Phase, straight, turns, repeated, decided, Phases, no_phases, phase, of_list, one_straight, joined, are_straight, one_command, folded, turn_count, turn_phases, choice_phases, phases, form_phases, other_phases, groups_phases, parts_phases}
use Rattle.dh_meaning.specs.Sites.{Around, in_arm, in_loop, loop_of, nothing_around}
use Rattle.dh_sound.specs.Blocks.{StandsIn, StandsInPhase}
use Rattle.dh_sound.specs.LoopsMatch.{unrolled_loops, EachMatches}
use Rattle.dh_sound.specs.Straight.{IsNamedAction}
use Rattle.dh_sound.specs.PhaseFacts.{HasStraightIn, HaveStraight, HasStraight, HasTestIn, HaveTest, HasTest}
use Rattle.dh_sound.proofs.LoopsMatch.{unrolled_both, EachInside, IsInside, AreInside, ListInside, action_inside}

-- what holds of the commands of a tree, each in its loops
module _ (P : List Turning → Action → Type 0) where
  abbrev pub EachPart : List Turning → Actions → Type 0
  EachPart loops no_actions = Unit {0}
  EachPart loops (action_then a rest) = P loops a × EachPart loops rest

  abbrev pub EachGroup : List Turning → Groups → Type 0
  EachGroup loops no_groups = Unit {0}
  EachGroup loops (group_then part rest) = EachPart loops part × EachGroup loops rest

  abbrev pub OfOther : List Turning → MaybeAction → Type 0
  OfOther loops no_action = Unit {0}
  OfOther loops (one_action a) = P loops a

  abbrev pub EachOf : List Turning → List Located → Type 0
  EachOf loops [] = Unit {0}
  EachOf loops (c ∷ cs) = P loops c.command × EachOf loops cs

-- reducers alone, of each of which this holds
module _ (F : List Turning → ActionForm → Type 0) where
  abbrev mutual
    pub OnlyFolds : List Turning → Action → Type 0
    OnlyFolds loops (action id place form) = FormOnlyFolds loops form

    pub FormOnlyFolds : List Turning → ActionForm → Type 0
    FormOnlyFolds loops (reduces target o value) = F loops (reduces target o value)
    FormOnlyFolds loops (blocks body) = GroupsOnlyFold loops body
    FormOnlyFolds loops (lets name declared value) = ⊥
    FormOnlyFolds loops (lets_memory name shape shape_places value) = ⊥
    FormOnlyFolds loops (views name parent form) = ⊥
    FormOnlyFolds loops (assigns target value) = ⊥
    FormOnlyFolds loops (stores target value) = ⊥
    FormOnlyFolds loops (calls function arguments) = ⊥
    FormOnlyFolds loops (decides test chosen other) = ⊥
    FormOnlyFolds loops (repeats test body) = ⊥
    FormOnlyFolds loops (counts iterator declared low high factor body combine combine_place) = ⊥

    pub GroupsOnlyFold : List Turning → Groups → Type 0
    GroupsOnlyFold loops no_groups = Unit {0}
    GroupsOnlyFold loops (group_then part rest) = PartOnlyFolds loops part × GroupsOnlyFold loops rest

    pub PartOnlyFolds : List Turning → Actions → Type 0
    PartOnlyFolds loops no_actions = Unit {0}
    PartOnlyFolds loops (action_then a rest) = OnlyFolds loops a × PartOnlyFolds loops rest

  abbrev pub OtherOnlyFolds : List Turning → MaybeAction → Type 0
  OtherOnlyFolds loops no_action = Unit {0}
  OtherOnlyFolds loops (one_action a) = OnlyFolds loops a

  -- a reducer
  abbrev pub IsReducer : List Turning → ActionForm → Type 0
  IsReducer loops (reduces target o value) = F loops (reduces target o value)
  IsReducer loops (blocks body) = ⊥
  IsReducer loops (lets name declared value) = ⊥
  IsReducer loops (lets_memory name shape shape_places value) = ⊥
  IsReducer loops (views name parent form) = ⊥
  IsReducer loops (assigns target value) = ⊥
  IsReducer loops (stores target value) = ⊥
  IsReducer loops (calls function arguments) = ⊥
  IsReducer loops (decides test chosen other) = ⊥
  IsReducer loops (repeats test body) = ⊥
  IsReducer loops (counts iterator declared low high factor body combine combine_place) = ⊥

  abbrev pub EachFold : List Turning → List Located → Type 0
  EachFold loops [] = Unit {0}
  EachFold loops (c ∷ cs) = IsReducer loops (action_form_of c.command) × EachFold loops cs

module _ (known : Known) (P : List Turning → Action → Type 0) (F : List Turning → ActionForm → Type 0) where
  -- the loops inside a loop of these numbers of turns
  abbrev pub inside : List Turning → (count : ℕ) → ActionForm → List Turning
  inside loops count form = loops ++ turning_of known count form ∷ []

  -- commands of which it holds, and reducers behind them
  pub record IsSplit (loops : List Turning) (cs : List Located) : Type 0 where
    pub done : List Located
    pub folds : List Located
    pub is : cs ≡ done ++ folds
    pub holds : EachOf P loops done
    pub quiet : EachFold F loops folds

  abbrev mutual
    pub IsOwn : (loops : List Turning) → Phase → Type 0
    IsOwn loops (straight cs) = EachOf P loops cs
    IsOwn loops (turns loop count body) = AreSplit (inside loops count (action_form_of loop.command)) body
    IsOwn loops (repeated loop body) = P loops loop.command × AreOwn loops body
    IsOwn loops (decided choice chosen other) = P loops choice.command × (AreOwn loops chosen × AreOwn loops other)

    pub AreOwn : (loops : List Turning) → Phases → Type 0
    AreOwn loops no_phases = Unit {0}
    AreOwn loops (phase p ps) = IsOwn loops p × AreOwn loops ps

    pub PhaseSplit : (loops : List Turning) → Phase → Type 0
    PhaseSplit loops (straight cs) = IsSplit loops cs
    PhaseSplit loops (turns loop count body) = AreSplit (inside loops count (action_form_of loop.command)) body
    PhaseSplit loops (repeated loop body) = P loops loop.command × AreOwn loops body
    PhaseSplit loops (decided choice chosen other) = P loops choice.command × (AreOwn loops chosen × AreOwn loops other)

    pub AreSplit : (loops : List Turning) → Phases → Type 0
    AreSplit loops no_phases = Unit {0}
    AreSplit loops (phase p ps) = PhaseSplit loops p × AreSplit loops ps

  abbrev ListOwn : (loops : List Turning) → List Phase → Type 0
  ListOwn loops [] = Unit {0}
  ListOwn loops (p ∷ ps) = IsOwn loops p × ListOwn loops ps

  abbrev pub ListSplit : (loops : List Turning) → List Phase → Type 0
  ListSplit loops [] = Unit {0}
  ListSplit loops (p ∷ ps) = PhaseSplit loops p × ListSplit loops ps

  abbrev PartsOwn : (loops : List Turning) → List (List Phase) → Type 0
  PartsOwn loops [] = Unit {0}
  PartsOwn loops (ps ∷ parts) = ListOwn loops ps × PartsOwn loops parts

  -- phases of reducers alone
  abbrev ListFolds : (loops : List Turning) → List Phase → Type 0
  ListFolds loops [] = Unit {0}
  ListFolds loops (straight cs ∷ ps) = EachFold F loops cs × ListFolds loops ps
  ListFolds loops (turns loop count body ∷ ps) = ⊥
  ListFolds loops (repeated loop body ∷ ps) = ⊥
  ListFolds loops (decided choice chosen other ∷ ps) = ⊥

  abbrev PartsFold : (loops : List Turning) → List (List Phase) → Type 0
  PartsFold loops [] = Unit {0}
  PartsFold loops (ps ∷ parts) = ListFolds loops ps × PartsFold loops parts

  own_split : (d : List Turning) (cs : List Located) → EachOf P d cs → IsSplit d cs
  own_split d cs h = record { done = cs; folds = []; is = sym (append-nil cs); holds = h; quiet = tt }

  phase_splits : (d : List Turning) (p : Phase) → IsOwn d p → PhaseSplit d p
  phase_splits d (straight cs) h = own_split d cs h
  phase_splits d (turns loop count body) h = h
  phase_splits d (repeated loop body) h = h
  phase_splits d (decided choice chosen other) h = h

  pub phases_split : (d : List Turning) (ps : Phases) → AreOwn d ps → AreSplit d ps
  phases_split d no_phases h = tt
  phases_split d (phase p ps) h = (phase_splits d p h.0, phases_split d ps h.1)

  list_splits : (d : List Turning) (ps : List Phase) → ListOwn d ps → ListSplit d ps
  list_splits d [] h = tt
  list_splits d (p ∷ ps) h = (phase_splits d p h.0, list_splits d ps h.1)

  folds_split : (d : List Turning) (cs : List Located) → EachFold F d cs → IsSplit d cs
  folds_split d cs h = record { done = []; folds = cs; is = refl; holds = tt; quiet = h }

  list_folds_split : (d : List Turning) (ps : List Phase) → ListFolds d ps → ListSplit d ps
  list_folds_split d [] h = tt
  list_folds_split d (straight cs ∷ ps) h = (folds_split d cs h.0, list_folds_split d ps h.1)
  list_folds_split d (turns loop count body ∷ ps) h = elim h [ ]
  list_folds_split d (repeated loop body ∷ ps) h = elim h [ ]
  list_folds_split d (decided choice chosen other ∷ ps) h = elim h [ ]

  own_listed : (d : List Turning) (ps : List Phase) → ListOwn d ps → AreOwn d (of_list ps)
  own_listed d [] h = tt
  own_listed d (p ∷ ps) h = (h.0, own_listed d ps h.1)

  split_listed : (d : List Turning) (ps : List Phase) → ListSplit d ps → AreSplit d (of_list ps)
  split_listed d [] h = tt
  split_listed d (p ∷ ps) h = (h.0, split_listed d ps h.1)

  -- one behind the other

  each_both : (d : List Turning) (cs ds : List Located) → EachOf P d cs → EachOf P d ds → EachOf P d (cs ++ ds)
  each_both d [] ds h g = g
  each_both d (c ∷ cs) ds h g = (h.0, each_both d cs ds h.1 g)

  own_both : (d : List Turning) (ps qs : List Phase) → ListOwn d ps → ListOwn d qs → ListOwn d (ps ++ qs)
  own_both d [] qs h g = g
  own_both d (p ∷ ps) qs h g = (h.0, own_both d ps qs h.1 g)

  split_both : (d : List Turning) (ps qs : List Phase) → ListSplit d ps → ListSplit d qs → ListSplit d (ps ++ qs)
  split_both d [] qs h g = g
  split_both d (p ∷ ps) qs h g = (h.0, split_both d ps qs h.1 g)

  own_straight : (d : List Turning) (cs : List Located) → EachOf P d cs → ListOwn d (one_straight cs)
  own_straight d [] h = tt
  own_straight d (c ∷ cs) h = (h, tt)

  split_straight : (d : List Turning) (cs : List Located) → IsSplit d cs → ListSplit d (one_straight cs)
  split_straight d [] h = tt
  split_straight d (c ∷ cs) h = (h, tt)

  own_joined : (d : List Turning) (cs : List Located) (parts : List (List Phase)) → EachOf P d cs → PartsOwn d parts → ListOwn d (joined cs parts)
  own_joined d cs [] h g = own_straight d cs h
  own_joined d cs ([] ∷ parts) h g = own_joined d cs parts h g.1
  own_joined d cs ((straight ds ∷ []) ∷ parts) h g = own_joined d (cs ++ ds) parts (each_both d cs ds h g.0.0) g.1
  own_joined d cs ((turns loop count body ∷ []) ∷ parts) h g =
      own_both d (one_straight cs) (turns loop count body ∷ joined [] parts) (own_straight d cs h) (g.0.0, own_joined d [] parts tt g.1)
  own_joined d cs ((repeated loop body ∷ []) ∷ parts) h g =
      own_both d (one_straight cs) (repeated loop body ∷ joined [] parts) (own_straight d cs h) (g.0.0, own_joined d [] parts tt g.1)
  own_joined d cs ((decided choice chosen other ∷ []) ∷ parts) h g =
      own_both d (one_straight cs) (decided choice chosen other ∷ joined [] parts) (own_straight d cs h) (g.0.0, own_joined d [] parts tt g.1)
  own_joined d cs ((p ∷ q ∷ ps) ∷ parts) h g =
      own_both d (one_straight cs) ((p ∷ q ∷ ps) ++ joined [] parts) (own_straight d cs h)
      (own_both d (p ∷ q ∷ ps) (joined [] parts) g.0 (own_joined d [] parts tt g.1))

  -- reducers

  folds_both : (d : List Turning) (cs ds : List Located) → EachFold F d cs → EachFold F d ds → EachFold F d (cs ++ ds)
  folds_both d [] ds h g = g
  folds_both d (c ∷ cs) ds h g = (h.0, folds_both d cs ds h.1 g)

  list_folds_both : (d : List Turning) (ps qs : List Phase) → ListFolds d ps → ListFolds d qs → ListFolds d (ps ++ qs)
  list_folds_both d [] qs h g = g
  list_folds_both d (straight cs ∷ ps) qs h g = (h.0, list_folds_both d ps qs h.1 g)
  list_folds_both d (turns loop count body ∷ ps) qs h g = elim h [ ]
  list_folds_both d (repeated loop body ∷ ps) qs h g = elim h [ ]
  list_folds_both d (decided choice chosen other ∷ ps) qs h g = elim h [ ]

  folds_straight : (d : List Turning) (cs : List Located) → EachFold F d cs → ListFolds d (one_straight cs)
  folds_straight d [] h = tt
  folds_straight d (c ∷ cs) h = (h, tt)

  folds_joined : (d : List Turning) (cs : List Located) (parts : List (List Phase)) → EachFold F d cs → PartsFold d parts → ListFolds d (joined cs parts)
  folds_joined d cs [] h g = folds_straight d cs h
  folds_joined d cs ([] ∷ parts) h g = folds_joined d cs parts h g.1
  folds_joined d cs ((straight ds ∷ []) ∷ parts) h g = folds_joined d (cs ++ ds) parts (folds_both d cs ds h g.0.0) g.1
  folds_joined d cs ((turns loop count body ∷ []) ∷ parts) h g = elim g.0 [ ]
  folds_joined d cs ((repeated loop body ∷ []) ∷ parts) h g = elim g.0 [ ]
  folds_joined d cs ((decided choice chosen other ∷ []) ∷ parts) h g = elim g.0 [ ]
  folds_joined d cs ((p ∷ q ∷ ps) ∷ parts) h g =
      list_folds_both d (one_straight cs) ((p ∷ q ∷ ps) ++ joined [] parts) (folds_straight d cs h)
      (list_folds_both d (p ∷ q ∷ ps) (joined [] parts) g.0 (folds_joined d [] parts tt g.1))

  mutual
    fold_phases : (d : List Turning) (a : Action) (r : Around) (n : ℕ) → OnlyFolds F d a → ListFolds d (phases r n a)
    fold_phases d (action id place form) r n h = fold_form_phases d form r n id place h

    fold_form_phases : (d : List Turning) (f : ActionForm) (r : Around) (n id : ℕ) (place : Place) → FormOnlyFolds F d f → ListFolds d (form_phases r n id place f)
    fold_form_phases d (reduces target o value) r n id place h = ((h, tt), tt)
    fold_form_phases d (blocks body) r n id place h = fold_groups_phases d body r n h
    fold_form_phases d (lets name declared value) r n id place h = elim h [ ]
    fold_form_phases d (lets_memory name shape shape_places value) r n id place h = elim h [ ]
    fold_form_phases d (views name parent form) r n id place h = elim h [ ]
    fold_form_phases d (assigns target value) r n id place h = elim h [ ]
    fold_form_phases d (stores target value) r n id place h = elim h [ ]
    fold_form_phases d (calls function arguments) r n id place h = elim h [ ]
    fold_form_phases d (decides test chosen other) r n id place h = elim h [ ]
    fold_form_phases d (repeats test body) r n id place h = elim h [ ]
    fold_form_phases d (counts iterator declared low high factor body combine combine_place) r n id place h = elim h [ ]

    fold_groups_phases : (d : List Turning) (gs : Groups) (r : Around) (n : ℕ) → GroupsOnlyFold F d gs → ListFolds d (groups_phases r n gs)
    fold_groups_phases d no_groups r n h = tt
    fold_groups_phases d (group_then part rest) r n h =
        list_folds_both d (joined [] (parts_phases r n part)) (groups_phases r (n + part_accesses part) rest)
        (folds_joined d [] (parts_phases r n part) tt (fold_parts_phases d part r n h.0)) (fold_groups_phases d rest r (n + part_accesses part) h.1)

    fold_parts_phases : (d : List Turning) (part : Actions) (r : Around) (n : ℕ) → PartOnlyFolds F d part → PartsFold d (parts_phases r n part)
    fold_parts_phases d no_actions r n h = tt
    fold_parts_phases d (action_then a rest) r n h = (fold_phases d a r n h.0, fold_parts_phases d rest r (n + accesses_of a) h.1)

  join_phases : (d : List Turning) (m : MaybeAction) (r : Around) (n : ℕ) → OtherOnlyFolds F d m → ListFolds d (other_phases r n m)
  join_phases d no_action r n h = tt
  join_phases d (one_action a) r n h = fold_phases d a r n h

  -- a turn: the reducers stand behind the commands of its last phase
  behind_last : (d : List Turning) (cs : List Located) (fold : List Phase) → EachOf P d cs → ListFolds d fold → ListSplit d (joined cs (fold ∷ []))
  behind_last d cs [] h g = split_straight d cs (own_split d cs h)
  behind_last d cs (straight ds ∷ []) h g = split_straight d (cs ++ ds) (record { done = cs; folds = ds; is = refl; holds = h; quiet = g.0 })
  behind_last d cs (turns loop count body ∷ []) h g = elim g [ ]
  behind_last d cs (repeated loop body ∷ []) h g = elim g [ ]
  behind_last d cs (decided choice chosen other ∷ []) h g = elim g [ ]
  behind_last d cs (p ∷ q ∷ ps) h g =
      split_both d (one_straight cs) ((p ∷ q ∷ ps) ++ []) (split_straight d cs (own_split d cs h))
      (split_both d (p ∷ q ∷ ps) [] (list_folds_split d (p ∷ q ∷ ps) g) tt)

  folded_splits : (d : List Turning) (body fold : List Phase) → ListOwn d body → ListFolds d fold → ListSplit d (folded body fold)
  folded_splits d [] fold h g = list_folds_split d fold g
  folded_splits d (straight cs ∷ []) fold h g = behind_last d cs fold h.0 g
  folded_splits d (turns loop count body ∷ []) fold h g = (h.0, list_folds_split d fold g)
  folded_splits d (repeated loop body ∷ []) fold h g = (h.0, list_folds_split d fold g)
  folded_splits d (decided choice chosen other ∷ []) fold h g = (h.0, list_folds_split d fold g)
  folded_splits d (p ∷ q ∷ ps) fold h g = (phase_splits d p h.0, folded_splits d (q ∷ ps) fold h.1 g)

  own_turn : (d : List Turning) (loop : Located) (count : ℕ) (turn : List Phase) → ListSplit (inside d count (action_form_of loop.command)) turn → ListOwn d (turn_phases loop count turn)
  own_turn d loop count [] h = tt
  own_turn d loop count (p ∷ ps) h = by (count == 0)
    where
      by : (z : Bool) → ListOwn d (if z then [] else turns loop count (of_list (p ∷ ps)) ∷ [])
      by true = tt
      by false = (split_listed (inside d count (action_form_of loop.command)) (p ∷ ps) h, tt)

  own_choice : (d : List Turning) (choice : Located) (chosen other : List Phase) → P d choice.command → ListOwn d chosen → ListOwn d other → ListOwn d (choice_phases choice chosen other)
  own_choice d choice chosen other e h g = by (are_straight chosen && are_straight other)
    where
      by : (z : Bool) → ListOwn d (if z then one_command choice else decided choice (of_list chosen) (of_list other) ∷ [])
      by true = ((e, tt), tt)
      by false = ((e, (own_listed d chosen h, own_listed d other g)), tt)

  -- the phases of a command, where what holds of it holds of the commands inside it
  module _ (of_blocks : (d : List Turning) (id : ℕ) (place : Place) (body : Groups) → P d (action id place (blocks body)) → EachGroup P d body)
      (of_choices : (d : List Turning) (id : ℕ) (place : Place) (test : Term) (chosen : Action) (other : MaybeAction) → P d (action id place (decides test chosen other)) → P d chosen × OfOther P d other)
      (of_repeats : (d : List Turning) (id : ℕ) (place : Place) (test : Term) (body : Action) → P d (action id place (repeats test body)) → P d body)
      (of_counts : (d : List Turning) (id : ℕ) (place : Place) (iterator : Ref) (declared : Option Kind) (low high : Placed) (factor : Unrolled) (body : Action) (combine : MaybeAction) (combine_place : Place)
      → P d (action id place (counts iterator declared low high factor body combine combine_place))
      → P (inside d (turn_count low.value high.value factor.value) (counts iterator declared low high factor body combine combine_place)) body
      × OtherOnlyFolds F (inside d (turn_count low.value high.value factor.value) (counts iterator declared low high factor body combine combine_place)) combine) where
    mutual
      own_phases : (a : Action) (d : List Turning) (r : Around) (n : ℕ) → P d a → ListOwn d (phases r n a)
      own_phases (action id place form) d r n h = own_form_phases form d r n id place h

      own_form_phases : (form : ActionForm) (d : List Turning) (r : Around) (n id : ℕ) (place : Place) → P d (action id place form) → ListOwn d (form_phases r n id place form)
      own_form_phases (lets name declared value) d r n id place h = ((h, tt), tt)
      own_form_phases (assigns target value) d r n id place h = ((h, tt), tt)
      own_form_phases (stores target value) d r n id place h = ((h, tt), tt)
      own_form_phases (reduces target op value) d r n id place h = ((h, tt), tt)
      own_form_phases (decides test chosen other) d r n id place h =
          let parts = of_choices d id place test chosen other h in
          own_choice d (located r n (action id place (decides test chosen other))) _ _ h
          (own_phases chosen d (in_arm r id true) (n + term_accesses test) parts.0)
          (own_other_phases other d (in_arm r id false) (n + term_accesses test + accesses_of chosen) parts.1)
      own_form_phases (repeats test body) d r n id place h =
          ((h, own_listed d _ (own_phases body d r (n + term_accesses test) (of_repeats d id place test body h))), tt)
      own_form_phases (counts iterator declared low high factor body combine combine_place) d r n id place h =
          let whole : ActionForm = counts iterator declared low high factor body combine combine_place in
          let parts = of_counts d id place iterator declared low high factor body combine combine_place h in
          own_turn d (located r n (action id place whole)) (turn_count low.value high.value factor.value) _
          (folded_splits (inside d (turn_count low.value high.value factor.value) whole) _ _
          (own_phases body (inside d (turn_count low.value high.value factor.value) whole) (in_loop r (loop_of iterator low high factor)) n parts.0)
          (join_phases (inside d (turn_count low.value high.value factor.value) whole) combine (in_loop r (loop_of iterator low high factor)) (n + accesses_of body) parts.1))
      own_form_phases (blocks body) d r n id place h = own_groups_phases body d r n (of_blocks d id place body h)
      own_form_phases (lets_memory name shape shape_places value) d r n id place h = tt
      own_form_phases (views name parent (shrinks by by_place)) d r n id place h = tt
      own_form_phases (views name parent (splits by by_place)) d r n id place h = tt
      own_form_phases (views name parent (suffixes by by_place)) d r n id place h = ((h, tt), tt)
      own_form_phases (views name parent (shifts by)) d r n id place h = ((h, tt), tt)
      own_form_phases (calls function arguments) d r n id place h = tt

      own_other_phases : (m : MaybeAction) (d : List Turning) (r : Around) (n : ℕ) → OfOther P d m → ListOwn d (other_phases r n m)
      own_other_phases no_action d r n h = tt
      own_other_phases (one_action a) d r n h = own_phases a d r n h

      own_groups_phases : (gs : Groups) (d : List Turning) (r : Around) (n : ℕ) → EachGroup P d gs → ListOwn d (groups_phases r n gs)
      own_groups_phases no_groups d r n h = tt
      own_groups_phases (group_then part rest) d r n h =
          own_both d _ _ (own_joined d [] (parts_phases r n part) tt (own_parts_phases part d r n h.0)) (own_groups_phases rest d r (n + part_accesses part) h.1)

      own_parts_phases : (part : Actions) (d : List Turning) (r : Around) (n : ℕ) → EachPart P d part → PartsOwn d (parts_phases r n part)
      own_parts_phases no_actions d r n h = tt
      own_parts_phases (action_then a rest) d r n h = (own_phases a d r n h.0, own_parts_phases rest d r (n + accesses_of a) h.1)

    -- The block that stands in some loops: straight commands and reducers behind them, or a test. The loops of the source
    -- round them match.

    abbrev pub HoldsStraight : (S : List Located → Type 0) → (loops : List Turning) → Block → Type 0
    HoldsStraight S loops b = (cs : List Located) × ((b ≡ commands (core_commands known cs)) × (S cs × (EachInside known (unrolled_loops loops) cs × IsSplit loops cs)))

    abbrev pub HoldsTest : (T : Located → Type 0) → (loops : List Turning) → Block → Type 0
    HoldsTest T loops b = (c : Located) × ((b ≡ tests (core_test known c)) × (T c × (EachMatches known (unrolled_loops loops) c.around.loops × P loops c.command)))

    abbrev pub Holding : (S : List Located → Type 0) (T : Located → Type 0) → (loops : List Turning) → Block → Type 0
    Holding S T loops b = HoldsStraight S loops b ⊎ HoldsTest T loops b

    holding_more : (S S2 : List Located → Type 0) (T T2 : Located → Type 0) (loops : List Turning) (b : Block) → ((cs : List Located) → S cs → S2 cs) → ((c : Located) → T c → T2 c)
        → Holding S T loops b → Holding S2 T2 loops b
    holding_more S S2 T T2 loops b s t (inl (cs, (is, (has, holds)))) = inl (cs, (is, (s cs has, holds)))
    holding_more S S2 T T2 loops b s t (inr (c, (is, (has, holds)))) = inr (c, (is, (t c has, holds)))

    test_holds : (S : List Located → Type 0) (T : Located → Type 0) (round loops : List Turning) (b : Block) (c : Located) → T c → EachMatches known (unrolled_loops round) c.around.loops → P round c.command
        → (loops ≡ round) × (b ≡ tests (core_test known c)) → Holding S T loops b
    test_holds S T round loops b c t m h s = inr (c, (s.1, (t, subst (λ (l : List Turning). EachMatches known (unrolled_loops l) c.around.loops × P l c.command) (sym s.0) (m, h))))

    mutual
      find_in : (p : Phase) (round loops : List Turning) (b : Block) → IsInside known (unrolled_loops round) p → PhaseSplit round p → StandsInPhase round (core_phase known p) loops b → Holding (HasStraightIn p) (HasTestIn p) loops b
      find_in (straight cs) round loops b m h s = inl (cs, (s.1, (refl, subst (λ (l : List Turning). EachInside known (unrolled_loops l) cs × IsSplit l cs) (sym s.0) (m, h))))
      find_in (turns loop count body) round loops b m h s =
          find body (inside round count (action_form_of loop.command)) loops b
          (subst (λ (ts : List Turning). AreInside known ts body) (sym (unrolled_both round (turning_of known count (action_form_of loop.command) ∷ []))) m) h s
      find_in (repeated loop body) round loops b m h (inl s) = test_holds (HasStraightIn (repeated loop body)) (HasTestIn (repeated loop body)) round loops b loop (inl refl) m.0 h.0 s
      find_in (repeated loop body) round loops b m h (inr s) =
          holding_more (HaveStraight body) (HasStraightIn (repeated loop body)) (HaveTest body) (HasTestIn (repeated loop body)) loops b (λ cs g. g) (λ c g. inr g)
          (find body round loops b m.1 (phases_split round body h.1) s)
      find_in (decided choice chosen other) round loops b m h (inl s) =
          test_holds (HasStraightIn (decided choice chosen other)) (HasTestIn (decided choice chosen other)) round loops b choice (inl refl) m.0 h.0 s
      find_in (decided choice chosen other) round loops b m h (inr (inl s)) =
          holding_more (HaveStraight chosen) (HasStraightIn (decided choice chosen other)) (HaveTest chosen) (HasTestIn (decided choice chosen other)) loops b
          (λ cs g. inl g) (λ c g. inr (inl g)) (find chosen round loops b m.1.0 (phases_split round chosen h.1.0) s)
      find_in (decided choice chosen other) round loops b m h (inr (inr s)) =
          holding_more (HaveStraight other) (HasStraightIn (decided choice chosen other)) (HaveTest other) (HasTestIn (decided choice chosen other)) loops b
          (λ cs g. inr g) (λ c g. inr (inr g)) (find other round loops b m.1.1 (phases_split round other h.1.1) s)

      find : (ps : Phases) (round loops : List Turning) (b : Block) → AreInside known (unrolled_loops round) ps → AreSplit round ps → StandsIn round (core_phases known ps) loops b → Holding (HaveStraight ps) (HaveTest ps) loops b
      find no_phases round loops b m h s = elim s [ ]
      find (phase p ps) round loops b m h (inl s) =
          holding_more (HasStraightIn p) (HaveStraight (phase p ps)) (HasTestIn p) (HaveTest (phase p ps)) loops b (λ cs g. inl g) (λ c g. inl g) (find_in p round loops b m.0 h.0 s)
      find (phase p ps) round loops b m h (inr s) =
          holding_more (HaveStraight ps) (HaveStraight (phase p ps)) (HaveTest ps) (HaveTest (phase p ps)) loops b (λ cs g. inr g) (λ c g. inr g) (find ps round loops b m.1 h.1 s)

    find_listed : (ps : List Phase) (round loops : List Turning) (b : Block) → ListInside known (unrolled_loops round) ps → ListSplit round ps → StandsIn round (core_phases known (of_list ps)) loops b
        → Holding (HasStraight ps) (HasTest ps) loops b
    find_listed [] round loops b m h s = elim s [ ]
    find_listed (p ∷ ps) round loops b m h (inl s) =
        holding_more (HasStraightIn p) (HasStraight (p ∷ ps)) (HasTestIn p) (HasTest (p ∷ ps)) loops b (λ cs g. inl g) (λ c g. inl g) (find_in p round loops b m.0 h.0 s)
    find_listed (p ∷ ps) round loops b m h (inr s) =
        holding_more (HasStraight ps) (HasStraight (p ∷ ps)) (HasTest ps) (HasTest (p ∷ ps)) loops b (λ cs g. inr g) (λ c g. inr g) (find_listed ps round loops b m.1 h.1 s)

    -- the phases of a body of which it holds in no loop
    pub body_splits : (a : Action) → P [] a → ListSplit [] (phases nothing_around 0 a)
    body_splits a h = list_splits [] (phases nothing_around 0 a) (own_phases a [] nothing_around 0 h)

    -- of a body of which it holds in no loop, and of which every name that is declared or used stands for something
    pub body_holds : (a : Action) (loops : List Turning) (b : Block) → IsNamedAction a → P [] a → StandsIn [] (core_phases known (of_list (phases nothing_around 0 a))) loops b
        → Holding (HasStraight (phases nothing_around 0 a)) (HasTest (phases nothing_around 0 a)) loops b
    body_holds a loops b names h s =
        find_listed (phases nothing_around 0 a) [] loops b (action_inside known nothing_around [] 0 a names tt) (body_splits a h) s
