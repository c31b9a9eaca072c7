-- Where the commands of the source assign only to variables that are declared inside all the loops round them, so do
-- those of the phases, but for the reducers that join copies: these stand behind all others in their phase, since a turn
-- ends with them. And so does what is run of those others: there each variable that is assigned has its own depth, which
-- is at least that of the block. So a variable that they touch is declared inside all their loops.
use Rattle.std.proofs.Common.{◌≡◌, inl, inr, ℕ, ◌+◌, ◌≤◌, ◌==◌, ◌&&◌, Bool, true, false, if◌then◌else◌, List, [], ◌∷◌, ◌++◌, refl, sym, subst, arith, ◌<◌, length, nat_le, nat_lt, ap, suc}
use Rattle.std.proofs.lemmas.List.{append-nil}
use Rattle.std.proofs.lemmas.Bool.Decides.{nat_tests}
use Rattle.dh_base.specs.declared.places.Place.{Place}
use Rattle.dh_tree.specs.PlainTrees.{shrinks, splits, suffixes, shifts, Term, term, number, truth_value, named, accessed, in_bank, applied, converted, Action, action, ActionForm, lets, lets_memory, views, assigns, stores, reduces, calls, blocks, decides, repeats, counts, MaybeAction, no_action, one_action, Actions, no_actions, action_then, Groups, no_groups, group_then}
use Rattle.dh_meaning.specs.AccessNumbers.{term_accesses, accesses_of, part_accesses}
use Rattle.dh_meaning.specs.Bindings.{depth_inside, binding_in, depth_bound}
use Rattle.dh_meaning.specs.Core.{CoreTerm, CoreCommand, store, assign, choose, CoreCommands, no_commands, command_and}
use Rattle.dh_meaning.specs.CoreOf.{Known, store_to, core_action, core_action_form, core_other, core_part, core_groups, core_term, core_commands, action_form_of, turning_of}
use Rattle.dh_meaning.specs.Levels.{assigns_to, any_assigns}
use Rattle.dh_meaning.specs.Phases.{Located, located, Phase, straight, turns, repeated, decided, Phases, no_phases, phase, of_list, one_straight, joined, are_straight, one_command, folded, turn_count, turn_phases, choice_phases, phases, form_phases, other_phases, groups_phases, parts_phases}
use Rattle.dh_meaning.specs.Sites.{Around, in_arm, in_loop, loop_of}
use Rattle.dh_sound.specs.AssignsInside.{AllAssignInside, AssignsInside, FormAssignsInside, OtherAssignsInside, GroupsAssignInside, PartAssignsInside}
use Rattle.dh_sound.specs.Deep.{IsDeep, AreDeep}
use Rattle.dh_sound.specs.SimpleForms.{AreFolds, FoldsOnly, FormFoldsOnly, GroupsFoldOnly, PartFoldsOnly, JoinsFolds}
use Rattle.dh_sound.proofs.SamePhase.{either}
use Rattle.dh_tree.specs.Seen.{terms}
use Rattle.dh_tree.specs.ViewOffsets.{offsets_of}
use Rattle.dh_meaning.specs.Ways.{Hidden, hidden_in}
use Rattle.dh_sound.specs.AssignsInside.{KeepsInside}
use Rattle.dh_meaning.specs.CoreOf.{kept_by, way_of}
use Rattle.dh_meaning.specs.Core.{keep, count_terms}
use Rattle.dh_meaning.specs.CoreOf.{core_terms}

equal_numbers : (a b : ℕ) → (a == b) ≡ true → a ≡ b
equal_numbers a b e = grind (arith, nat_tests)

module _ (known : Known) where
  -- Phases.

  -- and so do these, but for reducers behind them
  pub record IsSplit (depth : ℕ) (cs : List Located) : Type 0 where
    pub done : List Located
    pub folds : List Located
    pub is : cs ≡ done ++ folds
    pub inside : AllAssignInside known depth done
    pub quiet : AreFolds folds

  -- the depth inside a loop
  abbrev inner : (depth : ℕ) → Located → ℕ
  inner d loop = depth_inside d (turning_of known 0 (action_form_of loop.command)).factor

  -- phases of commands, of which those inside a `for` may have reducers behind them
  abbrev mutual
    IsOwn : (depth : ℕ) → Phase → Type 0
    IsOwn d (straight cs) = AllAssignInside known d cs
    IsOwn d (turns loop count body) = AreSplit (inner d loop) body
    IsOwn d (repeated loop body) = AreOwn d body
    IsOwn d (decided choice chosen other) = AreOwn d chosen × AreOwn d other

    AreOwn : (depth : ℕ) → Phases → Type 0
    AreOwn d no_phases = Unit {0}
    AreOwn d (phase p ps) = IsOwn d p × AreOwn d ps

    pub PhaseSplit : (depth : ℕ) → Phase → Type 0
    PhaseSplit d (straight cs) = IsSplit d cs
    PhaseSplit d (turns loop count body) = AreSplit (inner d loop) body
    PhaseSplit d (repeated loop body) = AreOwn d body
    PhaseSplit d (decided choice chosen other) = AreOwn d chosen × AreOwn d other

    pub AreSplit : (depth : ℕ) → Phases → Type 0
    AreSplit d no_phases = Unit {0}
    AreSplit d (phase p ps) = PhaseSplit d p × AreSplit d ps

  abbrev ListOwn : (depth : ℕ) → List Phase → Type 0
  ListOwn d [] = Unit {0}
  ListOwn d (p ∷ ps) = IsOwn d p × ListOwn d ps

  abbrev pub ListSplit : (depth : ℕ) → List Phase → Type 0
  ListSplit d [] = Unit {0}
  ListSplit d (p ∷ ps) = PhaseSplit d p × ListSplit d ps

  abbrev PartsOwn : (depth : ℕ) → List (List Phase) → Type 0
  PartsOwn d [] = Unit {0}
  PartsOwn d (ps ∷ parts) = ListOwn d ps × PartsOwn d parts

  -- phases of reducers alone
  abbrev ListFolds : List Phase → Type 0
  ListFolds [] = Unit {0}
  ListFolds (straight cs ∷ ps) = AreFolds cs × ListFolds ps
  ListFolds (turns loop count body ∷ ps) = ⊥
  ListFolds (repeated loop body ∷ ps) = ⊥
  ListFolds (decided choice chosen other ∷ ps) = ⊥

  abbrev PartsFold : List (List Phase) → Type 0
  PartsFold [] = Unit {0}
  PartsFold (ps ∷ parts) = ListFolds ps × PartsFold parts

  own_split : (d : ℕ) (cs : List Located) → AllAssignInside known d cs → IsSplit d cs
  own_split d cs h = record { done = cs; folds = []; is = sym (append-nil cs); inside = h; quiet = tt }

  phase_splits : (d : ℕ) (p : Phase) → IsOwn d p → PhaseSplit d p
  phase_splits d (straight cs) h = own_split d cs h
  phase_splits d (turns loop count body) h = h
  phase_splits d (repeated loop body) h = h
  phase_splits d (decided choice chosen other) h = h

  pub phases_split : (d : ℕ) (ps : Phases) → AreOwn d ps → AreSplit d ps
  phases_split d no_phases h = tt
  phases_split d (phase p ps) h = (phase_splits d p h.0, phases_split d ps h.1)

  list_splits : (d : ℕ) (ps : List Phase) → ListOwn d ps → ListSplit d ps
  list_splits d [] h = tt
  list_splits d (p ∷ ps) h = (phase_splits d p h.0, list_splits d ps h.1)

  folds_split : (d : ℕ) (cs : List Located) → AreFolds cs → IsSplit d cs
  folds_split d cs h = record { done = []; folds = cs; is = refl; inside = tt; quiet = h }

  list_folds_split : (d : ℕ) (ps : List Phase) → ListFolds ps → ListSplit d ps
  list_folds_split d [] h = tt
  list_folds_split d (straight cs ∷ ps) h = (folds_split d cs h.0, list_folds_split d ps h.1)
  list_folds_split d (turns loop count body ∷ ps) h = elim h [ ]
  list_folds_split d (repeated loop body ∷ ps) h = elim h [ ]
  list_folds_split d (decided choice chosen other ∷ ps) h = elim h [ ]

  own_listed : (d : ℕ) (ps : List Phase) → ListOwn d ps → AreOwn d (of_list ps)
  own_listed d [] h = tt
  own_listed d (p ∷ ps) h = (h.0, own_listed d ps h.1)

  split_listed : (d : ℕ) (ps : List Phase) → ListSplit d ps → AreSplit d (of_list ps)
  split_listed d [] h = tt
  split_listed d (p ∷ ps) h = (h.0, split_listed d ps h.1)

  -- one behind the other

  all_inside_both : (d : ℕ) (cs ds : List Located) → AllAssignInside known d cs → AllAssignInside known d ds → AllAssignInside known d (cs ++ ds)
  all_inside_both d [] ds h g = g
  all_inside_both d (c ∷ cs) ds h g = (h.0, all_inside_both d cs ds h.1 g)

  own_both : (d : ℕ) (ps qs : List Phase) → ListOwn d ps → ListOwn d qs → ListOwn d (ps ++ qs)
  own_both d [] qs h g = g
  own_both d (p ∷ ps) qs h g = (h.0, own_both d ps qs h.1 g)

  split_both : (d : ℕ) (ps qs : List Phase) → ListSplit d ps → ListSplit d qs → ListSplit d (ps ++ qs)
  split_both d [] qs h g = g
  split_both d (p ∷ ps) qs h g = (h.0, split_both d ps qs h.1 g)

  own_straight : (d : ℕ) (cs : List Located) → AllAssignInside known d cs → ListOwn d (one_straight cs)
  own_straight d [] h = tt
  own_straight d (c ∷ cs) h = (h, tt)

  split_straight : (d : ℕ) (cs : List Located) → IsSplit d cs → ListSplit d (one_straight cs)
  split_straight d [] h = tt
  split_straight d (c ∷ cs) h = (h, tt)

  own_joined : (d : ℕ) (cs : List Located) (parts : List (List Phase)) → AllAssignInside known d cs → PartsOwn d parts → ListOwn d (joined cs parts)
  own_joined d cs [] h g = own_straight d cs h
  own_joined d cs ([] ∷ parts) h g = own_joined d cs parts h g.1
  own_joined d cs ((straight ds ∷ []) ∷ parts) h g = own_joined d (cs ++ ds) parts (all_inside_both d cs ds h g.0.0) g.1
  own_joined d cs ((turns loop count body ∷ []) ∷ parts) h g =
      own_both d (one_straight cs) (turns loop count body ∷ joined [] parts) (own_straight d cs h) (g.0.0, own_joined d [] parts tt g.1)
  own_joined d cs ((repeated loop body ∷ []) ∷ parts) h g =
      own_both d (one_straight cs) (repeated loop body ∷ joined [] parts) (own_straight d cs h) (g.0.0, own_joined d [] parts tt g.1)
  own_joined d cs ((decided choice chosen other ∷ []) ∷ parts) h g =
      own_both d (one_straight cs) (decided choice chosen other ∷ joined [] parts) (own_straight d cs h) (g.0.0, own_joined d [] parts tt g.1)
  own_joined d cs ((p ∷ q ∷ ps) ∷ parts) h g =
      own_both d (one_straight cs) ((p ∷ q ∷ ps) ++ joined [] parts) (own_straight d cs h)
      (own_both d (p ∷ q ∷ ps) (joined [] parts) g.0 (own_joined d [] parts tt g.1))

  -- reducers

  folds_both : (cs ds : List Located) → AreFolds cs → AreFolds ds → AreFolds (cs ++ ds)
  folds_both [] ds h g = g
  folds_both (c ∷ cs) ds h g = (h.0, folds_both cs ds h.1 g)

  list_folds_both : (ps qs : List Phase) → ListFolds ps → ListFolds qs → ListFolds (ps ++ qs)
  list_folds_both [] qs h g = g
  list_folds_both (straight cs ∷ ps) qs h g = (h.0, list_folds_both ps qs h.1 g)
  list_folds_both (turns loop count body ∷ ps) qs h g = elim h [ ]
  list_folds_both (repeated loop body ∷ ps) qs h g = elim h [ ]
  list_folds_both (decided choice chosen other ∷ ps) qs h g = elim h [ ]

  folds_straight : (cs : List Located) → AreFolds cs → ListFolds (one_straight cs)
  folds_straight [] h = tt
  folds_straight (c ∷ cs) h = (h, tt)

  folds_joined : (cs : List Located) (parts : List (List Phase)) → AreFolds cs → PartsFold parts → ListFolds (joined cs parts)
  folds_joined cs [] h g = folds_straight cs h
  folds_joined cs ([] ∷ parts) h g = folds_joined cs parts h g.1
  folds_joined cs ((straight ds ∷ []) ∷ parts) h g = folds_joined (cs ++ ds) parts (folds_both cs ds h g.0.0) g.1
  folds_joined cs ((turns loop count body ∷ []) ∷ parts) h g = elim g.0 [ ]
  folds_joined cs ((repeated loop body ∷ []) ∷ parts) h g = elim g.0 [ ]
  folds_joined cs ((decided choice chosen other ∷ []) ∷ parts) h g = elim g.0 [ ]
  folds_joined cs ((p ∷ q ∷ ps) ∷ parts) h g =
      list_folds_both (one_straight cs) ((p ∷ q ∷ ps) ++ joined [] parts) (folds_straight cs h)
      (list_folds_both (p ∷ q ∷ ps) (joined [] parts) g.0 (folds_joined [] parts tt g.1))

  mutual
    fold_phases : (a : Action) (r : Around) (n : ℕ) → FoldsOnly a → ListFolds (phases r n a)
    fold_phases (action id place form) r n h = fold_form_phases form r n id place h

    fold_form_phases : (f : ActionForm) (r : Around) (n id : ℕ) (place : Place) → FormFoldsOnly f → ListFolds (form_phases r n id place f)
    fold_form_phases (reduces target o value) r n id place h = ((h, tt), tt)
    fold_form_phases (blocks body) r n id place h = fold_groups_phases body r n h
    fold_form_phases (lets name declared value) r n id place h = elim h [ ]
    fold_form_phases (lets_memory name shape shape_places value) r n id place h = elim h [ ]
    fold_form_phases (views name parent form) r n id place h = elim h [ ]
    fold_form_phases (assigns target value) r n id place h = elim h [ ]
    fold_form_phases (stores target value) r n id place h = elim h [ ]
    fold_form_phases (calls function arguments) r n id place h = elim h [ ]
    fold_form_phases (decides test chosen other) r n id place h = elim h [ ]
    fold_form_phases (repeats test body) r n id place h = elim h [ ]
    fold_form_phases (counts iterator declared low high factor body combine combine_place) r n id place h = elim h [ ]

    fold_groups_phases : (gs : Groups) (r : Around) (n : ℕ) → GroupsFoldOnly gs → ListFolds (groups_phases r n gs)
    fold_groups_phases no_groups r n h = tt
    fold_groups_phases (group_then part rest) r n h =
        list_folds_both (joined [] (parts_phases r n part)) (groups_phases r (n + part_accesses part) rest)
        (folds_joined [] (parts_phases r n part) tt (fold_parts_phases part r n h.0)) (fold_groups_phases rest r (n + part_accesses part) h.1)

    fold_parts_phases : (part : Actions) (r : Around) (n : ℕ) → PartFoldsOnly part → PartsFold (parts_phases r n part)
    fold_parts_phases no_actions r n h = tt
    fold_parts_phases (action_then a rest) r n h = (fold_phases a r n h.0, fold_parts_phases rest r (n + accesses_of a) h.1)

  join_phases : (m : MaybeAction) (r : Around) (n : ℕ) → JoinsFolds m → ListFolds (other_phases r n m)
  join_phases no_action r n h = tt
  join_phases (one_action a) r n h = fold_phases a r n h

  -- a turn: the reducers stand behind the commands of its last phase
  behind_last : (d : ℕ) (cs : List Located) (fold : List Phase) → AllAssignInside known d cs → ListFolds fold → ListSplit d (joined cs (fold ∷ []))
  behind_last d cs [] h g = split_straight d cs (own_split d cs h)
  behind_last d cs (straight ds ∷ []) h g = split_straight d (cs ++ ds) (record { done = cs; folds = ds; is = refl; inside = h; quiet = g.0 })
  behind_last d cs (turns loop count body ∷ []) h g = elim g [ ]
  behind_last d cs (repeated loop body ∷ []) h g = elim g [ ]
  behind_last d cs (decided choice chosen other ∷ []) h g = elim g [ ]
  behind_last d cs (p ∷ q ∷ ps) h g =
      split_both d (one_straight cs) ((p ∷ q ∷ ps) ++ []) (split_straight d cs (own_split d cs h))
      (split_both d (p ∷ q ∷ ps) [] (list_folds_split d (p ∷ q ∷ ps) g) tt)

  folded_splits : (d : ℕ) (body fold : List Phase) → ListOwn d body → ListFolds fold → ListSplit d (folded body fold)
  folded_splits d [] fold h g = list_folds_split d fold g
  folded_splits d (straight cs ∷ []) fold h g = behind_last d cs fold h.0 g
  folded_splits d (turns loop count body ∷ []) fold h g = (h.0, list_folds_split d fold g)
  folded_splits d (repeated loop body ∷ []) fold h g = (h.0, list_folds_split d fold g)
  folded_splits d (decided choice chosen other ∷ []) fold h g = (h.0, list_folds_split d fold g)
  folded_splits d (p ∷ q ∷ ps) fold h g = (phase_splits d p h.0, folded_splits d (q ∷ ps) fold h.1 g)

  own_turn : (d : ℕ) (loop : Located) (count : ℕ) (turn : List Phase) → ListSplit (inner d loop) turn → ListOwn d (turn_phases loop count turn)
  own_turn d loop count [] h = tt
  own_turn d loop count (p ∷ ps) h = by (count == 0)
    where
      by : (z : Bool) → ListOwn d (if z then [] else turns loop count (of_list (p ∷ ps)) ∷ [])
      by true = tt
      by false = (split_listed (inner d loop) (p ∷ ps) h, tt)

  own_choice : (d : ℕ) (choice : Located) (chosen other : List Phase) → AssignsInside known d choice.command → ListOwn d chosen → ListOwn d other → ListOwn d (choice_phases choice chosen other)
  own_choice d choice chosen other e h g = by (are_straight chosen && are_straight other)
    where
      by : (z : Bool) → ListOwn d (if z then one_command choice else decided choice (of_list chosen) (of_list other) ∷ [])
      by true = ((e, tt), tt)
      by false = ((own_listed d chosen h, own_listed d other g), tt)

  -- the phases of a command
  mutual
    own_phases : (a : Action) (d : ℕ) (r : Around) (n : ℕ) → AssignsInside known d a → ListOwn d (phases r n a)
    own_phases (action id place form) d r n h = own_form_phases form d r n id place h

    own_form_phases : (form : ActionForm) (d : ℕ) (r : Around) (n id : ℕ) (place : Place) → FormAssignsInside known d form → ListOwn d (form_phases r n id place form)
    own_form_phases (lets name declared value) d r n id place h = ((h, tt), tt)
    own_form_phases (assigns target value) d r n id place h = ((h, tt), tt)
    own_form_phases (stores target value) d r n id place h = ((h, tt), tt)
    own_form_phases (reduces target op value) d r n id place h = ((h, tt), tt)
    own_form_phases (decides test chosen other) d r n id place h =
        own_choice d (located r n (action id place (decides test chosen other))) _ _ h
        (own_phases chosen d (in_arm r id true) (n + term_accesses test) h.0)
        (own_other_phases other d (in_arm r id false) (n + term_accesses test + accesses_of chosen) h.1)
    own_form_phases (repeats test body) d r n id place h = (own_listed d _ (own_phases body d r (n + term_accesses test) h), tt)
    own_form_phases (counts iterator declared low high factor body combine combine_place) d r n id place h =
        own_turn d (located r n (action id place (counts iterator declared low high factor body combine combine_place))) (turn_count low.value high.value factor.value) _
        (folded_splits (depth_inside d factor.value) _ _
        (own_phases body (depth_inside d factor.value) (in_loop r (loop_of iterator low high factor)) n h.0)
        (join_phases combine (in_loop r (loop_of iterator low high factor)) (n + accesses_of body) h.1))
    own_form_phases (blocks body) d r n id place h = own_groups_phases body d r n h
    own_form_phases (lets_memory name shape shape_places value) d r n id place h = tt
    own_form_phases (views name parent (shrinks by by_place)) d r n id place h = tt
    own_form_phases (views name parent (splits by by_place)) d r n id place h = tt
    own_form_phases (views name parent (suffixes by by_place)) d r n id place h = ((h, tt), tt)
    own_form_phases (views name parent (shifts by)) d r n id place h = ((h, tt), tt)
    own_form_phases (calls function arguments) d r n id place h = tt

    own_other_phases : (m : MaybeAction) (d : ℕ) (r : Around) (n : ℕ) → OtherAssignsInside known d m → ListOwn d (other_phases r n m)
    own_other_phases no_action d r n h = tt
    own_other_phases (one_action a) d r n h = own_phases a d r n h

    own_groups_phases : (gs : Groups) (d : ℕ) (r : Around) (n : ℕ) → GroupsAssignInside known d gs → ListOwn d (groups_phases r n gs)
    own_groups_phases no_groups d r n h = tt
    own_groups_phases (group_then part rest) d r n h =
        own_both d _ _ (own_joined d [] (parts_phases r n part) tt (own_parts_phases part d r n h.0)) (own_groups_phases rest d r (n + part_accesses part) h.1)

    own_parts_phases : (part : Actions) (d : ℕ) (r : Around) (n : ℕ) → PartAssignsInside known d part → PartsOwn d (parts_phases r n part)
    own_parts_phases no_actions d r n h = tt
    own_parts_phases (action_then a rest) d r n h = (own_phases a d r n h.0, own_parts_phases rest d r (n + accesses_of a) h.1)

  pub phases_inside : (a : Action) (d : ℕ) (r : Around) (n : ℕ) → AssignsInside known d a → ListSplit d (phases r n a)
  phases_inside a d r n h = list_splits d (phases r n a) (own_phases a d r n h)

  -- What is run.

  -- each variable that is assigned has this depth or more, and so it is declared
  abbrev mutual
    pub DeclaredDeep : (depth : ℕ) → CoreCommand → Type 0
    DeclaredDeep depth (store r target value) = Unit {0}
    DeclaredDeep depth (assign d entity value) = (depth ≤ d) × (depth ≤ depth_bound (binding_in known.bindings entity))
    DeclaredDeep depth (keep d first values) = (depth ≤ d) × ((e : ℕ) → first ≤ e → e < first + count_terms values → depth ≤ depth_bound (binding_in known.bindings e))
    DeclaredDeep depth (choose test chosen other) = AllDeclaredDeep depth chosen × AllDeclaredDeep depth other

    pub AllDeclaredDeep : (depth : ℕ) → CoreCommands → Type 0
    AllDeclaredDeep depth no_commands = Unit {0}
    AllDeclaredDeep depth (command_and c cs) = DeclaredDeep depth c × AllDeclaredDeep depth cs

  module _ (d : ℕ) where
    store_deep : (target : Term) (n : ℕ) (value : CoreTerm) → DeclaredDeep d (store_to known n target value)
    store_deep (term place k (accessed r ts)) n value = tt
    store_deep (term place k (in_bank r bank at t)) n value = tt
    store_deep (term place k (number negative x)) n value = (tt, tt)
    store_deep (term place k (truth_value x)) n value = (tt, tt)
    store_deep (term place k (named r)) n value = (tt, tt)
    store_deep (term place k (applied o left right)) n value = (tt, tt)
    store_deep (term place k (converted t to)) n value = (tt, tt)

    -- the offsets of a view are as many as its terms
    terms_long : (ts : List Term) (n : ℕ) → count_terms (core_terms known n (terms ts)) ≡ length ts
    terms_long [] n = refl
    terms_long (t ∷ ts) n = ap suc (terms_long ts (n + term_accesses t))

    kept_deep : (hs : List Hidden) (ts : List Term) (n : ℕ) (rest : CoreCommands) → KeepsInside known d hs (length ts) → AllDeclaredDeep d rest → AllDeclaredDeep d (kept_by hs (core_terms known n (terms ts)) rest)
    kept_deep hs [] n rest h g = g
    kept_deep [] (t ∷ ts) n rest h g = elim h [ ]
    kept_deep (x ∷ hs) (t ∷ ts) n rest h g = ((h.0, λ e l u. (let c = terms_long (t ∷ ts) n in h.1 e l (omega (arith, u, c)))), g)

    mutual
      action_deep : (a : Action) (n : ℕ) (rest : CoreCommands) → AssignsInside known d a → AllDeclaredDeep d rest → AllDeclaredDeep d (core_action known n a rest)
      action_deep (action id place form) n rest h g = form_is_deep form n rest h g

      form_is_deep : (f : ActionForm) (n : ℕ) (rest : CoreCommands) → FormAssignsInside known d f → AllDeclaredDeep d rest → AllDeclaredDeep d (core_action_form known n f rest)
      form_is_deep (lets name declared value) n rest h g = ((h, h), g)
      form_is_deep (assigns target value) n rest h g = ((h, h), g)
      form_is_deep (reduces target op value) n rest h g = ((h, h), g)
      form_is_deep (stores target value) n rest h g = (store_deep target (n + term_accesses value) (core_term known n value), g)
      form_is_deep (decides test chosen other) n rest h g =
          ((action_deep chosen (n + term_accesses test) no_commands h.0 tt, other_deep other (n + term_accesses test + accesses_of chosen) h.1), g)
      form_is_deep (blocks body) n rest h g = groups_deep body n rest h g
      form_is_deep (lets_memory name shape shape_places value) n rest h g = g
      form_is_deep (views name parent form) n rest h g = kept_deep (hidden_in (way_of known name)) (offsets_of form) n rest h g
      form_is_deep (calls function arguments) n rest h g = g
      form_is_deep (repeats test body) n rest h g = g
      form_is_deep (counts iterator declared low high factor body combine combine_place) n rest h g = g

      other_deep : (m : MaybeAction) (n : ℕ) → OtherAssignsInside known d m → AllDeclaredDeep d (core_other known n m)
      other_deep no_action n h = tt
      other_deep (one_action a) n h = action_deep a n no_commands h tt

      groups_deep : (gs : Groups) (n : ℕ) (rest : CoreCommands) → GroupsAssignInside known d gs → AllDeclaredDeep d rest → AllDeclaredDeep d (core_groups known n gs rest)
      groups_deep no_groups n rest h g = g
      groups_deep (group_then part behind) n rest h g = part_deep part n (core_groups known (n + part_accesses part) behind rest) h.0 (groups_deep behind (n + part_accesses part) rest h.1 g)

      part_deep : (part : Actions) (n : ℕ) (rest : CoreCommands) → PartAssignsInside known d part → AllDeclaredDeep d rest → AllDeclaredDeep d (core_part known n part rest)
      part_deep no_actions n rest h g = g
      part_deep (action_then a behind) n rest h g = action_deep a n (core_part known (n + accesses_of a) behind rest) h.0 (part_deep behind (n + accesses_of a) rest h.1 g)

    -- the commands of a phase
    pub commands_deep : (cs : List Located) → AllAssignInside known d cs → AllDeclaredDeep d (core_commands known cs)
    commands_deep [] h = tt
    commands_deep (c ∷ cs) h = action_deep c.command c.first (core_commands known cs) h.0 (commands_deep cs h.1)

    mutual
      own_deep : (c : CoreCommand) → DeclaredDeep d c → IsDeep d c
      own_deep (store r target value) h = tt
      own_deep (assign m entity value) h = h.0
      own_deep (keep m first values) h = h.0
      own_deep (choose test chosen other) h = (as_deep chosen h.0, as_deep other h.1)

      pub as_deep : (cs : CoreCommands) → AllDeclaredDeep d cs → AreDeep d cs
      as_deep no_commands h = tt
      as_deep (command_and c cs) h = (own_deep c h.0, as_deep cs h.1)

    both_so : (x y : Bool) → (x && y) ≡ true → (x ≡ true) × (y ≡ true)
    both_so true y e = (refl, e)
    both_so false y e = cc

    least : (a b : ℕ) → nat_le a b ≡ true → a ≤ b
    least a b e = grind (arith, nat_tests)

    below : (a b : ℕ) → nat_lt a b ≡ true → a < b
    below a b e = grind (arith, nat_tests)

    -- a variable that they touch
    module _ (entity : ℕ) where
      mutual
        own_touched : (c : CoreCommand) → DeclaredDeep d c → assigns_to entity c ≡ true → d ≤ depth_bound (binding_in known.bindings entity)
        own_touched (store r target value) h e = absurd cc
        own_touched (assign m other value) h e = subst (λ (n : ℕ). d ≤ depth_bound (binding_in known.bindings n)) (sym (equal_numbers entity other e)) h.1
        own_touched (keep m first values) h e = h.1 entity (least first entity (both_so (nat_le first entity) _ e).0) (below entity (first + count_terms values) (both_so (nat_le first entity) _ e).1)
        own_touched (choose test chosen other) h e =
            elim (either (any_assigns entity chosen) (any_assigns entity other) e) [ inl f ↦ touched_deep chosen h.0 f | inr f ↦ touched_deep other h.1 f ]

        pub touched_deep : (cs : CoreCommands) → AllDeclaredDeep d cs → any_assigns entity cs ≡ true → d ≤ depth_bound (binding_in known.bindings entity)
        touched_deep no_commands h e = absurd cc
        touched_deep (command_and c cs) h e =
            elim (either (assigns_to entity c) (any_assigns entity cs) e) [ inl f ↦ own_touched c h.0 f | inr f ↦ touched_deep cs h.1 f ]
