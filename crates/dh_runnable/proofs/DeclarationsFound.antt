-- Among all declarations of a program the first with the number of an entity is the one that declares it, inside the
-- unrolled loops of which it stands: entities are numbered in text order, so that those before have smaller numbers, and
-- each number is below that of the program's entities. By one walk over the commands, with the declarations before and
-- behind each. So each variable and each iterator has slots inside the loops round its declaration.
use Rattle.std.proofs.Common.{◌≡◌, ℕ, ◌+◌, ◌<◌, ◌≤◌, true, false, if◌then◌else◌, List, [], ◌∷◌, ◌++◌, length, Option, Some, None, refl, sym, ◌∙◌, ap, subst, arith, length-append, append_assoc}
use Rattle.std.proofs.lemmas.Bool.Decides.{nat_tests}
use Rattle.dh_value.specs.declared.kinds.Kind.{Kind}
use Rattle.dh_tree.specs.declared.trees.expressions.Ref.{Ref}
use Rattle.dh_tree.specs.declared.trees.programs.Sort.{Sort}
use Rattle.dh_tree.specs.declared.trees.programs.Sort.TheVariants.{Variable, Iterator}
use Rattle.dh_tree.specs.Memories.{same_entity}
use Rattle.dh_tree.specs.PlainTrees.{Action, action, ActionForm, lets, lets_memory, views, assigns, stores, reduces, calls, blocks, decides, repeats, counts, MaybeAction, no_action, one_action, Actions, no_actions, action_then, Groups, no_groups, group_then}
use Rattle.dh_tree.specs.Resolved.{resolved_action, resolved_form, resolved_other, resolved_actions, resolved_groups}
use Rattle.dh_tree.specs.Scopes.{Scope, entity, entity_number, declare, leave, past, at_end, form_at_end, other_at_end, actions_at_end, groups_at_end}
use Rattle.dh_meaning.specs.Bindings.{Binding, binding_in, let_kind}
use Rattle.dh_tree.specs.Kinds.{iterator_kind}
use Rattle.dh_meaning.specs.CoreOf.{Known}
use Rattle.dh_sound.proofs.IteratorsNamed.{on_long, declared_on, past_on, goes_on, other_on, part_on, groups_on}
use Rattle.dh_code.specs.Declarations.{Declaration, factors_inside, declarations, form_declarations, other_declarations, groups_declarations, part_declarations, declaration_in}
use Rattle.dh_code.specs.Placed.{IsNamedBelow}
use Rattle.dh_code.specs.Slots.{Placing}
use Rattle.dh_runnable.proofs.NamesKnown.{IsPlaced}
use Rattle.dh_runnable.proofs.VariablesPlaced.{AreSame, IsFoundSame, placing_in, declaration_placed, found_among}

-- What is placed.

-- what a name declares is a variable of this kind, declared inside these loops
abbrev pub NamePlaced : Known → Placing → (loops : List ℕ) → Ref → Kind → Type 0
NamePlaced known p loops r k = IsPlaced known p loops (entity_number r.entity) k

abbrev mutual
  -- each variable and each iterator of a command that stands inside these loops
  pub ArePlaced : Known → Placing → (loops : List ℕ) → Action → Type 0
  ArePlaced known p loops (action id place form) = FormPlaced known p loops form

  pub FormPlaced : Known → Placing → (loops : List ℕ) → ActionForm → Type 0
  FormPlaced known p loops (lets name declared value) = NamePlaced known p loops name (let_kind declared value)
  FormPlaced known p loops (lets_memory name shape shape_places value) = Unit {0}
  FormPlaced known p loops (views name parent form) = Unit {0}
  FormPlaced known p loops (assigns target value) = Unit {0}
  FormPlaced known p loops (stores target value) = Unit {0}
  FormPlaced known p loops (reduces target op value) = Unit {0}
  FormPlaced known p loops (calls function arguments) = Unit {0}
  FormPlaced known p loops (blocks body) = GroupsPlaced known p loops body
  FormPlaced known p loops (decides test chosen other) = ArePlaced known p loops chosen × OtherPlaced known p loops other
  FormPlaced known p loops (repeats test body) = ArePlaced known p loops body
  FormPlaced known p loops (counts iterator declared low high factor body combine combine_place) =
      NamePlaced known p (factors_inside loops factor.value) iterator (iterator_kind declared)
      × (ArePlaced known p (factors_inside loops factor.value) body × OtherPlaced known p (factors_inside loops factor.value) combine)

  pub OtherPlaced : Known → Placing → (loops : List ℕ) → MaybeAction → Type 0
  OtherPlaced known p loops no_action = Unit {0}
  OtherPlaced known p loops (one_action a) = ArePlaced known p loops a

  pub GroupsPlaced : Known → Placing → (loops : List ℕ) → Groups → Type 0
  GroupsPlaced known p loops no_groups = Unit {0}
  GroupsPlaced known p loops (group_then part rest) = PartPlaced known p loops part × GroupsPlaced known p loops rest

  pub PartPlaced : Known → Placing → (loops : List ℕ) → Actions → Type 0
  PartPlaced known p loops no_actions = Unit {0}
  PartPlaced known p loops (action_then a rest) = ArePlaced known p loops a × PartPlaced known p loops rest

-- Declarations by their numbers.

abbrev size : Scope → ℕ
size s = length s.entities

abbrev pub AllBelow : ℕ → List Declaration → Type 0
AllBelow k [] = Unit {0}
AllBelow k (d ∷ ds) = IsNamedBelow k d.entity × AllBelow k ds

pub below_more : (j k : ℕ) (e : Option ℕ) → j ≤ k → IsNamedBelow j e → IsNamedBelow k e
below_more j k None l h = tt
below_more j k (Some n) l h = omega (arith, l, h)

all_more : (j k : ℕ) (ds : List Declaration) → j ≤ k → AllBelow j ds → AllBelow k ds
all_more j k [] l h = tt
all_more j k (d ∷ ds) l h = (below_more j k d.entity l h.0, all_more j k ds l h.1)

all_both : (k : ℕ) (ds es : List Declaration) → AllBelow k ds → AllBelow k es → AllBelow k (ds ++ es)
all_both k [] es h i = i
all_both k (d ∷ ds) es h i = (h.0, all_both k ds es h.1 i)

two_below : (j k : ℕ) (ds es : List Declaration) → j ≤ k → AllBelow j ds → AllBelow k es → AllBelow k (ds ++ es)
two_below j k ds es l h i = all_both k ds es (all_more j k ds l h) i

declared_size : (s : Scope) (r : Ref) (sort : Sort) → size (declare s r sort) ≡ size s + 1
declared_size s r sort = length-append s.entities (entity r sort ∷ [])

-- a declaration takes the next number
next_below : (s : Scope) (r : Ref) (sort : Sort) (e : Option ℕ) → Some (size s) ≡ e → IsNamedBelow (size (declare s r sort)) e
next_below s r sort e h = let g = declared_size s r sort in subst (IsNamedBelow (size (declare s r sort))) h (omega (arith, g))

-- the declarations of a command are numbered by its end
mutual
  pub all_below : (a : Action) (s : Scope) (fs : List ℕ) → resolved_action s a ≡ a → AllBelow (size (at_end s a)) (declarations fs a)
  all_below (action id place form) s fs e = let same : resolved_form s form ≡ form = cc in form_below form s fs same

  form_below : (f : ActionForm) (s : Scope) (fs : List ℕ) → resolved_form s f ≡ f → AllBelow (size (form_at_end s f)) (form_declarations fs f)
  form_below (lets name declared value) s fs e = let named : Some (size s) ≡ name.entity = cc in (next_below s name Variable name.entity named, tt)
  form_below (lets_memory name shape shape_places value) s fs e = tt
  form_below (views name parent form) s fs e = tt
  form_below (assigns target value) s fs e = tt
  form_below (stores target value) s fs e = tt
  form_below (reduces target o value) s fs e = tt
  form_below (calls function arguments) s fs e = tt
  form_below (blocks body) s fs e = groups_below body s fs (let f = e in cc)
  form_below (decides test chosen other) s fs e =
      let inner : Scope = leave s (at_end s chosen) in
      let first : resolved_action s chosen ≡ chosen = cc in
      let second : resolved_other inner other ≡ other = cc in
      two_below (size (at_end s chosen)) (size (other_at_end inner other)) (declarations fs chosen) (other_declarations fs other)
      (on_long _ _ (other_on other inner)) (all_below chosen s fs first) (other_below other inner fs second)
  form_below (repeats test body) s fs e = let same : resolved_action s body ≡ body = cc in all_below body s fs same
  form_below (counts iterator declared low high factor body combine combine_place) s fs e =
      let inner : Scope = declare s iterator Iterator in
      let named : Some (size s) ≡ iterator.entity = cc in
      let first : resolved_action inner body ≡ body = cc in
      let second : resolved_other (at_end inner body) combine ≡ combine = cc in
      let inside = on_long _ _ (goes_on body inner) in
      let behind = on_long _ _ (other_on combine (at_end inner body)) in (
        below_more (size inner) (size (other_at_end (at_end inner body) combine)) iterator.entity (omega (arith, inside, behind)) (next_below s iterator Iterator iterator.entity named),
        two_below (size (at_end inner body)) (size (other_at_end (at_end inner body) combine)) (declarations (factors_inside fs factor.value) body) (other_declarations (factors_inside fs factor.value) combine)
            behind (all_below body inner (factors_inside fs factor.value) first) (other_below combine (at_end inner body) (factors_inside fs factor.value) second),
      )

  other_below : (m : MaybeAction) (s : Scope) (fs : List ℕ) → resolved_other s m ≡ m → AllBelow (size (other_at_end s m)) (other_declarations fs m)
  other_below no_action s fs e = tt
  other_below (one_action a) s fs e = let same : resolved_action s a ≡ a = cc in all_below a s fs same

  part_below : (part : Actions) (s : Scope) (fs : List ℕ) → resolved_actions s part ≡ part → AllBelow (size (actions_at_end s part)) (part_declarations fs part)
  part_below no_actions s fs e = tt
  part_below (action_then a rest) s fs e =
      let after : Scope = past s a (at_end s a) in
      let first : resolved_action s a ≡ a = cc in
      let second : resolved_actions after rest ≡ rest = cc in
      let same = ap length (past_on s (at_end s a) a) in
      let more = on_long _ _ (part_on rest after) in
      two_below (size (at_end s a)) (size (actions_at_end after rest)) (declarations fs a) (part_declarations fs rest) (omega (arith, same, more))
      (all_below a s fs first) (part_below rest after fs second)

  groups_below : (gs : Groups) (s : Scope) (fs : List ℕ) → resolved_groups s gs ≡ gs → AllBelow (size (groups_at_end s gs)) (groups_declarations fs gs)
  groups_below no_groups s fs e = tt
  groups_below (group_then g rest) s fs e =
      let after : Scope = actions_at_end s g in
      let first : resolved_actions s g ≡ g = cc in
      let second : resolved_groups after rest ≡ rest = cc in
      two_below (size after) (size (groups_at_end after rest)) (part_declarations fs g) (groups_declarations fs rest) (on_long _ _ (groups_on rest after))
      (part_below g s fs first) (groups_below rest after fs second)

-- The first with a number.

pub is_absent : (n : ℕ) (e : Option ℕ) → IsNamedBelow n e → same_entity e (Some n) ≡ false
is_absent n None h = refl
is_absent n (Some m) h = grind (arith, nat_tests, h)

pub is_there : (n : ℕ) → same_entity (Some n) (Some n) ≡ true
is_there n = grind (arith, nat_tests)

first_found : (before : List Declaration) (d : Declaration) (rest : List Declaration) (n : ℕ) → Some n ≡ d.entity → AllBelow n before → declaration_in (before ++ d ∷ rest) n ≡ Some d
first_found [] d rest n e h =
    ap (λ t. if t then Some d else declaration_in rest n) (subst (λ (o : Option ℕ). same_entity o (Some n) ≡ true) e (is_there n))
first_found (c ∷ before) d rest n e h =
    ap (λ t. if t then Some c else declaration_in (before ++ d ∷ rest) n) (is_absent n c.entity h.0) ∙ first_found before d rest n e h.1

split_first : (ds before d e after : List Declaration) → ds ≡ before ++ ((d ++ e) ++ after) → ds ≡ before ++ (d ++ (e ++ after))
split_first ds before d e after h = h ∙ ap (λ x. before ++ x) (append_assoc d e after)

split_second : (ds before d e after : List Declaration) → ds ≡ before ++ ((d ++ e) ++ after) → ds ≡ (before ++ d) ++ (e ++ after)
split_second ds before d e after h = split_first ds before d e after h ∙ sym (append_assoc before d (e ++ after))

-- Commands.

module _ (known : Known) (ds more : List Declaration) (entities : ℕ) (own others : List Binding) (bound : known.bindings ≡ own ++ others) (same_variables : AreSame ds own) where
  abbrev slots : Placing
  slots = placing_in (ds ++ more) entities

  placed_here : (before : List Declaration) (d : Declaration) (rest : List Declaration) (n : ℕ) → Some n ≡ d.entity → AllBelow n before → ds ≡ before ++ d ∷ rest → n < entities
      → IsPlaced known slots d.factors (entity_number d.entity) d.kind_is
  placed_here before d rest n e h is l =
      let found = found_among ds more own others n d same_variables (ap (λ l. declaration_in l n) is ∙ first_found before d rest n e h) in
      subst (λ (o : Option ℕ). IsPlaced known (placing_in (ds ++ more) entities) d.factors (entity_number o) d.kind_is) e
      (declaration_placed known (ds ++ more) entities n d (subst (λ (bs : List Binding). IsFoundSame (declaration_in (ds ++ more) n) (binding_in bs n)) (sym bound) found.1) found.0 l)

  mutual
    pub placed : (a : Action) (s : Scope) (fs : List ℕ) (before after : List Declaration) → resolved_action s a ≡ a
        → ds ≡ before ++ (declarations fs a ++ after) → AllBelow (size s) before → size (at_end s a) ≤ entities → ArePlaced known slots fs a
    placed (action id place form) s fs before after e is h l = let same : resolved_form s form ≡ form = cc in form_placed form s fs before after same is h l

    form_placed : (f : ActionForm) (s : Scope) (fs : List ℕ) (before after : List Declaration) → resolved_form s f ≡ f
        → ds ≡ before ++ (form_declarations fs f ++ after) → AllBelow (size s) before → size (form_at_end s f) ≤ entities → FormPlaced known slots fs f
    form_placed (lets name declared value) s fs before after e is h l =
        let named : Some (size s) ≡ name.entity = cc in
        let next = declared_size s name Variable in
        placed_here before (record { entity = name.entity; kind_is = let_kind declared value; factors = fs }) after (size s) named h is (omega (arith, l, next))
    form_placed (lets_memory name shape shape_places value) s fs before after e is h l = tt
    form_placed (views name parent form) s fs before after e is h l = tt
    form_placed (assigns target value) s fs before after e is h l = tt
    form_placed (stores target value) s fs before after e is h l = tt
    form_placed (reduces target o value) s fs before after e is h l = tt
    form_placed (calls function arguments) s fs before after e is h l = tt
    form_placed (blocks body) s fs before after e is h l = groups_placed body s fs before after (let g = e in cc) is h l
    form_placed (decides test chosen other) s fs before after e is h l =
        let inner : Scope = leave s (at_end s chosen) in
        let first : resolved_action s chosen ≡ chosen = cc in
        let second : resolved_other inner other ≡ other = cc in
        let behind = on_long _ _ (other_on other inner) in (
          placed chosen s fs before (other_declarations fs other ++ after) first (split_first ds before (declarations fs chosen) (other_declarations fs other) after is) h (omega (arith, l, behind)),
          other_placed other inner fs (before ++ declarations fs chosen) after second (split_second ds before (declarations fs chosen) (other_declarations fs other) after is)
              (two_below (size s) (size inner) before (declarations fs chosen) (on_long _ _ (goes_on chosen s)) h (all_below chosen s fs first)) l,
        )
    form_placed (repeats test body) s fs before after e is h l =
        let same : resolved_action s body ≡ body = cc in placed body s fs before after same is h l
    form_placed (counts iterator declared low high factor body combine combine_place) s fs before after e is h l =
        let inner : Scope = declare s iterator Iterator in
        let named : Some (size s) ≡ iterator.entity = cc in
        let first : resolved_action inner body ≡ body = cc in
        let second : resolved_other (at_end inner body) combine ≡ combine = cc in
        let gs : List ℕ = factors_inside fs factor.value in
        let d : Declaration = record { entity = iterator.entity; kind_is = iterator_kind declared; factors = gs } in
        let round : List Declaration = before ++ d ∷ [] in
        let inside : ds ≡ round ++ ((declarations gs body ++ other_declarations gs combine) ++ after) = is ∙ sym (append_assoc before (d ∷ []) _) in
        let below = two_below (size s) (size inner) before (d ∷ []) (on_long _ _ (declared_on s iterator Iterator)) h (next_below s iterator Iterator iterator.entity named, tt) in
        let next = declared_size s iterator Iterator in
        let body_long = on_long _ _ (goes_on body inner) in
        let behind = on_long _ _ (other_on combine (at_end inner body)) in (
          placed_here before d _ (size s) named h is (omega (arith, l, next, body_long, behind)),
          (
            placed body inner gs round (other_declarations gs combine ++ after) first (split_first ds round (declarations gs body) (other_declarations gs combine) after inside) below (omega (arith, l, behind)),
            other_placed combine (at_end inner body) gs (round ++ declarations gs body) after second (split_second ds round (declarations gs body) (other_declarations gs combine) after inside)
                (two_below (size inner) (size (at_end inner body)) round (declarations gs body) body_long below (all_below body inner gs first)) l,
          ),
        )

    other_placed : (m : MaybeAction) (s : Scope) (fs : List ℕ) (before after : List Declaration) → resolved_other s m ≡ m
        → ds ≡ before ++ (other_declarations fs m ++ after) → AllBelow (size s) before → size (other_at_end s m) ≤ entities → OtherPlaced known slots fs m
    other_placed no_action s fs before after e is h l = tt
    other_placed (one_action a) s fs before after e is h l = let same : resolved_action s a ≡ a = cc in placed a s fs before after same is h l

    part_placed : (part : Actions) (s : Scope) (fs : List ℕ) (before after : List Declaration) → resolved_actions s part ≡ part
        → ds ≡ before ++ (part_declarations fs part ++ after) → AllBelow (size s) before → size (actions_at_end s part) ≤ entities → PartPlaced known slots fs part
    part_placed no_actions s fs before after e is h l = tt
    part_placed (action_then a rest) s fs before after e is h l =
        let next : Scope = past s a (at_end s a) in
        let first : resolved_action s a ≡ a = cc in
        let second : resolved_actions next rest ≡ rest = cc in
        let same = ap length (past_on s (at_end s a) a) in
        let long = on_long _ _ (goes_on a s) in
        let behind = on_long _ _ (part_on rest next) in (
          placed a s fs before (part_declarations fs rest ++ after) first (split_first ds before (declarations fs a) (part_declarations fs rest) after is) h (omega (arith, l, behind, same)),
          part_placed rest next fs (before ++ declarations fs a) after second (split_second ds before (declarations fs a) (part_declarations fs rest) after is)
              (all_more (size (at_end s a)) (size next) (before ++ declarations fs a) (omega (arith, same))
              (two_below (size s) (size (at_end s a)) before (declarations fs a) long h (all_below a s fs first))) l,
        )

    groups_placed : (gs : Groups) (s : Scope) (fs : List ℕ) (before after : List Declaration) → resolved_groups s gs ≡ gs
        → ds ≡ before ++ (groups_declarations fs gs ++ after) → AllBelow (size s) before → size (groups_at_end s gs) ≤ entities → GroupsPlaced known slots fs gs
    groups_placed no_groups s fs before after e is h l = tt
    groups_placed (group_then g rest) s fs before after e is h l =
        let next : Scope = actions_at_end s g in
        let first : resolved_actions s g ≡ g = cc in
        let second : resolved_groups next rest ≡ rest = cc in
        let behind = on_long _ _ (groups_on rest next) in (
          part_placed g s fs before (groups_declarations fs rest ++ after) first (split_first ds before (part_declarations fs g) (groups_declarations fs rest) after is) h (omega (arith, l, behind)),
          groups_placed rest next fs (before ++ part_declarations fs g) after second (split_second ds before (part_declarations fs g) (groups_declarations fs rest) after is)
              (two_below (size s) (size next) before (part_declarations fs g) (on_long _ _ (part_on g s)) h (part_below g s fs first)) l,
        )
