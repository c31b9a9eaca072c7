-- What the names that a command declares stand for: each variable of the command, each view and each memory has an
-- entity of its sort among those of the program, which begin with those at the command's end. By one walk over the body,
-- with the points of the text.
use Rattle.std.proofs.Common.{◌≡◌, ℕ, Bool, true, false, List, [], ◌∷◌, ◌++◌, length, Option, Some, None, refl, ◌∙◌, ap, subst}
use Rattle.std.specs.Prelude.{slice_get}
use Rattle.std.specs.List.{AllByRecursion}
use Rattle.dh_tree.specs.declared.trees.expressions.Ref.{Ref}
use Rattle.dh_tree.specs.declared.trees.programs.Entity.{Entity}
use Rattle.dh_tree.specs.declared.trees.programs.Sort.{Sort}
use Rattle.dh_tree.specs.declared.trees.programs.Sort.TheVariants as sort
use Rattle.dh_tree.specs.Memories.{Memory, form_locals, groups_locals, locals, other_locals, part_locals}
use Rattle.dh_tree.specs.PlainTrees.{Action, action, ActionForm, lets, lets_memory, views, assigns, stores, reduces, calls, blocks, decides, repeats, counts, MaybeAction, no_action, one_action, Actions, no_actions, action_then, Groups, no_groups, group_then, Program}
use Rattle.dh_tree.specs.Ready.{IsReady}
use Rattle.dh_tree.specs.Resolved.{resolved_action, resolved_form, resolved_other, resolved_actions, resolved_groups}
use Rattle.dh_tree.specs.Scopes.{Scope, entity, declare, leave, past, at_end, form_at_end, other_at_end, actions_at_end, groups_at_end, body_scope, last_scope}
use Rattle.dh_meaning.specs.Bindings.{Binding, bindings, bindings_of, depth_inside, form_bindings, groups_bindings, other_bindings, part_bindings}
use Rattle.dh_meaning.specs.Ways.{ViewSite, form_standings, groups_standings, other_standings, part_standings, standings}
use Rattle.dh_sound.proofs.DepthsNamed.{size}
use Rattle.dh_sound.proofs.IteratorsNamed.{GoesOn, at_next, goes_on, groups_on, other_on, part_on, past_on, same_on, then_on}

-- Sorts.

-- a variable or an iterator
abbrev pub is_bound : Sort → Bool
is_bound sort.Variable = true
is_bound sort.Iterator = true
is_bound sort.Memory = false
is_bound sort.View = false
is_bound sort.Function = false

abbrev pub is_viewed : Sort → Bool
is_viewed sort.Variable = false
is_viewed sort.Iterator = false
is_viewed sort.Memory = false
is_viewed sort.View = true
is_viewed sort.Function = false

abbrev pub is_stored : Sort → Bool
is_stored sort.Variable = false
is_stored sort.Iterator = false
is_stored sort.Memory = true
is_stored sort.View = false
is_stored sort.Function = false

abbrev pub sort_at : (Sort → Bool) → Option Entity → Bool
sort_at test None = false
sort_at test (Some e) = test e.sort

-- the sort of what a name stands for passes a test
abbrev pub stands_as : (Sort → Bool) → List Entity → Option ℕ → Bool
stands_as test es None = false
stands_as test es (Some n) = sort_at test (slice_get es n)

abbrev pub AllBound : List Entity → List Binding → Type 0
AllBound es bs = AllByRecursion (λ (b : Binding). stands_as is_bound es b.entity ≡ true) bs

abbrev pub AllViewed : List Entity → List ViewSite → Type 0
AllViewed es ss = AllByRecursion (λ (s : ViewSite). stands_as is_viewed es s.name.entity ≡ true) ss

abbrev pub AllStored : List Entity → List Memory → Type 0
AllStored es ms = AllByRecursion (λ (m : Memory). stands_as is_stored es m.name.entity ≡ true) ms

pub record AreSorted (es : List Entity) (bs : List Binding) (ss : List ViewSite) (ms : List Memory) : Type 0 where
  pub bound : AllBound es bs
  pub viewed : AllViewed es ss
  pub stored : AllStored es ms

both_all : {A : Type 0} (P : A → Type 0) (xs ys : List A) → AllByRecursion P xs → AllByRecursion P ys → AllByRecursion P (xs ++ ys)
both_all P [] ys a b = b
both_all P (x ∷ xs) ys a b = (a.0, both_all P xs ys a.1 b)

module _ (es : List Entity) where
  nothing : AreSorted es [] [] []
  nothing = record { bound = tt; viewed = tt; stored = tt }

  both : (bs cs : List Binding) (ss qs : List ViewSite) (ms ns : List Memory) → AreSorted es bs ss ms → AreSorted es cs qs ns → AreSorted es (bs ++ cs) (ss ++ qs) (ms ++ ns)
  both bs cs ss qs ms ns one two = record {
    bound = both_all (λ (b : Binding). stands_as is_bound es b.entity ≡ true) bs cs one.bound two.bound;
    viewed = both_all (λ (s : ViewSite). stands_as is_viewed es s.name.entity ≡ true) ss qs one.viewed two.viewed;
    stored = both_all (λ (m : Memory). stands_as is_stored es m.name.entity ≡ true) ms ns one.stored two.stored;
  }

  -- what is declared has an entity of its sort
  declared_as : (test : Sort → Bool) (s : Scope) (r : Ref) (k : Sort) (o : Option ℕ) → Some (size s) ≡ o → test k ≡ true → GoesOn (declare s r k).entities es → stands_as test es o ≡ true
  declared_as test s r k o e t on =
      subst (λ (x : Option ℕ). stands_as test es x ≡ true) e
      (ap (λ x. sort_at test (slice_get x (length s.entities))) on.is ∙ (ap (sort_at test) (at_next s.entities (entity r k) on.more) ∙ t))

  mutual
    pub sorted : (a : Action) (s : Scope) (d : ℕ) → resolved_action s a ≡ a → GoesOn (at_end s a).entities es → AreSorted es (bindings d a) (standings d a) (locals a)
    sorted (action id place form) s d e on = let same : resolved_form s form ≡ form = cc in form_sorted form s d same on

    form_sorted : (f : ActionForm) (s : Scope) (d : ℕ) → resolved_form s f ≡ f → GoesOn (form_at_end s f).entities es → AreSorted es (form_bindings d f) (form_standings d f) (form_locals f)
    form_sorted (lets name declared value) s d e on =
        let named : Some (size s) ≡ name.entity = cc in
        record { bound = (declared_as is_bound s name sort.Variable name.entity named refl on, tt); viewed = tt; stored = tt }
    form_sorted (lets_memory name shape shape_places value) s d e on =
        let named : Some (size s) ≡ name.entity = cc in
        record { bound = tt; viewed = tt; stored = (declared_as is_stored s name sort.Memory name.entity named refl on, tt) }
    form_sorted (views name parent form) s d e on =
        let named : Some (size s) ≡ name.entity = cc in
        record { bound = tt; viewed = (declared_as is_viewed s name sort.View name.entity named refl on, tt); stored = tt }
    form_sorted (assigns target value) s d e on = nothing
    form_sorted (stores target value) s d e on = nothing
    form_sorted (reduces target o value) s d e on = nothing
    form_sorted (calls function arguments) s d e on = nothing
    form_sorted (blocks body) s d e on = groups_sorted body s d (let f = e in cc) on
    form_sorted (decides test chosen other) s d e on =
        let inner : Scope = leave s (at_end s chosen) in
        let first : resolved_action s chosen ≡ chosen = cc in
        let second : resolved_other inner other ≡ other = cc in
        both (bindings d chosen) (other_bindings d other) (standings d chosen) (other_standings d other) (locals chosen) (other_locals other)
        (sorted chosen s d first (then_on (at_end s chosen).entities (other_at_end inner other).entities es (other_on other inner) on)) (other_sorted other inner d second on)
    form_sorted (repeats test body) s d e on = let same : resolved_action s body ≡ body = cc in sorted body s d same on
    form_sorted (counts iterator declared low high factor body combine combine_place) s d e on =
        let inner : Scope = declare s iterator sort.Iterator in
        let di = depth_inside d factor.value in
        let named : Some (size s) ≡ iterator.entity = cc in
        let first : resolved_action inner body ≡ body = cc in
        let second : resolved_other (at_end inner body) combine ≡ combine = cc in
        let behind = then_on (at_end inner body).entities (other_at_end (at_end inner body) combine).entities es (other_on combine (at_end inner body)) on in
        let inside = both (bindings di body) (other_bindings di combine) (standings di body) (other_standings di combine) (locals body) (other_locals combine)
        (sorted body inner di first behind) (other_sorted combine (at_end inner body) di second on) in
        record {
          bound = (declared_as is_bound s iterator sort.Iterator iterator.entity named refl (then_on inner.entities (at_end inner body).entities es (goes_on body inner) behind), inside.bound);
          viewed = inside.viewed;
          stored = inside.stored;
        }

    other_sorted : (m : MaybeAction) (s : Scope) (d : ℕ) → resolved_other s m ≡ m → GoesOn (other_at_end s m).entities es → AreSorted es (other_bindings d m) (other_standings d m) (other_locals m)
    other_sorted no_action s d e on = nothing
    other_sorted (one_action a) s d e on = let same : resolved_action s a ≡ a = cc in sorted a s d same on

    part_sorted : (part : Actions) (s : Scope) (d : ℕ) → resolved_actions s part ≡ part → GoesOn (actions_at_end s part).entities es → AreSorted es (part_bindings d part) (part_standings d part) (part_locals part)
    part_sorted no_actions s d e on = nothing
    part_sorted (action_then a rest) s d e on =
        let after : Scope = past s a (at_end s a) in
        let first : resolved_action s a ≡ a = cc in
        let second : resolved_actions after rest ≡ rest = cc in
        let same = past_on s (at_end s a) a in
        let behind = then_on after.entities (actions_at_end after rest).entities es (part_on rest after) on in
        both (bindings d a) (part_bindings d rest) (standings d a) (part_standings d rest) (locals a) (part_locals rest)
        (sorted a s d first (subst (λ (x : List Entity). GoesOn x es) same behind)) (part_sorted rest after d second on)

    groups_sorted : (gs : Groups) (s : Scope) (d : ℕ) → resolved_groups s gs ≡ gs → GoesOn (groups_at_end s gs).entities es → AreSorted es (groups_bindings d gs) (groups_standings d gs) (groups_locals gs)
    groups_sorted no_groups s d e on = nothing
    groups_sorted (group_then g rest) s d e on =
        let after : Scope = actions_at_end s g in
        let first : resolved_actions s g ≡ g = cc in
        let second : resolved_groups after rest ≡ rest = cc in
        both (part_bindings d g) (groups_bindings d rest) (part_standings d g) (groups_standings d rest) (part_locals g) (groups_locals rest)
        (part_sorted g s d first (then_on after.entities (groups_at_end after rest).entities es (groups_on rest after) on)) (groups_sorted rest after d second on)

-- the names of a ready program
pub body_sorted : (p : Program) → IsReady p → AreSorted p.entities (bindings_of p) (standings 0 p.body) (locals p.body)
body_sorted p r =
    sorted p.entities p.body (body_scope p) 0 (ap (λ (x : Program). x.body) r.entities)
    (subst (λ (es : List Entity). GoesOn (last_scope p).entities es) (ap (λ (x : Program). x.entities) r.entities) (same_on (last_scope p).entities))
