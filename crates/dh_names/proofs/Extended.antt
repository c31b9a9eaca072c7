-- Names are only added to those that are visible, and each declaration adds one entity.
use Rattle.std.proofs.Common.{◌≡◌, ℕ, ◌+◌, Bool, true, false, List, [], ◌∷◌, ◌++◌, length, refl, sym, ap, ◌∙◌, if◌then◌else◌, arith}
use Rattle.std.proofs.lemmas.List.{append_assoc, append-nil, length-append}
use Rattle.dh_tree.specs.declared.trees.expressions.Ref.{Ref}
use Rattle.dh_tree.specs.declared.trees.programs.Sort.{Sort}
use Rattle.dh_tree.specs.declared.trees.programs.Sort.TheVariants.{Variable, Iterator, Memory, View}
use Rattle.dh_tree.specs.PlainTrees.{Action, action, ActionForm, lets, lets_memory, views, assigns, stores, reduces, calls, blocks, decides, repeats, counts, MaybeAction, no_action, one_action, Actions, no_actions, action_then, Groups, no_groups, group_then}
use Rattle.dh_tree.specs.Scopes.{ScopeEntry, binding, is_visible, bind, Scope, declare, leave, past, at_end, form_at_end, other_at_end, actions_at_end, groups_at_end}
use Rattle.dh_tree.specs.NameCounts.{declared_in, declared_in_form, declared_in_other, declared_in_actions, declared_in_groups}

-- the second names are the first and further ones
abbrev pub Further : List ScopeEntry → List ScopeEntry → Type 0
Further xs ys = (more : List ScopeEntry) × (ys ≡ xs ++ more)

pub same : (xs : List ScopeEntry) → Further xs xs
same xs = ([], sym (append-nil xs))

pub onward : (xs ys zs : List ScopeEntry) → Further xs ys → Further ys zs → Further xs zs
onward xs ys zs f g = (f.0 ++ g.0, g.1 ∙ ap (λ l. l ++ g.0) f.1 ∙ append_assoc xs f.0 g.0)

bind_further : (bs : List ScopeEntry) (name : List ℕ) (n : ℕ) → Further bs (bind bs name n)
bind_further bs name n = by (is_visible bs name)
  where
    by : (b : Bool) → Further bs (if b then bs else bs ++ binding name n ∷ [])
    by true = same bs
    by false = (binding name n ∷ [], refl)

pub declare_further : (s : Scope) (r : Ref) (sort : Sort) → Further s.visible (declare s r sort).visible
declare_further s r sort = bind_further s.visible r.name (length s.entities)

mutual
  pub further : (s : Scope) (a : Action) → Further s.visible (at_end s a).visible
  further s (action id place form) = form_further s form

  form_further : (s : Scope) (f : ActionForm) → Further s.visible (form_at_end s f).visible
  form_further s (lets name declared value) = bind_further s.visible name.name (length s.entities)
  form_further s (lets_memory name shape shape_places value) = bind_further s.visible name.name (length s.entities)
  form_further s (views name parent form) = bind_further s.visible name.name (length s.entities)
  form_further s (assigns target value) = same s.visible
  form_further s (stores target value) = same s.visible
  form_further s (reduces target op value) = same s.visible
  form_further s (calls function arguments) = same s.visible
  form_further s (blocks body) = groups_further s body
  form_further s (decides test chosen other) = same s.visible
  form_further s (repeats test body) = same s.visible
  form_further s (counts iterator declared low high factor body combine combine_place) = same s.visible

  actions_further : (s : Scope) (list : Actions) → Further s.visible (actions_at_end s list).visible
  actions_further s no_actions = same s.visible
  actions_further s (action_then a rest) =
      onward s.visible (past s a (at_end s a)).visible (actions_at_end (past s a (at_end s a)) rest).visible (past_further s a (at_end s a) (further s a)) (actions_further (past s a (at_end s a)) rest)

  groups_further : (s : Scope) (gs : Groups) → Further s.visible (groups_at_end s gs).visible
  groups_further s no_groups = same s.visible
  groups_further s (group_then g rest) =
      onward s.visible (actions_at_end s g).visible (groups_at_end (actions_at_end s g) rest).visible (actions_further s g) (groups_further (actions_at_end s g) rest)

  past_further : (s : Scope) (a : Action) (t : Scope) → Further s.visible t.visible → Further s.visible (past s a t).visible
  past_further s (action id place (blocks body)) t f = same s.visible
  past_further s (action id place (lets name declared value)) t f = f
  past_further s (action id place (lets_memory name shape shape_places value)) t f = f
  past_further s (action id place (views name parent form)) t f = f
  past_further s (action id place (assigns target value)) t f = f
  past_further s (action id place (stores target value)) t f = f
  past_further s (action id place (reduces target op value)) t f = f
  past_further s (action id place (calls function arguments)) t f = f
  past_further s (action id place (decides test chosen other)) t f = f
  past_further s (action id place (repeats test body)) t f = f
  past_further s (action id place (counts iterator declared low high factor body combine combine_place)) t f = f

pub other_further : (s : Scope) (m : MaybeAction) → Further s.visible (other_at_end s m).visible
other_further s no_action = same s.visible
other_further s (one_action a) = further s a

pub past_entities : (s : Scope) (a : Action) (t : Scope) → (past s a t).entities ≡ t.entities
past_entities s (action id place (blocks body)) t = refl
past_entities s (action id place (lets name declared value)) t = refl
past_entities s (action id place (lets_memory name shape shape_places value)) t = refl
past_entities s (action id place (views name parent form)) t = refl
past_entities s (action id place (assigns target value)) t = refl
past_entities s (action id place (stores target value)) t = refl
past_entities s (action id place (reduces target op value)) t = refl
past_entities s (action id place (calls function arguments)) t = refl
past_entities s (action id place (decides test chosen other)) t = refl
past_entities s (action id place (repeats test body)) t = refl
past_entities s (action id place (counts iterator declared low high factor body combine combine_place)) t = refl

pub declare_counted : (s : Scope) (r : Ref) (sort : Sort) → length (declare s r sort).entities ≡ length s.entities + 1
declare_counted s r sort = length-append s.entities _

summed : (a b c m n : ℕ) → b ≡ a + m → c ≡ b + n → c ≡ a + (m + n)
summed a b c m n p q = omega (arith, p, q)

mutual
  pub counted : (s : Scope) (a : Action) → length (at_end s a).entities ≡ length s.entities + declared_in a
  counted s (action id place form) = form_counted s form

  form_counted : (s : Scope) (f : ActionForm) → length (form_at_end s f).entities ≡ length s.entities + declared_in_form f
  form_counted s (lets name declared value) = declare_counted s name Variable
  form_counted s (lets_memory name shape shape_places value) = declare_counted s name Memory
  form_counted s (views name parent form) = declare_counted s name View
  form_counted s (assigns target value) = omega arith
  form_counted s (stores target value) = omega arith
  form_counted s (reduces target op value) = omega arith
  form_counted s (calls function arguments) = omega arith
  form_counted s (blocks body) = groups_counted s body
  form_counted s (decides test chosen other) =
      summed (length s.entities) (length (at_end s chosen).entities) _ (declared_in chosen) (declared_in_other other) (counted s chosen) (other_counted (leave s (at_end s chosen)) other)
  form_counted s (repeats test body) = counted s body
  form_counted s (counts iterator declared low high factor body combine combine_place) =
      let d = declare s iterator Iterator in
      summed (length s.entities) (length d.entities) _ 1 (declared_in body + declared_in_other combine) (declare_counted s iterator Iterator)
      (summed (length d.entities) (length (at_end d body).entities) _ (declared_in body) (declared_in_other combine) (counted d body) (other_counted (at_end d body) combine))

  pub other_counted : (s : Scope) (m : MaybeAction) → length (other_at_end s m).entities ≡ length s.entities + declared_in_other m
  other_counted s no_action = omega arith
  other_counted s (one_action a) = counted s a

  pub actions_counted : (s : Scope) (list : Actions) → length (actions_at_end s list).entities ≡ length s.entities + declared_in_actions list
  actions_counted s no_actions = omega arith
  actions_counted s (action_then a rest) =
      let p = past s a (at_end s a) in
      summed (length s.entities) (length p.entities) _ (declared_in a) (declared_in_actions rest) (ap (λ l. length l) (past_entities s a (at_end s a)) ∙ counted s a) (actions_counted p rest)

  pub groups_counted : (s : Scope) (gs : Groups) → length (groups_at_end s gs).entities ≡ length s.entities + declared_in_groups gs
  groups_counted s no_groups = omega arith
  groups_counted s (group_then g rest) =
      summed (length s.entities) (length (actions_at_end s g).entities) _ (declared_in_actions g) (declared_in_groups rest) (actions_counted s g) (groups_counted (actions_at_end s g) rest)
