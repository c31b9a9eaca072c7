-- The memories of a program have entities of their own, in rising order: so the memory of a place is that of its entity.
use Rattle.std.proofs.Common.{◌≡◌, ℕ, zero, suc, drop, ◌+◌, ◌<◌, ◌≤◌, ◌==◌, true, false, if◌then◌else◌, List, [], ◌∷◌, ◌++◌, length, map, Option, Some, None, option_map, refl, sym, ap, ◌∙◌, subst, arith, length-append}
use Rattle.std.specs.Prelude.{slice_get}
use Rattle.std.proofs.lemmas.List.{length-map}
use Rattle.std.proofs.lemmas.Bool.Decides.{nat_tests}
use Rattle.dh_tree.specs.declared.breaches.Breach.{Breach}
use Rattle.dh_tree.specs.declared.trees.expressions.Ref.{Ref}
use Rattle.dh_tree.specs.declared.trees.programs.Sort.{Sort}
use Rattle.dh_tree.specs.declared.trees.programs.Sort.TheVariants.{Variable, Iterator, View, Function}
use Rattle.dh_tree.specs.declared.trees.programs.Sort.TheVariants.{Memory as MemorySort}
use Rattle.dh_tree.specs.Forms.{unbuilt_functions}
use Rattle.dh_tree.specs.Memories.{Memory, outside_memory, locals, form_locals, other_locals, groups_locals, part_locals, memories_of, same_entity, number_in, memory_in}
use Rattle.dh_tree.specs.PlainTrees.{Action, action, ActionForm, lets, lets_memory, views, assigns, stores, reduces, calls, blocks, decides, repeats, counts, MaybeAction, no_action, one_action, Actions, no_actions, action_then, Groups, no_groups, group_then, Declared, Defined, Program}
use Rattle.dh_tree.specs.Ready.{IsReady}
use Rattle.dh_tree.specs.Resolved.{resolved_action, resolved_form, resolved_other, resolved_actions, resolved_groups, resolved_decls, HasEntities}
use Rattle.dh_tree.specs.Scopes.{Scope, entity, declare, leave, past, at_end, form_at_end, other_at_end, actions_at_end, groups_at_end, after_functions, first_scope, body_scope, last_scope}

-- entities rise, from a number on and below another
abbrev pub Rise : (low high : ℕ) → List Memory → Type 0
Rise low high [] = low ≤ high
Rise low high (m ∷ ms) = (n : ℕ) × ((m.name.entity ≡ Some n) × ((low ≤ n) × Rise (suc n) high ms))

from_lower : (a b high : ℕ) (ms : List Memory) → a ≤ b → Rise b high ms → Rise a high ms
from_lower a b high [] l h = omega (arith, l, h)
from_lower a b high (m ∷ ms) l (n, (is, (from, rest))) = (n, (is, (omega (arith, l, from), rest)))

both_rise : (a b c : ℕ) (xs ys : List Memory) → Rise a b xs → Rise b c ys → Rise a c (xs ++ ys)
both_rise a b c [] ys h i = from_lower a b c ys h i
both_rise a b c (m ∷ xs) ys (n, (is, (from, rest))) i = (n, (is, (from, both_rise (suc n) b c xs ys rest i)))

abbrev size : Scope → ℕ
size s = length s.entities

declared_next : (s : Scope) (r : Ref) (sort : Sort) → size (declare s r sort) ≡ size s + 1
declared_next s r sort = length-append s.entities _

past_size : (s inside : Scope) (a : Action) → size (past s a inside) ≡ size inside
past_size s inside (action id place (blocks body)) = refl
past_size s inside (action id place (lets name declared value)) = refl
past_size s inside (action id place (lets_memory name shape shape_places value)) = refl
past_size s inside (action id place (views name parent form)) = refl
past_size s inside (action id place (assigns target value)) = refl
past_size s inside (action id place (stores target value)) = refl
past_size s inside (action id place (reduces target o value)) = refl
past_size s inside (action id place (calls function arguments)) = refl
past_size s inside (action id place (decides test chosen other)) = refl
past_size s inside (action id place (repeats test body)) = refl
past_size s inside (action id place (counts iterator declared low high factor body combine combine_place)) = refl

mutual
  locals_rise : (s : Scope) (a : Action) → resolved_action s a ≡ a → Rise (size s) (size (at_end s a)) (locals a)
  locals_rise s (action id place form) e = let same : resolved_form s form ≡ form = cc in form_rises s form same

  form_rises : (s : Scope) (f : ActionForm) → resolved_form s f ≡ f → Rise (size s) (size (form_at_end s f)) (form_locals f)
  form_rises s (lets name declared value) e = let g = declared_next s name Variable in omega (arith, g)
  form_rises s (lets_memory name shape shape_places value) e =
      let named : Some (size s) ≡ name.entity = cc in
      let g = declared_next s name MemorySort in
      (size s, (sym named, (omega arith, omega (arith, g))))
  form_rises s (views name parent form) e = let g = declared_next s name View in omega (arith, g)
  form_rises s (assigns target value) e = omega arith
  form_rises s (stores target value) e = omega arith
  form_rises s (reduces target o value) e = omega arith
  form_rises s (calls function arguments) e = omega arith
  form_rises s (blocks body) e = groups_rise s body (let f = e in cc)
  form_rises s (decides test chosen other) e =
      let inner : Scope = leave s (at_end s chosen) in
      let first : resolved_action s chosen ≡ chosen = cc in
      let second : resolved_other inner other ≡ other = cc in
      both_rise (size s) (size (at_end s chosen)) (size (other_at_end inner other)) (locals chosen) (other_locals other) (locals_rise s chosen first) (other_rises inner other second)
  form_rises s (repeats test body) e = let same : resolved_action s body ≡ body = cc in locals_rise s body same
  form_rises s (counts iterator declared low high factor body combine combine_place) e =
      let d : Scope = declare s iterator Iterator in
      let g = declared_next s iterator Iterator in
      let first : resolved_action d body ≡ body = cc in
      let second : resolved_other (at_end d body) combine ≡ combine = cc in
      let end = size (other_at_end (at_end d body) combine) in
      from_lower (size s) (size d) end (locals body ++ other_locals combine) (omega (arith, g))
      (both_rise (size d) (size (at_end d body)) end (locals body) (other_locals combine) (locals_rise d body first) (other_rises (at_end d body) combine second))

  other_rises : (s : Scope) (m : MaybeAction) → resolved_other s m ≡ m → Rise (size s) (size (other_at_end s m)) (other_locals m)
  other_rises s no_action e = omega arith
  other_rises s (one_action a) e = let same : resolved_action s a ≡ a = cc in locals_rise s a same

  part_rises : (s : Scope) (p : Actions) → resolved_actions s p ≡ p → Rise (size s) (size (actions_at_end s p)) (part_locals p)
  part_rises s no_actions e = omega arith
  part_rises s (action_then a rest) e =
      let after : Scope = past s a (at_end s a) in
      let first : resolved_action s a ≡ a = cc in
      let second : resolved_actions after rest ≡ rest = cc in
      let same = past_size s (at_end s a) a in
      both_rise (size s) (size (at_end s a)) (size (actions_at_end after rest)) (locals a) (part_locals rest) (locals_rise s a first)
      (from_lower (size (at_end s a)) (size after) (size (actions_at_end after rest)) (part_locals rest) (omega (arith, same)) (part_rises after rest second))

  groups_rise : (s : Scope) (g : Groups) → resolved_groups s g ≡ g → Rise (size s) (size (groups_at_end s g)) (groups_locals g)
  groups_rise s no_groups e = omega arith
  groups_rise s (group_then g rest) e =
      let after : Scope = actions_at_end s g in
      let first : resolved_actions s g ≡ g = cc in
      let second : resolved_groups after rest ≡ rest = cc in
      both_rise (size s) (size after) (size (groups_at_end after rest)) (part_locals g) (groups_locals rest) (part_rises s g first) (groups_rise after rest second)

abbrev first_entity : List Declared → Option ℕ
first_entity [] = None
first_entity (d ∷ ds) = d.name.entity

decls_rise : (n : ℕ) (ds : List Declared) → resolved_decls n ds ≡ ds → Rise n (n + length ds) (map outside_memory ds)
decls_rise n [] e = omega arith
decls_rise n (d ∷ ds) e =
    let named : Some n ≡ d.name.entity = ap first_entity e in
    let rest : resolved_decls (n + 1) ds ≡ ds = ap (drop 1) e in
    let more : n + 1 + length ds ≡ n + suc (length ds) = omega arith in (
      n,
      (
        sym named,
        (
          omega arith,
          from_lower (suc n) (n + 1) (n + suc (length ds)) (map outside_memory ds) (omega arith)
              (subst (λ (k : ℕ). Rise (n + 1) k (map outside_memory ds)) more (decls_rise (n + 1) ds rest)),
        ),
      ),
    )

no_functions : (fs : List Defined) (bs : List Breach) → unbuilt_functions fs ++ bs ≡ [] → fs ≡ []
no_functions [] bs e = refl
no_functions (f ∷ fs) bs e = absurd cc

outer_long : (p : Program) → p.functions ≡ [] → length p.decls ≤ size (body_scope p)
outer_long p none =
    let both = length-append (map (λ (d : Declared). entity d.name MemorySort) p.decls) (map (λ (f : Defined). entity f.name Function) p.functions) in
    let first = length-map p.decls (λ (d : Declared). entity d.name MemorySort) in
    let start : size (body_scope p) ≡ size (first_scope p) = ap (λ (fs : List Defined). size (after_functions (length p.decls) (first_scope p) fs)) none in
    omega (arith, both, first, start)

pub memories_rise : (p : Program) → HasEntities p → p.functions ≡ [] → Rise 0 (size (last_scope p)) (memories_of p)
memories_rise p h none =
    let outer = decls_rise 0 p.decls (ap (λ (x : Program). x.decls) h) in
    let inner = locals_rise (body_scope p) p.body (ap (λ (x : Program). x.body) h) in
    let long = outer_long p none in
    both_rise 0 (0 + length p.decls) (size (last_scope p)) (map outside_memory p.decls) (locals p.body) outer
    (from_lower (0 + length p.decls) (size (body_scope p)) (size (last_scope p)) (locals p.body) (omega (arith, long)) inner)

-- the memory of a place is that of its entity
pub record IsOfEntity (low i : ℕ) (m : Memory) (ms : List Memory) : Type 0 where
  pub entity : ℕ
  pub from : low ≤ entity
  pub number : number_in ms (Some entity) ≡ Some i
  pub found : memory_in ms (Some entity) ≡ Some m

same_number : (o : Option ℕ) (n : ℕ) → o ≡ Some n → same_entity o (Some n) ≡ true
same_number o n e =
    let t : (n == n) ≡ true = grind (arith, nat_tests) in
    ap (λ x. same_entity x (Some n)) e ∙ t

other_number : (o : Option ℕ) (n k : ℕ) → o ≡ Some n → n < k → same_entity o (Some k) ≡ false
other_number o n k e l =
    let t : (n == k) ≡ false = grind (arith, nat_tests, l) in
    ap (λ x. same_entity x (Some k)) e ∙ t

of_entity : (low high : ℕ) (ms : List Memory) → Rise low high ms → (i : ℕ) (m : Memory) → slice_get ms i ≡ Some m → IsOfEntity low i m ms
of_entity low high [] h i m e = absurd cc
of_entity low high (x ∷ ms) (n, (is, (from, rest))) zero m e =
    let same : x ≡ m = cc in
    let t = same_number x.name.entity n is in
    record {
      entity = n;
      from = from;
      number = ap (λ b. if b then Some 0 else option_map suc (number_in ms (Some n))) t;
      found = ap (λ b. if b then Some x else memory_in ms (Some n)) t ∙ ap Some same;
    }
of_entity low high (x ∷ ms) (n, (is, (from, rest))) (suc i) m e =
    let r = of_entity (suc n) high ms rest i m e in
    let later = r.from in
    let t = other_number x.name.entity n r.entity is (omega (arith, later)) in
    record {
      entity = r.entity;
      from = omega (arith, from, later);
      number = ap (λ b. if b then Some 0 else option_map suc (number_in ms (Some r.entity))) t ∙ ap (option_map suc) r.number;
      found = ap (λ b. if b then Some x else memory_in ms (Some r.entity)) t ∙ r.found;
    }

-- of a ready program each memory is so
pub memory_of_place : (p : Program) → IsReady p → (i : ℕ) (m : Memory) → slice_get (memories_of p) i ≡ Some m → IsOfEntity 0 i m (memories_of p)
memory_of_place p ready i m e =
    of_entity 0 (size (last_scope p)) (memories_of p) (memories_rise p ready.entities (no_functions p.functions _ ready.built)) i m e
