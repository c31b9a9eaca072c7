-- What is known of each visible name, at a point of the text inside unrolled loops of given factors: a variable or an
-- iterator has the kind of its declaration, which stands inside the first of these loops; a memory is declared, with a
-- shape that keeps the rules; a view has a way to one. One more loop round a point leaves all of it as it is, since what was declared inside the
-- first of some loops was so inside the first of more. Behind a declaration its own name is known too.
use Rattle.std.proofs.Common.{◌≡◌, ◌⊎◌, ℕ, inl, inr, Bool, true, false, if◌then◌else◌, List, [], ◌∷◌, ◌++◌, length, Option, Some, None, refl, ap, sym, ◌∙◌, subst}
use Rattle.std.specs.Prelude.{slice_get}
use Rattle.std.specs.Option.{is_some}
use Rattle.dh_value.specs.declared.kinds.Kind.{Kind}
use Rattle.dh_value.specs.Words.{IsKind}
use Rattle.dh_tree.specs.declared.breaches.Breach.{Breach}
use Rattle.dh_tree.specs.declared.trees.expressions.Ref.{Ref}
use Rattle.dh_tree.specs.declared.trees.programs.Sort.{Sort}
use Rattle.dh_tree.specs.Breaches.{unknown}
use Rattle.dh_tree.specs.Kinds.{Fact, of_variable, of_iterator, of_memory, of_function, Facts, fact_at, fact_of, facts_after, value_kind, target_kind}
use Rattle.dh_tree.specs.PlainTrees.{Action, action, lets, lets_memory, views, assigns, stores, reduces, calls, blocks, decides, repeats, counts}
use Rattle.dh_tree.specs.Resolved.{used}
use Rattle.dh_tree.specs.Scopes.{ScopeEntry, binding, entity_of, is_visible, bind, Scope, declare, past, at_end}
use Rattle.dh_tree.specs.Widths.{IsSized}
use Rattle.dh_runnable.proofs.TypedParts.{IsMemory}
use Rattle.dh_runnable.proofs.ViewsKnown.{IsView, inside_more, view_more}
use Rattle.dh_tree.proofs.EmptyLists.{not_none}
use Rattle.dh_meaning.specs.Bindings.{binding_in, kind_bound, depth_bound}
use Rattle.dh_meaning.specs.CoreOf.{Known}
use Rattle.dh_sound.proofs.FactsGrow.{Extends, appended, added_last, groups_grow, InStep}
use Rattle.dh_sound.proofs.KindsOfCommands.{added_found}
use Rattle.dh_code.specs.Declarations.{factors_inside}
use Rattle.dh_code.specs.Slots.{Placing}
use Rattle.dh_code.specs.Suited.{IsInside}

-- Declarations.

-- an entity is a variable of this kind, which is declared inside the first of these loops
pub record IsPlaced (known : Known) (p : Placing) (loops : List ℕ) (n : ℕ) (k : Kind) : Type 0 where
  pub bound : kind_bound (binding_in known.bindings n) ≡ k
  pub inside : IsInside p loops (depth_bound (binding_in known.bindings n)) n

pub record IsVariable (known : Known) (p : Placing) (loops : List ℕ) (n : ℕ) (k : Kind) : Type 0 where
  pub sized : IsKind k
  pub placed : IsPlaced known p loops n k

-- what is known of an entity stands
abbrev pub IsGood : Known → Placing → (loops : List ℕ) → (n : ℕ) → Fact → Type 0
IsGood known p loops n (of_variable None) = ⊥
IsGood known p loops n (of_variable (Some k)) = IsVariable known p loops n k
IsGood known p loops n (of_iterator k) = IsVariable known p loops n k
IsGood known p loops n (of_memory k dims) = IsMemory known.memories n k dims ⊎ IsView known p loops n k dims
IsGood known p loops n (of_function parameters) = Unit {0}

-- something that stands is known of an entity
pub record IsKnownName (known : Known) (p : Placing) (loops : List ℕ) (facts : Facts) (n : ℕ) : Type 0 where
  pub fact : Fact
  pub is : slice_get facts n ≡ Some fact
  pub good : IsGood known p loops n fact

-- and so of every name that is visible
abbrev pub Knows : Known → Placing → (loops : List ℕ) → Facts → List ScopeEntry → Type 0
Knows known p loops facts bs = (name : List ℕ) (n : ℕ) → entity_of bs name ≡ Some n → IsKnownName known p loops facts n

-- what is known of a name
pub record IsNamed (known : Known) (p : Placing) (loops : List ℕ) (facts : Facts) (r : Ref) : Type 0 where
  pub number : ℕ
  pub entity : r.entity ≡ Some number
  pub stands : IsKnownName known p loops facts number

visible_number : (o : Option ℕ) (b : Breach) → (if is_some o then [] else b ∷ []) ≡ [] → (n : ℕ) × (o ≡ Some n)
visible_number None b e = not_none _ _ e
visible_number (Some n) b e = (n, refl)

-- Inside one more loop.

variable_more : (known : Known) (p : Placing) (loops : List ℕ) (factor n : ℕ) (k : Kind) → IsVariable known p loops n k → IsVariable known p (factors_inside loops factor) n k
variable_more known p loops factor n k h =
    record { sized = h.sized; placed = record { bound = h.placed.bound; inside = inside_more p loops factor (depth_bound (binding_in known.bindings n)) n h.placed.inside } }

good_more : (known : Known) (p : Placing) (loops : List ℕ) (factor n : ℕ) (f : Fact) → IsGood known p loops n f → IsGood known p (factors_inside loops factor) n f
good_more known p loops factor n (of_variable None) h = h
good_more known p loops factor n (of_variable (Some k)) h = variable_more known p loops factor n k h
good_more known p loops factor n (of_iterator k) h = variable_more known p loops factor n k h
good_more known p loops factor n (of_memory k dims) (inl g) = inl g
good_more known p loops factor n (of_memory k dims) (inr v) = inr (view_more known p loops factor n k dims v)
good_more known p loops factor n (of_function parameters) h = h

pub knows_more : (known : Known) (p : Placing) (loops : List ℕ) (factor : ℕ) (facts : Facts) (bs : List ScopeEntry) → Knows known p loops facts bs → Knows known p (factors_inside loops factor) facts bs
knows_more known p loops factor facts bs k name n e =
    let h = k name n e in record { fact = h.fact; is = h.is; good = good_more known p loops factor n h.fact h.good }

-- Points of the text.

module _ (known : Known) (p : Placing) (loops : List ℕ) where
  pub name_known : (facts : Facts) (bs : List ScopeEntry) (r : Ref) → Knows known p loops facts bs → used bs r ≡ r → unknown bs r ≡ [] → IsNamed known p loops facts r
  name_known facts bs r k u v =
      let seen = visible_number (entity_of bs r.name) _ v in
      record { number = seen.0; entity = sym (ap (λ (x : Ref). x.entity) u) ∙ seen.1; stands = k r.name seen.0 seen.1 }

  pub fact_is : (facts : Facts) (r : Ref) (n : IsNamed known p loops facts r) → fact_of facts r ≡ Some n.stands.fact
  fact_is facts r n = ap (fact_at facts) n.entity ∙ n.stands.is

  -- names that are visible before are known behind
  pub still_known : (facts later : Facts) (bs : List ScopeEntry) → Extends later facts → Knows known p loops facts bs → Knows known p loops later bs
  still_known facts later bs x k name n e = let h = k name n e in record { fact = h.fact; is = x n h.fact h.is; good = h.good }

  -- a name that is bound to an entity of which something is known
  pub bind_known : (facts : Facts) (bs : List ScopeEntry) (name : List ℕ) (m : ℕ) → Knows known p loops facts bs → IsKnownName known p loops facts m → Knows known p loops facts (bind bs name m)
  bind_known facts bs name m k h other n e = either (is_visible bs name) e
    where
      either : (b : Bool) → entity_of (if b then bs else bs ++ binding name m ∷ []) other ≡ Some n → IsKnownName known p loops facts n
      either true f = k other n f
      either false f = elim (added_found bs name other m n f) [ inl g ↦ k other n g | inr g ↦ subst (λ (x : ℕ). IsKnownName known p loops facts x) g h ]

  -- behind a declaration
  pub declared_known : (facts : Facts) (s : Scope) (r : Ref) (k : Sort) (f : Fact) → InStep s facts → Knows known p loops facts s.visible → IsGood known p loops (length s.entities) f → Knows known p loops (facts ++ f ∷ []) (declare s r k).visible
  declared_known facts s r k f l h g =
      bind_known (facts ++ f ∷ []) s.visible r.name (length s.entities) (still_known facts (facts ++ f ∷ []) s.visible (appended facts (f ∷ [])) h)
      (record { fact = f; is = ap (slice_get (facts ++ f ∷ [])) l ∙ added_last facts f; good = g })

  -- behind a command of a list
  pub past_known : (facts : Facts) (s : Scope) (a : Action) → Knows known p loops facts s.visible → Knows known p loops (facts_after facts a) (at_end s a).visible → Knows known p loops (facts_after facts a) (past s a (at_end s a)).visible
  past_known facts s (action id place (blocks body)) h i = still_known facts (facts_after facts (action id place (blocks body))) s.visible (groups_grow facts body) h
  past_known facts s (action id place (lets name declared value)) h i = i
  past_known facts s (action id place (lets_memory name shape shape_places value)) h i = i
  past_known facts s (action id place (views name parent form)) h i = i
  past_known facts s (action id place (assigns target value)) h i = i
  past_known facts s (action id place (stores target value)) h i = i
  past_known facts s (action id place (reduces target o value)) h i = i
  past_known facts s (action id place (calls function arguments)) h i = i
  past_known facts s (action id place (decides test chosen other)) h i = i
  past_known facts s (action id place (repeats test body)) h i = i
  past_known facts s (action id place (counts iterator declared low high factor body combine combine_place)) h i = i

  -- the kind of what is assigned to
  good_sized : (n : ℕ) (f : Fact) → IsGood known p loops n f → IsSized (value_kind (Some f))
  good_sized n (of_variable None) g = tt
  good_sized n (of_variable (Some k)) g = g.sized
  good_sized n (of_iterator k) g = g.sized
  good_sized n (of_memory k dims) g = tt
  good_sized n (of_function parameters) g = tt

  pub target_sized : (facts : Facts) (r : Ref) → IsNamed known p loops facts r → IsSized (target_kind (fact_of facts r))
  target_sized facts r n = subst (λ (o : Option Fact). IsSized (value_kind o)) (sym (fact_is facts r n)) (good_sized n.number n.stands.fact n.stands.good)
