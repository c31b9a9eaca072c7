-- An expression of a typed program that breaks no rule on names or kinds has a kind; its indices have integer kinds,
-- and the operands of a sum have kinds of one sign, of which that of the sum is the wider. A number is a value of its
-- kind since it has one, and an iterator since its loop breaks no rule. By recursion over expressions, with what
-- is known of the names that are visible.
use Rattle.std.proofs.Common.{◌≡◌, ℕ, ◌&&◌, ◌==◌, max, Bool, true, false, if◌then◌else◌, List, [], ◌∷◌, ◌++◌, Option, Some, None, refl, ap, sym, ◌∙◌, subst, arith}
use Rattle.std.specs.Prelude.{slice_get, pos}
use Rattle.std.specs.Option.{is_some}
use Rattle.dh_base.specs.declared.places.Place.{Place}
use Rattle.dh_value.specs.declared.kinds.Kind.{Kind}
use Rattle.dh_value.specs.declared.kinds.Kind.TheVariants as kind
use Rattle.dh_value.specs.declared.operators.Op.{Op}
use Rattle.dh_value.specs.declared.operators.Op.TheVariants as op
use Rattle.dh_value.specs.Words.{IsKind, IsInteger}
use Rattle.dh_tree.specs.declared.breaches.Breach.{Breach}
use Rattle.dh_tree.specs.declared.trees.counters.Counter.{Counter}
use Rattle.dh_tree.specs.declared.trees.expressions.Ref.{Ref}
use Rattle.dh_tree.specs.Breaches.{unknown, term_breaches, terms_breaches}
use Rattle.dh_tree.specs.Counters.{counter_in}
use Rattle.dh_tree.specs.Indices.{all_fit, form_of}
use Rattle.dh_tree.specs.KindBreaches.{term_kind_breaches, indices_kind_breaches}
use Rattle.dh_tree.specs.Kinds.{Fact, of_variable, of_iterator, of_memory, of_function, Facts, fact_at, fact_of, mismatch, when, is_value, signed_number, is_integer, for_numbers, number_kind, is_shift, keeps_bare, is_bare, found, place_of, left_want, right_want, two_numbers, takes, operands_breaches, applied_kind, unless, applied_breaches, applied_found, value_kind, value_breaches, number_found, number_breaches, index_breaches, all_found, all_integer, count_of, access_breaches, access_found, bank_breaches, bank_found, cast_breaches, cast_found, form_found, typed_term, typed_form, typed_terms}
use Rattle.dh_tree.specs.WiderKinds.{wider}
use Rattle.dh_tree.specs.PlainTrees.{Term, term, TermForm, number, truth_value, named, accessed, in_bank, applied, converted, Terms, no_terms, term_then}
use Rattle.dh_tree.specs.Resolved.{used, resolved_term, resolved_terms}
use Rattle.dh_tree.specs.Scopes.{ScopeEntry, entity_of}
use Rattle.dh_tree.specs.Widths.{IsSized, AreSized, AreAllSized}
use Rattle.dh_meets.specs.SourceEvents.{with_indices, in_row, Site, SourceEvent, accesses, assigned, one_access, source_term_events, source_terms_events, write_events}
use Rattle.dh_sound.specs.IndexValues.{FitsKind, HasIntegerKind, AreSumOperands, is_sum, PartsFit, AllHaveIndexKinds, HasElementKinds}
use Rattle.dh_sound.proofs.BanksReached.{first_none, second_none}
use Rattle.dh_sound.proofs.FactsGrow.{Extends}
use Rattle.dh_sound.proofs.IteratorsKnown.{IsKnownIterator, AreKnownIterators, found_iterator}

pub no_breach : {A B : Type 0} (x : A) (xs : List A) → x ∷ xs ≡ [] → B
no_breach x xs e = cc

-- Facts.

-- what is known of an entity has a kind of 1 to 64 bits
abbrev pub IsGood : Fact → Type 0
IsGood (of_variable None) = ⊥
IsGood (of_variable (Some k)) = IsKind k
IsGood (of_iterator k) = IsKind k
IsGood (of_memory None dims) = ⊥
IsGood (of_memory (Some k) dims) = IsKind k
IsGood (of_function parameters) = Unit {0}

-- something good is known of an entity
pub record IsKnownName (facts : Facts) (n : ℕ) : Type 0 where
  pub fact : Fact
  pub is : slice_get facts n ≡ Some fact
  pub good : IsGood fact

-- and so of every name that is visible
abbrev pub Knows : Facts → List ScopeEntry → Type 0
Knows facts bs = (name : List ℕ) (n : ℕ) → entity_of bs name ≡ Some n → IsKnownName facts n

-- an expression that breaks no rule
pub record IsReady (facts : Facts) (bs : List ScopeEntry) (t : Term) : Type 0 where
  pub named : resolved_term bs t ≡ t
  pub visible : term_breaches bs t ≡ []
  pub kinds : term_kind_breaches facts t ≡ []
  pub sized : AreSized t

pub record AreReady (facts : Facts) (bs : List ScopeEntry) (ts : Terms) : Type 0 where
  pub named : resolved_terms bs ts ≡ ts
  pub visible : terms_breaches bs ts ≡ []
  pub kinds : indices_kind_breaches facts ts ≡ []
  pub sized : AreAllSized ts

-- what is known of a name
pub record IsNamed (facts : Facts) (r : Ref) : Type 0 where
  pub number : ℕ
  pub entity : r.entity ≡ Some number
  pub known : IsKnownName facts number

visible_number : (o : Option ℕ) (b : Breach) → (if is_some o then [] else b ∷ []) ≡ [] → (n : ℕ) × (o ≡ Some n)
visible_number None b e = no_breach _ _ e
visible_number (Some n) b e = (n, refl)

pub name_known : (facts : Facts) (bs : List ScopeEntry) (r : Ref) → Knows facts bs → used bs r ≡ r → unknown bs r ≡ [] → IsNamed facts r
name_known facts bs r k u v =
    let seen = visible_number (entity_of bs r.name) _ v in
    record { number = seen.0; entity = sym (ap (λ (x : Ref). x.entity) u) ∙ seen.1; known = k r.name seen.0 seen.1 }

pub fact_is : (facts : Facts) (r : Ref) (n : IsNamed facts r) → fact_of facts r ≡ Some n.known.fact
fact_is facts r n = ap (fact_at facts) n.entity ∙ n.known.is

-- Wants.

pub for_numbers_sized : (k : Option Kind) → IsSized k → IsSized (for_numbers k)
for_numbers_sized None h = tt
for_numbers_sized (Some kind.Bool) h = tt
for_numbers_sized (Some (kind.Unsigned w)) h = h
for_numbers_sized (Some (kind.Signed w)) h = h

pub number_kind_sized : (want : Option Kind) → IsSized want → IsKind (number_kind want)
number_kind_sized None h = (omega arith, omega arith)
number_kind_sized (Some k) h = h

either_sized : (b : Bool) (j k : Option Kind) → IsSized j → IsSized k → IsSized (if b then j else k)
either_sized true j k h i = h
either_sized false j k h i = i

amount_sized : IsSized (Some (kind.Unsigned 32))
amount_sized = (omega arith, omega arith)

-- Parts.

-- a typed expression has a typed form, and the kind that is found of it
typed_parts : (facts : Facts) (want : Option Kind) (place : Place) (k : Option Kind) (form : TermForm) → typed_term facts want (term place k form) ≡ term place k form → (typed_form facts want form ≡ form) × (k ≡ form_found facts want form)
typed_parts facts want place k form e =
    let same : typed_form facts want form ≡ form = ap form_of e in
    (same, sym (ap found e) ∙ ap (form_found facts want) same)

one_kind : (b : Bool) (m x : Kind) → (if b then Some m else None) ≡ Some x → (x ≡ m) × (b ≡ true)
one_kind true m x e = (cc, refl)
one_kind false m x e = absurd cc

-- a number has the kind of its place, of which it is a value
number_known : (k : Option Kind) (m : Kind) (negative : Bool) (n : ℕ) (place : Place) → k ≡ number_found m negative n → number_breaches k place ≡ [] → (number_found m negative n ≡ Some m) × (is_value m (signed_number negative n) ≡ true)
number_known None m negative n place e f = no_breach _ _ f
number_known (Some x) m negative n place e f = let h = one_kind (is_value m (signed_number negative n)) m x (sym e) in (sym e ∙ ap Some h.0, h.1)

-- a name that is used as a value
value_known : (o : Option Fact) (f : Fact) (place : Place) → o ≡ Some f → IsGood f → value_breaches o place ≡ [] → (k : Kind) × ((value_kind o ≡ Some k) × IsKind k)
value_known o f place at g e =
    let known = cases f g (ap (λ x. value_breaches x place) (sym at) ∙ e) in
    (known.0, (ap value_kind at ∙ known.1.0, known.1.1))
  where
    cases : (f : Fact) → IsGood f → value_breaches (Some f) place ≡ [] → (k : Kind) × ((value_kind (Some f) ≡ Some k) × IsKind k)
    cases (of_variable None) g e = absurd g
    cases (of_variable (Some k)) g e = (k, (refl, g))
    cases (of_iterator k) g e = (k, (refl, g))
    cases (of_memory k dims) g e = no_breach _ _ e
    cases (of_function parameters) g e = no_breach _ _ e

one_count : (all : Bool) (same : Bool) (place : Place) → all ≡ true → when (all && (if same then false else true)) (mismatch place) ≡ [] → same ≡ true
one_count true true place a e = refl
one_count true false place a e = no_breach _ _ e
one_count false same place a e = cc

when_both : (a b : Bool) (k : Option Kind) → a ≡ true → b ≡ true → (if a && b then k else None) ≡ k
when_both a b k e f = ap (λ x. if x && b then k else None) e ∙ ap (λ (x : Bool). if x then k else None) f

memory_kind : (k : Option Kind) (dims : ℕ) → IsGood (of_memory k dims) → (j : Kind) × ((k ≡ Some j) × IsKind j)
memory_kind None dims g = absurd g
memory_kind (Some j) dims g = (j, (refl, g))

-- an access, by what is known of its name
access_known : (o : Option Fact) (f : Fact) (place : Place) (indices : Terms) → o ≡ Some f → IsGood f → access_breaches o place indices ≡ [] → all_found indices ≡ true → all_integer indices ≡ true → (k : Kind) × ((access_found o indices ≡ Some k) × IsKind k)
access_known o f place indices at g e a i =
    let known = cases f g (ap (λ x. access_breaches x place indices) (sym at) ∙ e) in
    (known.0, (ap (λ x. access_found x indices) at ∙ known.1.0, known.1.1))
  where
    cases : (f : Fact) → IsGood f → access_breaches (Some f) place indices ≡ [] → (k : Kind) × ((access_found (Some f) indices ≡ Some k) × IsKind k)
    cases (of_variable k) g e = no_breach _ _ e
    cases (of_iterator k) g e = no_breach _ _ e
    cases (of_function parameters) g e = no_breach _ _ e
    cases (of_memory k dims) g e =
        let j = memory_kind k dims g in
        (j.0, (when_both (all_integer indices) (count_of indices == dims) k i (one_count (all_found indices) (count_of indices == dims) place a e) ∙ j.1.0, j.1.1))

-- a physical access
bank_known : (o : Option Fact) (f : Fact) (place : Place) (row : Option Kind) (j : Kind) → o ≡ Some f → IsGood f → bank_breaches o place ≡ [] → row ≡ Some j → is_integer j ≡ true → (k : Kind) × ((bank_found o row ≡ Some k) × IsKind k)
bank_known o f place row j at g e h i =
    let known = cases f g (ap (λ x. bank_breaches x place) (sym at) ∙ e) in
    (known.0, (ap (λ x. bank_found x row) at ∙ known.1.0, known.1.1))
  where
    cases : (f : Fact) → IsGood f → bank_breaches (Some f) place ≡ [] → (k : Kind) × ((bank_found (Some f) row ≡ Some k) × IsKind k)
    cases (of_variable k) g e = no_breach _ _ e
    cases (of_iterator k) g e = no_breach _ _ e
    cases (of_function parameters) g e = no_breach _ _ e
    cases (of_memory k dims) g e =
        let m = memory_kind k dims g in
        (m.0, (ap (bank_found (Some (of_memory k dims))) h ∙ (ap (λ (b : Bool). if b then k else None) i ∙ m.1.0), m.1.1))

no_breaches : (bs : List Breach) (k : Kind) → bs ≡ [] → unless bs k ≡ Some k
no_breaches [] k e = refl
no_breaches (b ∷ bs) k e = no_breach _ _ e

applied_known : (at to : Place) (o : Op) (l r : Option Kind) (j k : Kind) → l ≡ Some j → r ≡ Some k → applied_breaches o at to l r ≡ [] → (operands_breaches (takes o) at to j k ≡ []) × (applied_found o at to l r ≡ Some (applied_kind o j k))
applied_known at to o l r j k e f h =
    let same : applied_breaches o at to l r ≡ operands_breaches (takes o) at to j k = ap (λ x. applied_breaches o at to x r) e ∙ ap (λ y. applied_breaches o at to (Some j) y) f in
    let none = sym same ∙ h in
    (none, ap (λ x. applied_found o at to x r) e ∙ (ap (λ y. applied_found o at to (Some j) y) f ∙ no_breaches _ _ none))

cast_known : (place : Place) (k : Option Kind) (j to : Kind) → k ≡ Some j → cast_breaches place k to ≡ [] → cast_found k to ≡ Some to
cast_known place k j to e h = ap (λ x. cast_found x to) e ∙ cases to (ap (λ x. cast_breaches place x to) (sym e) ∙ h)
  where
    cases : (to : Kind) → cast_breaches place (Some j) to ≡ [] → cast_found (Some j) to ≡ Some to
    cases kind.Bool h = no_breach _ _ h
    cases (kind.Unsigned w) h = refl
    cases (kind.Signed w) h = refl

is_index : (k : Option Kind) (j : Kind) (place : Place) → k ≡ Some j → index_breaches k place ≡ [] → is_integer j ≡ true
is_index k j place e h = cases j (ap (λ x. index_breaches x place) (sym e) ∙ h)
  where
    cases : (j : Kind) → index_breaches (Some j) place ≡ [] → is_integer j ≡ true
    cases kind.Bool h = no_breach _ _ h
    cases (kind.Unsigned w) h = refl
    cases (kind.Signed w) h = refl

integer_kind : (k : Kind) → IsKind k → is_integer k ≡ true → IsInteger k
integer_kind kind.Bool s i = absurd cc
integer_kind (kind.Unsigned w) s i = s
integer_kind (kind.Signed w) s i = s

-- operands

max_sized : (m n : ℕ) → IsKind (kind.Unsigned m) → IsKind (kind.Unsigned n) → IsKind (kind.Unsigned (max m n))
max_sized m n g h = let a = g.0 in let b = g.1 in let c = h.0 in let d = h.1 in (grind arith, grind arith)

bool_sized : IsKind kind.Bool
bool_sized = (omega arith, omega arith)

wider_sized : (j k : Kind) → IsKind j → IsKind k → IsKind (wider j k)
wider_sized kind.Bool k g h = bool_sized
wider_sized (kind.Unsigned m) kind.Bool g h = bool_sized
wider_sized (kind.Unsigned m) (kind.Unsigned n) g h = max_sized m n g h
wider_sized (kind.Unsigned m) (kind.Signed n) g h = bool_sized
wider_sized (kind.Signed m) kind.Bool g h = bool_sized
wider_sized (kind.Signed m) (kind.Unsigned n) g h = bool_sized
wider_sized (kind.Signed m) (kind.Signed n) g h = max_sized m n g h

applied_sized : (o : Op) (j k : Kind) → IsKind j → IsKind k → IsKind (applied_kind o j k)
applied_sized op.Add j k g h = wider_sized j k g h
applied_sized op.Sub j k g h = wider_sized j k g h
applied_sized op.Mul j k g h = wider_sized j k g h
applied_sized op.And j k g h = wider_sized j k g h
applied_sized op.Or j k g h = wider_sized j k g h
applied_sized op.Xor j k g h = wider_sized j k g h
applied_sized op.Shl j k g h = g
applied_sized op.Shr j k g h = g
applied_sized op.Lt j k g h = bool_sized
applied_sized op.Gt j k g h = bool_sized
applied_sized op.Le j k g h = bool_sized
applied_sized op.Ge j k g h = bool_sized
applied_sized op.Eq j k g h = bool_sized
applied_sized op.Ne j k g h = bool_sized
applied_sized op.Both j k g h = bool_sized
applied_sized op.Either j k g h = bool_sized

two_integers : (at to : Place) (j k : Kind) → operands_breaches two_numbers at to j k ≡ [] → (is_integer j ≡ true) × (is_integer k ≡ true)
two_integers at to kind.Bool k e = no_breach _ _ e
two_integers at to (kind.Unsigned m) kind.Bool e = no_breach _ _ e
two_integers at to (kind.Unsigned m) (kind.Unsigned n) e = (refl, refl)
two_integers at to (kind.Unsigned m) (kind.Signed n) e = no_breach _ _ e
two_integers at to (kind.Signed m) kind.Bool e = no_breach _ _ e
two_integers at to (kind.Signed m) (kind.Unsigned n) e = no_breach _ _ e
two_integers at to (kind.Signed m) (kind.Signed n) e = (refl, refl)

-- the operands of a sum
sum_operands : (o : Op) (at to : Place) (j k : Kind) → is_sum o ≡ true → operands_breaches (takes o) at to j k ≡ [] → (wider j k ≡ applied_kind o j k) × ((is_integer j ≡ true) × (is_integer k ≡ true))
sum_operands op.Add at to j k s e = (refl, two_integers at to j k e)
sum_operands op.Sub at to j k s e = (refl, two_integers at to j k e)
sum_operands op.Mul at to j k s e = absurd cc
sum_operands op.And at to j k s e = absurd cc
sum_operands op.Or at to j k s e = absurd cc
sum_operands op.Xor at to j k s e = absurd cc
sum_operands op.Shl at to j k s e = absurd cc
sum_operands op.Shr at to j k s e = absurd cc
sum_operands op.Lt at to j k s e = absurd cc
sum_operands op.Gt at to j k s e = absurd cc
sum_operands op.Le at to j k s e = absurd cc
sum_operands op.Ge at to j k s e = absurd cc
sum_operands op.Eq at to j k s e = absurd cc
sum_operands op.Ne at to j k s e = absurd cc
sum_operands op.Both at to j k s e = absurd cc
sum_operands op.Either at to j k s e = absurd cc

-- Events.

-- the indices of each access among events have their kinds
abbrev pub EventsHave : List Counter → List SourceEvent → Type 0
EventsHave cs [] = Unit {0}
EventsHave cs (accesses a ∷ es) = HasElementKinds cs a.element × EventsHave cs es
EventsHave cs (assigned entity ∷ es) = EventsHave cs es

pub both_have : (cs : List Counter) (xs ys : List SourceEvent) → EventsHave cs xs → EventsHave cs ys → EventsHave cs (xs ++ ys)
both_have cs [] ys h i = i
both_have cs (accesses a ∷ xs) ys h i = (h.0, both_have cs xs ys h.1 i)
both_have cs (assigned entity ∷ xs) ys h i = both_have cs xs ys h i

first_have : (cs : List Counter) (xs ys : List SourceEvent) → EventsHave cs (xs ++ ys) → EventsHave cs xs
first_have cs [] ys h = tt
first_have cs (accesses a ∷ xs) ys h = (h.0, first_have cs xs ys h.1)
first_have cs (assigned entity ∷ xs) ys h = first_have cs xs ys h

second_have : (cs : List Counter) (xs ys : List SourceEvent) → EventsHave cs (xs ++ ys) → EventsHave cs ys
second_have cs [] ys h = h
second_have cs (accesses a ∷ xs) ys h = second_have cs xs ys h.1
second_have cs (assigned entity ∷ xs) ys h = second_have cs xs ys h

-- a write has the element of a read
pub write_has : (cs : List Counter) (site : Site) (t : Term) → EventsHave cs (source_term_events site t) → EventsHave cs (write_events site t)
write_has cs site (term place k (accessed r indices)) h =
    both_have cs (source_terms_events site indices) (one_access place r.entity (with_indices indices) true site) (first_have cs (source_terms_events site indices) _ h) (second_have cs (source_terms_events site indices) _ h)
write_has cs site (term place k (in_bank r bank bank_place row)) h =
    both_have cs (source_term_events site row) (one_access place r.entity (in_row bank row) true site) (first_have cs (source_term_events site row) _ h) (second_have cs (source_term_events site row) _ h)
write_has cs site (term place k (number negative n)) h = tt
write_has cs site (term place k (truth_value value)) h = tt
write_has cs site (term place k (named r)) h = tt
write_has cs site (term place k (applied o left right)) h = h
write_has cs site (term place k (converted inner to)) h = h

-- Expressions.

-- an expression has a kind, and so have its parts
pub record HasKind (cs : List Counter) (site : Site) (t : Term) : Type 0 where
  pub kind : Kind
  pub is : found t ≡ Some kind
  pub sized : IsKind kind
  pub fits : FitsKind cs kind (form_of t)
  pub parts : PartsFit cs kind (form_of t)
  pub events : EventsHave cs (source_term_events site t)

pub record HaveKinds (cs : List Counter) (site : Site) (ts : Terms) : Type 0 where
  pub found : all_found ts ≡ true
  pub integer : all_integer ts ≡ true
  pub kinds : AllHaveIndexKinds cs ts
  pub events : EventsHave cs (source_terms_events site ts)

pub kind_sized : (cs : List Counter) (site : Site) (t : Term) → HasKind cs site t → IsSized (found t)
kind_sized cs site t k = subst IsSized (sym k.is) k.sized

-- of an integer kind
abbrev integer_of : (cs : List Counter) (site : Site) (t : Term) (k : HasKind cs site t) → is_integer k.kind ≡ true → HasIntegerKind cs t
integer_of cs site t k i = record { kind = k.kind; is = k.is; integer = integer_kind k.kind k.sized i; fits = k.fits }

-- both operands have kinds where each has for a sized kind of its place
operands_known : (cs : List Counter) (site : Site) (facts : Facts) (o : Op) (want : Option Kind) (left right : Term) (bare_left bare_right : Bool)
    → IsSized want
    → ((w : Option Kind) → IsSized w → typed_term facts w left ≡ left → HasKind cs site left)
    → ((w : Option Kind) → IsSized w → typed_term facts w right ≡ right → HasKind cs site right)
    → typed_term facts (left_want o want bare_left bare_right (found (typed_term facts None right))) left ≡ left
    → typed_term facts (right_want o want bare_left bare_right (found (typed_term facts None left))) right ≡ right
    → HasKind cs site left × HasKind cs site right
operands_known cs site facts o want left right false false s l r e f = (l None tt e, r None tt f)
operands_known cs site facts o want left right false true s l r e f =
    let first = l None tt e in
    let sized : IsSized (found (typed_term facts None left)) = subst (λ (t : Term). IsSized (found t)) (sym e) (kind_sized cs site left first) in
    (first, r _ (either_sized (is_shift o) _ _ amount_sized (for_numbers_sized _ sized)) f)
operands_known cs site facts o want left right true false s l r e f =
    let second = r None tt f in
    let sized : IsSized (found (typed_term facts None right)) = subst (λ (t : Term). IsSized (found t)) (sym f) (kind_sized cs site right second) in
    (l _ (either_sized (is_shift o) _ _ tt (for_numbers_sized _ sized)) e, second)
operands_known cs site facts o want left right true true s l r e f =
    (l _ (either_sized (keeps_bare o) _ _ s tt) e, r _ (either_sized (is_shift o) _ _ amount_sized (either_sized (keeps_bare o) _ _ s tt)) f)

-- one index in front of others
index_then : (cs : List Counter) (site : Site) (t : Term) (rest : Terms) → HasKind cs site t → index_breaches (found t) (place_of t) ≡ [] → HaveKinds cs site rest → HaveKinds cs site (term_then t rest)
index_then cs site (term place m form) rest k h r =
    let integer = is_index m k.kind place k.is h in
    record {
      found = ap (λ x. is_some x && all_found rest) k.is ∙ r.found;
      integer = ap (λ x. all_integer (term_then (term place x form) rest)) k.is ∙ (ap (λ b. b && all_integer rest) integer ∙ r.integer);
      kinds = (record { whole = integer_of cs site (term place m form) k integer; parts = k.parts }, r.kinds);
      events = both_have cs (source_term_events site (term place m form)) (source_terms_events site rest) k.events r.events;
    }

same_option : {A : Type 0} (x y : A) → Some x ≡ Some y → x ≡ y
same_option x y e = cc

-- the values of an iterator are of the kind that is found of its name
iterator_fits : (all facts : Facts) (cs : List Counter) (r : Ref) (k : Kind) (c : Counter) → AreKnownIterators all cs → Extends all facts → IsNamed facts r → value_kind (fact_of facts r) ≡ Some k → counter_in cs r.entity ≡ Some c → all_fit (Some k) c (pos 0) ≡ true
iterator_fits all facts cs r k c h x n v e =
    let g = found_iterator all cs r.entity c h e in
    let i : IsKnownIterator all c = g.1 in
    let number : i.number ≡ n.number = same_option _ _ (sym i.is ∙ (g.0 ∙ n.entity)) in
    let fact : n.known.fact ≡ of_iterator i.kind = same_option _ _ (sym (x n.number n.known.fact n.known.is) ∙ (ap (slice_get all) (sym number) ∙ i.known)) in
    let same : i.kind ≡ k = same_option _ _ (sym (ap value_kind (fact_is facts r n) ∙ ap (λ f. value_kind (Some f)) fact) ∙ v) in
    subst (λ (j : Kind). all_fit (Some j) c (pos 0) ≡ true) same i.fits

module _ (all : Facts) (cs : List Counter) (iterators : AreKnownIterators all cs) (site : Site) where
  -- a typed expression of a form of which a kind is found
  with_kind : (facts : Facts) (want : Option Kind) (place : Place) (k : Option Kind) (form : TermForm) (m : Kind) → typed_term facts want (term place k form) ≡ term place k form → form_found facts want form ≡ Some m → IsKind m → FitsKind cs m form → PartsFit cs m form → EventsHave cs (source_term_events site (term place k form)) → HasKind cs site (term place k form)
  with_kind facts want place k form m e f s g p h = record { kind = m; is = (typed_parts facts want place k form e).1 ∙ f; sized = s; fits = g; parts = p; events = h }

  -- the operands of a sum
  parts_of : (o : Op) (left right : Term) (l : HasKind cs site left) (r : HasKind cs site right) → operands_breaches (takes o) (place_of left) (place_of right) l.kind r.kind ≡ [] → is_sum o ≡ true → AreSumOperands cs (applied_kind o l.kind r.kind) left right
  parts_of o left right l r e s =
      let h = sum_operands o (place_of left) (place_of right) l.kind r.kind s e in
      record { first = integer_of cs site left l h.1.0; second = integer_of cs site right r h.1.1; wider_is = h.0 }

  mutual
    pub term_kinds : (facts : Facts) (bs : List ScopeEntry) → Extends all facts → Knows facts bs → (want : Option Kind) → IsSized want → (t : Term) → typed_term facts want t ≡ t → IsReady facts bs t → HasKind cs site t
    term_kinds facts bs x k want s (term place m (number negative n)) e h =
        let number_is = number_known m (number_kind want) negative n place (typed_parts facts want place m (number negative n) e).1 h.kinds in
        with_kind facts want place m (number negative n) (number_kind want) e number_is.0 (number_kind_sized want s) number_is.1 tt tt
    term_kinds facts bs x k want s (term place m (truth_value value)) e h = with_kind facts want place m (truth_value value) kind.Bool e refl bool_sized tt tt tt
    term_kinds facts bs x k want s (term place m (named r)) e h =
        let same : used bs r ≡ r = let eq = h.named in cc in
        let name = name_known facts bs r k same h.visible in
        let value = value_known (fact_of facts r) name.known.fact place (fact_is facts r name) name.known.good h.kinds in
        with_kind facts want place m (named r) value.0 e value.1.0 value.1.1 (λ c f. iterator_fits all facts cs r value.0 c iterators x name value.1.0 f) tt tt
    term_kinds facts bs x k want s (term place m (accessed r indices)) e h =
        let parts = typed_parts facts want place m (accessed r indices) e in
        let typed : typed_terms facts indices ≡ indices = let eq = parts.0 in cc in
        let same : used bs r ≡ r = let eq = h.named in cc in
        let named : resolved_terms bs indices ≡ indices = let eq = h.named in cc in
        let name = name_known facts bs r k same (first_none (unknown bs r) _ h.visible) in
        let inner = terms_kinds facts bs x k indices typed (record {
          named = named;
          visible = second_none (unknown bs r) _ h.visible;
          kinds = second_none (access_breaches (fact_of facts r) place indices) _ h.kinds;
          sized = h.sized;
        }) in
        let none = first_none (access_breaches (fact_of facts r) place indices) _ h.kinds in
        let element = access_known (fact_of facts r) name.known.fact place indices (fact_is facts r name) name.known.good none inner.found inner.integer in
        with_kind facts want place m (accessed r indices) element.0 e element.1.0 element.1.1 tt tt
        (both_have cs (source_terms_events site indices) (one_access place r.entity (with_indices indices) false site) inner.events (inner.kinds, tt))
    term_kinds facts bs x k want s (term place m (in_bank r bank bank_place row)) e h =
        let parts = typed_parts facts want place m (in_bank r bank bank_place row) e in
        let typed : typed_term facts None row ≡ row = let eq = parts.0 in cc in
        let same : used bs r ≡ r = let eq = h.named in cc in
        let named : resolved_term bs row ≡ row = let eq = h.named in cc in
        let name = name_known facts bs r k same (first_none (unknown bs r) _ h.visible) in
        let below = second_none (bank_breaches (fact_of facts r) place) _ h.kinds in
        let i = term_kinds facts bs x k None tt row typed (record {
          named = named;
          visible = second_none (unknown bs r) _ h.visible;
          kinds = second_none (index_breaches (found row) (place_of row)) _ below;
          sized = h.sized;
        }) in
        let integer = is_index (found row) i.kind (place_of row) i.is (first_none (index_breaches (found row) (place_of row)) _ below) in
        let element = bank_known (fact_of facts r) name.known.fact place (found row) i.kind (fact_is facts r name) name.known.good (first_none (bank_breaches (fact_of facts r) place) _ h.kinds) i.is integer in
        with_kind facts want place m (in_bank r bank bank_place row) element.0 e element.1.0 element.1.1 tt tt
        (both_have cs (source_term_events site row) (one_access place r.entity (in_row bank row) false site) i.events (record { whole = integer_of cs site row i integer; parts = i.parts }, tt))
    term_kinds facts bs x k want s (term place m (applied o left right)) e h =
        let parts = typed_parts facts want place m (applied o left right) e in
        let left_typed : typed_term facts (left_want o want (is_bare left) (is_bare right) (found (typed_term facts None right))) left ≡ left = let eq = parts.0 in cc in
        let right_typed : typed_term facts (right_want o want (is_bare left) (is_bare right) (found (typed_term facts None left))) right ≡ right = let eq = parts.0 in cc in
        let left_named : resolved_term bs left ≡ left = let eq = h.named in cc in
        let right_named : resolved_term bs right ≡ right = let eq = h.named in cc in
        let breaches : List Breach = applied_breaches o (place_of left) (place_of right) (found left) (found right) in
        let below = second_none breaches _ h.kinds in
        let both = operands_known cs site facts o want left right (is_bare left) (is_bare right) s
        (λ w z f. term_kinds facts bs x k w z left f (record {
          named = left_named;
          visible = first_none (term_breaches bs left) _ h.visible;
          kinds = first_none (term_kind_breaches facts left) _ below;
          sized = h.sized.0;
        }))
        (λ w z f. term_kinds facts bs x k w z right f (record {
          named = right_named;
          visible = second_none (term_breaches bs left) _ h.visible;
          kinds = second_none (term_kind_breaches facts left) _ below;
          sized = h.sized.1;
        }))
        left_typed right_typed in
        let l : HasKind cs site left = both.0 in
        let r : HasKind cs site right = both.1 in
        let at = applied_known (place_of left) (place_of right) o (found left) (found right) l.kind r.kind l.is r.is (first_none breaches _ h.kinds) in
        with_kind facts want place m (applied o left right) (applied_kind o l.kind r.kind) e at.1 (applied_sized o l.kind r.kind l.sized r.sized) tt (parts_of o left right l r at.0)
        (both_have cs (source_term_events site left) (source_term_events site right) l.events r.events)
    term_kinds facts bs x k want s (term place m (converted inner to)) e h =
        let parts = typed_parts facts want place m (converted inner to) e in
        let typed : typed_term facts (for_numbers (Some to)) inner ≡ inner = let eq = parts.0 in cc in
        let named : resolved_term bs inner ≡ inner = let eq = h.named in cc in
        let i = term_kinds facts bs x k (for_numbers (Some to)) (for_numbers_sized (Some to) h.sized.0) inner typed (record {
          named = named;
          visible = h.visible;
          kinds = second_none (cast_breaches place (found inner) to) _ h.kinds;
          sized = h.sized.1;
        }) in
        with_kind facts want place m (converted inner to) to e (cast_known place (found inner) i.kind to i.is (first_none (cast_breaches place (found inner) to) _ h.kinds)) h.sized.0 tt tt i.events

    pub terms_kinds : (facts : Facts) (bs : List ScopeEntry) → Extends all facts → Knows facts bs → (ts : Terms) → typed_terms facts ts ≡ ts → AreReady facts bs ts → HaveKinds cs site ts
    terms_kinds facts bs x k no_terms e h = record { found = refl; integer = refl; kinds = tt; events = tt }
    terms_kinds facts bs x k (term_then t rest) e h =
        let first_typed : typed_term facts None t ≡ t = cc in
        let rest_typed : typed_terms facts rest ≡ rest = cc in
        let first_named : resolved_term bs t ≡ t = let eq = h.named in cc in
        let rest_named : resolved_terms bs rest ≡ rest = let eq = h.named in cc in
        let below = second_none (index_breaches (found t) (place_of t)) _ h.kinds in
        index_then cs site t rest
        (term_kinds facts bs x k None tt t first_typed (record {
          named = first_named;
          visible = first_none (term_breaches bs t) _ h.visible;
          kinds = first_none (term_kind_breaches facts t) _ below;
          sized = h.sized.0;
        }))
        (first_none (index_breaches (found t) (place_of t)) _ h.kinds)
        (terms_kinds facts bs x k rest rest_typed (record {
          named = rest_named;
          visible = second_none (term_breaches bs t) _ h.visible;
          kinds = second_none (term_kind_breaches facts t) _ below;
          sized = h.sized.1;
        }))
