-- The iterators of unrolled loops that the indices of an access name are those of loops round it. Where a loop
-- begins, its iterator takes the next number, and the first loop of that number is this one; it is the last of the
-- loops round its body, and keeps its level further in. A name that is visible stands for such an iterator or for
-- none, since what is no iterator is known as another thing. By recursion over the tree.
use Rattle.std.proofs.Common.{◌≡◌, ℕ, suc, ◌+◌, ◌<◌, ◌≤◌, ◌==◌, inl, inr, Bool, true, false, nat_lt, if◌then◌else◌, List, [], ◌∷◌, ◌++◌, length, Option, Some, None, option_map, refl, ap, sym, ◌∙◌, subst, arith, length-append}
use Rattle.std.specs.Prelude.{slice_get}
use Rattle.std.specs.List.{AllByRecursion}
use Rattle.std.proofs.lemmas.Bool.Decides.{nat_tests}
use Rattle.dh_tree.specs.declared.trees.counters.Counter.{Counter}
use Rattle.dh_tree.specs.declared.trees.expressions.Ref.{Ref}
use Rattle.dh_tree.specs.declared.trees.programs.Sort.{Sort}
use Rattle.dh_tree.specs.declared.trees.programs.Sort.TheVariants as sort
use Rattle.dh_tree.specs.Counters.{counter_in}
use Rattle.dh_tree.specs.Indices.{form_of}
use Rattle.dh_tree.specs.Kinds.{Fact, of_variable, of_iterator, of_memory, of_function, Facts}
use Rattle.dh_tree.specs.Memories.{same_entity}
use Rattle.dh_tree.specs.PlainTrees.{Term, term, TermForm, number, truth_value, named, accessed, in_bank, applied, converted, Terms, no_terms, term_then}
use Rattle.dh_tree.specs.Resolved.{used, resolved_term, resolved_terms}
use Rattle.dh_tree.specs.Scopes.{ScopeEntry, binding, entity_of, is_visible, bind, Scope, entity, declare}
use Rattle.dh_meaning.specs.Sites.{Around, in_loop}
use Rattle.dh_meets.specs.Charges.{level_of_loop}
use Rattle.dh_meets.specs.SourceEvents.{with_indices, in_row, Site, SourceEvent, accesses, assigned, one_access, source_term_events, source_terms_events, maybe_events, write_events}
use Rattle.dh_sound.specs.LoopsRound.{IsRound, EntityRound, OperandRound, FormRound, AllRound, ElementRound}
use Rattle.dh_sound.proofs.FactsGrow.{appended, added_last}
use Rattle.dh_sound.proofs.IteratorsKnown.{AreKnownIterators, found_iterator}
use Rattle.dh_sound.proofs.KindsOfCommands.{added_found}

-- Levels.

same_number : (n : ℕ) → (n == n) ≡ true
same_number n = grind (arith, nat_tests)

other_number : (m n : ℕ) → m < n → (m == n) ≡ false
other_number m n l = grind (arith, nat_tests)

level_kept : (loops : List Counter) (e : Option ℕ) (c x : Counter) → slice_get loops (level_of_loop loops e) ≡ Some x → level_of_loop (loops ++ c ∷ []) e ≡ level_of_loop loops e
level_kept [] e c x h = absurd cc
level_kept (y ∷ ys) e c x h = by (same_entity y.entity e) h (level_kept ys e c x)
  where
    by : (b : Bool) → slice_get (y ∷ ys) (if b then 0 else suc (level_of_loop ys e)) ≡ Some x → (slice_get ys (level_of_loop ys e) ≡ Some x → level_of_loop (ys ++ c ∷ []) e ≡ level_of_loop ys e) → (if b then 0 else suc (level_of_loop (ys ++ c ∷ []) e)) ≡ (if b then 0 else suc (level_of_loop ys e))
    by true g r = refl
    by false g r = ap suc (r g)

round_kept : (loops : List Counter) (x c : Counter) → IsRound loops c → IsRound (loops ++ x ∷ []) c
round_kept loops x c h = ap (slice_get (loops ++ x ∷ [])) (level_kept loops c.entity x c h) ∙ appended loops (x ∷ []) (level_of_loop loops c.entity) c h

-- the iterators of loops have numbers below this one
abbrev pub IsBelow : ℕ → Counter → Type 0
IsBelow k c = (m : ℕ) × ((c.entity ≡ Some m) × (m < k))

abbrev pub AreBelow : ℕ → List Counter → Type 0
AreBelow k loops = AllByRecursion (IsBelow k) loops

pub raised : (j k : ℕ) (loops : List Counter) → j ≤ k → AreBelow j loops → AreBelow k loops
raised j k [] l h = tt
raised j k (c ∷ cs) l h = (let m = h.0.1.1 in (h.0.0, (h.0.1.0, omega (arith, l, m))), raised j k cs l h.1)

level_last : (loops : List Counter) (n : ℕ) (c : Counter) → c.entity ≡ Some n → AreBelow n loops → level_of_loop (loops ++ c ∷ []) c.entity ≡ length loops
level_last [] n c e h = ap (λ (b : Bool). if b then 0 else 1) (ap (λ o. same_entity o o) e ∙ same_number n)
level_last (y ∷ ys) n c e h =
    let other : same_entity y.entity c.entity ≡ false = ap (λ o. same_entity o c.entity) h.0.1.0 ∙ (ap (λ o. same_entity (Some h.0.0) o) e ∙ other_number h.0.0 n h.0.1.1) in
    ap (λ (b : Bool). if b then 0 else suc (level_of_loop (ys ++ c ∷ []) c.entity)) other ∙ ap suc (level_last ys n c e h.1)

round_last : (loops : List Counter) (n : ℕ) (c : Counter) → c.entity ≡ Some n → AreBelow n loops → IsRound (loops ++ c ∷ []) c
round_last loops n c e h = ap (slice_get (loops ++ c ∷ [])) (level_last loops n c e h) ∙ added_last loops c

-- Counters by number.

pub first_counter : (c : Counter) (cs : List Counter) (n : ℕ) → c.entity ≡ Some n → counter_in (c ∷ cs) (Some n) ≡ Some c
first_counter c cs n e =
    ap (λ o. if same_entity o (Some n) then Some c else counter_in cs (Some n)) e ∙ ap (λ (b : Bool). if b then Some c else counter_in cs (Some n)) (same_number n)

pub later_counter : (c : Counter) (cs : List Counter) (k n : ℕ) → c.entity ≡ Some k → k < n → counter_in (c ∷ cs) (Some n) ≡ counter_in cs (Some n)
later_counter c cs k n e l =
    ap (λ o. if same_entity o (Some n) then Some c else counter_in cs (Some n)) e ∙ ap (λ (b : Bool). if b then Some c else counter_in cs (Some n)) (other_number k n l)

-- of the entities from k on, the loops are those of the second list
abbrev pub Sees : List Counter → ℕ → List Counter → Type 0
Sees cs k here = (n : ℕ) → k ≤ n → counter_in cs (Some n) ≡ counter_in here (Some n)

pub sees_later : (cs : List Counter) (j k : ℕ) (here : List Counter) → j ≤ k → Sees cs j here → Sees cs k here
sees_later cs j k here l h n i = h n (omega (arith, l, i))

-- Names.

-- each name that is visible stands for the iterator of one of these loops, or of none that is unrolled
abbrev pub NamesRound : (cs loops : List Counter) → List ScopeEntry → Type 0
NamesRound cs loops bs = (name : List ℕ) (n : ℕ) → entity_of bs name ≡ Some n → EntityRound cs loops (Some n)

pub bind_round : (cs loops : List Counter) (bs : List ScopeEntry) (name : List ℕ) (m : ℕ) → NamesRound cs loops bs → EntityRound cs loops (Some m) → NamesRound cs loops (bind bs name m)
bind_round cs loops bs name m k h other n e = either (is_visible bs name) e
  where
    either : (b : Bool) → entity_of (if b then bs else bs ++ binding name m ∷ []) other ≡ Some n → EntityRound cs loops (Some n)
    either true f = k other n f
    either false f = elim (added_found bs name other m n f) [ inl g ↦ k other n g | inr g ↦ subst (λ (x : ℕ). EntityRound cs loops (Some x)) g h ]

-- what is known as another thing than an iterator
abbrev pub IsOther : Fact → Type 0
IsOther (of_variable k) = Unit {0}
IsOther (of_iterator k) = ⊥
IsOther (of_memory k dims) = Unit {0}
IsOther (of_function parameters) = Unit {0}

same_some : {A : Type 0} (x y : A) → Some x ≡ Some y → x ≡ y
same_some x y e = cc

pub other_round : (all : Facts) (cs loops : List Counter) (n : ℕ) (f : Fact) → AreKnownIterators all cs → slice_get all n ≡ Some f → IsOther f → EntityRound cs loops (Some n)
other_round all cs loops n f h e o c g u =
    let i = found_iterator all cs (Some n) c h g in
    let number : i.1.number ≡ n = same_some _ _ (sym i.1.is ∙ i.0) in
    let fact : of_iterator i.1.kind ≡ f = same_some _ _ (sym i.1.known ∙ (ap (slice_get all) number ∙ e)) in
    let none : ⊥ = subst IsOther (sym fact) o in
    absurd none

-- behind a declaration of another thing
pub declared_round : (all : Facts) (cs loops : List Counter) (s : Scope) (r : Ref) (k : Sort) (f : Fact) → AreKnownIterators all cs → slice_get all (length s.entities) ≡ Some f → IsOther f → NamesRound cs loops s.visible → NamesRound cs loops (declare s r k).visible
declared_round all cs loops s r k f h e o n = bind_round cs loops s.visible r.name (length s.entities) n (other_round all cs loops (length s.entities) f h e o)

-- inside a loop
pub inside_round : (cs : List Counter) (s : Scope) (r : Around) (iterator : Ref) (c : Counter) → counter_in cs (Some (length s.entities)) ≡ Some c → c.entity ≡ Some (length s.entities) → AreBelow (length s.entities) r.loops → NamesRound cs r.loops s.visible → NamesRound cs (in_loop r c).loops (declare s iterator sort.Iterator).visible
inside_round cs s r iterator c found e below h = by (nat_lt 1 c.factor) refl
  where
    by : (b : Bool) → nat_lt 1 c.factor ≡ b → NamesRound cs (if b then record { arms = r.arms; loops = r.loops ++ c ∷ [] } else r).loops (declare s iterator sort.Iterator).visible
    by true f =
        bind_round cs (r.loops ++ c ∷ []) s.visible iterator.name (length s.entities) (λ name n g x i u. round_kept r.loops c x (h name n g x i u))
        (λ x g u. let same : c ≡ x = same_some _ _ (sym found ∙ g) in subst (λ (y : Counter). IsRound (r.loops ++ c ∷ []) y) same (round_last r.loops (length s.entities) c e below))
    by false f =
        bind_round cs r.loops s.visible iterator.name (length s.entities) h
        (λ x g u. let same : c ≡ x = same_some _ _ (sym found ∙ g) in let factor : nat_lt 1 c.factor ≡ true = ap (λ (y : Counter). nat_lt 1 y.factor) same ∙ u in absurd cc)

pub inside_below : (s : Scope) (r : Around) (iterator : Ref) (c : Counter) → c.entity ≡ Some (length s.entities) → AreBelow (length s.entities) r.loops → AreBelow (length (declare s iterator sort.Iterator).entities) (in_loop r c).loops
inside_below s r iterator c e below = by (nat_lt 1 c.factor)
  where
    next : length (s.entities ++ entity iterator sort.Iterator ∷ []) ≡ length s.entities + 1
    next = length-append s.entities (entity iterator sort.Iterator ∷ [])

    higher : length s.entities ≤ length (s.entities ++ entity iterator sort.Iterator ∷ [])
    higher = omega (arith, next)

    last : (k : ℕ) (cs : List Counter) → AreBelow k cs → IsBelow k c → AreBelow k (cs ++ c ∷ [])
    last k [] h i = (i, tt)
    last k (x ∷ cs) h i = (h.0, last k cs h.1 i)

    by : (b : Bool) → AreBelow (length (declare s iterator sort.Iterator).entities) (if b then record { arms = r.arms; loops = r.loops ++ c ∷ [] } else r).loops
    by true = last _ r.loops (raised (length s.entities) _ r.loops higher below) (length s.entities, (e, omega (arith, next)))
    by false = raised (length s.entities) _ r.loops higher below

-- Events.

abbrev pub EventsRound : List Counter → List SourceEvent → Type 0
EventsRound cs [] = Unit {0}
EventsRound cs (accesses a ∷ es) = ElementRound cs a.site.loops a.element × EventsRound cs es
EventsRound cs (assigned entity ∷ es) = EventsRound cs es

pub both_round : (cs : List Counter) (xs ys : List SourceEvent) → EventsRound cs xs → EventsRound cs ys → EventsRound cs (xs ++ ys)
both_round cs [] ys h i = i
both_round cs (accesses a ∷ xs) ys h i = (h.0, both_round cs xs ys h.1 i)
both_round cs (assigned entity ∷ xs) ys h i = both_round cs xs ys h i

module _ (cs : List Counter) (site : Site) (bs : List ScopeEntry) (h : NamesRound cs site.loops bs) where
  name_round : (r : Ref) → used bs r ≡ r → EntityRound cs site.loops r.entity
  name_round r e = by r.entity (sym (ap (λ (x : Ref). x.entity) e))
    where
      none : (cs : List Counter) (c : Counter) → counter_in cs None ≡ Some c → ⊥
      none [] c f = cc
      none (x ∷ cs) c f = either (same_entity x.entity None) (never x.entity) f (none cs c)
        where
          never : (o : Option ℕ) → same_entity o None ≡ false
          never None = refl
          never (Some m) = refl

          either : (b : Bool) → b ≡ false → (if b then Some x else counter_in cs None) ≡ Some c → (counter_in cs None ≡ Some c → ⊥) → ⊥
          either true g f r = cc
          either false g f r = r f

      by : (o : Option ℕ) → o ≡ entity_of bs r.name → EntityRound cs site.loops o
      by None f = λ c g u. absurd (none cs c g)
      by (Some n) f = h r.name n (sym f)

  operand_round : (f : TermForm) → ((r : Ref) → f ≡ named r → used bs r ≡ r) → OperandRound cs site.loops f
  operand_round (number negative n) e = tt
  operand_round (truth_value value) e = tt
  operand_round (named r) e = name_round r (e r refl)
  operand_round (accessed r indices) e = tt
  operand_round (in_bank r bank bank_place row) e = tt
  operand_round (applied o left right) e = tt
  operand_round (converted inner to) e = tt

  name_used : (t : Term) → resolved_term bs t ≡ t → (r : Ref) → form_of t ≡ named r → used bs r ≡ r
  name_used (term place k (number negative n)) e r f = absurd cc
  name_used (term place k (truth_value value)) e r f = absurd cc
  name_used (term place k (named q)) e r f =
      let same : q ≡ r = cc in
      let is : used bs q ≡ q = cc in
      subst (λ (x : Ref). used bs x ≡ x) same is
  name_used (term place k (accessed q indices)) e r f = absurd cc
  name_used (term place k (in_bank q bank bank_place row)) e r f = absurd cc
  name_used (term place k (applied o left right)) e r f = absurd cc
  name_used (term place k (converted inner to)) e r f = absurd cc

  form_round : (t : Term) → resolved_term bs t ≡ t → FormRound cs site.loops (form_of t)
  form_round (term place k (number negative n)) e = tt
  form_round (term place k (truth_value value)) e = tt
  form_round (term place k (named r)) e = let is : used bs r ≡ r = cc in name_round r is
  form_round (term place k (accessed r indices)) e = tt
  form_round (term place k (in_bank r bank bank_place row)) e = tt
  form_round (term place k (applied o left right)) e =
      let first : resolved_term bs left ≡ left = cc in
      let second : resolved_term bs right ≡ right = cc in
      (operand_round (form_of left) (name_used left first), operand_round (form_of right) (name_used right second))
  form_round (term place k (converted inner to)) e = tt

  all_round : (ts : Terms) → resolved_terms bs ts ≡ ts → AllRound cs site.loops ts
  all_round no_terms e = tt
  all_round (term_then t rest) e =
      let first : resolved_term bs t ≡ t = cc in
      let second : resolved_terms bs rest ≡ rest = cc in
      (form_round t first, all_round rest second)

  mutual
    pub term_round : (t : Term) → resolved_term bs t ≡ t → EventsRound cs (source_term_events site t)
    term_round (term place k (number negative n)) e = tt
    term_round (term place k (truth_value value)) e = tt
    term_round (term place k (named r)) e = tt
    term_round (term place k (accessed r indices)) e =
        let named : resolved_terms bs indices ≡ indices = cc in
        both_round cs (source_terms_events site indices) (one_access place r.entity (with_indices indices) false site) (terms_round indices named) (all_round indices named, tt)
    term_round (term place k (in_bank r bank bank_place row)) e =
        let named : resolved_term bs row ≡ row = cc in
        both_round cs (source_term_events site row) (one_access place r.entity (in_row bank row) false site) (term_round row named) (tt, tt)
    term_round (term place k (applied o left right)) e =
        let first : resolved_term bs left ≡ left = cc in
        let second : resolved_term bs right ≡ right = cc in
        both_round cs (source_term_events site left) (source_term_events site right) (term_round left first) (term_round right second)
    term_round (term place k (converted inner to)) e = let named : resolved_term bs inner ≡ inner = cc in term_round inner named

    pub terms_round : (ts : Terms) → resolved_terms bs ts ≡ ts → EventsRound cs (source_terms_events site ts)
    terms_round no_terms e = tt
    terms_round (term_then t rest) e =
        let first : resolved_term bs t ≡ t = cc in
        let second : resolved_terms bs rest ≡ rest = cc in
        both_round cs (source_term_events site t) (source_terms_events site rest) (term_round t first) (terms_round rest second)

  pub write_round : (t : Term) → resolved_term bs t ≡ t → EventsRound cs (write_events site t)
  write_round (term place k (number negative n)) e = tt
  write_round (term place k (truth_value value)) e = tt
  write_round (term place k (named r)) e = tt
  write_round (term place k (accessed r indices)) e =
      let named : resolved_terms bs indices ≡ indices = cc in
      both_round cs (source_terms_events site indices) (one_access place r.entity (with_indices indices) true site) (terms_round indices named) (all_round indices named, tt)
  write_round (term place k (in_bank r bank bank_place row)) e =
      let named : resolved_term bs row ≡ row = cc in
      both_round cs (source_term_events site row) (one_access place r.entity (in_row bank row) true site) (term_round row named) (tt, tt)
  write_round (term place k (applied o left right)) e = term_round (term place k (applied o left right)) e
  write_round (term place k (converted inner to)) e = let named : resolved_term bs inner ≡ inner = cc in term_round inner named

  pub maybe_round : (t : Option Term) → option_map (resolved_term bs) t ≡ t → EventsRound cs (maybe_events site t)
  maybe_round None e = tt
  maybe_round (Some t) e = let named : resolved_term bs t ≡ t = cc in term_round t named
