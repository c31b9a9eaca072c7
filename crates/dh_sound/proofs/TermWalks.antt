-- The evaluation of expressions at one path, along the trace of the program: each access and fault is that of an
-- access of the trace, at variables that differ from those at the block's beginning only where the block
-- assigns; a read that shares an earlier one has that one before it, leading to the same element; and what is
-- known of reads goes on. By induction over the expression; each access adds one event.
use Rattle.std.proofs.Common.{◌≡◌, inl, inr, ℕ, ◌+◌, ◌<◌, ◌≤◌, ◌&&◌, not, Bool, true, false, List, [], ◌∷◌, ◌++◌, slice_get, Option, Some, None, refl, sym, ◌∙◌, ap, subst, arith}
use Rattle.std.proofs.lemmas.List.{append_assoc, append-nil}
use Rattle.std.proofs.lemmas.Cmp.{nat_eq_equiv}
use Rattle.dh_base.specs.declared.places.Place.{Place}
use Rattle.dh_value.specs.Words as words
use Rattle.dh_tree.specs.Memories.{same_entity}
use Rattle.dh_tree.specs.PlainTrees.{Program, Term, term, number, truth_value, named, accessed, in_bank, applied, converted, Terms, no_terms, term_then}
use Rattle.dh_meaning.specs.AccessNumbers.{term_accesses, terms_accesses}
use Rattle.dh_meaning.specs.Bindings.{kind_found}
use Rattle.dh_meaning.specs.Core.{CoreTerm}
use Rattle.dh_value.specs.declared.kinds.Kind.{Kind}
use Rattle.dh_value.specs.declared.kinds.Kind.TheVariants as kind
use Rattle.dh_value.specs.declared.operators.Op.{Op}
use Rattle.dh_value.specs.declared.operators.Op.TheVariants as op
use Rattle.dh_tree.specs.WiderKinds.{wider}
use Rattle.dh_meaning.specs.CoreOf.{Known, extended, extended_both, operation_of, core_term, core_terms}
use Rattle.dh_meaning.specs.Effects.{Begun, Variables, Event, read_made, write_made, term_events, terms_events, spot_by_row}
use Rattle.dh_meaning.specs.OnePhase.{in_one_phase}
use Rattle.dh_meaning.specs.Paths.{Path}
use Rattle.dh_meaning.specs.Sites.{Arm, Around}
use Rattle.dh_meets.specs.SourceEvents.{Element, with_indices, in_row, Site, SourceAccess, SourceEvent, accesses, assigned, accesses_in, trace, site_of, one_access}
use Rattle.dh_meets.specs.SourceEvents as source
use Rattle.dh_meets.specs.Sharing.{alike_elements, reassigned, all_arms_of, shares_with, shared}
use Rattle.dh_sound.specs.Straight.{IsNamedTerm, AreNamedTerms}
use Rattle.dh_carried.proofs.Pigeons.{Has, has_left, has_right, has_either}
use Rattle.dh_sound.proofs.SourceValues.{spot_named, memory_at, source_spot, IsNamedElement, numbers_aside, all_numbers_aside, entity_is}
use Rattle.dh_sound.proofs.KnownReads.{count_joined, reach_at, Knows, knows_on, knows_access, shared_found}
use Rattle.dh_sound.specs.Trails.{count}
use Rattle.dh_ways.proofs.TargetsOnWays.{target_is, target_makes}
use Rattle.dh_meaning.specs.CoreOf.{reach_of, target_to, way_of}
use Rattle.dh_meaning.specs.Effects.{spot_reached}

-- How many accesses the trace has for an expression.
mutual
  pub term_counted : (site : Site) (t : Term) → count (source.source_term_events site t) ≡ term_accesses t
  term_counted site (term place k (number negative x)) = refl
  term_counted site (term place k (truth_value x)) = refl
  term_counted site (term place k (named r)) = refl
  term_counted site (term place k (accessed r ts)) = let c = count_joined (source.source_terms_events site ts) (one_access place r.entity (with_indices ts) false site) in let h = terms_counted site ts in omega (arith, c, h)
  term_counted site (term place k (in_bank r bank at t)) = let c = count_joined (source.source_term_events site t) (one_access place r.entity (in_row bank t) false site) in let h = term_counted site t in omega (arith, c, h)
  term_counted site (term place k (applied o l r)) = count_joined (source.source_term_events site l) (source.source_term_events site r) ∙ (ap (λ n. n + count (source.source_term_events site r)) (term_counted site l) ∙ ap (λ n. term_accesses l + n) (term_counted site r))
  term_counted site (term place k (converted t to)) = term_counted site t

  pub terms_counted : (site : Site) (ts : Terms) → count (source.source_terms_events site ts) ≡ terms_accesses ts
  terms_counted site no_terms = refl
  terms_counted site (term_then t ts) = count_joined (source.source_term_events site t) (source.source_terms_events site ts) ∙ (ap (λ n. n + count (source.source_terms_events site ts)) (term_counted site t) ∙ ap (λ n. term_accesses t + n) (terms_counted site ts))

-- the access at a place of the trace
pub listed_at : (es before after : List SourceEvent) (a : SourceAccess) → es ≡ before ++ accesses a ∷ after → slice_get (accesses_in es) (count before) ≡ Some a
listed_at es before after a cut = ap (λ l. slice_get (accesses_in l) (count before)) cut ∙ at before
  where
    at : (before : List SourceEvent) → slice_get (accesses_in (before ++ accesses a ∷ after)) (count before) ≡ Some a
    at [] = refl
    at (assigned x ∷ before) = at before
    at (accesses x ∷ before) = at before

-- What is given of a block at one path.
module _ (p : Program) (b : Begun) (known : Known) (path : Path) (in_block : ℕ → Bool)
    (share : (j k : ℕ) → in_one_phase p j k ≡ true → in_block k ≡ true → in_block j ≡ true) (v0 : Variables) (touched : ℕ → Bool) where
  -- variables that differ from those at the block's beginning only where it assigns
  abbrev pub IsNear : Variables → Type 0
  IsNear v = (e : ℕ) (q : Path) → touched e ≡ false → v e q ≡ v0 e q

  -- a read before it that it shares, which leads to the same element
  pub record SharesEarlier (es : List Event) (v : Variables) (of : SourceAccess) (k j : ℕ) : Type 0 where
    pub earlier : SourceAccess
    pub listed : slice_get (accesses_in (trace p)) j ≡ Some earlier
    pub reads : earlier.writes ≡ false
    pub before : j < k
    pub made : Has (read_made (reach_at b known path in_block j earlier) path (source_spot b known v path of.entity of.element)) es

  -- an event is that of an access of the trace
  pub data IsMadeOf (of : SourceAccess) (k : ℕ) (v : Variables) (ev : Event) : Type 0 where
    as_read : of.writes ≡ false → ev ≡ read_made (reach_at b known path in_block k of) path (source_spot b known v path of.entity of.element) → IsMadeOf of k v ev
    as_write : of.writes ≡ true → (value : ℕ) → ev ≡ write_made (reach_at b known path in_block k of) path value (source_spot b known v path of.entity of.element) → IsMadeOf of k v ev

  pub record IsGood (r : Around) (es : List Event) (ev : Event) : Type 0 where
    pub number : ℕ
    pub of : SourceAccess
    pub listed : slice_get (accesses_in (trace p)) number ≡ Some of
    pub inside : in_block number ≡ true
    pub loops : of.site.loops ≡ r.loops
    pub variables : Variables
    pub near : IsNear variables
    pub made : IsMadeOf of number variables ev
    pub shares : of.writes ≡ false → (j : ℕ) → shared p number ≡ Some j → SharesEarlier es variables of number j

  pub good_on : (r : Around) (es fs : List Event) (ev : Event) → IsGood r es ev → IsGood r (es ++ fs) ev
  good_on r es fs ev g = record {
    number = g.number;
    of = g.of;
    listed = g.listed;
    inside = g.inside;
    loops = g.loops;
    variables = g.variables;
    near = g.near;
    made = g.made;
    shares = λ w j e. later (g.shares w j e);
  }
    where
      later : {j : ℕ} → SharesEarlier es g.variables g.of g.number j → SharesEarlier (es ++ fs) g.variables g.of g.number j
      later s = record { earlier = s.earlier; listed = s.listed; reads = s.reads; before = s.before; made = has_left _ es fs s.made }

  -- a part of the trace was gone along, with these events
  pub record Walk (r : Around) (before part : List SourceEvent) (v w : Variables) (es fs : List Event) : Type 0 where
    pub knows : Knows b known path in_block r (before ++ part) w (es ++ fs)
    pub good : (ev : Event) → Has ev fs → IsGood r (es ++ fs) ev
    pub near : IsNear w

  pub walk_none : (r : Around) (before : List SourceEvent) (v : Variables) (es : List Event) → IsNear v → Knows b known path in_block r before v es → Walk r before [] v v es []
  walk_none r before v es near k = record {
    knows = subst (λ (l : List SourceEvent). Knows b known path in_block r l v (es ++ [])) (sym (append-nil before)) (subst (λ (l : List Event). Knows b known path in_block r before v l) (sym (append-nil es)) k);
    good = λ ev h. elim h [ ];
    near = near;
  }

  pub walk_then : (r : Around) (before one two : List SourceEvent) (v w x : Variables) (es fs gs : List Event) → Walk r before one v w es fs → Walk r (before ++ one) two w x (es ++ fs) gs
      → Walk r before (one ++ two) v x es (fs ++ gs)
  walk_then r before one two v w x es fs gs f g = record {
    knows = subst (λ (l : List SourceEvent). Knows b known path in_block r l x (es ++ (fs ++ gs))) (append_assoc before one two) (subst (λ (l : List Event). Knows b known path in_block r ((before ++ one) ++ two) x l) (append_assoc es fs gs) g.knows);
    good = all;
    near = g.near;
  }
    where
      all : (ev : Event) → Has ev (fs ++ gs) → IsGood r (es ++ (fs ++ gs)) ev
      all ev h = subst (λ (l : List Event). IsGood r l ev) (append_assoc es fs gs) (elim (has_either ev fs gs h) [ inl a ↦ good_on r (es ++ fs) gs ev (f.good ev a) | inr c ↦ g.good ev c ])

  -- these numbers are of the block
  abbrev pub AreInside : (n count : ℕ) → Type 0
  AreInside n c = (k : ℕ) → n ≤ k → k < n + c → in_block k ≡ true

  share_facts : (a c : SourceAccess) (j k : ℕ) (between : List SourceEvent) → shares_with p j a between k c ≡ true
      → (a.writes ≡ false) × ((same_entity a.entity c.entity ≡ true) × ((alike_elements a.element c.element ≡ true) × ((in_one_phase p j k ≡ true) × ((all_arms_of a.site.arms c.site.arms ≡ true) × (reassigned c.element between ≡ false)))))
  share_facts a c j k between e = parts a.writes c.writes _ _ _ _ _ e
    where
      parts : (aw cw same alike one arms again : Bool) → ((((not aw && not cw) && (same && alike)) && one) && (arms && not again)) ≡ true
          → (aw ≡ false) × ((same ≡ true) × ((alike ≡ true) × ((one ≡ true) × ((arms ≡ true) × (again ≡ false)))))
      parts false false true true true true false e = (refl, (refl, (refl, (refl, (refl, refl)))))
      parts true cw same alike one arms again e = cc
      parts false true same alike one arms again e = cc
      parts false false false alike one arms again e = cc
      parts false false true false one arms again e = cc
      parts false false true true false arms again e = cc
      parts false false true true true false again e = cc
      parts false false true true true true true e = cc

  entity_self : (x y : Option ℕ) → same_entity x y ≡ true → same_entity x x ≡ true
  entity_self None y e = cc
  entity_self (Some m) y e = nat_eq_equiv.refl m

  -- one access: its event, and what it shares
  pub walk_access : (r : Around) (before after : List SourceEvent) (v : Variables) (es : List Event) (a : SourceAccess) (ev : Event) → trace p ≡ before ++ accesses a ∷ after
      → in_block (count before) ≡ true → a.site.loops ≡ r.loops → a.site.arms ≡ r.arms → IsNamedElement b known a.element → IsNear v → IsMadeOf a (count before) v ev → Knows b known path in_block r before v es
      → Walk r before (accesses a ∷ []) v v es (ev ∷ [])
  walk_access r before after v es a ev cut inside loops arms names near made k = record { knows = knows_access b known path in_block r before v (es ++ ev ∷ []) a (knows_on b known path in_block r before v es (ev ∷ []) k) mine; good = only; near = near }
    where
      mine : a.writes ≡ false → Has (read_made (reach_at b known path in_block (count before) a) path (source_spot b known v path a.entity a.element)) (es ++ ev ∷ [])
      mine w = by made
        where
          by : IsMadeOf a (count before) v ev → Has (read_made (reach_at b known path in_block (count before) a) path (source_spot b known v path a.entity a.element)) (es ++ ev ∷ [])
          by (as_read q e) = has_right _ es _ (inl (sym e))
          by (as_write q value e) = cc

      shares : (j : ℕ) → shared p (count before) ≡ Some j → SharesEarlier (es ++ ev ∷ []) v a (count before) j
      shares j e =
          let s = shared_found p before after a j cut e in
          let (w, (same, (alike, (one, (around, again))))) = share_facts s.of a j (count before) s.between s.so in
          let earlier : in_block (count s.pre) ≡ true = subst (λ (n : ℕ). in_block n ≡ true) s.number (share j (count before) one inside) in
          let c = ap count s.cut ∙ count_joined s.pre (accesses s.of ∷ s.between) in
          record {
            earlier = s.of;
            listed = ap (λ n. slice_get (accesses_in (trace p)) n) s.number ∙ listed_at (trace p) s.pre (s.between ++ accesses a ∷ after) s.of (cut ∙ (ap (λ l. l ++ accesses a ∷ after) s.cut ∙ append_assoc s.pre (accesses s.of ∷ s.between) (accesses a ∷ after)));
            reads = w;
            before = let n = s.number in omega (arith, c, n);
            made = has_left _ es _ (subst (λ (n : ℕ). Has (read_made (reach_at b known path in_block n s.of) path (source_spot b known v path a.entity a.element)) es) (sym s.number)
                (subst (λ (o : Option ℕ). Has (read_made (reach_at b known path in_block (count s.pre) s.of) path (source_spot b known v path o a.element)) es) (entity_is b known s.of.entity a.entity same)
                (k s.pre s.between s.of a.element s.cut w earlier (subst (λ (l : List Arm). all_arms_of s.of.site.arms l ≡ true) arms around) (entity_self s.of.entity a.entity same) alike names again)));
          }

      only : (x : Event) → Has x (ev ∷ []) → IsGood r (es ++ ev ∷ []) x
      only x (inl e) = subst (λ (y : Event). IsGood r (es ++ ev ∷ []) y) (sym e) (record {
        number = count before;
        of = a;
        listed = listed_at (trace p) before after a cut;
        inside = inside;
        loops = loops;
        variables = v;
        near = near;
        made = made;
        shares = λ w j f. shares j f;
      })
      only x (inr h) = elim h [ ]

  -- An operation has the events of its operands.
  extended_events : (v : Variables) (k : Kind) (t : CoreTerm) → term_events b v path (extended k t) ≡ term_events b v path t
  extended_events v kind.Bool t = refl
  extended_events v (kind.Unsigned n) t = refl
  extended_events v (kind.Signed n) t = refl

  both_events : (v : Variables) (o : Op) (j k : Kind) (l m : CoreTerm) → term_events b v path (extended_both o j k l m) ≡ term_events b v path l ++ term_events b v path m
  both_events v o j k l m = ap (λ es. es ++ term_events b v path (extended (wider j k) m)) (extended_events v (wider j k) l) ∙ ap (λ es. term_events b v path l ++ es) (extended_events v (wider j k) m)

  pub operation_events : (v : Variables) (o : Op) (j k : Kind) (l m : CoreTerm) → term_events b v path (operation_of o j k l m) ≡ term_events b v path l ++ term_events b v path m
  operation_events v op.Shl j k l m = refl
  operation_events v op.Shr j k l m = refl
  operation_events v op.Both j k l m = refl
  operation_events v op.Either j k l m = refl
  operation_events v op.Add j k l m = both_events v op.Add j k l m
  operation_events v op.Sub j k l m = both_events v op.Sub j k l m
  operation_events v op.Mul j k l m = both_events v op.Mul j k l m
  operation_events v op.And j k l m = both_events v op.And j k l m
  operation_events v op.Or j k l m = both_events v op.Or j k l m
  operation_events v op.Xor j k l m = both_events v op.Xor j k l m
  operation_events v op.Lt j k l m = both_events v op.Lt j k l m
  operation_events v op.Gt j k l m = both_events v op.Gt j k l m
  operation_events v op.Le j k l m = both_events v op.Le j k l m
  operation_events v op.Ge j k l m = both_events v op.Ge j k l m
  operation_events v op.Eq j k l m = both_events v op.Eq j k l m
  operation_events v op.Ne j k l m = both_events v op.Ne j k l m

  -- Expressions.
  -- what the evaluation of a part of the trace starts from
  pub record Starts (r : Around) (before part : List SourceEvent) (v : Variables) (es : List Event) (n : ℕ) : Type 0 where
    pub after : List SourceEvent
    pub cut : trace p ≡ before ++ (part ++ after)
    pub number : n ≡ count before
    pub inside : AreInside n (count part)
    pub near : IsNear v
    pub knows : Knows b known path in_block r before v es

  pub first_starts : (r : Around) (before one two : List SourceEvent) (v : Variables) (es : List Event) (n : ℕ) → Starts r before (one ++ two) v es n → Starts r before one v es n
  first_starts r before one two v es n s = record {
    after = two ++ s.after;
    cut = s.cut ∙ ap (λ l. before ++ l) (append_assoc one two s.after);
    number = s.number;
    inside = λ k l u. s.inside k l (let c = count_joined one two in omega (arith, c, u));
    near = s.near;
    knows = s.knows;
  }

  pub then_starts : (r : Around) (before one two : List SourceEvent) (v w : Variables) (es fs : List Event) (n m : ℕ) → Starts r before (one ++ two) v es n → m ≡ n + count one → Walk r before one v w es fs
      → Starts r (before ++ one) two w (es ++ fs) m
  then_starts r before one two v w es fs n m s e walk = record {
    after = s.after;
    cut = s.cut ∙ (ap (λ l. before ++ l) (append_assoc one two s.after) ∙ sym (append_assoc before one (two ++ s.after)));
    number = let c = count_joined before one in let f = s.number in omega (arith, c, e, f);
    inside = λ k l u. s.inside k (omega (arith, l, e)) (let c = count_joined one two in omega (arith, c, u, e));
    near = walk.near;
    knows = walk.knows;
  }

  pub read_here : (r : Around) (id : ℕ) (before : List SourceEvent) (v : Variables) (es : List Event) (n : ℕ) (place : Place) (entity : Option ℕ) (e : Element) (writes : Bool) (ev : Event)
      → IsNamedElement b known e → IsMadeOf (record { place = place; entity = entity; element = e; writes = writes; site = site_of r id }) n v ev
      → Starts r before (one_access place entity e writes (site_of r id)) v es n → Walk r before (one_access place entity e writes (site_of r id)) v v es (ev ∷ [])
  read_here r id before v es n place entity e writes ev names made s =
      walk_access r before s.after v es (record { place = place; entity = entity; element = e; writes = writes; site = site_of r id }) ev s.cut
      (s.inside (count before) (let f = s.number in omega (arith, f)) (let f = s.number in omega (arith, f))) refl refl names s.near
      (subst (λ (k : ℕ). IsMadeOf (record { place = place; entity = entity; element = e; writes = writes; site = site_of r id }) k v ev) s.number made) s.knows

  mutual
    pub walk_term : (r : Around) (id : ℕ) (before : List SourceEvent) (v : Variables) (es : List Event) (n : ℕ) (t : Term) → IsNamedTerm t → Starts r before (source.source_term_events (site_of r id) t) v es n
        → Walk r before (source.source_term_events (site_of r id) t) v v es (term_events b v path (core_term known n t))
    walk_term r id before v es n (term place k (number negative x)) names s = walk_none r before v es s.near s.knows
    walk_term r id before v es n (term place k (truth_value x)) names s = walk_none r before v es s.near s.knows
    walk_term r id before v es n (term place k (named x)) names s = walk_none r before v es s.near s.knows
    walk_term r id before v es n (term place k (accessed x ts)) names s =
        let w = walk_terms r id before v es n ts names (first_starts r before _ (one_access place x.entity (with_indices ts) false (site_of r id)) v es n s) in
        let to = target_to (way_of known x) (core_terms known n ts) in
        let reach = reach_of known (n + terms_accesses ts) place x in
        subst (λ (l : List Event). Walk r before (source.source_term_events (site_of r id) (term place k (accessed x ts))) v v es (l ++ read_made reach path (spot_reached b v path reach to) ∷ []))
        (sym (target_makes b v path (way_of known x) (core_terms known n ts)))
        (walk_then r before _ _ v v v es (terms_events b v path (core_terms known n ts)) (read_made reach path (spot_reached b v path reach to) ∷ []) w
        (read_here r id _ v _ (n + terms_accesses ts) place x.entity (with_indices ts) false _ names
        (as_read refl (ap (λ s. read_made reach path s) (target_is b v path reach (way_of known x) (core_terms known n ts) ∙ ap (λ zs. spot_named b known v path x.entity zs) (all_numbers_aside b known v path n 0 ts))))
        (then_starts r before _ (one_access place x.entity (with_indices ts) false (site_of r id)) v v es _ n _ s (ap (λ c. n + c) (sym (terms_counted (site_of r id) ts))) w)))
    walk_term r id before v es n (term place k (in_bank x bank at t)) names s =
        let w = walk_term r id before v es n t names (first_starts r before _ (one_access place x.entity (in_row bank t) false (site_of r id)) v es n s) in
        walk_then r before _ _ v v v es _ _ w
        (read_here r id _ v _ (n + term_accesses t) place x.entity (in_row bank t) false _ names
        (as_read refl (ap (λ z. read_made (record { number = n + term_accesses t; place = place; memory = memory_at b known x.entity }) path (spot_by_row b.table (memory_at b known x.entity) bank (words.value_of z))) (numbers_aside b known v path n 0 t)))
        (then_starts r before _ (one_access place x.entity (in_row bank t) false (site_of r id)) v v es _ n _ s (ap (λ c. n + c) (sym (term_counted (site_of r id) t))) w))
    walk_term r id before v es n (term place k (applied o l m)) names s =
        let w = walk_term r id before v es n l names.0 (first_starts r before _ (source.source_term_events (site_of r id) m) v es n s) in
        subst (λ (fs : List Event). Walk r before (source.source_term_events (site_of r id) (term place k (applied o l m))) v v es fs)
        (sym (operation_events v o (kind_found l) (kind_found m) (core_term known n l) (core_term known (n + term_accesses l) m)))
        (walk_then r before _ _ v v v es _ _ w
        (walk_term r id _ v _ (n + term_accesses l) m names.1 (then_starts r before _ (source.source_term_events (site_of r id) m) v v es _ n _ s (ap (λ c. n + c) (sym (term_counted (site_of r id) l))) w)))
    walk_term r id before v es n (term place k (converted t to)) names s = walk_term r id before v es n t names s

    pub walk_terms : (r : Around) (id : ℕ) (before : List SourceEvent) (v : Variables) (es : List Event) (n : ℕ) (ts : Terms) → AreNamedTerms ts → Starts r before (source.source_terms_events (site_of r id) ts) v es n
        → Walk r before (source.source_terms_events (site_of r id) ts) v v es (terms_events b v path (core_terms known n ts))
    walk_terms r id before v es n no_terms names s = walk_none r before v es s.near s.knows
    walk_terms r id before v es n (term_then t ts) names s =
        let w = walk_term r id before v es n t names.0 (first_starts r before _ (source.source_terms_events (site_of r id) ts) v es n s) in
        walk_then r before _ _ v v v es _ _ w
        (walk_terms r id _ v _ (n + term_accesses t) ts names.1 (then_starts r before _ (source.source_terms_events (site_of r id) ts) v v es _ n _ s (ap (λ c. n + c) (sym (term_counted (site_of r id) t))) w))
