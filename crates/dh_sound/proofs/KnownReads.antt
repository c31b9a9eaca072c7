-- What is known of earlier reads while a block is done at one path. Of each read of the block so far that stands in
-- no arm but those round the present place, and between which and this place nothing is assigned that an
-- equal read mentions, it is known that it was made, and leads where the equal read would lead now. An access
-- adds itself; an assignment takes away what mentions its variable; what is not done adds nothing.
use Rattle.std.proofs.Common.{◌≡◌, ◌⊎◌, inl, inr, ℕ, suc, ◌+◌, ◌<◌, ◌&&◌, ◌||◌, nat_eq, Bool, true, false, if◌then◌else◌, List, [], ◌∷◌, ◌++◌, length, Option, Some, refl, sym, ◌∙◌, ap, subst, arith}
use Rattle.std.proofs.lemmas.List.{append_assoc, append-nil, length-append}
use Rattle.std.specs.List.{list_any}
use Rattle.dh_tree.specs.Memories.{same_entity}
use Rattle.dh_tree.specs.PlainTrees.{Program}
use Rattle.dh_meaning.specs.Core.{Reach}
use Rattle.dh_meaning.specs.CoreOf.{Known}
use Rattle.dh_meaning.specs.Effects.{Begun, Variables, Event, read_made}
use Rattle.dh_meaning.specs.Paths.{Path}
use Rattle.dh_meaning.specs.Sites.{Arm, Around, in_arm}
use Rattle.dh_meets.specs.SourceEvents.{Element, SourceAccess, SourceEvent, accesses, assigned, accesses_in, trace}
use Rattle.dh_meets.specs.Sharing.{same_truth, alike_elements, element_mentions, reassigned, same_arm, all_arms_of, shares_with, share_among, share_in, shared}
use Rattle.dh_carried.proofs.Pigeons.{Has, has_left}
use Rattle.dh_sound.proofs.SourceValues.{SameOffsets, memory_at, source_spot, AgreeBut, IsNamedElement, spot_unmentioned, spot_alike}
use Rattle.dh_sound.specs.Trails.{count}

-- Lists that end in one more.

-- where a list with one more at its end is cut before a member: at the end, or before it
pub data Cut {A : Type 0} (xs : List A) (y : A) (before : List A) (z : A) (rest : List A) : Type 0 where
  at_end : rest ≡ [] → xs ≡ before → y ≡ z → Cut xs y before z rest
  inside : (less : List A) → rest ≡ less ++ y ∷ [] → xs ≡ before ++ z ∷ less → Cut xs y before z rest

cut_head : {A : Type 0} (x z : A) (xs ys : List A) → x ∷ xs ≡ z ∷ ys → x ≡ z
cut_head x z xs ys e = cc

cut_tail : {A : Type 0} (x z : A) (xs ys : List A) → x ∷ xs ≡ z ∷ ys → xs ≡ ys
cut_tail x z xs ys e = cc

none_behind : {A : Type 0} (before : List A) (z : A) (rest : List A) → [] ≡ before ++ z ∷ rest → ⊥
none_behind [] z rest e = cc
none_behind (b ∷ before) z rest e = cc

pub cut_last : {A : Type 0} (xs : List A) (y : A) (before : List A) (z : A) (rest : List A) → xs ++ y ∷ [] ≡ before ++ z ∷ rest → Cut xs y before z rest
cut_last [] y [] z rest e = at_end (sym (cut_tail y z [] rest e)) refl (cut_head y z [] rest e)
cut_last [] y (b ∷ before) z rest e = elim (none_behind before z rest (cut_tail y b [] (before ++ z ∷ rest) e)) [ ]
cut_last (x ∷ xs) y [] z rest e = inside xs (sym (cut_tail x z (xs ++ y ∷ []) rest e)) (ap (λ w. w ∷ xs) (cut_head x z (xs ++ y ∷ []) rest e))
cut_last {A} (x ∷ xs) y (b ∷ before) z rest e = more (cut_last xs y before z rest (cut_tail x b (xs ++ y ∷ []) (before ++ z ∷ rest) e))
  where
    same : x ≡ b
    same = cut_head x b (xs ++ y ∷ []) (before ++ z ∷ rest) e

    more : Cut xs y before z rest → Cut (x ∷ xs) y (b ∷ before) z rest
    more (at_end r s t) = at_end r (ap (λ w. w ∷ xs) same ∙ ap (λ l. b ∷ l) s) t
    more (inside less r s) = inside less r (ap (λ w. w ∷ xs) same ∙ ap (λ l. b ∷ l) s)

pub counted_joined : (es fs : List SourceEvent) → accesses_in (es ++ fs) ≡ accesses_in es ++ accesses_in fs
counted_joined [] fs = refl
counted_joined (accesses a ∷ es) fs = ap (λ l. a ∷ l) (counted_joined es fs)
counted_joined (assigned e ∷ es) fs = counted_joined es fs

pub count_joined : (es fs : List SourceEvent) → count (es ++ fs) ≡ count es + count fs
count_joined es fs = ap length (counted_joined es fs) ∙ length-append (accesses_in es) (accesses_in fs)

or_false : (x y : Bool) → (x || y) ≡ false → (x ≡ false) × (y ≡ false)
or_false true y e = cc
or_false false y e = (refl, e)

pub reassigned_joined : (e : Element) (es fs : List SourceEvent) → reassigned e (es ++ fs) ≡ (reassigned e es || reassigned e fs)
reassigned_joined e [] fs = refl
reassigned_joined e (accesses a ∷ es) fs = reassigned_joined e es fs
reassigned_joined e (assigned x ∷ es) fs = ap (λ b. element_mentions x e || b) (reassigned_joined e es fs) ∙ assoc (element_mentions x e) (reassigned e es) (reassigned e fs)
  where
    assoc : (a b c : Bool) → (a || (b || c)) ≡ ((a || b) || c)
    assoc true b c = refl
    assoc false b c = refl

pub earlier_kept : (e : Element) (less : List SourceEvent) (x : SourceEvent) → reassigned e (less ++ x ∷ []) ≡ false → (reassigned e less ≡ false) × (reassigned e (x ∷ []) ≡ false)
earlier_kept e less x h = or_false _ _ (sym (reassigned_joined e less (x ∷ [])) ∙ h)

-- Arms.

arm_in : (a : Arm) (bs : List Arm) → Bool
arm_in a bs = list_any (λ b. same_arm a b) bs

-- Known reads.

module _ (b : Begun) (known : Known) (path : Path) (in_block : ℕ → Bool) where
  abbrev pub reach_at : (number : ℕ) → SourceAccess → Reach
  reach_at number a = record { number = number; place = a.place; memory = memory_at b known a.entity }

  -- a read that was made leads where an equal read would lead by these variables
  abbrev pub LeadsTo : List Event → Variables → (number : ℕ) → SourceAccess → Element → Type 0
  LeadsTo es v number a e = Has (read_made (reach_at number a) path (source_spot b known v path a.entity e)) es

  abbrev pub Knows : Around → (before : List SourceEvent) → Variables → List Event → Type 0
  Knows r before v es = (pre between : List SourceEvent) (a : SourceAccess) (e : Element) → before ≡ pre ++ accesses a ∷ between → a.writes ≡ false → in_block (count pre) ≡ true
      → all_arms_of a.site.arms r.arms ≡ true → same_entity a.entity a.entity ≡ true → alike_elements a.element e ≡ true → IsNamedElement b known e → reassigned e between ≡ false → LeadsTo es v (count pre) a e

  -- at the beginning of a block nothing of it is known: no access before it is one of the block
  pub knows_none : (r : Around) (before : List SourceEvent) (v : Variables) → ((k : ℕ) → k < count before → in_block k ≡ true → ⊥) → Knows r before v []
  knows_none r before v none pre between a e cut w i arms y s n m =
      let c = ap count cut ∙ count_joined pre (accesses a ∷ between) in
      elim (none (count pre) (omega (arith, c)) i) [ ]

  -- more events
  pub knows_on : (r : Around) (before : List SourceEvent) (v : Variables) (es fs : List Event) → Knows r before v es → Knows r before v (es ++ fs)
  knows_on r before v es fs k pre between a e cut w i arms y s n m = has_left _ es fs (k pre between a e cut w i arms y s n m)

  -- an access that was made
  pub knows_access : (r : Around) (before : List SourceEvent) (v : Variables) (es : List Event) (a : SourceAccess) → Knows r before v es
      → (a.writes ≡ false → Has (read_made (reach_at (count before) a) path (source_spot b known v path a.entity a.element)) es)
      → Knows r (before ++ accesses a ∷ []) v es
  knows_access r before v es a k made pre between x e cut w i arms y s n m = by (cut_last before (accesses a) pre (accesses x) between cut)
    where
      same_access : (g h : SourceAccess) → accesses g ≡ accesses h → g ≡ h
      same_access g h q = cc

      here : before ≡ pre → a ≡ x → LeadsTo es v (count pre) x e
      here p q =
          let h = made (ap (λ g. g.writes) q ∙ w) in
          let spot = spot_alike b known v path x.entity x.entity x.element e y s in
          subst (λ (z : _). Has (read_made (reach_at (count pre) x) path z) es) spot
          (subst (λ (g : SourceAccess). Has (read_made (reach_at (count pre) g) path (source_spot b known v path g.entity g.element)) es) q
          (subst (λ (l : List SourceEvent). Has (read_made (reach_at (count l) a) path (source_spot b known v path a.entity a.element)) es) p h))

      by : Cut before (accesses a) pre (accesses x) between → LeadsTo es v (count pre) x e
      by (at_end q p t) = here p (same_access a x t)
      by (inside less q p) = k pre less x e p w i arms y s n (earlier_kept e less (accesses a) (subst (λ (l : List SourceEvent). reassigned e l ≡ false) q m)).0

  -- an access that was not made, or that stands in an arm that is not round this place
  pub knows_passed : (r : Around) (before : List SourceEvent) (v : Variables) (es : List Event) (a : SourceAccess) → Knows r before v es
      → (in_block (count before) ≡ false) ⊎ (all_arms_of a.site.arms r.arms ≡ false) → Knows r (before ++ accesses a ∷ []) v es
  knows_passed r before v es a k out pre between x e cut w i arms y s n m = by (cut_last before (accesses a) pre (accesses x) between cut)
    where
      same_access : (g h : SourceAccess) → accesses g ≡ accesses h → g ≡ h
      same_access g h q = cc

      never : before ≡ pre → a ≡ x → (in_block (count before) ≡ false) ⊎ (all_arms_of a.site.arms r.arms ≡ false) → ⊥
      never p q (inl f) = let t : in_block (count before) ≡ true = subst (λ (l : List SourceEvent). in_block (count l) ≡ true) (sym p) i in cc
      never p q (inr f) = let t : all_arms_of a.site.arms r.arms ≡ true = subst (λ (g : SourceAccess). all_arms_of g.site.arms r.arms ≡ true) (sym q) arms in cc

      by : Cut before (accesses a) pre (accesses x) between → LeadsTo es v (count pre) x e
      by (at_end q p t) = elim (never p (same_access a x t) out) [ ]
      by (inside less q p) = k pre less x e p w i arms y s n (earlier_kept e less (accesses a) (subst (λ (l : List SourceEvent). reassigned e l ≡ false) q m)).0

  -- an assignment
  pub knows_assigned : (r : Around) (before : List SourceEvent) (v w : Variables) (es : List Event) (entity : ℕ) → Knows r before v es → AgreeBut b known entity v w → SameOffsets b known v w path
      → Knows r (before ++ assigned (Some entity) ∷ []) w es
  knows_assigned r before v w es entity k agree still pre between x e cut q i arms y s n m = by (cut_last before (assigned (Some entity)) pre (accesses x) between cut)
    where
      other : assigned (Some entity) ≡ accesses x → ⊥
      other t = cc

      first_of : (g h : Bool) → (g || h) ≡ false → g ≡ false
      first_of g h q = (or_false g h q).0

      by : Cut before (assigned (Some entity)) pre (accesses x) between → LeadsTo es w (count pre) x e
      by (at_end u p t) = elim (other t) [ ]
      by (inside less u p) =
          let both = earlier_kept e less (assigned (Some entity)) (subst (λ (l : List SourceEvent). reassigned e l ≡ false) u m) in
          subst (λ (z : _). Has (read_made (reach_at (count pre) x) path z) es) (spot_unmentioned b known v w path entity x.entity e agree still n (first_of _ _ both.1))
          (k pre less x e p q i arms y s n both.0)

  -- an assignment that was not done
  pub knows_idle : (r : Around) (before : List SourceEvent) (v : Variables) (es : List Event) (entity : Option ℕ) → Knows r before v es → Knows r (before ++ assigned entity ∷ []) v es
  knows_idle r before v es entity k pre between x e cut q i arms y s n m = by (cut_last before (assigned entity) pre (accesses x) between cut)
    where
      other : assigned entity ≡ accesses x → ⊥
      other t = cc

      by : Cut before (assigned entity) pre (accesses x) between → LeadsTo es v (count pre) x e
      by (at_end u p t) = elim (other t) [ ]
      by (inside less u p) = k pre less x e p q i arms y s n (earlier_kept e less (assigned entity) (subst (λ (l : List SourceEvent). reassigned e l ≡ false) u m)).0

  -- into an arm, of which nothing before this place is; and out of it
  abbrev pub HasNoArm : (command : ℕ) → List Arm → Type 0
  HasNoArm command [] = Unit {0}
  HasNoArm command (a ∷ arms) = (nat_eq a.command command ≡ false) × HasNoArm command arms

  abbrev pub NoneInArm : (command : ℕ) → List SourceEvent → Type 0
  NoneInArm command [] = Unit {0}
  NoneInArm command (accesses a ∷ es) = HasNoArm command a.site.arms × NoneInArm command es
  NoneInArm command (assigned e ∷ es) = NoneInArm command es

  in_more : (a : Arm) (bs : List Arm) (c : Arm) → list_any (λ x. same_arm a x) bs ≡ true → list_any (λ x. same_arm a x) (bs ++ c ∷ []) ≡ true
  in_more a [] c e = cc
  in_more a (x ∷ bs) c e = by (same_arm a x) (in_more a bs c) e
    where
      by : (t : Bool) → (list_any (λ x. same_arm a x) bs ≡ true → list_any (λ x. same_arm a x) (bs ++ c ∷ []) ≡ true) → (t || list_any (λ x. same_arm a x) bs) ≡ true → (t || list_any (λ x. same_arm a x) (bs ++ c ∷ [])) ≡ true
      by true more h = refl
      by false more h = more h

  in_less : (a : Arm) (bs : List Arm) (c : Arm) → nat_eq a.command c.command ≡ false → list_any (λ x. same_arm a x) (bs ++ c ∷ []) ≡ true → list_any (λ x. same_arm a x) bs ≡ true
  in_less a [] c d e = last (nat_eq a.command c.command) (same_truth a.first c.first) d e
    where
      last : (x y : Bool) → x ≡ false → ((x && y) || false) ≡ true → list_any (λ z. same_arm a z) [] ≡ true
      last true y d e = cc
      last false y d e = cc
  in_less a (x ∷ bs) c d e = by (same_arm a x) (in_less a bs c d) e
    where
      by : (t : Bool) → (list_any (λ x. same_arm a x) (bs ++ c ∷ []) ≡ true → list_any (λ x. same_arm a x) bs ≡ true) → (t || list_any (λ x. same_arm a x) (bs ++ c ∷ [])) ≡ true → (t || list_any (λ x. same_arm a x) bs) ≡ true
      by true more h = refl
      by false more h = more h

  both_so : (x y : Bool) → (x && y) ≡ true → (x ≡ true) × (y ≡ true)
  both_so true y e = (refl, e)
  both_so false y e = cc

  pub all_in_more : (arms bs : List Arm) (c : Arm) → all_arms_of arms bs ≡ true → all_arms_of arms (bs ++ c ∷ []) ≡ true
  all_in_more [] bs c e = refl
  all_in_more (a ∷ arms) bs c e =
      let h = both_so (list_any (λ x. same_arm a x) bs) (all_arms_of arms bs) e in
      ap (λ t. t && all_arms_of arms (bs ++ c ∷ [])) (in_more a bs c h.0) ∙ all_in_more arms bs c h.1

  pub all_in_less : (arms bs : List Arm) (c : Arm) → HasNoArm c.command arms → all_arms_of arms (bs ++ c ∷ []) ≡ true → all_arms_of arms bs ≡ true
  all_in_less [] bs c d e = refl
  all_in_less (a ∷ arms) bs c d e =
      let h = both_so (list_any (λ x. same_arm a x) (bs ++ c ∷ [])) (all_arms_of arms (bs ++ c ∷ [])) e in
      ap (λ t. t && all_arms_of arms bs) (in_less a bs c d.0 h.0) ∙ all_in_less arms bs c d.1 h.1

  none_in_cut : (command : ℕ) (pre between : List SourceEvent) (a : SourceAccess) → NoneInArm command (pre ++ accesses a ∷ between) → HasNoArm command a.site.arms
  none_in_cut command [] between a h = h.0
  none_in_cut command (accesses x ∷ pre) between a h = none_in_cut command pre between a h.1
  none_in_cut command (assigned x ∷ pre) between a h = none_in_cut command pre between a h

  pub knows_inside : (r : Around) (before : List SourceEvent) (v : Variables) (es : List Event) (command : ℕ) (first : Bool) → NoneInArm command before → Knows r before v es
      → Knows (in_arm r command first) before v es
  knows_inside r before v es command first fresh k pre between x e cut w i arms y s n m =
      k pre between x e cut w i
      (all_in_less x.site.arms r.arms (record { command = command; first = first }) (none_in_cut command pre between x (subst (λ (l : List SourceEvent). NoneInArm command l) cut fresh)) arms)
      y s n m

  pub knows_outside : (r : Around) (before : List SourceEvent) (v : Variables) (es : List Event) (command : ℕ) (first : Bool) → Knows (in_arm r command first) before v es → Knows r before v es
  knows_outside r before v es command first k pre between x e cut w i arms y s n m =
      k pre between x e cut w i (all_in_more x.site.arms r.arms (record { command = command; first = first }) arms) y s n m

-- What a read shares.

-- an earlier read that is shared, where the trace is cut
pub record Shares (p : Program) (before : List SourceEvent) (k : ℕ) (b : SourceAccess) (j : ℕ) : Type 0 where
  pub pre : List SourceEvent
  pub between : List SourceEvent
  pub of : SourceAccess
  pub cut : before ≡ pre ++ accesses of ∷ between
  pub number : j ≡ count pre
  pub so : shares_with p j of between k b ≡ true

among_found : (p : Program) (start : ℕ) (es : List SourceEvent) (k : ℕ) (b : SourceAccess) (j : ℕ) → share_among p start es k b ≡ Some j
    → (pre : List SourceEvent) × ((between : List SourceEvent) × ((a : SourceAccess) × ((es ≡ pre ++ accesses a ∷ between) × ((j ≡ start + count pre) × (shares_with p j a between k b ≡ true)))))
among_found p start [] k b j e = cc
among_found p start (assigned x ∷ es) k b j e =
    let (pre, (between, (a, (cut, (number, so))))) = among_found p start es k b j e in
    (assigned x ∷ pre, (between, (a, (ap (λ l. assigned x ∷ l) cut, (number, so)))))
among_found p start (accesses x ∷ es) k b j e = by (shares_with p start x es k b) refl e (among_found p (suc start) es k b j)
  where
    some_is : (m n : ℕ) → Some m ≡ Some n → m ≡ n
    some_is m n h = cc

    by : (t : Bool) → shares_with p start x es k b ≡ t → (if t then Some start else share_among p (suc start) es k b) ≡ Some j
        → (share_among p (suc start) es k b ≡ Some j → (pre : List SourceEvent) × ((between : List SourceEvent) × ((a : SourceAccess) × ((es ≡ pre ++ accesses a ∷ between) × ((j ≡ suc start + count pre) × (shares_with p j a between k b ≡ true))))))
        → (pre : List SourceEvent) × ((between : List SourceEvent) × ((a : SourceAccess) × ((accesses x ∷ es ≡ pre ++ accesses a ∷ between) × ((j ≡ start + count pre) × (shares_with p j a between k b ≡ true)))))
    by true s h more = ([], (es, (x, (refl, (sym (some_is start j h) ∙ omega arith, subst (λ (n : ℕ). shares_with p n x es k b ≡ true) (some_is start j h) s)))))
    by false s h more =
        let (pre, (between, (a, (cut, (number, so))))) = more h in
        (accesses x ∷ pre, (between, (a, (ap (λ l. accesses x ∷ l) cut, (omega (arith, number), so)))))

in_trace : (p : Program) (done before after : List SourceEvent) (a : SourceAccess) (k : ℕ) → share_in p done (before ++ accesses a ∷ after) k (count before) ≡ share_among p 0 (done ++ before) k a
in_trace p done [] after a k = ap (λ l. share_among p 0 l k a) (sym (append-nil done))
in_trace p done (assigned x ∷ before) after a k = in_trace p (done ++ assigned x ∷ []) before after a k ∙ ap (λ l. share_among p 0 l k a) (append_assoc done (assigned x ∷ []) before)
in_trace p done (accesses x ∷ before) after a k = in_trace p (done ++ accesses x ∷ []) before after a k ∙ ap (λ l. share_among p 0 l k a) (append_assoc done (accesses x ∷ []) before)

pub shared_found : (p : Program) (before after : List SourceEvent) (a : SourceAccess) (j : ℕ) → trace p ≡ before ++ accesses a ∷ after → shared p (count before) ≡ Some j → Shares p before (count before) a j
shared_found p before after a j cut e =
    let h : share_among p 0 before (count before) a ≡ Some j = sym (in_trace p [] before after a (count before)) ∙ (ap (λ l. share_in p [] l (count before) (count before)) (sym cut) ∙ e) in
    let (pre, (between, (of, (split, (number, so))))) = among_found p 0 before (count before) a j h in
    record { pre = pre; between = between; of = of; cut = split; number = omega (arith, number); so = so }
