-- What is left of a slot in open arms: nothing exactly where a read of its class stands, so far, in arms that
-- are all open. An arm that ends leaves what was left before it, since what stood in it has an arm that is not
-- open any more.
use Rattle.std.proofs.Common.{◌≡◌, ℕ, ◌+◌, ◌-◌, ◌<◌, ◌≤◌, ◌==◌, ◌&&◌, ◌||◌, not, Bool, true, false, if◌then◌else◌, List, [], ◌∷◌, ◌++◌, refl, ap, sym, ◌∙◌, subst, arith}
use Rattle.std.specs.Prelude.{Option, Some, None}
use Rattle.std.proofs.lemmas.List.Folds.{list_any-append}
use Rattle.std.proofs.lemmas.Bool.{eqb-true, eq-eqb}
use Rattle.dh_tree.specs.Memories.{same_entity}
use Rattle.dh_meaning.specs.Sites.{Arm}
use Rattle.dh_meets.specs.Sharing.{same_arm, same_truth, all_arms_of}
use Rattle.dh_meets.specs.SourceEvents.{SourceAccess}
use Rattle.dh_ports.specs.Levels.{Floor, Level, slot_level, taken, begun, gone_back}
use Rattle.dh_events.specs.Elements.{moment_assigned_at}
use Rattle.dh_ports.proofs.JoinedWalks.{has_arm}
use Rattle.dh_ports.proofs.PastReads.{Noted, noted_access, noted_set, many, many_set, many_access, spends, spends_append, or_false, Walk, Held, Kept, kept_later, kept_access, kept_set, bounded_set}

absurd : {A : Type 0} → ⊥ → A
absurd e = elim e [ ]

untrue : (b : Bool) → b ≡ true → b ≡ false → ⊥
untrue true e f = cc
untrue false e f = cc

-- arms
truth_self : (b : Bool) → same_truth b b ≡ true
truth_self true = refl
truth_self false = refl

truth_swap : (a b : Bool) → same_truth a b ≡ same_truth b a
truth_swap true true = refl
truth_swap true false = refl
truth_swap false true = refl
truth_swap false false = refl

number_swap : (m n : ℕ) → (m == n) ≡ (n == m)
number_swap m n = by_test (m == n) (n == m) refl refl
  where
    by_test : (a b : Bool) → (m == n) ≡ a → (n == m) ≡ b → a ≡ b
    by_test true true e f = refl
    by_test false false e f = refl
    by_test true false e f = sym (eq-eqb n m (sym (eqb-true m n e))) ∙ f
    by_test false true e f = sym (sym (eq-eqb m n (sym (eqb-true n m f))) ∙ e)

arm_self : (a : Arm) → same_arm a a ≡ true
arm_self a = ap (λ b. b && same_truth a.first a.first) (eq-eqb a.command a.command refl) ∙ truth_self a.first

arm_swap : (a b : Arm) → same_arm a b ≡ same_arm b a
arm_swap a b = ap (λ x. x && same_truth a.first b.first) (number_swap a.command b.command) ∙ ap (λ x. (b.command == a.command) && x) (truth_swap a.first b.first)

or_first : (a b : Bool) → a ≡ true → (a || b) ≡ true
or_first true b e = refl
or_first false b e = cc

or_second : (a b : Bool) → b ≡ true → (a || b) ≡ true
or_second true b e = refl
or_second false b e = e

neither : (a b : Bool) → (a || b) ≡ false → (a ≡ false) × (b ≡ false)
neither true b e = cc
neither false b e = (refl, e)

all_among : (arms later : List Arm) → ((b : Arm) → has_arm b arms ≡ true → has_arm b later ≡ true) → all_arms_of arms later ≡ true
all_among [] later f = refl
all_among (a ∷ arms) later f =
    ap (λ b. b && all_arms_of arms later) (f a (or_first (same_arm a a) (has_arm a arms) (arm_self a)))
    ∙ all_among arms later (λ b h. f b (or_second (same_arm b a) (has_arm b arms) h))

-- arms stand among themselves
arms_self : (arms : List Arm) → all_arms_of arms arms ≡ true
arms_self arms = all_among arms arms (λ b h. h)

and_assoc : (a b c : Bool) → (a && (b && c)) ≡ ((a && b) && c)
and_assoc true b c = refl
and_assoc false b c = refl

arms_append : (xs ys later : List Arm) → all_arms_of (xs ++ ys) later ≡ (all_arms_of xs later && all_arms_of ys later)
arms_append [] ys later = refl
arms_append (a ∷ xs) ys later = ap (λ b. has_arm a later && b) (arms_append xs ys later) ∙ and_assoc (has_arm a later) (all_arms_of xs later) (all_arms_of ys later)

and_false : (a b : Bool) → b ≡ false → (a && b) ≡ false
and_false true b e = e
and_false false b e = refl

-- arms with one that is not among these
not_among : (arms : List Arm) (a : Arm) (later : List Arm) → has_arm a later ≡ false → all_arms_of (arms ++ a ∷ []) later ≡ false
not_among arms a later h = arms_append arms (a ∷ []) later ∙ and_false (all_arms_of arms later) (has_arm a later && true) (ap (λ b. b && true) h)

still_not : (arms : List Arm) (a : Arm) (later : List Arm) → all_arms_of arms later ≡ false → all_arms_of (arms ++ a ∷ []) later ≡ false
still_not arms a later h = arms_append arms (a ∷ []) later ∙ ap (λ b. b && all_arms_of (a ∷ []) later) h

-- an arm more, that is not among the first
more_open : (arms later : List Arm) (a : Arm) → has_arm a arms ≡ false → all_arms_of arms (later ++ a ∷ []) ≡ all_arms_of arms later
more_open [] later a h = refl
more_open (b ∷ arms) later a h =
    let both = neither (same_arm a b) (has_arm a arms) h in
    ap (λ x. x && all_arms_of arms (later ++ a ∷ [])) (list_any-append (λ c. same_arm b c) later (a ∷ []) ∙ (ap (λ x. has_arm b later || (x || false)) (arm_swap b a ∙ both.0) ∙ or_false (has_arm b later)))
    ∙ ap (λ x. has_arm b later && x) (more_open arms later a both.1)

-- all arms of these have been opened
abbrev pub Knows : (seen arms : List Arm) → Type 0
Knows seen arms = (b : Arm) → has_arm b arms ≡ true → has_arm b seen ≡ true

abbrev pub KnowsAll : (seen : List Arm) → List (List Arm) → Type 0
KnowsAll seen [] = Unit {0}
KnowsAll seen (o ∷ os) = Knows seen o × KnowsAll seen os

abbrev pub KnowsPast : (seen : List Arm) → List Noted → Type 0
KnowsPast seen [] = Unit {0}
KnowsPast seen (noted_access a key ∷ ns) = Knows seen a.site.arms × KnowsPast seen ns
KnowsPast seen (noted_set entity ∷ ns) = KnowsPast seen ns

knows_more : (seen arms : List Arm) (a : Arm) → Knows seen arms → Knows (a ∷ seen) arms
knows_more seen arms a k b h = or_second (same_arm b a) (has_arm b seen) (k b h)

all_more : (seen : List Arm) (a : Arm) (os : List (List Arm)) → KnowsAll seen os → KnowsAll (a ∷ seen) os
all_more seen a [] k = tt
all_more seen a (o ∷ os) k = (knows_more seen o a k.0, all_more seen a os k.1)

past_more : (seen : List Arm) (a : Arm) (ns : List Noted) → KnowsPast seen ns → KnowsPast (a ∷ seen) ns
past_more seen a [] k = tt
past_more seen a (noted_access x key ∷ ns) k = (knows_more seen x.site.arms a k.0, past_more seen a ns k.1)
past_more seen a (noted_set e ∷ ns) k = past_more seen a ns k

past_append : (seen : List Arm) (xs ys : List Noted) → KnowsPast seen xs → KnowsPast seen ys → KnowsPast seen (xs ++ ys)
past_append seen [] ys k l = l
past_append seen (noted_access x key ∷ xs) ys k l = (k.0, past_append seen xs ys k.1 l)
past_append seen (noted_set e ∷ xs) ys k l = past_append seen xs ys k l

knows_open : (seen arms : List Arm) (a : Arm) → Knows seen arms → Knows (a ∷ seen) (arms ++ a ∷ [])
knows_open seen arms a k b h = by_test (has_arm b arms) refl
  where
    last : (x y z : Bool) → x ≡ false → (x || (y || false)) ≡ true → (y || z) ≡ true
    last true y z e f = cc
    last false true z e f = refl
    last false false z e f = cc

    by_test : (x : Bool) → has_arm b arms ≡ x → (same_arm b a || has_arm b seen) ≡ true
    by_test true e = or_second (same_arm b a) (has_arm b seen) (k b e)
    by_test false e = last (has_arm b arms) (same_arm b a) (has_arm b seen) e (sym (list_any-append (λ c. same_arm b c) arms (a ∷ [])) ∙ h)

-- what is new is not among what is known
new_to : (seen arms : List Arm) (a : Arm) → has_arm a seen ≡ false → Knows seen arms → has_arm a arms ≡ false
new_to seen arms a h k = by_test (has_arm a arms) refl
  where
    by_test : (x : Bool) → has_arm a arms ≡ x → x ≡ false
    by_test true e = absurd (untrue (has_arm a seen) (k a e) h)
    by_test false e = refl

-- Arms that are open outside do not have all of those inside.
abbrev pub Inner : (arms : List Arm) → (outer : List (List Arm)) → Type 0
Inner arms [] = Unit {0}
Inner arms (o ∷ os) = (all_arms_of arms o ≡ false) × Inner arms os

abbrev pub Nested : (arms : List Arm) → (outer : List (List Arm)) → Type 0
Nested arms [] = Unit {0}
Nested arms (o ∷ os) = ((all_arms_of arms o ≡ false) × Inner arms os) × Nested o os

inner_of : (arms : List Arm) (outer : List (List Arm)) → Nested arms outer → Inner arms outer
inner_of arms [] n = tt
inner_of arms (o ∷ os) n = n.0

inner_more : (arms : List Arm) (a : Arm) (outer : List (List Arm)) → Inner arms outer → Inner (arms ++ a ∷ []) outer
inner_more arms a [] n = tt
inner_more arms a (o ∷ os) n = (still_not arms a o n.0, inner_more arms a os n.1)

-- what is left of a slot in open arms
abbrev pub left_in : (slot : ℕ) → (past : List Noted) → (arms : List Arm) → ℕ
left_in slot past arms = if spends slot arms past then 0 else 1

abbrev pub Stacked : (left : List Arm → ℕ) → (outer : List (List Arm)) → (base : ℕ) → List Floor → Type 0
Stacked left [] base floors = Unit {0}
Stacked left (o ∷ os) base [] = ⊥
Stacked left (o ∷ os) base (f ∷ fs) = (base ≡ left o) × Stacked left os f.base fs

pub record Leaves (left : List Arm → ℕ) (arms : List Arm) (outer : List (List Arm)) (l : Level) : Type 0 where
  pub present : l.now ≡ left arms
  pub stacked : Stacked left outer l.base l.outer

abbrev SameIn : (left new : List Arm → ℕ) → List (List Arm) → Type 0
SameIn left new [] = Unit {0}
SameIn left new (o ∷ os) = (left o ≡ new o) × SameIn left new os

stacked_same : (left new : List Arm → ℕ) (outer : List (List Arm)) (base : ℕ) (floors : List Floor) → SameIn left new outer → Stacked left outer base floors → Stacked new outer base floors
stacked_same left new [] base floors s k = tt
stacked_same left new (o ∷ os) base [] s k = k
stacked_same left new (o ∷ os) base (f ∷ fs) s k = (k.0 ∙ s.0, stacked_same left new os f.base fs s.1 k.1)

leaves_begun : (left : List Arm → ℕ) (arms inner : List Arm) (outer : List (List Arm)) (l : Level) → left arms ≡ left inner → Leaves left arms outer l → Leaves left inner (arms ∷ outer) (begun l)
leaves_begun left arms inner outer l e k = record { present = k.present ∙ e; stacked = (k.present, k.stacked) }

gone_leaves : (left : List Arm → ℕ) (o : List Arm) (outer : List (List Arm)) (n b w : ℕ) (floors : List Floor) → Stacked left (o ∷ outer) b floors → Leaves left o outer (gone_back (slot_level n b w floors))
gone_leaves left o outer n b w [] k = absurd k
gone_leaves left o outer n b w (f ∷ fs) k = record { present = k.0; stacked = k.1 }

-- an access more
module _ (slot : ℕ) (past : List Noted) (a : SourceAccess) (key : Option ℕ) where
  spends_one : (arms : List Arm) → spends slot arms (past ++ noted_access a key ∷ []) ≡ (spends slot arms past || (not a.writes && (all_arms_of a.site.arms arms && same_entity key (Some slot))))
  spends_one arms = spends_append slot arms past (noted_access a key ∷ []) ∙ ap (λ b. spends slot arms past || b) (or_false (not a.writes && (all_arms_of a.site.arms arms && same_entity key (Some slot))))

  -- none of other arms
  spends_outside : (arms : List Arm) → all_arms_of a.site.arms arms ≡ false → spends slot arms past ≡ spends slot arms (past ++ noted_access a key ∷ [])
  spends_outside arms h = sym (spends_one arms ∙ (ap (λ b. spends slot arms past || (not a.writes && (b && same_entity key (Some slot)))) h ∙ (ap (λ b. spends slot arms past || b) (nothing a.writes) ∙ or_false (spends slot arms past))))
    where
      nothing : (b : Bool) → (not b && false) ≡ false
      nothing true = refl
      nothing false = refl

  same_outside : (outer : List (List Arm)) → Inner a.site.arms outer → SameIn (left_in slot past) (left_in slot (past ++ noted_access a key ∷ [])) outer
  same_outside [] n = tt
  same_outside (o ∷ os) n = (ap (λ b. if b then 0 else 1) (spends_outside o n.0), same_outside os n.1)

  -- a write spends nothing
  spends_write : (arms : List Arm) → a.writes ≡ true → spends slot arms past ≡ spends slot arms (past ++ noted_access a key ∷ [])
  spends_write arms h = sym (spends_one arms ∙ (ap (λ b. spends slot arms past || (not b && (all_arms_of a.site.arms arms && same_entity key (Some slot)))) h ∙ or_false (spends slot arms past)))

  leaves_write : (outer : List (List Arm)) (l : Level) → a.writes ≡ true → Inner a.site.arms outer → Leaves (left_in slot past) a.site.arms outer l → Leaves (left_in slot (past ++ noted_access a key ∷ [])) a.site.arms outer l
  leaves_write outer l h n k = record {
    present = k.present ∙ ap (λ b. if b then 0 else 1) (spends_write a.site.arms h);
    stacked = stacked_same _ _ outer l.base l.outer (same_outside outer n) k.stacked;
  }

  spends_here : a.writes ≡ false → spends slot a.site.arms (past ++ noted_access a key ∷ []) ≡ (spends slot a.site.arms past || same_entity key (Some slot))
  spends_here h = spends_one a.site.arms ∙ (ap (λ b. spends slot a.site.arms past || (not b && (all_arms_of a.site.arms a.site.arms && same_entity key (Some slot)))) h ∙ ap (λ b. spends slot a.site.arms past || (b && same_entity key (Some slot))) (arms_self a.site.arms))

  -- a read of no class takes nothing
  leaves_other : (outer : List (List Arm)) (l : Level) → key ≡ None → Inner a.site.arms outer → Leaves (left_in slot past) a.site.arms outer l → Leaves (left_in slot (past ++ noted_access a key ∷ [])) a.site.arms outer l
  leaves_other outer l h n k = record {
    present = k.present ∙ ap (λ b. if b then 0 else 1) (sym (spends_one a.site.arms ∙ (ap (λ q. spends slot a.site.arms past || (not a.writes && (all_arms_of a.site.arms a.site.arms && same_entity q (Some slot)))) h ∙ (ap (λ b. spends slot a.site.arms past || b) (none a.writes (all_arms_of a.site.arms a.site.arms)) ∙ or_false (spends slot a.site.arms past)))));
    stacked = stacked_same _ _ outer l.base l.outer (same_outside outer n) k.stacked;
  }
    where
      none : (b c : Bool) → (not b && (c && false)) ≡ false
      none true c = refl
      none false true = refl
      none false false = refl

  -- a read takes the slot of its class
  leaves_read : (own : ℕ) (outer : List (List Arm)) (l : Level) → key ≡ Some own → a.writes ≡ false → Inner a.site.arms outer → Leaves (left_in slot past) a.site.arms outer l → Leaves (left_in slot (past ++ noted_access a key ∷ [])) a.site.arms outer (taken own 1 slot l)
  leaves_read own outer l q h n k = by_test (own == slot) refl
    where
      less : (b : Bool) (m : ℕ) → m ≡ (if b then 0 else 1) → m - 1 ≡ (if b || true then 0 else 1)
      less true m e = ap (λ n. n - 1) e
      less false m e = ap (λ n. n - 1) e

      here : spends slot a.site.arms (past ++ noted_access a key ∷ []) ≡ (spends slot a.site.arms past || (own == slot))
      here = spends_here h ∙ ap (λ o. spends slot a.site.arms past || same_entity o (Some slot)) q

      by_test : (t : Bool) → (own == slot) ≡ t → Leaves (left_in slot (past ++ noted_access a key ∷ [])) a.site.arms outer (if own == slot then slot_level (l.now - 1) l.base l.low l.outer else l)
      by_test true e = subst (λ (t : Bool). Leaves (left_in slot (past ++ noted_access a key ∷ [])) a.site.arms outer (if t then slot_level (l.now - 1) l.base l.low l.outer else l)) (sym e)
          (record {
            present = less (spends slot a.site.arms past) l.now k.present ∙ ap (λ b. if b then 0 else 1) (sym (here ∙ ap (λ b. spends slot a.site.arms past || b) e));
            stacked = stacked_same _ _ outer l.base l.outer (same_outside outer n) k.stacked;
          })
      by_test false e = subst (λ (t : Bool). Leaves (left_in slot (past ++ noted_access a key ∷ [])) a.site.arms outer (if t then slot_level (l.now - 1) l.base l.low l.outer else l)) (sym e)
          (record {
            present = k.present ∙ ap (λ b. if b then 0 else 1) (sym (here ∙ (ap (λ b. spends slot a.site.arms past || b) e ∙ or_false (spends slot a.site.arms past))));
            stacked = stacked_same _ _ outer l.base l.outer (same_outside outer n) k.stacked;
          })

-- an arm that opens changes nothing yet
opened_same : (slot : ℕ) (seen arms : List Arm) (a : Arm) (past : List Noted) → has_arm a seen ≡ false → KnowsPast seen past → spends slot arms past ≡ spends slot (arms ++ a ∷ []) past
opened_same slot seen arms a [] h k = refl
opened_same slot seen arms a (noted_access x key ∷ past) h k =
    ap (λ b. (not x.writes && (b && same_entity key (Some slot))) || spends slot arms past) (sym (more_open x.site.arms arms a (new_to seen x.site.arms a h k.0)))
    ∙ ap (λ b. (not x.writes && (all_arms_of x.site.arms (arms ++ a ∷ []) && same_entity key (Some slot))) || b) (opened_same slot seen arms a past h k.1)
opened_same slot seen arms a (noted_set e ∷ past) h k = opened_same slot seen arms a past h k

set_same : (slot : ℕ) (past : List Noted) (entity : Option ℕ) (arms : List Arm) → spends slot arms past ≡ spends slot arms (past ++ noted_set entity ∷ [])
set_same slot past entity arms = sym (spends_append slot arms past (noted_set entity ∷ []) ∙ or_false (spends slot arms past))

set_outside : (slot : ℕ) (past : List Noted) (entity : Option ℕ) (outer : List (List Arm)) → SameIn (left_in slot past) (left_in slot (past ++ noted_set entity ∷ [])) outer
set_outside slot past entity [] = tt
set_outside slot past entity (o ∷ os) = (ap (λ b. if b then 0 else 1) (set_same slot past entity o), set_outside slot past entity os)

-- Where a walk stands.
pub record Standing (w : Walk) (slots : ℕ) (seen : List Arm) (outer : List (List Arm)) (arms : List Arm) (past : List Noted) (v : ℕ → ℕ) (at number : ℕ) (levels : ℕ → Level) : Type 0 where
  pub known : Knows seen arms
  pub known_outside : KnowsAll seen outer
  pub known_past : KnowsPast seen past
  pub nested : Nested arms outer
  pub kept : Kept w v at 0 past
  pub counted : number ≡ many past
  pub bounded : (e : ℕ) → v e ≤ at
  pub leaves : (slot : ℕ) → slot < slots → Leaves (left_in slot past) arms outer (levels slot)

more_bounded : (n m : ℕ) → n ≤ m → n ≤ m + 1
more_bounded n m e = omega (arith, e)

module _ (w : Walk) (slots : ℕ) (seen : List Arm) (past : List Noted) (v : ℕ → ℕ) (at number : ℕ) (levels : ℕ → Level) where
  pub stands_later : (outer : List (List Arm)) (arms : List Arm) → Standing w slots seen outer arms past v at number levels → Standing w slots seen outer arms past v (at + 1) number levels
  stands_later outer arms s = record {
    known = s.known;
    known_outside = s.known_outside;
    known_past = s.known_past;
    nested = s.nested;
    kept = kept_later w v at 0 past s.kept;
    counted = s.counted;
    bounded = λ e. more_bounded (v e) at (s.bounded e);
    leaves = s.leaves;
  }

  pub stands_set : (outer : List (List Arm)) (arms : List Arm) (entity : Option ℕ) → Standing w slots seen outer arms past v at number levels → Standing w slots seen outer arms (past ++ noted_set entity ∷ []) (moment_assigned_at v (at + 1) entity) (at + 1) number levels
  stands_set outer arms entity s = record {
    known = s.known;
    known_outside = s.known_outside;
    known_past = past_append seen past (noted_set entity ∷ []) s.known_past tt;
    nested = s.nested;
    kept = kept_set w v at past entity s.kept;
    counted = s.counted ∙ sym (many_set past entity);
    bounded = bounded_set v at entity s.bounded;
    leaves = λ slot h. let k = s.leaves slot h in record {
      present = k.present ∙ ap (λ b. if b then 0 else 1) (set_same slot past entity arms);
      stacked = stacked_same _ _ outer (levels slot).base (levels slot).outer (set_outside slot past entity outer) k.stacked;
    };
  }

  pub stands_opens : (outer : List (List Arm)) (arms : List Arm) (a : Arm) → has_arm a seen ≡ false → Standing w slots seen outer arms past v at number levels → Standing w slots (a ∷ seen) (arms ∷ outer) (arms ++ a ∷ []) past v (at + 1) number (λ slot. begun (levels slot))
  stands_opens outer arms a h s = record {
    known = knows_open seen arms a s.known;
    known_outside = (knows_more seen arms a s.known, all_more seen a outer s.known_outside);
    known_past = past_more seen a past s.known_past;
    nested = ((not_among arms a arms (new_to seen arms a h s.known), inner_more arms a outer (inner_of arms outer s.nested)), s.nested);
    kept = kept_later w v at 0 past s.kept;
    counted = s.counted;
    bounded = λ e. more_bounded (v e) at (s.bounded e);
    leaves = λ slot l. leaves_begun (left_in slot past) arms (arms ++ a ∷ []) outer (levels slot) (ap (λ b. if b then 0 else 1) (opened_same slot seen arms a past h s.known_past)) (s.leaves slot l);
  }

  pub stands_closes : (o : List Arm) (outer : List (List Arm)) (arms : List Arm) → Standing w slots seen (o ∷ outer) arms past v at number levels → Standing w slots seen outer o past v (at + 1) number (λ slot. gone_back (levels slot))
  stands_closes o outer arms s = record {
    known = s.known_outside.0;
    known_outside = s.known_outside.1;
    known_past = s.known_past;
    nested = s.nested.1;
    kept = kept_later w v at 0 past s.kept;
    counted = s.counted;
    bounded = λ e. more_bounded (v e) at (s.bounded e);
    leaves = λ slot h. gone_leaves (left_in slot past) o outer (levels slot).now (levels slot).base (levels slot).low (levels slot).outer (s.leaves slot h).stacked;
  }

  -- an access more, by what it leaves
  stands_access : (outer : List (List Arm)) (a : SourceAccess) (key : Option ℕ) (next : ℕ → Level) → Held w v (at + 1) number a key [] → Standing w slots seen outer a.site.arms past v at number levels
      → ((slot : ℕ) → slot < slots → Leaves (left_in slot (past ++ noted_access a key ∷ [])) a.site.arms outer (next slot)) → Standing w slots seen outer a.site.arms (past ++ noted_access a key ∷ []) v (at + 1) (number + 1) next
  stands_access outer a key next x s leaves = record {
    known = s.known;
    known_outside = s.known_outside;
    known_past = past_append seen past (noted_access a key ∷ []) s.known_past (s.known, tt);
    nested = s.nested;
    kept = kept_access w v at past a key (subst (λ (n : ℕ). Held w v (at + 1) n a key []) s.counted x) s.kept;
    counted = ap (λ n. n + 1) s.counted ∙ sym (many_access past a key);
    bounded = λ e. more_bounded (v e) at (s.bounded e);
    leaves = leaves;
  }

  pub stands_write : (outer : List (List Arm)) (a : SourceAccess) (key : Option ℕ) → a.writes ≡ true → Held w v (at + 1) number a key [] → Standing w slots seen outer a.site.arms past v at number levels
      → Standing w slots seen outer a.site.arms (past ++ noted_access a key ∷ []) v (at + 1) (number + 1) levels
  stands_write outer a key h x s = stands_access outer a key levels x s (λ slot l. leaves_write slot past a key outer (levels slot) h (inner_of a.site.arms outer s.nested) (s.leaves slot l))

  pub stands_other : (outer : List (List Arm)) (a : SourceAccess) (key : Option ℕ) → key ≡ None → Held w v (at + 1) number a key [] → Standing w slots seen outer a.site.arms past v at number levels
      → Standing w slots seen outer a.site.arms (past ++ noted_access a key ∷ []) v (at + 1) (number + 1) levels
  stands_other outer a key h x s = stands_access outer a key levels x s (λ slot l. leaves_other slot past a key outer (levels slot) h (inner_of a.site.arms outer s.nested) (s.leaves slot l))

  pub stands_read : (own : ℕ) (outer : List (List Arm)) (a : SourceAccess) (key : Option ℕ) → key ≡ Some own → a.writes ≡ false → Held w v (at + 1) number a key [] → Standing w slots seen outer a.site.arms past v at number levels
      → Standing w slots seen outer a.site.arms (past ++ noted_access a key ∷ []) v (at + 1) (number + 1) (λ slot. taken own 1 slot (levels slot))
  stands_read own outer a key q h x s = stands_access outer a key (λ slot. taken own 1 slot (levels slot)) x s (λ slot l. leaves_read slot past a key own outer (levels slot) q h (inner_of a.site.arms outer s.nested) (s.leaves slot l))
