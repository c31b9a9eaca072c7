-- Lists of the same writes leave the same memories, where in each writes of one element come from rising ports.
-- Memories are the same where each element is. An element is what the last write of it says, or what it was. Of a list
-- with rising ports the last write of an element is that with the highest port, and so it is the same of both lists.
use Rattle.std.proofs.Common.{◌≡◌, ℕ, ◌<◌, ◌⊎◌, inl, inr, Bool, true, false, if◌then◌else◌, List, length, get_or, refl, sym, ap, subst, ◌∙◌, arith}
use Rattle.std.specs.Prelude.{[], ◌∷◌, ◌==◌, ◌&&◌}
use Rattle.std.proofs.Math.ListN.{set}
use Rattle.std.proofs.lemmas.Bool.{cases_lt, eqb-true, eqb-false, eq-eqb}
use Rattle.std.proofs.lemmas.List.{ext_get_or, get_or_past, get_or-set_same, get_or-set_other, length-set}
use Rattle.dh_meaning.specs.Effects.{put_element}
use Rattle.dh_tree.specs.Elements.{Spot}
use Rattle.dh_plan.specs.Blocks.{Put, all_put}
use Rattle.dh_lower.specs.KeyedPuts.{KeyedPut, puts_in, RisesBefore, PortsRise, IsAmongPuts, SamePuts}

abbrev memory_in : List (List ℕ) → ℕ → List ℕ
memory_in memories m = get_or memories m []

abbrev element_in : List (List ℕ) → (m x : ℕ) → ℕ
element_in memories m x = get_or (memory_in memories m) x 0

-- there is such an element
abbrev IsThere : List (List ℕ) → (m x : ℕ) → Type 0
IsThere memories m x = (m < length memories) × (x < length (memory_in memories m))

abbrev writes_it : Put → (m x : ℕ) → Bool
writes_it p m x = (p.spot.memory == m) && (p.spot.position == x)

abbrev last_from : List Put → (m x old : ℕ) → ℕ
last_from [] m x old = old
last_from (p ∷ ps) m x old = last_from ps m x (if writes_it p m x then p.bits else old)

-- Sizes stay.

put_long : (memories : List (List ℕ)) (s : Spot) (value : ℕ) → length (put_element memories s value) ≡ length memories
put_long memories s value = length-set memories s.memory (set (memory_in memories s.memory) s.position value)

put_wide : (memories : List (List ℕ)) (s : Spot) (value m : ℕ) → length (memory_in (put_element memories s value) m) ≡ length (memory_in memories m)
put_wide memories s value m = by (s.memory == m) refl
  where
    inner : List ℕ
    inner = set (memory_in memories s.memory) s.position value

    by : (t : Bool) → (s.memory == m) ≡ t → length (memory_in (put_element memories s value) m) ≡ length (memory_in memories m)
    by true e =
        let same = eqb-true s.memory m e in
        elim (cases_lt m (length memories)) [
          | inl less ↦
              let here : memory_in (put_element memories s value) s.memory ≡ set (memory_in memories s.memory) s.position value
              = get_or-set_same memories s.memory (set (memory_in memories s.memory) s.position value) [] (subst (λ (n : ℕ). n < length memories) (sym same) less) in
              subst (λ (n : ℕ). length (memory_in (put_element memories s value) n) ≡ length (memory_in memories n)) same
              (ap length here ∙ length-set (memory_in memories s.memory) s.position value)
          | inr more ↦
              let long = put_long memories s value in
              ap length (get_or_past (put_element memories s value) m [] (omega (arith, long, more)) ∙ sym (get_or_past memories m [] more))
        ]
    by false e =
        ap length (get_or-set_other memories s.memory m (set (memory_in memories s.memory) s.position value) [] (λ f. eqb-false s.memory m e (sym f)))

there_still : (memories : List (List ℕ)) (s : Spot) (value m x : ℕ) → IsThere memories m x → IsThere (put_element memories s value) m x
there_still memories s value m x h =
    let long = put_long memories s value in
    let wide = put_wide memories s value m in
    (omega (arith, long, h.0), omega (arith, wide, h.1))

all_long : (ps : List Put) (memories : List (List ℕ)) → length (all_put ps memories) ≡ length memories
all_long [] memories = refl
all_long (p ∷ ps) memories = all_long ps (put_element memories p.spot p.bits) ∙ put_long memories p.spot p.bits

all_wide : (ps : List Put) (memories : List (List ℕ)) (m : ℕ) → length (memory_in (all_put ps memories) m) ≡ length (memory_in memories m)
all_wide [] memories m = refl
all_wide (p ∷ ps) memories m = all_wide ps (put_element memories p.spot p.bits) m ∙ put_wide memories p.spot p.bits m

-- One element after writes.

one_put : (memories : List (List ℕ)) (p : Put) (m x : ℕ) → IsThere memories m x
    → element_in (put_element memories p.spot p.bits) m x ≡ (if writes_it p m x then p.bits else element_in memories m x)
one_put memories p m x there = by (p.spot.memory == m) (p.spot.position == x) refl refl
  where
    by : (a b : Bool) → (p.spot.memory == m) ≡ a → (p.spot.position == x) ≡ b
        → element_in (put_element memories p.spot p.bits) m x ≡ (if a && b then p.bits else element_in memories m x)
    by true true e f =
        let same = eqb-true p.spot.memory m e in
        let place = eqb-true p.spot.position x f in
        let there' : p.spot.memory < length memories = subst (λ (n : ℕ). n < length memories) (sym same) there.0 in
        let here : memory_in (put_element memories p.spot p.bits) p.spot.memory ≡ set (memory_in memories p.spot.memory) p.spot.position p.bits
        = get_or-set_same memories p.spot.memory (set (memory_in memories p.spot.memory) p.spot.position p.bits) [] there' in
        let inside : p.spot.position < length (memory_in memories p.spot.memory)
        = subst (λ (n : ℕ). n < length (memory_in memories p.spot.memory)) (sym place) (subst (λ (n : ℕ). x < length (memory_in memories n)) (sym same) there.1) in
        let found : element_in (put_element memories p.spot p.bits) p.spot.memory p.spot.position ≡ p.bits
        = ap (λ (l : List ℕ). get_or l p.spot.position 0) here ∙ get_or-set_same (memory_in memories p.spot.memory) p.spot.position p.bits 0 inside in
        subst (λ (n : ℕ). element_in (put_element memories p.spot p.bits) n x ≡ p.bits) same
        (subst (λ (n : ℕ). element_in (put_element memories p.spot p.bits) p.spot.memory n ≡ p.bits) place found)
    by true false e f =
        let same = eqb-true p.spot.memory m e in
        let there' : p.spot.memory < length memories = subst (λ (n : ℕ). n < length memories) (sym same) there.0 in
        let here : memory_in (put_element memories p.spot p.bits) p.spot.memory ≡ set (memory_in memories p.spot.memory) p.spot.position p.bits
        = get_or-set_same memories p.spot.memory (set (memory_in memories p.spot.memory) p.spot.position p.bits) [] there' in
        let kept : element_in (put_element memories p.spot p.bits) p.spot.memory x ≡ element_in memories p.spot.memory x
        = ap (λ (l : List ℕ). get_or l x 0) here ∙ get_or-set_other (memory_in memories p.spot.memory) p.spot.position x p.bits 0 (λ g. eqb-false p.spot.position x f (sym g)) in
        subst (λ (n : ℕ). element_in (put_element memories p.spot p.bits) n x ≡ element_in memories n x) same kept
    by false b e f =
        ap (λ (l : List ℕ). get_or l x 0) (get_or-set_other memories p.spot.memory m (set (memory_in memories p.spot.memory) p.spot.position p.bits) [] (λ g. eqb-false p.spot.memory m e (sym g)))

all_put_at : (ps : List Put) (memories : List (List ℕ)) (m x : ℕ) → IsThere memories m x → element_in (all_put ps memories) m x ≡ last_from ps m x (element_in memories m x)
all_put_at [] memories m x there = refl
all_put_at (p ∷ ps) memories m x there =
    all_put_at ps (put_element memories p.spot p.bits) m x (there_still memories p.spot p.bits m x there)
    ∙ ap (λ (n : ℕ). last_from ps m x n) (one_put memories p m x there)

-- lists whose last writes are the same
puts_same : (ps qs : List Put) (memories : List (List ℕ)) → ((m x old : ℕ) → last_from ps m x old ≡ last_from qs m x old) → all_put ps memories ≡ all_put qs memories
puts_same ps qs memories same =
    ext_get_or [] (all_put ps memories) (all_put qs memories) (all_long ps memories ∙ sym (all_long qs memories)) λ m inside.
    ext_get_or 0 (memory_in (all_put ps memories) m) (memory_in (all_put qs memories) m) (all_wide ps memories m ∙ sym (all_wide qs memories m)) λ x within.
    let long = all_long ps memories in
    let wide = all_wide ps memories m in
    let there : IsThere memories m x = (omega (arith, long, inside), omega (arith, wide, within)) in
    all_put_at ps memories m x there ∙ (same m x (element_in memories m x) ∙ sym (all_put_at qs memories m x there))

-- The last write of an element.

abbrev WritesIt : KeyedPut → (m x : ℕ) → Type 0
WritesIt k m x = (k.put.spot.memory ≡ m) × (k.put.spot.position ≡ x)

data Last (ks : List KeyedPut) (m x : ℕ) : Type 0 where
  no_write : ((k : KeyedPut) → IsAmongPuts k ks → WritesIt k m x → ⊥) → ((old : ℕ) → last_from (puts_in ks) m x old ≡ old) → Last ks m x
  one_write : (k : KeyedPut) → IsAmongPuts k ks → WritesIt k m x → ((old : ℕ) → last_from (puts_in ks) m x old ≡ k.put.bits)
      → ((l : KeyedPut) → IsAmongPuts l ks → WritesIt l m x → (l ≡ k) ⊎ (l.port < k.port)) → Last ks m x

higher : (k : KeyedPut) (ks : List KeyedPut) (m x : ℕ) → RisesBefore k ks → WritesIt k m x → (l : KeyedPut) → IsAmongPuts l ks → WritesIt l m x → k.port < l.port
higher k [] m x h a l there b = elim there [ ]
higher k (j ∷ ks) m x h a l there b = elim there [
  | inl here ↦ subst (λ (y : KeyedPut). k.port < y.port) (sym here)
      (h.0 (record { memory = a.0 ∙ (sym b.0 ∙ ap (λ (y : KeyedPut). y.put.spot.memory) here); position = a.1 ∙ (sym b.1 ∙ ap (λ (y : KeyedPut). y.put.spot.position) here) }))
  | inr later ↦ higher k ks m x h.1 a l later b
]

writes_true : (k : KeyedPut) (m x : ℕ) → WritesIt k m x → writes_it k.put m x ≡ true
writes_true k m x h = let a = eq-eqb k.put.spot.memory m h.0 in let b = eq-eqb k.put.spot.position x h.1 in ap (λ (t : Bool). t && (k.put.spot.position == x)) a ∙ b

both_parts : (a b : Bool) → (a && b) ≡ true → (a ≡ true) × (b ≡ true)
both_parts true b e = (refl, e)
both_parts false b e = absurd (cc)

true_writes : (k : KeyedPut) (m x : ℕ) → writes_it k.put m x ≡ true → WritesIt k m x
true_writes k m x e =
    let parts = both_parts (k.put.spot.memory == m) (k.put.spot.position == x) e in
    (eqb-true k.put.spot.memory m parts.0, eqb-true k.put.spot.position x parts.1)

first_put : (k : KeyedPut) (ks : List KeyedPut) (m x : ℕ) (t : Bool) → writes_it k.put m x ≡ t → (old : ℕ)
    → last_from (puts_in (k ∷ ks)) m x old ≡ last_from (puts_in ks) m x (if t then k.put.bits else old)
first_put k ks m x t e old = ap (λ (b : Bool). last_from (puts_in ks) m x (if b then k.put.bits else old)) e

not_here : (k : KeyedPut) (m x : ℕ) → writes_it k.put m x ≡ false → (l : KeyedPut) → l ≡ k → WritesIt l m x → ⊥
not_here k m x e l same w = let yes_it = writes_true k m x (subst (λ (y : KeyedPut). WritesIt y m x) same w) in cc

last_more : (k : KeyedPut) (ks : List KeyedPut) (m x : ℕ) → RisesBefore k ks → (t : Bool) → writes_it k.put m x ≡ t → Last ks m x → Last (k ∷ ks) m x
last_more k ks m x rises true e (no_write none same) =
    one_write k (inl refl) (true_writes k m x e) (λ old. first_put k ks m x true e old ∙ same k.put.bits) (λ l there w. elim there [
      | inl here ↦ inl here
      | inr later ↦ absurd (none l later w)
    ])
last_more k ks m x rises true e (one_write j there at is most) =
    one_write j (inr there) at (λ old. first_put k ks m x true e old ∙ is k.put.bits) (λ l among w. elim among [
      | inl here ↦ inr (subst (λ (y : KeyedPut). y.port < j.port) (sym here) (higher k ks m x rises (true_writes k m x e) j there at))
      | inr later ↦ most l later w
    ])
last_more k ks m x rises false e (no_write none same) =
    no_write (λ l there w. elim there [
      | inl here ↦ not_here k m x e l here w
      | inr later ↦ none l later w
    ]) (λ old. first_put k ks m x false e old ∙ same old)
last_more k ks m x rises false e (one_write j there at is most) =
    one_write j (inr there) at (λ old. first_put k ks m x false e old ∙ is old) (λ l among w. elim among [
      | inl here ↦ absurd (not_here k m x e l here w)
      | inr later ↦ most l later w
    ])

last_write : (ks : List KeyedPut) → PortsRise ks → (m x : ℕ) → Last ks m x
last_write [] rise m x = no_write (λ k there w. elim there [ ]) (λ old. refl)
last_write (k ∷ ks) rise m x = last_more k ks m x rise.0 (writes_it k.put m x) refl (last_write ks rise.1 m x)

same_last : (ks ls : List KeyedPut) (m x : ℕ) → SamePuts ks ls → Last ks m x → Last ls m x → (old : ℕ) → last_from (puts_in ks) m x old ≡ last_from (puts_in ls) m x old
same_last ks ls m x same (no_write none p) (no_write none' q) old = p old ∙ sym (q old)
same_last ks ls m x same (no_write none p) (one_write k there at is most) old = absurd (none k (same.second_in_first k there) at)
same_last ks ls m x same (one_write k there at is most) (no_write none q) old = absurd (none k (same.first_in_second k there) at)
same_last ks ls m x same (one_write k there at is most) (one_write j there' at' is' most') old =
    elim (most j (same.second_in_first j there') at') [
      | inl equal ↦ is old ∙ (ap (λ (y : KeyedPut). y.put.bits) (sym equal) ∙ sym (is' old))
      | inr less ↦ elim (most' k (same.first_in_second k there) at) [
        | inl equal ↦ is old ∙ (ap (λ (y : KeyedPut). y.put.bits) equal ∙ sym (is' old))
        | inr more ↦ absurd (omega (arith, less, more))
      ]
    ]

pub puts_commute : (ks ls : List KeyedPut) (memories : List (List ℕ)) → PortsRise ks → PortsRise ls → SamePuts ks ls → all_put (puts_in ks) memories ≡ all_put (puts_in ls) memories
puts_commute ks ls memories p q same =
    puts_same (puts_in ks) (puts_in ls) memories (λ m x old. same_last ks ls m x same (last_write ks p m x) (last_write ls q m x) old)
