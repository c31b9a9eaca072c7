-- Items gathered by their numbers: what was gathered of a number, and its items among those still to come, are all of
-- its items.
use Rattle.std.proofs.Common.{◌≡◌, ℕ, suc, ◌+◌, ◌<◌, ◌≤◌, ◌==◌, inl, inr, Some, Bool, true, false, if◌then◌else◌, List, [], ◌∷◌, ◌++◌, length, drop, take, refl, sym, ap, subst, ◌∙◌, arith, append_assoc}
use Rattle.std.specs.Prelude.{Vec, get_or, set, replicate, slice_get}
use Rattle.std.specs.Global.{Global}
use Rattle.std.proofs.Math.Seq.{drop-cons}
use Rattle.std.proofs.Math.ListN.{drop_of_length-le}
use Rattle.std.proofs.lemmas.Bool.{cases_eq}
use Rattle.std.proofs.lemmas.Bool.Decides.{nat_tests}
use Rattle.std.proofs.lemmas.List.{append-nil, get_or-map, get_or-replicate, get_or-set_same, get_or-set_other, length-map, length-replicate, length-set, map-append, map-set, replicate-append-replicate, set_past}
use Rattle.std.proofs.lemmas.Option.{slice_get-get_or, slice_get_within, get_or_from_slice_get}
use Rattle.dh_control.specs.declared.gathering.Keyed.{Keyed}
use Rattle.dh_control.specs.KeyedItems.{vector_items, items_picked}

same_test : (a b : ℕ) → a ≡ b → (a == b) ≡ true
same_test a b e = grind (arith, e, nat_tests)

other_test : (a b : ℕ) → (a ≡ b → ⊥) → (a == b) ≡ false
other_test a b n = grind (arith, n, nat_tests)

pub picked_here : {A : Type 0} (key : ℕ) (e : Keyed A) (es : List (Keyed A)) → e.key ≡ key → items_picked key (e ∷ es) ≡ e.item ∷ items_picked key es
picked_here key e es same = ap (λ (t : Bool). if t then e.item ∷ items_picked key es else items_picked key es) (same_test e.key key same)

pub picked_past : {A : Type 0} (key : ℕ) (e : Keyed A) (es : List (Keyed A)) → (e.key ≡ key → ⊥) → items_picked key (e ∷ es) ≡ items_picked key es
picked_past key e es other = ap (λ (t : Bool). if t then e.item ∷ items_picked key es else items_picked key es) (other_test e.key key other)

-- what is gathered of each number so far, with what is still to come of it, is all
abbrev pub GathersAll : {A : Type 0} → (count : ℕ) → (lists : List (List A)) → (rest all : List (Keyed A)) → Type 0
GathersAll count lists rest all = (key : ℕ) → key < count → get_or lists key [] ++ items_picked key rest ≡ items_picked key all

pub gather_begins : {A : Type 0} (count : ℕ) (lists : List (List A)) (all : List (Keyed A)) → lists ≡ replicate count [] → GathersAll count lists all all
gather_begins count lists all e key less =
    ap (λ l. get_or l key [] ++ items_picked key all) e ∙ ap (λ l. l ++ items_picked key all) (get_or-replicate count key [] [] less)

pub gather_turn : {A : Type 0} (count i : ℕ) (lists news : List (List A)) (all : List (Keyed A)) (e : Keyed A) → i < length all → e ≡ get_or all i e → length lists ≡ count
    → news ≡ set lists e.key (get_or lists e.key [] ++ e.item ∷ []) → GathersAll count lists (drop i all) all → GathersAll count news (drop (i + 1) all) all
gather_turn {A = A} count i lists news all e less is long put so key small =
    let now : drop i all ≡ e ∷ drop (suc i) all = drop-cons all i e less ∙ ap (λ (x : Keyed A). x ∷ drop (suc i) all) (sym is) in
    let next : drop (i + 1) all ≡ drop (suc i) all = (let n : i + 1 ≡ suc i = omega arith in ap (λ k. drop k all) n) in
    let before = ap (λ l. get_or lists key [] ++ items_picked key l) (sym now) ∙ so key small in
    elim (cases_eq e.key key) [
      | inl same ↦
          let here : get_or news key [] ≡ get_or lists key [] ++ e.item ∷ [] =
          (ap (λ l. get_or l key []) put ∙ (ap (λ k. get_or (set lists e.key (get_or lists e.key [] ++ e.item ∷ [])) k []) (sym same)
          ∙ (get_or-set_same lists e.key (get_or lists e.key [] ++ e.item ∷ []) [] (omega (arith, long, small, same)) ∙ ap (λ k. get_or lists k [] ++ e.item ∷ []) same))) in
          ap (λ l. get_or news key [] ++ items_picked key l) next
          ∙ (ap (λ l. l ++ items_picked key (drop (suc i) all)) here ∙ (append_assoc (get_or lists key []) (e.item ∷ []) (items_picked key (drop (suc i) all))
          ∙ (ap (λ l. get_or lists key [] ++ l) (sym (picked_here key e (drop (suc i) all) same)) ∙ before)))
      | inr other ↦
          let here : get_or news key [] ≡ get_or lists key [] =
          (ap (λ l. get_or l key []) put ∙ get_or-set_other lists e.key key (get_or lists e.key [] ++ e.item ∷ []) [] (λ q. other (sym q))) in
          ap (λ l. get_or news key [] ++ items_picked key l) next
          ∙ (ap (λ l. l ++ items_picked key (drop (suc i) all)) here
          ∙ (ap (λ l. get_or lists key [] ++ l) (sym (picked_past key e (drop (suc i) all) other)) ∙ before))
    ]

pub gather_long : {A : Type 0} (count at : ℕ) (lists news : List (List A)) (list : List A) → length lists ≡ count → news ≡ set lists at list → length news ≡ count
gather_long count at lists news list long put = ap (λ l. length l) put ∙ (length-set lists at list ∙ long)

pub gathered : {A : Type 0} (count i : ℕ) (lists : List (List A)) (all : List (Keyed A)) → length all ≤ i → length lists ≡ count
    → GathersAll count lists (drop i all) all → (key : ℕ) → key < count → slice_get lists key ≡ Some (items_picked key all)
gathered count i lists all done long so key small =
    let none : drop i all ≡ [] = drop_of_length-le all done in
    let is : get_or lists key [] ≡ items_picked key all = sym (append-nil (get_or lists key [])) ∙ (ap (λ l. get_or lists key [] ++ items_picked key l) (sym none) ∙ so key small) in
    slice_get-get_or lists key [] (omega (arith, small, long)) ∙ ap (λ l. Some l) is

-- Lists in vectors.

pub more_empty : {A : Type 0} (lists : List (Vec A Global)) (list : Vec A Global) (i : ℕ) → list.items ≡ [] → vector_items lists ≡ replicate i [] → vector_items (lists ++ list ∷ []) ≡ replicate (i + 1) []
more_empty lists list i none so =
    map-append (λ l. l.items) lists (list ∷ []) ∙ (ap (λ l. l ++ list.items ∷ []) so ∙ (ap (λ l. replicate i [] ++ l ∷ []) none ∙ replicate-append-replicate i 1 []))

pub put_done : {A : Type 0} (lists : List (Vec A Global)) (at : ℕ) (d new : Vec A Global) (item : A) → at < length lists → new.items ≡ (get_or lists at d).items ++ item ∷ []
    → vector_items (set lists at new) ≡ set (vector_items lists) at (get_or (vector_items lists) at [] ++ item ∷ [])
put_done lists at d new item less put =
    map-set (λ l. l.items) lists at new
    ∙ ap (λ l. set (vector_items lists) at l) (put ∙ ap (λ l. l ++ item ∷ []) (sym (get_or-map (λ l. l.items) lists at d [] less)))

-- all items of a number stand in its list
abbrev pub HasGathered : {A : Type 0} → (count : ℕ) → (lists : List (Vec A Global)) → (all : List (Keyed A)) → Type 0
HasGathered count lists all = (key : ℕ) → key < count → slice_get (vector_items lists) key ≡ Some (items_picked key all)

pub list_there : {A : Type 0} (count : ℕ) (lists : List (Vec A Global)) (all : List (Keyed A)) (key : ℕ) → key < count → HasGathered count lists all → key < length lists
list_there count lists all key less h =
    let within = slice_get_within (vector_items lists) key (items_picked key all) (h key less) in
    let long = length-map lists (λ l. l.items) in
    omega (arith, within, long)

pub list_is : {A : Type 0} (count : ℕ) (lists : List (Vec A Global)) (all : List (Keyed A)) (key : ℕ) (list : Vec A Global) → key < count → HasGathered count lists all → list ≡ get_or lists key list → list.items ≡ items_picked key all
list_is count lists all key list less h is =
    ap (λ v. v.items) is
    ∙ (sym (get_or-map (λ l. l.items) lists key list [] (list_there count lists all key less h))
    ∙ get_or_from_slice_get (vector_items lists) key (items_picked key all) [] (h key less))

pub list_in : {A : Type 0} (count : ℕ) (lists now : List (Vec A Global)) (all : List (Keyed A)) (key : ℕ) (list : Vec A Global) → key < count → HasGathered count lists all → now ≡ lists
    → list ≡ get_or now key list → list.items ≡ items_picked key all
list_in {A = A} count lists now all key list less h same is =
    list_is count lists all key list less h (subst (λ (l : List (Vec A Global)). list ≡ get_or l key list) same is)

pub put_none : {A : Type 0} (lists : List (Vec A Global)) (at : ℕ) (item : A) → length lists ≤ at → vector_items lists ≡ set (vector_items lists) at (get_or (vector_items lists) at [] ++ item ∷ [])
put_none lists at item past =
    let long = length-map lists (λ l. l.items) in
    sym (set_past (vector_items lists) at (get_or (vector_items lists) at [] ++ item ∷ []) (omega (arith, past, long)))

-- a vector whose items are written back
written_back : {X : Type 0} (news olds : List X) → length news ≡ length olds → take (length olds) (news ++ drop (length news) olds) ≡ news
written_back news olds same =
    let none : drop (length news) olds ≡ [] = drop_of_length-le olds (let n : length olds ≤ length news = omega (arith, same) in n) in
    ap (λ l. take (length olds) (news ++ l)) none ∙ (ap (λ l. take (length olds) l) (append-nil news) ∙ (ap (λ n. take n news) (sym same) ∙ take_all news))
  where
    take_all : {Y : Type 0} (ys : List Y) → take (length ys) ys ≡ ys
    take_all [] = refl
    take_all (y ∷ ys) = ap (λ l. y ∷ l) (take_all ys)

-- what the lists of a vector keep in the loop
pub record Gathering {A : Type 0} (count : ℕ) (lists : List (Vec A Global)) (rest all : List (Keyed A)) : Type 0 where
  pub long : length (vector_items lists) ≡ count
  pub so_far : GathersAll count (vector_items lists) rest all

pub gather_step : {A : Type 0} (count i len : ℕ) (olds now news : List (Vec A Global)) (all : List (Keyed A)) (e : Keyed A) → i < length all → e ≡ get_or all i e → len ≡ length olds → now ≡ olds
    → vector_items news ≡ set (vector_items now) e.key (get_or (vector_items now) e.key [] ++ e.item ∷ []) → Gathering count olds (drop i all) all
    → Gathering count (take len (news ++ drop (length news) olds)) (drop (i + 1) all) all
gather_step {A = A} count i len olds now news all e less is all_len same put h =
    let put_here : vector_items news ≡ set (vector_items olds) e.key (get_or (vector_items olds) e.key [] ++ e.item ∷ []) =
    put ∙ ap (λ (l : List (Vec A Global)). set (vector_items l) e.key (get_or (vector_items l) e.key [] ++ e.item ∷ [])) same in
    let long_new : length (vector_items news) ≡ count = gather_long count e.key (vector_items olds) (vector_items news) (get_or (vector_items olds) e.key [] ++ e.item ∷ []) h.long put_here in
    let a = length-map news (λ l. l.items) in
    let b = length-map olds (λ l. l.items) in
    let c = h.long in
    let back : take len (news ++ drop (length news) olds) ≡ news =
    ap (λ n. take n (news ++ drop (length news) olds)) all_len ∙ written_back news olds (omega (arith, a, b, c, long_new)) in
    subst (λ (l : List (Vec A Global)). Gathering count l (drop (i + 1) all) all) (sym back)
    (record { long = long_new; so_far = gather_turn count i (vector_items olds) (vector_items news) all e less is h.long put_here h.so_far })

pub gather_start : {A : Type 0} (count : ℕ) (lists : List (Vec A Global)) (all : List (Keyed A)) → vector_items lists ≡ replicate count [] → Gathering count lists all all
gather_start count lists all e = record {
  long = ap (λ l. length l) e ∙ length-replicate count [];
  so_far = gather_begins count (vector_items lists) all e;
}

pub gather_end : {A : Type 0} (count i : ℕ) (lists : List (Vec A Global)) (all : List (Keyed A)) → length all ≤ i → Gathering count lists (drop i all) all → HasGathered count lists all
gather_end count i lists all end h = gathered count i (vector_items lists) all end h.long h.so_far
