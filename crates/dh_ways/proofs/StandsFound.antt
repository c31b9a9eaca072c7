-- Views where they are declared, and the variables that keep their offsets: those that code finds are those of the program.
use Rattle.std.proofs.Common.{◌≡◌, ℕ, suc, ◌+◌, ◌<◌, ◌≤◌, List, [], ◌∷◌, ◌++◌, length, map, drop, get_or, refl, ap, sym, ◌∙◌, arith, append_assoc, append-nil}
use Rattle.std.proofs.Math.Seq.{drop-cons}
use Rattle.std.proofs.Math.ListN.{drop_of_length-le}
use Rattle.std.proofs.lemmas.List.{length-append, map-append}
use Rattle.dh_value.specs.declared.kinds.Kind.{Kind}
use Rattle.dh_tree.specs.declared.trees.expressions.Expr.{Expr}
use Rattle.dh_tree.specs.PlainTrees.{Term, Action, action, ActionForm, lets, lets_memory, views, assigns, stores, reduces, calls, blocks, decides, repeats, counts, MaybeAction, no_action, one_action, Actions, no_actions, action_then, Groups, no_groups, group_then, Program}
use Rattle.dh_tree.specs.Seen.{factor_seen, term_seen}
use Rattle.dh_tree.specs.ViewOffsets.{offsets_of}
use Rattle.dh_meaning.specs.Bindings.{depth_inside, kind_found}
use Rattle.dh_meaning.specs.Ways as definitions
use Rattle.dh_meaning.specs.Ways.{ViewSite, form_standings, groups_standings, hidden_from, other_standings, part_standings, standings}
use Rattle.dh_ways.specs.declared.standing.Stood.{Stood}
use Rattle.dh_ways.specs.declared.ways.Hidden.{Hidden}
use Rattle.dh_ways.specs.HiddenVariables.{all_hidden, hidden_variables}
use Rattle.dh_ways.specs.Seen.{hidden_seen}
use Rattle.dh_ways.specs.CutStands.{form_cut_stands}
use Rattle.dh_ways.specs.Stands.{Stand, all_own, copies_inside, form_stands, groups_stands, hidden_at, hidden_of_program, other_stands, own_of, part_stands, stand_seen, view_site_of, standing_seen, stands}

-- A view is found.
pub stood_more : (found new : List Stood) (s : Stood) (depth copies : ℕ) (seen form : ActionForm) → new ≡ found ++ s ∷ [] → seen ≡ form → form_cut_stands depth copies form ≡ stand_seen s ∷ [] → map stand_seen new ≡ map stand_seen found ++ form_cut_stands depth copies seen
stood_more found new s depth copies seen form e f l =
    ap (map stand_seen) e ∙ (map-append stand_seen found (s ∷ []) ∙ ap (λ ms. map stand_seen found ++ ms) (sym (ap (form_cut_stands depth copies) f ∙ l)))

-- Views where they stand are those of the meaning.

both_told : (xs ys : List Stand) (us vs : List ViewSite) → map view_site_of xs ≡ us → map view_site_of ys ≡ vs → map view_site_of (xs ++ ys) ≡ us ++ vs
both_told xs ys us vs e f = map-append view_site_of xs ys ∙ (ap (λ l. l ++ map view_site_of ys) e ∙ ap (λ l. us ++ l) f)

mutual
  pub stands_told : (d n : ℕ) (a : Action) → map view_site_of (stands d n a) ≡ standings d a
  stands_told d n (action id place form) = form_told d n form

  form_told : (d n : ℕ) (f : ActionForm) → map view_site_of (form_stands d n f) ≡ form_standings d f
  form_told d n (views name parent form) = refl
  form_told d n (lets name declared value) = refl
  form_told d n (lets_memory name shape shape_places value) = refl
  form_told d n (assigns target value) = refl
  form_told d n (stores target value) = refl
  form_told d n (reduces target op value) = refl
  form_told d n (calls function arguments) = refl
  form_told d n (blocks body) = groups_told d n body
  form_told d n (decides test chosen other) = both_told (stands d n chosen) (other_stands d n other) (standings d chosen) (other_standings d other) (stands_told d n chosen) (other_told d n other)
  form_told d n (repeats test body) = stands_told d n body
  form_told d n (counts iterator declared low high factor body combine combine_place) =
      let inside = depth_inside d factor.value in
      let more = copies_inside n factor.value in
      both_told (stands inside more body) (other_stands inside more combine) (standings inside body) (other_standings inside combine) (stands_told inside more body) (other_told inside more combine)

  other_told : (d n : ℕ) (m : MaybeAction) → map view_site_of (other_stands d n m) ≡ other_standings d m
  other_told d n no_action = refl
  other_told d n (one_action a) = stands_told d n a

  groups_told : (d n : ℕ) (gs : Groups) → map view_site_of (groups_stands d n gs) ≡ groups_standings d gs
  groups_told d n no_groups = refl
  groups_told d n (group_then part rest) = both_told (part_stands d n part) (groups_stands d n rest) (part_standings d part) (groups_standings d rest) (part_told d n part) (groups_told d n rest)

  part_told : (d n : ℕ) (part : Actions) → map view_site_of (part_stands d n part) ≡ part_standings d part
  part_told d n no_actions = refl
  part_told d n (action_then a rest) = both_told (stands d n a) (part_stands d n rest) (standings d a) (part_standings d rest) (stands_told d n a) (part_told d n rest)

-- Hidden variables, one after the other.

-- behind none
pub from_none : (first count : ℕ) → first ≡ 0 + count → first ≡ count
from_none first count e = omega (arith, e)

pub none_before : (count k : ℕ) → count < k → 0 + count < k
none_before count k l = omega (arith, l)

pub hidden_first : (ts : List Term) (first depth copies : ℕ) → hidden_at (first + 0) depth copies ts ≡ hidden_at first depth copies ts
hidden_first ts first depth copies = ap (λ n. hidden_at n depth copies ts) (none first)
  where
    none : (n : ℕ) → n + 0 ≡ n
    none n = omega arith

pub hidden_kind : (now : List Hidden) (entity depth copies : ℕ) (k : Kind) (t : Term) → k ≡ kind_found t
    → now ++ record { entity = entity; kind = k; depth = depth; copies = copies } ∷ [] ≡ now ++ record { entity = entity; kind = kind_found t; depth = depth; copies = copies } ∷ []
hidden_kind now entity depth copies k t e = ap (λ (x : Kind). now ++ record { entity = entity; kind = x; depth = depth; copies = copies } ∷ []) e

pub hidden_more : (ts : List Term) (first i depth copies entity : ℕ) (now new : List Hidden) (t : Term) → i < length ts → t ≡ get_or ts i t → entity ≡ first + i
    → new ≡ now ++ record { entity = entity; kind = kind_found t; depth = depth; copies = copies } ∷ []
    → now ++ hidden_at (first + i) depth copies (drop i ts) ≡ hidden_at first depth copies ts → new ++ hidden_at (first + suc i) depth copies (drop (suc i) ts) ≡ hidden_at first depth copies ts
hidden_more ts first i depth copies entity now new t there is at added h =
    ap (λ l. l ++ hidden_at (first + suc i) depth copies (drop (suc i) ts)) added
    ∙ (append_assoc now (record { entity = entity; kind = kind_found t; depth = depth; copies = copies } ∷ []) (hidden_at (first + suc i) depth copies (drop (suc i) ts))
    ∙ (ap (λ n. now ++ record { entity = n; kind = kind_found t; depth = depth; copies = copies } ∷ hidden_at (first + suc i) depth copies (drop (suc i) ts)) at
    ∙ (ap (λ n. now ++ record { entity = first + i; kind = kind_found t; depth = depth; copies = copies } ∷ hidden_at n depth copies (drop (suc i) ts)) (moved first i)
    ∙ (ap (λ l. now ++ hidden_at (first + i) depth copies l) (sym (drop-cons ts i t there ∙ ap (λ x. x ∷ drop (suc i) ts) (sym is))) ∙ h))))
  where
    moved : (a b : ℕ) → a + suc b ≡ suc (a + b)
    moved a b = omega arith

pub hidden_end : (ts : List Term) (first i depth copies : ℕ) (now : List Hidden) → length ts ≤ i → now ++ hidden_at (first + i) depth copies (drop i ts) ≡ hidden_at first depth copies ts → now ≡ hidden_at first depth copies ts
hidden_end ts first i depth copies now over h = sym (append-nil now) ∙ (ap (λ l. now ++ hidden_at (first + i) depth copies l) (sym (drop_of_length-le ts over)) ∙ h)

pub pairs_same : (pairs : List (ℕ × Expr)) → map (λ p. term_seen p.1) pairs ≡ map (λ s. s.offset) (map factor_seen pairs)
pairs_same [] = refl
pairs_same ((n, e) ∷ pairs) = ap (λ l. term_seen e ∷ l) (pairs_same pairs)

-- they are as many as offsets
pub hidden_many : (first depth copies : ℕ) (ts : List Term) → length (hidden_at first depth copies ts) ≡ length ts
hidden_many first depth copies [] = refl
hidden_many first depth copies (t ∷ ts) = ap suc (hidden_many (suc first) depth copies ts)

pub hidden_told : (first depth copies : ℕ) (ts : List Term) → map hidden_seen (hidden_at first depth copies ts) ≡ hidden_from first depth ts
hidden_told first depth copies [] = refl
hidden_told first depth copies (t ∷ ts) = ap (λ (l : List definitions.Hidden). record { entity = first; kind = kind_found t; depth = depth } ∷ l) (hidden_told (suc first) depth copies ts)

-- Those of views, one after the other.

pub own_first : (first : ℕ) (ss : List Stand) → all_own (first + 0) ss ≡ all_own first ss
own_first first ss = ap (λ n. all_own n ss) (none first)
  where
    none : (n : ℕ) → n + 0 ≡ n
    none n = omega arith

pub own_more : (stood : List Stood) (first i next : ℕ) (now own new : List Hidden) (s : Stood) → i < length stood → s ≡ get_or stood i s → next ≡ first + length now → own ≡ own_of next (stand_seen s) → new ≡ now ++ own
    → now ++ all_own (first + length now) (map stand_seen (drop i stood)) ≡ all_own first (map stand_seen stood) → new ++ all_own (first + length new) (map stand_seen (drop (suc i) stood)) ≡ all_own first (map stand_seen stood)
own_more stood first i next now own new s there is at made added h =
    ap (λ l. l ++ all_own (first + length l) rest) added
    ∙ (append_assoc now own (all_own (first + length (now ++ own)) rest)
    ∙ (ap (λ n. now ++ (own ++ all_own n rest)) long
    ∙ (ap (λ l. now ++ (l ++ all_own (first + length now + length ts) rest)) (made ∙ ap (λ n. own_of n (stand_seen s)) at)
    ∙ (ap (λ l. now ++ all_own (first + length now) (map stand_seen l)) (sym (drop-cons stood i s there ∙ ap (λ x. x ∷ drop (suc i) stood) (sym is))) ∙ h))))
  where
    rest : List Stand
    rest = map stand_seen (drop (suc i) stood)

    ts : List Term
    ts = offsets_of (stand_seen s).form

    many : length own ≡ length ts
    many = ap (λ (l : List Hidden). length l) made ∙ hidden_many next s.depth s.copies ts

    long : first + length (now ++ own) ≡ first + length now + length ts
    long = by (length (now ++ own)) (length now) (length own) (length ts) (length-append now own) many
      where
        by : (l n o t : ℕ) → l ≡ n + o → o ≡ t → first + l ≡ first + n + t
        by l n o t e f = omega (arith, e, f)

pub own_end : (stood : List Stood) (first i : ℕ) (now : List Hidden) → length stood ≤ i → now ++ all_own (first + length now) (map stand_seen (drop i stood)) ≡ all_own first (map stand_seen stood) → now ≡ all_own first (map stand_seen stood)
own_end stood first i now over h = sym (append-nil now) ∙ (ap (λ l. now ++ all_own (first + length now) (map stand_seen l)) (sym (drop_of_length-le stood over)) ∙ h)

-- those of the rest behind those so far
pub all_more : (stood : List Stood) (start first next i : ℕ) (before now new : List Hidden) (s : Stood) → i < length stood → s ≡ get_or stood i s → next ≡ definitions.behind_hidden first (standing_seen s) → new ≡ now ++ own_of first (stand_seen s)
    → now ++ all_own first (map stand_seen (drop i stood)) ≡ before ++ all_own start (map stand_seen stood) → new ++ all_own next (map stand_seen (drop (suc i) stood)) ≡ before ++ all_own start (map stand_seen stood)
all_more stood start first next i before now new s there is step added h =
    ap (λ l. l ++ all_own next rest) added
    ∙ (append_assoc now (own_of first (stand_seen s)) (all_own next rest)
    ∙ (ap (λ n. now ++ (own_of first (stand_seen s) ++ all_own n rest)) step
    ∙ (ap (λ l. now ++ all_own first (map stand_seen l)) (sym (drop-cons stood i s there ∙ ap (λ x. x ∷ drop (suc i) stood) (sym is))) ∙ h)))
  where
    rest : List Stand
    rest = map stand_seen (drop (suc i) stood)

pub all_end : (stood : List Stood) (start first i : ℕ) (before now : List Hidden) → length stood ≤ i → now ++ all_own first (map stand_seen (drop i stood)) ≡ before ++ all_own start (map stand_seen stood) → now ≡ before ++ all_own start (map stand_seen stood)
all_end stood start first i before now over h = sym (append-nil now) ∙ (ap (λ l. now ++ all_own first (map stand_seen l)) (sym (drop_of_length-le stood over)) ∙ h)

-- they are the hidden variables of the meaning
all_told : (first : ℕ) (ss : List Stand) → map hidden_seen (all_own first ss) ≡ all_hidden first (map view_site_of ss)
all_told first [] = refl
all_told first (s ∷ ss) =
    map-append hidden_seen (own_of first s) (all_own (first + length (offsets_of s.form)) ss)
    ∙ (ap (λ l. l ++ map hidden_seen (all_own (first + length (offsets_of s.form)) ss)) (hidden_told first s.depth s.copies (offsets_of s.form))
    ∙ ap (λ l. hidden_from first s.depth (offsets_of s.form) ++ l) (all_told (first + length (offsets_of s.form)) ss))

pub hidden_are : (p : Program) → map hidden_seen (hidden_of_program p) ≡ hidden_variables p
hidden_are p = all_told (length p.entities) (stands 0 1 p.body) ∙ ap (all_hidden (length p.entities)) (stands_told 0 1 p.body)
