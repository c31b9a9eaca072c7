-- The variables that keep a program's offsets are declared as code finds them; and the slots of all variables are of their
-- kinds.
use Rattle.std.proofs.Common.{◌≡◌, ℕ, suc, ◌+◌, ◌*◌, ◌<◌, nat_lt, Bool as Truth, true, false, if◌then◌else◌, List, [], ◌∷◌, ◌++◌, length, map, Some, None, refl, ap, sym, ◌∙◌, subst, arith}
use Rattle.std.specs.Prelude.{Option}
use Rattle.std.specs.List.{AllByRecursion}
use Rattle.std.proofs.lemmas.Bool.{eqb-true, ne_eqb}
use Rattle.std.proofs.lemmas.List.{length-append, length-map, map-append}
use Rattle.dh_tree.specs.Memories.{same_entity}
use Rattle.dh_tree.specs.PlainTrees.{Term, Action, action, ActionForm, lets, lets_memory, views, assigns, stores, reduces, calls, blocks, decides, repeats, counts, MaybeAction, no_action, one_action, Actions, no_actions, action_then, Groups, no_groups, group_then, Program}
use Rattle.dh_tree.specs.ViewOffsets.{offsets_of}
use Rattle.dh_meaning.specs.Bindings.{Binding, binding_in, bindings, bindings_of, depth_inside, kind_bound, kind_found}
use Rattle.dh_meaning.specs.Ways.{Hidden, Led, ViewSite, all_bindings_of, all_entities_of, hidden_binding, hidden_bindings, hidden_from, led_binding, standings, ways_of}
use Rattle.dh_ways.specs.declared.ways.Hidden as own
use Rattle.dh_ways.specs.Stands.{Stand, all_own, copies_inside, form_stands, groups_stands, hidden_at, hidden_of_program, other_stands, part_stands, view_site_of, stands}
use Rattle.dh_ways.specs.Seen.{hidden_seen}
use Rattle.dh_ways.proofs.HiddenApart.{are_counted}
use Rattle.dh_ways.proofs.StandsFound.{hidden_are, stands_told}
use Rattle.dh_code.specs.declared.places.Declared.{Declared}
use Rattle.dh_code.specs.Declarations.{Declaration, Factored, all_declarations_of, all_hidden_declared, declaration_in, declarations, declared_of, factored, factors_inside, form_factored, groups_factored, hidden_declarations, hidden_declared, kind_declared, other_factored, part_factored, placing_of}
use Rattle.dh_code.specs.Placed.{IsNamedBelow, hidden_as}
use Rattle.dh_code.specs.Ranks.{copies_in}
use Rattle.dh_code.specs.Slots.{held_at}
use Rattle.dh_code.proofs.Declaring.{copies_more}
use Rattle.dh_code.proofs.KindsHeld.{Alike, Kinded, alike, bound_kind, declared_kind, held_kind, same_kinds}

-- Views inside loops are those that code finds.

abbrev pub stand_of : Factored → Stand
stand_of f = record { name = f.name; parent = f.parent; form = f.form; depth = length f.factors; copies = copies_in f.factors }

deep_inside : (fs : List ℕ) (f : ℕ) → length (factors_inside fs f) ≡ depth_inside (length fs) f
deep_inside fs f = by (nat_lt 1 f)
  where
    next : (n : ℕ) → n + 1 ≡ suc n
    next n = omega arith

    by : (t : Truth) → length (if t then fs ++ f ∷ [] else fs) ≡ (if t then suc (length fs) else length fs)
    by true = length-append fs (f ∷ []) ∙ next (length fs)
    by false = refl

many_inside : (fs : List ℕ) (f : ℕ) → copies_in (factors_inside fs f) ≡ copies_inside (copies_in fs) f
many_inside fs f = by (nat_lt 1 f)
  where
    by : (t : Truth) → copies_in (if t then fs ++ f ∷ [] else fs) ≡ (if t then copies_in fs * f else copies_in fs)
    by true = copies_more fs f
    by false = refl

both_stand : (xs ys : List Factored) (us vs : List Stand) → map stand_of xs ≡ us → map stand_of ys ≡ vs → map stand_of (xs ++ ys) ≡ us ++ vs
both_stand xs ys us vs e f = map-append stand_of xs ys ∙ (ap (λ l. l ++ map stand_of ys) e ∙ ap (λ l. us ++ l) f)

mutual
  pub stand_so : (fs : List ℕ) (a : Action) → map stand_of (factored fs a) ≡ stands (length fs) (copies_in fs) a
  stand_so fs (action id place form) = form_stand fs form

  form_stand : (fs : List ℕ) (form : ActionForm) → map stand_of (form_factored fs form) ≡ form_stands (length fs) (copies_in fs) form
  form_stand fs (views name parent form) = refl
  form_stand fs (lets name declared value) = refl
  form_stand fs (lets_memory name shape shape_places value) = refl
  form_stand fs (assigns target value) = refl
  form_stand fs (stores target value) = refl
  form_stand fs (reduces target op value) = refl
  form_stand fs (calls function arguments) = refl
  form_stand fs (blocks body) = groups_stand fs body
  form_stand fs (decides test chosen other) =
      both_stand (factored fs chosen) (other_factored fs other) (stands (length fs) (copies_in fs) chosen) (other_stands (length fs) (copies_in fs) other) (stand_so fs chosen) (other_stand fs other)
  form_stand fs (repeats test body) = stand_so fs body
  form_stand fs (counts iterator declared low high factor body combine combine_place) =
      let gs = factors_inside fs factor.value in
      both_stand (factored gs body) (other_factored gs combine) (stands (length gs) (copies_in gs) body) (other_stands (length gs) (copies_in gs) combine) (stand_so gs body) (other_stand gs combine)
      ∙ (ap (λ n. stands n (copies_in gs) body ++ other_stands n (copies_in gs) combine) (deep_inside fs factor.value)
      ∙ ap (λ n. stands (depth_inside (length fs) factor.value) n body ++ other_stands (depth_inside (length fs) factor.value) n combine) (many_inside fs factor.value))

  other_stand : (fs : List ℕ) (other : MaybeAction) → map stand_of (other_factored fs other) ≡ other_stands (length fs) (copies_in fs) other
  other_stand fs no_action = refl
  other_stand fs (one_action a) = stand_so fs a

  groups_stand : (fs : List ℕ) (gs : Groups) → map stand_of (groups_factored fs gs) ≡ groups_stands (length fs) (copies_in fs) gs
  groups_stand fs no_groups = refl
  groups_stand fs (group_then part rest) =
      both_stand (part_factored fs part) (groups_factored fs rest) (part_stands (length fs) (copies_in fs) part) (groups_stands (length fs) (copies_in fs) rest) (part_stand fs part) (groups_stand fs rest)

  part_stand : (fs : List ℕ) (part : Actions) → map stand_of (part_factored fs part) ≡ part_stands (length fs) (copies_in fs) part
  part_stand fs no_actions = refl
  part_stand fs (action_then a rest) =
      both_stand (factored fs a) (part_factored fs rest) (stands (length fs) (copies_in fs) a) (part_stands (length fs) (copies_in fs) rest) (stand_so fs a) (part_stand fs rest)

-- Variables that keep offsets.

offsets_placed : (first : ℕ) (fs : List ℕ) (ts : List Term) → map declared_of (hidden_declared first fs ts) ≡ map hidden_as (hidden_at first (length fs) (copies_in fs) ts)
offsets_placed first fs [] = refl
offsets_placed first fs (t ∷ ts) = ap (λ (l : List Declared). record { entity = Some first; kind = kind_found t; depth = length fs; copies = copies_in fs } ∷ l) (offsets_placed (suc first) fs ts)

all_placed : (first : ℕ) (fs : List Factored) → map declared_of (all_hidden_declared first fs) ≡ map hidden_as (all_own first (map stand_of fs))
all_placed first [] = refl
all_placed first (f ∷ fs) =
    map-append declared_of (hidden_declared first f.factors ts) (all_hidden_declared (first + length ts) fs)
    ∙ (ap (λ l. l ++ map declared_of (all_hidden_declared (first + length ts) fs)) (offsets_placed first f.factors ts)
    ∙ (ap (λ l. map hidden_as (hidden_at first (length f.factors) (copies_in f.factors) ts) ++ l) (all_placed (first + length ts) fs)
    ∙ sym (map-append hidden_as (hidden_at first (length f.factors) (copies_in f.factors) ts) (all_own (first + length ts) (map stand_of fs)))))
  where
    ts : List Term
    ts = offsets_of f.form

pub hidden_placed : (p : Program) (hidden : List own.Hidden) → hidden ≡ hidden_of_program p → map declared_of (hidden_declarations p) ≡ map hidden_as hidden
hidden_placed p hidden e =
    all_placed (length p.entities) (factored [] p.body) ∙ (ap (λ l. map hidden_as (all_own (length p.entities) l)) (stand_so [] p.body) ∙ sym (ap (map hidden_as) e))

-- as many entities as there are with them
pub entities_so : (p : Program) → length p.entities + length (hidden_of_program p) ≡ all_entities_of p
entities_so p = ap (λ n. length p.entities + n) (sym (length-map (hidden_of_program p) hidden_seen) ∙ ap (λ (l : List Hidden). length l) (hidden_are p)) ∙ sym (are_counted p)

-- Kinds.

offsets_alike : (first depth : ℕ) (fs : List ℕ) (ts : List Term) → Alike (hidden_declared first fs ts) (map hidden_binding (hidden_from first depth ts))
offsets_alike first depth fs [] = refl
offsets_alike first depth fs (t ∷ ts) = ap (λ (l : List Kinded). record { entity = Some first; kind_is = kind_found t } ∷ l) (offsets_alike (suc first) depth fs ts)

hidden_alike : (first : ℕ) (fs : List Factored) → Alike (all_hidden_declared first fs) (hidden_bindings first (map (λ f. view_site_of (stand_of f)) fs))
hidden_alike first [] = refl
hidden_alike first (f ∷ fs) =
    map-append declared_kind (hidden_declared first f.factors ts) (all_hidden_declared (first + length ts) fs)
    ∙ (ap (λ l. l ++ map declared_kind (all_hidden_declared (first + length ts) fs)) (offsets_alike first (length f.factors) f.factors ts)
    ∙ (ap (λ l. map bound_kind (map hidden_binding (hidden_from first (length f.factors) ts)) ++ l) (hidden_alike (first + length ts) fs)
    ∙ sym (map-append bound_kind (map hidden_binding (hidden_from first (length f.factors) ts)) (hidden_bindings (first + length ts) (map (λ f. view_site_of (stand_of f)) fs)))))
  where
    ts : List Term
    ts = offsets_of f.form

pub standings_so : (p : Program) → map (λ f. view_site_of (stand_of f)) (factored [] p.body) ≡ standings 0 p.body
standings_so p = twice (factored [] p.body) ∙ (ap (map view_site_of) (stand_so [] p.body) ∙ stands_told 0 1 p.body)
  where
    twice : (fs : List Factored) → map (λ f. view_site_of (stand_of f)) fs ≡ map view_site_of (map stand_of fs)
    twice [] = refl
    twice (f ∷ fs) = ap (λ l. view_site_of (stand_of f) ∷ l) (twice fs)

both_alike : (ds es : List Declaration) (bs cs : List Binding) → Alike ds bs → Alike es cs → Alike (ds ++ es) (bs ++ cs)
both_alike ds es bs cs h k = map-append declared_kind ds es ∙ (ap (λ l. l ++ map declared_kind es) h ∙ (ap (λ l. map bound_kind bs ++ l) k ∙ sym (map-append bound_kind bs cs)))

all_alike : (p : Program) → Alike (all_declarations_of p) (bindings_of p ++ hidden_bindings (length p.entities) (standings 0 p.body))
all_alike p =
    both_alike (declarations [] p.body) (hidden_declarations p) (bindings 0 p.body) (hidden_bindings (length p.entities) (standings 0 p.body)) (alike [] 0 p.body)
    (hidden_alike (length p.entities) (factored [] p.body) ∙ ap (λ l. map bound_kind (hidden_bindings (length p.entities) l)) (standings_so p))

-- views have no kinds of their own: theirs is that of what is no variable

other_number : (first e : ℕ) → e < first → same_entity (Some first) (Some e) ≡ false
other_number first e less = ne_eqb first e (omega (arith, less))

offsets_none : (first depth e : ℕ) (ts : List Term) (rest : List Binding) → e < first → binding_in (map hidden_binding (hidden_from first depth ts) ++ rest) e ≡ binding_in rest e
offsets_none first depth e [] rest less = refl
offsets_none first depth e (t ∷ ts) rest less =
    ap (λ b. if b then Some (hidden_binding (record { entity = first; kind = kind_found t; depth = depth })) else binding_in (map hidden_binding (hidden_from (suc first) depth ts) ++ rest) e) (other_number first e less)
    ∙ offsets_none (suc first) depth e ts rest (omega (arith, less))

hidden_none : (first e : ℕ) (ss : List ViewSite) → e < first → binding_in (hidden_bindings first ss) e ≡ None
hidden_none first e [] less = refl
hidden_none first e (s ∷ ss) less = offsets_none first s.depth e (offsets_of s.form) (hidden_bindings (first + length (offsets_of s.form)) ss) less ∙ hidden_none (first + length (offsets_of s.form)) e ss (more first (length (offsets_of s.form)) less)
  where
    more : (n m : ℕ) → e < n → e < n + m
    more n m h = omega (arith, h)

led_kinds : (n e : ℕ) (ls : List Led) (rest : List Binding) → AllByRecursion (λ l. IsNamedBelow n l.entity) ls → (e < n → binding_in rest e ≡ None) → kind_bound (binding_in (map led_binding ls ++ rest) e) ≡ kind_bound (binding_in rest e)
led_kinds n e [] rest named none = refl
led_kinds n e (l ∷ ls) rest named none = by l.entity named.0 (led_kinds n e ls rest named.1 none) (same_entity l.entity (Some e)) refl
  where
    below : (o : Option ℕ) → IsNamedBelow n o → same_entity o (Some e) ≡ true → e < n
    below None h t = absurd cc
    below (Some k) h t = subst (λ (i : ℕ). i < n) (eqb-true k e t) h

    by : (o : Option ℕ) → IsNamedBelow n o → kind_bound (binding_in (map led_binding ls ++ rest) e) ≡ kind_bound (binding_in rest e) → (t : Truth) → same_entity o (Some e) ≡ t
        → kind_bound (if t then Some (led_binding l) else binding_in (map led_binding ls ++ rest) e) ≡ kind_bound (binding_in rest e)
    by o h tail true is = sym (ap kind_bound (none (below o h is)))
    by o h tail false is = tail

own_kinds : (bs xs ys : List Binding) (e : ℕ) → kind_bound (binding_in xs e) ≡ kind_bound (binding_in ys e) → kind_bound (binding_in (bs ++ xs) e) ≡ kind_bound (binding_in (bs ++ ys) e)
own_kinds [] xs ys e h = h
own_kinds (b ∷ bs) xs ys e h = by (own_kinds bs xs ys e h) (same_entity b.entity (Some e))
  where
    by : kind_bound (binding_in (bs ++ xs) e) ≡ kind_bound (binding_in (bs ++ ys) e) → (t : Truth) → kind_bound (if t then Some b else binding_in (bs ++ xs) e) ≡ kind_bound (if t then Some b else binding_in (bs ++ ys) e)
    by later true = refl
    by later false = later

-- the slots of all variables are of their kinds
pub kinds_all : (p : Program) → AllByRecursion (λ l. IsNamedBelow (length p.entities) l.entity) (ways_of p) → (e : ℕ) → e < all_entities_of p → (held_at (placing_of p).held e).kind ≡ kind_bound (binding_in (all_bindings_of p) e)
kinds_all p named e within =
    held_kind (all_declarations_of p) 0 0 (all_entities_of p) e within
    ∙ (ap (λ k. kind_declared (declaration_in (all_declarations_of p) k)) (none e)
    ∙ (same_kinds (all_declarations_of p) (bindings_of p ++ hs) (all_alike p) e
    ∙ sym (own_kinds (bindings_of p) (map led_binding (ways_of p) ++ hs) hs e (led_kinds (length p.entities) e (ways_of p) hs named (hidden_none (length p.entities) e (standings 0 p.body))))))
  where
    hs : List Binding
    hs = hidden_bindings (length p.entities) (standings 0 p.body)

    none : (n : ℕ) → 0 + n ≡ n
    none n = omega arith
