-- The names of a ready program stand behind their views. Entities are numbered in text order: so the ways that are found
-- so far are those of all names that are visible, and a view that comes behind has none of their numbers. By one walk
-- over the body, with the points of the text, the ways so far and the first hidden variable behind them.
use Rattle.std.proofs.Common.{◌≡◌, ◌⊎◌, inl, inr, ℕ, ◌+◌, ◌<◌, ◌≤◌, Bool, true, false, if◌then◌else◌, List, [], ◌∷◌, ◌++◌, length, Option, Some, None, option_map, refl, sym, ◌∙◌, ap, subst, arith, length-append}
use Rattle.std.specs.List.{AllByRecursion}
use Rattle.std.proofs.lemmas.Bool.Decides.{nat_tests}
use Rattle.std.proofs.lemmas.List.{append_assoc, append-nil}
use Rattle.dh_tree.specs.declared.tables.Shape.{Shape}
use Rattle.dh_tree.specs.declared.viewing.ViewMap.{ViewMap}
use Rattle.dh_tree.specs.declared.trees.expressions.Ref.{Ref}
use Rattle.dh_tree.specs.declared.trees.programs.Sort.{Sort}
use Rattle.dh_tree.specs.declared.trees.programs.Sort.TheVariants as sort
use Rattle.dh_tree.specs.declared.trees.programs.Sort.TheVariants.{Iterator}
use Rattle.dh_tree.specs.Breaches.{unknown, twice, plan_name_breaches, term_breaches, term_form_breaches, terms_breaches, maybe_value_breaches, breaches, form_breaches, other_breaches, actions_breaches, groups_breaches, functions_breaches, items_breaches}
use Rattle.dh_tree.specs.Memories.{Memory, same_entity, memory_in, memories_of}
use Rattle.dh_tree.specs.PlainTrees.{Term, term, TermForm, number, truth_value, named, accessed, in_bank, applied, converted, Terms, no_terms, term_then, Action, action, ActionForm, lets, lets_memory, views, assigns, stores, reduces, calls, blocks, decides, repeats, counts, MaybeAction, no_action, one_action, Actions, no_actions, action_then, Groups, no_groups, group_then, Program}
use Rattle.dh_tree.specs.Ready.{IsReady}
use Rattle.dh_tree.specs.Resolved.{resolved_term, resolved_term_form, resolved_terms, resolved_plan, resolved_action, resolved_form, resolved_other, resolved_actions, resolved_groups}
use Rattle.dh_tree.specs.Scopes.{ScopeEntry, binding, entity_of, is_visible, bind, Scope, entity, declare, leave, past, at_end, form_at_end, other_at_end, actions_at_end, groups_at_end, Item, after_items, items_of, body_scope, first_scope, last_scope}
use Rattle.dh_tree.specs.Seen.{terms}
use Rattle.dh_tree.specs.ViewOffsets.{offsets_of}
use Rattle.dh_tree.specs.Views.{map_of}
use Rattle.dh_tree.proofs.EmptyLists.{first_none, second_none}
use Rattle.dh_meaning.specs.Bindings.{depth_inside}
use Rattle.dh_meaning.specs.Ways.{Hidden, Led, ViewSite, Way, behind_all, behind_hidden, form_standings, groups_standings, hidden_from, hidden_in, led_after, led_behind, led_of, other_standings, part_standings, shape_named, standings, way_at, way_behind, way_in, way_to, way_unless, ways_of}
use Rattle.dh_ways.proofs.HiddenApart.{AllWithin, all_within}
use Rattle.dh_sound.specs.BehindViews.{WayBelow, IsOwn, TermBehind, TermFormBehind, TermsBehind, MaybeBehind, KeepsFrom, ActionBehind, FormBehind, OtherBehind, GroupsBehind, PartBehind, StandsBehindViews}
use Rattle.dh_sound.proofs.DepthsNamed.{size}
use Rattle.dh_sound.proofs.IteratorsNamed.{on_long, declared_on, past_on, goes_on, other_on, part_on, groups_on}
use Rattle.dh_sound.proofs.KindsOfCommands.{added_found}
use Rattle.dh_sound.proofs.NamedPrograms.{used_stands}
use Rattle.dh_sound.proofs.NamesInScope.{ItemsBelow, items_below}
use Rattle.dh_sound.proofs.Offsets.{offsets_named, offsets_visible}

-- Views where they stand, by their numbers.

abbrev pub AllStand : (low high : ℕ) → List ViewSite → Type 0
AllStand low high [] = Unit {0}
AllStand low high (s ∷ ss) = ((n : ℕ) × ((s.name.entity ≡ Some n) × ((low ≤ n) × (n < high)))) × AllStand low high ss

wider : (low high less more : ℕ) → less ≤ low → high ≤ more → (ss : List ViewSite) → AllStand low high ss → AllStand less more ss
wider low high less more l m [] a = tt
wider low high less more l m (s ∷ ss) a = let x = a.0.1.1.0 in let y = a.0.1.1.1 in ((a.0.0, (a.0.1.0, (omega (arith, l, x), omega (arith, m, y)))), wider low high less more l m ss a.1)

both_stand : (low high : ℕ) (ss more : List ViewSite) → AllStand low high ss → AllStand low high more → AllStand low high (ss ++ more)
both_stand low high [] more a b = b
both_stand low high (s ∷ ss) more a b = (a.0, both_stand low high ss more a.1 b)

two_stand : (low mid high : ℕ) (ss more : List ViewSite) → low ≤ mid → mid ≤ high → AllStand low mid ss → AllStand mid high more → AllStand low high (ss ++ more)
two_stand low mid high ss more l m a b = both_stand low high ss more (wider low mid low high (omega arith) m ss a) (wider mid high low high l (omega arith) more b)

declared_long : (s : Scope) (r : Ref) (k : Sort) → size (declare s r k) ≡ size s + 1
declared_long s r k = length-append s.entities (entity r k ∷ [])

mutual
  pub stand_within : (a : Action) (s : Scope) (d : ℕ) → resolved_action s a ≡ a → AllStand (size s) (size (at_end s a)) (standings d a)
  stand_within (action id place form) s d e = let same : resolved_form s form ≡ form = cc in form_stands form s d same

  form_stands : (f : ActionForm) (s : Scope) (d : ℕ) → resolved_form s f ≡ f → AllStand (size s) (size (form_at_end s f)) (form_standings d f)
  form_stands (views name parent form) s d e =
      let own : Some (size s) ≡ name.entity = cc in
      let long = declared_long s name sort.View in
      ((size s, (sym own, (omega arith, omega (arith, long)))), tt)
  form_stands (lets name declared value) s d e = tt
  form_stands (lets_memory name shape shape_places value) s d e = tt
  form_stands (assigns target value) s d e = tt
  form_stands (stores target value) s d e = tt
  form_stands (reduces target o value) s d e = tt
  form_stands (calls function arguments) s d e = tt
  form_stands (blocks body) s d e = groups_stand body s d (let f = e in cc)
  form_stands (decides test chosen other) s d e =
      let inner : Scope = leave s (at_end s chosen) in
      let first : resolved_action s chosen ≡ chosen = cc in
      let second : resolved_other inner other ≡ other = cc in
      two_stand (size s) (size (at_end s chosen)) (size (other_at_end inner other)) (standings d chosen) (other_standings d other)
      (on_long _ _ (goes_on chosen s)) (on_long _ _ (other_on other inner)) (stand_within chosen s d first) (other_stands other inner d second)
  form_stands (repeats test body) s d e = let same : resolved_action s body ≡ body = cc in stand_within body s d same
  form_stands (counts iterator declared low high factor body combine combine_place) s d e =
      let inner : Scope = declare s iterator Iterator in
      let first : resolved_action inner body ≡ body = cc in
      let second : resolved_other (at_end inner body) combine ≡ combine = cc in
      let di = depth_inside d factor.value in
      let end = size (other_at_end (at_end inner body) combine) in
      wider (size inner) end (size s) end (on_long _ _ (declared_on s iterator Iterator)) (omega arith) (standings di body ++ other_standings di combine)
      (two_stand (size inner) (size (at_end inner body)) end (standings di body) (other_standings di combine)
      (on_long _ _ (goes_on body inner)) (on_long _ _ (other_on combine (at_end inner body))) (stand_within body inner di first) (other_stands combine (at_end inner body) di second))

  other_stands : (m : MaybeAction) (s : Scope) (d : ℕ) → resolved_other s m ≡ m → AllStand (size s) (size (other_at_end s m)) (other_standings d m)
  other_stands no_action s d e = tt
  other_stands (one_action a) s d e = let same : resolved_action s a ≡ a = cc in stand_within a s d same

  part_stand : (part : Actions) (s : Scope) (d : ℕ) → resolved_actions s part ≡ part → AllStand (size s) (size (actions_at_end s part)) (part_standings d part)
  part_stand no_actions s d e = tt
  part_stand (action_then a rest) s d e =
      let after : Scope = past s a (at_end s a) in
      let first : resolved_action s a ≡ a = cc in
      let second : resolved_actions after rest ≡ rest = cc in
      let same = ap length (past_on s (at_end s a) a) in
      let long = on_long _ _ (goes_on a s) in
      let one = wider (size s) (size (at_end s a)) (size s) (size after) (omega arith) (omega (arith, same)) (standings d a) (stand_within a s d first) in
      two_stand (size s) (size after) (size (actions_at_end after rest)) (standings d a) (part_standings d rest) (omega (arith, same, long)) (on_long _ _ (part_on rest after)) one (part_stand rest after d second)

  groups_stand : (gs : Groups) (s : Scope) (d : ℕ) → resolved_groups s gs ≡ gs → AllStand (size s) (size (groups_at_end s gs)) (groups_standings d gs)
  groups_stand no_groups s d e = tt
  groups_stand (group_then g rest) s d e =
      let after : Scope = actions_at_end s g in
      let first : resolved_actions s g ≡ g = cc in
      let second : resolved_groups after rest ≡ rest = cc in
      two_stand (size s) (size after) (size (groups_at_end after rest)) (part_standings d g) (groups_standings d rest) (on_long _ _ (part_on g s)) (on_long _ _ (groups_on rest after)) (part_stand g s d first)
      (groups_stand rest after d second)

-- Ways so far.

-- each is of a number below this one
abbrev pub AllLedBelow : ℕ → List Led → Type 0
AllLedBelow k ls = AllByRecursion (λ (l : Led). (n : ℕ) × ((l.entity ≡ Some n) × (n < k))) ls

pub led_more : (j k : ℕ) → j ≤ k → (ls : List Led) → AllLedBelow j ls → AllLedBelow k ls
led_more j k l [] a = tt
led_more j k l (x ∷ ls) a = let y = a.0.1.1 in ((a.0.0, (a.0.1.0, omega (arith, l, y))), led_more j k l ls a.1)

pub led_both_below : (k : ℕ) (ls more : List Led) → AllLedBelow k ls → AllLedBelow k more → AllLedBelow k (ls ++ more)
led_both_below k [] more a b = b
led_both_below k (l ∷ ls) more a b = (a.0, led_both_below k ls more a.1 b)

led_both : (ms : List Memory) (x : ℕ) (before : List Led) (ss more : List ViewSite) → led_behind ms x before (ss ++ more) ≡ led_behind ms (behind_all x ss) (led_behind ms x before ss) more
led_both ms x before [] more = refl
led_both ms x before (s ∷ ss) more = led_both ms (behind_hidden x s) (before ++ led_after ms x before s) ss more

absent : (m n : ℕ) (e : Option ℕ) → e ≡ Some m → (m < n) ⊎ (n < m) → same_entity e (Some n) ≡ false
absent m n e is (inl l) = ap (λ o. same_entity o (Some n)) is ∙ lower m n l
  where
    lower : (a b : ℕ) → a < b → same_entity (Some a) (Some b) ≡ false
    lower a b l = grind (arith, nat_tests, l)
absent m n e is (inr l) = ap (λ o. same_entity o (Some n)) is ∙ higher m n l
  where
    higher : (a b : ℕ) → b < a → same_entity (Some a) (Some b) ≡ false
    higher a b l = grind (arith, nat_tests, l)

pub there : (n : ℕ) → same_entity (Some n) (Some n) ≡ true
there n = grind (arith, nat_tests)

-- none of theirs is found among ways of lower numbers
pub not_below : (n : ℕ) (ls : List Led) → AllLedBelow n ls → way_in ls (Some n) ≡ None
not_below n [] a = refl
not_below n (l ∷ ls) a = ap (λ b. if b then Some l.way else way_in ls (Some n)) (absent a.0.0 n l.entity a.0.1.0 (inl a.0.1.1)) ∙ not_below n ls a.1

found_first : (ls more : List Led) (n : ℕ) → way_in more (Some n) ≡ None → way_in (ls ++ more) (Some n) ≡ way_in ls (Some n)
found_first [] more n e = e
found_first (l ∷ ls) more n e = ap (λ o. if same_entity l.entity (Some n) then Some l.way else o) (found_first ls more n e)

pub passed_over : (ls more : List Led) (n : ℕ) → way_in ls (Some n) ≡ None → way_in (ls ++ more) (Some n) ≡ way_in more (Some n)
passed_over [] more n e = refl
passed_over (l ∷ ls) more n e = by (same_entity l.entity (Some n)) e (passed_over ls more n)
  where
    by : (b : Bool) → (if b then Some l.way else way_in ls (Some n)) ≡ None → (way_in ls (Some n) ≡ None → way_in (ls ++ more) (Some n) ≡ way_in more (Some n))
        → (if b then Some l.way else way_in (ls ++ more) (Some n)) ≡ way_in more (Some n)
    by true f rest = cc
    by false f rest = rest f

-- that of a view of another number
one_absent : (x m n : ℕ) (s : ViewSite) (shape : Option Shape) (o : Option Way) → s.name.entity ≡ Some m → (m < n) ⊎ (n < m) → way_in (led_of x s shape o) (Some n) ≡ None
one_absent x m n s None o is d = refl
one_absent x m n s (Some shape) o is d = ap (λ b. if b then Some (way_behind x s (map_of s.form shape) o) else None) (absent m n s.name.entity is d)

-- views behind have higher numbers
abbrev pub AllFrom : ℕ → List ViewSite → Type 0
AllFrom k [] = Unit {0}
AllFrom k (s ∷ ss) = ((n : ℕ) × ((s.name.entity ≡ Some n) × (k ≤ n))) × AllFrom k ss

from_stand : (low high : ℕ) (ss : List ViewSite) → AllStand low high ss → AllFrom low ss
from_stand low high [] a = tt
from_stand low high (s ∷ ss) a = ((a.0.0, (a.0.1.0, a.0.1.1.0)), from_stand low high ss a.1)

from_less : (j k : ℕ) → j ≤ k → (ss : List ViewSite) → AllFrom k ss → AllFrom j ss
from_less j k l [] a = tt
from_less j k l (s ∷ ss) a = let y = a.0.1.1 in ((a.0.0, (a.0.1.0, omega (arith, l, y))), from_less j k l ss a.1)

from_both : (k : ℕ) (ss more : List ViewSite) → AllFrom k ss → AllFrom k more → AllFrom k (ss ++ more)
from_both k [] more a b = b
from_both k (s ∷ ss) more a b = (a.0, from_both k ss more a.1 b)

pub later_kept : (ms : List Memory) (x : ℕ) (before : List Led) (ss : List ViewSite) (k n : ℕ) → AllFrom k ss → n < k → way_in (led_behind ms x before ss) (Some n) ≡ way_in before (Some n)
later_kept ms x before [] k n a l = refl
later_kept ms x before (s ∷ ss) k n a l =
    let low = a.0.1.1 in
    later_kept ms (behind_hidden x s) (before ++ led_after ms x before s) ss k n a.1 l
    ∙ found_first before (led_after ms x before s) n
    (one_absent x a.0.0 n s (shape_named (memory_in ms s.parent.entity) (way_in before s.parent.entity)) (way_at ms before s.parent.entity) a.0.1.0 (inr (omega (arith, low, l))))

pub one_below : (x n k : ℕ) (s : ViewSite) (shape : Option Shape) (o : Option Way) → s.name.entity ≡ Some n → n < k → AllLedBelow k (led_of x s shape o)
one_below x n k s None o is l = tt
one_below x n k s (Some shape) o is l = ((n, (is, l)), tt)

pub led_below : (ms : List Memory) (x : ℕ) (before : List Led) (ss : List ViewSite) (low k : ℕ) → AllLedBelow k before → AllStand low k ss → AllLedBelow k (led_behind ms x before ss)
led_below ms x before [] low k a b = a
led_below ms x before (s ∷ ss) low k a b =
    led_below ms (behind_hidden x s) (before ++ led_after ms x before s) ss low k
    (led_both_below k before (led_after ms x before s) a
    (one_below x b.0.0 k s (shape_named (memory_in ms s.parent.entity) (way_in before s.parent.entity)) (way_at ms before s.parent.entity) b.0.1.0 b.0.1.1.1)) b.1

-- hidden variables of what is found
pub way_hidden : (P : Hidden → Type 0) (ls : List Led) (e : Option ℕ) → AllByRecursion (λ (l : Led). AllByRecursion P l.way.hidden) ls → AllByRecursion P (hidden_in (way_in ls e))
way_hidden P [] e a = tt
way_hidden P (l ∷ ls) e a = by (same_entity l.entity e) (way_hidden P ls e a.1)
  where
    by : (b : Bool) → AllByRecursion P (hidden_in (way_in ls e)) → AllByRecursion P (hidden_in (if b then Some l.way else way_in ls e))
    by true rest = a.0
    by false rest = rest

pub unless_hidden : (P : Hidden → Type 0) (m : Option Memory) (o : Option Way) → AllByRecursion P (hidden_in o) → AllByRecursion P (hidden_in (way_unless m o))
unless_hidden P (Some m) o a = tt
unless_hidden P None o a = a

module _ (low : ℕ) where
  within_below : (x : ℕ) (ls : List Led) → AllWithin low x ls → AllByRecursion (λ (l : Led). AllByRecursion (λ (h : Hidden). h.entity < x) l.way.hidden) ls
  within_below x [] a = tt
  within_below x (l ∷ ls) a = (a.0.below, within_below x ls a.1)

-- What is visible.

abbrev VisibleBelow : ℕ → List ScopeEntry → Type 0
VisibleBelow k bs = (name : List ℕ) (n : ℕ) → entity_of bs name ≡ Some n → n < k

visible_more : (j k : ℕ) (bs : List ScopeEntry) → j ≤ k → VisibleBelow j bs → VisibleBelow k bs
visible_more j k bs l v name n e = let b = v name n e in omega (arith, l, b)

bind_below : (k : ℕ) (bs : List ScopeEntry) (name : List ℕ) (m : ℕ) → VisibleBelow k bs → m < k → VisibleBelow k (bind bs name m)
bind_below k bs name m v l other n e = either (is_visible bs name) e
  where
    either : (b : Bool) → entity_of (if b then bs else bs ++ binding name m ∷ []) other ≡ Some n → n < k
    either true f = v other n f
    either false f = elim (added_found bs name other m n f) [ inl g ↦ v other n g | inr g ↦ subst (λ (y : ℕ). y < k) g l ]

declare_below : (s : Scope) (r : Ref) (k : Sort) → VisibleBelow (size s) s.visible → VisibleBelow (size (declare s r k)) (declare s r k).visible
declare_below s r k v =
    let long = declared_long s r k in
    bind_below (size (declare s r k)) s.visible r.name (size s) (visible_more (size s) (size (declare s r k)) s.visible (omega (arith, long)) v) (omega (arith, long))

past_below : (s : Scope) (a : Action) (k : ℕ) → VisibleBelow k s.visible → VisibleBelow k (at_end s a).visible → VisibleBelow k (past s a (at_end s a)).visible
past_below s (action id place (blocks body)) k h i = h
past_below s (action id place (lets name declared value)) k h i = i
past_below s (action id place (lets_memory name shape shape_places value)) k h i = i
past_below s (action id place (views name parent form)) k h i = i
past_below s (action id place (assigns target value)) k h i = i
past_below s (action id place (stores target value)) k h i = i
past_below s (action id place (reduces target o value)) k h i = i
past_below s (action id place (calls function arguments)) k h i = i
past_below s (action id place (decides test chosen other)) k h i = i
past_below s (action id place (repeats test body)) k h i = i
past_below s (action id place (counts iterator declared low high factor body combine combine_place)) k h i = i

items_visible : (k : ℕ) (bs : List ScopeEntry) (items : List Item) → ItemsBelow k items → VisibleBelow k bs → VisibleBelow k (after_items bs items)
items_visible k bs [] h v = v
items_visible k bs (i ∷ is) h v = items_visible k (bind bs i.name.name i.entity) is h.1 (bind_below k bs i.name.name i.entity v h.0)

-- Expressions.
module _ (p : Program) (x : ℕ) (bs : List ScopeEntry) (h : (name : List ℕ) (n : ℕ) → entity_of bs name ≡ Some n → (n < length p.entities) × WayBelow p x (Some n)) where
  own_name : (r : Ref) → entity_of bs r.name ≡ r.entity → unknown bs r ≡ [] → IsOwn p r
  own_name r e u = let w = used_stands bs r e u in (w.0, (w.1, (h r.name w.0 (e ∙ w.1)).0))

  own_way : (r : Ref) → entity_of bs r.name ≡ r.entity → unknown bs r ≡ [] → WayBelow p x r.entity
  own_way r e u = let w = used_stands bs r e u in subst (λ (o : Option ℕ). WayBelow p x o) (sym w.1) (h r.name w.0 (e ∙ w.1)).1

  mutual
    term_behind : (t : Term) → resolved_term bs t ≡ t → term_breaches bs t ≡ [] → TermBehind p x t
    term_behind (term place k f) e b = let same : resolved_term_form bs f ≡ f = cc in form_behind f same b

    form_behind : (f : TermForm) → resolved_term_form bs f ≡ f → term_form_breaches bs f ≡ [] → TermFormBehind p x f
    form_behind (number negative y) e b = tt
    form_behind (truth_value y) e b = tt
    form_behind (named r) e b = let same : entity_of bs r.name ≡ r.entity = cc in own_name r same b
    form_behind (accessed r ts) e b =
        let same : entity_of bs r.name ≡ r.entity = cc in
        let rest : resolved_terms bs ts ≡ ts = cc in
        (own_way r same (first_none (unknown bs r) _ b), terms_behind ts rest (second_none (unknown bs r) _ b))
    form_behind (in_bank r bank at t) e b =
        let same : entity_of bs r.name ≡ r.entity = cc in
        let rest : resolved_term bs t ≡ t = cc in
        (own_way r same (first_none (unknown bs r) _ b), term_behind t rest (second_none (unknown bs r) _ b))
    form_behind (applied o l r) e b =
        let first : resolved_term bs l ≡ l = cc in
        let second : resolved_term bs r ≡ r = cc in
        (term_behind l first (first_none (term_breaches bs l) _ b), term_behind r second (second_none (term_breaches bs l) _ b))
    form_behind (converted t to) e b = let same : resolved_term bs t ≡ t = cc in term_behind t same b

    terms_behind : (ts : Terms) → resolved_terms bs ts ≡ ts → terms_breaches bs ts ≡ [] → TermsBehind p x ts
    terms_behind no_terms e b = tt
    terms_behind (term_then t ts) e b =
        let first : resolved_term bs t ≡ t = cc in
        let second : resolved_terms bs ts ≡ ts = cc in
        (term_behind t first (first_none (term_breaches bs t) _ b), terms_behind ts second (second_none (term_breaches bs t) _ b))

  value_behind : (v : Option Term) → option_map (resolved_term bs) v ≡ v → maybe_value_breaches bs v ≡ [] → MaybeBehind p x v
  value_behind None e b = tt
  value_behind (Some t) e b = let same : resolved_term bs t ≡ t = cc in term_behind t same b

-- Commands.

-- a view's way begins with its own offsets
way_keeps : (p : Program) (x d : ℕ) (s : ViewSite) (v : ViewMap) (o : Option Way) → AllByRecursion (λ (h : Hidden). h.entity < x) (hidden_in o) → s.depth ≡ d → KeepsFrom p d x s.form (way_behind x s v o)
way_keeps p x d s v None a e = record { rest = []; is = ap (λ n. hidden_from x n (offsets_of s.form)) e ∙ sym (append-nil (hidden_from x d (offsets_of s.form))); below = tt }
way_keeps p x d s v (Some w) a e = record { rest = w.hidden; is = ap (λ n. hidden_from x n (offsets_of s.form) ++ w.hidden) e; below = a }

some_same : (a b : Way) → Some a ≡ Some b → a ≡ b
some_same a b g = ap or g
  where
    or : Option Way → Way
    or None = a
    or (Some z) = z

unless_some : (m : Option Memory) (o : Option Way) (w : Way) → way_unless m o ≡ Some w → o ≡ Some w
unless_some (Some m) o w e = cc
unless_some None o w e = e

module _ (p : Program) where
  abbrev ms : List Memory
  ms = memories_of p

  abbrev ground : ℕ
  ground = length p.entities

  -- the ways of the program are those so far, and those of views of a command from this point on up to a number of
  -- entities, and of views behind it
  pub record At (s : Scope) (high x : ℕ) (before : List Led) (ss rest : List ViewSite) : Type 0 where
    pub all : ways_of p ≡ led_behind ms x before (ss ++ rest)
    pub least : ground ≤ x
    pub named : AllLedBelow (size s) before
    pub within : AllWithin ground x before
    pub own : AllStand (size s) high ss
    pub later : AllFrom high rest
    pub visible : VisibleBelow (size s) s.visible
    pub long : size s ≤ high
    pub small : high ≤ ground

  names_at : (s : Scope) (high x : ℕ) (before : List Led) (ss rest : List ViewSite) → At s high x before ss rest → (name : List ℕ) (n : ℕ) → entity_of s.visible name ≡ Some n → (n < ground) × WayBelow p x (Some n)
  names_at s high x before ss rest c name n e =
      let l = c.visible name n e in
      let m = c.long in
      let k = c.small in
      let from = from_both (size s) ss rest (from_stand (size s) high ss c.own) (from_less (size s) high c.long rest c.later) in
      let way : way_in (ways_of p) (Some n) ≡ way_in before (Some n) = ap (λ ls. way_in ls (Some n)) c.all ∙ later_kept ms x before (ss ++ rest) (size s) n from l in (
        omega (arith, l, m, k),
        unless_hidden (λ h. h.entity < x) (memory_in ms (Some n)) (way_in (ways_of p) (Some n))
            (subst (λ (o : Option Way). AllByRecursion (λ (h : Hidden). h.entity < x) (hidden_in o)) (sym way) (way_hidden (λ h. h.entity < x) before (Some n) (within_below ground x before c.within))),
      )

  -- another point in front of the same views
  at_point : (s t : Scope) (high x : ℕ) (before : List Led) (ss rest : List ViewSite) → At s high x before ss rest → size s ≤ size t → AllStand (size t) high ss → VisibleBelow (size t) t.visible → size t ≤ high → At t high x before ss rest
  at_point s t high x before ss rest c l own visible long = record {
    all = c.all;
    least = c.least;
    named = led_more (size s) (size t) l before c.named;
    within = c.within;
    own = own;
    later = c.later;
    visible = visible;
    long = long;
    small = c.small;
  }

  at_first : (s : Scope) (mid high x : ℕ) (before : List Led) (ss ts rest : List ViewSite) → At s high x before (ss ++ ts) rest → size s ≤ mid → mid ≤ high → AllStand (size s) mid ss → AllStand mid high ts
      → At s mid x before ss (ts ++ rest)
  at_first s mid high x before ss ts rest c l m own more = record {
    all = c.all ∙ ap (λ qs. led_behind ms x before qs) (append_assoc ss ts rest);
    least = c.least;
    named = c.named;
    within = c.within;
    own = own;
    later = from_both mid ts rest (from_stand mid high ts more) (from_less mid high m rest c.later);
    visible = c.visible;
    long = l;
    small = (let k = c.small in omega (arith, m, k));
  }

  further : (y : ℕ) (qs : List ViewSite) → ground ≤ y → ground ≤ behind_all y qs
  further y [] g = g
  further y (q ∷ qs) g = further (behind_hidden y q) qs (omega (arith, g))

  at_second : (s t : Scope) (high x : ℕ) (before : List Led) (ss ts rest : List ViewSite) → At s high x before (ss ++ ts) rest → size s ≤ size t → size t ≤ high → AllStand (size s) (size t) ss → AllStand (size t) high ts
      → VisibleBelow (size t) t.visible → At t high (behind_all x ss) (led_behind ms x before ss) ts rest
  at_second s t high x before ss ts rest c l m own more visible = record {
    all = c.all ∙ (ap (λ qs. led_behind ms x before qs) (append_assoc ss ts rest) ∙ led_both ms x before ss (ts ++ rest));
    least = further x ss c.least;
    named = led_below ms x before ss (size s) (size t) (led_more (size s) (size t) l before c.named) own;
    within = all_within ground ms x before ss c.least c.within;
    own = more;
    later = c.later;
    visible = visible;
    long = m;
    small = c.small;
  }

  -- a view, where it is declared
  view_kept : (s : ViewSite) (d n high x : ℕ) (before : List Led) (rest : List ViewSite) → s.name.entity ≡ Some n → s.depth ≡ d → ways_of p ≡ led_behind ms x before (s ∷ rest) → AllLedBelow n before → AllWithin ground x before
      → AllFrom high rest → n < high → (w : Way) → way_to p s.name.entity ≡ Some w → KeepsFrom p d x s.form w
  view_kept s d n high x before rest is depth all lower within later l w e =
      by (shape_named (memory_in ms s.parent.entity) (way_in before s.parent.entity))
      (sym (passed_over before (led_after ms x before s) n (not_below n before lower))
      ∙ (sym (ap (λ ls. way_in ls (Some n)) all ∙ later_kept ms (behind_hidden x s) (before ++ led_after ms x before s) rest high n later l)
      ∙ unless_some (memory_in ms (Some n)) (way_in (ways_of p) (Some n)) w (ap (λ o. way_to p o) (sym is) ∙ e)))
    where
      parent_below : AllByRecursion (λ (h : Hidden). h.entity < x) (hidden_in (way_at ms before s.parent.entity))
      parent_below =
          unless_hidden (λ h. h.entity < x) (memory_in ms s.parent.entity) (way_in before s.parent.entity)
          (way_hidden (λ h. h.entity < x) before s.parent.entity (within_below ground x before within))

      by : (shape : Option Shape) → way_in (led_of x s shape (way_at ms before s.parent.entity)) (Some n) ≡ Some w → KeepsFrom p d x s.form w
      by None f = absurd cc
      by (Some shape) f =
          let way = way_behind x s (map_of s.form shape) (way_at ms before s.parent.entity) in
          let own : Some way ≡ Some w = sym (ap (λ b. if b then Some way else None) (ap (λ o. same_entity o (Some n)) is ∙ there n)) ∙ f in
          subst (λ (y : Way). KeepsFrom p d x s.form y) (some_same way w own) (way_keeps p x d s (map_of s.form shape) (way_at ms before s.parent.entity) parent_below depth)

  mutual
    pub behind : (a : Action) (s : Scope) (d x : ℕ) (before : List Led) (rest : List ViewSite) → resolved_action s a ≡ a → breaches s a ≡ [] → At s (size (at_end s a)) x before (standings d a) rest
        → ActionBehind p d x a × VisibleBelow (size (at_end s a)) (at_end s a).visible
    behind (action id place form) s d x before rest e b c = let same : resolved_form s form ≡ form = cc in command_behind form s d x before rest same b c

    command_behind : (f : ActionForm) (s : Scope) (d x : ℕ) (before : List Led) (rest : List ViewSite) → resolved_form s f ≡ f → form_breaches s f ≡ [] → At s (size (form_at_end s f)) x before (form_standings d f) rest
        → FormBehind p d x f × VisibleBelow (size (form_at_end s f)) (form_at_end s f).visible
    command_behind (lets name declared value) s d x before rest e b c =
        let own : Some (size s) ≡ name.entity = cc in
        let right : option_map (resolved_term s.visible) value ≡ value = cc in
        let long = declared_long s name sort.Variable in
        let small = c.small in (
          ((size s, (sym own, omega (arith, long, small))), value_behind p x s.visible (names_at s (size (declare s name sort.Variable)) x before [] rest c) value right (first_none (maybe_value_breaches s.visible value) _ b)),
          declare_below s name sort.Variable c.visible,
        )
    command_behind (lets_memory name shape shape_places value) s d x before rest e b c = (tt, declare_below s name sort.Memory c.visible)
    command_behind (views name parent form) s d x before rest e b c =
        let own : Some (size s) ≡ name.entity = cc in
        let plan : resolved_plan s.visible form ≡ form = cc in
        let long = declared_long s name sort.View in
        let one : ViewSite = record { name = name; parent = parent; form = form; depth = d } in (
          (
            view_kept one d (size s) (size (declare s name sort.View)) x before rest (sym own) refl c.all c.named c.within c.later (omega (arith, long)),
            terms_behind p x s.visible (names_at s (size (declare s name sort.View)) x before (one ∷ []) rest c) (terms (offsets_of form)) (offsets_named s.visible form plan)
                (offsets_visible s.visible form ∙ first_none (plan_name_breaches s.visible form) _ (second_none (unknown s.visible parent) _ b)),
          ),
          declare_below s name sort.View c.visible,
        )
    command_behind (assigns target value) s d x before rest e b c =
        let left : entity_of s.visible target.name ≡ target.entity = cc in
        let right : resolved_term s.visible value ≡ value = cc in
        let h = names_at s (size s) x before [] rest c in
        ((own_name p x s.visible h target left (first_none (unknown s.visible target) _ b), term_behind p x s.visible h value right (second_none (unknown s.visible target) _ b)), c.visible)
    command_behind (stores target value) s d x before rest e b c =
        let left : resolved_term s.visible target ≡ target = cc in
        let right : resolved_term s.visible value ≡ value = cc in
        let h = names_at s (size s) x before [] rest c in
        ((term_behind p x s.visible h target left (first_none (term_breaches s.visible target) _ b), term_behind p x s.visible h value right (second_none (term_breaches s.visible target) _ b)), c.visible)
    command_behind (reduces target o value) s d x before rest e b c =
        let left : entity_of s.visible target.name ≡ target.entity = cc in
        let right : resolved_term s.visible value ≡ value = cc in
        let h = names_at s (size s) x before [] rest c in
        ((own_name p x s.visible h target left (first_none (unknown s.visible target) _ b), term_behind p x s.visible h value right (second_none (unknown s.visible target) _ b)), c.visible)
    command_behind (calls function arguments) s d x before rest e b c = (tt, c.visible)
    command_behind (blocks body) s d x before rest e b c = groups_behind body s d x before rest (let f = e in cc) b c
    command_behind (decides test chosen other) s d x before rest e b c =
        let inner : Scope = leave s (at_end s chosen) in
        let same : resolved_term s.visible test ≡ test = cc in
        let first : resolved_action s chosen ≡ chosen = cc in
        let second : resolved_other inner other ≡ other = cc in
        let below = second_none (term_breaches s.visible test) _ b in
        let high = size (other_at_end inner other) in
        let l = on_long _ _ (goes_on chosen s) in
        let m = on_long _ _ (other_on other inner) in
        let one = stand_within chosen s d first in
        let two = other_stands other inner d second in
        let y = behind chosen s d x before (other_standings d other ++ rest) first (first_none (breaches s chosen) _ below)
        (at_first s (size (at_end s chosen)) high x before (standings d chosen) (other_standings d other) rest c l m one two) in
        let z = other_behind other inner d (behind_all x (standings d chosen)) (led_behind ms x before (standings d chosen)) rest second (second_none (breaches s chosen) _ below)
        (at_second s inner high x before (standings d chosen) (other_standings d other) rest c l m one two (visible_more (size s) (size inner) s.visible l c.visible)) in (
          (
            term_behind p x s.visible (names_at s high x before (standings d chosen ++ other_standings d other) rest c) test same (first_none (term_breaches s.visible test) _ b),
            (y.0, z.0),
          ),
          visible_more (size s) high s.visible (omega (arith, l, m)) c.visible,
        )
    command_behind (repeats test body) s d x before rest e b c =
        let same : resolved_term s.visible test ≡ test = cc in
        let inside : resolved_action s body ≡ body = cc in
        let y = behind body s d x before rest inside (second_none (term_breaches s.visible test) _ b) (at_point s s (size (at_end s body)) x before (standings d body) rest c (omega arith) c.own c.visible c.long) in (
          (term_behind p x s.visible (names_at s (size (at_end s body)) x before (standings d body) rest c) test same (first_none (term_breaches s.visible test) _ b), y.0),
          visible_more (size s) (size (at_end s body)) s.visible c.long c.visible,
        )
    command_behind (counts iterator declared low high factor body combine combine_place) s d x before rest e b c =
        let inner : Scope = declare s iterator Iterator in
        let own : Some (size s) ≡ iterator.entity = cc in
        let first : resolved_action inner body ≡ body = cc in
        let second : resolved_other (at_end inner body) combine ≡ combine = cc in
        let below = second_none (twice s.visible iterator) _ b in
        let di : ℕ = depth_inside d factor.value in
        let end = size (other_at_end (at_end inner body) combine) in
        let long = declared_long s iterator Iterator in
        let l = on_long _ _ (goes_on body inner) in
        let m = on_long _ _ (other_on combine (at_end inner body)) in
        let one = stand_within body inner di first in
        let two = other_stands combine (at_end inner body) di second in
        let small = c.small in
        let here = at_point s inner end x before (standings di body ++ other_standings di combine) rest c (omega (arith, long)) (two_stand (size inner) (size (at_end inner body)) end (standings di body) (other_standings di combine) l m one two)
        (declare_below s iterator Iterator c.visible) (omega (arith, l, m)) in
        let y = behind body inner di x before (other_standings di combine ++ rest) first (first_none (breaches inner body) _ below)
        (at_first inner (size (at_end inner body)) end x before (standings di body) (other_standings di combine) rest here l m one two) in
        let z = other_behind combine (at_end inner body) di (behind_all x (standings di body)) (led_behind ms x before (standings di body)) rest second (second_none (breaches inner body) _ below)
        (at_second inner (at_end inner body) end x before (standings di body) (other_standings di combine) rest here l m one two y.1) in (
          ((size s, (sym own, omega (arith, long, l, m, small))), (y.0, z.0)),
          visible_more (size s) end s.visible c.long c.visible,
        )

    other_behind : (o : MaybeAction) (s : Scope) (d x : ℕ) (before : List Led) (rest : List ViewSite) → resolved_other s o ≡ o → other_breaches s o ≡ [] → At s (size (other_at_end s o)) x before (other_standings d o) rest
        → OtherBehind p d x o × VisibleBelow (size (other_at_end s o)) (other_at_end s o).visible
    other_behind no_action s d x before rest e b c = (tt, c.visible)
    other_behind (one_action a) s d x before rest e b c = let same : resolved_action s a ≡ a = cc in behind a s d x before rest same b c

    part_behind : (part : Actions) (s : Scope) (d x : ℕ) (before : List Led) (rest : List ViewSite) → resolved_actions s part ≡ part → actions_breaches s part ≡ [] → At s (size (actions_at_end s part)) x before (part_standings d part) rest
        → PartBehind p d x part × VisibleBelow (size (actions_at_end s part)) (actions_at_end s part).visible
    part_behind no_actions s d x before rest e b c = (tt, c.visible)
    part_behind (action_then a more) s d x before rest e b c =
        let after : Scope = past s a (at_end s a) in
        let first : resolved_action s a ≡ a = cc in
        let second : resolved_actions after more ≡ more = cc in
        let same = ap length (past_on s (at_end s a) a) in
        let high = size (actions_at_end after more) in
        let l = on_long _ _ (goes_on a s) in
        let m = on_long _ _ (part_on more after) in
        let one = stand_within a s d first in
        let two = part_stand more after d second in
        let y = behind a s d x before (part_standings d more ++ rest) first (first_none (breaches s a) _ b)
        (at_first s (size (at_end s a)) high x before (standings d a) (part_standings d more) rest c l (omega (arith, m, same)) one (wider (size after) high (size (at_end s a)) high (omega (arith, same)) (omega arith) (part_standings d more) two)) in
        let z = part_behind more after d (behind_all x (standings d a)) (led_behind ms x before (standings d a)) rest second (second_none (breaches s a) _ b)
        (at_second s after high x before (standings d a) (part_standings d more) rest c (omega (arith, l, same)) m (wider (size s) (size (at_end s a)) (size s) (size after) (omega arith) (omega (arith, same)) (standings d a) one) two
        (past_below s a (size after) (visible_more (size s) (size after) s.visible (omega (arith, l, same)) c.visible) (visible_more (size (at_end s a)) (size after) (at_end s a).visible (omega (arith, same)) y.1))) in
        ((y.0, z.0), z.1)

    groups_behind : (gs : Groups) (s : Scope) (d x : ℕ) (before : List Led) (rest : List ViewSite) → resolved_groups s gs ≡ gs → groups_breaches s gs ≡ [] → At s (size (groups_at_end s gs)) x before (groups_standings d gs) rest
        → GroupsBehind p d x gs × VisibleBelow (size (groups_at_end s gs)) (groups_at_end s gs).visible
    groups_behind no_groups s d x before rest e b c = (tt, c.visible)
    groups_behind (group_then g more) s d x before rest e b c =
        let after : Scope = actions_at_end s g in
        let first : resolved_actions s g ≡ g = cc in
        let second : resolved_groups after more ≡ more = cc in
        let high = size (groups_at_end after more) in
        let l = on_long _ _ (part_on g s) in
        let m = on_long _ _ (groups_on more after) in
        let one = part_stand g s d first in
        let two = groups_stand more after d second in
        let y = part_behind g s d x before (groups_standings d more ++ rest) first (first_none (actions_breaches s g) _ b)
        (at_first s (size after) high x before (part_standings d g) (groups_standings d more) rest c l m one two) in
        let z = groups_behind more after d (behind_all x (part_standings d g)) (led_behind ms x before (part_standings d g)) rest second (second_none (actions_breaches s g) _ b)
        (at_second s after high x before (part_standings d g) (groups_standings d more) rest c l m one two y.1) in
        ((y.0, z.0), z.1)

-- so do all commands of a ready program
pub stands_behind : (p : Program) → IsReady p → StandsBehindViews p
stands_behind p r =
    let same : resolved_action (body_scope p) p.body ≡ p.body = ap (λ (x : Program). x.body) r.entities in
    let all : length (last_scope p).entities ≡ length p.entities = ap (λ (x : Program). length x.entities) r.entities in
    let own = stand_within p.body (body_scope p) 0 same in
    let long = on_long _ _ (goes_on p.body (body_scope p)) in
    (behind p p.body (body_scope p) 0 (length p.entities) [] [] same
    (second_none (functions_breaches (length p.decls) (first_scope p) p.functions) _ (second_none (items_breaches [] (items_of p)) _ r.names))
    (record {
      all = ap (λ ss. led_behind (memories_of p) (length p.entities) [] ss) (sym (append-nil (standings 0 p.body)));
      least = omega arith;
      named = tt;
      within = tt;
      own = own;
      later = tt;
      visible = items_visible (size (body_scope p)) [] (items_of p) (items_below p) (λ name n e. absurd cc);
      long = long;
      small = omega (arith, all);
    })).0
