-- What a walk over a form does, from what its steps do.
use Rattle.std.proofs.Common.{◌≡◌, ℕ, ◌+◌, ◌≤◌, ◌^◌, true, false, List, ◌++◌, length, map, take, Option, option_map, refl, sym, ap, subst, ◌∙◌, arith}
use Rattle.std.proofs.Math.Seq.{take-append_seam}
use Rattle.dh_value.specs.declared.kinds.Kind.{Kind}
use Rattle.dh_value.specs.declared.operators.Op.{Op}
use Rattle.dh_base.specs.declared.places.Place.{Place}
use Rattle.dh_tree.specs.declared.tables.Shape.{Shape}
use Rattle.dh_tree.specs.declared.breaches.Breach.{Breach}
use Rattle.dh_tree.specs.declared.trees.expressions.Ref.{Ref}
use Rattle.dh_tree.specs.declared.trees.programs.ShapePlaces.{ShapePlaces}
use Rattle.dh_tree.specs.declared.trees.programs.Sort.TheVariants.{Variable, Iterator, Memory, View}
use Rattle.dh_tree.specs.PlainTrees.{Term, ViewPlan, Placed, Unrolled, Action, action, ActionForm, lets, lets_memory, views, assigns, stores, reduces, calls, blocks, decides, repeats, counts, MaybeAction, Groups}
use Rattle.dh_tree.specs.declared.trees.expressions.Expr.{Expr}
use Rattle.dh_tree.specs.declared.trees.programs.Sort.{Sort}
use Rattle.dh_tree.specs.declared.trees.commands.Command.{Command}
use Rattle.dh_tree.specs.declared.trees.commands.LoopHeader.{LoopHeader}
use Rattle.dh_tree.specs.declared.trees.commands.Sides.{Sides}
use Rattle.dh_tree.specs.declared.trees.commands.ViewForm.{ViewForm}
use Rattle.dh_tree.specs.Seen.{term_seen, view_plan, sides_seen, action_seen, low_seen, high_seen, unroll_seen, counts_seen}
use Rattle.dh_tree.specs.LeastBreach.{least_of}
use Rattle.dh_tree.specs.Scopes.{ScopeEntry, Scope, declare, leave, past, at_end, form_at_end, other_at_end}
use Rattle.dh_tree.specs.Breaches.{unknown, twice, term_breaches, list_breaches, maybe_value_breaches, plan_name_breaches, breaches, form_breaches, other_breaches}
use Rattle.dh_tree.specs.Resolved.{used, declares, resolved_term, resolved_plan, resolved_action, resolved_other}
use Rattle.dh_tree.specs.NameCounts.{declared_in, declared_in_form, declared_in_other, declared_in_groups}
use Rattle.dh_names.specs.Walks.{NamingState, walked, cut_to_own_names, HasRoomToDeclare, with_iterator, Resolves, ResolvesForm, ResolvesOther, ResolvesInner, ResolvesNext, ResolvesGroups, is_blocks}
use Rattle.dh_tree.proofs.Leasts.{least_append}
use Rattle.dh_names.proofs.Extended.{Further, further, other_further, declare_further, onward, counted, declare_counted}

-- two steps, one after the other
pub next_step : (s0 s1 s2 : NamingState) (xs : List Breach) (p : Scope) (ys : NamingState → List Breach) (t : NamingState → Scope) → s1 ≡ walked s0 xs p → s2 ≡ walked s1 (ys s1) (t s1)
    → s2 ≡ walked s0 (xs ++ ys (walked s0 xs p)) (t (walked s0 xs p))
next_step s0 s1 s2 xs p ys t one two =
    two ∙ ap (λ s. walked s (ys s) (t s)) one
    ∙ ap (λ l. record { outer = s0.outer; scope = t (walked s0 xs p); least = l }) (sym (least_append s0.least xs (ys (walked s0 xs p))))

pub room_at : (s0 s1 : NamingState) (xs : List Breach) (t : Scope) (n : ℕ) → s1 ≡ walked s0 xs t → length t.entities + n ≤ 2 ^ 32 → HasRoomToDeclare s1 n
room_at s0 s1 xs t n is room = subst (λ s. HasRoomToDeclare s n) (sym is) room

-- a scope's own names are taken out where it ends
pub cut_is : (s s' : NamingState) (xs : List Breach) (t : Scope) (n : ℕ) → s' ≡ walked s xs t → length s.outer + n ≡ length s.scope.visible → Further s.scope.visible t.visible
    → cut_to_own_names s' n ≡ walked s xs (leave s.scope t)
cut_is s s' xs t n is own more =
    let kept : take (length s.outer + n) t.visible ≡ s.scope.visible =
    ap (λ k. take k t.visible) own ∙ ap (λ l. take (length s.scope.visible) l) more.1 ∙ take-append_seam s.scope.visible more.0 in
    ap (λ x. cut_to_own_names x n) is ∙ ap (λ l. record { outer = s.outer; scope = record { visible = l; entities = t.entities }; least = least_of s.least xs }) kept

pub form_done : (s s' : NamingState) (a a' b b' : ActionForm) → a ≡ a' → b ≡ b' → (HasRoomToDeclare s (declared_in_form a') → ResolvesForm s s' a' b') → HasRoomToDeclare s (declared_in_form a) → ResolvesForm s s' a b
form_done s s' a a' b b' p q done room =
    subst (λ x. ResolvesForm s s' x b) (sym p) (subst (λ y. ResolvesForm s s' a' y) (sym q) (done (subst (λ x. HasRoomToDeclare s (declared_in_form x)) p room)))

pub lets_done : (s0 s1 s2 : NamingState) (name name' : Ref) (k : Option Kind) (v v' : Option Term)
    → v' ≡ option_map (resolved_term s0.scope.visible) v → s1 ≡ walked s0 (maybe_value_breaches s0.scope.visible v) s0.scope
    → (HasRoomToDeclare s1 1 → name' ≡ declares s1.scope name) → (HasRoomToDeclare s1 1 → s2 ≡ walked s1 (twice s1.scope.visible name) (declare s1.scope name Variable))
    → HasRoomToDeclare s0 1 → ResolvesForm s0 s2 (lets name k v) (lets name' k v')
lets_done s0 s1 s2 name name' k v v' value one number two room =
    let r = room_at s0 s1 (maybe_value_breaches s0.scope.visible v) s0.scope 1 one room in
    record {
      tree = ap (λ n. lets n k v') (number r ∙ ap (λ s. declares s.scope name) one) ∙ ap (λ w. lets (declares s0.scope name) k w) value;
      state = next_step s0 s1 s2 (maybe_value_breaches s0.scope.visible v) s0.scope (λ s. twice s.scope.visible name) (λ s. declare s.scope name Variable) one (two r);
    }

pub memory_done : (s0 s1 s2 : NamingState) (name name' : Ref) (shape : Shape) (places : ShapePlaces) (v v' : Option Term)
    → v' ≡ option_map (resolved_term s0.scope.visible) v → s1 ≡ walked s0 (maybe_value_breaches s0.scope.visible v) s0.scope
    → (HasRoomToDeclare s1 1 → name' ≡ declares s1.scope name) → (HasRoomToDeclare s1 1 → s2 ≡ walked s1 (twice s1.scope.visible name) (declare s1.scope name Memory))
    → HasRoomToDeclare s0 1 → ResolvesForm s0 s2 (lets_memory name shape places v) (lets_memory name' shape places v')
memory_done s0 s1 s2 name name' shape places v v' value one number two room =
    let r = room_at s0 s1 (maybe_value_breaches s0.scope.visible v) s0.scope 1 one room in
    record {
      tree = ap (λ n. lets_memory n shape places v') (number r ∙ ap (λ s. declares s.scope name) one) ∙ ap (λ w. lets_memory (declares s0.scope name) shape places w) value;
      state = next_step s0 s1 s2 (maybe_value_breaches s0.scope.visible v) s0.scope (λ s. twice s.scope.visible name) (λ s. declare s.scope name Memory) one (two r);
    }

pub views_done : (s0 s1 s2 s3 : NamingState) (name name' parent parent' : Ref) (f f' : ViewPlan)
    → parent' ≡ used s0.scope.visible parent → s1 ≡ walked s0 (unknown s0.scope.visible parent) s0.scope
    → f' ≡ resolved_plan s1.scope.visible f → s2 ≡ walked s1 (plan_name_breaches s1.scope.visible f) s1.scope
    → (HasRoomToDeclare s2 1 → name' ≡ declares s2.scope name) → (HasRoomToDeclare s2 1 → s3 ≡ walked s2 (twice s2.scope.visible name) (declare s2.scope name View))
    → HasRoomToDeclare s0 1 → ResolvesForm s0 s3 (views name parent f) (views name' parent' f')
views_done s0 s1 s2 s3 name name' parent parent' f f' use_is one plan two number three room =
    let r1 = room_at s0 s1 (unknown s0.scope.visible parent) s0.scope 1 one room in
    let r2 = room_at s1 s2 (plan_name_breaches s1.scope.visible f) s1.scope 1 two r1 in
    let same : s2.scope ≡ s0.scope = ap (λ s. s.scope) two ∙ ap (λ s. s.scope) one in
    record {
      tree = ap (λ n. views n parent' f') (number r2 ∙ ap (λ s. declares s name) same)
          ∙ ap (λ p. views (declares s0.scope name) p f') use_is
          ∙ ap (λ g. views (declares s0.scope name) (used s0.scope.visible parent) g) (plan ∙ ap (λ s. resolved_plan s.scope.visible f) one);
      state = next_step s0 s1 s3 (unknown s0.scope.visible parent) s0.scope (λ s. plan_name_breaches s.scope.visible f ++ twice s.scope.visible name) (λ s. declare s.scope name View) one
          (next_step s1 s2 s3 (plan_name_breaches s1.scope.visible f) s1.scope (λ s. twice s.scope.visible name) (λ s. declare s.scope name View) two (three r2));
    }

pub assigns_done : (s0 s1 s2 : NamingState) (target target' : Ref) (v v' : Term)
    → target' ≡ used s0.scope.visible target → s1 ≡ walked s0 (unknown s0.scope.visible target) s0.scope
    → v' ≡ resolved_term s1.scope.visible v → s2 ≡ walked s1 (term_breaches s1.scope.visible v) s1.scope
    → ResolvesForm s0 s2 (assigns target v) (assigns target' v')
assigns_done s0 s1 s2 target target' v v' use_is one value two = record {
  tree = ap (λ n. assigns n v') use_is ∙ ap (λ w. assigns (used s0.scope.visible target) w) (value ∙ ap (λ s. resolved_term s.scope.visible v) one);
  state = next_step s0 s1 s2 (unknown s0.scope.visible target) s0.scope (λ s. term_breaches s.scope.visible v) (λ s. s.scope) one two;
}

pub stores_done : (s0 s1 s2 : NamingState) (target target' : Term) (v v' : Term)
    → target' ≡ resolved_term s0.scope.visible target → s1 ≡ walked s0 (term_breaches s0.scope.visible target) s0.scope
    → v' ≡ resolved_term s1.scope.visible v → s2 ≡ walked s1 (term_breaches s1.scope.visible v) s1.scope
    → ResolvesForm s0 s2 (stores target v) (stores target' v')
stores_done s0 s1 s2 target target' v v' use_is one value two = record {
  tree = ap (λ n. stores n v') use_is ∙ ap (λ w. stores (resolved_term s0.scope.visible target) w) (value ∙ ap (λ s. resolved_term s.scope.visible v) one);
  state = next_step s0 s1 s2 (term_breaches s0.scope.visible target) s0.scope (λ s. term_breaches s.scope.visible v) (λ s. s.scope) one two;
}

pub reduces_done : (s0 s1 s2 : NamingState) (target target' : Ref) (op : Op) (v v' : Term)
    → target' ≡ used s0.scope.visible target → s1 ≡ walked s0 (unknown s0.scope.visible target) s0.scope
    → v' ≡ resolved_term s1.scope.visible v → s2 ≡ walked s1 (term_breaches s1.scope.visible v) s1.scope
    → ResolvesForm s0 s2 (reduces target op v) (reduces target' op v')
reduces_done s0 s1 s2 target target' op v v' use_is one value two = record {
  tree = ap (λ n. reduces n op v') use_is ∙ ap (λ w. reduces (used s0.scope.visible target) op w) (value ∙ ap (λ s. resolved_term s.scope.visible v) one);
  state = next_step s0 s1 s2 (unknown s0.scope.visible target) s0.scope (λ s. term_breaches s.scope.visible v) (λ s. s.scope) one two;
}

pub calls_done : (s0 s1 s2 : NamingState) (function function' : Ref) (ts ts' : List Term)
    → function' ≡ used s0.scope.visible function → s1 ≡ walked s0 (unknown s0.scope.visible function) s0.scope
    → ts' ≡ map (resolved_term s1.scope.visible) ts → s2 ≡ walked s1 (list_breaches s1.scope.visible ts) s1.scope
    → ResolvesForm s0 s2 (calls function ts) (calls function' ts')
calls_done s0 s1 s2 function function' ts ts' use_is one value two = record {
  tree = ap (λ n. calls n ts') use_is ∙ ap (λ w. calls (used s0.scope.visible function) w) (value ∙ ap (λ s. map (resolved_term s.scope.visible) ts) one);
  state = next_step s0 s1 s2 (unknown s0.scope.visible function) s0.scope (λ s. list_breaches s.scope.visible ts) (λ s. s.scope) one two;
}

pub blocks_done : (s s' : NamingState) (g g' : Groups) → (HasRoomToDeclare s (declared_in_groups g) → ResolvesGroups s s' g g') → HasRoomToDeclare s (declared_in_groups g) → ResolvesForm s s' (blocks g) (blocks g')
blocks_done s s' g g' done room = record { tree = ap (λ x. blocks x) (done room).tree; state = (done room).state }

pub repeats_done : (s0 s1 s2 : NamingState) (t t' : Term) (a a' : Action)
    → t' ≡ resolved_term s0.scope.visible t → s1 ≡ walked s0 (term_breaches s0.scope.visible t) s0.scope
    → (HasRoomToDeclare s1 (declared_in a) → ResolvesInner s1 s2 a a') → HasRoomToDeclare s0 (declared_in a) → ResolvesForm s0 s2 (repeats t a) (repeats t' a')
repeats_done s0 s1 s2 t t' a a' test one inner room =
    let done = inner (room_at s0 s1 (term_breaches s0.scope.visible t) s0.scope (declared_in a) one room) in
    record {
      tree = ap (λ x. repeats x a') test ∙ ap (λ x. repeats (resolved_term s0.scope.visible t) x) (done.tree ∙ ap (λ s. resolved_action s.scope a) one);
      state = next_step s0 s1 s2 (term_breaches s0.scope.visible t) s0.scope (λ s. breaches s.scope a) (λ s. leave s.scope (at_end s.scope a)) one done.state;
    }

pub first_room : (e m n : ℕ) → e + (m + n) ≤ 2 ^ 32 → e + m ≤ 2 ^ 32
first_room e m n h = omega (arith, h)

pub next_room : (e e' m n : ℕ) → e' ≡ e + m → e + (m + n) ≤ 2 ^ 32 → e' + n ≤ 2 ^ 32
next_room e e' m n is h = omega (arith, is, h)

pub decides_done : (s0 s1 s2 s3 s4 : NamingState) (own : ℕ) (t t' : Term) (a a' : Action) (o o' : MaybeAction)
    → t' ≡ resolved_term s0.scope.visible t → s1 ≡ walked s0 (term_breaches s0.scope.visible t) s0.scope
    → length s1.outer + own ≡ length s1.scope.visible
    → (HasRoomToDeclare s1 (declared_in a) → ResolvesInner s1 s2 a a') → (HasRoomToDeclare s2 (declared_in_other o) → ResolvesOther s2 s3 o o') → s4 ≡ cut_to_own_names s3 own
    → HasRoomToDeclare s0 (declared_in a + declared_in_other o) → ResolvesForm s0 s4 (decides t a o) (decides t' a' o')
decides_done s0 s1 s2 s3 s4 own t t' a a' o o' test one start inner optional cut_to room =
    let r1 = room_at s0 s1 (term_breaches s0.scope.visible t) s0.scope (declared_in a + declared_in_other o) one room in
    let two = inner (first_room (length s1.scope.entities) (declared_in a) (declared_in_other o) r1) in
    let after = leave s1.scope (at_end s1.scope a) in
    let three = optional (room_at s1 s2 (breaches s1.scope a) after (declared_in_other o) two.state (next_room (length s1.scope.entities) (length after.entities) (declared_in a) (declared_in_other o) (counted s1.scope a) r1)) in
    let both = next_step s1 s2 s3 (breaches s1.scope a) after (λ s. other_breaches s.scope o) (λ s. other_at_end s.scope o) two.state three.state in
    let ended = cut_to ∙ cut_is s1 s3 (breaches s1.scope a ++ other_breaches after o) (other_at_end after o) own both start (other_further after o) in
    record {
      tree = ap (λ x. decides x a' o') test
          ∙ ap (λ x. decides (resolved_term s0.scope.visible t) x o') (two.tree ∙ ap (λ s. resolved_action s.scope a) one)
          ∙ ap (λ x. decides (resolved_term s0.scope.visible t) (resolved_action s0.scope a) x)
          (three.tree ∙ ap (λ s. resolved_other s.scope o) two.state ∙ ap (λ s. resolved_other (leave s.scope (at_end s.scope a)) o) one);
      state = next_step s0 s1 s4 (term_breaches s0.scope.visible t) s0.scope (λ s. breaches s.scope a ++ other_breaches (leave s.scope (at_end s.scope a)) o) (λ s. leave s.scope (other_at_end (leave s.scope (at_end s.scope a)) o)) one ended;
    }

pub counts_done : (s0 s1 s2 s3 s4 : NamingState) (own : ℕ) (i i' : Ref) (k : Option Kind) (low high : Placed) (factor : Unrolled) (a a' : Action) (o o' : MaybeAction) (place : Place)
    → length s0.outer + own ≡ length s0.scope.visible
    → (HasRoomToDeclare s0 1 → i' ≡ declares s0.scope i) → (HasRoomToDeclare s0 1 → s1 ≡ walked s0 (twice s0.scope.visible i) (declare s0.scope i Iterator))
    → (HasRoomToDeclare s1 (declared_in a) → Resolves s1 s2 a a') → (HasRoomToDeclare s2 (declared_in_other o) → ResolvesOther s2 s3 o o') → s4 ≡ cut_to_own_names s3 own
    → HasRoomToDeclare s0 (1 + (declared_in a + declared_in_other o)) → ResolvesForm s0 s4 (counts i k low high factor a o place) (counts i' k low high factor a' o' place)
counts_done s0 s1 s2 s3 s4 own i i' k low high factor a a' o o' place start number declared command optional cut_to room =
    let r0 : HasRoomToDeclare s0 1 = first_room (length s0.scope.entities) 1 (declared_in a + declared_in_other o) room in
    let one = declared r0 in
    let d = declare s0.scope i Iterator in
    let d_room = next_room (length s0.scope.entities) (length d.entities) 1 (declared_in a + declared_in_other o) (declare_counted s0.scope i Iterator) room in
    let two = command (room_at s0 s1 (twice s0.scope.visible i) d (declared_in a) one (first_room (length d.entities) (declared_in a) (declared_in_other o) d_room)) in
    let two_is : s2 ≡ walked s0 (twice s0.scope.visible i ++ breaches d a) (at_end d a) = next_step s0 s1 s2 (twice s0.scope.visible i) d (λ s. breaches s.scope a) (λ s. at_end s.scope a) one two.state in
    let three = optional (room_at s0 s2 (twice s0.scope.visible i ++ breaches d a) (at_end d a) (declared_in_other o) two_is (next_room (length d.entities) (length (at_end d a).entities) (declared_in a) (declared_in_other o) (counted d a) d_room)) in
    let rest = next_step s1 s2 s3 (breaches s1.scope a) (at_end s1.scope a) (λ s. other_breaches s.scope o) (λ s. other_at_end s.scope o) two.state three.state in
    let all : s3 ≡ walked s0 (twice s0.scope.visible i ++ (breaches d a ++ other_breaches (at_end d a) o)) (other_at_end (at_end d a) o) =
    next_step s0 s1 s3 (twice s0.scope.visible i) d (λ s. breaches s.scope a ++ other_breaches (at_end s.scope a) o) (λ s. other_at_end (at_end s.scope a) o) one rest in
    let more = onward s0.scope.visible d.visible (other_at_end (at_end d a) o).visible (declare_further s0.scope i Iterator) (onward d.visible (at_end d a).visible (other_at_end (at_end d a) o).visible (further d a) (other_further (at_end d a) o)) in
    record {
      tree = ap (λ x. counts x k low high factor a' o' place) (number r0)
          ∙ ap (λ x. counts (declares s0.scope i) k low high factor x o' place) (two.tree ∙ ap (λ s. resolved_action s.scope a) one)
          ∙ ap (λ x. counts (declares s0.scope i) k low high factor (resolved_action d a) x place) (three.tree ∙ ap (λ s. resolved_other s.scope o) two_is);
      state = cut_to ∙ cut_is s0 s3 (twice s0.scope.visible i ++ (breaches d a ++ other_breaches (at_end d a) o)) (other_at_end (at_end d a) o) own all start more;
    }

-- the same where the header of the loop is one record of the code
pub loops_done : (s0 s1 s2 s3 s4 : NamingState) (own : ℕ) (h h' : LoopHeader) (a a' : Action) (o o' : MaybeAction)
    → length s0.outer + own ≡ length s0.scope.visible
    → (HasRoomToDeclare s0 1 → h' ≡ with_iterator h (declares s0.scope h.iterator)) → (HasRoomToDeclare s0 1 → s1 ≡ walked s0 (twice s0.scope.visible h.iterator) (declare s0.scope h.iterator Iterator))
    → (HasRoomToDeclare s1 (declared_in a) → Resolves s1 s2 a a') → (HasRoomToDeclare s2 (declared_in_other o) → ResolvesOther s2 s3 o o') → s4 ≡ cut_to_own_names s3 own
    → HasRoomToDeclare s0 (1 + (declared_in a + declared_in_other o)) → ResolvesForm s0 s4 (counts_seen h a o) (counts_seen h' a' o')
loops_done s0 s1 s2 s3 s4 own h h' a a' o o' start number declared command optional cut_to room =
    subst (λ (x : LoopHeader). ResolvesForm s0 s4 (counts_seen h a o) (counts_seen x a' o')) (sym (number (first_room (length s0.scope.entities) 1 (declared_in a + declared_in_other o) room)))
    (counts_done s0 s1 s2 s3 s4 own h.iterator (declares s0.scope h.iterator) h.declared (low_seen h) (high_seen h) (unroll_seen h) a a' o o' h.combine_place start (λ r. refl) declared command optional cut_to room)

pub inner_done : (s0 s1 s2 : NamingState) (own : ℕ) (a a' : Action) → length s0.outer + own ≡ length s0.scope.visible → (HasRoomToDeclare s0 (declared_in a) → Resolves s0 s1 a a') → s2 ≡ cut_to_own_names s1 own
    → HasRoomToDeclare s0 (declared_in a) → ResolvesInner s0 s2 a a'
inner_done s0 s1 s2 own a a' start command cut_to room =
    let one = command room in
    record { tree = one.tree; state = cut_to ∙ cut_is s0 s1 (breaches s0.scope a) (at_end s0.scope a) own one.state start (further s0.scope a) }

past_block : (s t : Scope) (id : ℕ) (place : Place) (f : ActionForm) → is_blocks f ≡ true → past s (action id place f) t ≡ leave s t
past_block s t id place (blocks body) e = refl
past_block s t id place (lets name declared value) e = cc
past_block s t id place (lets_memory name shape shape_places value) e = cc
past_block s t id place (views name parent form) e = cc
past_block s t id place (assigns target value) e = cc
past_block s t id place (stores target value) e = cc
past_block s t id place (reduces target op value) e = cc
past_block s t id place (calls function arguments) e = cc
past_block s t id place (decides test chosen other) e = cc
past_block s t id place (repeats test body) e = cc
past_block s t id place (counts iterator declared low high factor body combine combine_place) e = cc

past_other : (s t : Scope) (id : ℕ) (place : Place) (f : ActionForm) → is_blocks f ≡ false → past s (action id place f) t ≡ t
past_other s t id place (blocks body) e = cc
past_other s t id place (lets name declared value) e = refl
past_other s t id place (lets_memory name shape shape_places value) e = refl
past_other s t id place (views name parent form) e = refl
past_other s t id place (assigns target value) e = refl
past_other s t id place (stores target value) e = refl
past_other s t id place (reduces target op value) e = refl
past_other s t id place (calls function arguments) e = refl
past_other s t id place (decides test chosen other) e = refl
past_other s t id place (repeats test body) e = refl
past_other s t id place (counts iterator declared low high factor body combine combine_place) e = refl

pub next_block : (s s' : NamingState) (id : ℕ) (place : Place) (f : ActionForm) (b : Action) → is_blocks f ≡ true → ResolvesInner s s' (action id place f) b → ResolvesNext s s' (action id place f) b
next_block s s' id place f b is done = record {
  tree = done.tree;
  state = done.state ∙ ap (λ t. walked s (form_breaches s.scope f) t) (sym (past_block s.scope (form_at_end s.scope f) id place f is));
}

pub next_other : (s s' : NamingState) (id : ℕ) (place : Place) (f : ActionForm) (b : Action) → is_blocks f ≡ false → Resolves s s' (action id place f) b → ResolvesNext s s' (action id place f) b
next_other s s' id place f b is done = record {
  tree = done.tree;
  state = done.state ∙ ap (λ t. walked s (form_breaches s.scope f) t) (sym (past_other s.scope (form_at_end s.scope f) id place f is));
}

-- the state with other visible names
abbrev pub with_visible : NamingState → List ScopeEntry → NamingState
with_visible s l = record { outer = s.outer; scope = record { visible = l; entities = s.scope.entities }; least = s.least }

-- What was done to what is behind a box: an expression, one that may lack, a name that is used or declared, the
-- form of a view, the header of a loop, a command.
pub expression_at : (s0 s1 : NamingState) (x y w : Expr) → x ≡ y → term_seen w ≡ resolved_term s0.scope.visible (term_seen x) → s1 ≡ walked s0 (term_breaches s0.scope.visible (term_seen x)) s0.scope
    → (term_seen w ≡ resolved_term s0.scope.visible (term_seen y)) × (s1 ≡ walked s0 (term_breaches s0.scope.visible (term_seen y)) s0.scope)
expression_at s0 s1 x y w is tree state =
    (tree ∙ ap (λ (e : Expr). resolved_term s0.scope.visible (term_seen e)) is, state ∙ ap (λ (e : Expr). walked s0 (term_breaches s0.scope.visible (term_seen e)) s0.scope) is)

pub value_at : (s0 s1 : NamingState) (x y w : Option Expr) → x ≡ y
    → option_map term_seen w ≡ option_map (resolved_term s0.scope.visible) (option_map term_seen x) → s1 ≡ walked s0 (maybe_value_breaches s0.scope.visible (option_map term_seen x)) s0.scope
    → (option_map term_seen w ≡ option_map (resolved_term s0.scope.visible) (option_map term_seen y)) × (s1 ≡ walked s0 (maybe_value_breaches s0.scope.visible (option_map term_seen y)) s0.scope)
value_at s0 s1 x y w is tree state = (
  tree ∙ ap (λ (v : Option Expr). option_map (resolved_term s0.scope.visible) (option_map term_seen v)) is,
  state ∙ ap (λ (v : Option Expr). walked s0 (maybe_value_breaches s0.scope.visible (option_map term_seen v)) s0.scope) is,
)

pub used_at : (s0 s1 : NamingState) (x y w : Ref) → x ≡ y → w ≡ used s0.scope.visible x → s1 ≡ walked s0 (unknown s0.scope.visible x) s0.scope
    → (w ≡ used s0.scope.visible y) × (s1 ≡ walked s0 (unknown s0.scope.visible y) s0.scope)
used_at s0 s1 x y w is tree state = (tree ∙ ap (λ (r : Ref). used s0.scope.visible r) is, state ∙ ap (λ (r : Ref). walked s0 (unknown s0.scope.visible r) s0.scope) is)

pub declared_at : (s0 s1 : NamingState) (sort : Sort) (x y w : Ref) → x ≡ y → (HasRoomToDeclare s0 1 → w ≡ declares s0.scope x) → (HasRoomToDeclare s0 1 → s1 ≡ walked s0 (twice s0.scope.visible x) (declare s0.scope x sort))
    → (HasRoomToDeclare s0 1 → w ≡ declares s0.scope y) × (HasRoomToDeclare s0 1 → s1 ≡ walked s0 (twice s0.scope.visible y) (declare s0.scope y sort))
declared_at s0 s1 sort x y w is tree state =
    ((λ room. tree room ∙ ap (λ (r : Ref). declares s0.scope r) is), (λ room. state room ∙ ap (λ (r : Ref). walked s0 (twice s0.scope.visible r) (declare s0.scope r sort)) is))

pub plan_at : (s0 s1 : NamingState) (x y w : ViewForm) → x ≡ y → view_plan w ≡ resolved_plan s0.scope.visible (view_plan x) → s1 ≡ walked s0 (plan_name_breaches s0.scope.visible (view_plan x)) s0.scope
    → (view_plan w ≡ resolved_plan s0.scope.visible (view_plan y)) × (s1 ≡ walked s0 (plan_name_breaches s0.scope.visible (view_plan y)) s0.scope)
plan_at s0 s1 x y w is tree state =
    (tree ∙ ap (λ (f : ViewForm). resolved_plan s0.scope.visible (view_plan f)) is, state ∙ ap (λ (f : ViewForm). walked s0 (plan_name_breaches s0.scope.visible (view_plan f)) s0.scope) is)

pub header_at : (s0 s1 : NamingState) (x y w : LoopHeader) → x ≡ y → (HasRoomToDeclare s0 1 → w ≡ with_iterator x (declares s0.scope x.iterator))
    → (HasRoomToDeclare s0 1 → s1 ≡ walked s0 (twice s0.scope.visible x.iterator) (declare s0.scope x.iterator Iterator))
    → (HasRoomToDeclare s0 1 → w ≡ with_iterator y (declares s0.scope y.iterator)) × (HasRoomToDeclare s0 1 → s1 ≡ walked s0 (twice s0.scope.visible y.iterator) (declare s0.scope y.iterator Iterator))
header_at s0 s1 x y w is tree state = (
  (λ room. tree room ∙ ap (λ (h : LoopHeader). with_iterator h (declares s0.scope h.iterator)) is),
  (λ room. state room ∙ ap (λ (h : LoopHeader). walked s0 (twice s0.scope.visible h.iterator) (declare s0.scope h.iterator Iterator)) is),
)

pub sides_at : (s0 s1 : NamingState) (x y w : Sides) → x ≡ y → ResolvesForm s0 s1 (sides_seen x) (sides_seen w) → ResolvesForm s0 s1 (sides_seen y) (sides_seen w)
sides_at s0 s1 x y w is done = subst (λ (z : Sides). ResolvesForm s0 s1 (sides_seen z) (sides_seen w)) is done

pub inner_at : (s s' : NamingState) (x y : Command) (b : Action) → x ≡ y → (HasRoomToDeclare s (declared_in (action_seen x)) → ResolvesInner s s' (action_seen x) b) → HasRoomToDeclare s (declared_in (action_seen y)) → ResolvesInner s s' (action_seen y) b
inner_at s s' x y b is done = subst (λ z. HasRoomToDeclare s (declared_in (action_seen z)) → ResolvesInner s s' (action_seen z) b) is done

pub resolves_at : (s s' : NamingState) (x y : Command) (b : Action) → x ≡ y → (HasRoomToDeclare s (declared_in (action_seen x)) → Resolves s s' (action_seen x) b) → HasRoomToDeclare s (declared_in (action_seen y)) → Resolves s s' (action_seen y) b
resolves_at s s' x y b is done = subst (λ z. HasRoomToDeclare s (declared_in (action_seen z)) → Resolves s s' (action_seen z) b) is done
