-- What a walk over a form does, from what its steps do.
use Rattle.std.proofs.Common.{◌≡◌, List, [], ◌∷◌, ◌++◌, Option, Some, None, refl, sym, ap, subst, ◌∙◌}
use Rattle.std.proofs.lemmas.List.{append_assoc}
use Rattle.dh_base.specs.declared.places.Place.{Place}
use Rattle.dh_value.specs.declared.kinds.Kind.{Kind}
use Rattle.dh_value.specs.declared.operators.Op.{Op}
use Rattle.dh_tree.specs.declared.tables.Shape.{Shape}
use Rattle.dh_tree.specs.declared.breaches.Breach.{Breach}
use Rattle.dh_tree.specs.declared.trees.expressions.Ref.{Ref}
use Rattle.dh_tree.specs.declared.trees.programs.ShapePlaces.{ShapePlaces}
use Rattle.dh_tree.specs.declared.trees.commands.Command.{Command}
use Rattle.dh_tree.specs.declared.trees.commands.LoopHeader.{LoopHeader}
use Rattle.dh_tree.specs.declared.trees.commands.ViewForm.{ViewForm}
use Rattle.dh_tree.specs.declared.trees.expressions.Expr.{Expr}
use Rattle.dh_tree.specs.Seen.{view_plan, action_seen, low_seen, high_seen, unroll_seen, counts_seen}
use Rattle.dh_tree.specs.PlainTrees.{Term, ViewPlan, Placed, Unrolled, Action, ActionForm, lets, lets_memory, views, assigns, stores, reduces, calls, blocks, decides, repeats, counts, MaybeAction, Groups}
use Rattle.dh_tree.specs.Kinds.{Fact, of_iterator, Facts, fact_of, found, for_numbers, parameters_of, target_kind, variable_fact, parameter_fact, view_fact, iterator_kind, facts_after, facts_after_other, typed_term, typed_maybe, typed_plan, typed_arguments, typed_action, typed_other}
use Rattle.dh_tree.specs.KindBreaches.{term_kind_breaches, right_side_breaches, maybe_breaches, condition_breaches, plan_kind_breaches, target_breaches, parent_breaches, reducer_kind_breaches, arguments_breaches, iterator_breaches, low_breaches, high_breaches, action_kind_breaches, other_kind_breaches}
use Rattle.dh_types.specs.InTrees.{value_seen}
use Rattle.dh_types.specs.Walks.{TypingState, walked_to_facts, noted, learned, entered, entered_as, Types, TypesForm, TypesOther, TypesGroups}
use Rattle.dh_tree.proofs.Leasts.{least_append}

abbrev state_with : Facts → Option Breach → TypingState
state_with facts l = record { facts = facts; least = l }

-- two steps, one after the other
pub next_step : (s0 s1 s2 : TypingState) (xs : List Breach) (p : Facts) (ys : Facts → List Breach) (t : Facts → Facts) → s1 ≡ walked_to_facts s0 xs p → s2 ≡ walked_to_facts s1 (ys s1.facts) (t s1.facts)
    → s2 ≡ walked_to_facts s0 (xs ++ ys p) (t p)
next_step s0 s1 s2 xs p ys t one two =
    two ∙ ap (λ s. walked_to_facts s (ys s.facts) (t s.facts)) one ∙ ap (state_with (t p)) (sym (least_append s0.least xs (ys p)))

pub form_done : (s s' : TypingState) (a a' b b' : ActionForm) → a ≡ a' → b ≡ b' → TypesForm s s' a' b' → TypesForm s s' a b
form_done s s' a a' b b' p q done = subst (λ x. TypesForm s s' x b) (sym p) (subst (λ y. TypesForm s s' a' y) (sym q) done)

pub lets_done : (s0 s1 s2 : TypingState) (name : Ref) (k : Option Kind) (v v' : Option Term) (fact : Fact)
    → v' ≡ typed_maybe s0.facts k v → s1 ≡ noted s0 (maybe_breaches s0.facts k v') → fact ≡ variable_fact k v' → s2 ≡ learned s1 fact
    → TypesForm s0 s2 (lets name k v) (lets name k v')
lets_done s0 s1 s2 name k v v' fact tree one known two = record {
  tree = ap (λ w. lets name k w) tree;
  state = two ∙ ap (λ f. learned s1 f) known ∙ ap (λ s. learned s (variable_fact k v')) one;
}

pub memory_done : (s0 s1 s2 : TypingState) (name : Ref) (shape : Shape) (places : ShapePlaces) (v v' : Option Term) (fact : Fact)
    → v' ≡ typed_maybe s0.facts (Some shape.kind) v → s1 ≡ noted s0 (maybe_breaches s0.facts (Some shape.kind) v') → fact ≡ parameter_fact shape.kind (Some shape) → s2 ≡ learned s1 fact
    → TypesForm s0 s2 (lets_memory name shape places v) (lets_memory name shape places v')
memory_done s0 s1 s2 name shape places v v' fact tree one known two = record {
  tree = ap (λ w. lets_memory name shape places w) tree;
  state = two ∙ ap (λ f. learned s1 f) known ∙ ap (λ s. learned s (parameter_fact shape.kind (Some shape))) one;
}

pub views_done : (s0 s1 s2 s3 : TypingState) (name parent : Ref) (f f' : ViewPlan) (fact : Fact)
    → s1 ≡ noted s0 (parent_breaches (fact_of s0.facts parent) parent.place)
    → f' ≡ typed_plan s1.facts f → s2 ≡ noted s1 (plan_kind_breaches s1.facts f')
    → fact ≡ view_fact (fact_of s2.facts parent) f' → s3 ≡ learned s2 fact
    → TypesForm s0 s3 (views name parent f) (views name parent f')
views_done s0 s1 s2 s3 name parent f f' fact one plan two known three =
    let both : s2 ≡ walked_to_facts s0 (parent_breaches (fact_of s0.facts parent) parent.place ++ plan_kind_breaches s0.facts f') s0.facts =
    next_step s0 s1 s2 (parent_breaches (fact_of s0.facts parent) parent.place) s0.facts (λ fs. plan_kind_breaches fs f') (λ fs. fs) one two in
    record {
      tree = ap (λ g. views name parent g) (plan ∙ ap (λ s. typed_plan s.facts f) one);
      state = three ∙ ap (λ x. learned s2 x) known ∙ ap (λ s. learned s (view_fact (fact_of s.facts parent) f')) both;
    }

pub assigns_done : (s0 s1 : TypingState) (target : Ref) (v v' : Term)
    → v' ≡ typed_term s0.facts (for_numbers (target_kind (fact_of s0.facts target))) v
    → s1 ≡ noted s0 (target_breaches (fact_of s0.facts target) target.place ++ right_side_breaches s0.facts (target_kind (fact_of s0.facts target)) v')
    → TypesForm s0 s1 (assigns target v) (assigns target v')
assigns_done s0 s1 target v v' tree one = record { tree = ap (λ w. assigns target w) tree; state = one }

pub stores_done : (s0 s1 s2 : TypingState) (t t' v v' : Term)
    → t' ≡ typed_term s0.facts None t → s1 ≡ noted s0 (term_kind_breaches s0.facts t')
    → v' ≡ typed_term s1.facts (for_numbers (found t')) v → s2 ≡ noted s1 (right_side_breaches s1.facts (found t') v')
    → TypesForm s0 s2 (stores t v) (stores t' v')
stores_done s0 s1 s2 t t' v v' target one value two = record {
  tree = ap (λ w. stores t' w) (value ∙ ap (λ s. typed_term s.facts (for_numbers (found t')) v) one)
      ∙ ap (λ x. stores x (typed_term s0.facts (for_numbers (found x)) v)) target;
  state = next_step s0 s1 s2 (term_kind_breaches s0.facts t') s0.facts (λ fs. right_side_breaches fs (found t') v') (λ fs. fs) one two;
}

pub reduces_done : (s0 s1 : TypingState) (target : Ref) (op : Op) (v v' : Term)
    → v' ≡ typed_term s0.facts (for_numbers (target_kind (fact_of s0.facts target))) v
    → s1 ≡ noted s0 (target_breaches (fact_of s0.facts target) target.place ++ (reducer_kind_breaches (target_kind (fact_of s0.facts target)) (found v') target.place ++ right_side_breaches s0.facts (target_kind (fact_of s0.facts target)) v'))
    → TypesForm s0 s1 (reduces target op v) (reduces target op v')
reduces_done s0 s1 target op v v' tree one = record { tree = ap (λ w. reduces target op w) tree; state = one }

pub calls_done : (s0 s1 : TypingState) (function : Ref) (ts ts' : List Term)
    → ts' ≡ typed_arguments s0.facts (parameters_of (fact_of s0.facts function)) ts → s1 ≡ noted s0 (arguments_breaches s0.facts ts')
    → TypesForm s0 s1 (calls function ts) (calls function ts')
calls_done s0 s1 function ts ts' tree one = record { tree = ap (λ w. calls function w) tree; state = one }

pub blocks_done : (s0 s1 : TypingState) (g g' : Groups) → TypesGroups s0 s1 g g' → TypesForm s0 s1 (blocks g) (blocks g')
blocks_done s0 s1 g g' done = record { tree = ap (λ w. blocks w) done.tree; state = done.state }

facts_of : (s0 s1 s2 : TypingState) (xs : List Breach) (a a' : Action) → s1 ≡ noted s0 xs → Types s1 s2 a a' → s2.facts ≡ facts_after s0.facts (typed_action s0.facts a)
facts_of s0 s1 s2 xs a a' one two =
    ap (λ s. s.facts) two.state ∙ ap (λ x. facts_after s1.facts x) two.tree ∙ ap (λ s. facts_after s.facts (typed_action s.facts a)) one

pub repeats_done : (s0 s1 s2 : TypingState) (t t' : Term) (a a' : Action)
    → t' ≡ typed_term s0.facts None t → s1 ≡ noted s0 (condition_breaches s0.facts t') → Types s1 s2 a a'
    → TypesForm s0 s2 (repeats t a) (repeats t' a')
repeats_done s0 s1 s2 t t' a a' test one body = record {
  tree = ap (λ x. repeats x a') test ∙ ap (λ x. repeats (typed_term s0.facts None t) x) (body.tree ∙ ap (λ s. typed_action s.facts a) one);
  state = next_step s0 s1 s2 (condition_breaches s0.facts t') s0.facts (λ fs. action_kind_breaches fs a') (λ fs. facts_after fs a') one body.state;
}

pub decides_done : (s0 s1 s2 s3 : TypingState) (t t' : Term) (a a' : Action) (o o' : MaybeAction)
    → t' ≡ typed_term s0.facts None t → s1 ≡ noted s0 (condition_breaches s0.facts t') → Types s1 s2 a a' → TypesOther s2 s3 o o'
    → TypesForm s0 s3 (decides t a o) (decides t' a' o')
decides_done s0 s1 s2 s3 t t' a a' o o' test one chosen other =
    let rest : s3 ≡ walked_to_facts s1 (action_kind_breaches s1.facts a' ++ other_kind_breaches (facts_after s1.facts a') o') (facts_after_other (facts_after s1.facts a') o') =
    next_step s1 s2 s3 (action_kind_breaches s1.facts a') (facts_after s1.facts a') (λ fs. other_kind_breaches fs o') (λ fs. facts_after_other fs o') chosen.state other.state in
    record {
      tree = ap (λ x. decides x a' o') test
          ∙ ap (λ x. decides (typed_term s0.facts None t) x o') (chosen.tree ∙ ap (λ s. typed_action s.facts a) one)
          ∙ ap (λ x. decides (typed_term s0.facts None t) (typed_action s0.facts a) x)
          (other.tree ∙ ap (λ fs. typed_other fs o) (facts_of s0 s1 s2 (condition_breaches s0.facts t') a a' one chosen));
      state = next_step s0 s1 s3 (condition_breaches s0.facts t') s0.facts (λ fs. action_kind_breaches fs a' ++ other_kind_breaches (facts_after fs a') o') (λ fs. facts_after_other (facts_after fs a') o') one rest;
    }

pub counts_done : (s0 s1 s2 s3 s4 : TypingState) (i : Ref) (k : Option Kind) (kind : Kind) (low high : Placed) (factor : Unrolled) (a a' : Action) (o o' : MaybeAction) (place : Place) (fact : Fact)
    → kind ≡ iterator_kind k → s1 ≡ noted s0 (iterator_breaches i kind ++ (low_breaches kind low ++ high_breaches kind low high))
    → fact ≡ of_iterator kind → s2 ≡ learned s1 fact → Types s2 s3 a a' → TypesOther s3 s4 o o'
    → TypesForm s0 s4 (counts i k low high factor a o place) (counts i k low high factor a' o' place)
counts_done s0 s1 s2 s3 s4 i k kind low high factor a a' o o' place fact kind_is bounds known two body combine =
    let j = iterator_kind k in
    let fs1 = s0.facts ++ of_iterator j ∷ [] in
    let header = iterator_breaches i j ++ (low_breaches j low ++ high_breaches j low high) in
    let one : s2 ≡ walked_to_facts s0 header fs1 =
    two ∙ ap (λ f. learned s1 f) (known ∙ ap (λ x. of_iterator x) kind_is) ∙ ap (λ s. learned s (of_iterator j)) (bounds ∙ ap (λ x. noted s0 (iterator_breaches i x ++ (low_breaches x low ++ high_breaches x low high))) kind_is) in
    let facts1 : s2.facts ≡ fs1 = ap (λ s. s.facts) one in
    let facts2 : s3.facts ≡ facts_after fs1 (typed_action fs1 a) = ap (λ s. s.facts) body.state ∙ ap (λ x. facts_after s2.facts x) body.tree ∙ ap (λ fs. facts_after fs (typed_action fs a)) facts1 in
    let rest : s4 ≡ walked_to_facts s2 (action_kind_breaches s2.facts a' ++ other_kind_breaches (facts_after s2.facts a') o') (facts_after_other (facts_after s2.facts a') o') =
    next_step s2 s3 s4 (action_kind_breaches s2.facts a') (facts_after s2.facts a') (λ fs. other_kind_breaches fs o') (λ fs. facts_after_other fs o') body.state combine.state in
    let inside = action_kind_breaches fs1 a' ++ other_kind_breaches (facts_after fs1 a') o' in
    record {
      tree = ap (λ x. counts i k low high factor x o' place) (body.tree ∙ ap (λ fs. typed_action fs a) facts1)
          ∙ ap (λ x. counts i k low high factor (typed_action fs1 a) x place) (combine.tree ∙ ap (λ fs. typed_other fs o) facts2);
      state = next_step s0 s2 s4 header fs1 (λ fs. action_kind_breaches fs a' ++ other_kind_breaches (facts_after fs a') o') (λ fs. facts_after_other (facts_after fs a') o') one rest
          ∙ ap (λ l. walked_to_facts s0 l (facts_after_other (facts_after fs1 a') o'))
          (append_assoc (iterator_breaches i j) (low_breaches j low ++ high_breaches j low high) inside ∙ ap (λ l. iterator_breaches i j ++ l) (append_assoc (low_breaches j low) (high_breaches j low high) inside));
    }

-- the header of a loop, from what its steps do
pub header_done : (s0 s1 s2 : TypingState) (h : LoopHeader) (kind : Kind) → kind ≡ iterator_kind h.declared
    → s1 ≡ noted s0 (iterator_breaches h.iterator kind ++ (low_breaches kind (low_seen h) ++ high_breaches kind (low_seen h) (high_seen h))) → s2 ≡ learned s1 (of_iterator kind) → s2 ≡ entered s0 h
header_done s0 s1 s2 h kind is one two = two ∙ ap (λ s. learned s (of_iterator kind)) one ∙ ap (λ k. entered_as s0 h k) is

-- a loop behind its header
pub loops_done : (s0 s1 s2 s3 : TypingState) (h : LoopHeader) (a a' : Action) (o o' : MaybeAction)
    → s1 ≡ entered s0 h → Types s1 s2 a a' → TypesOther s2 s3 o o' → TypesForm s0 s3 (counts_seen h a o) (counts_seen h a' o')
loops_done s0 s1 s2 s3 h a a' o o' head body combine =
    let j = iterator_kind h.declared in
    let one = noted s0 (iterator_breaches h.iterator j ++ (low_breaches j (low_seen h) ++ high_breaches j (low_seen h) (high_seen h))) in
    counts_done s0 one s1 s2 s3 h.iterator h.declared j (low_seen h) (high_seen h) (unroll_seen h) a a' o o' h.combine_place (of_iterator j) refl refl refl head body combine

-- What was done to what is behind boxes: the shape and the right side of a memory, the parent and the form of a
-- view, a command.
pub memory_at : (s s' : TypingState) (name : Ref) (places : ShapePlaces) (x y : Shape) (v w u : Option Expr) → x ≡ y → v ≡ w
    → TypesForm s s' (lets_memory name x places (value_seen v)) (lets_memory name x places (value_seen u)) → TypesForm s s' (lets_memory name y places (value_seen w)) (lets_memory name y places (value_seen u))
memory_at s s' name places x y v w u is now done =
    subst (λ (h : Shape). TypesForm s s' (lets_memory name h places (value_seen w)) (lets_memory name h places (value_seen u))) is
    (subst (λ (o : Option Expr). TypesForm s s' (lets_memory name x places (value_seen o)) (lets_memory name x places (value_seen u))) now done)

pub viewed_at : (s s' : TypingState) (name x y : Ref) (f g h : ViewForm) → x ≡ y → f ≡ g
    → TypesForm s s' (views name x (view_plan f)) (views name x (view_plan h)) → TypesForm s s' (views name y (view_plan g)) (views name y (view_plan h))
viewed_at s s' name x y f g h is now done =
    subst (λ (r : Ref). TypesForm s s' (views name r (view_plan g)) (views name r (view_plan h))) is
    (subst (λ (p : ViewForm). TypesForm s s' (views name x (view_plan p)) (views name x (view_plan h))) now done)

pub types_at : (s s' : TypingState) (x y : Command) (b : Action) → x ≡ y → Types s s' (action_seen x) b → Types s s' (action_seen y) b
types_at s s' x y b is done = subst (λ z. Types s s' (action_seen z) b) is done
