-- What is seen of the commands that the parser makes.
use Rattle.std.proofs.Common.{◌≡◌, Bool, true, false, map, Option, Some, None, option_map, refl, ap, ◌∙◌}
use Rattle.std.specs.Prelude.{Vec, Box}
use Rattle.std.specs.Global.{Global}
use Rattle.dh_base.specs.declared.places.Place.{Place}
use Rattle.dh_value.specs.declared.operators.Op.{Op}
use Rattle.dh_tree.specs.declared.trees.expressions.Ref.{Ref}
use Rattle.dh_tree.specs.declared.trees.expressions.Expr.{Expr}
use Rattle.dh_tree.specs.declared.trees.commands.Sides.{Sides}
use Rattle.dh_tree.specs.declared.trees.commands.ViewForm.{ViewForm}
use Rattle.dh_tree.specs.declared.trees.commands.CommandForm.TheVariants.{Let, View, Assign, Store, Reduce, Call}
use Rattle.dh_tree.specs.PlainTrees.{Term, ActionForm, lets, views, assigns, stores, reduces, calls}
use Rattle.dh_tree.specs.Seen.{term_seen, view_plan, sides_seen, action_form_seen}
use Rattle.dh_tree.proofs.SeenActions.{let_is, view_is, assign_is, store_is, reduce_is, call_is}
use Rattle.dh_parser.specs.Grammar.{NameText, TypeText, ValueText, ExprText, ViewText, ReducerText, AccessText, ArgumentsText, let_value, view, assign, store, reduce, call}
use Rattle.dh_parser.specs.TreesOfTexts.{ref_of, shape_of_text, shape_places_of, value_of_text, is_memory_type, let_written, let_of, access_of_text, arguments_of, parent_of_view_text, reducer_op, simple_form}
use Rattle.dh_parser.specs.declared.parsing.types.WrittenType.{WrittenType}
use Rattle.dh_parser.specs.Answers.{SamePlan, SameTerm, SameType}

pub view_seen : (name parent : Ref) (form : ViewForm) (held held' : Box Ref Global) (plan : Box ViewForm Global) (word equal : Place) (n : NameText) (v : ViewText)
    → held.value ≡ name → held'.value ≡ parent → plan.value ≡ form → name ≡ ref_of n → SamePlan parent form v → action_form_seen (View held held' plan) ≡ simple_form (view word n equal v)
view_seen name parent form held held' plan word equal n v a b c e s =
    view_is held held' plan ∙ (ap (λ r. views r held'.value (view_plan plan.value)) (a ∙ e) ∙ (ap (λ r. views (ref_of n) r (view_plan plan.value)) (b ∙ s.0) ∙ ap (λ p. views (ref_of n) (parent_of_view_text v) p) (ap view_plan c ∙ s.1)))

pub value_seen : (name : Ref) (e : Expr) (held : Box (Option Expr) Global) (word equal : Place) (n : NameText) (t : ExprText) → held.value ≡ Some e → name ≡ ref_of n → SameTerm e t
    → action_form_seen (Let None name held) ≡ simple_form (let_value word n equal t)
value_seen name e held word equal n t a f s =
    let_is None name held ∙ (ap (λ (v : Option Expr). lets name None (option_map term_seen v)) a ∙ (ap (λ r. lets r None (Some (term_seen e))) f ∙ ap (λ x. lets (ref_of n) None (Some x)) s))

pub assign_seen : (name : Ref) (e : Expr) (held : Box Expr Global) (place : Place) (n : NameText) (t : ExprText) → held.value ≡ e → name ≡ ref_of n → SameTerm e t → action_form_seen (Assign name held) ≡ simple_form (assign n place t)
assign_seen name e held place n t a f s = assign_is name held ∙ (ap (λ r. assigns r (term_seen held.value)) f ∙ ap (λ x. assigns (ref_of n) x) (ap term_seen a ∙ s))

pub call_seen : (name : Ref) (held : Box Ref Global) (es : Vec Expr Global) (place : Place) (n : NameText) (t : ArgumentsText) → held.value ≡ name → name ≡ ref_of n → map term_seen es.items ≡ arguments_of t
    → action_form_seen (Call held es) ≡ simple_form (call n place t)
call_seen name held es place n t a f s = call_is held es ∙ (ap (λ r. calls r (map term_seen es.items)) (a ∙ f) ∙ ap (λ x. calls (ref_of n) x) s)

pub store_seen : (target e : Expr) (sides : Box Sides Global) (place : Place) (a : AccessText) (t : ExprText) → sides.value ≡ record { target = target; value = e } → term_seen target ≡ access_of_text a → SameTerm e t
    → action_form_seen (Store sides) ≡ simple_form (store a place t)
store_seen target e sides place a t is f s = store_is sides ∙ (ap sides_seen is ∙ (ap (λ x. stores x (term_seen e)) f ∙ ap (λ x. stores (access_of_text a) x) s))

pub reduce_seen : (name : Ref) (o : Op) (e : Expr) (held : Box Expr Global) (place : Place) (n : NameText) (r : ReducerText) (t : ExprText) → held.value ≡ e → name ≡ ref_of n → o ≡ reducer_op r → SameTerm e t
    → action_form_seen (Reduce o name held) ≡ simple_form (reduce n r place t)
reduce_seen name o e held place n r t a f g s =
    reduce_is o name held ∙ (ap (λ x. reduces x o (term_seen held.value)) f ∙ (ap (λ x. reduces (ref_of n) x (term_seen held.value)) g ∙ ap (λ x. reduces (ref_of n) (reducer_op r) x) (ap term_seen a ∙ s)))

let_by : (b : Bool) (n : NameText) (t : TypeText) (v : ValueText) → let_written b (ref_of n) (shape_of_text t) (shape_places_of t) (value_of_text v) ≡ let_of b n t v
let_by true n t v = refl
let_by false n t v = refl

pub let_seen : {f : ActionForm} (name : Ref) (w : WrittenType) (value : Option Term) (n : NameText) (t : TypeText) (v : ValueText) → f ≡ let_written w.is_memory name w.shape w.places value → name ≡ ref_of n → SameType w t → value ≡ value_of_text v
    → f ≡ let_of (is_memory_type t.ports t.dims) n t v
let_seen name w value n t v h e s i =
    h ∙ (ap (λ r. let_written w.is_memory r w.shape w.places value) e ∙ (ap (λ b. let_written b (ref_of n) w.shape w.places value) s.memory
    ∙ (ap (λ x. let_written (is_memory_type t.ports t.dims) (ref_of n) x w.places value) s.shape ∙ (ap (λ x. let_written (is_memory_type t.ports t.dims) (ref_of n) (shape_of_text t) x value) s.places
    ∙ (ap (λ x. let_written (is_memory_type t.ports t.dims) (ref_of n) (shape_of_text t) (shape_places_of t) x) i ∙ let_by (is_memory_type t.ports t.dims) n t v)))))
