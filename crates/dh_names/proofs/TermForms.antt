-- Expressions whose parts were given their numbers.
use Rattle.std.proofs.Common.{◌≡◌, ℕ, List, [], ◌∷◌, ◌++◌, map, Option, Vec, refl, sym, ap, ◌∙◌}
use Rattle.std.specs.Global.{Global, Box}
use Rattle.std.specs.Box.{with_value}
use Rattle.dh_base.specs.declared.places.Place.{Place}
use Rattle.dh_value.specs.declared.kinds.Kind.{Kind}
use Rattle.dh_value.specs.declared.operators.Op.{Op}
use Rattle.dh_tree.specs.declared.breaches.Breach.{Breach}
use Rattle.dh_tree.specs.declared.trees.expressions.Ref.{Ref}
use Rattle.dh_tree.specs.declared.trees.expressions.Expr.{Expr}
use Rattle.dh_tree.specs.declared.trees.expressions.ExprForm.{ExprForm}
use Rattle.dh_tree.specs.declared.trees.expressions.ExprForm.TheVariants.{Access, Physical, Binary, Cast}
use Rattle.dh_tree.specs.PlainTrees.{Term, accessed, in_bank, applied, converted}
use Rattle.dh_tree.specs.Seen.{form_seen, term_seen, terms}
use Rattle.dh_tree.specs.LeastBreach.{least_of}
use Rattle.dh_tree.specs.Scopes.{ScopeEntry}
use Rattle.dh_tree.specs.Breaches.{unknown, term_breaches, term_form_breaches, list_breaches}
use Rattle.dh_tree.specs.Resolved.{used, resolved_term, resolved_term_form}
use Rattle.dh_tree.proofs.SeenTerms.{access_is, physical_is, binary_is, cast_is}
use Rattle.dh_names.proofs.Keeping.{terms_listed, breaches_listed}
use Rattle.dh_tree.proofs.Leasts.{least_append}
use Rattle.dh_base.proofs.InPlace.{run, made}

module _ (bs : List ScopeEntry) where
  pub access_done : (form : ExprForm) (r r' : Ref) (v v' : Vec Expr Global) → form ≡ Access r v → r' ≡ used bs r → map term_seen v'.items ≡ map (resolved_term bs) (map term_seen v.items)
      → form_seen (Access r' v') ≡ resolved_term_form bs (form_seen form)
  access_done form r r' v v' is use_is all =
      access_is r' v'
      ∙ ap (λ x. accessed x (terms (map term_seen v'.items))) use_is
      ∙ ap (λ l. accessed (used bs r) (terms l)) all
      ∙ ap (λ l. accessed (used bs r) l) (sym (terms_listed bs (map term_seen v.items)))
      ∙ sym (ap (λ g. resolved_term_form bs g) (ap form_seen is ∙ access_is r v))

  pub access_least : (form : ExprForm) (r : Ref) (v : Vec Expr Global) (k l m : Option Breach) → form ≡ Access r v → l ≡ least_of k (unknown bs r) → m ≡ least_of l (list_breaches bs (map term_seen v.items))
      → m ≡ least_of k (term_form_breaches bs (form_seen form))
  access_least form r v k l m is first next =
      next ∙ ap (λ x. least_of x (list_breaches bs (map term_seen v.items))) first
      ∙ sym (least_append k (unknown bs r) (list_breaches bs (map term_seen v.items)))
      ∙ ap (λ b. least_of k (unknown bs r ++ b)) (sym (breaches_listed bs (map term_seen v.items)))
      ∙ sym (ap (λ g. least_of k (term_form_breaches bs g)) (ap form_seen is ∙ access_is r v))

  pub physical_done : (form : ExprForm) (r r' : Ref) (bank : ℕ) (place : Place) (row : Box Expr) (row' : Expr) → form ≡ Physical r bank place row → r' ≡ used bs r → term_seen row' ≡ resolved_term bs (term_seen row.value)
      → form_seen (Physical r' bank place (with_value row row')) ≡ resolved_term_form bs (form_seen form)
  physical_done form r r' bank place row row' is use_is one =
      physical_is r' bank place (with_value row row')
      ∙ ap (λ x. in_bank x bank place (term_seen row')) use_is
      ∙ ap (λ t. in_bank (used bs r) bank place t) one
      ∙ sym (ap (λ g. resolved_term_form bs g) (ap form_seen is ∙ physical_is r bank place row))

  pub binary_done : (form : ExprForm) (op : Op) (left right : Box Expr) (left' right' : Expr) → form ≡ Binary op left right → term_seen left' ≡ resolved_term bs (term_seen left.value) → term_seen right' ≡ resolved_term bs (term_seen right.value)
      → form_seen (Binary op (with_value left left') (with_value right right')) ≡ resolved_term_form bs (form_seen form)
  binary_done form op left right left' right' is one two =
      binary_is op (with_value left left') (with_value right right')
      ∙ ap (λ t. applied op t (term_seen right')) one
      ∙ ap (λ t. applied op (resolved_term bs (term_seen left.value)) t) two
      ∙ sym (ap (λ g. resolved_term_form bs g) (ap form_seen is ∙ binary_is op left right))

  pub cast_done : (form : ExprForm) (inner : Box Expr) (inner' : Expr) (to : Kind) → form ≡ Cast inner to → term_seen inner' ≡ resolved_term bs (term_seen inner.value)
      → form_seen (Cast (with_value inner inner') to) ≡ resolved_term_form bs (form_seen form)
  cast_done form inner inner' to is one =
      cast_is (with_value inner inner') to
      ∙ ap (λ t. converted t to) one
      ∙ sym (ap (λ g. resolved_term_form bs g) (ap form_seen is ∙ cast_is inner to))

  -- a list of expressions: the least breach goes on from one to the next
  abbrev pub term_step : Option Breach → Term → Option Breach
  term_step kept t = least_of kept (term_breaches bs t)

  abbrev pub term_made : Option Breach → Term → Term
  term_made kept t = resolved_term bs t

  pub terms_made : (kept : Option Breach) (ts : List Term) → made term_seen term_step term_made kept ts ≡ map (resolved_term bs) ts
  terms_made kept [] = refl
  terms_made kept (t ∷ ts) = ap (λ l. resolved_term bs t ∷ l) (terms_made (term_step kept t) ts)

  pub terms_run : (kept : Option Breach) (ts : List Term) → run term_seen term_step term_made kept ts ≡ least_of kept (list_breaches bs ts)
  terms_run kept [] = refl
  terms_run kept (t ∷ ts) = terms_run (term_step kept t) ts ∙ sym (least_append kept (term_breaches bs t) (list_breaches bs ts))
