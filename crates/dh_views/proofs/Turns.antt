-- What loops and views add to the breach that is kept.
use Rattle.std.proofs.Common.{◌≡◌, ◌++◌, List, Option, Some, None, Result, Ok, Err, ap, sym, ◌∙◌, subst}
use Rattle.std.specs.Prelude.{IsErrAnd}
use Rattle.dh_base.specs.declared.lists.NoMemory.{NoMemory}
use Rattle.dh_tree.specs.declared.breaches.Breach.{Breach}
use Rattle.dh_tree.specs.declared.trees.commands.LoopHeader.{LoopHeader}
use Rattle.dh_tree.specs.declared.viewing.Viewed.{Viewed}
use Rattle.dh_tree.specs.Indices.{IndexContext, index_context_of, action_index_breaches, other_index_breaches, action_form_index_breaches}
use Rattle.dh_tree.specs.LeastBreach.{least_of}
use Rattle.dh_tree.specs.PlainTrees.{Action, ActionForm, MaybeAction, Program}
use Rattle.dh_tree.specs.Seen.{counts_seen}
use Rattle.dh_tree.specs.ViewBreaches.{action_view_breaches, known_views, view_breaches_of}
use Rattle.dh_tree.specs.ViewFactors.{factor_breaches_of}
use Rattle.dh_tree.specs.Views.{viewed_in}
use Rattle.dh_tree.proofs.Leasts.{least_append}
use Rattle.dh_viewing.specs.Judged.{JudgesViews, ViewsJudged as JudgedViews}
use Rattle.dh_views.specs.Kept.{header_breaches}
use Rattle.dh_views.specs.Wanting.{DeclaresViews, FindsBreach}
use Rattle.dh_views.specs.Walked.{own_breaches}

pub loop_kept : (known : IndexContext) (h : LoopHeader) (body : Action) (combine : MaybeAction) (form : ActionForm) (old a b c : Option Breach)
    → form ≡ counts_seen h body combine
    → a ≡ least_of old (own_breaches known form)
    → b ≡ least_of a (action_index_breaches known body)
    → c ≡ least_of b (other_index_breaches known combine)
    → c ≡ least_of old (action_form_index_breaches known form)
loop_kept known h body combine form old a b c is ea eb ec =
    let turns = header_breaches h in
    let inside = action_index_breaches known body in
    let joined = other_index_breaches known combine in
    ec
    ∙ (ap (λ k. least_of k joined) eb
    ∙ (ap (λ k. least_of (least_of k inside) joined) (ea ∙ ap (λ f. least_of old (own_breaches known f)) is)
    ∙ (sym (least_append (least_of old turns) inside joined)
    ∙ (sym (least_append old turns (inside ++ joined)) ∙ ap (λ f. least_of old (action_form_index_breaches known f)) (sym is)))))

pub views_kept : (p : Program) (o : Option JudgedViews) (j : JudgedViews) (old mid new : Option Breach) → JudgesViews p (Ok o) old mid → o ≡ Some j
    → new ≡ least_of mid (action_view_breaches (record { names = index_context_of p; views = j.all; kept = j.kept }) p.body) → new ≡ least_of old (view_breaches_of p)
views_kept p o j old mid new h is e =
    let g : JudgesViews p (Ok (Some j)) old mid = subst (λ (x : Option JudgedViews). JudgesViews p (Ok x) old mid) is h in
    e
    ∙ (ap (λ (vs : List Viewed). least_of mid (action_view_breaches (record { names = index_context_of p; views = vs; kept = j.kept }) p.body)) g.1.0
    ∙ (ap (λ (vs : List Viewed). least_of mid (action_view_breaches (record { names = index_context_of p; views = viewed_in p; kept = vs }) p.body)) g.1.1.0
    ∙ (ap (λ k. least_of k (action_view_breaches (known_views p) p.body)) g.1.1.1
    ∙ sym (least_append old (factor_breaches_of p) (action_view_breaches (known_views p) p.body)))))

pub none_kept : (p : Program) (o : Option JudgedViews) (old mid : Option Breach) → JudgesViews p (Ok o) old mid → o ≡ None → mid ≡ least_of old (view_breaches_of p)
none_kept p o old mid h is =
    let g : JudgesViews p (Ok None) old mid = subst (λ (x : Option JudgedViews). JudgesViews p (Ok x) old mid) is h in
    g.1.1 ∙ ap (λ l. least_of old l) (sym g.1.0)

-- a refusal that is handed on
pub refusal_told : (p : Program) (r : Result (Option Breach) NoMemory) (e : NoMemory) → IsErrAnd r (λ x. x ≡ e) → DeclaresViews p → FindsBreach p r
refusal_told p (Ok first) e is h = absurd is
refusal_told p (Err x) e is h = h
