-- What is told of the views of a program together: whether there are any, all of them, those that keep the rules, and the
-- least breach of their factors.
use Rattle.std.specs.Prelude.{◌≡◌, ◌&&◌, Bool, true, false, List, [], ◌∷◌, Option, Some, None, Result, Ok, Err}
use Rattle.std.specs.List.{AllByRecursion}
use Rattle.dh_base.specs.declared.lists.NoMemory.{NoMemory}
use Rattle.dh_tree.specs.declared.breaches.Breach.{Breach}
use Rattle.dh_tree.specs.declared.tables.MemEntry.{MemEntry}
use Rattle.dh_tree.specs.declared.trees.programs.Tree.{Tree}
use Rattle.dh_tree.specs.declared.viewing.Viewed.{Viewed}
use Rattle.dh_tree.specs.Indices.{shape_keeps}
use Rattle.dh_tree.specs.LeastBreach.{least_of}
use Rattle.dh_tree.specs.Memories.{table_of}
use Rattle.dh_tree.specs.PlainTrees.{Program}
use Rattle.dh_tree.specs.Shapes.{IsProgramTable}
use Rattle.dh_tree.specs.ViewBreaches.{kept_views, view_breaches_of}
use Rattle.dh_tree.specs.ViewFactors.{factor_breaches_of}
use Rattle.dh_tree.specs.Views.{Viewing, viewed_in, views_of}
use Rattle.dh_tree.specs.ViewShapes.{IsViewMap}
use Rattle.dh_viewing.specs.declared.collecting.DeclaredView.{DeclaredView}
use Rattle.dh_viewing.specs.Finding.{all_found_breaches, with_all_found, with_all_kept}

-- some view is among these
abbrev pub is_any : List Viewing → Bool
is_any [] = false
is_any (v ∷ vs) = true

-- a program declares a view
abbrev pub DeclaresViews : Program → Type 0
DeclaresViews p = is_any (views_of p) ≡ true

-- views, and those of them that keep the rules
pub record ViewsJudged : Type 0 where
  pub all : List Viewed
  pub kept : List Viewed

-- those that are kept apart, or else all
abbrev pub kept_or : (all : List Viewed) → Option (List Viewed) → List Viewed
kept_or all None = all
kept_or all (Some kept) = kept

-- what is kept apart of the views that were found, or else all of them, are those that keep the rules; `is_unbroken` is to
-- tell that none breaks the one on factors
abbrev pub AreKeptApart : Tree → (is_unbroken : Bool) → List DeclaredView → (apart : Option (List Viewed)) → Type 0
AreKeptApart tree is_unbroken found apart = (is_unbroken ≡ true → all_found_breaches tree [] found ≡ []) → kept_or (with_all_found tree [] found) apart ≡ with_all_kept tree [] found

-- no shape breaks a rule
abbrev pub entries_keep : List MemEntry → Bool
entries_keep [] = true
entries_keep (e ∷ es) = shape_keeps e.shape && entries_keep es

-- these are the views of a program, and the breaches of their factors go into what is kept
abbrev pub AreJudged : Program → ViewsJudged → (old new : Option Breach) → Type 0
AreJudged p judged old new = (judged.all ≡ viewed_in p) × ((judged.kept ≡ kept_views p) × (new ≡ least_of old (factor_breaches_of p)))

-- nothing is told where the program has no view, and so breaks no rule on them; memory is refused where it has one, and
-- then what was kept stays
abbrev pub JudgesViews : Program → Result (Option ViewsJudged) NoMemory → (old new : Option Breach) → Type 0
JudgesViews p (Ok None) old new = (views_of p ≡ []) × ((view_breaches_of p ≡ []) × (new ≡ old))
JudgesViews p (Ok (Some judged)) old new = DeclaresViews p × AreJudged p judged old new
JudgesViews p (Err refused) old new = DeclaresViews p × (new ≡ old)

-- Laws.

-- where no factor and no bracket breaks the rule on them, and memories keep the rules and limits, each view has the shape of
-- its sort
abbrev pub KeptViewsHaveShapes : Type 0
KeptViewsHaveShapes = (p : Program) → factor_breaches_of p ≡ [] → IsProgramTable (table_of p) → AllByRecursion (λ (v : Viewed). IsViewMap v.is) (viewed_in p)

-- and accesses are judged through each
abbrev pub KeptViewsAreAll : Type 0
KeptViewsAreAll = (p : Program) → factor_breaches_of p ≡ [] → IsProgramTable (table_of p) → kept_views p ≡ viewed_in p
