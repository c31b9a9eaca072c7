-- What is seen of a tree of accesses, form by form, where its parts stand in the code's lists. Shared by the crates above.
use Rattle.std.proofs.Common.{◌≡◌, ℕ, refl, ap, ◌∙◌}
use Rattle.std.specs.Prelude.{Vec}
use Rattle.std.specs.Global.{Global}
use Rattle.dh_tree.specs.Meets as meets
use Rattle.dh_plan.specs.declared.plans.Meets.{Meets}
use Rattle.dh_plan.specs.declared.plans.Meets.TheVariants.{Access, All, One}
use Rattle.dh_plan.specs.declared.plans.Meets.TheBlock as block
use Rattle.dh_plan.specs.SeenPlans.{meets_seen, all_row_seen, one_seen, alls, ones}
use mathlib.Core.Former.{Count}

pub access_is : (access : ℕ) → meets_seen (Access access) ≡ meets.access access
unfolding meets_seen
access_is access = refl

all_row : (n : Count) (k : block.Row_of-Meets n) → all_row_seen k ≡ alls (block.items-the_row-Meets n k)
unfolding meets_seen
all_row _ block.end_of-Meets = refl
all_row _ (block.more_of-Meets {n = n} p rest) = ap (λ (s : meets.Meets). meets.all (meets_seen p) s) (all_row n rest)

one_row : (n : Count) (k : block.Row_of-Meets n) → one_seen k ≡ ones (block.items-the_row-Meets n k)
unfolding meets_seen
one_row _ block.end_of-Meets = refl
one_row _ (block.more_of-Meets {n = n} p rest) = ap (λ (s : meets.Meets). meets.one (meets_seen p) s) (one_row n rest)

pub all_is : (parts : Vec Meets Global) → meets_seen (All parts) ≡ alls parts.items
unfolding meets_seen
all_is parts = all_row _ (block.hidden-the_row-Meets-0 parts) ∙ ap alls (block.items_hidden-the_row-Meets-0 parts)

pub one_is : (parts : Vec Meets Global) → meets_seen (One parts) ≡ ones parts.items
unfolding meets_seen
one_is parts = one_row _ (block.hidden-the_row-Meets-0 parts) ∙ ap ones (block.items_hidden-the_row-Meets-0 parts)

pub ruleset meets_are = (access_is, all_is, one_is)
