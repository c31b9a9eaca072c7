-- The places of parts that stand one behind the other, where those that have no site are left out.
use Rattle.std.proofs.Common.{◌≡◌, ℕ, zero, suc, ◌+◌, List, [], ◌∷◌, ◌++◌, length, Option, Some, ap, ◌∙◌}
use Rattle.std.specs.Prelude.{slice_get}
use Rattle.dh_expressions.proofs.Pushing.{in_front}
use Rattle.dh_formed.specs.Formed.{BlockSite}
use Rattle.dh_laid.specs.BlockSites.{HasPlaces, HasSites, all_there}
use Rattle.dh_laid.proofs.SitesLaid.{behind_place, moved}

module _ (sites : ℕ → Option BlockSite) where
  pub places_front : (first : ℕ) (xs ys : List (Option BlockSite)) → HasPlaces sites first (xs ++ ys) → HasPlaces sites first xs
  places_front first xs ys h i s e = h i s (in_front xs ys i (Some s) e)

  pub places_behind : (first own : ℕ) (xs ys : List (Option BlockSite)) → own ≡ first + length xs → HasPlaces sites first (xs ++ ys) → HasPlaces sites own ys
  places_behind first own xs ys is h i s e = ap sites (moved first own (length xs) i is) ∙ h (length xs + i) s (behind_place xs ys i (Some s) e)

  there_at : (ss : List BlockSite) (i : ℕ) (s : BlockSite) → slice_get ss i ≡ Some s → slice_get (all_there ss) i ≡ Some (Some s)
  there_at [] i s e = absurd cc
  there_at (y ∷ ss) zero s e = ap (λ (o : Option BlockSite). Some o) e
  there_at (y ∷ ss) (suc i) s e = there_at ss i s e

  pub places_there : (first : ℕ) (ss : List BlockSite) → HasPlaces sites first (all_there ss) → HasSites sites first ss
  places_there first ss h i s e = h i s (there_at ss i s e)
