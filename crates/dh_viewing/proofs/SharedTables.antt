-- Views of which each may share what it is, in a table.
use Rattle.std.proofs.Common.{◌≡◌, ℕ, zero, suc, Bool, true, false, if◌then◌else◌, List, [], ◌∷◌, ◌++◌, map, Option, Some, None, option_map, refl, ap, sym, ◌∙◌}
use Rattle.std.specs.Prelude.{slice_get}
use Rattle.std.proofs.lemmas.List.{map_push}
use denote.Ref.{Bor}
use Rattle.dh_tree.specs.declared.viewing.Viewed.{Viewed}
use Rattle.dh_tree.specs.declared.viewing.ViewMap.{ViewMap}
use Rattle.dh_viewing.specs.declared.tables.SharedView.{SharedView}
use Rattle.dh_viewing.specs.Placed.{map_at}
use Rattle.dh_viewing.specs.Tables.{all_shared, shared_placed, shared_seen}

-- one view more
pub shared_pushed : (b : Bool) (vs new : List SharedView) (v : SharedView) → new ≡ (if b then vs ++ v ∷ [] else vs) → all_shared new ≡ (if b then all_shared vs ++ shared_seen v ∷ [] else all_shared vs)
shared_pushed true vs new v e = ap all_shared e ∙ map_push shared_seen vs v
shared_pushed false vs new v e = ap all_shared e

-- A view that is found.

placed_same : (vs : List SharedView) (place : Option ℕ) → option_map (λ (v : SharedView). v.is) (shared_placed vs place) ≡ map_at (all_shared vs) place
placed_same vs None = refl
placed_same vs (Some n) = at vs n
  where
    at : (l : List SharedView) (k : ℕ) → option_map (λ (v : SharedView). v.is) (slice_get l k) ≡ option_map (λ (v : Viewed). v.is) (slice_get (map shared_seen l) k)
    at [] k = refl
    at (v ∷ l) zero = refl
    at (v ∷ l) (suc k) = at l k

abbrev map_lent : Option (Bor SharedView) → Option ViewMap
map_lent r = option_map (λ (v : SharedView). v.is) (option_map (λ (v : Bor SharedView). v.now) r)

pub map_found : (vs : List SharedView) (place : Option ℕ) (r : Option (Bor SharedView)) (v : Bor SharedView) (m : ViewMap) → option_map (λ (x : Bor SharedView). x.now) r ≡ shared_placed vs place → r ≡ Some v → m ≡ v.now.is
    → Some m ≡ map_at (all_shared vs) place
map_found vs place r v m found some is =
    ap (λ (x : ViewMap). Some x) is ∙ (sym (ap map_lent some) ∙ (ap (option_map (λ (x : SharedView). x.is)) found ∙ placed_same vs place))

pub no_map : (vs : List SharedView) (place : Option ℕ) (r : Option (Bor SharedView)) → option_map (λ (x : Bor SharedView). x.now) r ≡ shared_placed vs place → r ≡ None → None ≡ map_at (all_shared vs) place
no_map vs place r found none = sym (ap map_lent none) ∙ (ap (option_map (λ (x : SharedView). x.is)) found ∙ placed_same vs place)
