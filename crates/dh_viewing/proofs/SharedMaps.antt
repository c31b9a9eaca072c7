-- Views that are shared: those that are told alike are the same.
use Rattle.std.proofs.Common.{◌≡◌, ℕ, suc, ◌<◌, ◌≤◌, ◌==◌, ◌&&◌, Bool, true, false, List, ◌∷◌, length, drop, get_or, refl, ap, sym, ◌∙◌}
use Rattle.std.specs.Bool.{Decides}
use Rattle.std.proofs.lemmas.Bool.Decides.{Decides-eqb}
use Rattle.std.proofs.Math.Seq.{drop-cons}
use Rattle.std.proofs.Math.ListN.{drop_of_length-le}
use Rattle.dh_value.specs.declared.kinds.Kind.{Kind}
use Rattle.dh_tree.specs.declared.tables.Dim.{Dim}
use Rattle.dh_tree.specs.declared.tables.Shape.{Shape}
use Rattle.dh_tree.specs.declared.viewing.ViewMap.{ViewMap}
use Rattle.dh_tree.specs.PlainTrees.{ViewPlan, shrinks, splits, suffixes, shifts}
use Rattle.dh_tree.specs.Views.{factors_of, map_of, sort_of}
use Rattle.dh_viewing.specs.Shared.{IsAlike, IsMadeFromParent, map_by}

-- Numbers.

pub same_next : (ks ms : List ℕ) (i : ℕ) → i < length ks → i < length ms → get_or ks i 0 ≡ get_or ms i 0 → (drop i ks ≡ drop i ms → ks ≡ ms) → drop (suc i) ks ≡ drop (suc i) ms → ks ≡ ms
same_next ks ms i inside within e h rest =
    h (drop-cons ks i 0 inside ∙ (ap (λ k. k ∷ drop (suc i) ks) e ∙ (ap (λ l. get_or ms i 0 ∷ l) rest ∙ sym (drop-cons ms i 0 within))))

pub same_end : (ks ms : List ℕ) (i : ℕ) → length ks ≤ i → length ms ≤ i → (drop i ks ≡ drop i ms → ks ≡ ms) → ks ≡ ms
same_end ks ms i over past h = h (drop_of_length-le ks over ∙ sym (drop_of_length-le ms past))

-- Shapes.

abbrev dim_having : (size banks : ℕ) → Dim
dim_having size banks = record { size = size; banks = banks }

pub dims_decide : (a b : Dim) → Decides ((a.size == b.size) && (a.banks == b.banks)) (a ≡ b)
dims_decide a b = (
  λ t. made ((Decides-eqb a.size b.size).0 (first (a.size == b.size) (a.banks == b.banks) t)) ((Decides-eqb a.banks b.banks).0 (second (a.size == b.size) (a.banks == b.banks) t)),
  λ e. both (a.size == b.size) (a.banks == b.banks) ((Decides-eqb a.size b.size).1 (ap (λ (d : Dim). d.size) e)) ((Decides-eqb a.banks b.banks).1 (ap (λ (d : Dim). d.banks) e)),
)
  where
    first : (s t : Bool) → (s && t) ≡ true → s ≡ true
    first true t e = refl
    first false t e = cc

    second : (s t : Bool) → (s && t) ≡ true → t ≡ true
    second true t e = e
    second false t e = cc

    both : (s t : Bool) → s ≡ true → t ≡ true → (s && t) ≡ true
    both true t e f = f
    both false t e f = cc

    made : a.size ≡ b.size → a.banks ≡ b.banks → a ≡ b
    made e f = ap (λ n. dim_having n a.banks) e ∙ ap (dim_having b.size) f

abbrev shape_having : Kind → (ports : ℕ) → List Dim → Shape
shape_having kind ports dims = record { kind = kind; ports = ports; dims = dims }

pub shapes_same : (s t : Shape) → s.ports ≡ t.ports → s.kind ≡ t.kind → s.dims ≡ t.dims → s ≡ t
shapes_same s t e f g = ap (λ n. shape_having s.kind n s.dims) e ∙ (ap (λ k. shape_having k t.ports s.dims) f ∙ ap (shape_having t.kind t.ports) g)

-- Views.

made_by : (form : ViewPlan) (parent : Shape) → map_of form parent ≡ map_by (sort_of form) (factors_of form) parent
made_by (shrinks by by_place) parent = refl
made_by (splits by by_place) parent = refl
made_by (suffixes by by_place) parent = refl
made_by (shifts by) parent = refl

-- each is told so
pub is_made : (m : ViewMap) (form : ViewPlan) (parent : Shape) → m ≡ map_of form parent → IsMadeFromParent m
is_made m form parent e = e ∙ (made_by form parent ∙ ap (λ (x : ViewMap). map_by x.sort x.by x.parent) (sym e))

pub alike_same : (m : ViewMap) (form : ViewPlan) (parent : Shape) → IsMadeFromParent m → IsAlike m form parent → m ≡ map_of form parent
alike_same m form parent made alike =
    made
    ∙ (ap (λ s. map_by s m.by m.parent) alike.sort
    ∙ (ap (λ ks. map_by (sort_of form) ks m.parent) alike.factors
    ∙ (ap (map_by (sort_of form) (factors_of form)) alike.above ∙ sym (made_by form parent))))
