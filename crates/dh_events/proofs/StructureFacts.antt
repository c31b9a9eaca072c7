-- Two expressions have one number exactly where they are alike, where no structure has two numbers.
use Rattle.std.proofs.Common.{◌≡◌, ℕ, true, List, refl, ap, sym, ◌∙◌}
use Rattle.std.specs.Prelude.{Some}
use Rattle.std.proofs.lemmas.Bool.{eqb-true, eq-eqb}
use Rattle.dh_value.specs.declared.kinds.Kind.{Kind}
use Rattle.dh_value.specs.declared.kinds.Kind.TheVariants as kind
use Rattle.dh_tree.specs.Kinds.{same_kind}
use Rattle.dh_events.specs.declared.structures.Structure.{Structure}
use Rattle.dh_events.specs.declared.structures.MaybeKind.{MaybeKind}
use Rattle.dh_events.specs.declared.structures.Form.{Form}
use Rattle.dh_events.specs.Structures.{kind_sort, structure, StructureStands, StructuresAreDistinct}

-- of one number one sort and one form are told
pub one_sort : (known : List Structure) (n : ℕ) (s t : MaybeKind) (f g : Form) → StructureStands known n s f → StructureStands known n t g → s ≡ t
one_sort known n s t f g d e = let both : Some (structure s f) ≡ Some (structure t g) = sym d ∙ e in ap (λ (x : Structure). x.sort) (some_is _ _ both)
  where
    some_is : (x y : Structure) → Some x ≡ Some y → x ≡ y
    some_is x y e = cc

pub one_form : (known : List Structure) (n : ℕ) (s t : MaybeKind) (f g : Form) → StructureStands known n s f → StructureStands known n t g → f ≡ g
one_form known n s t f g d e = let both : Some (structure s f) ≡ Some (structure t g) = sym d ∙ e in ap (λ (x : Structure). x.form) (some_is _ _ both)
  where
    some_is : (x y : Structure) → Some x ≡ Some y → x ≡ y
    some_is x y e = cc

-- and one number of one structure
pub one_number : (known : List Structure) → StructuresAreDistinct known → (m n : ℕ) (s t : MaybeKind) (f g : Form) → s ≡ t → f ≡ g → StructureStands known m s f → StructureStands known n t g → m ≡ n
one_number known distinct m n s t f g e h d i = distinct m n (structure t g) (d ∙ (ap (λ x. Some (structure x f)) e ∙ ap (λ x. Some (structure t x)) h)) i

-- kinds are one where their sorts are
pub sorts_alike : (j k : Kind) → kind_sort j ≡ kind_sort k → same_kind j k ≡ true
sorts_alike kind.Bool kind.Bool e = refl
sorts_alike kind.Bool (kind.Unsigned n) e = cc
sorts_alike kind.Bool (kind.Signed n) e = cc
sorts_alike (kind.Unsigned m) kind.Bool e = cc
sorts_alike (kind.Unsigned m) (kind.Unsigned n) e = let same : m ≡ n = cc in eq-eqb m n same
sorts_alike (kind.Unsigned m) (kind.Signed n) e = cc
sorts_alike (kind.Signed m) kind.Bool e = cc
sorts_alike (kind.Signed m) (kind.Unsigned n) e = cc
sorts_alike (kind.Signed m) (kind.Signed n) e = let same : m ≡ n = cc in eq-eqb m n same

pub alike_sorts : (j k : Kind) → same_kind j k ≡ true → kind_sort j ≡ kind_sort k
alike_sorts kind.Bool kind.Bool e = refl
alike_sorts kind.Bool (kind.Unsigned n) e = cc
alike_sorts kind.Bool (kind.Signed n) e = cc
alike_sorts (kind.Unsigned m) kind.Bool e = cc
alike_sorts (kind.Unsigned m) (kind.Unsigned n) e = ap (λ x. kind_sort (kind.Unsigned x)) (eqb-true m n e)
alike_sorts (kind.Unsigned m) (kind.Signed n) e = cc
alike_sorts (kind.Signed m) kind.Bool e = cc
alike_sorts (kind.Signed m) (kind.Unsigned n) e = cc
alike_sorts (kind.Signed m) (kind.Signed n) e = ap (λ x. kind_sort (kind.Signed x)) (eqb-true m n e)
