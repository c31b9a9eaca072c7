-- A typed expression has a typed form, of the kind that is found of it; and the kinds that are wanted of numbers have widths.
use Rattle.std.proofs.Common.{◌≡◌, ℕ, List, length, Option, Some, None, true, ap, sym, ◌∙◌, arith}
use Rattle.dh_base.specs.declared.places.Place.{Place}
use Rattle.dh_value.specs.declared.kinds.Kind.{Kind}
use Rattle.dh_value.specs.declared.kinds.Kind.TheVariants as kind
use Rattle.dh_value.specs.Words.{IsKind}
use Rattle.dh_tree.specs.Indices.{shape_keeps}
use Rattle.dh_tree.specs.Kinds.{Facts, for_numbers, number_kind, found, form_found, typed_form, typed_term}
use Rattle.dh_tree.specs.Memories.{Memory, memory_in}
use Rattle.dh_tree.specs.PlainTrees.{Term, term, TermForm}
use Rattle.dh_tree.specs.Widths.{IsSized}

-- the first memory that is entity number n, of so many dimensions; its shape keeps the rules
pub record IsMemory (ms : List Memory) (n : ℕ) (k : Option Kind) (dims : ℕ) : Type 0 where
  pub memory : Memory
  pub is : memory_in ms (Some n) ≡ Some memory
  pub kind : k ≡ Some memory.shape.kind
  pub long : dims ≡ length memory.shape.dims
  pub sized : IsKind memory.shape.kind
  pub keeps : shape_keeps memory.shape ≡ true

-- wants
pub for_numbers_sized : (k : Option Kind) → IsSized k → IsSized (for_numbers k)
for_numbers_sized None h = tt
for_numbers_sized (Some kind.Bool) h = tt
for_numbers_sized (Some (kind.Unsigned w)) h = h
for_numbers_sized (Some (kind.Signed w)) h = h

pub number_kind_sized : (want : Option Kind) → IsSized want → IsKind (number_kind want)
number_kind_sized None h = (omega arith, omega arith)
number_kind_sized (Some k) h = h

abbrev form_of : Term → TermForm
form_of (term place kind form) = form

-- a typed expression has a typed form, and the kind that is found of it
pub typed_parts : (facts : Facts) (want : Option Kind) (place : Place) (k : Option Kind) (form : TermForm) → typed_term facts want (term place k form) ≡ term place k form → (typed_form facts want form ≡ form) × (k ≡ form_found facts want form)
typed_parts facts want place k form e =
    let same : typed_form facts want form ≡ form = ap form_of e in
    (same, sym (ap found e) ∙ ap (form_found facts want) same)
