-- Accesses by indices: constants as they are found, and the others spread out.
use Rattle.std.proofs.Common.{◌≡◌, ℕ, ◌%◌, ◌^◌, Bool, List, refl, sym, ap, ◌∙◌, subst}
use Rattle.std.specs.Prelude.{Option, Some, None}
use Rattle.std.proofs.Math.Nat.{mod-eq_of_lt}
use Rattle.dh_tree.specs.declared.tables.Dim.{Dim}
use Rattle.dh_tree.specs.declared.tables.MemEntry.{MemEntry}
use Rattle.dh_tree.specs.Elements.{dims_at}
use Rattle.dh_tree.specs.Shapes.{IsProgramTable}
use Rattle.dh_tree.specs.Tables.{elements_of}
use Rattle.dh_plan.specs.declared.operations.Operation.{Operation}
use Rattle.dh_plan.specs.declared.operations.Reach.{Reach}
use Rattle.dh_rows.specs.MadeOperations.{bits_in, constant_made}
use Rattle.dh_address.specs.declared.literals.LiteralPlace.{LiteralPlace}
use Rattle.dh_address.specs.declared.operands.BlockValue.{BlockValue}
use Rattle.dh_address.specs.LiteralPlaces.{literal_places}
use Rattle.dh_address.specs.Pieces.{RenumberedBlock, IsAim, IsAimBut, IsIndexAim, IsSpreadOut, IsAimedReach, IsAimedByIndices, aim_width, aimed_reach, indices_and_offsets, is_banked, new_number, new_or_none, select_width, operand_values}
use Rattle.dh_address.proofs.LiteralMeans.{elements_below}

module _ (table : List MemEntry) (r : Reach) (is : List BlockValue) (dims : List Dim) (total width narrow : ℕ) (banked : Bool) (old new : List Operation) (row : ℕ) (select : Option ℕ) (t : IsProgramTable table)
    (same : dims ≡ dims_at table r.memory) (total_is : total ≡ elements_of dims % 2 ^ 64) (width_is : width ≡ bits_in total) (narrow_is : narrow ≡ select_width dims) (banked_is : banked ≡ is_banked r) where
  wide : width ≡ aim_width (dims_at table r.memory)
  wide = width_is ∙ ap bits_in (total_is ∙ (ap (λ (ds : List Dim). elements_of ds % 2 ^ 64) same ∙ mod-eq_of_lt (elements_below table r.memory t)))

  as_seen : (place : Option LiteralPlace) → place ≡ literal_places dims is 0 0 → IsAimBut place width narrow dims (operand_values is) banked old new row select
      → IsIndexAim (dims_at table r.memory) is (is_banked r) old new row select
  as_seen place found h =
      subst (λ (b : Bool). IsAimBut (literal_places own is 0 0) (aim_width own) (select_width own) own (operand_values is) b old new row select) banked_is
      (subst (λ (n : ℕ). IsAimBut (literal_places own is 0 0) n (select_width own) own (operand_values is) banked old new row select) wide
      (subst (λ (n : ℕ). IsAimBut (literal_places own is 0 0) width n own (operand_values is) banked old new row select) (narrow_is ∙ ap select_width same)
      (subst (λ (ds : List Dim). IsAimBut (literal_places ds is 0 0) width narrow ds (operand_values is) banked old new row select) same
      (subst (λ (o : Option LiteralPlace). IsAimBut o width narrow dims (operand_values is) banked old new row select) found h))))
    where
      own : List Dim
      own = dims_at table r.memory

  pub aims_place : (place : LiteralPlace) → Some place ≡ literal_places dims is 0 0
      → IsAim banked (constant_made old width place.row) (constant_made (constant_made old width place.row).operations narrow place.bank) new row select
      → IsIndexAim (dims_at table r.memory) is (is_banked r) old new row select
  aims_place place found h = as_seen (Some place) found h

  pub aims_spread : None ≡ literal_places dims is 0 0 → (values : List ℕ) → values ≡ operand_values is
      → IsSpreadOut width narrow dims values banked old new row select → IsIndexAim (dims_at table r.memory) is (is_banked r) old new row select
  aims_spread found values numbers h = as_seen None found (subst (λ (vs : List ℕ). IsSpreadOut width narrow dims vs banked old new row select) numbers h)

-- An access by a row stays one.
pub aims_row : (a : RenumberedBlock) (r : Reach) (is : List BlockValue) (row : ℕ) (list : List Operation) (t : Reach) → r.row ≡ Some row → t ≡ aimed_reach r (indices_and_offsets a r) (new_number a row) (new_or_none a r.select)
    → IsAimedReach a r r.row is list list t
aims_row a r is row list t e put = subst (λ (o : Option ℕ). IsAimedReach a r o is list list t) (sym e) (refl, put)

-- Of no row its row and bank are put down.
pub aims_indices : (a : RenumberedBlock) (r : Reach) (is : List BlockValue) (old new : List Operation) (t : Reach) → r.row ≡ None → IsAimedByIndices a r is old new t → IsAimedReach a r r.row is old new t
aims_indices a r is old new t e put = subst (λ (o : Option ℕ). IsAimedReach a r o is old new t) (sym e) put
