-- Cells that are added leave what was known as it was: a cell stands at the same place of a longer list, so what solves
-- the equations of more cells solves those of fewer. And what one cell more of a choice shows, and how deep it is.
use Rattle.std.proofs.Common.{◌≡◌, ℕ, zero, suc, ◌+◌, ◌<◌, ◌≤◌, ◌^◌, ◌==◌, ◌||◌, max, inl, inr, List, [], ◌∷◌, ◌++◌, length, refl, sym, ap, subst, arith, length-append}
use Rattle.std.specs.Prelude.{slice_index, option_map, bit_or, if◌then◌else◌, Bool, true, false}
use Rattle.std.proofs.lemmas.Option.{slice_get_within}
use Rattle.dh_tree.specs.declared.tables.MemEntry.{MemEntry}
use Rattle.dh_net.specs.Valid.{HasWidth, IsCell, IsDriver}
use Rattle.dh_net.specs.declared.nets.Cell.{Cell}
use Rattle.dh_net.specs.declared.nets.CellForm.TheVariants.{Or, Mux}
use Rattle.dh_net.specs.declared.nets.Driver.{Driver}
use Rattle.dh_net.specs.declared.nets.Register.{Register}
use Rattle.dh_net.specs.declared.ports.Port.{Port}
use Rattle.dh_net.proofs.Valuations.{cell_of}
use Rattle.dh_cells.specs.Settled.{BeginsWith}
use Rattle.dh_cells.proofs.CellsAppended.{get_last, get_either, begins_longer, width_later, cell_later}
use Rattle.dh_sim.proofs.Keeping.{wide_fits}
use Rattle.dh_join.specs.AddedCells.{AreNetCells, IsChoice, GrowsByChoices, ShowsChoices, AreWireDepths, CellAdded, EitherAdded, ChoiceAdded}
use Rattle.dh_net.specs.Parts.{one_cell}

-- Growth.

pub grows_none : (cells : List Cell) (most : ℕ) → GrowsByChoices cells cells most
grows_none cells most = record { begins = λ i c at. at; added = λ i c at. inl at; valid = λ table registers all. all; few = omega arith }

pub grows_more : (old new : List Cell) (m n : ℕ) → m ≤ n → GrowsByChoices old new m → GrowsByChoices old new n
grows_more old new m n less g = record { begins = g.begins; added = g.added; valid = g.valid; few = (let few = g.few in omega (arith, few, less)) }

pub grows_then : (a b c : List Cell) (m n : ℕ) → GrowsByChoices a b m → GrowsByChoices b c n → GrowsByChoices a c (m + n)
grows_then a b c m n g h = record {
  begins = λ i d at. h.begins i d (g.begins i d at);
  added = λ i d at. elim (h.added i d at) [ inl before ↦ g.added i d before | inr new ↦ inr new ];
  valid = λ table registers all. h.valid table registers (g.valid table registers all);
  few = (let x = g.few in let y = h.few in omega (arith, x, y));
}

grows_one : (cells : List Cell) (c : Cell) → IsChoice c.form
    → ((table : List MemEntry) (registers : List Register) → AreNetCells table registers cells → IsCell table registers cells (length cells) c)
    → GrowsByChoices cells (cells ++ c ∷ []) 1
grows_one cells c choice next = record {
  begins = begins_longer cells c;
  added = λ i x at. elim (get_either cells c i x at) [
    | inl old ↦ inl old
    | inr last ↦ inr (subst (λ (y : Cell). IsChoice y.form) last.1 choice)
  ];
  valid = λ table registers all i x at.
      elim (get_either cells c i x at) [
        | inl old ↦ cell_later table registers cells (cells ++ c ∷ []) i x (begins_longer cells c) (all i x old)
        | inr last ↦
            subst (λ (n : ℕ). IsCell table registers (cells ++ c ∷ []) n x) (sym last.0)
            (subst (λ (y : Cell). IsCell table registers (cells ++ c ∷ []) (length cells) y) last.1
            (cell_later table registers cells (cells ++ c ∷ []) (length cells) c (begins_longer cells c) (next table registers all)))
      ];
  few = (let long = length-append cells (c ∷ []) in omega (arith, long));
}

-- what solves more cells solves fewer
pub shows_fewer : (old new : List Cell) (wires : List ℕ) → BeginsWith new old → ShowsChoices new wires → ShowsChoices old wires
shows_fewer old new wires e s = record {
  small = λ i c at. s.small i c (e i c at);
  either = λ i width a b at. s.either i width a b (e i (one_cell width (Or a b)) at);
  choice = λ i width c a b at. s.choice i width c a b (e i (one_cell width (Mux c a b)) at);
}

pub depths_fewer : (old new : List Cell) (depths : List ℕ) → BeginsWith new old → AreWireDepths new depths → AreWireDepths old depths
depths_fewer old new depths e d i c at = d i c (e i c at)

pub driver_later : (old new : List Cell) (p : Port) (d : Driver) → BeginsWith new old → IsDriver old p d → IsDriver new p d
driver_later old new p d e h = record {
  enable = width_later old new d.enable 1 e h.enable;
  row = width_later old new d.row p.row_width e h.row;
  out = λ on. width_later old new d.data_ p.width e (h.out on);
}

-- a wire that is there is one before the next cell
wire_before : (cells : List Cell) (wire width : ℕ) → HasWidth cells wire width → wire < length cells
wire_before cells wire width h = let found = cell_of cells wire width h in slice_get_within cells wire found.0 found.1.0

-- Either of two.

either_tells : (x y v : ℕ) → x < 2 ^ 1 → y < 2 ^ 1 → v ≡ bit_or x y → (v == 1) ≡ ((x == 1) || (y == 1))
either_tells zero zero v a b e = ap (λ (n : ℕ). n == 1) e
either_tells zero (suc zero) v a b e = ap (λ (n : ℕ). n == 1) e
either_tells zero (suc (suc y)) v a b e = absurd (omega (arith, b))
either_tells (suc zero) zero v a b e = ap (λ (n : ℕ). n == 1) e
either_tells (suc zero) (suc zero) v a b e = ap (λ (n : ℕ). n == 1) e
either_tells (suc zero) (suc (suc y)) v a b e = absurd (omega (arith, b))
either_tells (suc (suc x)) y v a b e = absurd (omega (arith, a))

deeper : (x y v most : ℕ) → v ≡ suc (max x y) → x ≤ most → y ≤ most → v ≤ suc most
deeper x y v most e a b = grind arith

either_made : (cells : List Cell) (a b : ℕ) → HasWidth cells a 1 → HasWidth cells b 1
    → EitherAdded cells (cells ++ one_cell 1 (Or a b) ∷ []) a b (length cells)
either_made cells a b left right =
    let c = one_cell 1 (Or a b) in
    let e = begins_longer cells c in
    record {
      grows = grows_one cells c tt (λ table registers all. record {
        least = omega arith;
        greatest = omega arith;
        form = record {
          left = record { earlier = wire_before cells a 1 left; wide = left };
          right = record { earlier = wire_before cells b 1 right; wide = right };
        };
      });
      wide = ap (option_map (λ (y : Cell). y.width)) (get_last cells c);
      shows = λ wires s.
          either_tells (slice_index wires a) (slice_index wires b) (slice_index wires (length cells))
          (wide_fits (cells ++ c ∷ []) wires s.small a 1 (width_later cells (cells ++ c ∷ []) a 1 e left))
          (wide_fits (cells ++ c ∷ []) wires s.small b 1 (width_later cells (cells ++ c ∷ []) b 1 e right))
          (s.either (length cells) 1 a b (get_last cells c));
      deep = λ depths most d x y. deeper (slice_index depths a) (slice_index depths b) (slice_index depths (length cells)) most (d (length cells) c (get_last cells c)) x y;
    }

pub either_added : (old new : List Cell) (a b wire : ℕ) → HasWidth old a 1 → HasWidth old b 1 → CellAdded old new 1 (Or a b) wire → EitherAdded old new a b wire
either_added old new a b wire left right h =
    subst (λ (cells : List Cell). EitherAdded old cells a b wire) (sym h.cells)
    (subst (λ (w : ℕ). EitherAdded old (old ++ one_cell 1 (Or a b) ∷ []) a b w) (sym h.last) (either_made old a b left right))

-- A choice.

deeper_choice : (t x y v most : ℕ) → v ≡ suc (max t (max x y)) → t ≤ most → x ≤ most → y ≤ most → v ≤ suc most
deeper_choice t x y v most e c a b = grind arith

choice_made : (cells : List Cell) (width test a b : ℕ) → HasWidth cells test 1 → HasWidth cells a width → HasWidth cells b width
    → ChoiceAdded cells (cells ++ one_cell width (Mux test a b) ∷ []) width test a b (length cells)
choice_made cells width test a b chosen left right =
    let c = one_cell width (Mux test a b) in
    let found = cell_of cells a width left in
    record {
      grows = grows_one cells c tt (λ table registers all.
          let cell = all a found.0 found.1.0 in record {
            least = subst (λ (w : ℕ). 1 ≤ w) found.1.1 cell.least;
            greatest = subst (λ (w : ℕ). w ≤ 64) found.1.1 cell.greatest;
            form = (
              record { earlier = wire_before cells test 1 chosen; wide = chosen },
              record {
                left = record { earlier = wire_before cells a width left; wide = left };
                right = record { earlier = wire_before cells b width right; wide = right };
              },
            );
          });
      wide = ap (option_map (λ (y : Cell). y.width)) (get_last cells c);
      shows = λ wires s. s.choice (length cells) width test a b (get_last cells c);
      deep = λ depths most d t x y.
          deeper_choice (slice_index depths test) (slice_index depths a) (slice_index depths b) (slice_index depths (length cells)) most (d (length cells) c (get_last cells c)) t x y;
    }

pub choice_added : (old new : List Cell) (width test a b wire : ℕ) → HasWidth old test 1 → HasWidth old a width → HasWidth old b width
    → CellAdded old new width (Mux test a b) wire → ChoiceAdded old new width test a b wire
choice_added old new width test a b wire chosen left right h =
    subst (λ (cells : List Cell). ChoiceAdded old cells width test a b wire) (sym h.cells)
    (subst (λ (w : ℕ). ChoiceAdded old (old ++ one_cell width (Mux test a b) ∷ []) width test a b w) (sym h.last) (choice_made old width test a b chosen left right))

-- of one wire twice
same_chosen : (t : Bool) (x y : ℕ) → x ≡ y → x ≡ (if t then x else y)
same_chosen true x y e = refl
same_chosen false x y e = e

pub choice_same : (cells : List Cell) (width test a b : ℕ) → a ≡ b → HasWidth cells a width → ChoiceAdded cells cells width test a b a
choice_same cells width test a b same left = record {
  grows = grows_none cells 1;
  wide = left;
  shows = λ wires s. same_chosen (slice_index wires test == 1) (slice_index wires a) (slice_index wires b) (ap (λ (n : ℕ). slice_index wires n) same);
  deep = λ depths most d t x y. omega (arith, x);
}
