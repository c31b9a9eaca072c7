-- How carriers are made, one behind the other: that of a view by how charges are carried behind it.
use Rattle.std.specs.Prelude.{◌≡◌, ℕ, ◌||◌, Bool, if◌then◌else◌, List, length, map, replicate, slice_get, Some}
use Rattle.dh_tree.specs.declared.viewing.ViewMap.{ViewMap}
use Rattle.dh_tree.specs.Elements.{banks_of}
use Rattle.dh_ways.specs.Kept.{KeptLed, KeptWay}
use Rattle.dh_ports.specs.declared.carrying.Carrier.{Carrier}
use Rattle.dh_ports.specs.Banks.{each_below}
use Rattle.dh_ports.specs.Carriers.{banks_behind, has_shift, is_shift_sort, source_in, source_through, views_on_way}

-- a bank of a memory is charged as itself
abbrev pub itself : ℕ → ℕ
itself bank = bank

-- each bank of the parent of a view, charged as itself
abbrev pub parent_sources : ViewMap → List ℕ
parent_sources v = each_below itself (banks_of v.parent.dims)

-- by each of these banks of its parent the bank of a view as which it is charged, where the view is no shift
abbrev pub sources_in : ViewMap → (behind : List ℕ) → List ℕ
sources_in v behind = map (source_in v.sort v.shape.dims v.parent.dims) behind

-- by each bank of a memory the bank of a view as which it is charged, by the bank of its parent; none where all are charged evenly
abbrev pub sources_over : ViewMap → (evenly : Bool) → (behind : List ℕ) → List ℕ
sources_over v evenly behind = if is_shift_sort v.sort || evenly then replicate (length behind) 0 else sources_in v behind

-- a carrier of a view, behind which charges are carried so
pub record IsCarrierOn (v : ViewMap) (behind_evenly : Bool) (behind : List ℕ) (c : Carrier) : Type 0 where
  pub banks : c.banks ≡ banks_of v.shape.dims
  pub even : c.evenly ≡ (is_shift_sort v.sort || behind_evenly)
  pub sources : c.sources.items ≡ sources_over v behind_evenly behind

-- the same of all views on a way
abbrev pub sources_told : List ViewMap → (end : ℕ) → List ℕ
sources_told vs end = if has_shift vs then replicate end 0 else each_below (source_through vs) end

-- the banks behind the last view
abbrev pub banks_at_end : KeptWay → ℕ
banks_at_end w = banks_behind (banks_of w.view.parent.dims) w.behind

pub record IsMadeCarrier (w : KeptWay) (c : Carrier) : Type 0 where
  pub banks : c.banks ≡ banks_of w.view.shape.dims
  pub even : c.evenly ≡ has_shift (views_on_way w)
  pub sources : c.sources.items ≡ sources_told (views_on_way w) (banks_at_end w)

-- each of the first views has its carrier
abbrev pub AreMadeCarriers : List KeptLed → List Carrier → Type 0
AreMadeCarriers ls cs = (place : ℕ) (l : KeptLed) (c : Carrier) → slice_get ls place ≡ Some l → slice_get cs place ≡ Some c → IsMadeCarrier l.way c
