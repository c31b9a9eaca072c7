-- Views that are shared: each is told by its sort, its factors and what it is of.
use Rattle.std.specs.Prelude.{◌≡◌, ℕ, List}
use Rattle.dh_tree.specs.declared.tables.Dim.{Dim}
use Rattle.dh_tree.specs.declared.tables.Shape.{Shape}
use Rattle.dh_tree.specs.declared.viewing.ViewMap.{ViewMap}
use Rattle.dh_tree.specs.declared.viewing.ViewSort.{ViewSort}
use Rattle.dh_tree.specs.declared.viewing.ViewSort.TheVariants.{Shrink, Split, Suffix, Shift}
use Rattle.dh_tree.specs.PlainTrees.{ViewPlan}
use Rattle.dh_tree.specs.Views.{factors_of, shrunk_dims, sort_of, split_dims}

-- the dimensions of a view of what has these
abbrev pub view_dimensions_by : ViewSort → (factors : List ℕ) → (parent : List Dim) → List Dim
view_dimensions_by Shrink factors parent = shrunk_dims factors parent
view_dimensions_by Split factors parent = split_dims factors parent
view_dimensions_by Suffix factors parent = parent
view_dimensions_by Shift factors parent = parent

-- a view of what has this shape
abbrev pub map_by : ViewSort → (factors : List ℕ) → (parent : Shape) → ViewMap
map_by sort factors parent = record {
  shape = record { kind = parent.kind; ports = parent.ports; dims = view_dimensions_by sort factors parent.dims };
  parent = parent;
  sort = sort;
  by = factors;
}

-- a view is told by its sort, its factors and what it is of
abbrev pub IsMadeFromParent : ViewMap → Type 0
IsMadeFromParent m = m ≡ map_by m.sort m.by m.parent

-- it has this form, and what it is of this shape
pub record IsAlike (m : ViewMap) (form : ViewPlan) (parent : Shape) : Type 0 where
  pub sort : m.sort ≡ sort_of form
  pub factors : m.by ≡ factors_of form
  pub above : m.parent ≡ parent
