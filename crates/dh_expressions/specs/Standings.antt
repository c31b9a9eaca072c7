-- Where an access stands, and that its copies and its fault are those of that place.
use Rattle.std.specs.Prelude.{◌≡◌, ℕ, Bool, List, length, slice_get, Option, Some}
use Rattle.dh_base.specs.declared.outcomes.FaultKind.TheVariants.{OutOfRange}
use Rattle.dh_base.specs.declared.places.Place.{Place}
use Rattle.dh_tree.specs.PlainTrees.{TermForm}
use Rattle.dh_tree.specs.Seen.{program_seen}
use Rattle.dh_expressions.specs.declared.accesses.Touched.{Touched}
use Rattle.dh_expressions.specs.declared.scenes.Around.{Around}
use Rattle.dh_expressions.specs.declared.scenes.Scene.{Scene}
use Rattle.dh_expressions.specs.Copying.{AreCopies, depends_at, groups_by}
use Rattle.dh_expressions.specs.Counting.{places_by}
use Rattle.dh_expressions.specs.Drafted.{BlockStep}
use Rattle.dh_expressions.specs.Levels.{leader_number}
use Rattle.dh_expressions.specs.Named.{banks_told, known_in, shifts_on, way_named}
use Rattle.dh_expressions.specs.Numbers.{narrowed}
use Rattle.dh_expressions.specs.ReachedBanks.{bank_by}

-- where an access stands in the source, for each path the first one with its key, the bank of what is named that is
-- reached, and the place of its copy among those on its banks, and the guards of the paths
pub record AccessStanding : Type 0 where
  pub place : Place
  pub leader : (path : ℕ) → ℕ
  pub bank : (path : ℕ) → ℕ
  pub places : (path : ℕ) → ℕ
  -- the banks that a copy can reach from a bank of what is named, each with its place
  pub reaches : (bank place : ℕ) → List (ℕ × ℕ)
  pub guards : List (Option ℕ)

-- an access of this form and place, of a memory
abbrev pub standing_at : Scene → Around → (memory : ℕ) → Place → TermForm → (writes : Bool) → AccessStanding
standing_at scene around memory place form writes = record {
  place = place;
  leader = λ path. leader_number around.levels.now (depends_at scene form writes) path;
  bank = λ path. narrowed (bank_by (program_seen scene.program.now) (way_named (known_in scene) form) around.levels.now memory form path);
  places = λ path.
      places_by (λ p. leader_number around.levels.now (depends_at scene form writes) p)
      (λ p. narrowed (bank_by (program_seen scene.program.now) (way_named (known_in scene) form) around.levels.now memory form p)) (λ p. groups_by around.levels.now (shifts_on (way_named (known_in scene) form)) p) path;
  reaches = λ bank place. banks_told scene form bank place;
  guards = around.guards.now;
}

-- the places of its copies
abbrev pub copy_places : AccessStanding → (path : ℕ) → ℕ
copy_places s path = s.places path

-- the banks of the copy at a path
abbrev pub banks_at : AccessStanding → (path : ℕ) → List (ℕ × ℕ)
banks_at s path = s.reaches (s.bank path) (copy_places s path)

-- the copies of an access are those of where it stands, and its fault is named by its place
pub record IsTouched (x : BlockStep) (s : AccessStanding) (t : Touched) : Type 0 where
  pub fault : slice_get x.named t.fault ≡ Some (OutOfRange, s.place)
  pub copies : AreCopies x s.leader s.bank (copy_places s) s.guards (length s.guards) t.copies
