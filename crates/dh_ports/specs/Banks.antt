-- Which bank an access reaches, from the value of its indices in the first copy.
use Rattle.std.specs.Prelude.{◌≡◌, ℕ, zero, suc, ◌+◌, ◌*◌, ◌/◌, ◌%◌, if◌then◌else◌, Bool, List, [], ◌∷◌, ◌++◌, length, map, slice_index_or, Option, Some, None, pos, ◌+ℤ◌, unsigned_abs}
use Rattle.dh_shape.specs.Classified.{loops_in}
use Rattle.dh_tree.specs.declared.tables.Dim.{Dim}
use Rattle.dh_tree.specs.declared.trees.counters.Counter.{Counter}
use Rattle.dh_tree.specs.declared.trees.expressions.Expr.{Expr}
use Rattle.dh_tree.specs.declared.trees.programs.Tree.{Tree}
use Rattle.dh_tree.specs.Elements.{bank_of}
use Rattle.dh_tree.specs.Indices.{index_kind}
use Rattle.dh_tree.specs.Seen.{form_seen, term_seen, terms}
use Rattle.dh_meaning.specs.Paths.{Path}
use Rattle.dh_meets.specs.Charges.{level_of_loop, index_in, indices_in, bank_reached}
use Rattle.dh_meets.specs.SourceEvents.{SourceAccess}
use Rattle.dh_meaning.specs.Paths.{copies_in}
use Rattle.dh_ports.specs.declared.banks.Start.{Start}

-- the copy at a path of the loop of an iterator
abbrev pub copy_of : List Counter → Path → Option ℕ → ℕ
copy_of loops path None = 0
copy_of loops path (Some e) = slice_index_or path (level_of_loop loops (Some e)) 0

-- the value of an index in the first copy, and the iterator that counts its copies
pub record IsIndexStart (tree : Tree) (index : Expr) (start : Start) : Type 0 where
  pub value : (loops : List Counter) (path : Path)
      → index_in loops path (index_kind (loops_in tree) index.kind (form_seen index.form)) ≡ unsigned_abs (pos (start.low + copy_of loops path start.iterator) +ℤ start.offset)

-- the bank that indices tell outside every unrolled loop
abbrev pub bank_outside : Tree → List Dim → List Expr → ℕ
bank_outside tree dims indices = bank_of dims (indices_in (loops_in tree) [] [] (terms (map term_seen indices)))

-- the bank that an access reaches at a path
abbrev pub bank_at_path : Tree → List Dim → SourceAccess → Path → ℕ
bank_at_path tree dims a path = bank_reached (loops_in tree) dims a path a.element

-- Paths by number.

-- the values of a function below a number
abbrev pub each_below : {A : Type 0} → (ℕ → A) → ℕ → List A
each_below f zero = []
each_below f (suc n) = each_below f n ++ f n ∷ []

-- the path of a number, in ascending order: the copies of the last loop change first
abbrev pub path_of_number : (factors : List ℕ) → (number : ℕ) → Path
path_of_number [] number = []
path_of_number (factor ∷ factors) number = (number / copies_in factors) % factor ∷ path_of_number factors number

-- how many keys there are in loops of which a test picks those that count
abbrev pub keys_in : (picks : ℕ → Bool) → (level : ℕ) → (factors : List ℕ) → ℕ
keys_in picks level [] = 1
keys_in picks level (factor ∷ factors) = if picks level then factor * keys_in picks (level + 1) factors else keys_in picks (level + 1) factors

-- the number of the key of the path of a number
abbrev pub key_number : (picks : ℕ → Bool) → (level : ℕ) → (factors : List ℕ) → (number : ℕ) → ℕ
key_number picks level [] number = 0
key_number picks level (factor ∷ factors) number =
    (if picks level then ((number / copies_in factors) % factor) * keys_in picks (level + 1) factors else 0) + key_number picks (level + 1) factors number

-- the level of an iterator's loop, where it is one: no path is so long where no loop has it
abbrev pub IsLevel : List Counter → (entity : Option ℕ) → (level : ℕ) → Type 0
IsLevel loops entity level = (path : Path) → length path ≡ length loops → slice_index_or path level 0 ≡ copy_of loops path entity
