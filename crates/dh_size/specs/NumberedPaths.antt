-- What indices and accesses tell at the path of a number: the copies of the last loop change first.
use Rattle.std.specs.Prelude.{ℕ, false, List}
use Rattle.dh_tree.specs.declared.tables.Dim.{Dim}
use Rattle.dh_tree.specs.declared.trees.counters.Counter.{Counter}
use Rattle.dh_tree.specs.declared.trees.expressions.Expr.{Expr}
use Rattle.dh_tree.specs.declared.trees.programs.Tree.{Tree}
use Rattle.dh_tree.specs.Elements.{bank_of}
use Rattle.dh_tree.specs.Indices.{index_kind}
use Rattle.dh_tree.specs.Seen.{all_terms_seen, form_seen}
use Rattle.dh_meets.specs.Charges.{loop_factors, index_in, indices_in}
use Rattle.dh_ports.specs.Banks.{bank_at_path, path_of_number}
use Rattle.dh_shape.specs.Classified.{loops_in}
use Rattle.dh_ports.specs.Claims.{source_of}

-- the value of an index
abbrev pub index_numbered : Tree → List Counter → (number : ℕ) → Expr → ℕ
index_numbered tree loops number e = index_in loops (path_of_number (loop_factors loops) number) (index_kind (loops_in tree) e.kind (form_seen e.form))

-- the bank that indices tell
abbrev pub indexed_bank : Tree → List Counter → (number : ℕ) → List Dim → List Expr → ℕ
indexed_bank tree loops number dims es = bank_of dims (indices_in (loops_in tree) loops (path_of_number (loop_factors loops) number) (all_terms_seen es))

-- the bank that an access reaches
abbrev pub numbered_bank : Tree → List Counter → (number : ℕ) → List Dim → Expr → ℕ
numbered_bank tree loops number dims e = bank_at_path tree dims (source_of loops false e) (path_of_number (loop_factors loops) number)
