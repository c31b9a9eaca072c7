-- The entries of a map of names, as the definitions see them.
use Rattle.std.specs.Prelude.{ℕ, String, string_bytes}
use Rattle.std.specs.Global.{Global}
use Rattle.dh_tree.specs.Scopes.{ScopeEntry, binding}

-- an entry of a map of names
abbrev pub bound : String Global × ℕ → ScopeEntry
bound e = binding (string_bytes e.0) e.1
