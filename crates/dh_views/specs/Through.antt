-- What parts of a program's tree break of the rules on views: accesses through them, and their offsets.
use Rattle.std.specs.Prelude.{ℕ, List, ◌++◌, map, Option, option_map, Vec}
use Rattle.std.specs.Global.{Global, Box}
use Rattle.dh_shape.specs.Classified.{loops_in}
use Rattle.dh_tree.specs.declared.breaches.Breach.{Breach}
use Rattle.dh_tree.specs.declared.trees.commands.Command.{Command}
use Rattle.dh_tree.specs.declared.trees.expressions.Expr.{Expr}
use Rattle.dh_tree.specs.declared.trees.programs.Tree.{Tree}
use Rattle.dh_tree.specs.Indices.{access_index_breaches}
use Rattle.dh_tree.specs.PlainTrees.{Term}
use Rattle.dh_tree.specs.Seen.{term_seen, all_terms_seen, factor_seen, action_seen, all_parts_seen, maybe_block_seen}
use Rattle.dh_tree.specs.ViewBreaches.{KnownViews, dims_through, term_view_breaches, terms_view_breaches, maybe_view_breaches, offsets_view_breaches, action_view_breaches, other_view_breaches, groups_view_breaches}
use Rattle.dh_tree.specs.Views.{view_in}
use Rattle.dh_viewing.specs.Judged.{ViewsJudged as JudgedViews}
use Rattle.dh_views.specs.Walked.{index_context_in, term_broken}

-- the names of a program, with its views
abbrev pub known_through : Tree → JudgedViews → KnownViews
known_through tree v = record { names = index_context_in tree; views = v.all; kept = v.kept }

-- the breaches of the indices of an access through a view that keeps the rules, by the entity of its name
abbrev pub through_broken : Tree → JudgedViews → (entity : Option ℕ) → List Expr → List Breach
through_broken tree v entity es = access_index_breaches (loops_in tree) (dims_through (view_in v.kept entity)) (all_terms_seen es)

-- the breaches in an expression, in expressions, and in one that may lack
abbrev pub term_viewed : Tree → JudgedViews → Expr → List Breach
term_viewed tree v e = term_view_breaches (known_through tree v) (term_seen e)

abbrev pub terms_viewed : Tree → JudgedViews → List Expr → List Breach
terms_viewed tree v es = terms_view_breaches (known_through tree v) (all_terms_seen es)

abbrev pub maybe_viewed : Tree → JudgedViews → Option Expr → List Breach
maybe_viewed tree v e = maybe_view_breaches (known_through tree v) (option_map term_seen e)

-- the breaches in an offset, and in offsets: those of accesses of memories, too
abbrev pub offset_viewed : Tree → JudgedViews → Expr → List Breach
offset_viewed tree v e = term_broken tree e ++ term_viewed tree v e

abbrev pub offsets_viewed : Tree → JudgedViews → List Term → List Breach
offsets_viewed tree v ts = offsets_view_breaches (known_through tree v) ts

-- those in the offsets of a suffix, each of which stands behind its factor
abbrev pub multiples_viewed : Tree → JudgedViews → List (ℕ × Expr) → List Breach
multiples_viewed tree v by = offsets_viewed tree v (map (λ s. s.offset) (map factor_seen by))

-- the breaches in a command, in a block that may lack, and in the parts of a block
abbrev pub command_viewed : Tree → JudgedViews → Command → List Breach
command_viewed tree v c = action_view_breaches (known_through tree v) (action_seen c)

abbrev pub other_viewed : Tree → JudgedViews → Option (Box Command) → List Breach
other_viewed tree v block = other_view_breaches (known_through tree v) (maybe_block_seen block)

abbrev pub parts_viewed : Tree → JudgedViews → List (Vec Command Global) → List Breach
parts_viewed tree v parts = groups_view_breaches (known_through tree v) (all_parts_seen parts)
