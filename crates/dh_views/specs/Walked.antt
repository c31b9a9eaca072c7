-- What parts of a program's tree break of the rules on shapes, indices and bounds.
use Rattle.std.specs.Prelude.{◌≡◌, ℕ, Bool, List, [], ◌++◌, Option, option_map, Vec}
use Rattle.std.specs.Global.{Global, Box}
use Rattle.dh_base.specs.declared.places.Place.{Place}
use Rattle.dh_shape.specs.Classified.{Classifies, loops_in}
use Rattle.dh_shape.specs.declared.indices.IndexKind.{IndexKind}
use Rattle.dh_tree.specs.declared.breaches.Breach.{Breach}
use Rattle.dh_tree.specs.declared.tables.Dim.{Dim}
use Rattle.dh_tree.specs.declared.trees.commands.Command.{Command}
use Rattle.dh_tree.specs.declared.trees.expressions.Expr.{Expr}
use Rattle.dh_tree.specs.declared.trees.programs.Tree.{Tree}
use Rattle.dh_tree.specs.Elements.{rows_of}
use Rattle.dh_tree.specs.Indices as indices
use Rattle.dh_tree.specs.Indices.{IndexContext, index_context_of, index_kind, one_index_breaches, indices_breaches, access_index_breaches, physical_breaches, kept_dims, term_index_breaches, terms_index_breaches, maybe_index_breaches, shape_breaches, turns_breaches, action_index_breaches, other_index_breaches, groups_index_breaches}
use Rattle.dh_tree.specs.Kinds.{signed_number}
use Rattle.dh_tree.specs.LeastBreach.{least_of}
use Rattle.dh_tree.specs.Memories.{memory_in, memories_of}
use Rattle.dh_tree.specs.PlainTrees.{ActionForm, lets, lets_memory, views, assigns, stores, reduces, calls, blocks, decides, repeats, counts}
use Rattle.dh_tree.specs.Seen.{form_seen, term_seen, all_terms_seen, action_form_seen, action_seen, all_parts_seen, maybe_block_seen, program_seen}

-- the memories and loops of a program
abbrev pub index_context_in : Tree → IndexContext
index_context_in tree = index_context_of (program_seen tree)

-- the dimensions of what a name stands for, where its shape breaks no rule
abbrev pub dims_in : Tree → (entity : Option ℕ) → Option (List Dim)
dims_in tree entity = kept_dims (memory_in (memories_of (program_seen tree)) entity)

-- the breaches of an index of a dimension
abbrev pub index_broken : Tree → Dim → Expr → List Breach
index_broken tree d index = one_index_breaches d index.place (index_kind (loops_in tree) index.kind (form_seen index.form))

-- the breach of an index of this kind, whichever index the kind is told of
abbrev pub KeepsKind : Tree → (old new : Option Breach) → Dim → Place → IndexKind → Type 0
KeepsKind tree old new d place kind = (k : indices.IndexKind) → Classifies (loops_in tree) k kind → new ≡ least_of old (one_index_breaches d place k)

-- the breaches of indices, each of its dimension
abbrev pub indices_broken : Tree → List Dim → List Expr → List Breach
indices_broken tree ds es = indices_breaches (loops_in tree) ds (all_terms_seen es)

-- the breaches of the indices of an access, by the entity of its name
abbrev pub access_broken : Tree → (entity : Option ℕ) → List Expr → List Breach
access_broken tree entity es = access_index_breaches (loops_in tree) (dims_in tree entity) (all_terms_seen es)

-- whether a literal is no row of a bank
abbrev pub is_no_row : List Dim → (negative : Bool) → (value : ℕ) → Bool
is_no_row ds negative value = indices.is_beyond (rows_of ds) (signed_number negative value)

-- the breaches of the bank and the row of an access to a bank
abbrev pub bank_broken : Option (List Dim) → (bank : ℕ) → Place → Expr → List Breach
bank_broken ds bank place row = physical_breaches ds bank place (term_seen row)

-- the breaches in an expression, in expressions, and in one that may lack
abbrev pub term_broken : Tree → Expr → List Breach
term_broken tree e = term_index_breaches (index_context_in tree) (term_seen e)

abbrev pub terms_broken : Tree → List Expr → List Breach
terms_broken tree es = terms_index_breaches (index_context_in tree) (all_terms_seen es)

abbrev pub maybe_broken : Tree → Option Expr → List Breach
maybe_broken tree e = maybe_index_breaches (index_context_in tree) (option_map term_seen e)

-- the breaches of a command, without those of the commands inside it
abbrev pub own_breaches : IndexContext → ActionForm → List Breach
own_breaches known (lets name declared value) = maybe_index_breaches known value
own_breaches known (lets_memory name shape shape_places value) = shape_breaches shape shape_places ++ maybe_index_breaches known value
own_breaches known (views name parent form) = []
own_breaches known (assigns target value) = term_index_breaches known value
own_breaches known (stores target value) = term_index_breaches known target ++ term_index_breaches known value
own_breaches known (reduces target o value) = term_index_breaches known value
own_breaches known (calls function arguments) = []
own_breaches known (blocks body) = []
own_breaches known (decides test chosen other) = term_index_breaches known test
own_breaches known (repeats test body) = term_index_breaches known test
own_breaches known (counts i declared low high factor body combine combine_place) = turns_breaches low high factor

abbrev pub own_broken : Tree → Command → List Breach
own_broken tree c = own_breaches (index_context_in tree) (action_form_seen c.form)

-- the breaches in a command, in a block that may lack, and in the parts of a block
abbrev pub command_broken : Tree → Command → List Breach
command_broken tree c = action_index_breaches (index_context_in tree) (action_seen c)

abbrev pub other_broken : Tree → Option (Box Command) → List Breach
other_broken tree block = other_index_breaches (index_context_in tree) (maybe_block_seen block)

abbrev pub parts_broken : Tree → List (Vec Command Global) → List Breach
parts_broken tree parts = groups_index_breaches (index_context_in tree) (all_parts_seen parts)
