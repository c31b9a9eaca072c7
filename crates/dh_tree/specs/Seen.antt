-- What clauses see of a tree of the code: the plain tree that it stands for.
use Rattle.std.specs.Prelude.{◌≡◌, ℕ, List, [], ◌∷◌, map, Option, Some, None, option_map, Vec, Box}
use Rattle.std.specs.Global.{Global}
use Rattle.dh_base.specs.declared.places.Place.{Place}
use Rattle.dh_tree.specs.declared.trees.expressions.Ref.{Ref}
use Rattle.dh_tree.specs.declared.trees.expressions.Expr.{Expr}
use Rattle.dh_tree.specs.declared.trees.expressions.ExprForm.{ExprForm}
use Rattle.dh_tree.specs.declared.trees.expressions.ExprForm.TheVariants.{Number, Truth, Variable, Access, Access', Physical', Binary', Cast'}
use Rattle.dh_tree.specs.declared.trees.expressions.ExprForm.TheBlock.{Row_of-Expr, end_of-Expr, more_of-Expr}
use Rattle.dh_tree.specs.declared.trees.commands.Command.{Command}
use Rattle.dh_tree.specs.declared.trees.commands.CommandForm.{CommandForm}
use Rattle.dh_tree.specs.declared.trees.commands.CommandForm.TheVariants.{Let, LetMemory, View, Assign, Store, Reduce, Call, Block, Block', If', While', For'}
use Rattle.dh_tree.specs.declared.trees.commands.CommandForm.TheBlock as block
use Rattle.dh_tree.specs.declared.trees.commands.LoopHeader.{LoopHeader}
use Rattle.dh_tree.specs.declared.trees.commands.Sides.{Sides}
use Rattle.dh_tree.specs.declared.trees.commands.ViewForm.{ViewForm}
use Rattle.dh_tree.specs.declared.trees.commands.ViewForm.TheVariants.{Shrink, Split, Suffix, Shift}
use Rattle.dh_tree.specs.declared.trees.programs.Decl.{Decl}
use Rattle.dh_tree.specs.declared.trees.programs.Parameter.{Parameter}
use Rattle.dh_tree.specs.declared.trees.programs.Function.{Function}
use Rattle.dh_tree.specs.declared.trees.programs.Tree.{Tree}
use Rattle.dh_tree.specs.PlainTrees.{Term, term, TermForm, number, truth_value, named, accessed, in_bank, applied, converted, Terms, no_terms, term_then, Suffixed, ViewPlan, shrinks, splits, suffixes, shifts, Placed, Unrolled, Action, action, ActionForm, lets, lets_memory, views, assigns, stores, reduces, calls, blocks, decides, repeats, counts, MaybeAction, no_action, one_action, Actions, no_actions, action_then, Groups, no_groups, group_then, Declared, Formal, Defined, Program}

unfoldable mutual
  pub form_seen : ExprForm → TermForm
  form_seen (Number negative value) = number negative value
  form_seen (Truth value) = truth_value value
  form_seen (Variable of) = named of
  form_seen (Access' of shape row) = accessed of (term_row_seen row)
  form_seen (Physical' of bank bank_place p place kind form) = in_bank of bank bank_place (term place kind (form_seen form))
  form_seen (Binary' op p place kind left q place' kind' right) = applied op (term place kind (form_seen left)) (term place' kind' (form_seen right))
  form_seen (Cast' p place kind inner to) = converted (term place kind (form_seen inner)) to

  pub term_row_seen : {m : _} → Row_of-Expr m → Terms
  term_row_seen end_of-Expr = no_terms
  term_row_seen (more_of-Expr place kind form rest) = term_then (term place kind (form_seen form)) (term_row_seen rest)

abbrev pub term_seen : Expr → Term
term_seen e = term e.place e.kind (form_seen e.form)

-- terms in order, as the plain trees hold them
abbrev pub terms : List Term → Terms
terms [] = no_terms
terms (t ∷ ts) = term_then t (terms ts)

-- expressions of the code in order, as a list and as an access holds them
abbrev pub expressions_seen : Vec Expr Global → List Term
expressions_seen exprs = map term_seen exprs.items

abbrev pub all_terms_seen : List Expr → Terms
all_terms_seen exprs = terms (map term_seen exprs)

-- the plain tree of an access has those of its indices, in order
abbrev pub SeesIndices : Ref → Vec Expr Global → Type 0
SeesIndices of indices = form_seen (Access of indices) ≡ accessed of (terms (map term_seen indices.items))

abbrev pub factor_seen : ℕ × Expr → Suffixed
factor_seen (n, e) = record { factor = n; offset = term_seen e }

-- how a view shows its parent
abbrev pub view_plan : ViewForm → ViewPlan
view_plan (Shrink by by_place) = shrinks by.items by_place.items
view_plan (Split by by_place) = splits by.items by_place.items
view_plan (Suffix by by_place) = suffixes (map factor_seen by.items) by_place.items
view_plan (Shift by) = shifts (map term_seen by.items)

abbrev pub placed : ℕ → Place → Placed
placed value place = record { value = value; place = place }

abbrev pub unrolled : ℕ → Place → Place → Unrolled
unrolled value place word = record { value = value; place = place; word = word }

-- both sides of a store, as the form of a command
abbrev pub sides_seen : Sides → ActionForm
sides_seen s = stores (term_seen s.target) (term_seen s.value)

-- the numbers of a loop, each with its place
abbrev pub low_seen : LoopHeader → Placed
low_seen h = placed h.low h.low_place

abbrev pub high_seen : LoopHeader → Placed
high_seen h = placed h.high h.high_place

abbrev pub unroll_seen : LoopHeader → Unrolled
unroll_seen h = unrolled h.factor h.factor_place h.unroll_place

-- the loop with this header, this body, and this block that joins its copies
abbrev pub counts_seen : LoopHeader → Action → MaybeAction → ActionForm
counts_seen h body combine = counts h.iterator h.declared (low_seen h) (high_seen h) (unroll_seen h) body combine h.combine_place

unfoldable mutual
  pub action_form_seen : CommandForm → ActionForm
  action_form_seen (Let declared name value) = lets name declared (option_map term_seen value.value)
  action_form_seen (LetMemory name shape shape_places value) = lets_memory name.value shape.value shape_places.value (option_map term_seen value.value)
  action_form_seen (View name parent form) = views name.value parent.value (view_plan form.value)
  action_form_seen (Assign target value) = assigns target (term_seen value.value)
  action_form_seen (Store sides) = sides_seen sides.value
  action_form_seen (Reduce op target value) = reduces target op (term_seen value.value)
  action_form_seen (Call function arguments) = calls function.value (map term_seen arguments.items)
  action_form_seen (Block' shape rows) = blocks (rows_seen rows)
  action_form_seen (If' test p id place form other) = decides (term_seen test.value) (action id place (action_form_seen form)) (other_seen other)
  action_form_seen (While' test p id place form) = repeats (term_seen test.value) (action id place (action_form_seen form))
  action_form_seen (For' header p id place form combine) = counts_seen header.value (action id place (action_form_seen form)) (other_seen combine)

  pub other_seen : block.Held-CommandForm-If-2 → MaybeAction
  other_seen block.None' = no_action
  other_seen (block.Some' p id place form) = one_action (action id place (action_form_seen form))

  pub rows_seen : {m : _} → block.Row_of-CommandForm-Block-0-1 m → Groups
  rows_seen block.end_of-CommandForm-Block-0-1 = no_groups
  rows_seen (block.more_of-CommandForm-Block-0-1 shape row rest) = group_then (commands_seen row) (rows_seen rest)

  pub commands_seen : {m : _} → block.Row_of-Command m → Actions
  commands_seen block.end_of-Command = no_actions
  commands_seen (block.more_of-Command id place form rest) = action_then (action id place (action_form_seen form)) (commands_seen rest)

abbrev pub action_seen : Command → Action
action_seen c = action c.id c.place (action_form_seen c.form)

-- commands in order, as the plain trees hold them
abbrev pub actions : List Action → Actions
actions [] = no_actions
actions (a ∷ rest) = action_then a (actions rest)

-- the commands of a part
abbrev pub part_seen : Vec Command Global → Actions
part_seen part = actions (map action_seen part.items)

-- parts in order, as the plain trees hold them
abbrev pub groups : List Actions → Groups
groups [] = no_groups
groups (g ∷ rest) = group_then g (groups rest)

-- the parts of a block
abbrev pub all_parts_seen : List (Vec Command Global) → Groups
all_parts_seen parts = groups (map part_seen parts)

-- the plain tree of a block has those of its parts, in order
abbrev pub SeesParts : Vec (Vec Command Global) Global → Type 0
SeesParts body = action_form_seen (Block body) ≡ blocks (groups (map part_seen body.items))

-- a block that may lack
abbrev pub maybe_seen : Option Action → MaybeAction
maybe_seen None = no_action
maybe_seen (Some a) = one_action a

-- a block that may lack, as the code holds it
abbrev pub maybe_block_seen : Option (Box Command Global) → MaybeAction
maybe_block_seen held = maybe_seen (option_map (λ b. action_seen b.value) held)

abbrev pub declared_seen : Decl → Declared
declared_seen d = record { name = d.name; shape = d.shape; shape_places = d.shape_places }

abbrev pub formal_seen : Parameter → Formal
formal_seen p = record { name = p.name; shape = p.shape; shape_places = p.shape_places; kind = p.kind }

abbrev pub defined_seen : Function → Defined
defined_seen f = record { place = f.place; name = f.name; parameters = map formal_seen f.parameters.items; body = action_seen f.body }

abbrev pub program_seen : Tree → Program
program_seen t = record { decls = map declared_seen t.decls.items; functions = map defined_seen t.functions.items; body = action_seen t.body; entities = t.entities.items }
