-- What is seen of a command, form by form, where its parts stand in the code's lists and boxes.
use Rattle.std.proofs.Common.{◌≡◌, map, Option, Some, None, option_map, refl, ap, sym, ◌∙◌}
use Rattle.std.specs.Prelude.{Vec, Box}
use Rattle.std.specs.Global.{Global}
use Rattle.dh_value.specs.declared.kinds.Kind.{Kind}
use Rattle.dh_value.specs.declared.operators.Op.{Op}
use Rattle.dh_tree.specs.declared.tables.Shape.{Shape}
use Rattle.dh_tree.specs.declared.trees.expressions.Ref.{Ref}
use Rattle.dh_tree.specs.declared.trees.expressions.Expr.{Expr}
use Rattle.dh_tree.specs.declared.trees.programs.ShapePlaces.{ShapePlaces}
use Rattle.dh_tree.specs.declared.trees.commands.Command.{Command}
use Rattle.dh_tree.specs.declared.trees.commands.CommandForm.TheVariants.{Let, LetMemory, View, Assign, Store, Reduce, Call, Block, If, While, For}
use Rattle.dh_tree.specs.declared.trees.commands.CommandForm.TheBlock as block
use Rattle.dh_tree.specs.declared.trees.commands.LoopHeader.{LoopHeader}
use Rattle.dh_tree.specs.declared.trees.commands.Sides.{Sides}
use Rattle.dh_tree.specs.declared.trees.commands.ViewForm.{ViewForm}
use Rattle.dh_tree.specs.PlainTrees.{action, lets, lets_memory, views, assigns, reduces, calls, blocks, decides, repeats, action_then, group_then}
use Rattle.dh_tree.specs.Seen.{term_seen, view_plan, sides_seen, counts_seen, action_form_seen, rows_seen, commands_seen, action_seen, actions, part_seen, groups, maybe_seen, maybe_block_seen}
use mathlib.Core.Former.{Count}

pub let_is : (declared : Option Kind) (name : Ref) (value : Box (Option Expr) Global) → action_form_seen (Let declared name value) ≡ lets name declared (option_map term_seen value.value)
unfolding action_form_seen
let_is declared name value = refl

pub let_memory_is : (name : Box Ref Global) (shape : Box Shape Global) (places : Box ShapePlaces Global) (value : Box (Option Expr) Global)
    → action_form_seen (LetMemory name shape places value) ≡ lets_memory name.value shape.value places.value (option_map term_seen value.value)
unfolding action_form_seen
let_memory_is name shape places value = refl

pub view_is : (name parent : Box Ref Global) (form : Box ViewForm Global) → action_form_seen (View name parent form) ≡ views name.value parent.value (view_plan form.value)
unfolding action_form_seen
view_is name parent form = refl

pub assign_is : (target : Ref) (value : Box Expr Global) → action_form_seen (Assign target value) ≡ assigns target (term_seen value.value)
unfolding action_form_seen
assign_is target value = refl

pub store_is : (sides : Box Sides Global) → action_form_seen (Store sides) ≡ sides_seen sides.value
unfolding action_form_seen
store_is sides = refl

pub reduce_is : (op : Op) (target : Ref) (value : Box Expr Global) → action_form_seen (Reduce op target value) ≡ reduces target op (term_seen value.value)
unfolding action_form_seen
reduce_is op target value = refl

pub call_is : (function : Box Ref Global) (arguments : Vec Expr Global) → action_form_seen (Call function arguments) ≡ calls function.value (map term_seen arguments.items)
unfolding action_form_seen
call_is function arguments = refl

row_is : (n : Count) (k : block.Row_of-Command n) → commands_seen k ≡ actions (map action_seen (block.items-the_row-Command n k))
unfolding action_form_seen
row_is _ block.end_of-Command = refl
row_is _ (block.more_of-Command {n = n} id place form rest) = ap (λ s. action_then (action id place (action_form_seen form)) s) (row_is n rest)

pub while_is : (test : Box Expr Global) (body : _) → action_form_seen (While test body) ≡ repeats (term_seen test.value) (action_seen body.value)
unfolding action_form_seen
while_is test body = refl

part_is : (shape : _) (row : block.Row_of-Command _) → commands_seen row ≡ part_seen (block.shown-the_row-Command-0 shape row)
part_is shape row = row_is _ row ∙ ap (λ l. actions (map action_seen l)) (sym (block.items_shown-the_row-Command-0 shape row))

rows_are : (n : Count) (k : block.Row_of-CommandForm-Block-0-1 n) → rows_seen k ≡ groups (map part_seen (block.items-the_row-CommandForm-Block-0-1 n k))
unfolding action_form_seen
rows_are _ block.end_of-CommandForm-Block-0-1 = refl
rows_are _ (block.more_of-CommandForm-Block-0-1 {n = n} shape row rest) =
    ap (λ g. group_then g (rows_seen rest)) (part_is shape row) ∙ ap (λ s. group_then (part_seen (block.shown-the_row-Command-0 shape row)) s) (rows_are n rest)

pub block_is : (body : Vec (Vec Command Global) Global) → action_form_seen (Block body) ≡ blocks (groups (map part_seen body.items))
unfolding action_form_seen
block_is body = ap (λ s. blocks s) (rows_are _ (block.hidden-the_row-CommandForm-Block-0-1-1 body) ∙ ap (λ l. groups (map part_seen l)) (block.items_hidden-the_row-CommandForm-Block-0-1-1 body))

pub if_is : (test : Box Expr Global) (yes other : _) → action_form_seen (If test yes other) ≡ decides (term_seen test.value) (action_seen yes.value) (maybe_seen (option_map (λ b. action_seen b.value) other))
unfolding action_form_seen
if_is test body None = refl
if_is test body (Some b) = refl

pub for_is : (header : Box LoopHeader Global) (body combine : _) → action_form_seen (For header body combine) ≡ counts_seen header.value (action_seen body.value) (maybe_seen (option_map (λ b. action_seen b.value) combine))
unfolding action_form_seen
for_is header body None = refl
for_is header body (Some b) = refl

pub ruleset actions_are = (let_is, let_memory_is, view_is, assign_is, store_is, reduce_is, call_is, while_is, block_is, if_is, for_is)

-- The same by what is read behind their boxes.
pub let_at : (declared : Option Kind) (name : Ref) (value : Box (Option Expr) Global) (v : Option Expr) → v ≡ value.value → action_form_seen (Let declared name value) ≡ lets name declared (option_map term_seen v)
let_at declared name value v is = let_is declared name value ∙ ap (λ (x : Option Expr). lets name declared (option_map term_seen x)) (sym is)

pub view_at : (name parent : Box Ref Global) (form : Box ViewForm Global) (n p : Ref) (f : ViewForm) → n ≡ name.value → p ≡ parent.value → f ≡ form.value → action_form_seen (View name parent form) ≡ views n p (view_plan f)
view_at name parent form n p f is at by =
    view_is name parent form ∙ (ap (λ (r : Ref). views r parent.value (view_plan form.value)) (sym is) ∙ (ap (λ (r : Ref). views n r (view_plan form.value)) (sym at) ∙ ap (λ (v : ViewForm). views n p (view_plan v)) (sym by)))

pub assign_at : (target : Ref) (value : Box Expr Global) (v : Expr) → v ≡ value.value → action_form_seen (Assign target value) ≡ assigns target (term_seen v)
assign_at target value v is = assign_is target value ∙ ap (λ (x : Expr). assigns target (term_seen x)) (sym is)

pub store_at : (sides : Box Sides Global) (s : Sides) → s ≡ sides.value → action_form_seen (Store sides) ≡ sides_seen s
store_at sides s is = store_is sides ∙ ap sides_seen (sym is)

pub reduce_at : (op : Op) (target : Ref) (value : Box Expr Global) (v : Expr) → v ≡ value.value → action_form_seen (Reduce op target value) ≡ reduces target op (term_seen v)
reduce_at op target value v is = reduce_is op target value ∙ ap (λ (x : Expr). reduces target op (term_seen x)) (sym is)

pub if_at : (test : Box Expr Global) (first : Box Command Global) (other : Option (Box Command Global)) (t : Expr) (c : Command) → t ≡ test.value → c ≡ first.value
    → action_form_seen (If test first other) ≡ decides (term_seen t) (action_seen c) (maybe_block_seen other)
if_at test first other t c is at =
    if_is test first other ∙ (ap (λ (x : Expr). decides (term_seen x) (action_seen first.value) (maybe_block_seen other)) (sym is) ∙ ap (λ (b : Command). decides (term_seen t) (action_seen b) (maybe_block_seen other)) (sym at))

pub while_at : (test : Box Expr Global) (body : Box Command Global) (t : Expr) (c : Command) → t ≡ test.value → c ≡ body.value → action_form_seen (While test body) ≡ repeats (term_seen t) (action_seen c)
while_at test body t c is at =
    while_is test body ∙ (ap (λ (x : Expr). repeats (term_seen x) (action_seen body.value)) (sym is) ∙ ap (λ (b : Command). repeats (term_seen t) (action_seen b)) (sym at))

pub for_at : (header : Box LoopHeader Global) (body : Box Command Global) (combine : Option (Box Command Global)) (h : LoopHeader) (c : Command) → h ≡ header.value → c ≡ body.value
    → action_form_seen (For header body combine) ≡ counts_seen h (action_seen c) (maybe_block_seen combine)
for_at header body combine h c is at =
    for_is header body combine ∙ (ap (λ (x : LoopHeader). counts_seen x (action_seen body.value) (maybe_block_seen combine)) (sym is) ∙ ap (λ (b : Command). counts_seen h (action_seen b) (maybe_block_seen combine)) (sym at))
