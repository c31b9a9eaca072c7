-- The grammar: a text of each of its parts, one constructor for each line, with all that its tokens
-- tell: names, numbers and places. Where two lines differ in one token of a few, they share a
-- constructor, which holds the choice.
use Rattle.std.specs.Prelude.{ℕ, Bool, List}
use Rattle.dh_base.specs.declared.places.Place.{Place}
use Rattle.dh_value.specs.declared.operators.Op.{Op}

-- a name where it stands
pub record NameText : Type 0 where
  pub name : List ℕ
  pub place : Place

-- a number where it stands
pub record NumberText : Type 0 where
  pub value : ℕ
  pub place : Place

-- `bool`, `bit < width >` or `ubit < width >`
pub data KindText : Type 0 where
  bool_kind : (word : Place) → KindText
  bit_kind : (word less : Place) → (width : NumberText) → (greater : Place) → KindText
  ubit_kind : (word less : Place) → (width : NumberText) → (greater : Place) → KindText

-- nothing, or `{ ports }`
pub data PortsText : Type 0 where
  no_ports : PortsText
  some_ports : (opener : Place) → (ports : NumberText) → (closer : Place) → PortsText

-- nothing, or `bank banks`
pub data BanksText : Type 0 where
  no_banks : BanksText
  some_banks : (word : Place) → (banks : NumberText) → BanksText

-- `[size bank banks]` as often as one likes
pub data DimsText : Type 0 where
  no_dims : DimsText
  dim_then : (opener : Place) → (size : NumberText) → (banks : BanksText) → (closer : Place) → DimsText → DimsText

pub record TypeText : Type 0 where
  pub kind : KindText
  pub ports : PortsText
  pub dims : DimsText

mutual
  -- an expression of operators of all levels
  pub data ExprText : Type 0 where
    literal : NumberText → ExprText
    negative : (minus : Place) → NumberText → ExprText
    truth : (holds : Bool) → (word : Place) → ExprText
    variable : NameText → ExprText
    access : AccessText → ExprText
    bracket : (opener : Place) → ExprText → (closer : Place) → ExprText
    cast : (opener : Place) → ExprText → (word : Place) → KindText → (closer : Place) → ExprText
    binary : (op : Op) → (sign : Place) → (left right : ExprText) → ExprText

  -- `name[index]..` or `name{bank}[row]`
  pub data AccessText : Type 0 where
    element : NameText → IndexText → MoreIndicesText → AccessText
    physical : NameText → (opener : Place) → (bank : NumberText) → (closer : Place) → IndexText → AccessText

  pub data IndexText : Type 0 where
    index : (opener : Place) → ExprText → (closer : Place) → IndexText

  pub data MoreIndicesText : Type 0 where
    no_indices : MoreIndicesText
    index_then : IndexText → MoreIndicesText → MoreIndicesText

-- what is left of a list after one of its expressions, with the `)` that ends it
pub data MoreArgumentsText : Type 0 where
  no_more_arguments : (closer : Place) → MoreArgumentsText
  argument_then : (comma : Place) → ExprText → MoreArgumentsText → MoreArgumentsText

-- what follows `(`, with the `)` that ends it
pub data ArgumentsText : Type 0 where
  no_arguments : (closer : Place) → ArgumentsText
  some_arguments : ExprText → MoreArgumentsText → ArgumentsText

-- `[by factor]`
pub record FactorText : Type 0 where
  pub opener : Place
  pub word : Place
  pub factor : NumberText
  pub closer : Place

-- `[by factor * offset]`
pub record SuffixText : Type 0 where
  pub opener : Place
  pub word : Place
  pub factor : NumberText
  pub star : Place
  pub offset : ExprText
  pub closer : Place

-- `[by offset]`
pub record OffsetText : Type 0 where
  pub opener : Place
  pub word : Place
  pub offset : ExprText
  pub closer : Place

-- the form of a view, with its brackets, of which there is one at least
pub data ViewText : Type 0 where
  shrink : (word : Place) → (parent : NameText) → FactorText → List FactorText → ViewText
  split : (word : Place) → (parent : NameText) → FactorText → List FactorText → ViewText
  suffix : (word : Place) → (parent : NameText) → SuffixText → List SuffixText → ViewText
  shift : (word : Place) → (parent : NameText) → OffsetText → List OffsetText → ViewText

-- nothing, or `= value`
pub data ValueText : Type 0 where
  no_value : ValueText
  some_value : (equal : Place) → ExprText → ValueText

-- the signs of reducers
pub data ReducerText : Type 0 where
  adds subtracts multiplies : ReducerText

pub data SimpleText : Type 0 where
  let_typed : (word : Place) → NameText → (colon : Place) → TypeText → ValueText → SimpleText
  let_value : (word : Place) → NameText → (equal : Place) → ExprText → SimpleText
  view : (word : Place) → NameText → (equal : Place) → ViewText → SimpleText
  assign : NameText → (becomes : Place) → ExprText → SimpleText
  store : AccessText → (becomes : Place) → ExprText → SimpleText
  reduce : NameText → ReducerText → (sign : Place) → ExprText → SimpleText
  call : NameText → (opener : Place) → ArgumentsText → SimpleText

-- nothing, or `: kind`
pub data DeclaredText : Type 0 where
  no_declared : DeclaredText
  some_declared : (colon : Place) → KindText → DeclaredText

-- nothing, or `unroll factor`
pub data UnrollText : Type 0 where
  no_unroll : UnrollText
  some_unroll : (word : Place) → (factor : NumberText) → UnrollText

-- `for (let iterator: declared = low .. high) unroll factor`
pub record HeadText : Type 0 where
  pub word : Place
  pub opener : Place
  pub let_word : Place
  pub iterator : NameText
  pub declared : DeclaredText
  pub equal : Place
  pub low : NumberText
  pub range : Place
  pub high : NumberText
  pub closer : Place
  pub unroll : UnrollText

mutual
  -- `{ parts }`
  pub data BlockText : Type 0 where
    block : (opener : Place) → PartsText → (closer : Place) → BlockText

  pub data PartsText : Type 0 where
    last_part : PartText → PartsText
    part_then : PartText → (dashes : Place) → PartsText → PartsText

  pub data PartText : Type 0 where
    end_of_part : PartText
    last_simple : SimpleText → PartText
    simple_then : SimpleText → (semicolon : Place) → PartText → PartText
    compound_then : CompoundText → PartText → PartText
    semicolon_then : (semicolon : Place) → PartText → PartText

  pub data CompoundText : Type 0 where
    block_alone : BlockText → CompoundText
    if_alone : IfText → CompoundText
    while_loop : (word opener : Place) → ExprText → (closer : Place) → BlockText → CompoundText
    for_loop : HeadText → BlockText → CombineText → CompoundText

  pub data IfText : Type 0 where
    if_else : (word opener : Place) → ExprText → (closer : Place) → BlockText → ElseText → IfText

  pub data ElseText : Type 0 where
    no_else : ElseText
    else_block : (word : Place) → BlockText → ElseText
    else_if : (word : Place) → IfText → ElseText

  pub data CombineText : Type 0 where
    no_combine : CombineText
    some_combine : (word : Place) → BlockText → CombineText

-- `name: type`
pub record ParameterText : Type 0 where
  pub name : NameText
  pub colon : Place
  pub written : TypeText

pub data MoreParametersText : Type 0 where
  no_more_parameters : (closer : Place) → MoreParametersText
  parameter_then : (comma : Place) → ParameterText → MoreParametersText → MoreParametersText

pub data ParametersText : Type 0 where
  no_parameters : (closer : Place) → ParametersText
  some_parameters : ParameterText → MoreParametersText → ParametersText

pub data ItemsText : Type 0 where
  no_items : ItemsText
  decl_then : (word : Place) → NameText → (colon : Place) → TypeText → (semicolon : Place) → ItemsText → ItemsText
  def_then : (word : Place) → NameText → (opener : Place) → ParametersText → (equal : Place) → BlockText → ItemsText → ItemsText

pub record ProgramText : Type 0 where
  pub items : ItemsText
  pub parts : PartsText
  pub end : Place
