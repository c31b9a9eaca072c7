-- The parser as a function over lists of tokens. It reads a text off the front and gives what is
-- left; or stops, and gives what is left from the first token on that it has no use for. Where it
-- calls itself it has a number of steps, at whose end it gives up; more steps than tokens suffice.
use Rattle.std.specs.Prelude.{ℕ, zero, suc, nat_le, Bool, true, false, if◌then◌else◌, List, [], ◌∷◌, length, Option, Some, None}
use Rattle.dh_base.specs.declared.places.Place.{Place}
use Rattle.dh_lexer.specs.declared.tokens.Token.{Token}
use Rattle.dh_lexer.specs.declared.tokens.TokenKind.{TokenKind}
use Rattle.dh_lexer.specs.declared.tokens.TokenKind.TheVariants as kind
use Rattle.dh_value.specs.declared.operators.Op.{Op}
use Rattle.dh_value.specs.declared.operators.Op.TheVariants as op
use Rattle.dh_parser.specs.declared.parsing.reading.Mark.{Mark}
use Rattle.dh_parser.specs.declared.parsing.reading.Mark.TheVariants as mark
use Rattle.dh_parser.specs.Marks.{is_mark, comes}
use Rattle.dh_parser.specs.Allowed.{level}
use Rattle.dh_parser.specs.Grammar.{NameText, NumberText, KindText, bool_kind, bit_kind, ubit_kind, PortsText, no_ports, some_ports, BanksText, no_banks, some_banks, DimsText, no_dims, dim_then, TypeText, ExprText, literal, negative, truth, variable, access, bracket, cast, binary, AccessText, element, physical, IndexText, index, MoreIndicesText, no_indices, index_then, MoreArgumentsText, no_more_arguments, argument_then, ArgumentsText, no_arguments, some_arguments, FactorText, SuffixText, OffsetText, ViewText, shrink, split, suffix, shift, ValueText, no_value, some_value, ReducerText, adds, subtracts, multiplies, SimpleText, let_typed, let_value, view, assign, store, reduce, call, DeclaredText, no_declared, some_declared, UnrollText, no_unroll, some_unroll, HeadText, BlockText, block, PartsText, last_part, part_then, PartText, end_of_part, last_simple, simple_then, compound_then, semicolon_then, CompoundText, block_alone, if_alone, while_loop, for_loop, IfText, if_else, ElseText, no_else, else_block, else_if, CombineText, no_combine, some_combine, ParameterText, MoreParametersText, no_more_parameters, parameter_then, ParametersText, no_parameters, some_parameters, ItemsText, no_items, decl_then, def_then, ProgramText}

-- what reading comes to
pub data Outcome (A : Type 0) : Type 0 where
  good : A → (rest : List Token) → Outcome A
  bad : (rest : List Token) → Outcome A
  deep : Outcome A

-- reads on after what was read
abbrev pub outcome_bind : {A B : Type 0} → Outcome A → (A → List Token → Outcome B) → Outcome B
outcome_bind (good a rest) go = go a rest
outcome_bind (bad rest) go = bad rest
outcome_bind deep go = deep

-- a mark, at its place
abbrev pub the : Mark → List Token → Outcome Place
the m [] = bad []
the m (t ∷ ts) = if is_mark t.kind m then good t.place ts else bad (t ∷ ts)

abbrev pub name_text : List ℕ → Place → NameText
name_text name place = record { name = name; place = place }

abbrev pub number_text : ℕ → Place → NumberText
number_text value place = record { value = value; place = place }

abbrev pub name_from : TokenKind → Token → List Token → Outcome NameText
name_from (kind.Name n) t ts = good (name_text n t.place) ts
name_from _ t ts = bad (t ∷ ts)

abbrev pub the_name : List Token → Outcome NameText
the_name [] = bad []
the_name (t ∷ ts) = name_from t.kind t ts

abbrev pub number_from : TokenKind → Token → List Token → Outcome NumberText
number_from (kind.Number n) t ts = good (number_text n t.place) ts
number_from _ t ts = bad (t ∷ ts)

abbrev pub the_number : List Token → Outcome NumberText
the_number [] = bad []
the_number (t ∷ ts) = number_from t.kind t ts

abbrev pub is_width : ℕ → Bool
is_width n = if nat_le 1 n then nat_le n 64 else false

abbrev pub width_from : TokenKind → Token → List Token → Outcome NumberText
width_from (kind.Number n) t ts = if is_width n then good (number_text n t.place) ts else bad (t ∷ ts)
width_from _ t ts = bad (t ∷ ts)

-- the width of a kind
abbrev pub the_width : List Token → Outcome NumberText
the_width [] = bad []
the_width (t ∷ ts) = width_from t.kind t ts

-- `< width >`, of which `make` makes a kind
abbrev pub width_then : (Place → NumberText → Place → KindText) → List Token → Outcome KindText
width_then make ts =
    outcome_bind (the mark.Less ts) λ less r.
    outcome_bind (the_width r) λ width r.
    outcome_bind (the mark.Greater r) λ greater r.
    good (make less width greater) r

abbrev pub kind_from : TokenKind → Token → List Token → Outcome KindText
kind_from kind.Bool t ts = good (bool_kind t.place) ts
kind_from kind.Bit t ts = width_then (bit_kind t.place) ts
kind_from kind.Ubit t ts = width_then (ubit_kind t.place) ts
kind_from _ t ts = bad (t ∷ ts)

abbrev pub the_kind : List Token → Outcome KindText
the_kind [] = bad []
the_kind (t ∷ ts) = kind_from t.kind t ts

abbrev pub the_ports : List Token → Outcome PortsText
the_ports ts =
    if comes mark.OpenBrace ts
    then (outcome_bind (the mark.OpenBrace ts) λ opener r.
    outcome_bind (the_number r) λ ports r.
    outcome_bind (the mark.CloseBrace r) λ closer r.
    good (some_ports opener ports closer) r)
    else good no_ports ts

abbrev pub the_banks : List Token → Outcome BanksText
the_banks ts =
    if comes mark.Bank ts
    then (outcome_bind (the mark.Bank ts) λ word r.
    outcome_bind (the_number r) λ banks r.
    good (some_banks word banks) r)
    else good no_banks ts

-- a dimension, as what it is put in front of others
abbrev pub the_dim : List Token → Outcome (DimsText → DimsText)
the_dim ts =
    outcome_bind (the mark.OpenBracket ts) λ opener r.
    outcome_bind (the_number r) λ size r.
    outcome_bind (the_banks r) λ banks r.
    outcome_bind (the mark.CloseBracket r) λ closer r.
    good (λ more. dim_then opener size banks closer more) r

abbrev pub the_dims : ℕ → List Token → Outcome DimsText
the_dims zero ts = deep
the_dims (suc n) ts =
    if comes mark.OpenBracket ts
    then (outcome_bind (the mark.OpenBracket ts) λ opener r.
    outcome_bind (the_number r) λ size r.
    outcome_bind (the_banks r) λ banks r.
    outcome_bind (the mark.CloseBracket r) λ closer r.
    outcome_bind (the_dims n r) λ more r.
    good (dim_then opener size banks closer more) r)
    else good no_dims ts

abbrev pub type_text : KindText → PortsText → DimsText → TypeText
type_text k ports dims = record { kind = k; ports = ports; dims = dims }

abbrev pub the_type : List Token → Outcome TypeText
the_type ts =
    outcome_bind (the_kind ts) λ k r.
    outcome_bind (the_ports r) λ ports r.
    outcome_bind (the_dims (suc (length r)) r) λ dims r.
    good (type_text k ports dims) r

-- an operator and what follows it
pub record Sign : Type 0 where
  pub op : Op
  pub place : Place
  pub rest : List Token

-- the operator that a token is
abbrev pub op_from : TokenKind → Option Op
op_from kind.Or = Some op.Either
op_from kind.And = Some op.Both
op_from kind.Equal = Some op.Eq
op_from kind.NotEqual = Some op.Ne
op_from kind.Less = Some op.Lt
op_from kind.Greater = Some op.Gt
op_from kind.LessEqual = Some op.Le
op_from kind.GreaterEqual = Some op.Ge
op_from kind.Bar = Some op.Or
op_from kind.Caret = Some op.Xor
op_from kind.Ampersand = Some op.And
op_from kind.ShiftLeft = Some op.Shl
op_from kind.ShiftRight = Some op.Shr
op_from kind.Plus = Some op.Add
op_from kind.Minus = Some op.Sub
op_from kind.Star = Some op.Mul
op_from _ = None

abbrev pub sign_text : Op → Place → List Token → Sign
sign_text o place rest = record { op = o; place = place; rest = rest }

abbrev pub sign_from : ℕ → Option Op → Token → List Token → Option Sign
sign_from k None t ts = None
sign_from k (Some o) t ts = if nat_le k (level o) then Some (sign_text o t.place ts) else None

-- an operator of at least this level
abbrev pub sign_at : ℕ → List Token → Option Sign
sign_at k [] = None
sign_at k (t ∷ ts) = sign_from k (op_from t.kind) t ts

-- a reader of expressions of at least a level
abbrev pub ExpressionReader : Type 0
ExpressionReader = ℕ → List Token → Outcome ExprText

abbrev pub the_index : ExpressionReader → List Token → Outcome IndexText
the_index read ts =
    outcome_bind (the mark.OpenBracket ts) λ opener r.
    outcome_bind (read 0 r) λ e r.
    outcome_bind (the mark.CloseBracket r) λ closer r.
    good (index opener e closer) r

abbrev pub more_indices : ExpressionReader → ℕ → List Token → Outcome MoreIndicesText
more_indices read zero ts = deep
more_indices read (suc n) ts =
    if comes mark.OpenBracket ts
    then (outcome_bind (the_index read ts) λ i r.
    outcome_bind (more_indices read n r) λ more r.
    good (index_then i more) r)
    else good no_indices ts

-- indices, of which there is one at least
abbrev pub all_indices : ExpressionReader → List Token → Outcome (IndexText × MoreIndicesText)
all_indices read ts =
    outcome_bind (the_index read ts) λ i r.
    outcome_bind (more_indices read (suc (length r)) r) λ more r.
    good (i, more) r

-- what follows the name of an access
abbrev pub access_from : ExpressionReader → NameText → List Token → Outcome AccessText
access_from read n ts =
    if comes mark.OpenBrace ts
    then (outcome_bind (the mark.OpenBrace ts) λ opener r.
    outcome_bind (the_number r) λ bank r.
    outcome_bind (the mark.CloseBrace r) λ closer r.
    outcome_bind (the_index read r) λ i r.
    good (physical n opener bank closer i) r)
    else (outcome_bind (the_index read ts) λ i r.
    outcome_bind (more_indices read (suc (length r)) r) λ more r.
    good (element n i more) r)

-- whether an access goes on after its name
abbrev pub access_goes_on : List Token → Bool
access_goes_on ts = if comes mark.OpenBracket ts then true else comes mark.OpenBrace ts

-- what follows the name of an operand
abbrev pub named_from : ExpressionReader → NameText → List Token → Outcome ExprText
named_from read n ts =
    if access_goes_on ts
    then (outcome_bind (access_from read n ts) λ a r. good (access a) r)
    else good (variable n) ts

-- what follows `(`
abbrev pub bracket_from : ExpressionReader → Place → List Token → Outcome ExprText
bracket_from read opener ts =
    outcome_bind (read 0 ts) λ e r.
    if comes mark.As r
    then (outcome_bind (the mark.As r) λ word r.
    outcome_bind (the_kind r) λ k r.
    outcome_bind (the mark.CloseParen r) λ closer r.
    good (cast opener e word k closer) r)
    else (outcome_bind (the mark.CloseParen r) λ closer r.
    good (bracket opener e closer) r)

abbrev pub operand_from : ExpressionReader → TokenKind → Token → List Token → Outcome ExprText
operand_from read (kind.Number n) t ts = good (literal (number_text n t.place)) ts
operand_from read kind.Minus t ts = outcome_bind (the_number ts) λ n r. good (negative t.place n) r
operand_from read kind.True t ts = good (truth true t.place) ts
operand_from read kind.False t ts = good (truth false t.place) ts
operand_from read (kind.Name n) t ts = named_from read (name_text n t.place) ts
operand_from read kind.OpenParen t ts = bracket_from read t.place ts
operand_from read _ t ts = bad (t ∷ ts)

abbrev pub operand : ExpressionReader → List Token → Outcome ExprText
operand read [] = bad []
operand read (t ∷ ts) = operand_from read t.kind t ts

-- goes on with the right operand of an operator
abbrev pub chain_with : ExpressionReader → ExprText → List Token → (ExprText → List Token → Outcome ExprText) → Option Sign → Outcome ExprText
chain_with read e ts go None = good e ts
chain_with read e ts go (Some s) = outcome_bind (read (suc (level s.op)) s.rest) λ f r. go (binary s.op s.place e f) r

-- what follows an operand: operators of at least this level with their right operands
abbrev pub chain : ExpressionReader → ℕ → ℕ → ExprText → List Token → Outcome ExprText
chain read zero k e ts = deep
chain read (suc n) k e ts = chain_with read e ts (λ f r. chain read n k f r) (sign_at k ts)

-- an expression of operators of at least this level
abbrev pub read : ℕ → ℕ → List Token → Outcome ExprText
read zero k ts = deep
read (suc d) k ts = outcome_bind (operand (read d) ts) λ e r. chain (read d) (suc (length r)) k e r

-- more steps than there are tokens
abbrev pub steps : List Token → ℕ
steps ts = suc (length ts)

-- an expression of operators of at least this level, with steps enough
unfoldable pub expression : ExpressionReader
expression k ts = read (steps ts) k ts

abbrev pub the_expression : List Token → Outcome ExprText
the_expression ts = expression 0 ts

-- `, argument`
abbrev pub the_argument : List Token → Outcome (Place × ExprText)
the_argument ts =
    outcome_bind (the mark.Comma ts) λ comma r.
    outcome_bind (the_expression r) λ e r.
    good (comma, e) r

abbrev pub more_arguments : ℕ → List Token → Outcome MoreArgumentsText
more_arguments zero ts = deep
more_arguments (suc n) ts =
    if comes mark.Comma ts
    then (outcome_bind (the mark.Comma ts) λ comma r.
    outcome_bind (the_expression r) λ e r.
    outcome_bind (more_arguments n r) λ more r.
    good (argument_then comma e more) r)
    else (outcome_bind (the mark.CloseParen ts) λ closer r.
    good (no_more_arguments closer) r)

-- what follows `(`
abbrev pub the_arguments : List Token → Outcome ArgumentsText
the_arguments ts =
    if comes mark.CloseParen ts
    then (outcome_bind (the mark.CloseParen ts) λ closer r. good (no_arguments closer) r)
    else (outcome_bind (the_expression ts) λ e r.
    outcome_bind (more_arguments (steps r) r) λ more r.
    good (some_arguments e more) r)

-- `( test )`, what an `if` or a `while` asks
pub record TestText : Type 0 where
  pub opener : Place
  pub test : ExprText
  pub closer : Place

abbrev pub test_text : Place → ExprText → Place → TestText
test_text opener test closer = record { opener = opener; test = test; closer = closer }

abbrev pub the_test : List Token → Outcome TestText
the_test ts =
    outcome_bind (the mark.OpenParen ts) λ opener r.
    outcome_bind (the_expression r) λ e r.
    outcome_bind (the mark.CloseParen r) λ closer r.
    good (test_text opener e closer) r

-- `as kind )`, what makes an expression behind `(` a cast
pub record CastText : Type 0 where
  pub word : Place
  pub kind : KindText
  pub closer : Place

abbrev pub cast_text : Place → KindText → Place → CastText
cast_text word k closer = record { word = word; kind = k; closer = closer }

abbrev pub the_cast : List Token → Outcome CastText
the_cast ts =
    outcome_bind (the mark.As ts) λ word r.
    outcome_bind (the_kind r) λ k r.
    outcome_bind (the mark.CloseParen r) λ closer r.
    good (cast_text word k closer) r

abbrev pub factor_text : Place → Place → NumberText → Place → FactorText
factor_text opener word factor closer = record { opener = opener; word = word; factor = factor; closer = closer }

abbrev pub suffix_text : Place → Place → NumberText → Place → ExprText → Place → SuffixText
suffix_text opener word factor star offset closer = record { opener = opener; word = word; factor = factor; star = star; offset = offset; closer = closer }

abbrev pub offset_text : Place → Place → ExprText → Place → OffsetText
offset_text opener word offset closer = record { opener = opener; word = word; offset = offset; closer = closer }

abbrev pub the_factor : List Token → Outcome FactorText
the_factor ts =
    outcome_bind (the mark.OpenBracket ts) λ opener r.
    outcome_bind (the mark.By r) λ word r.
    outcome_bind (the_number r) λ factor r.
    outcome_bind (the mark.CloseBracket r) λ closer r.
    good (factor_text opener word factor closer) r

abbrev pub the_suffix : List Token → Outcome SuffixText
the_suffix ts =
    outcome_bind (the mark.OpenBracket ts) λ opener r.
    outcome_bind (the mark.By r) λ word r.
    outcome_bind (the_number r) λ factor r.
    outcome_bind (the mark.Star r) λ sign r.
    outcome_bind (operand (read (steps r)) r) λ offset r.
    outcome_bind (the mark.CloseBracket r) λ closer r.
    good (suffix_text opener word factor sign offset closer) r

abbrev pub the_offset : List Token → Outcome OffsetText
the_offset ts =
    outcome_bind (the mark.OpenBracket ts) λ opener r.
    outcome_bind (the mark.By r) λ word r.
    outcome_bind (the_expression r) λ offset r.
    outcome_bind (the mark.CloseBracket r) λ closer r.
    good (offset_text opener word offset closer) r

-- more of what begins with `[`
abbrev pub more_of : {A : Type 0} → (List Token → Outcome A) → ℕ → List Token → Outcome (List A)
more_of one zero ts = deep
more_of one (suc n) ts =
    if comes mark.OpenBracket ts
    then (outcome_bind (one ts) λ a r. outcome_bind (more_of one n r) λ more r. good (a ∷ more) r)
    else good [] ts

-- what begins with `[`, once or more
abbrev pub all_of : {A : Type 0} → (List Token → Outcome A) → List Token → Outcome (A × List A)
all_of one ts =
    outcome_bind (one ts) λ a r.
    outcome_bind (more_of one (steps r) r) λ more r.
    good (a, more) r

-- the parent of a view and its brackets, apart
abbrev pub parent_and : {A : Type 0} → (List Token → Outcome A) → List Token → Outcome (NameText × (A × List A))
parent_and one ts =
    outcome_bind (the_name ts) λ parent r.
    outcome_bind (all_of one r) λ l r.
    good (parent, l) r

-- the parent of a view and its brackets
abbrev pub brackets : {A : Type 0} → (List Token → Outcome A) → (NameText → A → List A → ViewText) → List Token → Outcome ViewText
brackets one make ts =
    outcome_bind (the_name ts) λ parent r.
    outcome_bind (one r) λ a r.
    outcome_bind (more_of one (steps r) r) λ more r.
    good (make parent a more) r

abbrev pub view_from : TokenKind → Token → List Token → Outcome ViewText
view_from kind.Shrink t ts = brackets the_factor (shrink t.place) ts
view_from kind.Split t ts = brackets the_factor (split t.place) ts
view_from kind.Suffix t ts = brackets the_suffix (suffix t.place) ts
view_from kind.Shift t ts = brackets the_offset (shift t.place) ts
view_from _ t ts = bad (t ∷ ts)

abbrev pub the_view : List Token → Outcome ViewText
the_view [] = bad []
the_view (t ∷ ts) = view_from t.kind t ts

abbrev pub the_value : List Token → Outcome ValueText
the_value ts =
    if comes mark.Assign ts
    then (outcome_bind (the mark.Assign ts) λ equal r.
    outcome_bind (the_expression r) λ e r.
    good (some_value equal e) r)
    else good no_value ts

-- what follows `let`
abbrev pub let_from : Place → List Token → Outcome SimpleText
let_from word ts =
    outcome_bind (the_name ts) λ n r.
    if comes mark.Colon r
    then (outcome_bind (the mark.Colon r) λ colon r.
    outcome_bind (the_type r) λ t r.
    outcome_bind (the_value r) λ value r.
    good (let_typed word n colon t value) r)
    else (outcome_bind (the mark.Assign r) λ equal r.
    outcome_bind (the_expression r) λ e r.
    good (let_value word n equal e) r)

-- what follows `view`
abbrev pub view_command_from : Place → List Token → Outcome SimpleText
view_command_from word ts =
    outcome_bind (the_name ts) λ n r.
    outcome_bind (the mark.Assign r) λ equal r.
    outcome_bind (the_view r) λ v r.
    good (view word n equal v) r

-- the sign of a reducer that a token is
abbrev pub reducer_from : TokenKind → Option ReducerText
reducer_from kind.PlusAssign = Some adds
reducer_from kind.MinusAssign = Some subtracts
reducer_from kind.StarAssign = Some multiplies
reducer_from _ = None

abbrev pub reduce_from : NameText → ReducerText → Place → List Token → Outcome SimpleText
reduce_from n sign place ts = outcome_bind (the_expression ts) λ e r. good (reduce n sign place e) r

-- a store, after the name of its access
abbrev pub store_from : NameText → List Token → Outcome SimpleText
store_from n ts =
    outcome_bind (access_from (read (steps ts)) n ts) λ a r.
    outcome_bind (the mark.Becomes r) λ becomes r.
    outcome_bind (the_expression r) λ e r.
    good (store a becomes e) r

-- a command after the name that begins it, by the token that follows
abbrev pub after_name_from : NameText → TokenKind → Token → List Token → Outcome SimpleText
after_name_from n kind.Becomes t ts = outcome_bind (the_expression ts) λ e r. good (assign n t.place e) r
after_name_from n kind.OpenParen t ts = outcome_bind (the_arguments ts) λ arguments r. good (call n t.place arguments) r
after_name_from n kind.OpenBracket t ts = store_from n (t ∷ ts)
after_name_from n kind.OpenBrace t ts = store_from n (t ∷ ts)
after_name_from n kind.PlusAssign t ts = reduce_from n adds t.place ts
after_name_from n kind.MinusAssign t ts = reduce_from n subtracts t.place ts
after_name_from n kind.StarAssign t ts = reduce_from n multiplies t.place ts
after_name_from n _ t ts = bad (t ∷ ts)

abbrev pub after_name : NameText → List Token → Outcome SimpleText
after_name n [] = bad []
after_name n (t ∷ ts) = after_name_from n t.kind t ts

abbrev pub simple_from : TokenKind → Token → List Token → Outcome SimpleText
simple_from kind.Let t ts = let_from t.place ts
simple_from kind.View t ts = view_command_from t.place ts
simple_from (kind.Name n) t ts = after_name (name_text n t.place) ts
simple_from _ t ts = bad (t ∷ ts)

abbrev pub the_simple : List Token → Outcome SimpleText
the_simple [] = bad []
the_simple (t ∷ ts) = simple_from t.kind t ts

abbrev pub the_declared : List Token → Outcome DeclaredText
the_declared ts =
    if comes mark.Colon ts
    then (outcome_bind (the mark.Colon ts) λ colon r.
    outcome_bind (the_kind r) λ k r.
    good (some_declared colon k) r)
    else good no_declared ts

abbrev pub the_unroll : List Token → Outcome UnrollText
the_unroll ts =
    if comes mark.Unroll ts
    then (outcome_bind (the mark.Unroll ts) λ word r.
    outcome_bind (the_number r) λ factor r.
    good (some_unroll word factor) r)
    else good no_unroll ts

-- `: kind = low..high)`, what an iterator goes over
pub record RangeText : Type 0 where
  pub declared : DeclaredText
  pub equal : Place
  pub low : NumberText
  pub range : Place
  pub high : NumberText
  pub closer : Place

abbrev pub range_text : DeclaredText → Place → NumberText → Place → NumberText → Place → RangeText
range_text declared equal low range high closer = record { declared = declared; equal = equal; low = low; range = range; high = high; closer = closer }

abbrev pub the_range : List Token → Outcome RangeText
the_range ts =
    outcome_bind (the_declared ts) λ declared r.
    outcome_bind (the mark.Assign r) λ equal r.
    outcome_bind (the_number r) λ low r.
    outcome_bind (the mark.Range r) λ range r.
    outcome_bind (the_number r) λ high r.
    outcome_bind (the mark.CloseParen r) λ closer r.
    good (range_text declared equal low range high closer) r

abbrev pub head_text : Place → Place → Place → NameText → DeclaredText → Place → NumberText → Place → NumberText → Place → UnrollText → HeadText
head_text word opener let_word iterator declared equal low range high closer unroll = record {
  word = word;
  opener = opener;
  let_word = let_word;
  iterator = iterator;
  declared = declared;
  equal = equal;
  low = low;
  range = range;
  high = high;
  closer = closer;
  unroll = unroll;
}

abbrev pub the_head : List Token → Outcome HeadText
the_head ts =
    outcome_bind (the mark.For ts) λ word r.
    outcome_bind (the mark.OpenParen r) λ opener r.
    outcome_bind (the mark.Let r) λ let_word r.
    outcome_bind (the_name r) λ iterator r.
    outcome_bind (the_declared r) λ declared r.
    outcome_bind (the mark.Assign r) λ equal r.
    outcome_bind (the_number r) λ low r.
    outcome_bind (the mark.Range r) λ range r.
    outcome_bind (the_number r) λ high r.
    outcome_bind (the mark.CloseParen r) λ closer r.
    outcome_bind (the_unroll r) λ unroll r.
    good (head_text word opener let_word iterator declared equal low range high closer unroll) r

-- a reader of blocks
abbrev pub Blocks : Type 0
Blocks = List Token → Outcome BlockText

-- an `if`, with a step for each `if` after `else`
abbrev pub the_if : Blocks → ℕ → List Token → Outcome IfText
the_if blocks zero ts = deep
the_if blocks (suc n) ts =
    outcome_bind (the mark.If ts) λ word r.
    outcome_bind (the mark.OpenParen r) λ opener r.
    outcome_bind (the_expression r) λ e r.
    outcome_bind (the mark.CloseParen r) λ closer r.
    outcome_bind (blocks r) λ b r.
    outcome_bind (if comes mark.Else r
    then (outcome_bind (the mark.Else r) λ else_word q.
    if comes mark.If q
    then (outcome_bind (the_if blocks n q) λ i q. good (else_if else_word i) q)
    else (outcome_bind (blocks q) λ c q. good (else_block else_word c) q))
    else good no_else r) λ other r.
    good (if_else word opener e closer b other) r

abbrev pub the_while : Blocks → List Token → Outcome CompoundText
the_while blocks ts =
    outcome_bind (the mark.While ts) λ word r.
    outcome_bind (the mark.OpenParen r) λ opener r.
    outcome_bind (the_expression r) λ e r.
    outcome_bind (the mark.CloseParen r) λ closer r.
    outcome_bind (blocks r) λ b r.
    good (while_loop word opener e closer b) r

abbrev pub the_combine : Blocks → List Token → Outcome CombineText
the_combine blocks ts =
    if comes mark.Combine ts
    then (outcome_bind (the mark.Combine ts) λ word r.
    outcome_bind (blocks r) λ b r.
    good (some_combine word b) r)
    else good no_combine ts

abbrev pub the_for : Blocks → List Token → Outcome CompoundText
the_for blocks ts =
    outcome_bind (the_head ts) λ h r.
    outcome_bind (blocks r) λ b r.
    outcome_bind (the_combine blocks r) λ combine r.
    good (for_loop h b combine) r

abbrev pub the_compound : Blocks → List Token → Outcome CompoundText
the_compound blocks ts =
    if comes mark.If ts
    then (outcome_bind (the_if blocks (steps ts) ts) λ i r. good (if_alone i) r)
    else (if comes mark.While ts
    then the_while blocks ts
    else (if comes mark.For ts
    then the_for blocks ts
    else (outcome_bind (blocks ts) λ b r. good (block_alone b) r)))

-- what begins at a token, among the commands of a part
pub data Beginning : Type 0 where
  begins_simple begins_compound begins_semicolon begins_nothing : Beginning

abbrev pub beginning_of : TokenKind → Beginning
beginning_of kind.Let = begins_simple
beginning_of kind.View = begins_simple
beginning_of (kind.Name n) = begins_simple
beginning_of kind.OpenBrace = begins_compound
beginning_of kind.If = begins_compound
beginning_of kind.While = begins_compound
beginning_of kind.For = begins_compound
beginning_of kind.Semicolon = begins_semicolon
beginning_of _ = begins_nothing

abbrev pub beginning : List Token → Beginning
beginning [] = begins_nothing
beginning (t ∷ ts) = beginning_of t.kind

-- a part whose first command begins so; `go` reads the rest of it
abbrev pub part_with : Blocks → (List Token → Outcome PartText) → List Token → Beginning → Outcome PartText
part_with blocks go ts begins_simple =
    outcome_bind (the_simple ts) λ s r.
    if comes mark.Semicolon r
    then (outcome_bind (the mark.Semicolon r) λ semicolon r.
    outcome_bind (go r) λ more r.
    good (simple_then s semicolon more) r)
    else good (last_simple s) r
part_with blocks go ts begins_compound =
    outcome_bind (the_compound blocks ts) λ c r.
    outcome_bind (go r) λ more r.
    good (compound_then c more) r
part_with blocks go ts begins_semicolon =
    outcome_bind (the mark.Semicolon ts) λ semicolon r.
    outcome_bind (go r) λ more r.
    good (semicolon_then semicolon more) r
part_with blocks go ts begins_nothing = good end_of_part ts

abbrev pub the_part : Blocks → ℕ → List Token → Outcome PartText
the_part blocks zero ts = deep
the_part blocks (suc n) ts = part_with blocks (the_part blocks n) ts (beginning ts)

abbrev pub the_parts : Blocks → ℕ → List Token → Outcome PartsText
the_parts blocks zero ts = deep
the_parts blocks (suc n) ts =
    outcome_bind (the_part blocks (steps ts) ts) λ p r.
    if comes mark.Dashes r
    then (outcome_bind (the mark.Dashes r) λ dashes r.
    outcome_bind (the_parts blocks n r) λ more r.
    good (part_then p dashes more) r)
    else good (last_part p) r

abbrev pub read_block : ℕ → Blocks
read_block zero ts = deep
read_block (suc d) ts =
    outcome_bind (the mark.OpenBrace ts) λ opener r.
    outcome_bind (the_parts (read_block d) (steps r) r) λ parts r.
    outcome_bind (the mark.CloseBrace r) λ closer r.
    good (block opener parts closer) r

-- a block, with steps enough
unfoldable pub the_block : Blocks
the_block ts = read_block (steps ts) ts

-- an `if`, with steps enough
unfoldable pub whole_if : List Token → Outcome IfText
whole_if ts = the_if the_block (steps ts) ts

-- what follows the block of an `if`
abbrev pub whole_else : List Token → Outcome ElseText
whole_else ts =
    if comes mark.Else ts
    then (outcome_bind (the mark.Else ts) λ else_word r.
    if comes mark.If r
    then (outcome_bind (whole_if r) λ i r. good (else_if else_word i) r)
    else (outcome_bind (the_block r) λ b r. good (else_block else_word b) r))
    else good no_else ts

abbrev pub parameter_text : NameText → Place → TypeText → ParameterText
parameter_text n colon t = record { name = n; colon = colon; written = t }

abbrev pub the_parameter : List Token → Outcome ParameterText
the_parameter ts =
    outcome_bind (the_name ts) λ n r.
    outcome_bind (the mark.Colon r) λ colon r.
    outcome_bind (the_type r) λ t r.
    good (parameter_text n colon t) r

-- `, name: type`
abbrev pub further_parameter : List Token → Outcome (Place × ParameterText)
further_parameter ts =
    outcome_bind (the mark.Comma ts) λ comma r.
    outcome_bind (the_parameter r) λ p r.
    good (comma, p) r

abbrev pub more_parameters : ℕ → List Token → Outcome MoreParametersText
more_parameters zero ts = deep
more_parameters (suc n) ts =
    if comes mark.Comma ts
    then (outcome_bind (the mark.Comma ts) λ comma r.
    outcome_bind (the_parameter r) λ p r.
    outcome_bind (more_parameters n r) λ more r.
    good (parameter_then comma p more) r)
    else (outcome_bind (the mark.CloseParen ts) λ closer r.
    good (no_more_parameters closer) r)

-- what follows `(`
abbrev pub the_parameters : List Token → Outcome ParametersText
the_parameters ts =
    if comes mark.CloseParen ts
    then (outcome_bind (the mark.CloseParen ts) λ closer r. good (no_parameters closer) r)
    else (outcome_bind (the_parameter ts) λ p r.
    outcome_bind (more_parameters (steps r) r) λ more r.
    good (some_parameters p more) r)

-- what follows `decl`, and further items
abbrev pub decl_from : Place → (List Token → Outcome ItemsText) → List Token → Outcome ItemsText
decl_from word go ts =
    outcome_bind (the_name ts) λ n r.
    outcome_bind (the mark.Colon r) λ colon r.
    outcome_bind (the_type r) λ t r.
    outcome_bind (the mark.Semicolon r) λ semicolon r.
    outcome_bind (go r) λ more r.
    good (decl_then word n colon t semicolon more) r

-- what follows `def`, and further items
abbrev pub def_from : Place → (List Token → Outcome ItemsText) → List Token → Outcome ItemsText
def_from word go ts =
    outcome_bind (the_name ts) λ n r.
    outcome_bind (the mark.OpenParen r) λ opener r.
    outcome_bind (the_parameters r) λ ps r.
    outcome_bind (the mark.Assign r) λ equal r.
    outcome_bind (the_block r) λ b r.
    outcome_bind (go r) λ more r.
    good (def_then word n opener ps equal b more) r

abbrev pub items_from : (List Token → Outcome ItemsText) → TokenKind → Token → List Token → Outcome ItemsText
items_from go kind.Decl t ts = decl_from t.place go ts
items_from go kind.Def t ts = def_from t.place go ts
items_from go _ t ts = good no_items (t ∷ ts)

abbrev pub the_items : ℕ → List Token → Outcome ItemsText
the_items zero ts = deep
the_items (suc n) [] = good no_items []
the_items (suc n) (t ∷ ts) = items_from (the_items n) t.kind t ts

-- what follows `decl`, as what it is put in front of other items
abbrev pub the_decl : Place → List Token → Outcome (ItemsText → ItemsText)
the_decl word ts =
    outcome_bind (the_name ts) λ n r.
    outcome_bind (the mark.Colon r) λ colon r.
    outcome_bind (the_type r) λ t r.
    outcome_bind (the mark.Semicolon r) λ semicolon r.
    good (λ more. decl_then word n colon t semicolon more) r

-- what follows `def`, as what it is put in front of other items
abbrev pub the_def : Place → List Token → Outcome (ItemsText → ItemsText)
the_def word ts =
    outcome_bind (the_name ts) λ n r.
    outcome_bind (the mark.OpenParen r) λ opener r.
    outcome_bind (the_parameters r) λ ps r.
    outcome_bind (the mark.Assign r) λ equal r.
    outcome_bind (the_block r) λ b r.
    good (λ more. def_then word n opener ps equal b more) r

-- an item, if one comes next
abbrev pub item_from : TokenKind → Token → List Token → Outcome (Option (ItemsText → ItemsText))
item_from kind.Decl t ts = outcome_bind (the_decl t.place ts) λ put r. good (Some put) r
item_from kind.Def t ts = outcome_bind (the_def t.place ts) λ put r. good (Some put) r
item_from _ t ts = good None (t ∷ ts)

abbrev pub the_item : List Token → Outcome (Option (ItemsText → ItemsText))
the_item [] = good None []
the_item (t ∷ ts) = item_from t.kind t ts

-- the parts of the body, and the end
abbrev pub the_body : List Token → Outcome (PartsText × Place)
the_body ts =
    outcome_bind (the_parts the_block (steps ts) ts) λ parts r.
    outcome_bind (the mark.End r) λ end r.
    good (parts, end) r

abbrev pub program_text : ItemsText → PartsText → Place → ProgramText
program_text items parts end = record { items = items; parts = parts; end = end }

-- a whole program
abbrev pub the_program : List Token → Outcome ProgramText
the_program ts =
    outcome_bind (the_items (steps ts) ts) λ items r.
    outcome_bind (the_parts (read_block (steps r)) (steps r) r) λ parts r.
    outcome_bind (the mark.End r) λ end r.
    good (program_text items parts end) r
