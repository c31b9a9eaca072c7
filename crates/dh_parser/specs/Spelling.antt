-- The tokens of a text, in front of what follows it.
use Rattle.std.specs.Prelude.{Bool, true, false, List, [], ◌∷◌}
use Rattle.dh_base.specs.declared.places.Place.{Place}
use Rattle.dh_lexer.specs.declared.tokens.Token.{Token}
use Rattle.dh_lexer.specs.declared.tokens.TokenKind.{TokenKind}
use Rattle.dh_lexer.specs.declared.tokens.TokenKind.TheVariants as kind
use Rattle.dh_lexer.specs.LexedText.{token_placed}
use Rattle.dh_value.specs.declared.operators.Op.{Op}
use Rattle.dh_value.specs.declared.operators.Op.TheVariants as op
use Rattle.dh_parser.specs.Grammar.{NameText, NumberText, KindText, bool_kind, bit_kind, ubit_kind, PortsText, no_ports, some_ports, BanksText, no_banks, some_banks, DimsText, no_dims, dim_then, TypeText, ExprText, literal, negative, truth, variable, access, bracket, cast, binary, AccessText, element, physical, IndexText, index, MoreIndicesText, no_indices, index_then, MoreArgumentsText, no_more_arguments, argument_then, ArgumentsText, no_arguments, some_arguments, FactorText, SuffixText, OffsetText, ViewText, shrink, split, suffix, shift, ValueText, no_value, some_value, ReducerText, adds, subtracts, multiplies, SimpleText, let_typed, let_value, view, assign, store, reduce, call, DeclaredText, no_declared, some_declared, UnrollText, no_unroll, some_unroll, HeadText, BlockText, block, PartsText, last_part, part_then, PartText, end_of_part, last_simple, simple_then, compound_then, semicolon_then, CompoundText, block_alone, if_alone, while_loop, for_loop, IfText, if_else, ElseText, no_else, else_block, else_if, CombineText, no_combine, some_combine, ParameterText, MoreParametersText, no_more_parameters, parameter_then, ParametersText, no_parameters, some_parameters, ItemsText, no_items, decl_then, def_then, ProgramText}

-- a token in front of what follows
abbrev pub put : TokenKind → Place → List Token → List Token
put k place x = token_placed k place ∷ x

abbrev pub put_name : NameText → List Token → List Token
put_name n x = put (kind.Name n.name) n.place x

abbrev pub put_number : NumberText → List Token → List Token
put_number n x = put (kind.Number n.value) n.place x

-- the sign of an operator
abbrev pub sign_of : Op → TokenKind
sign_of op.Either = kind.Or
sign_of op.Both = kind.And
sign_of op.Eq = kind.Equal
sign_of op.Ne = kind.NotEqual
sign_of op.Lt = kind.Less
sign_of op.Gt = kind.Greater
sign_of op.Le = kind.LessEqual
sign_of op.Ge = kind.GreaterEqual
sign_of op.Or = kind.Bar
sign_of op.Xor = kind.Caret
sign_of op.And = kind.Ampersand
sign_of op.Shl = kind.ShiftLeft
sign_of op.Shr = kind.ShiftRight
sign_of op.Add = kind.Plus
sign_of op.Sub = kind.Minus
sign_of op.Mul = kind.Star

-- the word of a truth value
abbrev pub truth_word : Bool → TokenKind
truth_word true = kind.True
truth_word false = kind.False

-- the sign of a reducer
abbrev pub reducer_sign : ReducerText → TokenKind
reducer_sign adds = kind.PlusAssign
reducer_sign subtracts = kind.MinusAssign
reducer_sign multiplies = kind.StarAssign

abbrev pub spell_kind : KindText → List Token → List Token
spell_kind (bool_kind word) x = put kind.Bool word x
spell_kind (bit_kind word less width greater) x =
    put kind.Bit word (put kind.Less less (put_number width (put kind.Greater greater x)))
spell_kind (ubit_kind word less width greater) x =
    put kind.Ubit word (put kind.Less less (put_number width (put kind.Greater greater x)))

abbrev pub spell_ports : PortsText → List Token → List Token
spell_ports no_ports x = x
spell_ports (some_ports opener ports closer) x = put kind.OpenBrace opener (put_number ports (put kind.CloseBrace closer x))

abbrev pub spell_banks : BanksText → List Token → List Token
spell_banks no_banks x = x
spell_banks (some_banks word banks) x = put kind.Bank word (put_number banks x)

abbrev pub spell_dims : DimsText → List Token → List Token
spell_dims no_dims x = x
spell_dims (dim_then opener size banks closer more) x =
    put kind.OpenBracket opener (put_number size (spell_banks banks (put kind.CloseBracket closer (spell_dims more x))))

abbrev pub spell_type : TypeText → List Token → List Token
spell_type t x = spell_kind t.kind (spell_ports t.ports (spell_dims t.dims x))

abbrev mutual
  pub spell : ExprText → List Token → List Token
  spell (literal n) x = put_number n x
  spell (negative minus n) x = put kind.Minus minus (put_number n x)
  spell (truth holds word) x = put (truth_word holds) word x
  spell (variable n) x = put_name n x
  spell (access a) x = spell_access a x
  spell (bracket opener e closer) x = put kind.OpenParen opener (spell e (put kind.CloseParen closer x))
  spell (cast opener e word k closer) x =
      put kind.OpenParen opener (spell e (put kind.As word (spell_kind k (put kind.CloseParen closer x))))
  spell (binary o sign l r) x = spell l (put (sign_of o) sign (spell r x))

  pub spell_access : AccessText → List Token → List Token
  spell_access (element n i more) x = put_name n (spell_index i (spell_indices more x))
  spell_access (physical n opener bank closer i) x =
      put_name n (put kind.OpenBrace opener (put_number bank (put kind.CloseBrace closer (spell_index i x))))

  pub spell_index : IndexText → List Token → List Token
  spell_index (index opener e closer) x = put kind.OpenBracket opener (spell e (put kind.CloseBracket closer x))

  pub spell_indices : MoreIndicesText → List Token → List Token
  spell_indices no_indices x = x
  spell_indices (index_then i more) x = spell_index i (spell_indices more x)

abbrev pub spell_more_arguments : MoreArgumentsText → List Token → List Token
spell_more_arguments (no_more_arguments closer) x = put kind.CloseParen closer x
spell_more_arguments (argument_then comma e more) x = put kind.Comma comma (spell e (spell_more_arguments more x))

abbrev pub spell_arguments : ArgumentsText → List Token → List Token
spell_arguments (no_arguments closer) x = put kind.CloseParen closer x
spell_arguments (some_arguments e more) x = spell e (spell_more_arguments more x)

abbrev pub spell_factor : FactorText → List Token → List Token
spell_factor f x = put kind.OpenBracket f.opener (put kind.By f.word (put_number f.factor (put kind.CloseBracket f.closer x)))

abbrev pub spell_suffix : SuffixText → List Token → List Token
spell_suffix s x =
    put kind.OpenBracket s.opener (put kind.By s.word (put_number s.factor (put kind.Star s.star (spell s.offset (put kind.CloseBracket s.closer x)))))

abbrev pub spell_offset : OffsetText → List Token → List Token
spell_offset o x = put kind.OpenBracket o.opener (put kind.By o.word (spell o.offset (put kind.CloseBracket o.closer x)))

-- all of a list, each by its own spelling
abbrev pub spell_all : {A : Type 0} → (A → List Token → List Token) → List A → List Token → List Token
spell_all each [] x = x
spell_all each (a ∷ more) x = each a (spell_all each more x)

abbrev pub spell_view : ViewText → List Token → List Token
spell_view (shrink word parent f more) x =
    put kind.Shrink word (put_name parent (spell_factor f (spell_all spell_factor more x)))
spell_view (split word parent f more) x =
    put kind.Split word (put_name parent (spell_factor f (spell_all spell_factor more x)))
spell_view (suffix word parent s more) x =
    put kind.Suffix word (put_name parent (spell_suffix s (spell_all spell_suffix more x)))
spell_view (shift word parent o more) x =
    put kind.Shift word (put_name parent (spell_offset o (spell_all spell_offset more x)))

abbrev pub spell_value : ValueText → List Token → List Token
spell_value no_value x = x
spell_value (some_value equal e) x = put kind.Assign equal (spell e x)

abbrev pub spell_simple : SimpleText → List Token → List Token
spell_simple (let_typed word n colon t value) x =
    put kind.Let word (put_name n (put kind.Colon colon (spell_type t (spell_value value x))))
spell_simple (let_value word n equal e) x = put kind.Let word (put_name n (put kind.Assign equal (spell e x)))
spell_simple (view word n equal v) x = put kind.View word (put_name n (put kind.Assign equal (spell_view v x)))
spell_simple (assign n becomes e) x = put_name n (put kind.Becomes becomes (spell e x))
spell_simple (store a becomes e) x = spell_access a (put kind.Becomes becomes (spell e x))
spell_simple (reduce n r sign e) x = put_name n (put (reducer_sign r) sign (spell e x))
spell_simple (call n opener arguments) x = put_name n (put kind.OpenParen opener (spell_arguments arguments x))

abbrev pub spell_declared : DeclaredText → List Token → List Token
spell_declared no_declared x = x
spell_declared (some_declared colon k) x = put kind.Colon colon (spell_kind k x)

abbrev pub spell_unroll : UnrollText → List Token → List Token
spell_unroll no_unroll x = x
spell_unroll (some_unroll word factor) x = put kind.Unroll word (put_number factor x)

abbrev pub spell_head : HeadText → List Token → List Token
spell_head h x =
    put kind.For h.word (put kind.OpenParen h.opener (put kind.Let h.let_word (put_name h.iterator (spell_declared h.declared
    (put kind.Assign h.equal (put_number h.low (put kind.Range h.range (put_number h.high (put kind.CloseParen h.closer
    (spell_unroll h.unroll x))))))))))

abbrev mutual
  pub spell_block : BlockText → List Token → List Token
  spell_block (block opener parts closer) x = put kind.OpenBrace opener (spell_parts parts (put kind.CloseBrace closer x))

  pub spell_parts : PartsText → List Token → List Token
  spell_parts (last_part p) x = spell_part p x
  spell_parts (part_then p dashes more) x = spell_part p (put kind.Dashes dashes (spell_parts more x))

  pub spell_part : PartText → List Token → List Token
  spell_part end_of_part x = x
  spell_part (last_simple s) x = spell_simple s x
  spell_part (simple_then s semicolon more) x = spell_simple s (put kind.Semicolon semicolon (spell_part more x))
  spell_part (compound_then c more) x = spell_compound c (spell_part more x)
  spell_part (semicolon_then semicolon more) x = put kind.Semicolon semicolon (spell_part more x)

  pub spell_compound : CompoundText → List Token → List Token
  spell_compound (block_alone b) x = spell_block b x
  spell_compound (if_alone i) x = spell_if i x
  spell_compound (while_loop word opener e closer b) x =
      put kind.While word (put kind.OpenParen opener (spell e (put kind.CloseParen closer (spell_block b x))))
  spell_compound (for_loop h b combine) x = spell_head h (spell_block b (spell_combine combine x))

  pub spell_if : IfText → List Token → List Token
  spell_if (if_else word opener e closer b other) x =
      put kind.If word (put kind.OpenParen opener (spell e (put kind.CloseParen closer (spell_block b (spell_else other x)))))

  pub spell_else : ElseText → List Token → List Token
  spell_else no_else x = x
  spell_else (else_block word b) x = put kind.Else word (spell_block b x)
  spell_else (else_if word i) x = put kind.Else word (spell_if i x)

  pub spell_combine : CombineText → List Token → List Token
  spell_combine no_combine x = x
  spell_combine (some_combine word b) x = put kind.Combine word (spell_block b x)

abbrev pub spell_parameter : ParameterText → List Token → List Token
spell_parameter p x = put_name p.name (put kind.Colon p.colon (spell_type p.written x))

abbrev pub spell_more_parameters : MoreParametersText → List Token → List Token
spell_more_parameters (no_more_parameters closer) x = put kind.CloseParen closer x
spell_more_parameters (parameter_then comma p more) x = put kind.Comma comma (spell_parameter p (spell_more_parameters more x))

abbrev pub spell_parameters : ParametersText → List Token → List Token
spell_parameters (no_parameters closer) x = put kind.CloseParen closer x
spell_parameters (some_parameters p more) x = spell_parameter p (spell_more_parameters more x)

abbrev pub spell_items : ItemsText → List Token → List Token
spell_items no_items x = x
spell_items (decl_then word n colon t semicolon more) x =
    put kind.Decl word (put_name n (put kind.Colon colon (spell_type t (put kind.Semicolon semicolon (spell_items more x)))))
spell_items (def_then word n opener ps equal b more) x =
    put kind.Def word (put_name n (put kind.OpenParen opener (spell_parameters ps (put kind.Assign equal (spell_block b (spell_items more x))))))

abbrev pub spell_program : ProgramText → List Token → List Token
spell_program p x = spell_items p.items (spell_parts p.parts (put kind.End p.end x))
