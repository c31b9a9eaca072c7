-- What a text spells stands in front of what follows, whatever follows; and no token of it is the end
-- of a program. So the end is the last token of a program and no other, and the tokens of a text may be
-- cut off.
use Rattle.std.proofs.Common.{◌≡◌, true, false, List, [], ◌∷◌, ◌++◌, refl, ap, sym, ◌∙◌, append_assoc}
use Rattle.dh_base.specs.declared.places.Place.{Place}
use Rattle.dh_lexer.specs.declared.tokens.Token.{Token}
use Rattle.dh_lexer.specs.declared.tokens.TokenKind.{TokenKind}
use Rattle.dh_lexer.specs.LexedText.{token_placed}
use Rattle.dh_value.specs.declared.operators.Op.{Op}
use Rattle.dh_value.specs.declared.operators.Op.TheVariants as op
use Rattle.dh_parser.specs.declared.parsing.reading.Mark.TheVariants as mark
use Rattle.dh_parser.specs.Marks.{is_mark}
use Rattle.dh_parser.specs.Grammar.{ReducerText, ProgramText, bool_kind, bit_kind, ubit_kind, no_ports, some_ports, no_banks, some_banks, no_dims, dim_then, literal, negative, truth, variable, access, bracket, cast, binary, element, physical, index, no_indices, index_then, no_more_arguments, argument_then, no_arguments, some_arguments, shrink, split, suffix, shift, no_value, some_value, adds, subtracts, multiplies, let_typed, let_value, view, assign, store, reduce, call, no_declared, some_declared, no_unroll, some_unroll, block, last_part, part_then, end_of_part, last_simple, simple_then, compound_then, semicolon_then, block_alone, if_alone, while_loop, for_loop, if_else, no_else, else_block, else_if, no_combine, some_combine, no_more_parameters, parameter_then, no_parameters, some_parameters, no_items, decl_then, def_then}
use Rattle.dh_parser.specs.Spelling.{put, put_name, put_number, sign_of, reducer_sign, spell_kind, spell_ports, spell_banks, spell_dims, spell_type, spell, spell_access, spell_index, spell_indices, spell_more_arguments, spell_arguments, spell_factor, spell_suffix, spell_offset, spell_all, spell_view, spell_value, spell_simple, spell_declared, spell_unroll, spell_head, spell_block, spell_parts, spell_part, spell_compound, spell_if, spell_else, spell_combine, spell_parameter, spell_more_parameters, spell_parameters, spell_items}

-- no token of these is the end
abbrev pub Endless : List Token → Type 0
Endless [] = Unit {0}
Endless (t ∷ ts) = (is_mark t.kind mark.End ≡ false) × Endless ts

-- some tokens without the end, put in front
pub record Front (s : List Token → List Token) : Type 0 where
  pub tokens : List Token
  pub stands : (x : List Token) → s x ≡ tokens ++ x
  pub endless : Endless tokens

pub nothing : Front (λ x. x)
nothing = record { tokens = []; stands = λ x. refl; endless = tt }

put_front : {s : List Token → List Token} (k : TokenKind) (p : Place) → is_mark k mark.End ≡ false → Front s → Front (λ x. put k p (s x))
put_front k p e f = record { tokens = token_placed k p ∷ f.tokens; stands = λ x. ap (λ l. token_placed k p ∷ l) (f.stands x); endless = (e, f.endless) }

-- what follows a text goes along with it
pub goes_along : {s : List Token → List Token} → Front s → (x y : List Token) → s (x ++ y) ≡ s x ++ y
goes_along f x y = f.stands (x ++ y) ∙ (sym (append_assoc f.tokens x y) ∙ ap (λ l. l ++ y) (sym (f.stands x)))

-- each text is put in front
abbrev pub Fronts : {A : Type 0} → (A → List Token → List Token) → Type 0
Fronts {A} s = (a : A) (u : List Token → List Token) → Front u → Front (λ x. s a (u x))

pub front_of : {A : Type 0} (s : A → List Token → List Token) → Fronts s → (a : A) → Front (s a)
front_of s h a = h a (λ x. x) nothing

pub name_front : Fronts put_name
name_front n u f = put_front _ _ refl f

pub number_front : Fronts put_number
number_front n u f = put_front _ _ refl f

pub kind_front : Fronts spell_kind
kind_front (bool_kind word) u f = put_front _ _ refl f
kind_front (bit_kind word less width greater) u f = put_front _ _ refl (put_front _ _ refl (put_front _ _ refl (put_front _ _ refl f)))
kind_front (ubit_kind word less width greater) u f = put_front _ _ refl (put_front _ _ refl (put_front _ _ refl (put_front _ _ refl f)))

pub ports_front : Fronts spell_ports
ports_front no_ports u f = f
ports_front (some_ports opener ports closer) u f = put_front _ _ refl (put_front _ _ refl (put_front _ _ refl f))

pub banks_front : Fronts spell_banks
banks_front no_banks u f = f
banks_front (some_banks word banks) u f = put_front _ _ refl (put_front _ _ refl f)

pub dims_front : Fronts spell_dims
dims_front no_dims u f = f
dims_front (dim_then opener size banks closer more) u f =
    put_front _ _ refl (put_front _ _ refl (banks_front banks _ (put_front _ _ refl (dims_front more u f))))

pub type_front : Fronts spell_type
type_front t u f = kind_front t.kind _ (ports_front t.ports _ (dims_front t.dims u f))

sign_endless : (o : Op) → is_mark (sign_of o) mark.End ≡ false
sign_endless op.Either = refl
sign_endless op.Both = refl
sign_endless op.Eq = refl
sign_endless op.Ne = refl
sign_endless op.Lt = refl
sign_endless op.Gt = refl
sign_endless op.Le = refl
sign_endless op.Ge = refl
sign_endless op.Or = refl
sign_endless op.Xor = refl
sign_endless op.And = refl
sign_endless op.Shl = refl
sign_endless op.Shr = refl
sign_endless op.Add = refl
sign_endless op.Sub = refl
sign_endless op.Mul = refl

mutual
  pub expression_front : Fronts spell
  expression_front (literal n) u f = put_front _ _ refl f
  expression_front (negative minus n) u f = put_front _ _ refl (put_front _ _ refl f)
  expression_front (truth true word) u f = put_front _ _ refl f
  expression_front (truth false word) u f = put_front _ _ refl f
  expression_front (variable n) u f = put_front _ _ refl f
  expression_front (access a) u f = access_front a u f
  expression_front (bracket opener e closer) u f = put_front _ _ refl (expression_front e _ (put_front _ _ refl f))
  expression_front (cast opener e word k closer) u f =
      put_front _ _ refl (expression_front e _ (put_front _ _ refl (kind_front k _ (put_front _ _ refl f))))
  expression_front (binary o sign l r) u f = expression_front l _ (put_front _ _ (sign_endless o) (expression_front r u f))

  pub access_front : Fronts spell_access
  access_front (element n i more) u f = put_front _ _ refl (index_front i _ (indices_front more u f))
  access_front (physical n opener bank closer i) u f =
      put_front _ _ refl (put_front _ _ refl (put_front _ _ refl (put_front _ _ refl (index_front i u f))))

  pub index_front : Fronts spell_index
  index_front (index opener e closer) u f = put_front _ _ refl (expression_front e _ (put_front _ _ refl f))

  pub indices_front : Fronts spell_indices
  indices_front no_indices u f = f
  indices_front (index_then i more) u f = index_front i _ (indices_front more u f)

pub more_arguments_front : Fronts spell_more_arguments
more_arguments_front (no_more_arguments closer) u f = put_front _ _ refl f
more_arguments_front (argument_then comma e more) u f = put_front _ _ refl (expression_front e _ (more_arguments_front more u f))

pub arguments_front : Fronts spell_arguments
arguments_front (no_arguments closer) u f = put_front _ _ refl f
arguments_front (some_arguments e more) u f = expression_front e _ (more_arguments_front more u f)

pub factor_front : Fronts spell_factor
factor_front a u f = put_front _ _ refl (put_front _ _ refl (put_front _ _ refl (put_front _ _ refl f)))

pub suffix_front : Fronts spell_suffix
suffix_front a u f =
    put_front _ _ refl (put_front _ _ refl (put_front _ _ refl (put_front _ _ refl (expression_front a.offset _ (put_front _ _ refl f)))))

pub offset_front : Fronts spell_offset
offset_front a u f = put_front _ _ refl (put_front _ _ refl (expression_front a.offset _ (put_front _ _ refl f)))

pub all_front : {A : Type 0} (s : A → List Token → List Token) → Fronts s → Fronts (spell_all s)
all_front s h [] u f = f
all_front s h (a ∷ more) u f = h a _ (all_front s h more u f)

pub view_front : Fronts spell_view
view_front (shrink word parent a more) u f = put_front _ _ refl (put_front _ _ refl (factor_front a _ (all_front spell_factor factor_front more u f)))
view_front (split word parent a more) u f = put_front _ _ refl (put_front _ _ refl (factor_front a _ (all_front spell_factor factor_front more u f)))
view_front (suffix word parent a more) u f = put_front _ _ refl (put_front _ _ refl (suffix_front a _ (all_front spell_suffix suffix_front more u f)))
view_front (shift word parent a more) u f = put_front _ _ refl (put_front _ _ refl (offset_front a _ (all_front spell_offset offset_front more u f)))

pub value_front : Fronts spell_value
value_front no_value u f = f
value_front (some_value equal e) u f = put_front _ _ refl (expression_front e u f)

reducer_endless : (r : ReducerText) → is_mark (reducer_sign r) mark.End ≡ false
reducer_endless adds = refl
reducer_endless subtracts = refl
reducer_endless multiplies = refl

pub simple_front : Fronts spell_simple
simple_front (let_typed word n colon t value) u f = put_front _ _ refl (put_front _ _ refl (put_front _ _ refl (type_front t _ (value_front value u f))))
simple_front (let_value word n equal e) u f = put_front _ _ refl (put_front _ _ refl (put_front _ _ refl (expression_front e u f)))
simple_front (view word n equal v) u f = put_front _ _ refl (put_front _ _ refl (put_front _ _ refl (view_front v u f)))
simple_front (assign n becomes e) u f = put_front _ _ refl (put_front _ _ refl (expression_front e u f))
simple_front (store a becomes e) u f = access_front a _ (put_front _ _ refl (expression_front e u f))
simple_front (reduce n r sign e) u f = put_front _ _ refl (put_front _ _ (reducer_endless r) (expression_front e u f))
simple_front (call n opener arguments) u f = put_front _ _ refl (put_front _ _ refl (arguments_front arguments u f))

pub declared_front : Fronts spell_declared
declared_front no_declared u f = f
declared_front (some_declared colon k) u f = put_front _ _ refl (kind_front k u f)

pub unroll_front : Fronts spell_unroll
unroll_front no_unroll u f = f
unroll_front (some_unroll word factor) u f = put_front _ _ refl (put_front _ _ refl f)

pub head_front : Fronts spell_head
head_front h u f =
    put_front _ _ refl (put_front _ _ refl (put_front _ _ refl (put_front _ _ refl (declared_front h.declared _
    (put_front _ _ refl (put_front _ _ refl (put_front _ _ refl (put_front _ _ refl (put_front _ _ refl
    (unroll_front h.unroll u f))))))))))

mutual
  pub block_front : Fronts spell_block
  block_front (block opener parts closer) u f = put_front _ _ refl (parts_front parts _ (put_front _ _ refl f))

  pub parts_front : Fronts spell_parts
  parts_front (last_part p) u f = part_front p u f
  parts_front (part_then p dashes more) u f = part_front p _ (put_front _ _ refl (parts_front more u f))

  pub part_front : Fronts spell_part
  part_front end_of_part u f = f
  part_front (last_simple s) u f = simple_front s u f
  part_front (simple_then s semicolon more) u f = simple_front s _ (put_front _ _ refl (part_front more u f))
  part_front (compound_then c more) u f = compound_front c _ (part_front more u f)
  part_front (semicolon_then semicolon more) u f = put_front _ _ refl (part_front more u f)

  pub compound_front : Fronts spell_compound
  compound_front (block_alone b) u f = block_front b u f
  compound_front (if_alone i) u f = if_front i u f
  compound_front (while_loop word opener e closer b) u f =
      put_front _ _ refl (put_front _ _ refl (expression_front e _ (put_front _ _ refl (block_front b u f))))
  compound_front (for_loop h b combined) u f = head_front h _ (block_front b _ (combine_front combined u f))

  pub if_front : Fronts spell_if
  if_front (if_else word opener e closer b other) u f =
      put_front _ _ refl (put_front _ _ refl (expression_front e _ (put_front _ _ refl (block_front b _ (else_front other u f)))))

  pub else_front : Fronts spell_else
  else_front no_else u f = f
  else_front (else_block word b) u f = put_front _ _ refl (block_front b u f)
  else_front (else_if word i) u f = put_front _ _ refl (if_front i u f)

  pub combine_front : Fronts spell_combine
  combine_front no_combine u f = f
  combine_front (some_combine word b) u f = put_front _ _ refl (block_front b u f)

pub parameter_front : Fronts spell_parameter
parameter_front p u f = put_front _ _ refl (put_front _ _ refl (type_front p.written u f))

pub more_parameters_front : Fronts spell_more_parameters
more_parameters_front (no_more_parameters closer) u f = put_front _ _ refl f
more_parameters_front (parameter_then comma p more) u f = put_front _ _ refl (parameter_front p _ (more_parameters_front more u f))

pub parameters_front : Fronts spell_parameters
parameters_front (no_parameters closer) u f = put_front _ _ refl f
parameters_front (some_parameters p more) u f = parameter_front p _ (more_parameters_front more u f)

pub items_front : Fronts spell_items
items_front no_items u f = f
items_front (decl_then word n colon t semicolon more) u f =
    put_front _ _ refl (put_front _ _ refl (put_front _ _ refl (type_front t _ (put_front _ _ refl (items_front more u f)))))
items_front (def_then word n opener ps equal b more) u f =
    put_front _ _ refl (put_front _ _ refl (put_front _ _ refl (parameters_front ps _ (put_front _ _ refl (block_front b _ (items_front more u f))))))

-- all of a program but its end
pub program_front : (p : ProgramText) → Front (λ x. spell_items p.items (spell_parts p.parts x))
program_front p = items_front p.items _ (parts_front p.parts (λ x. x) nothing)
