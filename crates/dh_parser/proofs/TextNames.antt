-- The names in the tree of any text: those of its memories are names, a number of ports or banks that is
-- not written is 1, and each name that the text declares has a token of its own.
use Rattle.std.proofs.Common.{◌≡◌, ℕ, suc, ◌+◌, ◌≤◌, Bool, true, false, List, [], ◌∷◌, ◌++◌, length, refl, ap, sym, subst, arith, length-append}
use Rattle.std.specs.List.{AllByRecursion}
use Rattle.dh_base.specs.declared.places.Place.{Place}
use Rattle.dh_lexer.specs.declared.tokens.Token.{Token}
use Rattle.dh_lexer.specs.declared.tokens.TokenKind.TheVariants as kind
use Rattle.dh_lexer.specs.LexedText.{IsSoundToken, AreEnded}
use Rattle.dh_tree.specs.NameCounts.{declared_in, declared_in_form, declared_in_groups, declared_in_actions, declared_in_other, declared_in_functions}
use Rattle.dh_tree.specs.Written.{IsOneUnless, HaveDimPlaces, IsDeclared}
use Rattle.dh_parser.specs.Grammar.{NameText, PortsText, no_ports, some_ports, BanksText, no_banks, some_banks, DimsText, no_dims, dim_then, TypeText, ValueText, SimpleText, let_typed, let_value, view, assign, store, reduce, call, HeadText, BlockText, block, PartsText, last_part, part_then, PartText, end_of_part, last_simple, simple_then, compound_then, semicolon_then, CompoundText, block_alone, if_alone, while_loop, for_loop, IfText, if_else, ElseText, no_else, else_block, else_if, CombineText, no_combine, some_combine, MoreParametersText, no_more_parameters, parameter_then, ParametersText, no_parameters, some_parameters, ItemsText, no_items, decl_then, def_then}
use Rattle.dh_parser.specs.Spelling.{put, put_number, spell_type, spell, spell_value, spell_view, spell_simple, spell_declared, spell_unroll, spell_head, spell_block, spell_parts, spell_part, spell_compound, spell_if, spell_else, spell_combine, spell_more_parameters, spell_parameters, spell_items}
use Rattle.dh_parser.specs.TreesOfTexts.{ports_of_text, banks_of_text, bank_word_place, braces_of, dimensions_of_text, dimension_places_of_text, kind_place, is_memory_type, let_of, simple_form, count_block, count_part, count_compound, block_of_text, parts_of, part_of, compound_of, if_of, else_of, combine_of, formals_of, more_formals, decls_of, functions_of}
use Rattle.dh_parser.proofs.Fronts.{Front, front_of, type_front, expression_front, value_front, view_front, simple_front, declared_front, unroll_front, parameters_front, block_front}

-- the tokens of a text are no fewer than those that follow it
pub longer : {s : List Token → List Token} → Front s → (x : List Token) → length x ≤ length (s x)
longer f x = let e = ap length (f.stands x) in let n = length-append f.tokens x in omega (arith, e, n)

-- each token holds what it may
abbrev pub AreSound : List Token → Type 0
AreSound ts = AllByRecursion (λ (t : Token). IsSoundToken t.kind) ts

pub ended_sound : (ts : List Token) → AreEnded ts → AreSound ts
ended_sound [] h = absurd h
ended_sound (t ∷ []) h = (subst IsSoundToken (sym h) tt, tt)
ended_sound (t ∷ (u ∷ ts)) h = (h.1.0, ended_sound (u ∷ ts) h.1.1)

cut_off : (front x : List Token) → AreSound (front ++ x) → AreSound x
cut_off [] x h = h
cut_off (t ∷ ts) x h = cut_off ts x h.1

pub behind : {s : List Token → List Token} → Front s → (x : List Token) → AreSound (s x) → AreSound x
behind f x h = cut_off f.tokens x (subst AreSound (f.stands x) h)

-- what a type does not write is 1
one_port : (start : Place) (ports : PortsText) → IsOneUnless (braces_of ports) (ports_of_text start ports).value
one_port start no_ports = refl
one_port start (some_ports opener ports closer) = tt

one_bank : (size : Place) (banks : BanksText) → IsOneUnless (bank_word_place banks) (banks_of_text size banks).value
one_bank size no_banks = refl
one_bank size (some_banks word banks) = tt

are_dims : (ds : DimsText) → HaveDimPlaces (dimensions_of_text ds) (dimension_places_of_text ds)
are_dims no_dims = tt
are_dims (dim_then opener size banks closer more) = (one_bank size.place banks, are_dims more)

-- memories: their names are names
pub decls_declared : (items : ItemsText) (x : List Token) → AreSound (spell_items items x) → AllByRecursion IsDeclared (decls_of items)
decls_declared no_items x h = tt
decls_declared (decl_then word n colon t semicolon more) x h = (
  record { named = h.1.0; ports = one_port (kind_place t.kind) t.ports; dims = are_dims t.dims },
  decls_declared more x (behind (front_of spell_type type_front t) _ h.1.1.1).1,
)
decls_declared (def_then word n opener ps equal b more) x h =
    decls_declared more x (behind (front_of spell_block block_front b) _ (behind (front_of spell_parameters parameters_front ps) _ h.1.1.1).1)

-- a command declares one name at most, and that one has a token
let_names : (b : Bool) (n : NameText) (t : TypeText) (value : ValueText) → declared_in_form (let_of b n t value) ≡ 1
let_names true n t value = refl
let_names false n t value = refl

simple_names : (s : SimpleText) (x : List Token) → declared_in_form (simple_form s) + length x ≤ length (spell_simple s x)
simple_names (let_typed word n colon t value) x =
    let one = let_names (is_memory_type t.ports t.dims) n t value in
    let typed = longer (front_of spell_type type_front t) (spell_value value x) in
    let rest = longer (front_of spell_value value_front value) x in
    omega (arith, one, typed, rest)
simple_names (let_value word n equal e) x = let rest = longer (front_of spell expression_front e) x in omega (arith, rest)
simple_names (view word n equal v) x = let rest = longer (front_of spell_view view_front v) x in omega (arith, rest)
simple_names (assign n becomes e) x = let rest = longer (front_of spell_simple simple_front (assign n becomes e)) x in omega (arith, rest)
simple_names (store a becomes e) x = let rest = longer (front_of spell_simple simple_front (store a becomes e)) x in omega (arith, rest)
simple_names (reduce n r sign e) x = let rest = longer (front_of spell_simple simple_front (reduce n r sign e)) x in omega (arith, rest)
simple_names (call n opener arguments) x = let rest = longer (front_of spell_simple simple_front (call n opener arguments)) x in omega (arith, rest)

head_names : (h : HeadText) (x : List Token) → 1 + length x ≤ length (spell_head h x)
head_names h x =
    let ahead = put kind.Assign h.equal (put_number h.low (put kind.Range h.range (put_number h.high (put kind.CloseParen h.closer (spell_unroll h.unroll x))))) in
    let typed = longer (front_of spell_declared declared_front h.declared) ahead in
    let rest = longer (front_of spell_unroll unroll_front h.unroll) x in
    omega (arith, typed, rest)

-- the names of commands have tokens of their own
mutual
  block_names : (id : ℕ) (b : BlockText) (x : List Token) → declared_in (block_of_text id b) + length x ≤ length (spell_block b x)
  block_names id (block opener parts closer) x = let f = parts_names (suc id) parts (put kind.CloseBrace closer x) in omega (arith, f)

  pub parts_names : (id : ℕ) (ps : PartsText) (x : List Token) → declared_in_groups (parts_of id ps) + length x ≤ length (spell_parts ps x)
  parts_names id (last_part p) x = let f = part_names id p x in omega (arith, f)
  parts_names id (part_then p dashes more) x =
      let f = part_names id p (put kind.Dashes dashes (spell_parts more x)) in
      let g = parts_names (id + count_part p) more x in
      omega (arith, f, g)

  part_names : (id : ℕ) (p : PartText) (x : List Token) → declared_in_actions (part_of id p) + length x ≤ length (spell_part p x)
  part_names id end_of_part x = omega arith
  part_names id (last_simple s) x = let f = simple_names s x in omega (arith, f)
  part_names id (simple_then s semicolon more) x =
      let f = simple_names s (put kind.Semicolon semicolon (spell_part more x)) in
      let g = part_names (suc id) more x in
      omega (arith, f, g)
  part_names id (compound_then c more) x =
      let f = compound_names id c (spell_part more x) in
      let g = part_names (id + count_compound c) more x in
      omega (arith, f, g)
  part_names id (semicolon_then semicolon more) x = let g = part_names id more x in omega (arith, g)

  compound_names : (id : ℕ) (c : CompoundText) (x : List Token) → declared_in (compound_of id c) + length x ≤ length (spell_compound c x)
  compound_names id (block_alone b) x = block_names id b x
  compound_names id (if_alone i) x = if_names id i x
  compound_names id (while_loop word opener e closer b) x =
      let test = longer (front_of spell expression_front e) (put kind.CloseParen closer (spell_block b x)) in
      let f = block_names (suc id) b x in
      omega (arith, test, f)
  compound_names id (for_loop h b combined) x =
      let one = head_names h (spell_block b (spell_combine combined x)) in
      let f = block_names (suc id) b (spell_combine combined x) in
      let g = combine_names (suc (id + count_block b)) combined x in
      omega (arith, one, f, g)

  if_names : (id : ℕ) (i : IfText) (x : List Token) → declared_in (if_of id i) + length x ≤ length (spell_if i x)
  if_names id (if_else word opener e closer b other) x =
      let test = longer (front_of spell expression_front e) (put kind.CloseParen closer (spell_block b (spell_else other x))) in
      let f = block_names (suc id) b (spell_else other x) in
      let g = else_names (suc (id + count_block b)) other x in
      omega (arith, test, f, g)

  else_names : (id : ℕ) (other : ElseText) (x : List Token) → declared_in_other (else_of id other) + length x ≤ length (spell_else other x)
  else_names id no_else x = omega arith
  else_names id (else_block word b) x = let f = block_names id b x in omega (arith, f)
  else_names id (else_if word i) x = let f = if_names (suc id) i x in omega (arith, f)

  combine_names : (id : ℕ) (c : CombineText) (x : List Token) → declared_in_other (combine_of id c) + length x ≤ length (spell_combine c x)
  combine_names id no_combine x = omega arith
  combine_names id (some_combine word b) x = let f = block_names id b x in omega (arith, f)

more_formals_short : (ps : MoreParametersText) (x : List Token) → length (more_formals ps) + length x ≤ length (spell_more_parameters ps x)
more_formals_short (no_more_parameters closer) x = omega arith
more_formals_short (parameter_then comma p more) x =
    let rest = more_formals_short more x in
    let typed = longer (front_of spell_type type_front p.written) (spell_more_parameters more x) in
    omega (arith, rest, typed)

formals_short : (ps : ParametersText) (x : List Token) → length (formals_of ps) + length x ≤ length (spell_parameters ps x)
formals_short (no_parameters closer) x = omega arith
formals_short (some_parameters p more) x =
    let rest = more_formals_short more x in
    let typed = longer (front_of spell_type type_front p.written) (spell_more_parameters more x) in
    omega (arith, rest, typed)

-- memories and functions, with all that functions declare
pub items_names : (id : ℕ) (items : ItemsText) (x : List Token)
    → ((length (decls_of items) + length (functions_of id items)) + declared_in_functions (functions_of id items)) + length x ≤ length (spell_items items x)
items_names id no_items x = omega arith
items_names id (decl_then word n colon t semicolon more) x =
    let rest = items_names id more x in
    let typed = longer (front_of spell_type type_front t) (put kind.Semicolon semicolon (spell_items more x)) in
    omega (arith, rest, typed)
items_names id (def_then word n opener ps equal b more) x =
    let taken = formals_short ps (put kind.Assign equal (spell_block b (spell_items more x))) in
    let body = block_names id b (spell_items more x) in
    let rest = items_names (id + count_block b) more x in
    omega (arith, taken, body, rest)
