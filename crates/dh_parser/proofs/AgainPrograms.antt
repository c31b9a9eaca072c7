-- What a program spells is read as that program. So a list of tokens is spelled by one text at most, and
-- by one tree.
use Rattle.std.proofs.Common.{◌≡◌, ℕ, zero, suc, ◌≤◌, false, List, [], length, refl, ap, sym, ◌∙◌, ◌<◌, ◌+◌, arith}
use Rattle.dh_lexer.specs.declared.tokens.Token.{Token}
use Rattle.dh_lexer.specs.declared.tokens.TokenKind.TheVariants as kind
use Rattle.dh_parser.specs.declared.parsing.reading.Mark.TheVariants as mark
use Rattle.dh_parser.specs.Marks.{comes}
use Rattle.dh_parser.specs.Grammar.{element, physical, SimpleText, let_typed, let_value, view, assign, store, reduce, call, block, PartsText, last_part, part_then, PartText, end_of_part, last_simple, simple_then, compound_then, semicolon_then, block_alone, if_alone, while_loop, for_loop, if_else, ParameterText, MoreParametersText, no_more_parameters, parameter_then, ParametersText, no_parameters, some_parameters, ItemsText, no_items, decl_then, def_then, ProgramText}
use Rattle.dh_parser.specs.Spelling.{put, spell_type, spell_simple, spell_block, spell_parts, spell_part, spell_parameter, spell_more_parameters, spell_parameters, spell_items, spell_program}
use Rattle.dh_parser.specs.Allowed.{KindFits, MoreParametersFit, ParametersFit, ItemsFit, ProgramFits}
use Rattle.dh_parser.specs.Reading.{Outcome, good, bad, deep, the_type, steps, the_parts, read_block, the_block, the_parameter, more_parameters, the_parameters, the_items, the_program}
use Rattle.dh_tree.specs.PlainTrees.{Program}
use Rattle.dh_parser.specs.TreesOfTexts.{program_of}
use Rattle.dh_parser.specs.Programs.{Spells}
use Rattle.dh_parser.proofs.StepsOfExpressions.{type_left}
use Rattle.dh_parser.proofs.StepsOfPrograms.{block_left, parameter_left, parameters_left}
use Rattle.dh_parser.proofs.AgainExpressions.{next_is, nothing_below, own}
use Rattle.dh_parser.proofs.AgainSimple.{type_again}
use Rattle.dh_parser.proofs.AgainCommands.{from_left, text_end, parts_again, the_block_again}

-- what may follow a type
record TypeEnds (x : List Token) : Type 0 where
  brace : comes mark.OpenBrace x ≡ false
  square : comes mark.OpenBracket x ≡ false

parameter_again : (p : ParameterText) (x : List Token) → KindFits p.written.kind → TypeEnds x → the_parameter (spell_parameter p x) ≡ good p x
parameter_again p x f h = next_is (the_type (spell_type p.written x)) _ p.written x _ (type_again p.written x f h.brace h.square) refl

parameters_end : (m : MoreParametersText) (x : List Token) → TypeEnds (spell_more_parameters m x)
parameters_end (no_more_parameters closer) x = record { brace = refl; square = refl }
parameters_end (parameter_then comma p more) x = record { brace = refl; square = refl }

less_by_two : (a b n : ℕ) → 1 + a ≤ b → suc b < suc n → a < n
less_by_two a b n h k = omega arith

more_parameters_again : (m : MoreParametersText) (n : ℕ) (x : List Token) → MoreParametersFit m → length (spell_more_parameters m x) < n → more_parameters n (spell_more_parameters m x) ≡ good m x
more_parameters_again m zero x f few = absurd (nothing_below (length (spell_more_parameters m x)) few)
more_parameters_again (no_more_parameters closer) (suc n) x f few = refl
more_parameters_again (parameter_then comma p more) (suc n) x f few =
    let here = parameter_again p (spell_more_parameters more x) f.0 (parameters_end more x) in
    let long = from_left 1 (length (spell_parameter p (spell_more_parameters more x))) _ p (spell_more_parameters more x) (parameter_left (spell_parameter p (spell_more_parameters more x))) here in
    next_is (the_parameter (spell_parameter p (spell_more_parameters more x))) _ p (spell_more_parameters more x) _ here
    (next_is (more_parameters n (spell_more_parameters more x)) _ more x _ (more_parameters_again more n x f.1 (less_by_two (length (spell_more_parameters more x)) _ n long few)) refl)

parameters_again : (l : ParametersText) (x : List Token) → ParametersFit l → the_parameters (spell_parameters l x) ≡ good l x
parameters_again (no_parameters closer) x f = refl
parameters_again (some_parameters p more) x f =
    next_is (the_parameter (spell_parameter p (spell_more_parameters more x))) _ p (spell_more_parameters more x) _ (parameter_again p (spell_more_parameters more x) f.0 (parameters_end more x))
    (next_is (more_parameters (steps (spell_more_parameters more x)) (spell_more_parameters more x)) _ more x _ (more_parameters_again more (steps (spell_more_parameters more x)) x f.1 (own (length (spell_more_parameters more x)))) refl)

-- no item begins here
abbrev NoItem : List Token → Type 0
NoItem x = (n : ℕ) → the_items (suc n) x ≡ good no_items x

simple_item : (s : SimpleText) (x : List Token) → NoItem (spell_simple s x)
simple_item (let_typed word m colon t value) x n = refl
simple_item (let_value word m equal e) x n = refl
simple_item (view word m equal v) x n = refl
simple_item (assign m becomes e) x n = refl
simple_item (store (element m i more) becomes e) x n = refl
simple_item (store (physical m opener bank closer i) becomes e) x n = refl
simple_item (reduce m r sign e) x n = refl
simple_item (call m opener arguments) x n = refl

part_item : (p : PartText) (x : List Token) → NoItem x → NoItem (spell_part p x)
part_item end_of_part x h = h
part_item (last_simple s) x h = simple_item s x
part_item (simple_then s semicolon more) x h = simple_item s (put kind.Semicolon semicolon (spell_part more x))
part_item (compound_then (block_alone (block opener parts closer)) more) x h = λ n. refl
part_item (compound_then (if_alone (if_else word opener e closer b other)) more) x h = λ n. refl
part_item (compound_then (while_loop word opener e closer b) more) x h = λ n. refl
part_item (compound_then (for_loop head b combined) more) x h = λ n. refl
part_item (semicolon_then semicolon more) x h = λ n. refl

parts_item : (l : PartsText) (x : List Token) → NoItem x → NoItem (spell_parts l x)
parts_item (last_part p) x h = part_item p x h
parts_item (part_then p dashes more) x h = part_item p (put kind.Dashes dashes (spell_parts more x)) (λ n. refl)

decl_few : (a b n : ℕ) → 1 + suc a ≤ b → suc (suc (suc b)) < suc n → a < n
decl_few a b n h k = omega arith

def_few : (a b c n : ℕ) → 1 + suc b ≤ c → 1 + a ≤ b → suc (suc (suc c)) < suc n → a < n
def_few a b c n h k l = omega arith

items_again : (l : ItemsText) (n : ℕ) (x : List Token) → NoItem x → ItemsFit l → length (spell_items l x) < n → the_items n (spell_items l x) ≡ good l x
items_again l zero x h f few = absurd (nothing_below (length (spell_items l x)) few)
items_again no_items (suc n) x h f few = h n
items_again (decl_then word m colon t semicolon more) (suc n) x h f few =
    let here = type_again t (put kind.Semicolon semicolon (spell_items more x)) f.0 refl refl in
    let long = from_left 1 (length (spell_type t (put kind.Semicolon semicolon (spell_items more x)))) _ t (put kind.Semicolon semicolon (spell_items more x)) (type_left (spell_type t (put kind.Semicolon semicolon (spell_items more x)))) here in
    next_is (the_type (spell_type t (put kind.Semicolon semicolon (spell_items more x)))) _ t (put kind.Semicolon semicolon (spell_items more x)) _ here
    (next_is (the_items n (spell_items more x)) _ more x _ (items_again more n x h f.1 (decl_few (length (spell_items more x)) _ n long few)) refl)
items_again (def_then word m opener ps equal b more) (suc n) x h f few =
    let first = parameters_again ps (put kind.Assign equal (spell_block b (spell_items more x))) f.0 in
    let long = from_left 1 (length (spell_parameters ps (put kind.Assign equal (spell_block b (spell_items more x))))) _ ps (put kind.Assign equal (spell_block b (spell_items more x)))
    (parameters_left (spell_parameters ps (put kind.Assign equal (spell_block b (spell_items more x))))) first in
    let second = the_block_again b (spell_items more x) f.1.0 in
    let after = from_left 1 (length (spell_block b (spell_items more x))) _ b (spell_items more x) (block_left (spell_block b (spell_items more x))) second in
    next_is (the_parameters (spell_parameters ps (put kind.Assign equal (spell_block b (spell_items more x))))) _ ps (put kind.Assign equal (spell_block b (spell_items more x))) _ first
    (next_is (the_block (spell_block b (spell_items more x))) _ b (spell_items more x) _ second
    (next_is (the_items n (spell_items more x)) _ more x _ (items_again more n x h f.1.1 (def_few (length (spell_items more x)) (length (spell_block b (spell_items more x))) _ n long after few)) refl))

pub program_again : (p : ProgramText) (x : List Token) → ProgramFits p → the_program (spell_program p x) ≡ good p x
program_again p x f =
    next_is (the_items (steps (spell_program p x)) (spell_program p x)) _ p.items (spell_parts p.parts (put kind.End p.end x)) _
    (items_again p.items (steps (spell_program p x)) (spell_parts p.parts (put kind.End p.end x)) (parts_item p.parts (put kind.End p.end x) (λ n. refl)) f.0 (own (length (spell_program p x))))
    (next_is (the_parts (read_block (steps (spell_parts p.parts (put kind.End p.end x)))) (steps (spell_parts p.parts (put kind.End p.end x))) (spell_parts p.parts (put kind.End p.end x))) _ p.parts (put kind.End p.end x) _
    (parts_again p.parts (steps (spell_parts p.parts (put kind.End p.end x))) (steps (spell_parts p.parts (put kind.End p.end x))) (put kind.End p.end x) (text_end p.end x) refl f.1
    (own (length (spell_parts p.parts (put kind.End p.end x)))) (own (length (spell_parts p.parts (put kind.End p.end x))))) refl)

abbrev text_in : (d : ProgramText) → Outcome ProgramText → ProgramText
text_in d (good p rest) = p
text_in d (bad rest) = d
text_in d deep = d

one_text : (p q : ProgramText) → ProgramFits p → ProgramFits q → spell_program p [] ≡ spell_program q [] → p ≡ q
one_text p q f g e =
    let both : good p [] ≡ good q [] = sym (program_again p [] f) ∙ (ap the_program e ∙ program_again q [] g) in
    ap (λ o. text_in p o) both

pub one_tree : (t u : Program) (tokens : List Token) → Spells t tokens → Spells u tokens → t ≡ u
one_tree t u tokens a b =
    let same = one_text a.text b.text a.fits b.fits (a.tokens_are ∙ sym b.tokens_are) in
    sym a.tree_is ∙ (ap program_of same ∙ b.tree_is)
