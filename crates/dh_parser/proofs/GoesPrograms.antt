-- Compound commands, blocks and programs that are being read can be gone on with.
use Rattle.std.proofs.Common.{◌≡◌, ℕ, zero, suc, List, [], ◌∷◌, refl}
use Rattle.dh_base.specs.declared.places.Place.{Place}
use Rattle.dh_lexer.specs.declared.tokens.Token.{Token}
use Rattle.dh_lexer.specs.declared.tokens.TokenKind.{TokenKind}
use Rattle.dh_lexer.specs.declared.tokens.TokenKind.TheVariants as kind
use Rattle.dh_parser.specs.declared.parsing.reading.Mark.TheVariants as mark
use Rattle.dh_parser.specs.Marks.{comes}
use Rattle.dh_parser.specs.Grammar.{PartText, ItemsText, ProgramText, bool_kind, no_declared, some_declared, no_unroll, some_unroll, block, last_part, part_then, end_of_part, last_simple, simple_then, compound_then, semicolon_then, block_alone, if_alone, while_loop, for_loop, if_else, no_else, else_block, else_if, no_combine, some_combine, no_more_parameters, parameter_then, no_parameters, some_parameters, no_items, decl_then, def_then}
use Rattle.dh_parser.specs.Spelling.{put, spell_declared, spell_unroll, spell_head, spell_block, spell_parts, spell_part, spell_compound, spell_if, spell_combine, spell_parameter, spell_more_parameters, spell_parameters, spell_items, spell_program}
use Rattle.dh_parser.specs.Allowed.{DeclaredFits, BlockFits, AllPartsFit, PartFits, CompoundFits, IfFits, CombineFits, MoreParametersFit, ParametersFit, ItemsFit, ProgramFits}
use Rattle.dh_parser.specs.Reading.{Outcome, steps, the_declared, the_unroll, head_text, the_head, Blocks, the_if, the_while, the_combine, the_for, the_compound, Beginning, beginning, part_with, the_part, the_parts, read_block, the_block, parameter_text, the_parameter, more_parameters, the_parameters, decl_from, def_from, items_from, the_items, program_text, the_program, begins_simple, begins_compound, begins_semicolon, begins_nothing}
use Rattle.dh_parser.proofs.SoundBasics.{any}
use Rattle.dh_parser.proofs.SoundPrograms.{declared_took, unroll_took, HeadFits, head_took, if_took, combine_took, compound_took, part_took, parts_took, blocks_took, block_took, ParameterFits, parameter_took, more_parameters_took, parameters_took, items_took}
use Rattle.dh_parser.proofs.Fronts.{declared_front, unroll_front, head_front, block_front, parts_front, part_front, compound_front, if_front, combine_front, parameter_front, more_parameters_front, parameters_front, items_front}
use Rattle.dh_parser.proofs.GoesBasics.{IsProgram, Goes, Opens, GoesOn, Part, part_of, part, done, gave_up, pick, made, took_token, here, some_name, some_number, some_type, some_expression, some_block, mark_goes, name_goes, number_goes}
use Rattle.dh_parser.proofs.GoesTypes.{kind_goes, type_goes}
use Rattle.dh_parser.proofs.GoesExpressions.{expression_goes}
use Rattle.dh_parser.proofs.GoesSimple.{simple_goes}

declared_go : GoesOn DeclaredFits spell_declared the_declared
declared_go b z o ts =
    pick (comes mark.Colon ts) (
    part (mark_goes mark.Colon) ts _ (λ p _. o (some_declared p (bool_kind here)) tt) λ colon r0 _.
    part kind_goes r0 _ (λ k f. o (some_declared colon k) f) λ k r1 f.
    done)
    done

unroll_go : GoesOn any spell_unroll the_unroll
unroll_go b z o ts =
    pick (comes mark.Unroll ts) (
    part (mark_goes mark.Unroll) ts _ (λ p _. o (some_unroll p some_number) tt) λ word r0 _.
    part number_goes r0 _ (λ n _. o (some_unroll word n) tt) λ factor r1 _.
    done)
    done

head_go : GoesOn HeadFits spell_head the_head
head_go b z o ts =
    part (mark_goes mark.For) ts _ (λ p _. o (head_text p here here some_name no_declared here some_number here some_number here no_unroll) tt) λ word r0 _.
    part (mark_goes mark.OpenParen) r0 _ (λ p _. o (head_text word p here some_name no_declared here some_number here some_number here no_unroll) tt) λ opener r1 _.
    part (mark_goes mark.Let) r1 _ (λ p _. o (head_text word opener p some_name no_declared here some_number here some_number here no_unroll) tt) λ let_word r2 _.
    part name_goes r2 _ (λ n _. o (head_text word opener let_word n no_declared here some_number here some_number here no_unroll) tt) λ iterator r3 _.
    part (part_of declared_front declared_took declared_go) r3 _ (λ d f. o (head_text word opener let_word iterator d here some_number here some_number here no_unroll) f) λ declared r4 f.
    part (mark_goes mark.Assign) r4 _ (λ p _. o (head_text word opener let_word iterator declared p some_number here some_number here no_unroll) f) λ equal r5 _.
    part number_goes r5 _ (λ n _. o (head_text word opener let_word iterator declared equal n here some_number here no_unroll) f) λ least r6 _.
    part (mark_goes mark.Range) r6 _ (λ p _. o (head_text word opener let_word iterator declared equal least p some_number here no_unroll) f) λ range r7 _.
    part number_goes r7 _ (λ n _. o (head_text word opener let_word iterator declared equal least range n here no_unroll) f) λ most r8 _.
    part (mark_goes mark.CloseParen) r8 _ (λ p _. o (head_text word opener let_word iterator declared equal least range most p no_unroll) f) λ closer r9 _.
    part (part_of unroll_front unroll_took unroll_go) r9 _ (λ u _. o (head_text word opener let_word iterator declared equal least range most closer u) f) λ unroll r10 _.
    done

abbrev BlocksGo : Blocks → Type 0
BlocksGo blocks = Part BlockFits spell_block blocks

if_go : (blocks : Blocks) → BlocksGo blocks → (n : ℕ) → GoesOn IfFits spell_if (the_if blocks n)
if_go blocks h zero b z o ts = gave_up
if_go blocks h (suc n) b z o ts =
    part (mark_goes mark.If) ts _ (λ p _. o (if_else p here some_expression here some_block no_else) (tt, (tt, tt))) λ word r0 _.
    part (mark_goes mark.OpenParen) r0 _ (λ p _. o (if_else word p some_expression here some_block no_else) (tt, (tt, tt))) λ opener r1 _.
    part expression_goes r1 _ (λ e f. o (if_else word opener e here some_block no_else) (f, (tt, tt))) λ e r2 f.
    part (mark_goes mark.CloseParen) r2 _ (λ p _. o (if_else word opener e p some_block no_else) (f, (tt, tt))) λ closer r3 _.
    part h r3 _ (λ k g. o (if_else word opener e closer k no_else) (f, (g, tt))) λ k r4 g.
    made (λ other. if_else word opener e closer k other) _ (
    pick (comes mark.Else r4) (
    part (mark_goes mark.Else) r4 _ (λ p _. o (if_else word opener e closer k (else_block p some_block)) (f, (g, tt))) λ else_word q _.
    pick (comes mark.If q) (
    part (part_of if_front (if_took blocks h.took n) (if_go blocks h n)) q _ (λ i j. o (if_else word opener e closer k (else_if else_word i)) (f, (g, j))) λ i q1 j.
    done) (
    part h q _ (λ c j. o (if_else word opener e closer k (else_block else_word c)) (f, (g, j))) λ c q1 j.
    done))
    done)

while_go : (blocks : Blocks) → BlocksGo blocks → GoesOn CompoundFits spell_compound (the_while blocks)
while_go blocks h b z o ts =
    part (mark_goes mark.While) ts _ (λ p _. o (while_loop p here some_expression here some_block) (tt, tt)) λ word r0 _.
    part (mark_goes mark.OpenParen) r0 _ (λ p _. o (while_loop word p some_expression here some_block) (tt, tt)) λ opener r1 _.
    part expression_goes r1 _ (λ e f. o (while_loop word opener e here some_block) (f, tt)) λ e r2 f.
    part (mark_goes mark.CloseParen) r2 _ (λ p _. o (while_loop word opener e p some_block) (f, tt)) λ closer r3 _.
    part h r3 _ (λ k g. o (while_loop word opener e closer k) (f, g)) λ k r4 g.
    done

combine_go : (blocks : Blocks) → BlocksGo blocks → GoesOn CombineFits spell_combine (the_combine blocks)
combine_go blocks h b z o ts =
    pick (comes mark.Combine ts) (
    part (mark_goes mark.Combine) ts _ (λ p _. o (some_combine p some_block) tt) λ word r0 _.
    part h r0 _ (λ k f. o (some_combine word k) f) λ k r1 f.
    done)
    done

for_go : (blocks : Blocks) → BlocksGo blocks → GoesOn CompoundFits spell_compound (the_for blocks)
for_go blocks h b z o ts =
    part (part_of head_front head_took head_go) ts _ (λ a f. o (for_loop a some_block no_combine) (f, (tt, tt))) λ head r0 f.
    part h r0 _ (λ k g. o (for_loop head k no_combine) (f, (g, tt))) λ k r1 g.
    part (part_of combine_front (combine_took blocks h.took) (combine_go blocks h)) r1 _ (λ c j. o (for_loop head k c) (f, (g, j))) λ combined r2 j.
    done

compound_go : (blocks : Blocks) → BlocksGo blocks → GoesOn CompoundFits spell_compound (the_compound blocks)
compound_go blocks h b z o ts =
    pick (comes mark.If ts) (
    part (part_of if_front (if_took blocks h.took (steps ts)) (if_go blocks h (steps ts))) ts _ (λ i f. o (if_alone i) f) λ i r f.
    done) (
    pick (comes mark.While ts) (while_go blocks h b z o ts) (
    pick (comes mark.For ts) (for_go blocks h b z o ts) (
    part h ts _ (λ k f. o (block_alone k) f) λ k r f.
    done)))

part_with_go : (blocks : Blocks) → BlocksGo blocks → (go : List Token → Outcome PartText) → Part PartFits spell_part go
    → (b : List Token → List Token) (z : List Token) → Opens PartFits spell_part b z → (ts : List Token) (first : Beginning) → Goes b ts (part_with blocks go ts first)
part_with_go blocks h go g b z o ts begins_simple =
    part simple_goes ts _ (λ s f. o (last_simple s) f) λ s r f.
    pick (comes mark.Semicolon r) (
    part (mark_goes mark.Semicolon) r _ (λ p _. o (simple_then s p end_of_part) (f, tt)) λ semicolon r0 _.
    part g r0 _ (λ m j. o (simple_then s semicolon m) (f, j)) λ m r1 j.
    done)
    done
part_with_go blocks h go g b z o ts begins_compound =
    part (part_of compound_front (compound_took blocks h.took) (compound_go blocks h)) ts _ (λ c f. o (compound_then c end_of_part) (f, tt)) λ c r0 f.
    part g r0 _ (λ m j. o (compound_then c m) (f, j)) λ m r1 j.
    done
part_with_go blocks h go g b z o ts begins_semicolon =
    part (mark_goes mark.Semicolon) ts _ (λ p _. o (semicolon_then p end_of_part) tt) λ semicolon r0 _.
    part g r0 _ (λ m j. o (semicolon_then semicolon m) j) λ m r1 j.
    done
part_with_go blocks h go g b z o ts begins_nothing = done

part_go : (blocks : Blocks) → BlocksGo blocks → (n : ℕ) → GoesOn PartFits spell_part (the_part blocks n)
part_go blocks h zero b z o ts = gave_up
part_go blocks h (suc n) b z o ts = part_with_go blocks h (the_part blocks n) (part_of part_front (part_took blocks h.took n) (part_go blocks h n)) b z o ts (beginning ts)

parts_go : (blocks : Blocks) → BlocksGo blocks → (n : ℕ) → GoesOn AllPartsFit spell_parts (the_parts blocks n)
parts_go blocks h zero b z o ts = gave_up
parts_go blocks h (suc n) b z o ts =
    part (part_of part_front (part_took blocks h.took (steps ts)) (part_go blocks h (steps ts))) ts _ (λ p f. o (last_part p) f) λ p r f.
    pick (comes mark.Dashes r) (
    part (mark_goes mark.Dashes) r _ (λ d _. o (part_then p d (last_part end_of_part)) (f, tt)) λ dashes r0 _.
    part (part_of parts_front (parts_took blocks h.took n) (parts_go blocks h n)) r0 _ (λ m j. o (part_then p dashes m) (f, j)) λ m r1 j.
    done)
    done

block_go : (d : ℕ) → GoesOn BlockFits spell_block (read_block d)
block_go zero b z o ts = gave_up
block_go (suc d) b z o ts =
    part (mark_goes mark.OpenBrace) ts _ (λ p _. o (block p (last_part end_of_part) here) tt) λ opener r0 _.
    part (part_of parts_front (parts_took (read_block d) (blocks_took d) (steps r0)) (parts_go (read_block d) (part_of block_front (blocks_took d) (block_go d)) (steps r0))) r0 _
    (λ l f. o (block opener l here) f) λ l r1 f.
    part (mark_goes mark.CloseBrace) r1 _ (λ p _. o (block opener l p) f) λ closer r2 _.
    done

blocks_go : (d : ℕ) → BlocksGo (read_block d)
blocks_go d = part_of block_front (blocks_took d) (block_go d)

the_block_goes : BlocksGo the_block
unfolding the_block
the_block_goes = part_of block_front block_took (λ b z o ts. block_go (steps ts) b z o ts)

parameter_go : GoesOn ParameterFits spell_parameter the_parameter
parameter_go b z o ts =
    part name_goes ts _ (λ n _. o (parameter_text n here some_type) tt) λ n r0 _.
    part (mark_goes mark.Colon) r0 _ (λ p _. o (parameter_text n p some_type) tt) λ colon r1 _.
    part type_goes r1 _ (λ t f. o (parameter_text n colon t) f) λ t r2 f.
    done

parameter_goes : Part ParameterFits spell_parameter the_parameter
parameter_goes = part_of parameter_front parameter_took parameter_go

more_parameters_go : (n : ℕ) → GoesOn MoreParametersFit spell_more_parameters (more_parameters n)
more_parameters_go zero b z o ts = gave_up
more_parameters_go (suc n) b z o ts =
    pick (comes mark.Comma ts) (
    part (mark_goes mark.Comma) ts _ (λ p _. o (parameter_then p (parameter_text some_name here some_type) (no_more_parameters here)) (tt, tt)) λ comma r0 _.
    part parameter_goes r0 _ (λ p f. o (parameter_then comma p (no_more_parameters here)) (f, tt)) λ p r1 f.
    part (part_of more_parameters_front (more_parameters_took n) (more_parameters_go n)) r1 _ (λ m g. o (parameter_then comma p m) (f, g)) λ m r2 g.
    done) (
    part (mark_goes mark.CloseParen) ts _ (λ p _. o (no_more_parameters p) tt) λ closer r0 _.
    done)

parameters_go : GoesOn ParametersFit spell_parameters the_parameters
parameters_go b z o ts =
    pick (comes mark.CloseParen ts) (
    part (mark_goes mark.CloseParen) ts _ (λ p _. o (no_parameters p) tt) λ closer r0 _.
    done) (
    part parameter_goes ts _ (λ p f. o (some_parameters p (no_more_parameters here)) (f, tt)) λ p r0 f.
    part (part_of more_parameters_front (more_parameters_took (steps r0)) (more_parameters_go (steps r0))) r0 _ (λ m g. o (some_parameters p m) (f, g)) λ m r1 g.
    done)

decl_go : (word : Place) (go : List Token → Outcome ItemsText) → Part ItemsFit spell_items go → (b : List Token → List Token) (z : List Token) → Opens ItemsFit spell_items b z → (ts : List Token)
    → Goes (λ x. b (put kind.Decl word x)) ts (decl_from word go ts)
decl_go word go g b z o ts =
    part name_goes ts _ (λ n _. o (decl_then word n here some_type here no_items) (tt, tt)) λ n r0 _.
    part (mark_goes mark.Colon) r0 _ (λ p _. o (decl_then word n p some_type here no_items) (tt, tt)) λ colon r1 _.
    part type_goes r1 _ (λ t f. o (decl_then word n colon t here no_items) (f, tt)) λ t r2 f.
    part (mark_goes mark.Semicolon) r2 _ (λ p _. o (decl_then word n colon t p no_items) (f, tt)) λ semicolon r3 _.
    part g r3 _ (λ m j. o (decl_then word n colon t semicolon m) (f, j)) λ m r4 j.
    done

def_go : (word : Place) (go : List Token → Outcome ItemsText) → Part ItemsFit spell_items go → (b : List Token → List Token) (z : List Token) → Opens ItemsFit spell_items b z → (ts : List Token)
    → Goes (λ x. b (put kind.Def word x)) ts (def_from word go ts)
def_go word go g b z o ts =
    part name_goes ts _ (λ n _. o (def_then word n here (no_parameters here) here some_block no_items) (tt, (tt, tt))) λ n r0 _.
    part (mark_goes mark.OpenParen) r0 _ (λ p _. o (def_then word n p (no_parameters here) here some_block no_items) (tt, (tt, tt))) λ opener r1 _.
    part (part_of parameters_front parameters_took parameters_go) r1 _ (λ l f. o (def_then word n opener l here some_block no_items) (f, (tt, tt))) λ l r2 f.
    part (mark_goes mark.Assign) r2 _ (λ p _. o (def_then word n opener l p some_block no_items) (f, (tt, tt))) λ equal r3 _.
    part the_block_goes r3 _ (λ k h. o (def_then word n opener l equal k no_items) (f, (h, tt))) λ k r4 h.
    part g r4 _ (λ m j. o (def_then word n opener l equal k m) (f, (h, j))) λ m r5 j.
    done

items_go_from : (go : List Token → Outcome ItemsText) → Part ItemsFit spell_items go → (b : List Token → List Token) (z : List Token) → Opens ItemsFit spell_items b z
    → (k : TokenKind) (t : Token) (ts : List Token) → t.kind ≡ k → Goes b (t ∷ ts) (items_from go k t ts)
items_go_from go g b z o kind.Decl t ts e = took_token t e (decl_go t.place go g b z o ts)
items_go_from go g b z o kind.Def t ts e = took_token t e (def_go t.place go g b z o ts)
items_go_from go g b z o _ t ts e = done

items_go : (n : ℕ) → GoesOn ItemsFit spell_items (the_items n)
items_go zero b z o ts = gave_up
items_go (suc n) b z o [] = done
items_go (suc n) b z o (t ∷ ts) = items_go_from (the_items n) (part_of items_front (items_took n) (items_go n)) b z o t.kind t ts refl

program_of_text : (p : ProgramText) → ProgramFits p → IsProgram (spell_program p [])
program_of_text p f = record { text = p; fits = f; tokens_are = refl }

pub program_goes : (ts : List Token) → Goes (λ x. x) ts (the_program ts)
program_goes ts =
    part (part_of items_front (items_took (steps ts)) (items_go (steps ts))) ts _ (λ i f. program_of_text (program_text i (last_part end_of_part) here) (f, tt)) λ items r0 f.
    part (part_of parts_front (parts_took (read_block (steps r0)) (blocks_took (steps r0)) (steps r0)) (parts_go (read_block (steps r0)) (blocks_go (steps r0)) (steps r0))) r0 _
    (λ l g. program_of_text (program_text items l here) (f, g)) λ l r1 g.
    part (mark_goes mark.End) r1 _ (λ p _. program_of_text (program_text items l p) (f, g)) λ end r2 _.
    done
