-- Reading of compound commands, blocks and programs is sound: part by part, and by recursion on the
-- steps.
use Rattle.std.proofs.Common.{◌≡◌, ℕ, zero, suc, List, [], ◌∷◌, refl, ap, sym}
use Rattle.dh_base.specs.declared.places.Place.{Place}
use Rattle.dh_lexer.specs.declared.tokens.Token.{Token}
use Rattle.dh_lexer.specs.declared.tokens.TokenKind.{TokenKind}
use Rattle.dh_lexer.specs.declared.tokens.TokenKind.TheVariants as kind
use Rattle.dh_lexer.specs.LexedText.{token_placed}
use Rattle.dh_parser.specs.declared.parsing.reading.Mark.TheVariants as mark
use Rattle.dh_parser.specs.Marks.{comes}
use Rattle.dh_parser.specs.Grammar.{HeadText, PartText, ParameterText, ItemsText, ProgramText}
use Rattle.dh_parser.specs.Spelling.{put, put_name, put_number, spell_kind, spell_type, spell, spell_simple, spell_declared, spell_unroll, spell_head, spell_block, spell_parts, spell_part, spell_compound, spell_if, spell_else, spell_combine, spell_parameter, spell_more_parameters, spell_parameters, spell_items, spell_program}
use Rattle.dh_parser.specs.Allowed.{KindFits, ExpressionFits, SimpleFits, DeclaredFits, BlockFits, AllPartsFit, PartFits, CompoundFits, IfFits, ElseFits, CombineFits, MoreParametersFit, ParametersFit, ItemsFit, ProgramFits}
use Rattle.dh_parser.specs.Reading.{Outcome, good, bad, deep, the, the_name, the_number, the_kind, the_type, steps, the_expression, the_simple, the_declared, the_unroll, the_head, Blocks, the_if, the_while, the_combine, the_for, the_compound, Beginning, begins_simple, begins_compound, begins_semicolon, begins_nothing, beginning, part_with, the_part, the_parts, read_block, the_block, the_parameter, more_parameters, the_parameters, decl_from, def_from, items_from, the_items, the_program}
use Rattle.dh_parser.proofs.SoundBasics.{Good, Took, any, next, either, put_mark, mark_took, name_took, number_took}
use Rattle.dh_parser.specs.Programs.{IsSoundReading}
use Rattle.dh_parser.proofs.SoundTypes.{TypeFits, kind_took, type_took}
use Rattle.dh_parser.proofs.SoundSimple.{expression_took, simple_took}

pub declared_took : (ts : List Token) → Took DeclaredFits spell_declared ts (the_declared ts)
declared_took ts =
    either _ (comes mark.Colon ts) _ _
    (λ _.
    next any (put_mark mark.Colon) ts _ (the mark.Colon ts) _ (mark_took mark.Colon ts) λ colon r0 _ e0.
    next KindFits spell_kind r0 _ (the_kind r0) _ (kind_took r0) λ k r1 f1 e1.
    (f1, cc))
    (λ _. (tt, refl))

pub unroll_took : (ts : List Token) → Took any spell_unroll ts (the_unroll ts)
unroll_took ts =
    either _ (comes mark.Unroll ts) _ _
    (λ _.
    next any (put_mark mark.Unroll) ts _ (the mark.Unroll ts) _ (mark_took mark.Unroll ts) λ word r0 _ e0.
    next any put_number r0 _ (the_number r0) _ (number_took r0) λ factor r1 _ e1.
    (tt, cc))
    (λ _. (tt, refl))

abbrev pub HeadFits : HeadText → Type 0
HeadFits head = DeclaredFits head.declared

pub head_took : (ts : List Token) → Took HeadFits spell_head ts (the_head ts)
head_took ts =
    next any (put_mark mark.For) ts _ (the mark.For ts) _ (mark_took mark.For ts) λ word r0 _ e0.
    next any (put_mark mark.OpenParen) r0 _ (the mark.OpenParen r0) _ (mark_took mark.OpenParen r0) λ opener r1 _ e1.
    next any (put_mark mark.Let) r1 _ (the mark.Let r1) _ (mark_took mark.Let r1) λ let_word r2 _ e2.
    next any put_name r2 _ (the_name r2) _ (name_took r2) λ iterator r3 _ e3.
    next DeclaredFits spell_declared r3 _ (the_declared r3) _ (declared_took r3) λ declared r4 f4 e4.
    next any (put_mark mark.Assign) r4 _ (the mark.Assign r4) _ (mark_took mark.Assign r4) λ equal r5 _ e5.
    next any put_number r5 _ (the_number r5) _ (number_took r5) λ low r6 _ e6.
    next any (put_mark mark.Range) r6 _ (the mark.Range r6) _ (mark_took mark.Range r6) λ range r7 _ e7.
    next any put_number r7 _ (the_number r7) _ (number_took r7) λ high r8 _ e8.
    next any (put_mark mark.CloseParen) r8 _ (the mark.CloseParen r8) _ (mark_took mark.CloseParen r8) λ closer r9 _ e9.
    next any spell_unroll r9 _ (the_unroll r9) _ (unroll_took r9) λ unroll r10 _ e10.
    (f4, cc)

abbrev SoundBlocks : Blocks → Type 0
SoundBlocks blocks = (ts : List Token) → Took BlockFits spell_block ts (blocks ts)

pub if_took : (blocks : Blocks) → SoundBlocks blocks → (n : ℕ) (ts : List Token) → Took IfFits spell_if ts (the_if blocks n ts)
if_took blocks h zero ts = tt
if_took blocks h (suc n) ts =
    next any (put_mark mark.If) ts _ (the mark.If ts) _ (mark_took mark.If ts) λ word r0 _ e0.
    next any (put_mark mark.OpenParen) r0 _ (the mark.OpenParen r0) _ (mark_took mark.OpenParen r0) λ opener r1 _ e1.
    next (ExpressionFits 0) spell r1 _ (the_expression r1) _ (expression_took r1) λ x r2 f2 e2.
    next any (put_mark mark.CloseParen) r2 _ (the mark.CloseParen r2) _ (mark_took mark.CloseParen r2) λ closer r3 _ e3.
    next BlockFits spell_block r3 _ (blocks r3) _ (h r3) λ b r4 f4 e4.
    next ElseFits spell_else r4 _ _ _ (either _ (comes mark.Else r4) _ _
    (λ _. next any (put_mark mark.Else) r4 _ (the mark.Else r4) _ (mark_took mark.Else r4) λ else_word q _ e.
    either _ (comes mark.If q) _ _
    (λ _. next IfFits spell_if q _ (the_if blocks n q) _ (if_took blocks h n q) λ i q1 f e1. (f, cc))
    (λ _. next BlockFits spell_block q _ (blocks q) _ (h q) λ c q1 f e1. (f, cc)))
    (λ _. (tt, refl))) λ other r5 f5 e5.
    ((f2, (f4, f5)), cc)

while_took : (blocks : Blocks) → SoundBlocks blocks → (ts : List Token) → Took CompoundFits spell_compound ts (the_while blocks ts)
while_took blocks h ts =
    next any (put_mark mark.While) ts _ (the mark.While ts) _ (mark_took mark.While ts) λ word r0 _ e0.
    next any (put_mark mark.OpenParen) r0 _ (the mark.OpenParen r0) _ (mark_took mark.OpenParen r0) λ opener r1 _ e1.
    next (ExpressionFits 0) spell r1 _ (the_expression r1) _ (expression_took r1) λ x r2 f2 e2.
    next any (put_mark mark.CloseParen) r2 _ (the mark.CloseParen r2) _ (mark_took mark.CloseParen r2) λ closer r3 _ e3.
    next BlockFits spell_block r3 _ (blocks r3) _ (h r3) λ b r4 f4 e4.
    ((f2, f4), cc)

pub combine_took : (blocks : Blocks) → SoundBlocks blocks → (ts : List Token) → Took CombineFits spell_combine ts (the_combine blocks ts)
combine_took blocks h ts =
    either _ (comes mark.Combine ts) _ _
    (λ _.
    next any (put_mark mark.Combine) ts _ (the mark.Combine ts) _ (mark_took mark.Combine ts) λ word r0 _ e0.
    next BlockFits spell_block r0 _ (blocks r0) _ (h r0) λ b r1 f1 e1.
    (f1, cc))
    (λ _. (tt, refl))

for_took : (blocks : Blocks) → SoundBlocks blocks → (ts : List Token) → Took CompoundFits spell_compound ts (the_for blocks ts)
for_took blocks h ts =
    next HeadFits spell_head ts _ (the_head ts) _ (head_took ts) λ head r0 f0 e0.
    next BlockFits spell_block r0 _ (blocks r0) _ (h r0) λ b r1 f1 e1.
    next CombineFits spell_combine r1 _ (the_combine blocks r1) _ (combine_took blocks h r1) λ combined r2 f2 e2.
    ((f0, (f1, f2)), cc)

pub compound_took : (blocks : Blocks) → SoundBlocks blocks → (ts : List Token) → Took CompoundFits spell_compound ts (the_compound blocks ts)
compound_took blocks h ts =
    either _ (comes mark.If ts) _ _
    (λ _. next IfFits spell_if ts _ (the_if blocks (steps ts) ts) _ (if_took blocks h (steps ts) ts) λ i r f e. (f, e))
    (λ _. either _ (comes mark.While ts) _ _
    (λ _. while_took blocks h ts)
    (λ _. either _ (comes mark.For ts) _ _
    (λ _. for_took blocks h ts)
    (λ _. next BlockFits spell_block ts _ (blocks ts) _ (h ts) λ b r f e. (f, e))))

part_with_took : (blocks : Blocks) → SoundBlocks blocks → (go : List Token → Outcome PartText) → ((ts : List Token) → Took PartFits spell_part ts (go ts))
    → (ts : List Token) (b : Beginning) → Took PartFits spell_part ts (part_with blocks go ts b)
part_with_took blocks h go g ts begins_simple =
    next SimpleFits spell_simple ts _ (the_simple ts) _ (simple_took ts) λ s r f e.
    either _ (comes mark.Semicolon r) _ _
    (λ _.
    next any (put_mark mark.Semicolon) r _ (the mark.Semicolon r) _ (mark_took mark.Semicolon r) λ semicolon r0 _ e0.
    next PartFits spell_part r0 _ (go r0) _ (g r0) λ more r1 f1 e1.
    ((f, f1), cc))
    (λ _. (f, e))
part_with_took blocks h go g ts begins_compound =
    next CompoundFits spell_compound ts _ (the_compound blocks ts) _ (compound_took blocks h ts) λ c r0 f0 e0.
    next PartFits spell_part r0 _ (go r0) _ (g r0) λ more r1 f1 e1.
    ((f0, f1), cc)
part_with_took blocks h go g ts begins_semicolon =
    next any (put_mark mark.Semicolon) ts _ (the mark.Semicolon ts) _ (mark_took mark.Semicolon ts) λ semicolon r0 _ e0.
    next PartFits spell_part r0 _ (go r0) _ (g r0) λ more r1 f1 e1.
    (f1, cc)
part_with_took blocks h go g ts begins_nothing = (tt, refl)

pub part_took : (blocks : Blocks) → SoundBlocks blocks → (n : ℕ) (ts : List Token) → Took PartFits spell_part ts (the_part blocks n ts)
part_took blocks h zero ts = tt
part_took blocks h (suc n) ts = part_with_took blocks h (the_part blocks n) (part_took blocks h n) ts (beginning ts)

pub parts_took : (blocks : Blocks) → SoundBlocks blocks → (n : ℕ) (ts : List Token) → Took AllPartsFit spell_parts ts (the_parts blocks n ts)
parts_took blocks h zero ts = tt
parts_took blocks h (suc n) ts =
    next PartFits spell_part ts _ (the_part blocks (steps ts) ts) _ (part_took blocks h (steps ts) ts) λ p r f e.
    either _ (comes mark.Dashes r) _ _
    (λ _.
    next any (put_mark mark.Dashes) r _ (the mark.Dashes r) _ (mark_took mark.Dashes r) λ dashes r0 _ e0.
    next AllPartsFit spell_parts r0 _ (the_parts blocks n r0) _ (parts_took blocks h n r0) λ more r1 f1 e1.
    ((f, f1), cc))
    (λ _. (f, e))

pub blocks_took : (d : ℕ) → SoundBlocks (read_block d)
blocks_took zero ts = tt
blocks_took (suc d) ts =
    next any (put_mark mark.OpenBrace) ts _ (the mark.OpenBrace ts) _ (mark_took mark.OpenBrace ts) λ opener r0 _ e0.
    next AllPartsFit spell_parts r0 _ (the_parts (read_block d) (steps r0) r0) _ (parts_took (read_block d) (blocks_took d) (steps r0) r0) λ parts r1 f1 e1.
    next any (put_mark mark.CloseBrace) r1 _ (the mark.CloseBrace r1) _ (mark_took mark.CloseBrace r1) λ closer r2 _ e2.
    (f1, cc)

pub block_took : SoundBlocks the_block
unfolding the_block
block_took ts = blocks_took (steps ts) ts

abbrev pub ParameterFits : ParameterText → Type 0
ParameterFits p = KindFits p.written.kind

pub parameter_took : (ts : List Token) → Took ParameterFits spell_parameter ts (the_parameter ts)
parameter_took ts =
    next any put_name ts _ (the_name ts) _ (name_took ts) λ n r0 _ e0.
    next any (put_mark mark.Colon) r0 _ (the mark.Colon r0) _ (mark_took mark.Colon r0) λ colon r1 _ e1.
    next TypeFits spell_type r1 _ (the_type r1) _ (type_took r1) λ t r2 f2 e2.
    (f2, cc)

pub more_parameters_took : (n : ℕ) (ts : List Token) → Took MoreParametersFit spell_more_parameters ts (more_parameters n ts)
more_parameters_took zero ts = tt
more_parameters_took (suc n) ts =
    either _ (comes mark.Comma ts) _ _
    (λ _.
    next any (put_mark mark.Comma) ts _ (the mark.Comma ts) _ (mark_took mark.Comma ts) λ comma r0 _ e0.
    next ParameterFits spell_parameter r0 _ (the_parameter r0) _ (parameter_took r0) λ p r1 f1 e1.
    next MoreParametersFit spell_more_parameters r1 _ (more_parameters n r1) _ (more_parameters_took n r1) λ more r2 f2 e2.
    ((f1, f2), cc))
    (λ _.
    next any (put_mark mark.CloseParen) ts _ (the mark.CloseParen ts) _ (mark_took mark.CloseParen ts) λ closer r0 _ e0.
    (tt, cc))

pub parameters_took : (ts : List Token) → Took ParametersFit spell_parameters ts (the_parameters ts)
parameters_took ts =
    either _ (comes mark.CloseParen ts) _ _
    (λ _.
    next any (put_mark mark.CloseParen) ts _ (the mark.CloseParen ts) _ (mark_took mark.CloseParen ts) λ closer r0 _ e0.
    (tt, cc))
    (λ _.
    next ParameterFits spell_parameter ts _ (the_parameter ts) _ (parameter_took ts) λ p r0 f0 e0.
    next MoreParametersFit spell_more_parameters r0 _ (more_parameters (steps r0) r0) _ (more_parameters_took (steps r0) r0) λ more r1 f1 e1.
    ((f0, f1), cc))

abbrev SoundItems : (List Token → Outcome ItemsText) → Type 0
SoundItems go = (ts : List Token) → Took ItemsFit spell_items ts (go ts)

decl_took : (word : Place) (go : List Token → Outcome ItemsText) → SoundItems go → (ts : List Token) → Good (λ i rest. ItemsFit i × (put kind.Decl word ts ≡ spell_items i rest)) (decl_from word go ts)
decl_took word go g ts =
    next any put_name ts _ (the_name ts) _ (name_took ts) λ n r0 _ e0.
    next any (put_mark mark.Colon) r0 _ (the mark.Colon r0) _ (mark_took mark.Colon r0) λ colon r1 _ e1.
    next TypeFits spell_type r1 _ (the_type r1) _ (type_took r1) λ t r2 f2 e2.
    next any (put_mark mark.Semicolon) r2 _ (the mark.Semicolon r2) _ (mark_took mark.Semicolon r2) λ semicolon r3 _ e3.
    next ItemsFit spell_items r3 _ (go r3) _ (g r3) λ more r4 f4 e4.
    ((f2, f4), cc)

def_took : (word : Place) (go : List Token → Outcome ItemsText) → SoundItems go → (ts : List Token) → Good (λ i rest. ItemsFit i × (put kind.Def word ts ≡ spell_items i rest)) (def_from word go ts)
def_took word go g ts =
    next any put_name ts _ (the_name ts) _ (name_took ts) λ n r0 _ e0.
    next any (put_mark mark.OpenParen) r0 _ (the mark.OpenParen r0) _ (mark_took mark.OpenParen r0) λ opener r1 _ e1.
    next ParametersFit spell_parameters r1 _ (the_parameters r1) _ (parameters_took r1) λ ps r2 f2 e2.
    next any (put_mark mark.Assign) r2 _ (the mark.Assign r2) _ (mark_took mark.Assign r2) λ equal r3 _ e3.
    next BlockFits spell_block r3 _ (the_block r3) _ (block_took r3) λ b r4 f4 e4.
    next ItemsFit spell_items r4 _ (go r4) _ (g r4) λ more r5 f5 e5.
    ((f2, (f4, f5)), cc)

items_took_from : (go : List Token → Outcome ItemsText) → SoundItems go → (k : TokenKind) (t : Token) (ts : List Token) → t.kind ≡ k → Good (λ i rest. ItemsFit i × (token_placed k t.place ∷ ts ≡ spell_items i rest)) (items_from go k t ts)
items_took_from go g kind.Decl t ts e = decl_took t.place go g ts
items_took_from go g kind.Def t ts e = def_took t.place go g ts
items_took_from go g k t ts e = (tt, ap (λ x. token_placed x t.place ∷ ts) (sym e))

pub items_took : (n : ℕ) (ts : List Token) → Took ItemsFit spell_items ts (the_items n ts)
items_took zero ts = tt
items_took (suc n) [] = (tt, refl)
items_took (suc n) (t ∷ ts) = items_took_from (the_items n) (items_took n) t.kind t ts refl

program_took : (ts : List Token) → Took ProgramFits spell_program ts (the_program ts)
program_took ts =
    next ItemsFit spell_items ts _ (the_items (steps ts) ts) _ (items_took (steps ts) ts) λ items r0 f0 e0.
    next AllPartsFit spell_parts r0 _ (the_parts (read_block (steps r0)) (steps r0) r0) _ (parts_took (read_block (steps r0)) (blocks_took (steps r0)) (steps r0) r0) λ parts r1 f1 e1.
    next any (put_mark mark.End) r1 _ (the mark.End r1) _ (mark_took mark.End r1) λ end r2 _ e2.
    ((f0, f1), cc)

sound_from : (ts : List Token) (o : Outcome ProgramText) → Took ProgramFits spell_program ts o → IsSoundReading ts o
sound_from ts (good p rest) h = h
sound_from ts (bad rest) h = tt
sound_from ts deep h = tt

pub program_sound : (ts : List Token) → IsSoundReading ts (the_program ts)
program_sound ts = sound_from ts (the_program ts) (program_took ts)
