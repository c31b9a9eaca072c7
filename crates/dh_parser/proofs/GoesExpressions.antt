-- Expressions that are being read can be gone on with. In a chain of operators what is read so far
-- binds tightly enough to be the left operand of the next one, so that any right operand may follow.
use Rattle.std.proofs.Common.{◌≡◌, ℕ, zero, suc, ◌≤◌, ◌+◌, List, [], ◌∷◌, length, Option, Some, None, refl, sym, subst, arith}
use Rattle.dh_base.specs.declared.places.Place.{Place}
use Rattle.dh_lexer.specs.declared.tokens.Token.{Token}
use Rattle.dh_lexer.specs.declared.tokens.TokenKind.{TokenKind}
use Rattle.dh_lexer.specs.declared.tokens.TokenKind.TheVariants as kind
use Rattle.dh_lexer.specs.LexedText.{token_placed}
use Rattle.dh_parser.specs.declared.parsing.reading.Mark.TheVariants as mark
use Rattle.dh_parser.specs.Marks.{comes}
use Rattle.dh_parser.specs.Grammar.{NameText, ExprText, bool_kind, negative, access, bracket, cast, binary, element, physical, index, no_indices, index_then}
use Rattle.dh_parser.specs.Spelling.{put, put_name, sign_of, spell, spell_access, spell_index, spell_indices}
use Rattle.dh_parser.specs.Allowed.{level, ExpressionFits, AccessFits, IndexFits, IndicesFit}
use Rattle.dh_parser.specs.Reading.{Outcome, outcome_bind, name_text, Sign, sign_at, ExpressionReader, the_index, more_indices, access_from, access_goes_on, named_from, bracket_from, operand_from, operand, chain_with, chain, read, steps, the_expression, expression}
use Rattle.dh_parser.proofs.SoundOperands.{Sound, index_took, indices_took, operand_took}
use Rattle.dh_parser.proofs.SoundOperators.{level_small, Below, sign_is, loose, looser, Read, Tight, le-refl, read_tight}
use Rattle.dh_parser.proofs.SoundSimple.{read_took, expression_took}
use Rattle.dh_parser.proofs.Fronts.{expression_front, index_front, indices_front}
use Rattle.dh_parser.proofs.GoesBasics.{Goes, Opens, GoesOn, Part, part_of, after_good, part, done, gave_up, stuck, pick, made, after_put, at_token, took_token, here, some_number, some_expression, some_index, mark_goes, number_goes}
use Rattle.dh_parser.proofs.GoesTypes.{kind_goes}

-- a reader of expressions, whatever their level
abbrev pub ReadsGo : ExpressionReader → Type 0
ReadsGo rd = (k : ℕ) → Part (ExpressionFits k) spell (rd k)

sound : (rd : ExpressionReader) → ReadsGo rd → Sound rd
sound rd h k ts = (h k).took ts

index_go : (rd : ExpressionReader) → ReadsGo rd → GoesOn IndexFits spell_index (the_index rd)
index_go rd h b z o ts =
    part (mark_goes mark.OpenBracket) ts _ (λ p _. o (index p some_expression here) tt) λ opener r0 _.
    part (h 0) r0 _ (λ e f. o (index opener e here) f) λ e r1 f.
    part (mark_goes mark.CloseBracket) r1 _ (λ p _. o (index opener e p) f) λ closer r2 _.
    done

index_goes : (rd : ExpressionReader) → ReadsGo rd → Part IndexFits spell_index (the_index rd)
index_goes rd h = part_of index_front (index_took rd (sound rd h)) (index_go rd h)

indices_go : (rd : ExpressionReader) → ReadsGo rd → (n : ℕ) → GoesOn IndicesFit spell_indices (more_indices rd n)
indices_go rd h zero b z o ts = gave_up
indices_go rd h (suc n) b z o ts =
    pick (comes mark.OpenBracket ts) (
    part (index_goes rd h) ts _ (λ i f. o (index_then i no_indices) (f, tt)) λ i r0 f.
    part (part_of indices_front (indices_took rd (sound rd h) n) (indices_go rd h n)) r0 _ (λ m g. o (index_then i m) (f, g)) λ m r1 g.
    done)
    done

pub access_go : (rd : ExpressionReader) → ReadsGo rd → (n : NameText) (b : List Token → List Token) (z : List Token) → Opens AccessFits spell_access b z → (ts : List Token) → Goes b (put_name n ts) (access_from rd n ts)
access_go rd h n b z o ts =
    after_put (token_placed (kind.Name n.name) n.place) (pick (comes mark.OpenBrace ts) (
    part (mark_goes mark.OpenBrace) ts _ (λ p _. o (physical n p some_number here some_index) tt) λ opener r0 _.
    part number_goes r0 _ (λ m _. o (physical n opener m here some_index) tt) λ bank r1 _.
    part (mark_goes mark.CloseBrace) r1 _ (λ p _. o (physical n opener bank p some_index) tt) λ closer r2 _.
    part (index_goes rd h) r2 _ (λ i f. o (physical n opener bank closer i) f) λ i r3 f.
    done) (
    part (index_goes rd h) ts _ (λ i f. o (element n i no_indices) (f, tt)) λ i r0 f.
    part (part_of indices_front (indices_took rd (sound rd h) (suc (length r0))) (indices_go rd h (suc (length r0)))) r0 _ (λ m g. o (element n i m) (f, g)) λ m r1 g.
    done))

named_go : (rd : ExpressionReader) → ReadsGo rd → (k : ℕ) (n : NameText) (b : List Token → List Token) (z : List Token) → Opens (ExpressionFits k) spell b z → (ts : List Token) → Goes b (put_name n ts) (named_from rd n ts)
named_go rd h k n b z o ts = pick (access_goes_on ts) (made access (access_from rd n ts) (access_go rd h n b z (λ a f. o (access a) f) ts)) done

bracket_go : (rd : ExpressionReader) → ReadsGo rd → (k : ℕ) (opener : Place) (b : List Token → List Token) (z : List Token) → Opens (ExpressionFits k) spell b z → (ts : List Token) → Goes (λ x. b (put kind.OpenParen opener x)) ts (bracket_from rd opener ts)
bracket_go rd h k opener b z o ts =
    part (h 0) ts _ (λ e f. o (bracket opener e here) f) λ e r f.
    pick (comes mark.As r) (
    part (mark_goes mark.As) r _ (λ p _. o (cast opener e p (bool_kind here) here) (f, tt)) λ word r0 _.
    part kind_goes r0 _ (λ c g. o (cast opener e word c here) (f, g)) λ kd r1 g.
    part (mark_goes mark.CloseParen) r1 _ (λ p _. o (cast opener e word kd p) (f, g)) λ closer r2 _.
    done) (
    part (mark_goes mark.CloseParen) r _ (λ p _. o (bracket opener e p) f) λ closer r0 _.
    done)

operand_go_from : (rd : ExpressionReader) → ReadsGo rd → (k : ℕ) (b : List Token → List Token) (z : List Token) → Opens (ExpressionFits k) spell b z
    → (kd : TokenKind) (t : Token) (ts : List Token) → t.kind ≡ kd → Goes b (t ∷ ts) (operand_from rd kd t ts)
operand_go_from rd h k b z o (kind.Number n) t ts e = done
operand_go_from rd h k b z o kind.Minus t ts e =
    took_token t e (
    part number_goes ts _ (λ n _. o (negative t.place n) tt) λ n r0 _.
    done)
operand_go_from rd h k b z o kind.True t ts e = done
operand_go_from rd h k b z o kind.False t ts e = done
operand_go_from rd h k b z o (kind.Name n) t ts e = at_token t e (named_go rd h k (name_text n t.place) b z o ts)
operand_go_from rd h k b z o kind.OpenParen t ts e = took_token t e (bracket_go rd h k t.place b z o ts)
operand_go_from rd h k b z o _ t ts e = stuck _ (o some_expression tt)

operand_go : (rd : ExpressionReader) → ReadsGo rd → (k : ℕ) → GoesOn (ExpressionFits k) spell (operand rd)
operand_go rd h k b z o [] = stuck _ (o some_expression tt)
operand_go rd h k b z o (t ∷ ts) = operand_go_from rd h k b z o t.kind t ts refl

pub operand_goes : (rd : ExpressionReader) → ReadsGo rd → (k : ℕ) → Part (ExpressionFits k) spell (operand rd)
operand_goes rd h k = part_of expression_front (operand_took rd (sound rd h) k) (operand_go rd h k)

-- the rest of a chain, whose first operator binds at most as tightly as m, like what was read so far
abbrev ChainGoes : ℕ → (List Token → List Token) → (ExprText → List Token → Outcome ExprText) → Type 0
ChainGoes k b go = (m : ℕ) (e : ExprText) (ts : List Token) → k ≤ m → ExpressionFits m e → Below m ts → Goes (λ x. b (spell e x)) ts (go e ts)

chain_by : (rd : ExpressionReader) → ReadsGo rd → Tight rd → (k : ℕ) (b : List Token → List Token) (z : List Token) → Opens (ExpressionFits k) spell b z
    → (go : ExprText → List Token → Outcome ExprText) → ChainGoes k b go
    → (m : ℕ) (e : ExprText) (ts : List Token) → k ≤ m → ExpressionFits m e → Below m ts → (x : Option Sign) → sign_at k ts ≡ x → Goes (λ x. b (spell e x)) ts (chain_with rd e ts go x)
chain_by rd h tight k b z o go c m e ts km f below None none = done
chain_by rd h tight k b z o go c m e ts km f below (Some s) some =
    let sign = sign_is k ts s some in
    let l : level s.op ≤ m = below s.op sign.first in
    let left : ExpressionFits (level s.op) e = looser (level s.op) m e l f in
    let right : Goes (λ x. b (spell e (put (sign_of s.op) s.place x))) s.rest (outcome_bind (rd (suc (level s.op)) s.rest) (λ y r. go (binary s.op s.place e y) r)) =
    after_good (Read (suc (level s.op)) s.rest) spell (λ x. b (spell e (put (sign_of s.op) s.place x))) s.rest (rd (suc (level s.op)) s.rest) (λ y r. go (binary s.op s.place e y) r)
    (h (suc (level s.op))).along (λ y r p. p.0.1) (tight (suc (level s.op)) s.rest)
    ((h (suc (level s.op))).goes (λ x. b (spell e (put (sign_of s.op) s.place x))) z (λ y g. o (binary s.op s.place e y) (sign.least, (left, g))) s.rest)
    (λ y r p. c (level s.op) (binary s.op s.place e y) r sign.least (le-refl (level s.op), (left, p.0.0)) (loose (level s.op) r p.1)) in
    subst (λ l. Goes (λ x. b (spell e x)) l (outcome_bind (rd (suc (level s.op)) s.rest) (λ y r. go (binary s.op s.place e y) r))) (sym sign.tokens)
    (after_put (token_placed (sign_of s.op) s.place) right)

chain_go : (rd : ExpressionReader) → ReadsGo rd → Tight rd → (k : ℕ) (b : List Token → List Token) (z : List Token) → Opens (ExpressionFits k) spell b z → (n : ℕ) → ChainGoes k b (λ e ts. chain rd n k e ts)
chain_go rd h tight k b z o zero m e ts km f below = gave_up
chain_go rd h tight k b z o (suc n) m e ts km f below =
    chain_by rd h tight k b z o (λ y r. chain rd n k y r) (chain_go rd h tight k b z o n) m e ts km f below (sign_at k ts) refl

more_levels : (k : ℕ) → k ≤ k + 10
more_levels k = omega arith

within_levels : (k x : ℕ) → x ≤ 10 → x ≤ k + 10
within_levels k x h = omega arith

read_go : (d k : ℕ) → GoesOn (ExpressionFits k) spell (read d k)
read_go zero k b z o ts = gave_up
read_go (suc d) k b z o ts =
    part (operand_goes (read d) (λ j. part_of expression_front (read_took d j) (read_go d j)) (k + 10)) ts _ (λ e f. o e (looser k (k + 10) e (more_levels k) f)) λ e r f.
    chain_go (read d) (λ j. part_of expression_front (read_took d j) (read_go d j)) (read_tight d) k b z o (suc (length r)) (k + 10) e r (more_levels k) f (λ p _. within_levels k (level p) (level_small p))

pub reads_go : (d : ℕ) → ReadsGo (read d)
reads_go d k = part_of expression_front (read_took d k) (read_go d k)

pub expression_goes : Part (ExpressionFits 0) spell the_expression
unfolding expression
expression_goes = part_of expression_front expression_took (λ b z o ts. read_go (steps ts) 0 b z o ts)
