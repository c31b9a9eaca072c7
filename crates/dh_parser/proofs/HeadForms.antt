-- The head of a loop, by what its iterator goes over.
use Rattle.std.proofs.Common.{◌≡◌, List, sym, ◌∙◌}
use Rattle.dh_base.specs.declared.places.Place.{Place}
use Rattle.dh_lexer.specs.declared.tokens.Token.{Token}
use Rattle.dh_parser.specs.declared.parsing.reading.Mark.TheVariants as mark
use Rattle.dh_parser.specs.Grammar.{DeclaredText, NumberText}
use Rattle.dh_parser.specs.Reading.{Outcome, good, outcome_bind, the, the_number, the_name, the_declared, the_range, the_unroll, the_head, head_text}
use Rattle.dh_parser.proofs.Going.{assoc, same_bind}

range_then : {A : Type 0} (ts : List Token) (go : DeclaredText → Place → NumberText → Place → NumberText → Place → List Token → Outcome A)
    → outcome_bind (the_declared ts) (λ declared r. outcome_bind (the mark.Assign r) (λ equal r. outcome_bind (the_number r) (λ low r. outcome_bind (the mark.Range r) (λ range r. outcome_bind (the_number r) (λ high r. outcome_bind (the mark.CloseParen r) (λ closer r.
    go declared equal low range high closer r))))))
    ≡ outcome_bind (the_range ts) (λ t r. go t.declared t.equal t.low t.range t.high t.closer r)
range_then ts go = sym (
    assoc (the_declared ts) _ _ ∙ same_bind (the_declared ts) _ _ λ declared r0.
    assoc (the mark.Assign r0) _ _ ∙ same_bind (the mark.Assign r0) _ _ λ equal r1.
    assoc (the_number r1) _ _ ∙ same_bind (the_number r1) _ _ λ low r2.
    assoc (the mark.Range r2) _ _ ∙ same_bind (the mark.Range r2) _ _ λ range r3.
    assoc (the_number r3) _ _ ∙ same_bind (the_number r3) _ _ λ high r4.
    assoc (the mark.CloseParen r4) _ _)

pub head_by_range : (ts : List Token)
    → the_head ts ≡ outcome_bind (the mark.For ts) (λ word r. outcome_bind (the mark.OpenParen r) (λ opener r. outcome_bind (the mark.Let r) (λ let_word r. outcome_bind (the_name r) (λ iterator r. outcome_bind (the_range r) (λ g r. outcome_bind (the_unroll r) (λ unroll r.
    good (head_text word opener let_word iterator g.declared g.equal g.low g.range g.high g.closer unroll) r))))))
head_by_range ts =
    same_bind (the mark.For ts) _ _ λ word r0.
    same_bind (the mark.OpenParen r0) _ _ λ opener r1.
    same_bind (the mark.Let r1) _ _ λ let_word r2.
    same_bind (the_name r2) _ _ λ iterator r3.
    range_then r3 (λ declared equal low range high closer r. outcome_bind (the_unroll r) (λ unroll r. good (head_text word opener let_word iterator declared equal low range high closer unroll) r))
