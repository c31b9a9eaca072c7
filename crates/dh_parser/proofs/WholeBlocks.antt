-- The answer of reading blocks does not hang on the number of steps, where these suffice.
use Rattle.std.proofs.Common.{◌≡◌, ◌∙◌, ℕ, zero, suc, ◌≤◌, true, if◌then◌else◌, List, length, refl, ap, sym, ◌<◌, arith}
use Rattle.dh_lexer.specs.declared.tokens.Token.{Token}
use Rattle.dh_parser.specs.declared.parsing.reading.Mark.TheVariants as mark
use Rattle.dh_parser.specs.Marks.{comes}
use Rattle.dh_parser.specs.Grammar.{block, part_then, PartText, simple_then, compound_then, semicolon_then, block_alone, if_alone, while_loop, for_loop, IfText, if_else, ElseText, no_else, else_block, else_if, some_combine}
use Rattle.dh_parser.specs.Reading.{Outcome, good, outcome_bind, the, steps, the_expression, the_simple, the_head, Blocks, the_if, the_test, the_while, the_combine, the_for, the_compound, Beginning, begins_simple, begins_compound, begins_semicolon, begins_nothing, beginning, part_with, the_part, the_parts, read_block, the_block, whole_if, whole_else}
use Rattle.dh_parser.proofs.StepsOfExpressions.{mark_left, none_below, lt-own}
use Rattle.dh_parser.proofs.StepsOfPrograms.{expression_left, EnoughBlocks, compound_left, part_left, parts_left, blocks_left, block_left, head_left, simple_left}
use Rattle.dh_parser.proofs.WholeExpressions.{same_next, same_either}
use Rattle.dh_parser.specs.Parts.{the_arms, the_asked}
use Rattle.dh_parser.proofs.Going.{assoc, same_bind}
use Rattle.dh_parser.proofs.TermLoops.{test_then}

-- two readers of blocks with one answer on fewer than m tokens, on which they do not give up
pub record Both (m : ℕ) (b1 b2 : Blocks) : Type 0 where
  pub left : EnoughBlocks m b1
  pub same : (ts : List Token) → length ts < m → b1 ts ≡ b2 ts

-- what follows the block of an `if`
abbrev pub else_from : Blocks → (List Token → Outcome IfText) → List Token → Outcome ElseText
else_from blocks go r =
    if comes mark.Else r
    then (outcome_bind (the mark.Else r) λ else_word q.
    if comes mark.If q
    then (outcome_bind (go q) λ i q. good (else_if else_word i) q)
    else (outcome_bind (blocks q) λ c q. good (else_block else_word c) q))
    else good no_else r

else_alike : (m : ℕ) (b1 b2 : Blocks) → Both m b1 b2 → (go1 go2 : List Token → Outcome IfText) → (r : List Token) → length r ≤ m
    → ((q : List Token) → length q < length r → go1 q ≡ go2 q) → else_from b1 go1 r ≡ else_from b2 go2 r
else_alike m b1 b2 h go1 go2 r few g =
    same_either (comes mark.Else r) _ _ _ _
    (same_next 1 (length r) (the mark.Else r) _ _ _ refl (mark_left mark.Else r) λ else_word q l.
    same_either (comes mark.If q) _ _ _ _
    (ap (λ o. outcome_bind o (λ i q. good (else_if else_word i) q)) (g q (omega arith)))
    (ap (λ o. outcome_bind o (λ c q. good (else_block else_word c) q)) (h.same q (omega arith))))
    refl

if_alike : (m : ℕ) (b1 b2 : Blocks) → Both m b1 b2 → (n1 n2 : ℕ) (ts : List Token) → length ts ≤ m → length ts < n1 → length ts < n2 → the_if b1 n1 ts ≡ the_if b2 n2 ts
if_alike m b1 b2 h zero n2 ts few more1 more2 = absurd (none_below (length ts) more1)
if_alike m b1 b2 h (suc n1) zero ts few more1 more2 = absurd (none_below (length ts) more2)
if_alike m b1 b2 h (suc n1) (suc n2) ts few more1 more2 =
    same_next 1 (length ts) (the mark.If ts) _ _ _ refl (mark_left mark.If ts) λ word r0 l0.
    same_next 1 (length r0) (the mark.OpenParen r0) _ _ _ refl (mark_left mark.OpenParen r0) λ opener r1 l1.
    same_next 1 (length r1) (the_expression r1) _ _ _ refl (expression_left r1) λ x r2 l2.
    same_next 1 (length r2) (the mark.CloseParen r2) _ _ _ refl (mark_left mark.CloseParen r2) λ closer r3 l3.
    same_next 1 (length r3) (b1 r3) _ _ _ (h.same r3 (omega arith)) (h.left r3 (omega arith)) λ b r4 l4.
    ap (λ o. outcome_bind o (λ other r. good (if_else word opener x closer b other) r))
    (else_alike m b1 b2 h (the_if b1 n1) (the_if b2 n2) r4 (omega arith) (λ q l. if_alike m b1 b2 h n1 n2 q (omega arith) (omega arith) (omega arith)))

while_alike : (m : ℕ) (b1 b2 : Blocks) → Both m b1 b2 → (ts : List Token) → length ts ≤ m → the_while b1 ts ≡ the_while b2 ts
while_alike m b1 b2 h ts few =
    same_next 1 (length ts) (the mark.While ts) _ _ _ refl (mark_left mark.While ts) λ word r0 l0.
    same_next 1 (length r0) (the mark.OpenParen r0) _ _ _ refl (mark_left mark.OpenParen r0) λ opener r1 l1.
    same_next 1 (length r1) (the_expression r1) _ _ _ refl (expression_left r1) λ x r2 l2.
    same_next 1 (length r2) (the mark.CloseParen r2) _ _ _ refl (mark_left mark.CloseParen r2) λ closer r3 l3.
    ap (λ o. outcome_bind o (λ b r. good (while_loop word opener x closer b) r)) (h.same r3 (omega arith))

combine_alike : (m : ℕ) (b1 b2 : Blocks) → Both m b1 b2 → (ts : List Token) → length ts ≤ m → the_combine b1 ts ≡ the_combine b2 ts
combine_alike m b1 b2 h ts few =
    same_either (comes mark.Combine ts) _ _ _ _
    (same_next 1 (length ts) (the mark.Combine ts) _ _ _ refl (mark_left mark.Combine ts) λ word r0 l0.
    ap (λ o. outcome_bind o (λ b r. good (some_combine word b) r)) (h.same r0 (omega arith)))
    refl

for_alike : (m : ℕ) (b1 b2 : Blocks) → Both m b1 b2 → (ts : List Token) → length ts ≤ m → the_for b1 ts ≡ the_for b2 ts
for_alike m b1 b2 h ts few =
    same_next 1 (length ts) (the_head ts) _ _ _ refl (head_left ts) λ head r0 l0.
    same_next 1 (length r0) (b1 r0) _ _ _ (h.same r0 (omega arith)) (h.left r0 (omega arith)) λ b r1 l1.
    ap (λ o. outcome_bind o (λ combine r. good (for_loop head b combine) r)) (combine_alike m b1 b2 h r1 (omega arith))

compound_alike : (m : ℕ) (b1 b2 : Blocks) → Both m b1 b2 → (ts : List Token) → length ts < m → the_compound b1 ts ≡ the_compound b2 ts
compound_alike m b1 b2 h ts few =
    same_either (comes mark.If ts) _ _ _ _
    (ap (λ o. outcome_bind o (λ i r. good (if_alone i) r)) (if_alike m b1 b2 h (steps ts) (steps ts) ts (omega arith) (lt-own (length ts)) (lt-own (length ts))))
    (same_either (comes mark.While ts) _ _ _ _
    (while_alike m b1 b2 h ts (omega arith))
    (same_either (comes mark.For ts) _ _ _ _
    (for_alike m b1 b2 h ts (omega arith))
    (ap (λ o. outcome_bind o (λ b r. good (block_alone b) r)) (h.same ts few))))

part_with_alike : (m : ℕ) (b1 b2 : Blocks) → Both m b1 b2 → (go1 go2 : List Token → Outcome PartText) → ((ts : List Token) → length ts < m → go1 ts ≡ go2 ts)
    → (ts : List Token) → length ts < m → (b : Beginning) → part_with b1 go1 ts b ≡ part_with b2 go2 ts b
part_with_alike m b1 b2 h go1 go2 g ts few begins_simple =
    same_next 1 (length ts) (the_simple ts) _ _ _ refl (simple_left ts) λ s r0 l0.
    same_either (comes mark.Semicolon r0) _ _ _ _
    (same_next 1 (length r0) (the mark.Semicolon r0) _ _ _ refl (mark_left mark.Semicolon r0) λ semicolon r1 l1.
    ap (λ o. outcome_bind o (λ more r. good (simple_then s semicolon more) r)) (g r1 (omega arith)))
    refl
part_with_alike m b1 b2 h go1 go2 g ts few begins_compound =
    same_next 1 (length ts) (the_compound b1 ts) _ _ _ (compound_alike m b1 b2 h ts few) (compound_left m b1 h.left ts few) λ c r0 l0.
    ap (λ o. outcome_bind o (λ more r. good (compound_then c more) r)) (g r0 (omega arith))
part_with_alike m b1 b2 h go1 go2 g ts few begins_semicolon =
    same_next 1 (length ts) (the mark.Semicolon ts) _ _ _ refl (mark_left mark.Semicolon ts) λ semicolon r0 l0.
    ap (λ o. outcome_bind o (λ more r. good (semicolon_then semicolon more) r)) (g r0 (omega arith))
part_with_alike m b1 b2 h go1 go2 g ts few begins_nothing = refl

part_alike : (m : ℕ) (b1 b2 : Blocks) → Both m b1 b2 → (n : ℕ) (ts : List Token) → length ts < m → the_part b1 n ts ≡ the_part b2 n ts
part_alike m b1 b2 h zero ts few = refl
part_alike m b1 b2 h (suc n) ts few = part_with_alike m b1 b2 h (the_part b1 n) (the_part b2 n) (part_alike m b1 b2 h n) ts few (beginning ts)

parts_alike : (m : ℕ) (b1 b2 : Blocks) → Both m b1 b2 → (n : ℕ) (ts : List Token) → length ts < m → the_parts b1 n ts ≡ the_parts b2 n ts
parts_alike m b1 b2 h zero ts few = refl
parts_alike m b1 b2 h (suc n) ts few =
    same_next 0 (length ts) (the_part b1 (steps ts) ts) _ _ _ (part_alike m b1 b2 h (steps ts) ts few) (part_left m b1 h.left (steps ts) ts few (lt-own (length ts))) λ p r0 l0.
    same_either (comes mark.Dashes r0) _ _ _ _
    (same_next 1 (length r0) (the mark.Dashes r0) _ _ _ refl (mark_left mark.Dashes r0) λ dashes r1 l1.
    ap (λ o. outcome_bind o (λ more r. good (part_then p dashes more) r)) (parts_alike m b1 b2 h n r1 (omega arith)))
    refl

blocks_same : (d c : ℕ) (ts : List Token) → length ts < d → length ts < c → read_block d ts ≡ read_block c ts
blocks_same zero c ts few less = absurd (none_below (length ts) few)
blocks_same (suc d) zero ts few less = absurd (none_below (length ts) less)
blocks_same (suc d) (suc c) ts few less =
    let alike : Both (length ts) (read_block d) (read_block c) = record {
      left = λ r short. blocks_left d r (omega arith);
      same = λ r short. blocks_same d c r (omega arith) (omega arith);
    } in
    same_next 1 (length ts) (the mark.OpenBrace ts) _ _ _ refl (mark_left mark.OpenBrace ts) λ opener r0 l0.
    same_next 0 (length r0) (the_parts (read_block d) (steps r0) r0) _ _ _ (parts_alike (length ts) (read_block d) (read_block c) alike (steps r0) r0 (omega arith))
    (parts_left d (read_block d) (blocks_left d) (steps r0) r0 (omega arith) (lt-own (length r0))) λ parts r1 l1.
    refl

both_steps : (m d : ℕ) → m ≤ d → Both m (read_block d) the_block
unfolding the_block
both_steps m d h = record {
  left = λ ts few. blocks_left d ts (omega arith);
  same = λ ts few. blocks_same d (steps ts) ts (omega arith) (lt-own (length ts));
}

-- the whole reader of blocks, by itself
pub block_is : (ts : List Token)
    → the_block ts ≡ outcome_bind (the mark.OpenBrace ts) (λ opener r. outcome_bind (the_parts the_block (steps r) r) (λ parts r. outcome_bind (the mark.CloseBrace r) (λ closer r. good (block opener parts closer) r)))
unfolding the_block
block_is ts =
    same_next 1 (length ts) (the mark.OpenBrace ts) _ _ _ refl (mark_left mark.OpenBrace ts) λ opener r0 l0.
    same_next 0 (length r0) (the_parts (read_block (length ts)) (steps r0) r0) _ _ _ (parts_alike (length ts) (read_block (length ts)) the_block (both_steps (length ts) (length ts) (omega arith)) (steps r0) r0 (omega arith))
    (parts_left (length ts) (read_block (length ts)) (blocks_left (length ts)) (steps r0) r0 (omega arith) (lt-own (length r0))) λ parts r1 l1.
    refl

pub parts_is : (ts : List Token) → the_parts (read_block (steps ts)) (steps ts) ts ≡ the_parts the_block (steps ts) ts
parts_is ts = parts_alike (steps ts) (read_block (steps ts)) the_block (both_steps (steps ts) (steps ts) (omega arith)) (steps ts) ts (lt-own (length ts))

-- the whole reader of an `if`, by itself
pub if_is : (ts : List Token)
    → whole_if ts ≡ outcome_bind (the mark.If ts) (λ word r. outcome_bind (the mark.OpenParen r) (λ opener r. outcome_bind (the_expression r) (λ e r. outcome_bind (the mark.CloseParen r) (λ closer r.
    outcome_bind (the_block r) (λ b r. outcome_bind (whole_else r) (λ other r. good (if_else word opener e closer b other) r))))))
unfolding whole_if
if_is ts =
    same_next 1 (length ts) (the mark.If ts) _ _ _ refl (mark_left mark.If ts) λ word r0 l0.
    same_next 1 (length r0) (the mark.OpenParen r0) _ _ _ refl (mark_left mark.OpenParen r0) λ opener r1 l1.
    same_next 1 (length r1) (the_expression r1) _ _ _ refl (expression_left r1) λ x r2 l2.
    same_next 1 (length r2) (the mark.CloseParen r2) _ _ _ refl (mark_left mark.CloseParen r2) λ closer r3 l3.
    same_next 1 (length r3) (the_block r3) _ _ _ refl (block_left r3) λ b r4 l4.
    ap (λ o. outcome_bind o (λ other r. good (if_else word opener x closer b other) r))
    (else_alike (length r4) the_block the_block (record { left = λ q few. block_left q; same = λ q few. refl }) (the_if the_block (length ts)) whole_if r4 (omega arith)
    (λ q l. if_alike (length q) the_block the_block (record { left = λ p few. block_left p; same = λ p few. refl }) (length ts) (steps q) q (omega arith) (omega arith) (lt-own (length q))))

pub compound_is_if : (ts : List Token) → comes mark.If ts ≡ true → the_compound the_block ts ≡ outcome_bind (whole_if ts) (λ i r. good (if_alone i) r)
unfolding whole_if
compound_is_if ts e = ap (λ b. if b then outcome_bind (the_if the_block (steps ts) ts) (λ i r. good (if_alone i) r) else (if comes mark.While ts
    then the_while the_block ts
    else (if comes mark.For ts
    then the_for the_block ts
    else (outcome_bind (the_block ts) λ b r. good (block_alone b) r)))) e

-- an `if` and a `while` by their tests
if_by_test : (ts : List Token)
    → whole_if ts ≡ outcome_bind (the mark.If ts) (λ word r. outcome_bind (the_test r) (λ t r. outcome_bind (the_block r) (λ b r. outcome_bind (whole_else r) (λ other r. good (if_else word t.opener t.test t.closer b other) r))))
if_by_test ts = if_is ts ∙ same_bind (the mark.If ts) _ _ λ word r0.
    test_then r0 (λ opener e closer r. outcome_bind (the_block r) (λ b r. outcome_bind (whole_else r) (λ other r. good (if_else word opener e closer b other) r)))

while_by_test : (ts : List Token) → the_while the_block ts ≡ outcome_bind (the mark.While ts) (λ word r. outcome_bind (the_test r) (λ t r. outcome_bind (the_block r) (λ b r. good (while_loop word t.opener t.test t.closer b) r)))
while_by_test ts = same_bind (the mark.While ts) _ _ λ word r0.
    test_then r0 (λ opener e closer r. outcome_bind (the_block r) (λ b r. good (while_loop word opener e closer b) r))

-- the same by what they ask, and by the arms
pub if_by_asked : (ts : List Token) → whole_if ts ≡ outcome_bind (the_asked mark.If ts) (λ a r. outcome_bind (the_arms r) (λ p r. good (if_else a.0 a.1.opener a.1.test a.1.closer p.0 p.1) r))
if_by_asked ts = if_by_test ts ∙ sym (
    assoc (the mark.If ts) _ _ ∙ same_bind (the mark.If ts) _ _ λ word r0.
    assoc (the_test r0) _ _ ∙ same_bind (the_test r0) _ _ λ t r1.
    assoc (the_block r1) _ _ ∙ same_bind (the_block r1) _ _ λ b r2.
    assoc (whole_else r2) _ _)

pub while_by_asked : (ts : List Token) → the_while the_block ts ≡ outcome_bind (the_asked mark.While ts) (λ a r. outcome_bind (the_block r) (λ b r. good (while_loop a.0 a.1.opener a.1.test a.1.closer b) r))
while_by_asked ts = while_by_test ts ∙ sym (
    assoc (the mark.While ts) _ _ ∙ same_bind (the mark.While ts) _ _ λ word r0.
    assoc (the_test r0) _ _)
