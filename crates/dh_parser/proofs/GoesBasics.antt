-- What is being read can be gone on with. Before a part of a form is read, any text of that part can
-- stand there, with some text for each part to come: so where the reader of the part stops, the tokens
-- that it took are the first ones of some program. Of a form of several parts this follows part by
-- part, and nothing need be known of how the reader would take the rest.
use Rattle.std.proofs.Common.{◌≡◌, Bool, true, false, if◌then◌else◌, List, [], ◌∷◌, ◌++◌, refl, ap, sym, ◌∙◌, subst, arith}
use Rattle.dh_base.specs.declared.places.Place.{Place}
use Rattle.dh_lexer.specs.declared.tokens.Token.{Token}
use Rattle.dh_lexer.specs.declared.tokens.TokenKind.{TokenKind}
use Rattle.dh_lexer.specs.declared.tokens.TokenKind.TheVariants as kind
use Rattle.dh_lexer.specs.LexedText.{token_placed}
use Rattle.dh_parser.specs.declared.parsing.reading.Mark.{Mark}
use Rattle.dh_parser.specs.Marks.{is_mark}
use Rattle.dh_parser.specs.Grammar.{NameText, NumberText, TypeText, ExprText, IndexText, BlockText, ProgramText, bool_kind, no_ports, no_dims, literal, index, block, last_part, end_of_part}
use Rattle.dh_parser.specs.Spelling.{put, put_name, put_number, spell_program}
use Rattle.dh_parser.specs.Allowed.{WidthFits, ProgramFits}
use Rattle.dh_parser.specs.Reading.{Outcome, outcome_bind, the, name_text, number_text, name_from, the_name, number_from, the_number, type_text, good, bad, deep}
use Rattle.dh_parser.proofs.SoundBasics.{Good, Took, any, put_mark, mark_took, name_took, number_took}
use Rattle.dh_parser.proofs.Fronts.{goes_along, Fronts, front_of, name_front, number_front}

-- some program has these tokens
pub record IsProgram (tokens : List Token) : Type 0 where
  pub text : ProgramText
  pub fits : ProgramFits text
  pub tokens_are : spell_program text [] ≡ tokens

-- tokens were taken, and some program begins with what stands in front and these
pub record Stops (b : List Token → List Token) (ts rest : List Token) : Type 0 where
  pub taken : List Token
  pub all : ts ≡ taken ++ rest
  pub more : List Token
  pub begins : IsProgram (b (taken ++ more))

abbrev pub StopsAt : {A : Type 0} → (List Token → List Token) → List Token → Outcome A → Type 0
StopsAt b ts (good a rest) = Unit {0}
StopsAt b ts (bad rest) = Stops b ts rest
StopsAt b ts deep = Unit {0}

-- where reading these tokens stops, some program goes on
pub record Goes {A : Type 0} (b : List Token → List Token) (ts : List Token) (o : Outcome A) : Type 0 where
  pub on : StopsAt b ts o

-- any text of a form may stand between what is in front and what follows
abbrev pub Opens : {A : Type 0} → (A → Type 0) → (A → List Token → List Token) → (List Token → List Token) → List Token → Type 0
Opens {A} F s b z = (a : A) → F a → IsProgram (b (s a z))

-- where a form is read, and any text of it may stand there, some program goes on
abbrev pub GoesOn : {A : Type 0} → (A → Type 0) → (A → List Token → List Token) → (List Token → Outcome A) → Type 0
GoesOn F s f = (b : List Token → List Token) (z : List Token) → Opens F s b z → (ts : List Token) → Goes b ts (f ts)

-- what follows a text goes along with it
abbrev pub Along : {A : Type 0} → (A → List Token → List Token) → Type 0
Along {A} s = (a : A) (x y : List Token) → s a (x ++ y) ≡ s a x ++ y

-- a reader of a part
pub record Part {A : Type 0} (F : A → Type 0) (s : A → List Token → List Token) (f : List Token → Outcome A) : Type 0 where
  pub along : Along s
  pub took : (ts : List Token) → Took F s ts (f ts)
  pub goes : GoesOn F s f

pub part_of : {A : Type 0} {F : A → Type 0} {s : A → List Token → List Token} {f : List Token → Outcome A} → Fronts s → ((ts : List Token) → Took F s ts (f ts))
    → GoesOn F s f → Part F s f
part_of {A} {F} {s} {f} h t g = record { along = λ a. goes_along (front_of s h a); took = t; goes = g }

later_stops : {A B : Type 0} (s : A → List Token → List Token) (b : List Token → List Token) (ts r : List Token) (a : A) → Along s → ts ≡ s a r
    → (o : Outcome B) → StopsAt (λ x. b (s a x)) r o → StopsAt b ts o
later_stops s b ts r a h e (good c rest) k = tt
later_stops s b ts r a h e (bad rest) k = record {
  taken = s a k.taken;
  all = e ∙ (ap (λ l. s a l) k.all ∙ h a k.taken rest);
  more = k.more;
  begins = subst (λ l. IsProgram (b l)) (h a k.taken k.more) k.begins;
}
later_stops s b ts r a h e deep k = tt

bind_stops : {A B : Type 0} (P : A → List Token → Type 0) (s : A → List Token → List Token) (b : List Token → List Token) (ts : List Token) (o : Outcome A) (go : A → List Token → Outcome B)
    → Along s → ((a : A) (r : List Token) → P a r → ts ≡ s a r) → Good P o → StopsAt b ts o
    → ((a : A) (r : List Token) → P a r → Goes (λ x. b (s a x)) r (go a r)) → StopsAt b ts (outcome_bind o go)
bind_stops P s b ts (good a r) go h e p g k = later_stops s b ts r a h (e a r p) (go a r) (k a r p).on
bind_stops P s b ts (bad r) go h e p g k = g
bind_stops P s b ts deep go h e p g k = tt

-- goes on after what was read, of which this and that is known
pub after_good : {A B : Type 0} (P : A → List Token → Type 0) (s : A → List Token → List Token) (b : List Token → List Token) (ts : List Token) (o : Outcome A) (go : A → List Token → Outcome B)
    → Along s → ((a : A) (r : List Token) → P a r → ts ≡ s a r) → Good P o → Goes b ts o
    → ((a : A) (r : List Token) → P a r → Goes (λ x. b (s a x)) r (go a r)) → Goes b ts (outcome_bind o go)
after_good P s b ts o go h e p g k = record { on = bind_stops P s b ts o go h e p g.on k }

-- goes on after a part
pub part : {A B : Type 0} {F : A → Type 0} {s : A → List Token → List Token} {f : List Token → Outcome A} → Part F s f
    → {b : List Token → List Token} (ts z : List Token) {go : A → List Token → Outcome B} → Opens F s b z
    → ((a : A) (r : List Token) → F a → Goes (λ x. b (s a x)) r (go a r)) → Goes b ts (outcome_bind (f ts) go)
part {A} {B} {F} {s} {f} p {b} ts z {go} o k =
    after_good (λ a r. F a × (ts ≡ s a r)) s b ts (f ts) go p.along (λ a r q. q.1) (p.took ts) (p.goes b z o ts) (λ a r q. k a r q.0)

pub done : {A : Type 0} {b : List Token → List Token} {ts : List Token} {a : A} {rest : List Token} → Goes b ts (good a rest)
done = record { on = tt }

pub gave_up : {A : Type 0} {b : List Token → List Token} {ts : List Token} → Goes {A = A} b ts deep
gave_up = record { on = tt }

-- stops before the first token
pub stuck : {A : Type 0} {b : List Token → List Token} {ts : List Token} (z : List Token) → IsProgram (b z) → Goes {A = A} b ts (bad ts)
stuck {A} {b} {ts} z h = record { on = record { taken = []; all = refl; more = z; begins = h } }

pub pick : {A : Type 0} {b : List Token → List Token} {ts : List Token} (c : Bool) {x y : Outcome A} → Goes b ts x → Goes b ts y → Goes b ts (if c then x else y)
pick true g h = g
pick false g h = h

made_stops : {A B : Type 0} (make : A → B) (b : List Token → List Token) (ts : List Token) (o : Outcome A) → StopsAt b ts o → StopsAt b ts (outcome_bind o (λ a r. good (make a) r))
made_stops make b ts (good a r) g = tt
made_stops make b ts (bad r) g = g
made_stops make b ts deep g = tt

-- what is read is made into a text
pub made : {A B : Type 0} (make : A → B) {b : List Token → List Token} {ts : List Token} (o : Outcome A) → Goes b ts o → Goes b ts (outcome_bind o (λ a r. good (make a) r))
made make {b} {ts} o g = record { on = made_stops make b ts o g.on }

put_stops : {A : Type 0} (t : Token) (b : List Token → List Token) (ts : List Token) (o : Outcome A) → StopsAt (λ x. b (t ∷ x)) ts o → StopsAt b (t ∷ ts) o
put_stops t b ts (good a r) g = tt
put_stops t b ts (bad r) g = record { taken = t ∷ g.taken; all = ap (λ l. t ∷ l) g.all; more = g.more; begins = g.begins }
put_stops t b ts deep g = tt

-- a token was taken
pub after_put : {A : Type 0} {b : List Token → List Token} {ts : List Token} {o : Outcome A} (t : Token) → Goes (λ x. b (t ∷ x)) ts o → Goes b (t ∷ ts) o
after_put {A} {b} {ts} {o} t g = record { on = put_stops t b ts o g.on }

-- a token is what its kind says
pub at_token : {A : Type 0} {b : List Token → List Token} {ts : List Token} {o : Outcome A} (t : Token) {k : TokenKind} → t.kind ≡ k → Goes b (put k t.place ts) o → Goes b (t ∷ ts) o
at_token {A} {b} {ts} {o} t {k} e g = subst (λ c. Goes b (token_placed c t.place ∷ ts) o) (sym e) g

pub took_token : {A : Type 0} {b : List Token → List Token} {ts : List Token} {o : Outcome A} (t : Token) {k : TokenKind} → t.kind ≡ k → Goes (λ x. b (put k t.place x)) ts o → Goes b (t ∷ ts) o
took_token {A} {b} {ts} {o} t {k} e g = at_token t e (after_put (token_placed k t.place) g)

-- some place, name, number and texts of forms, for parts that are to come
abbrev pub here : Place
here = record { line = 1; column = 1 }

abbrev pub some_name : NameText
some_name = name_text (97 ∷ []) here

abbrev pub some_number : NumberText
some_number = number_text 1 here

abbrev pub some_type : TypeText
some_type = type_text (bool_kind here) no_ports no_dims

abbrev pub some_expression : ExprText
some_expression = literal some_number

abbrev pub some_index : IndexText
some_index = index here some_expression here

abbrev pub some_block : BlockText
some_block = block here (last_part end_of_part) here

pub one_is_width : WidthFits some_number
one_is_width = (omega arith, omega arith)

mark_go : (m : Mark) → GoesOn any (put_mark m) (the m)
mark_go m b z o [] = stuck _ (o here tt)
mark_go m b z o (t ∷ ts) = pick (is_mark t.kind m) done (stuck _ (o here tt))

pub mark_goes : (m : Mark) → Part any (put_mark m) (the m)
mark_goes m = record { along = λ a x y. refl; took = mark_took m; goes = mark_go m }

name_go_from : (b : List Token → List Token) (z : List Token) → Opens any put_name b z → (k : TokenKind) (t : Token) (ts : List Token) → Goes b (t ∷ ts) (name_from k t ts)
name_go_from b z o (kind.Name n) t ts = done
name_go_from b z o _ t ts = stuck _ (o some_name tt)

name_go : GoesOn any put_name the_name
name_go b z o [] = stuck _ (o some_name tt)
name_go b z o (t ∷ ts) = name_go_from b z o t.kind t ts

pub name_goes : Part any put_name the_name
name_goes = part_of name_front name_took name_go

number_go_from : (b : List Token → List Token) (z : List Token) → Opens any put_number b z → (k : TokenKind) (t : Token) (ts : List Token) → Goes b (t ∷ ts) (number_from k t ts)
number_go_from b z o (kind.Number n) t ts = done
number_go_from b z o _ t ts = stuck _ (o some_number tt)

number_go : GoesOn any put_number the_number
number_go b z o [] = stuck _ (o some_number tt)
number_go b z o (t ∷ ts) = number_go_from b z o t.kind t ts

pub number_goes : Part any put_number the_number
number_goes = part_of number_front number_took number_go
