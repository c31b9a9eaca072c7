-- What is seen of the expressions that the parser makes.
use Rattle.std.proofs.Common.{◌≡◌, ℕ, List, Option, None, Result, ap, subst, ◌∙◌}
use Rattle.std.specs.Prelude.{Vec}
use Rattle.std.specs.Global.{Global}
use Rattle.dh_base.specs.declared.places.Place.{Place}
use Rattle.dh_value.specs.declared.kinds.Kind.{Kind}
use Rattle.dh_value.specs.declared.operators.Op.{Op}
use Rattle.dh_tree.specs.declared.trees.expressions.Ref.{Ref}
use Rattle.dh_tree.specs.declared.trees.expressions.Expr.{Expr}
use Rattle.dh_tree.specs.declared.trees.expressions.ExprForm.TheVariants.{Variable, Access, Physical, Binary, Cast}
use Rattle.dh_tree.specs.PlainTrees.{Term, term, named, accessed, in_bank, applied, converted, term_then}
use Rattle.dh_tree.specs.Seen.{form_seen, term_seen}
use Rattle.dh_tree.proofs.SeenTerms.{variable_is, access_is, physical_is, binary_is, cast_is}
use Rattle.dh_parser.specs.Grammar.{NameText, KindText, ExprText, IndexText, MoreIndicesText, element, physical, variable, cast}
use Rattle.dh_parser.specs.TreesOfTexts.{ref_of, text_of_name, kind_of_text, term_of, access_of_text, index_of, indices_of, joined_terms}
use Rattle.dh_lexer.specs.declared.tokens.Token.{Token}
use Rattle.dh_parser.specs.declared.parsing.reading.Stop.{Stop}
use Rattle.dh_parser.specs.declared.parsing.expressions.WrittenRow.{WrittenRow}
use Rattle.dh_parser.specs.Reading.{Outcome, CastText}
use Rattle.dh_parser.specs.Parts.{BankText}
use Rattle.dh_parser.specs.Answers.{AnswersOutcome, SameTerm, SameIndices, SameCastOf, SameRow, element_seen, written_row_seen}

abbrev as_ref : List ℕ → Place → Option ℕ → Ref
as_ref name place entity = record { name = name; place = place; entity = entity }

-- a name that is not yet resolved is that of its text
pub unnumbered : (r : Ref) → r.entity ≡ None → r ≡ ref_of (text_of_name r)
unnumbered r h = ap (λ (e : Option ℕ). as_ref r.name r.place e) h

-- what is read behind the text of a name that was read
pub at_text : {C A : Type 0} {s : C → A → Type 0} {x : Result C Stop} {rest : List Token} (read : NameText → Outcome A) (r : Ref) (n : NameText) → r ≡ ref_of n → AnswersOutcome s x rest (read (text_of_name r)) → AnswersOutcome s x rest (read n)
at_text {s = s} {x = x} {rest = rest} read r n h a = subst (λ m. AnswersOutcome s x rest (read m)) (ap text_of_name h) a

pub variable_seen : {t : Term} (of : Ref) (n : NameText) → t ≡ term of.place None (form_seen (Variable of)) → of ≡ ref_of n → t ≡ term_of (variable n)
variable_seen of n h e = h ∙ (ap (λ f. term of.place None f) (variable_is of) ∙ ap (λ (r : Ref). term r.place None (named r)) e)

pub element_made : {t : Term} (of : Ref) (es : Vec Expr Global) → t ≡ term of.place None (form_seen (Access of es)) → t ≡ element_seen of es
element_made of es h = h ∙ ap (λ f. term of.place None f) (access_is of es)

pub access_seen : {t : Term} (of : Ref) (n : NameText) (es : Vec Expr Global) (i : IndexText) (more : MoreIndicesText) → t ≡ element_seen of es → of ≡ ref_of n → SameIndices es (i, more)
    → t ≡ access_of_text (element n i more)
access_seen of n es i more h e s =
    h ∙ (ap (λ x. term of.place None (accessed of x)) s ∙ ap (λ (r : Ref). term r.place None (accessed r (term_then (index_of i) (indices_of more)))) e)

pub row_made : {t : Term} (of : Ref) (w : WrittenRow) (row : _) → t ≡ term of.place None (form_seen (Physical of w.bank.value w.bank.place row)) → row.value ≡ w.row → t ≡ written_row_seen of w
row_made of w row h f =
    h ∙ (ap (λ x. term of.place None x) (physical_is of w.bank.value w.bank.place row) ∙ ap (λ (v : Expr). term of.place None (in_bank of w.bank.value w.bank.place (term_seen v))) f)

pub physical_seen : {t : Term} (of : Ref) (n : NameText) (w : WrittenRow) (b : BankText) (i : IndexText) → t ≡ written_row_seen of w → of ≡ ref_of n → SameRow w (b, i)
    → t ≡ access_of_text (physical n b.opener b.bank b.closer i)
physical_seen of n w b i h e s =
    h ∙ (ap (λ x. term of.place None (in_bank of w.bank.value w.bank.place x)) s.1
    ∙ (ap (λ x. term of.place None (in_bank of x w.bank.place (index_of i))) s.0.0 ∙ (ap (λ x. term of.place None (in_bank of b.bank.value x (index_of i))) s.0.1
    ∙ ap (λ (r : Ref). term r.place None (in_bank r b.bank.value b.bank.place (index_of i))) e)))

pub cast_made : {t : Term} (p : Place) (inner : _) (to : Kind) (v : Expr) (k : KindText) → t ≡ term p None (form_seen (Cast inner to)) → inner.value ≡ v → to ≡ kind_of_text k → t ≡ term p None (converted (term_seen v) (kind_of_text k))
cast_made p inner to v k h f l =
    h ∙ (ap (λ x. term p None x) (cast_is inner to) ∙ (ap (λ (w : Expr). term p None (converted (term_seen w) to)) f ∙ ap (λ x. term p None (converted (term_seen v) x)) l))

pub cast_seen : (p : Place) (inner v : Expr) (e : ExprText) (k : CastText) → SameCastOf p inner v k → SameTerm inner e → SameTerm v (cast p e k.word k.kind k.closer)
cast_seen p inner v e k h g = h ∙ ap (λ x. term p None (converted x (kind_of_text k.kind))) g

pub joined_seen : {t : Term} (op : Op) (l r : _) (a b : Expr) → t ≡ term a.place None (form_seen (Binary op l r)) → l.value ≡ a → r.value ≡ b → t ≡ joined_terms op (term_seen a) (term_seen b)
joined_seen op l r a b h e f =
    h ∙ (ap (λ x. term a.place None x) (binary_is op l r) ∙ (ap (λ x. term a.place None (applied op (term_seen x) (term_seen r.value))) e ∙ ap (λ x. term a.place None (applied op (term_seen a) (term_seen x))) f))
