-- What types and simple commands spell is read as they are, where what follows does not go on with them.
use Rattle.std.proofs.Common.{◌≡◌, ℕ, zero, suc, ◌≤◌, true, false, List, [], ◌∷◌, length, None, refl, ◌<◌, ◌+◌, arith}
use Rattle.dh_base.specs.declared.places.Place.{Place}
use Rattle.dh_lexer.specs.declared.tokens.Token.{Token}
use Rattle.dh_lexer.specs.declared.tokens.TokenKind.TheVariants as kind
use Rattle.dh_parser.specs.declared.parsing.reading.Mark.TheVariants as mark
use Rattle.dh_parser.specs.Marks.{comes}
use Rattle.dh_parser.specs.Grammar.{NameText, PortsText, no_ports, some_ports, BanksText, no_banks, some_banks, DimsText, no_dims, dim_then, TypeText, ExprText, literal, negative, truth, variable, access, bracket, cast, binary, AccessText, element, physical, index, MoreArgumentsText, no_more_arguments, argument_then, ArgumentsText, no_arguments, some_arguments, FactorText, SuffixText, OffsetText, ViewText, shrink, split, suffix, shift, ValueText, no_value, some_value, adds, subtracts, multiplies, SimpleText, let_typed, let_value, view, assign, store, reduce, call}
use Rattle.dh_parser.specs.Spelling.{put, put_name, put_number, sign_of, spell_kind, spell_ports, spell_banks, spell_dims, spell_type, spell, spell_index, spell_indices, spell_more_arguments, spell_arguments, spell_factor, spell_suffix, spell_offset, spell_all, spell_view, spell_value, spell_simple}
use Rattle.dh_parser.specs.Allowed.{KindFits, ExpressionFits, MoreArgumentsFit, ArgumentsFit, SuffixFits, OffsetFits, AllFit, ViewFits, ValueFits, SimpleFits}
use Rattle.dh_parser.specs.Reading.{Outcome, good, the_kind, the_ports, the_banks, the_dims, the_type, sign_at, access_from, access_goes_on, operand, read, steps, the_expression, more_arguments, the_arguments, the_factor, the_suffix, the_offset, more_of, brackets, the_view, the_value, store_from, the_simple}
use Rattle.dh_parser.proofs.AgainExpressions.{next_is, when, unless, kind_again, longer, nothing_below, own, inside_of, access_parts, bank_parts, operand_again, expression_again}

ports_again : (p : PortsText) (x : List Token) → comes mark.OpenBrace x ≡ false → the_ports (spell_ports p x) ≡ good p x
ports_again no_ports x g = unless (comes mark.OpenBrace x) _ _ _ g refl
ports_again (some_ports opener ports closer) x g = refl

banks_again : (b : BanksText) (closer : Place) (x : List Token) → the_banks (spell_banks b (put kind.CloseBracket closer x)) ≡ good b (put kind.CloseBracket closer x)
banks_again no_banks closer x = refl
banks_again (some_banks word banks) closer x = refl

banks_longer : (b : BanksText) (x : List Token) → 0 + length x ≤ length (spell_banks b x)
banks_longer no_banks x = omega arith
banks_longer (some_banks word banks) x = omega arith

dims_few : (a b n : ℕ) → 0 + suc a ≤ b → suc (suc b) < suc n → a < n
dims_few a b n h k = omega arith

dims_again : (l : DimsText) (n : ℕ) (x : List Token) → length (spell_dims l x) < n → comes mark.OpenBracket x ≡ false → the_dims n (spell_dims l x) ≡ good l x
dims_again l zero x few g = absurd (nothing_below (length (spell_dims l x)) few)
dims_again no_dims (suc n) x few g = unless (comes mark.OpenBracket x) _ _ _ g refl
dims_again (dim_then opener size banks closer more) (suc n) x few g =
    next_is (the_banks (spell_banks banks (put kind.CloseBracket closer (spell_dims more x)))) _ banks (put kind.CloseBracket closer (spell_dims more x)) _ (banks_again banks closer (spell_dims more x))
    (next_is (the_dims n (spell_dims more x)) _ more x _
    (dims_again more n x (dims_few (length (spell_dims more x)) (length (spell_banks banks (put kind.CloseBracket closer (spell_dims more x)))) n (banks_longer banks (put kind.CloseBracket closer (spell_dims more x))) few) g) refl)

dims_no_brace : (l : DimsText) (x : List Token) → comes mark.OpenBrace x ≡ false → comes mark.OpenBrace (spell_dims l x) ≡ false
dims_no_brace no_dims x g = g
dims_no_brace (dim_then opener size banks closer more) x g = refl

pub type_again : (t : TypeText) (x : List Token) → KindFits t.kind → comes mark.OpenBrace x ≡ false → comes mark.OpenBracket x ≡ false → the_type (spell_type t x) ≡ good t x
type_again t x f g h =
    next_is (the_kind (spell_kind t.kind (spell_ports t.ports (spell_dims t.dims x)))) _ t.kind (spell_ports t.ports (spell_dims t.dims x)) _ (kind_again t.kind (spell_ports t.ports (spell_dims t.dims x)) f)
    (next_is (the_ports (spell_ports t.ports (spell_dims t.dims x))) _ t.ports (spell_dims t.dims x) _ (ports_again t.ports (spell_dims t.dims x) (dims_no_brace t.dims x g))
    (next_is (the_dims (suc (length (spell_dims t.dims x))) (spell_dims t.dims x)) _ t.dims x _ (dims_again t.dims (suc (length (spell_dims t.dims x))) x (own (length (spell_dims t.dims x))) h) refl))

arguments_end : (m : MoreArgumentsText) (x : List Token) → (access_goes_on (spell_more_arguments m x) ≡ false) × (sign_at 0 (spell_more_arguments m x) ≡ None)
arguments_end (no_more_arguments closer) x = (refl, refl)
arguments_end (argument_then comma e more) x = (refl, refl)

pub less_one : (a b n : ℕ) → 1 + a ≤ b → suc b < suc n → a < n
less_one a b n h k = omega arith

more_arguments_again : (m : MoreArgumentsText) (n : ℕ) (x : List Token) → MoreArgumentsFit m → length (spell_more_arguments m x) < n → more_arguments n (spell_more_arguments m x) ≡ good m x
more_arguments_again m zero x f few = absurd (nothing_below (length (spell_more_arguments m x)) few)
more_arguments_again (no_more_arguments closer) (suc n) x f few = refl
more_arguments_again (argument_then comma e more) (suc n) x f few =
    let ends = arguments_end more x in
    next_is (the_expression (spell e (spell_more_arguments more x))) _ e (spell_more_arguments more x) _ (expression_again e (spell_more_arguments more x) f.0 ends.0 ends.1)
    (next_is (more_arguments n (spell_more_arguments more x)) _ more x _
    (more_arguments_again more n x f.1 (less_one (length (spell_more_arguments more x)) (length (spell e (spell_more_arguments more x))) n (longer e (spell_more_arguments more x)) few)) refl)

no_close : (e : ExprText) (x : List Token) → comes mark.CloseParen (spell e x) ≡ false
no_close (literal n) x = refl
no_close (negative minus n) x = refl
no_close (truth true word) x = refl
no_close (truth false word) x = refl
no_close (variable n) x = refl
no_close (access (element n i more)) x = refl
no_close (access (physical n opener bank closer i)) x = refl
no_close (bracket opener e closer) x = refl
no_close (cast opener e word k closer) x = refl
no_close (binary o sign l r) x = no_close l (put (sign_of o) sign (spell r x))

arguments_again : (a : ArgumentsText) (x : List Token) → ArgumentsFit a → the_arguments (spell_arguments a x) ≡ good a x
arguments_again (no_arguments closer) x f = refl
arguments_again (some_arguments e more) x f =
    let ends = arguments_end more x in
    unless (comes mark.CloseParen (spell e (spell_more_arguments more x))) _ _ _ (no_close e (spell_more_arguments more x))
    (next_is (the_expression (spell e (spell_more_arguments more x))) _ e (spell_more_arguments more x) _ (expression_again e (spell_more_arguments more x) f.0 ends.0 ends.1)
    (next_is (more_arguments (steps (spell_more_arguments more x)) (spell_more_arguments more x)) _ more x _ (more_arguments_again more (steps (spell_more_arguments more x)) x f.1 (own (length (spell_more_arguments more x)))) refl))

pub le-own : (a : ℕ) → a < suc (suc a)
le-own a = omega arith

suffix_again : (s : SuffixText) (x : List Token) → SuffixFits s → the_suffix (spell_suffix s x) ≡ good s x
suffix_again s x f =
    next_is (operand (read (steps (spell s.offset (put kind.CloseBracket s.closer x)))) (spell s.offset (put kind.CloseBracket s.closer x))) _ s.offset (put kind.CloseBracket s.closer x) _
    (operand_again s.offset (steps (spell s.offset (put kind.CloseBracket s.closer x))) (put kind.CloseBracket s.closer x) f (le-own (length (spell s.offset (put kind.CloseBracket s.closer x)))) refl) refl

offset_again : (o : OffsetText) (x : List Token) → OffsetFits o → the_offset (spell_offset o x) ≡ good o x
offset_again o x f =
    next_is (the_expression (spell o.offset (put kind.CloseBracket o.closer x))) _ o.offset (put kind.CloseBracket o.closer x) _ (expression_again o.offset (put kind.CloseBracket o.closer x) f refl refl) refl

five : (a b : ℕ) → 1 + suc a ≤ b → 1 + a ≤ suc (suc (suc (suc b)))
five a b h = omega arith

two_more : (a b : ℕ) → 1 + suc a ≤ b → 1 + a ≤ suc (suc b)
two_more a b h = omega arith

long_suffix : (s : SuffixText) (x : List Token) → 1 + length x ≤ length (spell_suffix s x)
long_suffix s x = five (length x) _ (longer s.offset (put kind.CloseBracket s.closer x))

long_offset : (o : OffsetText) (x : List Token) → 1 + length x ≤ length (spell_offset o x)
long_offset o x = two_more (length x) _ (longer o.offset (put kind.CloseBracket o.closer x))

long_factor : (f : FactorText) (x : List Token) → 1 + length x ≤ length (spell_factor f x)
long_factor f x = omega arith

-- all that a reader of brackets must do
record Brackets {A : Type 0} (F : A → Type 0) (s : A → List Token → List Token) (one : List Token → Outcome A) : Type 0 where
  again_one : (a : A) (x : List Token) → F a → one (s a x) ≡ good a x
  begins : (a : A) (x : List Token) → comes mark.OpenBracket (s a x) ≡ true
  long : (a : A) (x : List Token) → 1 + length x ≤ length (s a x)

more_again : {A : Type 0} (F : A → Type 0) (s : A → List Token → List Token) (one : List Token → Outcome A) → Brackets F s one → (l : List A) (n : ℕ) (x : List Token)
    → AllFit F l → length (spell_all s l x) < n → comes mark.OpenBracket x ≡ false → more_of one n (spell_all s l x) ≡ good l x
more_again F s one h l zero x f few g = absurd (nothing_below (length (spell_all s l x)) few)
more_again F s one h [] (suc n) x f few g = unless (comes mark.OpenBracket x) _ _ _ g refl
more_again F s one h (a ∷ l) (suc n) x f few g =
    when (comes mark.OpenBracket (s a (spell_all s l x))) _ _ _ (h.begins a (spell_all s l x))
    (next_is (one (s a (spell_all s l x))) _ a (spell_all s l x) _ (h.again_one a (spell_all s l x) f.0)
    (next_is (more_of one n (spell_all s l x)) _ l x _ (more_again F s one h l n x f.1 (inside_of (length (spell_all s l x)) (length (s a (spell_all s l x))) n (h.long a (spell_all s l x)) few) g) refl))

brackets_again : {A : Type 0} (F : A → Type 0) (s : A → List Token → List Token) (one : List Token → Outcome A) → Brackets F s one → (make : NameText → A → List A → ViewText) (n : NameText) (a : A) (l : List A) (x : List Token)
    → F a → AllFit F l → comes mark.OpenBracket x ≡ false → brackets one make (put_name n (s a (spell_all s l x))) ≡ good (make n a l) x
brackets_again F s one h make n a l x f fl g =
    next_is (one (s a (spell_all s l x))) _ a (spell_all s l x) _ (h.again_one a (spell_all s l x) f)
    (next_is (more_of one (steps (spell_all s l x)) (spell_all s l x)) _ l x _ (more_again F s one h l (steps (spell_all s l x)) x fl (own (length (spell_all s l x))) g) refl)

abbrev any : {A : Type 0} → A → Type 0
any a = Unit {0}

any_all : {A : Type 0} (l : List A) → AllFit any l
any_all [] = tt
any_all (a ∷ l) = (tt, any_all l)

factors : Brackets any spell_factor the_factor
factors = record { again_one = λ f x _. refl; begins = λ f x. refl; long = long_factor }

suffixes : Brackets SuffixFits spell_suffix the_suffix
suffixes = record { again_one = suffix_again; begins = λ s x. refl; long = long_suffix }

offsets : Brackets OffsetFits spell_offset the_offset
offsets = record { again_one = offset_again; begins = λ o x. refl; long = long_offset }

view_again : (v : ViewText) (x : List Token) → ViewFits v → comes mark.OpenBracket x ≡ false → the_view (spell_view v x) ≡ good v x
view_again (shrink word parent f more) x h g = brackets_again any spell_factor the_factor factors (shrink word) parent f more x tt (any_all more) g
view_again (split word parent f more) x h g = brackets_again any spell_factor the_factor factors (split word) parent f more x tt (any_all more) g
view_again (suffix word parent s more) x h g = brackets_again SuffixFits spell_suffix the_suffix suffixes (suffix word) parent s more x h.0 h.1 g
view_again (shift word parent o more) x h g = brackets_again OffsetFits spell_offset the_offset offsets (shift word) parent o more x h.0 h.1 g

-- what may follow a simple command
pub record Ends (x : List Token) : Type 0 where
  pub goes : access_goes_on x ≡ false
  pub sign : sign_at 0 x ≡ None
  pub brace : comes mark.OpenBrace x ≡ false
  pub square : comes mark.OpenBracket x ≡ false
  pub equal : comes mark.Assign x ≡ false

value_again : (v : ValueText) (x : List Token) → ValueFits v → Ends x → the_value (spell_value v x) ≡ good v x
value_again no_value x f h = unless (comes mark.Assign x) _ _ _ h.equal refl
value_again (some_value equal e) x f h = next_is (the_expression (spell e x)) _ e x _ (expression_again e x f h.goes h.sign) refl

value_no_brace : (v : ValueText) (x : List Token) → Ends x → comes mark.OpenBrace (spell_value v x) ≡ false
value_no_brace no_value x h = h.brace
value_no_brace (some_value equal e) x h = refl

value_no_square : (v : ValueText) (x : List Token) → Ends x → comes mark.OpenBracket (spell_value v x) ≡ false
value_no_square no_value x h = h.square
value_no_square (some_value equal e) x h = refl

store_rest : (a : AccessText) (becomes : Place) (e : ExprText) (x : List Token) → ExpressionFits 0 e → Ends x → (n : NameText) (ts : List Token)
    → access_from (read (steps ts)) n ts ≡ good a (put kind.Becomes becomes (spell e x)) → store_from n ts ≡ good (store a becomes e) x
store_rest a becomes e x f h n ts k =
    next_is (access_from (read (steps ts)) n ts) _ a (put kind.Becomes becomes (spell e x)) _ k
    (next_is (the_expression (spell e x)) _ e x _ (expression_again e x f h.goes h.sign) refl)

pub simple_again : (s : SimpleText) (x : List Token) → SimpleFits s → Ends x → the_simple (spell_simple s x) ≡ good s x
simple_again (let_typed word n colon t value) x f h =
    next_is (the_type (spell_type t (spell_value value x))) _ t (spell_value value x) _ (type_again t (spell_value value x) f.0 (value_no_brace value x h) (value_no_square value x h))
    (next_is (the_value (spell_value value x)) _ value x _ (value_again value x f.1 h) refl)
simple_again (let_value word n equal e) x f h = next_is (the_expression (spell e x)) _ e x _ (expression_again e x f h.goes h.sign) refl
simple_again (view word n equal v) x f h = next_is (the_view (spell_view v x)) _ v x _ (view_again v x f h.square) refl
simple_again (assign n becomes e) x f h = next_is (the_expression (spell e x)) _ e x _ (expression_again e x f h.goes h.sign) refl
simple_again (store (element n (index opener i closer) more) becomes e) x f h =
    store_rest (element n (index opener i closer) more) becomes e x f.1 h n (spell_index (index opener i closer) (spell_indices more (put kind.Becomes becomes (spell e x))))
    (access_parts n (index opener i closer) more (steps (spell_index (index opener i closer) (spell_indices more (put kind.Becomes becomes (spell e x))))) (put kind.Becomes becomes (spell e x)) f.0.0 f.0.1
    (le-own (length (spell_index (index opener i closer) (spell_indices more (put kind.Becomes becomes (spell e x)))))) refl)
simple_again (store (physical n opener bank closer i) becomes e) x f h =
    store_rest (physical n opener bank closer i) becomes e x f.1 h n (put kind.OpenBrace opener (put_number bank (put kind.CloseBrace closer (spell_index i (put kind.Becomes becomes (spell e x))))))
    (bank_parts n opener bank closer i (steps (put kind.OpenBrace opener (put_number bank (put kind.CloseBrace closer (spell_index i (put kind.Becomes becomes (spell e x))))))) (put kind.Becomes becomes (spell e x)) f.0
    (le-own (length (put kind.OpenBrace opener (put_number bank (put kind.CloseBrace closer (spell_index i (put kind.Becomes becomes (spell e x)))))))))
simple_again (reduce n adds sign e) x f h = next_is (the_expression (spell e x)) _ e x _ (expression_again e x f h.goes h.sign) refl
simple_again (reduce n subtracts sign e) x f h = next_is (the_expression (spell e x)) _ e x _ (expression_again e x f h.goes h.sign) refl
simple_again (reduce n multiplies sign e) x f h = next_is (the_expression (spell e x)) _ e x _ (expression_again e x f h.goes h.sign) refl
simple_again (call n opener arguments) x f h = next_is (the_arguments (spell_arguments arguments x)) _ arguments x _ (arguments_again arguments x f) refl
