-- Two lists of tokens that begin alike are read alike, as far as they do: the reader looks no further
-- than the token at which it stops. So a program whose tokens begin like those of a list, up to the
-- token at which the reader stops in the list and with it, would be stopped there too; but programs are
-- read to their ends.
-- The lists end with p and q. Either both readings have left the same tokens in front of these; or the
-- first reading has come to p, and then nothing is said of the second.
use Rattle.std.proofs.Common.{◌≡◌, ℕ, zero, suc, ◌≤◌, Bool, true, false, if◌then◌else◌, List, [], ◌∷◌, ◌++◌, length, refl, ap, sym, subst, arith}
use Rattle.dh_lexer.specs.declared.tokens.Token.{Token}
use Rattle.dh_lexer.specs.declared.tokens.TokenKind.{TokenKind}
use Rattle.dh_lexer.specs.declared.tokens.TokenKind.TheVariants as kind
use Rattle.dh_parser.specs.declared.parsing.reading.Mark.{Mark}
use Rattle.dh_parser.specs.Marks.{is_mark, comes}
use Rattle.dh_parser.specs.Reading.{Outcome, outcome_bind, the, name_text, number_text, name_from, the_name, number_from, the_number, good, bad, deep}

pub data Where (p : List Token) : Type 0 where
  shared : (b : List Token) → Where p
  past : (r s : List Token) → length r ≤ length p → Where p

-- what is left to the first reading
abbrev pub first : (p : List Token) → Where p → List Token
first p (shared b) = b ++ p
first p (past r s l) = r

-- what is left to the second reading
abbrev pub second : (p q : List Token) → Where p → List Token
second p q (shared b) = b ++ q
second p q (past r s l) = s

-- no more than p is left
abbrev pub Past : {A : Type 0} → List Token → Outcome A → Type 0
Past p (good a rest) = length rest ≤ length p
Past p (bad rest) = length rest ≤ length p
Past p deep = Unit {0}

pub data Alike {A : Type 0} (p q : List Token) (o u : Outcome A) : Type 0 where
  over : Past p o → Alike p q o u
  went : (a : A) (t : Token) (b : List Token) → o ≡ good a (t ∷ (b ++ p)) → u ≡ good a (t ∷ (b ++ q)) → Alike p q o u
  stopped : (t : Token) (b : List Token) → o ≡ bad (t ∷ (b ++ p)) → u ≡ bad (t ∷ (b ++ q)) → Alike p q o u
  gave : u ≡ deep → Alike p q o u

abbrev pub HoldsAt : {A : Type 0} (p q : List Token) → Where p → Outcome A → Outcome A → Type 0
HoldsAt p q (shared []) o u = Past p o
HoldsAt p q (shared (t ∷ b)) o u = Alike p q o u
HoldsAt p q (past r s l) o u = Past p o

-- what two readings that begin here come to
pub record At {A : Type 0} (p q : List Token) (w : Where p) (o u : Outcome A) : Type 0 where
  pub holds : HoldsAt p q w o u

-- two readers that read alike
abbrev pub Alikes : {A : Type 0} → (List Token → Outcome A) → (List Token → Outcome A) → Type 0
Alikes f g = (p q : List Token) (w : Where p) → At p q w (f (first p w)) (g (second p q w))

bind_past : {A B : Type 0} (p : List Token) (o : Outcome A) (go : A → List Token → Outcome B) → Past p o → ((a : A) (r : List Token) → length r ≤ length p → Past p (go a r)) → Past p (outcome_bind o go)
bind_past p (good a r) go h k = k a r h
bind_past p (bad r) go h k = h
bind_past p deep go h k = tt

bind_alike : {A B : Type 0} (p q : List Token) (o u : Outcome A) (go to : A → List Token → Outcome B) → Alike p q o u
    → ((a : A) (w : Where p) → At p q w (go a (first p w)) (to a (second p q w))) → Alike p q (outcome_bind o go) (outcome_bind u to)
bind_alike p q o u go to (over h) k = over (bind_past p o go h (λ a r l. (k a (past r [] l)).holds))
bind_alike p q o u go to (went a t b e d) k =
    subst (λ x. Alike p q (outcome_bind x go) (outcome_bind u to)) (sym e) (subst (λ x. Alike p q (go a (t ∷ (b ++ p))) (outcome_bind x to)) (sym d) (k a (shared (t ∷ b))).holds)
bind_alike p q o u go to (stopped t b e d) k = stopped t b (ap (λ x. outcome_bind x go) e) (ap (λ x. outcome_bind x to) d)
bind_alike p q o u go to (gave e) k = gave (ap (λ x. outcome_bind x to) e)

bind_holds : {A B : Type 0} (p q : List Token) (w : Where p) (o u : Outcome A) (go to : A → List Token → Outcome B) → HoldsAt p q w o u
    → ((a : A) (w : Where p) → At p q w (go a (first p w)) (to a (second p q w))) → HoldsAt p q w (outcome_bind o go) (outcome_bind u to)
bind_holds p q (shared []) o u go to h k = bind_past p o go h (λ a r l. (k a (past r [] l)).holds)
bind_holds p q (shared (t ∷ b)) o u go to h k = bind_alike p q o u go to h k
bind_holds p q (past r s l) o u go to h k = bind_past p o go h (λ a r l. (k a (past r [] l)).holds)

-- goes on after a part
pub next_at : {A B : Type 0} {p q : List Token} {w : Where p} {o u : Outcome A} (go to : A → List Token → Outcome B) → At p q w o u
    → ((a : A) (v : Where p) → At p q v (go a (first p v)) (to a (second p q v))) → At p q w (outcome_bind o go) (outcome_bind u to)
next_at {A} {B} {p} {q} {w} {o} {u} go to h k = record { holds = bind_holds p q w o u go to h.holds k }

same_length : (n : ℕ) → n ≤ n
same_length n = omega arith

pub least : (n : ℕ) → 0 ≤ n
least n = omega arith

one_less : (m n : ℕ) → suc m ≤ n → m ≤ n
one_less m n l = omega arith

ends_holds : {A : Type 0} (a : A) (p q : List Token) (w : Where p) → HoldsAt p q w (good a (first p w)) (good a (second p q w))
ends_holds a p q (shared []) = same_length (length p)
ends_holds a p q (shared (t ∷ b)) = went a t b refl refl
ends_holds a p q (past r s l) = l

pub ends : {A : Type 0} {p q : List Token} (a : A) (w : Where p) → At p q w (good a (first p w)) (good a (second p q w))
ends {A} {p} {q} a w = record { holds = ends_holds a p q w }

first_deep : {A : Type 0} (p q : List Token) (w : Where p) (u : Outcome A) → HoldsAt p q w deep u
first_deep p q (shared []) u = tt
first_deep p q (shared (t ∷ b)) u = over tt
first_deep p q (past r s l) u = tt

pub no_steps : {A : Type 0} {p q : List Token} {w : Where p} {u : Outcome A} → At p q w deep u
no_steps {A} {p} {q} {w} {u} = record { holds = first_deep p q w u }

second_deep : {A : Type 0} (p q : List Token) (w : Where p) (o u v : Outcome A) → v ≡ deep → HoldsAt p q w o u → HoldsAt p q w o v
second_deep p q (shared []) o u v e h = h
second_deep p q (shared (t ∷ b)) o u v e h = gave e
second_deep p q (past r s l) o u v e h = h

-- the second reading has steps, or gives up
pub stepped : {A : Type 0} {p q : List Token} {w : Where p} {o : Outcome A} (u : ℕ → Outcome A) (m : ℕ) → u zero ≡ deep → ((m : ℕ) → At p q w o (u (suc m))) → At p q w o (u m)
stepped {A} {p} {q} {w} {o} u zero e h = record { holds = second_deep p q w o (u (suc zero)) (u zero) e (h zero).holds }
stepped {A} {p} {q} {w} {o} u (suc m) e h = h m

by_first_holds : {A X : Type 0} (p q : List Token) (w : Where p) (c : List Token → X) → ((t : Token) (r s : List Token) → c (t ∷ r) ≡ c (t ∷ s)) → (f g : X → Outcome A)
    → ((x : X) → At p q w (f x) (g x)) → HoldsAt p q w (f (c (first p w))) (g (c (second p q w)))
by_first_holds p q (shared []) c e f g h = (h (c p)).holds
by_first_holds p q (shared (t ∷ b)) c e f g h = subst (λ x. Alike p q (f (c (t ∷ (b ++ p)))) (g x)) (e t (b ++ p) (b ++ q)) (h (c (t ∷ (b ++ p)))).holds
by_first_holds p q (past r s l) c e f g h = (h (c r)).holds

-- a choice by the first token
pub by_first : {A X : Type 0} {p q : List Token} (w : Where p) (c : List Token → X) → ((t : Token) (r s : List Token) → c (t ∷ r) ≡ c (t ∷ s)) → (f g : X → Outcome A)
    → ((x : X) → At p q w (f x) (g x)) → At p q w (f (c (first p w))) (g (c (second p q w)))
by_first {A} {X} {p} {q} w c e f g h = record { holds = by_first_holds p q w c e f g h }

both : {A : Type 0} {p q : List Token} {w : Where p} (x y z u : Outcome A) → At p q w x y → At p q w z u → (b : Bool) → At p q w (if b then x else z) (if b then y else u)
both x y z u h k true = h
both x y z u h k false = k

pub choose : {A : Type 0} {p q : List Token} (w : Where p) (c : List Token → Bool) → ((t : Token) (r s : List Token) → c (t ∷ r) ≡ c (t ∷ s)) → {x y z u : Outcome A}
    → At p q w x y → At p q w z u → At p q w (if c (first p w) then x else z) (if c (second p q w) then y else u)
choose {A} {p} {q} w c e {x} {y} {z} {u} h k = by_first w c e (λ b. if b then x else z) (λ b. if b then y else u) (both x y z u h k)

-- whether a mark comes first
pub if_comes : {A : Type 0} {p q : List Token} (m : Mark) (w : Where p) {x y z u : Outcome A}
    → At p q w x y → At p q w z u → At p q w (if comes m (first p w) then x else z) (if comes m (second p q w) then y else u)
if_comes m w h k = choose w (comes m) (λ t r s. refl) h k

-- what two readings come to that begin with a token in front of this place
abbrev pub HoldsBefore : {A : Type 0} (p q : List Token) → Where p → Outcome A → Outcome A → Type 0
HoldsBefore p q (shared b) o u = Alike p q o u
HoldsBefore p q (past r s l) o u = suc (length r) ≤ length p → Past p o

pub record Before {A : Type 0} (p q : List Token) (w : Where p) (o u : Outcome A) : Type 0 where
  pub holds : HoldsBefore p q w o u

take_holds : {A : Type 0} (p q : List Token) (w : Where p) (o u : Outcome A) → HoldsAt p q w o u → HoldsBefore p q w o u
take_holds p q (shared []) o u h = over h
take_holds p q (shared (t ∷ b)) o u h = h
take_holds p q (past r s l) o u h = λ _. h

-- the token is taken
pub takes : {A : Type 0} {p q : List Token} {w : Where p} {o u : Outcome A} → At p q w o u → Before p q w o u
takes {A} {p} {q} {w} {o} {u} h = record { holds = take_holds p q w o u h.holds }

stays_holds : (A : Type 0) (p q : List Token) (t : Token) (w : Where p) → HoldsBefore {A = A} p q w (bad (t ∷ first p w)) (bad (t ∷ second p q w))
stays_holds A p q t (shared b) = stopped t b refl refl
stays_holds A p q t (past r s l) = λ k. k

-- the token is out of place
pub stays : {A : Type 0} {p q : List Token} (t : Token) (w : Where p) → Before {A = A} p q w (bad (t ∷ first p w)) (bad (t ∷ second p q w))
stays {A} {p} {q} t w = record { holds = stays_holds A p q t w }

passes_holds : {A : Type 0} (a : A) (p q : List Token) (t : Token) (w : Where p) → HoldsBefore p q w (good a (t ∷ first p w)) (good a (t ∷ second p q w))
passes_holds a p q t (shared b) = went a t b refl refl
passes_holds a p q t (past r s l) = λ k. k

-- the token is left to what follows
pub passes : {A : Type 0} {p q : List Token} (a : A) (t : Token) (w : Where p) → Before p q w (good a (t ∷ first p w)) (good a (t ∷ second p q w))
passes {A} {p} {q} a t w = record { holds = passes_holds a p q t w }

pub if_before : {A : Type 0} {p q : List Token} {w : Where p} (b : Bool) {x y z u : Outcome A} → Before p q w x y → Before p q w z u → Before p q w (if b then x else z) (if b then y else u)
if_before true h k = h
if_before false h k = k

token_past : {A : Type 0} (p q : List Token) (f g : List Token → Outcome A) → Past p (f [])
    → ((t : Token) (w : Where p) → Before p q w (f (t ∷ first p w)) (g (t ∷ second p q w))) → (r : List Token) → length r ≤ length p → Past p (f r)
token_past p q f g e h [] l = e
token_past p q f g e h (t ∷ r) l = (h t (past r [] (one_less (length r) (length p) l))).holds l

token_holds : {A : Type 0} (p q : List Token) (f g : List Token → Outcome A) → Past p (f [])
    → ((t : Token) (w : Where p) → Before p q w (f (t ∷ first p w)) (g (t ∷ second p q w))) → (w : Where p) → HoldsAt p q w (f (first p w)) (g (second p q w))
token_holds p q f g e h (shared []) = token_past p q f g e h p (same_length (length p))
token_holds p q f g e h (shared (t ∷ b)) = (h t (shared b)).holds
token_holds p q f g e h (past r s l) = token_past p q f g e h r l

-- two readers that look at the first token read alike if they do so from each token
pub by_token : {A : Type 0} {p q : List Token} (f g : List Token → Outcome A) → Past p (f [])
    → ((t : Token) (w : Where p) → Before p q w (f (t ∷ first p w)) (g (t ∷ second p q w))) → (w : Where p) → At p q w (f (first p w)) (g (second p q w))
by_token {A} {p} {q} f g e h w = record { holds = token_holds p q f g e h w }

pub mark_alike : (m : Mark) → Alikes (the m) (the m)
mark_alike m p q w = by_token (the m) (the m) (least (length p)) (λ t v. if_before (is_mark t.kind m) (takes (ends t.place v)) (stays t v)) w

name_before : (k : TokenKind) (t : Token) (p q : List Token) (w : Where p) → Before p q w (name_from k t (first p w)) (name_from k t (second p q w))
name_before (kind.Name n) t p q w = takes (ends (name_text n t.place) w)
name_before _ t p q w = stays t w

pub name_alike : Alikes the_name the_name
name_alike p q w = by_token the_name the_name (least (length p)) (λ t v. name_before t.kind t p q v) w

number_before : (k : TokenKind) (t : Token) (p q : List Token) (w : Where p) → Before p q w (number_from k t (first p w)) (number_from k t (second p q w))
number_before (kind.Number n) t p q w = takes (ends (number_text n t.place) w)
number_before _ t p q w = stays t w

pub number_alike : Alikes the_number the_number
number_alike p q w = by_token the_number the_number (least (length p)) (λ t v. number_before t.kind t p q v) w
