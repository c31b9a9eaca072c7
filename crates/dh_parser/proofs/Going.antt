-- How what a parser of the code calls answers for it, beside readers of lists that go on with one another.
use Rattle.std.proofs.Common.{◌≡◌, Bool, true, false, if◌then◌else◌, List, Result, Ok, Err, IsErr, refl, ap, sym, subst}
use Rattle.std.specs.Result.{IsErrAnd, IfOk}
use Rattle.dh_lexer.specs.declared.tokens.Token.{Token}
use Rattle.dh_parser.specs.declared.parsing.reading.Stop.{Stop}
use Rattle.dh_parser.specs.declared.parsing.reading.Stop.TheVariants as stop
use Rattle.dh_parser.specs.Reading.{Outcome, good, bad, deep, outcome_bind}
use Rattle.dh_parser.specs.Answers.{AnswersBy, AnswersOutcome, MadeOf}

abbrev answers : {A B : Type 0} (s : B → A → Type 0) (x : Result B Stop) (rest : List Token) (o : Outcome A) → AnswersBy s x rest o → AnswersOutcome s x rest o
answers s x rest o h = record { holds = h }

ok_by : {A B C : Type 0} (s : B → A → Type 0) (t : C → A → Type 0) (v : B) (w : C) (rest : List Token) (o : Outcome A)
    → AnswersBy s (Ok v) rest o → ((a : A) → s v a → t w a) → AnswersBy t (Ok w) rest o
ok_by s t v w rest (good a r) h k = (k a h.0, h.1)
ok_by s t v w rest (bad r) h k = h
ok_by s t v w rest deep h k = h

-- another value for the same text
pub ok_as : {A B C : Type 0} {s : B → A → Type 0} {t : C → A → Type 0} {v : B} {w : C} {rest : List Token} {o : Outcome A}
    → AnswersOutcome s (Ok v) rest o → ((a : A) → s v a → t w a) → AnswersOutcome t (Ok w) rest o
ok_as {s = s} {t = t} {v = v} {w = w} {rest = rest} {o = o} h k = record { holds = ok_by s t v w rest o h.holds k }

err_by : {A B C D : Type 0} (s : B → A → Type 0) (t : C → D → Type 0) (e : Stop) (rest : List Token) (o : Outcome A) (go : A → List Token → Outcome D)
    → AnswersBy s (Err e) rest o → AnswersBy t (Err e) rest (outcome_bind o go)
err_by s t stop.Here rest (good a r) go h = absurd h
err_by s t stop.Here rest (bad r) go h = h
err_by s t stop.Here rest deep go h = h
err_by s t stop.NoMemory rest o go h = h

-- a refusal by the first is one of the whole
pub err_then : {A B C D : Type 0} {s : B → A → Type 0} {t : C → D → Type 0} {e : Stop} {rest : List Token} {o : Outcome A} (go : A → List Token → Outcome D)
    → AnswersOutcome s (Err e) rest o → AnswersOutcome t (Err e) rest (outcome_bind o go)
err_then {s = s} {t = t} {e = e} {rest = rest} {o = o} go h = record { holds = err_by s t e rest o go h.holds }

then_by : {A B C D : Type 0} (s : B → A → Type 0) (t : C → D → Type 0) (v : B) (x : Result C Stop) (mid rest : List Token) (o : Outcome A) (go : A → List Token → Outcome D)
    → AnswersBy s (Ok v) mid o → ((a : A) → s v a → AnswersOutcome t x rest (go a mid)) → AnswersOutcome t x rest (outcome_bind o go)
then_by s t v x mid rest (good a r) go h k = rw (sym h.1) (k a h.0)
then_by s t v x mid rest (bad r) go h k = absurd h
then_by s t v x mid rest deep go h k = absurd h

-- after an answer of the first, the rest answers for the whole
pub ok_then : {A B C D : Type 0} {s : B → A → Type 0} {t : C → D → Type 0} {v : B} {x : Result C Stop} {mid rest : List Token} {o : Outcome A} (go : A → List Token → Outcome D)
    → AnswersOutcome s (Ok v) mid o → ((a : A) → s v a → AnswersOutcome t x rest (go a mid)) → AnswersOutcome t x rest (outcome_bind o go)
ok_then {s = s} {t = t} {v = v} {x = x} {mid = mid} {rest = rest} {o = o} go h k = then_by s t v x mid rest o go h.holds k

-- what `?` hands on
pub given : {C : Type 0} {x : Result C Stop} {e : Stop} → IsErr x × IsErrAnd x (λ f. f ≡ e) → x ≡ Err e
given {x = Ok v} h = cc h.0
given {x = Err f} {e = e} h = ap (λ g. Err g) h.1

pub assoc : {A B C : Type 0} (o : Outcome A) (f : A → List Token → Outcome B) (g : B → List Token → Outcome C) → outcome_bind (outcome_bind o f) g ≡ outcome_bind o (λ a r. outcome_bind (f a r) g)
assoc (good a r) f g = refl
assoc (bad r) f g = refl
assoc deep f g = refl

pub same_bind : {A B : Type 0} (o : Outcome A) (go went : A → List Token → Outcome B) → ((a : A) (r : List Token) → go a r ≡ went a r) → outcome_bind o go ≡ outcome_bind o went
same_bind (good a r) go went h = h a r
same_bind (bad r) go went h = refl
same_bind deep go went h = refl

pub bind_good : {A : Type 0} (o : Outcome A) → o ≡ outcome_bind o (λ a r. good a r)
bind_good (good a r) = refl
bind_good (bad r) = refl
bind_good deep = refl

pub if_true : {A : Type 0} (b : Bool) (x y : A) → b ≡ true → (if b then x else y) ≡ x
if_true true x y e = refl
if_true false x y e = cc

pub if_false : {A : Type 0} (b : Bool) (x y : A) → b ≡ false → (if b then x else y) ≡ y
if_false true x y e = cc
if_false false x y e = refl

-- what is so of each text that is read
abbrev pub AllOf : {A : Type 0} → (A → Type 0) → Outcome A → Type 0
AllOf P (good a r) = P a
AllOf P (bad r) = Unit {0}
AllOf P deep = Unit {0}

pub all_then : {A B : Type 0} (P : B → Type 0) (o : Outcome A) (go : A → List Token → Outcome B) → ((a : A) (r : List Token) → AllOf P (go a r)) → AllOf P (outcome_bind o go)
all_then P (good a r) go h = h a r
all_then P (bad r) go h = tt
all_then P deep go h = tt

also_by : {A B : Type 0} (s : B → A → Type 0) (P : A → Type 0) (v : B) (rest : List Token) (o : Outcome A) → AnswersBy s (Ok v) rest o → AllOf P o → AnswersBy (λ w a. s w a × P a) (Ok v) rest o
also_by s P v rest (good a r) h p = ((h.0, p), h.1)
also_by s P v rest (bad r) h p = h
also_by s P v rest deep h p = h

pub also : {A B : Type 0} {s : B → A → Type 0} {v : B} {rest : List Token} {o : Outcome A} (P : A → Type 0) → AnswersOutcome s (Ok v) rest o → AllOf P o → AnswersOutcome (λ w a. s w a × P a) (Ok v) rest o
also {s = s} {v = v} {rest = rest} {o = o} P h p = record { holds = also_by s P v rest o h.holds p }

pub when_true : {A C : Type 0} {t : C → A → Type 0} {x : Result C Stop} {rest : List Token} {o : Outcome A} (b : Bool) (p : Outcome A) → b ≡ true → AnswersOutcome t x rest o → AnswersOutcome t x rest (if b then o else p)
when_true true p e h = h
when_true false p e h = absurd (cc e)

pub when_false : {A C : Type 0} {t : C → A → Type 0} {x : Result C Stop} {rest : List Token} {o : Outcome A} (b : Bool) (p : Outcome A) → b ≡ false → AnswersOutcome t x rest o → AnswersOutcome t x rest (if b then p else o)
when_false true p e h = absurd (cc e)
when_false false p e h = h

as_by : {A B C : Type 0} (s : B → A → Type 0) (t : C → A → Type 0) (e : Stop) (rest : List Token) (o : Outcome A) → AnswersBy s (Err e) rest o → AnswersBy t (Err e) rest o
as_by s t stop.Here rest (good a r) h = h
as_by s t stop.Here rest (bad r) h = h
as_by s t stop.Here rest deep h = h
as_by s t stop.NoMemory rest o h = h

pub err_as : {A B C : Type 0} {s : B → A → Type 0} {t : C → A → Type 0} {e : Stop} {rest : List Token} {o : Outcome A} → AnswersOutcome s (Err e) rest o → AnswersOutcome t (Err e) rest o
err_as {s = s} {t = t} {e = e} {rest = rest} {o = o} h = record { holds = as_by s t e rest o h.holds }

known_by : {A B : Type 0} (s : B → A → Type 0) (v : B) (rest : List Token) (o : Outcome A) → AnswersBy s (Ok v) rest o → (a : A) × (s v a × (o ≡ good a rest))
known_by s v rest (good a r) h = (a, (h.0, ap (λ l. good a l) (sym h.1)))
known_by s v rest (bad r) h = absurd h
known_by s v rest deep h = absurd h

-- what was read, where there is an answer
pub known : {A B : Type 0} {s : B → A → Type 0} {v : B} {rest : List Token} {o : Outcome A} → AnswersOutcome s (Ok v) rest o → (a : A) × (s v a × (o ≡ good a rest))
known {s = s} {v = v} {rest = rest} {o = o} h = known_by s v rest o h.holds

pub answered : {A B : Type 0} {s : B → A → Type 0} {v : B} {rest : List Token} {o : Outcome A} (a : A) → o ≡ good a rest → s v a → AnswersOutcome s (Ok v) rest o
answered a e h = rw e (record { holds = (h, refl) })

-- why nothing was read
abbrev pub stop_of : {A : Type 0} → Result A Stop → Stop
stop_of (Ok v) = stop.NoMemory
stop_of (Err e) = e

-- what is made of what was read answers for the whole
pub made_of : {A B C D : Type 0} {s : B → A → Type 0} {t : C → D → Type 0} {P : B → C → Type 0} {x : Result B Stop} {y : Result C Stop} {rest : List Token} {o : Outcome A} (put : A → D)
    → AnswersOutcome s x rest o → MadeOf P x y → ((v : B) (w : C) (a : A) → s v a → P v w → t w (put a)) → AnswersOutcome t y rest (outcome_bind o (λ a r. good (put a) r))
made_of {x = Ok v} {y = Ok w} {o = good a r} put h m k = record { holds = (k v w a h.holds.0 m.holds, h.holds.1) }
made_of {x = Ok v} {y = Ok w} {o = bad r} put h m k = absurd h.holds
made_of {x = Ok v} {y = Ok w} {o = deep} put h m k = absurd h.holds
made_of {x = Ok v} {y = Err stop.Here} put h m k = absurd m.holds
made_of {x = Ok v} {y = Err stop.NoMemory} put h m k = record { holds = tt }
made_of {C = C} {t = t} {x = Err e} {rest = rest} {o = o} put h m k =
    subst (λ (z : Result C Stop). AnswersOutcome t z rest (outcome_bind o (λ a r. good (put a) r))) (sym m.holds) (err_then (λ a r. good (put a) r) h)

-- where tokens were taken in any case
pub took_ok : {A T : Type 0} (x : Result A Stop) → T → IfOk x (λ _. T)
took_ok (Ok v) h = h
took_ok (Err e) h = tt
