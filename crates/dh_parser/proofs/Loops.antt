-- Loops that read one part after another, beside a reader of lists that calls itself. So far some
-- parts were read; the reader of lists has still to read the others, and puts them behind these.
use Rattle.std.proofs.Common.{◌≡◌, ℕ, zero, suc, ◌<◌, List, [], ◌∷◌, ◌++◌, append_assoc, append-nil, length, Result, Ok, Err, refl, ap, sym, ◌∙◌, arith}
use Rattle.dh_lexer.specs.declared.tokens.Token.{Token}
use Rattle.dh_parser.specs.declared.parsing.reading.Stop.{Stop}
use Rattle.dh_parser.specs.Reading.{Outcome, good, bad, deep, outcome_bind}
use Rattle.dh_parser.specs.declared.parsing.reading.Stop.TheVariants as stop
use Rattle.dh_parser.specs.Answers.{AnswersBy, AnswersOutcome}
use Rattle.dh_parser.proofs.StepsOfExpressions.{none_below}
use Rattle.dh_parser.proofs.Going.{err_then, assoc, bind_good}

-- the loop has steps enough for what is left, and what it reads, put so, is the whole answer
pub record Loops {M T : Type 0} (loop : ℕ → List Token → Outcome M) (rest : List Token) (whole : Outcome T) (so_far : (M → T) → Type 0) : Type 0 where
  pub left : ℕ
  pub put : M → T
  pub few : length rest < left
  pub whole_is : whole ≡ outcome_bind (loop left rest) (λ m r. good (put m) r)
  pub is_so : so_far put

abbrev looping : {M T : Type 0} (loop : ℕ → List Token → Outcome M) (rest : List Token) (whole : Outcome T) (P : (M → T) → Type 0)
    (n : ℕ) (put : M → T) → length rest < n → whole ≡ outcome_bind (loop n rest) (λ m r. good (put m) r) → P put → Loops loop rest whole P
looping loop rest whole P n put few e p = record { left = n; put = put; few = few; whole_is = e; is_so = p }

go_by : {A B M T : Type 0} (loop : ℕ → List Token → Outcome M) (one : List Token → Outcome A) (cons : A → M → M) (rest new : List Token) (whole : Outcome T) (P Q : (M → T) → Type 0) (s : B → A → Type 0) (v : B)
    → (n : ℕ) (put : M → T) → length rest < n → whole ≡ outcome_bind (loop n rest) (λ m r. good (put m) r) → P put
    → ((k : ℕ) → loop (suc k) rest ≡ outcome_bind (one rest) (λ a r. outcome_bind (loop k r) (λ m q. good (cons a m) q)))
    → (o : Outcome A) → one rest ≡ o → AnswersOutcome s (Ok v) new o → length new < length rest
    → ((put : M → T) (a : A) → P put → s v a → Q (λ m. put (cons a m))) → Loops loop new whole Q
go_by loop one cons rest new whole P Q s v zero put few e p goes o f h less k = absurd (none_below (length rest) few)
go_by loop one cons rest new whole P Q s v (suc n) put few e p goes (good a r) f h less k =
    looping loop new whole Q n (λ m. put (cons a m)) (omega arith)
    (e ∙ (ap (λ x. outcome_bind x (λ m q. good (put m) q)) (goes n ∙ ap (λ x. outcome_bind x (λ b q. outcome_bind (loop n q) (λ m q. good (cons b m) q))) f)
    ∙ (assoc (loop n r) (λ m q. good (cons a m) q) (λ m q. good (put m) q) ∙ ap (λ l. outcome_bind (loop n l) (λ m q. good (put (cons a m)) q)) (sym h.holds.1))))
    (k put a p h.holds.0)
go_by loop one cons rest new whole P Q s v (suc n) put few e p goes (bad r) f h less k = absurd h.holds
go_by loop one cons rest new whole P Q s v (suc n) put few e p goes deep f h less k = absurd h.holds

-- a turn of the loop
pub loop_goes : {A B M T : Type 0} {loop : ℕ → List Token → Outcome M} {rest new : List Token} {whole : Outcome T} {P Q : (M → T) → Type 0} {s : B → A → Type 0} {v : B}
    (one : List Token → Outcome A) (cons : A → M → M)
    → Loops loop rest whole P
    → ((k : ℕ) → loop (suc k) rest ≡ outcome_bind (one rest) (λ a r. outcome_bind (loop k r) (λ m q. good (cons a m) q)))
    → AnswersOutcome s (Ok v) new (one rest) → length new < length rest
    → ((put : M → T) (a : A) → P put → s v a → Q (λ m. put (cons a m))) → Loops loop new whole Q
loop_goes {loop = loop} {rest = rest} {new = new} {whole = whole} {P = P} {Q = Q} {s = s} {v = v} one cons w goes h less k =
    go_by loop one cons rest new whole P Q s v w.left w.put w.few w.whole_is w.is_so goes (one rest) refl h less k

refused_by : {A B C M T : Type 0} (loop : ℕ → List Token → Outcome M) (one : List Token → Outcome A) (cons : A → M → M) (rest new : List Token) (whole : Outcome T) (s : B → A → Type 0) (t : C → T → Type 0) (e : Stop)
    → (n : ℕ) (put : M → T) → length rest < n → whole ≡ outcome_bind (loop n rest) (λ m r. good (put m) r)
    → ((k : ℕ) → loop (suc k) rest ≡ outcome_bind (one rest) (λ a r. outcome_bind (loop k r) (λ m q. good (cons a m) q)))
    → AnswersOutcome s (Err e) new (one rest) → AnswersOutcome t (Err e) new whole
refused_by loop one cons rest new whole s t e zero put few f goes h = absurd (none_below (length rest) few)
refused_by {B = B} {C = C} loop one cons rest new whole s t e (suc n) put few f goes h =
    rw (f ∙ ap (λ x. outcome_bind x (λ m q. good (put m) q)) (goes n))
    (err_then {B = C} {s = λ c m. t c (put m)} (λ m q. good (put m) q) (err_then {B = B} {C = C} {s = s} (λ a r. outcome_bind (loop n r) (λ m q. good (cons a m) q)) h))

-- a part is refused, and so the whole
pub loop_refused : {A B C M T : Type 0} {loop : ℕ → List Token → Outcome M} {rest new : List Token} {whole : Outcome T} {P : (M → T) → Type 0} {s : B → A → Type 0} {t : C → T → Type 0} {e : Stop}
    (one : List Token → Outcome A) (cons : A → M → M)
    → Loops loop rest whole P
    → ((k : ℕ) → loop (suc k) rest ≡ outcome_bind (one rest) (λ a r. outcome_bind (loop k r) (λ m q. good (cons a m) q)))
    → AnswersOutcome s (Err e) new (one rest) → AnswersOutcome t (Err e) new whole
loop_refused {loop = loop} {rest = rest} {new = new} {whole = whole} {s = s} {t = t} {e = e} one cons w goes h =
    refused_by loop one cons rest new whole s t e w.left w.put w.few w.whole_is goes h

done_by : {C M T : Type 0} (loop : ℕ → List Token → Outcome M) (rest : List Token) (whole : Outcome T) (P : (M → T) → Type 0) (t : C → T → Type 0) (v : C) (end : M)
    → (n : ℕ) (put : M → T) → length rest < n → whole ≡ outcome_bind (loop n rest) (λ m r. good (put m) r) → P put
    → ((k : ℕ) → loop (suc k) rest ≡ good end rest) → ((put : M → T) → P put → t v (put end)) → AnswersOutcome t (Ok v) rest whole
done_by loop rest whole P t v end zero put few f p stops k = absurd (none_below (length rest) few)
done_by loop rest whole P t v end (suc n) put few f p stops k =
    rw (f ∙ ap (λ x. outcome_bind x (λ m q. good (put m) q)) (stops n)) (record { holds = (k put p, refl) })

-- the loop ends
pub loop_done : {C M T : Type 0} {loop : ℕ → List Token → Outcome M} {rest : List Token} {whole : Outcome T} {P : (M → T) → Type 0} {t : C → T → Type 0} {v : C}
    (end : M) → Loops loop rest whole P → ((k : ℕ) → loop (suc k) rest ≡ good end rest) → ((put : M → T) → P put → t v (put end)) → AnswersOutcome t (Ok v) rest whole
loop_done {loop = loop} {rest = rest} {whole = whole} {P = P} {t = t} {v = v} end w stops k =
    done_by loop rest whole P t v end w.left w.put w.few w.whole_is w.is_so stops k

-- the loop begins with the whole
pub loop_begins : {M : Type 0} {P : (M → M) → Type 0} (loop : ℕ → List Token → Outcome M) (rest : List Token) → P (λ m. m) → Loops loop rest (loop (suc (length rest)) rest) P
loop_begins {P = P} loop rest p = looping loop rest (loop (suc (length rest)) rest) P (suc (length rest)) (λ m. m) (omega arith) (bind_good (loop (suc (length rest)) rest)) p

-- one more behind those so far
pub listed : {X : Type 0} {n w b m : List X} {x : X} (a : List X) → w ≡ a ++ m → m ≡ x ∷ n → b ≡ a ++ (x ∷ []) → w ≡ b ++ n
listed {n = n} {b = b} {m = m} {x = x} a e f g = e ∙ (ap (λ l. a ++ l) f ∙ (sym (append_assoc a (x ∷ []) n) ∙ ap (λ l. l ++ n) (sym g)))

-- none is left
pub all_listed : {X : Type 0} {w : List X} (a : List X) → w ≡ a ++ [] → a ≡ w
all_listed a e = sym (e ∙ append-nil a)

after_by : {A B M T : Type 0} (loop : ℕ → List Token → Outcome M) (one : Outcome A) (make : A → M → T) (rest : List Token) (P : (M → T) → Type 0) (s : B → A → Type 0) (v : B)
    → AnswersOutcome s (Ok v) rest one → ((a : A) → s v a → P (make a)) → Loops loop rest (outcome_bind one (λ a r. outcome_bind (loop (suc (length r)) r) (λ m q. good (make a m) q))) P
after_by loop (good a r) make rest P s v h k =
    looping loop rest (outcome_bind (loop (suc (length r)) r) (λ m q. good (make a m) q)) P (suc (length rest)) (make a) (omega arith)
    (ap (λ l. outcome_bind (loop (suc (length l)) l) (λ m q. good (make a m) q)) (sym h.holds.1)) (k a h.holds.0)
after_by loop (bad r) make rest P s v h k = absurd h.holds
after_by loop deep make rest P s v h k = absurd h.holds

-- the loop begins after a first part
pub loop_after : {A B M T : Type 0} {one : Outcome A} {rest : List Token} {P : (M → T) → Type 0} {s : B → A → Type 0} {v : B} (loop : ℕ → List Token → Outcome M) (make : A → M → T)
    → AnswersOutcome s (Ok v) rest one → ((a : A) → s v a → P (make a)) → Loops loop rest (outcome_bind one (λ a r. outcome_bind (loop (suc (length r)) r) (λ m q. good (make a m) q))) P
loop_after {one = one} {rest = rest} {P = P} {s = s} {v = v} loop make h k = after_by loop one make rest P s v h k

put_by : {C M T : Type 0} (s : C → M → Type 0) (t : C → T → Type 0) (x : Result C Stop) (rest : List Token) (put : M → T) (o : Outcome M) → ((v : C) (m : M) → s v m → t v (put m))
    → AnswersBy s x rest o → AnswersBy t x rest (outcome_bind o (λ m r. good (put m) r))
put_by s t (Ok v) rest put (good m r) k h = (k v m h.0, h.1)
put_by s t (Ok v) rest put (bad r) k h = h
put_by s t (Ok v) rest put deep k h = h
put_by s t (Err stop.Here) rest put (good m r) k h = h
put_by s t (Err stop.Here) rest put (bad r) k h = h
put_by s t (Err stop.Here) rest put deep k h = h
put_by s t (Err stop.NoMemory) rest put o k h = h

last_by : {C M T : Type 0} (loop : ℕ → List Token → Outcome M) (rest new : List Token) (whole : Outcome T) (P : (M → T) → Type 0) (t : C → T → Type 0) (x : Result C Stop) (end : Outcome M)
    → (n : ℕ) (put : M → T) → length rest < n → whole ≡ outcome_bind (loop n rest) (λ m r. good (put m) r) → P put
    → ((k : ℕ) → loop (suc k) rest ≡ end) → AnswersOutcome (λ v m. (put : M → T) → P put → t v (put m)) x new end → AnswersOutcome t x new whole
last_by loop rest new whole P t x end zero put few f p stops h = absurd (none_below (length rest) few)
last_by loop rest new whole P t x end (suc n) put few f p stops h =
    rw (f ∙ ap (λ x. outcome_bind x (λ m q. good (put m) q)) (stops n))
    (record { holds = put_by (λ v m. (put : _) → P put → t v (put m)) t x new put end (λ v m k. k put p) h.holds })

-- the loop ends with an answer of its own
pub loop_last : {C M T : Type 0} {loop : ℕ → List Token → Outcome M} {rest new : List Token} {whole : Outcome T} {P : (M → T) → Type 0} {t : C → T → Type 0} {x : Result C Stop}
    (end : Outcome M) → Loops loop rest whole P → ((k : ℕ) → loop (suc k) rest ≡ end) → AnswersOutcome (λ v m. (put : M → T) → P put → t v (put m)) x new end → AnswersOutcome t x new whole
loop_last {loop = loop} {rest = rest} {new = new} {whole = whole} {P = P} {t = t} {x = x} end w stops h =
    last_by loop rest new whole P t x end w.left w.put w.few w.whole_is w.is_so stops h

turn_by : {M T : Type 0} (loop : ℕ → List Token → Outcome M) (cons : M → M) (rest new : List Token) (whole : Outcome T) (P Q : (M → T) → Type 0)
    → (n : ℕ) (put : M → T) → length rest < n → whole ≡ outcome_bind (loop n rest) (λ m r. good (put m) r) → P put
    → ((k : ℕ) → loop (suc k) rest ≡ outcome_bind (loop k new) (λ m r. good (cons m) r)) → length new < length rest → ((put : M → T) → P put → Q (λ m. put (cons m))) → Loops loop new whole Q
turn_by loop cons rest new whole P Q zero put few e p goes less k = absurd (none_below (length rest) few)
turn_by loop cons rest new whole P Q (suc n) put few e p goes less k =
    looping loop new whole Q n (λ m. put (cons m)) (omega arith)
    (e ∙ (ap (λ x. outcome_bind x (λ m q. good (put m) q)) (goes n) ∙ assoc (loop n new) (λ m q. good (cons m) q) (λ m q. good (put m) q)))
    (k put p)

-- a turn of the loop, of which it is known what it reads
pub loop_turn : {M T : Type 0} {loop : ℕ → List Token → Outcome M} {rest new : List Token} {whole : Outcome T} {P Q : (M → T) → Type 0} (cons : M → M)
    → Loops loop rest whole P → ((k : ℕ) → loop (suc k) rest ≡ outcome_bind (loop k new) (λ m r. good (cons m) r)) → length new < length rest → ((put : M → T) → P put → Q (λ m. put (cons m))) → Loops loop new whole Q
loop_turn {loop = loop} {rest = rest} {new = new} {whole = whole} {P = P} {Q = Q} cons w goes less k =
    turn_by loop cons rest new whole P Q w.left w.put w.few w.whole_is w.is_so goes less k

ends_by : {C M T : Type 0} (loop : ℕ → List Token → Outcome M) (rest new : List Token) (whole : Outcome T) (P : (M → T) → Type 0) (t : C → T → Type 0) (x : Result C Stop)
    → (n : ℕ) (put : M → T) → length rest < n → whole ≡ outcome_bind (loop n rest) (λ m r. good (put m) r) → P put
    → ((k : ℕ) → AnswersOutcome (λ v m. (put : M → T) → P put → t v (put m)) x new (loop (suc k) rest)) → AnswersOutcome t x new whole
ends_by loop rest new whole P t x zero put few f p h = absurd (none_below (length rest) few)
ends_by loop rest new whole P t x (suc n) put few f p h =
    rw f (record { holds = put_by (λ v m. (put : _) → P put → t v (put m)) t x new put (loop (suc n) rest) (λ v m k. k put p) (h n).holds })

-- the loop ends, whatever steps are left
pub loop_ends : {C M T : Type 0} {loop : ℕ → List Token → Outcome M} {rest new : List Token} {whole : Outcome T} {P : (M → T) → Type 0} {t : C → T → Type 0} {x : Result C Stop}
    → Loops loop rest whole P → ((k : ℕ) → AnswersOutcome (λ v m. (put : M → T) → P put → t v (put m)) x new (loop (suc k) rest)) → AnswersOutcome t x new whole
loop_ends {loop = loop} {rest = rest} {new = new} {whole = whole} {P = P} {t = t} {x = x} w h =
    ends_by loop rest new whole P t x w.left w.put w.few w.whole_is w.is_so h

-- what is read becomes a part of a text
pub through : {C M T : Type 0} {s : C → M → Type 0} {t : C → T → Type 0} {x : Result C Stop} {rest : List Token} {o : Outcome M} (put : M → T)
    → AnswersOutcome s x rest o → ((v : C) (m : M) → s v m → t v (put m)) → AnswersOutcome t x rest (outcome_bind o (λ m r. good (put m) r))
through {s = s} {t = t} {x = x} {rest = rest} {o = o} put h k = record { holds = put_by s t x rest put o k h.holds }
