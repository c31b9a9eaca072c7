-- Where ports begin. By induction on the tree: the ports of an access end within the load of the tree; those of a
-- later access that may meet it begin behind them, since the two part at an `all`, where the load of the first part
-- stands between. Of two accesses one stands before the other, and whether they never meet is decided.
use Rattle.std.proofs.Common.{◌≡◌, ℕ, ◌+◌, ◌≤◌, true, if◌then◌else◌, ◌⊎◌, inl, inr, max, ap, sym, ◌∙◌, arith}
use Rattle.std.specs.Prelude.{◌==◌}
use Rattle.std.proofs.lemmas.Bool.{eqb-true, cases_Bool}
use Rattle.std.proofs.Math.Nat.{le-max_left, le-max_right}
use Rattle.dh_tree.specs.Meets.{Meets, nothing, access, all, one, In, Distinct, Apart, Before, load}
use Rattle.dh_tree.proofs.LargestSums.{in_has, lacks, before_left, before_right}
use Rattle.dh_bind.specs.Begins.{begin}

-- where an access begins, by the part in which it stands
pub begin_first : (charge : ℕ → ℕ) (a : ℕ) (l r : Meets) → In a l → begin charge a (all l r) ≡ begin charge a l
begin_first charge a l r i = ap (λ b. if b then begin charge a l else load charge l + begin charge a r) (in_has l a i)

pub begin_second : (charge : ℕ → ℕ) (a : ℕ) (l r : Meets) → (In a l → ⊥) → begin charge a (all l r) ≡ load charge l + begin charge a r
begin_second charge a l r none = ap (λ b. if b then begin charge a l else load charge l + begin charge a r) (lacks l a none)

pub begin_one_first : (charge : ℕ → ℕ) (a : ℕ) (l r : Meets) → In a l → begin charge a (one l r) ≡ begin charge a l
begin_one_first charge a l r i = ap (λ b. if b then begin charge a l else begin charge a r) (in_has l a i)

pub begin_one_second : (charge : ℕ → ℕ) (a : ℕ) (l r : Meets) → (In a l → ⊥) → begin charge a (one l r) ≡ begin charge a r
begin_one_second charge a l r none = ap (λ b. if b then begin charge a l else begin charge a r) (lacks l a none)

-- the ports of an access end within the load
ends_first : (b c x l r : ℕ) → b ≡ x → x + c ≤ l → b + c ≤ l + r
ends_first b c x l r e h = omega (arith, e, h)

ends_second : (b c x l r : ℕ) → b ≡ l + x → x + c ≤ r → b + c ≤ l + r
ends_second b c x l r e h = omega (arith, e, h)

ends_one_first : (b c x l r : ℕ) → b ≡ x → x + c ≤ l → b + c ≤ max l r
ends_one_first b c x l r e h = let m = le-max_left l r in omega (arith, e, h, m)

ends_one_second : (b c x l r : ℕ) → b ≡ x → x + c ≤ r → b + c ≤ max l r
ends_one_second b c x l r e h = let m = le-max_right l r in omega (arith, e, h, m)

pub ends_within : (charge : ℕ → ℕ) (a : ℕ) (t : Meets) → Distinct t → In a t → begin charge a t + charge a ≤ load charge t
ends_within charge a nothing d i = absurd i
ends_within charge a (access b) d i = let e : charge a ≡ charge b = ap charge i in omega (arith, e)
ends_within charge a (all l r) d (inl i) = ends_first _ _ _ _ _ (begin_first charge a l r i) (ends_within charge a l d.0.0 i)
ends_within charge a (all l r) d (inr i) = ends_second _ _ _ _ _ (begin_second charge a l r (λ j. d.1 a j i)) (ends_within charge a r d.0.1 i)
ends_within charge a (one l r) d (inl i) = ends_one_first _ _ _ _ _ (begin_one_first charge a l r i) (ends_within charge a l d.0.0 i)
ends_within charge a (one l r) d (inr i) = ends_one_second _ _ _ _ _ (begin_one_second charge a l r (λ j. d.1 a j i)) (ends_within charge a r d.0.1 i)

-- those of a later access that may meet it begin behind them
behind_first : (b c x v y : ℕ) → b ≡ x → v ≡ y → x + c ≤ y → b + c ≤ v
behind_first b c x v y e f h = omega (arith, e, f, h)

behind_second : (b c x v y l : ℕ) → b ≡ l + x → v ≡ l + y → x + c ≤ y → b + c ≤ v
behind_second b c x v y l e f h = omega (arith, e, f, h)

behind_both : (b c x v y l : ℕ) → b ≡ x → v ≡ l + y → x + c ≤ l → b + c ≤ v
behind_both b c x v y l e f h = omega (arith, e, f, h)

pub begins_behind : (charge : ℕ → ℕ) (x a : ℕ) (t : Meets) → Distinct t → Before t x a → (Apart t x a → ⊥) → begin charge x t + charge x ≤ begin charge a t
begins_behind charge x a nothing d before may = absurd before
begins_behind charge x a (access b) d before may = absurd before
begins_behind charge x a (all l r) d (inl p) may =
    behind_both _ _ _ _ _ _ (begin_first charge x l r p.0) (begin_second charge a l r (λ j. d.1 a j p.1)) (ends_within charge x l d.0.0 p.0)
begins_behind charge x a (all l r) d (inr (inl p)) may =
    behind_first _ _ _ _ _ (begin_first charge x l r (before_left l x a p)) (begin_first charge a l r (before_right l x a p))
    (begins_behind charge x a l d.0.0 p (λ e. may (inl e)))
begins_behind charge x a (all l r) d (inr (inr p)) may =
    behind_second _ _ _ _ _ _ (begin_second charge x l r (λ j. d.1 x j (before_left r x a p))) (begin_second charge a l r (λ j. d.1 a j (before_right r x a p)))
    (begins_behind charge x a r d.0.1 p (λ e. may (inr e)))
begins_behind charge x a (one l r) d (inl p) may = absurd (may (inl (inl p)))
begins_behind charge x a (one l r) d (inr (inl p)) may =
    behind_first _ _ _ _ _ (begin_one_first charge x l r (before_left l x a p)) (begin_one_first charge a l r (before_right l x a p))
    (begins_behind charge x a l d.0.0 p (λ e. may (inr (inl e))))
begins_behind charge x a (one l r) d (inr (inr p)) may =
    behind_first _ _ _ _ _ (begin_one_second charge x l r (λ j. d.1 x j (before_left r x a p))) (begin_one_second charge a l r (λ j. d.1 a j (before_right r x a p)))
    (begins_behind charge x a r d.0.1 p (λ e. may (inr (inr e))))

-- of two accesses one stands before the other, or they are one
abbrev pub Ordered : Meets → (a b : ℕ) → Type 0
Ordered t a b = (a ≡ b) ⊎ (Before t a b ⊎ Before t b a)

in_left : (l r : Meets) (a b : ℕ) → Ordered l a b → (a ≡ b) ⊎ (((In a l × In b r) ⊎ (Before l a b ⊎ Before r a b)) ⊎ ((In b l × In a r) ⊎ (Before l b a ⊎ Before r b a)))
in_left l r a b (inl e) = inl e
in_left l r a b (inr (inl p)) = inr (inl (inr (inl p)))
in_left l r a b (inr (inr p)) = inr (inr (inr (inl p)))

in_right : (l r : Meets) (a b : ℕ) → Ordered r a b → (a ≡ b) ⊎ (((In a l × In b r) ⊎ (Before l a b ⊎ Before r a b)) ⊎ ((In b l × In a r) ⊎ (Before l b a ⊎ Before r b a)))
in_right l r a b (inl e) = inl e
in_right l r a b (inr (inl p)) = inr (inl (inr (inr p)))
in_right l r a b (inr (inr p)) = inr (inr (inr (inr p)))

pub are_ordered : (t : Meets) (a b : ℕ) → In a t → In b t → Ordered t a b
are_ordered nothing a b i j = absurd i
are_ordered (access c) a b i j = inl (i ∙ sym j)
are_ordered (all l r) a b (inl i) (inl j) = in_left l r a b (are_ordered l a b i j)
are_ordered (all l r) a b (inl i) (inr j) = inr (inl (inl (i, j)))
are_ordered (all l r) a b (inr i) (inl j) = inr (inr (inl (j, i)))
are_ordered (all l r) a b (inr i) (inr j) = in_right l r a b (are_ordered r a b i j)
are_ordered (one l r) a b (inl i) (inl j) = in_left l r a b (are_ordered l a b i j)
are_ordered (one l r) a b (inl i) (inr j) = inr (inl (inl (i, j)))
are_ordered (one l r) a b (inr i) (inl j) = inr (inr (inl (j, i)))
are_ordered (one l r) a b (inr i) (inr j) = in_right l r a b (are_ordered r a b i j)

-- whether two accesses never meet is decided
abbrev pub Decided : Type 0 → Type 0
Decided A = A ⊎ (A → ⊥)

abbrev pub both_decided : {A B : Type 0} → Decided A → Decided B → Decided (A × B)
both_decided (inl a) (inl b) = inl (a, b)
both_decided (inl a) (inr b) = inr (λ p. b p.1)
both_decided (inr a) b = inr (λ p. a p.0)

abbrev pub either_decided : {A B : Type 0} → Decided A → Decided B → Decided (A ⊎ B)
either_decided (inl a) b = inl (inl a)
either_decided (inr a) (inl b) = inl (inr b)
either_decided (inr a) (inr b) = inr (λ p. elim p [ inl q ↦ a q | inr q ↦ b q ])

number_decided : (a b : ℕ) → Decided (a ≡ b)
number_decided a b = elim (cases_Bool (a == b)) [ inl e ↦ inl (eqb-true a b e) | inr e ↦ inr (λ f. (let g : (a == b) ≡ true = eq_is a b f in cc)) ]
  where
    eq_is : (m n : ℕ) → m ≡ n → (m == n) ≡ true
    eq_is m n e = grind (arith, e)

in_decided : (t : Meets) (a : ℕ) → Decided (In a t)
in_decided nothing a = inr (λ i. i)
in_decided (access b) a = number_decided a b
in_decided (all l r) a = either_decided (in_decided l a) (in_decided r a)
in_decided (one l r) a = either_decided (in_decided l a) (in_decided r a)

pub apart_decided : (t : Meets) (a b : ℕ) → Decided (Apart t a b)
apart_decided nothing a b = inr (λ e. e)
apart_decided (access c) a b = inr (λ e. e)
apart_decided (all l r) a b = either_decided (apart_decided l a b) (apart_decided r a b)
apart_decided (one l r) a b =
    either_decided
    (either_decided (both_decided (in_decided l a) (in_decided r b)) (both_decided (in_decided r a) (in_decided l b)))
    (either_decided (apart_decided l a b) (apart_decided r a b))

-- it is the same from both sides
pub apart_turned : (t : Meets) (a b : ℕ) → Apart t a b → Apart t b a
apart_turned nothing a b e = e
apart_turned (access c) a b e = e
apart_turned (all l r) a b (inl e) = inl (apart_turned l a b e)
apart_turned (all l r) a b (inr e) = inr (apart_turned r a b e)
apart_turned (one l r) a b (inl (inl e)) = inl (inr (e.1, e.0))
apart_turned (one l r) a b (inl (inr e)) = inl (inl (e.1, e.0))
apart_turned (one l r) a b (inr (inl e)) = inr (inl (apart_turned l a b e))
apart_turned (one l r) a b (inr (inr e)) = inr (inr (apart_turned r a b e))
