-- Trees of accesses that say the same: put together they do so, too.
use Rattle.std.proofs.Common.{◌≡◌, ◌↔◌, ℕ, List, [], ◌∷◌, ◌++◌, ◌⊎◌, inl, inr, refl, ap, sym, ◌∙◌, subst}
use Rattle.dh_plan.specs.declared.plans.Meets.{Meets as Tree}
use Rattle.dh_plan.specs.SeenPlans.{meets_seen, alls, ones}
use Rattle.dh_tree.specs.Meets.{Meets, nothing, access, all, one, In, Distinct, Apart, Before}
use Rattle.dh_accesses.specs.Met.{SameMeets}

both_ways : {A B C D : Type 0} → A ↔ B → C ↔ D → (A ⊎ C) ↔ (B ⊎ D)
both_ways f g = (
  λ x. elim x [ inl a ↦ inl (f.0 a) | inr c ↦ inr (g.0 c) ],
  λ x. elim x [ inl b ↦ inl (f.1 b) | inr d ↦ inr (g.1 d) ],
)

and_ways : {A B C D : Type 0} → A ↔ B → C ↔ D → (A × C) ↔ (B × D)
and_ways f g = ((λ x. (f.0 x.0, g.0 x.1)), (λ x. (f.1 x.0, g.1 x.1)))

none_behind : {A : Type 0} → (A ⊎ ⊥) ↔ A
none_behind = ((λ x. elim x [ inl a ↦ a | inr c ↦ absurd c ]), (λ a. inl a))

pub same_refl : (x : Meets) → SameMeets x x
same_refl x = record { known = λ a. ((λ h. h), (λ h. h)); apart = λ a b. ((λ h. h), (λ h. h)); order = λ a b. ((λ h. h), (λ h. h)); distinct = λ d. d }

pub same_is : (x y : Meets) → x ≡ y → SameMeets x y
same_is x y e = subst (λ z. SameMeets x z) e (same_refl x)

pub same_trans : (x y z : Meets) → SameMeets x y → SameMeets y z → SameMeets x z
same_trans x y z f g = record {
  known = λ a. ((λ h. (g.known a).0 ((f.known a).0 h)), (λ h. (f.known a).1 ((g.known a).1 h)));
  apart = λ a b. ((λ h. (g.apart a b).0 ((f.apart a b).0 h)), (λ h. (f.apart a b).1 ((g.apart a b).1 h)));
  order = λ a b. ((λ h. (g.order a b).0 ((f.order a b).0 h)), (λ h. (f.order a b).1 ((g.order a b).1 h)));
  distinct = λ d. f.distinct (g.distinct d);
}

pub all_same : (a b x y : Meets) → SameMeets a x → SameMeets b y → SameMeets (all a b) (all x y)
all_same a b x y f g = record {
  known = λ n. both_ways (f.known n) (g.known n);
  apart = λ m n. both_ways (f.apart m n) (g.apart m n);
  order = λ m n. both_ways (and_ways (f.known m) (g.known n)) (both_ways (f.order m n) (g.order m n));
  distinct = λ d. ((f.distinct d.0.0, g.distinct d.0.1), (λ n i j. d.1 n ((f.known n).0 i) ((g.known n).0 j)));
}

pub one_same : (a b x y : Meets) → SameMeets a x → SameMeets b y → SameMeets (one a b) (one x y)
one_same a b x y f g = record {
  known = λ n. both_ways (f.known n) (g.known n);
  apart = λ m n. both_ways (both_ways (and_ways (f.known m) (g.known n)) (and_ways (g.known m) (f.known n))) (both_ways (f.apart m n) (g.apart m n));
  order = λ m n. both_ways (and_ways (f.known m) (g.known n)) (both_ways (f.order m n) (g.order m n));
  distinct = λ d. ((f.distinct d.0.0, g.distinct d.0.1), (λ n i j. d.1 n ((f.known n).0 i) ((g.known n).0 j)));
}

-- nothing behind a tree says nothing
pub all_end : (a : Meets) → SameMeets (all a nothing) a
all_end a = record {
  known = λ n. none_behind;
  apart = λ m n. none_behind;
  order = λ m n. (
    (λ h. elim h [ inl p ↦ absurd p.1 | inr q ↦ elim q [ inl r ↦ r | inr s ↦ absurd s ] ]),
    (λ h. inr (inl h)),
  );
  distinct = λ d. ((d, record {}), (λ n i j. j));
}

pub one_end : (a : Meets) → SameMeets (one a nothing) a
one_end a = record {
  known = λ n. none_behind;
  apart = λ m n. (
    (λ h. elim h [ inl p ↦ elim p [ inl q ↦ absurd q.1 | inr q ↦ absurd q.0 ] | inr q ↦ elim q [ inl r ↦ r | inr s ↦ absurd s ] ]),
    (λ h. inr (inl h)),
  );
  order = λ m n. (
    (λ h. elim h [ inl p ↦ absurd p.1 | inr q ↦ elim q [ inl r ↦ r | inr s ↦ absurd s ] ]),
    (λ h. inr (inl h)),
  );
  distinct = λ d. ((d, record {}), (λ n i j. j));
}

-- two parts in a list
pub pair_all : (a b : Meets) → SameMeets (all a (all b nothing)) (all a b)
pair_all a b = all_same a (all b nothing) a b (same_refl a) (all_end b)

pub pair_one : (a b : Meets) → SameMeets (one a (one b nothing)) (one a b)
pair_one a b = one_same a (one b nothing) a b (same_refl a) (one_end b)

-- parts, and what comes behind them
abbrev pub alls_onto : List Tree → Meets → Meets
alls_onto [] rest = rest
alls_onto (t ∷ ts) rest = all (meets_seen t) (alls_onto ts rest)

abbrev pub ones_onto : List Tree → Meets → Meets
ones_onto [] rest = rest
ones_onto (t ∷ ts) rest = one (meets_seen t) (ones_onto ts rest)

pub alls_end : (ts : List Tree) → alls_onto ts nothing ≡ alls ts
alls_end [] = refl
alls_end (t ∷ ts) = ap (λ r. all (meets_seen t) r) (alls_end ts)

pub ones_end : (ts : List Tree) → ones_onto ts nothing ≡ ones ts
ones_end [] = refl
ones_end (t ∷ ts) = ap (λ r. one (meets_seen t) r) (ones_end ts)

pub alls_more : (ts : List Tree) (t : Tree) (rest : Meets) → alls_onto (ts ++ t ∷ []) rest ≡ alls_onto ts (all (meets_seen t) rest)
alls_more [] t rest = refl
alls_more (x ∷ ts) t rest = ap (λ r. all (meets_seen x) r) (alls_more ts t rest)

pub ones_more : (ts : List Tree) (t : Tree) (rest : Meets) → ones_onto (ts ++ t ∷ []) rest ≡ ones_onto ts (one (meets_seen t) rest)
ones_more [] t rest = refl
ones_more (x ∷ ts) t rest = ap (λ r. one (meets_seen x) r) (ones_more ts t rest)
