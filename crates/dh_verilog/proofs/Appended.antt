-- Texts that were written one after the other: each step appends to what the last one left, so all
-- together append their texts, grouped to the right.
use Rattle.std.proofs.Common.{◌≡◌, ℕ, List, ◌++◌, ◌∙◌, ap, append_assoc, if◌then◌else◌}
use Rattle.std.specs.Prelude.{Result, Ok, Err, OnOk, is_ok}

-- b was written after a
pub two : (o0 o1 o2 a b : List ℕ) → o1 ≡ o0 ++ a → o2 ≡ o1 ++ b → o2 ≡ o0 ++ (a ++ b)
two o0 o1 o2 a b f e = e ∙ (ap (λ t. t ++ b) f ∙ append_assoc o0 a b)

pub three : (o0 o1 o2 o3 a b c : List ℕ) → o1 ≡ o0 ++ a → o2 ≡ o1 ++ b → o3 ≡ o2 ++ c → o3 ≡ o0 ++ (a ++ (b ++ c))
three o0 o1 o2 o3 a b c p q r = two o0 o1 o3 a (b ++ c) p (two o1 o2 o3 b c q r)

pub four : (o0 o1 o2 o3 o4 a b c d : List ℕ) → o1 ≡ o0 ++ a → o2 ≡ o1 ++ b → o3 ≡ o2 ++ c → o4 ≡ o3 ++ d → o4 ≡ o0 ++ (a ++ (b ++ (c ++ d)))
four o0 o1 o2 o3 o4 a b c d p q r s = two o0 o1 o4 a (b ++ (c ++ d)) p (three o1 o2 o3 o4 b c d q r s)

pub five : (o0 o1 o2 o3 o4 o5 a b c d e : List ℕ) → o1 ≡ o0 ++ a → o2 ≡ o1 ++ b → o3 ≡ o2 ++ c → o4 ≡ o3 ++ d → o5 ≡ o4 ++ e → o5 ≡ o0 ++ (a ++ (b ++ (c ++ (d ++ e))))
five o0 o1 o2 o3 o4 o5 a b c d e p q r s t = two o0 o1 o5 a (b ++ (c ++ (d ++ e))) p (four o1 o2 o3 o4 o5 b c d e q r s t)

-- what a push says where it succeeds
pub pushed : {T E : Type 0} (r : Result T E) (new old s : List ℕ) → new ≡ (if is_ok r then old ++ s else old) → OnOk r (new ≡ old ++ s)
pushed (Ok u) new old s e = e
pushed (Err x) new old s e = tt

-- the same for an equal list
pub moved : {A : Type 0} (text : A → List ℕ) (new old : List ℕ) (t u : A) → t ≡ u → new ≡ old ++ text t → new ≡ old ++ text u
moved text new old t u e h = h ∙ ap (λ x. old ++ text x) e
