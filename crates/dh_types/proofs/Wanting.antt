-- Want of memory: where a part of a tree declares a name, the whole does, so that what the part answers holds
-- of the whole.
use Rattle.std.proofs.Common.{◌≡◌, ℕ, zero, suc, ◌+◌, ◌<◌, List, [], ◌∷◌, length, map, get_or, Option, None, Result, Ok, Err, IsErr, is_ok, if◌then◌else◌, Vec, sym, ap, subst, refl, ◌∙◌, arith}
use Rattle.std.specs.Global.{Global}
use Rattle.std.specs.Result.{IsErrAnd, OnOk, MatchResult}
use Rattle.dh_base.specs.declared.lists.NoMemory.{NoMemory}
use Rattle.dh_base.specs.declared.faults.PassFault.{PassFault}
use Rattle.dh_base.specs.declared.faults.PassFault.TheVariants as fault
use Rattle.dh_tree.specs.declared.breaches.Breach.{Breach}
use Rattle.dh_tree.specs.declared.trees.programs.Decl.{Decl}
use Rattle.dh_tree.specs.declared.trees.programs.Function.{Function}
use Rattle.dh_tree.specs.declared.trees.programs.Tree.{Tree}
use Rattle.dh_tree.specs.declared.trees.typed.Typed.{Typed}
use Rattle.dh_tree.specs.Seen.{action_seen, declared_seen, formal_seen, defined_seen, program_seen}
use Rattle.dh_tree.specs.NameCounts.{declared_in, declared_in_functions, names_declared}
use Rattle.dh_types.specs.Walks.{TypingState}
use Rattle.dh_types.specs.Programs.{SettlesKinds}
use Rattle.dh_base.proofs.InPlace.{Unvisited}
use Rattle.dh_tree.proofs.DeclaringParts.{in_left, in_right}

length_map : {A B : Type 0} (f : A → B) (l : List A) → length (map f l) ≡ length l
length_map f [] = refl
length_map f (x ∷ l) = let e = length_map f l in omega (arith, e)

some_functions : (fs : List Function) (i : ℕ) (x : Function) → i < length fs → 0 < length (get_or fs i x).parameters.items + declared_in (action_seen (get_or fs i x).body) → 0 < declared_in_functions (map defined_seen fs)
some_functions [] i x within h = absurd (omega (arith, within))
some_functions (f ∷ fs) zero x within h =
    let e = length_map formal_seen f.parameters.items in
    in_left (length (map formal_seen f.parameters.items) + declared_in (action_seen f.body)) _ (omega (arith, h, e))
some_functions (f ∷ fs) (suc i) x within h = in_right (length (map formal_seen f.parameters.items) + declared_in (action_seen f.body)) _ (some_functions fs i x (omega (arith, within)) h)

-- the function at the index of a walk declares a name
pub some_function : (v : Vec Function Global) (before now : List Function) (i : ℕ) (x : Function) → before ≡ v.items → i < length now → Unvisited before now i
    → 0 < length (get_or now i x).parameters.items + declared_in (action_seen (get_or now i x).body) → 0 < declared_in_functions (map defined_seen v.items)
some_function v before now i x value within u h =
    subst (λ l. 0 < declared_in_functions (map defined_seen l)) value
    (some_functions before i x (omega (arith, within, u.0)) (subst (λ (z : Function). 0 < length z.parameters.items + declared_in (action_seen z.body)) (u.1 i x (omega arith)) h))

-- a last call that promises something where memory is not wanting, and else this is so
pub last_learns : {A P P' Q : Type 0} (r : Result A NoMemory) → OnOk r P → (P → P') → Q → MatchResult r (λ _. P') (λ _. Q)
last_learns (Ok a) h p q = p h
last_learns (Err e) h p q = q

-- a last call that learns a fact
pub last_fact : {P : Type 0} {s a : TypingState} (b : TypingState) (r : Result (Unit {0}) NoMemory) → s ≡ (if is_ok r then a else b) → (s ≡ a → P) → OnOk r P
last_fact b (Ok x) learns p = p learns
last_fact b (Err e) learns p = tt

-- a tree that is settled, but for want of memory
pub unsettled : (t : Tree) (least : Option Breach) (r : Result Typed PassFault) → IsErr r × IsErrAnd r (λ e. e ≡ fault.NoMemory) → least ≡ None → SettlesKinds t least r
unsettled t least (Ok a) h k = absurd (cc h.0)
unsettled t least (Err e) h k = rw h.1 k

module _ (t : Tree) where
  pub some_memories : (ds : List Decl) → ds ≡ t.decls.items → 0 < length ds → 0 < names_declared (program_seen t)
  some_memories ds a h =
      let d = ap (λ l. length l) a ∙ sym (length_map declared_seen t.decls.items) in
      omega (arith, h, d)

  pub some_learned : (fs : List Function) → fs ≡ t.functions.items → 0 < length fs → 0 < names_declared (program_seen t)
  some_learned fs a h =
      let f = ap (λ l. length l) a ∙ sym (length_map defined_seen t.functions.items) in
      omega (arith, h, f)

  pub some_walked : 0 < declared_in_functions (map defined_seen t.functions.items) → 0 < names_declared (program_seen t)
  some_walked h = omega (arith, h)

  pub some_body : 0 < declared_in (action_seen t.body) → 0 < names_declared (program_seen t)
  some_body h = omega (arith, h)
