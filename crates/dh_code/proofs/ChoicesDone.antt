-- The two arms of an `if` at the paths where its test comes out so, and lists of commands.
use Rattle.std.proofs.Common.{◌≡◌, ℕ, zero, suc, ◌<◌, ◌≤◌, Bool, true, false, if◌then◌else◌, List, [], ◌∷◌, ◌++◌, length, map, drop, take, get_or, Ok, Err, refl, ap, sym, ◌∙◌, subst, append-nil}
use Rattle.std.specs.Prelude.{Result, slice_index_or}
use Rattle.std.proofs.lemmas.List.{map-append, take-append-drop}
use Rattle.dh_meaning.specs.Paths.{Path}
use Rattle.dh_meaning.specs.Core.{CoreTerm, CoreCommand, store, assign, choose, keep, CoreCommands, no_commands, command_and}
use Rattle.dh_meaning.specs.Effects.{Begun, Effect, Variables, at_each, command_run, commands_run, holds_at, paths_where, tested_at}
use Rattle.dh_code.specs.declared.codes.FlatExpression.{FlatExpression}
use Rattle.dh_code.specs.declared.evaluating.StepContext.{StepContext}
use Rattle.dh_code.specs.declared.evaluating.StepStop.{StepStop}
use Rattle.dh_code.specs.declared.running.StepState.{StepState}
use Rattle.dh_code.specs.Coded.{IsFlat}
use Rattle.dh_code.specs.Ranks.{ArePaths, IsPath, ranks_of}
use Rattle.dh_code.specs.Scenes.{begun_in}
use Rattle.dh_code.specs.Slots.{Placing}
use Rattle.dh_code.specs.States.{AreParts, AreRanks, AreRows, Decides, IsAside, IsReadyState, Keeps, KeepsBack, Runs}
use Rattle.dh_code.specs.Suited.{CanEvaluate}
use Rattle.dh_code.proofs.PathLoops.{Going, Grows, go_end, go_first, go_stop, go_turn, no_more_rows, row_at}

-- at no path nothing is done
mutual
  pub nowhere : (b : Begun) (c : CoreCommand) (e : Effect) → command_run b [] c e ≡ e
  nowhere b (store r target value) e = refl
  nowhere b (assign depth entity value) e = refl
  nowhere b (keep depth first values) e = refl
  nowhere b (choose test chosen other) e = ap (λ x. commands_run b [] other x) (all_nowhere b chosen e) ∙ all_nowhere b other e

  pub all_nowhere : (b : Begun) (cs : CoreCommands) (e : Effect) → commands_run b [] cs e ≡ e
  all_nowhere b no_commands e = refl
  all_nowhere b (command_and c cs) e = ap (λ x. commands_run b [] cs x) (nowhere b c e) ∙ all_nowhere b cs e

test_grows : (b : Begun) (t : CoreTerm) (path : Path) (e : Effect) → Grows e (tested_at b t path e)
test_grows b t path e = record { more = _; is = refl }

take_next : {A : Type 0} (xs : List A) (k : ℕ) (x : A) → drop k xs ≡ x ∷ drop (suc k) xs → take (suc k) xs ≡ take k xs ++ x ∷ []
take_next [] zero x e = absurd cc
take_next [] (suc k) x e = absurd cc
take_next (y ∷ xs) zero x e = first e
  where
    first : y ∷ xs ≡ x ∷ xs → y ∷ [] ≡ x ∷ []
    first e = let f : y ≡ x = cc in ap (λ z. z ∷ []) f
take_next (y ∷ xs) (suc k) x e = ap (λ l. y ∷ l) (take_next xs k x e)

where_in : (test : Path → Bool) (xs : List Path) (x : Path) → test x ≡ true → paths_where true test (xs ++ x ∷ []) ≡ paths_where true test xs ++ x ∷ []
where_in test [] x e = ap (λ b. if b then x ∷ [] else []) e
where_in test (y ∷ xs) x e = by (where_in test xs x e) (test y)
  where
    by : paths_where true test (xs ++ x ∷ []) ≡ paths_where true test xs ++ x ∷ [] → (b : Bool) → (if b then y ∷ paths_where true test (xs ++ x ∷ []) else paths_where true test (xs ++ x ∷ [])) ≡ (if b then y ∷ paths_where true test xs else paths_where true test xs) ++ x ∷ []
    by rest true = ap (λ l. y ∷ l) rest
    by rest false = rest

where_out : (test : Path → Bool) (xs : List Path) (x : Path) → test x ≡ false → paths_where true test (xs ++ x ∷ []) ≡ paths_where true test xs
where_out test [] x e = ap (λ b. if b then x ∷ [] else []) e
where_out test (y ∷ xs) x e = ap (λ l. if test y then y ∷ l else l) (where_out test xs x e)

else_in : (test : Path → Bool) (xs : List Path) (x : Path) → test x ≡ false → paths_where false test (xs ++ x ∷ []) ≡ paths_where false test xs ++ x ∷ []
else_in test [] x e = ap (λ b. if b then [] else x ∷ []) e
else_in test (y ∷ xs) x e = by (else_in test xs x e) (test y)
  where
    by : paths_where false test (xs ++ x ∷ []) ≡ paths_where false test xs ++ x ∷ [] → (b : Bool) → (if b then paths_where false test (xs ++ x ∷ []) else y ∷ paths_where false test (xs ++ x ∷ [])) ≡ (if b then paths_where false test xs else y ∷ paths_where false test xs) ++ x ∷ []
    by rest true = rest
    by rest false = ap (λ l. y ∷ l) rest

else_out : (test : Path → Bool) (xs : List Path) (x : Path) → test x ≡ true → paths_where false test (xs ++ x ∷ []) ≡ paths_where false test xs
else_out test [] x e = ap (λ b. if b then [] else x ∷ []) e
else_out test (y ∷ xs) x e = ap (λ l. if test y then l else y ∷ l) (else_out test xs x e)

paths_more : (factors : List ℕ) (ps : List Path) (x : Path) → ArePaths factors ps → IsPath factors x → ArePaths factors (ps ++ x ∷ [])
paths_more factors [] x h i = (i, tt)
paths_more factors (p ∷ ps) x h i = (h.0, paths_more factors ps x h.1 i)

rows_more : (factors : List ℕ) (rows : List (List ℕ)) (ns : List ℕ) (ps : List Path) (n : ℕ) (x : Path) → AreRows factors rows ns ps → AreRanks factors (slice_index_or rows n []) x → AreRows factors rows (ns ++ n ∷ []) (ps ++ x ∷ [])
rows_more factors rows ns ps n x h i = record {
  inside = paths_more factors ps x h.inside i.inside;
  are =
      map-append (λ k. slice_index_or rows k []) ns (n ∷ [])
      ∙ (ap (λ l. l ++ slice_index_or rows n [] ∷ []) h.are
      ∙ (ap (λ l. map (ranks_of factors) ps ++ l ∷ []) i.are ∙ sym (map-append (ranks_of factors) ps (x ∷ []))));
}

-- paths are put on one side or the other, up to one
pub record PartsAt (p : Placing) (s : StepContext) (rows : List (List ℕ)) (factors : List ℕ) (paths : List Path) (t : CoreTerm) (e : Effect) (k : ℕ) (now : StepState) (chosen other : List ℕ) : Type 0 where
  pub going : Going p s (tested_at (begun_in s) t) paths e k now
  pub same : going.effect.variables ≡ e.variables
  pub first : AreRows factors rows chosen (paths_where true (holds_at (begun_in s) e.variables t) (take k paths))
  pub second : AreRows factors rows other (paths_where false (holds_at (begun_in s) e.variables t) (take k paths))

pub record PartsSoFar (s : StepContext) (old : StepState) (rows : List (List ℕ)) (numbers : List ℕ) (f : FlatExpression) (k : ℕ) (now : StepState) (chosen other : List ℕ) : Type 0 where
  pub ready : IsReadyState s now
  pub back : KeepsBack old now
  pub ran : (p : Placing) (factors : List ℕ) (paths : List Path) (t : CoreTerm) → AreRows factors rows numbers paths → IsFlat p.held s.entries.now s.code.now t f → CanEvaluate s.entries.now p factors t
      → (e : Effect) → Keeps p s.entries.now e s.step old → PartsAt p s rows factors paths t e k now chosen other

pub parts_first : (s : StepContext) (old : StepState) (rows : List (List ℕ)) (numbers : List ℕ) (f : FlatExpression) → IsReadyState s old → PartsSoFar s old rows numbers f 0 old [] []
parts_first s old rows numbers f ready = record {
  ready = ready;
  back = record { long = refl; back = refl };
  ran = λ p factors paths t are flat can e k. record {
    going = go_first p s (tested_at (begun_in s) t) paths e old k;
    same = refl;
    first = none factors paths (λ x. holds_at (begun_in s) e.variables t x) true;
    second = none factors paths (λ x. holds_at (begun_in s) e.variables t x) false;
  };
}
  where
    none : (factors : List ℕ) (paths : List Path) (test : Path → Bool) (b : Bool) → AreRows factors rows [] (paths_where b test (take 0 paths))
    none factors [] test b = record { inside = tt; are = refl }
    none factors (p ∷ paths) test b = record { inside = tt; are = refl }

module _ (s : StepContext) (old : StepState) (rows : List (List ℕ)) (numbers : List ℕ) (f : FlatExpression) (k : ℕ) (now : StepState) (chosen other : List ℕ) (i : ℕ) (ranks : List ℕ) (within : k < length numbers) (item : i ≡ get_or numbers k i) (row : ranks ≡ slice_index_or rows i [])
    (g : PartsSoFar s old rows numbers f k now chosen other) where
  row_now : (factors : List ℕ) (paths : List Path) → AreRows factors rows numbers paths → AreRanks factors (slice_index_or rows i []) (get_or paths k [])
  row_now factors paths are = subst (λ (n : ℕ). AreRanks factors (slice_index_or rows n []) (get_or paths k [])) (sym item) (row_at factors rows numbers paths k i are.are are.inside within).0

  rank_now : (factors : List ℕ) (paths : List Path) → AreRows factors rows numbers paths → AreRanks factors ranks (get_or paths k [])
  rank_now factors paths are = subst (λ (l : List ℕ). AreRanks factors l (get_or paths k [])) (sym row) (row_now factors paths are)

  next_paths : (factors : List ℕ) (paths : List Path) → AreRows factors rows numbers paths → take (suc k) paths ≡ take k paths ++ get_or paths k [] ∷ []
  next_paths factors paths are = take_next paths k (get_or paths k []) (row_at factors rows numbers paths k i are.are are.inside within).1

  -- where the test comes out so
  module _ (b : Bool) (new : StepState) (ready : IsReadyState s new) (back : KeepsBack now new) (d : Decides s now (Ok b) new ranks f) where
    abbrev so_far : (p : Placing) (factors : List ℕ) (paths : List Path) (t : CoreTerm) → AreRows factors rows numbers paths → IsFlat p.held s.entries.now s.code.now t f → CanEvaluate s.entries.now p factors t → (e : Effect) → Keeps p s.entries.now e s.step old
        → PartsAt p s rows factors paths t e k now chosen other
    so_far p factors paths t are flat can e h = g.ran p factors paths t are flat can e h

    came : (p : Placing) (factors : List ℕ) (paths : List Path) (t : CoreTerm) (are : AreRows factors rows numbers paths) (flat : IsFlat p.held s.entries.now s.code.now t f) (can : CanEvaluate s.entries.now p factors t) (e : Effect) → PartsAt p s rows factors paths t e k now chosen other
        → holds_at (begun_in s) e.variables t (get_or paths k []) ≡ b
    came p factors paths t are flat can e a =
        ap (λ (v : Variables). holds_at (begun_in s) v t (get_or paths k [])) (sym a.same)
        ∙ (d p factors (get_or paths k []) t (rank_now factors paths are) flat can).1 a.going.effect a.going.keeps

    abbrev goes : (p : Placing) (factors : List ℕ) (paths : List Path) (t : CoreTerm) (are : AreRows factors rows numbers paths) (flat : IsFlat p.held s.entries.now s.code.now t f) (can : CanEvaluate s.entries.now p factors t) (e : Effect) → PartsAt p s rows factors paths t e k now chosen other
        → Going p s (tested_at (begun_in s) t) paths e (suc k) new
    goes p factors paths t are flat can e a =
        go_turn p s (tested_at (begun_in s) t) (test_grows (begun_in s) t) factors rows numbers paths are e k now a.going i within Bool b new
        (d p factors (get_or paths k []) t (rank_now factors paths are) flat can).0

    pub parts_true : b ≡ true → PartsSoFar s old rows numbers f (suc k) new (chosen ++ i ∷ []) other
    parts_true is = record {
      ready = ready;
      back = record { long = back.long ∙ g.back.long; back = back.back ∙ g.back.back };
      ran = λ p factors paths t are flat can e h.
          let a = so_far p factors paths t are flat can e h in
          let holds = came p factors paths t are flat can e a ∙ is in
          record {
            going = goes p factors paths t are flat can e a;
            same = a.same;
            first = subst (λ (l : List Path). AreRows factors rows (chosen ++ i ∷ []) l) (sym (ap (λ l. paths_where true (holds_at (begun_in s) e.variables t) l) (next_paths factors paths are) ∙ where_in (holds_at (begun_in s) e.variables t) (take k paths) (get_or paths k []) holds))
                (rows_more factors rows chosen _ i (get_or paths k []) a.first (row_now factors paths are));
            second = subst (λ (l : List Path). AreRows factors rows other l) (sym (ap (λ l. paths_where false (holds_at (begun_in s) e.variables t) l) (next_paths factors paths are) ∙ else_out (holds_at (begun_in s) e.variables t) (take k paths) (get_or paths k []) holds)) a.second;
          };
    }

    pub parts_false : b ≡ false → PartsSoFar s old rows numbers f (suc k) new chosen (other ++ i ∷ [])
    parts_false is = record {
      ready = ready;
      back = record { long = back.long ∙ g.back.long; back = back.back ∙ g.back.back };
      ran = λ p factors paths t are flat can e h.
          let a = so_far p factors paths t are flat can e h in
          let holds = came p factors paths t are flat can e a ∙ is in
          record {
            going = goes p factors paths t are flat can e a;
            same = a.same;
            first = subst (λ (l : List Path). AreRows factors rows chosen l) (sym (ap (λ l. paths_where true (holds_at (begun_in s) e.variables t) l) (next_paths factors paths are) ∙ where_out (holds_at (begun_in s) e.variables t) (take k paths) (get_or paths k []) holds)) a.first;
            second = subst (λ (l : List Path). AreRows factors rows (other ++ i ∷ []) l) (sym (ap (λ l. paths_where false (holds_at (begun_in s) e.variables t) l) (next_paths factors paths are) ∙ else_in (holds_at (begun_in s) e.variables t) (take k paths) (get_or paths k []) holds))
                (rows_more factors rows other _ i (get_or paths k []) a.second (row_now factors paths are));
          };
    }

    pub parts_either : (chosen' other' : List ℕ) → IsAside b i (chosen, other) (chosen', other') → PartsSoFar s old rows numbers f (suc k) new chosen' other'
    parts_either chosen' other' aside = by b refl aside
      where
        by : (t : Bool) → b ≡ t → IsAside t i (chosen, other) (chosen', other') → PartsSoFar s old rows numbers f (suc k) new chosen' other'
        by true is h =
            subst (λ (l : List ℕ). PartsSoFar s old rows numbers f (suc k) new l other') (sym h.0) (subst (λ (l : List ℕ). PartsSoFar s old rows numbers f (suc k) new (chosen ++ i ∷ []) l) (sym h.1) (parts_true is))
        by false is h =
            subst (λ (l : List ℕ). PartsSoFar s old rows numbers f (suc k) new l other') (sym h.0) (subst (λ (l : List ℕ). PartsSoFar s old rows numbers f (suc k) new chosen l) (sym h.1) (parts_false is))

  pub parts_stop : (A B : Type 0) (x : StepStop) (new new' : StepState) (result : Result B StepStop) → result ≡ Err x
      → ((p : Placing) (factors : List ℕ) (path : Path) (t : CoreTerm) → AreRanks factors ranks path → IsFlat p.held s.entries.now s.code.now t f → CanEvaluate s.entries.now p factors t → Runs {A = A} p s now (Err x) new (tested_at (begun_in s) t path))
      → (p : Placing) (factors : List ℕ) (paths : List Path) (t : CoreTerm) → AreRows factors rows numbers paths → IsFlat p.held s.entries.now s.code.now t f → CanEvaluate s.entries.now p factors t → Runs {A = B} p s old result new' (at_each (tested_at (begun_in s) t) paths)
  parts_stop A B x new new' result stopped d p factors paths t are flat can = λ e h.
      let a = g.ran p factors paths t are flat can e h in
      go_stop p s (tested_at (begun_in s) t) (test_grows (begun_in s) t) factors rows numbers paths are e k now a.going i within A B x new new' result stopped
      (d p factors (get_or paths k []) t (rank_now factors paths are) flat can)

pub parts_end : (s : StepContext) (old : StepState) (rows : List (List ℕ)) (numbers : List ℕ) (f : FlatExpression) (k : ℕ) (now : StepState) (chosen other : List ℕ) → length numbers ≤ k → PartsSoFar s old rows numbers f k now chosen other
    → (p : Placing) (factors : List ℕ) (paths : List Path) (t : CoreTerm) → AreRows factors rows numbers paths → IsFlat p.held s.entries.now s.code.now t f → CanEvaluate s.entries.now p factors t
    → (e : Effect) → Keeps p s.entries.now e s.step old → Keeps p s.entries.now (at_each (tested_at (begun_in s) t) paths e) s.step now × AreParts rows factors paths (holds_at (begun_in s) e.variables t) (chosen, other)
parts_end s old rows numbers f k now chosen other over g p factors paths t are flat can e h =
    let a = g.ran p factors paths t are flat can e h in
    let all : take k paths ≡ paths = sym (append-nil (take k paths)) ∙ (ap (λ l. take k paths ++ l) (sym (no_more_rows factors rows numbers paths k are.are over)) ∙ take-append-drop k paths) in (
      go_end p s (tested_at (begun_in s) t) (test_grows (begun_in s) t) factors rows numbers paths are e k now a.going over,
      (subst (λ (l : List Path). AreRows factors rows chosen (paths_where true (holds_at (begun_in s) e.variables t) l)) all a.first, subst (λ (l : List Path). AreRows factors rows other (paths_where false (holds_at (begun_in s) e.variables t) l)) all a.second),
    )
