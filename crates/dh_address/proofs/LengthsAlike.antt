-- A block and what it becomes have one length: the last value of the one is there when the last value of the other is.
use Rattle.std.proofs.Common.{◌≡◌, ℕ, zero, suc, ◌+◌, ◌-◌, ◌<◌, ◌≤◌, inl, inr, Some, List, Bool, true, false, length, get_or, map, refl, sym, ap, subst, ◌∙◌, arith}
use Rattle.std.specs.Prelude.{[], ◌∷◌, ◌++◌, Option, slice_get, max}
use Rattle.std.specs.List.{AllByRecursion}
use Rattle.std.proofs.lemmas.List.{length-append}
use Rattle.std.proofs.lemmas.Option.{slice_get_cases}
use Rattle.dh_tree.specs.Shapes.{IsProgramTable}
use Rattle.dh_plan.specs.declared.operations.Operation.{Operation}
use Rattle.dh_plan.specs.declared.operations.OperationForm.{OperationForm}
use Rattle.dh_plan.specs.declared.operations.OperationForm.TheVariants.{Constant, Old, Compute, Convert, Select, Check, Probe, Read, Write, Set}
use Rattle.dh_plan.specs.declared.operations.PlanBlock.{PlanBlock}
use Rattle.dh_plan.specs.LegalSchedules.{there_at, there_from, value_clock, greatest_number, needed_clock, last_clock, least_clocks, block_clocks}
use Rattle.dh_plan.specs.Ordered.{operation_takes}
use Rattle.dh_plan.specs.PlainPlans.{PlainPlan, first_in, operations_in}
use Rattle.dh_plan.specs.PlanKinds.{IsFormedBlock}
use Rattle.dh_plan.specs.PlanRuns.{start_at}
use Rattle.dh_plan.specs.SoundPlans.{IsSound}
use Rattle.dh_plan.proofs.LeastLegal.{length_one_more}
use Rattle.dh_rows.specs.Readings.{Readings}
use Rattle.dh_rows.proofs.Growing.{grown_length}
use Rattle.dh_address.proofs.WaySizes.{HasMaps}
use Rattle.dh_address.specs.Images.{IsBlockImage}
use Rattle.dh_address.specs.Pieces.{is_probe_form}
use Rattle.dh_address.specs.Renumbered.{renumbered}
use Rattle.dh_address.proofs.BlockImages.{front, begins, block_known}
use Rattle.dh_address.proofs.BlockEquations.{clock_solved}
use Rattle.dh_address.proofs.ClocksAlike.{SameClock, clocks_step, in_time}
use Rattle.dh_address.proofs.GoodPieces.{AreGoodPieces, good_pieces, GoodPieceOf, good_piece_of}
use Rattle.dh_address.proofs.ImageReadings.{block_readings, behind_front, was_in}
use Rattle.dh_address.proofs.KnownPieces.{AllKnown, IsKnownValue}
use Rattle.dh_address.proofs.PartsOfPieces.{stands_at}
use Rattle.dh_address.proofs.PieceForms.{image_of, around}
use Rattle.dh_address.proofs.PiecesGrow.{piece_grows}
use Rattle.dh_address.proofs.SuitsKnown.{all_two}

-- The last clock.

pub last_most : (os : List Operation) (cs : List ℕ) (bound : ℕ) → ((i : ℕ) (o : Operation) → slice_get os i ≡ Some o → there_at o.form (get_or cs i 0) ≤ bound) → last_clock os cs ≤ bound
last_most [] cs bound h = omega arith
last_most (o ∷ os) [] bound h = omega arith
last_most (o ∷ os) (c ∷ cs) bound h =
    let a : there_at o.form c ≤ bound = h 0 o refl in
    let b = last_most os cs bound (λ i p e. h (suc i) p e) in
    omega (arith, a, b)

pub last_least : (os : List Operation) (cs : List ℕ) (i : ℕ) (o : Operation) → length cs ≡ length os → slice_get os i ≡ Some o → there_at o.form (get_or cs i 0) ≤ last_clock os cs
last_least [] cs i o long e = absurd (cc)
last_least (p ∷ os) [] i o long e = absurd (omega (arith, long))
last_least (p ∷ os) (c ∷ cs) zero o long e =
    let same : p ≡ o = cc in
    subst (λ (u : Operation). there_at u.form c ≤ max (there_at p.form c) (last_clock os cs)) same (omega arith)
last_least (p ∷ os) (c ∷ cs) (suc i) o long e = let l = last_least os cs i o (omega (arith, long)) e in omega (arith, l)

clocks_long : (first : ℕ) (rest before : List Operation) (clocks : List ℕ) → length (least_clocks first before clocks rest) ≡ length clocks + length rest
clocks_long first [] before clocks = omega arith
clocks_long first (o ∷ rest) before clocks =
    let c = needed_clock first before clocks o in
    let l = length_one_more clocks c in
    let r = clocks_long first rest (before ++ o ∷ []) (clocks ++ c ∷ []) in
    omega (arith, l, r)

-- the clock of a value, by its place
value_at : (first : ℕ) (os : List Operation) (cs : List ℕ) (i : ℕ) (o : Operation) → slice_get os i ≡ Some o → value_clock first os cs (first + i) ≡ there_at o.form (get_or cs i 0)
value_at first os cs i o e =
    ap (λ (k : ℕ). there_from (slice_get os k) (get_or cs k 0)) (place first i) ∙ ap (λ (u : Option Operation). there_from u (get_or cs i 0)) e
  where
    place : (f i : ℕ) → f + i - f ≡ i
    place f i = omega arith

abbrev own_clock : (first : ℕ) → List Operation → ℕ → ℕ
own_clock first os v = value_clock first os (least_clocks first [] [] os) v

abbrev own_last : (first : ℕ) → List Operation → ℕ
own_last first os = last_clock os (least_clocks first [] [] os)

value_below : (first : ℕ) (os : List Operation) (i : ℕ) (o : Operation) → slice_get os i ≡ Some o → own_clock first os (first + i) ≤ own_last first os
value_below first os i o e =
    subst (λ (c : ℕ). c ≤ own_last first os) (sym (value_at first os (least_clocks first [] [] os) i o e))
    (last_least os (least_clocks first [] [] os) i o (clocks_long first os [] [] ∙ none (length os)) e)
  where
    none : (n : ℕ) → 0 + n ≡ n
    none n = omega arith

all_below : (first : ℕ) (os : List Operation) (bound : ℕ) → ((i : ℕ) (o : Operation) → slice_get os i ≡ Some o → own_clock first os (first + i) ≤ bound) → own_last first os ≤ bound
all_below first os bound h =
    last_most os (least_clocks first [] [] os) bound (λ i o e. subst (λ (c : ℕ). c ≤ bound) (value_at first os (least_clocks first [] [] os) i o e) (h i o e))

probe_there : (f : OperationForm) (clock : ℕ) → is_probe_form f ≡ true → there_at f clock ≡ clock
probe_there (Constant word) clock e = absurd (cc)
probe_there (Old register) clock e = absurd (cc)
probe_there (Compute op left right) clock e = absurd (cc)
probe_there (Convert inner to) clock e = absurd (cc)
probe_there (Select test a b) clock e = absurd (cc)
probe_there (Check ok fault) clock e = absurd (cc)
probe_there (Probe r fault) clock e = refl
probe_there (Read r) clock e = absurd (cc)
probe_there (Write r value) clock e = absurd (cc)
probe_there (Set register value) clock e = absurd (cc)

most_of_map : (f : ℕ → ℕ) (vs : List ℕ) (bound : ℕ) → AllByRecursion (λ v. f v ≤ bound) vs → greatest_number (map f vs) ≤ bound
most_of_map f [] bound h = omega arith
most_of_map f (v ∷ vs) bound h = let a = h.0 in let b = most_of_map f vs bound h.1 in omega (arith, a, b)

module _ (p : PlainPlan) (maps : HasMaps p) (tables : IsProgramTable p.table) (bs : List PlanBlock) (block : ℕ) (front : List Operation) (begins : length front ≡ first_in (image_of p bs) block)
    (formed : IsFormedBlock p block) (numbers : List ℕ) (known : AllKnown p maps tables bs block front begins formed numbers [] [] 0 (operations_in p block) front) where
  abbrev q : PlainPlan
  q = image_of p bs

  abbrev os : List Operation
  os = operations_in p block

  abbrev all : List Operation
  all = front ++ operations_in q block

  abbrev old_first : ℕ
  old_first = first_in p block

  abbrev first : ℕ
  first = first_in q block

  abbrev x : Readings
  x = block_readings q block (start_at q [] [])

  abbrev Clocks : ℕ → ℕ → Type 0
  Clocks v m = SameClock p maps tables bs block front begins formed known.all_formed v m

  pieces : AreGoodPieces p maps tables bs block front begins formed Clocks [] [] 0 os front
  pieces = good_pieces p maps tables bs block front begins formed Clocks (clocks_step p maps tables bs block front begins formed known.all_formed) os [] [] 0 front numbers known.pieces refl
      (λ v l m h. absurd (past v l m))
    where
      past : (v : ℕ) → old_first ≤ v → v < old_first + 0 → ⊥
      past v l m = omega (arith, l, m)

  -- a value of the new block
  new_below : (m : ℕ) → first ≤ m → m < length all → x.clock m ≤ own_last first (operations_in q block)
  new_below m l k =
      elim (slice_get_cases (operations_in q block) (m - first)).1 [
        | inl found ↦ subst (λ (n : ℕ). x.clock n ≤ own_last first (operations_in q block)) (place first m l) (value_below first (operations_in q block) (m - first) found.0 found.2)
        | inr past ↦ absurd (beyond (length front) first (length (operations_in q block)) m begins l (subst (λ (n : ℕ). m < n) (length-append front (operations_in q block)) k) past.0)
      ]
    where
      place : (f m : ℕ) → f ≤ m → f + (m - f) ≡ m
      place f m l = omega (arith, l)

      beyond : (a f b m : ℕ) → a ≡ f → f ≤ m → m < a + b → b ≤ m - f → ⊥
      beyond a f b m e l k h = omega (arith, e, l, k, h)

  -- no value of the new block comes later than the last of the old one
  new_no_later : (j : ℕ) (u : Operation) → slice_get (operations_in q block) j ≡ Some u → x.clock (first + j) ≤ own_last old_first os
  new_no_later j u e =
      let s = stands_at p maps tables bs block front begins formed known.all_formed Clocks pieces j u e in
      let at = s.of.piece.at in
      let t = (in_time p maps tables bs block front begins formed known.all_formed s.of.numbers s.of.kinds s.place s.operation s.of.old s.of.mid s.of.number at s.of.piece.takes).each
      (length front + j) u s.from (was_in s.of.mid at.grows (length front + j) u s.until (behind_front front (operations_in q block) j ∙ e))
      in
      let l = value_below old_first os s.place s.operation at.there in
      subst (λ (k : ℕ). x.clock (k + j) ≤ own_last old_first os) begins (omega (arith, t, l))

  -- nor the other way
  module _ (i : ℕ) (o : Operation) (e : slice_get os i ≡ Some o) where
    abbrev g : GoodPieceOf p maps tables bs block front begins formed Clocks i o
    g = good_piece_of p maps tables bs block front begins formed Clocks pieces i o e

    abbrev last : ℕ
    last = own_last first (operations_in q block)

    taken_below : AllByRecursion (λ v. own_clock old_first os v ≤ last) (operation_takes o)
    taken_below =
        all_two (λ v. IsKnownValue p maps tables bs block front begins formed (length g.old) v (renumbered old_first g.numbers v)) (λ v. Clocks v (renumbered old_first g.numbers v))
        (λ v. own_clock old_first os v ≤ last) (operation_takes o)
        (λ v k c. (let l = new_below (renumbered old_first g.numbers v) k.begun (within k.before) in omega (arith, l, c))) g.piece.at.known g.piece.takes
      where
        within : {m : ℕ} → m < length g.old → m < length all
        within l =
            let far = grown_length g.mid all g.piece.at.grows in
            let near = grown_length g.old g.mid (piece_grows (around p block g.numbers g.kinds) o g.old g.mid g.number g.piece.at.piece) in
            omega (arith, l, far, near)

    old_no_later : own_clock old_first os (old_first + i) ≤ last
    old_no_later = of (is_probe_form o.form) refl
      where
        of : (b : Bool) → is_probe_form o.form ≡ b → own_clock old_first os (old_first + i) ≤ last
        of true f =
            let at = g.piece.at in
            let c = clock_solved old_first os i o at.there at.early ∙ probe_there o.form (needed_clock old_first os (least_clocks old_first [] [] os) o) f in
            let l = most_of_map (own_clock old_first os) (operation_takes o) last taken_below in
            omega (arith, c, l)
        of false f =
            let t = in_time p maps tables bs block front begins formed known.all_formed g.numbers g.kinds i o g.old g.mid g.number g.piece.at g.piece.takes in
            let l = new_below g.number (t.begun (inr f)) (t.within (inr f)) in
            let c = t.own (inr f) in
            omega (arith, l, c)

  pub length_same : block_clocks q block ≡ block_clocks p block
  length_same = ap suc (both_ways (all_below first (operations_in q block) (own_last old_first os) new_no_later) (all_below old_first os (own_last first (operations_in q block)) old_no_later))
    where
      both_ways : {m n : ℕ} → m ≤ n → n ≤ m → m ≡ n
      both_ways l k = omega (arith, l, k)

pub lengths_same : (p : PlainPlan) (maps : HasMaps p) (sound : IsSound p) (bs : List PlanBlock) → ((block : ℕ) → IsBlockImage p bs block) → (block : ℕ) → block_clocks (image_of p bs) block ≡ block_clocks p block
lengths_same p maps sound bs images block =
    let k = block_known p maps sound.formed bs block (images block) in
    length_same p maps sound.formed.table bs block (front p maps sound.formed bs block) (begins p maps sound.formed bs block) (sound.formed.blocks block) k.numbers k.known
