-- What holds of each value and its new number, if it holds of what an operation takes, and then of the operation: shown
-- piece by piece, for all values of a block that mean something.
use Rattle.std.proofs.Common.{◌≡◌, ℕ, zero, suc, ◌+◌, ◌-◌, ◌<◌, ◌≤◌, ◌⊎◌, inl, inr, Some, List, length, get_or, refl, sym, ap, subst, ◌∙◌, arith}
use Rattle.std.specs.Prelude.{[], ◌∷◌, ◌++◌, slice_get, take}
use Rattle.std.specs.List.{AllByRecursion}
use Rattle.std.proofs.Math.Seq.{get_or-append_seam}
use Rattle.std.proofs.lemmas.Bool.{cases_lt}
use Rattle.dh_value.specs.declared.kinds.Kind.{Kind}
use Rattle.dh_tree.specs.Shapes.{IsProgramTable}
use Rattle.dh_plan.specs.declared.operations.Operation.{Operation}
use Rattle.dh_plan.specs.declared.operations.PlanBlock.{PlanBlock}
use Rattle.dh_plan.specs.Blocks.{StepStart}
use Rattle.dh_plan.specs.Ordered.{operation_takes, IsBetween}
use Rattle.dh_plan.specs.PlainPlans.{PlainPlan, first_in, operations_in}
use Rattle.dh_plan.specs.PlanKinds.{form_kind, IsFormedBlock}
use Rattle.dh_rows.specs.Readings.{Obeys}
use Rattle.dh_address.proofs.WaySizes.{HasMaps}
use Rattle.dh_address.specs.Renumbered.{renumbered}
use Rattle.dh_address.proofs.ImageReadings.{block_readings, obeys_below, FormedBelow}
use Rattle.dh_address.proofs.KnownPieces.{HasMeaning, number_kept, IsPieceAt, AreKnownPieces}
use Rattle.dh_address.proofs.PieceForms.{image_of}
use Rattle.dh_address.proofs.SuitsKnown.{all_two}

module _ (p : PlainPlan) (maps : HasMaps p) (tables : IsProgramTable p.table) (bs : List PlanBlock) (block : ℕ) (front : List Operation) (begins : length front ≡ first_in (image_of p bs) block)
    (formed : IsFormedBlock p block) where
  abbrev q : PlainPlan
  q = image_of p bs

  abbrev os : List Operation
  os = operations_in p block

  abbrev old_first : ℕ
  old_first = first_in p block

  abbrev all : List Operation
  all = front ++ operations_in q block

  take_whole : (ps more : List Operation) → take (length ps) (ps ++ more) ≡ ps
  take_whole [] more = refl
  take_whole (o ∷ ps) more = ap (λ (rs : List Operation). o ∷ rs) (take_whole ps more)

  -- what the block shows obeys all
  pub obeys_all : (s : StepStart) → FormedBelow q block front begins (length all) → Obeys (block_readings q block s) all
  obeys_all s h =
      subst (λ (ps : List Operation). Obeys (block_readings q block s) ps) (taken_all all)
      (obeys_below q block front begins s (length all) (λ n o l m there. (h n o l m there).0))
    where
      no_more : (ps : List Operation) → ps ++ [] ≡ ps
      no_more [] = refl
      no_more (o ∷ ps) = ap (λ (rs : List Operation). o ∷ rs) (no_more ps)

      taken_all : (ps : List Operation) → take (length ps) ps ≡ ps
      taken_all ps = ap (λ (rs : List Operation). take (length ps) rs) (sym (no_more ps)) ∙ take_whole ps []

  module _ (Good : ℕ → ℕ → Type 0) where
    -- it holds of all that this operation takes, and of itself
    pub record IsGoodPiece (ns : List ℕ) (ks : List Kind) (i : ℕ) (o : Operation) (old mid : List Operation) (n : ℕ) : Type 0 where
      pub at : IsPieceAt p maps tables bs block front begins formed ns ks i o old mid n
      pub takes : AllByRecursion (λ v. Good v (renumbered old_first ns v)) (operation_takes o)
      pub own : HasMeaning os old_first (old_first + i) → Good (old_first + i) n

    pub record GoodAndRest (ns : List ℕ) (ks : List Kind) (i : ℕ) (o : Operation) (old : List Operation) (Rest : List Operation → ℕ → Type 0) : Type 0 where
      pub mid : List Operation
      pub number : ℕ
      pub piece : IsGoodPiece ns ks i o old mid number
      pub rest : Rest mid number

    abbrev pub AreGoodPieces : (ns : List ℕ) → List Kind → (i : ℕ) → (rest old : List Operation) → Type 0
    AreGoodPieces ns ks i [] old = all ≡ old
    AreGoodPieces ns ks i (o ∷ rest) old =
        GoodAndRest ns ks i o old (λ mid n. AreGoodPieces (ns ++ n ∷ []) (ks ++ form_kind p.table p.registers old_first ks o.form ∷ []) (suc i) rest mid)

    -- of one operation it follows from what it takes
    abbrev pub IsGoodStep : Type 0
    IsGoodStep =
        (ns : List ℕ) (ks : List Kind) (i : ℕ) (o : Operation) (old mid : List Operation) (n : ℕ) → IsPieceAt p maps tables bs block front begins formed ns ks i o old mid n
        → AllByRecursion (λ v. Good v (renumbered old_first ns v)) (operation_takes o) → HasMeaning os old_first (old_first + i) → Good (old_first + i) n

    abbrev IsGoodBefore : (ns : List ℕ) → (i : ℕ) → Type 0
    IsGoodBefore ns i = (v : ℕ) → old_first ≤ v → v < old_first + i → HasMeaning os old_first v → Good v (renumbered old_first ns v)

    good_next : (step : IsGoodStep) (ns : List ℕ) (ks : List Kind) (i : ℕ) (o : Operation) (old mid : List Operation) (n : ℕ) → IsPieceAt p maps tables bs block front begins formed ns ks i o old mid n
        → length ns ≡ i → IsGoodBefore ns i → IsGoodPiece ns ks i o old mid n × IsGoodBefore (ns ++ n ∷ []) (suc i)
    good_next step ns ks i o old mid n at long before = (record { at = at; takes = takes; own = step ns ks i o old mid n at takes }, next)
      where
        takes : AllByRecursion (λ v. Good v (renumbered old_first ns v)) (operation_takes o)
        takes = all_two (IsBetween old_first (old_first + i)) (HasMeaning os old_first) (λ v. Good v (renumbered old_first ns v)) (operation_takes o)
            (λ v b m. before v b.0 b.1 m) at.early at.meaning

        before_or_own : (f i v : ℕ) → v < f + suc i → (v < f + i) ⊎ (v ≡ f + i)
        before_or_own f i v m = grind arith

        place : (f i : ℕ) → f + i - f ≡ i
        place f i = omega arith

        number_is : renumbered old_first (ns ++ n ∷ []) (old_first + i) ≡ n
        number_is = ap (λ (j : ℕ). get_or (ns ++ n ∷ []) j 0) (place old_first i ∙ sym long) ∙ get_or-append_seam ns n [] 0

        next : IsGoodBefore (ns ++ n ∷ []) (suc i)
        next v l m h = either (before_or_own old_first i v m)
          where
            either : (v < old_first + i) ⊎ (v ≡ old_first + i) → Good v (renumbered old_first (ns ++ n ∷ []) v)
            either (inl b) = subst (λ (j : ℕ). Good v j) (sym (number_kept old_first v ns (n ∷ []) (omega (arith, b, l, long)))) (before v l b h)
            either (inr e) =
                subst (λ (u : ℕ). Good u (renumbered old_first (ns ++ n ∷ []) u)) (sym e)
                (subst (λ (j : ℕ). Good (old_first + i) j) (sym number_is) (step ns ks i o old mid n at takes (subst (λ (u : ℕ). HasMeaning os old_first u) e h)))

    pub good_pieces : (step : IsGoodStep) (rest : List Operation) (ns : List ℕ) (ks : List Kind) (i : ℕ) (old : List Operation) (numbers : List ℕ)
        → AreKnownPieces p maps tables bs block front begins formed ns ks i rest old numbers → length ns ≡ i → IsGoodBefore ns i → AreGoodPieces ns ks i rest old
    good_pieces step [] ns ks i old numbers h long before = h.0
    good_pieces step (o ∷ rest) ns ks i old numbers h long before =
        let one = good_next step ns ks i o old h.mid h.number h.piece long before in
        record {
          mid = h.mid;
          number = h.number;
          piece = one.0;
          rest = good_pieces step rest (ns ++ h.number ∷ []) (ks ++ form_kind p.table p.registers old_first ks o.form ∷ []) (suc i) h.mid numbers h.rest (longer ns h.number ∙ ap suc long) one.1;
        }
      where
        longer : (ns : List ℕ) (n : ℕ) → length (ns ++ n ∷ []) ≡ suc (length ns)
        longer [] n = refl
        longer (m ∷ ns) n = ap suc (longer ns n)

    -- The piece of a place.

    pub record GoodPieceOf (i : ℕ) (o : Operation) : Type 0 where
      pub numbers : List ℕ
      pub kinds : List Kind
      pub old : List Operation
      pub mid : List Operation
      pub number : ℕ
      pub piece : IsGoodPiece numbers kinds i o old mid number

    good_behind : (rest : List Operation) (ns : List ℕ) (ks : List Kind) (i : ℕ) (old : List Operation) → AreGoodPieces ns ks i rest old → (j : ℕ) (o : Operation) → slice_get rest j ≡ Some o
        → GoodPieceOf (i + j) o
    good_behind [] ns ks i old h j o e = absurd (cc)
    good_behind (r ∷ rest) ns ks i old h zero o e =
        let same : r ≡ o = cc in
        subst (λ (k : ℕ). GoodPieceOf k o) (nothing i)
        (subst (λ (u : Operation). GoodPieceOf i u) same (record { numbers = ns; kinds = ks; old = old; mid = h.mid; number = h.number; piece = h.piece }))
      where
        nothing : (i : ℕ) → i ≡ i + 0
        nothing i = omega arith
    good_behind (r ∷ rest) ns ks i old h (suc j) o e =
        subst (λ (k : ℕ). GoodPieceOf k o) (moved i j)
        (good_behind rest (ns ++ h.number ∷ []) (ks ++ form_kind p.table p.registers old_first ks r.form ∷ []) (suc i) h.mid h.rest j o e)
      where
        moved : (i j : ℕ) → suc i + j ≡ i + suc j
        moved i j = omega arith

    pub good_piece_of : AreGoodPieces [] [] 0 os front → (i : ℕ) (o : Operation) → slice_get os i ≡ Some o → GoodPieceOf i o
    good_piece_of h i o e = subst (λ (k : ℕ). GoodPieceOf k o) (nothing i) (good_behind os [] [] 0 front h i o e)
      where
        nothing : (i : ℕ) → 0 + i ≡ i
        nothing i = omega arith

    -- an operation of the new block stands in some piece, from this place on
    pub record StandsInPiece (i n : ℕ) : Type 0 where
      pub place : ℕ
      pub least : i ≤ place
      pub operation : Operation
      pub of : GoodPieceOf place operation
      pub from : length of.old ≤ n
      pub until : n < length of.mid

    -- here, or behind
    stands_or : (ns : List ℕ) (ks : List Kind) (i : ℕ) (o : Operation) (old mid : List Operation) (number : ℕ) → IsGoodPiece ns ks i o old mid number → (n : ℕ) → length old ≤ n
        → (length mid ≤ n → StandsInPiece (suc i) n) → (n < length mid) ⊎ (length mid ≤ n) → StandsInPiece i n
    stands_or ns ks i o old mid number piece n l more (inl k) =
        record { place = i; least = omega arith; operation = o; of = record { numbers = ns; kinds = ks; old = old; mid = mid; number = number; piece = piece }; from = l; until = k }
    stands_or ns ks i o old mid number piece n l more (inr k) =
        let m = more k in
        record { place = m.place; least = (let b = m.least in omega (arith, b)); operation = m.operation; of = m.of; from = m.from; until = m.until }

    pub piece_around : (rest : List Operation) (ns : List ℕ) (ks : List Kind) (i : ℕ) (old : List Operation) → AreGoodPieces ns ks i rest old → (n : ℕ) → length old ≤ n → n < length all → StandsInPiece i n
    piece_around [] ns ks i old h n l m = absurd (past (ap (λ (ps : List Operation). length ps) h))
      where
        past : length all ≡ length old → ⊥
        past e = omega (arith, l, m, e)
    piece_around (r ∷ rest) ns ks i old h n l m =
        stands_or ns ks i r old h.mid h.number h.piece n l
        (λ k. piece_around rest (ns ++ h.number ∷ []) (ks ++ form_kind p.table p.registers old_first ks r.form ∷ []) (suc i) h.mid h.rest n k m) (cases_lt n (length h.mid))

    -- later operations stand in later pieces

    both_rise : (ns : List ℕ) (ks : List Kind) (i : ℕ) (o : Operation) (old mid : List Operation) (number : ℕ) (piece : IsGoodPiece ns ks i o old mid number) (n m : ℕ) (l : length old ≤ n) (k : length old ≤ m)
        (f : length mid ≤ n → StandsInPiece (suc i) n) (g : length mid ≤ m → StandsInPiece (suc i) m) → n ≤ m → ((a : length mid ≤ n) (b : length mid ≤ m) → (f a).place ≤ (g b).place)
        → (c : (n < length mid) ⊎ (length mid ≤ n)) (d : (m < length mid) ⊎ (length mid ≤ m))
        → (stands_or ns ks i o old mid number piece n l f c).place ≤ (stands_or ns ks i o old mid number piece m k g d).place
    unfolding stands_or
    both_rise ns ks i o old mid number piece n m l k f g less more (inl a) (inl b) = omega arith
    both_rise ns ks i o old mid number piece n m l k f g less more (inl a) (inr b) = (let r = (g b).least in omega (arith, r))
    both_rise ns ks i o old mid number piece n m l k f g less more (inr a) (inl b) = absurd (omega (arith, a, b, less))
    both_rise ns ks i o old mid number piece n m l k f g less more (inr a) (inr b) = more a b

    pub around_rises : (rest : List Operation) (ns : List ℕ) (ks : List Kind) (i : ℕ) (old : List Operation) (h : AreGoodPieces ns ks i rest old) (n m : ℕ) (l : length old ≤ n) (a : n < length all)
        (k : length old ≤ m) (b : m < length all) → n ≤ m → (piece_around rest ns ks i old h n l a).place ≤ (piece_around rest ns ks i old h m k b).place
    unfolding piece_around
    around_rises [] ns ks i old h n m l a k b less = absurd (past (ap (λ (ps : List Operation). length ps) h))
      where
        past : length all ≡ length old → ⊥
        past e = omega (arith, l, a, e)
    around_rises (r ∷ rest) ns ks i old h n m l a k b less =
        let next_ns = ns ++ h.number ∷ [] in
        let next_ks = ks ++ form_kind p.table p.registers old_first ks r.form ∷ [] in
        both_rise ns ks i r old h.mid h.number h.piece n m l k (λ c. piece_around rest next_ns next_ks (suc i) h.mid h.rest n c a) (λ c. piece_around rest next_ns next_ks (suc i) h.mid h.rest m c b) less
        (λ c d. around_rises rest next_ns next_ks (suc i) h.mid h.rest n m c a d b less) (cases_lt n (length h.mid)) (cases_lt m (length h.mid))

    -- in one piece they have one number

    both_same : (ns : List ℕ) (ks : List Kind) (i : ℕ) (o : Operation) (old mid : List Operation) (number : ℕ) (piece : IsGoodPiece ns ks i o old mid number) (n m : ℕ) (l : length old ≤ n) (k : length old ≤ m)
        (f : length mid ≤ n → StandsInPiece (suc i) n) (g : length mid ≤ m → StandsInPiece (suc i) m)
        → ((a : length mid ≤ n) (b : length mid ≤ m) → (f a).place ≡ (g b).place → (f a).of.number ≡ (g b).of.number)
        → (c : (n < length mid) ⊎ (length mid ≤ n)) (d : (m < length mid) ⊎ (length mid ≤ m))
        → (stands_or ns ks i o old mid number piece n l f c).place ≡ (stands_or ns ks i o old mid number piece m k g d).place
        → (stands_or ns ks i o old mid number piece n l f c).of.number ≡ (stands_or ns ks i o old mid number piece m k g d).of.number
    unfolding stands_or
    both_same ns ks i o old mid number piece n m l k f g more (inl a) (inl b) e = refl
    both_same ns ks i o old mid number piece n m l k f g more (inl a) (inr b) e = (let r = (g b).least in absurd (omega (arith, r, e)))
    both_same ns ks i o old mid number piece n m l k f g more (inr a) (inl b) e = (let r = (f a).least in absurd (omega (arith, r, e)))
    both_same ns ks i o old mid number piece n m l k f g more (inr a) (inr b) e = more a b e

    pub around_same : (rest : List Operation) (ns : List ℕ) (ks : List Kind) (i : ℕ) (old : List Operation) (h : AreGoodPieces ns ks i rest old) (n m : ℕ) (l : length old ≤ n) (a : n < length all)
        (k : length old ≤ m) (b : m < length all) → (piece_around rest ns ks i old h n l a).place ≡ (piece_around rest ns ks i old h m k b).place
        → (piece_around rest ns ks i old h n l a).of.number ≡ (piece_around rest ns ks i old h m k b).of.number
    unfolding piece_around
    around_same [] ns ks i old h n m l a k b e = absurd (past (ap (λ (ps : List Operation). length ps) h))
      where
        past : length all ≡ length old → ⊥
        past e = omega (arith, l, a, e)
    around_same (r ∷ rest) ns ks i old h n m l a k b e =
        let next_ns = ns ++ h.number ∷ [] in
        let next_ks = ks ++ form_kind p.table p.registers old_first ks r.form ∷ [] in
        both_same ns ks i r old h.mid h.number h.piece n m l k (λ c. piece_around rest next_ns next_ks (suc i) h.mid h.rest n c a) (λ c. piece_around rest next_ns next_ks (suc i) h.mid h.rest m c b)
        (λ c d s. around_same rest next_ns next_ks (suc i) h.mid h.rest n m c a d b s) (cases_lt n (length h.mid)) (cases_lt m (length h.mid)) e

  -- nothing is asked of values
  abbrev pub Anything : ℕ → ℕ → Type 0
  Anything v m = Unit {0}

  pub plain_pieces : (numbers : List ℕ) → AreKnownPieces p maps tables bs block front begins formed [] [] 0 os front numbers → AreGoodPieces Anything [] [] 0 os front
  plain_pieces numbers h = good_pieces Anything (λ ns ks i o old mid n at takes m. tt) os [] [] 0 front numbers h refl (λ v l m k. tt)
