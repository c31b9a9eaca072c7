-- The pieces of a block one after the other: what is known of each as it is put down. All that is put down is formed as
-- it must be, and each value that an operation takes has a number, of an earlier value of its kind.
use Rattle.std.proofs.Common.{◌≡◌, ℕ, zero, suc, ◌+◌, ◌-◌, ◌<◌, ◌≤◌, ◌⊎◌, inl, inr, Some, List, Bool, true, false, ◌||◌, length, get_or, refl, sym, ap, subst, ◌∙◌, arith}
use Rattle.std.specs.Prelude.{[], ◌∷◌, ◌++◌, slice_get}
use Rattle.std.specs.List.{AllByRecursion, list_any}
use Rattle.std.proofs.Math.Seq.{get_or-append_seam}
use Rattle.std.proofs.lemmas.List.{get_or_append_left}
use Rattle.dh_value.specs.declared.kinds.Kind.{Kind}
use Rattle.dh_value.specs.declared.kinds.Kind.TheVariants as kind
use Rattle.dh_tree.specs.Shapes.{IsProgramTable}
use Rattle.dh_plan.specs.declared.operations.Operation.{Operation}
use Rattle.dh_plan.specs.declared.operations.PlanBlock.{PlanBlock}
use Rattle.dh_plan.specs.Ordered.{operation_takes, IsBetween, TakesEarlier}
use Rattle.dh_plan.specs.PlainPlans.{PlainPlan, first_in, operations_in}
use Rattle.dh_plan.specs.PlanKinds.{kind_of_value, form_kind, kinds_behind, kinds_of, OperationSuits, IsFormedBlock}
use Rattle.dh_plan.specs.PlanRuns.{start_at}
use Rattle.dh_plan.proofs.ValuesAlike.{all_map}
use Rattle.dh_rows.specs.Readings.{OperationsGrow}
use Rattle.dh_rows.proofs.Growing.{grown_length}
use Rattle.dh_address.proofs.WaySizes.{HasMaps}
use Rattle.dh_address.specs.Pieces.{any_takes_probe, takes_probe, is_of_probe, is_probe, is_probe_form, IsPiece}
use Rattle.dh_address.specs.Images.{ArePieces}
use Rattle.dh_address.specs.Renumbered.{renumbered}
use Rattle.dh_address.proofs.AccessesPut.{IsInputOf}
use Rattle.dh_address.proofs.BlockEquations.{kind_kept, kinds_longer}
use Rattle.dh_address.proofs.ImageReadings.{timeless, FormedBelow}
use Rattle.dh_address.proofs.PieceForms.{image_of, around, PutsPiece, piece_put}
use Rattle.dh_address.proofs.PiecesGrow.{piece_grows, pieces_grow}
use Rattle.dh_address.proofs.SuitsKnown.{suits_known, all_two}

-- Values of probes.

-- the value of this number means something in the new plan: it is no probe's, or probes' values are taken
abbrev pub HasMeaning : List Operation → (first v : ℕ) → Type 0
HasMeaning os first v = (any_takes_probe os first ≡ true) ⊎ (is_of_probe os first v ≡ false)

neither : (a b : Bool) → (a || b) ≡ false → (a ≡ false) × (b ≡ false)
neither true b e = absurd (cc)
neither false b e = (refl, e)

none_at : {A : Type 0} (test : A → Bool) (xs : List A) (i : ℕ) (v : A) → list_any test xs ≡ false → slice_get xs i ≡ Some v → test v ≡ false
none_at test [] i v e h = absurd (cc)
none_at test (x ∷ xs) zero v e h = let same : x ≡ v = cc in subst (λ y. test y ≡ false) same (neither (test x) (list_any test xs) e).0
none_at test (x ∷ xs) (suc i) v e h = none_at test xs i v (neither (test x) (list_any test xs) e).1 h

all_none : {A : Type 0} (test : A → Bool) (xs : List A) → list_any test xs ≡ false → AllByRecursion (λ (v : A). test v ≡ false) xs
all_none test [] e = tt
all_none test (x ∷ xs) e = let n = neither (test x) (list_any test xs) e in (n.0, all_none test xs n.1)

every : {A : Type 0} (P : A → Type 0) (xs : List A) → ((a : A) → P a) → AllByRecursion P xs
every P [] f = tt
every P (x ∷ xs) f = (f x, every P xs f)

-- what an operation takes means something
pub takes_meaning : (os : List Operation) (first i : ℕ) (o : Operation) → slice_get os i ≡ Some o → AllByRecursion (HasMeaning os first) (operation_takes o)
takes_meaning os first i o there = of (any_takes_probe os first) refl
  where
    of : (t : Bool) → any_takes_probe os first ≡ t → AllByRecursion (HasMeaning os first) (operation_takes o)
    of true e = every (HasMeaning os first) (operation_takes o) (λ v. inl e)
    of false e =
        all_map (λ v. is_of_probe os first v ≡ false) (HasMeaning os first) (operation_takes o) (λ v n. inr n)
        (all_none (is_of_probe os first) (operation_takes o) (none_at (takes_probe os first) os i o e there))

-- Numbers.

numbers_longer : (ns : List ℕ) (n : ℕ) → length (ns ++ n ∷ []) ≡ suc (length ns)
numbers_longer [] n = refl
numbers_longer (m ∷ ns) n = ap suc (numbers_longer ns n)

-- a number that is known stays
pub number_kept : (first v : ℕ) (ns more : List ℕ) → v - first < length ns → renumbered first (ns ++ more) v ≡ renumbered first ns v
number_kept first v ns more h = get_or_append_left ns more 0 (v - first) h

module _ (p : PlainPlan) (maps : HasMaps p) (tables : IsProgramTable p.table) (bs : List PlanBlock) (block : ℕ) (front : List Operation) (begins : length front ≡ first_in (image_of p bs) block)
    (formed : IsFormedBlock p block) where
  abbrev pub q : PlainPlan
  q = image_of p bs

  abbrev pub os : List Operation
  os = operations_in p block

  abbrev pub old_first : ℕ
  old_first = first_in p block

  abbrev pub first : ℕ
  first = first_in q block

  abbrev pub all : List Operation
  all = front ++ operations_in q block

  -- the new value of an old one: an earlier one, of its kind
  pub record IsKnownValue (own v m : ℕ) : Type 0 where
    pub begun : first ≤ m
    pub before : m < own
    pub kind_is : kind_of_value first (kinds_of q block) m ≡ kind_of_value old_first (kinds_of p block) v

  -- what is known before an operation of this place, where these numbers and kinds are known
  pub record IsKnown (ns : List ℕ) (ks : List Kind) (i : ℕ) (rest : List Operation) (old : List Operation) : Type 0 where
    pub there : (j : ℕ) (o : Operation) → slice_get rest j ≡ Some o → slice_get os (i + j) ≡ Some o
    pub numbers_long : length ns ≡ i
    pub kinds_long : length ks ≡ i
    pub kinds_rest : kinds_behind p.table p.registers old_first ks rest ≡ kinds_of p block
    pub begun : first ≤ length old
    pub all_formed : FormedBelow q block front begins (length old)
    pub each : (v : ℕ) → old_first ≤ v → v < old_first + i → HasMeaning os old_first v → IsKnownValue (length old) v (renumbered old_first ns v)

  -- a piece, and what is known of it
  pub record IsPieceAt (ns : List ℕ) (ks : List Kind) (i : ℕ) (o : Operation) (old mid : List Operation) (n : ℕ) : Type 0 where
    pub there : slice_get os i ≡ Some o
    pub numbers_long : length ns ≡ i
    pub begun : first ≤ length old
    pub grows : OperationsGrow mid all
    pub piece : IsPiece (around p block ns ks) o old mid n
    pub early : TakesEarlier old_first (old_first + i) o
    pub meaning : AllByRecursion (HasMeaning os old_first) (operation_takes o)
    pub known : AllByRecursion (λ v. IsKnownValue (length old) v (renumbered old_first ns v)) (operation_takes o)
    pub kinds_same : AllByRecursion (λ v. kind_of_value old_first ks v ≡ kind_of_value old_first (kinds_of p block) v) (operation_takes o)
    pub suits : OperationSuits p old_first ks o

  kind_known : (ns : List ℕ) (ks : List Kind) (i : ℕ) (rest old : List Operation) → IsKnown ns ks i rest old → (v : ℕ) → IsBetween old_first (old_first + i) v
      → kind_of_value old_first ks v ≡ kind_of_value old_first (kinds_of p block) v
  kind_known ns ks i rest old k v b =
      sym (ap (λ (ls : List Kind). kind_of_value old_first ls v) (sym k.kinds_rest) ∙ kind_kept p.table p.registers old_first rest ks (v - old_first) (below k.kinds_long))
    where
      below : length ks ≡ i → v - old_first < length ks
      below l = omega (arith, l, b)

  module _ (ns : List ℕ) (ks : List Kind) (i : ℕ) (o : Operation) (rest : List Operation) (old mid : List Operation) (n : ℕ) (k : IsKnown ns ks i (o ∷ rest) old)
      (piece : IsPiece (around p block ns ks) o old mid n) (grows : OperationsGrow mid all) where
    own_there : slice_get os i ≡ Some o
    own_there = subst (λ (j : ℕ). slice_get os j ≡ Some o) (nothing i) (k.there 0 o refl)
      where
        nothing : (i : ℕ) → i + 0 ≡ i
        nothing i = omega arith

    early : TakesEarlier old_first (old_first + i) o
    early = formed.ordered.each i o own_there

    meaning : AllByRecursion (HasMeaning os old_first) (operation_takes o)
    meaning = takes_meaning os old_first i o own_there

    kinds_same : AllByRecursion (λ v. kind_of_value old_first ks v ≡ kind_of_value old_first (kinds_of p block) v) (operation_takes o)
    kinds_same = all_map (IsBetween old_first (old_first + i)) (λ v. kind_of_value old_first ks v ≡ kind_of_value old_first (kinds_of p block) v) (operation_takes o)
        (λ v b. kind_known ns ks i (o ∷ rest) old k v b) early

    known : AllByRecursion (λ v. IsKnownValue (length old) v (renumbered old_first ns v)) (operation_takes o)
    known = all_two (IsBetween old_first (old_first + i)) (HasMeaning os old_first) (λ v. IsKnownValue (length old) v (renumbered old_first ns v)) (operation_takes o)
        (λ v b m. k.each v b.0 b.1 m) early meaning

    suits : OperationSuits p old_first ks o
    suits = suits_known p old_first (kinds_of p block) ks o (formed.suits i o own_there) kinds_same

    pub piece_at : IsPieceAt ns ks i o old mid n
    piece_at = record {
      there = own_there;
      numbers_long = k.numbers_long;
      begun = k.begun;
      grows = grows;
      piece = piece;
      early = early;
      meaning = meaning;
      known = known;
      kinds_same = kinds_same;
      suits = suits;
    }

    input : (v : ℕ) → IsKnownValue (length old) v (renumbered old_first ns v) → kind_of_value old_first ks v ≡ kind_of_value old_first (kinds_of p block) v
        → IsInputOf (timeless q block (start_at q [] [])) 0 (around p block ns ks) (length old) v
    input v h e = record { earlier = record { begun = h.begun; before = h.before; there = omega arith }; kind_is = h.kind_is ∙ sym e }

    put : PutsPiece p maps tables bs block front begins ns ks mid n ((any_takes_probe os old_first ≡ true) ⊎ (is_probe_form o.form ≡ false)) (form_kind p.table p.registers old_first ks o.form)
    put = piece_put p maps tables bs block front begins ns ks o old mid n piece grows k.begun k.all_formed suits
        (all_two (λ v. IsKnownValue (length old) v (renumbered old_first ns v)) (λ v. kind_of_value old_first ks v ≡ kind_of_value old_first (kinds_of p block) v)
        (IsInputOf (timeless q block (start_at q [] [])) 0 (around p block ns ks) (length old)) (operation_takes o) input known kinds_same)

    -- the kind of the operation itself
    own_kind : form_kind p.table p.registers old_first ks o.form ≡ kind_of_value old_first (kinds_of p block) (old_first + i)
    own_kind =
        sym (ap (λ (j : ℕ). get_or (kinds_of p block) j kind.Bool) (place old_first i)
        ∙ (ap (λ (ls : List Kind). get_or ls i kind.Bool) (sym k.kinds_rest)
        ∙ (kind_kept p.table p.registers old_first rest (ks ++ own ∷ []) i (less k.kinds_long (kinds_longer ks own))
        ∙ (ap (λ (j : ℕ). get_or (ks ++ own ∷ []) j kind.Bool) (sym k.kinds_long) ∙ get_or-append_seam ks own [] kind.Bool))))
      where
        own : Kind
        own = form_kind p.table p.registers old_first ks o.form

        place : (f i : ℕ) → f + i - f ≡ i
        place f i = omega arith

        less : length ks ≡ i → length (ks ++ own ∷ []) ≡ suc (length ks) → i < length (ks ++ own ∷ [])
        less a b = omega (arith, a, b)

    place_probe : is_of_probe os old_first (old_first + i) ≡ is_probe_form o.form
    place_probe = ap (λ (j : ℕ). is_probe (slice_get os j)) (place old_first i) ∙ ap is_probe own_there
      where
        place : (f i : ℕ) → f + i - f ≡ i
        place f i = omega arith

    -- the operation itself is known then
    own_known : HasMeaning os old_first (old_first + i) → IsKnownValue (length mid) (old_first + i) (renumbered old_first (ns ++ n ∷ []) (old_first + i))
    own_known m =
        subst (λ (j : ℕ). IsKnownValue (length mid) (old_first + i) j) (sym number_is)
        (let g = put.given (means m) in record { begun = g.begun; before = g.before; kind_is = g.kind_is ∙ own_kind })
      where
        means : HasMeaning os old_first (old_first + i) → (any_takes_probe os old_first ≡ true) ⊎ (is_probe_form o.form ≡ false)
        means (inl e) = inl e
        means (inr e) = inr (sym place_probe ∙ e)

        place : (f i : ℕ) → f + i - f ≡ i
        place f i = omega arith

        number_is : renumbered old_first (ns ++ n ∷ []) (old_first + i) ≡ n
        number_is = ap (λ (j : ℕ). get_or (ns ++ n ∷ []) j 0) (place old_first i ∙ sym k.numbers_long) ∙ get_or-append_seam ns n [] 0

    next_each : (v : ℕ) → old_first ≤ v → v < old_first + suc i → HasMeaning os old_first v → IsKnownValue (length mid) v (renumbered old_first (ns ++ n ∷ []) v)
    next_each v l m h = either (before_or_own old_first i v m)
      where
        before_or_own : (f i v : ℕ) → v < f + suc i → (v < f + i) ⊎ (v ≡ f + i)
        before_or_own f i v m = grind arith

        near : length ns ≡ i → v < old_first + i → v - old_first < length ns
        near a b = omega (arith, a, b, l)

        either : (v < old_first + i) ⊎ (v ≡ old_first + i) → IsKnownValue (length mid) v (renumbered old_first (ns ++ n ∷ []) v)
        either (inl b) =
            let g = k.each v l b h in
            let longer = grown_length old mid (piece_grows (around p block ns ks) o old mid n piece) in
            subst (λ (j : ℕ). IsKnownValue (length mid) v j) (sym (number_kept old_first v ns (n ∷ []) (near k.numbers_long b)))
            (record { begun = g.begun; before = (let c = g.before in omega (arith, c, longer)); kind_is = g.kind_is })
        either (inr e) =
            subst (λ (u : ℕ). IsKnownValue (length mid) u (renumbered old_first (ns ++ n ∷ []) u)) (sym e) (own_known (subst (λ (u : ℕ). HasMeaning os old_first u) e h))

    pub known_next : IsKnown (ns ++ n ∷ []) (ks ++ form_kind p.table p.registers old_first ks o.form ∷ []) (suc i) rest mid
    known_next = record {
      there = λ j r e. subst (λ (m : ℕ). slice_get os m ≡ Some r) (moved i j) (k.there (suc j) r e);
      numbers_long = numbers_longer ns n ∙ ap suc k.numbers_long;
      kinds_long = kinds_longer ks _ ∙ ap suc k.kinds_long;
      kinds_rest = k.kinds_rest;
      begun = (let longer = grown_length old mid (piece_grows (around p block ns ks) o old mid n piece) in let b = k.begun in omega (arith, longer, b));
      all_formed = put.formed;
      each = next_each;
    }
      where
        moved : (i j : ℕ) → i + suc j ≡ suc i + j
        moved i j = omega arith

  -- All pieces.

  -- a piece, and the rest
  pub record PieceAndRest (ns : List ℕ) (ks : List Kind) (i : ℕ) (o : Operation) (old : List Operation) (Rest : List Operation → ℕ → Type 0) : Type 0 where
    pub mid : List Operation
    pub number : ℕ
    pub piece : IsPieceAt ns ks i o old mid number
    pub rest : Rest mid number

  abbrev pub AreKnownPieces : (ns : List ℕ) → List Kind → (i : ℕ) → (rest old : List Operation) → (numbers : List ℕ) → Type 0
  AreKnownPieces ns ks i [] old numbers = (all ≡ old) × (numbers ≡ ns)
  AreKnownPieces ns ks i (o ∷ rest) old numbers =
      PieceAndRest ns ks i o old (λ mid n. AreKnownPieces (ns ++ n ∷ []) (ks ++ form_kind p.table p.registers old_first ks o.form ∷ []) (suc i) rest mid numbers)

  pub record AllKnown (numbers : List ℕ) (ns : List ℕ) (ks : List Kind) (i : ℕ) (rest old : List Operation) : Type 0 where
    pub pieces : AreKnownPieces ns ks i rest old numbers
    pub all_formed : FormedBelow q block front begins (length all)
    pub each : (v : ℕ) → old_first ≤ v → v < old_first + (i + length rest) → HasMeaning os old_first v → IsKnownValue (length all) v (renumbered old_first numbers v)
    pub kept : (j : ℕ) → j < i → get_or numbers j 0 ≡ get_or ns j 0
    pub long : length numbers ≡ i + length rest

  pub all_known : (rest : List Operation) (ns : List ℕ) (ks : List Kind) (i : ℕ) (old : List Operation) (numbers : List ℕ) → ArePieces p.registers (around p block ns ks) rest old all numbers
      → IsKnown ns ks i rest old → AllKnown numbers ns ks i rest old
  all_known [] ns ks i old numbers h k = record {
    pieces = h;
    all_formed = subst (λ (ps : List Operation). FormedBelow q block front begins (length ps)) (sym h.0) k.all_formed;
    each = λ v l m e.
        subst (λ (ps : List Operation). IsKnownValue (length ps) v (renumbered old_first numbers v)) (sym h.0)
        (subst (λ (ms : List ℕ). IsKnownValue (length old) v (renumbered old_first ms v)) (sym h.1) (k.each v l (omega (arith, m)) e));
    kept = λ j l. ap (λ (ms : List ℕ). get_or ms j 0) h.1;
    long = ap (λ (ms : List ℕ). length ms) h.1 ∙ (k.numbers_long ∙ omega arith);
  }
  all_known (o ∷ rest) ns ks i old numbers h k =
      let grows = pieces_grow p.registers rest (around p block (ns ++ h.number ∷ []) (ks ++ form_kind p.table p.registers old_first ks o.form ∷ [])) h.mid all numbers h.rest in
      let more = all_known rest (ns ++ h.number ∷ []) (ks ++ form_kind p.table p.registers old_first ks o.form ∷ []) (suc i) h.mid numbers h.rest
      (known_next ns ks i o rest old h.mid h.number k h.piece grows)
      in
      record {
        pieces = record { mid = h.mid; number = h.number; piece = piece_at ns ks i o rest old h.mid h.number k h.piece grows; rest = more.pieces };
        all_formed = more.all_formed;
        each = λ v l m e. more.each v l (omega (arith, m)) e;
        kept = λ j l. more.kept j (omega (arith, l)) ∙ get_or_append_left ns (h.number ∷ []) 0 j (let n = k.numbers_long in omega (arith, n, l));
        long = more.long ∙ omega arith;
      }
