-- The bank that indices reach in a step is the one that is told of their path, whatever the turns of the loops: an index on
-- which the bank depends is a number, or an iterator with a number, and shows what the program has there.
use Rattle.std.proofs.Common.{◌≡◌, ℕ, zero, suc, ◌+◌, ◌-◌, ◌*◌, ◌/◌, ◌%◌, ◌^◌, ◌<◌, ◌≤◌, List, Some, None, refl, sym, ap, ◌∙◌, subst, arith, add-one}
use Rattle.std.specs.Prelude.{Bool, true, false, if◌then◌else◌, ◌==◌, ◌&&◌, ◌||◌, not, nat_le, nat_lt, [], ◌∷◌, ◌++◌, map, take, slice_get, slice_index, slice_index_or, Option, ℤ, pos, neg_ℤ, ◌+ℤ◌, unsigned_abs}
use Rattle.std.specs.List.{AllByRecursion}
use Rattle.std.proofs.Math.Nat.{mod-lt}
use Rattle.std.proofs.lemmas.Bool.Decides.{nat_tests}
use Rattle.dh_base.specs.declared.places.Place.{Place}
use Rattle.dh_value.specs.declared.kinds.Kind.{Kind}
use Rattle.dh_value.specs.declared.kinds.Kind.TheVariants as kind
use Rattle.dh_value.specs.declared.operators.Op.{Op}
use Rattle.dh_value.specs.declared.operators.Op.TheVariants as op
use Rattle.dh_value.specs.declared.words.Word.{Word}
use Rattle.dh_value.specs.Words as words
use Rattle.dh_value.specs.Words.{IsInteger, IsKind, IsWord, with_bits, word_of}
use Rattle.dh_value.specs.Operations.{binary_of}
use Rattle.dh_value.proofs.Values.{integer_width}
use Rattle.dh_value.proofs.WordLaws.{word_again}
use Rattle.dh_tree.specs.declared.tables.Dim.{Dim}
use Rattle.dh_tree.specs.declared.trees.counters.Counter.{Counter}
use Rattle.dh_tree.specs.declared.trees.expressions.Ref.{Ref}
use Rattle.dh_tree.specs.Counters.{counter_in, counters_of}
use Rattle.dh_tree.specs.Elements.{Spot, bank_of, banks_of}
use Rattle.dh_tree.specs.Indices.{IndexKind, constant, iterator, dynamic, counted, form_of, one_index_breaches, index_kind, indices_breaches, sum_kind}
use Rattle.dh_tree.specs.Kinds.{found, signed_number, same_kind}
use Rattle.dh_tree.specs.Memories.{same_entity}
use Rattle.dh_tree.specs.PlainTrees as plain
use Rattle.dh_tree.specs.Seen.{program_seen}
use Rattle.dh_tree.specs.Shapes.{IsDim}
use Rattle.dh_tree.proofs.BankElements.{place_below}
use Rattle.dh_meaning.specs.AccessNumbers.{term_accesses}
use Rattle.dh_meaning.specs.Bindings.{kind_or_first}
use Rattle.dh_meaning.specs.CoreOf.{core_term, depth_of, entity_number}
use Rattle.dh_meaning.specs.Effects.{Variables, value_of_term}
use Rattle.dh_meaning.specs.Paths.{Path}
use Rattle.dh_meets.specs.Charges.{index_in, level_of_loop}
use Rattle.dh_code.specs.Extended.{extension_of}
use Rattle.dh_code.specs.declared.places.VariableSlots.{VariableSlots}
use Rattle.dh_code.specs.Slots.{held_at}
use Rattle.dh_plan.specs.Blocks.{numbers_at, spot_in_row, spot_of_reach}
use Rattle.dh_plan.specs.declared.operations.OperationForm.TheVariants.{Compute, Constant, Convert}
use Rattle.dh_sound.specs.IndexValues.{AllHaveIndexKinds, AnyLoop, AreSumOperands, FormInTurn, HasIndexKinds, HasIntegerKind, IsInTurn, IsIndexValue, NameInTurn, copy_at}
use Rattle.dh_sound.proofs.BanksReached.{index_bank, spot_row}
use Rattle.dh_sound.proofs.ValuesOfIndices.{index_value}
use Rattle.dh_expressions.specs.declared.accesses.Accesses.{Accesses}
use Rattle.dh_expressions.specs.declared.drafts.Draft.{Draft}
use Rattle.dh_expressions.specs.declared.elements.Aim.{Aim}
use Rattle.dh_expressions.specs.declared.paths.Level.{Level}
use Rattle.dh_expressions.specs.declared.scenes.Lane.{Lane}
use Rattle.dh_expressions.specs.declared.scenes.Scene.{Scene}
use Rattle.dh_expressions.specs.Drafted.{BlockBegun, Extends, FitsStep, BlockStep, word_shown}
use Rattle.dh_expressions.specs.Evaluated.{IsTurning, begun_of, copy_in_turn, counter_of, known_in, lane_path}
use Rattle.dh_expressions.specs.Levels.{copy_number, copy_to, last_number, path_at}
use Rattle.dh_expressions.specs.MadeTerms.{MadeTerm, MadeTerms}
use Rattle.dh_expressions.specs.MadeValues.{MadeBy, MadeConverted, MadeExtended, MadeOperation}
use Rattle.dh_expressions.specs.Numbers.{narrowed}
use Rattle.dh_expressions.specs.ReachedBanks.{index_first, indices_first, level_with}
use Rattle.dh_expressions.specs.Reaching.{reach_told}
use Rattle.dh_expressions.specs.Shown.{extended_shown, is_kept, is_read_term, kind_written}
use Rattle.dh_expressions.proofs.Evaluating.{extended_same, extended_word, operation_value}
use Rattle.dh_expressions.proofs.ListPlaces.{some_same}
use Rattle.dh_expressions.proofs.Pushing.{begun_later, computes, fits_before, pushed_extends}
use Rattle.dh_formed.proofs.ValuesFormed.{operation_forms}
use Rattle.dh_blocks.proofs.KindsOfValues.{IsWordOf, bits_small, kinds_same, of_word}
use Rattle.dh_laid.specs.LaidQuiet.{BlockStandsIn}
use Rattle.dh_laid.proofs.AccessesLaid.{converted_extends, same_extends, term_lays, terms_lay}
use Rattle.dh_reached.specs.IndicesKept.{AllTurn, CounterTurns, IndexTurns, IndicesKeep, NameTurns}

-- Levels as loops.

abbrev loops_of : List Level → List Counter
loops_of levels = map (λ (l : Level). record { entity = l.entity; low = 0; high = 0; factor = l.factor }) levels

level_same : (levels : List Level) (entity : Option ℕ) → level_of_loop (loops_of levels) entity ≡ level_with levels entity
level_same [] entity = refl
level_same (l ∷ ls) entity = by (same_entity l.entity entity) (level_same ls entity)
  where
    by : (b : Bool) → level_of_loop (loops_of ls) entity ≡ level_with ls entity → (if b then 0 else suc (level_of_loop (loops_of ls) entity)) ≡ (if b then 0 else level_with ls entity + 1)
    by true rest = refl
    by false rest = ap suc rest ∙ sym (add-one (level_with ls entity))

copy_there : (levels : List Level) (n i : ℕ) → slice_index_or (path_at levels n) i 0 ≡ copy_to (slice_get levels i) n
copy_there [] n i = refl
copy_there (l ∷ ls) n zero = refl
copy_there (l ∷ ls) n (suc i) = copy_there ls n i

copy_same : (levels : List Level) (n : ℕ) (entity : Option ℕ) → slice_index_or (path_at levels n) (level_of_loop (loops_of levels) entity) 0 ≡ copy_to (slice_get levels (level_with levels entity)) n
copy_same levels n entity = ap (λ i. slice_index_or (path_at levels n) i 0) (level_same levels entity) ∙ copy_there levels n (level_with levels entity)

index_same : (levels : List Level) (n : ℕ) (k : IndexKind) → index_in (loops_of levels) (path_at levels n) k ≡ index_first levels n k
index_same levels n (constant z) = refl
index_same levels n (iterator c offset) = ap (λ (m : ℕ). unsigned_abs (pos (c.low + m) +ℤ offset)) (copy_same levels n c.entity)
index_same levels n dynamic = refl

copy_below : (levels : List Level) (n i factor : ℕ) → 1 ≤ factor → (l : Level) × ((slice_get levels i ≡ Some l) × (l.factor ≡ factor)) → copy_to (slice_get levels i) n < factor
copy_below levels n i factor some (l, (at, same)) =
    subst (λ (o : Option Level). copy_to o n < factor) (sym at) (subst (λ (f : ℕ). copy_number l n < f) same (by ((l.stride == 0) || (l.factor == 0))))
  where
    least : 1 ≤ l.factor
    least = omega (arith, some, same)

    by : (b : Bool) → (if b then 0 else (n / l.stride) % l.factor) < l.factor
    by true = least
    by false = mod-lt (n / l.stride) {m = l.factor} least

last_is : (levels : List Level) (depth n i : ℕ) → depth ≡ suc i → last_number levels depth n ≡ copy_to (slice_get levels i) n
last_is levels depth n i e = by (depth == 0) (test depth i e)
  where
    test : (d i : ℕ) → d ≡ suc i → (d == 0) ≡ false
    test d i e = grind (arith, nat_tests, e)

    by : (b : Bool) → b ≡ false → (if b then 0 else copy_to (slice_get levels (depth - 1)) n) ≡ copy_to (slice_get levels i) n
    by true e = absurd (cc)
    by false f = let less : depth - 1 ≡ i = omega (arith, e) in ap (λ k. copy_to (slice_get levels k) n) less

-- Words.

kept_of_word : (t : plain.Term) (to : Kind) (w : Word) → IsWordOf (kind_written t) w → is_kept t to ≡ true → word_of to (words.value_of w) ≡ w
kept_of_word t to w h kept =
    let is : w.kind ≡ to = h.kind_is ∙ kinds_same (kind_written t) to (first_of (same_kind (kind_written t) to) (is_read_term t) kept) in
    ap (λ k. word_of k (words.value_of w)) (sym is) ∙ word_again w h.word
  where
    first_of : (a b : Bool) → (a && not b) ≡ true → a ≡ true
    first_of true b e = refl
    first_of false b e = cc

converted_shows : (x : BlockStep) (kept : Bool) (to : Kind) (value : ℕ) (old new : Draft) (v : ℕ) → MadeConverted kept to value old new v → FitsStep x new → BlockBegun x old
    → word_shown x v ≡ (if kept then word_shown x value else word_of to (words.value_of (word_shown x value)))
converted_shows x true to value old new v m f b = ap (λ n. word_shown x n) m.1
converted_shows x false to value old new v m f b = (computes old new v (Convert value to) m (λ s first ws. refl)).is x f b

extended_shows : (x : BlockStep) (t : plain.Term) (to : Kind) (value : ℕ) (old new : Draft) (v : ℕ) → MadeExtended t to value old new v → FitsStep x new → BlockBegun x old → word_shown x v ≡ extended_shown t to (word_shown x value)
extended_shows x t kind.Bool value old new v m f b = ap (λ n. word_shown x n) m.1
extended_shows x t (kind.Unsigned w) value old new v m f b = converted_shows x (is_kept t (kind.Unsigned w)) (kind.Unsigned w) value old new v m f b
extended_shows x t (kind.Signed w) value old new v m f b = converted_shows x (is_kept t (kind.Signed w)) (kind.Signed w) value old new v m f b

extended_extends : (t : plain.Term) (to : Kind) (value : ℕ) (old new : Draft) (v : ℕ) → MadeExtended t to value old new v → Extends old new
extended_extends t kind.Bool value old new v m = same_extends old new m.0
extended_extends t (kind.Unsigned w) value old new v m = converted_extends (is_kept t (kind.Unsigned w)) (kind.Unsigned w) value old new v m
extended_extends t (kind.Signed w) value old new v m = converted_extends (is_kept t (kind.Signed w)) (kind.Signed w) value old new v m

abbrev extension_by : Op → (left right : plain.Term) → Kind
extension_by o left right = extension_of o (kind_written left) (kind_written right)

operation_shows : (x : BlockStep) (o : Op) (left right : plain.Term) (a b : ℕ) (old new : Draft) (v : ℕ) → MadeOperation o left right a b old new v → FitsStep x new → BlockBegun x old
    → word_shown x v ≡ binary_of o (extended_shown left (extension_by o left right) (word_shown x a)) (extended_shown right (extension_by o left right) (word_shown x b))
operation_shows x o left right a b old new v m f s =
    let pushed = pushed_extends m.second new v None (Compute o m.x m.y) m.pushes in
    let f2 = fits_before m.second new x pushed f in
    let one = extended_extends left (extension_by o left right) a old m.first m.x m.left_made in
    let two = extended_extends right (extension_by o left right) b m.first m.second m.y m.right_made in
    let f1 = fits_before m.first m.second x two f2 in
    let s1 = begun_later old m.first x one s in
    let s2 = begun_later m.first m.second x two s1 in
    (computes m.second new v (Compute o m.x m.y) m.pushes (λ s first ws. refl)).is x f s2
    ∙ (ap (λ w. binary_of o w (word_shown x m.y)) (extended_shows x left (extension_by o left right) a old m.first m.x m.left_made f1 s)
    ∙ ap (λ w. binary_of o (extended_shown left (extension_by o left right) (word_shown x a)) w) (extended_shows x right (extension_by o left right) b m.first m.second m.y m.right_made f2 s1))

-- Which sums are told: of a name and a number.

abbrev is_told : plain.TermForm → plain.TermForm → Bool
is_told (plain.named r) (plain.number negative z) = true
is_told (plain.number negative z) (plain.named r) = true
is_told f g = false

-- Expressions that show what the program has.

module _ (x : BlockStep) (scene : Scene) (lane : Lane) (stands : BlockStandsIn scene lane.around) (current : List (Option ℕ)) where
  abbrev levels : List Level
  levels = lane.around.levels.now

  abbrev cs : List Counter
  cs = counters_of (program_seen scene.program.now)

  abbrev held_value : Option Counter → VariableSlots → ℤ
  held_value None held = pos 0
  held_value (Some c) held = pos (c.low + slice_index x.start.registers held.first * c.factor + copy_in_turn c held lane)

  abbrev vars : Variables
  vars entity path = held_value (counter_of scene entity) (held_at scene.held.now entity)

  abbrev Made : plain.Term → (old new : Draft) → (before after : Accesses) → (n next v : ℕ) → Type 0
  Made t old new before after n next v = MadeTerm scene lane current t old new before after n next v

  abbrev worth : (m : ℕ) → plain.Term → Word
  worth m t = value_of_term (begun_of x) vars (lane_path lane) (core_term (known_in scene) m t)

  abbrev ShowsTerm : plain.Term → Type 0
  ShowsTerm t = (old new : Draft) (before after : Accesses) (n next v m : ℕ) → Made t old new before after n next v → FitsStep x new → BlockBegun x old → word_shown x v ≡ worth m t

  number_shows : (place : Place) (k : Option Kind) (negative : Bool) (z : ℕ) → IsKind (kind_or_first k) → ShowsTerm (plain.term place k (plain.number negative z))
  number_shows place k negative z sized old new before after n next v m made f b =
      (computes old new v (Constant made.part.word) made.part.pushes (λ s first ws. refl)).is x f b ∙ made.part.is sized

  by_counter : (o : Option Counter) (held : VariableSlots) (k : Kind) (old new : Draft) (v : ℕ) (c : Counter) → MadeBy o held lane current k old new v → o ≡ Some c → IsTurning x c held k → FitsStep x new → BlockBegun x old → word_shown x v ≡ word_of k (held_value o held)
  by_counter None held k old new v c m e t f b = absurd (cc)
  by_counter (Some d) held k old new v c m e t f b = m.1.is x f b (subst (λ (a : Counter). IsTurning x a held k) (sym (some_same d c e)) t)

  -- what a name of an iterator is in its turn
  entity_is : (r : Ref) (t : NameTurns x scene levels r) → entity_number r.entity ≡ t.entity
  entity_is r t = ap entity_number t.resolved

  counter_is : (r : Ref) (t : NameTurns x scene levels r) (c : Counter) → counter_in cs r.entity ≡ Some c → counter_of scene t.entity ≡ Some c
  counter_is r t c e = ap (λ o. counter_in cs o) (sym t.resolved) ∙ e

  named_shows : (place : Place) (k : Option Kind) (r : Ref) (t : NameTurns x scene levels r) (c : Counter) → counter_in cs r.entity ≡ Some c → IsInteger (kind_or_first k) → ShowsTerm (plain.term place k (plain.named r))
  named_shows place k r t c e integer old new before after n next v m made f b =
      let is = counter_is r t c e in
      let turns = t.turns c is in
      by_counter (counter_of scene (entity_number r.entity)) (held_at scene.held.now (entity_number r.entity)) (kind_or_first k) old new v c made.part (ap (λ i. counter_of scene i) (entity_is r t) ∙ is)
      (subst (λ (i : ℕ). IsTurning x c (held_at scene.held.now i) (kind_or_first k)) (sym (entity_is r t)) (record { integer = integer; width = turns.width; counter = turns.counter; below = turns.below })) f b

  in_turn : (r : Ref) (t : NameTurns x scene levels r) (path : Path) (c : Counter) → counter_in cs r.entity ≡ Some c → IsInTurn (loops_of levels) (lane_path lane) c (vars (entity_number r.entity) path)
  in_turn r t path c e = subst (λ (i : ℕ). IsInTurn (loops_of levels) (lane_path lane) c (vars i path)) (sym (entity_is r t)) (by (counter_of scene t.entity) is)
    where
      is : counter_of scene t.entity ≡ Some c
      is = counter_is r t c e

      turns : CounterTurns x c (held_at scene.held.now t.entity) levels
      turns = t.turns c is

      level : ℕ
      level = level_with levels c.entity

      copies : copy_in_turn c (held_at scene.held.now t.entity) lane ≡ copy_at (loops_of levels) (lane_path lane) c
      copies = either (nat_lt 1 c.factor) (nat_le c.factor 1) refl (opposite c.factor)
        where
          opposite : (f : ℕ) → nat_le f 1 ≡ not (nat_lt 1 f)
          opposite f = grind (arith, nat_tests)

          either : (a b : Bool) → nat_lt 1 c.factor ≡ a → b ≡ not a
              → (if b then 0 else last_number levels (held_at scene.held.now t.entity).depth lane.number) ≡ (if a then slice_index_or (lane_path lane) (level_of_loop (loops_of levels) c.entity) 0 else 0)
          either true true is same = absurd (cc)
          either true false is same = last_is levels (held_at scene.held.now t.entity).depth lane.number (level_with levels c.entity) (turns.deep is) ∙ sym (copy_same levels lane.number c.entity)
          either false true is same = refl
          either false false is same = absurd (cc)

      small : copy_at (loops_of levels) (lane_path lane) c < c.factor
      small = either (nat_lt 1 c.factor) refl
        where
          some : 1 ≤ c.factor
          some = turns.copies

          either : (a : Bool) → nat_lt 1 c.factor ≡ a → (if a then slice_index_or (lane_path lane) (level_of_loop (loops_of levels) c.entity) 0 else 0) < c.factor
          either true is = subst (λ (n : ℕ). n < c.factor) (sym (copy_same levels lane.number c.entity)) (copy_below levels lane.number (level_with levels c.entity) c.factor some (turns.level is))
          either false is = omega (arith, some)

      by : (o : Option Counter) → o ≡ Some c → IsInTurn (loops_of levels) (lane_path lane) c (held_value o (held_at scene.held.now t.entity))
      by None same = absurd (cc)
      by (Some d) same = record {
        turn = slice_index x.start.registers (held_at scene.held.now t.entity).first;
        below = turns.below;
        copy = small;
        is = ap (λ (a : Counter). pos (a.low + slice_index x.start.registers (held_at scene.held.now t.entity).first * a.factor + copy_in_turn a (held_at scene.held.now t.entity) lane)) (some_same d c same)
            ∙ ap (λ n. pos (c.low + slice_index x.start.registers (held_at scene.held.now t.entity).first * c.factor + n)) copies;
      }

  -- an operator on two that show their values, which are words of their kinds
  pair_shows : (place : Place) (k : Option Kind) (o : Op) (left right : plain.Term) → ShowsTerm left → ShowsTerm right → ((m : ℕ) → IsWordOf (kind_written left) (worth m left)) → ((m : ℕ) → IsWordOf (kind_written right) (worth m right))
      → ShowsTerm (plain.term place k (plain.applied o left right))
  pair_shows place k o left right one two first second old new before after n next v m made f b =
      let last = (operation_forms o left right (kind_or_first k) made.a made.b made.end new v made.operation).extends in
      let f2 = fits_before made.end new x last f in
      let next_part = (term_lays scene lane stands current right made.middle made.end made.between after made.own next made.b made.second).extends in
      let first_part = (term_lays scene lane stands current left old made.middle before made.between n made.own made.a made.first).extends in
      let f1 = fits_before made.middle made.end x next_part f2 in
      let b1 = begun_later old made.middle x first_part b in
      let b2 = begun_later made.middle made.end x next_part b1 in
      let j = m + term_accesses left in
      let to = extension_of o (kind_written left) (kind_written right) in
      let w = one old made.middle before made.between n made.own made.a m made.first f1 b in
      let u = two made.middle made.end made.between after made.own next made.b (m + term_accesses left) made.second f2 b1 in
      operation_shows x o left right made.a made.b made.end new v made.operation f b2
      ∙ (ap (λ z. binary_of o (extended_shown left (extension_by o left right) z) (extended_shown right (extension_by o left right) (word_shown x made.b))) w
      ∙ (ap (λ z. binary_of o (extended_shown left (extension_by o left right) (worth m left)) (extended_shown right (extension_by o left right) z)) u
      ∙ (ap (λ z. binary_of o z (extended_shown right (extension_by o left right) (worth (m + term_accesses left) right)))
      (extended_same left (extension_by o left right) (worth m left) (λ kept. kept_of_word left (extension_by o left right) (worth m left) (first m) kept))
      ∙ (ap (λ z. binary_of o (extended_word (extension_by o left right) (worth m left)) z)
      (extended_same right (extension_by o left right) (worth (m + term_accesses left) right) (λ kept. kept_of_word right (extension_by o left right) (worth (m + term_accesses left) right) (second (m + term_accesses left)) kept))
      ∙ written left right))))
    where
      written : (left right : plain.Term)
          → binary_of o (extended_word (extension_by o left right) (worth m left)) (extended_word (extension_by o left right) (worth (m + term_accesses left) right))
          ≡ worth m (plain.term place k (plain.applied o left right))
      written (plain.term p j g) (plain.term q i h) =
          operation_value (begun_of x) vars (lane_path lane) (kind_or_first j) (kind_or_first i) (core_term (known_in scene) m (plain.term p j g)) (core_term (known_in scene) (m + term_accesses (plain.term p j g)) (plain.term q i h)) o

  -- Indices.

  -- the value of an index is that of its kind at this path
  abbrev Told : plain.Term → Word → Type 0
  Told t w = IsIndexValue AnyLoop (loops_of levels) (lane_path lane) (index_kind cs (found t) (form_of t)) (words.value_of w)

  abbrev TurnsThere : plain.TermForm → Type 0
  TurnsThere form = FormInTurn AnyLoop (known_in scene) cs (loops_of levels) (lane_path lane) vars form

  told_as : (t : plain.Term) (w : Word) → HasIndexKinds cs t → TurnsThere (form_of t) → w ≡ worth 0 t → Told t w
  told_as t w h turns is = subst (λ (u : Word). Told t u) (sym is) (index_value AnyLoop (begun_of x) vars (lane_path lane) (known_in scene) cs (loops_of levels) 0 t h turns)

  told_not : (t : plain.Term) (w : Word) → index_kind cs (found t) (form_of t) ≡ dynamic → Told t w
  told_not t w e = subst (λ (k : IndexKind). IsIndexValue AnyLoop (loops_of levels) (lane_path lane) k (words.value_of w)) (sym e) tt

  whole_kind : (t : plain.Term) → HasIntegerKind cs t → IsInteger (kind_written t)
  whole_kind (plain.term place k form) h = subst (λ (i : Kind). IsInteger i) (sym (ap kind_or_first h.is)) h.integer

  name_turns : (r : Ref) → NameTurns x scene levels r → NameInTurn AnyLoop (known_in scene) cs (loops_of levels) (lane_path lane) vars r
  name_turns r t c e asked = in_turn r t (take (depth_of (known_in scene) r) (lane_path lane)) c e

  -- one that shows what the program has where a name in it is an iterator, and is told nothing where it is none
  with_name : (t : plain.Term) (r : Ref) (w : Word) → (counter_in cs r.entity ≡ None → index_kind cs (found t) (form_of t) ≡ dynamic) → ((c : Counter) → counter_in cs r.entity ≡ Some c → w ≡ worth 0 t)
      → HasIndexKinds cs t → TurnsThere (form_of t) → Told t w
  with_name t r w none some h turns = by (counter_in cs r.entity) refl
    where
      by : (o : Option Counter) → counter_in cs r.entity ≡ o → Told t w
      by None e = told_not t w (none e)
      by (Some c) e = told_as t w h turns (some c e)

  named_word : (place : Place) (k : Option Kind) (r : Ref) → IsInteger (kind_or_first k) → (m : ℕ) → IsWordOf (kind_or_first k) (worth m (plain.term place k (plain.named r)))
  named_word place k r integer m = of_word (kind_or_first k) _ (integer_width (kind_or_first k) integer)

  number_word : (place : Place) (k : Option Kind) (negative : Bool) (z : ℕ) → IsInteger (kind_or_first k) → (m : ℕ) → IsWordOf (kind_or_first k) (worth m (plain.term place k (plain.number negative z)))
  number_word place k negative z integer m = record { kind_is = refl; word = bits_small (kind_or_first k) negative z (integer_width (kind_or_first k) integer) }

  module _ (place a b : Place) (k j i : Option Kind) (r : Ref) (negative : Bool) (z : ℕ) (t : NameTurns x scene levels r) (c : Counter) (e : counter_in cs r.entity ≡ Some c) (w : Kind) where
    name_number : (o : Op) → AreSumOperands cs w (plain.term a j (plain.named r)) (plain.term b i (plain.number negative z))
        → ShowsTerm (plain.term place k (plain.applied o (plain.term a j (plain.named r)) (plain.term b i (plain.number negative z))))
    name_number o h =
        let first = whole_kind (plain.term a j (plain.named r)) h.first in
        let second = whole_kind (plain.term b i (plain.number negative z)) h.second in
        pair_shows place k o (plain.term a j (plain.named r)) (plain.term b i (plain.number negative z)) (named_shows a j r t c e first) (number_shows b i negative z (integer_width (kind_or_first i) second))
        (named_word a j r first) (number_word b i negative z second)

    number_name : (o : Op) → AreSumOperands cs w (plain.term b i (plain.number negative z)) (plain.term a j (plain.named r))
        → ShowsTerm (plain.term place k (plain.applied o (plain.term b i (plain.number negative z)) (plain.term a j (plain.named r))))
    number_name o h =
        let first = whole_kind (plain.term b i (plain.number negative z)) h.first in
        let second = whole_kind (plain.term a j (plain.named r)) h.second in
        pair_shows place k o (plain.term b i (plain.number negative z)) (plain.term a j (plain.named r)) (number_shows b i negative z (integer_width (kind_or_first i) first)) (named_shows a j r t c e second)
        (number_word b i negative z first) (named_word a j r second)

  abbrev Tells : plain.Term → Type 0
  Tells t = (old new : Draft) (before after : Accesses) (n next v : ℕ) → HasIndexKinds cs t → IndexTurns x scene levels (form_of t) → Made t old new before after n next v → FitsStep x new → BlockBegun x old → Told t (word_shown x v)

  -- a name and a number
  first_tells : (place a b : Place) (k j i : Option Kind) (r : Ref) (negative : Bool) (z : ℕ) (o : Op) → Tells (plain.term place k (plain.applied o (plain.term a j (plain.named r)) (plain.term b i (plain.number negative z))))
  first_tells place a b k j i r negative z op.Add old new before after n next v h t m f s =
      with_name _ r (word_shown x v) (λ none. ap (λ o. counted k o (signed_number negative z)) none) (λ c e. name_number place a b k j i r negative z t.0 c e h.whole.kind op.Add (h.parts refl) old new before after n next v 0 m f s) h (name_turns r t.0, tt)
  first_tells place a b k j i r negative z op.Sub old new before after n next v h t m f s =
      with_name _ r (word_shown x v) (λ none. ap (λ o. counted k o (neg_ℤ (signed_number negative z))) none) (λ c e. name_number place a b k j i r negative z t.0 c e h.whole.kind op.Sub (h.parts refl) old new before after n next v 0 m f s) h (name_turns r t.0, tt)
  first_tells place a b k j i r negative z op.Mul old new before after n next v h t m f s = tt
  first_tells place a b k j i r negative z op.And old new before after n next v h t m f s = tt
  first_tells place a b k j i r negative z op.Or old new before after n next v h t m f s = tt
  first_tells place a b k j i r negative z op.Xor old new before after n next v h t m f s = tt
  first_tells place a b k j i r negative z op.Shl old new before after n next v h t m f s = tt
  first_tells place a b k j i r negative z op.Shr old new before after n next v h t m f s = tt
  first_tells place a b k j i r negative z op.Lt old new before after n next v h t m f s = tt
  first_tells place a b k j i r negative z op.Gt old new before after n next v h t m f s = tt
  first_tells place a b k j i r negative z op.Le old new before after n next v h t m f s = tt
  first_tells place a b k j i r negative z op.Ge old new before after n next v h t m f s = tt
  first_tells place a b k j i r negative z op.Eq old new before after n next v h t m f s = tt
  first_tells place a b k j i r negative z op.Ne old new before after n next v h t m f s = tt
  first_tells place a b k j i r negative z op.Both old new before after n next v h t m f s = tt
  first_tells place a b k j i r negative z op.Either old new before after n next v h t m f s = tt

  -- a number and a name
  second_tells : (place a b : Place) (k j i : Option Kind) (r : Ref) (negative : Bool) (z : ℕ) (o : Op) → Tells (plain.term place k (plain.applied o (plain.term b i (plain.number negative z)) (plain.term a j (plain.named r))))
  second_tells place a b k j i r negative z op.Add old new before after n next v h t m f s =
      with_name _ r (word_shown x v) (λ none. ap (λ o. counted k o (signed_number negative z)) none) (λ c e. number_name place a b k j i r negative z t.1 c e h.whole.kind op.Add (h.parts refl) old new before after n next v 0 m f s) h (tt, name_turns r t.1)
  second_tells place a b k j i r negative z op.Sub old new before after n next v h t m f s = tt
  second_tells place a b k j i r negative z op.Mul old new before after n next v h t m f s = tt
  second_tells place a b k j i r negative z op.And old new before after n next v h t m f s = tt
  second_tells place a b k j i r negative z op.Or old new before after n next v h t m f s = tt
  second_tells place a b k j i r negative z op.Xor old new before after n next v h t m f s = tt
  second_tells place a b k j i r negative z op.Shl old new before after n next v h t m f s = tt
  second_tells place a b k j i r negative z op.Shr old new before after n next v h t m f s = tt
  second_tells place a b k j i r negative z op.Lt old new before after n next v h t m f s = tt
  second_tells place a b k j i r negative z op.Gt old new before after n next v h t m f s = tt
  second_tells place a b k j i r negative z op.Le old new before after n next v h t m f s = tt
  second_tells place a b k j i r negative z op.Ge old new before after n next v h t m f s = tt
  second_tells place a b k j i r negative z op.Eq old new before after n next v h t m f s = tt
  second_tells place a b k j i r negative z op.Ne old new before after n next v h t m f s = tt
  second_tells place a b k j i r negative z op.Both old new before after n next v h t m f s = tt
  second_tells place a b k j i r negative z op.Either old new before after n next v h t m f s = tt

  -- others
  no_sum : (k : Option Kind) (o : Op) (f g : plain.TermForm) → is_told f g ≡ false → sum_kind cs k o f g ≡ dynamic
  no_sum k op.Add (plain.number s m) (plain.number t n) e = refl
  no_sum k op.Add (plain.number s m) (plain.truth_value y) e = refl
  no_sum k op.Add (plain.number s m) (plain.named q) e = cc
  no_sum k op.Add (plain.number s m) (plain.accessed q us) e = refl
  no_sum k op.Add (plain.number s m) (plain.in_bank q other to u) e = refl
  no_sum k op.Add (plain.number s m) (plain.applied p c d) e = refl
  no_sum k op.Add (plain.number s m) (plain.converted y l) e = refl
  no_sum k op.Add (plain.truth_value a) g e = refl
  no_sum k op.Add (plain.named r) (plain.number t n) e = cc
  no_sum k op.Add (plain.named r) (plain.truth_value y) e = refl
  no_sum k op.Add (plain.named r) (plain.named q) e = refl
  no_sum k op.Add (plain.named r) (plain.accessed q us) e = refl
  no_sum k op.Add (plain.named r) (plain.in_bank q other to u) e = refl
  no_sum k op.Add (plain.named r) (plain.applied p c d) e = refl
  no_sum k op.Add (plain.named r) (plain.converted y l) e = refl
  no_sum k op.Add (plain.accessed r ts) g e = refl
  no_sum k op.Add (plain.in_bank r bank at t) g e = refl
  no_sum k op.Add (plain.applied o a b) g e = refl
  no_sum k op.Add (plain.converted a j) g e = refl
  no_sum k op.Sub (plain.number s m) (plain.number t n) e = refl
  no_sum k op.Sub (plain.number s m) (plain.truth_value y) e = refl
  no_sum k op.Sub (plain.number s m) (plain.named q) e = cc
  no_sum k op.Sub (plain.number s m) (plain.accessed q us) e = refl
  no_sum k op.Sub (plain.number s m) (plain.in_bank q other to u) e = refl
  no_sum k op.Sub (plain.number s m) (plain.applied p c d) e = refl
  no_sum k op.Sub (plain.number s m) (plain.converted y l) e = refl
  no_sum k op.Sub (plain.truth_value a) g e = refl
  no_sum k op.Sub (plain.named r) (plain.number t n) e = cc
  no_sum k op.Sub (plain.named r) (plain.truth_value y) e = refl
  no_sum k op.Sub (plain.named r) (plain.named q) e = refl
  no_sum k op.Sub (plain.named r) (plain.accessed q us) e = refl
  no_sum k op.Sub (plain.named r) (plain.in_bank q other to u) e = refl
  no_sum k op.Sub (plain.named r) (plain.applied p c d) e = refl
  no_sum k op.Sub (plain.named r) (plain.converted y l) e = refl
  no_sum k op.Sub (plain.accessed r ts) g e = refl
  no_sum k op.Sub (plain.in_bank r bank at t) g e = refl
  no_sum k op.Sub (plain.applied o a b) g e = refl
  no_sum k op.Sub (plain.converted a j) g e = refl
  no_sum k op.Mul f g e = refl
  no_sum k op.And f g e = refl
  no_sum k op.Or f g e = refl
  no_sum k op.Xor f g e = refl
  no_sum k op.Shl f g e = refl
  no_sum k op.Shr f g e = refl
  no_sum k op.Lt f g e = refl
  no_sum k op.Gt f g e = refl
  no_sum k op.Le f g e = refl
  no_sum k op.Ge f g e = refl
  no_sum k op.Eq f g e = refl
  no_sum k op.Ne f g e = refl
  no_sum k op.Both f g e = refl
  no_sum k op.Either f g e = refl

  not_told : (place a b : Place) (k j i : Option Kind) (o : Op) (f g : plain.TermForm) → is_told f g ≡ false → Tells (plain.term place k (plain.applied o (plain.term a j f) (plain.term b i g)))
  not_told place a b k j i o f g none old new before after n next v h turns made fits s = told_not (plain.term place k (plain.applied o (plain.term a j f) (plain.term b i g))) (word_shown x v) (no_sum k o f g none)

  pair_tells : (place a b : Place) (k j i : Option Kind) (o : Op) (f g : plain.TermForm) → Tells (plain.term place k (plain.applied o (plain.term a j f) (plain.term b i g)))
  pair_tells place a b k j i o (plain.named r) (plain.number negative z) = first_tells place a b k j i r negative z o
  pair_tells place a b k j i o (plain.number negative z) (plain.named r) = second_tells place b a k i j r negative z o
  pair_tells place a b k j i o (plain.number s1 m1) (plain.number t2 n2) = not_told place a b k j i o (plain.number s1 m1) (plain.number t2 n2) refl
  pair_tells place a b k j i o (plain.number s1 m1) (plain.truth_value y2) = not_told place a b k j i o (plain.number s1 m1) (plain.truth_value y2) refl
  pair_tells place a b k j i o (plain.number s1 m1) (plain.accessed q2 us2) = not_told place a b k j i o (plain.number s1 m1) (plain.accessed q2 us2) refl
  pair_tells place a b k j i o (plain.number s1 m1) (plain.in_bank q2 other to u2) = not_told place a b k j i o (plain.number s1 m1) (plain.in_bank q2 other to u2) refl
  pair_tells place a b k j i o (plain.number s1 m1) (plain.applied p2 c2 d2) = not_told place a b k j i o (plain.number s1 m1) (plain.applied p2 c2 d2) refl
  pair_tells place a b k j i o (plain.number s1 m1) (plain.converted y2 l2) = not_told place a b k j i o (plain.number s1 m1) (plain.converted y2 l2) refl
  pair_tells place a b k j i o (plain.truth_value a1) (plain.number t2 n2) = not_told place a b k j i o (plain.truth_value a1) (plain.number t2 n2) refl
  pair_tells place a b k j i o (plain.truth_value a1) (plain.truth_value y2) = not_told place a b k j i o (plain.truth_value a1) (plain.truth_value y2) refl
  pair_tells place a b k j i o (plain.truth_value a1) (plain.named q2) = not_told place a b k j i o (plain.truth_value a1) (plain.named q2) refl
  pair_tells place a b k j i o (plain.truth_value a1) (plain.accessed q2 us2) = not_told place a b k j i o (plain.truth_value a1) (plain.accessed q2 us2) refl
  pair_tells place a b k j i o (plain.truth_value a1) (plain.in_bank q2 other to u2) = not_told place a b k j i o (plain.truth_value a1) (plain.in_bank q2 other to u2) refl
  pair_tells place a b k j i o (plain.truth_value a1) (plain.applied p2 c2 d2) = not_told place a b k j i o (plain.truth_value a1) (plain.applied p2 c2 d2) refl
  pair_tells place a b k j i o (plain.truth_value a1) (plain.converted y2 l2) = not_told place a b k j i o (plain.truth_value a1) (plain.converted y2 l2) refl
  pair_tells place a b k j i o (plain.named r) (plain.truth_value y2) = not_told place a b k j i o (plain.named r) (plain.truth_value y2) refl
  pair_tells place a b k j i o (plain.named r) (plain.named q2) = not_told place a b k j i o (plain.named r) (plain.named q2) refl
  pair_tells place a b k j i o (plain.named r) (plain.accessed q2 us2) = not_told place a b k j i o (plain.named r) (plain.accessed q2 us2) refl
  pair_tells place a b k j i o (plain.named r) (plain.in_bank q2 other to u2) = not_told place a b k j i o (plain.named r) (plain.in_bank q2 other to u2) refl
  pair_tells place a b k j i o (plain.named r) (plain.applied p2 c2 d2) = not_told place a b k j i o (plain.named r) (plain.applied p2 c2 d2) refl
  pair_tells place a b k j i o (plain.named r) (plain.converted y2 l2) = not_told place a b k j i o (plain.named r) (plain.converted y2 l2) refl
  pair_tells place a b k j i o (plain.accessed r ts1) (plain.number t2 n2) = not_told place a b k j i o (plain.accessed r ts1) (plain.number t2 n2) refl
  pair_tells place a b k j i o (plain.accessed r ts1) (plain.truth_value y2) = not_told place a b k j i o (plain.accessed r ts1) (plain.truth_value y2) refl
  pair_tells place a b k j i o (plain.accessed r ts1) (plain.named q2) = not_told place a b k j i o (plain.accessed r ts1) (plain.named q2) refl
  pair_tells place a b k j i o (plain.accessed r ts1) (plain.accessed q2 us2) = not_told place a b k j i o (plain.accessed r ts1) (plain.accessed q2 us2) refl
  pair_tells place a b k j i o (plain.accessed r ts1) (plain.in_bank q2 other to u2) = not_told place a b k j i o (plain.accessed r ts1) (plain.in_bank q2 other to u2) refl
  pair_tells place a b k j i o (plain.accessed r ts1) (plain.applied p2 c2 d2) = not_told place a b k j i o (plain.accessed r ts1) (plain.applied p2 c2 d2) refl
  pair_tells place a b k j i o (plain.accessed r ts1) (plain.converted y2 l2) = not_told place a b k j i o (plain.accessed r ts1) (plain.converted y2 l2) refl
  pair_tells place a b k j i o (plain.in_bank r bank at t1) (plain.number t2 n2) = not_told place a b k j i o (plain.in_bank r bank at t1) (plain.number t2 n2) refl
  pair_tells place a b k j i o (plain.in_bank r bank at t1) (plain.truth_value y2) = not_told place a b k j i o (plain.in_bank r bank at t1) (plain.truth_value y2) refl
  pair_tells place a b k j i o (plain.in_bank r bank at t1) (plain.named q2) = not_told place a b k j i o (plain.in_bank r bank at t1) (plain.named q2) refl
  pair_tells place a b k j i o (plain.in_bank r bank at t1) (plain.accessed q2 us2) = not_told place a b k j i o (plain.in_bank r bank at t1) (plain.accessed q2 us2) refl
  pair_tells place a b k j i o (plain.in_bank r bank at t1) (plain.in_bank q2 other to u2) = not_told place a b k j i o (plain.in_bank r bank at t1) (plain.in_bank q2 other to u2) refl
  pair_tells place a b k j i o (plain.in_bank r bank at t1) (plain.applied p2 c2 d2) = not_told place a b k j i o (plain.in_bank r bank at t1) (plain.applied p2 c2 d2) refl
  pair_tells place a b k j i o (plain.in_bank r bank at t1) (plain.converted y2 l2) = not_told place a b k j i o (plain.in_bank r bank at t1) (plain.converted y2 l2) refl
  pair_tells place a b k j i o (plain.applied o1 a1 b1) (plain.number t2 n2) = not_told place a b k j i o (plain.applied o1 a1 b1) (plain.number t2 n2) refl
  pair_tells place a b k j i o (plain.applied o1 a1 b1) (plain.truth_value y2) = not_told place a b k j i o (plain.applied o1 a1 b1) (plain.truth_value y2) refl
  pair_tells place a b k j i o (plain.applied o1 a1 b1) (plain.named q2) = not_told place a b k j i o (plain.applied o1 a1 b1) (plain.named q2) refl
  pair_tells place a b k j i o (plain.applied o1 a1 b1) (plain.accessed q2 us2) = not_told place a b k j i o (plain.applied o1 a1 b1) (plain.accessed q2 us2) refl
  pair_tells place a b k j i o (plain.applied o1 a1 b1) (plain.in_bank q2 other to u2) = not_told place a b k j i o (plain.applied o1 a1 b1) (plain.in_bank q2 other to u2) refl
  pair_tells place a b k j i o (plain.applied o1 a1 b1) (plain.applied p2 c2 d2) = not_told place a b k j i o (plain.applied o1 a1 b1) (plain.applied p2 c2 d2) refl
  pair_tells place a b k j i o (plain.applied o1 a1 b1) (plain.converted y2 l2) = not_told place a b k j i o (plain.applied o1 a1 b1) (plain.converted y2 l2) refl
  pair_tells place a b k j i o (plain.converted a1 j1) (plain.number t2 n2) = not_told place a b k j i o (plain.converted a1 j1) (plain.number t2 n2) refl
  pair_tells place a b k j i o (plain.converted a1 j1) (plain.truth_value y2) = not_told place a b k j i o (plain.converted a1 j1) (plain.truth_value y2) refl
  pair_tells place a b k j i o (plain.converted a1 j1) (plain.named q2) = not_told place a b k j i o (plain.converted a1 j1) (plain.named q2) refl
  pair_tells place a b k j i o (plain.converted a1 j1) (plain.accessed q2 us2) = not_told place a b k j i o (plain.converted a1 j1) (plain.accessed q2 us2) refl
  pair_tells place a b k j i o (plain.converted a1 j1) (plain.in_bank q2 other to u2) = not_told place a b k j i o (plain.converted a1 j1) (plain.in_bank q2 other to u2) refl
  pair_tells place a b k j i o (plain.converted a1 j1) (plain.applied p2 c2 d2) = not_told place a b k j i o (plain.converted a1 j1) (plain.applied p2 c2 d2) refl
  pair_tells place a b k j i o (plain.converted a1 j1) (plain.converted y2 l2) = not_told place a b k j i o (plain.converted a1 j1) (plain.converted y2 l2) refl

  index_tells : (t : plain.Term) → Tells t
  index_tells (plain.term place k (plain.number negative z)) old new before after n next v h t m f s =
      told_as _ (word_shown x v) h tt (number_shows place k negative z (integer_width (kind_or_first k) (whole_kind (plain.term place k (plain.number negative z)) h.whole)) old new before after n next v 0 m f s)
  index_tells (plain.term place k (plain.truth_value b)) old new before after n next v h t m f s = tt
  index_tells (plain.term place k (plain.named r)) old new before after n next v h t m f s =
      with_name _ r (word_shown x v) (λ none. ap (λ o. counted k o (pos 0)) none)
      (λ c e. named_shows place k r t c e (whole_kind (plain.term place k (plain.named r)) h.whole) old new before after n next v 0 m f s) h (name_turns r t)
  index_tells (plain.term place k (plain.accessed r ts)) old new before after n next v h t m f s = tt
  index_tells (plain.term place k (plain.in_bank r bank at row)) old new before after n next v h t m f s = tt
  index_tells (plain.term place k (plain.applied o (plain.term a j left) (plain.term b i right))) old new before after n next v h t m f s = pair_tells place a b k j i o left right old new before after n next v h t m f s
  index_tells (plain.term place k (plain.converted inner to)) old new before after n next v h t m f s = tt

  -- Banks.

  -- what an index adds to the bank is told of its path
  residue : (d : Dim) (place : Place) (k : IndexKind) (z : ℤ) → IsDim d → one_index_breaches d place k ≡ [] → IsIndexValue AnyLoop (loops_of levels) (lane_path lane) k z → unsigned_abs z % d.banks ≡ index_first levels lane.number k % d.banks
  residue d place (constant w) z h e v = index_bank (loops_of levels) (lane_path lane) d place (constant w) z h tt e v
  residue d place (iterator c offset) z h e v =
      let w = (v tt).in_turn.copy in
      index_bank (loops_of levels) (lane_path lane) d place (iterator c offset) z h (some_copy (copy_at (loops_of levels) (lane_path lane) c) c.factor w) e (λ asked. v tt) ∙ ap (λ i. i % d.banks) (index_same levels lane.number (iterator c offset))
    where
      some_copy : (m f : ℕ) → m < f → 1 ≤ f
      some_copy m f l = omega (arith, l)
  residue d place dynamic z h e v = index_bank (loops_of levels) (lane_path lane) d place dynamic z h tt e tt

  first_of : {A : Type 0} (xs ys : List A) → xs ++ ys ≡ [] → xs ≡ []
  first_of [] ys e = refl
  first_of (x ∷ xs) ys e = cc

  second_of : {A : Type 0} (xs ys : List A) → xs ++ ys ≡ [] → ys ≡ []
  second_of [] ys e = e
  second_of (x ∷ xs) ys e = cc

  no_index : (dims : List Dim) → bank_of dims [] ≡ 0
  no_index [] = refl
  no_index (d ∷ ds) = refl

  values_none : (dims : List Dim) (vs : List ℕ) → vs ≡ [] → bank_of dims (map (λ z. unsigned_abs z) (numbers_at x.first x.words vs)) ≡ bank_of dims []
  values_none dims vs e = ap (λ (l : List ℕ). bank_of dims (map (λ z. unsigned_abs z) (numbers_at x.first x.words l))) e

  terms_bank : (dims : List Dim) (ts : plain.Terms) (old new : Draft) (before after : Accesses) (n next : ℕ) (vs : List ℕ) → MadeTerms scene lane current ts old new before after n next vs → AllByRecursion IsDim dims → AllHaveIndexKinds cs ts
      → AllTurn x scene levels ts → indices_breaches cs dims ts ≡ [] → FitsStep x new → BlockBegun x old
      → bank_of dims (map (λ z. unsigned_abs z) (numbers_at x.first x.words vs)) ≡ bank_of dims (indices_first cs levels lane.number ts)
  terms_bank dims plain.no_terms old new before after n next vs m h kinds turns e f s = values_none dims vs m.none
  terms_bank [] (plain.term_then (plain.term place k form) ts) old new before after n next vs m h kinds turns e f s = ap (λ (l : List ℕ). bank_of [] (map (λ z. unsigned_abs z) (numbers_at x.first x.words l))) m.values_are
  terms_bank (d ∷ ds) (plain.term_then (plain.term place k form) ts) old new before after n next vs m h kinds turns e f s =
      let rest_extends = (terms_lay scene lane stands current ts m.middle new m.between after m.own next m.more m.rest).extends in
      let first_extends = (term_lays scene lane stands current (plain.term place k form) old m.middle before m.between n m.own m.a m.first).extends in
      let fm = fits_before m.middle new x rest_extends f in
      let one = residue d place (index_kind cs k form) (words.value_of (word_shown x m.a)) h.0 (first_of (one_index_breaches d place (index_kind cs k form)) _ e) (index_tells (plain.term place k form) old m.middle before m.between n m.own m.a kinds.0 turns.0 m.first fm s) in
      let rest = terms_bank ds ts m.middle new m.between after m.own next m.more m.rest h.1 kinds.1 turns.1 (second_of (one_index_breaches d place (index_kind cs k form)) _ e) f (begun_later old m.middle x first_extends s) in
      ap (λ (l : List ℕ). bank_of (d ∷ ds) (map (λ z. unsigned_abs z) (numbers_at x.first x.words l))) m.values_are
      ∙ (ap (λ r. r * banks_of ds + bank_of ds (map (λ z. unsigned_abs z) (numbers_at x.first x.words m.more))) one ∙ ap (λ r. (index_first levels lane.number (index_kind cs k form) % d.banks) * banks_of ds + r) rest)

  -- a bank that is told is one of the memory
  some_banks : (dims : List Dim) → AllByRecursion IsDim dims → 0 < banks_of dims
  some_banks [] h = omega arith
  some_banks (d ∷ ds) h = let one = h.0.banks in let rest = some_banks ds h.1 in product d.banks (banks_of ds) one rest
    where
      product : (a b : ℕ) → 1 ≤ a → 0 < b → 0 < a * b
      product a b p q = let h = place_below 0 b 0 a p q in omega (arith, h)

  pub bank_small : (dims : List Dim) (is : List ℕ) → AllByRecursion IsDim dims → bank_of dims is < banks_of dims
  bank_small [] is h = omega arith
  bank_small (d ∷ ds) [] h = some_banks (d ∷ ds) h
  bank_small (d ∷ ds) (i ∷ is) h = place_below (i % d.banks) (banks_of ds) (bank_of ds is) d.banks (mod-lt i {m = d.banks} h.0.banks) (bank_small ds is h.1)

  -- Elements.

  narrowed_small : (n : ℕ) → n < 2 ^ 32 → narrowed n ≡ n
  narrowed_small n l = grind (arith, l)

  -- by indices, of dimensions of what is named
  pub indices_bank : (memory : ℕ) (dims : List Dim) (ts : plain.Terms) (aim : Aim) (old new : Draft) (before after : Accesses) (n : ℕ) → MadeTerms scene lane current ts old new before after n aim.number aim.indices
      → IndicesKeep x scene levels memory dims ts → FitsStep x new → BlockBegun x old → bank_of dims (map unsigned_abs (numbers_at x.first x.words aim.indices)) ≡ narrowed (bank_of dims (indices_first cs levels lane.number ts))
  indices_bank memory dims ts aim old new before after n m k f s =
      let below = bank_small dims (indices_first cs levels lane.number ts) k.dims in
      let few = k.few in
      terms_bank dims ts old new before after n aim.number aim.indices m k.dims k.kinds k.turns k.keeps f s
      ∙ sym (narrowed_small (bank_of dims (indices_first cs levels lane.number ts)) (omega (arith, below, few)))

  -- by a row
  pub row_reaches : (memory value : ℕ) (aim : Aim) (b : ℕ × ℕ) (spot : Spot) → aim.row ≡ Some value → spot_of_reach x.start x.first x.words (reach_told memory aim (b ∷ [])) ≡ Some spot → spot.bank ≡ b.0
  row_reaches memory value aim b spot row e =
      (spot_row x.start.table (narrowed memory) b.0 (words.value_of (word_shown x value)) spot (ap (λ o. spot_in_row x.start x.first x.words (reach_told memory aim (b ∷ [])) o) (sym row) ∙ e)).1
