-- The code of views that move, in front of what stands behind them.
use Rattle.std.proofs.Common.{◌≡◌, ℕ, suc, ◌+◌, ◌<◌, ◌≤◌, List, [], ◌∷◌, ◌++◌, length, map, drop, get_or, Some, None, refl, ap, sym, ◌∙◌, subst, arith, append_assoc, append-nil}
use Rattle.std.specs.Prelude.{Option, option_map, slice_get, slice_range}
use Rattle.std.specs.List.{AllByRecursion}
use Rattle.std.proofs.Math.Seq.{drop-cons}
use Rattle.std.proofs.lemmas.Option.{slice_get-map}
use Rattle.dh_tree.specs.declared.tables.MemEntry.{MemEntry}
use Rattle.dh_tree.specs.declared.trees.commands.ViewForm.{ViewForm}
use Rattle.dh_tree.specs.declared.trees.expressions.Expr.{Expr}
use Rattle.dh_tree.specs.PlainTrees as plain
use Rattle.dh_tree.specs.Seen.{factor_seen, view_plan, term_seen, terms}
use Rattle.dh_tree.specs.ViewOffsets.{offsets_of}
use Rattle.dh_meaning.specs.Core.{CoreTerms, no_terms, term_and, count_terms, keep, CoreCommands, command_and}
use Rattle.dh_meaning.specs.CoreOf.{core_terms, kept_by}
use Rattle.dh_meaning.specs.Ways as definitions
use Rattle.dh_meaning.specs.Ways.{Hidden, hidden_in}
use Rattle.dh_ways.specs.declared.ways.Hidden as ways
use Rattle.dh_ways.specs.Kept.{KeptWay}
use Rattle.dh_ways.specs.Seen.{hidden_seen, way_seen}
use Rattle.dh_code.specs.declared.codes.Action.TheVariants.{Keep}
use Rattle.dh_code.specs.declared.codes.Code.{Code}
use Rattle.dh_code.specs.declared.codes.Kept.{Kept}
use Rattle.dh_code.specs.declared.codes.Operand.{Operand}
use Rattle.dh_code.specs.declared.codes.CodeOperation.{CodeOperation}
use Rattle.dh_code.specs.declared.flattening.Names.{Names}
use Rattle.dh_code.specs.declared.places.VariableSlots.{VariableSlots}
use Rattle.dh_code.specs.Coded.{AreFlat, AreSlotsFrom, operands_kept}
use Rattle.dh_code.specs.Flattening.{AddsStep, AreMade, FlattensAll, FlattensOffsets, IsInFront, kept_from, known_by_names, offsets_by, table_in}
use Rattle.dh_code.specs.Made.{AllMade, terms_made}
use Rattle.dh_code.specs.Operated.{IsValidOperand}
use Rattle.dh_code.specs.Slots.{Placing, held_at}
use Rattle.dh_code.specs.Suited.{AreInsideFrom, AreSuited, CanDoAll}
use Rattle.dh_code.proofs.CommandForms.{in_front}
use Rattle.dh_code.proofs.CommandsCoded.{adds_extend, coded_stays, range_added, sound_added}
use Rattle.dh_code.proofs.CommandsFlattened.{front_none}
use Rattle.dh_code.proofs.Flattened.{adds_long, adds_none}
use Rattle.dh_code.proofs.MadeParts.{all_done, values_made}
use Rattle.dh_code.proofs.Ranges.{drop_past, get_whatever}

-- Lists that grow by what others give.

mapped_more : {A B : Type 0} (f : A → B) (xs : List A) (i : ℕ) (now new all : List B) (x : A) (y : B) → i < length xs → x ≡ get_or xs i x → new ≡ now ++ y ∷ [] → y ≡ f x → now ++ map f (drop i xs) ≡ all → new ++ map f (drop (suc i) xs) ≡ all
mapped_more f xs i now new all x y there is added worth h =
    ap (λ l. l ++ map f (drop (suc i) xs)) added
    ∙ (append_assoc now (y ∷ []) (map f (drop (suc i) xs))
    ∙ (ap (λ z. now ++ z ∷ map f (drop (suc i) xs)) worth
    ∙ (ap (λ l. now ++ map f l) (sym (drop-cons xs i x there ∙ ap (λ z. z ∷ drop (suc i) xs) (sym is))) ∙ h)))

-- at a place, whatever stands for what is not there
pub mapped_at : {A B : Type 0} (f : A → B) (xs : List A) (i : ℕ) (now new all : List B) (x : A) (y : B) → i < length xs → new ≡ now ++ y ∷ [] → y ≡ f (get_or xs i x) → now ++ map f (drop i xs) ≡ all → new ++ map f (drop (suc i) xs) ≡ all
mapped_at f xs i now new all x y there added worth h = mapped_more f xs i now new all (get_or xs i x) y there (get_whatever xs i x (get_or xs i x) there) added worth h

pub mapped_end : {A B : Type 0} (f : A → B) (xs : List A) (i : ℕ) (now all : List B) → length xs ≤ i → now ++ map f (drop i xs) ≡ all → now ≡ all
mapped_end f xs i now all over h = sym (append-nil now) ∙ (ap (λ l. now ++ map f l) (sym (drop_past xs i over)) ∙ h)

-- The first variable on a way.
pub hidden_found : (way : Option definitions.Way) (w : KeptWay) (x : Option ways.Hidden) → Some (way_seen w) ≡ way → x ≡ slice_get w.hidden 0 → option_map hidden_seen x ≡ slice_get (hidden_in way) 0
hidden_found way w x is e = ap (option_map hidden_seen) e ∙ (sym (slice_get-map hidden_seen w.hidden 0) ∙ ap (λ o. slice_get (hidden_in o) 0) is)

pub hidden_nowhere : (way : Option definitions.Way) → None ≡ way → None ≡ slice_get (hidden_in way) 0
hidden_nowhere way is = ap (λ o. slice_get (hidden_in o) 0) is

-- Offsets.

pub pairs_seen : (pairs : List (ℕ × Expr)) → map (λ s. s.offset) (map factor_seen pairs) ≡ map term_seen (offsets_by pairs)
pairs_seen [] = refl
pairs_seen ((n, e) ∷ pairs) = ap (λ l. term_seen e ∷ l) (pairs_seen pairs)

pub offsets_as : (names : Names) (old new : Code) (form : ViewForm) (es : List Expr) (os : List Operand) → offsets_of (view_plan form) ≡ map term_seen es → FlattensAll names old new es os → FlattensOffsets names old new form os
offsets_as names old new form es os same flat n h =
    subst (λ (l : List plain.Term). AreMade old new os (terms_made names.places.now (table_in names) (length old.operations) (core_terms (known_by_names names) n (terms l)))) (sym same)
    (flat n (subst (λ (l : List plain.Term). AreSuited (table_in names) (core_terms (known_by_names names) n (terms l))) same h))

pub no_offsets : (names : Names) (c : Code) (form : ViewForm) (os : List Operand) → offsets_of (view_plan form) ≡ [] → os ≡ [] → FlattensOffsets names c c form os
no_offsets names c form os same none n h =
    subst (λ (l : List plain.Term). AreMade c c os (terms_made names.places.now (table_in names) (length c.operations) (core_terms (known_by_names names) n (terms l)))) (sym same) (record { adds = adds_none c; values = none })

-- Where they are kept.

pub kept_first : (held : List VariableSlots) (first : ℕ) (os : List Operand) → [] ++ kept_from held (first + 0) (drop 0 os) ≡ kept_from held first os
kept_first held first os = ap (λ n. kept_from held n os) (none first)
  where
    none : (n : ℕ) → n + 0 ≡ n
    none n = omega arith

kept_more : (held : List VariableSlots) (first i : ℕ) (os : List Operand) (now new : List Kept) (o : Operand) (slot : ℕ) → i < length os → o ≡ get_or os i o → new ≡ now ++ record { value = o; first = slot } ∷ [] → slot ≡ (held_at held (first + i)).first
    → now ++ kept_from held (first + i) (drop i os) ≡ kept_from held first os → new ++ kept_from held (first + suc i) (drop (suc i) os) ≡ kept_from held first os
kept_more held first i os now new o slot there is added at h =
    ap (λ l. l ++ kept_from held (first + suc i) (drop (suc i) os)) added
    ∙ (append_assoc now (record { value = o; first = slot } ∷ []) (kept_from held (first + suc i) (drop (suc i) os))
    ∙ (ap (λ s. now ++ record { value = o; first = s } ∷ kept_from held (first + suc i) (drop (suc i) os)) at
    ∙ (ap (λ n. now ++ record { value = o; first = (held_at held (first + i)).first } ∷ kept_from held n (drop (suc i) os)) (moved first i)
    ∙ (ap (λ l. now ++ kept_from held (first + i) l) (sym (drop-cons os i o there ∙ ap (λ x. x ∷ drop (suc i) os) (sym is))) ∙ h))))
  where
    moved : (a b : ℕ) → a + suc b ≡ suc (a + b)
    moved a b = omega arith

pub kept_place : (held : List VariableSlots) (first i : ℕ) (os : List Operand) (now new : List Kept) (o : Operand) (at : VariableSlots) → i < length os → new ≡ now ++ record { value = get_or os i o; first = at.first } ∷ [] → at ≡ held_at held (first + i)
    → now ++ kept_from held (first + i) (drop i os) ≡ kept_from held first os → new ++ kept_from held (first + suc i) (drop (suc i) os) ≡ kept_from held first os
kept_place held first i os now new o at there added is h = kept_more held first i os now new (get_or os i o) at.first there (get_whatever os i o (get_or os i o) there) added (ap (λ (x : VariableSlots). x.first) is) h

pub kept_end : (held : List VariableSlots) (first i : ℕ) (os : List Operand) (now : List Kept) → length os ≤ i → now ++ kept_from held (first + i) (drop i os) ≡ kept_from held first os → now ≡ kept_from held first os
kept_end held first i os now over h = sym (append-nil now) ∙ (ap (λ l. now ++ kept_from held (first + i) l) (sym (drop_past os i over)) ∙ h)

kept_operands : (held : List VariableSlots) (e : ℕ) (os : List Operand) → operands_kept (kept_from held e os) ≡ os
kept_operands held e [] = refl
kept_operands held e (o ∷ os) = ap (λ l. o ∷ l) (kept_operands held (suc e) os)

kept_held : (held : List VariableSlots) (e : ℕ) (os : List Operand) → AllByRecursion IsValidOperand os → AllByRecursion (λ k. IsValidOperand k.value) (kept_from held e os)
kept_held held e [] h = tt
kept_held held e (o ∷ os) h = (h.0, kept_held held (suc e) os h.1)

kept_slots : (p : Placing) (loops : List ℕ) (held : List VariableSlots) (deep : ℕ) → p.held ≡ held → (e : ℕ) (os : List Operand) (ts : CoreTerms) → length os ≡ count_terms ts → AreInsideFrom p loops deep e ts → AreSlotsFrom held e deep (kept_from held e os)
kept_slots p loops held deep same e [] ts long h = tt
kept_slots p loops held deep same e (o ∷ os) no_terms long h = absurd (never (length os) long)
  where
    never : (n : ℕ) → suc n ≡ 0 → ⊥
    never n e = omega (arith, e)
kept_slots p loops held deep same e (o ∷ os) (term_and t ts) long h =
    (record { first_is = refl; depth_is = sym h.0.held ∙ ap (λ l. (held_at l e).depth) same }, kept_slots p loops held deep same (suc e) os ts (less (length os) (count_terms ts) long) h.1)
  where
    less : (a b : ℕ) → suc a ≡ suc b → a ≡ b
    less a b e = omega (arith, e)

-- A view.
module _ (names : Names) (p : Placing) (loops : List ℕ) (same : p.held ≡ names.places.now) (old mid : Code) (os : List Operand) (next : Option ℕ) (rest : CoreCommands) where
  abbrev held : List VariableSlots
  held = names.places.now

  abbrev table : List MemEntry
  table = table_in names

  abbrev flats : CoreTerms → Type 0
  flats ts = AreSuited table ts → AreMade old mid os (terms_made held table (length old.operations) ts)

  pub keep_front : (new : Code) (deep entity : ℕ) (ts : CoreTerms) (from to : ℕ) (ks : List Kept) (first : Option ℕ) → CanDoAll table p loops (command_and (keep deep entity ts) rest) → flats ts → from ≡ length old.operations → to ≡ length mid.operations
      → ks ≡ kept_from held entity os → AddsStep mid new (Keep from to ks deep) next first → IsInFront names old new first next (command_and (keep deep entity ts) rest) rest
  keep_front new deep entity ts from to ks first can flat starts ends kept step =
      in_front names old mid new made.operations (Keep from to ks deep) next first (keep deep entity ts) rest m.adds step (
        subst (λ (n : ℕ). AreFlat held table mid ts n to (operands_kept ks)) (sym starts)
            (subst (λ (n : ℕ). AreFlat held table mid ts (length old.operations) n (operands_kept ks)) (sym ends)
            (record {
              within = under (length old.operations) (length made.operations) (length mid.operations) long;
              there = at_end (length mid.operations);
              operations = ap (λ (l : List CodeOperation). slice_range l (length old.operations) (length mid.operations)) m.adds.operations ∙ range_added old.operations made.operations (length mid.operations) long;
              values = ap operands_kept kept ∙ (kept_operands held entity os ∙ m.values);
            })),
        subst (λ (l : List Kept). AreSlotsFrom held entity deep l) (sym kept) (kept_slots p loops held deep same entity os ts (ap (λ l. length l) m.values ∙ values_made held table (length old.operations) ts) can.0.0),
      )
      (λ entries.
      let done = all_done held table entries (length old.operations) ts can.0.1.0 in (
        done.0,
        record {
          within = subst (λ (n : ℕ). n ≤ to) (sym starts) (subst (λ (n : ℕ). length old.operations ≤ n) (sym ends) (under (length old.operations) (length made.operations) (length mid.operations) long));
          there = subst (λ (n : ℕ). n ≤ length mid.operations) (sym ends) (at_end (length mid.operations));
          operands = subst (λ (l : List Kept). AllByRecursion (λ k. IsValidOperand k.value) l) (sym kept) (kept_held held entity os (subst (λ (l : List Operand). AllByRecursion IsValidOperand l) (sym m.values) done.1));
        },
      ))
    where
      made : AllMade
      made = terms_made held table (length old.operations) ts

      m : AreMade old mid os made
      m = flat can.0.1.0

      long : length mid.operations ≡ length old.operations + length made.operations
      long = adds_long old mid made.operations m.adds

      under : (a b c : ℕ) → c ≡ a + b → a ≤ c
      under a b c e = omega (arith, e)

      at_end : (n : ℕ) → n ≤ n
      at_end n = omega arith

  -- it keeps its offsets
  pub view_keeps : (new : Code) (hs : List Hidden) (h : Hidden) (ts : CoreTerms) (from to : ℕ) (ks : List Kept) (first : Option ℕ) → Some h ≡ slice_get hs 0 → CanDoAll table p loops (kept_by hs ts rest) → flats ts → (length os ≡ 0 → ⊥)
      → from ≡ length old.operations → to ≡ length mid.operations → ks ≡ kept_from held h.entity os → AddsStep mid new (Keep from to ks h.depth) next first → IsInFront names old new first next (kept_by hs ts rest) rest
  view_keeps new [] h ts from to ks first is can flat some starts ends kept step = absurd cc
  view_keeps new (x ∷ hs) h no_terms from to ks first is can flat some starts ends kept step = absurd (some (ap (λ l. length l) (flat tt).values))
  view_keeps new (x ∷ hs) h (term_and t ts) from to ks first is can flat some starts ends kept step =
      let one : h ≡ x = cc in
      keep_front new x.depth x.entity (term_and t ts) from to ks first can flat starts ends (kept ∙ ap (λ (y : Hidden). kept_from held y.entity os) one)
      (subst (λ (y : Hidden). AddsStep mid new (Keep from to ks y.depth) next first) one step)

  -- it has none
  pub view_rests : (hs : List Hidden) (h : Hidden) (ts : CoreTerms) → Some h ≡ slice_get hs 0 → CanDoAll table p loops (kept_by hs ts rest) → flats ts → length os ≡ 0 → IsInFront names old mid next next (kept_by hs ts rest) rest
  view_rests [] h ts is can flat none = absurd cc
  view_rests (x ∷ hs) h no_terms is can flat none =
      let m = flat tt in
      let e = adds_extend old mid [] m.adds in
      record { extends = e; coded = λ i. coded_stays held table old mid e next rest i; sound = λ entries i s. sound_added table old mid [] m.adds tt s }
  view_rests (x ∷ hs) h (term_and t ts) is can flat none =
      absurd (never _ (sym none ∙ (ap (λ l. length l) (flat can.0.1.0).values ∙ values_made held table (length old.operations) (term_and t ts))))
    where
      never : (n : ℕ) → 0 ≡ suc n → ⊥
      never n e = omega (arith, e)

-- it keeps offsets nowhere
pub view_nowhere : (names : Names) (c : Code) (next : Option ℕ) (hs : List Hidden) (ts : CoreTerms) (rest : CoreCommands) → None ≡ slice_get hs 0 → IsInFront names c c next next (kept_by hs ts rest) rest
view_nowhere names c next [] no_terms rest none = front_none names c next rest
view_nowhere names c next [] (term_and t ts) rest none = front_none names c next rest
view_nowhere names c next (x ∷ hs) ts rest none = absurd cc
