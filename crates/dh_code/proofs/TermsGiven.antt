-- What the code of an expression gives is the value of the expression, with its accesses and faults in order.
use Rattle.std.proofs.Common.{◌≡◌, ℕ, ◌+◌, ◌<◌, ◌≤◌, Bool, true, false, if◌then◌else◌, List, [], ◌∷◌, ◌++◌, length, take, drop, Some, None, refl, ap, sym, ◌∙◌, subst, arith, append-nil}
use Rattle.std.specs.Prelude.{Option, slice_index}
use Rattle.std.specs.List.{AllByRecursion}
use Rattle.std.proofs.lemmas.Bool.{eqb-true}
use Rattle.std.proofs.lemmas.List.{length-append, map-append}
use Rattle.dh_base.specs.declared.places.Place.{Place}
use Rattle.dh_value.specs.declared.kinds.Kind.{Kind}
use Rattle.dh_value.specs.declared.kinds.Kind.TheVariants as kind
use Rattle.dh_value.specs.declared.operators.Op.{Op}
use Rattle.dh_value.specs.declared.words.Word.{Word}
use Rattle.dh_value.specs.Words as words
use Rattle.dh_value.specs.Words.{IsKind, IsWord, residue, width_of, with_bits, word_of}
use Rattle.dh_value.specs.Operations.{binary_of, result_of}
use Rattle.dh_value.proofs.Values.{integer_width, residue_cut}
use Rattle.dh_value.proofs.WordLaws.{word_of_is_word, word_again}
use Rattle.dh_tree.specs.declared.tables.MemEntry.{MemEntry}
use Rattle.dh_tree.specs.Elements.{Spot}
use Rattle.dh_tree.specs.Shapes.{IsMemory}
use Rattle.dh_meaning.specs.Paths.{Path}
use Rattle.dh_meaning.specs.Core.{Reach, CoreTerm, literal, truth_literal, variable, read, binary, convert, by_indices, by_row, by_views, CoreTerms, no_terms, term_and}
use Rattle.dh_meaning.specs.Core as core
use Rattle.dh_meaning.specs.Effects.{Begun, Event, Variables, bits_at, kind_in, read_made, spot_by_indices, spot_by_row, spot_by_views, spot_reached, target_events, term_events, terms_events, value_of_term, values_of}
use Rattle.dh_code.specs.declared.codes.Operand.{Operand}
use Rattle.dh_code.specs.declared.codes.Operand.TheVariants.{Variable}
use Rattle.dh_code.specs.declared.codes.CodeOperation.{CodeOperation}
use Rattle.dh_code.specs.declared.codes.CodeOperation.TheVariants.{Binary, Convert, Read}
use Rattle.dh_code.specs.declared.places.VariableSlots.{VariableSlots}
use Rattle.dh_code.specs.Made.{MadeExpression, access_to, one_more, target_made, term_made, terms_made}
use Rattle.dh_tree.specs.Kinds.{same_kind}
use Rattle.dh_code.specs.Operated.{Sight, access_spot, events_after, index_values, kind_of_operand, lowest_word, mask_of, operand_word, events_of_operation, word_of_operation, sight_after, target_spot}
use Rattle.dh_code.specs.Passing.{steps_of, step_views}
use Rattle.dh_code.specs.Plain.{all_plain, plain}
use Rattle.dh_code.specs.Ranks.{IsPath, rank_of, ranks_of}
use Rattle.dh_code.specs.Scenes.{AreSmall}
use Rattle.dh_code.specs.Slots.{Holds, Placing, held_at}
use Rattle.dh_code.specs.Suited.{AllInside, AreInside, AreSuited, IsInside, IsSuited, IsSuitedTarget, TargetInside, term_kind}
use Rattle.dh_code.proofs.Ranked.{path_begins, rank_at}
use Rattle.dh_code.proofs.Sights.{IsBefore, AreBefore, before_more, events_append, more_before, more_events, more_value, operand_stays, ranks_stay, room_stays, sight_append, slots_stay}
use Rattle.dh_code.proofs.ValuesOfTerms.{value_kind, value_word}

pub same_kind_is : (j k : Kind) → same_kind j k ≡ true → j ≡ k
same_kind_is kind.Bool kind.Bool e = refl
same_kind_is (kind.Unsigned m) (kind.Unsigned n) e = ap kind.Unsigned (eqb-true m n e)
same_kind_is (kind.Signed m) (kind.Signed n) e = ap kind.Signed (eqb-true m n e)
same_kind_is kind.Bool (kind.Unsigned n) e = absurd cc
same_kind_is kind.Bool (kind.Signed n) e = absurd cc
same_kind_is (kind.Unsigned m) kind.Bool e = absurd cc
same_kind_is (kind.Unsigned m) (kind.Signed n) e = absurd cc
same_kind_is (kind.Signed m) kind.Bool e = absurd cc
same_kind_is (kind.Signed m) (kind.Unsigned n) e = absurd cc

-- the kind of the operand that is an expression's value
pub made_kind : (held : List VariableSlots) (table : List MemEntry) (at : ℕ) (t : CoreTerm) → kind_of_operand (term_made held table at t).value ≡ term_kind table t
made_kind held table at (literal kind negative n) = refl
made_kind held table at (truth_literal value) = refl
made_kind held table at (variable kind depth entity) = refl
made_kind held table at (read r target) = refl
made_kind held table at (binary o left right) = ap (λ k. result_of o k) (made_kind held table at left)
made_kind held table at (convert to inner) = by (same_kind (kind_of_operand (term_made held table at inner).value) to) refl
  where
    by : (b : Bool) → same_kind (kind_of_operand (term_made held table at inner).value) to ≡ b
        → kind_of_operand (if b then term_made held table at inner else one_more at (term_made held table at inner).operations (Convert (term_made held table at inner).value to) to).value ≡ to
    by true e = same_kind_is _ to e
    by false e = refl

-- a plain list of events in two parts
pub plain_append : (xs ys : List Event) → all_plain (xs ++ ys) ≡ all_plain xs ++ all_plain ys
plain_append xs ys = map-append plain xs ys

plain_read : (r : Reach) (path : Path) (o : Option Spot) (place : Place) (memory : ℕ) → r.place ≡ place → read_made (record { number = 0; place = place; memory = memory }) [] o ≡ plain (read_made r path o)
plain_read r path None place memory is = ap (λ p. read_made (record { number = 0; place = p; memory = memory }) [] None) (sym is)
plain_read r path (Some s) place memory is = ap (λ p. read_made (record { number = 0; place = p; memory = memory }) [] (Some s)) (sym is)

module _ (p : Placing) (b : Begun) (v : Variables) (factors : List ℕ) (path : Path) (inside : IsPath factors path) (entries : AllByRecursion IsMemory b.table) (small : AreSmall b.table b.memories) where
  abbrev terms : ℕ → CoreTerm → MadeExpression
  terms at t = term_made p.held b.table at t

  -- what is seen fits the variables at the path
  pub record Sees (w : Sight) : Type 0 where
    pub slots : Holds p w.slots v
    pub ranks : w.ranks ≡ ranks_of factors path

  pub sees_on : (w : Sight) (at : ℕ) (os : List CodeOperation) → Sees w → Sees (sight_after b w at os)
  sees_on w at os s = record {
    slots = subst (λ (l : List ℕ). Holds p l v) (sym (slots_stay b w at os)) s.slots;
    ranks = ranks_stay b w at os ∙ s.ranks;
  }

  -- the code gives the value of the expression
  pub record Gives (w : Sight) (at : ℕ) (t : CoreTerm) : Type 0 where
    pub value : operand_word (sight_after b w at (terms at t).operations) (terms at t).value ≡ value_of_term b v path t
    pub events : events_after b w at (terms at t).operations ≡ all_plain (term_events b v path t)
    pub before : IsBefore b (at + length (terms at t).operations) (terms at t).value

  pub record GivesAll (w : Sight) (at : ℕ) (ts : CoreTerms) : Type 0 where
    pub values : index_values (sight_after b w at (terms_made p.held b.table at ts).operations) (terms_made p.held b.table at ts).values ≡ values_of b v path ts
    pub events : events_after b w at (terms_made p.held b.table at ts).operations ≡ all_plain (terms_events b v path ts)
    pub before : AreBefore b (at + length (terms_made p.held b.table at ts).operations) (terms_made p.held b.table at ts).values

  -- and leads where the access leads
  pub record Leads (w : Sight) (at : ℕ) (r : Reach) (target : core.Target) : Type 0 where
    pub spot : target_spot b (sight_after b w at (target_made p.held b.table at target).operations) r.memory (target_made p.held b.table at target).target ≡ spot_reached b v path r target
    pub events : events_after b w at (target_made p.held b.table at target).operations ≡ all_plain (target_events b v path target)

  given_variable : (w : Sight) (k : Kind) (depth entity : ℕ) → Sees w → IsKind k → IsInside p factors depth entity
      → operand_word w (Variable (held_at p.held entity).first (held_at p.held entity).depth k (mask_of k)) ≡ word_of k (v entity (take depth path))
  given_variable w k depth entity s sized i =
      ap (λ d. lowest_word k (slice_index w.slots ((held_at p.held entity).first + slice_index w.ranks d))) i.held
      ∙ (ap (λ l. lowest_word k (slice_index w.slots ((held_at p.held entity).first + slice_index l depth))) s.ranks
      ∙ (ap (λ n. lowest_word k (slice_index w.slots ((held_at p.held entity).first + n))) (rank_at 0 factors path depth i.deep inside ∙ ap (λ l. rank_of l (take depth path)) (sym i.round))
      ∙ (ap (λ n. lowest_word k n) (s.slots.each entity (take depth path) i.known (subst (λ (l : List ℕ). IsPath l (take depth path)) (sym i.round) (path_begins factors path depth inside)))
      ∙ ap (λ n. with_bits k n) (residue_cut (v entity (take depth path)) (width_of k) sized.1))))

  pub room_left : (w : Sight) (at n m : ℕ) (os : List CodeOperation) → length os ≡ n → at + (n + m) ≤ length w.given → (at + n) + m ≤ length (sight_after b w at os).given
  room_left w at n m os is room = subst (λ (k : ℕ). (at + n) + m ≤ k) (sym (room_stays b w at os)) (moved at n m (length w.given) room)
    where
      moved : (a x y k : ℕ) → a + (x + y) ≤ k → (a + x) + y ≤ k
      moved a x y k e = omega (arith, e)

  pub words_of : (t : CoreTerm) → IsSuited b.table t → IsWord (value_of_term b v path t)
  words_of t h = value_word b v path entries small t h

  -- one operation more behind code that is done
  more_room : (w : Sight) (at n : ℕ) (os : List CodeOperation) (o : CodeOperation) → length (os ++ o ∷ []) ≡ n → at + n ≤ length w.given → at + length os < length w.given
  more_room w at n os o is room = by (length os) (length (os ++ o ∷ [])) (length-append os (o ∷ [])) is
    where
      by : (m k : ℕ) → k ≡ m + 1 → k ≡ n → at + m < length w.given
      by m k e f = omega (arith, e, f, room)

  first_room : (at n m k : ℕ) → at + (n + m) ≤ k → at + n ≤ k
  first_room at n m k e = omega (arith, e)

  both_room : (w : Sight) (at : ℕ) (xs ys : List CodeOperation) → at + length (xs ++ ys) ≤ length w.given → at + (length xs + length ys) ≤ length w.given
  both_room w at xs ys room = subst (λ (n : ℕ). at + n ≤ length w.given) (length-append xs ys) room

  less_room : (w : Sight) (at : ℕ) (os : List CodeOperation) (o : CodeOperation) → at + length (os ++ o ∷ []) ≤ length w.given → at + length os ≤ length w.given
  less_room w at os o room = by (length os) (length (os ++ o ∷ [])) (length-append os (o ∷ [])) room
    where
      by : (n m : ℕ) → m ≡ n + 1 → at + m ≤ length w.given → at + n ≤ length w.given
      by n m e r = omega (arith, e, r)

  binary_room : (w : Sight) (at : ℕ) (xs ys : List CodeOperation) (o : CodeOperation) → at + length ((xs ++ ys) ++ o ∷ []) ≤ length w.given → at + (length xs + length ys) ≤ length w.given
  binary_room w at xs ys o room = both_room w at xs ys (less_room w at (xs ++ ys) o room)

  -- code that stands behind other code
  module _ (w : Sight) (at : ℕ) (xs ys : List CodeOperation) where
    abbrev first : Sight
    first = sight_after b w at xs

    abbrev second : Sight
    second = sight_after b first (at + length xs) ys

    pub first_stays : (o : Operand) (z : Word) → IsBefore b (at + length xs) o → operand_word first o ≡ z → operand_word (sight_after b w at (xs ++ ys)) o ≡ z
    first_stays o z before is = ap (λ (x : Sight). operand_word x o) (sight_append b w at xs ys) ∙ (operand_stays b first (at + length xs) ys o before ∙ is)

    second_is : (o : Operand) (z : Word) → operand_word second o ≡ z → operand_word (sight_after b w at (xs ++ ys)) o ≡ z
    second_is o z is = ap (λ (x : Sight). operand_word x o) (sight_append b w at xs ys) ∙ is

    pub both_events : (es fs : List Event) → events_after b w at xs ≡ all_plain es → events_after b first (at + length xs) ys ≡ all_plain fs → events_after b w at (xs ++ ys) ≡ all_plain (es ++ fs)
    both_events es fs e f =
        events_append b w at xs ys
        ∙ (ap (λ l. l ++ events_after b first (at + length xs) ys) e ∙ (ap (λ l. all_plain es ++ l) f ∙ sym (plain_append es fs)))

    longer : (n : ℕ) → at + length xs + length ys ≡ at + length (xs ++ ys)
    longer n = by (length xs) (length ys) (length (xs ++ ys)) (length-append xs ys)
      where
        by : (x y z : ℕ) → z ≡ x + y → at + x + y ≡ at + z
        by x y z e = omega (arith, e)

  binary_gives : (w : Sight) (at : ℕ) (o : Op) (left right : CoreTerm) → IsSuited b.table (binary o left right) → at + length (terms at (binary o left right)).operations ≤ length w.given
      → Gives w at left → Gives (sight_after b w at (terms at left).operations) (at + length (terms at left).operations) right → Gives w at (binary o left right)
  binary_gives w at o left right h room gl gr = record {
    value = more_value b w at os it k (subst (λ (x : Word). IsWord x) (sym same) (words_of (binary o left right) h)) kinds (more_room w at _ os it refl room) ∙ same;
    events = more_events b w at os it k ∙ (append-nil (events_after b w at os) ∙ both_events w at one.operations two.operations (term_events b v path left) (term_events b v path right) gl.events gr.events);
    before = more_before b w at os it k;
  }
    where
      one : MadeExpression
      one = terms at left

      two : MadeExpression
      two = terms (at + length one.operations) right

      os : List CodeOperation
      os = one.operations ++ two.operations

      it : CodeOperation
      it = Binary o one.value two.value

      k : Kind
      k = result_of o (kind_of_operand one.value)

      same : word_of_operation b (sight_after b w at os) it ≡ value_of_term b v path (binary o left right)
      same =
          ap (λ x. binary_of o x (operand_word (sight_after b w at os) two.value)) (first_stays w at one.operations two.operations one.value (value_of_term b v path left) gl.before gl.value)
          ∙ ap (λ y. binary_of o (value_of_term b v path left) y) (second_is w at one.operations two.operations two.value (value_of_term b v path right) gr.value)

      kinds : (word_of_operation b (sight_after b w at os) it).kind ≡ k
      kinds = ap (λ (x : Word). x.kind) same ∙ (value_kind b v path (binary o left right) ∙ ap (λ j. result_of o j) (sym (made_kind p.held b.table at left)))

  read_gives : (w : Sight) (at : ℕ) (r : Reach) (target : core.Target) → IsSuitedTarget b.table r.memory target → at + length (terms at (read r target)).operations ≤ length w.given → Leads w at r target → Gives w at (read r target)
  read_gives w at r target h room g = record {
    value = more_value b w at os it (kind_in b.table r.memory) (subst (λ (x : Word). IsWord x) (sym same) (words_of (read r target) h)) refl (more_room w at _ os it refl room) ∙ same;
    events = more_events b w at os it (kind_in b.table r.memory) ∙ (ap (λ l. l ++ events_of_operation b (sight_after b w at os) it) g.events ∙ (ap (λ e. all_plain (target_events b v path target) ++ e ∷ []) made_event ∙ sym (plain_append (target_events b v path target) (read_made r path (spot_reached b v path r target) ∷ []))));
    before = more_before b w at os it (kind_in b.table r.memory);
  }
    where
      os : List CodeOperation
      os = (target_made p.held b.table at target).operations

      it : CodeOperation
      it = Read (access_to r (target_made p.held b.table at target).target)

      same : word_of_operation b (sight_after b w at os) it ≡ value_of_term b v path (read r target)
      same = ap (λ o. with_bits (kind_in b.table r.memory) (bits_at b.memories o)) g.spot

      made_event : read_made (record { number = 0; place = r.place; memory = r.memory }) [] (access_spot b (sight_after b w at os) (access_to r (target_made p.held b.table at target).target)) ≡ plain (read_made r path (spot_reached b v path r target))
      made_event = ap (λ o. read_made (record { number = 0; place = r.place; memory = r.memory }) [] o) g.spot ∙ plain_read r path (spot_reached b v path r target) r.place r.memory refl

  -- what is to be shown of some code
  abbrev IsRight : (w : Sight) (at : ℕ) → MadeExpression → Word → List Event → Type 0
  IsRight w at m z es = (operand_word (sight_after b w at m.operations) m.value ≡ z) × ((events_after b w at m.operations ≡ all_plain es) × IsBefore b (at + length m.operations) m.value)

  convert_gives : (w : Sight) (at : ℕ) (to : Kind) (inner : CoreTerm) → IsSuited b.table (convert to inner) → at + length (terms at (convert to inner)).operations ≤ length w.given
      → (at + length (terms at inner).operations ≤ length w.given → Gives w at inner) → Gives w at (convert to inner)
  convert_gives w at to inner h room g =
      let r = by (same_kind (kind_of_operand m.value) to) refl room in
      record { value = r.0; events = r.1.0; before = r.1.1 }
    where
      m : MadeExpression
      m = terms at inner

      it : CodeOperation
      it = Convert m.value to

      worth : Word
      worth = value_of_term b v path inner

      kinds : worth.kind ≡ kind_of_operand m.value
      kinds = value_kind b v path inner ∙ sym (made_kind p.held b.table at inner)

      by : (t : Bool) → same_kind (kind_of_operand m.value) to ≡ t → at + length (if t then m else one_more at m.operations it to).operations ≤ length w.given
          → IsRight w at (if t then m else one_more at m.operations it to) (word_of to (words.value_of worth)) (term_events b v path inner)
      by true e room =
          let i = g room in
          (i.value ∙ (sym (word_again worth (words_of inner h.1)) ∙ ap (λ k. word_of k (words.value_of worth)) (kinds ∙ same_kind_is (kind_of_operand m.value) to e)), (i.events, i.before))
      by false e room =
          let i = g (less_room w at m.operations it room) in
          let same : word_of_operation b (sight_after b w at m.operations) it ≡ word_of to (words.value_of worth) = ap (λ (x : Word). word_of to (words.value_of x)) i.value in (
            more_value b w at m.operations it to (word_of_is_word to _ (integer_width to h.0)) refl (more_room w at _ m.operations it refl room) ∙ same,
            (more_events b w at m.operations it to ∙ (append-nil (events_after b w at m.operations) ∙ i.events), more_before b w at m.operations it to),
          )

  all_gives : (w : Sight) (at : ℕ) (t : CoreTerm) (ts : CoreTerms) → Gives w at t → GivesAll (sight_after b w at (terms at t).operations) (at + length (terms at t).operations) ts → GivesAll w at (term_and t ts)
  all_gives w at t ts gl gr = record {
    values =
        ap (λ (x : Word). words.value_of x ∷ index_values (sight_after b w at (one.operations ++ two)) others) (first_stays w at one.operations two one.value (value_of_term b v path t) gl.before gl.value)
        ∙ ap (λ l. words.value_of (value_of_term b v path t) ∷ l) (ap (λ (x : Sight). index_values x others) (sight_append b w at one.operations two) ∙ gr.values);
    events = both_events w at one.operations two (term_events b v path t) (terms_events b v path ts) gl.events gr.events;
    before = (before_more b (at + length one.operations) (at + length (one.operations ++ two)) one.value (further (length one.operations) (length two) _ (length-append one.operations two)) gl.before, subst (λ (n : ℕ). AreBefore b n others) (longer w at one.operations two 0) gr.before);
  }
    where
      one : MadeExpression
      one = terms at t

      two : List CodeOperation
      two = (terms_made p.held b.table (at + length one.operations) ts).operations

      others : List Operand
      others = (terms_made p.held b.table (at + length one.operations) ts).values

      further : (n m k : ℕ) → k ≡ n + m → at + n ≤ at + k
      further n m k e = omega (arith, e)

  mutual
    pub gives : (w : Sight) (at : ℕ) (t : CoreTerm) → Sees w → IsSuited b.table t → AreInside p factors t → at + length (terms at t).operations ≤ length w.given → Gives w at t
    gives w at (literal kind negative n) s h i room = record { value = refl; events = refl; before = tt }
    gives w at (truth_literal value) s h i room = record { value = refl; events = refl; before = tt }
    gives w at (variable kind depth entity) s h i room = record { value = given_variable w kind depth entity s h i; events = refl; before = tt }
    gives w at (read r target) s h i room = read_gives w at r target h room (leads w at r target s h i (less_room w at (target_made p.held b.table at target).operations (Read (access_to r (target_made p.held b.table at target).target)) room))
    gives w at (binary o left right) s h i room =
        let one = terms at left in
        let two = terms (at + length one.operations) right in
        let r = binary_room w at one.operations two.operations (Binary o one.value two.value) room in
        binary_gives w at o left right h room
        (gives w at left s h.1.0 i.0 (first_room at (length one.operations) (length two.operations) _ r))
        (gives (sight_after b w at one.operations) (at + length one.operations) right (sees_on w at one.operations s) h.1.1 i.1 (room_left w at (length one.operations) (length two.operations) one.operations refl r))
    gives w at (convert to inner) s h i room = convert_gives w at to inner h room (λ room'. gives w at inner s h.1 i room')

    pub leads : (w : Sight) (at : ℕ) (r : Reach) (target : core.Target) → Sees w → IsSuitedTarget b.table r.memory target → TargetInside p factors target
        → at + length (target_made p.held b.table at target).operations ≤ length w.given → Leads w at r target
    leads w at r (by_indices indices) s h i room =
        let g = gives_all w at indices s h.1 i room in
        record { spot = ap (λ l. spot_by_indices b.table r.memory l) g.values; events = g.events }
    leads w at r (by_views steps n terms) s h i room =
        let g = gives_all w at terms s h.1.1 i room in
        record {
          spot = ap (λ l. spot_by_views b.table r.memory (steps_of (step_views steps)) (take n l) (drop n l)) g.values
              ∙ ap (λ ss. spot_by_views b.table r.memory ss (take n (values_of b v path terms)) (drop n (values_of b v path terms))) h.1.0.are;
          events = g.events;
        }
    leads w at r (by_row bank row) s h i room =
        let g = gives w at row s h.1 i room in
        record { spot = ap (λ (x : Word). spot_by_row b.table r.memory bank (words.value_of x)) g.value; events = g.events }

    pub gives_all : (w : Sight) (at : ℕ) (ts : CoreTerms) → Sees w → AreSuited b.table ts → AllInside p factors ts → at + length (terms_made p.held b.table at ts).operations ≤ length w.given → GivesAll w at ts
    gives_all w at no_terms s h i room = record { values = refl; events = refl; before = tt }
    gives_all w at (term_and t ts) s h i room =
        let one = terms at t in
        let two = terms_made p.held b.table (at + length one.operations) ts in
        let r = both_room w at one.operations two.operations room in
        all_gives w at t ts
        (gives w at t s h.0 i.0 (first_room at (length one.operations) (length two.operations) _ r))
        (gives_all (sight_after b w at one.operations) (at + length one.operations) ts (sees_on w at one.operations s) h.1 i.1 (room_left w at (length one.operations) (length two.operations) one.operations refl r))
