-- Parts of a block put together. A step that fits all operations fits those of each part, so what was stated of a
-- part holds of the whole; tales come one after the other.
use Rattle.std.proofs.Common.{◌≡◌, ℕ, suc, ◌+◌, ◌-◌, ◌<◌, ◌^◌, drop, get_or, map, Bool, true, false, if◌then◌else◌, List, [], ◌∷◌, ◌++◌, Some, None, refl, sym, ap, ◌∙◌, subst, arith, length, append_assoc}
use Rattle.std.specs.Prelude.{Option, ℤ, pos, min, Result, Ok, is_ok}
use Rattle.dh_base.specs.declared.lists.NoMemory.{NoMemory}
use Rattle.std.proofs.Math.Seq.{drop-cons}
use Rattle.std.proofs.lemmas.List.{append-nil}
use Rattle.dh_base.specs.declared.places.Place.{Place}
use Rattle.dh_value.specs.declared.kinds.Kind.{Kind}
use Rattle.dh_value.specs.declared.kinds.Kind.TheVariants as kind
use Rattle.dh_value.specs.declared.operators.Op.{Op}
use Rattle.dh_value.specs.declared.operators.Op.TheVariants as op
use Rattle.dh_value.specs.declared.words.Word.{Word}
use Rattle.dh_value.specs.Words as words
use Rattle.dh_value.specs.Words.{IsKind, with_bits, word_of}
use Rattle.dh_value.specs.Operations.{binary_of, truth}
use Rattle.dh_tree.specs.WiderKinds.{wider}
use Rattle.dh_tree.specs.PlainTrees as plain
use Rattle.dh_tree.specs.Seen.{form_seen, term_seen, terms}
use Rattle.dh_tree.specs.declared.trees.expressions.Expr.{Expr}
use Rattle.dh_tree.specs.declared.trees.expressions.Ref.{Ref}
use Rattle.dh_meaning.specs.AccessNumbers.{term_accesses, terms_accesses}
use Rattle.dh_meaning.specs.Bindings.{kind_found, kind_or_first}
use Rattle.dh_meaning.specs.Core.{CoreTerm, CoreTerms, Target, binary, by_row, read}
use Rattle.dh_meaning.specs.CoreOf.{core_term, core_terms, entity_number, extended, memory_of, operation_of, target_to, way_of}
use Rattle.dh_meaning.specs.Effects as meaning
use Rattle.dh_meaning.specs.Effects.{Event, Variables, bits_of, read_made, reads, writes, faults, spot_reached, target_events, term_events, value_of_term}
use Rattle.dh_meaning.specs.Paths.{Path}
use Rattle.dh_meaning.specs.Ways.{Way}
use Rattle.dh_code.specs.Extended.{extension_of}
use Rattle.dh_ways.proofs.TargetsOnWays.{target_makes}
use Rattle.dh_expressions.specs.declared.accesses.Accesses.{Accesses}
use Rattle.dh_expressions.specs.declared.drafts.Draft.{Draft}
use Rattle.dh_expressions.specs.declared.scenes.Lane.{Lane}
use Rattle.dh_expressions.specs.declared.scenes.Scene.{Scene}
use Rattle.dh_expressions.specs.declared.elements.Aim.{Aim}
use Rattle.dh_expressions.specs.declared.terms.Valued.{Valued}
use Rattle.dh_expressions.specs.Drafted.{BlockBegun, Computes, Extends, FitsStep, Gives, BlockStep, Tale, failed, put, word_shown, tale, tales_told}
use Rattle.dh_expressions.specs.Shown.{applied_shown, conversion_shown, extended_shown, is_kept, kind_written}
use Rattle.dh_expressions.specs.Evaluated.{AimsByIndices, AimsByRow, Evaluates, EvaluatesAll, EvaluatesIndices, EvaluatesTerm, Fair, FairAll, IsDone, IsSited, Knows, PassesWay, Sees, SeesAll, SeesWay, ShowsVariable, View, begun_of, known_in, lane_guard, lane_path, numbers_shown, term_told, term_value, terms_told, terms_values}
use Rattle.dh_expressions.specs.Named.{first_view}
use Rattle.dh_expressions.specs.Reaching.{AimsAt, HasTarget, IsFairRead, IsRead, ReadsAt, ReadsElement, ReadsNextElement, RowIs, reach_at}
use Rattle.dh_expressions.proofs.Pushing.{begun_later, extends_again, extends_self, fits_before, gives}
use Rattle.dh_expressions.proofs.WaysShown.{way_aims, way_extends, way_quiet}

pub told_append : (xs ys : List Event) → tales_told (xs ++ ys) ≡ tales_told xs ++ tales_told ys
told_append [] ys = refl
told_append (reads number place path spot ∷ xs) ys = told_append xs ys
told_append (writes number place path spot value ∷ xs) ys = ap (λ (ts : List Tale). put spot value ∷ ts) (told_append xs ys)
told_append (faults number place path fault ∷ xs) ys = ap (λ (ts : List Tale). failed fault place ∷ ts) (told_append xs ys)

-- a value that reads nothing
pub evaluates_still : (guard : Option ℕ) (old new : Draft) (a : Accesses) (n : ℕ) (made : BlockStep → Word) (Fair Sees : View → Type 0) (word : View → Word)
    → Gives old new n made → ((v : View) → Sees v → made v.step ≡ word v) → Evaluates guard old new a a n Fair Sees word (λ v. [])
evaluates_still guard old new a n made Fair Sees word g same = record {
  extends = g.extends;
  knows = λ v f b k fair. k;
  is = λ v f b k fair s. g.is v.step f b ∙ same v s;
  tells = λ v f b k fair s on. g.quiet v.step f b ∙ sym (append-nil (tale v.step old));
  quiet = λ v f b off. g.quiet v.step f b;
}

-- a value made of one
pub evaluates_by : (guard : Option ℕ) (old middle new : Draft) (a b : Accesses) (n m : ℕ) (Fair Sees : View → Type 0) (word : View → Word) (events : View → List Event) (make : Word → Word)
    → Evaluates guard old middle a b n Fair Sees word events → Gives middle new m (λ x. make (word_shown x n)) → Evaluates guard old new a b m Fair Sees (λ v. make (word v)) events
evaluates_by guard old middle new a b n m Fair Sees word events make e g = record {
  extends = extends_again old middle new e.extends g.extends;
  knows = λ v f s k fair. e.knows v (fits_before middle new v.step g.extends f) s k fair;
  is = λ v f s k fair sees. g.is v.step f (begun_later old middle v.step e.extends s) ∙ ap make (e.is v (fits_before middle new v.step g.extends f) s k fair sees);
  tells = λ v f s k fair sees on. g.quiet v.step f (begun_later old middle v.step e.extends s) ∙ e.tells v (fits_before middle new v.step g.extends f) s k fair sees on;
  quiet = λ v f s off. g.quiet v.step f (begun_later old middle v.step e.extends s) ∙ e.quiet v (fits_before middle new v.step g.extends f) s off;
}

-- the same, told otherwise
pub evaluates_same : (guard : Option ℕ) (old new : Draft) (a b : Accesses) (n : ℕ) (Fair Sees FairOf SeesOf : View → Type 0) (word of : View → Word) (events told_of : View → List Event)
    → ((v : View) → FairOf v → Fair v) → ((v : View) → SeesOf v → Sees v) → ((v : View) → SeesOf v → word v ≡ of v) → ((v : View) → events v ≡ told_of v)
    → Evaluates guard old new a b n Fair Sees word events → Evaluates guard old new a b n FairOf SeesOf of told_of
evaluates_same guard old new a b n Fair Sees FairOf SeesOf word of events told_of fairly surely same alike e = record {
  extends = e.extends;
  knows = λ v f s k fair. e.knows v f s k (fairly v fair);
  is = λ v f s k fair sees. e.is v f s k (fairly v fair) (surely v sees) ∙ same v sees;
  tells = λ v f s k fair sees on. e.tells v f s k (fairly v fair) (surely v sees) on ∙ ap (λ (es : List Event). tale v.step old ++ tales_told es) (alike v);
  quiet = e.quiet;
}

-- a value made of two
module _ (guard : Option ℕ) (d0 d1 d2 d3 : Draft) (a0 a1 a2 : Accesses) (l r z : ℕ)
    (Fair Also Sees With : View → Type 0) (first second : View → Word) (events more : View → List Event) (h : Word → Word → Word)
    (e : Evaluates guard d0 d1 a0 a1 l Fair Sees first events) (k : Evaluates guard d1 d2 a1 a2 r Also With second more)
    (g : Gives d2 d3 z (λ s. h (word_shown s l) (word_shown s r))) where
  fits2 : (v : View) → FitsStep v.step d3 → FitsStep v.step d2
  fits2 v s = fits_before d2 d3 v.step g.extends s

  fits1 : (v : View) → FitsStep v.step d3 → FitsStep v.step d1
  fits1 v s = fits_before d1 d2 v.step k.extends (fits2 v s)

  begun1 : (v : View) → BlockBegun v.step d0 → BlockBegun v.step d1
  begun1 v b = begun_later d0 d1 v.step e.extends b

  begun2 : (v : View) → BlockBegun v.step d0 → BlockBegun v.step d2
  begun2 v b = begun_later d1 d2 v.step k.extends (begun1 v b)

  pub evaluates_two : Evaluates guard d0 d3 a0 a2 z (λ v. Fair v × Also v) (λ v. Sees v × With v) (λ v. h (first v) (second v)) (λ v. events v ++ more v)
  evaluates_two = record {
    extends = extends_again d0 d1 d3 e.extends (extends_again d1 d2 d3 k.extends g.extends);
    knows = λ v s b known fair. k.knows v (fits2 v s) (begun1 v b) (e.knows v (fits1 v s) b known fair.0) fair.1;
    is = λ v s b known fair sees.
        g.is v.step s (begun2 v b)
        ∙ (ap (λ w. h w (word_shown v.step r)) (e.is v (fits1 v s) b known fair.0 sees.0)
        ∙ ap (λ w. h (first v) w) (k.is v (fits2 v s) (begun1 v b) (e.knows v (fits1 v s) b known fair.0) fair.1 sees.1));
    tells = λ v s b known fair sees on.
        g.quiet v.step s (begun2 v b)
        ∙ (k.tells v (fits2 v s) (begun1 v b) (e.knows v (fits1 v s) b known fair.0) fair.1 sees.1 on
        ∙ (ap (λ (ts : List Tale). ts ++ tales_told (more v)) (e.tells v (fits1 v s) b known fair.0 sees.0 on)
        ∙ (append_assoc (tale v.step d0) (tales_told (events v)) (tales_told (more v)) ∙ ap (λ (ts : List Tale). tale v.step d0 ++ ts) (sym (told_append (events v) (more v))))));
    quiet = λ v s b off. g.quiet v.step s (begun2 v b) ∙ (k.quiet v (fits2 v s) (begun1 v b) off ∙ e.quiet v (fits1 v s) b off);
  }

-- Operands. What an operation makes of extended operands is what it makes of their words in the extended kind.

abbrev pub extended_word : Kind → Word → Word
extended_word kind.Bool w = w
extended_word (kind.Unsigned m) w = word_of (kind.Unsigned m) (words.value_of w)
extended_word (kind.Signed m) w = word_of (kind.Signed m) (words.value_of w)

pub extended_value : (b : meaning.Begun) (vs : Variables) (path : Path) (to : Kind) (t : CoreTerm) → value_of_term b vs path (extended to t) ≡ extended_word to (value_of_term b vs path t)
extended_value b vs path kind.Bool t = refl
extended_value b vs path (kind.Unsigned m) t = refl
extended_value b vs path (kind.Signed m) t = refl

pub extended_events : (b : meaning.Begun) (vs : Variables) (path : Path) (to : Kind) (t : CoreTerm) → term_events b vs path (extended to t) ≡ term_events b vs path t
extended_events b vs path kind.Bool t = refl
extended_events b vs path (kind.Unsigned m) t = refl
extended_events b vs path (kind.Signed m) t = refl

module _ (b : meaning.Begun) (vs : Variables) (path : Path) (j k : Kind) (l r : CoreTerm) where
  both_value : (o : Op) (to : Kind) → value_of_term b vs path (binary o (extended to l) (extended to r)) ≡ binary_of o (extended_word to (value_of_term b vs path l)) (extended_word to (value_of_term b vs path r))
  both_value o to = ap (λ w. binary_of o w (value_of_term b vs path (extended to r))) (extended_value b vs path to l) ∙ ap (λ w. binary_of o (extended_word to (value_of_term b vs path l)) w) (extended_value b vs path to r)

  both_events : (o : Op) (to : Kind) → term_events b vs path (binary o (extended to l) (extended to r)) ≡ term_events b vs path l ++ term_events b vs path r
  both_events o to = ap (λ (es : List Event). es ++ term_events b vs path (extended to r)) (extended_events b vs path to l) ∙ ap (λ (es : List Event). term_events b vs path l ++ es) (extended_events b vs path to r)

  pub operation_value : (o : Op) → binary_of o (extended_word (extension_of o j k) (value_of_term b vs path l)) (extended_word (extension_of o j k) (value_of_term b vs path r)) ≡ value_of_term b vs path (operation_of o j k l r)
  operation_value op.Shl = refl
  operation_value op.Shr = refl
  operation_value op.Both = refl
  operation_value op.Either = refl
  operation_value op.Add = sym (both_value op.Add (wider j k))
  operation_value op.Sub = sym (both_value op.Sub (wider j k))
  operation_value op.Mul = sym (both_value op.Mul (wider j k))
  operation_value op.And = sym (both_value op.And (wider j k))
  operation_value op.Or = sym (both_value op.Or (wider j k))
  operation_value op.Xor = sym (both_value op.Xor (wider j k))
  operation_value op.Lt = sym (both_value op.Lt (wider j k))
  operation_value op.Gt = sym (both_value op.Gt (wider j k))
  operation_value op.Le = sym (both_value op.Le (wider j k))
  operation_value op.Ge = sym (both_value op.Ge (wider j k))
  operation_value op.Eq = sym (both_value op.Eq (wider j k))
  operation_value op.Ne = sym (both_value op.Ne (wider j k))

  pub operation_events : (o : Op) → term_events b vs path l ++ term_events b vs path r ≡ term_events b vs path (operation_of o j k l r)
  operation_events op.Shl = refl
  operation_events op.Shr = refl
  operation_events op.Both = refl
  operation_events op.Either = refl
  operation_events op.Add = sym (both_events op.Add (wider j k))
  operation_events op.Sub = sym (both_events op.Sub (wider j k))
  operation_events op.Mul = sym (both_events op.Mul (wider j k))
  operation_events op.And = sym (both_events op.And (wider j k))
  operation_events op.Or = sym (both_events op.Or (wider j k))
  operation_events op.Xor = sym (both_events op.Xor (wider j k))
  operation_events op.Lt = sym (both_events op.Lt (wider j k))
  operation_events op.Gt = sym (both_events op.Gt (wider j k))
  operation_events op.Le = sym (both_events op.Le (wider j k))
  operation_events op.Ge = sym (both_events op.Ge (wider j k))
  operation_events op.Eq = sym (both_events op.Eq (wider j k))
  operation_events op.Ne = sym (both_events op.Ne (wider j k))

-- a word that needs no conversion is as it would be converted
pub kept_same : (b : Bool) (to : Kind) (w : Word) → (b ≡ true → word_of to (words.value_of w) ≡ w) → (if b then w else word_of to (words.value_of w)) ≡ word_of to (words.value_of w)
kept_same true to w same = sym (same refl)
kept_same false to w same = refl

pub extended_same : (t : plain.Term) (to : Kind) (w : Word) → (is_kept t to ≡ true → word_of to (words.value_of w) ≡ w) → extended_shown t to w ≡ extended_word to w
extended_same t kind.Bool w same = refl
extended_same t (kind.Unsigned m) w same = kept_same (is_kept t (kind.Unsigned m)) (kind.Unsigned m) w same
extended_same t (kind.Signed m) w same = kept_same (is_kept t (kind.Signed m)) (kind.Signed m) w same

-- Expressions.
module _ (scene : Scene) (lane : Lane) (current : List (Option ℕ)) where
  pub cast_done : (d0 d1 d2 : Draft) (a b : Accesses) (n : ℕ) (place : Place) (k : Option Kind) (inner : plain.Term) (to : Kind) (r : Valued) (m : ℕ)
      → EvaluatesTerm scene lane current d0 d1 a b n inner r → Gives d1 d2 m (λ x. conversion_shown inner to (word_shown x r.value))
      → EvaluatesTerm scene lane current d0 d2 a b n (plain.term place k (plain.converted inner to)) (record { value = m; next = r.next })
  cast_done d0 d1 d2 a b n place k inner to r m e g = record {
    next = e.next;
    so = λ few. evaluates_same (lane_guard lane) d0 d2 a b m _ _ _ _ _ _ _ _ (λ v fair. fair) (λ v sees. sees.0)
        (λ v sees. kept_same (is_kept inner to) to (term_value scene lane v n inner) sees.1) (λ v. refl)
        (evaluates_by (lane_guard lane) d0 d1 d2 a b r.value m _ _ _ _ (λ w. conversion_shown inner to w) (e.so few) g);
  }

  pub binary_done : (d0 d1 d2 d3 : Draft) (a0 a1 a2 : Accesses) (n : ℕ) (place : Place) (k : Option Kind) (o : Op) (left right : plain.Term) (l r : Valued) (z : ℕ)
      → EvaluatesTerm scene lane current d0 d1 a0 a1 n left l → EvaluatesTerm scene lane current d1 d2 a1 a2 l.next right r
      → Gives d2 d3 z (λ s. applied_shown o left right (word_shown s l.value) (word_shown s r.value))
      → EvaluatesTerm scene lane current d0 d3 a0 a2 n (plain.term place k (plain.applied o left right)) (record { value = z; next = r.next })
  binary_done d0 d1 d2 d3 a0 a1 a2 n place k o left right l r z e h g = record {
    next = λ few. (moved few).next (second few) ∙ omega arith;
    so = λ few. evaluates_same (lane_guard lane) d0 d3 a0 a2 z _ _ _ _ _ _ _ _ (λ v fair. fair) (λ v sees. sees.0)
        (λ v sees.
        ap (λ w. binary_of o w (extended_shown right (extension_of o (kind_written left) (kind_written right)) (term_value scene lane v (n + term_accesses left) right)))
        (extended_same left (extension_of o (kind_written left) (kind_written right)) (term_value scene lane v n left) (sees.1).0)
        ∙ (ap (λ w. binary_of o (extended_word (extension_of o (kind_written left) (kind_written right)) (term_value scene lane v n left)) w)
        (extended_same right (extension_of o (kind_written left) (kind_written right)) (term_value scene lane v (n + term_accesses left) right) (sees.1).1)
        ∙ operation_value (begun_of v.step) v.variables (lane_path lane) (kind_found left) (kind_found right) (core_term (known_in scene) n left) (core_term (known_in scene) (n + term_accesses left) right) o))
        (λ v. operation_events (begun_of v.step) v.variables (lane_path lane) (kind_found left) (kind_found right) (core_term (known_in scene) n left) (core_term (known_in scene) (n + term_accesses left) right) o)
        (evaluates_two (lane_guard lane) d0 d1 d2 d3 a0 a1 a2 l.value r.value z _ _ _ _ _ _ _ _ (λ u w. applied_shown o left right u w) (e.so (first few)) ((moved few).so (second few)) g);
  }
    where
      first : n + (term_accesses left + term_accesses right) < 2 ^ 32 → n + term_accesses left < 2 ^ 32
      first few = omega (arith, few)

      second : n + (term_accesses left + term_accesses right) < 2 ^ 32 → n + term_accesses left + term_accesses right < 2 ^ 32
      second few = omega (arith, few)

      moved : n + (term_accesses left + term_accesses right) < 2 ^ 32 → EvaluatesTerm scene lane current d1 d2 a1 a2 (n + term_accesses left) right r
      moved few = subst (λ (m : ℕ). EvaluatesTerm scene lane current d1 d2 a1 a2 m right r) (e.next (first few)) h

  pub number_done : (d0 d1 : Draft) (a : Accesses) (n : ℕ) (place : Place) (k : Option Kind) (negative : Bool) (size : ℕ) (w : Word) (m : ℕ)
      → (IsKind (kind_or_first k) → w ≡ with_bits (kind_or_first k) (bits_of (kind_or_first k) negative size)) → Computes d0 d1 m (λ x. w)
      → EvaluatesTerm scene lane current d0 d1 a a n (plain.term place k (plain.number negative size)) (record { value = m; next = n })
  number_done d0 d1 a n place k negative size w m is c = record {
    next = λ few. omega arith;
    so = λ few. evaluates_still (lane_guard lane) d0 d1 a m (λ x. w) _ _ _ (gives d0 d1 m (λ x. w) c) (λ v sees. is sees);
  }

  pub truth_done : (d0 d1 : Draft) (a : Accesses) (n : ℕ) (place : Place) (k : Option Kind) (value : Bool) (w : Word) (m : ℕ)
      → w ≡ truth value → Computes d0 d1 m (λ x. w)
      → EvaluatesTerm scene lane current d0 d1 a a n (plain.term place k (plain.truth_value value)) (record { value = m; next = n })
  truth_done d0 d1 a n place k value w m is c = record {
    next = λ few. omega arith;
    so = λ few. evaluates_still (lane_guard lane) d0 d1 a m (λ x. w) _ _ _ (gives d0 d1 m (λ x. w) c) (λ v sees. is);
  }

  pub variable_done : (d0 d1 : Draft) (a : Accesses) (n : ℕ) (place : Place) (k : Option Kind) (r : Ref) (m : ℕ)
      → ShowsVariable scene lane current d0 d1 m (entity_number r.entity) (kind_or_first k)
      → EvaluatesTerm scene lane current d0 d1 a a n (plain.term place k (plain.named r)) (record { value = m; next = n })
  variable_done d0 d1 a n place k r m g = record {
    next = λ few. omega arith;
    so = λ few. record {
      extends = g.extends;
      knows = λ v f b known fair. known;
      is = λ v f b known fair sees. g.is v.step f b sees.0 ∙ sees.1;
      tells = λ v f b known fair sees on. g.quiet v.step f b ∙ sym (append-nil (tale v.step d0));
      quiet = λ v f b off. g.quiet v.step f b;
    };
  }

  -- Indices, from the left.

  pub indices_none : (d : Draft) (a : Accesses) (n : ℕ) → EvaluatesIndices scene lane current d d a a n plain.no_terms [] n
  indices_none d a n = record {
    next = λ few. omega arith;
    so = λ few. record {
      extends = extends_self d;
      knows = λ v f b known fair. known;
      are = λ v f b known fair sees. refl;
      tells = λ v f b known fair sees on. sym (append-nil (tale v.step d));
      quiet = λ v f b off. refl;
    };
  }

  pub indices_then : (d0 d1 d2 : Draft) (a0 a1 a2 : Accesses) (n : ℕ) (t : plain.Term) (ts : plain.Terms) (r : Valued) (values : List ℕ) (last : ℕ)
      → EvaluatesTerm scene lane current d0 d1 a0 a1 n t r → EvaluatesIndices scene lane current d1 d2 a1 a2 r.next ts values last
      → EvaluatesIndices scene lane current d0 d2 a0 a2 n (plain.term_then t ts) (r.value ∷ values) last
  indices_then d0 d1 d2 a0 a1 a2 n t ts r values last e h = record {
    next = λ few. (moved few).next (second few) ∙ omega arith;
    so = λ few.
        let one = e.so (first few) in
        let more = (moved few).so (second few) in
        record {
          extends = extends_again d0 d1 d2 one.extends more.extends;
          knows = λ v f b known fair. more.knows v f (begun_later d0 d1 v.step one.extends b) (one.knows v (fits_before d1 d2 v.step more.extends f) b known fair.0) fair.1;
          are = λ v f b known fair sees.
              ap (λ w. words.value_of w ∷ numbers_shown v.step values) (one.is v (fits_before d1 d2 v.step more.extends f) b known fair.0 sees.0)
              ∙ ap (λ (zs : List ℤ). words.value_of (term_value scene lane v n t) ∷ zs)
              (more.are v f (begun_later d0 d1 v.step one.extends b) (one.knows v (fits_before d1 d2 v.step more.extends f) b known fair.0) fair.1 sees.1);
          tells = λ v f b known fair sees on.
              more.tells v f (begun_later d0 d1 v.step one.extends b) (one.knows v (fits_before d1 d2 v.step more.extends f) b known fair.0) fair.1 sees.1 on
              ∙ (ap (λ (us : List Tale). us ++ tales_told (terms_told scene lane v (n + term_accesses t) ts)) (one.tells v (fits_before d1 d2 v.step more.extends f) b known fair.0 sees.0 on)
              ∙ (append_assoc (tale v.step d0) (tales_told (term_told scene lane v n t)) _
              ∙ ap (λ (us : List Tale). tale v.step d0 ++ us) (sym (told_append (term_told scene lane v n t) (terms_told scene lane v (n + term_accesses t) ts)))));
          quiet = λ v f b off. more.quiet v f (begun_later d0 d1 v.step one.extends b) off ∙ one.quiet v (fits_before d1 d2 v.step more.extends f) b off;
        };
  }
    where
      first : n + (term_accesses t + terms_accesses ts) < 2 ^ 32 → n + term_accesses t < 2 ^ 32
      first few = omega (arith, few)

      second : n + (term_accesses t + terms_accesses ts) < 2 ^ 32 → n + term_accesses t + terms_accesses ts < 2 ^ 32
      second few = omega (arith, few)

      moved : n + (term_accesses t + terms_accesses ts) < 2 ^ 32 → EvaluatesIndices scene lane current d1 d2 a1 a2 (n + term_accesses t) ts values last
      moved few = subst (λ (m : ℕ). EvaluatesIndices scene lane current d1 d2 a1 a2 m ts values last) (e.next (first few)) h

  -- Reads: the values of the element first, then the read itself. Number and memory are given, since the program
  -- counts the one and looks the other up by a name.

  abbrev read_value : View → Place → (memory number : ℕ) → Target → Word
  read_value v place memory number target = value_of_term (begun_of v.step) v.variables (lane_path lane) (read (reach_at place memory number) target)

  abbrev read_told : View → Place → (memory number : ℕ) → Target → List Event
  read_told v place memory number target =
      read_made (reach_at place memory number) (lane_path lane) (spot_reached (begun_of v.step) v.variables (lane_path lane) (reach_at place memory number) target) ∷ []

  abbrev ReadBehind : (d0 d2 : Draft) (a0 a2 : Accesses) (FairOf SeesOf : View → Type 0) (events : View → List Event) → Target → (m : ℕ) → Place → plain.TermForm → (memory number : ℕ) → Type 0
  ReadBehind d0 d2 a0 a2 FairOf SeesOf events target m place form memory number =
      Evaluates (lane_guard lane) d0 d2 a0 a2 m
      (λ v. (FairOf v × IsSited scene lane v memory number place form false)
      × (v.reads.done number lane.number ≡ true → SeesOf v × IsDone scene lane v memory number place form (read_value v place memory number target)))
      (λ v. SeesOf v × IsDone scene lane v memory number place form (read_value v place memory number target))
      (λ v. read_value v place memory number target)
      (λ v. events v ++ read_told v place memory number target)

  read_behind : (d0 d1 d2 : Draft) (a0 a1 a2 : Accesses) (values : List ℕ) (FairOf SeesOf : View → Type 0) (all : View → List ℤ) (events : View → List Event) (target : Target) (aim : Aim) (m : ℕ) (place : Place) (form : plain.TermForm) (memory : ℕ)
      → EvaluatesAll (lane_guard lane) d0 d1 a0 a1 values FairOf SeesOf all events
      → ((v : View) → FitsStep v.step d1 → BlockBegun v.step d0 → SeesOf v → numbers_shown v.step values ≡ all v → AimsAt lane v aim target)
      → ReadsElement scene lane place form memory aim target d1 d2 a1 a2 m
      → ReadBehind d0 d2 a0 a2 FairOf SeesOf events target m place form memory aim.number
  read_behind d0 d1 d2 a0 a1 a2 values FairOf SeesOf all events target aim m place form memory e aims h = record {
    extends = extends_again d0 d1 d2 e.extends h.extends;
    knows = λ v f b known fair. h.knows v f (begun_later d0 d1 v.step e.extends b) (e.knows v (fits_before d1 d2 v.step h.extends f) b known fair.0.0) (fairly v f b known fair);
    is = λ v f b known fair sees.
        h.is v f (begun_later d0 d1 v.step e.extends b) (e.knows v (fits_before d1 d2 v.step h.extends f) b known fair.0.0) (fairly v f b known fair) (both v f b known fair.0.0 sees);
    tells = λ v f b known fair sees on.
        h.tells v f (begun_later d0 d1 v.step e.extends b) (e.knows v (fits_before d1 d2 v.step h.extends f) b known fair.0.0) (fairly v f b known fair) (both v f b known fair.0.0 sees) on
        ∙ (ap (λ (us : List Tale). us ++ tales_told (read_told v place memory aim.number target)) (e.tells v (fits_before d1 d2 v.step h.extends f) b known fair.0.0 sees.0 on)
        ∙ (append_assoc (tale v.step d0) (tales_told (events v)) _ ∙ ap (λ (us : List Tale). tale v.step d0 ++ us) (sym (told_append (events v) (read_told v place memory aim.number target)))));
    quiet = λ v f b off. h.quiet v f (begun_later d0 d1 v.step e.extends b) off ∙ e.quiet v (fits_before d1 d2 v.step h.extends f) b off;
  }
    where
      both : (v : View) → FitsStep v.step d2 → BlockBegun v.step d0 → Knows v a0 → FairOf v → SeesOf v × IsDone scene lane v memory aim.number place form (read_value v place memory aim.number target)
          → IsRead scene lane place form memory aim target v
      both v f b known fair sees = record {
        aims = aims v (fits_before d1 d2 v.step h.extends f) b sees.0 (e.are v (fits_before d1 d2 v.step h.extends f) b known fair sees.0);
        done = sees.1;
      }

      fairly : (v : View) → FitsStep v.step d2 → BlockBegun v.step d0 → Knows v a0
          → (FairOf v × IsSited scene lane v memory aim.number place form false)
          × (v.reads.done aim.number lane.number ≡ true → SeesOf v × IsDone scene lane v memory aim.number place form (read_value v place memory aim.number target))
          → IsFairRead scene lane place form memory aim target v
      fairly v f b known fair = record { sited = fair.0.1; read = λ on. both v f b known fair.0.0 (fair.1 on) }

  read_moved : (d0 d2 : Draft) (a0 a2 : Accesses) (FairOf SeesOf : View → Type 0) (events : View → List Event) (target : Target) (m : ℕ) (place : Place) (form : plain.TermForm) (memory other number own : ℕ)
      → memory ≡ other → number ≡ own → ReadBehind d0 d2 a0 a2 FairOf SeesOf events target m place form memory number → ReadBehind d0 d2 a0 a2 FairOf SeesOf events target m place form other own
  read_moved d0 d2 a0 a2 FairOf SeesOf events target m place form memory other number own is same h =
      subst (λ (i : ℕ). ReadBehind d0 d2 a0 a2 FairOf SeesOf events target m place form other i) same
      (subst (λ (i : ℕ). ReadBehind d0 d2 a0 a2 FairOf SeesOf events target m place form i number) is h)

  next_is : (number own : ℕ) → number ≡ own → own + 1 < 2 ^ 32 → min (number + 1) (2 ^ 32 - 1) ≡ own + 1
  next_is number own is few = grind (arith, is, few)

  -- values with more behind them, which tell nothing
  all_later : (d0 d1 d2 : Draft) (a b : Accesses) (values : List ℕ) (FairOf SeesOf More : View → Type 0) (all : View → List ℤ) (events : View → List Event)
      → EvaluatesAll (lane_guard lane) d0 d1 a b values FairOf SeesOf all events → Extends d1 d2 → ((x : BlockStep) → FitsStep x d2 → BlockBegun x d1 → tale x d2 ≡ tale x d1)
      → EvaluatesAll (lane_guard lane) d0 d2 a b values FairOf (λ v. SeesOf v × More v) all events
  all_later d0 d1 d2 a b values FairOf SeesOf More all events e behind quiet = record {
    extends = extends_again d0 d1 d2 e.extends behind;
    knows = λ v f s known fair. e.knows v (fits_before d1 d2 v.step behind f) s known fair;
    are = λ v f s known fair sees. e.are v (fits_before d1 d2 v.step behind f) s known fair sees.0;
    tells = λ v f s known fair sees on. quiet v.step f (begun_later d0 d1 v.step e.extends s) ∙ e.tells v (fits_before d1 d2 v.step behind f) s known fair sees.0 on;
    quiet = λ v f s off. quiet v.step f (begun_later d0 d1 v.step e.extends s) ∙ e.quiet v (fits_before d1 d2 v.step behind f) s off;
  }

  -- the same told otherwise
  all_told : (d0 d1 : Draft) (a b : Accesses) (values : List ℕ) (FairOf SeesOf : View → Type 0) (all : View → List ℤ) (events others : View → List Event)
      → ((v : View) → events v ≡ others v) → EvaluatesAll (lane_guard lane) d0 d1 a b values FairOf SeesOf all events → EvaluatesAll (lane_guard lane) d0 d1 a b values FairOf SeesOf all others
  all_told d0 d1 a b values FairOf SeesOf all events others same e = record {
    extends = e.extends;
    knows = e.knows;
    are = e.are;
    tells = λ v f s known fair sees on. e.tells v f s known fair sees on ∙ ap (λ (es : List Event). tale v.step d0 ++ tales_told es) (same v);
    quiet = e.quiet;
  }

  pub has_target : (way : Option Way) (place : Place) (k : Option Kind) (r : Ref) (ts : plain.Terms) (cs : CoreTerms) → HasTarget (plain.term place k (plain.accessed r ts)) (target_to way cs)
  has_target None place k r ts cs = tt
  has_target (Some w) place k r ts cs = tt

  -- the same by indices, of what a name stands for
  abbrev pub way_here : Ref → Option Way
  way_here r = way_of (known_in scene) r

  abbrev pub aimed_at : (n : ℕ) → Ref → plain.Terms → Target
  aimed_at n r ts = target_to (way_of (known_in scene) r) (core_terms (known_in scene) n ts)

  abbrev pub aimed_events : (n : ℕ) → Ref → plain.Terms → View → List Event
  aimed_events n r ts v = target_events (begun_of v.step) v.variables (lane_path lane) (aimed_at n r ts)

  abbrev pub SeesNamed : (n : ℕ) → Ref → plain.Terms → View → Type 0
  SeesNamed n r ts v = SeesAll scene lane current v n ts × SeesWay scene lane current v r

  -- its indices, with what stands behind them
  pub named_all : (d0 d1 d2 : Draft) (a0 a1 : Accesses) (n : ℕ) (r : Ref) (ts : plain.Terms) (listed aim : Aim) → n + terms_accesses ts < 2 ^ 32
      → AimsByIndices scene lane current d0 d1 a0 a1 n ts listed → PassesWay scene lane current d1 d2 r listed aim
      → EvaluatesAll (lane_guard lane) d0 d2 a0 a1 aim.indices (λ v. FairAll scene lane current v n ts) (λ v. SeesNamed n r ts v) (λ v. terms_values scene lane v n ts) (λ v. aimed_events n r ts v)
  named_all d0 d1 d2 a0 a1 n r ts listed aim few e p =
      all_told d0 d2 a0 a1 aim.indices (λ v. FairAll scene lane current v n ts) (λ v. SeesNamed n r ts v) (λ v. terms_values scene lane v n ts) (λ v. terms_told scene lane v n ts) (λ v. aimed_events n r ts v)
      (λ v. sym (target_makes (begun_of v.step) v.variables (lane_path lane) (way_here r) (core_terms (known_in scene) n ts)))
      (all_later d0 d1 d2 a0 a1 aim.indices (λ v. FairAll scene lane current v n ts) (λ v. SeesAll scene lane current v n ts) (λ v. SeesWay scene lane current v r) (λ v. terms_values scene lane v n ts) (λ v. terms_told scene lane v n ts)
      (subst (λ (vs : List ℕ). EvaluatesAll (lane_guard lane) d0 d1 a0 a1 vs (λ v. FairAll scene lane current v n ts) (λ v. SeesAll scene lane current v n ts) (λ v. terms_values scene lane v n ts) (λ v. terms_told scene lane v n ts)) (sym p.indices_are) (e.indices.so few))
      (way_extends scene lane current d1 d2 (first_view scene r) listed.steps (way_here r) aim.steps p.steps) (way_quiet scene lane current d1 d2 (first_view scene r) listed.steps (way_here r) aim.steps p.steps))

  -- they name its element
  pub named_aims : (d0 d1 d2 : Draft) (a0 a1 : Accesses) (n : ℕ) (r : Ref) (ts : plain.Terms) (listed aim : Aim) → n + terms_accesses ts < 2 ^ 32
      → AimsByIndices scene lane current d0 d1 a0 a1 n ts listed → PassesWay scene lane current d1 d2 r listed aim
      → (v : View) → FitsStep v.step d2 → BlockBegun v.step d0 → SeesNamed n r ts v → numbers_shown v.step aim.indices ≡ terms_values scene lane v n ts → AimsAt lane v aim (aimed_at n r ts)
  named_aims d0 d1 d2 a0 a1 n r ts listed aim few e p v f b sees same =
      way_aims scene lane current d1 d2 (first_view scene r) listed.steps (way_here r) aim (core_terms (known_in scene) n ts) v e.steps (p.row_is ∙ e.row) p.steps f (begun_later d0 d1 v.step (e.indices.so few).extends b) sees.1 same

  pub named_done : (d0 d1 d2 d3 : Draft) (a0 a1 a2 : Accesses) (n : ℕ) (place : Place) (k : Option Kind) (r : Ref) (ts : plain.Terms) (listed aim : Aim) (m : ℕ) → n + terms_accesses ts < 2 ^ 32
      → AimsByIndices scene lane current d0 d1 a0 a1 n ts listed → PassesWay scene lane current d1 d2 r listed aim
      → ReadsAt scene lane d2 d3 a1 a2 (plain.term place k (plain.accessed r ts)) (memory_of (known_in scene) r) aim m
      → ReadBehind d0 d3 a0 a2 (λ v. FairAll scene lane current v n ts) (λ v. SeesNamed n r ts v) (λ v. aimed_events n r ts v) (aimed_at n r ts) m place (plain.accessed r ts) (memory_of (known_in scene) r) aim.number
  named_done d0 d1 d2 d3 a0 a1 a2 n place k r ts listed aim m few e p h =
      read_behind d0 d2 d3 a0 a1 a2 aim.indices (λ v. FairAll scene lane current v n ts) (λ v. SeesNamed n r ts v) (λ v. terms_values scene lane v n ts) (λ v. aimed_events n r ts v) (aimed_at n r ts) aim m place (plain.accessed r ts) (memory_of (known_in scene) r)
      (named_all d0 d1 d2 a0 a1 n r ts listed aim few e p) (λ v f b sees same. named_aims d0 d1 d2 a0 a1 n r ts listed aim few e p v f b sees same)
      (h (aimed_at n r ts) (has_target (way_here r) place k r ts (core_terms (known_in scene) n ts)))

  pub access_done : (d0 d1 d2 d3 : Draft) (a0 a1 a2 : Accesses) (n : ℕ) (place : Place) (k : Option Kind) (r : Ref) (ts : plain.Terms) (listed aim : Aim) (m : ℕ)
      → AimsByIndices scene lane current d0 d1 a0 a1 n ts listed → PassesWay scene lane current d1 d2 r listed aim
      → ReadsAt scene lane d2 d3 a1 a2 (plain.term place k (plain.accessed r ts)) (memory_of (known_in scene) r) aim m
      → EvaluatesTerm scene lane current d0 d3 a0 a2 n (plain.term place k (plain.accessed r ts)) (record { value = m; next = min (aim.number + 1) (2 ^ 32 - 1) })
  access_done d0 d1 d2 d3 a0 a1 a2 n place k r ts listed aim m e p h = record {
    next = λ few. next_is aim.number (n + terms_accesses ts) (number_is (omega (arith, few))) (omega (arith, few)) ∙ omega arith;
    so = λ few.
        read_moved d0 d3 a0 a2 (λ v. FairAll scene lane current v n ts) (λ v. SeesNamed n r ts v) (λ v. aimed_events n r ts v) (aimed_at n r ts) m place (plain.accessed r ts) (memory_of (known_in scene) r) (memory_of (known_in scene) r) aim.number (n + terms_accesses ts)
        refl (number_is (omega (arith, few))) (named_done d0 d1 d2 d3 a0 a1 a2 n place k r ts listed aim m (omega (arith, few)) e p h);
  }
    where
      number_is : n + terms_accesses ts < 2 ^ 32 → aim.number ≡ n + terms_accesses ts
      number_is few = p.number_is ∙ e.indices.next few

  -- a value alone, as whole numbers
  all_of_one : (d0 d1 : Draft) (a b : Accesses) (n : ℕ) (FairOf SeesOf : View → Type 0) (word : View → Word) (events : View → List Event)
      → Evaluates (lane_guard lane) d0 d1 a b n FairOf SeesOf word events → EvaluatesAll (lane_guard lane) d0 d1 a b (n ∷ []) FairOf SeesOf (λ v. words.value_of (word v) ∷ []) events
  all_of_one d0 d1 a b n FairOf SeesOf word events e = record {
    extends = e.extends;
    knows = e.knows;
    are = λ v f s known fair sees. ap (λ w. words.value_of w ∷ []) (e.is v f s known fair sees);
    tells = e.tells;
    quiet = e.quiet;
  }

  row_is : (v : View) (aim : Aim) (value : ℕ) (z : ℤ) → aim.row ≡ Some value → words.value_of (word_shown v.step value) ≡ z → RowIs v aim.row z
  row_is v aim value z is same = subst (λ (o : Option ℕ). RowIs v o z) (sym is) same

  pub bank_done : (d0 d1 d2 : Draft) (a0 a1 a2 : Accesses) (n : ℕ) (place : Place) (k : Option Kind) (r : Ref) (bank : ℕ) (at : Place) (t : plain.Term) (aim : Aim) (memory m : ℕ)
      → memory ≡ memory_of (known_in scene) r → AimsByRow scene lane current d0 d1 a0 a1 n t aim
      → ReadsAt scene lane d1 d2 a1 a2 (plain.term place k (plain.in_bank r bank at t)) memory aim m
      → EvaluatesTerm scene lane current d0 d2 a0 a2 n (plain.term place k (plain.in_bank r bank at t)) (record { value = m; next = min (aim.number + 1) (2 ^ 32 - 1) })
  bank_done d0 d1 d2 a0 a1 a2 n place k r bank at t aim memory m is e h = record {
    next = λ few. next_is aim.number (n + term_accesses t) (e.term.next (omega (arith, few))) (omega (arith, few)) ∙ omega arith;
    so = λ few.
        read_moved d0 d2 a0 a2 (λ v. Fair scene lane current v n t) (λ v. Sees scene lane current v n t) (λ v. term_told scene lane v n t) (by_row bank (core_term (known_in scene) n t)) m place (plain.in_bank r bank at t) memory (memory_of (known_in scene) r) aim.number (n + term_accesses t)
        is (e.term.next (omega (arith, few)))
        (read_behind d0 d1 d2 a0 a1 a2 (e.value ∷ []) _ _ (λ v. words.value_of (term_value scene lane v n t) ∷ []) _ (by_row bank (core_term (known_in scene) n t)) aim m place (plain.in_bank r bank at t) memory
        (all_of_one d0 d1 a0 a1 e.value _ _ _ _ (e.term.so (omega (arith, few))))
        (λ v f b sees same. row_is v aim e.value _ e.row (ap (λ (zs : List ℤ). get_or zs 0 (pos 0)) same)) (h (by_row bank (core_term (known_in scene) n t)) refl));
  }

  -- The loop over indices: whatever the rest gives from here, all give from the start.
  pub record Leads (d0 : Draft) (a0 : Accesses) (n : ℕ) (all : List Expr) (i : ℕ) (d : Draft) (a : Accesses) (values : List ℕ) (number : ℕ) : Type 0 where
    pub leads : (new : Draft) (after : Accesses) (more : List ℕ) (last : ℕ)
        → EvaluatesIndices scene lane current d new a after number (terms (map term_seen (drop i all))) more last
        → EvaluatesIndices scene lane current d0 new a0 after n (terms (map term_seen all)) (values ++ more) last

  pub leads_first : (d : Draft) (a : Accesses) (n : ℕ) (all : List Expr) → Leads d a n all 0 d a [] n
  leads_first d a n all = record { leads = λ new after more last h. h }

  pub leads_on : (d0 : Draft) (a0 : Accesses) (n : ℕ) (all : List Expr) (i : ℕ) (d e : Draft) (a b : Accesses) (values grown : List ℕ) (number : ℕ) (x : Expr) (r : Valued)
      → i < length all → x ≡ get_or all i x → grown ≡ values ++ r.value ∷ []
      → EvaluatesTerm scene lane current d e a b number (term_seen x) r → Leads d0 a0 n all i d a values number → Leads d0 a0 n all (suc i) e b grown r.next
  leads_on d0 a0 n all i d e a b values grown number x r within is added t l = record {
    leads = λ new after more last h.
        let split : drop i all ≡ x ∷ drop (suc i) all = drop-cons all i x within ∙ ap (λ y. y ∷ drop (suc i) all) (sym is) in
        subst (λ (vs : List ℕ). EvaluatesIndices scene lane current d0 new a0 after n (terms (map term_seen all)) vs last)
        (sym (ap (λ vs. vs ++ more) added ∙ append_assoc values (r.value ∷ []) more))
        (l.leads new after (r.value ∷ more) last
        (subst (λ (es : List Expr). EvaluatesIndices scene lane current d new a after number (terms (map term_seen es)) (r.value ∷ more) last) (sym split)
        (indices_then d e new a b after number (term_seen x) (terms (map term_seen (drop (suc i) all))) r more last t h)));
  }

  pub leads_last : (d0 d : Draft) (a0 a : Accesses) (n : ℕ) (all : List Expr) (i : ℕ) (values : List ℕ) (number : ℕ)
      → drop i all ≡ [] → Leads d0 a0 n all i d a values number → EvaluatesIndices scene lane current d0 d a0 a n (terms (map term_seen all)) values number
  leads_last d0 d a0 a n all i values number over l =
      subst (λ (vs : List ℕ). EvaluatesIndices scene lane current d0 d a0 a n (terms (map term_seen all)) vs number) (append-nil values)
      (l.leads d a [] number (subst (λ (es : List Expr). EvaluatesIndices scene lane current d d a a number (terms (map term_seen es)) [] number) (sym over) (indices_none d a number)))

  -- Forms as the code has them.

  pub by_form : (d0 d1 : Draft) (a b : Accesses) (n : ℕ) (e : Expr) (f : plain.TermForm) (r : Valued) → form_seen e.form ≡ f
      → EvaluatesTerm scene lane current d0 d1 a b n (plain.term e.place e.kind f) r → EvaluatesTerm scene lane current d0 d1 a b n (term_seen e) r
  by_form d0 d1 a b n e f r is h = subst (λ (g : plain.TermForm). EvaluatesTerm scene lane current d0 d1 a b n (plain.term e.place e.kind g) r) (sym is) h

  pub access_formed : (d0 d1 d2 d3 : Draft) (a0 a1 a2 : Accesses) (n : ℕ) (e : Expr) (r : Ref) (ts : plain.Terms) (listed aim : Aim) (valued : Valued)
      → form_seen e.form ≡ plain.accessed r ts → AimsByIndices scene lane current d0 d1 a0 a1 n ts listed → PassesWay scene lane current d1 d2 r listed aim → ReadsNextElement scene lane d2 d3 a1 a2 (term_seen e) r aim valued
      → EvaluatesTerm scene lane current d0 d3 a0 a2 n (term_seen e) valued
  access_formed d0 d1 d2 d3 a0 a1 a2 n e r ts listed aim valued is aims passes h =
      by_form d0 d3 a0 a2 n e (plain.accessed r ts) _ is
      (subst (λ (i : ℕ). EvaluatesTerm scene lane current d0 d3 a0 a2 n (plain.term e.place e.kind (plain.accessed r ts)) (record { value = valued.value; next = i })) (sym h.next)
      (access_done d0 d1 d2 d3 a0 a1 a2 n e.place e.kind r ts listed aim valued.value aims passes
      (subst (λ (g : plain.TermForm). ReadsAt scene lane d2 d3 a1 a2 (plain.term e.place e.kind g) (memory_of (known_in scene) r) aim valued.value) is h.reads)))

  pub bank_formed : (d0 d1 d2 : Draft) (a0 a1 a2 : Accesses) (n : ℕ) (e : Expr) (r : Ref) (bank : ℕ) (at : Place) (t : plain.Term) (aim : Aim) (valued : Valued)
      → form_seen e.form ≡ plain.in_bank r bank at t → AimsByRow scene lane current d0 d1 a0 a1 n t aim → ReadsNextElement scene lane d1 d2 a1 a2 (term_seen e) r aim valued
      → EvaluatesTerm scene lane current d0 d2 a0 a2 n (term_seen e) valued
  bank_formed d0 d1 d2 a0 a1 a2 n e r bank at t aim valued is aims h =
      by_form d0 d2 a0 a2 n e (plain.in_bank r bank at t) _ is
      (subst (λ (i : ℕ). EvaluatesTerm scene lane current d0 d2 a0 a2 n (plain.term e.place e.kind (plain.in_bank r bank at t)) (record { value = valued.value; next = i })) (sym h.next)
      (bank_done d0 d1 d2 a0 a1 a2 n e.place e.kind r bank at t aim (memory_of (known_in scene) r) valued.value refl aims
      (subst (λ (g : plain.TermForm). ReadsAt scene lane d1 d2 a1 a2 (plain.term e.place e.kind g) (memory_of (known_in scene) r) aim valued.value) is h.reads)))

-- one value more in a list
pub values_then : (values grown : List ℕ) (value : ℕ) (result : Result (Unit {0}) NoMemory) → grown ≡ (if is_ok result then values ++ value ∷ [] else values) → result ≡ Ok tt → grown ≡ values ++ value ∷ []
values_then values grown value result is was = is ∙ ap (λ (r : Result (Unit {0}) NoMemory). if is_ok r then values ++ value ∷ [] else values) was
