-- Offsets of a view, one after the other: whatever those to come give and make, all do.
use Rattle.std.proofs.Common.{◌≡◌, ℕ, zero, suc, ◌+◌, ◌^◌, ◌<◌, ◌≤◌, List, [], ◌∷◌, ◌++◌, refl, sym, ap, ◌∙◌, subst, arith, append_assoc, drop, get_or, length, map}
use Rattle.std.specs.Prelude.{Option, Some, None, option_map, slice_get}
use Rattle.std.proofs.Math.Seq.{drop-cons}
use Rattle.std.proofs.lemmas.List.{append-nil}
use Rattle.dh_value.specs.declared.words.Word.{Word}
use Rattle.dh_tree.specs.declared.trees.commands.ViewForm.{ViewForm}
use Rattle.dh_tree.specs.declared.trees.expressions.Expr.{Expr}
use Rattle.dh_tree.specs.PlainTrees as plain
use Rattle.dh_tree.specs.Seen.{factor_seen, view_plan, term_seen, terms}
use Rattle.dh_tree.specs.ViewOffsets.{offsets_of}
use Rattle.dh_meaning.specs.AccessNumbers.{term_accesses, terms_accesses}
use Rattle.dh_meaning.specs.Ways.{Hidden}
use Rattle.dh_code.specs.declared.places.VariableSlots.{VariableSlots}
use Rattle.dh_code.specs.Slots.{held_at}
use Rattle.dh_code.proofs.Ranges.{drop_past}
use Rattle.dh_expressions.specs.declared.accesses.Accesses.{Accesses}
use Rattle.dh_expressions.specs.declared.drafts.Draft.{Draft}
use Rattle.dh_expressions.specs.declared.scenes.Around.{Around}
use Rattle.dh_expressions.specs.declared.scenes.Lane.{Lane}
use Rattle.dh_expressions.specs.declared.scenes.Scene.{Scene}
use Rattle.dh_expressions.specs.declared.terms.Valued.{Valued}
use Rattle.dh_expressions.specs.Drafted.{Gives, Tale, word_shown, tale, tales_told}
use Rattle.dh_expressions.specs.Evaluated.{EvaluatesTerm, GivesAll, term_told, term_value, terms_told}
use Rattle.dh_expressions.specs.MadeTerms.{MadeTerm, MadeTerms}
use Rattle.dh_expressions.specs.MadeValues.{MadeHeld}
use Rattle.dh_expressions.specs.Shown.{held_shown}
use Rattle.dh_expressions.proofs.WaysShown.{gives_none, gives_then}
use Rattle.dh_expressions.proofs.Evaluating.{told_append}
use Rattle.dh_expressions.proofs.ListPlaces.{some_same}
use Rattle.dh_expressions.proofs.Pushing.{begun_later, extends_again, extends_self, fits_before, gives_still}
use Rattle.dh_commands.specs.declared.assignments.Values.{Values}
use Rattle.dh_commands.specs.declared.buildings.Building.{Building}
use Rattle.dh_commands.specs.LanesRun.{paths_counted}
use Rattle.dh_commands.specs.Keeping.{EvaluatesWords, held_words, kept_shown, paired}
use Rattle.dh_commands.specs.MadeCommands.{KeptTo, KeptView, MadeHold, MadeHolds}
use Rattle.dh_commands.specs.Setting.{KeepsAtAllPaths, KeepsView, SetsAt, SetsFrom}

-- the offsets of a suffix are those of its pairs
pub pairs_are : (by : List (ℕ × Expr)) → map (λ s. s.offset) (map factor_seen by) ≡ paired by
pairs_are [] = refl
pairs_are ((n, e) ∷ by) = ap (λ (l : List plain.Term). term_seen e ∷ l) (pairs_are by)

module _ (scene : Scene) (lane : Lane) (current : List (Option ℕ)) where
  pub words_none : (d : Draft) (a : Accesses) (n : ℕ) → EvaluatesWords scene lane current d d a a n [] [] n
  words_none d a n = record {
    long = refl;
    next_is = λ few. omega arith;
    so = λ few. record {
      extends = extends_self d;
      knows = λ v f b known fair. known;
      are = λ v f b known fair sees. refl;
      tells = λ v f b known fair sees on. sym (append-nil (tale v.step d));
      quiet = λ v f b off. refl;
    };
  }

  words_then : (d0 d1 d2 : Draft) (a0 a1 a2 : Accesses) (n : ℕ) (t : plain.Term) (os : List plain.Term) (r : Valued) (values : List ℕ) (next : ℕ)
      → EvaluatesTerm scene lane current d0 d1 a0 a1 n t r → EvaluatesWords scene lane current d1 d2 a1 a2 r.next os values next
      → EvaluatesWords scene lane current d0 d2 a0 a2 n (t ∷ os) (r.value ∷ values) next
  words_then d0 d1 d2 a0 a1 a2 n t os r values next e h = record {
    long = ap suc h.long;
    next_is = λ few. (moved few).next_is (second few) ∙ omega arith;
    so = λ few.
        let one = e.so (first few) in
        let more = (moved few).so (second few) in
        record {
          extends = extends_again d0 d1 d2 one.extends more.extends;
          knows = λ v f b known fair. more.knows v f (begun_later d0 d1 v.step one.extends b) (one.knows v (fits_before d1 d2 v.step more.extends f) b known fair.0) fair.1;
          are = λ v f b known fair sees.
              ap (λ (w : Word). w ∷ map (λ i. word_shown v.step i) values) (one.is v (fits_before d1 d2 v.step more.extends f) b known fair.0 sees.0)
              ∙ ap (λ (ws : List Word). term_value scene lane v n t ∷ ws)
              (more.are v f (begun_later d0 d1 v.step one.extends b) (one.knows v (fits_before d1 d2 v.step more.extends f) b known fair.0) fair.1 sees.1);
          tells = λ v f b known fair sees on.
              more.tells v f (begun_later d0 d1 v.step one.extends b) (one.knows v (fits_before d1 d2 v.step more.extends f) b known fair.0) fair.1 sees.1 on
              ∙ (ap (λ (us : List Tale). us ++ tales_told (terms_told scene lane v (n + term_accesses t) (terms os))) (one.tells v (fits_before d1 d2 v.step more.extends f) b known fair.0 sees.0 on)
              ∙ (append_assoc (tale v.step d0) (tales_told (term_told scene lane v n t)) _
              ∙ ap (λ (us : List Tale). tale v.step d0 ++ us) (sym (told_append (term_told scene lane v n t) (terms_told scene lane v (n + term_accesses t) (terms os))))));
          quiet = λ v f b off. more.quiet v f (begun_later d0 d1 v.step one.extends b) off ∙ one.quiet v (fits_before d1 d2 v.step more.extends f) b off;
        };
  }
    where
      first : n + (term_accesses t + terms_accesses (terms os)) < 2 ^ 32 → n + term_accesses t < 2 ^ 32
      first few = omega (arith, few)

      second : n + (term_accesses t + terms_accesses (terms os)) < 2 ^ 32 → n + term_accesses t + terms_accesses (terms os) < 2 ^ 32
      second few = omega (arith, few)

      moved : n + (term_accesses t + terms_accesses (terms os)) < 2 ^ 32 → EvaluatesWords scene lane current d1 d2 a1 a2 (n + term_accesses t) os values next
      moved few = subst (λ (m : ℕ). EvaluatesWords scene lane current d1 d2 a1 a2 m os values next) (e.next (first few)) h

  -- those before i are put down
  pub record WordsSoFar (d0 : Draft) (a0 : Accesses) (n : ℕ) (all : List plain.Term) (i : ℕ) (d : Draft) (a : Accesses) (values : List ℕ) (number : ℕ) : Type 0 where
    pub gives : (new : Draft) (after : Accesses) (more : List ℕ) (next : ℕ) → EvaluatesWords scene lane current d new a after number (drop i all) more next → EvaluatesWords scene lane current d0 new a0 after n all (values ++ more) next
    pub makes : (new : Draft) (after : Accesses) (more : List ℕ) (next : ℕ) → MadeTerms scene lane current (terms (drop i all)) d new a after number next more → MadeTerms scene lane current (terms all) d0 new a0 after n next (values ++ more)

  pub words_first : (d : Draft) (a : Accesses) (n : ℕ) (all : List plain.Term) (values : List ℕ) → values ≡ [] → WordsSoFar d a n all 0 d a values n
  words_first d a n all values none = subst (λ (vs : List ℕ). WordsSoFar d a n all 0 d a vs n) (sym none) (record { gives = λ new after more next h. h; makes = λ new after more next h. h })

  pub words_on : (d0 : Draft) (a0 : Accesses) (n : ℕ) (all : List plain.Term) (i : ℕ) (d e : Draft) (a b : Accesses) (values grown : List ℕ) (number : ℕ) (t : plain.Term) (r : Valued)
      → i < length all → t ≡ get_or all i t → grown ≡ values ++ r.value ∷ [] → EvaluatesTerm scene lane current d e a b number t r → MadeTerm scene lane current t d e a b number r.next r.value
      → WordsSoFar d0 a0 n all i d a values number → WordsSoFar d0 a0 n all (suc i) e b grown r.next
  words_on d0 a0 n all i d e a b values grown number t r within is added given made l = record {
    gives = λ new after more next h.
        subst (λ (vs : List ℕ). EvaluatesWords scene lane current d0 new a0 after n all vs next) (grown_is more)
        (l.gives new after (r.value ∷ more) next
        (subst (λ (os : List plain.Term). EvaluatesWords scene lane current d new a after number os (r.value ∷ more) next) (sym split) (words_then d e new a b after number t (drop (suc i) all) r more next given h)));
    makes = λ new after more next h.
        subst (λ (vs : List ℕ). MadeTerms scene lane current (terms all) d0 new a0 after n next vs) (grown_is more)
        (l.makes new after (r.value ∷ more) next
        (subst (λ (os : List plain.Term). MadeTerms scene lane current (terms os) d new a after number next (r.value ∷ more)) (sym split)
        (record { middle = e; between = b; own = r.next; a = r.value; more = more; first = made; rest = h; values_are = refl })));
  }
    where
      split : drop i all ≡ t ∷ drop (suc i) all
      split = drop-cons all i t within ∙ ap (λ (y : plain.Term). y ∷ drop (suc i) all) (sym is)

      grown_is : (more : List ℕ) → values ++ (r.value ∷ more) ≡ grown ++ more
      grown_is more = sym (ap (λ (vs : List ℕ). vs ++ more) added ∙ append_assoc values (r.value ∷ []) more)

  pub words_last : (d0 d : Draft) (a0 a : Accesses) (n : ℕ) (all : List plain.Term) (i : ℕ) (values : List ℕ) (number : ℕ) → length all ≤ i → WordsSoFar d0 a0 n all i d a values number
      → EvaluatesWords scene lane current d0 d a0 a n all values number
  words_last d0 d a0 a n all i values number over l =
      subst (λ (vs : List ℕ). EvaluatesWords scene lane current d0 d a0 a n all vs number) (append-nil values)
      (l.gives d a [] number (subst (λ (os : List plain.Term). EvaluatesWords scene lane current d d a a number os [] number) (sym (drop_past all i over)) (words_none d a number)))

  pub made_last : (d0 d : Draft) (a0 a : Accesses) (n : ℕ) (all : List plain.Term) (i : ℕ) (values : List ℕ) (number : ℕ) → length all ≤ i → WordsSoFar d0 a0 n all i d a values number
      → MadeTerms scene lane current (terms all) d0 d a0 a n number values
  made_last d0 d a0 a n all i values number over l =
      subst (λ (vs : List ℕ). MadeTerms scene lane current (terms all) d0 d a0 a n number vs) (append-nil values)
      (l.makes d a [] number (subst (λ (os : List plain.Term). MadeTerms scene lane current (terms os) d d a a number number []) (sym (drop_past all i over)) (record { still = refl; same = refl; next_is = refl; none = refl })))

-- Forms of views as the code has them.

pub words_as : (scene : Scene) (lane : Lane) (current : List (Option ℕ)) (d e : Draft) (a b : Accesses) (n : ℕ) (form : ViewForm) (os : List plain.Term) (values : List ℕ) (next : ℕ) → offsets_of (view_plan form) ≡ os
    → EvaluatesWords scene lane current d e a b n os values next → EvaluatesWords scene lane current d e a b n (offsets_of (view_plan form)) values next
words_as scene lane current d e a b n form os values next same h = subst (λ (l : List plain.Term). EvaluatesWords scene lane current d e a b n l values next) (sym same) h

pub made_as : (scene : Scene) (lane : Lane) (current : List (Option ℕ)) (d e : Draft) (a b : Accesses) (n : ℕ) (form : ViewForm) (os : List plain.Term) (values : List ℕ) (next : ℕ) → offsets_of (view_plan form) ≡ os
    → MadeTerms scene lane current (terms os) d e a b n next values → MadeTerms scene lane current (terms (offsets_of (view_plan form))) d e a b n next values
made_as scene lane current d e a b n form os values next same h = subst (λ (l : List plain.Term). MadeTerms scene lane current (terms l) d e a b n next values) (sym same) h

pub words_nothing : (scene : Scene) (lane : Lane) (current : List (Option ℕ)) (d : Draft) (a : Accesses) (n : ℕ) (form : ViewForm) (values : List ℕ) → offsets_of (view_plan form) ≡ [] → values ≡ []
    → EvaluatesWords scene lane current d d a a n (offsets_of (view_plan form)) values n
words_nothing scene lane current d a n form values same none =
    words_as scene lane current d d a a n form [] values n same (subst (λ (vs : List ℕ). EvaluatesWords scene lane current d d a a n [] vs n) (sym none) (words_none scene lane current d a n))

pub made_nothing : (scene : Scene) (lane : Lane) (current : List (Option ℕ)) (d : Draft) (a : Accesses) (n : ℕ) (form : ViewForm) (values : List ℕ) → offsets_of (view_plan form) ≡ [] → values ≡ []
    → MadeTerms scene lane current (terms (offsets_of (view_plan form))) d d a a n n values
made_nothing scene lane current d a n form values same none = made_as scene lane current d d a a n form [] values n same (record { still = refl; same = refl; next_is = refl; none = none })

-- Their values as variables hold them, one after the other.

pub get_mapped : {A B : Type 0} (f : A → B) (xs : List A) (n : ℕ) → option_map f (slice_get xs n) ≡ slice_get (map f xs) n
get_mapped f [] n = refl
get_mapped f (x ∷ xs) zero = refl
get_mapped f (x ∷ xs) (suc n) = get_mapped f xs n

abbrev rest_of : List plain.Term → List plain.Term
rest_of [] = []
rest_of (t ∷ ts) = ts

get_dropped : (os : List plain.Term) (i : ℕ) → slice_get os i ≡ slice_get (drop i os) 0
get_dropped [] zero = refl
get_dropped [] (suc i) = refl
get_dropped (t ∷ os) zero = refl
get_dropped (t ∷ os) (suc i) = get_dropped os i

rest_dropped : (os : List plain.Term) (i : ℕ) → drop (suc i) os ≡ rest_of (drop i os)
rest_dropped [] zero = refl
rest_dropped [] (suc i) = refl
rest_dropped (t ∷ os) zero = refl
rest_dropped (t ∷ os) (suc i) = rest_dropped os i

module _ (scene : Scene) where
  pub holds_long : (n : ℕ) (os : List plain.Term) (values : List ℕ) (d e : Draft) (held : List ℕ) → MadeHolds scene n os values d e held → length held ≡ length values
  holds_long n [] values d e held m = ap (λ (vs : List ℕ). length vs) m.1
  holds_long n (t ∷ ts) [] d e held m = ap (λ (vs : List ℕ). length vs) m.1
  holds_long n (t ∷ ts) (value ∷ values) d e held (between, (v, (more, (made, (rest, are))))) = ap (λ (vs : List ℕ). length vs) are ∙ ap suc (holds_long (suc n) ts values between e more rest)

  holds_one : (n : ℕ) (os : List plain.Term) (value v : ℕ) (values more : List ℕ) (d e new : Draft) → MadeHold scene n (slice_get os 0) value d e v → MadeHolds scene (suc n) (rest_of os) values e new more
      → MadeHolds scene n os (value ∷ values) d new (v ∷ more)
  holds_one n [] value v values more d e new one rest = (rest.0 ∙ one.0, ap (λ (i : ℕ). i ∷ more) one.1 ∙ ap (λ (vs : List ℕ). value ∷ vs) rest.1)
  holds_one n (t ∷ ts) value v values more d e new one rest = (e, (v, (more, (one, (rest, refl)))))

  held_one : (n : ℕ) (os : List plain.Term) (value v : ℕ) (values more : List ℕ) (d e new : Draft) → Gives d e v (λ x. kept_shown scene n (slice_get os 0) (word_shown x value))
      → GivesAll e new more (λ x. held_words scene (suc n) (rest_of os) (map (λ i. word_shown x i) values)) → GivesAll d new (v ∷ more) (λ x. held_words scene n os (map (λ i. word_shown x i) (value ∷ values)))
  held_one n [] value v values more d e new one rest = gives_then d e new v more (λ x. word_shown x value) (λ x. map (λ i. word_shown x i) values) one rest
  held_one n (t ∷ ts) value v values more d e new one rest =
      gives_then d e new v more (λ x. held_shown t (held_at scene.held.now n).kind (word_shown x value)) (λ x. held_words scene (suc n) ts (map (λ i. word_shown x i) values)) one rest

  -- one is held by the offset of its number, where that is there
  pub hold_found : (n : ℕ) (o : Option plain.Term) (t : plain.Term) (h : VariableSlots) (value v : ℕ) (d e : Draft) → Some t ≡ o → h ≡ held_at scene.held.now n → Gives d e v (λ x. held_shown t h.kind (word_shown x value))
      → Gives d e v (λ x. kept_shown scene n o (word_shown x value))
  hold_found n o t h value v d e is same g =
      subst (λ (p : Option plain.Term). Gives d e v (λ x. kept_shown scene n p (word_shown x value))) is (subst (λ (k : VariableSlots). Gives d e v (λ x. held_shown t k.kind (word_shown x value))) same g)

  pub hold_made : (n : ℕ) (o : Option plain.Term) (t : plain.Term) (h : VariableSlots) (value v : ℕ) (d e : Draft) → Some t ≡ o → h ≡ held_at scene.held.now n → MadeHeld t h.kind value d e v → MadeHold scene n o value d e v
  hold_made n o t h value v d e is same m = subst (λ (p : Option plain.Term). MadeHold scene n p value d e v) is (subst (λ (k : VariableSlots). MadeHeld t k.kind value d e v) same m)

  pub hold_nowhere : (n : ℕ) (o : Option plain.Term) (value : ℕ) (d : Draft) → None ≡ o → Gives d d value (λ x. kept_shown scene n o (word_shown x value))
  hold_nowhere n o value d is = subst (λ (p : Option plain.Term). Gives d d value (λ x. kept_shown scene n p (word_shown x value))) is (gives_still d value)

  pub made_nowhere : (n : ℕ) (o : Option plain.Term) (value : ℕ) (d : Draft) → None ≡ o → MadeHold scene n o value d d value
  made_nowhere n o value d is = subst (λ (p : Option plain.Term). MadeHold scene n p value d d value) is (refl, refl)

  no_holds : (n : ℕ) (os : List plain.Term) (d : Draft) → MadeHolds scene n os [] d d []
  no_holds n [] d = (refl, refl)
  no_holds n (t ∷ ts) d = (refl, refl)

  no_words : (n : ℕ) (os : List plain.Term) → [] ≡ held_words scene n os []
  no_words n [] = refl
  no_words n (t ∷ ts) = refl

module _ (scene : Scene) (first : ℕ) (all : List plain.Term) (values : List ℕ) where
  pub record HoldsSoFar (i : ℕ) (d0 d : Draft) (held : List ℕ) : Type 0 where
    pub gives : (new : Draft) (more : List ℕ) → GivesAll d new more (λ x. held_words scene (first + i) (drop i all) (map (λ n. word_shown x n) (drop i values)))
        → GivesAll d0 new (held ++ more) (λ x. held_words scene first all (map (λ n. word_shown x n) values))
    pub makes : (new : Draft) (more : List ℕ) → MadeHolds scene (first + i) (drop i all) (drop i values) d new more → MadeHolds scene first all values d0 new (held ++ more)

  pub holds_first : (d : Draft) (held : List ℕ) → held ≡ [] → HoldsSoFar 0 d d held
  holds_first d held none = subst (λ (vs : List ℕ). HoldsSoFar 0 d d vs) (sym none) (record {
    gives = λ new more h. subst (λ (n : ℕ). GivesAll d new more (λ x. held_words scene n all (map (λ k. word_shown x k) values))) (same first) h;
    makes = λ new more h. subst (λ (n : ℕ). MadeHolds scene n all values d new more) (same first) h;
  })
    where
      same : (n : ℕ) → n + 0 ≡ n
      same n = omega arith

  pub holds_on : (i : ℕ) (d0 d e : Draft) (held grown : List ℕ) (value v : ℕ) → i < length values → grown ≡ held ++ v ∷ []
      → Gives d e v (λ x. kept_shown scene (first + i) (slice_get all i) (word_shown x (get_or values i value))) → MadeHold scene (first + i) (slice_get all i) (get_or values i value) d e v
      → HoldsSoFar i d0 d held → HoldsSoFar (suc i) d0 e grown
  holds_on i d0 d e held grown value v within added given made l = record {
    gives = λ new more h.
        subst (λ (vs : List ℕ). GivesAll d0 new vs (λ x. held_words scene first all (map (λ n. word_shown x n) values))) (grown_is more)
        (l.gives new (v ∷ more)
        (subst (λ (vs : List ℕ). GivesAll d new (v ∷ more) (λ x. held_words scene (first + i) (drop i all) (map (λ n. word_shown x n) vs))) (sym split)
        (held_one scene (first + i) (drop i all) (get_or values i value) v (drop (suc i) values) more d e new
        (subst (λ (o : Option plain.Term). Gives d e v (λ x. kept_shown scene (first + i) o (word_shown x (get_or values i value)))) (get_dropped all i) given)
        (subst (λ (os : List plain.Term). GivesAll e new more (λ x. held_words scene (suc (first + i)) os (map (λ n. word_shown x n) (drop (suc i) values)))) (rest_dropped all i)
        (subst (λ (n : ℕ). GivesAll e new more (λ x. held_words scene n (drop (suc i) all) (map (λ k. word_shown x k) (drop (suc i) values)))) (moved first i) h)))));
    makes = λ new more h.
        subst (λ (vs : List ℕ). MadeHolds scene first all values d0 new vs) (grown_is more)
        (l.makes new (v ∷ more)
        (subst (λ (vs : List ℕ). MadeHolds scene (first + i) (drop i all) vs d new (v ∷ more)) (sym split)
        (holds_one scene (first + i) (drop i all) (get_or values i value) v (drop (suc i) values) more d e new
        (subst (λ (o : Option plain.Term). MadeHold scene (first + i) o (get_or values i value) d e v) (get_dropped all i) made)
        (subst (λ (os : List plain.Term). MadeHolds scene (suc (first + i)) os (drop (suc i) values) e new more) (rest_dropped all i)
        (subst (λ (n : ℕ). MadeHolds scene n (drop (suc i) all) (drop (suc i) values) e new more) (moved first i) h)))));
  }
    where
      split : drop i values ≡ get_or values i value ∷ drop (suc i) values
      split = drop-cons values i value within

      moved : (a b : ℕ) → a + suc b ≡ suc (a + b)
      moved a b = omega arith

      grown_is : (more : List ℕ) → held ++ (v ∷ more) ≡ grown ++ more
      grown_is more = sym (ap (λ (vs : List ℕ). vs ++ more) added ∙ append_assoc held (v ∷ []) more)

  pub holds_last : (i : ℕ) (d0 d : Draft) (held : List ℕ) → length values ≤ i → HoldsSoFar i d0 d held → GivesAll d0 d held (λ x. held_words scene first all (map (λ n. word_shown x n) values))
  holds_last i d0 d held over l =
      subst (λ (vs : List ℕ). GivesAll d0 d vs (λ x. held_words scene first all (map (λ n. word_shown x n) values))) (append-nil held)
      (l.gives d [] (subst (λ (vs : List ℕ). GivesAll d d [] (λ x. held_words scene (first + i) (drop i all) (map (λ n. word_shown x n) vs))) (sym (drop_past values i over))
      (gives_none d (λ x. held_words scene (first + i) (drop i all) []) (λ x. no_words scene (first + i) (drop i all)))))

  pub holds_made : (i : ℕ) (d0 d : Draft) (held : List ℕ) → length values ≤ i → HoldsSoFar i d0 d held → MadeHolds scene first all values d0 d held
  holds_made i d0 d held over l =
      subst (λ (vs : List ℕ). MadeHolds scene first all values d0 d vs) (append-nil held)
      (l.makes d [] (subst (λ (vs : List ℕ). MadeHolds scene (first + i) (drop i all) vs d d []) (sym (drop_past values i over)) (no_holds scene (first + i) (drop i all) d)))

-- Variables that are set one after the other: whatever sets those to come, all are set.
module _ (scene : Scene) (lane : Lane) (first : ℕ) (kept : List ℕ) where
  pub record SetSoFar (i : ℕ) (old now : Values) : Type 0 where
    pub sets : (new : Values) → SetsFrom scene lane now new (first + i) (drop i kept) → SetsFrom scene lane old new first kept

  pub set_first : (old : Values) → SetSoFar 0 old old
  set_first old = record { sets = λ new h. subst (λ (n : ℕ). SetsFrom scene lane old new n kept) (none first) h }
    where
      none : (n : ℕ) → n + 0 ≡ n
      none n = omega arith

  pub set_more : (i : ℕ) (old now then_ : Values) (value : ℕ) → i < length kept → SetsAt scene lane now then_ (first + i) (get_or kept i value) → SetSoFar i old now → SetSoFar (suc i) old then_
  set_more i old now then_ value within set l = record {
    sets = λ new h.
        l.sets new (subst (λ (vs : List ℕ). SetsFrom scene lane now new (first + i) vs) (sym (drop-cons kept i value within)) (then_, (set, subst (λ (n : ℕ). SetsFrom scene lane then_ new n (drop (suc i) kept)) (moved first i) h)));
  }
    where
      moved : (a b : ℕ) → a + suc b ≡ suc (a + b)
      moved a b = omega arith

  pub set_all : (i : ℕ) (old now : Values) → length kept ≤ i → SetSoFar i old now → SetsFrom scene lane old now first kept
  set_all i old now over l = l.sets now (subst (λ (vs : List ℕ). SetsFrom scene lane now now (first + i) vs) (sym (drop_past kept i over)) refl)

-- The first variable on a way.
module _ (scene : Scene) (around : Around) (old new : Building) (first idle next : ℕ) where
  pub keeps_found : (hs : List Hidden) (h : Hidden) (os : List plain.Term) → Some h ≡ slice_get hs 0 → KeepsAtAllPaths scene around old new first next h os → KeepsView scene around old new first idle next hs os
  keeps_found [] h os is d = absurd cc
  keeps_found (x ∷ hs) h os is d = subst (λ (k : Hidden). KeepsAtAllPaths scene around old new first next k os) (some_same h x is) d

  pub kept_found : (hs : List Hidden) (h : Hidden) (os : List plain.Term) → Some h ≡ slice_get hs 0 → KeptTo scene around first h.entity os (paths_counted around) old new next → KeptView scene around old new first idle next hs os
  kept_found [] h os is d = absurd cc
  kept_found (x ∷ hs) h os is d = subst (λ (k : Hidden). KeptTo scene around first k.entity os (paths_counted around) old new next) (some_same h x is) d

module _ (scene : Scene) (around : Around) (b : Building) (first idle : ℕ) where
  pub keeps_nowhere : (hs : List Hidden) (os : List plain.Term) → None ≡ slice_get hs 0 → KeepsView scene around b b first idle idle hs os
  keeps_nowhere [] os is = (refl, refl)
  keeps_nowhere (x ∷ hs) os is = absurd cc

  pub kept_nowhere : (hs : List Hidden) (os : List plain.Term) → None ≡ slice_get hs 0 → KeptView scene around b b first idle idle hs os
  kept_nowhere [] os is = (refl, refl)
  kept_nowhere (x ∷ hs) os is = absurd cc
