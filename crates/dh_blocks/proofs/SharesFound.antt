-- A read that shares an earlier one means the same: along the trace of the program, expressions first, then commands.
use Rattle.std.proofs.Common.{◌≡◌, ℕ, zero, suc, ◌+◌, ◌<◌, ◌≤◌, ◌&&◌, ◌||◌, not, Bool, true, false, List, [], ◌∷◌, ◌++◌, length, Option, Some, None, refl, sym, ◌∙◌, ap, subst, arith}
use Rattle.std.specs.Prelude.{slice_get}
use mathlib.Core.Path.{fun_ext}
use Rattle.dh_expressions.proofs.ListPlaces.{some_same}
use Rattle.std.proofs.lemmas.Cmp.{nat_eq_equiv}
use Rattle.std.proofs.lemmas.List.{append_assoc, append-nil}
use Rattle.dh_base.specs.declared.places.Place.{Place}
use Rattle.dh_value.specs.declared.kinds.Kind.{Kind}
use Rattle.dh_value.specs.Words as words
use Rattle.dh_tree.specs.declared.trees.expressions.Ref.{Ref}
use Rattle.dh_tree.specs.Memories.{same_entity}
use Rattle.dh_tree.specs.PlainTrees.{Program, Term, term, TermForm, number, truth_value, named, accessed, in_bank, applied, converted, Terms, no_terms, term_then}
use Rattle.dh_tree.specs.Seen.{program_seen}
use Rattle.dh_meaning.specs.AccessNumbers.{term_accesses, terms_accesses}
use Rattle.dh_meaning.specs.Bindings.{kind_or_first}
use Rattle.dh_meaning.specs.CoreOf.{Known, core_form, memory_of}
use Rattle.dh_meaning.specs.Effects.{Begun, Variables, spot_by_row, value_of_term}
use Rattle.dh_meaning.specs.OnePhase.{in_one_phase}
use Rattle.dh_meaning.specs.Sites as sites
use Rattle.dh_meets.specs.Charges.{element_depends, entity_depends}
use Rattle.dh_meets.specs.Sharing.{all_arms_of, alike_elements, reassigned, shared, shares_with}
use Rattle.dh_meets.specs.SourceEvents.{Element, with_indices, in_row, SourceAccess, SourceEvent, one_access, site_of, source_term_events, source_terms_events, trace}
use Rattle.dh_sound.specs.Straight.{AreNamedTerms, IsNamedTerm}
use Rattle.dh_sound.specs.Trails.{count}
use Rattle.dh_sound.proofs.KnownReads.{Shares, count_joined, shared_found}
use Rattle.dh_sound.proofs.SourceValues.{IsNamedElement, accessed_is, all_numbers_aside, entity_is, memory_at, numbers_aside, read_value, source_spot, spot_named}
use Rattle.dh_sound.proofs.TermWalks.{term_counted, terms_counted}
use Rattle.dh_expressions.specs.declared.paths.Level.{Level}
use Rattle.dh_expressions.specs.declared.scenes.Around.{Around}
use Rattle.dh_expressions.specs.declared.scenes.Scene.{Scene}
use Rattle.dh_expressions.specs.Copying.{DoneBy, depends_at}
use Rattle.dh_expressions.specs.Drafted.{BlockStep}
use Rattle.dh_expressions.specs.Evaluated.{begun_of, known_in}
use Rattle.dh_expressions.specs.Levels.{leader_number, path_at}
use Rattle.dh_commands.specs.LanesRun.{path_in, paths_counted}
use Rattle.dh_blocks.specs.FoundAccesses.{Found, read_found, term_found, terms_found}
use Rattle.dh_blocks.specs.ChosenReads.{done_of, word_found}
use Rattle.dh_blocks.specs.BlockGround.{AllFound, AreFoundAt, AreShared, IsFoundAt, IsShared}
use Rattle.dh_blocks.proofs.TermsFollow.{done_led, found_first, found_here, found_then, led_done, term_long, terms_long}
use Rattle.dh_blocks.proofs.ReadsKnown.{IsKnown, Knows, knows_access}

pub all_found_both : (P : ℕ → Found → Type 0) (n : ℕ) (xs ys : List Found) → AllFound P n xs → AllFound P (n + length xs) ys → AllFound P n (xs ++ ys)
all_found_both P n [] ys a b i f e = subst (λ (k : ℕ). P k f) (none n i) (b i f e)
  where
    none : (n i : ℕ) → n + 0 + i ≡ n + i
    none n i = omega arith
all_found_both P n (x ∷ xs) ys a b zero f e = a 0 f e
all_found_both P n (x ∷ xs) ys a b (suc i) f e =
    subst (λ (k : ℕ). P k f) (one n i)
    (all_found_both P (n + 1) xs ys (λ j g h. subst (λ (k : ℕ). P k g) (sym (one n j)) (a (suc j) g h)) (λ j g h. subst (λ (k : ℕ). P k g) (more n (length xs) j) (b j g h)) i f e)
  where
    one : (n i : ℕ) → n + 1 + i ≡ n + suc i
    one n i = omega arith

    more : (n l j : ℕ) → n + suc l + j ≡ n + 1 + l + j
    more n l j = omega arith

pub share_facts : (p : Program) (a c : SourceAccess) (j k : ℕ) (between : List SourceEvent) → shares_with p j a between k c ≡ true
    → (a.writes ≡ false) × ((same_entity a.entity c.entity ≡ true) × ((alike_elements a.element c.element ≡ true) × ((in_one_phase p j k ≡ true) × ((all_arms_of a.site.arms c.site.arms ≡ true) × (reassigned c.element between ≡ false)))))
share_facts p a c j k between e = parts a.writes c.writes _ _ _ _ _ e
  where
    parts : (aw cw same alike one arms again : Bool) → ((((not aw && not cw) && (same && alike)) && one) && (arms && not again)) ≡ true
        → (aw ≡ false) × ((same ≡ true) × ((alike ≡ true) × ((one ≡ true) × ((arms ≡ true) × (again ≡ false)))))
    parts false false true true true true false e = (refl, (refl, (refl, (refl, (refl, refl)))))
    parts true cw same alike one arms again e = cc
    parts false true same alike one arms again e = cc
    parts false false false alike one arms again e = cc
    parts false false true false one arms again e = cc
    parts false false true true false arms again e = cc
    parts false false true true true false again e = cc
    parts false false true true true true true e = cc

module _ (scene : Scene) (x : BlockStep) (find : ℕ → Option Found) (levels : List Level) (size : ℕ) (in_block : ℕ → Bool)
    (share : (j k : ℕ) → in_one_phase (program_seen scene.program.now) j k ≡ true → in_block k ≡ true → in_block j ≡ true)
    (shares_are : (k j : ℕ) → slice_get scene.shares.now k ≡ Some (Some j) → shared (program_seen scene.program.now) k ≡ Some j) where
  abbrev p : Program
  p = program_seen scene.program.now

  abbrev known : Known
  known = known_in scene

  abbrev begun : Begun
  begun = begun_of x

  abbrev KnowsAt : Around → sites.Around → (before : List SourceEvent) → (V : ℕ → Variables) → Type 0
  KnowsAt = Knows scene x find levels size in_block

  -- paths inside these loops
  pub record IsHere (around : Around) : Type 0 where
    pub levels_are : around.levels.now ≡ levels
    pub long : paths_counted around ≡ size

  -- a read by its own form
  module _ (around : Around) (here : IsHere around) (V : ℕ → Variables) (n : ℕ) (place : Place) (k : Kind) (entity : Option ℕ) (form : TermForm) (element : Element)
      (depends : (l : ℕ) → depends_at scene form false l ≡ (entity_depends known.bindings l entity || element_depends known.bindings l element))
      (word_is : (i : ℕ) → value_of_term begun (V i) (path_in around i) (core_form known n place k form) ≡ read_value begun known entity (source_spot begun known (V i) (path_in around i) entity element)) (memory : ℕ) where
    abbrev own : Found
    own = read_found scene around x V n place k memory form

    own_leads : (i : ℕ) → own.standing.leader i ≡ leader_number levels (λ l. entity_depends known.bindings l entity || element_depends known.bindings l element) i
    own_leads i =
        ap (λ (ls : List Level). leader_number ls (depends_at scene form false) i) here.levels_are
        ∙ ap (λ (f : ℕ → Bool). leader_number levels f i) (fun_ext (λ l. depends l))

    own_word : (i : ℕ) → own.word i ≡ read_value begun known entity (source_spot begun known (V i) (path_at levels i) entity element)
    own_word i = word_is i ∙ ap (λ (ls : List Level). read_value begun known entity (source_spot begun known (V i) (path_at ls i) entity element)) here.levels_are

    own_known : (m : ℕ) → find m ≡ Some own → IsKnown scene x find levels size in_block around V m entity element
    own_known m at = record {
      found = own;
      at = at;
      long = here.long;
      leads = own_leads;
      on = λ i h on. on;
      word = λ i h. own_word i;
    }

    own_shared : (r : sites.Around) (id m : ℕ) (before after : List SourceEvent) → KnowsAt around r before V → trace p ≡ before ++ (one_access place entity element false (site_of r id) ++ after)
        → m ≡ count before → in_block m ≡ true → IsNamedElement begun known element → IsShared scene x find m own
    own_shared r id m before after knows cut here_is inside names earlier path sh within led = (done, word)
      where
        a : SourceAccess
        a = record { place = place; entity = entity; element = element; writes = false; site = site_of r id }

        s : Shares p before (count before) a earlier
        s = shared_found p before after a earlier cut (subst (λ (n : ℕ). shared p n ≡ Some earlier) here_is (shares_are m earlier sh))

        facts : (s.of.writes ≡ false) × ((same_entity s.of.entity entity ≡ true) × ((alike_elements s.of.element element ≡ true) × ((in_one_phase p earlier (count before) ≡ true) × ((all_arms_of s.of.site.arms r.arms ≡ true) × (reassigned element s.between ≡ false)))))
        facts = share_facts p s.of a earlier (count before) s.between s.so

        self : (y z : Option ℕ) → same_entity y z ≡ true → same_entity y y ≡ true
        self None z e = absurd (cc)
        self (Some m) z e = nat_eq_equiv.refl m

        g : IsKnown scene x find levels size in_block around V (count s.pre) s.of.entity element
        g = knows s.pre s.between s.of element s.cut facts.0
            (subst (λ (n : ℕ). in_block n ≡ true) s.number (share earlier (count before) facts.1.1.1.0 (subst (λ (n : ℕ). in_block n ≡ true) here_is inside)))
            facts.1.1.1.1.0 (self s.of.entity entity facts.1.0) facts.1.1.0 names facts.1.1.1.1.1

        leads : (i : ℕ) → g.found.standing.leader i ≡ leader_number levels (λ l. entity_depends known.bindings l entity || element_depends known.bindings l element) i
        leads i =
            g.leads i
            ∙ ap (λ o. leader_number levels (λ l. entity_depends known.bindings l o || element_depends known.bindings l element) i) (entity_is begun known s.of.entity entity facts.1.0)

        at : find earlier ≡ Some g.found
        at = ap find s.number ∙ g.at

        d : DoneBy x own.standing.leader own.standing.guards (length own.standing.guards) (own.standing.leader path)
        d = led_done x own.standing (own.standing.leader path) (length own.standing.guards) led

        below : d.path < size
        below = subst (λ (n : ℕ). d.path < n) here.long d.within

        done : done_of x (find earlier) path ≡ true
        done =
            ap (λ o. done_of x o path) at
            ∙ done_led x g.found.standing (g.found.standing.leader path) (length g.found.standing.guards) d.path (subst (λ (n : ℕ). d.path < n) (sym g.long) below)
            (leads d.path ∙ (sym (own_leads d.path) ∙ (d.leads ∙ (own_leads path ∙ sym (leads path))))) (g.on d.path below d.on)

        word : word_found (find earlier) path ≡ own.word path
        word =
            ap (λ o. word_found o path) at
            ∙ (g.word path (subst (λ (n : ℕ). path < n) here.long within)
            ∙ (ap (λ o. read_value begun known o (source_spot begun known (V path) (path_at levels path) o element)) (entity_is begun known s.of.entity entity facts.1.0) ∙ sym (own_word path)))

  -- Expressions at all paths.
  -- where a part of the trace stands
  pub record IsCut (before part : List SourceEvent) (n : ℕ) : Type 0 where
    pub after : List SourceEvent
    pub cut : trace p ≡ before ++ (part ++ after)
    pub number : n ≡ count before

  pub first_cut : (before one two : List SourceEvent) (n : ℕ) → IsCut before (one ++ two) n → IsCut before one n
  first_cut before one two n s = record { after = two ++ s.after; cut = s.cut ∙ ap (λ l. before ++ l) (append_assoc one two s.after); number = s.number }

  pub then_cut : (before one two : List SourceEvent) (n m : ℕ) → IsCut before (one ++ two) n → m ≡ n + count one → IsCut (before ++ one) two m
  then_cut before one two n m s e = record {
    after = s.after;
    cut = s.cut ∙ (ap (λ l. before ++ l) (append_assoc one two s.after) ∙ sym (append_assoc before one (two ++ s.after)));
    number = let c = count_joined before one in let f = s.number in omega (arith, c, e, f);
  }

  abbrev pub Inside : (n count : ℕ) → Type 0
  Inside n c = (k : ℕ) → n ≤ k → k < n + c → in_block k ≡ true

  indices_word : (around : Around) (V : ℕ → Variables) (n : ℕ) (place : Place) (k : Kind) (r : Ref) (ts : Terms) (i : ℕ)
      → value_of_term begun (V i) (path_in around i) (core_form known n place k (accessed r ts)) ≡ read_value begun known r.entity (source_spot begun known (V i) (path_in around i) r.entity (with_indices ts))
  indices_word around V n place k r ts i =
      accessed_is begun known (V i) (path_in around i) n place (Some k) r ts
      ∙ ap (λ zs. read_value begun known r.entity (spot_named begun known (V i) (path_in around i) r.entity zs)) (all_numbers_aside begun known (V i) (path_in around i) n 0 ts)

  row_word : (around : Around) (V : ℕ → Variables) (n : ℕ) (place : Place) (k : Kind) (r : Ref) (bank : ℕ) (at : Place) (t : Term) (i : ℕ)
      → value_of_term begun (V i) (path_in around i) (core_form known n place k (in_bank r bank at t)) ≡ read_value begun known r.entity (source_spot begun known (V i) (path_in around i) r.entity (in_row bank t))
  row_word around V n place k r bank at t i = ap (λ z. read_value begun known r.entity (spot_by_row begun.table (memory_at begun known r.entity) bank (words.value_of z))) (numbers_aside begun known (V i) (path_in around i) n 0 t)

  module _ (around : Around) (here : IsHere around) (r : sites.Around) (id : ℕ) (V : ℕ → Variables) where
    regroup : (before one two : List SourceEvent) → KnowsAt around r ((before ++ one) ++ two) V → KnowsAt around r (before ++ (one ++ two)) V
    regroup before one two k = subst (λ (l : List SourceEvent). KnowsAt around r l V) (append_assoc before one two) k

    -- a read behind its indices
    read_here : (before : List SourceEvent) (n : ℕ) (place : Place) (k : Option Kind) (q : Ref) (form : TermForm) (element : Element) (front : List SourceEvent) (fs : List Found) (count_of : ℕ)
        → length fs ≡ count_of → count front ≡ count_of → ((l : ℕ) → depends_at scene form false l ≡ (entity_depends known.bindings l q.entity || element_depends known.bindings l element))
        → ((i : ℕ) → value_of_term begun (V i) (path_in around i) (core_form known n place (kind_or_first k) form) ≡ read_value begun known q.entity (source_spot begun known (V i) (path_in around i) q.entity element))
        → IsNamedElement begun known element → IsCut before (front ++ one_access place q.entity element false (site_of r id)) n → Inside n (suc count_of)
        → AreFoundAt find n (fs ++ read_found scene around x V n place (kind_or_first k) (memory_of known q) form ∷ [])
        → AreShared scene x find n fs × KnowsAt around r (before ++ front) V
        → AreShared scene x find n (fs ++ read_found scene around x V n place (kind_or_first k) (memory_of known q) form ∷ []) × KnowsAt around r (before ++ (front ++ one_access place q.entity element false (site_of r id))) V
    read_here before n place k q form element front fs count_of long counted depends word_is names c within f w =
        (all_found_both (IsShared scene x find) n fs _ w.0 last, regroup before front (one_access place q.entity element false (site_of r id)) (knows_access scene x find levels size in_block around r (before ++ front) V _ w.1 known_now))
      where
        behind : IsCut (before ++ front) (one_access place q.entity element false (site_of r id)) (n + count_of)
        behind = then_cut before front (one_access place q.entity element false (site_of r id)) n (n + count_of) c (ap (λ m. n + m) (sym counted))

        at : find (n + count_of) ≡ Some (read_found scene around x V n place (kind_or_first k) (memory_of known q) form)
        at = found_here (IsFoundAt find) n (n + count_of) fs _ (ap (λ m. n + m) (sym long)) f

        known_now : false ≡ false → IsKnown scene x find levels size in_block around V (count (before ++ front)) q.entity element
        known_now e =
            subst (λ (m : ℕ). IsKnown scene x find levels size in_block around V m q.entity element) behind.number
            (own_known around here V n place (kind_or_first k) q.entity form element depends word_is (memory_of known q) (n + count_of) at)

        shared_now : IsShared scene x find (n + count_of) (read_found scene around x V n place (kind_or_first k) (memory_of known q) form)
        shared_now =
            own_shared around here V n place (kind_or_first k) q.entity form element depends word_is (memory_of known q) r id (n + count_of) (before ++ front) behind.after w.1 behind.cut behind.number
            (within (n + count_of) (low n count_of) (high n count_of)) names
          where
            low : (n c : ℕ) → n ≤ n + c
            low n c = omega arith

            high : (n c : ℕ) → n + c < n + suc c
            high n c = omega arith

        last : AllFound (IsShared scene x find) (n + length fs) (read_found scene around x V n place (kind_or_first k) (memory_of known q) form ∷ [])
        last zero g e = subst (λ (m : ℕ). IsShared scene x find m g) (ap (λ m. n + m) (sym long) ∙ none (n + length fs)) (subst (λ (h : Found). IsShared scene x find (n + count_of) h) (the _ g e) shared_now)
          where
            none : (n : ℕ) → n ≡ n + 0
            none n = omega arith

            the : (a b : Found) → Some a ≡ Some b → a ≡ b
            the a b e = some_same a b e
        last (suc i) g e = absurd (cc)

    mutual
      pub walk_term : (before : List SourceEvent) (n : ℕ) (t : Term) → IsNamedTerm t → IsCut before (source_term_events (site_of r id) t) n → Inside n (term_accesses t)
          → AreFoundAt find n (term_found scene around x V n t) → KnowsAt around r before V
          → AreShared scene x find n (term_found scene around x V n t) × KnowsAt around r (before ++ source_term_events (site_of r id) t) V
      walk_term before n (term place k (number s z)) names c within f knows = ((λ i g e. absurd (cc)), subst (λ (l : List SourceEvent). KnowsAt around r l V) (sym (append-nil before)) knows)
      walk_term before n (term place k (truth_value b)) names c within f knows = ((λ i g e. absurd (cc)), subst (λ (l : List SourceEvent). KnowsAt around r l V) (sym (append-nil before)) knows)
      walk_term before n (term place k (named q)) names c within f knows = ((λ i g e. absurd (cc)), subst (λ (l : List SourceEvent). KnowsAt around r l V) (sym (append-nil before)) knows)
      walk_term before n (term place k (accessed q ts)) names c within f knows =
          let w = walk_terms before n ts names (first_cut before (source_terms_events (site_of r id) ts) _ n c) (λ j l u. within j l (let a : n + terms_accesses ts < n + suc (terms_accesses ts) = omega arith in omega (arith, u, a)))
          (found_first (IsFoundAt find) n (terms_found scene around x V n ts) _ f) knows in
          read_here before n place k q (accessed q ts) (with_indices ts) (source_terms_events (site_of r id) ts) (terms_found scene around x V n ts) (terms_accesses ts)
          (terms_long scene around x V n ts) (terms_counted (site_of r id) ts) (λ l. refl) (indices_word around V n place (kind_or_first k) q ts) names c within f w
      walk_term before n (term place k (in_bank q bank at t)) names c within f knows =
          let w = walk_term before n t names (first_cut before (source_term_events (site_of r id) t) _ n c) (λ j l u. within j l (let a : n + term_accesses t < n + suc (term_accesses t) = omega arith in omega (arith, u, a)))
          (found_first (IsFoundAt find) n (term_found scene around x V n t) _ f) knows in
          read_here before n place k q (in_bank q bank at t) (in_row bank t) (source_term_events (site_of r id) t) (term_found scene around x V n t) (term_accesses t)
          (term_long scene around x V n t) (term_counted (site_of r id) t) (λ l. refl) (row_word around V n place (kind_or_first k) q bank at t) names c within f w
      walk_term before n (term place k (applied o a b)) names c within f knows =
          let w = walk_term before n a names.0 (first_cut before (source_term_events (site_of r id) a) _ n c) (λ j l u. within j l (omega (arith, u))) (found_first (IsFoundAt find) n (term_found scene around x V n a) _ f) knows in
          let v = walk_term (before ++ source_term_events (site_of r id) a) (n + term_accesses a) b names.1 (then_cut before (source_term_events (site_of r id) a) _ n (n + term_accesses a) c (ap (λ m. n + m) (sym (term_counted (site_of r id) a))))
          (λ j l u. within j (omega (arith, l)) (omega (arith, u)))
          (found_then (IsFoundAt find) n (n + term_accesses a) (term_found scene around x V n a) _ (ap (λ m. n + m) (sym (term_long scene around x V n a))) f) w.1 in (
            all_found_both (IsShared scene x find) n (term_found scene around x V n a) (term_found scene around x V (n + term_accesses a) b) w.0
                (subst (λ (m : ℕ). AreShared scene x find m (term_found scene around x V (n + term_accesses a) b)) (ap (λ m. n + m) (sym (term_long scene around x V n a))) v.0),
            regroup before (source_term_events (site_of r id) a) (source_term_events (site_of r id) b) v.1,
          )
      walk_term before n (term place k (converted inner to)) names c within f knows = walk_term before n inner names c within f knows

      pub walk_terms : (before : List SourceEvent) (n : ℕ) (ts : Terms) → AreNamedTerms ts → IsCut before (source_terms_events (site_of r id) ts) n → Inside n (terms_accesses ts)
          → AreFoundAt find n (terms_found scene around x V n ts) → KnowsAt around r before V
          → AreShared scene x find n (terms_found scene around x V n ts) × KnowsAt around r (before ++ source_terms_events (site_of r id) ts) V
      walk_terms before n no_terms names c within f knows = ((λ i g e. absurd (cc)), subst (λ (l : List SourceEvent). KnowsAt around r l V) (sym (append-nil before)) knows)
      walk_terms before n (term_then t ts) names c within f knows =
          let w = walk_term before n t names.0 (first_cut before (source_term_events (site_of r id) t) _ n c) (λ j l u. within j l (omega (arith, u))) (found_first (IsFoundAt find) n (term_found scene around x V n t) _ f) knows in
          let v = walk_terms (before ++ source_term_events (site_of r id) t) (n + term_accesses t) ts names.1 (then_cut before (source_term_events (site_of r id) t) _ n (n + term_accesses t) c (ap (λ m. n + m) (sym (term_counted (site_of r id) t))))
          (λ j l u. within j (omega (arith, l)) (omega (arith, u)))
          (found_then (IsFoundAt find) n (n + term_accesses t) (term_found scene around x V n t) _ (ap (λ m. n + m) (sym (term_long scene around x V n t))) f) w.1 in (
            all_found_both (IsShared scene x find) n (term_found scene around x V n t) (terms_found scene around x V (n + term_accesses t) ts) w.0
                (subst (λ (m : ℕ). AreShared scene x find m (terms_found scene around x V (n + term_accesses t) ts)) (ap (λ m. n + m) (sym (term_long scene around x V n t))) v.0),
            regroup before (source_term_events (site_of r id) t) (source_terms_events (site_of r id) ts) v.1,
          )
