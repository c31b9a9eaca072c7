-- The levels that the command of a view makes: those of its offsets, one behind the other, and then each is kept.
use Rattle.std.proofs.Common.{◌≡◌, ℕ, zero, suc, add-one, ◌+◌, ◌-◌, ◌≤◌, ◌<◌, ◌==◌, ◌&&◌, ◌||◌, nat_le, nat_lt, Bool, true, false, List, [], ◌∷◌, ◌++◌, length, drop, get_or, refl, ap, sym, ◌∙◌, subst, append-nil, append_assoc, arith}
use Rattle.std.specs.Prelude.{Option, Some, None}
use Rattle.std.specs.List.{AllByRecursion}
use Rattle.std.proofs.lemmas.Bool.Decides.{nat_tests}
use Rattle.dh_tree.specs.PlainTrees.{Term}
use Rattle.dh_tree.specs.Seen.{terms}
use Rattle.dh_meaning.specs.AccessNumbers.{term_accesses, terms_accesses}
use Rattle.dh_meaning.specs.Core.{CoreTerms, no_terms, term_and, keep, CoreCommands, no_commands, command_and, count_terms}
use Rattle.dh_meaning.specs.CoreOf.{Known, core_term, core_terms, kept_by}
use Rattle.dh_meaning.specs.Levels.{Levels, any_assigns, commands_leveled, kept_leveled, term_leveled, with_value, with_variables}
use Rattle.dh_meaning.specs.Ways.{Hidden}
use Rattle.dh_lengths.specs.declared.leads.Leads.{Leads}
use Rattle.dh_events.specs.Tables.{table_at}
use Rattle.dh_events.proofs.Turns.{at_place}
use Rattle.dh_lengths.specs.declared.held.PhaseLevels.{PhaseLevels}
use Rattle.dh_lengths.specs.LedBy.{IsLedBy}
use Rattle.dh_lengths.specs.SharedReads.{told}
use Rattle.dh_lengths.specs.Undone.{has_mark, mark, undone_levels}
use Rattle.dh_lengths.specs.HeldLevels.{held_access_count, levels_seen, LevelsAreSmall, AssignsAt, HasSoundLevels, GivesLevel, GivesLevels}
use Rattle.dh_lengths.specs.KeptLevels.{each_level, first_hidden_variable, levels_behind, set_levels_from, GivesEach, SetsLevels}
use Rattle.dh_lengths.specs.LeveledCommands.{GivesCommands}
use Rattle.dh_lengths.proofs.CommandLevels.{gives_skipped, if_low, or_false}
use Rattle.dh_lengths.proofs.TermLevels.{counts_on, keeps_both, keeps_none}
use Rattle.dh_lengths.proofs.UndoneFacts.{marks_both, put_back, undone_both}
use Rattle.dh_lengths.proofs.Zeros.{drop_past}

plus_none : (n : ℕ) → n ≡ n + 0
plus_none n = omega arith

sum_of : (a b c m n : ℕ) → b ≡ a + m → c ≡ b + n → c ≡ a + (m + n)
sum_of a b c m n e f = omega (arith, e, f)

low_later : (level a b n : ℕ) → level ≤ a → b ≡ a + n → level ≤ b
low_later level a b n e f = omega (arith, e, f)

-- What is kept.

kept_is : (shared : ℕ → Option ℕ) (outer first : ℕ) (ts : CoreTerms) (l : Levels) → kept_leveled shared outer first ts l ≡ set_levels_from first (each_level shared outer ts l) (levels_behind shared outer ts l)
kept_is shared outer first no_terms l = refl
kept_is shared outer first (term_and t ts) l =
    ap (λ (m : Levels). with_variables m (with_value m.variables first (term_leveled shared outer t l).level)) (kept_is shared outer (suc first) ts (term_leveled shared outer t l).levels)

each_long : (shared : ℕ → Option ℕ) (outer : ℕ) (ts : CoreTerms) (l : Levels) → length (each_level shared outer ts l) ≡ count_terms ts
each_long shared outer no_terms l = refl
each_long shared outer (term_and t ts) l = ap suc (each_long shared outer ts (term_leveled shared outer t l).levels)

set_small : (n first : ℕ) (levels : List ℕ) (l : Levels) → LevelsAreSmall n l → AllByRecursion (λ level. level ≤ n) levels → LevelsAreSmall n (set_levels_from first levels l)
set_small n first [] l s a = s
set_small n first (v ∷ vs) l s a =
    let r = set_small n (suc first) vs l s a.1 in
    record { variables = λ e. if_low (e == first) v ((set_levels_from (suc first) vs l).variables e) n a.0 (r.variables e); reads = r.reads; most = r.most }

none_between : (first e : ℕ) → (nat_le first e && nat_lt e (first + 0)) ≡ false
none_between first e = grind (arith, nat_tests)

one_more : (first n e : ℕ) → ((nat_le (first + 1) e && nat_lt e (first + 1 + n)) || ((first == e) || false)) ≡ (nat_le first e && nat_lt e (first + suc n))
one_more first n e = grind (arith, nat_tests)

sets_none : (h : PhaseLevels) (first : ℕ) (levels : List ℕ) → levels ≡ [] → SetsLevels h h first levels
sets_none h first levels none =
    subst (λ (l : List ℕ). SetsLevels h h first l) (sym none)
    (record { seen = refl; reads = refl; shares = refl; begun = refl; changes = []; log = sym (append-nil h.log.items); undoes = refl; marks = λ e. sym (none_between first e) })

sets_more : (old mid new : PhaseLevels) (first v : ℕ) (vs levels : List ℕ) → levels ≡ v ∷ vs → SetsLevels old mid (first + 1) vs → AssignsAt mid new first v → SetsLevels old new first levels
sets_more old mid new first v vs levels is s a =
    subst (λ (l : List ℕ). SetsLevels old new first l) (sym is)
    (record {
      seen = a.seen ∙ ap (λ (l : Levels). with_variables l (with_value l.variables first v)) (s.seen ∙ ap (λ k. set_levels_from k vs (levels_seen old)) (add-one first));
      reads = a.reads ∙ s.reads;
      shares = a.shares ∙ s.shares;
      begun = a.first ∙ s.begun;
      changes = s.changes ++ mark first (table_at mid.variables.items first) ∷ [];
      log = a.log ∙ (ap (λ l. l ++ mark first (table_at mid.variables.items first) ∷ []) s.log ∙ append_assoc old.log.items s.changes (mark first (table_at mid.variables.items first) ∷ []));
      undoes =
          undone_both s.changes (mark first (table_at mid.variables.items first) ∷ []) (table_at new.variables.items)
          ∙ (ap (undone_levels s.changes) (put_back (table_at new.variables.items) (table_at mid.variables.items) first v (ap (λ (l : Levels). l.variables) a.seen)) ∙ s.undoes);
      marks = λ e.
          marks_both e s.changes (mark first (table_at mid.variables.items first) ∷ [])
          ∙ (ap (λ b. b || ((first == e) || false)) (s.marks e) ∙ one_more first (length vs) e);
    })

-- one more of them, from the last on
pub sets_begin : (h : PhaseLevels) (first n : ℕ) (levels : List ℕ) → n ≡ length levels → SetsLevels h h (first + n) (drop n levels)
sets_begin h first n levels all = sets_none h (first + n) (drop n levels) (drop_past levels n (past (length levels) n all))
  where
    past : (m n : ℕ) → n ≡ m → m ≤ n
    past m n e = omega (arith, e)

pub sets_end : (old new : PhaseLevels) (first i : ℕ) (levels : List ℕ) → i ≤ 0 → SetsLevels old new (first + i) (drop i levels) → SetsLevels old new first levels
sets_end old new first zero levels none s = subst (λ (n : ℕ). SetsLevels old new n levels) (sym (plus_none first)) s
sets_end old new first (suc i) levels none s = elim (never i none) [ ]
  where
    never : (i : ℕ) → suc i ≤ 0 → ⊥
    never i e = omega (arith, e)

pub sets_turn : (old mid new : PhaseLevels) (first i : ℕ) (levels : List ℕ) → 0 < i → i ≤ length levels → SetsLevels old mid (first + i) (drop i levels) → AssignsAt mid new (first + (i - 1)) (get_or levels (i - 1) 0)
    → SetsLevels old new (first + (i - 1)) (drop (i - 1) levels)
sets_turn old mid new first i levels some within s a =
    sets_more old mid new (first + (i - 1)) (get_or levels (i - 1) 0) (drop i levels) (drop (i - 1) levels)
    (at_place levels (i - 1) 0 (before_end i (length levels) some within) ∙ ap (λ n. get_or levels (i - 1) 0 ∷ drop n levels) (back_one i some))
    (subst (λ (n : ℕ). SetsLevels old mid n (drop i levels)) (back_first first i some) s) a
  where
    back_one : (i : ℕ) → 0 < i → i - 1 + 1 ≡ i
    back_one i e = omega (arith, e)

    back_first : (first i : ℕ) → 0 < i → first + i ≡ first + (i - 1) + 1
    back_first first i e = omega (arith, e)

    before_end : (i n : ℕ) → 0 < i → i ≤ n → i - 1 < n
    before_end i n e f = omega (arith, e, f)

module _ (old mid new : PhaseLevels) (outer first n : ℕ) (ts : CoreTerms) (levels : List ℕ)
    (g : GivesEach old mid (each_level (told old.shares.now) outer ts (levels_seen old)) (levels_behind (told old.shares.now) outer ts (levels_seen old)) levels n) (s : SetsLevels mid new first levels) where
  same : held_access_count new ≡ held_access_count mid
  same = ap length s.reads

  gives_set : (cs : CoreCommands) → commands_leveled (told old.shares.now) outer cs (levels_seen old) ≡ kept_leveled (told old.shares.now) outer first ts (levels_seen old)
      → ((e : ℕ) → any_assigns e cs ≡ (nat_le first e && nat_lt e (first + count_terms ts))) → GivesCommands old new outer cs n
  gives_set cs leveled_so assigned_so = record {
    seen =
        s.seen
        ∙ (ap (set_levels_from first levels) g.seen
        ∙ (ap (λ vs. set_levels_from first vs (levels_behind (told old.shares.now) outer ts (levels_seen old))) g.is ∙ (sym (kept_is (told old.shares.now) outer first ts (levels_seen old)) ∙ sym leveled_so)));
    sound = record {
      first = subst (λ (m : ℕ). new.first ≤ m) (sym same) (subst (λ (m : ℕ). m ≤ held_access_count mid) (sym s.begun) g.sound.first);
      small = subst (λ (m : ℕ). LevelsAreSmall m (levels_seen new)) (sym same) (subst (λ (l : Levels). LevelsAreSmall (held_access_count mid) l) (sym s.seen) (set_small (held_access_count mid) first levels (levels_seen mid) g.sound.small g.low));
    };
    counted = same ∙ g.counted;
    shares = s.shares ∙ g.keeps.shares;
    first = s.begun ∙ g.keeps.first;
    changes = s.changes;
    log = s.log ∙ ap (λ l. l ++ s.changes) g.keeps.log;
    undoes = s.undoes ∙ ap table_at g.keeps.variables;
    marks = λ e.
        s.marks e
        ∙ (ap (λ k. nat_le first e && nat_lt e (first + k)) (ap length g.is ∙ each_long (told old.shares.now) outer ts (levels_seen old)) ∙ sym (assigned_so e));
  }

-- a view with variables for its offsets
pub view_kept : (old mid new : PhaseLevels) (outer first n : ℕ) (hs : List Hidden) (ts : CoreTerms) (levels : List ℕ) → first_hidden_variable hs ≡ Some first
    → GivesEach old mid (each_level (told old.shares.now) outer ts (levels_seen old)) (levels_behind (told old.shares.now) outer ts (levels_seen old)) levels n → SetsLevels mid new first levels → GivesCommands old new outer (kept_by hs ts no_commands) n
view_kept old mid new outer first n [] ts levels is g s = cc
view_kept old mid new outer first n (h ∷ hs) no_terms levels is g s = gives_set old mid new outer first n no_terms levels g s no_commands refl (λ e. sym (none_between first e))
view_kept old mid new outer first n (h ∷ hs) (term_and t ts) levels is g s =
    subst (λ (k : ℕ). GivesCommands old new outer (command_and (keep h.depth k (term_and t ts)) no_commands) n) (sym (some_same h.entity first is))
    (gives_set old mid new outer first n (term_and t ts) levels g s (command_and (keep h.depth first (term_and t ts)) no_commands) refl (λ e. or_false (nat_le first e && nat_lt e (first + count_terms (term_and t ts)))))
  where
    some_same : (a b : ℕ) → Some a ≡ Some b → a ≡ b
    some_same a b e = cc

-- and one without
pub view_skipped : (old new : PhaseLevels) (outer n : ℕ) (hs : List Hidden) (ts : CoreTerms) → first_hidden_variable hs ≡ None → GivesLevels old new (levels_seen old) n → GivesCommands old new outer (kept_by hs ts no_commands) n
view_skipped old new outer n [] no_terms none g = gives_skipped old new outer n g
view_skipped old new outer n [] (term_and t ts) none g = gives_skipped old new outer n g
view_skipped old new outer n (h ∷ hs) ts none g = cc

-- The offsets, one by one.

pub record EachSo (ways : Leads) (known : Known) (start now : PhaseLevels) (outer : ℕ) (levels : List ℕ) (rest all : List Term) : Type 0 where
  pub led : IsLedBy ways known
  pub sound : HasSoundLevels now
  pub within : outer ≤ held_access_count now
  pub so : (new : PhaseLevels) (more : List ℕ)
      → GivesEach now new (each_level (told now.shares.now) outer (core_terms known (held_access_count now) (terms rest)) (levels_seen now)) (levels_behind (told now.shares.now) outer (core_terms known (held_access_count now) (terms rest)) (levels_seen now)) more (terms_accesses (terms rest))
      → GivesEach start new (each_level (told start.shares.now) outer (core_terms known (held_access_count start) (terms all)) (levels_seen start)) (levels_behind (told start.shares.now) outer (core_terms known (held_access_count start) (terms all)) (levels_seen start)) (levels ++ more) (terms_accesses (terms all))

pub each_begin : {ways : Leads} (known : Known) (h : PhaseLevels) (outer : ℕ) (levels : List ℕ) (all : List Term) → levels ≡ [] → IsLedBy ways known → HasSoundLevels h → outer ≤ held_access_count h → EachSo ways known h h outer levels all all
each_begin known h outer levels all none u s low = record {
  led = u;
  sound = s;
  within = low;
  so = λ new more g.
      subst (λ (ls : List ℕ). GivesEach h new (each_level (told h.shares.now) outer (core_terms known (held_access_count h) (terms all)) (levels_seen h)) (levels_behind (told h.shares.now) outer (core_terms known (held_access_count h) (terms all)) (levels_seen h)) (ls ++ more) (terms_accesses (terms all))) (sym none) g;
}

pub each_turn : {ways : Leads} (known : Known) (start now next : PhaseLevels) (outer level : ℕ) (levels next_levels : List ℕ) (t : Term) (rest left all : List Term) → left ≡ t ∷ rest → next_levels ≡ levels ++ level ∷ []
    → (IsLedBy ways known → HasSoundLevels now → outer ≤ held_access_count now → GivesLevel now next (term_leveled (told now.shares.now) outer (core_term known (held_access_count now) t) (levels_seen now)) level (term_accesses t)) → EachSo ways known start now outer levels left all
    → EachSo ways known start next outer next_levels rest all
each_turn known start now next outer level levels next_levels t rest left all cut longer one h =
    let g = one h.led h.sound h.within in
    let k = term_accesses t in
    record {
      led = h.led;
      sound = g.sound;
      within = counts_on (held_access_count now) (held_access_count next) k outer g.counted h.within;
      so = λ new more b.
          let same : (f : (ℕ → Option ℕ) → CoreTerms → Levels → List ℕ) → f (told next.shares.now) (core_terms known (held_access_count next) (terms rest)) (levels_seen next) ≡ f (told now.shares.now) (core_terms known (held_access_count now + k) (terms rest)) (term_leveled (told now.shares.now) outer (core_term known (held_access_count now) t) (levels_seen now)).levels =
          λ f. ap (λ x. f (told x) (core_terms known (held_access_count next) (terms rest)) (levels_seen next)) g.keeps.shares
          ∙ (ap (λ x. f (told now.shares.now) (core_terms known x (terms rest)) (levels_seen next)) g.counted ∙ ap (λ x. f (told now.shares.now) (core_terms known (held_access_count now + k) (terms rest)) x) g.seen) in
          let behind : levels_behind (told next.shares.now) outer (core_terms known (held_access_count next) (terms rest)) (levels_seen next) ≡ levels_behind (told now.shares.now) outer (core_terms known (held_access_count now + k) (terms rest)) (term_leveled (told now.shares.now) outer (core_term known (held_access_count now) t) (levels_seen now)).levels =
          ap (λ x. levels_behind (told x) outer (core_terms known (held_access_count next) (terms rest)) (levels_seen next)) g.keeps.shares
          ∙ (ap (λ x. levels_behind (told now.shares.now) outer (core_terms known x (terms rest)) (levels_seen next)) g.counted ∙ ap (λ x. levels_behind (told now.shares.now) outer (core_terms known (held_access_count now + k) (terms rest)) x) g.seen) in
          subst (λ (ls : List ℕ). GivesEach start new (each_level (told start.shares.now) outer (core_terms known (held_access_count start) (terms all)) (levels_seen start)) (levels_behind (told start.shares.now) outer (core_terms known (held_access_count start) (terms all)) (levels_seen start)) ls (terms_accesses (terms all)))
          (sym (append_assoc levels (level ∷ []) more) ∙ ap (λ l. l ++ more) (sym longer))
          (h.so new (level ∷ more)
          (subst (λ (ts : List Term). GivesEach now new (each_level (told now.shares.now) outer (core_terms known (held_access_count now) (terms ts)) (levels_seen now)) (levels_behind (told now.shares.now) outer (core_terms known (held_access_count now) (terms ts)) (levels_seen now)) (level ∷ more) (terms_accesses (terms ts))) (sym cut)
          (record {
            is = ap (λ v. v ∷ more) g.is ∙ ap (λ vs. (term_leveled (told now.shares.now) outer (core_term known (held_access_count now) t) (levels_seen now)).level ∷ vs) (b.is ∙ same (λ shared ts l. each_level shared outer ts l));
            seen = b.seen ∙ behind;
            sound = b.sound;
            low = (low_later level (held_access_count next) (held_access_count new) (terms_accesses (terms rest)) g.low b.counted, b.low);
            counted = sum_of (held_access_count now) (held_access_count next) (held_access_count new) k (terms_accesses (terms rest)) g.counted b.counted;
            keeps = keeps_both now next new g.keeps b.keeps;
          })));
    }

pub each_end : {ways : Leads} (known : Known) (start now : PhaseLevels) (outer : ℕ) (levels : List ℕ) (rest all : List Term) → rest ≡ [] → EachSo ways known start now outer levels rest all
    → GivesEach start now (each_level (told start.shares.now) outer (core_terms known (held_access_count start) (terms all)) (levels_seen start)) (levels_behind (told start.shares.now) outer (core_terms known (held_access_count start) (terms all)) (levels_seen start)) levels (terms_accesses (terms all))
each_end known start now outer levels rest all none h =
    subst (λ (ls : List ℕ). GivesEach start now (each_level (told start.shares.now) outer (core_terms known (held_access_count start) (terms all)) (levels_seen start)) (levels_behind (told start.shares.now) outer (core_terms known (held_access_count start) (terms all)) (levels_seen start)) ls (terms_accesses (terms all))) (append-nil levels)
    (h.so now []
    (subst (λ (ts : List Term). GivesEach now now (each_level (told now.shares.now) outer (core_terms known (held_access_count now) (terms ts)) (levels_seen now)) (levels_behind (told now.shares.now) outer (core_terms known (held_access_count now) (terms ts)) (levels_seen now)) [] (terms_accesses (terms ts))) (sym none)
    (record { is = refl; seen = refl; sound = h.sound; low = tt; counted = plus_none (held_access_count now); keeps = keeps_none now })))
