-- The levels of expressions, form by form.
use Rattle.std.proofs.Common.{◌≡◌, ℕ, zero, suc, ◌+◌, ◌<◌, ◌≤◌, max, Bool, true, false, List, [], ◌∷◌, ◌++◌, length, map, drop, get_or, refl, ap, sym, ◌∙◌, subst, arith}
use Rattle.std.specs.Prelude.{Option, Some, None, option_map}
use Rattle.dh_base.specs.declared.places.Place.{Place}
use Rattle.dh_value.specs.declared.kinds.Kind.{Kind}
use Rattle.dh_value.specs.declared.kinds.Kind.TheVariants as kinds
use Rattle.dh_value.specs.declared.operators.Op.{Op}
use Rattle.dh_value.specs.declared.operators.Op.TheVariants as op
use Rattle.dh_tree.specs.declared.trees.expressions.Ref.{Ref}
use Rattle.dh_tree.specs.declared.trees.expressions.Expr.{Expr}
use Rattle.dh_tree.specs.WiderKinds.{wider}
use Rattle.dh_tree.specs.PlainTrees as plain
use Rattle.dh_tree.specs.PlainTrees.{Term, TermForm, Terms}
use Rattle.dh_tree.specs.Seen.{form_seen, term_seen, terms}
use Rattle.dh_meaning.specs.AccessNumbers.{form_accesses, term_accesses, terms_accesses}
use Rattle.dh_meaning.specs.Bindings.{kind_found, kind_or_first}
use Rattle.dh_meaning.specs.Core.{Reach, CoreTerm, CoreTerms, no_terms, term_and, binary, by_row, read}
use Rattle.dh_meaning.specs.CoreOf.{Known, core_form, core_term, core_terms, entity_number, extended, kept_terms, operation_of, reach_of, store_to, target_to, terms_both, way_of}
use Rattle.dh_meaning.specs.Levels.{Levels, Leveled, command_leveled, greatest, read_leveled, target_leveled, term_leveled, terms_leveled}
use Rattle.dh_lengths.specs.LedBy.{IsLedBy}
use Rattle.dh_meaning.specs.Ways.{Hidden, Way, hidden_in}
use Rattle.dh_lengths.specs.declared.leads.Leads.{Leads}
use Rattle.dh_events.specs.Tables.{table_at}
use Rattle.dh_events.proofs.Turns.{at_item}
use Rattle.dh_lengths.specs.declared.held.PhaseLevels.{PhaseLevels}
use Rattle.dh_lengths.specs.SharedReads.{told}
use Rattle.dh_lengths.specs.HeldLevels.{hidden_level, level_through, zero_levels, levels_seen, variable_in, held_access_count, leveled_with, AddsZeros, HasSoundLevels, KeepsVariableLevels, GivesLevel, GivesLevels, LevelsStore, LevelsTerm, LevelsTerms, ReadsNext, Skips, SkipsStore}
use Rattle.dh_lengths.proofs.HeldFacts.{skips_gives}
use Rattle.dh_lengths.proofs.Zeros.{drop_past, more_zeros}

-- Operations.

extended_leveled : (shared : ℕ → Option ℕ) (outer : ℕ) (k : Kind) (t : CoreTerm) (l : Levels) → term_leveled shared outer (extended k t) l ≡ term_leveled shared outer t l
extended_leveled shared outer kinds.Bool t l = refl
extended_leveled shared outer (kinds.Unsigned w) t l = refl
extended_leveled shared outer (kinds.Signed w) t l = refl

abbrev both_leveled : (shared : ℕ → Option ℕ) → (outer : ℕ) → (a b : CoreTerm) → Levels → Leveled
both_leveled shared outer a b l = greatest (term_leveled shared outer a l).level (term_leveled shared outer b (term_leveled shared outer a l).levels)

both_extended : (shared : ℕ → Option ℕ) (outer : ℕ) (k : Kind) (a b : CoreTerm) (l : Levels) → both_leveled shared outer (extended k a) (extended k b) l ≡ both_leveled shared outer a b l
both_extended shared outer k a b l =
    ap (λ (i : Leveled). greatest i.level (term_leveled shared outer (extended k b) i.levels)) (extended_leveled shared outer k a l)
    ∙ ap (λ (i : Leveled). greatest (term_leveled shared outer a l).level i) (extended_leveled shared outer k b (term_leveled shared outer a l).levels)

-- an operation has the greatest level of its operands
pub operation_leveled : (shared : ℕ → Option ℕ) (outer : ℕ) (o : Op) (j k : Kind) (a b : CoreTerm) (l : Levels) → term_leveled shared outer (operation_of o j k a b) l ≡ both_leveled shared outer a b l
operation_leveled shared outer op.Shl j k a b l = refl
operation_leveled shared outer op.Shr j k a b l = refl
operation_leveled shared outer op.Both j k a b l = refl
operation_leveled shared outer op.Either j k a b l = refl
operation_leveled shared outer op.Add j k a b l = both_extended shared outer (wider j k) a b l
operation_leveled shared outer op.Sub j k a b l = both_extended shared outer (wider j k) a b l
operation_leveled shared outer op.Mul j k a b l = both_extended shared outer (wider j k) a b l
operation_leveled shared outer op.And j k a b l = both_extended shared outer (wider j k) a b l
operation_leveled shared outer op.Or j k a b l = both_extended shared outer (wider j k) a b l
operation_leveled shared outer op.Xor j k a b l = both_extended shared outer (wider j k) a b l
operation_leveled shared outer op.Lt j k a b l = both_extended shared outer (wider j k) a b l
operation_leveled shared outer op.Gt j k a b l = both_extended shared outer (wider j k) a b l
operation_leveled shared outer op.Le j k a b l = both_extended shared outer (wider j k) a b l
operation_leveled shared outer op.Ge j k a b l = both_extended shared outer (wider j k) a b l
operation_leveled shared outer op.Eq j k a b l = both_extended shared outer (wider j k) a b l
operation_leveled shared outer op.Ne j k a b l = both_extended shared outer (wider j k) a b l

-- Steps one after the other.

pub keeps_none : (h : PhaseLevels) → KeepsVariableLevels h h
keeps_none h = record { shares = refl; first = refl; variables = refl; log = refl }

pub keeps_both : (a b c : PhaseLevels) → KeepsVariableLevels a b → KeepsVariableLevels b c → KeepsVariableLevels a c
keeps_both a b c j k = record { shares = k.shares ∙ j.shares; first = k.first ∙ j.first; variables = k.variables ∙ j.variables; log = k.log ∙ j.log }

plus_none : (n : ℕ) → n ≡ n + 0
plus_none n = omega arith

sum_of : (a b c m n : ℕ) → b ≡ a + m → c ≡ b + n → c ≡ a + (m + n)
sum_of a b c m n e f = omega (arith, e, f)

no_less : (a b n : ℕ) → b ≡ a + n → a ≤ b
no_less a b n e = omega (arith, e)

low_later : (level a b : ℕ) → level ≤ a → a ≤ b → level ≤ b
low_later level a b e f = omega (arith, e, f)

pub counts_on : (a b n outer : ℕ) → b ≡ a + n → outer ≤ a → outer ≤ b
counts_on a b n outer e f = omega (arith, e, f)

none_low : (n : ℕ) → 0 ≤ n
none_low n = omega arith

both_low : (a b n : ℕ) → a ≤ n → b ≤ n → max a b ≤ n
both_low a b n e f = grind (arith, e, f)

-- a value without reads
pub gives_still : (h : PhaseLevels) (level : ℕ) → HasSoundLevels h → level ≤ held_access_count h → GivesLevel h h (leveled_with level (levels_seen h)) level 0
gives_still h level s low = record { is = refl; seen = refl; sound = s; low = low; counted = plus_none (held_access_count h); keeps = keeps_none h }

-- behind another, whatever the level of the first
pub gives_then : (a b c : PhaseLevels) (i j : Leveled) (first level m n : ℕ) → GivesLevel a b i first m → GivesLevel b c j level n → GivesLevel a c j level (m + n)
gives_then a b c i j first level m n g h = record {
  is = h.is;
  seen = h.seen;
  sound = h.sound;
  low = h.low;
  counted = sum_of (held_access_count a) (held_access_count b) (held_access_count c) m n g.counted h.counted;
  keeps = keeps_both a b c g.keeps h.keeps;
}

-- the greater of both
pub gives_greatest : (a b c : PhaseLevels) (i j : Leveled) (first level m n : ℕ) → GivesLevel a b i first m → GivesLevel b c j level n → GivesLevel a c (greatest i.level j) (max first level) (m + n)
gives_greatest a b c i j first level m n g h = record {
  is = ap (λ x. max x level) g.is ∙ ap (λ x. max i.level x) h.is;
  seen = h.seen;
  sound = h.sound;
  low = both_low first level (held_access_count c) (low_later first (held_access_count b) (held_access_count c) g.low (no_less (held_access_count b) (held_access_count c) n h.counted)) h.low;
  counted = sum_of (held_access_count a) (held_access_count b) (held_access_count c) m n g.counted h.counted;
  keeps = keeps_both a b c g.keeps h.keeps;
}

-- what comes behind a value that was given
pub then_leveled : (a b c : PhaseLevels) (i : Leveled) (first level m n : ℕ) (outer : ℕ) (t : ℕ → CoreTerm) → GivesLevel a b i first m → GivesLevel b c (term_leveled (told b.shares.now) outer (t (held_access_count b)) (levels_seen b)) level n
    → GivesLevel b c (term_leveled (told a.shares.now) outer (t (held_access_count a + m)) i.levels) level n
then_leveled a b c i first level m n outer t g h =
    subst (λ (x : Leveled). GivesLevel b c x level n)
    (ap (λ x. term_leveled (told x) outer (t (held_access_count b)) (levels_seen b)) g.keeps.shares
    ∙ (ap (λ x. term_leveled (told a.shares.now) outer (t x) (levels_seen b)) g.counted ∙ ap (λ x. term_leveled (told a.shares.now) outer (t (held_access_count a + m)) x) g.seen)) h

-- Through views.

max_none : (n : ℕ) → n ≡ max 0 n
max_none n = grind arith

max_last : (n : ℕ) → max n 0 ≡ n
max_last n = grind arith

max_three : (a b c : ℕ) → max a (max b c) ≡ max (max a b) c
max_three a b c = grind arith

both_terms : (shared : ℕ → Option ℕ) (outer : ℕ) (cs ks : CoreTerms) (l : Levels)
    → terms_leveled shared outer (terms_both cs ks) l ≡ leveled_with (max (terms_leveled shared outer cs l).level (terms_leveled shared outer ks (terms_leveled shared outer cs l).levels).level) (terms_leveled shared outer ks (terms_leveled shared outer cs l).levels).levels
both_terms shared outer no_terms ks l = ap (λ n. leveled_with n (terms_leveled shared outer ks l).levels) (max_none (terms_leveled shared outer ks l).level)
both_terms shared outer (term_and t ts) ks l =
    let m = (term_leveled shared outer t l).levels in
    ap (greatest (term_leveled shared outer t l).level) (both_terms shared outer ts ks m)
    ∙ ap (λ n. leveled_with n (terms_leveled shared outer ks (terms_leveled shared outer ts m).levels).levels) (max_three (term_leveled shared outer t l).level (terms_leveled shared outer ts m).level (terms_leveled shared outer ks (terms_leveled shared outer ts m).levels).level)

kept_level : (shared : ℕ → Option ℕ) (outer : ℕ) (hs : List Hidden) (l : Levels) → terms_leveled shared outer (kept_terms hs) l ≡ leveled_with (hidden_level l.variables hs) l
kept_level shared outer [] l = refl
kept_level shared outer (h ∷ hs) l = ap (greatest (l.variables h.entity)) (kept_level shared outer hs l)

-- the level of what names an element, behind its indices
target_through : (shared : ℕ → Option ℕ) (outer : ℕ) (way : Option Way) (indices : CoreTerms) (l : Levels)
    → target_leveled shared outer (target_to way indices) l ≡ leveled_with (max (terms_leveled shared outer indices l).level (hidden_level (terms_leveled shared outer indices l).levels.variables (hidden_in way))) (terms_leveled shared outer indices l).levels
target_through shared outer None indices l = ap (λ n. leveled_with n (terms_leveled shared outer indices l).levels) (sym (max_last (terms_leveled shared outer indices l).level))
target_through shared outer (Some w) indices l =
    both_terms shared outer indices (kept_terms w.hidden) l
    ∙ ap (λ (x : Leveled). leveled_with (max (terms_leveled shared outer indices l).level x.level) x.levels) (kept_level shared outer w.hidden (terms_leveled shared outer indices l).levels)

hidden_low : (f : ℕ → ℕ) (hs : List Hidden) (n : ℕ) → ((e : ℕ) → f e ≤ n) → hidden_level f hs ≤ n
hidden_low f [] n h = none_low n
hidden_low f (x ∷ hs) n h = both_low (f x.entity) (hidden_level f hs) n (h x.entity) (hidden_low f hs n h)

gives_through : (a b : PhaseLevels) (i : Leveled) (first through m : ℕ) (hs : List Hidden) → GivesLevel a b i first m → through ≡ max first (hidden_level (table_at b.variables.items) hs)
    → GivesLevel a b (leveled_with (max i.level (hidden_level i.levels.variables hs)) i.levels) through m
gives_through a b i first through m hs g e = record {
  is = e ∙ (ap (λ n. max n (hidden_level (table_at b.variables.items) hs)) g.is ∙ ap (λ (l : Levels). max i.level (hidden_level l.variables hs)) g.seen);
  seen = g.seen;
  sound = g.sound;
  low = subst (λ (n : ℕ). n ≤ held_access_count b) (sym e) (both_low first (hidden_level (table_at b.variables.items) hs) (held_access_count b) g.low (hidden_low (table_at b.variables.items) hs (held_access_count b) g.sound.small.variables));
  counted = g.counted;
  keeps = g.keeps;
}

-- Forms.

module _ (old new : PhaseLevels) (outer : ℕ) (e : Expr) (level : ℕ) where
  abbrev FormGives : Known → TermForm → Type 0
  FormGives known f = GivesLevel old new (term_leveled (told old.shares.now) outer (core_form known (held_access_count old) e.place (kind_or_first e.kind) f) (levels_seen old)) level (form_accesses f)

  pub by_form : {ways : Leads} (f : TermForm) → form_seen e.form ≡ f → ((known : Known) → IsLedBy ways known → HasSoundLevels old → outer ≤ held_access_count old → FormGives known f) → LevelsTerm ways old new outer e level
  by_form f is h known u s low = subst (λ (x : TermForm). FormGives known x) (sym is) (h known u s low)

pub number_level : {ways : Leads} (h : PhaseLevels) (outer : ℕ) (e : Expr) (level : ℕ) (negative : Bool) (value : ℕ) → level ≡ 0 → form_seen e.form ≡ plain.number negative value → LevelsTerm ways h h outer e level
number_level h outer e level negative value none is =
    by_form h h outer e level (plain.number negative value) is (λ known u s low. subst (λ (n : ℕ). GivesLevel h h (leveled_with 0 (levels_seen h)) n 0) (sym none) (gives_still h 0 s (none_low (held_access_count h))))

pub truth_level : {ways : Leads} (h : PhaseLevels) (outer : ℕ) (e : Expr) (level : ℕ) (value : Bool) → level ≡ 0 → form_seen e.form ≡ plain.truth_value value → LevelsTerm ways h h outer e level
truth_level h outer e level value none is =
    by_form h h outer e level (plain.truth_value value) is (λ known u s low. subst (λ (n : ℕ). GivesLevel h h (leveled_with 0 (levels_seen h)) n 0) (sym none) (gives_still h 0 s (none_low (held_access_count h))))

pub variable_level : {ways : Leads} (h : PhaseLevels) (outer : ℕ) (e : Expr) (level : ℕ) (r : Ref) → level ≡ variable_in h.variables.items r.entity → form_seen e.form ≡ plain.named r → LevelsTerm ways h h outer e level
variable_level h outer e level r held is =
    by_form h h outer e level (plain.named r) is (λ known u s low.
    subst (λ (n : ℕ). GivesLevel h h (leveled_with (variable_in h.variables.items r.entity) (levels_seen h)) n 0) (sym held)
    (gives_still h (variable_in h.variables.items r.entity) s (s.small.variables (entity_number r.entity))))

-- a read behind its indices
reads_then : (a b c : PhaseLevels) (outer level first m : ℕ) (i : Leveled) (r : ℕ → Reach) → ((n : ℕ) → (r n).number ≡ n) → outer ≤ held_access_count a → GivesLevel a b i first m → ReadsNext b c outer first level
    → GivesLevel a c (read_leveled (told a.shares.now) outer (r (held_access_count a + m)) i) level (m + 1)
reads_then a b c outer level first m i r numbers low g reads =
    gives_then a b c i _ first level m 1 g
    (subst (λ (x : Leveled). GivesLevel b c x level 1)
    (ap (λ x. read_leveled (told x) outer (r (held_access_count b)) (leveled_with first (levels_seen b))) g.keeps.shares
    ∙ (ap (λ x. read_leveled (told a.shares.now) outer (r x) (leveled_with first (levels_seen b))) g.counted
    ∙ (ap (λ x. read_leveled (told a.shares.now) outer (r (held_access_count a + m)) (leveled_with x (levels_seen b))) g.is
    ∙ ap (λ x. read_leveled (told a.shares.now) outer (r (held_access_count a + m)) (leveled_with i.level x)) g.seen)))
    (reads (r (held_access_count b)) (numbers (held_access_count b)) g.sound (counts_on (held_access_count a) (held_access_count b) m outer g.counted low) g.low))

one_next : (n : ℕ) → n + 1 ≡ suc n
one_next n = omega arith

pub access_level : {ways : Leads} (old mid new : PhaseLevels) (outer first through level : ℕ) (e : Expr) (r : Ref) (es : List Expr) → form_seen e.form ≡ plain.accessed r (terms (map term_seen es)) → LevelsTerms ways old mid outer es first
    → through ≡ level_through ways (levels_seen mid).variables r.entity first → ReadsNext mid new outer through level → LevelsTerm ways old new outer e level
access_level {ways} old mid new outer first through level e r es is indices through_is reads =
    by_form old new outer e level (plain.accessed r (terms (map term_seen es))) is (λ known u s low.
    let same : through ≡ max first (hidden_level (table_at mid.variables.items) (hidden_in (way_of known r))) = through_is ∙ ap (λ w. max first (hidden_level (table_at mid.variables.items) (hidden_in w))) (u.same r.entity) in
    subst (λ (n : ℕ). GivesLevel old new (term_leveled (told old.shares.now) outer (core_form known (held_access_count old) e.place (kind_or_first e.kind) (plain.accessed r (terms (map term_seen es)))) (levels_seen old)) level n)
    (one_next (terms_accesses (terms (map term_seen es))))
    (subst (λ (i : Leveled). GivesLevel old new (read_leveled (told old.shares.now) outer (reach_of known (held_access_count old + terms_accesses (terms (map term_seen es))) e.place r) i) level (terms_accesses (terms (map term_seen es)) + 1))
    (sym (target_through (told old.shares.now) outer (way_of known r) (core_terms known (held_access_count old) (terms (map term_seen es))) (levels_seen old)))
    (reads_then old mid new outer level through (terms_accesses (terms (map term_seen es))) _ (λ n. reach_of known n e.place r) (λ n. refl) low (gives_through old mid _ first through (terms_accesses (terms (map term_seen es))) (hidden_in (way_of known r)) (indices known u s low) same) reads)))

pub bank_level : {ways : Leads} (old mid new : PhaseLevels) (outer first level : ℕ) (e : Expr) (r : Ref) (bank : ℕ) (bank_place : Place) (row : Expr) → form_seen e.form ≡ plain.in_bank r bank bank_place (term_seen row) → LevelsTerm ways old mid outer row first → ReadsNext mid new outer first level → LevelsTerm ways old new outer e level
bank_level old mid new outer first level e r bank bank_place row is indices reads =
    by_form old new outer e level (plain.in_bank r bank bank_place (term_seen row)) is (λ known u s low.
    subst (λ (n : ℕ). GivesLevel old new (term_leveled (told old.shares.now) outer (core_form known (held_access_count old) e.place (kind_or_first e.kind) (plain.in_bank r bank bank_place (term_seen row))) (levels_seen old)) level n)
    (one_next (term_accesses (term_seen row)))
    (reads_then old mid new outer level first (term_accesses (term_seen row)) _ (λ n. reach_of known n e.place r) (λ n. refl) low (indices known u s low) reads))

pub binary_level : {ways : Leads} (old mid new : PhaseLevels) (outer first second level : ℕ) (e : Expr) (o : Op) (left right : Expr) → form_seen e.form ≡ plain.applied o (term_seen left) (term_seen right) → level ≡ max first second → LevelsTerm ways old mid outer left first → LevelsTerm ways mid new outer right second
    → LevelsTerm ways old new outer e level
binary_level old mid new outer first second level e o left right is most one two =
    by_form old new outer e level (plain.applied o (term_seen left) (term_seen right)) is (λ known u s low.
    let g = one known u s low in
    let h = then_leveled old mid new _ first second (term_accesses (term_seen left)) (term_accesses (term_seen right)) outer (λ n. core_term known n (term_seen right)) g
    (two known u g.sound (counts_on (held_access_count old) (held_access_count mid) (term_accesses (term_seen left)) outer g.counted low)) in
    subst (λ (n : ℕ). GivesLevel old new (term_leveled (told old.shares.now) outer (core_form known (held_access_count old) e.place (kind_or_first e.kind) (plain.applied o (term_seen left) (term_seen right))) (levels_seen old)) n (form_accesses (plain.applied o (term_seen left) (term_seen right)))) (sym most)
    (subst (λ (x : Leveled). GivesLevel old new x (max first second) (term_accesses (term_seen left) + term_accesses (term_seen right)))
    (sym (operation_leveled (told old.shares.now) outer o (kind_found (term_seen left)) (kind_found (term_seen right)) (core_term known (held_access_count old) (term_seen left)) (core_term known (held_access_count old + term_accesses (term_seen left)) (term_seen right)) (levels_seen old)))
    (gives_greatest old mid new _ _ first second (term_accesses (term_seen left)) (term_accesses (term_seen right)) g h)))

pub cast_level : {ways : Leads} (old new : PhaseLevels) (outer level : ℕ) (e inner : Expr) (to : Kind) → form_seen e.form ≡ plain.converted (term_seen inner) to → LevelsTerm ways old new outer inner level → LevelsTerm ways old new outer e level
cast_level old new outer level e inner to is h = by_form old new outer e level (plain.converted (term_seen inner) to) is (λ known u s low. h known u s low)

-- Indices.

-- what the rest of the indices comes to from here, all come to
pub record TermsSo (ways : Leads) (known : Known) (start now : PhaseLevels) (outer most : ℕ) (rest all : List Expr) : Type 0 where
  pub led : IsLedBy ways known
  pub sound : HasSoundLevels now
  pub within : outer ≤ held_access_count now
  pub so : (new : PhaseLevels) (level : ℕ) → GivesLevel now new (terms_leveled (told now.shares.now) outer (core_terms known (held_access_count now) (terms (map term_seen rest))) (levels_seen now)) level (terms_accesses (terms (map term_seen rest)))
      → GivesLevel start new (terms_leveled (told start.shares.now) outer (core_terms known (held_access_count start) (terms (map term_seen all))) (levels_seen start)) (max most level) (terms_accesses (terms (map term_seen all)))

max_assoc : (most a b : ℕ) → max most (max a b) ≡ max (max a most) b
max_assoc most a b = grind arith

pub terms_begin : {ways : Leads} (known : Known) (h : PhaseLevels) (outer : ℕ) (all : List Expr) → IsLedBy ways known → HasSoundLevels h → outer ≤ held_access_count h → TermsSo ways known h h outer 0 all all
terms_begin known h outer all u s low = record {
  led = u;
  sound = s;
  within = low;
  so = λ new level g. subst (λ (n : ℕ). GivesLevel h new (terms_leveled (told h.shares.now) outer (core_terms known (held_access_count h) (terms (map term_seen all))) (levels_seen h)) n (terms_accesses (terms (map term_seen all)))) (max_none level) g;
}

pub terms_turn : {ways : Leads} (known : Known) (start now next : PhaseLevels) (outer most level more : ℕ) (all : List Expr) (i : ℕ) (e : Expr) → i < length all → e ≡ get_or all i e → more ≡ max level most → LevelsTerm ways now next outer e level → TermsSo ways known start now outer most (drop i all) all
    → TermsSo ways known start next outer more (drop (i + 1) all) all
terms_turn known start now next outer most level more all i e within is more_is one h =
    let g = one known h.led h.sound h.within in
    let k = term_accesses (term_seen e) in
    let rest = terms (map term_seen (drop (i + 1) all)) in
    record {
      led = h.led;
      sound = g.sound;
      within = counts_on (held_access_count now) (held_access_count next) k outer g.counted h.within;
      so = λ new last behind.
          subst (λ (n : ℕ). GivesLevel start new (terms_leveled (told start.shares.now) outer (core_terms known (held_access_count start) (terms (map term_seen all))) (levels_seen start)) n (terms_accesses (terms (map term_seen all))))
          (max_assoc most level last ∙ ap (λ n. max n last) (sym more_is))
          (h.so new (max level last)
          (subst (λ (l : List Expr). GivesLevel now new (terms_leveled (told now.shares.now) outer (core_terms known (held_access_count now) (terms (map term_seen l))) (levels_seen now)) (max level last) (terms_accesses (terms (map term_seen l)))) (sym (at_item all i e within is))
          (gives_greatest now next new _ _ level last k (terms_accesses rest) g
          (subst (λ (x : Leveled). GivesLevel next new x last (terms_accesses rest))
          (ap (λ x. terms_leveled (told x) outer (core_terms known (held_access_count next) rest) (levels_seen next)) g.keeps.shares
          ∙ (ap (λ x. terms_leveled (told now.shares.now) outer (core_terms known x rest) (levels_seen next)) g.counted ∙ ap (λ x. terms_leveled (told now.shares.now) outer (core_terms known (held_access_count now + k) rest) x) g.seen)) behind))));
    }

pub terms_end : {ways : Leads} (known : Known) (start now : PhaseLevels) (outer most : ℕ) (rest all : List Expr) → rest ≡ [] → TermsSo ways known start now outer most rest all
    → GivesLevel start now (terms_leveled (told start.shares.now) outer (core_terms known (held_access_count start) (terms (map term_seen all))) (levels_seen start)) most (terms_accesses (terms (map term_seen all)))
terms_end known start now outer most rest all none h =
    subst (λ (n : ℕ). GivesLevel start now (terms_leveled (told start.shares.now) outer (core_terms known (held_access_count start) (terms (map term_seen all))) (levels_seen start)) n (terms_accesses (terms (map term_seen all)))) (max_last most)
    (h.so now 0 (subst (λ (l : List Expr). GivesLevel now now (terms_leveled (told now.shares.now) outer (core_terms known (held_access_count now) (terms (map term_seen l))) (levels_seen now)) 0 (terms_accesses (terms (map term_seen l)))) (sym none)
    (gives_still now 0 h.sound (none_low (held_access_count now)))))

-- Stores.

one_more_of : (a b c k m : ℕ) → b ≡ a + (k + m) → c ≡ b + 1 → c ≡ a + (k + suc m)
one_more_of a b c k m e f = omega (arith, e, f)

pub stored : (old mid new : PhaseLevels) (l : Levels) (k m : ℕ) → HasSoundLevels mid → levels_seen mid ≡ l → held_access_count mid ≡ held_access_count old + (k + m) → KeepsVariableLevels old mid → Skips mid new 1 → GivesLevels old new l (k + suc m)
stored old mid new l k m s seen many keeps skips =
    let g = skips_gives mid new 1 s skips in
    record {
      seen = g.seen ∙ seen;
      sound = g.sound;
      counted = one_more_of (held_access_count old) (held_access_count mid) (held_access_count new) k m many g.counted;
      keeps = keeps_both old mid new keeps g.keeps;
    }

pub store_access : {ways : Leads} (old a b new : PhaseLevels) (outer first second : ℕ) (target value : Expr) (r : Ref) (es : List Expr) → form_seen target.form ≡ plain.accessed r (terms (map term_seen es)) → LevelsTerm ways old a outer value first → LevelsTerms ways a b outer es second → Skips b new 1
    → LevelsStore ways old new outer target value
store_access old a b new outer first second target value r es is one two skips known u s low =
    let k = term_accesses (term_seen value) in
    let ts = terms (map term_seen es) in
    let g = one known u s low in
    let h = two known u g.sound (counts_on (held_access_count old) (held_access_count a) k outer g.counted low) in
    let seen : levels_seen b ≡ (terms_leveled (told old.shares.now) outer (core_terms known (held_access_count old + k) ts) (term_leveled (told old.shares.now) outer (core_term known (held_access_count old) (term_seen value)) (levels_seen old)).levels).levels =
    h.seen
    ∙ (ap (λ x. (terms_leveled (told x) outer (core_terms known (held_access_count a) ts) (levels_seen a)).levels) g.keeps.shares
    ∙ (ap (λ x. (terms_leveled (told old.shares.now) outer (core_terms known x ts) (levels_seen a)).levels) g.counted ∙ ap (λ x. (terms_leveled (told old.shares.now) outer (core_terms known (held_access_count old + k) ts) x).levels) g.seen)) in
    subst (λ (f : TermForm). GivesLevels old new (command_leveled (told old.shares.now) outer (store_to known (held_access_count old + k) (plain.term target.place target.kind f) (core_term known (held_access_count old) (term_seen value))) (levels_seen old)) (k + form_accesses f)) (sym is)
    (subst (λ (l : Levels). GivesLevels old new l (k + suc (terms_accesses ts)))
    (sym (ap (λ (x : Leveled). x.levels) (target_through (told old.shares.now) outer (way_of known r) (core_terms known (held_access_count old + k) ts) (term_leveled (told old.shares.now) outer (core_term known (held_access_count old) (term_seen value)) (levels_seen old)).levels)))
    (stored old b new _ k (terms_accesses ts) h.sound seen (sum_of (held_access_count old) (held_access_count a) (held_access_count b) k (terms_accesses ts) g.counted h.counted) (keeps_both old a b g.keeps h.keeps) skips))

pub store_bank : {ways : Leads} (old a b new : PhaseLevels) (outer first second : ℕ) (target value : Expr) (r : Ref) (bank : ℕ) (bank_place : Place) (row : Expr) → form_seen target.form ≡ plain.in_bank r bank bank_place (term_seen row) → LevelsTerm ways old a outer value first → LevelsTerm ways a b outer row second → Skips b new 1
    → LevelsStore ways old new outer target value
store_bank old a b new outer first second target value r bank bank_place row is one two skips known u s low =
    let k = term_accesses (term_seen value) in
    let g = one known u s low in
    let h = two known u g.sound (counts_on (held_access_count old) (held_access_count a) k outer g.counted low) in
    let seen : levels_seen b ≡ (term_leveled (told old.shares.now) outer (core_term known (held_access_count old + k) (term_seen row)) (term_leveled (told old.shares.now) outer (core_term known (held_access_count old) (term_seen value)) (levels_seen old)).levels).levels =
    h.seen
    ∙ (ap (λ x. (term_leveled (told x) outer (core_term known (held_access_count a) (term_seen row)) (levels_seen a)).levels) g.keeps.shares
    ∙ (ap (λ x. (term_leveled (told old.shares.now) outer (core_term known x (term_seen row)) (levels_seen a)).levels) g.counted ∙ ap (λ x. (term_leveled (told old.shares.now) outer (core_term known (held_access_count old + k) (term_seen row)) x).levels) g.seen)) in
    subst (λ (f : TermForm). GivesLevels old new (command_leveled (told old.shares.now) outer (store_to known (held_access_count old + k) (plain.term target.place target.kind f) (core_term known (held_access_count old) (term_seen value))) (levels_seen old)) (k + form_accesses f)) (sym is)
    (stored old b new _ k (term_accesses (term_seen row)) h.sound seen (sum_of (held_access_count old) (held_access_count a) (held_access_count b) k (term_accesses (term_seen row)) g.counted h.counted) (keeps_both old a b g.keeps h.keeps) skips)

-- what is no access
abbrev pub NoAccess : TermForm → Type 0
NoAccess (plain.number negative n) = Unit {0}
NoAccess (plain.truth_value value) = Unit {0}
NoAccess (plain.named r) = Unit {0}
NoAccess (plain.accessed r indices) = ⊥
NoAccess (plain.in_bank r bank bank_place row) = ⊥
NoAccess (plain.applied o left right) = Unit {0}
NoAccess (plain.converted inner to) = Unit {0}

nothing_stored : (shared : ℕ → Option ℕ) (outer : ℕ) (known : Known) (n : ℕ) (place : Place) (kind : Option Kind) (f : TermForm) (v : CoreTerm) (l : Levels) → NoAccess f → l ≡ command_leveled shared outer (store_to known n (plain.term place kind f) v) l
nothing_stored shared outer known n place kind (plain.number negative m) v l h = refl
nothing_stored shared outer known n place kind (plain.truth_value value) v l h = refl
nothing_stored shared outer known n place kind (plain.named r) v l h = refl
nothing_stored shared outer known n place kind (plain.accessed r indices) v l h = elim h [ ]
nothing_stored shared outer known n place kind (plain.in_bank r bank bank_place row) v l h = elim h [ ]
nothing_stored shared outer known n place kind (plain.applied o left right) v l h = refl
nothing_stored shared outer known n place kind (plain.converted inner to) v l h = refl

pub store_none : {ways : Leads} (old new : PhaseLevels) (outer : ℕ) (target value : Expr) (f : TermForm) → form_seen target.form ≡ f → NoAccess f → SkipsStore old new target value → LevelsStore ways old new outer target value
store_none old new outer target value f is none skips known u s low =
    subst (λ (l : Levels). GivesLevels old new l (term_accesses (term_seen value) + term_accesses (term_seen target)))
    (nothing_stored (told old.shares.now) outer known (held_access_count old + term_accesses (term_seen value)) target.place target.kind (form_seen target.form) (core_term known (held_access_count old) (term_seen value)) (levels_seen old) (subst NoAccess (sym is) none))
    (skips_gives old new (term_accesses (term_seen value) + term_accesses (term_seen target)) s skips)
