-- The levels of straight commands, form by form, and of commands one after the other.
use Rattle.std.proofs.Common.{◌≡◌, ℕ, zero, suc, ◌+◌, ◌<◌, ◌≤◌, ◌==◌, ◌||◌, max, Bool, true, false, if◌then◌else◌, List, [], ◌∷◌, ◌++◌, length, map, drop, get_or, refl, ap, sym, ◌∙◌, subst, append-nil, append_assoc, arith, ◌⊎◌, inl, inr}
use mathlib.Core.Path.{fun_ext}
use Rattle.std.specs.Prelude.{Option, Some, None, Vec, slice_index}
use Rattle.std.specs.Global.{Global}
use Rattle.std.proofs.lemmas.Bool.{cases_Bool}
use Rattle.std.proofs.Math.Seq.{drop-append_seam}
use Rattle.dh_base.specs.declared.places.Place.{Place}
use Rattle.dh_value.specs.declared.kinds.Kind.{Kind}
use Rattle.dh_value.specs.declared.operators.Op.{Op}
use Rattle.dh_tree.specs.declared.trees.commands.Command.{Command}
use Rattle.dh_tree.specs.declared.trees.expressions.Expr.{Expr}
use Rattle.dh_tree.specs.declared.trees.expressions.Ref.{Ref}
use Rattle.dh_tree.specs.PlainTrees as plain
use Rattle.dh_tree.specs.PlainTrees.{Term, Action, ActionForm, Actions, Groups}
use Rattle.dh_tree.specs.Seen.{action_form_seen, action_seen, actions, groups, part_seen, term_seen, terms}
use Rattle.dh_tree.specs.ViewOffsets.{offsets_of}
use Rattle.dh_meaning.specs.AccessNumbers.{accesses_of, groups_accesses, inner_accesses, own_accesses, part_accesses, term_accesses}
use Rattle.dh_meaning.specs.Bindings.{kind_found}
use Rattle.dh_meaning.specs.Core.{CoreTerm, variable, CoreTerms, no_terms, term_and, CoreCommand, assign, choose, CoreCommands, no_commands, command_and}
use Rattle.dh_meaning.specs.CoreOf.{Known, core_action, core_action_form, core_groups, core_part, core_term, core_terms, depth_of, entity_number, kept_by, kind_of, operation_of, store_to, way_of}
use Rattle.dh_meaning.specs.Ways.{Hidden, hidden_in}
use Rattle.dh_meaning.specs.Levels.{Levels, Leveled, any_assigns, arms_joined, assigns_to, choice_levels, command_leveled, commands_leveled, greatest, term_leveled, with_value, with_variables}
use Rattle.dh_lengths.specs.declared.leads.Leads.{Leads}
use Rattle.dh_lengths.specs.LedBy.{IsLedBy}
use Rattle.dh_events.specs.Tables.{table_at, with_number}
use Rattle.dh_events.proofs.Turns.{at_item}
use Rattle.dh_lengths.specs.declared.held.PhaseLevels.{PhaseLevels}
use Rattle.dh_lengths.specs.declared.undoing.LevelMark.{LevelMark}
use Rattle.dh_lengths.specs.SharedReads.{told}
use Rattle.dh_lengths.specs.Undone.{has_mark, joined_all, mark, marks_with_levels, redone, undone_levels}
use Rattle.dh_lengths.specs.HeldLevels.{zero_levels, read_in, variable_in, levels_of, levels_seen, held_access_count, leveled_with, LevelsAreSmall, AssignsLevel, HasSoundLevels, KeepsVariableLevels, GivesLevel, GivesLevels, LevelsTerm}
use Rattle.dh_lengths.specs.LeveledCommands.{GivesCommands, LevelsCommand, LevelsReduce}
use Rattle.dh_lengths.proofs.TermLevels.{counts_on, gives_greatest, gives_still, operation_leveled}
use Rattle.dh_lengths.proofs.UndoneFacts.{both_undone, joined_both, marks_both, number_swap, put_back, redone_all, undone_both}

absurd : {A : Type 0} → ⊥ → A
absurd e = elim e [ ]

plus_none : (n : ℕ) → n ≡ n + 0
plus_none n = omega arith

from_none : (n : ℕ) → 0 + n ≡ n
from_none n = omega arith

pub or_false : (a : Bool) → (a || false) ≡ a
or_false true = refl
or_false false = refl

or_assoc : (a b c : Bool) → (a || (b || c)) ≡ ((a || b) || c)
or_assoc true b c = refl
or_assoc false b c = refl

or_both : (a b c d : Bool) → a ≡ c → b ≡ d → (a || b) ≡ (c || d)
or_both a b c d e f = ap (λ x. x || b) e ∙ ap (λ x. c || x) f

pub if_low : (b : Bool) (x y n : ℕ) → x ≤ n → y ≤ n → (if b then x else y) ≤ n
if_low true x y n e f = e
if_low false x y n e f = f

three_low : (a b c n : ℕ) → a ≤ n → b ≤ n → c ≤ n → max a (max b c) ≤ n
three_low a b c n e f g = grind (arith, e, f, g)

low_later : (level a b : ℕ) → level ≤ a → a ≤ b → level ≤ b
low_later level a b e f = omega (arith, e, f)

no_less : (a b n : ℕ) → b ≡ a + n → a ≤ b
no_less a b n e = omega (arith, e)

sum_of : (a b c m n : ℕ) → b ≡ a + m → c ≡ b + n → c ≡ a + (m + n)
sum_of a b c m n e f = omega (arith, e, f)

-- No command, and commands that set no variable.

pub gives_nothing : (h : PhaseLevels) (outer : ℕ) → HasSoundLevels h → GivesCommands h h outer no_commands 0
gives_nothing h outer s = record { seen = refl; sound = s; counted = plus_none (held_access_count h); shares = refl; first = refl; changes = []; log = sym (append-nil h.log.items); undoes = refl; marks = λ e. refl }

pub gives_skipped : (old new : PhaseLevels) (outer n : ℕ) → GivesLevels old new (levels_seen old) n → GivesCommands old new outer no_commands n
gives_skipped old new outer n g = record {
  seen = g.seen;
  sound = g.sound;
  counted = g.counted;
  shares = g.keeps.shares;
  first = g.keeps.first;
  changes = [];
  log = g.keeps.log ∙ sym (append-nil old.log.items);
  undoes = ap table_at g.keeps.variables;
  marks = λ e. refl;
}

gives_one : (old new : PhaseLevels) (outer n : ℕ) (c : CoreCommand) → ((e : ℕ) → assigns_to e c ≡ false) → GivesLevels old new (command_leveled (told old.shares.now) outer c (levels_seen old)) n → GivesCommands old new outer (command_and c no_commands) n
gives_one old new outer n c none g = record {
  seen = g.seen;
  sound = g.sound;
  counted = g.counted;
  shares = g.keeps.shares;
  first = g.keeps.first;
  changes = [];
  log = g.keeps.log ∙ sym (append-nil old.log.items);
  undoes = ap table_at g.keeps.variables;
  marks = λ e. sym (ap (λ b. b || false) (none e));
}

store_sets : (known : Known) (n : ℕ) (t : Term) (v : CoreTerm) (e : ℕ) → assigns_to e (store_to known n t v) ≡ false
store_sets known n (plain.term at kind (plain.accessed r indices)) v e = refl
store_sets known n (plain.term at kind (plain.in_bank r bank bank_place row)) v e = refl
store_sets known n (plain.term at kind (plain.number negative m)) v e = refl
store_sets known n (plain.term at kind (plain.truth_value value)) v e = refl
store_sets known n (plain.term at kind (plain.named r)) v e = refl
store_sets known n (plain.term at kind (plain.applied o left right)) v e = refl
store_sets known n (plain.term at kind (plain.converted inner to)) v e = refl

pub gives_store : (old new : PhaseLevels) (outer n m : ℕ) (known : Known) (t : Term) (v : CoreTerm) → GivesLevels old new (command_leveled (told old.shares.now) outer (store_to known m t v) (levels_seen old)) n → GivesCommands old new outer (command_and (store_to known m t v) no_commands) n
gives_store old new outer n m known t v g = gives_one old new outer n (store_to known m t v) (store_sets known m t v) g

-- A variable is set.

pub gives_assign : (old mid new : PhaseLevels) (outer depth level n : ℕ) (entity : Option ℕ) (v : CoreTerm) → GivesLevel old mid (term_leveled (told old.shares.now) outer v (levels_seen old)) level n → AssignsLevel mid new entity level
    → GivesCommands old new outer (command_and (assign depth (entity_number entity) v) no_commands) n
gives_assign old mid new outer depth level n entity v g a =
    let i = term_leveled (told old.shares.now) outer v (levels_seen old) in
    let e = entity_number entity in
    let same : held_access_count new ≡ held_access_count mid = ap length a.reads in
    record {
      seen = a.seen ∙ (ap (λ (l : Levels). with_variables l (with_value l.variables e level)) g.seen ∙ ap (λ m. with_variables i.levels (with_value i.levels.variables e m)) g.is);
      sound = record {
        first = subst (λ (m : ℕ). new.first ≤ m) (sym same) (subst (λ (m : ℕ). m ≤ held_access_count mid) (sym a.first) g.sound.first);
        small = subst (λ (m : ℕ). LevelsAreSmall m (levels_seen new)) (sym same) (subst (λ (l : Levels). LevelsAreSmall (held_access_count mid) l) (sym a.seen)
            (record {
              variables = λ x. if_low (x == e) level (table_at mid.variables.items x) (held_access_count mid) g.low (g.sound.small.variables x);
              reads = g.sound.small.reads;
              most = g.sound.small.most;
            }));
      };
      counted = same ∙ g.counted;
      shares = a.shares ∙ g.keeps.shares;
      first = a.first ∙ g.keeps.first;
      changes = mark e (variable_in mid.variables.items entity) ∷ [];
      log = a.log ∙ ap (λ l. l ++ mark e (variable_in mid.variables.items entity) ∷ []) g.keeps.log;
      undoes = put_back (table_at new.variables.items) (table_at mid.variables.items) e level (ap (λ (l : Levels). l.variables) a.seen) ∙ ap table_at g.keeps.variables;
      marks = λ x. ap (λ b. b || false) (number_swap e x);
    }

pub gives_reduce : {ways : Leads} (old mid new : PhaseLevels) (outer now first level : ℕ) (r : Ref) (value : Expr) → now ≡ variable_in old.variables.items r.entity → level ≡ max now first → LevelsTerm ways old mid outer value first → AssignsLevel mid new r.entity level → LevelsReduce ways old new outer r value
gives_reduce old mid new outer now first level r value held most one a known u s low o =
    let l = levels_seen old in
    let v = core_term known (held_access_count old) (term_seen value) in
    let k = term_accesses (term_seen value) in
    let g = one known u s low in
    let e = entity_number r.entity in
    let both = gives_greatest old old mid (leveled_with (variable_in old.variables.items r.entity) (levels_seen old)) (term_leveled (told old.shares.now) outer (core_term known (held_access_count old) (term_seen value)) (levels_seen old)) (variable_in old.variables.items r.entity) first 0 k
    (gives_still old (variable_in old.variables.items r.entity) s (s.small.variables e)) g in
    gives_assign old mid new outer (depth_of known r) level k r.entity (operation_of o (kind_of known r) (kind_found (term_seen value)) (variable (kind_of known r) (depth_of known r) e) (core_term known (held_access_count old) (term_seen value)))
    (subst (λ (x : Leveled). GivesLevel old mid x level k) (sym (operation_leveled (told old.shares.now) outer o (kind_of known r) (kind_found (term_seen value)) (variable (kind_of known r) (depth_of known r) e) (core_term known (held_access_count old) (term_seen value)) (levels_seen old)))
    (subst (λ (m : ℕ). GivesLevel old mid (greatest (variable_in old.variables.items r.entity) (term_leveled (told old.shares.now) outer (core_term known (held_access_count old) (term_seen value)) (levels_seen old))) m k) (sym (most ∙ ap (λ x. max x first) held))
    (subst (λ (m : ℕ). GivesLevel old mid (greatest (variable_in old.variables.items r.entity) (term_leveled (told old.shares.now) outer (core_term known (held_access_count old) (term_seen value)) (levels_seen old))) (max (variable_in old.variables.items r.entity) first) m) (from_none k) both))) a

-- One after the other.

-- commands are these and then those
pub record AreBoth (cs ds es : CoreCommands) : Type 0 where
  pub levels : (shared : ℕ → Option ℕ) (outer : ℕ) (l : Levels) → commands_leveled shared outer es l ≡ commands_leveled shared outer ds (commands_leveled shared outer cs l)
  pub assigns : (e : ℕ) → any_assigns e es ≡ (any_assigns e cs || any_assigns e ds)

pub gives_both : (a b c : PhaseLevels) (outer m n : ℕ) (cs ds es : CoreCommands) → AreBoth cs ds es → GivesCommands a b outer cs m → GivesCommands b c outer ds n → GivesCommands a c outer es (m + n)
gives_both a b c outer m n cs ds es both g h = record {
  seen = h.seen ∙ (ap (λ x. commands_leveled (told x) outer ds (levels_seen b)) g.shares ∙ (ap (λ x. commands_leveled (told a.shares.now) outer ds x) g.seen ∙ sym (both.levels (told a.shares.now) outer (levels_seen a))));
  sound = h.sound;
  counted = sum_of (held_access_count a) (held_access_count b) (held_access_count c) m n g.counted h.counted;
  shares = h.shares ∙ g.shares;
  first = h.first ∙ g.first;
  changes = g.changes ++ h.changes;
  log = h.log ∙ (ap (λ l. l ++ h.changes) g.log ∙ append_assoc a.log.items g.changes h.changes);
  undoes = undone_both g.changes h.changes (table_at c.variables.items) ∙ (ap (undone_levels g.changes) h.undoes ∙ g.undoes);
  marks = λ e. marks_both e g.changes h.changes ∙ (or_both _ _ _ _ (g.marks e) (h.marks e) ∙ sym (both.assigns e));
}

none_front : (rest : CoreCommands) → AreBoth no_commands rest rest
none_front rest = record { levels = λ shared outer l. refl; assigns = λ e. refl }

pub one_front : (c : CoreCommand) (rest : CoreCommands) → AreBoth (command_and c no_commands) rest (command_and c rest)
one_front c rest = record { levels = λ shared outer l. refl; assigns = λ e. ap (λ b. b || any_assigns e rest) (sym (or_false (assigns_to e c))) }

both_then : (a p q cs rest es : CoreCommands) → AreBoth a p es → AreBoth a q cs → AreBoth q rest p → AreBoth cs rest es
both_then a p q cs rest es one two behind = record {
  levels = λ shared outer l.
      one.levels shared outer l ∙ (behind.levels shared outer (commands_leveled shared outer a l) ∙ ap (commands_leveled shared outer rest) (sym (two.levels shared outer l)));
  assigns = λ e.
      one.assigns e ∙ (ap (λ b. any_assigns e a || b) (behind.assigns e) ∙ (or_assoc (any_assigns e a) (any_assigns e q) (any_assigns e rest) ∙ ap (λ b. b || any_assigns e rest) (sym (two.assigns e))));
}

-- what a view keeps in front of others
kept_front : (hidden : List Hidden) (offsets : CoreTerms) (rest : CoreCommands) → AreBoth (kept_by hidden offsets no_commands) rest (kept_by hidden offsets rest)
kept_front [] no_terms rest = none_front rest
kept_front (h ∷ hs) no_terms rest = none_front rest
kept_front [] (term_and t ts) rest = none_front rest
kept_front (h ∷ hs) (term_and t ts) rest = one_front _ rest

module _ (known : Known) where
  mutual
    -- the commands of a command in front of others
    pub front_action : (n : ℕ) (a : Action) (rest : CoreCommands) → AreBoth (core_action known n a no_commands) rest (core_action known n a rest)
    front_action n (plain.action id place form) rest = front_form n form rest

    front_form : (n : ℕ) (form : ActionForm) (rest : CoreCommands) → AreBoth (core_action_form known n form no_commands) rest (core_action_form known n form rest)
    front_form n (plain.lets name declared value) rest = one_front _ rest
    front_form n (plain.assigns target value) rest = one_front _ rest
    front_form n (plain.stores target value) rest = one_front _ rest
    front_form n (plain.reduces target o value) rest = one_front _ rest
    front_form n (plain.decides test chosen other) rest = one_front _ rest
    front_form n (plain.blocks body) rest = front_groups n body rest
    front_form n (plain.lets_memory name shape shape_places value) rest = none_front rest
    front_form n (plain.views name parent form) rest = kept_front (hidden_in (way_of known name)) (core_terms known n (terms (offsets_of form))) rest
    front_form n (plain.calls function arguments) rest = none_front rest
    front_form n (plain.repeats test body) rest = none_front rest
    front_form n (plain.counts iterator declared low high factor body combine combine_place) rest = none_front rest

    pub front_part : (n : ℕ) (part : Actions) (rest : CoreCommands) → AreBoth (core_part known n part no_commands) rest (core_part known n part rest)
    front_part n plain.no_actions rest = none_front rest
    front_part n (plain.action_then a behind) rest =
        both_then (core_action known n a no_commands) (core_part known (n + accesses_of a) behind rest) (core_part known (n + accesses_of a) behind no_commands) _ rest _
        (front_action n a (core_part known (n + accesses_of a) behind rest)) (front_action n a (core_part known (n + accesses_of a) behind no_commands)) (front_part (n + accesses_of a) behind rest)

    pub front_groups : (n : ℕ) (gs : Groups) (rest : CoreCommands) → AreBoth (core_groups known n gs no_commands) rest (core_groups known n gs rest)
    front_groups n plain.no_groups rest = none_front rest
    front_groups n (plain.group_then part behind) rest =
        both_then (core_part known n part no_commands) (core_groups known (n + part_accesses part) behind rest) (core_groups known (n + part_accesses part) behind no_commands) _ rest _
        (front_part n part (core_groups known (n + part_accesses part) behind rest)) (front_part n part (core_groups known (n + part_accesses part) behind no_commands)) (front_groups (n + part_accesses part) behind rest)

-- Loops: what the rest comes to from here, all come to.

pub record PartSo (ways : Leads) (known : Known) (start now : PhaseLevels) (outer : ℕ) (rest all : List Command) : Type 0 where
  pub led : IsLedBy ways known
  pub sound : HasSoundLevels now
  pub within : outer ≤ held_access_count now
  pub so : (new : PhaseLevels) → GivesCommands now new outer (core_part known (held_access_count now) (actions (map action_seen rest)) no_commands) (part_accesses (actions (map action_seen rest)))
      → GivesCommands start new outer (core_part known (held_access_count start) (actions (map action_seen all)) no_commands) (part_accesses (actions (map action_seen all)))

pub part_begin : {ways : Leads} (known : Known) (h : PhaseLevels) (outer : ℕ) (all : List Command) → IsLedBy ways known → HasSoundLevels h → outer ≤ held_access_count h → PartSo ways known h h outer all all
part_begin known h outer all u s low = record { led = u; sound = s; within = low; so = λ new g. g }

pub part_turn : {ways : Leads} (known : Known) (start now next : PhaseLevels) (outer : ℕ) (all : List Command) (i : ℕ) (c : Command) → i < length all → c ≡ get_or all i c → LevelsCommand ways now next outer c → PartSo ways known start now outer (drop i all) all → PartSo ways known start next outer (drop (i + 1) all) all
part_turn known start now next outer all i c within is one h =
    let g = one known h.led h.sound h.within in
    let a = action_seen c in
    let rest = actions (map action_seen (drop (i + 1) all)) in
    record {
      led = h.led;
      sound = g.sound;
      within = counts_on (held_access_count now) (held_access_count next) (accesses_of (action_seen c)) outer g.counted h.within;
      so = λ new behind.
          h.so new
          (subst (λ (l : List Command). GivesCommands now new outer (core_part known (held_access_count now) (actions (map action_seen l)) no_commands) (part_accesses (actions (map action_seen l)))) (sym (at_item all i c within is))
          (gives_both now next new outer (accesses_of (action_seen c)) (part_accesses rest) (core_action known (held_access_count now) (action_seen c) no_commands) (core_part known (held_access_count now + accesses_of (action_seen c)) rest no_commands) _
          (front_action known (held_access_count now) (action_seen c) (core_part known (held_access_count now + accesses_of (action_seen c)) rest no_commands)) g
          (subst (λ (n : ℕ). GivesCommands next new outer (core_part known n rest no_commands) (part_accesses rest)) g.counted behind)));
    }

pub part_end : {ways : Leads} (known : Known) (start now : PhaseLevels) (outer : ℕ) (rest all : List Command) → rest ≡ [] → PartSo ways known start now outer rest all
    → GivesCommands start now outer (core_part known (held_access_count start) (actions (map action_seen all)) no_commands) (part_accesses (actions (map action_seen all)))
part_end known start now outer rest all none h =
    h.so now (subst (λ (l : List Command). GivesCommands now now outer (core_part known (held_access_count now) (actions (map action_seen l)) no_commands) (part_accesses (actions (map action_seen l)))) (sym none) (gives_nothing now outer h.sound))

pub record GroupsSo (known : Known) (start now : PhaseLevels) (outer : ℕ) (rest all : List (Vec Command Global)) : Type 0 where
  pub sound : HasSoundLevels now
  pub within : outer ≤ held_access_count now
  pub so : (new : PhaseLevels) → GivesCommands now new outer (core_groups known (held_access_count now) (groups (map part_seen rest)) no_commands) (groups_accesses (groups (map part_seen rest)))
      → GivesCommands start new outer (core_groups known (held_access_count start) (groups (map part_seen all)) no_commands) (groups_accesses (groups (map part_seen all)))

pub groups_begin : (known : Known) (h : PhaseLevels) (outer : ℕ) (all : List (Vec Command Global)) → HasSoundLevels h → outer ≤ held_access_count h → GroupsSo known h h outer all all
groups_begin known h outer all s low = record { sound = s; within = low; so = λ new g. g }

pub groups_turn : (known : Known) (start now next : PhaseLevels) (outer : ℕ) (all : List (Vec Command Global)) (i : ℕ) (part : Vec Command Global) → i < length all → part ≡ get_or all i part
    → (HasSoundLevels now → outer ≤ held_access_count now → GivesCommands now next outer (core_part known (held_access_count now) (part_seen part) no_commands) (part_accesses (part_seen part))) → GroupsSo known start now outer (drop i all) all → GroupsSo known start next outer (drop (i + 1) all) all
groups_turn known start now next outer all i part within is one h =
    let g = one h.sound h.within in
    let rest = groups (map part_seen (drop (i + 1) all)) in
    record {
      sound = g.sound;
      within = counts_on (held_access_count now) (held_access_count next) (part_accesses (part_seen part)) outer g.counted h.within;
      so = λ new behind.
          h.so new
          (subst (λ (l : List (Vec Command Global)). GivesCommands now new outer (core_groups known (held_access_count now) (groups (map part_seen l)) no_commands) (groups_accesses (groups (map part_seen l)))) (sym (at_item all i part within is))
          (gives_both now next new outer (part_accesses (part_seen part)) (groups_accesses rest) (core_part known (held_access_count now) (part_seen part) no_commands) (core_groups known (held_access_count now + part_accesses (part_seen part)) rest no_commands) _
          (front_part known (held_access_count now) (part_seen part) (core_groups known (held_access_count now + part_accesses (part_seen part)) rest no_commands)) g
          (subst (λ (n : ℕ). GivesCommands next new outer (core_groups known n rest no_commands) (groups_accesses rest)) g.counted behind)));
    }

pub groups_end : (known : Known) (start now : PhaseLevels) (outer : ℕ) (rest all : List (Vec Command Global)) → rest ≡ [] → GroupsSo known start now outer rest all
    → GivesCommands start now outer (core_groups known (held_access_count start) (groups (map part_seen all)) no_commands) (groups_accesses (groups (map part_seen all)))
groups_end known start now outer rest all none h =
    h.so now (subst (λ (l : List (Vec Command Global)). GivesCommands now now outer (core_groups known (held_access_count now) (groups (map part_seen l)) no_commands) (groups_accesses (groups (map part_seen l)))) (sym none) (gives_nothing now outer h.sound))

-- a command by what is seen of its form
module _ (old new : PhaseLevels) (outer : ℕ) (c : Command) where
  abbrev FormGives : Known → ActionForm → Type 0
  FormGives known f = GivesCommands old new outer (core_action_form known (held_access_count old) f no_commands) (own_accesses f + inner_accesses f)

  pub by_form : {ways : Leads} (f : ActionForm) → action_form_seen c.form ≡ f → ((known : Known) → IsLedBy ways known → HasSoundLevels old → outer ≤ held_access_count old → FormGives known f) → LevelsCommand ways old new outer c
  by_form f is h known u s low = subst (λ (x : ActionForm). FormGives known x) (sym is) (h known u s low)

pub with_count : (old new : PhaseLevels) (outer m n : ℕ) (cs : CoreCommands) → m ≡ n → GivesCommands old new outer cs m → GivesCommands old new outer cs n
with_count old new outer m n cs e g = subst (λ (k : ℕ). GivesCommands old new outer cs k) e g

-- An `if`.

abbrev choice_of : (shared : ℕ → Option ℕ) → (outer : ℕ) → (chosen other : CoreCommands) → Leveled → Levels
choice_of shared outer chosen other t =
    choice_levels t chosen other (commands_leveled shared (max outer t.level) chosen t.levels)
    (commands_leveled shared (max outer t.level) other (with_variables (commands_leveled shared (max outer t.level) chosen t.levels) t.levels.variables))

-- but for its variables, one state is another
pub record SameReads (old new : PhaseLevels) : Type 0 where
  pub reads : new.reads.items ≡ old.reads.items
  pub shares : new.shares.now ≡ old.shares.now
  pub first : new.first ≡ old.first
  pub most : new.most ≡ old.most
  pub log : new.log.items ≡ old.log.items

variables_put : (old new : PhaseLevels) (f : ℕ → ℕ) → SameReads old new → table_at new.variables.items ≡ f → levels_seen new ≡ with_variables (levels_seen old) f
variables_put old new f same is =
    ap (λ l. levels_of l new.first new.most new.variables.items) same.reads
    ∙ (ap (λ n. levels_of old.reads.items n new.most new.variables.items) same.first
    ∙ (ap (λ n. levels_of old.reads.items old.first n new.variables.items) same.most ∙ ap (λ (g : ℕ → ℕ). record { variables = g; reads = read_in old.reads.items old.first; most = old.most }) is))

put_sound : (old new : PhaseLevels) (f : ℕ → ℕ) → SameReads old new → table_at new.variables.items ≡ f → ((e : ℕ) → f e ≤ held_access_count old) → HasSoundLevels old → HasSoundLevels new
put_sound old new f same is low s =
    let many : held_access_count new ≡ held_access_count old = ap length same.reads in
    record {
      first = subst (λ (m : ℕ). new.first ≤ m) (sym many) (subst (λ (m : ℕ). m ≤ held_access_count old) (sym same.first) s.first);
      small = subst (λ (m : ℕ). LevelsAreSmall m (levels_seen new)) (sym many) (subst (λ (l : Levels). LevelsAreSmall (held_access_count old) l) (sym (variables_put old new f same is))
          (record { variables = low; reads = s.small.reads; most = s.small.most }));
    }

since_seam : (xs ys zs : List LevelMark) → zs ≡ xs ++ ys → drop (length xs) zs ≡ ys
since_seam xs ys zs e = ap (drop (length xs)) e ∙ drop-append_seam xs ys

regroup : (o a b c k m n : ℕ) → a ≡ o + k → b ≡ a + m → c ≡ b + n → c ≡ o + (k + (m + n))
regroup o a b c k m n e f g = omega (arith, e, f, g)

swap_max : (a b : ℕ) → max a b ≡ max b a
swap_max a b = grind arith

inside_low : (a b n : ℕ) → a ≤ n → b ≤ n → max a b ≤ n
inside_low a b n e f = grind (arith, e, f)

-- the arms, from behind the test on
pub record Arms (old : PhaseLevels) (outer : ℕ) (chosen other : CoreCommands) (level inside m n : ℕ) (b b1 c d : PhaseLevels) : Type 0 where
  pub in_is : inside ≡ max level outer
  pub one : HasSoundLevels old → inside ≤ held_access_count old → GivesCommands old b inside chosen m
  pub back : SameReads b b1
  pub back_to : table_at b1.variables.items ≡ undone_levels (drop (length old.log.items) b.log.items) (table_at b.variables.items)
  pub two : HasSoundLevels b1 → inside ≤ held_access_count b1 → GivesCommands b1 c inside other n
  pub last : SameReads c d
  pub joined : table_at d.variables.items
      ≡ joined_all level (marks_with_levels (table_at c.variables.items) (drop (length old.log.items) c.log.items))
      (redone (marks_with_levels (table_at b.variables.items) (drop (length old.log.items) b.log.items)) (undone_levels (drop (length b1.log.items) c.log.items) (table_at c.variables.items)))

module _ (a b b1 c d : PhaseLevels) (outer level inside m n : ℕ) (chosen other : CoreCommands) (s : HasSoundLevels a) (low : outer ≤ held_access_count a) (level_low : level ≤ held_access_count a) (x : Arms a outer chosen other level inside m n b b1 c d) where
  in_low : inside ≤ held_access_count a
  in_low = subst (λ (k : ℕ). k ≤ held_access_count a) (sym x.in_is) (inside_low level outer (held_access_count a) level_low low)

  first_arm : GivesCommands a b inside chosen m
  first_arm = x.one s in_low

  first_since : drop (length a.log.items) b.log.items ≡ first_arm.changes
  first_since = since_seam a.log.items first_arm.changes b.log.items first_arm.log

  before : table_at b1.variables.items ≡ table_at a.variables.items
  before = x.back_to ∙ (ap (λ l. undone_levels l (table_at b.variables.items)) first_since ∙ first_arm.undoes)

  many_first : held_access_count a ≤ held_access_count b
  many_first = no_less (held_access_count a) (held_access_count b) m first_arm.counted

  back_sound : HasSoundLevels b1
  back_sound = put_sound b b1 (table_at a.variables.items) x.back before (λ e. low_later (table_at a.variables.items e) (held_access_count a) (held_access_count b) (s.small.variables e) many_first) first_arm.sound

  same_back : held_access_count b1 ≡ held_access_count b
  same_back = ap length x.back.reads

  second_arm : GivesCommands b1 c inside other n
  second_arm = x.two back_sound (subst (λ (k : ℕ). inside ≤ k) (sym same_back) (low_later inside (held_access_count a) (held_access_count b) in_low many_first))

  all_log : c.log.items ≡ a.log.items ++ (first_arm.changes ++ second_arm.changes)
  all_log = second_arm.log ∙ (ap (λ l. l ++ second_arm.changes) (x.back.log ∙ first_arm.log) ∙ append_assoc a.log.items first_arm.changes second_arm.changes)

  second_since : drop (length b1.log.items) c.log.items ≡ second_arm.changes
  second_since = since_seam b1.log.items second_arm.changes c.log.items second_arm.log

  second_undone : undone_levels second_arm.changes (table_at c.variables.items) ≡ table_at a.variables.items
  second_undone = second_arm.undoes ∙ before

  again : redone (marks_with_levels (table_at b.variables.items) (drop (length a.log.items) b.log.items)) (undone_levels (drop (length b1.log.items) c.log.items) (table_at c.variables.items)) ≡ table_at b.variables.items
  again =
      ap (λ l. redone (marks_with_levels (table_at b.variables.items) l) (undone_levels (drop (length b1.log.items) c.log.items) (table_at c.variables.items))) first_since
      ∙ (ap (λ l. redone (marks_with_levels (table_at b.variables.items) first_arm.changes) (undone_levels l (table_at c.variables.items))) second_since
      ∙ (ap (redone (marks_with_levels (table_at b.variables.items) first_arm.changes)) (second_undone ∙ sym first_arm.undoes) ∙ redone_all first_arm.changes (table_at b.variables.items)))

  behind_at : (e : ℕ) → table_at d.variables.items e ≡ (if has_mark e first_arm.changes || has_mark e second_arm.changes then max level (max (table_at b.variables.items e) (table_at c.variables.items e)) else table_at a.variables.items e)
  behind_at e =
      ap (λ f. f e)
      (x.joined ∙ (ap (λ l. joined_all level (marks_with_levels (table_at c.variables.items) l) (redone (marks_with_levels (table_at b.variables.items) (drop (length a.log.items) b.log.items)) (undone_levels (drop (length b1.log.items) c.log.items) (table_at c.variables.items)))) (since_seam a.log.items (first_arm.changes ++ second_arm.changes) c.log.items all_log) ∙ ap (joined_all level (marks_with_levels (table_at c.variables.items) (first_arm.changes ++ second_arm.changes))) again))
      ∙ joined_both level first_arm.changes second_arm.changes (table_at a.variables.items) (table_at b.variables.items) (table_at c.variables.items) first_arm.undoes e

  arms_are : table_at d.variables.items ≡ arms_joined level chosen other (table_at a.variables.items) (table_at b.variables.items) (table_at c.variables.items)
  arms_are = fun_ext (λ e.
      behind_at e
      ∙ ap (λ t. if t then max level (max (table_at b.variables.items e) (table_at c.variables.items e)) else table_at a.variables.items e) (or_both _ _ _ _ (first_arm.marks e) (second_arm.marks e)))

  in_order : inside ≡ max outer level
  in_order = x.in_is ∙ swap_max level outer

  after_first : levels_seen b ≡ commands_leveled (told a.shares.now) (max outer level) chosen (levels_seen a)
  after_first = first_arm.seen ∙ ap (λ k. commands_leveled (told a.shares.now) k chosen (levels_seen a)) in_order

  after_second : levels_seen c ≡ commands_leveled (told a.shares.now) (max outer level) other (with_variables (commands_leveled (told a.shares.now) (max outer level) chosen (levels_seen a)) (table_at a.variables.items))
  after_second =
      second_arm.seen
      ∙ (ap (λ y. commands_leveled (told y) inside other (levels_seen b1)) (x.back.shares ∙ first_arm.shares)
      ∙ (ap (λ k. commands_leveled (told a.shares.now) k other (levels_seen b1)) in_order
      ∙ (ap (commands_leveled (told a.shares.now) (max outer level) other) (variables_put b b1 (table_at a.variables.items) x.back before)
      ∙ ap (λ (l : Levels). commands_leveled (told a.shares.now) (max outer level) other (with_variables l (table_at a.variables.items))) after_first)))

  choice_seen : levels_seen d ≡ choice_of (told a.shares.now) outer chosen other (leveled_with level (levels_seen a))
  choice_seen =
      variables_put c d _ x.last arms_are
      ∙ (ap (λ (l : Levels). with_variables (levels_seen c) (arms_joined level chosen other (table_at a.variables.items) l.variables (table_at c.variables.items))) after_first
      ∙ ap (λ (l : Levels). with_variables l (arms_joined level chosen other (table_at a.variables.items) (commands_leveled (told a.shares.now) (max outer level) chosen (levels_seen a)).variables l.variables)) after_second)

  many_second : held_access_count a ≤ held_access_count c
  many_second = low_later (held_access_count a) (held_access_count b) (held_access_count c) many_first (no_less (held_access_count b) (held_access_count c) n (second_arm.counted ∙ ap (λ k. k + n) same_back))

  choice_sound : HasSoundLevels d
  choice_sound =
      put_sound c d _ x.last arms_are
      (λ e. if_low (any_assigns e chosen || any_assigns e other) (max level (max (table_at b.variables.items e) (table_at c.variables.items e))) (table_at a.variables.items e) (held_access_count c)
      (three_low level (table_at b.variables.items e) (table_at c.variables.items e) (held_access_count c) (low_later level (held_access_count a) (held_access_count c) level_low many_second)
      (low_later (table_at b.variables.items e) (held_access_count b) (held_access_count c) (first_arm.sound.small.variables e) (no_less (held_access_count b) (held_access_count c) n (second_arm.counted ∙ ap (λ k. k + n) same_back))) (second_arm.sound.small.variables e))
      (low_later (table_at a.variables.items e) (held_access_count a) (held_access_count c) (s.small.variables e) many_second)) second_arm.sound

  rest_same : (e : ℕ) → (has_mark e first_arm.changes || has_mark e second_arm.changes) ≡ false → table_at d.variables.items e ≡ table_at a.variables.items e
  rest_same e h = behind_at e ∙ ap (λ t. if t then max level (max (table_at b.variables.items e) (table_at c.variables.items e)) else table_at a.variables.items e) h

pub gives_choice : (old a b b1 c d : PhaseLevels) (outer level inside k m n : ℕ) (test : CoreTerm) (chosen other : CoreCommands) → outer ≤ held_access_count old → GivesLevel old a (term_leveled (told old.shares.now) outer test (levels_seen old)) level k
    → Arms a outer chosen other level inside m n b b1 c d → GivesCommands old d outer (command_and (choose test chosen other) no_commands) (k + (m + n))
gives_choice old a b b1 c d outer level inside k m n test chosen other low t x =
    let low_a = counts_on (held_access_count old) (held_access_count a) k outer t.counted low in
    let g = first_arm a b b1 c d outer level inside m n chosen other t.sound low_a t.low x in
    let h = second_arm a b b1 c d outer level inside m n chosen other t.sound low_a t.low x in
    record {
      seen =
          choice_seen a b b1 c d outer level inside m n chosen other t.sound low_a t.low x
          ∙ (ap (λ y. choice_of (told y) outer chosen other (leveled_with level (levels_seen a))) t.keeps.shares
          ∙ (ap (λ y. choice_of (told old.shares.now) outer chosen other (leveled_with y (levels_seen a))) t.is ∙ ap (λ y. choice_of (told old.shares.now) outer chosen other (leveled_with (term_leveled (told old.shares.now) outer test (levels_seen old)).level y)) t.seen));
      sound = choice_sound a b b1 c d outer level inside m n chosen other t.sound low_a t.low x;
      counted = ap length x.last.reads ∙ regroup (held_access_count old) (held_access_count a) (held_access_count b) (held_access_count c) k m n t.counted g.counted (h.counted ∙ ap (λ y. y + n) (ap length x.back.reads));
      shares = x.last.shares ∙ (h.shares ∙ (x.back.shares ∙ (g.shares ∙ t.keeps.shares)));
      first = x.last.first ∙ (h.first ∙ (x.back.first ∙ (g.first ∙ t.keeps.first)));
      changes = g.changes ++ h.changes;
      log = x.last.log ∙ (all_log a b b1 c d outer level inside m n chosen other t.sound low_a t.low x ∙ ap (λ l. l ++ (g.changes ++ h.changes)) t.keeps.log);
      undoes =
          both_undone g.changes h.changes (table_at a.variables.items) (table_at b.variables.items) (table_at c.variables.items) (table_at d.variables.items) g.undoes (second_undone a b b1 c d outer level inside m n chosen other t.sound low_a t.low x)
          (rest_same a b b1 c d outer level inside m n chosen other t.sound low_a t.low x) ∙ ap table_at t.keeps.variables;
      marks = λ e. marks_both e g.changes h.changes ∙ (or_both _ _ _ _ (g.marks e) (h.marks e) ∙ sym (or_false (any_assigns e chosen || any_assigns e other)));
    }

pub inside_fits : (inside level outer n : ℕ) → inside ≡ max level outer → level ≤ n → outer ≤ n → inside ≤ n
inside_fits inside level outer n is e f = subst (λ (k : ℕ). k ≤ n) (sym is) (inside_low level outer n e f)

-- what the lists of the code are
pub all_joined : (level : ℕ) (final back set fb fc : ℕ → ℕ) (others chosen arm both last : List LevelMark) → final ≡ joined_all level others set → others ≡ marks_with_levels fc both → set ≡ redone chosen back → chosen ≡ marks_with_levels fb arm → back ≡ undone_levels last fc
    → final ≡ joined_all level (marks_with_levels fc both) (redone (marks_with_levels fb arm) (undone_levels last fc))
all_joined level final back set fb fc others chosen arm both last is others_are set_is chosen_are back_is =
    is
    ∙ (ap (λ l. joined_all level l set) others_are
    ∙ ap (joined_all level (marks_with_levels fc both)) (set_is ∙ (ap (λ l. redone l back) chosen_are ∙ ap (redone (marks_with_levels fb arm)) back_is)))

pub since_is : (xs ys now : List LevelMark) (mark n : ℕ) → now ≡ drop mark xs → xs ≡ ys → mark ≡ n → now ≡ drop n ys
since_is xs ys now mark n is same at = is ∙ (ap (drop mark) same ∙ ap (λ k. drop k ys) at)

pub counts_arm : (o a b k m : ℕ) → a ≡ o + k → b ≡ a + m → b ≡ o + k + m
counts_arm o a b k m e f = omega (arith, e, f)

abbrev pub put_variables : PhaseLevels → Vec ℕ Global → PhaseLevels
put_variables h v = record { shares = h.shares; reads = h.reads; first = h.first; most = h.most; variables = v; log = h.log }

abbrev pub put_reads : PhaseLevels → Vec ℕ Global → PhaseLevels
put_reads h v = record { shares = h.shares; reads = v; first = h.first; most = h.most; variables = h.variables; log = h.log }
