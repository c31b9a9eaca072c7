-- Loops over the commands of a part and over the parts of a block.
use Rattle.std.proofs.Common.{◌≡◌, ℕ, suc, ◌+◌, ◌++◌, true, false, if◌then◌else◌, List, [], ◌∷◌, map, refl, ap, sym, ◌∙◌, arith}
use Rattle.std.specs.Prelude.{Vec}
use Rattle.std.specs.Global.{Global}
use Rattle.dh_base.specs.declared.places.Place.{Place}
use Rattle.dh_lexer.specs.declared.tokens.Token.{Token}
use Rattle.dh_tree.specs.declared.trees.commands.Command.{Command}
use Rattle.dh_tree.specs.PlainTrees.{Action, action, Actions, no_actions, action_then, Groups, no_groups, group_then}
use Rattle.dh_tree.specs.Seen.{action_seen, actions, part_seen, groups}
use Rattle.dh_parser.specs.declared.parsing.reading.Mark.TheVariants as mark
use Rattle.dh_parser.specs.Marks.{comes}
use Rattle.dh_parser.specs.Grammar.{SimpleText, CompoundText, PartText, end_of_part, last_simple, simple_then, compound_then, semicolon_then, PartsText, last_part, part_then}
use Rattle.dh_parser.specs.TreesOfTexts.{simple_place, simple_form, part_of, parts_of, count_part, count_parts, compound_of, count_compound}
use Rattle.dh_parser.specs.Answers.{SamePart, SameParts, CommandNumbered, PartNumbered}
use Rattle.dh_parser.specs.Reading.{good, outcome_bind, the, the_simple, the_compound, the_block, the_part, the_parts, part_with, beginning, Beginning, begins_simple, begins_compound, begins_semicolon, steps}
use Rattle.dh_parser.proofs.Going.{if_true, if_false}

abbrev pub actions_on : List Action → Actions → Actions
actions_on [] x = x
actions_on (t ∷ ts) x = action_then t (actions_on ts x)

actions_all : (ts : List Action) → actions ts ≡ actions_on ts no_actions
actions_all [] = refl
actions_all (t ∷ ts) = ap (λ x. action_then t x) (actions_all ts)

actions_more : (ts : List Action) (t : Action) (x : Actions) → actions_on (ts ++ (t ∷ [])) x ≡ actions_on ts (action_then t x)
actions_more [] t x = refl
actions_more (u ∷ ts) t x = ap (λ y. action_then u y) (actions_more ts t x)

seen_more : (es : List Command) (e : Command) → map action_seen (es ++ (e ∷ [])) ≡ map action_seen es ++ (action_seen e ∷ [])
seen_more [] e = refl
seen_more (d ∷ es) e = ap (λ y. action_seen d ∷ y) (seen_more es e)

actions_listed : {w : Actions} {new : List Command} {t : Action} (es : List Command) (e : Command) (x : Actions) → w ≡ actions_on (map action_seen es) (action_then t x) → new ≡ es ++ (e ∷ []) → action_seen e ≡ t → w ≡ actions_on (map action_seen new) x
actions_listed es e x f g s =
    f ∙ (ap (λ u. actions_on (map action_seen es) (action_then u x)) (sym s) ∙ (sym (actions_more (map action_seen es) (action_seen e) x) ∙ (ap (λ l. actions_on l x) (sym (seen_more es e)) ∙ ap (λ l. actions_on (map action_seen l) x) (sym g))))

abbrev pub groups_on : List Actions → Groups → Groups
groups_on [] x = x
groups_on (t ∷ ts) x = group_then t (groups_on ts x)

groups_all : (ts : List Actions) → groups ts ≡ groups_on ts no_groups
groups_all [] = refl
groups_all (t ∷ ts) = ap (λ x. group_then t x) (groups_all ts)

groups_more : (ts : List Actions) (t : Actions) (x : Groups) → groups_on (ts ++ (t ∷ [])) x ≡ groups_on ts (group_then t x)
groups_more [] t x = refl
groups_more (u ∷ ts) t x = ap (λ y. group_then u y) (groups_more ts t x)

parts_more : (es : List (Vec Command Global)) (e : Vec Command Global) → map part_seen (es ++ (e ∷ [])) ≡ map part_seen es ++ (part_seen e ∷ [])
parts_more [] e = refl
parts_more (d ∷ es) e = ap (λ y. part_seen d ∷ y) (parts_more es e)

groups_listed : {w : Groups} {new : List (Vec Command Global)} {t : Actions} (es : List (Vec Command Global)) (e : Vec Command Global) (x : Groups) → w ≡ groups_on (map part_seen es) (group_then t x) → new ≡ es ++ (e ∷ []) → part_seen e ≡ t → w ≡ groups_on (map part_seen new) x
groups_listed es e x f g s =
    f ∙ (ap (λ u. groups_on (map part_seen es) (group_then u x)) (sym s) ∙ (sym (groups_more (map part_seen es) (part_seen e) x) ∙ (ap (λ l. groups_on l x) (sym (parts_more es e)) ∙ ap (λ l. groups_on (map part_seen l) x) (sym g))))

-- the commands of a part so far, and how many commands there were before and after them
pub record PartSoFar (start : ℕ) (commands : List Command) (count : ℕ) (put : PartText → PartText) : Type 0 where
  pub is : (more : PartText) → part_of start (put more) ≡ actions_on (map action_seen commands) (part_of count more)
  pub counted : (more : PartText) → start + count_part (put more) ≡ count + count_part more

pub record PartsSoFar (start : ℕ) (parts : List (Vec Command Global)) (count : ℕ) (put : PartsText → PartsText) : Type 0 where
  pub is : (more : PartsText) → parts_of start (put more) ≡ groups_on (map part_seen parts) (parts_of count more)
  pub counted : (more : PartsText) → start + count_parts (put more) ≡ count + count_parts more

add_one : (n : ℕ) → n + 1 ≡ suc n
add_one n = omega arith

one_more : (w n m k : ℕ) → w ≡ n + suc k → m ≡ n + 1 → w ≡ m + k
one_more w n m k e f = omega arith

some_more : (w n m a k : ℕ) → w ≡ n + (a + k) → m ≡ n + a → w ≡ m + k
some_more w n m a k e f = omega arith

pub part_begins : (start : ℕ) (cs : List Command) → cs ≡ [] → PartSoFar start cs start (λ more. more)
part_begins start cs e = record { is = λ more. ap (λ l. actions_on (map action_seen l) (part_of start more)) (sym e); counted = λ more. refl }

pub parts_begin : (start : ℕ) (ps : List (Vec Command Global)) → ps ≡ [] → PartsSoFar start ps start (λ more. more)
parts_begin start ps e = record { is = λ more. ap (λ l. groups_on (map part_seen l) (parts_of start more)) (sym e); counted = λ more. refl }

-- a simple command more
pub simple_more : {start : ℕ} {cs new : List Command} {n m : ℕ} {put : PartText → PartText} (c : Command) (s : SimpleText) (semicolon : Place)
    → action_seen c ≡ action n (simple_place s) (simple_form s) → new ≡ cs ++ (c ∷ []) → m ≡ n + 1 → PartSoFar start cs n put → PartSoFar start new m (λ more. put (simple_then s semicolon more))
simple_more {start = start} {cs = cs} {new = new} {n = n} {m = m} {put = put} c s semicolon e g f so = record {
  is = λ more. actions_listed cs c (part_of m more) (so.is (simple_then s semicolon more) ∙ ap (λ k. actions_on (map action_seen cs) (action_then (action n (simple_place s) (simple_form s)) (part_of k more))) (sym (f ∙ add_one n))) g e;
  counted = λ more. one_more (start + count_part (put (simple_then s semicolon more))) n m (count_part more) (so.counted (simple_then s semicolon more)) f;
}

pub compound_more : {start : ℕ} {cs new : List Command} {n m : ℕ} {put : PartText → PartText} (c : Command) (t : CompoundText)
    → CommandNumbered (action_seen c) (compound_of n t) n m (count_compound t) → new ≡ cs ++ (c ∷ []) → PartSoFar start cs n put → PartSoFar start new m (λ more. put (compound_then t more))
compound_more {start = start} {cs = cs} {new = new} {n = n} {m = m} {put = put} c t h g so = record {
  is = λ more. actions_listed cs c (part_of m more) (so.is (compound_then t more) ∙ ap (λ k. actions_on (map action_seen cs) (action_then (compound_of n t) (part_of k more))) (sym h.counted)) g h.is;
  counted = λ more. some_more (start + count_part (put (compound_then t more))) n m (count_compound t) (count_part more) (so.counted (compound_then t more)) h.counted;
}

pub semicolon_more : {start : ℕ} {cs : List Command} {n m : ℕ} {put : PartText → PartText} (semicolon : Place) → m ≡ n → PartSoFar start cs n put → PartSoFar start cs m (λ more. put (semicolon_then semicolon more))
semicolon_more {start = start} {cs = cs} {put = put} semicolon e so = rw e (record { is = λ more. so.is (semicolon_then semicolon more); counted = λ more. so.counted (semicolon_then semicolon more) })

pub part_more : {start : ℕ} {ps new : List (Vec Command Global)} {n m : ℕ} {put : PartsText → PartsText} (p : Vec Command Global) (t : PartText) (dashes : Place)
    → SamePart p t n m → new ≡ ps ++ (p ∷ []) → PartsSoFar start ps n put → PartsSoFar start new m (λ more. put (part_then t dashes more))
part_more {start = start} {ps = ps} {new = new} {n = n} {m = m} {put = put} p t dashes h g so = record {
  is = λ more. groups_listed ps p (parts_of m more) (so.is (part_then t dashes more) ∙ ap (λ k. groups_on (map part_seen ps) (group_then (part_of n t) (parts_of k more))) (sym h.counted)) g h.is;
  counted = λ more. some_more (start + count_parts (put (part_then t dashes more))) n m (count_part t) (count_parts more) (so.counted (part_then t dashes more)) h.counted;
}

numbers_end : (a n : ℕ) → a ≡ n + 0 → n ≡ a
numbers_end a n e = omega arith

pub part_ends : {start : ℕ} {cs : List Command} {n : ℕ} {put : PartText → PartText} (new : Vec Command Global) → new.items ≡ cs → PartSoFar start cs n put → SamePart new (put end_of_part) start n
part_ends {cs = cs} new e so =
    record { is = ap (λ l. actions (map action_seen l)) e ∙ (actions_all (map action_seen cs) ∙ sym (so.is end_of_part)); counted = numbers_end _ _ (so.counted end_of_part) }

-- a simple command that no `;` follows
pub part_last : {start : ℕ} {cs : List Command} {n m : ℕ} {put : PartText → PartText} (new : Vec Command Global) (c : Command) (s : SimpleText)
    → action_seen c ≡ action n (simple_place s) (simple_form s) → new.items ≡ cs ++ (c ∷ []) → m ≡ n + 1 → PartSoFar start cs n put → SamePart new (put (last_simple s)) start m
part_last {cs = cs} new c s e g f so =
    record { is = actions_all (map action_seen new.items) ∙ sym (actions_listed cs c no_actions (so.is (last_simple s)) g e); counted = f ∙ sym (so.counted (last_simple s)) }

pub parts_end : {start : ℕ} {ps : List (Vec Command Global)} {n m : ℕ} {put : PartsText → PartsText} (new : Vec (Vec Command Global) Global) (p : Vec Command Global) (t : PartText)
    → SamePart p t n m → new.items ≡ ps ++ (p ∷ []) → PartsSoFar start ps n put → SameParts new (put (last_part t)) start m
parts_end {ps = ps} new p t h g so =
    record { is = groups_all (map part_seen new.items) ∙ sym (groups_listed ps p no_groups (so.is (last_part t)) g h.is); counted = h.counted ∙ sym (so.counted (last_part t)) }

pub part_moved : {seen told : Actions} {old new end n : ℕ} → PartNumbered seen told old new n → end ≡ new → PartNumbered seen told old end n
part_moved h e = record { is = h.is; counted = e ∙ h.counted }

-- the turns of the reader of parts, of which it is known what they read
pub simple_turn : (ts mid new : List Token) (s : SimpleText) (semicolon : Place) → begins_simple ≡ beginning ts → the_simple ts ≡ good s mid → comes mark.Semicolon mid ≡ true → the mark.Semicolon mid ≡ good semicolon new → (k : ℕ)
    → the_part the_block (suc k) ts ≡ outcome_bind (the_part the_block k new) (λ m r. good (simple_then s semicolon m) r)
simple_turn ts mid new s semicolon b e c d k =
    ap (λ x. part_with the_block (the_part the_block k) ts x) (sym b)
    ∙ (ap (λ o. outcome_bind o (λ s r. if comes mark.Semicolon r then outcome_bind (the mark.Semicolon r) (λ semicolon q. outcome_bind (the_part the_block k q) (λ more p. good (simple_then s semicolon more) p)) else good (last_simple s) r)) e
    ∙ (if_true (comes mark.Semicolon mid) _ _ c ∙ ap (λ o. outcome_bind o (λ semicolon q. outcome_bind (the_part the_block k q) (λ more p. good (simple_then s semicolon more) p))) d))

pub simple_last : (ts mid : List Token) (s : SimpleText) → begins_simple ≡ beginning ts → the_simple ts ≡ good s mid → comes mark.Semicolon mid ≡ false → (k : ℕ) → the_part the_block (suc k) ts ≡ good (last_simple s) mid
simple_last ts mid s b e c k =
    ap (λ x. part_with the_block (the_part the_block k) ts x) (sym b)
    ∙ (ap (λ o. outcome_bind o (λ s r. if comes mark.Semicolon r then outcome_bind (the mark.Semicolon r) (λ semicolon q. outcome_bind (the_part the_block k q) (λ more p. good (simple_then s semicolon more) p)) else good (last_simple s) r)) e
    ∙ if_false (comes mark.Semicolon mid) _ _ c)

pub compound_turn : (ts new : List Token) (c : CompoundText) → begins_compound ≡ beginning ts → the_compound the_block ts ≡ good c new → (k : ℕ)
    → the_part the_block (suc k) ts ≡ outcome_bind (the_part the_block k new) (λ m r. good (compound_then c m) r)
compound_turn ts new c b e k =
    ap (λ x. part_with the_block (the_part the_block k) ts x) (sym b) ∙ ap (λ o. outcome_bind o (λ c r. outcome_bind (the_part the_block k r) (λ more p. good (compound_then c more) p))) e

pub semicolon_turn : (ts new : List Token) (semicolon : Place) → begins_semicolon ≡ beginning ts → the mark.Semicolon ts ≡ good semicolon new → (k : ℕ)
    → the_part the_block (suc k) ts ≡ outcome_bind (the_part the_block k new) (λ m r. good (semicolon_then semicolon m) r)
semicolon_turn ts new semicolon b e k =
    ap (λ x. part_with the_block (the_part the_block k) ts x) (sym b) ∙ ap (λ o. outcome_bind o (λ c r. outcome_bind (the_part the_block k r) (λ more p. good (semicolon_then c more) p))) e

pub part_by : (ts : List Token) (b : Beginning) → b ≡ beginning ts → (k : ℕ) → the_part the_block (suc k) ts ≡ part_with the_block (the_part the_block k) ts b
part_by ts b e k = ap (λ x. part_with the_block (the_part the_block k) ts x) (sym e)

pub parts_turn : (ts mid new : List Token) (p : PartText) (dashes : Place) → the_part the_block (steps ts) ts ≡ good p mid → comes mark.Dashes mid ≡ true → the mark.Dashes mid ≡ good dashes new → (k : ℕ)
    → the_parts the_block (suc k) ts ≡ outcome_bind (the_parts the_block k new) (λ m r. good (part_then p dashes m) r)
parts_turn ts mid new p dashes e c d k =
    ap (λ o. outcome_bind o (λ p r. if comes mark.Dashes r then outcome_bind (the mark.Dashes r) (λ dashes q. outcome_bind (the_parts the_block k q) (λ more u. good (part_then p dashes more) u)) else good (last_part p) r)) e
    ∙ (if_true (comes mark.Dashes mid) _ _ c ∙ ap (λ o. outcome_bind o (λ dashes q. outcome_bind (the_parts the_block k q) (λ more u. good (part_then p dashes more) u))) d)

pub parts_last : (ts mid : List Token) (p : PartText) → the_part the_block (steps ts) ts ≡ good p mid → comes mark.Dashes mid ≡ false → (k : ℕ) → the_parts the_block (suc k) ts ≡ good (last_part p) mid
parts_last ts mid p e c k =
    ap (λ o. outcome_bind o (λ p r. if comes mark.Dashes r then outcome_bind (the mark.Dashes r) (λ dashes q. outcome_bind (the_parts the_block k q) (λ more u. good (part_then p dashes more) u)) else good (last_part p) r)) e
    ∙ if_false (comes mark.Dashes mid) _ _ c
