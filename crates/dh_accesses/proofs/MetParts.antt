-- The walk that makes the tree of accesses: parts of commands put together.
use Rattle.std.proofs.Common.{◌≡◌, ℕ, zero, suc, ◌+◌, ◌-◌, ◌^◌, ◌<◌, ◌≤◌, ◌||◌, nat_lt, Bool, true, false, List, [], ◌∷◌, ◌++◌, length, get_or, drop, map, refl, ap, sym, ◌∙◌, subst, arith}
use Rattle.std.proofs.Math.Nat.{add_assoc, zero-add, add-zero, add-sub_cancel_left}
use Rattle.std.specs.Prelude.{Vec}
use Rattle.std.specs.Global.{Global}
use Rattle.std.proofs.lemmas.List.{drop_all}
use Rattle.dh_base.proofs.ListItems.{at_item}
use Rattle.dh_meaning.specs.AccessNumbers.{own_accesses, inner_accesses, accesses_of, other_accesses, part_accesses, groups_accesses}
use Rattle.dh_meets.specs.MayMeet.{row_of_accesses, arms_meet, meets, command_meets, other_meets, groups_meet, part_meets}
use Rattle.dh_plan.specs.declared.plans.Meets.{Meets as Tree}
use Rattle.dh_plan.specs.declared.plans.Meets.TheVariants.{Access, All, One}
use Rattle.dh_plan.specs.SeenPlans.{meets_seen, alls, ones}
use Rattle.dh_plan.proofs.SeenMeets.{access_is, all_is, one_is}
use Rattle.dh_tree.specs.Meets.{Meets, nothing, access, all, one}
use Rattle.dh_tree.specs.PlainTrees.{Action, ActionForm, MaybeAction, Actions, no_actions, action_then, Groups, no_groups, group_then}
use Rattle.dh_tree.specs.Seen.{action_seen, actions, part_seen, groups, all_parts_seen}
use Rattle.dh_tree.specs.declared.trees.commands.Command.{Command}
use Rattle.dh_phases.specs.Counted.{behind}
use Rattle.dh_accesses.specs.Met.{SameMeets, MeetsRow, MeetsAll, MeetsCommand, MeetsOther, MeetsParts}
use Rattle.dh_accesses.specs.declared.meeting.MeetingAccesses.{MeetingAccesses}
use Rattle.dh_phases.proofs.CountedParts.{behind_twice, behind_few, behind_none, behind_small}
use Rattle.dh_accesses.proofs.SameTrees.{same_refl, same_is, same_trans, all_same, one_same, pair_all, pair_one, alls_onto, ones_onto, alls_end, ones_end, alls_more, ones_more}

-- Lists of two.

pub pair_of : {A : Type 0} (empty single double : List A) (a b : A) → empty ≡ [] → single ≡ empty ++ a ∷ [] → double ≡ single ++ b ∷ [] → double ≡ a ∷ b ∷ []
pair_of empty single double a b e f g = g ∙ ap (λ l. l ++ b ∷ []) (f ∙ ap (λ l. l ++ a ∷ []) e)

pub two_all : (v : Vec Tree Global) (a b : Tree) → v.items ≡ a ∷ b ∷ [] → SameMeets (meets_seen (All v)) (all (meets_seen a) (meets_seen b))
two_all v a b is = subst (λ z. SameMeets z (all (meets_seen a) (meets_seen b))) (sym (all_is v ∙ ap alls is)) (pair_all (meets_seen a) (meets_seen b))

pub two_one : (v : Vec Tree Global) (a b : Tree) → v.items ≡ a ∷ b ∷ [] → SameMeets (meets_seen (One v)) (one (meets_seen a) (meets_seen b))
two_one v a b is = subst (λ z. SameMeets z (one (meets_seen a) (meets_seen b))) (sym (one_is v ∙ ap ones is)) (pair_one (meets_seen a) (meets_seen b))

-- Rows.

row_step : (n end : ℕ) → n < end → row_of_accesses n (end - n) ≡ all (access n) (row_of_accesses (n + 1) (end - (n + 1)))
row_step n end h =
    let more : end - n ≡ suc (end - (n + 1)) = omega (arith, h) in
    let next : suc n ≡ n + 1 = omega arith in
    ap (λ k. row_of_accesses n k) more ∙ ap (λ k. all (access n) (row_of_accesses k (end - (n + 1)))) next

pub row_turn : (first end n : ℕ) (ts more : List Tree) → n < end → more ≡ ts ++ Access n ∷ [] → alls_onto ts (row_of_accesses n (end - n)) ≡ row_of_accesses first (end - first)
    → alls_onto more (row_of_accesses (n + 1) (end - (n + 1))) ≡ row_of_accesses first (end - first)
row_turn first end n ts more h is so =
    ap (λ l. alls_onto l (row_of_accesses (n + 1) (end - (n + 1)))) is
    ∙ (alls_more ts (Access n) (row_of_accesses (n + 1) (end - (n + 1)))
    ∙ (ap (λ x. alls_onto ts (all x (row_of_accesses (n + 1) (end - (n + 1))))) (access_is n)
    ∙ (ap (λ r. alls_onto ts r) (sym (row_step n end h)) ∙ so)))

pub row_done : (first end n : ℕ) (v : Vec Tree Global) → end ≤ n → alls_onto v.items (row_of_accesses n (end - n)) ≡ row_of_accesses first (end - first) → meets_seen (All v) ≡ row_of_accesses first (end - first)
row_done first end n v h so =
    let past : 0 ≡ end - n = omega (arith, h) in
    all_is v ∙ (sym (alls_end v.items) ∙ (ap (λ k. alls_onto v.items (row_of_accesses n k)) past ∙ so))

-- a row of the accesses behind a number
pub row_met : (first count next : ℕ) (m : MeetingAccesses) → next ≡ behind first count → MeetsRow first next m → MeetsAll first count (row_of_accesses first count) m
row_met first count next m is r = record {
  next_is = r.next_is ∙ is;
  same = λ few. same_is _ _ (r.seen ∙ ap (λ k. row_of_accesses first k) (ap (λ n. n - first) (is ∙ behind_few first count few) ∙ add-sub_cancel_left first count));
}

-- Tests, arms and loops.

-- of a command of this form
pub form_met : (unrolled : Bool) (first : ℕ) (f g : ActionForm) (m : MeetingAccesses) → f ≡ g → MeetsAll first (own_accesses g + inner_accesses g) (command_meets unrolled first g) m
    → MeetsAll first (own_accesses f + inner_accesses f) (command_meets unrolled first f) m
form_met unrolled first f g m is met = subst (λ h. MeetsAll first (own_accesses h + inner_accesses h) (command_meets unrolled first h) m) (sym is) met

pub met_if : (unrolled : Bool) (first tests own : ℕ) (chosen : Action) (other : MaybeAction) (t c o : MeetingAccesses) (arms whole : Tree)
    → tests ≡ behind first own → MeetsRow first tests t → MeetsCommand unrolled t.next chosen c → MeetsOther unrolled c.next other o
    → SameMeets (meets_seen arms) (arms_meet unrolled (meets_seen c.meets) (meets_seen o.meets)) → SameMeets (meets_seen whole) (all (meets_seen t.meets) (meets_seen arms))
    → MeetsAll first (own + (accesses_of chosen + other_accesses other))
    (all (row_of_accesses first own) (arms_meet unrolled (meets unrolled (first + own) chosen) (other_meets unrolled (first + own + accesses_of chosen) other)))
    record { meets = whole; next = o.next }
met_if unrolled first tests own chosen other t c o arms whole is row done last joined put = record {
  next_is = last.next_is ∙ (ap (λ n. behind n (other_accesses other)) (done.next_is ∙ ap (λ n. behind n (accesses_of chosen)) told)
      ∙ (ap (λ n. behind n (other_accesses other)) (behind_twice first own (accesses_of chosen))
      ∙ (behind_twice first (own + accesses_of chosen) (other_accesses other) ∙ ap (λ n. behind first n) (add_assoc own (accesses_of chosen) (other_accesses other)))));
  same = λ few.
      let tested = told ∙ behind_few first own (omega (arith, few)) in
      let taken = done.next_is ∙ (ap (λ n. behind n (accesses_of chosen)) tested ∙ behind_few (first + own) (accesses_of chosen) (omega (arith, few))) in
      let a = (row_met first own tests t is row).same (omega (arith, few)) in
      let b = subst (λ n. SameMeets (meets_seen c.meets) (meets unrolled n chosen)) tested (done.same (omega (arith, few, tested))) in
      let d = subst (λ n. SameMeets (meets_seen o.meets) (other_meets unrolled n other)) taken (last.same (omega (arith, few, taken))) in
      same_trans _ _ _ put (all_same _ _ _ _ a (same_trans _ _ _ joined (by_arm unrolled b d)));
}
  where
    told : t.next ≡ behind first own
    told = row.next_is ∙ is

    by_arm : {x y : Meets} (u : Bool) → SameMeets (meets_seen c.meets) x → SameMeets (meets_seen o.meets) y
        → SameMeets (arms_meet u (meets_seen c.meets) (meets_seen o.meets)) (arms_meet u x y)
    by_arm true f g = all_same _ _ _ _ f g
    by_arm false f g = one_same _ _ _ _ f g

pub met_while : (unrolled : Bool) (first tests own : ℕ) (body : Action) (t b : MeetingAccesses) (whole : Tree)
    → tests ≡ behind first own → MeetsRow first tests t → MeetsCommand unrolled t.next body b → SameMeets (meets_seen whole) (one (meets_seen t.meets) (meets_seen b.meets))
    → MeetsAll first (own + accesses_of body) (one (row_of_accesses first own) (meets unrolled (first + own) body)) record { meets = whole; next = b.next }
met_while unrolled first tests own body t b whole is row done put = record {
  next_is = done.next_is ∙ (ap (λ n. behind n (accesses_of body)) told ∙ behind_twice first own (accesses_of body));
  same = λ few.
      let tested = told ∙ behind_few first own (omega (arith, few)) in
      let a = (row_met first own tests t is row).same (omega (arith, few)) in
      let d = subst (λ n. SameMeets (meets_seen b.meets) (meets unrolled n body)) tested (done.same (omega (arith, few, tested))) in
      same_trans _ _ _ put (one_same _ _ _ _ a d);
}
  where
    told : t.next ≡ behind first own
    told = row.next_is ∙ is

pub met_for : (unrolled inside : Bool) (first factor : ℕ) (body : Action) (combine : MaybeAction) (b o : MeetingAccesses) (whole : Tree)
    → inside ≡ (unrolled || nat_lt 1 factor) → MeetsCommand inside first body b → MeetsOther inside b.next combine o
    → SameMeets (meets_seen whole) (all (meets_seen b.meets) (meets_seen o.meets))
    → MeetsAll first (0 + (accesses_of body + other_accesses combine))
    (all (meets (unrolled || nat_lt 1 factor) first body) (other_meets (unrolled || nat_lt 1 factor) (first + accesses_of body) combine)) record { meets = whole; next = o.next }
met_for unrolled inside first factor body combine b o whole is done joined put =
    subst (λ n. MeetsAll first n (all (meets (unrolled || nat_lt 1 factor) first body) (other_meets (unrolled || nat_lt 1 factor) (first + accesses_of body) combine)) record { meets = whole; next = o.next })
    (sym (zero-add (accesses_of body + other_accesses combine))) met
  where
    met : MeetsAll first (accesses_of body + other_accesses combine) (all (meets (unrolled || nat_lt 1 factor) first body) (other_meets (unrolled || nat_lt 1 factor) (first + accesses_of body) combine))
        record { meets = whole; next = o.next }
    met = record {
      next_is = joined.next_is ∙ (ap (λ n. behind n (other_accesses combine)) done.next_is ∙ behind_twice first (accesses_of body) (other_accesses combine));
      same = λ few.
          let taken = done.next_is ∙ behind_few first (accesses_of body) (omega (arith, few)) in
          let a = subst (λ u. SameMeets (meets_seen b.meets) (meets u first body)) is (done.same (omega (arith, few))) in
          let d = subst (λ n. SameMeets (meets_seen o.meets) (other_meets inside n combine)) taken (joined.same (omega (arith, few, taken))) in
          same_trans _ _ _ put (all_same _ _ _ _ a (subst (λ u. SameMeets (meets_seen o.meets) (other_meets u (first + accesses_of body) combine)) is d));
    }

-- Parts between `---`.

-- what is made of the parts so far, with any tree for those left, stands for the whole
pub record GroupsMet (unrolled : Bool) (first : ℕ) (whole : Groups) (done : List Tree) (next : ℕ) (rest : Groups) : Type 0 where
  pub fits : next ≤ 2 ^ 32 - 1
  pub counted : behind next (groups_accesses rest) ≡ behind first (groups_accesses whole)
  pub left : first + groups_accesses whole < 2 ^ 32 → next + groups_accesses rest ≡ first + groups_accesses whole
  pub same : first + groups_accesses whole < 2 ^ 32 → (t : Meets) → SameMeets t (groups_meet unrolled next rest) → SameMeets (ones_onto done t) (groups_meet unrolled first whole)

-- so of the commands of a part
pub record PartMet (unrolled : Bool) (first : ℕ) (whole : Groups) (done group : List Tree) (next : ℕ) (part : Actions) (rest : Groups) : Type 0 where
  pub fits : next ≤ 2 ^ 32 - 1
  pub counted : behind next (part_accesses part + groups_accesses rest) ≡ behind first (groups_accesses whole)
  pub left : first + groups_accesses whole < 2 ^ 32 → next + (part_accesses part + groups_accesses rest) ≡ first + groups_accesses whole
  pub same : first + groups_accesses whole < 2 ^ 32 → (s t : Meets) → SameMeets s (part_meets unrolled next part)
      → SameMeets t (groups_meet unrolled (next + part_accesses part) rest) → SameMeets (ones_onto done (one (alls_onto group s) t)) (groups_meet unrolled first whole)

pub groups_begin : (unrolled : Bool) (first : ℕ) (whole : Groups) → first ≤ 2 ^ 32 - 1 → GroupsMet unrolled first whole [] first whole
groups_begin unrolled first whole small = record { fits = small; counted = refl; left = λ few. refl; same = λ few t h. h }

pub part_begins : (unrolled : Bool) (first : ℕ) (whole : Groups) (done : List Tree) (next : ℕ) (part : Actions) (rest all_left : Groups) → all_left ≡ group_then part rest
    → GroupsMet unrolled first whole done next all_left → PartMet unrolled first whole done [] next part rest
part_begins unrolled first whole done next part rest all_left is g = record {
  fits = g.fits;
  counted = ap (λ r. behind next (groups_accesses r)) (sym is) ∙ g.counted;
  left = λ few. ap (λ r. next + groups_accesses r) (sym is) ∙ g.left few;
  same = λ few s t a b. g.same few (one s t) (subst (λ r. SameMeets (one s t) (groups_meet unrolled next r)) (sym is) (one_same _ _ _ _ a b));
}

pub part_goes_on : (unrolled : Bool) (first : ℕ) (whole : Groups) (done group more : List Tree) (now : ℕ) (a : Action) (left : Actions) (rest : Groups) (m : MeetingAccesses)
    → MeetsCommand unrolled now a m → more ≡ group ++ m.meets ∷ [] → PartMet unrolled first whole done group now (action_then a left) rest
    → PartMet unrolled first whole done more m.next left rest
part_goes_on unrolled first whole done group more now a left rest m own is p = record {
  fits = subst (λ n. n ≤ 2 ^ 32 - 1) (sym own.next_is) (behind_small now (accesses_of a));
  counted = ap (λ n. behind n (part_accesses left + groups_accesses rest)) own.next_is
      ∙ (behind_twice now (accesses_of a) (part_accesses left + groups_accesses rest) ∙ (ap (λ n. behind now n) (sym (add_assoc (accesses_of a) (part_accesses left) (groups_accesses rest))) ∙ p.counted));
  left = λ few. let e = next_few few in let q = p.left few in omega (arith, e, q);
  same = λ few s t h k.
      let e = next_few few in
      let q = p.left few in
      let own_same = own.same (omega (arith, q, few)) in
      let here = all_same _ _ _ _ own_same (subst (λ n. SameMeets s (part_meets unrolled n left)) e h) in
      let there = subst (λ n. SameMeets t (groups_meet unrolled n rest)) (ap (λ n. n + part_accesses left) e ∙ add_assoc now (accesses_of a) (part_accesses left)) k in
      subst (λ z. SameMeets (ones_onto done (one z t)) (groups_meet unrolled first whole)) (sym (ap (λ l. alls_onto l s) is ∙ alls_more group m.meets s))
      (p.same few (all (meets_seen m.meets) s) t here there);
}
  where
    next_few : first + groups_accesses whole < 2 ^ 32 → m.next ≡ now + accesses_of a
    next_few few = let q = p.left few in own.next_is ∙ behind_few now (accesses_of a) (omega (arith, q, few))

pub part_ends : (unrolled : Bool) (first : ℕ) (whole : Groups) (done more : List Tree) (group : Vec Tree Global) (next : ℕ) (rest : Groups) → more ≡ done ++ All group ∷ []
    → PartMet unrolled first whole done group.items next no_actions rest → GroupsMet unrolled first whole more next rest
part_ends unrolled first whole done more group next rest is p = record {
  fits = p.fits;
  counted = ap (λ n. behind next n) (sym (zero-add (groups_accesses rest))) ∙ p.counted;
  left = λ few. ap (λ n. next + n) (sym (zero-add (groups_accesses rest))) ∙ p.left few;
  same = λ few t h.
      let told = all_is group ∙ sym (alls_end group.items) in
      subst (λ z. SameMeets z (groups_meet unrolled first whole))
      (sym (ap (λ l. ones_onto l t) is ∙ (ones_more done (All group) t ∙ ap (λ x. ones_onto done (one x t)) told)))
      (p.same few nothing t (same_refl nothing) (subst (λ n. SameMeets t (groups_meet unrolled n rest)) (sym (add-zero next)) h));
}

pub groups_end : (unrolled : Bool) (first : ℕ) (whole : Groups) (v : Vec Tree Global) (next : ℕ) → GroupsMet unrolled first whole v.items next no_groups
    → MeetsAll first (groups_accesses whole) (groups_meet unrolled first whole) record { meets = One v; next = next }
groups_end unrolled first whole v next g = record {
  next_is = sym (behind_none next g.fits) ∙ g.counted;
  same = λ few. subst (λ z. SameMeets z (groups_meet unrolled first whole)) (sym (one_is v ∙ sym (ones_end v.items))) (g.same few nothing (same_refl nothing));
}

-- The same over the lists of the code.

pub part_init : (unrolled : Bool) (first : ℕ) (parts : List (Vec Command Global)) (i : ℕ) (part : Vec Command Global) (cs : List Command) (done group : List Tree) (next : ℕ)
    → i < length parts → part ≡ get_or parts i part → cs ≡ part.items → group ≡ []
    → GroupsMet unrolled first (all_parts_seen parts) done next (all_parts_seen (drop i parts))
    → PartMet unrolled first (all_parts_seen parts) done group next (actions (map action_seen cs)) (all_parts_seen (drop (i + 1) parts))
part_init unrolled first parts i part cs done group next within is own none g =
    let rest = all_parts_seen (drop (i + 1) parts) in
    subst (λ l. PartMet unrolled first (all_parts_seen parts) done l next (actions (map action_seen cs)) rest) (sym none)
    (subst (λ l. PartMet unrolled first (all_parts_seen parts) done [] next (actions (map action_seen l)) rest) (sym own)
    (part_begins unrolled first (all_parts_seen parts) done next (part_seen part) rest (all_parts_seen (drop i parts)) (ap all_parts_seen (at_item parts i part within is)) g))

pub part_next : (unrolled : Bool) (first : ℕ) (whole : Groups) (done group more : List Tree) (now : ℕ) (cs : List Command) (k : ℕ) (c : Command) (rest : Groups) (m : MeetingAccesses)
    → k < length cs → c ≡ get_or cs k c → MeetsCommand unrolled now (action_seen c) m → more ≡ group ++ m.meets ∷ []
    → PartMet unrolled first whole done group now (actions (map action_seen (drop k cs))) rest
    → PartMet unrolled first whole done more m.next (actions (map action_seen (drop (k + 1) cs))) rest
part_next unrolled first whole done group more now cs k c rest m within is own put p =
    part_goes_on unrolled first whole done group more now (action_seen c) (actions (map action_seen (drop (k + 1) cs))) rest m own put
    (subst (λ l. PartMet unrolled first whole done group now (actions (map action_seen l)) rest) (at_item cs k c within is) p)

pub part_over : (unrolled : Bool) (first : ℕ) (whole : Groups) (done more : List Tree) (group : Vec Tree Global) (next : ℕ) (cs : List Command) (k : ℕ) (rest : Groups)
    → length cs ≤ k → more ≡ done ++ All group ∷ [] → PartMet unrolled first whole done group.items next (actions (map action_seen (drop k cs))) rest
    → GroupsMet unrolled first whole more next rest
part_over unrolled first whole done more group next cs k rest past put p =
    part_ends unrolled first whole done more group next rest put
    (subst (λ l. PartMet unrolled first whole done group.items next (actions (map action_seen l)) rest) (drop_all k cs past) p)

pub parts_over : (unrolled : Bool) (first : ℕ) (parts : List (Vec Command Global)) (i : ℕ) (v : Vec Tree Global) (next : ℕ) → length parts ≤ i
    → GroupsMet unrolled first (all_parts_seen parts) v.items next (all_parts_seen (drop i parts))
    → MeetsAll first (groups_accesses (all_parts_seen parts)) (groups_meet unrolled first (all_parts_seen parts)) record { meets = One v; next = next }
parts_over unrolled first parts i v next past g =
    groups_end unrolled first (all_parts_seen parts) v next (subst (λ l. GroupsMet unrolled first (all_parts_seen parts) v.items next (all_parts_seen l)) (drop_all i parts past) g)
