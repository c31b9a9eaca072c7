-- What is seen of the commands with blocks that the parser makes, and how many commands they are.
use Rattle.std.proofs.Common.{◌≡◌, ℕ, suc, ◌+◌, List, [], ◌∷◌, ◌++◌, map, Option, ap, sym, subst, ◌∙◌, arith}
use Rattle.std.specs.Prelude.{Vec, Box}
use Rattle.std.specs.Global.{Global}
use Rattle.dh_base.specs.declared.places.Place.{Place}
use Rattle.dh_tree.specs.declared.trees.commands.Command.{Command}
use Rattle.dh_tree.specs.declared.trees.commands.CommandForm.TheVariants.{Block}
use Rattle.dh_tree.specs.PlainTrees.{Placed, Unrolled, Action, action, action_then, no_actions, group_then, no_groups, MaybeAction, blocks, decides, repeats, counts}
use Rattle.dh_tree.specs.Seen.{action_form_seen, action_seen, actions, part_seen, groups, maybe_seen, placed, unrolled}
use Rattle.dh_tree.proofs.SeenActions.{block_is}
use Rattle.dh_parser.specs.declared.parsing.commands.Arms.{Arms}
use Rattle.dh_parser.specs.declared.parsing.commands.Asked.{Asked}
use Rattle.dh_parser.specs.declared.parsing.loops.LoopHead.{LoopHead}
use Rattle.dh_parser.specs.declared.parsing.reading.Numeral.{Numeral}
use Rattle.dh_parser.specs.Grammar.{HeadText, BlockText, block, PartsText, while_loop, for_loop, if_else, ElseText, CombineText}
use Rattle.dh_parser.specs.TreesOfTexts.{ref_of, placed_of, term_of, declared_kind_of_text, factor_of, block_of_text, parts_of, compound_of, if_of, else_of, combine_of, combine_place_of, body_of, parts_place, count_block, count_parts, count_else, count_combine}
use Rattle.dh_parser.specs.Answers.{CommandNumbered, SameArms, SameAsked, SameParts, SameBlock, SameBoxedBlock, SameElse, SameCombine, SameHead, SameNumber, SameUnrolled, arms_with, block_seen, boxed_seen, if_seen, while_seen}
use Rattle.dh_parser.specs.Reading.{TestText}

add_one : (n : ℕ) → n + 1 ≡ suc n
add_one n = omega arith

after_one : (old count new k : ℕ) → count ≡ old + 1 → new ≡ count + k → new ≡ old + suc k
after_one old count new k e f = omega arith

after_two : (old count mid new j k : ℕ) → count ≡ old + 1 → mid ≡ count + j → new ≡ mid + k → new ≡ old + suc (j + k)
after_two old count mid new j k e f g = omega arith

middle : (old count mid j : ℕ) → count ≡ old + 1 → mid ≡ count + j → mid ≡ suc (old + j)
middle old count mid j e f = omega arith

pub block_made : {t : Action} (id old count new : ℕ) (place opener closer : Place) (body : Vec (Vec Command Global) Global) (p : PartsText)
    → t ≡ block_seen id place body → id ≡ old → count ≡ old + 1 → place ≡ opener → SameParts body p count new → CommandNumbered t (block_of_text old (block opener p closer)) old new (suc (count_parts p))
block_made id old count new place opener closer body p h e f g s = record {
  is = h ∙ (ap (λ x. action id place (blocks x)) s.is ∙ (ap (λ x. action id place (blocks (parts_of x p))) (f ∙ add_one old)
      ∙ (ap (λ x. action x place (blocks (parts_of (suc old) p))) e ∙ ap (λ x. action old x (blocks (parts_of (suc old) p))) g)));
  counted = after_one old count new (count_parts p) f s.counted;
}

-- a block of one part with one command
pub one_made : (id : ℕ) (place : Place) (inner : Command) (part : Vec Command Global) (body : Vec (Vec Command Global) Global) (none : List Command) (nothing : List (Vec Command Global))
    → part.items ≡ none ++ inner ∷ [] → none ≡ [] → body.items ≡ nothing ++ part ∷ [] → nothing ≡ []
    → action id place (action_form_seen (Block body)) ≡ action id place (blocks (group_then (action_then (action_seen inner) no_actions) no_groups))
one_made id place inner part body none nothing one first two second =
    ap (λ f. action id place f)
    (block_is body ∙ (ap (λ l. blocks (groups (map part_seen l))) (two ∙ ap (λ l. l ++ part ∷ []) second) ∙ ap (λ l. blocks (group_then (actions (map action_seen l)) no_groups)) (one ∙ ap (λ l. l ++ inner ∷ []) first)))

pub body_made : {t : Action} (id old count new : ℕ) (place : Place) (body : Vec (Vec Command Global) Global) (p : PartsText) (end : Place)
    → t ≡ action id place (action_form_seen (Block body)) → id ≡ old → count ≡ old + 1 → place ≡ parts_place end p → SameParts body p count new → t ≡ body_of old p end
body_made id old count new place body p end h e f g s =
    h ∙ (ap (λ x. action id place x) (block_is body) ∙ (ap (λ x. action id place (blocks x)) s.is ∙ (ap (λ x. action id place (blocks (parts_of x p))) (f ∙ add_one old)
    ∙ (ap (λ x. action x place (blocks (parts_of (suc old) p))) e ∙ ap (λ x. action old x (blocks (parts_of (suc old) p))) g))))

pub if_made : {t : Action} {old count new : ℕ} (q : Asked) (a : Place × TestText) (v : Arms) (p : BlockText × ElseText)
    → t ≡ if_seen q v → SameAsked q a old count → SameArms v p count new → CommandNumbered t (if_of old (if_else a.0 a.1.opener a.1.test a.1.closer p.0 p.1)) old new (suc (count_block p.0 + count_else p.1))
if_made {old = old} {count = count} {new = new} q a v p h s x = record {
  is = h ∙ (ap (λ z. action q.id q.place (decides z (action_seen v.chosen.value) (maybe_seen (boxed_seen v.other)))) s.test
      ∙ (ap (λ z. action q.id q.place (decides (term_of a.1.test) z (maybe_seen (boxed_seen v.other)))) (x.first.is ∙ ap (λ n. block_of_text n p.0) (s.counted ∙ add_one old))
      ∙ (ap (λ z. action q.id q.place (decides (term_of a.1.test) (block_of_text (suc old) p.0) z)) (x.second.is ∙ ap (λ n. else_of n p.1) (middle old count x.between (count_block p.0) s.counted x.first.counted))
      ∙ (ap (λ z. action z q.place (decides (term_of a.1.test) (block_of_text (suc old) p.0) (else_of (suc (old + count_block p.0)) p.1))) s.number
      ∙ ap (λ z. action old z (decides (term_of a.1.test) (block_of_text (suc old) p.0) (else_of (suc (old + count_block p.0)) p.1))) s.place))));
  counted = after_two old count x.between new (count_block p.0) (count_else p.1) s.counted x.first.counted x.second.counted;
}

pub arms_made : {old mid new : ℕ} {arms : Arms} (chosen : Box Command Global) (other : Option (Box Command Global)) (b : BlockText) (e : ElseText)
    → arms ≡ arms_with chosen other → SameBoxedBlock chosen b old mid → SameElse other e mid new → SameArms arms (b, e) old new
arms_made {old = old} {mid = mid} {new = new} chosen other b e h x y =
    subst (λ (a : Arms). SameArms a (b, e) old new) (sym h) (record { between = mid; first = x; second = y })

pub while_made : {t : Action} {old count new : ℕ} (q : Asked) (a : Place × TestText) (v : Box Command Global) (b : BlockText)
    → t ≡ while_seen q v → SameAsked q a old count → SameBoxedBlock v b count new → CommandNumbered t (compound_of old (while_loop a.0 a.1.opener a.1.test a.1.closer b)) old new (suc (count_block b))
while_made {old = old} {count = count} {new = new} q a v b h s x = record {
  is = h ∙ (ap (λ z. action q.id q.place (repeats z (action_seen v.value))) s.test
      ∙ (ap (λ z. action q.id q.place (repeats (term_of a.1.test) z)) (x.is ∙ ap (λ n. block_of_text n b) (s.counted ∙ add_one old))
      ∙ (ap (λ z. action z q.place (repeats (term_of a.1.test) (block_of_text (suc old) b))) s.number ∙ ap (λ z. action old z (repeats (term_of a.1.test) (block_of_text (suc old) b))) s.place)));
  counted = after_one old count new (count_block b) s.counted x.counted;
}

placed_is : (n : Numeral) (p : Placed) → SameNumber n p → placed n.value n.place ≡ p
placed_is n p h = ap (λ v. placed v n.place) h.0 ∙ ap (λ q. placed p.value q) h.1

unrolled_is : (n : Numeral) (word : Place) (u : Unrolled) → SameUnrolled n word u → unrolled n.value n.place word ≡ u
unrolled_is n word u h = ap (λ v. unrolled v n.place word) h.0.0 ∙ (ap (λ q. unrolled u.value q word) h.0.1 ∙ ap (λ w. unrolled u.value u.place w) h.1)

headed : (old : ℕ) (c : CombineText) (head : LoopHead) (h : HeadText) (x : Action) (y : MaybeAction) → SameHead head h
    → action old head.place (counts head.iterator head.declared (placed head.low.value head.low.place) (placed head.high.value head.high.place) (unrolled head.factor.value head.factor.place head.unroll) x y (combine_place_of h.word c))
    ≡ action old h.word (counts (ref_of h.iterator) (declared_kind_of_text h.declared) (placed_of h.low) (placed_of h.high) (factor_of h.word h.unroll) x y (combine_place_of h.word c))
headed old c head h x y s =
    ap (λ z. action old z (counts head.iterator head.declared (placed head.low.value head.low.place) (placed head.high.value head.high.place) (unrolled head.factor.value head.factor.place head.unroll) x y (combine_place_of h.word c))) s.place
    ∙ (ap (λ z. action old h.word (counts z head.declared (placed head.low.value head.low.place) (placed head.high.value head.high.place) (unrolled head.factor.value head.factor.place head.unroll) x y (combine_place_of h.word c))) s.iterator
    ∙ (ap (λ z. action old h.word (counts (ref_of h.iterator) z (placed head.low.value head.low.place) (placed head.high.value head.high.place) (unrolled head.factor.value head.factor.place head.unroll) x y (combine_place_of h.word c))) s.declared
    ∙ (ap (λ z. action old h.word (counts (ref_of h.iterator) (declared_kind_of_text h.declared) z (placed head.high.value head.high.place) (unrolled head.factor.value head.factor.place head.unroll) x y (combine_place_of h.word c))) (placed_is head.low (placed_of h.low) s.low)
    ∙ (ap (λ z. action old h.word (counts (ref_of h.iterator) (declared_kind_of_text h.declared) (placed_of h.low) z (unrolled head.factor.value head.factor.place head.unroll) x y (combine_place_of h.word c))) (placed_is head.high (placed_of h.high) s.high)
    ∙ ap (λ z. action old h.word (counts (ref_of h.iterator) (declared_kind_of_text h.declared) (placed_of h.low) (placed_of h.high) z x y (combine_place_of h.word c))) (unrolled_is head.factor head.unroll (factor_of h.word h.unroll) s.factor)))))

pub for_made : {t : Action} (id old count mid new : ℕ) (head : LoopHead) (h : HeadText) (body v : Command) (seen : Option Action) (place : Place) (b : BlockText) (c : CombineText)
    → t ≡ action id head.place (counts head.iterator head.declared (placed head.low.value head.low.place) (placed head.high.value head.high.place) (unrolled head.factor.value head.factor.place head.unroll) (action_seen body) (maybe_seen seen) place)
    → id ≡ old → count ≡ old + 1 → SameHead head h → body ≡ v → SameBlock v b count mid → SameCombine seen c mid new → place ≡ combine_place_of head.place c
    → CommandNumbered t (compound_of old (for_loop h b c)) old new (suc (count_block b + count_combine c))
for_made id old count mid new head h body v seen place b c e i f s w x y p = record {
  is = e ∙ (ap (λ z. action z head.place (counts head.iterator head.declared (placed head.low.value head.low.place) (placed head.high.value head.high.place) (unrolled head.factor.value head.factor.place head.unroll) (action_seen body) (maybe_seen seen) place)) i
      ∙ (ap (λ z. action old head.place (counts head.iterator head.declared (placed head.low.value head.low.place) (placed head.high.value head.high.place) (unrolled head.factor.value head.factor.place head.unroll) z (maybe_seen seen) place)) (ap action_seen w ∙ (x.is ∙ ap (λ n. block_of_text n b) (f ∙ add_one old)))
      ∙ (ap (λ z. action old head.place (counts head.iterator head.declared (placed head.low.value head.low.place) (placed head.high.value head.high.place) (unrolled head.factor.value head.factor.place head.unroll) (block_of_text (suc old) b) z place)) (y.is ∙ ap (λ n. combine_of n c) (middle old count mid (count_block b) f x.counted))
      ∙ (ap (λ z. action old head.place (counts head.iterator head.declared (placed head.low.value head.low.place) (placed head.high.value head.high.place) (unrolled head.factor.value head.factor.place head.unroll) (block_of_text (suc old) b) (combine_of (suc (old + count_block b)) c) z)) (p ∙ ap (λ q. combine_place_of q c) s.place)
      ∙ headed old c head h (block_of_text (suc old) b) (combine_of (suc (old + count_block b)) c) s))));
  counted = after_two old count mid new (count_block b) (count_combine c) f x.counted y.counted;
}

-- the same of the numbers of a command that goes on
pub moved : {t u : Action} {old new end n : ℕ} → CommandNumbered t u old new n → end ≡ new → CommandNumbered t u old end n
moved h e = record { is = h.is; counted = e ∙ h.counted }
