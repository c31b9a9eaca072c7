-- What is seen of a phase, variant by variant, where its parts stand in lists of the code; and of phases that are
-- put behind others.
use Rattle.std.proofs.Common.{◌≡◌, ◌≢◌, ℕ, ◌==◌, Bool, true, false, if◌then◌else◌, List, [], ◌∷◌, ◌++◌, length, map, Some, refl, ap, ◌∙◌, arith}
use Rattle.std.proofs.lemmas.Bool.Decides.{nat_tests}
use Rattle.std.proofs.lemmas.List.{map-append}
use Rattle.std.specs.Prelude.{Vec}
use Rattle.std.specs.Global.{Global}
use denote.Ref.{Bor}
use Rattle.dh_tree.specs.declared.trees.commands.LoopHeader.{LoopHeader}
use Rattle.dh_tree.specs.declared.trees.expressions.Expr.{Expr}
use Rattle.dh_tree.specs.Seen.{term_seen}
use Rattle.dh_phases.specs.declared.gathering.NumberedCommand.{NumberedCommand}
use Rattle.dh_phases.specs.declared.gathering.Phase.{Phase}
use Rattle.dh_phases.specs.declared.gathering.Phase.TheVariants.{Straight, Turns, Loop, Choice}
use Rattle.dh_phases.specs.declared.gathering.Phase.TheBlock.{Row_of-Phase, end_of-Phase, more_of-Phase, items-the_row-Phase, hidden-the_row-Phase-0, items_hidden-the_row-Phase-0}
use Rattle.dh_phases.specs.GatheredPhases.{Gathered, Numbered, straight_phase, turns_phase, loop_phase, choice_phase, gathered_then, all_gathered, header_seen, numbered_seen, phase_seen, phase_row_seen, phases_seen}
use Rattle.dh_phases.specs.Gathering.{one_phase, gathered_turn_phases}
use mathlib.Core.Former.{Count}

row_is : (n : Count) (k : Row_of-Phase n) → phase_row_seen k ≡ all_gathered (phases_seen (items-the_row-Phase n k))
unfolding phase_seen
row_is _ end_of-Phase = refl
row_is _ (more_of-Phase {n = n} p rest) = ap (λ s. gathered_then (phase_seen p) s) (row_is n rest)

vec_is : (v : Vec Phase Global) → phase_row_seen (hidden-the_row-Phase-0 v) ≡ all_gathered (phases_seen v.items)
vec_is v = row_is _ (hidden-the_row-Phase-0 v) ∙ ap (λ l. all_gathered (phases_seen l)) (items_hidden-the_row-Phase-0 v)

pub straight_is : (commands : Vec NumberedCommand Global) → phase_seen (Straight commands) ≡ straight_phase (map numbered_seen commands.items)
unfolding phase_seen
straight_is commands = refl

pub turns_is : (command : NumberedCommand) (header : Bor LoopHeader) (count : ℕ) (body : Vec Phase Global)
    → phase_seen (Turns command header count body) ≡ turns_phase (numbered_seen command) (Some (header_seen header.now)) count (all_gathered (phases_seen body.items))
unfolding phase_seen
turns_is command header count body = ap (λ s. turns_phase (numbered_seen command) (Some (header_seen header.now)) count s) (vec_is body)

pub loop_is : (command : NumberedCommand) (test : Bor Expr) (body : Vec Phase Global) → phase_seen (Loop command test body) ≡ loop_phase (numbered_seen command) (Some (term_seen test.now)) (all_gathered (phases_seen body.items))
unfolding phase_seen
loop_is command test body = ap (λ s. loop_phase (numbered_seen command) (Some (term_seen test.now)) s) (vec_is body)

pub choice_is : (command : NumberedCommand) (test : Bor Expr) (chosen other : Vec Phase Global)
    → phase_seen (Choice command test chosen other) ≡ choice_phase (numbered_seen command) (Some (term_seen test.now)) (all_gathered (phases_seen chosen.items)) (all_gathered (phases_seen other.items))
unfolding phase_seen
choice_is command test chosen other =
    ap (λ s. choice_phase (numbered_seen command) (Some (term_seen test.now)) s (phase_row_seen (hidden-the_row-Phase-0 other))) (vec_is chosen)
    ∙ ap (λ s. choice_phase (numbered_seen command) (Some (term_seen test.now)) (all_gathered (phases_seen chosen.items)) s) (vec_is other)

-- straight commands are done behind phases
pub straight_more : (old new : List Phase) (commands : Vec NumberedCommand Global) (current : List NumberedCommand) (len : ℕ) (empty : Bool) → new ≡ old ++ Straight commands ∷ [] → commands.items ≡ current → len ≡ length current → empty ≡ (len == 0) → empty ≡ false
    → phases_seen new ≡ phases_seen old ++ one_phase (map numbered_seen current)
straight_more old new commands [] len empty e is l b t = absurd (grind (arith, nat_tests, l, b, t))
straight_more old new commands (c ∷ cs) len empty e is l b t =
    ap phases_seen e ∙ (map-append phase_seen old (Straight commands ∷ []) ∙ ap (λ p. phases_seen old ++ p ∷ []) (straight_is commands ∙ ap (λ l. straight_phase (map numbered_seen l)) is))

-- the phase of a `for` that has a turn and whose body has a phase
module _ (loop : Numbered) (header : LoopHeader) (count : ℕ) where
  abbrev turned : List Phase → Gathered
  turned body = turns_phase loop (Some (header_seen header)) count (all_gathered (phases_seen body))

  counted : (body : List Phase) (len : ℕ) (empty : Bool) → len ≡ length body → empty ≡ (len == 0) → empty ≡ false → count ≢ 0 → turned body ∷ [] ≡ gathered_turn_phases loop (Some (header_seen header)) count (phases_seen body)
  counted [] len empty l b t some = absurd (grind (arith, nat_tests, l, b, t))
  counted (p ∷ ps) len empty l b t some = by (count == 0) refl
    where
      by : (t : Bool) → (count == 0) ≡ t → turned (p ∷ ps) ∷ [] ≡ (if t then [] else turned (p ∷ ps) ∷ [])
      by true f =
          let none : count ≡ 0 = grind (arith, nat_tests, f) in
          absurd (some none)
      by false f = refl

pub turns_more : (phases : List Phase) (command : NumberedCommand) (header : Bor LoopHeader) (count : ℕ) (body : Vec Phase Global) (len : ℕ) (empty : Bool) → phases ≡ Turns command header count body ∷ [] → len ≡ length body.items → empty ≡ (len == 0) → empty ≡ false → count ≢ 0
    → phases_seen phases ≡ gathered_turn_phases (numbered_seen command) (Some (header_seen header.now)) count (phases_seen body.items)
turns_more phases command header count body len empty e l b t some =
    ap phases_seen e ∙ (ap (λ p. p ∷ []) (turns_is command header count body) ∙ counted (numbered_seen command) header.now count body.items len empty l b t some)

pub ruleset phases_are = (straight_is, turns_is, loop_is, choice_is)
