-- Lines of phases: what is open behind them, and how the phases of parts make those of a list.
--
-- Put behind a line one after the other, the phases of the parts of a list make the line's own and the list's
-- (`joined`): by cases on a part, with the open phase as what is still to be joined.
use Rattle.std.proofs.Common.{◌≡◌, ℕ, ◌+◌, ◌==◌, ◌&&◌, Bool, true, false, if◌then◌else◌, List, [], ◌∷◌, ◌++◌, map, append_assoc, append-nil, refl, ap, sym, ◌∙◌, subst}
use Rattle.std.specs.Prelude.{Option}
use Rattle.std.proofs.lemmas.List.{map-append}
use Rattle.dh_meaning.specs.Core.{CorePhases, no_core_phases, phase_and}
use Rattle.dh_meaning.specs.CoreOf.{Known, core_phase, core_phases}
use Rattle.dh_meaning.specs.Effects.{Block}
use Rattle.dh_meaning.specs.Levels.{block_length}
use Rattle.dh_meaning.specs.Phases.{Located, Phase, straight, turns, repeated, decided, Phases, no_phases, phase, of_list, one_straight, joined, folded, are_straight}
use Rattle.dh_ports.proofs.PhaseShapes.{FullStraight, IsFull}
use Rattle.dh_lengths.specs.PhaseBlocks.{phase_blocks, blocks_in}
use Rattle.dh_lengths.specs.PhaseWalks.{lengths_in, front, last_open, joins, put_phases, last_phase_goes_on}

absurd : {A : Type 0} → ⊥ → A
absurd e = elim e [ ]

-- Lengths of lists.

blocks_both : (known : Known) (ps qs : List Phase) → blocks_in (core_phases known (of_list (ps ++ qs))) ≡ blocks_in (core_phases known (of_list ps)) ++ blocks_in (core_phases known (of_list qs))
blocks_both known [] qs = refl
blocks_both known (p ∷ ps) qs =
    ap (λ l. phase_blocks (core_phase known p) ++ l) (blocks_both known ps qs) ∙ sym (append_assoc (phase_blocks (core_phase known p)) (blocks_in (core_phases known (of_list ps))) (blocks_in (core_phases known (of_list qs))))

pub lengths_both : (shared : ℕ → Option ℕ) (known : Known) (ps qs : List Phase) → lengths_in shared known (ps ++ qs) ≡ lengths_in shared known ps ++ lengths_in shared known qs
lengths_both shared known ps qs = ap (map (block_length shared)) (blocks_both known ps qs) ∙ map-append (block_length shared) (blocks_in (core_phases known (of_list ps))) (blocks_in (core_phases known (of_list qs)))

-- a phase that is not straight
abbrev pub IsOther : Phase → Type 0
IsOther (straight cs) = ⊥
IsOther (turns loop count body) = Unit {0}
IsOther (repeated loop body) = Unit {0}
IsOther (decided choice chosen other) = Unit {0}

-- What is open.

pub front_straight : (line : List Phase) (cs : List Located) → front (line ++ straight cs ∷ []) ≡ line
front_straight [] cs = refl
front_straight (p ∷ []) cs = refl
front_straight (p ∷ q ∷ line) cs = ap (λ l. p ∷ l) (front_straight (q ∷ line) cs)

pub last_straight : (line : List Phase) (cs : List Located) → last_open (line ++ straight cs ∷ []) ≡ cs
last_straight [] cs = refl
last_straight (p ∷ []) cs = refl
last_straight (p ∷ q ∷ line) cs = last_straight (q ∷ line) cs

pub front_other : (line : List Phase) (p : Phase) → IsOther p → front (line ++ p ∷ []) ≡ line ++ p ∷ []
front_other [] (straight cs) h = absurd h
front_other [] (turns loop count body) h = refl
front_other [] (repeated loop body) h = refl
front_other [] (decided choice chosen other) h = refl
front_other (x ∷ []) p h = ap (λ l. x ∷ l) (front_other [] p h)
front_other (x ∷ y ∷ line) p h = ap (λ l. x ∷ l) (front_other (y ∷ line) p h)

pub last_other : (line : List Phase) (p : Phase) → IsOther p → last_open (line ++ p ∷ []) ≡ []
last_other [] (straight cs) h = absurd h
last_other [] (turns loop count body) h = refl
last_other [] (repeated loop body) h = refl
last_other [] (decided choice chosen other) h = refl
last_other (x ∷ []) p h = last_other [] p h
last_other (x ∷ y ∷ line) p h = last_other (y ∷ line) p h

-- Phases put behind a line.

pub put_other : (going : Bool) (line : List Phase) (p : Phase) → IsOther p → line ++ p ∷ [] ≡ put_phases going line (p ∷ [])
put_other going line (straight cs) h = absurd h
put_other going line (turns loop count body) h = refl
put_other going line (repeated loop body) h = refl
put_other going line (decided choice chosen other) h = refl

pub goes_other : (going : Bool) (p : Phase) → IsOther p → last_phase_goes_on going (p ∷ []) ≡ false
goes_other going (straight cs) h = absurd h
goes_other going (turns loop count body) h = refl
goes_other going (repeated loop body) h = refl
goes_other going (decided choice chosen other) h = refl

-- more than one straight phase
pub put_more : (going : Bool) (line ps : List Phase) → are_straight ps ≡ false → line ++ ps ≡ put_phases going line ps
put_more going line [] h = cc
put_more going line (straight cs ∷ []) h = cc
put_more going line (turns loop count body ∷ []) h = refl
put_more going line (repeated loop body ∷ []) h = refl
put_more going line (decided choice chosen other ∷ []) h = refl
put_more going line (p ∷ q ∷ ps) h = refl

pub goes_more : (going : Bool) (ps : List Phase) → are_straight ps ≡ false → false ≡ last_phase_goes_on going ps
goes_more going [] h = cc
goes_more going (straight cs ∷ []) h = cc
goes_more going (turns loop count body ∷ []) h = refl
goes_more going (repeated loop body ∷ []) h = refl
goes_more going (decided choice chosen other ∷ []) h = refl
goes_more going (p ∷ q ∷ ps) h = refl

-- behind nothing, where no phase goes on
pub put_first : (ps : List Phase) → put_phases false [] ps ≡ ps
put_first [] = refl
put_first (straight cs ∷ []) = refl
put_first (turns loop count body ∷ []) = refl
put_first (repeated loop body ∷ []) = refl
put_first (decided choice chosen other ∷ []) = refl
put_first (p ∷ q ∷ ps) = refl

one_of : (cs ds : List Located) → FullStraight ds → one_straight (cs ++ ds) ≡ straight (cs ++ ds) ∷ []
one_of [] [] h = absurd h
one_of [] (d ∷ ds) h = refl
one_of (c ∷ cs) ds h = refl

rest_same : (a b : Phase) (xs ys : List Phase) → a ∷ xs ≡ b ∷ ys → xs ≡ ys
rest_same a b xs ys h = cc

put_later : (x y : Phase) (line fold : List Phase) → put_phases true (x ∷ y ∷ line) fold ≡ x ∷ put_phases true (y ∷ line) fold
put_later x y line [] = refl
put_later x y line (straight ds ∷ []) = refl
put_later x y line (turns loop count body ∷ []) = refl
put_later x y line (repeated loop body ∷ []) = refl
put_later x y line (decided choice chosen other ∷ []) = refl
put_later x y line (p ∷ q ∷ ps) = refl

-- the block that joins the copies of a loop, behind its body
pub put_folded : (line fold : List Phase) → line ≡ front line ++ one_straight (last_open line) → IsFull fold → put_phases true line fold ≡ folded line fold
put_folded [] [] e f = refl
put_folded [] (straight ds ∷ []) e f = one_of [] ds f
put_folded [] (turns loop count body ∷ []) e f = refl
put_folded [] (repeated loop body ∷ []) e f = refl
put_folded [] (decided choice chosen other ∷ []) e f = refl
put_folded [] (p ∷ q ∷ ps) e f = refl
put_folded (straight [] ∷ []) fold e f = cc
put_folded (straight (c ∷ cs) ∷ []) [] e f = refl
put_folded (straight (c ∷ cs) ∷ []) (straight ds ∷ []) e f = refl
put_folded (straight (c ∷ cs) ∷ []) (turns loop count body ∷ []) e f = refl
put_folded (straight (c ∷ cs) ∷ []) (repeated loop body ∷ []) e f = refl
put_folded (straight (c ∷ cs) ∷ []) (decided choice chosen other ∷ []) e f = refl
put_folded (straight (c ∷ cs) ∷ []) (p ∷ q ∷ ps) e f = ap (λ l. straight (c ∷ cs) ∷ l) (sym (append-nil (p ∷ q ∷ ps)))
put_folded (turns l n b ∷ []) [] e f = refl
put_folded (turns l n b ∷ []) (straight ds ∷ []) e f = ap (λ x. turns l n b ∷ x) (one_of [] ds f)
put_folded (turns l n b ∷ []) (turns loop count body ∷ []) e f = refl
put_folded (turns l n b ∷ []) (repeated loop body ∷ []) e f = refl
put_folded (turns l n b ∷ []) (decided choice chosen other ∷ []) e f = refl
put_folded (turns l n b ∷ []) (p ∷ q ∷ ps) e f = refl
put_folded (repeated l b ∷ []) [] e f = refl
put_folded (repeated l b ∷ []) (straight ds ∷ []) e f = ap (λ x. repeated l b ∷ x) (one_of [] ds f)
put_folded (repeated l b ∷ []) (turns loop count body ∷ []) e f = refl
put_folded (repeated l b ∷ []) (repeated loop body ∷ []) e f = refl
put_folded (repeated l b ∷ []) (decided choice chosen other ∷ []) e f = refl
put_folded (repeated l b ∷ []) (p ∷ q ∷ ps) e f = refl
put_folded (decided l a b ∷ []) [] e f = refl
put_folded (decided l a b ∷ []) (straight ds ∷ []) e f = ap (λ x. decided l a b ∷ x) (one_of [] ds f)
put_folded (decided l a b ∷ []) (turns loop count body ∷ []) e f = refl
put_folded (decided l a b ∷ []) (repeated loop body ∷ []) e f = refl
put_folded (decided l a b ∷ []) (decided choice chosen other ∷ []) e f = refl
put_folded (decided l a b ∷ []) (p ∷ q ∷ ps) e f = refl
put_folded (x ∷ y ∷ line) fold e f = put_later x y line fold ∙ ap (λ l. x ∷ l) (put_folded (y ∷ line) fold (rest_same _ _ _ _ e) f)

-- Parts.

abbrev pub puts : (going : Bool) → (line : List Phase) → List (List Phase) → List Phase
puts going line [] = line
puts going line (ps ∷ pss) = puts (last_phase_goes_on going ps) (put_phases going line ps) pss

abbrev pub AllFull : List (List Phase) → Type 0
AllFull [] = Unit {0}
AllFull (ps ∷ pss) = IsFull ps × AllFull pss

no_more : (line : List Phase) → line ≡ line ++ []
no_more line = sym (append-nil line)

-- what comes behind an open phase that others end
behind_open : (line : List Phase) (c : Located) (cs : List Located) (ps rest : List Phase) → ((line ++ straight (c ∷ cs) ∷ []) ++ ps) ++ rest ≡ line ++ (one_straight (c ∷ cs) ++ (ps ++ rest))
behind_open line c cs ps rest = append_assoc (line ++ straight (c ∷ cs) ∷ []) ps rest ∙ append_assoc line (straight (c ∷ cs) ∷ []) (ps ++ rest)

mutual
  pub puts_joined : (line : List Phase) (pss : List (List Phase)) → AllFull pss → puts false line pss ≡ line ++ joined [] pss
  puts_joined line [] f = no_more line
  puts_joined line ([] ∷ pss) f = puts_joined line pss f.1
  puts_joined line ((straight [] ∷ []) ∷ pss) f = absurd f.0
  puts_joined line ((straight (d ∷ ds) ∷ []) ∷ pss) f = puts_going line d ds pss f.1
  puts_joined line ((turns loop count body ∷ []) ∷ pss) f = puts_joined (line ++ turns loop count body ∷ []) pss f.1 ∙ append_assoc line (turns loop count body ∷ []) (joined [] pss)
  puts_joined line ((repeated loop body ∷ []) ∷ pss) f = puts_joined (line ++ repeated loop body ∷ []) pss f.1 ∙ append_assoc line (repeated loop body ∷ []) (joined [] pss)
  puts_joined line ((decided choice chosen other ∷ []) ∷ pss) f = puts_joined (line ++ decided choice chosen other ∷ []) pss f.1 ∙ append_assoc line (decided choice chosen other ∷ []) (joined [] pss)
  puts_joined line ((p ∷ q ∷ ps) ∷ pss) f = puts_joined (line ++ (p ∷ q ∷ ps)) pss f.1 ∙ append_assoc line (p ∷ q ∷ ps) (joined [] pss)

  puts_going : (line : List Phase) (c : Located) (cs : List Located) (pss : List (List Phase)) → AllFull pss → puts true (line ++ straight (c ∷ cs) ∷ []) pss ≡ line ++ joined (c ∷ cs) pss
  puts_going line c cs [] f = refl
  puts_going line c cs ([] ∷ pss) f = puts_going line c cs pss f.1
  puts_going line c cs ((straight ds ∷ []) ∷ pss) f =
      ap (λ l. puts true l pss)
      (ap (λ l. l ++ one_straight (last_open (line ++ straight (c ∷ cs) ∷ []) ++ ds)) (front_straight line (c ∷ cs)) ∙ ap (λ l. line ++ one_straight (l ++ ds)) (last_straight line (c ∷ cs)))
      ∙ puts_going line c (cs ++ ds) pss f.1
  puts_going line c cs ((turns loop count body ∷ []) ∷ pss) f = puts_joined ((line ++ straight (c ∷ cs) ∷ []) ++ turns loop count body ∷ []) pss f.1 ∙ behind_open line c cs (turns loop count body ∷ []) (joined [] pss)
  puts_going line c cs ((repeated loop body ∷ []) ∷ pss) f = puts_joined ((line ++ straight (c ∷ cs) ∷ []) ++ repeated loop body ∷ []) pss f.1 ∙ behind_open line c cs (repeated loop body ∷ []) (joined [] pss)
  puts_going line c cs ((decided choice chosen other ∷ []) ∷ pss) f =
      puts_joined ((line ++ straight (c ∷ cs) ∷ []) ++ decided choice chosen other ∷ []) pss f.1 ∙ behind_open line c cs (decided choice chosen other ∷ []) (joined [] pss)
  puts_going line c cs ((p ∷ q ∷ ps) ∷ pss) f = puts_joined ((line ++ straight (c ∷ cs) ∷ []) ++ (p ∷ q ∷ ps)) pss f.1 ∙ behind_open line c cs (p ∷ q ∷ ps) (joined [] pss)
