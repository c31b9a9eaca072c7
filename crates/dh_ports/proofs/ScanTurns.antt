-- Steps of the loops of the scans.
use Rattle.std.proofs.Common.{◌≡◌, ℕ, suc, ◌+◌, ◌<◌, true, false, List, [], ◌∷◌, ◌++◌, length, take, get_or, refl, ap, sym, ◌∙◌, subst, arith}
use Rattle.std.specs.Prelude.{Option, Some, None, slice_get, slice_index}
use Rattle.std.proofs.lemmas.List.{take_more}
use Rattle.dh_events.specs.declared.classes.Key.{Key}
use Rattle.dh_events.specs.declared.events.Event.{Event}
use Rattle.dh_events.specs.declared.events.Event.TheVariants as event
use Rattle.dh_ports.specs.declared.levels.Step.{Step}
use Rattle.dh_ports.specs.declared.moves.Move.{Move}
use Rattle.dh_ports.specs.declared.moves.Move.TheVariants as move
use Rattle.dh_events.specs.Classes.{ExtendsKeys}
use Rattle.dh_ports.specs.Levels.{Level, advance, lefts_from, left_before_each, start}
use Rattle.dh_ports.specs.Scanned.{all_share, read_key, TakesOf, IsSharing, AreSharing, IsWritten, IsNotedClaim}

absurd : {A : Type 0} → ⊥ → A
absurd e = elim e [ ]

-- Lists of steps.

lefts_of_long : (levels : ℕ → Level) (ss : List Step) → length (left_before_each levels ss) ≡ length ss
lefts_of_long levels [] = refl
lefts_of_long levels (s ∷ ss) = ap suc (lefts_of_long (λ slot. advance slot s (levels slot)) ss)

-- Keys that are written.

written_still : (old new : List Key) → ExtendsKeys old new → (o : Option Event) (bank : ℕ) → IsWritten old o bank → IsWritten new o bank
written_still old new more None bank h = h
written_still old new more (Some (event.Touch true phase round access element newest)) bank (slot, e) = (slot, more slot _ e)
written_still old new more (Some (event.Touch false phase round access element newest)) bank h = h
written_still old new more (Some (event.Assigned entity)) bank h = h
written_still old new more (Some event.ArmBegins) bank h = h
written_still old new more (Some event.ArmEnds) bank h = h
written_still old new more (Some event.Begins) bank h = h
written_still old new more (Some event.Next) bank h = h
written_still old new more (Some event.Ends) bank h = h

pub noted_still : (old new : List Key) → ExtendsKeys old new → (es : List Event) (m : Move) → IsNotedClaim old es m → IsNotedClaim new es m
noted_still old new more es (move.Claim e bank keys) h = written_still old new more (slice_get es e) bank h
noted_still old new more es move.Begin h = h
noted_still old new more es move.Next h = h
noted_still old new more es move.End h = h

-- Sharing.

takes_still : (old new : List Key) → ExtendsKeys old new → (o : Option Key) (s : Step) → TakesOf old 1 o s → TakesOf new 1 o s
takes_still old new more None s h = h
takes_still old new more (Some k) s (slot, (e, f)) = (slot, (more slot k e, f))

sharing_still : (old new : List Key) → ExtendsKeys old new → (e : Event) (s : Step) → IsSharing old e s → IsSharing new e s
sharing_still old new more (event.Touch writes phase round access element newest) s h = takes_still old new more (read_key (event.Touch writes phase round access element newest)) s h
sharing_still old new more (event.Assigned entity) s h = h
sharing_still old new more event.ArmBegins s h = h
sharing_still old new more event.ArmEnds s h = h
sharing_still old new more event.Begins s h = h
sharing_still old new more event.Next s h = h
sharing_still old new more event.Ends s h = h

sharing_more : (old new : List Key) → ExtendsKeys old new → (es : List Event) (ss : List Step) (e : Event) (s : Step) → AreSharing old es ss → IsSharing new e s → AreSharing new (es ++ e ∷ []) (ss ++ s ∷ [])
sharing_more old new more [] [] e s h i = (i, tt)
sharing_more old new more [] (x ∷ ss) e s h i = absurd h
sharing_more old new more (x ∷ es) [] e s h i = absurd h
sharing_more old new more (x ∷ es) (y ∷ ss) e s h i = (sharing_still old new more x y h.0, sharing_more old new more es ss e s h.1 i)

pub sharing_turn : (old new : List Key) → ExtendsKeys old new → (es : List Event) (i : ℕ) (e : Event) (ss next : List Step) (s : Step) → i < length es → e ≡ get_or es i e → AreSharing old (take i es) ss → IsSharing new e s → next ≡ ss ++ s ∷ [] → AreSharing new (take (i + 1) es) next
sharing_turn old new more es i e ss next s inside is h n f =
    subst (λ (l : List Step). AreSharing new (take (i + 1) es) l) (sym f)
    (subst (λ (l : List Event). AreSharing new l (ss ++ s ∷ [])) (sym (take_more es i e inside ∙ ap (λ x. take i es ++ x ∷ []) (sym is))) (sharing_more old new more (take i es) ss e s h n))

pub sharing_long : (known : List Key) (es : List Event) (ss : List Step) → AreSharing known es ss → length ss ≡ length es
sharing_long known [] [] h = refl
sharing_long known [] (s ∷ ss) h = absurd h
sharing_long known (e ∷ es) [] h = absurd h
sharing_long known (e ∷ es) (s ∷ ss) h = ap suc (sharing_long known es ss h.1)

share_long : (ss : List Step) (ls : List ℕ) → length ls ≡ length ss → length (all_share ss ls) ≡ length ss
share_long [] [] e = refl
share_long [] (l ∷ ls) e = refl
share_long (s ∷ ss) [] e = absurd (none (length ss) e)
  where
    none : (n : ℕ) → 0 ≡ suc n → ⊥
    none n e = omega (arith, e)
share_long (s ∷ ss) (l ∷ ls) e = ap suc (share_long ss ls (less (length ls) (length ss) e))
  where
    less : (m n : ℕ) → suc m ≡ suc n → m ≡ n
    less m n e = omega (arith, e)

pub shares_long : (starts : List ℕ) (ss : List Step) → length (all_share ss (lefts_from starts ss)) ≡ length ss
shares_long starts ss = share_long ss (lefts_from starts ss) (lefts_of_long (λ s. start (slice_index starts s)) ss)
