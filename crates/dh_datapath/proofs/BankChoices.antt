-- Banks behind one another: what is held of the first where it is selected, else of the next ones.
use Rattle.std.proofs.Common.{◌≡◌, ℕ, Bool, true, false, if◌then◌else◌, List, refl, sym, ap, subst, ◌∙◌}
use Rattle.std.specs.Prelude.{◌∷◌, ◌==◌}
use Rattle.dh_cells.specs.PlainCircuits.{PlainCircuit}
use Rattle.dh_cells.specs.Settled.{Adds, shown}
use Rattle.dh_cells.specs.ShownValues.{bit, is_one, match_shown, choice_shown}
use Rattle.dh_cells.proofs.CellsAppended.{grows_then, shows_later}
use Rattle.dh_cells.proofs.WiresMade.{adds_behind}
use Rattle.dh_datapath.specs.ReadWires.{bank_held, bank_shown, banks_shown, bank_choice_shown}

one_is : (t : Bool) → (bit t == 1) ≡ t
one_is true = refl
one_is false = refl

-- the choice by a test that was added, of a bank that was added
pub choice_made : (d e f g : PlainCircuit) (wire width memory held test select bank others : ℕ) (ports : List (ℕ × ℕ)) → Adds d e held width (bank_shown d.table memory ports bank)
    → Adds e f test 1 (match_shown select bank) → Adds f g wire width (choice_shown test held others) → Adds d g wire width (bank_choice_shown d.table memory ports select bank others)
choice_made d e f g wire width memory held test select bank others ports first second third =
    let later = shows_later e f held width (bank_shown d.table memory ports bank) second.grows first.shows in
    adds_behind d f g wire width (choice_shown test held others) (bank_choice_shown d.table memory ports select bank others) (grows_then d e f first.grows second.grows) third
    (λ x settled.
    let is_test : is_one x test ≡ (shown x select == bank) = ap (λ (n : ℕ). n == 1) (second.shows.is x settled) ∙ one_is (shown x select == bank) in
    λ i. if is_test i then later.is x settled i else shown x others)

-- behind those that were added before
pub banks_made : (d e f : PlainCircuit) (wire width memory select bank others default : ℕ) (ports rest banks : List (ℕ × ℕ)) (first : ℕ × ℕ) → banks ≡ first ∷ rest → bank ≡ first.0
    → Adds d e others width (banks_shown d.table memory ports rest select default) → Adds e f wire width (bank_choice_shown e.table memory ports select bank others)
    → Adds d f wire width (banks_shown d.table memory ports banks select default)
banks_made d e f wire width memory select bank others default ports rest banks first split own before added =
    subst (λ (bs : List (ℕ × ℕ)). Adds d f wire width (banks_shown d.table memory ports bs select default)) (sym split)
    (adds_behind d e f wire width (bank_choice_shown e.table memory ports select bank others) (banks_shown d.table memory ports (first ∷ rest) select default) before.grows added
    (λ x settled. λ i. if shown x select == own i then bank_held (before.grows.table i) memory ports x.held (own i) else before.shows.is x settled i))
