-- Which of several breaches is reported: the one that stands first.
use Rattle.std.specs.Prelude.{◌<◌, ◌≡◌, ◌⊎◌, Bool, List, [], ◌∷◌, Option, Some, None, if◌then◌else◌, ◌==◌, ◌&&◌, ◌||◌, nat_lt, Contains}
use Rattle.dh_base.specs.declared.places.Place.{Place}
use Rattle.dh_base.specs.declared.rules.Rule.{Rule}
use Rattle.dh_base.specs.Rules.{number_of}
use Rattle.dh_tree.specs.declared.breaches.Breach.{Breach}

abbrev pub breach : Rule → Place → Breach
breach rule place = record { rule = rule; place = place }

-- a breach stands before another: at an earlier place, or at the same one with a lower rule number
abbrev pub Precedes : Breach → Breach → Type 0
Precedes a b =
    (a.place.line < b.place.line)
    ⊎ ((a.place.line ≡ b.place.line)
    × ((a.place.column < b.place.column) ⊎ ((a.place.column ≡ b.place.column) × (number_of a.rule < number_of b.rule))))

-- it is one of the breaches, and no other stands before it
pub record IsLeast (all : List Breach) (one : Breach) : Type 0 where
  pub among : Contains all one
  pub least : (other : Breach) → Contains all other → Precedes other one → ⊥

-- whether a place is before another one
abbrev pub is_before : Place → Place → Bool
is_before a b = nat_lt a.line b.line || (a.line == b.line && nat_lt a.column b.column)

-- whether a breach stands before another
abbrev pub precedes : Breach → Breach → Bool
precedes a b =
    nat_lt a.place.line b.place.line
    || (a.place.line == b.place.line
    && (nat_lt a.place.column b.place.column || (a.place.column == b.place.column && nat_lt (number_of a.rule) (number_of b.rule))))

-- the one that stands first, of one that was kept so far and the next
abbrev pub lesser : Option Breach → Breach → Option Breach
lesser None b = Some b
lesser (Some a) b = if precedes b a then Some b else Some a

-- the one that stands first, of one that was kept so far and these
abbrev pub least_of : Option Breach → List Breach → Option Breach
least_of kept [] = kept
least_of kept (b ∷ bs) = least_of (lesser kept b) bs

-- the breach that is kept when these are gone through is the least of them
abbrev pub KeepsLeast : List Breach → Type 0
KeepsLeast breaches = (one : Breach) → least_of None breaches ≡ Some one → IsLeast breaches one

-- no two breaches are each the least of these
abbrev pub HasAtMostOneLeast : List Breach → Type 0
HasAtMostOneLeast breaches = (one other : Breach) → IsLeast breaches one → IsLeast breaches other → one ≡ other
