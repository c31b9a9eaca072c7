-- What is told of the events of a step, as the rules on ports see them: of which access each is, and with which key.
use Rattle.std.specs.Prelude.{◌≡◌, ◌⊎◌, ℕ, ◌<◌, Bool, true, false, List, [], ◌∷◌, Option, Some, None, slice_get}
use Rattle.dh_base.specs.declared.places.Place.{Place}
use Rattle.dh_tree.specs.Elements.{Spot}
use Rattle.dh_tree.specs.PlainTrees.{Program}
use Rattle.dh_meaning.specs.Effects.{Event, reads, writes}
use Rattle.dh_meaning.specs.Paths.{Path}
use Rattle.dh_meets.specs.Charges.{key_of, keys_reaching}
use Rattle.dh_meets.specs.Sharing.{shared}
use Rattle.dh_meets.specs.SourceEvents.{SourceAccess, accesses_in, trace}
use Rattle.dh_meaning.specs.Ways.{all_bindings_of}

-- the key of an access at a path, by its number
abbrev pub key_from : Program → Option SourceAccess → Path → List ℕ
key_from p None path = []
key_from p (Some a) path = key_of (all_bindings_of p) a path

abbrev pub access_at : Program → ℕ → Option SourceAccess
access_at p n = slice_get (accesses_in (trace p)) n

abbrev pub key_at : Program → ℕ → Path → List ℕ
key_at p n path = key_from p (access_at p n) path

-- the keys with which an access reaches a bank, by its number
abbrev pub keys_from : Program → (memory bank : ℕ) → Option SourceAccess → List (List ℕ)
keys_from p memory bank None = []
keys_from p memory bank (Some a) = keys_reaching p a memory bank

abbrev pub bank_keys_at : Program → (memory bank : ℕ) → ℕ → List (List ℕ)
bank_keys_at p memory bank n = keys_from p memory bank (access_at p n)

abbrev pub IsAmongEvents : Event → List Event → Type 0
IsAmongEvents ev [] = ⊥
IsAmongEvents ev (e ∷ es) = (ev ≡ e) ⊎ IsAmongEvents ev es

-- a read of an access that shares an earlier one has led where that one led, which was made at the same path
pub record SharedRead (p : Program) (es : List Event) (n : ℕ) (path : Path) (s : Spot) (earlier : ℕ) : Type 0 where
  pub before : earlier < n
  pub place : Place
  pub made : IsAmongEvents (reads earlier place path s) es

-- the access of an event
pub record IsOfAccess (p : Program) (n : ℕ) (writing : Bool) : Type 0 where
  pub of : SourceAccess
  pub listed : access_at p n ≡ Some of
  pub writes_it : of.writes ≡ writing

-- What is told of the events that a block makes.
pub record AreTold (p : Program) (es : List Event) : Type 0 where
  pub read_of : (n : ℕ) (place : Place) (path : Path) (s : Spot) → IsAmongEvents (reads n place path s) es → IsOfAccess p n false
  pub write_of : (n : ℕ) (place : Place) (path : Path) (s : Spot) (value : ℕ) → IsAmongEvents (writes n place path s value) es → IsOfAccess p n true
  pub read_shares : (n : ℕ) (place : Place) (path : Path) (s : Spot) (earlier : ℕ) → IsAmongEvents (reads n place path s) es → shared p n ≡ Some earlier → SharedRead p es n path s earlier
  -- reads of one access with one key lead to one element
  pub one_element : (n : ℕ) (place later : Place) (path other : Path) (s t : Spot) → IsAmongEvents (reads n place path s) es → IsAmongEvents (reads n later other t) es → key_at p n path ≡ key_at p n other → s ≡ t
