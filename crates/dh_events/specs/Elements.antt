-- What is noted of the indices of reads: the number of their structure, and the moment behind the last assignment
-- to a variable in them. Moments are places among the events.
use Rattle.std.specs.Prelude.{◌≡◌, ℕ, ◌+◌, Bool, true, false, List, [], ◌∷◌, Option, Some, None}
use Rattle.dh_base.specs.declared.places.Place.{Place}
use Rattle.dh_value.specs.declared.kinds.Kind.{Kind}
use Rattle.dh_value.specs.declared.operators.Op.{Op}
use Rattle.dh_tree.specs.declared.trees.expressions.Expr.{Expr}
use Rattle.dh_tree.specs.declared.trees.expressions.Ref.{Ref}
use Rattle.dh_tree.specs.PlainTrees.{Term, term, TermForm, number, truth_value, named, accessed, in_bank, applied, converted, Terms, no_terms, term_then}
use Rattle.dh_tree.specs.Seen.{term_seen}
use Rattle.dh_meets.specs.SourceEvents.{Element, with_indices, in_row}
use Rattle.dh_events.specs.declared.structures.Structure.{Structure}
use Rattle.dh_events.specs.declared.structures.MaybeKind.{MaybeKind}
use Rattle.dh_events.specs.declared.structures.Form.{Form}
use Rattle.dh_events.specs.declared.events.Event.{Event}
use Rattle.dh_events.specs.declared.events.Event.TheVariants as event
use Rattle.dh_events.specs.declared.known.Known.{Known}
use Rattle.dh_events.specs.declared.events.Notes.{Notes}
use Rattle.dh_events.specs.Accesses.{entity_in, element_in}
use Rattle.dh_events.specs.Structures.{sort_found, StructureStands, Describes, DescribesAll, DescribesElement, ExtendsStructures, IsNameless, AnyNameless, newest_in, newest_behind, element_newest}
use Rattle.dh_events.specs.Tables.{table_at, with_number}

-- the moments of variables after an assignment
abbrev pub moment_assigned_at : (clocks : ℕ → ℕ) → (moment : ℕ) → Option ℕ → ℕ → ℕ
moment_assigned_at clocks moment None = clocks
moment_assigned_at clocks moment (Some e) = with_number clocks e moment

-- after an event at a place
abbrev pub clocks_after : (clocks : ℕ → ℕ) → (place : ℕ) → Event → ℕ → ℕ
clocks_after clocks place (event.Touch writes phase round access element newest) = clocks
clocks_after clocks place (event.Assigned entity) = moment_assigned_at clocks (place + 1) entity
clocks_after clocks place event.ArmBegins = clocks
clocks_after clocks place event.ArmEnds = clocks
clocks_after clocks place event.Begins = clocks
clocks_after clocks place event.Next = clocks
clocks_after clocks place event.Ends = clocks

abbrev pub clocks_from : (clocks : ℕ → ℕ) → (place : ℕ) → List Event → ℕ → ℕ
clocks_from clocks place [] = clocks
clocks_from clocks place (e ∷ es) = clocks_from (clocks_after clocks place e) (place + 1) es

abbrev pub IsNumberOf : {A : Type 0} → (ℕ → A → Type 0) → (A → Type 0) → Option ℕ → A → Type 0
IsNumberOf describes nameless None a = nameless a
IsNumberOf describes nameless (Some n) a = describes n a

abbrev pub ElementNameless : Element → Type 0
ElementNameless (with_indices indices) = AnyNameless indices
ElementNameless (in_row bank row) = IsNameless row

-- what is known of an expression, of indices and of an element
pub record IsKnown (known : List Structure) (clocks : ℕ → ℕ) (t : Term) (k : Known) : Type 0 where
  pub number : IsNumberOf (λ n. Describes known n) IsNameless k.structure t
  pub newest : k.newest ≡ newest_in clocks t

pub record AreKnown (known : List Structure) (clocks : ℕ → ℕ) (ts : Terms) (k : Known) : Type 0 where
  pub number : IsNumberOf (λ n. DescribesAll known n) AnyNameless k.structure ts
  pub newest : k.newest ≡ newest_behind clocks 0 ts

pub record IsElement (known : List Structure) (clocks : ℕ → ℕ) (e : Element) (structure : Option ℕ) (moment : ℕ) : Type 0 where
  pub number : IsNumberOf (λ n. DescribesElement known n) ElementNameless structure e
  pub newest : moment ≡ element_newest clocks e

abbrev pub element_of : Term → Element
element_of (term place kind form) = element_in form

-- an event that is a read has the number and the moment of its indices
abbrev pub IsRead : (known : List Structure) → (clocks : ℕ → ℕ) → Event → Type 0
IsRead known clocks (event.Touch true phase round access element newest) = Unit {0}
IsRead known clocks (event.Touch false phase round access element newest) = IsElement known clocks (element_of (term_seen access.now)) element newest
IsRead known clocks (event.Assigned entity) = Unit {0}
IsRead known clocks event.ArmBegins = Unit {0}
IsRead known clocks event.ArmEnds = Unit {0}
IsRead known clocks event.Begins = Unit {0}
IsRead known clocks event.Next = Unit {0}
IsRead known clocks event.Ends = Unit {0}

abbrev pub AreReads : (known : List Structure) → (clocks : ℕ → ℕ) → (place : ℕ) → List Event → Type 0
AreReads known clocks place [] = Unit {0}
AreReads known clocks place (e ∷ es) = IsRead known clocks e × AreReads known (clocks_after clocks place e) (place + 1) es

-- no variable was assigned
abbrev pub no_clocks : ℕ → ℕ
no_clocks e = 0

-- what is noted is right: the moments of variables, and of each read its indices
pub record IsNoted (notes : Notes) : Type 0 where
  pub clocks : table_at notes.clocks.items ≡ clocks_from no_clocks 0 notes.events.items
  pub reads : AreReads notes.structures no_clocks 0 notes.events.items

-- more is noted, and stays right
pub record StaysNoted (old new : Notes) : Type 0 where
  pub extends : ExtendsStructures old.structures new.structures
  pub noted : IsNoted old → IsNoted new

-- the same, and no variable was assigned
pub record StaysRead (old new : Notes) : Type 0 where
  pub extends : ExtendsStructures old.structures new.structures
  pub clocks : table_at new.clocks.items ≡ table_at old.clocks.items
  pub noted : IsNoted old → IsNoted new

-- an event that is no access and no assignment
abbrev pub IsBoundaryEvent : Event → Type 0
IsBoundaryEvent (event.Touch writes phase round access element newest) = ⊥
IsBoundaryEvent (event.Assigned entity) = ⊥
IsBoundaryEvent event.ArmBegins = Unit {0}
IsBoundaryEvent event.ArmEnds = Unit {0}
IsBoundaryEvent event.Begins = Unit {0}
IsBoundaryEvent event.Next = Unit {0}
IsBoundaryEvent event.Ends = Unit {0}

-- an event that is an access, and of a read the number and the moment of its indices
abbrev pub IsTouch : Notes → Event → Type 0
IsTouch notes (event.Touch writes phase round access element newest) = IsRead notes.structures (table_at notes.clocks.items) (event.Touch writes phase round access element newest)
IsTouch notes (event.Assigned entity) = ⊥
IsTouch notes event.ArmBegins = ⊥
IsTouch notes event.ArmEnds = ⊥
IsTouch notes event.Begins = ⊥
IsTouch notes event.Next = ⊥
IsTouch notes event.Ends = ⊥

-- this is known of the element of an access
abbrev pub IsElementOf : Notes → Expr → Known → Type 0
IsElementOf notes access k = IsElement notes.structures (table_at notes.clocks.items) (element_of (term_seen access)) k.structure k.newest

-- a form is an access
abbrev pub FormIsAccess : TermForm → Type 0
FormIsAccess (number negative n) = ⊥
FormIsAccess (truth_value value) = ⊥
FormIsAccess (named r) = ⊥
FormIsAccess (accessed r indices) = Unit {0}
FormIsAccess (in_bank r bank bank_place row) = Unit {0}
FormIsAccess (applied op left right) = ⊥
FormIsAccess (converted inner to) = ⊥

-- terms, and one more behind them
abbrev pub terms_behind : Terms → Term → Terms
terms_behind no_terms u = term_then u no_terms
terms_behind (term_then t ts) u = term_then t (terms_behind ts u)

-- what is known of indices so far, where there are any
abbrev pub AreKnownSoFar : List Structure → (clocks : ℕ → ℕ) → Terms → Option Known → Type 0
AreKnownSoFar known clocks ts None = ts ≡ no_terms
AreKnownSoFar known clocks no_terms (Some k) = ⊥
AreKnownSoFar known clocks (term_then t ts) (Some k) = AreKnown known clocks (term_then t ts) k

-- a form of two parts, where both have numbers
abbrev pub both_known : (left right : Option ℕ) → (ℕ → ℕ → Form) → Option Form
both_known None right form = None
both_known (Some l) None form = None
both_known (Some l) (Some r) form = Some (form l r)

-- What is known of what is made of parts.

-- there is a number where there is a form
abbrev pub FormIsNumbered : List Structure → MaybeKind → Option Form → Option ℕ → Type 0
FormIsNumbered known s None None = Unit {0}
FormIsNumbered known s None (Some n) = ⊥
FormIsNumbered known s (Some f) None = ⊥
FormIsNumbered known s (Some f) (Some n) = StructureStands known n s f

pub record MakesFrom (old new : List Structure) (s : MaybeKind) (f : Option Form) (newest : ℕ) (k : Known) : Type 0 where
  pub extends : ExtendsStructures old new
  pub made : FormIsNumbered new s f k.structure
  pub same : k.newest ≡ newest

pub record MakesNumber (old new : List Structure) (s : MaybeKind) (negative : Bool) (value : ℕ) (k : Known) : Type 0 where
  pub extends : ExtendsStructures old new
  pub known : (clocks : ℕ → ℕ) (place : Place) (j : Option Kind) → s ≡ sort_found j → IsKnown new clocks (term place j (number negative value)) k

pub record MakesTruth (old new : List Structure) (s : MaybeKind) (value : Bool) (k : Known) : Type 0 where
  pub extends : ExtendsStructures old new
  pub known : (clocks : ℕ → ℕ) (place : Place) (j : Option Kind) → s ≡ sort_found j → IsKnown new clocks (term place j (truth_value value)) k

pub record MakesVariable (old new : List Structure) (clocks : ℕ → ℕ) (s : MaybeKind) (entity : Option ℕ) (k : Known) : Type 0 where
  pub extends : ExtendsStructures old new
  pub known : (place : Place) (j : Option Kind) (r : Ref) → s ≡ sort_found j → r.entity ≡ entity → IsKnown new clocks (term place j (named r)) k

pub record MakesRead (old new : List Structure) (s : MaybeKind) (entity : Option ℕ) (element k : Known) : Type 0 where
  pub extends : ExtendsStructures old new
  pub known : (clocks : ℕ → ℕ) (place : Place) (j : Option Kind) (f : TermForm) → s ≡ sort_found j → entity_in f ≡ entity → FormIsAccess f
      → IsElement old clocks (element_in f) element.structure element.newest → IsKnown new clocks (term place j f) k

pub record MakesOperation (old new : List Structure) (s : MaybeKind) (o : Op) (left right k : Known) : Type 0 where
  pub extends : ExtendsStructures old new
  pub known : (clocks : ℕ → ℕ) (place : Place) (j : Option Kind) (t u : Term) → s ≡ sort_found j → IsKnown old clocks t left → IsKnown old clocks u right
      → IsKnown new clocks (term place j (applied o t u)) k

pub record MakesCast (old new : List Structure) (s : MaybeKind) (to : Kind) (inner k : Known) : Type 0 where
  pub extends : ExtendsStructures old new
  pub known : (clocks : ℕ → ℕ) (place : Place) (j : Option Kind) (t : Term) → s ≡ sort_found j → IsKnown old clocks t inner → IsKnown new clocks (term place j (converted t to)) k

pub record MakesNoIndex (old new : List Structure) (k : Known) : Type 0 where
  pub extends : ExtendsStructures old new
  pub known : (clocks : ℕ → ℕ) → AreKnown new clocks no_terms k

pub record MakesIndex (old new : List Structure) (before : Option Known) (last k : Known) : Type 0 where
  pub extends : ExtendsStructures old new
  pub known : (clocks : ℕ → ℕ) (ts : Terms) (t : Term) → AreKnownSoFar old clocks ts before → IsKnown old clocks t last → AreKnown new clocks (terms_behind ts t) k

pub record MakesBankRow (old new : List Structure) (bank : ℕ) (row k : Known) : Type 0 where
  pub extends : ExtendsStructures old new
  pub known : (clocks : ℕ → ℕ) (t : Term) → IsKnown old clocks t row → IsElement new clocks (in_row bank t) k.structure k.newest
