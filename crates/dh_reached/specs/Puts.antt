-- What is put down for a block, in order, each operation for a path: which accesses it reads and writes, where these
-- stand, on which banks and with which place. It is told of one step in which the block is done.
use Rattle.std.specs.Prelude.{◌≡◌, ◌⊎◌, ℕ, ◌+◌, ◌<◌, ◌≤◌, ◌^◌, List, [], ◌∷◌, ◌++◌, length, map, Option, Some}
use Rattle.std.specs.List.{AllByRecursion}
use Rattle.dh_tree.specs.Elements.{Spot}
use Rattle.dh_plan.specs.declared.operations.Operation.{Operation}
use Rattle.dh_plan.specs.declared.operations.Reach.{Reach}
use Rattle.dh_plan.specs.Blocks.{spot_of_reach}
use Rattle.dh_plan.specs.SoundPlans.{IsListed, use_in, writes_memory}
use Rattle.dh_expressions.specs.declared.accesses.Accesses.{Accesses}
use Rattle.dh_expressions.specs.declared.accesses.Touched.{Touched}
use Rattle.dh_expressions.specs.declared.drafts.Draft.{Draft}
use Rattle.dh_expressions.specs.Copying.{AreNone, DoneBy}
use Rattle.dh_expressions.specs.Drafted.{BlockStep, holds}
use Rattle.dh_expressions.specs.Noted.{touched_in}
use Rattle.dh_expressions.specs.Numbers.{narrowed}
use Rattle.dh_expressions.specs.Standings.{IsTouched}
use Rattle.dh_formed.specs.Formed.{BlockSite}

-- an operation, and the path for which it was put down
pub record OperationAtPath : Type 0 where
  pub operation : Operation
  pub path : ℕ

abbrev pub used_reach : OperationAtPath → Option Reach
used_reach u = use_in u.operation.form

abbrev pub is_write : OperationAtPath → Type 0
is_write u = writes_memory u.operation.form

abbrev pub operations_of : List OperationAtPath → List Operation
operations_of us = map (λ (u : OperationAtPath). u.operation) us

-- so of all that read or write
abbrev pub EachUse : (OperationAtPath → Reach → Type 0) → List OperationAtPath → Type 0
EachUse P us = AllByRecursion (λ u. (r : Reach) → used_reach u ≡ Some r → P u r) us

-- Uses.

-- A read or a write, in a step: of an access that stands in the block, by a path that leads, with the place of that path on
-- each bank that it lists. Where its guard holds that of a path does which it leads, and where it is in range it reaches
-- one of these banks.
pub record IsSitedUse (x : BlockStep) (sites : ℕ → Option BlockSite) (u : OperationAtPath) (r : Reach) : Type 0 where
  pub site : BlockSite
  pub there : sites r.access ≡ Some site
  pub memory_is : r.memory ≡ narrowed site.memory
  pub within : u.path < length site.standing.guards
  pub few : length site.standing.guards < 2 ^ 32
  pub leads : site.standing.leader u.path ≡ u.path
  pub placed : (bank place : ℕ) → IsListed bank place r.banks → place ≡ site.standing.places u.path
  pub done : holds x u.operation.guard → DoneBy x site.standing.leader site.standing.guards (length site.standing.guards) u.path
  pub reached : (spot : Spot) → spot_of_reach x.start x.first x.words r ≡ Some spot → IsListed spot.bank (site.standing.places u.path) r.banks

-- Order.

-- where both reach one bank the earlier has the smaller place
abbrev pub PlacesRise : BlockStep → (sites : ℕ → Option BlockSite) → (a b : OperationAtPath) → (r t : Reach) → Type 0
PlacesRise x sites a b r t =
    (y z : Spot) → spot_of_reach x.start x.first x.words r ≡ Some y → spot_of_reach x.start x.first x.words t ≡ Some z → y.bank ≡ z.bank
    → (s : BlockSite) → sites r.access ≡ Some s → s.standing.places a.path < s.standing.places b.path

-- of two uses of one access the earlier is for an earlier path; of two writes it is of an earlier access, or that
pub record GoesBefore (x : BlockStep) (sites : ℕ → Option BlockSite) (a b : OperationAtPath) (r t : Reach) : Type 0 where
  pub places : r.access ≡ t.access → PlacesRise x sites a b r t
  pub writes : is_write a → is_write b → (r.access < t.access) ⊎ (r.access ≡ t.access)

abbrev pub UseGoesBefore : BlockStep → (sites : ℕ → Option BlockSite) → OperationAtPath → OperationAtPath → Type 0
UseGoesBefore x sites a b = (r t : Reach) → used_reach a ≡ Some r → used_reach b ≡ Some t → GoesBefore x sites a b r t

abbrev pub AreInOrder : BlockStep → (sites : ℕ → Option BlockSite) → List OperationAtPath → Type 0
AreInOrder x sites [] = Unit {0}
AreInOrder x sites (u ∷ us) = AllByRecursion (UseGoesBefore x sites u) us × AreInOrder x sites us

-- Parts of a block.

-- what was added uses accesses from a first one on, so many, in order
pub record PutsDown (x : BlockStep) (sites : ℕ → Option BlockSite) (first count : ℕ) (old new : Draft) : Type 0 where
  pub puts : List OperationAtPath
  pub adds : new.operations.items ≡ old.operations.items ++ operations_of puts
  pub uses : EachUse (IsSitedUse x sites) puts
  pub within : EachUse (λ u r. (first ≤ r.access) × (r.access < first + count)) puts
  pub order : AreInOrder x sites puts

-- the same with what more holds of each use, as at which path it is; the accesses that are written are told
pub record PutsAt (x : BlockStep) (sites : ℕ → Option BlockSite) (first count : ℕ) (IsAt : OperationAtPath → Reach → Type 0) (IsWritten : (access : ℕ) → Type 0) (old new : Draft) : Type 0 where
  pub down : PutsDown x sites first count old new
  pub at : EachUse IsAt down.puts
  pub written : EachUse (λ u r. is_write u → IsWritten r.access) down.puts

-- Accesses with operations are as they stand, in this step.
pub record AreSitedAccesses (x : BlockStep) (sites : ℕ → Option BlockSite) (a : Accesses) : Type 0 where
  pub touched : (number : ℕ) (t : Touched) (s : BlockSite) → touched_in a number ≡ Some t → sites number ≡ Some s → IsTouched x s.standing t
  pub there : (number : ℕ) (s : BlockSite) → sites number ≡ Some s → number < length a.touched.items
  pub none : AreNone a.counts.items
