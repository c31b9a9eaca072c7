-- How the commands of a Straight phase stand along the trace of a program: in their order, each with all that comes
-- before it, and all with the same arms and loops round them.
use Rattle.std.specs.Prelude.{◌≡◌, ℕ, ◌<◌, ◌≤◌, List, [], ◌∷◌, ◌++◌, length}
use Rattle.dh_tree.specs.Numbers.{IsNumbered}
use Rattle.dh_meaning.specs.Phases.{Located}
use Rattle.dh_meaning.specs.Sites.{Arm, Around}
use Rattle.dh_meets.specs.SourceEvents.{SourceAccess, SourceEvent, accesses, assigned, accesses_in, events}
use Rattle.dh_sound.specs.Straight.{IsNamedAction}

-- arms of commands whose numbers are from low on and below high
abbrev pub ArmsWithin : (low high : ℕ) → List Arm → Type 0
ArmsWithin low high [] = Unit {0}
ArmsWithin low high (a ∷ arms) = ((low ≤ a.command) × (a.command < high)) × ArmsWithin low high arms

-- of each of the accesses among events
abbrev pub EachAccess : (SourceAccess → Type 0) → List SourceEvent → Type 0
EachAccess P [] = Unit {0}
EachAccess P (accesses a ∷ es) = P a × EachAccess P es
EachAccess P (assigned e ∷ es) = EachAccess P es

-- how many accesses there are
abbrev pub count : List SourceEvent → ℕ
count es = length (accesses_in es)

-- arms of commands whose numbers are below a number
abbrev pub Below : (m : ℕ) → List Arm → Type 0
Below m arms = ArmsWithin 0 m arms

abbrev pub AllBelow : (m : ℕ) → List SourceEvent → Type 0
AllBelow m es = EachAccess (λ a. Below m a.site.arms) es

-- A command stands behind these events, with what is round it, and has a number above those of all arms before it.
pub record StandsBehind (r : Around) (before : List SourceEvent) (c : Located) : Type 0 where
  pub around : c.around ≡ r
  pub first : c.first ≡ count before
  pub number : ℕ
  pub numbered : IsNumbered number c.command
  pub names : IsNamedAction c.command
  pub arms : Below number r.arms
  pub fresh : AllBelow number before

-- the events of a command, where it stands
abbrev pub of_located : Located → List SourceEvent
of_located c = events c.around c.command

-- commands stand in their order among these events, each behind those before as it is asked
abbrev pub FollowsBy : (Around → List SourceEvent → Located → Type 0) → Around → (before part : List SourceEvent) → List Located → Type 0
FollowsBy S r before part [] = Unit {0}
FollowsBy S r before part (c ∷ cs) = (gap : List SourceEvent) × ((rest : List SourceEvent) × ((part ≡ gap ++ (of_located c ++ rest)) × (S r (before ++ gap) c × FollowsBy S r ((before ++ gap) ++ of_located c) rest cs)))

-- commands stand in their order among these events, behind those before
abbrev pub Follows : Around → (before part : List SourceEvent) → List Located → Type 0
Follows r before part cs = FollowsBy (λ round es c. StandsBehind round es c) r before part cs
