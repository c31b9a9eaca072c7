-- How the commands of a Straight phase stand along the trace of a program behind the views through which their names
-- lead: what is accessed before a command keeps its offsets below the first variable of the views in it, and of those
-- behind it.
use Rattle.std.specs.Prelude.{ℕ, ◌≤◌, List, length}
use Rattle.dh_tree.specs.PlainTrees.{Program}
use Rattle.dh_meaning.specs.Phases.{Located}
use Rattle.dh_meaning.specs.Sites.{Around}
use Rattle.dh_meets.specs.SourceEvents.{SourceEvent}
use Rattle.dh_sound.specs.BehindViews.{AccessBehind, ActionBehind}
use Rattle.dh_sound.specs.Trails.{EachAccess, FollowsBy, StandsBehind}

-- x is the first variable behind these events that no view takes, and none of the program's own
pub record IsBehind (p : Program) (x : ℕ) (before : List SourceEvent) : Type 0 where
  pub own : length p.entities ≤ x
  pub seen : EachAccess (AccessBehind p x) before

-- a command stands behind these events and behind its views
pub record StandsViews (p : Program) (r : Around) (before : List SourceEvent) (c : Located) : Type 0 where
  pub stands : StandsBehind r before c
  pub depth : ℕ
  pub first : ℕ
  pub behind : ActionBehind p depth first c.command
  pub seen : IsBehind p first before

-- commands stand in their order among these events, each behind its views
abbrev pub FollowsViews : Program → Around → (before part : List SourceEvent) → List Located → Type 0
FollowsViews p r before part cs = FollowsBy (λ round es c. StandsViews p round es c) r before part cs
