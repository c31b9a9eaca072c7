-- The stage of a job that compiles its program.
use Rattle.std.specs.Prelude.{◌≡◌, ℕ, ◌⊎◌, List, Result, Ok, Err}
use Rattle.dh_base.specs.declared.limits.Limit.TheVariants as limit
use Rattle.dh_base.specs.declared.statuses.Status.{Status}
use Rattle.dh_base.specs.declared.statuses.Status.TheVariants as status
use Rattle.dh_tree.specs.PlainTrees.{Program}
use Rattle.dh_net.specs.declared.nets.Net.{Net}
use Rattle.dh_plan.specs.Passes.{IsTooLarge}
use Rattle.dh_compile.specs.Compiled.{IsNetOfProgram}
use Rattle.dh_app.specs.Inputs.{InputsSeen, OnlyReads}
use Rattle.dh_app.specs.Lines.{too_large_line}
use Rattle.dh_app.specs.Replies.{ReplySeen, replied, unread, no_memory, reply_seen}
use Rattle.dh_app.specs.declared.replies.Reply.{Reply}

-- the plan of the program is too large, and the reply says how large
pub record SaysTooLarge (p : Program) (s : Status) (text : List ℕ) : Type 0 where
  pub size : ℕ
  pub large : IsTooLarge p size
  pub status_is : s ≡ status.TooLarge
  pub text_is : text ≡ too_large_line limit.Plan size

-- there is no net: the program is too large, or memory was refused
abbrev pub NoNetOf : Program → ReplySeen → Type 0
NoNetOf p (replied s text) = SaysTooLarge p s text
NoNetOf p unread = ⊥
NoNetOf p no_memory = Unit {0}

-- a net that plays the program from all fitting memories, or none
abbrev pub NetOf : Program → Result Net Reply → Type 0
NetOf p (Ok net) = IsNetOfProgram p net
NetOf p (Err r) = NoNetOf p (reply_seen r)

-- the compiler gave no net, and no file but the program's was read
abbrev pub NoNet : (old new : InputsSeen) → Program → ReplySeen → Type 0
NoNet old new p r = OnlyReads old new 1 × NoNetOf p r

-- there is no net, or a net that plays the program from all fitting memories, and the rest of the job follows
abbrev pub NetStage : (old new : InputsSeen) → Program → (rest : Net → ReplySeen → Type 0) → ReplySeen → Type 0
NetStage old new p rest r = NoNet old new p r ⊎ ((net : Net) × (IsNetOfProgram p net × rest net r))
