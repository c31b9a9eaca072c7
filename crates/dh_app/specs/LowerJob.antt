-- `lower FILE`.
use Rattle.std.specs.Prelude.{◌≡◌, ℕ, List}
use Rattle.dh_base.specs.declared.statuses.Status.{Status}
use Rattle.dh_base.specs.declared.statuses.Status.TheVariants as status
use Rattle.dh_tree.specs.PlainTrees.{Program}
use Rattle.dh_net.specs.declared.nets.Net.{Net}
use Rattle.dh_verilog.specs.Ranges.{IsAlone}
use Rattle.dh_verilog.specs.Text.{text_of}
use Rattle.dh_app.specs.Asking.{checked}
use Rattle.dh_app.specs.Inputs.{InputsSeen, OnlyReads}
use Rattle.dh_app.specs.NetStage.{NetStage}
use Rattle.dh_app.specs.Replies.{ReplySeen, ReplySays}
use Rattle.dh_app.specs.Sources.{ProgramStage}

-- the text is that of this net, and of no other net
pub record IsNetText (net : Net) (s : Status) (text : List ℕ) : Type 0 where
  pub done : s ≡ status.Done
  pub text_is : text ≡ text_of net
  pub alone : IsAlone text net

-- an accepted program is compiled: the text of a net that plays it is the reply, or that it is too large
abbrev pub LowersProgram : (old new : InputsSeen) → Program → ReplySeen → Type 0
LowersProgram old new p r = NetStage old new p (λ net answer. OnlyReads old new 1 × ReplySays (IsNetText net) answer) r

-- so it is of all inputs of which one file was read and nothing else
abbrev pub LowersOnceRead : Program → ReplySeen → Type 0
LowersOnceRead p r = (old new : InputsSeen) → OnlyReads old new 1 → LowersProgram old new p r

-- the one file is read, and its program is compiled
abbrev pub LowersFile : (old new : InputsSeen) → (file : List ℕ) → ReplySeen → Type 0
LowersFile old new file r = ProgramStage old new checked file (λ p. LowersProgram old new p) r
