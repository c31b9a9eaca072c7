-- `check FILE`.
use Rattle.std.specs.Prelude.{◌≡◌, ℕ, List}
use Rattle.dh_base.specs.declared.statuses.Status.{Status}
use Rattle.dh_base.specs.declared.statuses.Status.TheVariants as status
use Rattle.dh_app.specs.Asking.{checked}
use Rattle.dh_app.specs.Inputs.{InputsSeen, OnlyReads}
use Rattle.dh_app.specs.Lines.{ok_line}
use Rattle.dh_app.specs.Replies.{ReplySeen, ReplySays}
use Rattle.dh_app.specs.Sources.{ProgramStage}

-- the reply is that no rule is broken
abbrev pub IsOk : Status → (text : List ℕ) → Type 0
IsOk s text = (s ≡ status.Done) × (text ≡ ok_line)

-- the one file is read; its verdict is the reply
abbrev pub ChecksFile : (old new : InputsSeen) → (file : List ℕ) → ReplySeen → Type 0
ChecksFile old new file r = ProgramStage old new checked file (λ p answer. OnlyReads old new 1 × ReplySays IsOk answer) r
