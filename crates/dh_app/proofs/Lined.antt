-- Replies with a line: what is said of the line's bytes is said of the reply, where memory was had.
use Rattle.std.proofs.Common.{◌≡◌, ℕ, List, Result, Ok, Err, IfOk, Vec, sym, ◌∙◌, subst}
use Rattle.std.specs.declared.alloc.Global.{Global}
use Rattle.dh_base.specs.declared.lists.NoMemory.{NoMemory}
use Rattle.dh_base.specs.declared.statuses.Status.{Status}
use Rattle.dh_app.specs.Parts.{Line, RepliesWith}
use Rattle.dh_app.specs.Replies.{ReplySeen, replied, unread, no_memory, ReplySays}

-- what follows of each status and text follows of the reply
pub says_as : (P Q : Status → List ℕ → Type 0) (r : ReplySeen) → ((s : Status) (text : List ℕ) → P s text → Q s text) → ReplySays P r → ReplySays Q r
says_as P Q (replied s text) f h = f s text h
says_as P Q unread f h = h
says_as P Q no_memory f h = h

-- want of memory says nothing
pub none_said : (P : Status → List ℕ → Type 0) (r : ReplySeen) → r ≡ no_memory → ReplySays P r
none_said P r e = let T : ReplySeen → Type 0 = λ x. ReplySays P x in subst T (sym e) tt

pub with_line : (s : Status) (text : List ℕ) (line : Result (Vec ℕ Global) NoMemory) (r : ReplySeen) → IfOk line (λ v. v.items ≡ text) → RepliesWith s line r → ReplySays (Line s text) r
with_line s text (Ok v) r e h = says_as (Line s v.items) (Line s text) r (λ t other l. (l.0, l.1 ∙ e)) h
with_line s text (Err x) r e h = none_said (Line s text) r h
