-- What a job comes to before anything is written.
use Rattle.std.specs.Prelude.{ℕ, List}
use Rattle.dh_base.specs.declared.statuses.Status.{Status}
use Rattle.dh_app.specs.declared.replies.Reply.{Reply}
use Rattle.dh_app.specs.declared.replies.Reply.TheVariants as reply

-- what clauses see of a reply: a status with the text to write, that a file could not be read, or that
-- memory was refused
pub data ReplySeen : Type 0 where
  replied : (s : Status) → (text : List ℕ) → ReplySeen
  unread : ReplySeen
  no_memory : ReplySeen

abbrev pub reply_seen : Reply → ReplySeen
reply_seen (reply.Answer a) = replied a.status a.text.items
reply_seen reply.ReadFault = unread
reply_seen reply.NoMemory = no_memory

-- the reply is of this status and text, or memory was refused
abbrev pub ReplySays : (Status → List ℕ → Type 0) → ReplySeen → Type 0
ReplySays P (replied s text) = P s text
ReplySays P unread = ⊥
ReplySays P no_memory = Unit {0}
