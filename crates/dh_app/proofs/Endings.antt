-- How a call ends, by what its words came to and what was written; and what follows of it for every call.
use Rattle.std.proofs.Common.{◌≡◌, ℕ, ◌<◌, ◌⊎◌, List, Option, refl, sym, ap, ◌∙◌, arith, subst, inl, inr}
use Rattle.dh_base.specs.Outside.{SinkSeen, Rose, Grew}
use Rattle.dh_base.specs.declared.statuses.Status.{Status}
use Rattle.dh_base.specs.declared.statuses.Status.TheVariants as status
use Rattle.dh_app.specs.Ends.{WritesWholeAnswer, CallEnds}
use Rattle.dh_app.specs.Inputs.{InputsSeen}
use Rattle.dh_app.specs.Jobs.{Comes}
use Rattle.dh_app.specs.Parts.{Written}
use Rattle.dh_app.specs.Promises.{CountsFaults, TouchesInputs, NoFaults, IsPresentFile, FilesAre, AnswersWhole, MayDiffer, Succeeds, HasOneAnswer}
use Rattle.dh_app.specs.Replies.{ReplySeen, replied, unread, no_memory}
use Rattle.dh_app.specs.Words.{job_of}
use Rattle.dh_app.specs.declared.replies.Answer.{Answer}
use Rattle.dh_app.specs.declared.words.Job.{Job}
use Rattle.dh_app.proofs.JobAnswers.{Agree, all_agree, all_had}
use Rattle.dh_app.proofs.Touching.{Calm, IsShown, JobLeft, all_left}

-- ---- from what was written

module _ (words : List (List ℕ)) (old new : InputsSeen) (before after : SinkSeen) where
  left : (r : ReplySeen) → Comes words old new r → JobLeft words old new (job_of words) r
  left r h = all_left words old new (job_of words) r h.comes

  whole : (s : Status) → IsShown s → WritesWholeAnswer words old new before after s → CallEnds words old new before after s
  whole status.Done h w = w
  whole status.Refused h w = w
  whole status.Usage h w = w
  whole status.Faulted h w = w
  whole status.Stuck h w = w
  whole status.Going h w = w
  whole status.BadData h w = w
  whole status.TooLarge h w = w
  whole status.ReadFault h w = absurd h
  whole status.WriteFault h w = absurd h
  whole status.NoMemory h w = absurd h

  pub written : (a : Answer) (s : Status) → Comes words old new (replied a.status a.text.items) → Written before after a s → CallEnds words old new before after s
  written a s h (inl (e, (grew, (f, k)))) =
      let P : Status → Type 0 = λ x. CallEnds words old new before after x in
      subst P (sym e) (whole a.status (left (replied a.status a.text.items) h).shows (record { text = a.text.items; answer = h; grew = grew; faults = f; refusals = k }))
  written a s h (inr (inl (e, (grew, (f, k))))) =
      let P : Status → Type 0 = λ x. CallEnds words old new before after x in
      subst P (sym e) (record { part = record { status_meant = a.status; text = a.text.items; answer = h; grew = grew }; faults = f; refusals = k })
  written a s h (inr (inr (e, (grew, (f, k))))) =
      let P : Status → Type 0 = λ x. CallEnds words old new before after x in
      subst P (sym e) (inr (record { part = record { status_meant = a.status; text = a.text.items; answer = h; grew = grew }; faults = f; refusals = k }))

  -- ---- back to it

  -- a reply was written whole, or in part, or there was nothing to write
  abbrev IsHow : ReplySeen → Status → Type 0
  IsHow (replied t text) s = ((s ≡ t) × (Grew before after text × (after.faults ≡ before.faults))) ⊎ (((s ≡ status.WriteFault) × Rose before.faults after.faults) ⊎ ((s ≡ status.NoMemory) × (after.faults ≡ before.faults)))
  IsHow unread s = (s ≡ status.ReadFault) × (after.faults ≡ before.faults)
  IsHow no_memory s = (s ≡ status.NoMemory) × (after.faults ≡ before.faults)

  record Reached (s : Status) : Type 0 where
    reply : ReplySeen
    comes : Comes words old new reply
    how : IsHow reply s

  shown : (s : Status) → WritesWholeAnswer words old new before after s → Reached s
  shown s w = record { reply = replied s w.text; comes = w.answer; how = inl (refl, (w.grew, w.faults)) }

  reached : (s : Status) → CallEnds words old new before after s → Reached s
  reached status.Done w = shown status.Done w
  reached status.Refused w = shown status.Refused w
  reached status.Usage w = shown status.Usage w
  reached status.Faulted w = shown status.Faulted w
  reached status.Stuck w = shown status.Stuck w
  reached status.Going w = shown status.Going w
  reached status.BadData w = shown status.BadData w
  reached status.TooLarge w = shown status.TooLarge w
  reached status.ReadFault w = record { reply = unread; comes = w.0; how = (refl, ap (λ x. x.faults) w.1) }
  reached status.WriteFault w = record { reply = replied w.part.status_meant w.part.text; comes = w.part.answer; how = inr (inl (refl, w.faults)) }
  reached status.NoMemory (inl w) = record { reply = no_memory; comes = w.0; how = (refl, ap (λ x. x.faults) w.1) }
  reached status.NoMemory (inr w) = record { reply = replied w.part.status_meant w.part.text; comes = w.part.answer; how = inr (inr (refl, w.faults)) }

  -- ---- what follows

  no_rise : (a b : ℕ) → b ≡ a → a < b → ⊥
  no_rise a b e l = omega (arith, e, l)

  counted : (r : ReplySeen) (s : Status) → Calm old.files new.files r → IsHow r s → CountsFaults old.files new.files before after s
  counted (replied t text) s c (inl h) = record { reading = λ l. absurd (no_rise old.files.faults new.files.faults c l); writing = λ l. absurd (no_rise before.faults after.faults h.1.1 l) }
  counted (replied t text) s c (inr (inl h)) = record { reading = λ l. absurd (no_rise old.files.faults new.files.faults c l); writing = λ l. h.0 }
  counted (replied t text) s c (inr (inr h)) = record { reading = λ l. absurd (no_rise old.files.faults new.files.faults c l); writing = λ l. absurd (no_rise before.faults after.faults h.1 l) }
  counted unread s c h = record { reading = λ l. h.0; writing = λ l. absurd (no_rise before.faults after.faults h.1 l) }
  counted no_memory s c h = record { reading = λ l. absurd (no_rise old.files.faults new.files.faults c l); writing = λ l. absurd (no_rise before.faults after.faults h.1 l) }

  pub counts_faults : (s : Status) → CallEnds words old new before after s → CountsFaults old.files new.files before after s
  counts_faults s e = let h = reached s e in counted h.reply s (left h.reply h.comes).calm h.how

  pub touches : (s : Status) → CallEnds words old new before after s → TouchesInputs words old new
  touches s e = let h = reached s e in let l = left h.reply h.comes in record { reads = l.reads; asks = l.asks }

  answered : (r : ReplySeen) (s : Status) → NoFaults old.files new.files before after → FilesAre IsPresentFile words old.files (job_of words) → Comes words old new r → IsHow r s
      → (s ≡ status.NoMemory) ⊎ AnswersWhole words old new before after s
  answered (replied t text) s calm files h (inl w) =
      let P : Status → Type 0 = λ x. Comes words old new (replied x text) in
      inr (record { text = text; answer = subst P (sym w.0) h; grew = w.1.0 })
  answered (replied t text) s calm files h (inr (inl w)) = absurd (calm.writing w.1)
  answered (replied t text) s calm files h (inr (inr w)) = inl w.0
  answered unread s calm files h w = absurd (all_had words old new (job_of words) calm.reading files h.comes)
  answered no_memory s calm files h w = inl w.0

  pub succeeds : (s : Status) → CallEnds words old new before after s → Succeeds words old new before after s
  succeeds s e calm files = let h = reached s e in answered h.reply s calm files h.comes h.how

  same_text : (text other : List ℕ) (o : Option Job) (t s : Status) → s ≡ t → MayDiffer o t ⊎ (text ≡ other) → Grew before after text → MayDiffer o s ⊎ Grew before after other
  same_text text other o t s e (inl d) grew = let P : Status → Type 0 = λ x. MayDiffer o x in inl (subst P (sym e) d)
  same_text text other o t s e (inr f) grew = let P : List ℕ → Type 0 = λ x. Grew before after x in inr (subst P f grew)

  only_text : (r : ReplySeen) (s other : Status) (text : List ℕ) → NoFaults old.files new.files before after → Agree (job_of words) r (replied other text) → IsHow r s
      → (s ≡ status.NoMemory) ⊎ ((s ≡ other) × (MayDiffer (job_of words) s ⊎ Grew before after text))
  only_text (replied t written_) s other text calm a (inl w) = inr (w.0 ∙ a.0, same_text written_ text (job_of words) t s w.0 a.1 w.1.0)
  only_text (replied t written_) s other text calm a (inr (inl w)) = absurd (calm.writing w.1)
  only_text (replied t written_) s other text calm a (inr (inr w)) = inl w.0
  only_text unread s other text calm a w = absurd a
  only_text no_memory s other text calm a w = inl w.0

  only_fault : (r : ReplySeen) (s : Status) → Agree (job_of words) r unread → IsHow r s → (s ≡ status.NoMemory) ⊎ (s ≡ status.ReadFault)
  only_fault (replied t text) s a w = absurd a
  only_fault unread s a w = inr w.0
  only_fault no_memory s a w = inl w.0

  pub one_answer : (s : Status) → CallEnds words old new before after s → HasOneAnswer words old new before after s
  one_answer s e calm told =
      let h = reached s e in
      record {
        texts = λ other text k. only_text h.reply s other text calm (all_agree words old new (job_of words) h.reply (replied other text) calm.reading told h.comes.comes k.comes) h.how;
        fails = λ k. only_fault h.reply s (all_agree words old new (job_of words) h.reply unread calm.reading told h.comes.comes k.comes) h.how;
      }
