use Rattle.std.proofs.Common.{◌≡◌, ◌+◌, ◌∙◌, ap, sym, refl, max, min, None, Some}
use Rattle.dh_lengths.specs.HeldLevels.{held_access_count, read_in}
use Rattle.dh_lengths.specs.SharedReads.{told}
use Rattle.dh_lengths.proofs.HeldFacts.{read_next, within_count}
use Rattle.dh_lengths.proofs.held.PhaseLevels.read.Goals as goal
use Rattle.dh_lengths.proofs.held.PhaseLevels.read.Goals.{in-Some, in-None}

pub returns : goal.returns
returns c =
    let h = c.args.self.now in
    let number_is : c.len-number.result ≡ held_access_count c.args.self.now = c.len-number.ensures ∙ c.args.self.now.reads.ok.0 in
    let asked : told c.args.self.now.shares.now (held_access_count c.args.self.now) ≡ c.share_at.result = ap (told c.args.self.now.shares.now) (sym number_is) ∙ sym c.share_at.ensures in
    elim c.match-share_at.branch [
      | in-Some w ↦ read_next h _ c.args.outer c.args.indices c.match-share_at.level (Some w.in-Some.earlier) (asked ∙ w.in-Some.is)
          (λ a b. w.level-is ∙ (w.level_at-level.ensures ∙ ap (λ l. read_in l h.first w.in-Some.earlier) w.as_slice.ensures.value)) c.in_ok-push.ensures.items c.max-self.ensures (record { shares = refl; first = refl; variables = refl; log = refl })
      | in-None w ↦ read_next h _ c.args.outer c.args.indices c.match-share_at.level None (asked ∙ w.in-None.is) (λ a b. w.level-is ∙ (ap (λ n. n + 1) (w.min.ensures ∙ (ap (λ n. min n c.len-number.result) w.max.ensures ∙ ap (λ n. min (max c.args.indices c.args.outer) n) number_is)) ∙ within_count c.args.outer c.args.indices (held_access_count c.args.self.now) a b)) c.in_ok-push.ensures.items c.max-self.ensures (record { shares = refl; first = refl; variables = refl; log = refl })
    ]
