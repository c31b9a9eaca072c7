use Rattle.std.proofs.Common.{ap, ◌∙◌}
use Rattle.dh_ports.specs.Scanned as scanned
use Rattle.dh_ports.proofs.sharing.share_event.Goals as goal

pub returns : goal.returns
returns c = record {
  step = c.in_ok-taken.taken;
  sharing = c.in_ok-taken.ensures.steps;
  extends = c.in_ok-taken.ensures.extends;
  few = c.in_ok-taken.ensures.few;
  told = c.shares-flag.ensures ∙ ap (λ n. scanned.shares c.in_ok-taken.taken n) c.left_at.ensures;
  kept = c.in_ok-step.ensures.kept;
  stepped = c.in_ok-step.ensures.stepped;
}
