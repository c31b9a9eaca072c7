use Rattle.dh_build.proofs.DrivesWired.{drives_wired}
use Rattle.dh_build.proofs.laws.drivers_serve_users.Goals as goal

pub returns : goal.returns
returns c =
    λ old d plan u t w cw at before entries lists h x m settled moment q ds p list_at port_at.
    drives_wired d plan u t w cw at h.formed h.addressed h.ports h.shows h.all_clocks h.early h.tells x settled m moment q old d before entries lists h.none_before h.driven h.listed ds p list_at port_at
