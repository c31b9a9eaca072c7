use Rattle.std.proofs.Common.{◌≡◌, take}
use Rattle.dh_unroll.specs.Shares.{narrow_shares}
use Rattle.dh_unroll.proofs.sharing.narrow_shares.Given as goal

abbrev pub invariant-loop-share : goal.invariant-loop-share
invariant-loop-share l = l.narrowed.items ≡ narrow_shares (take l.share-index l.shares)
