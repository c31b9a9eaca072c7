use Rattle.std.proofs.Common.{List, ℕ, length, sym, subst}
use Rattle.dh_lengths.specs.declared.sharing.Met.{Met}
use Rattle.dh_lengths.specs.SharedReads.{AreWithinClasses}
use Rattle.dh_lengths.proofs.MetTurns.{all_within}
use Rattle.dh_lengths.proofs.sharing.find_shares.Goals as goal

pub shares_met-requires : goal.shares_met-requires
shares_met-requires c = record {
  within = subst (λ (ms : List Met). AreWithinClasses c.len.result ms) (sym c.as_slice.ensures.value)
      (subst (λ (n : ℕ). AreWithinClasses n c.in_ok-met.met.items) (sym c.len.ensures.long) (all_within c.all_met.new.classes c.args.events.now c.in_ok-met.met.items c.in_ok-met.ensures));
}
