use Rattle.std.proofs.Common.{ℕ, List, ◌++◌, ◌<◌, ◌≤◌, length, ap, sym, ◌∙◌, subst}
use Rattle.std.proofs.lemmas.Result.{on_ok_weaker}
use Rattle.dh_tree.specs.declared.trees.counters.Counter.{Counter}
use Rattle.dh_tree.specs.declared.viewing.ViewMap.{ViewMap}
use Rattle.dh_tree.specs.Memories.{memories_of, number_in}
use Rattle.dh_tree.specs.Seen.{program_seen}
use Rattle.dh_meaning.specs.Ways.{all_bindings_of}
use Rattle.dh_meets.specs.Charges.{charge_through}
use Rattle.dh_events.specs.Accesses.{loops_listed}
use Rattle.dh_ways.specs.Seen.{way_seen}
use Rattle.dh_ports.specs.Banks.{each_below}
use Rattle.dh_ports.specs.Claims.{source_of}
use Rattle.dh_ports.specs.Copies.{copies_round}
use Rattle.dh_ports.specs.Runs.{moves_in}
use Rattle.dh_base.specs.Limits.{most_copies}
use Rattle.dh_ports.proofs.CarrierTurns.{shaped}
use Rattle.dh_ports.proofs.ClaimTurns.{each_few, kept_scopes, no_loop, scopes_at, some_loop}
use Rattle.dh_ports.proofs.MoveTurns.{nothing_added}
use Rattle.dh_ports.proofs.ThroughClaims.{base_through, bases_through, counts_through, none_through, one_through, slots_through}
use Rattle.dh_ports.proofs.moves.claim_view.Goals as goal

pub returns-in_default : goal.returns-in_default
returns-in_default c = record {
  claims = nothing_added (moves_in c.args.moves.now.items) _
      (none_through c.args.typed.now c.args.claimant.event (loops_listed c.args.layout.now.rounds.items c.args.claimant.round) c.args.claimant.writes c.args.claimant.access.now (way_seen c.args.way.now) c.requires.named c.number_of.result (c.number_of.ensures ∙ ap (number_in (memories_of (program_seen c.args.typed.now))) c.memory-ends_at.ensures) c.in_default.is);
  past = c.requires.past;
}

pub index-base-requires : goal.index-base-requires
index-base-requires c =
    subst (λ (n : ℕ). c.in-Some.memory < n) (sym c.args.layout.now.bases.ok.0)
    (bases_through c.args.typed.now c.args.claimant.event (loops_listed c.args.layout.now.rounds.items c.args.claimant.round) c.args.claimant.writes c.args.claimant.access.now (way_seen c.args.way.now) c.requires.named c.number_of.result (c.number_of.ensures ∙ ap (number_in (memories_of (program_seen c.args.typed.now))) c.memory-ends_at.ensures) c.requires.leads c.args.carrier.now c.requires.carrier c.in-Some.memory c.in-Some.is
    c.args.layout.now.bases.items c.requires.layout.bases)

pub bank_reached-bank-requires : goal.bank_reached-bank-requires
bank_reached-bank-requires c =
    let s = shaped c.args.way.now.view.shape c.as_slice-dims.result.now (c.as_slice-dims.ensures ∙ ap (λ (v : ViewMap). v.shape.dims) c.view-named.ensures) c.requires.leads.own.own in
    record { dims = s.dims; few = s.few }

pub claim_carried-requires : goal.claim_carried-requires
claim_carried-requires c =
    let base = base_through c.args.typed.now c.args.claimant.event (loops_listed c.args.layout.now.rounds.items c.args.claimant.round) c.args.claimant.writes c.args.claimant.access.now (way_seen c.args.way.now) c.requires.named c.number_of.result (c.number_of.ensures ∙ ap (number_in (memories_of (program_seen c.args.typed.now))) c.memory-ends_at.ensures) c.requires.leads c.args.carrier.now c.requires.carrier c.in-Some.memory c.in-Some.is
    c.args.layout.now.bases.items c.index-base.result.now c.requires.layout.bases c.index-base.ensures in
    record {
      few = slots_through c.args.typed.now c.args.claimant.event (loops_listed c.args.layout.now.rounds.items c.args.claimant.round) c.args.claimant.writes c.args.claimant.access.now (way_seen c.args.way.now) c.requires.named c.number_of.result (c.number_of.ensures ∙ ap (number_in (memories_of (program_seen c.args.typed.now))) c.memory-ends_at.ensures) c.requires.leads c.args.carrier.now c.requires.carrier c.in-Some.memory c.in-Some.is
          c.requires.table c.index-base.result.now base;
    }

pub returns-then-is_empty : goal.returns-then-is_empty
returns-then-is_empty c =
    let base = base_through c.args.typed.now c.args.claimant.event (loops_listed c.args.layout.now.rounds.items c.args.claimant.round) c.args.claimant.writes c.args.claimant.access.now (way_seen c.args.way.now) c.requires.named c.number_of.result (c.number_of.ensures ∙ ap (number_in (memories_of (program_seen c.args.typed.now))) c.memory-ends_at.ensures) c.requires.leads c.args.carrier.now c.requires.carrier c.in-Some.memory c.in-Some.is
    c.args.layout.now.bases.items c.index-base.result.now c.requires.layout.bases c.index-base.ensures in
    let loops_are = c.loops_round-loops.ensures ∙ ap (λ rounds. loops_listed rounds c.args.claimant.round) c.as_slice.ensures.value in
    let claims = one_through c.args.typed.now c.args.claimant.event (loops_listed c.args.layout.now.rounds.items c.args.claimant.round) c.args.claimant.writes c.args.claimant.access.now (way_seen c.args.way.now) c.requires.named c.number_of.result (c.number_of.ensures ∙ ap (number_in (memories_of (program_seen c.args.typed.now))) c.memory-ends_at.ensures) c.requires.leads c.args.carrier.now c.requires.carrier c.in-Some.memory c.in-Some.is
    c.as_slice-dims.result.now (c.as_slice-dims.ensures ∙ ap (λ (v : ViewMap). v.shape.dims) c.view-named.ensures) c.bank_reached-bank.result c.bank_reached-bank.ensures (sym loops_are ∙ no_loop c.loops_round-loops.result.now c.is_empty.result c.is_empty.ensures c.if-is_empty.true) c.index-base.result.now base in
    record {
      claims = on_ok_weaker c.claim_carried.result (λ so. so ∙ ap (λ l. moves_in c.args.moves.now.items ++ l) (sym claims)) c.claim_carried.ensures;
      past = on_ok_weaker c.claim_carried.result (λ so. c.requires.past) c.claim_carried.ensures;
    }

pub keys_through-requires : goal.keys_through-requires
keys_through-requires c =
    let p = program_seen c.args.typed.now in
    let s = shaped c.args.way.now.view.shape c.as_slice-dims.result.now (c.as_slice-dims.ensures ∙ ap (λ (v : ViewMap). v.shape.dims) c.view-named.ensures) c.requires.leads.own.own in
    let loops_are = c.loops_round-loops.ensures ∙ ap (λ rounds. loops_listed rounds c.args.claimant.round) c.as_slice.ensures.value in
    record {
      dims = s.dims;
      few = s.few;
      named = c.as_slice-dims.ensures ∙ ap (λ (v : ViewMap). v.shape.dims) c.view-named.ensures;
      copies = subst (λ (ls : List Counter). copies_round ls ≤ most_copies) (sym loops_are) c.requires.copies;
      scopes = kept_scopes (all_bindings_of p) c.args.layout.now.scopes.items c.as_slice-scopes.result.now c.as_slice-scopes.ensures.value
          (scopes_at p c.args.layout.now c.requires.layout c.args.claimant.round (λ none. some_loop c.loops_round-loops.result.now c.is_empty.result c.is_empty.ensures c.if-is_empty.false (loops_are ∙ none)));
      carries = c.requires.carrier.carries;
      past = c.requires.past;
    }

pub claim_all-requires : goal.claim_all-requires
claim_all-requires c =
    let p = program_seen c.args.typed.now in
    let base = base_through c.args.typed.now c.args.claimant.event (loops_listed c.args.layout.now.rounds.items c.args.claimant.round) c.args.claimant.writes c.args.claimant.access.now (way_seen c.args.way.now) c.requires.named c.number_of.result (c.number_of.ensures ∙ ap (number_in (memories_of (program_seen c.args.typed.now))) c.memory-ends_at.ensures) c.requires.leads c.args.carrier.now c.requires.carrier c.in-Some.memory c.in-Some.is
    c.args.layout.now.bases.items c.index-base.result.now c.requires.layout.bases c.index-base.ensures in
    record {
      few = each_few (charge_through p (way_seen c.args.way.now) (source_of c.loops_round-loops.result.now c.args.claimant.writes c.args.claimant.access.now)) (length c.args.carrier.now.sources.items) c.index-base.result.now c.as_slice-2.result.now (c.as_slice-2.ensures.value ∙ c.in_ok-keys_through.ensures.counts)
          (slots_through c.args.typed.now c.args.claimant.event (loops_listed c.args.layout.now.rounds.items c.args.claimant.round) c.args.claimant.writes c.args.claimant.access.now (way_seen c.args.way.now) c.requires.named c.number_of.result (c.number_of.ensures ∙ ap (number_in (memories_of (program_seen c.args.typed.now))) c.memory-ends_at.ensures) c.requires.leads c.args.carrier.now c.requires.carrier c.in-Some.memory c.in-Some.is
          c.requires.table c.index-base.result.now base);
    }

pub returns : goal.returns
returns c =
    let p = program_seen c.args.typed.now in
    let base = base_through c.args.typed.now c.args.claimant.event (loops_listed c.args.layout.now.rounds.items c.args.claimant.round) c.args.claimant.writes c.args.claimant.access.now (way_seen c.args.way.now) c.requires.named c.number_of.result (c.number_of.ensures ∙ ap (number_in (memories_of (program_seen c.args.typed.now))) c.memory-ends_at.ensures) c.requires.leads c.args.carrier.now c.requires.carrier c.in-Some.memory c.in-Some.is
    c.args.layout.now.bases.items c.index-base.result.now c.requires.layout.bases c.index-base.ensures in
    let loops_are = c.loops_round-loops.ensures ∙ ap (λ rounds. loops_listed rounds c.args.claimant.round) c.as_slice.ensures.value in
    let claims = counts_through c.args.typed.now c.args.claimant.event (loops_listed c.args.layout.now.rounds.items c.args.claimant.round) c.args.claimant.writes c.args.claimant.access.now (way_seen c.args.way.now) c.requires.named c.number_of.result (c.number_of.ensures ∙ ap (number_in (memories_of (program_seen c.args.typed.now))) c.memory-ends_at.ensures) c.requires.leads c.args.carrier.now c.requires.carrier c.in-Some.memory c.in-Some.is
    c.index-base.result.now c.as_slice-2.result.now base
    (c.as_slice-2.ensures.value ∙ (c.in_ok-keys_through.ensures.counts ∙ ap (λ (ls : List Counter). each_below (charge_through p (way_seen c.args.way.now) (source_of ls c.args.claimant.writes c.args.claimant.access.now)) (length c.args.carrier.now.sources.items)) loops_are)) in
    record {
      claims = on_ok_weaker c.claim_all.result (λ so. so ∙ ap (λ l. moves_in c.args.moves.now.items ++ l) (sym claims)) c.claim_all.ensures;
      past = on_ok_weaker c.claim_all.result (λ so. c.in_ok-keys_through.ensures.past) c.claim_all.ensures;
    }
