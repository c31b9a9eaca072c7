use Rattle.std.proofs.Common.{rules, ◌≡◌, ℕ, List, ◌++◌, ◌<◌, ◌≤◌, length, get_or, refl, ap, sym, ◌∙◌, subst}
use Rattle.std.proofs.lemmas.Result.{on_ok_weaker}
use Rattle.dh_tree.specs.declared.trees.counters.Counter.{Counter}
use Rattle.dh_tree.specs.Memories.{memories_of, number_in, table_of}
use Rattle.dh_tree.specs.Seen.{form_seen, program_seen}
use Rattle.dh_meaning.specs.Ways.{all_bindings_of}
use Rattle.dh_events.specs.Accesses.{entity_in, loops_listed}
use Rattle.dh_ports.specs.Banks.{each_below}
use Rattle.dh_ports.specs.Claims.{keys_on, source_of}
use Rattle.dh_ports.specs.Copies.{copies_round}
use Rattle.dh_ports.specs.Runs.{moves_in}
use Rattle.dh_base.specs.Limits.{most_copies}
use Rattle.dh_ports.proofs.ClaimFacts.{number_unled}
use Rattle.dh_ports.proofs.ClaimTurns.{past_claimed, one_claimed, all_claimed, entry_at, none_at, shape_at, base_at, base_there, slots_few, each_few, no_loop, some_loop, scopes_at, kept_scopes}
use Rattle.dh_ports.proofs.MoveTurns.{nothing_added}
use Rattle.dh_ports.proofs.moves.claim_memory.Goals as goal

pub returns-in_default : goal.returns-in_default
returns-in_default c =
    let p = program_seen c.args.typed.now in
    let past : length c.as_slice.result.now ≤ c.args.memory = search rules in
    record {
      claims = nothing_added (moves_in c.args.moves.now.items) _ (past_claimed c.args.typed.now c.args.claimant.event (loops_listed c.args.layout.now.rounds.items c.args.claimant.round) c.args.claimant.writes c.args.claimant.access.now (number_unled p (entity_in (form_seen c.args.claimant.access.now.form)) c.args.memory c.requires.named)
          (number_in (memories_of p) (entity_in (form_seen c.args.claimant.access.now.form))) c.args.memory refl c.requires.named (none_at (table_of p) c.as_slice.result.now c.args.memory (c.as_slice.ensures ∙ c.memories.ensures) past));
      past = c.requires.past;
    }

pub bank_count-banks-requires : goal.bank_count-banks-requires
bank_count-banks-requires c =
    let within : c.args.memory < length c.as_slice.result.now = search rules in
    let is : c.in-Some.entry.now ≡ get_or c.as_slice.result.now c.args.memory c.in-Some.entry.now = search rules in
    let shape = shape_at (table_of (program_seen c.args.typed.now)) c.as_slice.result.now c.args.memory c.in-Some.entry.now c.as_slice-dims.result.now (c.as_slice.ensures ∙ c.memories.ensures) c.requires.table within is c.as_slice-dims.ensures in
    record { dims = shape.dims; few = shape.few }

pub index-base-requires : goal.index-base-requires
index-base-requires c =
    let within : c.args.memory < length c.as_slice.result.now = search rules in
    subst (λ (n : ℕ). c.args.memory < n) (sym c.args.layout.now.bases.ok.0)
    (base_there (table_of (program_seen c.args.typed.now)) c.args.layout.now.bases.items c.args.memory c.requires.layout.bases (subst (λ (l : List _). c.args.memory < length l) (c.as_slice.ensures ∙ c.memories.ensures) within))

pub bank_reached-bank-requires : goal.bank_reached-bank-requires
bank_reached-bank-requires c =
    let within : c.args.memory < length c.as_slice.result.now = search rules in
    let is : c.in-Some.entry.now ≡ get_or c.as_slice.result.now c.args.memory c.in-Some.entry.now = search rules in
    let shape = shape_at (table_of (program_seen c.args.typed.now)) c.as_slice.result.now c.args.memory c.in-Some.entry.now c.as_slice-dims.result.now (c.as_slice.ensures ∙ c.memories.ensures) c.requires.table within is c.as_slice-dims.ensures in
    record { dims = shape.dims; few = shape.few }

pub claim_one-requires : goal.claim_one-requires
claim_one-requires c =
    let p = program_seen c.args.typed.now in
    let within : c.args.memory < length c.as_slice.result.now = search rules in
    let is : c.in-Some.entry.now ≡ get_or c.as_slice.result.now c.args.memory c.in-Some.entry.now = search rules in
    let same = c.as_slice.ensures ∙ c.memories.ensures in
    record {
      few = slots_few (table_of p) c.args.memory c.in-Some.entry.now (entry_at (table_of p) c.as_slice.result.now c.args.memory c.in-Some.entry.now same within is) c.requires.table c.index-base.result.now c.bank_count-banks.result c.as_slice-dims.result.now c.as_slice-dims.ensures
          (base_at (table_of p) c.as_slice.result.now c.args.layout.now.bases.items c.args.memory c.index-base.result.now same c.requires.layout.bases within c.index-base.ensures) c.bank_count-banks.ensures;
    }

pub returns-then-is_empty : goal.returns-then-is_empty
returns-then-is_empty c =
    let p = program_seen c.args.typed.now in
    let within : c.args.memory < length c.as_slice.result.now = search rules in
    let is : c.in-Some.entry.now ≡ get_or c.as_slice.result.now c.args.memory c.in-Some.entry.now = search rules in
    let same = c.as_slice.ensures ∙ c.memories.ensures in
    let loops_are = c.loops_round-loops.ensures ∙ ap (λ rounds. loops_listed rounds c.args.claimant.round) c.as_slice-2.ensures.value in
    let claims = one_claimed c.args.typed.now c.args.claimant.event (loops_listed c.args.layout.now.rounds.items c.args.claimant.round) c.args.claimant.writes c.args.claimant.access.now (number_unled p (entity_in (form_seen c.args.claimant.access.now.form)) c.args.memory c.requires.named)
    (number_in (memories_of p) (entity_in (form_seen c.args.claimant.access.now.form))) c.args.memory refl c.requires.named
    c.in-Some.entry.now (entry_at (table_of p) c.as_slice.result.now c.args.memory c.in-Some.entry.now same within is) c.as_slice-dims.result.now c.as_slice-dims.ensures c.index-base.result.now c.bank_count-banks.result
    (base_at (table_of p) c.as_slice.result.now c.args.layout.now.bases.items c.args.memory c.index-base.result.now same c.requires.layout.bases within c.index-base.ensures) c.bank_count-banks.ensures
    (sym loops_are ∙ no_loop c.loops_round-loops.result.now c.is_empty.result c.is_empty.ensures c.if-is_empty.true) c.bank_reached-bank.result c.bank_reached-bank.ensures in
    record {
      claims = on_ok_weaker c.claim_one.result (λ so. so ∙ ap (λ l. moves_in c.args.moves.now.items ++ l) (sym claims)) c.claim_one.ensures;
      past = on_ok_weaker c.claim_one.result (λ so. c.requires.past) c.claim_one.ensures;
    }

pub keys_reaching-requires : goal.keys_reaching-requires
keys_reaching-requires c =
    let p = program_seen c.args.typed.now in
    let within : c.args.memory < length c.as_slice.result.now = search rules in
    let is : c.in-Some.entry.now ≡ get_or c.as_slice.result.now c.args.memory c.in-Some.entry.now = search rules in
    let same = c.as_slice.ensures ∙ c.memories.ensures in
    let shape = shape_at (table_of p) c.as_slice.result.now c.args.memory c.in-Some.entry.now c.as_slice-dims.result.now same c.requires.table within is c.as_slice-dims.ensures in
    let loops_are = c.loops_round-loops.ensures ∙ ap (λ rounds. loops_listed rounds c.args.claimant.round) c.as_slice-2.ensures.value in
    record {
      dims = shape.dims;
      few = shape.few;
      banks = c.bank_count-banks.ensures;
      copies = subst (λ (ls : List Counter). copies_round ls ≤ most_copies) (sym loops_are) c.requires.copies;
      scopes = kept_scopes (all_bindings_of p) c.args.layout.now.scopes.items c.as_slice-scopes.result.now c.as_slice-scopes.ensures.value
          (scopes_at p c.args.layout.now c.requires.layout c.args.claimant.round (λ none. some_loop c.loops_round-loops.result.now c.is_empty.result c.is_empty.ensures c.if-is_empty.false (loops_are ∙ none)));
      past = c.requires.past;
    }

pub claim_all-requires : goal.claim_all-requires
claim_all-requires c =
    let p = program_seen c.args.typed.now in
    let within : c.args.memory < length c.as_slice.result.now = search rules in
    let is : c.in-Some.entry.now ≡ get_or c.as_slice.result.now c.args.memory c.in-Some.entry.now = search rules in
    let same = c.as_slice.ensures ∙ c.memories.ensures in
    record {
      few = each_few (keys_on p c.as_slice-dims.result.now (source_of c.loops_round-loops.result.now c.args.claimant.writes c.args.claimant.access.now)) c.bank_count-banks.result c.index-base.result.now c.as_slice-counts.result.now (c.as_slice-counts.ensures.value ∙ c.in_ok-keys_reaching.ensures.counts)
          (slots_few (table_of p) c.args.memory c.in-Some.entry.now (entry_at (table_of p) c.as_slice.result.now c.args.memory c.in-Some.entry.now same within is) c.requires.table c.index-base.result.now c.bank_count-banks.result c.as_slice-dims.result.now c.as_slice-dims.ensures
          (base_at (table_of p) c.as_slice.result.now c.args.layout.now.bases.items c.args.memory c.index-base.result.now same c.requires.layout.bases within c.index-base.ensures) c.bank_count-banks.ensures);
    }

pub returns : goal.returns
returns c =
    let p = program_seen c.args.typed.now in
    let within : c.args.memory < length c.as_slice.result.now = search rules in
    let is : c.in-Some.entry.now ≡ get_or c.as_slice.result.now c.args.memory c.in-Some.entry.now = search rules in
    let same = c.as_slice.ensures ∙ c.memories.ensures in
    let loops_are = c.loops_round-loops.ensures ∙ ap (λ rounds. loops_listed rounds c.args.claimant.round) c.as_slice-2.ensures.value in
    let claims = all_claimed c.args.typed.now c.args.claimant.event (loops_listed c.args.layout.now.rounds.items c.args.claimant.round) c.args.claimant.writes c.args.claimant.access.now (number_unled p (entity_in (form_seen c.args.claimant.access.now.form)) c.args.memory c.requires.named)
    (number_in (memories_of p) (entity_in (form_seen c.args.claimant.access.now.form))) c.args.memory refl c.requires.named
    c.in-Some.entry.now (entry_at (table_of p) c.as_slice.result.now c.args.memory c.in-Some.entry.now same within is) c.as_slice-dims.result.now c.as_slice-dims.ensures c.index-base.result.now c.bank_count-banks.result
    (base_at (table_of p) c.as_slice.result.now c.args.layout.now.bases.items c.args.memory c.index-base.result.now same c.requires.layout.bases within c.index-base.ensures) c.bank_count-banks.ensures
    c.as_slice-counts.result.now (c.as_slice-counts.ensures.value ∙ (c.in_ok-keys_reaching.ensures.counts ∙ ap (λ (ls : List Counter). each_below (keys_on p c.as_slice-dims.result.now (source_of ls c.args.claimant.writes c.args.claimant.access.now)) c.bank_count-banks.result) loops_are)) in
    record {
      claims = on_ok_weaker c.claim_all.result (λ so. so ∙ ap (λ l. moves_in c.args.moves.now.items ++ l) (sym claims)) c.claim_all.ensures;
      past = on_ok_weaker c.claim_all.result (λ so. c.in_ok-keys_reaching.ensures.past) c.claim_all.ensures;
    }
