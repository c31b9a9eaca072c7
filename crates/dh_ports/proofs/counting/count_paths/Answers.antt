use Rattle.std.proofs.Common.{◌≡◌, ℕ, ◌+◌, ◌<◌, ◌≤◌, List, ap, sym, ◌∙◌, subst, arith}
use Rattle.std.specs.Prelude.{Vec}
use Rattle.std.specs.Global.{Global}
use Rattle.std.specs.List.{AllByRecursion}
use Rattle.dh_events.specs.Tables.{table_at}
use Rattle.dh_ports.specs.declared.copies.BankDimension.{BankDimension}
use Rattle.dh_ports.specs.declared.copies.CopyLevel.{CopyLevel}
use Rattle.dh_ports.specs.declared.counting.Seen.{Seen}
use Rattle.dh_ports.specs.Copies.{bank_at_path_number, bank_of_lanes, key_by, key_of_levels, HasFewBanks, HasFewKeys, IsSpreadLevel, TellsPaths}
use Rattle.dh_ports.proofs.RangeCounts.{alone_of, range_beyond, range_done, range_few, range_none, range_past, range_turn, RangeCounted}
use Rattle.dh_ports.proofs.ReachFacts.{pair_few}
use Rattle.dh_ports.proofs.counting.count_paths.Goals.{then-bank-banks+in_ok-count_pair, else-bank-banks}
use Rattle.dh_ports.proofs.counting.count_paths.Goals as goal

pub loop-step-init : goal.loop-step-init
loop-step-init c = range_none c.args.reach.now c.args.from c.args.banks c.args.seen.now.moment c.args.counts.now.items (table_at c.args.seen.now.moments.items) c.requires.none c.requires.unseen

pub overflow_add-number : goal.overflow_add-number
overflow_add-number c =
    let few : c.args.from + c.args.many ≤ 256 = c.requires.range in
    omega (arith, few, c.loop-step-test.true)

pub bank_at-told-requires-clause-spread : goal.bank_at-told-requires-clause-spread
bank_at-told-requires-clause-spread c =
    let some : 1 ≤ c.args.many = omega (arith, c.loop-step-test.true) in
    let tells : TellsPaths c.args.reach.now = c.requires.tells some in
    subst (λ (ls : List CopyLevel). AllByRecursion IsSpreadLevel ls) (sym c.as_slice-levels.ensures.value) tells.spread

pub bank_at-told-requires-clause-few : goal.bank_at-told-requires-clause-few
bank_at-told-requires-clause-few c =
    let some : 1 ≤ c.args.many = omega (arith, c.loop-step-test.true) in
    let tells : TellsPaths c.args.reach.now = c.requires.tells some in
    subst (λ (ls : List BankDimension). HasFewBanks ls) (sym c.as_slice-lanes.ensures.value) tells.lanes

pub bank_of-bank-requires : goal.bank_of-bank-requires
bank_of-bank-requires c =
    let some : 1 ≤ c.args.many = omega (arith, c.loop-step-test.true) in
    let tells : TellsPaths c.args.reach.now = c.requires.tells some in
    let number = c.args.from + c.loop-step.step in
    let is : c.bank_at-told.result ≡ bank_of_lanes c.args.reach.now.paths.levels.items c.args.reach.now.lanes.items number =
    c.bank_at-told.ensures ∙ (ap (λ ls. bank_of_lanes ls c.as_slice-lanes.result.now number) c.as_slice-levels.ensures.value ∙ ap (λ ls. bank_of_lanes c.args.reach.now.paths.levels.items ls number) c.as_slice-lanes.ensures.value) in
    let alone = alone_of c.args.reach.now number c.bank_at-told.result tells is in
    record { alone = alone.alone; few = alone.few }

pub key_at-key-requires-clause-spread : goal.key_at-key-requires-clause-spread
key_at-key-requires-clause-spread c =
    let some : 1 ≤ c.args.many = omega (arith, c.loop-step-test.true) in
    let tells : TellsPaths c.args.reach.now = c.requires.tells some in
    subst (λ (ls : List CopyLevel). AllByRecursion IsSpreadLevel ls) (sym c.as_slice-levels.ensures.value) tells.spread

pub key_at-key-requires-clause-few : goal.key_at-key-requires-clause-few
key_at-key-requires-clause-few c =
    let some : 1 ≤ c.args.many = omega (arith, c.loop-step-test.true) in
    let tells : TellsPaths c.args.reach.now = c.requires.tells some in
    subst (λ (ls : List CopyLevel). HasFewKeys ls) (sym c.as_slice-levels.ensures.value) tells.keys

pub pair_of-pair-requires : goal.pair_of-pair-requires
pair_of-pair-requires c =
    let some : 1 ≤ c.args.many = omega (arith, c.loop-step-test.true) in
    let tells : TellsPaths c.args.reach.now = c.requires.tells some in
    let number = c.args.from + c.loop-step.step in
    let keyed : c.key_at-key.result ≡ key_by c.args.reach.now number = c.key_at-key.ensures ∙ ap (λ ls. key_of_levels ls number) c.as_slice-levels.ensures.value in
    record {
      few = pair_few c.bank_of-bank.result c.args.banks c.args.reach.now.paths.count c.key_at-key.result c.if-bank-banks.true c.requires.few tells.few
          (subst (λ (n : ℕ). n < c.args.reach.now.paths.count) (sym keyed) (tells.below number));
    }

pub count_pair-requires-clause-within : goal.count_pair-requires-clause-within
count_pair-requires-clause-within c = subst (λ (n : ℕ). c.bank_of-bank.result < n) (sym c.loop-step.invariant.long) c.if-bank-banks.true

pub count_pair-requires-clause-few : goal.count_pair-requires-clause-few
count_pair-requires-clause-few c =
    let some : 1 ≤ c.args.many = omega (arith, c.loop-step-test.true) in
    let tells : TellsPaths c.args.reach.now = c.requires.tells some in
    let few = range_few c.args.reach.now c.args.from c.args.banks c.loop-step.seen.moment c.loop-step.step c.loop-step.counts.items (table_at c.loop-step.seen.moments.items) tells c.loop-step.invariant c.bank_of-bank.result c.if-bank-banks.true in
    let range : c.args.from + c.args.many ≤ 256 = c.requires.range in
    omega (arith, few, range, c.loop-step-test.true)

pub loop-step-preserved : goal.loop-step-preserved
loop-step-preserved c =
    let some : 1 ≤ c.args.many = omega (arith, c.loop-step-test.true) in
    let tells : TellsPaths c.args.reach.now = c.requires.tells some in
    let number = c.args.from + c.loop-step.step in
    let keyed : c.key_at-key.result ≡ key_by c.args.reach.now number = c.key_at-key.ensures ∙ ap (λ ls. key_of_levels ls number) c.as_slice-levels.ensures.value in
    let is : c.bank_of-bank.result ≡ bank_at_path_number c.args.reach.now number =
    c.bank_of-bank.ensures
    ∙ ap (λ n. c.args.reach.now.own + n)
    (c.bank_at-told.ensures ∙ (ap (λ ls. bank_of_lanes ls c.as_slice-lanes.result.now number) c.as_slice-levels.ensures.value ∙ ap (λ ls. bank_of_lanes c.args.reach.now.paths.levels.items ls number) c.as_slice-lanes.ensures.value)) in
    elim c.if-bank-banks.branch [
      | then-bank-banks+in_ok-count_pair w ↦
          let same : c.if-bank-banks.seen.moment ≡ c.loop-step.seen.moment = ap (λ (s : Seen). s.moment) w.seen-is ∙ w.in_ok-count_pair.ensures.seen.same in
          subst (λ (moment : ℕ). RangeCounted c.args.reach.now c.args.from c.args.banks moment (c.loop-step.step + 1) c.if-bank-banks.counts.items (table_at c.if-bank-banks.seen.moments.items)) (sym same)
          (range_turn c.args.reach.now c.args.from c.args.banks c.loop-step.seen.moment c.loop-step.step c.loop-step.counts.items (table_at c.loop-step.seen.moments.items) tells c.loop-step.invariant
          c.bank_of-bank.result c.key_at-key.result w.pair_of-pair.result c.if-bank-banks.counts.items (table_at c.if-bank-banks.seen.moments.items) is keyed w.pair_of-pair.ensures w.if-bank-banks.true
          (ap (λ (v : Vec ℕ Global). v.items) w.counts-is ∙ w.in_ok-count_pair.ensures.counts) (ap (λ (s : Seen). table_at s.moments.items) w.seen-is ∙ w.in_ok-count_pair.ensures.seen.seen))
      | else-bank-banks w ↦
          subst (λ (v : Vec ℕ Global). RangeCounted c.args.reach.now c.args.from c.args.banks c.if-bank-banks.seen.moment (c.loop-step.step + 1) v.items (table_at c.if-bank-banks.seen.moments.items)) (sym w.counts-is)
          (subst (λ (s : Seen). RangeCounted c.args.reach.now c.args.from c.args.banks s.moment (c.loop-step.step + 1) c.loop-step.counts.items (table_at s.moments.items)) (sym w.seen-is)
          (range_beyond c.args.reach.now c.args.from c.args.banks c.loop-step.seen.moment c.loop-step.step c.loop-step.counts.items (table_at c.loop-step.seen.moments.items) tells c.loop-step.invariant c.bank_of-bank.result is w.if-bank-banks.false))
    ]

pub returns-clause-counts : goal.returns-clause-counts
returns-clause-counts c =
    let all : c.loop-step.step ≡ c.args.many = omega (arith, c.loop-step-test.false, c.loop-step.auto.step-end) in
    range_done c.args.reach.now c.args.from c.args.banks c.loop-step.seen.moment c.args.many c.loop-step.step c.loop-step.counts.items (table_at c.loop-step.seen.moments.items) all c.loop-step.invariant

pub returns-clause-past : goal.returns-clause-past
returns-clause-past c = range_past c.args.reach.now c.args.from c.args.banks c.loop-step.seen.moment c.loop-step.step c.loop-step.counts.items (table_at c.loop-step.seen.moments.items) c.loop-step.invariant
