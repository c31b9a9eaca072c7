use Rattle.std.proofs.Common.{◌≡◌, ℕ, ◌+◌, ◌-◌, ◌^◌, ◌<◌, ◌≤◌, min, length, arith, ap, sym, subst, ◌∙◌}
use Rattle.dh_events.specs.Tables.{with_number}
use Rattle.dh_events.proofs.Turns.{number_set}
use Rattle.dh_events.proofs.tables.set_number.Goals as goal

-- no list is as long as the greatest number
within : (place long to : ℕ) → to ≡ min (place + 1) (2 ^ 64 - 1) → to ≤ long → long < 2 ^ 63 → place < long
within place long to is e small = grind (arith, is, e, small)

pub index_mut-requires : goal.index_mut-requires
index_mut-requires c =
    let o = c.grow.new.numbers.ok in
    let s = c.grow.new.numbers.small in
    let short : length c.grow.new.numbers.items < 2 ^ 63 = omega (arith, o.0, o.1, s) in
    subst (λ (n : ℕ). c.args.place < n) (sym o.0) (within c.args.place _ _ c.saturating_add.ensures c.in_ok-grow.ensures.long short)

pub returns : goal.returns
returns c =
    let o = c.grow.new.numbers.ok in
    let s = c.grow.new.numbers.small in
    let short : length c.grow.new.numbers.items < 2 ^ 63 = omega (arith, o.0, o.1, s) in
    number_set c.grow.new.numbers.items c.args.place c.args.number (within c.args.place _ _ c.saturating_add.ensures c.in_ok-grow.ensures.long short) ∙ ap (λ f. with_number f c.args.place c.args.number) c.in_ok-grow.ensures.same
