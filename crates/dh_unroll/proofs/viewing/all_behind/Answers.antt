use Rattle.std.proofs.Common.{◌≡◌, ◌<◌, ℕ, length, add-one, ap, sym, subst, ◌∙◌, arith}
use Rattle.dh_unroll.specs.ViewsListed.{any_in}
use Rattle.dh_unroll.proofs.ReachedSets.{few_banks, one_in, small_bank}
use Rattle.dh_unroll.proofs.viewing.all_behind.Goals as goal

pub loop-bank-init : goal.loop-bank-init
loop-bank-init c = c.nothing-found.ensures

pub with_set-found-requires : goal.with_set-found-requires
with_set-found-requires c =
    subst (λ (n : ℕ). n < 64) (sym (c.narrow-number.ensures ∙ small_bank c.loop-bank.bank (length c.args.sets.now) c.loop-bank-test.true c.requires)) (few_banks c.loop-bank.bank (length c.args.sets.now) c.loop-bank-test.true c.requires)

pub loop-bank-preserved : goal.loop-bank-preserved
loop-bank-preserved c = rw (add-one c.loop-bank.bank)
    (one_in c.args.own c.args.sets.now c.loop-bank.bank c.narrow-number.result c.loop-bank.found c.set_at-more.result c.with_set-found.result (c.narrow-number.ensures ∙ small_bank c.loop-bank.bank (length c.args.sets.now) c.loop-bank-test.true c.requires) c.set_at-more.ensures c.with_set-found.ensures c.loop-bank.invariant)

pub returns : goal.returns
returns c =
    let end : c.loop-bank.bank ≡ length c.args.sets.now = let l = c.loop-bank-test.false in let e = c.loop-bank.auto.bank-end in omega (arith, l, e) in
    λ behind. c.loop-bank.invariant behind ∙ ap (λ n. any_in c.args.own c.args.sets.now n behind) end
