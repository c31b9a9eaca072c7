use Rattle.std.proofs.Common.{◌≡◌, ◌<◌, ◌≤◌, ℕ, add-one, sym, subst, ◌∙◌, arith}
use Rattle.dh_unroll.specs.ViewsListed.{SetsBehind}
use Rattle.dh_unroll.proofs.ReachedSets.{more_behind, none_behind, reached_in}
use Rattle.dh_unroll.proofs.viewing.sets_behind.Goals as goal

pub view_banks-count-requires : goal.view_banks-count-requires
view_banks-count-requires c = c.requires.map

pub loop-bank-init : goal.loop-bank-init
loop-bank-init c = none_behind c.args.view.now c.args.parent.now c.new-sets.result c.new-sets.ensures

pub banks_of-own-requires-clause-map : goal.banks_of-own-requires-clause-map
banks_of-own-requires-clause-map c = c.requires.map

pub banks_of-own-requires-clause-bank : goal.banks_of-own-requires-clause-bank
banks_of-own-requires-clause-bank c = subst (λ (n : ℕ). c.loop-bank.bank < n) c.view_banks-count.ensures c.loop-bank-test.true

pub all_behind-reached-requires : goal.all_behind-reached-requires
all_behind-reached-requires c = subst (λ (n : ℕ). n ≤ 64) (sym c.requires.many) c.requires.map.parent.few_banks

pub loop-bank-preserved : goal.loop-bank-preserved
loop-bank-preserved c = rw (add-one c.loop-bank.bank)
    (more_behind c.args.view.now c.args.parent.now c.loop-bank.sets c.push_set.new.sets c.loop-bank.bank c.banks_of-own.result c.all_behind-reached.result c.in_ok-push_set.ensures
    (reached_in c.args.view.now c.loop-bank.bank c.banks_of-own.result c.requires.map (subst (λ (n : ℕ). c.loop-bank.bank < n) c.view_banks-count.ensures c.loop-bank-test.true) c.banks_of-own.ensures) c.requires.many c.all_behind-reached.ensures c.loop-bank.invariant)

pub returns : goal.returns
returns c =
    let end : c.loop-bank.bank ≡ c.view_banks-count.result = let l = c.loop-bank-test.false in let e = c.loop-bank.auto.bank-end in omega (arith, l, e) in
    subst (λ (n : ℕ). SetsBehind c.args.view.now c.args.parent.now n c.loop-bank.sets) (end ∙ c.view_banks-count.ensures) c.loop-bank.invariant
