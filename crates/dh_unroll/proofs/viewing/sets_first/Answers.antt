use Rattle.std.proofs.Common.{◌≡◌, ◌<◌, ℕ, [], ◌∷◌, add-one, subst, ◌∙◌, arith}
use Rattle.dh_meaning.specs.Ways.{step_of}
use Rattle.dh_unroll.specs.ViewsListed.{SetsAlone}
use Rattle.dh_unroll.proofs.ReachedSets.{alone_reached, no_sets, reached_in, sets_more}
use Rattle.dh_unroll.proofs.viewing.sets_first.Goals as goal

pub view_banks-count-requires : goal.view_banks-count-requires
view_banks-count-requires c = c.requires

pub loop-bank-init : goal.loop-bank-init
loop-bank-init c = no_sets (step_of c.args.view.now ∷ []) c.new-sets.result c.new-sets.ensures

pub banks_of-reached-requires-clause-map : goal.banks_of-reached-requires-clause-map
banks_of-reached-requires-clause-map c = c.requires

pub banks_of-reached-requires-clause-bank : goal.banks_of-reached-requires-clause-bank
banks_of-reached-requires-clause-bank c = subst (λ (n : ℕ). c.loop-bank.bank < n) c.view_banks-count.ensures c.loop-bank-test.true

pub loop-bank-preserved : goal.loop-bank-preserved
loop-bank-preserved c = rw (add-one c.loop-bank.bank)
    (sets_more (step_of c.args.view.now ∷ []) c.loop-bank.bank c.loop-bank.sets c.push_set.new.sets c.banks_of-reached.result c.in_ok-push_set.ensures
    (alone_reached c.args.view.now c.loop-bank.bank c.banks_of-reached.result
    (reached_in c.args.view.now c.loop-bank.bank c.banks_of-reached.result c.requires (subst (λ (n : ℕ). c.loop-bank.bank < n) c.view_banks-count.ensures c.loop-bank-test.true) c.banks_of-reached.ensures)) c.loop-bank.invariant)

pub returns : goal.returns
returns c =
    let end : c.loop-bank.bank ≡ c.view_banks-count.result = let l = c.loop-bank-test.false in let e = c.loop-bank.auto.bank-end in omega (arith, l, e) in
    subst (λ (n : ℕ). SetsAlone c.args.view.now n c.loop-bank.sets) (end ∙ c.view_banks-count.ensures) c.loop-bank.invariant
