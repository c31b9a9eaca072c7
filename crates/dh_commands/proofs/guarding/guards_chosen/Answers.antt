use Rattle.std.proofs.Common.{ℕ, suc, List, get_or, true, subst, sym, add-one, ◌≡◌, refl, length, arith}
use Rattle.std.specs.Prelude.{Option}
use Rattle.std.proofs.lemmas.Option.{slice_get-get_or}
use Rattle.dh_value.specs.Operations.{is_true}
use Rattle.dh_expressions.specs.Drafted.{word_shown}
use Rattle.dh_commands.specs.Choosing.{MakesGuard, MakesGuards}
use Rattle.dh_commands.proofs.ArmGuards.{guards_more}
use Rattle.dh_commands.specs.MadeCommands.{MadeArmGuards, MadeGuard}
use Rattle.dh_commands.proofs.guarding.guards_chosen.Goals as goal

pub loop-i-preserved : goal.loop-i-preserved
loop-i-preserved c =
    rw (add-one c.loop-i.i)
    (record {
      means =
          subst (λ (arm : List (Option ℕ)). MakesGuards c.args.draft.now c.push_both.new.draft c.args.guards.now c.args.tests.now true (suc c.loop-i.i) arm) (sym c.in_ok-push.ensures.items)
          (guards_more c.args.guards.now c.args.tests.now true c.args.draft.now c.loop-i.draft c.push_both.new.draft c.loop-i.i (get_or c.args.tests.now c.loop-i.i 0) c.in_ok-made.made c.loop-i.all.items
          (slice_get-get_or c.args.tests.now c.loop-i.i 0 c.loop-i-test.true) c.loop-i.invariant.means
          (subst (λ (g : Option ℕ). MakesGuard c.loop-i.draft c.push_both.new.draft g (λ x. is_true (word_shown x (get_or c.args.tests.now c.loop-i.i 0))) c.in_ok-made.made) c.guard_at-guard.ensures c.in_ok-made.ensures.means));
      made = (
        c.loop-i.draft,
        (
          c.loop-i.all.items,
          (
            get_or c.args.tests.now c.loop-i.i 0,
            (
              c.in_ok-made.made,
              (
                c.loop-i.invariant.made,
                (
                  slice_get-get_or c.args.tests.now c.loop-i.i 0 c.loop-i-test.true,
                  (record { middle = c.loop-i.draft; outcome = (get_or c.args.tests.now c.loop-i.i 0); comes_out = (refl, refl); joins = subst (λ (g : Option ℕ). MadeGuard g (get_or c.args.tests.now c.loop-i.i 0) c.loop-i.draft c.push_both.new.draft c.in_ok-made.made) c.guard_at-guard.ensures c.in_ok-made.ensures.made }, c.in_ok-push.ensures.items),
                ),
              ),
            ),
          ),
        ),
      );
    })

pub returns-clause-made : goal.returns-clause-made
returns-clause-made c =
    let end : c.loop-i.i ≡ length c.args.tests.now = let l = c.loop-i-test.false in let e = c.loop-i.auto.i-end in omega (arith, l, e) in
    subst (λ (n : ℕ). MadeArmGuards true c.args.guards.now c.args.tests.now n c.args.draft.now c.loop-i.draft c.loop-i.all.items) end c.loop-i.invariant.made
