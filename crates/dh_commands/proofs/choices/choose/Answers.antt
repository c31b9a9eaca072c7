use Rattle.std.specs.Prelude.{Option}
use Rattle.std.proofs.Common.{Some, None, length, get_or, ap, sym, ◌∙◌, subst, suc, add-one, ℕ, ◌≡◌, arith}
use Rattle.std.proofs.lemmas.Option.{slice_get-get_or, slice_get_past}
use Rattle.dh_expressions.specs.declared.drafts.Draft.{Draft}
use Rattle.dh_commands.specs.declared.assignments.Values.{Values}
use Rattle.dh_commands.specs.declared.choices.Choice.{Choice}
use Rattle.dh_commands.specs.Choosing.{Chooses}
use Rattle.dh_commands.proofs.ChosenAll.{chooses_more, chooses_skip, past_by, within_by}
use Rattle.dh_commands.specs.MadeCommands.{MadeChoice, MadeChoiceBy, MadeChoices}
use Rattle.dh_commands.proofs.choices.choose.Goals as goal
use Rattle.dh_commands.proofs.choices.choose.Goals.{in-Some+in_ok-choose_one, in_default}

abbrev nothing : Choice
nothing = record { register = 0; path = 0; chosen = None; other = None }

pub loop-choice-preserved : goal.loop-choice-preserved
loop-choice-preserved c =
    rw (add-one c.loop-choice.choice-index)
    (elim c.match-get.branch [
      | in-Some+in_ok-choose_one w ↦
          let look = w.in-Some.ensures.lookup in
          record {
            means =
                subst (λ (d : Draft). Chooses c.args.draft.now d c.args.values.now c.match-get.values c.args.tests.now c.args.choices.now (suc c.loop-choice.choice-index)) (sym w.draft-is)
                (subst (λ (v : Values). Chooses c.args.draft.now w.choose_one.new.draft c.args.values.now v c.args.tests.now c.args.choices.now (suc c.loop-choice.choice-index)) (sym w.values-is)
                (chooses_more c.args.tests.now c.args.choices.now c.args.draft.now c.loop-choice.draft c.args.values.now c.loop-choice.values c.loop-choice.choice-index (get_or c.args.choices.now c.loop-choice.choice-index nothing)
                (slice_get-get_or c.args.choices.now c.loop-choice.choice-index nothing c.loop-choice-test.true) c.loop-choice.invariant.means w.choose_one.new.draft w.choose_one.new.values w.in-Some.test.now
                (slice_get-get_or c.args.tests.now (get_or c.args.choices.now c.loop-choice.choice-index nothing).path w.in-Some.test.now (within_by (get_or c.args.choices.now c.loop-choice.choice-index nothing).path (length c.args.tests.now) look.0) ∙ ap Some (sym look.1)) w.in_ok-choose_one.ensures.means));
            made = (
              c.loop-choice.draft,
              (
                c.loop-choice.values,
                (
                  (get_or c.args.choices.now c.loop-choice.choice-index nothing),
                  (
                    c.loop-choice.invariant.made,
                    (
                      slice_get-get_or c.args.choices.now c.loop-choice.choice-index nothing c.loop-choice-test.true,
                      subst (λ (o : Option ℕ). MadeChoiceBy o (get_or c.args.choices.now c.loop-choice.choice-index nothing) c.loop-choice.draft c.match-get.draft c.loop-choice.values c.match-get.values) (sym (slice_get-get_or c.args.tests.now (get_or c.args.choices.now c.loop-choice.choice-index nothing).path w.in-Some.test.now (within_by (get_or c.args.choices.now c.loop-choice.choice-index nothing).path (length c.args.tests.now) look.0) ∙ ap Some (sym look.1)))
                          (subst (λ (d : Draft). MadeChoice w.in-Some.test.now (get_or c.args.choices.now c.loop-choice.choice-index nothing) c.loop-choice.draft d c.loop-choice.values c.match-get.values) (sym w.draft-is)
                          (subst (λ (v : Values). MadeChoice w.in-Some.test.now (get_or c.args.choices.now c.loop-choice.choice-index nothing) c.loop-choice.draft w.choose_one.new.draft c.loop-choice.values v) (sym w.values-is) w.in_ok-choose_one.ensures.made)),
                    ),
                  ),
                ),
              ),
            );
          }
      | in_default w ↦
          let look = w.in_default.ensures.lookup in
          record {
            means =
                subst (λ (d : Draft). Chooses c.args.draft.now d c.args.values.now c.match-get.values c.args.tests.now c.args.choices.now (suc c.loop-choice.choice-index)) (sym w.draft-is)
                (subst (λ (v : Values). Chooses c.args.draft.now c.loop-choice.draft c.args.values.now v c.args.tests.now c.args.choices.now (suc c.loop-choice.choice-index)) (sym w.values-is)
                (chooses_skip c.args.tests.now c.args.choices.now c.args.draft.now c.loop-choice.draft c.args.values.now c.loop-choice.values c.loop-choice.choice-index (get_or c.args.choices.now c.loop-choice.choice-index nothing)
                (slice_get-get_or c.args.choices.now c.loop-choice.choice-index nothing c.loop-choice-test.true) c.loop-choice.invariant.means (past_by (get_or c.args.choices.now c.loop-choice.choice-index nothing).path (length c.args.tests.now) look.0)));
            made = (
              c.loop-choice.draft,
              (
                c.loop-choice.values,
                (
                  (get_or c.args.choices.now c.loop-choice.choice-index nothing),
                  (
                    c.loop-choice.invariant.made,
                    (
                      slice_get-get_or c.args.choices.now c.loop-choice.choice-index nothing c.loop-choice-test.true,
                      subst (λ (o : Option ℕ). MadeChoiceBy o (get_or c.args.choices.now c.loop-choice.choice-index nothing) c.loop-choice.draft c.match-get.draft c.loop-choice.values c.match-get.values)
                          (sym (slice_get_past c.args.tests.now (get_or c.args.choices.now c.loop-choice.choice-index nothing).path (past_by (get_or c.args.choices.now c.loop-choice.choice-index nothing).path (length c.args.tests.now) look.0))) (w.draft-is, w.values-is),
                    ),
                  ),
                ),
              ),
            );
          }
    ])

pub returns-clause-made : goal.returns-clause-made
returns-clause-made c =
    let end : c.loop-choice.choice-index ≡ length c.args.choices.now = let l = c.loop-choice-test.false in let e = c.loop-choice.auto.choice-index-end in omega (arith, l, e) in
    subst (λ (n : ℕ). MadeChoices c.args.tests.now c.args.choices.now n c.args.draft.now c.loop-choice.draft c.args.values.now c.loop-choice.values) end c.loop-choice.invariant.made
