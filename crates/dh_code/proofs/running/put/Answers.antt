use Rattle.std.proofs.Common.{ap, sym, subst, ◌∙◌, length, List, [], ◌∷◌, ◌++◌}
use Rattle.std.specs.Prelude.{slice_index_or}
use Rattle.std.specs.List.{AllByRecursion}
use Rattle.std.proofs.lemmas.List.{with_items_is}
use Rattle.dh_value.specs.declared.words.Word.{Word}
use Rattle.dh_value.specs.Words.{value_of, word_of}
use Rattle.dh_meaning.specs.Effects.{kept_bits, writes}
use Rattle.dh_code.specs.declared.spending.Bank.{Bank}
use Rattle.dh_code.specs.Rows.{spot_seen}
use Rattle.dh_code.specs.declared.running.Write.{Write}
use Rattle.dh_code.specs.Spent.{AreUsedBy, HaveSpent}
use Rattle.dh_code.specs.States.{IsSmallWrite}
use Rattle.dh_code.proofs.MadeParts.{all_append}
use Rattle.dh_code.proofs.SmallWrites.{small_write}
use Rattle.dh_code.proofs.Entries.{kind_is}
use Rattle.dh_code.proofs.running.put.Goals as goal

pub returns-clause-puts : goal.returns-clause-puts
returns-clause-puts c = λ es h. (
  subst (λ (l : List Bank). HaveSpent c.args.scene.now.entries.now (es ++ writes 0 c.args.place [] (spot_seen c.args.element) (kept_bits c.args.scene.now.entries.now c.args.element.memory c.args.value) ∷ []) c.args.scene.now.step l)
      (sym (with_items_is c.args.state.now.banks c.claim.new.banks (c.claim.ensures.long ∙ c.as_mut_slice.ensures.len)))
      (c.in_ok-claim.ensures.spends es (kept_bits c.args.scene.now.entries.now c.args.element.memory c.args.value) (subst (λ (l : List Bank). HaveSpent c.args.scene.now.entries.now es c.args.scene.now.step l) (sym c.as_mut_slice.ensures.value) h)),
  c.in_ok-push.ensures.items
      ∙ ap (λ (w : Word). c.args.state.now.writes.items ++ record { memory = c.args.element.memory; position = c.args.element.position; bits = w.bits } ∷ [])
      (c.cast-bits.ensures ∙ ap (λ k. word_of k (value_of c.args.value)) (sym (kind_is c.args.scene.now.entries.now c.args.element.memory c.index-scene-element.result c.requires.there.0))),
)

pub returns-clause-ready : goal.returns-clause-ready
returns-clause-ready c = record {
  long = ap (λ l. length l) (with_items_is c.args.state.now.banks c.claim.new.banks (c.claim.ensures.long ∙ c.as_mut_slice.ensures.len)) ∙ (c.claim.ensures.long ∙ (ap (λ l. length l) c.as_mut_slice.ensures.value ∙ c.requires.ready.long));
  room = c.requires.ready.room;
  used = subst (λ (l : List Bank). AreUsedBy c.args.scene.now.step l) (sym (with_items_is c.args.state.now.banks c.claim.new.banks (c.claim.ensures.long ∙ c.as_mut_slice.ensures.len)))
      (c.claim.ensures.used (subst (λ (l : List Bank). AreUsedBy c.args.scene.now.step l) (sym c.as_mut_slice.ensures.value) c.requires.ready.used));
  small = subst (λ (l : List Write). AllByRecursion (IsSmallWrite c.args.scene.now.entries.now) l) (sym c.in_ok-push.ensures.items)
      (all_append (IsSmallWrite c.args.scene.now.entries.now) c.args.state.now.writes.items _ c.requires.ready.small (
        small_write c.args.scene.now.entries.now c.args.element.memory c.args.element.position (slice_index_or c.args.scene.now.entries.now c.args.element.memory c.index-scene-element.result).shape.kind (value_of c.args.value) c.cast-bits.result c.cast-bits.ensures
            (kind_is c.args.scene.now.entries.now c.args.element.memory c.index-scene-element.result c.requires.there.0),
        tt,
      ));
}
