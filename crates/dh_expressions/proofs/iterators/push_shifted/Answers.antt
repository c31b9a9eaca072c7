use Rattle.std.proofs.Common.{◌≡◌, ℕ, inl, inr, false, refl, subst}
use Rattle.std.proofs.lemmas.Result.{IfOk-weaker}
use Rattle.dh_value.specs.declared.kinds.Kind.TheVariants.{Unsigned}
use Rattle.dh_value.specs.Words.{IsKind, with_bits}
use Rattle.dh_meaning.specs.Effects.{bits_of}
use Rattle.dh_expressions.proofs.Multiplying.{amount_word, shifted_by, shifted_none}
use Rattle.dh_expressions.proofs.iterators.push_shifted.Goals as goal

pub returns-then-by-eq0-clause-means : goal.returns-then-by-eq0-clause-means
returns-then-by-eq0-clause-means c = λ few. shifted_none c.args.draft.now c.args.value c.args.by c.if-by-eq0.true

pub returns-clause-means : goal.returns-clause-means
returns-clause-means c = IfOk-weaker c.push_compute.result _ _ (λ n p few.
    shifted_by c.args.draft.now c.push_constant.new.draft c.push_compute.new.draft c.args.value c.in_ok-amount.amount n c.args.by c.literal.result
    (amount_word c.literal.result c.args.by c.from.result c.from.ensures few c.literal.ensures) c.in_ok-amount.ensures.means p) c.push_compute.ensures.means

pub returns-then-by-eq0-clause-made : goal.returns-then-by-eq0-clause-made
returns-then-by-eq0-clause-made c = inl (refl, refl)

pub returns-clause-made : goal.returns-clause-made
returns-clause-made c = IfOk-weaker c.push_compute.result _ _ (λ n p. inr (record {
  middle = c.push_constant.new.draft;
  amount = c.in_ok-amount.amount;
  constant = record {
    word = c.literal.result;
    is = subst (λ (m : ℕ). IsKind (Unsigned 6) → c.literal.result ≡ with_bits (Unsigned 6) (bits_of (Unsigned 6) false m)) c.from.ensures c.literal.ensures;
    pushes = c.in_ok-amount.ensures.made;
  };
  pushes = p;
})) c.push_compute.ensures.made
