-- What the operations of a reducer give: its variable as an operand, its value as the other, both put together, and
-- the whole in the variable's kind.
use Rattle.std.proofs.Common.{◌≡◌, ℕ, Bool, List, ap, ◌∙◌}
use Rattle.std.specs.Prelude.{Option}
use Rattle.dh_value.specs.declared.kinds.Kind.{Kind}
use Rattle.dh_value.specs.declared.operators.Op.{Op}
use Rattle.dh_value.specs.declared.words.Word.{Word}
use Rattle.dh_value.specs.Operations.{binary_of}
use Rattle.dh_tree.specs.PlainTrees as plain
use Rattle.dh_meaning.specs.Bindings.{kind_found}
use Rattle.dh_code.specs.declared.places.VariableSlots.{VariableSlots}
use Rattle.dh_code.specs.Extended.{extension_of}
use Rattle.dh_tree.specs.Kinds.{same_kind}
use Rattle.dh_code.specs.Slots.{held_at}
use Rattle.dh_expressions.specs.declared.drafts.Draft.{Draft}
use Rattle.dh_expressions.specs.declared.scenes.Lane.{Lane}
use Rattle.dh_expressions.specs.declared.scenes.Scene.{Scene}
use Rattle.dh_expressions.specs.Drafted.{Computes, Gives, BlockStep, word_shown}
use Rattle.dh_expressions.specs.Shown.{extended_shown, register_at, variable_shown}
use Rattle.dh_expressions.proofs.Pushing.{begun_later, extends_again, fits_before, gives_both, gives_same}
use Rattle.dh_commands.specs.Followed.{in_own_kind, old_extended}
use Rattle.dh_commands.specs.Setting.{GivesReduced}

-- a value made of another one, by operations or by none
pub gives_then : (a b c : Draft) (u v : ℕ) (first : BlockStep → Word) (make : Word → Word) → Gives a b u first → Gives b c v (λ x. make (word_shown x u)) → Gives a c v (λ x. make (first x))
gives_then a b c u v first make g h = record {
  extends = extends_again a b c g.extends h.extends;
  is = λ x f s. h.is x f (begun_later a b x g.extends s) ∙ ap make (g.is x (fits_before b c x h.extends f) s);
  quiet = λ x f s. h.quiet x f (begun_later a b x g.extends s) ∙ g.quiet x (fits_before b c x h.extends f) s;
}

pub reduced_made : (scene : Scene) (lane : Lane) (current : List (Option ℕ)) (d0 d1 d2 d3 d4 d5 : Draft) (old left right all made own entity : ℕ) (op : Op) (t : plain.Term) (h : VariableSlots) (register : ℕ) (to : Kind) (same : Bool)
    → h ≡ held_at scene.held.now entity → register ≡ register_at h lane → to ≡ extension_of op h.kind (kind_found t) → same ≡ same_kind h.kind to
    → Gives d0 d1 old (λ x. variable_shown x current register) → Gives d1 d2 left (λ x. old_extended h.kind to (word_shown x old)) → Gives d2 d3 right (λ x. extended_shown t to (word_shown x own))
    → Computes d3 d4 all (λ x. binary_of op (word_shown x left) (word_shown x right)) → Gives d4 d5 made (λ x. in_own_kind same h.kind (word_shown x all))
    → GivesReduced scene lane current d0 d5 own made entity op t
reduced_made scene lane current d0 d1 d2 d3 d4 d5 old left right all made own entity op t h register to same held_is register_is to_is same_is first one other both last =
    gives_same d0 d5 made (λ x. whole x h register to same) _ told_so
    (gives_then d0 d4 d5 all made (λ x. binary_of op (old_extended h.kind to (variable_shown x current register)) (extended_shown t to (word_shown x own))) (λ w. in_own_kind same h.kind w)
    (gives_both d0 d2 d3 d4 left right all (λ x. old_extended h.kind to (variable_shown x current register)) (λ x. extended_shown t to (word_shown x own)) (λ u w. binary_of op u w)
    (gives_then d0 d1 d2 old left (λ x. variable_shown x current register) (λ w. old_extended h.kind to w) first one) other both)
    last)
  where
    whole : BlockStep → VariableSlots → ℕ → Kind → Bool → Word
    whole x i r k s = in_own_kind s i.kind (binary_of op (old_extended i.kind k (variable_shown x current r)) (extended_shown t k (word_shown x own)))

    told_so : (x : BlockStep) → whole x h register to same
        ≡ whole x (held_at scene.held.now entity) (register_at (held_at scene.held.now entity) lane) (extension_of op (held_at scene.held.now entity).kind (kind_found t)) (same_kind (held_at scene.held.now entity).kind (extension_of op (held_at scene.held.now entity).kind (kind_found t)))
    told_so x =
        ap (λ (s : Bool). whole x h register to s) same_is
        ∙ (ap (λ (k : Kind). whole x h register k (same_kind h.kind k)) to_is
        ∙ (ap (λ (r : ℕ). whole x h r (extension_of op h.kind (kind_found t)) (same_kind h.kind (extension_of op h.kind (kind_found t)))) register_is
        ∙ ap (λ (i : VariableSlots). whole x i (register_at i lane) (extension_of op i.kind (kind_found t)) (same_kind i.kind (extension_of op i.kind (kind_found t)))) held_is))
