-- In a ready program an access of a row names its memory directly: what goes through views has indices.
use Rattle.std.proofs.Common.{◌≡◌, ℕ, Option, Some, None, refl, subst}
use Rattle.dh_tree.specs.PlainTrees.{Term, Program}
use Rattle.dh_tree.specs.Ready.{IsReady}
use Rattle.dh_meaning.specs.Ways.{Way, way_to}
use Rattle.dh_meets.specs.SourceEvents.{Element, SourceAccess, in_row}
use Rattle.dh_sound.specs.IndexValues.{IsByIndices}
use Rattle.dh_sound.specs.ToldEvents.{access_at}
use Rattle.dh_sound.proofs.IndicesThrough.{keeps_through}

pub ready_direct : (p : Program) → IsReady p → (number : ℕ) (a : SourceAccess) → access_at p number ≡ Some a → (bank : ℕ) (row : Term) → a.element ≡ in_row bank row → way_to p a.entity ≡ None
ready_direct p r number a at bank row e = by (way_to p a.entity) refl
  where
    by : (o : Option Way) → way_to p a.entity ≡ o → o ≡ None
    by None f = refl
    by (Some w) f = absurd (subst (λ (x : Element). IsByIndices x) e (keeps_through p r.indices r.views number a at w f).indices)
