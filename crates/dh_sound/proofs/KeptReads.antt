-- What is known of earlier reads stays known behind a view that keeps its offsets: what they lead through is kept
-- below.
use Rattle.std.proofs.Common.{ℕ, ◌≤◌, Bool, List, [], ◌∷◌, ◌++◌, length, sym, ◌∙◌, subst}
use Rattle.dh_tree.specs.PlainTrees.{Program}
use Rattle.dh_meaning.specs.CoreOf.{known_of}
use Rattle.dh_meaning.specs.Effects.{Begun, Event, Variables, read_made}
use Rattle.dh_meaning.specs.Paths.{Path}
use Rattle.dh_meaning.specs.Sites.{Around}
use Rattle.dh_meets.specs.SourceEvents.{SourceAccess, SourceEvent, accesses, assigned}
use Rattle.dh_sound.proofs.KnownReads.{Knows, reach_at}
use Rattle.dh_carried.proofs.Pigeons.{Has}
use Rattle.dh_sound.proofs.SourceValues.{spot_alike}
use Rattle.dh_sound.proofs.ValuesBelow.{AgreeBelow, spot_behind}
use Rattle.dh_sound.specs.BehindViews.{AccessBehind}
use Rattle.dh_sound.specs.Trails.{EachAccess, count}

-- one of them, where they are cut
pub each_at : (P : SourceAccess → Type 0) (pre : List SourceEvent) (a : SourceAccess) (between : List SourceEvent) → EachAccess P (pre ++ accesses a ∷ between) → P a
each_at P [] a between h = h.0
each_at P (accesses x ∷ pre) a between h = each_at P pre a between h.1
each_at P (assigned x ∷ pre) a between h = each_at P pre a between h

module _ (p : Program) (b : Begun) (path : Path) (in_block : ℕ → Bool) where
  pub knows_kept : (r : Around) (before : List SourceEvent) (v w : Variables) (es : List Event) (x : ℕ) → length p.entities ≤ x → AgreeBelow x v w
      → EachAccess (λ a. AccessBehind p x a) before → Knows b (known_of p) path in_block r before v es → Knows b (known_of p) path in_block r before w es
  knows_kept r before v w es x own agree behind k pre between a e cut writes i arms same alike n m =
      let h : AccessBehind p x a = each_at (λ c. AccessBehind p x c) pre a between (subst (λ (l : List SourceEvent). EachAccess (λ c. AccessBehind p x c) l) cut behind) in
      subst (λ (z : _). Has (read_made (reach_at b (known_of p) path in_block (count pre) a) path z) es)
      (sym (spot_alike b (known_of p) v path a.entity a.entity a.element e same alike)
      ∙ (spot_behind p b x v w path agree own a.entity a.element h.0 h.1 ∙ spot_alike b (known_of p) w path a.entity a.entity a.element e same alike))
      (k pre between a e cut writes i arms same alike n m)
