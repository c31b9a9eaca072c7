-- When a program is ready to be run: it is the program of a text, its forms are built, and it breaks no
-- rule and exceeds no limit but perhaps those on ports.
use Rattle.std.specs.Prelude.{◌≡◌, ℕ, [], None}
use Rattle.dh_tree.specs.Breaches.{KeepsNames}
use Rattle.dh_tree.specs.Excesses.{first_excess}
use Rattle.dh_tree.specs.Indices.{index_breaches_of}
use Rattle.dh_tree.specs.KindBreaches.{KeepsKinds}
use Rattle.dh_tree.specs.Kinds.{HasKinds}
use Rattle.dh_tree.specs.Placements.{placement_breaches}
use Rattle.dh_tree.specs.PlainTrees.{Program}
use Rattle.dh_tree.specs.Resolved.{HasEntities}
use Rattle.dh_tree.specs.Forms.{unbuilt_forms}
use Rattle.dh_tree.specs.ViewBreaches.{view_breaches_of}
use Rattle.dh_tree.specs.Written.{IsOfText}

-- the most tokens of a text within the limit on its bytes
abbrev pub most_tokens : ℕ
most_tokens = 1048577

pub record IsReady (p : Program) : Type 0 where
  pub of_text : IsOfText most_tokens p
  pub built : unbuilt_forms p ≡ []
  pub names : KeepsNames p
  pub entities : HasEntities p
  pub kinds : HasKinds p
  pub suits : KeepsKinds p
  pub indices : index_breaches_of p ≡ []
  pub views : view_breaches_of p ≡ []
  pub limits : first_excess p ≡ None
  pub placements : placement_breaches p ≡ []

-- so it is where the program of a text has no such form either, and keeps the rules on names, shapes, indices and
-- places and the limits on memories
abbrev pub IfKeepsMemories : (tokens : ℕ) → Program → Type 0 → Type 0
IfKeepsMemories tokens p fact =
    IsOfText tokens p → KeepsNames p → unbuilt_forms p ≡ [] → index_breaches_of p ≡ []
    → first_excess p ≡ None → placement_breaches p ≡ [] → fact
