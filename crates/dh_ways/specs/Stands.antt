-- The views of a program where they are declared: inside so many unrolled loops, which have so many copies together. And
-- the variables that keep their offsets, as code keeps them.
use Rattle.std.specs.Prelude.{◌≡◌, ℕ, suc, ◌+◌, ◌*◌, nat_lt, if◌then◌else◌, List, [], ◌∷◌, ◌++◌, length, map, Result, OnOk, Vec}
use Rattle.std.specs.Global.{Global}
use Rattle.dh_tree.specs.declared.trees.expressions.Ref.{Ref}
use Rattle.dh_tree.specs.PlainTrees.{Term, ViewPlan, Action, action, ActionForm, lets, lets_memory, views, assigns, stores, reduces, calls, blocks, decides, repeats, counts, MaybeAction, no_action, one_action, Actions, no_actions, action_then, Groups, no_groups, group_then, Program}
use Rattle.dh_tree.specs.Seen.{view_plan}
use Rattle.dh_tree.specs.ViewOffsets.{offsets_of}
use Rattle.dh_meaning.specs.Bindings.{depth_inside, kind_found}
use Rattle.dh_meaning.specs.Ways.{ViewSite}
use Rattle.dh_ways.specs.declared.standing.Stood.{Stood}
use Rattle.dh_ways.specs.declared.ways.Hidden.{Hidden}

pub record Stand : Type 0 where
  pub name : Ref
  pub parent : Ref
  pub form : ViewPlan
  pub depth : ℕ
  pub copies : ℕ

-- the copies inside a loop of a factor
abbrev pub copies_inside : (copies factor : ℕ) → ℕ
copies_inside copies factor = if nat_lt 1 factor then copies * factor else copies

abbrev mutual
  pub stands : (depth copies : ℕ) → Action → List Stand
  stands depth copies (action id place form) = form_stands depth copies form

  pub form_stands : (depth copies : ℕ) → ActionForm → List Stand
  form_stands depth copies (views name parent form) = record { name = name; parent = parent; form = form; depth = depth; copies = copies } ∷ []
  form_stands depth copies (lets name declared value) = []
  form_stands depth copies (lets_memory name shape shape_places value) = []
  form_stands depth copies (assigns target value) = []
  form_stands depth copies (stores target value) = []
  form_stands depth copies (reduces target op value) = []
  form_stands depth copies (calls function arguments) = []
  form_stands depth copies (blocks body) = groups_stands depth copies body
  form_stands depth copies (decides test chosen other) = stands depth copies chosen ++ other_stands depth copies other
  form_stands depth copies (repeats test body) = stands depth copies body
  form_stands depth copies (counts iterator declared low high factor body combine combine_place) =
      stands (depth_inside depth factor.value) (copies_inside copies factor.value) body ++ other_stands (depth_inside depth factor.value) (copies_inside copies factor.value) combine

  pub other_stands : (depth copies : ℕ) → MaybeAction → List Stand
  other_stands depth copies no_action = []
  other_stands depth copies (one_action a) = stands depth copies a

  pub groups_stands : (depth copies : ℕ) → Groups → List Stand
  groups_stands depth copies no_groups = []
  groups_stands depth copies (group_then part rest) = part_stands depth copies part ++ groups_stands depth copies rest

  pub part_stands : (depth copies : ℕ) → Actions → List Stand
  part_stands depth copies no_actions = []
  part_stands depth copies (action_then a rest) = stands depth copies a ++ part_stands depth copies rest

abbrev pub view_site_of : Stand → ViewSite
view_site_of s = record { name = s.name; parent = s.parent; form = s.form; depth = s.depth }

-- What the code finds.

abbrev pub stand_seen : Stood → Stand
stand_seen s = record { name = s.name.now; parent = s.parent.now; form = view_plan s.form.now; depth = s.depth; copies = s.copies }

abbrev pub standing_seen : Stood → ViewSite
standing_seen s = view_site_of (stand_seen s)

-- these views are found behind those that were found before, where no memory was refused
abbrev pub FindsStanding : {E : Type 0} → Result (Unit {0}) E → (old new : Vec Stood Global) → List Stand → Type 0
FindsStanding result old new more = OnOk result (map stand_seen new.items ≡ map stand_seen old.items ++ more)

-- Hidden variables, the first of which is this entity.

abbrev pub hidden_at : (first depth copies : ℕ) → List Term → List Hidden
hidden_at first depth copies [] = []
hidden_at first depth copies (t ∷ ts) = record { entity = first; kind = kind_found t; depth = depth; copies = copies } ∷ hidden_at (suc first) depth copies ts

abbrev pub own_of : (first : ℕ) → Stand → List Hidden
own_of first s = hidden_at first s.depth s.copies (offsets_of s.form)

abbrev pub all_own : (first : ℕ) → List Stand → List Hidden
all_own first [] = []
all_own first (s ∷ ss) = own_of first s ++ all_own (first + length (offsets_of s.form)) ss

-- those of a program
abbrev pub hidden_of_program : Program → List Hidden
hidden_of_program p = all_own (length p.entities) (stands 0 1 p.body)
