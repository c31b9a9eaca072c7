-- The views of a program as a walk finds them whose numbers stay at their greatest; where those of the program are below
-- that, these are the program's own.
use Rattle.std.specs.Prelude.{◌≡◌, ℕ, ◌+◌, ◌*◌, ◌-◌, ◌^◌, ◌<◌, min, nat_lt, if◌then◌else◌, List, [], ◌∷◌, ◌++◌, None}
use Rattle.std.specs.List.{AllByRecursion}
use Rattle.dh_tree.specs.Excesses.{first_excess}
use Rattle.dh_tree.specs.Indices.{index_breaches_of}
use Rattle.dh_tree.specs.PlainTrees.{Action, action, ActionForm, lets, lets_memory, views, assigns, stores, reduces, calls, blocks, decides, repeats, counts, MaybeAction, no_action, one_action, Actions, no_actions, action_then, Groups, no_groups, group_then, Program}
use Rattle.dh_meaning.specs.Ways.{all_entities_of}
use Rattle.dh_ways.specs.Stands.{Stand, stands}

abbrev pub depth_cut : (depth factor : ℕ) → ℕ
depth_cut depth factor = if nat_lt 1 factor then min (depth + 1) (2 ^ 32 - 1) else depth

abbrev pub copies_cut : (copies factor : ℕ) → ℕ
copies_cut copies factor = if nat_lt 1 factor then min (copies * factor) (2 ^ 64 - 1) else copies

abbrev mutual
  pub cut_stands : (depth copies : ℕ) → Action → List Stand
  cut_stands depth copies (action id place form) = form_cut_stands depth copies form

  pub form_cut_stands : (depth copies : ℕ) → ActionForm → List Stand
  form_cut_stands depth copies (views name parent form) = record { name = name; parent = parent; form = form; depth = depth; copies = copies } ∷ []
  form_cut_stands depth copies (lets name declared value) = []
  form_cut_stands depth copies (lets_memory name shape shape_places value) = []
  form_cut_stands depth copies (assigns target value) = []
  form_cut_stands depth copies (stores target value) = []
  form_cut_stands depth copies (reduces target op value) = []
  form_cut_stands depth copies (calls function arguments) = []
  form_cut_stands depth copies (blocks body) = groups_cut_stands depth copies body
  form_cut_stands depth copies (decides test chosen other) = cut_stands depth copies chosen ++ other_cut_stands depth copies other
  form_cut_stands depth copies (repeats test body) = cut_stands depth copies body
  form_cut_stands depth copies (counts iterator declared low high factor body combine combine_place) =
      cut_stands (depth_cut depth factor.value) (copies_cut copies factor.value) body ++ other_cut_stands (depth_cut depth factor.value) (copies_cut copies factor.value) combine

  pub other_cut_stands : (depth copies : ℕ) → MaybeAction → List Stand
  other_cut_stands depth copies no_action = []
  other_cut_stands depth copies (one_action a) = cut_stands depth copies a

  pub groups_cut_stands : (depth copies : ℕ) → Groups → List Stand
  groups_cut_stands depth copies no_groups = []
  groups_cut_stands depth copies (group_then part rest) = part_cut_stands depth copies part ++ groups_cut_stands depth copies rest

  pub part_cut_stands : (depth copies : ℕ) → Actions → List Stand
  part_cut_stands depth copies no_actions = []
  part_cut_stands depth copies (action_then a rest) = cut_stands depth copies a ++ part_cut_stands depth copies rest

-- the loops round a view, and their copies, are below the greatest numbers
pub record IsFewRound (s : Stand) : Type 0 where
  pub deep : s.depth < 2 ^ 32 - 1
  pub many : s.copies < 2 ^ 64 - 1

-- all numbers of a program's ways have room
pub record HasFewWays (p : Program) : Type 0 where
  pub entities : all_entities_of p < 2 ^ 32
  pub round : AllByRecursion IsFewRound (stands 0 1 p.body)

-- where no loop has too many copies inside it, and factors of loops keep the rules, the numbers of the loops round each view
-- have room
abbrev pub LoopsRoundViewsAreFew : Type 0
LoopsRoundViewsAreFew = (p : Program) → index_breaches_of p ≡ [] → first_excess p ≡ None → AllByRecursion IsFewRound (stands 0 1 p.body)
