-- The greatest level of the variables on a way, view by view.
use Rattle.std.proofs.Common.{◌≡◌, ℕ, suc, ◌<◌, max, List, [], ◌∷◌, ◌++◌, length, map, Some, None, refl, ap, sym, ◌∙◌, arith}
use Rattle.std.specs.Prelude.{Option, option_map, slice_get}
use Rattle.std.proofs.lemmas.List.{map-append}
use Rattle.dh_tree.specs.declared.viewing.ViewMap.{ViewMap}
use Rattle.dh_meaning.specs.Ways as definitions
use Rattle.dh_meaning.specs.Ways.{Hidden, hidden_in}
use Rattle.dh_ways.specs.declared.ways.Hidden as own
use Rattle.dh_ways.specs.Kept.{KeptWay}
use Rattle.dh_ways.specs.Linked.{IsSplit, hidden_kept, views_kept}
use Rattle.dh_ways.specs.Seen.{hidden_seen, way_seen}
use Rattle.dh_lengths.specs.HeldLevels.{hidden_level}
use Rattle.dh_lengths.specs.KeptLevels.{first_hidden_variable}

level_both : (v : ℕ → ℕ) (hs gs : List Hidden) → hidden_level v (hs ++ gs) ≡ max (hidden_level v hs) (hidden_level v gs)
level_both v [] gs = least (hidden_level v gs)
  where
    least : (n : ℕ) → n ≡ max 0 n
    least n = grind arith
level_both v (h ∷ hs) gs = ap (max (v h.entity)) (level_both v hs gs) ∙ grouped (v h.entity) (hidden_level v hs) (hidden_level v gs)
  where
    grouped : (a b c : ℕ) → max a (max b c) ≡ max (max a b) c
    grouped a b c = grind arith

module _ (v : ℕ → ℕ) where
  abbrev kept_level : List own.Hidden → ℕ
  kept_level hs = hidden_level v (map hidden_seen hs)

  split_level : (hs gs : List own.Hidden) → kept_level (hs ++ gs) ≡ max (kept_level hs) (kept_level gs)
  split_level hs gs = ap (hidden_level v) (map-append hidden_seen hs gs) ∙ level_both v (map hidden_seen hs) (map hidden_seen gs)

  -- one view more: what is greatest so far, and on the way behind it, is so on all
  pub level_split : (w : KeptWay) (hs : List own.Hidden) (behind : Option KeptWay) (level most : ℕ) → IsSplit w hs behind → most ≡ max level (kept_level hs) → max most (kept_level (hidden_kept behind)) ≡ max level (kept_level w.hidden)
  level_split w hs behind level most split is =
      ap (λ n. max n (kept_level (hidden_kept behind))) is
      ∙ (regrouped level (kept_level hs) (kept_level (hidden_kept behind)) ∙ ap (max level) (sym (ap kept_level split.hidden ∙ split_level hs (hidden_kept behind))))
    where
      regrouped : (a b c : ℕ) → max (max a b) c ≡ max a (max b c)
      regrouped a b c = grind arith

  pub level_next : (w : KeptWay) (hs : List own.Hidden) (rest behind : Option KeptWay) (level most whole : ℕ) → rest ≡ Some w → IsSplit w hs behind → most ≡ max level (kept_level hs) → max level (kept_level (hidden_kept rest)) ≡ whole → max most (kept_level (hidden_kept behind)) ≡ whole
  level_next w hs rest behind level most whole e split is so = level_split w hs behind level most split is ∙ (ap (λ o. max level (kept_level (hidden_kept o))) (sym e) ∙ so)

  pub level_end : (rest : Option KeptWay) (most whole : ℕ) → rest ≡ None → max most (kept_level (hidden_kept rest)) ≡ whole → most ≡ whole
  level_end rest most whole e so = most_alone most ∙ (ap (λ o. max most (kept_level (hidden_kept o))) (sym e) ∙ so)
    where
      most_alone : (n : ℕ) → n ≡ max n 0
      most_alone n = grind arith

-- the first variable on a way
pub first_told : (way : Option definitions.Way) (w : KeptWay) (x : Option own.Hidden) → Some (way_seen w) ≡ way → x ≡ slice_get w.hidden 0 → option_map (λ (h : own.Hidden). h.entity) x ≡ first_hidden_variable (hidden_in way)
first_told way w x is e = ap (option_map (λ (h : own.Hidden). h.entity)) e ∙ (each w.hidden ∙ ap (λ (o : Option definitions.Way). first_hidden_variable (hidden_in o)) is)
  where
    each : (hs : List own.Hidden) → option_map (λ (h : own.Hidden). h.entity) (slice_get hs 0) ≡ first_hidden_variable (map hidden_seen hs)
    each [] = refl
    each (h ∷ hs) = refl

-- how many views are left
abbrev pub views_left : Option KeptWay → ℕ
views_left rest = length (views_kept rest)

pub fewer_left : (w : KeptWay) (hs : List own.Hidden) (rest behind : Option KeptWay) → rest ≡ Some w → IsSplit w hs behind → views_left behind < views_left rest
fewer_left w hs rest behind e split = let one = more (length (views_kept behind)) (length w.behind) (ap (λ (vs : List ViewMap). length vs) split.views) in larger (views_left behind) (views_left (Some w)) (views_left rest) (ap views_left e) one
  where
    more : (a b : ℕ) → b ≡ a → a < suc b
    more a b f = omega (arith, f)

    larger : (a b c : ℕ) → c ≡ b → a < b → a < c
    larger a b c f l = omega (arith, f, l)
