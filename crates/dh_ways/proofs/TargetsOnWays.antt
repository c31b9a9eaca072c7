-- A target on a way has its indices first, and behind them the offsets that the way keeps, which make no access.
use Rattle.std.proofs.Common.{◌≡◌, List, [], ◌∷◌, ◌++◌, take, drop, Option, Some, None, refl, ap, ◌∙◌}
use Rattle.std.specs.List.{AllByRecursion}
use Rattle.dh_value.specs.Words as words
use Rattle.dh_value.specs.Words.{word_of}
use Rattle.dh_meaning.specs.Core.{Reach, CoreTerms, no_terms, term_and, count_terms}
use Rattle.dh_meaning.specs.CoreOf.{kept_terms, terms_both, target_to}
use Rattle.dh_meaning.specs.Effects.{Begun, Variables, value_of_term, values_of, spot_by_views, spot_reached, term_events, terms_events, target_events}
use Rattle.dh_meaning.specs.Paths.{Path}
use Rattle.dh_meaning.specs.Ways.{Hidden, Way}
use Rattle.dh_ways.specs.SpotsThrough.{spot_to, offsets_at}

module _ (b : Begun) (v : Variables) (path : Path) where
  taken : (ts us : CoreTerms) → take (count_terms ts) (values_of b v path (terms_both ts us)) ≡ values_of b v path ts
  taken no_terms us = refl
  taken (term_and t ts) us = ap (λ zs. words.value_of (value_of_term b v path t) ∷ zs) (taken ts us)

  dropped : (ts us : CoreTerms) → drop (count_terms ts) (values_of b v path (terms_both ts us)) ≡ values_of b v path us
  dropped no_terms us = refl
  dropped (term_and t ts) us = dropped ts us

  -- where an access of what a way leads to leads
  pub target_is : (r : Reach) (way : Option Way) (ts : CoreTerms) → spot_reached b v path r (target_to way ts) ≡ spot_to b.table r.memory way (values_of b v path ts) (offsets_at b v path way)
  target_is r None ts = refl
  target_is r (Some w) ts =
      ap (λ zs. spot_by_views b.table r.memory w.steps zs (drop (count_terms ts) (values_of b v path (terms_both ts (kept_terms w.hidden))))) (taken ts (kept_terms w.hidden))
      ∙ ap (λ zs. spot_by_views b.table r.memory w.steps (values_of b v path ts) zs) (dropped ts (kept_terms w.hidden))

  events_before : (ts us : CoreTerms) → terms_events b v path us ≡ [] → terms_events b v path (terms_both ts us) ≡ terms_events b v path ts
  events_before no_terms us e = e
  events_before (term_and t ts) us e = ap (λ es. term_events b v path t ++ es) (events_before ts us e)

  kept_still : (hs : List Hidden) → terms_events b v path (kept_terms hs) ≡ []
  kept_still [] = refl
  kept_still (h ∷ hs) = kept_still hs

  -- it makes the accesses of its indices alone
  pub target_makes : (way : Option Way) (ts : CoreTerms) → target_events b v path (target_to way ts) ≡ terms_events b v path ts
  target_makes None ts = refl
  target_makes (Some w) ts = events_before ts (kept_terms w.hidden) (kept_still w.hidden)

-- offsets are the same by variables that have one value of each that keeps one
pub offsets_same : (b : Begun) (v w : Variables) (path : Path) (hs : List Hidden) → AllByRecursion (λ h. v h.entity (take h.depth path) ≡ w h.entity (take h.depth path)) hs
    → values_of b v path (kept_terms hs) ≡ values_of b w path (kept_terms hs)
offsets_same b v w path [] a = refl
offsets_same b v w path (h ∷ hs) a =
    ap (λ z. words.value_of (word_of h.kind z) ∷ values_of b v path (kept_terms hs)) a.0
    ∙ ap (λ zs. words.value_of (word_of h.kind (w h.entity (take h.depth path))) ∷ zs) (offsets_same b v w path hs a.1)
