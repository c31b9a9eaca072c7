-- Ways that are made one after the other are those of the program.
use Rattle.std.proofs.Common.{◌≡◌, ℕ, suc, ◌+◌, ◌<◌, ◌≤◌, max, List, [], ◌∷◌, ◌++◌, length, map, drop, get_or, Option, Some, None, refl, ap, sym, ◌∙◌, append-nil}
use Rattle.std.specs.Prelude.{slice_get}
use Rattle.std.proofs.lemmas.List.{map-append}
use Rattle.std.proofs.Math.Seq.{drop-cons}
use Rattle.std.proofs.Math.ListN.{drop_of_length-le}
use Rattle.dh_tree.specs.declared.tables.Shape.{Shape}
use Rattle.dh_tree.specs.declared.viewing.ViewMap.{ViewMap}
use Rattle.dh_tree.specs.Memories.{Memory, memory_in}
use Rattle.dh_tree.specs.ViewOffsets.{offsets_of, moves, is_shift_view}
use Rattle.dh_viewing.specs.Finding.{memory_shape}
use Rattle.dh_meaning.specs.Ways.{Hidden, Led, ViewSite, WayStep, Way, behind_hidden, depth_where, hidden_of, led_after, led_behind, led_of, shape_named, step_of, way_behind, way_in, way_unless}
use Rattle.dh_ways.specs.declared.linking.Link.{Link}
use Rattle.dh_ways.specs.declared.standing.Stood.{Stood}
use Rattle.dh_ways.specs.declared.ways.Hidden as own
use Rattle.dh_ways.specs.Kept as kept
use Rattle.dh_ways.specs.Linked.{hidden_kept, views_kept, way_linked, way_there}
use Rattle.dh_ways.specs.Placed.{FindsPlace}
use Rattle.dh_ways.specs.Traced.{IsLinkOf, IsLinkAddingViews, LeadsNext, led_in}
use Rattle.dh_ways.specs.Seen.{hidden_seen, led_seen, way_seen}
use Rattle.dh_ways.specs.Stands.{Stand, own_of, stand_seen, view_site_of, standing_seen}
use Rattle.dh_ways.proofs.PlacedWays.{found_way}
use Rattle.dh_ways.proofs.StandsFound.{hidden_many, hidden_told}

-- Records of ways, part by part.

abbrev pub made_way : ViewMap → Option ℕ → List WayStep → List Hidden → (deepest shifts : ℕ) → Way
made_way v memory steps hidden deepest shifts = record { is = v; memory = memory; steps = steps; hidden = hidden; deepest = deepest; shifts = shifts }

alike : (v : ViewMap) (m : Option ℕ) (ss ts : List WayStep) (hs gs : List Hidden) (d e n k : ℕ) → ss ≡ ts → hs ≡ gs → d ≡ e → n ≡ k → made_way v m ss hs d n ≡ made_way v m ts gs e k
alike v m ss ts hs gs d e n k steps hidden deepest shifts =
    ap (λ l. made_way v m l hs d n) steps ∙ (ap (λ l. made_way v m ts l d n) hidden ∙ (ap (λ x. made_way v m ts gs x n) deepest ∙ ap (λ x. made_way v m ts gs e x) shifts))

pub first_way : (first : ℕ) (s : ViewSite) (v : ViewMap) (behind : List ViewMap) (hs : List Hidden) (d n : ℕ) → behind ≡ [] → hs ≡ hidden_of first s → d ≡ depth_where (moves s.form) s.depth → n ≡ depth_where (is_shift_view s.form) s.depth
    → made_way v s.parent.entity (map step_of (v ∷ behind)) hs d n ≡ way_behind first s v None
first_way first s v behind hs d n none kept deep shift =
    alike v s.parent.entity (map step_of (v ∷ behind)) (step_of v ∷ []) hs (hidden_of first s) d (depth_where (moves s.form) s.depth) n (depth_where (is_shift_view s.form) s.depth) (ap (λ l. step_of v ∷ map step_of l) none) kept deep shift

pub further_way : (first : ℕ) (s : ViewSite) (v : ViewMap) (w : Way) (behind views : List ViewMap) (hs all : List Hidden) (d n own_depth own_shift : ℕ) → behind ≡ views → map step_of views ≡ w.steps → all ≡ hs ++ w.hidden → hs ≡ hidden_of first s
    → own_depth ≡ depth_where (moves s.form) s.depth → own_shift ≡ depth_where (is_shift_view s.form) s.depth → d ≡ max own_depth w.deepest → n ≡ max own_shift w.shifts
    → made_way v w.memory (map step_of (v ∷ behind)) all d n ≡ way_behind first s v (Some w)
further_way first s v w behind views hs all d n own_depth own_shift are steps both kept deep shift deepest shifts =
    alike v w.memory (map step_of (v ∷ behind)) (step_of v ∷ w.steps) all (hidden_of first s ++ w.hidden) d (max (depth_where (moves s.form) s.depth) w.deepest) n (max (depth_where (is_shift_view s.form) s.depth) w.shifts)
    (ap (λ l. step_of v ∷ l) (ap (map step_of) are ∙ steps)) (both ∙ ap (λ l. l ++ w.hidden) kept) (deepest ∙ ap (λ x. max x w.deepest) deep) (shifts ∙ ap (λ x. max x w.shifts) shift)

-- Links that are made.

module _ (before : List kept.KeptLed) (s : ViewSite) (hs : List own.Hidden) (made : ViewMap) where
  pub link_first : (first : Option own.Hidden) (d n : ℕ) → ((others : List own.Hidden) → None ≡ slice_get others 0 → first ≡ slice_get (hs ++ others) 0) → d ≡ depth_where (moves s.form) s.depth → n ≡ depth_where (is_shift_view s.form) s.depth
      → IsLinkOf before s hs made None (record { entity = s.name.entity; view = made; own = hs; parent = None; first = first; memory = s.parent.entity; deepest = d; shifts = n })
  link_first first d n kept_first deep shift = record {
    entity = refl;
    way = λ f kept_in. first_way f s made [] (map hidden_seen (hs ++ [])) d n refl (ap (map hidden_seen) (append-nil hs) ∙ kept_in) deep shift;
    follows = record { parent = tt; first = kept_first [] refl };
  }

  pub link_further : (place : ℕ) (w : kept.KeptWay) (first : Option own.Hidden) (memory : Option ℕ) (d n own_depth own_shift : ℕ) → place < length before → Some w ≡ way_there before (Some place) → first ≡ slice_get (hs ++ w.hidden) 0 → memory ≡ w.memory
      → own_depth ≡ depth_where (moves s.form) s.depth → own_shift ≡ depth_where (is_shift_view s.form) s.depth → d ≡ max own_depth w.deepest → n ≡ max own_shift w.shifts
      → IsLinkOf before s hs made (Some (way_seen w)) (record { entity = s.name.entity; view = made; own = hs; parent = Some place; first = first; memory = memory; deepest = d; shifts = n })
  link_further place w first memory d n own_depth own_shift below there kept_first ends deep shift deepest shifts = record {
    entity = refl;
    way = λ f kept_in.
        ap (λ m. made_way made m (map step_of (made ∷ views_kept (way_there before (Some place)))) (map hidden_seen (hs ++ hidden_kept (way_there before (Some place)))) d n) ends
        ∙ further_way f s made (way_seen w) (views_kept (way_there before (Some place))) (w.view ∷ w.behind) (map hidden_seen hs) (map hidden_seen (hs ++ hidden_kept (way_there before (Some place)))) d n own_depth own_shift
        (ap views_kept (sym there)) refl (ap (λ o. map hidden_seen (hs ++ hidden_kept o)) (sym there) ∙ map-append hidden_seen hs w.hidden) kept_in deep shift deepest shifts;
    follows = record { parent = below; first = kept_first ∙ ap (λ o. slice_get (hs ++ hidden_kept o) 0) there };
  }

abbrev led_as : Option ℕ → Way → List Led
led_as e w = record { entity = e; way = w } ∷ []

-- a link adds the view of which it is
pub link_leads : (before : List kept.KeptLed) (s : ViewSite) (hs : List own.Hidden) (made v : ViewMap) (parent : Option Way) (l : Link) → made ≡ v → IsLinkOf before s hs made parent l → IsLinkAddingViews before s hs (λ first. led_as s.name.entity (way_behind first s v parent)) (Some l)
link_leads before s hs made v parent l is of = record {
  follows = of.follows;
  led = λ first kept_in.
      ap (λ e. led_as e (way_seen (way_linked before l))) of.entity
      ∙ (ap (λ w. led_as s.name.entity w) (of.way first kept_in) ∙ ap (λ m. led_as s.name.entity (way_behind first s m parent)) is);
}

-- it adds what equals that
pub added_as : (before : List kept.KeptLed) (s : ViewSite) (hs : List own.Hidden) (f g : ℕ → List Led) (link : Option Link) → ((first : ℕ) → f first ≡ g first) → IsLinkAddingViews before s hs f link → IsLinkAddingViews before s hs g link
added_as before s hs f g link same h = record { follows = h.follows; led = λ first kept_in. h.led first kept_in ∙ same first }

-- where the parent is one of these
pub led_behind_one : (before : List kept.KeptLed) (s : ViewSite) (hs : List own.Hidden) (place : ℕ) (w : kept.KeptWay) (link : Option Link) → FindsPlace before s.parent.entity (Some place) → Some w ≡ way_there before (Some place)
    → IsLinkAddingViews before s hs (λ first. led_of first s (Some w.view.shape) (Some (way_seen w))) link → IsLinkAddingViews before s hs (led_in (map led_seen before) s) link
led_behind_one before s hs place w link at there h =
    let found : Some (way_seen w) ≡ way_in (map led_seen before) s.parent.entity = found_way before s.parent.entity place w at there in
    added_as before s hs (λ first. led_of first s (Some w.view.shape) (Some (way_seen w))) (led_in (map led_seen before) s) link (λ first. ap (λ o. led_of first s (shape_named None o) o) found) h

-- and where it is none
pub led_behind_none : (before : List kept.KeptLed) (s : ViewSite) (hs : List own.Hidden) → FindsPlace before s.parent.entity None → IsLinkAddingViews before s hs (led_in (map led_seen before) s) None
led_behind_none before s hs none = record { follows = tt; led = λ first kept_in. ap (λ o. led_of first s (shape_named None o) o) (sym none) }

-- What the parent is.

pub of_memory : (ms : List Memory) (before : List Led) (first : ℕ) (s : ViewSite) (shape : Shape) → Some shape ≡ memory_shape (memory_in ms s.parent.entity) → led_of first s (Some shape) None ≡ led_after ms first before s
of_memory ms before first s shape e = by (memory_in ms s.parent.entity) (way_in before s.parent.entity) e
  where
    by : (m : Option Memory) (w : Option Way) → Some shape ≡ memory_shape m → led_of first s (Some shape) None ≡ led_of first s (shape_named m w) (way_unless m w)
    by (Some m) w e = ap (λ o. led_of first s o None) e
    by None w e = absurd cc

pub of_none : (ms : List Memory) (before : List Led) (first : ℕ) (s : ViewSite) → None ≡ memory_shape (memory_in ms s.parent.entity) → led_of first s (shape_named None (way_in before s.parent.entity)) (way_in before s.parent.entity) ≡ led_after ms first before s
of_none ms before first s e = by (memory_in ms s.parent.entity) (way_in before s.parent.entity) e
  where
    by : (m : Option Memory) (w : Option Way) → None ≡ memory_shape m → led_of first s (shape_named None w) w ≡ led_of first s (shape_named m w) (way_unless m w)
    by (Some m) w e = absurd cc
    by None w e = refl

-- One view more.

pub own_told : (first : ℕ) (s : Stand) (kept : List own.Hidden) → kept ≡ own_of first s → map hidden_seen kept ≡ hidden_of first (view_site_of s)
own_told first s kept e = ap (map hidden_seen) e ∙ hidden_told first s.depth s.copies (offsets_of s.form)

pub next_told : (first next count : ℕ) (s : Stand) (kept : List own.Hidden) → kept ≡ own_of first s → count ≡ length kept → next ≡ first + count → next ≡ behind_hidden first (view_site_of s)
next_told first next count s kept e long is = is ∙ ap (λ n. first + n) (long ∙ (ap (λ (l : List own.Hidden). length l) e ∙ hidden_many first s.depth s.copies (offsets_of s.form)))

pub ways_more : (ms : List Memory) (stood : List Stood) (start first next i : ℕ) (before now new : List Led) (s : Stood) → i < length stood → s ≡ get_or stood i s → LeadsNext ms now new first next (standing_seen s)
    → led_behind ms first now (map standing_seen (drop i stood)) ≡ led_behind ms start before (map standing_seen stood)
    → led_behind ms next new (map standing_seen (drop (suc i) stood)) ≡ led_behind ms start before (map standing_seen stood)
ways_more ms stood start first next i before now new s there is step h =
    ap (λ n. led_behind ms n new rest) step.0
    ∙ (ap (λ l. led_behind ms (behind_hidden first (standing_seen s)) l rest) step.1
    ∙ (ap (λ l. led_behind ms first now (map standing_seen l)) (sym (drop-cons stood i s there ∙ ap (λ x. x ∷ drop (suc i) stood) (sym is))) ∙ h))
  where
    rest : List ViewSite
    rest = map standing_seen (drop (suc i) stood)

pub ways_end : (ms : List Memory) (stood : List Stood) (start first i : ℕ) (before now : List Led) → length stood ≤ i → led_behind ms first now (map standing_seen (drop i stood)) ≡ led_behind ms start before (map standing_seen stood)
    → now ≡ led_behind ms start before (map standing_seen stood)
ways_end ms stood start first i before now over h = ap (λ l. led_behind ms first now (map standing_seen l)) (sym (drop_of_length-le stood over)) ∙ h

pub standings_seen : (stood : List Stood) (ss : List Stand) (us : List ViewSite) → map stand_seen stood ≡ ss → map view_site_of ss ≡ us → map standing_seen stood ≡ us
standings_seen stood ss us e f = same stood ∙ (ap (map view_site_of) e ∙ f)
  where
    same : (l : List Stood) → map standing_seen l ≡ map view_site_of (map stand_seen l)
    same [] = refl
    same (s ∷ l) = ap (λ x. standing_seen s ∷ x) (same l)
