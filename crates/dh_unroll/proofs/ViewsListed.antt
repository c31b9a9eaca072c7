-- The views of a plan are listed by their places, so that what is taken of a view tells which view is behind it.
use Rattle.std.proofs.Common.{◌≡◌, ◌⊎◌, inl, inr, ℕ, zero, suc, ◌+◌, ◌<◌, ◌≤◌, ◌^◌, List, [], ◌∷◌, ◌++◌, length, map, take, Some, None, refl, ap, sym, ◌∙◌, subst, arith, length-append}
use Rattle.std.specs.Prelude.{Option, option_map, slice_get}
use Rattle.std.specs.List.{AllByRecursion}
use Rattle.std.proofs.lemmas.List.{length-map, length_push, map_more, take_all}
use Rattle.std.proofs.lemmas.Option.{get_or_from_slice_get, none-some, same_Some, slice_get-map, slice_get_within}
use Rattle.dh_tree.specs.declared.tables.Dim.{Dim}
use Rattle.dh_tree.specs.declared.tables.Shape.{Shape}
use Rattle.dh_tree.specs.declared.viewing.Viewed.{Viewed}
use Rattle.dh_tree.specs.declared.viewing.ViewMap.{ViewMap}
use Rattle.dh_tree.specs.Elements.{banks_of}
use Rattle.dh_tree.specs.Memories.{Memory, memories_of, memory_in}
use Rattle.dh_tree.specs.PlainTrees.{Program}
use Rattle.dh_tree.specs.Ready.{IsReady, most_tokens}
use Rattle.dh_tree.specs.Seen.{program_seen}
use Rattle.dh_tree.specs.ViewFactors.{factor_breaches_of}
use Rattle.dh_tree.specs.ViewShapes.{IsViewMap}
use Rattle.dh_tree.specs.Views.{Viewing, shape_in, viewed_behind, viewed_in, viewed_of, views_of}
use Rattle.dh_tree.proofs.EmptyLists.{first_none}
use Rattle.dh_tree.proofs.ProgramTables.{program_table}
use Rattle.dh_tree.proofs.ViewsDeclared.{views_few}
use Rattle.dh_meaning.specs.Ways.{Led, WayStep, Way, step_of, way_in, way_unless, ways_of}
use Rattle.dh_meets.specs.Charges.{may_reach}
use Rattle.dh_viewing.specs.declared.bank_sets.BankSet.{BankSet}
use Rattle.dh_viewing.specs.ReachedBanks.{is_in}
use Rattle.dh_ways.specs.Kept as kept
use Rattle.dh_ways.specs.Leading.{LeadsTo, next_dims, viewed_of_led}
use Rattle.dh_ways.specs.Linked.{IsParentAt, way_there}
use Rattle.dh_ways.specs.Placed.{FindsPlace, place_found}
use Rattle.dh_ways.specs.Seen.{led_seen, way_seen}
use Rattle.dh_ways.proofs.LinksTold.{pushed_cases, stands_in}
use Rattle.dh_ways.proofs.PlacedWays.{finds_found}
use Rattle.dh_ways.proofs.WaysLead.{ways_are_views, ways_lead}
use Rattle.dh_expressions.specs.declared.scenes.Scene.{Scene}
use Rattle.dh_expressions.specs.declared.scenes.Through.{Through}
use Rattle.dh_expressions.specs.Evaluated.{AreViews}
use Rattle.dh_expressions.specs.Named.{number_at, number_of_parent, parent_of, set_or_none, sets_of}
use Rattle.dh_expressions.specs.Numbers.{narrowed}
use Rattle.dh_expressions.specs.ViewsTold.{TellsViews}
use Rattle.dh_unroll.specs.ViewsListed.{HasSets, IsThrough, LeadsSomewhere, ListsAll, ListsFirst, MakesSets, ReachedByBanks, SetsGoOn, StepsGoOn}

-- The ways lead somewhere.

lead_somewhere : (ms : List Memory) (ls : List Led) → AllByRecursion (λ (l : Led). LeadsTo ms l.way) ls → AllByRecursion (λ (l : Led). LeadsSomewhere l.way.steps) ls
lead_somewhere ms [] h = tt
lead_somewhere ms (l ∷ ls) h = ((h.0.memory.shape.dims, h.0.steps), lead_somewhere ms ls h.1)

-- each view is one that is made
lead_maps : (ms : List Memory) (ls : List Led) → AllByRecursion (λ (l : Led). LeadsTo ms l.way) ls → AllByRecursion IsViewMap (map (λ (l : Led). l.way.is) ls)
lead_maps ms [] h = tt
lead_maps ms (l ∷ ls) h = (h.0.own, lead_maps ms ls h.1)

ready_ways : (p : Program) → IsReady p → AllByRecursion (λ (l : Led). LeadsTo (memories_of p) l.way) (ways_of p)
ready_ways p r = ways_lead p (first_none (factor_breaches_of p) _ r.views) (program_table p most_tokens r.of_text r.names r.built r.indices r.limits r.placements)

-- so they do in a program that can be compiled
pub ready_leads : (p : Program) → IsReady p → AllByRecursion (λ (l : Led). LeadsSomewhere l.way.steps) (ways_of p)
ready_leads p r = lead_somewhere (memories_of p) (ways_of p) (ready_ways p r)

pub ready_maps : (p : Program) → IsReady p → AllByRecursion IsViewMap (map (λ (l : Led). l.way.is) (ways_of p))
ready_maps p r = lead_maps (memories_of p) (ways_of p) (ready_ways p r)

-- the views of the ways are those of the program
pub views_own : (p : Program) → map (λ (l : Led). l.way.is) (ways_of p) ≡ map (λ (v : Viewed). v.is) (viewed_in p)
views_own p = each (ways_of p) ∙ ap (map (λ (v : Viewed). v.is)) (ways_are_views p)
  where
    each : (ls : List Led) → map (λ (l : Led). l.way.is) ls ≡ map (λ (v : Viewed). v.is) (map viewed_of_led ls)
    each [] = refl
    each (l ∷ ls) = ap (λ (vs : List ViewMap). l.way.is ∷ vs) (each ls)

-- Places.

led_there : (ls : List Led) (k : ℕ) (d : Led) → AllByRecursion (λ (l : Led). LeadsSomewhere l.way.steps) ls → slice_get ls k ≡ Some d → LeadsSomewhere d.way.steps
led_there [] k d h e = absurd (none-some d e)
led_there (l ∷ ls) zero d h e = subst (λ (x : Led). LeadsSomewhere x.way.steps) (same_Some l d e) h.0
led_there (l ∷ ls) (suc k) d h e = led_there ls k d h.1 e

-- what code keeps at a place, and what is seen of it
pub record SeenAt (ls : List kept.KeptLed) (k : ℕ) (d : Led) : Type 0 where
  pub item : kept.KeptLed
  pub there : slice_get ls k ≡ Some item
  pub seen : led_seen item ≡ d

seen_at : (ls : List kept.KeptLed) (k : ℕ) (d : Led) → slice_get (map led_seen ls) k ≡ Some d → SeenAt ls k d
seen_at [] k d e = absurd (none-some d e)
seen_at (l ∷ ls) zero d e = record { item = l; there = refl; seen = same_Some (led_seen l) d e }
seen_at (l ∷ ls) (suc k) d e = let rest = seen_at ls k d e in record { item = rest.item; there = rest.there; seen = rest.seen }

there_seen : (ls : List kept.KeptLed) (k : ℕ) (l : kept.KeptLed) → slice_get ls k ≡ Some l → slice_get (map led_seen ls) k ≡ Some (led_seen l)
there_seen ls k l e = slice_get-map led_seen ls k ∙ ap (option_map led_seen) e

steps_go_on : (ls : List kept.KeptLed) (place : ℕ) (parent : Option ℕ) (l : kept.KeptLed) → slice_get ls place ≡ Some l → IsParentAt ls place parent → StepsGoOn (map led_seen ls) place parent (way_seen l.way)
steps_go_on ls place None l at told = ap (λ (vs : List ViewMap). step_of l.way.view ∷ map step_of vs) (told l at)
steps_go_on ls place (Some k) l at told = (
  told.0,
  λ d there. let m = seen_at ls k d there in
      ap (λ (vs : List ViewMap). step_of l.way.view ∷ map step_of vs) (told.1 l m.item at m.there) ∙ ap (λ (x : Led). step_of l.way.view ∷ x.way.steps) m.seen,
)

-- The view at a place, as code has it.

module _ (ls : List kept.KeptLed) (place : ℕ) (w : kept.KeptWay) (inside : place < length ls) (told : Some w ≡ way_there ls (Some place)) where
  abbrev ds : List Led
  ds = map led_seen ls

  abbrev item : kept.KeptLed
  item = (stands_in ls place inside).item

  at : slice_get ls place ≡ Some item
  at = (stands_in ls place inside).there

  way_is : w ≡ item.way
  way_is = same_Some w item.way (told ∙ ap (option_map (λ (l : kept.KeptLed). l.way)) at)

  module _ (leads : AllByRecursion (λ (l : Led). LeadsSomewhere l.way.steps) ds) (v : ViewMap) (v_is : v ≡ w.view) where
    lead : LeadsSomewhere (way_seen item.way).steps
    lead = led_there ds place (led_seen item) leads (there_seen ls place item at)

    own_is : v ≡ item.way.view
    own_is = v_is ∙ ap (λ (x : kept.KeptWay). x.view) way_is

    pub view_map : IsViewMap v
    view_map = subst (λ (x : ViewMap). IsViewMap x) (sym own_is) lead.1.0

    module _ (views : List ViewMap) (taken : List Through) (parent : Option ℕ) (is_parent : IsParentAt ls place parent) (lists : ListsFirst ds place views taken) where
      -- the view behind it
      record Behind (k : ℕ) : Type 0 where
        pub above : kept.KeptLed
        pub above_at : slice_get ls k ≡ Some above
        pub through : Through
        pub through_at : slice_get taken k ≡ Some through
        pub is : IsThrough ds k (way_seen above.way) through
        pub dims : v.parent.dims ≡ above.way.view.shape.dims
        pub steps : (way_seen item.way).steps ≡ step_of v ∷ (way_seen above.way).steps

      behind : (k : ℕ) → IsParentAt ls place (Some k) → Behind k
      behind k p =
          let above = stands_in ls k (less k place (length ls) p.0 inside) in
          let through = stands_in taken k (subst (λ (n : ℕ). k < n) (sym lists.many) p.0) in
          let goes_on = p.1 item above.item at above.there in
          record {
            above = above.item;
            above_at = above.there;
            through = through.item;
            through_at = through.there;
            is = lists.each k (led_seen above.item) through.item (there_seen ls k above.item above.there) through.there;
            dims = ap (λ (x : ViewMap). x.parent.dims) own_is ∙ (lead.1.1.0 ∙ ap (λ (vs : List ViewMap). next_dims (map step_of vs) lead.0) goes_on);
            steps = ap (λ (vs : List ViewMap). step_of item.way.view ∷ map step_of vs) goes_on ∙ ap (λ (x : ViewMap). step_of x ∷ (way_seen above.item.way).steps) (sym own_is);
          }
        where
          less : (a b n : ℕ) → a < b → b < n → a < n
          less a b n e f = omega (arith, e, f)

      pub has_sets : HasSets v taken parent
      has_sets = by parent is_parent
        where
          by : (o : Option ℕ) → IsParentAt ls place o → HasSets v taken o
          by None p = tt
          by (Some k) p = let b = behind k p in (b.through, (b.through_at, b.is.many ∙ ap (λ (d : List Dim). banks_of d) (sym b.dims)))

      reached : (sets : List BankSet) → MakesSets v taken parent sets → ReachedByBanks (way_seen item.way).steps (banks_of v.shape.dims) sets
      reached sets (long, made) = by parent is_parent made
        where
          by : (o : Option ℕ) → IsParentAt ls place o → SetsGoOn v taken o sets → ReachedByBanks (way_seen item.way).steps (banks_of v.shape.dims) sets
          by None p h =
              subst (λ (ss : List WayStep). ReachedByBanks ss (banks_of v.shape.dims) sets)
              (sym (ap (λ (vs : List ViewMap). step_of item.way.view ∷ map step_of vs) (p item at) ∙ ap (λ (x : ViewMap). step_of x ∷ []) (sym own_is))) h
          by (Some k) p h =
              let b = behind k p in
              subst (λ (ss : List WayStep). ReachedByBanks ss (banks_of v.shape.dims) sets) (sym b.steps)
              (h (way_seen b.above.way).steps b.through b.through_at (subst (λ (d : List Dim). ReachedByBanks (way_seen b.above.way).steps (banks_of d) b.through.banks) (sym b.dims) b.is.banks_are))

      pub lists_more : (copy : ViewMap) (new : List ViewMap) (more : List Through) (number : ℕ) (sets : List BankSet) → MakesSets v taken parent sets → copy ≡ v → new ≡ views ++ copy ∷ [] → number ≡ number_at parent → more ≡ taken ++ record { behind = number; banks = sets } ∷ []
          → ListsFirst ds (place + 1) new more
      lists_more copy new more number sets made copied added numbered pushed = record {
        views_are =
            added
            ∙ (ap (λ (x : ViewMap). views ++ x ∷ []) (copied ∙ own_is)
            ∙ (ap (λ (vs : List ViewMap). vs ++ item.way.view ∷ []) lists.views_are
            ∙ (ap (λ (x : Led). map (λ (l : Led). l.way.is) (take place ds) ++ x.way.is ∷ []) (sym (get_or_from_slice_get ds place (led_seen item) (led_seen item) seen))
            ∙ sym (map_more (λ (l : Led). l.way.is) ds place (led_seen item) (slice_get_within ds place (led_seen item) seen)))));
        many = ap (λ (ts : List Through). length ts) pushed ∙ (length_push taken (record { behind = number; banks = sets }) ∙ ap (λ n. n + 1) lists.many);
        each = λ k l t there here. by k l t there (pushed_cases taken (record { behind = number; banks = sets }) k t (ap (λ (ts : List Through). slice_get ts k) (sym pushed) ∙ here));
      }
        where
          seen : slice_get ds place ≡ Some (led_seen item)
          seen = there_seen ls place item at

          own : IsThrough ds place (way_seen item.way) (record { behind = number; banks = sets })
          own = record {
            parent = parent;
            goes_on = steps_go_on ls place parent item at is_parent;
            behind_is = numbered;
            many = made.0 ∙ ap (λ (x : ViewMap). banks_of x.shape.dims) own_is;
            banks_are = subst (λ (x : ViewMap). ReachedByBanks (way_seen item.way).steps (banks_of x.shape.dims) sets) own_is (reached sets made);
          }

          by : (k : ℕ) (l : Led) (t : Through) → slice_get ds k ≡ Some l → (slice_get taken k ≡ Some t) ⊎ ((k ≡ length taken) × (t ≡ record { behind = number; banks = sets })) → IsThrough ds k l.way t
          by k l t there (inl before) = lists.each k l t there before
          by k l t there (inr last) =
              let here : k ≡ place = last.0 ∙ lists.many in
              let same : led_seen item ≡ l = same_Some (led_seen item) l (sym seen ∙ (ap (slice_get ds) (sym here) ∙ there)) in
              subst (λ (x : Through). IsThrough ds k l.way x) (sym last.1) (subst (λ (n : ℕ). IsThrough ds n l.way (record { behind = number; banks = sets })) (sym here) (subst (λ (x : Led). IsThrough ds place x.way (record { behind = number; banks = sets })) same own))

-- All views.

pub lists_none : (ls : List Led) (views : List ViewMap) (through : List Through) → views ≡ [] → through ≡ [] → ListsFirst ls 0 views through
lists_none ls views through none empty = record {
  views_are = none;
  many = ap (λ (l : List Through). length l) empty;
  each = λ k l t there at. absurd (none-some t (ap (λ (ts : List Through). slice_get ts k) (sym empty) ∙ at));
}

pub lists_all : (ls : List kept.KeptLed) (place n : ℕ) (views : List ViewMap) (through : List Through) → n ≡ length ls → n ≤ place → place ≤ n → length ls < 2 ^ 32 → ListsFirst (map led_seen ls) place views through → ListsAll (map led_seen ls) views through
lists_all ls place n views through many past inside few lists = (
  subst (λ (k : ℕ). ListsFirst (map led_seen ls) k views through) end lists,
  subst (λ (k : ℕ). k < 2 ^ 32) (sym (length-map ls led_seen)) few,
)
  where
    end : place ≡ length (map led_seen ls)
    end = same place n past inside ∙ (many ∙ sym (length-map ls led_seen))
      where
        same : (a b : ℕ) → b ≤ a → a ≤ b → a ≡ b
        same a b e f = omega (arith, e, f)

-- The views of a program that is ready are few.

viewed_one : (v : Viewing) (parent : Option Shape) → length (viewed_of v parent) ≤ 1
viewed_one v None = omega arith
viewed_one v (Some parent) = omega arith

viewed_few : (ms : List Memory) (before : List Viewed) (vs : List Viewing) → length (viewed_behind ms before vs) ≤ length before + length vs
viewed_few ms before [] = omega arith
viewed_few ms before (v ∷ vs) =
    let own = viewed_of v (shape_in ms before v.parent.entity) in
    let rest = viewed_few ms (before ++ own) vs in
    let long = length-append before own in
    let one = viewed_one v (shape_in ms before v.parent.entity) in
    omega (arith, rest, long, one)

pub ways_few : (p : Program) (ls : List kept.KeptLed) → IsReady p → length p.entities < 2 ^ 32 → map led_seen ls ≡ ways_of p → length ls < 2 ^ 32
ways_few p ls r few are =
    let long : length (viewed_in p) ≤ 0 + length (views_of p) = viewed_few (memories_of p) [] (views_of p) in
    let all = views_few p r.entities in
    let same : length ls ≡ length (viewed_in p) =
    sym (length-map ls led_seen) ∙ (ap (λ (ds : List Led). length ds) are ∙ (sym (length-map (ways_of p) viewed_of_led) ∙ ap (λ (vs : List Viewed). length vs) (ways_are_views p))) in
    omega (arith, long, all, same, few)

-- Views by their numbers.

module _ (ds : List Led) (views : List ViewMap) (through : List Through) (lists : ListsAll ds views through) where
  pub all_views : views ≡ map (λ (l : Led). l.way.is) ds
  all_views = lists.0.views_are ∙ ap (map (λ (l : Led). l.way.is)) (take_all (length ds) ds (enough (length ds)))
    where
      enough : (n : ℕ) → n ≤ n
      enough n = omega arith

  view_there : (k : ℕ) (d : Led) → slice_get ds k ≡ Some d → slice_get views k ≡ Some d.way.is
  view_there k d e = ap (λ (vs : List ViewMap). slice_get vs k) all_views ∙ (slice_get-map (λ (l : Led). l.way.is) ds k ∙ ap (option_map (λ (l : Led). l.way.is)) e)

  record TakenAt (k : ℕ) (d : Led) : Type 0 where
    pub taken : Through
    pub there : slice_get through k ≡ Some taken
    pub is : IsThrough ds k d.way taken

  taken_at : (k : ℕ) (d : Led) → slice_get ds k ≡ Some d → TakenAt k d
  taken_at k d e =
      let t = stands_in through k (subst (λ (n : ℕ). k < n) (sym lists.0.many) (slice_get_within ds k d e)) in
      record { taken = t.item; there = t.there; is = lists.0.each k d t.item e t.there }

  few_places : (k : ℕ) (d : Led) → slice_get ds k ≡ Some d → narrowed k ≡ k
  few_places k d e = small k (length ds) (slice_get_within ds k d e) lists.1
    where
      small : (a n : ℕ) → a < n → n < 2 ^ 32 → narrowed a ≡ a
      small a n l f = omega (arith, l, f)

  are_views : (n k : ℕ) (d : Led) → k < n → slice_get ds k ≡ Some d → AreViews through views k d.way.steps
  are_views zero k d l e = absurd (none k l)
    where
      none : (a : ℕ) → a < 0 → ⊥
      none a h = omega (arith, h)
  are_views (suc n) k d l e = by (taken_at k d e).is.parent (taken_at k d e).is.goes_on (taken_at k d e).is.behind_is (λ j m. are_views n j m)
    where
      lower : (a b c : ℕ) → a < b → b < suc c → a < c
      lower a b c g h = omega (arith, g, h)

      less : (a b c : ℕ) → a < b → b < c → a < c
      less a b c g h = omega (arith, g, h)

      number : number_of_parent through k ≡ (taken_at k d e).taken.behind
      number = ap parent_of (taken_at k d e).there

      by : (o : Option ℕ) → StepsGoOn ds k o d.way → (taken_at k d e).taken.behind ≡ number_at o → ((j : ℕ) (m : Led) → j < n → slice_get ds j ≡ Some m → AreViews through views j m.way.steps) → AreViews through views k d.way.steps
      by None goes_on is rest = subst (λ (ss : List WayStep). AreViews through views k ss) (sym goes_on) (view_there k d e, tt)
      by (Some j) goes_on is rest =
          let m = stands_in ds j (less j k (length ds) goes_on.0 (slice_get_within ds k d e)) in
          subst (λ (ss : List WayStep). AreViews through views k ss) (sym (goes_on.1 m.item m.there)) (
            view_there k d e,
            subst (λ (i : ℕ). AreViews through views i m.item.way.steps) (sym (number ∙ (is ∙ few_places j m.item m.there))) (rest j m.item (lower j k n goes_on.0 l) m.there),
          )

  pub views_there : (k : ℕ) (d : Led) → slice_get ds k ≡ Some d → AreViews through views (narrowed k) d.way.steps
  views_there k d e = subst (λ (n : ℕ). AreViews through views n d.way.steps) (sym (few_places k d e)) (are_views (suc k) k d (own k) e)
    where
      own : (a : ℕ) → a < suc a
      own a = omega arith

  pub banks_there : (k : ℕ) (d : Led) → slice_get ds k ≡ Some d → (bank behind : ℕ) → bank < banks_of d.way.is.shape.dims → is_in (sets_of (slice_get through (narrowed k)) bank) behind ≡ may_reach d.way.steps bank behind
  banks_there k d e bank behind l =
      let t = taken_at k d e in
      let known = t.is.banks_are bank l in
      ap (λ n. is_in (sets_of (slice_get through n) bank) behind) (few_places k d e)
      ∙ (ap (λ o. is_in (sets_of o bank) behind) t.there ∙ (ap (λ o. is_in (set_or_none o) behind) known.1.0 ∙ known.1.1 behind))

-- The table of the scene.

-- what the plan has of the view with a number is what its way says
abbrev Tells : Scene → List ViewMap → Way → (k : ℕ) → Type 0
Tells scene views w k =
    AreViews scene.through.now views k w.steps × ((bank behind : ℕ) → bank < banks_of w.is.shape.dims → is_in (sets_of (slice_get scene.through.now k) bank) behind ≡ may_reach w.steps bank behind)

module _ (scene : Scene) where
  abbrev p : Program
  p = program_seen scene.program.now

  unless_some : (m : Option Memory) (o : Option Way) (w : Way) → way_unless m o ≡ Some w → o ≡ Some w
  unless_some (Some m) o w e = cc
  unless_some None o w e = e

  -- the views of the plan tell what the scene has of them
  pub views_told : (views : List ViewMap) → ListsAll (map led_seen scene.ways.now) views scene.through.now → TellsViews scene views
  views_told views lists r w is = let t = here (place_found ls r.entity) (finds_found ls r.entity) in record { views_are = t.0; banks_are = t.1 }
    where
      ls : List kept.KeptLed
      ls = scene.ways.now

      found : way_in (map led_seen ls) r.entity ≡ Some w
      found = unless_some (memory_in (memories_of p) r.entity) (way_in (map led_seen ls) r.entity) w is

      here : (o : Option ℕ) → FindsPlace ls r.entity o → Tells scene views w (number_at o)
      here None none = absurd (none-some w (sym none ∙ found))
      here (Some k) at =
          subst (λ (x : Way). Tells scene views x (narrowed k)) (same_Some (way_seen at.0.way) w (sym at.1.1 ∙ found)) (
            views_there (map led_seen ls) views scene.through.now lists k (led_seen at.0) (there_seen ls k at.0 at.1.0),
            banks_there (map led_seen ls) views scene.through.now lists k (led_seen at.0) (there_seen ls k at.0 at.1.0),
          )
