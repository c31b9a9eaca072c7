-- Views with their ways by their entities: the place that is told of an entity is that of its view, also when one more
-- view is added.
use Rattle.std.proofs.Common.{◌≡◌, ◌≢◌, ℕ, suc, ◌<◌, ◌==◌, Bool, true, false, if◌then◌else◌, List, [], ◌∷◌, ◌++◌, length, map, get_or, Option, Some, None, option_map, refl, ap, sym, ◌∙◌, subst, arith}
use Rattle.std.proofs.lemmas.Bool.Decides.{nat_tests}
use Rattle.std.proofs.lemmas.List.{get_or-set_same, get_or-set_other}
use Rattle.std.proofs.lemmas.Option.{slice_get_within}
use Rattle.std.specs.Prelude.{slice_set}
use Rattle.dh_tree.proofs.Collecting.{one_more}
use Rattle.dh_tree.specs.Memories.{same_entity}
use Rattle.dh_viewing.specs.Placed.{placed_at}
use Rattle.dh_meaning.specs.Ways.{way_in}
use Rattle.dh_ways.specs.declared.linking.Link.{Link}
use Rattle.dh_ways.specs.Kept.{KeptLed, KeptWay}
use Rattle.dh_ways.specs.Linked.{way_there, ways_linked}
use Rattle.dh_ways.specs.Placed.{AreLinkPlaces, FindsPlace, place_found, link_place_in}
use Rattle.dh_ways.specs.Seen.{led_seen, way_seen}
use Rattle.dh_ways.proofs.LinksTold.{entities_are}

-- Looking for a view.

same_none : (e : Option ℕ) → same_entity e None ≡ false
same_none None = refl
same_none (Some n) = refl

none_placed : (vs : List Link) → link_place_in vs None ≡ None
none_placed [] = refl
none_placed (v ∷ vs) = ap (λ b. if b then Some 0 else option_map suc (link_place_in vs None)) (same_none v.entity) ∙ ap (λ o. option_map suc o) (none_placed vs)

told : (vs : List Link) (places : List (Option ℕ)) (e : Option ℕ) → AreLinkPlaces vs places → placed_at places e ≡ link_place_in vs e
told vs places None h = sym (none_placed vs)
told vs places (Some n) h = h n

-- the first one among entities
abbrev place_among : List (Option ℕ) → Option ℕ → Option ℕ
place_among [] e = None
place_among (x ∷ xs) e = if same_entity x e then Some 0 else option_map suc (place_among xs e)

among_links : (vs : List Link) (e : Option ℕ) → link_place_in vs e ≡ place_among (map (λ (l : Link). l.entity) vs) e
among_links [] e = refl
among_links (v ∷ vs) e = ap (λ o. if same_entity v.entity e then Some 0 else option_map suc o) (among_links vs e)

further : (v : KeptLed) (vs : List KeptLed) (e : Option ℕ) (b : Bool) → same_entity v.entity e ≡ b → (o : Option ℕ) → FindsPlace vs e o → FindsPlace (v ∷ vs) e (if b then Some 0 else option_map suc o)
further v vs e true t o h = (v, (refl, ap (λ x. if x then Some (way_seen v.way) else way_in (map led_seen vs) e) t))
further v vs e false t None h = ap (λ x. if x then Some (way_seen v.way) else way_in (map led_seen vs) e) t ∙ h
further v vs e false t (Some k) h = (h.0, (h.1.0, ap (λ x. if x then Some (way_seen v.way) else way_in (map led_seen vs) e) t ∙ h.1.1))

pub finds_found : (vs : List KeptLed) (e : Option ℕ) → FindsPlace vs e (place_found vs e)
finds_found [] e = refl
finds_found (v ∷ vs) e = further v vs e (same_entity v.entity e) refl (place_found vs e) (finds_found vs e)

among_views : (vs : List KeptLed) (e : Option ℕ) → place_among (map (λ (l : KeptLed). l.entity) vs) e ≡ place_found vs e
among_views [] e = refl
among_views (v ∷ vs) e = ap (λ o. if same_entity v.entity e then Some 0 else option_map suc o) (among_views vs e)

-- what a table tells of an entity is the place of its view
pub place_same : (links : List Link) (ways : List KeptLed) (places shown : List (Option ℕ)) (e place : Option ℕ) → AreLinkPlaces links places → ways_linked links ≡ ways → shown ≡ places → place ≡ placed_at shown e → place ≡ place_found ways e
place_same links ways places shown e place h are same is =
    is
    ∙ (ap (λ l. placed_at l e) same
    ∙ (told links places e h
    ∙ (among_links links e ∙ (ap (λ es. place_among es e) (sym (entities_are links)) ∙ (among_views (ways_linked links) e ∙ ap (λ ls. place_found ls e) are)))))

pub finds_place : (links : List Link) (ways : List KeptLed) (places shown : List (Option ℕ)) (e place : Option ℕ) → AreLinkPlaces links places → ways_linked links ≡ ways → shown ≡ places → place ≡ placed_at shown e → FindsPlace ways e place
finds_place links ways places shown e place h are same is = subst (λ (o : Option ℕ). FindsPlace ways e o) (sym (place_same links ways places shown e place h are same is)) (finds_found ways e)

-- the way at that place is that of its view
pub found_way : (ls : List KeptLed) (e : Option ℕ) (place : ℕ) (w : KeptWay) → FindsPlace ls e (Some place) → Some w ≡ way_there ls (Some place) → Some (way_seen w) ≡ way_in (map led_seen ls) e
found_way ls e place w h is =
    ap (option_map way_seen) (is ∙ ap (option_map (λ (l : KeptLed). l.way)) h.1.0) ∙ sym h.1.1

pub found_inside : (ls : List KeptLed) (e o : Option ℕ) (place : ℕ) → FindsPlace ls e o → o ≡ Some place → place < length ls
found_inside ls e o place h is = let at = subst (λ (x : Option ℕ). FindsPlace ls e x) is h in slice_get_within ls place at.0 at.1.0

-- One more view.

lone : (r : Option ℕ) (b : Bool) (n : ℕ) → b ≡ false → one_more r b n ≡ r
lone (Some a) b n e = refl
lone None true n e = cc
lone None false n e = refl

there : (r : Option ℕ) (b : Bool) (n a : ℕ) → r ≡ Some a → one_more r b n ≡ r
there (Some x) b n a e = refl
there None b n a e = cc

next : (r : Option ℕ) (b : Bool) (n : ℕ) → r ≡ None → b ≡ true → one_more r b n ≡ Some n
next None true n e f = refl
next None false n e f = cc
next (Some a) b n e f = cc

alone : (b : Bool) → (if b then Some 0 else option_map suc None) ≡ one_more None b 0
alone true = refl
alone false = refl

behind : (x b : Bool) (r : Option ℕ) (n : ℕ) → (if x then Some 0 else option_map suc (one_more r b n)) ≡ one_more (if x then Some 0 else option_map suc r) b (suc n)
behind true b r n = refl
behind false b (Some k) n = refl
behind false true None n = refl
behind false false None n = refl

place_more : (vs : List Link) (v : Link) (e : Option ℕ) → link_place_in (vs ++ v ∷ []) e ≡ one_more (link_place_in vs e) (same_entity v.entity e) (length vs)
place_more [] v e = alone (same_entity v.entity e)
place_more (x ∷ vs) v e =
    ap (λ r. if same_entity x.entity e then Some 0 else option_map suc r) (place_more vs v e)
    ∙ behind (same_entity x.entity e) (same_entity v.entity e) (link_place_in vs e) (length vs)

module _ (vs : List Link) (v : Link) (old : List (Option ℕ)) (h : AreLinkPlaces vs old) where
  other : (e : ℕ) → same_entity v.entity (Some e) ≡ false → get_or old e None ≡ link_place_in (vs ++ v ∷ []) (Some e)
  other e f = h e ∙ sym (place_more vs v (Some e) ∙ lone (link_place_in vs (Some e)) (same_entity v.entity (Some e)) (length vs) f)

  -- what is no entity
  pub none_added : v.entity ≡ None → AreLinkPlaces (vs ++ v ∷ []) old
  none_added none e = other e (ap (λ o. same_entity o (Some e)) none)

  module _ (k : ℕ) (entity : v.entity ≡ Some k) where
    same_as : (e : ℕ) → same_entity v.entity (Some e) ≡ (k == e)
    same_as e = ap (λ o. same_entity o (Some e)) entity

    -- an entity that is a view already
    pub placed_before : (a : ℕ) → get_or old k None ≡ Some a → AreLinkPlaces (vs ++ v ∷ []) old
    placed_before a s e = by (k == e) refl
      where
        by : (b : Bool) → (k == e) ≡ b → get_or old e None ≡ link_place_in (vs ++ v ∷ []) (Some e)
        by false f = other e (same_as e ∙ f)
        by true f =
            let is : k ≡ e = grind (arith, nat_tests, f) in
            let found : link_place_in vs (Some e) ≡ Some a = sym (h e) ∙ (ap (λ i. get_or old i None) (sym is) ∙ s) in
            h e ∙ sym (place_more vs v (Some e) ∙ there (link_place_in vs (Some e)) (same_entity v.entity (Some e)) (length vs) a found)

    -- one that is none
    pub now_placed : get_or old k None ≡ None → k < length old → AreLinkPlaces (vs ++ v ∷ []) (slice_set old k (Some (length vs)))
    now_placed s small e = by (k == e) refl
      where
        by : (b : Bool) → (k == e) ≡ b → get_or (slice_set old k (Some (length vs))) e None ≡ link_place_in (vs ++ v ∷ []) (Some e)
        by false f =
            let differs : e ≢ k = grind (arith, nat_tests, f) in
            get_or-set_other old k e (Some (length vs)) None differs ∙ other e (same_as e ∙ f)
        by true f =
            let is : k ≡ e = grind (arith, nat_tests, f) in
            let missing : link_place_in vs (Some e) ≡ None = sym (h e) ∙ (ap (λ i. get_or old i None) (sym is) ∙ s) in
            ap (λ i. get_or (slice_set old k (Some (length vs))) i None) (sym is)
            ∙ (get_or-set_same old k (Some (length vs)) None small
            ∙ sym (place_more vs v (Some e) ∙ next (link_place_in vs (Some e)) (same_entity v.entity (Some e)) (length vs) missing (same_as e ∙ f)))

-- what is no entity is pushed behind others, or is not
pub none_pushed : (vs new : List Link) (v : Link) (places : List (Option ℕ)) (b : Bool) → AreLinkPlaces vs places → v.entity ≡ None → new ≡ (if b then vs ++ v ∷ [] else vs) → AreLinkPlaces new places
none_pushed vs new v places true h none is = subst (λ (l : List Link). AreLinkPlaces l places) (sym is) (none_added vs v places h none)
none_pushed vs new v places false h none is = subst (λ (l : List Link). AreLinkPlaces l places) (sym is) h
