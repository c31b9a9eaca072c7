-- Views by their entities: the place that is told of an entity is that of its view, also when one more view is added.
use Rattle.std.proofs.Common.{◌≡◌, ◌≢◌, ℕ, zero, suc, ◌<◌, ◌==◌, Bool, true, false, if◌then◌else◌, List, [], ◌∷◌, ◌++◌, length, get_or, Option, Some, None, option_map, refl, ap, sym, ◌∙◌, subst, arith}
use Rattle.std.proofs.lemmas.Bool.Decides.{nat_tests}
use Rattle.std.proofs.lemmas.List.{get_or-set_same, get_or-set_other}
use Rattle.std.specs.Prelude.{slice_set}
use Rattle.dh_tree.proofs.Collecting.{one_more}
use Rattle.dh_tree.specs.declared.viewing.Viewed.{Viewed}
use Rattle.dh_tree.specs.declared.viewing.ViewMap.{ViewMap}
use Rattle.dh_tree.specs.Memories.{same_entity}
use Rattle.dh_tree.specs.Views.{view_in}
use Rattle.dh_viewing.specs.Placed.{AreViewPlaces, TellTheSame, map_at, view_place_in, placed_at}

-- Looking for a view.

further : (v : Viewed) (vs : List Viewed) (o : Option ℕ) → map_at vs o ≡ map_at (v ∷ vs) (option_map suc o)
further v vs None = refl
further v vs (Some n) = refl

at_first : (v : Viewed) (vs : List Viewed) (e : Option ℕ) → view_in vs e ≡ map_at vs (view_place_in vs e)
    → (b : Bool) → (if b then Some v.is else view_in vs e) ≡ map_at (v ∷ vs) (if b then Some 0 else option_map suc (view_place_in vs e))
at_first v vs e rest true = refl
at_first v vs e rest false = rest ∙ further v vs (view_place_in vs e)

looked_up : (vs : List Viewed) (e : Option ℕ) → view_in vs e ≡ map_at vs (view_place_in vs e)
looked_up [] e = refl
looked_up (v ∷ vs) e = at_first v vs e (looked_up vs e) (same_entity v.entity e)

same_none : (e : Option ℕ) → same_entity e None ≡ false
same_none None = refl
same_none (Some n) = refl

none_placed : (vs : List Viewed) → view_place_in vs None ≡ None
none_placed [] = refl
none_placed (v ∷ vs) = ap (λ b. if b then Some 0 else option_map suc (view_place_in vs None)) (same_none v.entity) ∙ ap (λ o. option_map suc o) (none_placed vs)

told : (vs : List Viewed) (places : List (Option ℕ)) (e : Option ℕ) → AreViewPlaces vs places → placed_at places e ≡ view_place_in vs e
told vs places None h = sym (none_placed vs)
told vs places (Some n) h = h n

pub found_by : (vs : List Viewed) (places : List (Option ℕ)) (e place : Option ℕ) (answer : Option ViewMap)
    → AreViewPlaces vs places → place ≡ placed_at places e → answer ≡ map_at vs place → answer ≡ view_in vs e
found_by vs places e place answer h p a = a ∙ (ap (map_at vs) (p ∙ told vs places e h) ∙ sym (looked_up vs e))

-- One more view.

lone : (r : Option ℕ) (b : Bool) (n : ℕ) → b ≡ false → one_more r b n ≡ r
lone (Some a) b n e = refl
lone None true n e = cc
lone None false n e = refl

there : (r : Option ℕ) (b : Bool) (n a : ℕ) → r ≡ Some a → one_more r b n ≡ r
there (Some x) b n a e = refl
there None b n a e = cc

next : (r : Option ℕ) (b : Bool) (n : ℕ) → r ≡ None → b ≡ true → one_more r b n ≡ Some n
next None true n e f = refl
next None false n e f = cc
next (Some a) b n e f = cc

alone : (b : Bool) → (if b then Some 0 else option_map suc None) ≡ one_more None b 0
alone true = refl
alone false = refl

behind : (x b : Bool) (r : Option ℕ) (n : ℕ) → (if x then Some 0 else option_map suc (one_more r b n)) ≡ one_more (if x then Some 0 else option_map suc r) b (suc n)
behind true b r n = refl
behind false b (Some k) n = refl
behind false true None n = refl
behind false false None n = refl

place_more : (vs : List Viewed) (v : Viewed) (e : Option ℕ) → view_place_in (vs ++ v ∷ []) e ≡ one_more (view_place_in vs e) (same_entity v.entity e) (length vs)
place_more [] v e = alone (same_entity v.entity e)
place_more (x ∷ vs) v e =
    ap (λ r. if same_entity x.entity e then Some 0 else option_map suc r) (place_more vs v e)
    ∙ behind (same_entity x.entity e) (same_entity v.entity e) (view_place_in vs e) (length vs)

module _ (vs : List Viewed) (v : Viewed) (old : List (Option ℕ)) (h : AreViewPlaces vs old) where
  other : (e : ℕ) → same_entity v.entity (Some e) ≡ false → get_or old e None ≡ view_place_in (vs ++ v ∷ []) (Some e)
  other e f = h e ∙ sym (place_more vs v (Some e) ∙ lone (view_place_in vs (Some e)) (same_entity v.entity (Some e)) (length vs) f)

  -- what is no entity
  pub none_added : v.entity ≡ None → AreViewPlaces (vs ++ v ∷ []) old
  none_added none e = other e (ap (λ o. same_entity o (Some e)) none)

  module _ (k : ℕ) (entity : v.entity ≡ Some k) where
    same_as : (e : ℕ) → same_entity v.entity (Some e) ≡ (k == e)
    same_as e = ap (λ o. same_entity o (Some e)) entity

    -- an entity that is a view already
    pub placed_before : (a : ℕ) → get_or old k None ≡ Some a → AreViewPlaces (vs ++ v ∷ []) old
    placed_before a s e = by (k == e) refl
      where
        by : (b : Bool) → (k == e) ≡ b → get_or old e None ≡ view_place_in (vs ++ v ∷ []) (Some e)
        by false f = other e (same_as e ∙ f)
        by true f =
            let is : k ≡ e = grind (arith, nat_tests, f) in
            let found : view_place_in vs (Some e) ≡ Some a = sym (h e) ∙ (ap (λ i. get_or old i None) (sym is) ∙ s) in
            h e ∙ sym (place_more vs v (Some e) ∙ there (view_place_in vs (Some e)) (same_entity v.entity (Some e)) (length vs) a found)

    -- one that is none
    pub now_placed : get_or old k None ≡ None → k < length old → AreViewPlaces (vs ++ v ∷ []) (slice_set old k (Some (length vs)))
    now_placed s small e = by (k == e) refl
      where
        by : (b : Bool) → (k == e) ≡ b → get_or (slice_set old k (Some (length vs))) e None ≡ view_place_in (vs ++ v ∷ []) (Some e)
        by false f =
            let differs : e ≢ k = grind (arith, nat_tests, f) in
            get_or-set_other old k e (Some (length vs)) None differs ∙ other e (same_as e ∙ f)
        by true f =
            let is : k ≡ e = grind (arith, nat_tests, f) in
            let missing : view_place_in vs (Some e) ≡ None = sym (h e) ∙ (ap (λ i. get_or old i None) (sym is) ∙ s) in
            ap (λ i. get_or (slice_set old k (Some (length vs))) i None) (sym is)
            ∙ (get_or-set_same old k (Some (length vs)) None small
            ∙ sym (place_more vs v (Some e) ∙ next (view_place_in vs (Some e)) (same_entity v.entity (Some e)) (length vs) missing (same_as e ∙ f)))

-- Room for more entities.

pub none_more : (xs : List (Option ℕ)) (e : ℕ) → get_or (xs ++ None ∷ []) e None ≡ get_or xs e None
none_more [] zero = refl
none_more [] (suc e) = refl
none_more (x ∷ xs) zero = refl
none_more (x ∷ xs) (suc e) = none_more xs e

pub room_more : (first old new : List (Option ℕ)) → TellTheSame first old → new ≡ old ++ None ∷ [] → TellTheSame first new
room_more first old new h is e = ap (λ l. get_or l e None) is ∙ (none_more old e ∙ h e)

pub placed_still : (vs : List Viewed) (old new : List (Option ℕ)) → AreViewPlaces vs old → TellTheSame old new → AreViewPlaces vs new
placed_still vs old new h s e = s e ∙ h e

-- what is no entity is pushed behind others, or is not
pub none_pushed : (vs new : List Viewed) (v : Viewed) (places : List (Option ℕ)) (b : Bool) → AreViewPlaces vs places → v.entity ≡ None → new ≡ (if b then vs ++ v ∷ [] else vs) → AreViewPlaces new places
none_pushed vs new v places true h none is = subst (λ (l : List Viewed). AreViewPlaces l places) (sym is) (none_added vs v places h none)
none_pushed vs new v places false h none is = subst (λ (l : List Viewed). AreViewPlaces l places) (sym is) h
