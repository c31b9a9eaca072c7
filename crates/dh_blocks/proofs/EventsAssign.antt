-- What commands set is assigned among their events, if it is a name of the program; what views keep has numbers from their
-- first variable on.
use Rattle.std.proofs.Common.{◌≡◌, ◌⊎◌, inl, inr, ℕ, ◌+◌, ◌<◌, ◌≤◌, ◌==◌, ◌&&◌, ◌||◌, nat_eq, nat_le, nat_lt, Bool, true, false, List, [], ◌∷◌, ◌++◌, length, Option, Some, None, refl, sym, ◌∙◌, ap, subst, arith}
use Rattle.std.proofs.lemmas.Bool.{eqb-true}
use Rattle.std.proofs.lemmas.Bool.Decides.{nat_tests}
use Rattle.std.proofs.lemmas.Cmp.{nat_eq_equiv}
use Rattle.dh_tree.specs.declared.trees.expressions.Ref.{Ref}
use Rattle.dh_tree.specs.PlainTrees as plain
use Rattle.dh_tree.specs.PlainTrees.{Program, Term, term, ViewPlan, Action, action, lets, lets_memory, views, assigns, stores, reduces, calls, blocks, decides, repeats, counts, MaybeAction, no_action, one_action, Actions, no_actions, action_then, Groups, no_groups, group_then}
use Rattle.dh_tree.specs.Seen.{terms}
use Rattle.dh_tree.specs.ViewOffsets.{offsets_of}
use Rattle.dh_meaning.specs.AccessNumbers.{accesses_of, part_accesses, term_accesses}
use Rattle.dh_meaning.specs.Core.{CoreTerm, CoreCommands, count_terms, no_commands, command_and}
use Rattle.dh_meaning.specs.CoreOf.{Known, core_action, core_groups, core_other, core_part, core_term, core_terms, entity_number, kept_by, known_of, store_to, way_of}
use Rattle.dh_meaning.specs.Levels.{any_assigns}
use Rattle.dh_meaning.specs.Ways.{Hidden, Way, behind_all, hidden_from, hidden_in, part_standings, standings, way_to}
use Rattle.dh_meaning.specs.Sites as sites
use Rattle.dh_meaning.specs.Sites.{in_arm}
use Rattle.dh_meets.specs.SourceEvents.{SourceEvent, accesses, assigned, events, groups_events, other_events, part_events, site_of, source_term_events}
use Rattle.dh_sound.specs.BehindViews.{ActionBehind, GroupsBehind, IsOwn, KeepsFrom, OtherBehind, PartBehind}
use Rattle.dh_sound.proofs.EventsBehind.{behind_more}
use Rattle.dh_blocks.proofs.ElementsAlike.{HasAssigned, IsFree}

pub or_false : (a b : Bool) → a ≡ false → b ≡ false → (a || b) ≡ false
or_false true b e f = cc
or_false false b e f = f

pub either_of : (a b : Bool) → (a || b) ≡ true → (a ≡ true) ⊎ (b ≡ true)
either_of true b h = inl refl
either_of false b h = inr h

pub not_true : (b : Bool) → (b ≡ true → ⊥) → b ≡ false
not_true true h = absurd (h refl)
not_true false h = refl

-- What events assign.

has_left : (o : Option ℕ) (es fs : List SourceEvent) → HasAssigned o es → HasAssigned o (es ++ fs)
has_left o [] fs h = absurd h
has_left o (accesses a ∷ es) fs h = has_left o es fs h
has_left o (assigned q ∷ es) fs (inl e) = inl e
has_left o (assigned q ∷ es) fs (inr h) = inr (has_left o es fs h)

has_right : (o : Option ℕ) (es fs : List SourceEvent) → HasAssigned o fs → HasAssigned o (es ++ fs)
has_right o [] fs h = h
has_right o (accesses a ∷ es) fs h = has_right o es fs h
has_right o (assigned q ∷ es) fs h = inr (has_right o es fs h)

free_first : (m : ℕ) (es fs : List SourceEvent) → IsFree m (es ++ fs) → IsFree m es
free_first m es fs h o in_es = h o (has_left o es fs in_es)

free_then : (m : ℕ) (es fs : List SourceEvent) → IsFree m (es ++ fs) → IsFree m fs
free_then m es fs h o in_fs = h o (has_right o es fs in_fs)

pub not_free : (m : ℕ) (es : List SourceEvent) → IsFree m es → HasAssigned (Some m) es → ⊥
not_free m es free h = clash (nat_eq m m) (nat_eq_equiv.refl m) (free (Some m) h)
  where
    clash : (b : Bool) → b ≡ true → b ≡ false → ⊥
    clash b e f = cc

pub named_is : (p : Program) (r : Ref) (m : ℕ) → IsOwn p r → (m == entity_number r.entity) ≡ true → (r.entity ≡ Some m) × (m < length p.entities)
named_is p r m (e, (is, within)) h =
    let same : m ≡ e = eqb-true m (entity_number r.entity) h ∙ ap entity_number is in
    (is ∙ ap Some (sym same), subst (λ (k : ℕ). k < length p.entities) (sym same) within)

-- the variables of a view begin with this one
abbrev pub HeadIs : (y : ℕ) → List Hidden → List Term → Type 0
HeadIs y hs [] = Unit {0}
HeadIs y [] (t ∷ ts) = Unit {0}
HeadIs y (h ∷ hs) (t ∷ ts) = h.entity ≡ y

head_is : (p : Program) (d y : ℕ) (entity : Option ℕ) (form : ViewPlan) → ((w : Way) → way_to p entity ≡ Some w → KeepsFrom p d y form w) → HeadIs y (hidden_in (way_to p entity)) (offsets_of form)
head_is p d y entity form keeps = by (way_to p entity) refl
  where
    nowhere : (ts : List Term) → HeadIs y [] ts
    nowhere [] = tt
    nowhere (t ∷ ts) = tt

    own : (ts : List Term) (rest : List Hidden) → HeadIs y (hidden_from y d ts ++ rest) ts
    own [] rest = tt
    own (t ∷ ts) rest = refl

    by : (o : Option Way) → way_to p entity ≡ o → HeadIs y (hidden_in o) (offsets_of form)
    by None e = nowhere (offsets_of form)
    by (Some w) e = let k = keeps w e in subst (λ (hs : List Hidden). HeadIs y hs (offsets_of form)) (sym k.is) (own (offsets_of form) k.rest)

-- nothing below it is kept
pub kept_below : (known : Known) (m y n : ℕ) (hs : List Hidden) (ts : List Term) (rest : CoreCommands) → m < y → HeadIs y hs ts → any_assigns m (kept_by hs (core_terms known n (terms ts)) rest) ≡ any_assigns m rest
kept_below known m y n hs [] rest below head = refl
kept_below known m y n [] (t ∷ ts) rest below head = refl
kept_below known m y n (h ∷ hs) (t ∷ ts) rest below head =
    ap (λ c. (c && nat_lt m (h.entity + count_terms (core_terms known n (terms (t ∷ ts))))) || any_assigns m rest) (past h.entity head)
  where
    past : (k : ℕ) → k ≡ y → nat_le k m ≡ false
    past k e = grind (arith, nat_tests, e, below)

module _ (p : Program) (known : Known) (ways : known ≡ known_of p) (m : ℕ) where
  -- it is assigned among events, and a name of the program
  abbrev pub IsAssigned : List SourceEvent → Type 0
  IsAssigned es = HasAssigned (Some m) es × (m < length p.entities)

  at_left : (es fs : List SourceEvent) → IsAssigned es → IsAssigned (es ++ fs)
  at_left es fs h = (has_left (Some m) es fs h.0, h.1)

  at_right : (es fs : List SourceEvent) → IsAssigned fs → IsAssigned (es ++ fs)
  at_right es fs h = (has_right (Some m) es fs h.0, h.1)

  pub head_here : (d y : ℕ) (name : Ref) (form : ViewPlan) → ((w : Way) → way_to p name.entity ≡ Some w → KeepsFrom p d y form w) → HeadIs y (hidden_in (way_of known name)) (offsets_of form)
  head_here d y name form keeps = subst (λ (k : Known). HeadIs y (hidden_in (way_of k name)) (offsets_of form)) (sym ways) (head_is p d y name.entity form keeps)

  pub store_assigns : (n : ℕ) (target : Term) (t : CoreTerm) (rest : CoreCommands) → any_assigns m (command_and (store_to known n target t) rest) ≡ any_assigns m rest
  store_assigns n (term place k (plain.accessed r ts)) t rest = refl
  store_assigns n (term place k (plain.in_bank r bank at row)) t rest = refl
  store_assigns n (term place k (plain.number negative z)) t rest = refl
  store_assigns n (term place k (plain.truth_value b)) t rest = refl
  store_assigns n (term place k (plain.named r)) t rest = refl
  store_assigns n (term place k (plain.applied o l r)) t rest = refl
  store_assigns n (term place k (plain.converted inner to)) t rest = refl

  none_more : (es : List SourceEvent) → IsAssigned es ⊎ (any_assigns m no_commands ≡ true) → IsAssigned es
  none_more es (inl h) = h
  none_more es (inr e) = absurd (cc)

  one_assigned : (r : Ref) (front : List SourceEvent) (rest : Bool) → IsOwn p r → ((m == entity_number r.entity) || rest) ≡ true → IsAssigned (front ++ assigned r.entity ∷ []) ⊎ (rest ≡ true)
  one_assigned r front rest own h = by (either_of (m == entity_number r.entity) rest h)
    where
      by : ((m == entity_number r.entity) ≡ true) ⊎ (rest ≡ true) → IsAssigned (front ++ assigned r.entity ∷ []) ⊎ (rest ≡ true)
      by (inl e) = let named = named_is p r m own e in inl (at_right front (assigned r.entity ∷ []) (inl named.0, named.1))
      by (inr e) = inr e

  mutual
    -- below the first variable that its views keep, a command sets names of the program, which are assigned among its events
    pub events_assign : (r : sites.Around) (d y n : ℕ) (a : Action) (rest : CoreCommands) → m < y → ActionBehind p d y a → any_assigns m (core_action known n a rest) ≡ true → IsAssigned (events r a) ⊎ (any_assigns m rest ≡ true)
    events_assign r d y n (action id place (lets q declared None)) rest below names h = one_assigned q [] (any_assigns m rest) names.0 h
    events_assign r d y n (action id place (lets q declared (Some t))) rest below names h = one_assigned q (source_term_events (site_of r id) t) (any_assigns m rest) names.0 h
    events_assign r d y n (action id place (assigns q t)) rest below names h = one_assigned q (source_term_events (site_of r id) t) (any_assigns m rest) names.0 h
    events_assign r d y n (action id place (stores target t)) rest below names h = inr (sym (store_assigns (n + term_accesses t) target (core_term known n t) rest) ∙ h)
    events_assign r d y n (action id place (reduces q o t)) rest below names h = one_assigned q (source_term_events (site_of r id) t) (any_assigns m rest) names.0 h
    events_assign r d y n (action id place (decides t chosen other)) rest below names h =
        by (λ g. none_more (events (in_arm r id true) chosen) (events_assign (in_arm r id true) d y (n + term_accesses t) chosen no_commands below names.1.0 g))
        (λ g. others_assign (in_arm r id false) d (behind_all y (standings d chosen)) (n + term_accesses t + accesses_of chosen) other (let l = behind_more y (standings d chosen) in omega (arith, l, below)) names.1.1 g)
        (either_of (any_assigns m (core_action known (n + term_accesses t) chosen no_commands) || any_assigns m (core_other known (n + term_accesses t + accesses_of chosen) other)) (any_assigns m rest) h)
      where
        by : (any_assigns m (core_action known (n + term_accesses t) chosen no_commands) ≡ true → IsAssigned (events (in_arm r id true) chosen))
            → (any_assigns m (core_other known (n + term_accesses t + accesses_of chosen) other) ≡ true → IsAssigned (other_events (in_arm r id false) other))
            → ((any_assigns m (core_action known (n + term_accesses t) chosen no_commands) || any_assigns m (core_other known (n + term_accesses t + accesses_of chosen) other)) ≡ true) ⊎ (any_assigns m rest ≡ true)
            → IsAssigned (source_term_events (site_of r id) t ++ (events (in_arm r id true) chosen ++ other_events (in_arm r id false) other)) ⊎ (any_assigns m rest ≡ true)
        by one two (inr e) = inr e
        by one two (inl e) =
            inl (at_right (source_term_events (site_of r id) t) _
            (elim (either_of (any_assigns m (core_action known (n + term_accesses t) chosen no_commands)) (any_assigns m (core_other known (n + term_accesses t + accesses_of chosen) other)) e) [
              | inl g ↦ at_left (events (in_arm r id true) chosen) (other_events (in_arm r id false) other) (one g)
              | inr g ↦ at_right (events (in_arm r id true) chosen) (other_events (in_arm r id false) other) (two g)
            ]))
    events_assign r d y n (action id place (blocks body)) rest below names h = groups_assign r d y n body rest below names h
    events_assign r d y n (action id place (lets_memory name shape shape_places value)) rest below names h = inr h
    events_assign r d y n (action id place (views name parent form)) rest below names h =
        inr (sym (kept_below known m y n (hidden_in (way_of known name)) (offsets_of form) rest below (head_here d y name form names.0)) ∙ h)
    events_assign r d y n (action id place (calls function arguments)) rest below names h = inr h
    events_assign r d y n (action id place (repeats test body)) rest below names h = inr h
    events_assign r d y n (action id place (counts iterator declared low high factor body combine combine_place)) rest below names h = inr h

    others_assign : (r : sites.Around) (d y n : ℕ) (a : MaybeAction) → m < y → OtherBehind p d y a → any_assigns m (core_other known n a) ≡ true → IsAssigned (other_events r a)
    others_assign r d y n no_action below names h = absurd (cc)
    others_assign r d y n (one_action a) below names h = none_more (events r a) (events_assign r d y n a no_commands below names h)

    groups_assign : (r : sites.Around) (d y n : ℕ) (gs : Groups) (rest : CoreCommands) → m < y → GroupsBehind p d y gs → any_assigns m (core_groups known n gs rest) ≡ true → IsAssigned (groups_events r gs) ⊎ (any_assigns m rest ≡ true)
    groups_assign r d y n no_groups rest below names h = inr h
    groups_assign r d y n (group_then part more) rest below names h =
        further (λ g. groups_assign r d (behind_all y (part_standings d part)) (n + part_accesses part) more rest (let l = behind_more y (part_standings d part) in omega (arith, l, below)) names.1 g)
        (part_assign r d y n part (core_groups known (n + part_accesses part) more rest) below names.0 h)
      where
        further : (any_assigns m (core_groups known (n + part_accesses part) more rest) ≡ true → IsAssigned (groups_events r more) ⊎ (any_assigns m rest ≡ true))
            → IsAssigned (part_events r part) ⊎ (any_assigns m (core_groups known (n + part_accesses part) more rest) ≡ true)
            → IsAssigned (part_events r part ++ groups_events r more) ⊎ (any_assigns m rest ≡ true)
        further go (inl h) = inl (at_left (part_events r part) (groups_events r more) h)
        further go (inr e) = elim (go e) [ inl h ↦ inl (at_right (part_events r part) (groups_events r more) h) | inr f ↦ inr f ]

    part_assign : (r : sites.Around) (d y n : ℕ) (q : Actions) (rest : CoreCommands) → m < y → PartBehind p d y q → any_assigns m (core_part known n q rest) ≡ true → IsAssigned (part_events r q) ⊎ (any_assigns m rest ≡ true)
    part_assign r d y n no_actions rest below names h = inr h
    part_assign r d y n (action_then a more) rest below names h =
        further (λ g. part_assign r d (behind_all y (standings d a)) (n + accesses_of a) more rest (let l = behind_more y (standings d a) in omega (arith, l, below)) names.1 g)
        (events_assign r d y n a (core_part known (n + accesses_of a) more rest) below names.0 h)
      where
        further : (any_assigns m (core_part known (n + accesses_of a) more rest) ≡ true → IsAssigned (part_events r more) ⊎ (any_assigns m rest ≡ true))
            → IsAssigned (events r a) ⊎ (any_assigns m (core_part known (n + accesses_of a) more rest) ≡ true)
            → IsAssigned (events r a ++ part_events r more) ⊎ (any_assigns m rest ≡ true)
        further go (inl h) = inl (at_left (events r a) (part_events r more) h)
        further go (inr e) = elim (go e) [ inl h ↦ inl (at_right (events r a) (part_events r more) h) | inr f ↦ inr f ]

  -- it is not assigned among events, or it is behind all names
  abbrev pub IsLeft : List SourceEvent → Type 0
  IsLeft es = IsFree m es ⊎ (length p.entities ≤ m)

  never_assigned : (es : List SourceEvent) → IsLeft es → IsAssigned es → ⊥
  never_assigned es (inl free) h = not_free m es free h.0
  never_assigned es (inr past) h = let l = h.1 in omega (arith, past, l)

  pub left_action : (r : sites.Around) (d y n : ℕ) (a : Action) → m < y → ActionBehind p d y a → IsLeft (events r a) → any_assigns m (core_action known n a no_commands) ≡ false
  left_action r d y n a below names left =
      not_true (any_assigns m (core_action known n a no_commands)) (λ h. never_assigned (events r a) left (none_more (events r a) (events_assign r d y n a no_commands below names h)))

  pub left_other : (r : sites.Around) (d y n : ℕ) (a : MaybeAction) → m < y → OtherBehind p d y a → IsLeft (other_events r a) → any_assigns m (core_other known n a) ≡ false
  left_other r d y n a below names left = not_true (any_assigns m (core_other known n a)) (λ h. never_assigned (other_events r a) left (others_assign r d y n a below names h))

  pub left_first : (es fs : List SourceEvent) → IsLeft (es ++ fs) → IsLeft es
  left_first es fs (inl free) = inl (free_first m es fs free)
  left_first es fs (inr past) = inr past

  pub left_then : (es fs : List SourceEvent) → IsLeft (es ++ fs) → IsLeft fs
  left_then es fs (inl free) = inl (free_then m es fs free)
  left_then es fs (inr past) = inr past
