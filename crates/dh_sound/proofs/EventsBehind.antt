-- What a command accesses stands behind the views before it: so it does behind the views of the command, too. By
-- induction over the command.
use Rattle.std.proofs.Common.{◌≡◌, ℕ, ◌+◌, ◌<◌, ◌≤◌, true, false, List, [], ◌∷◌, ◌++◌, length, Option, Some, None, refl, sym, subst, arith}
use Rattle.std.specs.List.{AllByRecursion}
use Rattle.dh_tree.specs.PlainTrees.{Term, term, number, truth_value, named, accessed, in_bank, applied, converted, Terms, no_terms, term_then, Action, action, ActionForm, lets, lets_memory, views, assigns, stores, reduces, calls, blocks, decides, repeats, counts, MaybeAction, no_action, one_action, Actions, no_actions, action_then, Groups, no_groups, group_then, Program}
use Rattle.dh_tree.specs.Seen.{terms}
use Rattle.dh_tree.specs.ViewOffsets.{offsets_of}
use Rattle.dh_meaning.specs.Bindings.{depth_inside}
use Rattle.dh_meaning.specs.Sites.{Around, in_arm, in_loop, loop_of}
use Rattle.dh_meaning.specs.Ways.{Hidden, ViewSite, behind_all, behind_hidden, form_standings, groups_standings, hidden_in, other_standings, part_standings, standings, way_to}
use Rattle.dh_meets.specs.SourceEvents.{Element, with_indices, in_row, Site, SourceEvent, command_events, events, groups_events, maybe_events, other_events, part_events, site_of, source_term_events, source_terms_events, write_events}
use Rattle.dh_sound.specs.BehindViews.{AccessBehind, ActionBehind, ElementBehind, FormBehind, GroupsBehind, MaybeBehind, OtherBehind, PartBehind, TermBehind, TermsBehind}
use Rattle.dh_sound.specs.Trails.{EachAccess}
use Rattle.dh_sound.specs.ViewTrails.{IsBehind}
use Rattle.dh_sound.proofs.Sites.{each_both, each_so}

-- variables of views are behind those before
pub behind_more : (x : ℕ) (ss : List ViewSite) → x ≤ behind_all x ss
behind_more x [] = omega arith
behind_more x (s ∷ ss) = after x (length (offsets_of s.form)) (behind_all (behind_hidden x s) ss) (behind_more (behind_hidden x s) ss)
  where
    after : (x n y : ℕ) → x + n ≤ y → x ≤ y
    after x n y l = omega (arith, l)

pub behind_both : (x : ℕ) (ss qs : List ViewSite) → behind_all x (ss ++ qs) ≡ behind_all (behind_all x ss) qs
behind_both x [] qs = refl
behind_both x (s ∷ ss) qs = behind_both (behind_hidden x s) ss qs

module _ (p : Program) where
  module _ (x y : ℕ) (up : x ≤ y) where
    way_up : (hs : List Hidden) → AllByRecursion (λ h. h.entity < x) hs → AllByRecursion (λ h. h.entity < y) hs
    way_up [] a = tt
    way_up (h ∷ hs) a = (let l = a.0 in let u = up in omega (arith, l, u), way_up hs a.1)

    mutual
      pub term_up : (t : Term) → TermBehind p x t → TermBehind p y t
      term_up (term place k (number negative n)) h = tt
      term_up (term place k (truth_value value)) h = tt
      term_up (term place k (named r)) h = h
      term_up (term place k (accessed r ts)) h = (way_up (hidden_in (way_to p r.entity)) h.0, terms_up ts h.1)
      term_up (term place k (in_bank r bank at t)) h = (way_up (hidden_in (way_to p r.entity)) h.0, term_up t h.1)
      term_up (term place k (applied o l m)) h = (term_up l h.0, term_up m h.1)
      term_up (term place k (converted t to)) h = term_up t h

      pub terms_up : (ts : Terms) → TermsBehind p x ts → TermsBehind p y ts
      terms_up no_terms h = tt
      terms_up (term_then t ts) h = (term_up t h.0, terms_up ts h.1)

    element_up : (e : Element) → ElementBehind p x e → ElementBehind p y e
    element_up (with_indices ts) h = terms_up ts h
    element_up (in_row bank t) h = term_up t h

    pub seen_up : (es : List SourceEvent) → EachAccess (AccessBehind p x) es → EachAccess (AccessBehind p y) es
    seen_up es h = each_so (AccessBehind p x) (AccessBehind p y) es (λ a q. (way_up (hidden_in (way_to p a.entity)) q.0, element_up a.element q.1)) h

  abbrev Behind : (x : ℕ) → List SourceEvent → Type 0
  Behind x es = EachAccess (AccessBehind p x) es

  module _ (x : ℕ) (site : Site) where
    mutual
      pub term_seen : (t : Term) → TermBehind p x t → Behind x (source_term_events site t)
      term_seen (term place k (number negative n)) h = tt
      term_seen (term place k (truth_value value)) h = tt
      term_seen (term place k (named r)) h = tt
      term_seen (term place k (accessed r ts)) h = each_both _ (source_terms_events site ts) _ (terms_seen ts h.1) (h, tt)
      term_seen (term place k (in_bank r bank at t)) h = each_both _ (source_term_events site t) _ (term_seen t h.1) (h, tt)
      term_seen (term place k (applied o l m)) h = each_both _ (source_term_events site l) _ (term_seen l h.0) (term_seen m h.1)
      term_seen (term place k (converted t to)) h = term_seen t h

      pub terms_seen : (ts : Terms) → TermsBehind p x ts → Behind x (source_terms_events site ts)
      terms_seen no_terms h = tt
      terms_seen (term_then t ts) h = each_both _ (source_term_events site t) _ (term_seen t h.0) (terms_seen ts h.1)

    write_seen : (t : Term) → TermBehind p x t → Behind x (write_events site t)
    write_seen (term place k (number negative n)) h = tt
    write_seen (term place k (truth_value value)) h = tt
    write_seen (term place k (named r)) h = tt
    write_seen (term place k (accessed r ts)) h = each_both _ (source_terms_events site ts) _ (terms_seen ts h.1) (h, tt)
    write_seen (term place k (in_bank r bank at t)) h = each_both _ (source_term_events site t) _ (term_seen t h.1) (h, tt)
    write_seen (term place k (applied o l m)) h = each_both _ (source_term_events site l) _ (term_seen l h.0) (term_seen m h.1)
    write_seen (term place k (converted t to)) h = term_seen t h

    maybe_seen : (m : Option Term) → MaybeBehind p x m → Behind x (maybe_events site m)
    maybe_seen None h = tt
    maybe_seen (Some t) h = term_seen t h

  -- of two parts, one behind the other
  both_seen : (x : ℕ) (ss qs : List ViewSite) (es fs : List SourceEvent) → Behind (behind_all x ss) es → Behind (behind_all (behind_all x ss) qs) fs → Behind (behind_all x (ss ++ qs)) (es ++ fs)
  both_seen x ss qs es fs h g =
      subst (λ (y : ℕ). Behind y (es ++ fs)) (sym (behind_both x ss qs))
      (each_both _ es fs (seen_up (behind_all x ss) (behind_all (behind_all x ss) qs) (behind_more (behind_all x ss) qs) es h) g)

  mutual
    pub action_seen : (d x : ℕ) (r : Around) (a : Action) → ActionBehind p d x a → Behind (behind_all x (standings d a)) (events r a)
    action_seen d x r (action id place form) h = form_seen d x r (site_of r id) form h

    form_seen : (d x : ℕ) (r : Around) (site : Site) (f : ActionForm) → FormBehind p d x f → Behind (behind_all x (form_standings d f)) (command_events r site f)
    form_seen d x r site (lets name declared value) h = each_both _ (maybe_events site value) _ (maybe_seen x site value h.1) tt
    form_seen d x r site (lets_memory name shape shape_places value) h = tt
    form_seen d x r site (views name parent form) h = seen_up x _ (behind_more x (form_standings d (views name parent form))) (source_terms_events site (terms (offsets_of form))) (terms_seen x site (terms (offsets_of form)) h.1)
    form_seen d x r site (assigns target value) h = each_both _ (source_term_events site value) _ (term_seen x site value h.1) tt
    form_seen d x r site (stores target value) h = each_both _ (source_term_events site value) _ (term_seen x site value h.1) (write_seen x site target h.0)
    form_seen d x r site (reduces target op value) h = each_both _ (source_term_events site value) _ (term_seen x site value h.1) tt
    form_seen d x r site (calls function arguments) h = tt
    form_seen d x r site (blocks body) h = groups_seen d x r body h
    form_seen d x r site (decides test chosen other) h =
        each_both _ (source_term_events site test) _ (seen_up x _ (behind_more x (standings d chosen ++ other_standings d other)) (source_term_events site test) (term_seen x site test h.0))
        (both_seen x (standings d chosen) (other_standings d other) (events (in_arm r site.command true) chosen) (other_events (in_arm r site.command false) other)
        (action_seen d x (in_arm r site.command true) chosen h.1.0) (other_seen d (behind_all x (standings d chosen)) (in_arm r site.command false) other h.1.1))
    form_seen d x r site (repeats test body) h =
        each_both _ (source_term_events site test) _ (seen_up x _ (behind_more x (standings d body)) (source_term_events site test) (term_seen x site test h.0)) (action_seen d x r body h.1)
    form_seen d x r site (counts iterator declared low high factor body combine combine_place) h =
        let di = depth_inside d factor.value in
        let inner : Around = in_loop r (loop_of iterator low high factor) in
        both_seen x (standings di body) (other_standings di combine) (events inner body) (other_events inner combine) (action_seen di x inner body h.1.0) (other_seen di (behind_all x (standings di body)) inner combine h.1.1)

    other_seen : (d x : ℕ) (r : Around) (m : MaybeAction) → OtherBehind p d x m → Behind (behind_all x (other_standings d m)) (other_events r m)
    other_seen d x r no_action h = tt
    other_seen d x r (one_action a) h = action_seen d x r a h

    groups_seen : (d x : ℕ) (r : Around) (gs : Groups) → GroupsBehind p d x gs → Behind (behind_all x (groups_standings d gs)) (groups_events r gs)
    groups_seen d x r no_groups h = tt
    groups_seen d x r (group_then part rest) h =
        both_seen x (part_standings d part) (groups_standings d rest) (part_events r part) (groups_events r rest) (part_seen d x r part h.0) (groups_seen d (behind_all x (part_standings d part)) r rest h.1)

    pub part_seen : (d x : ℕ) (r : Around) (q : Actions) → PartBehind p d x q → Behind (behind_all x (part_standings d q)) (part_events r q)
    part_seen d x r no_actions h = tt
    part_seen d x r (action_then a rest) h =
        both_seen x (standings d a) (part_standings d rest) (events r a) (part_events r rest) (action_seen d x r a h.0) (part_seen d (behind_all x (standings d a)) r rest h.1)

  -- with a part behind those before, which stands behind more views
  pub behind_then : (x y : ℕ) (before part : List SourceEvent) → x ≤ y → IsBehind p x before → EachAccess (AccessBehind p y) part → IsBehind p y (before ++ part)
  behind_then x y before part up at h = record {
    own = (let l = at.own in omega (arith, l, up));
    seen = each_both (AccessBehind p y) before part (seen_up x y up before at.seen) h;
  }

  -- behind a test, which keeps nothing
  pub behind_test : (x : ℕ) (site : Site) (before : List SourceEvent) (t : Term) → IsBehind p x before → TermBehind p x t → IsBehind p x (before ++ source_term_events site t)
  behind_test x site before t at h = behind_then x x before (source_term_events site t) (same x) at (term_seen x site t h)
    where
      same : (n : ℕ) → n ≤ n
      same n = omega arith

  -- behind a command, and behind a part of a list
  pub behind_action : (d x : ℕ) (r : Around) (before : List SourceEvent) (a : Action) → IsBehind p x before → ActionBehind p d x a → IsBehind p (behind_all x (standings d a)) (before ++ events r a)
  behind_action d x r before a at h = behind_then x (behind_all x (standings d a)) before (events r a) (behind_more x (standings d a)) at (action_seen d x r a h)

  pub behind_part : (d x : ℕ) (r : Around) (before : List SourceEvent) (q : Actions) → IsBehind p x before → PartBehind p d x q → IsBehind p (behind_all x (part_standings d q)) (before ++ part_events r q)
  behind_part d x r before q at h = behind_then x (behind_all x (part_standings d q)) before (part_events r q) (behind_more x (part_standings d q)) at (part_seen d x r q h)
