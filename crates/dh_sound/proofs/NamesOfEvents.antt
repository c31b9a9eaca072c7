-- An access that a straight command makes, or that its test makes, has in its indices only names that the command
-- uses; so they are in scope where those of the command are. The access of a number is found in the part that
-- has this number; a loop that stands in a straight command makes none.
use Rattle.std.proofs.Common.{◌≡◌, ℕ, ◌+◌, ◌||◌, ◌⊎◌, inl, inr, true, false, List, [], ◌∷◌, ◌++◌, Option, Some, None, subst, arith}
use Rattle.dh_base.specs.declared.places.Place.{Place}
use Rattle.dh_tree.specs.declared.trees.expressions.Ref.{Ref}
use Rattle.dh_tree.specs.PlainTrees.{Term, term, TermForm, number, truth_value, named, accessed, in_bank, applied, converted, Terms, no_terms, term_then, Action, action, ActionForm, lets, lets_memory, views, assigns, stores, reduces, calls, blocks, decides, repeats, counts, MaybeAction, no_action, one_action, Actions, no_actions, action_then, Groups, no_groups, group_then}
use Rattle.dh_meaning.specs.AccessNumbers.{term_accesses, accesses_of, part_accesses}
use Rattle.dh_meaning.specs.Core.{Turning}
use Rattle.dh_meaning.specs.CoreOf.{Known}
use Rattle.dh_meaning.specs.OnePhase.{is_between, makes, form_makes, other_makes, groups_make, part_makes, tests_make}
use Rattle.dh_meaning.specs.Sites.{Around, in_arm}
use Rattle.dh_meets.specs.SourceEvents.{Site, SourceAccess, SourceEvent, accesses, assigned, site_of, source_term_events, form_events, source_terms_events, maybe_events, write_events, events, command_events, other_events, groups_events, part_events}
use Rattle.dh_sound.specs.NamesInScope.{InScope, MaybeInScope, IsScoped, FormScoped, OtherScoped, GroupsScoped, PartScoped}
use Rattle.dh_sound.specs.SameKeys.{EachName, EachNameForm, EachNameOf, EachNameIn}
use Rattle.dh_sound.proofs.EventCounts.{count_in, term_counted, events_counted, part_counted}
use Rattle.dh_sound.proofs.SamePhase.{either}
use Rattle.dh_sound.proofs.Sited.{At, at_either, first_of, second_of, within_span, makes_within, other_makes_within, part_makes_within, groups_make_within}
use Rattle.dh_tree.specs.Seen.{terms}
use Rattle.dh_tree.specs.ViewOffsets.{offsets_of}

module _ (k : ℕ) (a : SourceAccess) (P : Ref → Type 0) where
  -- the last access, or one before it
  one_names : (n : ℕ) (b : SourceAccess) (es : List SourceEvent) → EachNameIn P b.element → (At n k es a → EachNameIn P a.element) → At n k (es ++ accesses b ∷ []) a → EachNameIn P a.element
  one_names n b es e more h = side (at_either k a n es (accesses b ∷ []) h)
    where
      side : At n k es a ⊎ At (n + count_in es) k (accesses b ∷ []) a → EachNameIn P a.element
      side (inl g) = more g
      side (inr (inl g)) = subst (λ (x : SourceAccess). EachNameIn P x.element) g.1 e
      side (inr (inr g)) = elim g [ ]

  two_names : (n : ℕ) (es fs : List SourceEvent) → ((m : ℕ) → At m k es a → EachNameIn P a.element) → ((m : ℕ) → At m k fs a → EachNameIn P a.element) → At n k (es ++ fs) a → EachNameIn P a.element
  two_names n es fs f g h = elim (at_either k a n es fs h) [ inl x ↦ f _ x | inr y ↦ g _ y ]

  no_names : (n : ℕ) (entity : Option ℕ) → At n k (assigned entity ∷ []) a → EachNameIn P a.element
  no_names n entity h = elim h [ ]

  -- the accesses of an expression
  mutual
    pub term_names : (site : Site) (t : Term) (n : ℕ) → EachName P t → At n k (source_term_events site t) a → EachNameIn P a.element
    term_names site (term place kind form) n e h = form_names site place form n e h

    form_names : (site : Site) (place : Place) (f : TermForm) (n : ℕ) → EachNameForm P f → At n k (form_events site place f) a → EachNameIn P a.element
    form_names site place (number negative v) n e h = elim h [ ]
    form_names site place (truth_value value) n e h = elim h [ ]
    form_names site place (named r) n e h = elim h [ ]
    form_names site place (accessed r indices) n e h = one_names n _ (source_terms_events site indices) e (terms_names site indices n e) h
    form_names site place (in_bank r bank bank_place row) n e h = one_names n _ (source_term_events site row) e (term_names site row n e) h
    form_names site place (applied op left right) n e h =
        two_names n (source_term_events site left) (source_term_events site right) (λ m g. term_names site left m e.0 g) (λ m g. term_names site right m e.1 g) h
    form_names site place (converted inner to) n e h = term_names site inner n e h

    terms_names : (site : Site) (ts : Terms) (n : ℕ) → EachNameOf P ts → At n k (source_terms_events site ts) a → EachNameIn P a.element
    terms_names site no_terms n e h = elim h [ ]
    terms_names site (term_then t rest) n e h =
        two_names n (source_term_events site t) (source_terms_events site rest) (λ m g. term_names site t m e.0 g) (λ m g. terms_names site rest m e.1 g) h

  write_names : (site : Site) (t : Term) (n : ℕ) → EachName P t → At n k (write_events site t) a → EachNameIn P a.element
  write_names site (term place kind (accessed r indices)) n e h = one_names n _ (source_terms_events site indices) e (terms_names site indices n e) h
  write_names site (term place kind (in_bank r bank bank_place row)) n e h = one_names n _ (source_term_events site row) e (term_names site row n e) h
  write_names site (term place kind (number negative v)) n e h = elim h [ ]
  write_names site (term place kind (truth_value value)) n e h = elim h [ ]
  write_names site (term place kind (named r)) n e h = elim h [ ]
  write_names site (term place kind (applied op left right)) n e h =
      two_names n (source_term_events site left) (source_term_events site right) (λ m g. term_names site left m e.0 g) (λ m g. term_names site right m e.1 g) h
  write_names site (term place kind (converted inner to)) n e h = term_names site inner n e h

module _ (k : ℕ) (a : SourceAccess) (known : Known) (loops : List Turning) where
  abbrev Named : Type 0
  Named = EachNameIn (InScope known loops) a.element

  maybe_names : (site : Site) (o : Option Term) (n : ℕ) → MaybeInScope known loops o → At n k (maybe_events site o) a → Named
  maybe_names site None n e h = elim h [ ]
  maybe_names site (Some t) n e h = term_names k a (InScope known loops) site t n e h

  own_names : (site : Site) (t : Term) (n : ℕ) → EachName (InScope known loops) t → At n k (source_term_events site t) a → Named
  own_names site t n e h = term_names k a (InScope known loops) site t n e h

  assign_names : (site : Site) (t : Term) (entity : Option ℕ) (n : ℕ) → EachName (InScope known loops) t → At n k (source_term_events site t ++ assigned entity ∷ []) a → Named
  assign_names site t entity n e h =
      two_names k a (InScope known loops) n (source_term_events site t) (assigned entity ∷ []) (λ m g. own_names site t m e g) (λ m g. no_names k a (InScope known loops) m entity g) h

  mutual
    -- an access that a straight command makes
    pub made_names : (r : Around) (n : ℕ) (x : Action) → IsScoped known loops x → makes k n x ≡ true → At n k (events r x) a → Named
    made_names r n (action id place form) e m h = command_names r n id form e m h

    command_names : (r : Around) (n id : ℕ) (f : ActionForm) → FormScoped known loops f → form_makes k n f ≡ true → At n k (command_events r (site_of r id) f) a → Named
    command_names r n id (lets name declared value) e m h =
        two_names k a (InScope known loops) n (maybe_events (site_of r id) value) (assigned name.entity ∷ []) (λ i g. maybe_names (site_of r id) value i e g)
        (λ i g. no_names k a (InScope known loops) i name.entity g) h
    command_names r n id (lets_memory name shape shape_places value) e m h = elim h [ ]
    command_names r n id (views name parent form) e m h = terms_names k a (InScope known loops) (site_of r id) (terms (offsets_of form)) n e h
    command_names r n id (assigns target value) e m h = assign_names (site_of r id) value target.entity n e h
    command_names r n id (stores target value) e m h =
        two_names k a (InScope known loops) n (source_term_events (site_of r id) value) (write_events (site_of r id) target) (λ i g. own_names (site_of r id) value i e.1 g)
        (λ i g. write_names k a (InScope known loops) (site_of r id) target i e.0 g) h
    command_names r n id (reduces target op value) e m h = assign_names (site_of r id) value target.entity n e h
    command_names r n id (calls function arguments) e m h = elim h [ ]
    command_names r n id (blocks body) e m h = groups_names r n body e m h
    command_names r n id (decides test arm other) e m h =
        by (either (is_between k n (term_accesses test)) _ m) (made_names (in_arm r id true) (n + term_accesses test) arm e.1.0)
        (other_names (in_arm r id false) (n + term_accesses test + accesses_of arm) other e.1.1)
      where
        by : (is_between k n (term_accesses test) ≡ true) ⊎ ((makes k (n + term_accesses test) arm || other_makes k (n + term_accesses test + accesses_of arm) other) ≡ true)
            → (makes k (n + term_accesses test) arm ≡ true → At (n + term_accesses test) k (events (in_arm r id true) arm) a → Named)
            → (other_makes k (n + term_accesses test + accesses_of arm) other ≡ true → At (n + term_accesses test + accesses_of arm) k (other_events (in_arm r id false) other) a → Named)
            → Named
        by (inl w) f g =
            own_names (site_of r id) test n e.0
            (first_of k a n (term_accesses test) (source_term_events (site_of r id) test) _ (term_counted (site_of r id) test) (within_span k n (term_accesses test) w) h)
        by (inr w) f g = side (either (makes k (n + term_accesses test) arm) _ w)
          where
            side : (makes k (n + term_accesses test) arm ≡ true) ⊎ (other_makes k (n + term_accesses test + accesses_of arm) other ≡ true) → Named
            side (inl d) =
                let w = makes_within k (n + term_accesses test) arm d in
                f d (first_of k a (n + term_accesses test) (accesses_of arm) (events (in_arm r id true) arm) _ (events_counted (in_arm r id true) arm) w
                (second_of k a n (term_accesses test) (source_term_events (site_of r id) test) (events (in_arm r id true) arm ++ other_events (in_arm r id false) other) (term_counted (site_of r id) test) w.0 h))
            side (inr d) =
                let w = other_makes_within k (n + term_accesses test + accesses_of arm) other d in
                let v = w.0 in
                g d (second_of k a (n + term_accesses test) (accesses_of arm) (events (in_arm r id true) arm) (other_events (in_arm r id false) other) (events_counted (in_arm r id true) arm) w.0
                (second_of k a n (term_accesses test) (source_term_events (site_of r id) test) (events (in_arm r id true) arm ++ other_events (in_arm r id false) other) (term_counted (site_of r id) test) (omega (arith, v)) h))
    command_names r n id (repeats test body) e m h = absurd cc
    command_names r n id (counts iterator declared low high factor body combine combine_place) e m h = absurd cc

    other_names : (r : Around) (n : ℕ) (o : MaybeAction) → OtherScoped known loops o → other_makes k n o ≡ true → At n k (other_events r o) a → Named
    other_names r n no_action e m h = elim h [ ]
    other_names r n (one_action x) e m h = made_names r n x e m h

    groups_names : (r : Around) (n : ℕ) (gs : Groups) → GroupsScoped known loops gs → groups_make k n gs ≡ true → At n k (groups_events r gs) a → Named
    groups_names r n no_groups e m h = elim h [ ]
    groups_names r n (group_then part rest) e m h =
        elim (either (part_makes k n part) (groups_make k (n + part_accesses part) rest) m) [
          | inl d ↦ part_names r n part e.0 d (first_of k a n (part_accesses part) (part_events r part) (groups_events r rest) (part_counted r part) (part_makes_within k n part d) h)
          | inr d ↦ groups_names r (n + part_accesses part) rest e.1 d (second_of k a n (part_accesses part) (part_events r part) (groups_events r rest) (part_counted r part) (groups_make_within k (n + part_accesses part) rest d).0 h)
        ]

    part_names : (r : Around) (n : ℕ) (xs : Actions) → PartScoped known loops xs → part_makes k n xs ≡ true → At n k (part_events r xs) a → Named
    part_names r n no_actions e m h = elim h [ ]
    part_names r n (action_then x rest) e m h =
        elim (either (makes k n x) (part_makes k (n + accesses_of x) rest) m) [
          | inl d ↦ made_names r n x e.0 d (first_of k a n (accesses_of x) (events r x) (part_events r rest) (events_counted r x) (makes_within k n x d) h)
          | inr d ↦ part_names r (n + accesses_of x) rest e.1 d (second_of k a n (accesses_of x) (events r x) (part_events r rest) (events_counted r x) (part_makes_within k (n + accesses_of x) rest d).0 h)
        ]

  -- an access that the test of a command makes
  pub tested_names : (r : Around) (n : ℕ) (c : Action) → IsScoped known loops c → tests_make k n c ≡ true → At n k (events r c) a → Named
  tested_names r n (action id place (decides test arm other)) e m h =
      own_names (site_of r id) test n e.0 (first_of k a n (term_accesses test) (source_term_events (site_of r id) test) _ (term_counted (site_of r id) test) (within_span k n (term_accesses test) m) h)
  tested_names r n (action id place (repeats test body)) e m h =
      own_names (site_of r id) test n e.0 (first_of k a n (term_accesses test) (source_term_events (site_of r id) test) _ (term_counted (site_of r id) test) (within_span k n (term_accesses test) m) h)
  tested_names r n (action id place (lets name declared value)) e m h = absurd cc
  tested_names r n (action id place (lets_memory name shape shape_places value)) e m h = absurd cc
  tested_names r n (action id place (views name parent form)) e m h = absurd cc
  tested_names r n (action id place (assigns target value)) e m h = absurd cc
  tested_names r n (action id place (stores target value)) e m h = absurd cc
  tested_names r n (action id place (reduces target op value)) e m h = absurd cc
  tested_names r n (action id place (calls function arguments)) e m h = absurd cc
  tested_names r n (action id place (blocks body)) e m h = absurd cc
  tested_names r n (action id place (counts iterator declared low high factor body combine combine_place)) e m h = absurd cc
