-- Notes of what happens, one behind the other.
use Rattle.std.proofs.Common.{◌≡◌, ℕ, Bool, List, [], ◌∷◌, ◌++◌, append_assoc, refl, ap, sym, ◌∙◌}
use Rattle.std.specs.Prelude.{Option, Some, None, option_map}
use Rattle.std.specs.Option.{is_some}
use Rattle.std.specs.Global.{Box}
use Rattle.dh_tree.specs.declared.trees.commands.Command.{Command}
use Rattle.dh_tree.specs.Seen.{action_seen, maybe_seen}
use Rattle.dh_base.specs.declared.places.Place.{Place}
use Rattle.dh_value.specs.declared.kinds.Kind.{Kind}
use Rattle.dh_tree.specs.declared.trees.expressions.Ref.{Ref}
use Rattle.dh_tree.specs.PlainTrees.{Placed, Unrolled, Term, Action, ActionForm, blocks, decides, repeats, counts, MaybeAction, no_action, one_action, Groups}
use Rattle.dh_tree.proofs.Collecting.{found_both}
use Rattle.dh_events.specs.declared.events.Notes.{Notes}
use Rattle.dh_events.specs.declared.noting.Open.{Open}
use Rattle.dh_events.specs.Elements.{StaysNoted, StaysRead}
use Rattle.dh_events.specs.Incidents.{PortEvent, assigned, arm_begins, arm_ends, begins, next, ends, site_at, is_stepped, closed, released, tested, inside_choice, behind_loop, round_inside, when_parted, has_other, arms_part, are_parts, open_after, form_open, groups_open, open_combine, incidents, command_incidents, other_incidents, combine_incidents, groups_incidents, term_incidents}
use Rattle.dh_events.proofs.ElementFacts.{extends_both}

-- an `if` has another arm where the code sees one
pub some_other : (o : Option (Box Command)) → is_some o ≡ has_other (maybe_seen (option_map (λ b. action_seen b.value) o))
some_other None = refl
some_other (Some b) = refl

-- Notes stay right, one behind the other.

pub read_noted : (old new : Notes) → StaysRead old new → StaysNoted old new
read_noted old new f = record { extends = f.extends; noted = f.noted }

pub both_noted : (old mid new : Notes) → StaysNoted old mid → StaysNoted mid new → StaysNoted old new
both_noted old mid new f g = record { extends = extends_both old.structures mid.structures new.structures f.extends g.extends; noted = λ i. g.noted (f.noted i) }

-- commands between reads, and two of them
pub noted_between : (old x1 x2 new : Notes) → StaysRead old x1 → StaysNoted x1 x2 → StaysRead x2 new → StaysNoted old new
noted_between old x1 x2 new f g h = both_noted old x1 new (read_noted old x1 f) (both_noted x1 x2 new g (read_noted x2 new h))

pub choice_stays : (old x1 x2 x3 x4 new : Notes) → StaysRead old x1 → StaysNoted x1 x2 → StaysRead x2 x3 → StaysNoted x3 x4 → StaysRead x4 new → StaysNoted old new
choice_stays old x1 x2 x3 x4 new f1 f2 f3 f4 f5 = both_noted old x2 new (both_noted old x1 x2 (read_noted old x1 f1) f2) (noted_between x2 x3 x4 new f3 f4 f5)

-- what another arm tells, with its ends
other_told : (f : ℕ → ℕ) (round : Option ℕ) (g : Open) (other : MaybeAction) → when_parted (has_other other) arm_begins ++ (combine_incidents f round g other ++ when_parted (has_other other) arm_ends) ≡ other_incidents f round g other
other_told f round g no_action = refl
other_told f round g (one_action a) = refl

regrouped : (x y : PortEvent) (test parted chosen between begun second ended last : List PortEvent)
    → (test ++ (parted ++ x ∷ [])) ++ (chosen ++ ((y ∷ (between ++ begun)) ++ (second ++ (ended ++ last)))) ≡ test ++ (parted ++ (x ∷ (chosen ++ (y ∷ (between ++ ((begun ++ (second ++ ended)) ++ last))))))
regrouped x y test parted chosen between begun second ended last = simp append_assoc

-- commands with commands inside
module _ (f : ℕ → ℕ) (round : Option ℕ) (g : Open) (id : ℕ) (form : ActionForm) where
  module _ (test : Term) (chosen : Action) (other : MaybeAction) (is : form ≡ decides test chosen other) (inside : Open) (inside_is : inside ≡ inside_choice (is_stepped f id) (tested (is_stepped f id) g id)) where
    pub choice_noted : (old x1 x2 x3 x4 new : List PortEvent) → x1 ≡ old ++ (term_incidents (site_at (tested (is_stepped f id) g id) round) test ++ (when_parted (arms_part round other) begins ++ arm_begins ∷ []))
        → x2 ≡ x1 ++ incidents f round inside chosen → x3 ≡ x2 ++ arm_ends ∷ (when_parted (arms_part round other) next ++ when_parted (has_other other) arm_begins)
        → x4 ≡ x3 ++ combine_incidents f round inside other → new ≡ x4 ++ (when_parted (has_other other) arm_ends ++ when_parted (arms_part round other) ends)
        → new ≡ old ++ command_incidents f round g id form
    choice_noted old x1 x2 x3 x4 new f1 f2 f3 f4 f5 =
        found_both new x1 old _ _ f1
        (found_both new x2 x1 _ _ (f2 ∙ ap (λ h. x1 ++ incidents f round h chosen) inside_is)
        (found_both new x3 x2 _ _ f3 (found_both new x4 x3 _ _ (f4 ∙ ap (λ h. x3 ++ combine_incidents f round h other) inside_is) f5)))
        ∙ (ap (λ l. old ++ l)
        (regrouped arm_begins arm_ends (term_incidents (site_at (tested (is_stepped f id) g id) round) test) (when_parted (arms_part round other) begins) (incidents f round (inside_choice (is_stepped f id) (tested (is_stepped f id) g id)) chosen)
        (when_parted (arms_part round other) next) (when_parted (has_other other) arm_begins) (combine_incidents f round (inside_choice (is_stepped f id) (tested (is_stepped f id) g id)) other) (when_parted (has_other other) arm_ends) (when_parted (arms_part round other) ends))
        ∙ (ap
        (λ (o : List PortEvent). old ++ (term_incidents (site_at (tested (is_stepped f id) g id) round) test ++ (when_parted (arms_part round other) begins ++ (arm_begins ∷ (incidents f round (inside_choice (is_stepped f id) (tested (is_stepped f id) g id)) chosen
        ++ (arm_ends ∷ (when_parted (arms_part round other) next ++ (o ++ when_parted (arms_part round other) ends))))))))
        (other_told f round (inside_choice (is_stepped f id) (tested (is_stepped f id) g id)) other)
        ∙ ap (λ t. old ++ command_incidents f round g id t) (sym is)))

    pub choice_opens : (after : Open) → after ≡ inside → after ≡ form_open f g id form
    choice_opens after e = e ∙ (inside_is ∙ ap (λ t. form_open f g id t) (sym is))

  pub while_noted : (test : Term) (body : Action) → form ≡ repeats test body → (old x1 x2 new : List PortEvent) → x1 ≡ old ++ begins ∷ (term_incidents (site_at id round) test ++ next ∷ [])
      → x2 ≡ x1 ++ incidents f round closed body → new ≡ x2 ++ ends ∷ [] → new ≡ old ++ command_incidents f round g id form
  while_noted test body is old x1 x2 new f1 f2 f3 =
      found_both new x1 old (begins ∷ (term_incidents (site_at id round) test ++ next ∷ [])) _ f1 (found_both new x2 x1 _ _ f2 f3)
      ∙ (ap (λ l. old ++ (begins ∷ l)) (append_assoc (term_incidents (site_at id round) test) (next ∷ []) (incidents f round closed body ++ ends ∷ [])) ∙ ap (λ t. old ++ command_incidents f round g id t) (sym is))

  pub while_opens : (test : Term) (body : Action) → form ≡ repeats test body → (after : Open) → after ≡ closed → after ≡ form_open f g id form
  while_opens test body is after e = e ∙ ap (λ t. form_open f g id t) (sym is)

  module _ (iterator : Ref) (declared : Option Kind) (low high : Placed) (factor : Unrolled) (body : Action) (combine : MaybeAction) (combine_place : Place) (is : form ≡ counts iterator declared low high factor body combine combine_place) where
    pub loop_noted : (inner : Option ℕ) (turn joins : Open) → inner ≡ round_inside round id factor.value → turn ≡ open_after f closed body → joins ≡ open_combine f turn combine → (old x1 x2 new : List PortEvent) → x1 ≡ old ++ assigned iterator.entity ∷ []
        → x2 ≡ x1 ++ incidents f inner closed body → new ≡ x2 ++ combine_incidents f inner joins combine → new ≡ old ++ command_incidents f round g id form
    loop_noted inner turn joins inner_is turn_is joins_are old x1 x2 new f1 f2 f3 =
        found_both new x1 old (assigned iterator.entity ∷ []) _ f1
        (found_both new x2 x1 _ _ (f2 ∙ ap (λ i. x1 ++ incidents f i closed body) inner_is)
        (f3 ∙ (ap (λ h. x2 ++ combine_incidents f inner h combine) (joins_are ∙ ap (λ h. open_combine f h combine) turn_is) ∙ ap (λ i. x2 ++ combine_incidents f i (open_combine f (open_after f closed body) combine) combine) inner_is)))
        ∙ ap (λ t. old ++ command_incidents f round g id t) (sym is)

    pub loop_opens : (stepped : Bool) (after : Open) → stepped ≡ is_stepped f id → after ≡ behind_loop stepped g → after ≡ form_open f g id form
    loop_opens stepped after stepped_is e = e ∙ (ap (λ s. behind_loop s g) stepped_is ∙ ap (λ t. form_open f g id t) (sym is))

  pub block_noted : (body : Groups) → form ≡ blocks body → (stepped parted : Bool) (inside : Open) → stepped ≡ is_stepped f id → parted ≡ are_parts body → inside ≡ released stepped g → (old x1 x2 new : List PortEvent)
      → x1 ≡ old ++ when_parted parted begins → x2 ≡ x1 ++ groups_incidents f round stepped parted inside body → new ≡ x2 ++ when_parted parted ends → new ≡ old ++ command_incidents f round g id form
  block_noted body is stepped parted inside stepped_is parted_is inside_is old x1 x2 new f1 f2 f3 =
      found_both new x1 old _ _ (f1 ∙ ap (λ b. old ++ when_parted b begins) parted_is)
      (found_both new x2 x1 _ _
      (f2 ∙ (ap (λ h. x1 ++ groups_incidents f round stepped parted h body) inside_is ∙ (ap (λ s. x1 ++ groups_incidents f round s parted (released s g) body) stepped_is ∙ ap (λ b. x1 ++ groups_incidents f round (is_stepped f id) b (released (is_stepped f id) g) body) parted_is)))
      (f3 ∙ ap (λ b. x2 ++ when_parted b ends) parted_is))
      ∙ ap (λ t. old ++ command_incidents f round g id t) (sym is)

  pub block_opens : (body : Groups) → form ≡ blocks body → (stepped : Bool) (inside last after : Open) → stepped ≡ is_stepped f id → inside ≡ released stepped g → last ≡ groups_open f stepped inside body → after ≡ released stepped last
      → after ≡ form_open f g id form
  block_opens body is stepped inside last after stepped_is inside_is last_is after_is =
      after_is ∙ (ap (λ l. released stepped l) (last_is ∙ ap (λ h. groups_open f stepped h body) inside_is) ∙ (ap (λ s. released s (groups_open f s (released s g) body)) stepped_is ∙ ap (λ t. form_open f g id t) (sym is)))
