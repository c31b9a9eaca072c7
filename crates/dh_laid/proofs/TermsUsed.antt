-- Expressions and stores at one path: what each part uses, behind the parts before it.
use Rattle.std.proofs.Common.{◌≡◌, ◌<◌, ◌+◌, ◌^◌, ℕ, suc, List, Some, None, ap, sym, ◌∙◌, subst, length, arith, refl, add-one}
use Rattle.std.specs.Prelude.{false, [], ◌∷◌, ◌++◌, Option, slice_get}
use Rattle.dh_base.specs.declared.places.Place.{Place}
use Rattle.dh_value.specs.declared.kinds.Kind.{Kind}
use Rattle.dh_value.specs.Operations.{truth}
use Rattle.dh_tree.specs.declared.trees.expressions.Ref.{Ref}
use Rattle.dh_tree.specs.Indices.{form_of}
use Rattle.dh_tree.specs.PlainTrees as plain
use Rattle.dh_tree.specs.PlainTrees.{Term}
use Rattle.dh_meaning.specs.AccessNumbers.{form_accesses, term_accesses, terms_accesses}
use Rattle.dh_meaning.specs.Bindings.{kind_or_first}
use Rattle.dh_meaning.specs.CoreOf.{entity_number, memory_of, way_of}
use Rattle.dh_code.specs.Slots.{held_at}
use Rattle.dh_plan.specs.declared.operations.OperationForm.TheVariants.{Constant}
use Rattle.dh_plan.specs.declared.operations.ReachStep.{ReachStep}
use Rattle.dh_plan.specs.DoneProgram.{product_of}
use Rattle.dh_expressions.specs.declared.accesses.Accesses.{Accesses}
use Rattle.dh_expressions.specs.declared.drafts.Draft.{Draft}
use Rattle.dh_expressions.specs.declared.elements.Aim.{Aim}
use Rattle.dh_expressions.specs.declared.scenes.Lane.{Lane}
use Rattle.dh_expressions.specs.declared.scenes.Scene.{Scene}
use Rattle.dh_expressions.specs.Evaluated.{counter_of, known_in}
use Rattle.dh_expressions.specs.MadeTerms.{MadeRead, MadeTerm, MadeTerms, MadeWay}
use Rattle.dh_expressions.specs.Named.{first_view}
use Rattle.dh_expressions.specs.Shown.{is_kept}
use Rattle.dh_formed.specs.Counted.{AreNext, HaveGiven, given_at_paths, ranged, use_shared}
use Rattle.dh_formed.specs.Formed.{BlockSite}
use Rattle.dh_formed.proofs.TermsCounted.{given_again, given_none, next_first, next_second}
use Rattle.dh_formed.proofs.TermsFormed.{all_numbered, numbered}
use Rattle.dh_formed.proofs.ValuesCounted.{number_counts, operation_counts, sees_any, variable_counts, way_counts}
use Rattle.dh_commands.specs.declared.buildings.Building.{Building}
use Rattle.dh_commands.specs.LanesRun.{paths_counted}
use Rattle.dh_commands.specs.MadeCommands.{MadeAim, MadeAssigned, MadeCleared, MadeReduced, MadeStored, MadeStoring}
use Rattle.dh_laid.specs.BlockSites.{HasSites, read_site, target_sites, term_sites, terms_sites, write_site}
use Rattle.dh_laid.specs.Laid.{aim_accesses}
use Rattle.dh_laid.specs.LaidNumbers.{IsAccessForm}
use Rattle.dh_laid.specs.LaidQuiet.{BlockStandsIn}
use Rattle.dh_laid.specs.LaidUses.{AddsLedUses, IsUnshared, PathsLead}
use Rattle.dh_laid.proofs.ReadsUsed.{AreLed, UsesPart, led_same, read_used, write_gives, write_led, write_used}
use Rattle.dh_laid.proofs.SitesLaid.{sites_behind, sites_front, sites_last, term_sites_long, terms_sites_long}
use Rattle.dh_laid.proofs.UsesAdded.{AddsNone, any_register, no_reach, converted_used, folded_used, held_used, no_accesses, none_none, none_pushed, none_then_uses, ranged_behind, ranged_then, uses_counted, uses_then_none}

-- what is put down at a path, which reads so many accesses and uses so many, from a first one on
pub record UsesLane (scene : Scene) (sites : ℕ → Option BlockSite) (lane : Lane) (old new : Draft) (before after : Accesses) (n count all : ℕ) : Type 0 where
  pub uses : AddsLedUses scene sites old new (ranged n all (λ access. use_shared (slice_get scene.shares.now access) (sites access) lane.number))
  pub given : HaveGiven lane before after n count
  pub led : AreLed sites after

module _ (scene : Scene) (sites : ℕ → Option BlockSite) (lane : Lane) where
  abbrev Part : (old new : Draft) → (before after : Accesses) → (n count : ℕ) → Type 0
  Part old new before after n count = UsesPart scene sites lane old new before after n count

  abbrev uses_here : ℕ → ℕ
  uses_here access = use_shared (slice_get scene.shares.now access) (sites access) lane.number

  part_none : (old new : Draft) (before after : Accesses) (n : ℕ) → AddsNone scene sites old new → after ≡ before → AreLed sites before → Part old new before after n 0
  part_none old new before after n none same led = record { uses = no_accesses scene sites old new n uses_here none; given = given_none scene lane before after n same; led = led_same sites before after same led }

  part_then : (a b c : Draft) (x y z : Accesses) (n own p q : ℕ) → own ≡ n + p → Part a b x y n p → Part b c y z own q → Part a c x z n (p + q)
  part_then a b c x y z n own p q is h k = record {
    uses = ranged_then scene sites a b c n own p q uses_here is h.uses k.uses;
    given = given_again scene lane x y z n p q h.given (subst (λ (i : ℕ). HaveGiven lane y z i q) is k.given);
    led = k.led;
  }

  part_behind : (a b c : Draft) (x y z : Accesses) (n own p : ℕ) → own ≡ n + p → Part a b x y n p → Part b c y z own 1 → Part a c x z n (suc p)
  part_behind a b c x y z n own p is h k = subst (λ (i : ℕ). Part a c x z n i) (add-one p) (part_then a b c x y z n own p 1 is h k)

  part_still : (a b c : Draft) (x y : Accesses) (n p : ℕ) → Part a b x y n p → AddsNone scene sites b c → Part a c x y n p
  part_still a b c x y n p h none = record { uses = uses_then_none scene sites a b c (ranged n p uses_here) h.uses none; given = h.given; led = h.led }

  -- what is next behind a part
  next_behind : (a b : Draft) (x y : Accesses) (n own p q : ℕ) → own ≡ n + p → AreNext scene lane x n (p + q) → Part a b x y n p → AreNext scene lane y own q
  next_behind a b x y n own p q is next h = subst (λ (i : ℕ). AreNext scene lane y i q) (sym is) (next_second scene lane x y n p q next h.given)

  next_one : (x : Accesses) (n p : ℕ) → AreNext scene lane x n (suc p) → AreNext scene lane x n (p + 1)
  next_one x n p next = subst (λ (i : ℕ). AreNext scene lane x n i) (sym (add-one p)) next

pub long_is : {A : Type 0} (n own : ℕ) (ss : List A) (count : ℕ) → length ss ≡ count → own ≡ n + count → own ≡ n + length ss
long_is n own ss count long is = is ∙ ap (λ i. n + i) (sym long)

module _ (scene : Scene) (sites : ℕ → Option BlockSite) (lane : Lane) (stands : BlockStandsIn scene lane.around) (within : lane.number < paths_counted lane.around) (current : List (Option ℕ)) where
  -- a read behind the values that name its element
  read_behind : (place : Place) (k : Option Kind) (form : plain.TermForm) (memory : ℕ) (aim : Aim) (a b c : Draft) (x y z : Accesses) (n p v : ℕ) (ss : List BlockSite) → length ss ≡ p → aim.number ≡ n + p
      → HasSites sites n (ss ++ read_site scene lane.around memory place form ∷ []) → AreNext scene lane x n (suc p) → UsesPart scene sites lane a b x y n p → MadeRead scene lane (plain.term place k form) memory aim b c y z v
      → UsesPart scene sites lane a c x z n (suc p)
  read_behind place k form memory aim a b c x y z n p v ss long is has next h m =
      part_behind scene sites lane a b c x y z n aim.number p is h
      (read_used scene sites lane stands within (plain.term place k form) memory aim b c y z v m (sites_last sites n aim.number ss (read_site scene lane.around memory place form) (long_is n aim.number ss p long is) has) h.led
      (next_behind scene sites lane a b x y n aim.number p 1 is (next_one scene sites lane x n p next) h))

  -- the steps of the way of what a name stands for
  way_used : (r : Ref) (old new : Draft) (steps : List ReachStep) → MadeWay scene lane current old new (first_view scene r) (way_of (known_in scene) r) steps → AddsNone scene sites old new
  way_used r old new steps m =
      uses_counted scene sites old new 0 _ _
      (way_counts any_register no_reach no_reach no_reach scene lane current (way_of (known_in scene) r) (first_view scene r) (sees_any any_register no_reach no_reach no_reach (λ register. tt) scene lane (way_of (known_in scene) r)) old new steps m)

  mutual
    pub term_used : (t : Term) (old new : Draft) (before after : Accesses) (n next v : ℕ) → MadeTerm scene lane current t old new before after n next v → n + term_accesses t < 2 ^ 32 → HasSites sites n (term_sites scene lane.around t)
        → AreLed sites before → AreNext scene lane before n (term_accesses t) → UsesPart scene sites lane old new before after n (term_accesses t)
    term_used (plain.term place k (plain.number negative z)) old new before after n next v m few has led nx =
        part_none scene sites lane old new before after n (uses_counted scene sites old new 0 _ _ (number_counts any_register no_reach no_reach no_reach (kind_or_first k) negative z old new v m.part)) m.same led
    term_used (plain.term place k (plain.truth_value b)) old new before after n next v m few has led nx =
        part_none scene sites lane old new before after n (none_pushed scene sites old new v None (Constant (truth b)) m.part (λ access. refl)) m.same led
    term_used (plain.term place k (plain.named r)) old new before after n next v m few has led nx =
        part_none scene sites lane old new before after n
        (uses_counted scene sites old new 0 _ _
        (variable_counts any_register no_reach no_reach no_reach (counter_of scene (entity_number r.entity)) (held_at scene.held.now (entity_number r.entity)) lane current (kind_or_first k) tt old new v m.part))
        m.same led
    term_used (plain.term place k (plain.accessed r ts)) old new before after n next v m few has led nx =
        let less : n + terms_accesses ts < 2 ^ 32 = omega (arith, few) in
        read_behind place k (plain.accessed r ts) (memory_of (known_in scene) r) m.aim old m.middle new before m.between after n (terms_accesses ts) v (terms_sites scene lane.around ts) (terms_sites_long scene lane.around ts)
        (all_numbered scene lane current ts old m.named before m.between n m.aim.number m.aim.indices m.indices less) has nx
        (part_still scene sites lane old m.named m.middle before m.between n (terms_accesses ts)
        (terms_used ts old m.named before m.between n m.aim.number m.aim.indices m.indices less (sites_front sites n (terms_sites scene lane.around ts) _ has) led
        (next_first scene lane before n (terms_accesses ts) 1 (next_one scene sites lane before n (terms_accesses ts) nx)))
        (way_used r m.named m.middle m.aim.steps m.steps))
        m.reads
    term_used (plain.term place k (plain.in_bank r bank at row)) old new before after n next v m few has led nx =
        let less : n + term_accesses row < 2 ^ 32 = omega (arith, few) in
        read_behind place k (plain.in_bank r bank at row) (memory_of (known_in scene) r) m.aim old m.middle new before m.between after n (term_accesses row) v (term_sites scene lane.around row) (term_sites_long scene lane.around row)
        (numbered scene lane current row old m.middle before m.between n m.aim.number m.value m.row less) has nx
        (term_used row old m.middle before m.between n m.aim.number m.value m.row less (sites_front sites n (term_sites scene lane.around row) _ has) led
        (next_first scene lane before n (term_accesses row) 1 (next_one scene sites lane before n (term_accesses row) nx)))
        m.reads
    term_used (plain.term place k (plain.applied op left right)) old new before after n next v m few has led nx =
        let less : n + term_accesses left < 2 ^ 32 = omega (arith, few) in
        let own = numbered scene lane current left old m.middle before m.between n m.own m.a m.first less in
        let one : UsesPart scene sites lane old m.middle before m.between n (term_accesses left) =
        term_used left old m.middle before m.between n m.own m.a m.first less (sites_front sites n (term_sites scene lane.around left) (term_sites scene lane.around right) has) led
        (next_first scene lane before n (term_accesses left) (term_accesses right) nx) in
        part_still scene sites lane old m.end new before after n (term_accesses left + term_accesses right)
        (part_then scene sites lane old m.middle m.end before m.between after n m.own (term_accesses left) (term_accesses right) own one
        (term_used right m.middle m.end m.between after m.own next m.b m.second (omega (arith, few, own))
        (sites_behind sites n m.own (term_sites scene lane.around left) (term_sites scene lane.around right) (long_is n m.own (term_sites scene lane.around left) (term_accesses left) (term_sites_long scene lane.around left) own) has) one.led
        (next_behind scene sites lane old m.middle before m.between n m.own (term_accesses left) (term_accesses right) own nx one)))
        (uses_counted scene sites m.end new (product_of op) _ _ (operation_counts any_register no_reach no_reach no_reach op left right m.a m.b m.end new v m.operation))
    term_used (plain.term place k (plain.converted inner to)) old new before after n next v m few has led nx =
        part_still scene sites lane old m.middle new before after n (term_accesses inner) (term_used inner old m.middle before after n next m.a m.operand few has led nx) (converted_used scene sites (is_kept inner to) to m.a m.middle new v m.converts)

    pub terms_used : (ts : plain.Terms) (old new : Draft) (before after : Accesses) (n next : ℕ) (vs : List ℕ) → MadeTerms scene lane current ts old new before after n next vs → n + terms_accesses ts < 2 ^ 32
        → HasSites sites n (terms_sites scene lane.around ts) → AreLed sites before → AreNext scene lane before n (terms_accesses ts) → UsesPart scene sites lane old new before after n (terms_accesses ts)
    terms_used plain.no_terms old new before after n next vs m few has led nx = part_none scene sites lane old new before after n (none_none scene sites old new m.still) m.same led
    terms_used (plain.term_then t ts) old new before after n next vs m few has led nx =
        let less : n + term_accesses t < 2 ^ 32 = omega (arith, few) in
        let own = numbered scene lane current t old m.middle before m.between n m.own m.a m.first less in
        let one : UsesPart scene sites lane old m.middle before m.between n (term_accesses t) =
        term_used t old m.middle before m.between n m.own m.a m.first less (sites_front sites n (term_sites scene lane.around t) (terms_sites scene lane.around ts) has) led
        (next_first scene lane before n (term_accesses t) (terms_accesses ts) nx) in
        part_then scene sites lane old m.middle new before m.between after n m.own (term_accesses t) (terms_accesses ts) own one
        (terms_used ts m.middle new m.between after m.own next m.more m.rest (omega (arith, few, own))
        (sites_behind sites n m.own (term_sites scene lane.around t) (terms_sites scene lane.around ts) (long_is n m.own (term_sites scene lane.around t) (term_accesses t) (term_sites_long scene lane.around t) own) has) one.led
        (next_behind scene sites lane old m.middle before m.between n m.own (term_accesses t) (terms_accesses ts) own nx one))

  -- Stores.

  -- a write behind the values that name its element
  write_behind : (place : Place) (k : Option Kind) (form : plain.TermForm) (memory : ℕ) (t : Term) (value : ℕ) (aim : Aim) (a b : Draft) (new : Building) (x y : Accesses) (n next p : ℕ) (ss : List BlockSite) → length ss ≡ p → aim.number ≡ n + p
      → HasSites sites n (ss ++ write_site scene lane.around memory place form ∷ []) → PathsLead lane.around → IsUnshared scene (n + p) → UsesPart scene sites lane a b x y n p
      → MadeStoring scene lane (plain.term place k form) t value (Some (aim, memory)) b y new next → UsesLane scene sites lane a new.draft x new.accesses n p (suc p)
  write_behind place k form memory t value aim a b new x y n next p ss long is has leads alone h (d, (held, (holds, (write, next_is)))) =
      let at = sites_last sites n aim.number ss (write_site scene lane.around memory place form) (long_is n aim.number ss p long is) has in
      let own : IsUnshared scene aim.number = subst (λ (i : ℕ). IsUnshared scene i) (sym is) alone in
      let still : (i : ℕ) → given_at_paths new.accesses i ≡ given_at_paths y i =
      λ i. write_gives scene sites lane stands within (plain.term place k form) memory aim d new.draft y new.accesses held write at h.led leads own i in
      record {
        uses =
            ranged_behind scene sites a b new.draft n aim.number p _ is h.uses
            (none_then_uses scene sites b d new.draft _ (held_used scene sites t _ value b d held holds)
            (write_used scene sites lane stands within (plain.term place k form) memory aim d new.draft y new.accesses held write at h.led leads own));
        given = record {
          own = λ i from below. still i ∙ h.given.own i from below;
          before_them = λ i less. still i ∙ h.given.before_them i less;
          behind_them = λ i more. still i ∙ h.given.behind_them i more;
        };
        led = write_led scene sites lane stands within (plain.term place k form) memory aim d new.draft y new.accesses held write at h.led leads own;
      }

  target_used : (t : Term) (value : ℕ) (place : Place) (k : Option Kind) (form : plain.TermForm) (aimed : Option (Aim × ℕ)) (middle end : Draft) (between behind : Accesses) (new : Building) (own next : ℕ) → IsAccessForm form
      → MadeAim scene lane current form middle end between behind own aimed → MadeStoring scene lane (plain.term place k form) t value aimed end behind new next → own + form_accesses form < 2 ^ 32
      → HasSites sites own (target_sites scene lane.around (plain.term place k form)) → AreLed sites between → AreNext scene lane between own (aim_accesses form) → PathsLead lane.around → IsUnshared scene (own + aim_accesses form)
      → UsesLane scene sites lane middle new.draft between new.accesses own (aim_accesses form) (form_accesses form)
  target_used t value place k (plain.accessed r ts) (Some (aim, memory)) middle end between behind new own next is (a, same) m few has led nx leads alone =
      write_behind place k (plain.accessed r ts) memory t value aim middle end new between behind own next (terms_accesses ts) (terms_sites scene lane.around ts) (terms_sites_long scene lane.around ts)
      (all_numbered scene lane current ts middle a.middle between behind own aim.number aim.indices a.indices (omega (arith, few)))
      (subst (λ (i : ℕ). HasSites sites own (terms_sites scene lane.around ts ++ write_site scene lane.around i place (plain.accessed r ts) ∷ [])) (sym same) has) leads alone
      (part_still scene sites lane middle a.middle end between behind own (terms_accesses ts)
      (terms_used ts middle a.middle between behind own aim.number aim.indices a.indices (omega (arith, few)) (sites_front sites own (terms_sites scene lane.around ts) _ has) led nx) (way_used r a.middle end aim.steps a.steps))
      m
  target_used t value place k (plain.accessed r ts) None middle end between behind new own next is a m few has led nx leads alone = absurd a
  target_used t value place k (plain.in_bank r bank at row) (Some (aim, memory)) middle end between behind new own next is (a, same) m few has led nx leads alone =
      write_behind place k (plain.in_bank r bank at row) memory t value aim middle end new between behind own next (term_accesses row) (term_sites scene lane.around row) (term_sites_long scene lane.around row)
      (numbered scene lane current row middle end between behind own aim.number a.value a.row (omega (arith, few)))
      (subst (λ (i : ℕ). HasSites sites own (term_sites scene lane.around row ++ write_site scene lane.around i place (plain.in_bank r bank at row) ∷ [])) (sym same) has) leads alone
      (term_used row middle end between behind own aim.number a.value a.row (omega (arith, few)) (sites_front sites own (term_sites scene lane.around row) _ has) led nx) m
  target_used t value place k (plain.in_bank r bank at row) None middle end between behind new own next is a m few has led nx leads alone = absurd a
  target_used t value place k (plain.number negative z) aimed middle end between behind new own next is a m few has led nx leads alone = absurd is
  target_used t value place k (plain.truth_value b) aimed middle end between behind new own next is a m few has led nx leads alone = absurd is
  target_used t value place k (plain.named r) aimed middle end between behind new own next is a m few has led nx leads alone = absurd is
  target_used t value place k (plain.applied op l r) aimed middle end between behind new own next is a m few has led nx leads alone = absurd is
  target_used t value place k (plain.converted inner to) aimed middle end between behind new own next is a m few has led nx leads alone = absurd is

-- Commands at a path.

module _ (scene : Scene) (sites : ℕ → Option BlockSite) (lane : Lane) (stands : BlockStandsIn scene lane.around) (within : lane.number < paths_counted lane.around) (first : ℕ) (old new : Building) (next : ℕ) (led : AreLed sites old.accesses) where
  abbrev UsesHere : (count all : ℕ) → Type 0
  UsesHere count all = UsesLane scene sites lane old.draft new.draft old.accesses new.accesses first count all

  pub assigned_used : (entity : ℕ) (t : Term) → first + term_accesses t < 2 ^ 32 → HasSites sites first (term_sites scene lane.around t) → AreNext scene lane old.accesses first (term_accesses t)
      → MadeAssigned scene lane first entity t old new next → UsesHere (term_accesses t) (term_accesses t)
  assigned_used entity t few has nx m =
      let h : UsesPart scene sites lane old.draft m.middle old.accesses new.accesses first (term_accesses t) =
      term_used scene sites lane stands within old.values.current.items t old.draft m.middle old.accesses new.accesses first next m.value m.term few has led nx in
      record { uses = uses_then_none scene sites old.draft m.middle new.draft _ h.uses (held_used scene sites t (held_at scene.held.now entity).kind m.value m.middle new.draft m.held m.holds); given = h.given; led = h.led }

  pub cleared_used : (entity : ℕ) → MadeCleared scene lane entity old new → UsesHere 0 0
  cleared_used entity m = record {
    uses =
        no_accesses scene sites old.draft new.draft first _ (uses_counted scene sites old.draft new.draft 0 _ _ (number_counts any_register no_reach no_reach no_reach (held_at scene.held.now entity).kind false 0 old.draft new.draft m.value m.number));
    given = given_none scene lane old.accesses new.accesses first m.same;
    led = led_same sites old.accesses new.accesses m.same led;
  }

  pub reduced_used : (entity : ℕ) (op : _) (t : Term) → first + term_accesses t < 2 ^ 32 → HasSites sites first (term_sites scene lane.around t) → AreNext scene lane old.accesses first (term_accesses t)
      → MadeReduced scene lane first entity op t old new next → UsesHere (term_accesses t) (term_accesses t)
  reduced_used entity op t few has nx m =
      let h : UsesPart scene sites lane old.draft m.middle old.accesses new.accesses first (term_accesses t) =
      term_used scene sites lane stands within old.values.current.items t old.draft m.middle old.accesses new.accesses first next m.value m.term few has led nx in
      record {
        uses = uses_then_none scene sites old.draft m.middle new.draft _ h.uses (folded_used scene sites lane old.values.current.items (held_at scene.held.now entity) op t m.value m.middle new.draft m.folded m.folds);
        given = h.given;
        led = h.led;
      }

  pub stored_used : (target t : Term) → IsAccessForm (form_of target) → first + (term_accesses t + term_accesses target) < 2 ^ 32 → HasSites sites first (term_sites scene lane.around t ++ target_sites scene lane.around target)
      → AreNext scene lane old.accesses first (term_accesses t + aim_accesses (form_of target)) → PathsLead lane.around → IsUnshared scene (first + term_accesses t + aim_accesses (form_of target))
      → MadeStored scene lane first target t old new next → UsesHere (term_accesses t + aim_accesses (form_of target)) (term_accesses t + term_accesses target)
  stored_used (plain.term place k form) t is few has nx leads alone m =
      let less : first + term_accesses t < 2 ^ 32 = omega (arith, few) in
      let own = numbered scene lane old.values.current.items t old.draft m.middle old.accesses m.between first m.own m.value m.term less in
      let one : UsesPart scene sites lane old.draft m.middle old.accesses m.between first (term_accesses t) =
      term_used scene sites lane stands within old.values.current.items t old.draft m.middle old.accesses m.between first m.own m.value m.term less
      (sites_front sites first (term_sites scene lane.around t) (target_sites scene lane.around (plain.term place k form)) has) led
      (next_first scene lane old.accesses first (term_accesses t) (aim_accesses form) nx) in
      let two : UsesLane scene sites lane m.middle new.draft m.between new.accesses m.own (aim_accesses form) (form_accesses form) =
      target_used scene sites lane stands within old.values.current.items t m.value place k form m.aimed m.middle m.end m.between m.behind new m.own next is m.aims m.stores (omega (arith, few, own))
      (sites_behind sites first m.own (term_sites scene lane.around t) (target_sites scene lane.around (plain.term place k form)) (long_is first m.own (term_sites scene lane.around t) (term_accesses t) (term_sites_long scene lane.around t) own) has)
      one.led
      (next_behind scene sites lane old.draft m.middle old.accesses m.between first m.own (term_accesses t) (aim_accesses form) own nx one)
      leads (subst (λ (i : ℕ). IsUnshared scene (i + aim_accesses form)) (sym own) alone) in
      record {
        uses = ranged_then scene sites old.draft m.middle new.draft first m.own (term_accesses t) (form_accesses form) _ own one.uses two.uses;
        given = given_again scene lane old.accesses m.between new.accesses first (term_accesses t) (aim_accesses form) one.given (subst (λ (i : ℕ). HaveGiven lane m.between new.accesses i (aim_accesses form)) own two.given);
        led = two.led;
      }
