-- What a state keeps behind a store.
use Rattle.std.proofs.Common.{◌≡◌, ℕ, ◌+◌, ◌-◌, ◌≤◌, List, [], ◌∷◌, ◌++◌, length, Ok, Err, Some, None, refl, ap, sym, ◌∙◌, subst, arith, append_assoc, append-nil}
use Rattle.std.specs.Prelude.{Result}
use Rattle.std.proofs.lemmas.List.{length-append}
use Rattle.dh_base.specs.declared.outcomes.FaultKind.TheVariants.{OutOfRange}
use Rattle.dh_base.specs.declared.outcomes.Outcome.TheVariants.{Faulted}
use Rattle.dh_value.specs.declared.words.Word.{Word}
use Rattle.dh_meaning.specs.Paths.{Path}
use Rattle.dh_meaning.specs.Core.{Reach, CoreTerm}
use Rattle.dh_meaning.specs.Core as core
use Rattle.dh_meaning.specs.Effects.{Effect, Event, Variables, faults, kept_bits, spot_reached, stop_after, stored_at, target_events, term_events, value_of_term, write_made, writes}
use Rattle.dh_code.specs.declared.codes.Access.{Access}
use Rattle.dh_code.specs.declared.codes.FlatExpression.{FlatExpression}
use Rattle.dh_code.specs.declared.codes.CodeOperation.{CodeOperation}
use Rattle.dh_code.specs.declared.evaluating.StepContext.{StepContext}
use Rattle.dh_code.specs.declared.evaluating.StepStop.{StepStop}
use Rattle.dh_code.specs.declared.evaluating.StepStop.TheVariants as stop
use Rattle.dh_code.specs.declared.running.StepState.{StepState}
use Rattle.dh_code.specs.declared.running.Write.{Write}
use Rattle.dh_code.specs.declared.spots.Element.{Element}
use Rattle.dh_code.specs.declared.spots.Spread.{Spread}
use Rattle.dh_code.specs.Coded.{IsFlatStore}
use Rattle.dh_code.specs.Made.{Aimed, MadeExpression, target_made, term_made}
use Rattle.dh_code.specs.Operated.{Sight, access_spot, events_after, operand_word, sight_after}
use Rattle.dh_code.specs.Plain.{all_plain, plain}
use Rattle.dh_code.specs.Rows.{spot_seen}
use Rattle.dh_code.specs.Scenes.{IsScene, Spends, begun_in, flat_events, flat_sight, flat_word, spread_element, spread_spot}
use Rattle.dh_code.specs.Slots.{Holds, Placing}
use Rattle.dh_code.specs.Spent.{HaveSpent}
use Rattle.dh_code.specs.States.{AreRanks, Ends, IsReadyState, Keeps, KeepsSlots, KeepsVariables, Puts, SpendsFlat, sight_in, writes_in}
use Rattle.dh_code.specs.Suited.{CanEvaluate, IsSuitedTarget, TargetInside}
use Rattle.dh_code.proofs.BanksSpent.{stop_more}
use Rattle.dh_code.proofs.FlatMeaning.{none_aimed, none_written, stopped_events, written_append, written_both}
use Rattle.dh_code.proofs.PathLoops.{ends_later}
use Rattle.dh_code.proofs.Ranges.{items_same, length_range}
use Rattle.dh_code.proofs.Sights.{sight_append}
use Rattle.dh_code.proofs.TermsGiven.{Gives, Leads, both_events, first_stays, gives, leads, plain_append, room_left, sees_on}
use Rattle.dh_code.proofs.ValuesOfTerms.{of_memory}

module _ (s : StepContext) (scene : IsScene s) (p : Placing) (factors ranks : List ℕ) (path : Path) (reach : Reach) (target : core.Target) (t : CoreTerm) (f : FlatExpression) (a : Access) (e : Effect) (old middle : StepState)
    (at : AreRanks factors ranks path) (is : IsFlatStore p.held s.entries.now s.code.now reach target t f a) (suits : IsSuitedTarget s.entries.now reach.memory target) (inside : TargetInside p factors target)
    (can : CanEvaluate s.entries.now p factors t) (k : Keeps p s.entries.now e s.step old) (ready : IsReadyState s old) where
  abbrev w : Sight
  w = sight_in old ranks

  abbrev v : Variables
  v = e.variables

  abbrev one : MadeExpression
  one = term_made p.held s.entries.now f.from t

  abbrev behind : ℕ
  behind = f.from + length one.operations

  abbrev two : Aimed
  two = target_made p.held s.entries.now behind target

  room : f.from + (length one.operations + length two.operations) ≤ length w.given
  room = by (length one.operations) (length two.operations) (sym (length-append one.operations two.operations) ∙ (sym (ap (λ (l : List CodeOperation). length l) is.operations) ∙ length_range s.code.now.operations f.from f.to is.there))
    where
      by : (n m : ℕ) → n + m ≡ f.to - f.from → f.from + (n + m) ≤ length w.given
      by n m e = let x = is.within in let y = is.there in let z = ready.room in omega (arith, e, x, y, z)

  first_room : f.from + length one.operations ≤ length w.given
  first_room = by (length one.operations) (length two.operations) room
    where
      by : (n m : ℕ) → f.from + (n + m) ≤ length w.given → f.from + n ≤ length w.given
      by n m e = omega (arith, e)

  valued : Gives p (begun_in s) v factors path at.inside scene.entries scene.small w f.from t
  valued = gives p (begun_in s) v factors path at.inside scene.entries scene.small w f.from t (record { slots = k.variables; ranks = at.are }) can.0 can.1 first_room

  led : Leads p (begun_in s) v factors path at.inside scene.entries scene.small (sight_after (begun_in s) w f.from one.operations) behind reach target
  led =
      leads p (begun_in s) v factors path at.inside scene.entries scene.small (sight_after (begun_in s) w f.from one.operations) behind reach target
      (sees_on p (begun_in s) v factors path at.inside scene.entries scene.small w f.from one.operations (record { slots = k.variables; ranks = at.are })) suits inside
      (room_left p (begun_in s) v factors path at.inside scene.entries scene.small w f.from (length one.operations) (length two.operations) one.operations refl room)

  abbrev value : Word
  value = value_of_term (begun_in s) v path t

  abbrev happens : List Event
  happens = term_events (begun_in s) v path t ++ target_events (begun_in s) v path target

  abbrev last : Event
  last = write_made reach path (kept_bits s.entries.now reach.memory value) (spot_reached (begun_in s) v path reach target)

  worth : (word : Word) → word ≡ flat_word s w f → word ≡ value
  worth word same =
      same
      ∙ (ap (λ o. operand_word (flat_sight s w f) o) is.value
      ∙ (ap (λ (l : List CodeOperation). operand_word (sight_after (begun_in s) w f.from l) one.value) is.operations
      ∙ first_stays p (begun_in s) v factors path at.inside scene.entries scene.small w f.from one.operations two.operations one.value value valued.before valued.value))

  events_are : flat_events s w f ≡ all_plain happens
  events_are =
      ap (λ (l : List CodeOperation). events_after (begun_in s) w f.from l) is.operations
      ∙ both_events p (begun_in s) v factors path at.inside scene.entries scene.small w f.from one.operations two.operations (term_events (begun_in s) v path t) (target_events (begun_in s) v path target) valued.events led.events

  spot_is : sight_in middle ranks ≡ flat_sight s w f → access_spot (begun_in s) (sight_in middle ranks) a ≡ spot_reached (begun_in s) v path reach target
  spot_is seen =
      ap (λ (x : Sight). access_spot (begun_in s) x a) (seen ∙ (ap (λ (l : List CodeOperation). sight_after (begun_in s) w f.from l) is.operations ∙ sight_append (begun_in s) w f.from one.operations two.operations))
      ∙ (ap (λ (x : Access). access_spot (begun_in s) (sight_after (begun_in s) (sight_after (begun_in s) w f.from one.operations) behind two.operations) x) is.access ∙ led.spot)

  grouped : (x : Event) → e.events ++ (term_events (begun_in s) v path t ++ (target_events (begun_in s) v path target ++ x ∷ [])) ≡ (e.events ++ happens) ++ x ∷ []
  grouped x =
      ap (λ l. e.events ++ l) (sym (append_assoc (term_events (begun_in s) v path t) (target_events (begun_in s) v path target) (x ∷ [])))
      ∙ sym (append_assoc e.events happens (x ∷ []))

  pub store_stops : (A : Type 0) (x : StepStop) (result : Result (Unit {0}) StepStop) (new : StepState) → result ≡ Err x → SpendsFlat {A = A} s old (Err x) middle ranks f → Ends p s.entries.now (stored_at (begun_in s) reach target t path e) s.step result new
  store_stops A x result new stopped spends =
      ends_later A (Unit {0}) p s.entries.now s.step (record { variables = v; events = e.events ++ happens }) (stored_at (begun_in s) reach target t path e) new new x result
      (record { more = last ∷ []; is = grouped last }) stopped
      (stopped_events A A p s.entries.now e s.step middle.banks.items new v happens x (Err x) refl
      (subst (λ (l : List Event). Spends {A = A} s.entries.now (all_plain e.events ++ l) s.step (Err x) middle.banks.items) events_are (spends (all_plain e.events) k.spent)))

  -- what is kept when all is evaluated
  module _ (word : Word) (given_word : word ≡ operand_word (sight_in middle ranks) f.value) (seen : sight_in middle ranks ≡ flat_sight s w f) (kept : KeepsVariables old middle) (spends : SpendsFlat {A = Word} s old (Ok word) middle ranks f) where
    same : word ≡ flat_word s w f
    same = given_word ∙ ap (λ (x : Sight). operand_word x f.value) seen

    spent : HaveSpent s.entries.now (all_plain (e.events ++ happens)) s.step middle.banks.items
    spent =
        subst (λ (l : List Event). HaveSpent s.entries.now l s.step middle.banks.items) (sym (plain_append e.events happens))
        (subst (λ (l : List Event). HaveSpent s.entries.now (all_plain e.events ++ l) s.step middle.banks.items) events_are (spends (all_plain e.events) k.spent))

    whole_plain : (x : Event) → all_plain (e.events ++ (term_events (begun_in s) v path t ++ (target_events (begun_in s) v path target ++ x ∷ []))) ≡ all_plain (e.events ++ happens) ++ plain x ∷ []
    whole_plain x = ap all_plain (grouped x) ∙ plain_append (e.events ++ happens) (x ∷ [])

    pub store_faults : (A : Type 0) (x : StepStop) (new : StepState) → x ≡ stop.At (Faulted OutOfRange a.place) → access_spot (begun_in s) (sight_in middle ranks) a ≡ None → Ends {A = A} p s.entries.now (stored_at (begun_in s) reach target t path e) s.step (Err x) new
    store_faults A x new stopped none = subst (λ (y : StepStop). Ends {A = A} p s.entries.now (stored_at (begun_in s) reach target t path e) s.step (Err y) new) (sym stopped)
        (ap (λ k. stop_after s.entries.now [] (all_plain (e.events ++ (term_events (begun_in s) v path t ++ (target_events (begun_in s) v path target ++ write_made reach path (kept_bits s.entries.now reach.memory value) k ∷ []))))) (sym (spot_is seen) ∙ none)
        ∙ (ap (λ l. stop_after s.entries.now [] l) (whole_plain (faults reach.number reach.place path OutOfRange))
        ∙ (stop_more s.entries.now [] (all_plain (e.events ++ happens)) (faults 0 reach.place [] OutOfRange ∷ []) spent.clear
        ∙ ap Some (ap (λ (y : Access). Faulted OutOfRange y.place) (sym is.access)))))

    module _ (spread : Spread) (leads : access_spot (begun_in s) (sight_in middle ranks) a ≡ Some (spread_spot a.memory spread)) where
      abbrev el : Element
      el = spread_element a.memory spread

      there : spot_reached (begun_in s) v path reach target ≡ Some (spot_seen el)
      there = sym (spot_is seen) ∙ leads

      abbrev bits : ℕ
      bits = kept_bits s.entries.now el.memory word

      bits_are : bits ≡ kept_bits s.entries.now reach.memory value
      bits_are =
          ap (λ m. kept_bits s.entries.now m word) (of_memory (begun_in s) v path reach target (spot_seen el) there)
          ∙ ap (λ x. kept_bits s.entries.now reach.memory x) (worth word same)

      last_is : last ≡ writes reach.number reach.place path (spot_seen el) bits
      last_is = ap (λ o. write_made reach path (kept_bits s.entries.now reach.memory value) o) there ∙ ap (λ n. writes reach.number reach.place path (spot_seen el) n) (sym bits_are)

      plain_is : all_plain (stored_at (begun_in s) reach target t path e).events ≡ all_plain (e.events ++ happens) ++ writes 0 a.place [] (spot_seen el) bits ∷ []
      plain_is =
          whole_plain last
          ∙ (ap (λ x. all_plain (e.events ++ happens) ++ plain x ∷ []) last_is
          ∙ ap (λ (y : Access). all_plain (e.events ++ happens) ++ writes 0 y.place [] (spot_seen el) bits ∷ []) (sym is.access))

      written_is : (old_writes new_writes : List Write) → old_writes ≡ writes_in e.events → new_writes ≡ old_writes ++ record { memory = el.memory; position = el.position; bits = bits } ∷ [] → new_writes ≡ writes_in (stored_at (begun_in s) reach target t path e).events
      written_is old_writes new_writes before added =
          added
          ∙ (ap (λ l. l ++ record { memory = el.memory; position = el.position; bits = bits } ∷ []) (before ∙ (sym (append-nil (writes_in e.events)) ∙ (ap (λ l. writes_in e.events ++ l) (sym none) ∙ sym (written_append e.events happens))))
          ∙ (sym (written_append (e.events ++ happens) (writes reach.number reach.place path (spot_seen el) bits ∷ []))
          ∙ ap writes_in (ap (λ x. (e.events ++ happens) ++ x ∷ []) (sym last_is) ∙ sym (grouped last))))
        where
          none : writes_in happens ≡ []
          none = written_both (term_events (begun_in s) v path t) (target_events (begun_in s) v path target) (none_written (begun_in s) v path t) (none_aimed (begun_in s) v path target)

      pub store_ends : (result : Result (Unit {0}) StepStop) (new : StepState) → KeepsSlots middle new → Puts s middle result new a.place el word → Ends p s.entries.now (stored_at (begun_in s) reach target t path e) s.step result new
      store_ends (Ok u) new slots puts =
          let h = puts (all_plain (e.events ++ happens)) spent in
          record {
            variables = subst (λ (l : List ℕ). Holds p l v) (sym (items_same _ _ slots.variables ∙ items_same _ _ kept.variables)) k.variables;
            spent = subst (λ (l : List Event). HaveSpent s.entries.now l s.step new.banks.items) (sym plain_is) h.0;
            writes = written_is middle.writes.items new.writes.items (items_same _ _ kept.writes ∙ k.writes) h.1;
          }
      store_ends (Err (stop.At o)) new slots puts = ap (λ l. stop_after s.entries.now [] l) plain_is ∙ (puts (all_plain (e.events ++ happens)) spent).0
      store_ends (Err stop.NoMemory) new slots puts = tt
