-- The accesses that commands make at one path come in the order of their numbers, each at most once. By induction
-- over the command, with what follows it: its accesses end below those that follow.
use Rattle.std.proofs.Common.{◌≡◌, ℕ, suc, ◌+◌, ◌≤◌, Bool, true, false, if◌then◌else◌, List, [], ◌∷◌, ◌++◌, Option, Some, None, refl, sym, ap, subst, arith}
use Rattle.dh_value.specs.declared.kinds.Kind.{Kind}
use Rattle.dh_value.specs.declared.operators.Op.{Op}
use Rattle.dh_tree.specs.PlainTrees.{Program, Term, term, number, truth_value, named, accessed, in_bank, applied, converted, Terms, no_terms, term_then, Action, action, ActionForm, lets, lets_memory, views, assigns, stores, reduces, calls, blocks, decides, repeats, counts, MaybeAction, no_action, one_action, Actions, no_actions, action_then, Groups, no_groups, group_then}
use Rattle.dh_meaning.specs.AccessNumbers.{term_accesses, terms_accesses, maybe_accesses, own_accesses, accesses_of, inner_accesses, other_accesses, groups_accesses, part_accesses}
use Rattle.dh_meaning.specs.Bindings.{kind_found}
use Rattle.dh_meaning.specs.Core.{Reach, CoreTerm, CoreCommand, choose, CoreCommands, no_commands, command_and, variable, truth_literal}
use Rattle.dh_meaning.specs.CoreOf.{Known, entity_number, depth_of, kind_of, assigned, first_value, core_term, core_terms, store_to, folded_into, core_action, core_action_form, core_other, core_part, core_groups, core_commands, reach_of, memory_of}
use Rattle.dh_meaning.specs.CoreOf as meaning
use Rattle.dh_value.specs.Words as words
use Rattle.dh_meaning.specs.Effects.{Begun, Variables, Event, reads, writes, faults, read_made, write_made, kept_bits, term_events, terms_events, spot_by_row, value_of_term, holds_at}
use Rattle.dh_meaning.specs.OnePhase.{in_one_phase}
use Rattle.dh_meaning.specs.Paths.{Path}
use Rattle.dh_meaning.specs.Phases.{Located}
use Rattle.dh_meaning.specs.Sites.{Around}
use Rattle.dh_meets.specs.SourceEvents.{SourceEvent}
use Rattle.dh_tree.specs.Elements.{Spot}
use Rattle.dh_sound.proofs.KnownReads.{count_joined}
use Rattle.dh_sound.proofs.OnePath.{left_by, made_by, all_made_by}
use Rattle.dh_sound.proofs.BlockWalks.{located_counted}
use Rattle.dh_sound.proofs.TermWalks.{operation_events}
use Rattle.dh_sound.specs.Trails.{count, of_located, Follows}
use Rattle.dh_ways.proofs.TargetsOnWays.{target_makes}
use Rattle.dh_tree.specs.Seen.{terms}
use Rattle.dh_tree.specs.ViewOffsets.{offsets_of}
use Rattle.dh_meaning.specs.Core.{keep}
use Rattle.dh_meaning.specs.CoreOf.{kept_by, target_to, way_of}
use Rattle.dh_meaning.specs.Effects.{spot_reached}
use Rattle.dh_meaning.specs.Ways.{Hidden, hidden_in}

abbrev pub number_of : Event → ℕ
number_of (reads n place path s) = n
number_of (writes n place path s value) = n
number_of (faults n place path kind) = n

-- the numbers of these events ascend, from the low one on and below the high one
abbrev pub Ascends : (low : ℕ) → List Event → (high : ℕ) → Type 0
Ascends low [] high = low ≤ high
Ascends low (ev ∷ es) high = (low ≤ number_of ev) × Ascends (suc (number_of ev)) es high

pub ascends_from : (l low high : ℕ) (es : List Event) → l ≤ low → Ascends low es high → Ascends l es high
ascends_from l low high [] le a = omega (arith, le, a)
ascends_from l low high (ev ∷ es) le a = (let x = a.0 in omega (arith, le, x), a.1)

pub ascends_to : (low high h : ℕ) (es : List Event) → high ≤ h → Ascends low es high → Ascends low es h
ascends_to low high h [] le a = omega (arith, le, a)
ascends_to low high h (ev ∷ es) le a = (a.0, ascends_to (suc (number_of ev)) high h es le a.1)

pub ascends_both : (low mid high : ℕ) (es fs : List Event) → Ascends low es mid → Ascends mid fs high → Ascends low (es ++ fs) high
ascends_both low mid high [] fs a c = ascends_from low mid high fs a c
ascends_both low mid high (ev ∷ es) fs a c = (a.0, ascends_both (suc (number_of ev)) mid high es fs a.1 c)

pub read_number : (r : Reach) (path : Path) (s : Option Spot) → number_of (read_made r path s) ≡ r.number
read_number r path None = refl
read_number r path (Some s) = refl

pub write_number : (r : Reach) (path : Path) (value : ℕ) (s : Option Spot) → number_of (write_made r path value s) ≡ r.number
write_number r path value None = refl
write_number r path value (Some s) = refl

pub last_ascends : (low mid high n : ℕ) (es : List Event) (ev : Event) → Ascends low es mid → mid ≤ n → number_of ev ≡ n → suc n ≤ high → Ascends low (es ++ ev ∷ []) high
last_ascends low mid high n es ev a le is up = ascends_both low mid high es (ev ∷ []) a (omega (arith, is, le), omega (arith, is, up))

module _ (p : Program) (b : Begun) (known : Known) (path : Path) (in_block : ℕ → Bool)
    (share : (j k : ℕ) → in_one_phase p j k ≡ true → in_block k ≡ true → in_block j ≡ true) (v0 : Variables) (touched : ℕ → Bool) where
  abbrev own_of : Option Term → ℕ
  own_of value = maybe_accesses value

  either : (x : Bool) (low high : ℕ) (es fs : List Event) → Ascends low es high → Ascends low fs high → Ascends low (if x then es else fs) high
  either true low high es fs a c = a
  either false low high es fs a c = c

  operation_ascends : (v : Variables) (o : Op) (j k : Kind) (l m : CoreTerm) (low mid high : ℕ) → Ascends low (term_events b v path l) mid → Ascends mid (term_events b v path m) high
      → Ascends low (term_events b v path (meaning.operation_of o j k l m)) high
  operation_ascends v o j k l m low mid high a c =
      subst (λ (es : List Event). Ascends low es high) (sym (operation_events p b known path in_block share v0 touched v o j k l m)) (ascends_both low mid high (term_events b v path l) (term_events b v path m) a c)

  mutual
    pub term_ascends : (v : Variables) (n : ℕ) (t : Term) → Ascends n (term_events b v path (core_term known n t)) (n + term_accesses t)
    term_ascends v n (term place k (number negative x)) = omega arith
    term_ascends v n (term place k (truth_value x)) = omega arith
    term_ascends v n (term place k (named x)) = omega arith
    term_ascends v n (term place k (accessed x ts)) =
        let r = reach_of known (n + terms_accesses ts) place x in
        let s = spot_reached b v path r (target_to (way_of known x) (core_terms known n ts)) in
        subst (λ (es : List Event). Ascends n (es ++ read_made r path s ∷ []) (n + suc (terms_accesses ts))) (sym (target_makes b v path (way_of known x) (core_terms known n ts)))
        (last_ascends n (n + terms_accesses ts) (n + suc (terms_accesses ts)) (n + terms_accesses ts) (terms_events b v path (core_terms known n ts)) (read_made r path s)
        (terms_ascend v n ts) (omega arith) (read_number r path s) (omega arith))
    term_ascends v n (term place k (in_bank x bank at t)) =
        let s = spot_by_row b.table (memory_of known x) bank (words.value_of (value_of_term b v path (core_term known n t))) in
        last_ascends n (n + term_accesses t) (n + suc (term_accesses t)) (n + term_accesses t) (term_events b v path (core_term known n t)) (read_made (reach_of known (n + term_accesses t) place x) path s)
        (term_ascends v n t) (omega arith) (read_number (reach_of known (n + term_accesses t) place x) path s) (omega arith)
    term_ascends v n (term place k (applied o l m)) =
        operation_ascends v o (kind_found l) (kind_found m) (core_term known n l) (core_term known (n + term_accesses l) m) n (n + term_accesses l) (n + (term_accesses l + term_accesses m)) (term_ascends v n l)
        (ascends_to (n + term_accesses l) (n + term_accesses l + term_accesses m) (n + (term_accesses l + term_accesses m)) (term_events b v path (core_term known (n + term_accesses l) m)) (omega arith) (term_ascends v (n + term_accesses l) m))
    term_ascends v n (term place k (converted t to)) = term_ascends v n t

    pub terms_ascend : (v : Variables) (n : ℕ) (ts : Terms) → Ascends n (terms_events b v path (core_terms known n ts)) (n + terms_accesses ts)
    terms_ascend v n no_terms = omega arith
    terms_ascend v n (term_then t ts) =
        ascends_both n (n + term_accesses t) (n + (term_accesses t + terms_accesses ts)) (term_events b v path (core_term known n t)) (terms_events b v path (core_terms known (n + term_accesses t) ts)) (term_ascends v n t)
        (ascends_to (n + term_accesses t) (n + term_accesses t + terms_accesses ts) (n + (term_accesses t + terms_accesses ts)) (terms_events b v path (core_terms known (n + term_accesses t) ts)) (omega arith) (terms_ascend v (n + term_accesses t) ts))

  first_ascends : (v : Variables) (n : ℕ) (declared : Option Kind) (value : Option Term) → Ascends n (term_events b v path (first_value known n declared value)) (n + own_of value)
  first_ascends v n declared None = omega arith
  first_ascends v n declared (Some t) = term_ascends v n t

  -- commands whose accesses follow
  abbrev pub Behind : (n high : ℕ) → CoreCommands → Type 0
  Behind n high rest = (w : Variables) → Ascends n (all_made_by b path rest w) high

  behind_from : (l n high : ℕ) (rest : CoreCommands) → l ≤ n → Behind n high rest → Behind l high rest
  behind_from l n high rest le h = λ w. ascends_from l n high (all_made_by b path rest w) le (h w)

  command_ascends : (v : Variables) (n mid high : ℕ) (c : CoreCommand) (rest : CoreCommands) → Ascends n (made_by b path c v) mid → Behind mid high rest → Ascends n (all_made_by b path (command_and c rest) v) high
  command_ascends v n mid high c rest a h = ascends_both n mid high (made_by b path c v) (all_made_by b path rest (left_by b path c v)) a (h (left_by b path c v))

  nothing_stored : (v : Variables) (n c : ℕ) → Ascends n (made_by b path (choose (truth_literal false) no_commands no_commands) v) (n + c)
  nothing_stored v n c = either (holds_at b v (truth_literal false) path) n (n + c) [] [] (omega arith) (omega arith)

  store_ascends : (v : Variables) (n : ℕ) (target value : Term) → Ascends n (made_by b path (store_to known (n + term_accesses value) target (core_term known n value)) v) (n + (term_accesses value + term_accesses target))
  store_ascends v n (term at k (accessed x ts)) value =
      let m = n + term_accesses value in
      let r = reach_of known (m + terms_accesses ts) at x in
      let s = spot_reached b v path r (target_to (way_of known x) (core_terms known m ts)) in
      let kept = kept_bits b.table (memory_of known x) (value_of_term b v path (core_term known n value)) in
      subst (λ (es : List Event). Ascends n (term_events b v path (core_term known n value) ++ (es ++ write_made r path kept s ∷ [])) (n + (term_accesses value + suc (terms_accesses ts))))
      (sym (target_makes b v path (way_of known x) (core_terms known m ts)))
      (ascends_both n m (n + (term_accesses value + suc (terms_accesses ts))) (term_events b v path (core_term known n value)) (terms_events b v path (core_terms known m ts) ++ write_made r path kept s ∷ []) (term_ascends v n value)
      (last_ascends m (m + terms_accesses ts) (n + (term_accesses value + suc (terms_accesses ts))) (m + terms_accesses ts) (terms_events b v path (core_terms known m ts)) (write_made r path kept s)
      (terms_ascend v m ts) (omega arith) (write_number r path kept s) (omega arith)))
  store_ascends v n (term at k (in_bank x bank place t)) value =
      let m = n + term_accesses value in
      let r = reach_of known (m + term_accesses t) at x in
      let s = spot_by_row b.table (memory_of known x) bank (words.value_of (value_of_term b v path (core_term known m t))) in
      let kept = kept_bits b.table (memory_of known x) (value_of_term b v path (core_term known n value)) in
      ascends_both n m (n + (term_accesses value + suc (term_accesses t))) (term_events b v path (core_term known n value)) (term_events b v path (core_term known m t) ++ write_made r path kept s ∷ []) (term_ascends v n value)
      (last_ascends m (m + term_accesses t) (n + (term_accesses value + suc (term_accesses t))) (m + term_accesses t) (term_events b v path (core_term known m t)) (write_made r path kept s)
      (term_ascends v m t) (omega arith) (write_number r path kept s) (omega arith))
  store_ascends v n (term at k (number negative x)) value = nothing_stored v n (term_accesses value + term_accesses (term at k (number negative x)))
  store_ascends v n (term at k (truth_value x)) value = nothing_stored v n (term_accesses value + term_accesses (term at k (truth_value x)))
  store_ascends v n (term at k (named x)) value = nothing_stored v n (term_accesses value + term_accesses (term at k (named x)))
  store_ascends v n (term at k (applied o l m)) value = nothing_stored v n (term_accesses value + term_accesses (term at k (applied o l m)))
  store_ascends v n (term at k (converted t to)) value = nothing_stored v n (term_accesses value + term_accesses (term at k (converted t to)))

  -- offsets that are kept
  kept_ascends : (v : Variables) (n high : ℕ) (hs : List Hidden) (ts : Terms) (rest : CoreCommands) → Behind (n + terms_accesses ts) high rest → Ascends n (all_made_by b path (kept_by hs (core_terms known n ts) rest) v) high
  kept_ascends v n high hs no_terms rest h = behind_from n (n + 0) high rest (omega arith) h v
  kept_ascends v n high [] (term_then t ts) rest h = behind_from n (n + terms_accesses (term_then t ts)) high rest (omega arith) h v
  kept_ascends v n high (x ∷ hs) (term_then t ts) rest h =
      command_ascends v n (n + terms_accesses (term_then t ts)) high (keep x.depth x.entity (core_terms known n (term_then t ts))) rest (terms_ascend v n (term_then t ts)) h

  mutual
    pub action_ascends : (v : Variables) (n high : ℕ) (a : Action) (rest : CoreCommands) → Behind (n + accesses_of a) high rest → Ascends n (all_made_by b path (core_action known n a rest) v) high
    action_ascends v n high (action id place f) rest h = form_ascends v n high f rest h

    pub form_ascends : (v : Variables) (n high : ℕ) (f : ActionForm) (rest : CoreCommands) → Behind (n + (own_accesses f + inner_accesses f)) high rest → Ascends n (all_made_by b path (core_action_form known n f rest) v) high
    form_ascends v n high (lets name declared value) rest h =
        command_ascends v n (n + own_of value) high (assigned known name (first_value known n declared value)) rest (first_ascends v n declared value) (behind_from (n + own_of value) (n + (own_of value + 0)) high rest (omega arith) h)
    form_ascends v n high (assigns target value) rest h =
        command_ascends v n (n + term_accesses value) high (assigned known target (core_term known n value)) rest (term_ascends v n value) (behind_from (n + term_accesses value) (n + (term_accesses value + 0)) high rest (omega arith) h)
    form_ascends v n high (reduces target o value) rest h =
        command_ascends v n (n + term_accesses value) high (folded_into known target o (kind_found value) (core_term known n value)) rest
        (operation_ascends v o (kind_of known target) (kind_found value) (variable (kind_of known target) (depth_of known target) (entity_number target.entity)) (core_term known n value) n n (n + term_accesses value) (omega arith) (term_ascends v n value))
        (behind_from (n + term_accesses value) (n + (term_accesses value + 0)) high rest (omega arith) h)
    form_ascends v n high (stores target value) rest h =
        command_ascends v n (n + (term_accesses value + term_accesses target)) high (store_to known (n + term_accesses value) target (core_term known n value)) rest (store_ascends v n target value)
        (behind_from (n + (term_accesses value + term_accesses target)) (n + (term_accesses value + term_accesses target + 0)) high rest (omega arith) h)
    form_ascends v n high (decides test chosen other) rest h =
        let n1 = n + term_accesses test in
        let n2 = n1 + accesses_of chosen in
        let n3 = n2 + other_accesses other in
        let t = core_term known n test in
        let cc = core_action known n1 chosen no_commands in
        let oc = core_other known n2 other in
        command_ascends v n n3 high (choose t cc oc) rest
        (ascends_both n n1 n3 (term_events b v path t) (if holds_at b v t path then all_made_by b path cc v else all_made_by b path oc v) (term_ascends v n test)
        (either (holds_at b v t path) n1 n3 (all_made_by b path cc v) (all_made_by b path oc v)
        (ascends_to n1 n2 n3 (all_made_by b path cc v) (omega arith) (action_ascends v n1 n2 chosen no_commands (λ w. omega arith)))
        (ascends_from n1 n2 n3 (all_made_by b path oc v) (omega arith) (other_ascends v n2 other))))
        (behind_from n3 (n + (term_accesses test + (accesses_of chosen + other_accesses other))) high rest (omega arith) h)
    form_ascends v n high (blocks body) rest h = groups_ascend v n high body rest (behind_from (n + groups_accesses body) (n + (0 + groups_accesses body)) high rest (omega arith) h)
    form_ascends v n high (lets_memory name shape shape_places value) rest h = behind_from n (n + (0 + 0)) high rest (omega arith) h v
    form_ascends v n high (views name parent form) rest h =
        let own = own_accesses (views name parent form) in
        kept_ascends v n high (hidden_in (way_of known name)) (terms (offsets_of form)) rest (behind_from (n + own) (n + (own + 0)) high rest (omega arith) h)
    form_ascends v n high (calls function arguments) rest h = behind_from n (n + (0 + 0)) high rest (omega arith) h v
    form_ascends v n high (repeats test body) rest h = behind_from n (n + (term_accesses test + accesses_of body)) high rest (omega arith) h v
    form_ascends v n high (counts iterator declared low hi factor body combine combine_place) rest h = behind_from n (n + (0 + (accesses_of body + other_accesses combine))) high rest (omega arith) h v

    pub other_ascends : (v : Variables) (n : ℕ) (o : MaybeAction) → Ascends n (all_made_by b path (core_other known n o) v) (n + other_accesses o)
    other_ascends v n no_action = omega arith
    other_ascends v n (one_action a) = action_ascends v n (n + accesses_of a) a no_commands (λ w. omega arith)

    pub groups_ascend : (v : Variables) (n high : ℕ) (gs : Groups) (rest : CoreCommands) → Behind (n + groups_accesses gs) high rest → Ascends n (all_made_by b path (core_groups known n gs rest) v) high
    groups_ascend v n high no_groups rest h = behind_from n (n + 0) high rest (omega arith) h v
    groups_ascend v n high (group_then part more) rest h =
        part_ascends v n high part (core_groups known (n + part_accesses part) more rest)
        (λ w. groups_ascend w (n + part_accesses part) high more rest (behind_from (n + part_accesses part + groups_accesses more) (n + (part_accesses part + groups_accesses more)) high rest (omega arith) h))

    pub part_ascends : (v : Variables) (n high : ℕ) (q : Actions) (rest : CoreCommands) → Behind (n + part_accesses q) high rest → Ascends n (all_made_by b path (core_part known n q rest) v) high
    part_ascends v n high no_actions rest h = behind_from n (n + 0) high rest (omega arith) h v
    part_ascends v n high (action_then a more) rest h =
        action_ascends v n high a (core_part known (n + accesses_of a) more rest)
        (λ w. part_ascends w (n + accesses_of a) high more rest (behind_from (n + accesses_of a + part_accesses more) (n + (accesses_of a + part_accesses more)) high rest (omega arith) h))

  -- the commands of a phase
  pub located_ascend : (r : Around) (before part : List SourceEvent) (v : Variables) (cs : List Located) → Follows r before part cs → Ascends (count before) (all_made_by b path (core_commands known cs) v) (count before + count part)
  located_ascend r before part v [] f = omega arith
  located_ascend r before part v (c ∷ cs) (gap, (rest, (is, (stands, more)))) =
      let own = located_counted r (before ++ gap) c stands in let first_is = stands.first in
      let g = count_joined before gap in let d = ap count is in let e = count_joined gap (of_located c ++ rest) in let x = count_joined (of_located c) rest in
      let y = count_joined (before ++ gap) (of_located c) in
      ascends_from (count before) c.first (count before + count part) (all_made_by b path (core_commands known (c ∷ cs)) v) (omega (arith, first_is, g))
      (action_ascends v c.first (count before + count part) c.command (core_commands known cs)
      (λ w. ascends_from (c.first + accesses_of c.command) (count ((before ++ gap) ++ of_located c)) (count before + count part) (all_made_by b path (core_commands known cs) w) (omega (arith, first_is, own, y))
      (ascends_to (count ((before ++ gap) ++ of_located c)) (count ((before ++ gap) ++ of_located c) + count rest) (count before + count part) (all_made_by b path (core_commands known cs) w) (omega (arith, first_is, g, d, e, x, y)) (located_ascend r ((before ++ gap) ++ of_located c) rest w cs more))))
