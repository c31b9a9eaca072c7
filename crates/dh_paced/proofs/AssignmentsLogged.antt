-- Which registers a command gives values to: those of the variables that it assigns to, of each at every path; so that
-- behind an `if` each of them is chosen.
use Rattle.std.proofs.Common.{◌≡◌, ◌⊎◌, inl, inr, ℕ, zero, suc, ◌+◌, ◌<◌, ◌≤◌, Some, None, Option, List, [], ◌∷◌, ◌++◌, length, drop, append_assoc, refl, sym, ap, ◌∙◌, subst, arith}
use Rattle.std.specs.Prelude.{Bool as Truth, true, false, ◌-◌, ◌^◌, if◌then◌else◌, min, slice_get, slice_index}
use Rattle.std.specs.List.{AllByRecursion}
use Rattle.std.proofs.lemmas.Bool.{cases_lt, eq-eqb}
use Rattle.std.proofs.lemmas.List.{append-nil, append_cancel_left}
use Rattle.dh_tree.specs.PlainTrees.{Action, action, lets, lets_memory, views, assigns, stores, reduces, calls, blocks, decides, repeats, counts, MaybeAction, no_action, one_action, Actions, no_actions, action_then, Groups, no_groups, group_then, ViewPlan, Term}
use Rattle.dh_tree.specs.ViewOffsets.{offsets_of}
use Rattle.dh_tree.specs.Seen.{terms}
use Rattle.dh_meaning.specs.CoreOf.{entity_number, way_of}
use Rattle.dh_meaning.specs.Ways.{Hidden, hidden_in}
use Rattle.dh_code.specs.Slots.{held_at}
use Rattle.dh_expressions.specs.declared.drafts.Draft.{Draft}
use Rattle.dh_expressions.specs.declared.paths.Level.{Level}
use Rattle.dh_expressions.specs.declared.scenes.Around.{Around}
use Rattle.dh_expressions.specs.declared.scenes.Scene.{Scene}
use Rattle.dh_expressions.specs.Levels.{rank_number}
use Rattle.dh_expressions.specs.Shown.{register_at}
use Rattle.dh_expressions.proofs.ListPlaces.{place_within, some_same, there}
use Rattle.dh_expressions.specs.Evaluated.{known_in}
use Rattle.dh_expressions.specs.declared.scenes.Lane.{Lane}
use Rattle.dh_expressions.specs.declared.accesses.Accesses.{Accesses}
use Rattle.dh_expressions.specs.MadeTerms.{MadeTerms}
use Rattle.dh_commands.specs.declared.assignments.Change.{Change}
use Rattle.dh_commands.specs.declared.assignments.Values.{Values}
use Rattle.dh_commands.specs.declared.buildings.Building.{Building}
use Rattle.dh_commands.specs.declared.choices.Choice.{Choice}
use Rattle.dh_commands.specs.declared.choices.Left.{Left}
use Rattle.dh_commands.specs.Joined.{AreChoices, IsLeft, JoinsArms}
use Rattle.dh_commands.specs.LanesRun.{lane_of, paths_counted}
use Rattle.dh_commands.specs.MadeCommands.{AssignedTo, ClearedTo, Commanding, MadeActions, MadeArm, MadeAssigned, MadeChoice, MadeChoiceBy, MadeChoices, MadeCleared, MadeCommand, MadeGroups, MadeJoined, MadeLanes, MadeNoArm, MadeOther, MadeReduced, ReducedTo, StoredTo, KeptTo, MadeKept, MadeView}
use Rattle.dh_commands.specs.ShownVariables.{register_in}
use Rattle.dh_commands.specs.Undone.{AreReady, Assigns, EndsArm, HasRoom, IsChange, Logs, change_at, first_left, left_at, lefts_of, undone}
use Rattle.dh_commands.proofs.ArmsJoined.{choice_set}
use Rattle.dh_commands.proofs.ArmsLeft.{AreSame, ArmLeft, IsSetAt, arm_ended, lefts_given, nothing_left, same_again, same_ready}
use Rattle.dh_commands.proofs.ChangesBack.{changes_logs, logs_again, logs_none, logs_one}
use Rattle.dh_commands.proofs.JoinedArms.{first_more, left_if, left_or}
use Rattle.dh_commands.specs.Setting.{IsVariableAmong, SetsFrom}
use Rattle.dh_commands.proofs.KeptWords.{holds_long}
use Rattle.dh_laid.specs.LaidCommands.{AreLogged}
use Rattle.dh_laid.proofs.ValuesLogged.{arm_back, arm_long, tests_same}
use Rattle.dh_paced.specs.Standing.{IsUnder}
use Rattle.dh_paced.specs.Assigned.{IsAssignedIn, IsAssignedInGroups, IsAssignedInOther, IsAssignedInPart, IsOffsetVariable}

pub cases_last : (i n : ℕ) → i < suc n → (i < n) ⊎ (i ≡ n)
cases_last i n less = split (cases_lt i n)
  where
    split : (i < n) ⊎ (n ≤ i) → (i < n) ⊎ (i ≡ n)
    split (inl h) = inl h
    split (inr h) = inr (omega (arith, h, less))

-- a register is one of those that were set
abbrev pub IsSet : List Change → (register : ℕ) → Type 0
IsSet [] r = ⊥
IsSet (c ∷ cs) r = (c.register ≡ r) ⊎ IsSet cs r

set_front : (xs ys : List Change) (r : ℕ) → IsSet xs r → IsSet (xs ++ ys) r
set_front [] ys r h = absurd h
set_front (c ∷ xs) ys r (inl h) = inl h
set_front (c ∷ xs) ys r (inr h) = inr (set_front xs ys r h)

set_behind : (xs ys : List Change) (r : ℕ) → IsSet ys r → IsSet (xs ++ ys) r
set_behind [] ys r h = h
set_behind (c ∷ xs) ys r h = inr (set_behind xs ys r h)

-- what is set in an arm it leaves
pub set_left : (more : List Change) (behind : List (Option ℕ)) (r : ℕ) → IsSet more r → (l : Left) × (first_left (lefts_of more behind) r ≡ Some l)
set_left [] behind r h = absurd h
set_left (c ∷ cs) behind r (inl same) = by (first_left (lefts_of cs behind) r) refl
  where
    here : left_if (left_at c (undone cs behind)) r ≡ Some (left_at c (undone cs behind))
    here = ap (λ (b : Truth). if b then Some (left_at c (undone cs behind)) else None) (eq-eqb c.register r same)

    by : (o : Option Left) → first_left (lefts_of cs behind) r ≡ o → (l : Left) × (first_left (lefts_of (c ∷ cs) behind) r ≡ Some l)
    by None e = (left_at c (undone cs behind), first_more (lefts_of cs behind) (left_at c (undone cs behind)) r ∙ (ap (λ o. left_or o (left_if (left_at c (undone cs behind)) r)) e ∙ here))
    by (Some l) e = (l, first_more (lefts_of cs behind) (left_at c (undone cs behind)) r ∙ ap (λ o. left_or o (left_if (left_at c (undone cs behind)) r)) e)
set_left (c ∷ cs) behind r (inr h) =
    let before : (l : Left) × (first_left (lefts_of cs behind) r ≡ Some l) = set_left cs behind r h in
    (before.0, first_more (lefts_of cs behind) (left_at c (undone cs behind)) r ∙ ap (λ o. left_or o (left_if (left_at c (undone cs behind)) r)) before.1)

-- as many values are held as there are offsets
terms_long : (scene : Scene) (lane : Lane) (current : List (Option ℕ)) (offsets : List Term) (old new : Draft) (before after : Accesses) (n next : ℕ) (values : List ℕ) → MadeTerms scene lane current (terms offsets) old new before after n next values
    → length values ≡ length offsets
terms_long scene lane current [] old new before after n next values m = ap (λ (vs : List ℕ). length vs) m.none
terms_long scene lane current (t ∷ ts) old new before after n next values m =
    ap (λ (vs : List ℕ). length vs) m.values_are ∙ ap suc (terms_long scene lane current ts m.middle new m.between after m.own next m.more m.rest)

pub kept_long : (scene : Scene) (lane : Lane) (first entity : ℕ) (offsets : List Term) (old new : Building) (next : ℕ) (m : MadeKept scene lane first entity offsets old new next) → length m.held ≡ length offsets
kept_long scene lane first entity offsets old new next m =
    holds_long scene entity offsets m.values m.middle new.draft m.held m.holds ∙ terms_long scene lane old.values.current.items offsets old.draft m.middle old.accesses new.accesses first next m.values m.offsets_made

module _ (scene : Scene) (top : Around) where
  -- registers are those of the block's paths
  pub register_under : (around : Around) (e n : ℕ) → around.levels.now ≡ top.levels.now → register_at (held_at scene.held.now e) (lane_of around n) ≡ register_in scene top e n
  register_under around e n same = ap (λ (ls : List Level). min ((held_at scene.held.now e).first + rank_number ls (held_at scene.held.now e).depth n) (2 ^ 64 - 1)) same

  -- variables of these are given values, each at every path
  pub record LogsOf (May : ℕ → Type 0) (old new : Values) : Type 0 where
    pub logs : Logs (IsChange scene top May) old new
    pub covers : (e i : ℕ) → May e → i < paths_counted top → IsSet logs.more (register_in scene top e i)

  -- the first paths, so many
  record LogsTo (May : ℕ → Type 0) (e count : ℕ) (old new : Values) : Type 0 where
    logs : Logs (IsChange scene top May) old new
    covers : (i : ℕ) → i < count → IsSet logs.more (register_in scene top e i)

  abbrev pub HaveRoom : (May : ℕ → Type 0) → Values → Type 0
  HaveRoom May v = (e i : ℕ) → May e → i < paths_counted top → register_in scene top e i < length v.current.items

  change_wider : (May Might : ℕ → Type 0) → ((e : ℕ) → May e → Might e) → (c : Change) → IsChange scene top May c → IsChange scene top Might c
  change_wider May Might more c h = record { entity = h.entity; may = more h.entity h.may; within = h.within; register_is = h.register_is }

  changes_wider : (May Might : ℕ → Type 0) → ((e : ℕ) → May e → Might e) → (cs : List Change) → AllByRecursion (IsChange scene top May) cs → AllByRecursion (IsChange scene top Might) cs
  changes_wider May Might more [] h = tt
  changes_wider May Might more (c ∷ cs) h = (change_wider May Might more c h.0, changes_wider May Might more cs h.1)

  abbrev logs_wider : (May Might : ℕ → Type 0) → ((e : ℕ) → May e → Might e) → (old new : Values) → Logs (IsChange scene top May) old new → Logs (IsChange scene top Might) old new
  logs_wider May Might more old new l = record { more = l.more; log = l.log; back = l.back; long = l.long; marks = l.marks; each = changes_wider May Might more l.more l.each; room = l.room; given = l.given }

  logged_alike : (May Might : ℕ → Type 0) → ((e : ℕ) → May e → Might e) → ((e : ℕ) → Might e → May e) → (old new : Values) → LogsOf May old new → LogsOf Might old new
  logged_alike May Might more less old new l = record { logs = logs_wider May Might more old new l.logs; covers = λ e i m within. l.covers e i (less e m) within }

  logged_none : (May : ℕ → Type 0) → ((e : ℕ) → May e → ⊥) → (old new : Values) → new ≡ old → LogsOf May old new
  logged_none May no_one old new same = record {
    logs = subst (λ (v : Values). Logs (IsChange scene top May) old v) (sym same) (logs_none (IsChange scene top May) old);
    covers = λ e i m within. absurd (no_one e m);
  }

  -- what is logged is told by the logs
  more_is : (P : Change → Type 0) (a b : Values) (ms : List Change) (l : Logs P a b) → b.log.items ≡ a.log.items ++ ms → ms ≡ l.more
  more_is P a b ms l log = append_cancel_left a.log.items ms l.more (sym log ∙ l.log)

  again_log : (P Q R : Change → Type 0) (a b c : Values) (h : Logs P a b) (k : Logs Q b c) → c.log.items ≡ a.log.items ++ (h.more ++ k.more)
  again_log P Q R a b c h k = k.log ∙ (ap (λ (l : List Change). l ++ k.more) h.log ∙ append_assoc a.log.items h.more k.more)

  logged_both : (May Might : ℕ → Type 0) (a b c : Values) → LogsOf May a b → LogsOf Might b c → LogsOf (λ e. May e ⊎ Might e) a c
  logged_both May Might a b c h k = record {
    logs = all;
    covers = λ e i m within.
        subst (λ (cs : List Change). IsSet cs (register_in scene top e i))
        (more_is (IsChange scene top (λ e. May e ⊎ Might e)) a c (h.logs.more ++ k.logs.more) all (again_log (IsChange scene top May) (IsChange scene top Might) (IsChange scene top May) a b c h.logs k.logs)) (by e i m within);
  }
    where
      all : Logs (IsChange scene top (λ e. May e ⊎ Might e)) a c
      all = logs_again (IsChange scene top (λ e. May e ⊎ Might e)) a b c (logs_wider May (λ e. May e ⊎ Might e) (λ e m. inl m) a b h.logs) (logs_wider Might (λ e. May e ⊎ Might e) (λ e m. inr m) b c k.logs)

      by : (e i : ℕ) → May e ⊎ Might e → i < paths_counted top → IsSet (h.logs.more ++ k.logs.more) (register_in scene top e i)
      by e i (inl m) within = set_front h.logs.more k.logs.more (register_in scene top e i) (h.covers e i m within)
      by e i (inr m) within = set_behind h.logs.more k.logs.more (register_in scene top e i) (k.covers e i m within)

  room_later : (May : ℕ → Type 0) (a b : Values) → length b.current.items ≡ length a.current.items → HaveRoom May a → HaveRoom May b
  room_later May a b same h = λ e i m within. subst (λ (n : ℕ). register_in scene top e i < n) (sym same) (h e i m within)

  ready_later : (May : ℕ → Type 0) (a b : Values) → Logs (IsChange scene top May) a b → AreReady a → AreReady b
  ready_later May a b h ready = record {
    unmarked = λ register. ap (λ (ms : List ℕ). slice_index ms register) h.marks ∙ ready.unmarked register;
    long = ap (λ (ms : List ℕ). length ms) h.marks ∙ (ready.long ∙ sym h.long);
  }

  -- one register is set
  one_set : (P : Change → Type 0) (old new : Values) (register path value : ℕ) (is : P (change_at old.current.items register path)) (s : Assigns old new register path value) → register < length old.current.items
      → IsSet (logs_one P old new register path value is s).more register
  one_set P old new register path value is s within =
      let l : Logs P old new = logs_one P old new register path value is s in
      let same : l.more ≡ change_at old.current.items register path ∷ [] = append_cancel_left old.log.items l.more (change_at old.current.items register path ∷ []) (sym l.log ∙ s.log within) in
      subst (λ (cs : List Change). IsSet cs register) (sym same) (inl refl)

  lanes_logged : (One : ℕ → (b d : Building) → ℕ → Type 0) (e : ℕ) → ((n : ℕ) (b d : Building) (k : ℕ) → One n b d k → (value : ℕ) × Assigns b.values d.values (register_in scene top e n) n value)
      → (count first : ℕ) (old new : Building) (next : ℕ) → count ≤ paths_counted top → ((i : ℕ) → i < paths_counted top → register_in scene top e i < length old.values.current.items)
      → MadeLanes One count first old new next → LogsTo (λ f. f ≡ e) e count old.values new.values
  lanes_logged One e each zero first old new next within room m = record {
    logs = subst (λ (b : Building). Logs (IsChange scene top (λ f. f ≡ e)) old.values b.values) (sym m.0) (logs_none (IsChange scene top (λ f. f ≡ e)) old.values);
    covers = λ i less. absurd (never i less);
  }
    where
      never : (i : ℕ) → i < 0 → ⊥
      never i h = omega (arith, h)
  lanes_logged One e each (suc n) first old new next within room m = further m.0 (each n m.0 new next m.1.1.1) (lanes_logged One e each n first old m.0 m.1.0 (omega (arith, within)) room m.1.1.0)
    where
      further : (b : Building) → (value : ℕ) × Assigns b.values new.values (register_in scene top e n) n value → LogsTo (λ f. f ≡ e) e n old.values b.values → LogsTo (λ f. f ≡ e) e (suc n) old.values new.values
      further b one front =
          let is : IsChange scene top (λ f. f ≡ e) (change_at b.values.current.items (register_in scene top e n) n) = record { entity = e; may = refl; within = within; register_is = refl } in
          let l : Logs (IsChange scene top (λ f. f ≡ e)) b.values new.values = logs_one (IsChange scene top (λ f. f ≡ e)) b.values new.values (register_in scene top e n) n one.0 is one.1 in
          let set : IsSet l.more (register_in scene top e n) =
          one_set (IsChange scene top (λ f. f ≡ e)) b.values new.values (register_in scene top e n) n one.0 is one.1 (subst (λ (k : ℕ). register_in scene top e n < k) (sym front.logs.long) (room n (omega (arith, within)))) in
          let all : Logs (IsChange scene top (λ f. f ≡ e)) old.values new.values = logs_again (IsChange scene top (λ f. f ≡ e)) old.values b.values new.values front.logs l in
          let same : front.logs.more ++ l.more ≡ all.more =
          more_is (IsChange scene top (λ f. f ≡ e)) old.values new.values (front.logs.more ++ l.more) all
          (again_log (IsChange scene top (λ f. f ≡ e)) (IsChange scene top (λ f. f ≡ e)) (IsChange scene top (λ f. f ≡ e)) old.values b.values new.values front.logs l) in
          record { logs = all; covers = λ i less. subst (λ (cs : List Change). IsSet cs (register_in scene top e i)) same (by i l set (cases_last i n less)) }
        where
          by : (i : ℕ) (l : Logs (IsChange scene top (λ f. f ≡ e)) b.values new.values) → IsSet l.more (register_in scene top e n) → (i < n) ⊎ (i ≡ n) → IsSet (front.logs.more ++ l.more) (register_in scene top e i)
          by i l set (inl less) = set_front front.logs.more l.more (register_in scene top e i) (front.covers i less)
          by i l set (inr same) = subst (λ (k : ℕ). IsSet (front.logs.more ++ l.more) (register_in scene top e k)) (sym same) (set_behind front.logs.more l.more (register_in scene top e n) set)

  lanes_all : (e : ℕ) (old new : Values) → LogsTo (λ f. f ≡ e) e (paths_counted top) old new → LogsOf (λ f. f ≡ e) old new
  lanes_all e old new l = record { logs = l.logs; covers = λ f i same within. subst (λ (k : ℕ). IsSet l.logs.more (register_in scene top k i)) (sym same) (l.covers i within) }

  -- Offsets that variables keep.

  -- one is set, and those behind it
  set_then : (May : ℕ → Type 0) (n first count : ℕ) (old mid new : Values) (l : Logs (IsChange scene top May) old mid) → IsSet l.more (register_in scene top first n)
      → (logs : Logs (IsChange scene top May) mid new) × ((e : ℕ) → suc first ≤ e → e < suc first + count → IsSet logs.more (register_in scene top e n))
      → (logs : Logs (IsChange scene top May) old new) × ((e : ℕ) → first ≤ e → e < first + suc count → IsSet logs.more (register_in scene top e n))
  set_then May n first count old mid new l own_set (k, covers) =
      let all : Logs (IsChange scene top May) old new = logs_again (IsChange scene top May) old mid new l k in
      let equal : l.more ++ k.more ≡ all.more = more_is (IsChange scene top May) old new (l.more ++ k.more) all (again_log (IsChange scene top May) (IsChange scene top May) (IsChange scene top May) old mid new l k) in
      (all, λ e from below. subst (λ (cs : List Change). IsSet cs (register_in scene top e n)) equal (by e from below (cases_lt first e)))
    where
      both : (a b : ℕ) → a ≤ b → b ≤ a → a ≡ b
      both a b f g = omega (arith, f, g)

      by : (e : ℕ) → first ≤ e → e < first + suc count → (first < e) ⊎ (e ≤ first) → IsSet (l.more ++ k.more) (register_in scene top e n)
      by e from below (inl less) = set_behind l.more k.more (register_in scene top e n) (covers e (omega (arith, less)) (omega (arith, below)))
      by e from below (inr few) = subst (λ (i : ℕ). IsSet (l.more ++ k.more) (register_in scene top i n)) (both first e from few) (set_front l.more k.more (register_in scene top first n) own_set)

  set_logged : (May : ℕ → Type 0) (around : Around) (n : ℕ) → around.levels.now ≡ top.levels.now → n < paths_counted top → (first : ℕ) (values : List ℕ) (old new : Values) → ((e : ℕ) → first ≤ e → e < first + length values → May e)
      → SetsFrom scene (lane_of around n) old new first values → ((e : ℕ) → May e → register_in scene top e n < length old.current.items)
      → (logs : Logs (IsChange scene top May) old new) × ((e : ℕ) → first ≤ e → e < first + length values → IsSet logs.more (register_in scene top e n))
  set_logged May around n same within first [] old new may s room =
      (subst (λ (v : Values). Logs (IsChange scene top May) old v) (sym s) (logs_none (IsChange scene top May) old), λ e from below. absurd (never first e from below))
    where
      never : (k e : ℕ) → k ≤ e → e < k + 0 → ⊥
      never k e f b = omega (arith, f, b)
  set_logged May around n same within first (value ∷ values) old new may (mid, (set, rest)) room =
      let own : May first = may first (omega arith) (omega arith) in
      let a : Assigns old mid (register_in scene top first n) n value = subst (λ (r : ℕ). Assigns old mid r n value) (register_under around first n same) set in
      let is : IsChange scene top May (change_at old.current.items (register_in scene top first n) n) = record { entity = first; may = own; within = within; register_is = refl } in
      let l : Logs (IsChange scene top May) old mid = logs_one (IsChange scene top May) old mid (register_in scene top first n) n value is a in
      set_then May n first (length values) old mid new l (one_set (IsChange scene top May) old mid (register_in scene top first n) n value is a (room first own))
      (set_logged May around n same within (suc first) values mid new (λ e from below. may e (omega (arith, from)) (omega (arith, below))) rest (λ e m. subst (λ (k : ℕ). register_in scene top e n < k) (sym l.long) (room e m)))

  -- at the first paths, so many
  record LogsEach (May : ℕ → Type 0) (count : ℕ) (old new : Values) : Type 0 where
    logs : Logs (IsChange scene top May) old new
    covers : (e i : ℕ) → May e → i < count → IsSet logs.more (register_in scene top e i)

  kept_logged : (around : Around) (entity : ℕ) (offsets : List Term) → IsUnder top around → (count first : ℕ) (old new : Building) (next : ℕ) → count ≤ paths_counted top → HaveRoom (IsVariableAmong entity (length offsets)) old.values
      → KeptTo scene around first entity offsets count old new next → LogsEach (IsVariableAmong entity (length offsets)) count old.values new.values
  kept_logged around entity offsets u zero first old new next within room m = record {
    logs = subst (λ (b : Building). Logs (IsChange scene top (IsVariableAmong entity (length offsets))) old.values b.values) (sym m.0) (logs_none (IsChange scene top (IsVariableAmong entity (length offsets))) old.values);
    covers = λ e i may less. absurd (never i less);
  }
    where
      never : (i : ℕ) → i < 0 → ⊥
      never i h = omega (arith, h)
  kept_logged around entity offsets u (suc n) first old new next within room m = further m.0 m.1.0 m.1.1.1 (kept_logged around entity offsets u n first old m.0 m.1.0 (omega (arith, within)) room m.1.1.0)
    where
      May : ℕ → Type 0
      May e = IsVariableAmong entity (length offsets) e

      further : (b : Building) (k : ℕ) → MadeKept scene (lane_of around n) first entity offsets b new next → LogsEach May n old.values b.values → LogsEach May (suc n) old.values new.values
      further b k one front =
          behind (set_logged May around n u.levels (omega (arith, within)) entity one.held b.values new.values (λ e from below. (from, subst (λ (l : ℕ). e < entity + l) (kept_long scene (lane_of around n) first entity offsets b new next one) below)) one.sets
          (λ e may. subst (λ (l : ℕ). register_in scene top e n < l) (sym front.logs.long) (room e n may (omega (arith, within)))))
        where
          behind : (logs : Logs (IsChange scene top May) b.values new.values) × ((e : ℕ) → entity ≤ e → e < entity + length one.held → IsSet logs.more (register_in scene top e n)) → LogsEach May (suc n) old.values new.values
          behind (l, covers) =
              let all : Logs (IsChange scene top May) old.values new.values = logs_again (IsChange scene top May) old.values b.values new.values front.logs l in
              let equal : front.logs.more ++ l.more ≡ all.more =
              more_is (IsChange scene top May) old.values new.values (front.logs.more ++ l.more) all (again_log (IsChange scene top May) (IsChange scene top May) (IsChange scene top May) old.values b.values new.values front.logs l) in
              record { logs = all; covers = λ e i may less. subst (λ (cs : List Change). IsSet cs (register_in scene top e i)) equal (by e i may (cases_last i n less)) }
            where
              by : (e i : ℕ) → May e → (i < n) ⊎ (i ≡ n) → IsSet (front.logs.more ++ l.more) (register_in scene top e i)
              by e i may (inl less) = set_front front.logs.more l.more (register_in scene top e i) (front.covers e i may less)
              by e i may (inr same) =
                  subst (λ (k : ℕ). IsSet (front.logs.more ++ l.more) (register_in scene top e k)) (sym same)
                  (set_behind front.logs.more l.more (register_in scene top e n) (covers e may.0 (subst (λ (k : ℕ). e < entity + k) (sym (kept_long scene (lane_of around n) first entity offsets b new next one)) may.1)))

  view_logged : (hs : List Hidden) (form : ViewPlan) (around : Around) (old new : Building) (first next : ℕ) → MadeView scene hs form around old new first next → IsUnder top around → HaveRoom (IsOffsetVariable hs (length (offsets_of form))) old.values
      → LogsOf (IsOffsetVariable hs (length (offsets_of form))) old.values new.values
  view_logged [] form around old new first next m u room = logged_none (λ e. ⊥) (λ e h. h) old.values new.values (ap (λ (b : Building). b.values) m.still)
  view_logged (x ∷ xs) form around old new first next m u room =
      let l : LogsEach (IsVariableAmong x.entity (length (offsets_of form))) (paths_counted top) old.values new.values =
      kept_logged around x.entity (offsets_of form) u (paths_counted top) first old new next (omega arith) room (subst (λ (n : ℕ). KeptTo scene around first x.entity (offsets_of form) n old new next) u.counted m) in
      record { logs = l.logs; covers = l.covers }

  -- Arms.

  -- an arm that is taken back: its values as it ended, and what it left of them
  pub record LeavesOf (May : ℕ → Type 0) (old new : Values) (behind : List (Option ℕ)) (lefts : List Left) : Type 0 where
    pub same : AreSame old new
    pub left : ArmLeft scene top May old.current.items behind lefts
    pub covers : (e i : ℕ) → May e → i < paths_counted top → (l : Left) × (first_left lefts (register_in scene top e i) ≡ Some l)

  left_wider : (May Might : ℕ → Type 0) → ((e : ℕ) → May e → Might e) → (base : List (Option ℕ)) (cs : List Change)
      → AllByRecursion (λ (c : Change). IsSetAt scene top May base c.register c.path) cs → AllByRecursion (λ (c : Change). IsSetAt scene top Might base c.register c.path) cs
  left_wider May Might more base [] h = tt
  left_wider May Might more base (c ∷ cs) h =
      (record { entity = h.0.entity; may = more h.0.entity h.0.may; within = h.0.within; register_is = h.0.register_is; room = h.0.room }, left_wider May Might more base cs h.1)

  pub leaves_wider : (May Might : ℕ → Type 0) → ((e : ℕ) → May e → Might e) → (base behind : List (Option ℕ)) (lefts : List Left) → ArmLeft scene top May base behind lefts → ArmLeft scene top Might base behind lefts
  leaves_wider May Might more base behind lefts h = record { more = h.more; lefts_are = h.lefts_are; back = h.back; each = left_wider May Might more base h.more h.each; given = h.given; room = h.room }

  arm_leaves : (May : ℕ → Type 0) (begun inside ended : Values) (lefts : List Left) → LogsOf May begun inside → EndsArm inside ended (length begun.log.items) lefts → LeavesOf May begun ended inside.current.items lefts
  arm_leaves May begun inside ended lefts h ends =
      let e : AreSame begun ended × ArmLeft scene top May begun.current.items inside.current.items lefts =
      arm_ended scene top top May begun inside ended lefts (λ e j. refl) refl (changes_logs scene top May begun inside h.logs) ends in
      let any : AreLogged begun inside = logs_any begun inside h.logs in
      let is : lefts ≡ lefts_of h.logs.more inside.current.items =
      ends.lefts_are (arm_back begun inside ended lefts any ends).room ∙ ap (λ (cs : List Change). lefts_of cs inside.current.items) (ap (λ (cs : List Change). drop (length begun.log.items) cs) h.logs.log ∙ drop_front begun.log.items h.logs.more) in
      record {
        same = e.0;
        left = e.1;
        covers = λ e i may within.
            let l : (l : Left) × (first_left (lefts_of h.logs.more inside.current.items) (register_in scene top e i) ≡ Some l) = set_left h.logs.more inside.current.items (register_in scene top e i) (h.covers e i may within) in
            (l.0, ap (λ (ls : List Left). first_left ls (register_in scene top e i)) is ∙ l.1);
      }
    where
      drop_front : (xs ys : List Change) → drop (length xs) (xs ++ ys) ≡ ys
      drop_front [] ys = refl
      drop_front (x ∷ xs) ys = drop_front xs ys

      all_any : (cs : List Change) → AllByRecursion (λ (c : Change). Unit {0}) cs
      all_any [] = tt
      all_any (c ∷ cs) = (tt, all_any cs)

      logs_any : (a b : Values) → Logs (IsChange scene top May) a b → AreLogged a b
      logs_any a b l = record { more = l.more; log = l.log; back = l.back; long = l.long; marks = l.marks; each = all_any l.more; room = l.room; given = l.given }

  none_leaves : (May : ℕ → Type 0) → ((e : ℕ) → May e → ⊥) → (old new : Building) (first next : ℕ) (lefts : List Left) → MadeNoArm old new first next lefts → LeavesOf May old.values new.values old.values.current.items lefts
  none_leaves May no_one old new first next lefts m = record {
    same = subst (λ (b : Building). AreSame old.values b.values) (sym m.still) (record { current = refl; log = refl; marks = refl });
    left = subst (λ (ls : List Left). ArmLeft scene top May old.values.current.items old.values.current.items ls) (sym m.none) (nothing_left scene top May old.values.current.items);
    covers = λ e i may within. absurd (no_one e may);
  }

  -- what was left is of registers that are there
  pub are_left : (May : ℕ → Type 0) (base behind : List (Option ℕ)) (lefts : List Left) → ArmLeft scene top May base behind lefts → AllByRecursion (IsLeft base) lefts
  are_left May base behind lefts h = subst (λ (ls : List Left). AllByRecursion (IsLeft base) ls) (sym h.lefts_are) (lefts_given base h.more behind h.given h.room)

  -- Choices.

  module _ (May : ℕ → Type 0) (tests : List ℕ) (choices : List Choice) (long : length tests ≡ paths_counted top) where
    record LogsChoices (count : ℕ) (before after : Values) : Type 0 where
      logs : Logs (IsChange scene top May) before after
      covers : (k : ℕ) (c : Choice) → k < count → slice_get choices k ≡ Some c → IsSet logs.more c.register

    choices_logged : (count : ℕ) (old new : Draft) (before after : Values) → ((k : ℕ) (c : Choice) → slice_get choices k ≡ Some c → IsSetAt scene top May before.current.items c.register c.path)
        → MadeChoices tests choices count old new before after → LogsChoices count before after
    choices_logged zero old new before after are m = record {
      logs = subst (λ (v : Values). Logs (IsChange scene top May) before v) (sym m.1) (logs_none (IsChange scene top May) before);
      covers = λ k c less. absurd (never k less);
    }
      where
        never : (i : ℕ) → i < 0 → ⊥
        never i h = omega (arith, h)
    choices_logged (suc n) old new before after are m = further m.0 m.1.0 m.1.1.0 m.1.1.1.1.0 m.1.1.1.1.1 (choices_logged n old m.0 before m.1.0 are m.1.1.1.0)
      where
        further : (d : Draft) (v : Values) (c : Choice) → slice_get choices n ≡ Some c → MadeChoiceBy (slice_get tests c.path) c d new v after → LogsChoices n before v → LogsChoices (suc n) before after
        further d v c at made front = chosen (there tests c.path (subst (λ (k : ℕ). c.path < k) (sym long) set.within))
          where
            set : IsSetAt scene top May before.current.items c.register c.path
            set = are n c at

            is : IsChange scene top May (change_at v.current.items c.register c.path)
            is = record { entity = set.entity; may = set.may; within = set.within; register_is = set.register_is }

            room : c.register < length v.current.items
            room = subst (λ (k : ℕ). c.register < k) (sym front.logs.long) set.room

            chosen : (test : ℕ) × (slice_get tests c.path ≡ Some test) → LogsChoices (suc n) before after
            chosen (test, found) =
                let one : MadeChoice test c d new v after = subst (λ (o : Option ℕ). MadeChoiceBy o c d new v after) found made in
                let l : Logs (IsChange scene top May) v after = logs_one (IsChange scene top May) v after c.register c.path one.value is one.sets in
                let own : IsSet l.more c.register = one_set (IsChange scene top May) v after c.register c.path one.value is one.sets room in
                let all : Logs (IsChange scene top May) before after = logs_again (IsChange scene top May) before v after front.logs l in
                let same : front.logs.more ++ l.more ≡ all.more =
                more_is (IsChange scene top May) before after (front.logs.more ++ l.more) all (again_log (IsChange scene top May) (IsChange scene top May) (IsChange scene top May) before v after front.logs l) in
                record { logs = all; covers = λ k b less here. subst (λ (cs : List Change). IsSet cs b.register) same (by k b l own here (cases_last k n less)) }
              where
                by : (k : ℕ) (b : Choice) (l : Logs (IsChange scene top May) v after) → IsSet l.more c.register → slice_get choices k ≡ Some b → (k < n) ⊎ (k ≡ n) → IsSet (front.logs.more ++ l.more) b.register
                by k b l own here (inl less) = set_front front.logs.more l.more b.register (front.covers k b less here)
                by k b l own here (inr same) =
                    let equal : b ≡ c = some_same b c (sym here ∙ (ap (λ (i : ℕ). slice_get choices i) same ∙ at)) in
                    subst (λ (b : Choice). IsSet (front.logs.more ++ l.more) b.register) (sym equal) (set_behind front.logs.more l.more c.register own)

  -- An `if`, from its arms.
  module _ (A B : ℕ → Type 0) (tests : List ℕ) (long : length tests ≡ paths_counted top) (chosen other : List Left) (begun old : Values) (one two : List (Option ℕ)) (ready : AreReady old) (back : AreSame begun old)
      (left_one : ArmLeft scene top A begun.current.items one chosen) (left_two : ArmLeft scene top B begun.current.items two other)
      (covers_one : (e i : ℕ) → A e → i < paths_counted top → (l : Left) × (first_left chosen (register_in scene top e i) ≡ Some l))
      (covers_two : (e i : ℕ) → B e → i < paths_counted top → (l : Left) × (first_left other (register_in scene top e i) ≡ Some l)) where
    abbrev Both : ℕ → Type 0
    Both e = A e ⊎ B e

    pub one_wide : ArmLeft scene top Both old.current.items one chosen
    one_wide = subst (λ (os : List (Option ℕ)). ArmLeft scene top Both os one chosen) (sym back.current) (leaves_wider A Both (λ e a. inl a) begun.current.items one chosen left_one)

    pub two_wide : ArmLeft scene top Both old.current.items two other
    two_wide = subst (λ (os : List (Option ℕ)). ArmLeft scene top Both os two other) (sym back.current) (leaves_wider B Both (λ e b. inr b) begun.current.items two other left_two)

    module _ (a d : Building) (values_are : a.values ≡ old) (m : MadeJoined tests chosen other a d) where
      joins : JoinsArms old m.middle chosen other m.choices
      joins = subst (λ (v : Values). JoinsArms v m.middle chosen other m.choices) values_are m.joins

      pub are : AreChoices chosen other m.choices
      are = joins.are ready (are_left Both old.current.items one chosen one_wide) (are_left Both old.current.items two other two_wide)

      pub middle_same : AreSame old m.middle
      middle_same = record {
        current = ap (λ v. v.items) joins.current;
        log = ap (λ v. v.items) joins.log;
        marks = joins.marks ready (are_left Both old.current.items one chosen one_wide) (are_left Both old.current.items two other two_wide);
      }

      -- each choice is of a register of a variable that an arm assigns to
      pub choice_is : (k : ℕ) (c : Choice) → slice_get m.choices k ≡ Some c → IsSetAt scene top Both old.current.items c.register c.path
      choice_is k c at = choice_set scene top Both chosen other old.current.items one two one_wide two_wide m.choices are k c at

      -- and each such register is chosen
      pub is_chosen : (e i : ℕ) → Both e → i < paths_counted top → (k : ℕ) × ((c : Choice) × ((slice_get m.choices k ≡ Some c) × (c.register ≡ register_in scene top e i)))
      is_chosen e i (inl a) within = let l : (l : Left) × (first_left chosen (register_in scene top e i) ≡ Some l) = covers_one e i a within in are.all (register_in scene top e i) l.0 (inl l.1)
      is_chosen e i (inr b) within = let l : (l : Left) × (first_left other (register_in scene top e i) ≡ Some l) = covers_two e i b within in are.all (register_in scene top e i) l.0 (inr l.1)

      joined_logged : LogsOf Both old d.values
      joined_logged = record {
        logs = all;
        covers = λ e i both within.
            subst (λ (cs : List Change). IsSet cs (register_in scene top e i))
            (more_is (IsChange scene top Both) old d.values c.logs.more all (c.logs.log ∙ ap (λ (cs : List Change). cs ++ c.logs.more) middle_same.log)) (by e i (is_chosen e i both within));
      }
        where
          logs_same : (old new : Values) → AreSame old new → Logs (IsChange scene top Both) old new
          logs_same old new s = record { more = []; log = s.log ∙ sym (append-nil old.log.items); back = s.current; long = ap (λ (os : List (Option ℕ)). length os) s.current; marks = s.marks; each = tt; room = tt; given = tt }

          c : LogsChoices Both tests m.choices long (length m.choices) m.middle d.values
          c =
              choices_logged Both tests m.choices long (length m.choices) a.draft d.draft m.middle d.values
              (λ k c at. subst (λ (os : List (Option ℕ)). IsSetAt scene top Both os c.register c.path) (sym middle_same.current) (choice_is k c at)) m.choose

          all : Logs (IsChange scene top Both) old d.values
          all = logs_again (IsChange scene top Both) old m.middle d.values (logs_same old m.middle middle_same) c.logs

          by : (e i : ℕ) → (k : ℕ) × ((b : Choice) × ((slice_get m.choices k ≡ Some b) × (b.register ≡ register_in scene top e i))) → IsSet c.logs.more (register_in scene top e i)
          by e i (k, (b, (at, same))) = subst (λ (r : ℕ). IsSet c.logs.more r) same (c.covers k b (place_within m.choices k b at) at)

  pub under_arm : (Inner : Commanding) (around : Around) (holds : Truth) (tests : List ℕ) (old new : Building) (first next : ℕ) (lefts : List Left) (m : MadeArm Inner around holds tests old new first next lefts)
      → IsUnder top around → length tests ≡ paths_counted top → IsUnder top m.arm
  under_arm Inner around holds tests old new first next lefts m u long = record {
    levels = m.levels ∙ u.levels;
    counted = arm_long holds around.guards.now tests (length tests) old.draft m.guarded m.arm.guards.now m.guards ∙ long;
  }

  -- Commands.

  -- the values as a second arm ended; where there is none, as it began
  abbrev pub behind_other : (other : MaybeAction) (around : Around) (tests : List ℕ) (old new : Building) (first next : ℕ) (lefts : List Left) → MadeOther scene other around tests old new first next lefts → List (Option ℕ)
  behind_other no_action around tests old new first next lefts m = old.values.current.items
  behind_other (one_action a) around tests old new first next lefts m = m.inside.values.current.items

  -- the same, of values that are equal as it begins
  pub based : (May : ℕ → Type 0) (base other behind : List (Option ℕ)) (lefts : List Left) → other ≡ base → ArmLeft scene top May other behind lefts → ArmLeft scene top May base behind lefts
  based May base other behind lefts same h = record {
    more = h.more;
    lefts_are = h.lefts_are;
    back = h.back ∙ same;
    each = subst (λ (os : List (Option ℕ)). AllByRecursion (λ (c : Change). IsSetAt scene top May os c.register c.path) h.more) same h.each;
    given = h.given;
    room = subst (λ (os : List (Option ℕ)). AllByRecursion (HasRoom os) h.more) same h.room;
  }

  pub equal_same : (a b : Values) → b ≡ a → AreSame a b
  equal_same a b same = subst (λ (v : Values). AreSame a v) (sym same) (record { current = refl; log = refl; marks = refl })

  begun_same : (May : ℕ → Type 0) (a b c : Values) → AreSame a b → LogsOf May b c → LogsOf May a c
  begun_same May a b c s h = record {
    logs = record {
      more = h.logs.more;
      log = h.logs.log ∙ ap (λ (l : List Change). l ++ h.logs.more) s.log;
      back = h.logs.back ∙ s.current;
      long = h.logs.long ∙ ap (λ (os : List (Option ℕ)). length os) s.current;
      marks = h.logs.marks ∙ s.marks;
      each = h.logs.each;
      room = subst (λ (os : List (Option ℕ)). AllByRecursion (HasRoom os) h.logs.more) s.current h.logs.room;
      given = h.logs.given;
    };
    covers = h.covers;
  }

  pub values_at : (P : Values → Type 0) (a b : Values) → b ≡ a → P a → P b
  values_at P a b same h = subst P (sym same) h

  pub arm_logged : (Inner : Commanding) (around : Around) (holds : Truth) (tests : List ℕ) (old new : Building) (first next : ℕ) (lefts : List Left) (m : MadeArm Inner around holds tests old new first next lefts) (May : ℕ → Type 0)
      → LogsOf May m.begin.values m.inside.values → LeavesOf May old.values new.values m.inside.values.current.items lefts
  arm_logged Inner around holds tests old new first next lefts m May h =
      arm_leaves May old.values m.inside.values new.values lefts (subst (λ (v : Values). LogsOf May v m.inside.values) m.begin_values h) m.ends

  mutual
    pub command_logged : (a : Action) (around : Around) (old new : Building) (first next : ℕ) → MadeCommand scene a around old new first next → IsUnder top around → AreReady old.values → HaveRoom (IsAssignedIn (known_in scene) a) old.values
        → LogsOf (IsAssignedIn (known_in scene) a) old.values new.values
    command_logged (action id place (lets name declared (Some value))) around old new first next m u ready room =
        let e : ℕ = entity_number name.entity in
        lanes_all e old.values new.values
        (lanes_logged (λ n b d k. MadeAssigned scene (lane_of around n) first e value b d k) e
        (λ n b d k one. (one.held, subst (λ (r : ℕ). Assigns b.values d.values r n one.held) (register_under around e n u.levels) one.sets)) (paths_counted top) first old new next (omega arith) (λ i within. room e i refl within)
        (subst (λ (n : ℕ). AssignedTo scene around first e value n old new next) u.counted m))
    command_logged (action id place (lets name declared None)) around old new first next m u ready room =
        let e : ℕ = entity_number name.entity in
        lanes_all e old.values new.values
        (lanes_logged (λ n b d k. MadeCleared scene (lane_of around n) e b d × (k ≡ first)) e
        (λ n b d k one. ((one.0).value, subst (λ (r : ℕ). Assigns b.values d.values r n (one.0).value) (register_under around e n u.levels) (one.0).sets)) (paths_counted top) first old new next (omega arith) (λ i within. room e i refl within)
        (subst (λ (n : ℕ). ClearedTo scene around first e n old new next) u.counted m))
    command_logged (action id place (assigns target value)) around old new first next m u ready room =
        let e : ℕ = entity_number target.entity in
        lanes_all e old.values new.values
        (lanes_logged (λ n b d k. MadeAssigned scene (lane_of around n) first e value b d k) e
        (λ n b d k one. (one.held, subst (λ (r : ℕ). Assigns b.values d.values r n one.held) (register_under around e n u.levels) one.sets)) (paths_counted top) first old new next (omega arith) (λ i within. room e i refl within)
        (subst (λ (n : ℕ). AssignedTo scene around first e value n old new next) u.counted m))
    command_logged (action id place (stores target value)) around old new first next m u ready room =
        logged_none (λ e. ⊥) (λ e h. h) old.values new.values (lanes_same (paths_counted around) first old new next m)
      where
        lanes_same : (count k : ℕ) (b d : Building) (n : ℕ) → StoredTo scene around k target value count b d n → d.values ≡ b.values
        lanes_same zero k b d n m = ap (λ (e : Building). e.values) m.0
        lanes_same (suc i) k b d n m = (m.1.1.1).same ∙ lanes_same i k b m.0 m.1.0 m.1.1.0
    command_logged (action id place (reduces target op value)) around old new first next m u ready room =
        let e : ℕ = entity_number target.entity in
        lanes_all e old.values new.values
        (lanes_logged (λ n b d k. MadeReduced scene (lane_of around n) first e op value b d k) e
        (λ n b d k one. (one.folded, subst (λ (r : ℕ). Assigns b.values d.values r n one.folded) (register_under around e n u.levels) one.sets)) (paths_counted top) first old new next (omega arith) (λ i within. room e i refl within)
        (subst (λ (n : ℕ). ReducedTo scene around first e op value n old new next) u.counted m))
    command_logged (action id place (decides test chosen other)) around old new first next m u ready room =
        let tested : (m.tested.values ≡ old.values) × (length m.tests ≡ paths_counted around) = tests_same scene around first test (paths_counted around) old m.tested m.own m.tests m.test in
        let long : length m.tests ≡ paths_counted top = tested.1 ∙ u.counted in
        let one : LeavesOf (IsAssignedIn (known_in scene) chosen) m.tested.values m.after_chosen.values m.chosen.inside.values.current.items m.chosen_left =
        arm_logged (MadeCommand scene chosen) around true m.tests m.tested m.after_chosen m.own m.behind m.chosen_left m.chosen (IsAssignedIn (known_in scene) chosen)
        (command_logged chosen m.chosen.arm m.chosen.begin m.chosen.inside m.own m.behind m.chosen.command
        (under_arm (MadeCommand scene chosen) around true m.tests m.tested m.after_chosen m.own m.behind m.chosen_left m.chosen u long)
        (values_at AreReady old.values m.chosen.begin.values (m.chosen.begin_values ∙ tested.0) ready)
        (values_at (HaveRoom (IsAssignedIn (known_in scene) chosen)) old.values m.chosen.begin.values (m.chosen.begin_values ∙ tested.0) (λ e i may within. room e i (inl may) within))) in
        let ready_one : AreReady m.after_chosen.values = same_ready m.tested.values m.after_chosen.values one.same (values_at AreReady old.values m.tested.values tested.0 ready) in
        let behind : List (Option ℕ) = behind_other other around m.tests m.after_chosen m.after_other m.behind next m.other_left m.other in
        let two : LeavesOf (IsAssignedInOther (known_in scene) other) m.after_chosen.values m.after_other.values behind m.other_left =
        other_logged other around m.tests m.after_chosen m.after_other m.behind next m.other_left m.other u long ready_one
        (λ e i may within. subst (λ (n : ℕ). register_in scene top e i < n) (sym (ap (λ (os : List (Option ℕ)). length os) one.same.current ∙ ap (λ (v : Values). length v.current.items) tested.0)) (room e i (inr may) within)) in
        let ready_two : AreReady m.after_other.values = same_ready m.after_chosen.values m.after_other.values two.same ready_one in
        let l : LogsOf (λ e. IsAssignedIn (known_in scene) chosen e ⊎ IsAssignedInOther (known_in scene) other e) m.after_other.values new.values =
        joined_logged (IsAssignedIn (known_in scene) chosen) (IsAssignedInOther (known_in scene) other) m.tests long m.chosen_left m.other_left m.tested.values m.after_other.values m.chosen.inside.values.current.items behind ready_two
        (same_again m.tested.values m.after_chosen.values m.after_other.values one.same two.same) one.left
        (based (IsAssignedInOther (known_in scene) other) m.tested.values.current.items m.after_chosen.values.current.items behind m.other_left one.same.current two.left) one.covers two.covers
        m.after_other new refl m.joined in
        begun_same (λ e. IsAssignedIn (known_in scene) chosen e ⊎ IsAssignedInOther (known_in scene) other e) old.values m.after_other.values new.values
        (same_again old.values m.tested.values m.after_other.values (equal_same old.values m.tested.values tested.0) (same_again m.tested.values m.after_chosen.values m.after_other.values one.same two.same)) l
    command_logged (action id place (blocks body)) around old new first next m u ready room = groups_logged body around old new first next m u ready room
    command_logged (action id place (lets_memory name shape shape_places value)) around old new first next m u ready room = logged_none (λ e. ⊥) (λ e h. h) old.values new.values (ap (λ (b : Building). b.values) m.still)
    command_logged (action id place (views name parent form)) around old new first next m u ready room = view_logged (hidden_in (way_of (known_in scene) name)) form around old new first next m u room
    command_logged (action id place (calls function arguments)) around old new first next m u ready room = logged_none (λ e. ⊥) (λ e h. h) old.values new.values (ap (λ (b : Building). b.values) m.still)
    command_logged (action id place (repeats test body)) around old new first next m u ready room = logged_none (λ e. ⊥) (λ e h. h) old.values new.values (ap (λ (b : Building). b.values) m.still)
    command_logged (action id place (counts iterator declared low high factor body combine combine_place)) around old new first next m u ready room = logged_none (λ e. ⊥) (λ e h. h) old.values new.values (ap (λ (b : Building). b.values) m.still)

    pub other_logged : (other : MaybeAction) (around : Around) (tests : List ℕ) (old new : Building) (first next : ℕ) (lefts : List Left) (m : MadeOther scene other around tests old new first next lefts) → IsUnder top around
        → length tests ≡ paths_counted top → AreReady old.values → HaveRoom (IsAssignedInOther (known_in scene) other) old.values → LeavesOf (IsAssignedInOther (known_in scene) other) old.values new.values (behind_other other around tests old new first next lefts m) lefts
    other_logged no_action around tests old new first next lefts m u long ready room = none_leaves (λ e. ⊥) (λ e h. h) old new first next lefts m
    other_logged (one_action a) around tests old new first next lefts m u long ready room =
        arm_logged (MadeCommand scene a) around false tests old new first next lefts m (IsAssignedIn (known_in scene) a)
        (command_logged a m.arm m.begin m.inside first next m.command (under_arm (MadeCommand scene a) around false tests old new first next lefts m u long) (values_at AreReady old.values m.begin.values m.begin_values ready)
        (values_at (HaveRoom (IsAssignedIn (known_in scene) a)) old.values m.begin.values m.begin_values room))

    pub part_logged : (part : Actions) (around : Around) (old new : Building) (first next : ℕ) → MadeActions scene part around old new first next → IsUnder top around → AreReady old.values → HaveRoom (IsAssignedInPart (known_in scene) part) old.values
        → LogsOf (IsAssignedInPart (known_in scene) part) old.values new.values
    part_logged no_actions around old new first next m u ready room = logged_none (λ e. ⊥) (λ e h. h) old.values new.values (ap (λ (b : Building). b.values) m.still)
    part_logged (action_then a rest) around old new first next m u ready room =
        let one : LogsOf (IsAssignedIn (known_in scene) a) old.values m.middle.values = command_logged a around old m.middle first m.own m.one u ready (λ e i may within. room e i (inl may) within) in
        logged_both (IsAssignedIn (known_in scene) a) (IsAssignedInPart (known_in scene) rest) old.values m.middle.values new.values one
        (part_logged rest around m.middle new m.own next m.rest u (ready_later (IsAssignedIn (known_in scene) a) old.values m.middle.values one.logs ready)
        (room_later (IsAssignedInPart (known_in scene) rest) old.values m.middle.values one.logs.long (λ e i may within. room e i (inr may) within)))

    pub groups_logged : (body : Groups) (around : Around) (old new : Building) (first next : ℕ) → MadeGroups scene body around old new first next → IsUnder top around → AreReady old.values → HaveRoom (IsAssignedInGroups (known_in scene) body) old.values
        → LogsOf (IsAssignedInGroups (known_in scene) body) old.values new.values
    groups_logged no_groups around old new first next m u ready room = logged_none (λ e. ⊥) (λ e h. h) old.values new.values (ap (λ (b : Building). b.values) m.still)
    groups_logged (group_then part rest) around old new first next m u ready room =
        let one : LogsOf (IsAssignedInPart (known_in scene) part) old.values m.middle.values = part_logged part around old m.middle first m.own m.one u ready (λ e i may within. room e i (inl may) within) in
        logged_both (IsAssignedInPart (known_in scene) part) (IsAssignedInGroups (known_in scene) rest) old.values m.middle.values new.values one
        (groups_logged rest around m.middle new m.own next m.rest u (ready_later (IsAssignedInPart (known_in scene) part) old.values m.middle.values one.logs ready)
        (room_later (IsAssignedInGroups (known_in scene) rest) old.values m.middle.values one.logs.long (λ e i may within. room e i (inr may) within)))
