-- The levels behind a command: of reads those of its own alone are others, and the greatest level is no more than it was,
-- or than that of one of these reads. By recursion on the command.
use Rattle.std.proofs.Common.{◌≡◌, ◌⊎◌, inl, inr, ℕ, suc, ◌+◌, ◌<◌, ◌≤◌, Some, None, Option, List, [], ◌∷◌, refl, sym, ◌∙◌, subst, arith}
use Rattle.std.specs.Prelude.{Bool as Truth, true, false, ◌==◌, ◌||◌, if◌then◌else◌, max}
use Rattle.dh_value.specs.declared.operators.Op.{Op}
use Rattle.dh_tree.specs.declared.trees.expressions.Ref.{Ref}
use Rattle.dh_tree.specs.Indices.{form_of}
use Rattle.dh_tree.specs.PlainTrees as plain
use Rattle.dh_tree.specs.PlainTrees.{Term, Action, action, ActionForm, lets, lets_memory, views, assigns, stores, reduces, calls, blocks, decides, repeats, counts, MaybeAction, no_action, one_action, Actions, no_actions, action_then, Groups, no_groups, group_then}
use Rattle.dh_tree.specs.ViewOffsets.{offsets_of}
use Rattle.dh_tree.specs.Seen.{terms}
use Rattle.dh_meaning.specs.AccessNumbers.{accesses_of, groups_accesses, other_accesses, part_accesses, plan_accesses, term_accesses, terms_accesses}
use Rattle.dh_meaning.specs.Bindings.{kind_found}
use Rattle.dh_meaning.specs.Core.{CoreCommands, CoreTerm, no_commands, variable}
use Rattle.dh_meaning.specs.CoreOf.{core_action, core_groups, core_other, core_part, core_term, core_terms, depth_of, entity_number, kind_of, operation_of, store_to, Known, kept_by, way_of}
use Rattle.dh_meaning.specs.Levels.{Leveled, Levels, any_assigns, arms_joined, choice_levels, command_leveled, commands_leveled, greatest, term_leveled, with_value, with_variables, kept_leveled}
use Rattle.dh_meaning.specs.Ways.{Hidden, hidden_in}
use Rattle.dh_expressions.specs.declared.scenes.Scene.{Scene}
use Rattle.dh_expressions.specs.Evaluated.{known_in}
use Rattle.dh_formed.specs.Timed.{AreBounded, LevelsThen, leveled}
use Rattle.dh_formed.proofs.LevelsBehind.{levels_behind, operation_leveled, named_levels_behind}
use Rattle.dh_laid.specs.Laid.{aim_accesses}
use Rattle.dh_laid.specs.LaidNumbers.{IsAccessForm, StoresReach, StoresReachGroups, StoresReachOther, StoresReachPart}
use Rattle.dh_paced.specs.Paced.{IsIn, IsReadIn, IsReadGroups, IsReadOther, IsReadPart, action_levels, between_arms, groups_levels, other_levels, part_levels, IsReadOfView}
use Rattle.dh_paced.proofs.CoreAppended.{action_then_levels, part_then_levels}

-- Reads are among the accesses.

pub aims_fewer : (target : Term) → IsAccessForm (form_of target) → aim_accesses (form_of target) + 1 ≡ term_accesses target
aims_fewer (plain.term place k (plain.accessed r ts)) is = omega arith
aims_fewer (plain.term place k (plain.in_bank r bank at row)) is = omega arith
aims_fewer (plain.term place k (plain.number negative z)) is = absurd is
aims_fewer (plain.term place k (plain.truth_value b)) is = absurd is
aims_fewer (plain.term place k (plain.named r)) is = absurd is
aims_fewer (plain.term place k (plain.applied op left right)) is = absurd is
aims_fewer (plain.term place k (plain.converted inner to)) is = absurd is

read_view : (hs : List Hidden) (first : ℕ) (form : plain.ViewPlan) (m : ℕ) → IsReadOfView hs first form m → IsIn first (plan_accesses form + 0) m
read_view [] first form m h = absurd h
read_view (x ∷ xs) first form m h = let l = h.1 in (h.0, omega (arith, l))

mutual
  pub read_in : (known : Known) (first : ℕ) (a : Action) (m : ℕ) → IsReadIn known first a m → StoresReach a → IsIn first (accesses_of a) m
  read_in known first (action id place (lets name declared (Some value))) m h s = let l = h.1 in (h.0, omega (arith, l))
  read_in known first (action id place (lets name declared None)) m h s = absurd h
  read_in known first (action id place (assigns target value)) m h s = let l = h.1 in (h.0, omega (arith, l))
  read_in known first (action id place (stores target value)) m h s = let l = h.1 in let e = aims_fewer target s in (h.0, omega (arith, l, e))
  read_in known first (action id place (reduces target op value)) m h s = let l = h.1 in (h.0, omega (arith, l))
  read_in known first (action id place (decides test chosen other)) m (inl h) s = let l = h.1 in (h.0, omega (arith, l))
  read_in known first (action id place (decides test chosen other)) m (inr (inl h)) s =
      let r : IsIn (first + term_accesses test) (accesses_of chosen) m = read_in known (first + term_accesses test) chosen m h s.0 in
      let f = r.0 in let l = r.1 in (omega (arith, f), omega (arith, l))
  read_in known first (action id place (decides test chosen other)) m (inr (inr h)) s =
      let r : IsIn (first + term_accesses test + accesses_of chosen) (other_accesses other) m = read_in_other known (first + term_accesses test + accesses_of chosen) other m h s.1 in
      let f = r.0 in let l = r.1 in (omega (arith, f), omega (arith, l))
  read_in known first (action id place (blocks body)) m h s = let r : IsIn first (groups_accesses body) m = read_in_groups known first body m h s in let l = r.1 in (r.0, omega (arith, l))
  read_in known first (action id place (lets_memory name shape shape_places value)) m h s = absurd h
  read_in known first (action id place (views name parent form)) m h s = read_view (hidden_in (way_of known name)) first form m h
  read_in known first (action id place (calls function arguments)) m h s = absurd h
  read_in known first (action id place (repeats test body)) m h s = absurd h
  read_in known first (action id place (counts iterator declared low high factor body combine combine_place)) m h s = absurd h

  pub read_in_other : (known : Known) (first : ℕ) (other : MaybeAction) (m : ℕ) → IsReadOther known first other m → StoresReachOther other → IsIn first (other_accesses other) m
  read_in_other known first no_action m h s = absurd h
  read_in_other known first (one_action a) m h s = read_in known first a m h s

  pub read_in_part : (known : Known) (first : ℕ) (part : Actions) (m : ℕ) → IsReadPart known first part m → StoresReachPart part → IsIn first (part_accesses part) m
  read_in_part known first no_actions m h s = absurd h
  read_in_part known first (action_then a rest) m (inl h) s = let r : IsIn first (accesses_of a) m = read_in known first a m h s.0 in let l = r.1 in (r.0, omega (arith, l))
  read_in_part known first (action_then a rest) m (inr h) s =
      let r : IsIn (first + accesses_of a) (part_accesses rest) m = read_in_part known (first + accesses_of a) rest m h s.1 in let f = r.0 in let l = r.1 in (omega (arith, f), omega (arith, l))

  pub read_in_groups : (known : Known) (first : ℕ) (body : Groups) (m : ℕ) → IsReadGroups known first body m → StoresReachGroups body → IsIn first (groups_accesses body) m
  read_in_groups known first no_groups m h s = absurd h
  read_in_groups known first (group_then part rest) m (inl h) s = let r : IsIn first (part_accesses part) m = read_in_part known first part m h s.0 in let l = r.1 in (r.0, omega (arith, l))
  read_in_groups known first (group_then part rest) m (inr h) s =
      let r : IsIn (first + part_accesses part) (groups_accesses rest) m = read_in_groups known (first + part_accesses part) rest m h s.1 in let f = r.0 in let l = r.1 in (omega (arith, f), omega (arith, l))

-- Levels.

pub record LevelsGo (Read : ℕ → Type 0) (first count : ℕ) (l made : Levels) : Type 0 where
  pub before_them : (m : ℕ) → m < first → made.reads m ≡ l.reads m
  pub behind_them : (m : ℕ) → first + count ≤ m → made.reads m ≡ l.reads m
  pub more : l.most ≤ made.most
  pub bounded : AreBounded l → AreBounded made
  pub least : (k : ℕ) → l.most ≤ k → ((m : ℕ) → Read m → made.reads m ≤ k) → made.most ≤ k

value_within : (f : ℕ → ℕ) (key value n k : ℕ) → f n ≤ k → value ≤ k → with_value f key value n ≤ k
value_within f key value n k few small = by (n == key)
  where
    by : (t : Truth) → (if t then value else f n) ≤ k
    by true = small
    by false = few

levels_as : (P : ℕ → Type 0) (first c d : ℕ) (l made : Levels) → c ≡ d → LevelsGo P first c l made → LevelsGo P first d l made
levels_as P first c d l made same h = subst (λ (n : ℕ). LevelsGo P first n l made) same h

levels_made : (P : ℕ → Type 0) (first c : ℕ) (l made other : Levels) → made ≡ other → LevelsGo P first c l made → LevelsGo P first c l other
levels_made P first c l made other same h = subst (λ (k : Levels). LevelsGo P first c l k) same h

levels_none : (P : ℕ → Type 0) (first count : ℕ) (l : Levels) → LevelsGo P first count l l
levels_none P first count l = record { before_them = λ m less. refl; behind_them = λ m more. refl; more = self l.most; bounded = λ b. b; least = λ k small reads. small }
  where
    self : (n : ℕ) → n ≤ n
    self n = omega arith

-- of more reads
levels_among : (P Q : ℕ → Type 0) (first count : ℕ) (l made : Levels) → ((m : ℕ) → P m → Q m) → LevelsGo P first count l made → LevelsGo Q first count l made
levels_among P Q first count l made more h =
    record { before_them = h.before_them; behind_them = h.behind_them; more = h.more; bounded = h.bounded; least = λ k small reads. h.least k small (λ m p. reads m (more m p)) }

-- an expression, whose value a variable takes, or none
levels_taken : (first count : ℕ) (l : Levels) (made : Leveled) → LevelsThen first count l made → LevelsGo (IsIn first count) first count l made.levels
levels_taken first count l made h = record {
  before_them = h.before_them;
  behind_them = h.behind_them;
  more = h.more;
  bounded = h.bounded;
  least = λ k small reads. h.least k small (λ m from below. reads m (from, below));
}

levels_assigned : (P : ℕ → Type 0) (first count e level : ℕ) (l made : Levels) → (AreBounded l → level ≤ made.most) → LevelsGo P first count l made → LevelsGo P first count l (with_variables made (with_value made.variables e level))
levels_assigned P first count e level l made few h = record {
  before_them = h.before_them;
  behind_them = h.behind_them;
  more = h.more;
  bounded = λ b. let c = h.bounded b in record { variables = λ n. value_within made.variables e level n made.most (c.variables n) (few b); reads = c.reads };
  least = h.least;
}

-- one behind the other
levels_both : (P Q : ℕ → Type 0) (first a b : ℕ) (l m n : Levels) → ((k : ℕ) → P k → IsIn first a k) → LevelsGo P first a l m → LevelsGo Q (first + a) b m n → LevelsGo (λ k. P k ⊎ Q k) first (a + b) l n
levels_both P Q first a b l m n among h k = record {
  before_them = λ i less. k.before_them i (omega (arith, less)) ∙ h.before_them i less;
  behind_them = λ i more. k.behind_them i (omega (arith, more)) ∙ h.behind_them i (omega (arith, more));
  more = let s = h.more in let t = k.more in omega (arith, s, t);
  bounded = λ e. k.bounded (h.bounded e);
  least = λ q small reads. k.least q (h.least q small (λ i p. subst (λ (j : ℕ). j ≤ q) (k.before_them i (among i p).1) (reads i (inl p)))) (λ i p. reads i (inr p));
}

-- the arms of an `if`, of which the second begins with the variables of before
levels_between : (P : ℕ → Type 0) (first count : ℕ) (t c : Levels) → LevelsGo P first count t c → LevelsGo P first count t (with_variables c t.variables)
levels_between P first count t c h = record {
  before_them = h.before_them;
  behind_them = h.behind_them;
  more = h.more;
  bounded = λ b. record { variables = λ e. let v = b.variables e in let m = h.more in omega (arith, v, m); reads = (h.bounded b).reads };
  least = h.least;
}

levels_joined : (P : ℕ → Type 0) (first count level : ℕ) (chosen other : CoreCommands) (l : Levels) (test before_other behind_chosen behind_other : Levels) → LevelsGo P first count l behind_other
    → (AreBounded l → level ≤ behind_other.most) → (AreBounded l → (e : ℕ) → test.variables e ≤ behind_other.most) → (AreBounded l → (e : ℕ) → behind_chosen.variables e ≤ behind_other.most)
    → LevelsGo P first count l (with_variables behind_other (arms_joined level chosen other test.variables behind_chosen.variables behind_other.variables))
levels_joined P first count level chosen other l test before_other behind_chosen behind_other h few before_few chosen_few = record {
  before_them = h.before_them;
  behind_them = h.behind_them;
  more = h.more;
  bounded = λ b. record { variables = λ e. by (any_assigns e chosen || any_assigns e other) e (few b) (before_few b e) (chosen_few b e) ((h.bounded b).variables e); reads = (h.bounded b).reads };
  least = h.least;
}
  where
    by : (t : Truth) (e : ℕ) → level ≤ behind_other.most → test.variables e ≤ behind_other.most → behind_chosen.variables e ≤ behind_other.most → behind_other.variables e ≤ behind_other.most
        → (if t then max level (max (behind_chosen.variables e) (behind_other.variables e)) else test.variables e) ≤ behind_other.most
    by true e f g i j = omega (arith, f, g, i, j)
    by false e f g i j = g

-- what a reducer puts together
abbrev pub reduced_core : Scene → (first : ℕ) → Ref → Op → (value : Term) → CoreTerm
reduced_core scene first r op value =
    operation_of op (kind_of (known_in scene) r) (kind_found value) (variable (kind_of (known_in scene) r) (depth_of (known_in scene) r) (entity_number r.entity)) (core_term (known_in scene) first value)

module _ (scene : Scene) (shared : ℕ → Option ℕ) where
  -- the levels behind offsets that variables keep
  abbrev pub keeping_levels : List Hidden → (outer first : ℕ) → (offsets : List Term) → Levels → Levels
  keeping_levels [] outer first offsets l = l
  keeping_levels (h ∷ hs) outer first offsets l = kept_leveled shared outer h.entity (core_terms (known_in scene) first (terms offsets)) l

  pub view_leveled : (hs : List Hidden) (outer first : ℕ) (offsets : List Term) (l : Levels) → commands_leveled shared outer (kept_by hs (core_terms (known_in scene) first (terms offsets)) no_commands) l ≡ keeping_levels hs outer first offsets l
  view_leveled [] outer first [] l = refl
  view_leveled [] outer first (t ∷ ts) l = refl
  view_leveled (h ∷ hs) outer first [] l = refl
  view_leveled (h ∷ hs) outer first (t ∷ ts) l = refl

  pub reduced_leveled : (outer first : ℕ) (r : Ref) (op : Op) (value : Term) (l : Levels)
      → greatest (l.variables (entity_number r.entity)) (leveled scene shared outer first value l) ≡ term_leveled shared outer (reduced_core scene first r op value) l
  reduced_leveled outer first r op value l =
      operation_leveled shared outer op (kind_of (known_in scene) r) (kind_found value) (variable (kind_of (known_in scene) r) (depth_of (known_in scene) r) (entity_number r.entity)) (core_term (known_in scene) first value) l

  -- the levels behind an assignment of a value of these
  abbrev pub assigned_levels : (e : ℕ) → Leveled → Levels
  assigned_levels e t = with_variables t.levels (with_value t.levels.variables e t.level)

  abbrev Go : (P : ℕ → Type 0) → (first count : ℕ) → Levels → Levels → Type 0
  Go P first count l made = LevelsGo P first count l made

  assigned_go : (outer first e : ℕ) (value : Term) (l : Levels) → Go (IsIn first (term_accesses value)) first (term_accesses value + 0) l (assigned_levels e (leveled scene shared outer first value l))
  assigned_go outer first e value l =
      let t = levels_behind scene shared outer value first l in
      levels_as _ first (term_accesses value) (term_accesses value + 0) l _ (omega arith)
      (levels_assigned _ first (term_accesses value) e _ l _ t.level_few (levels_taken first (term_accesses value) l (leveled scene shared outer first value l) t))

  reduced_go : (outer first : ℕ) (r : Ref) (op : Op) (value : Term) (l : Levels)
      → Go (IsIn first (term_accesses value)) first (term_accesses value + 0) l (assigned_levels (entity_number r.entity) (term_leveled shared outer (reduced_core scene first r op value) l))
  reduced_go outer first r op value l =
      let t = levels_behind scene shared outer value first l in
      subst (λ (w : Leveled). Go (IsIn first (term_accesses value)) first (term_accesses value + 0) l (assigned_levels (entity_number r.entity) w)) (reduced_leveled outer first r op value l)
      (levels_as _ first (term_accesses value) (term_accesses value + 0) l _ (omega arith)
      (levels_assigned _ first (term_accesses value) (entity_number r.entity) _ l _
      (λ b. both (l.variables (entity_number r.entity)) _ l.most _ (b.variables (entity_number r.entity)) t.more (t.level_few b))
      (levels_taken first (term_accesses value) l (leveled scene shared outer first value l) t)))
    where
      both : (x y m p : ℕ) → x ≤ m → m ≤ p → y ≤ p → max x y ≤ p
      both x y m p s t u = omega (arith, s, t, u)

  -- a store: its value, and then what names its element
  stored_two : (first a b w : ℕ) (l m n : Levels) → LevelsGo (IsIn first a) first a l m → LevelsGo (IsIn (first + a) b) (first + a) b m n → w ≡ b + 1 → Go (IsIn first (a + b)) first ((a + w) + 0) l n
  stored_two first a b w l m n h k is = record {
    before_them = λ i less. k.before_them i (omega (arith, less)) ∙ h.before_them i less;
    behind_them = λ i more. k.behind_them i (omega (arith, more, is)) ∙ h.behind_them i (omega (arith, more));
    more = let s = h.more in let t = k.more in omega (arith, s, t);
    bounded = λ e. k.bounded (h.bounded e);
    least = λ q small reads.
        k.least q (h.least q small (λ i p. let f = p.0 in let u = p.1 in subst (λ (j : ℕ). j ≤ q) (k.before_them i p.1) (reads i (p.0, omega (arith, u)))))
        (λ i p. let f = p.0 in let u = p.1 in reads i (omega (arith, f), omega (arith, u)));
  }

  stored_go : (outer first : ℕ) (target value : Term) (l : Levels) → IsAccessForm (form_of target)
      → Go (IsIn first (term_accesses value + aim_accesses (form_of target))) first ((term_accesses value + term_accesses target) + 0) l
      (command_leveled shared outer (store_to (known_in scene) (first + term_accesses value) target (core_term (known_in scene) first value)) l)
  stored_go outer first (plain.term place k (plain.accessed r ts)) value l is =
      stored_two first (term_accesses value) (terms_accesses ts) (suc (terms_accesses ts)) l _ _ (levels_taken first (term_accesses value) l (leveled scene shared outer first value l) (levels_behind scene shared outer value first l))
      (levels_taken (first + term_accesses value) (terms_accesses ts) _ _ (named_levels_behind scene shared outer r ts (first + term_accesses value) (leveled scene shared outer first value l).levels)) (omega arith)
  stored_go outer first (plain.term place k (plain.in_bank r bank at row)) value l is =
      stored_two first (term_accesses value) (term_accesses row) (suc (term_accesses row)) l _ _ (levels_taken first (term_accesses value) l (leveled scene shared outer first value l) (levels_behind scene shared outer value first l))
      (levels_taken (first + term_accesses value) (term_accesses row) _ _ (levels_behind scene shared outer row (first + term_accesses value) (leveled scene shared outer first value l).levels)) (omega arith)
  stored_go outer first (plain.term place k (plain.number negative z)) value l is = absurd is
  stored_go outer first (plain.term place k (plain.truth_value b)) value l is = absurd is
  stored_go outer first (plain.term place k (plain.named r)) value l is = absurd is
  stored_go outer first (plain.term place k (plain.applied op left right)) value l is = absurd is
  stored_go outer first (plain.term place k (plain.converted inner to)) value l is = absurd is

  -- offsets that variables keep, each of which has its own level
  both_in : (n a b m : ℕ) → IsIn n a m ⊎ IsIn (n + a) b m → IsIn n (a + b) m
  both_in n a b m (inl h) = let l = h.1 in (h.0, omega (arith, l))
  both_in n a b m (inr h) = let f = h.0 in let l = h.1 in (omega (arith, f), omega (arith, l))

  pub kept_go : (ts : plain.Terms) (outer e n : ℕ) (l : Levels) → Go (IsIn n (terms_accesses ts)) n (terms_accesses ts) l (kept_leveled shared outer e (core_terms (known_in scene) n ts) l)
  kept_go plain.no_terms outer e n l = levels_none _ n 0 l
  kept_go (plain.term_then t ts) outer e n l =
      let t1 : Leveled = leveled scene shared outer n t l in
      let k : Levels = kept_leveled shared outer (suc e) (core_terms (known_in scene) (n + term_accesses t) ts) t1.levels in
      let behind = levels_behind scene shared outer t n l in
      let rest : Go (IsIn (n + term_accesses t) (terms_accesses ts)) (n + term_accesses t) (terms_accesses ts) t1.levels k = kept_go ts outer (suc e) (n + term_accesses t) t1.levels in
      levels_among (λ m. IsIn n (term_accesses t) m ⊎ IsIn (n + term_accesses t) (terms_accesses ts) m) (IsIn n (term_accesses t + terms_accesses ts)) n (term_accesses t + terms_accesses ts) l (with_variables k (with_value k.variables e t1.level))
      (λ m h. both_in n (term_accesses t) (terms_accesses ts) m h)
      (levels_assigned (λ m. IsIn n (term_accesses t) m ⊎ IsIn (n + term_accesses t) (terms_accesses ts) m) n (term_accesses t + terms_accesses ts) e t1.level l k (λ b. let f = behind.level_few b in let m = rest.more in omega (arith, f, m))
      (levels_both (IsIn n (term_accesses t)) (IsIn (n + term_accesses t) (terms_accesses ts)) n (term_accesses t) (terms_accesses ts) l t1.levels k (λ m p. p) (levels_taken n (term_accesses t) l t1 behind) rest))

  view_go : (hs : List Hidden) (outer first : ℕ) (form : plain.ViewPlan) (l : Levels) → Go (IsReadOfView hs first form) first (plan_accesses form + 0) l (keeping_levels hs outer first (offsets_of form) l)
  view_go [] outer first form l = levels_none _ first (plan_accesses form + 0) l
  view_go (h ∷ hs) outer first form l = levels_as _ first (plan_accesses form) (plan_accesses form + 0) l _ (omega arith) (kept_go (terms (offsets_of form)) outer h.entity first l)

  -- an `if`, from its arms
  chosen_go : (outer first : ℕ) (test : Term) (chosen : Action) (other : MaybeAction) (l : Levels) → StoresReach chosen → StoresReachOther other
      → ((k : Levels) → Go (IsReadIn (known_in scene) (first + term_accesses test) chosen) (first + term_accesses test) (accesses_of chosen) k (action_levels (known_in scene) shared (max outer (leveled scene shared outer first test l).level) (first + term_accesses test) chosen k))
      → ((k : Levels) → Go (IsReadOther (known_in scene) (first + term_accesses test + accesses_of chosen) other) (first + term_accesses test + accesses_of chosen) (other_accesses other) k
      (other_levels (known_in scene) shared (max outer (leveled scene shared outer first test l).level) (first + term_accesses test + accesses_of chosen) other k))
      → Go (IsReadIn (known_in scene) first (action 0 (record { line = 0; column = 0 }) (decides test chosen other))) first (term_accesses test + (accesses_of chosen + other_accesses other)) l
      (choice_levels (leveled scene shared outer first test l) (core_action (known_in scene) (first + term_accesses test) chosen no_commands) (core_other (known_in scene) (first + term_accesses test + accesses_of chosen) other)
      (action_levels (known_in scene) shared (max outer (leveled scene shared outer first test l).level) (first + term_accesses test) chosen (leveled scene shared outer first test l).levels)
      (other_levels (known_in scene) shared (max outer (leveled scene shared outer first test l).level) (first + term_accesses test + accesses_of chosen) other (between_arms (known_in scene) shared outer first test chosen l)))
  chosen_go outer first test chosen other l straight straight_other go_chosen go_other =
      levels_joined _ first (term_accesses test + (accesses_of chosen + other_accesses other)) t.level (core_action (known_in scene) (first + term_accesses test) chosen no_commands) (core_other (known_in scene) (first + term_accesses test + accesses_of chosen) other) l t.levels between c o all
      (λ b. up t.level t.levels.most c.most o.most (tg.level_few b) cg.more og.more) (λ b e. let v = tg.bounded b in up (t.levels.variables e) t.levels.most c.most o.most (v.variables e) cg.more og.more)
      (λ b e. let v = cg.bounded (tg.bounded b) in let f = v.variables e in let g = og.more in omega (arith, f, g))
    where
      t : Leveled
      t = leveled scene shared outer first test l

      c : Levels
      c = action_levels (known_in scene) shared (max outer t.level) (first + term_accesses test) chosen t.levels

      between : Levels
      between = with_variables c t.levels.variables

      o : Levels
      o = other_levels (known_in scene) shared (max outer t.level) (first + term_accesses test + accesses_of chosen) other between

      tg : LevelsThen first (term_accesses test) l t
      tg = levels_behind scene shared outer test first l

      cg : Go (IsReadIn (known_in scene) (first + term_accesses test) chosen) (first + term_accesses test) (accesses_of chosen) t.levels c
      cg = go_chosen t.levels

      og : Go (IsReadOther (known_in scene) (first + term_accesses test + accesses_of chosen) other) (first + term_accesses test + accesses_of chosen) (other_accesses other) between o
      og = go_other between

      up : (x a b d : ℕ) → x ≤ a → a ≤ b → b ≤ d → x ≤ d
      up x a b d e f g = omega (arith, e, f, g)

      arms : Go (λ k. IsReadIn (known_in scene) (first + term_accesses test) chosen k ⊎ IsReadOther (known_in scene) (first + term_accesses test + accesses_of chosen) other k) (first + term_accesses test) (accesses_of chosen + other_accesses other) t.levels o
      arms =
          levels_both (IsReadIn (known_in scene) (first + term_accesses test) chosen) (IsReadOther (known_in scene) (first + term_accesses test + accesses_of chosen) other) (first + term_accesses test) (accesses_of chosen) (other_accesses other) t.levels between o
          (λ k p. read_in (known_in scene) (first + term_accesses test) chosen k p straight) (levels_between _ (first + term_accesses test) (accesses_of chosen) t.levels c cg) og

      all : Go (λ k. IsIn first (term_accesses test) k ⊎ (IsReadIn (known_in scene) (first + term_accesses test) chosen k ⊎ IsReadOther (known_in scene) (first + term_accesses test + accesses_of chosen) other k)) first (term_accesses test + (accesses_of chosen + other_accesses other)) l o
      all = levels_both (IsIn first (term_accesses test)) _ first (term_accesses test) (accesses_of chosen + other_accesses other) l t.levels o (λ k p. p) (levels_taken first (term_accesses test) l t tg) arms

  mutual
    pub action_go : (outer first : ℕ) (a : Action) (l : Levels) → StoresReach a → Go (IsReadIn (known_in scene) first a) first (accesses_of a) l (action_levels (known_in scene) shared outer first a l)
    action_go outer first (action id place (lets name declared (Some value))) l s = assigned_go outer first (entity_number name.entity) value l
    action_go outer first (action id place (lets name declared None)) l s = levels_assigned _ first 0 (entity_number name.entity) 0 l l (λ b. omega arith) (levels_none _ first 0 l)
    action_go outer first (action id place (assigns target value)) l s = assigned_go outer first (entity_number target.entity) value l
    action_go outer first (action id place (stores target value)) l s = stored_go outer first target value l s
    action_go outer first (action id place (reduces target op value)) l s = reduced_go outer first target op value l
    action_go outer first (action id place (decides test chosen other)) l s =
        chosen_go outer first test chosen other l s.0 s.1 (λ k. action_go (max outer (leveled scene shared outer first test l).level) (first + term_accesses test) chosen k s.0)
        (λ k. other_go (max outer (leveled scene shared outer first test l).level) (first + term_accesses test + accesses_of chosen) other k s.1)
    action_go outer first (action id place (blocks body)) l s = levels_as _ first (groups_accesses body) (0 + groups_accesses body) l _ (omega arith) (groups_go outer first body l s)
    action_go outer first (action id place (lets_memory name shape shape_places value)) l s = levels_none _ first 0 l
    action_go outer first (action id place (views name parent form)) l s =
        levels_made _ first (plan_accesses form + 0) l (keeping_levels (hidden_in (way_of (known_in scene) name)) outer first (offsets_of form) l) _ (sym (view_leveled (hidden_in (way_of (known_in scene) name)) outer first (offsets_of form) l))
        (view_go (hidden_in (way_of (known_in scene) name)) outer first form l)
    action_go outer first (action id place (calls function arguments)) l s = levels_none _ first 0 l
    action_go outer first (action id place (repeats test body)) l s = levels_none _ first (term_accesses test + accesses_of body) l
    action_go outer first (action id place (counts iterator declared low high factor body combine combine_place)) l s = levels_none _ first (0 + (accesses_of body + other_accesses combine)) l

    pub other_go : (outer first : ℕ) (other : MaybeAction) (l : Levels) → StoresReachOther other → Go (IsReadOther (known_in scene) first other) first (other_accesses other) l (other_levels (known_in scene) shared outer first other l)
    other_go outer first no_action l s = levels_none _ first 0 l
    other_go outer first (one_action a) l s = action_go outer first a l s

    pub part_go : (outer first : ℕ) (part : Actions) (l : Levels) → StoresReachPart part → Go (IsReadPart (known_in scene) first part) first (part_accesses part) l (part_levels (known_in scene) shared outer first part l)
    part_go outer first no_actions l s = levels_none _ first 0 l
    part_go outer first (action_then a rest) l s =
        levels_made _ first (accesses_of a + part_accesses rest) l _ _ (sym (action_then_levels (known_in scene) first a (core_part (known_in scene) (first + accesses_of a) rest no_commands) shared outer l))
        (levels_both (IsReadIn (known_in scene) first a) (IsReadPart (known_in scene) (first + accesses_of a) rest) first (accesses_of a) (part_accesses rest) l (action_levels (known_in scene) shared outer first a l) _ (λ k p. read_in (known_in scene) first a k p s.0)
        (action_go outer first a l s.0) (part_go outer (first + accesses_of a) rest (action_levels (known_in scene) shared outer first a l) s.1))

    pub groups_go : (outer first : ℕ) (body : Groups) (l : Levels) → StoresReachGroups body → Go (IsReadGroups (known_in scene) first body) first (groups_accesses body) l (groups_levels (known_in scene) shared outer first body l)
    groups_go outer first no_groups l s = levels_none _ first 0 l
    groups_go outer first (group_then part rest) l s =
        levels_made _ first (part_accesses part + groups_accesses rest) l _ _ (sym (part_then_levels (known_in scene) first part (core_groups (known_in scene) (first + part_accesses part) rest no_commands) shared outer l))
        (levels_both (IsReadPart (known_in scene) first part) (IsReadGroups (known_in scene) (first + part_accesses part) rest) first (part_accesses part) (groups_accesses rest) l (part_levels (known_in scene) shared outer first part l) _ (λ k p. read_in_part (known_in scene) first part k p s.0)
        (part_go outer first part l s.0) (groups_go outer (first + part_accesses part) rest (part_levels (known_in scene) shared outer first part l) s.1))
