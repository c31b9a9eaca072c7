-- An iterator in an index finds its value in a turn. The indices of an access name the iterators of no unrolled loops but
-- those round it, each at its level. These loops are those round its block, one by one; so at this level among the
-- unrolled ones the block has a loop with the same iterator, whose depth is one more than the level, and which is in a
-- turn. The block does not touch the iterator, so that it still has the value with which the block began: that of
-- the turn, and of the copy that the path has at the level.
use Rattle.std.proofs.Common.{◌≡◌, ℕ, zero, suc, ◌+◌, ◌-◌, ◌*◌, ◌<◌, ◌≤◌, nat_lt, Bool, true, false, if◌then◌else◌, List, [], ◌∷◌, ◌++◌, length, Option, Some, refl, sym, ◌∙◌, ap, subst, arith, length-append}
use Rattle.std.proofs.lemmas.Bool.Decides.{nat_tests}
use Rattle.std.specs.Prelude.{slice_get, slice_index_or, take, pos}
use Rattle.dh_tree.specs.declared.trees.counters.Counter.{Counter}
use Rattle.dh_tree.specs.declared.trees.expressions.Ref.{Ref}
use Rattle.dh_tree.specs.Counters.{counters_of, counter_in}
use Rattle.dh_tree.specs.Indices.{form_of}
use Rattle.dh_tree.specs.Memories.{same_entity}
use Rattle.dh_tree.specs.PlainTrees.{TermForm, number, truth_value, named, accessed, in_bank, applied, converted, Terms, no_terms, term_then, Program}
use Rattle.dh_tree.specs.Ready.{IsReady}
use Rattle.dh_tree.proofs.SameEntities.{equal_entities}
use Rattle.dh_meaning.specs.Bindings.{binding_in, depth_bound}
use Rattle.dh_meaning.specs.Core.{CoreCommands, Turning}
use Rattle.dh_meaning.specs.CoreOf.{Known, known_of, entity_number, core_commands, core_of}
use Rattle.dh_meaning.specs.Effects.{Variables, Block}
use Rattle.dh_meaning.specs.Levels.{any_assigns}
use Rattle.dh_meaning.specs.Paths.{Path, IsPathAmong}
use Rattle.dh_meaning.specs.Runs.{last_copy}
use Rattle.dh_meets.specs.Charges.{level_of_loop}
use Rattle.dh_meets.specs.SourceEvents.{Element, with_indices, in_row, SourceAccess}
use Rattle.dh_sound.specs.Blocks.{factors, paths_inside, StandsIn, AreInTurn}
use Rattle.dh_sound.specs.IndexValues.{copy_at, IsInTurn, name_value, IsUnrolledLoop, NameInTurn, OperandInTurn, FormInTurn, AllInTurn, ElementInTurn}
use Rattle.dh_sound.specs.IteratorsAt.{HaveDepths, TurnsAt}
use Rattle.dh_sound.specs.LoopsMatch.{unrolled_loops, LoopMatches, EachMatches, LoopsMatch, AreSpared, LoopInTurn}
use Rattle.dh_sound.specs.LoopsRound.{EntityRound, OperandRound, FormRound, AllRound, ElementRound}
use Rattle.dh_sound.specs.SameKeys.{IsNearTo}
use Rattle.dh_sound.specs.Standing.{Spares}
use Rattle.dh_sound.proofs.IteratorsAt.{turns_at, factors_both}
use Rattle.dh_sound.proofs.LoopsMatch.{StraightMatches, TestMatches}
use Rattle.dh_sound.proofs.ReadyKeeps.{ready_deep}

-- Counters by number.

-- a loop that is found by an entity has it as its iterator
pub counter_entity : (cs : List Counter) (entity : Option ℕ) (c : Counter) → counter_in cs entity ≡ Some c → c.entity ≡ entity
counter_entity [] entity c e = absurd cc
counter_entity (x ∷ cs) entity c e = by (same_entity x.entity entity) refl e (counter_entity cs entity c)
  where
    by : (b : Bool) → same_entity x.entity entity ≡ b → (if b then Some x else counter_in cs entity) ≡ Some c → (counter_in cs entity ≡ Some c → c.entity ≡ entity) → c.entity ≡ entity
    by true f g r = let same : x ≡ c = cc in subst (λ (y : Counter). y.entity ≡ entity) same (equal_entities x.entity entity f)
    by false f g r = r g

-- Levels.

moved : (n k : ℕ) → suc n + k ≡ n + suc k
moved n k = omega arith

none_more : (n : ℕ) → 0 + n ≡ n
none_more n = omega arith

module _ (known : Known) (v0 : Variables) (touched : ℕ → Bool) (path : Path) (paths : List Path) (here : IsPathAmong path paths) where
  -- the loop at a level among those round a block, of which so many unrolled ones stand in front
  loop_at : (round loops : List Turning) (cs : List Counter) (n k : ℕ) (c : Counter) → n ≡ length (factors round) → TurnsAt loops v0 paths → HaveDepths round loops → AreSpared touched loops
      → EachMatches known (unrolled_loops loops) cs → slice_get cs k ≡ Some c → LoopInTurn known v0 touched path (n + k) c
  loop_at round [] [] n k c e t d s m f = absurd cc
  loop_at round [] (x ∷ cs) n k c e t d s m f = elim m [ ]
  loop_at round (loop ∷ loops) cs n k c e t d s m f =
      by (nat_lt 1 loop.factor) cs k (ap length (factors_both round (loop ∷ [])) ∙ (length-append (factors round) (factors (loop ∷ [])) ∙ ap (λ x. x + length (factors (loop ∷ []))) (sym e))) m f
      (λ ds j i x g. loop_at (round ++ loop ∷ []) loops ds i j c x t.1 d.1 s.1 g)
    where
      by : (b : Bool) (cs : List Counter) (k : ℕ) → length (factors (round ++ loop ∷ [])) ≡ n + length (if b then loop.factor ∷ [] else [])
          → EachMatches known (if b then loop ∷ unrolled_loops loops else unrolled_loops loops) cs → slice_get cs k ≡ Some c
          → ((ds : List Counter) (j i : ℕ) → i ≡ length (factors (round ++ loop ∷ [])) → EachMatches known (unrolled_loops loops) ds → slice_get ds j ≡ Some c → LoopInTurn known v0 touched path (i + j) c)
          → LoopInTurn known v0 touched path (n + k) c
      by true [] k l m f rest = elim m [ ]
      by true (x ∷ cs) zero l m f rest =
          let same : x ≡ c = cc in
          let depth : loop.depth ≡ length (factors (round ++ loop ∷ [])) = d.0 in
          record {
            loop = loop;
            matches = subst (λ (y : Counter). LoopMatches known loop y) same m.0;
            deep = omega (arith, depth, l);
            left = s.0;
            turn = t.0.turn;
            below = t.0.below;
            seen = t.0.each path here;
          }
      by true (x ∷ cs) (suc k) l m f rest = subst (λ (j : ℕ). LoopInTurn known v0 touched path j c) (moved n k) (rest cs k (suc n) (omega (arith, l)) m.1 f)
      by false cs k l m f rest = rest cs k n (omega (arith, l)) m f

-- Names.

module _ (known : Known) (cs round : List Counter) (v0 v : Variables) (touched : ℕ → Bool) (path : Path) (near : IsNearTo v0 touched v)
    (found : (level : ℕ) (c : Counter) → slice_get round level ≡ Some c → LoopInTurn known v0 touched path level c) where
  -- a name of the iterator of a loop that is found
  turned : (r : Ref) (c : Counter) → r.entity ≡ c.entity → IsUnrolledLoop c → LoopInTurn known v0 touched path (level_of_loop round c.entity) c
      → IsInTurn round path c (name_value known v path r)
  turned r c same u l = record {
    turn = l.turn;
    below = subst (λ (n : ℕ). l.turn < n) l.matches.count l.below;
    copy = subst (λ (x : ℕ). x < c.factor) last_is (subst (λ (n : ℕ). last_copy l.loop path < n) l.matches.factor (l.seen.copy (subst (λ (n : ℕ). 1 ≤ n) (sym l.matches.factor) some)));
    is = ap (λ (o : Option ℕ). v (entity_number o) (take (depth_bound (binding_in known.bindings (entity_number o))) path)) (same ∙ l.matches.iterator)
        ∙ (ap (λ (d : ℕ). v l.loop.iterator (take d path)) (sym l.matches.depth)
        ∙ (near l.loop.iterator (take l.loop.depth path) l.left
        ∙ (l.seen.value
        ∙ (ap (λ (n : ℕ). pos (n + l.turn * l.loop.factor + last_copy l.loop path)) l.matches.low
        ∙ (ap (λ (n : ℕ). pos (c.low + l.turn * n + last_copy l.loop path)) l.matches.factor
        ∙ ap (λ (n : ℕ). pos (c.low + l.turn * c.factor + n)) last_is)))));
  }
    where
      level : l.loop.depth - 1 ≡ level_of_loop round c.entity
      level = let e = l.deep in omega (arith, e)

      last_is : last_copy l.loop path ≡ copy_at round path c
      last_is =
          ap (λ (n : ℕ). if nat_lt 1 n then slice_index_or path (l.loop.depth - 1) 0 else 0) l.matches.factor
          ∙ ap (λ (d : ℕ). if nat_lt 1 c.factor then slice_index_or path d 0 else 0) level

      some_copy : (n : ℕ) → nat_lt 1 n ≡ true → 1 ≤ n
      some_copy n e = grind (arith, nat_tests)

      some : 1 ≤ c.factor
      some = some_copy c.factor u

  name_in_turn : (r : Ref) → EntityRound cs round r.entity → NameInTurn IsUnrolledLoop known cs round path v r
  name_in_turn r h c f u = turned r c (sym (counter_entity cs r.entity c f)) u (found (level_of_loop round c.entity) c (h c f u))

  operand_in_turn : (f : TermForm) → OperandRound cs round f → OperandInTurn IsUnrolledLoop known cs round path v f
  operand_in_turn (number negative n) h = tt
  operand_in_turn (truth_value value) h = tt
  operand_in_turn (named r) h = name_in_turn r h
  operand_in_turn (accessed r indices) h = tt
  operand_in_turn (in_bank r bank bank_place row) h = tt
  operand_in_turn (applied o left right) h = tt
  operand_in_turn (converted inner to) h = tt

  form_in_turn : (f : TermForm) → FormRound cs round f → FormInTurn IsUnrolledLoop known cs round path v f
  form_in_turn (number negative n) h = tt
  form_in_turn (truth_value value) h = tt
  form_in_turn (named r) h = name_in_turn r h
  form_in_turn (accessed r indices) h = tt
  form_in_turn (in_bank r bank bank_place row) h = tt
  form_in_turn (applied o left right) h = (operand_in_turn (form_of left) h.0, operand_in_turn (form_of right) h.1)
  form_in_turn (converted inner to) h = tt

  all_in_turn : (ts : Terms) → AllRound cs round ts → AllInTurn known cs round path v ts
  all_in_turn no_terms h = tt
  all_in_turn (term_then t rest) h = (form_in_turn (form_of t) h.0, all_in_turn rest h.1)

  element_found : (e : Element) → ElementRound cs round e → ElementInTurn known cs round path v e
  element_found (with_indices indices) h = all_in_turn indices h
  element_found (in_row bank row) h = tt

-- the indices of an element find the iterators of unrolled loops in turns, at a path inside loops that match
pub element_in_turn : (known : Known) (cs round : List Counter) (loops : List Turning) (v0 v : Variables) (touched : ℕ → Bool) (path : Path)
    → TurnsAt loops v0 (paths_inside loops) → HaveDepths [] loops → LoopsMatch known loops round → AreSpared touched loops → IsNearTo v0 touched v → IsPathAmong path (paths_inside loops)
    → (e : Element) → ElementRound cs round e → ElementInTurn known cs round path v e
element_in_turn known cs round loops v0 v touched path turns depths matches spared near here =
    element_found known cs round v0 v touched path near
    (λ level c f. subst (λ (j : ℕ). LoopInTurn known v0 touched path j c) (none_more level)
    (loop_at known v0 touched path (paths_inside loops) here [] loops round 0 level c refl turns depths spared matches f))

-- Blocks of a program.

-- commands that spare the iterators of loops do not touch them
pub spared_commands : (cs : CoreCommands) (loops : List Turning) → Spares cs loops → AreSpared (λ e. any_assigns e cs) loops
spared_commands cs [] h = tt
spared_commands cs (loop ∷ loops) h = (h.0, spared_commands cs loops h.1)

-- and a test touches nothing
pub spared_test : (loops : List Turning) → AreSpared (λ e. false) loops
spared_test [] = tt
spared_test (loop ∷ loops) = (refl, spared_test loops)

-- the elements of straight commands in a turn of their loops, whose iterators they spare
pub straight_in_turn : (p : Program) → IsReady p → (loops : List Turning) (block : Block) → StandsIn [] (core_of p).phases loops block → (m : StraightMatches p loops block)
    → AreSpared (λ e. any_assigns e (core_commands (known_of p) m.of.done)) loops
    → (v0 v : Variables) (path : Path) → AreInTurn [] loops v0 → IsNearTo v0 (λ e. any_assigns e (core_commands (known_of p) m.of.done)) v → IsPathAmong path (paths_inside loops)
    → (e : Element) → ElementRound (counters_of p) m.of.round.loops e → ElementInTurn (known_of p) (counters_of p) m.of.round.loops path v e
straight_in_turn p r loops block s m spared v0 v path turns near here =
    element_in_turn (known_of p) (counters_of p) m.of.round.loops loops v0 v (λ e. any_assigns e (core_commands (known_of p) m.of.done)) path (turns_at loops v0 turns depths) depths m.loops_match
    spared near here
  where
    depths : HaveDepths [] loops
    depths = (ready_deep p r).depths loops block s

-- and those of a test
pub test_in_turn : (p : Program) → IsReady p → (loops : List Turning) (block : Block) → StandsIn [] (core_of p).phases loops block → (m : TestMatches p loops block)
    → (v0 v : Variables) (path : Path) → AreInTurn [] loops v0 → IsNearTo v0 (λ e. false) v → IsPathAmong path (paths_inside loops)
    → (e : Element) → ElementRound (counters_of p) m.of.tested.around.loops e → ElementInTurn (known_of p) (counters_of p) m.of.tested.around.loops path v e
test_in_turn p r loops block s m v0 v path turns near here =
    element_in_turn (known_of p) (counters_of p) m.of.tested.around.loops loops v0 v (λ e. false) path (turns_at loops v0 turns depths) depths m.loops_match
    (spared_test loops) near here
  where
    depths : HaveDepths [] loops
    depths = (ready_deep p r).depths loops block s

-- the same for accesses in these loops
pub straight_access : (p : Program) → IsReady p → (loops : List Turning) (block : Block) → StandsIn [] (core_of p).phases loops block → (m : StraightMatches p loops block)
    → AreSpared (λ e. any_assigns e (core_commands (known_of p) m.of.done)) loops
    → (v0 v : Variables) (path : Path) → AreInTurn [] loops v0 → IsNearTo v0 (λ e. any_assigns e (core_commands (known_of p) m.of.done)) v → IsPathAmong path (paths_inside loops)
    → (a : SourceAccess) → a.site.loops ≡ m.of.round.loops → ElementRound (counters_of p) a.site.loops a.element → ElementInTurn (known_of p) (counters_of p) a.site.loops path v a.element
straight_access p r loops block s m spared v0 v path turns near here a same h =
    subst (λ (ls : List Counter). ElementInTurn (known_of p) (counters_of p) ls path v a.element) (sym same)
    (straight_in_turn p r loops block s m spared v0 v path turns near here a.element (subst (λ (ls : List Counter). ElementRound (counters_of p) ls a.element) same h))

pub test_access : (p : Program) → IsReady p → (loops : List Turning) (block : Block) → StandsIn [] (core_of p).phases loops block → (m : TestMatches p loops block)
    → (v0 v : Variables) (path : Path) → AreInTurn [] loops v0 → IsNearTo v0 (λ e. false) v → IsPathAmong path (paths_inside loops)
    → (a : SourceAccess) → a.site.loops ≡ m.of.tested.around.loops → ElementRound (counters_of p) a.site.loops a.element → ElementInTurn (known_of p) (counters_of p) a.site.loops path v a.element
test_access p r loops block s m v0 v path turns near here a same h =
    subst (λ (ls : List Counter). ElementInTurn (known_of p) (counters_of p) ls path v a.element) (sym same)
    (test_in_turn p r loops block s m v0 v path turns near here a.element (subst (λ (ls : List Counter). ElementRound (counters_of p) ls a.element) same h))
