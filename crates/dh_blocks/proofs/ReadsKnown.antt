-- What is known of the earlier reads of a block, at all paths at once, where a command stands along the trace of the
-- program. Of each read so far that stands in no arm but those round this place, and between which and this place
-- nothing is assigned that an equal read mentions: it is found, where the guard holds here it does there, and it means
-- what the equal read would mean here. An access adds itself; an assignment takes away what mentions its variable.
use Rattle.std.proofs.Common.{◌≡◌, ◌⊎◌, inl, inr, ℕ, suc, ◌+◌, ◌<◌, ◌≤◌, ◌||◌, Bool, true, false, List, [], ◌∷◌, ◌++◌, length, take, Option, Some, refl, sym, ◌∙◌, ap, subst, arith}
use mathlib.Core.Path.{fun_ext}
use Rattle.dh_tree.specs.Memories.{same_entity}
use Rattle.dh_tree.specs.PlainTrees.{Program}
use Rattle.dh_tree.specs.Seen.{program_seen}
use Rattle.dh_meaning.specs.CoreOf.{Known}
use Rattle.dh_meaning.specs.Effects.{Begun, Variables}
use Rattle.dh_meaning.specs.Paths.{Path}
use Rattle.dh_meaning.specs.Sites as sites
use Rattle.dh_meaning.specs.Sites.{in_arm}
use Rattle.dh_meets.specs.Charges.{element_depends, entity_depends}
use Rattle.dh_meets.specs.Sharing.{all_arms_of, alike_elements, reassigned}
use Rattle.dh_meets.specs.SourceEvents.{Element, SourceAccess, SourceEvent, accesses, assigned}
use Rattle.dh_plan.specs.Blocks.{is_on}
use Rattle.dh_sound.specs.BehindViews.{AccessBehind}
use Rattle.dh_sound.specs.Trails.{EachAccess, count}
use Rattle.dh_sound.specs.ViewTrails.{IsBehind}
use Rattle.dh_sound.proofs.KeptReads.{each_at}
use Rattle.dh_sound.proofs.KnownReads.{Cut, at_end, inside, cut_last, count_joined, earlier_kept, reassigned_joined, all_in_less, HasNoArm, NoneInArm}
use Rattle.dh_sound.proofs.SourceValues.{IsNamedElement, read_value, source_spot, spot_alike}
use Rattle.dh_sound.proofs.ValuesBelow.{AgreeBelow}
use Rattle.dh_expressions.specs.declared.paths.Level.{Level}
use Rattle.dh_expressions.specs.declared.scenes.Around.{Around}
use Rattle.dh_expressions.specs.declared.scenes.Scene.{Scene}
use Rattle.dh_expressions.specs.Drafted.{BlockStep}
use Rattle.dh_expressions.specs.Evaluated.{begun_of, known_in}
use Rattle.dh_expressions.specs.Levels.{leader_number, path_at}
use Rattle.dh_expressions.specs.Shown.{guard_of}
use Rattle.dh_commands.specs.LanesRun.{is_on_at}
use Rattle.dh_blocks.specs.FoundAccesses.{Found}
use Rattle.dh_blocks.specs.BlockTraced.{TellsWays}
use Rattle.dh_blocks.proofs.ElementsAlike.{IsFree, element_alike, spot_seen}
use Rattle.dh_blocks.proofs.SpotsMoved.{spot_below, spot_moved}

or_false : (a b : Bool) → (a || b) ≡ false → (a ≡ false) × (b ≡ false)
or_false true b e = cc
or_false false b e = (refl, e)

-- where two lists behind each other are cut
pub data CutBoth {A : Type 0} (xs ys : List A) (before : List A) (z : A) (rest : List A) : Type 0 where
  in_first : (less : List A) → rest ≡ less ++ ys → xs ≡ before ++ z ∷ less → CutBoth xs ys before z rest
  in_second : (more : List A) → before ≡ xs ++ more → ys ≡ more ++ z ∷ rest → CutBoth xs ys before z rest

pub cut_both : {A : Type 0} (xs ys before : List A) (z : A) (rest : List A) → xs ++ ys ≡ before ++ z ∷ rest → CutBoth xs ys before z rest
cut_both [] ys before z rest e = in_second before refl e
cut_both (x ∷ xs) ys [] z rest e = in_first xs (sym (tails x z (xs ++ ys) rest e)) (ap (λ w. w ∷ xs) (heads x z (xs ++ ys) rest e))
  where
    heads : {A : Type 0} (a b : A) (l m : List A) → a ∷ l ≡ b ∷ m → a ≡ b
    heads a b l m e = cc

    tails : {A : Type 0} (a b : A) (l m : List A) → a ∷ l ≡ b ∷ m → l ≡ m
    tails a b l m e = cc
cut_both {A} (x ∷ xs) ys (y ∷ before) z rest e = further (cut_both xs ys before z rest (tails x y (xs ++ ys) (before ++ z ∷ rest) e))
  where
    heads : {A : Type 0} (a b : A) (l m : List A) → a ∷ l ≡ b ∷ m → a ≡ b
    heads a b l m e = cc

    tails : {A : Type 0} (a b : A) (l m : List A) → a ∷ l ≡ b ∷ m → l ≡ m
    tails a b l m e = cc

    same : x ≡ y
    same = heads x y (xs ++ ys) (before ++ z ∷ rest) e

    further : CutBoth xs ys before z rest → CutBoth (x ∷ xs) ys (y ∷ before) z rest
    further (in_first less r s) = in_first less r (ap (λ w. w ∷ xs) same ∙ ap (λ (l : List A). y ∷ l) s)
    further (in_second more r s) = in_second more (ap (λ (l : List A). y ∷ l) r ∙ ap (λ w. w ∷ (xs ++ more)) (sym same)) s

module _ (scene : Scene) (x : BlockStep) (find : ℕ → Option Found) (levels : List Level) (size : ℕ) (in_block : ℕ → Bool) where
  abbrev known : Known
  known = known_in scene

  abbrev begun : Begun
  begun = begun_of x

  abbrev program : Program
  program = program_seen scene.program.now

  -- a read that is found and means what an equal one would mean here
  pub record IsKnown (around : Around) (V : ℕ → Variables) (number : ℕ) (entity : Option ℕ) (e : Element) : Type 0 where
    pub found : Found
    pub at : find number ≡ Some found
    pub long : length found.standing.guards ≡ size
    pub leads : (i : ℕ) → found.standing.leader i ≡ leader_number levels (λ l. entity_depends known.bindings l entity || element_depends known.bindings l e) i
    pub on : (i : ℕ) → i < size → is_on_at x around i ≡ true → is_on x.first x.words (guard_of found.standing.guards i) ≡ true
    pub word : (i : ℕ) → i < size → found.word i ≡ read_value begun known entity (source_spot begun known (V i) (path_at levels i) entity e)

  -- so of each read before this place
  abbrev pub Knows : Around → sites.Around → (before : List SourceEvent) → (V : ℕ → Variables) → Type 0
  Knows around r before V =
      (pre between : List SourceEvent) (a : SourceAccess) (e : Element) → before ≡ pre ++ accesses a ∷ between → a.writes ≡ false → in_block (count pre) ≡ true
      → all_arms_of a.site.arms r.arms ≡ true → same_entity a.entity a.entity ≡ true → alike_elements a.element e ≡ true → IsNamedElement begun known e → reassigned e between ≡ false
      → IsKnown around V (count pre) a.entity e

  -- at the begin of a block nothing is
  pub knows_none : (around : Around) (r : sites.Around) (before : List SourceEvent) (V : ℕ → Variables) → ((k : ℕ) → k < count before → in_block k ≡ true → ⊥) → Knows around r before V
  knows_none around r before V none pre between a e cut w i arms y s n m =
      let c = ap count cut ∙ count_joined pre (accesses a ∷ between) in
      absurd (none (count pre) (omega (arith, c)) i)

  -- an access
  pub knows_access : (around : Around) (r : sites.Around) (before : List SourceEvent) (V : ℕ → Variables) (a : SourceAccess) → Knows around r before V
      → (a.writes ≡ false → IsKnown around V (count before) a.entity a.element) → Knows around r (before ++ accesses a ∷ []) V
  knows_access around r before V a k made pre between b e cut w i arms y s n m = by (cut_last before (accesses a) pre (accesses b) between cut)
    where
      same_access : (g h : SourceAccess) → accesses g ≡ accesses h → g ≡ h
      same_access g h q = cc

      here : before ≡ pre → a ≡ b → IsKnown around V (count pre) b.entity e
      here p q = as_equal (subst (λ (g : SourceAccess). IsKnown around V (count pre) g.entity g.element) q (subst (λ (l : List SourceEvent). IsKnown around V (count l) a.entity a.element) p (made (ap (λ g. g.writes) q ∙ w))))
        where
          as_equal : IsKnown around V (count pre) b.entity b.element → IsKnown around V (count pre) b.entity e
          as_equal h = record {
            found = h.found;
            at = h.at;
            long = h.long;
            leads = λ j. h.leads j ∙ ap (λ (f : ℕ → Bool). leader_number levels f j) (fun_ext (λ l. ap (λ d. entity_depends known.bindings l b.entity || d) (element_alike begun known l b.element e s)));
            on = h.on;
            word = λ j l. h.word j l ∙ ap (λ z. read_value begun known b.entity z) (spot_alike begun known (V j) (path_at levels j) b.entity b.entity b.element e y s);
          }

      by : Cut before (accesses a) pre (accesses b) between → IsKnown around V (count pre) b.entity e
      by (at_end q p t) = here p (same_access a b t)
      by (inside less q p) = k pre less b e p w i arms y s n (earlier_kept e less (accesses a) (subst (λ (l : List SourceEvent). reassigned e l ≡ false) q m)).0

  -- each access of a part that begins at a number is not one of the block, or stands in an arm that is not round
  abbrev pub IsPassed : sites.Around → (n : ℕ) → List SourceEvent → Type 0
  IsPassed r n [] = Unit {0}
  IsPassed r n (accesses a ∷ es) = ((in_block n ≡ false) ⊎ (all_arms_of a.site.arms r.arms ≡ false)) × IsPassed r (suc n) es
  IsPassed r n (assigned e ∷ es) = IsPassed r n es

  pub passed_both : (r : sites.Around) (n m : ℕ) (es fs : List SourceEvent) → m ≡ n + count es → IsPassed r n es → IsPassed r m fs → IsPassed r n (es ++ fs)
  passed_both r n m [] fs e h g = subst (λ (k : ℕ). IsPassed r k fs) (e ∙ none n) g
    where
      none : (n : ℕ) → n + 0 ≡ n
      none n = omega arith
  passed_both r n m (accesses a ∷ es) fs e h g = (h.0, passed_both r (suc n) m es fs (e ∙ moved n (count es)) h.1 g)
    where
      moved : (n k : ℕ) → n + suc k ≡ suc n + k
      moved n k = omega arith
  passed_both r n m (assigned o ∷ es) fs e h g = passed_both r n m es fs e h g

  passed_at : (r : sites.Around) (n : ℕ) (more : List SourceEvent) (a : SourceAccess) (rest : List SourceEvent) → IsPassed r n (more ++ accesses a ∷ rest) → (in_block (n + count more) ≡ false) ⊎ (all_arms_of a.site.arms r.arms ≡ false)
  passed_at r n [] a rest h = as_here h.0
    where
      none : (n : ℕ) → n ≡ n + 0
      none n = omega arith

      as_here : (in_block n ≡ false) ⊎ (all_arms_of a.site.arms r.arms ≡ false) → (in_block (n + 0) ≡ false) ⊎ (all_arms_of a.site.arms r.arms ≡ false)
      as_here (inl e) = inl (ap in_block (sym (none n)) ∙ e)
      as_here (inr e) = inr e
  passed_at r n (accesses b ∷ more) a rest h = as_here (passed_at r (suc n) more a rest h.1)
    where
      moved : (n k : ℕ) → n + suc k ≡ suc n + k
      moved n k = omega arith

      as_here : (in_block (suc n + count more) ≡ false) ⊎ (all_arms_of a.site.arms r.arms ≡ false) → (in_block (n + suc (count more)) ≡ false) ⊎ (all_arms_of a.site.arms r.arms ≡ false)
      as_here (inl e) = inl (ap in_block (moved n (count more)) ∙ e)
      as_here (inr e) = inr e
  passed_at r n (assigned o ∷ more) a rest h = passed_at r n more a rest h

  -- no number of a part is one of the block
  pub idle_passed : (r : sites.Around) (n : ℕ) (part : List SourceEvent) → ((k : ℕ) → n ≤ k → k < n + count part → in_block k ≡ false) → IsPassed r n part
  idle_passed r n [] h = tt
  idle_passed r n (accesses a ∷ part) h = (inl (h n (omega arith) (omega arith)), idle_passed r (suc n) part (λ k l u. h k (omega (arith, l)) (omega (arith, u))))
  idle_passed r n (assigned e ∷ part) h = idle_passed r n part h

  -- where a read behind events leads by some variables, one alike leads by others, if it is not assigned to in a part
  abbrev pub SpotsStay : (before part : List SourceEvent) → (V W : ℕ → Variables) → Type 0
  SpotsStay before part V W =
      (pre less : List SourceEvent) (a : SourceAccess) (e : Element) → before ≡ pre ++ accesses a ∷ less → same_entity a.entity a.entity ≡ true → alike_elements a.element e ≡ true
      → IsNamedElement begun known e → reassigned e part ≡ false → (j : ℕ) → j < size → source_spot begun known (V j) (path_at levels j) a.entity e ≡ source_spot begun known (W j) (path_at levels j) a.entity e

  -- a part that is passed, or none of whose accesses is known of here, where all known reads lead on as they did
  knows_moved : (around : Around) (r : sites.Around) (before part : List SourceEvent) (V W : ℕ → Variables) → IsPassed r (count before) part → SpotsStay before part V W
      → Knows around r before V → Knows around r (before ++ part) W
  knows_moved around r before part V W passed stay k pre between a e cut w i arms y s n m = by (cut_both before part pre (accesses a) between cut)
    where
      moved : (less : List SourceEvent) → before ≡ pre ++ accesses a ∷ less → reassigned e (less ++ part) ≡ false → IsKnown around V (count pre) a.entity e → IsKnown around W (count pre) a.entity e
      moved less is h g = record {
        found = g.found;
        at = g.at;
        long = g.long;
        leads = g.leads;
        on = g.on;
        word = λ j l.
            g.word j l ∙ ap (λ z. read_value begun known a.entity z)
            (stay pre less a e is y s n (or_false (reassigned e less) (reassigned e part) (sym (reassigned_joined e less part) ∙ h)).1 j l);
      }

      never : (more : List SourceEvent) → pre ≡ before ++ more → (in_block (count before + count more) ≡ false) ⊎ (all_arms_of a.site.arms r.arms ≡ false) → ⊥
      never more p (inl f) = clash (in_block (count pre)) i (ap in_block (ap count p ∙ count_joined before more) ∙ f)
        where
          clash : (b : Bool) → b ≡ true → b ≡ false → ⊥
          clash b e f = cc
      never more p (inr f) = clash (all_arms_of a.site.arms r.arms) arms f
        where
          clash : (b : Bool) → b ≡ true → b ≡ false → ⊥
          clash b e f = cc

      by : CutBoth before part pre (accesses a) between → IsKnown around W (count pre) a.entity e
      by (in_first less q p) =
          let h : reassigned e (less ++ part) ≡ false = subst (λ (l : List SourceEvent). reassigned e l ≡ false) q m in
          moved less p h (k pre less a e p w i arms y s n (or_false (reassigned e less) (reassigned e part) (sym (reassigned_joined e less part) ∙ h)).0)
      by (in_second more p q) = absurd (never more p (passed_at r (count before) more a between (subst (λ (l : List SourceEvent). IsPassed r (count before) l) q passed)))

  -- nothing is changed
  pub knows_past : (around : Around) (r : sites.Around) (before part : List SourceEvent) (V : ℕ → Variables) → IsPassed r (count before) part → Knows around r before V → Knows around r (before ++ part) V
  knows_past around r before part V passed k = knows_moved around r before part V V passed (λ pre less a e is y s n m j l. refl) k

  -- an access before stands behind the views there
  behind_at : (y : ℕ) (before pre less : List SourceEvent) (a : SourceAccess) → IsBehind program y before → before ≡ pre ++ accesses a ∷ less → AccessBehind program y a
  behind_at y before pre less a at cut = each_at (λ c. AccessBehind program y c) pre a less (subst (λ (l : List SourceEvent). EachAccess (λ c. AccessBehind program y c) l) cut at.seen)

  -- names that are assigned may be changed, and what is kept by views behind
  pub knows_over : TellsWays scene → (around : Around) (r : sites.Around) (before part : List SourceEvent) (V W : ℕ → Variables) (y : ℕ) → IsPassed r (count before) part → IsBehind program y before
      → ((i : ℕ) → i < size → (entity : ℕ) → entity < y → IsFree entity part ⊎ (length program.entities ≤ entity) → (q : Path) → V i entity q ≡ W i entity q)
      → Knows around r before V → Knows around r (before ++ part) W
  knows_over ways around r before part V W y passed at agree k =
      knows_moved around r before part V W passed
      (λ pre less a e cut same alike names free j l.
      subst (λ (g : Known). IsNamedElement begun g e → source_spot begun g (V j) (path_at levels j) a.entity e ≡ source_spot begun g (W j) (path_at levels j) a.entity e) (sym ways)
      (λ named. spot_moved program begun (V j) (W j) (path_at levels j) y at.own a (behind_at y before pre less a at cut) e same alike part (agree j l) named free) names)
      k

  -- what is kept by views behind may be changed
  pub knows_kept : TellsWays scene → (around : Around) (r : sites.Around) (before : List SourceEvent) (V W : ℕ → Variables) (y : ℕ) → IsBehind program y before → ((i : ℕ) → i < size → AgreeBelow y (V i) (W i))
      → Knows around r before V → Knows around r before W
  knows_kept ways around r before V W y at agree k pre between a e cut w i arms same alike n m =
      let g = k pre between a e cut w i arms same alike n m in
      record {
        found = g.found;
        at = g.at;
        long = g.long;
        leads = g.leads;
        on = g.on;
        word = λ j l.
            g.word j l ∙ ap (λ z. read_value begun known a.entity z)
            (subst (λ (h : Known). source_spot begun h (V j) (path_at levels j) a.entity e ≡ source_spot begun h (W j) (path_at levels j) a.entity e) (sym ways)
            (spot_below program begun (V j) (W j) (path_at levels j) y at.own a (behind_at y before pre between a at cut) e same alike (agree j l)));
      }

  -- variables that agree as they are seen at each path
  pub knows_seen : (around : Around) (r : sites.Around) (before : List SourceEvent) (V W : ℕ → Variables) → ((i : ℕ) → i < size → (entity d : ℕ) → V i entity (take d (path_at levels i)) ≡ W i entity (take d (path_at levels i)))
      → Knows around r before V → Knows around r before W
  knows_seen around r before V W agree k pre between a e cut w i arms y s n m =
      let g = k pre between a e cut w i arms y s n m in
      record {
        found = g.found;
        at = g.at;
        long = g.long;
        leads = g.leads;
        on = g.on;
        word = λ j l. g.word j l ∙ ap (λ z. read_value begun known a.entity z) (spot_seen begun known (V j) (W j) (path_at levels j) a.entity e (agree j l));
      }

  -- into an arm, of which nothing before this place is
  pub knows_arm : (around arm : Around) (r : sites.Around) (command : ℕ) (first : Bool) (before : List SourceEvent) (V : ℕ → Variables) → NoneInArm begun known [] in_block command before
      → ((i : ℕ) → i < size → is_on_at x arm i ≡ true → is_on_at x around i ≡ true) → Knows around r before V → Knows arm (in_arm r command first) before V
  knows_arm around arm r command first before V fresh less k pre between a e cut w i arms y s n m =
      let g = k pre between a e cut w i
      (all_in_less begun known [] in_block a.site.arms r.arms (record { command = command; first = first }) (none_in pre between a (subst (λ (l : List SourceEvent). NoneInArm begun known [] in_block command l) cut fresh)) arms)
      y s n m in
      record { found = g.found; at = g.at; long = g.long; leads = g.leads; on = λ j l on. g.on j l (less j l on); word = g.word }
    where
      none_in : (pre between : List SourceEvent) (a : SourceAccess) → NoneInArm begun known [] in_block command (pre ++ accesses a ∷ between) → HasNoArm begun known [] in_block command a.site.arms
      none_in [] between a h = h.0
      none_in (accesses b ∷ pre) between a h = none_in pre between a h.1
      none_in (assigned b ∷ pre) between a h = none_in pre between a h
