-- Levels behind an expression, by recursion on it.
use Rattle.std.proofs.Common.{◌≡◌, ℕ, suc, ◌+◌, ◌<◌, ◌≤◌, true, false, List, [], ◌∷◌, Some, None, refl, sym, ap, ◌∙◌, subst, arith}
use Rattle.std.specs.Prelude.{Bool as Truth, ◌==◌, if◌then◌else◌, max, Option}
use Rattle.std.proofs.lemmas.Bool.Decides.{nat_tests}
use Rattle.dh_base.specs.declared.places.Place.{Place}
use Rattle.dh_value.specs.declared.kinds.Kind.{Kind}
use Rattle.dh_value.specs.declared.kinds.Kind.TheVariants as kind
use Rattle.dh_value.specs.declared.operators.Op.{Op}
use Rattle.dh_value.specs.declared.operators.Op.TheVariants as op
use Rattle.dh_tree.specs.declared.trees.expressions.Ref.{Ref}
use Rattle.dh_tree.specs.WiderKinds.{wider}
use Rattle.dh_tree.specs.PlainTrees as plain
use Rattle.dh_meaning.specs.AccessNumbers.{term_accesses, terms_accesses}
use Rattle.dh_meaning.specs.Bindings.{kind_found}
use Rattle.dh_meaning.specs.Core.{CoreTerm, CoreTerms, Reach, no_terms, term_and}
use Rattle.dh_meaning.specs.CoreOf.{core_term, core_terms, extended, kept_terms, operation_of, reach_of, target_to, terms_both, way_of}
use Rattle.dh_meaning.specs.Levels.{Leveled, Levels, greatest, read_at, read_leveled, target_leveled, term_leveled, terms_leveled, with_value}
use Rattle.dh_meaning.specs.Ways.{Hidden, Way}
use Rattle.dh_expressions.specs.declared.scenes.Scene.{Scene}
use Rattle.dh_expressions.specs.Evaluated.{known_in}
use Rattle.dh_formed.specs.Timed.{AreBounded, LevelsThen, all_leveled, leveled, named_leveled}

-- Conversions have no level of their own.

module _ (shared : ℕ → Option ℕ) (outer : ℕ) where
  extended_leveled : (k : Kind) (t : CoreTerm) (l : Levels) → term_leveled shared outer t l ≡ term_leveled shared outer (extended k t) l
  extended_leveled kind.Bool t l = refl
  extended_leveled (kind.Unsigned w) t l = refl
  extended_leveled (kind.Signed w) t l = refl

  abbrev pub two_leveled : (l r : CoreTerm) → Levels → Leveled
  two_leveled l r v = greatest (term_leveled shared outer l v).level (term_leveled shared outer r (term_leveled shared outer l v).levels)

  both_leveled : (k : Kind) (l r : CoreTerm) (v : Levels) → two_leveled l r v ≡ two_leveled (extended k l) (extended k r) v
  both_leveled k l r v =
      ap (λ (m : Leveled). greatest m.level (term_leveled shared outer r m.levels)) (extended_leveled k l v)
      ∙ ap (λ (m : Leveled). greatest (term_leveled shared outer (extended k l) v).level m) (extended_leveled k r (term_leveled shared outer (extended k l) v).levels)

  pub operation_leveled : (o : Op) (j k : Kind) (l r : CoreTerm) (v : Levels) → two_leveled l r v ≡ term_leveled shared outer (operation_of o j k l r) v
  operation_leveled op.Shl j k l r v = refl
  operation_leveled op.Shr j k l r v = refl
  operation_leveled op.Both j k l r v = refl
  operation_leveled op.Either j k l r v = refl
  operation_leveled op.Add j k l r v = both_leveled (wider j k) l r v
  operation_leveled op.Sub j k l r v = both_leveled (wider j k) l r v
  operation_leveled op.Mul j k l r v = both_leveled (wider j k) l r v
  operation_leveled op.And j k l r v = both_leveled (wider j k) l r v
  operation_leveled op.Or j k l r v = both_leveled (wider j k) l r v
  operation_leveled op.Xor j k l r v = both_leveled (wider j k) l r v
  operation_leveled op.Lt j k l r v = both_leveled (wider j k) l r v
  operation_leveled op.Gt j k l r v = both_leveled (wider j k) l r v
  operation_leveled op.Le j k l r v = both_leveled (wider j k) l r v
  operation_leveled op.Ge j k l r v = both_leveled (wider j k) l r v
  operation_leveled op.Eq j k l r v = both_leveled (wider j k) l r v
  operation_leveled op.Ne j k l r v = both_leveled (wider j k) l r v

  -- a read by what it shares
  pub read_alone : (r : Reach) (i : Leveled) → shared r.number ≡ None → read_leveled shared outer r i ≡ read_at r (suc (max i.level outer)) i.levels
  read_alone r i e = ap (λ (q : Option ℕ). read_leveled (λ n. q) outer r i) e

  pub read_shares : (r : Reach) (i : Leveled) (earlier : ℕ) → shared r.number ≡ Some earlier → read_leveled shared outer r i ≡ read_at r (i.levels.reads earlier) i.levels
  read_shares r i earlier e = ap (λ (q : Option ℕ). read_leveled (λ n. q) outer r i) e

-- and the greatest is no less behind it
module _ (shared : ℕ → Option ℕ) (outer : ℕ) where
  pub read_grows : (r : Reach) (i : Leveled) → i.levels.most ≤ (read_leveled shared outer r i).levels.most
  read_grows r i = by (shared r.number) refl
    where
      grown : (x y : ℕ) → x ≤ max x y
      grown x y = omega arith

      by : (o : Option ℕ) → shared r.number ≡ o → i.levels.most ≤ (read_leveled shared outer r i).levels.most
      by None e = subst (λ (w : Leveled). i.levels.most ≤ w.levels.most) (sym (read_alone shared outer r i e)) (grown i.levels.most (suc (max i.level outer)))
      by (Some earlier) e = subst (λ (w : Leveled). i.levels.most ≤ w.levels.most) (sym (read_shares shared outer r i earlier e)) (grown i.levels.most (i.levels.reads earlier))

-- One value of a function changed.

pub value_here : (f : ℕ → ℕ) (key value : ℕ) → with_value f key value key ≡ value
value_here f key value = by (key == key) same
  where
    same : (key == key) ≡ true
    same = grind (arith, nat_tests)

    by : (t : Truth) → t ≡ true → (if t then value else f key) ≡ value
    by true e = refl
    by false e = absurd (cc)

pub value_other : (f : ℕ → ℕ) (key value n : ℕ) → (n ≡ key → ⊥) → with_value f key value n ≡ f n
value_other f key value n other = by (n == key) apart
  where
    apart : (n == key) ≡ false
    apart = grind (arith, nat_tests)

    by : (t : Truth) → t ≡ false → (if t then value else f n) ≡ f n
    by true e = absurd (cc)
    by false e = refl

value_few : (f : ℕ → ℕ) (key value n k : ℕ) → f n ≤ k → value ≤ k → with_value f key value n ≤ k
value_few f key value n k few small = by (n == key)
  where
    by : (t : Truth) → (if t then value else f n) ≤ k
    by true = small
    by false = few

-- a read changes the level of no other
module _ (shared : ℕ → Option ℕ) (outer : ℕ) where
  pub read_keeps : (r : Reach) (i : Leveled) (m : ℕ) → (m ≡ r.number → ⊥) → (read_leveled shared outer r i).levels.reads m ≡ i.levels.reads m
  read_keeps r i m other = by (shared r.number) refl
    where
      by : (o : Option ℕ) → shared r.number ≡ o → (read_leveled shared outer r i).levels.reads m ≡ i.levels.reads m
      by None e = ap (λ (w : Leveled). w.levels.reads m) (read_alone shared outer r i e) ∙ value_other i.levels.reads r.number (suc (max i.level outer)) m other
      by (Some earlier) e = ap (λ (w : Leveled). w.levels.reads m) (read_shares shared outer r i earlier e) ∙ value_other i.levels.reads r.number (i.levels.reads earlier) m other

-- Behind indices stand the variables that keep the offsets of a way: each has its own level, and the levels stay.
module _ (shared : ℕ → Option ℕ) (outer : ℕ) where
  abbrev terms_level : CoreTerms → Levels → ℕ
  terms_level ts l = (terms_leveled shared outer ts l).level

  both_levels : (ts us : CoreTerms) (l : Levels) → (terms_leveled shared outer (terms_both ts us) l).levels ≡ (terms_leveled shared outer us (terms_leveled shared outer ts l).levels).levels
  both_levels no_terms us l = refl
  both_levels (term_and t ts) us l = both_levels ts us (term_leveled shared outer t l).levels

  both_level : (ts us : CoreTerms) (l : Levels) → terms_level (terms_both ts us) l ≡ max (terms_level ts l) (terms_level us (terms_leveled shared outer ts l).levels)
  both_level no_terms us l = least (terms_level us l)
    where
      least : (n : ℕ) → n ≡ max 0 n
      least n = omega arith
  both_level (term_and t ts) us l =
      again (term_leveled shared outer t l).level (terms_level (terms_both ts us) (term_leveled shared outer t l).levels) (terms_level ts (term_leveled shared outer t l).levels)
      (terms_level us (terms_leveled shared outer ts (term_leveled shared outer t l).levels).levels) (both_level ts us (term_leveled shared outer t l).levels)
    where
      again : (a w m n : ℕ) → w ≡ max m n → max a w ≡ max (max a m) n
      again a w m n e = omega (arith, e)

  pub kept_levels : (hs : List Hidden) (l : Levels) → (terms_leveled shared outer (kept_terms hs) l).levels ≡ l
  kept_levels [] l = refl
  kept_levels (h ∷ hs) l = kept_levels hs l

  kept_few : (hs : List Hidden) (l : Levels) → AreBounded l → terms_level (kept_terms hs) l ≤ l.most
  kept_few [] l b = omega arith
  kept_few (h ∷ hs) l b = both (l.variables h.entity) (terms_level (kept_terms hs) l) (b.variables h.entity) (kept_few hs l b)
    where
      both : (x y : ℕ) → x ≤ l.most → y ≤ l.most → max x y ≤ l.most
      both x y e f = omega (arith, e, f)

  -- the level of a way behind these levels
  abbrev pub way_level : Option Way → Levels → ℕ
  way_level None l = 0
  way_level (Some w) l = terms_level (kept_terms w.hidden) l

  pub way_few : (way : Option Way) (l : Levels) → AreBounded l → way_level way l ≤ l.most
  way_few None l b = omega arith
  way_few (Some w) l b = kept_few w.hidden l b

  pub named_levels : (way : Option Way) (ts : CoreTerms) (l : Levels) → (target_leveled shared outer (target_to way ts) l).levels ≡ (terms_leveled shared outer ts l).levels
  named_levels None ts l = refl
  named_levels (Some w) ts l = both_levels ts (kept_terms w.hidden) l ∙ kept_levels w.hidden (terms_leveled shared outer ts l).levels

  pub named_level : (way : Option Way) (ts : CoreTerms) (l : Levels) → (target_leveled shared outer (target_to way ts) l).level ≡ max (terms_level ts l) (way_level way (terms_leveled shared outer ts l).levels)
  named_level None ts l = alone (terms_level ts l)
    where
      alone : (n : ℕ) → n ≡ max n 0
      alone n = omega arith
  named_level (Some w) ts l = both_level ts (kept_terms w.hidden) l

-- Parts.

levels_same : (n count : ℕ) (l : Levels) (a b : Leveled) → a ≡ b → LevelsThen n count l a → LevelsThen n count l b
levels_same n count l a b same h = subst (λ (m : Leveled). LevelsThen n count l m) same h

levels_none : (n level : ℕ) (l : Levels) → (AreBounded l → level ≤ l.most) → LevelsThen n 0 l (record { level = level; levels = l })
levels_none n level l few = record {
  variables = λ entity. refl;
  before_them = λ m less. refl;
  behind_them = λ m more. refl;
  more = self l.most;
  bounded = λ b. b;
  level_few = few;
  least = λ k small reads. small;
}
  where
    self : (m : ℕ) → m ≤ m
    self m = omega arith

levels_two : (n a b : ℕ) (l : Levels) (f g : Leveled) → LevelsThen n a l f → LevelsThen (n + a) b f.levels g → LevelsThen n (a + b) l (greatest f.level g)
levels_two n a b l f g h k = record {
  variables = λ entity. k.variables entity ∙ h.variables entity;
  before_them = λ m less. k.before_them m (omega (arith, less)) ∙ h.before_them m less;
  behind_them = λ m more. k.behind_them m (omega (arith, more)) ∙ h.behind_them m (omega (arith, more));
  more = let s = h.more in let t = k.more in omega (arith, s, t);
  bounded = λ e. k.bounded (h.bounded e);
  level_few = λ e. both f.level g.level f.levels.most g.levels.most (h.level_few e) k.more (k.level_few (h.bounded e));
  least = λ q small reads.
      k.least q (h.least q small (λ m from below. subst (λ (i : ℕ). i ≤ q) (k.before_them m below) (reads m from (omega (arith, below)))))
      (λ m from below. reads m (omega (arith, from)) (omega (arith, below)));
}
  where
    both : (x y m p : ℕ) → x ≤ m → m ≤ p → y ≤ p → max x y ≤ p
    both x y m p s t u = omega (arith, s, t, u)

levels_read_at : (n a level : ℕ) (l : Levels) (i : Leveled) (r : Reach) → r.number ≡ n + a → LevelsThen n a l i → LevelsThen n (suc a) l (read_at r level i.levels)
levels_read_at n a level l i r own h = record {
  variables = h.variables;
  before_them = λ m less. value_other i.levels.reads r.number level m (λ e. differs m e less) ∙ h.before_them m less;
  behind_them = λ m more. value_other i.levels.reads r.number level m (λ e. differ m e more) ∙ h.behind_them m (fewer m more);
  more = grown l.most i.levels.most h.more;
  bounded = λ e. let b = h.bounded e in record {
    variables = λ entity. further (i.levels.variables entity) i.levels.most (b.variables entity);
    reads = λ number. value_few i.levels.reads r.number level number (max i.levels.most level) (further (i.levels.reads number) i.levels.most (b.reads number)) (last i.levels.most);
  };
  level_few = λ e. last i.levels.most;
  least = λ k small reads.
      join i.levels.most k (h.least k small (λ m from below. subst (λ (j : ℕ). j ≤ k) (value_other i.levels.reads r.number level m (λ e. apart m e below)) (reads m from (wide m below))))
      (subst (λ (j : ℕ). j ≤ k) (value_here i.levels.reads r.number level) (reads r.number (omega (arith, own)) (omega (arith, own))));
}
  where
    differs : (m : ℕ) → m ≡ r.number → m < n → ⊥
    differs m e less = omega (arith, own, e, less)

    differ : (m : ℕ) → m ≡ r.number → n + suc a ≤ m → ⊥
    differ m e more = omega (arith, own, e, more)

    apart : (m : ℕ) → m ≡ r.number → m < n + a → ⊥
    apart m e below = omega (arith, own, e, below)

    fewer : (m : ℕ) → n + suc a ≤ m → n + a ≤ m
    fewer m more = omega (arith, more)

    wide : (m : ℕ) → m < n + a → m < n + suc a
    wide m below = omega (arith, below)

    grown : (x y : ℕ) → x ≤ y → x ≤ max y level
    grown x y e = omega (arith, e)

    further : (x y : ℕ) → x ≤ y → x ≤ max y level
    further x y e = omega (arith, e)

    last : (y : ℕ) → level ≤ max y level
    last y = omega arith

    join : (y k : ℕ) → y ≤ k → level ≤ k → max y level ≤ k
    join y k e f = omega (arith, e, f)

module _ (scene : Scene) (shared : ℕ → Option ℕ) (outer : ℕ) where
  levels_read : (n a : ℕ) (l : Levels) (i : Leveled) (r : Reach) → r.number ≡ n + a → LevelsThen n a l i → LevelsThen n (suc a) l (read_leveled shared outer r i)
  levels_read n a l i r own h = by (shared r.number) refl
    where
      by : (o : Option ℕ) → shared r.number ≡ o → LevelsThen n (suc a) l (read_leveled shared outer r i)
      by None e = levels_same n (suc a) l _ _ (sym (read_alone shared outer r i e)) (levels_read_at n a (suc (max i.level outer)) l i r own h)
      by (Some earlier) e = levels_same n (suc a) l _ _ (sym (read_shares shared outer r i earlier e)) (levels_read_at n a (i.levels.reads earlier) l i r own h)

  abbrev Behind : plain.Term → Type 0
  Behind t = (n : ℕ) (l : Levels) → LevelsThen n (term_accesses t) l (leveled scene shared outer n t l)

  abbrev AllBehind : plain.Terms → Type 0
  AllBehind ts = (n : ℕ) (l : Levels) → LevelsThen n (terms_accesses ts) l (all_leveled scene shared outer n ts l)

  begin : (l : Levels) → AreBounded l → 0 ≤ l.most
  begin l b = omega arith

  behind_two : (place : Place) (k : Option Kind) (o : Op) (x y : plain.Term) → Behind x → Behind y → Behind (plain.term place k (plain.applied o x y))
  behind_two place k o x y f g n l =
      levels_same n (term_accesses x + term_accesses y) l _ _ (operation_leveled shared outer o (kind_found x) (kind_found y) (core_term (known_in scene) n x) (core_term (known_in scene) (n + term_accesses x) y) l)
      (levels_two n (term_accesses x) (term_accesses y) l _ _ (f n l) (g (n + term_accesses x) (leveled scene shared outer n x l).levels))

  -- indices with the variables of a way
  named_behind : (r : Ref) (ts : plain.Terms) → AllBehind ts → (n : ℕ) (l : Levels) → LevelsThen n (terms_accesses ts) l (named_leveled scene shared outer n r ts l)
  named_behind r ts all n l = record {
    variables = λ entity. ap (λ (k : Levels). k.variables entity) same ∙ h.variables entity;
    before_them = λ m less. ap (λ (k : Levels). k.reads m) same ∙ h.before_them m less;
    behind_them = λ m more. ap (λ (k : Levels). k.reads m) same ∙ h.behind_them m more;
    more = subst (λ (k : Levels). l.most ≤ k.most) (sym same) h.more;
    bounded = λ b. subst (λ (k : Levels). AreBounded k) (sym same) (h.bounded b);
    level_few = λ b.
        join (named_leveled scene shared outer n r ts l).level (all_leveled scene shared outer n ts l).level
        (way_level shared outer (way_of (known_in scene) r) (all_leveled scene shared outer n ts l).levels) (all_leveled scene shared outer n ts l).levels.most (named_leveled scene shared outer n r ts l).levels.most
        (named_level shared outer (way_of (known_in scene) r) (core_terms (known_in scene) n ts) l) (ap (λ (k : Levels). k.most) same) (h.level_few b)
        (way_few shared outer (way_of (known_in scene) r) (all_leveled scene shared outer n ts l).levels (h.bounded b));
    least = λ k small reads. subst (λ (j : Levels). j.most ≤ k) (sym same) (h.least k small (λ m from below. subst (λ (j : Levels). j.reads m ≤ k) same (reads m from below)));
  }
    where
      h : LevelsThen n (terms_accesses ts) l (all_leveled scene shared outer n ts l)
      h = all n l

      same : (named_leveled scene shared outer n r ts l).levels ≡ (all_leveled scene shared outer n ts l).levels
      same = named_levels shared outer (way_of (known_in scene) r) (core_terms (known_in scene) n ts) l

      join : (v a w m p : ℕ) → v ≡ max a w → p ≡ m → a ≤ m → w ≤ m → v ≤ p
      join v a w m p e f g i = omega (arith, e, f, g, i)

  mutual
    pub levels_behind : (t : plain.Term) → Behind t
    levels_behind (plain.term place k (plain.number negative z)) = λ n l. levels_none n 0 l (begin l)
    levels_behind (plain.term place k (plain.truth_value b)) = λ n l. levels_none n 0 l (begin l)
    levels_behind (plain.term place k (plain.named r)) = λ n l. levels_none n _ l (λ b. b.variables _)
    levels_behind (plain.term place k (plain.accessed r ts)) = λ n l.
        levels_read n (terms_accesses ts) l (named_leveled scene shared outer n r ts l) (reach_of (known_in scene) (n + terms_accesses ts) place r) refl (named_behind r ts (all_levels_behind ts) n l)
    levels_behind (plain.term place k (plain.in_bank r bank at t)) = λ n l. levels_read n (term_accesses t) l _ (reach_of (known_in scene) (n + term_accesses t) place r) refl (levels_behind t n l)
    levels_behind (plain.term place k (plain.applied o x y)) = behind_two place k o x y (levels_behind x) (levels_behind y)
    levels_behind (plain.term place k (plain.converted inner to)) = λ n l. levels_behind inner n l

    pub all_levels_behind : (ts : plain.Terms) → AllBehind ts
    all_levels_behind plain.no_terms = λ n l. levels_none n 0 l (begin l)
    all_levels_behind (plain.term_then t ts) = λ n l. levels_two n (term_accesses t) (terms_accesses ts) l _ _ (levels_behind t n l) (all_levels_behind ts (n + term_accesses t) (leveled scene shared outer n t l).levels)

  pub named_levels_behind : (r : Ref) (ts : plain.Terms) (n : ℕ) (l : Levels) → LevelsThen n (terms_accesses ts) l (named_leveled scene shared outer n r ts l)
  named_levels_behind r ts n l = named_behind r ts (all_levels_behind ts) n l
