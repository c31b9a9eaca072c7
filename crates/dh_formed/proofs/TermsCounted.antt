-- Expressions counted: by recursion on the expression, each part behind those before it.
use Rattle.std.proofs.Common.{◌≡◌, ℕ, suc, ◌+◌, ◌^◌, ◌<◌, ◌≤◌, ◌⊎◌, inl, inr, true, false, List, Some, None, refl, sym, ap, ◌∙◌, subst, arith, add-one}
use Rattle.std.specs.Prelude.{Bool as Truth, [], ◌∷◌, ◌||◌, ◌==◌, slice_get, Option}
use Rattle.std.specs.List.{AllByRecursion}
use Rattle.std.proofs.lemmas.Bool.{cases_lt}
use Rattle.std.proofs.lemmas.Bool.Decides.{nat_tests}
use Rattle.dh_base.specs.declared.places.Place.{Place}
use Rattle.dh_value.specs.declared.kinds.Kind.{Kind}
use Rattle.dh_value.specs.declared.kinds.Kind.TheVariants as kind
use Rattle.dh_value.specs.declared.operators.Op.{Op}
use Rattle.dh_value.specs.declared.operators.Op.TheVariants as op
use Rattle.dh_value.specs.Operations.{truth}
use Rattle.dh_tree.specs.declared.trees.counters.Counter.{Counter}
use Rattle.dh_tree.specs.declared.trees.expressions.Ref.{Ref}
use Rattle.dh_tree.specs.WiderKinds.{wider}
use Rattle.dh_tree.specs.PlainTrees as plain
use Rattle.dh_meaning.specs.AccessNumbers.{term_accesses, terms_accesses}
use Rattle.dh_meaning.specs.Bindings.{kind_found, kind_or_first}
use Rattle.dh_meaning.specs.Core.{CoreTerm, CoreTerms}
use Rattle.dh_meaning.specs.CoreOf.{core_term, core_terms, entity_number, extended, kept_terms, memory_of, operation_of, target_to, way_of}
use Rattle.dh_meaning.specs.Ways.{Hidden, Way}
use Rattle.dh_code.specs.Slots.{held_at}
use Rattle.dh_plan.specs.declared.operations.OperationForm.{OperationForm}
use Rattle.dh_plan.specs.declared.operations.OperationForm.TheVariants.{Constant, Old, Compute, Convert, Select, Check, Probe, Read, Write, Set}
use Rattle.dh_plan.specs.declared.operations.Reach.{Reach}
use Rattle.dh_plan.specs.declared.operations.ReachStep.{ReachStep}
use Rattle.dh_plan.specs.DoneProgram.{product_of, target_products, term_products, terms_products}
use Rattle.dh_plan.specs.PlanPhases.{target_mentions, term_mentions, core_terms_mention}
use Rattle.dh_expressions.specs.declared.accesses.Accesses.{Accesses}
use Rattle.dh_expressions.specs.declared.drafts.Draft.{Draft}
use Rattle.dh_expressions.specs.declared.elements.Aim.{Aim}
use Rattle.dh_expressions.specs.declared.scenes.Lane.{Lane}
use Rattle.dh_expressions.specs.declared.scenes.Scene.{Scene}
use Rattle.dh_formed.specs.Counted.{AreNext, Counts, CountsTerm, CountsTerms, FormIs, HaveGiven, IsBlockAccess, IsLedUse, IsMentioned, IsOfTerm, IsOfTerms, ExpressionBegins, given_at_paths, nothing, one_each, ranged, register_seen, use_of}
use Rattle.dh_formed.specs.CountedLaws.{CountsThrough, IsOfNamed}
use Rattle.dh_expressions.specs.Evaluated.{counter_of, hidden_register}
use Rattle.dh_expressions.specs.Named.{first_view, known_in}
use Rattle.dh_formed.specs.Formed.{Agrees, AreNumbers, FormedBlock, FormsAim, FormsPart, HiddenSuits, NamedSuits, ReadSuits, TermSuits, TermsSuit, WaySuits}
use Rattle.dh_expressions.specs.MadeTerms.{MadeRead, MadeTerm, MadeTerms, MadeThrough, MadeWay}
use Rattle.dh_formed.proofs.AccessesFormed.{scope_later}
use Rattle.dh_formed.proofs.PartsCounted.{counts_again, counts_none, counts_same, ranged_none, ranged_sum}
use Rattle.dh_formed.proofs.ReadsCounted.{IsOne, read_counts, read_gives}
use Rattle.dh_formed.proofs.TermsFormed.{all_formed, all_numbered, formed, numbered, through_made, way_part}
use Rattle.dh_formed.proofs.NamedTargets.{named_mentions, named_products, way_mentions}
use Rattle.dh_formed.proofs.ValuesCounted.{converted_counts, number_counts, operation_counts, variable_counts, way_counts, word_counts}
use Rattle.dh_formed.proofs.ValuesFormed.{agrees_before, converted_forms, operation_forms, started_later}
use Rattle.dh_formed.proofs.ElementsFormed.{read_forms}

-- What an expression of the core mentions and multiplies, from its parts: conversions add nothing.

extended_products : (k : Kind) (t : CoreTerm) → term_products t ≡ term_products (extended k t)
extended_products kind.Bool t = refl
extended_products (kind.Unsigned w) t = refl
extended_products (kind.Signed w) t = refl

extended_mentions : (e : ℕ) (k : Kind) (t : CoreTerm) → term_mentions e t ≡ term_mentions e (extended k t)
extended_mentions e kind.Bool t = refl
extended_mentions e (kind.Unsigned w) t = refl
extended_mentions e (kind.Signed w) t = refl

both_products : (p : ℕ) (k : Kind) (l r : CoreTerm) → p + (term_products l + term_products r) ≡ p + (term_products (extended k l) + term_products (extended k r))
both_products p k l r = ap (λ n. p + (n + term_products r)) (extended_products k l) ∙ ap (λ n. p + (term_products (extended k l) + n)) (extended_products k r)

operation_products : (o : Op) (j k : Kind) (l r : CoreTerm) → product_of o + (term_products l + term_products r) ≡ term_products (operation_of o j k l r)
operation_products op.Shl j k l r = refl
operation_products op.Shr j k l r = refl
operation_products op.Both j k l r = refl
operation_products op.Either j k l r = refl
operation_products op.Add j k l r = both_products 0 (wider j k) l r
operation_products op.Sub j k l r = both_products 0 (wider j k) l r
operation_products op.Mul j k l r = both_products 1 (wider j k) l r
operation_products op.And j k l r = both_products 0 (wider j k) l r
operation_products op.Or j k l r = both_products 0 (wider j k) l r
operation_products op.Xor j k l r = both_products 0 (wider j k) l r
operation_products op.Lt j k l r = both_products 0 (wider j k) l r
operation_products op.Gt j k l r = both_products 0 (wider j k) l r
operation_products op.Le j k l r = both_products 0 (wider j k) l r
operation_products op.Ge j k l r = both_products 0 (wider j k) l r
operation_products op.Eq j k l r = both_products 0 (wider j k) l r
operation_products op.Ne j k l r = both_products 0 (wider j k) l r

both_mention : (e : ℕ) (k : Kind) (l r : CoreTerm) → (term_mentions e l || term_mentions e r) ≡ (term_mentions e (extended k l) || term_mentions e (extended k r))
both_mention e k l r = ap (λ b. b || term_mentions e r) (extended_mentions e k l) ∙ ap (λ b. term_mentions e (extended k l) || b) (extended_mentions e k r)

pub operation_mentions : (e : ℕ) (o : Op) (j k : Kind) (l r : CoreTerm) → (term_mentions e l || term_mentions e r) ≡ term_mentions e (operation_of o j k l r)
operation_mentions e op.Shl j k l r = refl
operation_mentions e op.Shr j k l r = refl
operation_mentions e op.Both j k l r = refl
operation_mentions e op.Either j k l r = refl
operation_mentions e op.Add j k l r = both_mention e (wider j k) l r
operation_mentions e op.Sub j k l r = both_mention e (wider j k) l r
operation_mentions e op.Mul j k l r = both_mention e (wider j k) l r
operation_mentions e op.And j k l r = both_mention e (wider j k) l r
operation_mentions e op.Or j k l r = both_mention e (wider j k) l r
operation_mentions e op.Xor j k l r = both_mention e (wider j k) l r
operation_mentions e op.Lt j k l r = both_mention e (wider j k) l r
operation_mentions e op.Gt j k l r = both_mention e (wider j k) l r
operation_mentions e op.Le j k l r = both_mention e (wider j k) l r
operation_mentions e op.Ge j k l r = both_mention e (wider j k) l r
operation_mentions e op.Eq j k l r = both_mention e (wider j k) l r
operation_mentions e op.Ne j k l r = both_mention e (wider j k) l r

pub left_of : (a b : Truth) → a ≡ true → (a || b) ≡ true
left_of true b e = refl
left_of false b e = absurd (cc)

pub right_of : (a b : Truth) → b ≡ true → (a || b) ≡ true
right_of true b e = refl
right_of false b e = e

pub itself : (e : ℕ) → (e == e) ≡ true
itself e = grind (arith, nat_tests)

-- Operations of a part are operations of the whole.

form_wider : (Sees See : ℕ → Type 0) (Probes Probe_ Reads Read_ Writes Write_ : Reach → Type 0) → ((n : ℕ) → Sees n → See n) → ((r : Reach) → Probes r → Probe_ r) → ((r : Reach) → Reads r → Read_ r) → ((r : Reach) → Writes r → Write_ r)
    → (o : OperationForm) → FormIs Sees Probes Reads Writes o → FormIs See Probe_ Read_ Write_ o
form_wider Sees See Probes Probe_ Reads Read_ Writes Write_ sees probes reads writes (Constant word) h = tt
form_wider Sees See Probes Probe_ Reads Read_ Writes Write_ sees probes reads writes (Old register) h = sees register h
form_wider Sees See Probes Probe_ Reads Read_ Writes Write_ sees probes reads writes (Compute o a b) h = tt
form_wider Sees See Probes Probe_ Reads Read_ Writes Write_ sees probes reads writes (Convert inner to) h = tt
form_wider Sees See Probes Probe_ Reads Read_ Writes Write_ sees probes reads writes (Select test a b) h = tt
form_wider Sees See Probes Probe_ Reads Read_ Writes Write_ sees probes reads writes (Check ok fault) h = h
form_wider Sees See Probes Probe_ Reads Read_ Writes Write_ sees probes reads writes (Probe r fault) h = probes r h
form_wider Sees See Probes Probe_ Reads Read_ Writes Write_ sees probes reads writes (Read r) h = reads r h
form_wider Sees See Probes Probe_ Reads Read_ Writes Write_ sees probes reads writes (Write r value) h = writes r h
form_wider Sees See Probes Probe_ Reads Read_ Writes Write_ sees probes reads writes (Set register value) h = h

module _ (x : FormedBlock) (n a m b : ℕ) (from : n ≤ m) (within : m + b ≤ n + a) where
  abbrev access_wider : (r : Reach) → IsBlockAccess x m b r → IsBlockAccess x n a r
  access_wider r h = record { from = let f = h.from in omega (arith, f, from); below = let l = h.below in omega (arith, l, within); site = h.site; there = h.there; memory_is = h.memory_is }

  use_wider : (path : ℕ) (r : Reach) → IsLedUse x path m b r → IsLedUse x path n a r
  use_wider path r h = record { reaches = record { access = access_wider r h.reaches.access; banks_are = h.reaches.banks_are }; leads = h.leads }

-- What is next in each part.

module _ (scene : Scene) (lane : Lane) where
  pub next_first : (before : Accesses) (n a b : ℕ) → AreNext scene lane before n (a + b) → AreNext scene lane before n a
  next_first before n a b h = record {
    each = λ m from below. h.each m from (omega (arith, below));
    known = λ m from below. h.known m from (omega (arith, below));
    earlier = λ m e from below share. h.earlier m e from (omega (arith, below)) share;
    shares = λ m e from below share less. h.shares m e from (omega (arith, below)) share less;
  }

  pub next_second : (before between : Accesses) (n a b : ℕ) → AreNext scene lane before n (a + b) → HaveGiven lane before between n a → AreNext scene lane between (n + a) b
  next_second before between n a b h g = record {
    each = λ m from below. g.behind_them m from ∙ h.each m (omega (arith, from)) (omega (arith, below));
    known = λ m from below. h.known m (omega (arith, from)) (omega (arith, below));
    earlier = λ m e from below share. h.earlier m e (omega (arith, from)) (omega (arith, below)) share;
    shares = λ m e from below share less. by m e from below share less (cases_lt e n);
  }
    where
      by : (m e : ℕ) → n + a ≤ m → m < n + a + b → slice_get scene.shares.now m ≡ Some (Some e) → e < n + a → (e < n) ⊎ (n ≤ e) → lane.number < given_at_paths between e
      by m e from below share less (inl before_all) =
          subst (λ (i : ℕ). lane.number < i) (sym (g.before_them e before_all)) (h.shares m e (omega (arith, from)) (omega (arith, below)) share before_all)
      by m e from below share less (inr own) = subst (λ (i : ℕ). lane.number < i) (sym (g.own e own less)) (omega arith)

  pub given_none : (before after : Accesses) (n : ℕ) → after ≡ before → HaveGiven lane before after n 0
  given_none before after n same = record {
    own = λ m from below. absurd (never m from below);
    before_them = λ m less. ap (λ (a : Accesses). given_at_paths a m) same;
    behind_them = λ m more. ap (λ (a : Accesses). given_at_paths a m) same;
  }
    where
      never : (m : ℕ) → n ≤ m → m < n + 0 → ⊥
      never m from below = omega (arith, from, below)

  pub given_again : (before between after : Accesses) (n a b : ℕ) → HaveGiven lane before between n a → HaveGiven lane between after (n + a) b → HaveGiven lane before after n (a + b)
  given_again before between after n a b g h = record {
    own = λ m from below. by m from below (cases_lt m (n + a));
    before_them = λ m less. h.before_them m (omega (arith, less)) ∙ g.before_them m less;
    behind_them = λ m more. h.behind_them m (omega (arith, more)) ∙ g.behind_them m (omega (arith, more));
  }
    where
      by : (m : ℕ) → n ≤ m → m < n + (a + b) → (m < n + a) ⊎ (n + a ≤ m) → given_at_paths after m ≡ lane.number + 1
      by m from below (inl less) = h.before_them m less ∙ g.own m from less
      by m from below (inr behind) = h.own m behind (omega (arith, below))

module _ (x : FormedBlock) (scene : Scene) (lane : Lane) (current : List (Option ℕ)) where
  -- what stands behind a part
  pub stands_behind : (old middle new : Draft) (before between : Accesses) (n a b : ℕ) (Where : FormedBlock → Type 0) → FormsPart scene lane current old middle before between Where → Where x → Agrees x middle → Agrees x new
      → HaveGiven lane before between n a → ExpressionBegins x old new scene lane current before n (a + b) → ExpressionBegins x middle new scene lane current between (n + a) b
  stands_behind old middle new before between n a b Where f w at_middle at g s = record {
    agrees = at;
    started = started_later x old middle f.extends s.started;
    scope = scope_later x old middle scene lane current f.extends s.scope;
    noted = f.notes x at_middle s.started s.scope s.noted w;
    next = next_second scene lane before between n a b s.next g;
  }

  pub stands_first : (old middle new : Draft) (before : Accesses) (n a b : ℕ) → Agrees x middle → ExpressionBegins x old new scene lane current before n (a + b) → ExpressionBegins x old middle scene lane current before n a
  stands_first old middle new before n a b at s = record { agrees = at; started = s.started; scope = s.scope; noted = s.noted; next = next_first scene lane before n a b s.next }

  abbrev Counted : plain.Term → Type 0
  Counted t = (old new : Draft) (before after : Accesses) (n next v : ℕ) → MadeTerm scene lane current t old new before after n next v → n + term_accesses t < 2 ^ 32
      → ExpressionBegins x old new scene lane current before n (term_accesses t) → TermSuits x scene lane n t → CountsTerm x scene lane old new before after n t

  abbrev AllCounted : plain.Terms → Type 0
  AllCounted ts = (old new : Draft) (before after : Accesses) (n next : ℕ) (vs : List ℕ) → MadeTerms scene lane current ts old new before after n next vs → n + terms_accesses ts < 2 ^ 32
      → ExpressionBegins x old new scene lane current before n (terms_accesses ts) → TermsSuit x scene lane n ts × AreNumbers ts → CountsTerms x scene lane old new before after n ts

  -- a value that no access is in
  alone_counts : (old new : Draft) (before after : Accesses) (n : ℕ) (Is : OperationForm → Type 0) (p : ℕ) → Counts old new Is 0 nothing nothing → Counts old new Is p (ranged n 0 one_each) (ranged n 0 (use_of x scene lane.number))
  alone_counts old new before after n Is p h =
      counts_same old new Is Is 0 p nothing (ranged n 0 one_each) nothing (ranged n 0 (use_of x scene lane.number)) (λ o w. w) (omega arith) (λ m. ranged_none n one_each m) (λ m. ranged_none n (use_of x scene lane.number) m) h

  -- of two parts the accesses of the one come behind those of the other
  two_counts : (a b c : Draft) (n k l : ℕ) (First Second Is : OperationForm → Type 0) (p q : ℕ) → ((o : OperationForm) → First o → Is o) → ((o : OperationForm) → Second o → Is o)
      → Counts a b First p (ranged n k one_each) (ranged n k (use_of x scene lane.number)) → Counts b c Second q (ranged (n + k) l one_each) (ranged (n + k) l (use_of x scene lane.number))
      → Counts a c Is (p + q) (ranged n (k + l) one_each) (ranged n (k + l) (use_of x scene lane.number))
  two_counts a b c n k l First Second Is p q first second f g =
      counts_same a c Is Is (p + q) (p + q) _ (ranged n (k + l) one_each) _ (ranged n (k + l) (use_of x scene lane.number)) (λ o w. w) (omega arith) (λ m. ranged_sum n k l one_each m) (λ m. ranged_sum n k l (use_of x scene lane.number) m)
      (counts_again a b c Is p q (ranged n k one_each) (ranged (n + k) l one_each) (ranged n k (use_of x scene lane.number)) (ranged (n + k) l (use_of x scene lane.number))
      (counts_same a b First Is p p _ _ _ _ first (omega arith) (λ m. refl) (λ m. refl) f) (counts_same b c Second Is q q _ _ _ _ second (omega arith) (λ m. refl) (λ m. refl) g))

  -- and values behind them
  behind_counts : (a b c : Draft) (Is : OperationForm → Type 0) (p q : ℕ) (f u : ℕ → ℕ) → Counts a b Is p f u → Counts b c Is q nothing nothing → Counts a c Is (p + q) f u
  behind_counts a b c Is p q f u h k =
      counts_same a c Is Is (p + q) (p + q) (λ m. f m + nothing m) f (λ m. u m + nothing m) u (λ o w. w) (omega arith) (λ m. none (f m)) (λ m. none (u m)) (counts_again a b c Is p q f nothing u nothing h k)
    where
      none : (v : ℕ) → v + 0 ≡ v
      none v = omega arith

  mention_wider : (M N : ℕ → Type 0) → ((e : ℕ) → M e → N e) → (register : ℕ) → IsMentioned scene lane M register → IsMentioned scene lane N register
  mention_wider M N more register h = record { entity = h.entity; mentioned = more h.entity h.mentioned; register_is = h.register_is }

  -- operations of a part with these mentions and accesses
  part_wider : (M N : ℕ → Type 0) (n a m b : ℕ) → ((e : ℕ) → M e → N e) → n ≤ m → m + b ≤ n + a → (o : OperationForm)
      → FormIs (λ register. IsMentioned scene lane M register) (λ r. IsBlockAccess x m b r) (λ r. IsLedUse x lane.number m b r) (λ r. ⊥) o
      → FormIs (λ register. IsMentioned scene lane N register) (λ r. IsBlockAccess x n a r) (λ r. IsLedUse x lane.number n a r) (λ r. ⊥) o
  part_wider M N n a m b more from within o h =
      form_wider _ _ _ _ _ _ _ _ (λ register k. mention_wider M N more register k) (λ r k. access_wider x n a m b from within r k) (λ r k. use_wider x n a m b from within lane.number r k) (λ r k. k) o h

  abbrev pub Mentions : (n : ℕ) → plain.Term → ℕ → Type 0
  Mentions n t entity = term_mentions entity (core_term (known_in scene) n t) ≡ true

  abbrev pub AllMention : (n : ℕ) → plain.Terms → ℕ → Type 0
  AllMention n ts entity = core_terms_mention entity (core_terms (known_in scene) n ts) ≡ true

  abbrev pub NamedMention : (n : ℕ) → Ref → plain.Terms → ℕ → Type 0
  NamedMention n r ts entity = target_mentions entity (target_to (way_of (known_in scene) r) (core_terms (known_in scene) n ts)) ≡ true

  counted_none : AllCounted plain.no_terms
  counted_none old new before after n next vs m few s w = record {
    counts = alone_counts old new before after n _ 0 (counts_none old new _ m.still);
    given = given_none scene lane before after n m.same;
  }

  counted_then : (t : plain.Term) (ts : plain.Terms) → Counted t → AllCounted ts → AllCounted (plain.term_then t ts)
  counted_then t ts one rest old new before after n next vs m few s w = record {
    counts =
        two_counts old m.middle new n (term_accesses t) (terms_accesses ts) _ _ (IsOfTerms x scene lane n (plain.term_then t ts)) (term_products (core_term (known_in scene) n t)) (terms_products (core_terms (known_in scene) (n + term_accesses t) ts))
        (λ o h. part_wider (Mentions n t) (AllMention n (plain.term_then t ts)) n (term_accesses t + terms_accesses ts) n (term_accesses t) (λ e k. left_of _ _ k) (omega arith) (omega arith) o h)
        (λ o h. part_wider (AllMention (n + term_accesses t) ts) (AllMention n (plain.term_then t ts)) n (term_accesses t + terms_accesses ts) (n + term_accesses t) (terms_accesses ts) (λ e k. right_of (term_mentions e (core_term (known_in scene) n t)) _ k) (omega arith) (omega arith) o h)
        f.counts g.counts;
    given = given_again scene lane before m.between after n (term_accesses t) (terms_accesses ts) f.given g.given;
  }
    where
      own : m.own ≡ n + term_accesses t
      own = numbered scene lane current t old m.middle before m.between n m.own m.a m.first (omega (arith, few))

      moved : MadeTerms scene lane current ts m.middle new m.between after (n + term_accesses t) next m.more
      moved = subst (λ (i : ℕ). MadeTerms scene lane current ts m.middle new m.between after i next m.more) own m.rest

      part : FormsPart scene lane current old m.middle before m.between (λ y. TermSuits y scene lane n t)
      part = (formed scene lane current t old m.middle before m.between n m.own m.a m.first (omega (arith, few))).part

      at_middle : Agrees x m.middle
      at_middle = agrees_before x m.middle new (all_formed scene lane current ts m.middle new m.between after (n + term_accesses t) next m.more moved (omega (arith, few))).part.extends s.agrees

      f : CountsTerm x scene lane old m.middle before m.between n t
      f = one old m.middle before m.between n m.own m.a m.first (omega (arith, few)) (stands_first old m.middle new before n (term_accesses t) (terms_accesses ts) at_middle s) w.0.0

      g : CountsTerms x scene lane m.middle new m.between after (n + term_accesses t) ts
      g = rest m.middle new m.between after (n + term_accesses t) next m.more moved (omega (arith, few))
          (stands_behind old m.middle new before m.between n (term_accesses t) (terms_accesses ts) _ part w.0.0 at_middle s.agrees f.given s) (w.0.1, w.1.1)

  counted_two : (place : Place) (k : Option Kind) (o : Op) (l r : plain.Term) → Counted l → Counted r → Counted (plain.term place k (plain.applied o l r))
  counted_two place k o l r one two old new before after n next v m few s w = record {
    counts =
        counts_same old new _ _ (term_products left + term_products right + product_of o) (term_products whole) _ _ _ _ (λ p h. h) (let e = operation_products o (kind_found l) (kind_found r) left right in omega (arith, e)) (λ i. refl) (λ i. refl)
        (behind_counts old m.end new (IsOfTerm x scene lane n (plain.term place k (plain.applied o l r))) (term_products left + term_products right) (product_of o) _ _
        (two_counts old m.middle m.end n (term_accesses l) (term_accesses r) _ _ (IsOfTerm x scene lane n (plain.term place k (plain.applied o l r))) (term_products left) (term_products right)
        (λ p h. part_wider (Mentions n l) (Mentions n (plain.term place k (plain.applied o l r))) n (term_accesses l + term_accesses r) n (term_accesses l) (λ e q. sym (operation_mentions e o (kind_found l) (kind_found r) left right) ∙ left_of _ _ q) (omega arith) (omega arith) p h)
        (λ p h. part_wider (Mentions (n + term_accesses l) r) (Mentions n (plain.term place k (plain.applied o l r))) n (term_accesses l + term_accesses r) (n + term_accesses l) (term_accesses r) (λ e q. sym (operation_mentions e o (kind_found l) (kind_found r) left right) ∙ right_of (term_mentions e left) _ q) (omega arith) (omega arith) p h)
        f.counts g.counts)
        (operation_counts _ _ _ _ o l r m.a m.b m.end new v m.operation));
    given = given_again scene lane before m.between after n (term_accesses l) (term_accesses r) f.given g.given;
  }
    where
      left : CoreTerm
      left = core_term (known_in scene) n l

      right : CoreTerm
      right = core_term (known_in scene) (n + term_accesses l) r

      whole : CoreTerm
      whole = operation_of o (kind_found l) (kind_found r) left right

      own : m.own ≡ n + term_accesses l
      own = numbered scene lane current l old m.middle before m.between n m.own m.a m.first (omega (arith, few))

      moved : MadeTerm scene lane current r m.middle m.end m.between after (n + term_accesses l) next m.b
      moved = subst (λ (i : ℕ). MadeTerm scene lane current r m.middle m.end m.between after i next m.b) own m.second

      part : FormsPart scene lane current old m.middle before m.between (λ y. TermSuits y scene lane n l)
      part = (formed scene lane current l old m.middle before m.between n m.own m.a m.first (omega (arith, few))).part

      at_end : Agrees x m.end
      at_end = agrees_before x m.end new (operation_forms o l r (kind_or_first k) m.a m.b m.end new v m.operation).extends s.agrees

      at_middle : Agrees x m.middle
      at_middle = agrees_before x m.middle m.end (formed scene lane current r m.middle m.end m.between after (n + term_accesses l) next m.b moved (omega (arith, few))).part.extends at_end

      here : ExpressionBegins x old m.end scene lane current before n (term_accesses l + term_accesses r)
      here = record { agrees = at_end; started = s.started; scope = s.scope; noted = s.noted; next = s.next }

      f : CountsTerm x scene lane old m.middle before m.between n l
      f = one old m.middle before m.between n m.own m.a m.first (omega (arith, few)) (stands_first old m.middle m.end before n (term_accesses l) (term_accesses r) at_middle here) w.0.0

      g : CountsTerm x scene lane m.middle m.end m.between after (n + term_accesses l) r
      g = two m.middle m.end m.between after (n + term_accesses l) next m.b moved (omega (arith, few))
          (stands_behind old m.middle m.end before m.between n (term_accesses l) (term_accesses r) _ part w.0.0 at_middle at_end f.given here) w.0.1

  counted_one : (place : Place) (k : Option Kind) (inner : plain.Term) (to : Kind) → Counted inner → Counted (plain.term place k (plain.converted inner to))
  counted_one place k inner to one old new before after n next v m few s w = record {
    counts =
        counts_same old new _ (IsOfTerm x scene lane n (plain.term place k (plain.converted inner to))) (term_products (core_term (known_in scene) n inner) + 0) (term_products (core_term (known_in scene) n inner)) _ _ _ _ (λ p h. h) (omega arith) (λ i. refl) (λ i. refl)
        (behind_counts old m.middle new (IsOfTerm x scene lane n inner) (term_products (core_term (known_in scene) n inner)) 0 _ _ f.counts (converted_counts _ _ _ _ inner to m.a m.middle new v m.converts));
    given = f.given;
  }
    where
      at_middle : Agrees x m.middle
      at_middle = agrees_before x m.middle new (converted_forms inner to m.a m.middle new v m.converts).extends s.agrees

      f : CountsTerm x scene lane old m.middle before after n inner
      f = one old m.middle before after n next m.a m.operand few (record { agrees = at_middle; started = s.started; scope = s.scope; noted = s.noted; next = s.next }) w.0

  -- Reads: the values of the element first, then the read itself.

  module _ (place : Place) (k : Option Kind) (form : plain.TermForm) (memory : ℕ) (old middle new : Draft) (before between after : Accesses) (n count : ℕ) (M N : ℕ → Type 0) (p : ℕ) (aim : Aim) (v : ℕ)
      (own : aim.number ≡ n + count) (more : (e : ℕ) → M e → N e)
      (m : MadeRead scene lane (plain.term place k form) memory aim middle new between after v)
      (s : ExpressionBegins x middle new scene lane current between (n + count) 1) (suits : ReadSuits x scene lane memory (n + count) place form (kind_or_first k))
      (f : Counts old middle (FormIs (λ register. IsMentioned scene lane M register) (λ r. IsBlockAccess x n count r) (λ r. IsLedUse x lane.number n count r) (λ r. ⊥)) p (ranged n count one_each) (ranged n count (use_of x scene lane.number)))
      (g : HaveGiven lane before between n count) where
    abbrev See : ℕ → Type 0
    See register = IsMentioned scene lane N register

    stood : ExpressionBegins x middle new scene lane current between aim.number 1
    stood = subst (λ (i : ℕ). ExpressionBegins x middle new scene lane current between i 1) (sym own) s

    suited : ReadSuits x scene lane memory aim.number place form (kind_or_first k)
    suited = subst (λ (i : ℕ). ReadSuits x scene lane memory i place form (kind_or_first k)) (sym own) suits

    read_part : Counts middle new (IsOne x lane.number (n + count) See) 0 (ranged (n + count) 1 one_each) (ranged (n + count) 1 (use_of x scene lane.number))
    read_part =
        subst (λ (i : ℕ). Counts middle new (IsOne x lane.number i See) 0 (ranged i 1 one_each) (ranged i 1 (use_of x scene lane.number))) own
        (read_counts x scene lane current (plain.term place k form) memory aim See middle new between after v m stood suited.access)

    given_part : HaveGiven lane between after (n + count) 1
    given_part = subst (λ (i : ℕ). HaveGiven lane between after i 1) own (read_gives x scene lane current (plain.term place k form) memory aim See middle new between after v m stood suited.access)

    abbrev IsWhole : (all : ℕ) → OperationForm → Type 0
    IsWhole all = FormIs See (λ r. IsBlockAccess x n all r) (λ r. IsLedUse x lane.number n all r) (λ r. ⊥)

    read_behind : Counts old new (IsWhole (suc count)) p (ranged n (suc count) one_each) (ranged n (suc count) (use_of x scene lane.number))
    read_behind =
        subst (λ (c : ℕ). Counts old new (IsWhole c) p (ranged n c one_each) (ranged n c (use_of x scene lane.number))) (add-one count)
        (counts_same old new _ (IsWhole (count + 1)) (p + 0) p _ _ _ _ (λ o h. h) (omega arith) (λ i. refl) (λ i. refl)
        (two_counts old middle new n count 1 _ (IsOne x lane.number (n + count) See) (IsWhole (count + 1)) p 0
        (λ o h. part_wider M N n (count + 1) n count more (omega arith) (omega arith) o h)
        (λ o h. form_wider See See _ _ _ _ _ _ (λ register w. w) (λ r w. access_wider x n (count + 1) (n + count) 1 (omega arith) (omega arith) r w) (λ r w. use_wider x n (count + 1) (n + count) 1 (omega arith) (omega arith) lane.number r w) (λ r w. w) o h)
        f read_part))

    given_behind : HaveGiven lane before after n (suc count)
    given_behind = subst (λ (c : ℕ). HaveGiven lane before after n c) (add-one count) (given_again scene lane before between after n count 1 g given_part)

  -- Variables that keep offsets are mentioned behind the indices, and count nothing.

  kept_each : (N : ℕ → Type 0) (hs : List Hidden) → ((e : ℕ) → core_terms_mention e (kept_terms hs) ≡ true → N e) → AllByRecursion (HiddenSuits x scene lane) hs
      → AllByRecursion (λ h. IsMentioned scene lane N (hidden_register scene lane h)) hs
  kept_each N [] more suits = tt
  kept_each N (h ∷ hs) more suits = (
    record {
      entity = h.entity;
      mentioned = more h.entity (left_of (h.entity == h.entity) (core_terms_mention h.entity (kept_terms hs)) (itself h.entity));
      register_is = ap (λ (c : Option Counter). register_seen c (held_at scene.held.now h.entity) lane) (sym suits.0.counter);
    },
    kept_each N hs (λ e q. more e (right_of (e == h.entity) (core_terms_mention e (kept_terms hs)) q)) suits.1,
  )

  pub way_counted : (way : Option Way) (memory first n count : ℕ) (ts : CoreTerms) (old new : Draft) (steps : List ReachStep) → WaySuits x scene lane memory first way → MadeWay scene lane current old new first way steps
      → Counts old new (FormIs (λ register. IsMentioned scene lane (λ entity. target_mentions entity (target_to way ts) ≡ true) register) (λ r. IsBlockAccess x n count r) (λ r. IsLedUse x lane.number n count r) (λ r. ⊥)) 0 nothing nothing
  way_counted None memory first n count ts old new steps suits m = counts_none old new _ m.0
  way_counted (Some w) memory first n count ts old new steps suits m =
      way_counts (λ register. IsMentioned scene lane (λ entity. target_mentions entity (target_to (Some w) ts) ≡ true) register) (λ r. IsBlockAccess x n count r) (λ r. IsLedUse x lane.number n count r) (λ r. ⊥)
      scene lane current (Some w) first (kept_each (λ entity. target_mentions entity (target_to (Some w) ts) ≡ true) w.hidden (λ e q. way_mentions w e ts q) suits.0) old new steps m

  -- indices with the steps of the way of what they name
  pub through_counted : (r : Ref) (ts : plain.Terms) → AllCounted ts → (old named new : Draft) (before after : Accesses) (n : ℕ) (aim : Aim) → MadeTerms scene lane current ts old named before after n aim.number aim.indices
      → MadeWay scene lane current named new (first_view scene r) (way_of (known_in scene) r) aim.steps → n + terms_accesses ts < 2 ^ 32 → ExpressionBegins x old new scene lane current before n (terms_accesses ts) → NamedSuits x scene lane n r ts
      → CountsThrough x scene lane old new before after n r ts
  through_counted r ts all old named new before after n aim m steps few s w = record {
    counts =
        counts_same old new (IsOfNamed x scene lane n r ts) (IsOfNamed x scene lane n r ts) (terms_products (core_terms (known_in scene) n ts) + 0) (target_products (target_to (way_of (known_in scene) r) (core_terms (known_in scene) n ts))) _ _ _ _
        (λ o h. h) (let e = named_products (way_of (known_in scene) r) (core_terms (known_in scene) n ts) in omega (arith, e)) (λ i. refl) (λ i. refl)
        (behind_counts old named new (IsOfNamed x scene lane n r ts) (terms_products (core_terms (known_in scene) n ts)) 0 _ _ indices
        (way_counted (way_of (known_in scene) r) (memory_of (known_in scene) r) (first_view scene r) n (terms_accesses ts) (core_terms (known_in scene) n ts) named new aim.steps w.1.1 steps));
    given = f.given;
  }
    where
      way : FormsPart scene lane current named new after after (λ y. WaySuits y scene lane (memory_of (known_in scene) r) (first_view scene r) (way_of (known_in scene) r))
      way = way_part scene lane current (way_of (known_in scene) r) (memory_of (known_in scene) r) (first_view scene r) named new after aim.steps steps

      f : CountsTerms x scene lane old named before after n ts
      f = all old named before after n aim.number aim.indices m few (record { agrees = agrees_before x named new way.extends s.agrees; started = s.started; scope = s.scope; noted = s.noted; next = s.next }) w.0

      indices : Counts old named (IsOfNamed x scene lane n r ts) (terms_products (core_terms (known_in scene) n ts)) (ranged n (terms_accesses ts) one_each) (ranged n (terms_accesses ts) (use_of x scene lane.number))
      indices =
          counts_same old named (IsOfTerms x scene lane n ts) (IsOfNamed x scene lane n r ts) (terms_products (core_terms (known_in scene) n ts)) (terms_products (core_terms (known_in scene) n ts)) _ _ _ _
          (λ o h. part_wider (AllMention n ts) (NamedMention n r ts) n (terms_accesses ts) n (terms_accesses ts) (λ e q. named_mentions (way_of (known_in scene) r) e (core_terms (known_in scene) n ts) q) (omega arith) (omega arith) o h)
          (omega arith) (λ i. refl) (λ i. refl) f.counts

  counted_access : (place : Place) (k : Option Kind) (r : Ref) (ts : plain.Terms) → AllCounted ts → Counted (plain.term place k (plain.accessed r ts))
  counted_access place k r ts all old new before after n next v m few s w = record {
    counts =
        read_behind place k (plain.accessed r ts) (memory_of (known_in scene) r) old m.middle new before m.between after n (terms_accesses ts) (NamedMention n r ts) (Mentions n (plain.term place k (plain.accessed r ts)))
        (target_products (target_to (way_of (known_in scene) r) (core_terms (known_in scene) n ts))) m.aim v own (λ e q. q) m.reads behind w.1.1 f.counts f.given;
    given =
        given_behind place k (plain.accessed r ts) (memory_of (known_in scene) r) old m.middle new before m.between after n (terms_accesses ts) (NamedMention n r ts) (Mentions n (plain.term place k (plain.accessed r ts)))
        (target_products (target_to (way_of (known_in scene) r) (core_terms (known_in scene) n ts))) m.aim v own (λ e q. q) m.reads behind w.1.1 f.counts f.given;
  }
    where
      own : m.aim.number ≡ n + terms_accesses ts
      own = all_numbered scene lane current ts old m.named before m.between n m.aim.number m.aim.indices m.indices (omega (arith, few))

      through : FormsAim scene lane current old m.middle before m.between (memory_of (known_in scene) r) m.aim (λ y. NamedSuits y scene lane n r ts)
      through = through_made scene lane current ts r n old m.named m.middle before m.between m.aim m.row (all_formed scene lane current ts old m.named before m.between n m.aim.number m.aim.indices m.indices (omega (arith, few))) m.steps

      at_middle : Agrees x m.middle
      at_middle =
          agrees_before x m.middle new (read_forms scene lane current (plain.term place k (plain.accessed r ts)) (memory_of (known_in scene) r) m.aim m.middle new m.between after v (kind_or_first k) m.reads).part.extends s.agrees

      whole : ExpressionBegins x old new scene lane current before n (terms_accesses ts + 1)
      whole = subst (λ (c : ℕ). ExpressionBegins x old new scene lane current before n c) (sym (add-one (terms_accesses ts))) s

      f : CountsThrough x scene lane old m.middle before m.between n r ts
      f = through_counted r ts all old m.named m.middle before m.between n m.aim m.indices m.steps (omega (arith, few)) (stands_first old m.middle new before n (terms_accesses ts) 1 at_middle whole) (w.0, w.1.0)

      behind : ExpressionBegins x m.middle new scene lane current m.between (n + terms_accesses ts) 1
      behind = stands_behind old m.middle new before m.between n (terms_accesses ts) 1 _ through.part (w.0, w.1.0) at_middle s.agrees f.given whole

  counted_bank : (place : Place) (k : Option Kind) (r : Ref) (bank : ℕ) (at : Place) (t : plain.Term) → Counted t → Counted (plain.term place k (plain.in_bank r bank at t))
  counted_bank place k r bank at t one old new before after n next v m few s w = record {
    counts =
        read_behind place k (plain.in_bank r bank at t) (memory_of (known_in scene) r) old m.middle new before m.between after n (term_accesses t) (Mentions n t) (Mentions n (plain.term place k (plain.in_bank r bank at t))) (term_products (core_term (known_in scene) n t)) m.aim v own (λ e q. q) m.reads behind w.1 f.counts f.given;
    given =
        given_behind place k (plain.in_bank r bank at t) (memory_of (known_in scene) r) old m.middle new before m.between after n (term_accesses t) (Mentions n t) (Mentions n (plain.term place k (plain.in_bank r bank at t))) (term_products (core_term (known_in scene) n t)) m.aim v own (λ e q. q) m.reads behind w.1 f.counts f.given;
  }
    where
      own : m.aim.number ≡ n + term_accesses t
      own = numbered scene lane current t old m.middle before m.between n m.aim.number m.value m.row (omega (arith, few))

      part : FormsPart scene lane current old m.middle before m.between (λ y. TermSuits y scene lane n t)
      part = (formed scene lane current t old m.middle before m.between n m.aim.number m.value m.row (omega (arith, few))).part

      at_middle : Agrees x m.middle
      at_middle =
          agrees_before x m.middle new (read_forms scene lane current (plain.term place k (plain.in_bank r bank at t)) (memory_of (known_in scene) r) m.aim m.middle new m.between after v (kind_or_first k) m.reads).part.extends s.agrees

      whole : ExpressionBegins x old new scene lane current before n (term_accesses t + 1)
      whole = subst (λ (c : ℕ). ExpressionBegins x old new scene lane current before n c) (sym (add-one (term_accesses t))) s

      f : CountsTerm x scene lane old m.middle before m.between n t
      f = one old m.middle before m.between n m.aim.number m.value m.row (omega (arith, few)) (stands_first old m.middle new before n (term_accesses t) 1 at_middle whole) w.0.0

      behind : ExpressionBegins x m.middle new scene lane current m.between (n + term_accesses t) 1
      behind = stands_behind old m.middle new before m.between n (term_accesses t) 1 _ part w.0.0 at_middle s.agrees f.given whole

  counted_number : (place : Place) (k : Option Kind) (negative : Truth) (z : ℕ) → Counted (plain.term place k (plain.number negative z))
  counted_number place k negative z old new before after n next v m few s w = record {
    counts = alone_counts old new before after n _ 0 (number_counts _ _ _ _ (kind_or_first k) negative z old new v m.part);
    given = given_none scene lane before after n m.same;
  }

  counted_truth : (place : Place) (k : Option Kind) (b : Truth) → Counted (plain.term place k (plain.truth_value b))
  counted_truth place k b old new before after n next v m few s w = record {
    counts = alone_counts old new before after n _ 0 (word_counts _ _ _ _ old new v (truth b) m.part);
    given = given_none scene lane before after n m.same;
  }

  counted_variable : (place : Place) (k : Option Kind) (r : Ref) → Counted (plain.term place k (plain.named r))
  counted_variable place k r old new before after n next v m few s w = record {
    counts =
        alone_counts old new before after n _ 0
        (variable_counts _ _ _ _ (counter_of scene (entity_number r.entity)) (held_at scene.held.now (entity_number r.entity)) lane current (kind_or_first k)
        (record { entity = entity_number r.entity; mentioned = itself (entity_number r.entity); register_is = refl }) old new v m.part);
    given = given_none scene lane before after n m.same;
  }

  mutual
    pub counted : (t : plain.Term) → Counted t
    counted (plain.term place k (plain.number negative z)) = counted_number place k negative z
    counted (plain.term place k (plain.truth_value b)) = counted_truth place k b
    counted (plain.term place k (plain.named r)) = counted_variable place k r
    counted (plain.term place k (plain.accessed r ts)) = counted_access place k r ts (all_counted ts)
    counted (plain.term place k (plain.in_bank r bank at t)) = counted_bank place k r bank at t (counted t)
    counted (plain.term place k (plain.applied o l r)) = counted_two place k o l r (counted l) (counted r)
    counted (plain.term place k (plain.converted inner to)) = counted_one place k inner to (counted inner)

    pub all_counted : (ts : plain.Terms) → AllCounted ts
    all_counted plain.no_terms = counted_none
    all_counted (plain.term_then t ts) = counted_then t ts (counted t) (all_counted ts)

  pub named_counted : (r : Ref) (ts : plain.Terms) (old new : Draft) (before after : Accesses) (n : ℕ) (aim : Aim) → MadeThrough scene lane current r ts old new before after n aim → n + terms_accesses ts < 2 ^ 32
      → ExpressionBegins x old new scene lane current before n (terms_accesses ts) → NamedSuits x scene lane n r ts → CountsThrough x scene lane old new before after n r ts
  named_counted r ts old new before after n aim m few s w = through_counted r ts (all_counted ts) old m.middle new before after n aim m.indices m.steps few s w
