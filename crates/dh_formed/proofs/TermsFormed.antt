-- Expressions are formed: by recursion on the expression, each part behind those before it.
use Rattle.std.proofs.Common.{◌≡◌, ℕ, suc, ◌+◌, ◌^◌, ◌<◌, List, Some, None, refl, sym, ap, ◌∙◌, subst, arith, length}
use Rattle.std.specs.Prelude.{Bool as Truth, true, false, [], ◌∷◌, Option}
use Rattle.std.specs.List.{AllByRecursion}
use Rattle.dh_base.specs.declared.places.Place.{Place}
use Rattle.dh_value.specs.declared.kinds.Kind.{Kind}
use Rattle.dh_value.specs.declared.kinds.Kind.TheVariants as kind
use Rattle.dh_value.specs.declared.operators.Op.{Op}
use Rattle.dh_value.specs.Words.{IsInteger, IsKind, IsWord}
use Rattle.dh_value.specs.Operations.{truth}
use Rattle.dh_tree.specs.declared.trees.counters.Counter.{Counter}
use Rattle.dh_tree.specs.declared.trees.expressions.Ref.{Ref}
use Rattle.dh_tree.specs.Elements.{dims_at}
use Rattle.dh_tree.specs.PlainTrees as plain
use Rattle.dh_meaning.specs.AccessNumbers.{term_accesses, terms_accesses}
use Rattle.dh_meaning.specs.Bindings.{kind_or_first}
use Rattle.dh_meaning.specs.CoreOf.{dims_by, entity_number, memory_of, way_of}
use Rattle.dh_meaning.specs.Ways.{Hidden, Way}
use Rattle.dh_code.specs.declared.places.VariableSlots.{VariableSlots}
use Rattle.dh_code.specs.Slots.{held_at}
use Rattle.dh_plan.specs.declared.operations.ReachStep.{ReachStep}
use Rattle.dh_plan.specs.Blocks.{kind_at}
use Rattle.dh_plan.specs.Ordered.{offsets_taken}
use Rattle.dh_expressions.specs.declared.accesses.Accesses.{Accesses}
use Rattle.dh_expressions.specs.declared.drafts.Draft.{Draft}
use Rattle.dh_expressions.specs.declared.elements.Aim.{Aim}
use Rattle.dh_expressions.specs.declared.scenes.Lane.{Lane}
use Rattle.dh_expressions.specs.declared.scenes.Scene.{Scene}
use Rattle.dh_expressions.specs.Drafted.{Extends}
use Rattle.dh_expressions.specs.Evaluated.{counter_of, hidden_register}
use Rattle.dh_expressions.specs.Named.{first_view, known_in}
use Rattle.dh_formed.specs.Formed.{Agrees, AimSuits, AreNumbers, FormedBlock, FormsAim, FormsPart, FormsTerm, FormsTerms, FormsValue, HasKind, HasNumbers, HiddenSuits, AreNotedReads, IsNumberThere, IsRowForm, IsScope, NamedSuits, OperandsSuit, ReadSuits, RowSuits, Started, TermSuits, TermsSuit, WaySuits, VariableSuits, count_of_terms}
use Rattle.dh_expressions.specs.MadeTerms.{MadeHidden, MadeIndices, MadeTerm, MadeTerms, MadeThrough, MadeWay, number_behind}
use Rattle.dh_expressions.specs.MadeValues.{MadeBy, MadeShown}
use Rattle.dh_expressions.specs.Shown.{kind_written, register_at}
use Rattle.dh_formed.proofs.AccessesFormed.{noted_later, scope_later}
use Rattle.dh_formed.proofs.ElementsFormed.{WhereRead, all_weaker, number_later, read_forms}
use Rattle.dh_formed.proofs.IteratorsFormed.{iterator_forms}
use Rattle.dh_expressions.proofs.Pushing.{extends_again, extends_self}
use Rattle.dh_formed.proofs.ValuesFormed.{ShowsThere, agrees_before, constant_forms, converted_forms, forms_again, forms_none, kind_later, kind_same, number_forms, operation_forms, shown_forms, started_later}
use Rattle.dh_formed.proofs.WaysFormed.{memory_aim, way_aim}

-- Numbers of accesses.

behind_is : (number own : ℕ) → number ≡ own → own + 1 < 2 ^ 32 → number_behind number ≡ own + 1
behind_is number own is few = grind (arith, is, few)

module _ (scene : Scene) (lane : Lane) (current : List (Option ℕ)) where
  -- the number of the access behind an expression, where the numbers are few
  abbrev Numbered : plain.Term → Type 0
  Numbered t = (old new : Draft) (before after : Accesses) (n next v : ℕ) → MadeTerm scene lane current t old new before after n next v → n + term_accesses t < 2 ^ 32 → next ≡ n + term_accesses t

  abbrev AllNumbered : plain.Terms → Type 0
  AllNumbered ts = (old new : Draft) (before after : Accesses) (n next : ℕ) (vs : List ℕ) → MadeTerms scene lane current ts old new before after n next vs → n + terms_accesses ts < 2 ^ 32 → next ≡ n + terms_accesses ts

  numbered_then : (t : plain.Term) (ts : plain.Terms) → Numbered t → AllNumbered ts → AllNumbered (plain.term_then t ts)
  numbered_then t ts one rest old new before after n next vs m few =
      let own = one old m.middle before m.between n m.own m.a m.first (omega (arith, few)) in
      rest m.middle new m.between after m.own next m.more m.rest (omega (arith, own, few)) ∙ omega (arith, own)

  numbered_two : (place : Place) (k : Option Kind) (o : Op) (l r : plain.Term) → Numbered l → Numbered r → Numbered (plain.term place k (plain.applied o l r))
  numbered_two place k o l r one two old new before after n next v m few =
      let own = one old m.middle before m.between n m.own m.a m.first (omega (arith, few)) in
      two m.middle m.end m.between after m.own next m.b m.second (omega (arith, own, few)) ∙ omega (arith, own)

  numbered_access : (place : Place) (k : Option Kind) (r : Ref) (ts : plain.Terms) → AllNumbered ts → Numbered (plain.term place k (plain.accessed r ts))
  numbered_access place k r ts all old new before after n next v m few =
      m.next_is ∙ (behind_is m.aim.number (n + terms_accesses ts) (all old m.named before m.between n m.aim.number m.aim.indices m.indices (omega (arith, few))) (omega (arith, few)) ∙ omega arith)

  numbered_bank : (place : Place) (k : Option Kind) (r : Ref) (bank : ℕ) (at : Place) (t : plain.Term) → Numbered t → Numbered (plain.term place k (plain.in_bank r bank at t))
  numbered_bank place k r bank at t one old new before after n next v m few =
      m.next_is ∙ (behind_is m.aim.number (n + term_accesses t) (one old m.middle before m.between n m.aim.number m.value m.row (omega (arith, few))) (omega (arith, few)) ∙ omega arith)

  mutual
    pub numbered : (t : plain.Term) → Numbered t
    numbered (plain.term place k (plain.number negative z)) = λ old new before after n next v m few. m.next_is ∙ omega arith
    numbered (plain.term place k (plain.truth_value b)) = λ old new before after n next v m few. m.next_is ∙ omega arith
    numbered (plain.term place k (plain.named r)) = λ old new before after n next v m few. m.next_is ∙ omega arith
    numbered (plain.term place k (plain.accessed r ts)) = numbered_access place k r ts (all_numbered ts)
    numbered (plain.term place k (plain.in_bank r bank at t)) = numbered_bank place k r bank at t (numbered t)
    numbered (plain.term place k (plain.applied o l r)) = numbered_two place k o l r (numbered l) (numbered r)
    numbered (plain.term place k (plain.converted inner to)) = λ old new before after n next v m few. numbered inner old m.middle before after n next m.a m.operand few

    pub all_numbered : (ts : plain.Terms) → AllNumbered ts
    all_numbered plain.no_terms = λ old new before after n next vs m few. m.next_is ∙ omega arith
    all_numbered (plain.term_then t ts) = numbered_then t ts (numbered t) (all_numbered ts)

  -- Parts put together.

  abbrev Part : (old new : Draft) → (before after : Accesses) → (Where : FormedBlock → Type 0) → Type 0
  Part old new before after Where = FormsPart scene lane current old new before after Where

  -- one part behind the other, where the second may need what the first gives
  part_again : (a b c : Draft) (p q r : Accesses) (First Second Where : FormedBlock → Type 0) → Part a b p q First → Part b c q r Second
      → ((x : FormedBlock) → Where x → First x)
      → ((x : FormedBlock) → Agrees x b → Started x a → IsScope x a scene lane current → AreNotedReads x a p → Where x → Second x)
      → Part a c p r Where
  part_again a b c p q r First Second Where f g first second = record {
    extends = extends_again a b c f.extends g.extends;
    forms = λ x at s sc no w.
        let before = agrees_before x b c g.extends at in
        forms_again x a b c g.extends (f.forms x before s sc no (first x w))
        (g.forms x at (started_later x a b f.extends s) (scope_later x a b scene lane current f.extends sc) (f.notes x before s sc no (first x w)) (second x before s sc no w));
    notes = λ x at s sc no w.
        let before = agrees_before x b c g.extends at in
        g.notes x at (started_later x a b f.extends s) (scope_later x a b scene lane current f.extends sc) (f.notes x before s sc no (first x w)) (second x before s sc no w);
  }

  -- values that note nothing are parts
  part_value : (a b : Draft) (p q : Accesses) (v : ℕ) (Where : FormedBlock → Type 0) (kind : FormedBlock → Kind) → q ≡ p → FormsValue a b v Where kind → Part a b p q Where
  part_value a b p q v Where kind same f = record {
    extends = f.extends;
    forms = λ x at s sc no w. f.forms x at s w;
    notes = λ x at s sc no w. subst (λ (o : Accesses). AreNotedReads x b o) (sym same) (noted_later x a b p f.extends no);
  }

  part_where : (a b : Draft) (p q : Accesses) (Where Other : FormedBlock → Type 0) → ((x : FormedBlock) → Other x → Where x) → Part a b p q Where → Part a b p q Other
  part_where a b p q Where Other more f = record { extends = f.extends; forms = λ x at s sc no w. f.forms x at s sc no (more x w); notes = λ x at s sc no w. f.notes x at s sc no (more x w) }

  abbrev Term : (old new : Draft) → (before after : Accesses) → (v : ℕ) → (Where : FormedBlock → Type 0) → (k : Kind) → Type 0
  Term old new before after v Where k = FormsTerm scene lane current old new before after v Where k

  term_value : (a b : Draft) (p q : Accesses) (v : ℕ) (Where Other : FormedBlock → Type 0) (kind : FormedBlock → Kind) (k : Kind) → q ≡ p → FormsValue a b v Where kind
      → ((x : FormedBlock) → IsScope x a scene lane current → Other x → Where x) → ((x : FormedBlock) → Other x → kind x ≡ k) → Term a b p q v Other k
  term_value a b p q v Where Other kind k same f more is = record {
    part = record {
      extends = f.extends;
      forms = λ x at s sc no w. f.forms x at s (more x sc w);
      notes = λ x at s sc no w. subst (λ (o : Accesses). AreNotedReads x b o) (sym same) (noted_later x a b p f.extends no);
    };
    gives = λ x at s sc no w. kind_same x b (kind x) k v (is x w) (f.gives x at s (more x sc w));
  }

  -- a variable
  variable_forms : (c : Option Counter) (held : VariableSlots) (k : Kind) (old new : Draft) (before after : Accesses) (v : ℕ) → after ≡ before → MadeBy c held lane current k old new v
      → Term old new before after v (λ x. VariableSuits x c held lane k) k
  variable_forms None held k old new before after v same m =
      term_value old new before after v (ShowsThere current (register_at held lane) old) _ (λ x. kind_at x.plan.registers (register_at held lane)) k same
      (shown_forms current (register_at held lane) old new v m) (λ x sc w. (w.there, λ value at. sc.given (register_at held lane) value at)) (λ x w. w.kind_is)
  variable_forms (Some c) held k old new before after v same m =
      term_value old new before after v (λ x. IsInteger k × (held.first < length x.plan.registers)) _ (λ x. k) k same (iterator_forms k held old new v m.0) (λ x sc w. w) (λ x w. refl)

  abbrev Formed : plain.Term → Type 0
  Formed t = (old new : Draft) (before after : Accesses) (n next v : ℕ) → MadeTerm scene lane current t old new before after n next v → n + term_accesses t < 2 ^ 32
      → Term old new before after v (λ x. TermSuits x scene lane n t) (kind_written t)

  abbrev AllFormed : plain.Terms → Type 0
  AllFormed ts = (old new : Draft) (before after : Accesses) (n next : ℕ) (vs : List ℕ) → MadeTerms scene lane current ts old new before after n next vs → n + terms_accesses ts < 2 ^ 32
      → FormsTerms scene lane current old new before after vs (λ x. TermsSuit x scene lane n ts × AreNumbers ts) (count_of_terms ts)

  formed_none : AllFormed plain.no_terms
  formed_none old new before after n next vs m few = record {
    part = record {
      extends = subst (λ (d : Draft). Extends old d) (sym m.still) (extends_self old);
      forms = λ x at s sc no w. forms_none x old new m.still;
      notes = λ x at s sc no w. subst (λ (a : Accesses). AreNotedReads x new a) (sym m.same) (subst (λ (d : Draft). AreNotedReads x d before) (sym m.still) no);
    };
    gives = λ x at s sc no w. subst (λ (us : List ℕ). HasNumbers x new 0 us) (sym m.none) (record { long = refl; each = tt });
  }

  formed_then : (t : plain.Term) (ts : plain.Terms) → Formed t → AllFormed ts → AllFormed (plain.term_then t ts)
  formed_then t ts one rest old new before after n next vs m few = record {
    part = whole;
    gives = λ x at s sc no w.
        let before_at = agrees_before x m.middle new g.part.extends at in
        let k = f.gives x before_at s sc no w.0.0 in
        let behind = g.gives x at (started_later x old m.middle f.part.extends s) (scope_later x old m.middle scene lane current f.part.extends sc) (f.part.notes x before_at s sc no w.0.0) (w.0.1, w.1.1) in
        subst (λ (us : List ℕ). HasNumbers x new (count_of_terms ts + 1) us) (sym m.values_are) (record {
          long = more (length m.more) (count_of_terms ts) behind.long;
          each = ((kind_written t, (w.1.0, kind_later x m.middle new _ m.a g.part.extends k)), behind.each);
        });
  }
    where
      more : (a b : ℕ) → a ≡ b → suc a ≡ b + 1
      more a b e = omega (arith, e)

      f : Term old m.middle before m.between m.a (λ x. TermSuits x scene lane n t) (kind_written t)
      f = one old m.middle before m.between n m.own m.a m.first (omega (arith, few))

      own : m.own ≡ n + term_accesses t
      own = numbered t old m.middle before m.between n m.own m.a m.first (omega (arith, few))

      g : FormsTerms scene lane current m.middle new m.between after m.more (λ x. TermsSuit x scene lane (n + term_accesses t) ts × AreNumbers ts) (count_of_terms ts)
      g = rest m.middle new m.between after (n + term_accesses t) next m.more
          (subst (λ (i : ℕ). MadeTerms scene lane current ts m.middle new m.between after i next m.more) own m.rest) (omega (arith, few))

      whole : Part old new before after (λ x. (TermSuits x scene lane n t × TermsSuit x scene lane (n + term_accesses t) ts) × (IsInteger (kind_written t) × AreNumbers ts))
      whole = part_again old m.middle new before m.between after _ _ _ f.part g.part (λ x w. w.0.0) (λ x at s sc no w. (w.0.1, w.1.1))

  -- what two operands must be, and that they are there
  abbrev BothSuit : (n : ℕ) → Op → (l r : plain.Term) → Kind → FormedBlock → Type 0
  BothSuit n o l r k x = (TermSuits x scene lane n l × TermSuits x scene lane (n + term_accesses l) r) × OperandsSuit o (kind_written l) (kind_written r) k

  abbrev Operands : Op → (l r : plain.Term) → Kind → (a b : ℕ) → Draft → FormedBlock → Type 0
  Operands o l r k a b d x = OperandsSuit o (kind_written l) (kind_written r) k × (HasKind x d (kind_written l) a × HasKind x d (kind_written r) b)

  formed_two : (place : Place) (k : Option Kind) (o : Op) (l r : plain.Term) → Formed l → Formed r → Formed (plain.term place k (plain.applied o l r))
  formed_two place k o l r one two old new before after n next v m few = record {
    part = part_again old m.end new before after after (BothSuit n o l r (kind_or_first k)) (Operands o l r (kind_or_first k) m.a m.b m.end) (BothSuit n o l r (kind_or_first k)) both
        (part_value m.end new after after v (Operands o l r (kind_or_first k) m.a m.b m.end) (λ x. kind_or_first k) refl made) (λ x w. w) (λ x at s sc no w. operands x at s sc no w);
    gives = λ x at s sc no w. made.gives x at (started_later x old m.end both.extends s) (operands x (agrees_before x m.end new made.extends at) s sc no w);
  }
    where
      f : Term old m.middle before m.between m.a (λ x. TermSuits x scene lane n l) (kind_written l)
      f = one old m.middle before m.between n m.own m.a m.first (omega (arith, few))

      own : m.own ≡ n + term_accesses l
      own = numbered l old m.middle before m.between n m.own m.a m.first (omega (arith, few))

      g : Term m.middle m.end m.between after m.b (λ x. TermSuits x scene lane (n + term_accesses l) r) (kind_written r)
      g = two m.middle m.end m.between after (n + term_accesses l) next m.b
          (subst (λ (i : ℕ). MadeTerm scene lane current r m.middle m.end m.between after i next m.b) own m.second) (omega (arith, few))

      both : Part old m.end before after (BothSuit n o l r (kind_or_first k))
      both = part_again old m.middle m.end before m.between after _ _ (BothSuit n o l r (kind_or_first k)) f.part g.part (λ x w. w.0.0) (λ x at s sc no w. w.0.1)

      made : FormsValue m.end new v (Operands o l r (kind_or_first k) m.a m.b m.end) (λ x. kind_or_first k)
      made = operation_forms o l r (kind_or_first k) m.a m.b m.end new v m.operation

      operands : (x : FormedBlock) → Agrees x m.end → Started x old → IsScope x old scene lane current → AreNotedReads x old before → BothSuit n o l r (kind_or_first k) x → Operands o l r (kind_or_first k) m.a m.b m.end x
      operands x at s sc noted w =
          let before_at = agrees_before x m.middle m.end g.part.extends at in (
            w.1,
            (
              kind_later x m.middle m.end _ m.a g.part.extends (f.gives x before_at s sc noted w.0.0),
              g.gives x at (started_later x old m.middle f.part.extends s) (scope_later x old m.middle scene lane current f.part.extends sc) (f.part.notes x before_at s sc noted w.0.0) w.0.1,
            ),
          )

  formed_one : (place : Place) (k : Option Kind) (inner : plain.Term) (to : Kind) → Formed inner → Formed (plain.term place k (plain.converted inner to))
  formed_one place k inner to one old new before after n next v m few = record {
    part = part_again old m.middle new before after after _ _ (λ x. TermSuits x scene lane n inner × (IsInteger to × (kind_or_first k ≡ to))) f.part
        (part_value m.middle new after after v (λ x. IsInteger to × HasKind x m.middle (kind_written inner) m.a) (λ x. to) refl made) (λ x w. w.0) (λ x at s sc no w. (w.1.0, f.gives x at s sc no w.0));
    gives = λ x at s sc no w.
        kind_same x new to _ v (sym w.1.1)
        (made.gives x at (started_later x old m.middle f.part.extends s) (w.1.0, f.gives x (agrees_before x m.middle new made.extends at) s sc no w.0));
  }
    where
      f : Term old m.middle before after m.a (λ x. TermSuits x scene lane n inner) (kind_written inner)
      f = one old m.middle before after n next m.a m.operand few

      made : FormsValue m.middle new v (λ x. IsInteger to × HasKind x m.middle (kind_written inner) m.a) (λ x. to)
      made = converted_forms inner to m.a m.middle new v m.converts

  -- Reads: the values of the element first, then the read itself.

  module _ (place : Place) (k : Option Kind) (form : plain.TermForm) (memory : ℕ) (old middle new : Draft) (before between after : Accesses) (aim : Aim) (v number : ℕ)
      (is : aim.number ≡ number) (r : Term middle new between after v (WhereRead scene lane current (plain.term place k form) memory aim middle (kind_or_first k)) (kind_or_first k)) where
    abbrev AtNumber : FormedBlock → Type 0
    AtNumber x = ReadSuits x scene lane memory number place form (kind_or_first k)

    moved : (x : FormedBlock) → AtNumber x → ReadSuits x scene lane memory aim.number place form (kind_or_first k)
    moved x w = subst (λ (i : ℕ). ReadSuits x scene lane memory i place form (kind_or_first k)) (sym is) w

    read_behind : (First Where : FormedBlock → Type 0) → Part old middle before between First → ((x : FormedBlock) → Where x → First x) → ((x : FormedBlock) → Where x → AtNumber x)
        → ((x : FormedBlock) → Agrees x middle → Started x old → IsScope x old scene lane current → AreNotedReads x old before → Where x → AimSuits x middle memory form aim)
        → Term old new before after v Where (kind_or_first k)
    read_behind First Where f first suits aims = record {
      part = part_again old middle new before between after First (WhereRead scene lane current (plain.term place k form) memory aim middle (kind_or_first k)) Where f r.part first (λ x at s sc no w. (aims x at s sc no w, moved x (suits x w)));
      gives = λ x at s sc no w.
          let before_at = agrees_before x middle new r.part.extends at in
          r.gives x at (started_later x old middle f.extends s) (scope_later x old middle scene lane current f.extends sc) (f.notes x before_at s sc no (first x w)) (aims x before_at s sc no w, moved x (suits x w));
    }

  pub aim_of_row : (x : FormedBlock) (d : Draft) (memory value : ℕ) (form : plain.TermForm) (aim : Aim) → IsRowForm form → aim.indices ≡ [] → aim.steps ≡ [] → aim.row ≡ Some value → IsNumberThere x d value → AimSuits x d memory form aim
  aim_of_row x d memory value form aim row none still is h = record {
    indices = subst (λ (vs : List ℕ). AllByRecursion (IsNumberThere x d) vs) (sym none) tt;
    offsets = subst (λ (ss : List ReachStep). AllByRecursion (IsNumberThere x d) (offsets_taken ss)) (sym still) tt;
    row = subst (λ (o : Option ℕ). RowSuits x d memory form aim o) (sym is) (h, (still, row));
  }

  -- Variables that keep offsets, one behind the other.

  hidden_formed : (hs : List Hidden) (old new : Draft) (a : Accesses) (values : List ℕ) → MadeHidden scene lane current hs old new values
      → FormsTerms scene lane current old new a a values (λ x. AllByRecursion (HiddenSuits x scene lane) hs) (length hs)
  hidden_formed [] old new a values m = record {
    part = record {
      extends = subst (λ (d : Draft). Extends old d) (sym m.0) (extends_self old);
      forms = λ x at s sc no w. forms_none x old new m.0;
      notes = λ x at s sc no w. subst (λ (d : Draft). AreNotedReads x d a) (sym m.0) no;
    };
    gives = λ x at s sc no w. subst (λ (us : List ℕ). HasNumbers x new 0 us) (sym m.1) (record { long = refl; each = tt });
  }
  hidden_formed (h ∷ hs) old new a values (middle, (v, (more, (shown, (rest, are))))) = hidden_then h hs old middle new a values v more are (shown_first h old middle a v shown) (hidden_formed hs middle new a more rest)
    where
      shown_first : (h : Hidden) (old middle : Draft) (a : Accesses) (v : ℕ) → MadeShown current (hidden_register scene lane h) old middle v → Term old middle a a v (λ x. HiddenSuits x scene lane h) h.kind
      shown_first h old middle a v m =
          term_value old middle a a v (ShowsThere current (hidden_register scene lane h) old) (λ x. HiddenSuits x scene lane h) (λ x. kind_at x.plan.registers (hidden_register scene lane h)) h.kind refl
          (shown_forms current (hidden_register scene lane h) old middle v m) (λ x sc w. (w.register.there, λ value at. sc.given (hidden_register scene lane h) value at)) (λ x w. w.register.kind_is)

      hidden_then : (h : Hidden) (hs : List Hidden) (old middle new : Draft) (a : Accesses) (values : List ℕ) (v : ℕ) (more : List ℕ) → values ≡ v ∷ more
          → Term old middle a a v (λ x. HiddenSuits x scene lane h) h.kind → FormsTerms scene lane current middle new a a more (λ x. AllByRecursion (HiddenSuits x scene lane) hs) (length hs)
          → FormsTerms scene lane current old new a a values (λ x. HiddenSuits x scene lane h × AllByRecursion (HiddenSuits x scene lane) hs) (suc (length hs))
      hidden_then h hs old middle new a values v more are f g = record {
        part = part_again old middle new a a a (λ x. HiddenSuits x scene lane h) (λ x. AllByRecursion (HiddenSuits x scene lane) hs) (λ x. HiddenSuits x scene lane h × AllByRecursion (HiddenSuits x scene lane) hs) f.part g.part (λ x w. w.0) (λ x at s sc no w. w.1);
        gives = λ x at s sc no w.
            let before_at = agrees_before x middle new g.part.extends at in
            let k = f.gives x before_at s sc no w.0 in
            let behind = g.gives x at (started_later x old middle f.part.extends s) (scope_later x old middle scene lane current f.part.extends sc) (f.part.notes x before_at s sc no w.0) w.1 in
            subst (λ (us : List ℕ). HasNumbers x new (suc (length hs)) us) (sym are) (record {
              long = ap suc behind.long;
              each = ((h.kind, (w.0.integer, kind_later x middle new _ v g.part.extends k)), behind.each);
            });
      }

  pub hidden_long : (hs : List Hidden) (old new : Draft) (values : List ℕ) → MadeHidden scene lane current hs old new values → length values ≡ length hs
  hidden_long [] old new values m = ap (λ (us : List ℕ). length us) m.1
  hidden_long (h ∷ hs) old new values (middle, (v, (more, (shown, (rest, are))))) = ap (λ (us : List ℕ). length us) are ∙ ap suc (hidden_long hs middle new more rest)

  -- what stands behind indices: nothing for a memory, for a view the steps of its way
  pub way_part : (way : Option Way) (memory first : ℕ) (old new : Draft) (a : Accesses) (steps : List ReachStep) → MadeWay scene lane current old new first way steps → Part old new a a (λ x. WaySuits x scene lane memory first way)
  way_part None memory first old new a steps m = record {
    extends = subst (λ (d : Draft). Extends old d) (sym m.0) (extends_self old);
    forms = λ x at s sc no w. forms_none x old new m.0;
    notes = λ x at s sc no w. subst (λ (d : Draft). AreNotedReads x d a) (sym m.0) no;
  }
  way_part (Some w) memory first old new a steps m =
      part_where old new a a (λ x. AllByRecursion (HiddenSuits x scene lane) w.hidden) (λ x. WaySuits x scene lane memory first (Some w)) (λ x h. h.0) (hidden_formed w.hidden old new a m.values m.hidden).part

  way_gives : (way : Option Way) (memory first count : ℕ) (old new : Draft) (a : Accesses) (form : plain.TermForm) (aim : Aim) → MadeWay scene lane current old new first way aim.steps → aim.row ≡ None
      → (x : FormedBlock) → Agrees x new → Started x old → IsScope x old scene lane current → AreNotedReads x old a → WaySuits x scene lane memory first way → count ≡ length (dims_by (dims_at x.plan.table memory) way)
      → HasNumbers x new count aim.indices → AimSuits x new memory form aim
  way_gives None memory first count old new a form aim m row x at s sc noted suits all indices = memory_aim x scene lane memory first new form aim count row indices m.1 all
  way_gives (Some w) memory first count old new a form aim m row x at s sc noted suits all indices =
      way_aim x scene lane memory first new form aim count row indices w m.values m.steps_are ((hidden_formed w.hidden old new a m.values m.hidden).gives x at s sc noted suits.0) suits all

  numbers_later : (x : FormedBlock) (old new : Draft) (count : ℕ) (values : List ℕ) → Extends old new → HasNumbers x old count values → HasNumbers x new count values
  numbers_later x old new count values e h = record { long = h.long; each = all_weaker _ _ values (λ n k. number_later x old new n e k) h.each }

  -- indices, and the steps behind them, name an element
  pub through_made : (ts : plain.Terms) (r : Ref) (n : ℕ) (old named new : Draft) (before after : Accesses) (aim : Aim) → aim.row ≡ None
      → FormsTerms scene lane current old named before after aim.indices (λ x. TermsSuit x scene lane n ts × AreNumbers ts) (count_of_terms ts)
      → MadeWay scene lane current named new (first_view scene r) (way_of (known_in scene) r) aim.steps
      → FormsAim scene lane current old new before after (memory_of (known_in scene) r) aim (λ x. NamedSuits x scene lane n r ts)
  through_made ts r n old named new before after aim row f m = record {
    part = part_again old named new before after after (λ x. TermsSuit x scene lane n ts × AreNumbers ts) (λ x. WaySuits x scene lane (memory_of (known_in scene) r) (first_view scene r) (way_of (known_in scene) r)) (λ x. NamedSuits x scene lane n r ts) f.part way
        (λ x w. w.0) (λ x at s sc no w. w.1.1);
    gives = λ x at s sc no w form.
        let before_at = agrees_before x named new way.extends at in
        way_gives (way_of (known_in scene) r) (memory_of (known_in scene) r) (first_view scene r) (count_of_terms ts) named new after form aim m row x at
        (started_later x old named f.part.extends s) (scope_later x old named scene lane current f.part.extends sc) (f.part.notes x before_at s sc no w.0) w.1.1 w.1.0
        (numbers_later x named new (count_of_terms ts) aim.indices way.extends (f.gives x before_at s sc no w.0));
  }
    where
      way : Part named new after after (λ x. WaySuits x scene lane (memory_of (known_in scene) r) (first_view scene r) (way_of (known_in scene) r))
      way = way_part (way_of (known_in scene) r) (memory_of (known_in scene) r) (first_view scene r) named new after aim.steps m

  formed_access : (place : Place) (k : Option Kind) (r : Ref) (ts : plain.Terms) → AllFormed ts → Formed (plain.term place k (plain.accessed r ts))
  formed_access place k r ts all old new before after n next v m few =
      read_behind place k (plain.accessed r ts) (memory_of (known_in scene) r) old m.middle new before m.between after m.aim v (n + terms_accesses ts) own
      (read_forms scene lane current (plain.term place k (plain.accessed r ts)) (memory_of (known_in scene) r) m.aim m.middle new m.between after v (kind_or_first k) m.reads)
      (λ x. NamedSuits x scene lane n r ts) (λ x. TermSuits x scene lane n (plain.term place k (plain.accessed r ts))) through.part (λ x w. (w.0, w.1.0)) (λ x w. w.1.1)
      (λ x at s sc no w. through.gives x at s sc no (w.0, w.1.0) (plain.accessed r ts))
    where
      own : m.aim.number ≡ n + terms_accesses ts
      own = all_numbered ts old m.named before m.between n m.aim.number m.aim.indices m.indices (omega (arith, few))

      through : FormsAim scene lane current old m.middle before m.between (memory_of (known_in scene) r) m.aim (λ x. NamedSuits x scene lane n r ts)
      through = through_made ts r n old m.named m.middle before m.between m.aim m.row (all old m.named before m.between n m.aim.number m.aim.indices m.indices (omega (arith, few))) m.steps

  formed_bank : (place : Place) (k : Option Kind) (r : Ref) (bank : ℕ) (at : Place) (t : plain.Term) → Formed t → Formed (plain.term place k (plain.in_bank r bank at t))
  formed_bank place k r bank at t one old new before after n next v m few =
      read_behind place k (plain.in_bank r bank at t) (memory_of (known_in scene) r) old m.middle new before m.between after m.aim v (n + term_accesses t) own
      (read_forms scene lane current (plain.term place k (plain.in_bank r bank at t)) (memory_of (known_in scene) r) m.aim m.middle new m.between after v (kind_or_first k) m.reads)
      (λ x. TermSuits x scene lane n t) (λ x. TermSuits x scene lane n (plain.term place k (plain.in_bank r bank at t))) f.part (λ x w. w.0.0) (λ x w. w.1)
      (λ x agrees s sc no w. aim_of_row x m.middle (memory_of (known_in scene) r) m.value (plain.in_bank r bank at t) m.aim tt m.none m.steps m.row_is (kind_written t, (w.0.1, f.gives x agrees s sc no w.0.0)))
    where
      own : m.aim.number ≡ n + term_accesses t
      own = numbered t old m.middle before m.between n m.aim.number m.value m.row (omega (arith, few))

      f : Term old m.middle before m.between m.value (λ x. TermSuits x scene lane n t) (kind_written t)
      f = one old m.middle before m.between n m.aim.number m.value m.row (omega (arith, few))

  formed_number : (place : Place) (k : Option Kind) (negative : Truth) (z : ℕ) → Formed (plain.term place k (plain.number negative z))
  formed_number place k negative z old new before after n next v m few =
      term_value old new before after v (λ x. IsKind (kind_or_first k)) _ (λ x. kind_or_first k) (kind_or_first k) m.same (number_forms (kind_or_first k) negative z old new v m.part) (λ x sc w. w) (λ x w. refl)

  truth_fits : (b : Truth) → IsWord (truth b)
  truth_fits true = record { sized = (omega arith, omega arith); fits = omega arith }
  truth_fits false = record { sized = (omega arith, omega arith); fits = omega arith }

  formed_truth : (place : Place) (k : Option Kind) (b : Truth) → Formed (plain.term place k (plain.truth_value b))
  formed_truth place k b old new before after n next v m few =
      term_value old new before after v (λ x. Unit {0}) _ (λ x. kind.Bool) (kind_or_first k) m.same
      (constant_forms old new v (truth b) (λ x. Unit {0}) (λ x. kind.Bool) m.part (λ x w. truth_fits b) (λ x w. refl)) (λ x sc w. tt) (λ x w. sym w)

  formed_variable : (place : Place) (k : Option Kind) (r : Ref) → Formed (plain.term place k (plain.named r))
  formed_variable place k r old new before after n next v m few =
      variable_forms (counter_of scene (entity_number r.entity)) (held_at scene.held.now (entity_number r.entity)) (kind_or_first k) old new before after v m.same m.part

  mutual
    pub formed : (t : plain.Term) → Formed t
    formed (plain.term place k (plain.number negative z)) = formed_number place k negative z
    formed (plain.term place k (plain.truth_value b)) = formed_truth place k b
    formed (plain.term place k (plain.named r)) = formed_variable place k r
    formed (plain.term place k (plain.accessed r ts)) = formed_access place k r ts (all_formed ts)
    formed (plain.term place k (plain.in_bank r bank at t)) = formed_bank place k r bank at t (formed t)
    formed (plain.term place k (plain.applied o l r)) = formed_two place k o l r (formed l) (formed r)
    formed (plain.term place k (plain.converted inner to)) = formed_one place k inner to (formed inner)

    pub all_formed : (ts : plain.Terms) → AllFormed ts
    all_formed plain.no_terms = formed_none
    all_formed (plain.term_then t ts) = formed_then t ts (formed t) (all_formed ts)

  -- as which element an access names
  pub indices_formed : (ts : plain.Terms) (old new : Draft) (before after : Accesses) (n : ℕ) (aim : Aim) → MadeIndices scene lane current ts old new before after n aim → n + terms_accesses ts < 2 ^ 32
      → FormsTerms scene lane current old new before after aim.indices (λ x. TermsSuit x scene lane n ts × AreNumbers ts) (count_of_terms ts)
  indices_formed ts old new before after n aim m few = all_formed ts old new before after n aim.number aim.indices m.indices few

  pub through_formed : (r : Ref) (ts : plain.Terms) (old new : Draft) (before after : Accesses) (n : ℕ) (aim : Aim) → MadeThrough scene lane current r ts old new before after n aim → n + terms_accesses ts < 2 ^ 32
      → FormsAim scene lane current old new before after (memory_of (known_in scene) r) aim (λ x. NamedSuits x scene lane n r ts)
  through_formed r ts old new before after n aim m few = through_made ts r n old m.middle new before after aim m.row (all_formed ts old m.middle before after n aim.number aim.indices m.indices few) m.steps
