-- Expressions, and what commands put down beside them, at one path of a block.
use Rattle.std.proofs.Common.{◌≡◌, ℕ, ◌+◌, ◌^◌, ◌<◌, ◌≤◌, true, false, Some, Option, List, length, refl, sym, ap, ◌∙◌, subst, arith}
use Rattle.std.specs.Prelude.{Bool as Truth, max, slice_get}
use Rattle.dh_value.specs.declared.kinds.Kind.{Kind}
use Rattle.dh_value.specs.declared.kinds.Kind.TheVariants as kind
use Rattle.dh_value.specs.declared.operators.Op.{Op}
use Rattle.dh_tree.specs.PlainTrees as plain
use Rattle.dh_tree.specs.PlainTrees.{Term}
use Rattle.dh_tree.specs.declared.trees.expressions.Ref.{Ref}
use Rattle.dh_meaning.specs.AccessNumbers.{term_accesses, terms_accesses}
use Rattle.dh_meaning.specs.CoreOf.{core_term, core_terms, memory_of, target_to, way_of}
use Rattle.dh_meaning.specs.Levels.{Levels}
use Rattle.dh_code.specs.Extended.{extension_of}
use Rattle.dh_tree.specs.Kinds.{same_kind}
use Rattle.dh_code.specs.declared.places.VariableSlots.{VariableSlots}
use Rattle.dh_plan.specs.declared.operations.OperationForm.TheVariants.{Convert}
use Rattle.dh_plan.specs.PlanPhases.{term_mentions, core_terms_mention, target_mentions}
use Rattle.dh_expressions.specs.declared.accesses.Accesses.{Accesses}
use Rattle.dh_expressions.specs.declared.drafts.Draft.{Draft}
use Rattle.dh_expressions.specs.declared.scenes.Around.{Around}
use Rattle.dh_expressions.specs.declared.scenes.Lane.{Lane}
use Rattle.dh_expressions.specs.declared.scenes.Scene.{Scene}
use Rattle.dh_expressions.specs.Drafted.{Extends}
use Rattle.dh_expressions.specs.Evaluated.{known_in}
use Rattle.dh_expressions.specs.MadeTerms.{MadeTerm, MadeTerms, MadeThrough}
use Rattle.dh_expressions.specs.MadeValues.{IsThere, MadeConverted}
use Rattle.dh_expressions.specs.Shown.{kind_written, register_at}
use Rattle.dh_expressions.proofs.ListPlaces.{place_within, some_same}
use Rattle.dh_expressions.proofs.Pushing.{extends_again, extends_self}
use Rattle.dh_expressions.specs.declared.elements.Aim.{Aim}
use Rattle.dh_formed.specs.Counted.{AreNext, HaveGiven, given_at_paths}
use Rattle.dh_formed.specs.Formed.{Agrees, AreNumbers, FormsPart, AreNotedReads, IsScope, TermSuits, TermsSuit, NamedSuits}
use Rattle.dh_formed.specs.Timed.{AgreeInTime, AreBounded, BlockClocks, CurrentAt, EntityAt, GuardAt, HasClock, NotedInTime, ReadsAgree, StandsInTime, TimesTerm, TimesTerms, TimesValue, Within, all_leveled, clock_of, leveled, TimesAim, named_leveled}
use Rattle.dh_formed.proofs.TermsCounted.{all_counted, counted, named_counted}
use Rattle.dh_formed.proofs.TermsFormed.{all_formed, formed, through_formed}
use Rattle.dh_formed.proofs.TermsTimed.{all_timed, timed, through_timed}
use Rattle.dh_formed.proofs.ValuesTimed.{agree_before, compute_timed, held_timed, shown_timed, time_later, timed_pushed, within_again, within_none}
use Rattle.dh_commands.specs.MadeCommands.{FoldedWith, MadeOldOperand, MadeOperand}
use Rattle.dh_paced.specs.Paced.{IsIn}
use Rattle.dh_paced.specs.Standing.{AreOwn, IsGround, OwnsTerm, OwnsTerms, OwnsNamed}

-- Values in time.

pub value_there : (old new : Draft) (value v : ℕ) (Where : BlockClocks → Type 0) (clock : BlockClocks → ℕ) → IsThere old new value v → ((c : BlockClocks) → Where c → HasClock c (clock c) value) → TimesValue old new v Where clock
value_there old new value v Where clock h at = record {
  extends = subst (λ (d : Draft). Extends old d) (sym h.0) (extends_self old);
  within = λ c a s w. within_none c old new (clock c) h.0;
  at = λ c a s w. ap (λ n. clock_of c n) h.1 ∙ at c w;
}

pub value_then : (a b d : Draft) (u v : ℕ) (Where : BlockClocks → Type 0) (first second : BlockClocks → ℕ) → ((c : BlockClocks) → Where c → first c ≤ second c) → TimesValue a b u Where first
    → TimesValue b d v (λ c. Where c × HasClock c (first c) u) second → TimesValue a d v Where second
value_then a b d u v Where first second few f g = record {
  extends = extends_again a b d f.extends g.extends;
  within = λ c at s w.
      let before = agree_before c b d g.extends at in
      within_again c a b d (first c) (second c) (few c w) (f.within c before s w) (g.within c at (time_later c a b f.extends s) (w, f.at c before s w));
  at = λ c at s w. g.at c at (time_later c a b f.extends s) (w, f.at c (agree_before c b d g.extends at) s w);
}

pub value_where : (a b : Draft) (v : ℕ) (Where Other : BlockClocks → Type 0) (clock other : BlockClocks → ℕ) → ((c : BlockClocks) → Other c → Where c) → ((c : BlockClocks) → Other c → clock c ≡ other c)
    → TimesValue a b v Where clock → TimesValue a b v Other other
value_where a b v Where Other clock other more same f = record {
  extends = f.extends;
  within = λ c at s w. subst (λ (k : ℕ). Within c a b k) (same c w) (f.within c at s (more c w));
  at = λ c at s w. f.at c at s (more c w) ∙ same c w;
}

one_greatest : (n : ℕ) → max n 0 ≡ n
one_greatest n = omega arith

same_few : (n : ℕ) → n ≤ n
same_few n = omega arith

left_few : (m n : ℕ) → m ≤ max m n
left_few m n = omega arith

kept_timed : (kept : Truth) (to : Kind) (value : ℕ) (k : BlockClocks → ℕ) (old new : Draft) (v : ℕ) → MadeConverted kept to value old new v → TimesValue old new v (λ c. HasClock c (k c) value) k
kept_timed true to value k old new v m = value_there old new value v _ k m (λ c w. w)
kept_timed false to value k old new v m = timed_pushed old new v (Convert value to) _ k m refl (λ c w. one_greatest (clock_of c value) ∙ w)

old_operand_timed : (own to : Kind) (value : ℕ) (k : BlockClocks → ℕ) (old new : Draft) (v : ℕ) → MadeOldOperand own to value old new v → TimesValue old new v (λ c. HasClock c (k c) value) k
old_operand_timed own kind.Bool value k old new v m = value_there old new value v _ k m (λ c w. w)
old_operand_timed own (kind.Unsigned n) value k old new v m = kept_timed (same_kind own (kind.Unsigned n)) (kind.Unsigned n) value k old new v m
old_operand_timed own (kind.Signed n) value k old new v m = kept_timed (same_kind own (kind.Signed n)) (kind.Signed n) value k old new v m

operand_timed : (t : Term) (to : Kind) (value : ℕ) (k : BlockClocks → ℕ) (old new : Draft) (v : ℕ) → MadeOperand t to value old new v → TimesValue old new v (λ c. HasClock c (k c) value) k
operand_timed t kind.Bool value k old new v m = value_there old new value v _ k m (λ c w. w)
operand_timed t (kind.Unsigned n) value k old new v m = held_timed t (kind.Unsigned n) value k old new v m
operand_timed t (kind.Signed n) value k old new v m = held_timed t (kind.Signed n) value k old new v m

-- what a reducer puts together: of what its variable shows, and a value
pub folded_timed : (lane : Lane) (current : List (Option ℕ)) (held : VariableSlots) (op : Op) (t : Term) (value : ℕ) (j k : ℕ) (old new : Draft) (v : ℕ) → FoldedWith lane current held op t value old new v
    → TimesValue old new v (λ c. CurrentAt c (slice_get current (register_at held lane)) j × HasClock c k value) (λ c. max j k)
folded_timed lane current held op t value j k old new v f =
    value_then old f.first new f.before v Begun (λ c. j) (λ c. max j k) (λ c w. left_few j k)
    (value_where old f.first f.before (λ c. CurrentAt c (slice_get current (register_at held lane)) j) Begun (λ c. j) (λ c. j) (λ c w. w.0) (λ c w. refl) (shown_timed current (register_at held lane) (λ c. j) old f.first f.before f.shown))
    (value_then f.first f.second new f.left v (λ c. Begun c × HasClock c j f.before) (λ c. j) (λ c. max j k) (λ c w. left_few j k)
    (value_where f.first f.second f.left (λ c. HasClock c j f.before) (λ c. Begun c × HasClock c j f.before) (λ c. j) (λ c. j) (λ c w. w.1) (λ c w. refl)
    (old_operand_timed held.kind (extension_of op held.kind (kind_written t)) f.before (λ c. j) f.first f.second f.left f.left_made))
    (value_then f.second f.third new f.right v (λ c. (Begun c × HasClock c j f.before) × HasClock c j f.left) (λ c. k) (λ c. max j k) (λ c w. right_few j k)
    (value_where f.second f.third f.right (λ c. HasClock c k value) (λ c. (Begun c × HasClock c j f.before) × HasClock c j f.left) (λ c. k) (λ c. k) (λ c w. w.0.0.1) (λ c w. refl)
    (operand_timed t (extension_of op held.kind (kind_written t)) value (λ c. k) f.second f.third f.right f.right_made))
    (value_then f.third f.fourth new f.all v (λ c. ((Begun c × HasClock c j f.before) × HasClock c j f.left) × HasClock c k f.right) (λ c. max j k) (λ c. max j k) (λ c w. same_few (max j k))
    (value_where f.third f.fourth f.all (λ c. HasClock c j f.left × HasClock c k f.right) (λ c. ((Begun c × HasClock c j f.before) × HasClock c j f.left) × HasClock c k f.right) (λ c. max j k) (λ c. max j k) (λ c w. (w.0.1, w.1)) (λ c w. refl)
    (compute_timed f.third f.fourth f.all f.left f.right op (λ c. j) (λ c. k) f.pushes))
    (value_where f.fourth new v (λ c. HasClock c (max j k) f.all) (λ c. (((Begun c × HasClock c j f.before) × HasClock c j f.left) × HasClock c k f.right) × HasClock c (max j k) f.all) (λ c. max j k) (λ c. max j k) (λ c w. w.1) (λ c w. refl)
    (kept_timed (same_kind held.kind (extension_of op held.kind (kind_written t))) held.kind f.all (λ c. max j k) f.fourth new v f.own)))))
  where
    Begun : BlockClocks → Type 0
    Begun c = CurrentAt c (slice_get current (register_at held lane)) j × HasClock c k value

    right_few : (m n : ℕ) → n ≤ max m n
    right_few m n = omega arith

-- Expressions at a path.

module _ (c : BlockClocks) (scene : Scene) (top : Around) (spaces : ℕ) (shared : ℕ → Option ℕ) (Variable Read Own : ℕ → Type 0) (g : IsGround c scene top spaces shared Variable Read Own) (lane : Lane) where
  -- accesses that are next at this path
  pub next_of : (a : Accesses) (n count : ℕ) → ((m : ℕ) → IsIn n count m → Own m) → ((m : ℕ) → IsIn n count m → given_at_paths a m ≡ lane.number) → ((e : ℕ) → Read e → e < n → lane.number < given_at_paths a e) → AreNext scene lane a n count
  next_of a n count own each done = record {
    each = λ m from below. each m (from, below);
    known = λ m from below. place_within scene.shares.now m (shared m) (g.shares m (own m (from, below)));
    earlier = λ m e from below share. (g.earlier m e (own m (from, below)) (told m e (own m (from, below)) share)).0;
    shares = λ m e from below share less. done e (g.earlier m e (own m (from, below)) (told m e (own m (from, below)) share)).1 less;
  }
    where
      told : (m e : ℕ) → Own m → slice_get scene.shares.now m ≡ Some (Some e) → shared m ≡ Some e
      told m e is share = some_same (shared m) (Some e) (sym (g.shares m is) ∙ share)

  -- what stands at it
  pub record IsHere (outer : ℕ) (current : List (Option ℕ)) (old mid : Draft) (before : Accesses) (l : Levels) : Type 0 where
    pub agrees : Agrees c.block mid
    pub agree : AgreeInTime c mid
    pub started : c.block.first ≤ length old.operations.items
    pub scope : IsScope c.block old scene lane current
    pub noted : AreNotedReads c.block old before
    pub bounded : AreBounded l
    pub guards : (path : ℕ) (guard : Option ℕ) → slice_get lane.around.guards.now path ≡ Some guard → GuardAt c outer guard
    pub in_time : NotedInTime c before
    pub outer_few : outer ≤ l.most

  module _ (outer : ℕ) (current : List (Option ℕ)) (old mid : Draft) (before after : Accesses) (n next : ℕ) (l : Levels) (h : IsHere outer current old mid before l) where
    stands_here : (count : ℕ) → AreOwn c scene top spaces shared Variable Read Own outer n count → AreNext scene lane before n count → StandsInTime c old mid scene lane current before shared outer n count l
    stands_here count own is_next = record {
      stands = record { agrees = h.agrees; started = h.started; scope = h.scope; noted = h.noted; next = is_next };
      agree = h.agree;
      bounded = h.bounded;
      guards = h.guards;
      noted = h.in_time;
      outer_few = h.outer_few;
      outers = λ m from below. own.outers m (from, below);
      shares = λ m from below. g.shares m (own.own m (from, below));
    }

    pub record TermHere (t : Term) (v : ℕ) : Type 0 where
      pub extends : Extends old mid
      pub timed_is : TimesTerm c old mid after (leveled scene shared outer n t l) v
      pub given : HaveGiven lane before after n (term_accesses t)
      pub noted : AreNotedReads c.block mid after

    pub term_here : (t : Term) (v : ℕ) → MadeTerm scene lane current t old mid before after n next v → n + term_accesses t < 2 ^ 32 → OwnsTerm c scene top spaces shared Variable Read Own outer n t → AreNext scene lane before n (term_accesses t) → TermSuits c.block scene lane n t
        → ((e : ℕ) → Variable e → term_mentions e (core_term (known_in scene) n t) ≡ true → EntityAt c scene lane current l e) → ReadsAgree c (leveled scene shared outer n t l).levels (n + term_accesses t) → TermHere t v
    term_here t v m few own is_next suits vars reads = record {
      extends = part.extends;
      timed_is = timed c scene lane current shared outer t old mid before after n next v m few l (stands_here (term_accesses t) own.are is_next) suits (λ e mentioned. vars e (own.names e mentioned) mentioned) reads;
      given = (counted c.block scene lane current t old mid before after n next v m few (stands_here (term_accesses t) own.are is_next).stands suits).given;
      noted = part.notes c.block h.agrees h.started h.scope h.noted suits;
    }
      where
        part : FormsPart scene lane current old mid before after (λ x. TermSuits x scene lane n t)
        part = (formed scene lane current t old mid before after n next v m few).part

    pub record TermsHere (ts : plain.Terms) (vs : List ℕ) : Type 0 where
      pub extends : Extends old mid
      pub timed_is : TimesTerms c old mid after (all_leveled scene shared outer n ts l) vs
      pub given : HaveGiven lane before after n (terms_accesses ts)
      pub noted : AreNotedReads c.block mid after

    pub terms_here : (ts : plain.Terms) (vs : List ℕ) → MadeTerms scene lane current ts old mid before after n next vs → n + terms_accesses ts < 2 ^ 32 → OwnsTerms c scene top spaces shared Variable Read Own outer n ts → AreNext scene lane before n (terms_accesses ts)
        → TermsSuit c.block scene lane n ts × AreNumbers ts → ((e : ℕ) → Variable e → core_terms_mention e (core_terms (known_in scene) n ts) ≡ true → EntityAt c scene lane current l e)
        → ReadsAgree c (all_leveled scene shared outer n ts l).levels (n + terms_accesses ts) → TermsHere ts vs
    terms_here ts vs m few own is_next suits vars reads = record {
      extends = part.extends;
      timed_is = all_timed c scene lane current shared outer ts old mid before after n next vs m few l (stands_here (terms_accesses ts) own.are is_next) suits (λ e mentioned. vars e (own.names e mentioned) mentioned) reads;
      given = (all_counted c.block scene lane current ts old mid before after n next vs m few (stands_here (terms_accesses ts) own.are is_next).stands suits).given;
      noted = part.notes c.block h.agrees h.started h.scope h.noted suits;
    }
      where
        part : FormsPart scene lane current old mid before after (λ x. TermsSuit x scene lane n ts × AreNumbers ts)
        part = (all_formed scene lane current ts old mid before after n next vs m few).part

    -- indices with what keeps the offsets on the way of what they name
    pub record NamedHere (r : Ref) (ts : plain.Terms) (aim : Aim) : Type 0 where
      pub extends : Extends old mid
      pub timed_is : TimesAim c old mid after (named_leveled scene shared outer n r ts l) (memory_of (known_in scene) r) aim
      pub given : HaveGiven lane before after n (terms_accesses ts)
      pub noted : AreNotedReads c.block mid after

    pub named_here : (r : Ref) (ts : plain.Terms) (aim : Aim) → MadeThrough scene lane current r ts old mid before after n aim → n + terms_accesses ts < 2 ^ 32 → OwnsNamed c scene top spaces shared Variable Read Own outer n r ts → AreNext scene lane before n (terms_accesses ts)
        → NamedSuits c.block scene lane n r ts → ((e : ℕ) → Variable e → target_mentions e (target_to (way_of (known_in scene) r) (core_terms (known_in scene) n ts)) ≡ true → EntityAt c scene lane current l e)
        → ReadsAgree c (named_leveled scene shared outer n r ts l).levels (n + terms_accesses ts) → NamedHere r ts aim
    named_here r ts aim m few own is_next suits vars reads = record {
      extends = part.extends;
      timed_is = through_timed c scene lane current shared outer r ts old mid before after n aim m few l (stands_here (terms_accesses ts) own.are is_next) suits (λ e mentioned. vars e (own.names e mentioned) mentioned) reads;
      given = (named_counted c.block scene lane current r ts old mid before after n aim m few (stands_here (terms_accesses ts) own.are is_next).stands suits).given;
      noted = part.notes c.block h.agrees h.started h.scope h.noted suits;
    }
      where
        part : FormsPart scene lane current old mid before after (λ x. NamedSuits x scene lane n r ts)
        part = (through_formed scene lane current r ts old mid before after n aim m few).part
