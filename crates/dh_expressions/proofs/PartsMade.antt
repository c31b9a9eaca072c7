-- Operations of an expression put together from those of its parts, and indices one after the other.
use Rattle.std.proofs.Common.{◌≡◌, ℕ, suc, ◌<◌, None, drop, get_or, map, List, [], ◌∷◌, ◌++◌, refl, sym, ap, ◌∙◌, subst, length, append_assoc}
use Rattle.std.specs.Prelude.{Option}
use Rattle.std.proofs.Math.Seq.{drop-cons}
use Rattle.std.proofs.lemmas.List.{append-nil}
use Rattle.dh_tree.specs.PlainTrees as plain
use Rattle.dh_tree.specs.Seen.{form_seen, term_seen, terms}
use Rattle.dh_tree.specs.declared.trees.expressions.Expr.{Expr}
use Rattle.dh_tree.specs.declared.trees.expressions.Ref.{Ref}
use Rattle.dh_meaning.specs.CoreOf.{memory_of, way_of}
use Rattle.dh_expressions.specs.declared.accesses.Accesses.{Accesses}
use Rattle.dh_expressions.specs.declared.drafts.Draft.{Draft}
use Rattle.dh_expressions.specs.declared.elements.Aim.{Aim}
use Rattle.dh_expressions.specs.declared.scenes.Lane.{Lane}
use Rattle.dh_expressions.specs.declared.scenes.Scene.{Scene}
use Rattle.dh_expressions.specs.declared.terms.Valued.{Valued}
use Rattle.dh_expressions.specs.Evaluated.{known_in}
use Rattle.dh_expressions.specs.MadeTerms.{MadeForm, MadeIndices, MadeNext, MadePassing, MadeRead, MadeRow, MadeTerm, MadeTerms, MadeThrough, MadeWay}
use Rattle.dh_expressions.specs.Named.{first_view}

module _ (scene : Scene) (lane : Lane) (current : List (Option ℕ)) where
  -- a form as the code has it
  pub made_form : (d0 d1 : Draft) (a b : Accesses) (n : ℕ) (e : Expr) (f : plain.TermForm) (next v : ℕ) → form_seen e.form ≡ f
      → MadeForm scene lane current e.place e.kind f d0 d1 a b n next v → MadeTerm scene lane current (term_seen e) d0 d1 a b n next v
  made_form d0 d1 a b n e f next v is h = subst (λ (g : plain.TermForm). MadeForm scene lane current e.place e.kind g d0 d1 a b n next v) (sym is) h

  -- indices with the steps behind them
  pub record MadeThroughAt (d0 d1 d2 : Draft) (a0 a1 : Accesses) (n : ℕ) (r : Ref) (ts : plain.Terms) (aim : Aim) : Type 0 where
    pub row : aim.row ≡ None
    pub indices : MadeTerms scene lane current ts d0 d1 a0 a1 n aim.number aim.indices
    pub steps : MadeWay scene lane current d1 d2 (first_view scene r) (way_of (known_in scene) r) aim.steps

  pub made_through : (d0 d1 d2 : Draft) (a0 a1 : Accesses) (n : ℕ) (r : Ref) (ts : plain.Terms) (listed aim : Aim)
      → MadeIndices scene lane current ts d0 d1 a0 a1 n listed → MadePassing scene lane current d1 d2 r listed aim → MadeThroughAt d0 d1 d2 a0 a1 n r ts aim
  made_through d0 d1 d2 a0 a1 n r ts listed aim parts passes = record {
    row = passes.row_is ∙ parts.row;
    indices = subst (λ (vs : List ℕ). MadeTerms scene lane current ts d0 d1 a0 a1 n aim.number vs) (sym passes.indices_are)
        (subst (λ (m : ℕ). MadeTerms scene lane current ts d0 d1 a0 a1 n m listed.indices) (sym passes.number_is) parts.indices);
    steps = passes.steps parts.steps;
  }

  pub aimed_through : (d0 d1 d2 : Draft) (a0 a1 : Accesses) (n : ℕ) (r : Ref) (ts : plain.Terms) (listed aim : Aim)
      → MadeIndices scene lane current ts d0 d1 a0 a1 n listed → MadePassing scene lane current d1 d2 r listed aim → MadeThrough scene lane current r ts d0 d2 a0 a1 n aim
  aimed_through d0 d1 d2 a0 a1 n r ts listed aim parts passes = record { middle = d1; row = through.row; indices = through.indices; steps = through.steps }
    where
      through : MadeThroughAt d0 d1 d2 a0 a1 n r ts aim
      through = made_through d0 d1 d2 a0 a1 n r ts listed aim parts passes

  pub made_access : (d0 d1 d2 d3 : Draft) (a0 a1 a2 : Accesses) (n : ℕ) (e : Expr) (r : Ref) (ts : plain.Terms) (listed aim : Aim) (valued : Valued)
      → form_seen e.form ≡ plain.accessed r ts → MadeIndices scene lane current ts d0 d1 a0 a1 n listed → MadePassing scene lane current d1 d2 r listed aim
      → MadeNext scene lane (term_seen e) r aim d2 d3 a1 a2 valued
      → MadeTerm scene lane current (term_seen e) d0 d3 a0 a2 n valued.next valued.value
  made_access d0 d1 d2 d3 a0 a1 a2 n e r ts listed aim valued is parts passes h =
      made_form d0 d3 a0 a2 n e (plain.accessed r ts) valued.next valued.value is (record {
        named = d1;
        middle = d2;
        between = a1;
        aim = aim;
        row = through.row;
        indices = through.indices;
        steps = through.steps;
        reads = subst (λ (g : plain.TermForm). MadeRead scene lane (plain.term e.place e.kind g) (memory_of (known_in scene) r) aim d2 d3 a1 a2 valued.value) is h.reads;
        next_is = h.next_is;
      })
    where
      through : MadeThroughAt d0 d1 d2 a0 a1 n r ts aim
      through = made_through d0 d1 d2 a0 a1 n r ts listed aim parts passes

  pub made_bank : (d0 d1 d2 : Draft) (a0 a1 a2 : Accesses) (n : ℕ) (e : Expr) (r : Ref) (bank : ℕ) (at : _) (t : plain.Term) (aim : Aim) (valued : Valued)
      → form_seen e.form ≡ plain.in_bank r bank at t → MadeRow scene lane current t d0 d1 a0 a1 n aim
      → MadeNext scene lane (term_seen e) r aim d1 d2 a1 a2 valued
      → MadeTerm scene lane current (term_seen e) d0 d2 a0 a2 n valued.next valued.value
  made_bank d0 d1 d2 a0 a1 a2 n e r bank at t aim valued is parts h =
      made_form d0 d2 a0 a2 n e (plain.in_bank r bank at t) valued.next valued.value is (record {
        middle = d1;
        between = a1;
        aim = aim;
        value = parts.value;
        none = parts.none;
        steps = parts.steps;
        row_is = parts.row_is;
        row = parts.row;
        reads = subst (λ (g : plain.TermForm). MadeRead scene lane (plain.term e.place e.kind g) (memory_of (known_in scene) r) aim d1 d2 a1 a2 valued.value) is h.reads;
        next_is = h.next_is;
      })

  -- The loop over indices: whatever those to come make, all make from the start.
  pub record Makes (d0 : Draft) (a0 : Accesses) (n : ℕ) (all : List Expr) (i : ℕ) (d : Draft) (a : Accesses) (values : List ℕ) (number : ℕ) : Type 0 where
    pub makes : (new : Draft) (after : Accesses) (more : List ℕ) (next : ℕ)
        → MadeTerms scene lane current (terms (map term_seen (drop i all))) d new a after number next more
        → MadeTerms scene lane current (terms (map term_seen all)) d0 new a0 after n next (values ++ more)

  pub makes_first : (d : Draft) (a : Accesses) (n : ℕ) (all : List Expr) → Makes d a n all 0 d a [] n
  makes_first d a n all = record { makes = λ new after more next h. h }

  pub makes_on : (d0 : Draft) (a0 : Accesses) (n : ℕ) (all : List Expr) (i : ℕ) (d e : Draft) (a b : Accesses) (values grown : List ℕ) (number : ℕ) (x : Expr) (r : Valued)
      → i < length all → x ≡ get_or all i x → grown ≡ values ++ r.value ∷ []
      → MadeTerm scene lane current (term_seen x) d e a b number r.next r.value → Makes d0 a0 n all i d a values number → Makes d0 a0 n all (suc i) e b grown r.next
  makes_on d0 a0 n all i d e a b values grown number x r within is added t m = record {
    makes = λ new after more next h.
        let split : drop i all ≡ x ∷ drop (suc i) all = drop-cons all i x within ∙ ap (λ y. y ∷ drop (suc i) all) (sym is) in
        subst (λ (vs : List ℕ). MadeTerms scene lane current (terms (map term_seen all)) d0 new a0 after n next vs)
        (sym (ap (λ vs. vs ++ more) added ∙ append_assoc values (r.value ∷ []) more))
        (m.makes new after (r.value ∷ more) next
        (subst (λ (es : List Expr). MadeTerms scene lane current (terms (map term_seen es)) d new a after number next (r.value ∷ more)) (sym split)
        (record { middle = e; between = b; own = r.next; a = r.value; more = more; first = t; rest = h; values_are = refl })));
  }

  pub makes_last : (d0 d : Draft) (a0 a : Accesses) (n : ℕ) (all : List Expr) (i : ℕ) (values : List ℕ) (number : ℕ)
      → drop i all ≡ [] → Makes d0 a0 n all i d a values number → MadeTerms scene lane current (terms (map term_seen all)) d0 d a0 a n number values
  makes_last d0 d a0 a n all i values number over m =
      subst (λ (vs : List ℕ). MadeTerms scene lane current (terms (map term_seen all)) d0 d a0 a n number vs) (append-nil values)
      (m.makes d a [] number (subst (λ (es : List Expr). MadeTerms scene lane current (terms (map term_seen es)) d d a a number number []) (sym over)
      (record { still = refl; same = refl; next_is = refl; none = refl })))
