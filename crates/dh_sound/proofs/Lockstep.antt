-- Copies in lockstep, seen from one path. A command at several paths does at each of them what it does there
-- alone: where each variable that is assigned has one value for each path, an assignment at another path is not
-- seen. So for a path among those of the commands, what is seen of variables, accesses and faults at this path
-- is what the commands do at it; for another path nothing changes.
use Rattle.std.proofs.Common.{◌≡◌, ◌⊎◌, inl, inr, ℕ, ◌≤◌, nat_eq, Bool, true, false, ◌&&◌, if◌then◌else◌, List, [], ◌∷◌, ◌++◌, take, length, Option, Some, None, refl, sym, ◌∙◌, ap, subst, arith, ℤ, drop, suc}
use Rattle.std.proofs.lemmas.List.{append_assoc, append-nil, take_all, length-take}
use Rattle.std.proofs.lemmas.Cmp.{nat_list_eq_equiv}
use Rattle.dh_value.specs.Operations as operations
use Rattle.dh_value.specs.Operations.{binary_of}
use Rattle.dh_value.specs.Words as words
use Rattle.dh_value.specs.Words.{word_of, with_bits}
use Rattle.dh_tree.specs.Elements.{Spot}
use Rattle.dh_meaning.specs.Core.{Reach, CoreTerm, literal, truth_literal, variable, read, binary, convert, Target, by_indices, by_row, CoreTerms, no_terms, term_and, CoreCommand, store, assign, choose, CoreCommands, no_commands, command_and}
use Rattle.dh_meaning.specs.Effects.{Begun, Variables, set_variable, value_of_term, values_of, spot_reached, spot_by_indices, spot_by_row, bits_at, kind_in, kept_bits, term_events, target_events, terms_events, read_made, write_made, Effect, Event, reads, writes, faults, with_events, store_events, at_each, stored_at, assigned_at, tested_at, paths_where, holds_at, command_run, commands_run}
use Rattle.dh_meaning.specs.Paths.{Path, same_path}
use Rattle.dh_carried.proofs.Pigeons.{Has, NoTwice}
use Rattle.dh_sound.proofs.Counting.{same_list}
use Rattle.dh_sound.proofs.OnePath.{left_by, all_left_by, made_by, all_made_by}
use Rattle.dh_sound.specs.Deep.{IsDeep, AreDeep}
use Rattle.dh_meaning.specs.Core.{by_views, keep}
use Rattle.dh_meaning.specs.Effects.{kept_at, set_from, spot_by_views}

-- the path of an event
abbrev pub path_of : Event → Path
path_of (reads number place path s) = path
path_of (writes number place path s value) = path
path_of (faults number place path kind) = path

-- the events at a path
abbrev pub events_at : Path → List Event → List Event
events_at path [] = []
events_at path (e ∷ es) = if same_path (path_of e) path then e ∷ events_at path es else events_at path es

pub events_joined : (path : Path) (es fs : List Event) → events_at path (es ++ fs) ≡ events_at path es ++ events_at path fs
events_joined path [] fs = refl
events_joined path (e ∷ es) fs = by (same_path (path_of e) path) (events_joined path es fs)
  where
    by : (b : Bool) → events_at path (es ++ fs) ≡ events_at path es ++ events_at path fs
        → (if b then e ∷ events_at path (es ++ fs) else events_at path (es ++ fs)) ≡ (if b then e ∷ events_at path es else events_at path es) ++ events_at path fs
    by true h = ap (λ l. e ∷ l) h
    by false h = h

-- every one of these is at the path
abbrev pub AllAt : Path → List Event → Type 0
AllAt path [] = Unit {0}
AllAt path (e ∷ es) = (path_of e ≡ path) × AllAt path es

all_at_both : (path : Path) (es fs : List Event) → AllAt path es → AllAt path fs → AllAt path (es ++ fs)
all_at_both path [] fs a b = b
all_at_both path (e ∷ es) fs a b = (a.0, all_at_both path es fs a.1 b)

here_all : (path : Path) (es : List Event) → AllAt path es → events_at path es ≡ es
here_all path [] a = refl
here_all path (e ∷ es) a =
    ap (λ b. if b then e ∷ events_at path es else events_at path es) (ap (λ p. same_path p path) a.0 ∙ nat_list_eq_equiv.refl path) ∙ ap (λ l. e ∷ l) (here_all path es a.1)

differs : (p q : Path) → (p ≡ q → ⊥) → same_path p q ≡ false
differs p q apart_is = by (same_path p q) refl
  where
    by : (b : Bool) → same_path p q ≡ b → same_path p q ≡ false
    by true e = elim (apart_is (same_list p q e)) [ ]
    by false e = e

elsewhere_none : (path other : Path) (es : List Event) → AllAt other es → (other ≡ path → ⊥) → events_at path es ≡ []
elsewhere_none path other [] a apart_is = refl
elsewhere_none path other (e ∷ es) a apart_is =
    ap (λ b. if b then e ∷ events_at path es else events_at path es) (ap (λ p. same_path p path) a.0 ∙ differs other path apart_is) ∙ elsewhere_none path other es a.1 apart_is

-- Where events stand.
module _ (b : Begun) (path : Path) where
  one_at : (e : Event) → path_of e ≡ path → AllAt path (e ∷ [])
  one_at e h = (h, tt)

  read_at : (r : Reach) (s : Option Spot) → path_of (read_made r path s) ≡ path
  read_at r None = refl
  read_at r (Some s) = refl

  write_at : (r : Reach) (v : ℕ) (s : Option Spot) → path_of (write_made r path v s) ≡ path
  write_at r v None = refl
  write_at r v (Some s) = refl

  mutual
    pub term_at : (v : Variables) (t : CoreTerm) → AllAt path (term_events b v path t)
    term_at v (literal kind negative n) = tt
    term_at v (truth_literal value) = tt
    term_at v (variable kind depth entity) = tt
    term_at v (read r target) = all_at_both path _ _ (target_at v target) (one_at (read_made r path (spot_reached b v path r target)) (read_at r (spot_reached b v path r target)))
    term_at v (binary op left right) = all_at_both path _ _ (term_at v left) (term_at v right)
    term_at v (convert to inner) = term_at v inner

    pub target_at : (v : Variables) (t : Target) → AllAt path (target_events b v path t)
    target_at v (by_indices indices) = terms_at v indices
    target_at v (by_views steps count terms) = terms_at v terms
    target_at v (by_row bank row) = term_at v row

    pub terms_at : (v : Variables) (ts : CoreTerms) → AllAt path (terms_events b v path ts)
    terms_at v no_terms = tt
    terms_at v (term_and t ts) = all_at_both path _ _ (term_at v t) (terms_at v ts)

  pub store_at : (v : Variables) (r : Reach) (target : Target) (value : CoreTerm) → AllAt path (store_events b v path r target value)
  store_at v r target value =
      all_at_both path _ _ (term_at v value) (all_at_both path _ _ (target_at v target) (one_at (write_made r path (kept_bits b.table r.memory (value_of_term b v path value)) (spot_reached b v path r target)) (write_at r (kept_bits b.table r.memory (value_of_term b v path value)) (spot_reached b v path r target))))

-- Variables as they are seen at a path.
abbrev pub AgreeAt : Path → Variables → Variables → Type 0
AgreeAt path v w = (e d : ℕ) → v e (take d path) ≡ w e (take d path)

module _ (b : Begun) (path : Path) (v w : Variables) (a : AgreeAt path v w) where
  mutual
    pub value_seen : (t : CoreTerm) → value_of_term b v path t ≡ value_of_term b w path t
    value_seen (literal kind negative n) = refl
    value_seen (truth_literal value) = refl
    value_seen (variable kind depth entity) = ap (λ z. word_of kind z) (a entity depth)
    value_seen (read r target) = ap (λ s. with_bits (kind_in b.table r.memory) (bits_at b.memories s)) (spot_seen r target)
    value_seen (binary op left right) = ap (λ x. binary_of op x (value_of_term b v path right)) (value_seen left) ∙ ap (λ x. binary_of op (value_of_term b w path left) x) (value_seen right)
    value_seen (convert to inner) = ap (λ x. word_of to (words.value_of x)) (value_seen inner)

    pub spot_seen : (r : Reach) (target : Target) → spot_reached b v path r target ≡ spot_reached b w path r target
    spot_seen r (by_indices indices) = ap (λ zs. spot_by_indices b.table r.memory zs) (values_seen indices)
    spot_seen r (by_views steps count terms) = ap (λ zs. spot_by_views b.table r.memory steps (take count zs) (drop count zs)) (values_seen terms)
    spot_seen r (by_row bank row) = ap (λ x. spot_by_row b.table r.memory bank (words.value_of x)) (value_seen row)

    pub values_seen : (ts : CoreTerms) → values_of b v path ts ≡ values_of b w path ts
    values_seen no_terms = refl
    values_seen (term_and t ts) = ap (λ x. words.value_of x ∷ values_of b v path ts) (value_seen t) ∙ ap (λ zs. words.value_of (value_of_term b w path t) ∷ zs) (values_seen ts)

  both_parts : (es fs gs hs : List Event) → es ≡ gs → fs ≡ hs → es ++ fs ≡ gs ++ hs
  both_parts es fs gs hs e f = ap (λ l. l ++ fs) e ∙ ap (λ l. gs ++ l) f

  mutual
    pub term_events_seen : (t : CoreTerm) → term_events b v path t ≡ term_events b w path t
    term_events_seen (literal kind negative n) = refl
    term_events_seen (truth_literal value) = refl
    term_events_seen (variable kind depth entity) = refl
    term_events_seen (read r target) = both_parts _ _ _ _ (target_events_seen target) (ap (λ s. read_made r path s ∷ []) (spot_seen r target))
    term_events_seen (binary op left right) = both_parts _ _ _ _ (term_events_seen left) (term_events_seen right)
    term_events_seen (convert to inner) = term_events_seen inner

    pub target_events_seen : (t : Target) → target_events b v path t ≡ target_events b w path t
    target_events_seen (by_indices indices) = terms_events_seen indices
    target_events_seen (by_views steps count terms) = terms_events_seen terms
    target_events_seen (by_row bank row) = term_events_seen row

    pub terms_events_seen : (ts : CoreTerms) → terms_events b v path ts ≡ terms_events b w path ts
    terms_events_seen no_terms = refl
    terms_events_seen (term_and t ts) = both_parts _ _ _ _ (term_events_seen t) (terms_events_seen ts)

  store_seen : (r : Reach) (target : Target) (value : CoreTerm) → store_events b v path r target value ≡ store_events b w path r target value
  store_seen r target value =
      both_parts _ _ _ _ (term_events_seen value)
      (both_parts _ _ _ _ (target_events_seen target)
      (ap (λ x. write_made r path (kept_bits b.table r.memory x) (spot_reached b v path r target) ∷ []) (value_seen value) ∙ ap (λ s. write_made r path (kept_bits b.table r.memory (value_of_term b w path value)) s ∷ []) (spot_seen r target)))

  holds_seen : (t : CoreTerm) → holds_at b v t path ≡ holds_at b w t path
  holds_seen t = ap operations.is_true (value_seen t)

-- What one run does to another's view.

-- at this path an effect has become another: its variables agree with these, and these events were added
pub record Seen (path : Path) (before after : Effect) (v : Variables) (es : List Event) : Type 0 where
  pub variables : AgreeAt path after.variables v
  pub events : events_at path after.events ≡ events_at path before.events ++ es

pub unseen : (path : Path) (e : Effect) → Seen path e e e.variables []
unseen path e = record { variables = λ x d. refl; events = sym (append-nil (events_at path e.events)) }

pub seen_then : (path : Path) (e f g : Effect) (v w : Variables) (es fs : List Event) → Seen path e f v es → Seen path f g w fs → Seen path e g w (es ++ fs)
seen_then path e f g v w es fs s t = record {
  variables = t.variables;
  events = t.events ∙ (ap (λ l. l ++ fs) s.events ∙ append_assoc (events_at path e.events) es fs);
}

-- nothing has changed at a path
pub record Same (path : Path) (before after : Effect) : Type 0 where
  pub variables : AgreeAt path after.variables before.variables
  pub events : events_at path after.events ≡ events_at path before.events

pub same_then : (path : Path) (e f g : Effect) → Same path e f → Same path f g → Same path e g
same_then path e f g s t = record { variables = λ x d. t.variables x d ∙ s.variables x d; events = t.events ∙ s.events }

pub same_seen : (path : Path) (e f g : Effect) (w : Variables) (fs : List Event) → Same path e f → Seen path f g w fs → Seen path e g w fs
same_seen path e f g w fs s t = record { variables = t.variables; events = t.events ∙ ap (λ l. l ++ fs) s.events }

pub seen_same : (path : Path) (e f g : Effect) (w : Variables) (fs : List Event) → Seen path e f w fs → Same path f g → Seen path e g w fs
seen_same path e f g w fs s t = record { variables = λ x d. t.variables x d ∙ s.variables x d; events = t.events ∙ s.events }

-- What a run of each path does: at that path its own, at another of the same length nothing.
pub record Goes (depth : ℕ) (run : Path → Effect → Effect) (left : Path → Variables → Variables) (made : Path → Variables → List Event) : Type 0 where
  pub here : (path : Path) (e : Effect) (v : Variables) → length path ≡ depth → AgreeAt path e.variables v → Seen path e (run path e) (left path v) (made path v)
  pub there : (path other : Path) (e : Effect) → length path ≡ depth → length other ≡ depth → (path ≡ other → ⊥) → Same other e (run path e)

-- all of these have a length
abbrev pub AllLong : ℕ → List Path → Type 0
AllLong depth [] = Unit {0}
AllLong depth (p ∷ ps) = (length p ≡ depth) × AllLong depth ps

module _ (depth : ℕ) (run : Path → Effect → Effect) (left : Path → Variables → Variables) (made : Path → Variables → List Event) (g : Goes depth run left made) where
  pub each_other : (paths : List Path) (other : Path) (e : Effect) → AllLong depth paths → length other ≡ depth → (Has other paths → ⊥) → Same other e (at_each run paths e)
  each_other [] other e a l apart_is = record { variables = λ x d. refl; events = refl }
  each_other (p ∷ ps) other e a l apart_is =
      same_then other e (run p e) (at_each run ps (run p e)) (g.there p other e a.0 l (λ h. apart_is (inl (sym h)))) (each_other ps other (run p e) a.1 l (λ h. apart_is (inr h)))

  pub each_own : (paths : List Path) (path : Path) (e : Effect) (v : Variables) → AllLong depth paths → NoTwice paths → Has path paths → AgreeAt path e.variables v
      → Seen path e (at_each run paths e) (left path v) (made path v)
  each_own [] path e v a o h s = elim h [ ]
  each_own (p ∷ ps) path e v a o (inl h) s =
      let l : length path ≡ depth = ap length h ∙ a.0 in
      seen_same path e (run p e) (at_each run ps (run p e)) _ _
      (subst (λ (q : Path). Seen path e (run q e) (left path v) (made path v)) h (g.here path e v l s))
      (each_other ps path (run p e) a.1 l (λ k. o.0 (subst (λ (q : Path). Has q ps) h k)))
  each_own (p ∷ ps) path e v a o (inr h) s =
      let apart_is : p ≡ path → ⊥ = (λ k. o.0 (subst (λ (q : Path). Has q ps) (sym k) h)) in
      let same = g.there p path e a.0 (long_one ps a.1 h) apart_is in
      same_seen path e (run p e) (at_each run ps (run p e)) _ _ same
      (each_own ps path (run p e) v a.1 o.1 h (λ x d. same.variables x d ∙ s x d))
    where
      long_one : (qs : List Path) → AllLong depth qs → Has path qs → length path ≡ depth
      long_one [] a h = elim h [ ]
      long_one (q ∷ qs) a (inl h) = ap length h ∙ a.0
      long_one (q ∷ qs) a (inr h) = long_one qs a.1 h

-- Variables that are set.
set_own : (v w : Variables) (path : Path) (entity depth : ℕ) (z y : ℤ) → z ≡ y → AgreeAt path v w → AgreeAt path (set_variable v entity (take depth path) z) (set_variable w entity (take depth path) y)
set_own v w path entity depth z y e a x d = by (nat_eq x entity && same_path (take d path) (take depth path))
  where
    by : (b : Bool) → (if b then z else v x (take d path)) ≡ (if b then y else w x (take d path))
    by true = e
    by false = a x d

set_other : (v : Variables) (path other : Path) (entity depth : ℕ) (z : ℤ) → length path ≤ depth → length path ≡ length other → (path ≡ other → ⊥) → AgreeAt other (set_variable v entity (take depth path) z) v
set_other v path other entity depth z deep long apart_is x d =
    ap (λ b. if b then z else v x (take d other)) (and_false (nat_eq x entity) _ (differs (take d other) (take depth path) apart))
  where
    and_false : (a c : Bool) → c ≡ false → (a && c) ≡ false
    and_false true c e = e
    and_false false c e = refl

    apart : take d other ≡ take depth path → ⊥
    apart e =
        let f : take d other ≡ path = e ∙ take_all depth path deep in
        let m = ap length f in
        let n = length-take d other in
        apart_is (sym f ∙ take_all d other (grind arith))

-- several of them
all_set_own : (v w : Variables) (path : Path) (first depth : ℕ) (zs : List ℤ) → AgreeAt path v w → AgreeAt path (set_from v first (take depth path) zs) (set_from w first (take depth path) zs)
all_set_own v w path first depth [] a = a
all_set_own v w path first depth (z ∷ zs) a =
    all_set_own (set_variable v first (take depth path) z) (set_variable w first (take depth path) z) path (suc first) depth zs (set_own v w path first depth z z refl a)

all_set_other : (v : Variables) (path other : Path) (first depth : ℕ) (zs : List ℤ) → length path ≤ depth → length path ≡ length other → (path ≡ other → ⊥) → AgreeAt other (set_from v first (take depth path) zs) v
all_set_other v path other first depth [] deep long apart_is x d = refl
all_set_other v path other first depth (z ∷ zs) deep long apart_is x d =
    all_set_other (set_variable v first (take depth path) z) path other (suc first) depth zs deep long apart_is x d ∙ set_other v path other first depth z deep long apart_is x d

module _ (b : Begun) (depth : ℕ) where
  adds_seen : (path : Path) (e : Effect) (v : Variables) (es : List Event) → AgreeAt path e.variables v → AllAt path es → Seen path e (with_events e es) v es
  adds_seen path e v es a all = record { variables = a; events = events_joined path e.events es ∙ ap (λ l. events_at path e.events ++ l) (here_all path es all) }

  adds_same : (path other : Path) (e : Effect) (es : List Event) → AllAt path es → (path ≡ other → ⊥) → Same other e (with_events e es)
  adds_same path other e es all apart_is = record {
    variables = λ x d. refl;
    events = events_joined other e.events es ∙ (ap (λ l. events_at other e.events ++ l) (elsewhere_none other path es all apart_is) ∙ append-nil (events_at other e.events));
  }

  pub store_goes : (r : Reach) (target : Target) (value : CoreTerm) → Goes depth (stored_at b r target value) (λ path v. v) (λ path v. store_events b v path r target value)
  store_goes r target value = record {
    here = λ path e v l a. subst (λ (es : List Event). Seen path e (stored_at b r target value path e) v es) (store_seen b path e.variables v a r target value) (adds_seen path e v _ a (store_at b path e.variables r target value));
    there = λ path other e l m apart_is. adds_same path other e _ (store_at b path e.variables r target value) apart_is;
  }

  pub test_goes : (test : CoreTerm) → Goes depth (tested_at b test) (λ path v. v) (λ path v. term_events b v path test)
  test_goes test = record {
    here = λ path e v l a. subst (λ (es : List Event). Seen path e (tested_at b test path e) v es) (term_events_seen b path e.variables v a test) (adds_seen path e v _ a (term_at b path e.variables test));
    there = λ path other e l m apart_is. adds_same path other e _ (term_at b path e.variables test) apart_is;
  }

  pub assign_goes : (d entity : ℕ) (value : CoreTerm) → depth ≤ d
      → Goes depth (assigned_at b d entity value) (λ path v. set_variable v entity (take d path) (words.value_of (value_of_term b v path value))) (λ path v. term_events b v path value)
  assign_goes d entity value deep = record { here = own; there = others }
    where
      own : (path : Path) (e : Effect) (v : Variables) → length path ≡ depth → AgreeAt path e.variables v
          → Seen path e (assigned_at b d entity value path e) (set_variable v entity (take d path) (words.value_of (value_of_term b v path value))) (term_events b v path value)
      own path e v l a = record {
        variables = set_own e.variables v path entity d _ _ (ap words.value_of (value_seen b path e.variables v a value)) a;
        events = events_joined path e.events _ ∙ ap (λ l. events_at path e.events ++ l) (here_all path _ (term_at b path e.variables value) ∙ term_events_seen b path e.variables v a value);
      }

      others : (path other : Path) (e : Effect) → length path ≡ depth → length other ≡ depth → (path ≡ other → ⊥) → Same other e (assigned_at b d entity value path e)
      others path other e l m apart_is = record {
        variables = set_other e.variables path other entity d _ (omega (arith, l, deep)) (l ∙ sym m) apart_is;
        events = (adds_same path other e _ (term_at b path e.variables value) apart_is).events;
      }

  pub keep_goes : (d first : ℕ) (values : CoreTerms) → depth ≤ d
      → Goes depth (kept_at b d first values) (λ path v. set_from v first (take d path) (values_of b v path values)) (λ path v. terms_events b v path values)
  keep_goes d first values deep = record { here = own; there = others }
    where
      own : (path : Path) (e : Effect) (v : Variables) → length path ≡ depth → AgreeAt path e.variables v
          → Seen path e (kept_at b d first values path e) (set_from v first (take d path) (values_of b v path values)) (terms_events b v path values)
      own path e v l a = record {
        variables = subst (λ (zs : List ℤ). AgreeAt path (set_from e.variables first (take d path) (values_of b e.variables path values)) (set_from v first (take d path) zs)) (values_seen b path e.variables v a values)
            (all_set_own e.variables v path first d (values_of b e.variables path values) a);
        events = events_joined path e.events _ ∙ ap (λ l. events_at path e.events ++ l) (here_all path _ (terms_at b path e.variables values) ∙ terms_events_seen b path e.variables v a values);
      }

      others : (path other : Path) (e : Effect) → length path ≡ depth → length other ≡ depth → (path ≡ other → ⊥) → Same other e (kept_at b d first values path e)
      others path other e l m apart_is = record {
        variables = all_set_other e.variables path other first d (values_of b e.variables path values) (omega (arith, l, deep)) (l ∙ sym m) apart_is;
        events = (adds_same path other e _ (terms_at b path e.variables values) apart_is).events;
      }

  -- Paths that a test picks.
  pub picked_has : (test : Path → Bool) (path : Path) (ps : List Path) → Has path ps → test path ≡ true → Has path (paths_where true test ps)
  picked_has test path [] h e = h
  picked_has test path (p ∷ ps) h e = by (test p) refl h (λ k. picked_has test path ps k e)
    where
      by : (c : Bool) → test p ≡ c → (path ≡ p) ⊎ Has path ps → (Has path ps → Has path (paths_where true test ps)) → Has path (if c then p ∷ paths_where true test ps else paths_where true test ps)
      by true s (inl k) more = inl k
      by true s (inr k) more = inr (more k)
      by false s (inl k) more = let t : test p ≡ true = subst (λ (q : Path). test q ≡ true) k e in cc
      by false s (inr k) more = more k

  pub passed_has : (test : Path → Bool) (path : Path) (ps : List Path) → Has path ps → test path ≡ false → Has path (paths_where false test ps)
  passed_has test path [] h e = h
  passed_has test path (p ∷ ps) h e = by (test p) refl h (λ k. passed_has test path ps k e)
    where
      by : (c : Bool) → test p ≡ c → (path ≡ p) ⊎ Has path ps → (Has path ps → Has path (paths_where false test ps)) → Has path (if c then paths_where false test ps else p ∷ paths_where false test ps)
      by false s (inl k) more = inl k
      by false s (inr k) more = inr (more k)
      by true s (inl k) more = let t : test p ≡ false = subst (λ (q : Path). test q ≡ false) k e in cc
      by true s (inr k) more = more k

  pub has_picked : (test : Path → Bool) (path : Path) (ps : List Path) → Has path (paths_where true test ps) → Has path ps × (test path ≡ true)
  has_picked test path [] h = elim h [ ]
  has_picked test path (p ∷ ps) h = by (test p) refl (has_picked test path ps) h
    where
      by : (c : Bool) → test p ≡ c → (Has path (paths_where true test ps) → Has path ps × (test path ≡ true)) → Has path (if c then p ∷ paths_where true test ps else paths_where true test ps)
          → ((path ≡ p) ⊎ Has path ps) × (test path ≡ true)
      by true s more (inl k) = (inl k, subst (λ (q : Path). test q ≡ true) (sym k) s)
      by true s more (inr k) = (inr (more k).0, (more k).1)
      by false s more k = (inr (more k).0, (more k).1)

  pub has_passed : (test : Path → Bool) (path : Path) (ps : List Path) → Has path (paths_where false test ps) → Has path ps × (test path ≡ false)
  has_passed test path [] h = elim h [ ]
  has_passed test path (p ∷ ps) h = by (test p) refl (has_passed test path ps) h
    where
      by : (c : Bool) → test p ≡ c → (Has path (paths_where false test ps) → Has path ps × (test path ≡ false)) → Has path (if c then paths_where false test ps else p ∷ paths_where false test ps)
          → ((path ≡ p) ⊎ Has path ps) × (test path ≡ false)
      by false s more (inl k) = (inl k, subst (λ (q : Path). test q ≡ false) (sym k) s)
      by false s more (inr k) = (inr (more k).0, (more k).1)
      by true s more k = (inr (more k).0, (more k).1)

  -- paths that a test picks are paths that do not repeat, of the same length
  pub record AreCopies (ps : List Path) : Type 0 where
    pub long : AllLong depth ps
    pub once : NoTwice ps

  picked_copies : (test : Path → Bool) (ps : List Path) → AreCopies ps → AreCopies (paths_where true test ps)
  picked_copies test [] c = c
  picked_copies test (p ∷ ps) c = by (test p) (picked_copies test ps (record { long = c.long.1; once = c.once.1 }))
    where
      by : (a : Bool) → AreCopies (paths_where true test ps) → AreCopies (if a then p ∷ paths_where true test ps else paths_where true test ps)
      by true d = record { long = (c.long.0, d.long); once = ((λ h. c.once.0 (has_picked test p ps h).0), d.once) }
      by false d = d

  passed_copies : (test : Path → Bool) (ps : List Path) → AreCopies ps → AreCopies (paths_where false test ps)
  passed_copies test [] c = c
  passed_copies test (p ∷ ps) c = by (test p) (passed_copies test ps (record { long = c.long.1; once = c.once.1 }))
    where
      by : (a : Bool) → AreCopies (paths_where false test ps) → AreCopies (if a then paths_where false test ps else p ∷ paths_where false test ps)
      by false d = record { long = (c.long.0, d.long); once = ((λ h. c.once.0 (has_passed test p ps h).0), d.once) }
      by true d = d

  -- commands at paths: what each path sees
  mutual
    pub others_command : (ps : List Path) (other : Path) (c : CoreCommand) (e : Effect) → AreCopies ps → IsDeep depth c → length other ≡ depth → (Has other ps → ⊥) → Same other e (command_run b ps c e)
    others_command ps other (store r target value) e c d l out = each_other depth _ _ _ (store_goes r target value) ps other e c.long l out
    others_command ps other (keep x first values) e c d l out = each_other depth _ _ _ (keep_goes x first values d) ps other e c.long l out
    others_command ps other (assign x entity value) e c d l out = each_other depth _ _ _ (assign_goes x entity value d) ps other e c.long l out
    others_command ps other (choose test chosen alt) e c d l out =
        let t = each_other depth _ _ _ (test_goes test) ps other e c.long l out in
        let holds = holds_at b e.variables test in
        same_then other e (at_each (tested_at b test) ps e) _ t
        (same_then other (at_each (tested_at b test) ps e) (commands_run b (paths_where true holds ps) chosen (at_each (tested_at b test) ps e)) _
        (others_commands (paths_where true holds ps) other chosen _ (picked_copies holds ps c) d.0 l (λ h. out (has_picked holds other ps h).0))
        (others_commands (paths_where false holds ps) other alt _ (passed_copies holds ps c) d.1 l (λ h. out (has_passed holds other ps h).0)))

    pub others_commands : (ps : List Path) (other : Path) (cs : CoreCommands) (e : Effect) → AreCopies ps → AreDeep depth cs → length other ≡ depth → (Has other ps → ⊥) → Same other e (commands_run b ps cs e)
    others_commands ps other no_commands e c d l out = record { variables = λ x k. refl; events = refl }
    others_commands ps other (command_and x cs) e c d l out =
        same_then other e (command_run b ps x e) _ (others_command ps other x e c d.0 l out) (others_commands ps other cs (command_run b ps x e) c d.1 l out)

  path_long : (ps : List Path) (path : Path) → AllLong depth ps → Has path ps → length path ≡ depth
  path_long [] path a h = elim h [ ]
  path_long (p ∷ ps) path a (inl h) = ap length h ∙ a.0
  path_long (p ∷ ps) path a (inr h) = path_long ps path a.1 h

  choice_seen : (ps : List Path) (path : Path) (test : CoreTerm) (chosen alt : CoreCommands) (e : Effect) (v : Variables) → AreCopies ps → AreDeep depth chosen × AreDeep depth alt → Has path ps
      → Seen path e (at_each (tested_at b test) ps e) v (term_events b v path test)
      → (t : Bool) → holds_at b e.variables test path ≡ holds_at b v test path → holds_at b v test path ≡ t
      → (AreCopies (paths_where true (holds_at b e.variables test) ps) → AreDeep depth chosen → Has path (paths_where true (holds_at b e.variables test) ps) → AgreeAt path (at_each (tested_at b test) ps e).variables v
      → Seen path (at_each (tested_at b test) ps e) (commands_run b (paths_where true (holds_at b e.variables test) ps) chosen (at_each (tested_at b test) ps e)) (all_left_by b path chosen v) (all_made_by b path chosen v))
      → ((f : Effect) (w : Variables) → AreCopies (paths_where false (holds_at b e.variables test) ps) → AreDeep depth alt → Has path (paths_where false (holds_at b e.variables test) ps) → AgreeAt path f.variables w
      → Seen path f (commands_run b (paths_where false (holds_at b e.variables test) ps) alt f) (all_left_by b path alt w) (all_made_by b path alt w))
      → Seen path e (command_run b ps (choose test chosen alt) e) (if t then all_left_by b path chosen v else all_left_by b path alt v) (term_events b v path test ++ (if t then all_made_by b path chosen v else all_made_by b path alt v))
  choice_seen ps path test chosen alt e v c d h t true same is first second =
      let holds = holds_at b e.variables test in
      let s = first (picked_copies holds ps c) d.0 (picked_has holds path ps h (same ∙ is)) t.variables in
      let out : Has path (paths_where false holds ps) → ⊥ = (λ k. let f = (has_passed holds path ps k).1 in let g = same ∙ is in cc) in
      seen_same path e _ _ _ _ (seen_then path e _ _ _ _ _ _ t s) (others_commands (paths_where false holds ps) path alt _ (passed_copies holds ps c) d.1 (path_long ps path c.long h) out)
  choice_seen ps path test chosen alt e v c d h t false same is first second =
      let holds = holds_at b e.variables test in
      let out : Has path (paths_where true holds ps) → ⊥ = (λ k. let f = (has_picked holds path ps k).1 in let g = same ∙ is in cc) in
      let o = others_commands (paths_where true holds ps) path chosen (at_each (tested_at b test) ps e) (picked_copies holds ps c) d.0 (path_long ps path c.long h) out in
      let s = seen_same path e _ _ _ _ t o in
      seen_then path e _ _ _ _ _ _ s (second _ v (passed_copies holds ps c) d.1 (passed_has holds path ps h (same ∙ is)) s.variables)

  mutual
    pub own_command : (ps : List Path) (path : Path) (c : CoreCommand) (e : Effect) (v : Variables) → AreCopies ps → IsDeep depth c → Has path ps → AgreeAt path e.variables v
        → Seen path e (command_run b ps c e) (left_by b path c v) (made_by b path c v)
    own_command ps path (store r target value) e v c d h a = each_own depth _ _ _ (store_goes r target value) ps path e v c.long c.once h a
    own_command ps path (keep x first values) e v c d h a = each_own depth _ _ _ (keep_goes x first values d) ps path e v c.long c.once h a
    own_command ps path (assign x entity value) e v c d h a = each_own depth _ _ _ (assign_goes x entity value d) ps path e v c.long c.once h a
    own_command ps path (choose test chosen alt) e v c d h a =
        let t = each_own depth _ _ _ (test_goes test) ps path e v c.long c.once h a in
        let same = holds_seen b path e.variables v a test in
        choice_seen ps path test chosen alt e v c d h t (holds_at b v test path) same refl
        (own_commands (paths_where true (holds_at b e.variables test) ps) path chosen (at_each (tested_at b test) ps e) v) (own_commands (paths_where false (holds_at b e.variables test) ps) path alt)

    pub own_commands : (ps : List Path) (path : Path) (cs : CoreCommands) (e : Effect) (v : Variables) → AreCopies ps → AreDeep depth cs → Has path ps → AgreeAt path e.variables v
        → Seen path e (commands_run b ps cs e) (all_left_by b path cs v) (all_made_by b path cs v)
    own_commands ps path no_commands e v c d h a = record { variables = a; events = sym (append-nil (events_at path e.events)) }
    own_commands ps path (command_and x cs) e v c d h a =
        let s = own_command ps path x e v c d.0 h a in
        seen_then path e (command_run b ps x e) _ _ _ _ _ s (own_commands ps path cs (command_run b ps x e) (left_by b path x v) c d.1 h s.variables)
