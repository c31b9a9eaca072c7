-- Nested lists, item by item: sizes, and the elements in order of indices.
use Rattle.std.proofs.Common.{◌≡◌, ℕ, zero, suc, ◌+◌, List, [], ◌∷◌, ◌++◌, length, Bool, true, false, Option, Some, None, unwrap_or, subst, sym, ap, ◌∙◌, arith, append_assoc, append-nil, zero-add}
use Rattle.std.proofs.lemmas.Option.{none-some, same_Some}
use Rattle.serde_json.specs.Data.{Data, null, boolean, number, string, array, object, Items, no_items}
use Rattle.serde_json.specs.Events.{items_len}
use Rattle.serde_json.specs.Find.{as_array}
use Rattle.serde_json.specs.View.{view, items_view}
use Rattle.serde_json.specs.declared.value.Value.{Value}
use Rattle.serde_json.proofs.Views.{items_len-items_view}
use Rattle.std.proofs.lemmas.List.{length-append}
use Rattle.dh_value.specs.declared.kinds.Kind.{Kind}
use Rattle.dh_tree.specs.declared.tables.Dim.{Dim}
use Rattle.dh_data.specs.DataFiles.{HasDeclaredSizes, EachItem, joined_items, in_order, IsNoElement, AreElements, IsFirstIndex}
use Rattle.dh_data.specs.Reading.{PushesElements, PushesBits}

of_array : (d : Data) (ds : Items) → Some ds ≡ as_array d → d ≡ array ds
of_array null ds e = absurd (none-some ds (sym e))
of_array (boolean b) ds e = absurd (none-some ds (sym e))
of_array (number n) ds e = absurd (none-some ds (sym e))
of_array (string s) ds e = absurd (none-some ds (sym e))
of_array (array d) ds e = ap array (same_Some _ _ (sym e))
of_array (object m) ds e = absurd (none-some ds (sym e))

-- lists of another length
pub not_sized : (dims : List Dim) (n : Dim) (ns : List Dim) (d : Data) (vs : List Value) → dims ≡ n ∷ ns → Some (items_view vs) ≡ as_array d → (length vs ≡ n.size → ⊥) → HasDeclaredSizes dims d → ⊥
not_sized dims n ns d vs list at other h =
    let s : HasDeclaredSizes (n ∷ ns) d = subst (λ (x : List Dim). HasDeclaredSizes x d) list h in
    let same : items_view vs ≡ s.0 = same_Some _ _ (at ∙ ap as_array s.1.0) in
    other (sym (items_len-items_view vs) ∙ (ap items_len same ∙ s.1.1.0))

-- the elements of a list are those of its items
pub order_of : (dims : List Dim) (n : Dim) (ns : List Dim) (d : Data) (vs : List Value) → dims ≡ n ∷ ns → Some (items_view vs) ≡ as_array d → joined_items (in_order ns) (items_view vs) ≡ in_order dims d
order_of dims n ns d vs list at =
    let same : joined_items (in_order ns) (items_view vs) ≡ in_order (n ∷ ns) d = ap (λ o. joined_items (in_order ns) (unwrap_or o no_items)) at in
    same ∙ sym (ap (λ (x : List Dim). in_order x d) list)

pub order_none : (dims : List Dim) (n : Dim) (ns : List Dim) (d : Data) → dims ≡ n ∷ ns → None ≡ as_array d → [] ≡ in_order dims d
order_none dims n ns d list at =
    let same : [] ≡ in_order (n ∷ ns) d = ap (λ (o : Option Items). joined_items (in_order ns) (unwrap_or o no_items)) at in
    same ∙ sym (ap (λ (x : List Dim). in_order x d) list)

elements_more : (k : Kind) (ds es : List Data) (vs ws : List ℕ) → AreElements k ds vs → AreElements k es ws → AreElements k (ds ++ es) (vs ++ ws)
elements_more k [] es [] ws h g = g
elements_more k [] es (v ∷ vs) ws h g = absurd h
elements_more k (d ∷ ds) es [] ws h g = absurd h
elements_more k (d ∷ ds) es (v ∷ vs) ws h g = (h.0, elements_more k ds es vs ws h.1 g)

first_behind : (k : Kind) (ds es : List Data) (vs : List ℕ) (n : ℕ) → AreElements k ds vs → IsFirstIndex (IsNoElement k) es n → IsFirstIndex (IsNoElement k) (ds ++ es) (length vs + n)
first_behind k [] es [] n h g = subst (λ m. IsFirstIndex (IsNoElement k) es m) (sym (zero-add n)) g
first_behind k [] es (v ∷ vs) n h g = absurd h
first_behind k (d ∷ ds) es [] n h g = absurd h
first_behind k (d ∷ ds) es (v ∷ vs) n h g =
    let more : IsFirstIndex (IsNoElement k) (d ∷ (ds ++ es)) (suc (length vs + n)) = (λ no. no v h.0, first_behind k ds es vs n h.1 g) in
    let same : suc (length vs + n) ≡ suc (length vs) + n = omega arith in
    subst (λ m. IsFirstIndex (IsNoElement k) (d ∷ (ds ++ es)) m) same more

first_before : (k : Kind) (ds es : List Data) (n : ℕ) → IsFirstIndex (IsNoElement k) ds n → IsFirstIndex (IsNoElement k) (ds ++ es) n
first_before k [] es n h = absurd h
first_before k (d ∷ ds) es zero h = h
first_before k (d ∷ ds) es (suc n) h = (h.0, first_before k ds es n h.1)

bits_more : (k : Kind) (ds es : List Data) (vs ws : List ℕ) (all : Bool) → AreElements k ds vs → PushesBits k es ws all → PushesBits k (ds ++ es) (vs ++ ws) all
bits_more k ds es vs ws true h g = elements_more k ds es vs ws h g
bits_more k ds es vs ws false h g = subst (λ n. IsFirstIndex (IsNoElement k) (ds ++ es) n) (sym (length-append vs ws)) (first_behind k ds es vs (length ws) h g)

-- elements, and those behind them
pub pushes_more : (k : Kind) (ds es : List Data) (old mid new : List ℕ) (all : Bool) → PushesElements k ds old mid true → PushesElements k es mid new all → PushesElements k (ds ++ es) old new all
pushes_more k ds es old mid new all h g =
    record {
      bits = h.bits ++ g.bits;
      added = g.added ∙ (ap (λ x. x ++ g.bits) h.added ∙ append_assoc old h.bits g.bits);
      are = bits_more k ds es h.bits g.bits all h.are g.are;
    }

-- where they stop, nothing behind counts
pub pushes_stop : (k : Kind) (ds es : List Data) (old new : List ℕ) → PushesElements k ds old new false → PushesElements k (ds ++ es) old new false
pushes_stop k ds es old new h = record { bits = h.bits; added = h.added; are = first_before k ds es (length h.bits) h.are }

-- ---- sizes

each_items : (P : Data → Type 0) (ds es : Items) → ds ≡ es → EachItem P ds → EachItem P es
each_items P ds es e h = subst (λ (x : Items). EachItem P x) e h

-- lists of the declared length are as declared exactly if their items are
pub sized_from : (dims : List Dim) (n : Dim) (ns : List Dim) (d : Data) (vs : List Value) → dims ≡ n ∷ ns → Some (items_view vs) ≡ as_array d → length vs ≡ n.size
    → EachItem (HasDeclaredSizes ns) (items_view vs) → HasDeclaredSizes dims d
sized_from dims n ns d vs list at long h =
    let whole : HasDeclaredSizes (n ∷ ns) d = (items_view vs, (of_array d (items_view vs) at, (items_len-items_view vs ∙ long, h))) in
    subst (λ (x : List Dim). HasDeclaredSizes x d) (sym list) whole

pub sized_items : (dims : List Dim) (n : Dim) (ns : List Dim) (d : Data) (vs : List Value) → dims ≡ n ∷ ns → Some (items_view vs) ≡ as_array d → HasDeclaredSizes dims d → EachItem (HasDeclaredSizes ns) (items_view vs)
sized_items dims n ns d vs list at h =
    let s : HasDeclaredSizes (n ∷ ns) d = subst (λ (x : List Dim). HasDeclaredSizes x d) list h in
    let same : s.0 ≡ items_view vs = sym (same_Some _ _ (at ∙ ap as_array s.1.0)) in
    each_items (HasDeclaredSizes ns) s.0 (items_view vs) same s.1.1.1

-- what the items from a place on tell of all
pub record Sizes (ns : List Dim) (rest all : List Value) : Type 0 where
  pub forth : EachItem (HasDeclaredSizes ns) (items_view rest) → EachItem (HasDeclaredSizes ns) (items_view all)
  pub back : EachItem (HasDeclaredSizes ns) (items_view all) → EachItem (HasDeclaredSizes ns) (items_view rest)

pub sizes_start : (ns : List Dim) (all : List Value) → Sizes ns all all
sizes_start ns all = record { forth = λ h. h; back = λ h. h }

pub sizes_on : (ns : List Dim) (rest more all : List Value) (v : Value) → rest ≡ v ∷ more → HasDeclaredSizes ns (view v) → Sizes ns rest all → Sizes ns more all
sizes_on ns rest more all v list here s =
    let t : Sizes ns (v ∷ more) all = subst (λ (x : List Value). Sizes ns x all) list s in
    record { forth = λ h. t.forth (here, h); back = λ h. (t.back h).1 }

pub sizes_stop : (ns : List Dim) (rest more all : List Value) (v : Value) → rest ≡ v ∷ more → (HasDeclaredSizes ns (view v) → ⊥) → Sizes ns rest all → EachItem (HasDeclaredSizes ns) (items_view all) → ⊥
sizes_stop ns rest more all v list other s h =
    let t : Sizes ns (v ∷ more) all = subst (λ (x : List Value). Sizes ns x all) list s in
    other (t.back h).0

pub sizes_end : (ns : List Dim) (rest all : List Value) → rest ≡ [] → Sizes ns rest all → EachItem (HasDeclaredSizes ns) (items_view all)
sizes_end ns rest all list s = (subst (λ (x : List Value). Sizes ns x all) list s).forth tt

-- ---- elements added item by item

-- the next item's elements, and those of the items behind it
pub pushes_item : (k : Kind) (ns : List Dim) (rest more : List Value) (v : Value) (old mid new : List ℕ) (all : Bool) → rest ≡ v ∷ more → PushesElements k (in_order ns (view v)) old mid true
    → PushesElements k (joined_items (in_order ns) (items_view more)) mid new all → PushesElements k (joined_items (in_order ns) (items_view rest)) old new all
pushes_item k ns rest more v old mid new all list h g =
    subst (λ (x : List Value). PushesElements k (joined_items (in_order ns) (items_view x)) old new all) (sym list) (pushes_more k (in_order ns (view v)) (joined_items (in_order ns) (items_view more)) old mid new all h g)

pub pushes_stopped : (k : Kind) (ns : List Dim) (rest more : List Value) (v : Value) (old new : List ℕ) → rest ≡ v ∷ more → PushesElements k (in_order ns (view v)) old new false
    → PushesElements k (joined_items (in_order ns) (items_view rest)) old new false
pushes_stopped k ns rest more v old new list h =
    subst (λ (x : List Value). PushesElements k (joined_items (in_order ns) (items_view x)) old new false) (sym list) (pushes_stop k (in_order ns (view v)) (joined_items (in_order ns) (items_view more)) old new h)

pub pushes_all : (k : Kind) (ns : List Dim) (rest : List Value) (old : List ℕ) → rest ≡ [] → PushesElements k (joined_items (in_order ns) (items_view rest)) old old true
pushes_all k ns rest old list = subst (λ (x : List Value). PushesElements k (joined_items (in_order ns) (items_view x)) old old true) (sym list) (record { bits = []; added = sym (append-nil old); are = tt })
