-- No number of a report is a float: elements are integers, and an object has no float where none of
-- its members has one.
use Rattle.std.proofs.Common.{◌≡◌, ℕ, zero, suc, take, drop, get_or, ℤ, pos, negsuc, List, [], ◌∷◌, Bool, true, false, ◌||◌, if◌then◌else◌, Option, Some, None, Ordering, Less, Equal, Greater, nat_cmp, refl}
use Rattle.std.specs.Ordering.{match_ordering}
use Rattle.std.specs.Cmp.Lexicographic.{slice_cmp}
use Rattle.serde_json.specs.Data.{Data, Members, no_members, member, put}
use Rattle.serde_json.specs.Find.{of_integer, is_float}
use Rattle.serde_json.specs.View.{items_of}
use Rattle.serde_json.specs.Written.{has_float, items_have_float, members_have_float}
use Rattle.dh_value.specs.declared.kinds.Kind.{Kind}
use Rattle.dh_tree.specs.Tables.{elements_of}
use Rattle.dh_tree.specs.declared.tables.Dim.{Dim}
use Rattle.dh_tree.specs.declared.tables.MemEntry.{MemEntry}
use Rattle.dh_data.specs.declared.reports.Ending.{Ending}
use Rattle.dh_data.specs.Reports.{number_of_bits, nested_data, rows, memory_data, outside_data, clocks_first, report_data}

no_float : (z : ℤ) → is_float (of_integer z) ≡ false
no_float (pos n) = refl
no_float (negsuc n) = refl

both : (b c : Bool) → b ≡ false → c ≡ false → (b || c) ≡ false
both true c e f = e
both false c e f = f

rows_none : (n width : ℕ) (list : List ℕ → Data) (vs : List ℕ) → ((xs : List ℕ) → has_float (list xs) ≡ false) → items_have_float (items_of (rows n width list vs)) ≡ false
rows_none zero width list vs none = refl
rows_none (suc n) width list vs none = both _ _ (none (take width vs)) (rows_none n width list (drop width vs) none)

nested_none : (k : Kind) (dims : List Dim) (vs : List ℕ) → has_float (nested_data k dims vs) ≡ false
nested_none k [] vs = no_float (number_of_bits k (get_or vs 0 0))
nested_none k (n ∷ ns) vs = rows_none n.size (elements_of ns) (nested_data k ns) vs (nested_none k ns)

memory_none : (k : Kind) (dims : List Dim) (vs : List ℕ) → has_float (memory_data k dims vs) ≡ false
memory_none k dims vs = both _ _ (nested_none k dims vs) refl

behind : (b c : Bool) → (b || c) ≡ false → c ≡ false
behind true c e = cc
behind false c e = e

before : (b c : Bool) → (b || c) ≡ false → b ≡ false
before true c e = e
before false c e = refl

put_at : (o : Ordering) (k l : List ℕ) (d e : Data) (ms : Members) → has_float d ≡ false → members_have_float (member l e ms) ≡ false → members_have_float (put k d ms) ≡ false
    → members_have_float (match_ordering o (member k d (member l e ms)) (member l d ms) (member l e (put k d ms))) ≡ false
put_at Less k l d e ms one all more = both _ _ one all
put_at Equal k l d e ms one all more = both _ _ one (behind (has_float e) _ all)
put_at Greater k l d e ms one all more = both _ _ (before (has_float e) _ all) more

put_none : (k : List ℕ) (d : Data) (ms : Members) → has_float d ≡ false → members_have_float ms ≡ false → members_have_float (put k d ms) ≡ false
put_none k d no_members one all = both _ _ one refl
put_none k d (member l e ms) one all = put_at (slice_cmp nat_cmp k l) k l d e ms one all (put_none k d ms one (behind (has_float e) _ all))

if_none : (b : Bool) (xs ys : Members) → members_have_float xs ≡ false → members_have_float ys ≡ false → members_have_float (if b then xs else ys) ≡ false
if_none true xs ys e f = e
if_none false xs ys e f = f

outside_none : (es : List MemEntry) (ms : List (List ℕ)) (found : Members) → members_have_float found ≡ false → members_have_float (outside_data es ms found) ≡ false
outside_none [] ms found none = none
outside_none (e ∷ es) [] found none = none
outside_none (e ∷ es) (m ∷ ms) found none = outside_none es ms _ (if_none e.outside _ _ (put_none e.name (memory_data e.shape.kind e.shape.dims m) found (memory_none e.shape.kind e.shape.dims m) none) none)

clocks_none : (clocks : Option ℕ) (ms : Members) → members_have_float ms ≡ false → members_have_float (clocks_first clocks ms) ≡ false
clocks_none None ms none = none
clocks_none (Some n) ms none = none

-- a report has no float
pub report_none : (table : List MemEntry) (m : List (List ℕ)) (e : Ending) → has_float (report_data table m e) ≡ false
report_none table m e = clocks_none e.clocks _ (both _ _ (outside_none table m no_members refl) refl)
