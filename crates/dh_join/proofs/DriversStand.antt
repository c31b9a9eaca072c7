-- A driver stands for those of a list that write, or for those that read.
-- The first active one of a list is that of its front, or where the front has none that of its back. So what stands for
-- a front and what stands for a back make what stands for the whole, and one cell of each tree chooses between them.
-- Each such driver takes at most three cells, and there is one fewer of them than of drivers.
use Rattle.std.proofs.Common.{◌≡◌, ℕ, zero, suc, ◌+◌, ◌*◌, ◌<◌, ◌≤◌, ◌^◌, Bool, true, false, Some, None, List, [], ◌∷◌, ◌++◌, length, take, drop, get_or, refl, sym, ap, subst, ◌∙◌, arith, length-append}
use Rattle.std.specs.Prelude.{Option, slice_index, if◌then◌else◌, ◌&&◌, ◌||◌, not}
use Rattle.std.specs.List.{AllByRecursion}
use Rattle.std.proofs.lemmas.List.{take-append-drop}
use Rattle.dh_net.specs.Clock.{is_active}
use Rattle.dh_net.specs.Parts.{DrivePort}
use Rattle.dh_net.specs.Valid.{IsDriver, ReadsZero}
use Rattle.dh_net.specs.declared.nets.Cell.{Cell}
use Rattle.dh_net.specs.declared.nets.Driver.{Driver}
use Rattle.dh_net.specs.declared.ports.Port.{Port}
use Rattle.dh_cells.specs.Settled.{BeginsWith}
use Rattle.dh_cells.proofs.CellsAppended.{width_later}
use Rattle.dh_join.specs.AddedCells.{ShowsChoices, AreWireDepths, EitherAdded, ChoiceAdded}
use Rattle.dh_join.specs.JoinedDrivers.{is_kind, count_kind, driver_of_kind, first_active, former, DoesAs, DoesWhat, DriverStandsAs, IsDriverOfKind, IsZero, spared, DriverIsWithin, FoundWithin, JoinsTwo, DataAdded, JoinsFound, StandsForDrivers}
use Rattle.dh_join.proofs.CellsGrown.{grows_none, grows_then, shows_fewer, depths_fewer, driver_later}

-- Two drivers.

pub data_written : (old new : List Cell) (p : Port) (first second : Driver) (wire : ℕ) → first.write ≡ true
    → ChoiceAdded old new p.width first.enable first.data_ second.data_ wire → second.write ≡ first.write → DataAdded old new p first second wire
data_written old new p first second wire on h kind = record {
  grows = h.grows;
  wide = λ writes. h.wide;
  zero = λ off. absurd (let no : true ≡ false = sym on ∙ off in cc);
  shows = λ wires s writes. h.shows wires s;
  deep = λ depths most d a b writes. h.deep depths most d a.enable (a.out on) (b.out (kind ∙ on));
}

pub data_read : (cells : List Cell) (p : Port) (first second : Driver) → first.write ≡ false → DataAdded cells cells p first second 0
data_read cells p first second off = record {
  grows = grows_none cells 1;
  wide = λ on. absurd (let no : true ≡ false = sym on ∙ off in cc);
  zero = λ reads. refl;
  shows = λ wires s on. absurd (let no : true ≡ false = sym on ∙ off in cc);
  deep = λ depths most d a b on. absurd (let no : true ≡ false = sym on ∙ off in cc);
}

abbrev driver_of : (enable : ℕ) → (write : Bool) → (row data_ : ℕ) → Driver
driver_of enable write row data_ = record { enable = enable; write = write; row = row; data_ = data_ }

pub two_joined : (c0 c1 c2 c3 : List Cell) (p : Port) (first second : Driver) (enable row out : ℕ) → EitherAdded c0 c1 first.enable second.enable enable
    → ChoiceAdded c1 c2 p.row_width first.enable first.row second.row row → DataAdded c2 c3 p first second out
    → JoinsTwo c0 c3 p first second (driver_of enable first.write row out)
two_joined c0 c1 c2 c3 p first second enable row out a b c =
    let later : BeginsWith c3 c1 = λ i d at. c.grows.begins i d (b.grows.begins i d at) in
    record {
      grows = grows_then c0 c2 c3 2 1 (grows_then c0 c1 c2 1 1 a.grows b.grows) c.grows;
      there = record {
        enable = width_later c1 c3 enable 1 later a.wide;
        row = width_later c2 c3 row p.row_width c.grows.begins b.wide;
        out = λ on. c.wide on;
      };
      kind = refl;
      zero = λ off. c.zero off;
      active = λ wires s. a.shows wires (shows_fewer c1 c3 wires later s);
      row = λ wires s. b.shows wires (shows_fewer c2 c3 wires c.grows.begins s);
      out = λ wires s on. c.shows wires s on;
      deep = λ depths most d x y. record {
        enable = a.deep depths most (depths_fewer c1 c3 depths later d) x.enable y.enable;
        row = b.deep depths most (depths_fewer c2 c3 depths c.grows.begins d) x.enable x.row y.row;
        out = λ on. c.deep depths most d x y on;
      };
    }

-- Two drivers that may not be there.

found_deeper : (depths : List ℕ) (m n : ℕ) (o : Option Driver) → m ≤ n → FoundWithin depths m o → FoundWithin depths n o
found_deeper depths m n None less h = tt
found_deeper depths m n (Some d) less h = record {
  enable = (let x = h.enable in omega (arith, x, less));
  row = (let x = h.row in omega (arith, x, less));
  out = λ on. (let x = h.out on in omega (arith, x, less));
}

former_none : (o : Option Driver) → former o None ≡ o
former_none None = refl
former_none (Some d) = refl

pub found_second : (cells : List Cell) (p : Port) (write : Bool) (second : Option Driver) → IsDriverOfKind cells p write second
    → JoinsFound cells cells p write None second second
found_second cells p write second there = record {
  most = 0;
  grows = grows_none cells 0;
  few = omega arith;
  there = there;
  zero = λ a b. b;
  shows = λ wires s o q a b. subst (λ (x : Option Driver). DriverStandsAs wires second (former x q)) (sym a) b;
  deep = λ depths most d a b. found_deeper depths most (suc most) second (omega arith) b;
}

pub found_first : (cells : List Cell) (p : Port) (write : Bool) (first : Option Driver) → IsDriverOfKind cells p write first
    → JoinsFound cells cells p write first None first
found_first cells p write first there = record {
  most = 0;
  grows = grows_none cells 0;
  few = omega arith;
  there = there;
  zero = λ a b. a;
  shows = λ wires s o q a b. subst (λ (x : Option Driver). DriverStandsAs wires first x) (sym (ap (λ (x : Option Driver). former o x) b ∙ former_none o)) a;
  deep = λ depths most d a b. found_deeper depths most (suc most) first (omega arith) a;
}

module _ (old new : List Cell) (p : Port) (first second joined : Driver) (h : JoinsTwo old new p first second joined) (same : second.write ≡ first.write)
    (wires : List ℕ) (s : ShowsChoices new wires) where
  -- the first is active
  by_first : (o : Driver) → DoesAs wires first o → DoesAs wires joined o
  by_first o a =
      record {
        active = h.active wires s ∙ ap (λ (t : Bool). t || is_active wires second) a.active;
        kind = h.kind ∙ a.kind;
        row = h.row wires s ∙ (ap (λ (t : Bool). if t then slice_index wires first.row else slice_index wires second.row) a.active ∙ a.row);
        out = λ on.
            h.out wires s (a.kind ∙ on)
            ∙ (ap (λ (t : Bool). if t then slice_index wires first.data_ else slice_index wires second.data_) a.active ∙ a.out on);
      }

  -- it is not
  by_second : (o : Driver) → is_active wires first ≡ false → DoesAs wires second o → DoesAs wires joined o
  by_second o off b =
      record {
        active = h.active wires s ∙ (ap (λ (t : Bool). t || is_active wires second) off ∙ b.active);
        kind = h.kind ∙ (sym same ∙ b.kind);
        row = h.row wires s ∙ (ap (λ (t : Bool). if t then slice_index wires first.row else slice_index wires second.row) off ∙ b.row);
        out = λ on.
            h.out wires s (sym same ∙ (b.kind ∙ on))
            ∙ (ap (λ (t : Bool). if t then slice_index wires first.data_ else slice_index wires second.data_) off ∙ b.out on);
      }

  two_show : (o q : Option Driver) → DoesWhat wires first o → DoesWhat wires second q → DoesWhat wires joined (former o q)
  two_show (Some o) q a b = by_first o a
  two_show None (Some q) a b = by_second q a b
  two_show None None a b = h.active wires s ∙ (ap (λ (t : Bool). t || is_active wires second) a ∙ b)

pub found_both : (old new : List Cell) (p : Port) (write : Bool) (first second joined : Driver) → first.write ≡ write → second.write ≡ write
    → JoinsTwo old new p first second joined → JoinsFound old new p write (Some first) (Some second) (Some joined)
found_both old new p write first second joined one other h = record {
  most = 3;
  grows = h.grows;
  few = omega arith;
  there = (h.there, h.kind ∙ one);
  zero = λ a b. h.zero;
  shows = λ wires s. two_show old new p first second joined h (other ∙ sym one) wires s;
  deep = λ depths most d a b. h.deep depths most d a b;
}

-- the same where they go by other names
pub one_as : (cells : List Cell) (p : Port) (write : Bool) (o q : Option Driver) → o ≡ q → IsDriverOfKind cells p write o → IsDriverOfKind cells p write q
one_as cells p write o q same h = subst (λ (x : Option Driver). IsDriverOfKind cells p write x) same h

pub found_second_as : (cells : List Cell) (p : Port) (write : Bool) (first second : Option Driver) → first ≡ None → IsDriverOfKind cells p write second
    → JoinsFound cells cells p write first second second
found_second_as cells p write first second none there =
    subst (λ (o : Option Driver). JoinsFound cells cells p write o second second) (sym none) (found_second cells p write second there)

pub found_first_as : (cells : List Cell) (p : Port) (write : Bool) (first second : Option Driver) → second ≡ None → IsDriverOfKind cells p write first
    → JoinsFound cells cells p write first second first
found_first_as cells p write first second none there =
    subst (λ (o : Option Driver). JoinsFound cells cells p write first o first) (sym none) (found_first cells p write first there)

pub found_former_as : (old new : List Cell) (p : Port) (write : Bool) (first : Option Driver) (former : Driver) (second joined : Option Driver) → first ≡ Some former
    → JoinsFound old new p write (Some former) second joined → JoinsFound old new p write first second joined
found_former_as old new p write first former second joined is h = subst (λ (o : Option Driver). JoinsFound old new p write o second joined) (sym is) h

pub found_both_as : (old new : List Cell) (p : Port) (write : Bool) (first : Driver) (other : Option Driver) (second joined : Driver) → other ≡ Some second
    → IsDriverOfKind old p write (Some first) → IsDriverOfKind old p write other → JoinsTwo old new p first second joined → JoinsFound old new p write (Some first) other (Some joined)
found_both_as old new p write first other second joined is one two h =
    subst (λ (o : Option Driver). JoinsFound old new p write (Some first) o (Some joined)) (sym is)
    (found_both old new p write first second joined one.1 (one_as old p write other (Some second) is two).1 h)

-- Lists.

pub stands_none : (cells : List Cell) (p : Port) (write : Bool) → StandsForDrivers cells cells p write [] None
stands_none cells p write = record {
  most = 0;
  grows = grows_none cells 0;
  few = omega arith;
  there = tt;
  zero = λ h. tt;
  shows = λ wires s. refl;
  deep = λ depths most height d few h. tt;
}

module _ (cells : List Cell) (p : Port) (d : Driver) (drives : IsDriver cells p d) where
  abbrev found : Bool → Option Driver
  found t = if t then Some d else None

  one_few : (t : Bool) → 0 + spared (found t) ≤ 3 * ((if t then 1 else 0) + 0)
  one_few true = omega arith
  one_few false = omega arith

  kind_is : (write : Bool) → is_kind write d ≡ true → d.write ≡ write
  kind_is true e = e
  kind_is false e = by d.write e
    where
      by : (t : Bool) → not t ≡ true → t ≡ false
      by true e = absurd (cc)
      by false e = refl

  one_there : (write t : Bool) → is_kind write d ≡ t → IsDriverOfKind cells p write (found t)
  one_there write true e = (drives, kind_is write e)
  one_there write false e = tt

  one_zero : (t : Bool) → ReadsZero d → IsZero (found t)
  one_zero true h = h
  one_zero false h = tt

  does_own : (wires : List ℕ) (t : Bool) → is_active wires d ≡ t → DoesWhat wires d (if t && true then Some d else None)
  does_own wires true e = record { active = e; kind = refl; row = refl; out = λ on. refl }
  does_own wires false e = e

  none_active : (t : Bool) → (if t && false then Some d else None) ≡ None
  none_active true = refl
  none_active false = refl

  one_shows : (wires : List ℕ) (k : Bool) → DriverStandsAs wires (found k) (if is_active wires d && k then Some d else None)
  one_shows wires true = does_own wires (is_active wires d) refl
  one_shows wires false = none_active (is_active wires d)

  one_deep : (depths : List ℕ) (most height : ℕ) (t : Bool) → DriverIsWithin depths most d → FoundWithin depths (most + height) (found t)
  one_deep depths most height true h = found_deeper depths most (most + height) (Some d) (omega arith) h
  one_deep depths most height false h = tt

  pub stands_one : (write : Bool) → StandsForDrivers cells cells p write (d ∷ []) (driver_of_kind write d)
  stands_one write = record {
    most = 0;
    grows = grows_none cells 0;
    few = one_few (is_kind write d);
    there = one_there write (is_kind write d) refl;
    zero = λ h. one_zero (is_kind write d) h.0;
    shows = λ wires s. one_shows wires (is_kind write d);
    deep = λ depths most height e few h. one_deep depths most height (is_kind write d) h.0;
  }

-- the same of lists of none and of one
pub stands_empty : (cells : List Cell) (p : Port) (write : Bool) (ds : List Driver) → length ds < 1 → StandsForDrivers cells cells p write ds None
stands_empty cells p write [] none = stands_none cells p write
stands_empty cells p write (d ∷ ds) none = absurd (omega (arith, none))

pub stands_single : (cells : List Cell) (p : Port) (write : Bool) (ds : List Driver) (d other : Driver) (found : Option Driver) → 1 ≤ length ds → length ds < 2 → d ≡ get_or ds 0 other
    → found ≡ driver_of_kind write d → DrivePort cells p ds → StandsForDrivers cells cells p write ds found
stands_single cells p write [] d other found some few is picks drives = absurd (omega (arith, some))
stands_single cells p write (x ∷ []) d other found some few is picks drives =
    subst (λ (o : Option Driver). StandsForDrivers cells cells p write (x ∷ []) o) (sym (picks ∙ ap (λ (y : Driver). driver_of_kind write y) is)) (stands_one cells p x (drives 0 x refl) write)
stands_single cells p write (x ∷ y ∷ ds) d other found some few is picks drives = absurd (omega (arith, few))

-- the two parts of a list
first_of_parts : (write : Bool) (wires : List ℕ) (xs ys : List Driver)
    → first_active write wires (xs ++ ys) ≡ former (first_active write wires xs) (first_active write wires ys)
first_of_parts write wires [] ys = refl
first_of_parts write wires (d ∷ xs) ys = by (is_active wires d && is_kind write d) (first_of_parts write wires xs ys)
  where
    by : (t : Bool) → first_active write wires (xs ++ ys) ≡ former (first_active write wires xs) (first_active write wires ys)
        → (if t then Some d else first_active write wires (xs ++ ys)) ≡ former (if t then Some d else first_active write wires xs) (first_active write wires ys)
    by true e = refl
    by false e = e

pub count_parts : (write : Bool) (xs ys : List Driver) → count_kind write (xs ++ ys) ≡ count_kind write xs + count_kind write ys
count_parts write [] ys = plain (count_kind write ys)
  where
    plain : (n : ℕ) → n ≡ 0 + n
    plain n = omega arith
count_parts write (d ∷ xs) ys = let rest = count_parts write xs ys in omega (arith, rest)

pub all_front : {A : Type 0} (P : A → Type 0) (xs ys : List A) → AllByRecursion P (xs ++ ys) → AllByRecursion P xs
all_front P [] ys h = tt
all_front P (x ∷ xs) ys h = (h.0, all_front P xs ys h.1)

pub all_back : {A : Type 0} (P : A → Type 0) (xs ys : List A) → AllByRecursion P (xs ++ ys) → AllByRecursion P ys
all_back P [] ys h = h
all_back P (x ∷ xs) ys h = all_back P xs ys h.1

pub all_both : {A : Type 0} (P : A → Type 0) (xs ys : List A) → AllByRecursion P xs → AllByRecursion P ys → AllByRecursion P (xs ++ ys)
all_both P [] ys h g = g
all_both P (x ∷ xs) ys h g = (h.0, all_both P xs ys h.1 g)

-- halves of many leaves are those of trees less high
half_few : (n x y m : ℕ) → n ≡ x + y → x ≤ y → y ≤ x + 1 → n ≤ 2 * m → (x ≤ m) × (y ≤ m)
half_few n x y m all less near few = (omega (arith, all, less, few), omega (arith, all, near, few))

module _ (c0 c1 c2 c3 : List Cell) (p : Port) (write : Bool) (xs ys : List Driver) (first second joined : Option Driver)
    (front : StandsForDrivers c0 c1 p write xs first) (back : StandsForDrivers c1 c2 p write ys second) (h : JoinsFound c2 c3 p write first second joined)
    (some : 1 ≤ length xs) (less : length xs ≤ length ys) (near : length ys ≤ length xs + 1) where
  parts_begin : BeginsWith c3 c1
  parts_begin i d at = h.grows.begins i d (back.grows.begins i d at)

  parts_show : (wires : List ℕ) → ShowsChoices c3 wires → DriverStandsAs wires joined (first_active write wires (xs ++ ys))
  parts_show wires s =
      subst (λ (o : Option Driver). DriverStandsAs wires joined o) (sym (first_of_parts write wires xs ys))
      (h.shows wires s (first_active write wires xs) (first_active write wires ys) (front.shows wires (shows_fewer c1 c3 wires parts_begin s))
      (back.shows wires (shows_fewer c2 c3 wires h.grows.begins s)))

  parts_deep : (depths : List ℕ) (most height : ℕ) → AreWireDepths c3 depths → length (xs ++ ys) ≤ 2 ^ height → AllByRecursion (DriverIsWithin depths most) (xs ++ ys)
      → FoundWithin depths (most + height) joined
  parts_deep depths most zero d few all = absurd (let long = length-append xs ys in omega (arith, long, few, some, less))
  parts_deep depths most (suc k) d few all =
      let halves = half_few (length (xs ++ ys)) (length xs) (length ys) (2 ^ k) (length-append xs ys) less near (twice k (length (xs ++ ys)) few) in
      let a = front.deep depths most k (depths_fewer c1 c3 depths parts_begin d) halves.0 (all_front (DriverIsWithin depths most) xs ys all) in
      let b = back.deep depths most k (depths_fewer c2 c3 depths h.grows.begins d) halves.1 (all_back (DriverIsWithin depths most) xs ys all) in
      let more : suc (most + k) ≡ most + suc k = omega arith in
      subst (λ (n : ℕ). FoundWithin depths n joined) more (h.deep depths (most + k) d a b)
    where
      twice : (k n : ℕ) → n ≤ 2 ^ suc k → n ≤ 2 * 2 ^ k
      twice k n h = omega (arith, h)

  pub stands_parts : StandsForDrivers c0 c3 p write (xs ++ ys) joined
  stands_parts = record {
    most = front.most + back.most + h.most;
    grows = grows_then c0 c2 c3 (front.most + back.most) h.most (grows_then c0 c1 c2 front.most back.most front.grows back.grows) h.grows;
    few = (let x = front.few in let y = back.few in let z = h.few in let count = count_parts write xs ys in omega (arith, x, y, z, count));
    there = h.there;
    zero = λ all. h.zero (front.zero (all_front ReadsZero xs ys all)) (back.zero (all_back ReadsZero xs ys all));
    shows = parts_show;
    deep = parts_deep;
  }

-- the same of the parts of a list at a place
pub stands_split : (c0 c1 c2 c3 : List Cell) (p : Port) (write : Bool) (n : ℕ) (ds front back : List Driver) (first second joined : Option Driver)
    → front ≡ take n ds → back ≡ drop n ds → 1 ≤ length front → length front ≤ length back → length back ≤ length front + 1
    → StandsForDrivers c0 c1 p write front first → StandsForDrivers c1 c2 p write back second → JoinsFound c2 c3 p write first second joined
    → StandsForDrivers c0 c3 p write ds joined
stands_split c0 c1 c2 c3 p write n ds front back first second joined is_front is_back some less near a b h =
    let both : front ++ back ≡ ds = (λ i. is_front i ++ is_back i) ∙ take-append-drop n ds in
    subst (λ (l : List Driver). StandsForDrivers c0 c3 p write l joined) both (stands_parts c0 c1 c2 c3 p write front back first second joined a b h some less near)

-- the parts of a port's drivers drive it
drives_parts : (cells : List Cell) (p : Port) (xs ys : List Driver) → DrivePort cells p (xs ++ ys) → DrivePort cells p xs × DrivePort cells p ys
drives_parts cells p [] ys h = (λ k d at. absurd (let no : None ≡ Some d = at in cc), h)
drives_parts cells p (x ∷ xs) ys h =
    let rest = drives_parts cells p xs ys (λ k d at. h (suc k) d at) in
    (by rest.0, rest.1)
  where
    by : DrivePort cells p xs → DrivePort cells p (x ∷ xs)
    by rest zero d at = h 0 d (let same : x ≡ d = cc in ap (λ (y : Driver). Some y) same)
    by rest (suc k) d at = rest k d at

pub drives_later : (old new : List Cell) (p : Port) (ds : List Driver) → BeginsWith new old → DrivePort old p ds → DrivePort new p ds
drives_later old new p ds e h k d at = driver_later old new p d e (h k d at)

pub front_drives : (cells : List Cell) (p : Port) (n : ℕ) (ds front : List Driver) → front ≡ take n ds → DrivePort cells p ds → DrivePort cells p front
front_drives cells p n ds front is h =
    subst (λ (l : List Driver). DrivePort cells p l) (sym is)
    (drives_parts cells p (take n ds) (drop n ds) (subst (λ (l : List Driver). DrivePort cells p l) (sym (take-append-drop n ds)) h)).0

pub back_drives : (old new : List Cell) (p : Port) (n : ℕ) (ds back : List Driver) → BeginsWith new old → back ≡ drop n ds → DrivePort old p ds → DrivePort new p back
back_drives old new p n ds back e is h =
    drives_later old new p back e
    (subst (λ (l : List Driver). DrivePort old p l) (sym is)
    (drives_parts old p (take n ds) (drop n ds) (subst (λ (l : List Driver). DrivePort old p l) (sym (take-append-drop n ds)) h)).1)

pub one_later : (old new : List Cell) (p : Port) (write : Bool) (o : Option Driver) → BeginsWith new old → IsDriverOfKind old p write o → IsDriverOfKind new p write o
one_later old new p write None e h = tt
one_later old new p write (Some d) e h = (driver_later old new p d e h.0, h.1)
