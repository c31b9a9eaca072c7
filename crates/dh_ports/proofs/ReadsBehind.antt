-- A read follows a write of its bank in its phase where it finds a charge of such writes.
use Rattle.std.proofs.Common.{◌≡◌, ℕ, zero, suc, ◌≤◌, ◌&&◌, Bool, true, false, if◌then◌else◌, List, [], ◌∷◌, refl, ap, sym, ◌∙◌, subst, arith, inl, inr}
use Rattle.std.specs.Prelude.{Option, Some, None, slice_get}
use Rattle.std.specs.List.{list_any}
use Rattle.std.proofs.lemmas.Bool.{or_cases}
use Rattle.dh_base.specs.declared.places.Place.{Place}
use Rattle.dh_tree.specs.PlainTrees.{Program}
use Rattle.dh_meaning.specs.OnePhase.{in_one_phase}
use Rattle.dh_meaning.specs.Paths.{Path}
use Rattle.dh_meets.specs.Charges.{reaches, paths_of}
use Rattle.dh_meets.specs.MayMeet.{meets_in}
use Rattle.dh_meets.specs.Ports.{ReadsAfterWrite}
use Rattle.dh_meets.specs.SourceEvents.{SourceAccess, accesses_in, trace}
use Rattle.dh_ports.specs.WritesFound.{access_can_reach, write_of, write_charge, FindsWrite}
use Rattle.dh_ports.proofs.Wholes.{whole, access_in}
use Rattle.dh_ports.proofs.MeetingFacts.{found_meeting, meeting_found, or_first, or_second}

absurd : {A : Type 0} → ⊥ → A
absurd e = elim e [ ]

-- an access reaches a bank at a path of its list
reach_found : (p : Program) (a : SourceAccess) (memory bank : ℕ) (paths : List Path) → list_any (λ path. reaches p a path memory bank) paths ≡ true → (i : ℕ) × ((path : Path) × ((slice_get paths i ≡ Some path) × (reaches p a path memory bank ≡ true)))
reach_found p a memory bank [] e = cc
reach_found p a memory bank (path ∷ paths) e =
    elim (or_cases (reaches p a path memory bank) (list_any (λ path. reaches p a path memory bank) paths) e) [
      | inl f ↦ (0, (path, (refl, f)))
      | inr f ↦ let r = reach_found p a memory bank paths f in (suc r.0, (r.1.0, r.1.1))
    ]

found_reach : (p : Program) (a : SourceAccess) (memory bank : ℕ) (paths : List Path) (i : ℕ) (path : Path) → slice_get paths i ≡ Some path → reaches p a path memory bank ≡ true → list_any (λ path. reaches p a path memory bank) paths ≡ true
found_reach p a memory bank [] i path e f = cc
found_reach p a memory bank (q ∷ paths) zero path e f = or_first (reaches p a q memory bank) _ (let same : q ≡ path = some_is q path e in ap (λ x. reaches p a x memory bank) same ∙ f)
  where
    some_is : (q path : Path) → Some q ≡ Some path → q ≡ path
    some_is q path e = cc
found_reach p a memory bank (q ∷ paths) (suc i) path e f = or_second (reaches p a q memory bank) _ (found_reach p a memory bank paths i path e f)

module _ (p : Program) where
  -- what a charged access is
  pub record Charging (memory bank read number : ℕ) (o : Option SourceAccess) : Type 0 where
    pub earlier : SourceAccess
    pub is : o ≡ Some earlier
    pub writes : earlier.writes ≡ true
    pub phase : in_one_phase p number read ≡ true
    pub reached : access_can_reach p earlier memory bank ≡ true

  charging : (memory bank read number : ℕ) (o : Option SourceAccess) → 1 ≤ write_of p memory bank read number o → Charging memory bank read number o
  charging memory bank read number None e = absurd (none e)
    where
      none : 1 ≤ 0 → ⊥
      none e = omega (arith, e)
  charging memory bank read number (Some x) e = from_test x.writes (in_one_phase p number read) (access_can_reach p x memory bank) refl refl refl e
    where
      none : 1 ≤ 0 → ⊥
      none e = omega (arith, e)

      from_test : (a b c : Bool) → x.writes ≡ a → in_one_phase p number read ≡ b → access_can_reach p x memory bank ≡ c → 1 ≤ (if (a && b) && c then 1 else 0) → Charging memory bank read number (Some x)
      from_test true true true f g h e = record { earlier = x; is = refl; writes = f; phase = g; reached = h }
      from_test true true false f g h e = absurd (none e)
      from_test true false c f g h e = absurd (none e)
      from_test false b c f g h e = absurd (none e)

  pub finds_is : (place : Place) → FindsWrite p place → ReadsAfterWrite p place
  finds_is place f =
      let m = found_meeting (write_charge p f.memory f.bank f.read) (meets_in p) f.read (whole p).distinct (access_in p f.read f.later f.reads) (free f.later f.reads f.read_is) f.found in
      let w = charging f.memory f.bank f.read m.number (slice_get (accesses_in (trace p)) m.number) m.charged in
      record {
        write = m.number;
        read = f.read;
        earlier = w.earlier;
        later = f.later;
        writes = w.is;
        reads = f.reads;
        write_is = w.writes;
        read_is = f.read_is;
        stands = f.stands;
        order = (whole p).before m.number f.read m.before;
        meet = m.meet;
        phase = w.phase;
        memory = f.memory;
        bank = f.bank;
        written = reach_found p w.earlier f.memory f.bank (paths_of w.earlier) w.reached;
        read_there = reach_found p f.later f.memory f.bank (paths_of f.later) f.reached;
      }
    where
      free : (later : SourceAccess) → slice_get (accesses_in (trace p)) f.read ≡ Some later → later.writes ≡ false → write_charge p f.memory f.bank f.read f.read ≡ 0
      free later e g = ap (λ o. write_of p f.memory f.bank f.read f.read o) e ∙ ap (λ b. if (b && in_one_phase p f.read f.read) && access_can_reach p later f.memory f.bank then 1 else 0) g

  pub is_found : (place : Place) → ReadsAfterWrite p place → FindsWrite p place
  is_found place r = record {
    read = r.read;
    later = r.later;
    memory = r.memory;
    bank = r.bank;
    reads = r.reads;
    read_is = r.read_is;
    stands = r.stands;
    reached = found_reach p r.later r.memory r.bank (paths_of r.later) r.read_there.0 r.read_there.1.0 r.read_there.1.1.0 r.read_there.1.1.1;
    found = meeting_found (write_charge p r.memory r.bank r.read) (meets_in p) r.read (whole p).distinct (access_in p r.read r.later r.reads) (record {
      number = r.write;
      charged = subst (λ (n : ℕ). 1 ≤ n) (sym charge_is) one_more;
      before = (whole p).behind r.write r.read (access_in p r.write r.earlier r.writes) (access_in p r.read r.later r.reads) r.order;
      meet = r.meet;
    });
  }
    where
      one_more : 1 ≤ 1
      one_more = omega arith

      charge_is : write_charge p r.memory r.bank r.read r.write ≡ 1
      charge_is =
          ap (λ o. write_of p r.memory r.bank r.read r.write o) r.writes
          ∙ (ap (λ b. if (b && in_one_phase p r.write r.read) && access_can_reach p r.earlier r.memory r.bank then 1 else 0) r.write_is
          ∙ (ap (λ b. if b && access_can_reach p r.earlier r.memory r.bank then 1 else 0) r.phase ∙ ap (λ b. if b then 1 else 0) (found_reach p r.earlier r.memory r.bank (paths_of r.earlier) r.written.0 r.written.1.0 r.written.1.1.0 r.written.1.1.1)))
