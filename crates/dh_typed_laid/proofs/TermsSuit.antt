-- An expression that is sound and typed suits at each path of a block whose sites tell where its accesses stand.
use Rattle.std.proofs.Common.{◌≡◌, ℕ, ◌+◌, ◌<◌, ◌^◌, Bool as Truth, false, List, length, Option, Some, None, refl, ap, sym, ◌∙◌, subst, arith}
use Rattle.dh_base.specs.declared.places.Place.{Place}
use Rattle.dh_value.specs.declared.kinds.Kind.{Kind}
use Rattle.dh_value.specs.declared.operators.Op.{Op}
use Rattle.dh_tree.specs.declared.tables.Dim.{Dim}
use Rattle.dh_tree.specs.declared.tables.MemEntry.{MemEntry}
use Rattle.dh_tree.specs.declared.trees.expressions.Ref.{Ref}
use Rattle.dh_tree.specs.Elements.{banks_of, dims_at}
use Rattle.dh_tree.specs.Kinds as kinds
use Rattle.dh_tree.specs.Memories.{table_of}
use Rattle.dh_tree.specs.PlainTrees as plain
use Rattle.dh_tree.specs.Seen.{program_seen}
use Rattle.dh_meaning.specs.AccessNumbers.{term_accesses, terms_accesses}
use Rattle.dh_meaning.specs.Bindings.{kind_or_first}
use Rattle.dh_meaning.specs.CoreOf.{Known, dims_named, memory_of, way_of}
use Rattle.dh_meaning.specs.Effects.{kind_in}
use Rattle.dh_meaning.specs.Ways.{Way}
use Rattle.dh_plan.specs.Correspondence.{Round}
use Rattle.dh_plan.specs.PlanKinds.{AreBanks}
use Rattle.dh_expressions.specs.declared.scenes.Around.{Around}
use Rattle.dh_expressions.specs.declared.scenes.Scene.{Scene}
use Rattle.dh_expressions.specs.Evaluated.{known_in}
use Rattle.dh_expressions.specs.Named.{banks_reached, banks_seen}
use Rattle.dh_expressions.specs.Numbers.{narrowed}
use Rattle.dh_expressions.specs.ReachedBanks.{bank_by}
use Rattle.dh_expressions.specs.Shown.{kind_written}
use Rattle.dh_expressions.specs.Standings.{banks_at, copy_places, standing_at}
use Rattle.dh_formed.specs.Formed.{AccessSuits, AreNumbers, FormedBlock, FormSuits, OperandsSuit, ReadSuits, TermSuits, TermsSuit, count_of_terms}
use Rattle.dh_formed.proofs.OperandsTyped.{typed_operands_suit}
use Rattle.dh_commands.specs.LanesRun.{lane_of, paths_counted}
use Rattle.dh_blocks.specs.SoundTerms.{AreSound, IsSound, IsSoundForm}
use Rattle.dh_laid.specs.BlockSites.{HasSites, form_sites, read_site, term_sites, terms_sites}
use Rattle.dh_laid.proofs.SitesLaid.{sites_behind, sites_front, sites_last, term_sites_long, terms_sites_long}
use Rattle.dh_typed_blocks.specs.TypedTerms.{AreTypedOperands, AreTyped, IsTyped, IsTypedForm}
use Rattle.dh_typed_laid.specs.SuitingBlocks.{NamedHere, StandsSo, TermsSuitBlocks, WayHere}
use Rattle.dh_typed_laid.proofs.BanksListed.{one_bank, reached_lies, set_banks}
use Rattle.dh_typed_laid.proofs.MemoriesSuit.{bank_below, dims_there, narrowed_below}
use Rattle.dh_typed_laid.proofs.NamesSuit.{name_suits}
use Rattle.dh_typed_laid.proofs.WaysSuit.{way_suits}

-- operands that break no rule suit
operands_suit : (o : Op) (j k whole : Kind) → AreTypedOperands o j k whole → OperandsSuit o j k whole
operands_suit o j k whole h = subst (λ (x : Kind). OperandsSuit o j k x) (sym h.is) (typed_operands_suit o h.left_place h.right_place j k h.left h.right h.none)

-- indices
pub numbers : (known : Known) (table : List MemEntry) (ts : plain.Terms) → AreTyped known table ts → AreNumbers ts
numbers known table plain.no_terms h = tt
numbers known table (plain.term_then t ts) h = (h.0.1, numbers known table ts h.1)

counted : (ts : plain.Terms) → count_of_terms ts ≡ kinds.count_of ts
counted plain.no_terms = refl
counted (plain.term_then t ts) = let e = counted ts in omega (arith, e)

module _ (x : FormedBlock) (scene : Scene) (count : ℕ) (around : Around) (rounds : List Round) (touched : ℕ → Truth) (stands : StandsSo x scene count around) where
  abbrev known : Known
  known = known_in scene

  abbrev table : List MemEntry
  table = table_of (program_seen scene.program.now)

  same_table : table_of (program_seen scene.program.now) ≡ x.plan.table
  same_table = sym stands.holds.table

  -- Banks.

  -- the bank of what a name stands for that indices choose at a copy
  abbrev chosen_bank : Option Way → (memory : ℕ) → Ref → plain.Terms → (copy : ℕ) → ℕ
  chosen_bank o memory r ts n = narrowed (bank_by (program_seen scene.program.now) o around.levels.now memory (plain.accessed r ts) n)

  -- of indices of what a name stands for
  pub banks_named : (r : Ref) (ts : plain.Terms) (place : Place) (writes : Truth) (n : ℕ) → AreBanks x.plan x.first x.kinds (memory_of known r) (banks_at (standing_at scene around (memory_of known r) place (plain.accessed r ts) writes) n)
  banks_named r ts place writes n = by (way_of known r) refl (copy_places (standing_at scene around (memory_of known r) place (plain.accessed r ts) writes) n)
    where
      by : (o : Option Way) → way_of known r ≡ o → (at : ℕ)
          → AreBanks x.plan x.first x.kinds (memory_of known r) (banks_reached o (banks_seen scene r (chosen_bank o (memory_of known r) r ts n)) (chosen_bank o (memory_of known r) r ts n) at)
      by None e at =
          one_bank x.plan x.first x.kinds (memory_of known r) (chosen_bank None (memory_of known r) r ts n) at
          (subst (λ (t : List MemEntry). chosen_bank None (memory_of known r) r ts n < banks_of (dims_at t (memory_of known r))) same_table
          (narrowed_below (bank_by (program_seen scene.program.now) None around.levels.now (memory_of known r) (plain.accessed r ts) n) (banks_of (dims_at table (memory_of known r)))
          (bank_below (dims_at table (memory_of known r)) _ (dims_there table (memory_of known r) stands.table.entries))))
      by (Some w) e at =
          let here : WayHere table (memory_of known r) w = stands.ways r w e in
          let low : chosen_bank (Some w) (memory_of known r) r ts n < banks_of w.is.shape.dims =
          narrowed_below (bank_by (program_seen scene.program.now) (Some w) around.levels.now (memory_of known r) (plain.accessed r ts) n) (banks_of w.is.shape.dims) (bank_below w.is.shape.dims _ here.own.own.dims)
          in
          set_banks x.plan x.first x.kinds (memory_of known r) (banks_seen scene r (chosen_bank (Some w) (memory_of known r) r ts n)) at 64
          (λ b f.
          subst (λ (t : List MemEntry). b < banks_of (dims_at t (memory_of known r))) same_table
          (reached_lies w.steps (dims_at table (memory_of known r)) here.steps (chosen_bank (Some w) (memory_of known r) r ts n) b (subst (λ (ds : List Dim). chosen_bank (Some w) (memory_of known r) r ts n < banks_of ds) (sym here.first) low)
          (sym ((stands.views r w e).banks_are (chosen_bank (Some w) (memory_of known r) r ts n) b low) ∙ f)))

  -- of a row
  pub banks_of_row : (r : Ref) (bank : ℕ) (bank_place : Place) (row : plain.Term) (place : Place) (writes : Truth) (n : ℕ) → bank < banks_of (dims_at table (memory_of known r))
      → AreBanks x.plan x.first x.kinds (memory_of known r) (banks_at (standing_at scene around (memory_of known r) place (plain.in_bank r bank bank_place row) writes) n)
  banks_of_row r bank bank_place row place writes n below =
      one_bank x.plan x.first x.kinds (memory_of known r) (narrowed bank) (copy_places (standing_at scene around (memory_of known r) place (plain.in_bank r bank bank_place row) writes) n)
      (subst (λ (t : List MemEntry). narrowed bank < banks_of (dims_at t (memory_of known r))) same_table (narrowed_below bank (banks_of (dims_at table (memory_of known r))) below))

  -- an access that has its site
  pub access_suits : (n memory number : ℕ) (place : Place) (form : plain.TermForm) (writes : Truth) → x.sites number ≡ Some (record { memory = memory; standing = standing_at scene around memory place form writes }) → memory < 2 ^ 32 → memory < length table
      → AreBanks x.plan x.first x.kinds memory (banks_at (standing_at scene around memory place form writes) n) → AccessSuits x scene (lane_of around n) memory number place form writes
  access_suits n memory number place form writes at small there banks = record {
    site = at;
    small = small;
    memory_there = subst (λ (t : List MemEntry). memory < length t) same_table there;
    banks = banks;
  }

  read_suits : (n memory number : ℕ) (place : Place) (form : plain.TermForm) (k : Kind) → x.sites number ≡ Some (record { memory = memory; standing = standing_at scene around memory place form false }) → memory < 2 ^ 32 → memory < length table
      → AreBanks x.plan x.first x.kinds memory (banks_at (standing_at scene around memory place form false) n) → k ≡ kind_in table memory → ReadSuits x scene (lane_of around n) memory number place form k
  read_suits n memory number place form k at small there banks is = record {
    access = access_suits n memory number place form false at small there banks;
    kind_is = ap (λ (t : List MemEntry). kind_in t memory) (sym same_table) ∙ sym is;
    shares = λ earlier e. stands.shares number earlier (record { memory = memory; standing = standing_at scene around memory place form false }) at e;
  }

  -- as many indices as dimensions
  pub many_indices : (r : Ref) (ts : plain.Terms) → kinds.count_of ts ≡ length (dims_named known table r) → count_of_terms ts ≡ length (dims_named known x.plan.table r)
  many_indices r ts e = counted ts ∙ (e ∙ ap (λ (t : List MemEntry). length (dims_named known t r)) same_table)

  behind : (first m n : ℕ) → m ≡ n → first + n ≡ first + m
  behind first m n e = ap (λ k. first + k) (sym e)

  mutual
    pub term_suits : (t : plain.Term) (first : ℕ) → IsSound known table (NamedHere x scene around rounds touched) t → IsTyped known table t → HasSites x.sites first (term_sites scene around t) → (n : ℕ) → n < paths_counted around
        → TermSuits x scene (lane_of around n) first t
    term_suits (plain.term place kind form) first s t h n l = form_suits place (kind_or_first kind) form first s t h n l

    form_suits : (place : Place) (k : Kind) (form : plain.TermForm) (first : ℕ) → IsSoundForm known table (NamedHere x scene around rounds touched) k form → IsTypedForm known table k form → HasSites x.sites first (form_sites scene around place form) → (n : ℕ) → n < paths_counted around
        → FormSuits x scene (lane_of around n) first place k form
    form_suits place k (plain.number negative z) first s t h n l = s
    form_suits place k (plain.truth_value b) first s t h n l = s
    form_suits place k (plain.named r) first s t h n l = name_suits x scene count around stands rounds touched r k s.0 n l
    form_suits place k (plain.accessed r ts) first s t h n l =
        let memory : ℕ = memory_of (known_in scene) r in
        let at = sites_last x.sites first (first + terms_accesses ts) (terms_sites scene around ts) (read_site scene around (memory_of (known_in scene) r) place (plain.accessed r ts)) (behind first (length (terms_sites scene around ts)) (terms_accesses ts) (terms_sites_long scene around ts)) h in (
          (terms_suit ts first s.0.0 t.0 (sites_front x.sites first (terms_sites scene around ts) _ h) n l, numbers known table ts t.0),
          (
            (many_indices r ts t.1.many, way_suits x scene count around rounds touched stands r s.0.1 n l),
            read_suits n memory (first + terms_accesses ts) place (plain.accessed r ts) k at s.1.0 t.1.there (banks_named r ts place false n) s.1.1,
          ),
        )
    form_suits place k (plain.in_bank r bank bank_place row) first s t h n l =
        let memory : ℕ = memory_of (known_in scene) r in
        let at = sites_last x.sites first (first + term_accesses row) (term_sites scene around row) (read_site scene around (memory_of (known_in scene) r) place (plain.in_bank r bank bank_place row)) (behind first (length (term_sites scene around row)) (term_accesses row) (term_sites_long scene around row)) h in (
          (term_suits row first s.0 t.0.0 (sites_front x.sites first (term_sites scene around row) _ h) n l, t.0.1),
          read_suits n memory (first + term_accesses row) place (plain.in_bank r bank bank_place row) k at s.1.0 t.1.0 (banks_of_row r bank bank_place row place false n t.1.1) s.1.1.1.0,
        )
    form_suits place k (plain.applied o left right) first s t h n l = (
      (
        term_suits left first s.0.0 t.0.0 (sites_front x.sites first (term_sites scene around left) _ h) n l,
        term_suits right (first + term_accesses left) s.0.1 t.0.1
            (sites_behind x.sites first (first + term_accesses left) (term_sites scene around left) (term_sites scene around right) (behind first (length (term_sites scene around left)) (term_accesses left) (term_sites_long scene around left)) h) n l,
      ),
      operands_suit o (kind_written left) (kind_written right) k t.1,
    )
    form_suits place k (plain.converted inner to) first s t h n l = (term_suits inner first s.0 t h n l, s.1)

    pub terms_suit : (ts : plain.Terms) (first : ℕ) → AreSound known table (NamedHere x scene around rounds touched) ts → AreTyped known table ts → HasSites x.sites first (terms_sites scene around ts) → (n : ℕ) → n < paths_counted around
        → TermsSuit x scene (lane_of around n) first ts
    terms_suit plain.no_terms first s t h n l = tt
    terms_suit (plain.term_then u ts) first s t h n l = (
      term_suits u first s.0 t.0.0 (sites_front x.sites first (term_sites scene around u) _ h) n l,
      terms_suit ts (first + term_accesses u) s.1 t.1
          (sites_behind x.sites first (first + term_accesses u) (term_sites scene around u) (terms_sites scene around ts) (behind first (length (term_sites scene around u)) (term_accesses u) (term_sites_long scene around u)) h) n l,
    )

pub terms_suit_blocks : TermsSuitBlocks
terms_suit_blocks x scene count around rounds touched stands first t sound typed h n l = term_suits x scene count around rounds touched stands t first sound typed h n l
