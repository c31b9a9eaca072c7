-- From what a walk tells of the events at each path to what the rules on ports see of all events of a block: of which
-- access each is, and which earlier read one that shares leads where.
use Rattle.std.proofs.Common.{◌≡◌, ℕ, ◌<◌, Bool, true, false, List, slice_get, Option, Some, None, sym, subst}
use Rattle.dh_base.specs.declared.places.Place.{Place}
use Rattle.dh_tree.specs.Elements.{Spot}
use Rattle.dh_tree.specs.PlainTrees.{Program}
use Rattle.dh_meaning.specs.Core.{Reach, CoreCommands}
use Rattle.dh_meaning.specs.CoreOf.{Known}
use Rattle.dh_meaning.specs.Effects.{Begun, Variables, Event, reads, writes, read_made, write_made}
use Rattle.dh_meaning.specs.OnePhase.{in_one_phase}
use Rattle.dh_meaning.specs.Paths.{Path}
use Rattle.dh_meaning.specs.Sites.{Around}
use Rattle.dh_meets.specs.Sharing.{shared}
use Rattle.dh_meets.specs.SourceEvents.{SourceAccess, accesses_in, trace}
use Rattle.dh_sound.specs.ToldEvents.{IsOfAccess, SharedRead}
use Rattle.dh_sound.proofs.BlockEvents.{block_events, made_at, made_there_too}
use Rattle.dh_sound.proofs.KnownReads.{reach_at}
use Rattle.dh_sound.proofs.Lockstep.{AreCopies}
use Rattle.dh_sound.proofs.OnePath.{all_made_by}
use Rattle.dh_carried.proofs.Pigeons.{Has}
use Rattle.dh_sound.proofs.SourceValues.{source_spot}
use Rattle.dh_sound.proofs.TermWalks.{IsGood, IsMadeOf, as_read, as_write, IsNear}
use Rattle.dh_sound.specs.Deep.{AreDeep}

-- an event that a read makes
read_event : (n : ℕ) (place : Place) (path q : Path) (s : Spot) (r : Reach) (spot : Option Spot) → reads n place path s ≡ read_made r q spot → (n ≡ r.number) × (spot ≡ Some s)
read_event n place path q s r None e = cc
read_event n place path q s r (Some t) e = (cc, cc)

write_event : (n : ℕ) (place : Place) (path q : Path) (s : Spot) (value kept : ℕ) (r : Reach) (spot : Option Spot) → writes n place path s value ≡ write_made r q kept spot → (n ≡ r.number) × (spot ≡ Some s)
write_event n place path q s value kept r None e = cc
write_event n place path q s value kept r (Some t) e = (cc, cc)

no_write : (n : ℕ) (place : Place) (path q : Path) (s : Spot) (kept : ℕ) (r : Reach) (spot : Option Spot) → reads n place path s ≡ write_made r q kept spot → ⊥
no_write n place path q s kept r None e = cc
no_write n place path q s kept r (Some t) e = cc

no_read : (n : ℕ) (place : Place) (path q : Path) (s : Spot) (value : ℕ) (r : Reach) (spot : Option Spot) → writes n place path s value ≡ read_made r q spot → ⊥
no_read n place path q s value r None e = cc
no_read n place path q s value r (Some t) e = cc

module _ (p : Program) (b : Begun) (known : Known) (in_block : ℕ → Bool) (share : Path → (j k : ℕ) → in_one_phase p j k ≡ true → in_block k ≡ true → in_block j ≡ true) (touched : ℕ → Bool) (r : Around)
    (depth : ℕ) (ps : List Path) (copies : AreCopies b depth ps) (cs : CoreCommands) (deep : AreDeep depth cs) (v : Variables)
    (good : (path : Path) → Has path ps → (ev : Event) → Has ev (all_made_by b path cs v) → IsGood p b known path in_block (share path) v touched r (all_made_by b path cs v) ev) where
  abbrev Near : (path : Path) → Variables → Type 0
  Near path w = IsNear p b known path in_block (share path) v touched w

  -- a read that the block makes, as the source tells it
  pub record ReadTold (n : ℕ) (path : Path) (s : Spot) : Type 0 where
    pub at : Has path ps
    pub of : SourceAccess
    pub listed : slice_get (accesses_in (trace p)) n ≡ Some of
    pub reads_it : of.writes ≡ false
    pub inside : in_block n ≡ true
    pub loops : of.site.loops ≡ r.loops
    pub variables : Variables
    pub near : Near path variables
    pub leads : source_spot b known variables path of.entity of.element ≡ Some s
    pub shares : (earlier : ℕ) → shared p n ≡ Some earlier → SharedRead p (block_events b depth ps copies cs deep v) n path s earlier

  -- and a write
  pub record WriteTold (n : ℕ) (path : Path) (s : Spot) : Type 0 where
    pub at : Has path ps
    pub of : SourceAccess
    pub listed : slice_get (accesses_in (trace p)) n ≡ Some of
    pub writes_it : of.writes ≡ true
    pub inside : in_block n ≡ true
    pub loops : of.site.loops ≡ r.loops
    pub variables : Variables
    pub near : Near path variables
    pub leads : source_spot b known variables path of.entity of.element ≡ Some s

  pub read_told : (n : ℕ) (place : Place) (path : Path) (s : Spot) → Has (reads n place path s) (block_events b depth ps copies cs deep v) → ReadTold n path s
  read_told n place path s h = by (made_at b depth ps copies cs deep v (reads n place path s) h)
    where
      told : (at : Has path ps) → (g : IsGood p b known path in_block (share path) v touched r (all_made_by b path cs v) (reads n place path s)) → IsMadeOf p b known path in_block (share path) v touched g.of g.number g.variables (reads n place path s) → ReadTold n path s
      told at g (as_write w value e) = elim (no_write n place path path s value (reach_at b known path in_block g.number g.of) (source_spot b known g.variables path g.of.entity g.of.element) e) [ ]
      told at g (as_read w e) =
          let is = read_event n place path path s (reach_at b known path in_block g.number g.of) (source_spot b known g.variables path g.of.entity g.of.element) e in
          record {
            at = at;
            of = g.of;
            listed = subst (λ (k : ℕ). slice_get (accesses_in (trace p)) k ≡ Some g.of) (sym is.0) g.listed;
            reads_it = w;
            inside = subst (λ (k : ℕ). in_block k ≡ true) (sym is.0) g.inside;
            loops = g.loops;
            variables = g.variables;
            near = g.near;
            leads = is.1;
            shares = λ earlier f.
                let m = g.shares w earlier (subst (λ (k : ℕ). shared p k ≡ Some earlier) is.0 f) in
                record {
                  before = subst (λ (k : ℕ). earlier < k) (sym is.0) m.before;
                  place = m.earlier.place;
                  made = (made_there_too b depth ps copies cs deep v path (reads earlier m.earlier.place path s) at
                      (subst (λ (o : Option Spot). Has (read_made (reach_at b known path in_block earlier m.earlier) path o) (all_made_by b path cs v)) is.1 m.made)).0;
                };
          }

      by : Has path ps × Has (reads n place path s) (all_made_by b path cs v) → ReadTold n path s
      by (at, made) = let g = good path at (reads n place path s) made in told at g g.made

  pub write_told : (n : ℕ) (place : Place) (path : Path) (s : Spot) (value : ℕ) → Has (writes n place path s value) (block_events b depth ps copies cs deep v) → WriteTold n path s
  write_told n place path s value h = by (made_at b depth ps copies cs deep v (writes n place path s value) h)
    where
      told : (at : Has path ps) → (g : IsGood p b known path in_block (share path) v touched r (all_made_by b path cs v) (writes n place path s value)) → IsMadeOf p b known path in_block (share path) v touched g.of g.number g.variables (writes n place path s value) → WriteTold n path s
      told at g (as_read w e) = elim (no_read n place path path s value (reach_at b known path in_block g.number g.of) (source_spot b known g.variables path g.of.entity g.of.element) e) [ ]
      told at g (as_write w kept e) =
          let is = write_event n place path path s value kept (reach_at b known path in_block g.number g.of) (source_spot b known g.variables path g.of.entity g.of.element) e in
          record {
            at = at;
            of = g.of;
            listed = subst (λ (k : ℕ). slice_get (accesses_in (trace p)) k ≡ Some g.of) (sym is.0) g.listed;
            writes_it = w;
            inside = subst (λ (k : ℕ). in_block k ≡ true) (sym is.0) g.inside;
            loops = g.loops;
            variables = g.variables;
            near = g.near;
            leads = is.1;
          }

      by : Has path ps × Has (writes n place path s value) (all_made_by b path cs v) → WriteTold n path s
      by (at, made) = let g = good path at (writes n place path s value) made in told at g g.made

  pub read_access : (n : ℕ) (path : Path) (s : Spot) → ReadTold n path s → IsOfAccess p n false
  read_access n path s t = record { of = t.of; listed = t.listed; writes_it = t.reads_it }

  pub write_access : (n : ℕ) (path : Path) (s : Spot) → WriteTold n path s → IsOfAccess p n true
  write_access n path s t = record { of = t.of; listed = t.listed; writes_it = t.writes_it }
