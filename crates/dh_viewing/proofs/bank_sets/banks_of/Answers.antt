use Rattle.std.proofs.Common.{ℕ, ap, sym, subst, ◌∙◌, ◌+◌, ◌*◌, ◌-◌, if◌then◌else◌, Bool, List, arith}
use Rattle.dh_tree.specs.declared.tables.Dim.{Dim}
use Rattle.dh_tree.specs.Elements as elements
use Rattle.dh_viewing.specs.ReachedBanks.{can_reach}
use Rattle.dh_viewing.proofs.BanksTold.{banks_told}
use Rattle.dh_viewing.proofs.BitsTold.{Told, told_none, told_turn, told_room}
use Rattle.dh_viewing.proofs.bank_sets.banks_of.Goals as goal

pub loop-parent_bank-init : goal.loop-parent_bank-init
loop-parent_bank-init c =
    subst (λ (n : ℕ). Told (can_reach c.args.v.now c.args.bank) (elements.banks_of c.args.v.now.parent.dims) n 0) (sym (c.bank_count-parent_bank.ensures ∙ ap (λ (l : List Dim). elements.banks_of l) c.as_slice.ensures))
    (told_none (can_reach c.args.v.now c.args.bank) (elements.banks_of c.args.v.now.parent.dims))

pub with_bit-bits-requires : goal.with_bit-bits-requires
with_bit-bits-requires c = record {
  room = told_room (can_reach c.args.v.now c.args.bank) (elements.banks_of c.args.v.now.parent.dims) c.loop-parent_bank.parent_bank c.loop-parent_bank.bits c.requires.map.parent.few_banks (let l = c.loop-parent_bank-test.true in omega (arith, l)) c.loop-parent_bank.invariant;
}

pub loop-parent_bank-preserved : goal.loop-parent_bank-preserved
loop-parent_bank-preserved c =
    told_turn (can_reach c.args.v.now c.args.bank) (elements.banks_of c.args.v.now.parent.dims) c.loop-parent_bank.parent_bank c.loop-parent_bank.bits c.with_bit-bits.result (let l = c.loop-parent_bank-test.true in omega (arith, l)) c.loop-parent_bank.invariant
    (c.with_bit-bits.ensures ∙ ap (λ (b : Bool). c.loop-parent_bank.bits * 2 + (if b then 1 else 0)) (c.reaches.ensures ∙ ap (λ (n : ℕ). can_reach c.args.v.now n (c.loop-parent_bank.parent_bank - 1)) c.from-own.ensures))

pub returns : goal.returns
returns c =
    banks_told c.args.v.now c.args.bank c.loop-parent_bank.bits c.loop-parent_bank.parent_bank c.requires.map c.requires.bank (let l = c.loop-parent_bank-test.false in omega (arith, l)) c.loop-parent_bank.invariant
