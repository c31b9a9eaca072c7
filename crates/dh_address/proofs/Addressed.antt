-- What the pass makes of a sound plan is that plan with rows of banks in place of indices and views.
use Rattle.std.proofs.Common.{sym, subst}
use Rattle.dh_plan.specs.DoneProgram.{BlocksDoTheSame, RunTheSame, IsAddressingOf}
use Rattle.dh_plan.specs.PlainPlans.{PlainPlan}
use Rattle.dh_plan.specs.SoundPlans.{IsSound, IsAddressed}
use Rattle.dh_address.specs.Images.{IsImage}
use Rattle.dh_address.proofs.BlockImages.{image_is, blocks_do_the_same, runs_the_same}
use Rattle.dh_address.proofs.FormedImages.{image_sound}
use Rattle.dh_address.proofs.LengthsAlike.{lengths_same}
use Rattle.dh_address.proofs.LiteralsKept.{literals_kept}
use Rattle.dh_address.proofs.PlanSeen.{sees_same, sets_same, charges_same, products_same}
use Rattle.dh_address.proofs.SoundImages.{is_addressed}

pub is_addressing_of : (p q : PlainPlan) → IsImage p q → IsSound p → IsAddressingOf p q
is_addressing_of p q h sound =
    let maps = sound.formed.views in
    let same = image_is p q h in
    let images = h.blocks in
    let image = subst (λ (r : PlainPlan). IsImage p r) (sym same) h in
    record {
      table = h.table;
      registers = h.registers;
      body = h.body;
      meets = h.meets;
      faults = h.faults;
      sound = subst (λ (r : PlainPlan). IsSound r) same (image_sound p maps sound q.blocks image);
      addressed = subst (λ (r : PlainPlan). IsAddressed r) same (is_addressed p maps sound q.blocks images);
      does = subst (λ (r : PlainPlan). BlocksDoTheSame p r) same (blocks_do_the_same p maps sound q.blocks images);
      runs = subst (λ (r : PlainPlan). RunTheSame p r) same (runs_the_same p maps sound q.blocks images);
      sees = sees_same p q h;
      sets = sets_same p q h;
      charges = charges_same p q h;
      lengths = lengths_same p maps sound q.blocks images;
      products = products_same p q h;
      literals = literals_kept p q h sound.formed.blocks maps sound.formed.table;
    }
