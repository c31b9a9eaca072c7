use Rattle.std.proofs.Common.{◌≡◌, ℕ, ◌+◌, ◌*◌, ◌<◌, refl, sym, subst, slice_index_or}
use Rattle.std.proofs.Math.Facts.{Fits-of_lt}
use Rattle.dh_net.specs.BankPorts.{port_number}
use Rattle.dh_sim.proofs.Firsts.{first_there, number_at, parts_small}
use Rattle.dh_sim.proofs.layouts.Layout.place.Goals as goal

pub index-requires : goal.index-requires
index-requires c =
    subst (λ (n : ℕ). c.args.memory < n) (sym c.args.self.now.firsts.ok.0)
    (first_there c.args.table.now c.args.self.now.firsts.items c.args.memory c.requires.layout.firsts c.requires.memory)

-- the parts of the sum, beside the port's own number where that is not read yet
part : (c : goal.After-from) → c.index.result.now + (c.from.result * (slice_index_or c.args.table.now c.args.memory c.index-table-memory.result).shape.ports + c.args.port)
    ≡ port_number c.args.table.now c.args.memory c.args.bank c.args.port
part c =
    number_at c.args.table.now c.args.self.now.firsts.items c.args.memory c.args.bank c.args.port c.index-table-memory.result c.index.result.now c.from.result c.args.port
    c.requires.layout.firsts c.requires.memory c.index.ensures c.from.ensures refl

whole : (c : goal.After-from-2) → c.index.result.now + (c.from.result * (slice_index_or c.args.table.now c.args.memory c.index-table-memory.result).shape.ports + c.from-2.result)
    ≡ port_number c.args.table.now c.args.memory c.args.bank c.args.port
whole c =
    number_at c.args.table.now c.args.self.now.firsts.items c.args.memory c.args.bank c.args.port c.index-table-memory.result c.index.result.now c.from.result c.from-2.result
    c.requires.layout.firsts c.requires.memory c.index.ensures c.from.ensures c.from-2.ensures

pub overflow_mul-result : goal.overflow_mul-result
overflow_mul-result c =
    Fits-of_lt ((parts_small c.index.result.now (c.from.result * (slice_index_or c.args.table.now c.args.memory c.index-table-memory.result).shape.ports) c.args.port _ (part c) c.requires.small).0)

pub overflow_add-result : goal.overflow_add-result
overflow_add-result c =
    Fits-of_lt ((parts_small c.index.result.now (c.from.result * (slice_index_or c.args.table.now c.args.memory c.index-table-memory.result).shape.ports) c.from-2.result _ (whole c) c.requires.small).1.0)

pub overflow_add-result-2 : goal.overflow_add-result-2
overflow_add-result-2 c =
    Fits-of_lt ((parts_small c.index.result.now (c.from.result * (slice_index_or c.args.table.now c.args.memory c.index-table-memory.result).shape.ports) c.from-2.result _ (whole c) c.requires.small).1.1)

pub returns : goal.returns
returns c = whole c
