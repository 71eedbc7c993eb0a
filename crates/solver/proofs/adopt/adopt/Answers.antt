use Rattle.std.proofs.Common.{Option, subst, arith}
use Rattle.measure.proofs.Within.{wider_to}
use Rattle.table.specs.declared.table.DepthTable.{DepthTable}
use Rattle.solver.specs.Changing.{SameSize}
use Rattle.solver.proofs.adopt.adopt.Goals as goal

pub moved-requires : goal.moved-requires
moved-requires g c =
    let μ = g.M.Measure in
    let size = subst (λ (o : Option DepthTable). SameSize μ c.args.table.now o) c.in-Some.is c.requires in
    record {
      same = size.0;
      old = λ z h. wider_to μ.laws.wider 63 256 _ (omega arith) (size.1 z h);
      new = λ z h. wider_to μ.laws.wider 63 256 _ (omega arith) (size.2 z h);
    }
