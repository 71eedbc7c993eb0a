use Rattle.std.proofs.Common.{arith}
use Rattle.update.proofs.Rows.{no_flag}
use Rattle.update.proofs.Settling.{fewer_left, room_to}
use Rattle.raise.proofs.Spreads.{spread_all, spreads_next}
use Rattle.raise.proofs.settle.settle_rest.Goals as goal

pub nearest-requires : goal.nearest-requires
nearest-requires g c = room_to g.M.Measure _ c.args.update.now.table.few c.loop-y.work c.loop-y.invariant.0 128 (omega arith)

pub loop-y-smaller : goal.loop-y-smaller
loop-y-smaller g c = fewer_left c.loop-y.work.done c.settle.new.work.done _ c.settle.ensures.one

pub loop-y-preserved : goal.loop-y-preserved
loop-y-preserved g c = (
  c.settle.ensures.room,
  spreads_next g.G.Graph g.M.Measure c.args.update.now c.loop-y.work c.loop-y.invariant.1 c.settle.new.work c.in-Some.y _ (no_flag 64) c.in-Some.ensures c.settle.ensures.settles c.settle.result c.settle.ensures.relaxed,
)

pub returns : goal.returns
returns g c =
    record {
      solved = spread_all g.G.Graph g.M.Measure c.args.update.now c.loop-y.work c.loop-y.invariant.1 c.in_default.ensures;
      sizes = room_to g.M.Measure _ c.args.update.now.table.few c.loop-y.work c.loop-y.invariant.0 128 (omega arith);
    }
