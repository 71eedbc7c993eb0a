use Rattle.std.proofs.Common.{sym, ◌∙◌, true≢false, arith}
use Rattle.table.specs.Climb.{up as parents_of}
use Rattle.update.proofs.Settling.{fewer_left, room_to}
use Rattle.update.proofs.Falling.{grows_next, cycles, solved_all, solved_rest}
use Rattle.update.proofs.update.Update.settle_fallen.Goals as goal

pub nearest-requires : goal.nearest-requires
nearest-requires g c = room_to g.M.Measure _ c.args.self.now.table.few c.loop-y.work c.loop-y.invariant.0 128 (omega arith)

pub stays-requires : goal.stays-requires
stays-requires g c = record { marker = c.in-Some.ensures.inside; labels = room_to g.M.Measure _ c.args.self.now.table.few c.loop-y.work c.loop-y.invariant.0 128 (omega arith) }

pub returns-in-Err-clause-outcome : goal.returns-in-Err-clause-outcome
returns-in-Err-clause-outcome g c =
    let told = c.in-Err.ensures.relaxed in
    cycles g.G.Graph g.M.Measure c.args.self.now c.args.up.now c.args.work c.loop-y.work c.loop-y.invariant.1 c.in-Some.y c.in-Some.ensures c.settle.new.work
    (λ h. true≢false (sym (c.stays.ensures.1 h) ∙ c.if-stays.false)) c.settle.ensures.settles c.in-Err.z told.0 told.1 (parents_of c.closed.result.rows) c.closed.ensures.here c.closed.ensures.other

pub loop-y-preserved : goal.loop-y-preserved
loop-y-preserved g c = (
  c.settle.ensures.room,
  grows_next g.G.Graph g.M.Measure c.args.self.now c.args.up.now c.args.work c.loop-y.work c.loop-y.invariant.1 c.in-Some.y c.in-Some.ensures c.settle.new.work
      (λ h. true≢false (sym (c.stays.ensures.1 h) ∙ c.if-stays.false)) c.settle.ensures.settles c.in_default-settle.ensures.relaxed,
)

pub loop-y-smaller : goal.loop-y-smaller
loop-y-smaller g c = fewer_left c.loop-y.work.done c.settle.new.work.done _ c.settle.ensures.one

pub returns-then-stays : goal.returns-then-stays
returns-then-stays g c =
    record {
      outcome = solved_rest g.G.Graph g.M.Measure c.args.self.now c.args.up.now c.args.work c.loop-y.work c.loop-y.invariant.1 c.in-Some.y c.in-Some.ensures (c.stays.ensures.0 c.if-stays.true);
      sizes = room_to g.M.Measure _ c.args.self.now.table.few c.loop-y.work c.loop-y.invariant.0 128 (omega arith);
    }

pub returns-in_default : goal.returns-in_default
returns-in_default g c =
    record {
      outcome = solved_all g.G.Graph g.M.Measure c.args.self.now c.args.up.now c.args.work c.loop-y.work c.loop-y.invariant.1 c.in_default.ensures;
      sizes = room_to g.M.Measure _ c.args.self.now.table.few c.loop-y.work c.loop-y.invariant.0 128 (omega arith);
    }
