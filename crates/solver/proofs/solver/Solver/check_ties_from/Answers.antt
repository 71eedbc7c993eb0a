use Rattle.std.proofs.Common.{◌<◌, sym, ap, ◌∙◌}
use Rattle.std.proofs.lemmas.Result.{err_from_is_err_and}
use Rattle.law.specs.Refusals.{bad_tie}
use Rattle.law.proofs.Scans.{lowest_found, lowest_step}
use Rattle.solver.specs.Opening.{as_result}
use Rattle.solver.proofs.Openings.{none_of, some_of}
use Rattle.solver.proofs.solver.Solver.check_ties_from.Goals as goal

pub returns-in_err-check_tie_at : goal.returns-in_err-check_tie_at
returns-in_err-check_tie_at g c =
    let m = g.S.TieStore.meaning c.args.self.now.store in
    let below : c.loop-b.b < (g.S.TieStore.meaning c.args.self.now.store).count = rw (← c.self.view_is, ← c.marker_count-b-end.ensures) c.loop-b-test.true in
    let why = c.in_err-check_tie_at.field-0.0 in
    let p = err_from_is_err_and c.from_residual.result c.from_residual.ensures.1 in
    rw (p.1, p.2) (sym (ap as_result (lowest_found (λ b. bad_tie g.M.Measure c.args.a b (m.tie c.args.a b)) m.count c.loop-b.b why below c.loop-b.invariant (some_of _ why (sym c.check_tie_at.ensures ∙ c.in_err-check_tie_at.was)))))

pub loop-b-preserved : goal.loop-b-preserved
loop-b-preserved g c =
    let m = g.S.TieStore.meaning c.args.self.now.store in
    lowest_step (λ b. bad_tie g.M.Measure c.args.a b (m.tie c.args.a b)) c.loop-b.b c.loop-b.invariant (none_of _ (sym c.check_tie_at.ensures ∙ c.in_ok-check_tie_at.was))
