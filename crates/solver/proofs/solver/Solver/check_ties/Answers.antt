use Rattle.std.proofs.Common.{◌<◌, sym, ap, ◌∙◌}
use Rattle.std.proofs.lemmas.Result.{err_from_is_err_and}
use Rattle.law.specs.Refusals.{bad_tie, lowest}
use Rattle.law.proofs.Scans.{lowest_found, lowest_step}
use Rattle.solver.specs.Opening.{as_result}
use Rattle.solver.proofs.Openings.{none_of, some_of}
use Rattle.solver.proofs.solver.Solver.check_ties.Goals as goal

pub returns-in_err-check_ties_from : goal.returns-in_err-check_ties_from
returns-in_err-check_ties_from g c =
    let m = g.S.TieStore.meaning c.args.self.now.store in
    let below : c.loop-a.a < (g.S.TieStore.meaning c.args.self.now.store).count = rw (← c.self.view_is, ← c.marker_count-a-end.ensures) c.loop-a-test.true in
    let why = c.in_err-check_ties_from.field-0.0 in
    let p = err_from_is_err_and c.from_residual.result c.from_residual.ensures.1 in
    rw (p.1, p.2) (sym (ap as_result (lowest_found (λ a. lowest m.count (λ b. bad_tie g.M.Measure a b (m.tie a b))) m.count c.loop-a.a why below c.loop-a.invariant (some_of _ why (sym c.check_ties_from.ensures ∙ c.in_err-check_ties_from.was)))))

pub loop-a-preserved : goal.loop-a-preserved
loop-a-preserved g c =
    let m = g.S.TieStore.meaning c.args.self.now.store in
    lowest_step (λ a. lowest m.count (λ b. bad_tie g.M.Measure a b (m.tie a b))) c.loop-a.a c.loop-a.invariant (none_of _ (sym c.check_ties_from.ensures ∙ c.in_ok-check_ties_from.was))
