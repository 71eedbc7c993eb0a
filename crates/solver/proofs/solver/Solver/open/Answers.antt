use Rattle.std.proofs.Common.{◌≡◌, length, None, Ok, sym, ◌∙◌, rules}
use Rattle.law.proofs.Tellings.{goes_on}
use Rattle.law.specs.declared.call.Call.TheVariants as call
use Rattle.law.specs.Refusals.{first_refusal}
use Rattle.solver.specs.Opening.{Solves}
use Rattle.solver.specs.Inside.{held}
use Rattle.solver.specs.Model.{model}
use Rattle.solver.specs.Trials.{Upheld}
use Rattle.solver.proofs.Openings.{above_zero, all_admitted, bounds_sound, enough_room, none_of, opened_answered, opened_upheld, opening_passed}
use Rattle.solver.proofs.solver.Solver.open.Goals as goal

pub solve-requires : goal.solve-requires
solve-requires g c =
    let μ = g.M.Measure in
    let s = c.args.self.now in
    let before = c.args.cycle.now in
    let m = g.S.TieStore.meaning s.store in
    let whole : Upheld g.S.TieStore μ c.args.self.now = rw (← c.self.view_is) c.self.invariant in
    let law = g.S.TieStore.lawful s.store in
    let ok : c.check_opening.result ≡ Ok tt = search rules in
    let none = opening_passed g.S.TieStore μ s before (none_of _ (sym c.check_opening.ensures ∙ ok)) in
    record {
      limits = bounds_sound μ s.total m.tie (all_admitted μ s.total m law (length before) none);
      deep = above_zero μ s.total m law (length before) none;
      room = enough_room μ s.total m law (length before) none;
    }

pub invariant_of-self : goal.invariant_of-self
invariant_of-self g c =
    let st = g.S.TieStore in
    let μ = g.M.Measure in
    let before = c.args.cycle.now in
    let ok : c.check_opening.result ≡ Ok tt = search rules in
    let none : first_refusal μ (model g.S.TieStore c.args.self.now).standing (call.Open (length c.args.cycle.now)) ≡ None = none_of _ (sym c.check_opening.ensures ∙ ok) in
    let none = rw (← c.self.view_is) at none in
    let solved : Solves μ c.args.self.now.total (g.S.TieStore.meaning c.args.self.now.store).count (g.S.TieStore.meaning c.args.self.now.store).tie c.args.cycle.now c.solve.new.cycle (Ok c.in_ok-table.table) = search rules in
    let solved = rw (← c.self.view_is) at solved in
    opened_upheld st μ (held c.self.inside) before none c.in_ok-table.table solved.0

pub returns : goal.returns
returns g c =
    let st = g.S.TieStore in
    let μ = g.M.Measure in
    let before = c.args.cycle.now in
    let ok : c.check_opening.result ≡ Ok tt = search rules in
    let none : first_refusal μ (model g.S.TieStore c.args.self.now).standing (call.Open (length c.args.cycle.now)) ≡ None = none_of _ (sym c.check_opening.ensures ∙ ok) in
    let none = rw (← c.self.view_is) at none in
    let solved : Solves μ c.args.self.now.total (g.S.TieStore.meaning c.args.self.now.store).count (g.S.TieStore.meaning c.args.self.now.store).tie c.args.cycle.now c.solve.new.cycle (Ok c.in_ok-table.table) = search rules in
    let solved = rw (← c.self.view_is) at solved in
    let told = opened_answered st μ (held c.self.inside) before none c.in_ok-table.table solved.0 c.n.result c.solve.new.cycle c.n.ensures solved.1 in
    rw (← c.self.view_is) (record { answered = told; logged = goes_on μ _ _ (call.Open (length before)) before _ _ told })

pub returns-in_err-table-clause-logged : goal.returns-in_err-table-clause-logged
returns-in_err-table-clause-logged g c = goes_on g.M.Measure _ _ (call.Open (length c.args.cycle.now)) c.args.cycle.now _ _ (search rules)
