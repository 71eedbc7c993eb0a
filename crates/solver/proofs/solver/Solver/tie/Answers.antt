use Rattle.std.proofs.Common.{◌≡◌, length, Ok, sym, refl, ◌∙◌, rules}
use Rattle.table.specs.Climb.{up}
use Rattle.update.proofs.Cycles.{cycle_leads}
use Rattle.law.proofs.Answers.{refused}
use Rattle.law.proofs.Tellings.{goes_on}
use Rattle.law.specs.declared.call.Answer.TheVariants as answer
use Rattle.law.specs.declared.call.Call.TheVariants as call
use Rattle.solver.proofs.Openings.{none_of, some_of}
use Rattle.solver.proofs.Ties.{pair_passed, tie_contradicted, tie_room}
use Rattle.solver.specs.Model.{model}
use Rattle.solver.specs.Trials.{Upheld}
use Rattle.std.proofs.lemmas.Result.{err_from_is_err_and}
use Rattle.solver.proofs.solver.Solver.tie.Goals as goal

pub trail-requires : goal.trail-requires
trail-requires g c =
    let μ = g.M.Measure in
    let s = c.args.self.now in
    let t = c.args in
    let m = g.S.TieStore.meaning s.store in
    let whole : Upheld g.S.TieStore μ c.args.self.now = rw (← c.self.view_is) c.self.invariant in
    let law = g.S.TieStore.lawful s.store in
    let room = length c.args.cycle.now in
    let ok : c.check_tie.result ≡ Ok tt = search rules in
    let none = none_of _ (sym c.check_tie.ensures ∙ ok) in
    let passed = pair_passed μ (model g.S.TieStore s).standing _ _ _ none in
    cycle_leads μ.group m.count _ (up c.in-Err.found.rows) _ _ c.in-Err.ensures.1 law.high room (tie_room μ m _ _ t.amount room passed)

pub returns-in_err-check_tie : goal.returns-in_err-check_tie
returns-in_err-check_tie g c =
    let μ = g.M.Measure in
    let t = c.args in
    let before = c.args.cycle.now in
    let k = call.Tie t.from t.to t.amount (length before) in
    let why = c.in_err-check_tie.field-0.0 in
    let p = err_from_is_err_and c.from_residual.result c.from_residual.ensures.1 in
    let some = some_of _ why (sym c.check_tie.ensures ∙ c.in_err-check_tie.was) in
    let told = refused μ (model g.S.TieStore c.args.self.now) k before (answer.Refused why) before _ why some refl refl refl in
    rw (p.1, p.2) (record { answered = told; logged = goes_on μ _ _ k before _ _ told })

pub returns-in-Ok-clause-logged : goal.returns-in-Ok-clause-logged
returns-in-Ok-clause-logged g c = goes_on g.M.Measure _ _ (call.Tie c.args.from c.args.to c.args.amount (length c.args.cycle.now)) c.args.cycle.now _ _ (search rules)

pub returns-in-Err : goal.returns-in-Err
returns-in-Err g c =
    let st = g.S.TieStore in
    let μ = g.M.Measure in
    let s = c.args.self.now in
    let t = c.args in
    let before = c.args.cycle.now in
    let m = model st s in
    let k = call.Tie t.from t.to t.amount (length before) in
    let ok : c.check_tie.result ≡ Ok tt = search rules in
    let none = none_of _ (sym c.check_tie.ensures ∙ ok) in
    let told = tie_contradicted st μ s t.from t.to t.amount before c.trail.new.out c.trail.result (up c.in-Err.found.rows) none c.in-Err.ensures.1 c.trail.ensures.count c.trail.ensures.out in
    rw c.in-Err.ensures.0 (record { answered = told; logged = goes_on μ m m k before _ _ told })
