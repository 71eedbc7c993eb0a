use Rattle.std.proofs.Common.{◌≡◌, ℕ, List, [], length, get_or, rules}
use Rattle.depth_text.specs.Lines.{rows_text}
use Rattle.sheet_text.specs.Naming.{names_of}
use Rattle.solver.specs.Model.{model}
use Rattle.report.specs.Refusing.{refusal_text}
use Rattle.report.proofs.Tells.{told_front, told_refusal, told_rows}
use Rattle.report.proofs.told.add_opened.Goals as goal

pub returns-in-Ok : goal.returns-in-Ok
returns-in-Ok g c =
    let st = g.S.TieStore in
    let name : ℕ → List ℕ = λ m. get_or (names_of c.args.names.now) m [] in
    let m = model st c.new-solver.result in
    let m' = model st c.open.new.self in
    let full : length c.args.cycle.now ≡ 64 = search rules in (
      rows_text name m'.depth m'.parent c.in-Ok.n,
      c.in_ok-add_rows-in-Ok.ensures,
      told_rows g.M.Measure c.args.total_depth (st.meaning c.args.store) name m m' c.new-solver.ensures.standing _ c.open.new.cycle c.in-Ok.n (rw full at c.in-Ok.ensures.answered),
    )

pub add_refusal-requires : goal.add_refusal-requires
add_refusal-requires g c =
    let st = g.S.TieStore in
    let name : ℕ → List ℕ = λ m. get_or (names_of c.args.names.now) m [] in
    let m = model st c.new-solver.result in
    let m' = model st c.open.new.self in
    let full : length c.args.cycle.now ≡ 64 = search rules in
    told_front g.M.Measure c.args.total_depth (st.meaning c.args.store) name m m' c.new-solver.ensures.standing _ c.open.new.cycle c.in-Err.why (rw full at c.in-Err.ensures.answered)
    (length (names_of c.args.names.now)) c.requires c.open.auto.cycle

pub returns : goal.returns
returns g c =
    let st = g.S.TieStore in
    let name : ℕ → List ℕ = λ m. get_or (names_of c.args.names.now) m [] in
    let m = model st c.new-solver.result in
    let m' = model st c.open.new.self in
    let full : length c.args.cycle.now ≡ 64 = search rules in (
      refusal_text name c.in-Err.why c.open.new.cycle,
      c.in_ok-add_refusal-in-Err.ensures,
      told_refusal g.M.Measure c.args.total_depth (st.meaning c.args.store) name m m' c.new-solver.ensures.standing _ c.open.new.cycle c.in-Err.why (rw full at c.in-Err.ensures.answered),
    )
