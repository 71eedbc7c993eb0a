use Rattle.std.proofs.Common.{ℕ, ◌<◌, List, [], ◌++◌, get_or, vec_items, ap, ◌∙◌, arith}
use Rattle.sheet_text.specs.Naming.{names_of}
use Rattle.solver.specs.Model.{model}
use Rattle.solver.proofs.Readings.{row_read}
use Rattle.report.proofs.Rows.{rows_more, same_line}
use Rattle.report.proofs.told.add_rows.Goals as goal

pub loop-m-preserved : goal.loop-m-preserved
loop-m-preserved g c =
    let s = model g.S.TieStore c.args.solver.now in
    let k = c.loop-m.m in
    let known : c.loop-m.m < (model g.S.TieStore c.args.solver.now).standing.count = omega (arith, c.loop-m-test.true, c.requires.known) in
    let name : ℕ → List ℕ = λ m. get_or (names_of c.args.names.now) m [] in
    let row = c.in-Ok.row in
    let read = row_read g.M.Measure s k c.requires.opened known row c.in-Ok.ensures.answered in
    let line = same_line name s.depth s.parent k row.parent row.depth _ _ c.name.ensures read.0 read.1 c.name-in-loop-m.ensures in
    rows_more name s.depth s.parent k (vec_items c.args.out.now) (vec_items c.loop-m.out) _ c.loop-m.invariant
    (c.in_ok-add_row.ensures ∙ ap (λ l. vec_items c.loop-m.out ++ l) line)
