use Rattle.std.proofs.Common.{◌≡◌, [], ◌++◌, get_or, vec_items}
use Rattle.depth_text.specs.Lines.{rows_text}
use Rattle.sheet_text.specs.Naming.{names_of}
use Rattle.solver.specs.Model.{model}
use Rattle.report.proofs.told.add_rows.Given as goal

abbrev pub invariant-loop-m : goal.invariant-loop-m
invariant-loop-m g l =
    let s = model g.S.TieStore l.solver in
    vec_items l.out ≡ vec_items l.initial.out ++ rows_text (λ k. get_or (names_of l.names) k []) s.depth s.parent l.m
