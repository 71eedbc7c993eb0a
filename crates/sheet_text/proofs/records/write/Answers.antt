use Rattle.std.proofs.Common.{◌++◌, map, take, drop, set, ap, ◌∙◌}
use Rattle.sheet_text.specs.Calls.{record_of}
use Rattle.sheet_text.proofs.Recording.{written_more}
use Rattle.sheet_text.proofs.records.write.Goals as goal

pub loop-i-preserved : goal.loop-i-preserved
loop-i-preserved c =
    let i = c.loop-i.i in
    ap (λ xs. set xs i c.from.result) c.loop-i.invariant
    ∙ ap (set (map record_of (take i c.args.ties.now) ++ drop i c.args.records.now) i) c.from.ensures
    ∙ written_more c.args.records.now c.args.ties.now i c.loop-i-test.true c.requires
