use Rattle.std.proofs.Common.{◌≡◌, Err, rules, refl, arith}
use Rattle.sheet_text.specs.Reading.{known, Faulty}
use Rattle.std.proofs.lemmas.Result.{err_from_is_err_and}
use Rattle.sheet_text.specs.Reading.Outcome.{ended, good, faulty}
use Rattle.sheet_text.proofs.Progress.{cut_length}
use Rattle.sheet_text.proofs.reader.read_lines.Goals as goal

pub loop-line-preserved : goal.loop-line-preserved
loop-line-preserved c =
    let told = c.in-Some.ensures in (
      (λ r o. c.loop-line.invariant.0 r (good (known c.take_bytes.new.self) c.in-Some.line.now c.in-Some.after.now told.0 told.1 (search rules) o)),
      omega (arith, cut_length _ _ _ told.1),
    )

pub returns-in_err-map_err : goal.returns-in_err-map_err
returns-in_err-map_err c =
    let told = c.in-Some.ensures in
    let p = err_from_is_err_and c.from_residual.result c.from_residual.ensures.1 in
    let h : Faulty (known c.loop-line.state) c.loop-line.place c.in-Some.line.now c.in_err-map_err.field-0.0.code = search rules in
    let i : c.in_err-map_err.field-0.0.place ≡ c.loop-line.place = search rules in
    rw (p.1, p.2) (c.loop-line.invariant.0 _ (faulty c.in_err-map_err.field-0.0.code c.in-Some.line.now c.in-Some.after.now told.0 told.1 h (λ j. Err (record { code = c.in_err-map_err.field-0.0.code; place = i j }))))

pub returns : goal.returns
returns c = c.loop-line.invariant.0 _ (ended c.in_default.ensures refl)
