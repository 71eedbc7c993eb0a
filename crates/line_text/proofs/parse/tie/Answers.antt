use Rattle.std.proofs.Common.{rules}
use Rattle.line_text.specs.Lines.{spell, Valid}
use Rattle.line_text.proofs.Numerals.{then_reads}
use Rattle.line_text.proofs.Refusals.{tie_uncut, tie_uncut_end, tie_parts}
use Rattle.line_text.proofs.parse.tie.Goals as goal

pub returns-in_err-start : goal.returns-in_err-start
returns-in_err-start c = rw c.from_residual.ensures (tie_uncut c.args.bytes.now c.in_err-start.ensures)

pub returns-in_err-end : goal.returns-in_err-end
returns-in_err-end c =
    let cuts = c.in_ok-start.ensures in
    rw c.from_residual-in_err-end.ensures (tie_uncut_end c.args.bytes.now _ _ cuts.0 cuts.1 c.in_err-end.ensures)

pub returns-in_err-amount : goal.returns-in_err-amount
returns-in_err-amount c =
    let cuts = c.in_ok-start.ensures in
    let more = c.in_ok-end.ensures in
    rw c.from_residual-in_err-amount.ensures
    (λ l v e. let t = (tie_parts c.args.bytes.now _ _ cuts.0 cuts.1 _ _ more.0 more.1 l v e).2 in c.in_err-amount.ensures t.0 t.1 t.2)

pub returns : goal.returns
returns c =
    let cuts = c.in_ok-start.ensures in
    let more = c.in_ok-end.ensures in
    rw c.then_some.ensures (then_reads spell Valid _ c.if-is_name.then_some _ (λ t. search rules) (λ f l v e. let p = tie_parts c.args.bytes.now _ _ cuts.0 cuts.1 _ _ more.0 more.1 l v e in search rules))
