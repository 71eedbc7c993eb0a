use Rattle.std.proofs.Common.{rules}
use Rattle.line_text.specs.Lines.{spell, Valid}
use Rattle.line_text.proofs.Numerals.{then_reads}
use Rattle.line_text.proofs.Refusals.{trailer_uncut, trailer_parts}
use Rattle.line_text.proofs.parse.trailer.Goals as goal

pub returns-in_err-place : goal.returns-in_err-place
returns-in_err-place c = rw c.from_residual.ensures (trailer_uncut c.args.bytes.now c.in_err-place.ensures)

pub returns : goal.returns
returns c =
    let cuts = c.in_ok-place.ensures in
    rw c.then_some.ensures (then_reads spell Valid _ c.if-is_numeral.then_some _ (λ t. search rules) (λ f l v e. let p = trailer_parts c.args.bytes.now _ _ cuts.0 cuts.1 l v e in search rules))
