use Rattle.std.proofs.Common.{rules}
use Rattle.line_text.proofs.Numerals.{headed, minus_none, minus_zero}
use Rattle.line_text.proofs.numbers.millimetres.Goals as goal

pub returns-in_err-n-in-45 : goal.returns-in_err-n-in-45
returns-in_err-n-in-45 c = rw c.from_residual.ensures (minus_none c.args.bytes.now _ (headed 45 c.args.bytes.now (search rules) (search rules)) c.in_err-n-in-45.ensures)

pub returns-in-0 : goal.returns-in-0
returns-in-0 c = minus_zero c.args.bytes.now _ (headed 45 c.args.bytes.now (search rules) (search rules)) _ (search rules) c.in_ok-n-in-45.ensures.1
