use Rattle.std.proofs.Common.{rules}
use Rattle.sheet_text.specs.Calls.{Checked}
use Rattle.sheet_text.proofs.Counted.{roomy}
use Rattle.sheet_text.proofs.reader.check.Goals as goal

pub returns-in_err-read : goal.returns-in_err-read
returns-in_err-read c =
    let header : Checked c.args.text.now c.from_residual.result = search rules in
    record { header = header; roomy = roomy c.args.text.now c.from_residual.result header }
