use Rattle.std.proofs.Common.{subst, arith}
use Rattle.std.proofs.lemmas.Bool.Decides.{nat_tests}
use Rattle.line_text.specs.Spelling.{Numeral}
use Rattle.line_text.proofs.Numerals.{as_number, as_text, none_long, numeral_decimal}
use Rattle.line_text.proofs.numbers.decimal_u32.Goals as goal

pub returns-then-bytes-gt10 : goal.returns-then-bytes-gt10
returns-then-bytes-gt10 c = λ n h. none_long n (omega arith) c.args.bytes.now (grind (arith, nat_tests)) n (omega arith)

pub returns-then-not-is_numeral : goal.returns-then-not-is_numeral
returns-then-not-is_numeral c = λ n h e. let y = c.is_numeral.ensures.1 (subst Numeral e (numeral_decimal n (omega arith))) in cc

pub returns-in_err-ok : goal.returns-in_err-ok
returns-in_err-ok c =
    let n = c.is_numeral.ensures.0 c.if-not-is_numeral.false in
    absurd (as_text c.args.bytes.now n _ c.from_utf8.result _ c.in_err-ok.ensures.value c.from_utf8.ensures.cases)

pub returns : goal.returns
returns c =
    let n = c.is_numeral.ensures.0 c.if-not-is_numeral.false in
    let e = as_text c.args.bytes.now n _ c.from_utf8.result _ c.in_ok-ok.ensures.value c.from_utf8.ensures.cases in
    as_number c.args.bytes.now n c.parse.result _ c.ok-2.ensures.value (rw e at c.parse.ensures.value.0)
