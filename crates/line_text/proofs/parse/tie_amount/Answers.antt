use Rattle.std.proofs.Common.{[], ◌∷◌, w64, SFits, rules}
use Rattle.std.proofs.lemmas.Bool.Decides.{Decides-eqb}
use Rattle.std.proofs.lemmas.Int.{to_z-of_z}
use Rattle.std.proofs.lemmas.Slice.Eq.{strip_suffix_is}
use Rattle.line_text.proofs.Refusals.{amount_none, amount_some}
use Rattle.line_text.proofs.parse.tie_amount.Goals as goal

pub returns-in_err-millimetres : goal.returns-in_err-millimetres
returns-in_err-millimetres c =
    let f = strip_suffix_is Decides-eqb c.args.bytes.now (32 ∷ 60 ∷ []) c.strip_suffix-front.result c.strip_suffix-front.ensures.cases in
    rw c.from_residual.ensures (amount_none c.args.bytes c.strip_suffix-front.result f (rw c.unwrap_or.ensures at c.in_err-millimetres.ensures))

pub returns : goal.returns
returns c =
    let f = strip_suffix_is Decides-eqb c.args.bytes.now (32 ∷ 60 ∷ []) c.strip_suffix-front.result c.strip_suffix-front.ensures.cases in
    let read = c.in_ok-millimetres.ensures in
    let fits : SFits w64 c.in_ok-millimetres.field-0 = search rules in
    rw (to_z-of_z w64 c.in_ok-millimetres.field-0 fits, c.is_some.ensures)
    (read.0, amount_some c.args.bytes c.strip_suffix-front.result f c.in_ok-millimetres.field-0 (rw c.unwrap_or.ensures at read.1))
