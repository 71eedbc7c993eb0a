-- The lines that a well's text is written in. Assumes nothing.
use Rattle.std.proofs.Common.{ℕ, ◌^◌, ◌<◌, List, [], length, get_or, decimal, Bor}
use Rattle.line_text.specs.Lines.{Valid}
use Rattle.line_text.specs.Spelling.{Bounded, Without}
use Rattle.line_text.specs.declared.lines.Line.{Line}
use Rattle.line_text.specs.declared.lines.Line.TheVariants.{Marker as MarkerLine, Tie as TieLine, Trailer as TrailerLine}
use Rattle.line_text.proofs.Inked.{unended}
use Rattle.line_text.proofs.Numerals.{numeral_decimal}
use Rattle.sheet_text.specs.Format.{trailer_text, Named}
use Rattle.sheet_text.specs.declared.ties.Tie.{Tie}

abbrev pub ref : List ℕ → Bor (List ℕ)
ref bs = record { ref_ptr = (0, 0); now = bs }

abbrev pub marker_line : List ℕ → Line
marker_line name = MarkerLine (ref name)

abbrev pub tie_line : List (List ℕ) → Tie → Line
tie_line ns t = TieLine (ref (get_or ns t.start [])) (ref (get_or ns t.end [])) t.amount

abbrev pub trailer_line : ℕ → ℕ → Line
trailer_line place count = TrailerLine (ref (decimal place)) (ref (decimal count))

pub valid_tie : (ns : List (List ℕ)) (t : Tie) → Named ns → t.start < length ns → t.end < length ns → Bounded t.amount.mm → Valid (tie_line ns t)
valid_tie ns t n a b m = (n.good t.start a, n.good t.end b, m)

pub valid_trailer : (place count : ℕ) → place < 2 ^ 64 → count < 2 ^ 64 → Valid (trailer_line place count)
valid_trailer place count p c = (numeral_decimal place p, numeral_decimal count c)

pub trailer_unended : (place count : ℕ) → place < 2 ^ 64 → count < 2 ^ 64 → Without 10 (trailer_text place count)
trailer_unended place count p c = unended (trailer_line place count) (valid_trailer place count p c)
