-- How the lines of a well's text are spelt. Assumes nothing.
use Rattle.std.specs.Prelude.{◌≡◌, ℕ, cond, List, [], ◌∷◌, ◌++◌, ℤ}
use Rattle.std.specs.Fmt.{signed_decimal}
use Rattle.line_text.specs.Spelling.{Bounded, Name, Numeral}
use Rattle.line_text.specs.declared.lines.Line.{Line}
use Rattle.line_text.specs.declared.lines.Line.TheVariants.{TotalDepth, Marker, Tie, Trailer}
use Rattle.line_text.specs.declared.lines.TieAmount.{TieAmount}

-- millimetres, and ` <` where the tie is strict
abbrev pub spell_amount : TieAmount → List ℕ
spell_amount a = signed_decimal a.mm ++ cond a.strict (32 ∷ 60 ∷ []) []

abbrev pub spell : Line → List ℕ
spell (TotalDepth mm) = 72 ∷ 32 ∷ signed_decimal mm
spell (Marker name) = 77 ∷ 32 ∷ name.now
spell (Tie start end amount) = 84 ∷ 32 ∷ (start.now ++ 32 ∷ (end.now ++ 32 ∷ spell_amount amount))
spell (Trailer place count) = 90 ∷ 32 ∷ (place.now ++ 32 ∷ count.now)

abbrev pub Valid : Line → Type 0
Valid (TotalDepth mm) = Bounded mm
Valid (Marker name) = Name name.now
Valid (Tie start end amount) = Name start.now × Name end.now × Bounded amount.mm
Valid (Trailer place count) = Numeral place.now × Numeral count.now

-- what a line says, with its words as lists of bytes
pub data Said : Type 0 where
  total_depth : ℤ → Said
  marker : List ℕ → Said
  tie : List ℕ → List ℕ → TieAmount → Said
  trailer : List ℕ → List ℕ → Said

abbrev pub said : Line → Said
said (TotalDepth mm) = total_depth mm
said (Marker name) = marker name.now
said (Tie start end amount) = tie start.now end.now amount
said (Trailer place count) = trailer place.now count.now

-- no two lines that say different things are spelt alike
abbrev pub Unambiguous : Type 0
Unambiguous = (l m : Line) → Valid l → Valid m → spell l ≡ spell m → said l ≡ said m
