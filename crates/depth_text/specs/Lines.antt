-- The lines that the program writes. Assumes nothing.
use Rattle.std.specs.Prelude.{◌≡◌, ℕ, zero, suc, ◌<◌, List, [], ◌∷◌, ◌++◌, map, length, decimal, Result, OnOk, slice_index, slice_index_or}
use Rattle.std.specs.Borrow.{Bor}
use Rattle.std.specs.Fmt.{signed_decimal}
use Rattle.std.specs.List.{flat_map}
use Rattle.measure.specs.declared.Amount.{Amount}

-- a call that answers r adds the bytes, unless memory ran out
abbrev pub Adds : {E : Type 0} → List ℕ → List ℕ → Result (Unit {0}) E → List ℕ → Type 0
Adds before bytes r after = OnOk r (after ≡ before ++ bytes)

-- parts, each after a space
abbrev pub spaced : List (List ℕ) → List ℕ
spaced parts = flat_map (λ part. 32 ∷ part) parts

-- parts with one space between them, ended by byte 10
abbrev pub line : List ℕ → List (List ℕ) → List ℕ
line first others = first ++ (spaced others ++ 10 ∷ [])

-- the bytes of `contradiction`
abbrev pub contradiction_word : List ℕ
contradiction_word = 99 ∷ 111 ∷ 110 ∷ 116 ∷ 114 ∷ 97 ∷ 100 ∷ 105 ∷ 99 ∷ 116 ∷ 105 ∷ 111 ∷ 110 ∷ []

-- the bytes of `refused`
abbrev pub refused_word : List ℕ
refused_word = 114 ∷ 101 ∷ 102 ∷ 117 ∷ 115 ∷ 101 ∷ 100 ∷ []

-- a marker's name, its depth's millimetres and marks, and its parent's name
abbrev pub row_line : List ℕ → Amount → List ℕ → List ℕ
row_line name depth parent = line name (signed_decimal depth.mm ∷ signed_decimal depth.marks ∷ parent ∷ [])

-- the rows of the markers below n, in order
abbrev pub rows_text : (ℕ → List ℕ) → (ℕ → Amount) → (ℕ → ℕ) → ℕ → List ℕ
rows_text name depth parent zero = []
rows_text name depth parent (suc m) = rows_text name depth parent m ++ row_line (name m) (depth m) (name (parent m))

-- `contradiction` and the names of the cycle's markers
abbrev pub contradiction_line : (ℕ → List ℕ) → List ℕ → List ℕ
contradiction_line name cycle = line contradiction_word (map name cycle)

-- `refused`, the code and the place
abbrev pub refused_line : ℕ → ℕ → List ℕ
refused_line code place = line refused_word (decimal code ∷ decimal place ∷ [])

-- ---- what tables give for each marker

abbrev pub texts : List (Bor (List ℕ)) → List (List ℕ)
texts names = map (λ name. name.now) names

abbrev pub name_in : List (Bor (List ℕ)) → ℕ → List ℕ
name_in names m = slice_index_or (texts names) m []

-- the first n of the markers have names
abbrev pub Named : List (Bor (List ℕ)) → List ℕ → ℕ → Type 0
Named names markers n = (k : ℕ) → k < n → slice_index markers k < length names
