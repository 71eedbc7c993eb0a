-- Which names a table holds, in their order. Assumes nothing.
use Rattle.std.specs.Prelude.{ℕ, List, map, position, Option}
use Rattle.std.specs.Borrow.{Bor}
use Rattle.std.specs.Str.{bytes_eq}
use Rattle.sheet_text.specs.declared.names.Names.{Names}

abbrev pub texts : List (Bor (List ℕ)) → List (List ℕ)
texts rs = map (λ r. r.now) rs

-- the names of a table, in order
abbrev pub names_of : Names → List (List ℕ)
names_of t = texts t.list.items

-- the first place at which `name` stands, if it does
abbrev pub place_of : List (List ℕ) → List ℕ → Option ℕ
place_of names name = position (λ x. bytes_eq x name) names
