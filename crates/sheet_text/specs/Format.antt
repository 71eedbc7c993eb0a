-- A well's text: how it is written, and of what. Assumes nothing.
use Rattle.std.specs.Prelude.{◌≡◌, ℕ, ◌<◌, ◌≤◌, List, [], ◌∷◌, ◌++◌, map, length, get_or, ℤ, decimal, ◌≢◌, slice_index_or}
use Rattle.std.specs.Fmt.{signed_decimal}
use Rattle.line_text.specs.Lines.{spell_amount}
use Rattle.line_text.specs.Spelling.{Bounded, Name}
use Rattle.sheet_text.specs.Tying.{no_tie}
use Rattle.sheet_text.specs.declared.ties.Tie.{Tie}

-- what a text says: the total depth, each marker's name and the ties
pub record Well : Type 0 where
  pub depth : ℤ
  pub names : List (List ℕ)
  pub ties : List Tie

-- lines, each ended by byte 10
abbrev pub lines : List (List ℕ) → List ℕ
lines [] = []
lines (l ∷ ls) = l ++ 10 ∷ lines ls

-- `H` and the total depth
abbrev pub depth_text : ℤ → List ℕ
depth_text h = 72 ∷ 32 ∷ signed_decimal h

-- `M` and a name
abbrev pub marker_text : List ℕ → List ℕ
marker_text name = 77 ∷ 32 ∷ name

-- `T`, the names of both ends, the millimetres, and `<` where the tie is strict
abbrev pub tie_text : List (List ℕ) → Tie → List ℕ
tie_text ns t = 84 ∷ 32 ∷ (slice_index_or ns t.start [] ++ 32 ∷ (slice_index_or ns t.end [] ++ 32 ∷ spell_amount t.amount))

-- `Z`, the place of the first tie line (its own where there is none) and the number of tie lines
abbrev pub trailer_text : ℕ → ℕ → List ℕ
trailer_text place count = 90 ∷ 32 ∷ (decimal place ++ 32 ∷ decimal count)

abbrev pub head_lines : ℤ → List (List ℕ) → List (List ℕ)
head_lines h ns = depth_text h ∷ map marker_text ns

abbrev pub tie_lines : List (List ℕ) → List Tie → List (List ℕ)
tie_lines ns ts = map (tie_text ns) ts

-- the lines of a whole text
abbrev pub document_lines : ℤ → List (List ℕ) → List Tie → List (List ℕ)
document_lines h ns ts = head_lines h ns ++ (tie_lines ns ts ++ trailer_text (length (lines (head_lines h ns))) (length ts) ∷ [])

-- the text of a well
abbrev pub document : Well → List ℕ
document w = lines (document_lines w.depth w.names w.ties)

-- names that markers can have together
pub record Named (ns : List (List ℕ)) : Type 0 where
  pub few : length ns ≤ 64
  pub good : (i : ℕ) → i < length ns → Name (slice_index_or ns i [])
  pub apart : (i j : ℕ) → i < length ns → j < length ns → slice_index_or ns i [] ≡ slice_index_or ns j [] → i ≡ j

-- ties of n markers, at most `room`
pub record Tied (n room : ℕ) (ts : List Tie) : Type 0 where
  pub few : length ts ≤ room
  pub starts : (i : ℕ) → i < length ts → (get_or ts i no_tie).start < n
  pub ends : (i : ℕ) → i < length ts → (get_or ts i no_tie).end < n
  pub unlike : (i : ℕ) → i < length ts → (get_or ts i no_tie).start ≢ (get_or ts i no_tie).end
  pub bounded : (i : ℕ) → i < length ts → Bounded (get_or ts i no_tie).amount.mm
  pub apart : (i j : ℕ) → i < length ts → j < length ts → (get_or ts i no_tie).start ≡ (get_or ts j no_tie).start → (get_or ts i no_tie).end ≡ (get_or ts j no_tie).end → i ≡ j

-- a well that a text can say, with at most `room` ties
pub record Proper (room : ℕ) (w : Well) : Type 0 where
  pub depth : Bounded w.depth
  pub two : 2 ≤ length w.names
  pub names : Named w.names
  pub ties : Tied (length w.names) room w.ties

-- the text is that of the well
abbrev pub Says : ℕ → List ℕ → Well → Type 0
Says room file w = Proper room w × (length file ≤ 65536) × (file ≡ document w)
