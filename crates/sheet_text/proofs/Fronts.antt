-- The front of a text that says what is known. Assumes nothing.
use Rattle.std.proofs.Common.{◌≡◌, ℕ, ◌<◌, ◌≤◌, List, [], ◌∷◌, ◌++◌, length, sym, refl, ap, ◌∙◌, append_assoc}
use Rattle.line_text.specs.Spelling.{Bounded}
use Rattle.sheet_text.specs.Format.{lines, head_lines, tie_lines, document_lines, Named, Tied}
use Rattle.sheet_text.specs.Reading.{Known}
use Rattle.sheet_text.specs.declared.state.Phase.{Phase}
use Rattle.sheet_text.specs.declared.state.Phase.TheVariants.{TotalDepth as AtDepth, Markers as AtMarkers, Ties as AtTies, End as AtEnd}

-- the lines of the total depth, the markers and the ties
abbrev pub tied_lines : Known → List (List ℕ)
tied_lines k = head_lines k.depth k.names ++ tie_lines k.names k.ties

-- the lines that say what is known
abbrev pub front_lines : Phase → Known → List (List ℕ)
front_lines AtDepth k = []
front_lines AtMarkers k = head_lines k.depth k.names
front_lines (AtTies first) k = tied_lines k
front_lines AtEnd k = document_lines k.depth k.names k.ties

abbrev pub front : Known → List ℕ
front k = lines (front_lines k.phase k)

abbrev pub Staged : Phase → Known → Type 0
Staged AtDepth k = (k.names ≡ []) × (k.ties ≡ [])
Staged AtMarkers k = k.ties ≡ []
Staged (AtTies first) k = (2 ≤ length k.names) × (0 < length k.ties) × (first ≡ length (lines (head_lines k.depth k.names)))
Staged AtEnd k = 2 ≤ length k.names

-- what the front of a text can say
pub record Fair (k : Known) : Type 0 where
  pub depth : Bounded k.depth
  pub names : Named k.names
  pub ties : Tied (length k.names) k.room k.ties
  pub staged : Staged k.phase k

pub lines_append : (a b : List (List ℕ)) → lines (a ++ b) ≡ lines a ++ lines b
lines_append [] b = refl
lines_append (l ∷ a) b = ap (λ r. l ++ 10 ∷ r) (lines_append a b) ∙ sym (append_assoc l (10 ∷ lines a) (lines b))
