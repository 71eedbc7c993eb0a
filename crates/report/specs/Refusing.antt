-- The line of a refusal or a contradiction. Assumes nothing.
use Rattle.std.specs.Prelude.{ℕ, ◌<◌, ◌≤◌, List, length, take, Some, None, Option, slice_index}
use Rattle.depth_text.specs.Lines.{contradiction_line, refused_line}
use Rattle.law.specs.Refusals.{code_of, cycle_length}
use Rattle.law.specs.declared.call.Refusal.{Refusal}

-- by the length of a contradiction's cycle, which stands at the front of the buffer
abbrev pub line_by : (ℕ → List ℕ) → ℕ → List ℕ → Option ℕ → List ℕ
line_by name code buffer None = refused_line code 0
line_by name code buffer (Some size) = contradiction_line name (take size buffer)

abbrev pub refusal_text : (ℕ → List ℕ) → Refusal → List ℕ → List ℕ
refusal_text name why buffer = line_by name (code_of why) buffer (cycle_length why)

-- the markers of the cycle, if there is one, stand in the buffer, and are below n
abbrev pub Front : Option ℕ → List ℕ → ℕ → Type 0
Front None buffer n = Unit {0}
Front (Some size) buffer n = (size ≤ length buffer) × ((k : ℕ) → k < size → slice_index buffer k < n)
