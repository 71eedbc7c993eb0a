-- What a call leaves in a buffer of markers. Assumes nothing.
use Rattle.std.specs.Prelude.{ℕ, List, ◌++◌, length, drop}

-- the list is put at the front of the buffer, and the rest is kept
abbrev pub over_front : List ℕ → List ℕ → List ℕ
over_front ms buffer = ms ++ drop (length ms) buffer
