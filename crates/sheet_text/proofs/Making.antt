-- What a list is made of is said by the text. Assumes nothing.
use Rattle.std.proofs.Common.{ℕ, ◌≤◌, List, Ok, sym, inl, inr}
use Rattle.sheet_text.specs.Calls.{Making}
use Rattle.sheet_text.specs.Format.{Well, Says}
use Rattle.sheet_text.proofs.Determined.{err_ok}

pub made : (room : ℕ) (text : List ℕ) (w : Well) → Making room text (Ok w) → (room ≤ 4096) × Says room text w
made room text w (inl h) = absurd (err_ok (sym h.1))
made room text w (inr h) = h
