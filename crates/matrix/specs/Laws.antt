-- A sound matrix is lawful. Assumes nothing.
use Rattle.std.specs.Prelude.{ℕ, ◌&&◌, List, None, Option, nat_lt, refl}
use Rattle.std.proofs.lemmas.Bool.{cond-false, eq-eqb, and_left, and_right, le-ltb, not_from_true}
use Rattle.measure.specs.declared.Amount.{Amount}
use Rattle.store.specs.Meaning.{Lawful}
use Rattle.matrix.specs.Matrix.{matrix_meaning, MatrixSound}

pub matrix_lawful : (n ties : ℕ) (cells : List (Option Amount)) → MatrixSound n ties cells → Lawful (matrix_meaning n cells)
matrix_lawful n ties cells s = record {
  low = s.low;
  high = s.high;
  unknown_start = λ a b h. cond-false _ _ None (and_left _ _ (and_left _ _ (le-ltb a n h)));
  unknown_end = λ a b h. cond-false _ _ None (and_left _ _ (and_right (nat_lt a n) _ (le-ltb b n h)));
  same = λ a. cond-false _ _ None (and_right (nat_lt a n && nat_lt a n) _ (not_from_true _ (eq-eqb a a refl)));
}
