-- What a square of cells holds. Assumes nothing.
use Rattle.std.specs.Prelude.{◌≡◌, ℕ, zero, suc, ◌+◌, ◌-◌, ◌*◌, ◌<◌, ◌≤◌, false, cond, not, ◌&&◌, List, length, is_some, None, Ok, Err, Option, Result, ◌==◌, nat_le, nat_lt, slice_index_or}
use Rattle.measure.specs.declared.Amount.{Amount}
use Rattle.store.specs.declared.Refusal.{Refusal}
use Rattle.store.specs.declared.Refusal.TheVariants.{BadSize}
use Rattle.store.specs.Meaning.{StoreMeaning}

-- the cell at place k
abbrev pub cell_at : List (Option Amount) → ℕ → Option Amount
cell_at cells k = slice_index_or cells k None

abbrev pub Emptied : List (Option Amount) → Type 0
Emptied cells = (k : ℕ) → k < length cells → cell_at cells k ≡ None

-- the amount of the pair a, b: row a, column b
abbrev pub cell_tie : ℕ → List (Option Amount) → ℕ → ℕ → Option Amount
cell_tie n cells a b = cond (nat_lt a n && nat_lt b n && not (a == b)) (cell_at cells (a * n + b)) None

-- f 0 + .. + f (k - 1)
abbrev pub sum_below : ℕ → (ℕ → ℕ) → ℕ
sum_below zero f = 0
sum_below (suc k) f = sum_below k f + f k

-- how many pairs of n markers have a tie
abbrev pub tie_count : ℕ → (ℕ → ℕ → Option Amount) → ℕ
tie_count n tie = sum_below n (λ a. sum_below n (λ b. cond (is_some (tie a b)) 1 0))

-- n markers, with a cell for each of their n * (n - 1) pairs
abbrev pub matrix_meaning : ℕ → List (Option Amount) → StoreMeaning
matrix_meaning n cells = record {
  count = n;
  closed = λ _. false;
  tie = cell_tie n cells;
  free = n * (n - 1) - tie_count n (cell_tie n cells);
}

-- the cells are a square, and so many have a tie
pub record MatrixSound (n ties : ℕ) (cells : List (Option Amount)) : Type 0 where
  pub low : 2 ≤ n
  pub high : n ≤ 64
  pub size : length cells ≡ n * n
  pub within : ties ≤ n * (n - 1)
  pub counted : ties ≡ tie_count n (cell_tie n cells)

-- whether a matrix of n markers may lie in so many cells
abbrev pub size_answer : ℕ → ℕ → Result Unit Refusal
size_answer n cells = cond (nat_le 2 n && nat_le n 64 && cells == n * n) (Ok tt) (Err BadSize)
