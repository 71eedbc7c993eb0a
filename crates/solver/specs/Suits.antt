-- What a solver keeps: its table suits its store. Assumes nothing.
use Rattle.std.specs.Prelude.{◌≡◌, ℕ, ◌<◌, true, false, Some}
use Rattle.measure.specs.declared.Amount.{Amount}
use Rattle.measure.specs.declared.Measure.{Ghosts as MeasureGhosts}
use Rattle.store.specs.declared.TieStore.{Ghosts as StoreGhosts}
use Rattle.graph.specs.Theorems.{Solved}
use Rattle.table.specs.Climb.{deep, up}
use Rattle.table.specs.declared.table.DepthTable.{DepthTable}
use Rattle.law.specs.Refusals.{is_new}
use Rattle.law.specs.Standing.{bounds_of, Ties}
use Rattle.solver.specs.Held.{Held}

module _ {M : Type 0} (μ : MeasureGhosts M) where
  -- the table is a shortest-path tree of the bounds that the ties t give, and no depth is large
  pub record TableSuits (total : Amount) (n : ℕ) (t : Ties) (table : DepthTable) : Type 0 where
    pub same : table.n ≡ n
    pub depths : (z : ℕ) → z < table.n → μ.within 63 (deep table.rows z)
    pub solved : Solved μ.group table.n (bounds_of μ total t) (λ z. μ.value (deep table.rows z)) (up table.rows)

  -- every amount in use is admitted
  pub record Admitted (total : Amount) (t : Ties) : Type 0 where
    pub total_admitted : μ.admits total ≡ true
    pub ties_admitted : (x y : ℕ) (w : Amount) → t x y ≡ Some w → μ.admits w ≡ true

module _ {S M : Type 0} (st : StoreGhosts S) (μ : MeasureGhosts M) where
  pub record Suits (s : Held S) : Type 0 where
    pub same : s.table.n ≡ (st.meaning s.store).count
    pub table : is_new s.state ≡ false → TableSuits μ s.total (st.meaning s.store).count (st.meaning s.store).tie s.table
    pub amounts : is_new s.state ≡ false → Admitted μ s.total (st.meaning s.store).tie
