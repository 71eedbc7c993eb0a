-- What a solver holds, as clauses see it. Assumes nothing.
use Rattle.std.specs.Prelude.{ℕ}
use Rattle.measure.specs.declared.Amount.{Amount}
use Rattle.table.specs.declared.table.DepthTable.{DepthTable}
use Rattle.law.specs.declared.call.State.{State}

pub record Held (S : Type 0) : Type 0 where
  pub store : S
  pub total : Amount
  pub number : ℕ
  pub state : State
  pub changes : ℕ
  pub table : DepthTable
