-- An open solver whose pair has got an amount, or none. Assumes nothing.
use Rattle.std.specs.Prelude.{◌≡◌, ℕ, Bool, true, None, Some, Ok, Err, Option, Result}
use Rattle.measure.specs.declared.Amount.{Amount}
use Rattle.measure.specs.declared.Measure.{Ghosts as MeasureGhosts}
use Rattle.store.specs.declared.TieStore.{Ghosts as StoreGhosts}
use Rattle.store.specs.Meaning.{set_tie}
use Rattle.table.specs.Climb.{up}
use Rattle.update.specs.Lowering.{NegativeCycle}
use Rattle.update.specs.declared.work.Contradiction.{Contradiction}
use Rattle.law.specs.Calls.{changes_after, Model, moved, reparented, Table}
use Rattle.law.specs.Calls.Kind.{change}
use Rattle.law.specs.Standing.{bounds_of, put}
use Rattle.law.specs.declared.call.Counts.{Counts}
use Rattle.law.specs.declared.call.State.TheVariants as state
use Rattle.solver.specs.Held.{Held}
use Rattle.solver.specs.Model.{model}

module _ {M : Type 0} (μ : MeasureGhosts M) where
  -- an amount, where there is one, is admitted
  abbrev pub admitted_step : Option Amount → Bool
  admitted_step (Some w) = μ.admits w
  admitted_step None = true

  -- an open solver whose pair a, b has got o: the rows are a shortest-path tree of the new bounds, paths that still stand and add
  -- up are kept, and the change is counted
  pub record Settled (m : Model) (a b : ℕ) (o : Option Amount) (r : Counts) (m' : Model) : Type 0 where
    pub standing : m'.standing ≡ put m.standing a b o state.Open
    pub table : Table μ change m m'
    pub changes : m'.changes ≡ changes_after change m.changes
    pub counted : r ≡ record { moved = moved μ m m'; reparented = reparented μ m m' }

module _ {S M : Type 0} (st : StoreGhosts S) (μ : MeasureGhosts M) where
  -- the change, or a cycle from b to a that adds up to less than zero, and the solver as it was
  abbrev pub Settles : Held S → ℕ → ℕ → Option Amount → Result Counts Contradiction → Held S → Type 0
  Settles s a b o (Ok r) s' = Settled μ (model st s) a b o r (model st s')
  Settles s a b o (Err found) s' =
      (s' ≡ s) × NegativeCycle μ.group (st.meaning s.store).count (bounds_of μ s.total (set_tie (st.meaning s.store).tie a b o)) (up found.rows) a b
