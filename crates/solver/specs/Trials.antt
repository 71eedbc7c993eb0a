-- What a solver keeps of a trial that is out. Assumes nothing.
use Rattle.std.specs.Prelude.{◌≡◌, ℕ, true, None, Some, Option}
use Rattle.measure.specs.declared.Amount.{Amount}
use Rattle.measure.specs.declared.Measure.{Ghosts as MeasureGhosts}
use Rattle.store.specs.declared.TieStore.{Ghosts as StoreGhosts}
use Rattle.store.specs.Meaning.{set_tie, StoreMeaning}
use Rattle.graph.specs.Graph.{Fits}
use Rattle.law.specs.Standing.{bounds_of}
use Rattle.law.specs.declared.call.State.{State}
use Rattle.law.specs.declared.call.State.TheVariants as state
use Rattle.solver.specs.Held.{Held}
use Rattle.solver.specs.Changing.{untie_refusal}
use Rattle.solver.specs.Suits.{Suits}

module _ {M : Type 0} (μ : MeasureGhosts M) where
  -- a trial of the pair a, b, which had `before`: the pair can be written, what it had is admitted, and some depths fit once it
  -- has that again
  pub record TrialSuits (total : Amount) (m : StoreMeaning) (a b : ℕ) (before : Option Amount) : Type 0 where
    pub stands : untie_refusal m a b ≡ None
    pub admitted : (w : Amount) → before ≡ Some w → μ.admits w ≡ true
    pub depths : ℕ → μ.group.carrier
    pub fit : Fits μ.group m.count (bounds_of μ total (set_tie m.tie a b before)) depths

  abbrev pub StateSuits : Amount → StoreMeaning → State → Type 0
  StateSuits total m state.New = Unit {0}
  StateSuits total m state.Open = Unit {0}
  StateSuits total m (state.OnTrial a b before) = TrialSuits total m a b before

module _ {S M : Type 0} (st : StoreGhosts S) (μ : MeasureGhosts M) where
  -- if a trial is out, it can be rolled back
  abbrev pub CanRollBack : Held S → Type 0
  CanRollBack s = StateSuits μ s.total (st.meaning s.store) s.state

  -- what is so of every solver
  pub record Upheld (s : Held S) : Type 0 where
    pub suits : Suits st μ s
    pub trial : CanRollBack s
