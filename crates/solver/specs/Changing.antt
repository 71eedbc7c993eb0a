-- What a pair that is tied is checked for, and what a change leads to. Assumes nothing.
use Rattle.std.specs.Prelude.{◌≡◌, ℕ, ◌<◌, not, ◌&&◌, ◌||◌, List, [], ◌∷◌, is_some, Some, None, Ok, Err, Option, Result, ◌==◌, nat_lt}
use Rattle.measure.specs.declared.Amount.{Amount}
use Rattle.measure.specs.declared.Measure.{Ghosts as MeasureGhosts}
use Rattle.store.specs.Meaning.{StoreMeaning}
use Rattle.graph.specs.Graph.{PathTo}
use Rattle.graph.specs.Tree.{path_to}
use Rattle.table.specs.Climb.{deep, up}
use Rattle.table.specs.declared.table.DepthTable.{DepthTable}
use Rattle.update.specs.Lowering.{NegativeCycle}
use Rattle.update.specs.declared.work.Contradiction.{Contradiction}
use Rattle.law.specs.Amounts.{same_value}
use Rattle.law.specs.Calls.{tally}
use Rattle.law.specs.Refusals.{first, when}
use Rattle.law.specs.Standing.{bounds_of, Ties}
use Rattle.law.specs.declared.call.Counts.{Counts}
use Rattle.law.specs.declared.call.Refusal.{Refusal}
use Rattle.law.specs.declared.call.Refusal.TheVariants.{UnknownMarker, SameMarker, ClosedMarker, PairEmpty}
use Rattle.solver.specs.Suits.{TableSuits}

-- the checks of a pair, and then others
abbrev pub pair_refusal : StoreMeaning → ℕ → ℕ → List (Option Refusal) → Option Refusal
pair_refusal m a b rest =
    first
    (when (not (nat_lt a m.count && nat_lt b m.count)) UnknownMarker
    ∷ when (a == b) SameMarker
    ∷ when (m.closed a || m.closed b) ClosedMarker
    ∷ rest)

-- the refusal of an untying, once the solver is known to be open
abbrev pub untie_refusal : StoreMeaning → ℕ → ℕ → Option Refusal
untie_refusal m a b = pair_refusal m a b (when (not (is_some (m.tie a b))) PairEmpty ∷ [])

module _ {M : Type 0} (μ : MeasureGhosts M) where
  -- how many markers have another depth, and how many another parent
  abbrev pub counts : DepthTable → DepthTable → Counts
  counts t t' = record {
    moved = tally t.n (λ k. not (same_value μ (deep t.rows k) (deep t'.rows k)));
    reparented = tally t.n (λ k. not (up t.rows k == up t'.rows k));
  }

  -- a table of as many markers, whose depths can be compared
  abbrev pub SameSize : DepthTable → Option DepthTable → Type 0
  SameSize t None = Unit {0}
  SameSize t (Some t') =
      (t'.n ≡ t.n) × ((z : ℕ) → z < t.n → μ.within 63 (deep t.rows z)) × ((z : ℕ) → z < t.n → μ.within 63 (deep t'.rows z))

  -- the table that is held once the next one, if there is one, is taken over, and the counts of what then differs
  abbrev pub Adopted : DepthTable → Option DepthTable → Counts → DepthTable → Type 0
  Adopted t None r t' = (t' ≡ t) × (r ≡ record { moved = 0; reparented = 0 })
  Adopted t (Some next) r t' = (t' ≡ next) × (r ≡ counts t next)

  -- the paths of the old table that still stand and add up are kept
  abbrev pub KeptPaths : Amount → Ties → DepthTable → DepthTable → Type 0
  KeptPaths total t old new =
      (m : ℕ) → m < old.n
      → PathTo μ.group old.n (bounds_of μ total t) (path_to (up old.rows) old.n m) m (μ.value (deep new.rows m))
      → path_to (up new.rows) old.n m ≡ path_to (up old.rows) old.n m

  -- what the ties t lead to from the table `old`: it still stands, or another does, or a cycle from b to a adds up to less than zero
  abbrev pub LeadsTo : Amount → ℕ → Ties → ℕ → ℕ → DepthTable → Result (Option DepthTable) Contradiction → Type 0
  LeadsTo total n t a b old (Ok None) = TableSuits μ total n t old
  LeadsTo total n t a b old (Ok (Some new)) = TableSuits μ total n t new × KeptPaths total t old new
  LeadsTo total n t a b old (Err found) = NegativeCycle μ.group n (bounds_of μ total t) (up found.rows) a b
