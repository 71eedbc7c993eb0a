-- The depths of a shortest-path tree are no larger than the number of its edges. Assumes nothing.
use Rattle.std.proofs.Common.{◌≡◌, ℕ, zero, suc, ◌+◌, ◌-◌, ◌<◌, ◌≤◌, List, Some, sym, ap, ◌∙◌, subst, arith}
use native.Mathlib.Decide.{ℕ_discrete}
use Rattle.measure.specs.declared.Amount.{Amount}
use Rattle.measure.specs.declared.Measure as measure
use Rattle.measure.proofs.Within.{wider_to}
use Rattle.graph.specs.Tree.{climb}
use Rattle.graph.specs.declared.Graph as graph
use Rattle.graph.specs.Theorems.{Solved}
use Rattle.graph.specs.Weights.{weights}
use Rattle.graph.proofs.Valued.{amount_of}
use Rattle.table.specs.declared.row.Row.{Row}
use Rattle.table.specs.Climb.{deep}
use Rattle.update.specs.Reading.{Deep, depth}
use Rattle.update.specs.Restoring.{TightEdge}

module _ {X Y : Type 0} (s : graph.Ghosts X) (m : measure.Ghosts Y) (x : X) (n : ℕ) (rows : List Row) (q : ℕ → ℕ)
    (small : (a b : ℕ) (w : Amount) → s.weight x a b ≡ Some w → m.within 1 w)
    (solved : Solved m.group n (weights s m x) (depth m rows) q) (sizes : Deep m n 256 rows) where
  at_datum : (k z : ℕ) → z < n → k ≤ 256 → z ≡ 0 → m.within k (deep rows z)
  at_datum k z h l e =
      subst (m.within k)
      (m.laws.faithful m.zero (deep rows z) (wider_to m.laws.wider 0 256 _ (omega arith) m.laws.zero_within) (sizes z h) (m.laws.zero_neutral ∙ sym (ap (depth m rows) e ∙ solved.fits.datum)))
      (wider_to m.laws.wider 0 k _ (omega arith) m.laws.zero_within)

  pub steps_size : (k z : ℕ) → z < n → k ≤ 255 → climb q k z ≡ 0 → m.within k (deep rows z)
  steps_size zero z h l e = at_datum 0 z h (omega arith) e
  steps_size (suc k) z h l e = by (λ (o : k ≤ 255). steps_size k (q z) (solved.tree.inside z h) o e) (ℕ_discrete z 0)
    where
      positive : ¬ (z ≡ 0) → 0 < z
      positive ne = omega (arith, λ (o : z ≡ 0). ne o)

      one : k + 1 ≡ suc k
      one = omega arith

      added : m.within k (deep rows (q z)) → TightEdge m.group n (weights s m x) (depth m rows) (q z) z → m.within (suc k) (deep rows z)
      added ih (v, edge, t) =
          let a = amount_of m.value (s.weight x (q z) z) v edge.2 in
          let r = m.laws.sums k 1 (deep rows (q z)) a.0 (omega arith) ih (small (q z) z a.0 a.1) in
          subst (λ i. m.within i (deep rows z)) one
          (subst (m.within (k + 1))
          (m.laws.faithful r.0 (deep rows z) (wider_to m.laws.wider (k + 1) 256 _ (omega arith) r.1) (sizes z h) (r.2 ∙ ap (m.group.plus (depth m rows (q z))) a.2 ∙ sym t))
          r.1)

      by : (k ≤ 255 → m.within k (deep rows (q z))) → Dec (z ≡ 0) → m.within (suc k) (deep rows z)
      by ih (yes o) = at_datum (suc k) z h (omega arith) o
      by ih (no ne) = added (ih (omega arith)) (solved.tight z (positive ne) h)

  -- so within 63, where n is at most 64
  pub shrunk : n ≤ 64 → Deep m n 63 rows
  shrunk few z h = wider_to m.laws.wider (n - 1) 63 _ (omega arith) (steps_size (n - 1) z h (omega arith) (solved.tree.climbs z h))
