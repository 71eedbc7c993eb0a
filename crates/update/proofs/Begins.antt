-- The rows as an edge falls, before any marker is settled. Assumes nothing.
use Rattle.std.proofs.Common.{◌≡◌, ℕ, ◌+◌, ◌<◌, Bool, false, List, length, set, sym, ap, ◌∙◌, subst, arith}
use native.Mathlib.Decide.{ℕ_discrete}
use Rattle.measure.specs.declared.Amount.{Amount}
use Rattle.measure.specs.declared.Measure as measure
use Rattle.measure.proofs.Within.{wider_to}
use Rattle.graph.specs.Graph.{Weight}
use Rattle.table.specs.declared.row.Row.{Row}
use Rattle.table.specs.Climb.{deep, up as parents_of}
use Rattle.update.specs.Reading.{Deep, depth, flag}
use Rattle.update.specs.Lowering.{Ancestors, Falls, Growing, SolvedBefore}
use Rattle.update.specs.Lowers.{Deeper}
use Rattle.update.proofs.Rows.{deep_same, deep_other, up_same, up_other}
use Rattle.update.proofs.Lowers.{grow_start}

module _ {Y : Type 0} (m : measure.Ghosts Y) (n : ℕ) (w' : Weight m.group) (rows : List Row) (a b : ℕ) (w sum : Amount)
    (ha : a < n) (hb : b < n) (long : b < length rows)
    (small : m.within 64 sum) (is : m.value sum ≡ m.group.plus (depth m rows a) (m.value w)) where
  abbrev new : Row
  new = record { depth = sum; parent = a }

  pub begin_sizes : Deep m n 63 rows → (k : ℕ) → Deep m n (64 + k) (set rows b (record { depth = sum; parent = a }))
  begin_sizes depths k z h = by (ℕ_discrete z b)
    where
      by : Dec (z ≡ b) → m.within (64 + k) (deep (set rows b new) z)
      by (yes o) = subst (m.within (64 + k)) (sym (ap (deep (set rows b new)) o ∙ deep_same rows b new long)) (wider_to m.laws.wider 64 (64 + k) sum (omega arith) small)
      by (no ne) = subst (m.within (64 + k)) (sym (deep_other rows b z new ne)) (wider_to m.laws.wider 63 (64 + k) (deep rows z) (omega arith) (depths z h))

  module _ (X U : List Bool) (none : (z : ℕ) → flag X z ≡ false)
      (standing : SolvedBefore m.group n w' a b (m.value w) (depth m rows) (parents_of rows)) (above : Ancestors (parents_of rows) a (flag U)) (apart : flag U b ≡ false)
      (falls : Deeper m rows a b w) where
    pub begin_falls : Falls m.group n standing.was w' a b (m.value w) (depth m rows) (parents_of rows) (flag U)
    begin_falls = record {
      low = standing.low;
      a_inside = ha;
      b_inside = hb;
      fits = standing.solved.fits;
      tree = standing.solved.tree;
      tight = standing.solved.tight;
      above = above;
      apart = apart;
      falls = falls;
    }

    pub begin_growing : Growing m.group n standing.was w' a b (m.value w) (depth m rows) (parents_of rows) (flag U) (flag X) (depth m (set rows b (record { depth = sum; parent = a }))) (parents_of (set rows b (record { depth = sum; parent = a })))
    begin_growing =
        grow_start m.group n standing.was w' a b (m.value w) (depth m rows) (parents_of rows) (flag U) begin_falls (flag X) (depth m (set rows b new)) (parents_of (set rows b new))
        (λ z h. none z)
        (λ z h ne. (ap m.value (deep_other rows b z new ne), up_other rows b z new ne))
        (ap m.value (deep_same rows b new long) ∙ is) (up_same rows b new long)

    -- what comes of such a start
    pub begun : (O : ℕ → ℕ → Type 0)
        → ((v : Weight m.group) (x y : ℕ) (c : m.group.carrier) → Falls m.group n v w' x y c (depth m rows) (parents_of rows) (flag U)
        → Growing m.group n v w' x y c (depth m rows) (parents_of rows) (flag U) (flag X) (depth m (set rows b (record { depth = sum; parent = a }))) (parents_of (set rows b (record { depth = sum; parent = a }))) → O x y)
        → O a b
    begun O told = told standing.was a b (m.value w) begin_falls begin_growing
