-- What a table that is a shortest-path tree gives: depths that fit, the deepest, and paths. Assumes nothing.
use Rattle.std.proofs.Common.{◌≡◌, ℕ, ◌<◌, List, refl, subst}
use Rattle.measure.specs.declared.Amount.{Amount}
use Rattle.measure.specs.declared.Measure as measure
use Rattle.measure.specs.Group.{Lt}
use Rattle.graph.specs.Graph.{Cycle}
use Rattle.graph.specs.Theorems.{Solved}
use Rattle.graph.proofs.Trees.{certificate, certifiable}
use Rattle.graph.proofs.Walks.{negative_cycle_refutes}
use Rattle.law.specs.Standing.{Standing, bounds}
use Rattle.law.specs.Calls.{TableOf}
use Rattle.law.specs.Law.{DeepestAt, NothingFitsAt}

module _ {M : Type 0} (μ : measure.Ghosts M) where
  pub certified : (s : Standing) (d : ℕ → Amount) (p : ℕ → ℕ) → TableOf μ s d p → Solved μ.group s.count (bounds μ s) (λ k. μ.value (d k)) p
  certified s d p t = certifiable μ.group s.count (bounds μ s) (λ k. μ.value (d k)) p t.some t.shortest

  -- a certificate makes a table
  pub table_of : (s : Standing) (d : ℕ → Amount) (p : ℕ → ℕ) → 0 < s.count → Solved μ.group s.count (bounds μ s) (λ k. μ.value (d k)) p
      → ((k : ℕ) → k < s.count → μ.within 256 (d k)) → TableOf μ s d p
  table_of s d p some v sized = record { some = some; shortest = (certificate μ.group s.count (bounds μ s) (λ k. μ.value (d k)) p v).shortest; sized = sized }

  pub deepest_of : (s : Standing) (d : ℕ → Amount) (p : ℕ → ℕ) → TableOf μ s d p → (k : ℕ) → k < s.count → DeepestAt μ s k (μ.value (d k))
  deepest_of s d p t k h = record {
    depths = λ j. μ.value (d j);
    fit = (certified s d p t).fits;
    there = refl;
    most = (certificate μ.group s.count (bounds μ s) (λ j. μ.value (d j)) p (certified s d p t)).deepest k h;
  }

  pub one_deepest : (s : Standing) (k : ℕ) (x y : μ.group.carrier) → DeepestAt μ s k x → DeepestAt μ s k y → x ≡ y
  one_deepest s k x y p q = μ.group.le_antisym x y (below x y p q) (below y x q p)
    where
      below : (x y : μ.group.carrier) → DeepestAt μ s k x → DeepestAt μ s k y → μ.group.le x y
      below x y p q = subst (λ z. μ.group.le z y) p.there (q.most p.depths p.fit)

  -- where a cycle of the bounds is below zero, nothing fits
  pub nothing_fits : (s : Standing) (ms : List ℕ) (x : μ.group.carrier) → Cycle μ.group s.count (bounds μ s) ms x
      → Lt μ.group x μ.group.neutral → NothingFitsAt μ s
  nothing_fits s ms x cycle below = negative_cycle_refutes μ.group s.count (bounds μ s) ms x cycle below
