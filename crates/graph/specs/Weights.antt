-- A graph's amounts as weights, and the graphs that can be solved. Assumes nothing.
use Rattle.std.specs.Prelude.{◌≡◌, ℕ, ◌<◌, ◌≤◌, Some, None, Option}
use Rattle.std.proofs.Math.Option as plain
use Rattle.measure.specs.declared.Amount.{Amount}
use Rattle.measure.specs.declared.Measure as measure
use Rattle.graph.specs.Graph.{Weight}
use Rattle.graph.specs.declared.Graph as graph

-- the element that an amount denotes, where there is one
abbrev pub valued : {C : Type 0} → (Amount → C) → Option Amount → plain.Option C
valued f None = plain.none
valued f (Some a) = plain.some (f a)

module _ {G M : Type 0} (s : graph.Ghosts G) (μ : measure.Ghosts M) where
  abbrev pub weights : G → Weight μ.group
  weights x a b = valued μ.value (s.weight x a b)

  -- a graph that can be solved: at most 64 markers, weights within 1, each marker joined to the datum and none to itself
  pub record Usable (x : G) : Type 0 where
    pub sound : s.sound x
    pub some : 0 < s.count x
    pub few : s.count x ≤ 64
    pub small : (a b : ℕ) (w : Amount) → s.weight x a b ≡ Some w → μ.within 1 w
    -- every marker is joined to the datum
    pub reach : (b : ℕ) → 0 < b → b < s.count x → (w : Amount) × (s.weight x 0 b ≡ Some w)
    pub no_loop : (a : ℕ) → s.weight x a a ≡ None
