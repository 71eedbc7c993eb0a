-- What a change of one weight does to all of them, and when it contradicts nothing. Assumes nothing.
use Rattle.std.proofs.Common.{◌≡◌, ℕ, ◌<◌, List, ◌∷◌, Some, None, Ok, Err, Option, Result, sym, refl, ap, ◌∙◌, subst, arith}
use native.Mathlib.Decide.{ℕ_discrete}
use Rattle.measure.specs.declared.Amount.{Amount}
use Rattle.measure.specs.declared.Measure as measure
use Rattle.graph.specs.declared.Graph as graph
use Rattle.graph.specs.Change.{Raised}
use Rattle.graph.specs.Graph.{Edge, Weight}
use Rattle.graph.specs.Theorems.{Solved}
use Rattle.graph.specs.Tree.{way}
use Rattle.graph.specs.Weights.{valued, weights}
use Rattle.graph.proofs.Raises.{raised_fits}
use Rattle.graph.proofs.Valued.{amount_of}
use Rattle.graph.proofs.Walks.{negative_cycle_refutes}
use Rattle.table.specs.declared.row.Row.{Row}
use Rattle.table.specs.Climb.{up as parents_of}
use Rattle.table.specs.declared.table.DepthTable.{DepthTable}
use Rattle.update.specs.declared.work.Contradiction.{Contradiction}
use Rattle.update.specs.Lowers.{Lowers}
use Rattle.update.specs.Reading.{depth}
use Rattle.update.proofs.Picks.{turned}
use Rattle.raise.specs.Sparing.{Risen}
use Rattle.raise.proofs.Ends.{unaffected}
use Rattle.change.specs.Changing.{ChangedAt, NoContradiction, NoLess, NoMore, weights_of}

-- weights that only rise contradict nothing
pub never_contradicts : {M : Type 0} (μ : measure.Ghosts M) (n : ℕ) (w w' : Weight μ.group) (d : ℕ → μ.group.carrier) (p : ℕ → ℕ) (a b : ℕ) (rows : List Row) (r : Result (Option DepthTable) Contradiction)
    → Lowers μ n w' a b rows r → Solved μ.group n w d p → Raised μ.group n w w' → NoContradiction r
never_contradicts μ n w w' d p a b rows (Ok None) now old up = tt
never_contradicts μ n w w' d p a b rows (Ok (Some t)) now old up = tt
never_contradicts μ n w w' d p a b rows (Err v) now old up =
    negative_cycle_refutes μ.group n w' (b ∷ way (parents_of v.rows) now.up a) now.sum now.cycle now.negative d (raised_fits μ.group n w w' d up old.fits)

module _ {M : Type 0} (μ : measure.Ghosts M) where
  -- nothing is left
  pub gone_no_less : (new before : Option Amount) → new ≡ None → NoLess μ new before
  gone_no_less new before e w h = let k : None ≡ Some w = sym e ∙ h in let z : ◌≡◌ {A = ℕ} 0 1 = cc in absurd (omega arith)

  -- what is left is more than what was
  pub more_no_less : (new before : Option Amount) (w : Amount) → new ≡ Some w → ¬ NoMore μ w before → NoLess μ new before
  more_no_less new None w e more u h = absurd (more tt)
  more_no_less new (Some v) w e more u h = (v, refl, let k : Some w ≡ Some u = sym e ∙ h in let i : w ≡ u = cc in subst (λ z. μ.group.le (μ.value v) (μ.value z)) i (turned μ.group _ _ more))

module _ {G M : Type 0} (s : graph.Ghosts G) (μ : measure.Ghosts M) (x : G) (n : ℕ) (rows : List Row) (a b : ℕ) (before : Option Amount)
    (c : ChangedAt s μ x n rows a b before) where
  same_weight : (u v : ℕ) → ¬ ((u ≡ a) × (v ≡ b)) → weights s μ x u v ≡ weights_of μ c.was u v
  same_weight u v apart = ap (valued μ.value) (c.other u v apart)

  module _ (rises : NoLess μ (s.weight x a b) before) where
    pub raised : Raised μ.group n (weights_of μ c.was) (weights s μ x)
    raised u v k edge = by (ℕ_discrete u a) (ℕ_discrete v b)
      where
        kept : ¬ ((u ≡ a) × (v ≡ b)) → (k' : μ.group.carrier) × Edge μ.group n (weights_of μ c.was) u v k' × μ.group.le k' k
        kept apart = (k, (edge.0, edge.1, sym (same_weight u v apart) ∙ edge.2), μ.group.le_refl k)

        here : u ≡ a → v ≡ b → (k' : μ.group.carrier) × Edge μ.group n (weights_of μ c.was) u v k' × μ.group.le k' k
        here p q =
            let new = amount_of μ.value (s.weight x a b) k (ap (λ z. weights s μ x z b) (sym p) ∙ ap (weights s μ x u) (sym q) ∙ edge.2) in
            let old = rises new.0 new.1 in (
              μ.value old.0,
              (edge.0, edge.1, ap (λ z. weights_of μ c.was z v) p ∙ ap (weights_of μ c.was a) q ∙ ap (valued μ.value) (c.at ∙ old.1)),
              subst (μ.group.le (μ.value old.0)) new.2 old.2,
            )

        by : Dec (u ≡ a) → Dec (v ≡ b) → (k' : μ.group.carrier) × Edge μ.group n (weights_of μ c.was) u v k' × μ.group.le k' k
        by (yes p) (yes q) = here p q
        by (yes p) (no q) = kept (λ o. q o.1)
        by (no p) e = kept (λ o. p o.0)

    pub risen : Risen μ.group n (weights s μ x) b (depth μ rows) (parents_of rows)
    risen = record { was = weights_of μ c.was; solved = c.solved; raised = raised; other = λ u v apart. same_weight u v (λ o. apart o.1) }

    -- no parent edge has risen
    pub still_solved : (0 < b → ¬ (parents_of rows b ≡ a)) → Solved μ.group n (weights s μ x) (depth μ rows) (parents_of rows)
    still_solved apart = unaffected μ.group n (weights_of μ c.was) (weights s μ x) a b (depth μ rows) (parents_of rows) c.solved raised same_weight apart

    pub no_contradiction : (r : Result (Option DepthTable) Contradiction) → Lowers μ n (weights s μ x) a b rows r → NoContradiction r
    no_contradiction r now = never_contradicts μ n (weights_of μ c.was) (weights s μ x) (depth μ rows) (parents_of rows) a b rows r now c.solved raised
