-- The turns of the loop that settles the markers that have fallen. Assumes nothing.
use Rattle.std.proofs.Common.{◌≡◌, ℕ, ◌<◌, true, List, Bool, sym, refl, ◌∙◌, true≢false}
use Rattle.measure.specs.declared.Measure as measure
use Rattle.graph.specs.declared.Graph as graph
use Rattle.graph.specs.Graph.{Weight}
use Rattle.graph.specs.Theorems.{Solved}
use Rattle.graph.specs.Weights.{weights}
use Rattle.graph.proofs.Relabel.{Picked}
use Rattle.graph.specs.Settling.{Settles}
use Rattle.table.specs.Climb.{up as parents_of}
use Rattle.update.specs.declared.work.Work.{Work}
use Rattle.update.specs.Tabled.{Tabled}
use Rattle.update.specs.Reading.{depth, flag}
use Rattle.update.specs.Relaxing.{Relaxing, Clashing}
use Rattle.update.specs.Lowering.{Falls, Growing, NegativeCycle}
use Rattle.update.proofs.Lowers.{grow_step, grow_end, grow_clash, rest_stands}

module _ {G M : Type 0} (s : graph.Ghosts G) (m : measure.Ghosts M) (u : Tabled G) (U : List Bool) where
  abbrev n : ℕ
  n = u.table.n

  abbrev d : ℕ → m.group.carrier
  d = depth m u.table.rows

  abbrev p : ℕ → ℕ
  p = parents_of u.table.rows

  abbrev w' : Weight m.group
  w' = weights s m u.graph

  -- what follows of each edge that has fallen, with labels and parents that grow from it
  abbrev pub Told : Work → (ℕ → ℕ → Type 0) → Type 0
  Told start O =
      (w : Weight m.group) (a b : ℕ) (c : m.group.carrier) → Falls m.group u.table.n w (weights s m u.graph) a b c (depth m u.table.rows) (parents_of u.table.rows) (flag U)
      → Growing m.group u.table.n w (weights s m u.graph) a b c (depth m u.table.rows) (parents_of u.table.rows) (flag U) (flag start.done) (depth m start.rows) (parents_of start.rows)
      → O a b

  -- what has grown from the start is growing
  abbrev pub Grows : Work → Work → Type 0
  Grows start now =
      (w : Weight m.group) (a b : ℕ) (c : m.group.carrier) → Falls m.group u.table.n w (weights s m u.graph) a b c (depth m u.table.rows) (parents_of u.table.rows) (flag U)
      → Growing m.group u.table.n w (weights s m u.graph) a b c (depth m u.table.rows) (parents_of u.table.rows) (flag U) (flag start.done) (depth m start.rows) (parents_of start.rows)
      → Growing m.group u.table.n w (weights s m u.graph) a b c (depth m u.table.rows) (parents_of u.table.rows) (flag U) (flag now.done) (depth m now.rows) (parents_of now.rows)

  module _ (start now : Work) (grows : Grows start now) where
    -- the end
    pub solved_all : ((z : ℕ) → z < u.table.n → flag now.done z ≡ true) → Told start (λ a b. Solved m.group u.table.n (weights s m u.graph) (depth m now.rows) (parents_of now.rows))
    solved_all all w a b c falls grow =
        grow_end m.group n w w' a b c d p (flag U) falls (flag now.done) (depth m now.rows) (parents_of now.rows) (grows w a b c falls grow)
        (λ z h free. absurd (true≢false (sym (all z h) ∙ free)))

    module _ (y : ℕ) (pick : Picked m.group u.table.n (depth m u.table.rows) (flag now.done) (depth m now.rows) y) where
      pub solved_rest : m.group.le (depth m u.table.rows y) (depth m now.rows y) → Told start (λ a b. Solved m.group u.table.n (weights s m u.graph) (depth m now.rows) (parents_of now.rows))
      solved_rest stands w a b c falls grow =
          grow_end m.group n w w' a b c d p (flag U) falls (flag now.done) (depth m now.rows) (parents_of now.rows) (grows w a b c falls grow)
          (λ z h free. rest_stands m.group (depth m now.rows y) (d y) (depth m now.rows z) (d z) (pick.first z h free) stands)

      module _ (next : Work) (fell : ¬ m.group.le (depth m u.table.rows y) (depth m now.rows y)) (sets : Settles (flag now.done) y (flag next.done)) where
        pub grows_next : Relaxing m.group u.table.n (weights s m u.graph) (flag next.done) (flag U) (depth m now.rows) (parents_of now.rows) y u.table.n (depth m next.rows) (parents_of next.rows) → Grows start next
        grows_next rel w a b c falls grow =
            grow_step m.group n w w' a b c d p (flag U) falls (flag now.done) (flag next.done) (depth m now.rows) (depth m next.rows)
            (parents_of now.rows) (parents_of next.rows) y n (grows w a b c falls grow) pick fell sets rel refl

        -- z would fall by its edge from y, and hangs on y now
        pub cycles : (z : ℕ) → Relaxing m.group u.table.n (weights s m u.graph) (flag next.done) (flag U) (depth m now.rows) (parents_of now.rows) y z (depth m next.rows) (parents_of next.rows)
            → Clashing m.group u.table.n (weights s m u.graph) (flag next.done) (flag U) (depth m now.rows) (parents_of now.rows) y z
            → (q : ℕ → ℕ) → q z ≡ y → ((v : ℕ) → ¬ (v ≡ z) → q v ≡ parents_of next.rows v) → Told start (NegativeCycle m.group u.table.n (weights s m u.graph) q)
        cycles z rel clash q here other w a b c falls grow =
            grow_clash m.group n w w' a b c d p (flag U) falls (flag now.done) (flag next.done) (depth m now.rows) (depth m next.rows)
            (parents_of now.rows) (parents_of next.rows) y z (grows w a b c falls grow) pick fell sets rel z clash q here other
