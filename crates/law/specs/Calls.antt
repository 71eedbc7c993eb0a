-- What each call answers, and what it leaves behind. Free are only the choice among the parents of shortest paths, where
-- `Keeps` leaves one, and the choice among the cycles that show a contradiction. Assumes nothing.
use Rattle.std.specs.Prelude.{◌≡◌, ℕ, zero, suc, ◌+◌, ◌<◌, min, Bool, cond, not, ◌⊎◌, List, [], ◌∷◌, length, Some, None, Option, ◌==◌}
use Rattle.measure.specs.declared.Amount.{Amount}
use Rattle.measure.specs.declared.Measure as measure
use Rattle.measure.specs.Group.{Lt}
pub use Rattle.graph.specs.Buffer.{over_front}
use Rattle.graph.specs.Graph.{Cycle, PathTo}
use Rattle.graph.specs.Tree.{path_to, ShortestPathTree}
use Rattle.law.specs.declared.call.Answer.{Answer}
use Rattle.law.specs.declared.call.Answer.TheVariants.{Refused, Opened, Changed, Committed, Row, Length}
use Rattle.law.specs.declared.call.Call.{Call}
use Rattle.law.specs.declared.call.Call.TheVariants as call
use Rattle.law.specs.declared.call.Refusal.{Refusal}
use Rattle.law.specs.declared.call.Refusal.TheVariants.{Contradiction}
use Rattle.law.specs.Amounts.{same_value}
use Rattle.law.specs.Standing.{Standing, took, bounds}
use Rattle.law.specs.Refusals.{first_refusal}

-- a solver: what stands, its table of depths and parents, and its count of changes
pub record Model : Type 0 where
  pub standing : Standing
  pub depth : ℕ → Amount
  pub parent : ℕ → ℕ
  pub changes : ℕ

-- the path that the table holds, datum first
abbrev pub path : Model → ℕ → List ℕ
path m k = path_to m.parent m.standing.count k

-- an accepted call opens, or changes the ties, or leaves ties and rows alone
pub data Kind : Type 0 where
  opening : Kind
  change : Kind
  other : Kind

abbrev pub kind : Call → Kind
kind (call.Open room) = opening
kind (call.Tie a b w room) = change
kind (call.Untie a b) = change
kind (call.Trial a b w room) = change
kind (call.Commit number) = other
kind (call.RollBack number) = change
kind (call.Depth m) = other
kind (call.Path m room) = other

-- the change count adds one for each accepted change, and stays at the largest number of 32 bits
abbrev pub changes_after : Kind → ℕ → ℕ
changes_after opening k = k
changes_after change k = min (k + 1) 4294967295
changes_after other k = k

abbrev pub BeginsWith : ℕ → List ℕ → Type 0
BeginsWith b [] = ⊥
BeginsWith b (x ∷ ms) = x ≡ b

abbrev pub EndsWith : ℕ → List ℕ → Type 0
EndsWith a [] = ⊥
EndsWith a (x ∷ []) = x ≡ a
EndsWith a (x ∷ y ∷ ms) = EndsWith a (y ∷ ms)

-- the cycle closes with the tie of the call, from a to b; only these three calls can meet a contradiction
abbrev pub Closes : Call → List ℕ → Type 0
Closes (call.Open room) ms = Unit {0}
Closes (call.Tie a b w room) ms = BeginsWith b ms × EndsWith a ms
Closes (call.Untie a b) ms = ⊥
Closes (call.Trial a b w room) ms = BeginsWith b ms × EndsWith a ms
Closes (call.Commit number) ms = ⊥
Closes (call.RollBack number) ms = ⊥
Closes (call.Depth m) ms = ⊥
Closes (call.Path m room) ms = ⊥

-- what an accepted call leaves in its buffer
abbrev pub buffer_after : Call → Model → List ℕ → List ℕ
buffer_after (call.Open room) m b = b
buffer_after (call.Tie x y w room) m b = b
buffer_after (call.Untie x y) m b = b
buffer_after (call.Trial x y w room) m b = b
buffer_after (call.Commit number) m b = b
buffer_after (call.RollBack number) m b = b
buffer_after (call.Depth k) m b = b
buffer_after (call.Path k room) m b = over_front (path m k) b

-- how many of 0 .. n-1 pass the test
abbrev pub tally : ℕ → (ℕ → Bool) → ℕ
tally zero f = 0
tally (suc n) f = cond (f n) 1 0 + tally n f

module _ {M : Type 0} (μ : measure.Ghosts M) where
  -- how many markers have another depth, and how many another parent
  abbrev pub moved : Model → Model → ℕ
  moved m m' = tally m.standing.count (λ k. not (same_value μ (m.depth k) (m'.depth k)))

  abbrev pub reparented : Model → Model → ℕ
  reparented m m' = tally m.standing.count (λ k. not (m.parent k == m'.parent k))

  -- the answer of an accepted call, by the models before and after
  abbrev pub answer_of : Call → Model → Model → Answer
  answer_of (call.Open room) m m' = Opened m.standing.count
  answer_of (call.Tie a b w room) m m' = Changed (moved m m') (reparented m m')
  answer_of (call.Untie a b) m m' = Changed (moved m m') (reparented m m')
  answer_of (call.Trial a b w room) m m' = Changed (moved m m') (reparented m m')
  answer_of (call.Commit number) m m' = Committed
  answer_of (call.RollBack number) m m' = Changed (moved m m') (reparented m m')
  answer_of (call.Depth k) m m' = Row (m.depth k) (m.parent k)
  answer_of (call.Path k room) m m' = Length (length (path m k))

  -- the rows are a shortest-path tree of the bounds: each depth is the distance from the datum, and the path that the
  -- parents make adds up to it
  pub record TableOf (s : Standing) (depth : ℕ → Amount) (parent : ℕ → ℕ) : Type 0 where
    pub some : 0 < s.count
    pub shortest : ShortestPathTree μ.group s.count (bounds μ s) (λ k. μ.value (depth k)) parent
    -- so that amounts with one value are one amount
    pub sized : (k : ℕ) → k < s.count → μ.within 256 (depth k)

  -- the list is a path from the datum to k, and adds up to x
  abbrev pub PathAt : Standing → List ℕ → ℕ → μ.group.carrier → Type 0
  PathAt s = PathTo μ.group s.count (bounds μ s)

  -- a path that still stands and still adds up to the depth is kept
  abbrev pub Keeps : Model → Model → Type 0
  Keeps m m' =
      (k : ℕ) → k < m'.standing.count
      → PathAt m'.standing (path m k) k (μ.value (m'.depth k)) → path m' k ≡ path m k

  abbrev pub Table : Kind → Model → Model → Type 0
  Table opening m m' = TableOf m'.standing m'.depth m'.parent
  Table change m m' = TableOf m'.standing m'.depth m'.parent × Keeps m m'
  Table other m m' = (m'.depth ≡ m.depth) × (m'.parent ≡ m.parent)

  pub record Accepted (m : Model) (c : Call) (before : List ℕ) (answer : Answer) (after : List ℕ) (m' : Model) : Type 0 where
    pub standing : m'.standing ≡ took c m.standing
    pub table : Table (kind c) m m'
    pub changes : m'.changes ≡ changes_after (kind c) m.changes
    pub answered : answer ≡ answer_of c m m'
    pub buffer : after ≡ buffer_after c m before

  -- a cycle of the bounds that would then stand adds up to less than zero, and stands at the front of the buffer
  pub record Contradicted (m : Model) (c : Call) (before : List ℕ) (answer : Answer) (after : List ℕ) (m' : Model) : Type 0 where
    pub markers : List ℕ
    pub sum : μ.group.carrier
    pub cycle : Cycle μ.group (took c m.standing).count (bounds μ (took c m.standing)) markers sum
    pub below : Lt μ.group sum μ.group.neutral
    pub closes : Closes c markers
    pub answered : answer ≡ Refused (Contradiction (length markers))
    pub buffer : after ≡ over_front markers before
    pub same : m' ≡ m

  abbrev pub Outcome : Option Refusal → Model → Call → List ℕ → Answer → List ℕ → Model → Type 0
  Outcome (Some r) m c before answer after m' = (answer ≡ Refused r) × (after ≡ before) × (m' ≡ m)
  Outcome None m c before answer after m' = Contradicted m c before answer after m' ⊎ Accepted m c before answer after m'

  -- what a call answers and leaves: its first refusal and nothing changed, or a contradiction, or what was asked
  pub record Answered (m : Model) (c : Call) (before : List ℕ) (answer : Answer) (after : List ℕ) (m' : Model) : Type 0 where
    pub outcome : Outcome (first_refusal μ m.standing c) m c before answer after m'
