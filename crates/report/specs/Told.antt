-- The answer of a solver that is opened over a store, as text. Assumes nothing.
use Rattle.std.specs.Prelude.{◌≡◌, ℕ, Bool, true, false, List, ◌++◌, IfOk, Some, None, Option, Result}
use Rattle.measure.specs.declared.Amount.{Amount}
use Rattle.measure.specs.declared.Measure as measure
use Rattle.measure.specs.Group.{Lt}
use Rattle.store.specs.Meaning.{StoreMeaning}
use Rattle.graph.specs.Graph.{Cycle}
use Rattle.depth_text.specs.Lines.{contradiction_line, refused_line, rows_text}
use Rattle.law.specs.Calls.{TableOf}
use Rattle.law.specs.Refusals.{code_of, first_refusal}
use Rattle.law.specs.Standing.{bounds_of}
use Rattle.law.specs.declared.call.Call.TheVariants as call
use Rattle.law.specs.declared.call.Refusal.{Refusal}
use Rattle.law.specs.declared.call.State.TheVariants as state
use Rattle.solver.specs.Model.{standing_of}

module _ {M : Type 0} (μ : measure.Ghosts M) (total : Amount) (m : StoreMeaning) (name : ℕ → List ℕ) where
  -- what an opening with a buffer of 64 is refused for before anything is solved
  abbrev pub refusal : Option Refusal
  refusal = first_refusal μ (standing_of m total 0 state.New) (call.Open 64)

  -- the bytes, and whether they give depths: the refusal; or a cycle of the bounds that adds up to less than zero; or the rows
  -- of a shortest-path tree of the bounds
  pub data Told (bytes : List ℕ) : Bool → Type 0 where
    refused : (why : Refusal) → refusal ≡ Some why → bytes ≡ refused_line (code_of why) 0 → Told bytes false
    contradicts : (cycle : List ℕ) (sum : μ.group.carrier) → refusal ≡ None → Cycle μ.group m.count (bounds_of μ total m.tie) cycle sum
        → Lt μ.group sum μ.group.neutral → bytes ≡ contradiction_line name cycle → Told bytes false
    solves : (depth : ℕ → Amount) (parent : ℕ → ℕ) → refusal ≡ None → TableOf μ (standing_of m total 0 state.Open) depth parent
        → bytes ≡ rows_text name depth parent m.count → Told bytes true

  -- a call that answers r adds such bytes, unless memory ran out
  abbrev pub AddsTold : {E : Type 0} → List ℕ → List ℕ → Result Bool E → Type 0
  AddsTold before after r = IfOk r (λ solved. (bytes : List ℕ) × (after ≡ before ++ bytes) × Told bytes solved)
