-- One small well, call by call: plain depth, four markers, an empty store of eight places, and a total depth of 3,000,000.
-- Assumes nothing.
use Rattle.std.specs.Prelude.{◌≡◌, ℕ, false, List, [], ◌∷◌, ℤ, pos, neg_ℤ, None}
use Rattle.measure.specs.declared.Amount.{Amount}
use Rattle.measure.specs.declared.Measure as measure
use Rattle.measure.specs.declared.plain.PlainDepth.{PlainDepth}
use Rattle.measure.specs.contracts.plain.PlainDepthMeasure.TheImpl.{ghosts}
use Rattle.law.specs.declared.call.Answer.{Answer}
use Rattle.law.specs.declared.call.Answer.TheVariants.{Refused, Opened, Changed}
use Rattle.law.specs.declared.call.Call.{Call}
use Rattle.law.specs.declared.call.Call.TheVariants.{Open, Tie, Untie, Trial, RollBack}
use Rattle.law.specs.declared.call.State.TheVariants as state
use Rattle.law.specs.declared.call.Refusal.TheVariants.{Contradiction}
use Rattle.law.specs.Calls.{Model, Answered, over_front}

abbrev pub plain : measure.Ghosts PlainDepth
plain = ghosts

abbrev pub mm : ℤ → Amount
mm z = record { mm = z; marks = pos 0 }

-- a call, its answer, the cycle that it writes, and the rows of markers 1 and 2 after it
pub record Case : Type 0 where
  pub call : Call
  pub answer : Answer
  pub cycle : List ℕ
  pub depth1 : ℤ
  pub parent1 : ℕ
  pub depth2 : ℤ
  pub parent2 : ℕ

abbrev row : Call → Answer → List ℕ → ℤ → ℕ → ℤ → ℕ → Case
row c a ms d p e q = record { call = c; answer = a; cycle = ms; depth1 = d; parent1 = p; depth2 = e; parent2 = q }

abbrev pub cases : List Case
cases =
    row (Open 4) (Opened 4) [] (pos 3000000) 0 (pos 3000000) 0
    ∷ row (Tie 0 1 (mm (pos 2000000)) 4) (Changed 1 0) [] (pos 2000000) 0 (pos 3000000) 0
    ∷ row (Tie 1 2 (mm (pos 12000)) 4) (Changed 1 1) [] (pos 2000000) 0 (pos 2012000) 1
    ∷ row (Tie 2 1 (mm (neg_ℤ (pos 10000))) 4) (Changed 0 0) [] (pos 2000000) 0 (pos 2012000) 1
    ∷ row (Tie 1 2 (mm (pos 9999)) 4) (Refused (Contradiction 2)) (2 ∷ 1 ∷ []) (pos 2000000) 0 (pos 2012000) 1
    ∷ row (Tie 1 2 (mm (pos 10000)) 4) (Changed 1 0) [] (pos 2000000) 0 (pos 2010000) 1
    ∷ row (Trial 0 2 (mm (pos 2005000)) 4) (Changed 2 2) [] (pos 1995000) 2 (pos 2005000) 0
    ∷ row (RollBack 7) (Changed 2 2) [] (pos 2000000) 0 (pos 2010000) 1
    ∷ row (Untie 0 1) (Changed 2 2) [] (pos 2990000) 2 (pos 3000000) 0
    ∷ row (Tie 3 0 (mm (neg_ℤ (pos 3000001))) 4) (Refused (Contradiction 2)) (0 ∷ 3 ∷ []) (pos 2990000) 2 (pos 3000000) 0
    ∷ []

-- the well before any call; the solver's number is 7, and its table may have anything
abbrev pub start : (ℕ → Amount) → (ℕ → ℕ) → Model
start depth parent = record {
  standing = record { count = 4; closed = λ _. false; total = mm (pos 3000000); number = 7; ties = λ _ _. None; free = 8; state = state.New };
  depth = depth;
  parent = parent;
  changes = 0;
}

pub record Shows (k : Case) (m : Model) : Type 0 where
  pub depth1 : m.depth 1 ≡ mm k.depth1
  pub parent1 : m.parent 1 ≡ k.parent1
  pub depth2 : m.depth 2 ≡ mm k.depth2
  pub parent2 : m.parent 2 ≡ k.parent2

-- a buffer of four markers
abbrev pub buffer : List ℕ
buffer = 9 ∷ 9 ∷ 9 ∷ 9 ∷ []

-- one after the other, the calls may be answered so, and leave these rows
abbrev pub Runs : Model → List Case → Type 0
Runs m [] = Unit {0}
Runs m (k ∷ ks) = (m' : Model) × Answered plain m k.call buffer k.answer (over_front k.cycle buffer) m' × Shows k m' × Runs m' ks

-- each call can be answered in this way alone
abbrev pub Forced : Model → List Case → Type 0
Forced m [] = Unit {0}
Forced m (k ∷ ks) =
    (answer : Answer) (after : List ℕ) (m' : Model) → Answered plain m k.call buffer answer after m'
    → (answer ≡ k.answer) × (after ≡ over_front k.cycle buffer) × Shows k m' × Forced m' ks

abbrev pub SmallWellRuns : Type 0
SmallWellRuns = (depth : ℕ → Amount) (parent : ℕ → ℕ) → Runs (start depth parent) cases

abbrev pub SmallWellForced : Type 0
SmallWellForced = (depth : ℕ → Amount) (parent : ℕ → ℕ) → Forced (start depth parent) cases
