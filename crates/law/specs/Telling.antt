-- A log that tells of a solver: it is lawful, and what it says of the solver is so. Assumes nothing.
use Rattle.std.specs.Prelude.{◌≡◌, ℕ, ◌<◌, false, List, [], ◌∷◌, Some}
use Rattle.measure.specs.declared.Measure as measure
use Rattle.law.specs.declared.call.Answer.{Answer}
use Rattle.law.specs.declared.call.Answer.TheVariants.{Refused, Opened, Changed, Committed, Row, Length}
use Rattle.law.specs.declared.call.Call.{Call}
use Rattle.law.specs.declared.call.Entry.{Entry}
use Rattle.law.specs.declared.call.State.TheVariants as state
use Rattle.law.specs.Standing.{Standing}
use Rattle.law.specs.Refusals.{code_of, is_new}
use Rattle.law.specs.Calls.{Model, path, TableOf, PathAt, Answered}
use Rattle.law.specs.Law.{Log, after, Lawful, read_since, read_before}

abbrev pub entry : Call → Answer → List ℕ → Entry
entry c a b = record { call = c; answer = a; buffer = b }

-- the code of a refusal, and 0 where the call is accepted
abbrev pub answer_code : Answer → ℕ
answer_code (Refused why) = code_of why
answer_code (Opened markers) = 0
answer_code (Changed moved reparented) = 0
answer_code Committed = 0
answer_code (Row depth parent) = 0
answer_code (Length length) = 0

-- how many markers have another depth, where the answer says so
abbrev pub moved_count : Answer → ℕ
moved_count (Refused why) = 0
moved_count (Opened markers) = 0
moved_count (Changed moved reparented) = moved
moved_count Committed = 0
moved_count (Row depth parent) = 0
moved_count (Length length) = 0

module _ {M : Type 0} (μ : measure.Ghosts M) where
  -- the log, which starts at s, tells of the solver m
  pub record Tells (s : Standing) (log : Log) (m : Model) : Type 0 where
    pub lawful : Lawful μ s log
    pub standing : m.standing ≡ after s log
    pub table : is_new m.standing.state ≡ false → TableOf μ m.standing m.depth m.parent
    -- a path read since the last change is the one that is held
    pub since : (k : ℕ) (ms : List ℕ) → read_since k log ≡ Some ms → path m k ≡ ms
    -- and so is one read just before it that still stands and adds up to the depth
    pub before : (k : ℕ) (ms : List ℕ) → read_before k log ≡ Some ms → k < m.standing.count
        → PathAt μ m.standing ms k (μ.value (m.depth k)) → path m k ≡ ms

  -- the empty log tells of a new solver
  abbrev pub Starts : Type 0
  Starts = (m : Model) → m.standing.state ≡ state.New → Tells m.standing [] m

  -- every log that tells of the solver as it was goes on with this call, and tells of it as it is
  abbrev pub Logged : Model → Call → Answer → List ℕ → Model → Type 0
  Logged m c answer buffer m' = (s : Standing) (log : Log) → Tells s log m → Tells s (entry c answer buffer ∷ log) m'

  -- so does each call that is answered as it has to be
  abbrev pub Goes_on : Type 0
  Goes_on =
      (m m' : Model) (c : Call) (before : List ℕ) (answer : Answer) (after : List ℕ)
      → Answered μ m c before answer after m' → Logged m c answer after m'

  -- the calls of a log, the newest first, are each answered as they have to be, from m on to m'
  pub data Ran (m : Model) : Log → Model → Type 0 where
    none : Ran m [] m
    more : {log : Log} {m₁ m₂ : Model} {c : Call} {answer : Answer} {after : List ℕ} (before : List ℕ)
        → Ran m log m₁ → Answered μ m₁ c before answer after m₂ → Ran m (entry c answer after ∷ log) m₂

  -- the law of every log
  abbrev pub EveryLogLawful : Type 0
  EveryLogLawful = (m m' : Model) (log : Log) → m.standing.state ≡ state.New → Ran m log m' → Lawful μ m.standing log

  -- two outcomes of one call agree in all but the parents, with the paths that they make and the count of new ones, and the cycle
  pub record Agree (m₁ : Model) (a₁ : Answer) (m₂ : Model) (a₂ : Answer) : Type 0 where
    pub code : answer_code a₁ ≡ answer_code a₂
    pub moved : moved_count a₁ ≡ moved_count a₂
    pub standing : m₁.standing ≡ m₂.standing
    pub changes : m₁.changes ≡ m₂.changes
    pub depths : (k : ℕ) → k < m₁.standing.count → m₁.depth k ≡ m₂.depth k

  abbrev pub Pinned : Type 0
  Pinned =
      (m : Model) (c : Call) (b : List ℕ) (a₁ : Answer) (f₁ : List ℕ) (m₁ : Model) (a₂ : Answer) (f₂ : List ℕ) (m₂ : Model)
      → Answered μ m c b a₁ f₁ m₁ → Answered μ m c b a₂ f₂ m₂ → Agree m₁ a₁ m₂ a₂
