-- Lists of calls with their answers, in the order in which they are made. Assumes nothing.
use Rattle.std.specs.Prelude.{◌≡◌, ℕ, min, Bool, true, false, List, [], ◌∷◌, take, Some, None, Ok, Err, Option, Result}
use Rattle.measure.specs.declared.Measure as measure
use Rattle.law.specs.declared.call.Answer.{Answer}
use Rattle.law.specs.declared.call.Answer.TheVariants.{Changed, Committed, Refused}
use Rattle.law.specs.declared.call.Call.{Call}
use Rattle.law.specs.declared.call.Call.TheVariants as call
use Rattle.law.specs.declared.call.Counts.{Counts}
use Rattle.law.specs.declared.call.Entry.{Entry}
use Rattle.law.specs.declared.call.Refusal.TheVariants.{NotOpen}
use Rattle.law.specs.Calls.{Answered, Model}
use Rattle.law.specs.Law.{Log}
use Rattle.law.specs.Refusals.{on_trial}
use Rattle.law.specs.Standing.{Standing}
use Rattle.law.specs.Telling.{entry, Logged, Tells}
use Rattle.solver.specs.declared.token.Returned.{Returned}
use Rattle.solver.specs.declared.token.TrialToken.{TrialToken}

-- how many places of a buffer the call is lent
abbrev pub room : Call → ℕ
room (call.Open k) = k
room (call.Tie a b w k) = k
room (call.Untie a b) = 0
room (call.Trial a b w k) = k
room (call.Commit number) = 0
room (call.RollBack number) = 0
room (call.Depth m) = 0
room (call.Path m k) = k

-- the call, lent no more than the 64 places that an entry has
abbrev pub capped : Call → Call
capped (call.Open k) = call.Open (min k 64)
capped (call.Tie a b w k) = call.Tie a b w (min k 64)
capped (call.Untie a b) = call.Untie a b
capped (call.Trial a b w k) = call.Trial a b w (min k 64)
capped (call.Commit number) = call.Commit number
capped (call.RollBack number) = call.RollBack number
capped (call.Depth m) = call.Depth m
capped (call.Path m k) = call.Path m (min k 64)

-- an entry that is not filled in
abbrev pub blank : Entry
blank = entry (call.Open 0) (Refused NotOpen) []

-- an entry with as much of its buffer as the call was lent
abbrev pub cut : Entry → Entry
cut e = entry e.call e.answer (take (room e.call) e.buffer)

-- a log that goes on with these calls
abbrev pub followed_by : Log → List Entry → Log
followed_by log [] = log
followed_by log (e ∷ es) = followed_by (cut e ∷ log) es

-- the calls as a log, the newest first
abbrev pub log_of : List Entry → Log
log_of es = followed_by [] es

-- the token of the trial that is out is in hand, and no token is where none is out
abbrev pub Holds : Model → Option TrialToken → Type 0
Holds m None = on_trial m.standing.state ≡ false
Holds m (Some token) = (on_trial m.standing.state ≡ true) × (token.number ≡ m.standing.number)

-- a token is taken that bears the number
abbrev pub Bears : Option TrialToken → ℕ → Result TrialToken (Option TrialToken) → Type 0
Bears token number (Ok held) = (token ≡ Some held) × (held.number ≡ number)
Bears token number (Err other) = (other ≡ token) × ((held : TrialToken) → token ≡ Some held → ¬ (held.number ≡ number))

-- the token that comes back, if one does
abbrev pub token_back : {A : Type 0} → Result A Returned → Option TrialToken
token_back (Ok _) = None
token_back (Err back) = Some back.token

module _ {M : Type 0} (μ : measure.Ghosts M) where
  -- the call was answered as it has to be; of the buffer it had as much as it was lent
  pub record Made (m : Model) (c : Call) (a : Answer) (b : List ℕ) (m' : Model) : Type 0 where
    pub before : List ℕ
    pub answered : Answered μ m c before a (take (room c) b) m'

  -- every log that tells of the solver as it was goes on with these calls, and tells of it as it is: so it is lawful
  abbrev pub Replayed : Model → List Entry → Model → Type 0
  Replayed m es m' = (s : Standing) (log : Log) → Tells μ s log m → Tells μ s (followed_by log es) m'

  -- the calls of a log, the newest first, were each answered as they have to be, from m on to m'
  abbrev pub Reached : Model → Log → Model → Type 0
  Reached m [] m' = m' ≡ m
  Reached m (e ∷ log) m' = (m₁ : Model) × Reached m log m₁ × ((before : List ℕ) × Answered μ m₁ e.call before e.answer e.buffer m')

  -- nothing was out and nothing is done, or the trial is rolled back
  abbrev pub Ended : Model → Option TrialToken → Option Counts → Model → Type 0
  Ended m None None m' = m' ≡ m
  Ended m None (Some counts) m' = ⊥
  Ended m (Some token) None m' = ⊥
  Ended m (Some token) (Some counts) m' =
      Answered μ m (call.RollBack token.number) [] (Changed counts.moved counts.reparented) [] m' × Logged μ m (call.RollBack token.number) (Changed counts.moved counts.reparented) [] m'

  -- nothing was out and nothing is done, or the trial is committed
  abbrev pub Kept : Model → Option TrialToken → Bool → Model → Type 0
  Kept m None r m' = (r ≡ false) × (m' ≡ m)
  Kept m (Some token) r m' =
      (r ≡ true) × Answered μ m (call.Commit token.number) [] Committed [] m' × Logged μ m (call.Commit token.number) Committed [] m'
