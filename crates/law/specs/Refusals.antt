-- Which refusal a call gets before any solving: the first whose condition holds, in the order of the codes. Assumes nothing.
use Rattle.std.specs.Prelude.{ℕ, zero, suc, Bool, true, false, not, ◌&&◌, ◌||◌, List, [], ◌∷◌, is_some, Some, None, Option, ◌==◌, nat_lt}
use Rattle.measure.specs.declared.Amount.{Amount}
use Rattle.measure.specs.declared.Measure as measure
use Rattle.law.specs.declared.call.State.{State}
use Rattle.law.specs.declared.call.State.TheVariants as state
use Rattle.law.specs.declared.call.Call.{Call}
use Rattle.law.specs.declared.call.Call.TheVariants as call
use Rattle.law.specs.declared.call.Refusal.{Refusal}
use Rattle.law.specs.declared.call.Refusal.TheVariants.{NotOpen, NotNew, TrialOut, UnknownMarker, SameMarker, ClosedMarker, BadAmount, ShortBuffer, PairEmpty, StoreFull, Contradiction, WrongToken, BadTie}
use Rattle.law.specs.Amounts.{at_most}
use Rattle.law.specs.Standing.{Standing}

abbrev pub code_of : Refusal → ℕ
code_of NotOpen = 1
code_of NotNew = 2
code_of TrialOut = 3
code_of UnknownMarker = 4
code_of SameMarker = 5
code_of ClosedMarker = 6
code_of BadAmount = 7
code_of ShortBuffer = 8
code_of PairEmpty = 9
code_of StoreFull = 10
code_of (Contradiction length) = 11
code_of WrongToken = 12
code_of (BadTie from to) = 13

-- the length of the cycle that a contradiction leaves
abbrev pub cycle_length : Refusal → Option ℕ
cycle_length NotOpen = None
cycle_length NotNew = None
cycle_length TrialOut = None
cycle_length UnknownMarker = None
cycle_length SameMarker = None
cycle_length ClosedMarker = None
cycle_length BadAmount = None
cycle_length ShortBuffer = None
cycle_length PairEmpty = None
cycle_length StoreFull = None
cycle_length (Contradiction length) = Some length
cycle_length WrongToken = None
cycle_length (BadTie from to) = None

abbrev pub is_new : State → Bool
is_new state.New = true
is_new state.Open = false
is_new (state.OnTrial a b before) = false

abbrev pub on_trial : State → Bool
on_trial state.New = false
on_trial state.Open = false
on_trial (state.OnTrial a b before) = true

-- the refusal, where its condition holds
abbrev pub when : Bool → Refusal → Option Refusal
when true r = Some r
when false r = None

-- the first of several
abbrev pub first : {A : Type 0} → List (Option A) → Option A
first [] = None
first (None ∷ os) = first os
first (Some x ∷ os) = Some x

-- the first of f 0, f 1, .. below n
abbrev pub lowest : {A : Type 0} → ℕ → (ℕ → Option A) → Option A
lowest zero f = None
lowest (suc n) f = first (lowest n f ∷ f n ∷ [])

module _ {M : Type 0} (μ : measure.Ghosts M) where
  -- where the tie of a pair has an amount that is not admitted
  abbrev pub bad_tie : ℕ → ℕ → Option Amount → Option Refusal
  bad_tie a b None = None
  bad_tie a b (Some w) = when (not (μ.admits w)) (BadTie a b)

  -- the lowest start, then the lowest end
  abbrev pub first_bad_tie : ℕ → (ℕ → ℕ → Option Amount) → Option Refusal
  first_bad_tie n t = lowest n (λ a. lowest n (λ b. bad_tie a b (t a b)))

  module _ (s : Standing) where
    abbrev pub known : ℕ → Bool
    known m = nat_lt m s.count

    abbrev pub pair_checks : ℕ → ℕ → List (Option Refusal) → List (Option Refusal)
    pair_checks a b rest =
        when (is_new s.state) NotOpen
        ∷ when (on_trial s.state) TrialOut
        ∷ when (not (known a && known b)) UnknownMarker
        ∷ when (a == b) SameMarker
        ∷ when (s.closed a || s.closed b) ClosedMarker
        ∷ rest

    abbrev pub put_checks : ℕ → ℕ → Amount → ℕ → List (Option Refusal)
    put_checks a b w room =
        pair_checks a b
        (when (not (μ.admits w)) BadAmount
        ∷ when (nat_lt room s.count) ShortBuffer
        ∷ when (not (is_some (s.ties a b)) && s.free == 0) StoreFull
        ∷ [])

    abbrev pub token_checks : ℕ → List (Option Refusal)
    token_checks number = when (not (on_trial s.state && number == s.number)) WrongToken ∷ []

    abbrev pub checks : Call → List (Option Refusal)
    checks (call.Open room) =
        when (not (is_new s.state)) NotNew
        ∷ when (not (μ.admits s.total) || at_most μ s.total μ.zero) BadAmount
        ∷ when (nat_lt room s.count) ShortBuffer
        ∷ first_bad_tie s.count s.ties
        ∷ []
    checks (call.Tie a b w room) = put_checks a b w room
    checks (call.Untie a b) = pair_checks a b (when (not (is_some (s.ties a b))) PairEmpty ∷ [])
    checks (call.Trial a b w room) = put_checks a b w room
    checks (call.Commit number) = token_checks number
    checks (call.RollBack number) = token_checks number
    checks (call.Depth m) = when (is_new s.state) NotOpen ∷ when (not (known m)) UnknownMarker ∷ []
    checks (call.Path m room) =
        when (is_new s.state) NotOpen
        ∷ when (not (known m)) UnknownMarker
        ∷ when (nat_lt room s.count) ShortBuffer
        ∷ []

    abbrev pub first_refusal : Call → Option Refusal
    first_refusal c = first (checks c)
