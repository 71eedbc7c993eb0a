-- What the results of the calls with a token are as answers, and what becomes of the token. Assumes nothing.
use Rattle.std.specs.Prelude.{◌≡◌, ℕ, Ok, Err, Result}
use Rattle.law.specs.declared.call.Answer.{Answer}
use Rattle.law.specs.declared.call.Answer.TheVariants.{Refused, Changed, Committed}
use Rattle.law.specs.declared.call.Counts.{Counts}
use Rattle.law.specs.declared.call.Refusal.{Refusal}
use Rattle.solver.specs.declared.token.Returned.{Returned}
use Rattle.solver.specs.declared.token.TrialToken.{TrialToken}

abbrev pub tried : Result (Counts × TrialToken) Refusal → Answer
tried (Ok r) = Changed r.0.moved r.0.reparented
tried (Err why) = Refused why

abbrev pub committed : Result (Unit {0}) Returned → Answer
committed (Ok _) = Committed
committed (Err back) = Refused back.why

abbrev pub rolled_back : Result Counts Returned → Answer
rolled_back (Ok counts) = Changed counts.moved counts.reparented
rolled_back (Err back) = Refused back.why

-- the token of an accepted trial bears the solver's number
abbrev pub Numbered : ℕ → Result (Counts × TrialToken) Refusal → Type 0
Numbered number (Ok r) = r.1.number ≡ number
Numbered number (Err why) = Unit {0}

-- a token that is refused comes back as it was
abbrev pub ComesBack : {A : Type 0} → TrialToken → Result A Returned → Type 0
ComesBack token (Ok _) = Unit {0}
ComesBack token (Err back) = back.token ≡ token
