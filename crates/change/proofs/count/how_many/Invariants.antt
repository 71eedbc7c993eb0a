use Rattle.std.proofs.Common.{◌≡◌, ℕ, ◌<◌, ◌≤◌, Bool}
use Rattle.law.specs.Calls.{tally}
use Rattle.change.proofs.count.how_many.Given as goal

abbrev pub invariant-loop-m : goal.invariant-loop-m
invariant-loop-m g l = (l.count ≤ l.m) × ((f : ℕ → Bool) → ((k : ℕ) (r : Bool) → k < l.n → g.F.Fn.post l.differs (k, tt) r → r ≡ f k) → l.count ≡ tally l.m f)
