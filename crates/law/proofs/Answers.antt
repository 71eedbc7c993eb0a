-- How a call comes to be answered: refused by a check, contradicted, or accepted. Assumes nothing.
use Rattle.std.proofs.Common.{◌≡◌, ℕ, Bool, true, false, ◌⊎◌, List, [], ◌∷◌, ◌++◌, Some, None, Decides, Option, sym, refl, subst, inl, inr}
use Rattle.measure.specs.declared.Amount.{Amount}
use Rattle.measure.specs.declared.Measure as measure
use Rattle.measure.specs.Least.{first_of}
use Rattle.law.specs.declared.call.Answer.{Answer}
use Rattle.law.specs.declared.call.Answer.TheVariants.{Refused}
use Rattle.law.specs.declared.call.Call.{Call}
use Rattle.law.specs.declared.call.Refusal.{Refusal}
use Rattle.law.specs.Amounts.{at_most}
use Rattle.law.specs.Refusals.{when, first, first_refusal}
use Rattle.law.specs.Calls.{Model, Outcome, Accepted, Contradicted, Answered, EndsWith}

-- a check that holds is the answer, and one that does not leaves it to the others
pub stops : (t : Bool) (r : Refusal) (os : List (Option Refusal)) → t ≡ true → first (when t r ∷ os) ≡ Some r
stops t r os h = rw h refl

pub skips : (t : Bool) (r : Refusal) (os : List (Option Refusal)) → t ≡ false → first (when t r ∷ os) ≡ first os
skips t r os h = rw h refl

pub ends_with_last : (ms : List ℕ) (a : ℕ) → EndsWith a (ms ++ (a ∷ []))
ends_with_last [] a = refl
ends_with_last (x ∷ []) a = refl
ends_with_last (x ∷ y ∷ ms) a = ends_with_last (y ∷ ms) a

module _ {M : Type 0} (μ : measure.Ghosts M) where
  -- a comparison of amounts, decided by the order
  pub at_most_by : (r : Bool) (a b : Amount) → Decides r (μ.group.le (μ.value a) (μ.value b)) → r ≡ at_most μ a b
  at_most_by r a b d = by (μ.group.le_total (μ.value a) (μ.value b))
    where
      not_so : (v : Bool) → (v ≡ true → ⊥) → v ≡ false
      not_so true n = absurd (n refl)
      not_so false n = refl

      by : (s : μ.group.le (μ.value a) (μ.value b) ⊎ (μ.group.le (μ.value b) (μ.value a) × (μ.group.le (μ.value a) (μ.value b) → ⊥))) → r ≡ first_of s true false
      by (inl h) = d.1 h
      by (inr h) = not_so r (λ e. h.1 (d.0 e))

  pub refused : (m : Model) (c : Call) (before : List ℕ) (answer : Answer) (after : List ℕ) (m' : Model) (r : Refusal)
      → first_refusal μ m.standing c ≡ Some r → answer ≡ Refused r → after ≡ before → m' ≡ m
      → Answered μ m c before answer after m'
  refused m c before answer after m' r is a b same =
      record { outcome = subst (λ o. Outcome μ o m c before answer after m') (sym is) (a, b, same) }

  pub contradicted : (m : Model) (c : Call) (before : List ℕ) (answer : Answer) (after : List ℕ) (m' : Model)
      → first_refusal μ m.standing c ≡ None → Contradicted μ m c before answer after m'
      → Answered μ m c before answer after m'
  contradicted m c before answer after m' passed x =
      record { outcome = subst (λ o. Outcome μ o m c before answer after m') (sym passed) (inl x) }

  pub accepted : (m : Model) (c : Call) (before : List ℕ) (answer : Answer) (after : List ℕ) (m' : Model)
      → first_refusal μ m.standing c ≡ None → Accepted μ m c before answer after m'
      → Answered μ m c before answer after m'
  accepted m c before answer after m' passed x =
      record { outcome = subst (λ o. Outcome μ o m c before answer after m') (sym passed) (inr x) }
