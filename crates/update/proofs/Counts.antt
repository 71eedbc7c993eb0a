-- How many markers are settled. Assumes nothing.
use Rattle.std.proofs.Common.{◌≡◌, ℕ, zero, suc, ◌+◌, ◌<◌, ◌≤◌, Bool, true, false, cond, refl, ap, ◌∙◌, arith}
use native.Mathlib.Decide.{ℕ_discrete}
use Rattle.graph.specs.Settling.{Settles}
use Rattle.update.specs.Lowering.{settled}

pub settled_at_most : (X : ℕ → Bool) (n : ℕ) → settled X n ≤ n
settled_at_most X zero = omega arith
settled_at_most X (suc n) = by (X n) (settled X n) (settled_at_most X n)
  where
    by : (v : Bool) (k : ℕ) → k ≤ n → cond v (suc k) k ≤ suc n
    by true k h = omega arith
    by false k h = omega arith

-- the count is the same where none of the first n changes
pub settled_same : (X X' : ℕ → Bool) (n : ℕ) → ((z : ℕ) → z < n → X' z ≡ X z) → settled X' n ≡ settled X n
settled_same X X' zero h = refl
settled_same X X' (suc n) h = joined (settled X' n) (settled X n) (settled_same X X' n (λ z l. h z (up z l))) (h n (omega arith))
  where
    up : (z : ℕ) → z < n → z < suc n
    up z l = omega arith

    joined : (j k : ℕ) → j ≡ k → X' n ≡ X n → cond (X' n) (suc j) j ≡ cond (X n) (suc k) k
    joined j k e f = rw (e, f) refl

pub settled_one : (X X' : ℕ → Bool) (n y : ℕ) → y < n → X y ≡ false → Settles X y X' → settled X' n ≡ suc (settled X n)
settled_one X X' zero y h free sets = absurd (omega arith)
settled_one X X' (suc n) y h free sets = at (λ (l : y < n). settled_one X X' n y l free sets) (ℕ_discrete n y)
  where
    less : ¬ (n ≡ y) → y < n
    less k = omega (arith, λ (e : n ≡ y). k e)

    not_y : (z : ℕ) → z < n → n ≡ y → z ≡ y → ⊥
    not_y z l e k = omega arith

    last : (j k : ℕ) → j ≡ k → X' n ≡ true → X n ≡ false → cond (X' n) (suc j) j ≡ suc (cond (X n) (suc k) k)
    last j k e f o = rw (e, f, o) refl

    by : (v : Bool) (j k : ℕ) → j ≡ suc k → cond v (suc j) j ≡ suc (cond v (suc k) k)
    by true j k e = omega arith
    by false j k e = e

    before : (j k : ℕ) → j ≡ suc k → X' n ≡ X n → cond (X' n) (suc j) j ≡ suc (cond (X n) (suc k) k)
    before j k e f = rw f (by (X n) j k e)

    at : (y < n → settled X' n ≡ suc (settled X n)) → Dec (n ≡ y) → cond (X' n) (suc (settled X' n)) (settled X' n) ≡ suc (cond (X n) (suc (settled X n)) (settled X n))
    at ih (yes e) = last (settled X' n) (settled X n) (settled_same X X' n (λ z l. sets.other z (not_y z l e))) (ap X' e ∙ sets.at) (ap X e ∙ free)
    at ih (no k) = before (settled X' n) (settled X n) (ih (less k)) (sets.other n k)

pub settled_more : {X X' : ℕ → Bool} {n y : ℕ} → Settles X y X' → y < n → X y ≡ false → settled X' n ≡ settled X n + 1
settled_more {X} {X'} {n} {y} sets inside free = omega (arith, settled_one X X' n y inside free sets)
