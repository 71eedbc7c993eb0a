-- Looking for the first tie that is not admitted, start by start and end by end. Assumes nothing.
use Rattle.std.proofs.Common.{◌≡◌, ℕ, zero, suc, ◌+◌, ◌<◌, true, not, ◌⊎◌, [], ◌∷◌, Some, None, Option, sym, refl, ◌∙◌, subst, inl, inr, arith}
use Rattle.std.proofs.lemmas.Bool.{cases_eq, not-false}
use Rattle.measure.specs.declared.Amount.{Amount}
use Rattle.measure.specs.declared.Measure as measure
use Rattle.law.specs.declared.call.Refusal.TheVariants.{BadTie}
use Rattle.law.specs.Refusals.{first, lowest, bad_tie, first_bad_tie}
use Rattle.law.proofs.Tellings.{first_none, when_none}

module _ {A : Type 0} (f : ℕ → Option A) where
  first_of : (o p : Option A) (x : A) → o ≡ Some x → first (o ∷ p ∷ []) ≡ Some x
  first_of o p x h = rw h refl

  none_of : (o p : Option A) → o ≡ None → p ≡ None → first (o ∷ p ∷ []) ≡ None
  none_of o p h k = rw (h, k) refl

  some_of : (o p : Option A) (x : A) → o ≡ None → p ≡ Some x → first (o ∷ p ∷ []) ≡ Some x
  some_of o p x h k = rw (h, k) refl

  -- one more number is passed
  pub lowest_step : (k : ℕ) → lowest k f ≡ None → f k ≡ None → lowest (k + 1) f ≡ None
  lowest_step k h e = subst (λ z. lowest z f ≡ None) (next k) (none_of (lowest k f) (f k) h e)
    where
      next : (k : ℕ) → suc k ≡ k + 1
      next k = omega arith

  below_last : (k n : ℕ) → k < suc n → (k ≡ n → ⊥) → k < n
  below_last k n l ne = omega arith

  -- the first that is found is the lowest
  pub lowest_found : (n k : ℕ) (x : A) → k < n → lowest k f ≡ None → f k ≡ Some x → lowest n f ≡ Some x
  lowest_found zero k x l h e = absurd (omega arith)
  lowest_found (suc n) k x l h e = at (λ l. lowest_found n k x l h e) (cases_eq k n)
    where
      at : (k < n → lowest n f ≡ Some x) → (k ≡ n) ⊎ (k ≡ n → ⊥) → lowest (suc n) f ≡ Some x
      at before (inl s) = some_of (lowest n f) (f n) x (subst (λ z. lowest z f ≡ None) s h) (subst (λ z. f z ≡ Some x) s e)
      at before (inr ne) = first_of (lowest n f) (f n) x (before (below_last k n l ne))

  -- what is found is found somewhere
  pub lowest_some : (n : ℕ) (x : A) → lowest n f ≡ Some x → (k : ℕ) × (f k ≡ Some x)
  lowest_some zero x e = absurd (let z : ◌≡◌ {A = ℕ} 0 1 = cc in omega arith)
  lowest_some (suc n) x e = at (lowest n f) (f n) refl refl e (λ i. lowest_some n x i)
    where
      at : (o p : Option A) → lowest n f ≡ o → f n ≡ p → first (o ∷ p ∷ []) ≡ Some x → (lowest n f ≡ Some x → (k : ℕ) × (f k ≡ Some x)) → (k : ℕ) × (f k ≡ Some x)
      at None None i j h before = absurd (let z : ◌≡◌ {A = ℕ} 0 1 = cc in omega arith)
      at None (Some y) i j h before = (n, j ∙ h)
      at (Some y) p i j h before = before (i ∙ h)

  -- where none is found, there is none
  pub lowest_none : (n : ℕ) → lowest n f ≡ None → (k : ℕ) → k < n → f k ≡ None
  lowest_none zero h k l = absurd (omega arith)
  lowest_none (suc n) h k l = let p = first_none (lowest n f) (f n ∷ []) h in at (first_none (f n) [] p.1).0 (lowest_none n p.0 k) (cases_eq k n)
    where
      at : f n ≡ None → (k < n → f k ≡ None) → (k ≡ n) ⊎ (k ≡ n → ⊥) → f k ≡ None
      at last before (inl s) = subst (λ z. f z ≡ None) (sym s) last
      at last before (inr ne) = before (below_last k n l ne)

module _ {M : Type 0} (μ : measure.Ghosts M) where
  pub bad_tie_none : (a b : ℕ) (o : Option Amount) (w : Amount) → bad_tie μ a b o ≡ None → o ≡ Some w → μ.admits w ≡ true
  bad_tie_none a b None w h e = let z : ◌≡◌ {A = ℕ} 0 1 = cc in absurd (omega arith)
  bad_tie_none a b (Some v) w h e = subst (λ z. μ.admits z ≡ true) (inner v w e) (not-false (μ.admits v) (when_none (not (μ.admits v)) (BadTie a b) h))
    where
      inner : (v w : Amount) → Some v ≡ Some w → v ≡ w
      inner v w e = cc

  module _ (n : ℕ) (t : ℕ → ℕ → Option Amount) where
    -- where none is bad, each tie is admitted
    pub all_admitted : first_bad_tie μ n t ≡ None → (a b : ℕ) (w : Amount) → a < n → b < n → t a b ≡ Some w → μ.admits w ≡ true
    all_admitted h a b w ha hb e =
        bad_tie_none a b (t a b) w
        (lowest_none (λ y. bad_tie μ a y (t a y)) n (lowest_none (λ x. lowest n (λ y. bad_tie μ x y (t x y))) n h a ha) b hb) e
