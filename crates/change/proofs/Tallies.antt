-- Counting one marker after another. Assumes nothing.
use Rattle.std.proofs.Common.{◌≡◌, ℕ, zero, suc, ◌+◌, ◌≤◌, Bool, true, false, cond, not, ◌&&◌, eqb, sym, refl, ap, subst, arith}
use Rattle.std.proofs.lemmas.Bool.{eq-eqb, false≢true}
use Rattle.measure.specs.Group.{Lt}
use Rattle.measure.specs.declared.Amount.{Amount}
use Rattle.measure.specs.declared.Measure as measure
use Rattle.law.specs.Amounts.{at_most, same_value}
use Rattle.law.specs.Calls.{tally}
use Rattle.law.proofs.Answers.{at_most_by}

module _ (f : ℕ → Bool) where
  pub tally_at_most : (n : ℕ) → tally n f ≤ n
  tally_at_most zero = omega arith
  tally_at_most (suc n) = by (f n) (tally n f) (tally_at_most n)
    where
      by : (t : Bool) (k : ℕ) → k ≤ n → cond t 1 0 + k ≤ suc n
      by true k h = omega arith
      by false k h = omega arith

  next : (k : ℕ) → suc k ≡ k + 1
  next k = omega arith

  pub tally_none : ((k : ℕ) → f k ≡ false) → (n : ℕ) → tally n f ≡ 0
  tally_none none zero = refl
  tally_none none (suc n) = joined (f n) (tally n f) (none n) (tally_none none n)
    where
      joined : (v : Bool) (j : ℕ) → v ≡ false → j ≡ 0 → cond v 1 0 + j ≡ 0
      joined v j p q = rw (p, q) refl

-- no marker has another parent than it has
pub none_reparented : (n : ℕ) (p : ℕ → ℕ) → tally n (λ k. not (eqb (p k) (p k))) ≡ 0
none_reparented n p = tally_none (λ k. not (eqb (p k) (p k))) (λ k. ap not (eq-eqb (p k) (p k) refl)) n

module _ {M : Type 0} (μ : measure.Ghosts M) where
  at_most_is : (a b : Amount) → μ.group.le (μ.value a) (μ.value b) → at_most μ a b ≡ true
  at_most_is a b h = sym (at_most_by μ true a b ((λ e. h), λ l. refl))

  joined : (s t u v : Bool) → s ≡ u → t ≡ v → not (s && t) ≡ not (u && v)
  joined s t u v p q = rw (p, q) refl

  equal : (a b : Amount) → μ.value a ≡ μ.value b → at_most μ a b ≡ true
  equal a b e = at_most_is a b (subst (μ.group.le (μ.value a)) e (μ.group.le_refl (μ.value a)))

  same_is : (a b : Amount) → μ.value a ≡ μ.value b → not (same_value μ a b) ≡ false
  same_is a b e = joined (at_most μ a b) (at_most μ b a) true true (equal a b e) (equal b a (sym e))

  -- no marker has another depth than it has
  pub none_moved : (n : ℕ) (d : ℕ → Amount) → tally n (λ k. not (same_value μ (d k) (d k))) ≡ 0
  none_moved n d = tally_none (λ k. not (same_value μ (d k) (d k))) (λ k. same_is (d k) (d k) refl) n
