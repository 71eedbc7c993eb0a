-- How many ties there are, before and after one pair is written. Assumes nothing.
use Rattle.std.proofs.Common.{◌≡◌, ℕ, zero, suc, ◌+◌, ◌-◌, ◌*◌, ◌<◌, ◌≤◌, Bool, true, false, cond, ◌≢◌, is_some, Some, None, Option, sym, refl, ap, ◌∙◌, inl, inr, suc-mul, zero-mul, arith}
use Rattle.std.proofs.lemmas.Bool.{cases_eq}
use Rattle.measure.specs.declared.Amount.{Amount}
use Rattle.matrix.specs.Matrix.{sum_below, tie_count}

-- ---- sums
sum_same : (k : ℕ) (f g : ℕ → ℕ) → ((j : ℕ) → j < k → f j ≡ g j) → sum_below k f ≡ sum_below k g
sum_same zero f g h = refl
sum_same (suc k) f g h = let more = sum_same k f g (λ j l. h j (omega arith)) in omega (arith, h k (omega arith))

sum_more : (k i : ℕ) (f g : ℕ → ℕ) → i < k → g i ≡ f i + 1 → ((j : ℕ) → j ≢ i → g j ≡ f j) → sum_below k g ≡ sum_below k f + 1
sum_more zero i f g l here else = absurd (omega arith)
sum_more (suc k) i f g l here else = elim (cases_eq k i) [
  | inl e ↦
      let below = sum_same k g f (λ j s. else j (omega arith)) in
      let last = ap g e ∙ here ∙ ap (λ m. f m + 1) (sym e) in
      omega arith
  | inr e ↦ let below = sum_more k i f g (omega arith) here else in omega (arith, else k e)
]

sum_most : (k c : ℕ) (f : ℕ → ℕ) → ((j : ℕ) → j < k → f j ≤ c) → sum_below k f ≤ k * c
sum_most zero c f h = omega (arith, zero-mul c)
sum_most (suc k) c f h = let below = sum_most k c f (λ j l. h j (omega arith)) in omega (arith, suc-mul k c, h k (omega arith))

-- one of the numbers is zero, and none is above one
sum_gap : (k i : ℕ) (f : ℕ → ℕ) → i < k → f i ≡ 0 → ((j : ℕ) → f j ≤ 1) → sum_below k f + 1 ≤ k
sum_gap zero i f l here most = absurd (omega arith)
sum_gap (suc k) i f l here most = elim (cases_eq k i) [
  | inl e ↦ let below = sum_all k in let last = ap f e ∙ here in omega arith
  | inr e ↦ let below = sum_gap k i f (omega arith) here most in omega (arith, most k)
]
  where
    sum_all : (k : ℕ) → sum_below k f ≤ k
    sum_all zero = omega arith
    sum_all (suc k) = let below = sum_all k in omega (arith, most k)

-- ---- ties
abbrev one_if : Option Amount → ℕ
one_if o = cond (is_some o) 1 0

at_most_one : (o : Option Amount) → one_if o ≤ 1
at_most_one (Some v) = omega arith
at_most_one None = omega arith

pub count_same : (n : ℕ) (t u : ℕ → ℕ → Option Amount) → ((x y : ℕ) → is_some (t x y) ≡ is_some (u x y)) → tie_count n t ≡ tie_count n u
count_same n t u h = sum_same n _ _ (λ x _. sum_same n _ _ (λ y _. ap (λ (b : Bool). cond {A = ℕ} b 1 0) (h x y)))

-- u has the tie of one pair besides those of t
pub count_more : (n a b : ℕ) (t u : ℕ → ℕ → Option Amount) → a < n → b < n → is_some (t a b) ≡ false → is_some (u a b) ≡ true → ((x y : ℕ) → (x ≡ a → y ≡ b → ⊥) → u x y ≡ t x y) → tie_count n u ≡ tie_count n t + 1
count_more n a b t u a_in b-in none some else =
    sum_more n a (λ x. sum_below n (λ y. one_if (t x y))) (λ x. sum_below n (λ y. one_if (u x y))) a_in
    (sum_more n b (λ y. one_if (t a y)) (λ y. one_if (u a y)) b-in
    (ap (λ (b : Bool). cond {A = ℕ} b 1 0) some ∙ ap (λ (b : Bool). cond {A = ℕ} b 1 0 + 1) (sym none))
    (λ y h. ap one_if (else a y (λ _. h))))
    (λ x h. sum_same n _ _ (λ y _. ap one_if (else x y (λ e. absurd (h e)))))

-- a row has no tie of its own marker
pub count_most : (n : ℕ) (t : ℕ → ℕ → Option Amount) → ((a : ℕ) → t a a ≡ None) → tie_count n t ≤ n * (n - 1)
count_most n t same = sum_most n (n - 1) (λ x. sum_below n (λ y. one_if (t x y))) (λ a l. let gap = sum_gap n a (λ y. one_if (t a y)) l (ap one_if (same a)) (λ y. at_most_one (t a y)) in omega arith)

pub count_none : (n : ℕ) (t : ℕ → ℕ → Option Amount) → ((x y : ℕ) → t x y ≡ None) → tie_count n t ≡ 0
count_none n t none = nothing n _ (λ x. nothing n _ (λ y. ap one_if (none x y)))
  where
    nothing : (k : ℕ) (f : ℕ → ℕ) → ((j : ℕ) → f j ≡ 0) → sum_below k f ≡ 0
    nothing zero f h = refl
    nothing (suc k) f h = let below = nothing k f h in omega (arith, h k)
