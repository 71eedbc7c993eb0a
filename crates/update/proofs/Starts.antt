-- A marker and its ancestors, marked one after another. Assumes nothing.
use Rattle.std.proofs.Common.{◌≡◌, ℕ, zero, suc, ◌+◌, ◌<◌, Bool, true, false, ◌⊎◌, List, length, set, replicate, sym, refl, ap, ◌∙◌, inl, inr, true≢false, arith, length-set}
use native.Mathlib.Decide.{ℕ_discrete}
use Rattle.graph.specs.Tree.{climb}
use Rattle.graph.proofs.Trees.{climb_datum}
use Rattle.table.proofs.Climbs.{climb_last, datum_meets, Meets, meets_up}
use Rattle.update.specs.Reading.{flag}
use Rattle.update.specs.Lowering.{Ancestors}
use Rattle.update.proofs.Rows.{flag_same, flag_other, no_flag}

-- fewer climbs where some lead past the datum
pub first_way : (p : ℕ → ℕ) → p 0 ≡ 0 → (j m z : ℕ) → climb p j m ≡ z → (k : ℕ) × (climb p k m ≡ z) × ((i : ℕ) → i < k → 0 < climb p i m)
first_way p root zero m z e = (0, e, λ i h. absurd (none i h))
  where
    none : (i : ℕ) → i < 0 → ⊥
    none i h = omega arith
first_way p root (suc j) m z e = at (λ (u : climb p j (p m) ≡ z). first_way p root j (p m) z u) (ℕ_discrete m 0)
  where
    none : (i : ℕ) → i < 0 → ⊥
    none i h = omega arith

    home : m ≡ 0 → climb p (suc j) m ≡ 0
    home k = ap (climb p (suc j)) k ∙ climb_datum p root (suc j)

    more : ¬ (m ≡ 0) → (k : ℕ) → ((i : ℕ) → i < k → 0 < climb p i (p m)) → (i : ℕ) → i < suc k → 0 < climb p i m
    more ne k h zero l = positive ne
      where
        positive : ¬ (m ≡ 0) → 0 < m
        positive u = omega (arith, λ (o : m ≡ 0). u o)
    more ne k h (suc i) l = h i (lower i l)
      where
        lower : (i : ℕ) → suc i < suc k → i < k
        lower i l = omega arith

    at : (climb p j (p m) ≡ z → (k : ℕ) × (climb p k (p m) ≡ z) × ((i : ℕ) → i < k → 0 < climb p i (p m))) → Dec (m ≡ 0)
        → (k : ℕ) × (climb p k m ≡ z) × ((i : ℕ) → i < k → 0 < climb p i m)
    at ih (yes k) = (0, k ∙ sym (home k) ∙ e, λ i h. absurd (none i h))
    at ih (no k) = let r = ih e in (suc r.0, r.1, more k r.0 r.2)

-- the marks as the climb from m comes to `here`
pub record Marked (p : ℕ → ℕ) (m here : ℕ) (xs : List Bool) : Type 0 where
  pub met : Meets p m here
  pub only : (z : ℕ) → flag xs z ≡ true → Meets p m z
  pub all : (z : ℕ) → Meets p m z → (flag xs z ≡ true) ⊎ Meets p here z
  pub long : length xs ≡ 64

pub mark_start : (p : ℕ → ℕ) (m : ℕ) → Marked p m m (replicate 64 false)
mark_start p m = record { met = (0, refl); only = λ z f. absurd (true≢false (sym f ∙ no_flag 64 z)); all = λ z o. inr o; long = refl }

module _ (p : ℕ → ℕ) (m here : ℕ) (xs : List Bool) (got : Marked p m here xs) (low : here < length xs) where
  still : (z : ℕ) → flag xs z ≡ true → flag (set xs here true) z ≡ true
  still z f = by (ℕ_discrete z here)
    where
      by : Dec (z ≡ here) → flag (set xs here true) z ≡ true
      by (yes e) = ap (flag (set xs here true)) e ∙ flag_same xs here low
      by (no ne) = flag_other xs here z true ne ∙ f

  only_more : (z : ℕ) → flag (set xs here true) z ≡ true → Meets p m z
  only_more z f = by (ℕ_discrete z here)
    where
      by : Dec (z ≡ here) → Meets p m z
      by (yes e) = (got.met.0, got.met.1 ∙ sym e)
      by (no ne) = got.only z (sym (flag_other xs here z true ne) ∙ f)

  pub mark_step : Marked p m (p here) (set xs here true)
  mark_step = record {
    met = (got.met.0 + 1, climb_last p got.met.0 m ∙ ap p got.met.1);
    only = only_more;
    all = λ z o. all z (got.all z o);
    long = length-set xs here true ∙ got.long;
  }
    where
      next : (z : ℕ) → Meets p here z → Dec (here ≡ z) → (flag (set xs here true) z ≡ true) ⊎ Meets p (p here) z
      next z o (yes e) = inl (ap (flag (set xs here true)) (sym e) ∙ flag_same xs here low)
      next z o (no ne) = inr (meets_up p here z ne o)

      all : (z : ℕ) → (flag xs z ≡ true) ⊎ Meets p here z → (flag (set xs here true) z ≡ true) ⊎ Meets p (p here) z
      all z (inl f) = inl (still z f)
      all z (inr o) = next z o (ℕ_discrete here z)

  pub mark_end : p 0 ≡ 0 → here ≡ 0 → Ancestors p m (flag (set xs here true))
  mark_end root top = record { all = λ i. all (climb p i m) (got.all (climb p i m) (i, refl)); only = λ z f. let o = only_more z f in first_way p root o.0 m z o.1 }
    where
      all : (z : ℕ) → (flag xs z ≡ true) ⊎ Meets p here z → flag (set xs here true) z ≡ true
      all z (inl f) = still z f
      all z (inr o) = ap (flag (set xs here true)) (datum_meets p root here z top o ∙ sym top) ∙ flag_same xs here low
