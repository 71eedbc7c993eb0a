-- Laws of climbing. Assumes nothing.
use Rattle.std.proofs.Common.{◌≡◌, ℕ, zero, suc, ◌+◌, ◌<◌, ◌≤◌, List, [], ◌∷◌, ◌++◌, length, sym, refl, ap, ◌∙◌, inl, inr, arith, length-append}
use Rattle.std.proofs.lemmas.Bool.{cases_lt}
use Rattle.graph.specs.Tree.{climb, climbed, way}
use Rattle.graph.proofs.Trees.{Height, height_of, climb_datum}
use Rattle.table.specs.Climb.{FirstClimb}

pub climb_add : (f : ℕ → ℕ) (j k m : ℕ) → climb f (j + k) m ≡ climb f k (climb f j m)
climb_add f zero k m = let e : 0 + k ≡ k = omega arith in ap (λ i. climb f i m) e
climb_add f (suc j) k m = let e : suc j + k ≡ suc (j + k) = omega arith in ap (λ i. climb f i m) e ∙ climb_add f j k (f m)

pub climb_last : (f : ℕ → ℕ) (k m : ℕ) → climb f (k + 1) m ≡ f (climb f k m)
climb_last f k m = climb_add f k 1 m

-- from the parent on, one step fewer
first_next : (p : ℕ → ℕ) (k a b : ℕ) → FirstClimb p (suc k) a b → FirstClimb p k (p a) b
first_next p k a b f = record { there = f.there; before = λ i h. f.before (suc i) (raise i h) }
  where
    raise : (i : ℕ) → i < k → suc i < suc k
    raise i h = omega arith

-- no climb is shorter than the first
pub first_least : (p : ℕ → ℕ) (k i a b : ℕ) → FirstClimb p k a b → climb p i a ≡ b → k ≤ i
first_least p k i a b f e = elim (cases_lt i k) [
  | inl l ↦ absurd (f.before i l e)
  | inr l ↦ l
]

pub first_one : (p : ℕ → ℕ) (j k a b : ℕ) → FirstClimb p j a b → FirstClimb p k a b → j ≡ k
first_one p j k a b f g =
    let l : j ≤ k = first_least p j k a b f g.there in
    let m : k ≤ j = first_least p k j a b g f.there in
    omega arith

pub height_first : (p : ℕ → ℕ) (k m : ℕ) → Height p k m → FirstClimb p k m 0
height_first p zero m e = record { there = e; before = λ i h. absurd (none i h) }
  where
    none : (i : ℕ) → i < 0 → ⊥
    none i h = omega arith
height_first p (suc k) m (pos, h) = let r = height_first p k (p m) h in record { there = r.there; before = λ i l. at r i l }
  where
    lower : (i : ℕ) → suc i < suc k → i < k
    lower i l = omega arith

    at : FirstClimb p k (p m) 0 → (i : ℕ) → i < suc k → ¬ (climb p i m ≡ 0)
    at r zero l e = omega arith
    at r (suc i) l e = r.before i (lower i l) e

-- the first climb to the datum writes the whole path
pub climbed_way : (p : ℕ → ℕ) (j k m : ℕ) → FirstClimb p k m 0 → k ≤ j → climbed p j m ≡ way p k m
climbed_way p zero zero m f h = refl
climbed_way p zero (suc k) m f h = absurd (omega arith)
climbed_way p (suc j) zero zero f h = refl
climbed_way p (suc j) zero (suc m) f h = absurd (let e : suc m ≡ 0 = f.there in omega arith)
climbed_way p (suc j) (suc k) zero f h = absurd (f.before 0 (omega arith) refl)
climbed_way p (suc j) (suc k) (suc m) f h = ap (λ l. l ++ (suc m ∷ [])) (climbed_way p j k (p (suc m)) (first_next p k (suc m) 0 f) (lower j k h))
  where
    lower : (j k : ℕ) → suc k ≤ suc j → k ≤ j
    lower j k h = omega arith

-- a step to the parent makes the path shorter
longer : (p : ℕ → ℕ) (k m : ℕ) → climb p k m ≡ 0 → climbed p (suc k) m ≡ climbed p k m
longer p k m e =
    let h = height_of p k m e in
    let f = height_first p h.0 m h.2 in
    let l : h.0 ≤ k = h.1 in
    climbed_way p (suc k) h.0 m f (omega arith) ∙ sym (climbed_way p k h.0 m f l)

pub parent_shorter : (p : ℕ → ℕ) (k m : ℕ) → ¬ (m ≡ 0) → climb p k m ≡ 0 → length (climbed p k (p m)) < length (climbed p k m)
parent_shorter p zero m ne e = absurd (ne e)
parent_shorter p (suc k) zero ne e = absurd (ne refl)
parent_shorter p (suc k) (suc m) ne e = less (climbed p k (p (suc m))) (climbed p (suc k) (p (suc m))) (longer p k (p (suc m)) e)
  where
    less : (xs ys : List ℕ) → ys ≡ xs → length ys < length (xs ++ (suc m ∷ []))
    less xs ys o = rw (o, length-append) (omega arith)

-- some number of climbs leads from a to b
abbrev pub Meets : (ℕ → ℕ) → ℕ → ℕ → Type 0
Meets p a b = (k : ℕ) × (climb p k a ≡ b)

pub meets_down : (p : ℕ → ℕ) (a b : ℕ) → Meets p (p a) b → Meets p a b
meets_down p a b (k, e) = (suc k, e)

pub meets_up : (p : ℕ → ℕ) (a b : ℕ) → ¬ (a ≡ b) → Meets p a b → Meets p (p a) b
meets_up p a b ne (zero, e) = absurd (ne e)
meets_up p a b ne (suc k, e) = (k, e)

pub datum_meets : (p : ℕ → ℕ) → p 0 ≡ 0 → (a b : ℕ) → a ≡ 0 → Meets p a b → b ≡ 0
datum_meets p root a b z (k, e) = sym e ∙ ap (climb p k) z ∙ climb_datum p root k
