-- The cycle at the front of a buffer. Assumes nothing.
use Rattle.std.proofs.Common.{◌≡◌, ℕ, zero, suc, ◌-◌, ◌<◌, ◌≤◌, List, [], ◌∷◌, ◌++◌, length, get_or, take, drop, sym, refl, ap, ◌∙◌, subst, inl, inr, arith, length-append, length-drop}
use Rattle.std.proofs.lemmas.List.{get_or-take, length-take-le}
use Rattle.graph.specs.Graph.{In}
use Rattle.law.specs.Calls.{over_front}

pub getD_in : (xs : List ℕ) (k : ℕ) → k < length xs → In (get_or xs k 0) xs
getD_in [] k h = absurd (omega arith)
getD_in (x ∷ xs) zero h = inl refl
getD_in (x ∷ xs) (suc k) h = inr (getD_in xs k (lower k (length xs) h))
  where
    lower : (k n : ℕ) → suc k < suc n → k < n
    lower k n h = omega arith

-- a list that is put over the front of a buffer which stays as long as it was has room in it
pub front_fits : (ms before after : List ℕ) → after ≡ over_front ms before → length after ≡ length before → length ms ≤ length before
front_fits ms before after e k = omega (arith, simp (length-append, length-drop) at (sym k ∙ ap length e))

take_front : (ms rest : List ℕ) → take (length ms) (ms ++ rest) ≡ ms
take_front [] rest = refl
take_front (m ∷ ms) rest = ap (λ xs. m ∷ xs) (take_front ms rest)

pub front_taken : (ms before after : List ℕ) (size : ℕ) → after ≡ over_front ms before → size ≡ length ms → take size after ≡ ms
front_taken ms before after size e k = ap (λ i. take i after) k ∙ ap (take (length ms)) e ∙ take_front ms (drop (length ms) before)
