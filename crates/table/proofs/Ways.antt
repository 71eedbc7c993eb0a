-- The markers from an ancestor down, by their places in a buffer. Assumes nothing.
use Rattle.std.proofs.Common.{◌≡◌, ℕ, zero, suc, ◌+◌, ◌-◌, ◌<◌, ◌≤◌, List, [], ◌∷◌, ◌++◌, length, get_or, drop, sym, refl, ap, ◌∙◌, inl, inr, arith}
use Rattle.std.proofs.lemmas.List.{length_push, get_or_push, get_or_append_left, get_or-append_right, get_or-drop, length-append, length-drop, same_lists, get_or_default}
use Rattle.std.proofs.lemmas.Bool.{cases_lt}
use Rattle.graph.specs.Tree.{climb, way}
use Rattle.table.specs.Climb.{over_front}

-- the marker that k climbs lead to, and the way down from there
abbrev pub down : (ℕ → ℕ) → ℕ → ℕ → List ℕ
down f k m = climb f k m ∷ way f k m

pub length_down : (f : ℕ → ℕ) (h m : ℕ) → length (down f h m) ≡ h + 1
length_down f zero m = refl
length_down f (suc h) m = let i : length (down f h (f m)) ≡ h + 1 = length_down f h (f m) in length_push (down f h (f m)) m ∙ (omega arith)

getD_down : (f : ℕ → ℕ) (h m k : ℕ) → k < h + 1 → get_or (down f h m) k 0 ≡ climb f (h - k) m
getD_down f zero m k l = let e : k ≡ 0 = omega arith in ap (λ i. get_or (m ∷ []) i 0) e ∙ ap (λ i. climb f i m) (let z : 0 ≡ 0 - k = omega arith in z)
getD_down f (suc h) m k l = elim (cases_lt k (h + 1)) [
  | inl lt ↦
      let long : length (down f h (f m)) ≡ h + 1 = length_down f h (f m) in
      let e : suc (h - k) ≡ suc h - k = omega arith in
      get_or_append_left (down f h (f m)) (m ∷ []) 0 k (omega arith) ∙ getD_down f h (f m) k lt ∙ ap (λ i. climb f i m) e
  | inr ge ↦
      let long : length (down f h (f m)) ≡ k = length_down f h (f m) ∙ (omega arith) in
      let e : 0 ≡ suc h - k = omega arith in
      get_or_push (down f h (f m)) m 0 k long ∙ ap (λ i. climb f i m) e
]

-- a buffer that has the markers in front, and is as it was behind them
pub written : (f : ℕ → ℕ) (h m : ℕ) (old new : List ℕ) → h + 1 ≤ length old → length new ≡ length old →
    ((k : ℕ) → k < h + 1 → get_or new k 0 ≡ climb f (h - k) m) → ((k : ℕ) → h + 1 ≤ k → get_or new k 0 ≡ get_or old k 0) →
    new ≡ over_front (down f h m) old
written f h m old new room same front back =
    let long : length (down f h m) ≡ h + 1 = length_down f h m in
    same_lists new (over_front (down f h m) old)
    (let a : length (down f h m ++ drop (length (down f h m)) old) ≡ length (down f h m) + length (drop (length (down f h m)) old) = length-append (down f h m) (drop (length (down f h m)) old) in
    let b : length (drop (length (down f h m)) old) ≡ length old - length (down f h m) = length-drop (length (down f h m)) old in omega arith)
    (λ k d l. get_or_default new k d 0 l ∙ at k l ∙ get_or_default (over_front (down f h m) old) k 0 d (inside k l))
  where
    inside : (k : ℕ) → k < length new → k < length (over_front (down f h m) old)
    inside k l =
        let long : length (down f h m) ≡ h + 1 = length_down f h m in
        let a : length (down f h m ++ drop (length (down f h m)) old) ≡ length (down f h m) + length (drop (length (down f h m)) old) = length-append (down f h m) (drop (length (down f h m)) old) in
        let b : length (drop (length (down f h m)) old) ≡ length old - length (down f h m) = length-drop (length (down f h m)) old in omega arith

    at : (k : ℕ) → k < length new → get_or new k 0 ≡ get_or (over_front (down f h m) old) k 0
    at k l =
        let long : length (down f h m) ≡ h + 1 = length_down f h m in
        elim (cases_lt k (h + 1)) [
          | inl lt ↦ front k lt ∙ sym (getD_down f h m k lt) ∙ sym (get_or_append_left (down f h m) (drop (length (down f h m)) old) 0 k (omega arith))
          | inr ge ↦
              let e : length (down f h m) + (k - (h + 1)) ≡ k = omega arith in
              back k ge ∙ sym (get_or-append_right (down f h m) (drop (length (down f h m)) old) (h + 1) k 0 long ge ∙ get_or-drop (length (down f h m)) old (k - (h + 1)) 0 ∙ ap (λ i. get_or old i 0) e)
        ]
