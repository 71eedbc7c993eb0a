-- A line of a word and names, added piece by piece. Assumes nothing.
use Rattle.std.proofs.Common.{◌≡◌, ℕ, ◌≤◌, List, [], ◌∷◌, ◌++◌, map, length, take, Ok, Err, Result, ap, ◌∙◌, subst, append_assoc, Bor}
use Rattle.std.proofs.lemmas.List.{take_all}
use Rattle.depth_text.specs.Lines.{Adds, line, name_in, spaced}

-- the bytes y after the bytes x
pub adds_after : {E : Type 0} (v x y a b : List ℕ) (r : Result (Unit {0}) E) → a ≡ v ++ x → Adds a y r b → Adds v (x ++ y) r b
adds_after v x y a b (Ok _) p q = q ∙ ap (λ s. s ++ y) p ∙ append_assoc v x y
adds_after v x y a b (Err _) p q = tt

pub names_ended : {E : Type 0} (names : List (Bor (List ℕ))) (markers word : List ℕ) (i : ℕ) (v a b t : List ℕ) (r : Result (Unit {0}) E) → length markers ≤ i
    → a ≡ v ++ word → b ≡ a ++ spaced (map (name_in names) (take i markers)) → Adds b (10 ∷ []) r t → Adds v (line word (map (name_in names) markers)) r t
names_ended names markers word i v a b t r l p q h =
    subst (λ s. Adds v s r t) (append_assoc word (spaced (map (name_in names) markers)) (10 ∷ []))
    (adds_after v (word ++ spaced (map (name_in names) markers)) (10 ∷ []) b t r
    (q ∙ ap (λ s. a ++ spaced (map (name_in names) s)) (take_all i markers l) ∙ ap (λ s. s ++ spaced (map (name_in names) markers)) p ∙ append_assoc v word _)
    h)
