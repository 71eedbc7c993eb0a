-- Lines added one after another. Assumes nothing.
use Rattle.std.proofs.Common.{◌≡◌, ℕ, suc, ◌+◌, List, ◌++◌, ap, ◌∙◌, arith}
use Rattle.std.proofs.lemmas.List.{append_assoc}
use Rattle.measure.specs.declared.Amount.{Amount}
use Rattle.depth_text.specs.Lines.{row_line, rows_text}

-- one row more
pub rows_more : (name : ℕ → List ℕ) (depth : ℕ → Amount) (parent : ℕ → ℕ) (m : ℕ) (before so_far after : List ℕ) → so_far ≡ before ++ rows_text name depth parent m
    → after ≡ so_far ++ row_line (name m) (depth m) (name (parent m)) → after ≡ before ++ rows_text name depth parent (m + 1)
rows_more name depth parent m before so_far after e k =
    let next : suc m ≡ m + 1 = omega arith in
    k ∙ ap (λ xs. xs ++ row_line (name m) (depth m) (name (parent m))) e ∙ append_assoc before (rows_text name depth parent m) (row_line (name m) (depth m) (name (parent m)))
    ∙ ap (λ i. before ++ rows_text name depth parent i) next

-- a row's line, by what its parts are
pub same_line : (name : ℕ → List ℕ) (depth : ℕ → Amount) (parent : ℕ → ℕ) (m p : ℕ) (d : Amount) (first last : List ℕ)
    → first ≡ name m → d ≡ depth m → p ≡ parent m → last ≡ name p → row_line first d last ≡ row_line (name m) (depth m) (name (parent m))
same_line name depth parent m p d first last e₁ e₂ e₃ e₄ =
    ap (λ i. row_line i d last) e₁ ∙ ap (λ i. row_line (name m) i last) e₂ ∙ ap (row_line (name m) (depth m)) (e₄ ∙ ap name e₃)
