-- Whether a tie of a pair is in a list, and which. Assumes nothing.
use Rattle.std.proofs.Common.{◌≡◌, ℕ, suc, ◌<◌, true, false, ◌||◌, eqb, List, [], ◌∷◌, length, get_or, Some, None, sym, refl, ap, ◌∙◌, inl, inr, arith}
use Rattle.std.proofs.lemmas.List.Folds.{list_any_at}
use Rattle.std.proofs.lemmas.Bool.{cases_Bool, cond-true, cond-false, eq-eqb, eqb-true, and_from, and_parts, or_parts}
use Rattle.sheet_text.specs.Tying.{no_tie, is_of, tied_in, amount_of, tie_of}
use Rattle.sheet_text.specs.declared.ties.Tie.{Tie}

pub true_false : true ≡ false → ⊥
true_false e = cc

pub tied_at : (ts : List Tie) (i : ℕ) (d : Tie) (a b : ℕ) → i < length ts → (get_or ts i d).start ≡ a → (get_or ts i d).end ≡ b → tied_in ts a b ≡ true
tied_at ts i d a b l p q = list_any_at (is_of a b) ts i d l (and_from _ _ (eq-eqb _ a p) (eq-eqb _ b q))

-- a pair's tie is one of the ties, and its amount is the pair's
pub tied_some : (ts : List Tie) (a b : ℕ) → tied_in ts a b ≡ true
    → (k : ℕ) × (k < length ts) × ((get_or ts k no_tie).start ≡ a) × ((get_or ts k no_tie).end ≡ b) × (tie_of ts a b ≡ Some (amount_of (get_or ts k no_tie)))
tied_some [] a b e = absurd (true_false (sym e))
tied_some (t ∷ ts) a b e =
    elim (cases_Bool (is_of a b t)) [
      | inl h ↦
          let p = and_parts (eqb t.start a) (eqb t.end b) h in
          (0, omega arith, eqb-true t.start a p.0, eqb-true t.end b p.1, cond-true (is_of a b t) (Some (amount_of t)) (tie_of ts a b) h)
      | inr h ↦
          let r = tied_some ts a b (ap (λ x. x || tied_in ts a b) (sym h) ∙ e) in
          let l : suc r.0 < length (t ∷ ts) = omega (arith, r.1) in
          (suc r.0, l, r.2, r.3, cond-false (is_of a b t) (Some (amount_of t)) (tie_of ts a b) h ∙ r.4)
    ]

pub tied_none : (ts : List Tie) (a b : ℕ) → tied_in ts a b ≡ false → tie_of ts a b ≡ None
tied_none [] a b e = refl
tied_none (t ∷ ts) a b e =
    let (other, rest) = or_parts (is_of a b t) (tied_in ts a b) e in
    cond-false (is_of a b t) (Some (amount_of t)) (tie_of ts a b) other ∙ tied_none ts a b rest
