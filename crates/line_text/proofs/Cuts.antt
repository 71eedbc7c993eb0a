-- A line is cut into its parts in one way. Assumes nothing.
use Rattle.std.proofs.Common.{◌≡◌, ℕ, zero, suc, ◌<◌, List, [], ◌∷◌, ◌++◌, get_or, drop, ℤ, pos, negsuc, decimal, sym, refl, ap, arith}
use Rattle.std.specs.Fmt.{signed_decimal}
use Rattle.line_text.specs.Spelling.{Bounded, Name, Numeral, Spaceless, Without}
use Rattle.line_text.proofs.Numerals.{numeral_decimal}

-- lists that are the same begin alike
pub heads : {a b : ℕ} {x y : List ℕ} → a ∷ x ≡ b ∷ y → a ≡ b
heads e = ap (λ l. get_or l 0 0) e

pub spaceless_name : (bs : List ℕ) → Name bs → Spaceless bs
spaceless_name bs n i l e = omega (arith, (n.2 i l).0)

pub spaceless_numeral : (bs : List ℕ) → Numeral bs → Spaceless bs
spaceless_numeral bs n i l e = omega (arith, (n.2 i l).0)

spaceless_cons : (c : ℕ) (bs : List ℕ) → 32 < c → Spaceless bs → Spaceless (c ∷ bs)
spaceless_cons c bs h s zero l e = omega arith
spaceless_cons c bs h s (suc i) l e = s i (omega arith) e

pub spaceless_signed : (z : ℤ) → Bounded z → Spaceless (signed_decimal z)
spaceless_signed (pos n) h = spaceless_numeral (decimal n) (numeral_decimal n (omega arith))
spaceless_signed (negsuc n) h = spaceless_cons 45 (decimal (suc n)) (omega arith) (spaceless_numeral (decimal (suc n)) (numeral_decimal (suc n) (omega arith)))

without_tail : (c d : ℕ) (bs : List ℕ) → Without c (d ∷ bs) → Without c bs
without_tail c d bs s i l e = s (suc i) (omega arith) e

module _ (c : ℕ) where
  pub cut_same : (a b x y : List ℕ) → Without c a → Without c x → a ++ c ∷ b ≡ x ++ c ∷ y → (a ≡ x) × (b ≡ y)
  cut_same [] b [] y s t e = (refl, ap (drop 1) e)
  cut_same [] b (d ∷ x) y s t e = absurd (t 0 (omega arith) (sym (ap (λ l. get_or l 0 0) e)))
  cut_same (d ∷ a) b [] y s t e = absurd (s 0 (omega arith) (ap (λ l. get_or l 0 0) e))
  cut_same (d ∷ a) b (f ∷ x) y s t e =
      let p = cut_same a b x y (without_tail c d a s) (without_tail c f x t) (ap (drop 1) e) in
      let h : d ≡ f = ap (λ l. get_or l 0 0) e in
      ((λ i. h i ∷ p.0 i), p.1)

  pub uncut : (a b bs : List ℕ) → Without c bs → a ++ c ∷ b ≡ bs → ⊥
  uncut [] b [] s e = cc
  uncut [] b (d ∷ bs) s e = s 0 (omega arith) (sym (ap (λ l. get_or l 0 0) e))
  uncut (d ∷ a) b [] s e = cc
  uncut (d ∷ a) b (f ∷ bs) s e = uncut a b bs (without_tail c f bs s) (ap (drop 1) e)
