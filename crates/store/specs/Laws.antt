-- A sound list is lawful. Assumes nothing.
use Rattle.std.specs.Prelude.{◌≡◌, ℕ, zero, suc, ◌<◌, List, Some, None, refl}
use Rattle.std.proofs.Common.{sym, ◌∙◌, inl, inr, arith}
use Rattle.std.proofs.lemmas.Bool.{cases_Bool, cond-false, eqb-true, and_parts}
use Rattle.store.specs.declared.TieRecord.{TieRecord}
use Rattle.store.specs.Meaning.{Lawful}
use Rattle.store.specs.List.{list_meaning, ListSound, amount_in, is_pair, Pair, at}

pub amount_none : (f : ℕ → TieRecord) (count a b : ℕ) → ((k : ℕ) → k < count → Pair a b (f k) → ⊥) → amount_in f count a b ≡ None
amount_none f zero a b h = refl
amount_none f (suc c) a b h =
    elim (cases_Bool (is_pair a b (f c))) [
      | inl e ↦ absurd (h c (omega arith) (eqb-true _ _ (and_parts _ _ e).0, eqb-true _ _ (and_parts _ _ e).1))
      | inr e ↦ cond-false _ (Some (f c).amount) _ e ∙ amount_none f c a b (λ k l. h k (omega arith))
    ]

pub list_lawful : (n count : ℕ) (rs : List TieRecord) → ListSound n count rs → Lawful (list_meaning n count rs)
list_lawful n count rs s = record {
  low = s.low;
  high = s.high;
  unknown_start = λ a b h. amount_none (at rs) count a b (λ k l p. let e = p.0 in omega (arith, s.ties.starts k l));
  unknown_end = λ a b h. amount_none (at rs) count a b (λ k l p. let e = p.1 in omega (arith, s.ties.ends k l));
  same = λ a. amount_none (at rs) count a a (λ k l p. s.ties.apart k l (p.0 ∙ sym p.1));
}
