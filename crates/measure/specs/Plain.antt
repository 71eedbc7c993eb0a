-- Plain depth keeps the laws. Assumes nothing.
use Rattle.std.specs.Prelude.{◌≡◌, ℕ, ◌*◌, true, ◌&&◌, ℤ, pos, ◌+ℤ◌, neg_ℤ, ◌≤ℤ◌, int_le, refl}
use Rattle.std.proofs.Common.{sym, ◌∙◌, arith}
use Rattle.std.specs.Int.Signed.{le_z_yes}
use Rattle.std.proofs.lemmas.Int.{ints}
use Rattle.std.proofs.lemmas.Bool.{and_parts}
use Rattle.measure.specs.Bounds.{UpTo, up_to}
use Rattle.measure.specs.Integers.{integers}
use Rattle.measure.specs.Laws.{MeasureLaws}
use Rattle.measure.specs.declared.Amount.{Amount}

pub at_most : (x y : ℤ) → int_le x y ≡ true → x ≤ℤ y
at_most x y e = le_z_yes (rw e tt)

pub within_of : (n : ℕ) (z : ℤ) → up_to n z ≡ true → UpTo n z
within_of n z h = let p = and_parts (int_le (neg_ℤ (pos n)) z) (int_le z (pos n)) h in (at_most _ _ p.0, at_most _ _ p.1)

pub same_amount : (a b : Amount) → a.mm ≡ b.mm → a.marks ≡ b.marks → a ≡ b
same_amount a b p q = λ i. record { mm = p i; marks = q i }

no_marks : (z : ℤ) → UpTo 0 z → z ≡ pos 0
no_marks z h = omega (arith, ints)

pub plain_laws : MeasureLaws integers (λ a. up_to 20000000 a.mm && up_to 0 a.marks) (λ k a. UpTo (k * 20000000) a.mm × (a.marks ≡ pos 0)) (λ a. a.mm) (record { mm = pos 0; marks = pos 0 })
plain_laws = record {
  zero_within = ((omega (arith, ints), omega (arith, ints)), refl);
  zero_admitted = refl;
  zero_neutral = refl;
  wider = λ k a h. ((omega (arith, ints), omega (arith, ints)), h.1);
  single = λ a h. let p = and_parts (up_to 20000000 a.mm) (up_to 0 a.marks) h in let mm : UpTo 20000000 a.mm = within_of 20000000 a.mm p.0 in ((omega (arith, ints), omega (arith, ints)), no_marks a.marks (within_of 0 a.marks p.1));
  positive = (record { mm = pos 1; marks = pos 0 }, refl, λ h. omega (arith, ints));
  faithful = λ a b p q e. same_amount a b e (p.1 ∙ sym q.1);
  sums = λ i j a b le p q. (record { mm = a.mm +ℤ b.mm; marks = pos 0 }, ((omega (arith, ints), omega (arith, ints)), refl), refl);
}
