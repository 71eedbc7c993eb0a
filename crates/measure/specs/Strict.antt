-- Strict depth keeps the laws. Assumes nothing.
use Rattle.std.specs.Prelude.{◌≡◌, ◌*◌, true, ◌&&◌, ℤ, pos, negsuc, ◌+ℤ◌, ◌≤ℤ◌, int_le, refl}
use Rattle.std.proofs.Common.{ap, ⊎_elim, arith}
use Rattle.std.proofs.lemmas.Int.{ints}
use Rattle.std.proofs.lemmas.Bool.{and_parts}
use Rattle.measure.specs.Bounds.{UpTo, up_to}
use Rattle.measure.specs.Integers.{Pair, pairs}
use Rattle.measure.specs.Laws.{MeasureLaws}
use Rattle.measure.specs.Plain.{at_most, within_of, same_amount}

one_mark : (z : ℤ) → (int_le (negsuc 0) z && int_le z (pos 0)) ≡ true → UpTo 1 z
one_mark z h =
    let p = and_parts (int_le (negsuc 0) z) (int_le z (pos 0)) h in
    let low : negsuc 0 ≤ℤ z = at_most _ _ p.0 in
    let high : z ≤ℤ pos 0 = at_most _ _ p.1 in
    (omega (arith, ints), omega (arith, ints))

pub strict_laws : MeasureLaws pairs (λ a. up_to 20000000 a.mm && (int_le (negsuc 0) a.marks && int_le a.marks (pos 0))) (λ k a. UpTo (k * 20000000) a.mm × UpTo k a.marks) (λ a. (a.mm, a.marks)) (record { mm = pos 0; marks = pos 0 })
strict_laws = record {
  zero_within = ((omega (arith, ints), omega (arith, ints)), (omega (arith, ints), omega (arith, ints)));
  zero_admitted = refl;
  zero_neutral = refl;
  wider = λ k a h. ((omega (arith, ints), omega (arith, ints)), (omega (arith, ints), omega (arith, ints)));
  single = λ a h. let p = and_parts (up_to 20000000 a.mm) (int_le (negsuc 0) a.marks && int_le a.marks (pos 0)) h in let mm : UpTo 20000000 a.mm = within_of 20000000 a.mm p.0 in ((omega (arith, ints), omega (arith, ints)), one_mark a.marks p.1);
  positive = (record { mm = pos 1; marks = pos 0 }, refl, ⊎_elim (λ h. omega (arith, ints)) (λ h. omega (arith, ints)));
  faithful = λ a b p q e. same_amount a b (ap (λ (x : Pair). x.0) e) (ap (λ (x : Pair). x.1) e);
  sums = λ i j a b le p q. (record { mm = a.mm +ℤ b.mm; marks = a.marks +ℤ b.marks }, ((omega (arith, ints), omega (arith, ints)), (omega (arith, ints), omega (arith, ints))), refl);
}
