-- What the elements behind a graph's amounts tell of the amounts. Assumes nothing.
use Rattle.std.proofs.Common.{◌≡◌, ℕ, Some, None, Option, sym, refl, ap, ◌∙◌, arith}
use mathlib.Core.Option as plain
use Rattle.measure.specs.declared.Amount.{Amount}
use Rattle.graph.specs.Weights.{valued}

pub no_value : {C : Type 0} (f : Amount → C) (o : Option Amount) (c : C) → o ≡ None → valued f o ≡ plain.some c → ⊥
no_value f o c e h = let k : plain.none ≡ plain.some c = sym (ap (valued f) e) ∙ h in let z : ◌≡◌ {A = ℕ} 0 1 = cc in omega arith

pub one_value : {C : Type 0} (f : Amount → C) (o : Option Amount) (a : Amount) (c : C) → o ≡ Some a → valued f o ≡ plain.some c → c ≡ f a
one_value f o a c e h = let k : plain.some (f a) ≡ plain.some c = sym (ap (valued f) e) ∙ h in cc

-- the amount behind an element
pub amount_of : {C : Type 0} (f : Amount → C) (o : Option Amount) (c : C) → valued f o ≡ plain.some c → (a : Amount) × (o ≡ Some a) × (f a ≡ c)
amount_of f None c e = absurd (no_value f None c refl e)
amount_of f (Some a) c e = (a, refl, sym (one_value f (Some a) a c refl e))
