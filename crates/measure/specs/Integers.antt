-- Two ordered groups: the integers, and pairs of integers, where the first part decides before the second. Assumes nothing.
use Rattle.std.specs.Prelude.{◌≡◌, Bool, true, false, ◌⊎◌, ℤ, pos, ◌+ℤ◌, neg_ℤ, ◌≤ℤ◌, ◌<ℤ◌, int_lt, refl}
use Rattle.std.proofs.Common.{ap, ◌∙◌, inl, inr, arith}
use Rattle.std.specs.Int.Signed.{lt_z_yes, lt_z_no}
use Rattle.std.proofs.lemmas.Int.{ints}
use Rattle.measure.specs.Group.{OrderedGroup}

pub is_below : (x y : ℤ) → int_lt x y ≡ true → x <ℤ y
is_below x y e = lt_z_yes (rw e tt)

pub is_not_below : (x y : ℤ) → int_lt x y ≡ false → y ≤ℤ x
is_not_below x y e = lt_z_no (rw e tt)

pub above : (x y : ℤ) → y <ℤ x → (y ≤ℤ x) × (x ≤ℤ y → ⊥)
above x y h = (omega (arith, ints), λ k. omega (arith, ints))

-- decided by whether y is below x
abbrev pub total_by : (x y : ℤ) (t : Bool) → int_lt y x ≡ t → (x ≤ℤ y) ⊎ ((y ≤ℤ x) × (x ≤ℤ y → ⊥))
total_by x y true e = inr (above x y (is_below y x e))
total_by x y false e = inl (is_not_below y x e)

abbrev pub integers : OrderedGroup
integers = record {
  carrier = ℤ;
  neutral = pos 0;
  plus = ◌+ℤ◌;
  inverse = neg_ℤ;
  le = ◌≤ℤ◌;
  assoc = λ x y z. omega (arith, ints);
  comm = λ x y. omega (arith, ints);
  plus_neutral = λ x. omega (arith, ints);
  plus_inverse = λ x. omega (arith, ints);
  le_refl = λ x. omega (arith, ints);
  le_antisym = λ x y p q. omega (arith, ints);
  le_trans = λ x y z p q. omega (arith, ints);
  le_total = λ x y. total_by x y (int_lt y x) refl;
  le_plus = λ x y z p. omega (arith, ints);
}

abbrev pub Pair : Type 0
Pair = ℤ × ℤ

abbrev pub pair_plus : Pair → Pair → Pair
pair_plus x y = (x.0 +ℤ y.0, x.1 +ℤ y.1)

abbrev pub pair_inverse : Pair → Pair
pair_inverse x = (neg_ℤ x.0, neg_ℤ x.1)

-- the first part decides, and the second where the first parts are equal
abbrev pub pair_le : Pair → Pair → Type 0
pair_le x y = (x.0 <ℤ y.0) ⊎ ((x.0 ≡ y.0) × (x.1 ≤ℤ y.1))

pub both : (x y : Pair) → x.0 ≡ y.0 → x.1 ≡ y.1 → x ≡ y
both x y p q = ap (λ a. (a, x.1)) p ∙ ap (λ b. (y.0, b)) q

pub pair_antisym : (x y : Pair) → pair_le x y → pair_le y x → x ≡ y
pair_antisym x y (inl p) (inl q) = both x y (omega (arith, ints)) (omega (arith, ints))
pair_antisym x y (inl p) (inr q) = both x y (omega (arith, ints)) (omega (arith, ints))
pair_antisym x y (inr p) (inl q) = both x y (omega (arith, ints)) (omega (arith, ints))
pair_antisym x y (inr p) (inr q) = both x y (omega (arith, ints)) (omega (arith, ints))

pub pair_trans : (x y z : Pair) → pair_le x y → pair_le y z → pair_le x z
pair_trans x y z (inl p) (inl q) = inl (omega (arith, ints))
pair_trans x y z (inl p) (inr q) = inl (omega (arith, ints))
pair_trans x y z (inr p) (inl q) = inl (omega (arith, ints))
pair_trans x y z (inr p) (inr q) = inr (omega (arith, ints), omega (arith, ints))

pair_not : (x y : Pair) → y.0 <ℤ x.0 → pair_le x y → ⊥
pair_not x y h (inl p) = omega (arith, ints)
pair_not x y h (inr p) = omega (arith, ints)

pair_not_second : (x y : Pair) → y.0 ≡ x.0 → y.1 <ℤ x.1 → pair_le x y → ⊥
pair_not_second x y e h (inl p) = omega (arith, ints)
pair_not_second x y e h (inr p) = omega (arith, ints)

abbrev pub Decided : Pair → Pair → Type 0
Decided x y = pair_le x y ⊎ (pair_le y x × (pair_le x y → ⊥))

pub first_above : (x y : Pair) → y.0 <ℤ x.0 → pair_le y x × (pair_le x y → ⊥)
first_above x y h = (inl h, pair_not x y h)

pub equal_firsts : (x y : Pair) → y.0 ≤ℤ x.0 → x.0 ≤ℤ y.0 → x.0 ≡ y.0
equal_firsts x y h k = omega (arith, ints)

pub second_above : (x y : Pair) → x.0 ≡ y.0 → y.1 <ℤ x.1 → pair_le y x × (pair_le x y → ⊥)
second_above x y e h = (inr (omega (arith, ints), omega (arith, ints)), pair_not_second x y (omega (arith, ints)) h)

-- decided by the second parts, where the first are equal
abbrev pub second_by : (x y : Pair) → x.0 ≡ y.0 → (t : Bool) → int_lt y.1 x.1 ≡ t → Decided x y
second_by x y same true e = inr (second_above x y same (is_below y.1 x.1 e))
second_by x y same false e = inl (inr (same, is_not_below y.1 x.1 e))

abbrev pub first_by : (x y : Pair) → y.0 ≤ℤ x.0 → (t : Bool) → int_lt y.0 x.0 ≡ t → Decided x y
first_by x y h true e = inr (first_above x y (is_below y.0 x.0 e))
first_by x y h false e = second_by x y (equal_firsts x y h (is_not_below y.0 x.0 e)) (int_lt y.1 x.1) refl

abbrev pub pair_by : (x y : Pair) (t : Bool) → int_lt x.0 y.0 ≡ t → Decided x y
pair_by x y true e = inl (inl (is_below x.0 y.0 e))
pair_by x y false e = first_by x y (is_not_below x.0 y.0 e) (int_lt y.0 x.0) refl

pub pair_shift : (x y z : Pair) → pair_le x y → pair_le (pair_plus x z) (pair_plus y z)
pair_shift x y z (inl p) = inl (omega (arith, ints))
pair_shift x y z (inr p) = inr (omega (arith, ints), omega (arith, ints))

abbrev pub pairs : OrderedGroup
pairs = record {
  carrier = Pair;
  neutral = (pos 0, pos 0);
  plus = pair_plus;
  inverse = pair_inverse;
  le = pair_le;
  assoc = λ x y z. both _ _ (omega (arith, ints)) (omega (arith, ints));
  comm = λ x y. both _ _ (omega (arith, ints)) (omega (arith, ints));
  plus_neutral = λ x. both _ _ (omega (arith, ints)) (omega (arith, ints));
  plus_inverse = λ x. both _ _ (omega (arith, ints)) (omega (arith, ints));
  le_refl = λ x. inr (refl, omega (arith, ints));
  le_antisym = pair_antisym;
  le_trans = pair_trans;
  le_total = λ x y. pair_by x y (int_lt x.0 y.0) refl;
  le_plus = pair_shift;
}
