-- Amounts that are added and turned round part by part. Assumes nothing.
use Rattle.std.specs.Prelude.{◌≡◌, ℕ, ◌+◌, ◌*◌, ◌≤◌}
use Rattle.measure.specs.Bounds.{UpTo}
use Rattle.measure.specs.Integers.{Pair, pair_plus, pair_inverse}
use Rattle.measure.specs.declared.Amount.{Amount}

abbrev pub Within : ℕ → Amount → Type 0
Within k a = UpTo (k * 20000000) a.mm × UpTo k a.marks

abbrev pub parts : Amount → Pair
parts a = (a.mm, a.marks)

abbrev pub Added : Amount → Amount → Amount → Type 0
Added a b r = (i j : ℕ) → i + j ≤ 256 → Within i a → Within j b → Within (i + j) r × (parts r ≡ pair_plus (parts a) (parts b))

abbrev pub Negated : Amount → Amount → Type 0
Negated a r = (k : ℕ) → k ≤ 256 → Within k a → Within k r × (parts r ≡ pair_inverse (parts a))
