-- How large a whole number is. Assumes nothing.
use Rattle.std.specs.Prelude.{◌≡◌, ℕ, Bool, ◌&&◌, ◌⊎◌, ℤ, pos, neg_ℤ, ◌≤ℤ◌, ◌<ℤ◌, int_le}

-- z is from -n to n
abbrev pub UpTo : ℕ → ℤ → Type 0
UpTo n z = (neg_ℤ (pos n) ≤ℤ z) × (z ≤ℤ pos n)

-- the same as a test
abbrev pub up_to : ℕ → ℤ → Bool
up_to n z = int_le (neg_ℤ (pos n)) z && int_le z (pos n)

-- r is z, unless z is below -n or above n
abbrev pub Exact : ℕ → ℤ → ℤ → Type 0
Exact n z r = (r ≡ z) ⊎ ((z <ℤ neg_ℤ (pos n)) ⊎ (pos n <ℤ z))
