-- Names and numbers of a line, and what it is to read a spelling back. Assumes nothing.
use Rattle.std.specs.Prelude.{◌≡◌, ℕ, ◌<◌, ◌≤◌, List, length, ℤ, Option, MatchOption, ◌≢◌, slice_index, unsigned_abs}

-- `r` is the valid value that `spell` writes as `bs`; where it is none, no valid value is written so
abbrev pub ReadsBack : {X : Type 0} → (X → List ℕ) → (X → Type 0) → List ℕ → Option X → Type 0
ReadsBack {X} spell Valid bs r = MatchOption r ((x : X) → Valid x → spell x ≢ bs) (λ x. Valid x × (spell x ≡ bs))

-- neither the total depth nor the millimetres of a tie pass 20,000,000, either way
abbrev pub Bounded : ℤ → Type 0
Bounded z = unsigned_abs z ≤ 20000000

-- no byte is `c`
abbrev pub Without : ℕ → List ℕ → Type 0
Without c bs = (i : ℕ) → i < length bs → slice_index bs i ≢ c

abbrev pub Spaceless : List ℕ → Type 0
Spaceless bs = Without 32 bs

-- decimal digits with no zero in front of another
abbrev pub Numeral : List ℕ → Type 0
Numeral bs = (1 ≤ length bs) × (slice_index bs 0 ≡ 48 → length bs ≡ 1) × ((i : ℕ) → i < length bs → (48 ≤ slice_index bs i) × (slice_index bs i ≤ 57))

-- 1 to 16 bytes from 33 to 126
abbrev pub Name : List ℕ → Type 0
Name bs = (1 ≤ length bs) × (length bs ≤ 16) × ((i : ℕ) → i < length bs → (33 ≤ slice_index bs i) × (slice_index bs i ≤ 126))
