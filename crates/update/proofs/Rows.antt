-- Rows and flags after one write. Assumes nothing.
use Rattle.std.proofs.Common.{◌≡◌, ℕ, zero, suc, ◌<◌, Bool, true, false, List, length, get_or, set, replicate, sym, refl, ap, ◌∙◌, get_or-set_other, get_or-set_same}
use native.Mathlib.Decide.{ℕ_discrete}
use Rattle.graph.specs.Settling.{Settles}
use Rattle.table.specs.declared.row.Row.{Row}
use Rattle.table.specs.Climb.{deep, no_row, up as parents_of}
use Rattle.update.specs.Reading.{flag}

row_same : (rows : List Row) (i : ℕ) (r : Row) → i < length rows → get_or (set rows i r) i no_row ≡ r
row_same rows i r h = rw get_or-set_same

row_other : (rows : List Row) (i z : ℕ) (r : Row) → ¬ (z ≡ i) → get_or (set rows i r) z no_row ≡ get_or rows z no_row
row_other rows i z r ne = rw get_or-set_other

pub deep_same : (rows : List Row) (i : ℕ) (r : Row) → i < length rows → deep (set rows i r) i ≡ r.depth
deep_same rows i r h = ap (λ (y : Row). y.depth) (row_same rows i r h)

pub deep_other : (rows : List Row) (i z : ℕ) (r : Row) → ¬ (z ≡ i) → deep (set rows i r) z ≡ deep rows z
deep_other rows i z r ne = ap (λ (y : Row). y.depth) (row_other rows i z r ne)

pub up_same : (rows : List Row) (i : ℕ) (r : Row) → i < length rows → parents_of (set rows i r) i ≡ r.parent
up_same rows i r h = ap (λ (y : Row). y.parent) (row_same rows i r h)

pub up_other : (rows : List Row) (i z : ℕ) (r : Row) → ¬ (z ≡ i) → parents_of (set rows i r) z ≡ parents_of rows z
up_other rows i z r ne = ap (λ (y : Row). y.parent) (row_other rows i z r ne)

pub flag_same : (xs : List Bool) (y : ℕ) → y < length xs → flag (set xs y true) y ≡ true
flag_same xs y h = rw get_or-set_same

pub flag_other : (xs : List Bool) (y z : ℕ) (v : Bool) → ¬ (z ≡ y) → flag (set xs y v) z ≡ flag xs z
flag_other xs y z v ne = rw get_or-set_other

pub settles_set : (xs : List Bool) (y : ℕ) → y < length xs → Settles (flag xs) y (flag (set xs y true))
settles_set xs y h = record { at = flag_same xs y h; other = λ z ne. flag_other xs y z true ne }

pub no_flag : (k z : ℕ) → flag (replicate k false) z ≡ false
no_flag zero z = refl
no_flag (suc k) zero = refl
no_flag (suc k) (suc z) = no_flag k z

-- a write of a parent leaves the depths
pub deep_kept : (rows : List Row) (i y : ℕ) → i < length rows → (z : ℕ) → deep (set rows i (record { depth = deep rows i; parent = y })) z ≡ deep rows z
deep_kept rows i y h z = by (ℕ_discrete z i)
  where
    by : Dec (z ≡ i) → deep (set rows i (record { depth = deep rows i; parent = y })) z ≡ deep rows z
    by (yes e) = ap (deep (set rows i (record { depth = deep rows i; parent = y }))) e ∙ deep_same rows i (record { depth = deep rows i; parent = y }) h ∙ ap (deep rows) (sym e)
    by (no ne) = deep_other rows i z (record { depth = deep rows i; parent = y }) ne
