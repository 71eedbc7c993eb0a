-- A square of cells, new or after a call. Assumes nothing.
use Rattle.std.proofs.Common.{◌≡◌, ℕ, ◌+◌, ◌-◌, ◌*◌, ◌/◌, ◌%◌, ◌<◌, ◌≤◌, true, false, cond, not, ◌&&◌, eqb, ltb, leb, ◌≢◌, List, length, set, is_some, Some, None, Ok, Err, Option, Result, sym, refl, ap, ◌∙◌, inl, inr, arith, length-set, get_or-set_other, get_or-set_same}
use Rattle.std.proofs.lemmas.Nat.{mul-add-lt, div-mul-add, mod-mul-add}
use Rattle.std.proofs.lemmas.Bool.{cond-true, cond-false, and_from, and_parts, and_right, cases_Bool, lt-ltb, ltb-true, leb-true, eq-eqb, eqb-true, ne_eqb, not_from_false, not_from_true}
use Rattle.measure.specs.declared.Amount.{Amount}
use Rattle.store.specs.declared.Refusal.{Refusal}
use Rattle.store.specs.declared.Refusal.TheVariants.{BadSize}
use Rattle.store.specs.Meaning.{StoreMeaning, same_pair, set_tie, put_done, clear_done}
use Rattle.store.proofs.Calls.{same_meaning, Writable, put_free}
use Rattle.store.proofs.Records.{by_pair}
use Rattle.matrix.specs.Matrix.{cell_at, Emptied, cell_tie, tie_count, matrix_meaning, MatrixSound, size_answer}
use Rattle.matrix.proofs.Counts.{count_same, count_more, count_most, count_none}

-- ---- a pair's cell
module _ (n : ℕ) (cells : List (Option Amount)) (a b i : ℕ) (size : length cells ≡ n * n) (may : Writable (matrix_meaning n cells) a b) (at_i : i ≡ a * n + b) where
  is_pair : (ltb a n && ltb b n && not (eqb a b)) ≡ true
  is_pair = and_from _ _ (and_from _ _ (lt-ltb a n may.start) (lt-ltb b n may.end)) (not_from_false _ (ne_eqb a b may.apart))

  pub tie_there : (cs : List (Option Amount)) → cell_tie n cs a b ≡ cell_at cs i
  tie_there cs = cond-true _ _ None is_pair ∙ ap (cell_at cs) (sym at_i)

  within : i < length cells
  within = omega (arith, size, mul-add-lt a n b n may.start may.end)

  -- the pair x, y of the same cell
  module _ (x y : ℕ) (y-in : y < n) (same : x * n + y ≡ i) where
    same_start : x ≡ a
    same_start = sym (div-mul-add x n y y-in) ∙ ap (λ k. k / n) (same ∙ at_i) ∙ div-mul-add a n b may.end

    same_end : y ≡ b
    same_end = sym (mod-mul-add x n y y-in) ∙ ap (λ k. k % n) (same ∙ at_i) ∙ mod-mul-add a n b may.end

  -- o is written
  module _ (o : Option Amount) where
    abbrev written : List (Option Amount)
    written = set cells i o

    pub tie_here : cell_tie n written a b ≡ o
    tie_here = tie_there written ∙ get_or-set_same cells i o None within

    pub tie_else : (x y : ℕ) → (x ≡ a → y ≡ b → ⊥) → cell_tie n written x y ≡ cell_tie n cells x y
    tie_else x y ne = elim (cases_Bool (ltb x n && ltb y n && not (eqb x y))) [
      | inl e ↦
          let y-in = ltb-true y n (and_parts (ltb x n) _ (and_parts _ _ e).0).1 in
          let away : x * n + y ≢ i = λ s. ne (same_start x y y-in s) (same_end x y y-in s) in
          ap (λ t. cond (ltb x n && ltb y n && not (eqb x y)) t None) (get_or-set_other cells i (x * n + y) o None away)
      | inr e ↦ cond-false _ (cell_at written (x * n + y)) None e ∙ sym (cond-false _ (cell_at cells (x * n + y)) None e)
    ]

    pub tie_set : (x y : ℕ) → cell_tie n written x y ≡ set_tie (cell_tie n cells) a b o x y
    tie_set = by_pair (cell_tie n cells) (cell_tie n written) a b o tie_here tie_else

-- ---- a sound square, in which one cell is written
module _ (n ties : ℕ) (cells : List (Option Amount)) (a b i : ℕ) (ok : MatrixSound n ties cells) (may : Writable (matrix_meaning n cells) a b) (at_i : i ≡ a * n + b) where
  abbrev m : StoreMeaning
  m = matrix_meaning n cells

  shown : (o : Option Amount) → cell_at cells i ≡ o → cell_tie n cells a b ≡ o
  shown o e = tie_there n cells a b i ok.size may at_i cells ∙ e

  -- a sound square again, if the ties are counted
  sound_with : (count : ℕ) (o : Option Amount) → count ≡ tie_count n (cell_tie n (set cells i o)) → MatrixSound n count (set cells i o)
  sound_with count o counted = record {
    low = ok.low;
    high = ok.high;
    size = length-set cells i o ∙ ok.size;
    within = omega (arith, most);
    counted = counted;
  }
    where
      most : tie_count n (cell_tie n (set cells i o)) ≤ n * (n - 1)
      most = count_most n _ (λ x. cond-false _ _ None (and_right (ltb x n && ltb x n) _ (not_from_true _ (eq-eqb x x refl))))

  -- ---- in place of a tie
  module _ (v w : Amount) (there : cell_at cells i ≡ Some v) where
    same_count : tie_count n (cell_tie n cells) ≡ tie_count n (cell_tie n (set cells i (Some w)))
    same_count = count_same n _ _ (λ x y. sym (ap is_some (tie_set n cells a b i ok.size may at_i (Some w) x y) ∙ still x y))
      where
        still : (x y : ℕ) → is_some (set_tie (cell_tie n cells) a b (Some w) x y) ≡ is_some (cell_tie n cells x y)
        still x y = elim (cases_Bool (same_pair a b x y)) [
          | inl e ↦
              let p = and_parts _ _ e in
              ap is_some (cond-true _ (Some w) _ e) ∙ sym (ap is_some (ap (λ k. cell_tie n cells k y) (eqb-true x a p.0) ∙ ap (cell_tie n cells a) (eqb-true y b p.1) ∙ shown (Some v) there))
          | inr e ↦ ap is_some (cond-false _ (Some w) _ e)
        ]

    pub over_after : matrix_meaning n (set cells i (Some w)) ≡ put_done m a b w
    over_after = same_meaning (matrix_meaning n (set cells i (Some w))) (put_done m a b w) refl (λ _. refl)
        (tie_set n cells a b i ok.size may at_i (Some w))
        (let c = same_count in let f : n * (n - 1) - tie_count n (cell_tie n (set cells i (Some w))) ≡ n * (n - 1) - tie_count n (cell_tie n cells) = omega arith in f ∙ sym (put_free m a b w (Some v) (shown (Some v) there)))

    pub over_sound : MatrixSound n ties (set cells i (Some w))
    over_sound = sound_with ties (Some w) (ok.counted ∙ same_count)

  -- ---- where there is no tie
  module _ (w : Amount) (there : cell_at cells i ≡ None) where
    one_more : tie_count n (cell_tie n (set cells i (Some w))) ≡ tie_count n (cell_tie n cells) + 1
    one_more = count_more n a b (cell_tie n cells) (cell_tie n (set cells i (Some w))) may.start may.end (ap is_some (shown None there)) (ap is_some (tie_here n cells a b i ok.size may at_i (Some w))) (tie_else n cells a b i ok.size may at_i (Some w))

    pub new_sound : MatrixSound n (ties + 1) (set cells i (Some w))
    new_sound = sound_with (ties + 1) (Some w) (omega (arith, one_more, ok.counted))

    pub new_after : matrix_meaning n (set cells i (Some w)) ≡ put_done m a b w
    new_after = same_meaning (matrix_meaning n (set cells i (Some w))) (put_done m a b w) refl (λ _. refl)
        (tie_set n cells a b i ok.size may at_i (Some w))
        (let c = one_more in let f : n * (n - 1) - tie_count n (cell_tie n (set cells i (Some w))) ≡ n * (n - 1) - tie_count n (cell_tie n cells) - 1 = omega arith in f ∙ sym (put_free m a b w None (shown None there)))

  -- ---- a tie is taken away
  module _ (tied : is_some (cell_tie n cells a b) ≡ true) where
    one_less : tie_count n (cell_tie n cells) ≡ tie_count n (cell_tie n (set cells i None)) + 1
    one_less = count_more n a b (cell_tie n (set cells i None)) (cell_tie n cells) may.start may.end (ap is_some (tie_here n cells a b i ok.size may at_i None)) tied (λ x y ne. sym (tie_else n cells a b i ok.size may at_i None x y ne))

    pub some_ties : 1 ≤ ties
    some_ties = omega (arith, one_less, ok.counted)

    pub gone_sound : MatrixSound n (ties - 1) (set cells i None)
    gone_sound = sound_with (ties - 1) None (omega (arith, one_less, ok.counted))

    pub gone_after : matrix_meaning n (set cells i None) ≡ clear_done m a b
    gone_after = same_meaning (matrix_meaning n (set cells i None)) (clear_done m a b) refl (λ _. refl)
        (tie_set n cells a b i ok.size may at_i None)
        (let c = one_less in omega (arith, ok.within, ok.counted))

pub some_of : (o : Option Amount) → is_some o ≡ true → (v : Amount) × (o ≡ Some v)
some_of (Some v) e = (v, refl)
some_of None e = absurd (let z : ◌≡◌ {A = ℕ} 0 1 = cc in omega arith)

pub none_of : (o : Option Amount) → is_some o ≡ false → o ≡ None
none_of (Some v) e = absurd (let z : ◌≡◌ {A = ℕ} 0 1 = cc in omega arith)
none_of None e = refl

-- ---- a square with no tie
pub size_passed : (n cells : ℕ) → size_answer n cells ≡ Ok tt → (2 ≤ n) × (n ≤ 64) × (cells ≡ n * n)
size_passed n cells e = elim (cases_Bool (leb 2 n && leb n 64 && eqb cells (n * n))) [
  | inl t ↦ let p = and_parts _ _ t in let q = and_parts _ _ p.0 in (leb-true 2 n q.0, leb-true n 64 q.1, eqb-true cells (n * n) p.1)
  | inr f ↦ absurd (let z : ◌≡◌ {A = Result Unit Refusal} (Err BadSize) (Ok tt) = sym (cond-false _ (Ok tt) (Err BadSize) f) ∙ e in let y : ◌≡◌ {A = ℕ} 0 1 = cc in omega arith)
]

module _ (n : ℕ) (cells : List (Option Amount)) (fits : size_answer n (length cells) ≡ Ok tt) (none : Emptied cells) where
  no_tie : (x y : ℕ) → cell_tie n cells x y ≡ None
  no_tie x y = elim (cases_Bool (ltb x n && ltb y n && not (eqb x y))) [
    | inl e ↦
        let p = and_parts (ltb x n) _ (and_parts _ _ e).0 in
        let size = size_passed n (length cells) fits in
        cond-true _ _ None e ∙ none (x * n + y) (omega (arith, mul-add-lt x n y n (ltb-true x n p.0) (ltb-true y n p.1)))
    | inr e ↦ cond-false _ (cell_at cells (x * n + y)) None e
  ]

  pub blank_sound : MatrixSound n 0 cells
  blank_sound =
      let size = size_passed n (length cells) fits in
      record { low = size.0; high = size.1; size = size.2; within = omega arith; counted = sym (count_none n _ no_tie) }
