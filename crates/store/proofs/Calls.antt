-- What a call answers and leaves, by the meaning of any store. Assumes nothing.
use Rattle.std.proofs.Common.{◌≡◌, ℕ, ◌-◌, ◌<◌, Bool, true, false, cond, ◌&&◌, ◌||◌, eqb, ltb, ◌≢◌, is_some, Some, None, Ok, Err, Option, Result, sym, ap, ◌∙◌, inl, inr, arith}
use Rattle.std.specs.Option.{ok_or}
use Rattle.std.proofs.lemmas.Bool.{cases_Bool, cond-true, cond-false, and_from, and_parts, or_from, or_parts, lt-ltb, ltb-true, eqb-false, ne_eqb}
use Rattle.measure.specs.declared.Amount.{Amount}
use Rattle.store.specs.declared.Refusal.{Refusal}
use Rattle.store.specs.declared.Refusal.TheVariants.{UnknownMarker, SameMarker, ClosedMarker, PairEmpty, StoreFull}
use Rattle.store.specs.Meaning.{StoreMeaning, pair_answer, put_answer, put_after, put_done, is_done, clear_answer, clear_after, clear_done}

-- two meanings with the same parts
pub same_meaning : (m o : StoreMeaning) → m.count ≡ o.count → ((k : ℕ) → m.closed k ≡ o.closed k) → ((x y : ℕ) → m.tie x y ≡ o.tie x y) → m.free ≡ o.free → m ≡ o
same_meaning m o p q r s = λ i. record { count = p i; closed = λ k. q k i; tie = λ x y. r x y i; free = s i }

-- a pair that may be written
pub record Writable (m : StoreMeaning) (a b : ℕ) : Type 0 where
  pub start : a < m.count
  pub end : b < m.count
  pub apart : a ≢ b
  pub start_open : m.closed a ≡ false
  pub end_open : m.closed b ≡ false

-- the check of the pair has passed
pub passed : (m : StoreMeaning) (a b : ℕ) → pair_answer m a b (Ok tt) ≡ Ok tt → Writable m a b
passed m a b e = elim (cases_Bool (ltb a m.count && ltb b m.count)) [
  | inl t ↦
      let known = sym (cond-true _ _ (Err UnknownMarker) t) ∙ e in
      elim (cases_Bool (eqb a b)) [
        | inl s ↦ absurd (not_done _ (sym (cond-true _ (Err SameMarker) _ s) ∙ known))
        | inr s ↦
            let two = sym (cond-false _ (Err SameMarker) _ s) ∙ known in
            elim (cases_Bool (m.closed a || m.closed b)) [
              | inl k ↦ absurd (not_done _ (sym (cond-true _ (Err ClosedMarker) (Ok tt) k) ∙ two))
              | inr k ↦ record {
                start = ltb-true a _ (and_parts _ _ t).0;
                end = ltb-true b _ (and_parts _ _ t).1;
                apart = eqb-false a b s;
                start_open = (or_parts _ _ k).0;
                end_open = (or_parts _ _ k).1;
              }
            ]
      ]
  | inr f ↦ absurd (not_done _ (sym (cond-false _ _ (Err UnknownMarker) f) ∙ e))
]
  where
    not_done : (why : Refusal) → ◌≡◌ {A = Result Unit Refusal} (Err why) (Ok tt) → ⊥
    not_done why h = let z : ◌≡◌ {A = ℕ} 0 1 = cc in omega arith

-- the check of the pair has not passed
pub refused : (m : StoreMeaning) (a b : ℕ) (why : Refusal) (r : Result Unit Refusal) → pair_answer m a b (Ok tt) ≡ Err why → pair_answer m a b r ≡ Err why
refused m a b why r e = by_tests (ltb a m.count && ltb b m.count) (eqb a b) (m.closed a || m.closed b) e
  where
    tested : Bool → Bool → Bool → Result Unit Refusal → Result Unit Refusal
    tested known same closed o = cond known (cond same (Err SameMarker) (cond closed (Err ClosedMarker) o)) (Err UnknownMarker)

    by_tests : (known same closed : Bool) → tested known same closed (Ok tt) ≡ Err why → tested known same closed r ≡ Err why
    by_tests false same closed h = h
    by_tests true true closed h = h
    by_tests true false true h = h
    by_tests true false false h = absurd (let z : ◌≡◌ {A = ℕ} 0 1 = cc in omega arith)

pub writable_answer : (m : StoreMeaning) (a b : ℕ) (r : Result Unit Refusal) → Writable m a b → pair_answer m a b r ≡ r
writable_answer m a b r o =
    cond-true _ _ (Err UnknownMarker) (and_from _ _ (lt-ltb a _ o.start) (lt-ltb b _ o.end))
    ∙ cond-false _ (Err SameMarker) _ (ne_eqb a b o.apart)
    ∙ cond-false _ (Err ClosedMarker) r (or_from _ _ o.start_open o.end_open)

module _ (m : StoreMeaning) (a b : ℕ) (o : Writable m a b) where
  abbrev unless_full : Result Unit Refusal
  unless_full = cond (eqb m.free 0) (Err StoreFull) (Ok tt)

  put_by : (t : Option Amount) → m.tie a b ≡ t → put_answer m a b ≡ cond (is_some t) (Ok tt) unless_full
  put_by t e = writable_answer m a b _ o ∙ ap (λ (t : Option Amount). cond (is_some t) (Ok tt) unless_full) e

  pub put_over : (v : Amount) → m.tie a b ≡ Some v → put_answer m a b ≡ Ok tt
  put_over v e = put_by (Some v) e

  pub put_new : m.tie a b ≡ None → 0 < m.free → put_answer m a b ≡ Ok tt
  put_new e r = put_by None e ∙ cond-false _ (Err StoreFull) (Ok tt) (ne_eqb m.free 0 (omega arith))

  pub clear_some : (v : Amount) → m.tie a b ≡ Some v → clear_answer m a b ≡ Ok tt
  clear_some v e = writable_answer m a b _ o ∙ ap (λ (t : Option Amount). cond (is_some t) (Ok tt) (Err PairEmpty)) e

-- ---- what a call leaves, by its answer
module _ (m : StoreMeaning) (a b : ℕ) where
  pub put_accepted : (w : Amount) → put_answer m a b ≡ Ok tt → put_after m a b w ≡ put_done m a b w
  put_accepted w e = ap (λ r. cond (is_done r) (put_done m a b w) m) e

  pub clear_accepted : clear_answer m a b ≡ Ok tt → clear_after m a b ≡ clear_done m a b
  clear_accepted e = ap (λ r. cond (is_done r) (clear_done m a b) m) e

  pub put_free : (w : Amount) (t : Option Amount) → m.tie a b ≡ t → (put_done m a b w).free ≡ cond (is_some t) m.free (m.free - 1)
  put_free w t e = ap (λ (t : Option Amount). cond (is_some t) m.free (m.free - 1)) e

-- a value that was there
pub was_some : {T E : Type 0} (o : Option T) (e : E) (x : T) → ok_or o e ≡ Ok x → o ≡ Some x
was_some None e x h = absurd (let z : ◌≡◌ {A = ℕ} 0 1 = cc in omega arith)
was_some (Some y) e x h = cc
