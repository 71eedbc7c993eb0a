-- The first records of a table, each of another pair: what a write leaves. Assumes nothing.
use Rattle.std.proofs.Common.{◌≡◌, ℕ, zero, suc, ◌+◌, ◌<◌, true, ◌≢◌, ◌⊎◌, ltb, ◌≤◌, List, length, take, get_or, position, Some, None, Option, sym, refl, ap, ◌∙◌, inl, inr, arith}
use Rattle.std.proofs.lemmas.Bool.{eqb-true, eq-eqb, and_parts, and_from, cases_Bool, cond-true, cond-false, cases_eq, both_ways, ltb-false}
use Rattle.std.specs.List.{position_or_len}
use Rattle.std.proofs.lemmas.List.{get_or-take, length-take-le}
use Rattle.std.proofs.lemmas.List.Quantifiers.{position-Some}
use Rattle.std.proofs.lemmas.List.Sums.{fails_before_first}
use Rattle.measure.specs.declared.Amount.{Amount}
use Rattle.store.specs.declared.TieRecord.{TieRecord}
use Rattle.store.specs.Meaning.{same_pair, set_tie}
use Rattle.store.specs.List.{no_record, Pair, is_pair, at, amount_in, ListSound, Placed, Ties}
use Rattle.store.specs.Laws.{amount_none}

pub pair_true : (a b : ℕ) (t : TieRecord) → is_pair a b t ≡ true → Pair a b t
pair_true a b t e = (eqb-true _ _ (and_parts _ _ e).0, eqb-true _ _ (and_parts _ _ e).1)

pub pair_test : (a b : ℕ) (t : TieRecord) → Pair a b t → is_pair a b t ≡ true
pair_test a b t p = and_from _ _ (eq-eqb _ _ p.0) (eq-eqb _ _ p.1)

abbrev pub Distinct : ℕ → (ℕ → TieRecord) → Type 0
Distinct count f = (j k : ℕ) → j < count → k < count → (f j).start ≡ (f k).start → (f j).end ≡ (f k).end → j ≡ k

pub amount_here : (f : ℕ → TieRecord) (count k a b : ℕ) → Distinct count f → k < count → Pair a b (f k) → amount_in f count a b ≡ Some (f k).amount
amount_here f zero k a b d l p = absurd (omega arith)
amount_here f (suc c) k a b d l p =
    elim (cases_Bool (is_pair a b (f c))) [
      | inl e ↦
          let q = pair_true a b (f c) e in
          let same : c ≡ k = d c k (omega arith) l (q.0 ∙ sym p.0) (q.1 ∙ sym p.1) in
          cond-true _ _ (amount_in f c a b) e ∙ ap (λ n. Some (f n).amount) same
      | inr e ↦
          let other : c ≢ k = λ s. both_ways _ e (pair_test a b (f c) (ap (λ n. (f n).start) s ∙ p.0, ap (λ n. (f n).end) s ∙ p.1)) in
          cond-false _ (Some (f c).amount) _ e ∙ amount_here f c k a b (λ i j x y. d i j (omega arith) (omega arith)) (omega arith) p
    ]

-- whether a pair is there
pub there : (f : ℕ → TieRecord) (count a b : ℕ) → ((k : ℕ) × (k < count) × Pair a b (f k)) ⊎ ((k : ℕ) → k < count → Pair a b (f k) → ⊥)
there f zero a b = inr (λ k l. absurd (omega arith))
there f (suc c) a b =
    elim (cases_Bool (is_pair a b (f c))) [
      | inl e ↦ inl (c, omega arith, pair_true a b (f c) e)
      | inr e ↦
          elim (there f c a b) [
            | inl h ↦ inl (h.0, omega arith, h.2)
            | inr h ↦ inr (λ k l p. elim (cases_eq k c) [
              | inl s ↦ both_ways _ e (pair_test a b (f c) (ap (λ n. (f n).start) (sym s) ∙ p.0, ap (λ n. (f n).end) (sym s) ∙ p.1))
              | inr s ↦ h k (omega arith) p
            ])
          ]
    ]

-- two tables with the same records of a pair
pub agree : (f g : ℕ → TieRecord) (cf cg x y : ℕ) → Distinct cg g
    → ((k : ℕ) → k < cf → Pair x y (f k) → (j : ℕ) × (j < cg) × (g j ≡ f k))
    → ((j : ℕ) → j < cg → Pair x y (g j) → (k : ℕ) × (k < cf) × (g j ≡ f k))
    → Distinct cf f
    → amount_in g cg x y ≡ amount_in f cf x y
agree f g cf cg x y dg to from df =
    elim (there f cf x y) [
      | inl h ↦
          let j = to h.0 h.1 h.2 in
          amount_here g cg j.0 x y dg j.1 (ap (λ t. t.start) j.2 ∙ h.2.0, ap (λ t. t.end) j.2 ∙ h.2.1)
          ∙ ap (λ t. Some t.amount) j.2 ∙ sym (amount_here f cf h.0 x y df h.1 h.2)
      | inr h ↦
          amount_none g cg x y (λ j l p. let k = from j l p in h k.0 k.1 (ap (λ t. t.start) (sym k.2) ∙ p.0, ap (λ t. t.end) (sym k.2) ∙ p.1))
          ∙ sym (amount_none f cf x y h)
    ]

-- a table after a write at the pair a, b, seen at each pair
pub by_pair : (t u : ℕ → ℕ → Option Amount) (a b : ℕ) (o : Option Amount) → u a b ≡ o → ((x y : ℕ) → (x ≡ a → y ≡ b → ⊥) → u x y ≡ t x y) → (x y : ℕ) → u x y ≡ set_tie t a b o x y
by_pair t u a b o here else x y =
    elim (cases_Bool (same_pair a b x y)) [
      | inl e ↦
          let p = and_parts _ _ e in
          ap (λ n. u n y) (eqb-true x a p.0) ∙ ap (u a) (eqb-true y b p.1) ∙ here ∙ sym (cond-true _ o (t x y) e)
      | inr e ↦ else x y (λ p q. both_ways _ e (and_from _ _ (eq-eqb x a p) (eq-eqb y b q))) ∙ sym (cond-false _ o (t x y) e)
    ]

abbrev with_amount : TieRecord → Amount → TieRecord
with_amount t w = record { start = t.start; end = t.end; amount = w }

-- ---- the amount of the record at i becomes w
module _ (f g : ℕ → TieRecord) (n count i a b : ℕ) (w : Amount) (ok : Ties n count f) (lt : i < count) (is : Pair a b (f i)) (at_i : g i ≡ with_amount (f i) w) (others : (k : ℕ) → k ≢ i → g k ≡ f k) where
  start_kept : (k : ℕ) → (g k).start ≡ (f k).start
  start_kept k = elim (cases_eq k i) [ inl e ↦ ap (λ m. (g m).start) e ∙ ap (λ t. t.start) at_i ∙ ap (λ m. (f m).start) (sym e) | inr e ↦ ap (λ t. t.start) (others k e) ]

  end_kept : (k : ℕ) → (g k).end ≡ (f k).end
  end_kept k = elim (cases_eq k i) [ inl e ↦ ap (λ m. (g m).end) e ∙ ap (λ t. t.end) at_i ∙ ap (λ m. (f m).end) (sym e) | inr e ↦ ap (λ t. t.end) (others k e) ]

  pub replaced_ties : Ties n count g
  replaced_ties = record {
    starts = λ k l. let e = start_kept k in omega (arith, ok.starts k l);
    ends = λ k l. let e = end_kept k in omega (arith, ok.ends k l);
    apart = λ k l e. ok.apart k l (sym (start_kept k) ∙ e ∙ end_kept k);
    distinct = λ j k p q x y. ok.distinct j k p q (sym (start_kept j) ∙ x ∙ start_kept k) (sym (end_kept j) ∙ y ∙ end_kept k);
  }

  pub replaced_amount : (x y : ℕ) → amount_in g count x y ≡ set_tie (amount_in f count) a b (Some w) x y
  replaced_amount = by_pair (amount_in f count) (amount_in g count) a b (Some w)
      (amount_here g count i a b replaced_ties.distinct lt (start_kept i ∙ is.0, end_kept i ∙ is.1) ∙ ap (λ t. Some t.amount) at_i)
      (λ x y ne.
      let away : (k : ℕ) → ((f k).start ≡ x) → ((f k).end ≡ y) → k ≢ i = λ k p q e. ne (sym p ∙ ap (λ m. (f m).start) e ∙ is.0) (sym q ∙ ap (λ m. (f m).end) e ∙ is.1) in
      agree f g count count x y replaced_ties.distinct
      (λ k l p. (k, l, others k (away k p.0 p.1)))
      (λ k l p. (k, l, others k (away k (sym (start_kept k) ∙ p.0) (sym (end_kept k) ∙ p.1))))
      ok.distinct)

-- ---- a record more
module _ (f g : ℕ → TieRecord) (n count a b : ℕ) (w : Amount) (ok : Ties n count f) (a_in : a < n) (b-in : b < n) (ab : a ≢ b) (new : (k : ℕ) → k < count → Pair a b (f k) → ⊥) (at_end : g count ≡ record { start = a; end = b; amount = w }) (others : (k : ℕ) → k < count → g k ≡ f k) where
  end_start : (k : ℕ) → k ≡ count → (g k).start ≡ a
  end_start k e = ap (λ m. (g m).start) e ∙ ap (λ t. t.start) at_end

  end_end : (k : ℕ) → k ≡ count → (g k).end ≡ b
  end_end k e = ap (λ m. (g m).end) e ∙ ap (λ t. t.end) at_end

  old_start : (k : ℕ) → k < count → (g k).start ≡ (f k).start
  old_start k l = ap (λ t. t.start) (others k l)

  old_end : (k : ℕ) → k < count → (g k).end ≡ (f k).end
  old_end k l = ap (λ t. t.end) (others k l)

  last_or : (k : ℕ) → k < count + 1 → (k ≡ count) ⊎ (k < count)
  last_or k l = elim (cases_eq k count) [ inl e ↦ inl e | inr e ↦ inr (omega arith) ]

  -- an older record is of another pair than the last
  no_old : (j k : ℕ) → j ≡ count → k < count → (g j).start ≡ (g k).start → (g j).end ≡ (g k).end → ⊥
  no_old j k e l p q = new k l (sym (old_start k l) ∙ sym p ∙ end_start j e, sym (old_end k l) ∙ sym q ∙ end_end j e)

  pub added_ties : Ties n (count + 1) g
  added_ties = record {
    starts = λ k l. elim (last_or k l) [ inl e ↦ let s = end_start k e in omega arith | inr h ↦ let s = old_start k h in omega (arith, ok.starts k h) ];
    ends = λ k l. elim (last_or k l) [ inl e ↦ let s = end_end k e in omega arith | inr h ↦ let s = old_end k h in omega (arith, ok.ends k h) ];
    apart = λ k l p. elim (last_or k l) [ inl e ↦ ab (sym (end_start k e) ∙ p ∙ end_end k e) | inr h ↦ ok.apart k h (sym (old_start k h) ∙ p ∙ old_end k h) ];
    distinct = λ j k lj lk p q. elim (last_or j lj) [
      | inl ej ↦ elim (last_or k lk) [ inl ek ↦ ej ∙ sym ek | inr hk ↦ absurd (no_old j k ej hk p q) ]
      | inr hj ↦ elim (last_or k lk) [
        | inl ek ↦ absurd (no_old k j ek hj (sym p) (sym q))
        | inr hk ↦ ok.distinct j k hj hk (sym (old_start j hj) ∙ p ∙ old_start k hk) (sym (old_end j hj) ∙ q ∙ old_end k hk)
      ]
    ];
  }

  pub added_amount : (x y : ℕ) → amount_in g (count + 1) x y ≡ set_tie (amount_in f count) a b (Some w) x y
  added_amount = by_pair (amount_in f count) (amount_in g (count + 1)) a b (Some w)
      (amount_here g (count + 1) count a b added_ties.distinct (omega arith) (end_start count refl, end_end count refl) ∙ ap (λ t. Some t.amount) at_end)
      (λ x y ne. agree f g count (count + 1) x y added_ties.distinct
      (λ k l p. (k, omega arith, others k l))
      (λ k l p. elim (last_or k l) [ inl e ↦ absurd (ne (sym p.0 ∙ end_start k e) (sym p.1 ∙ end_end k e)) | inr h ↦ (k, h, others k h) ])
      ok.distinct)

-- ---- the last record moves to i
module _ (f g : ℕ → TieRecord) (n last i a b : ℕ) (ok : Ties n (last + 1) f) (lt : i < last + 1) (is : Pair a b (f i)) (at_i : g i ≡ f last) (others : (k : ℕ) → k ≢ i → g k ≡ f k) where
  -- where the record at k was
  source : (k : ℕ) → k < last → (m : ℕ) × (m < last + 1) × (g k ≡ f m) × (m ≢ i) × ((k ≡ i → m ≡ last) × (k ≢ i → m ≡ k))
  source k l = elim (cases_eq k i) [
    | inl e ↦ (last, omega arith, ap g e ∙ at_i, omega arith, ((λ _. refl), (λ h. absurd (h e))))
    | inr e ↦ (k, omega arith, others k e, e, ((λ h. absurd (e h)), (λ _. refl)))
  ]

  pub removed_ties : Ties n last g
  removed_ties = record {
    starts = λ k l. let s = source k l in let e = ap (λ t. t.start) s.2 in omega (arith, ok.starts s.0 s.1);
    ends = λ k l. let s = source k l in let e = ap (λ t. t.end) s.2 in omega (arith, ok.ends s.0 s.1);
    apart = λ k l p. let s = source k l in ok.apart s.0 s.1 (sym (ap (λ t. t.start) s.2) ∙ p ∙ ap (λ t. t.end) s.2);
    distinct = λ j k lj lk p q.
        let s = source j lj in
        let t = source k lk in
        let e : s.0 ≡ t.0 = ok.distinct s.0 t.0 s.1 t.1 (sym (ap (λ r. r.start) s.2) ∙ p ∙ ap (λ r. r.start) t.2) (sym (ap (λ r. r.end) s.2) ∙ q ∙ ap (λ r. r.end) t.2) in
        elim (cases_eq j i) [
          | inl ej ↦ elim (cases_eq k i) [ inl ek ↦ ej ∙ sym ek | inr nk ↦ absurd (omega (arith, s.4.0 ej, t.4.1 nk)) ]
          | inr nj ↦ elim (cases_eq k i) [ inl ek ↦ absurd (omega (arith, s.4.1 nj, t.4.0 ek)) | inr nk ↦ omega (arith, s.4.1 nj, t.4.1 nk) ]
        ];
  }

  pub removed_amount : (x y : ℕ) → amount_in g last x y ≡ set_tie (amount_in f (last + 1)) a b None x y
  removed_amount = by_pair (amount_in f (last + 1)) (amount_in g last) a b None
      (amount_none g last a b (λ k l p.
      let s = source k l in
      s.3 (ok.distinct s.0 i s.1 lt (sym (ap (λ r. r.start) s.2) ∙ p.0 ∙ sym is.0) (sym (ap (λ r. r.end) s.2) ∙ p.1 ∙ sym is.1))))
      (λ x y ne. agree f g (last + 1) last x y removed_ties.distinct
      (λ k l p. elim (cases_eq k last) [
        | inl e ↦ (i, kept_place k x y ne e p, at_i ∙ ap f (sym e))
        | inr h ↦ (k, omega arith, others k (λ e. ne (sym p.0 ∙ ap (λ m. (f m).start) e ∙ is.0) (sym p.1 ∙ ap (λ m. (f m).end) e ∙ is.1)))
      ])
      (λ k l p. let s = source k l in (s.0, s.1, s.2))
      ok.distinct)
    where
      kept_place : (k x y : ℕ) → (x ≡ a → y ≡ b → ⊥) → k ≡ last → Pair x y (f k) → i < last
      kept_place k x y ne e p = elim (cases_eq i last) [
        | inl h ↦ absurd (ne (sym p.0 ∙ ap (λ m. (f m).start) (e ∙ sym h) ∙ is.0) (sym p.1 ∙ ap (λ m. (f m).end) (e ∙ sym h) ∙ is.1))
        | inr h ↦ omega arith
      ]

-- ---- where a pair is
module _ (count : ℕ) (rs : List TieRecord) (a b : ℕ) (fits : count ≤ length rs) where
  test_at : (k : ℕ) → k < count → is_pair a b (get_or (take count rs) k no_record) ≡ is_pair a b (at rs k)
  test_at k l = ap (is_pair a b) (get_or-take count rs k no_record l)

  -- none of the first records passes
  pub passed_over : None ≡ position (is_pair a b) (take count rs) → (k : ℕ) → k < count → Pair a b (at rs k) → ⊥
  passed_over e k l p = elim (cases_Bool (ltb (position_or_len (is_pair a b) (take count rs)) (length (take count rs)))) [
    | inl t ↦ absurd (let h = e ∙ cond-true _ (Some (position_or_len (is_pair a b) (take count rs))) None t in cc)
    | inr f ↦
        let n = length-take-le count rs fits in
        let beyond = ltb-false _ _ f in
        both_ways _ (fails_before_first (is_pair a b) (take count rs) k no_record (omega arith)) (test_at k l ∙ pair_test a b (at rs k) p)
  ]

  pub found_at : (r : ℕ) → Some r ≡ position (is_pair a b) (take count rs) → (r < count) × Pair a b (at rs r)
  found_at r e =
      let n = length-take-le count rs fits in
      let h = position-Some (is_pair a b) (take count rs) r no_record (sym e) in
      let l : r < count = omega (arith, h.0) in
      (l, pair_true a b (at rs r) (sym (test_at r l) ∙ h.1))

pub placed : (n count : ℕ) (rs : List TieRecord) (a b : ℕ) → ListSound n count rs → (r : Option ℕ) → r ≡ position (is_pair a b) (take count rs) → Placed rs count a b r
placed n count rs a b s (Some r) e =
    let h = found_at count rs a b s.within r e in
    record { within = h.0; pair = h.1; amount = amount_here (at rs) count r a b s.ties.distinct h.0 h.1 }
placed n count rs a b s None e =
    let h = passed_over count rs a b s.within e in record { nowhere = h; amount = amount_none (at rs) count a b h }
