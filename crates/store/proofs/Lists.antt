-- A list of records after a call. Assumes nothing.
use Rattle.std.proofs.Common.{◌≡◌, ℕ, ◌+◌, ◌-◌, ◌<◌, List, length, set, None, Ok, sym, refl, ap, ◌∙◌, subst, arith, length-set, get_or-set_other, get_or-set_same}
use Rattle.measure.specs.declared.Amount.{Amount}
use Rattle.store.specs.declared.TieRecord.{TieRecord}
use Rattle.store.specs.Meaning.{StoreMeaning, set_tie, put_answer, put_after, clear_answer, clear_after, put_done, clear_done}
use Rattle.store.specs.List.{no_record, at, amount_in, list_meaning, ListSound, Ties, Here, Absent}
use Rattle.store.proofs.Calls.{same_meaning, Writable, put_over, put_new, clear_some, put_accepted, clear_accepted, put_free}
use Rattle.store.proofs.Records.{replaced_amount, added_amount, removed_amount}

-- a sound list, and a pair that may be written
pub record Ready (n count : ℕ) (rs : List TieRecord) (a b : ℕ) : Type 0 where
  pub sound : ListSound n count rs
  pub may : Writable (list_meaning n count rs) a b

-- ---- the pair is there
module _ (n count : ℕ) (rs : List TieRecord) (a b i : ℕ) (q : Ready n count rs a b) (h : Here rs count a b i) where
  abbrev m : StoreMeaning
  m = list_meaning n count rs

  -- a put
  abbrev over : Amount → TieRecord
  over w = record { start = (at rs i).start; end = (at rs i).end; amount = w }

  pub over_answer : Ok tt ≡ put_answer m a b
  over_answer = sym (put_over m a b q.may _ h.amount)

  pub over_after : (w : Amount) → list_meaning n count (set rs i (over w)) ≡ put_after m a b w
  over_after w =
      let fits = q.sound.within in
      same_meaning (list_meaning n count (set rs i (over w))) (put_done m a b w) refl (λ _. refl)
      (replaced_amount (at rs) (at (set rs i (over w))) n count i a b w q.sound.ties h.within h.pair (get_or-set_same rs i (over w) no_record (omega (arith, h.within))) (λ k e. get_or-set_other rs i k (over w) no_record e))
      (ap (λ k. k - count) (length-set rs i (over w)) ∙ sym (put_free m a b w _ h.amount))
      ∙ sym (put_accepted m a b w (sym over_answer))

  -- a clear
  abbrev moved : List TieRecord
  moved = set rs i (at rs (count - 1))

  pub gone_answer : Ok tt ≡ clear_answer m a b
  gone_answer = sym (clear_some m a b q.may _ h.amount)

  one_more : count - 1 + 1 ≡ count
  one_more = omega (arith, h.within)

  pub gone_after : list_meaning n (count - 1) moved ≡ clear_after m a b
  gone_after =
      let e = length-set rs i (at rs (count - 1)) in
      let fits = q.sound.within in
      same_meaning (list_meaning n (count - 1) moved) (clear_done m a b) refl (λ _. refl)
      (λ x y. removed_amount (at rs) (at moved) n (count - 1) i a b (subst (λ k. Ties n k (at rs)) (sym one_more) q.sound.ties) (omega (arith, h.within)) h.pair (get_or-set_same rs i _ no_record (omega (arith, h.within))) (λ k e. get_or-set_other rs i k _ no_record e) x y
      ∙ ap (λ k. set_tie (amount_in (at rs) k) a b None x y) one_more)
      (omega (arith, h.within))
      ∙ sym (clear_accepted m a b (sym gone_answer))

-- ---- a put where the pair is not there
module _ (n count : ℕ) (rs : List TieRecord) (a b : ℕ) (q : Ready n count rs a b) (h : Absent rs count a b) where
  abbrev old : StoreMeaning
  old = list_meaning n count rs

  abbrev new : Amount → TieRecord
  new w = record { start = a; end = b; amount = w }

  pub new_answer : count < length rs → Ok tt ≡ put_answer old a b
  new_answer s = sym (put_new old a b q.may h.amount (omega arith))

  pub new_after : (w : Amount) → count < length rs → list_meaning n (count + 1) (set rs count (new w)) ≡ put_after old a b w
  new_after w s =
      let e = length-set rs count (new w) in
      same_meaning (list_meaning n (count + 1) (set rs count (new w))) (put_done old a b w) refl (λ _. refl)
      (added_amount (at rs) (at (set rs count (new w))) n count a b w q.sound.ties q.may.start q.may.end q.may.apart h.nowhere (get_or-set_same rs count (new w) no_record s) (λ k l. get_or-set_other rs count k (new w) no_record (omega arith)))
      (let r : length (set rs count (new w)) - (count + 1) ≡ length rs - count - 1 = omega arith in r ∙ sym (put_free old a b w _ h.amount))
      ∙ sym (put_accepted old a b w (sym (new_answer s)))
