-- A text's ties, written as records. Assumes nothing.
use Rattle.std.proofs.Common.{◌≡◌, ℕ, ◌+◌, ◌-◌, ◌<◌, ◌≤◌, false, List, [], ◌∷◌, ◌++◌, map, length, get_or, take, drop, set, Some, sym, ap, ◌∙◌, subst, inl, inr, append_assoc, arith, length-append, length-drop, length-take-le}
use mathlib.Core.List.{map-append}
use lib.ListN.{length-map}
use Rattle.std.proofs.lemmas.Bool.{cases_Bool}
use Rattle.std.proofs.lemmas.List.{take_more, drop_more, set_at, get_or_append_left, get_or-map}
use Rattle.store.specs.List.{no_record, at, amount_in, list_meaning, ListSound}
use Rattle.store.specs.declared.TieRecord.{TieRecord}
use Rattle.store.specs.Laws.{amount_none}
use Rattle.store.proofs.Records.{amount_here}
use Rattle.sheet_text.specs.Format.{Well, Tied}
use Rattle.sheet_text.specs.Calls.{record_of, well_store}
use Rattle.sheet_text.specs.Tying.{no_tie, tied_in, tie_of}
use Rattle.sheet_text.specs.declared.ties.Tie.{Tie}
use Rattle.sheet_text.proofs.Listed.{tied_some, tied_none}
use Rattle.sheet_text.proofs.Places.{untied}

pub written_more : (xs : List TieRecord) (ts : List Tie) (i : ℕ) → i < length ts → length ts ≤ length xs
    → set (map record_of (take i ts) ++ drop i xs) i (record_of (get_or ts i no_tie)) ≡ map record_of (take (i + 1) ts) ++ drop (i + 1) xs
written_more xs ts i l h =
    let long : length (map record_of (take i ts)) ≡ i = length-map (take i ts) record_of ∙ length-take-le i ts (omega arith) in
    ap (λ r. set (map record_of (take i ts) ++ r) i (record_of (get_or ts i no_tie))) (drop_more xs i no_record (omega arith))
    ∙ set_at (map record_of (take i ts)) (get_or xs i no_record) (drop (i + 1) xs) (record_of (get_or ts i no_tie)) i long
    ∙ sym (append_assoc (map record_of (take i ts)) (record_of (get_or ts i no_tie) ∷ []) (drop (i + 1) xs))
    ∙ ap (λ r. r ++ drop (i + 1) xs) (sym (map-append record_of (take i ts) (get_or ts i no_tie ∷ [])) ∙ ap (map record_of) (sym (take_more ts i no_tie l)))

-- a list whose first records are the ties
module _ (n room : ℕ) (ts : List Tie) (before after : List TieRecord) (low : 2 ≤ n) (high : n ≤ 64) (small : length before ≤ 4096) (fit : room ≡ length before) (s : Tied n room ts)
    (is : after ≡ map record_of ts ++ drop (length ts) before) where
  here : (i : ℕ) → i < length ts → at after i ≡ record_of (get_or ts i no_tie)
  here i l =
      let long = length-map ts record_of in
      ap (λ rs. get_or rs i no_record) is ∙ get_or_append_left (map record_of ts) (drop (length ts) before) no_record i (omega arith) ∙ get_or-map record_of ts i no_tie no_record l

  pub after_long : length after ≡ length before
  after_long =
      let few = s.few in
      omega (arith, ap length is, length-append (map record_of ts) (drop (length ts) before), length-map ts record_of, length-drop (length ts) before)

  apart : (j k : ℕ) → j < length ts → k < length ts → (at after j).start ≡ (at after k).start → (at after j).end ≡ (at after k).end → j ≡ k
  apart j k l m p q =
      s.apart j k l m (sym (ap (λ r. r.start) (here j l)) ∙ p ∙ ap (λ r. r.start) (here k m)) (sym (ap (λ r. r.end) (here j l)) ∙ q ∙ ap (λ r. r.end) (here k m))

  pub sound : ListSound n (length ts) after
  sound =
      let few = s.few in
      let long = after_long in
      record {
        low = low;
        high = high;
        within = omega arith;
        small = omega arith;
        ties = record {
          starts = λ k l. subst (λ r. r.start < n) (sym (here k l)) (s.starts k l);
          ends = λ k l. subst (λ r. r.end < n) (sym (here k l)) (s.ends k l);
          apart = λ k l. subst (λ r. r.start ≡ r.end → ⊥) (sym (here k l)) (s.unlike k l);
          distinct = apart;
        };
      }

  amount_same : (a b : ℕ) → amount_in (at after) (length ts) a b ≡ tie_of ts a b
  amount_same a b =
      elim (cases_Bool (tied_in ts a b)) [
        | inl e ↦
            let (k, l, p, q, is-k) = tied_some ts a b e in
            amount_here (at after) (length ts) k a b apart l (ap (λ r. r.start) (here k l) ∙ p, ap (λ r. r.end) (here k l) ∙ q) ∙ ap (λ r. Some r.amount) (here k l) ∙ sym is-k
        | inr e ↦
            amount_none (at after) (length ts) a b (λ k l p. untied ts a b e k l (sym (ap (λ r. r.start) (here k l)) ∙ p.0) (sym (ap (λ r. r.end) (here k l)) ∙ p.1)) ∙ sym (tied_none ts a b e)
      ]

  pub stored : (w : Well) → length w.names ≡ n → w.ties ≡ ts → list_meaning n (length ts) after ≡ well_store room w
  stored w count ties =
      let long = after_long in
      let free : length after - length ts ≡ room - length w.ties = omega (arith, ap length ties) in
      λ i. record { count = sym count i; closed = λ _. false; tie = λ a b. (amount_same a b ∙ ap (λ us. tie_of us a b) (sym ties)) i; free = free i }
