-- A text has one answer. Assumes nothing.
use Rattle.std.proofs.Common.{◌≡◌, ℕ, suc, ◌+◌, ◌-◌, ◌^◌, ◌<◌, ◌≤◌, List, [], ◌∷◌, ◌++◌, map, length, get_or, Ok, Err, Result, sym, refl, ap, ◌∙◌, subst, inl, inr, append_assoc, append-nil, arith, length-append}
use Rattle.std.proofs.lemmas.List.{get_or_at, get_or_append_left, get_or-append-add}
use Rattle.sheet_text.specs.Format.{Well, lines, depth_text, marker_text, trailer_text, head_lines, tie_lines, Says, Tied}
use Rattle.sheet_text.specs.Reading.{Known, start, Outcome, Whole, Answer, Only, filled}
use Rattle.sheet_text.specs.declared.faults.Code.TheVariants.{Length}
use Rattle.sheet_text.specs.declared.faults.Fault.{Fault}
use Rattle.sheet_text.proofs.Complete.{at_end, complete}
use Rattle.sheet_text.proofs.Determined.{err_ok, ok_same, err_same, outcome_same}
use Rattle.sheet_text.proofs.Ends.{ended}
use Rattle.sheet_text.proofs.Fronts.{front_lines, front, Staged, lines_append}
use Rattle.sheet_text.proofs.Progress.{fair_start, read_to}
use Rattle.sheet_text.proofs.Written.{trailer_unended}

-- ---- a well's text is whole, and the well comes of it
module _ (room : ℕ) (small : room ≤ 4096) (file : List ℕ) (w : Well) (s : Says room file w) where
  abbrev before : List (List ℕ)
  before = head_lines w.depth w.names ++ tie_lines w.names w.ties

  abbrev place : ℕ
  place = length (lines (head_lines w.depth w.names))

  last : List ℕ
  last = trailer_text place (length w.ties)

  by_last : file ≡ lines before ++ (last ++ 10 ∷ [])
  unfolding last
  by_last = s.2 ∙ ap lines (sym (append_assoc (head_lines w.depth w.names) (tie_lines w.names w.ties) (last ∷ []))) ∙ lines_append before (last ∷ [])

  head_fits : place < 2 ^ 64
  head_fits =
      let few = s.1 in
      omega (arith, ap length by_last, length-append (lines before) (last ++ 10 ∷ []), ap length (lines_append (head_lines w.depth w.names) (tie_lines w.names w.ties)), length-append (lines (head_lines w.depth w.names)) (lines (tie_lines w.names w.ties)))

  ties_fit : length w.ties < 2 ^ 64
  ties_fit = let few = s.0.ties.few in omega arith

  comes : Outcome (Ok (at_end room w)) (start room) 0 file
  comes = subst (Outcome (Ok (at_end room w)) (start room) 0) (sym s.2) (complete room w s.0 head_fits ties_fit)

  ends_in_10 : (l : List ℕ) (ls : List (List ℕ)) → get_or (lines (l ∷ ls)) (length (lines (l ∷ ls)) - 1) 0 ≡ 10
  ends_in_10 l [] =
      let long : length (l ++ 10 ∷ []) - 1 ≡ length l = omega (arith, length-append l (10 ∷ [])) in
      ap (λ n. get_or (l ++ 10 ∷ []) n 0) long ∙ get_or_at l 10 [] 0 (length l) refl
  ends_in_10 l (m ∷ ls) =
      let long : length (l ++ 10 ∷ lines (m ∷ ls)) - 1 ≡ length l + suc (length (lines (m ∷ ls)) - 1) = omega (arith, length-append l (10 ∷ lines (m ∷ ls)), length-append m (10 ∷ lines ls)) in
      ap (λ n. get_or (l ++ 10 ∷ lines (m ∷ ls)) n 0) long ∙ get_or-append-add l (10 ∷ lines (m ∷ ls)) (suc (length (lines (m ∷ ls)) - 1)) 0 ∙ ends_in_10 m ls

  whole_split : Whole (lines before ++ (last ++ 10 ∷ []))
  unfolding last
  whole_split =
      let start = length (lines before) in
      let all = length-append (lines before) (last ++ 10 ∷ []) in
      let end = length-append last (10 ∷ []) in
      let few : length (lines before ++ (last ++ 10 ∷ [])) ≤ 65536 = let most = s.1 in omega (arith, ap length by_last) in
      let at : (j : ℕ) → get_or (lines before ++ (last ++ 10 ∷ [])) (start + j) 0 ≡ get_or (last ++ 10 ∷ []) j 0 = λ j. get_or-append-add (lines before) (last ++ 10 ∷ []) j 0 in
      let zero_in : start + 0 ≡ start = omega arith in
      let final : length (lines before ++ (last ++ 10 ∷ [])) - 1 ≡ start + length last = omega arith in (
        few,
        (
          start,
          (
            omega arith,
            ap (λ n. get_or (lines before ++ (last ++ 10 ∷ [])) n 0) final ∙ at (length last) ∙ get_or_at last 10 [] 0 (length last) refl,
            ap (λ n. get_or (lines before ++ (last ++ 10 ∷ [])) n 0) (sym zero_in) ∙ at 0,
            (λ some. get_or_append_left (lines before) (last ++ 10 ∷ []) 0 (start - 1) (omega arith) ∙ ends_in_10 (depth_text w.depth) (map marker_text w.names ++ tie_lines w.names w.ties)),
            (λ k l m ten.
                let back : start + (k - start) ≡ k = omega arith in
                trailer_unended place (length w.ties) head_fits ties_fit (k - start) (omega arith)
                (sym (get_or_append_left last (10 ∷ []) 0 (k - start) (omega arith)) ∙ sym (at (k - start)) ∙ ap (λ n. get_or (lines before ++ (last ++ 10 ∷ [])) n 0) back ∙ ten)),
          ),
        ),
      )

  whole : Whole file
  whole = subst Whole (sym by_last) whole_split

-- ---- one answer
pub answer_same : (room : ℕ) (file : List ℕ) → room ≤ 4096 → (a b : Result Well Fault) → Answer room file a → Answer room file b → a ≡ b
answer_same room file small (Ok w) (Ok v) s t =
    let same = ok_same (outcome_same (Ok (at_end room w)) (Ok (at_end room v)) (comes room small file w s) (comes room small file v t)) in
    λ i. Ok (record { depth = (same i).depth; names = (same i).names; ties = (same i).ties })
answer_same room file small (Ok w) (Err f) s (inl t) = absurd (t.0 (whole room small file w s))
answer_same room file small (Ok w) (Err f) s (inr t) = absurd (err_ok (sym (outcome_same (Ok (at_end room w)) (Err f) (comes room small file w s) t.1)))
answer_same room file small (Err f) (Ok v) (inl s) t = absurd (s.0 (whole room small file v t))
answer_same room file small (Err f) (Ok v) (inr s) t = absurd (err_ok (outcome_same (Err f) (Ok (at_end room v)) s.1 (comes room small file v t)))
answer_same room file small (Err f) (Err g) (inl s) (inl t) = ap Err (s.1 ∙ sym t.1)
answer_same room file small (Err f) (Err g) (inl s) (inr t) = absurd (s.0 t.0)
answer_same room file small (Err f) (Err g) (inr s) (inl t) = absurd (t.0 s.0)
answer_same room file small (Err f) (Err g) (inr s) (inr t) = ap Err (err_same (outcome_same (Err f) (Err g) s.1 t.1))

only : (room : ℕ) (file : List ℕ) (a : Result Well Fault) → room ≤ 4096 → Answer room file a → Only (Answer room file) a
only room file a small h = (h, (λ b g. answer_same room file small b a g h))

pub not_whole : (room : ℕ) (file : List ℕ) → room ≤ 4096 → (Whole file → ⊥) → Only (Answer room file) (Err (record { code = Length; place = 0 }))
not_whole room file small w = only room file _ small (inl (w, refl))

-- what is known at the end of a whole text is said by it
says : (room : ℕ) (file : List ℕ) (k : Known) → Whole file → Outcome (Ok k) (start room) 0 file → Says room file (record { depth = k.depth; names = k.names; ties = k.ties })
says room file k w o =
    let (f, same, (rest, is, none)) = read_to (Ok k) k file o refl (fair_start room) refl refl in
    let e = ended k.phase k file rest f is none w in (
      record { depth = f.depth; two = subst (λ ph. Staged ph k) e.1 f.staged; names = f.names; ties = subst (λ r. Tied (length k.names) r k.ties) same f.ties },
      w.0,
      is ∙ ap (λ r. front k ++ r) e.0 ∙ append-nil (front k) ∙ ap (λ ph. lines (front_lines ph k)) e.1,
    )

pub concludes : (room : ℕ) (file : List ℕ) (k : Known) (r : Result (Unit {0}) Fault) → room ≤ 4096 → Whole file → Outcome (filled k r) (start room) 0 file
    → Only (Answer room file) (filled (record { depth = k.depth; names = k.names; ties = k.ties }) r)
concludes room file k (Ok u) small w o = only room file (Ok (record { depth = k.depth; names = k.names; ties = k.ties })) small (says room file k w o)
concludes room file k (Err f) small w o = only room file (Err f) small (inr (w, o))
