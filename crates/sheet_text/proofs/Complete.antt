-- The text of a well is read to its end, and what comes of it is the well. Assumes nothing.
use Rattle.std.proofs.Common.{◌≡◌, ℕ, ◌+◌, ◌^◌, ◌<◌, false, cond, ◌&&◌, eqb, ltb, List, [], ◌∷◌, ◌++◌, map, length, get_or, ℤ, Some, None, Ok, Err, decimal, Option, Result, sym, refl, ap, ◌∙◌, subst, inl, inr, append_assoc, append-nil, arith, length-append}
use Rattle.std.specs.Str.{bytes_eq}
use Rattle.std.proofs.lemmas.Slice.Eq.{bytes_eq-Decides}
use Rattle.std.proofs.lemmas.List.{get_or_at, get_or_append_left}
use Rattle.std.proofs.lemmas.Bool.{cases_Bool, cond-true, cond-false, ne_eqb, lt-ltb, le-ltb, and_from}
use Rattle.store.specs.declared.Refusal.TheVariants.{SameMarker, StoreFull}
use Rattle.line_text.specs.Spelling.{Bounded, Name}
use Rattle.line_text.specs.Lines.{spell, Valid, said}
use Rattle.line_text.specs.declared.lines.Line.{Line}
use Rattle.line_text.specs.declared.lines.Line.TheVariants.{TotalDepth as DepthLine}
use Rattle.line_text.proofs.Inked.{unended}
use Rattle.sheet_text.specs.Format.{Well, lines, depth_text, marker_text, tie_text, trailer_text, head_lines, tie_lines, document, Named, Tied, Proper}
use Rattle.sheet_text.specs.Naming.{place_of}
use Rattle.sheet_text.specs.Reading.{Known, start, add_name, put_tie, add_tie, finish, first_tie, after, read_trailer, read_line, Outcome}
use Rattle.sheet_text.specs.Reading.Outcome.{ended, good}
use Rattle.sheet_text.specs.Tying.{no_tie, tied_in, tie_answer}
use Rattle.sheet_text.specs.declared.faults.Code.TheVariants.{Count, Trailer}
use Rattle.sheet_text.specs.declared.faults.Fault.{Fault}
use Rattle.sheet_text.specs.declared.state.Phase.TheVariants.{Markers as AtMarkers, Ties as AtTies, End as AtEnd}
use Rattle.sheet_text.specs.declared.ties.Tie.{Tie}
use Rattle.sheet_text.proofs.Fronts.{lines_append}
use Rattle.sheet_text.proofs.Listed.{tied_some}
use Rattle.sheet_text.proofs.Places.{found, missing}
use Rattle.sheet_text.proofs.Stored.{added}
use Rattle.sheet_text.proofs.Written.{marker_line, tie_line, trailer_line, valid_tie, valid_trailer}

-- ---- looking up
place_at : (ns : List (List ℕ)) (a : ℕ) (o : Option ℕ) → Named ns → a < length ns → place_of ns (get_or ns a []) ≡ o → o ≡ Some a
place_at ns a None n l e = absurd (missing ns (get_or ns a []) e a l refl)
place_at ns a (Some j) n l e = let f = found ns (get_or ns a []) j e in ap Some (n.apart j a f.0 l f.1)

new_name : (ms : List (List ℕ)) (name : List ℕ) (o : Option ℕ) → ((k : ℕ) → k < length ms → get_or ms k [] ≡ name → ⊥) → place_of ms name ≡ o → o ≡ None
new_name ms name None new e = refl
new_name ms name (Some j) new e = let f = found ms name j e in absurd (new j f.0 f.1)

new_pair : (n room : ℕ) (us more : List Tie) (t : Tie) → Tied n room (us ++ t ∷ more) → tied_in us t.start t.end ≡ false
new_pair n room us more t s =
    elim (cases_Bool (tied_in us t.start t.end)) [
      | inl h ↦
          let r = tied_some us t.start t.end h in
          let long = length-append us (t ∷ more) in
          let here = get_or_at us t more no_tie (length us) refl in
          let there = get_or_append_left us (t ∷ more) no_tie r.0 r.1 in
          let below = r.1 in
          let same : r.0 ≡ length us = s.apart r.0 (length us) (omega arith) (omega arith) (ap (λ u. u.start) there ∙ r.2 ∙ sym (ap (λ u. u.start) here)) (ap (λ u. u.end) there ∙ r.3 ∙ sym (ap (λ u. u.end) here)) in
          absurd (omega arith)
      | inr h ↦ h
    ]

-- ---- one line of a well's text

abbrev at_markers : ℕ → ℤ → List (List ℕ) → Known
at_markers room h ns = record { phase = AtMarkers; depth = h; names = ns; ties = []; room = room }

abbrev at_ties : ℕ → ℤ → List (List ℕ) → ℕ → List Tie → Known
at_ties room h ns first ts = record { phase = AtTies first; depth = h; names = ns; ties = ts; room = room }

-- what is known after the text of a well
abbrev pub at_end : ℕ → Well → Known
at_end room w = record { phase = AtEnd; depth = w.depth; names = w.names; ties = w.ties; room = room }

module _ (room : ℕ) (h : ℤ) (ms more : List (List ℕ)) (name : List ℕ) (n : Named (ms ++ name ∷ more)) where
  name_added : add_name (at_markers room h ms) name (place_of ms name) ≡ Ok (at_markers room h (ms ++ name ∷ []))
  name_added =
      let long = length-append ms (name ∷ more) in
      let few = n.few in
      let here = get_or_at ms name more [] (length ms) refl in
      let new : (j : ℕ) → j < length ms → get_or ms j [] ≡ name → ⊥ =
      λ j l e.
      let same = n.apart j (length ms) (omega arith) (omega arith) (get_or_append_left ms (name ∷ more) [] j l ∙ e ∙ sym here) in
      omega arith in
      ap (add_name (at_markers room h ms) name) (new_name ms name (place_of ms name) new refl)
      ∙ cond-true (ltb (length ms) 64) _ (Err Count) (lt-ltb (length ms) 64 (omega arith))

  name_good : Name name
  name_good =
      let long = length-append ms (name ∷ more) in
      subst Name (get_or_at ms name more [] (length ms) refl) (n.good (length ms) (omega arith))

module _ (k : Known) (first : ℕ) (t : Tie) (more : List Tie) (n : Named k.names) (s : Tied (length k.names) k.room (k.ties ++ t ∷ more)) where
  here : get_or (k.ties ++ t ∷ more) (length k.ties) no_tie ≡ t
  here = get_or_at k.ties t more no_tie (length k.ties) refl

  there : length k.ties < length (k.ties ++ t ∷ more)
  there = omega (arith, length-append k.ties (t ∷ more))

  from : t.start < length k.names
  from = subst (λ u. u.start < length k.names) here (s.starts (length k.ties) there)

  to : t.end < length k.names
  to = subst (λ u. u.end < length k.names) here (s.ends (length k.ties) there)

  tie_good : (t.start < length k.names) × (t.end < length k.names) × Bounded t.amount.mm
  tie_good = (from, to, subst (λ u. Bounded u.amount.mm) here (s.bounded (length k.ties) there))

  let_in : tie_answer (length k.ties) k.room t.start t.end ≡ Ok tt
  let_in =
      let j = length k.ties in
      let few = s.few in
      let below = there in
      let unlike = subst (λ u. u.start ≡ u.end → ⊥) here (s.unlike j there) in
      let left : j ≡ k.room → ⊥ = λ e. omega arith in
      cond-false (eqb t.start t.end) (Err SameMarker) (cond (eqb j k.room) (Err StoreFull) (Ok tt)) (ne_eqb t.start t.end unlike)
      ∙ cond-false (eqb j k.room) (Err StoreFull) (Ok tt) (ne_eqb j k.room left)

  tie_added : add_tie k first (place_of k.names (get_or k.names t.start [])) (place_of k.names (get_or k.names t.end [])) t.amount ≡ put_tie k first t (Ok tt)
  tie_added =
      let ns = k.names in
      let few = s.few in
      let below = there in
      let a = place_at ns t.start (place_of ns (get_or ns t.start [])) n from refl in
      let b = place_at ns t.end (place_of ns (get_or ns t.end [])) n to refl in
      added k first (get_or ns t.start []) (get_or ns t.end []) t a b (new_pair (length ns) k.room k.ties more t s) (omega arith) ∙ ap (put_tie k first t) let_in

finished : (k : Known) (first : ℕ) → finish k first (decimal first) (decimal (length k.ties)) ≡ Ok (record { phase = AtEnd; depth = k.depth; names = k.names; ties = k.ties; room = k.room })
finished k first =
    let count = decimal (length k.ties) in
    cond-true (bytes_eq (decimal first) (decimal first) && bytes_eq count count) _ (Err Trailer)
    (and_from (bytes_eq (decimal first) (decimal first)) (bytes_eq count count) ((bytes_eq-Decides (decimal first) (decimal first)).1 refl) ((bytes_eq-Decides count count).1 refl))

-- ---- all lines of a well's text

-- one line, after which m is known
one_line : (r : Result Known Fault) (k m : Known) (place : ℕ) (l : Line) (bs rest : List ℕ) → Valid l → read_line k place (said l) ≡ Ok m → bs ≡ spell l ++ 10 ∷ rest → Outcome r m (place + (length (spell l) + 1)) rest → Outcome r k place bs
one_line r k m place l bs rest v e cut o = good m (spell l) rest (unended l v) cut (l, v, refl, e) o

-- one tie line, where the first may stand at `first`
one_tie : (r : Result Known Fault) (k : Known) (place first : ℕ) (t : Tie) (more : List Tie) (bs rest : List ℕ) → Named k.names → Tied (length k.names) k.room (k.ties ++ t ∷ more) → first_tie k.phase k place ≡ Ok first
    → bs ≡ tie_text k.names t ++ 10 ∷ rest → Outcome r (at_ties k.room k.depth k.names first (k.ties ++ t ∷ [])) (place + (length (tie_text k.names t) + 1)) rest → Outcome r k place bs
one_tie r k place first t more bs rest n s is cut o =
    let ok = tie_good k first t more n s in
    one_line r k (at_ties k.room k.depth k.names first (k.ties ++ t ∷ [])) place (tie_line k.names t) bs rest (valid_tie k.names t n ok.0 ok.1 ok.2)
    (ap (λ r. after r (λ first. add_tie k first (place_of k.names (get_or k.names t.start [])) (place_of k.names (get_or k.names t.end [])) t.amount)) is ∙ tie_added k first t more n s) cut o

module _ (r : Result Known Fault) (room : ℕ) (h : ℤ) where
  markers : (ns ms all : List (List ℕ)) (place end : ℕ) (rest : List ℕ) → Named all → all ≡ ms ++ ns → end ≡ place + length (lines (map marker_text ns))
      → Outcome r (at_markers room h all) end rest → Outcome r (at_markers room h ms) place (lines (map marker_text ns) ++ rest)
  markers [] ms all place end rest n is long o =
      let same : end ≡ place = omega arith in
      subst (λ p. Outcome r (at_markers room h ms) p rest) same (subst (λ xs. Outcome r (at_markers room h xs) end rest) (is ∙ append-nil ms) o)
  markers (name ∷ ns) ms all place end rest n is long o =
      let named : Named (ms ++ name ∷ ns) = subst Named is n in
      one_line r _ (at_markers room h (ms ++ name ∷ [])) place (marker_line name) _ (lines (map marker_text ns) ++ rest) (name_good room h ms ns name named) (name_added room h ms ns name named)
      (append_assoc (marker_text name) (10 ∷ lines (map marker_text ns)) rest)
      (markers ns (ms ++ name ∷ []) all (place + (length (marker_text name) + 1)) end rest n (is ∙ sym (append_assoc ms (name ∷ []) ns)) (omega (arith, length-append (marker_text name) (10 ∷ lines (map marker_text ns)))) o)

  module _ (ns : List (List ℕ)) (n : Named ns) where
    ties : (first : ℕ) (ts us all : List Tie) (place end : ℕ) (rest : List ℕ) → Tied (length ns) room all → all ≡ us ++ ts → end ≡ place + length (lines (tie_lines ns ts))
        → Outcome r (at_ties room h ns first all) end rest → Outcome r (at_ties room h ns first us) place (lines (tie_lines ns ts) ++ rest)
    ties first [] us all place end rest s is long o =
        let same : end ≡ place = omega arith in
        subst (λ p. Outcome r (at_ties room h ns first us) p rest) same (subst (λ xs. Outcome r (at_ties room h ns first xs) end rest) (is ∙ append-nil us) o)
    ties first (t ∷ ts) us all place end rest s is long o =
        one_tie r (at_ties room h ns first us) place first t ts _ (lines (tie_lines ns ts) ++ rest) n (subst (Tied (length ns) room) is s) refl
        (append_assoc (tie_text ns t) (10 ∷ lines (tie_lines ns ts)) rest)
        (ties first ts (us ++ t ∷ []) all (place + (length (tie_text ns t) + 1)) end rest s (is ∙ sym (append_assoc us (t ∷ []) ts)) (omega (arith, length-append (tie_text ns t) (10 ∷ lines (tie_lines ns ts)))) o)

module _ (room : ℕ) (w : Well) (ok : Proper room w) (small : length (lines (head_lines w.depth w.names)) < 2 ^ 64) (few : length w.ties < 2 ^ 64) where
  abbrev h : ℤ
  h = w.depth

  abbrev ns : List (List ℕ)
  ns = w.names

  abbrev place : ℕ
  place = length (lines (head_lines h ns))

  abbrev last : List ℕ
  last = trailer_text place (length w.ties)

  abbrev r : Result Known Fault
  r = Ok (at_end room w)

  two : ltb (length ns) 2 ≡ false
  two = le-ltb (length ns) 2 ok.two

  -- the trailer, after a line at which k was known
  trailing : (k : Known) (at : ℕ) → read_trailer k at (decimal place) (decimal (length w.ties)) ≡ Ok (at_end room w) → Outcome r k at (last ++ 10 ∷ [])
  trailing k at e =
      one_line r k (at_end room w) at (trailer_line place (length w.ties)) _ [] (valid_trailer place (length w.ties) small few) e refl (ended (λ i l. absurd (omega arith)) refl)

  body : (ts : List Tie) → ts ≡ w.ties → Outcome r (at_markers room h ns) place (lines (tie_lines ns ts) ++ (last ++ 10 ∷ []))
  body [] e =
      let none : decimal 0 ≡ decimal (length w.ties) = ap (λ us. decimal (length us)) e in
      trailing (at_markers room h ns) place
      (ap (λ r. after r (λ first. finish (at_markers room h ns) first (decimal place) (decimal (length w.ties)))) (cond-false (ltb (length ns) 2) (Err Count) (Ok place) two)
      ∙ ap (finish (at_markers room h ns) place (decimal place)) (sym none) ∙ finished (at_markers room h ns) place
      ∙ (λ i. Ok (record { phase = AtEnd; depth = h; names = ns; ties = e i; room = room })))
  body (t ∷ ts) e =
      let all = at_ties room h ns place w.ties in
      let next = place + (length (tie_text ns t) + 1) in
      one_tie r (at_markers room h ns) place place t ts _ (lines (tie_lines ns ts) ++ (last ++ 10 ∷ [])) ok.names (subst (Tied (length ns) room) (sym e) ok.ties) (cond-false (ltb (length ns) 2) (Err Count) (Ok place) two)
      (append_assoc (tie_text ns t) (10 ∷ lines (tie_lines ns ts)) (last ++ 10 ∷ []))
      (ties r room h ns ok.names place ts (t ∷ []) w.ties next (next + length (lines (tie_lines ns ts))) (last ++ 10 ∷ []) ok.ties (sym e) refl
      (trailing all (next + length (lines (tie_lines ns ts))) (finished all place)))

  pub complete : Outcome r (start room) 0 (document w)
  complete =
      let rest = tie_lines ns w.ties ++ last ∷ [] in
      one_line r (start room) (at_markers room h []) 0 (DepthLine h) _ (lines (map marker_text ns ++ rest)) ok.depth refl refl
      (subst (Outcome r (at_markers room h []) (0 + (length (depth_text h) + 1))) (sym (lines_append (map marker_text ns) rest))
      (markers r room h ns [] ns (0 + (length (depth_text h) + 1)) place (lines rest) ok.names refl (omega (arith, length-append (depth_text h) (10 ∷ lines (map marker_text ns))))
      (subst (Outcome r (at_markers room h ns) place) (sym (lines_append (tie_lines ns w.ties) (last ∷ []))) (body w.ties refl))))
