-- 64 markers have fewer than 4,096 ordered pairs, so that a text never fills a list of 4,096. Assumes nothing.
use Rattle.std.proofs.Common.{◌≡◌, ℕ, ◌+◌, ◌-◌, ◌*◌, ◌<◌, ◌≤◌, Bool, true, false, cond, ◌&&◌, eqb, ltb, List, ◌++◌, map, length, get_or, ℤ, is_some, Some, None, Ok, Err, decimal, Option, Result, sym, refl, ap, ◌∙◌, subst, inl, inr, arith}
use lib.ListN.{length-map}
use Rattle.std.specs.List.{list_any}
use Rattle.std.specs.Str.{bytes_eq}
use Rattle.std.proofs.lemmas.Bool.{cond_both, eqb-true, ne_eqb}
use Rattle.std.proofs.lemmas.List.{get_or-map}
use Rattle.std.proofs.lemmas.List.Folds.{Any-from_list_any}
use Rattle.std.proofs.lemmas.Map.Keys.{IsDistinct-from_apart}
use Rattle.std.proofs.lemmas.Map.Steps.{length-le_from_distinct_below}
use Rattle.store.specs.Meaning.{put_answer}
use Rattle.store.specs.declared.Refusal.TheVariants.{SameMarker, StoreFull}
use Rattle.line_text.specs.Lines.{Said}
use Rattle.line_text.specs.declared.lines.TieAmount.{TieAmount}
use Rattle.line_text.specs.Lines.Said.{total_depth, marker, tie, trailer}
use Rattle.sheet_text.specs.Calls.{Checked, Roomy}
use Rattle.sheet_text.specs.Format.{Tied}
use Rattle.sheet_text.specs.Naming.{place_of}
use Rattle.sheet_text.specs.Reading.{Known, read_depth, read_marker, put_tie, add_tie, first_tie, after, read_line, Outcome, Answer}
use Rattle.sheet_text.specs.Reading.Outcome.{ended, good, faulty}
use Rattle.sheet_text.specs.Tying.{no_tie, tied_in, store_of, tie_answer}
use Rattle.sheet_text.specs.declared.faults.Code.{Code}
use Rattle.sheet_text.specs.declared.faults.Code.TheVariants.{Store, Length, Form, Name, Count, Trailer}
use Rattle.sheet_text.specs.declared.faults.Fault.{Fault}
use Rattle.sheet_text.specs.declared.header.Header.{Header}
use Rattle.sheet_text.specs.declared.state.Phase.{Phase}
use Rattle.sheet_text.specs.declared.state.Phase.TheVariants.{TotalDepth as AtDepth, Markers as AtMarkers, Ties as AtTies, End as AtEnd}
use Rattle.sheet_text.specs.declared.ties.Tie.{Tie}
use Rattle.sheet_text.proofs.Determined.{err_ok, err_same}
use Rattle.sheet_text.proofs.Fronts.{front, Fair}
use Rattle.sheet_text.proofs.Places.{found}
use Rattle.sheet_text.proofs.Progress.{fair_start, advances}
use Rattle.sheet_text.proofs.Stored.{store_says}

-- ---- pairs of markers

abbrev pair_number : Tie → ℕ
pair_number t = t.start * 64 + t.end - 1

module _ (n room : ℕ) (ts : List Tie) (few : n ≤ 64) (s : Tied n room ts) where
  number_at : (k d : ℕ) → k < length ts → get_or (map pair_number ts) k d ≡ pair_number (get_or ts k no_tie)
  number_at k d l = get_or-map pair_number ts k no_tie d l

  numbers_apart : (i j d : ℕ) → i < j → j < length (map pair_number ts) → eqb (get_or (map pair_number ts) i d) (get_or (map pair_number ts) j d) ≡ false
  numbers_apart i j d l m =
      let all = length-map ts pair_number in
      ne_eqb _ _ (λ e.
      let same : pair_number (get_or ts i no_tie) ≡ pair_number (get_or ts j no_tie) = sym (number_at i d (omega arith)) ∙ e ∙ number_at j d (omega arith) in
      let a = s.starts i (omega arith) in
      let b = s.ends i (omega arith) in
      let ab = s.unlike i (omega arith) in
      let c = s.starts j (omega arith) in
      let d = s.ends j (omega arith) in
      let cd = s.unlike j (omega arith) in
      let one = s.apart i j (omega arith) (omega arith) (omega arith) (omega arith) in
      omega arith)

  numbers_below : (q : ℕ) → list_any (eqb q) (map pair_number ts) ≡ true → q < 4095
  numbers_below q e =
      let (k, x, l, is, test) = Any-from_list_any (eqb q) (map pair_number ts) e in
      let all = length-map ts pair_number in
      let here : q ≡ pair_number (get_or ts k no_tie) = eqb-true q x test ∙ sym is ∙ number_at k x (omega arith) in
      let a = s.starts k (omega arith) in
      let b = s.ends k (omega arith) in
      let ab = s.unlike k (omega arith) in
      omega arith

  pub not_full : length ts ≡ 4096 → ⊥
  not_full all =
      omega (arith, length-map ts pair_number, length-le_from_distinct_below (map pair_number ts) 4095 (IsDistinct-from_apart eqb (map pair_number ts) numbers_apart) numbers_below)

-- ---- no line fills the store

abbrev Spare : Result Known Code → Type 0
Spare r = r ≡ Err (Store StoreFull) → ⊥

either_way : (b : Bool) (x y : Result Known Code) → Spare x → Spare y → Spare (cond b x y)
either_way true x y p q = p
either_way false x y p q = q

module _ (k : Known) (fair : Fair k) (large : k.room ≡ 4096) where
  answered : (first : ℕ) (t : Tie) (same full : Bool) → (full ≡ true → ⊥) → Spare (put_tie k first t (cond same (Err SameMarker) (cond full (Err StoreFull) (Ok tt))))
  answered first t true full h e = cc
  answered first t false true h e = h refl
  answered first t false false h e = err_ok (sym e)

  put : (first : ℕ) (t : Tie) → Spare (put_tie k first t (tie_answer (length k.ties) k.room t.start t.end))
  put first t = answered first t (eqb t.start t.end) (eqb (length k.ties) k.room) (λ h. not_full (length k.names) k.room k.ties fair.names.few fair.ties (eqb-true (length k.ties) k.room h ∙ large))

  add : (first : ℕ) (s u : List ℕ) (a b : Option ℕ) (amount : TieAmount) → place_of k.names s ≡ a → place_of k.names u ≡ b → Spare (add_tie k first a b amount)
  add first s u None b amount p q = λ e. cc
  add first s u (Some a) None amount p q = λ e. cc
  add first s u (Some a) (Some b) amount p q =
      let t : Tie = record { start = a; end = b; amount = amount } in
      cond_both (tied_in k.ties a b) (Err Name) (put_tie k first t (put_answer (store_of (length k.names) k.room k.ties) a b)) Spare (λ h e. cc)
      (λ h. subst (λ o. Spare (put_tie k first t o)) (sym (store_says (length k.names) k.room k.ties a b (found k.names s a p).0 (found k.names u b q).0 h fair.ties.few)) (put first t))

  depth_line : (ph : Phase) (mm : ℤ) → Spare (read_depth ph k mm)
  depth_line AtDepth mm e = err_ok (sym e)
  depth_line AtMarkers mm e = cc
  depth_line (AtTies first) mm e = cc
  depth_line AtEnd mm e = cc

  marker_line : (ph : Phase) (name : List ℕ) → Spare (read_marker ph k name)
  marker_line AtDepth name = λ e. cc
  marker_line AtMarkers name =
      let o = place_of k.names name in
      either_way (ltb (length k.names) 64) _ (Err Count) (either_way (is_some o) (Err Name) _ (λ e. cc) (λ e. err_ok (sym e))) (λ e. cc)
  marker_line (AtTies first) name = λ e. cc
  marker_line AtEnd name = λ e. cc

  gated : (b : Bool) (here : ℕ) (f : ℕ → Result Known Code) → ((first : ℕ) → Spare (f first)) → Spare (after (cond b (Err Count) (Ok here)) f)
  gated true here f h = λ e. cc
  gated false here f h = h here

  later_line : (ph : Phase) (here : ℕ) (f : ℕ → Result Known Code) → ((first : ℕ) → Spare (f first)) → Spare (after (first_tie ph k here) f)
  later_line AtDepth here f h = λ e. cc
  later_line AtMarkers here f h = gated (ltb (length k.names) 2) here f h
  later_line (AtTies first) here f h = h first
  later_line AtEnd here f h = λ e. cc

  line : (here : ℕ) (l : Said) → Spare (read_line k here l)
  line here (total_depth mm) = depth_line k.phase mm
  line here (marker name) = marker_line k.phase name
  line here (tie s u a) = later_line k.phase here _ (λ first. add first s u (place_of k.names s) (place_of k.names u) a refl refl)
  line here (trailer p c) = later_line k.phase here _ (λ first. either_way (bytes_eq p (decimal first) && bytes_eq c (decimal (length k.ties))) _ (Err Trailer) (λ e. err_ok (sym e)) (λ e. cc))

no_outcome : (f : Fault) {k : Known} {place : ℕ} {rest : List ℕ} → Outcome (Err f) k place rest → Fair k → k.room ≡ 4096 → place ≡ length (front k) → f.code ≡ Store StoreFull → ⊥
no_outcome f (ended w e) fair large at full = err_ok e
no_outcome f {k = k} {place = place} {rest = rest} (good m bytes after w cut g o) fair large at full =
    let next = advances k m (front k ++ rest) rest bytes after place fair refl cut at g in
    no_outcome f o next.0 (next.1 ∙ large) next.3 full
no_outcome f {k = k} {place = place} (faulty c bytes after w cut (inl g) e) fair large at full =
    let code : c ≡ Store StoreFull = sym (ap (λ x. x.code) (err_same e)) ∙ full in
    let e : Form ≡ Store StoreFull = sym g.0 ∙ code in cc
no_outcome f {k = k} {place = place} (faulty c bytes after w cut (inr (l, v, s, g)) e) fair large at full =
    let code : c ≡ Store StoreFull = sym (ap (λ x. x.code) (err_same e)) ∙ full in
    line k fair large place _ (g ∙ ap Err code)

never_full : (text : List ℕ) (f : Fault) → Answer 4096 text (Err f) → f.code ≡ Store StoreFull → ⊥
never_full text f (inl h) full = let e : Length ≡ Store StoreFull = sym (ap (λ x. x.code) h.1) ∙ full in cc
never_full text f (inr h) full = no_outcome f h.1 (fair_start 4096) refl refl full

pub roomy : (text : List ℕ) (r : Result Header Fault) → Checked text r → Roomy r
roomy text (Ok h) c = tt
roomy text (Err f) (Ok w, o, e) = λ full. err_ok e
roomy text (Err f) (Err g, o, e) = λ full. never_full text g o.0 (sym (ap (λ x. x.code) (err_same e)) ∙ full)
