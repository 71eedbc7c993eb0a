-- A text that is whole and read to its end has been read to its trailer. Assumes nothing.
use Rattle.std.proofs.Common.{◌≡◌, ℕ, suc, ◌+◌, ◌-◌, ◌<◌, List, [], ◌∷◌, ◌++◌, length, get_or, ℤ, sym, refl, ap, ◌∙◌, subst, ⊎_elim, append-nil, arith, length-append}
use Rattle.std.specs.List.{AllByRecursion as All}
use Rattle.std.proofs.str.Laws.{order}
use Rattle.std.proofs.ByRecursion.{All-from_get_or, All-append, All-map}
use Rattle.std.proofs.lemmas.List.{get_or_append_left, get_or-append-add}
use Rattle.line_text.specs.Spelling.{Bounded, Without}
use Rattle.line_text.specs.declared.lines.Line.TheVariants.{TotalDepth as DepthLine}
use Rattle.line_text.proofs.Inked.{unended}
use Rattle.sheet_text.specs.Format.{lines, marker_text, tie_text, head_lines, tie_lines, Named, Tied}
use Rattle.sheet_text.specs.Reading.{Known, EndsAt, Whole}
use Rattle.sheet_text.specs.Tying.{no_tie}
use Rattle.sheet_text.specs.declared.state.Phase.{Phase}
use Rattle.sheet_text.specs.declared.state.Phase.TheVariants.{TotalDepth as AtDepth, Markers as AtMarkers, Ties as AtTies, End as AtEnd}
use Rattle.sheet_text.specs.declared.ties.Tie.{Tie}
use Rattle.sheet_text.proofs.Fronts.{front_lines, Fair}
use Rattle.sheet_text.proofs.Written.{marker_line, tie_line, valid_tie}

-- a line with no byte 10 that is no trailer
abbrev Plain : List ℕ → Type 0
Plain bs = (0 < length bs) × Without 10 bs × (get_or bs 0 0 ≡ 90 → ⊥)

plain_head : (h : ℤ) (ns : List (List ℕ)) → Bounded h → Named ns → All Plain (head_lines h ns)
plain_head h ns small n = (
  (omega arith, unended (DepthLine h) small, (λ e. omega arith)),
  All-map Plain marker_text ns
      (All-from_get_or (λ name. Plain (marker_text name)) ns [] (λ i l. (omega arith, unended (marker_line (get_or ns i [])) (n.good i l), (λ e. omega arith)))),
)

plain_ties : (ns : List (List ℕ)) (room : ℕ) (ts : List Tie) → Named ns → Tied (length ns) room ts → All Plain (tie_lines ns ts)
plain_ties ns room ts n s =
    All-map Plain (tie_text ns) ts
    (All-from_get_or (λ t. Plain (tie_text ns t)) ts no_tie
    (λ i l.
    let t = get_or ts i no_tie in
    (omega arith, unended (tie_line ns t) (valid_tie ns t n (s.starts i l) (s.ends i l) (s.bounded i l)), (λ e. omega arith))))

-- ---- the last line
plus_zero : (n : ℕ) → n + 0 ≡ n
plus_zero n = omega arith

shifted : (x r : List ℕ) (j : ℕ) → get_or (x ++ 10 ∷ r) (length x + suc j) 0 ≡ get_or r j 0
shifted x r j = get_or-append-add x (10 ∷ r) (suc j) 0

ends_later : (x r : List ℕ) (s : ℕ) → 0 < length r → EndsAt (x ++ 10 ∷ r) s → (t : ℕ) × EndsAt r t
ends_later x r s some e =
    let long : length (x ++ 10 ∷ r) ≡ length x + suc (length r) = length-append x (10 ∷ r) in
    let mid : get_or (x ++ 10 ∷ r) (length x) 0 ≡ 10 = ap (λ n. get_or (x ++ 10 ∷ r) n 0) (sym (plus_zero (length x))) ∙ get_or-append-add x (10 ∷ r) 0 0 in
    ⊎_elim
    (λ late.
    let t = s - (length x + 1) in
    let at : length x + suc t ≡ s = omega arith in (
      t,
      (
        omega (arith, e.0),
        sym (shifted x r (length r - 1)) ∙ (let same : length x + suc (length r - 1) ≡ length (x ++ 10 ∷ r) - 1 = omega arith in ap (λ n. get_or (x ++ 10 ∷ r) n 0) same ∙ e.1),
        sym (shifted x r t) ∙ ap (λ n. get_or (x ++ 10 ∷ r) n 0) at ∙ e.2,
        (λ pos. sym (shifted x r (t - 1)) ∙ (let same : length x + suc (t - 1) ≡ s - 1 = omega arith in ap (λ n. get_or (x ++ 10 ∷ r) n 0) same ∙ e.3 (omega arith))),
        (λ k l m ten. e.4 (length x + suc k) (omega arith) (omega arith) (shifted x r k ∙ ten)),
      ),
    ))
    (λ early. absurd (e.4 (length x) early (omega arith) mid))
    (order (length x) s)

not_plain : (ls : List (List ℕ)) (s : ℕ) → All Plain ls → EndsAt (lines ls) s → ⊥
not_plain [] s all e = omega (arith, e.0)
not_plain (x ∷ []) s all e =
    let p = all.0 in
    let long : length (x ++ 10 ∷ []) ≡ length x + 1 = length-append x (10 ∷ []) in
    ⊎_elim
    (λ later. p.1 (s - 1) (omega (arith, e.0)) (sym (get_or_append_left x (10 ∷ []) 0 (s - 1) (omega (arith, e.0))) ∙ e.3 later))
    (λ here.
    let first : s ≡ 0 = omega arith in
    p.2 (sym (get_or_append_left x (10 ∷ []) 0 0 p.0) ∙ ap (λ n. get_or (x ++ 10 ∷ []) n 0) (sym first) ∙ e.2))
    (order 0 s)
not_plain (x ∷ y ∷ ls) s all e =
    let some : 0 < length (y ++ 10 ∷ lines ls) = omega (arith, length-append y (10 ∷ lines ls)) in
    let later = ends_later x (y ++ 10 ∷ lines ls) s some e in
    not_plain (y ∷ ls) later.0 all.1 later.1

nothing_left : (front rest : List ℕ) → Without 10 rest → 0 < length (front ++ rest) → get_or (front ++ rest) (length (front ++ rest) - 1) 0 ≡ 10 → rest ≡ []
nothing_left front [] none some e = refl
nothing_left front (x ∷ rest) none some e =
    let long : length (front ++ x ∷ rest) ≡ length front + suc (length rest) = length-append front (x ∷ rest) in
    let last : length (front ++ x ∷ rest) - 1 ≡ length front + length rest = omega arith in
    absurd (none (length rest) (omega arith) (sym (get_or-append-add front (x ∷ rest) (length rest) 0) ∙ ap (λ n. get_or (front ++ x ∷ rest) n 0) (sym last) ∙ e))

at_end : (ph : Phase) (k : Known) → Fair k → (s : ℕ) → EndsAt (lines (front_lines ph k)) s → ph ≡ AtEnd
at_end AtDepth k f s e = absurd (not_plain [] s tt e)
at_end AtMarkers k f s e = absurd (not_plain (head_lines k.depth k.names) s (plain_head k.depth k.names f.depth f.names) e)
at_end (AtTies first) k f s e =
    absurd (not_plain (head_lines k.depth k.names ++ tie_lines k.names k.ties) s
    (All-append Plain (head_lines k.depth k.names) (tie_lines k.names k.ties) (plain_head k.depth k.names f.depth f.names) (plain_ties k.names k.room k.ties f.names f.ties)) e)
at_end AtEnd k f s e = refl

-- after all lines of a whole text nothing is left, and the trailer was read
pub ended : (ph : Phase) (k : Known) (file rest : List ℕ) → Fair k → file ≡ lines (front_lines ph k) ++ rest → Without 10 rest → Whole file → (rest ≡ []) × (ph ≡ AtEnd)
ended ph k file rest f is none w =
    let gone : rest ≡ [] = nothing_left (lines (front_lines ph k)) rest none (subst (λ bs. 0 < length bs) is (omega (arith, w.1.1.0))) (subst (λ bs. get_or bs (length bs - 1) 0 ≡ 10) is w.1.1.1) in
    let all : file ≡ lines (front_lines ph k) = is ∙ ap (λ r. lines (front_lines ph k) ++ r) gone ∙ append-nil (lines (front_lines ph k)) in
    (gone, at_end ph k f w.1.0 (subst (λ bs. EndsAt bs w.1.0) all w.1.1))
