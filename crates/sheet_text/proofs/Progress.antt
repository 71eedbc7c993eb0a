-- What comes of a text that is read to its end is said by its lines. Assumes nothing.
use Rattle.std.proofs.Common.{◌≡◌, ℕ, ◌+◌, List, [], ◌∷◌, ◌++◌, length, Ok, Result, sym, refl, ap, ◌∙◌, subst, append_assoc, arith, length-append}
use Rattle.line_text.specs.Lines.{spell, said}
use Rattle.line_text.specs.Spelling.{Without}
use Rattle.sheet_text.specs.Format.{lines, Named}
use Rattle.sheet_text.specs.Reading.{Known, start, read_line, Good, Outcome}
use Rattle.sheet_text.specs.Reading.Outcome.{ended, good, faulty}
use Rattle.sheet_text.specs.declared.faults.Fault.{Fault}
use Rattle.sheet_text.proofs.Determined.{err_ok, ok_same}
use Rattle.sheet_text.proofs.Fronts.{front_lines, front, Fair, lines_append}
use Rattle.sheet_text.proofs.Stepping.{line_step, no_ties}

pub cut_length : (rest line after : List ℕ) → rest ≡ line ++ 10 ∷ after → length rest ≡ length line + 1 + length after
cut_length rest line after e = omega (arith, ap length e, length-append line (10 ∷ after))

no_names : Named []
no_names = record { few = omega arith; good = λ i l. absurd (omega arith); apart = λ i j l m. absurd (omega arith) }

pub fair_start : (room : ℕ) → Fair (start room)
fair_start room = record { depth = omega arith; names = no_names; ties = no_ties 0 room [] refl; staged = (refl, refl) }

-- one line more
pub advances : (k m : Known) (file rest line after : List ℕ) (place : ℕ) → Fair k → file ≡ front k ++ rest → rest ≡ line ++ 10 ∷ after → place ≡ length (front k) → Good k place line m
    → Fair m × (m.room ≡ k.room) × (file ≡ front m ++ after) × (place + (length line + 1) ≡ length (front m))
advances k m file rest line after place f is cut at (l, v, s, e) =
    let step = line_step k m l f v (ap (λ p. read_line k p (said l)) (sym at) ∙ e) in
    let more : front m ≡ front k ++ (line ++ 10 ∷ []) = ap lines step.1 ∙ lines_append (front_lines k.phase k) (spell l ∷ []) ∙ ap (λ l. front k ++ (l ++ 10 ∷ [])) s in
    let long : length (front m) ≡ length (front k) + length (line ++ 10 ∷ []) = ap length more ∙ length-append (front k) (line ++ 10 ∷ []) in (
      step.0,
      step.2,
      is ∙ ap (λ r. front k ++ r) (cut ∙ sym (append_assoc line (10 ∷ []) after)) ∙ sym (append_assoc (front k) (line ++ 10 ∷ []) after) ∙ ap (λ r. r ++ after) (sym more),
      omega (arith, length-append line (10 ∷ [])),
    )

-- a text whose lines say m, but for an unended rest
abbrev pub ReadTo : Known → List ℕ → Known → Type 0
ReadTo k file m = Fair m × (m.room ≡ k.room) × ((left : List ℕ) × (file ≡ front m ++ left) × Without 10 left)

pub read_to : (r : Result Known Fault) (m : Known) (file : List ℕ) {k : Known} {place : ℕ} {rest : List ℕ} → Outcome r k place rest → r ≡ Ok m → Fair k → file ≡ front k ++ rest → place ≡ length (front k) → ReadTo k file m
read_to r m file {k = k} {rest = rest} (ended w e) is f front-is at = subst (ReadTo k file) (ok_same (sym e ∙ is)) (f, refl, (rest, front-is, w))
read_to r m file {k = k} {place = place} {rest = rest} (good n line after w cut g o) is f front-is at =
    let next = advances k n file rest line after place f front-is cut at g in
    let last = read_to r m file o is next.0 next.2 next.3 in
    (last.0, last.1 ∙ next.1, last.2)
read_to r m file (faulty c line after w cut g e) is f front-is at = absurd (err_ok (sym e ∙ is))
