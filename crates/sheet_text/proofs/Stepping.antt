-- A good line adds itself to what is said, and keeps it fair. Assumes nothing.
use Rattle.std.proofs.Common.{◌≡◌, ℕ, ◌<◌, ◌≤◌, false, ◌&&◌, ltb, List, [], ◌∷◌, ◌++◌, length, ℤ, Some, None, Ok, Err, decimal, Option, Result, sym, refl, ap, ◌∙◌, subst, append_assoc, append-nil, arith}
use mathlib.Core.List.{map-append}
use Rattle.std.specs.Str.{bytes_eq}
use Rattle.std.proofs.lemmas.Slice.Eq.{bytes_eq-Decides}
use Rattle.std.proofs.lemmas.List.{length_push}
use Rattle.std.proofs.lemmas.Bool.{ltb-true, ltb-false, and_parts}
use Rattle.store.specs.declared.Refusal.{Refusal}
use Rattle.store.specs.Meaning.{put_answer}
use Rattle.line_text.specs.Lines.{spell, spell_amount, Valid, said}
use Rattle.line_text.specs.Spelling.{Bounded, Name}
use Rattle.line_text.specs.declared.lines.Line.{Line}
use Rattle.line_text.specs.declared.lines.TieAmount.{TieAmount}
use Rattle.sheet_text.specs.declared.faults.Code.{Code}
use Rattle.line_text.specs.declared.lines.Line.TheVariants.{TotalDepth as DepthLine, Marker as MarkerLine, Tie as TieLine, Trailer as TrailerLine}
use Rattle.sheet_text.specs.Format.{lines, depth_text, marker_text, tie_text, head_lines, tie_lines, Tied}
use Rattle.sheet_text.specs.Naming.{place_of}
use Rattle.sheet_text.specs.Tying.{tied_in, store_of, tie_answer}
use Rattle.sheet_text.specs.Reading.{Known, read_depth, add_name, read_marker, put_tie, add_tie, first_tie, after, read_tie, finish, read_trailer, read_line}
use Rattle.sheet_text.proofs.Determined.{err_ok, ok_same, if_ok, else_ok}
use Rattle.sheet_text.proofs.Fronts.{tied_lines, front_lines, front, Staged, Fair}
use Rattle.sheet_text.specs.declared.faults.Code.TheVariants.{Name as NameCode, Count, Trailer}
use Rattle.sheet_text.specs.declared.state.Phase.{Phase}
use Rattle.sheet_text.specs.declared.state.Phase.TheVariants.{TotalDepth as AtDepth, Markers as AtMarkers, Ties as AtTies, End as AtEnd}
use Rattle.sheet_text.specs.declared.ties.Tie.{Tie}
use Rattle.sheet_text.proofs.Stored.{store_says, let_through}
use Rattle.sheet_text.proofs.Places.{found, missing, named_push, tied_push}

-- m is known after the line, where `before` says what k knows
abbrev pub Stepped : List (List ℕ) → Known → List ℕ → Known → Type 0
Stepped before k line m = Fair m × (front_lines m.phase m ≡ before ++ line ∷ []) × (m.room ≡ k.room)

depth_step : (ph : Phase) (k m : Known) (mm : ℤ) → Fair k → Staged ph k → Bounded mm → read_depth ph k mm ≡ Ok m → Stepped (front_lines ph k) k (depth_text mm) m
depth_step AtDepth k m mm f s v e =
    subst (Stepped [] k (depth_text mm)) (ok_same e)
    (record { depth = v; names = f.names; ties = f.ties; staged = s.1 }, ap (head_lines mm) s.0, refl)
depth_step AtMarkers k m mm f s v e = absurd (err_ok e)
depth_step (AtTies first) k m mm f s v e = absurd (err_ok e)
depth_step AtEnd k m mm f s v e = absurd (err_ok e)

head_push : (h : ℤ) (ns : List (List ℕ)) (name : List ℕ) → head_lines h (ns ++ name ∷ []) ≡ head_lines h ns ++ marker_text name ∷ []
head_push h ns name = ap (λ ls. depth_text h ∷ ls) (map-append marker_text ns (name ∷ []))

abbrev with_name : Known → List ℕ → Known
with_name k name = record { phase = AtMarkers; depth = k.depth; names = k.names ++ name ∷ []; ties = k.ties; room = k.room }

pub no_ties : (n room : ℕ) (ts : List Tie) → ts ≡ [] → Tied n room ts
no_ties n room ts e =
    let z : length ts ≡ 0 = ap length e in
    record {
      few = omega arith;
      starts = λ i l. absurd (omega arith);
      ends = λ i l. absurd (omega arith);
      unlike = λ i l. absurd (omega arith);
      bounded = λ i l. absurd (omega arith);
      apart = λ i j l m. absurd (omega arith);
    }

name_step : (k m : Known) (name : List ℕ) (o : Option ℕ) → place_of k.names name ≡ o → Fair k → Staged AtMarkers k → Name name → add_name k name o ≡ Ok m → Stepped (front_lines AtMarkers k) k (marker_text name) m
name_step k m name (Some j) p f s v e = absurd (err_ok (if_ok (ltb (length k.names) 64) (Err NameCode) Count e).1)
name_step k m name None p f s v e =
    let (few, is) = if_ok (ltb (length k.names) 64) (Ok (with_name k name)) Count e in
    subst (Stepped (front_lines AtMarkers k) k (marker_text name)) (ok_same is) (
      record {
        depth = f.depth;
        names = named_push k.names name f.names (ltb-true (length k.names) 64 few) v (missing k.names name p);
        ties = no_ties (length (k.names ++ name ∷ [])) k.room k.ties s;
        staged = s;
      },
      head_push k.depth k.names name,
      refl,
    )

marker_step : (ph : Phase) (k m : Known) (name : List ℕ) → Fair k → Staged ph k → Name name → read_marker ph k name ≡ Ok m → Stepped (front_lines ph k) k (marker_text name) m
marker_step AtDepth k m name f s v e = absurd (err_ok e)
marker_step AtMarkers k m name f s v e = name_step k m name (place_of k.names name) refl f s v e
marker_step (AtTies first) k m name f s v e = absurd (err_ok e)
marker_step AtEnd k m name f s v e = absurd (err_ok e)

module _ (k m : Known) (first : ℕ) (two : 2 ≤ length k.names) (at : first ≡ length (lines (head_lines k.depth k.names))) (f : Fair k) where
  put_step : (t : Tie) (r : Result Unit Refusal) → tie_answer (length k.ties) k.room t.start t.end ≡ r → t.start < length k.names → t.end < length k.names → Bounded t.amount.mm → tied_in k.ties t.start t.end ≡ false
      → put_tie k first t r ≡ Ok m → Stepped (tied_lines k) k (tie_text k.names t) m
  put_step t (Err w) q a b v new e = absurd (err_ok e)
  put_step t (Ok u) q a b v new e =
      let free = let_through (length k.ties) k.room t.start t.end q in
      let unlike = free.0 in
      let few : length k.ties < k.room = let full = free.1 in let most = f.ties.few in omega arith in
      let some : 0 < length (k.ties ++ t ∷ []) = omega (arith, length_push k.ties t) in
      subst (Stepped (tied_lines k) k (tie_text k.names t)) (ok_same e) (
        record {
          depth = f.depth;
          names = f.names;
          ties = tied_push (length k.names) k.room k.ties t f.ties few a b unlike v new;
          staged = (two, some, at);
        },
        ap (λ ls. head_lines k.depth k.names ++ ls) (map-append (tie_text k.names) k.ties (t ∷ [])) ∙ sym (append_assoc (head_lines k.depth k.names) (tie_lines k.names k.ties) (tie_text k.names t ∷ [])),
        refl,
      )

  add_step : (s u : List ℕ) (a b : Option ℕ) (amount : TieAmount) → place_of k.names s ≡ a → place_of k.names u ≡ b → Bounded amount.mm → add_tie k first a b amount ≡ Ok m
      → Stepped (tied_lines k) k (84 ∷ 32 ∷ (s ++ 32 ∷ (u ++ 32 ∷ spell_amount amount))) m
  add_step s u None b amount p q v e = absurd (err_ok e)
  add_step s u (Some a) None amount p q v e = absurd (err_ok e)
  add_step s u (Some a) (Some b) amount p q v e =
      let t : Tie = record { start = a; end = b; amount = amount } in
      let from = found k.names s a p in
      let to = found k.names u b q in
      let r = put_answer (store_of (length k.names) k.room k.ties) a b in
      let (new, is) = else_ok (tied_in k.ties a b) (put_tie k first t r) NameCode e in
      subst (λ line. Stepped (tied_lines k) k line m) (λ i. 84 ∷ 32 ∷ (from.1 i ++ 32 ∷ (to.1 i ++ 32 ∷ spell_amount amount)))
      (put_step t r (sym (store_says (length k.names) k.room k.ties a b from.0 to.0 new f.ties.few)) from.0 to.0 v new is)

  finish_step : (p c : List ℕ) → finish k first p c ≡ Ok m → Stepped (tied_lines k) k (90 ∷ 32 ∷ (p ++ 32 ∷ c)) m
  finish_step p c e =
      let ended : Known = record { phase = AtEnd; depth = k.depth; names = k.names; ties = k.ties; room = k.room } in
      let (test, is) = if_ok (bytes_eq p (decimal first) && bytes_eq c (decimal (length k.ties))) (Ok ended) Trailer e in
      let both = and_parts (bytes_eq p (decimal first)) (bytes_eq c (decimal (length k.ties))) test in
      let ps = (bytes_eq-Decides p (decimal first)).0 both.0 ∙ ap decimal at in
      let cs = (bytes_eq-Decides c (decimal (length k.ties))).0 both.1 in
      subst (Stepped (tied_lines k) k (90 ∷ 32 ∷ (p ++ 32 ∷ c))) (ok_same is) (
        record { depth = f.depth; names = f.names; ties = f.ties; staged = two },
        (λ i. head_lines k.depth k.names ++ (tie_lines k.names k.ties ++ (90 ∷ 32 ∷ (sym ps i ++ 32 ∷ sym cs i)) ∷ []))
            ∙ sym (append_assoc (head_lines k.depth k.names) (tie_lines k.names k.ties) ((90 ∷ 32 ∷ (p ++ 32 ∷ c)) ∷ [])),
        refl,
      )

-- with no ties yet, the ties say nothing
untied_lines : (k : Known) → Staged AtMarkers k → tied_lines k ≡ front_lines AtMarkers k
untied_lines k s = ap (λ ts. head_lines k.depth k.names ++ tie_lines k.names ts) s ∙ append-nil (head_lines k.depth k.names)

-- a tie line or the trailer comes after two markers, and the first tie line stands behind the markers
placed : (ph : Phase) (k : Known) (first : ℕ) → Staged ph k → first_tie ph k (length (lines (front_lines ph k))) ≡ Ok first → (2 ≤ length k.names) × (first ≡ length (lines (head_lines k.depth k.names))) × (tied_lines k ≡ front_lines ph k)
placed AtDepth k first g e = absurd (err_ok e)
placed AtMarkers k first g e =
    let (two, is) = else_ok (ltb (length k.names) 2) (Ok (length (lines (front_lines AtMarkers k)))) Count e in
    (ltb-false (length k.names) 2 two, ok_same (sym is), untied_lines k g)
placed (AtTies at) k first g e = (g.0, ok_same (sym e) ∙ g.2, refl)
placed AtEnd k first g e = absurd (err_ok e)

after_ok : (r : Result ℕ Code) (f : ℕ → Result Known Code) (m : Known) → after r f ≡ Ok m → (x : ℕ) × (r ≡ Ok x) × (f x ≡ Ok m)
after_ok (Ok x) f m e = (x, refl, e)
after_ok (Err c) f m e = absurd (err_ok e)

tie_step : (k m : Known) (s u : List ℕ) (amount : TieAmount) → Fair k → Bounded amount.mm → read_tie k (length (front k)) s u amount ≡ Ok m → Stepped (front_lines k.phase k) k (84 ∷ 32 ∷ (s ++ 32 ∷ (u ++ 32 ∷ spell_amount amount))) m
tie_step k m s u amount f v e =
    let (first, is, added) = after_ok (first_tie k.phase k (length (front k))) (λ first. add_tie k first (place_of k.names s) (place_of k.names u) amount) m e in
    let p = placed k.phase k first f.staged is in
    subst (λ before. Stepped before k (84 ∷ 32 ∷ (s ++ 32 ∷ (u ++ 32 ∷ spell_amount amount))) m) p.2 (add_step k m first p.0 p.1 f s u (place_of k.names s) (place_of k.names u) amount refl refl v added)

trailer_step : (k m : Known) (p c : List ℕ) → Fair k → read_trailer k (length (front k)) p c ≡ Ok m → Stepped (front_lines k.phase k) k (90 ∷ 32 ∷ (p ++ 32 ∷ c)) m
trailer_step k m p c f e =
    let (first, is, done) = after_ok (first_tie k.phase k (length (front k))) (λ first. finish k first p c) m e in
    let q = placed k.phase k first f.staged is in
    subst (λ before. Stepped before k (90 ∷ 32 ∷ (p ++ 32 ∷ c)) m) q.2 (finish_step k m first q.0 q.1 f p c done)

pub line_step : (k m : Known) (l : Line) → Fair k → Valid l → read_line k (length (front k)) (said l) ≡ Ok m → Stepped (front_lines k.phase k) k (spell l) m
line_step k m (DepthLine mm) f v e = depth_step k.phase k m mm f f.staged v e
line_step k m (MarkerLine name) f v e = marker_step k.phase k m name.now f f.staged v e
line_step k m (TieLine s u amount) f v e = tie_step k m s.now u.now amount f v.2 e
line_step k m (TrailerLine p c) f v e = trailer_step k m p.now c.now f e
