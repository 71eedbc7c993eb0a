-- What one more line adds to what is known of a text, when it is refused, and what comes of a whole text. Assumes nothing.
use Rattle.std.specs.Prelude.{◌≡◌, ℕ, ◌+◌, ◌-◌, ◌<◌, ◌≤◌, cond, ◌&&◌, ◌⊎◌, List, [], ◌∷◌, ◌++◌, length, ℤ, pos, is_some, Some, None, Ok, Err, decimal, Option, Result, ◌≢◌, nat_lt, slice_index}
use Rattle.std.specs.Str.{bytes_eq}
use Rattle.store.specs.Meaning.{code_of, put_answer}
use Rattle.store.specs.declared.Refusal.{Refusal}
use Rattle.line_text.specs.Lines.{spell, Valid, Said, said}
use Rattle.line_text.specs.Lines.Said.{total_depth, marker, tie, trailer}
use Rattle.line_text.specs.Spelling.{Without}
use Rattle.line_text.specs.declared.lines.Line.{Line}
use Rattle.line_text.specs.declared.lines.TieAmount.{TieAmount}
use Rattle.sheet_text.specs.Format.{Well, Says}
use Rattle.sheet_text.specs.Naming.{names_of, place_of}
use Rattle.sheet_text.specs.Tying.{ties_of, tied_in, store_of}
use Rattle.sheet_text.specs.declared.faults.Code.{Code}
use Rattle.sheet_text.specs.declared.faults.Code.TheVariants.{Store, Length, Form, Name, Count, Trailer}
use Rattle.sheet_text.specs.declared.faults.Fault.{Fault}
use Rattle.sheet_text.specs.declared.state.State.{State}
use Rattle.sheet_text.specs.declared.state.Phase.{Phase}
use Rattle.sheet_text.specs.declared.state.Phase.TheVariants.{TotalDepth as AtDepth, Markers as AtMarkers, Ties as AtTies, End as AtEnd}
use Rattle.sheet_text.specs.declared.ties.Tie.{Tie}

-- the number of a code
abbrev pub number_of : Code → ℕ
number_of (Store e) = code_of e
number_of Length = 21
number_of Form = 22
number_of Name = 23
number_of Count = 24
number_of Trailer = 25

-- what is known of a text: which lines may come next, what the lines so far say, and the most ties that it may have
pub record Known : Type 0 where
  pub phase : Phase
  pub depth : ℤ
  pub names : List (List ℕ)
  pub ties : List Tie
  pub room : ℕ

abbrev pub start : ℕ → Known
start room = record { phase = AtDepth; depth = pos 0; names = []; ties = []; room = room }

-- ---- one line

abbrev pub read_depth : Phase → Known → ℤ → Result Known Code
read_depth AtDepth k mm = Ok (record { phase = AtMarkers; depth = mm; names = k.names; ties = k.ties; room = k.room })
read_depth AtMarkers k mm = Err Form
read_depth (AtTies first) k mm = Err Form
read_depth AtEnd k mm = Err Form

-- a name, and its place in the names so far
abbrev pub add_name : Known → List ℕ → Option ℕ → Result Known Code
add_name k name o =
    cond (nat_lt (length k.names) 64)
    (cond (is_some o) (Err Name) (Ok (record { phase = AtMarkers; depth = k.depth; names = k.names ++ name ∷ []; ties = k.ties; room = k.room })))
    (Err Count)

abbrev pub read_marker : Phase → Known → List ℕ → Result Known Code
read_marker AtDepth k name = Err Form
read_marker AtMarkers k name = add_name k name (place_of k.names name)
read_marker (AtTies first) k name = Err Form
read_marker AtEnd k name = Err Form

-- a tie to which the store answers r; the first tie line stands at `first`
abbrev pub put_tie : Known → ℕ → Tie → Result Unit Refusal → Result Known Code
put_tie k first t (Err e) = Err (Store e)
put_tie k first t (Ok _) = Ok (record { phase = AtTies first; depth = k.depth; names = k.names; ties = k.ties ++ t ∷ []; room = k.room })

-- a tie between the markers of two names: it is put into a store of the ties so far, if its pair is not tied there
abbrev pub add_tie : Known → ℕ → Option ℕ → Option ℕ → TieAmount → Result Known Code
add_tie k first None b amount = Err Name
add_tie k first (Some a) None amount = Err Name
add_tie k first (Some a) (Some b) amount =
    cond (tied_in k.ties a b) (Err Name)
    (put_tie k first (record { start = a; end = b; amount = amount }) (put_answer (store_of (length k.names) k.room k.ties) a b))

-- where the first tie line stands, if the line at `here` may be a tie line or the trailer
abbrev pub first_tie : Phase → Known → ℕ → Result ℕ Code
first_tie AtDepth k here = Err Form
first_tie AtMarkers k here = cond (nat_lt (length k.names) 2) (Err Count) (Ok here)
first_tie (AtTies first) k here = Ok first
first_tie AtEnd k here = Err Form

-- what f makes of x where r is `Ok x`
abbrev pub after : Result ℕ Code → (ℕ → Result Known Code) → Result Known Code
after (Ok x) f = f x
after (Err c) f = Err c

abbrev pub read_tie : Known → ℕ → List ℕ → List ℕ → TieAmount → Result Known Code
read_tie k here s e amount = after (first_tie k.phase k here) (λ first. add_tie k first (place_of k.names s) (place_of k.names e) amount)

-- the trailer is true where it is written as the true numbers are
abbrev pub finish : Known → ℕ → List ℕ → List ℕ → Result Known Code
finish k first place count =
    cond (bytes_eq place (decimal first) && bytes_eq count (decimal (length k.ties)))
    (Ok (record { phase = AtEnd; depth = k.depth; names = k.names; ties = k.ties; room = k.room }))
    (Err Trailer)

abbrev pub read_trailer : Known → ℕ → List ℕ → List ℕ → Result Known Code
read_trailer k here place count = after (first_tie k.phase k here) (λ first. finish k first place count)

-- what is known after the line at `place`, or why it is refused
abbrev pub read_line : Known → ℕ → Said → Result Known Code
read_line k place (total_depth mm) = read_depth k.phase k mm
read_line k place (marker name) = read_marker k.phase k name
read_line k place (tie s e a) = read_tie k place s e a
read_line k place (trailer said count) = read_trailer k place said count

-- bytes that spell a line after which m is known
abbrev pub Good : Known → ℕ → List ℕ → Known → Type 0
Good k place bs m = (l : Line) × Valid l × (spell l ≡ bs) × (read_line k place (said l) ≡ Ok m)

-- bytes that spell no line, or a line that is refused with the code c
abbrev pub Faulty : Known → ℕ → List ℕ → Code → Type 0
Faulty k place bs c = ((c ≡ Form) × ((l : Line) → Valid l → spell l ≢ bs)) ⊎ ((l : Line) × Valid l × (spell l ≡ bs) × (read_line k place (said l) ≡ Err c))

-- ---- all lines

-- r comes of the bytes `rest`, which stand at `place`, where k is known before: what is known after their last line, or the fault of their first faulty line
pub data Outcome (r : Result Known Fault) : Known → ℕ → List ℕ → Type 0 where
  ended : {k : Known} {place : ℕ} {rest : List ℕ} → Without 10 rest → r ≡ Ok k → Outcome r k place rest
  good : {k : Known} {place : ℕ} {rest : List ℕ} (m : Known) (line after : List ℕ) → Without 10 line → rest ≡ line ++ 10 ∷ after → Good k place line m
      → Outcome r m (place + (length line + 1)) after → Outcome r k place rest
  faulty : {k : Known} {place : ℕ} {rest : List ℕ} (c : Code) (line after : List ℕ) → Without 10 line → rest ≡ line ++ 10 ∷ after → Faulty k place line c
      → r ≡ Err (record { code = c; place = place }) → Outcome r k place rest

-- the last line, which begins at s, is ended and begins with `Z`
abbrev pub EndsAt : List ℕ → ℕ → Type 0
EndsAt bs s = (s + 1 < length bs) × (slice_index bs (length bs - 1) ≡ 10) × (slice_index bs s ≡ 90) × (0 < s → slice_index bs (s - 1) ≡ 10) × ((k : ℕ) → s ≤ k → k + 1 < length bs → slice_index bs k ≢ 10)

-- a text that is not too long, and has an ended last line that begins with `Z`
abbrev pub Whole : List ℕ → Type 0
Whole bs = (length bs ≤ 65536) × ((s : ℕ) × EndsAt bs s)

-- 21 at place 0 where the text is not whole, else the fault of its first faulty line
abbrev pub Refused : ℕ → List ℕ → Fault → Type 0
Refused room file f = ((Whole file → ⊥) × (f ≡ record { code = Length; place = 0 })) ⊎ (Whole file × Outcome (Err f) (start room) 0 file)

-- the answer to a text of at most `room` ties: the well that it says, or its fault
abbrev pub Answer : ℕ → List ℕ → Result Well Fault → Type 0
Answer room file (Ok w) = Says room file w
Answer room file (Err f) = Refused room file f

-- P holds of x, and of nothing else
abbrev pub Only : {X : Type 0} → (X → Type 0) → X → Type 0
Only {X} P x = P x × ((y : X) → P y → y ≡ x)

-- ---- what calls leave

abbrev pub known : State → Known
known s = record { phase = s.phase; depth = s.total_depth; names = names_of s.names; ties = ties_of s.ties; room = s.ties.room }

abbrev pub well_of : State → Well
well_of s = record { depth = s.total_depth; names = names_of s.names; ties = ties_of s.ties }

-- what a call that fills x in answers, together with x
abbrev pub filled : {X E : Type 0} → X → Result (Unit {0}) E → Result X E
filled x (Ok _) = Ok x
filled x (Err e) = Err e

-- a call that leaves t, and answers r, does what `want` says
abbrev pub Does : Result Known Code → Result (Unit {0}) Code → State → Type 0
Does want (Ok _) t = want ≡ Ok (known t)
Does want (Err e) t = want ≡ Err e

abbrev pub DoesBytes : Known → ℕ → List ℕ → Result (Unit {0}) Code → State → Type 0
DoesBytes k place bs (Ok _) t = Good k place bs (known t)
DoesBytes k place bs (Err e) t = Faulty k place bs e
