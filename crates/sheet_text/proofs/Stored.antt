-- What a store of the ties so far answers to one more. Assumes nothing.
use Rattle.std.proofs.Common.{◌≡◌, ℕ, ◌-◌, ◌<◌, ◌≤◌, false, cond, ◌&&◌, eqb, ltb, List, length, is_some, Some, Ok, Err, Result, sym, ap, ◌∙◌, arith}
use Rattle.std.proofs.lemmas.Bool.Decides.{nat_tests}
use Rattle.std.proofs.lemmas.Bool.{cond-true, cond-false, lt-ltb, eqb-false, and_from}
use Rattle.store.specs.Meaning.{put_answer}
use Rattle.store.specs.declared.Refusal.{Refusal}
use Rattle.store.specs.declared.Refusal.TheVariants.{UnknownMarker, SameMarker, StoreFull}
use Rattle.sheet_text.specs.Naming.{place_of}
use Rattle.sheet_text.specs.Reading.{Known, put_tie, add_tie, first_tie, after, read_tie}
use Rattle.sheet_text.specs.Tying.{tied_in, tie_of, store_of, tie_answer}
use Rattle.sheet_text.specs.declared.faults.Code.TheVariants.{Name}
use Rattle.sheet_text.specs.declared.ties.Tie.{Tie}
use Rattle.sheet_text.proofs.Determined.{else_ok}
use Rattle.sheet_text.proofs.Listed.{tied_none}
use Rattle.sheet_text.proofs.Places.{found}

same_tests : (count room : ℕ) → count ≤ room → eqb (room - count) 0 ≡ eqb count room
same_tests count room few = grind (arith, nat_tests)

pub store_says : (n room : ℕ) (ts : List Tie) (a b : ℕ) → a < n → b < n → tied_in ts a b ≡ false → length ts ≤ room → put_answer (store_of n room ts) a b ≡ tie_answer (length ts) room a b
store_says n room ts a b from to new few =
    let free : Result Unit Refusal = cond (eqb (room - length ts) 0) (Err StoreFull) (Ok tt) in
    cond-true (ltb a n && ltb b n) (cond (eqb a b) (Err SameMarker) (cond (is_some (tie_of ts a b)) (Ok tt) free)) (Err UnknownMarker) (and_from (ltb a n) (ltb b n) (lt-ltb a n from) (lt-ltb b n to))
    ∙ ap (λ o. cond (eqb a b) (Err SameMarker) (cond (is_some o) (Ok tt) free)) (tied_none ts a b new)
    ∙ ap (λ t. cond (eqb a b) (Err SameMarker) (cond t (Err StoreFull) (Ok tt))) (same_tests (length ts) room few)

-- what the store lets through
pub let_through : (count room a b : ℕ) → tie_answer count room a b ≡ Ok tt → (a ≡ b → ⊥) × (count ≡ room → ⊥)
let_through count room a b e =
    let (unlike, rest) = else_ok (eqb a b) (cond (eqb count room) (Err StoreFull) (Ok tt)) SameMarker e in
    (eqb-false a b unlike, eqb-false count room (else_ok (eqb count room) (Ok tt) StoreFull rest).0)

-- a tie between known names of a pair that is not tied
pub added : (k : Known) (first : ℕ) (from to : List ℕ) (t : Tie) → place_of k.names from ≡ Some t.start → place_of k.names to ≡ Some t.end → tied_in k.ties t.start t.end ≡ false → length k.ties ≤ k.room
    → add_tie k first (place_of k.names from) (place_of k.names to) t.amount ≡ put_tie k first t (tie_answer (length k.ties) k.room t.start t.end)
added k first from to t p q new few =
    let a = found k.names from t.start p in
    let b = found k.names to t.end q in
    let says = store_says (length k.names) k.room k.ties t.start t.end a.0 b.0 new few in
    (λ i. add_tie k first (p i) (q i) t.amount)
    ∙ cond-false (tied_in k.ties t.start t.end) (Err Name) (put_tie k first t (put_answer (store_of (length k.names) k.room k.ties) t.start t.end)) new
    ∙ ap (put_tie k first t) says

-- a tie line of such names, where the first tie line may stand
pub tie_read : (k : Known) (here first : ℕ) (from to : List ℕ) (t : Tie) (r : Result Unit Refusal) → Ok first ≡ first_tie k.phase k here → place_of k.names from ≡ Some t.start → place_of k.names to ≡ Some t.end → tied_in k.ties t.start t.end ≡ false
    → length k.ties ≤ k.room → tie_answer (length k.ties) k.room t.start t.end ≡ r → read_tie k here from to t.amount ≡ put_tie k first t r
tie_read k here first from to t r is p q new few says =
    ap (λ o. after o (λ first. add_tie k first (place_of k.names from) (place_of k.names to) t.amount)) (sym is) ∙ added k first from to t p q new few ∙ ap (put_tie k first t) says
