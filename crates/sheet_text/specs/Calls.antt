-- What the calls that check a text and that make a list of it answer and leave. Assumes nothing.
use Rattle.std.specs.Prelude.{◌≡◌, ℕ, ◌<◌, ◌≤◌, ◌⊎◌, List, ◌++◌, map, length, drop, Ok, Err, Result}
use Rattle.store.specs.Meaning.{StoreMeaning}
use Rattle.store.specs.declared.Refusal.TheVariants.{StoreFull, BadSize}
use Rattle.store.specs.declared.TieRecord.{TieRecord}
use Rattle.sheet_text.specs.Format.{Well}
use Rattle.sheet_text.specs.Reading.{well_of, Answer, Only}
use Rattle.sheet_text.specs.Tying.{amount_of, store_of}
use Rattle.sheet_text.specs.declared.faults.Code.TheVariants.{Store}
use Rattle.sheet_text.specs.declared.faults.Fault.{Fault}
use Rattle.sheet_text.specs.declared.header.Header.{Header}
use Rattle.sheet_text.specs.declared.state.State.{State}
use Rattle.sheet_text.specs.declared.ties.Tie.{Tie}

-- ---- checking

-- how many markers the well has, and its total depth; or the fault
abbrev pub header_of : Result Well Fault → Result Header Fault
header_of (Ok w) = Ok (record { markers = length w.names; total_depth = w.depth })
header_of (Err f) = Err f

-- the header of the one answer to the text, which may have as many ties as any list can hold
abbrev pub Checked : List ℕ → Result Header Fault → Type 0
Checked text r = (a : Result Well Fault) × Only (Answer 4096 text) a × (r ≡ header_of a)

-- no refusal for want of room, since 64 markers have fewer pairs
abbrev pub Roomy : Result Header Fault → Type 0
Roomy (Ok h) = Unit
Roomy (Err f) = f.code ≡ Store StoreFull → ⊥

-- ---- making

abbrev pub record_of : Tie → TieRecord
record_of t = record { start = t.start; end = t.end; amount = amount_of t }

-- a store of the well that has room for so many ties
abbrev pub well_store : ℕ → Well → StoreMeaning
well_store room w = store_of (length w.names) room w.ties

-- the answer to a text of which a list is made in so many records: 14 at place 0 first of all
abbrev pub Making : ℕ → List ℕ → Result Well Fault → Type 0
Making room text a = ((4096 < room) × (a ≡ Err (record { code = Store BadSize; place = 0 }))) ⊎ ((room ≤ 4096) × Answer room text a)

-- the ties stand at the front of the records, and the rest is as it was; a refusal leaves all of them as they were
abbrev pub Recorded : List ℕ → List TieRecord → Result ℕ Fault → State → List TieRecord → Type 0
Recorded text before (Ok count) s after = Only (Making (length before) text) (Ok (well_of s)) × (count ≡ length (well_of s).ties) × (after ≡ map record_of (well_of s).ties ++ drop count before)
Recorded text before (Err f) s after = Only (Making (length before) text) (Err f) × (after ≡ before)
