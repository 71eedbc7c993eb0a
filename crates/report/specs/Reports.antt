-- The answer to a well's text. Assumes nothing.
use Rattle.std.specs.Prelude.{◌≡◌, ℕ, Bool, false, List, [], pos, Ok, Err, slice_index_or}
use Rattle.measure.specs.declared.Amount.{Amount}
use Rattle.measure.specs.declared.Measure as measure
use Rattle.measure.specs.declared.strict.StrictDepth.{StrictDepth}
use Rattle.measure.specs.contracts.strict.StrictDepthMeasure.TheImpl.{ghosts}
use Rattle.depth_text.specs.Lines.{refused_line}
use Rattle.sheet_text.specs.Calls.{Making, well_store}
use Rattle.sheet_text.specs.Format.{Well}
use Rattle.sheet_text.specs.Reading.{number_of, Only}
use Rattle.sheet_text.specs.declared.faults.Fault.{Fault}
use Rattle.report.specs.Told.{Told}

-- strict depth
abbrev pub strict : measure.Ghosts StrictDepth
strict = ghosts

-- the total depth of a well, which has no marks
abbrev pub total_of : Well → Amount
total_of w = record { mm = w.depth; marks = pos 0 }

-- the bytes, and whether they give depths: the one fault of a text that is of no well; or what a solver over a list of 256
-- tells of the one well that the text is of
pub data Reports (text bytes : List ℕ) : Bool → Type 0 where
  faulty : (f : Fault) → Only (Making 256 text) (Err f) → bytes ≡ refused_line (number_of f.code) f.place → Reports text bytes false
  read : (w : Well) (solved : Bool) → Only (Making 256 text) (Ok w) → Told strict (total_of w) (well_store 256 w) (λ m. slice_index_or w.names m []) bytes solved → Reports text bytes solved
