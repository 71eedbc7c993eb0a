use Rattle.std.proofs.Common.{◌≡◌, ◌+◌, length, Result}
use Rattle.sheet_text.specs.Reading.{Known, known, start, Outcome}
use Rattle.sheet_text.specs.declared.faults.Fault.{Fault}
use Rattle.sheet_text.proofs.reader.read_lines.Given as goal

-- what comes of the rest comes of the text
abbrev pub invariant-loop-line : goal.invariant-loop-line
invariant-loop-line l = ((r : Result Known Fault) → Outcome r (known l.state) l.place l.rest → Outcome r (start l.initial.state.ties.room) 0 l.file) × (l.place + length l.rest ≡ length l.file)

abbrev pub decreases-loop-line : goal.decreases-loop-line
decreases-loop-line l = length l.rest
