use Rattle.std.proofs.Common.{◌≡◌, ◌++◌, map, take, drop}
use Rattle.sheet_text.specs.Calls.{record_of}
use Rattle.sheet_text.proofs.records.write.Given as goal

abbrev pub invariant-loop-i : goal.invariant-loop-i
invariant-loop-i l = l.records ≡ map record_of (take l.i l.ties) ++ drop l.i l.initial.records
