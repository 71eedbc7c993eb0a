use Rattle.std.proofs.Common.{◌≡◌, false, Some, rules}
use Rattle.std.proofs.lemmas.Result.{err_from_is_err_and}
use Rattle.sheet_text.specs.Naming.{names_of, place_of}
use Rattle.sheet_text.specs.Reading.{known}
use Rattle.sheet_text.specs.Tying.{ties_of, tied_in}
use Rattle.sheet_text.proofs.Stored.{tie_read}
use Rattle.sheet_text.proofs.state.State.tie.Goals as goal

pub returns-in_err-put : goal.returns-in_err-put
returns-in_err-put c =
    let s = c.args.self.now in
    let from : place_of (names_of s.names) c.args.start.now ≡ Some c.in_ok-start.start = search rules in
    let to : place_of (names_of s.names) c.args.end.now ≡ Some c.in_ok-end.end = search rules in
    let new : tied_in (ties_of s.ties) c.in_ok-start.start c.in_ok-end.end ≡ false = search rules in
    let p = err_from_is_err_and c.from_residual-in_err-put.result c.from_residual-in_err-put.ensures.1 in
    rw (p.1, p.2) (tie_read (known s) c.args.here c.in_ok-first.first c.args.start.now c.args.end.now (record { start = c.in_ok-start.start; end = c.in_ok-end.end; amount = c.args.amount }) _
    c.in_ok-first.ensures from to new s.ties.ok.0 c.in_err-put.ensures)
