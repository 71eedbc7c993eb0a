use Rattle.std.proofs.Common.{rules}
use Rattle.sheet_text.specs.Reading.{known}
use Rattle.sheet_text.proofs.Concluded.{not_whole, concludes}
use Rattle.sheet_text.proofs.reader.read.Goals as goal

pub returns-then-not-is_whole : goal.returns-then-not-is_whole
returns-then-not-is_whole c = not_whole c.args.state.now.ties.room c.args.text.now c.args.state.now.ties.ok.1 (search (rules, c.is_whole.ensures))

pub returns : goal.returns
returns c =
    concludes c.args.state.now.ties.room c.args.text.now (known c.read_lines.new.state) c.read_lines.result c.args.state.now.ties.ok.1
    (c.is_whole.ensures.0 (search rules)) c.read_lines.ensures
