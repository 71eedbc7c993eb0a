use Rattle.law.proofs.Pins.{pinned}
use Rattle.law.proofs.Tellings.{starts, goes_on, every_log_lawful}
use Rattle.law.proofs.theorems.law_stands.Goals as goal

pub returns : goal.returns
returns g c = record {
  starts = starts g.M.Measure;
  goes_on = goes_on g.M.Measure;
  lawful = every_log_lawful g.M.Measure;
  pinned = pinned g.M.Measure;
}
