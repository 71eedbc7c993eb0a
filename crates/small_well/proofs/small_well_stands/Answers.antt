use Rattle.small_well.proofs.SmallWell.{small_well_runs}
use Rattle.small_well.proofs.Forced.{small_well_forced}
use Rattle.small_well.proofs.small_well_stands.Goals as goal

pub returns : goal.returns
returns c = record { runs = small_well_runs; forced = small_well_forced }
