-- What a place says of the pair's amount. Assumes nothing.
use Rattle.store.proofs.Records.{placed}
use Rattle.store.proofs.list.TieList.place.Goals as goal

pub returns : goal.returns
returns c = let s = c.args.self.now in placed s.n s.count s.records.now c.args.a c.args.b s.sound c.find.result c.find.ensures
