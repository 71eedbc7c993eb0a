-- What the results of the calls are as answers. Assumes nothing.
use Rattle.std.specs.Prelude.{ℕ, Ok, Err, Result}
use Rattle.law.specs.declared.call.Answer.{Answer}
use Rattle.law.specs.declared.call.Answer.TheVariants.{Refused, Opened, Changed, Length}
use Rattle.law.specs.declared.call.Counts.{Counts}
use Rattle.law.specs.declared.call.Refusal.{Refusal}

abbrev pub opened : Result ℕ Refusal → Answer
opened (Ok n) = Opened n
opened (Err why) = Refused why

abbrev pub changed : Result Counts Refusal → Answer
changed (Ok counts) = Changed counts.moved counts.reparented
changed (Err why) = Refused why

abbrev pub read_path : Result ℕ Refusal → Answer
read_path (Ok length) = Length length
read_path (Err why) = Refused why
