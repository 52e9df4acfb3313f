use Rattle.pending.proofs.Words.{lowest-first, none_left}
use Rattle.pending.proofs.theorems.order_stands.Goals as goal

pub returns : goal.returns
returns c = record { first = lowest-first; all = none_left }
