-- `compression::turn` meets its contract: the window slides by a word, and the round uses that word.
use Rattle.std.proofs.Common.{arith}
use Rattle.compression.proofs.Rounds.{round_made}
use Rattle.compression.proofs.turn.Goals as goal

pub returns : goal.returns
returns c b s n e R = round_made _ b s n _ _ (omega arith) R c.next-w.ensures (rw e c.round.ensures)
