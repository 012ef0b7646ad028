-- `compression::load` meets its contract. The loop's invariant: the words so far are the block's.
use Rattle.std.proofs.Common.{◌≡◌, length, take}
use Rattle.compression.specs.Fips.{words}
use Rattle.compression.proofs.load.Given as goal

abbrev pub invariant-loop-j : goal.invariant-loop-j
invariant-loop-j l = record { full : length l.w ≡ 16; made : take l.j l.w ≡ words l.b l.j }
