use Rattle.std.proofs.Common.{◌≡◌}
use Rattle.hash.specs.Blocks.{turns}
use Rattle.hash.specs.Sha1.{turn}
use Rattle.hash.proofs.sha1.WordsHash.compress.Given as goal

abbrev pub invariant-first : goal.invariant-first
invariant-first l = l.s ≡ turns turn l.w l.self l.t

abbrev pub invariant-second : goal.invariant-second
invariant-second l = l.s ≡ turns turn l.w l.self l.t

abbrev pub invariant-third : goal.invariant-third
invariant-third l = l.s ≡ turns turn l.w l.self l.t

abbrev pub invariant-last : goal.invariant-last
invariant-last l = l.s ≡ turns turn l.w l.self l.t
