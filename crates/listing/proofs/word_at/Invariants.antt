-- Each byte more is one place of 256.
use Prim.Native.Nat.{◌*◌, ◌^◌, ◌<◌}
use mathlib.Core.Path.{◌≡◌}
use Rattle.instruction.specs.Word.{word_bytes}
use Rattle.listing.specs.Listing.{big_endian}
use Rattle.listing.proofs.word_at.Given as goal

abbrev pub invariant-loop-k : goal.invariant-loop-k
invariant-loop-k l = (l.word ≡ big_endian l.bytes (l.a * word_bytes) l.k) × (l.word < 2 ^ (8 * l.k))
