-- A new depth pays for the hints.
use Prim.Native.Nat.{◌<◌, ◌≤◌, ◌-◌, ◌^◌}
use mathlib.Core.Path.{ap}
use native.Mathlib.Omega.{arith}
use lib.Bits.{bit_or}
use Rattle.walk.proofs.Laws.{or_up}
use Rattle.walk.proofs.Notes.note_return.Goals as goal

pub returns : goal.returns
returns c = let s = c.args.s in
    let b = c.bare-met in
    let up : s.back ≤ bit_or s.back b.result = or_up s.back b.result in
    let rose : 2 ^ 64 - bit_or s.back b.result < 2 ^ 64 - s.back = omega (arith, up, c.if-back-s.false, c.struct_known-2-1.given) in
    let top = c.push_calls-hints.ensures in
    record {
      room = record { hints = top; calls = c.requires.calls };
      back = ap (bit_or s.back) b.ensures;
      rose = λ z. rose;
      fell = omega (arith, rose, top);
    }
