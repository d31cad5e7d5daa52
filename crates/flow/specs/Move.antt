-- What an instruction is to the walk: five names have a rule of their own in H8, the others go on to the next address.
use Rattle.std.specs.Prelude.{ℕ, List, get_or}
use Rattle.instruction.specs.Word.{spelled_by}
use Rattle.instruction.specs.declared.Body.{Body}
use Rattle.instruction.specs.declared.Body.TheVariants as body
use Rattle.flow.specs.declared.Move.{Move}
use Rattle.flow.specs.declared.Move.TheVariants.{Other, Compare, Jump, Enter, Leave, Loop}

abbrev pub move_of : Body → Move
move_of (body.Waveform f) = Other
move_of (body.Marker f) = Other
move_of body.Wait = Other
move_of (body.LoadRepeat n) = Other
move_of (body.Repeat a) = Loop a
move_of (body.Cmp x) = Compare
move_of (body.Goto a) = Jump a
move_of (body.Call a) = Enter a
move_of (body.Return p) = Leave
move_of body.Sync = Other
move_of (body.Modulator f) = Other
move_of (body.LoadCmp p) = Other
move_of (body.Prefetch a) = Other
move_of body.Noop = Other

-- the move of the word at an address; the walk is defined for words that pass form, which read as what their fields spell
abbrev pub move_at : List ℕ → ℕ → Move
move_at words a = move_of (spelled_by (get_or words a 0)).body
