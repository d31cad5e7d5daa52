-- What an instruction is called: the names of document 01's table, and whose a name is.
-- A name that is read is looked for among those that are written; there is no second table.
use Rattle.std.specs.Prelude.{ℕ, zero, suc, List, [], eqb, ltb, Option, Some, None}
use Prim.Native.String.{String}
use Rattle.instruction.specs.Bits.{pick}
use Rattle.instruction.specs.Table.{last_code, body_of}
use Rattle.instruction.specs.declared.Body.{Body}
use Rattle.instruction.specs.declared.Body.TheVariants.{Waveform, Marker, Wait, LoadRepeat, Repeat, Cmp, Goto, Call, Return, Sync, Modulator, LoadCmp, Prefetch, Noop}
use Rattle.text.specs.Cut.{same_text}
use Rattle.text.specs.Line.{letters}

abbrev pub name_of : Body → String
name_of (Waveform f) = "WAVEFORM"
name_of (Marker f) = "MARKER"
name_of Wait = "WAIT"
name_of (LoadRepeat n) = "LOAD_REPEAT"
name_of (Repeat a) = "REPEAT"
name_of (Cmp x) = "CMP"
name_of (Goto a) = "GOTO"
name_of (Call a) = "CALL"
name_of (Return p) = "RETURN"
name_of Sync = "SYNC"
name_of (Modulator f) = "MODULATOR"
name_of (LoadCmp p) = "LOAD_CMP"
name_of (Prefetch a) = "PREFETCH"
name_of Noop = "NOOP"

-- ---- whose a name is

-- the op codes in their order, and NOOP behind the last of them
abbrev pub name_count : ℕ
name_count = suc (suc last_code)

abbrev pub name_at : ℕ → List ℕ
name_at row = letters (name_of (body_of row []))

-- the first of n rows with this name, from a row on; the row behind them where none has it
abbrev pub named_from : List ℕ → ℕ → ℕ → ℕ
named_from text row zero = row
named_from text row (suc n) = pick (same_text text (name_at row)) row (named_from text (suc row) n)

-- the row of the table that has this name, or `name_count`
unfoldable pub row_named : List ℕ → ℕ
row_named text = named_from text 0 name_count

-- that row, where there is one
abbrev pub row_of : List ℕ → Option ℕ
row_of text = pick (ltb (row_named text) name_count) (Some (row_named text)) None

-- ---- how it is found

-- the only row whose name has this third letter and this length, where there is one
unfoldable pub guess_of : ℕ → ℕ → ℕ
guess_of third size =
    pick (eqb third 82) 1
    (pick (eqb third 73) 2
    (pick (eqb third 65) (pick (eqb size 8) 11 3)
    (pick (eqb third 80) (pick (eqb size 3) 5 4)
    (pick (eqb third 84) (pick (eqb size 4) 6 8)
    (pick (eqb third 76) 7
    (pick (eqb third 78) 9
    (pick (eqb third 68) 10
    (pick (eqb third 69) 12
    (pick (eqb third 79) 13 0)))))))))
