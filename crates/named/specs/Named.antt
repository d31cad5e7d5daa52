-- The bits that an op code names as one number, worked out from the ends of its fields. Document 02, CR 4: "Work the mask out from each op code's field ends".
-- Not for a reader of the contracts: proofs/Masks.antt of the reader shows that it is exactly the bits that the fields name.
use Rattle.std.specs.Prelude.{ℕ, ◌+◌, ◌-◌, ◌*◌, ◌^◌, List, [], ◌∷◌}
use Rattle.instruction.specs.Bits.{span}
use Rattle.instruction.specs.Table.{op_code, engine_select, write_flag, payload_of}
use Rattle.instruction.specs.declared.Field.{Field}

-- ones at the bits of a field
abbrev pub ones : Field → ℕ
ones f = (span f - 1) * 2 ^ f.low

-- ones at the bits of fields that do not meet
abbrev pub mask_of : List Field → ℕ
mask_of [] = 0
mask_of (f ∷ fs) = ones f + mask_of fs

-- the fields of an op code: the header's, which it has in common with all others, and its payload's
abbrev pub fields_of : ℕ → List Field
fields_of code = op_code ∷ engine_select ∷ write_flag ∷ payload_of code

-- "The bits each op code names" in its payload
unfoldable pub payload_bits : ℕ → ℕ
payload_bits code = mask_of (payload_of code)

-- and in the whole word
unfoldable pub named_bits : ℕ → ℕ
named_bits code = mask_of (fields_of code)
