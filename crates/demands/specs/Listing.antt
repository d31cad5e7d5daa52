-- A listing that is read back, document 02, CR 1: words come back as they were, and what is accepted is a listing, byte for byte.
-- Each statement but the first is about the contract of `read_listing` as its source has it.
use Rattle.std.specs.Prelude.{◌≡◌, List, [], ◌∷◌, ◌++◌, map, ℕ, ◌/◌, ◌%◌, ◌^◌, ◌≤◌, ◌<◌, length, take, drop}
use Rattle.instruction.specs.Word.{word_bytes}
use Rattle.instruction.specs.declared.Instruction.{Instruction}
use Rattle.instruction.specs.declared.Rules.{Rules}
use Rattle.reader.specs.Reading.{reading_of}
use Rattle.std.specs.declared.result.Result.TheVariants.{Ok}
use Rattle.listing.specs.Listing.{words_from, listed_words, listed, listing_of}
use Rattle.listing_reader.specs.ReadBack.{ReadsBack}
use Rattle.listing_reader.specs.declared.ReadBack.{ReadBack}
use Rattle.demands.specs.Word.{zeroed}

-- what the listing program writes of whole words is their listing
abbrev pub ListingIsListed : Type 0
ListingIsListed =
    (rules : Rules) (bytes : List ℕ) → length bytes % word_bytes ≡ 0 → length bytes / word_bytes ≤ listed_words
    → listing_of rules bytes ≡ listed rules (words_from bytes 0 (length bytes / word_bytes))

-- a 64-bit word that passes form
pub record Passes (rules : Rules) (word : ℕ) : Type 0 where
  pub small : word < 2 ^ 64
  pub instruction : Instruction
  pub reads : reading_of rules word ≡ Ok instruction

abbrev pub AllPass : Rules → List ℕ → Type 0
AllPass rules [] = Unit {0}
AllPass rules (w ∷ ws) = Passes rules w × AllPass rules ws

-- "Words that pass form, listed and read back, are the same words, with RETURN and LOAD_CMP payloads zeroed."
-- However many, where there is room; no memory has 2^64 places.
abbrev pub ListedReadBack : Type 0
ListedReadBack =
    (rules : Rules) (words before after : List ℕ) (r : ReadBack) → AllPass rules words → length words ≤ length before → length before < 2 ^ 64
    → ReadsBack rules (listed rules words) before after r
    → (r ≡ record { number = 0; line = 0; count = length words }) × (after ≡ map zeroed words ++ drop (length words) before)

-- a text that is accepted is the listing of its words
abbrev pub ReadBackListed : Type 0
ReadBackListed =
    (rules : Rules) (text before after : List ℕ) (r : ReadBack) → ReadsBack rules text before after r → r.number ≡ 0
    → text ≡ listed rules (take r.count after)

-- "untouched after a refusal"
abbrev pub RefusedUntouched : Type 0
RefusedUntouched =
    (rules : Rules) (text before after : List ℕ) (r : ReadBack) → ReadsBack rules text before after r → (r.number ≡ 0 → ⊥)
    → after ≡ before
