-- Laws of a text that is moved whole or not at all: refused for a line, without room, or written.
-- Assumes nothing.
use Prim.Native.Nat.{ℕ, ◌≤◌}
use mathlib.Core.Path.{◌≡◌, sym, ap, ◌∙◌}
use mathlib.Core.Bool.{Bool}
use mathlib.Core.List.{List, ◌++◌}
use native.Mathlib.Omega.{arith}
use native.Mathlib.Nat.{zero-add}
use borrow.Author.Tests.{eq-eqb, ne_eqb, lt-ltb, le-ltb}
use lib.Dec.{ltb, eqb}
use lib.ListN.{length, drop}
use Rattle.instruction.specs.Bits.{pick}
use Rattle.buffer.specs.Put.{Fits, Put}
use Rattle.buffer.proofs.Laws.{put_front, fits_first, fits_next, puts_both}
use Rattle.editions.specs.Moves.{refused_at, moved, Moves}
use Rattle.editions.specs.Told.{RoomFor}
use Rattle.editions.specs.declared.Moved.{Moved}
use Rattle.editions.specs.declared.Room.{Room}
use Rattle.editions.proofs.Rooms.{room_fits, room_short}

-- ---- judged first

-- a refusal of the lines, and none
pub refused_lines : (judged : Moved) (text before : List ℕ) → (judged.number ≡ 0 → ⊥) → {r : Moved} → r ≡ judged → Moves judged text before before r
refused_lines judged text before n {r = r} e =
    record {
      answer = e ∙ sym (ap (λ (t : Bool). pick t (pick (ltb (length before) (length text)) (refused_at 64 0) (moved (length text))) judged) (ne_eqb judged.number 0 n));
      bytes = sym (ap (λ (t : Bool). pick t (text ++ drop (length text) before) before) (ne_eqb r.number 0 (λ q. n (sym (ap (λ (x : Moved). x.number) e) ∙ q))));
    }

pub passed_lines : (judged : Moved) (text before : List ℕ) → judged.number ≡ 0 → {after : List ℕ} {r : Moved} → Moves (moved 0) text before after r → Moves judged text before after r
passed_lines judged text before z m =
    record {
      answer = m.answer ∙ sym (ap (λ (t : Bool). pick t (pick (ltb (length before) (length text)) (refused_at 64 0) (moved (length text))) judged) (eq-eqb judged.number 0 z));
      bytes = m.bytes;
    }

-- ---- written, or not

-- a header and its lines, by what is told of the room for both
module _ (head lines before : List ℕ) {left : Room} (told : RoomFor (length before) (length (head ++ lines)) left) where
  pub moves_short : left.left ≡ 0 → {r : Moved} → r ≡ refused_at 64 0 → Moves (moved 0) (head ++ lines) before before r
  moves_short f e =
      record {
        answer = e ∙ sym (ap (λ (t : Bool). pick t (refused_at 64 0) (moved (length (head ++ lines)))) (lt-ltb (length before) (length (head ++ lines)) (room_short (length before) (length (head ++ lines)) told f)));
        bytes = sym (ap (λ (x : Moved). pick (eqb x.number 0) ((head ++ lines) ++ drop (length (head ++ lines)) before) before) e);
      }

  module _ (f : left.left ≡ 0 → ⊥) where
    small : length (head ++ lines) ≤ length before
    small = room_fits (length before) (length (head ++ lines)) told f

    fits : Fits (head ++ lines) before 0
    fits = omega (arith, small)

    pub head_fits : Fits head before 0
    head_fits = fits_first head lines before 0 fits

    module _ {headed : List ℕ} {start : ℕ} (h : Put head before 0 headed start) where
      pub lines_fit : Fits lines headed start
      lines_fit = fits_next head lines before 0 fits h

      pub moves_whole : {after : List ℕ} {end : ℕ} → Put lines headed start after end → Moves (moved 0) (head ++ lines) before after (moved end)
      moves_whole w =
          let whole = puts_both head lines before 0 fits h w in
          record {
            answer =
                ap moved (whole.end ∙ zero-add (length (head ++ lines)))
                ∙ sym (ap (λ (t : Bool). pick t (refused_at 64 0) (moved (length (head ++ lines)))) (le-ltb (length before) (length (head ++ lines)) small));
            bytes = whole.wrote ∙ put_front before (head ++ lines);
          }
