-- The word goes behind the others.
use mathlib.Core.Path.{sym, ap, ◌∙◌}
use Prim.Native.Nat.{◌<◌}
use borrow.Author.Rules.{rules}
use lib.ListN.{length}
use Rattle.buffer.specs.Put.{put}
use Rattle.buffer.proofs.Laws.{put_one}
use Rattle.typed.proofs.Words.{byte_counts, one_word, word_room}
use Rattle.typed.proofs.take_byte.Goals as goal

pub returns-then-count-next : goal.returns-then-count-next
returns-then-count-next c = record { state = c.byte_on-next.ensures; words = put_one c.args.words.now c.args.s.count _ (word_room (length c.args.words.now) c.args.s c.byte_on-next.result (rw c.byte_on-next.ensures (byte_counts (length c.args.words.now) c.args.b c.args.s c.args.spelling)) c.if-count-next.true) ∙ ap (put c.args.words.now c.args.s.count) (sym (one_word c.args.s c.byte_on-next.result c.if-count-next.true)) }

pub bounds-words-count : goal.bounds-words-count
bounds-words-count c = word_room (length c.args.words.now) c.args.s c.byte_on-next.result (rw c.byte_on-next.ensures (byte_counts (length c.args.words.now) c.args.b c.args.s c.args.spelling)) c.if-count-next.true

pub offset_bounds-words-count : goal.offset_bounds-words-count
offset_bounds-words-count c =
    let h : c.args.s.count < length c.args.words.now = word_room (length c.args.words.now) c.args.s c.byte_on-next.result (rw c.byte_on-next.ensures (byte_counts (length c.args.words.now) c.args.b c.args.s c.args.spelling)) c.if-count-next.true in
    search (rules, h)
