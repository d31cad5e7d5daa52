-- The name, then engine select, write flag and fields; of NOOP the name alone.
use mathlib.Core.Path.{sym, subst, ◌∙◌}
use mathlib.Core.List.{List, [], ◌∷◌, ◌++◌, map}
use Prim.Native.Nat.{ℕ}
use Rattle.buffer.specs.Put.{Fits, Put}
use Rattle.buffer.proofs.Laws.{fits_next, puts_both}
use Rattle.text.specs.Cut.{tab}
use Rattle.text.specs.Line.{number, letters, decimal, rest_text}
use Rattle.names.specs.Names.{name_of}
use Rattle.listing.specs.Listing.{shown_of}
use Rattle.listing.proofs.Lines.{noop_line, other_line}
use Rattle.listing.proofs.put_instruction.Goals as goal

pub returns-then-code-eq-NOOP : goal.returns-then-code-eq-NOOP
returns-then-code-eq-NOOP c = subst (λ (l : List ℕ). Put l c.args.page.now c.args.at c.put_end.new.page c.put_end.result) (sym (noop_line c.args.i (sym c.code.ensures ∙ c.if-code-eq-NOOP.true))) (puts_both (tab ∷ letters (name_of c.args.i.body)) (rest_text []) c.args.page.now c.args.at (subst (λ (l : List ℕ). Fits l c.args.page.now c.args.at) (noop_line c.args.i (sym c.code.ensures ∙ c.if-code-eq-NOOP.true)) c.requires) c.put_name-named.ensures c.put_end.ensures)

pub returns : goal.returns
returns c = subst (λ (l : List ℕ). Put l c.args.page.now c.args.at c.put_fields.new.page c.put_fields.result) (sym (other_line c.args.i (λ e. c.if-code-eq-NOOP.false (c.code.ensures ∙ e)))) (puts_both (tab ∷ letters (name_of c.args.i.body)) ((tab ∷ decimal c.args.i.engine) ++ ((tab ∷ decimal c.args.i.write) ++ (rest_text (map number (shown_of c.args.i.body))))) c.args.page.now c.args.at (subst (λ (l : List ℕ). Fits l c.args.page.now c.args.at) (other_line c.args.i (λ e. c.if-code-eq-NOOP.false (c.code.ensures ∙ e))) c.requires) c.put_name-named.ensures (puts_both (tab ∷ decimal c.args.i.engine) ((tab ∷ decimal c.args.i.write) ++ (rest_text (map number (shown_of c.args.i.body)))) c.put_name-named.new.page c.put_name-named.result (fits_next (tab ∷ letters (name_of c.args.i.body)) ((tab ∷ decimal c.args.i.engine) ++ ((tab ∷ decimal c.args.i.write) ++ (rest_text (map number (shown_of c.args.i.body))))) c.args.page.now c.args.at (subst (λ (l : List ℕ). Fits l c.args.page.now c.args.at) (other_line c.args.i (λ e. c.if-code-eq-NOOP.false (c.code.ensures ∙ e))) c.requires) c.put_name-named.ensures) c.put_value-select.ensures (puts_both (tab ∷ decimal c.args.i.write) (rest_text (map number (shown_of c.args.i.body))) c.put_value-select.new.page c.put_value-select.result (fits_next (tab ∷ decimal c.args.i.engine) ((tab ∷ decimal c.args.i.write) ++ (rest_text (map number (shown_of c.args.i.body)))) c.put_name-named.new.page c.put_name-named.result (fits_next (tab ∷ letters (name_of c.args.i.body)) ((tab ∷ decimal c.args.i.engine) ++ ((tab ∷ decimal c.args.i.write) ++ (rest_text (map number (shown_of c.args.i.body))))) c.args.page.now c.args.at (subst (λ (l : List ℕ). Fits l c.args.page.now c.args.at) (other_line c.args.i (λ e. c.if-code-eq-NOOP.false (c.code.ensures ∙ e))) c.requires) c.put_name-named.ensures) c.put_value-select.ensures) c.put_value-flag.ensures c.put_fields.ensures)))
