-- By the name.
use mathlib.Core.Path.{subst}
use mathlib.Core.List.{◌∷◌}
use Rattle.instruction.specs.declared.Body.{Body}
use Rattle.buffer.specs.Put.{Fits}
use Rattle.text.specs.Cut.{tab}
use Rattle.text.specs.Line.{letters}
use Rattle.names.specs.Names.{name_of}
use Rattle.names.proofs.put_name.Goals as goal

pub put_word-requires : goal.put_word-requires
put_word-requires c = subst (λ (b : Body). Fits (tab ∷ letters (name_of b)) c.args.page.now c.args.at) c.in-Waveform.is c.requires

pub put_word-requires-in-Marker : goal.put_word-requires-in-Marker
put_word-requires-in-Marker c = subst (λ (b : Body). Fits (tab ∷ letters (name_of b)) c.args.page.now c.args.at) c.in-Marker.is c.requires

pub put_word-requires-in-Wait : goal.put_word-requires-in-Wait
put_word-requires-in-Wait c = subst (λ (b : Body). Fits (tab ∷ letters (name_of b)) c.args.page.now c.args.at) c.in-Wait.is c.requires

pub put_word-requires-in-LoadRepeat : goal.put_word-requires-in-LoadRepeat
put_word-requires-in-LoadRepeat c = subst (λ (b : Body). Fits (tab ∷ letters (name_of b)) c.args.page.now c.args.at) c.in-LoadRepeat.is c.requires

pub put_word-requires-in-Repeat : goal.put_word-requires-in-Repeat
put_word-requires-in-Repeat c = subst (λ (b : Body). Fits (tab ∷ letters (name_of b)) c.args.page.now c.args.at) c.in-Repeat.is c.requires

pub put_word-requires-in-Cmp : goal.put_word-requires-in-Cmp
put_word-requires-in-Cmp c = subst (λ (b : Body). Fits (tab ∷ letters (name_of b)) c.args.page.now c.args.at) c.in-Cmp.is c.requires

pub put_word-requires-in-Goto : goal.put_word-requires-in-Goto
put_word-requires-in-Goto c = subst (λ (b : Body). Fits (tab ∷ letters (name_of b)) c.args.page.now c.args.at) c.in-Goto.is c.requires

pub put_word-requires-in-Call : goal.put_word-requires-in-Call
put_word-requires-in-Call c = subst (λ (b : Body). Fits (tab ∷ letters (name_of b)) c.args.page.now c.args.at) c.in-Call.is c.requires

pub put_word-requires-in-Return : goal.put_word-requires-in-Return
put_word-requires-in-Return c = subst (λ (b : Body). Fits (tab ∷ letters (name_of b)) c.args.page.now c.args.at) c.in-Return.is c.requires

pub put_word-requires-in-Sync : goal.put_word-requires-in-Sync
put_word-requires-in-Sync c = subst (λ (b : Body). Fits (tab ∷ letters (name_of b)) c.args.page.now c.args.at) c.in-Sync.is c.requires

pub put_word-requires-in-Modulator : goal.put_word-requires-in-Modulator
put_word-requires-in-Modulator c = subst (λ (b : Body). Fits (tab ∷ letters (name_of b)) c.args.page.now c.args.at) c.in-Modulator.is c.requires

pub put_word-requires-in-LoadCmp : goal.put_word-requires-in-LoadCmp
put_word-requires-in-LoadCmp c = subst (λ (b : Body). Fits (tab ∷ letters (name_of b)) c.args.page.now c.args.at) c.in-LoadCmp.is c.requires

pub put_word-requires-in-Prefetch : goal.put_word-requires-in-Prefetch
put_word-requires-in-Prefetch c = subst (λ (b : Body). Fits (tab ∷ letters (name_of b)) c.args.page.now c.args.at) c.in-Prefetch.is c.requires

pub put_word-requires-in-Noop : goal.put_word-requires-in-Noop
put_word-requires-in-Noop c = subst (λ (b : Body). Fits (tab ∷ letters (name_of b)) c.args.page.now c.args.at) c.in-Noop.is c.requires

pub returns-in-Waveform : goal.returns-in-Waveform
returns-in-Waveform c = rw c.in-Waveform.is c.put_word.ensures

pub returns-in-Marker : goal.returns-in-Marker
returns-in-Marker c = rw c.in-Marker.is c.put_word-in-Marker.ensures

pub returns-in-Wait : goal.returns-in-Wait
returns-in-Wait c = rw c.in-Wait.is c.put_word-in-Wait.ensures

pub returns-in-LoadRepeat : goal.returns-in-LoadRepeat
returns-in-LoadRepeat c = rw c.in-LoadRepeat.is c.put_word-in-LoadRepeat.ensures

pub returns-in-Repeat : goal.returns-in-Repeat
returns-in-Repeat c = rw c.in-Repeat.is c.put_word-in-Repeat.ensures

pub returns-in-Cmp : goal.returns-in-Cmp
returns-in-Cmp c = rw c.in-Cmp.is c.put_word-in-Cmp.ensures

pub returns-in-Goto : goal.returns-in-Goto
returns-in-Goto c = rw c.in-Goto.is c.put_word-in-Goto.ensures

pub returns-in-Call : goal.returns-in-Call
returns-in-Call c = rw c.in-Call.is c.put_word-in-Call.ensures

pub returns-in-Return : goal.returns-in-Return
returns-in-Return c = rw c.in-Return.is c.put_word-in-Return.ensures

pub returns-in-Sync : goal.returns-in-Sync
returns-in-Sync c = rw c.in-Sync.is c.put_word-in-Sync.ensures

pub returns-in-Modulator : goal.returns-in-Modulator
returns-in-Modulator c = rw c.in-Modulator.is c.put_word-in-Modulator.ensures

pub returns-in-LoadCmp : goal.returns-in-LoadCmp
returns-in-LoadCmp c = rw c.in-LoadCmp.is c.put_word-in-LoadCmp.ensures

pub returns-in-Prefetch : goal.returns-in-Prefetch
returns-in-Prefetch c = rw c.in-Prefetch.is c.put_word-in-Prefetch.ensures

pub returns-in-Noop : goal.returns-in-Noop
returns-in-Noop c = rw c.in-Noop.is c.put_word-in-Noop.ensures
