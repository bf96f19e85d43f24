-- The number is before the first space, and the name after it.
use Rattle.std.proofs.Common.{◌≡◌, true, false, ap, sym, ◌∙◌}
use Rattle.rbg_base.specs.Names.{is_name}
use Rattle.rbg_wire.proofs.FieldLemmas.{same_fields}
use Rattle.rbg_wire.proofs.MessageLemmas.{no_who, spells_who}
use Rattle.rbg_wire.proofs.message_reader.who_in.Goals as goal

pub returns-in_err-player : goal.returns-in_err-player
returns-in_err-player c = rw c.from_residual.ensures (no_who _ (λ player name h. c.in_err-player.ensures.none player name (record { small = h.has.0; parts = h.is })))

pub returns-then-not-is_name : goal.returns-then-not-is_name
returns-then-not-is_name c =
    let found = c.in_ok-player.ensures.found in
    no_who _ (λ player name h.
    let same = (same_fields _ _ _ _ player found.small h.has.0 found.parts h.is).1 in
    let named : is_name name ≡ true = h.has.1 in
    let unnamed : false ≡ is_name c.in_ok-player.name.now = c.if-not-is_name.ensures in
    let apart : false ≡ true = unnamed ∙ (ap is_name same ∙ named) in
    cc)

pub returns : goal.returns
returns c =
    let found = c.in_ok-player.ensures.found in
    (spells_who _ _ _ (record { has = (found.small, sym c.if-not-is_name.ensures); is = found.parts }), tt)
