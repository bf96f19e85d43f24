-- The names are the words after the word `players`.
use Rattle.std.proofs.Common.{◌∙◌, refl, sym, ◌≡◌, true, false}
use Rattle.rbg_record.proofs.LineReading.{players_named, players_same, players_not_named}
use Rattle.rbg_record.proofs.heading_reader.names_in.Goals as goal

pub returns-then-are_names-clause-found : goal.returns-then-are_names-clause-found
returns-then-are_names-clause-found c = players_named _ _ _ c.in_ok-text.ensures.found refl (c.are_names.ensures.0 c.if-are_names.true)

pub returns-then-are_names-clause-only : goal.returns-then-are_names-clause-only
returns-then-are_names-clause-only c names h = players_same _ _ names c.in_ok-text.ensures.found h

pub returns-else-are_names-clause-only : goal.returns-else-are_names-clause-only
returns-else-are_names-clause-only c names h =
    players_not_named _ _ names c.in_ok-text.ensures.found (λ named. let apart : false ≡ true = sym c.if-are_names.false ∙ c.are_names.ensures.1 named in cc) h
