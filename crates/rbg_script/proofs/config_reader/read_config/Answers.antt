-- Three numbers follow the word, and two of them have limits.
use Rattle.std.proofs.Common.{◌∙◌, sym, ◌≡◌, true, false}
use Rattle.rbg_wire.proofs.ReadsLemmas.{reads_found, reads_none}
use Rattle.rbg_script.proofs.Apart.{one_config}
use Rattle.rbg_script.proofs.Parts.{config_shape, config_fields, config_last, beyond_first, turn_small, refusals_small, spells_config, other_limits}
use Rattle.rbg_script.proofs.config_reader.read_config.Goals as goal

pub returns-in_err-fields : goal.returns-in_err-fields
returns-in_err-fields c = rw c.from_residual.ensures (reads_none (λ config h. c.in_err-fields.ensures.none _ (h.is ∙ config_shape config)))

pub returns-in_err-turn_ms : goal.returns-in_err-turn_ms
returns-in_err-turn_ms c =
    rw c.from_residual-in_err-turn_ms.ensures (reads_none (λ config h.
    c.in_err-turn_ms.ensures.none config.turn_ms _ (record {
      small = turn_small config.turn_ms config.refusals h.has.0;
      parts = config_fields _ _ config c.in_ok-fields.ensures.found h;
    })))

pub returns-in_err-refusals : goal.returns-in_err-refusals
returns-in_err-refusals c =
    rw c.from_residual-in_err-refusals.ensures (reads_none (λ config h.
    c.in_err-refusals.ensures.none config.refusals _ (record {
      small = refusals_small config.turn_ms config.refusals h.has.0;
      parts = beyond_first _ _ _ _ config.turn_ms c.in_ok-turn_ms.ensures.found (turn_small config.turn_ms config.refusals h.has.0) (config_fields _ _ config c.in_ok-fields.ensures.found h);
    })))

pub returns-in_err-now : goal.returns-in_err-now
returns-in_err-now c =
    rw c.from_residual-in_err-now.ensures (reads_none (λ config h.
    c.in_err-now.ensures.none config.now h.has.1 (config_last _ _ _ _ _ _ config c.in_ok-fields.ensures.found c.in_ok-turn_ms.ensures.found c.in_ok-refusals.ensures.found h).2))

pub returns-then-are_within_limits : goal.returns-then-are_within_limits
returns-then-are_within_limits c =
    let last = c.in_ok-now.ensures.found in
    reads_found (one_config c.args.line.now)
    (spells_config _ _ _ _ _ _ _ (c.are_within_limits.ensures.0 c.if-are_within_limits.true) last.0 c.in_ok-fields.ensures.found c.in_ok-turn_ms.ensures.found c.in_ok-refusals.ensures.found last.1)

pub returns-else-are_within_limits : goal.returns-else-are_within_limits
returns-else-are_within_limits c =
    reads_none (λ config h.
    let parts = config_last _ _ _ _ _ _ config c.in_ok-fields.ensures.found c.in_ok-turn_ms.ensures.found c.in_ok-refusals.ensures.found h in
    let apart : false ≡ true = sym c.if-are_within_limits.false ∙ c.are_within_limits.ensures.1 (other_limits _ _ _ _ parts.0 parts.1 h.has.0) in
    cc)
