-- The text isn't that of the bytes to which it decodes, or it doesn't decode.
use Rattle.std.proofs.Common.{ap, sym, ◌∙◌}
use Rattle.hex.specs.Hex.{decode_of, encode_lower}
use Rattle.hex.proofs.HexLemmas.{decode_of-encode_lower, decode_of-same}
use Rattle.rbg_wire.proofs.ByteLemmas.{other_bytes}
use Rattle.rbg_questions.proofs.Packed.{not_digits}
use Rattle.rbg_questions.proofs.packing.bytes_of.Goals as goal

pub returns-else-eq-clause-none : goal.returns-else-eq-clause-none
returns-else-eq-clause-none c bytes are is =
    let same = decode_of-same _ _ _ c.in-Ok.ensures.ok (ap decode_of is ∙ decode_of-encode_lower bytes are) in
    other_bytes _ _ c.if-eq.ensures (c.as_bytes.ensures.value ∙ (c.in_ok-small-in-Ok.ensures ∙ (ap encode_lower (c.as_slice.ensures.value ∙ same) ∙ sym is)))

pub returns-else-is_memory-clause-none : goal.returns-else-is_memory-clause-none
returns-else-is_memory-clause-none c bytes are is = not_digits _ _ _ c.in-Err.ensures.err (λ memory. c.if-is_memory.ensures memory) are is
