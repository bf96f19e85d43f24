-- What a read gives comes after what was read before.
use Rattle.std.proofs.Common.{rules, ◌∙◌, ap, sym, subst}
use Rattle.std.specs.Io.KnownBytes.{Consumes}
use Rattle.std.proofs.KnownBytes.{Consumes-trans, Consumes-kept}
use Rattle.rbg_console.proofs.input.read_chunks.Goals.{in-Ok+in_ok-extend_from_slice-in-Ok+else-len-limit, in-Err+else-ne}
use Rattle.rbg_console.proofs.input.read_chunks.Goals as goal

pub returns-then-len-limit : goal.returns-then-len-limit
returns-then-len-limit g c =
    let (room, within, taken) = c.loop.invariant in
    let grown = Consumes-trans _ _ _ _ _ taken c.in-Ok.ensures.bytes.0 in
    record {
      bytes = c.extend_from_slice.new.self.items;
      above = search rules;
      taken = subst (Consumes _ _) (sym c.in_ok-extend_from_slice-in-Ok.ensures.items) grown;
    }

pub loop-preserved : goal.loop-preserved
loop-preserved g c =
    let (room, within, taken) = c.loop.invariant in
    elim c.match-read.branch [
      | in-Ok+in_ok-extend_from_slice-in-Ok+else-len-limit w ↦
          let grown = Consumes-trans _ _ _ _ _ taken w.in-Ok.ensures.bytes.0 in
          let here = ap (λ bytes. bytes.items) w.bytes-is ∙ w.in_ok-extend_from_slice-in-Ok.ensures.items in
          (search rules, search rules, subst (Consumes _ _) (sym here) grown)
      | in-Err+else-ne w ↦
          let kept = Consumes-kept _ _ _ _ taken w.in-Err.ensures.bytes in
          let here = ap (λ bytes. bytes.items) w.bytes-is in
          (search rules, search rules, subst (Consumes _ _) (sym here) kept)
    ]
