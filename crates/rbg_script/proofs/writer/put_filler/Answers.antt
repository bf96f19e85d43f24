-- The last filling byte comes after as many as the limit.
use Rattle.std.proofs.Common.{◌≡◌, ℕ, ◌+◌, ◌++◌, List, ap, ◌∙◌, arith, replicate, flat_map, Result}
use Rattle.std.proofs.lemmas.List.{flat_map_more, replicate_more}
use Rattle.std.proofs.lemmas.Result.{on_ok_weaker}
use Rattle.rbg_wire.specs.Whole.{filler}
use Rattle.rbg_wire.specs.Writing.{Appends}
use Rattle.rbg_wire.proofs.Kept.{broken_off, kept_after}
use Rattle.rbg_script.specs.Events.{byte_text}
use Rattle.rbg_script.proofs.writer.put_filler.Goals as goal

last_filled : {E : Type 0} (old mid new : List ℕ) (count limit : ℕ) (result : Result (Unit {0}) E) → count ≡ limit → mid ≡ old ++ flat_map byte_text (replicate count filler) → Appends mid new (byte_text filler) result → Appends old new (flat_map byte_text (replicate (limit + 1) filler)) result
last_filled old mid new count limit result all so_far last = record {
  written = on_ok_weaker result
      (λ is. is
      ∙ ap (λ front. front ++ byte_text filler) so_far
      ∙ flat_map_more byte_text old (replicate count filler) filler
      ∙ ap (λ bytes. old ++ flat_map byte_text bytes) (replicate_more count filler)
      ∙ ap (λ one. old ++ flat_map byte_text (replicate (one + 1) filler)) all)
      last.written;
  kept = kept_after old (flat_map byte_text (replicate count filler)) mid new so_far last.kept;
}

pub returns-in_err-put_byte : goal.returns-in_err-put_byte
returns-in_err-put_byte c = broken_off _ _ _ _ _ _ c.from_residual.result c.from_residual.ensures.1 c.loop.invariant c.put_byte.ensures.kept

pub returns : goal.returns
returns c =
    let all : c.loop.counter ≡ c.args.limit = omega (arith, c.loop-test.false, c.loop.auto.counter-end) in
    last_filled c.args.out.now.items c.loop.out.items c.put_byte-2.new.out.items c.loop.counter c.args.limit c.put_byte-2.result all c.loop.invariant c.put_byte-2.ensures
