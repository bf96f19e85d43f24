-- What one part adds to others.
use Rattle.std.proofs.Common.{ℕ, ◌≡◌, ◌+◌, ◌-◌, List, ◌++◌, drop, Result, Ok, Err, OnOk, is_ok, if◌then◌else◌, slice_range, sym, ap, ◌∙◌, append_assoc, take-append-drop}
use Rattle.std.specs.Str.{IsTrimAsciiEnd}
use Rattle.rbg_import.specs.Comments.{Becomes, IsBlock, block, commented, feed_before}
use Rattle.rbg_import.specs.Parts.{AddsPart}

-- a part that stays as it is
pub adds_kept : {E : Type 0} (r : Result (Unit {0}) E) (bytes : List ℕ) (at end : ℕ) (old new : List ℕ) →
    new ≡ (if is_ok r then old ++ slice_range bytes at end else old) →
    Becomes bytes at end (slice_range bytes at end) → OnOk r (AddsPart bytes at end old new)
adds_kept (Ok u) bytes at end old new is becomes = record {
  part = slice_range bytes at end;
  is = is;
  becomes = becomes;
}
adds_kept (Err e) bytes at end old new is becomes = tt

-- a comment between marks
pub adds_block : {E : Type 0} (r : Result (Unit {0}) E) (bytes : List ℕ) (at end : ℕ) (old between new kept : List ℕ) →
    IsBlock bytes at end → IsTrimAsciiEnd (slice_range bytes (at + 2) (end - 2)) kept →
    between ≡ old ++ commented kept → OnOk r (new ≡ between ++ feed_before (drop end bytes)) →
    OnOk r (AddsPart bytes at end old new)
adds_block (Ok u) bytes at end old between new kept is_block trimmed lines feed =
    let inside : List ℕ = slice_range bytes (at + 2) (end - 2) in
    record {
      part = commented kept ++ feed_before (drop end bytes);
      is = feed ∙ ap (λ (xs : List ℕ). xs ++ feed_before (drop end bytes)) lines
          ∙ append_assoc old (commented kept) (feed_before (drop end bytes));
      becomes = block kept (drop trimmed.0 inside) is_block
          (sym (take-append-drop trimmed.0 inside) ∙ ap (λ (xs : List ℕ). xs ++ drop trimmed.0 inside) (sym trimmed.1));
    }
adds_block (Err e) bytes at end old between new kept is_block trimmed lines feed = tt
