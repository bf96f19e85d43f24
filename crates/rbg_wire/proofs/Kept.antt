-- What is left after a call that failed, after other calls.
use Rattle.rbg_base.proofs.Common.{◌≡◌, List, ℕ, Result, ◌++◌, length, take, drop, ap, sym, ◌∙◌, append_assoc, IsErrAnd, err_from_is_err_and, take-append_seam}
use Rattle.std.proofs.lemmas.List.{take-append-drop}
use Rattle.rbg_wire.specs.Writing.{Appends}

-- The bytes from before the calls are there after the last one too.
pub kept_after : (old more mid new : List ℕ) → mid ≡ old ++ more → take (length mid) new ≡ mid → take (length old) new ≡ old
kept_after old more mid new grown kept =
    let rest : List ℕ = drop (length mid) new in
    let whole : new ≡ old ++ (more ++ rest) = sym (take-append-drop (length mid) new) ∙ (ap (λ front. front ++ rest) (kept ∙ grown) ∙ append_assoc old more rest) in
    ap (take (length old)) whole ∙ take-append_seam old (more ++ rest)

-- If one of several calls fails, the bytes from before them are still there, whatever was to be written.
pub broken_off : {E : Type 0} (P : E → Type 0) (old more mid new text : List ℕ) (result : Result (Unit {0}) E) → IsErrAnd result P → mid ≡ old ++ more → take (length mid) new ≡ mid → Appends old new text result
broken_off P old more mid new text result failed grown kept = record {
  written = rw (err_from_is_err_and result failed).1 tt;
  kept = kept_after old more mid new grown kept;
}
