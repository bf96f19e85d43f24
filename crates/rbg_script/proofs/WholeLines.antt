-- Texts that are read line by line.
use Rattle.rbg_base.proofs.Common.{◌≡◌, ℕ, ◌+◌, ◌-◌, ◌≤◌, List, [], ◌∷◌, ◌++◌, length, take, refl, sym, ap, ◌∙◌, arith, All-nil, All-cons, All-append, take-append_seam}
use Rattle.std.proofs.lemmas.List.{length-append}
use Rattle.rbg_wire.proofs.Common.{LacksByte, lines_of}
use Rattle.rbg_script.specs.internal.Whole.{WholeSoFar}
use Rattle.rbg_script.proofs.LineLemmas.{more_lines}

abbrev pub whole_at_first : (text : List ℕ) → WholeSoFar text text
whole_at_first text = record { lines = []; whole = All-nil (LacksByte 10); parts = refl }

abbrev pub whole_more : (text left line rest : List ℕ) → WholeSoFar text left → left ≡ line ++ 10 ∷ rest → LacksByte 10 line → WholeSoFar text rest
whole_more text left line rest far is lacks = record {
  lines = far.lines ++ line ∷ [];
  whole = All-append (LacksByte 10) far.lines (line ∷ []) far.whole (All-cons (LacksByte 10) line [] lacks (All-nil (LacksByte 10)));
  parts = far.parts ∙ (ap (λ l. lines_of far.lines ++ l) is ∙ sym (more_lines far.lines line rest));
}

pub left_within : (text left : List ℕ) → WholeSoFar text left → length left ≤ length text
left_within text left far =
    let whole : length text ≡ length (lines_of far.lines) + length left = ap length far.parts ∙ length-append (lines_of far.lines) left in
    omega (arith, whole)

-- the text before what is left
pub before_left : (text left : List ℕ) → (far : WholeSoFar text left) → take (length text - length left) text ≡ lines_of far.lines
before_left text left far =
    let whole : length text ≡ length (lines_of far.lines) + length left = ap length far.parts ∙ length-append (lines_of far.lines) left in
    let count : length text - length left ≡ length (lines_of far.lines) = omega (arith, whole) in
    (λ i. take (count i) (far.parts i)) ∙ take-append_seam (lines_of far.lines) left
