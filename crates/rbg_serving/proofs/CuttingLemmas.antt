-- The whole lines of a text.
use Rattle.std.proofs.Common.{◌≡◌, ℕ, ◌+◌, ◌-◌, List, ◌++◌, length, take, sym, ap, ◌∙◌}
use Rattle.rbg_wire.specs.Bytes.{LacksByte}
use Rattle.rbg_script.specs.internal.Whole.{WholeSoFar}
use Rattle.rbg_script.proofs.WholeLines.{before_left}
use Rattle.rbg_serving.specs.Cutting.{AreWholeLines}

pub are_whole : (text left whole : List ℕ) → WholeSoFar text left → LacksByte 10 left → whole ≡ take (length text - length left) text → AreWholeLines text whole
are_whole text left whole far lacks is =
    let same = is ∙ before_left text left far in record {
      lines = far.lines;
      rest = left;
      is = same;
      lines_end = far.whole;
      parts = far.parts ∙ ap (λ (one : List ℕ). one ++ left) (sym same);
      lacks = lacks;
    }
