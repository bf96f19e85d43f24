-- Lemmas on what the reading of a file reports.
use Rattle.std.proofs.Common.{◌≡◌, ◌∙◌, ℕ, ◌+◌, ◌<◌, List, length, ap, refl, arith, length-append, Option, Some, None}
use Rattle.std.specs.Io.KnownBytes.{Consumes}
use Rattle.rbg_console.specs.Files.{MayBe}

-- if more bytes come than the limit, there are more than the limit
pub more_known : (limit : ℕ) (known left : Option (List ℕ)) (bytes : List ℕ) → limit < length bytes → Consumes known left bytes → (all : List ℕ) × (limit < length all) × MayBe known all
more_known limit None left bytes above taken = (bytes, above, tt)
more_known limit (Some xs) None bytes above taken = absurd taken
more_known limit (Some xs) (Some ys) bytes above taken =
    let long : length xs ≡ length bytes + length ys = ap length taken ∙ length-append bytes ys in
    (xs, omega (arith, long, above), refl)
