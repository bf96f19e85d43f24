-- The lines of means, one after the other.
use Rattle.rbg_base.proofs.Common.{◌≡◌, ℕ, suc, ◌+◌, List, [], ◌++◌, slice_get, get_or, Some, append_assoc, sym, ap, ◌∙◌, arith, get_or_from_slice_get}
use Rattle.rbg_questions.specs.Chance.{Counted}
use Rattle.rbg_questions.specs.Summary.{finished_in, mean_line, mean_lines, total_of}

-- the lines so far, and the next one
pub lines_more : (old mid new name : List ℕ) (names : List (List ℕ)) (counted : List Counted) (i : ℕ) → mid ≡ old ++ mean_lines names counted i → slice_get names i ≡ Some name → new ≡ mid ++ mean_line name (total_of i counted) (finished_in counted) → new ≡ old ++ mean_lines names counted (i + 1)
lines_more old mid new name names counted i so_far there written =
    let line : List ℕ = mean_line name (total_of i counted) (finished_in counted) in
    let named : get_or names i [] ≡ name = get_or_from_slice_get names i name [] there in
    let next : mean_lines names counted (suc i) ≡ mean_lines names counted i ++ line =
    ap (λ n. mean_lines names counted i ++ mean_line n (total_of i counted) (finished_in counted)) named in
    let same : suc i ≡ i + 1 = omega arith in
    let whole : mean_lines names counted (i + 1) ≡ mean_lines names counted i ++ line = ap (mean_lines names counted) (sym same) ∙ next in
    written ∙ (ap (λ m. m ++ line) so_far ∙ (append_assoc old (mean_lines names counted i) line ∙ ap (λ t. old ++ t) (sym whole)))
