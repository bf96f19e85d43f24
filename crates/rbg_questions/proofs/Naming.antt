-- The names of the things below a number.
use Rattle.rbg_base.proofs.Common.{◌≡◌, ℕ, ◌+◌, List, [], ◌∷◌, ◌++◌, take, slice_get, Some, codes, ap, sym, ◌∙◌, append_assoc, append-nil, take_more, slice_get_within, get_or_from_slice_get}
use Rattle.std.proofs.lemmas.List.Concat.{flat_map-append}
use Rattle.rbg_questions.specs.Answers.{names_text}

-- the names so far, and the next one
pub names_more : (old mid new : List ℕ) (names : List (List ℕ)) (index : ℕ) (name : List ℕ) → mid ≡ old ++ names_text (take index names) → slice_get names index ≡ Some name → new ≡ mid ++ (codes " " ++ name) → new ≡ old ++ names_text (take (index + 1) names)
names_more old mid new names index name so_far there written =
    let longer : take (index + 1) names ≡ take index names ++ name ∷ [] =
    take_more names index [] (slice_get_within names index name there) ∙ ap (λ n. take index names ++ n ∷ []) (get_or_from_slice_get names index name [] there) in
    let told : names_text (take (index + 1) names) ≡ names_text (take index names) ++ (codes " " ++ name) =
    ap names_text longer ∙ (flat_map-append (λ n. codes " " ++ n) (take index names) (name ∷ []) ∙ ap (λ t. names_text (take index names) ++ t) (append-nil (codes " " ++ name))) in
    written ∙ (ap (λ m. m ++ (codes " " ++ name)) so_far ∙ (append_assoc old (names_text (take index names)) (codes " " ++ name) ∙ ap (λ t. old ++ t) (sym told)))
