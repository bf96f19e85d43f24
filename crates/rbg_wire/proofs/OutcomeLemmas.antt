-- Outcomes and their texts.
use Rattle.rbg_base.proofs.Common.{◌≡◌, ◌≢◌, ℕ, ◌+◌, ◌<◌, ◌^◌, List, [], ◌∷◌, ◌++◌, length, decimal, codes, Option, Some, None, IfSome, IfNone, ap, sym, ◌∙◌, refl, subst, arith, flat_map, decimal_injective}
use Rattle.rbg_wire.proofs.Common.{Outcome, Finished, Time, Refusals, Gone, Heavy, outcome_text, SpellsOutcome, SpellsPlayer, SpellsScores}
use Rattle.rbg_wire.proofs.ScoreLemmas.{same_scores}

pub spells_finished : (fields scores : List ℕ) → SpellsScores fields scores → SpellsOutcome (69 ∷ 48 ∷ fields) (Finished scores)
unfolding outcome_text
spells_finished fields scores h = record { has = h.has; is = ap (λ f. 69 ∷ 48 ∷ f) h.is }

pub spells_heavy : (fields : List ℕ) → fields ≡ [] → SpellsOutcome (69 ∷ 52 ∷ fields) Heavy
unfolding outcome_text
spells_heavy fields none = record { has = tt; is = ap (λ f. 69 ∷ 52 ∷ f) none }

-- the kind and the fields of an outcome with a player
player_fields : (text : List ℕ) (kind is : ℕ) (fields : List ℕ) (player : ℕ) → text ≡ kind ∷ fields → player < 2 ^ 64 → 69 ∷ text ≡ 69 ∷ is ∷ 32 ∷ decimal player → (kind ≡ is) × SpellsPlayer fields player
player_fields text kind is fields player parts small whole =
    let same : 69 ∷ kind ∷ fields ≡ 69 ∷ is ∷ 32 ∷ decimal player = ap (λ t. 69 ∷ t) (sym parts) ∙ whole in
    let spelled : SpellsPlayer fields player = record { small = small; is = cc } in
    (cc, spelled)

-- An outcome with this text has one of the five kinds, and the fields of its kind.
pub outcome_cases : (P : Outcome → Type 0) (text : List ℕ) (kind : ℕ) (fields : List ℕ) → text ≡ kind ∷ fields
    → ((scores : List ℕ) → kind ≡ 48 → SpellsScores fields scores → P (Finished scores))
    → ((player : ℕ) → kind ≡ 49 → SpellsPlayer fields player → P (Time player))
    → ((player : ℕ) → kind ≡ 50 → SpellsPlayer fields player → P (Refusals player))
    → ((player : ℕ) → kind ≡ 51 → SpellsPlayer fields player → P (Gone player))
    → (kind ≡ 52 → fields ≡ [] → P Heavy)
    → (outcome : Outcome) → SpellsOutcome (69 ∷ text) outcome → P outcome
unfolding outcome_text
outcome_cases P text kind fields parts finished time refusals gone heavy (Finished scores) h =
    let same : 69 ∷ kind ∷ fields ≡ 69 ∷ 48 ∷ flat_map (λ score. codes " " ++ decimal score) scores = ap (λ t. 69 ∷ t) (sym parts) ∙ h.is in
    let spelled : SpellsScores fields scores = record { has = h.has; is = cc } in
    finished scores (cc) spelled
outcome_cases P text kind fields parts finished time refusals gone heavy (Time player) h =
    let same = player_fields text kind 49 fields player parts h.has h.is in time player same.0 same.1
outcome_cases P text kind fields parts finished time refusals gone heavy (Refusals player) h =
    let same = player_fields text kind 50 fields player parts h.has h.is in refusals player same.0 same.1
outcome_cases P text kind fields parts finished time refusals gone heavy (Gone player) h =
    let same = player_fields text kind 51 fields player parts h.has h.is in gone player same.0 same.1
outcome_cases P text kind fields parts finished time refusals gone heavy Heavy h =
    let same : 69 ∷ kind ∷ fields ≡ 69 ∷ 52 ∷ [] = ap (λ t. 69 ∷ t) (sym parts) ∙ h.is in
    heavy (cc) (cc)

pub no_outcome : (text : List ℕ) (kind : ℕ) (fields : List ℕ) → text ≡ kind ∷ fields
    → ((scores : List ℕ) → kind ≡ 48 → SpellsScores fields scores → ⊥)
    → ((player : ℕ) → kind ≡ 49 → SpellsPlayer fields player → ⊥)
    → ((player : ℕ) → kind ≡ 50 → SpellsPlayer fields player → ⊥)
    → ((player : ℕ) → kind ≡ 51 → SpellsPlayer fields player → ⊥)
    → (kind ≡ 52 → fields ≡ [] → ⊥)
    → (outcome : Outcome) → SpellsOutcome (69 ∷ text) outcome → ⊥
no_outcome = outcome_cases (λ _. ⊥)

-- what is read of the kind and the player is read of the text
pub of_player_found : (text : List ℕ) (kind : ℕ) (fields : List ℕ) (player : ℕ) (answer : Option Outcome) → text ≡ kind ∷ fields → SpellsPlayer fields player → IfSome answer (SpellsOutcome (69 ∷ kind ∷ 32 ∷ decimal player)) → IfSome answer (SpellsOutcome (69 ∷ text))
of_player_found text kind fields player answer parts h found =
    subst (λ t. IfSome answer (SpellsOutcome (69 ∷ t))) (sym (parts ∙ ap (λ f. kind ∷ f) h.is)) found

pub of_player_none : (text : List ℕ) (kind : ℕ) (fields : List ℕ) (answer : Option Outcome) → text ≡ kind ∷ fields → kind ≢ 48 → kind ≢ 52 → IfNone answer ((kind ≢ 49) × (kind ≢ 50) × (kind ≢ 51)) → IfNone answer ((outcome : Outcome) → SpellsOutcome (69 ∷ text) outcome → ⊥)
of_player_none text kind fields (Some found) parts zero four others = tt
of_player_none text kind fields None parts zero four others =
    no_outcome text kind fields parts (λ scores e h. zero e) (λ player e h. others.0 e) (λ player e h. others.1 e) (λ player e h. others.2 e) (λ e h. four e)

-- every text of an outcome begins with its letter and its kind
pub outcome_text-kind : (outcome : Outcome) → (kind : ℕ) × (fields : List ℕ) × (outcome_text outcome ≡ 69 ∷ kind ∷ fields)
unfolding outcome_text
outcome_text-kind (Finished scores) = (48, flat_map (λ score. codes " " ++ decimal score) scores, refl)
outcome_text-kind (Time player) = (49, 32 ∷ decimal player, refl)
outcome_text-kind (Refusals player) = (50, 32 ∷ decimal player, refl)
outcome_text-kind (Gone player) = (51, 32 ∷ decimal player, refl)
outcome_text-kind Heavy = (52, [], refl)

pub no_empty_outcome : (text : List ℕ) → length text ≡ 0 → (outcome : Outcome) → SpellsOutcome (69 ∷ text) outcome → ⊥
no_empty_outcome text none outcome h =
    let parts = outcome_text-kind outcome in
    let counted : length text + 1 ≡ length parts.1 + 2 = omega (arith, ap length (h.is ∙ parts.2)) in
    absurd (omega arith)

-- an outcome's text begins with its letter
pub letter_of_outcome : (text : List ℕ) → ((rest : List ℕ) → text ≡ 69 ∷ rest → ⊥) → (outcome : Outcome) → SpellsOutcome text outcome → ⊥
letter_of_outcome text none outcome h = let parts = outcome_text-kind outcome in none (parts.0 ∷ parts.1) (h.is ∙ parts.2)

pub same_player : (fields : List ℕ) (p q : ℕ) → SpellsPlayer fields p → SpellsPlayer fields q → p ≡ q
same_player fields p q h k = let same : 32 ∷ decimal p ≡ 32 ∷ decimal q = sym h.is ∙ k.is in decimal_injective p q h.small k.small cc

pub spelled_after : (text : List ℕ) (kind is : ℕ) (fields : List ℕ) (outcome : Outcome) → text ≡ kind ∷ fields → kind ≡ is → SpellsOutcome (69 ∷ is ∷ fields) outcome → SpellsOutcome (69 ∷ text) outcome
spelled_after text kind is fields outcome parts same h = record { has = h.has; is = ap (λ t. 69 ∷ t) parts ∙ (ap (λ k. 69 ∷ k ∷ fields) same ∙ h.is) }

-- a text is that of one outcome
pub one_outcome : (text : List ℕ) (a b : Outcome) → SpellsOutcome text a → SpellsOutcome text b → a ≡ b
unfolding outcome_text
one_outcome text (Finished scores) b h k =
    let fields = flat_map (λ score. codes " " ++ decimal score) scores in
    outcome_cases (λ o. Finished scores ≡ o) (48 ∷ fields) 48 fields refl
    (λ others e l. ap Finished (same_scores fields scores others (record { has = h.has; is = refl }) l))
    (λ player e l. absurd (omega arith)) (λ player e l. absurd (omega arith)) (λ player e l. absurd (omega arith)) (λ e l. absurd (omega arith))
    b (record { has = k.has; is = sym h.is ∙ k.is })
one_outcome text (Time p) b h k =
    outcome_cases (λ o. Time p ≡ o) (49 ∷ 32 ∷ decimal p) 49 (32 ∷ decimal p) refl
    (λ others e l. absurd (omega arith))
    (λ player e l. ap Time (same_player (32 ∷ decimal p) p player (record { small = h.has; is = refl }) l))
    (λ player e l. absurd (omega arith)) (λ player e l. absurd (omega arith)) (λ e l. absurd (omega arith))
    b (record { has = k.has; is = sym h.is ∙ k.is })
one_outcome text (Refusals p) b h k =
    outcome_cases (λ o. Refusals p ≡ o) (50 ∷ 32 ∷ decimal p) 50 (32 ∷ decimal p) refl
    (λ others e l. absurd (omega arith)) (λ player e l. absurd (omega arith))
    (λ player e l. ap Refusals (same_player (32 ∷ decimal p) p player (record { small = h.has; is = refl }) l))
    (λ player e l. absurd (omega arith)) (λ e l. absurd (omega arith))
    b (record { has = k.has; is = sym h.is ∙ k.is })
one_outcome text (Gone p) b h k =
    outcome_cases (λ o. Gone p ≡ o) (51 ∷ 32 ∷ decimal p) 51 (32 ∷ decimal p) refl
    (λ others e l. absurd (omega arith)) (λ player e l. absurd (omega arith)) (λ player e l. absurd (omega arith))
    (λ player e l. ap Gone (same_player (32 ∷ decimal p) p player (record { small = h.has; is = refl }) l))
    (λ e l. absurd (omega arith))
    b (record { has = k.has; is = sym h.is ∙ k.is })
one_outcome text Heavy b h k =
    outcome_cases (λ o. Heavy ≡ o) (52 ∷ []) 52 [] refl
    (λ others e l. absurd (omega arith)) (λ player e l. absurd (omega arith)) (λ player e l. absurd (omega arith)) (λ player e l. absurd (omega arith))
    (λ e l. refl)
    b (record { has = k.has; is = sym h.is ∙ k.is })

pub outcome_only : (text : List ℕ) (answer : Option Outcome) → IfSome answer (SpellsOutcome text) → IfNone answer ((outcome : Outcome) → SpellsOutcome text outcome → ⊥) → (outcome : Outcome) → SpellsOutcome text outcome → answer ≡ Some outcome
outcome_only text (Some found) h none outcome spelled = ap Some (one_outcome text found outcome h spelled)
outcome_only text None h none outcome spelled = absurd (none outcome spelled)
