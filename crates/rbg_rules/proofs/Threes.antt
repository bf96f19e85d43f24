-- Lists of three openings.
use Rattle.rbg_base.proofs.Common.{◌≢◌, List, [], ◌∷◌, arith, All, AllPairs, All-cons, All-nil}
use Rattle.std.proofs.lemmas.List.Kept.{AllPairs-cons}
use Rattle.rbg_rules.specs.Meaning.{Item}

pub all_three : (P : List Item → Type 0) (a b c : List Item) → P a → P b → P c → All P (a ∷ b ∷ c ∷ [])
all_three P a b c one two last = All-cons P a (b ∷ c ∷ []) one (All-cons P b (c ∷ []) two (All-cons P c [] last (All-nil P)))

abbrev pub Differs : List Item → List Item → Type 0
Differs o o' = o ≢ o'

pub three_apart : (a b c : List Item) → a ≢ b → a ≢ c → b ≢ c → AllPairs Differs (a ∷ b ∷ c ∷ [])
three_apart a b c ab ac bc =
    AllPairs-cons Differs a (b ∷ c ∷ []) (All-cons (Differs a) b (c ∷ []) ab (All-cons (Differs a) c [] ac (All-nil (Differs a))))
    (AllPairs-cons Differs b (c ∷ []) (All-cons (Differs b) c [] bc (All-nil (Differs b)))
    (AllPairs-cons Differs c [] (All-nil (Differs c)) (λ i j d below inside. absurd (omega arith))))
