-- Lemmas on words with the option `--cut`.
use Rattle.std.proofs.Common.{◌≡◌, ◌∙◌, ℕ, List, [], ◌∷◌, true, false, codes, get_or, length, ap, sym, subst, arith, Option, Some, None}
use Rattle.rbg_cli.specs.Words.{Wish, recorded_match, Asks, IsName, cut_file}
use Rattle.rbg_cli.specs.Words.Asks.{nothing, of_input, check, of_file, replay, migrate, moves_after, record_input, record_file, file_recorded, moves, cut_input, cut_before, cut_after, script}

-- the option is no name
no_name : (word : List ℕ) → word ≡ codes "--cut" → IsName word → ⊥
no_name word is name = absurd (let no : true ≡ false = subst (λ w. IsName w) is name in cc)

-- three words are no fewer and no more
count_of : (words : List (List ℕ)) (command first second : List ℕ) → command ∷ first ∷ second ∷ [] ≡ words → 3 ≡ length words
count_of words command first second same = ap (λ (ws : List (List ℕ)). length ws) same

-- the command is `referee`, by its third byte
third_byte : (words : List (List ℕ)) (command first second : List ℕ) → command ≡ codes "referee" → command ∷ first ∷ second ∷ [] ≡ words → 102 ≡ get_or (get_or words 0 []) 2 0
third_byte words command first second is same = ap (λ w. get_or w 2 0) (sym is) ∙ ap (λ (ws : List (List ℕ)). get_or (get_or ws 0 []) 2 0) same

-- the words after a command
first_of : (words : List (List ℕ)) (command first second : List ℕ) → command ∷ first ∷ second ∷ [] ≡ words → first ≡ get_or words 1 []
first_of words command first second same = ap (λ (ws : List (List ℕ)). get_or ws 1 []) same

second_of : (words : List (List ℕ)) (command first second : List ℕ) → command ∷ first ∷ second ∷ [] ≡ words → second ≡ get_or words 2 []
second_of words command first second same = ap (λ (ws : List (List ℕ)). get_or ws 2 []) same

-- What `referee` asks for with two words: a record of a match of standard input, or that the script may be cut off, where
-- the option stands before the file or after it. What is true of each of these is true of all that it asks for.
of_two : (P : Wish → Type 0) (command first second : List ℕ) → command ≡ codes "referee" → (recorded : first ≡ codes "--record" → IsName second → P (recorded_match (record { file = None; record_file = second }))) → (before : first ≡ codes "--cut" → IsName second → P (cut_file second)) → (after : second ≡ codes "--cut" → IsName first → P (cut_file first)) → (wish : Wish) → Asks (command ∷ first ∷ second ∷ []) wish → P wish
of_two P command first second is recorded before after _ (nothing same) =
    let no : 3 ≡ 0 = count_of ([]) command first second same in absurd (omega (arith, no))
of_two P command first second is recorded before after _ (of_input same) =
    let no : 3 ≡ 1 = count_of (codes "referee" ∷ []) command first second same in absurd (omega (arith, no))
of_two P command first second is recorded before after _ (check file same name) =
    let no : 3 ≡ 2 = count_of (codes "check" ∷ file ∷ []) command first second same in absurd (omega (arith, no))
of_two P command first second is recorded before after _ (of_file file same name) =
    let no : 3 ≡ 2 = count_of (codes "referee" ∷ file ∷ []) command first second same in absurd (omega (arith, no))
of_two P command first second is recorded before after _ (replay file other same name named) =
    let no : 102 ≡ 112 = third_byte (codes "replay" ∷ file ∷ other ∷ []) command first second is same in absurd (omega (arith, no))
of_two P command first second is recorded before after _ (migrate file other same name named) =
    let no : 102 ≡ 103 = third_byte (codes "migrate" ∷ file ∷ other ∷ []) command first second is same in absurd (omega (arith, no))
of_two P command first second is recorded before after _ (moves_after file other same name named) =
    let no : 102 ≡ 118 = third_byte (codes "moves" ∷ file ∷ other ∷ []) command first second is same in absurd (omega (arith, no))
of_two P command first second is recorded before after _ (record_input other same name) =
    let words : List (List ℕ) = codes "referee" ∷ codes "--record" ∷ other ∷ [] in
    let is_second : second ≡ other = second_of words command first second same in
    subst (λ w. P (recorded_match (record { file = None; record_file = w }))) is_second (recorded (first_of words command first second same) (subst (λ w. IsName w) (sym is_second) name))
of_two P command first second is recorded before after _ (record_file file other same name named) =
    let no : 3 ≡ 4 = count_of (codes "referee" ∷ codes "--record" ∷ other ∷ file ∷ []) command first second same in absurd (omega (arith, no))
of_two P command first second is recorded before after _ (file_recorded file other same name named) =
    let no : 3 ≡ 4 = count_of (codes "referee" ∷ file ∷ codes "--record" ∷ other ∷ []) command first second same in absurd (omega (arith, no))
of_two P command first second is recorded before after _ (moves file same name) =
    let no : 3 ≡ 2 = count_of (codes "moves" ∷ file ∷ []) command first second same in absurd (omega (arith, no))
of_two P command first second is recorded before after _ (cut_input same) =
    let no : 3 ≡ 2 = count_of (codes "referee" ∷ codes "--cut" ∷ []) command first second same in absurd (omega (arith, no))
of_two P command first second is recorded before after _ (cut_before file same name) =
    let words : List (List ℕ) = codes "referee" ∷ codes "--cut" ∷ file ∷ [] in
    let is_second : second ≡ file = second_of words command first second same in
    subst (λ w. P (cut_file w)) is_second (before (first_of words command first second same) (subst (λ w. IsName w) (sym is_second) name))
of_two P command first second is recorded before after _ (cut_after file same name) =
    let words : List (List ℕ) = codes "referee" ∷ file ∷ codes "--cut" ∷ [] in
    let is_first : first ≡ file = first_of words command first second same in
    subst (λ w. P (cut_file w)) is_first (after (second_of words command first second same) (subst (λ w. IsName w) (sym is_first) name))
of_two P command first second is recorded before after _ (script file same name) =
    let no : 3 ≡ 2 = count_of (codes "script" ∷ file ∷ []) command first second same in absurd (omega (arith, no))

-- `referee FILE --cut` asks for nothing but what is found
pub cut_after_found : (command first second : List ℕ) (found : Option Wish) → command ≡ codes "referee" → second ≡ codes "--cut" → (IsName first → found ≡ Some (cut_file first)) → (wish : Wish) → Asks (command ∷ first ∷ second ∷ []) wish → found ≡ Some wish
cut_after_found command first second found is cut finds =
    of_two (λ wish. found ≡ Some wish) command first second is (λ option name. absurd (no_name second cut name)) (λ option name. absurd (no_name second cut name)) (λ option name. finds name)

-- and `referee --cut FILE`
pub cut_before_found : (command first second : List ℕ) (found : Option Wish) → command ≡ codes "referee" → first ≡ codes "--cut" → (IsName second → found ≡ Some (cut_file second)) → (wish : Wish) → Asks (command ∷ first ∷ second ∷ []) wish → found ≡ Some wish
cut_before_found command first second found is cut finds =
    of_two (λ wish. found ≡ Some wish) command first second is
    (λ option name. absurd (let no : 99 ≡ 114 = ap (λ w. get_or w 2 0) (sym cut ∙ option) in omega (arith, no)))
    (λ option name. finds name) (λ option name. absurd (no_name first cut name))
