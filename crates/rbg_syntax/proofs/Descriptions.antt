-- What is answered for the whole description, from the answers for its sections.
use Rattle.std.proofs.Common.{◌≡◌, ◌≤◌, List, [], ◌∷◌, length, ℕ, Option, Some, None, Result, Ok, Err, refl, sym, ap, ◌∙◌, subst, arith, inl, inr, slice_get}
use Rattle.rbg_macro.proofs.TextCommon.{Lexeme, is_name_kind, is_symbol}
use Rattle.rbg_macro.specs.Sections.{SectionTokens}
use Rattle.rbg_macro.specs.declared.source.SectionKind.{SectionKind}
use Rattle.rbg_macro.specs.declared.source.SectionKind.TheVariants.{Players, Pieces, Variables, Board, Rules}
use Rattle.rbg_macro.specs.declared.token.Symbol.TheVariants.{Comma}
use Rattle.rbg_syntax.specs.declared.error.ReadError.{ReadError}
use Rattle.rbg_syntax.specs.declared.error.ReadError.TheVariants as faults
use Rattle.rbg_syntax.specs.declared.error.SyntaxError.{SyntaxError}
use Rattle.rbg_syntax.specs.declared.error.SyntaxError.TheVariants as errors
use Rattle.rbg_grammar.proofs.Common.{SpeltBounded, SpeltName, SpeltBoard, SpeltRule, ArePlayers, AreVariables, ArePieces, IsBoard, AreRules, Fault, misfit, Reading, bounded_at, name_at, separated_at, listed_at, board_at, whole_at, variables_at, rules_at, sections_of, AreDifferent, HasSection, IsSection, MayHaveVariables, IsSpelt}
use Rattle.rbg_syntax.specs.internal.Giving.{Gives, GivesWithin, GivesAt, Fails, FailsWithin, error_in, placed, start_of}
use Rattle.rbg_syntax.specs.Faults.{HasFault}
use Rattle.rbg_grammar.proofs.Readers.{IsReadBy, Always}
use Rattle.rbg_grammar.proofs.Combinators.{EndsList, Stops}
use Rattle.rbg_grammar.proofs.SectionReaders.{players_read, names_read, board_read}
use Rattle.rbg_syntax.proofs.Answers.{ok_value, whole_sound, whole_complete}
use Rattle.rbg_grammar.proofs.Depths.{spells_nothing, too_deep_here}
use Rattle.rbg_grammar.proofs.Misfits.{Judges}
use Rattle.rbg_syntax.proofs.Places.{misspelt, one_error, placed_ok, placed_within}
use Rattle.rbg_grammar.proofs.RuleMisfits.{rules_judged}
use Rattle.rbg_grammar.proofs.SectionMisfits.{players_judged, pieces_judged, variables_judged, board_judged}
use Rattle.rbg_grammar.proofs.OneDescription.{variables_read}
use Rattle.rbg_grammar.proofs.RuleReaders.{EndsRules, nothing_ends_rules, rules_read}

-- a section of a kind is the only one if none occurs twice
only_one : (xs : List SectionTokens) (s : SectionTokens) → length xs ≤ 1 → slice_get xs 0 ≡ Some s → xs ≡ s ∷ []
only_one [] s h e = cc
only_one (x ∷ []) s h e = let same : x ≡ s = cc in rw same
only_one (x ∷ y ∷ xs) s h e = absurd (omega arith)

has_section : (all : List SectionTokens) (kind : SectionKind) (s : SectionTokens) → AreDifferent all → slice_get (sections_of kind all) 0 ≡ Some s → HasSection all kind s.tokens
has_section all kind s different e = record { section = s; only = only_one (sections_of kind all) s (different kind) e; tokens = refl }

-- a section that isn't read
module _ {A B : Type 0} (P : List Lexeme → B → List Lexeme → Type 0) (read : List Lexeme → Reading B) (j : Judges P read) (kind : SectionKind)
    (see : (ts : List Lexeme) (x : B) → P ts x [] → IsSpelt kind ts) (refuted : (ts : List Lexeme) (place : Option ℕ) → whole_at read ts ≡ Err (misfit place) → IsSpelt kind ts → ⊥)
    (all : List SectionTokens) (view : A → B) (s : SectionTokens) (only : sections_of kind all ≡ s ∷ []) where
  fault_in : (d : ReadError) → Fails d (whole_at read s.tokens) → HasFault all (error_in s.at d)
  fault_in (faults.Misfit place what) h = misspelt P read j kind see refuted all s only place what h
  fault_in (faults.TooDeep at) h = absurd h
  fault_in faults.Memory h = tt

  fault_of : (r : Result A ReadError) (e : SyntaxError) → Gives view r (whole_at read s.tokens) → placed s.at r ≡ Err e → HasFault all e
  fault_of (Ok x) e h same = cc
  fault_of (Err d) e h same = subst (HasFault all) (one_error (error_in s.at d) e same) (fault_in d h)

err_no_ok : {A : Type 0} (r : Result A Fault) (f : Fault) (x : A) → r ≡ Err f → r ≡ Ok x → ⊥
err_no_ok r f x e g = cc

-- tokens that don't fit spell nothing
players_refuted : (ts : List Lexeme) (place : Option ℕ) → whole_at (separated_at Comma bounded_at) ts ≡ Err (misfit place) → IsSpelt Players ts → ⊥
players_refuted ts place e s = err_no_ok _ (misfit place) s.0 e (whole_complete 1 ArePlayers (Stops Always (is_symbol Comma)) (separated_at Comma bounded_at) players_read (record { ends = refl; follows = tt }) ts s.0 s.1)

pieces_refuted : (ts : List Lexeme) (place : Option ℕ) → whole_at (separated_at Comma name_at) ts ≡ Err (misfit place) → IsSpelt Pieces ts → ⊥
pieces_refuted ts place e s = err_no_ok _ (misfit place) s.0 e (whole_complete 1 ArePieces (Stops Always (is_symbol Comma)) (separated_at Comma name_at) names_read (record { ends = refl; follows = tt }) ts s.0 s.1)

board_refuted : (ts : List Lexeme) (place : Option ℕ) → whole_at board_at ts ≡ Err (misfit place) → IsSpelt Board ts → ⊥
board_refuted ts place e s = err_no_ok _ (misfit place) s.0 e (whole_complete 1 IsBoard Always board_at board_read tt ts s.0 s.1)

variables_refuted : (ts : List Lexeme) (place : Option ℕ) → whole_at (listed_at is_name_kind bounded_at) ts ≡ Err (misfit place) → IsSpelt Variables ts → ⊥
variables_refuted ts place e s =
    err_no_ok _ (misfit place) s.0 e (whole_complete 0 AreVariables (EndsList Always is_name_kind) (listed_at is_name_kind bounded_at) variables_read (record { no_part = refl; no_comma = record { ends = refl; follows = tt } }) ts s.0 s.1)

rules_refuted : (ts : List Lexeme) (place : Option ℕ) → whole_at (rules_at 128) ts ≡ Err (misfit place) → IsSpelt Rules ts → ⊥
rules_refuted ts place e s = spells_nothing 128 s.0 ts s.1.0 place e s.1.1

-- a section that is read
module _ {A B : Type 0} (least : ℕ) (P : List Lexeme → B → List Lexeme → Type 0) (Follow : List Lexeme → Type 0) (read : List Lexeme → Reading B) (reads : IsReadBy least P Follow read) (follows : Follow []) (kind : SectionKind)
    (all : List SectionTokens) (view : A → B) (s : SectionTokens) (r : Result A ReadError) (x : A) (different : AreDifferent all) (first : slice_get (sections_of kind all) 0 ≡ Some s) (there : placed s.at r ≡ Ok x) where
  spelt_by : whole_at read s.tokens ≡ Ok (view x) → IsSection all kind P (view x)
  spelt_by is = record { ts = s.tokens; has = has_section all kind s different first; spells = whole_sound least P Follow read reads follows s.tokens (view x) is }

  spelt : Gives view r (whole_at read s.tokens) → IsSection all kind P (view x)
  spelt gives = spelt_by (placed_ok view (whole_at read s.tokens) s.at r x there gives)

  spelt_within : GivesWithin view r (whole_at read s.tokens) → IsSection all kind P (view x)
  spelt_within gives = spelt_by (placed_within view (whole_at read s.tokens) s.at r x there gives)

pub players_spelt : {A : Type 0} (all : List SectionTokens) (view : A → List SpeltBounded) (s : SectionTokens) (r : Result A ReadError) (x : A) → AreDifferent all → slice_get (sections_of Players all) 0 ≡ Some s → placed s.at r ≡ Ok x
    → Gives view r (whole_at (separated_at Comma bounded_at) s.tokens) → IsSection all Players ArePlayers (view x)
players_spelt = spelt 1 ArePlayers (Stops Always (is_symbol Comma)) (separated_at Comma bounded_at) players_read (record { ends = refl; follows = tt }) Players

pub pieces_spelt : {A : Type 0} (all : List SectionTokens) (view : A → List SpeltName) (s : SectionTokens) (r : Result A ReadError) (x : A) → AreDifferent all → slice_get (sections_of Pieces all) 0 ≡ Some s → placed s.at r ≡ Ok x
    → Gives view r (whole_at (separated_at Comma name_at) s.tokens) → IsSection all Pieces ArePieces (view x)
pieces_spelt = spelt 1 ArePieces (Stops Always (is_symbol Comma)) (separated_at Comma name_at) names_read (record { ends = refl; follows = tt }) Pieces

pub board_spelt : {A : Type 0} (all : List SectionTokens) (view : A → SpeltBoard) (s : SectionTokens) (r : Result A ReadError) (x : A) → AreDifferent all → slice_get (sections_of Board all) 0 ≡ Some s → placed s.at r ≡ Ok x
    → Gives view r (whole_at board_at s.tokens) → IsSection all Board IsBoard (view x)
board_spelt = spelt 1 IsBoard Always board_at board_read tt Board

pub rules_spelt : {A : Type 0} (all : List SectionTokens) (view : A → SpeltRule) (s : SectionTokens) (r : Result A ReadError) (x : A) → AreDifferent all → slice_get (sections_of Rules all) 0 ≡ Some s → placed s.at r ≡ Ok x
    → GivesWithin view r (whole_at (rules_at 128) s.tokens) → IsSection all Rules (AreRules 128) (view x)
rules_spelt = spelt_within 1 (AreRules 128) EndsRules (rules_at 128) (rules_read 128) nothing_ends_rules Rules

-- their faults
pub players_fault : {A : Type 0} (all : List SectionTokens) (view : A → List SpeltBounded) (s : SectionTokens) (r : Result A ReadError) (e : SyntaxError) → AreDifferent all → slice_get (sections_of Players all) 0 ≡ Some s
    → Gives view r (whole_at (separated_at Comma bounded_at) s.tokens) → placed s.at r ≡ Err e → HasFault all e
players_fault all view s r e different first = fault_of ArePlayers (separated_at Comma bounded_at) players_judged Players (λ ts x d. (x, d)) players_refuted all view s (only_one (sections_of Players all) s (different Players) first) r e

pub pieces_fault : {A : Type 0} (all : List SectionTokens) (view : A → List SpeltName) (s : SectionTokens) (r : Result A ReadError) (e : SyntaxError) → AreDifferent all → slice_get (sections_of Pieces all) 0 ≡ Some s
    → Gives view r (whole_at (separated_at Comma name_at) s.tokens) → placed s.at r ≡ Err e → HasFault all e
pieces_fault all view s r e different first = fault_of ArePieces (separated_at Comma name_at) pieces_judged Pieces (λ ts x d. (x, d)) pieces_refuted all view s (only_one (sections_of Pieces all) s (different Pieces) first) r e

pub board_fault : {A : Type 0} (all : List SectionTokens) (view : A → SpeltBoard) (s : SectionTokens) (r : Result A ReadError) (e : SyntaxError) → AreDifferent all → slice_get (sections_of Board all) 0 ≡ Some s
    → Gives view r (whole_at board_at s.tokens) → placed s.at r ≡ Err e → HasFault all e
board_fault all view s r e different first = fault_of IsBoard board_at board_judged Board (λ ts x d. (x, d)) board_refuted all view s (only_one (sections_of Board all) s (different Board) first) r e

-- rules: that they spell none at any depth, or that a bracket is one too many
rules_fault_in : (all : List SectionTokens) (s : SectionTokens) (only : sections_of Rules all ≡ s ∷ []) (d : ReadError) → FailsWithin d (whole_at (rules_at 128) s.tokens) → HasFault all (error_in s.at d)
rules_fault_in all s only (faults.Misfit place what) h = misspelt (AreRules 128) (rules_at 128) (rules_judged 128) Rules (λ ts x d. (128, (x, d))) rules_refuted all s only place what h
rules_fault_in all s only (faults.TooDeep at) h = record { ts = s.tokens; has = record { section = s; only = only; tokens = refl }; deep = too_deep_here at s.tokens h }
rules_fault_in all s only faults.Memory h = tt

pub rules_fault : {A : Type 0} (all : List SectionTokens) (view : A → SpeltRule) (s : SectionTokens) (r : Result A ReadError) (e : SyntaxError) → AreDifferent all → slice_get (sections_of Rules all) 0 ≡ Some s
    → GivesWithin view r (whole_at (rules_at 128) s.tokens) → placed s.at r ≡ Err e → HasFault all e
rules_fault all view s (Ok x) e different first h same = cc
rules_fault all view s (Err d) e different first h same =
    subst (HasFault all) (one_error (error_in s.at d) e same) (rules_fault_in all s (only_one (sections_of Rules all) s (different Rules) first) d h)

-- variables, which may have no section
at_most_one : (x : SectionTokens) (xs : List SectionTokens) → length (x ∷ xs) ≤ 1 → xs ≡ []
at_most_one x [] h = refl
at_most_one x (y ∷ ys) h = absurd (omega arith)

only_variables : (all : List SectionTokens) (s : SectionTokens) (ss : List SectionTokens) → AreDifferent all → sections_of Variables all ≡ s ∷ ss → sections_of Variables all ≡ s ∷ []
only_variables all s ss different is =
    let none : ss ≡ [] = at_most_one s ss (subst (λ xs. length xs ≤ 1) is (different Variables)) in
    is ∙ ap (λ xs. s ∷ xs) none

spelt_variables : {A : Type 0} (all : List SectionTokens) (view : A → List SpeltBounded) (x : A) → AreDifferent all → Gives view (Ok x) (variables_at (sections_of Variables all)) → MayHaveVariables all (view x)
unfolding variables_at
spelt_variables {A} all view x different h = go (sections_of Variables all) refl h
  where
    go : (xs : List SectionTokens) → sections_of Variables all ≡ xs → Gives view (Ok x) (variables_at xs) → MayHaveVariables all (view x)
    go [] is h = inl (is, sym (ok_value [] (view x) h))
    go (s ∷ ss) is h = inr (record { ts = s.tokens; has = record { section = s; only = only_variables all s ss different is; tokens = refl }; spells = whole_sound 0 AreVariables (EndsList Always is_name_kind) (listed_at is_name_kind bounded_at) variables_read (record { no_part = refl; no_comma = record { ends = refl; follows = tt } }) s.tokens (view x) h })

pub variables_spelt : {A : Type 0} (all : List SectionTokens) (view : A → List SpeltBounded) (x : A) → AreDifferent all
    → GivesAt (start_of (sections_of Variables all)) view (Ok x) (variables_at (sections_of Variables all)) → MayHaveVariables all (view x)
variables_spelt all view x different h = spelt_variables all view x different (placed_ok view (variables_at (sections_of Variables all)) (start_of (sections_of Variables all)) h.0 x (sym h.1) h.2)

-- without a section of variables, the only refusal is out of memory
none_refused : {A : Type 0} (all : List SectionTokens) (view : A → List SpeltBounded) (r : Result A ReadError) (e : SyntaxError) → Gives view r (Ok []) → placed 0 r ≡ Err e → HasFault all e
none_refused all view (Ok x) e h same = cc
none_refused all view (Err (faults.Misfit place what)) e h same = cc
none_refused all view (Err (faults.TooDeep at)) e h same = absurd h
none_refused all view (Err faults.Memory) e h same = subst (HasFault all) (one_error errors.Memory e same) tt

pub variables_fault : {A : Type 0} (all : List SectionTokens) (view : A → List SpeltBounded) (e : SyntaxError) → AreDifferent all
    → GivesAt (start_of (sections_of Variables all)) view (Err e) (variables_at (sections_of Variables all)) → HasFault all e
unfolding variables_at
variables_fault {A} all view e different h = go (sections_of Variables all) refl h.0 (sym h.1) h.2
  where
    go : (xs : List SectionTokens) → sections_of Variables all ≡ xs → (r : Result A ReadError) → placed (start_of xs) r ≡ Err e → Gives view r (variables_at xs) → HasFault all e
    go [] is r same h = none_refused all view r e h same
    go (s ∷ ss) is r same h =
        fault_of AreVariables (listed_at is_name_kind bounded_at) variables_judged Variables (λ ts x d. (x, d)) variables_refuted all view s (only_variables all s ss different is) r e h same

pub variables_start : (xs : List SectionTokens) (s : SectionTokens) → Some s ≡ slice_get xs 0 → s.at ≡ start_of xs
variables_start [] s e = cc
variables_start (x ∷ xs) s e = let same : s ≡ x = cc in ap (λ (y : SectionTokens). y.at) same

pub variables_first : (xs : List SectionTokens) (s : SectionTokens) → Some s ≡ slice_get xs 0 → variables_at xs ≡ whole_at (listed_at is_name_kind bounded_at) s.tokens
unfolding variables_at
variables_first [] s e = cc
variables_first (x ∷ xs) s e = let same : s ≡ x = cc in ap (λ (y : SectionTokens). whole_at (listed_at is_name_kind bounded_at) y.tokens) (sym same)

pub variables_none : (xs : List SectionTokens) → None ≡ slice_get xs 0 → variables_at xs ≡ Ok []
unfolding variables_at
variables_none [] e = refl
variables_none (x ∷ xs) e = cc
