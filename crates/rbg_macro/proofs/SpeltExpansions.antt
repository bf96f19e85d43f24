-- The tokens of expanded sections are spelt, since those of the text are.
use Rattle.rbg_base.proofs.Common.{ℕ, ◌≡◌, ◌+◌, Bool, true, false, cond, nat_eq, List, [], ◌∷◌, ◌++◌, length, arith, map, take, zero, suc, find, Option, None, Some, slice_get, unwrap_or, Result, Ok, Err, refl, subst, All-nil, All-cons, All, AllByRecursion, list_any, position_or_len, option_map, bytes_eq}
use Rattle.rbg_macro.proofs.Common.{MacroError, BadDefinition, Twice, SectionKind, SectionSpan, Arguments, Nesting, Within, Cuts, Ends, Mismatched, nesting, arguments, arguments_by, with_token, with_argument, Meets, Stays, Calls, NoCall, with_arguments, called, met, meets, Part, parts, part_of, is_hash_token, expect, after_equals, is_new_name, parameter_list, beyond_name, section_named, Defined, A_Section, A_Macro, defined_as, defined, Definitions, with_section, with_defined, definitions, definitions_of, Expands, list, Reads, nothing, stays, call, ExpandsAll, none, one_more, HasSections, ◌>>=◌, section_in, IsSectionWithin, IsSectionIn, AreLexemes, SectionTokens}
use Rattle.rbg_macro.proofs.TextCommon.{is_name_kind, is_symbol, IsLexeme, HasTokens, Lexeme}
use Rattle.rbg_macro.specs.declared.token.Symbol.TheVariants as symbols
use Rattle.rbg_macro.specs.Macro.{BodyItem, Word, Place, Macro, parameter_named, word_or_place, body_of, filled, macro_named}
use Rattle.rbg_macro.proofs.SpeltTokens.{Spelt, by_recursion, each, tokens_spelt}
use Rattle.rbg_macro.proofs.SpeltJoins.{joined_spelt}

-- what each element of two lists is, each one of their concatenation is
both_lists : {X : Type 0} (P : X → Type 0) (xs ys : List X) → AllByRecursion P xs → AllByRecursion P ys → AllByRecursion P (xs ++ ys)
both_lists P [] ys first second = second
both_lists P (x ∷ xs) ys first second = (first.0, both_lists P xs ys first.1 second)

front_of : {X : Type 0} (P : X → Type 0) (n : ℕ) (xs : List X) → AllByRecursion P xs → AllByRecursion P (take n xs)
front_of P zero xs all = tt
front_of P (suc n) [] all = tt
front_of P (suc n) (x ∷ xs) all = (all.0, front_of P n xs all.1)

-- parts
abbrev PartSpelt : Part → Type 0
PartSpelt p = Spelt p.tokens

parts_spelt : (ts : List Lexeme) → Spelt ts → AllByRecursion PartSpelt (parts ts)
parts_spelt [] spelt = tt
parts_spelt (t ∷ ts) spelt = by_hash (is_symbol symbols.Hash t.kind) (parts_spelt ts spelt.1)
  where
    by_hash : (hash : Bool) → AllByRecursion PartSpelt (parts ts) → AllByRecursion PartSpelt (cond hash (part_of t ts ∷ parts ts) (parts ts))
    by_hash true others = (front_of IsLexeme (position_or_len is_hash_token ts) ts spelt.1, others)
    by_hash false others = others

-- heads
expected : (fits : Lexeme → Bool) (end : ℕ) (ts : List Lexeme) (found : Lexeme × List Lexeme) → expect fits end ts ≡ Ok found → Spelt ts → Spelt found.1
expected fits end [] found is spelt = cc
expected fits end (t ∷ ts) found is spelt = by_test (fits t) is
  where
    by_test : (passes : Bool) → cond passes (Ok (t, ts)) (Err (BadDefinition t.at)) ≡ Ok found → Spelt found.1
    by_test true is = let same : (t, ts) ≡ found = cc in subst (λ (f : Lexeme × List Lexeme). Spelt f.1) same spelt.1
    by_test false is = cc

bound : {A B : Type 0} (r : Result A MacroError) (f : A → Result B MacroError) (y : B) → (r >>= f) ≡ Ok y → (x : A) × (r ≡ Ok x) × (f x ≡ Ok y)
bound (Ok x) f y is = (x, refl, is)
bound (Err e) f y is = cc

body_after_equals : (end : ℕ) (ts body : List Lexeme) → after_equals end ts ≡ Ok body → Spelt ts → Spelt body
body_after_equals end ts body is spelt =
    let (found, found_is, body_is) = bound (expect (λ e. is_symbol symbols.Equals e.kind) end ts) (λ found. Ok found.1) body is in
    let same : found.1 ≡ body = cc (body_is) in
    subst Spelt same (expected (λ e. is_symbol symbols.Equals e.kind) end ts found found_is spelt)

after_parameters : (end : ℕ) (earlier : List (List ℕ)) (ts : List Lexeme) (found : List (List ℕ) × List Lexeme) →
    parameter_list end earlier ts ≡ Ok found → Spelt ts → Spelt found.1
after_parameters end earlier [] found is spelt = cc
after_parameters end earlier (p ∷ []) found is spelt = by_new (is_new_name earlier p) is
  where
    by_new : (new : Bool) → cond new (Err (BadDefinition end)) (Err (BadDefinition p.at)) ≡ Ok found → Spelt found.1
    by_new true is = cc
    by_new false is = cc
after_parameters end earlier (p ∷ t ∷ ts) found is spelt =
    by_tests (is_new_name earlier p) (is_symbol symbols.CloseParenthesis t.kind) (is_symbol symbols.Semicolon t.kind) is
    (λ more_is. after_parameters end (earlier ++ p.text ∷ []) ts found more_is spelt.1.1)
  where
    by_tests : (new closes more : Bool) →
        cond new (cond closes (Ok (earlier ++ p.text ∷ [], ts)) (cond more (parameter_list end (earlier ++ p.text ∷ []) ts) (Err (BadDefinition t.at)))) (Err (BadDefinition p.at)) ≡ Ok found →
        (parameter_list end (earlier ++ p.text ∷ []) ts ≡ Ok found → Spelt found.1) → Spelt found.1
    by_tests false closes more is going_on = cc
    by_tests true true more is going_on =
        let same : (earlier ++ p.text ∷ [], ts) ≡ found = cc in
        subst (λ (f : List (List ℕ) × List Lexeme). Spelt f.1) same spelt.1.1
    by_tests true false true is going_on = going_on is
    by_tests true false false is going_on = cc

body_after_name : (end : ℕ) (ts : List Lexeme) (found : List (List ℕ) × List Lexeme) → beyond_name end ts ≡ Ok found → Spelt ts → Spelt found.1
body_after_name end [] found is spelt = cc
body_after_name end (t ∷ ts) found is spelt = by_tests (is_symbol symbols.Equals t.kind) (is_symbol symbols.OpenParenthesis t.kind) is
  where
    by_tests : (equals opens : Bool) →
        cond equals (Ok ([], ts)) (cond opens (parameter_list end [] ts >>= λ listed. after_equals end listed.1 >>= λ body. Ok (listed.0, body)) (Err (BadDefinition t.at))) ≡ Ok found →
        Spelt found.1
    by_tests true opens is =
        let same : ([], ts) ≡ found = cc in
        subst (λ (f : List (List ℕ) × List Lexeme). Spelt f.1) same spelt.1
    by_tests false true is =
        let (listed, listed_is, rest_is) = bound (parameter_list end [] ts) (λ listed. after_equals end listed.1 >>= λ body. Ok (listed.0, body)) found is in
        let (body, body_is, found_is) = bound (after_equals end listed.1) (λ body. Ok (listed.0, body)) found rest_is in
        let same : (listed.0, body) ≡ found = cc (found_is) in
        subst (λ (f : List (List ℕ) × List Lexeme). Spelt f.1) same
        (body_after_equals end listed.1 body body_is (after_parameters end [] ts listed listed_is spelt.1))
    by_tests false false is = cc

-- bodies
abbrev ItemSpelt : BodyItem → Type 0
ItemSpelt (Word t) = IsLexeme t
ItemSpelt (Place k) = Unit {0}

abbrev MacroSpelt : Macro → Type 0
MacroSpelt m = AllByRecursion ItemSpelt m.body

abbrev SectionSpelt : SectionTokens → Type 0
SectionSpelt s = Spelt s.tokens

body_spelt : (parameters : List (List ℕ)) (ts : List Lexeme) → Spelt ts → AllByRecursion ItemSpelt (body_of parameters ts)
body_spelt parameters [] spelt = tt
body_spelt parameters (t ∷ ts) spelt = (by_place (parameter_named parameters t), body_spelt parameters ts spelt.1)
  where
    by_place : (place : Option ℕ) → ItemSpelt (word_or_place t place)
    by_place None = spelt.0
    by_place (Some k) = tt

-- definitions
abbrev DefinedSpelt : Defined → Type 0
DefinedSpelt (A_Section s) = SectionSpelt s
DefinedSpelt (A_Macro m) = MacroSpelt m

defined_spelt : (earlier : List Macro) (part : Part) (what : Defined) → defined earlier part ≡ Ok what → PartSpelt part → DefinedSpelt what
defined_spelt earlier part what is spelt =
    let (found, found_is, rest_is) = bound (expect (λ t. is_name_kind t.kind) part.end part.tokens) (λ found. defined_as earlier part found.0 found.1 (section_named found.0.text)) what is in
    by_section found (section_named found.0.text) rest_is (expected (λ t. is_name_kind t.kind) part.end part.tokens found found_is spelt)
  where
    by_section : (found : Lexeme × List Lexeme) (section : Option SectionKind) → defined_as earlier part found.0 found.1 section ≡ Ok what → Spelt found.1 → DefinedSpelt what
    by_section found (Some kind) is after_spelt =
        let (body, body_is, what_is) = bound (after_equals part.end found.1) (λ body. Ok (A_Section (record { kind = kind; at = part.at; tokens = body }))) what is in
        let same : A_Section (record { kind = kind; at = part.at; tokens = body }) ≡ what = cc (what_is) in
        subst DefinedSpelt same (body_after_equals part.end found.1 body body_is after_spelt)
    by_section found None is after_spelt = by_name (list_any (λ m. bytes_eq found.0.text m.name) earlier) is
      where
        by_name : (twice : Bool) →
            cond twice (Err (Twice found.0.at)) (beyond_name part.end found.1 >>= λ named. Ok (A_Macro (record { name = found.0.text; parameters = length named.0; body = body_of named.0 named.1 }))) ≡ Ok what →
            DefinedSpelt what
        by_name true is = cc
        by_name false is =
            let (named, named_is, what_is) = bound (beyond_name part.end found.1) (λ named. Ok (A_Macro (record { name = found.0.text; parameters = length named.0; body = body_of named.0 named.1 }))) what is in
            let same : A_Macro (record { name = found.0.text; parameters = length named.0; body = body_of named.0 named.1 }) ≡ what = cc (what_is) in
            subst DefinedSpelt same (body_spelt named.0 named.1 (body_after_name part.end found.1 named named_is after_spelt))

abbrev DefinitionsSpelt : Definitions → Type 0
DefinitionsSpelt ds = AllByRecursion SectionSpelt ds.sections × AllByRecursion MacroSpelt ds.macros

part_definitions_spelt : (earlier : List Macro) (ps : List Part) (ds : Definitions) → definitions earlier ps ≡ Ok ds →
    AllByRecursion MacroSpelt earlier → AllByRecursion PartSpelt ps → DefinitionsSpelt ds
part_definitions_spelt earlier [] ds is macros_spelt parts_spelt =
    let same : record { sections = []; macros = earlier } ≡ ds = cc in
    subst DefinitionsSpelt same (tt, macros_spelt)
part_definitions_spelt earlier (p ∷ ps) ds is macros_spelt all_spelt =
    by_defined (defined earlier p) refl is (λ macros ms rest rest_is. part_definitions_spelt macros ps rest rest_is ms all_spelt.1)
  where
    by_defined : (r : Result Defined MacroError) → defined earlier p ≡ r → with_defined earlier r (λ macros. definitions macros ps) ≡ Ok ds →
        ((macros : List Macro) → AllByRecursion MacroSpelt macros → (rest : Definitions) → definitions macros ps ≡ Ok rest → DefinitionsSpelt rest) → DefinitionsSpelt ds
    by_defined (Err e) r_is is others = cc
    by_defined (Ok (A_Macro m)) r_is is others =
        others (earlier ++ m ∷ []) (both_lists MacroSpelt earlier (m ∷ []) macros_spelt (defined_spelt earlier p (A_Macro m) r_is all_spelt.0, tt)) ds is
    by_defined (Ok (A_Section s)) r_is is others = by_rest (definitions earlier ps) refl is
      where
        by_rest : (rest : Result Definitions MacroError) → definitions earlier ps ≡ rest → with_section s rest ≡ Ok ds → DefinitionsSpelt ds
        by_rest (Err e) rest_is is = cc
        by_rest (Ok more) rest_is is =
            let more_spelt = others earlier macros_spelt more rest_is in
            let same : record more { sections = s ∷ more.sections } ≡ ds = cc in
            subst DefinitionsSpelt same ((defined_spelt earlier p (A_Section s) r_is all_spelt.0, more_spelt.0), more_spelt.1)

definitions_spelt : (ts : List Lexeme) (ds : Definitions) → definitions_of ts ≡ Ok ds → Spelt ts → DefinitionsSpelt ds
definitions_spelt [] ds is spelt = let same : record { sections = []; macros = [] } ≡ ds = cc in subst DefinitionsSpelt same (tt, tt)
definitions_spelt (t ∷ ts) ds is spelt = by_hash (is_symbol symbols.Hash t.kind) is
  where
    by_hash : (hash : Bool) → cond hash (definitions [] (parts (t ∷ ts))) (Err (BadDefinition t.at)) ≡ Ok ds → DefinitionsSpelt ds
    by_hash true is = part_definitions_spelt [] (parts (t ∷ ts)) ds is tt (parts_spelt (t ∷ ts) spelt)
    by_hash false is = cc

-- calls
argument_spelt : (lists : List (List Lexeme)) (k : ℕ) → AllByRecursion Spelt lists → Spelt (unwrap_or (slice_get lists k) [])
argument_spelt [] k all = tt
argument_spelt (l ∷ lists) zero all = all.0
argument_spelt (l ∷ lists) (suc k) all = argument_spelt lists k all.1

filled_spelt : (body : List BodyItem) (lists : List (List Lexeme)) → AllByRecursion ItemSpelt body → AllByRecursion Spelt lists → Spelt (filled body lists)
filled_spelt [] lists body_is all = tt
filled_spelt (Word t ∷ body) lists body_is all = (body_is.0, filled_spelt body lists body_is.1 all)
filled_spelt (Place k ∷ body) lists body_is all =
    both_lists IsLexeme (unwrap_or (slice_get lists k) []) (filled body lists) (argument_spelt lists k all) (filled_spelt body lists body_is.1 all)

abbrev ArgumentsSpelt : Arguments → Type 0
ArgumentsSpelt a = Spelt a.first × AllByRecursion Spelt a.others × Spelt a.rest

abbrev FoundSpelt : Option Arguments → Type 0
FoundSpelt None = Unit {0}
FoundSpelt (Some a) = ArgumentsSpelt a

arguments_spelt : (further : ℕ) (ts : List Lexeme) → Spelt ts → FoundSpelt (arguments further ts)
arguments_spelt further [] spelt = tt
arguments_spelt further (t ∷ ts) spelt = by_nesting (nesting t.kind further) (λ n. arguments_spelt n ts spelt.1)
  where
    one_more_token : (found : Option Arguments) → FoundSpelt found → FoundSpelt (option_map (with_token t) found)
    one_more_token None all = tt
    one_more_token (Some a) all = ((spelt.0, all.0), all.1, all.2)

    one_more_argument : (found : Option Arguments) → FoundSpelt found → FoundSpelt (option_map with_argument found)
    one_more_argument None all = tt
    one_more_argument (Some a) all = (tt, (all.0, all.1), all.2)

    by_nesting : (does : Nesting) → ((n : ℕ) → FoundSpelt (arguments n ts)) → FoundSpelt (arguments_by does t ts (λ n. arguments n ts))
    by_nesting (Within n) others = one_more_token (arguments n ts) (others n)
    by_nesting Cuts others = one_more_argument (arguments 0 ts) (others 0)
    by_nesting Ends others = (tt, tt, spelt.1)
    by_nesting Mismatched others = tt

abbrev MeetsSpelt : Meets → Type 0
MeetsSpelt Stays = Unit {0}
MeetsSpelt (Calls body rest) = Spelt body × Spelt rest
MeetsSpelt NoCall = Unit {0}

call_spelt : (m : Macro) (ts : List Lexeme) → MacroSpelt m → Spelt ts → MeetsSpelt (called m ts)
call_spelt m [] m_spelt spelt = tt
call_spelt m (t ∷ ts) m_spelt spelt = by_open (is_symbol symbols.OpenParenthesis t.kind)
  where
    by_count : (a : Arguments) (fits : Bool) → ArgumentsSpelt a → MeetsSpelt (cond fits (Calls (filled m.body (a.first ∷ a.others)) a.rest) NoCall)
    by_count a true all = (filled_spelt m.body (a.first ∷ a.others) m_spelt (all.0, all.1), all.2)
    by_count a false all = tt

    by_found : (found : Option Arguments) → FoundSpelt found → MeetsSpelt (with_arguments m found)
    by_found None all = tt
    by_found (Some a) all = by_count a (nat_eq (length (a.first ∷ a.others)) m.parameters) all

    by_open : (open_first : Bool) → MeetsSpelt (cond open_first (with_arguments m (arguments 0 ts)) NoCall)
    by_open true = by_found (arguments 0 ts) (arguments_spelt 0 ts spelt.1)
    by_open false = tt

abbrev NamedSpelt : Option Macro → Type 0
NamedSpelt None = Unit {0}
NamedSpelt (Some m) = MacroSpelt m

named_spelt : (macros : List Macro) (t : Lexeme) → AllByRecursion MacroSpelt macros → NamedSpelt (macro_named macros t)
named_spelt macros t all = by_kind (is_name_kind t.kind)
  where
    by_test : (m : Macro) (found : Option Macro) (same : Bool) → MacroSpelt m → NamedSpelt found → NamedSpelt (cond same (Some m) found)
    by_test m found true m_spelt others = m_spelt
    by_test m found false m_spelt others = others

    found_spelt : (ms : List Macro) → AllByRecursion MacroSpelt ms → NamedSpelt (find (λ m. bytes_eq t.text m.name) ms)
    found_spelt [] all = tt
    found_spelt (m ∷ ms) all = by_test m (find (λ q. bytes_eq t.text q.name) ms) (bytes_eq t.text m.name) all.0 (found_spelt ms all.1)

    by_kind : (name : Bool) → NamedSpelt (cond name (find (λ m. bytes_eq t.text m.name) macros) None)
    by_kind true = found_spelt macros all
    by_kind false = tt

meets_spelt : (macros : List Macro) (t : Lexeme) (ts : List Lexeme) → AllByRecursion MacroSpelt macros → Spelt ts → MeetsSpelt (meets macros t ts)
meets_spelt macros t ts all spelt = by_named (macro_named macros t) (named_spelt macros t all)
  where
    by_parameters : (m : Macro) (no : Bool) → MacroSpelt m → MeetsSpelt (cond no (Calls (filled m.body []) ts) (called m ts))
    by_parameters m true m_spelt = (filled_spelt m.body [] m_spelt tt, spelt)
    by_parameters m false m_spelt = call_spelt m ts m_spelt spelt

    by_named : (named : Option Macro) → NamedSpelt named → MeetsSpelt (met named ts)
    by_named None m_spelt = tt
    by_named (Some m) m_spelt = by_parameters m (nat_eq m.parameters 0) m_spelt

-- expansions
mutual
  list_spelt : (macros : List Macro) (d : ℕ) (ts us : List Lexeme) (n : ℕ) → Expands macros d ts us n → AllByRecursion MacroSpelt macros → Spelt ts → Spelt us
  list_spelt macros _ _ _ _ (list d ts js us n joins reads) all spelt = reading_spelt macros d js us n reads all (joined_spelt ts js joins spelt)

  reading_spelt : (macros : List Macro) (d : ℕ) (js us : List Lexeme) (n : ℕ) → Reads macros d js us n → AllByRecursion MacroSpelt macros → Spelt js → Spelt us
  reading_spelt macros _ _ _ _ (nothing d) all spelt = tt
  reading_spelt macros _ _ _ _ (stays d t ts us n is reads) all spelt = (spelt.0, reading_spelt macros d ts us n reads all spelt.1)
  reading_spelt macros _ _ _ _ (call d t ts body rest vs us k n is level expands reads) all spelt =
      let parts : Spelt body × Spelt rest = subst MeetsSpelt is (meets_spelt macros t ts all spelt.1) in
      both_lists IsLexeme vs us (list_spelt macros (d + 1) body vs k expands all parts.0) (reading_spelt macros d rest us n reads all parts.1)

expanded_spelt : (macros : List Macro) (ss ts : List SectionTokens) (n : ℕ) → ExpandsAll macros ss ts n → AllByRecursion MacroSpelt macros →
    AllByRecursion SectionSpelt ss → AllByRecursion SectionSpelt ts
expanded_spelt macros _ _ _ none all spelt = tt
expanded_spelt macros _ _ _ (one_more s us m ss ts n expands others) all spelt =
    (list_spelt macros 0 s.tokens us m expands all spelt.0, expanded_spelt macros ss ts n others all spelt.1)

-- the sections of tokens that are spelt are spelt
pub sections_spelt : (ts : List Lexeme) (sections : List SectionTokens) → HasSections ts sections → Spelt ts → AllByRecursion (λ s. Spelt s.tokens) sections
sections_spelt ts sections has spelt =
    let ds = definitions_spelt ts has.definitions has.defined spelt in
    expanded_spelt has.definitions.macros has.definitions.sections sections has.expanded.read has.expanded.expands ds.1 ds.0

pub each_section : (sections : List SectionTokens) → AllByRecursion (λ s. Spelt s.tokens) sections → All AreLexemes sections
each_section [] all = All-nil AreLexemes
each_section (s ∷ ss) all = All-cons AreLexemes s ss (each IsLexeme s.tokens all.0) (each_section ss all.1)

-- every token of the sections of a text spells a token of its kind
pub text_sections_spelt : (text : List ℕ) (ts : List Lexeme) (sections : List SectionTokens) → HasTokens text ts → HasSections ts sections → All AreLexemes sections
text_sections_spelt text ts sections read has = each_section sections (sections_spelt ts sections has (tokens_spelt text ts read))

-- the places of sections that are spelt
placed : (tokens : List Lexeme) (spans : List SectionSpan) → All (IsSectionWithin (length tokens)) spans →
    AllByRecursion SectionSpelt (map (section_in tokens) spans) → All (IsSectionIn tokens) spans
placed tokens [] all spelt = All-nil (IsSectionIn tokens)
placed tokens (s ∷ spans) all spelt =
    All-cons (IsSectionIn tokens) s spans
    (record { within = all 0 s (omega arith); spelt = each IsLexeme (section_in tokens s).tokens spelt.0 })
    (placed tokens spans (λ k d below. all (suc k) d (omega arith)) spelt.1)

pub sections_placed : (ts tokens : List Lexeme) (spans : List SectionSpan) → All IsLexeme ts → HasSections ts (map (section_in tokens) spans) →
    All (IsSectionWithin (length tokens)) spans → All (IsSectionIn tokens) spans
sections_placed ts tokens spans lexemes has all =
    placed tokens spans all (sections_spelt ts (map (section_in tokens) spans) has (by_recursion IsLexeme ts lexemes))
