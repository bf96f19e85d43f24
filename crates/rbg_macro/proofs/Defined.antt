-- What a part defines, and what parts define together.
use Rattle.rbg_base.proofs.Common.{ℕ, ◌≡◌, ◌+◌, ◌<◌, ◌≤◌, Bool, true, false, not, cond, List, [], ◌∷◌, ◌++◌, length, get_or, take, drop, map, None, Some, Result, Ok, Err, refl, sym, ap, ◌∙◌, arith, append_assoc, length-drop, add_comm, add-one, drop-cons, prefix_len_stops, list_any, position_or_len, bytes_eq}
use Rattle.std.proofs.Math.ListN.{drop_of_length-le}
use Rattle.std.proofs.lemmas.List.{append-nil, take-map, drop-map, drop-drop, get_or-drop}
use Rattle.rbg_macro.proofs.Common.{MacroError, Template, SectionKind, AddsDefined, with_one_more, BeginsDefinition, Definitions, Defined, A_Section, A_Macro, Part, expect, after_equals, beyond_name, section_named, defined, definitions, definitions_of, parts, part_of, is_hash_token, first_at, with_section, Macro, body_of, macro_of, item_in, SectionTokens}
use Rattle.rbg_macro.specs.declared.token.Token.{Token}
use Rattle.rbg_macro.proofs.TextCommon.{is_name_kind, is_symbol, Lexeme, lexeme_of}
use Rattle.rbg_macro.specs.declared.token.Symbol.TheVariants as symbols

pub defined_section : (earlier : List Macro) (part : Part) (name : Lexeme) (ts body : List Lexeme) (kind : SectionKind) →
    expect (λ t. is_name_kind t.kind) part.end part.tokens ≡ Ok (name, ts) → Some kind ≡ section_named name.text →
    after_equals part.end ts ≡ Ok body →
    defined earlier part ≡ Ok (A_Section (record { kind = kind; at = part.at; tokens = body }))
defined_section earlier part name ts body kind named is equals = rw (named, ← is, equals) refl

pub defined_macro : (earlier : List Macro) (part : Part) (name : Lexeme) (ts body : List Lexeme) (parameters : List (List ℕ)) (t : Template) →
    expect (λ t. is_name_kind t.kind) part.end part.tokens ≡ Ok (name, ts) → None ≡ section_named name.text →
    list_any (λ m. bytes_eq name.text m.name) earlier ≡ false → beyond_name part.end ts ≡ Ok (parameters, body) →
    t.parameters ≡ length parameters → map item_in t.body.items ≡ body_of parameters body →
    defined earlier part ≡ Ok (A_Macro (macro_of name.text t))
defined_macro earlier part name ts body parameters t named is fresh beyond many filled =
    rw (named, ← is, fresh, beyond, ← many, ← filled) refl

-- the tokens after a `#`, up to the next one
pub part_len_is : (ts : List Token) → position_or_len (λ t. is_symbol symbols.Hash t.kind) ts ≡ position_or_len is_hash_token (map lexeme_of ts)
part_len_is [] = refl
part_len_is (t ∷ ts) = by_test (not (is_symbol symbols.Hash t.kind)) (part_len_is ts)
  where
    by_test : (b : Bool) → position_or_len (λ u. is_symbol symbols.Hash u.kind) ts ≡ position_or_len is_hash_token (map lexeme_of ts) →
        cond b (1 + position_or_len (λ u. is_symbol symbols.Hash u.kind) ts) 0 ≡ cond b (1 + position_or_len is_hash_token (map lexeme_of ts)) 0
    by_test true others = ap (λ (n : ℕ). 1 + n) others
    by_test false others = refl

-- no part begins before the next `#`
parts-skipped : (ts : List Lexeme) → parts ts ≡ parts (drop (position_or_len is_hash_token ts) ts)
parts-skipped [] = refl
parts-skipped (t ∷ ts) = by_test (is_symbol symbols.Hash t.kind) refl (parts-skipped ts)
  where
    by_test : (b : Bool) → is_symbol symbols.Hash t.kind ≡ b → parts ts ≡ parts (drop (position_or_len is_hash_token ts) ts) →
        parts (t ∷ ts) ≡ parts (drop (cond (not b) (1 + position_or_len is_hash_token ts) 0) (t ∷ ts))
    by_test true e others = refl
    by_test false e others = rw (e, add_comm 1 (position_or_len is_hash_token ts), add-one) others

-- the parts from a `#` on
parts_at : (hash : Lexeme) (beyond : List Lexeme) → is_symbol symbols.Hash hash.kind ≡ true →
    parts (hash ∷ beyond) ≡ part_of hash beyond ∷ parts (drop (position_or_len is_hash_token beyond) beyond)
parts_at hash beyond is = rw is (ap (λ (ps : List Part). part_of hash beyond ∷ ps) (parts-skipped beyond))

-- what is defined, with sections before it
abbrev pub after_sections : List SectionTokens → Result Definitions MacroError → Result Definitions MacroError
after_sections ss (Ok ds) = Ok (record ds { sections = ss ++ ds.sections })
after_sections ss (Err e) = Err e

after_one_section : (ss : List SectionTokens) (s : SectionTokens) (read : Result Definitions MacroError) → after_sections ss (with_section s read) ≡ after_sections (ss ++ s ∷ []) read
after_one_section ss s (Ok ds) =
    ap (λ (l : List SectionTokens). let r : Result Definitions MacroError = Ok (record ds { sections = l }) in r) (sym (append_assoc ss (s ∷ []) ds.sections))
after_one_section ss s (Err e) = refl

-- how far definitions were read, and what is left
pub record HasDefined (tokens : List Token) (at : ℕ) (ds : Definitions) : Type 0 where
  pub within : at ≤ length tokens
  pub starts : (d : Token) → at < length tokens → is_symbol symbols.Hash (get_or tokens at d).kind ≡ true
  pub goes_on : definitions_of (map lexeme_of tokens) ≡ after_sections ds.sections (definitions ds.macros (parts (map lexeme_of (drop at tokens))))

-- the first token, if there is one, is a `#`
pub first_is_hash : (tokens : List Token) → BeginsDefinition (map lexeme_of tokens) → HasDefined tokens 0 (record { sections = []; macros = [] })
first_is_hash [] begins = record { within = omega arith; starts = λ d more. absurd (omega arith); goes_on = refl }
first_is_hash (t ∷ ts) begins = record { within = omega arith; starts = λ d more. begins; goes_on = rw begins (sym (no_sections _)) }
  where
    no_sections : (read : Result Definitions MacroError) → after_sections [] read ≡ read
    no_sections (Ok ds) = refl
    no_sections (Err e) = refl

one_more_defined : (old new : Definitions) (part : Part) (ps : List Part) → AddsDefined old new part →
    after_sections old.sections (definitions old.macros (part ∷ ps)) ≡ after_sections new.sections (definitions new.macros ps)
one_more_defined old new part ps adds = by_what adds.what adds.defines adds.added
  where
    by_what : (what : Defined) → defined old.macros part ≡ Ok what → new ≡ with_one_more old what →
        after_sections old.sections (definitions old.macros (part ∷ ps)) ≡ after_sections new.sections (definitions new.macros ps)
    by_what (A_Section s) defines added = rw (defines, added) (after_one_section old.sections s (definitions old.macros ps))
    by_what (A_Macro m) defines added = rw (defines, added) refl

-- the part as the code finds it
found_part : (tokens : List Token) (at : ℕ) (d : Token) (beyond : List Token) (len : ℕ) → at < length tokens → is_symbol symbols.Hash (get_or tokens at d).kind ≡ true →
    beyond ≡ drop (at + 1) tokens → len ≡ position_or_len (λ t. is_symbol symbols.Hash t.kind) beyond →
    parts (map lexeme_of (drop at tokens)) ≡
    record { at = (get_or tokens at d).at; tokens = map lexeme_of (take len beyond); end = first_at (map lexeme_of (drop len beyond)) (get_or tokens at d).at }
    ∷ parts (map lexeme_of (drop (at + (len + 1)) tokens))
found_part tokens at d beyond len below is rest many =
    let B : List Lexeme = map lexeme_of beyond in
    let L : Lexeme = lexeme_of (get_or tokens at d) in
    let same : position_or_len is_hash_token B ≡ len = sym (many ∙ part_len_is beyond) in
    let begins : map lexeme_of (drop at tokens) ≡ L ∷ B =
    ap (map lexeme_of) (drop-cons tokens at d below) ∙ rw (rest, add-one) refl in
    let here : part_of L B ≡ record { at = L.at; tokens = map lexeme_of (take len beyond); end = first_at (map lexeme_of (drop len beyond)) L.at } =
    rw (same, take-map lexeme_of len beyond, drop-map lexeme_of len beyond) refl in
    let further : at + 1 + len ≡ at + (len + 1) = omega arith in
    let after_it : drop (position_or_len is_hash_token B) B ≡ map lexeme_of (drop (at + (len + 1)) tokens) =
    rw (same, drop-map lexeme_of len beyond, rest, drop-drop len (at + 1) tokens, further) refl in
    ap parts begins ∙ parts_at L B is ∙ rw (here, after_it) refl

-- the definition of one more part
pub defined_after : (tokens : List Token) (at : ℕ) (d : Token) (beyond part next : List Token) (len end : ℕ) (old new : Definitions) →
    HasDefined tokens at old → at < length tokens → beyond ≡ drop (at + 1) tokens → len ≤ length beyond →
    len ≡ position_or_len (λ t. is_symbol symbols.Hash t.kind) beyond →
    part ≡ take len beyond → next ≡ drop len beyond → end ≡ first_at (map lexeme_of next) (get_or tokens at d).at →
    AddsDefined old new (record { at = (get_or tokens at d).at; tokens = map lexeme_of part; end = end }) →
    HasDefined tokens (at + (len + 1)) new
defined_after tokens at d beyond part next len end old new so_far below rest short many is_part is_next ends adds = record {
  within = omega (arith, short, ap length rest, length-drop (at + 1) tokens);
  starts = λ d' more.
      let room : len < length beyond = omega (arith, more, ap length rest, length-drop (at + 1) tokens) in
      let stops : not (is_symbol symbols.Hash (get_or beyond len d').kind) ≡ false =
      rw many (prefix_len_stops (λ t. not (is_symbol symbols.Hash t.kind)) beyond d' (rw many at room)) in
      let further : at + 1 + len ≡ at + (len + 1) = omega arith in
      let same : get_or beyond len d' ≡ get_or tokens (at + (len + 1)) d' =
      ap (λ ts. get_or ts len d') rest ∙ get_or-drop (at + 1) tokens len d' ∙ ap (λ (i : ℕ). get_or tokens i d') further in
      rw (← same) (from_not (is_symbol symbols.Hash (get_or beyond len d').kind) stops);
  goes_on =
      let here = found_part tokens at d beyond len below (so_far.starts d below) rest many in
      let part_is : map lexeme_of (take len beyond) ≡ map lexeme_of part = ap (map lexeme_of) (sym is_part) in
      let end_is : first_at (map lexeme_of (drop len beyond)) (get_or tokens at d).at ≡ end = rw (← is_next) (sym ends) in
      so_far.goes_on
      ∙ ap (λ (ps : List Part). after_sections old.sections (definitions old.macros ps)) (rw (part_is, end_is) at here)
      ∙ one_more_defined old new _ (parts (map lexeme_of (drop (at + (len + 1)) tokens))) adds;
}
  where
    from_not : (b : Bool) → not b ≡ false → b ≡ true
    from_not true e = refl
    from_not false e = cc

-- a part's fault is the first
pub faults_after : (tokens : List Token) (at : ℕ) (d : Token) (beyond part next : List Token) (len end : ℕ) (old : Definitions) (e : MacroError) →
    HasDefined tokens at old → at < length tokens → beyond ≡ drop (at + 1) tokens →
    len ≡ position_or_len (λ t. is_symbol symbols.Hash t.kind) beyond →
    part ≡ take len beyond → next ≡ drop len beyond → end ≡ first_at (map lexeme_of next) (get_or tokens at d).at →
    defined old.macros (record { at = (get_or tokens at d).at; tokens = map lexeme_of part; end = end }) ≡ Err e →
    definitions_of (map lexeme_of tokens) ≡ Err e
faults_after tokens at d beyond part next len end old e so_far below rest many is_part is_next ends fault =
    let here = found_part tokens at d beyond len below (so_far.starts d below) rest many in
    let part_is : map lexeme_of (take len beyond) ≡ map lexeme_of part = ap (map lexeme_of) (sym is_part) in
    let end_is : first_at (map lexeme_of (drop len beyond)) (get_or tokens at d).at ≡ end = rw (← is_next) (sym ends) in
    so_far.goes_on
    ∙ ap (λ (ps : List Part). after_sections old.sections (definitions old.macros ps)) (rw (part_is, end_is) at here)
    ∙ rw fault refl

pub all_defined : (tokens : List Token) (at : ℕ) (ds : Definitions) → HasDefined tokens at ds → length tokens ≤ at →
    definitions_of (map lexeme_of tokens) ≡ Ok ds
all_defined tokens at ds so_far all =
    so_far.goes_on ∙ rw (drop_of_length-le tokens all)
    (ap (λ (ss : List SectionTokens). let r : Result Definitions MacroError = Ok (record ds { sections = ss }) in r) (append-nil ds.sections))
