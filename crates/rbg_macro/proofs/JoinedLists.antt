-- Joined lists, as the code keeps and makes them.
use Rattle.rbg_base.proofs.Common.{ℕ, ◌≡◌, ◌+◌, ◌-◌, ◌<◌, ◌≤◌, true, false, List, [], ◌∷◌, ◌++◌, length, get_or, take, drop, map, Option, Result, Ok, Err, refl, sym, subst, ap, ◌∙◌, arith, append_assoc, add-one, drop-cons, suc, length-drop, or_parts, All, list_any, All-push}
use Rattle.std.proofs.Math.ListN.{drop_of_length-le}
use Rattle.std.proofs.lemmas.List.{map-append, append-nil, drop-drop, drop-map, length-map, take_rest}
use Rattle.rbg_macro.proofs.Common.{MacroError, BadJoin, JoinedToken, Single, Joined, ReadToken, joined_word, IsJoinedWithin, word_at, JoinsChain, AddsChain, FailsChain, begins_with_tilde, IsMarked, IsMarkedWord, Word, lexeme_in_word, word_of, lexeme_in, Span, Macro, joined, joined_from, beyond, read_lexeme}
use Rattle.rbg_macro.specs.declared.token.TokenKind.{TokenKind}
use Rattle.rbg_macro.proofs.TextCommon.{is_symbol, Lexeme}
use Rattle.rbg_macro.specs.declared.token.Symbol.TheVariants as symbols
use Rattle.rbg_macro.proofs.Marks.{word_added}
use Rattle.rbg_macro.proofs.Spans.{same_lexeme, whole_of}

same_joined_token : (texts more : List ℕ) (t : JoinedToken) → IsJoinedWithin texts t → joined_word (texts ++ more) t ≡ joined_word texts t
same_joined_token texts more (Single t) is = refl
same_joined_token texts more (Joined s number) is =
    ap (λ (l : Lexeme). let w : Word = record { lexeme = l; macro_number = number } in w) (same_lexeme texts more s is)

same_joined : (texts more : List ℕ) (ts : List JoinedToken) → All (IsJoinedWithin texts) ts → map (joined_word (texts ++ more)) ts ≡ map (joined_word texts) ts
same_joined texts more [] all = refl
same_joined texts more (t ∷ ts) all =
    let first = same_joined_token texts more t (all 0 t (omega arith)) in
    let others = same_joined texts more ts (λ k d below. all (suc k) d (omega arith)) in
    cc

-- the first token of a list that has one
first_of : (ts : List ReadToken) (d : ReadToken) (first : Lexeme) (rest : List Lexeme) → map read_lexeme ts ≡ first ∷ rest → first.at ≡ (get_or ts 0 d).at
first_of [] d first rest is = cc
first_of (t ∷ ts) d first rest is = let same : read_lexeme t ≡ first = cc in ap (λ (l : Lexeme). l.at) (sym same)

-- a word is added whose bytes are in the new texts, which begin with the old ones
pub adds_word : (texts new_texts : List ℕ) (tokens new_tokens : List JoinedToken) (s : Span) (number : Option ℕ) →
    All (IsJoinedWithin texts) tokens → take (length texts) new_texts ≡ texts → new_tokens ≡ tokens ++ Joined s number ∷ [] →
    map (joined_word new_texts) new_tokens ≡ map (joined_word texts) tokens ++ record { lexeme = lexeme_in new_texts s; macro_number = number } ∷ []
adds_word texts new_texts tokens new_tokens s number all grown added =
    let whole = whole_of texts new_texts grown in
    let old : map (joined_word new_texts) tokens ≡ map (joined_word texts) tokens =
    ap (λ bs. map (joined_word bs) tokens) whole ∙ same_joined texts (drop (length texts) new_texts) tokens all in
    ap (map (joined_word new_texts)) added ∙ map-append (joined_word new_texts) tokens _ ∙ rw old refl

-- the new word is marked like the others
pub adds_mark : (macros : List Macro) (texts new_texts : List ℕ) (tokens new_tokens : List JoinedToken) (s : Span) (t u : ReadToken) →
    All (IsJoinedWithin texts) tokens → take (length texts) new_texts ≡ texts → new_tokens ≡ tokens ++ Joined s t.macro_number ∷ [] →
    read_lexeme t ≡ read_lexeme u → read_lexeme u ≡ lexeme_in new_texts s → IsMarked macros t →
    All (IsMarkedWord macros) (map (joined_word texts) tokens) → All (IsMarkedWord macros) (map (joined_word new_texts) new_tokens)
adds_mark macros texts new_texts tokens new_tokens s t u all grown added same is marked earlier =
    let w : Word = record { lexeme = lexeme_in new_texts s; macro_number = t.macro_number } in
    let word : word_of t ≡ w = ap (λ (l : Lexeme). let v : Word = record { lexeme = l; macro_number = t.macro_number } in v) (same ∙ is) in
    subst (All (IsMarkedWord macros)) (sym (adds_word texts new_texts tokens new_tokens s t.macro_number all grown added))
    (All-push (IsMarkedWord macros) (map (joined_word texts) tokens) w earlier (subst (IsMarkedWord macros) word marked))

pub adds_chain : (texts new_texts : List ℕ) (tokens new_tokens : List JoinedToken) (ts : List ReadToken) (d : ReadToken) (kind : TokenKind) (count start end : ℕ) (number : Option ℕ) →
    All (IsJoinedWithin texts) tokens → take (length texts) new_texts ≡ texts →
    JoinsChain (map read_lexeme ts) kind (drop (length texts) new_texts) count → start ≡ length texts → end ≡ length new_texts →
    new_tokens ≡ tokens ++ Joined (record { kind = kind; start = start; end = end; at = (get_or ts 0 d).at }) number ∷ [] →
    AddsChain (map lexeme_in_word (map (joined_word texts) tokens)) (map lexeme_in_word (map (joined_word new_texts) new_tokens)) (map read_lexeme ts) count
adds_chain texts new_texts tokens new_tokens ts d kind count start end number all grown chain first last added = record {
  kind = kind;
  word = drop (length texts) new_texts;
  chain = chain;
  added =
      let s : Span = record { kind = kind; start = start; end = end; at = (get_or ts 0 d).at } in
      let word : take (end - start) (drop start new_texts) ≡ drop (length texts) new_texts =
      rw (first, last) (take_rest new_texts (length texts)) in
      let at : (get_or ts 0 d).at ≡ chain.first.at = sym (first_of ts d chain.first chain.rest chain.tokens) in
      word_added (map (joined_word texts) tokens) (map (joined_word new_texts) new_tokens) _ (adds_word texts new_texts tokens new_tokens s number all grown added)
      ∙ rw (word, at) refl;
}

-- the list with several tokens before it
abbrev pub beyond_all : List Lexeme → Result (List Lexeme) MacroError → Result (List Lexeme) MacroError
beyond_all us (Ok ts) = Ok (us ++ ts)
beyond_all us (Err e) = Err e

after_one_more : (us : List Lexeme) (t : Lexeme) (read : Result (List Lexeme) MacroError) → beyond_all us (beyond t read) ≡ beyond_all (us ++ t ∷ []) read
after_one_more us t (Ok ts) = ap Ok (sym (append_assoc us (t ∷ []) ts))
after_one_more us t (Err e) = refl

-- a token that no `~` follows stays
joined_from-apart : (t : Lexeme) (rest : List Lexeme) → begins_with_tilde rest ≡ false → joined_from t rest ≡ beyond t (joined rest)
joined_from-apart t [] apart = refl
joined_from-apart t (s ∷ []) apart = rw apart refl
joined_from-apart t (s ∷ u ∷ ts) apart = rw apart refl

-- a list that doesn't begin with a `~` is joined from its first token on
joined_first : (t : Lexeme) (rest : List Lexeme) → begins_with_tilde (t ∷ rest) ≡ false → joined (t ∷ rest) ≡ joined_from t rest
joined_first t rest apart = rw apart refl

-- how far a list was joined, and what is left
pub record HasJoinedTo (list : List ReadToken) (at : ℕ) (done : List Lexeme) : Type 0 where
  pub within : at ≤ length list
  pub apart : begins_with_tilde (map read_lexeme (drop at list)) ≡ false
  pub goes_on : joined (map read_lexeme list) ≡ beyond_all done (joined (map read_lexeme (drop at list)))

pub join_begins : (list : List ReadToken) → begins_with_tilde (map read_lexeme list) ≡ false → HasJoinedTo list 0 []
join_begins list apart = record { within = omega arith; apart = apart; goes_on = none (joined (map read_lexeme list)) }
  where
    none : (read : Result (List Lexeme) MacroError) → read ≡ beyond_all [] read
    none (Ok ts) = refl
    none (Err e) = refl

pub single_joined : (list rest : List ReadToken) (at : ℕ) (d : ReadToken) (done new : List Lexeme) → HasJoinedTo list at done → at < length list →
    rest ≡ drop (at + 1) list → begins_with_tilde (map read_lexeme rest) ≡ false → new ≡ done ++ read_lexeme (get_or list at d) ∷ [] →
    HasJoinedTo list (at + 1) new
single_joined list rest at d done new so_far below is apart added = record {
  within = omega arith;
  apart = rw (← is) apart;
  goes_on =
      let t : Lexeme = read_lexeme (get_or list at d) in
      let begins : map read_lexeme (drop at list) ≡ t ∷ map read_lexeme rest = ap (map read_lexeme) (drop-cons list at d below) ∙ rw (is, add-one) refl in
      so_far.goes_on
      ∙ ap (beyond_all done) (ap joined begins ∙ joined_first t (map read_lexeme rest) (rw begins at so_far.apart) ∙ joined_from-apart t (map read_lexeme rest) apart)
      ∙ after_one_more done t (joined (map read_lexeme rest))
      ∙ rw (← added, is) refl;
}

pub chain_added : (list rest : List ReadToken) (at n : ℕ) (done new : List Lexeme) → HasJoinedTo list at done →
    rest ≡ drop at list → AddsChain done new (map read_lexeme rest) n → HasJoinedTo list (at + n) new
chain_added list rest at n done new so_far is adds = record {
  within = omega (arith, so_far.within, adds.chain.within, length-map rest read_lexeme, ap length is, length-drop at list);
  apart = rw further at adds.chain.apart;
  goes_on =
      let ts : List Lexeme = map read_lexeme rest in
      let w : Lexeme = word_at adds.chain.first.at adds.kind adds.word in
      so_far.goes_on
      ∙ ap (beyond_all done)
      (ap (λ us. joined (map read_lexeme us)) (sym is) ∙ ap joined adds.chain.tokens
      ∙ joined_first adds.chain.first adds.chain.rest (rw (adds.chain.tokens) at clean)
      ∙ adds.chain.joins ∙ joined_from-apart w (drop n ts) adds.chain.apart)
      ∙ after_one_more done w (joined (drop n ts))
      ∙ rw (← adds.added, further) refl;
}
  where
    further : drop n (map read_lexeme rest) ≡ map read_lexeme (drop (at + n) list)
    further = drop-map read_lexeme n rest ∙ ap (λ us. map read_lexeme (drop n us)) is ∙ ap (map read_lexeme) (drop-drop n at list)

    clean : begins_with_tilde (map read_lexeme rest) ≡ false
    clean = rw is so_far.apart

pub join_fails : (list rest : List ReadToken) (at : ℕ) (done : List Lexeme) (e : MacroError) → HasJoinedTo list at done →
    rest ≡ drop at list → FailsChain (map read_lexeme rest) e → joined (map read_lexeme list) ≡ Err e
join_fails list rest at done e so_far is fails =
    let clean : begins_with_tilde (map read_lexeme rest) ≡ false = rw is so_far.apart in
    so_far.goes_on
    ∙ ap (beyond_all done)
    (ap (λ us. joined (map read_lexeme us)) (sym is) ∙ ap joined fails.tokens
    ∙ joined_first fails.first fails.rest (rw (fails.tokens) at clean) ∙ fails.fails)

pub all_joined : (list : List ReadToken) (at : ℕ) (done : List Lexeme) → HasJoinedTo list at done → length list ≤ at → joined (map read_lexeme list) ≡ Ok done
all_joined list at done so_far all = so_far.goes_on ∙ rw (drop_of_length-le list all) (ap Ok (append-nil done))

-- a list that begins with `~`
pub begins_badly : (list : List ReadToken) (d : ReadToken) → begins_with_tilde (map read_lexeme list) ≡ true → joined (map read_lexeme list) ≡ Err (BadJoin (get_or list 0 d).at)
begins_badly [] d tilde = cc
begins_badly (t ∷ ts) d tilde = rw tilde refl

-- a list without a `~` is joined already
no_tilde_first : (ts : List ReadToken) → list_any (λ t. is_symbol symbols.Tilde t.kind) ts ≡ false → begins_with_tilde (map read_lexeme ts) ≡ false
no_tilde_first [] none = refl
no_tilde_first (t ∷ ts) none = (or_parts (is_symbol symbols.Tilde t.kind) (list_any (λ u. is_symbol symbols.Tilde u.kind) ts) none).0

pub joined_already : (ts : List ReadToken) → list_any (λ t. is_symbol symbols.Tilde t.kind) ts ≡ false → joined (map read_lexeme ts) ≡ Ok (map read_lexeme ts)
joined_already [] none = refl
joined_already (t ∷ ts) none =
    let (first, others) = or_parts (is_symbol symbols.Tilde t.kind) (list_any (λ u. is_symbol symbols.Tilde u.kind) ts) none in
    let rest = joined_already ts others in
    joined_first (read_lexeme t) (map read_lexeme ts) first ∙ joined_from-apart (read_lexeme t) (map read_lexeme ts) (no_tilde_first ts others) ∙ rw rest refl
