-- Chains of joined tokens, as the code makes them.
use Rattle.rbg_base.proofs.Common.{ℕ, ◌≡◌, ◌+◌, ◌-◌, ◌<◌, ◌≤◌, true, false, min, nat_le, List, [], ◌∷◌, ◌++◌, length, get_or, take, drop, map, Some, Err, refl, sym, ap, ◌∙◌, arith, length-append, length-drop, take-append_seam, drop-append_seam, nat_tests, drop-append-le, take-append-le, length-map, drop-map}
use Rattle.rbg_macro.proofs.Common.{MacroError, MAX_JOINED, ReadToken, word_at, JoinsNext, JoinsChain, FailsChain, begins_with_tilde, joined_from, joined_kind, joined_token, read_lexeme}
use Rattle.rbg_macro.specs.declared.token.TokenKind.{TokenKind}
use Rattle.rbg_macro.specs.Token.{Lexeme}
use Rattle.rbg_macro.proofs.Heads.{two_tokens}
use Rattle.rbg_macro.proofs.Spans.{whole_of}

-- a word with one more token
joins_word : (at : ℕ) (kind k : TokenKind) (word : List ℕ) (right : Lexeme) → Some k ≡ joined_kind kind right.kind → length word + length right.text ≤ MAX_JOINED →
    joined_token (word_at at kind word) right ≡ Some (word_at at k (word ++ right.text))
joins_word at kind k word right is short =
    let fits : nat_le (length word + length right.text) MAX_JOINED ≡ true = grind (arith, nat_tests) in
    rw (← is, fits) refl

pub next_joined : (texts new : List ℕ) (start len : ℕ) (kind k : TokenKind) (ts : List ReadToken) (d : ReadToken) → start ≤ length texts →
    begins_with_tilde (map read_lexeme ts) ≡ true → (length ts ≡ 1 → ⊥) → Some k ≡ joined_kind kind (get_or ts 1 d).kind →
    len ≡ min (length texts - start + length (read_lexeme (get_or ts 1 d)).text) 18446744073709551615 → len ≤ MAX_JOINED →
    new ≡ texts ++ (read_lexeme (get_or ts 1 d)).text →
    JoinsNext kind k (drop start texts) (drop start new) (map read_lexeme ts)
next_joined texts new start len kind k [] d within tilde more is many short added = cc
next_joined texts new start len kind k (t ∷ []) d within tilde more is many short added = absurd (more refl)
next_joined texts new start len kind k (t ∷ u ∷ ts) d within tilde more is many short added = record {
  tilde = read_lexeme t;
  right = read_lexeme u;
  tokens = refl;
  is_tilde = tilde;
  joins = λ at.
      let fits : length (drop start texts) + length (read_lexeme u).text ≤ MAX_JOINED = omega (arith, length-drop start texts) in
      let whole : drop start new ≡ drop start texts ++ (read_lexeme u).text = ap (drop start) added ∙ drop-append-le start texts (read_lexeme u).text within in
      rw whole (joins_word at kind k (drop start texts) (read_lexeme u) is fits);
}

-- what joining gives from a word with a `~` after it
joined_further : (at : ℕ) (kind k : TokenKind) (word new : List ℕ) (ts : List Lexeme) → JoinsNext kind k word new ts →
    joined_from (word_at at kind word) ts ≡ joined_from (word_at at k new) (drop 2 ts)
joined_further at kind k word new ts next =
    ap (joined_from (word_at at kind word)) next.tokens ∙ rw (next.is_tilde, next.joins at) refl

-- the first tokens as one word, at the end of the texts
pub record HasJoined (tokens : List ReadToken) (old texts : List ℕ) (start : ℕ) (kind : TokenKind) (count : ℕ) : Type 0 where
  pub first : Lexeme
  pub rest : List Lexeme
  pub begins : map read_lexeme tokens ≡ first ∷ rest
  pub within : count ≤ length tokens
  pub some : 0 < count
  pub at_end : start ≡ length old
  pub front : take (length old) texts ≡ old
  pub joins : joined_from first rest ≡ joined_from (word_at first.at kind (drop start texts)) (map read_lexeme (drop count tokens))

pub first_word : (tokens : List ReadToken) (d : ReadToken) (old texts : List ℕ) (start : ℕ) → 0 < length tokens → start ≡ length old →
    texts ≡ old ++ (read_lexeme (get_or tokens 0 d)).text → HasJoined tokens old texts start (get_or tokens 0 d).kind 1
first_word [] d old texts start some is added = absurd (omega arith)
first_word (t ∷ ts) d old texts start some is added = record {
  first = read_lexeme t;
  rest = map read_lexeme ts;
  begins = refl;
  within = omega arith;
  some = omega arith;
  at_end = is;
  front = rw added (take-append_seam old (read_lexeme t).text);
  joins =
      let word : drop start texts ≡ (read_lexeme t).text = rw (is, added) (drop-append_seam old (read_lexeme t).text) in
      rw word refl;
}

-- texts that grew are longer
longer_of : (old new : List ℕ) → take (length old) new ≡ old → length old ≤ length new
longer_of old new grown = omega (arith, ap length (whole_of old new grown), length-append old (drop (length old) new))

pub front_of_front : (old texts new : List ℕ) → take (length old) texts ≡ old → take (length texts) new ≡ texts → take (length old) new ≡ old
front_of_front old texts new front grown =
    ap (take (length old)) (whole_of texts new grown)
    ∙ take-append-le (length old) texts (drop (length texts) new) (longer_of old texts front) ∙ front

pub one_more_joined : (tokens rest : List ReadToken) (old texts new : List ℕ) (start count : ℕ) (kind k : TokenKind) →
    HasJoined tokens old texts start kind count → rest ≡ drop count tokens →
    JoinsNext kind k (drop start texts) (drop start new) (map read_lexeme rest) → take (length texts) new ≡ texts →
    HasJoined tokens old new start k (count + 2)
one_more_joined tokens rest old texts new start count kind k so_far is next grown = record {
  first = so_far.first;
  rest = so_far.rest;
  begins = so_far.begins;
  within = omega (arith, so_far.within, ap length next.tokens, length-map rest read_lexeme, ap length is, length-drop count tokens);
  some = omega arith;
  at_end = so_far.at_end;
  front = front_of_front old texts new so_far.front grown;
  joins =
      so_far.joins ∙ ap (λ ts. joined_from (word_at so_far.first.at kind (drop start texts)) (map read_lexeme ts)) (sym is)
      ∙ joined_further so_far.first.at kind k (drop start texts) (drop start new) (map read_lexeme rest) next
      ∙ ap (joined_from (word_at so_far.first.at k (drop start new))) (ap (λ ts. drop 2 (map read_lexeme ts)) is ∙ two_tokens read_lexeme tokens count);
}

pub chain_joined : (tokens rest : List ReadToken) (old texts : List ℕ) (start count : ℕ) (kind : TokenKind) →
    HasJoined tokens old texts start kind count → rest ≡ drop count tokens → begins_with_tilde (map read_lexeme rest) ≡ false →
    JoinsChain (map read_lexeme tokens) kind (drop (length old) texts) count
chain_joined tokens rest old texts start count kind so_far is ends = record {
  first = so_far.first;
  rest = so_far.rest;
  tokens = so_far.begins;
  joins = so_far.joins ∙ rw (so_far.at_end, drop-map read_lexeme count tokens) refl;
  some = so_far.some;
  within = omega (arith, so_far.within, length-map tokens read_lexeme);
  apart = rw (drop-map read_lexeme count tokens, ← is) ends;
}

pub chain_fails : (tokens rest : List ReadToken) (old texts : List ℕ) (start count : ℕ) (kind : TokenKind) (e : MacroError) →
    HasJoined tokens old texts start kind count → rest ≡ drop count tokens →
    ((at : ℕ) → joined_from (word_at at kind (drop start texts)) (map read_lexeme rest) ≡ Err e) →
    FailsChain (map read_lexeme tokens) e
chain_fails tokens rest old texts start count kind e so_far is fails = record {
  first = so_far.first;
  rest = so_far.rest;
  tokens = so_far.begins;
  fails = so_far.joins ∙ rw (← is) (fails so_far.first.at);
}
