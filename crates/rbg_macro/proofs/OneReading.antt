-- A text has one list of tokens at most, and one first fault, and not both.
use Rattle.rbg_base.proofs.Common.{ℕ, ◌≡◌, ◌≢◌, ◌+◌, ◌==◌, Bool, true, false, ◌&&◌, List, [], ◌∷◌, ◌++◌, length, get_or, drop, Some, Result, Ok, Err, cond, refl, sym, ap, ◌∙◌, arith, subst, find, list_all, bytes_eq}
use Rattle.std.proofs.lemmas.Bool.{and_parts, ne_eqb}
use Rattle.std.specs.Char.{is_ascii_digit}
use Rattle.rbg_macro.proofs.TextCommon.{TextError, TooLong, ZeroByte, BadByte, Memory, Symbol, DoubleArrow, Arrow, DoubleEquals, NotEquals, LessOrEqual, GreaterOrEqual, Equals, LessThan, GreaterThan, Plus, Minus, Star, Slash, OpenParenthesis, CloseParenthesis, OpenBracket, CloseBracket, OpenBrace, CloseBrace, Comma, Semicolon, Colon, Tilde, Hash, Dollar, Question, Exclamation, TokenKind, Lexes, end, blank, comment, token, zero_byte, zero_in_comment, bad_byte, after_token, is_blank, is_comment_byte, IsComment, IsLineEnd, IsToken, BeginsNoToken, HasTokens, HasFirstFault, HasTextFault, spelling, Spells, Lexeme}
use Rattle.rbg_macro.specs.declared.token.TokenKind.TheVariants.{Name, Number, Symbol as A_Symbol}
use Rattle.rbg_base.specs.Names.{is_name_start, is_name_part}
use Rattle.rbg_macro.proofs.Words.{digit_starts_no_name, symbol_starts_no_name, symbol_starts_no_number}

-- how bytes begin: with nothing, a blank, a zero byte, a comment, or with a token or a bad byte
data Opening : Type 0 where
  Nothing : Opening
  Blank : Opening
  Zero : Opening
  Comment : Opening
  Other : Opening

abbrev opening : List ℕ → Opening
opening [] = Nothing
opening (b ∷ bs) = cond (is_blank b) Blank (cond (b == 0) Zero (cond ((b == 47) && (get_or bs 0 0 == 47)) Comment Other))

-- a byte that passes a test differs from one that doesn't
is_not : (p : ℕ → Bool) (b n : ℕ) → p b ≡ true → p n ≡ false → (b == n) ≡ false
is_not p b n passes fails = ne_eqb b n (λ same. cc)

opens_blank : (b : ℕ) (rest : List ℕ) → is_blank b ≡ true → opening (b ∷ rest) ≡ Blank
opens_blank b rest is = rw is refl

opens_comment : (bytes word line rest : List ℕ) → bytes ≡ word ++ rest → IsComment word line → opening bytes ≡ Comment
opens_comment bytes word line rest begins is = rw (begins, is.begins) refl

opens_word : (p : ℕ → Bool) (b : ℕ) (rest : List ℕ) → p b ≡ true → p 32 ≡ false → p 9 ≡ false → p 13 ≡ false → p 10 ≡ false → p 0 ≡ false → p 47 ≡ false → opening (b ∷ rest) ≡ Other
opens_word p b rest is space tab return feed zero slash =
    rw (is_not p b 32 is space, is_not p b 9 is tab, is_not p b 13 is return, is_not p b 10 is feed, is_not p b 0 is zero, is_not p b 47 is slash) refl

opens_slash : (rest : List ℕ) → ((line : List ℕ) → 47 ∷ rest ≡ 47 ∷ 47 ∷ line → ⊥) → opening (47 ∷ rest) ≡ Other
opens_slash [] no_comment = refl
opens_slash (b ∷ bs) no_comment =
    let other : (b == 47) ≡ false = ne_eqb b 47 (λ same. no_comment bs (ap (λ (x : ℕ). 47 ∷ x ∷ bs) same)) in
    rw other refl

opens_symbol : (s : Symbol) (rest : List ℕ) → ((line : List ℕ) → spelling s ++ rest ≡ 47 ∷ 47 ∷ line → ⊥) → opening (spelling s ++ rest) ≡ Other
opens_symbol Slash rest no_comment = opens_slash rest no_comment
opens_symbol _ rest no_comment = refl

opens_token : (kind : TokenKind) (word rest : List ℕ) → Spells kind word → ((line : List ℕ) → word ++ rest ≡ 47 ∷ 47 ∷ line → ⊥) → opening (word ++ rest) ≡ Other
opens_token Name [] rest spelt no_comment = cc
opens_token Name (b ∷ bs) rest spelt no_comment =
    opens_word is_name_start b (bs ++ rest) (and_parts (is_name_start b) (list_all is_name_part bs) spelt).0 refl refl refl refl refl refl
opens_token Number [] rest spelt no_comment = cc
opens_token Number (b ∷ bs) rest spelt no_comment =
    opens_word is_ascii_digit b (bs ++ rest) (and_parts (is_ascii_digit b) (list_all is_ascii_digit bs) spelt).0 refl refl refl refl refl refl
opens_token (A_Symbol s) word rest spelt no_comment =
    rw spelt (opens_symbol s rest (λ line e. no_comment line (ap (λ (w : List ℕ). w ++ rest) spelt ∙ e)))

-- the same for bytes that begin with a token
opens_token_at : (kind : TokenKind) (bytes word rest : List ℕ) → bytes ≡ word ++ rest → IsToken kind word rest → opening bytes ≡ Other
opens_token_at kind bytes word rest begins is = rw begins (opens_token kind word rest is.spelt is.no_comment)

opens_bad : (b : ℕ) (rest : List ℕ) → b ≢ 0 → is_blank b ≡ false → BeginsNoToken (b ∷ rest) → opening (b ∷ rest) ≡ Other
opens_bad b rest not_zero not_blank no_token =
    let no_slash : (b == 47) ≡ false = ne_eqb b 47 (λ same. no_token (A_Symbol Slash) (47 ∷ []) rest refl (ap (λ (x : ℕ). x ∷ rest) (sym same))) in
    rw (not_blank, ne_eqb b 0 not_zero, no_slash) refl

-- bytes that begin with a comment: what the rest gives
data ReadsComment (at : ℕ) (bytes : List ℕ) (read : Result (List Lexeme) TextError) : Type 0 where
  ended : (word line rest : List ℕ) → bytes ≡ word ++ rest → IsComment word line → IsLineEnd rest → Lexes (at + length word) rest read → ReadsComment at bytes read
  zero_inside : (word line rest : List ℕ) → bytes ≡ word ++ 0 ∷ rest → IsComment word line → read ≡ Err ZeroByte → ReadsComment at bytes read

-- bytes that begin with a token or a bad byte: what the rest gives
data ReadsOther (at : ℕ) (bytes : List ℕ) (all : Result (List Lexeme) TextError) : Type 0 where
  is_token : (kind : TokenKind) (word rest : List ℕ) (read : Result (List Lexeme) TextError) → bytes ≡ word ++ rest → IsToken kind word rest → Lexes (at + length word) rest read →
      all ≡ after_token (record { kind = kind; text = word; at = at }) read → ReadsOther at bytes all
  is_bad : BeginsNoToken bytes → all ≡ Err (BadByte at) → ReadsOther at bytes all

-- what the bytes give, by how they begin
abbrev Reads : Opening → ℕ → List ℕ → Result (List Lexeme) TextError → Type 0
Reads Nothing at bytes read = Ok [] ≡ read
Reads Blank at bytes read = Lexes (at + 1) (drop 1 bytes) read
Reads Zero at bytes read = Err ZeroByte ≡ read
Reads Comment at bytes read = ReadsComment at bytes read
Reads Other at bytes read = ReadsOther at bytes read

reads : (at : ℕ) (bytes : List ℕ) (read : Result (List Lexeme) TextError) → Lexes at bytes read → Reads (opening bytes) at bytes read
reads _ _ _ (end at) = refl
reads _ _ _ (blank at b rest read is beyond) = subst (λ (o : Opening). Reads o at (b ∷ rest) read) (sym (opens_blank b rest is)) beyond
reads _ _ _ (comment at bytes word line rest read begins is ends beyond) =
    subst (λ (o : Opening). Reads o at bytes read) (sym (opens_comment bytes word line rest begins is)) (ended word line rest begins is ends beyond)
reads _ _ _ (token at kind bytes word rest read all begins is beyond gives) =
    subst (λ (o : Opening). Reads o at bytes all) (sym (opens_token_at kind bytes word rest begins is)) (is_token kind word rest read begins is beyond gives)
reads _ _ _ (zero_byte at rest) = refl
reads _ _ _ (zero_in_comment at bytes word line rest begins is) =
    subst (λ (o : Opening). Reads o at bytes (Err ZeroByte)) (sym (opens_comment bytes word line (0 ∷ rest) begins is)) (zero_inside word line rest begins is refl)
reads _ _ _ (bad_byte at b rest not_zero not_blank no_token) =
    subst (λ (o : Opening). Reads o at (b ∷ rest) (Err (BadByte at))) (sym (opens_bad b rest not_zero not_blank no_token)) (is_bad no_token refl)

reads_as : (at : ℕ) (bytes : List ℕ) (read : Result (List Lexeme) TextError) (o : Opening) → opening bytes ≡ o → Lexes at bytes read → Reads o at bytes read
reads_as at bytes read o is lexes = subst (λ (p : Opening). Reads p at bytes read) is (reads at bytes read lexes)

-- a line stops at a byte that isn't one of a comment, or with the text
abbrev Stops : List ℕ → Type 0
Stops [] = Unit {0}
Stops (b ∷ bs) = is_comment_byte b ≡ false

stops_at_end : (rest : List ℕ) → IsLineEnd rest → Stops rest
stops_at_end [] ends = tt
stops_at_end (b ∷ bs) ends = rw ends refl

same_line : (line line' rest rest' : List ℕ) → list_all is_comment_byte line ≡ true → list_all is_comment_byte line' ≡ true → Stops rest → Stops rest' →
    line ++ rest ≡ line' ++ rest' → (line ≡ line') × (rest ≡ rest')
same_line [] [] rest rest' all all' stops stops' e = (refl, e)
same_line [] (b ∷ bs) [] rest' all all' stops stops' e = cc
same_line [] (b ∷ bs) (c ∷ cs) rest' all all' stops stops' e =
    let passes = (and_parts (is_comment_byte b) (list_all is_comment_byte bs) all').0 in
    let same : c ≡ b = cc in
    absurd (cc (passes, stops, same))
same_line (a ∷ line) [] rest [] all all' stops stops' e = cc
same_line (a ∷ line) [] rest (c ∷ cs) all all' stops stops' e =
    let passes = (and_parts (is_comment_byte a) (list_all is_comment_byte line) all).0 in
    let same : a ≡ c = cc in
    absurd (cc (passes, stops', same))
same_line (a ∷ line) (b ∷ line') rest rest' all all' stops stops' e =
    let first : a ≡ b = cc in
    let beyond : line ++ rest ≡ line' ++ rest' = cc in
    let (lines, rests) = same_line line line' rest rest' (and_parts (is_comment_byte a) (list_all is_comment_byte line) all).1 (and_parts (is_comment_byte b) (list_all is_comment_byte line') all').1 stops stops' beyond in
    (cc (first, lines), rests)

-- two comments at the front of the same bytes are the same
same_comment : (bytes word word' line line' rest rest' : List ℕ) → bytes ≡ word ++ rest → bytes ≡ word' ++ rest' → IsComment word line → IsComment word' line' → Stops rest → Stops rest' →
    (word ≡ word') × (rest ≡ rest')
same_comment bytes word word' line line' rest rest' begins begins' is is' stops stops' =
    let one : bytes ≡ 47 ∷ 47 ∷ (line ++ rest) = begins ∙ ap (λ (w : List ℕ). w ++ rest) is.begins in
    let other : bytes ≡ 47 ∷ 47 ∷ (line' ++ rest') = begins' ∙ ap (λ (w : List ℕ). w ++ rest') is'.begins in
    let same : line ++ rest ≡ line' ++ rest' = cc (one, other) in
    let (lines, rests) = same_line line line' rest rest' is.goes_on is'.goes_on stops stops' same in
    (is.begins ∙ ap (λ (l : List ℕ). 47 ∷ 47 ∷ l) lines ∙ sym is'.begins, rests)

same_split : (u v x y : List ℕ) → u ++ x ≡ v ++ y → length u ≡ length v → (u ≡ v) × (x ≡ y)
same_split [] [] x y e size = (refl, e)
same_split [] (b ∷ v) x y e size = absurd (omega (arith, size))
same_split (a ∷ u) [] x y e size = absurd (omega (arith, size))
same_split (a ∷ u) (b ∷ v) x y e size =
    let first : a ≡ b = cc in
    let beyond : u ++ x ≡ v ++ y = cc in
    let (fronts, rests) = same_split u v x y beyond (omega (arith, size)) in
    (cc (first, fronts), rests)

abbrev symbols : List Symbol
symbols = DoubleArrow ∷ Arrow ∷ DoubleEquals ∷ NotEquals ∷ LessOrEqual ∷ GreaterOrEqual ∷ Equals ∷ LessThan ∷ GreaterThan ∷ Plus ∷ Minus ∷ Star ∷ Slash ∷ OpenParenthesis ∷ CloseParenthesis ∷ OpenBracket ∷ CloseBracket ∷ OpenBrace ∷ CloseBrace ∷ Comma ∷ Semicolon ∷ Colon ∷ Tilde ∷ Hash ∷ Dollar ∷ Question ∷ Exclamation ∷ []

spelt_so : (s : Symbol) → find (λ t. bytes_eq (spelling s) (spelling t)) symbols ≡ Some s
spelt_so DoubleArrow = refl
spelt_so _ = refl

same_symbol : (s t : Symbol) → spelling s ≡ spelling t → s ≡ t
same_symbol s t e =
    let found : Some s ≡ Some t = sym (spelt_so s) ∙ ap (λ (word : List ℕ). find (λ u. bytes_eq word (spelling u)) symbols) e ∙ spelt_so t in
    cc

-- a word is a token of one kind
no_name_and_number : (word : List ℕ) → Spells Name word → Spells Number word → ⊥
no_name_and_number [] name number = cc
no_name_and_number (b ∷ bs) name number =
    let start = (and_parts (is_name_start b) (list_all is_name_part bs) name).0 in
    let none = digit_starts_no_name b (and_parts (is_ascii_digit b) (list_all is_ascii_digit bs) number).0 in
    cc (start, none)

no_symbol : (begins : ℕ → Bool) (word : List ℕ) (s : Symbol) → begins (get_or (word ++ []) 0 0) ≡ true → begins (get_or (spelling s ++ []) 0 0) ≡ false → word ≡ spelling s → ⊥
no_symbol begins word s start none is =
    let first = subst (λ (w : List ℕ). begins (get_or (w ++ []) 0 0) ≡ false) (sym is) none in
    cc (start, first)

no_name_and_symbol : (word : List ℕ) (s : Symbol) → Spells Name word → word ≡ spelling s → ⊥
no_name_and_symbol [] s name is = cc
no_name_and_symbol (b ∷ bs) s name is = no_symbol is_name_start (b ∷ bs) s (and_parts (is_name_start b) (list_all is_name_part bs) name).0 (symbol_starts_no_name s []) is

no_number_and_symbol : (word : List ℕ) (s : Symbol) → Spells Number word → word ≡ spelling s → ⊥
no_number_and_symbol [] s number is = cc
no_number_and_symbol (b ∷ bs) s number is = no_symbol is_ascii_digit (b ∷ bs) s (and_parts (is_ascii_digit b) (list_all is_ascii_digit bs) number).0 (symbol_starts_no_number s []) is

same_kind : (k l : TokenKind) (word : List ℕ) → Spells k word → Spells l word → k ≡ l
same_kind Name Name word one other = refl
same_kind Name Number word one other = absurd (no_name_and_number word one other)
same_kind Name (A_Symbol t) word one other = absurd (no_name_and_symbol word t one other)
same_kind Number Name word one other = absurd (no_name_and_number word other one)
same_kind Number Number word one other = refl
same_kind Number (A_Symbol t) word one other = absurd (no_number_and_symbol word t one other)
same_kind (A_Symbol s) Name word one other = absurd (no_name_and_symbol word s other one)
same_kind (A_Symbol s) Number word one other = absurd (no_number_and_symbol word s other one)
same_kind (A_Symbol s) (A_Symbol t) word one other = ap A_Symbol (same_symbol s t (sym one ∙ other))

-- two tokens at the front of the same bytes are the same
record AreSame (k l : TokenKind) (u v x y : List ℕ) : Type 0 where
  kinds : k ≡ l
  words : u ≡ v
  rests : x ≡ y

same_token : (k l : TokenKind) (bytes u v x y : List ℕ) → bytes ≡ u ++ x → bytes ≡ v ++ y → IsToken k u x → IsToken l v y → AreSame k l u v x y
same_token k l bytes u v x y begins begins' is is' =
    let e : u ++ x ≡ v ++ y = sym begins ∙ begins' in
    let shorter = is'.longest k u x is.spelt e in
    let longer = is.longest l v y is'.spelt (sym e) in
    let (words, rests) = same_split u v x y e (omega (arith, shorter, longer)) in
    record {
      kinds = same_kind k l v (subst (λ (w : List ℕ). Spells k w) words is.spelt) is'.spelt;
      words = words;
      rests = rests;
    }

-- equal words leave equal rests
moved : (at : ℕ) (word word' rest rest' : List ℕ) (read : Result (List Lexeme) TextError) → word ≡ word' → rest ≡ rest' → Lexes (at + length word') rest' read → Lexes (at + length word) rest read
moved at word word' rest rest' read words rests lexes = rw (words, rests) lexes

-- a zero byte ends no line
no_end : (xs ys : List ℕ) → xs ≡ 0 ∷ ys → IsLineEnd xs → ⊥
no_end [] ys e ends = cc
no_end (x ∷ xs) ys e ends = let zero : x ≡ 0 = cc in omega (arith, zero, ends)

pub reads_once : (at : ℕ) (bytes : List ℕ) (read : Result (List Lexeme) TextError) → Lexes at bytes read → (other : Result (List Lexeme) TextError) → Lexes at bytes other → read ≡ other
reads_once _ _ _ (end at) other lexes = reads_as at [] other Nothing refl lexes
reads_once _ _ _ (blank at b rest read is beyond) other lexes =
    reads_once (at + 1) rest read beyond other (reads_as at (b ∷ rest) other Blank (opens_blank b rest is) lexes)
reads_once _ _ _ (comment at bytes word line rest read begins is ends beyond) other lexes =
    elim (reads_as at bytes other Comment (opens_comment bytes word line rest begins is) lexes) [
      | ended word' line' rest' begins' is' ends' beyond' ↦
          let (words, rests) = same_comment bytes word word' line line' rest rest' begins begins' is is' (stops_at_end rest ends) (stops_at_end rest' ends') in
          reads_once (at + length word) rest read beyond other (moved at word word' rest rest' other words rests beyond')
      | zero_inside word' line' rest' begins' is' gives ↦
          let (words, rests) = same_comment bytes word word' line line' rest (0 ∷ rest') begins begins' is is' (stops_at_end rest ends) refl in
          absurd (no_end rest rest' rests ends)
    ]
reads_once _ _ _ (token at kind bytes word rest read all begins is beyond gives) other lexes =
    elim (reads_as at bytes other Other (opens_token_at kind bytes word rest begins is) lexes) [
      | is_token kind' word' rest' read' begins' is' beyond' gives' ↦
          let same = same_token kind kind' bytes word word' rest rest' begins begins' is is' in
          let reads_same = reads_once (at + length word) rest read beyond read' (moved at word word' rest rest' read' same.words same.rests beyond') in
          let lexemes : after_token (record { kind = kind; text = word; at = at }) read ≡ after_token (record { kind = kind'; text = word'; at = at }) read' = rw (same.kinds, same.words, reads_same) refl in
          gives ∙ lexemes ∙ sym gives'
      | is_bad no_token gives' ↦ absurd (no_token kind word rest is.spelt (sym begins))
    ]
reads_once _ _ _ (zero_byte at rest) other lexes = reads_as at (0 ∷ rest) other Zero refl lexes
reads_once _ _ _ (zero_in_comment at bytes word line rest begins is) other lexes =
    elim (reads_as at bytes other Comment (opens_comment bytes word line (0 ∷ rest) begins is) lexes) [
      | ended word' line' rest' begins' is' ends' beyond' ↦
          let (words, rests) = same_comment bytes word word' line line' (0 ∷ rest) rest' begins begins' is is' refl (stops_at_end rest' ends') in
          absurd (no_end rest' rest (sym rests) ends')
      | zero_inside word' line' rest' begins' is' gives ↦ sym gives
    ]
reads_once _ _ _ (bad_byte at b rest not_zero not_blank no_token) other lexes =
    elim (reads_as at (b ∷ rest) other Other (opens_bad b rest not_zero not_blank no_token) lexes) [
      | is_token kind word rest' read begins is beyond gives ↦ absurd (no_token kind word rest' is.spelt (sym begins))
      | is_bad none gives ↦ sym gives
    ]

-- a text has one list of tokens at most
pub tokens_once : (text : List ℕ) (a b : List Lexeme) → HasTokens text a → HasTokens text b → a ≡ b
tokens_once text a b first second = let same = reads_once 0 text (Ok a) first.read (Ok b) second.read in cc

-- a text with tokens has no fault
no_first_fault : (text : List ℕ) (ts : List Lexeme) (e : TextError) → HasTokens text ts → HasFirstFault text e → ⊥
no_first_fault text ts e has fault = let same = reads_once 0 text (Ok ts) has.read (Err e) fault.read in cc

-- so its only error is out of memory
pub text_refused_for_memory : (text : List ℕ) (ts : List Lexeme) → HasTokens text ts → (e : TextError) → HasTextFault text e → e ≡ Memory
text_refused_for_memory text ts has TooLong fault = absurd (omega (arith, has.fits))
text_refused_for_memory text ts has ZeroByte fault = absurd (no_first_fault text ts ZeroByte has fault)
text_refused_for_memory text ts has (BadByte at) fault = absurd (no_first_fault text ts (BadByte at) has fault)
text_refused_for_memory text ts has Memory fault = refl

first_fault_once : (text : List ℕ) (e f : TextError) → HasFirstFault text e → HasFirstFault text f → e ≡ f
first_fault_once text e f one other = let same = reads_once 0 text (Err e) one.read (Err f) other.read in cc

-- a text has at most one error other than out of memory
pub text_error_once : (text : List ℕ) (e f : TextError) → HasTextFault text e → HasTextFault text f → e ≢ Memory → f ≢ Memory → e ≡ f
text_error_once text TooLong TooLong one other not_memory not_memory' = refl
text_error_once text TooLong ZeroByte one other not_memory not_memory' = absurd (omega (arith, other.fits))
text_error_once text TooLong (BadByte at) one other not_memory not_memory' = absurd (omega (arith, other.fits))
text_error_once text ZeroByte TooLong one other not_memory not_memory' = absurd (omega (arith, one.fits))
text_error_once text ZeroByte ZeroByte one other not_memory not_memory' = refl
text_error_once text ZeroByte (BadByte at) one other not_memory not_memory' = first_fault_once text ZeroByte (BadByte at) one other
text_error_once text (BadByte at) TooLong one other not_memory not_memory' = absurd (omega (arith, one.fits))
text_error_once text (BadByte at) ZeroByte one other not_memory not_memory' = first_fault_once text (BadByte at) ZeroByte one other
text_error_once text (BadByte at) (BadByte at') one other not_memory not_memory' = first_fault_once text (BadByte at) (BadByte at') one other
text_error_once text Memory f one other not_memory not_memory' = absurd (not_memory refl)
text_error_once text e Memory one other not_memory not_memory' = absurd (not_memory' refl)
