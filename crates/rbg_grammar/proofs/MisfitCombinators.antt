-- Where readings of single tokens, and of phrases that are put together of others, stop.
use Rattle.rbg_base.proofs.Common.{◌≡◌, ◌≤◌, ℕ, zero, suc, List, [], ◌∷◌, ◌++◌, length, Bool, true, false, cond, Option, Some, None, Result, Ok, Err, refl, sym, ap, ◌∙◌, subst, arith, ◌&&◌, bytes_eq, bytes_eq-Decides}
use denote.Enum.Bare.{true_same}
use Rattle.rbg_base.specs.Decimals.{number_of_digits}
use Rattle.rbg_macro.proofs.TextCommon.{Lexeme, is_name_kind, is_number_kind, is_symbol}
use Rattle.rbg_macro.specs.contracts.token.Symbol.{the_type}
use Rattle.rbg_macro.specs.declared.token.Symbol.{Symbol}
use Rattle.rbg_macro.specs.declared.token.Symbol.TheVariants.{Comma}
use Rattle.rbg_macro.specs.declared.token.TokenKind.{TokenKind}
use Rattle.rbg_macro.specs.declared.token.TokenKind.TheVariants as kinds
use Rattle.rbg_grammar.proofs.Common.{SpeltName, SpeltNumber, IsSymbol, symbol, IsName, name, IsNumber, number, IsWord, word, IsOneOf, one_of, Repeated, done, again, After, after, Separated, separated, Listed, nothing, listed, Within, within, WithComma, with_comma, Fault, misfit, Reading, ◌>>=◌, TakesSome, next_is, symbol_at, name_at, number_at, word_at, or_misfit, one_of_at, repeated_within, repeated_at, after_at, separated_at, listed_at, within_at, with_comma_at}
use Rattle.rbg_grammar.proofs.Misfits.{Begun, Judged, Judges, Beyond, seen, given, bind, bind_at, choose, choose_at, same_reader, as_read}
use Rattle.rbg_grammar.proofs.Readers.{kind_of-is_symbol, kind_of-is_name, kind_of-is_number}
use Rattle.rbg_grammar.proofs.Turns.{after_some, within_enough}

-- what is read of one token that is in a table, if there is such a token
module _ {A : Type 0} (table : TokenKind → Option A) (sample : Lexeme) (value : A) (is : table sample.kind ≡ Some value) where
  may_begin_one : Begun (IsOneOf table) []
  may_begin_one = record { other = sample ∷ []; value = value; spells = λ tail. one_of is }

  front_judged : (t : Lexeme) (ts : List Lexeme) (o : Option A) → table t.kind ≡ o → Judged (IsOneOf table) (one_of_at table) (t ∷ ts) (or_misfit o (t, ts))
  unfolding one_of_at
  front_judged t ts (Some x) e = record { used = t ∷ []; whole = refl; spells = λ tail. one_of e; same = λ u beyond other left. rw e }
  front_judged t ts None e = record { here = record { before = []; token = t; beyond = ts; whole = refl; place = refl }; begun = may_begin_one; same = λ other. rw e }

  some_front : (ts : List Lexeme) → Judged (IsOneOf table) (one_of_at table) ts (one_of_at table ts)
  unfolding one_of_at
  some_front [] = may_begin_one
  some_front (t ∷ ts) = front_judged t ts (table t.kind) refl

  pub one_of_judged : Judges (IsOneOf table) (one_of_at table)
  one_of_judged = record { at = some_front }

-- what is read of one token that passes a test
abbrev pub one_token : {A : Type 0} → (Lexeme → Bool) → (Lexeme → A) → List Lexeme → Reading A
one_token test f [] = Err (misfit None)
one_token test f (t ∷ ts) = cond (test t) (Ok (f t, ts)) (Err (misfit (Some t.at)))

module _ {A : Type 0} (P : List Lexeme → A → List Lexeme → Type 0) (test : Lexeme → Bool) (f : Lexeme → A) (spells' : (t : Lexeme) → test t ≡ true → (tail : List Lexeme) → P (t ∷ tail) (f t) tail)
    (sample : Lexeme) (is : test sample ≡ true) where
  may_begin : Begun P []
  may_begin = record { other = sample ∷ []; value = f sample; spells = λ tail. spells' sample is tail }

  one_token_at : (t : Lexeme) (ts : List Lexeme) (b : Bool) → test t ≡ b → Judged P (one_token test f) (t ∷ ts) (cond {A = Reading A} b (Ok (f t, ts)) (Err (misfit (Some t.at))))
  one_token_at t ts true e = record { used = t ∷ []; whole = refl; spells = λ tail. spells' t e tail; same = λ u beyond other left. rw e }
  one_token_at t ts false e = record { here = record { before = []; token = t; beyond = ts; whole = refl; place = refl }; begun = may_begin; same = λ other. rw e }

  some_token : (ts : List Lexeme) → Judged P (one_token test f) ts (one_token test f ts)
  some_token [] = may_begin
  some_token (t ∷ ts) = one_token_at t ts (test t) refl

  pub token_judged : Judges P (one_token test f)
  token_judged = record { at = some_token }

chosen_bind : {A B : Type 0} (b : Bool) (x : A) (e : Fault) (g : A → Result B Fault) → (cond {A = Result A Fault} b (Ok x) (Err e) >>= g) ≡ cond {A = Result B Fault} b (g x) (Err e)
chosen_bind true x e g = refl
chosen_bind false x e g = refl

chosen_both : {A : Type 0} (a b : Bool) (x y : A) → cond a (cond b x y) y ≡ cond (a && b) x y
chosen_both true b x y = refl
chosen_both false b x y = refl

symbol_same : (s : Symbol) (ts : List Lexeme) → symbol_at s ts ≡ one_token (λ (t : Lexeme). is_symbol s t.kind) (λ (t : Lexeme). t.at) ts
unfolding symbol_at
symbol_same s [] = refl
symbol_same s (t ∷ ts) = chosen_bind (is_symbol s t.kind) (t, ts) (misfit (Some t.at)) (λ (q : Lexeme × List Lexeme). Ok (q.0.at, q.1))

abbrev mark : Symbol → Lexeme
mark s = record { kind = kinds.Symbol s; text = []; at = 0 }

pub symbol_judged : (s : Symbol) → Judges (IsSymbol s) (symbol_at s)
symbol_judged s =
    same_reader (symbol_same s)
    (token_judged (IsSymbol s) (λ (t : Lexeme). is_symbol s t.kind) (λ (t : Lexeme). t.at) (λ t e tail. symbol (kind_of-is_symbol s t.kind e)) (mark s) (true_same the_type s s refl))

name_same : (ts : List Lexeme) → name_at ts ≡ one_token {A = SpeltName} (λ (t : Lexeme). is_name_kind t.kind) (λ (t : Lexeme). record { text = t.text; at = t.at }) ts
unfolding name_at
name_same [] = refl
name_same (t ∷ ts) = chosen_bind (is_name_kind t.kind) (t, ts) (misfit (Some t.at)) (λ (q : Lexeme × List Lexeme). Ok (record { text = q.0.text; at = q.0.at }, q.1))

pub name_judged : Judges IsName name_at
name_judged =
    same_reader name_same
    (token_judged IsName (λ (t : Lexeme). is_name_kind t.kind) (λ (t : Lexeme). record { text = t.text; at = t.at }) (λ t e tail. name (kind_of-is_name t.kind e)) (record { kind = kinds.Name; text = []; at = 0 }) refl)

number_same : (ts : List Lexeme) → number_at ts ≡ one_token {A = SpeltNumber} (λ (t : Lexeme). is_number_kind t.kind) (λ (t : Lexeme). record { value = number_of_digits t.text; at = t.at }) ts
unfolding number_at
number_same [] = refl
number_same (t ∷ ts) = chosen_bind (is_number_kind t.kind) (t, ts) (misfit (Some t.at)) (λ (q : Lexeme × List Lexeme). Ok (record { value = number_of_digits q.0.text; at = q.0.at }, q.1))

pub number_judged : Judges IsNumber number_at
number_judged =
    same_reader number_same
    (token_judged IsNumber (λ (t : Lexeme). is_number_kind t.kind) (λ (t : Lexeme). record { value = number_of_digits t.text; at = t.at }) (λ t e tail. number (kind_of-is_number t.kind e)) (record { kind = kinds.Number; text = []; at = 0 }) refl)

abbrev is_word : List ℕ → Lexeme → Bool
is_word text t = is_name_kind t.kind && bytes_eq t.text text

word_same : (text : List ℕ) (ts : List Lexeme) → word_at text ts ≡ one_token (is_word text) (λ (t : Lexeme). t.at) ts
unfolding word_at
word_same text [] = refl
word_same text (t ∷ ts) =
    chosen_bind (is_name_kind t.kind) (t, ts) (misfit (Some t.at)) (λ (q : Lexeme × List Lexeme). cond {A = Reading ℕ} (bytes_eq q.0.text text) (Ok (q.0.at, q.1)) (Err (misfit (Some q.0.at))))
    ∙ chosen_both {A = Reading ℕ} (is_name_kind t.kind) (bytes_eq t.text text) (Ok (t.at, ts)) (Err (misfit (Some t.at)))

both_true : (a b : Bool) → (a && b) ≡ true → (a ≡ true) × (b ≡ true)
both_true true b e = (refl, e)
both_true false b e = cc

word_spelt : (text : List ℕ) (t : Lexeme) → is_word text t ≡ true → (tail : List Lexeme) → IsWord text (t ∷ tail) t.at tail
word_spelt text t e tail = let (named, same) = both_true (is_name_kind t.kind) (bytes_eq t.text text) e in word (kind_of-is_name t.kind named) ((bytes_eq-Decides t.text text).0 same)

pub word_judged : (text : List ℕ) → Judges (IsWord text) (word_at text)
word_judged text =
    same_reader (word_same text)
    (token_judged (IsWord text) (is_word text) (λ (t : Lexeme). t.at) (word_spelt text) (record { kind = kinds.Name; text = text; at = 0 }) ((bytes_eq-Decides text text).1 refl))

-- after a symbol, and before one
pub after_judged : {A : Type 0} {P : List Lexeme → A → List Lexeme → Type 0} {read : List Lexeme → Reading A} (s : Symbol) → Judges P read → Judges (After s P) (after_at s read)
unfolding after_at
after_judged {A} {P} {read} s j = bind (symbol_judged s) (λ q. read q.1) (λ at u d. seen (λ ts x rest e. after (d ts) e) j)

pub data Closed {A : Type 0} (c : Symbol) (P : List Lexeme → A → List Lexeme → Type 0) : List Lexeme → A → List Lexeme → Type 0 where
  closed : {ts mid rest : List Lexeme} {end : ℕ} {x : A} → P ts x mid → IsSymbol c mid end rest → Closed c P ts x rest

pub closed_as : {A G : Type 0} {c : Symbol} {P : List Lexeme → A → List Lexeme → Type 0} {ts rest : List Lexeme} {x : A} → Closed c P ts x rest → ((mid : List Lexeme) (end : ℕ) → P ts x mid → IsSymbol c mid end rest → G) → G
closed_as (closed {mid = mid} {end = end} d e) make = make mid end d e

abbrev pub closed_at : {A : Type 0} → Symbol → (List Lexeme → Reading A) → List Lexeme → Reading A
closed_at c read ts = read ts >>= λ x. symbol_at c x.1 >>= λ end. Ok (x.0, end.1)

pub closed_judged : {A : Type 0} {P : List Lexeme → A → List Lexeme → Type 0} {read : List Lexeme → Reading A} (c : Symbol) → Judges P read → Judges (Closed c P) (closed_at c read)
closed_judged {A} {P} {read} c j = bind j (λ x. symbol_at c x.1 >>= λ end. Ok (x.0, end.1)) (λ x u d. bind (symbol_judged c) (λ end. Ok (x, end.1)) (λ end v e. given (λ tail. closed (d (v ++ tail)) (e tail))))

pub within_judged : {A : Type 0} {P : List Lexeme → A → List Lexeme → Type 0} {read : List Lexeme → Reading A} (o c : Symbol) → Judges P read → Judges (Within o c P) (within_at o c read)
unfolding within_at
within_judged {A} {P} {read} o c j = bind (symbol_judged o) (λ at. closed_at c read at.1) (λ at u d. seen (λ ts x rest k. closed_as k (λ mid end e f. within (d ts) e f)) (closed_judged c j))

-- what comes before a closing bracket, as what is made of it with the opening one
pub made_judged : {A B : Type 0} {o c : Symbol} {P : List Lexeme → A → List Lexeme → Type 0} {read : List Lexeme → Reading A} {at : ℕ} (R : List Lexeme → B → List Lexeme → Type 0) (u : List Lexeme) (make : A → B)
    → ((ts : List Lexeme) (x : A) (rest : List Lexeme) → Within o c P ts x rest → R ts (make x) rest) → ((tail : List Lexeme) → IsSymbol o (u ++ tail) at tail)
    → Judges P read → Judges (Beyond u R) (λ us. closed_at c read us >>= λ x. Ok (make x.0, x.1))
made_judged {c = c} R u make is d j =
    bind (closed_judged c j) (λ x. Ok (make x.0, x.1)) (λ x v e. given (λ tail. closed_as (e tail) (λ mid end k f. is (u ++ (v ++ tail)) x tail (within (d (v ++ tail)) k f))))

pub with_comma_judged : {A : Type 0} {P : List Lexeme → A → List Lexeme → Type 0} {read : List Lexeme → Reading A} → Judges P read → Judges (WithComma P) (with_comma_at read)
unfolding with_comma_at
with_comma_judged {A} {P} {read} j = seen (λ ts x rest k. closed_as k (λ mid end e f. with_comma e f)) (closed_judged Comma j)

-- as many as begin
module _ {A : Type 0} (P : List Lexeme → A → List Lexeme → Type 0) (read : List Lexeme → Reading A) (test : TokenKind → Bool) (some : TakesSome read) (j : Judges P read) where
  more : A × List Lexeme → Reading (List A)
  more q = repeated_at test read q.1 >>= λ m. Ok (q.0 ∷ m.0, m.1)

  same_more : (n : ℕ) (ts : List Lexeme) (r : Reading A) → read ts ≡ r → length ts ≤ suc n
      → (r >>= λ q. repeated_within n test read q.1 >>= λ m. Ok (q.0 ∷ m.0, m.1)) ≡ (r >>= more)
  unfolding more repeated_at
  same_more n ts (Ok q) e few = let fewer = some ts q.0 q.1 e in ap (λ (u : Reading (List A)). u >>= λ m. Ok (q.0 ∷ m.0, m.1)) (within_enough test read some n (length q.1) q.1 (omega (arith, few, fewer)) (omega arith))
  same_more n ts (Err f) e few = refl

  turned : List Lexeme → Reading (List A)
  turned ts = cond (next_is test ts) (read ts >>= more) (Ok ([], ts))

  unrolled : (ts : List Lexeme) → repeated_at test read ts ≡ turned ts
  unfolding repeated_at turned
  unrolled [] = refl
  unrolled (t ∷ ts) = ap (λ (u : Reading (List A)). cond (test t.kind) u (Ok ([], t ∷ ts))) (same_more (length ts) (t ∷ ts) (read (t ∷ ts)) refl (omega arith))

  turned_to : (n : ℕ) (ts : List Lexeme) → length ts ≤ suc n → ((us : List Lexeme) → length us ≤ n → Judged (Repeated P) (repeated_at test read) us (repeated_at test read us)) → Judged (Repeated P) turned ts (turned ts)
  unfolding turned more
  turned_to n ts few rec =
      choose_at (Repeated P) (next_is test) (λ t us vs. refl) (λ us. read us >>= more) (λ us. Ok ([], us)) ts
      (λ goes_on. bind_at P (Repeated P) read more (λ us. length us ≤ n) (omega arith) ts (λ x us e. let fewer = some ts x us e in omega (arith, few, fewer)) (j.at ts)
      (λ x u d us left. bind_at (Repeated P) (Beyond u (Repeated P)) (repeated_at test read) (λ m. Ok (x ∷ m.0, m.1)) (λ vs. Unit {0}) tt us (λ xs vs e. tt) (rec us left)
      (λ xs v e vs k. (given {R = Beyond v (Beyond u (Repeated P))} {x = x ∷ xs} (λ tail. again (d (v ++ tail)) (e tail))).at vs)))
      (λ stops. (given {R = Repeated P} {x = []} (λ tail. done)).at ts)

  as_turned : (ts : List Lexeme) → Judged (Repeated P) turned ts (turned ts) → Judged (Repeated P) (repeated_at test read) ts (repeated_at test read ts)
  as_turned ts k =
      subst (λ r. Judged (Repeated P) (repeated_at test read) ts r) (sym (unrolled ts))
      (as_read (Repeated P) turned (repeated_at test read) ts (turned ts) (λ front t beyond other is. sym (unrolled (front ++ t ∷ other))) k)

  repeated_to : (n : ℕ) (ts : List Lexeme) → length ts ≤ n → Judged (Repeated P) (repeated_at test read) ts (repeated_at test read ts)
  unfolding repeated_at
  repeated_to zero [] few = record { used = []; whole = refl; spells = λ tail. done; same = λ t beyond other e. cc }
  repeated_to zero (t ∷ ts) few = absurd (omega (arith, few))
  repeated_to (suc n) ts few = as_turned ts (turned_to n ts few (repeated_to n))

  pub repeated_judged : Judges (Repeated P) (repeated_at test read)
  repeated_judged = record { at = λ ts. repeated_to (length ts) ts (omega arith) }

-- with a symbol between each two
pub separated_judged : {A : Type 0} {P : List Lexeme → A → List Lexeme → Type 0} {read : List Lexeme → Reading A} (s : Symbol) → TakesSome read → Judges P read → Judges (Separated s P) (separated_at s read)
unfolding separated_at
separated_judged {A} {P} {read} s some j =
    bind j (λ q. repeated_at (is_symbol s) (after_at s read) q.1 >>= λ m. Ok (q.0 ∷ m.0, m.1))
    (λ x u d. bind (repeated_judged (After s P) (after_at s read) (is_symbol s) (after_some read some s) (after_judged s j)) (λ m. Ok (x ∷ m.0, m.1)) (λ xs v e. given (λ tail. separated (d (v ++ tail)) (e tail))))

pub listed_judged : {A : Type 0} {P : List Lexeme → A → List Lexeme → Type 0} {read : List Lexeme → Reading A} (test : TokenKind → Bool) → TakesSome read → Judges P read → Judges (Listed P) (listed_at test read)
unfolding listed_at
listed_judged {A} {P} {read} test some j = choose (next_is test) (λ t us vs. refl) (seen (λ ts x rest d. listed d) (separated_judged Comma some j)) (given (λ tail. nothing))
