-- Phrases that are put together are read by readers that are put together in the same way.
use Rattle.std.proofs.Common.{◌≡◌, ◌≤◌, ◌+◌, ℕ, zero, suc, List, [], ◌∷◌, length, Bool, true, false, cond, Ok, refl, subst, arith}
use Rattle.rbg_macro.proofs.TextCommon.{Lexeme, is_symbol}
use Rattle.rbg_macro.specs.declared.token.Symbol.{Symbol}
use Rattle.rbg_macro.specs.declared.token.Symbol.TheVariants.{Comma}
use Rattle.rbg_macro.specs.declared.token.TokenKind.{TokenKind}
use Rattle.rbg_grammar.proofs.Common.{Repeated, done, again, After, after, Separated, separated, Listed, nothing, listed, Within, within, WithComma, with_comma, Reading, ◌>>=◌, next_is, symbol_at, repeated_within, repeated_at, after_at, separated_at, listed_at, within_at, with_comma_at}
use Rattle.rbg_grammar.proofs.Readers.{bind_ok, ok_one, IsReadBy, Always, symbol_read, symbol_next}

-- each phrase begins with a token that passes the test, and such a token may follow a phrase
pub record Begins {A : Type 0} (P : List Lexeme → A → List Lexeme → Type 0) (Follow : List Lexeme → Type 0) (test : TokenKind → Bool) : Type 0 where
  pub starts : (ts : List Lexeme) (x : A) (rest : List Lexeme) → P ts x rest → next_is test ts ≡ true
  pub goes_on : (ts : List Lexeme) → next_is test ts ≡ true → Follow ts

-- what may follow phrases of which there are as many as begin
pub record Stops (Follow : List Lexeme → Type 0) (test : TokenKind → Bool) (rest : List Lexeme) : Type 0 where
  pub ends : next_is test rest ≡ false
  pub follows : Follow rest

module _ {A : Type 0} (P : List Lexeme → A → List Lexeme → Type 0) (Follow : List Lexeme → Type 0) (read : List Lexeme → Reading A) (test : TokenKind → Bool)
    (reads : IsReadBy 1 P Follow read) (begins : Begins P Follow test) where
  pub repeated_shorter : {ts rest : List Lexeme} {xs : List A} → Repeated P ts xs rest → length rest ≤ length ts
  repeated_shorter done = omega arith
  repeated_shorter (again {ts = ts} {mid = mid} {x = x} d more) = omega (arith, reads.shorter ts x mid d, repeated_shorter more)

  pub may_follow : {ts rest : List Lexeme} {xs : List A} → Repeated P ts xs rest → Stops Follow test rest → Follow ts
  may_follow done stop = stop.follows
  may_follow (again {ts = ts} {mid = mid} {x = x} d more) stop = begins.goes_on ts (begins.starts ts x mid d)

  within_complete : {ts rest : List Lexeme} {xs : List A} → Repeated P ts xs rest → Stops Follow test rest → (n : ℕ) → length ts ≤ n → repeated_within n test read ts ≡ Ok (xs, rest)
  within_complete done stop zero enough = refl
  within_complete done stop (suc n) enough = rw stop.ends
  within_complete (again {ts = ts} {mid = mid} {x = x} d more) stop zero enough = absurd (omega (arith, reads.shorter ts x mid d))
  within_complete (again {ts = ts} {mid = mid} {x = x} d more) stop (suc n) enough =
      let shorter : length mid ≤ n = omega (arith, reads.shorter ts x mid d) in
      rw (begins.starts ts x mid d, reads.complete ts x mid d (may_follow more stop), within_complete more stop n shorter)

  within_sound : (n : ℕ) (ts : List Lexeme) (xs : List A) (rest : List Lexeme) → repeated_within n test read ts ≡ Ok (xs, rest) → Repeated P ts xs rest
  within_sound zero ts xs rest e = subst (λ (q : List A × List Lexeme). Repeated P ts q.0 q.1) (ok_one ([], ts) (xs, rest) e) done
  within_sound (suc n) ts xs rest e = go (within_sound n) (next_is test ts) e
    where
      go : ((us : List Lexeme) (ys : List A) (last : List Lexeme) → repeated_within n test read us ≡ Ok (ys, last) → Repeated P us ys last)
          → (b : Bool) → cond {A = Reading (List A)} b (read ts >>= λ first. repeated_within n test read first.1 >>= λ more. Ok (first.0 ∷ more.0, more.1)) (Ok ([], ts)) ≡ Ok (xs, rest) → Repeated P ts xs rest
      go rec false e = subst (λ (q : List A × List Lexeme). Repeated P ts q.0 q.1) (ok_one ([], ts) (xs, rest) e) done
      go rec true e =
          let (f, first, further) = bind_ok (read ts) (λ (f : A × List Lexeme). repeated_within n test read f.1 >>= λ more. Ok (f.0 ∷ more.0, more.1)) (xs, rest) e in
          let (m, more, given) = bind_ok (repeated_within n test read f.1) (λ (m : List A × List Lexeme). Ok (f.0 ∷ m.0, m.1)) (xs, rest) further in
          subst (λ (q : List A × List Lexeme). Repeated P ts q.0 q.1) (ok_one (f.0 ∷ m.0, m.1) (xs, rest) given) (again (reads.sound ts f.0 f.1 first) (rec f.1 m.0 m.1 more))

  pub repeated_sound : (ts : List Lexeme) (xs : List A) (rest : List Lexeme) → repeated_at test read ts ≡ Ok (xs, rest) → Repeated P ts xs rest
  unfolding repeated_at
  repeated_sound ts = within_sound (length ts) ts

  pub repeated_complete : {ts rest : List Lexeme} {xs : List A} → Repeated P ts xs rest → Stops Follow test rest → repeated_at test read ts ≡ Ok (xs, rest)
  unfolding repeated_at
  repeated_complete {ts} d stop = within_complete d stop (length ts) (omega arith)

  pub repeated_read : IsReadBy 0 (Repeated P) (Stops Follow test) (repeated_at test read)
  repeated_read = record { sound = repeated_sound; complete = λ ts xs rest d stop. repeated_complete d stop; shorter = λ ts xs rest d. omega (arith, repeated_shorter d) }

-- a phrase and another one after it, whose values make one
pub data FirstThen {A B C : Type 0} (P : List Lexeme → A → List Lexeme → Type 0) (Q : List Lexeme → B → List Lexeme → Type 0) (f : A → B → C) : List Lexeme → C → List Lexeme → Type 0 where
  first_then : {ts mid rest : List Lexeme} {x : A} {y : B} → P ts x mid → Q mid y rest → FirstThen P Q f ts (f x y) rest

module _ {A B C : Type 0} (P : List Lexeme → A → List Lexeme → Type 0) (First : List Lexeme → Type 0) (read : List Lexeme → Reading A) (reads : IsReadBy 1 P First read)
    (least : ℕ) (Q : List Lexeme → B → List Lexeme → Type 0) (Follow : List Lexeme → Type 0) (next : List Lexeme → Reading B) (nexts : IsReadBy least Q Follow next)
    (between : (mid : List Lexeme) (y : B) (rest : List Lexeme) → Q mid y rest → Follow rest → First mid)
    (R : List Lexeme → C → List Lexeme → Type 0) (f : A → B → C) (join : (ts : List Lexeme) (x : A) (mid : List Lexeme) (y : B) (rest : List Lexeme) → P ts x mid → Q mid y rest → R ts (f x y) rest)
    (parts : (ts : List Lexeme) (z : C) (rest : List Lexeme) → R ts z rest → FirstThen P Q f ts z rest) where
  abbrev both_at : List Lexeme → Reading C
  both_at ts = read ts >>= λ x. next x.1 >>= λ y. Ok (f x.0 y.0, y.1)

  both_sound : (ts : List Lexeme) (z : C) (rest : List Lexeme) → both_at ts ≡ Ok (z, rest) → R ts z rest
  both_sound ts z rest e =
      let (x, first, further) = bind_ok (read ts) (λ (x : A × List Lexeme). next x.1 >>= λ y. Ok (f x.0 y.0, y.1)) (z, rest) e in
      let (y, last, given) = bind_ok (next x.1) (λ (y : B × List Lexeme). Ok (f x.0 y.0, y.1)) (z, rest) further in
      subst (λ (q : C × List Lexeme). R ts q.0 q.1) (ok_one (f x.0 y.0, y.1) (z, rest) given)
      (join ts x.0 x.1 y.0 y.1 (reads.sound ts x.0 x.1 first) (nexts.sound x.1 y.0 y.1 last))

  parts_complete : {ts rest : List Lexeme} {z : C} → FirstThen P Q f ts z rest → Follow rest → both_at ts ≡ Ok (z, rest)
  parts_complete {ts} {rest} (first_then {mid = mid} {x = x} {y = y} d e) stop = rw (reads.complete ts x mid d (between mid y rest e stop), nexts.complete mid y rest e stop)

  parts_shorter : {ts rest : List Lexeme} {z : C} → FirstThen P Q f ts z rest → 1 + length rest ≤ length ts
  parts_shorter {ts} {rest} (first_then {mid = mid} {x = x} {y = y} d e) = omega (arith, reads.shorter ts x mid d, nexts.shorter mid y rest e)

  pub both_read : IsReadBy 1 R Follow both_at
  both_read = record { sound = both_sound; complete = λ ts z rest d stop. parts_complete (parts ts z rest d) stop; shorter = λ ts z rest d. parts_shorter (parts ts z rest d) }

-- a phrase whose value is made of that of another one
pub data Made {A B : Type 0} (P : List Lexeme → A → List Lexeme → Type 0) (f : A → B) : List Lexeme → B → List Lexeme → Type 0 where
  made : {ts rest : List Lexeme} {x : A} → P ts x rest → Made P f ts (f x) rest

module _ {A B : Type 0} (least : ℕ) (P : List Lexeme → A → List Lexeme → Type 0) (Follow : List Lexeme → Type 0) (read : List Lexeme → Reading A) (reads : IsReadBy least P Follow read)
    (R : List Lexeme → B → List Lexeme → Type 0) (f : A → B) (make : (ts : List Lexeme) (x : A) (rest : List Lexeme) → P ts x rest → R ts (f x) rest)
    (part : (ts : List Lexeme) (y : B) (rest : List Lexeme) → R ts y rest → Made P f ts y rest) where
  abbrev made_at : List Lexeme → Reading B
  made_at ts = read ts >>= λ x. Ok (f x.0, x.1)

  made_sound : (ts : List Lexeme) (y : B) (rest : List Lexeme) → made_at ts ≡ Ok (y, rest) → R ts y rest
  made_sound ts y rest e =
      let (x, all, given) = bind_ok (read ts) (λ (x : A × List Lexeme). Ok (f x.0, x.1)) (y, rest) e in
      subst (λ (q : B × List Lexeme). R ts q.0 q.1) (ok_one (f x.0, x.1) (y, rest) given) (make ts x.0 x.1 (reads.sound ts x.0 x.1 all))

  made_complete : {ts rest : List Lexeme} {y : B} → Made P f ts y rest → Follow rest → made_at ts ≡ Ok (y, rest)
  made_complete {ts} {rest} (made {x = x} d) stop = rw (reads.complete ts x rest d stop)

  made_shorter : {ts rest : List Lexeme} {y : B} → Made P f ts y rest → least + length rest ≤ length ts
  made_shorter {ts} {rest} (made {x = x} d) = reads.shorter ts x rest d

  pub made_read : IsReadBy least R Follow made_at
  made_read = record { sound = made_sound; complete = λ ts y rest d stop. made_complete (part ts y rest d) stop; shorter = λ ts y rest d. made_shorter (part ts y rest d) }

-- after a symbol
module _ {A : Type 0} (least : ℕ) (P : List Lexeme → A → List Lexeme → Type 0) (Follow : List Lexeme → Type 0) (read : List Lexeme → Reading A)
    (reads : IsReadBy least P Follow read) (s : Symbol) where
  after_sound : (ts : List Lexeme) (x : A) (rest : List Lexeme) → after_at s read ts ≡ Ok (x, rest) → After s P ts x rest
  unfolding after_at
  after_sound ts x rest e =
      let (t, first, further) = bind_ok (symbol_at s ts) (λ (t : ℕ × List Lexeme). read t.1) (x, rest) e in
      after ((symbol_read s).sound ts t.0 t.1 first) (reads.sound t.1 x rest further)

  after_complete : {ts rest : List Lexeme} {x : A} → After s P ts x rest → Follow rest → after_at s read ts ≡ Ok (x, rest)
  unfolding after_at
  after_complete {ts} {rest} {x} (after {mid = mid} {at = at} d e) stop = rw ((symbol_read s).complete ts at mid d tt, reads.complete mid x rest e stop)

  after_shorter : {ts rest : List Lexeme} {x : A} → After s P ts x rest → 1 + length rest ≤ length ts
  after_shorter {ts} {rest} {x} (after {mid = mid} {at = at} d e) = omega (arith, (symbol_read s).shorter ts at mid d, reads.shorter mid x rest e)

  pub after_read : IsReadBy 1 (After s P) Follow (after_at s read)
  after_read = record { sound = after_sound; complete = λ ts x rest d stop. after_complete d stop; shorter = λ ts x rest d. after_shorter d }

-- between brackets
module _ {A : Type 0} (least : ℕ) (P : List Lexeme → A → List Lexeme → Type 0) (Follow : List Lexeme → Type 0) (read : List Lexeme → Reading A)
    (reads : IsReadBy least P Follow read) (o c : Symbol) (closing : (ts : List Lexeme) → next_is (is_symbol c) ts ≡ true → Follow ts) where
  bracket_sound : (ts : List Lexeme) (x : A) (rest : List Lexeme) → within_at o c read ts ≡ Ok (x, rest) → Within o c P ts x rest
  unfolding within_at
  bracket_sound ts x rest e =
      let (a, opened, further) = bind_ok (symbol_at o ts) (λ (a : ℕ × List Lexeme). read a.1 >>= λ y. symbol_at c y.1 >>= λ b. Ok (y.0, b.1)) (x, rest) e in
      let (y, inside, last) = bind_ok (read a.1) (λ (y : A × List Lexeme). symbol_at c y.1 >>= λ b. Ok (y.0, b.1)) (x, rest) further in
      let (b, closed, given) = bind_ok (symbol_at c y.1) (λ (b : ℕ × List Lexeme). Ok (y.0, b.1)) (x, rest) last in
      subst (λ (q : A × List Lexeme). Within o c P ts q.0 q.1) (ok_one (y.0, b.1) (x, rest) given)
      (within ((symbol_read o).sound ts a.0 a.1 opened) (reads.sound a.1 y.0 y.1 inside) ((symbol_read c).sound y.1 b.0 b.1 closed))

  bracket_complete : {ts rest : List Lexeme} {x : A} → Within o c P ts x rest → within_at o c read ts ≡ Ok (x, rest)
  unfolding within_at
  bracket_complete {ts} {rest} {x} (within {first = first} {last = last} {at = at} {end = end} d e f) =
      rw ((symbol_read o).complete ts at first d tt, reads.complete first x last e (closing last (symbol_next c last end rest f)), (symbol_read c).complete last end rest f tt)

  bracket_shorter : {ts rest : List Lexeme} {x : A} → Within o c P ts x rest → 1 + length rest ≤ length ts
  bracket_shorter {ts} {rest} {x} (within {first = first} {last = last} {at = at} {end = end} d e f) =
      omega (arith, (symbol_read o).shorter ts at first d, reads.shorter first x last e, (symbol_read c).shorter last end rest f)

  pub within_read : IsReadBy 1 (Within o c P) Always (within_at o c read)
  within_read = record { sound = bracket_sound; complete = λ ts x rest d stop. bracket_complete d; shorter = λ ts x rest d. bracket_shorter d }

-- with a symbol between each two
module _ {A : Type 0} (P : List Lexeme → A → List Lexeme → Type 0) (Follow : List Lexeme → Type 0) (read : List Lexeme → Reading A)
    (reads : IsReadBy 1 P Follow read) (s : Symbol) (separator : (ts : List Lexeme) → next_is (is_symbol s) ts ≡ true → Follow ts) where
  after_begins_at : {ts rest : List Lexeme} {x : A} → After s P ts x rest → next_is (is_symbol s) ts ≡ true
  after_begins_at {ts} (after {mid = mid} {at = at} d e) = symbol_next s ts at mid d

  after_begins : Begins (After s P) Follow (is_symbol s)
  after_begins = record { starts = λ ts x rest d. after_begins_at d; goes_on = separator }

  separated_parts : (ts : List Lexeme) (xs : List A) (rest : List Lexeme) → Separated s P ts xs rest → FirstThen P (Repeated (After s P)) (λ (x : A) (xs : List A). x ∷ xs) ts xs rest
  separated_parts ts _ rest (separated d more) = first_then d more

  pub separated_read : IsReadBy 1 (Separated s P) (Stops Follow (is_symbol s)) (separated_at s read)
  unfolding separated_at
  separated_read =
      let after_reads = after_read 1 P Follow read reads s in
      both_read P Follow read reads 0 (Repeated (After s P)) (Stops Follow (is_symbol s)) (repeated_at (is_symbol s) (after_at s read))
      (repeated_read (After s P) Follow (after_at s read) (is_symbol s) after_reads after_begins)
      (λ mid xs rest more stop. may_follow (After s P) Follow (after_at s read) (is_symbol s) after_reads after_begins more stop)
      (Separated s P) (λ (x : A) (xs : List A). x ∷ xs) (λ ts x mid y rest d e. separated d e) separated_parts

-- What may follow a list that may be empty: no further part, and no part at all.
pub record EndsList (Follow : List Lexeme → Type 0) (test : TokenKind → Bool) (rest : List Lexeme) : Type 0 where
  pub no_part : next_is test rest ≡ false
  pub no_comma : Stops Follow (is_symbol Comma) rest

-- lists that may be empty
module _ {A : Type 0} (P : List Lexeme → A → List Lexeme → Type 0) (Follow : List Lexeme → Type 0) (read : List Lexeme → Reading A) (test : TokenKind → Bool)
    (reads : IsReadBy 1 P Follow read) (begins : (ts : List Lexeme) (x : A) (rest : List Lexeme) → P ts x rest → next_is test ts ≡ true)
    (separator : (ts : List Lexeme) → next_is (is_symbol Comma) ts ≡ true → Follow ts) where
  listed_sound : (ts : List Lexeme) (xs : List A) (rest : List Lexeme) → listed_at test read ts ≡ Ok (xs, rest) → Listed P ts xs rest
  unfolding listed_at
  listed_sound ts xs rest e = go (next_is test ts) e
    where
      go : (b : Bool) → cond {A = Reading (List A)} b (separated_at Comma read ts) (Ok ([], ts)) ≡ Ok (xs, rest) → Listed P ts xs rest
      go true e = listed ((separated_read P Follow read reads Comma separator).sound ts xs rest e)
      go false e = subst (λ (q : List A × List Lexeme). Listed P ts q.0 q.1) (ok_one ([], ts) (xs, rest) e) nothing

  begins_at : {ts rest : List Lexeme} {xs : List A} → Separated Comma P ts xs rest → next_is test ts ≡ true
  begins_at {ts} (separated {mid = mid} {x = x} d more) = begins ts x mid d

  listed_complete : {ts rest : List Lexeme} {xs : List A} → Listed P ts xs rest → EndsList Follow test rest → listed_at test read ts ≡ Ok (xs, rest)
  unfolding listed_at
  listed_complete nothing stop = rw stop.no_part
  listed_complete {ts} {rest} {xs} (listed d) stop = rw (begins_at d, (separated_read P Follow read reads Comma separator).complete ts xs rest d stop.no_comma)

  listed_shorter : {ts rest : List Lexeme} {xs : List A} → Listed P ts xs rest → 0 + length rest ≤ length ts
  listed_shorter nothing = omega arith
  listed_shorter {ts} {rest} {xs} (listed d) = omega (arith, (separated_read P Follow read reads Comma separator).shorter ts xs rest d)

  pub listed_read : IsReadBy 0 (Listed P) (EndsList Follow test) (listed_at test read)
  listed_read = record { sound = listed_sound; complete = λ ts x rest d stop. listed_complete d stop; shorter = λ ts x rest d. listed_shorter d }

-- with a comma after it
module _ {A : Type 0} (least : ℕ) (P : List Lexeme → A → List Lexeme → Type 0) (Follow : List Lexeme → Type 0) (read : List Lexeme → Reading A)
    (reads : IsReadBy least P Follow read) (comma : (ts : List Lexeme) → next_is (is_symbol Comma) ts ≡ true → Follow ts) where
  comma_sound : (ts : List Lexeme) (x : A) (rest : List Lexeme) → with_comma_at read ts ≡ Ok (x, rest) → WithComma P ts x rest
  unfolding with_comma_at
  comma_sound ts x rest e =
      let (y, first, further) = bind_ok (read ts) (λ (y : A × List Lexeme). symbol_at Comma y.1 >>= λ b. Ok (y.0, b.1)) (x, rest) e in
      let (b, last, given) = bind_ok (symbol_at Comma y.1) (λ (b : ℕ × List Lexeme). Ok (y.0, b.1)) (x, rest) further in
      subst (λ (q : A × List Lexeme). WithComma P ts q.0 q.1) (ok_one (y.0, b.1) (x, rest) given) (with_comma (reads.sound ts y.0 y.1 first) ((symbol_read Comma).sound y.1 b.0 b.1 last))

  comma_complete : {ts rest : List Lexeme} {x : A} → WithComma P ts x rest → with_comma_at read ts ≡ Ok (x, rest)
  unfolding with_comma_at
  comma_complete {ts} {rest} {x} (with_comma {mid = mid} {at = at} d e) = rw (reads.complete ts x mid d (comma mid (symbol_next Comma mid at rest e)), (symbol_read Comma).complete mid at rest e tt)

  comma_shorter : {ts rest : List Lexeme} {x : A} → WithComma P ts x rest → 1 + length rest ≤ length ts
  comma_shorter {ts} {rest} {x} (with_comma {mid = mid} {at = at} d e) = omega (arith, reads.shorter ts x mid d, (symbol_read Comma).shorter mid at rest e)

  pub with_comma_read : IsReadBy 1 (WithComma P) Always (with_comma_at read)
  with_comma_read = record { sound = comma_sound; complete = λ ts x rest d stop. comma_complete d; shorter = λ ts x rest d. comma_shorter d }
