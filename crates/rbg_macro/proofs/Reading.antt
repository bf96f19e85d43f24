-- How far a joined list was read.
use Rattle.std.proofs.Common.{ℕ, ◌≡◌, ◌+◌, ◌<◌, ◌≤◌, List, [], ◌∷◌, ◌++◌, length, get_or, drop, map, refl, sym, ap, ◌∙◌, arith, append_assoc, length-append, length-drop, drop-cons, add-one, Vec, vec_len, Global}
use Rattle.std.proofs.Math.ListN.{drop_of_length-le}
use Rattle.std.proofs.lemmas.List.{append-nil, drop-map, drop-drop, length-map}
use Rattle.rbg_macro.proofs.Common.{MacroError, ExpandedTokens, MAX_KEPT, ReadToken, Stays, meets, Expands, list, Reads, nothing, stays, call, Fails, no_join, reading, FailsReading, too_many_kept, beyond_kept, in_call, after_call, Macro, read_lexeme}
use Rattle.rbg_macro.specs.internal.ExpandedTokens.{IsWithinLimits, ReadsOn, ReadsJoined, FailsJoined, GivesWay, IsTooMany, no_join as joins_not, reading as fails_reading}
use Rattle.rbg_macro.specs.Token.{Lexeme}

-- The list was read up to a place. If the rest expands to something, then the list expands to what was kept, followed
-- by it, and a fault of the rest is a fault of the list.
pub record HasRead (macros : List Macro) (d : ℕ) (tokens : List ReadToken) (at : ℕ) (old now : ExpandedTokens) : Type 0 where
  pub within : at ≤ length tokens
  pub limits : IsWithinLimits now
  pub added : List Lexeme
  pub spent : ℕ
  pub kept : now.kept ≡ old.kept ++ added
  pub read : now.read ≡ old.read + spent
  pub reads : (us : List Lexeme) (m : ℕ) → Reads macros d (map read_lexeme (drop at tokens)) us m → Reads macros d (map read_lexeme tokens) (added ++ us) (spent + m)
  pub fails : (e : MacroError) → FailsReading macros d now.read (length now.kept) (map read_lexeme (drop at tokens)) e → FailsReading macros d old.read (length old.kept) (map read_lexeme tokens) e

-- as many tokens are counted as a list of them has
pub counted_all : (tokens : Vec ReadToken Global) (ls : List Lexeme) (count : ℕ) (old new : ExpandedTokens) → count ≡ vec_len tokens → map read_lexeme tokens.items ≡ ls → new ≡ record old { read = old.read + count } → new ≡ record old { read = old.read + length ls }
counted_all tokens ls count old new size are counted = counted ∙ ap (λ (n : ℕ). record old { read = old.read + n }) (size ∙ tokens.ok.0 ∙ sym (length-map tokens.items read_lexeme) ∙ ap length are)

pub nothing_read : (macros : List Macro) (d : ℕ) (tokens : List ReadToken) (now : ExpandedTokens) → IsWithinLimits now → HasRead macros d tokens 0 now now
nothing_read macros d tokens now limits = record {
  within = omega arith;
  limits = limits;
  added = [];
  spent = 0;
  kept = sym (append-nil now.kept);
  read = omega arith;
  reads = λ us m r. let same : 0 + m ≡ m = omega arith in rw same r;
  fails = λ e f. f;
}

-- the token at a place, and what follows it
next_token : (tokens beyond : List ReadToken) (at : ℕ) (d : ReadToken) → at < length tokens → beyond ≡ drop (at + 1) tokens →
    map read_lexeme (drop at tokens) ≡ read_lexeme (get_or tokens at d) ∷ map read_lexeme beyond
next_token tokens beyond at d below is = ap (map read_lexeme) (drop-cons tokens at d below) ∙ rw (is, add-one) refl

pub token_kept : (macros : List Macro) (l : ℕ) (tokens beyond : List ReadToken) (at : ℕ) (d : ReadToken) (old now new : ExpandedTokens) → HasRead macros l tokens at old now →
    at < length tokens → beyond ≡ drop (at + 1) tokens → meets macros (read_lexeme (get_or tokens at d)) (map read_lexeme beyond) ≡ Stays →
    new ≡ record now { kept = now.kept ++ read_lexeme (get_or tokens at d) ∷ [] } → length now.kept < MAX_KEPT →
    HasRead macros l tokens (at + 1) old new
token_kept macros l tokens beyond at d old now new so_far below is met kept room = record {
  within = omega arith;
  limits = record {
    read = rw kept so_far.limits.read;
    kept = omega (arith, ap (λ (p : ExpandedTokens). length p.kept) kept, length-append now.kept (t ∷ []));
  };
  added = so_far.added ++ t ∷ [];
  spent = so_far.spent;
  kept = ap (λ (p : ExpandedTokens). p.kept) kept ∙ ap (λ (ts : List Lexeme). ts ++ t ∷ []) so_far.kept ∙ append_assoc old.kept so_far.added (t ∷ []);
  read = ap (λ (p : ExpandedTokens). p.read) kept ∙ so_far.read;
  reads = λ us m r.
      let here : Reads macros l (map read_lexeme (drop at tokens)) (t ∷ us) m = rw begins (stays l t (map read_lexeme beyond) us m met (rw is r)) in
      rw (append_assoc so_far.added (t ∷ []) us) (so_far.reads (t ∷ us) m here);
  fails = λ e f.
      let one_more : length new.kept ≡ length now.kept + 1 =
      ap (λ (p : ExpandedTokens). length p.kept) kept ∙ length-append now.kept (t ∷ []) in
      let same_read : new.read ≡ now.read = ap (λ (p : ExpandedTokens). p.read) kept in
      let after_it : FailsReading macros l now.read (length now.kept + 1) (map read_lexeme beyond) e = rw (← one_more, ← same_read, is) f in
      so_far.fails e (rw begins (beyond_kept l now.read (length now.kept) t (map read_lexeme beyond) e met room after_it));
}
  where
    t : Lexeme
    t = read_lexeme (get_or tokens at d)

    begins : map read_lexeme (drop at tokens) ≡ read_lexeme (get_or tokens at d) ∷ map read_lexeme beyond
    begins = next_token tokens beyond at d below is

-- a body that was counted and read expands
body_expands : (macros : List Macro) (d : ℕ) (body : List Lexeme) (counted new : ExpandedTokens) (reads : ReadsJoined macros d body counted new) →
    Expands macros d body reads.reads.added (length body + reads.reads.spent)
body_expands macros d body counted new reads = list d body reads.js reads.reads.added reads.reads.spent reads.joins reads.reads.reads

pub call_read : (macros : List Macro) (l : ℕ) (tokens beyond : List ReadToken) (at n : ℕ) (d : ReadToken) (body : List Lexeme) (old now counted new : ExpandedTokens) → HasRead macros l tokens at old now →
    at < length tokens → beyond ≡ drop (at + 1) tokens →
    GivesWay macros l (read_lexeme (get_or tokens at d)) (map read_lexeme beyond) now.read body n →
    counted ≡ record now { read = now.read + length body } → ReadsJoined macros (l + 1) body counted new →
    HasRead macros l tokens (at + (n + 1)) old new
call_read macros l tokens beyond at n d body old now counted new so_far below is way counts reads = record {
  within = omega (arith, way.within, length-map beyond read_lexeme, ap length is, length-drop (at + 1) tokens);
  limits = reads.reads.within;
  added = so_far.added ++ vs;
  spent = so_far.spent + (length body + reads.reads.spent);
  kept = new_kept ∙ ap (λ (ts : List Lexeme). ts ++ vs) so_far.kept ∙ append_assoc old.kept so_far.added vs;
  read = omega (arith, new_read, so_far.read);
  reads = λ us m r.
      let here : Reads macros l (map read_lexeme (drop at tokens)) (vs ++ us) (length body + reads.reads.spent + m) =
      rw begins (call l t (map read_lexeme beyond) body (drop n (map read_lexeme beyond)) vs us (length body + reads.reads.spent) m way.meets way.not_deep expands (rw further r)) in
      let sum : so_far.spent + (length body + reads.reads.spent) + m ≡ so_far.spent + (length body + reads.reads.spent + m) = omega arith in
      rw (append_assoc so_far.added vs us, sum) (so_far.reads (vs ++ us) (length body + reads.reads.spent + m) here);
  fails = λ e f.
      let read_is : now.read + (length body + reads.reads.spent) ≡ new.read = sym new_read in
      let kept_is : length now.kept + length vs ≡ length new.kept = omega (arith, ap length new_kept, length-append now.kept vs) in
      let after_it : FailsReading macros l (now.read + (length body + reads.reads.spent)) (length now.kept + length vs) (drop n (map read_lexeme beyond)) e =
      rw (read_is, kept_is, further) f in
      so_far.fails e (rw begins (after_call l now.read (length now.kept) (length body + reads.reads.spent) t (map read_lexeme beyond) body (drop n (map read_lexeme beyond)) vs e
      way.meets way.not_deep expands (omega (arith, new_read, reads.reads.within.read)) (omega (arith, kept_is, reads.reads.within.kept)) after_it));
}
  where
    t : Lexeme
    t = read_lexeme (get_or tokens at d)

    vs : List Lexeme
    vs = reads.reads.added

    begins : map read_lexeme (drop at tokens) ≡ read_lexeme (get_or tokens at d) ∷ map read_lexeme beyond
    begins = next_token tokens beyond at d below is

    further : drop n (map read_lexeme beyond) ≡ map read_lexeme (drop (at + (n + 1)) tokens)
    further =
        let place : at + 1 + n ≡ at + (n + 1) = omega arith in
        drop-map read_lexeme n beyond ∙ ap (λ ts. map read_lexeme (drop n ts)) is ∙ ap (map read_lexeme) (drop-drop n (at + 1) tokens)
        ∙ ap (λ (i : ℕ). map read_lexeme (drop i tokens)) place

    expands : Expands macros (l + 1) body reads.reads.added (length body + reads.reads.spent)
    expands = body_expands macros (l + 1) body counted new reads

    new_kept : new.kept ≡ now.kept ++ reads.reads.added
    new_kept = reads.reads.kept ∙ ap (λ (p : ExpandedTokens). p.kept ++ reads.reads.added) counts

    new_read : new.read ≡ now.read + (length body + reads.reads.spent)
    new_read = omega (arith, reads.reads.read, ap (λ (p : ExpandedTokens). p.read) counts)

-- a fault in a call's body
pub call_fails : (macros : List Macro) (l : ℕ) (tokens beyond : List ReadToken) (at n : ℕ) (d : ReadToken) (body : List Lexeme) (old now counted : ExpandedTokens) (e : MacroError) → HasRead macros l tokens at old now →
    at < length tokens → beyond ≡ drop (at + 1) tokens →
    GivesWay macros l (read_lexeme (get_or tokens at d)) (map read_lexeme beyond) now.read body n →
    counted ≡ record now { read = now.read + length body } → FailsJoined macros (l + 1) body counted e →
    FailsReading macros l old.read (length old.kept) (map read_lexeme tokens) e
call_fails macros l tokens beyond at n d body old now counted e so_far below is way counts fails =
    so_far.fails e (rw (next_token tokens beyond at d below is)
    (in_call l now.read (length now.kept) (read_lexeme (get_or tokens at d)) (map read_lexeme beyond) body (drop n (map read_lexeme beyond)) e way.meets way.not_deep (inside fails)))
  where
    inside : FailsJoined macros (l + 1) body counted e → Fails macros (l + 1) now.read (length now.kept) body e
    inside (joins_not joins) = no_join (l + 1) now.read (length now.kept) body e way.counted joins
    inside (fails_reading js joins f) =
        let read_is : counted.read ≡ now.read + length body = ap (λ (p : ExpandedTokens). p.read) counts in
        let kept_is : length counted.kept ≡ length now.kept = ap (λ (p : ExpandedTokens). length p.kept) counts in
        reading (l + 1) now.read (length now.kept) body js e way.counted joins (rw (← read_is, ← kept_is) f)

-- a fault at a token
pub token_fails : (macros : List Macro) (l : ℕ) (tokens beyond : List ReadToken) (at : ℕ) (d : ReadToken) (old now : ExpandedTokens) (e : MacroError) → HasRead macros l tokens at old now →
    at < length tokens → beyond ≡ drop (at + 1) tokens →
    FailsReading macros l now.read (length now.kept) (read_lexeme (get_or tokens at d) ∷ map read_lexeme beyond) e →
    FailsReading macros l old.read (length old.kept) (map read_lexeme tokens) e
token_fails macros l tokens beyond at d old now e so_far below is f = so_far.fails e (rw (next_token tokens beyond at d below is) f)

pub token_too_many : (macros : List Macro) (l : ℕ) (tokens beyond : List ReadToken) (at : ℕ) (d : ReadToken) (old now : ExpandedTokens) (e : MacroError) → HasRead macros l tokens at old now →
    at < length tokens → beyond ≡ drop (at + 1) tokens → meets macros (read_lexeme (get_or tokens at d)) (map read_lexeme beyond) ≡ Stays →
    IsTooMany e (MAX_KEPT ≤ length now.kept) → FailsReading macros l old.read (length old.kept) (map read_lexeme tokens) e
token_too_many macros l tokens beyond at d old now e so_far below is met many =
    token_fails macros l tokens beyond at d old now e so_far below is
    (rw many.is (too_many_kept l now.read (length now.kept) (read_lexeme (get_or tokens at d)) (map read_lexeme beyond) met many.holds))

pub all_read : (macros : List Macro) (l : ℕ) (tokens : List ReadToken) (at : ℕ) (old now : ExpandedTokens) → HasRead macros l tokens at old now → length tokens ≤ at →
    ReadsOn macros l (map read_lexeme tokens) old now
all_read macros l tokens at old now so_far all = record {
  added = so_far.added;
  spent = so_far.spent;
  reads =
      let none : drop at tokens ≡ [] = drop_of_length-le tokens all in
      let same : so_far.spent + 0 ≡ so_far.spent = omega arith in
      let whole = so_far.reads [] 0 (rw none (nothing l)) in
      rw (append-nil so_far.added, same) at whole;
  kept = so_far.kept;
  read = so_far.read;
  within = so_far.limits;
}
