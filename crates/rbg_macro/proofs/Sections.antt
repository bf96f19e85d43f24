-- How far the sections were expanded.
use Rattle.rbg_base.proofs.Common.{ℕ, ◌≡◌, ◌+◌, ◌-◌, ◌<◌, ◌≤◌, List, [], ◌∷◌, ◌++◌, length, get_or, drop, map, refl, sym, ap, ◌∙◌, arith, append_assoc, length-append, drop-cons, suc, All-push, All-weaker, sum_by_push, All}
use Rattle.std.proofs.Math.ListN.{drop_of_length-le}
use Rattle.std.proofs.lemmas.List.{append-nil, map-append}
use Rattle.rbg_macro.proofs.Common.{SectionBody, MacroError, TooManyTokens, ExpandedTokens, MAX_READ, SectionSpan, section_of, list, Fails, too_many_read, no_join, reading, ExpandsAll, none, one_more, FailsAll, here, later, kept, ExpandsWithin, UnlessMemory, Macro, section_in, IsSectionWithin, SectionTokens}
use Rattle.rbg_macro.specs.internal.ExpandedTokens.{IsWithinLimits, ReadsJoined, FailsJoined, ReadsSection, no_join as joins_not, reading as fails_reading}
use Rattle.rbg_macro.specs.Token.{Lexeme}
use Rattle.rbg_macro.proofs.Exits.{unless_weaker}
use Rattle.rbg_macro.proofs.Spans.{slice_of_front, slice_of_end}

-- a section that has too many tokens itself
pub section_too_long : (macros : List Macro) (tokens : List Lexeme) (now : ExpandedTokens) → now.read ≤ MAX_READ → MAX_READ - now.read < length tokens →
    Fails macros 0 now.read (length now.kept) tokens TooManyTokens
section_too_long macros tokens now within over = too_many_read 0 now.read (length now.kept) tokens (omega arith)

-- a section's list, counted and read
pub section_read : (macros : List Macro) (s : SectionTokens) (old counted new : ExpandedTokens) (span : SectionSpan) → counted ≡ record old { read = old.read + length s.tokens } →
    ReadsJoined macros 0 s.tokens counted new → span ≡ record { kind = s.kind; at = s.at; start = length old.kept; end = length new.kept } →
    ReadsSection macros s old new span
section_read macros s old counted new span counts reads is = record {
  added = reads.reads.added;
  spent = length s.tokens + reads.reads.spent;
  expands = list 0 s.tokens reads.js reads.reads.added reads.reads.spent reads.joins reads.reads.reads;
  kept = reads.reads.kept ∙ ap (λ (p : ExpandedTokens). p.kept ++ reads.reads.added) counts;
  read = omega (arith, reads.reads.read, ap (λ (p : ExpandedTokens). p.read) counts);
  within = reads.reads.within;
  span_is = is;
}

pub section_fails : (macros : List Macro) (tokens : List Lexeme) (old counted : ExpandedTokens) (e : MacroError) → counted ≡ record old { read = old.read + length tokens } →
    old.read + length tokens ≤ MAX_READ → FailsJoined macros 0 tokens counted e → Fails macros 0 old.read (length old.kept) tokens e
section_fails macros tokens old counted e counts within (joins_not joins) = no_join 0 old.read (length old.kept) tokens e within joins
section_fails macros tokens old counted e counts within (fails_reading js joins f) =
    let read_is : counted.read ≡ old.read + length tokens = ap (λ (p : ExpandedTokens). p.read) counts in
    let kept_is : length counted.kept ≡ length old.kept = ap (λ (p : ExpandedTokens). length p.kept) counts in
    reading 0 old.read (length old.kept) tokens js e within joins (rw (← read_is, ← kept_is) f)

-- The sections up to a place were expanded, and their tokens are in these ranges of the kept tokens. If the other
-- sections expand to something, then all sections expand to the two together, and a fault of the others is a fault of
-- all.
pub record HasExpanded (macros : List Macro) (bodies : List SectionBody) (i : ℕ) (now : ExpandedTokens) (spans : List SectionSpan) : Type 0 where
  pub limits : IsWithinLimits now
  pub places : All (IsSectionWithin (length now.kept)) spans
  pub total : kept (map (section_in now.kept) spans) ≡ length now.kept
  pub expands : (ts : List SectionTokens) (m : ℕ) → ExpandsAll macros (map section_of (drop i bodies)) ts m →
      ExpandsAll macros (map section_of bodies) (map (section_in now.kept) spans ++ ts) (now.read + m)
  pub fails : (e : MacroError) → FailsAll macros now.read (length now.kept) (map section_of (drop i bodies)) e → FailsAll macros 0 0 (map section_of bodies) e

pub none_expanded : (macros : List Macro) (bodies : List SectionBody) (now : ExpandedTokens) (spans : List SectionSpan) → now.read ≡ 0 → now.kept ≡ [] → spans ≡ [] → HasExpanded macros bodies 0 now spans
none_expanded macros bodies now spans no_read no_kept no_spans = record {
  limits = record { read = omega (arith, no_read); kept = omega (arith, ap length no_kept) };
  places = rw no_spans (λ k d below. absurd (omega arith));
  total = rw (no_spans, no_kept) refl;
  expands = λ ts m all. let same : 0 + m ≡ m = omega arith in rw (no_spans, no_read, same) all;
  fails = λ e f. rw (no_read, no_kept) at f;
}

-- the places of sections in a list that grows
same_section : (tokens more : List Lexeme) (s : SectionSpan) → IsSectionWithin (length tokens) s → section_in (tokens ++ more) s ≡ section_in tokens s
same_section tokens more s is =
    ap (λ (ts : List Lexeme). let r : SectionTokens = record { kind = s.kind; at = s.at; tokens = ts } in r) (slice_of_front tokens more s.start s.end is.ordered is.within)

same_sections : (tokens more : List Lexeme) (spans : List SectionSpan) → All (IsSectionWithin (length tokens)) spans → map (section_in (tokens ++ more)) spans ≡ map (section_in tokens) spans
same_sections tokens more [] all = refl
same_sections tokens more (s ∷ spans) all =
    let first = same_section tokens more s (all 0 s (omega arith)) in
    let others = same_sections tokens more spans (λ k d below. all (suc k) d (omega arith)) in
    cc

-- the sections so far, with one more
sections_grown : (kept_before added : List Lexeme) (spans : List SectionSpan) (s : SectionTokens) → All (IsSectionWithin (length kept_before)) spans →
    map (section_in (kept_before ++ added)) (spans ++ record { kind = s.kind; at = s.at; start = length kept_before; end = length (kept_before ++ added) } ∷ []) ≡
    map (section_in kept_before) spans ++ record s { tokens = added } ∷ []
sections_grown kept_before added spans s all =
    map-append (section_in (kept_before ++ added)) spans _
    ∙ ap (λ (ss : List SectionTokens). ss ++ section_in (kept_before ++ added) (record { kind = s.kind; at = s.at; start = length kept_before; end = length (kept_before ++ added) }) ∷ [])
    (same_sections kept_before added spans all)
    ∙ ap (λ (ts : List Lexeme). map (section_in kept_before) spans ++ record s { tokens = ts } ∷ []) (slice_of_end kept_before added)

-- places stay places, and the new one is one
places_grown : (len more : ℕ) (spans : List SectionSpan) (s : SectionSpan) → All (IsSectionWithin len) spans → len ≤ more → s.start ≤ s.end → s.end ≤ more →
    All (IsSectionWithin more) (spans ++ s ∷ [])
places_grown len more spans s all longer ordered within =
    All-push (IsSectionWithin more) spans s
    (All-weaker (IsSectionWithin len) (IsSectionWithin more) (λ x is. record { ordered = is.ordered; within = omega (arith, is.within) }) spans all)
    (record { ordered = ordered; within = within })

pub section_expanded : (macros : List Macro) (bodies : List SectionBody) (i : ℕ) (d : SectionBody) (now new : ExpandedTokens) (spans new_spans : List SectionSpan) (span : SectionSpan) →
    HasExpanded macros bodies i now spans → i < length bodies → ReadsSection macros (section_of (get_or bodies i d)) now new span → new_spans ≡ spans ++ span ∷ [] →
    HasExpanded macros bodies (i + 1) new new_spans
section_expanded macros bodies i d now new spans new_spans span so_far below reads added = record {
  limits = reads.within;
  places =
      rw (added, reads.span_is) (places_grown (length now.kept) (length new.kept) spans _ so_far.places longer longer (omega arith));
  total = rw (all_spans, sum_by_push (λ (x : SectionTokens). length x.tokens) (map (section_in now.kept) spans) (record s { tokens = reads.added }), so_far.total, reads.kept) (sym (length-append now.kept reads.added));
  expands = λ ts m all.
      let one : ExpandsAll macros (map section_of (drop i bodies)) (record s { tokens = reads.added } ∷ ts) (reads.spent + m) =
      rw begins (one_more s reads.added reads.spent (map section_of (drop (i + 1) bodies)) ts m reads.expands all) in
      let whole = so_far.expands (record s { tokens = reads.added } ∷ ts) (reads.spent + m) one in
      let sum : new.read + m ≡ now.read + (reads.spent + m) = omega (arith, reads.read) in
      rw (all_spans, sum, append_assoc (map (section_in now.kept) spans) (record s { tokens = reads.added } ∷ []) ts) whole;
  fails = λ e f.
      let after_it : FailsAll macros (now.read + reads.spent) (length now.kept + length reads.added) (map section_of (drop (i + 1) bodies)) e =
      rw (← reads.read, ← new_len) f in
      so_far.fails e (rw begins (later now.read (length now.kept) reads.spent s reads.added (map section_of (drop (i + 1) bodies)) e reads.expands
      (omega (arith, reads.read, reads.within.read)) (omega (arith, new_len, reads.within.kept)) after_it));
}
  where
    s : SectionTokens
    s = section_of (get_or bodies i d)

    begins : map section_of (drop i bodies) ≡ section_of (get_or bodies i d) ∷ map section_of (drop (i + 1) bodies)
    begins =
        let next : suc i ≡ i + 1 = omega arith in
        ap (map section_of) (drop-cons bodies i d below ∙ ap (λ (n : ℕ). get_or bodies i d ∷ drop n bodies) next)

    new_len : length new.kept ≡ length now.kept + length reads.added
    new_len = ap length reads.kept ∙ length-append now.kept reads.added

    longer : length now.kept ≤ length new.kept
    longer = omega (arith, ap length reads.kept, length-append now.kept reads.added)

    all_spans : map (section_in new.kept) new_spans ≡ map (section_in now.kept) spans ++ record (section_of (get_or bodies i d)) { tokens = reads.added } ∷ []
    all_spans = rw (added, reads.span_is, reads.kept) (sections_grown now.kept reads.added spans (section_of (get_or bodies i d)) so_far.places)

pub section_fault : (macros : List Macro) (bodies : List SectionBody) (i : ℕ) (d : SectionBody) (now : ExpandedTokens) (spans : List SectionSpan) (e : MacroError) →
    HasExpanded macros bodies i now spans → i < length bodies → UnlessMemory (Fails macros 0 now.read (length now.kept) (section_of (get_or bodies i d)).tokens) e →
    UnlessMemory (FailsAll macros 0 0 (map section_of bodies)) e
section_fault macros bodies i d now spans e so_far below fails =
    let begins : map section_of (drop i bodies) ≡ section_of (get_or bodies i d) ∷ map section_of (drop (suc i) bodies) = ap (map section_of) (drop-cons bodies i d below) in
    unless_weaker (Fails macros 0 now.read (length now.kept) (section_of (get_or bodies i d)).tokens) (FailsAll macros 0 0 (map section_of bodies))
    (λ f fault. so_far.fails f (rw begins (here now.read (length now.kept) (section_of (get_or bodies i d)) (map section_of (drop (suc i) bodies)) f fault))) e fails

pub all_expanded : (macros : List Macro) (bodies : List SectionBody) (i : ℕ) (now : ExpandedTokens) (spans : List SectionSpan) → HasExpanded macros bodies i now spans → length bodies ≤ i →
    ExpandsWithin macros (map section_of bodies) (map (section_in now.kept) spans)
all_expanded macros bodies i now spans so_far all = record {
  read = now.read;
  expands =
      let whole = so_far.expands [] 0 (rw (drop_of_length-le bodies all) none) in
      let same : now.read + 0 ≡ now.read = omega arith in
      rw (append-nil (map (section_in now.kept) spans), same) at whole;
  read_within = so_far.limits.read;
  kept_within = omega (arith, so_far.total, so_far.limits.kept);
}
