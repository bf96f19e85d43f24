-- Tokens have one expansion at most, and those that have one have no fault.
use Rattle.rbg_base.proofs.Common.{ℕ, ◌≡◌, ◌+◌, ◌<◌, ◌≤◌, List, [], ◌∷◌, ◌++◌, length, Ok, refl, sym, ap, ◌∙◌, arith, length-append, subst, inl, inr, sum_by-append}
use Rattle.rbg_macro.proofs.Common.{MacroError, BadDefinition, Twice, ArgumentCount, Depth, TooManyTokens, BadJoin, Memory, MAX_KEPT, MAX_LEVEL, MAX_READ, Stays, Calls, NoCall, meets, Definitions, Expands, list, Reads, nothing, stays, call, Fails, too_many_read, no_join, reading, FailsReading, too_many_kept, beyond_kept, no_call, too_deep, in_call, after_call, ExpandsAll, none, one_more, FailsAll, here, later, kept, HasSections, HasFault, HasMacroFault, joined, Macro, SectionTokens}
use Rattle.rbg_macro.specs.Token.{Lexeme}

-- a list that expands is joined, and the joined list is read
record IsRead (macros : List Macro) (d : ℕ) (ts us : List Lexeme) (n : ℕ) : Type 0 where
  js : List Lexeme
  spent : ℕ
  joins : joined ts ≡ Ok js
  reads : Reads macros d js us spent
  count : n ≡ length ts + spent

-- a list whose first token stays: how the other tokens are read
record ReadsAfter (macros : List Macro) (d : ℕ) (t : Lexeme) (ts us : List Lexeme) (n : ℕ) : Type 0 where
  beyond : List Lexeme
  reads : Reads macros d ts beyond n
  kept_is : us ≡ t ∷ beyond

-- a list that begins with a call: what the call gives, and how the tokens after it are read
record ReadsCall (macros : List Macro) (d : ℕ) (body rest us : List Lexeme) (n : ℕ) : Type 0 where
  given : List Lexeme
  spent : ℕ
  beyond : List Lexeme
  more : ℕ
  not_deep : d < MAX_LEVEL
  expands : Expands macros (d + 1) body given spent
  reads : Reads macros d rest beyond more
  kept_is : us ≡ given ++ beyond
  count : n ≡ spent + more

is_read : (macros : List Macro) (d : ℕ) (ts us : List Lexeme) (n : ℕ) → Expands macros d ts us n → IsRead macros d ts us n
is_read macros _ _ _ _ (list d ts js us n joins reads) = record { js = js; spent = n; joins = joins; reads = reads; count = refl }

reads_none : (macros : List Macro) (d : ℕ) (us : List Lexeme) (n : ℕ) → Reads macros d [] us n → ([] ≡ us) × (0 ≡ n)
reads_none macros _ _ _ (nothing d) = (refl, refl)

reads_after : (macros : List Macro) (d : ℕ) (t : Lexeme) (ts us : List Lexeme) (n : ℕ) → Reads macros d (t ∷ ts) us n → meets macros t ts ≡ Stays →
    ReadsAfter macros d t ts us n
reads_after macros _ _ _ _ _ (stays d t ts us n met reads) is = record { beyond = us; reads = reads; kept_is = refl }
reads_after macros _ _ _ _ _ (call d t ts body rest vs us k n met not_deep expands reads) is = cc

reads_call : (macros : List Macro) (d : ℕ) (t : Lexeme) (ts us : List Lexeme) (n : ℕ) → Reads macros d (t ∷ ts) us n → (body rest : List Lexeme) → meets macros t ts ≡ Calls body rest →
    ReadsCall macros d body rest us n
reads_call macros _ _ _ _ _ (stays d t ts us n met reads) body rest is = cc
reads_call macros _ _ _ _ _ (call d t ts called beyond vs us k n met not_deep expands reads) body rest is =
    let same_body : called ≡ body = cc (met, is) in
    let same_rest : beyond ≡ rest = cc (met, is) in
    record {
      given = vs;
      spent = k;
      beyond = us;
      more = n;
      not_deep = not_deep;
      expands = rw same_body at expands;
      reads = rw same_rest at reads;
      kept_is = refl;
      count = refl;
    }

reads_no_call : (macros : List Macro) (d : ℕ) (t : Lexeme) (ts us : List Lexeme) (n : ℕ) → Reads macros d (t ∷ ts) us n → meets macros t ts ≡ NoCall → ⊥
reads_no_call macros _ _ _ _ _ (stays d t ts us n met reads) is = cc
reads_no_call macros _ _ _ _ _ (call d t ts called beyond vs us k n met not_deep expands reads) is = cc

mutual
  pub expands_once : (macros : List Macro) (d : ℕ) (ts us : List Lexeme) (n : ℕ) → Expands macros d ts us n →
      (vs : List Lexeme) (m : ℕ) → Expands macros d ts vs m → (us ≡ vs) × (n ≡ m)
  expands_once macros _ _ _ _ (list d ts js us n joins reads) vs m other =
      let o = is_read macros d ts vs m other in
      let same : o.js ≡ js = cc (joins, o.joins) in
      let (kept_same, read_same) = reads_once macros d js us n reads vs o.spent (rw same at o.reads) in
      (kept_same, omega (arith, read_same, o.count))

  reads_once : (macros : List Macro) (d : ℕ) (js us : List Lexeme) (n : ℕ) → Reads macros d js us n →
      (vs : List Lexeme) (m : ℕ) → Reads macros d js vs m → (us ≡ vs) × (n ≡ m)
  reads_once macros _ _ _ _ (nothing d) vs m other = reads_none macros d vs m other
  reads_once macros _ _ _ _ (stays d t ts us n met reads) vs m other =
      let o = reads_after macros d t ts vs m other met in
      let (kept_same, read_same) = reads_once macros d ts us n reads o.beyond m o.reads in
      (ap (λ (xs : List Lexeme). t ∷ xs) kept_same ∙ sym o.kept_is, read_same)
  reads_once macros _ _ _ _ (call d t ts body rest given us k n met not_deep expands reads) vs m other =
      let o = reads_call macros d t ts vs m other body rest met in
      let (given_same, spent_same) = expands_once macros (d + 1) body given k expands o.given o.spent o.expands in
      let (kept_same, read_same) = reads_once macros d rest us n reads o.beyond o.more o.reads in
      let whole : given ++ us ≡ vs = cc (given_same, kept_same, o.kept_is) in
      (whole, omega (arith, spent_same, read_same, o.count))

-- the first of several sections that expand, and the others
record ExpandsFirst (macros : List Macro) (s : SectionTokens) (ss ts : List SectionTokens) (n : ℕ) : Type 0 where
  given : List Lexeme
  spent : ℕ
  beyond : List SectionTokens
  more : ℕ
  expands : Expands macros 0 s.tokens given spent
  others : ExpandsAll macros ss beyond more
  are : ts ≡ record s { tokens = given } ∷ beyond
  count : n ≡ spent + more

expands_none : (macros : List Macro) (ts : List SectionTokens) (n : ℕ) → ExpandsAll macros [] ts n → [] ≡ ts
expands_none macros _ _ none = refl

expands_first : (macros : List Macro) (s : SectionTokens) (ss ts : List SectionTokens) (n : ℕ) → ExpandsAll macros (s ∷ ss) ts n → ExpandsFirst macros s ss ts n
expands_first macros _ _ _ _ (one_more s us m ss ts n expands others) =
    record { given = us; spent = m; beyond = ts; more = n; expands = expands; others = others; are = refl; count = refl }

all_expand_once : (macros : List Macro) (ss ts : List SectionTokens) (n : ℕ) → ExpandsAll macros ss ts n →
    (us : List SectionTokens) (m : ℕ) → ExpandsAll macros ss us m → ts ≡ us
all_expand_once macros _ _ _ none us m other = expands_none macros us m other
all_expand_once macros _ _ _ (one_more s given k ss ts n expands others) us m other =
    let o = expands_first macros s ss us m other in
    let (given_same, spent_same) = expands_once macros 0 s.tokens given k expands o.given o.spent o.expands in
    let after_same = all_expand_once macros ss ts n others o.beyond o.more o.others in
    let first_same : record s { tokens = given } ≡ record s { tokens = o.given } = ap (λ (xs : List Lexeme). let r : SectionTokens = record s { tokens = xs } in r) given_same in
    cc (first_same, after_same, o.are)

-- tokens have the sections of one expansion at most
pub sections_once : (ts : List Lexeme) (a b : List SectionTokens) → HasSections ts a → HasSections ts b → a ≡ b
sections_once ts a b first second =
    let same : second.definitions ≡ first.definitions = cc (first.defined, second.defined) in
    let other : ExpandsAll first.definitions.macros first.definitions.sections b second.expanded.read =
    subst (λ (ds : Definitions). ExpandsAll ds.macros ds.sections b second.expanded.read) same second.expanded.expands in
    all_expand_once first.definitions.macros first.definitions.sections a first.expanded.read first.expanded.expands b second.expanded.read other

-- a list that expands within the limits has no fault
mutual
  pub list_has_no_fault : (macros : List Macro) (d n k : ℕ) (ts : List Lexeme) (e : MacroError) → Fails macros d n k ts e →
      (us : List Lexeme) (m : ℕ) → Expands macros d ts us m → n + m ≤ MAX_READ → k + length us ≤ MAX_KEPT → ⊥
  list_has_no_fault macros _ _ _ _ _ (too_many_read d n k ts over) us m expands read_within kept_within =
      let o = is_read macros d ts us m expands in
      omega (arith, o.count)
  list_has_no_fault macros _ _ _ _ _ (no_join d n k ts e counted joins) us m expands read_within kept_within =
      let o = is_read macros d ts us m expands in
      cc (joins, o.joins)
  list_has_no_fault macros _ _ _ _ _ (reading d n k ts js e counted joins fails) us m expands read_within kept_within =
      let o = is_read macros d ts us m expands in
      let same : o.js ≡ js = cc (joins, o.joins) in
      reading_has_no_fault macros d (n + length ts) k js e fails us o.spent (rw same at o.reads) (omega (arith, o.count)) kept_within

  reading_has_no_fault : (macros : List Macro) (d n k : ℕ) (js : List Lexeme) (e : MacroError) → FailsReading macros d n k js e →
      (us : List Lexeme) (m : ℕ) → Reads macros d js us m → n + m ≤ MAX_READ → k + length us ≤ MAX_KEPT → ⊥
  reading_has_no_fault macros _ _ _ _ _ (too_many_kept d n k t ts met over) us m reads read_within kept_within =
      let o = reads_after macros d t ts us m reads met in
      omega (arith, ap length o.kept_is)
  reading_has_no_fault macros _ _ _ _ _ (beyond_kept d n k t ts e met room fails) us m reads read_within kept_within =
      let o = reads_after macros d t ts us m reads met in
      reading_has_no_fault macros d n (k + 1) ts e fails o.beyond m o.reads read_within (omega (arith, ap length o.kept_is))
  reading_has_no_fault macros _ _ _ _ _ (no_call d n k t ts met) us m reads read_within kept_within = reads_no_call macros d t ts us m reads met
  reading_has_no_fault macros _ _ _ _ _ (too_deep d n k t ts body rest met deep) us m reads read_within kept_within =
      let o = reads_call macros d t ts us m reads body rest met in
      omega (arith, o.not_deep)
  reading_has_no_fault macros _ _ _ _ _ (in_call d n k t ts body rest e met not_deep fails) us m reads read_within kept_within =
      let o = reads_call macros d t ts us m reads body rest met in
      let size = ap length o.kept_is ∙ length-append o.given o.beyond in
      list_has_no_fault macros (d + 1) n k body e fails o.given o.spent o.expands (omega (arith, o.count)) (omega (arith, size))
  reading_has_no_fault macros _ _ _ _ _ (after_call d n k l t ts body rest given e met not_deep expands counted room fails) us m reads read_within kept_within =
      let o = reads_call macros d t ts us m reads body rest met in
      let size = ap length o.kept_is ∙ length-append o.given o.beyond in
      let (given_same, spent_same) = expands_once macros (d + 1) body given l expands o.given o.spent o.expands in
      reading_has_no_fault macros d (n + l) (k + length given) rest e fails o.beyond o.more o.reads
      (omega (arith, o.count, spent_same)) (omega (arith, size, ap length given_same))

kept_first : (s : SectionTokens) (ss : List SectionTokens) → kept (s ∷ ss) ≡ length s.tokens + kept ss
kept_first s ss = sum_by-append (λ (x : SectionTokens). length x.tokens) (s ∷ []) ss ∙ omega arith

all_have_no_fault : (macros : List Macro) (n k : ℕ) (ss : List SectionTokens) (e : MacroError) → FailsAll macros n k ss e →
    (ts : List SectionTokens) (m : ℕ) → ExpandsAll macros ss ts m → n + m ≤ MAX_READ → k + kept ts ≤ MAX_KEPT → ⊥
all_have_no_fault macros _ _ _ _ (here n k s ss e fails) ts m expands read_within kept_within =
    let o = expands_first macros s ss ts m expands in
    let size : kept ts ≡ length o.given + kept o.beyond = ap kept o.are ∙ kept_first (record s { tokens = o.given }) o.beyond in
    list_has_no_fault macros 0 n k s.tokens e fails o.given o.spent o.expands (omega (arith, o.count)) (omega (arith, size))
all_have_no_fault macros _ _ _ _ (later n k l s given ss e expands_first_one counted room fails) ts m expands read_within kept_within =
    let o = expands_first macros s ss ts m expands in
    let size : kept ts ≡ length o.given + kept o.beyond = ap kept o.are ∙ kept_first (record s { tokens = o.given }) o.beyond in
    let (given_same, spent_same) = expands_once macros 0 s.tokens given l expands_first_one o.given o.spent o.expands in
    all_have_no_fault macros (n + l) (k + length given) ss e fails o.beyond o.more o.others
    (omega (arith, o.count, spent_same)) (omega (arith, size, ap length given_same))

-- tokens with sections have no fault
pub sections_have_no_fault : (ts : List Lexeme) (sections : List SectionTokens) (e : MacroError) → HasSections ts sections → HasFault ts e → ⊥
sections_have_no_fault ts sections e has (inl head) = cc (has.defined, head)
sections_have_no_fault ts sections e has (inr fault) =
    let same : has.definitions ≡ fault.definitions = cc (has.defined, fault.defined) in
    let expands : ExpandsAll fault.definitions.macros fault.definitions.sections sections has.expanded.read =
    subst (λ (ds : Definitions). ExpandsAll ds.macros ds.sections sections has.expanded.read) same has.expanded.expands in
    all_have_no_fault fault.definitions.macros 0 0 fault.definitions.sections e fault.fails sections has.expanded.read expands
    (omega (arith, has.expanded.read_within)) (omega (arith, has.expanded.kept_within))

-- so the only error for them is out of memory
pub sections_refused_for_memory : (ts : List Lexeme) (sections : List SectionTokens) → HasSections ts sections → (e : MacroError) → HasMacroFault ts e → e ≡ Memory
sections_refused_for_memory ts sections has (BadDefinition at) fault = absurd (sections_have_no_fault ts sections (BadDefinition at) has fault)
sections_refused_for_memory ts sections has (Twice at) fault = absurd (sections_have_no_fault ts sections (Twice at) has fault)
sections_refused_for_memory ts sections has (ArgumentCount at) fault = absurd (sections_have_no_fault ts sections (ArgumentCount at) has fault)
sections_refused_for_memory ts sections has (Depth at) fault = absurd (sections_have_no_fault ts sections (Depth at) has fault)
sections_refused_for_memory ts sections has TooManyTokens fault = absurd (sections_have_no_fault ts sections TooManyTokens has fault)
sections_refused_for_memory ts sections has (BadJoin at) fault = absurd (sections_have_no_fault ts sections (BadJoin at) has fault)
sections_refused_for_memory ts sections has Memory fault = refl
