-- The expansion of sections, and the first fault if there is none within the limits.
use Rattle.std.specs.Prelude.{ℕ, ◌≡◌, ◌+◌, ◌<◌, ◌≤◌, List, [], ◌∷◌, ◌++◌, length, sum_by, ◌⊎◌, Ok, Err}
use Rattle.rbg_macro.specs.declared.error.MacroError.{MacroError}
use Rattle.rbg_macro.specs.declared.error.MacroError.TheVariants.{ArgumentCount, Depth, TooManyTokens}
use Rattle.rbg_macro.specs.Limits.{most_kept, deepest_level, most_read}
use Rattle.rbg_macro.specs.Call.{Stays, Calls, NoCall, meets}
use Rattle.rbg_macro.specs.Definition.{Definitions, definitions_of}
use Rattle.rbg_macro.specs.Errors.{UnlessMemory}
use Rattle.rbg_macro.specs.Joining.{joined}
use Rattle.rbg_macro.specs.Macro.{Macro}
use Rattle.rbg_macro.specs.Token.{Lexeme}
use Rattle.rbg_macro.specs.Sections.{SectionTokens}

-- `Expands macros d ts us n`: the list `ts` of level `d` expands to `us`, while `n` tokens are read.
-- `Reads macros d js us n`: the joined list `js` of level `d` is read to its end, which gives `us`, while `n` tokens
-- are read below it.
mutual
  pub data Expands (macros : List Macro) : ℕ → List Lexeme → List Lexeme → ℕ → Type 0 where
    list : (d : ℕ) (ts js us : List Lexeme) (n : ℕ) →
        joined ts ≡ Ok js → Reads macros d js us n → Expands macros d ts us (length ts + n)

  pub data Reads (macros : List Macro) : ℕ → List Lexeme → List Lexeme → ℕ → Type 0 where
    nothing : (d : ℕ) → Reads macros d [] [] 0
    stays : (d : ℕ) (t : Lexeme) (ts us : List Lexeme) (n : ℕ) →
        meets macros t ts ≡ Stays → Reads macros d ts us n → Reads macros d (t ∷ ts) (t ∷ us) n
    call : (d : ℕ) (t : Lexeme) (ts body rest vs us : List Lexeme) (k n : ℕ) →
        meets macros t ts ≡ Calls body rest → d < deepest_level → Expands macros (d + 1) body vs k →
        Reads macros d rest us n → Reads macros d (t ∷ ts) (vs ++ us) (k + n)

-- `Fails macros d n k ts e`: if `n` tokens were read and `k` were kept before, `e` is the first fault that the
-- expansion of the list `ts` of level `d` meets. `FailsReading` is the same for a joined list, which was counted
-- already.
mutual
  pub data Fails (macros : List Macro) : ℕ → ℕ → ℕ → List Lexeme → MacroError → Type 0 where
    too_many_read : (d n k : ℕ) (ts : List Lexeme) → most_read < n + length ts → Fails macros d n k ts TooManyTokens
    no_join : (d n k : ℕ) (ts : List Lexeme) (e : MacroError) →
        n + length ts ≤ most_read → joined ts ≡ Err e → Fails macros d n k ts e
    reading : (d n k : ℕ) (ts js : List Lexeme) (e : MacroError) →
        n + length ts ≤ most_read → joined ts ≡ Ok js → FailsReading macros d (n + length ts) k js e →
        Fails macros d n k ts e

  pub data FailsReading (macros : List Macro) : ℕ → ℕ → ℕ → List Lexeme → MacroError → Type 0 where
    too_many_kept : (d n k : ℕ) (t : Lexeme) (ts : List Lexeme) →
        meets macros t ts ≡ Stays → most_kept ≤ k → FailsReading macros d n k (t ∷ ts) TooManyTokens
    beyond_kept : (d n k : ℕ) (t : Lexeme) (ts : List Lexeme) (e : MacroError) →
        meets macros t ts ≡ Stays → k < most_kept → FailsReading macros d n (k + 1) ts e →
        FailsReading macros d n k (t ∷ ts) e
    no_call : (d n k : ℕ) (t : Lexeme) (ts : List Lexeme) →
        meets macros t ts ≡ NoCall → FailsReading macros d n k (t ∷ ts) (ArgumentCount t.at)
    too_deep : (d n k : ℕ) (t : Lexeme) (ts body rest : List Lexeme) →
        meets macros t ts ≡ Calls body rest → deepest_level ≤ d → FailsReading macros d n k (t ∷ ts) (Depth t.at)
    in_call : (d n k : ℕ) (t : Lexeme) (ts body rest : List Lexeme) (e : MacroError) →
        meets macros t ts ≡ Calls body rest → d < deepest_level → Fails macros (d + 1) n k body e →
        FailsReading macros d n k (t ∷ ts) e
    after_call : (d n k m : ℕ) (t : Lexeme) (ts body rest us : List Lexeme) (e : MacroError) →
        meets macros t ts ≡ Calls body rest → d < deepest_level → Expands macros (d + 1) body us m →
        n + m ≤ most_read → k + length us ≤ most_kept → FailsReading macros d (n + m) (k + length us) rest e →
        FailsReading macros d n k (t ∷ ts) e

-- the sections with their expansions in place of their own tokens, and how many tokens are read for all of them
pub data ExpandsAll (macros : List Macro) : List SectionTokens → List SectionTokens → ℕ → Type 0 where
  none : ExpandsAll macros [] [] 0
  one_more : (s : SectionTokens) (us : List Lexeme) (m : ℕ) (ss ts : List SectionTokens) (n : ℕ) →
      Expands macros 0 s.tokens us m → ExpandsAll macros ss ts n →
      ExpandsAll macros (s ∷ ss) (record s { tokens = us } ∷ ts) (m + n)

-- the first fault that the sections meet, in order of the text
pub data FailsAll (macros : List Macro) : ℕ → ℕ → List SectionTokens → MacroError → Type 0 where
  here : (n k : ℕ) (s : SectionTokens) (ss : List SectionTokens) (e : MacroError) →
      Fails macros 0 n k s.tokens e → FailsAll macros n k (s ∷ ss) e
  later : (n k m : ℕ) (s : SectionTokens) (us : List Lexeme) (ss : List SectionTokens) (e : MacroError) →
      Expands macros 0 s.tokens us m → n + m ≤ most_read → k + length us ≤ most_kept →
      FailsAll macros (n + m) (k + length us) ss e → FailsAll macros n k (s ∷ ss) e

-- how many tokens sections have together
abbrev pub kept : List SectionTokens → ℕ
kept sections = sum_by (λ s. length s.tokens) sections

-- the sections expand to these, within the limits on the tokens that are read and kept
pub record ExpandsWithin (macros : List Macro) (sections expanded : List SectionTokens) : Type 0 where
  pub read : ℕ
  pub expands : ExpandsAll macros sections expanded read
  pub read_within : read ≤ most_read
  pub kept_within : kept expanded ≤ most_kept

-- the tokens define sections and macros, and these are the sections' expansions
pub record HasSections (ts : List Lexeme) (sections : List SectionTokens) : Type 0 where
  pub definitions : Definitions
  pub defined : definitions_of ts ≡ Ok definitions
  pub expanded : ExpandsWithin definitions.macros definitions.sections sections

-- no head is faulty, and this is the first fault of the sections
pub record HasExpansionFault (ts : List Lexeme) (e : MacroError) : Type 0 where
  pub definitions : Definitions
  pub defined : definitions_of ts ≡ Ok definitions
  pub fails : FailsAll definitions.macros 0 0 definitions.sections e

-- a head is faulty, or the expansion is
abbrev pub HasFault : List Lexeme → MacroError → Type 0
HasFault ts e = (definitions_of ts ≡ Err e) ⊎ HasExpansionFault ts e

-- memory may run out anywhere
abbrev pub HasMacroFault : List Lexeme → MacroError → Type 0
HasMacroFault ts = UnlessMemory (HasFault ts)
