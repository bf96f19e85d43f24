-- Tokens have one first fault at most.
use Rattle.std.proofs.Common.{ℕ, ◌≡◌, ◌≢◌, ◌+◌, ◌<◌, ◌≤◌, List, ◌∷◌, length, Ok, Err, refl, arith, subst, inl, inr}
use Rattle.rbg_macro.proofs.Common.{MacroError, BadDefinition, Twice, ArgumentCount, Depth, TooManyTokens, BadJoin, Memory, MAX_KEPT, MAX_LEVEL, MAX_READ, Stays, Calls, NoCall, meets, Definitions, Expands, Fails, too_many_read, no_join, reading, FailsReading, too_many_kept, beyond_kept, no_call, too_deep, in_call, after_call, FailsAll, here, later, HasFault, HasMacroFault, joined, Macro, SectionTokens}
use Rattle.rbg_macro.specs.Token.{Lexeme}
use Rattle.rbg_macro.proofs.OneExpansion.{expands_once, list_has_no_fault}

-- a list that has a fault: it isn't counted, isn't joined, or its joined list has the fault
data FailsAs (macros : List Macro) (d n k : ℕ) (ts : List Lexeme) (e : MacroError) : Type 0 where
  uncounted : MAX_READ < n + length ts → TooManyTokens ≡ e → FailsAs macros d n k ts e
  unjoined : n + length ts ≤ MAX_READ → joined ts ≡ Err e → FailsAs macros d n k ts e
  unread : (js : List Lexeme) → n + length ts ≤ MAX_READ → joined ts ≡ Ok js → FailsReading macros d (n + length ts) k js e → FailsAs macros d n k ts e

fails_as : (macros : List Macro) (d n k : ℕ) (ts : List Lexeme) (e : MacroError) → Fails macros d n k ts e → FailsAs macros d n k ts e
fails_as macros _ _ _ _ _ (too_many_read d n k ts over) = uncounted over refl
fails_as macros _ _ _ _ _ (no_join d n k ts e counted joins) = unjoined counted joins
fails_as macros _ _ _ _ _ (reading d n k ts js e counted joins fails) = unread js counted joins fails

-- a fault at or after a first token that stays
data FailsStaying (macros : List Macro) (d n k : ℕ) (ts : List Lexeme) (e : MacroError) : Type 0 where
  full : MAX_KEPT ≤ k → TooManyTokens ≡ e → FailsStaying macros d n k ts e
  beyond : k < MAX_KEPT → FailsReading macros d n (k + 1) ts e → FailsStaying macros d n k ts e

fails_staying : (macros : List Macro) (d n k : ℕ) (t : Lexeme) (ts : List Lexeme) (e : MacroError) → FailsReading macros d n k (t ∷ ts) e → meets macros t ts ≡ Stays →
    FailsStaying macros d n k ts e
fails_staying macros _ _ _ _ _ _ (too_many_kept d n k t ts met over) is = full over refl
fails_staying macros _ _ _ _ _ _ (beyond_kept d n k t ts e met room fails) is = beyond room fails
fails_staying macros _ _ _ _ _ _ (no_call d n k t ts met) is = cc
fails_staying macros _ _ _ _ _ _ (too_deep d n k t ts body rest met deep) is = cc
fails_staying macros _ _ _ _ _ _ (in_call d n k t ts body rest e met not_deep fails) is = cc
fails_staying macros _ _ _ _ _ _ (after_call d n k l t ts body rest given e met not_deep expands counted room fails) is = cc

fails_no_call : (macros : List Macro) (d n k : ℕ) (t : Lexeme) (ts : List Lexeme) (e : MacroError) → FailsReading macros d n k (t ∷ ts) e → meets macros t ts ≡ NoCall →
    ArgumentCount t.at ≡ e
fails_no_call macros _ _ _ _ _ _ (too_many_kept d n k t ts met over) is = cc
fails_no_call macros _ _ _ _ _ _ (beyond_kept d n k t ts e met room fails) is = cc
fails_no_call macros _ _ _ _ _ _ (no_call d n k t ts met) is = refl
fails_no_call macros _ _ _ _ _ _ (too_deep d n k t ts body rest met deep) is = cc
fails_no_call macros _ _ _ _ _ _ (in_call d n k t ts body rest e met not_deep fails) is = cc
fails_no_call macros _ _ _ _ _ _ (after_call d n k l t ts body rest given e met not_deep expands counted room fails) is = cc

-- a fault at, in or after a call
data FailsCall (macros : List Macro) (d n k at : ℕ) (body rest : List Lexeme) (e : MacroError) : Type 0 where
  deep : MAX_LEVEL ≤ d → Depth at ≡ e → FailsCall macros d n k at body rest e
  inside : d < MAX_LEVEL → Fails macros (d + 1) n k body e → FailsCall macros d n k at body rest e
  beyond : (given : List Lexeme) (spent : ℕ) → d < MAX_LEVEL → Expands macros (d + 1) body given spent → n + spent ≤ MAX_READ → k + length given ≤ MAX_KEPT →
      FailsReading macros d (n + spent) (k + length given) rest e → FailsCall macros d n k at body rest e

fails_call : (macros : List Macro) (d n k : ℕ) (t : Lexeme) (ts : List Lexeme) (e : MacroError) → FailsReading macros d n k (t ∷ ts) e → (body rest : List Lexeme) → meets macros t ts ≡ Calls body rest →
    FailsCall macros d n k t.at body rest e
fails_call macros _ _ _ _ _ _ (too_many_kept d n k t ts met over) body rest is = cc
fails_call macros _ _ _ _ _ _ (beyond_kept d n k t ts e met room fails) body rest is = cc
fails_call macros _ _ _ _ _ _ (no_call d n k t ts met) body rest is = cc
fails_call macros _ _ _ _ _ _ (too_deep d n k t ts called left met is_deep) body rest is = deep is_deep refl
fails_call macros _ _ _ _ _ _ (in_call d n k t ts called left e met not_deep fails) body rest is =
    let same : called ≡ body = cc (met, is) in
    inside not_deep (subst (λ (xs : List Lexeme). Fails macros (d + 1) n k xs e) same fails)
fails_call macros _ _ _ _ _ _ (after_call d n k l t ts called left given e met not_deep expands counted room fails) body rest is =
    let same_body : called ≡ body = cc (met, is) in
    let same_rest : left ≡ rest = cc (met, is) in
    beyond given l not_deep (subst (λ (xs : List Lexeme). Expands macros (d + 1) xs given l) same_body expands) counted room
    (subst (λ (xs : List Lexeme). FailsReading macros d (n + l) (k + length given) xs e) same_rest fails)

-- a list has one first fault at most
mutual
  list_fails_once : (macros : List Macro) (d n k : ℕ) (ts : List Lexeme) (e : MacroError) → Fails macros d n k ts e → (f : MacroError) → Fails macros d n k ts f → e ≡ f
  list_fails_once macros _ _ _ _ _ (too_many_read d n k ts over) f other =
      elim (fails_as macros d n k ts f other) [
        | uncounted over' is ↦ is
        | unjoined counted joins ↦ absurd (omega arith)
        | unread js counted joins fails ↦ absurd (omega arith)
      ]
  list_fails_once macros _ _ _ _ _ (no_join d n k ts e counted joins) f other =
      elim (fails_as macros d n k ts f other) [
        | uncounted over is ↦ absurd (omega arith)
        | unjoined counted' joins' ↦ cc (joins, joins')
        | unread js counted' joins' fails ↦ absurd (cc (joins, joins'))
      ]
  list_fails_once macros _ _ _ _ _ (reading d n k ts js e counted joins fails) f other =
      elim (fails_as macros d n k ts f other) [
        | uncounted over is ↦ absurd (omega arith)
        | unjoined counted' joins' ↦ absurd (cc (joins, joins'))
        | unread js' counted' joins' fails' ↦
            let same : js' ≡ js = cc (joins, joins') in
            reading_fails_once macros d (n + length ts) k js e fails f (subst (λ (xs : List Lexeme). FailsReading macros d (n + length ts) k xs f) same fails')
      ]

  reading_fails_once : (macros : List Macro) (d n k : ℕ) (js : List Lexeme) (e : MacroError) → FailsReading macros d n k js e → (f : MacroError) → FailsReading macros d n k js f → e ≡ f
  reading_fails_once macros _ _ _ _ _ (too_many_kept d n k t ts met over) f other =
      elim (fails_staying macros d n k t ts f other met) [
        | full over' is ↦ is
        | beyond room fails ↦ absurd (omega arith)
      ]
  reading_fails_once macros _ _ _ _ _ (beyond_kept d n k t ts e met room fails) f other =
      elim (fails_staying macros d n k t ts f other met) [
        | full over is ↦ absurd (omega arith)
        | beyond room' fails' ↦ reading_fails_once macros d n (k + 1) ts e fails f fails'
      ]
  reading_fails_once macros _ _ _ _ _ (no_call d n k t ts met) f other = fails_no_call macros d n k t ts f other met
  reading_fails_once macros _ _ _ _ _ (too_deep d n k t ts body rest met is_deep) f other =
      elim (fails_call macros d n k t ts f other body rest met) [
        | deep deep' is ↦ is
        | inside not_deep fails ↦ absurd (omega arith)
        | beyond given spent not_deep expands counted room fails ↦ absurd (omega arith)
      ]
  reading_fails_once macros _ _ _ _ _ (in_call d n k t ts body rest e met not_deep fails) f other =
      elim (fails_call macros d n k t ts f other body rest met) [
        | deep is_deep is ↦ absurd (omega arith)
        | inside not_deep' fails' ↦ list_fails_once macros (d + 1) n k body e fails f fails'
        | beyond given spent not_deep' expands counted room fails' ↦
            absurd (list_has_no_fault macros (d + 1) n k body e fails given spent expands counted room)
      ]
  reading_fails_once macros _ _ _ _ _ (after_call d n k l t ts body rest given e met not_deep expands counted room fails) f other =
      elim (fails_call macros d n k t ts f other body rest met) [
        | deep is_deep is ↦ absurd (omega arith)
        | inside not_deep' fails' ↦ absurd (list_has_no_fault macros (d + 1) n k body f fails' given l expands counted room)
        | beyond given' spent' not_deep' expands' counted' room' fails' ↦
            let (given_same, spent_same) = expands_once macros (d + 1) body given' spent' expands' given l expands in
            let moved : FailsReading macros d (n + l) (k + length given) rest f = rw (given_same, spent_same) at fails' in
            reading_fails_once macros d (n + l) (k + length given) rest e fails f moved
      ]

-- the first fault of several sections: in the first one, or in the others
data FailsFirst (macros : List Macro) (n k : ℕ) (s : SectionTokens) (ss : List SectionTokens) (e : MacroError) : Type 0 where
  in_first : Fails macros 0 n k s.tokens e → FailsFirst macros n k s ss e
  in_others : (given : List Lexeme) (spent : ℕ) → Expands macros 0 s.tokens given spent → n + spent ≤ MAX_READ → k + length given ≤ MAX_KEPT →
      FailsAll macros (n + spent) (k + length given) ss e → FailsFirst macros n k s ss e

fails_first : (macros : List Macro) (n k : ℕ) (s : SectionTokens) (ss : List SectionTokens) (e : MacroError) → FailsAll macros n k (s ∷ ss) e → FailsFirst macros n k s ss e
fails_first macros _ _ _ _ _ (here n k s ss e fails) = in_first fails
fails_first macros _ _ _ _ _ (later n k l s given ss e expands counted room fails) = in_others given l expands counted room fails

all_fail_once : (macros : List Macro) (n k : ℕ) (ss : List SectionTokens) (e : MacroError) → FailsAll macros n k ss e → (f : MacroError) → FailsAll macros n k ss f → e ≡ f
all_fail_once macros _ _ _ _ (here n k s ss e fails) f other =
    elim (fails_first macros n k s ss f other) [
      | in_first fails' ↦ list_fails_once macros 0 n k s.tokens e fails f fails'
      | in_others given spent expands counted room fails' ↦ absurd (list_has_no_fault macros 0 n k s.tokens e fails given spent expands counted room)
    ]
all_fail_once macros _ _ _ _ (later n k l s given ss e expands counted room fails) f other =
    elim (fails_first macros n k s ss f other) [
      | in_first fails' ↦ absurd (list_has_no_fault macros 0 n k s.tokens f fails' given l expands counted room)
      | in_others given' spent' expands' counted' room' fails' ↦
          let (given_same, spent_same) = expands_once macros 0 s.tokens given' spent' expands' given l expands in
          let moved : FailsAll macros (n + l) (k + length given) ss f = rw (given_same, spent_same) at fails' in
          all_fail_once macros (n + l) (k + length given) ss e fails f moved
    ]

-- tokens have one first fault at most
pub fault_once : (ts : List Lexeme) (e f : MacroError) → HasFault ts e → HasFault ts f → e ≡ f
fault_once ts e f (inl head) (inl head') = cc (head, head')
fault_once ts e f (inl head) (inr fault) = absurd (cc (head, fault.defined))
fault_once ts e f (inr fault) (inl head) = absurd (cc (head, fault.defined))
fault_once ts e f (inr fault) (inr fault') =
    let same : fault'.definitions ≡ fault.definitions = cc (fault.defined, fault'.defined) in
    let moved : FailsAll fault.definitions.macros 0 0 fault.definitions.sections f =
    subst (λ (ds : Definitions). FailsAll ds.macros 0 0 ds.sections f) same fault'.fails in
    all_fail_once fault.definitions.macros 0 0 fault.definitions.sections e fault.fails f moved

-- the fault that an error other than out of memory means
fault_of : (ts : List Lexeme) (e : MacroError) → HasMacroFault ts e → e ≢ Memory → HasFault ts e
fault_of ts (BadDefinition at) fault other = fault
fault_of ts (Twice at) fault other = fault
fault_of ts (ArgumentCount at) fault other = fault
fault_of ts (Depth at) fault other = fault
fault_of ts TooManyTokens fault other = fault
fault_of ts (BadJoin at) fault other = fault
fault_of ts Memory fault other = absurd (other refl)

pub error_once : (ts : List Lexeme) (e f : MacroError) → HasMacroFault ts e → HasMacroFault ts f → e ≢ Memory → f ≢ Memory → e ≡ f
error_once ts e f one other not_memory not_memory' = fault_once ts e f (fault_of ts e one not_memory) (fault_of ts f other not_memory')
