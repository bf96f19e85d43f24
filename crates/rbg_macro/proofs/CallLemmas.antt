-- Calls of macros with parameters, as the code finds them.
use Rattle.rbg_base.proofs.Common.{ℕ, ◌≡◌, ◌+◌, ◌≤◌, true, false, nat_eq, List, [], ◌∷◌, length, drop, map, Some, refl, sym, ap, ◌∙◌, arith, add-one, nat_tests}
use Rattle.rbg_macro.proofs.Common.{Template, arguments, Calls, met, meets, called, AreArguments, IsCall, begins_with_parenthesis, Macro, filled, item_in, macro_of, IsNamed}
use Rattle.rbg_macro.specs.Token.{Lexeme}

called_with : (m : Macro) (beyond rest : List Lexeme) (lists : List (List Lexeme)) (n : ℕ) → begins_with_parenthesis beyond ≡ true → rest ≡ drop 1 beyond →
    AreArguments rest lists n → length lists ≡ m.parameters → called m beyond ≡ Calls (filled m.body lists) (drop (n + 1) beyond)
called_with m [] rest lists n opens is found many = cc
called_with m (t ∷ ts) rest lists n opens is found many =
    let arguments_are : arguments 0 ts ≡ Some found.found = ap (arguments 0) (sym is) ∙ found.is_found in
    let size : length (found.found.first ∷ found.found.others) ≡ m.parameters = ap length (sym found.are) ∙ many in
    let enough : nat_eq (length (found.found.first ∷ found.found.others)) m.parameters ≡ true = grind (arith, nat_tests) in
    let left : found.found.rest ≡ drop n ts = found.rest ∙ ap (drop n) is in
    rw (opens, arguments_are, enough, ← found.are, left, add-one) refl

pub call_meets : (template : Template) (name : List ℕ) (beyond : List Lexeme) (rest : List Lexeme) (lists : List (List Lexeme)) (n : ℕ) →
    (template.parameters ≡ 0 → ⊥) → begins_with_parenthesis beyond ≡ true → rest ≡ drop 1 beyond →
    AreArguments rest lists n → length lists ≡ template.parameters →
    met (Some (macro_of name template)) beyond ≡ Calls (filled (map item_in template.body.items) lists) (drop (n + 1) beyond)
call_meets template name beyond rest lists n some opens is_rest found many =
    let none : nat_eq template.parameters 0 ≡ false = grind (arith, nat_tests) in
    rw none (called_with (macro_of name template) beyond rest lists n opens is_rest found many)

pub call_within : (beyond rest : List Lexeme) (lists : List (List Lexeme)) (n : ℕ) → begins_with_parenthesis beyond ≡ true → rest ≡ drop 1 beyond → AreArguments rest lists n → n + 1 ≤ length beyond
call_within [] rest lists n opens is found = cc
call_within (t ∷ ts) rest lists n opens is found = omega (arith, found.within, ap length is)

-- the call of a macro that a token names
pub named_call : (macros : List Macro) (t : Lexeme) (template : Template) (ts : List Lexeme) (lists : List (List Lexeme)) (n : ℕ) →
    IsNamed macros t template → IsCall template ts lists n → meets macros t ts ≡ Calls (filled (map item_in template.body.items) lists) (drop n ts)
named_call macros t template ts lists n named is = ap (λ m. met m ts) named.named ∙ is.meets named.name
