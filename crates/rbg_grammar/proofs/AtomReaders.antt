-- The readers of atoms without a bracket, and of ons.
use Rattle.std.proofs.Common.{◌≡◌, ◌≤◌, ◌+◌, List, length, Bool, true, false, cond, Some, None, Ok, refl, ◌∙◌, subst, arith}
use Rattle.rbg_macro.proofs.TextCommon.{Lexeme, is_name_kind, is_symbol}
use Rattle.rbg_macro.specs.declared.token.Symbol.TheVariants.{DoubleArrow, Arrow, OpenBrace, CloseBrace}
use Rattle.rbg_macro.specs.declared.token.TokenKind.{TokenKind}
use Rattle.rbg_macro.specs.declared.token.TokenKind.TheVariants as kinds
use Rattle.rbg_grammar.proofs.Common.{SpeltRule, act, shift, switch, IsName, Listed, Within, IsOpenAtom, moves, switches, keeps, Reading, ◌>>=◌, next_is, symbol_at, name_at, listed_at, within_at, open_atom_at}
use Rattle.rbg_grammar.proofs.Readers.{bind_ok, ok_one, IsReadBy, Always, symbol_read, symbol_next, name_read, name_next, next_test-symbol, next_test-name}
use Rattle.rbg_grammar.proofs.Combinators.{EndsList, within_read}
use Rattle.rbg_grammar.proofs.SectionReaders.{name_list_read, ends_list}

open_atom_sound : (ts : List Lexeme) (x : SpeltRule) (rest : List Lexeme) → open_atom_at ts ≡ Ok (x, rest) → IsOpenAtom ts x rest
unfolding open_atom_at
open_atom_sound ts x rest e = first (next_is is_name_kind ts) (next_is (is_symbol Arrow) ts) e
  where
    first : (b c : Bool) → cond {A = Reading SpeltRule} b (name_at ts >>= λ n. Ok (act (shift n.0), n.1))
        (cond c (symbol_at Arrow ts >>= λ at. name_at at.1 >>= λ n. Ok (act (switch at.0 (Some n.0)), n.1)) (symbol_at DoubleArrow ts >>= λ at. Ok (act (switch at.0 None), at.1))) ≡ Ok (x, rest) → IsOpenAtom ts x rest
    first true c e =
        let (n, named, given) = bind_ok _ _ _ e in
        subst (λ (q : SpeltRule × List Lexeme). IsOpenAtom ts q.0 q.1) (ok_one _ (x, rest) given) (moves (name_read.sound ts n.0 n.1 named))
    first false true e =
        let (at, arrow, further) = bind_ok _ _ _ e in
        let (n, named, given) = bind_ok _ _ _ further in
        subst (λ (q : SpeltRule × List Lexeme). IsOpenAtom ts q.0 q.1) (ok_one _ (x, rest) given) (switches ((symbol_read Arrow).sound ts at.0 at.1 arrow) (name_read.sound at.1 n.0 n.1 named))
    first false false e =
        let (at, arrow, given) = bind_ok _ _ _ e in
        subst (λ (q : SpeltRule × List Lexeme). IsOpenAtom ts q.0 q.1) (ok_one _ (x, rest) given) (keeps ((symbol_read DoubleArrow).sound ts at.0 at.1 arrow))

open_atom_complete : {ts rest : List Lexeme} {x : SpeltRule} → IsOpenAtom ts x rest → open_atom_at ts ≡ Ok (x, rest)
unfolding open_atom_at
open_atom_complete {ts} {rest} (moves {n = n} d) = rw (name_next ts n rest d, name_read.complete ts n rest d tt)
open_atom_complete {ts} {rest} (switches {mid = mid} {at = at} {n = n} d e) =
    let here = symbol_next Arrow ts at mid d in
    rw (next_test-symbol Arrow is_name_kind ts here, here, (symbol_read Arrow).complete ts at mid d tt, name_read.complete mid n rest e tt)
open_atom_complete {ts} {rest} (keeps {at = at} d) =
    let here = symbol_next DoubleArrow ts at rest d in
    rw (next_test-symbol DoubleArrow is_name_kind ts here, next_test-symbol DoubleArrow (is_symbol Arrow) ts here, (symbol_read DoubleArrow).complete ts at rest d tt)

open_atom_shorter : {ts rest : List Lexeme} {x : SpeltRule} → IsOpenAtom ts x rest → 1 + length rest ≤ length ts
open_atom_shorter {ts} {rest} (moves {n = n} d) = name_read.shorter ts n rest d
open_atom_shorter {ts} {rest} (switches {mid = mid} {at = at} {n = n} d e) = omega (arith, (symbol_read Arrow).shorter ts at mid d, name_read.shorter mid n rest e)
open_atom_shorter {ts} {rest} (keeps {at = at} d) = (symbol_read DoubleArrow).shorter ts at rest d

pub open_atom_read : IsReadBy 1 IsOpenAtom Always open_atom_at
open_atom_read = record { sound = open_atom_sound; complete = λ ts x rest d stop. open_atom_complete d; shorter = λ ts x rest d. open_atom_shorter d }

-- what kind of token an atom without a bracket begins with
pub open_atom_begins : {ts rest : List Lexeme} {x : SpeltRule} → IsOpenAtom ts x rest → (test : TokenKind → Bool) → test kinds.Name ≡ test (kinds.Symbol Arrow) → test (kinds.Symbol DoubleArrow) ≡ test (kinds.Symbol Arrow) → next_is test ts ≡ test (kinds.Symbol Arrow)
open_atom_begins {ts} {rest} (moves {n = n} d) test same other = next_test-name test ts (name_next ts n rest d) ∙ same
open_atom_begins {ts} {rest} (switches {mid = mid} {at = at} d e) test same other = next_test-symbol Arrow test ts (symbol_next Arrow ts at mid d)
open_atom_begins {ts} {rest} (keeps {at = at} d) test same other = next_test-symbol DoubleArrow test ts (symbol_next DoubleArrow ts at rest d) ∙ other

pub set_read : IsReadBy 1 (Within OpenBrace CloseBrace (Listed IsName)) Always (within_at OpenBrace CloseBrace (listed_at is_name_kind name_at))
set_read = within_read 0 (Listed IsName) (EndsList Always is_name_kind) (listed_at is_name_kind name_at) name_list_read OpenBrace CloseBrace (ends_list CloseBrace refl)
