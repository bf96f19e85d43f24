-- There is no `#` before this index.
use Rattle.std.proofs.Common.{◌≡◌, ℕ, ◌+◌, ◌<◌, ◌≤◌, false, map, slice_get, Some}
use Rattle.rbg_macro.proofs.TextCommon.{is_symbol, Lexeme, lexeme_of}
use Rattle.rbg_macro.specs.declared.token.Symbol.TheVariants as symbols
use Rattle.rbg_position.proofs.new_text.find_end.Given as goal

abbrev pub invariant-loop-end : goal.invariant-loop-end
invariant-loop-end l =
    (k : ℕ) (token : Lexeme) →
    l.start + 2 ≤ k →
    k < l.end →
    slice_get (map lexeme_of l.tokens) k ≡ Some token → is_symbol symbols.Hash token.kind ≡ false
