-- The section of the board is found, or there is none.
use Rattle.rbg_base.proofs.Common.{◌≡◌, ℕ, ◌+◌, ◌-◌, ◌<◌, List, ◌++◌, length, get_or, map, take, drop, sym, ap, subst, ◌∙◌, arith, get_or_default, length-map}
use Rattle.rbg_macro.proofs.TextCommon.{HasTokens, Lexeme, lexeme_of}
use Rattle.rbg_macro.specs.declared.token.Token.{Token}
use Rattle.rbg_position.specs.Boards.{BeginsBoard, IsBoardSection, IsRewritten}
use Rattle.rbg_position.proofs.Tokens.{at_token, token_within}
use Rattle.rbg_position.proofs.new_text.rewritten.Goals as goal

made : (text section new : List ℕ) (tokens : List Lexeme) (ts : List Token) (start end : ℕ) (d e f : Token) → map lexeme_of ts ≡ tokens → HasTokens text tokens → IsBoardSection (map lexeme_of ts) start end
    → new ≡ take (get_or ts start d).at text ++ section ++ drop ((get_or ts (end - 1) e).at + length (get_or ts (end - 1) f).text.now) text → IsRewritten text section new
made text section new tokens ts start end d e f same cut section_is is =
    let first_within = token_within ts start section_is.begins.hash section_is.begins.at_hash in
    let last_within : end - 1 < length ts = omega (arith, section_is.after, section_is.within, length-map ts lexeme_of) in
    record {
      tokens = map lexeme_of ts;
      cut = subst (HasTokens text) (sym same) cut;
      start = start;
      end = end;
      is_section = section_is;
      first = lexeme_of (get_or ts start d);
      last = lexeme_of (get_or ts (end - 1) e);
      at_first = at_token ts start d first_within;
      at_last = at_token ts (end - 1) e last_within;
      is = is ∙ ap (λ (t : Token). take (get_or ts start d).at text ++ section ++ drop ((get_or ts (end - 1) e).at + length t.text.now) text) (get_or_default ts (end - 1) f e last_within);
    }

pub returns-in_ok-new-in-Some-clause-found : goal.returns-in_ok-new-in-Some-clause-found
returns-in_ok-new-in-Some-clause-found c =
    made c.args.text.now c.args.section.now _ c.args.tokens.now c.as_slice-tokens.result.now c.in-Some.start c.find_end-last.result _ _ _ c.as_slice-tokens.ensures.tokens c.requires c.find_end-last.ensures c.in_ok-new-in-Some.ensures

pub returns-in-None-clause-none : goal.returns-in-None-clause-none
returns-in-None-clause-none c = record {
  tokens = c.args.tokens.now;
  cut = c.requires;
  none = λ at b. c.in-None.ensures.none at (subst (λ ts. BeginsBoard ts at) (sym c.as_slice-tokens.ensures.tokens) b);
}
