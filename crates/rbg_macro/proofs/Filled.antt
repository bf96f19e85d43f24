-- Bodies with arguments put in, item by item.
use Rattle.rbg_base.proofs.Common.{ℕ, ◌≡◌, ◌+◌, ◌-◌, ◌<◌, ◌≤◌, List, [], ◌∷◌, ◌++◌, length, get_or, take, map, sym, ap, ◌∙◌, arith, flat_map-append, Bor}
use Rattle.std.proofs.lemmas.List.{map-append, take_more, append-nil, length-map, take-map, get_or-map}
use Rattle.std.proofs.lemmas.List.Folds.{length-flat_map-take}
use Rattle.rbg_macro.specs.declared.macros.BodyItem.{BodyItem as KeptItem}
use Rattle.rbg_macro.proofs.Common.{ReadToken, filled, filled_item, item_in, lists_in}
use Rattle.rbg_macro.specs.Token.{Lexeme}

-- the length of the items so far
pub record FilledSoFar (body : List KeptItem) (arguments : List (Bor (List ReadToken))) (i len room : ℕ) : Type 0 where
  pub is : len ≡ length (filled (map item_in (take i body)) (lists_in arguments))
  pub fits : len ≤ room

-- one more item
pub filled-more : (body : List KeptItem) (lists : List (List Lexeme)) (i : ℕ) (d : KeptItem) → i < length body →
    filled (map item_in (take (i + 1) body)) lists ≡ filled (map item_in (take i body)) lists ++ filled_item lists (item_in (get_or body i d))
filled-more body lists i d below =
    ap (λ ps. filled (map item_in ps) lists) (take_more body i d below)
    ∙ ap (λ ps. filled ps lists) (map-append item_in (take i body) (get_or body i d ∷ []))
    ∙ flat_map-append (filled_item lists) (map item_in (take i body)) (item_in (get_or body i d) ∷ [])
    ∙ ap (λ (l : List Lexeme). filled (map item_in (take i body)) lists ++ l) (append-nil (filled_item lists (item_in (get_or body i d))))

-- if one more item doesn't fit, the whole body doesn't
pub too_long : (body : List KeptItem) (arguments : List (Bor (List ReadToken))) (i len room more : ℕ) (d : KeptItem) → FilledSoFar body arguments i len room →
    i < length body → more ≡ length (filled_item (lists_in arguments) (item_in (get_or body i d))) → room - len < more →
    room < length (filled (map item_in body) (lists_in arguments))
too_long body arguments i len room more d so_far below is over =
    let lists : List (List Lexeme) = lists_in arguments in
    let within : i < length (map item_in body) = omega (arith, length-map body item_in) in
    let front = length-flat_map-take (filled_item lists) (map item_in body) i (item_in d) within in
    let same : get_or (map item_in body) i (item_in d) ≡ item_in (get_or body i d) = get_or-map item_in body i d (item_in d) below in
    let here : length (filled_item lists (get_or (map item_in body) i (item_in d))) ≡ more = ap (λ p. length (filled_item lists p)) same ∙ sym is in
    let before : length (filled (take i (map item_in body)) lists) ≡ len = ap (λ ps. length (filled ps lists)) (take-map item_in i body) ∙ sym so_far.is in
    omega (arith, front, here, before, so_far.fits)
