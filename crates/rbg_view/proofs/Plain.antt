-- Texts in a page have no byte that begins or ends a tag or an attribute.
use Rattle.rbg_base.proofs.Common.{◌≡◌, ℕ, Bool, true, false, ◌&&◌, ◌||◌, not, List, [], ◌∷◌, codes, if◌then◌else◌, refl, ap, ◌∙◌, ◌==◌, list_all}
use Rattle.std.proofs.lemmas.List.Folds.{list_all-append}
use Rattle.rbg_view.specs.Texts.{entity, escaped}
use Rattle.rbg_view.specs.Laws.{is_plain}

plain_by : (amp lt gt quot apos : Bool) (byte : ℕ) → is_plain byte ≡ not (lt || gt || quot || apos) → list_all is_plain (if amp then codes "&amp;" else (if lt then codes "&lt;" else (if gt then codes "&gt;" else (if quot then codes "&quot;" else (if apos then codes "&#39;" else byte ∷ []))))) ≡ true
plain_by true lt gt quot apos byte is = refl
plain_by false true gt quot apos byte is = refl
plain_by false false true quot apos byte is = refl
plain_by false false false true apos byte is = refl
plain_by false false false false true byte is = refl
plain_by false false false false false byte is = ap (λ plain. plain && true) is

plain_entity : (byte : ℕ) → list_all is_plain (entity byte) ≡ true
plain_entity byte = unfold entity in (plain_by (byte == 38) (byte == 60) (byte == 62) (byte == 34) (byte == 39) byte refl)

pub plain_text : (text : List ℕ) → list_all is_plain (escaped text) ≡ true
plain_text [] = refl
plain_text (byte ∷ text) =
    list_all-append is_plain (entity byte) (escaped text)
    ∙ (ap (λ one. one && list_all is_plain (escaped text)) (plain_entity byte) ∙ plain_text text)
