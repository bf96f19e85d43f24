-- Marks: a look-up by name gives a number, and the number gives the macro's template.
use Rattle.rbg_base.proofs.Common.{ℕ, ◌≡◌, ◌+◌, ◌-◌, ◌<◌, ◌≤◌, true, List, [], ◌∷◌, ◌++◌, length, get_or, take, drop, map, Option, None, Some, is_some, MatchOption, slice_get, refl, sym, subst, ap, ◌∙◌, zero, suc, All-push, All-take, All-drop, All-nil, All-cons, All-head, All-tail, All-get_or, get_or_from_slice_get, slice_get_within, Bor, All, AllZip, slice_range, bytes_eq}
use Rattle.std.proofs.lemmas.List.{take_more, take_all, map-append, length-append}
use Rattle.std.specs.Map.{lookup}
use Rattle.rbg_base.proofs.CallerLemmas.{AllZip-push_one, none_of_not_some}
use Rattle.rbg_macro.specs.declared.macros.BodyItem.{BodyItem as KeptItem}
use Rattle.rbg_macro.proofs.Common.{Template, ReadToken, Macro, macro_named, AreMarkedLists, FillsMarks, IsMarkedWord, KeepsMarks, Word, lexeme_in_word, word_of, IsNumberOf, IsMarked, IsMarkedItem, IsMarkedTemplate, IsTemplateAt, macro_of, macro_in, item_in, IsNamed, read_lexeme}
use Rattle.rbg_macro.proofs.TextCommon.{is_name_kind, Lexeme}
use Rattle.rbg_macro.proofs.Names.{lookup_none, lookup_some}

-- the macro whose template is at an index
stands_at : (es : List (Bor (List ℕ) × Template)) (n : ℕ) (u : Template) → slice_get (map (λ e. e.1) es) n ≡ Some u →
    (name : List ℕ) × (slice_get (map macro_in es) n ≡ Some (macro_of name u))
stands_at [] n u is = cc
stands_at (e ∷ es) zero u is = let same : e.1 ≡ u = cc in (e.0.now, ap (λ (v : Template). Some (macro_of e.0.now v)) same)
stands_at (e ∷ es) (suc n) u is = stands_at es n u is

-- a name that the map has
number_found : (t : Lexeme) (es : List (Bor (List ℕ) × Template)) (n : ℕ) (found : Option Template) → is_name_kind t.kind ≡ true →
    lookup (λ k. bytes_eq t.text k.now) es ≡ found → is_some found ≡ true → slice_get (map (λ e. e.1) es) n ≡ found →
    IsNumberOf (map macro_in es) t n
number_found t es n None is looked some at = cc
number_found t es n (Some u) is looked some at =
    let (own, named) = lookup_some t.text es u looked in
    let (name, stands) = stands_at es n u at in
    record { name = own; numbered = macro_of name u; stands = stands; named = rw is named }

pub number_by_lookup : (t : Lexeme) (es : List (Bor (List ℕ) × Template)) (found : Option ℕ) → is_name_kind t.kind ≡ true →
    is_some found ≡ is_some (lookup (λ k. bytes_eq t.text k.now) es) →
    MatchOption found (Unit {0}) (λ n. slice_get (map (λ e. e.1) es) n ≡ lookup (λ k. bytes_eq t.text k.now) es) →
    MatchOption found (macro_named (map macro_in es) t ≡ None) (IsNumberOf (map macro_in es) t)
number_by_lookup t es None is same at = rw is (lookup_none t.text es (none_of_not_some (lookup (λ k. bytes_eq t.text k.now) es) (sym same)))
number_by_lookup t es (Some n) is same at = number_found t es n (lookup (λ k. bytes_eq t.text k.now) es) is refl (sym same) at

pub template_by_index : (es : List (Bor (List ℕ) × Template)) (n : ℕ) (e : Bor (List ℕ) × Template) → slice_get es n ≡ Some e →
    slice_get (map macro_in es) n ≡ Some (macro_of e.0.now e.1)
template_by_index [] n e is = cc
template_by_index (x ∷ es) zero e is = let same : x ≡ e = cc in ap (λ (y : Bor (List ℕ) × Template). Some (macro_in y)) same
template_by_index (x ∷ es) (suc n) e is = template_by_index es n e is

-- what goes with an element
zip_at : {A B : Type 0} (R : A → B → Type 0) (xs : List A) (ys : List B) (n : ℕ) (x : A) → AllZip R xs ys → slice_get xs n ≡ Some x →
    (y : B) × (slice_get ys n ≡ Some y) × R x y
zip_at R [] ys n x all is = cc
zip_at R (a ∷ xs) [] n x all is = absurd all
zip_at R (a ∷ xs) (b ∷ ys) zero x all is = let same : a ≡ x = cc in (b, refl, subst (λ z. R z b) same all.0)
zip_at R (a ∷ xs) (b ∷ ys) (suc n) x all is = zip_at R xs ys n x all.1 is

-- the template with the number of a mark
template_of : (macros : List Macro) (templates : List Template) (t : Lexeme) (n : ℕ) → AllZip (IsMarkedTemplate macros) macros templates →
    IsNumberOf macros t n → (u : Template) × (slice_get templates n ≡ Some u) × IsNamed macros t u × All (IsMarkedItem macros) u.body.items
template_of macros templates t n all is =
    let (u, found, fits) = zip_at (IsMarkedTemplate macros) macros templates n is.numbered all is.stands in
    let same : record is.numbered { name = is.name } ≡ macro_of is.name u = rw (fits.parameters, fits.body) refl in
    (u, found, record { name = is.name; named = is.named ∙ ap Some same }, fits.marked)

pub number_within : (macros : List Macro) (templates : List Template) (t : Lexeme) (n : ℕ) → AllZip (IsMarkedTemplate macros) macros templates →
    IsNumberOf macros t n → n < length templates
number_within macros templates t n all is =
    let (u, found, named, marked) = template_of macros templates t n all is in
    slice_get_within templates n u found

pub named_at : (macros : List Macro) (templates : List Template) (t : Lexeme) (n : ℕ) (u : Template) → AllZip (IsMarkedTemplate macros) macros templates →
    IsNumberOf macros t n → u ≡ get_or templates n u → IsNamed macros t u
named_at macros templates t n u all is read =
    let (v, found, named, marked) = template_of macros templates t n all is in
    subst (IsNamed macros t) (sym (read ∙ get_or_from_slice_get templates n v u found)) named

pub marked_at : (macros : List Macro) (templates : List Template) (t : Lexeme) (n : ℕ) (u : Template) → AllZip (IsMarkedTemplate macros) macros templates →
    IsNumberOf macros t n → u ≡ get_or templates n u → All (IsMarkedItem macros) u.body.items
marked_at macros templates t n u all is read =
    let (v, found, named, marked) = template_of macros templates t n all is in
    subst (λ (w : Template). All (IsMarkedItem macros) w.body.items) (sym (read ∙ get_or_from_slice_get templates n v u found)) marked

-- one more template is marked
pub marked_more : (macros : List Macro) (templates new : List Template) (template marked : Template) → AllZip (IsMarkedTemplate macros) (take (length templates) macros) templates →
    IsTemplateAt macros (length templates) template → marked.parameters ≡ template.parameters → map item_in marked.body.items ≡ map item_in template.body.items →
    All (IsMarkedItem macros) marked.body.items → new ≡ templates ++ marked ∷ [] → AllZip (IsMarkedTemplate macros) (take (length new) macros) new
marked_more macros templates new template marked all at parameters body marks added =
    let m : Macro = macro_of at.name template in
    let below = slice_get_within macros (length templates) m at.stands in
    let size : length new ≡ length templates + 1 = ap length added ∙ length-append templates (marked ∷ []) in
    let front : take (length new) macros ≡ take (length templates) macros ++ m ∷ [] =
    ap (λ (n : ℕ). take n macros) size ∙ take_more macros (length templates) m below
    ∙ ap (λ (x : Macro). take (length templates) macros ++ x ∷ []) (get_or_from_slice_get macros (length templates) m m at.stands) in
    rw (front, added) (AllZip-push_one (IsMarkedTemplate macros) (take (length templates) macros) templates m marked all
    (record { parameters = parameters; body = body; marked = marks }))

pub all_marked : (macros : List Macro) (templates : List Template) → AllZip (IsMarkedTemplate macros) (take (length templates) macros) templates →
    length macros ≤ length templates → AllZip (IsMarkedTemplate macros) macros templates
all_marked macros templates all enough = rw (take_all (length templates) macros enough) at all

-- a part of a list is marked if the list is
pub keeps_one_more : (tokens : List ReadToken) (start at : ℕ) (argument : Bor (List ReadToken)) (found new : List (Bor (List ReadToken))) → KeepsMarks tokens found →
    argument.now ≡ slice_range tokens start at → new ≡ found ++ argument ∷ [] → KeepsMarks tokens new
keeps_one_more tokens start at argument found new so_far cut added = record {
  keeps = λ macros all.
      let part : All (IsMarked macros) (slice_range tokens start at) =
      All-take (IsMarked macros) (at - start) (drop start tokens) (All-drop (IsMarked macros) start tokens all) in
      let last : All (IsMarked macros) argument.now = subst (All (IsMarked macros)) (sym cut) part in
      subst (AreMarkedLists macros) (sym added) (All-push (λ l. All (IsMarked macros) l.now) found argument (so_far.keeps macros all) last);
}

pub keeps_none : (tokens : List ReadToken) → KeepsMarks tokens []
keeps_none tokens = record { keeps = λ macros all. All-nil (λ l. All (IsMarked macros) l.now) }

-- one more item
pub fills_more : (body : List KeptItem) (arguments : List (Bor (List ReadToken))) (i : ℕ) (d : KeptItem) (old new : List ReadToken) → i < length body → FillsMarks body arguments old →
    ((macros : List Macro) → All (IsMarked macros) old → IsMarkedItem macros (get_or body i d) → AreMarkedLists macros arguments → All (IsMarked macros) new) →
    FillsMarks body arguments new
fills_more body arguments i d old new below so_far more = record {
  fills = λ macros items lists. more macros (so_far.fills macros items lists) (All-get_or (IsMarkedItem macros) body i d below items) lists;
}

-- words and their tokens
pub lexemes_of_words : (ts : List ReadToken) (ws : List Word) → map word_of ts ≡ ws → map read_lexeme ts ≡ map lexeme_in_word ws
lexemes_of_words [] [] is = refl
lexemes_of_words [] (w ∷ ws) is = cc
lexemes_of_words (t ∷ ts) [] is = cc
lexemes_of_words (t ∷ ts) (w ∷ ws) is =
    let first : word_of t ≡ w = cc in
    let others : map word_of ts ≡ ws = cc in
    let rest = lexemes_of_words ts ws others in
    let same : read_lexeme t ≡ w.lexeme = ap lexeme_in_word first in
    cc

marks_of_tokens : (macros : List Macro) (ts : List ReadToken) → All (IsMarkedWord macros) (map word_of ts) → All (IsMarked macros) ts
marks_of_tokens macros [] all = All-nil (IsMarked macros)
marks_of_tokens macros (t ∷ ts) all =
    All-cons (IsMarked macros) t ts (All-head (IsMarkedWord macros) (word_of t) (map word_of ts) all) (marks_of_tokens macros ts (All-tail (IsMarkedWord macros) (word_of t) (map word_of ts) all))

pub marks_of_words : (macros : List Macro) (ts : List ReadToken) (ws : List Word) → map word_of ts ≡ ws → All (IsMarkedWord macros) ws → All (IsMarked macros) ts
marks_of_words macros ts ws is all = marks_of_tokens macros ts (subst (All (IsMarkedWord macros)) (sym is) all)

pub word_added : (old new : List Word) (w : Word) → new ≡ old ++ w ∷ [] → map lexeme_in_word new ≡ map lexeme_in_word old ++ w.lexeme ∷ []
word_added old new w added = ap (map lexeme_in_word) added ∙ map-append lexeme_in_word old (w ∷ [])

-- a token of a marked list is added to marked words
pub mark_added : (macros : List Macro) (list : List ReadToken) (at : ℕ) (d : ReadToken) (old new : List Word) → at < length list → All (IsMarked macros) list →
    All (IsMarkedWord macros) old → new ≡ old ++ word_of (get_or list at d) ∷ [] → All (IsMarkedWord macros) new
mark_added macros list at d old new below all earlier added =
    subst (All (IsMarkedWord macros)) (sym added) (All-push (IsMarkedWord macros) old (word_of (get_or list at d)) earlier (All-get_or (IsMarked macros) list at d below all))
