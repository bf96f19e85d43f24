-- Macros and parameters by name: a map's or a set's look-ups, as those in the lists that contracts see.
use Rattle.rbg_base.proofs.Common.{ℕ, ◌≡◌, ◌+◌, Bool, true, false, ◌||◌, cond, not, List, [], ◌∷◌, ◌++◌, map, Option, None, Some, is_some, MatchOption, position, refl, sym, ap, ◌∙◌, find, or_parts, length-map, list_any, position_or_len, Bor, option_copied, bytes_eq}
use Rattle.std.specs.Map.{lookup}
use Rattle.indexmap.specs.IndexMap.{insert_entry}
use Rattle.rbg_macro.proofs.Common.{Template, macro_of, macro_in, texts_in, IsNamed}
use Rattle.rbg_macro.proofs.TextCommon.{is_name_kind, Lexeme}
use Rattle.rbg_macro.specs.Macro.{macro_named, item_of, Word, Place}

-- whether a name is there
pub has_lookup : (name : List ℕ) (es : List (Bor (List ℕ) × Template)) → is_some (lookup (λ k. bytes_eq name k.now) es) ≡ list_any (λ m. bytes_eq name m.name) (map macro_in es)
has_lookup name [] = refl
has_lookup name (e ∷ es) = by_test (bytes_eq name e.0.now) (has_lookup name es)
  where
    by_test : (b : Bool) → is_some (lookup (λ k. bytes_eq name k.now) es) ≡ list_any (λ m. bytes_eq name m.name) (map macro_in es) →
        is_some (cond b (Some e.1) (lookup (λ k. bytes_eq name k.now) es)) ≡ (b || list_any (λ m. bytes_eq name m.name) (map macro_in es))
    by_test true others = refl
    by_test false others = others

-- a new name goes last
pub insert_entry-fresh : (k : Bor (List ℕ)) (t : Template) (es : List (Bor (List ℕ) × Template)) → list_any (λ m. bytes_eq k.now m.name) (map macro_in es) ≡ false → insert_entry (λ x y. bytes_eq x.now y.now) es k t ≡ es ++ (k, t) ∷ []
insert_entry-fresh k t [] fresh = refl
insert_entry-fresh k t (e ∷ es) fresh =
    let (first, others) = or_parts (bytes_eq k.now e.0.now) (list_any (λ m. bytes_eq k.now m.name) (map macro_in es)) fresh in
    rw first (ap (λ (l : List (Bor (List ℕ) × Template)). e ∷ l) (insert_entry-fresh k t es others))

-- the macro of a name
pub lookup_none : (name : List ℕ) (es : List (Bor (List ℕ) × Template)) → lookup (λ k. bytes_eq name k.now) es ≡ None → find (λ m. bytes_eq name m.name) (map macro_in es) ≡ None
lookup_none name [] none = refl
lookup_none name (e ∷ es) none = by_test (bytes_eq name e.0.now) none (lookup_none name es)
  where
    by_test : (b : Bool) → cond b (Some e.1) (lookup (λ k. bytes_eq name k.now) es) ≡ None →
        (lookup (λ k. bytes_eq name k.now) es ≡ None → find (λ m. bytes_eq name m.name) (map macro_in es) ≡ None) →
        cond b (Some (macro_in e)) (find (λ m. bytes_eq name m.name) (map macro_in es)) ≡ None
    by_test true h others = cc
    by_test false h others = others h

pub lookup_some : (name : List ℕ) (es : List (Bor (List ℕ) × Template)) (t : Template) → lookup (λ k. bytes_eq name k.now) es ≡ Some t → (own : List ℕ) × (find (λ m. bytes_eq name m.name) (map macro_in es) ≡ Some (macro_of own t))
lookup_some name [] t found = cc
lookup_some name (e ∷ es) t found = by_test (bytes_eq name e.0.now) found (lookup_some name es t)
  where
    by_test : (b : Bool) → cond b (Some e.1) (lookup (λ k. bytes_eq name k.now) es) ≡ Some t →
        (lookup (λ k. bytes_eq name k.now) es ≡ Some t → (own : List ℕ) × (find (λ m. bytes_eq name m.name) (map macro_in es) ≡ Some (macro_of own t))) →
        (own : List ℕ) × (cond b (Some (macro_in e)) (find (λ m. bytes_eq name m.name) (map macro_in es)) ≡ Some (macro_of own t))
    by_test true h others = let same : e.1 ≡ t = cc in (e.0.now, ap (λ (u : Template). Some (macro_of e.0.now u)) same)
    by_test false h others = others h

pub named_by_lookup : (t : Lexeme) (es : List (Bor (List ℕ) × Template)) (found : Option (Bor Template)) → is_name_kind t.kind ≡ true →
    option_copied found ≡ lookup (λ k. bytes_eq t.text k.now) es →
    MatchOption found (macro_named (map macro_in es) t ≡ None) (λ x. IsNamed (map macro_in es) t x.now)
named_by_lookup t es None is copied = rw is (lookup_none t.text es (sym copied))
named_by_lookup t es (Some x) is copied =
    let (own, named) = lookup_some t.text es x.now (sym copied) in
    record { name = own; named = rw is named }

-- a name's place among the parameters
prefix_len-texts : (test : List ℕ → Bool) (keys : List (Bor (List ℕ))) → position_or_len (λ k. test k.now) keys ≡ position_or_len test (texts_in keys)
prefix_len-texts test [] = refl
prefix_len-texts test (k ∷ keys) = by_test (not (test k.now)) (prefix_len-texts test keys)
  where
    by_test : (b : Bool) → position_or_len (λ q. test q.now) keys ≡ position_or_len test (texts_in keys) →
        cond b (1 + position_or_len (λ q. test q.now) keys) 0 ≡ cond b (1 + position_or_len test (texts_in keys)) 0
    by_test true others = ap (λ (n : ℕ). 1 + n) others
    by_test false others = refl

pub position-texts : (test : List ℕ → Bool) (keys : List (Bor (List ℕ))) → position (λ k. test k.now) keys ≡ position test (texts_in keys)
position-texts test keys =
    rw (prefix_len-texts test keys, ← length-map keys (λ k. k.now)) refl

pub place_of : (t : Lexeme) (keys : List (Bor (List ℕ))) (k : ℕ) → is_name_kind t.kind ≡ true → Some k ≡ position (λ q. bytes_eq t.text q.now) keys → Place k ≡ item_of (texts_in keys) t
place_of t keys k is found =
    let same : position (bytes_eq t.text) (texts_in keys) ≡ Some k = sym (found ∙ position-texts (bytes_eq t.text) keys) in
    rw (is, same) refl

pub word_of : (t : Lexeme) (keys : List (Bor (List ℕ))) → is_name_kind t.kind ≡ true → None ≡ position (λ q. bytes_eq t.text q.now) keys → Word t ≡ item_of (texts_in keys) t
word_of t keys is none =
    let same : position (bytes_eq t.text) (texts_in keys) ≡ None = sym (none ∙ position-texts (bytes_eq t.text) keys) in
    rw (is, same) refl
