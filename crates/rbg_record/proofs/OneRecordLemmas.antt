-- Bytes are those of one record at most.
use Rattle.rbg_base.proofs.Common.{◌≡◌, ℕ, List, [], ◌∷◌, ◌++◌, map, Option, refl, sym, ap, ◌∙◌, subst, All, All-head, All-tail, ◌↔◌}
use Rattle.rbg_wire.specs.declared.outcome.Outcome.{Outcome}
use Rattle.rbg_record.specs.declared.entry.Entry.{Entry}
use Rattle.rbg_record.specs.declared.entry.Entry.TheVariants.{Move, End}
use Rattle.rbg_record.specs.declared.entry.Timed.{Timed}
use Rattle.rbg_record.specs.declared.heading.Version.TheVariants.{One, Two}
use Rattle.rbg_record.proofs.LineCommon.{EntryHasSpelling, TimedHasSpelling, entry_text, timed_text, version_text, players_text, start_text}
use Rattle.rbg_record.proofs.Apart.{entries_apart, headings_apart, lines_apart}
use Rattle.rbg_match.specs.declared.made.Made.{Made}
use Rattle.rbg_record.proofs.Common.{OneRecord, PlainMove, AbstractRecord, plain, timed, plain_entry, made_entry, plain_entries, timed_entries, texts_of, HasSpelling, IsMigrated, migrated, IsRight, IsRightRecord}
use Rattle.rbg_rules.specs.Meaning.{AbstractGame}
use Rattle.rbg_record.proofs.Leading.{whole_texts}

-- lists whose texts are the same, if each text spells one thing
same_items : {A : Type 0} (Has : A → Type 0) (text_of : A → List ℕ) → ((a b : A) → Has a → Has b → text_of a ≡ text_of b → a ≡ b) → (xs ys : List A) → All Has xs → All Has ys → map text_of xs ≡ map text_of ys → xs ≡ ys
same_items Has text_of one [] [] all all' same = refl
same_items Has text_of one [] (y ∷ ys) all all' same = let apart : [] ≡ text_of y ∷ map text_of ys = same in cc
same_items Has text_of one (x ∷ xs) [] all all' same = let apart : text_of x ∷ map text_of xs ≡ [] = same in cc
same_items Has text_of one (x ∷ xs) (y ∷ ys) all all' same =
    let parts : text_of x ∷ map text_of xs ≡ text_of y ∷ map text_of ys = same in
    let first : text_of x ≡ text_of y = cc in
    let later : map text_of xs ≡ map text_of ys = cc in
    let here = one x y (All-head Has x xs all) (All-head Has y ys all') first in
    let others = same_items Has text_of one xs ys (All-tail Has x xs all) (All-tail Has y ys all') later in
    λ i. here i ∷ others i

one_entry : (a b : Entry) → EntryHasSpelling a → EntryHasSpelling b → entry_text a ≡ entry_text b → a ≡ b
one_entry a b has has' same = entries_apart.entries (entry_text a) a b (record { has = has; is = refl }) (record { has = has'; is = same })

one_timed : (a b : Timed) → TimedHasSpelling a → TimedHasSpelling b → timed_text a ≡ timed_text b → a ≡ b
one_timed a b has has' same = entries_apart.timed (timed_text a) a b (record { has = has; is = refl }) (record { has = has'; is = same })

-- entries that are the same have the same moves and the same end
same_plain : (xs ys : List PlainMove) (m n : Option Outcome) → map plain_entry xs ++ End m ∷ [] ≡ map plain_entry ys ++ End n ∷ [] → (xs ≡ ys) × (m ≡ n)
same_plain [] [] m n same = let parts : End m ∷ [] ≡ End n ∷ [] = same in (refl, cc)
same_plain [] (y ∷ ys) m n same = let parts : End m ∷ [] ≡ Move y.player y.pairs ∷ (map plain_entry ys ++ End n ∷ []) = same in let apart : End m ≡ Move y.player y.pairs = cc in absurd cc
same_plain (x ∷ xs) [] m n same = let parts : Move x.player x.pairs ∷ (map plain_entry xs ++ End m ∷ []) ≡ End n ∷ [] = same in let apart : Move x.player x.pairs ≡ End n = cc in absurd cc
same_plain (x ∷ xs) (y ∷ ys) m n same =
    let parts : Move x.player x.pairs ∷ (map plain_entry xs ++ End m ∷ []) ≡ Move y.player y.pairs ∷ (map plain_entry ys ++ End n ∷ []) = same in
    let later : map plain_entry xs ++ End m ∷ [] ≡ map plain_entry ys ++ End n ∷ [] = cc in
    let first : Move x.player x.pairs ≡ Move y.player y.pairs = cc in
    let player : x.player ≡ y.player = cc in
    let pairs : x.pairs ≡ y.pairs = cc in
    let others = same_plain xs ys m n later in
    ((λ i. record { player = player i; pairs = pairs i } ∷ others.0 i), others.1)

parts_of : {A : Type 0} (x y : A) (xs ys : List A) → x ∷ xs ≡ y ∷ ys → (x ≡ y) × (xs ≡ ys)
parts_of x y xs ys same = (cc, cc)

same_timed : (xs ys : List Made) (m n : ℕ) (o p : Option Outcome) → map made_entry xs ++ record { at = m; entry = End o } ∷ [] ≡ map made_entry ys ++ record { at = n; entry = End p } ∷ [] → (xs ≡ ys) × (m ≡ n) × (o ≡ p)
same_timed [] [] m n o p same =
    let parts = parts_of (record { at = m; entry = End o }) (record { at = n; entry = End p }) [] [] same in
    let ends : End o ≡ End p = ap (λ (told : Timed). told.entry) parts.0 in
    let outcomes : o ≡ p = cc in
    (refl, ap (λ (told : Timed). told.at) parts.0, outcomes)
same_timed [] (y ∷ ys) m n o p same =
    let parts = parts_of (record { at = m; entry = End o }) (made_entry y) [] (map made_entry ys ++ record { at = n; entry = End p } ∷ []) same in
    let apart : End o ≡ Move y.player y.pairs = ap (λ (told : Timed). told.entry) parts.0 in
    absurd cc
same_timed (x ∷ xs) [] m n o p same =
    let parts = parts_of (made_entry x) (record { at = n; entry = End p }) (map made_entry xs ++ record { at = m; entry = End o } ∷ []) [] same in
    let apart : Move x.player x.pairs ≡ End p = ap (λ (told : Timed). told.entry) parts.0 in
    absurd cc
same_timed (x ∷ xs) (y ∷ ys) m n o p same =
    let parts = parts_of (made_entry x) (made_entry y) (map made_entry xs ++ record { at = m; entry = End o } ∷ []) (map made_entry ys ++ record { at = n; entry = End p } ∷ []) same in
    let at : x.at ≡ y.at = ap (λ (told : Timed). told.at) parts.0 in
    let move : Move x.player x.pairs ≡ Move y.player y.pairs = ap (λ (told : Timed). told.entry) parts.0 in
    let player : x.player ≡ y.player = cc in
    let pairs : x.pairs ≡ y.pairs = cc in
    let others = same_timed xs ys m n o p parts.1 in
    ((λ i. record { player = player i; at = at i; pairs = pairs i } ∷ others.0 i), others.1, others.2)

no_versions : version_text One ≡ version_text Two → ⊥
no_versions same = let apart : One ≡ Two = headings_apart.versions One Two same in cc

one_told : (one other : AbstractRecord) → HasSpelling one → HasSpelling other → texts_of one ≡ texts_of other → one ≡ other
one_told (plain one) (plain other) has has' same =
    let parts = parts_of (version_text One) (version_text One) (map entry_text (plain_entries one)) (map entry_text (plain_entries other)) same in
    let entries = same_items EntryHasSpelling entry_text one_entry (plain_entries one) (plain_entries other) has has' parts.1 in
    let told = same_plain one.moves other.moves one.outcome other.outcome entries in
    λ i. plain (record { moves = told.0 i; outcome = told.1 i })
one_told (plain one) (timed other) has has' same =
    absurd (no_versions (parts_of (version_text One) (version_text Two) (map entry_text (plain_entries one)) (players_text other.players ∷ start_text other.start ∷ map timed_text (timed_entries other)) same).0)
one_told (timed one) (plain other) has has' same =
    absurd (no_versions (sym (parts_of (version_text Two) (version_text One) (players_text one.players ∷ start_text one.start ∷ map timed_text (timed_entries one)) (map entry_text (plain_entries other)) same).0))
one_told (timed one) (timed other) has has' same =
    let first = parts_of (version_text Two) (version_text Two) (players_text one.players ∷ start_text one.start ∷ map timed_text (timed_entries one)) (players_text other.players ∷ start_text other.start ∷ map timed_text (timed_entries other)) same in
    let second = parts_of (players_text one.players) (players_text other.players) (start_text one.start ∷ map timed_text (timed_entries one)) (start_text other.start ∷ map timed_text (timed_entries other)) first.1 in
    let third = parts_of (start_text one.start) (start_text other.start) (map timed_text (timed_entries one)) (map timed_text (timed_entries other)) second.1 in
    let players = headings_apart.players (players_text one.players) one.players other.players (record { has = has.0; is = refl }) (record { has = has'.0; is = second.0 }) in
    let start = headings_apart.starts (start_text one.start) one.start other.start (record { has = has.1; is = refl }) (record { has = has'.1; is = third.0 }) in
    let entries = same_items TimedHasSpelling timed_text one_timed (timed_entries one) (timed_entries other) has.2 has'.2 third.1 in
    let told = same_timed one.moves other.moves one.moment other.moment one.outcome other.outcome entries in
    λ i. timed (record { players = players i; start = start i; moves = told.0 i; moment = told.1 i; outcome = told.2 i })

pub one_record : OneRecord
one_record bytes one other spells spells' =
    one_told one other spells.has spells'.has (lines_apart (texts_of one) (texts_of other) (whole_texts one spells.has) (whole_texts other spells'.has) (sym spells.is ∙ spells'.is))

-- what was migrated is right exactly if the old bytes are
pub migrated_right : (game : AbstractGame) (old new : List ℕ) → IsMigrated game old new → IsRightRecord game new ↔ IsRightRecord game old
migrated_right game old new is = (before, after)
  where
    before : IsRightRecord game new → IsRightRecord game old
    before right =
        let same = one_record new right.told (timed (migrated game is.told)) right.spells is.after in
        record { told = plain is.told; spells = is.before; right = is.same.1 (subst (λ (told : AbstractRecord). IsRight game told) same right.right) }

    after : IsRightRecord game old → IsRightRecord game new
    after right =
        let same = one_record old right.told (plain is.told) right.spells is.before in
        record { told = timed (migrated game is.told); spells = is.after; right = is.same.0 (subst (λ (told : AbstractRecord). IsRight game told) same right.right) }
