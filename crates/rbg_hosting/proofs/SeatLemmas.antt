-- For whom the lines of a hall are.
use Rattle.rbg_base.proofs.Common.{◌≡◌, ℕ, ◌+◌, ◌<◌, ◌≤◌, List, [], ◌∷◌, ◌++◌, Option, length, drop, get_or, replicate, ap, sym, ◌∙◌, append_assoc, append-nil}
use Rattle.std.proofs.lemmas.List.{drop_all, drop_more}
use Rattle.rbg_hall.specs.Halls.{begun_at}
use Rattle.rbg_hall.specs.Tables.{TableState}
use Rattle.rbg_network.specs.declared.seating.LinePlace.{LinePlace}
use Rattle.rbg_hosting.specs.internal.Resuming.{place_for, places_from}

-- at first there is no place
pub none_placed : (tables : List TableState) (players : List ℕ) (places : List LinePlace) → places ≡ [] → places ++ places_from tables 1 players ≡ places_from tables 1 players
none_placed tables players places none = ap (λ them. them ++ places_from tables 1 players) none

-- then there are those of one match more
pub one_placed : (tables : List TableState) (players : List ℕ) (index many : ℕ) (place : LinePlace) (before after : List LinePlace) →
    index < length players →
    many ≡ get_or players index 0 →
    place ≡ place_for (begun_at tables (index + 1)) (index + 1) →
    after ≡ before ++ replicate many place →
    after ++ places_from tables (index + 1 + 1) (drop (index + 1) players) ≡ before ++ places_from tables (index + 1) (drop index players)
one_placed tables players index many place before after within is placed added =
    ap (λ them. them ++ places_from tables (index + 1 + 1) (drop (index + 1) players)) added
    ∙ append_assoc before (replicate many place) (places_from tables (index + 1 + 1) (drop (index + 1) players))
    ∙ ap (λ (one : LinePlace). before ++ (replicate many one ++ places_from tables (index + 1 + 1) (drop (index + 1) players))) placed
    ∙ ap (λ left. before ++ places_from tables (index + 1) left) (sym (drop_more players index 0 within ∙ ap (λ n. n ∷ drop (index + 1) players) (sym is)))

-- and at last all
pub all_placed : (tables : List TableState) (players : List ℕ) (index : ℕ) (places : List LinePlace) → length players ≤ index → places ++ places_from tables (index + 1) (drop index players) ≡ places_from tables 1 players → places ≡ places_from tables 1 players
all_placed tables players index places few are =
    sym (append-nil places)
    ∙ ap (λ left. places ++ places_from tables (index + 1) left) (sym (drop_all index players few))
    ∙ are
