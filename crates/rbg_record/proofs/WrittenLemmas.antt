-- What is written of a match is its record.
use Rattle.rbg_base.proofs.Common.{◌≡◌, ℕ, ◌+◌, ◌-◌, List, [], ◌∷◌, ◌++◌, map, take, slice_get, codes, Option, Some, arith, sym, ap, ◌∙◌, append_assoc, append-nil, take_more, slice_get_within, get_or_from_slice_get, flat_map}
use Rattle.std.proofs.lemmas.List.Concat.{flat_map-append}
use Rattle.rbg_wire.specs.declared.outcome.Outcome.{Outcome}
use Rattle.rbg_rules.specs.Meaning.{IsGame}
use Rattle.rbg_match.specs.declared.config.Config.{Config}
use Rattle.rbg_match.specs.declared.made.Made.{Made}
use Rattle.rbg_match.specs.Matches.{MatchState, HasHistory}
use Rattle.rbg_record.specs.declared.entry.Entry.TheVariants.{End}
use Rattle.rbg_record.specs.declared.heading.Version.TheVariants.{One, Two}
use Rattle.rbg_record.proofs.LineCommon.{entry_text, timed_text, version_text, players_text, start_text}
use Rattle.rbg_wire.specs.Lines.{line_of, lines_of}
use Rattle.rbg_record.proofs.Common.{made_text, text_in, entries_bytes, record_of, plain_record_of, plain_move, plain, timed, plain_entry, made_entry, Spells}
use Rattle.rbg_record.proofs.MatchSpelled.{two_spelled, one_spelled}

entries_two : (moves : List Made) (moment : ℕ) (outcome : Option Outcome) →
    flat_map (λ made. line_of (made_text Two made)) moves ++ line_of (text_in Two moment (End outcome))
    ≡ lines_of (map timed_text (map made_entry moves ++ record { at = moment; entry = End outcome } ∷ []))
entries_two [] moment outcome = sym (append-nil (line_of (text_in Two moment (End outcome))))
entries_two (made ∷ moves) moment outcome =
    append_assoc (line_of (made_text Two made)) (flat_map (λ m. line_of (made_text Two m)) moves) (line_of (text_in Two moment (End outcome)))
    ∙ ap (λ rest. line_of (made_text Two made) ++ rest) (entries_two moves moment outcome)

entries_one : (moves : List Made) (moment : ℕ) (outcome : Option Outcome) →
    flat_map (λ made. line_of (made_text One made)) moves ++ line_of (text_in One moment (End outcome))
    ≡ lines_of (map entry_text (map plain_entry (map plain_move moves) ++ End outcome ∷ []))
entries_one [] moment outcome = sym (append-nil (line_of (text_in One moment (End outcome))))
entries_one (made ∷ moves) moment outcome =
    append_assoc (line_of (made_text One made)) (flat_map (λ m. line_of (made_text One m)) moves) (line_of (text_in One moment (End outcome)))
    ∙ ap (λ rest. line_of (made_text One made) ++ rest) (entries_one moves moment outcome)

-- What the lines of version 2 add up to.
pub two_spells : (state : MatchState) → IsGame state.game → HasHistory state → (config : Config) (began : ℕ) (empty one two three all : List ℕ) →
    config ≡ state.config →
    began ≡ state.began →
    empty ≡ [] →
    one ≡ empty ++ line_of (version_text Two) →
    two ≡ one ++ line_of (players_text state.game.players) →
    three ≡ two ++ line_of (start_text (record { turn_ms = config.turn_ms; now = began })) →
    all ≡ three ++ entries_bytes Two state →
    Spells all (timed (record_of state))
two_spells state lawful has config began empty one two three all same_config same_began is_empty first second third last =
    let version : List ℕ = line_of (version_text Two) in
    let players : List ℕ = line_of (players_text state.game.players) in
    let start : List ℕ = line_of (start_text (record { turn_ms = state.config.turn_ms; now = state.began })) in
    let entries : List ℕ = entries_bytes Two state in
    let one_is : one ≡ version = first ∙ ap (λ bytes. bytes ++ version) is_empty in
    let two_is : two ≡ version ++ players = second ∙ ap (λ bytes. bytes ++ players) one_is in
    let start_is : line_of (start_text (record { turn_ms = config.turn_ms; now = began })) ≡ start = λ i. line_of (start_text (record { turn_ms = (same_config i).turn_ms; now = same_began i })) in
    let three_is : three ≡ (version ++ players) ++ start = third ∙ (ap (λ line. two ++ line) start_is ∙ ap (λ bytes. bytes ++ start) two_is) in
    record {
      has = two_spelled state lawful has;
      is = last
          ∙ (ap (λ bytes. bytes ++ entries) three_is
          ∙ (append_assoc (version ++ players) start entries
          ∙ (append_assoc version players (start ++ entries)
          ∙ ap (λ rest. version ++ (players ++ (start ++ rest))) (entries_two state.play.made state.streams.moment state.play.outcome))));
    }

-- and those of version 1
pub one_spells : (state : MatchState) → IsGame state.game → HasHistory state → (empty one all : List ℕ) →
    empty ≡ [] →
    one ≡ empty ++ line_of (version_text One) →
    all ≡ one ++ entries_bytes One state →
    Spells all (plain (plain_record_of state))
one_spells state lawful has empty one all is_empty first last = record {
  has = one_spelled state lawful has;
  is = last
      ∙ (ap (λ bytes. bytes ++ entries_bytes One state) (first ∙ ap (λ bytes. bytes ++ line_of (version_text One)) is_empty)
      ∙ ap (λ rest. line_of (version_text One) ++ rest) (entries_one state.play.made state.streams.moment state.play.outcome));
}

-- one more name, with a space before it
pub names_more : (players : List (List ℕ)) (i : ℕ) (name written old mid new : List ℕ) → slice_get players (i + 1 - 1) ≡ Some name → written ≡ name → mid ≡ old ++ flat_map (λ n. codes " " ++ n) (take i players) → new ≡ mid ++ (codes " " ++ written) → new ≡ old ++ flat_map (λ n. codes " " ++ n) (take (i + 1) players)
names_more players i name written old mid new found same_name before more =
    let same : i + 1 - 1 ≡ i = omega arith in
    let there : slice_get players i ≡ Some name = rw same at found in
    let front : List ℕ = flat_map (λ n. codes " " ++ n) (take i players) in
    let taken : take (i + 1) players ≡ take i players ++ name ∷ [] =
    take_more players i name (slice_get_within players i name there) ∙ ap (λ n. take i players ++ n ∷ []) (get_or_from_slice_get players i name name there) in
    let last : flat_map (λ n. codes " " ++ n) (take (i + 1) players) ≡ front ++ (codes " " ++ name) =
    ap (flat_map (λ n. codes " " ++ n)) taken ∙ (flat_map-append (λ n. codes " " ++ n) (take i players) (name ∷ []) ∙ ap (λ t. front ++ t) (append-nil (codes " " ++ name))) in
    more ∙ (ap (λ n. mid ++ (codes " " ++ n)) same_name ∙ (ap (λ m. m ++ (codes " " ++ name)) before ∙ (append_assoc old front (codes " " ++ name) ∙ ap (λ t. old ++ t) (sym last))))
