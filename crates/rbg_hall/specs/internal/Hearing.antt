-- What a hall does in parts, and what is queued for the lines then.
use Rattle.std.specs.Prelude.{◌≡◌, ℕ, suc, List, [], ◌∷◌, ◌++◌, length, Option, Some, None}
use Rattle.std.specs.List.{flat_map}
use Rattle.rbg_hall.specs.Tables.{OwnEvent}
use Rattle.rbg_hall.specs.Tellings.{Telling, told_to}
use Rattle.rbg_hall.specs.Kept.{KeptState}
use Rattle.rbg_hall.specs.declared.line.LinePhase.{LinePhase}
use Rattle.rbg_script.specs.Events.{AbstractEvent, piece, end_of_stream}
use Rattle.rbg_hall.specs.Halls.{line_beyond, refused_in}
use Rattle.rbg_hall.specs.Ledgers.{Becomes, HallStops, HallWrites, KeptHearsEach}
use Rattle.rbg_hall.specs.Lines.{HallLine}
use Rattle.rbg_hall.specs.Own.{heard_of_piece}
use Rattle.rbg_hall.specs.internal.Parts.{hall_of, ledgers_of, states_of}

-- A table hears these events in turn.
pub record HearsEachFor {W : Type 0} (tells : W → List ℕ → Type 0) (old : KeptState W) (events : List OwnEvent) (new : KeptState W) (before after : List (List ℕ)) : Type 0 where
  pub told : List Telling
  pub hears : KeptHearsEach tells old events new told
  pub queued : after ≡ told_to before told

-- Each of the tables, from this number on, hears what is its own, and tells its lines something.
pub data EachKeptHears {W : Type 0} (tells : W → List ℕ → Type 0) (heard : (table : ℕ) → List OwnEvent) : (table : ℕ) → (old new : List (KeptState W)) →
    (told : List (List Telling)) → Type 0 where
  none : {table : ℕ} →
      EachKeptHears tells heard table [] [] []
  more : {table : ℕ} {old new : KeptState W} {olds news : List (KeptState W)} {first : List Telling}
      {next : List (List Telling)} →
      KeptHearsEach tells old (heard table) new first →
      EachKeptHears tells heard (suc table) olds news next →
      EachKeptHears tells heard table (old ∷ olds) (new ∷ news) (first ∷ next)

-- Each table hears what is its own.
pub record TablesHear {W : Type 0} (tells : W → List ℕ → Type 0) (heard : (table : ℕ) → List OwnEvent) (old new : List (KeptState W)) (before after : List (List ℕ)) : Type 0 where
  pub told : List (List Telling)
  pub tables : EachKeptHears tells heard 1 old new told
  pub queued : after ≡ told_to before (flat_map (λ one. one) told)

-- Each table heard events, at the last of which something may have failed.
pub data TablesStop {W : Type 0} (tells : W → List ℕ → Type 0) : (old new : List (KeptState W)) → Type 0 where
  none :
      TablesStop tells [] []
  more : {old new : KeptState W} {olds news : List (KeptState W)} →
      Becomes tells old new →
      TablesStop tells olds news →
      TablesStop tells (old ∷ olds) (new ∷ news)

-- The tables hear a line that stands so and sends bytes, and this is how it stands then.
pub record PieceHeard {W : Type 0} (tells : W → List ℕ → Type 0) (olds : List (KeptState W)) (one : HallLine) (line at : ℕ) (bytes : List ℕ) (news : List (KeptState W))
    (next : HallLine) (before after : List (List ℕ)) : Type 0 where
  pub told : List (List Telling)
  pub tables : EachKeptHears tells (λ table. heard_of_piece (length olds) table one line at bytes) 1 olds news told
  pub stands : next ≡ line_beyond (length olds) one bytes
  pub queued : after ≡ told_to before (refused_in (length olds) one line bytes ++ flat_map (λ one. one) told)

-- what is heard of a line: bytes that it sends, or its end
abbrev pub said_by : (line at : ℕ) → Option (List ℕ) → AbstractEvent
said_by line at (Some bytes) = piece line at bytes
said_by line at None = end_of_stream line at

-- what a hall of these tables and lines writes, and where it stops
abbrev pub KeptWrites : {W : Type 0} → (W → List ℕ → Type 0) → (tables : List (KeptState W)) → (lines : List LinePhase) → AbstractEvent →
    (tables' : List (KeptState W)) → (lines' : List LinePhase) → (before after : List (List ℕ)) → Type 0
KeptWrites told tables lines event tables' lines' before after =
    HallWrites told (hall_of tables lines) (ledgers_of tables) event (hall_of tables' lines') (ledgers_of tables') before after

abbrev pub KeptStops : {W : Type 0} → (W → List ℕ → Type 0) → (old new : List (KeptState W)) → Type 0
KeptStops told old new = HallStops told (states_of old) (ledgers_of old) (states_of new) (ledgers_of new)
