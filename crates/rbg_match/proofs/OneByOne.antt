-- Inputs handled in turn, the first one first, so that a list of them can be taken apart.
use Rattle.std.proofs.Common.{◌≡◌, List, [], ◌∷◌, ◌++◌, refl, sym, ap, ◌∙◌, subst, append_assoc}
use Rattle.std.proofs.lemmas.List.{append-nil}
use Rattle.rbg_rules.specs.Meaning.{AbstractGame}
use Rattle.rbg_match.proofs.Common.{Config, Delivery, AbstractPlay, Handles, TimedInput, HandlesAll}
use Rattle.rbg_match.specs.Transcript as transcript
use Rattle.rbg_match.proofs.Events.{one_handled, handles-append}

pub data HandlesEach (game : AbstractGame) (config : Config) : (play : AbstractPlay) → List TimedInput → (after : AbstractPlay) → (outgoing : List Delivery) → Type 0 where
  none : {play : AbstractPlay} → HandlesEach game config play [] play []
  more : {play middle after : AbstractPlay} {input : TimedInput} {inputs : List TimedInput} {first next : List Delivery} →
      Handles game config play input.moment input.input middle first →
      HandlesEach game config middle inputs after next →
      HandlesEach game config play (input ∷ inputs) after (first ++ next)

each-append : {game : AbstractGame} {config : Config} {play middle after : AbstractPlay} {xs ys : List TimedInput} {a b : List Delivery} → HandlesEach game config play xs middle a → HandlesEach game config middle ys after b → HandlesEach game config play (xs ++ ys) after (a ++ b)
each-append none second = second
each-append {b = b} (more {first = first} {next = next} handles rest) second = rw (append_assoc first next b) (more handles (each-append rest second))

pub all_to_each : {game : AbstractGame} {config : Config} {play after : AbstractPlay} {inputs : List TimedInput} {outgoing : List Delivery} → HandlesAll game config play inputs after outgoing → HandlesEach game config play inputs after outgoing
all_to_each transcript.none = none
all_to_each {game = game} {config = config} {after = after} (transcript.more {middle = middle} {next = next} {input = input} before handles) =
    let last : HandlesEach game config middle (input ∷ []) after next = subst (HandlesEach game config middle (input ∷ []) after) (append-nil next) (more handles none) in
    each-append (all_to_each before) last

pub each_to_all : {game : AbstractGame} {config : Config} {play after : AbstractPlay} {inputs : List TimedInput} {outgoing : List Delivery} → HandlesEach game config play inputs after outgoing → HandlesAll game config play inputs after outgoing
each_to_all none = transcript.none
each_to_all (more {input = input} handles rest) = handles-append (one_handled {moment = input.moment} {input = input.input} handles) (each_to_all rest)

-- These inputs are handled in two parts.
pub record HandlesParts (game : AbstractGame) (config : Config) (play : AbstractPlay) (xs ys : List TimedInput) (after : AbstractPlay) (outgoing : List Delivery) : Type 0 where
  pub middle : AbstractPlay
  pub first : List Delivery
  pub next : List Delivery
  pub handles : HandlesEach game config play xs middle first
  pub goes_on : HandlesEach game config middle ys after next
  pub whole : outgoing ≡ first ++ next

pub parted : {game : AbstractGame} {config : Config} {play after : AbstractPlay} {outgoing : List Delivery} (xs ys : List TimedInput) → HandlesEach game config play (xs ++ ys) after outgoing → HandlesParts game config play xs ys after outgoing
parted {play = play} {outgoing = outgoing} [] ys handles = record { middle = play; first = []; next = outgoing; handles = none; goes_on = handles; whole = refl }
parted (x ∷ xs) ys (more {first = first} handles rest) =
    let parts = parted xs ys rest in
    record {
      middle = parts.middle;
      first = first ++ parts.first;
      next = parts.next;
      handles = more handles parts.handles;
      goes_on = parts.goes_on;
      whole = ap (λ (one : List Delivery). first ++ one) parts.whole ∙ sym (append_assoc first parts.first parts.next);
    }

pub joined : {game : AbstractGame} {config : Config} {play middle after : AbstractPlay} {outgoing first next : List Delivery} {xs ys : List TimedInput} → HandlesEach game config play xs middle first → HandlesEach game config middle ys after next → outgoing ≡ first ++ next → HandlesEach game config play (xs ++ ys) after outgoing
joined {game} {config} {play} {middle} {after} {xs = xs} {ys = ys} handles goes_on whole = subst (HandlesEach game config play (xs ++ ys) after) (sym whole) (each-append handles goes_on)
