-- The items that a stream has completed are handled in turn.
use Rattle.std.proofs.Common.{◌≡◌, ℕ, List, [], ◌∷◌, ◌++◌, map, refl, sym, ap, ◌∙◌, subst, Ok, Some, None, slice_get, append_assoc}
use Rattle.std.proofs.lemmas.List.{map-append, append-nil}
use Rattle.rbg_wire.specs.Streams.{Item, Stream, without_first}
use Rattle.rbg_wire.proofs.Items.{first_and_others, nothing_first}
use Rattle.rbg_match.proofs.Common.{Delivery, AbstractPlay, AbstractInput, sent, Handles, TimedInput, inputs_at, RefereeState, Replies, HandlesNow, gone_on}
use Rattle.rbg_match.specs.Transcript.{none, more}
use Rattle.rbg_match.proofs.Replying.{nothing_done, gone_on-twice}

-- inputs of one more thing
inputs_at-more : (moment : ℕ) (input : List AbstractInput) (one : AbstractInput) → inputs_at moment (input ++ one ∷ []) ≡ inputs_at moment input ++ record { moment = moment; input = one } ∷ []
inputs_at-more moment input one = map-append (λ (other : AbstractInput). let input : TimedInput = record { moment = moment; input = other } in input) input (one ∷ [])

-- From this state of a referee on, with these items in the inbox and this rest after them, some items were taken and handled.
pub record HasTaken (start : RefereeState) (seat : ℕ) (from : Stream) (referee : RefereeState) (inbox : Stream) : Type 0 where
  pub taken : List Item
  pub parts : from.items ≡ taken ++ inbox.items
  pub same_rest : inbox.rest ≡ from.rest
  pub same_limit : inbox.limit ≡ from.limit
  pub play : AbstractPlay
  pub outgoing : List Delivery
  pub becomes : referee ≡ gone_on start play outgoing
  pub handles : HandlesNow (map (sent seat) taken) start play outgoing

pub none_taken : (start : RefereeState) (seat : ℕ) (from : Stream) → HasTaken start seat from start from
none_taken start seat from = record {
  taken = [];
  parts = refl;
  same_rest = refl;
  same_limit = refl;
  play = start.play;
  outgoing = [];
  becomes = nothing_done start;
  handles = none;
}

-- one more item is taken and handled
pub one_taken : {E : Type 0} {start referee next : RefereeState} {seat : ℕ} {from inbox : Stream} (after : Stream) (item : Item) → HasTaken start seat from referee inbox → slice_get inbox.items 0 ≡ Some item → after ≡ without_first inbox → Replies {T = Unit {0}} {E = E} referee next (Ok tt) (λ one _. Handles one.game one.config one.play one.moment (sent seat item)) → HasTaken start seat from next after
one_taken {E} {start} {referee} {next} {seat} {from} {inbox} after item has first loses replies =
    let goes = subst (λ referee. Replies {T = Unit {0}} {E = E} referee next (Ok tt) (λ one _. Handles one.game one.config one.play one.moment (sent seat item))) has.becomes replies in
    record {
      taken = has.taken ++ item ∷ [];
      parts = rw (loses, append_assoc) (has.parts ∙ ap (λ items. has.taken ++ items) (first_and_others inbox.items item first));
      same_rest = rw loses has.same_rest;
      same_limit = rw loses has.same_limit;
      play = goes.after;
      outgoing = has.outgoing ++ goes.outgoing;
      becomes = goes.becomes ∙ gone_on-twice start has.play goes.after has.outgoing goes.outgoing;
      handles = rw (map-append (sent seat) has.taken (item ∷ []), inputs_at-more start.moment (map (sent seat) has.taken) (sent seat item)) (more has.handles goes.whole);
    }

-- nothing is left
pub all_taken : {start referee : RefereeState} {seat : ℕ} {from inbox : Stream} (has : HasTaken start seat from referee inbox) → slice_get inbox.items 0 ≡ None → (inbox.items ≡ []) × (has.taken ≡ from.items)
all_taken {inbox = inbox} has nothing =
    let empty : inbox.items ≡ [] = nothing_first inbox.items nothing in
    (empty, sym (has.parts ∙ ap (λ items. has.taken ++ items) empty ∙ append-nil has.taken))
