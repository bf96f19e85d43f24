-- The items that a stream has completed are received in turn.
use Rattle.rbg_base.proofs.Common.{◌≡◌, ℕ, List, [], ◌∷◌, ◌++◌, drop, refl, sym, ap, ◌∙◌, subst, Some, None, slice_get, append_assoc, flat_map, flat_map-append}
use Rattle.std.proofs.lemmas.List.{append-nil}
use Rattle.rbg_wire.proofs.Common.{AbstractMessage, spelling, Item, complete, Cut, cut, Stream, with_bytes, without_first}
use Rattle.rbg_wire.proofs.Items.{first_and_others, nothing_first}
use Rattle.rbg_player.specs.declared.error.PlayerError.{PlayerError}
use Rattle.rbg_player.specs.Players.{Stage, AbstractPlayer}
use Rattle.rbg_player.specs.Streams.{AcceptsAll, none, more, AcceptsPiece, HasItemFault, FailsIn, cut_of}
use Rattle.rbg_player.specs.internal.Stages.{AcceptsItem, IsReady}

-- From this stage on, with these items in the inbox and this rest after them, some items were taken and received.
pub record HasHeard (start : Stage) (from : Stream) (old : List ℕ) (stage : Stage) (inbox : Stream) (new : List ℕ) : Type 0 where
  pub taken : List Item
  pub parts : from.items ≡ taken ++ inbox.items
  pub same_rest : inbox.rest ≡ from.rest
  pub same_limit : inbox.limit ≡ from.limit
  pub outgoing : List AbstractMessage
  pub hears : AcceptsAll start taken stage outgoing
  pub told : new ≡ old ++ flat_map spelling outgoing

pub nothing_heard : (start : Stage) (from : Stream) (old : List ℕ) → HasHeard start from old start from old
nothing_heard start from old = record {
  taken = [];
  parts = refl;
  same_rest = refl;
  same_limit = refl;
  outgoing = [];
  hears = none;
  told = sym (append-nil old);
}

-- one more item is taken and received
pub one_heard : (start : Stage) (from : Stream) (old : List ℕ) (stage next : Stage) (inbox after : Stream) (middle new : List ℕ) (item : Item) → HasHeard start from old stage inbox middle → slice_get inbox.items 0 ≡ Some item → after ≡ without_first inbox → AcceptsItem stage item next middle new → HasHeard start from old next after new
one_heard start from old stage next inbox after middle new item has first loses heard =
    let first_is : inbox.items ≡ item ∷ drop 1 inbox.items = first_and_others inbox.items item first in
    record {
      taken = has.taken ++ complete heard.text ∷ [];
      parts = rw (loses, ← heard.is, append_assoc) (has.parts ∙ ap (λ items. has.taken ++ items) first_is);
      same_rest = rw loses has.same_rest;
      same_limit = rw loses has.same_limit;
      outgoing = has.outgoing ++ heard.hears.outgoing;
      hears = more has.hears heard.read heard.hears.hears;
      told = heard.hears.told ∙ (ap (λ bytes. bytes ++ flat_map spelling heard.hears.outgoing) has.told ∙ (append_assoc old (flat_map spelling has.outgoing) (flat_map spelling heard.hears.outgoing) ∙ ap (λ bytes. old ++ bytes) (sym (flat_map-append spelling has.outgoing heard.hears.outgoing))));
    }

-- the inbox of a player after a piece
pub fed_items : (player : AbstractPlayer) (inbox fed : Stream) (piece : List ℕ) → IsReady inbox → inbox.rest ≡ player.rest → fed ≡ with_bytes inbox piece → (fed.items ≡ (cut_of player piece).items) × (fed.rest ≡ (cut_of player piece).rest) × (fed.limit ≡ inbox.limit)
fed_items player inbox fed piece ready same is =
    let cut_is : cut inbox.limit inbox.rest piece ≡ cut_of player piece = λ i. cut (ready.limit i) (same i) piece in (
      ap (λ (s : Stream). s.items) is ∙ (ap (λ items. items ++ (cut inbox.limit inbox.rest piece).items) ready.empty ∙ ap (λ (c : Cut). c.items) cut_is),
      ap (λ (s : Stream). s.rest) is ∙ ap (λ (c : Cut). c.rest) cut_is,
      ap (λ (s : Stream). s.limit) is,
    )

-- nothing is left
pub all_heard : (player : AbstractPlayer) (old : List ℕ) (start inbox fed left : Stream) (piece : List ℕ) (stage : Stage) (new : List ℕ) → IsReady start → start.rest ≡ player.rest → fed ≡ with_bytes start piece → HasHeard player.stage fed old stage inbox new → slice_get inbox.items 0 ≡ None → left ≡ without_first inbox → AcceptsPiece player piece (record { stage = stage; rest = left.rest }) old new × IsReady left
all_heard player old start inbox fed left piece stage new ready same is has nothing loses =
    let fed_is = fed_items player start fed piece ready same is in
    let empty : inbox.items ≡ [] = nothing_first inbox.items nothing in
    let all : fed.items ≡ has.taken = has.parts ∙ (ap (λ items. has.taken ++ items) empty ∙ append-nil has.taken) in (
      record {
        outgoing = has.outgoing;
        heard = subst (λ items. AcceptsAll player.stage items stage has.outgoing) (sym all ∙ fed_is.0) has.hears;
        rest = ap (λ (s : Stream). s.rest) loses ∙ (has.same_rest ∙ fed_is.1);
        told = has.told;
      },
      record {
        limit = ap (λ (s : Stream). s.limit) loses ∙ (has.same_limit ∙ (fed_is.2 ∙ ready.limit));
        empty = ap (λ (s : Stream). s.items) loses ∙ ap (λ (items : List Item). drop 1 items) empty;
      },
    )

-- an item that was taken has a fault
pub fails_here : (player : AbstractPlayer) (old : List ℕ) (start inbox fed : Stream) (piece : List ℕ) (stage : Stage) (middle : List ℕ) (item : Item) (error : PlayerError) → IsReady start → start.rest ≡ player.rest → fed ≡ with_bytes start piece → HasHeard player.stage fed old stage inbox middle → slice_get inbox.items 0 ≡ Some item → HasItemFault stage item error → FailsIn player.stage (cut_of player piece).items error
fails_here player old start inbox fed piece stage middle item error ready same is has first fault =
    let fed_is = fed_items player start fed piece ready same is in
    record {
      before = has.taken;
      item = item;
      beyond = drop 1 inbox.items;
      parts = sym fed_is.0 ∙ (has.parts ∙ ap (λ items. has.taken ++ items) (first_and_others inbox.items item first));
      middle = stage;
      outgoing = has.outgoing;
      heard = has.hears;
      fault = fault;
    }
