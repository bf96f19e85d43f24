-- The definitions of this crate that most proofs cite, passed on from one place. Declares nothing.
pub use Rattle.rbg_match.specs.Config.{IsWithinLimits}
pub use Rattle.rbg_match.specs.Deliveries.{AreMarks, Delivery, bytes_for, delivered, delivered_from, queued, to_each, to_others, to_seat}
pub use Rattle.rbg_match.specs.Handling.{AbstractInput, Handles, HandlesInTime, Judges, Refuses, after_end, gone, heavy, illegal, in_time, legal, overdue, sent, spent, tick}
pub use Rattle.rbg_match.specs.History.{FitsOutcome, HasTurn, HasTurnSince, IsHistory, IsInTurn, LeadsTo, MadeInTurn, start_place}
pub use Rattle.rbg_match.specs.Inputs.{Streams, TimedInput, counted, counted_first, cut_of, has_seat, inputs_at, inputs_in, rest_of, rests_after, streams_after, streams_at_start, timed_inputs_in, timed_inputs_of}
pub use Rattle.rbg_script.specs.Events.{AbstractEvent, end_of_stream, event_of, moment_alone, moment_of, piece}
pub use Rattle.rbg_match.specs.Laws.{AreAlike, Cutting, EndedMatchStays, EndedPlayStays, HaveOneKeeper, IsHeavyEnd, OneTranscript, OneUntilHeavy, SteppedIsTranscript, StopsWithin, TickAtStart, TickAfter, TranscriptHasHistory, equal, keeper_pairs, keeper_run, one_stops, other_stops}
pub use Rattle.rbg_match.specs.Limits.{latest_moment, message_limit, most_refusals}
pub use Rattle.rbg_match.specs.Matches.{HasHistory, MatchState, Opens, Steps, StepsAll, more}
pub use Rattle.rbg_match.specs.Play.{AbstractPlay, due_of, ended, moved, mover_of, play_at_start, refusals_of, refused, turn_begun}
pub use Rattle.rbg_match.specs.PlayingOn.{MayBeAsked, PlaysOn, keeper, seats_of}
pub use Rattle.rbg_match.specs.Transcript.{HandlesAll, InputTranscript, Transcript, greeting, greetings, none}
pub use Rattle.rbg_match.specs.declared.config.Config.{Config}
pub use Rattle.rbg_match.specs.declared.made.Made.{Made}
pub use Rattle.rbg_match.specs.declared.turns.Progress.TheVariants.{KeeperMoved, Settled}
pub use Rattle.rbg_match.specs.internal.Inboxes.{AreNew, rests_of}
pub use Rattle.rbg_match.specs.internal.Opening.{match_begun, referee_at_start}
pub use Rattle.rbg_match.specs.internal.PlayOf.{play_of}
pub use Rattle.rbg_match.specs.internal.Playable.{IsPlayOf}
pub use Rattle.rbg_match.specs.internal.Replies.{HandlesNow, IsReferee, PlaysOnOnce, RefereeState, Replies, Reply, gone_on}
pub use Rattle.rbg_match.specs.internal.Saying.{QueuesMessages}
