use Rattle.h3_connection.specs.CallLists.Call.{Advance}
use Rattle.h3_faithful.proofs.Accounts.{MemoryMoves}
use Rattle.h3_faithful.proofs.AlikeFaultless.{AlikeLaws}
use Rattle.h3_faithful.proofs.AlikeRuns.{no_fault_alike}
use Rattle.h3_faithful.proofs.Joined.{until_fault}
use Rattle.h3_faithful.proofs.Runs.{RunLaws, runs_until_fault, stands_at_the_end}
use Rattle.h3_faithful.proofs.SoundSteps.{SoundLaws}
use Rattle.h3_faithful.proofs.laws.each_side_gets_what_the_other_sent.Goals as goal

sound_laws : goal.After-tunnels_stand_whatever_is_kept → SoundLaws
sound_laws c =
    record {
      each = c.each_step_keeps_worlds_sound.ensures.sound;
      at_once = c.a_side_gives_a_stream_up.ensures.at_once;
      behind = c.a_side_gives_a_stream_up.ensures.behind;
    }

moves : goal.After-tunnels_stand_whatever_is_kept → MemoryMoves
moves c =
    record {
      begins = c.each_step_moves_messages.ensures.begins;
      moves = c.each_step_moves_messages.ensures.moves;
      gone = c.each_step_moves_messages.ensures.gone;
      caught = c.each_step_moves_messages.ensures.caught;
      stays = c.each_step_moves_messages.ensures.stays;
      caught_as = c.each_step_moves_messages.ensures.caught_as;
      sound = sound_laws c;
    }

laws : goal.After-tunnels_stand_whatever_is_kept → RunLaws
laws c =
    record {
      steps = record {
        plainly = c.each_event_steps_plainly.ensures;
        does = c.ends_do_the_same_plainly.ensures;
        pulls = c.pulls_are_plain_or_give_a_message_up.ensures;
        made = c.new_ends_are_plain.ensures.made;
        judges = c.new_ends_are_plain.ensures.plain;
        steps_on = c.every_event_steps_on.ensures;
        happens = c.each_step_keeps_worlds_sound.ensures.happens;
        gives_up = c.ends_stand_once_a_stream_is_given_up.ensures;
      };
      moves = moves c;
      quiet = record {
        first = c.sides_that_judge_plainly_count_nothing.ensures.first;
        event = c.sides_that_judge_plainly_count_nothing.ensures.event;
        reads = c.sides_that_judge_plainly_count_nothing.ensures.reads;
        asked = c.sides_that_judge_plainly_count_nothing.ensures.asked;
        advances = c.sides_that_judge_plainly_count_nothing.ensures.advances;
        sends = c.sides_that_judge_plainly_count_nothing.ensures.sends;
      };
      new_plain = c.new_ends_are_plain.ensures.ends;
      runs = c.two_endpoints_run_with_memory.ensures;
    }

pub returns-clause-runs : goal.returns-clause-runs
returns-clause-runs c = λ setup events answers ends made sendable run. runs_until_fault (laws c) setup made events answers ends sendable run

pub returns-clause-stands : goal.returns-clause-stands
returns-clause-stands c = λ setup events answers ends made sendable run none. stands_at_the_end (laws c) setup made events answers ends sendable run none

alike_laws : goal.After-tunnels_stand_whatever_is_kept → AlikeLaws
alike_laws c =
    record {
      runs = laws c;
      kept = record {
        first = c.what_is_kept_is_read_in_order.ensures.first;
        none = c.what_is_kept_is_read_in_order.ensures.none;
        waits = c.what_is_kept_is_read_in_order.ensures.waits;
        settles = c.what_is_kept_is_read_in_order.ensures.settles;
        holds = c.tunnels_stand_whatever_is_kept.ensures.holds;
        reads = c.tunnels_stand_whatever_is_kept.ensures.reads;
      };
      bounds = record {
        made = c.ends_stay_bounded.ensures.made;
        kept = c.ends_stay_bounded.ensures.kept;
        few = c.ends_stay_bounded.ensures.few;
        part = c.tries_and_waiting_streams_are_bounded.ensures.part;
        advances = λ e id count bounded. c.tries_and_waiting_streams_are_bounded.ensures.call e (Advance id count) bounded;
        asked = c.tries_and_waiting_streams_are_bounded.ensures.asked;
      };
      parts = record { lacks = c.quiet_events_move_no_part.ensures.lacks; quiet = c.quiet_events_move_no_part.ensures.quiet };
    }

pub returns-clause-faithful : goal.returns-clause-faithful
returns-clause-faithful c = λ setup events answers ends made sendable run.
    record {
      until_fault = until_fault (moves c) c.ordered_sends_are_accepted.ensures.step c.with_all_delivered_pauses_are_at_the_end.ensures setup events answers sendable (runs_until_fault (laws c) setup made events answers ends sendable run);
      no_connection_fault = λ alike. no_fault_alike (alike_laws c) setup events answers ends made sendable run alike;
    }
