-- A pull leaves what is kept readable.
use Rattle.std.proofs.Common.{◌≡◌, inr, ℕ, ◌+◌, Bool, true, false, not, List, [], ◌++◌, length, refl, sym, subst, append-nil, if◌then◌else◌, Option, Some, None, MatchOption}
use Rattle.std.specs.Prelude.{◌%◌, ◌==◌}
use Rattle.h3_proto.specs.StreamIds.{is_request_stream}
use Rattle.h3_proto.specs.declared.stream.Side.{Side}
use Rattle.h3_connection.specs.OwnIds.{other, control_id}
use Rattle.h3_connection.specs.declared.event.Item.{Item}
use Rattle.h3_connection.specs.declared.event.Item.TheVariants as item
use Rattle.h3_connection.specs.declared.event.Pull.{Pull}
use Rattle.h3_connection.specs.declared.event.Pull.TheVariants as pull
use Rattle.h3_connection.specs.Lists.{pull_of}
use Rattle.h3_world.specs.Setup.{Setup}
use Rattle.h3_world.specs.declared.event.Event.TheVariants as event
use Rattle.h3_world.specs.declared.event.Answer.{Answer}
use Rattle.h3_world.specs.declared.event.Answer.TheVariants as answer
use Rattle.h3_world.specs.Flow.{Flow, Part}
use Rattle.h3_world.specs.Flow.Part.{Interim, Head, Body, Trailer, End}
use Rattle.h3_world.specs.Items.{acknowledgment_of, after_item, after_piece, handed_out}
use Rattle.h3_world.specs.Order.{next_part, is_over}
use Rattle.h3_world.specs.Pauses.{paused}
use Rattle.h3_world.specs.Pulling.{PullsNext, fault_or, pull_unidirectional, pull_unopened, settled}
use Rattle.h3_world.specs.Step.{Step}
use Rattle.h3_world.specs.Streams.{flow, with_flow, is_open}
use Rattle.h3_world.specs.World.{World, Party, party, with_party}
use Rattle.h3_headline.specs.FlowLaws.{flow-with_party, open_there, there-with_party}
use Rattle.h3_headline.specs.Steps.{IsThere}
use Rattle.h3_memory.specs.Writing.{LeavesKept}
use Rattle.h3_memory.proofs.SameSent.{SameFlow, flow_same_grows}
use Rattle.h3_memory.proofs.Written.{SameMarks, unchanged, leaves_then}
use Rattle.h3_memory.proofs.WorldsWritten.{party_leaves, flow_leaves}

-- What is handed out changes nothing of what was sent or came.
pub record HandsOut (f g : Flow) : Type 0 where
  pub same : SameFlow f g
  pub marks : SameMarks f g
  pub seen : g.seen ≡ f.seen

piece_hands : (f : Flow) (bytes : List ℕ) (count : ℕ) → HandsOut f (after_piece f bytes count)
piece_hands f bytes count = by_test (f.body_out + count == length bytes)
  where
    by_test : (b : Bool) → HandsOut f (if b then record f { parts_out = f.parts_out + 1; body_out = 0; waits_for = 0 } else record f { body_out = f.body_out + count; waits_for = 0 })
    by_test true = record { same = record { sent = refl; reset = refl }; marks = record { delivered = refl; ended = refl; reset_came = refl }; seen = refl }
    by_test false = record { same = record { sent = refl; reset = refl }; marks = record { delivered = refl; ended = refl; reset_came = refl }; seen = refl }

next_hands : (f : Flow) → HandsOut f (record f { parts_out = f.parts_out + 1; waits_for = 0 })
next_hands f = record { same = record { sent = refl; reset = refl }; marks = record { delivered = refl; ended = refl; reset_came = refl }; seen = refl }

item_hands : (f : Flow) (part : Option Part) (i : Item) → HandsOut f (after_item f part i)
item_hands f (Some (Body bytes own)) (item.Body piece) = piece_hands f bytes (length piece)
item_hands f (Some (Body bytes own)) (item.Interim h) = next_hands f
item_hands f (Some (Body bytes own)) (item.Head h) = next_hands f
item_hands f (Some (Body bytes own)) (item.Trailer h) = next_hands f
item_hands f (Some (Body bytes own)) (item.TooLarge n) = next_hands f
item_hands f (Some (Body bytes own)) (item.Session n) = next_hands f
item_hands f (Some (Body bytes own)) (item.Raw b) = next_hands f
item_hands f (Some (Body bytes own)) item.End = next_hands f
item_hands f (Some (Interim s)) i = next_hands f
item_hands f (Some (Head s)) i = next_hands f
item_hands f (Some (Trailer s)) i = next_hands f
item_hands f (Some End) i = next_hands f
item_hands f None i = next_hands f

hands_leave : (setup : Setup) (w : World) (side : Side) (id : ℕ) (g : Flow) → IsThere w id → HandsOut (flow w side id) g → LeavesKept setup w (with_flow w side id g)
hands_leave setup w side id g there h = flow_leaves setup w side id g there (flow_same_grows (flow w side id) g h.same) h.marks (inr h.seen)

item_leaves : (setup : Setup) (w : World) (side : Side) (id : ℕ) (i : Item) → IsThere w id → LeavesKept setup w (handed_out w side id i)
item_leaves setup w side id i there =
    leaves_then setup w u (with_flow u (other side) id g)
    (party_leaves setup w side p (record {
      goaways = [];
      goaways_are = sym (append-nil (party w side).own.goaways);
      instructions = [];
      instructions_are = sym (append-nil (party w side).own.instructions);
      replies = acknowledgment_of id (next_part f);
      replies_are = refl;
    }) (record { control = refl; encoder = refl; decoder = refl }))
    (hands_leave setup u (other side) id g (there-with_party w side p id there) (subst (λ x. HandsOut x g) (sym (flow-with_party w side (other side) p id)) (item_hands f (next_part f) i)))
  where
    f : Flow
    f = flow w (other side) id

    g : Flow
    g = after_item f (next_part f) i

    p : Party
    p = record (party w side) { own = record (party w side).own { replies = (party w side).own.replies ++ acknowledgment_of id (next_part f) } }

    u : World
    u = with_party w side p

pause_leaves : (setup : Setup) (w : World) (side : Side) (id count : ℕ) → IsThere w id → LeavesKept setup w (paused w side id count)
pause_leaves setup w side id count there =
    let f = flow w (other side) id in
    let g : Flow = record f { waits_for = count } in
    hands_leave setup w (other side) id g there (record { same = record { sent = refl; reset = refl }; marks = record { delivered = refl; ended = refl; reset_came = refl }; seen = refl })

-- where a part is looked at the stream is open
unsettled_open : (w : World) (side : Side) (id : ℕ) → settled w side id ≡ None → is_open w side id ≡ true
unsettled_open w side id e = by_tests (id % 4 == control_id (other side)) (is_request_stream id) (is_open w side id) e
  where
    f : Flow
    f = flow w (other side) id

    by_tests : (a b c : Bool)
        → (if a then Some (pull_unidirectional w (other side) id) else (if not b then Some pull.NoMessages else (if not c then Some (pull_unopened side) else fault_or f.fault (if is_over f then Some (pull.Item item.End) else None)))) ≡ None
        → c ≡ true
    by_tests true b c k = absurd (cc)
    by_tests false false c k = absurd (cc)
    by_tests false true false k = absurd (cc)
    by_tests false true true k = refl

-- **A pull.**
pub pull_leaves : (setup : Setup) (w v : World) (side : Side) (id : ℕ) (a : Answer) → Step setup w (event.Pull side id) a v → LeavesKept setup w v
pull_leaves setup w v side id (answer.Pulled p) step = by_settled (settled w side id) refl step
  where
    next : (p : Pull) → IsThere w id → PullsNext setup w side id p v → LeavesKept setup w v
    next (pull.Item i) there step = subst (LeavesKept setup w) (sym step.1) (item_leaves setup w side id i there)
    next pull.Pending there step = subst (LeavesKept setup w) (sym step) (pause_leaves setup w side id 0 there)
    next (pull.Waiting count) there step = subst (LeavesKept setup w) (sym step) (pause_leaves setup w side id count there)
    next (pull.Fault fault) there step = absurd step
    next pull.NoMessages there step = absurd step

    by_settled : (o : Option Pull) → settled w side id ≡ o → MatchOption o (PullsNext setup w side id p v) (λ q. (p ≡ q) × (v ≡ w)) → LeavesKept setup w v
    by_settled (Some q) e step = subst (LeavesKept setup w) (sym step.1) (unchanged setup w)
    by_settled None e step = next p (open_there w side id (unsettled_open w side id e)) step
pull_leaves setup w v side id (answer.Opened x) step = absurd step
pull_leaves setup w v side id answer.Done step = absurd step
pull_leaves setup w v side id (answer.Delivered n) step = absurd step
pull_leaves setup w v side id (answer.Short n) step = absurd step
pull_leaves setup w v side id answer.NoStream step = absurd step
pull_leaves setup w v side id answer.Early step = absurd step
pull_leaves setup w v side id (answer.Shown limits sizes n) step = absurd step
pull_leaves setup w v side id (answer.Refused r) step = absurd step
pull_leaves setup w v side id (answer.Listed l) step = absurd step

-- **And one with lists.**
pub listed_leaves : (setup : Setup) (w v : World) (side : Side) (id : ℕ) (a : Answer) → Step setup w (event.PullFields side id) a v → LeavesKept setup w v
listed_leaves setup w v side id (answer.Listed l) step = pull_leaves setup w v side id (answer.Pulled (pull_of l)) step.0
listed_leaves setup w v side id (answer.Opened x) step = absurd step
listed_leaves setup w v side id answer.Done step = absurd step
listed_leaves setup w v side id (answer.Delivered n) step = absurd step
listed_leaves setup w v side id (answer.Short n) step = absurd step
listed_leaves setup w v side id answer.NoStream step = absurd step
listed_leaves setup w v side id answer.Early step = absurd step
listed_leaves setup w v side id (answer.Shown limits sizes n) step = absurd step
listed_leaves setup w v side id (answer.Refused r) step = absurd step
listed_leaves setup w v side id (answer.Pulled p) step = absurd step
