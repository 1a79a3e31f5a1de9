-- What a writer wrote is the same in two worlds.
use Rattle.std.proofs.Common.{◌≡◌, ℕ, ◌+◌, Bool, true, false, [], ◌∷◌, ◌++◌, refl, sym, ap, ◌∙◌, subst, append-nil, if◌then◌else◌, Some}
use Rattle.std.specs.Prelude.{◌==◌, flat_map}
use Rattle.h3_field.specs.Instruction.DecoderInstruction.{CancelStream}
use Rattle.h3_proto.specs.declared.stream.Side.{Side}
use Rattle.h3_proto.specs.declared.stream.Side.TheVariants.{Client, Server}
use Rattle.h3_connection.specs.Endpoint.{Own}
use Rattle.h3_connection.specs.OwnIds.{other, control_id, encoder_id, decoder_id}
use Rattle.h3_connection.specs.Sending.{own_advanced}
use Rattle.h3_connection.specs.declared.event.StreamFault.{StreamFault}
use Rattle.h3_world.specs.Setup.{Setup}
use Rattle.h3_world.specs.Flow.{Flow, part_bytes, flow_bytes}
use Rattle.h3_world.specs.Order.{is_finished}
use Rattle.h3_world.specs.Sending.{given_up}
use Rattle.h3_world.specs.Streams.{flow, with_flow, is_open}
use Rattle.h3_world.specs.World.{World, Party, party, with_party}
use Rattle.h3_headline.specs.FlowLaws.{flow-with_party, party-with_flow, is_open-own, is_open-with_party, there-with_party, other-other}
use Rattle.h3_headline.specs.Steps.{IsThere}
use Rattle.h3_memory.specs.Keeping.{text_of}
use Rattle.h3_memory.specs.Writing.{WritesMore}
use Rattle.h3_memory.proofs.Written.{FlowGrows, grown_writes, text_by}
use Rattle.h3_memory.proofs.WorldsWritten.{each_flow}

-- on its own streams
pub record SameWritten (old new : Own) : Type 0 where
  pub goaways : new.goaways ≡ old.goaways
  pub instructions : new.instructions ≡ old.instructions
  pub replies : new.replies ≡ old.replies

pub same_written : (o : Own) → SameWritten o o
same_written o = record { goaways = refl; instructions = refl; replies = refl }

pub advanced_same : (o : Own) (side : Side) (id count : ℕ) → SameWritten o (own_advanced o side id count)
advanced_same o side id count = by_tests (id == control_id side) (id == encoder_id side) (id == decoder_id side)
  where
    by_tests : (a b c : Bool)
        → SameWritten o (if a then record o { control_taken = o.control_taken + count } else (if b then record o { encoder_taken = o.encoder_taken + count } else (if c then record o { decoder_taken = o.decoder_taken + count } else o)))
    by_tests true b c = record { goaways = refl; instructions = refl; replies = refl }
    by_tests false true c = record { goaways = refl; instructions = refl; replies = refl }
    by_tests false false true = record { goaways = refl; instructions = refl; replies = refl }
    by_tests false false false = same_written o

-- on a request stream
pub record SameFlow (f g : Flow) : Type 0 where
  pub sent : g.sent ≡ f.sent
  pub reset : g.is_reset ≡ f.is_reset

pub same_flow : (f : Flow) → SameFlow f f
same_flow f = record { sent = refl; reset = refl }

pub same_finished : (f g : Flow) → SameFlow f g → is_finished g ≡ is_finished f
same_finished f g h = ap (λ r. is_finished (record g { is_reset = r })) h.reset ∙ ap (λ s. is_finished (record f { sent = s })) h.sent

pub record SameSent (w v : World) (writer : Side) : Type 0 where
  pub own : SameWritten (party w writer).own (party v writer).own
  pub flows : (i : ℕ) → SameFlow (flow w writer i) (flow v writer i)
  pub opens : (i : ℕ) → is_open v writer i ≡ is_open w writer i

pub same_itself : (w : World) (writer : Side) → SameSent w w writer
same_itself w writer = record { own = same_written (party w writer).own; flows = λ i. same_flow (flow w writer i); opens = λ i. refl }

pub same_then : (w u v : World) (writer : Side) → SameSent w u writer → SameSent u v writer → SameSent w v writer
same_then w u v writer first later =
    record {
      own = record { goaways = later.own.goaways ∙ first.own.goaways; instructions = later.own.instructions ∙ first.own.instructions; replies = later.own.replies ∙ first.own.replies };
      flows = λ i. record { sent = (later.flows i).sent ∙ (first.flows i).sent; reset = (later.flows i).reset ∙ (first.flows i).reset };
      opens = λ i. later.opens i ∙ first.opens i;
    }

pub same_with_flow : (w : World) (writer : Side) (id : ℕ) (g : Flow) → IsThere w id → SameFlow (flow w writer id) g → SameSent w (with_flow w writer id g) writer
same_with_flow w writer id g there h =
    record {
      own = subst (λ q. SameWritten (party w writer).own q.own) (sym (party-with_flow w writer writer id g)) (same_written (party w writer).own);
      flows = each_flow SameFlow same_flow w writer id g there h;
      opens = λ i. is_open-own w writer id i g there;
    }

-- where the other side's party changes
same_with_other : (w : World) (writer : Side) (p : Party) → SameSent w (with_party w (other writer) p) writer
same_with_other w writer p =
    record {
      own = own writer;
      flows = λ i. subst (SameFlow (flow w writer i)) (sym (flow-with_party w (other writer) writer p i)) (same_flow (flow w writer i));
      opens = λ i. is_open-with_party w (other writer) writer p i;
    }
  where
    own : (s : Side) → SameWritten (party w s).own (party (with_party w (other s) p) s).own
    own Client = same_written w.client.own
    own Server = same_written w.server.own

-- A receiver gives a stream up: its sender sent the same.
pub same_given_up : (w : World) (writer : Side) (id : ℕ) (fault : StreamFault) → IsThere w id → SameSent w (given_up w (other writer) id fault) writer
same_given_up w writer id fault there =
    subst (λ s. SameSent w (with_flow u s id (record (flow w s id) { fault = Some fault; waits_for = 0 })) writer) (sym (other-other writer))
    (same_then w u (with_flow u writer id (record (flow w writer id) { fault = Some fault; waits_for = 0 })) writer (same_with_other w writer p)
    (same_with_flow u writer id (record (flow w writer id) { fault = Some fault; waits_for = 0 }) (there-with_party w (other writer) p id there)
    (subst (λ f. SameFlow f (record (flow w writer id) { fault = Some fault; waits_for = 0 })) (sym (flow-with_party w (other writer) writer p id)) (record { sent = refl; reset = refl }))))
  where
    p : Party
    p = record (party w (other writer)) { own = record (party w (other writer)).own { replies = (party w (other writer)).own.replies ++ CancelStream id ∷ [] } }

    u : World
    u = with_party w (other writer) p

-- **So its texts are the same, and what it finished.**
pub same_text : (setup : Setup) (w v : World) (writer : Side) → SameSent w v writer → (i : ℕ) → text_of setup v writer i ≡ text_of setup w writer i
same_text setup w v writer h i =
    ap (λ l. text_by setup writer i (record (party v writer).own { goaways = l }) (flow v writer i)) h.own.goaways
    ∙ ap (λ l. text_by setup writer i (record (party v writer).own { goaways = (party w writer).own.goaways; instructions = l }) (flow v writer i)) h.own.instructions
    ∙ ap (λ l. text_by setup writer i (record (party w writer).own { replies = l }) (flow v writer i)) h.own.replies
    ∙ ap (λ l. text_by setup writer i (party w writer).own (record (flow v writer i) { sent = l })) (h.flows i).sent

pub flow_same_grows : (f g : Flow) → SameFlow f g → FlowGrows f g
flow_same_grows f g h =
    record {
      piece = [];
      bytes = ap (flat_map part_bytes) h.sent ∙ sym (append-nil (flow_bytes f));
      finished = λ e. (same_finished f g h ∙ e, ap (flat_map part_bytes) h.sent);
      reset = λ e. h.reset ∙ e;
    }

pub same_writes : (setup : Setup) (w v : World) (writer : Side) → SameSent w v writer → WritesMore setup w v writer
same_writes setup w v writer h =
    grown_writes setup w v writer (record {
      own = record {
        goaways = [];
        goaways_are = h.own.goaways ∙ sym (append-nil (party w writer).own.goaways);
        instructions = [];
        instructions_are = h.own.instructions ∙ sym (append-nil (party w writer).own.instructions);
        replies = [];
        replies_are = h.own.replies ∙ sym (append-nil (party w writer).own.replies);
      };
      flows = λ i. flow_same_grows (flow w writer i) (flow v writer i) (h.flows i);
      opened = λ i e. h.opens i ∙ e;
    })
