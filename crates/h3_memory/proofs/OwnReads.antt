-- Bytes of an own stream are read: how many of each stream came then, and what both sides wrote.
use Rattle.std.proofs.Common.{◌≡◌, ℕ, ◌+◌, ◌-◌, Bool, true, false, not, ◌&&◌, ◌||◌, [], length, drop, refl, sym, ap, ◌∙◌, subst, append-nil, arith, if◌then◌else◌}
use Rattle.std.specs.Prelude.{◌==◌}
use Rattle.std.proofs.lemmas.Grind.{common_steps}
use Rattle.h3_proto.specs.declared.stream.Side.{Side}
use Rattle.h3_proto.specs.declared.stream.Side.TheVariants.{Client, Server}
use Rattle.h3_connection.specs.Control.{increment}
use Rattle.h3_connection.specs.Endpoint.{Own}
use Rattle.h3_connection.specs.OwnIds.{other, is_own, control_id, encoder_id, decoder_id}
use Rattle.h3_connection.specs.Sending.{own_advanced}
use Rattle.h3_world.specs.Delivering.{delivered_own, is_closed}
use Rattle.h3_world.specs.Flow.{Flow}
use Rattle.h3_world.specs.Pulling.{own_delivered}
use Rattle.h3_world.specs.Setup.{Setup, announced_at}
use Rattle.h3_world.specs.Streams.{flow}
use Rattle.h3_world.specs.World.{World, Party, party}
use Rattle.h3_headline.specs.OwnEventLaws.{each_own}
use Rattle.h3_headline.specs.OwnStreams.{SameStreams, Writes, insertions_of, read_of, further_own}
use Rattle.h3_headline.specs.OwnWorldLaws.{writer_after, reader_after, streams_after, listened_writes}
use Rattle.h3_headline.specs.Standing.{are_settings_there}
use Rattle.h3_memory.specs.Kept.{Delivery, Bytes, End, Reset}
use Rattle.h3_memory.specs.Keeping.{came_of, with_count, with_closed}
use Rattle.h3_memory.specs.Writing.{WritesOn}
use Rattle.h3_memory.proofs.SameSent.{SameWritten, SameFlow, SameSent, advanced_same, same_flow}
use Rattle.h3_memory.proofs.Written.{OwnGrows, SameTaken, FlowGrows, SameMarks, nothing_sent, same_marks, grown_on}

-- how many bytes of each stream came, and which streams were closed, once it is read
abbrev pub came_after : (ℕ → ℕ) → Delivery → ℕ → ℕ
came_after came (Bytes id count) = with_count came id count
came_after came (End id) = came
came_after came (Reset id) = came

abbrev pub closed_after : (ℕ → Bool) → Delivery → ℕ → Bool
closed_after closed (Bytes id count) = closed
closed_after closed (End id) = with_closed closed id
closed_after closed (Reset id) = with_closed closed id

-- A delivery of the writer is read: its texts are the same.
pub record ReadsOne (setup : Setup) (w v : World) (writer : Side) (d : Delivery) : Type 0 where
  pub same : SameSent w v writer
  pub came : (i : ℕ) → came_of v writer i ≡ came_after (came_of w writer) d i
  pub closed : (i : ℕ) → is_closed v writer i ≡ closed_after (is_closed w writer) d i
  pub there : WritesOn setup w v (other writer)

-- an own stream got further
differ : (i n m : ℕ) → (n == m) ≡ false → (i == n) ≡ true → (i == m) ≡ true → ⊥
differ i n m off e f = grind (arith, common_steps, off, e, f)

own_came : (writer : Side) (o : Own) (id count i d : ℕ) → is_own writer id ≡ true
    → (if is_own writer i then (if i == control_id writer then (own_advanced o writer id count).control_taken else (if i == encoder_id writer then (own_advanced o writer id count).encoder_taken else (if i == decoder_id writer then (own_advanced o writer id count).decoder_taken else 0))) else d)
    ≡ (if i == id then (if is_own writer i then (if i == control_id writer then o.control_taken else (if i == encoder_id writer then o.encoder_taken else (if i == decoder_id writer then o.decoder_taken else 0))) else d) + count
    else (if is_own writer i then (if i == control_id writer then o.control_taken else (if i == encoder_id writer then o.encoder_taken else (if i == decoder_id writer then o.decoder_taken else 0))) else d))
own_came writer o id count i d own = each_own P writer id own (at_control writer) (at_encoder writer) (at_decoder writer)
  where
    P : ℕ → Type 0
    P n =
        (if is_own writer i then (if i == control_id writer then (own_advanced o writer n count).control_taken else (if i == encoder_id writer then (own_advanced o writer n count).encoder_taken else (if i == decoder_id writer then (own_advanced o writer n count).decoder_taken else 0))) else d)
        ≡ (if i == n then (if is_own writer i then (if i == control_id writer then o.control_taken else (if i == encoder_id writer then o.encoder_taken else (if i == decoder_id writer then o.decoder_taken else 0))) else d) + count
        else (if is_own writer i then (if i == control_id writer then o.control_taken else (if i == encoder_id writer then o.encoder_taken else (if i == decoder_id writer then o.decoder_taken else 0))) else d))

    At : Side → ℕ → Type 0
    At s n =
        (if is_own s i then (if i == control_id s then (own_advanced o s n count).control_taken else (if i == encoder_id s then (own_advanced o s n count).encoder_taken else (if i == decoder_id s then (own_advanced o s n count).decoder_taken else 0))) else d)
        ≡ (if i == n then (if is_own s i then (if i == control_id s then o.control_taken else (if i == encoder_id s then o.encoder_taken else (if i == decoder_id s then o.decoder_taken else 0))) else d) + count
        else (if is_own s i then (if i == control_id s then o.control_taken else (if i == encoder_id s then o.encoder_taken else (if i == decoder_id s then o.decoder_taken else 0))) else d))

    first : (a b c : Bool) (x y z : ℕ) → (if (a || b || c) then (if a then x + count else (if b then y else (if c then z else 0))) else d)
        ≡ (if a then (if (a || b || c) then (if a then x else (if b then y else (if c then z else 0))) else d) + count else (if (a || b || c) then (if a then x else (if b then y else (if c then z else 0))) else d))
    first true b c x y z = refl
    first false b c x y z = refl

    second : (a b c : Bool) (x y z : ℕ) → (a ≡ true → b ≡ true → ⊥) → (if (a || b || c) then (if a then x else (if b then y + count else (if c then z else 0))) else d)
        ≡ (if b then (if (a || b || c) then (if a then x else (if b then y else (if c then z else 0))) else d) + count else (if (a || b || c) then (if a then x else (if b then y else (if c then z else 0))) else d))
    second true true c x y z apart = absurd (apart refl refl)
    second true false c x y z apart = refl
    second false true c x y z apart = refl
    second false false c x y z apart = refl

    third : (a b c : Bool) (x y z : ℕ) → (a ≡ true → c ≡ true → ⊥) → (b ≡ true → c ≡ true → ⊥) → (if (a || b || c) then (if a then x else (if b then y else (if c then z + count else 0))) else d)
        ≡ (if c then (if (a || b || c) then (if a then x else (if b then y else (if c then z else 0))) else d) + count else (if (a || b || c) then (if a then x else (if b then y else (if c then z else 0))) else d))
    third true b true x y z apart other = absurd (apart refl refl)
    third true b false x y z apart other = refl
    third false true true x y z apart other = absurd (other refl refl)
    third false true false x y z apart other = refl
    third false false true x y z apart other = refl
    third false false false x y z apart other = refl

    at_control : (s : Side) → At s (control_id s)
    at_control Client = first (i == 2) (i == 6) (i == 10) o.control_taken o.encoder_taken o.decoder_taken
    at_control Server = first (i == 3) (i == 7) (i == 11) o.control_taken o.encoder_taken o.decoder_taken

    at_encoder : (s : Side) → At s (encoder_id s)
    at_encoder Client = second (i == 2) (i == 6) (i == 10) o.control_taken o.encoder_taken o.decoder_taken (differ i 2 6 refl)
    at_encoder Server = second (i == 3) (i == 7) (i == 11) o.control_taken o.encoder_taken o.decoder_taken (differ i 3 7 refl)

    at_decoder : (s : Side) → At s (decoder_id s)
    at_decoder Client = third (i == 2) (i == 6) (i == 10) o.control_taken o.encoder_taken o.decoder_taken (differ i 2 10 refl) (differ i 6 10 refl)
    at_decoder Server = third (i == 3) (i == 7) (i == 11) o.control_taken o.encoder_taken o.decoder_taken (differ i 3 11 refl) (differ i 7 11 refl)

-- a side that listens writes more, and as much of it was taken
record Listens (old new : Own) : Type 0 where
  grows : OwnGrows old new
  taken : SameTaken old new

listens : (old new : Own) (more : ℕ) → Writes old new more → Listens old new
listens old new more h =
    subst (Listens old) (sym h.is)
    (record {
      grows = record { goaways = []; goaways_are = sym (append-nil old.goaways); instructions = h.instructions; instructions_are = refl; replies = increment more; replies_are = refl };
      taken = record { control = refl; encoder = refl; decoder = refl };
    })

-- the parties of a world after that
record OwnRead (w v : World) (writer reader : Side) (id count : ℕ) : Type 0 where
  here : (party v writer).own ≡ own_advanced (party w writer).own writer id count
  there : Listens (party w reader).own (party v reader).own

own_read_by : (setup : Setup) (w : World) (side : Side) (id count : ℕ) → OwnRead w (delivered_own setup w (other side) id count) (other side) side id count
own_read_by setup w side id count =
    let writer = other side in
    let old = (party w writer).own in
    let new = further_own w side id count in
    record {
      here = ap (λ (p : Party). p.own) (writer_after setup w side id count);
      there = subst (λ (p : Party). Listens (party w side).own p.own) (sym (reader_after setup w side id count))
          (listens (party w side).own _ (insertions_of new - insertions_of old)
          (listened_writes (are_settings_there setup writer old.control_taken) (are_settings_there setup writer new.control_taken) (announced_at setup writer).limits (party w side) (insertions_of new - insertions_of old)
          (drop (length (read_of setup writer old)) (read_of setup writer new))));
    }

own_read : (setup : Setup) (w : World) (writer : Side) (id count : ℕ) → OwnRead w (delivered_own setup w writer id count) writer (other writer) id count
own_read setup w Client id count = own_read_by setup w Server id count
own_read setup w Server id count = own_read_by setup w Client id count

pub own_reads : (setup : Setup) (w : World) (writer : Side) (id count : ℕ) → is_own writer id ≡ true → ReadsOne setup w (delivered_own setup w writer id count) writer (Bytes id count)
own_reads setup w writer id count own =
    record {
      same = record {
        own = subst (SameWritten (party w writer).own) (sym read.here) (advanced_same (party w writer).own writer id count);
        flows = λ i. subst (SameFlow (flow w writer i)) (sym (streams.flows writer i)) (same_flow (flow w writer i));
        opens = streams.opens writer;
      };
      came = λ i.
          ap (λ (o : Own). if is_own writer i then (if i == control_id writer then o.control_taken else (if i == encoder_id writer then o.encoder_taken else (if i == decoder_id writer then o.decoder_taken else 0))) else (flow v writer i).delivered) read.here
          ∙ own_came writer (party w writer).own id count i (flow v writer i).delivered own
          ∙ ap (λ (f : Flow). with_count (λ j. came_at j f.delivered) id count i) (streams.flows writer i);
      closed = λ i. ap (λ (f : Flow). not (is_own writer i) && (f.ended || f.reset_came)) (streams.flows writer i);
      there = grown_on setup w v (other writer)
          (record {
            own = read.there.grows;
            flows = λ i. subst (FlowGrows (flow w (other writer) i)) (sym (streams.flows (other writer) i)) (nothing_sent (flow w (other writer) i));
            opened = λ i e. streams.opens (other writer) i ∙ e;
          })
          (record { taken = read.there.taken; marks = λ i. subst (SameMarks (flow w (other writer) i)) (sym (streams.flows (other writer) i)) (same_marks (flow w (other writer) i)) });
    }
  where
    v : World
    v = delivered_own setup w writer id count

    read : OwnRead w v writer (other writer) id count
    read = own_read setup w writer id count

    streams : SameStreams w v
    streams = streams_after setup w writer id count

    came_at : ℕ → ℕ → ℕ
    came_at i d = if is_own writer i then own_delivered w writer i else d
