-- What a writer that got further leaves of what it handed over: its own streams, and its flows.
use Rattle.std.proofs.Common.{◌≡◌, ℕ, Bool, true, false, not, ◌&&◌, ◌||◌, List, [], ◌++◌, refl, sym, ap, ◌∙◌, append-nil, append_assoc, if◌then◌else◌}
use Rattle.std.specs.Prelude.{◌==◌, flat_map}
use Rattle.std.proofs.lemmas.Grind.{flat_map-append}
use Rattle.h3_coding.specs.Encodings.{encoding}
use Rattle.h3_field.specs.Instruction.{EncoderInstruction, DecoderInstruction, encoder_bytes, decoder_bytes}
use Rattle.h3_proto.specs.declared.stream.Side.{Side}
use Rattle.h3_proto.specs.declared.stream.Side.TheVariants.{Client, Server}
use Rattle.h3_connection.specs.Endpoint.{Own, goaway_encoding}
use Rattle.h3_connection.specs.OwnIds.{other, is_own, control_id, encoder_id, decoder_id}
use Rattle.h3_world.specs.Setup.{Setup, announced_at}
use Rattle.h3_world.specs.Flow.{Flow, flow_bytes}
use Rattle.h3_world.specs.Order.{is_finished}
use Rattle.h3_world.specs.OwnStreams.{control_stream, encoder_stream, decoder_stream, settings_bytes}
use Rattle.h3_world.specs.Streams.{flow, is_open}
use Rattle.h3_world.specs.World.{World, party}
use Rattle.h3_headline.specs.OwnEventLaws.{each_own}
use Rattle.h3_memory.specs.Keeping.{text_of}
use Rattle.h3_memory.specs.Writing.{WritesMore, WritesOn, LeavesKept}

-- a stream's text and how much of it came, by what the writer wrote
abbrev pub text_by : Setup → Side → ℕ → Own → Flow → List ℕ
text_by setup writer i o f =
    if i == control_id writer then settings_bytes (announced_at setup writer) ++ flat_map goaway_encoding o.goaways else (
    if i == encoder_id writer then encoding 2 ++ flat_map encoder_bytes o.instructions else (
    if i == decoder_id writer then encoding 3 ++ flat_map decoder_bytes o.replies else flow_bytes f))

abbrev came_by : Side → ℕ → Own → Flow → ℕ
came_by writer i o f =
    if is_own writer i then (if i == control_id writer then o.control_taken else (if i == encoder_id writer then o.encoder_taken else (if i == decoder_id writer then o.decoder_taken else 0))) else f.delivered

-- More was written on own streams.
pub record OwnGrows (old new : Own) : Type 0 where
  pub goaways : List ℕ
  pub goaways_are : new.goaways ≡ old.goaways ++ goaways
  pub instructions : List EncoderInstruction
  pub instructions_are : new.instructions ≡ old.instructions ++ instructions
  pub replies : List DecoderInstruction
  pub replies_are : new.replies ≡ old.replies ++ replies

pub nothing_written : (o : Own) → OwnGrows o o
nothing_written o =
    record { goaways = []; goaways_are = sym (append-nil o.goaways); instructions = []; instructions_are = sym (append-nil o.instructions); replies = []; replies_are = sym (append-nil o.replies) }

-- As much of them counts as delivered.
pub record SameTaken (old new : Own) : Type 0 where
  pub control : new.control_taken ≡ old.control_taken
  pub encoder : new.encoder_taken ≡ old.encoder_taken
  pub decoder : new.decoder_taken ≡ old.decoder_taken

pub same_taken : (o : Own) → SameTaken o o
same_taken o = record { control = refl; encoder = refl; decoder = refl }

-- More was sent on a stream.
pub record FlowGrows (f g : Flow) : Type 0 where
  pub piece : List ℕ
  pub bytes : flow_bytes g ≡ flow_bytes f ++ piece
  pub finished : is_finished f ≡ true → (is_finished g ≡ true) × (flow_bytes g ≡ flow_bytes f)
  pub reset : f.is_reset ≡ true → g.is_reset ≡ true

pub nothing_sent : (f : Flow) → FlowGrows f f
nothing_sent f = record { piece = []; bytes = sym (append-nil (flow_bytes f)); finished = λ e. (e, refl); reset = λ e. e }

-- As much of it counts as delivered.
pub record SameMarks (f g : Flow) : Type 0 where
  pub delivered : g.delivered ≡ f.delivered
  pub ended : g.ended ≡ f.ended
  pub reset_came : g.reset_came ≡ f.reset_came

pub same_marks : (f : Flow) → SameMarks f f
same_marks f = record { delivered = refl; ended = refl; reset_came = refl }

-- a text with more units
longer : {X : Type 0} (bytes_of : X → List ℕ) (front : List ℕ) (old new more : List X) → new ≡ old ++ more → front ++ flat_map bytes_of new ≡ (front ++ flat_map bytes_of old) ++ flat_map bytes_of more
longer bytes_of front old new more is =
    ap (λ l. front ++ flat_map bytes_of l) is ∙ ap (λ l. front ++ l) (flat_map-append bytes_of old more) ∙ sym (append_assoc front (flat_map bytes_of old) (flat_map bytes_of more))

text_more : (setup : Setup) (writer : Side) (i : ℕ) (o p : Own) (f g : Flow) (own : OwnGrows o p) (flows : FlowGrows f g)
    → text_by setup writer i p g ≡ text_by setup writer i o f
    ++ (if i == control_id writer then flat_map goaway_encoding own.goaways else (if i == encoder_id writer then flat_map encoder_bytes own.instructions else (if i == decoder_id writer then flat_map decoder_bytes own.replies else flows.piece)))
text_more setup writer i o p f g own flows = by_tests (i == control_id writer) (i == encoder_id writer) (i == decoder_id writer)
  where
    settings : List ℕ
    settings = settings_bytes (announced_at setup writer)

    by_tests : (a b c : Bool)
        → (if a then settings ++ flat_map goaway_encoding p.goaways else (if b then encoding 2 ++ flat_map encoder_bytes p.instructions else (if c then encoding 3 ++ flat_map decoder_bytes p.replies else flow_bytes g)))
        ≡ (if a then settings ++ flat_map goaway_encoding o.goaways else (if b then encoding 2 ++ flat_map encoder_bytes o.instructions else (if c then encoding 3 ++ flat_map decoder_bytes o.replies else flow_bytes f)))
        ++ (if a then flat_map goaway_encoding own.goaways else (if b then flat_map encoder_bytes own.instructions else (if c then flat_map decoder_bytes own.replies else flows.piece)))
    by_tests true b c = longer goaway_encoding settings o.goaways p.goaways own.goaways own.goaways_are
    by_tests false true c = longer encoder_bytes (encoding 2) o.instructions p.instructions own.instructions own.instructions_are
    by_tests false false true = longer decoder_bytes (encoding 3) o.replies p.replies own.replies own.replies_are
    by_tests false false false = flows.bytes

-- What is finished is no own stream.
own_unfinished : (w : World) (writer : Side) (id : ℕ) → is_own writer id ≡ true → is_finished (flow w writer id) ≡ false
own_unfinished w Client id own = each_own (λ i. is_finished (flow w Client i) ≡ false) Client id own refl refl refl
own_unfinished w Server id own = each_own (λ i. is_finished (flow w Server i) ≡ false) Server id own refl refl refl

finished_apart : (w : World) (writer : Side) (id : ℕ) → is_finished (flow w writer id) ≡ true → is_own writer id ≡ false
finished_apart w writer id finished = by_test (is_own writer id) refl
  where
    differ : (b : Bool) → b ≡ false → b ≡ true → ⊥
    differ true e f = cc
    differ false e f = cc

    by_test : (b : Bool) → is_own writer id ≡ b → b ≡ false
    by_test true e = absurd (differ (is_finished (flow w writer id)) (own_unfinished w writer id e) finished)
    by_test false e = refl

-- the text of a stream that is none of the own ones
pub message_text : (setup : Setup) (w : World) (writer : Side) (id : ℕ) → is_own writer id ≡ false → text_of setup w writer id ≡ flow_bytes (flow w writer id)
message_text setup w writer id off = by_tests (id == control_id writer) (id == encoder_id writer) (id == decoder_id writer) off
  where
    by_tests : (a b c : Bool) → (a || b || c) ≡ false
        → (if a then control_stream (announced_at setup writer) (party w writer) else (if b then encoder_stream (party w writer) else (if c then decoder_stream (party w writer) else flow_bytes (flow w writer id)))) ≡ flow_bytes (flow w writer id)
    by_tests true b c e = absurd (cc)
    by_tests false true c e = absurd (cc)
    by_tests false false true e = absurd (cc)
    by_tests false false false e = refl

-- **Own streams and flows got further at their writer, and no stream was shut.**
pub record Grown (w v : World) (writer : Side) : Type 0 where
  pub own : OwnGrows (party w writer).own (party v writer).own
  pub flows : (i : ℕ) → FlowGrows (flow w writer i) (flow v writer i)
  pub opened : (i : ℕ) → is_open w writer i ≡ true → is_open v writer i ≡ true

either : (a b c : Bool) → (b ≡ true → c ≡ true) → (a || b) ≡ true → (a || c) ≡ true
either true b c more h = refl
either false b c more h = more h

pub grown_writes : (setup : Setup) (w v : World) (writer : Side) → Grown w v writer → WritesMore setup w v writer
grown_writes setup w v writer h =
    record {
      outgoing = λ i e. either (is_own writer i) (is_open w writer i) (is_open v writer i) (h.opened i) e;
      opened = h.opened;
      more = λ i. if i == control_id writer then flat_map goaway_encoding h.own.goaways else (
          if i == encoder_id writer then flat_map encoder_bytes h.own.instructions else (if i == decoder_id writer then flat_map decoder_bytes h.own.replies else (h.flows i).piece));
      text = λ i. text_more setup writer i (party w writer).own (party v writer).own (flow w writer i) (flow v writer i) h.own (h.flows i);
      finished = λ i e.
          let f = (h.flows i).finished e in
          let off = finished_apart w writer i e in
          (f.0, message_text setup v writer i off ∙ f.1 ∙ sym (message_text setup w writer i off));
      reset = λ i e. (h.flows i).reset e;
    }

-- **And as much counts as delivered as before.**
pub record Marked (w v : World) (writer : Side) : Type 0 where
  pub taken : SameTaken (party w writer).own (party v writer).own
  pub marks : (i : ℕ) → SameMarks (flow w writer i) (flow v writer i)

same_came : (writer : Side) (i : ℕ) (o p : Own) (f g : Flow) → SameTaken o p → SameMarks f g → came_by writer i p g ≡ came_by writer i o f
same_came writer i o p f g taken marks = by_tests (is_own writer i) (i == control_id writer) (i == encoder_id writer) (i == decoder_id writer)
  where
    by_tests : (own a b c : Bool)
        → (if own then (if a then p.control_taken else (if b then p.encoder_taken else (if c then p.decoder_taken else 0))) else g.delivered)
        ≡ (if own then (if a then o.control_taken else (if b then o.encoder_taken else (if c then o.decoder_taken else 0))) else f.delivered)
    by_tests true true b c = taken.control
    by_tests true false true c = taken.encoder
    by_tests true false false true = taken.decoder
    by_tests true false false false = refl
    by_tests false a b c = marks.delivered

pub grown_on : (setup : Setup) (w v : World) (writer : Side) → Grown w v writer → Marked w v writer → WritesOn setup w v writer
grown_on setup w v writer grown marked =
    record {
      writes = grown_writes setup w v writer grown;
      came = λ i. same_came writer i (party w writer).own (party v writer).own (flow w writer i) (flow v writer i) marked.taken (marked.marks i);
      closed = λ i.
          ap (λ b. not (is_own writer i) && (b || (flow v writer i).reset_came)) (marked.marks i).ended
          ∙ ap (λ b. not (is_own writer i) && ((flow w writer i).ended || b)) (marked.marks i).reset_came;
    }

-- nothing changed
pub unchanged_on : (setup : Setup) (w : World) (writer : Side) → WritesOn setup w w writer
unchanged_on setup w writer =
    grown_on setup w w writer (record { own = nothing_written (party w writer).own; flows = λ i. nothing_sent (flow w writer i); opened = λ i e. e })
    (record { taken = same_taken (party w writer).own; marks = λ i. same_marks (flow w writer i) })

pub unchanged : (setup : Setup) (w : World) → LeavesKept setup w w
unchanged setup w = record { client = unchanged_on setup w Client; server = unchanged_on setup w Server }

-- one change behind the other
pub writes_then : (setup : Setup) (w u v : World) (writer : Side) → WritesMore setup w u writer → WritesMore setup u v writer → WritesMore setup w v writer
writes_then setup w u v writer first later =
    record {
      outgoing = λ i e. later.outgoing i (first.outgoing i e);
      opened = λ i e. later.opened i (first.opened i e);
      more = λ i. first.more i ++ later.more i;
      text = λ i. later.text i ∙ ap (λ l. l ++ later.more i) (first.text i) ∙ append_assoc (text_of setup w writer i) (first.more i) (later.more i);
      finished = λ i e.
          let f = first.finished i e in
          let g = later.finished i f.0 in
          (g.0, g.1 ∙ f.1);
      reset = λ i e. later.reset i (first.reset i e);
    }

pub on_then : (setup : Setup) (w u v : World) (writer : Side) → WritesOn setup w u writer → WritesOn setup u v writer → WritesOn setup w v writer
on_then setup w u v writer first later =
    record {
      writes = writes_then setup w u v writer first.writes later.writes;
      came = λ i. later.came i ∙ first.came i;
      closed = λ i. later.closed i ∙ first.closed i;
    }

pub leaves_then : (setup : Setup) (w u v : World) → LeavesKept setup w u → LeavesKept setup u v → LeavesKept setup w v
leaves_then setup w u v first later = record { client = on_then setup w u v Client first.client later.client; server = on_then setup w u v Server first.server later.server }

-- by the side and the other one
pub leaves_both : (setup : Setup) (w v : World) (side : Side) → WritesOn setup w v side → WritesOn setup w v (other side) → LeavesKept setup w v
leaves_both setup w v Client here there = record { client = here; server = there }
leaves_both setup w v Server here there = record { client = there; server = here }

pub leaves_at : (setup : Setup) (w v : World) (side : Side) → LeavesKept setup w v → WritesOn setup w v side
leaves_at setup w v Client h = h.client
leaves_at setup w v Server h = h.server
